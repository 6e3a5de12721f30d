-- The text of a refusal's detail: each value after a space, and nothing if there are no values.
use Rattle.std.specs.Prelude.{ℕ, List, [], ◌++◌, codes}
use Rattle.std.specs.Fmt.{decimal, signed_decimal}
use Rattle.hex.specs.Hex.{encode_lower}
use Rattle.pme_base.specs.declared.refusal.StructName.{StructName}
use Rattle.pme_base.specs.declared.refusal.StructName.TheVariants.{FileCryptoMetaData, EncryptionAlgorithm, AesGcm, FileMetaData, SchemaElement, RowGroup, ColumnChunk, ColumnCryptoMetaData, EncryptionWithColumnKey, ColumnMetaData, PageHeader, DataPageHeader, DictionaryPageHeader, OffsetIndex, PageLocation, ColumnIndex}
use Rattle.pme_base.specs.declared.refusal.ThriftFault.{ThriftFault}
use Rattle.pme_base.specs.declared.refusal.ThriftFault.TheVariants.{End, WrongType, Varint, Range, Repeated, Depth}
use Rattle.pme_base.specs.declared.refusal.PagePart.{PagePart}
use Rattle.pme_base.specs.declared.refusal.PagePart.TheVariants.{Levels, Values, Dictionary}
use Rattle.pme_base.specs.declared.refusal.ItemWord.{ItemWord}
use Rattle.pme_base.specs.declared.refusal.ItemWord.TheVariants as item
use Rattle.pme_base.specs.declared.refusal.Detail.{Detail}
use Rattle.pme_base.specs.declared.refusal.Detail.TheVariants.{Nothing, Pair, Signed, Tags, Field, Thrift, Part, Nonce, Name, Names, Hexes, Item, Entry}

abbrev pub struct_word : StructName → List ℕ
struct_word FileCryptoMetaData = codes "FileCryptoMetaData"
struct_word EncryptionAlgorithm = codes "EncryptionAlgorithm"
struct_word AesGcm = codes "AesGcm"
struct_word FileMetaData = codes "FileMetaData"
struct_word SchemaElement = codes "SchemaElement"
struct_word RowGroup = codes "RowGroup"
struct_word ColumnChunk = codes "ColumnChunk"
struct_word ColumnCryptoMetaData = codes "ColumnCryptoMetaData"
struct_word EncryptionWithColumnKey = codes "EncryptionWithColumnKey"
struct_word ColumnMetaData = codes "ColumnMetaData"
struct_word PageHeader = codes "PageHeader"
struct_word DataPageHeader = codes "DataPageHeader"
struct_word DictionaryPageHeader = codes "DictionaryPageHeader"
struct_word OffsetIndex = codes "OffsetIndex"
struct_word PageLocation = codes "PageLocation"
struct_word ColumnIndex = codes "ColumnIndex"

abbrev pub fault_word : ThriftFault → List ℕ
fault_word End = codes "end"
fault_word WrongType = codes "type"
fault_word Varint = codes "varint"
fault_word Range = codes "range"
fault_word Repeated = codes "repeated"
fault_word Depth = codes "depth"

abbrev pub part_word : PagePart → List ℕ
part_word Levels = codes "levels"
part_word Values = codes "values"
part_word Dictionary = codes "dictionary"

abbrev pub item_word : ItemWord → List ℕ
item_word item.Json = codes "json"
item_word item.Ring = codes "ring"
item_word item.Keys = codes "keys"
item_word item.Id = codes "id"
item_word item.Version = codes "version"
item_word item.Key = codes "key"
item_word item.Repeated = codes "repeated"
item_word item.Given = codes "given"
item_word item.GivenId = codes "given-id"
item_word item.GivenVersion = codes "given-version"
item_word item.GivenRepeated = codes "given-repeated"

-- one value, or two values, each after a space
abbrev pub spaced : List ℕ → List ℕ
spaced word = codes " " ++ word

abbrev pub spaced_pair : List ℕ → List ℕ → List ℕ
spaced_pair first second = codes " " ++ first ++ codes " " ++ second

-- the text of a detail
abbrev pub detail_text : Detail → List ℕ
detail_text Nothing = []
detail_text (Pair first second) = spaced_pair (decimal first) (decimal second)
detail_text (Signed found wanted) = spaced_pair (signed_decimal found) (signed_decimal wanted)
detail_text (Tags expected stored) = spaced_pair (encode_lower expected) (encode_lower stored)
detail_text (Field name number) = spaced (struct_word name ++ codes "." ++ signed_decimal number)
detail_text (Thrift fault) = spaced (fault_word fault)
detail_text (Part part number) = spaced_pair (part_word part) (decimal number)
detail_text (Nonce nonce) = spaced (encode_lower nonce)
detail_text (Name name) = spaced name
detail_text (Names first second) = spaced_pair first second
detail_text (Hexes first second) = spaced_pair (encode_lower first) (encode_lower second)
detail_text (Item entry word) = spaced_pair (decimal entry) (item_word word)
detail_text (Entry row field) = spaced_pair (decimal row) (decimal field)
