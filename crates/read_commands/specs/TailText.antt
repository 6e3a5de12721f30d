-- The text of a file's tail: the footer's mode, the algorithm, the file's own part of the associated data, the prefix
-- and its origin, the columns, and the numbers of row groups and rows.
use Rattle.std.specs.Prelude.{ℕ, ℤ, Bool, true, false, List, [], ◌∷◌, ◌++◌, length, codes, Option, Some, None, decimal}
use Rattle.std.specs.Fmt.{signed_decimal}
use Rattle.hex.specs.Hex.{encode_lower}
use Rattle.parquet_types.specs.declared.column.ColumnSpec.{ColumnSpec}
use Rattle.table_text.specs.Texts.{heading_text}
use Rattle.footer_modes.specs.declared.mode.FooterMode.{FooterMode}
use Rattle.footer_modes.specs.declared.mode.FooterMode.TheVariants.{Encrypted, Signed, Unencrypted}
use Rattle.footer_modes.specs.declared.tail.Tail.{Tail}
use Rattle.footer_modes.specs.declared.tail.Protection.{Protection}
use Rattle.parquet_types.specs.declared.file_meta.AlgorithmMeta.{AlgorithmMeta}

-- a line of a name and its value
abbrev pub line_of : List ℕ → List ℕ → List ℕ
line_of name value = name ++ (value ++ 10 ∷ [])

abbrev pub mode_word : FooterMode → List ℕ
mode_word Encrypted = codes "encrypted"
mode_word Signed = codes "signed"
mode_word Unencrypted = codes "unencrypted"

-- the algorithm's name
abbrev pub algorithm_name : Bool → List ℕ
algorithm_name true = codes "AES_GCM_CTR_V1"
algorithm_name false = codes "AES_GCM_V1"

-- the line about the prefix: the one that the file stores; or the supplied one, if the file asks for it; or none
abbrev pub unstored_words : Bool → Option (List ℕ) → List ℕ
unstored_words true (Some supplied) = codes "supplied " ++ encode_lower supplied
unstored_words true None = codes "none"
unstored_words false supplied = codes "none"

abbrev pub prefix_words : Option (List ℕ) → Bool → Option (List ℕ) → List ℕ
prefix_words (Some stored) supply supplied = codes "stored " ++ encode_lower stored
prefix_words None supply supplied = unstored_words supply supplied

abbrev pub column_lines : List ColumnSpec → List ℕ
column_lines [] = []
column_lines (column ∷ rest) = line_of (codes "column ") (heading_text column) ++ column_lines rest

abbrev pub count_line : ℕ → ℤ → List ℕ
count_line groups rows = codes "groups " ++ (decimal groups ++ (codes " rows " ++ (signed_decimal rows ++ 10 ∷ [])))

-- the algorithm, the file's part of the associated data, and the prefix
abbrev pub algorithm_lines : AlgorithmMeta → Option (List ℕ) → List ℕ
algorithm_lines algorithm supplied =
    line_of (codes "algorithm ") (algorithm_name algorithm.ctr)
    ++ (line_of (codes "unique ") (encode_lower algorithm.unique)
    ++ line_of (codes "prefix ") (prefix_words algorithm.prefix algorithm.supply supplied))

-- an unencrypted footer has none of these
abbrev pub protection_lines : Option Protection → Option (List ℕ) → List ℕ
protection_lines None supplied = []
protection_lines (Some protection) supplied = algorithm_lines protection.algorithm supplied

-- the text of a tail that was read with this supplied prefix, or without one
abbrev pub tail_text : Tail → Option (List ℕ) → List ℕ
tail_text tail supplied =
    line_of (codes "mode ") (mode_word tail.mode)
    ++ (protection_lines tail.protection supplied
    ++ (column_lines tail.footer.schema ++ count_line (length tail.footer.groups) tail.footer.num_rows))
