-- The table of causes: the exit status of the program, the name, and the form of the line.
use Rattle.std.specs.Prelude.{ℕ, List, codes}
use Rattle.pme_base.specs.declared.refusal.Cause.{Cause}
use Rattle.pme_base.specs.declared.refusal.Cause.TheVariants.{Truncated, BadLength, BadTag, BadThrift, MissingField, BadField, BadMagic, BadFooterLength, NotEncrypted, PrefixNeeded, PrefixUnused, PrefixDiffers, FooterKeyMissing, AlgorithmRefused, Unsupported, Mismatch, BadPage, Hidden, NoSuchColumn, BadMaterial, NoMaterial, WrapTag, KeyLength, NotExternal, Denied, ServiceFault, BadPolicy, FileExists, NonceRepeated, BadTable, BadRing, BadKeys, TooLarge, NoFile, ReadFault, WriteFault, RandomFault, Usage, OutOfMemory}
use Rattle.refusal_lines.specs.declared.cause_table.LineForm.{LineForm}
use Rattle.refusal_lines.specs.declared.cause_table.LineForm.TheVariants.{Place, File, Bare}

abbrev pub status_number : Cause → ℕ
status_number Truncated = 1
status_number BadLength = 2
status_number BadTag = 3
status_number BadThrift = 4
status_number MissingField = 5
status_number BadField = 6
status_number BadMagic = 7
status_number BadFooterLength = 8
status_number NotEncrypted = 9
status_number PrefixNeeded = 10
status_number PrefixUnused = 11
status_number PrefixDiffers = 12
status_number FooterKeyMissing = 13
status_number AlgorithmRefused = 14
status_number Unsupported = 15
status_number Mismatch = 16
status_number BadPage = 17
status_number Hidden = 18
status_number NoSuchColumn = 19
status_number BadMaterial = 20
status_number NoMaterial = 21
status_number WrapTag = 22
status_number KeyLength = 23
status_number NotExternal = 24
status_number Denied = 25
status_number ServiceFault = 26
status_number BadPolicy = 31
status_number FileExists = 32
status_number NonceRepeated = 33
status_number BadTable = 40
status_number BadRing = 42
status_number BadKeys = 43
status_number TooLarge = 50
status_number NoFile = 60
status_number ReadFault = 61
status_number WriteFault = 62
status_number RandomFault = 63
status_number Usage = 64
status_number OutOfMemory = 70

abbrev pub cause_name : Cause → List ℕ
cause_name Truncated = codes "Truncated"
cause_name BadLength = codes "BadLength"
cause_name BadTag = codes "BadTag"
cause_name BadThrift = codes "BadThrift"
cause_name MissingField = codes "MissingField"
cause_name BadField = codes "BadField"
cause_name BadMagic = codes "BadMagic"
cause_name BadFooterLength = codes "BadFooterLength"
cause_name NotEncrypted = codes "NotEncrypted"
cause_name PrefixNeeded = codes "PrefixNeeded"
cause_name PrefixUnused = codes "PrefixUnused"
cause_name PrefixDiffers = codes "PrefixDiffers"
cause_name FooterKeyMissing = codes "FooterKeyMissing"
cause_name AlgorithmRefused = codes "AlgorithmRefused"
cause_name Unsupported = codes "Unsupported"
cause_name Mismatch = codes "Mismatch"
cause_name BadPage = codes "BadPage"
cause_name Hidden = codes "Hidden"
cause_name NoSuchColumn = codes "NoSuchColumn"
cause_name BadMaterial = codes "BadMaterial"
cause_name NoMaterial = codes "NoMaterial"
cause_name WrapTag = codes "WrapTag"
cause_name KeyLength = codes "KeyLength"
cause_name NotExternal = codes "NotExternal"
cause_name Denied = codes "Denied"
cause_name ServiceFault = codes "ServiceFault"
cause_name BadPolicy = codes "BadPolicy"
cause_name FileExists = codes "FileExists"
cause_name NonceRepeated = codes "NonceRepeated"
cause_name BadTable = codes "BadTable"
cause_name BadRing = codes "BadRing"
cause_name BadKeys = codes "BadKeys"
cause_name TooLarge = codes "TooLarge"
cause_name NoFile = codes "NoFile"
cause_name ReadFault = codes "ReadFault"
cause_name WriteFault = codes "WriteFault"
cause_name RandomFault = codes "RandomFault"
cause_name Usage = codes "Usage"
cause_name OutOfMemory = codes "OutOfMemory"

-- the form of the line: `Place` for file, place, offset and values, `File` for file and values, `Bare` for the cause alone
abbrev pub line_form : Cause → LineForm
line_form Truncated = Place
line_form BadLength = Place
line_form BadTag = Place
line_form BadThrift = Place
line_form MissingField = Place
line_form BadField = Place
line_form BadMagic = Place
line_form BadFooterLength = Place
line_form NotEncrypted = File
line_form PrefixNeeded = File
line_form PrefixUnused = File
line_form PrefixDiffers = File
line_form FooterKeyMissing = File
line_form AlgorithmRefused = File
line_form Unsupported = Place
line_form Mismatch = Place
line_form BadPage = Place
line_form Hidden = File
line_form NoSuchColumn = File
line_form BadMaterial = Place
line_form NoMaterial = Place
line_form WrapTag = Place
line_form KeyLength = Place
line_form NotExternal = File
line_form Denied = File
line_form ServiceFault = Bare
line_form BadPolicy = File
line_form FileExists = File
line_form NonceRepeated = File
line_form BadTable = File
line_form BadRing = File
line_form BadKeys = File
line_form TooLarge = Place
line_form NoFile = File
line_form ReadFault = Bare
line_form WriteFault = Bare
line_form RandomFault = Bare
line_form Usage = Bare
line_form OutOfMemory = Bare
