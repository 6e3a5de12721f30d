-- The kinds of values and the type codes that the compact protocol gives them.
use Rattle.std.specs.Prelude.{ℕ, ◌==◌, if◌then◌else◌, Option, Some, None}
use Rattle.thrift_compact.specs.declared.kind.TKind.{TKind}
use Rattle.thrift_compact.specs.declared.kind.TKind.TheVariants as kind

-- the type code of a kind
abbrev pub code : TKind → ℕ
code kind.True = 1
code kind.False = 2
code kind.I8 = 3
code kind.I16 = 4
code kind.I32 = 5
code kind.I64 = 6
code kind.Double = 7
code kind.Binary = 8
code kind.List = 9
code kind.Set = 10
code kind.Map = 11
code kind.Struct = 12

-- the kind with a type code
abbrev pub of_code : ℕ → Option TKind
of_code n =
    if n == 1 then Some kind.True
    else if n == 2 then Some kind.False
    else if n == 3 then Some kind.I8
    else if n == 4 then Some kind.I16
    else if n == 5 then Some kind.I32
    else if n == 6 then Some kind.I64
    else if n == 7 then Some kind.Double
    else if n == 8 then Some kind.Binary
    else if n == 9 then Some kind.List
    else if n == 10 then Some kind.Set
    else if n == 11 then Some kind.Map
    else if n == 12 then Some kind.Struct
    else None
