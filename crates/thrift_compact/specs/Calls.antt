-- The calls of the writer, each with its arguments.
use Rattle.std.specs.Prelude.{ℕ, ℤ, Bool, List}
use Rattle.thrift_compact.specs.declared.kind.TKind.{TKind}

pub data Call : Type 0 where
  struct_begin : Call
  whole : ℤ → TKind → ℤ → Call
  truth : ℤ → Bool → Call
  binary : ℤ → List ℕ → Call
  struct_field : ℤ → Call
  list_field : ℤ → TKind → ℕ → Call
  item_whole : ℤ → Call
  item_binary : List ℕ → Call
  struct_end : Call
