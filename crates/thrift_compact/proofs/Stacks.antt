-- The open parts of a typed reader, and a value that it skips.
use Rattle.std.proofs.Common.{◌≡◌, ℕ, List, [], ◌∷◌, Option, Some, Ok, sym, subst}
use Rattle.thrift_compact.specs.declared.frame.FieldHead.{FieldHead}
use Rattle.thrift_compact.specs.declared.frame.Frame.{Frame}
use Rattle.thrift_compact.specs.declared.frame.Frame.TheVariants as frame
use Rattle.thrift_compact.specs.Answers.{skipped}
use Rattle.thrift_compact.specs.Reading.{value}
use Rattle.thrift_compact.specs.declared.kind.TKind.{TKind}
use Rattle.thrift_compact.specs.Standing.{Standing, depth_left, Moves, Skips, IsStack, IsStruct, TakesHead}
use Rattle.thrift_compact.proofs.KindOfRead.{value_kind}
use Rattle.thrift_compact.proofs.Steps.{skipped_ok}

-- a struct may take the place of another as the innermost part
pub same_stack : (before after : Frame) (outer : List Frame) → IsStruct before → IsStruct after → IsStack before outer → IsStack after outer
same_stack (frame.Struct ids) (frame.Struct new) [] one other stack = stack
same_stack (frame.Struct ids) (frame.Struct new) (around ∷ outer) one other stack = stack
same_stack frame.Outside after outer one other stack = absurd one
same_stack frame.List after outer one other stack = absurd one
same_stack (frame.Struct ids) frame.Outside outer one other stack = absurd other
same_stack (frame.Struct ids) frame.List outer one other stack = absurd other

pub stack_after_head : (before after : Frame) (outer : List Frame) (head : Option FieldHead) (h : FieldHead) → head ≡ Some h → TakesHead (Ok head) before after → IsStruct before → IsStack before outer → IsStack after outer
stack_after_head before after outer head h is taken one stack =
    let now = subst (λ (x : Option FieldHead). TakesHead (Ok x) before after) is taken in
    let struct_now : IsStruct after = subst IsStruct (sym now) tt in
    same_stack before after outer one struct_now stack

-- a field's value was skipped
pub value_skipped : (before after : Standing) (inner : ℕ) (bs : List ℕ) (k : TKind) → inner ≡ depth_left before → bs ≡ before.rest → skipped (value inner k bs) ≡ Ok (tt, after.rest) → Moves before after → Skips before after k (Ok tt)
value_skipped before after inner bs k at_room at_rest e moves =
    let here : skipped (value (depth_left before) k before.rest) ≡ Ok (tt, after.rest) = rw (sym at_room, sym at_rest) e in
    let t = skipped_ok (value (depth_left before) k before.rest) after.rest here in
    (t.0, t.1, value_kind (depth_left before) k before.rest t.0 after.rest t.1, moves)
