use Rattle.std.proofs.Common.{◌≡◌, true, false, sym, ◌∙◌, subst}
use Rattle.pme_base.specs.declared.refusal.Refusal.{Refusal}
use Rattle.pme_base.specs.Refusals.{is_fault}
use Rattle.parquet_fields.specs.Causes.{is_struct_cause}
use Rattle.parquet_fields.proofs.OtherKinds.{struct_refused, struct_cause, no_fault}
use Rattle.parquet_fields.proofs.struct_fields.read_front.Goals as goal

pub returns-clause-causes : goal.returns-clause-causes
returns-clause-causes g c =
    let known = struct_refused (g.M.StructFields.after g.M.StructFields.none) g.M.StructFields.judged g.met.M.StructFields.causes _ c.in-Ok.fields _ c.in-Err-judge.refused c.in-Ok.ensures.value.0 (sym c.judge.ensures ∙ c.in-Err-judge.is) in
    let P : Refusal → Type 0 = λ r. is_struct_cause r.cause ≡ true in
    subst P (sym c.field_refusal.ensures) (struct_cause c.in-Err-judge.refused.cause known)

pub returns-clause-quiet : goal.returns-clause-quiet
returns-clause-quiet g c =
    let known = struct_refused (g.M.StructFields.after g.M.StructFields.none) g.M.StructFields.judged g.met.M.StructFields.causes _ c.in-Ok.fields _ c.in-Err-judge.refused c.in-Ok.ensures.value.0 (sym c.judge.ensures ∙ c.in-Err-judge.is) in
    let P : Refusal → Type 0 = λ r. is_fault r.cause ≡ false in
    subst P (sym c.field_refusal.ensures) (no_fault c.in-Err-judge.refused.cause known)
