-- The refusal of a field: its cause, its struct and its field id.
use Rattle.std.specs.Prelude.{ℤ}
use Rattle.pme_base.specs.declared.place.Place.{Place}
use Rattle.pme_base.specs.declared.refusal.Cause.{Cause}
use Rattle.pme_base.specs.declared.refusal.Detail.TheVariants.{Field}
use Rattle.pme_base.specs.declared.refusal.Refusal.{Refusal}
use Rattle.pme_base.specs.declared.refusal.StructName.{StructName}
use Rattle.pme_base.specs.Refusals.{refusal_at}
use Rattle.parquet_types.specs.declared.field_refusals.FieldRefusal.{FieldRefusal}

abbrev pub refused : Cause → StructName → ℤ → FieldRefusal
refused cause name number = record { cause = cause; name = name; field = number }

-- The refusal of a field at a place.
abbrev pub field_refusal : Place → FieldRefusal → Refusal
field_refusal place r = refusal_at r.cause place 0 (Field r.name r.field)
