-- What a finder answers that refuses every key.
use Rattle.std.specs.Prelude.{◌≡◌, true, codes, refl, replicate}
use Rattle.pme_base.specs.declared.refusal.Cause.TheVariants as cause
use Rattle.pme_base.specs.declared.refusal.Detail.TheVariants.{Name, Pair, Tags}
use Rattle.key_rights.specs.declared.finder.KeyAnswer.{KeyAnswer}
use Rattle.key_rights.specs.declared.finder.KeyAnswer.TheVariants.{Refused}
use Rattle.key_rights.specs.Finding.{is_key_answer}
use Rattle.tail_tests.specs.declared.refusing_finder.KeyFault.{KeyFault}
use Rattle.tail_tests.specs.declared.refusing_finder.KeyFault.TheVariants.{BadMaterial, NoMaterial, WrapTag, KeyLength}

abbrev pub refused_for : KeyFault → KeyAnswer
refused_for BadMaterial = Refused cause.BadMaterial (Name (codes "json"))
refused_for NoMaterial = Refused cause.NoMaterial (Name (codes "footerKey"))
refused_for WrapTag = Refused cause.WrapTag (Tags (replicate 16 1) (replicate 16 2))
refused_for KeyLength = Refused cause.KeyLength (Pair 15 0)

pub refused_for-has_a_key_cause : (fault : KeyFault) → is_key_answer (refused_for fault) ≡ true
refused_for-has_a_key_cause BadMaterial = refl
refused_for-has_a_key_cause NoMaterial = refl
refused_for-has_a_key_cause WrapTag = refl
refused_for-has_a_key_cause KeyLength = refl
