-- A keys file never gives a refusal: each answer is a key or Absent.
use Rattle.std.specs.Prelude.{◌≡◌, ℕ, List, [], ◌∷◌, true, false, if◌then◌else◌, refl}
use Rattle.std.specs.Str.{bytes_eq}
use Rattle.key_rights.specs.declared.id_key.IdKey.{IdKey}
use Rattle.key_rights.specs.declared.finder.KeyAnswer.TheVariants.{Held}
use Rattle.key_rights.specs.Finding.{Asked, is_key_answer}
use Rattle.key_rights.specs.KeysFile.{key_by_id, id_asked, answer_by_id}

key_by_id-refuses_none : (keys : List IdKey) (id : List ℕ) → is_key_answer (key_by_id keys id) ≡ true
key_by_id-refuses_none [] id = refl
key_by_id-refuses_none (first ∷ rest) id =
    elim (bytes_eq first.id id) as (λ same. is_key_answer (if same then Held first.key else key_by_id rest id) ≡ true) [
      | true ↦ refl
      | false ↦ key_by_id-refuses_none rest id
    ]

pub answer_by_id-refuses_none : (keys : List IdKey) (asked : Asked) → is_key_answer (answer_by_id keys asked) ≡ true
answer_by_id-refuses_none keys asked = key_by_id-refuses_none keys (id_asked asked)
