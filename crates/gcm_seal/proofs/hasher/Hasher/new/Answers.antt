use Rattle.std.proofs.Common.{[], ◌++◌, ap, ◌∙◌, sym, refl}
use Rattle.std.proofs.lemmas.List.{append-nil}
use Rattle.gcm_field.specs.Field.{polynomial}
use Rattle.gcm_field.proofs.TableLemmas.{reversed-none}
use Rattle.gcm_seal.specs.Gcm.{blocks_of, ghash}
use Rattle.gcm_seal.proofs.Horner.{ghash-none}
use Rattle.gcm_seal.proofs.Texts.{blocks-none}
use Rattle.gcm_seal.proofs.hasher.Hasher.new.Goals as goal

pub returns-clause-hash : goal.returns-clause-hash
returns-clause-hash c =
    let h = polynomial c.new-hash_key.result in
    let aad = c.args.aad.now in
    record {
      subkey = c.new-hash_key.ensures ∙ c.first_blocks.ensures.subkey;
      masked = c.first_blocks.ensures.mask;
      aad_length = refl;
      text_length = refl;
      front = [];
      count = 0;
      whole = refl;
      cut = refl;
      summed = c.absorb-sum.ensures [] (reversed-none ∙ sym (ghash-none h)) ∙ ap (ghash h) (sym (ap (λ b. blocks_of aad ++ b) blocks-none ∙ append-nil (blocks_of aad)));
    }
