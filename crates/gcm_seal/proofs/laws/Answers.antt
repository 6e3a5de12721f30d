use Rattle.gcm_seal.proofs.Texts.{gctr_twice, gctr-append, length-gctr, length-tag_of}
use Rattle.gcm_seal.proofs.laws.Goals as goal

pub returns : goal.returns
returns c =
    record {
      inverse = λ key nonce text c. gctr_twice key nonce c text;
      joined = λ key nonce front back c n whole. gctr-append key nonce c n front back whole;
      same_length = λ key nonce text c. length-gctr key nonce c text;
      tag_length = λ key nonce aad text. length-tag_of key nonce aad text;
    }
