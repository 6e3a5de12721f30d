-- The state of hashing a ciphertext in pieces.
use Rattle.std.specs.Prelude.{◌≡◌, ℕ, ◌*◌, List, ◌++◌, length}
use Rattle.gcm_field.specs.Field.{polynomial, reversed}
use Rattle.gcm_seal.specs.Gcm.{counter_block, hash_key, blocks_of, ghash}
use Rattle.aes_block.specs.Aes.{aes}

-- the state after some pieces
pub record Hashed : Type 0 where
  -- the block of the hash key
  pub key : List ℕ
  -- the block that is XORed with the final hash
  pub mask : List ℕ
  -- GHASH of the whole blocks, in the bit order of a block
  pub sum : ℕ
  -- the bytes after the last whole block
  pub rest : List ℕ
  pub aad_length : ℕ
  pub length : ℕ

-- h is the state after the associated data and the pieces that make up `text`
pub record IsHashOf (h : Hashed) (key nonce aad text : List ℕ) : Type 0 where
  pub subkey : h.key ≡ hash_key key
  pub masked : h.mask ≡ aes key (counter_block nonce 1)
  pub aad_length : h.aad_length ≡ length aad
  pub text_length : h.length ≡ length text
  -- the whole blocks of the text
  pub front : List ℕ
  pub count : ℕ
  pub whole : length front ≡ 16 * count
  pub cut : text ≡ front ++ h.rest
  pub summed : reversed h.sum ≡ ghash (polynomial h.key) (blocks_of aad ++ blocks_of front)
