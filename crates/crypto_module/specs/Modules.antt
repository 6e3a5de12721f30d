-- The layout of a module in Parquet Modular Encryption: the length field, the nonce, the ciphertext and, in GCM, the tag.
use Rattle.std.specs.Prelude.{◌≡◌, ℕ, ◌+◌, ◌-◌, ◌≤◌, ◌++◌, Bool, true, false, List, length, take, drop}
use Rattle.std.specs.Int.{w32, to_le_bytes}
use Rattle.gcm_seal.specs.Gcm.{gctr, tag_of}

-- a length field and the parts that it counts; the tag may be empty
abbrev pub parts : List ℕ → List ℕ → List ℕ → List ℕ
parts nonce text tag = to_le_bytes w32 (12 + length text + length tag) ++ (nonce ++ (text ++ tag))

-- the layout of a GCM module
abbrev pub gcm_module : List ℕ → List ℕ → List ℕ → List ℕ
gcm_module nonce cipher tag = to_le_bytes w32 (28 + length cipher) ++ (nonce ++ (cipher ++ tag))

-- these bytes are a GCM module of `plain` with some nonce
pub record IsGcm (key aad plain : List ℕ) (limit : ℕ) (bytes : List ℕ) : Type 0 where
  pub nonce : List ℕ
  pub nonce_length : length nonce ≡ 12
  pub cipher : List ℕ
  pub within : length plain ≤ limit
  pub encrypted : cipher ≡ gctr key nonce 2 plain
  pub layout : bytes ≡ gcm_module nonce cipher (tag_of key nonce aad cipher)

-- a GCM module of `plain` is at the front of these bytes; with `true` it takes up all of them
abbrev pub HoldsGcm : Bool → List ℕ → List ℕ → List ℕ → ℕ → List ℕ → Type 0
HoldsGcm true key aad plain limit bytes = IsGcm key aad plain limit bytes
HoldsGcm false key aad plain limit bytes = (n : ℕ) × IsGcm key aad plain limit (take n bytes)

-- the layout of a CTR module
abbrev pub ctr_module : List ℕ → List ℕ → List ℕ
ctr_module nonce cipher = to_le_bytes w32 (12 + length cipher) ++ (nonce ++ cipher)

-- these bytes are a CTR module of `plain` with some nonce; counter mode begins with counter 1
pub record IsCtr (key plain : List ℕ) (limit : ℕ) (bytes : List ℕ) : Type 0 where
  pub nonce : List ℕ
  pub nonce_length : length nonce ≡ 12
  pub cipher : List ℕ
  pub within : length plain ≤ limit
  pub encrypted : cipher ≡ gctr key nonce 1 plain
  pub layout : bytes ≡ ctr_module nonce cipher

-- a CTR module of `plain` is at the front of these bytes
abbrev pub HoldsCtr : List ℕ → List ℕ → ℕ → List ℕ → Type 0
HoldsCtr key plain limit bytes = (n : ℕ) × IsCtr key plain limit (take n bytes)

-- the GCM module and the CTR module of a plaintext with this nonce
abbrev pub sealed_gcm : List ℕ → List ℕ → List ℕ → List ℕ → List ℕ
sealed_gcm key aad nonce plain = gcm_module nonce (gctr key nonce 2 plain) (tag_of key nonce aad (gctr key nonce 2 plain))

abbrev pub sealed_ctr : List ℕ → List ℕ → List ℕ → List ℕ
sealed_ctr key nonce plain = ctr_module nonce (gctr key nonce 1 plain)

-- ---- the parts of a module: nonce, ciphertext and stored tag
abbrev pub nonce_of : List ℕ → List ℕ
nonce_of bytes = take 12 (drop 4 bytes)

abbrev pub cipher_of : List ℕ → List ℕ
cipher_of bytes = take (length bytes - 32) (drop 16 bytes)

abbrev pub stored_of : List ℕ → List ℕ
stored_of bytes = drop (length bytes - 16) bytes

-- the ciphertext of a CTR module
abbrev pub ctr_cipher_of : List ℕ → List ℕ
ctr_cipher_of bytes = drop 16 bytes
