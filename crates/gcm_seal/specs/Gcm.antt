-- AES-GCM (SP 800-38D; the numbers in brackets are its sections) with nonces of 12 bytes and tags of 16 bytes. Keys, nonces,
-- texts and blocks are lists of bytes.
use Rattle.std.specs.Prelude.{ℕ, zero, suc, ◌+◌, ◌*◌, ◌/◌, ◌%◌, bit_xor, List, [], ◌∷◌, ◌++◌, map, length, replicate, slice_index}
use Rattle.std.specs.Int.{w32, w64, to_be_bytes}
use Rattle.std.specs.List.{range_with_len}
use Rattle.aes_block.specs.Aes.{aes}
use Rattle.gcm_field.specs.Field.{field_mul, polynomial, block_of}

-- the block with counter c: J0 (7.1) has counter 1, and inc32 (6.2) adds 1
abbrev pub counter_block : List ℕ → ℕ → List ℕ
counter_block nonce c = nonce ++ to_be_bytes w32 c

-- byte i of the keystream: the encrypted counter blocks from counter c on, one after another
abbrev pub keystream_byte : List ℕ → List ℕ → ℕ → ℕ → ℕ
keystream_byte key nonce c i = slice_index (aes key (counter_block nonce (c + i / 16))) (i % 16)

-- GCTR (6.5) from counter c
unfoldable pub gctr : List ℕ → List ℕ → ℕ → List ℕ → List ℕ
gctr key nonce c text = map (λ i. bit_xor (slice_index text i) (keystream_byte key nonce c i)) (range_with_len 0 (length text))

-- block i of a text; the last block is padded with zeros
abbrev pub block_at : List ℕ → ℕ → List ℕ
block_at text i = map (λ j. slice_index text (16 * i + j)) (range_with_len 0 16)

-- the blocks of a text
unfoldable pub blocks_of : List ℕ → List (List ℕ)
blocks_of text = map (block_at text) (range_with_len 0 ((length text + 15) / 16))

-- h to the power k
unfoldable pub power : ℕ → ℕ → ℕ
power h zero = 1
power h (suc k) = field_mul (power h k) h

-- GHASH (6.4) of blocks X1 to Xm as a polynomial: the sum of Xi times h^(m - i + 1)
unfoldable pub ghash : ℕ → List (List ℕ) → ℕ
ghash h [] = 0
ghash h (x ∷ xs) = bit_xor (field_mul (polynomial x) (power h (suc (length xs)))) (ghash h xs)

-- the hash subkey H (7.1)
abbrev pub hash_key : List ℕ → List ℕ
hash_key key = aes key (replicate 16 0)

-- the block with the lengths of associated data and ciphertext in bits
abbrev pub lengths_block : ℕ → ℕ → List ℕ
lengths_block aad text = to_be_bytes w64 (8 * aad) ++ to_be_bytes w64 (8 * text)

-- the input of GHASH (7.1): associated data and ciphertext, each padded with zeros, and the block with their lengths
abbrev pub hashed_blocks : List ℕ → List ℕ → List (List ℕ)
hashed_blocks aad text = blocks_of aad ++ (blocks_of text ++ lengths_block (length aad) (length text) ∷ [])

-- the tag of a ciphertext (7.1)
unfoldable pub tag_of : List ℕ → List ℕ → List ℕ → List ℕ → List ℕ
tag_of key nonce aad text = gctr key nonce 1 (block_of (ghash (polynomial (hash_key key)) (hashed_blocks aad text)))

-- authenticated encryption (7.1): the ciphertext and its tag
abbrev pub seal : List ℕ → List ℕ → List ℕ → List ℕ → List ℕ × List ℕ
seal key nonce aad text = (gctr key nonce 2 text, tag_of key nonce aad (gctr key nonce 2 text))
