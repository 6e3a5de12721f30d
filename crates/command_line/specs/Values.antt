-- The values of options: hex texts with size limits.
use Rattle.std.specs.Prelude.{ℕ, Bool, ◌||◌, ◌==◌, nat_le, List, length, Option, Some, None, if◌then◌else◌}
use Rattle.std.specs.Result.{result_ok}
use Rattle.pme_base.specs.declared.limits.TheConstants.{PREFIX_LIMIT}
use Rattle.hex.specs.Hex.{decode_of}

-- the bytes of hex text, which has two digits of either case for each byte; the empty text is valid and gives no bytes
abbrev pub bytes_of_hex : List ℕ → Option (List ℕ)
bytes_of_hex text = result_ok (decode_of text)

-- the bytes, if there are any and they pass the test
abbrev pub filter_bytes : (List ℕ → Bool) → Option (List ℕ) → Option (List ℕ)
filter_bytes test None = None
filter_bytes test (Some bytes) = if test bytes then Some bytes else None

-- an AES key has 16, 24 or 32 bytes, so 32, 48 or 64 hex digits
abbrev pub is_key : List ℕ → Bool
is_key bytes = length bytes == 16 || (length bytes == 24 || length bytes == 32)

abbrev pub key_of_hex : List ℕ → Option (List ℕ)
key_of_hex text = filter_bytes is_key (bytes_of_hex text)

-- associated data has at most 4,096 bytes
abbrev pub associated_data_of_hex : List ℕ → Option (List ℕ)
associated_data_of_hex text = filter_bytes (λ bytes. nat_le (length bytes) 4096) (bytes_of_hex text)

-- a prefix of associated data has at most 1,024 bytes
abbrev pub prefix_of_hex : List ℕ → Option (List ℕ)
prefix_of_hex text = filter_bytes (λ bytes. nat_le (length bytes) PREFIX_LIMIT) (bytes_of_hex text)
