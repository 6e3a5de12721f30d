-- AES (FIPS 197; the numbers in brackets are its sections). Blocks and keys are lists of bytes. The state is the list of its
-- 16 bytes column by column: the byte in row r and column c has index r + 4 * c (3.4), as in the block.
use Rattle.std.specs.Prelude.{◌≡◌, ◌⊎◌, ℕ, zero, suc, ◌+◌, ◌-◌, ◌*◌, ◌/◌, ◌%◌, ◌&&◌, ◌==◌, nat_lt, if◌then◌else◌, bit_xor, List, [], ◌∷◌, ◌++◌, map, length, take, drop, slice_index}
use Rattle.std.specs.List.{range_with_len}
use Rattle.std.specs.Simd.Lanes.{zip2}
use Rattle.aes_block.specs.Field.{field_mul, sbox}

-- the possible lengths of a key in bytes
abbrev pub IsKeyLength : ℕ → Type 0
IsKeyLength n = (n ≡ 16) ⊎ ((n ≡ 24) ⊎ (n ≡ 32))

-- the bytewise XOR of two lists, as in AddRoundKey (5.1.4)
abbrev pub xor_bytes : List ℕ → List ℕ → List ℕ
xor_bytes = zip2 bit_xor

-- SubBytes (5.1.1)
abbrev pub sub_bytes : List ℕ → List ℕ
sub_bytes s = map sbox s

-- ShiftRows (5.1.2): row r of column c comes from column c + r
abbrev pub shift_rows : List ℕ → List ℕ
shift_rows s = map (λ i. slice_index s (i % 4 + 4 * ((i / 4 + i % 4) % 4))) (range_with_len 0 16)

-- MixColumns (5.1.3), for one column
abbrev pub mix_column : ℕ → ℕ → ℕ → ℕ → List ℕ
mix_column a b c d =
    bit_xor (bit_xor (field_mul 2 a) (field_mul 3 b)) (bit_xor c d)
    ∷ bit_xor (bit_xor a (field_mul 2 b)) (bit_xor (field_mul 3 c) d)
    ∷ bit_xor (bit_xor a b) (bit_xor (field_mul 2 c) (field_mul 3 d))
    ∷ bit_xor (bit_xor (field_mul 3 a) b) (bit_xor c (field_mul 2 d))
    ∷ []

-- MixColumns, for column c of a state
abbrev pub column_mixed : List ℕ → ℕ → List ℕ
column_mixed s c = mix_column (slice_index s (4 * c)) (slice_index s (4 * c + 1)) (slice_index s (4 * c + 2)) (slice_index s (4 * c + 3))

-- MixColumns, for the whole state
abbrev pub mix_columns : List ℕ → List ℕ
mix_columns s = column_mixed s 0 ++ (column_mixed s 1 ++ (column_mixed s 2 ++ column_mixed s 3))

-- a round with its key, and the final round, which has no MixColumns (5.1)
abbrev pub round : List ℕ → List ℕ → List ℕ
round s key = xor_bytes (mix_columns (shift_rows (sub_bytes s))) key

abbrev pub final_round : List ℕ → List ℕ → List ℕ
final_round s key = xor_bytes (shift_rows (sub_bytes s)) key

-- word i of a key schedule w, which is the list of all its bytes
abbrev pub word : List ℕ → ℕ → List ℕ
word w i = take 4 (drop (4 * i) w)

-- the key of round r: four words of the schedule (5.1.4)
abbrev pub round_key : List ℕ → ℕ → List ℕ
round_key w r = take 16 (drop (16 * r) w)

-- the state after the first key has been added and r rounds with MixColumns
unfoldable pub state_after : List ℕ → List ℕ → ℕ → List ℕ
state_after w block zero = xor_bytes block (round_key w 0)
state_after w block (suc r) = let s = state_after w block r in round s (round_key w (suc r))

-- the cipher with n rounds and the final round (5.1)
unfoldable pub cipher : List ℕ → ℕ → List ℕ → List ℕ
cipher w n block = final_round (state_after w block n) (round_key w (suc n))

-- x^n in the field of AES
unfoldable pub power_of_x : ℕ → ℕ
power_of_x zero = 1
power_of_x (suc n) = field_mul 2 (power_of_x n)

-- RotWord, SubWord and the round constants (5.2)
abbrev pub rot_word : List ℕ → List ℕ
rot_word [] = []
rot_word (b ∷ bs) = bs ++ b ∷ []

abbrev pub round_constant : ℕ → List ℕ
round_constant j = power_of_x (j - 1) ∷ 0 ∷ 0 ∷ 0 ∷ []

-- the term that is XORed with word i - nk to give word i, where the key has nk words and `previous` is word i - 1 (5.2)
abbrev pub schedule_term : ℕ → ℕ → List ℕ → List ℕ
schedule_term nk i previous =
    if i % nk == 0 then xor_bytes (sub_bytes (rot_word previous)) (round_constant (i / nk)) else (if nat_lt 6 nk && (i % nk == 4) then sub_bytes previous else previous)

-- word i of the schedule, from the words before it
abbrev pub next_word : ℕ → List ℕ → ℕ → List ℕ
next_word nk w i = xor_bytes (word w (i - nk)) (schedule_term nk i (word w (i - 1)))

-- the key and the n words after it
unfoldable pub schedule_after : List ℕ → ℕ → ℕ → List ℕ
schedule_after key nk zero = key
schedule_after key nk (suc n) = let w = schedule_after key nk n in w ++ next_word nk w (nk + n)

-- the whole schedule: nk + 7 round keys, including the one that is added before the first round (5, 5.2)
unfoldable pub schedule : List ℕ → List ℕ
schedule key = let nk = length key / 4 in schedule_after key nk (3 * nk + 28)

-- the encryption of a block with a key of 16, 24 or 32 bytes, in 10, 12 or 14 rounds (5)
unfoldable pub aes : List ℕ → List ℕ → List ℕ
aes key block = cipher (schedule key) (length key / 4 + 5) block
