-- The multiples in the table of a hash key, as numbers in the bit order of a block: the first bit is the highest.
use Rattle.std.specs.Prelude.{ℕ, ◌-◌, ◌*◌, ◌^◌, List, map}
use Rattle.std.specs.List.{range_with_len}
use Rattle.gcm_field.specs.Field.{field_mul, reversed}

-- the product of x with h
unfoldable pub multiple : ℕ → ℕ → ℕ
multiple h x = reversed (field_mul (reversed x) h)

-- the products of h with each value of half byte k, counted from the first half byte of a block
unfoldable pub table_row : ℕ → ℕ → List ℕ
table_row h k = map (λ v. multiple h (v * 2 ^ (124 - 4 * k))) (range_with_len 0 16)

-- the products of h with each value of each half byte of a block
unfoldable pub table_of : ℕ → List (List ℕ)
table_of h = map (table_row h) (range_with_len 0 32)
