use Rattle.std.proofs.Common.{◌≡◌, ℕ, ◌*◌, ◌^◌, [], ◌∷◌, get_or, replicate, sym, ap, ◌∙◌, arith}
use Rattle.std.specs.Int.{w128, to_be_bytes, from_be_bytes}
use Rattle.std.proofs.lemmas.List.{get_or-map}
use Rattle.std.proofs.lemmas.List.FromFn.{get_or-map-range_with_len}
use Rattle.gcm_field.specs.Field.{polynomial, prod}
use Rattle.gcm_field.specs.Table.{multiple, table_row}
use Rattle.gcm_field.proofs.hash_key.HashKey.row.Goals as goal

-- the block of a row as a number
digit_block : (d : ℕ) → from_be_bytes w128 (16 * d ∷ replicate 15 0) ≡ d * 2 ^ 124
digit_block d = omega arith

pub returns : goal.returns
unfolding multiple table_row
returns c =
    let d = c.args.digit in
    let h = polynomial c.self.inside.block in
    let entry : get_or (table_row h 0) d 0 ≡ multiple h (d * 2 ^ 124) =
    get_or-map-range_with_len (λ v. multiple h (v * 2 ^ 124)) 0 16 d d 0 c.requires (omega arith) in
    ap (λ rows. get_or rows d []) c.self.invariant.rows
    ∙ get_or-map (to_be_bytes w128) (table_row h 0) d 0 [] (omega arith)
    ∙ ap (to_be_bytes w128) (entry ∙ ap (multiple h) (sym (digit_block d)))
    ∙ ap (λ b. prod (16 * d ∷ replicate 15 0) b) c.self.view_is
