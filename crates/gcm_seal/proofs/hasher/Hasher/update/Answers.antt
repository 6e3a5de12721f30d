use Rattle.std.proofs.Common.{◌≡◌, ◌+◌, ◌-◌, ◌*◌, ◌/◌, ◌∙◌, sym, ap, subst, length, take, ◌++◌, arith}
use Rattle.std.proofs.lemmas.List.{take_all, take-append-drop}
use Rattle.gcm_seal.specs.Hashing.{IsHashOf}
use Rattle.gcm_seal.proofs.Pieces.{short_piece, long_piece, put_after}
use Rattle.gcm_seal.proofs.hasher.Hasher.update.Goals as goal

pub returns-then-ciphertext-missing-clause-hash : goal.returns-then-ciphertext-missing-clause-hash
returns-then-ciphertext-missing-clause-hash c = λ key nonce aad text r.
    let bytes = c.args.ciphertext.now in
    let filled = c.self.inside.rest_length in
    let rest : take (filled + length bytes) c.put.new.block ≡ take filled c.self.inside.rest ++ bytes =
    put_after c.self.inside.rest c.put.new.block bytes filled (omega arith) c.put.ensures.whole (omega arith) c.put.ensures.before c.put.ensures.inside in
    short_piece _ (take (filled + length bytes) c.put.new.block) bytes key nonce aad text rest
    (subst (λ v. IsHashOf v key nonce aad text) (sym c.self.view_is) r)

pub returns-else-ciphertext-missing-clause-hash : goal.returns-else-ciphertext-missing-clause-hash
returns-else-ciphertext-missing-clause-hash c = λ key nonce aad text r.
    let bytes = c.args.ciphertext.now in
    let filled = c.self.inside.rest_length in
    let missing = 16 - filled in
    let head = c.split_at.result.0.now in
    let whole = c.split_at-else-ciphertext-missing.result.0.now in
    let tail = c.split_at-else-ciphertext-missing.result.1.now in
    let block = c.put-else-ciphertext-missing.new.block in
    let all : filled + length head ≡ 16 = omega arith in
    let filled_up : block ≡ take filled c.self.inside.rest ++ head =
    sym (take_all 16 block (omega (arith, c.put-else-ciphertext-missing.ensures.whole))) ∙ ap (λ n. take n block) (sym all)
    ∙ put_after c.self.inside.rest block head filled (omega arith) c.put-else-ciphertext-missing.ensures.whole (omega arith) c.put-else-ciphertext-missing.ensures.before c.put-else-ciphertext-missing.ensures.inside in
    let rest : take (length tail) c.put-else-ciphertext-missing-2.new.block ≡ tail =
    let e : length tail ≡ 0 + length tail = omega arith in
    ap (λ n. take n c.put-else-ciphertext-missing-2.new.block) e
    ∙ put_after block c.put-else-ciphertext-missing-2.new.block tail 0 c.put-else-ciphertext-missing.ensures.whole c.put-else-ciphertext-missing-2.ensures.whole (omega arith)
    c.put-else-ciphertext-missing-2.ensures.before c.put-else-ciphertext-missing-2.ensures.inside in
    let cut : bytes ≡ head ++ (whole ++ tail) =
    let others = c.split_at.result.1.now in
    let mid = length others / 16 * 16 in
    sym (take-append-drop missing bytes)
    ∙ (λ i. sym c.split_at.ensures.front i ++ (sym c.split_at.ensures.back
    ∙ sym (take-append-drop mid others) ∙ (λ j. sym c.split_at-else-ciphertext-missing.ensures.front j ++ sym c.split_at-else-ciphertext-missing.ensures.back j)) i) in
    let many : length whole ≡ 16 * (length c.split_at.result.1.now / 16) = omega arith in
    long_piece _ block head whole tail (take (length tail) c.put-else-ciphertext-missing-2.new.block) bytes key nonce aad text (length c.split_at.result.1.now / 16) c.absorb-with_head.result c.absorb-self-inside.result
    filled_up c.put-else-ciphertext-missing.ensures.whole many rest cut c.absorb-with_head.ensures c.absorb-self-inside.ensures
    (subst (λ v. IsHashOf v key nonce aad text) (sym c.self.view_is) r)
