use Rattle.std.proofs.Common.{rules, ◌≡◌, ℕ, ◌+◌, List, take, drop, length, sym, ap, ◌∙◌, zero-add}
use Rattle.std.proofs.lemmas.List.{drop-drop}
use Rattle.module_aad.proofs.file_aad.FileAad.write_aad.Goals as goal

further : (xs ys : List ℕ) (n m : ℕ) → drop n xs ≡ drop n ys → drop (n + m) xs ≡ drop (n + m) ys
further xs ys n m same = sym (drop-drop m n xs) ∙ ap (drop m) same ∙ drop-drop m n ys

-- the bytes after two pieces that are copied one after another
after_both : (old once twice piece : List ℕ) (n m : ℕ) → length piece ≡ m → drop (0 + n) once ≡ drop (0 + n) old
    → drop (n + length piece) twice ≡ drop (n + length piece) once → drop (n + m) twice ≡ drop (n + m) old
after_both old once twice piece n m long first second =
    rw (← long) (second ∙ further once old n (length piece) (rw zero-add at first))

pub returns-clause-after : goal.returns-clause-after
returns-clause-after c =
    let piece : List ℕ = take c.suffix-length.result.1 c.suffix-length.result.0 in
    after_both c.args.into.now c.put.new.into c.put-2.new.into piece (length c.joined-file.result.now) c.suffix-length.result.1 (search rules) c.put.ensures.after c.put-2.ensures.after
