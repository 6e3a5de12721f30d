-- The outcomes of `thrift`: its text is the text of the tree that the start of the file spells.
use Rattle.std.proofs.Common.{◌≡◌, ℕ, ◌-◌, ◌≤◌, List, take, drop, length, Option, Some, None, IfSome, IsSomeAnd, Result, Ok, Err, OnOk, refl, sym, ◌∙◌, ap, subst, arith, length-drop, take-append-drop}
use Rattle.std.specs.Prelude.{IfOk, IsOkAnd, false, nat_lt}
use Rattle.std.specs.FinMap.{get}
use Rattle.pme_base.specs.declared.refusal.Refusal.{Refusal}
use Rattle.pme_base.specs.Outside.{Published, followed_by}
use Rattle.pme_base.specs.Steps.{◌>>=◌, Answers}
use Rattle.thrift_compact.specs.declared.kind.TKind.TheVariants as kind
use Rattle.thrift_compact.specs.Grammar.{Spells}
use Rattle.thrift_compact.specs.Tree.{Tree}
use Rattle.thrift_compact.specs.Whole.{with_offsets}
use Rattle.thrift_compact.proofs.WholeStruct.{whole_read}
use Rattle.command_parts.specs.declared.stop.Stop.{Stop}
use Rattle.command_parts.specs.Stops.{about}
use Rattle.command_parts.specs.SmallFile.{small_bytes, small_size}
use Rattle.command_parts.specs.TextCommand.{TextCompletes}
use Rattle.read_commands.specs.ThriftCommand.{Holds, IsTextOf, IsFileText, ThriftDone, ThriftCompletes, tree_text, text_of_answer, struct_text, thrift_text}

-- the first `n` bytes spell the tree, and the others come after it
pub held_text : (bytes : List ℕ) (tree : Tree) (n : ℕ) → n ≤ length bytes → Spells 32 kind.Struct tree (take n bytes)
    → IsTextOf bytes (tree_text tree (length bytes - n))
held_text bytes tree n within spelled = (
  record {
    tree = tree;
    front = take n bytes;
    rest = drop n bytes;
    spelled = spelled;
    parts = sym (take-append-drop n bytes);
  },
  ap (tree_text tree) (sym (length-drop n bytes)),
)

small_file : (file : Option (List ℕ)) (bytes text : List ℕ) → Ok bytes ≡ small_bytes file → IsTextOf bytes text → IsFileText file text
small_file None bytes text e held = absurd cc
small_file (Some b) bytes text e held = subst (λ (c : List ℕ). IsTextOf c text) (same (small_size (length b)) e) held
  where
    same : (size : Result ℕ Refusal) → Ok bytes ≡ (size >>= (λ _. Ok b)) → bytes ≡ b
    same (Ok n) e = cc
    same (Err refusal) e = absurd cc

-- the bytes that were read are those of the file
pub file_text : (published : Option Published) (name bytes : List ℕ) (text : Result (List ℕ) Refusal) → IfSome published (λ files. Answers (Ok bytes) (small_bytes (get files name)))
    → IfOk text (IsTextOf bytes) → IfOk text (λ t. IfSome published (λ files. IsFileText (get files name) t))
file_text told name bytes (Err refusal) answer held = tt
file_text None name bytes (Ok t) answer held = tt
file_text (Some files) name bytes (Ok t) answer held = small_file (get files name) bytes t (answer refl) held

-- the text was printed
pub thrift_done : (name : List ℕ) (published : Option Published) (before after : Option (List ℕ)) (text : Result (List ℕ) Refusal) (outcome : Result Unit Stop)
    → IfOk text (λ t. IfSome published (λ files. IsFileText (get files name) t))
    → OnOk outcome (IsOkAnd (about name text) (λ t. after ≡ followed_by t before))
    → OnOk outcome (IfSome published (λ files. ThriftDone (get files name) before after))
thrift_done name published before after text (Err stop) held printed = tt
thrift_done name None before after text (Ok _) held printed = tt
thrift_done name (Some files) before after (Err refusal) (Ok _) held printed = absurd printed
thrift_done name (Some files) before after (Ok t) (Ok _) held printed = done_of (get files name) held
  where
    done_of : (file : Option (List ℕ)) → IsFileText file t → ThriftDone file before after
    done_of None held = absurd held
    done_of (Some bytes) held = (held.0, printed ∙ ap (λ line. followed_by line before) held.1)

-- bytes that begin with a struct have a text
holding : (bytes : List ℕ) → Holds bytes → (text : List ℕ) × (struct_text bytes ≡ Ok text)
holding bytes h =
    let there = whole_read h.tree h.front h.rest bytes h.spelled h.parts in
    (_, ap (λ read. text_of_answer (length bytes) (with_offsets (length bytes) read)) there.1)

-- a small file that begins with a struct has a text
pub has_text : (file : Option (List ℕ)) → IsSomeAnd file (λ bytes. (length bytes ≤ 16777216) × Holds bytes) → (text : List ℕ) × (thrift_text file ≡ Ok text)
has_text None h = absurd h
has_text (Some bytes) h =
    let text = holding bytes h.1 in
    let small : small_size (length bytes) ≡ Ok (length bytes) = rw (not_above (length bytes) h.0) refl in
    (text.0, ap (λ size. size >>= (λ _. Ok bytes) >>= struct_text) small ∙ text.1)
  where
    not_above : (n : ℕ) → n ≤ 16777216 → nat_lt 16777216 n ≡ false
    not_above n h = grind arith

pub thrift_completes : (name : List ℕ) (published : Option Published) (Fault : Type 0) (outcome : Result Unit Stop)
    → TextCompletes (λ files. about name (thrift_text (get files name))) published Fault outcome
    → ThriftCompletes name published Fault outcome
thrift_completes name None Fault outcome text = tt
thrift_completes name (Some files) Fault outcome text = λ held. let there = has_text (get files name) held in text there.0 (ap (about name) there.1)
