-- `thrift`: prints the compact-protocol struct at the start of a file as text, and the number of bytes after it.
use Rattle.std.specs.Prelude.{◌≡◌, ℕ, ◌-◌, ◌≤◌, Bool, true, List, [], ◌∷◌, ◌++◌, length, codes, Option, IfSome, IsSomeAnd, Result, Ok, Err, OnOk, IfErr, decimal}
use Rattle.std.specs.FinMap.{get}
use Rattle.pme_base.specs.declared.limits.TheConstants.{SMALL_FILE_LIMIT}
use Rattle.pme_base.specs.declared.refusal.Cause.{Cause}
use Rattle.pme_base.specs.declared.refusal.Cause.TheVariants.{BadThrift, OutOfMemory}
use Rattle.pme_base.specs.declared.refusal.Detail.TheVariants.{Thrift}
use Rattle.pme_base.specs.declared.refusal.Refusal.{Refusal}
use Rattle.pme_base.specs.Outside.{Published, followed_by}
use Rattle.pme_base.specs.Refusals.{refusal_at, plain_refusal}
use Rattle.pme_base.specs.Steps.{◌>>=◌}
use Rattle.command_line.specs.declared.command.ThriftArgs.{ThriftArgs}
use Rattle.thrift_compact.specs.declared.kind.TKind.TheVariants as kind
use Rattle.thrift_compact.specs.declared.refusal.ThriftRefusal.{ThriftRefusal}
use Rattle.thrift_compact.specs.declared.refusal.ThriftRefusal.TheVariants.{Bad, OutOfMemory as no_memory}
use Rattle.thrift_compact.specs.Tree.{Tree}
use Rattle.thrift_compact.specs.Reading.{Fault, whole_struct}
use Rattle.thrift_compact.specs.Grammar.{Spells}
use Rattle.thrift_compact.specs.Text.{shown}
use Rattle.thrift_compact.specs.Whole.{with_offsets}
use Rattle.command_parts.specs.declared.stop.Stop.{Stop}
use Rattle.command_parts.specs.Stops.{about, IsAboutFile}
use Rattle.command_parts.specs.World.{World, Faulted}
use Rattle.command_parts.specs.SmallFile.{whole_file, small_limit, small_bytes, is_small_cause}
use Rattle.command_parts.specs.TextCommand.{TextGuarantees}

-- the text of a tree, and the line that counts the bytes after it
abbrev pub tree_text : Tree → ℕ → List ℕ
tree_text tree rest = shown tree ++ (codes "\nrest " ++ (decimal rest ++ 10 ∷ []))

-- the text for `size` bytes by the parser's result: a tree and the number of its bytes, or an error and its offset
abbrev pub text_of_answer : ℕ → Result (Tree × ℕ) Fault → Result (List ℕ) Refusal
text_of_answer size (Ok read) = Ok (tree_text read.0 (size - read.1))
text_of_answer size (Err fault) = Err (refusal_at BadThrift whole_file fault.1 (Thrift fault.0))

-- the text of the struct at the front of these bytes
abbrev pub struct_text : List ℕ → Result (List ℕ) Refusal
struct_text bytes = text_of_answer (length bytes) (with_offsets (length bytes) (whole_struct bytes))

-- the text that the command prints for a file
abbrev pub thrift_text : Option (List ℕ) → Result (List ℕ) Refusal
thrift_text file = small_bytes file >>= struct_text

-- the refusal for an error of the parser
abbrev pub refused_thrift : ThriftRefusal → Refusal
refused_thrift (Bad at why) = refusal_at BadThrift whole_file at (Thrift why)
refused_thrift no_memory = plain_refusal OutOfMemory

-- the causes for which a file can have no text
abbrev pub is_thrift_cause : Cause → Bool
is_thrift_cause BadThrift = true
is_thrift_cause cause = is_small_cause cause

-- a prefix of the bytes spells a tree, and the rest comes after it
pub record Holds (bytes : List ℕ) : Type 0 where
  pub tree : Tree
  pub front : List ℕ
  pub rest : List ℕ
  pub spelled : Spells 32 kind.Struct tree front
  pub parts : bytes ≡ front ++ rest

-- the text is the text of the tree that a prefix of the bytes spells
abbrev pub IsTextOf : List ℕ → List ℕ → Type 0
IsTextOf bytes text = (h : Holds bytes) × (text ≡ tree_text h.tree (length h.rest))

abbrev pub IsFileText : Option (List ℕ) → List ℕ → Type 0
IsFileText file text = IsSomeAnd file (λ bytes. IsTextOf bytes text)

-- a prefix of the file spells a tree, and its text was printed
abbrev pub ThriftDone : Option (List ℕ) → Option (List ℕ) → Option (List ℕ) → Type 0
ThriftDone file before after =
    IsSomeAnd file (λ bytes. (h : Holds bytes) × (after ≡ followed_by (tree_text h.tree (length h.rest)) before))

-- if the file is small enough and begins with a struct, and no call outside fails, the command succeeds or runs out of memory
abbrev pub ThriftCompletes : List ℕ → Option Published → Type 0 → Result Unit Stop → Type 0
ThriftCompletes name published Fault outcome =
    IfSome published (λ files. IsSomeAnd (get files name) (λ bytes. (length bytes ≤ small_limit) × Holds bytes) → ¬ Fault
    → IfErr outcome (λ stop. stop.refusal.cause ≡ OutOfMemory))

-- what the command guarantees. If the file is missing or too large, nothing is read
pub record ThriftGuarantees (args : ThriftArgs) (old new : World) (outcome : Result Unit Stop) : Type 0 where
  pub text : TextGuarantees (λ files. about args.file (thrift_text (get files args.file))) is_thrift_cause SMALL_FILE_LIMIT old new outcome
  pub done : OnOk outcome (IfSome old.files.published (λ files. ThriftDone (get files args.file) old.out.written new.out.written))
  pub complete : ThriftCompletes args.file old.files.published (Faulted old new) outcome
  pub subject : IfErr outcome (IsAboutFile args.file)
  pub unread : IfSome old.files.published (λ files. IfErr (small_bytes (get files args.file)) (λ _. new.files.given ≡ old.files.given))
