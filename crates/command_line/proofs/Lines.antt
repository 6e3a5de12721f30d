-- The words after the name of a command are its options and flags, and their order doesn't matter.
use Rattle.std.proofs.Common.{◌≡◌, ◌↔◌, ℕ, Bool, true, false, ◌&&◌, ◌||◌, not, List, [], ◌∷◌, Option, Some, None, is_none, if◌then◌else◌, option_map, codes, inl, inr, refl, sym, ◌∙◌, ap, subst}
use Rattle.std.specs.Bool.{Decides}
use Rattle.std.specs.Str.{bytes_eq}
use Rattle.std.proofs.lemmas.Slice.Eq.{bytes_eq-Decides}
use Rattle.command_line.specs.declared.command.Command.{Command}
use Rattle.command_line.specs.declared.verb.Verb.{Verb}
use Rattle.command_line.specs.declared.verb.Verb.TheVariants.{Module, Thrift, Footer}
use Rattle.command_line.specs.Verbs.{verb_of, takes, is_flag}
use Rattle.command_line.specs.Options.{value_of, has_flag, is_option, are_options}
use Rattle.command_line.specs.Commands.{with_three, command_by, command_of}
use Rattle.command_line.specs.Lines.{Given, option, flag, name_of, spelled, IsNew, IsLine, IsIn, IsValueOf, IsFlagged, IsSpelled, IsLineOf, Asks, LinesAreOptions, OptionsAreLines, ValuesAreGiven, FlagsAreGiven, LinesAskByGivens, OrderIsFree, CommandsHaveLines}
use Rattle.command_line.proofs.Flags.{flag_first}

-- a test and the proposition that it decides
abbrev Choice : Bool → Type 0 → Type 0
Choice true P = P
Choice false P = P → ⊥

choice : (b : Bool) (P : Type 0) → Decides b P → Choice b P
choice true P decides = decides.0 refl
choice false P decides = λ p. cc (decides.1 p)

same_bytes : (xs ys : List ℕ) → Choice (bytes_eq xs ys) (xs ≡ ys)
same_bytes xs ys = choice (bytes_eq xs ys) (xs ≡ ys) (bytes_eq-Decides xs ys)

-- no name belongs to both an option and a flag
footer_plain : (same : Bool) (name : List ℕ) → Choice same (name ≡ codes "--gcm-only") → takes Footer name ≡ true → (same || false) ≡ false
footer_plain false name other taken = refl
footer_plain true name is taken = let wrong : takes Footer (codes "--gcm-only") ≡ true = subst (λ n. takes Footer n ≡ true) is taken in cc wrong

takes_no_flag : (verb : Verb) (name : List ℕ) → takes verb name ≡ true → is_flag verb name ≡ false
takes_no_flag Module name taken = refl
takes_no_flag Thrift name taken = refl
takes_no_flag Footer name taken = footer_plain _ name (same_bytes name (codes "--gcm-only")) taken

both : {X : Type 0} (b : Bool) → b ≡ true → b ≡ false → X
both true holds never = cc never
both false holds never = cc holds

-- a flag or an option at the front of the words
flag_skipped : (verb : Verb) (name f : List ℕ) (ws : List (List ℕ)) → is_flag verb f ≡ true → value_of verb name (f ∷ ws) ≡ value_of verb name ws
flag_skipped verb name f [] flagged = refl
flag_skipped verb name f (w ∷ ws) flagged = rw flagged refl

option_first : (verb : Verb) (name n v : List ℕ) (ws : List (List ℕ)) → is_flag verb n ≡ false → value_of verb name (n ∷ v ∷ ws) ≡ (if bytes_eq n name then Some v else value_of verb name ws)
option_first verb name n v ws plain = rw plain refl

or_false : (b : Bool) → b ≡ (b || false)
or_false true = refl
or_false false = refl

flag_here : (verb : Verb) (name f : List ℕ) (ws : List (List ℕ)) → is_flag verb f ≡ true → has_flag verb name (f ∷ ws) ≡ (bytes_eq f name || has_flag verb name ws)
flag_here verb name f [] flagged = rw flagged (or_false (bytes_eq f name))
flag_here verb name f (w ∷ ws) flagged = rw flagged refl

option_passed : (verb : Verb) (name n v : List ℕ) (ws : List (List ℕ)) → is_flag verb n ≡ false → has_flag verb name (n ∷ v ∷ ws) ≡ has_flag verb name ws
option_passed verb name n v ws plain = rw plain refl

option_front : (verb : Verb) (n v : List ℕ) (ws : List (List ℕ)) → is_flag verb n ≡ false → are_options verb (n ∷ v ∷ ws) ≡ (is_option verb n ws && are_options verb ws)
option_front verb n v ws plain = rw plain refl

not_in : (g : Given) (gs : List Given) → IsNew (name_of g) gs → IsIn g gs → ⊥
not_in g [] new is = absurd is
not_in g (h ∷ gs) new (inl e) = new.0 (ap name_of e)
not_in g (h ∷ gs) new (inr is) = not_in g gs new.1 is

-- ---- the value of an option
past_flag : (f : List ℕ) (gs : List Given) (name : List ℕ) (value : Option (List ℕ)) → IsValueOf name (flag f ∷ gs) value → IsValueOf name gs value
past_flag f gs name None is = λ v h. is v (inr h)
past_flag f gs name (Some v) (inl e) = absurd (cc e)
past_flag f gs name (Some v) (inr h) = h

value_here :
    (same : Bool) (n v : List ℕ) (gs : List Given) (name : List ℕ) (value rest : Option (List ℕ)) → Choice same (n ≡ name) → IsNew n gs
    → IsValueOf name (option n v ∷ gs) value → (IsValueOf name gs value → rest ≡ value) → (if same then Some v else rest) ≡ value
value_here true n v gs name None rest e new is later = absurd (is v (inl (ap (λ m. option m v) e)))
value_here true n v gs name (Some w) rest e new (inl f) later = cc f
value_here true n v gs name (Some w) rest e new (inr h) later = absurd (not_in (option n w) gs new (subst (λ m. IsIn (option m w) gs) (sym e) h))
value_here false n v gs name None rest other new is later = later (λ w h. is w (inr h))
value_here false n v gs name (Some w) rest other new (inl f) later = absurd (other (cc f))
value_here false n v gs name (Some w) rest other new (inr h) later = later h

value_is : (verb : Verb) (givens : List Given) (name : List ℕ) (value : Option (List ℕ)) → IsLine verb givens → IsValueOf name givens value → value_of verb name (spelled givens) ≡ value
value_is verb [] name None line is = refl
value_is verb [] name (Some v) line is = absurd is
value_is verb (flag f ∷ gs) name value line is =
    flag_skipped verb name f (spelled gs) line.0 ∙ value_is verb gs name value line.2 (past_flag f gs name value is)
value_is verb (option n v ∷ gs) name value line is =
    option_first verb name n v (spelled gs) (takes_no_flag verb n line.0)
    ∙ value_here (bytes_eq n name) n v gs name value (value_of verb name (spelled gs)) (same_bytes n name) line.1 is (value_is verb gs name value line.2)

not_under_flag : (f : List ℕ) (gs : List Given) (name v : List ℕ) → (IsIn (option name v) gs → ⊥) → IsIn (option name v) (flag f ∷ gs) → ⊥
not_under_flag f gs name v never (inl e) = cc e
not_under_flag f gs name v never (inr h) = never h

onto_flag : (f : List ℕ) (gs : List Given) (name : List ℕ) (value : Option (List ℕ)) → IsValueOf name gs value → IsValueOf name (flag f ∷ gs) value
onto_flag f gs name None is = λ v. not_under_flag f gs name v (is v)
onto_flag f gs name (Some v) is = inr is

not_under_option : (n v : List ℕ) (gs : List Given) (name w : List ℕ) → (n ≡ name → ⊥) → (IsIn (option name w) gs → ⊥) → IsIn (option name w) (option n v ∷ gs) → ⊥
not_under_option n v gs name w other never (inl e) = other (cc e)
not_under_option n v gs name w other never (inr h) = never h

onto_option :
    (same : Bool) (n v : List ℕ) (gs : List Given) (name : List ℕ) (rest : Option (List ℕ)) → Choice same (n ≡ name)
    → IsValueOf name gs rest → IsValueOf name (option n v ∷ gs) (if same then Some v else rest)
onto_option true n v gs name rest e is = inl (ap (λ m. option m v) e)
onto_option false n v gs name None other is = λ w. not_under_option n v gs name w other (is w)
onto_option false n v gs name (Some w) other is = inr is

value_held : (verb : Verb) (givens : List Given) (name : List ℕ) → IsLine verb givens → IsValueOf name givens (value_of verb name (spelled givens))
value_held verb [] name line = λ v h. h
value_held verb (flag f ∷ gs) name line =
    subst (IsValueOf name (flag f ∷ gs)) (sym (flag_skipped verb name f (spelled gs) line.0)) (onto_flag f gs name (value_of verb name (spelled gs)) (value_held verb gs name line.2))
value_held verb (option n v ∷ gs) name line =
    subst (IsValueOf name (option n v ∷ gs)) (sym (option_first verb name n v (spelled gs) (takes_no_flag verb n line.0)))
    (onto_option (bytes_eq n name) n v gs name (value_of verb name (spelled gs)) (same_bytes n name) (value_held verb gs name line.2))

pub values_are_given : ValuesAreGiven
values_are_given verb givens name value line =
    (value_is verb givens name value line, λ e. subst (IsValueOf name givens) e (value_held verb givens name line))

-- ---- flags
neither_flag : (f : List ℕ) (gs : List Given) (name : List ℕ) → (f ≡ name → ⊥) → (IsIn (flag name) gs → ⊥) → IsIn (flag name) (flag f ∷ gs) → ⊥
neither_flag f gs name other never (inl e) = other (cc e)
neither_flag f gs name other never (inr h) = never h

flagged_here : (same rest : Bool) (f : List ℕ) (gs : List Given) (name : List ℕ) → Choice same (f ≡ name) → IsFlagged name gs rest → IsFlagged name (flag f ∷ gs) (same || rest)
flagged_here true rest f gs name e is = inl (ap flag e)
flagged_here false true f gs name other is = inr is
flagged_here false false f gs name other is = neither_flag f gs name other is

no_option : (n v : List ℕ) (gs : List Given) (name : List ℕ) → (IsIn (flag name) gs → ⊥) → IsIn (flag name) (option n v ∷ gs) → ⊥
no_option n v gs name never (inl e) = cc e
no_option n v gs name never (inr h) = never h

flagged_later : (n v : List ℕ) (gs : List Given) (name : List ℕ) (rest : Bool) → IsFlagged name gs rest → IsFlagged name (option n v ∷ gs) rest
flagged_later n v gs name true is = inr is
flagged_later n v gs name false is = no_option n v gs name is

flag_held : (verb : Verb) (givens : List Given) (name : List ℕ) → IsLine verb givens → IsFlagged name givens (has_flag verb name (spelled givens))
flag_held verb [] name line = λ h. h
flag_held verb (flag f ∷ gs) name line =
    subst (IsFlagged name (flag f ∷ gs)) (sym (flag_here verb name f (spelled gs) line.0))
    (flagged_here (bytes_eq f name) (has_flag verb name (spelled gs)) f gs name (same_bytes f name) (flag_held verb gs name line.2))
flag_held verb (option n v ∷ gs) name line =
    subst (IsFlagged name (option n v ∷ gs)) (sym (option_passed verb name n v (spelled gs) (takes_no_flag verb n line.0)))
    (flagged_later n v gs name (has_flag verb name (spelled gs)) (flag_held verb gs name line.2))

flags_agree : (name : List ℕ) (gs : List Given) (a b : Bool) → IsFlagged name gs a → IsFlagged name gs b → a ≡ b
flags_agree name gs true true x y = refl
flags_agree name gs true false x y = absurd (y x)
flags_agree name gs false true x y = absurd (x y)
flags_agree name gs false false x y = refl

flag_is : (verb : Verb) (givens : List Given) (name : List ℕ) (there : Bool) → IsLine verb givens → IsFlagged name givens there → has_flag verb name (spelled givens) ≡ there
flag_is verb givens name there line is = flags_agree name givens _ there (flag_held verb givens name line) is

pub flags_are_given : FlagsAreGiven
flags_are_given verb givens name there line =
    (flag_is verb givens name there line, λ e. subst (IsFlagged name givens) e (flag_held verb givens name line))

-- the words of valid options and flags are accepted
pub lines_are_options : LinesAreOptions
unfolding is_option
lines_are_options verb [] line = refl
lines_are_options verb (flag f ∷ gs) line =
    let once : has_flag verb f (spelled gs) ≡ false = flag_is verb gs f false line.2 (not_in (flag f) gs line.1) in
    flag_first verb f (spelled gs) line.0 ∙ (ap (λ b. not b && are_options verb (spelled gs)) once ∙ lines_are_options verb gs line.2)
lines_are_options verb (option n v ∷ gs) line =
    let once : value_of verb n (spelled gs) ≡ None = value_is verb gs n None line.2 (λ w. not_in (option n w) gs line.1) in
    option_front verb n v (spelled gs) (takes_no_flag verb n line.0)
    ∙ (ap (λ b. (b && is_none (value_of verb n (spelled gs))) && are_options verb (spelled gs)) line.0
    ∙ (ap (λ o. is_none o && are_options verb (spelled gs)) once ∙ lines_are_options verb gs line.2))

-- words that are accepted are those of valid options and flags
and_left : (a b : Bool) → (a && b) ≡ true → a ≡ true
and_left true b e = refl
and_left false b e = cc e

and_right : (a b : Bool) → (a && b) ≡ true → b ≡ true
and_right true b e = e
and_right false b e = cc e

not_true : (b : Bool) → not b ≡ true → b ≡ false
not_true true e = cc e
not_true false e = refl

none_there : {X : Type 0} (o : Option X) → is_none o ≡ true → o ≡ None
none_there None e = refl
none_there (Some x) e = cc e

new_flag : (verb : Verb) (f : List ℕ) (gs : List Given) → is_flag verb f ≡ true → IsLine verb gs → (IsIn (flag f) gs → ⊥) → IsNew f gs
new_flag verb f [] flagged line never = tt
new_flag verb f (flag g ∷ gs) flagged line never = ((λ e. never (inl (ap flag e))), new_flag verb f gs flagged line.2 (λ h. never (inr h)))
new_flag verb f (option n v ∷ gs) flagged line never =
    ((λ e. both (is_flag verb f) flagged (subst (λ m. is_flag verb m ≡ false) e (takes_no_flag verb n line.0))), new_flag verb f gs flagged line.2 (λ h. never (inr h)))

new_option : (verb : Verb) (n : List ℕ) (gs : List Given) → takes verb n ≡ true → IsLine verb gs → ((v : List ℕ) → IsIn (option n v) gs → ⊥) → IsNew n gs
new_option verb n [] taken line never = tt
new_option verb n (flag g ∷ gs) taken line never =
    ((λ e. both (is_flag verb g) line.0 (subst (λ m. is_flag verb m ≡ false) (sym e) (takes_no_flag verb n taken))), new_option verb n gs taken line.2 (λ v h. never v (inr h)))
new_option verb n (option m v ∷ gs) taken line never =
    ((λ e. never v (inl (ap (λ k. option k v) e))), new_option verb n gs taken line.2 (λ w h. never w (inr h)))

with_flag : (verb : Verb) (f : List ℕ) (ws : List (List ℕ)) → is_flag verb f ≡ true → has_flag verb f ws ≡ false → IsSpelled verb ws → IsSpelled verb (f ∷ ws)
with_flag verb f ws flagged once rest =
    let never : IsFlagged f rest.givens false = (flags_are_given verb rest.givens f false rest.line).1 (ap (has_flag verb f) rest.is ∙ once) in
    record { givens = flag f ∷ rest.givens; line = (flagged, new_flag verb f rest.givens flagged rest.line never, rest.line); is = ap (λ ws. f ∷ ws) rest.is }

with_option : (verb : Verb) (n v : List ℕ) (ws : List (List ℕ)) → takes verb n ≡ true → value_of verb n ws ≡ None → IsSpelled verb ws → IsSpelled verb (n ∷ v ∷ ws)
with_option verb n v ws taken once rest =
    let never : IsValueOf n rest.givens None = (values_are_given verb rest.givens n None rest.line).1 (ap (value_of verb n) rest.is ∙ once) in
    record { givens = option n v ∷ rest.givens; line = (taken, new_option verb n rest.givens taken rest.line never, rest.line); is = ap (λ ws. n ∷ v ∷ ws) rest.is }

pub options_are_lines : OptionsAreLines
unfolding is_option
options_are_lines verb [] are = record { givens = []; line = tt; is = refl }
options_are_lines verb (f ∷ []) are = record { givens = flag f ∷ []; line = (are, tt, tt); is = refl }
options_are_lines verb (f ∷ v ∷ ws) are =
    elim (is_flag verb f) as (λ b. is_flag verb f ≡ b → IsSpelled verb (f ∷ v ∷ ws)) [
      | true ↦ λ flagged.
          let parts = sym (flag_first verb f (v ∷ ws) flagged) ∙ are in
          with_flag verb f (v ∷ ws) flagged (not_true _ (and_left _ _ parts)) (options_are_lines verb (v ∷ ws) (and_right _ _ parts))
      | false ↦ λ plain.
          let parts = sym (option_front verb f v ws plain) ∙ are in
          let here = and_left _ _ parts in
          with_option verb f v ws (and_left _ _ here) (none_there _ (and_right _ _ here)) (options_are_lines verb ws (and_right _ _ parts))
    ] refl

-- the command of a line
command_is : (verb : Verb) (word : List ℕ) (givens : List Given) → verb_of word ≡ Some verb → IsLine verb givens → command_of (word ∷ spelled givens) ≡ command_by verb (spelled givens)
command_is verb word givens names line = rw (names, lines_are_options verb givens line) refl

record AreThree {A B C D : Type 0} (a : Option A) (b : Option B) (c : Option C) (make : A → B → C → Option D) (d : D) : Type 0 where
  x : A
  y : B
  z : C
  is_x : a ≡ Some x
  is_y : b ≡ Some y
  is_z : c ≡ Some z
  made : make x y z ≡ Some d

three : {A B C D : Type 0} (a : Option A) (b : Option B) (c : Option C) (make : A → B → C → Option D) (d : D) → with_three a b c make ≡ Some d → AreThree a b c make d
three (Some x) (Some y) (Some z) make d e = record { x = x; y = y; z = z; is_x = refl; is_y = refl; is_z = refl; made = e }
three (Some x) (Some y) None make d e = cc e
three (Some x) None c make d e = cc e
three None b c make d e = cc e

mapped : {A B : Type 0} (o : Option A) (f : A → B) (y : B) → option_map f o ≡ Some y → (x : A) × (o ≡ Some x) × (f x ≡ y)
mapped (Some x) f y is = (x, refl, cc is)
mapped None f y is = cc is

asked_by : (verb : Verb) (givens : List Given) (asked : Command) → IsLine verb givens → command_by verb (spelled givens) ≡ Some asked → Asks verb givens asked
asked_by Module givens asked line e =
    let found = three _ _ _ _ asked e in
    record {
      key = found.x;
      associated_data = found.y;
      file = found.z;
      has_key = (values_are_given Module givens (codes "--key") (Some found.x) line).1 found.is_x;
      has_data = (values_are_given Module givens (codes "--aad") (Some found.y) line).1 found.is_y;
      has_file = (values_are_given Module givens (codes "--file") (Some found.z) line).1 found.is_z;
      is = found.made;
    }
asked_by Thrift givens asked line e =
    let found = mapped _ _ asked e in
    record { file = found.0; has_file = (values_are_given Thrift givens (codes "--file") (Some found.0) line).1 found.1; is = found.2 }
asked_by Footer givens asked line e =
    let found = three _ _ _ _ asked e in
    let prefix : value_of Footer (codes "--prefix") (spelled givens) ≡ found.z = cc found.is_z in
    record {
      file = found.x;
      keys = found.y;
      prefix = found.z;
      gcm_only = has_flag Footer (codes "--gcm-only") (spelled givens);
      has_file = (values_are_given Footer givens (codes "--file") (Some found.x) line).1 found.is_x;
      has_keys = (values_are_given Footer givens (codes "--keys") (Some found.y) line).1 found.is_y;
      has_prefix = (values_are_given Footer givens (codes "--prefix") found.z line).1 prefix;
      has_gcm_only = flag_held Footer givens (codes "--gcm-only") line;
      is = found.made;
    }

asks_for : (verb : Verb) (givens : List Given) (asked : Command) → IsLine verb givens → Asks verb givens asked → command_by verb (spelled givens) ≡ Some asked
asks_for Module givens asked line a =
    rw (value_is Module givens (codes "--key") (Some a.key) line a.has_key, value_is Module givens (codes "--aad") (Some a.associated_data) line a.has_data, value_is Module givens (codes "--file") (Some a.file) line a.has_file) a.is
asks_for Thrift givens asked line a = rw (value_is Thrift givens (codes "--file") (Some a.file) line a.has_file) (ap Some a.is)
asks_for Footer givens asked line a =
    rw (value_is Footer givens (codes "--file") (Some a.file) line a.has_file, value_is Footer givens (codes "--keys") (Some a.keys) line a.has_keys, value_is Footer givens (codes "--prefix") a.prefix line a.has_prefix, flag_is Footer givens (codes "--gcm-only") a.gcm_only line a.has_gcm_only) a.is

pub lines_ask_by_givens : LinesAskByGivens
lines_ask_by_givens verb word givens asked names line = (
  λ e. asked_by verb givens asked line (sym (command_is verb word givens names line) ∙ e),
  λ a. command_is verb word givens names line ∙ asks_for verb givens asked line a,
)

-- two lines with the same options and flags
value_moved : (xs ys : List Given) (name : List ℕ) (value : Option (List ℕ)) → ((given : Given) → IsIn given xs ↔ IsIn given ys) → IsValueOf name xs value → IsValueOf name ys value
value_moved xs ys name None same is = λ v h. is v ((same (option name v)).1 h)
value_moved xs ys name (Some v) same is = (same (option name v)).0 is

flag_moved : (xs ys : List Given) (name : List ℕ) (there : Bool) → ((given : Given) → IsIn given xs ↔ IsIn given ys) → IsFlagged name xs there → IsFlagged name ys there
flag_moved xs ys name false same is = λ h. is ((same (flag name)).1 h)
flag_moved xs ys name true same is = (same (flag name)).0 is

module _ (verb : Verb) (xs ys : List Given) (in_xs : IsLine verb xs) (in_ys : IsLine verb ys) (same : (given : Given) → IsIn given xs ↔ IsIn given ys) where
  same_value : (name : List ℕ) → value_of verb name (spelled ys) ≡ value_of verb name (spelled xs)
  same_value name = value_is verb ys name _ in_ys (value_moved xs ys name _ same (value_held verb xs name in_xs))

  same_flag : (name : List ℕ) → has_flag verb name (spelled ys) ≡ has_flag verb name (spelled xs)
  same_flag name = flag_is verb ys name _ in_ys (flag_moved xs ys name _ same (flag_held verb xs name in_xs))

same_command : (verb : Verb) (xs ys : List Given) → IsLine verb xs → IsLine verb ys → ((given : Given) → IsIn given xs ↔ IsIn given ys) → command_by verb (spelled xs) ≡ command_by verb (spelled ys)
same_command Module xs ys in_xs in_ys same =
    rw (same_value Module xs ys in_xs in_ys same (codes "--key"), same_value Module xs ys in_xs in_ys same (codes "--aad"), same_value Module xs ys in_xs in_ys same (codes "--file")) refl
same_command Thrift xs ys in_xs in_ys same = rw (same_value Thrift xs ys in_xs in_ys same (codes "--file")) refl
same_command Footer xs ys in_xs in_ys same =
    rw (same_value Footer xs ys in_xs in_ys same (codes "--file"), same_value Footer xs ys in_xs in_ys same (codes "--keys"), same_value Footer xs ys in_xs in_ys same (codes "--prefix"), same_flag Footer xs ys in_xs in_ys same (codes "--gcm-only")) refl

pub order_is_free : OrderIsFree
order_is_free word verb xs ys names in_xs in_ys same =
    command_is verb word xs names in_xs ∙ (same_command verb xs ys in_xs in_ys same ∙ sym (command_is verb word ys names in_ys))

passed : {X : Type 0} (b : Bool) (o : Option X) (x : X) → (if b then o else None) ≡ Some x → b ≡ true
passed true o x e = refl
passed false o x e = cc e

line_of : (word : List ℕ) (words : List (List ℕ)) (found : Option Verb) (asked : Command) → verb_of word ≡ found → command_of (word ∷ words) ≡ Some asked → IsLineOf (word ∷ words)
line_of word words None asked names e =
    let wrong : command_of (word ∷ words) ≡ None = rw names refl in absurd (cc (wrong, e))
line_of word words (Some verb) asked names e =
    let is : command_of (word ∷ words) ≡ (if are_options verb words then command_by verb words else None) = rw names refl in
    let rest = options_are_lines verb words (passed (are_options verb words) (command_by verb words) asked (sym is ∙ e)) in
    record { word = word; verb = verb; givens = rest.givens; names = names; line = rest.line; is = ap (λ ws. word ∷ ws) rest.is }

pub commands_have_lines : CommandsHaveLines
commands_have_lines [] asked e = cc e
commands_have_lines (word ∷ words) asked e = line_of word words (verb_of word) asked refl e
