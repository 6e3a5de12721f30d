-- The text of a tree, as `pme thrift` prints it.
use Rattle.std.specs.Prelude.{ℕ, ℤ, Bool, true, false, List, [], ◌∷◌, ◌++◌, codes}
use Rattle.std.specs.Fmt.{signed_decimal}
use Rattle.std.specs.List.{join_by}
use Rattle.hex.specs.Hex.{encode_lower}
use Rattle.thrift_compact.specs.Tree.{Tree, truth, int8, int16, int32, int64, double, binary, list, set, map, struct, Trees, no_trees, tree, Pairs, no_pairs, pair, Fields, no_fields, field}

-- the texts, separated by a comma and a space
abbrev pub joined : List (List ℕ) → List ℕ
joined texts = join_by (λ text. text) (codes ", ") texts

-- the separator in front of a text, which the first one lacks
abbrev pub comma : Bool → List ℕ
comma true = []
comma false = codes ", "

abbrev pub truth_text : Bool → List ℕ
truth_text true = codes "true"
truth_text false = codes "false"

abbrev pub pair_text : List ℕ → List ℕ → List ℕ
pair_text key value = key ++ codes "=>" ++ value

abbrev pub field_text : ℤ → List ℕ → List ℕ
field_text id value = signed_decimal id ++ codes ": " ++ value

abbrev mutual
  pub shown : Tree → List ℕ
  shown (truth t) = truth_text t
  shown (int8 z) = signed_decimal z
  shown (int16 z) = signed_decimal z
  shown (int32 z) = signed_decimal z
  shown (int64 z) = signed_decimal z
  shown (double bytes) = codes "d" ++ encode_lower bytes
  shown (binary bytes) = codes "x" ++ encode_lower bytes
  shown (list ts) = codes "[" ++ joined (item_texts ts) ++ codes "]"
  shown (set ts) = codes "<" ++ joined (item_texts ts) ++ codes ">"
  shown (map ps) = codes "(" ++ joined (pair_texts ps) ++ codes ")"
  shown (struct fs) = codes "{" ++ joined (field_texts fs) ++ codes "}"

  pub item_texts : Trees → List (List ℕ)
  item_texts no_trees = []
  item_texts (tree t ts) = shown t ∷ item_texts ts

  pub pair_texts : Pairs → List (List ℕ)
  pair_texts no_pairs = []
  pair_texts (pair key value ps) = pair_text (shown key) (shown value) ∷ pair_texts ps

  pub field_texts : Fields → List (List ℕ)
  field_texts no_fields = []
  field_texts (field id t fs) = field_text id (shown t) ∷ field_texts fs
