-- The lines of columns, one after another.
use Rattle.std.proofs.Common.{◌≡◌, ℕ, ◌≤◌, ◌-◌, List, [], ◌∷◌, ◌++◌, codes, length, take, drop, slice_index_or, sym, ◌∙◌, ap, append_assoc, arith}
use Rattle.std.proofs.lemmas.List.{take_all, append-nil}
use Rattle.parquet_types.specs.declared.column.ColumnSpec.{ColumnSpec}
use Rattle.table_text.specs.Texts.{heading_text}
use Rattle.read_commands.specs.TailText.{line_of, column_lines}

-- the words behind the first
abbrev behind : List ColumnSpec → List ColumnSpec
behind columns = take (length columns - 1) (drop 1 columns)

-- the first column's line stands before the others
pub line_first : (text new : List ℕ) (columns : List ColumnSpec) (column : ColumnSpec) → 1 ≤ length columns → column ≡ slice_index_or columns 0 column
    → new ≡ text ++ line_of (codes "column ") (heading_text column)
    → new ++ column_lines (take (length columns - 1) (drop 1 columns)) ≡ text ++ column_lines columns
line_first text new [] column some same e = absurd (omega (arith, some))
line_first text new (c ∷ rest) column some same e =
    let all : behind (c ∷ rest) ≡ rest = take_all _ rest (omega arith) in
    let here : column ≡ c = same in
    ap (λ t. t ++ column_lines (behind (c ∷ rest))) e
    ∙ append_assoc text (line_of (codes "column ") (heading_text column)) (column_lines (behind (c ∷ rest)))
    ∙ ap (λ rest. text ++ (line_of (codes "column ") (heading_text column) ++ column_lines rest)) all
    ∙ ap (λ (first : ColumnSpec). text ++ (line_of (codes "column ") (heading_text first) ++ column_lines rest)) here

-- no column is left
pub none_left : (text : List ℕ) (columns : List ColumnSpec) → length columns ≡ 0 → text ≡ text ++ column_lines columns
none_left text [] none = sym (append-nil text)
none_left text (c ∷ rest) none = absurd (omega (arith, none))
