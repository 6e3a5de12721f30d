use Rattle.std.proofs.Common.{◌≡◌, ◌+◌, List, ◌++◌, ◌∷◌, [], length, ap, sym, ◌∙◌, arith}
use Rattle.std.proofs.lemmas.List.{length-append}
use Rattle.parquet_types.specs.declared.column.ColumnSpec.{ColumnSpec}
use Rattle.plain_pages.specs.Cells.{Cell, cell_of}
use Rattle.plain_pages.specs.Columns.{Column, IsCellOf, level_of, marked, cells_kept, levels_in}
use Rattle.plain_pages.proofs.Kept.{kept_length, length-levels, level_one, ready, pushed_keeps, pushed_cells}
use Rattle.plain_pages.proofs.table_column.TableColumn.push.Goals as goal

pub put_mark-requires : goal.put_mark-requires
put_mark-requires c =
    let inside = c.self.inside in
    record {
      counted = kept_length inside.spec _ inside.count inside.levels.items inside.marks.items inside.values.items _ c.self.invariant;
      capacity = c.self.invariant.has_capacity;
    }

pub put_level-requires : goal.put_level-requires
put_level-requires c =
    let inside = c.self.inside in
    let ls = levels_in inside.spec.optional inside.count inside.levels.items in
    let cells = cells_kept inside.spec.kind ls inside.values.items in
    let k = c.self.invariant in
    let place : c.len.result ≡ length inside.values.items = omega (arith, c.len.ensures, inside.values.ok) in
    let long : length ls ≡ inside.count = length-levels inside.spec cells ls inside.marks.items inside.values.items k.kept ∙ sym k.counted in
    let marks : c.put_mark.new.marks.items ≡ marked (length ls) (length inside.values.items) inside.marks.items =
    rw (long, ← place) c.in_ok-put_mark.ensures.marked in
    let next = ready inside.spec cells ls inside.marks.items inside.values.items k.kept in
    let same = ap length marks in
    let kept = kept_length inside.spec cells inside.count inside.levels.items inside.marks.items inside.values.items _ k in
    let spec : inside.spec ≡ c.args.self.now.spec = ap (λ (v : Column). v.spec) c.self.view_is in
    let one : IsCellOf inside.spec (cell_of c.args.cell) = rw spec c.requires in
    record {
      counted = λ optional. ap length c.put_mark.ensures.levels ∙ kept optional;
      capacity = λ optional. omega (arith, c.put_mark.ensures.capacity optional, same, next.capacity, kept optional, k.counted, ap length c.put_mark.ensures.levels, c.put_mark.new.levels.ok);
      required = λ required. c.level_of.ensures ∙ level_one inside.spec (cell_of c.args.cell) one required;
    }

pub invariant_of-self-2 : goal.invariant_of-self-2
invariant_of-self-2 c =
    let inside = c.self.inside in
    let ls = levels_in inside.spec.optional inside.count inside.levels.items in
    let cells = cells_kept inside.spec.kind ls inside.values.items in
    let k = c.self.invariant in
    let levels : levels_in inside.spec.optional (inside.count + 1) c.put_level.new.levels.items ≡ ls ++ level_of (cell_of c.args.cell) ∷ [] =
    c.put_level.ensures.levels ∙ rw (c.put_mark.ensures.levels, c.level_of.ensures) in
    let place : c.len.result ≡ length inside.values.items = omega (arith, c.len.ensures, inside.values.ok) in
    let long : length ls ≡ inside.count = length-levels inside.spec cells ls inside.marks.items inside.values.items k.kept ∙ sym k.counted in
    let marks : c.put_mark.new.marks.items ≡ marked (length ls) (length inside.values.items) inside.marks.items =
    rw (long, ← place) c.in_ok-put_mark.ensures.marked in
    let spec : inside.spec ≡ c.args.self.now.spec = ap (λ (v : Column). v.spec) c.self.view_is in
    let one : IsCellOf inside.spec (cell_of c.args.cell) = rw spec c.requires in
    let next = ready inside.spec cells ls inside.marks.items inside.values.items k.kept in
    let pushed = pushed_cells inside.spec cells (cell_of c.args.cell) ls _ inside.values.items _ _ next one levels c.in_ok-put_value.ensures.put in
    record {
      named = k.named;
      counted = omega (arith, k.counted, ap length pushed, length-append cells (cell_of c.args.cell ∷ []));
      kept = rw marks (pushed_keeps inside.spec cells (cell_of c.args.cell) ls _ inside.values.items _ _ next one levels c.in_ok-put_value.ensures.put);
      has_capacity = λ optional. rw c.put_level.ensures.capacity (c.put_mark.ensures.capacity optional);
    }

with_cells : (spec : ColumnSpec) (old : Column) (cells more : List Cell) (cell : Cell) → spec ≡ old.spec → cells ≡ old.cells → more ≡ cells ++ cell ∷ []
    → (let new : Column = record { spec = spec; cells = more } in new) ≡ record { spec = old.spec; cells = old.cells ++ cell ∷ [] }
with_cells spec old cells more cell e f g = rw (g, f, e)

pub returns-clause-pushed : goal.returns-clause-pushed
returns-clause-pushed c =
    let inside = c.self.inside in
    let ls = levels_in inside.spec.optional inside.count inside.levels.items in
    let cells = cells_kept inside.spec.kind ls inside.values.items in
    let k = c.self.invariant in
    let levels : levels_in inside.spec.optional (inside.count + 1) c.put_level.new.levels.items ≡ ls ++ level_of (cell_of c.args.cell) ∷ [] =
    c.put_level.ensures.levels ∙ rw (c.put_mark.ensures.levels, c.level_of.ensures) in
    let spec : inside.spec ≡ c.args.self.now.spec = ap (λ (v : Column). v.spec) c.self.view_is in
    let one : IsCellOf inside.spec (cell_of c.args.cell) = rw spec c.requires in
    let next = ready inside.spec cells ls inside.marks.items inside.values.items k.kept in
    with_cells inside.spec c.args.self.now cells _ (cell_of c.args.cell) spec (ap (λ (v : Column). v.cells) c.self.view_is)
    (pushed_cells inside.spec cells (cell_of c.args.cell) ls _ inside.values.items _ _ next one levels c.in_ok-put_value.ensures.put)
