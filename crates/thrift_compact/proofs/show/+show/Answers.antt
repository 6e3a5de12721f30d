use Rattle.std.proofs.Common.{ap, drop_of_length-le}
use Rattle.std.proofs.lemmas.Result.{on_ok_weaker}
use Rattle.thrift_compact.specs.Text.{pair_texts, field_texts}
use Rattle.thrift_compact.specs.View.{pairs_view, fields_view}
use Rattle.thrift_compact.proofs.Texts.{still-end}
use Rattle.thrift_compact.proofs.Views.{map_view_is, struct_view_is}
use Rattle.thrift_compact.proofs.show.+show.Goals as goal

pub show_map-returns-clause-ok : goal.show_map-returns-clause-ok
show_map-returns-clause-ok t c =
    let over = ap (λ ps. pair_texts (pairs_view ps)) (drop_of_length-le c.as_slice-pair-items.result.now {i = c.loop-pair.pair-index} c.loop-pair-test.false) in
    rw (map_view_is c.args.map.now.pairs, ← c.as_slice-pair-items.ensures)
    (on_ok_weaker c.push-2.result (still-end _ _ _ _ 40 41 _ _ _ c.in_ok-push.ensures.ok over c.loop-pair.invariant.rest) c.push-2.ensures.ok)

pub show_struct-returns-clause-ok : goal.show_struct-returns-clause-ok
show_struct-returns-clause-ok t c =
    let over = ap (λ fs. field_texts (fields_view fs)) (drop_of_length-le c.as_slice-field-items.result.now {i = c.loop-field.field-index} c.loop-field-test.false) in
    rw (struct_view_is c.args.fields.now.fields, ← c.as_slice-field-items.ensures)
    (on_ok_weaker c.push-2.result (still-end _ _ _ _ 123 125 _ _ _ c.in_ok-push.ensures.ok over c.loop-field.invariant.rest) c.push-2.ensures.ok)
