use Rattle.std.proofs.Common.{◌≡◌, ◌++◌, drop}
use Rattle.std.specs.Io.{StartsWith}
use Rattle.thrift_compact.specs.Text.{joined, item_texts, pair_texts, field_texts}
use Rattle.thrift_compact.specs.View.{trees_view, pairs_view, fields_view}
use Rattle.thrift_compact.proofs.Texts.{still}
use Rattle.thrift_compact.proofs.show.+show.Given as goal

abbrev pub invariant-show_list-loop-item : goal.invariant-show_list-loop-item
invariant-show_list-loop-item l = record {
  rest : l.into ++ still l.first (item_texts (trees_view (drop l.item-index l.item-items))) ≡ l.initial.into ++ joined (item_texts (trees_view l.item-items));
  front : StartsWith l.into l.fn.into;
}

abbrev pub invariant-show_map-loop-pair : goal.invariant-show_map-loop-pair
invariant-show_map-loop-pair l = record {
  rest : l.into ++ still l.first (pair_texts (pairs_view (drop l.pair-index l.pair-items))) ≡ l.initial.into ++ joined (pair_texts (pairs_view l.pair-items));
  front : StartsWith l.into l.fn.into;
}

abbrev pub invariant-show_struct-loop-field : goal.invariant-show_struct-loop-field
invariant-show_struct-loop-field l = record {
  rest : l.into ++ still l.first (field_texts (fields_view (drop l.field-index l.field-items))) ≡ l.initial.into ++ joined (field_texts (fields_view l.field-items));
  front : StartsWith l.into l.fn.into;
}
