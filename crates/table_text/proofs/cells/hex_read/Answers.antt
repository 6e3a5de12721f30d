use Rattle.std.proofs.Common.{◌≡◌, ◌/◌, false, is_err, length, sym, ◌∙◌}
use Rattle.std.proofs.lemmas.List.{take_at}
use Rattle.std.specs.List.{list_any}
use Rattle.std.specs.Char.{is_ascii_uppercase}
use Rattle.hex.specs.Hex.{decode_of}
use Rattle.table_text.specs.Cells.{hex_read}
use Rattle.table_text.proofs.CellLemmas.{decoded, sized_whole}
use Rattle.table_text.proofs.cells.hex_read.Goals as goal

pub returns : goal.returns
unfolding hex_read
returns c =
    let half : length c.as_mut_slice.result.now ≡ length c.args.field.now / 2 = c.as_mut_slice.ensures.len ∙ c.in_ok-resize.ensures.len in
    let lower : list_any is_ascii_uppercase c.args.field.now ≡ false = sym c.has_uppercase.ensures ∙ c.if-has_uppercase.false in
    let good : is_err c.decode_to_slice.result ≡ false = sym c.is_err.ensures.value ∙ c.if-is_err.false in
    let whole : c.as_slice.result.now ≡ c.decode_to_slice.new.out =
    c.as_slice.ensures.value ∙ take_at c.decode_to_slice.new.out _ _ (c.decode_to_slice.auto.out ∙ c.as_mut_slice.ensures.len) in
    let answer = rw (half, sized_whole c.args.field.now) at c.decode_to_slice.ensures.value in
    rw (lower, whole) (sym (decoded (decode_of c.args.field.now) c.decode_to_slice.result c.decode_to_slice.new.out answer good))
