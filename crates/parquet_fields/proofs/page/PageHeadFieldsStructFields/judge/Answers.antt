use Rattle.std.proofs.Common.{SFits, w32, rules}
use Rattle.std.proofs.lemmas.Int.{to_z-of_z}
use Rattle.parquet_fields.proofs.Pages.{page_judged}
use Rattle.parquet_fields.proofs.page.PageHeadFieldsStructFields.judge.Goals as goal

pub returns : goal.returns
returns c =
    let one : SFits w32 c.in_ok-page_type.page_type = search rules in
    let two : SFits w32 c.in_ok-uncompressed.uncompressed = search rules in
    let three : SFits w32 c.in_ok-compressed.compressed = search rules in
    let is = simp to_z-of_z at c.page_of_type.ensures in
    page_judged _ _ _ _ _ _ _ c.in_ok-page_type.ensures c.in_ok-uncompressed.ensures c.in_ok-compressed.ensures c.in_ok-counts.ensures c.in_ok-dictionary.ensures is
