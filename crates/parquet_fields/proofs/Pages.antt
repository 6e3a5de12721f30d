-- A PageHeader judged by its fields.
use Rattle.std.proofs.Common.{◌≡◌, ℤ, pos, Option, Ok, sym, ◌∙◌}
use Rattle.pme_base.specs.declared.refusal.StructName.TheVariants as name
use Rattle.pme_base.proofs.Chain.{bind_at}
use Rattle.parquet_types.specs.declared.page_head.PageHead.{PageHead}
use Rattle.parquet_fields.specs.declared.page.PageHeadFields.{PageHeadFields}
use Rattle.parquet_fields.specs.declared.page_parts.DataCounts.{DataCounts}
use Rattle.parquet_fields.specs.declared.page_parts.DictionaryCounts.{DictionaryCounts}
use Rattle.parquet_fields.specs.Fields.{Checked, needed, optional}
use Rattle.parquet_fields.specs.Structs.{page_of_type, page_head_of}

pub page_judged : (known : PageHeadFields) (t v w : ℤ) (d : Option DataCounts) (o : Option DictionaryCounts) (answer : Checked PageHead) → Ok t ≡ needed name.PageHeader (pos 1) known.page_type → Ok v ≡ needed name.PageHeader (pos 2) known.uncompressed → Ok w ≡ needed name.PageHeader (pos 3) known.compressed → Ok d ≡ optional name.PageHeader (pos 5) known.counts → Ok o ≡ optional name.PageHeader (pos 7) known.dictionary → answer ≡ page_of_type t v w d o → answer ≡ page_head_of known
page_judged known t v w d o answer one two three four five is =
    is ∙ sym (bind_at (needed name.PageHeader (pos 1) known.page_type) _ t (sym one) ∙ (bind_at (needed name.PageHeader (pos 2) known.uncompressed) _ v (sym two) ∙ (bind_at (needed name.PageHeader (pos 3) known.compressed) _ w (sym three) ∙ (bind_at (optional name.PageHeader (pos 5) known.counts) _ d (sym four) ∙ bind_at (optional name.PageHeader (pos 7) known.dictionary) _ o (sym five)))))
