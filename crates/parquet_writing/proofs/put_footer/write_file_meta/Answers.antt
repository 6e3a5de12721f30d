use Rattle.std.proofs.Common.{◌∙◌, ap, sym}
use Rattle.thrift_compact.specs.Tree.{struct}
use Rattle.parquet_writing.specs.Plans.{file_meta_data}
use Rattle.parquet_writing.proofs.Laid.{laid_canonical}
use Rattle.parquet_writing.proofs.PlansLaid.{file_meta_laid}
use Rattle.parquet_writing.proofs.PutFields.{struct_put}
use Rattle.parquet_writing.proofs.put_footer.write_file_meta.Goals as goal

pub returns : goal.returns
returns c =
    let plan = c.args.plan.now in
    c.finish.ensures
    ∙ (ap (λ d. d.out) (struct_put (file_meta_data plan) c.new-writer.result c.struct_begin.new.self c.put_file_meta.new.writer c.struct_end.new.self c.new-writer.ensures c.in_ok-struct_begin.ensures.ok c.in_ok-put_file_meta.ensures.fields c.in_ok-struct_end.ensures.ok)
    ∙ sym (laid_canonical 32 (struct (file_meta_data plan)) (file_meta_laid plan c.requires)))
