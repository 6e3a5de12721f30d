use Rattle.parquet_meta.proofs.FooterShaped.{read_shape}
use Rattle.parquet_meta.proofs.footer_laws.read_footers_are_shaped.Goals as goal

pub returns : goal.returns
returns c = read_shape
