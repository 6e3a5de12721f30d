use Rattle.table_text.proofs.DrawLemmas.{amount_named, blob_named, city_named, flag_named, id_named}
use Rattle.table_text.proofs.generated.Columns.new.Goals as goal

pub empty-requires : goal.empty-requires
empty-requires c = id_named

pub empty-requires-2 : goal.empty-requires-2
empty-requires-2 c = flag_named

pub empty-requires-3 : goal.empty-requires-3
empty-requires-3 c = city_named

pub empty-requires-4 : goal.empty-requires-4
empty-requires-4 c = amount_named

pub empty-requires-5 : goal.empty-requires-5
empty-requires-5 c = blob_named
