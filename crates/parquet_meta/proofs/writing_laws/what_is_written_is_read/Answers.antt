use Rattle.parquet_meta.proofs.ReadBackProved.{page_head_read, file_crypto_read, column_meta_read, raw_file_meta_read, file_meta_read, signing_read}
use Rattle.parquet_meta.proofs.writing_laws.what_is_written_is_read.Goals as goal

pub returns-clause-page_head : goal.returns-clause-page_head
returns-clause-page_head c = page_head_read

pub returns-clause-file_crypto : goal.returns-clause-file_crypto
returns-clause-file_crypto c = file_crypto_read

pub returns-clause-column_meta : goal.returns-clause-column_meta
returns-clause-column_meta c = column_meta_read

pub returns-clause-raw_file_meta : goal.returns-clause-raw_file_meta
returns-clause-raw_file_meta c = raw_file_meta_read

pub returns-clause-file_meta : goal.returns-clause-file_meta
returns-clause-file_meta c = file_meta_read

pub returns-clause-signing : goal.returns-clause-signing
returns-clause-signing c = signing_read
