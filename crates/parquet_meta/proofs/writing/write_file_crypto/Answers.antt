use Rattle.parquet_meta.proofs.WritersRead.{ok_of_bytes, file_crypto_back}
use Rattle.parquet_meta.proofs.writing.write_file_crypto.Goals as goal

pub returns-clause-read_back : goal.returns-clause-read_back
returns-clause-read_back c = ok_of_bytes _ _ _ c.write_file_crypto.ensures (file_crypto_back c.args.algorithm.now c.args.key_metadata.now c.requires.0 c.requires.1)
