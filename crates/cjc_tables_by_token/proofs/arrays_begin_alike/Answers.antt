use Rattle.cjc_tables_by_token.proofs.Arrays.{arrays_begin}
use Rattle.cjc_tables_by_token.proofs.arrays_begin_alike.Goals as goal

pub returns : goal.returns
returns c = λ p codes image. arrays_begin p codes image
