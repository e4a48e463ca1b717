use Rattle.std.specs.Prelude.{[]}
use Rattle.cjc_int_alike.proofs.Tables.{is_sound, is_read, is_decoded}
use Rattle.cjc_int_alike.proofs.methods.least_tables_are_sound.Goals as goal

pub returns-clause-sound : goal.returns-clause-sound
returns-clause-sound c = is_sound

pub returns-clause-read : goal.returns-clause-read
returns-clause-read c = is_read

pub returns-clause-decoded : goal.returns-clause-decoded
returns-clause-decoded c = λ files code class method tree is. is_decoded files code class method tree is [] []
