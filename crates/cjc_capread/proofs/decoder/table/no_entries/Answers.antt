use Rattle.cjc_capread.proofs.DecoderLaws.Tables.{numbers_none}
use Rattle.cjc_capread.proofs.decoder.table.no_entries.Goals as goal

pub returns-clause-none : goal.returns-clause-none
returns-clause-none c = numbers_none c.args.matches
