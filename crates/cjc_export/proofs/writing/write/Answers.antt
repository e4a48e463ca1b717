use Rattle.cjc_export.proofs.Spelling.{written_spells}
use Rattle.cjc_export.proofs.writing.write.Goals as goal

pub returns-clause-spelt : goal.returns-clause-spelt
returns-clause-spelt c = rw c.in_ok-bytes.ensures (written_spells c.args.tree.now c.requires)
