use Rattle.cjc_check_index.proofs.ImportedLaws.Names.{index_all}
use Rattle.cjc_check_index.proofs.imported.classes.places_of.Goals as goal

pub returns : goal.returns
returns c = λ name. index_all c.loop-i.i c.args.classes.now name _ _ c.loop-i-test.false (c.loop-i.invariant name)
