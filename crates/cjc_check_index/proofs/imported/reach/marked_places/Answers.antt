use Rattle.cjc_check_index.proofs.ImportedLaws.Marks.{marked_all}
use Rattle.cjc_check_index.proofs.imported.reach.marked_places.Goals as goal

pub returns : goal.returns
returns c = marked_all c.loop-i.i c.args.marks.now c.loop-i.places.items _ c.loop-i-test.false c.loop-i.invariant
