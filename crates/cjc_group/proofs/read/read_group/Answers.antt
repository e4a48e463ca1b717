use Rattle.cjc_group.proofs.Decided.{found_from, only_from, refused_from, breaks_from}
use Rattle.cjc_group.proofs.read.read_group.Goals as goal

pub returns-clause-found : goal.returns-clause-found
returns-clause-found c = found_from c.args.name.now c.args.bytes.now c.decided.result c.decided.ensures

pub returns-clause-only : goal.returns-clause-only
returns-clause-only c = λ ps. only_from c.args.name.now c.args.bytes.now c.decided.result ps c.decided.ensures

pub returns-clause-refused : goal.returns-clause-refused
returns-clause-refused c = refused_from c.args.name.now c.args.bytes.now c.decided.result c.decided.ensures

pub returns-clause-breaks : goal.returns-clause-breaks
returns-clause-breaks c = λ r. breaks_from c.args.name.now c.args.bytes.now c.decided.result r c.decided.ensures
