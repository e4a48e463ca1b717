use Rattle.cjc_check_index.proofs.ImportedLaws.Names.{places_all}
use Rattle.cjc_check_index.proofs.imported.graph.places.Goals as goal

pub returns : goal.returns
returns c = λ classes index. places_all c.loop-name.name-index c.args.names.now classes c.loop-name.row _
    c.loop-name-test.false (c.loop-name.invariant classes index)
