use Rattle.cjc_types.proofs.Above.{above_cells}
use Rattle.cjc_types.proofs.cell.is_above.Goals as goal

pub returns-in-Refs-Refs : goal.returns-in-Refs-Refs
returns-in-Refs-Refs c = λ h.
    above_cells c.args.left.now c.args.right.now c.in-Refs-Refs.types c.in-Refs-Refs.others c.items.result.now
    c.items-in-Refs-Refs.result.now c.in-Refs-Refs.is-0 c.in-Refs-Refs.is-1 c.items.ensures
    c.items-in-Refs-Refs.ensures c.requires.left c.requires.right (c.has_all.ensures h)
