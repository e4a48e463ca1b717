use Rattle.std.proofs.Common.{List, Option, sym, ◌∙◌, ap}
use Rattle.cjc_types.specs.declared.cell.Cell.{Cell}
use Rattle.cjc_types.specs.States.{stack_of}
use Rattle.cjc_frames.specs.Acts.{stack_after, stack_behind}
use Rattle.cjc_frames.specs.Known.{stack_in}
use Rattle.cjc_frames.proofs.changes.after_stack.Goals as goal

pub returns-in_ok-stack_behind-in-Some : goal.returns-in_ok-stack_behind-in-Some
returns-in_ok-stack_behind-in-Some c =
    c.stack_of.ensures ∙ ap stack_of (c.in_ok-stack_behind-in-Some.ensures
    ∙ ap (stack_behind c.args.act.now c.args.locals.now) c.items.ensures)
    ∙ ap (λ (s : Option (List Cell)). stack_after c.args.act.now c.args.locals.now (stack_in s)) (sym c.in-Some.is)
