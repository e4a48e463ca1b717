use Rattle.std.proofs.Common.{◌≡◌, Option, option_map, sym, subst}
use Rattle.cjc_fixpoint.specs.Kept.{handed_on}
use Rattle.cjc_fixpoint.proofs.Runs.{no_mark}
use Rattle.cjc_types.specs.declared.table.Frame.{Frame}
use Rattle.cjc_types.specs.Flow.{type_flow}
use Rattle.cjc_types.specs.Search.{frame_of}
use Rattle.cjc_types.specs.Tables.{state_of}
use Rattle.cjc_types.proofs.Passing.{ascend, handed_is}
use Rattle.cjc_types.proofs.walk.handed_frame.Goals as goal

pub returns-then-is_at : goal.returns-then-is_at
returns-then-is_at c lt none =
    absurd (no_mark c.args.marks.now (ascend c.args.method.now c.args.marks.now c.requires.marks) c.args.mark _ none
    (c.is_at.ensures.0 c.if-is_at.true))

pub returns-in_ok-handed-in-Some : goal.returns-in_ok-handed-in-Some
returns-in_ok-handed-in-Some c lt none =
    subst (λ (o : Option Frame). c.frame_in.result ≡ option_map frame_of (handed_on (type_flow c.args.method.now)
    c.args.at (option_map state_of o))) (sym c.in-Some.is)
    (handed_is c.args.method.now c.args.marks.now c.args.at c.in-Some.frame c.state_of.result
    c.in_ok-handed-in-Some.handed c.frame_in.result c.requires.marks none c.state_of.ensures
    c.in_ok-handed-in-Some.ensures c.frame_in.ensures)
