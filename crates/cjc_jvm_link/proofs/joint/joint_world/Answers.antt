use Rattle.std.proofs.Common.{◌≡◌, subst, true}
use Rattle.std.specs.Prelude.{IfOk, MatchOption}
use Rattle.cjc_world.specs.Classes.{all_classes}
use Rattle.cjc_world.specs.Rules.{has_cycle}
use Rattle.cjc_jvm_link.proofs.Together.{together}
use Rattle.cjc_jvm_link.proofs.joint.joint_world.Goals as goal

pub returns : goal.returns
returns c =
    let lines = rw (c.items.ensures, c.items-2.ensures) at c.in_ok-lines.ensures in
    subst (λ f. IfOk c.untested.result (λ o. MatchOption o (has_cycle (all_classes f) ≡ true) (λ w. w ≡ f)))
    (together c.args.packages.now c.in_ok-lines.lines c.args.classes c.args.exports c.in_ok-outside.outside
    c.requires.classes c.requires.exports c.in_ok-outside.ensures lines) c.untested.ensures
