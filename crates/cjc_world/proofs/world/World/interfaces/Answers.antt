use Rattle.std.proofs.Common.{ap, ◌∙◌}
use Rattle.cjc_world.specs.Classes.{all_classes}
use Rattle.cjc_world.specs.Working.Known.{class_of}
use Rattle.cjc_world.specs.Working.Places.{at_places}
use Rattle.cjc_world.specs.Working.Tables.{above_at}
use Rattle.cjc_world.proofs.Once.{interfaces-at}
use Rattle.cjc_world.proofs.world.World.interfaces.Goals as goal

pub returns : goal.returns
returns c =
    let w = all_classes c.args.self.now in
    let rows = c.rows.result.now in
    let k = class_of c.args.class in
    ap (at_places w) (c.in_ok-places.ensures ∙ ap (λ f. (above_at (all_classes f) rows 0 k).interfaces) c.self.view_is)
    ∙ interfaces-at w rows c.rows.ensures k
