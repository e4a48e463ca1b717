use Rattle.std.proofs.Common.{[], false, ap, ◌∙◌}
use Rattle.cjc_world.specs.declared.tables.Order.TheVariants as orders
use Rattle.cjc_world.specs.Classes.{all_classes}
use Rattle.cjc_world.specs.Working.Known.{class_of}
use Rattle.cjc_world.specs.Working.Places.{at_places, joined}
use Rattle.cjc_world.specs.Working.Tables.{pieces}
use Rattle.cjc_world.proofs.Once.{superclasses-at}
use Rattle.cjc_world.proofs.world.World.superclasses.Goals as goal

pub returns : goal.returns
returns c =
    let w = all_classes c.args.self.now in
    let rows = c.rows.result.now in
    let k = class_of c.args.class in
    ap (at_places w) (c.in_ok-places.ensures
    ∙ ap (λ f. joined [] (pieces (all_classes f) orders.Line false rows k.supers)) c.self.view_is)
    ∙ superclasses-at w rows c.rows.ensures k
