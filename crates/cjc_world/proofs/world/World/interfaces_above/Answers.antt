use Rattle.std.proofs.Common.{sym, subst}
use Rattle.cjc_world.specs.Classes.{all_classes}
use Rattle.cjc_world.specs.Working.Tables.{IsTable}
use Rattle.cjc_world.proofs.world.World.interfaces_above.Goals as goal

pub interface_places-requires : goal.interface_places-requires
interface_places-requires c = subst (λ f. IsTable (all_classes f) c.rows.result.now) (sym c.self.view_is) c.rows.ensures
