use Rattle.std.proofs.Common.{sym, subst}
use Rattle.cjc_world.specs.Classes.{all_classes}
use Rattle.cjc_world.specs.Working.Tables.{IsTable}
use Rattle.cjc_world.proofs.world.World.find_field_from.Goals as goal

pub find_field-requires : goal.find_field-requires
find_field-requires c = subst (λ f. IsTable (all_classes f) c.rows.result.now) (sym c.self.view_is) c.rows.ensures
