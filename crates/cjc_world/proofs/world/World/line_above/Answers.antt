use Rattle.std.proofs.Common.{sym, subst}
use Rattle.cjc_world.specs.Classes.{all_classes}
use Rattle.cjc_world.specs.Working.Tables.{IsTable}
use Rattle.cjc_world.proofs.world.World.line_above.Goals as goal

pub line_places-requires : goal.line_places-requires
line_places-requires c = subst (λ f. IsTable (all_classes f) c.rows.result.now) (sym c.self.view_is) c.rows.ensures
