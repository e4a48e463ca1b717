use Rattle.std.proofs.Common.{sym, subst}
use Rattle.cjc_world.specs.Classes.{all_classes}
use Rattle.cjc_world.specs.Tables.{IsTable}
use Rattle.cjc_world.proofs.draft.Draft.is_below.Goals as goal

pub is_below-requires : goal.is_below-requires
is_below-requires c = subst (λ rows. IsTable (all_classes c.self.inside.roster) rows) (sym c.items.ensures) (c.self.invariant.some c.in-Some.tables c.in-Some.is).above
