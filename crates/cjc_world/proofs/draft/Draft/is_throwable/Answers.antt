use Rattle.std.proofs.Common.{sym, subst}
use Rattle.cjc_world.specs.Classes.{all_classes}
use Rattle.cjc_world.specs.Working.Tables.{IsTable}
use Rattle.cjc_world.proofs.draft.Draft.is_throwable.Goals as goal

pub is_below-requires : goal.is_below-requires
is_below-requires c = subst (λ rows. IsTable (all_classes c.self.inside.roster) rows) (sym c.items.ensures) (c.self.invariant.tables c.in-Tables.tables c.in-Tables.is).above

pub is_throwable-requires : goal.is_throwable-requires
is_throwable-requires c = c.self.invariant.cycles c.in-Cycles.cycles c.in-Cycles.is
