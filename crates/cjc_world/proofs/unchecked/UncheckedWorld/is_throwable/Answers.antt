use Rattle.std.proofs.Common.{sym, subst}
use Rattle.cjc_world.specs.Classes.{all_classes}
use Rattle.cjc_world.specs.Working.Tables.{IsTable}
use Rattle.cjc_world.proofs.Adding.{table-of}
use Rattle.cjc_world.proofs.unchecked.UncheckedWorld.is_throwable.Goals as goal

pub is_below-requires : goal.is_below-requires
is_below-requires c =
    let w = all_classes c.self.inside.class_index in
    subst (λ rows. IsTable w rows) (sym c.items.ensures) (table-of w c.self.inside.tables.above c.self.invariant.part
    (c.self.invariant.acyclic c.in-None.is))

pub is_throwable-requires : goal.is_throwable-requires
is_throwable-requires c = c.self.invariant.asked c.in-Some.cycles c.in-Some.is
