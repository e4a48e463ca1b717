use Rattle.std.proofs.Common.{sym, subst}
use Rattle.cjc_world.specs.Classes.{all_classes}
use Rattle.cjc_world.specs.Supertypes.{IsAcyclic}
use Rattle.cjc_world.specs.Working.Unchecked.{AreTables}
use Rattle.cjc_world.proofs.Gets.{kept-tables}
use Rattle.cjc_world.proofs.unchecked.UncheckedWorld.into_parts.Goals as goal

pub returns-clause-tables : goal.returns-clause-tables
returns-clause-tables c = λ acyclic.
    let d = c.self.inside in
    subst (λ f. AreTables f d.tables) c.self.view_is
    (kept-tables d.class_index d.tables d.cycles c.self.invariant (subst (λ f. IsAcyclic (all_classes f))
    (sym c.self.view_is) acyclic))
