use Rattle.std.proofs.Common.{sym, subst, false, [], ◌∷◌}
use Rattle.cjc_world.specs.Supertypes.{supertypes}
use Rattle.cjc_world.specs.Interfaces.{gathered, known}
use Rattle.cjc_world.specs.Classes.{all_classes}
use Rattle.cjc_world.specs.Working.Places.{IsWalk}
use Rattle.cjc_world.proofs.Walked.{interfaces-walk, none-walk}
use Rattle.cjc_world.proofs.class_index.ClassIndex.interface_places.Goals as goal

pub returns-in-Some : goal.returns-in-Some
returns-in-Some c =
    let w = all_classes c.args.self.now in
    subst (λ places. IsWalk w (known (gathered false (supertypes w (c.args.class.now ∷ [])))) places) (sym
    c.row_at.ensures)
    (interfaces-walk w c.args.rows.now c.requires c.args.class.now c.in-Some.place (sym c.in-Some.ensures))

pub returns-in-None : goal.returns-in-None
returns-in-None c = none-walk (all_classes c.args.self.now) c.args.rows.now c.requires c.args.class.now
    (sym c.in-None.ensures)
