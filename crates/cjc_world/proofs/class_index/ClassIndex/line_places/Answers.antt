use Rattle.std.proofs.Common.{sym, subst, [], ◌∷◌}
use Rattle.cjc_world.specs.Supertypes.{line}
use Rattle.cjc_world.specs.Classes.{all_classes}
use Rattle.cjc_world.specs.Working.Places.{IsWalk}
use Rattle.cjc_world.proofs.Walked.{line-walks, none-walks}
use Rattle.cjc_world.proofs.class_index.ClassIndex.line_places.Goals as goal

pub returns-in-Some : goal.returns-in-Some
returns-in-Some c =
    let w = all_classes c.args.self.now in
    subst (λ places. IsWalk w (line w c.args.class.now) places) (sym c.row_at.ensures)
    (line-walks w c.args.rows.now c.requires c.args.class.now c.in-Some.place (sym c.in-Some.ensures))

pub returns-in-None : goal.returns-in-None
returns-in-None c = none-walks (all_classes c.args.self.now) c.args.rows.now c.requires c.args.class.now
    (sym c.in-None.ensures)
