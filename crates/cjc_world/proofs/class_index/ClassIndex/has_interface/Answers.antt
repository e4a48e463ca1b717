use Rattle.std.proofs.Common.{sym, ap, ◌∙◌}
use Rattle.std.specs.List.{list_any}
use Rattle.std.specs.Prelude.{slice_get}
use Rattle.cjc_world.specs.Working.Places.{has_name}
use Rattle.cjc_world.proofs.Walked.{interfaces-have, none-has}
use Rattle.cjc_world.specs.Classes.{all_classes}
use Rattle.cjc_world.proofs.class_index.ClassIndex.has_interface.Goals as goal

pub returns-in-Some : goal.returns-in-Some
returns-in-Some c =
    let w = all_classes c.args.self.now in
    c.any_has_name.ensures ∙ ap (list_any (λ q. has_name c.args.interface.now (slice_get w q))) c.row_at.ensures
    ∙ interfaces-have w c.args.rows.now c.requires c.args.class.now c.in-Some.place (sym c.in-Some.ensures)
    c.args.interface.now

pub returns-in-None : goal.returns-in-None
returns-in-None c = none-has (all_classes c.args.self.now) c.args.rows.now c.requires c.args.class.now
    c.args.interface.now (sym c.in-None.ensures)
