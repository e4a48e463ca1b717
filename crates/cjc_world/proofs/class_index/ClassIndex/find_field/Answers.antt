use Rattle.std.proofs.Common.{sym, ap, ◌∙◌}
use Rattle.std.specs.Prelude.{slice_get}
use Rattle.cjc_world.specs.Working.Places.{first_place, field_of}
use Rattle.cjc_world.proofs.Walked.{fields-find, none-field}
use Rattle.cjc_world.specs.Classes.{all_classes}
use Rattle.cjc_world.proofs.class_index.ClassIndex.find_field.Goals as goal

pub returns-in-Some : goal.returns-in-Some
returns-in-Some c =
    let w = all_classes c.args.self.now in
    c.first_field.ensures ∙ ap (first_place (λ q. field_of c.args.name.now c.args.desc.now (slice_get w q)))
    c.row_at.ensures
    ∙ fields-find w c.args.rows.now c.requires c.args.class.now c.in-Some.place (sym c.in-Some.ensures) c.args.name.now
    c.args.desc.now

pub returns-in-None : goal.returns-in-None
returns-in-None c = none-field (all_classes c.args.self.now) c.args.rows.now c.requires c.args.class.now c.args.name.now
    c.args.desc.now (sym c.in-None.ensures)
