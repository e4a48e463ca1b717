use Rattle.std.proofs.Common.{sym, ap, ◌∙◌}
use Rattle.std.specs.List.{list_any}
use Rattle.std.specs.Prelude.{slice_get}
use Rattle.cjc_world.specs.Working.Places.{names_of}
use Rattle.cjc_world.proofs.Walked.{fields-stand, none-stands}
use Rattle.cjc_world.specs.Classes.{all_classes}
use Rattle.cjc_world.proofs.class_index.ClassIndex.is_subclass.Goals as goal

pub returns-in-Some : goal.returns-in-Some
returns-in-Some c =
    let w = all_classes c.args.self.now in
    c.any_naming.ensures ∙ ap (list_any (λ q. names_of c.args.sup.now (slice_get w q))) c.row_at.ensures
    ∙ fields-stand w c.args.rows.now c.requires c.args.sub.now c.in-Some.place (sym c.in-Some.ensures) c.args.sup.now

pub returns-in-None : goal.returns-in-None
returns-in-None c = c.eq.ensures ∙ none-stands (all_classes c.args.self.now) c.args.rows.now c.requires c.args.sub.now
    c.args.sup.now (sym c.in-None.ensures)
