use Rattle.std.proofs.Common.{false, sym, ap, ◌∙◌}
use Rattle.std.specs.Prelude.{slice_get, unwrap_or}
use Rattle.cjc_world.specs.Classes.{all_classes}
use Rattle.cjc_world.proofs.Stepping.{none-throwable}
use Rattle.cjc_world.proofs.class_index.ClassIndex.is_throwable.Goals as goal

pub returns-in-Some : goal.returns-in-Some
returns-in-Some c =
    c.is_set.ensures ∙ ap (λ r. unwrap_or (slice_get r c.in-Some.place) false) c.items.ensures
    ∙ ap (λ o. unwrap_or o false) (c.requires.below c.args.class.now c.in-Some.place (sym c.in-Some.ensures))

pub returns-in-None : goal.returns-in-None
returns-in-None c = c.eq.ensures ∙ none-throwable (all_classes c.args.self.now) c.args.class.now (sym c.in-None.ensures)
