use Rattle.std.proofs.Common.{◌≡◌, List, ℕ, sym, ap, subst, ◌∙◌, length}
use Rattle.std.proofs.lemmas.Bool.{eqb-true}
use Rattle.std.specs.Prelude.{OnOk}
use Rattle.cjc_world.specs.Classes.{all_classes}
use Rattle.cjc_world.specs.Working.Known.{class_of}
use Rattle.cjc_subset.specs.Limits.{noted}
use Rattle.cjc_subset.proofs.Noted.{listed_of_above, listed_of_none, listed_of_other}
use Rattle.cjc_subset.proofs.interfaces.note_above.Goals as goal

pub returns-then-is_empty : goal.returns-then-is_empty
returns-then-is_empty c = listed_of_none (all_classes c.args.world.now) c.args.class.now (class_of c.args.other)
    (ap length (sym c.interfaces.ensures) ∙ eqb-true (length c.interfaces.result.now) 0 (sym c.is_empty.ensures
    ∙ c.if-is_empty.true)) c.args.known.now

pub returns-then-is_above : goal.returns-then-is_above
returns-then-is_above c =
    let e = c.interfaces-then-is_above.ensures ∙ listed_of_above (all_classes c.args.world.now) c.args.class.now
    (class_of c.args.other) (sym c.is_above.ensures ∙ c.if-is_above.true) in
    subst (λ (xs : List (List ℕ)). OnOk c.note.result (c.note.new.known ≡ noted c.args.known.now xs)) e c.note.ensures

pub returns-else-is_above : goal.returns-else-is_above
returns-else-is_above c = listed_of_other (all_classes c.args.world.now) c.args.class.now (class_of c.args.other)
    (sym c.is_above.ensures ∙ c.if-is_above.false) c.args.known.now
