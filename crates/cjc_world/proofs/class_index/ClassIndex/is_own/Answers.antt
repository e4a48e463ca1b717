use Rattle.std.proofs.Common.{false, sym, ap, subst, ◌||◌, ◌∙◌}
use Rattle.cjc_world.specs.Classes.{all_classes}
use Rattle.cjc_world.specs.Working.Known.{class_of}
use Rattle.cjc_world.specs.Working.Steps.{any_stands, IsDone}
use Rattle.cjc_world.proofs.Stepping.{own-stands, not-own}
use Rattle.cjc_world.proofs.class_index.ClassIndex.is_own.Goals as goal

pub returns-in-None : goal.returns-in-None
returns-in-None c = λ x e. not-own (all_classes c.args.self.now) x c.args.place e (sym c.in-None.ensures.at)

pub returns-in_ok-known-in-Some : goal.returns-in_ok-known-in-Some
returns-in_ok-known-in-Some c = λ x e.
    let w = all_classes c.args.self.now in
    let k = class_of c.in-Some.class in
    c.is_listed_below.ensures
    ∙ ap (λ v. any_stands w k.name v k.supers || any_stands w k.name v k.interfaces) c.deref.ensures.value
    ∙ own-stands w c.in_ok-known-in-Some.known.items x c.args.place k e (sym c.in-Some.ensures.at)
    (subst (λ n. IsDone w false n c.in_ok-known-in-Some.known.items) c.name.ensures c.in_ok-known-in-Some.ensures)
