use Rattle.std.proofs.Common.{false, sym, ap, ◌∙◌}
use Rattle.cjc_world.specs.Classes.{all_classes}
use Rattle.cjc_world.specs.Lookup.{own_of}
use Rattle.cjc_world.specs.Working.Places.{method_of}
use Rattle.cjc_world.proofs.ByPlace.{place-class, place-none}
use Rattle.cjc_world.proofs.class_index.ClassIndex.own_of.Goals as goal

pub returns-in-Some : goal.returns-in-Some
returns-in-Some c =
    let d = place-class (all_classes c.args.self.now) c.args.class.now c.in-Some.place (sym c.in-Some.ensures) in
    c.method_in.ensures ∙ ap (method_of false c.args.name.now c.args.desc.now) d.1
    ∙ sym (ap (own_of c.args.name.now c.args.desc.now) d.2)

pub returns-in-None : goal.returns-in-None
returns-in-None c = sym (ap (own_of c.args.name.now c.args.desc.now) (place-none (all_classes c.args.self.now)
    c.args.class.now (sym c.in-None.ensures)))
