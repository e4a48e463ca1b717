use Rattle.std.proofs.Common.{sym, ap, ◌∙◌}
use Rattle.std.specs.Prelude.{option_map}
use Rattle.cjc_world.specs.Classes.{all_classes}
use Rattle.cjc_world.specs.Working.Known.{class_of}
use Rattle.cjc_world.proofs.ByPlace.{place-class, place-none}
use Rattle.cjc_world.proofs.class_index.ClassIndex.class_named.Goals as goal

pub returns-in_err-place-clause-named : goal.returns-in_err-place-clause-named
returns-in_err-place-clause-named c =
    ap (option_map class_of) c.from_residual.ensures ∙ sym (place-none (all_classes c.args.self.now) c.args.name.now
    (sym c.in_err-place.ensures))

pub returns-clause-named : goal.returns-clause-named
returns-clause-named c =
    let d = place-class (all_classes c.args.self.now) c.args.name.now c.in_ok-place.place (sym c.in_ok-place.ensures) in
    c.class_in.ensures.at ∙ d.1 ∙ sym d.2
