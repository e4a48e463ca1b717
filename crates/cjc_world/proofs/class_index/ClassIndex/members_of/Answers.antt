use Rattle.std.proofs.Common.{◌≡◌, ap, ◌∙◌}
use Rattle.std.specs.Prelude.{None, Some, slice_get}
use Rattle.cjc_world.specs.Classes.{all_classes, class_at}
use Rattle.cjc_world.specs.Working.Known.{class_of}
use Rattle.cjc_world.proofs.class_index.ClassIndex.members_of.Goals as goal

pub returns-in-Some : goal.returns-in-Some
returns-in-Some c =
    let w = all_classes c.args.self.now in
    let k = class_of c.args.class in
    let here : slice_get w c.in-Some.place ≡ Some k =
    c.in-Some.ensures ∙ ap (λ b. class_at w b c.number.result) c.is_imported.ensures
    ∙ ap (class_at w k.is_imported) c.number.ensures ∙ c.requires in
    c.members_in.ensures k here

pub returns-in-None : goal.returns-in-None
returns-in-None c =
    let w = all_classes c.args.self.now in
    let k = class_of c.args.class in
    let none : class_at w c.is_imported.result c.number.result ≡ None = c.in-None.ensures in
    let there : class_at w c.is_imported.result c.number.result ≡ Some k =
    ap (λ b. class_at w b c.number.result) c.is_imported.ensures ∙ ap (class_at w k.is_imported) c.number.ensures
    ∙ c.requires in
    cc
