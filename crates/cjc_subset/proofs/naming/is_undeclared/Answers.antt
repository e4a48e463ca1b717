use Rattle.std.proofs.Common.{◌≡◌, ◌∙◌, sym, ap}
use Rattle.std.specs.Prelude.{Some, None, option_map, position}
use Rattle.cjc_world.specs.Classes.{all_classes, class_named}
use Rattle.cjc_world.specs.Lookup.{is_called}
use Rattle.cjc_world.specs.Working.Known.{class_of}
use Rattle.cjc_subset.proofs.Callees.{declared_at}
use Rattle.cjc_subset.proofs.naming.is_undeclared.Goals as goal

pub returns-in-Some-place : goal.returns-in-Some-place
returns-in-Some-place c =
    let w = all_classes c.args.world.now in
    let k = class_of c.in-Some.class in
    let named : class_named w c.args.id.now.class ≡ Some k = ap (class_named w) (sym c.items.ensures)
    ∙ sym c.class_named.ensures.named ∙ ap (option_map class_of) c.in-Some.is in
    let at : position (λ m. is_called c.args.id.now.name c.args.id.now.desc m) k.methods
    ≡ Some c.in-Some-place.field-0 =
    ap (λ n. position (λ m. is_called n c.args.id.now.desc m) k.methods) (sym c.items-in-Some.ensures)
    ∙ ap (λ d. position (λ m. is_called c.items-in-Some.result.now d m) k.methods) (sym c.items-in-Some-2.ensures)
    ∙ sym c.place.ensures ∙ c.in-Some-place.is in
    sym (declared_at w c.args.id.now.class c.args.id.now.name c.args.id.now.desc k (Some c.in-Some-place.field-0) named
    at)

pub returns-in-None-place : goal.returns-in-None-place
returns-in-None-place c =
    let w = all_classes c.args.world.now in
    let k = class_of c.in-Some.class in
    let named : class_named w c.args.id.now.class ≡ Some k = ap (class_named w) (sym c.items.ensures)
    ∙ sym c.class_named.ensures.named ∙ ap (option_map class_of) c.in-Some.is in
    let at : position (λ m. is_called c.args.id.now.name c.args.id.now.desc m) k.methods ≡ None =
    ap (λ n. position (λ m. is_called n c.args.id.now.desc m) k.methods) (sym c.items-in-Some.ensures)
    ∙ ap (λ d. position (λ m. is_called c.items-in-Some.result.now d m) k.methods) (sym c.items-in-Some-2.ensures)
    ∙ sym c.place.ensures ∙ c.in-None-place.is in
    sym (declared_at w c.args.id.now.class c.args.id.now.name c.args.id.now.desc k None named at)
