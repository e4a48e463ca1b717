use Rattle.std.proofs.Common.{◌≡◌, ◌∙◌, ◌-◌, ◌<◌, ◌≤◌, ap, sym, length, arith, Some}
use Rattle.std.specs.Prelude.{option_map}
use Rattle.cjc_world.specs.Classes.{all_classes, class_at}
use Rattle.cjc_world.specs.Working.Known.{class_of}
use Rattle.cjc_tokens.specs.Working.{signature_in}
use Rattle.cjc_vtable.specs.Naming.{method_named}
use Rattle.cjc_vtable.proofs.SlotNames.{named-in, named-nowhere, named-field, named-method}
use Rattle.cjc_vtable.proofs.naming.named.Goals as goal

pub returns-in_err-class : goal.returns-in_err-class
returns-in_err-class c =
    ap (option_map signature_in) c.from_residual.ensures
    ∙ sym (named-nowhere (all_classes c.args.world.now) c.args.found (sym c.class_with.ensures
    ∙ ap (option_map class_of) c.in_err-class.was))

pub returns-then-member-fields : goal.returns-then-member-fields
returns-then-member-fields c =
    let w = all_classes c.args.world.now in
    let d = class_of c.in_ok-class.class in
    let at : class_at w c.args.found.imported c.args.found.class ≡ Some d = sym c.class_with.ensures
    ∙ ap (option_map class_of) c.in_ok-class.was in
    let lt : c.args.found.member < length d.fields = omega arith in
    sym (named-in w c.args.found d at ∙ named-field w c.args.found.member d lt)

pub returns-else-member-fields : goal.returns-else-member-fields
returns-else-member-fields c =
    let w = all_classes c.args.world.now in
    let d = class_of c.in_ok-class.class in
    let at : class_at w c.args.found.imported c.args.found.class ≡ Some d = sym c.class_with.ensures
    ∙ ap (option_map class_of) c.in_ok-class.was in
    let le : length d.fields ≤ c.args.found.member = omega arith in
    c.method_at.ensures
    ∙ ap (λ n. method_named w d (c.args.found.member - n)) c.field_count-fields.ensures
    ∙ sym (named-in w c.args.found d at ∙ named-method w c.args.found.member d le)
