use Rattle.std.proofs.Common.{◌≤◌, ◌∙◌, List, ap, length, subst}
use Rattle.std.specs.List.{flat_map}
use Rattle.cjc_bytes.proofs.Gets.{take_past}
use Rattle.cjc_capread.specs.declared.tree.ClassDescriptor.{ClassDescriptor}
use Rattle.cjc_check_rules.specs.Classes.{is_own_class}
use Rattle.cjc_verify.proofs.ListedMethods.{flat_filter}
use Rattle.cjc_verify.specs.Bodies.{listed_in}
use Rattle.cjc_verify.specs.Working.Bodies.{listed_where}
use Rattle.cjc_verify.proofs.listed.all_listed.Goals as goal

pub returns : goal.returns
returns c =
    let parts = c.args.names.now.parts.now in
    let info = parts.class.now in
    let d = parts.descriptor.now in
    let k = c.loop-class.class-index in
    let past : length d.classes ≤ k = subst (λ (ds : List ClassDescriptor). length ds ≤ k) c.items-class-items.ensures
    c.loop-class-test.false in
    c.loop-class.invariant
    ∙ ap (flat_map (listed_where info)) (take_past d.classes k past)
    ∙ flat_filter listed_in (λ (x : ClassDescriptor). is_own_class info x.this_class) d.classes
