use Rattle.std.proofs.Common.{◌≡◌, false, List, sym, ap, ◌∙◌}
use Rattle.std.specs.Prelude.{◌&&◌, not, Option, Some, option_and_then, if◌then◌else◌}
use Rattle.cjc_world.specs.Bytes.declared.fault.MemberId.{MemberId}
use Rattle.cjc_world.specs.declared.found.Found.{Found}
use Rattle.cjc_world.specs.Classes.{Class, all_classes, class_named}
use Rattle.cjc_world.specs.Lookup.{own_method}
use Rattle.cjc_world.specs.Working.Known.{class_of}
use Rattle.cjc_jvm_semantics.specs.Group.{find_exposed, joint_method}
use Rattle.cjc_jvm_link.proofs.links.Links.joint_method.Goals as goal

-- what the class of the name answers
abbrev in_class : List Class → (owner : Class) → MemberId → Class → Option Found
in_class w owner id c = if owner.is_imported && not c.is_imported then find_exposed w owner.name id
    else own_method false id.name id.desc c

here : (w : List Class) (owner : Class) (id : MemberId) (c : Class) → class_named w owner.name ≡ Some c
    → (owner.is_imported && not c.is_imported) ≡ false → joint_method w owner id ≡ own_method false id.name id.desc c
here w owner id c named own = ap (option_and_then (in_class w owner id)) named
    ∙ ap (λ t. if t then find_exposed w owner.name id else own_method false id.name id.desc c) own

pub returns : goal.returns
unfolding own_method
returns c =
    let files : c.self.inside.world.now ≡ c.args.self.now.files = ap (λ k. k.files) c.self.view_is in
    let w = all_classes c.args.self.now.files in
    let named = ap (class_named w) (sym c.name.ensures)
    ∙ ap (λ f. class_named (all_classes f) c.name.result.now) (sym files) ∙ sym c.in-Some.ensures.named in
    c.own_where.ensures ∙ sym (here w (class_of c.args.owner) c.args.id.now (class_of c.in-Some.class) named
    (sym c.is_of_group.ensures ∙ c.if-is_of_group.false))
