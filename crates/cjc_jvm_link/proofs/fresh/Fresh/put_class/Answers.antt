use Rattle.std.proofs.Common.{◌≡◌, ◌∙◌, ap, sym, ◌++◌, ◌∷◌, [], map}
use Rattle.std.proofs.lemmas.Result.{on_ok_weaker}
use Rattle.cjc_world.specs.Classes.{all_classes}
use Rattle.cjc_world.specs.Working.Known.{class_of}
use Rattle.cjc_jvm_semantics.specs.Effects.{fresh_field}
use Rattle.cjc_jvm_semantics.specs.OnePackage.{declared_fields}
use Rattle.cjc_jvm_link.specs.Fresh.{fresh_fields}
use Rattle.cjc_jvm_link.proofs.Above.{fresh_class}
use Rattle.cjc_jvm_link.proofs.Keeping.{keep_fresh}
use Rattle.cjc_jvm_link.proofs.fresh.Fresh.put_class.Goals as goal

pub returns-clause-fresh : goal.returns-clause-fresh
returns-clause-fresh c =
    let w = all_classes c.args.world.now in
    let name = c.args.name.now in
    let class = class_of c.args.class in
    let fields = c.put_declared.new.fields in
    let is : fields ≡ fresh_fields w (name ∷ []) =
    c.in_ok-put_declared.ensures
    ∙ ap (λ z. z ++ map fresh_field (declared_fields class)) (c.in_ok-put_above.ensures
    ∙ ap (λ z. z ++ fresh_fields w c.supers.result.now) c.new-fields.ensures ∙ ap (fresh_fields w) c.supers.ensures)
    ∙ sym (fresh_class w c.acyclic.ensures name class c.requires.named) in
    on_ok_weaker c.keep.result (λ put. keep_fresh w name fields c.args.self.now c.keep.new.self put c.requires.fresh is)
    c.keep.ensures
