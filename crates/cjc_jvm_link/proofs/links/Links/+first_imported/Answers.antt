use Rattle.std.proofs.Common.{◌≡◌, ◌<◌, ◌∙◌, ap, sym, subst, refl, [], ◌∷◌}
use Rattle.std.specs.Prelude.{Some, None}
use Rattle.cjc_world.specs.Classes.{all_classes, class_named, declared, imported}
use Rattle.cjc_world.specs.Supertypes.{IsAcyclic, supertypes, line}
use Rattle.cjc_world.specs.Working.Known.{class_of}
use Rattle.cjc_jvm_semantics.specs.OnePackage.{first_imported}
use Rattle.cjc_jvm_link.proofs.Calling.{imported_here, imported_nowhere, declared_above}
use Rattle.cjc_jvm_link.proofs.Heights.{supertypes_size, size_supers}
use Rattle.cjc_jvm_link.proofs.links.Links.+first_imported.Goals as goal

pub returns-in_default : goal.returns-in_default
returns-in_default t c =
    let files : c.self.inside.world.now ≡ c.args.self.now.files = ap (λ k. k.files) c.self.view_is in
    let acyclic : IsAcyclic (all_classes c.args.self.now.files) = subst (λ f. IsAcyclic (all_classes f)) files
    c.acyclic.ensures in
    let none : class_named (all_classes c.args.self.now.files) c.args.name.now ≡ None =
    ap (λ f. class_named (all_classes f) c.args.name.now) (sym files) ∙ sym c.in_default.ensures.named in
    sym (imported_nowhere (all_classes c.args.self.now.files) acyclic c.args.name.now none)

pub first_imported-requires : goal.first_imported-requires
first_imported-requires t c =
    let files : c.self.inside.world.now ≡ c.args.self.now.files = ap (λ k. k.files) c.self.view_is in
    let acyclic : IsAcyclic (all_classes c.args.self.now.files) = subst (λ f. IsAcyclic (all_classes f)) files
    c.acyclic.ensures in
    let w = all_classes c.args.self.now.files in
    let name = c.args.name.now in
    let class = c.in-Declared.class.now in
    let above = c.items-in-Declared.result.now in
    let named : class_named w name ≡ Some (declared c.in-Declared.field-0 class) =
    ap (λ f. class_named (all_classes f) name) (sym files) ∙ sym c.in-Some.ensures.named
    ∙ ap (λ k. Some (class_of k)) c.in-Declared.is in
    let less : supertypes_size (supertypes w (class.superclass ∷ [])) < supertypes_size (supertypes w (name ∷ [])) =
    size_supers w acyclic name [] (declared c.in-Declared.field-0 class) named in
    let here : supertypes_size (supertypes w (above ∷ [])) < supertypes_size (supertypes w (name ∷ [])) =
    subst (λ n. supertypes_size (supertypes w (n ∷ [])) < supertypes_size (supertypes w (name ∷ [])))
    (sym c.items-in-Declared.ensures) less in
    (subst (λ m. supertypes_size (supertypes w (above ∷ [])) < m) c.decreases here, tt)

pub returns-in-Imported : goal.returns-in-Imported
returns-in-Imported t c =
    let files : c.self.inside.world.now ≡ c.args.self.now.files = ap (λ k. k.files) c.self.view_is in
    let acyclic : IsAcyclic (all_classes c.args.self.now.files) = subst (λ f. IsAcyclic (all_classes f)) files
    c.acyclic.ensures in
    let w = all_classes c.args.self.now.files in
    let name = c.args.name.now in
    let class = c.in-Imported.class.now in
    let named : class_named w name ≡ Some (imported c.in-Imported.field-0 class) =
    ap (λ f. class_named (all_classes f) name) (sym files) ∙ sym c.in-Some.ensures.named
    ∙ ap (λ k. Some (class_of k)) c.in-Imported.is in
    c.items.ensures ∙ sym (imported_here w acyclic name (imported c.in-Imported.field-0 class) named refl)

pub returns-in-Declared : goal.returns-in-Declared
returns-in-Declared t c =
    let files : c.self.inside.world.now ≡ c.args.self.now.files = ap (λ k. k.files) c.self.view_is in
    let acyclic : IsAcyclic (all_classes c.args.self.now.files) = subst (λ f. IsAcyclic (all_classes f)) files
    c.acyclic.ensures in
    let w = all_classes c.args.self.now.files in
    let name = c.args.name.now in
    let class = c.in-Declared.class.now in
    let named : class_named w name ≡ Some (declared c.in-Declared.field-0 class) =
    ap (λ f. class_named (all_classes f) name) (sym files) ∙ sym c.in-Some.ensures.named
    ∙ ap (λ k. Some (class_of k)) c.in-Declared.is in
    c.first_imported.ensures
    ∙ ap (λ n. first_imported (line w n)) c.items-in-Declared.ensures
    ∙ declared_above w acyclic name c.in-Declared.field-0 class named
