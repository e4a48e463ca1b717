use Rattle.std.proofs.Common.{◌≡◌, ℕ, ◌+◌, true, false, List, [], ◌∷◌, ◌++◌, refl, ap, ◌∙◌}
use Rattle.std.specs.Prelude.{Option, None, map, if◌then◌else◌}
use Rattle.cjc_check_rules.specs.Complete.{described_size}
use Rattle.cjc_check_rules.specs.Classes.{is_own_class}
use Rattle.cjc_check_rules.specs.Described.{is_after, methods_ascend, last_offset, methods_begin, methods_in_class}
use Rattle.cjc_check_rules.specs.Described.{offset_after, all_ascend}
use Rattle.cjc_world.specs.Classes.{Class}
use Rattle.cjc_world.specs.Order.{in_order, class_order, method_order, methods_in_turn, methods_of_class}
use Rattle.cjc_components.specs.Package.{LaidMethod, Package, world}
use Rattle.cjc_components.specs.Names.{class_ref}
use Rattle.cjc_components.specs.Methods.{first_method}
use Rattle.cjc_components.specs.Descriptor.{class_descriptor}
use Rattle.cjc_vtable.proofs.Filed.{Has, at_front, behind, has-get}
use Rattle.cjc_token_proof.proofs.ComponentsLaws.Tests.{none_in_both}
use Rattle.cjc_check_proof.proofs.ClassesLaws.Refs.{info, class_begins, interface_apart}
use Rattle.cjc_check_proof.proofs.ClassesLaws.Offsets.{Left, all_left, ascend}
use Rattle.cjc_check_proof.proofs.classes.methods_are_described_in_order.Goals as goal

module _ (p : Package) where
  classes_ascend : (cs : List Class) (before : Option ℕ) (pos at : ℕ) (ms : List LaidMethod) → ((c : Class) → Has c cs
      → is_own_class (info p) (class_ref p c.name) ≡ true) → Left p at ms (methods_in_turn (world p) cs)
      → is_after before at ≡ true
      → all_ascend (info p) before pos (map (class_descriptor p) cs) ≡ []
  unfolding all_ascend
  classes_ascend [] before pos at ms own l after = refl
  classes_ascend (c ∷ cs) before pos at ms own l after =
      let d = class_descriptor p c in
      let fs = methods_of_class (world p) c in
      let is : is_own_class (info p) (class_ref p c.name) ≡ true = own c at_front in
      let r = ascend p c fs (methods_in_turn (world p) cs) at (methods_begin pos d) ms before l after in
      let here : methods_in_class (info p) before pos d ≡ [] =
      ap (λ b. if b then methods_ascend before (methods_begin pos d) d.methods else []) is ∙ r.0 in
      let last : offset_after (info p) before d ≡ last_offset before d.methods =
      ap (λ b. if b then last_offset before d.methods else before) is in
      let rest = classes_ascend cs (last_offset before d.methods) (pos + described_size d) r.1 r.2
      (λ x h. own x (behind h)) r.3 r.4 in
      none_in_both here (ap (λ o. all_ascend (info p) o (pos + described_size d) (map (class_descriptor p) cs)) last
      ∙ rest)

  interfaces_skipped : (is cs : List Class) (pos : ℕ) → ((c : Class) → Has c is
      → is_own_class (info p) (class_ref p c.name) ≡ false)
      → ((pos : ℕ) → all_ascend (info p) None pos (map (class_descriptor p) cs) ≡ [])
      → all_ascend (info p) None pos (map (class_descriptor p) (is ++ cs)) ≡ []
  unfolding all_ascend
  interfaces_skipped [] cs pos other rest = rest pos
  interfaces_skipped (i ∷ is) cs pos other rest =
      let d = class_descriptor p i in
      let no : is_own_class (info p) (class_ref p i.name) ≡ false = other i at_front in
      let here : methods_in_class (info p) None pos d ≡ [] =
      ap (λ b. if b then methods_ascend None (methods_begin pos d) d.methods else []) no in
      let same : offset_after (info p) None d ≡ None = ap (λ b. if b then last_offset None d.methods else None) no in
      none_in_both here (ap (λ o. all_ascend (info p) o (pos + described_size d) (map (class_descriptor p) (is ++ cs)))
      same ∙ interfaces_skipped is cs (pos + described_size d) (λ x h. other x (behind h)) rest)

pub returns : goal.returns
unfolding class_order method_order
returns c p own methods =
    let w = world p in
    interfaces_skipped p (in_order w true) (in_order w false) 1
    (λ x h. let g = has-get x (in_order w true) h in interface_apart p own g.0 x g.1)
    (λ pos. classes_ascend p (in_order w false) None pos (first_method p.methods) p.methods (λ x h. let g = has-get x
    (in_order w false) h in class_begins p own g.0 x g.1) (all_left p methods) refl)
