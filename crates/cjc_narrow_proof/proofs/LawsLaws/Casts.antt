-- The type that a checkcast or an instanceof names, in a method that breaks no rule of names and types, whichever
-- methods work on int.
use Rattle.std.proofs.Common.{◌≡◌, ℕ, refl, sym, ap, subst, ◌∙◌, arith, Bool, true, false, List, [], ◌∷◌, length}
use Rattle.std.specs.Prelude.{not, ◌&&◌, ◌||◌, ◌==◌, Option, Some, None, is_some, nat_lt, ◌^◌, option_and_then}
use Rattle.std.specs.Prelude.{if◌then◌else◌}
use Rattle.std.proofs.lemmas.Bool.{eqb-true}
use Rattle.cjc_bytes.specs.Descriptor.{IsDescriptor, IsType, Parts, array, base, base_kind, field, method, object}
use Rattle.cjc_bytes.specs.Spots.{desc_of, part_of}
use Rattle.cjc_bytes.proofs.DescriptorTypes.{desc_read, desc_spelt}
use Rattle.cjc_bytes.specs.declared.settings.Settings.{Settings}
use Rattle.cjc_bytes.proofs.Gets.{all_but_last}
use Rattle.cjc_bytes.proofs.Bools.{or_left, or_right}
use Rattle.cjc_code.specs.ClassFile.declared.tree.ClassTree.{ClassTree}
use Rattle.cjc_code.specs.declared.insn.JOp.TheVariants as jop
use Rattle.cjc_code.specs.declared.method_code.MethodCode.{MethodCode}
use Rattle.cjc_narrow_proof.specs.Laws.Unbroken.{AreSpelt, IsInsnOf, KeepsNames}
use Rattle.cjc_narrow_proof.proofs.LawsLaws.ClassNames.{each_name}
use Rattle.cjc_narrow_proof.proofs.LawsLaws.Handlers.{class_there}
use Rattle.cjc_narrow_proof.proofs.LawsLaws.Instructions.{op_fit, op_there}
use Rattle.cjc_narrow_proof.proofs.LawsLaws.WordTypes.{by_letter}
use Rattle.cjc_narrow_proof.specs.Runs.Types.{IsThere, of_class, of_numbers, of_references}
use Rattle.cjc_script.specs.Sorts.{Booleans, Bytes, Ints, OfClass, OfNumbers, OfReferences, Shape, Shorts, array_by}
use Rattle.cjc_script.specs.Sorts.{shape_named}
use Rattle.cjc_vtable.specs.LowerSubset.Members.{is_descriptor}
use Rattle.cjc_vtable.specs.LowerSubset.Names.{is_name_missing, names_missing}
use Rattle.cjc_vtable.specs.LowerSubset.Types.{is_unsupported_element, is_unsupported_name, names_unsupported}
use Rattle.cjc_narrow_proof.proofs.TablesLaws.Spelt.{class_read}
use Rattle.cjc_world.specs.Classes.{Class, all_classes}
use Rattle.cjc_world.specs.Files.{Files}
use Rattle.cjc_world.specs.Rules.{is_element_missing, is_missing, is_type_missing}

-- the type is read, and what it names is there
abbrev pub IsReadType : List Class → List ℕ → Type 0
IsReadType w name = (kind : Shape (List ℕ)) × (shape_named name ≡ Some kind) × IsThere w kind

module _ (w : List Class) where
  element_there : {p : _} (bytes : List ℕ) → IsType p bytes → is_unsupported_element bytes ≡ false
      → is_element_missing w bytes ≡ false → IsReadType w (91 ∷ bytes)
  unfolding is_element_missing
  element_there _ (base {b = b} {kind = kind} e) f g =
      let described = desc_read _ (91 ∷ b ∷ []) (field (array (base e))) in
      let element = by_letter (λ c k. (shape : Shape (List ℕ)) × (array_by (part_of (c ∷ [])) ≡ Some shape)
      × IsThere w shape)
      (OfNumbers Bytes, refl, of_numbers) (OfNumbers Ints, refl, of_numbers) (OfNumbers Shorts, refl, of_numbers)
      (OfNumbers Booleans, refl, of_numbers) b kind e (λ unsupported. (let clash = sym unsupported ∙ f
      in absurd cc)) in
      (element.0, ap (option_and_then (λ d. array_by (part_of (b ∷ [])))) described ∙ element.1, element.2)
  element_there _ (object {name = name} spelt) f g =
      let c = class_there w name (ap (is_missing w) (sym (all_but_last name)) ∙ g) in
      (OfReferences name, (class_read name spelt).array, of_references c.0 c.1)
  element_there _ (array t) f g = absurd cc

  first_same : {x y : ℕ} {xs ys : List ℕ} → x ∷ xs ≡ y ∷ ys → x ≡ y
  first_same e = cc

  rest_same : {x y : ℕ} {xs ys : List ℕ} → x ∷ xs ≡ y ∷ ys → xs ≡ ys
  rest_same e = cc

  array_there : (bs : List ℕ) (d : Parts) → desc_of (91 ∷ bs) ≡ Some d → is_unsupported_element bs ≡ false
      → is_element_missing w bs ≡ false → IsReadType w (91 ∷ bs)
  array_there bs d e f g = of_descriptor (91 ∷ bs) (desc_spelt d (91 ∷ bs) e) refl
    where
      of_type : {p : _} (bytes : List ℕ) → IsType p bytes → bytes ≡ 91 ∷ bs → IsReadType w (91 ∷ bs)
      of_type _ (base {b = b} {kind = kind} e) same = (let h : b ≡ 91 = first_same same in let no : None
          ≡ Some kind = ap base_kind (sym h) ∙ e in cc)
      of_type _ (object {name = name} h) same = (let clash : 76 ≡ 91 = first_same same in absurd (omega (arith, clash)))
      of_type _ (array {bytes = bytes} t) same = (let h : bytes ≡ bs = rest_same same
          in subst (λ x. IsReadType w (91 ∷ x)) h (element_there bytes t (ap is_unsupported_element h
          ∙ f) (ap (is_element_missing w) h ∙ g)))

      of_descriptor : {d : Parts} (bytes : List ℕ) → IsDescriptor d bytes → bytes ≡ 91 ∷ bs → IsReadType w (91 ∷ bs)
      of_descriptor bytes (field t) same = of_type bytes t same
      of_descriptor _ (method ps r) same = (let clash : 40 ≡ 91 = first_same same in absurd (omega (arith, clash)))

  -- what is no descriptor names a class in no file
  described : (o : Option Parts) (size : Bool) → not (size && is_some o) ≡ false → (d : Parts) × (o ≡ Some d)
  described (Some d) size e = (d, refl)
  described None true e = absurd cc
  described None false e = absurd cc

  array_by_name : (bs : List ℕ) → (not (is_descriptor (91 ∷ bs)) || is_type_missing w (91 ∷ bs)) ≡ false
      → is_unsupported_element bs ≡ false → IsReadType w (91 ∷ bs)
  unfolding is_type_missing
  array_by_name bs there fit =
      let d = described (desc_of (91 ∷ bs)) (nat_lt (length (91 ∷ bs)) (2 ^ 32))
      (or_left (not (is_descriptor (91 ∷ bs))) (is_type_missing w (91 ∷ bs)) there) in
      array_there bs d.0 d.1 fit (or_right (not (is_descriptor (91 ∷ bs))) (is_type_missing w (91 ∷ bs)) there)

  class_by_name : (b : ℕ) (bs : List ℕ) → (b == 91) ≡ false → is_missing w (b ∷ bs) ≡ false → IsReadType w (b ∷ bs)
  class_by_name b bs plain there =
      let c = class_there w (b ∷ bs) there in (
        OfClass (b ∷ bs),
        ap (λ x. if x then option_and_then (λ d. array_by (part_of bs)) (desc_of (b ∷ bs))
            else Some (OfClass (b ∷ bs))) plain,
        of_class c.0 c.1,
      )

  pub type_there : (b : ℕ) (bs : List ℕ) → is_name_missing w (b ∷ bs) ≡ false → is_unsupported_name (b ∷ bs) ≡ false
      → IsReadType w (b ∷ bs)
  unfolding is_name_missing
  type_there b bs there fit = by (b == 91) refl there fit
    where
      by : (x : Bool) → (b == 91) ≡ x → (if x then not (is_descriptor (b ∷ bs)) || is_type_missing w (b ∷ bs)
          else is_missing w (b ∷ bs)) ≡ false → (x && is_unsupported_element bs) ≡ false → IsReadType w (b ∷ bs)
      by false g there fit = class_by_name b bs g there
      by true g there fit =
          let letter = eqb-true b 91 g in
          subst (λ c. IsReadType w (c ∷ bs)) (sym letter) (array_by_name bs (ap (λ c. not (is_descriptor (c ∷ bs))
          || is_type_missing w (c ∷ bs)) (sym letter) ∙ there) fit)

module _ (list : List ℕ) (files : Files) (codes : List MethodCode) (settings : Settings) (is : KeepsNames list files
    codes settings) (spelt : AreSpelt files) (class : ClassTree) where
  -- no class has the empty name
  name_there : (name : List ℕ) → is_name_missing (all_classes files) name ≡ false → is_unsupported_name name ≡ false
      → IsReadType (all_classes files) name
  unfolding is_name_missing
  name_there [] there fit =
      let c = class_there (all_classes files) [] there in
      let none : None ≡ Some (OfClass []) =
      (class_read [] (each_name files list is.listed is.world spelt [] c.0 c.1)).class in
      absurd cc
  name_there (b ∷ bs) there fit = type_there (all_classes files) b bs there fit

  pub cast_there : (name : List ℕ) → IsInsnOf files codes class (jop.CheckCast name)
      → IsReadType (all_classes files) name
  unfolding names_missing names_unsupported
  cast_there name at = name_there name (op_there list files codes settings is class (jop.CheckCast name) at).0
      (op_fit list files codes settings is class (jop.CheckCast name) at).0

  pub test_there : (name : List ℕ) → IsInsnOf files codes class (jop.InstanceOf name)
      → IsReadType (all_classes files) name
  unfolding names_missing names_unsupported
  test_there name at = name_there name (op_there list files codes settings is class (jop.InstanceOf name) at).0
      (op_fit list files codes settings is class (jop.InstanceOf name) at).0
