-- A descriptor of which 203 is not broken names classes that some file has.
use Rattle.std.proofs.Common.{◌≡◌, ℕ, ◌-◌, ◌<◌, ◌^◌, refl, sym, ap, ◌∙◌, Bool, true, false, List, [], ◌∷◌, ◌++◌, length}
use Rattle.std.proofs.Common.{map}
use Rattle.std.specs.Prelude.{◌&&◌, ◌==◌, take, Option, Some, None, is_some, option_and_then, unwrap_or}
use Rattle.std.specs.Prelude.{if◌then◌else◌}
use Rattle.std.specs.List.{list_all, list_any}
use Rattle.std.proofs.lemmas.Bool.{lt-ltb, and_from}
use Rattle.cjc_bytes.specs.Descriptor.{Part, Parts, base_kind, plain}
use Rattle.cjc_bytes.specs.Spots.{desc_of, part_of}
use Rattle.cjc_bytes.specs.declared.descriptor.Kind.{Kind}
use Rattle.cjc_bytes.proofs.Bools.{or_left, or_right}
use Rattle.cjc_bytes.specs.declared.descriptor.Kind.TheVariants as kinds
use Rattle.cjc_shape_proof.specs.LowerCheckProof.Classes.Premises.{is_known, result_known, sort_known, types_known}
use Rattle.cjc_token_proof.specs.Script.Sorts.{OfClass, OfReferences, array_by, array_of, reference_to, result_by}
use Rattle.cjc_token_proof.specs.Script.Sorts.{shape_named}
use Rattle.cjc_token_proof.specs.Script.Sorts.{signature_by, sort_by, sort_of, sort_or_none}
use Rattle.cjc_world.specs.Classes.{Class, class_named}
use Rattle.cjc_world.specs.Rules.{is_any_missing, is_desc_missing, is_element_missing, is_missing, is_none_of}
use Rattle.cjc_world.specs.Rules.{is_type_missing}

-- ---- a type

module _ (w : List Class) where
  known : (name : List ℕ) → is_missing w name ≡ false → is_known w name ≡ true
  known name e = by (class_named w name) e
    where
      by : (o : Option Class) → is_none_of o ≡ false → is_some o ≡ true
      by None f = absurd cc
      by (Some c) f = refl

  -- an array of a class that is there
  references_known : (name : List ℕ) → is_missing w name ≡ false
      → sort_known (is_known w) (reference_to (array_of kinds.Ref name)) ≡ true
  references_known [] e = refl
  references_known (b ∷ bs) e = by (b == 91)
    where
      by : (x : Bool) → sort_known (is_known w) (reference_to (if x then None else Some (OfReferences (b ∷ bs)))) ≡ true
      by true = refl
      by false = known (b ∷ bs) e

  numbers_known : (k : Kind) → sort_known (is_known w) (reference_to (array_of k [])) ≡ true
  numbers_known kinds.Bool = refl
  numbers_known kinds.Byte = refl
  numbers_known kinds.Short = refl
  numbers_known kinds.Int = refl
  numbers_known kinds.Other = refl
  numbers_known kinds.Ref = refl
  numbers_known kinds.Void = refl

  -- the elements of an array
  element_known : (bs : List ℕ) → is_element_missing w bs ≡ false
      → sort_known (is_known w) (reference_to (array_by (part_of bs))) ≡ true
  unfolding is_element_missing
  element_known [] e = refl
  element_known (b ∷ bs) e = by (b == 91) (b == 76) refl e
    where
      by : (x y : Bool) → (b == 91) ≡ x → (if x then is_element_missing w bs else y
          && is_missing w (take (length bs - 1) bs)) ≡ false
          → sort_known (is_known w) (reference_to (array_by (if x then record { kind = kinds.Ref; class = b ∷ bs }
          else if y then record { kind = kinds.Ref; class = take (length bs - 1) bs }
          else plain (unwrap_or (base_kind b) kinds.Void)))) ≡ true
      by true y p e = ap (λ v. sort_known (is_known w) (reference_to (if v then None
          else Some (OfReferences (b ∷ bs))))) p
      by false true p e = references_known (take (length bs - 1) bs) e
      by false false p e = numbers_known (unwrap_or (base_kind b) kinds.Void)

  named_known : (name : List ℕ) → is_type_missing w name ≡ false
      → sort_known (is_known w) (reference_to (shape_named name)) ≡ true
  unfolding is_type_missing
  named_known [] e = refl
  named_known (b ∷ bs) e = by (b == 91) e
    where
      of_array : (o : Option Parts) → is_element_missing w bs ≡ false
          → sort_known (is_known w) (reference_to (option_and_then (λ d. array_by (part_of bs)) o)) ≡ true
      of_array None f = refl
      of_array (Some d) f = element_known bs f

      by : (x : Bool) → (if x then is_element_missing w bs else is_missing w (b ∷ bs)) ≡ false
          → sort_known (is_known w) (reference_to (if x then option_and_then (λ d. array_by (part_of bs))
          (desc_of (b ∷ bs)) else Some (OfClass (b ∷ bs)))) ≡ true
      by true f = of_array (desc_of (b ∷ bs)) f
      by false f = known (b ∷ bs) f

  part_known : (p : Part) → is_type_missing w p.class ≡ false → sort_known (is_known w) (sort_of p) ≡ true
  part_known p e = by p.kind
    where
      by : (k : Kind) → sort_known (is_known w) (sort_by k p.class) ≡ true
      by kinds.Bool = refl
      by kinds.Byte = refl
      by kinds.Short = refl
      by kinds.Int = refl
      by kinds.Other = refl
      by kinds.Ref = named_known p.class e
      by kinds.Void = refl

  -- ---- the types of a descriptor

  missing : Part → Bool
  missing p = is_type_missing w p.class

  params_known : (ps : List Part) (r : Part) → list_any missing (ps ++ r ∷ []) ≡ false
      → list_all (sort_known (is_known w)) (map sort_of ps) ≡ true
  unfolding missing
  params_known [] r e = refl
  params_known (p ∷ ps) r e =
      and_from (sort_known (is_known w) (sort_of p)) (list_all (sort_known (is_known w)) (map sort_of ps))
      (part_known p (or_left (missing p) (list_any missing (ps ++ r ∷ [])) e))
      (params_known ps r (or_right (missing p) (list_any missing (ps ++ r ∷ [])) e))

  last_there : (ps : List Part) (r : Part) → list_any missing (ps ++ r ∷ []) ≡ false → missing r ≡ false
  last_there [] r e = or_left (missing r) false e
  last_there (p ∷ ps) r e = last_there ps r (or_right (missing p) (list_any missing (ps ++ r ∷ [])) e)

  given_known : (r : Part) → missing r ≡ false → result_known (is_known w) (result_by r.kind r) ≡ true
  unfolding missing
  given_known r e = by r.kind
    where
      by : (k : Kind) → result_known (is_known w) (result_by k r) ≡ true
      by kinds.Void = refl
      by kinds.Bool = part_known r e
      by kinds.Byte = part_known r e
      by kinds.Short = part_known r e
      by kinds.Int = part_known r e
      by kinds.Other = part_known r e
      by kinds.Ref = part_known r e

  parts_known : (desc : List ℕ) (o : Option Parts) → desc_of desc ≡ o → is_any_missing w o ≡ false
      → types_known (is_known w) desc (option_and_then signature_by o) ≡ true
  unfolding missing
  parts_known desc None e f = ap (λ o. sort_known (is_known w) (sort_or_none o)) e
  parts_known desc (Some d) e f = by d.is_method
    where
      by : (b : Bool) → types_known (is_known w) desc (if b then Some (record {
        params = map sort_of d.params;
        result = (let r = d.result in result_by r.kind r);
      }) else None) ≡ true
      by true =
          let r = d.result in
          and_from (list_all (sort_known (is_known w)) (map sort_of d.params)) (result_known (is_known w)
          (result_by r.kind r)) (params_known d.params r f) (given_known r (last_there d.params r f))
      by false = ap (λ o. sort_known (is_known w) (sort_or_none o)) e
          ∙ part_known d.result (last_there d.params d.result f)

  pub desc_known : (desc : List ℕ) → length desc < 2 ^ 32 → is_desc_missing w desc ≡ false
      → types_known (is_known w) desc (option_and_then signature_by (desc_of desc)) ≡ true
  unfolding is_desc_missing
  desc_known desc short e = parts_known desc (desc_of desc) refl (sym (ap (λ b. b && is_any_missing w (desc_of desc))
      (lt-ltb (length desc) (2 ^ 32) short)) ∙ e)
