-- A subtype by name is one by token, where the class_refs of types are read back as the classes that they name.
use Rattle.std.proofs.Common.{◌≡◌, ℕ, refl, sym, ap, ◌∙◌, Bool, true, false, List, [], ◌∷◌, Option, Some, None}
use Rattle.std.specs.Prelude.{if◌then◌else◌, option_and_then, option_map}
use Rattle.cjc_verify.specs.CapRead.declared.tree.ClassRef.{ClassRef}
use Rattle.cjc_verify.specs.Script.Sorts.{Booleans, Bytes, Ints, OfClass, OfNumbers, OfReferences, Shape, Shorts}
use Rattle.cjc_verify.specs.Script.Sorts.{shape_name}
use Rattle.cjc_verify.specs.Script.Sorts.{shape_named}
use Rattle.cjc_types.specs.World.Classes.{Class}
use Rattle.cjc_types.specs.World.Subtype.{is_subtype}
use Rattle.cjc_verify.specs.CardSemantics.Bytecode.Renaming.{shape_as}
use Rattle.cjc_verify.specs.CardSemantics.Machine.Loaded.{Loaded}
use Rattle.cjc_verify.specs.CardActs.CardTypes.{both_of, is_type_of, shape_by}
use Rattle.cjc_check_proof.specs.NCode.Lowering.Naming.{Naming}
use Rattle.cjc_verify.specs.Components.Types.{shape_nibbles}
use Rattle.cjc_check_proof.proofs.NarrowProofSpelt.{shape_spelt}
use Rattle.cjc_check_proof.specs.TokenProof.ByToken.Supers.{HasShape, KindsAgree}
use Rattle.cjc_accepted_proof.specs.Frames.{NamesAgree, is_there, nibbles_there, type_named}
use Rattle.cjc_accepted_proof.specs.Read.{RefsAreRead}

module _ (w : List Class) (n : Naming) (kinds : KindsAgree w n) (read : RefsAreRead w n) where
  abbrev l : Loaded
  l = n.loaded

  abbrev ref : List ℕ → ClassRef
  ref = n.class_ref

  shape_read : (a : Shape (List ℕ)) → is_there w a ≡ true → shape_by l (shape_nibbles ref a)
      ≡ Some (shape_as n.class a)
  shape_read (OfClass c) e = ap (option_map OfClass) (read c e)
  shape_read (OfReferences c) e = ap (option_map OfReferences) (read c e)
  shape_read (OfNumbers Booleans) e = refl
  shape_read (OfNumbers Bytes) e = refl
  shape_read (OfNumbers Shorts) e = refl
  shape_read (OfNumbers Ints) e = refl

  has_shape : (a : Shape (List ℕ)) → is_there w a ≡ true → HasShape w a
  has_shape (OfClass c) e = e
  has_shape (OfNumbers element) e = tt
  has_shape (OfReferences c) e = e

  -- what has a type names a class or array that is there
  meant : (name t : List ℕ) → type_named w ref name ≡ Some t → (a : Shape (List ℕ)) × (is_there w a ≡ true)
      × (shape_name a ≡ name) × (shape_nibbles ref a ≡ t)
  meant name t e = by (shape_named name) refl e
    where
      at : (a : Shape (List ℕ)) → shape_named name ≡ Some a → (b : Bool) → is_there w a ≡ b
          → (if b then Some (shape_nibbles ref a) else None) ≡ Some t → (a : Shape (List ℕ)) × (is_there w a ≡ true)
          × (shape_name a ≡ name) × (shape_nibbles ref a ≡ t)
      at a f true h i = let same : shape_nibbles ref a ≡ t = cc in (a, h, shape_spelt name a f, same)
      at a f false h i = absurd cc

      by : (o : Option (Shape (List ℕ))) → shape_named name ≡ o → option_and_then (nibbles_there w ref) o ≡ Some t
          → (a : Shape (List ℕ)) × (is_there w a ≡ true) × (shape_name a ≡ name) × (shape_nibbles ref a ≡ t)
      by None f g = absurd cc
      by (Some a) f g = at a f (is_there w a) refl g

  pub subtypes_agree : NamesAgree (type_named w ref) (is_type_of l) w
  subtypes_agree sub sup t u e f g =
      let a = meant sub t f in
      let b = meant sup u g in
      ap (λ x. is_type_of l x u) (sym a.3)
      ∙ ap (λ x. is_type_of l (shape_nibbles ref a.0) x) (sym b.3)
      ∙ ap (λ o. both_of l o (shape_by l (shape_nibbles ref b.0))) (shape_read a.0 a.1)
      ∙ ap (both_of l (Some (shape_as n.class a.0))) (shape_read b.0 b.1)
      ∙ kinds a.0 b.0 (has_shape a.0 a.1) (has_shape b.0 b.1)
      ∙ ap (λ x. is_subtype w x (shape_name b.0)) a.2
      ∙ ap (is_subtype w sub) b.2
      ∙ e
