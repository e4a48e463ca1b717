-- Classes that instructions of a converted package name: the card has their types, and what is of one by name is of it,
-- and of the class that declares a member, by token.
use Rattle.std.proofs.Common.{◌≡◌, ℕ, refl, sym, ap, ◌∙◌, Bool, true, false, List, [], ◌∷◌, ◌++◌}
use Rattle.std.specs.Prelude.{◌||◌, Some, is_some, if◌then◌else◌}
use Rattle.cjc_verified_proof.specs.Bytecode.declared.method_code.MethodCode.{MethodCode}
use Rattle.cjc_verified_proof.specs.Bytes.AccessFlags.{acc_abstract, has, is_abstract, is_interface}
use Rattle.cjc_verified_proof.proofs.WorldLines.{below_on}
use Rattle.cjc_verified_proof.proofs.WorldCycles.{class_named-name}
use Rattle.cjc_verified_proof.proofs.WorldProofTypes.{below_type, type_below}
use Rattle.cjc_verified_proof.proofs.TokenProofAbove.{entry_of_name, info_of_name}
use Rattle.cjc_verified_proof.specs.Components.Names.{class_ref}
use Rattle.cjc_verified_proof.specs.Components.Package.{Package, world}
use Rattle.cjc_verified_proof.specs.List.Listed.{ListTree}
use Rattle.cjc_verified_proof.specs.Script.Sorts.{OfClass, OfReferences}
use Rattle.cjc_verified_proof.specs.TokenProof.Tables.Sound.{IsSound as FilesAreSound}
use Rattle.cjc_verified_proof.specs.Verify.Named.{is_outside, is_unmade_class, is_unmade_export, names_unmade}
use Rattle.cjc_verified_proof.specs.Verify.Pairs.{Pair}
use Rattle.cjc_verified_proof.specs.World.Classes.{Class, class_named}
use Rattle.cjc_verified_proof.specs.WorldProof.Calls.Solid.{IsSolid}
use Rattle.cjc_world.specs.Subtype.{is_subtype}
use Rattle.cjc_world.specs.Upwards.{Below}
use Rattle.cjc_world.specs.Lookup.{receiver}
use Rattle.cjc_check_proof.specs.Types.Types.{array_of}
use Rattle.cjc_check_proof.proofs.NarrowProofSpelt.{IsReadAsClass, class_read}
use Rattle.cjc_narrow_proof.specs.Laws.Unbroken.{KeepsNames}
use Rattle.cjc_narrow_proof.proofs.LawsLaws.ClassNames.{each_name}
use Rattle.cjc_accepted_proof.specs.Coded.{card_type, is_of}
use Rattle.cjc_accepted_proof.specs.Frames.{PassesFor, SubtypesAgree}
use Rattle.cjc_accepted_proof.specs.Written.{written_pair}
use Rattle.cjc_accepted_proof.proofs.CheckProofSupers.{entry_there}
use Rattle.cjc_accepted_proof.proofs.TypesLaws.{types_pass}
use Rattle.cjc_verify.specs.ClassTypes.{array_type, class_type}
use Rattle.cjc_theorem.specs.LowerJudge.Rules.{settings_of}
use Rattle.cjc_shape_proof.proofs.WrittenLaws.Checked.{are_spelt, files_sound, own_names, own_solid}
use Rattle.cjc_theorem.specs.ShapeProof.Written.Checked.{IsOfFiles}
use Rattle.cjc_accepted_theorem.proofs.FieldsLaws.{class_there}
use Rattle.cjc_accepted_theorem.proofs.TypedLaws.{shape_typed}

module _ (list : ListTree) (codes : List MethodCode) (p : Package) (is : IsOfFiles list codes p) where
  abbrev w : List Class
  w = world p

  abbrev q : Pair
  q = written_pair p

  abbrev u : KeepsNames list.name p.files codes (settings_of list)
  u = own_names list codes p is.checked

  abbrev solid : IsSolid p.files
  solid = own_solid list codes p is.checked

  abbrev sound : FilesAreSound list.name p.files
  sound = files_sound list codes p is.checked

  -- the name of a class of some file is read as one
  pub name_read : (x : List ℕ) (c : Class) → class_named w x ≡ Some c → IsReadAsClass x
  name_read x c e = class_read x (each_name p.files list.name u.listed u.world (are_spelt list codes p is.checked) x c
      e)

  -- the card's type of it, and of the array of it
  pub class_typed : (x : List ℕ) (c : Class) → class_named w x ≡ Some c → card_type p x ≡ Some (class_type (class_ref p
      x))
  class_typed x c e = let h = name_read x c e in shape_typed p x (OfClass x) h.class (ap is_some e)

  pub array_typed : (x : List ℕ) (c : Class) → class_named w x ≡ Some c → card_type p (array_of x)
      ≡ Some (array_type (class_ref p x))
  array_typed x c e =
      let h = name_read x c e in
      ap (card_type p) (ap (λ b. if b then 91 ∷ x else 91 ∷ 76 ∷ x ++ 59 ∷ []) h.no_array)
      ∙ shape_typed p (91 ∷ 76 ∷ x ++ 59 ∷ []) (OfReferences x) h.array (ap is_some e)

  -- what is of a class is of one above it
  subtype_on : (name x y : List ℕ) (c d : Class) → class_named w x ≡ Some c → class_named w y ≡ Some d → Below w x y
      → is_subtype w name x ≡ true → is_subtype w name y ≡ true
  subtype_on name x y c d known above below e =
      below_type w name y (solid.plain y d above) (below_on w (receiver name) x y (type_below w name x
      (solid.plain x c known) e) below)

  -- so it passes for that one by token
  pub class_passes : SubtypesAgree (card_type p) (is_of p) w → (x y : List ℕ) (c d : Class) → class_named w x ≡ Some c
      → class_named w y ≡ Some d → Below w x y → PassesFor (card_type p) (is_of p) w x (class_type (class_ref p y))
  class_passes agree x y c d known above below cell e = types_pass (card_type p) (λ name. is_subtype w name x) (λ t.
      is_of p t (class_type (class_ref p y))) (λ name t f g. agree name y t (class_type (class_ref p y)) (subtype_on
      name
      x y c d known above below f) g (class_typed y d above)) cell e

  -- ---- where it stands

  -- a class of the package is one by its offset
  pub own_inside : (x : List ℕ) (c : Class) → class_named w x ≡ Some c → c.is_imported ≡ false → is_outside (class_ref p
      x) ≡ false
  own_inside x c e own =
      let h = info_of_name list.name p sound x c e own in
      ap is_outside (ap (class_ref p) (sym (class_named-name w x c e)) ∙ h.ref)

  -- one of which objects are made
  pub made_class : (x : List ℕ) (c : Class) → class_named w x ≡ Some c → is_interface c.flags ≡ false
      → is_abstract c.flags ≡ false → names_unmade q (class_ref p x) ≡ false
  made_class x c e plain bare = by c.is_imported refl
    where
      none : (is_interface c.flags || has c.flags acc_abstract) ≡ false
      none = ap (λ b. b || has c.flags acc_abstract) plain ∙ bare

      by : (b : Bool) → c.is_imported ≡ b → names_unmade q (class_ref p x) ≡ false
      by false own =
          let h = info_of_name list.name p sound x c e own in
          ap (names_unmade q) (ap (class_ref p) (sym (class_named-name w x c e)) ∙ h.ref)
          ∙ ap is_unmade_class (class_there p c h) ∙ none
      by true import =
          let h = entry_of_name list.name p sound x c e import in
          ap (names_unmade q) (ap (class_ref p) (sym (class_named-name w x c e)) ∙ h.ref)
          ∙ ap is_unmade_export (entry_there list.name p sound c h)
          ∙ ap (λ (v : Class). is_interface v.flags || has v.flags acc_abstract) (sym h.class) ∙ none
