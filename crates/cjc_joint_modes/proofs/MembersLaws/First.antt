-- What the images of several packages by modes say together is of sound types.
use Rattle.std.proofs.Common.{◌≡◌, ℕ, suc, ◌+◌, true, List, [], ◌∷◌, map, flat_map}
use Rattle.std.proofs.Common.{Some}
use Rattle.std.proofs.Common.{refl, sym, ap, subst, ◌∙◌}
use Rattle.std.specs.Prelude.{slice_get, option_map, Bool}
use Rattle.std.specs.List.{AllByRecursion}
use Rattle.cjc_bytes.specs.declared.fault.MemberId.{MemberId}
use Rattle.cjc_bytes.proofs.Gets.{get_mapped, mapped_at}
use Rattle.cjc_bytes.proofs.Lists.{map_append}
use Rattle.cjc_script.specs.Sorts.{Shape, shape_name}
use Rattle.cjc_card_semantics.specs.Bytecode.Effects.{HeapObject}
use Rattle.cjc_world.specs.Files.{Files}
use Rattle.cjc_world.specs.declared.image.StaticImage.{StaticImage}
use Rattle.cjc_ncode.specs.ByLabel.{Named}
use Rattle.cjc_jvm_semantics.specs.OnePackage.{cells}
use Rattle.cjc_jvm_semantics.specs.Group.{joint, joint_image}
use Rattle.cjc_narrow.specs.Rows.Package.{first_array, first_cell, named}
use Rattle.cjc_narrow_proof.specs.Selection.Relation.{Heap}
use Rattle.cjc_narrow_proof.specs.Selection.Relation.{SlotsFit, no_slots}
use Rattle.cjc_narrow_proof.specs.Runs.Converted.{IsFirst, IsFirstArray}
use Rattle.cjc_joint_proof.specs.Images.{arrays_before}
use Rattle.cjc_joint_proof.proofs.ImageLaws.{cells_move, cells_split}
use Rattle.cjc_joint_theorem.specs.Asked.{group_named}
use Rattle.cjc_jvm_semantics.specs.Linked.{Method}
use Rattle.cjc_int_alike.specs.ByModes.{look_ups_by_mode}
use Rattle.cjc_joint_theorem.specs.Members.{Member, files_of, images_of, homes_of, tables_of}
use Rattle.cjc_joint_theorem.proofs.MembersLaws.First.{array_at, both_all, both_fit, cells_fit}
use Rattle.cjc_joint_theorem.proofs.MembersLaws.Worlds.{member_at, files_at}
use Rattle.cjc_joint_modes.specs.Codes.{group_look_ups_by_mode}
use Rattle.cjc_joint_modes.specs.Members.{modes_of, AreMembersByModes}
use Rattle.cjc_joint_modes.proofs.MembersLaws.Worlds.{are_apart, supers_stay}

-- ---- all packages

module _ (members : List Member) (modes : ℕ → Method → Bool) (is : AreMembersByModes members modes) where
  abbrev group : List Files
  group = files_of members

  abbrev images : List StaticImage
  images = images_of members

  abbrev image : StaticImage
  image = joint_image images

  abbrev l : Named
  l = group_look_ups_by_mode group image (homes_of members) (tables_of members) (modes_of members modes)

  abbrev heap : Heap
  heap = map first_array image.arrays

  image_at : (ms : List Member) (q : ℕ) (p : Member) → slice_get ms q ≡ Some p → slice_get (images_of ms) q
      ≡ Some p.image
  image_at ms q p e = get_mapped (λ (m : Member). m.image) ms q ∙ ap (option_map (λ (m : Member). m.image)) e

  first_arrays : (ms : List Member) → ((q : ℕ) (p : Member) → slice_get ms q ≡ Some p → AllByRecursion IsFirstArray
      (let i = p.image in i.arrays))
      → AllByRecursion IsFirstArray (flat_map (λ (i : StaticImage). i.arrays) (images_of ms))
  first_arrays [] h = tt
  first_arrays (p ∷ ms) h = both_all IsFirstArray (let i = p.image in i.arrays) (flat_map (λ (i : StaticImage).
      i.arrays) (images_of ms)) (h 0 p refl) (first_arrays ms (λ q m e. h (suc q) m e))

  types_stay : (q : ℕ) (p : Member) → slice_get members q ≡ Some p → (a b : Shape (List ℕ))
      → (let s = look_ups_by_mode p.files p.image p.near p.tables (modes q) in s.is_of a b) ≡ true → l.is_of a b ≡ true
  unfolding named group_named
  types_stay q p at a b e = supers_stay members modes is q p.files (files_at members q p at) (shape_name a)
      (shape_name b) e

  arrays_stay : (q : ℕ) (p : Member) → slice_get members q ≡ Some p → (k : ℕ) (thing : HeapObject (List ℕ) MemberId)
      → slice_get (map first_array (let i = p.image in i.arrays)) k ≡ Some thing
      → slice_get heap (arrays_before images q + k) ≡ Some thing
  arrays_stay q p at k thing e =
      let a = mapped_at first_array (let i = p.image in i.arrays) k thing e in
      get_mapped first_array image.arrays (arrays_before images q + k)
      ∙ ap (option_map first_array) (array_at images q k p.image a.0 (image_at members q p at) a.1)
      ∙ ap (λ v. Some v) a.2

  package_fits : (q : ℕ) (p : Member) → slice_get members q ≡ Some p
      → SlotsFit l heap (map first_cell (cells image (let f = p.files in f.classes)))
  package_fits q p at =
      let one = is.each q p at in
      let first = one.first in
      subst (λ xs. SlotsFit l heap (map first_cell xs))
      (sym (cells_move group images (are_apart members modes is) is.told q p.files p.image (files_at members q p at)
      (image_at members q p at)))
      (cells_fit (look_ups_by_mode p.files p.image p.near p.tables (modes q)) l (map first_array (let i = p.image
      in i.arrays)) heap
      (arrays_before images q) (types_stay q p at) (arrays_stay q p at) (cells p.image (let f = p.files in f.classes))
      first.cells)

  all_fit : (files : List Files) → ((q : ℕ) (f : Files) → slice_get files q ≡ Some f → SlotsFit l heap
      (map first_cell (cells image f.classes)))
      → SlotsFit l heap (map first_cell (flat_map (λ (f : Files). cells image f.classes) files))
  all_fit [] h = no_slots
  all_fit (f ∷ files) h = subst (SlotsFit l heap) (sym (map_append first_cell (cells image f.classes) (flat_map
      (λ (f : Files). cells image f.classes) files)))
      (both_fit l heap (map first_cell (cells image f.classes)) (map first_cell (flat_map (λ (f : Files). cells image
      f.classes) files)) (h 0 f refl) (all_fit files (λ q g e. h (suc q) g e)))

  pub first : IsFirst l (joint group) image
  first = record {
    arrays = first_arrays members (λ q p at. (let one = is.each q p at in let f = one.first in f.arrays));
    cells = subst (λ xs. SlotsFit l heap (map first_cell xs)) (sym (cells_split image group))
        (all_fit group (λ q f at. (let m = member_at members q f at in subst (λ (g : Files). SlotsFit l heap
        (map first_cell (cells image g.classes))) m.2 (package_fits q m.0 m.1))));
  }
