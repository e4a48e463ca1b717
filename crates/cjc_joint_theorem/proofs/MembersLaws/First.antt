-- What the images of several packages say together is of sound types.
use Rattle.std.proofs.Common.{◌≡◌, ℕ, zero, suc, ◌+◌, arith, true, List, [], ◌∷◌, ◌++◌, map, flat_map, length}
use Rattle.std.proofs.Common.{Some}
use Rattle.std.proofs.Common.{refl, sym, ap, subst, ◌∙◌}
use Rattle.std.specs.Prelude.{slice_get, option_map}
use Rattle.std.specs.List.{AllByRecursion}
use Rattle.cjc_bytes.specs.declared.fault.MemberId.{MemberId}
use Rattle.cjc_bytes.proofs.Gets.{get_behind, get_mapped, in_front, mapped_at}
use Rattle.cjc_bytes.proofs.Lists.{map_append}
use Rattle.cjc_script.specs.declared.value.Value.{Value}
use Rattle.cjc_script.specs.declared.report.FieldValue.{FieldValue}
use Rattle.cjc_script.specs.Sorts.{Sort, Shape, shape_name, field_sort}
use Rattle.cjc_card_semantics.specs.Bytecode.Effects.{HeapObject, Slot, shape}
use Rattle.cjc_world.specs.Files.{Files}
use Rattle.cjc_world.specs.declared.image.ArrayCell.{ArrayCell}
use Rattle.cjc_world.specs.declared.image.StaticImage.{StaticImage}
use Rattle.cjc_ncode.specs.ByLabel.{Named}
use Rattle.cjc_jvm_semantics.specs.OnePackage.{cells}
use Rattle.cjc_jvm_semantics.specs.Group.{joint, joint_image}
use Rattle.cjc_narrow.specs.Rows.Package.{first_array, first_cell, named}
use Rattle.cjc_narrow_proof.specs.Selection.Relation.{Heap, CellFits, a_boolean, a_byte, a_short, an_int, a_null}
use Rattle.cjc_narrow_proof.specs.Selection.Relation.{an_object, SlotsFit, no_slots, slot}
use Rattle.cjc_narrow_proof.specs.Runs.Converted.{IsFirst, IsFirstArray}
use Rattle.cjc_narrow_proof.specs.Runs.Tables.{look_ups}
use Rattle.cjc_joint_proof.specs.Images.{arrays_before, cell_behind, value_behind}
use Rattle.cjc_joint_proof.proofs.ImageLaws.{cells_move, cells_split}
use Rattle.cjc_joint_theorem.specs.Asked.{group_named}
use Rattle.cjc_joint_theorem.specs.Together.Homes.{group_look_ups}
use Rattle.cjc_joint_theorem.specs.Members.{Member, files_of, images_of, homes_of, tables_of, AreMembers}
use Rattle.cjc_joint_theorem.proofs.MembersLaws.Worlds.{are_apart, supers_stay, member_at, files_at}

-- ---- lists

pub both_all : {A : Type 0} (P : A → Type 0) (xs ys : List A) → AllByRecursion P xs → AllByRecursion P ys
    → AllByRecursion P (xs ++ ys)
both_all P [] ys h g = g
both_all P (x ∷ xs) ys h g = (h.0, both_all P xs ys h.1 g)

pub both_fit : (l : Named) (heap : Heap) (xs ys : List (Slot MemberId)) → SlotsFit l heap xs → SlotsFit l heap ys
    → SlotsFit l heap (xs ++ ys)
both_fit l heap _ ys no_slots g = g
both_fit l heap _ ys (slot {slots = xs} one h) g = slot one (both_fit l heap xs ys h g)

-- an array of an image among those of all
pub array_at : (images : List StaticImage) (q k : ℕ) (i : StaticImage) (a : ArrayCell) → slice_get images q ≡ Some i
    → slice_get i.arrays k ≡ Some a
    → slice_get (flat_map (λ (i : StaticImage). i.arrays) images) (arrays_before images q + k) ≡ Some a
array_at [] q k i a is at = cc
array_at (j ∷ images) zero k i a is at =
    let same : j ≡ i = cc in
    let z : 0 + k ≡ k = omega arith in
    ap (slice_get (j.arrays ++ flat_map (λ (i : StaticImage). i.arrays) images)) z
    ∙ in_front j.arrays (flat_map (λ (i : StaticImage). i.arrays) images) k a
    (ap (λ (v : StaticImage). slice_get v.arrays k) same ∙ at)
array_at (j ∷ images) (suc q) k i a is at =
    let s : length j.arrays + arrays_before images q + k ≡ length j.arrays + (arrays_before images q + k) = omega arith
    in
    ap (slice_get (j.arrays ++ flat_map (λ (i : StaticImage). i.arrays) images)) s
    ∙ (get_behind j.arrays (flat_map (λ (i : StaticImage). i.arrays) images) (arrays_before images q + k)
    ∙ array_at images q k i a is at)

-- ---- cells of one package

module _ (small large : Named) (one all : Heap) (before : ℕ)
    (is_of : (a b : Shape (List ℕ)) → small.is_of a b ≡ true → large.is_of a b ≡ true)
    (keeps : (k : ℕ) (thing : HeapObject (List ℕ) MemberId) → slice_get one k ≡ Some thing
    → slice_get all (before + k) ≡ Some thing) where
  cell_fits : (sort : Sort) (v : Value) → CellFits small one sort v → CellFits large all sort (value_behind before v)
  cell_fits _ _ (a_boolean h) = a_boolean h
  cell_fits _ _ (a_byte h) = a_byte h
  cell_fits _ _ (a_short h) = a_short h
  cell_fits _ _ (an_int h) = an_int h
  cell_fits _ _ a_null = a_null
  cell_fits _ _ (an_object {kind = kind} {k = k} thing at is) = an_object thing (keeps k thing at) (is_of (shape thing)
      kind is)

  pub cells_fit : (xs : List FieldValue) → SlotsFit small one (map first_cell xs)
      → SlotsFit large all (map first_cell (map (cell_behind before) xs))
  cells_fit [] h = no_slots
  cells_fit (x ∷ xs) (slot one_fits h) = slot (cell_fits (field_sort (let f = x.field in f.desc)) x.value one_fits)
      (cells_fit xs h)

-- ---- all packages

module _ (members : List Member) (is : AreMembers members) where
  abbrev group : List Files
  group = files_of members

  abbrev images : List StaticImage
  images = images_of members

  abbrev image : StaticImage
  image = joint_image images

  abbrev l : Named
  l = group_look_ups group image (homes_of members) (tables_of members)

  abbrev heap : Heap
  heap = map first_array image.arrays

  image_at : (ms : List Member) (q : ℕ) (p : Member) → slice_get ms q ≡ Some p → slice_get (images_of ms) q
      ≡ Some p.image
  image_at ms q p e = get_mapped (λ (m : Member). m.image) ms q ∙ ap (option_map (λ (m : Member). m.image)) e

  first_arrays : (ms : List Member) → ((q : ℕ) (p : Member) → slice_get ms q ≡ Some p → AllByRecursion IsFirstArray
      (let i = p.image in i.arrays))
      → AllByRecursion IsFirstArray (flat_map (λ (i : StaticImage). i.arrays) (images_of ms))
  first_arrays [] h = tt
  first_arrays (p ∷ ms) h = both_all IsFirstArray (let i = p.image in i.arrays) (flat_map (λ (i : StaticImage).
      i.arrays) (images_of ms)) (h 0 p refl) (first_arrays ms (λ q m e. h (suc q) m e))

  types_stay : (q : ℕ) (p : Member) → slice_get members q ≡ Some p → (a b : Shape (List ℕ))
      → (let s = look_ups p.files p.image p.near p.tables in s.is_of a b) ≡ true → l.is_of a b ≡ true
  unfolding named group_named
  types_stay q p at a b e = supers_stay members is q p.files (files_at members q p at) (shape_name a) (shape_name b) e

  arrays_stay : (q : ℕ) (p : Member) → slice_get members q ≡ Some p → (k : ℕ) (thing : HeapObject (List ℕ) MemberId)
      → slice_get (map first_array (let i = p.image in i.arrays)) k ≡ Some thing
      → slice_get heap (arrays_before images q + k) ≡ Some thing
  arrays_stay q p at k thing e =
      let a = mapped_at first_array (let i = p.image in i.arrays) k thing e in
      get_mapped first_array image.arrays (arrays_before images q + k)
      ∙ ap (option_map first_array) (array_at images q k p.image a.0 (image_at members q p at) a.1)
      ∙ ap (λ v. Some v) a.2

  package_fits : (q : ℕ) (p : Member) → slice_get members q ≡ Some p
      → SlotsFit l heap (map first_cell (cells image (let f = p.files in f.classes)))
  package_fits q p at =
      let one = is.each q p at in
      let first = one.first in
      subst (λ xs. SlotsFit l heap (map first_cell xs))
      (sym (cells_move group images (are_apart members is) is.told q p.files p.image (files_at members q p at)
      (image_at members q p at)))
      (cells_fit (look_ups p.files p.image p.near p.tables) l (map first_array (let i = p.image in i.arrays)) heap
      (arrays_before images q) (types_stay q p at) (arrays_stay q p at) (cells p.image (let f = p.files in f.classes))
      first.cells)

  all_fit : (files : List Files) → ((q : ℕ) (f : Files) → slice_get files q ≡ Some f → SlotsFit l heap
      (map first_cell (cells image f.classes)))
      → SlotsFit l heap (map first_cell (flat_map (λ (f : Files). cells image f.classes) files))
  all_fit [] h = no_slots
  all_fit (f ∷ files) h = subst (SlotsFit l heap) (sym (map_append first_cell (cells image f.classes) (flat_map
      (λ (f : Files). cells image f.classes) files)))
      (both_fit l heap (map first_cell (cells image f.classes)) (map first_cell (flat_map (λ (f : Files). cells image
      f.classes) files)) (h 0 f refl) (all_fit files (λ q g e. h (suc q) g e)))

  pub first : IsFirst l (joint group) image
  first = record {
    arrays = first_arrays members (λ q p at. (let one = is.each q p at in let f = one.first in f.arrays));
    cells = subst (λ xs. SlotsFit l heap (map first_cell xs)) (sym (cells_split image group))
        (all_fit group (λ q f at. (let m = member_at members q f at in subst (λ (g : Files). SlotsFit l heap
        (map first_cell (cells image g.classes))) m.2 (package_fits q m.0 m.1))));
  }
