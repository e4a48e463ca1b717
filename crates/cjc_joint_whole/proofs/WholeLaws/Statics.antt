-- The static cells of a package are among those of all.
use Rattle.std.proofs.Common.{◌≡◌, ℕ, zero, suc, ◌||◌, Bool, true, false, List, [], ◌∷◌, ◌++◌, map, Some, refl, sym, ap}
use Rattle.std.proofs.Common.{subst, ◌∙◌, flat_map}
use Rattle.std.specs.Prelude.{slice_get, option_map}
use Rattle.cjc_bytes.specs.declared.fault.MemberId.{MemberId}
use Rattle.cjc_bytes.proofs.Gets.{get_mapped}
use Rattle.cjc_bytes.proofs.Lists.{map_append}
use Rattle.cjc_jvm_semantics.specs.Group.{joint, joint_image}
use Rattle.cjc_jvm_semantics.specs.OnePackage.{cells}
use Rattle.cjc_world.specs.Files.{Files}
use Rattle.cjc_world.specs.declared.image.StaticImage.{StaticImage}
use Rattle.cjc_narrow_proof.specs.NCode.PoolOrder.{same_member}
use Rattle.cjc_narrow_proof.specs.Script.declared.report.FieldValue.{FieldValue}
use Rattle.cjc_narrow_proof.specs.Selection.Rows.{lists}
use Rattle.cjc_joint_proof.specs.Images.{arrays_before, cell_behind}
use Rattle.cjc_joint_proof.proofs.ImageLaws.{cells_move, cells_split}
use Rattle.cjc_joint_proof.proofs.SoundLaws.{apart}
use Rattle.cjc_joint_theorem.specs.Members.{Member, files_of, images_of}
use Rattle.cjc_joint_theorem.proofs.MembersLaws.Worlds.{files_at}
use Rattle.cjc_joint_whole.specs.Whole.{AreWholeWith}

front_lists : (xs ys : List MemberId) (f : MemberId) → lists xs f ≡ true → lists (xs ++ ys) f ≡ true
front_lists [] ys f e = absurd cc
front_lists (x ∷ xs) ys f e = by (same_member x f) e (front_lists xs ys f)
  where
    by : (b : Bool) → (b || lists xs f) ≡ true → (lists xs f ≡ true → lists (xs ++ ys) f ≡ true)
        → (b || lists (xs ++ ys) f) ≡ true
    by true e rest = refl
    by false e rest = rest e

back_lists : (xs ys : List MemberId) (f : MemberId) → lists ys f ≡ true → lists (xs ++ ys) f ≡ true
back_lists [] ys f e = e
back_lists (x ∷ xs) ys f e = by (same_member x f) (back_lists xs ys f e)
  where
    by : (b : Bool) → lists (xs ++ ys) f ≡ true → (b || lists (xs ++ ys) f) ≡ true
    by true h = refl
    by false h = h

-- the fields of cells
abbrev fields_of : List FieldValue → List MemberId
fields_of xs = map (λ (c : FieldValue). c.field) xs

same_fields : (n : ℕ) (xs : List FieldValue) → fields_of (map (cell_behind n) xs) ≡ fields_of xs
same_fields n [] = refl
same_fields n (x ∷ xs) = ap (λ fs. x.field ∷ fs) (same_fields n xs)

in_all : (image : StaticImage) (f : MemberId) (group : List Files) (q : ℕ) (p : Files) → slice_get group q ≡ Some p
    → lists (fields_of (cells image p.classes)) f ≡ true
    → lists (fields_of (flat_map (λ (p : Files). cells image p.classes) group)) f ≡ true
in_all image f [] q p at e = absurd cc
in_all image f (m ∷ group) zero p at e =
    let same : m ≡ p = cc in
    let more = flat_map (λ (p : Files). cells image p.classes) group in
    subst (λ fs. lists fs f ≡ true) (sym (map_append (λ (c : FieldValue). c.field) (cells image m.classes) more))
    (front_lists (fields_of (cells image m.classes)) (fields_of more) f (subst (λ (v : Files). lists (fields_of (cells
    image v.classes)) f ≡ true) (sym same) e))
in_all image f (m ∷ group) (suc q) p at e =
    let more = flat_map (λ (p : Files). cells image p.classes) group in
    subst (λ fs. lists fs f ≡ true) (sym (map_append (λ (c : FieldValue). c.field) (cells image m.classes) more))
    (back_lists (fields_of (cells image m.classes)) (fields_of more) f (in_all image f group q p at e))

module _ {K : _} (members : List Member) (is : AreWholeWith K members) (q : ℕ) (p : Member)
    (at : slice_get members q ≡ Some p) where
  abbrev group : List Files
  group = files_of members

  abbrev images : List StaticImage
  images = images_of members

  pub cell_stays : (f : MemberId) → lists (fields_of (cells p.image (let files = p.files in files.classes))) f ≡ true
      → lists (fields_of (cells (joint_image images) (let j = joint group in j.classes))) f ≡ true
  cell_stays f e =
      let image_at : slice_get images q ≡ Some p.image = get_mapped (λ (m : Member). m.image) members q
      ∙ ap (option_map (λ (m : Member). m.image)) at in
      let moved = cells_move group images (apart group is.sound) is.told q p.files p.image (files_at members q p at)
      image_at in
      let own : lists (fields_of (cells (joint_image images) (let files = p.files in files.classes))) f ≡ true =
      ap (λ xs. lists (fields_of xs) f) moved
      ∙ ap (λ fs. lists fs f) (same_fields (arrays_before images q) (cells p.image (let files = p.files
      in files.classes))) ∙ e in
      ap (λ xs. lists (fields_of xs) f) (cells_split (joint_image images) group)
      ∙ in_all (joint_image images) f group q p.files (files_at members q p at) own
