-- Packages before the first entry, by name and on the card.
use Rattle.std.proofs.Common.{◌≡◌, ℕ, zero, suc, ◌+◌, arith, refl, sym, ap, subst, ◌∙◌, Bool, true, false, List, []}
use Rattle.std.proofs.Common.{◌∷◌}
use Rattle.std.proofs.Common.{◌++◌, map, length, flat_map, filter, ⊎_elim}
use Rattle.std.specs.Prelude.{Option, Some, None, option_map, slice_get, ◌&&◌, ◌||◌}
use Rattle.std.proofs.lemmas.Bool.{and_parts, and_from}
use Rattle.std.proofs.lemmas.List.{append-nil, length-map}
use Rattle.cjc_token_proof.proofs.BytesGets.{get_mapped}
use Rattle.cjc_token_proof.proofs.BytesLists.{map_append}
use Rattle.cjc_card_semantics.specs.Bytes.declared.fault.MemberId.{MemberId}
use Rattle.cjc_card_semantics.specs.Script.declared.report.FieldValue.{FieldValue}
use Rattle.cjc_card_semantics.specs.Script.declared.value.Value.{Value}
use Rattle.cjc_card_semantics.specs.Script.declared.value.Value.TheVariants.{Num, Null, Obj}
use Rattle.cjc_card_semantics.specs.Bytecode.Effects.{Byte, HeapObject, Int, Letter, Memory, Reference, Short, Slot}
use Rattle.cjc_card_semantics.specs.Bytecode.Renaming.{heap_object_as, memory_as}
use Rattle.cjc_card_semantics.specs.Machine.Classes.{Class, Field}
use Rattle.cjc_card_semantics.specs.Machine.Statics as card
use Rattle.cjc_card_semantics.specs.Machine.Statics.{Image, first_arrays, first_image, first_images}
use Rattle.cjc_card_semantics.specs.Machine.Statics.{first_memory as first_on_card}
use Rattle.cjc_exported.specs.ClassFile.declared.tree.ClassTree.{ClassTree}
use Rattle.cjc_exported.specs.ClassFile.declared.tree.FieldTree.{FieldTree}
use Rattle.cjc_card_semantics.specs.ExportFile.declared.tree.ExportTree.{ExportTree}
use Rattle.cjc_exported.specs.World.Files.{Files}
use Rattle.cjc_exported.specs.World.declared.image.ArrayCell.{ArrayCell}
use Rattle.cjc_exported.specs.World.declared.image.StaticImage.{StaticImage}
use Rattle.cjc_exported.specs.World.declared.image.ValueCell.{ValueCell}
use Rattle.cjc_link_semantics.specs.Clinit.Fields.{is_cell}
use Rattle.cjc_link_semantics.specs.Clinit.Image.{field_id}
use Rattle.cjc_link_semantics.specs.JvmSemantics.Group.{joint, joint_classes, joint_image, package_of}
use Rattle.cjc_link_semantics.specs.JvmSemantics.OnePackage.{cells}
use Rattle.cjc_exported.specs.Narrow.Rows.Package.{first_array, first_cell, first_memory}
use Rattle.cjc_link_semantics.specs.Components.Names.{class_at}
use Rattle.cjc_link_semantics.specs.Components.Package.{Package}
use Rattle.cjc_link_semantics.specs.Components.Statics.{array_init}
use Rattle.cjc_link_semantics.specs.Loaded.{Member, group_loaded, part_in}
use Rattle.cjc_card_semantics.specs.Machine.ByToken.{shown_cell, shown_cells}
use Rattle.cjc_token_proof.specs.NCode.ByLabel.{shown_slot}
use Rattle.cjc_token_proof.specs.NCode.Lowering.Agreement.{Cells}
use Rattle.cjc_token_proof.specs.NCode.PoolOrder.{same_member}
use Rattle.cjc_token_proof.specs.ByToken.Cells.{HasCells, are_cells, image_of, fits, is_one_of, letter}
use Rattle.cjc_token_proof.specs.Tables.Known.{order_of, statics_of}
use Rattle.cjc_token_proof.specs.Tables.Known as known
use Rattle.cjc_token_proof.proofs.ByToken.Members.{behind_all, behind_one, either_field, front_all, front_one}
use Rattle.cjc_token_proof.proofs.ByToken.Members.{member_tells}
use Rattle.cjc_token_proof.proofs.TablesLaws.Arrays.{arrays_begin}
use Rattle.cjc_token_proof.proofs.TablesLaws.First.{statics_begin}
use Rattle.cjc_token_proof.specs.ByToken.Objects.{slots_of}
use Rattle.cjc_token_proof.specs.Tables.Loading.{naming, part}
use Rattle.cjc_token_proof.proofs.TablesLaws.Statics.{cells_shown, has_cells}
use Rattle.cjc_joint_proof.specs.Begun.{AreBegun, all_files, all_images, first_of, statics_in}
use Rattle.cjc_joint_proof.specs.Cells.{HaveCells, Statics, all_fields, images_of}
use Rattle.cjc_joint_proof.specs.Images.{IsFieldOf, TellOwnFields, arrays_before, cell_behind, value_behind}
use Rattle.cjc_joint_proof.specs.Loading.{group_of, member_of}
use Rattle.cjc_joint_proof.specs.Memory.{AllBegin, First, all_cells, fields_in, images_from}
use Rattle.cjc_joint_proof.specs.Worlds.{AreApart}
use Rattle.cjc_joint_proof.proofs.CellLaws.{Shows, shown_all}
use Rattle.cjc_joint_proof.proofs.ImageLaws.{cells_move, cells_split}
use Rattle.cjc_joint_proof.proofs.MemoryLaws.{cells_fit, images_begin}
use Rattle.cjc_joint_proof.proofs.PackageNames.{package_is}

-- ---- values fit wherever their arrays stand

fits_behind : (n : ℕ) (k : Letter) (v : Value) → fits k (value_behind n v) ≡ fits k v
fits_behind n k (Num z) = refl
fits_behind n k Null = refl
fits_behind n Byte (Obj j) = refl
fits_behind n Short (Obj j) = refl
fits_behind n Int (Obj j) = refl
fits_behind n Reference (Obj j) = refl

cells_behind : (n : ℕ) (fs : List MemberId) (xs : List FieldValue) → are_cells fs (map first_cell xs) ≡ true
    → are_cells fs (map first_cell (map (cell_behind n) xs)) ≡ true
cells_behind n [] [] e = refl
cells_behind n [] (x ∷ xs) e = cc
cells_behind n (f ∷ fs) [] e = cc
cells_behind n (f ∷ fs) (x ∷ xs) e =
    let one = and_parts (same_member x.field f) (fits (letter f) x.value && are_cells fs (map first_cell xs)) e in
    let two = and_parts (fits (letter f) x.value) (are_cells fs (map first_cell xs)) one.1 in
    and_from _ _ one.0 (and_from _ _ (fits_behind n (letter f) x.value ∙ two.0) (cells_behind n fs xs two.1))

-- ---- the class of a static field

class_of_field : (name : List ℕ) (fs : List FieldTree) (f : MemberId) → is_one_of f (map (field_id name) fs) ≡ true
    → f.class ≡ name
class_of_field name [] f e = cc
class_of_field name (g ∷ fs) f e = by (same_member (field_id name g) f) refl e (class_of_field name fs f)
  where
    by : (b : Bool) → same_member (field_id name g) f ≡ b → (b || is_one_of f (map (field_id name) fs)) ≡ true
        → (is_one_of f (map (field_id name) fs) ≡ true → f.class ≡ name) → f.class ≡ name
    by true h k rest = sym (ap (λ (m : MemberId). m.class) (member_tells (field_id name g) f h))
    by false h k rest = rest k

-- the class file that has it
record HasClass (classes : List ClassTree) (f : MemberId) : Type 0 where
  place : ℕ
  class : ClassTree
  there : slice_get classes place ≡ Some class
  name : f.class ≡ class.name

has_class : (classes : List ClassTree) (f : MemberId) → is_one_of f (statics_of classes) ≡ true → HasClass classes f
has_class [] f e = cc
has_class (c ∷ classes) f e = ⊎_elim
    (λ here. record {
      place = 0;
      class = c;
      there = refl;
      name = class_of_field c.name (filter is_cell c.fields) f here;
    })
    (λ rest. let r = has_class classes f rest in record {
      place = suc r.place;
      class = r.class;
      there = r.there;
      name = r.name;
    })
    (either_field (known.statics_in c) (statics_of classes) f e)

array_among : (arrays : List ArrayCell) (k : ℕ) (a : ArrayCell) → slice_get arrays k ≡ Some a
    → is_one_of a.field (map (λ (x : ArrayCell). x.field) arrays) ≡ true
array_among [] k a e = cc
array_among (x ∷ arrays) zero a e = let same : x ≡ a = cc in
    ap (λ (y : ArrayCell). is_one_of y.field (x.field ∷ map (λ (z : ArrayCell). z.field) arrays)) (sym same)
    ∙ front_one x.field (map (λ (z : ArrayCell). z.field) arrays)
array_among (x ∷ arrays) (suc k) a e =
    behind_one a.field x.field (map (λ (z : ArrayCell). z.field) arrays) (array_among arrays k a e)

value_among : (values : List ValueCell) (k : ℕ) (v : ValueCell) → slice_get values k ≡ Some v
    → is_one_of v.field (map (λ (x : ValueCell). x.field) values) ≡ true
value_among [] k v e = cc
value_among (x ∷ values) zero v e = let same : x ≡ v = cc in
    ap (λ (y : ValueCell). is_one_of y.field (x.field ∷ map (λ (z : ValueCell). z.field) values)) (sym same)
    ∙ front_one x.field (map (λ (z : ValueCell). z.field) values)
value_among (x ∷ values) (suc k) v e =
    behind_one v.field x.field (map (λ (z : ValueCell). z.field) values) (value_among values k v e)

module _ (packages : List Package) (begun : AreBegun packages) (apart : AreApart (all_files packages)) where
  its_cells : (q : ℕ) (p : Package) → slice_get packages q ≡ Some p
      → HasCells (order_of p.image) (statics_of (let files = p.files in files.classes))
  its_cells q p is = let b = begun q p is in has_cells b.list p b.sound b.typed b.codes b.image b.once

  its_files : (q : ℕ) (p : Package) → slice_get packages q ≡ Some p → slice_get (all_files packages) q ≡ Some p.files
  its_files q p is = get_mapped (λ (x : Package). x.files) packages q ∙ ap (option_map (λ (x : Package). x.files)) is

  -- a static field of a package is of its name
  its_field : (q : ℕ) (p : Package) → slice_get packages q ≡ Some p → (f : MemberId)
      → is_one_of f (statics_of (let files = p.files in files.classes)) ≡ true
      → IsFieldOf (all_files packages) q f
  its_field q p is f e =
      let files = p.files in
      let c = has_class files.classes f e in
      let d = c.class in
      record {
        files = files;
        member = its_files q p is;
        home = ap package_of c.name ∙ package_is files.package_name d.name (apart.own q c.place files d (record {
          member = its_files q p is;
          file = c.there;
        }));
      }

  -- the package that has an image
  record HasPackage (q : ℕ) (i : StaticImage) : Type 0 where
    package_there : Package
    is : slice_get packages q ≡ Some package_there
    image : package_there.image ≡ i

  of_image : (q : ℕ) (i : StaticImage) → slice_get (all_images packages) q ≡ Some i → HasPackage q i
  of_image q i e = by (slice_get packages q) refl (sym (get_mapped (λ (x : Package). x.image) packages q) ∙ e)
    where
      by : (o : Option Package) → slice_get packages q ≡ o → option_map (λ (x : Package). x.image) o ≡ Some i
          → HasPackage q i
      by None at f = cc
      by (Some p) at f = let same : p.image ≡ i = cc in record { package_there = p; is = at; image = same }

  pub own_fields : TellOwnFields (all_files packages) (all_images packages)
  own_fields = record {
    arrays = λ q k i a is at. (let r = of_image q i is in
        let p = r.package_there in
        let image = p.image in
        let h = its_cells q p r.is in
        let among = array_among image.arrays k a (ap (λ (j : StaticImage). slice_get j.arrays k) r.image ∙ at) in
        let o = order_of image in
        its_field q p r.is a.field (h.no_other a.field (front_all o.references o.numbers a.field (front_all (map (λ (x :
        ArrayCell). x.field) image.arrays) image.nulls a.field among))));
    others = λ q k i v is at. (let r = of_image q i is in
        let p = r.package_there in
        let image = p.image in
        let h = its_cells q p r.is in
        let among = value_among image.others k v (ap (λ (j : StaticImage). slice_get j.others k) r.image ∙ at) in
        let o = order_of image in
        its_field q p r.is v.field (h.no_other v.field (behind_all o.references o.numbers v.field (behind_all
        image.zeros (map (λ (x : ValueCell). x.field) image.others) v.field among))));
  }

  -- ---- all packages from one on

  statics_at : (q : ℕ) (s : Statics) → slice_get (fields_in (map first_of packages)) q ≡ Some s → (p : Package)
      × (slice_get packages q ≡ Some p) × (statics_in p ≡ s)
  statics_at q s e = by (slice_get packages q) refl (sym (get_mapped (λ (x : First). x.fields) (map first_of packages) q
      ∙ ap (option_map (λ (x : First). x.fields)) (get_mapped first_of packages q)) ∙ e)
    where
      by : (o : Option Package) → slice_get packages q ≡ o
          → option_map (λ (x : First). x.fields) (option_map first_of o) ≡ Some s → (p : Package)
          × (slice_get packages q ≡ Some p) × (statics_in p ≡ s)
      by None at f = cc
      by (Some p) at f = let same : statics_in p ≡ s = cc in (p, at, same)

  have_cells : HaveCells (fields_in (map first_of packages))
  have_cells = record {
    each = λ q s is. (let r = statics_at q s is in subst (λ (t : Statics). HasCells t.order t.all) r.2 (its_cells q r.0
        r.1));
    apart = λ q r s t f is at in_s in_t. (let a = statics_at q s is in let b = statics_at r t at in
        let one = its_field q a.0 a.1 f (ap (λ (u : Statics). is_one_of f u.all) a.2 ∙ in_s) in
        let two = its_field r b.0 b.1 f (ap (λ (u : Statics). is_one_of f u.all) b.2 ∙ in_t) in
        apart.names q r one.files two.files one.member two.member (sym one.home ∙ two.home));
  }

begin_each : (n : ℕ) (packages : List Package) → AreBegun packages → AllBegin n (map first_of packages)
begin_each n [] begun = tt
begin_each n (p ∷ packages) begun =
    let b = begun 0 p refl in
    let image = p.image in
    let files = p.files in
    let first = statics_begin b.list p b.sound b.typed b.codes b.image b.once in (
      record {
        image = cc;
        fit = cells_behind n (statics_of files.classes) (cells image files.classes) b.fit;
      },
      begin_each (n + length (map array_init image.arrays)) packages (λ q x at. begun (suc q) x at),
    )

loaded_from : (group : List Member) (outside : List ExportTree) (n : ℕ) (packages : List Package)
    → first_images n (map (part_in group outside) (map member_of packages)) ≡ images_from n (map first_of packages)
loaded_from group outside n [] = refl
loaded_from group outside n (p ∷ packages) =
    let f = first_of p in
    let s = f.component in
    ap (λ is. first_image n s ∷ is) (loaded_from group outside (n
    + length s.array_inits) packages)

cells_from : (joint : StaticImage) (n : ℕ) (packages : List Package)
    → ((j : ℕ) (p : Package) → slice_get packages j ≡ Some p → cells joint (let files = p.files in files.classes)
    ≡ map (cell_behind (n + arrays_before (all_images packages) j)) (cells p.image (let files = p.files in
    files.classes)))
    → flat_map (λ (f : Files). cells joint f.classes) (all_files packages) ≡ all_cells n (map first_of packages)
cells_from joint n [] each = refl
cells_from joint n (p ∷ packages) each =
    let image = p.image in
    let files = p.files in
    let count = length (map array_init image.arrays) in
    let same : count ≡ length image.arrays = length-map image.arrays array_init in
    let z : n + 0 ≡ n = omega arith in
    let here : cells joint files.classes ≡ map (cell_behind n) (cells image files.classes) = each 0 p refl ∙ ap (λ m.
    map (cell_behind m) (cells image files.classes)) z in
    let rest = cells_from joint (n + count) packages (λ j x at. let s : n + (length image.arrays + arrays_before
    (all_images packages) j) ≡ n + count + arrays_before (all_images packages) j = omega (arith, same) in each (suc j) x
    at ∙ ap (λ m. map (cell_behind m) (cells x.image (let files = x.files in files.classes))) s) in
    ap (λ xs. xs ++ flat_map (λ (f : Files). cells joint f.classes) (all_files packages)) here
    ∙ ap (λ xs. map (cell_behind n) (cells image files.classes) ++ xs) rest

mapped : (ps : List Package) → fields_in (map first_of ps) ≡ map statics_in ps
mapped [] = refl
mapped (p ∷ ps) = ap (λ ss. statics_in p ∷ ss) (mapped ps)

-- what all static cells hold at first by name is what each package's do, behind the arrays of those before
cells_are : (packages : List Package) → AreBegun packages → AreApart (all_files packages)
    → cells (joint_image (all_images packages)) (joint_classes (all_files packages)) ≡ all_cells 0 (map first_of
    packages)
cells_are packages begun apart =
    let joint = joint_image (all_images packages) in
    let moved = cells_from joint 0 packages (λ j p at. let z : arrays_before (all_images packages) j ≡ 0 + arrays_before
    (all_images packages) j = omega arith in cells_move (all_files packages) (all_images packages) apart (own_fields
    packages begun apart) j p.files p.image (its_files packages begun apart j p at) (get_mapped (λ (x : Package).
    x.image) packages j ∙ ap (option_map (λ (x : Package). x.image)) at)
    ∙ ap (λ m. map (cell_behind m) (cells p.image (let files = p.files in files.classes))) z) in
    cells_split joint (all_files packages) ∙ moved

pub statics_alike : (packages : List Package) → AreBegun packages → AreApart (all_files packages)
    → (let l = group_loaded (group_of packages) in first_images 0 l.parts)
    ≡ images_of (map statics_in packages) (map first_cell (cells (joint_image (all_images packages)) (joint_classes
    (all_files packages))))
statics_alike packages begun apart =
    let l = group_loaded (group_of packages) in
    let firsts = map first_of packages in
    loaded_from (group_of packages) l.trees 0 packages
    ∙ (images_begin 0 firsts (begin_each 0 packages begun) (have_cells packages begun apart)
    ∙ (ap (λ xs. images_of (fields_in firsts) (map first_cell xs)) (sym (cells_are packages begun apart))
    ∙ ap (λ ss. images_of ss (map first_cell (cells (joint_image (all_images packages)) (joint_classes (all_files
    packages))))) (mapped packages)))

-- and each is one that its cell can hold
pub statics_fit : (packages : List Package) → AreBegun packages → AreApart (all_files packages)
    → are_cells (all_fields (map statics_in packages)) (map first_cell (cells (joint_image (all_images packages))
    (joint_classes (all_files packages)))) ≡ true
statics_fit packages begun apart =
    ap (λ xs. are_cells (all_fields (map statics_in packages)) (map first_cell xs)) (cells_are packages begun apart)
    ∙ ap (λ ss. are_cells (all_fields ss) (map first_cell (all_cells 0 (map first_of packages)))) (sym (mapped
    packages))
    ∙ cells_fit 0 (map first_of packages) (begin_each 0 packages begun)

-- ---- arrays

module _ (class : List ℕ → Class) (slots : List ℕ → List (Slot MemberId) → List (Slot Field)) where
  -- an array of numbers is the same under whatever names
  same_arrays : (f : List ℕ → Class) (g : List ℕ → List (Slot MemberId) → List (Slot Field)) (arrays : List ArrayCell)
      → map (heap_object_as f g) (map first_array arrays) ≡ map (heap_object_as class slots) (map first_array arrays)
  same_arrays f g [] = refl
  same_arrays f g (a ∷ arrays) = ap (λ os. heap_object_as class slots (first_array a) ∷ os) (same_arrays f g arrays)

  arrays_of : (group : List Member) (outside : List ExportTree) (packages : List Package) → AreBegun packages
      → first_arrays (map (part_in group outside) (map member_of packages))
      ≡ map (heap_object_as class slots) (map first_array (flat_map (λ (i : StaticImage). i.arrays) (all_images
      packages)))
  arrays_of group outside [] begun = refl
  arrays_of group outside (p ∷ packages) begun =
      let b = begun 0 p refl in
      let image = p.image in
      let inits = map array_init image.arrays in
      let rest = arrays_of group outside packages (λ q x at. begun (suc q) x at) in
      let own = sym (append-nil (map card.first_array inits)) ∙ (arrays_begin p b.codes b.image ∙ same_arrays
      (class_at p) (slots_of (naming p)) image.arrays) in
      let later = flat_map (λ (i : StaticImage). i.arrays) (all_images packages) in
      ap (λ os. os ++ first_arrays (map (part_in group outside) (map member_of packages))) own
      ∙ (ap (λ os. map (heap_object_as class slots) (map first_array image.arrays) ++ os) rest
      ∙ (sym (map_append (heap_object_as class slots) (map first_array image.arrays) (map first_array later))
      ∙ ap (map (heap_object_as class slots)) (sym (map_append first_array image.arrays later))))

  abbrev memory_with : List (HeapObject Class Field) → List Image → Memory Class Field (List Image)
  memory_with heap statics = record { heap = heap; statics = statics }

  pub memory_alike : (packages : List Package) → AreBegun packages → AreApart (all_files packages)
      → first_on_card (group_loaded (group_of packages))
      ≡ memory_as class slots (images_of (map statics_in packages)) (first_memory (joint (all_files packages))
      (joint_image (all_images packages)))
  memory_alike packages begun apart =
      let l = group_loaded (group_of packages) in
      ap (λ h. memory_with h (first_images 0 l.parts)) (arrays_of (group_of packages) l.trees packages begun)
      ∙ ap (memory_with (map (heap_object_as class slots) (map first_array (flat_map (λ (i : StaticImage). i.arrays)
      (all_images packages))))) (statics_alike packages begun apart)

-- ---- reports

shows_each : (group : List Member) (outside : List ExportTree) (packages : List Package) → AreBegun packages
    → Shows (map (part_in group outside) (map member_of packages)) (map statics_in packages)
shows_each group outside [] begun = tt
shows_each group outside (p ∷ packages) begun =
    let b = begun 0 p refl in
    let q = part p in (
      λ x e. sym (append-nil (map (shown_cell 0 (image_of (order_of p.image) x ∷ [])) q.cells))
          ∙ cells_shown b.list p b.sound b.typed b.codes b.image b.once x e,
      shows_each group outside packages (λ r y at. begun (suc r) y at),
    )

pub have_statics : (packages : List Package) → AreBegun packages → AreApart (all_files packages)
    → HaveCells (map statics_in packages)
have_statics packages begun apart = subst HaveCells (mapped packages) (have_cells packages begun apart)

pub shown_alike : (packages : List Package) → AreBegun packages → AreApart (all_files packages) → (x : Cells)
    → are_cells (all_fields (map statics_in packages)) x ≡ true
    → (let l = group_loaded (group_of packages) in shown_cells 0 l.parts (images_of (map statics_in packages) x))
    ≡ map shown_slot x
shown_alike packages begun apart x e =
    let l = group_loaded (group_of packages) in
    shown_all (map statics_in packages) (have_statics packages begun apart) l.parts x (shows_each (group_of packages)
    l.trees packages begun) e
