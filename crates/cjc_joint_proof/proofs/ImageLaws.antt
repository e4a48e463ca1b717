-- The joint static image, field by field.
use Rattle.std.proofs.Common.{◌≡◌, ℕ, zero, suc, ◌+◌, arith, refl, sym, ap, ◌∙◌, Bool, true, false, List, []}
use Rattle.std.proofs.Common.{◌∷◌, ◌++◌, map, length, flat_map, append_assoc}
use Rattle.std.specs.Prelude.{Option, Some, None, option_map, slice_get, ◌&&◌, if◌then◌else◌}
use Rattle.std.specs.Str.{bytes_eq}
use Rattle.std.proofs.lemmas.Bool.{and_parts}
use Rattle.cjc_token_proof.proofs.BytesLists.{bytes_true, map_append}
use Rattle.cjc_card_semantics.specs.Bytes.declared.fault.MemberId.{MemberId}
use Rattle.cjc_card_semantics.specs.Script.Sorts.{Boolean, Byte, Int, NoValue, Reference, Short, Sort, field_sort}
use Rattle.cjc_card_semantics.specs.Script.Sorts.{zero_of}
use Rattle.cjc_card_semantics.specs.Script.declared.report.FieldValue.{FieldValue}
use Rattle.cjc_card_semantics.specs.Script.declared.value.Value.{Value}
use Rattle.cjc_card_semantics.specs.Script.declared.value.Value.TheVariants.{Num, Null, Obj}
use Rattle.cjc_card_semantics.specs.Machine.Loaded.{Part}
use Rattle.cjc_card_semantics.specs.Machine.Statics.{first_image, first_images}
use Rattle.cjc_exported.specs.ClassFile.declared.tree.ClassTree.{ClassTree}
use Rattle.cjc_exported.specs.ClassFile.declared.tree.FieldTree.{FieldTree}
use Rattle.cjc_exported.specs.World.Files.{Files}
use Rattle.cjc_exported.specs.World.declared.image.ArrayCell.{ArrayCell}
use Rattle.cjc_exported.specs.World.declared.image.StaticImage.{StaticImage}
use Rattle.cjc_exported.specs.World.declared.image.ValueCell.{ValueCell}
use Rattle.cjc_link_semantics.specs.JvmSemantics.Effects.{is_same_field}
use Rattle.cjc_link_semantics.specs.JvmSemantics.Group.{joint_classes, joint_image, package_of}
use Rattle.cjc_link_semantics.specs.JvmSemantics.OnePackage.{array_place, cell_of, cells, cells_in, is_cell}
use Rattle.cjc_link_semantics.specs.JvmSemantics.OnePackage.{number_place}
use Rattle.cjc_link_semantics.specs.JvmSemantics.OnePackage.{or_zero}
use Rattle.cjc_joint_proof.specs.Images.{IsFieldOf, TellOwnFields, arrays_before, cell_behind, inits_before}
use Rattle.cjc_joint_proof.specs.Images.{value_behind}
use Rattle.cjc_joint_proof.specs.Worlds.{AreApart}
use Rattle.cjc_joint_proof.proofs.PackageNames.{package_is}

-- ---- values

behind_none : (v : Value) → value_behind 0 v ≡ v
behind_none (Num z) = refl
behind_none Null = refl
behind_none (Obj k) = let z : 0 + k ≡ k = omega arith in ap Obj z

behind_both : (a b : ℕ) (v : Value) → value_behind a (value_behind b v) ≡ value_behind (a + b) v
behind_both a b (Num z) = refl
behind_both a b Null = refl
behind_both a b (Obj k) = let s : a + (b + k) ≡ a + b + k = omega arith in ap Obj s

-- ---- arrays

place_moves : (n k : ℕ) (xs : List ArrayCell) (f : MemberId)
    → array_place (n + k) xs f ≡ option_map (value_behind n) (array_place k xs f)
place_moves n k [] f = refl
place_moves n k (a ∷ xs) f =
    let s : n + k + 1 ≡ n + (k + 1) = omega arith in
    by (is_same_field a.field f) (ap (λ m. array_place m xs f) s ∙ place_moves n (k + 1) xs f)
  where
    by : (b : Bool) → array_place (n + k + 1) xs f ≡ option_map (value_behind n) (array_place (k + 1) xs f)
        → (if b then Some (Obj (n + k)) else array_place (n + k + 1) xs f)
        ≡ option_map (value_behind n) (if b then Some (Obj k) else array_place (k + 1) xs f)
    by true e = refl
    by false e = e

place_none : (k : ℕ) (xs : List ArrayCell) (f : MemberId)
    → ((l : ℕ) (a : ArrayCell) → slice_get xs l ≡ Some a → is_same_field a.field f ≡ false)
    → array_place k xs f ≡ None
place_none k [] f none = refl
place_none k (a ∷ xs) f none =
    ap (λ b. if b then Some (Obj k) else array_place (k + 1) xs f) (none 0 a refl)
    ∙ place_none (k + 1) xs f (λ l c at. none (suc l) c at)

place_front : (k : ℕ) (xs ys : List ArrayCell) (f : MemberId)
    → array_place (k + length xs) ys f ≡ None → array_place k (xs ++ ys) f ≡ array_place k xs f
place_front k [] ys f none = let z : k ≡ k + 0 = omega arith in ap (λ m. array_place m ys f) z ∙ none
place_front k (a ∷ xs) ys f none =
    let s : k + 1 + length xs ≡ k + length (a ∷ xs) = omega arith in
    ap (λ o. if is_same_field a.field f then Some (Obj k) else o) (place_front (k + 1) xs ys f (ap (λ m. array_place m
    ys f) s ∙ none))

place_back : (k : ℕ) (xs ys : List ArrayCell) (f : MemberId)
    → ((l : ℕ) (a : ArrayCell) → slice_get xs l ≡ Some a → is_same_field a.field f ≡ false)
    → array_place k (xs ++ ys) f ≡ array_place (k + length xs) ys f
place_back k [] ys f none = let z : k ≡ k + 0 = omega arith in ap (λ m. array_place m ys f) z
place_back k (a ∷ xs) ys f none =
    let s : k + 1 + length xs ≡ k + length (a ∷ xs) = omega arith in
    ap (λ b. if b then Some (Obj k) else array_place (k + 1) (xs ++ ys) f) (none 0 a refl)
    ∙ (place_back (k + 1) xs ys f (λ l c at. none (suc l) c at) ∙ ap (λ m. array_place m ys f) s)

abbrev all_arrays : List StaticImage → List ArrayCell
all_arrays images = flat_map (λ (i : StaticImage). i.arrays) images

-- no array of these packages is of the field
arrays_none : (k : ℕ) (images : List StaticImage) (f : MemberId)
    → ((q l : ℕ) (i : StaticImage) (a : ArrayCell) → slice_get images q ≡ Some i → slice_get i.arrays l ≡ Some a
    → is_same_field a.field f ≡ false) → array_place k (all_arrays images) f ≡ None
arrays_none k [] f none = refl
arrays_none k (i ∷ images) f none =
    place_back k i.arrays (all_arrays images) f (λ l a at. none 0 l i a refl at)
    ∙ arrays_none (k + length i.arrays) images f (λ q l j a is at. none (suc q) l j a is at)

arrays_at : (images : List StaticImage) (q k : ℕ) (image : StaticImage) (f : MemberId) → slice_get images q ≡ Some image
    → ((r l : ℕ) (i : StaticImage) (a : ArrayCell) → slice_get images r ≡ Some i → slice_get i.arrays l ≡ Some a
    → (r ≡ q → ⊥) → is_same_field a.field f ≡ false)
    → array_place k (all_arrays images) f ≡ option_map (value_behind (arrays_before images q)) (array_place k
    image.arrays f)
arrays_at [] q k image f is other = cc
arrays_at (i ∷ images) zero k image f is other =
    let same : i ≡ image = cc in
    place_front k i.arrays (all_arrays images) f (arrays_none (k + length i.arrays) images f (λ r l j a there at. other
    (suc r) l j a there at (λ e. let no : suc r ≡ 0 = e in omega (arith, no))))
    ∙ (ap (λ (j : StaticImage). array_place k j.arrays f) same ∙ keeps (array_place k image.arrays f))
  where
    keeps : (o : Option Value) → o ≡ option_map (value_behind 0) o
    keeps None = refl
    keeps (Some v) = ap Some (sym (behind_none v))
arrays_at (i ∷ images) (suc q) k image f is other =
    let n = length i.arrays in
    let s : n + k ≡ k + n = omega arith in
    place_back k i.arrays (all_arrays images) f (λ l a at. other 0 l i a refl at (λ e. let no : 0 ≡ suc q = e in omega
    (arith, no)))
    ∙ (ap (λ m. array_place m (all_arrays images) f) (sym s)
    ∙ (place_moves n k (all_arrays images) f
    ∙ (ap (option_map (value_behind n)) (arrays_at images q k image f is (λ r l j a there at apart. other (suc r) l j a
    there at (λ e. let more : suc r ≡ suc q = e in apart (omega (arith, more)))))
    ∙ twice (array_place k image.arrays f))))
  where
    twice : (o : Option Value) → option_map (value_behind (length i.arrays)) (option_map (value_behind (arrays_before
        images q)) o) ≡ option_map (value_behind (length i.arrays + arrays_before images q)) o
    twice None = refl
    twice (Some v) = ap Some (behind_both (length i.arrays) (arrays_before images q) v)

-- ---- numbers

abbrev all_others : List StaticImage → List ValueCell
all_others images = flat_map (λ (i : StaticImage). i.others) images

number_none : (xs ys : List ValueCell) (f : MemberId)
    → ((l : ℕ) (v : ValueCell) → slice_get xs l ≡ Some v → is_same_field v.field f ≡ false)
    → number_place (xs ++ ys) f ≡ number_place ys f
number_none [] ys f none = refl
number_none (v ∷ xs) ys f none =
    ap (λ b. if b then Some (Num v.value) else number_place (xs ++ ys) f) (none 0 v refl)
    ∙ number_none xs ys f (λ l c at. none (suc l) c at)

number_front : (xs ys : List ValueCell) (f : MemberId) → number_place ys f ≡ None
    → number_place (xs ++ ys) f ≡ number_place xs f
number_front [] ys f none = none
number_front (v ∷ xs) ys f none = ap (λ o. if is_same_field v.field f then Some (Num v.value) else o) (number_front xs
    ys f none)

others_none : (images : List StaticImage) (f : MemberId)
    → ((q l : ℕ) (i : StaticImage) (v : ValueCell) → slice_get images q ≡ Some i → slice_get i.others l ≡ Some v
    → is_same_field v.field f ≡ false) → number_place (all_others images) f ≡ None
others_none [] f none = refl
others_none (i ∷ images) f none =
    number_none i.others (all_others images) f (λ l v at. none 0 l i v refl at)
    ∙ others_none images f (λ q l j v is at. none (suc q) l j v is at)

others_at : (images : List StaticImage) (q : ℕ) (image : StaticImage) (f : MemberId) → slice_get images q ≡ Some image
    → ((r l : ℕ) (i : StaticImage) (v : ValueCell) → slice_get images r ≡ Some i → slice_get i.others l ≡ Some v
    → (r ≡ q → ⊥) → is_same_field v.field f ≡ false)
    → number_place (all_others images) f ≡ number_place image.others f
others_at [] q image f is other = cc
others_at (i ∷ images) zero image f is other =
    let same : i ≡ image = cc in
    number_front i.others (all_others images) f (others_none images f (λ r l j v there at. other (suc r) l j v there at
    (λ e. let no : suc r ≡ 0 = e in omega (arith, no))))
    ∙ ap (λ (j : StaticImage). number_place j.others f) same
others_at (i ∷ images) (suc q) image f is other =
    number_none i.others (all_others images) f (λ l v at. other 0 l i v refl at (λ e. let no : 0 ≡ suc q = e in omega
    (arith, no)))
    ∙ others_at images q image f is (λ r l j v there at apart. other (suc r) l j v there at (λ e. let more : suc r
    ≡ suc q = e in apart (omega (arith, more))))

-- ---- a field

number_stays : (n : ℕ) (xs : List ValueCell) (f : MemberId)
    → option_map (value_behind n) (number_place xs f) ≡ number_place xs f
number_stays n [] f = refl
number_stays n (v ∷ xs) f = by (is_same_field v.field f) (number_stays n xs f)
  where
    by : (b : Bool) → option_map (value_behind n) (number_place xs f) ≡ number_place xs f
        → option_map (value_behind n) (if b then Some (Num v.value) else number_place xs f)
        ≡ (if b then Some (Num v.value) else number_place xs f)
    by true e = refl
    by false e = e

zero_stays : (n : ℕ) (s : Sort) → value_behind n (zero_of s) ≡ zero_of s
zero_stays n Boolean = refl
zero_stays n Byte = refl
zero_stays n Short = refl
zero_stays n Int = refl
zero_stays n (Reference shape) = refl
zero_stays n NoValue = refl

value_moves : (n : ℕ) (f : MemberId) (a b : Option Value) → option_map (value_behind n) b ≡ b
    → or_zero f (option_map (value_behind n) a) b ≡ value_behind n (or_zero f a b)
value_moves n f (Some v) b e = refl
value_moves n f None None e = sym (zero_stays n (field_sort f.desc))
value_moves n f None (Some v) e = let same : value_behind n v ≡ v = cc in sym same

abbrev cell_with : MemberId → Value → FieldValue
cell_with f v = record { field = f; value = v }

module _ (group : List Files) (images : List StaticImage) (apart : AreApart group) (own : TellOwnFields group images)
  where
    -- a field of another package's class is not this one
    other_field : (q r : ℕ) (p : Files) (f g : MemberId) → slice_get group q ≡ Some p → package_of f.class
        ≡ p.package_name → IsFieldOf group r g → (r ≡ q → ⊥) → is_same_field g f ≡ false
    other_field q r p f g is home of unlike = by (is_same_field g f) refl
      where
        by : (b : Bool) → is_same_field g f ≡ b → b ≡ false
        by true e =
            let front = (and_parts (bytes_eq g.class f.class && bytes_eq g.name f.name) (bytes_eq g.desc f.desc) e).0 in
            let class = bytes_true g.class f.class (and_parts (bytes_eq g.class f.class)
            (bytes_eq g.name f.name) front).0
            in
            absurd (unlike (apart.names r q of.files p of.member is (sym of.home ∙ (ap package_of class ∙ home))))
        by false e = refl

    pub cell_moves : (q : ℕ) (p : Files) (image : StaticImage) (f : MemberId) → slice_get group q ≡ Some p
        → slice_get images q ≡ Some image → package_of f.class ≡ p.package_name
        → cell_of (joint_image images) f ≡ cell_behind (arrays_before images q) (cell_of image f)
    cell_moves q p image f is there home =
        let n = arrays_before images q in
        let arrays = arrays_at images q 0 image f there (λ r l i a at in_i unlike. other_field q r p f a.field is home
        (own.arrays r l i a at in_i) unlike) in
        let others = others_at images q image f there (λ r l i v at in_i unlike. other_field q r p f v.field is home
        (own.others r l i v at in_i) unlike) in
        ap (λ o. cell_with f (or_zero f o (number_place (all_others images) f))) arrays
        ∙ (ap (λ o. cell_with f (or_zero f (option_map (value_behind n) (array_place 0 image.arrays f)) o)) others
        ∙ ap (cell_with f) (value_moves n f (array_place 0 image.arrays f) (number_place image.others f) (number_stays n
        image.others f)))

    class_cells : (q : ℕ) (p : Files) (image : StaticImage) → slice_get group q ≡ Some p
        → slice_get images q ≡ Some image
        → (class : List ℕ) → package_of class ≡ p.package_name → (fields : List FieldTree)
        → cells_in (joint_image images) class fields ≡ map (cell_behind (arrays_before images q)) (cells_in image class
        fields)
    class_cells q p image is there class home [] = refl
    class_cells q p image is there class home (f ∷ fields) =
        by (is_cell f) (cell_moves q p image (record { class = class; name = f.name; desc = f.desc }) is there home)
        (class_cells q p image is there class home fields)
      where
        by : (b : Bool) → cell_of (joint_image images) (record { class = class; name = f.name; desc = f.desc })
            ≡ cell_behind (arrays_before images q) (cell_of image (record {
              class = class;
              name = f.name;
              desc = f.desc;
            }))
            → cells_in (joint_image images) class fields ≡ map (cell_behind (arrays_before images q)) (cells_in image
            class fields)
            → (if b then cell_of (joint_image images) (record { class = class; name = f.name; desc = f.desc })
            ∷ cells_in (joint_image images) class fields else cells_in (joint_image images) class fields)
            ≡ map (cell_behind (arrays_before images q)) (if b then cell_of image (record {
              class = class;
              name = f.name;
              desc = f.desc;
            }) ∷ cells_in image class fields else cells_in image class fields)
        by true e rest = ap (λ c. c ∷ cells_in (joint_image images) class fields) e
            ∙ ap (λ cs. cell_behind (arrays_before
            images q) (cell_of image (record { class = class; name = f.name; desc = f.desc })) ∷ cs) rest
        by false e rest = rest

    -- the cells of some classes of the package
    some_cells : (q : ℕ) (p : Files) (image : StaticImage) → slice_get group q ≡ Some p
        → slice_get images q ≡ Some image
        → (classes : List ClassTree) → ((k : ℕ) (c : ClassTree) → slice_get classes k ≡ Some c → package_of c.name
        ≡ p.package_name) → cells (joint_image images) classes ≡ map (cell_behind (arrays_before images q)) (cells image
        classes)
    some_cells q p image is there [] all = refl
    some_cells q p image is there (c ∷ classes) all =
        let n = arrays_before images q in
        ap (λ cs. cs ++ cells (joint_image images) classes) (class_cells q p image is there c.name (all 0 c refl)
        c.fields)
        ∙ (ap (λ cs. map (cell_behind n) (cells_in image c.name c.fields) ++ cs) (some_cells q p image is there classes
        (λ k d at. all (suc k) d at))
        ∙ sym (map_append (cell_behind n) (cells_in image c.name c.fields) (cells image classes)))

    pub cells_move : (q : ℕ) (p : Files) (image : StaticImage) → slice_get group q ≡ Some p
        → slice_get images q ≡ Some image
        → cells (joint_image images) p.classes ≡ map (cell_behind (arrays_before images q)) (cells image p.classes)
    cells_move q p image is there = some_cells q p image is there p.classes (λ k c at. package_is p.package_name c.name
        (apart.own q k p c (record { member = is; file = at })))

-- the cells of all packages, package by package
cells_append : (image : StaticImage) (xs ys : List ClassTree) → cells image (xs ++ ys)
    ≡ cells image xs ++ cells image ys
cells_append image [] ys = refl
cells_append image (c ∷ xs) ys =
    ap (λ cs. cells_in image c.name c.fields ++ cs) (cells_append image xs ys)
    ∙ sym (append_assoc (cells_in image c.name c.fields) (cells image xs) (cells image ys))

pub cells_split : (image : StaticImage) (group : List Files) → cells image (joint_classes group)
    ≡ flat_map (λ (p : Files). cells image p.classes) group
cells_split image [] = refl
cells_split image (p ∷ group) = cells_append image p.classes (joint_classes group)
    ∙ ap (λ cs. cells image p.classes ++ cs) (cells_split image group)

-- ---- on the card

pub images_at : (k : ℕ) (parts : List Part) (q : ℕ) (part : Part) → slice_get parts q ≡ Some part
    → slice_get (first_images k parts) q ≡ Some (first_image (k + inits_before parts q) part.statics)
images_at k [] q part is = cc
images_at k (x ∷ parts) zero part is =
    let same : x ≡ part = cc in
    let z : k ≡ k + 0 = omega arith in
    ap (λ n. Some (first_image n x.statics)) z ∙ ap (λ (y : Part). Some (first_image (k + 0) y.statics)) same
images_at k (x ∷ parts) (suc q) part is =
    let n = (let s = x.statics in length s.array_inits) in
    let s : k + n + inits_before parts q ≡ k + (n + inits_before parts q) = omega arith in
    images_at (k + n) parts q part is ∙ ap (λ m. Some (first_image m part.statics)) s
