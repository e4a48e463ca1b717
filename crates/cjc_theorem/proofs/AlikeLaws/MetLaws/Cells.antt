-- The cells of a converted package's static image: each has the bytes of its group, and each static field that is no
-- constant has one.
use Rattle.std.proofs.Common.{◌≡◌, ℕ, suc, ◌<◌, refl, sym, ap, ◌∙◌, arith, Bool, true, false, List, [], ◌∷◌, ◌++◌}
use Rattle.std.proofs.Common.{append_assoc, length, map, ℤ}
use Rattle.std.specs.Prelude.{◌||◌, All, Some, cond, filter, slice_get}
use Rattle.std.specs.List.{AllByRecursion, list_any}
use Rattle.cjc_token_proof.specs.CardSemantics.Bytecode.Effects as letters
use Rattle.cjc_bytes.specs.declared.fault.MemberId.{MemberId}
use Rattle.cjc_token_proof.proofs.ByToken.Members.{behind_all, front_all, member_same}
use Rattle.cjc_token_proof.specs.ByToken.Cells.{HasCells, fields, is_number, is_one_of, letter, letter_by}
use Rattle.cjc_token_proof.specs.CardSemantics.Machine.ByToken.{letter_of}
use Rattle.cjc_shape_proof.proofs.CheckProofLists.{has-flat, has-map}
use Rattle.cjc_world.specs.ClassFile.declared.tree.ClassTree.{ClassTree}
use Rattle.cjc_world.specs.ClassFile.declared.tree.FieldTree.{FieldTree}
use Rattle.cjc_token_proof.specs.Clinit.Fields.{is_cell}
use Rattle.cjc_token_proof.specs.Clinit.Image.{field_id}
use Rattle.cjc_shape_proof.specs.LowerCheckProof.Code.Members.{CellsFit}
use Rattle.cjc_components.specs.Statics.{cell_order, cell_size, size_of_field, value_by, value_bytes}
use Rattle.cjc_shape_proof.specs.LowerClasses.Descriptor.Fits.{AreFit, FitsValue, is_number_of}
use Rattle.cjc_ncode.specs.PoolOrder.{same_member}
use Rattle.cjc_token_proof.specs.Script.Sorts.{Sort, Boolean, Byte, Short, Int, Reference, NoValue, field_sort}
use Rattle.cjc_token_proof.specs.Tables.Known.{order_of, statics_in, statics_of}
use Rattle.cjc_vtable.proofs.Filed.{Has, at_front, behind, get-has}
use Rattle.cjc_world.specs.declared.image.ArrayCell.{ArrayCell}
use Rattle.cjc_world.specs.declared.image.StaticImage.{StaticImage}
use Rattle.cjc_world.specs.declared.image.ValueCell.{ValueCell}

-- ---- bytes of a type

reference_size : (s : Sort) → is_number (letter_by s) ≡ false → cell_size s ≡ 2
reference_size (Reference shape) e = refl
reference_size Boolean e = cc
reference_size Byte e = cc
reference_size Short e = cc
reference_size Int e = cc
reference_size NoValue e = cc

number_size : (s : Sort) (z : ℤ) → is_number_of s z ≡ true → length (value_by s z) ≡ cell_size s
number_size Boolean z e = refl
number_size Byte z e = refl
number_size Short z e = refl
number_size Int z e = refl
number_size (Reference shape) z e = cc
number_size NoValue z e = cc

some_size : (s : Sort) (l : letters.Letter) → letter_of s ≡ Some l → 0 < cell_size s
some_size Boolean l e = omega arith
some_size Byte l e = omega arith
some_size Short l e = omega arith
some_size Int l e = omega arith
some_size (Reference shape) l e = omega arith
some_size NoValue l e = cc

-- ---- lists

kept_has : {A : Type 0} (test : A → Bool) (xs : List A) (x : A) → Has x xs → test x ≡ true → Has x (filter test xs)
kept_has test [] x h e = elim h [ ]
kept_has test (y ∷ xs) _ at_front e = by (test y) e
  where
    by : (b : Bool) → b ≡ true → Has y (cond b (y ∷ filter test xs) (filter test xs))
    by true e = at_front
    by false e = cc
kept_has test (y ∷ xs) x (behind h) e = by (test y) (kept_has test xs x h e)
  where
    by : (b : Bool) → Has x (filter test xs) → Has x (cond b (y ∷ filter test xs) (filter test xs))
    by true h = behind h
    by false h = h

one_has : (f : MemberId) (fs : List MemberId) → Has f fs → is_one_of f fs ≡ true
one_has f [] h = elim h [ ]
one_has f (g ∷ fs) at_front = ap (λ b. b || is_one_of f fs) (member_same f)
one_has f (g ∷ fs) (behind h) = by (same_member g f) (one_has f fs h)
  where
    by : (b : Bool) → is_one_of f fs ≡ true → (b || is_one_of f fs) ≡ true
    by true e = refl
    by false e = e

pub each_of : {A : Type 0} (P : A → Type 0) (xs : List A) → ((x : A) → Has x xs → P x) → AllByRecursion P xs
each_of P [] all = tt
each_of P (x ∷ xs) all = (all x at_front, each_of P xs (λ y h. all y (behind h)))

all_has : {A : Type 0} (P : A → Type 0) (xs : List A) → All P xs → (x : A) → Has x xs → P x
all_has P [] all x h = elim h [ ]
all_has P (y ∷ xs) all _ at_front = all 0 y (omega arith)
all_has P (y ∷ xs) all x (behind h) = all_has P xs (λ k d lt. all (suc k) d (omega (arith, lt))) x h

-- ---- the image

module _ (image : StaticImage) (statics : List MemberId) (told : HasCells (order_of image) statics) where
  arrays : List MemberId
  arrays = map (λ (a : ArrayCell). a.field) image.arrays

  others : List MemberId
  others = map (λ (v : ValueCell). v.field) image.others

  ordered : cell_order image ≡ fields (order_of image)
  ordered = sym (append_assoc (map (λ (a : ArrayCell). a.field) image.arrays) image.nulls (image.zeros
      ++ map (λ (v : ValueCell). v.field) image.others))

  pub cells_fit : AreFit image → CellsFit image
  cells_fit fit = record {
    arrays = each_of (λ (a : ArrayCell). size_of_field a.field ≡ 2) image.arrays (λ a h. reference_size
        (field_sort (let f = a.field in f.desc))
        (told.order.references a.field (front_all (map (λ (x : ArrayCell). x.field) image.arrays) image.nulls a.field
        (one_has a.field (map (λ (x : ArrayCell). x.field) image.arrays) (has-map (λ (x : ArrayCell). x.field) a
        image.arrays h)))));
    nulls = each_of (λ (f : MemberId). size_of_field f ≡ 2) image.nulls (λ f h. reference_size (field_sort f.desc)
        (told.order.references f (behind_all (map (λ (x : ArrayCell). x.field) image.arrays) image.nulls f
        (one_has f image.nulls h))));
    others = each_of (λ (v : ValueCell). length (value_bytes v) ≡ size_of_field v.field) image.others
        (λ v h. number_size (field_sort (let f = v.field in f.desc)) v.value (all_has FitsValue image.others fit.values
        v h));
    some = each_of (λ (f : MemberId). 0 < size_of_field f) (cell_order image) (λ f h.
        some_size (field_sort f.desc) (letter f) (told.typed f (told.no_other f (ap (is_one_of f) (sym ordered)
        ∙ one_has f (cell_order image) h))));
  }

  pub has_cell : (f : MemberId) → is_one_of f statics ≡ true → list_any (λ (g : MemberId). same_member g f)
      (cell_order image) ≡ true
  has_cell f e = ap (list_any (λ (g : MemberId). same_member g f)) ordered ∙ told.each f e

-- a static field that is no constant is one of those with cells
pub is_static_of : (classes : List ClassTree) (n : ℕ) (t : ClassTree) (k : ℕ) (x : FieldTree)
    → slice_get classes n ≡ Some t → slice_get t.fields k ≡ Some x → is_cell x ≡ true
    → is_one_of (field_id t.name x) (statics_of classes) ≡ true
is_static_of classes n t k x e g cell =
    one_has (field_id t.name x) (statics_of classes)
    (has-flat statics_in t (field_id t.name x) classes (get-has t classes n e) (has-map (field_id t.name) x
    (filter is_cell t.fields) (kept_has is_cell t.fields x (get-has x t.fields k g) cell)))
