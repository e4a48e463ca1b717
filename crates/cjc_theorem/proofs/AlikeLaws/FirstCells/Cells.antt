-- What static cells hold at first by a static image whose numbers are of the types of their fields.
use Rattle.std.proofs.Common.{◌≡◌, ℕ, suc, ◌+◌, refl, sym, ap, subst, ◌∙◌, arith, Bool, true, false, List, [], ◌∷◌}
use Rattle.std.proofs.Common.{◌++◌, map, ℤ, pos, negsuc}
use Rattle.std.specs.Prelude.{All, ◌&&◌, ◌||◌, cond, filter, Option, Some, None, if◌then◌else◌}
use Rattle.std.specs.List.{AllByRecursion}
use Rattle.std.specs.Int.RustNames.{int_le}
use Rattle.std.proofs.lemmas.Int.{ints}
use Rattle.std.proofs.lemmas.List.{map-append}
use Rattle.std.proofs.lemmas.List.Concat.{flat_map-cons}
use Rattle.cjc_token_proof.specs.CardSemantics.Bytecode.Effects as letters
use Rattle.cjc_token_proof.specs.CardSemantics.Bytecode.Effects.{Letter}
use Rattle.cjc_bytes.specs.declared.fault.MemberId.{MemberId}
use Rattle.cjc_bytes.proofs.Bools.{both_front, both_back}
use Rattle.cjc_bytes.proofs.Integers.{le_true as true_le, above_if}
use Rattle.cjc_jvm_semantics.specs.Effects.{is_same_field}
use Rattle.cjc_jvm_semantics.specs.OnePackage.{array_place, cell_of, cells, cells_in, number_place, or_zero}
use Rattle.cjc_token_proof.proofs.ByToken.Members.{member_same}
use Rattle.cjc_token_proof.specs.ByToken.Cells.{HasCells, are_cells, fits, is_number, is_one_of, letter, letter_by}
use Rattle.cjc_token_proof.specs.ByToken.Cells.{lies_in}
use Rattle.cjc_world.specs.ClassFile.declared.tree.ClassTree.{ClassTree}
use Rattle.cjc_world.specs.ClassFile.declared.tree.FieldTree.{FieldTree}
use Rattle.cjc_token_proof.specs.Clinit.Fields.{is_cell}
use Rattle.cjc_token_proof.specs.Clinit.Image.{field_id}
use Rattle.cjc_token_proof.proofs.WorldProofInitialisers.{same-field}
use Rattle.cjc_shape_proof.specs.LowerClasses.Descriptor.Fits.{AreFit, FitsValue, is_number_of}
use Rattle.cjc_ncode.specs.Lowering.Agreement.{Cells}
use Rattle.cjc_token_proof.specs.Narrow.Rows.Package.{first_cell}
use Rattle.cjc_ncode.specs.PoolOrder.{same_member}
use Rattle.cjc_token_proof.specs.Script.Sorts.{Sort, Boolean, Byte, Short, Int, Reference, NoValue, field_sort}
use Rattle.cjc_token_proof.specs.Script.Sorts.{zero_of}
use Rattle.cjc_token_proof.specs.Script.declared.value.Value.{Value}
use Rattle.cjc_token_proof.specs.Script.declared.value.Value.TheVariants.{Num, Obj}
use Rattle.cjc_token_proof.proofs.TablesLaws.Puts.{one_back, one_front}
use Rattle.cjc_token_proof.specs.Tables.Known.{order_of, statics_in, statics_of}
use Rattle.cjc_world.specs.declared.image.ArrayCell.{ArrayCell}
use Rattle.cjc_world.specs.declared.image.StaticImage.{StaticImage}
use Rattle.cjc_world.specs.declared.image.ValueCell.{ValueCell}

-- ---- values of a type

-- 0 and 1 are numbers of a byte
boolean_fits : (z : ℤ) → lies_in (pos 0) (pos 1) z ≡ true → lies_in (negsuc 127) (pos 127) z ≡ true
boolean_fits z e =
    let low = above_if (pos 0) z (both_front (int_le (pos 0) z) (int_le z (pos 1)) e) in
    let high = above_if z (pos 1) (both_back (int_le (pos 0) z) (int_le z (pos 1)) e) in
    ap (λ b. b && int_le z (pos 127)) (true_le (negsuc 127) z (omega (arith, ints, low)))
    ∙ true_le z (pos 127) (omega (arith, ints, high))

-- a number of a type is one of its letter
number_fits : (s : Sort) (z : ℤ) → is_number_of s z ≡ true → fits (letter_by s) (Num z) ≡ true
number_fits Boolean z e = boolean_fits z e
number_fits Byte z e = e
number_fits Short z e = e
number_fits Int z e = e
number_fits (Reference shape) z e = cc
number_fits NoValue z e = cc

zero_fits : (s : Sort) → fits (letter_by s) (zero_of s) ≡ true
zero_fits Boolean = refl
zero_fits Byte = refl
zero_fits Short = refl
zero_fits Int = refl
zero_fits (Reference shape) = refl
zero_fits NoValue = refl

object_fits : (k : Letter) (n : ℕ) → is_number k ≡ false → fits k (Obj n) ≡ true
object_fits letters.Reference n e = refl
object_fits letters.Byte n e = cc
object_fits letters.Short n e = cc
object_fits letters.Int n e = cc

-- ---- values of an image

-- an array of the field's own
IsArrayOf : List ArrayCell → MemberId → Value → Type 0
IsArrayOf arrays f v = (n : ℕ) × (v ≡ Obj n) × (is_one_of f (map (λ (a : ArrayCell). a.field) arrays) ≡ true)

array_is : (k : ℕ) (arrays : List ArrayCell) (f : MemberId) (v : Value) → array_place k arrays f ≡ Some v
    → IsArrayOf arrays f v
unfolding IsArrayOf
array_is k [] f v e = cc
array_is k (a ∷ arrays) f v e = by (is_same_field a.field f) refl e (array_is (k + 1) arrays f v)
  where
    by : (b : Bool) → is_same_field a.field f ≡ b → (if b then Some (Obj k) else array_place (k + 1) arrays f) ≡ Some v
        → (array_place (k + 1) arrays f ≡ Some v → IsArrayOf arrays f v) → IsArrayOf (a ∷ arrays) f v
    by true same e rest =
        let is : Obj k ≡ v = cc in
        let here : is_one_of f (f ∷ []) ≡ true = ap (λ b. b || false) (member_same f) in (
          k,
          sym is,
          subst (λ g. is_one_of f (g ∷ map (λ (x : ArrayCell). x.field) arrays) ≡ true)
              (sym (same-field a.field f same)) (one_front f (f ∷ []) (map (λ (x : ArrayCell). x.field) arrays) here),
        )
    by false same e rest = let r = rest e
        in (r.0, r.1, one_back f (a.field ∷ []) (map (λ (x : ArrayCell). x.field) arrays) r.2)

each_of : {A : Type 0} (P : A → Type 0) (xs : List A) → All P xs → AllByRecursion P xs
each_of P [] all = tt
each_of P (x ∷ xs) all = (all 0 x (omega (arith)), each_of P xs (λ k d lt. all (suc k) d (omega (arith, lt))))

number_is : (values : List ValueCell) (f : MemberId) (v : Value) → AllByRecursion FitsValue values
    → number_place values f ≡ Some v → fits (letter f) v ≡ true
number_is [] f v all e = cc
number_is (n ∷ values) f v all e = by (is_same_field n.field f) refl e (number_is values f v all.1)
  where
    by : (b : Bool) → is_same_field n.field f ≡ b → (if b then Some (Num n.value) else number_place values f) ≡ Some v
        → (number_place values f ≡ Some v → fits (letter f) v ≡ true) → fits (letter f) v ≡ true
    by true same e rest =
        let is : Num n.value ≡ v = cc in
        let own : is_number_of (field_sort f.desc) n.value ≡ true =
        subst (λ (g : MemberId). is_number_of (field_sort g.desc) n.value ≡ true) (same-field n.field f same) all.0
        in
        subst (λ x. fits (letter f) x ≡ true) is (number_fits (field_sort f.desc) n.value own)
    by false same e rest = rest e

both_hold : (a b c : Bool) → a ≡ true → b ≡ true → c ≡ true → (a && (b && c)) ≡ true
both_hold true true true e f g = refl
both_hold true true false e f g = cc
both_hold true false c e f g = cc
both_hold false b c e f g = cc

cells_append : (fs gs : List MemberId) (xs ys : Cells) → are_cells fs xs ≡ true → are_cells gs ys ≡ true
    → are_cells (fs ++ gs) (xs ++ ys) ≡ true
cells_append [] gs [] ys e f = f
cells_append [] gs (x ∷ xs) ys e f = cc
cells_append (g ∷ fs) gs [] ys e f = cc
cells_append (g ∷ fs) gs (x ∷ xs) ys e f = by (same_member x.key g) (fits (letter g) x.value) e (λ h. cells_append fs gs
    xs ys h f)
  where
    by : (a b : Bool) → (a && (b && are_cells fs xs)) ≡ true → (are_cells fs xs ≡ true → are_cells (fs ++ gs) (xs ++ ys)
        ≡ true) → (a && (b && are_cells (fs ++ gs) (xs ++ ys))) ≡ true
    by true true h rest = rest h
    by true false h rest = cc
    by false b h rest = cc

-- ---- the cells of a package

module _ (image : StaticImage) (values : All FitsValue image.others)
    (arrays : (f : MemberId) → is_one_of f (map (λ (a : ArrayCell). a.field) image.arrays) ≡ true → is_number (letter f)
    ≡ false) where
  value_fits : (f : MemberId) → fits (letter f) (or_zero f (array_place 0 image.arrays f) (number_place image.others f))
      ≡ true
  unfolding IsArrayOf
  value_fits f = by (array_place 0 image.arrays f) (number_place image.others f) refl refl
    where
      by : (a n : Option Value) → array_place 0 image.arrays f ≡ a → number_place image.others f ≡ n
          → fits (letter f) (or_zero f a n) ≡ true
      by (Some v) n e g = let r = array_is 0 image.arrays f v e in subst (λ x. fits (letter f) x ≡ true) (sym r.1)
          (object_fits (letter f) r.0 (arrays f r.2))
      by None (Some v) e g = number_is image.others f v (each_of FitsValue image.others values) g
      by None None e g = zero_fits (field_sort f.desc)

  class_cells : (class : List ℕ) (fs : List FieldTree) → are_cells (map (field_id class) (filter is_cell fs))
      (map first_cell (cells_in image class fs)) ≡ true
  class_cells class [] = refl
  class_cells class (f ∷ fs) = by (is_cell f) (class_cells class fs)
    where
      by : (b : Bool) → are_cells (map (field_id class) (filter is_cell fs)) (map first_cell (cells_in image class fs))
          ≡ true
          → are_cells (map (field_id class) (cond b (f ∷ filter is_cell fs) (filter is_cell fs))) (map first_cell (if b
          then cell_of image (field_id class f) ∷ cells_in image class fs else cells_in image class fs)) ≡ true
      by true rest =
          let id = field_id class f in
          both_hold (same_member id id) (fits (letter id) (or_zero id (array_place 0 image.arrays id)
          (number_place image.others id))) (are_cells (map (field_id class) (filter is_cell fs))
          (map first_cell (cells_in image class fs)))
          (member_same id) (value_fits id) rest
      by false rest = rest

  all_cells : (cs : List ClassTree) → are_cells (statics_of cs) (map first_cell (cells image cs)) ≡ true
  all_cells [] = refl
  all_cells (c ∷ cs) =
      let own = map first_cell (cells_in image c.name c.fields) in
      let named : statics_of (c ∷ cs) ≡ statics_in c ++ statics_of cs = flat_map-cons statics_in c cs in
      let held : map first_cell (cells image (c ∷ cs)) ≡ own ++ map first_cell (cells image cs) =
      ap (map first_cell) (flat_map-cons (λ (d : ClassTree). cells_in image d.name d.fields) c cs)
      ∙ map-append first_cell (cells_in image c.name c.fields) (cells image cs) in
      ap (λ fs. are_cells fs (map first_cell (cells image (c ∷ cs)))) named
      ∙ ap (are_cells (statics_in c ++ statics_of cs)) held
      ∙ cells_append (statics_in c) (statics_of cs) own (map first_cell (cells image cs)) (class_cells c.name c.fields)
      (all_cells cs)

pub first_cells : (image : StaticImage) (cs : List ClassTree) → AreFit image → HasCells (order_of image) (statics_of cs)
    → are_cells (statics_of cs) (map first_cell (cells image cs)) ≡ true
first_cells image cs fit told = all_cells image fit.values (λ f e. told.order.references f
    (one_front f (map (λ (a : ArrayCell). a.field) image.arrays) image.nulls e)) cs
