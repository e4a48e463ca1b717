-- The memory of a static image is of sound types.
use Rattle.std.proofs.Common.{◌≡◌, ℕ, suc, ◌+◌, refl, sym, ap, subst, ◌∙◌, arith, Bool, true, false, List, []}
use Rattle.std.proofs.Common.{◌∷◌, ◌++◌}
use Rattle.std.specs.Prelude.{◌&&◌, Option, Some, None, option_map, map, slice_get, if◌then◌else◌}
use Rattle.std.specs.List.{AllByRecursion}
use Rattle.std.specs.Str.{bytes_eq}
use Rattle.std.proofs.lemmas.Option.{slice_get-map}
use Rattle.cjc_bytes.specs.declared.fault.MemberId.{MemberId}
use Rattle.cjc_bytes.proofs.Lists.{bytes_true, map_append}
use Rattle.cjc_bytes.proofs.Bools.{both_back}
use Rattle.cjc_token_proof.specs.CardSemantics.Bytecode.Effects.{Slot}
use Rattle.cjc_jvm_semantics.specs.OnePackage.{array_place, cell_of, cells, cells_in, is_cell, number_place, or_zero}
use Rattle.cjc_jvm_semantics.specs.Effects.{is_same_field}
use Rattle.cjc_world.specs.ClassFile.declared.tree.ClassTree.{ClassTree}
use Rattle.cjc_world.specs.ClassFile.declared.tree.FieldTree.{FieldTree}
use Rattle.cjc_token_proof.specs.Clinit.Fields.{has_unfit_value}
use Rattle.cjc_token_proof.specs.Clinit.Image.{IsImage, of_classes}
use Rattle.cjc_components.specs.Bytecode.declared.method_code.MethodCode.{MethodCode}
use Rattle.cjc_token_proof.specs.Narrow.Rows.Package.{element_of_kind, first_array, first_cell, named}
use Rattle.cjc_narrow_proof.specs.Runs.Converted.{IsFirst, IsFirstArray}
use Rattle.cjc_jvm_semantics.specs.Linked.{Method}
use Rattle.cjc_ncode.specs.ByLabel.{Named}
use Rattle.cjc_ncode.specs.declared.narrow.NMethod.{NMethod}
use Rattle.cjc_token_proof.specs.Script.declared.value.Value.{Value}
use Rattle.cjc_token_proof.specs.Script.declared.value.Value.TheVariants.{Num, Obj}
use Rattle.cjc_token_proof.specs.Script.Sorts.{OfNumbers, Reference, field_sort, shape_name}
use Rattle.cjc_narrow_proof.specs.Selection.Relation.{CellFits, Heap, SlotsFit, an_object, no_slots, slot}
use Rattle.cjc_narrow_proof.specs.Selection.Objects.{has_values}
use Rattle.cjc_theorem.proofs.WholeRuns.First.{IsArray, initialised_arrays}
use Rattle.cjc_theorem.proofs.WholeRuns.First.{number_fits, zero_cell}
use Rattle.cjc_theorem.proofs.WholeRuns.Puts.{NumberFits, classes_fit, puts_fit}
use Rattle.cjc_world.specs.declared.image.ArrayCell.{ArrayCell}
use Rattle.cjc_world.specs.declared.image.StaticImage.{StaticImage}
use Rattle.cjc_world.specs.declared.image.ValueCell.{ValueCell}
use Rattle.cjc_world.specs.Classes.{all_classes}
use Rattle.cjc_world.specs.Files.{Files}
use Rattle.cjc_world.proofs.Subtypes.{reflexive}

same_desc : (a b : MemberId) → is_same_field a b ≡ true → a.desc ≡ b.desc
same_desc a b e = bytes_true a.desc b.desc (both_back (bytes_eq a.class b.class && bytes_eq a.name b.name)
    (bytes_eq a.desc b.desc) e)

-- ---- what a field holds

-- An array at this place from k on, of the field's type.
record IsHeld (k : ℕ) (arrays : List ArrayCell) (id : MemberId) (v : Value) : Type 0 where
  place : ℕ
  cell : ArrayCell
  there : slice_get arrays place ≡ Some cell
  is : v ≡ Obj (k + place)
  array : IsArray cell
  desc : (let f = cell.field in f.desc) ≡ id.desc

array_held : (k : ℕ) (arrays : List ArrayCell) (id : MemberId) (v : Value) → AllByRecursion IsArray arrays
    → array_place k arrays id ≡ Some v → IsHeld k arrays id v
array_held k [] id v all e = absurd cc
array_held k (a ∷ arrays) id v all e = by (is_same_field a.field id) refl e (array_held (k + 1) arrays id v all.1)
  where
    by : (b : Bool) → is_same_field a.field id ≡ b → (if b then Some (Obj k) else array_place (k + 1) arrays id)
        ≡ Some v → (array_place (k + 1) arrays id ≡ Some v → IsHeld (k + 1) arrays id v) → IsHeld k (a ∷ arrays) id v
    by true f e rest =
        let at : k ≡ k + 0 = omega arith in
        let same : Obj k ≡ v = cc in
        record {
          place = 0;
          cell = a;
          there = refl;
          is = sym same ∙ ap Obj at;
          array = all.0;
          desc = same_desc a.field id f;
        }
    by false f e rest =
        let r = rest e in
        let j = r.place in
        let at : k + 1 + j ≡ k + suc j = omega arith in
        record { place = suc j; cell = r.cell; there = r.there; is = r.is ∙ ap Obj at; array = r.array; desc = r.desc }

module _ (l : Named) (heap : Heap) where
  number_held : (values : List ValueCell) (id : MemberId) (v : Value) → AllByRecursion NumberFits values
      → number_place values id ≡ Some v → CellFits l heap (field_sort id.desc) v
  number_held [] id v all e = absurd cc
  number_held (n ∷ values) id v all e = by (is_same_field n.field id) refl e (number_held values id v all.1)
    where
      by : (b : Bool) → is_same_field n.field id ≡ b → (if b then Some (Num n.value) else number_place values id)
          ≡ Some v → (number_place values id ≡ Some v → CellFits l heap (field_sort id.desc) v)
          → CellFits l heap (field_sort id.desc) v
      by true f e rest =
          let same : Num n.value ≡ v = cc in
          subst (CellFits l heap (field_sort id.desc)) same (subst (λ d. CellFits l heap (field_sort d) (Num n.value))
          (same_desc n.field id f) (number_fits l heap (let x = n.field in x.desc) n.value all.0))
      by false f e rest = rest e

  slots_append : (xs ys : List (Slot MemberId)) → SlotsFit l heap xs → SlotsFit l heap ys → SlotsFit l heap (xs ++ ys)
  slots_append [] ys p q = q
  slots_append (x ∷ xs) ys (slot h p) q = slot h (slots_append xs ys p q)

append_none : {A : Type 0} (xs ys : List A) → ys ≡ [] → xs ++ ys ≡ xs
append_none [] ys e = e
append_none (x ∷ xs) ys e = ap (λ zs. x ∷ zs) (append_none xs ys e)

-- ---- of a package

module _ (files : Files) (codes : List MethodCode) (image : StaticImage) (is : IsImage files codes image)
    (words : (n k : ℕ) (c : ClassTree) (f : FieldTree) → slice_get files.classes n ≡ Some c → slice_get c.fields k
    ≡ Some f → has_values (field_sort f.desc) ≡ true)
    (values : (n k : ℕ) (c : ClassTree) (f : FieldTree) → slice_get files.classes n ≡ Some c → slice_get c.fields k
    ≡ Some f → has_unfit_value f ≡ false)
    (code : Method → NMethod) where
  abbrev l : Named
  l = named files image code

  abbrev heap : Heap
  heap = map first_array image.arrays

  told : AllByRecursion NumberFits (of_classes is.fields 0 files.classes).others
      × ((of_classes is.fields 0 files.classes).arrays ≡ [])
  told = classes_fit is.fields 0 files.classes (λ n c e. (
    (λ k f g. values n k c f e g),
    (λ held h. puts_fit files image codes is.arrays is.fields is.initialises n c held e (let at : n
        ≡ 0 + n = omega arith in ap (slice_get is.fields) at ∙ h)),
  ))

  arrays_fit : AllByRecursion IsArray image.arrays
  arrays_fit = subst (AllByRecursion IsArray) (sym (ap (λ (i : StaticImage). i.arrays) is.is
      ∙ append_none is.arrays (of_classes is.fields 0 files.classes).arrays told.1)) (initialised_arrays files
      is.initialises)

  numbers_fit : AllByRecursion NumberFits image.others
  numbers_fit = subst (AllByRecursion NumberFits) (sym (ap (λ (i : StaticImage). i.others) is.is)) told.0

  first_arrays : (arrays : List ArrayCell) → AllByRecursion IsArray arrays → AllByRecursion IsFirstArray arrays
  first_arrays [] h = tt
  first_arrays (a ∷ arrays) h =
      let one = h.0 in
      let items = one.items in
      let numbers = items.numbers in
      (record { named = numbers.named; few = items.few; held = items.all }, first_arrays arrays h.1)

  -- an array is of its own type
  array_cell : (id : MemberId) (v : Value) → IsHeld 0 image.arrays id v → CellFits l heap (field_sort id.desc) v
  unfolding named
  array_cell id v h =
      let a = h.cell in
      let array = h.array in
      let items = array.items in
      let numbers = items.numbers in
      let el = element_of_kind a.kind in
      let sort : field_sort id.desc ≡ Reference (OfNumbers el) = ap field_sort (sym h.desc ∙ array.desc) ∙ numbers.sort
      in
      let there : slice_get heap h.place ≡ Some (first_array a) = slice_get-map first_array image.arrays h.place
      ∙ ap (option_map first_array) h.there in
      let at : 0 + h.place ≡ h.place = omega arith in
      subst (CellFits l heap (field_sort id.desc)) (sym (h.is ∙ ap Obj at))
      (subst (λ s. CellFits l heap s (Obj h.place)) (sym sort)
      (an_object (first_array a) there (reflexive (all_classes files) (shape_name (OfNumbers el)))))

  cell_fits : (id : MemberId) → has_values (field_sort id.desc) ≡ true
      → CellFits l heap (field_sort id.desc) (or_zero id (array_place 0 image.arrays id) (number_place image.others id))
  cell_fits id word = by (array_place 0 image.arrays id) (number_place image.others id) refl refl
    where
      by : (a n : Option Value) → array_place 0 image.arrays id ≡ a → number_place image.others id ≡ n
          → CellFits l heap (field_sort id.desc) (or_zero id a n)
      by (Some v) n e f = array_cell id v (array_held 0 image.arrays id v arrays_fit e)
      by None (Some v) e f = number_held l heap image.others id v numbers_fit f
      by None None e f = zero_cell l heap (field_sort id.desc) word

  class_fits : (class : List ℕ) (fs : List FieldTree) → ((k : ℕ) (f : FieldTree) → slice_get fs k ≡ Some f
      → has_values (field_sort f.desc) ≡ true) → SlotsFit l heap (map first_cell (cells_in image class fs))
  class_fits class [] h = no_slots
  class_fits class (f ∷ fs) h = by (is_cell f) (class_fits class fs (λ k g e. h (suc k) g e))
    where
      by : (b : Bool) → SlotsFit l heap (map first_cell (cells_in image class fs))
          → SlotsFit l heap (map first_cell (if b then cell_of image (record {
            class = class;
            name = f.name;
            desc = f.desc;
          }) ∷ cells_in image class fs else cells_in image class fs))
      by true rest = slot (cell_fits (record { class = class; name = f.name; desc = f.desc }) (h 0 f refl)) rest
      by false rest = rest

  all_fit : (cs : List ClassTree) → ((n k : ℕ) (c : ClassTree) (f : FieldTree) → slice_get cs n ≡ Some c
      → slice_get c.fields k ≡ Some f → has_values (field_sort f.desc) ≡ true)
      → SlotsFit l heap (map first_cell (cells image cs))
  all_fit [] h = no_slots
  all_fit (c ∷ cs) h =
      subst (SlotsFit l heap) (sym (map_append first_cell (cells_in image c.name c.fields) (cells image cs)))
      (slots_append l heap (map first_cell (cells_in image c.name c.fields)) (map first_cell (cells image cs))
      (class_fits c.name c.fields (λ k f e. h 0 k c f refl e)) (all_fit cs (λ n k d f e g. h (suc n) k d f e g)))

  pub first_is : IsFirst l files image
  first_is = record { arrays = first_arrays image.arrays arrays_fit; cells = all_fit files.classes words }
