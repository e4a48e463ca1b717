-- What the static image holds before the first entry is what the static cells hold by name.
use Rattle.std.proofs.Common.{◌≡◌, ℕ, zero, suc, ◌+◌, ◌-◌, refl, sym, ap, ◌∙◌, arith, Bool, true, false, List, [], ◌∷◌}
use Rattle.std.proofs.Common.{◌++◌, length, append_assoc, ℤ, pos}
use Rattle.std.specs.Prelude.{not, ◌&&◌, ◌||◌, cond, filter, map, replicate, sum_by, Some, None, is_some, if◌then◌else◌}
use Rattle.std.specs.List.{flat_map}
use Rattle.std.proofs.lemmas.List.{length-map, map-append}
use Rattle.std.proofs.lemmas.List.Concat.{flat_map-cons}
use Rattle.std.proofs.lemmas.List.Sums.{sum_by-cons}
use Rattle.cjc_bytes.specs.declared.fault.MemberId.{MemberId}
use Rattle.cjc_world.specs.ClassFile.declared.tree.ClassTree.{ClassTree}
use Rattle.cjc_world.specs.ClassFile.declared.tree.FieldTree.{FieldTree}
use Rattle.cjc_card_semantics.specs.Machine.ByToken.{letter_of}
use Rattle.cjc_card_semantics.specs.Machine.Statics.{Image, first_images, first_memory as first_on_card, number_bytes}
use Rattle.cjc_card_semantics.specs.Machine.Statics.{objects_from}
use Rattle.cjc_world_proof.specs.Bytecode.declared.method_code.MethodCode.{MethodCode}
use Rattle.cjc_script.specs.declared.value.Value.{Value}
use Rattle.cjc_script.specs.declared.value.Value.TheVariants.{Num, Null, Obj}
use Rattle.cjc_script.specs.Sorts.{Sort, Boolean, Byte, Short, Int, Reference, NoValue, field_sort, zero_of}
use Rattle.cjc_world.specs.declared.image.ArrayCell.{ArrayCell}
use Rattle.cjc_world.specs.declared.image.StaticImage.{StaticImage}
use Rattle.cjc_world.specs.declared.image.ValueCell.{ValueCell}
use Rattle.cjc_jvm_semantics.specs.Effects.{is_same_field}
use Rattle.cjc_jvm_semantics.specs.OnePackage.{array_place, cell_of, cells, cells_in, number_place, or_zero}
use Rattle.cjc_world_proof.specs.LowerClinit.Fields.{is_cell}
use Rattle.cjc_world_proof.specs.LowerClinit.Image.{IsImage, field_id}
use Rattle.cjc_world_proof.specs.Initialisers.Values.{StandOnce}
use Rattle.cjc_world_proof.proofs.InitialisersLaws.Initialisers.{same-field}
use Rattle.cjc_world_proof.proofs.InitialisersLaws.Packages.{same-refl}
use Rattle.cjc_card_semantics.specs.Bytecode.Effects.{HeapObject, Memory, slot_of}
use Rattle.cjc_card_semantics.specs.Bytecode.Renaming.{heap_object_as, memory_as}
use Rattle.cjc_card_semantics.specs.Machine.Classes.{Class, Field}
use Rattle.cjc_ncode.specs.PoolOrder.{same_member}
use Rattle.cjc_components.specs.LowerNarrow.Rows.Package.{first_cell, first_memory}
use Rattle.cjc_ncode.specs.Lowering.Agreement.{Cells}
use Rattle.cjc_token_proof.specs.ByToken.Cells.{HasCells, are_apart, bytes_of, image_of, is_number, is_one_of, letter}
use Rattle.cjc_token_proof.specs.ByToken.Cells.{letter_by, value_in, value_of}
use Rattle.cjc_token_proof.specs.ByToken.Objects.{slots_of}
use Rattle.cjc_token_proof.proofs.ByToken.Members.{member_tells, front_one, behind_one}
use Rattle.cjc_components.specs.Names.{class_at}
use Rattle.cjc_components.specs.Package.{Package}
use Rattle.cjc_components.specs.Statics.{array_init, cell_size, size_of_field, value_by, value_bytes}
use Rattle.cjc_token_proof.specs.Tables.Known.{order_of, statics_in, statics_of}
use Rattle.cjc_token_proof.specs.Tables.Loading.{loaded, naming}
use Rattle.cjc_token_proof.specs.Tables.Sound.{AreTyped, IsSound}
use Rattle.cjc_token_proof.proofs.TablesLaws.Arrays.{arrays_begin}
use Rattle.cjc_token_proof.proofs.TablesLaws.Puts.{one_back, one_front}
use Rattle.cjc_token_proof.proofs.TablesLaws.Statics.{has_cells}

-- ---- lists of fields

map_among : {B : Type 0} (g h : MemberId → B) (fs : List MemberId) → ((f : MemberId) → is_one_of f fs ≡ true
    → g f ≡ h f) → map g fs ≡ map h fs
map_among g h [] k = refl
map_among g h (f ∷ fs) k = ap (λ v. v ∷ map g fs) (k f (front_one f fs))
    ∙ ap (λ vs. h f ∷ vs) (map_among g h fs (λ m e. k m (behind_one m f fs e)))

unfoldable pub bytes_with : (MemberId → Value) → List MemberId → List ℕ
bytes_with g [] = []
bytes_with g (f ∷ fs) = number_bytes (letter f) (g f) ++ bytes_with g fs

bytes_among : (g h : MemberId → Value) (fs : List MemberId) → ((f : MemberId) → is_one_of f fs ≡ true → g f ≡ h f)
    → bytes_with g fs ≡ bytes_with h fs
unfolding bytes_with
bytes_among g h [] k = refl
bytes_among g h (f ∷ fs) k = ap (λ v. number_bytes (letter f) v ++ bytes_with g fs) (k f (front_one f fs))
    ∙ ap (λ bs. number_bytes (letter f) (h f) ++ bs) (bytes_among g h fs (λ m e. k m (behind_one m f fs e)))

bytes_are : (x : Cells) (fs : List MemberId) → bytes_of x fs ≡ bytes_with (value_of x) fs
unfolding bytes_with
bytes_are x [] = refl
bytes_are x (f ∷ fs) = ap (λ bs. number_bytes (letter f) (value_of x f) ++ bs) (bytes_are x fs)

bytes_both : (g : MemberId → Value) (xs ys : List MemberId) → bytes_with g (xs ++ ys) ≡ bytes_with g xs
    ++ bytes_with g ys
unfolding bytes_with
bytes_both g [] ys = refl
bytes_both g (x ∷ xs) ys = ap (λ bs. number_bytes (letter x) (g x) ++ bs) (bytes_both g xs ys)
    ∙ sym (append_assoc (number_bytes (letter x) (g x)) (bytes_with g xs) (bytes_with g ys))

apart_parts : (f : MemberId) (fs : List MemberId) → are_apart (f ∷ fs) ≡ true → (is_one_of f fs ≡ false)
    × (are_apart fs ≡ true)
apart_parts f fs e = by (is_one_of f fs) (are_apart fs) e
  where
    by : (q r : Bool) → (not q && r) ≡ true → (q ≡ false) × (r ≡ true)
    by false true h = (refl, refl)
    by false false h = cc
    by true r h = cc

differs : (g f : MemberId) (fs : List MemberId) → is_one_of g fs ≡ false → is_one_of f fs ≡ true
    → is_same_field g f ≡ false
differs g f fs none e = by (is_same_field g f) refl
  where
    by : (b : Bool) → is_same_field g f ≡ b → b ≡ false
    by true h = let clash : true ≡ false = sym e ∙ ap (λ m. is_one_of m fs) (sym (same-field g f h)) ∙ none
        in absurd (cc)
    by false h = refl

not_head : (g f : MemberId) (fs : List MemberId) → is_one_of f (g ∷ fs) ≡ false → (is_same_field g f ≡ false)
    × (is_one_of f fs ≡ false)
not_head g f fs e = (by (is_same_field g f) refl, rest (same_member g f) e)
  where
    by : (b : Bool) → is_same_field g f ≡ b → b ≡ false
    by true h = let clash : true ≡ false = sym (ap (λ m. is_one_of f (m ∷ fs)) (same-field g f h) ∙ front_one f fs) ∙ e
        in absurd (cc)
    by false h = refl

    rest : (b : Bool) → (b || is_one_of f fs) ≡ false → is_one_of f fs ≡ false
    rest true h = cc
    rest false h = h

-- ---- what the image says of a field

abbrev array_fields : List ArrayCell → List MemberId
array_fields arrays = map (λ a. a.field) arrays

abbrev value_fields : List ValueCell → List MemberId
value_fields values = map (λ v. v.field) values

pub arrays_values : (os : List ValueCell) (k : ℕ) (arrays : List ArrayCell) → are_apart (array_fields arrays) ≡ true
    → map (λ f. or_zero f (array_place k arrays f) (number_place os f)) (array_fields arrays)
    ≡ objects_from k (length arrays)
arrays_values os k [] e = refl
arrays_values os k (a ∷ arrays) e =
    let q = apart_parts a.field (array_fields arrays) e in
    ap (λ b. or_zero a.field (if b then Some (Obj k) else array_place (k + 1) arrays a.field) (number_place os a.field)
    ∷ map (λ f. or_zero f (array_place k (a ∷ arrays) f) (number_place os f)) (array_fields arrays))
    (same-refl a.field)
    ∙ ap (λ vs. Obj k ∷ vs) (map_among (λ f. or_zero f (array_place k (a ∷ arrays) f) (number_place os f))
    (λ f. or_zero f (array_place (k + 1) arrays f) (number_place os f)) (array_fields arrays)
    (λ f h. ap (λ b. or_zero f (if b then Some (Obj k) else array_place (k + 1) arrays f) (number_place os f))
    (differs a.field f (array_fields arrays) q.0 h)) ∙ arrays_values os (k + 1) arrays q.1)

pub array_none : (k : ℕ) (arrays : List ArrayCell) (f : MemberId) → is_one_of f (array_fields arrays) ≡ false
    → array_place k arrays f ≡ None
array_none k [] f e = refl
array_none k (a ∷ arrays) f e = let q = not_head a.field f (array_fields arrays) e in ap (λ b. if b then Some (Obj k)
    else array_place (k + 1) arrays f) q.0 ∙ array_none (k + 1) arrays f q.1

pub number_none : (os : List ValueCell) (f : MemberId) → is_one_of f (value_fields os) ≡ false
    → number_place os f ≡ None
number_none [] f e = refl
number_none (v ∷ os) f e = let q = not_head v.field f (value_fields os) e in ap (λ b. if b then Some (Num v.value)
    else number_place os f) q.0 ∙ number_none os f q.1

number_spelt : (s : Sort) (z : ℤ) → is_some (letter_of s) ≡ true → is_number (letter_by s) ≡ true
    → number_bytes (letter_by s) (Num z) ≡ value_by s z
number_spelt Boolean z e f = refl
number_spelt Byte z e f = refl
number_spelt Short z e f = refl
number_spelt Int z e f = refl
number_spelt (Reference shape) z e f = cc
number_spelt NoValue z e f = cc

abbrev IsNumber : MemberId → Type 0
IsNumber f = (is_some (letter_of (field_sort f.desc)) ≡ true) × (is_number (letter f) ≡ true)

pub others_bytes : (os : List ValueCell) → are_apart (value_fields os) ≡ true
    → ((f : MemberId) → is_one_of f (value_fields os) ≡ true → IsNumber f)
    → bytes_with (λ f. or_zero f None (number_place os f)) (value_fields os) ≡ flat_map value_bytes os
unfolding bytes_with
others_bytes [] e t = refl
others_bytes (v ∷ os) e t =
    let q = apart_parts v.field (value_fields os) e in
    let h = t v.field (front_one v.field (value_fields os)) in
    ap (λ b. number_bytes (letter v.field) (or_zero v.field None (if b then Some (Num v.value)
    else number_place os v.field)) ++ bytes_with (λ f. or_zero f None (number_place (v ∷ os) f)) (value_fields os))
    (same-refl v.field)
    ∙ ap (λ bs. bs ++ bytes_with (λ f. or_zero f None (number_place (v ∷ os) f)) (value_fields os))
    (number_spelt (field_sort (let f = v.field in f.desc)) v.value h.0 h.1)
    ∙ ap (λ bs. value_bytes v ++ bs) (bytes_among (λ f. or_zero f None (number_place (v ∷ os) f))
    (λ f. or_zero f None (number_place os f)) (value_fields os)
    (λ f k. ap (λ b. or_zero f None (if b then Some (Num v.value) else number_place os f))
    (differs v.field f (value_fields os) q.0 k))
    ∙ others_bytes os q.1 (λ f k. t f (behind_one f v.field (value_fields os) k)))
    ∙ sym (flat_map-cons value_bytes v os)

abbrev pub no_bytes : ℕ → List ℕ
no_bytes n = replicate n 0

zero_spelt : (s : Sort) → is_some (letter_of s) ≡ true → is_number (letter_by s) ≡ true
    → number_bytes (letter_by s) (Num (pos 0)) ≡ no_bytes (cell_size s)
zero_spelt Boolean e f = refl
zero_spelt Byte e f = refl
zero_spelt Short e f = refl
zero_spelt Int e f = refl
zero_spelt (Reference shape) e f = cc
zero_spelt NoValue e f = cc

replicate_both : (m n : ℕ) → no_bytes m ++ no_bytes n ≡ no_bytes (m + n)
replicate_both zero n = let z : n ≡ 0 + n = omega arith in ap no_bytes z
replicate_both (suc m) n = let s : suc (m + n) ≡ suc m + n = omega arith in ap (λ xs. 0 ∷ xs) (replicate_both m n)
    ∙ ap no_bytes s

pub zeros_bytes : (fs : List MemberId) → ((f : MemberId) → is_one_of f fs ≡ true → IsNumber f)
    → bytes_with (λ f. Num (pos 0)) fs ≡ no_bytes (sum_by size_of_field fs)
unfolding bytes_with
zeros_bytes [] t = refl
zeros_bytes (f ∷ fs) t =
    let h = t f (front_one f fs) in
    ap (λ bs. bs ++ bytes_with (λ f. Num (pos 0)) fs) (zero_spelt (field_sort f.desc) h.0 h.1)
    ∙ ap (λ bs. no_bytes (size_of_field f) ++ bs) (zeros_bytes fs (λ g k. t g (behind_one g f fs k)))
    ∙ replicate_both (size_of_field f) (sum_by size_of_field fs)
    ∙ ap no_bytes (sym (sum_by-cons size_of_field f fs))

-- ---- cells by name

class_cells : (image : StaticImage) (name : List ℕ) (fs : List FieldTree) → cells_in image name fs
    ≡ map (cell_of image) (map (field_id name) (filter is_cell fs))
class_cells image name [] = refl
class_cells image name (f ∷ fs) = by (is_cell f) (class_cells image name fs)
  where
    by : (b : Bool) → cells_in image name fs ≡ map (cell_of image) (map (field_id name) (filter is_cell fs))
        → (if b then cell_of image (field_id name f) ∷ cells_in image name fs else cells_in image name fs)
        ≡ map (cell_of image) (map (field_id name) (cond b (f ∷ filter is_cell fs) (filter is_cell fs)))
    by true e = ap (λ xs. cell_of image (field_id name f) ∷ xs) e
    by false e = e

pub cells_are : (image : StaticImage) (cs : List ClassTree) → cells image cs ≡ map (cell_of image) (statics_of cs)
cells_are image [] = refl
cells_are image (c ∷ cs) =
    flat_map-cons (λ (c : ClassTree). cells_in image c.name c.fields) c cs
    ∙ ap (λ xs. xs ++ cells image cs) (class_cells image c.name c.fields)
    ∙ ap (λ xs. map (cell_of image) (statics_in c) ++ xs) (cells_are image cs)
    ∙ sym (map-append (cell_of image) (statics_in c) (statics_of cs))
    ∙ ap (map (cell_of image)) (sym (flat_map-cons statics_in c cs))

pub value_there : (image : StaticImage) (fs : List MemberId) (g : MemberId) → is_one_of g fs ≡ true
    → value_of (map first_cell (map (cell_of image) fs)) g ≡ or_zero g (array_place 0 image.arrays g)
    (number_place image.others g)
value_there image [] g e = cc
value_there image (f ∷ fs) g e = by (same_member f g) refl e (value_there image fs g)
  where
    by : (b : Bool) → same_member f g ≡ b → (b || is_one_of g fs) ≡ true → (is_one_of g fs ≡ true
        → value_of (map first_cell (map (cell_of image) fs)) g ≡ or_zero g (array_place 0 image.arrays g)
        (number_place image.others g))
        → value_in (if b then Some (or_zero f (array_place 0 image.arrays f) (number_place image.others f))
        else slot_of same_member (map first_cell (map (cell_of image) fs)) g)
        ≡ or_zero g (array_place 0 image.arrays g) (number_place image.others g)
    by true h k rest = ap (λ (m : MemberId). or_zero m (array_place 0 image.arrays m) (number_place image.others m))
        (member_tells f g h)
    by false h k rest = rest k

-- ---- the image

abbrev memory_with : List (HeapObject Class Field) → List Image → Memory Class Field (List Image)
memory_with heap statics = record { heap = heap; statics = statics }

abbrev image_with : List Value → List ℕ → Image
image_with references bytes = record { references = references; bytes = bytes }

map_const : {B : Type 0} (b : B) (fs : List MemberId) → map (λ (f : MemberId). b) fs ≡ replicate (length fs) b
map_const b [] = refl
map_const b (f ∷ fs) = ap (λ bs. b ∷ bs) (map_const b fs)

apart_front : (xs ys : List MemberId) → are_apart (xs ++ ys) ≡ true → are_apart xs ≡ true
apart_front [] ys e = refl
apart_front (x ∷ xs) ys e =
    let q = apart_parts x (xs ++ ys) e in
    ap (λ b. not b && are_apart xs) (by (is_one_of x xs) refl q.0) ∙ apart_front xs ys q.1
  where
    by : (b : Bool) → is_one_of x xs ≡ b → is_one_of x (xs ++ ys) ≡ false → b ≡ false
    by true h g = let clash : true ≡ false = sym (one_front x xs ys h) ∙ g in absurd (cc)
    by false h g = refl

apart_back : (xs ys : List MemberId) → are_apart (xs ++ ys) ≡ true → are_apart ys ≡ true
apart_back [] ys e = e
apart_back (x ∷ xs) ys e = apart_back xs ys (apart_parts x (xs ++ ys) e).1

apart_clash : (xs ys : List MemberId) → are_apart (xs ++ ys) ≡ true → (m : MemberId) → is_one_of m xs ≡ true
    → is_one_of m ys ≡ true → ⊥
apart_clash [] ys e m a b = cc
apart_clash (x ∷ xs) ys e m a b = by (same_member x m) refl a (apart_clash xs ys (apart_parts x (xs ++ ys) e).1 m)
  where
    by : (q : Bool) → same_member x m ≡ q → (q || is_one_of m xs) ≡ true → (is_one_of m xs ≡ true
        → is_one_of m ys ≡ true → ⊥) → ⊥
    by true h g rest =
        let there : is_one_of x (xs ++ ys) ≡ true = ap (λ k. is_one_of k (xs ++ ys)) (member_tells x m h)
        ∙ one_back m xs ys b in
        let clash : true ≡ false = sym there ∙ (apart_parts x (xs ++ ys) e).0 in
        cc
    by false h g rest = rest g b

not_in : (f : MemberId) (fs : List MemberId) → (is_one_of f fs ≡ true → ⊥) → is_one_of f fs ≡ false
not_in f fs never = by (is_one_of f fs) refl
  where
    by : (b : Bool) → is_one_of f fs ≡ b → b ≡ false
    by true e = absurd (never e)
    by false e = refl

null_zero : (s : Sort) → is_some (letter_of s) ≡ true → is_number (letter_by s) ≡ false → zero_of s ≡ Null
null_zero Boolean e f = cc
null_zero Byte e f = cc
null_zero Short e f = cc
null_zero Int e f = cc
null_zero (Reference shape) e f = refl
null_zero NoValue e f = cc

number_zero : (s : Sort) → is_some (letter_of s) ≡ true → is_number (letter_by s) ≡ true → zero_of s ≡ Num (pos 0)
number_zero Boolean e f = refl
number_zero Byte e f = refl
number_zero Short e f = refl
number_zero Int e f = refl
number_zero (Reference shape) e f = cc
number_zero NoValue e f = cc

module _ (list : List ℕ) (p : Package) (sound : IsSound list p.files) (typed : AreTyped p.files)
    (codes : List MethodCode) (image : IsImage p.files codes p.image) (once : StandOnce p.files codes) where
  abbrev i : StaticImage
  i = p.image

  abbrev all : List MemberId
  all = statics_of (let files = p.files in files.classes)

  abbrev start : Cells
  start = (let m = first_memory p.files p.image in m.statics)

  abbrev v : MemberId → Value
  v f = or_zero f (array_place 0 (let i = p.image in i.arrays) f) (number_place (let i = p.image in i.others) f)

  abbrev A : List MemberId
  A = array_fields (let i = p.image in i.arrays)

  abbrev N : List MemberId
  N = (let i = p.image in i.nulls)

  abbrev Z : List MemberId
  Z = (let i = p.image in i.zeros)

  abbrev O : List MemberId
  O = value_fields (let i = p.image in i.others)

  has : HasCells (order_of p.image) all
  has = has_cells list p sound typed codes image once

  value_is : (f : MemberId) → is_one_of f ((A ++ N) ++ (Z ++ O)) ≡ true → value_of start f ≡ v f
  value_is f e = ap (λ xs. value_of (map first_cell xs) f) (cells_are p.image (let files = p.files in files.classes))
      ∙ value_there p.image all f (let h = has in h.no_other f e)

  letter_some : (f : MemberId) → is_one_of f ((A ++ N) ++ (Z ++ O)) ≡ true → is_some (letter_of (field_sort f.desc))
      ≡ true
  letter_some f e = let h = has in ap is_some (h.typed f (h.no_other f e))

  in_references : (f : MemberId) → is_one_of f (A ++ N) ≡ true → is_one_of f ((A ++ N) ++ (Z ++ O)) ≡ true
  in_references f e = one_front f (A ++ N) (Z ++ O) e

  in_numbers : (f : MemberId) → is_one_of f (Z ++ O) ≡ true → is_one_of f ((A ++ N) ++ (Z ++ O)) ≡ true
  in_numbers f e = one_back f (A ++ N) (Z ++ O) e

  kinds_clash : (f : MemberId) → is_one_of f (A ++ N) ≡ true → is_one_of f (Z ++ O) ≡ true → ⊥
  kinds_clash f a b = let h = has in let o = h.order in let clash : false ≡ true = sym (o.references f a)
      ∙ o.numbers f b in cc

  references_apart : are_apart (A ++ N) ≡ true
  references_apart = let h = has in let o = h.order in o.references_once

  numbers_apart : are_apart (Z ++ O) ≡ true
  numbers_apart = let h = has in let o = h.order in o.numbers_once

  number_facts : (f : MemberId) → is_one_of f (Z ++ O) ≡ true → IsNumber f
  number_facts f e = (letter_some f (in_numbers f e), (let h = has in let o = h.order in o.numbers f e))

  no_array : (f : MemberId) → is_one_of f (Z ++ O) ≡ true → array_place 0 (let i = p.image in i.arrays) f ≡ None
  no_array f e = array_none 0 (let i = p.image in i.arrays) f (not_in f A (λ a. kinds_clash f (one_front f A N a) e))

  null_value : (f : MemberId) → is_one_of f N ≡ true → v f ≡ Null
  null_value f e =
      let r = one_back f A N e in
      ap (λ o. or_zero f o (number_place (let i = p.image in i.others) f)) (array_none 0 (let i = p.image
      in i.arrays) f (not_in f A (λ a. apart_clash A N references_apart f a e)))
      ∙ ap (or_zero f None) (number_none (let i = p.image
      in i.others) f (not_in f O (λ b. kinds_clash f r (one_back f Z O b))))
      ∙ null_zero (field_sort f.desc) (letter_some f (in_references f r)) (let h = has in let o = h.order
      in o.references f r)

  zero_value : (f : MemberId) → is_one_of f Z ≡ true → v f ≡ Num (pos 0)
  zero_value f e =
      let r = one_front f Z O e in
      ap (λ o. or_zero f o (number_place (let i = p.image in i.others) f)) (no_array f r)
      ∙ ap (or_zero f None) (number_none (let i = p.image in i.others) f (not_in f O (λ b. apart_clash Z O numbers_apart
      f e b)))
      ∙ number_zero (field_sort f.desc) (number_facts f r).0 (number_facts f r).1

  references_start : map (value_of start) (A ++ N) ≡ objects_from 0 (length (let i = p.image in i.arrays))
      ++ replicate (length N) Null
  references_start =
      map-append (value_of start) A N
      ∙ ap (λ xs. xs ++ map (value_of start) N) (map_among (value_of start) v A
      (λ f e. value_is f (in_references f (one_front f A N e))) ∙ arrays_values (let i = p.image
      in i.others) 0 (let i = p.image in i.arrays) (apart_front A N references_apart))
      ∙ ap (λ xs. objects_from 0 (length (let i = p.image in i.arrays)) ++ xs) (map_among (value_of start) (λ f. Null) N
      (λ f e. value_is f (in_references f (one_back f A N e)) ∙ null_value f e) ∙ map_const Null N)

  bytes_start : bytes_of start (Z ++ O) ≡ no_bytes (sum_by size_of_field Z) ++ flat_map value_bytes (let i = p.image
      in i.others)
  bytes_start =
      bytes_are start (Z ++ O) ∙ bytes_both (value_of start) Z O
      ∙ ap (λ xs. xs ++ bytes_with (value_of start) O) (bytes_among (value_of start) (λ f. Num (pos 0)) Z
      (λ f e. value_is f (in_numbers f (one_front f Z O e)) ∙ zero_value f e)
      ∙ zeros_bytes Z (λ f e. number_facts f (one_front f Z O e)))
      ∙ ap (λ xs. no_bytes (sum_by size_of_field Z)
      ++ xs) (bytes_among (value_of start) (λ f. or_zero f None (number_place (let i = p.image in i.others) f)) O
      (λ f e. value_is f (in_numbers f (one_back f Z O e))
      ∙ ap (λ o. or_zero f o (number_place (let i = p.image in i.others) f)) (no_array f (one_back f Z O e)))
      ∙ others_bytes (let i = p.image in i.others) (apart_back Z O numbers_apart) (λ f e. number_facts f
      (one_back f Z O e)))

  pub statics_begin : (let l = loaded p in first_images 0 l.parts) ≡ image_of (order_of p.image) start ∷ []
  statics_begin =
      let count = length-map (let i = p.image in i.arrays) array_init in
      let n = length (let i = p.image in i.arrays) in
      let rest : n + length N - n ≡ length N = omega arith in
      let written : objects_from 0 (length (map array_init (let i = p.image in i.arrays)))
      ++ replicate (n + length N - length (map array_init (let i = p.image in i.arrays))) Null ≡ objects_from 0 n
      ++ replicate (length N) Null =
      ap (λ k. objects_from 0 k ++ replicate (n + length N - k) Null) count ∙ ap (λ k. objects_from 0 n
      ++ replicate k Null) rest in
      ap (λ (r : List Value). image_with r (no_bytes (sum_by size_of_field Z) ++ flat_map value_bytes (let i = p.image
      in i.others)) ∷ []) (written ∙ sym references_start)
      ∙ ap (λ (b : List ℕ). image_with (map (value_of start) (A ++ N)) b ∷ []) (sym bytes_start)

  pub memory_begin : first_on_card (loaded p) ≡ memory_as (class_at p) (slots_of (naming p))
      (λ cells. image_of (order_of p.image) cells ∷ []) (first_memory p.files p.image)
  memory_begin =
      let images = (let l = loaded p in first_images 0 l.parts) in
      ap (λ (h : List (HeapObject Class Field)). memory_with h images) (arrays_begin p codes image)
      ∙ ap (λ (s : List Image). memory_with (map (heap_object_as (class_at p) (slots_of (naming p)))
      (let m = first_memory p.files p.image in m.heap)) s) statics_begin
