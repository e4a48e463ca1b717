-- The machine by name at the code of all initialisers of a package.
use Rattle.std.proofs.Common.{◌≡◌, ◌∙◌, refl, sym, ap, subst, ℕ, suc, zero, ◌+◌, List, [], ◌∷◌, ◌++◌, append_assoc}
use Rattle.std.proofs.Common.{append-nil, map, Bool, true, false, ◌⊎◌, inl, inr, ⊎_elim}
use Rattle.std.specs.Prelude.{◌&&◌, if◌then◌else◌, Option, Some, None, replicate, slice_get, is_some, ℤ, pos}
use Rattle.std.specs.Ordering.{int_eq}
use Rattle.std.specs.Str.{bytes_eq}
use Rattle.cjc_bytes.specs.declared.fault.MemberId.{MemberId}
use Rattle.cjc_bytes.specs.declared.descriptor.Kind.{Kind}
use Rattle.cjc_bytes.proofs.Lists.{name_is, map_append}
use Rattle.cjc_world.specs.ClassFile.declared.tree.ClassTree.{ClassTree}
use Rattle.cjc_world.specs.ClassFile.declared.tree.FieldTree.{FieldTree}
use Rattle.cjc_world.specs.ClassFile.declared.tree.MethodTree.{MethodTree}
use Rattle.cjc_world.specs.ClassFile.Code.{CodeTree}
use Rattle.cjc_clinit.specs.Bytecode.declared.method_code.MethodCode.{MethodCode}
use Rattle.cjc_jvm_semantics.specs.LowerScript.declared.value.Value.{Value}
use Rattle.cjc_jvm_semantics.specs.LowerScript.declared.value.Value.TheVariants.{Num}
use Rattle.cjc_jvm_semantics.specs.LowerScript.declared.report.FieldValue.{FieldValue}
use Rattle.cjc_jvm_semantics.specs.LowerScript.declared.report.Thing.{Thing}
use Rattle.cjc_jvm_semantics.specs.LowerScript.Sorts.{field_sort, zero_of}
use Rattle.cjc_world.specs.declared.image.ArrayCell.{ArrayCell}
use Rattle.cjc_world.specs.declared.image.StaticImage.{StaticImage}
use Rattle.cjc_world.specs.Files.{Files}
use Rattle.cjc_jvm_semantics.specs.ByName.{linked}
use Rattle.cjc_jvm_semantics.specs.Effects.{Store, is_kind, is_same_field, value_in}
use Rattle.cjc_jvm_semantics.specs.OnePackage.{method_by, static_array}
use Rattle.cjc_clinit.specs.declared.stage.Held.{Held}
use Rattle.cjc_clinit.specs.declared.stage.Start.{Start}
use Rattle.cjc_clinit.specs.declared.stage.Start.TheVariants as starts
use Rattle.cjc_clinit.specs.Fields.{is_cell, is_reference, number_kind}
use Rattle.cjc_clinit.specs.Image.{AreInitialised, IsImage, array_in, arrays_of, class_where, empty, field_id}
use Rattle.cjc_clinit.specs.Image.{fields_in, held_in, if_initialiser, image_of, of_classes, of_fields, of_start}
use Rattle.cjc_clinit.specs.Image.{own_field, start_of}
use Rattle.cjc_clinit.specs.Image.AreInitialised.{none as no_code, other as other_code, one as one_code}
use Rattle.cjc_clinit.specs.Initialiser.{Put, is_initialiser, nothing_in, ops_of}
use Rattle.cjc_world_proof.specs.Initialisers.Statements.{store_with}
use Rattle.cjc_world_proof.specs.Initialisers.Initialisers.{store_after}
use Rattle.cjc_world_proof.specs.Initialisers.Packages.{AllHaveCells, AllReturn, HaveRoom, HaveTypes, first_cells}
use Rattle.cjc_world_proof.specs.Initialisers.Packages.{first_in, first_store, first_value, method_with, value_or}
use Rattle.cjc_world_proof.specs.Initialisers.Packages.AllReturn.{none, other, one}
use Rattle.cjc_world_proof.proofs.InitialisersLaws.Initialisers.{initialiser, number-by, same-field}

-- ---- the arrays

-- what an initialiser makes stands behind what was there
pub made-behind : (c : ClassTree) (s : Store) (ps : List Put) → (let t = store_after c s ps in t.heap) ≡ s.heap
    ++ map static_array (arrays_of c ps)
made-behind c s [] = sym (append-nil s.heap)
made-behind c s (p ∷ ps) =
    made-behind c (store_with s (own_field c p.field) p.contents) ps
    ∙ append_assoc s.heap (map static_array (array_in (own_field c p.field) p.contents))
    (map static_array (arrays_of c ps))
    ∙ ap (λ q. s.heap ++ q) (sym (map_append static_array (array_in (own_field c p.field) p.contents) (arrays_of c ps)))

start-arrays : (id : MemberId) (o : Option Start) → (let i = of_start id o in i.arrays) ≡ []
start-arrays id None = refl
start-arrays id (Some starts.Null) = refl
start-arrays id (Some (starts.Number z)) = by (int_eq z (pos 0))
  where
    by : (b : Bool) → (let i = (if b then record empty { zeros = id ∷ [] }
        else record empty { others = record { field = id; value = z } ∷ [] }) in i.arrays) ≡ []
    by true = refl
    by false = refl

both-none : (a b : List ArrayCell) → a ≡ [] → b ≡ [] → a ++ b ≡ []
both-none a b p q = ap (λ x. x ++ b) p ∙ q

fields-arrays : (class : List ℕ) (fields : List Held) (k : ℕ) (fs : List FieldTree)
    → (let i = of_fields class fields k fs in i.arrays) ≡ []
fields-arrays class fields k [] = refl
fields-arrays class fields k (f ∷ fs) =
    both-none (let i = of_start (field_id class f) (start_of f (held_in (slice_get fields k)))
    in i.arrays) (let i = of_fields class fields (k + 1) fs in i.arrays)
    (start-arrays (field_id class f) (start_of f (held_in (slice_get fields k)))) (fields-arrays class fields (k + 1)
    fs)

classes-arrays : (puts : List (List Held)) (n : ℕ) (cs : List ClassTree) → (let i = of_classes puts n cs in i.arrays)
    ≡ []
classes-arrays puts n [] = refl
classes-arrays puts n (c ∷ cs) =
    both-none (let i = of_fields c.name (fields_in (slice_get puts n)) 0 c.fields
    in i.arrays) (let i = of_classes puts (n + 1) cs in i.arrays)
    (fields-arrays c.name (fields_in (slice_get puts n)) 0 c.fields) (classes-arrays puts (n + 1) cs)

pub image-arrays : (classes : List ClassTree) (arrays : List ArrayCell) (fields : List (List Held))
    → (let i = image_of classes arrays fields in i.arrays) ≡ arrays
image-arrays classes arrays fields = ap (λ q. arrays ++ q) (classes-arrays fields 0 classes) ∙ append-nil arrays

-- ---- the cells before any initialiser

value-kind : (desc : List ℕ) (constant : Option ℤ) → is_kind (is_reference desc) (zero_of (field_sort desc)) ≡ true
    → is_kind (is_reference desc) (value_or (is_some (number_kind desc)) constant (zero_of (field_sort desc))) ≡ true
value-kind desc constant typed = by (number_kind desc) constant refl
  where
    by : (o : Option Kind) (z : Option ℤ) → number_kind desc ≡ o
        → is_kind (is_reference desc) (value_or (is_some o) z (zero_of (field_sort desc))) ≡ true
    by None None e = typed
    by None (Some z) e = typed
    by (Some kind) None e = typed
    by (Some kind) (Some z) e = ap (λ b. is_kind b (Num z)) (number-by desc kind e)

pub same-refl : (id : MemberId) → is_same_field id id ≡ true
same-refl id = ap (λ b. b && bytes_eq id.name id.name && bytes_eq id.desc id.desc) (name_is id.class)
    ∙ ap (λ b. b && bytes_eq id.desc id.desc) (name_is id.name) ∙ name_is id.desc

-- each value is of the kind of its field's type
abbrev AllKinds : List FieldValue → Type 0
AllKinds xs = (id : MemberId) (v : Value) → value_in xs id ≡ Some v → is_kind (is_reference id.desc) v ≡ true

abbrev Has : List FieldValue → MemberId → Type 0
Has xs id = (v : Value) × (value_in xs id ≡ Some v)

one-more : (g : MemberId) (w : Value) (xs : List FieldValue) → is_kind (is_reference g.desc) w ≡ true → AllKinds xs
    → AllKinds (record { field = g; value = w } ∷ xs)
one-more g w xs kind rec id v e = by (is_same_field g id) refl e
  where
    by : (b : Bool) → is_same_field g id ≡ b → (if b then Some w else value_in xs id) ≡ Some v
        → is_kind (is_reference id.desc) v ≡ true
    by true s h = let same : w ≡ v = cc in ap (λ (q : MemberId). is_kind (is_reference q.desc) v)
        (sym (same-field g id s)) ∙ ap (is_kind (is_reference g.desc)) (sym same) ∙ kind
    by false s h = rec id v h

pub append-either : (xs ys : List FieldValue) (id : MemberId) (v : Value) → value_in (xs ++ ys) id ≡ Some v
    → (value_in xs id ≡ Some v) ⊎ (value_in ys id ≡ Some v)
append-either [] ys id v e = inr e
append-either (x ∷ xs) ys id v e = by (is_same_field x.field id) e (append-either xs ys id v)
  where
    by : (b : Bool) → (if b then Some x.value else value_in (xs ++ ys) id) ≡ Some v → (value_in (xs ++ ys) id ≡ Some v
        → (value_in xs id ≡ Some v) ⊎ (value_in ys id ≡ Some v)) → ((if b then Some x.value else value_in xs id)
        ≡ Some v) ⊎ (value_in ys id ≡ Some v)
    by true h rec = inl h
    by false h rec = rec h

has-left : (xs ys : List FieldValue) (id : MemberId) → Has xs id → Has (xs ++ ys) id
has-left [] ys id h = let e = h.1 in absurd (cc)
has-left (x ∷ xs) ys id h = by (is_same_field x.field id) h.1 (λ e. has-left xs ys id (h.0, e))
  where
    by : (b : Bool) → (if b then Some x.value else value_in xs id) ≡ Some h.0 → (value_in xs id ≡ Some h.0
        → Has (xs ++ ys) id) → (v : Value) × ((if b then Some x.value else value_in (xs ++ ys) id) ≡ Some v)
    by true e rec = (x.value, refl)
    by false e rec = rec e

has-more : (x : FieldValue) (xs : List FieldValue) (id : MemberId) → Has xs id → Has (x ∷ xs) id
has-more x xs id h = by (is_same_field x.field id)
  where
    by : (b : Bool) → (v : Value) × ((if b then Some x.value else value_in xs id) ≡ Some v)
    by true = (x.value, refl)
    by false = h

has-right : (xs ys : List FieldValue) (id : MemberId) → Has ys id → Has (xs ++ ys) id
has-right [] ys id h = h
has-right (x ∷ xs) ys id h = has-more x (xs ++ ys) id (has-right xs ys id h)

-- what the fields of a class owe
abbrev Typed : List FieldTree → Type 0
Typed fields = (k : ℕ) (f : FieldTree) → slice_get fields k ≡ Some f → is_cell f ≡ true
    → is_kind (is_reference f.desc) (zero_of (field_sort f.desc)) ≡ true

kinds-in : (class : List ℕ) (fields : List FieldTree) → Typed fields → AllKinds (first_in class fields)
kinds-in class [] typed = λ id v e. absurd (cc)
kinds-in class (f ∷ fs) typed = by (is_cell f) refl (kinds-in class fs (λ k g there is. typed (suc k) g there is))
  where
    by : (b : Bool) → is_cell f ≡ b → AllKinds (first_in class fs)
        → AllKinds (if b then record { field = field_id class f; value = first_value f } ∷ first_in class fs
        else first_in class fs)
    by true is rec = one-more (field_id class f) (first_value f) (first_in class fs) (value-kind f.desc f.constant
        (typed 0 f refl is)) rec
    by false is rec = rec

has-in : (class : List ℕ) (fields : List FieldTree) (k : ℕ) (f : FieldTree) → slice_get fields k ≡ Some f
    → is_cell f ≡ true → Has (first_in class fields) (field_id class f)
has-in class [] k f e is = absurd (cc)
has-in class (g ∷ gs) zero f e is = let same : g ≡ f = cc
    in subst (λ (q : FieldTree). Has (first_in class (g ∷ gs)) (field_id class q)) same
    (by (is_cell g) (ap (λ (q : FieldTree). is_cell q) same ∙ is))
  where
    by : (b : Bool) → b ≡ true → Has (if b then record { field = field_id class g; value = first_value g }
        ∷ first_in class gs else first_in class gs) (field_id class g)
    by true t = (
      first_value g,
      ap (λ b. if b then Some (first_value g)
          else value_in (first_in class gs) (field_id class g)) (same-refl (field_id class g)),
    )
    by false t = absurd (cc)
has-in class (g ∷ gs) (suc k) f e is = by (is_cell g) (has-in class gs k f e is)
  where
    by : (b : Bool) → Has (first_in class gs) (field_id class f) → Has (if b then record {
      field = field_id class g;
      value = first_value g;
    } ∷ first_in class gs else first_in class gs) (field_id class f)
    by true h = has-more (record { field = field_id class g; value = first_value g }) (first_in class gs)
        (field_id class f) h
    by false h = h

pub has-classes : (cs : List ClassTree) (n : ℕ) (c : ClassTree) (k : ℕ) (f : FieldTree) → slice_get cs n ≡ Some c
    → slice_get c.fields k ≡ Some f → is_cell f ≡ true → Has (first_cells cs) (field_id c.name f)
has-classes [] n c k f at there is = absurd (cc)
has-classes (d ∷ ds) zero c k f at there is =
    let same : d ≡ c = cc in
    has-left (first_in d.name d.fields) (first_cells ds) (field_id c.name f)
    (subst (λ (q : ClassTree). Has (first_in q.name q.fields) (field_id c.name f)) (sym same)
    (has-in c.name c.fields k f there is))
has-classes (d ∷ ds) (suc n) c k f at there is = has-right (first_in d.name d.fields) (first_cells ds)
    (field_id c.name f) (has-classes ds n c k f at there is)

kinds-classes : (cs : List ClassTree) → ((n : ℕ) (c : ClassTree) → slice_get cs n ≡ Some c → Typed c.fields)
    → AllKinds (first_cells cs)
kinds-classes [] typed id v e = absurd (cc)
kinds-classes (d ∷ ds) typed id v e = ⊎_elim (λ p. kinds-in d.name d.fields (typed 0 d refl) id v p)
    (λ p. kinds-classes ds (λ n c at. typed (suc n) c at) id v p) (append-either (first_in d.name d.fields)
    (first_cells ds) id v e)

pub first-cells : (files : Files) → HaveTypes files → AllHaveCells files (first_cells files.classes)
first-cells files typed n c at k f there is =
    let h = has-classes files.classes n c k f at there is in (
      h.0,
      h.1,
      kinds-classes files.classes (λ n c at k f there is. typed n k c f at there is) (field_id c.name f) h.0
          h.1,
    )

-- ---- the class and the method of a code

pub class-there : (m : ℕ) (o : Option ClassTree) (c : ClassTree) → class_where m o ≡ Some c → (o ≡ Some c)
    × (t : MethodTree) × (slice_get c.methods m ≡ Some t)
class-there m None c e = absurd (cc)
class-there m (Some d) c e = by (slice_get d.methods m) refl e
  where
    go : (b : Bool) → (if b then Some d else None) ≡ Some c → d ≡ c
    go true h = cc
    go false h = absurd (cc)

    by : (o : Option MethodTree) → slice_get d.methods m ≡ o → if_initialiser d o ≡ Some c → (Some d ≡ Some c)
        × (t : MethodTree) × (slice_get c.methods m ≡ Some t)
    by None is h = absurd (cc)
    by (Some t) is h = let same = go (is_initialiser t) h
        in (ap (λ q. Some q) same, t, ap (λ (q : ClassTree). slice_get q.methods m) (sym same) ∙ is)

pub class-of : (c : ClassTree) (m : MethodTree) (o : Option CodeTree) → (let method = method_by c m o
    in let id = method.id in id.class) ≡ c.name
class-of c m None = refl
class-of c m (Some code) = refl

-- ---- all initialisers

module _ (files : Files) (image : StaticImage) where
  abbrev Result : Store → List MethodCode → List ArrayCell → Type 0
  Result s codes arrays = (later : Store) × AllReturn files (linked files image) s codes later × (later.heap ≡ s.heap
      ++ map static_array arrays) × AllHaveCells files later.statics

  pub all : (before after : List (List Held)) (codes : List MethodCode) (arrays : List ArrayCell)
      → AreInitialised files before codes arrays after → (s : Store) → HaveRoom files codes
      → AllHaveCells files s.statics → Result s codes arrays
  all before after codes arrays no_code s roomy cells = (s, none, sym (append-nil s.heap), cells)
  all before after codes arrays (other_code {codes = rest} is more) s roomy cells =
      let r = all _ after rest arrays more s (λ index code c m there. roomy (suc index) code c m there) cells
      in (r.0, other is r.1, r.2, r.3)
  all before after codes arrays (one_code {code = code} {codes = rest} {arrays = others} c ps fields is does more) s
      roomy cells =
      let t = class-there code.method (slice_get files.classes code.class) c is in
      let m = method_with c t.1 code in
      let own : (let id = m.id in id.class) ≡ c.name = class-of c t.1 (let q = t.1 in q.code) in
      let locals = replicate m.max_locals None in
      let e = initialiser files image code.class c m locals t.0 own (nothing_in c) fields (ops_of code.insns) ps does 0
      s refl (cells code.class c t.0) (roomy 0 code c t.1 refl is t.2) in
      let mid = store_after c s ps in
      let r = all _ after rest others more mid (λ index code c m there. roomy (suc index) code c m there)
      (λ n d there. e.1 d (cells n d there)) in (
        r.0,
        one c t.1 is t.2 e.0 r.1,
        r.2 ∙ ap (λ (q : List Thing). q ++ map static_array others) (made-behind c s ps)
            ∙ append_assoc s.heap (map static_array (arrays_of c ps)) (map static_array others)
            ∙ ap (λ q. s.heap ++ q) (sym (map_append static_array (arrays_of c ps) others)),
        r.3,
      )

pub all-of-package : (files : Files) (image : StaticImage) (codes : List MethodCode) → HaveTypes files
    → HaveRoom files codes → IsImage files codes image
    → (later : Store) × AllReturn files (linked files image) (first_store files.classes) codes later
    × (later.heap ≡ map static_array image.arrays) × AllHaveCells files later.statics
all-of-package files image codes typed roomy is =
    let r = all files image _ is.fields codes is.arrays is.initialises (first_store files.classes) roomy
    (first-cells files typed) in (
      r.0,
      r.1,
      r.2 ∙ ap (map static_array) (sym (ap (λ (i : StaticImage). i.arrays) is.is
          ∙ image-arrays files.classes is.arrays is.fields)),
      r.3,
    )
