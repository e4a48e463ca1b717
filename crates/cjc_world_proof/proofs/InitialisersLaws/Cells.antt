-- The static cells after initialisers are those of the image.
use Rattle.std.proofs.Common.{◌≡◌, ◌∙◌, refl, sym, ap, subst, ℕ, suc, zero, ◌+◌, List, [], ◌∷◌, ◌++◌, length, map, Bool}
use Rattle.std.proofs.Common.{true, false, arith}
use Rattle.std.proofs.lemmas.Bool.Decides.{Decides-int_eq}
use Rattle.std.specs.Prelude.{if◌then◌else◌, Option, Some, None, slice_get, is_some, ℤ, pos}
use Rattle.std.specs.Ordering.{int_eq}
use Rattle.cjc_bytes.specs.declared.fault.MemberId.{MemberId}
use Rattle.cjc_bytes.specs.declared.descriptor.Kind.{Kind}
use Rattle.cjc_bytes.proofs.Lists.{map_append}
use Rattle.cjc_bytes.proofs.Numbers.{none_behind}
use Rattle.cjc_world.specs.ClassFile.declared.tree.ClassTree.{ClassTree}
use Rattle.cjc_world.specs.ClassFile.declared.tree.FieldTree.{FieldTree}
use Rattle.cjc_clinit.specs.Bytecode.declared.method_code.MethodCode.{MethodCode}
use Rattle.cjc_jvm_semantics.specs.LowerScript.declared.value.Value.{Value}
use Rattle.cjc_jvm_semantics.specs.LowerScript.declared.value.Value.TheVariants.{Num, Null}
use Rattle.cjc_jvm_semantics.specs.LowerScript.declared.report.FieldValue.{FieldValue}
use Rattle.cjc_jvm_semantics.specs.LowerScript.Sorts.{Sort, Boolean, Byte, Short, Int, Reference, NoValue, field_sort}
use Rattle.cjc_jvm_semantics.specs.LowerScript.Sorts.{zero_of}
use Rattle.cjc_world.specs.declared.image.ArrayCell.{ArrayCell}
use Rattle.cjc_world.specs.declared.image.ValueCell.{ValueCell}
use Rattle.cjc_world.specs.declared.image.StaticImage.{StaticImage}
use Rattle.cjc_world.specs.Files.{Files}
use Rattle.cjc_jvm_semantics.specs.ByName.{linked}
use Rattle.cjc_jvm_semantics.specs.Effects.{Store, is_kind, is_same_field, value_in}
use Rattle.cjc_jvm_semantics.specs.OnePackage.{array_place, cell_of, cells, cells_in, number_place, or_zero}
use Rattle.cjc_jvm_semantics.specs.OnePackage.{static_array}
use Rattle.cjc_clinit.specs.declared.stage.Held.{Held}
use Rattle.cjc_clinit.specs.declared.stage.Held.TheVariants as held
use Rattle.cjc_clinit.specs.declared.stage.Start.{Start}
use Rattle.cjc_clinit.specs.declared.stage.Start.TheVariants as starts
use Rattle.cjc_clinit.specs.Fields.{is_cell, is_reference, number_kind}
use Rattle.cjc_clinit.specs.Image.{IsImage, empty, field_id, fields_in, held_in, image_of, of_classes, of_fields}
use Rattle.cjc_clinit.specs.Image.{of_start, start_by, start_of, unput_start, value_or_zero}
use Rattle.cjc_world_proof.specs.Initialisers.Packages.{AllHaveCells, AllReturn, HaveRoom, HaveTypes, first_cells}
use Rattle.cjc_world_proof.specs.Initialisers.Packages.{first_in, first_store, first_value, value_or}
use Rattle.cjc_world_proof.specs.Initialisers.Values.{AllHold, AreApart, IsValue, StandOnce}
use Rattle.cjc_world_proof.proofs.InitialisersLaws.Initialisers.{number-by, same-field}
use Rattle.cjc_world_proof.proofs.InitialisersLaws.Packages.{image-arrays, same-refl}
use Rattle.cjc_world_proof.proofs.InitialisersLaws.Values.{fields-told, names, of-class, of-classes, values-held}

-- ---- the number of a field in an image

abbrev else_by : Option Value → Option Value → Option Value
else_by (Some v) second = Some v
else_by None second = second

else-none : (o : Option Value) → else_by o None ≡ o
else-none None = refl
else-none (Some v) = refl

place-append : (xs ys : List ValueCell) (id : MemberId) → number_place (xs ++ ys) id ≡ else_by (number_place xs id)
    (number_place ys id)
place-append [] ys id = refl
place-append (x ∷ xs) ys id = by (is_same_field x.field id) (place-append xs ys id)
  where
    by : (b : Bool) → number_place (xs ++ ys) id ≡ else_by (number_place xs id) (number_place ys id)
        → (if b then Some (Num x.value) else number_place (xs ++ ys) id) ≡ else_by (if b then Some (Num x.value)
        else number_place xs id) (number_place ys id)
    by true rec = refl
    by false rec = rec

-- where the second has none, and where the first has none
first-place : (xs ys : List ValueCell) (id : MemberId) (o : Option Value) → number_place xs id ≡ o
    → number_place ys id ≡ None → number_place (xs ++ ys) id ≡ o
first-place xs ys id o p q = place-append xs ys id ∙ ap (else_by (number_place xs id)) q
    ∙ else-none (number_place xs id) ∙ p

second-place : (xs ys : List ValueCell) (id : MemberId) (o : Option Value) → number_place xs id ≡ None
    → number_place ys id ≡ o → number_place (xs ++ ys) id ≡ o
second-place xs ys id o p q = place-append xs ys id ∙ ap (λ x. else_by x (number_place ys id)) p ∙ q

abbrev unless_zero : Bool → ℤ → Option Value
unless_zero is_zero z = if is_zero then None else Some (Num z)

-- a number other than 0
abbrev number_of : Option Start → Option Value
number_of None = None
number_of (Some starts.Null) = None
number_of (Some (starts.Number z)) = unless_zero (int_eq z (pos 0)) z

start-place : (id : MemberId) (o : Option Start) → number_place (let i = of_start id o in i.others) id ≡ number_of o
start-place id None = refl
start-place id (Some starts.Null) = refl
start-place id (Some (starts.Number z)) = by (int_eq z (pos 0))
  where
    by : (b : Bool) → number_place (let i = (if b then record empty { zeros = id ∷ [] }
        else record empty { others = record { field = id; value = z } ∷ [] }) in i.others) id ≡ unless_zero b z
    by true = refl
    by false = ap (λ b. if b then Some (Num z) else None) (same-refl id)

start-other : (g id : MemberId) (o : Option Start) → (g ≡ id → ⊥) → number_place (let i = of_start g o in i.others) id
    ≡ None
start-other g id None differs = refl
start-other g id (Some starts.Null) differs = refl
start-other g id (Some (starts.Number z)) differs = by (int_eq z (pos 0)) (is_same_field g id) refl
  where
    by : (b s : Bool) → is_same_field g id ≡ s → number_place (let i = (if b then record empty { zeros = g ∷ [] }
        else record empty { others = record { field = g; value = z } ∷ [] }) in i.others) id ≡ None
    by true s e = refl
    by false true e = absurd (differs (same-field g id e))
    by false false e = ap (λ b. if b then Some (Num z) else None) e

fields-other : (class : List ℕ) (puts : List Held) (m : ℕ) (fs : List FieldTree) (id : MemberId)
    → ((i : ℕ) (g : FieldTree) → slice_get fs i ≡ Some g → field_id class g ≡ id → ⊥)
    → number_place (let i = of_fields class puts m fs in i.others) id ≡ None
fields-other class puts m [] id differs = refl
fields-other class puts m (f ∷ fs) id differs =
    let o = start_of f (held_in (slice_get puts m)) in
    first-place (let i = of_start (field_id class f) o in i.others) (let i = of_fields class puts (m + 1) fs
    in i.others) id None
    (start-other (field_id class f) id o (differs 0 f refl)) (fields-other class puts (m + 1) fs id
    (λ i g at. differs (suc i) g at))

-- the field at this place has its name alone
abbrev Alone : (class : List ℕ) → List FieldTree → ℕ → FieldTree → Type 0
Alone class fs k f = (i : ℕ) (g : FieldTree) → slice_get fs i ≡ Some g → field_id class g ≡ field_id class f → i ≡ k

fields-place : (class : List ℕ) (puts : List Held) (m : ℕ) (fs : List FieldTree) (k : ℕ) (f : FieldTree)
    → slice_get fs k ≡ Some f → Alone class fs k f → number_place (let i = of_fields class puts m fs
    in i.others) (field_id class f) ≡ number_of (start_of f (held_in (slice_get puts (m + k))))
fields-place class puts m [] k f at alone = absurd (cc)
fields-place class puts m (g ∷ gs) zero f at alone =
    let same : g ≡ f = cc in
    let o = start_of g (held_in (slice_get puts m)) in
    first-place (let i = of_start (field_id class g) o in i.others) (let i = of_fields class puts (m + 1) gs
    in i.others) (field_id class f) (number_of (start_of f (held_in (slice_get puts (m + 0)))))
    (subst (λ (q : FieldTree). number_place (let i = of_start (field_id class g) o in i.others) (field_id class q)
    ≡ number_of (start_of q (held_in (slice_get puts (m + 0))))) same
    (start-place (field_id class g) o ∙ ap (λ n. number_of (start_of g (held_in (slice_get puts n)))) (omega arith)))
    (fields-other class puts (m + 1) gs (field_id class f) (λ i h there is. (let z : suc i ≡ 0 = alone (suc i) h there
    is in omega arith)))
fields-place class puts m (g ∷ gs) (suc k) f at alone =
    let o = start_of g (held_in (slice_get puts m)) in
    second-place (let i = of_start (field_id class g) o in i.others) (let i = of_fields class puts (m + 1) gs
    in i.others) (field_id class f) (number_of (start_of f (held_in (slice_get puts (m + suc k)))))
    (start-other (field_id class g) (field_id class f) o (λ is. (let z : 0 ≡ suc k = alone 0 g refl is in omega arith)))
    (fields-place class puts (m + 1) gs k f at (λ i h there is. (let z : suc i ≡ suc k = alone (suc i) h there is
    in cc)) ∙ ap (λ n. number_of (start_of f (held_in (slice_get puts n)))) (omega arith))

classes-other : (puts : List (List Held)) (m : ℕ) (cs : List ClassTree) (id : MemberId) → ((i : ℕ) (d : ClassTree)
    → slice_get cs i ≡ Some d → d.name ≡ id.class → ⊥) → number_place (let i = of_classes puts m cs in i.others) id
    ≡ None
classes-other puts m [] id differs = refl
classes-other puts m (c ∷ cs) id differs =
    first-place (let i = of_fields c.name (fields_in (slice_get puts m)) 0 c.fields
    in i.others) (let i = of_classes puts (m + 1) cs in i.others) id None
    (fields-other c.name (fields_in (slice_get puts m)) 0 c.fields id (λ i g at is. differs 0 c refl
    (ap (λ (q : MemberId). q.class) is)))
    (classes-other puts (m + 1) cs id (λ i d at. differs (suc i) d at))

-- what stands at a place of the record of puts
abbrev put_at : List (List Held) → (class place : ℕ) → Held
put_at puts n k = held_in (slice_get (fields_in (slice_get puts n)) k)

none-before : (k : ℕ) → 0 + k ≡ k
none-before k = omega arith

classes-place : (puts : List (List Held)) (m : ℕ) (cs : List ClassTree) (n : ℕ) (c : ClassTree) (k : ℕ) (f : FieldTree)
    → slice_get cs n ≡ Some c → ((i : ℕ) (d : ClassTree) → slice_get cs i ≡ Some d → d.name ≡ c.name → i ≡ n)
    → slice_get c.fields k ≡ Some f → Alone c.name c.fields k f → number_place (let i = of_classes puts m cs
    in i.others) (field_id c.name f) ≡ number_of (start_of f (put_at puts (m + n) k))
classes-place puts m [] n c k f at one there alone = absurd (cc)
classes-place puts m (d ∷ ds) zero c k f at one there alone =
    let same : d ≡ c = cc in
    first-place (let i = of_fields d.name (fields_in (slice_get puts m)) 0 d.fields
    in i.others) (let i = of_classes puts (m + 1) ds in i.others) (field_id c.name f)
    (number_of (start_of f (put_at puts (m + 0) k)))
    (subst (λ (q : ClassTree). number_place (let i = of_fields q.name (fields_in (slice_get puts m)) 0 q.fields
    in i.others) (field_id c.name f) ≡ number_of (start_of f (put_at puts (m + 0) k))) (sym same)
    (fields-place c.name (fields_in (slice_get puts m)) 0 c.fields k f there alone
    ∙ ap (λ x. number_of (start_of f (held_in (slice_get (fields_in (slice_get puts m)) x)))) (none-before k)
    ∙ ap (λ x. number_of (start_of f (put_at puts x k))) (none_behind m)))
    (classes-other puts (m + 1) ds (field_id c.name f) (λ i e there-e is. (let z : suc i ≡ 0 = one (suc i) e there-e is
    in omega arith)))
classes-place puts m (d ∷ ds) (suc n) c k f at one there alone =
    second-place (let i = of_fields d.name (fields_in (slice_get puts m)) 0 d.fields
    in i.others) (let i = of_classes puts (m + 1) ds in i.others) (field_id c.name f)
    (number_of (start_of f (put_at puts (m + suc n) k)))
    (fields-other d.name (fields_in (slice_get puts m)) 0 d.fields (field_id c.name f) (λ i g there-g is. (let z : 0
    ≡ suc n = one 0 d refl (ap (λ (q : MemberId). q.class) is) in omega arith)))
    (classes-place puts (m + 1) ds n c k f at (λ i e there-e is. (let z : suc i ≡ suc n = one (suc i) e there-e is
    in cc)) there alone ∙ ap (λ x. number_of (start_of f (put_at puts x k))) (omega arith))

-- ---- the value of a field

-- 0 or null is of the kind of its type
zero-kind : (s : Sort) (refs : Bool) → is_kind refs (zero_of s) ≡ true → zero_of s ≡ (if refs then Null
    else Num (pos 0))
zero-kind (Reference shape) true e = refl
zero-kind (Reference shape) false e = absurd (cc)
zero-kind Boolean true e = absurd (cc)
zero-kind Byte true e = absurd (cc)
zero-kind Short true e = absurd (cc)
zero-kind Int true e = absurd (cc)
zero-kind NoValue true e = absurd (cc)
zero-kind Boolean false e = refl
zero-kind Byte false e = refl
zero-kind Short false e = refl
zero-kind Int false e = refl
zero-kind NoValue false e = refl

abbrev value_else : Option Value → Value → Value
value_else (Some v) least = v
value_else None least = least

unless-zero : (z : ℤ) (least : Value) → least ≡ Num (pos 0) → value_else (unless_zero (int_eq z (pos 0)) z) least
    ≡ Num z
unless-zero z least is = by (int_eq z (pos 0)) refl
  where
    by : (b : Bool) → int_eq z (pos 0) ≡ b → value_else (unless_zero b z) least ≡ Num z
    by true e = is ∙ ap (λ q. Num q) (sym ((Decides-int_eq z (pos 0)).0 e))
    by false e = refl

number-false : (refs : Bool) (z : ℤ) → is_kind refs (Num z) ≡ true → refs ≡ false
number-false true z e = absurd (cc)
number-false false z e = refl

null-true : (refs : Bool) → is_kind refs Null ≡ true → refs ≡ true
null-true true e = refl
null-true false e = absurd (cc)

-- what a field holds into which nothing was put
unput : (desc : List ℕ) (constant : Option ℤ) (least : Value) → least ≡ (if is_reference desc then Null
    else Num (pos 0))
    → value_else (number_of (Some (if is_reference desc then starts.Null
    else starts.Number (value_or_zero (is_some (number_kind desc)) constant)))) least
    ≡ value_or (is_some (number_kind desc)) constant least
unput desc constant least is = by (is_reference desc) (number_kind desc) constant refl refl is
  where
    by : (r : Bool) (o : Option Kind) (z : Option ℤ) → is_reference desc ≡ r → number_kind desc ≡ o
        → least ≡ (if r then Null else Num (pos 0))
        → value_else (number_of (Some (if r then starts.Null else starts.Number (value_or_zero (is_some o) z)))) least
        ≡ value_or (is_some o) z least
    by true None None p q e = refl
    by true None (Some z) p q e = refl
    by true (Some kind) z p q e = let no : is_reference desc ≡ false = number-by desc kind q in absurd (cc)
    by false None None p q e = refl
    by false None (Some z) p q e = refl
    by false (Some kind) None p q e = refl
    by false (Some kind) (Some z) p q e = unless-zero z least e

value-of : (arrays : List ArrayCell) (id : MemberId) (f : FieldTree) (h : Held) (v : Value) → is_cell f ≡ true
    → is_kind (is_reference f.desc) (zero_of (field_sort f.desc)) ≡ true → id.desc ≡ f.desc
    → is_kind (is_reference f.desc) v ≡ true
    → IsValue arrays id f h v → or_zero id (array_place 0 arrays id) (number_of (start_of f h)) ≡ v
value-of arrays id f h v cell typed desc kind is =
    ap (λ b. or_zero id (array_place 0 arrays id) (number_of (if b then start_by f h else None))) cell ∙ by h is
  where
    zero-is : zero_of (field_sort f.desc) ≡ (if is_reference f.desc then Null else Num (pos 0))
    zero-is = zero-kind (field_sort f.desc) (is_reference f.desc) typed

    go : (o : Option Value) → or_zero id None o ≡ value_else o (zero_of (field_sort f.desc))
    go None = ap (λ q. zero_of (field_sort q)) desc
    go (Some w) = refl

    by : (h : Held) → IsValue arrays id f h v → or_zero id (array_place 0 arrays id) (number_of (start_by f h)) ≡ v
    by held.Nothing t = ap (λ o. or_zero id o (number_of (Some (unput_start f)))) t.1
        ∙ go (number_of (Some (unput_start f))) ∙ unput f.desc f.constant (zero_of (field_sort f.desc)) zero-is
        ∙ sym t.0
    by (held.Number z) t =
        let no : is_reference f.desc ≡ false = number-false (is_reference f.desc) z (ap (is_kind (is_reference f.desc))
        (sym t.0) ∙ kind) in
        ap (λ o. or_zero id o (number_of (Some (starts.Number z)))) t.1 ∙ go (number_of (Some (starts.Number z)))
        ∙ unless-zero z (zero_of (field_sort f.desc)) (zero-is ∙ ap (λ b. if b then Null else Num (pos 0)) no)
        ∙ sym t.0
    by held.Null t =
        let yes : is_reference f.desc ≡ true = null-true (is_reference f.desc) (ap (is_kind (is_reference f.desc))
        (sym t.0) ∙ kind) in
        ap (λ o. or_zero id o None) t.1 ∙ go None ∙ zero-is ∙ ap (λ b. if b then Null else Num (pos 0)) yes ∙ sym t.0
    by held.Array t = ap (λ o. or_zero id o None) t

-- ---- lists of cells by their names

abbrev has : List MemberId → MemberId → Bool
has [] id = false
has (g ∷ gs) id = if is_same_field g id then true else has gs id

abbrev are_apart : List MemberId → Bool
are_apart [] = true
are_apart (g ∷ gs) = if has gs g then false else are_apart gs

has-value : (xs : List FieldValue) (id : MemberId) → has (names xs) id ≡ is_some (value_in xs id)
has-value [] id = refl
has-value (x ∷ xs) id = by (is_same_field x.field id) (has-value xs id)
  where
    by : (b : Bool) → has (names xs) id ≡ is_some (value_in xs id) → (if b then true else has (names xs) id)
        ≡ is_some (if b then Some x.value else value_in xs id)
    by true rec = refl
    by false rec = rec

apart-parts : (b rest : Bool) → (if b then false else rest) ≡ true → (b ≡ false) × (rest ≡ true)
apart-parts true rest e = absurd (cc)
apart-parts false rest e = (refl, e)

some-of : (o : Option Value) → is_some o ≡ true → (v : Value) × (o ≡ Some v)
some-of None e = absurd (cc)
some-of (Some v) e = (v, refl)

abbrev cell_by : (MemberId → Value) → MemberId → FieldValue
cell_by w id = record { field = id; value = w id }

abbrev cell_with : MemberId → Value → FieldValue
cell_with g v = record { field = g; value = v }

-- what a later cell holds is found behind the first
later-cell : (w : MemberId → Value) (x : FieldValue) (xs : List FieldValue) → has (names xs) x.field ≡ false
    → ((id : MemberId) (v : Value) → value_in (x ∷ xs) id ≡ Some v → v ≡ w id) → (id : MemberId) (v : Value)
    → value_in xs id ≡ Some v → v ≡ w id
later-cell w x xs free holds id v e = by (is_same_field x.field id) refl
  where
    by : (b : Bool) → is_same_field x.field id ≡ b → v ≡ w id
    by true s = let yes : false ≡ true = sym free ∙ ap (has (names xs)) (same-field x.field id s) ∙ has-value xs id
        ∙ ap (λ o. is_some o) e in absurd (cc)
    by false s = holds id v (ap (λ b. if b then Some x.value else value_in xs id) s ∙ e)

-- where no two names are one, what each name holds makes the list
by-names : (w : MemberId → Value) (xs : List FieldValue) → are_apart (names xs) ≡ true → ((id : MemberId) (v : Value)
    → value_in xs id ≡ Some v → v ≡ w id) → xs ≡ map (cell_by w) (names xs)
by-names w [] apart holds = refl
by-names w (x ∷ xs) apart holds =
    let p = apart-parts (has (names xs) x.field) (are_apart (names xs)) apart in
    let value : x.value ≡ w x.field = holds x.field x.value (ap (λ b. if b then Some x.value else value_in xs x.field)
    (same-refl x.field)) in
    ap (λ v. cell_with x.field v ∷ xs) value
    ∙ ap (λ q. cell_by w x.field ∷ q) (by-names w xs p.1 (later-cell w x xs p.0 holds))

-- ---- the names of a package's cells

names-append : (xs ys : List FieldValue) → names (xs ++ ys) ≡ names xs ++ names ys
names-append [] ys = refl
names-append (x ∷ xs) ys = ap (λ q. x.field ∷ q) (names-append xs ys)

has-append : (xs ys : List MemberId) (id : MemberId) → has xs id ≡ false → has ys id ≡ false → has (xs ++ ys) id ≡ false
has-append [] ys id p q = q
has-append (x ∷ xs) ys id p q = by (is_same_field x id) p (λ h. has-append xs ys id h q)
  where
    by : (b : Bool) → (if b then true else has xs id) ≡ false → (has xs id ≡ false → has (xs ++ ys) id ≡ false)
        → (if b then true else has (xs ++ ys) id) ≡ false
    by true e rec = absurd (cc)
    by false e rec = rec e

apart-append : (xs ys : List MemberId) → are_apart xs ≡ true → are_apart ys ≡ true → ((id : MemberId) → has xs id ≡ true
    → has ys id ≡ false) → are_apart (xs ++ ys) ≡ true
apart-append [] ys p q differs = q
apart-append (x ∷ xs) ys p q differs =
    let parts = apart-parts (has xs x) (are_apart xs) p in
    ap (λ b. if b then false else are_apart (xs ++ ys)) (has-append xs ys x parts.0 (differs x (ap (λ b. if b then true
    else has xs x) (same-refl x))))
    ∙ apart-append xs ys parts.1 q (λ id h. differs id (by (is_same_field x id) (has xs id) h))
  where
    by : (b h : Bool) → h ≡ true → (if b then true else h) ≡ true
    by true h e = refl
    by false h e = e

-- none of these cells has the name
free-of : (xs : List FieldValue) (id : MemberId) → ((v : Value) → value_in xs id ≡ Some v → ⊥)
    → has (names xs) id ≡ false
free-of xs id none = has-value xs id ∙ by (value_in xs id) refl
  where
    by : (o : Option Value) → value_in xs id ≡ o → is_some o ≡ false
    by None e = refl
    by (Some v) e = absurd (none v e)

apart-in : (class : List ℕ) (fs : List FieldTree) → ((j k : ℕ) (f g : FieldTree) → slice_get fs j ≡ Some f
    → slice_get fs k ≡ Some g → field_id class f ≡ field_id class g → j ≡ k) → are_apart (names (first_in class fs))
    ≡ true
apart-in class [] one = refl
apart-in class (f ∷ fs) one =
    by (is_cell f) (apart-in class fs (λ j k g h p q is. (let z : suc j ≡ suc k = one (suc j) (suc k) g h p q is
    in cc)))
  where
    free : has (names (first_in class fs)) (field_id class f) ≡ false
    free = free-of (first_in class fs) (field_id class f) (λ v e. (let r = of-class class fs (field_id class f) v e
        in let z : suc r.0 ≡ 0 = one (suc r.0) 0 r.1 f r.2 refl r.4 in omega arith))

    by : (b : Bool) → are_apart (names (first_in class fs)) ≡ true
        → are_apart (names (if b then record { field = field_id class f; value = first_value f } ∷ first_in class fs
        else first_in class fs)) ≡ true
    by true rec = ap (λ b. if b then false else are_apart (names (first_in class fs))) free ∙ rec
    by false rec = rec

apart-classes : (cs : List ClassTree) → ((n k : ℕ) (c d : ClassTree) → slice_get cs n ≡ Some c → slice_get cs k ≡ Some d
    → c.name ≡ d.name → n ≡ k)
    → ((n j k : ℕ) (c : ClassTree) (f g : FieldTree) → slice_get cs n ≡ Some c → slice_get c.fields j ≡ Some f
    → slice_get c.fields k ≡ Some g → field_id c.name f ≡ field_id c.name g → j ≡ k)
    → are_apart (names (first_cells cs)) ≡ true
apart-classes [] one own = refl
apart-classes (c ∷ cs) one own =
    ap are_apart (names-append (first_in c.name c.fields) (first_cells cs))
    ∙ apart-append (names (first_in c.name c.fields)) (names (first_cells cs)) (apart-in c.name c.fields
    (λ j k f g. own 0 j k c f g refl))
    (apart-classes cs (λ n k d e p q is. (let z : suc n ≡ suc k = one (suc n) (suc k) d e p q is in cc))
    (λ n j k d f g at. own (suc n) j k d f g at))
    (λ id h. free-of (first_cells cs) id (λ v e. differs id v h e))
  where
    differs : (id : MemberId) (v : Value) → has (names (first_in c.name c.fields)) id ≡ true
        → value_in (first_cells cs) id ≡ Some v → ⊥
    differs id v h e =
        let a = some-of (value_in (first_in c.name c.fields) id) (sym (has-value (first_in c.name c.fields) id) ∙ h) in
        let p = of-class c.name c.fields id a.0 a.1 in
        let q = of-classes cs id v e in
        let z : 0 ≡ suc q.0 = one 0 (suc q.0) c q.1 refl q.4 (ap (λ (i : MemberId). i.class) (p.4 ∙ sym q.7)) in
        omega arith

-- ---- the cells of the image

abbrev value_by_image : StaticImage → MemberId → Value
value_by_image image id = or_zero id (array_place 0 image.arrays id) (number_place image.others id)

cells-class : (image : StaticImage) (class : List ℕ) (fs : List FieldTree)
    → map (cell_of image) (names (first_in class fs)) ≡ cells_in image class fs
cells-class image class [] = refl
cells-class image class (f ∷ fs) = by (is_cell f) (cells-class image class fs)
  where
    by : (b : Bool) → map (cell_of image) (names (first_in class fs)) ≡ cells_in image class fs
        → map (cell_of image) (names (if b then record { field = field_id class f; value = first_value f }
        ∷ first_in class fs else first_in class fs)) ≡ (if b then cell_of image (field_id class f)
        ∷ cells_in image class fs else cells_in image class fs)
    by true rec = ap (λ q. cell_of image (field_id class f) ∷ q) rec
    by false rec = rec

cells-classes : (image : StaticImage) (cs : List ClassTree) → map (cell_of image) (names (first_cells cs))
    ≡ cells image cs
cells-classes image [] = refl
cells-classes image (c ∷ cs) =
    ap (map (cell_of image)) (names-append (first_in c.name c.fields) (first_cells cs))
    ∙ map_append (cell_of image) (names (first_in c.name c.fields)) (names (first_cells cs))
    ∙ ap (λ q. q ++ map (cell_of image) (names (first_cells cs))) (cells-class image c.name c.fields)
    ∙ ap (λ q. cells_in image c.name c.fields ++ q) (cells-classes image cs)

there-of : {A B : Type 0} (xs : List A) (ys : List B) (k : ℕ) (x : A) → slice_get xs k ≡ Some x → length ys ≡ length xs
    → (y : B) × (slice_get ys k ≡ Some y)
there-of [] ys k x e is = absurd (cc)
there-of (x ∷ xs) [] k y e is = absurd (cc)
there-of (x ∷ xs) (z ∷ ys) zero y e is = (z, refl)
there-of (x ∷ xs) (z ∷ ys) (suc k) y e is = there-of xs ys k y e (let q : length ys ≡ length xs = cc in q)

module _ (files : Files) (arrays : List ArrayCell) (fields : List (List Held)) (typed : HaveTypes files)
    (apart : AreApart files) (told : (n : ℕ) (c : ClassTree) → slice_get files.classes n ≡ Some c → (held : List Held)
    × (slice_get fields n ≡ Some held) × (length held ≡ length c.fields)) where
  image-number : (n k : ℕ) (c : ClassTree) (f : FieldTree) (held : List Held) (h : Held) → slice_get files.classes n
      ≡ Some c → slice_get c.fields k ≡ Some f → slice_get fields n ≡ Some held → slice_get held k ≡ Some h
      → number_place (let i = image_of files.classes arrays fields in i.others) (field_id c.name f)
      ≡ number_of (start_of f h)
  image-number n k c f held h at there p q =
      classes-place fields 0 files.classes n c k f at (λ i d e is. apart.classes i n d c e at is) there
      (λ i g e is. apart.fields n i k c g f at e there is)
      ∙ ap (λ x. number_of (start_of f (put_at fields x k))) (none-before n)
      ∙ ap (λ o. number_of (start_of f (held_in (slice_get (fields_in o) k)))) p
      ∙ ap (λ o. number_of (start_of f (held_in o))) q

  one-cell : (statics : List FieldValue) → AllHold files fields arrays statics → AllHaveCells files statics
      → names statics ≡ names (first_cells files.classes) → (id : MemberId) (v : Value) → value_in statics id ≡ Some v
      → v ≡ value_by_image (image_of files.classes arrays fields) id
  one-cell statics hold kinds named id v e =
      let yes : is_some (value_in (first_cells files.classes) id) ≡ true =
      sym (has-value (first_cells files.classes) id) ∙ ap (λ q. has q id) (sym named) ∙ has-value statics id
      ∙ ap (λ o. is_some o) e in
      let old = some-of (value_in (first_cells files.classes) id) yes in
      let r = of-classes files.classes id old.0 old.1 in
      let c = r.1 in
      let f = r.3 in
      let t = told r.0 c r.4 in
      let h = there-of c.fields t.0 r.2 f r.5 t.2 in
      let own = hold r.0 c t.0 r.4 t.1 r.2 f h.0 r.5 r.6 h.1 in
      let kind = kinds r.0 c r.4 r.2 f r.5 r.6 in
      let some : Some own.0 ≡ Some v = sym own.1 ∙ ap (value_in statics) r.7 ∙ e in
      let same : own.0 ≡ v = cc in
      let kind-some : Some kind.0 ≡ Some own.0 = sym kind.1 ∙ own.1 in
      let kind-same : kind.0 ≡ own.0 = cc in
      let i = image_of files.classes arrays fields in
      let value : or_zero (field_id c.name f) (array_place 0 arrays (field_id c.name f)) (number_of (start_of f h.0))
      ≡ own.0 = value-of arrays (field_id c.name f) f h.0 own.0 r.6 (typed r.0 r.2 c f r.4 r.5 r.6) refl
      (ap (is_kind (is_reference f.desc)) (sym kind-same) ∙ kind.2) own.2 in
      let number = image-number r.0 r.2 c f t.0 h.0 r.4 r.5 t.1 h.1 in
      sym same ∙ sym value ∙ ap (λ o. or_zero (field_id c.name f) (array_place 0 arrays (field_id c.name f)) o)
      (sym number)
      ∙ ap (λ q. or_zero (field_id c.name f) (array_place 0 q (field_id c.name f)) (number_place i.others
      (field_id c.name f))) (sym (image-arrays files.classes arrays fields)) ∙ ap (value_by_image i) r.7

  pub same-cells : (statics : List FieldValue) → AllHold files fields arrays statics → AllHaveCells files statics
      → names statics ≡ names (first_cells files.classes) → statics ≡ cells (image_of files.classes arrays fields)
      files.classes
  same-cells statics hold kinds named =
      let i = image_of files.classes arrays fields in
      by-names (value_by_image i) statics (ap are_apart named ∙ apart-classes files.classes apart.classes apart.fields)
      (one-cell statics hold kinds named)
      ∙ ap (map (cell_of i)) named ∙ cells-classes i files.classes

pub image-reached : (files : Files) (image : StaticImage) (codes : List MethodCode) → HaveTypes files
    → HaveRoom files codes → StandOnce files codes → AreApart files → IsImage files codes image
    → (later : Store) × AllReturn files (linked files image) (first_store files.classes) codes later
    × (later.heap ≡ map static_array image.arrays) × (later.statics ≡ cells image files.classes)
image-reached files image codes typed roomy once apart is =
    let r = values-held files image apart codes is.arrays is.fields typed roomy once is.initialises in
    let end = r.0 in (
      r.0,
      r.1,
      r.2 ∙ ap (map static_array) (sym (ap (λ (i : StaticImage). i.arrays) is.is ∙ image-arrays files.classes is.arrays
          is.fields)),
      same-cells files is.arrays is.fields typed apart (fields-told files codes is.arrays is.fields is.initialises)
          end.statics r.3 r.4 r.5 ∙ ap (λ i. cells i files.classes) (sym is.is),
    )
