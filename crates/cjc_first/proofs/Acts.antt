-- The acts of a script do the same on both machines.
use Rattle.std.proofs.Common.{◌≡◌, ℕ, zero, suc, refl, sym, ap, subst, ◌∙◌, arith, Bool, true, false, List, [], ◌∷◌, ◌++◌, length, replicate, ℤ, pos, negsuc}
use Rattle.std.specs.Prelude.{Option, Some, None, slice_get, slice_set, nat_lt, nat_le, ◌==◌, ◌&&◌, if◌then◌else◌, map, option_map, is_some}
use Rattle.std.proofs.lemmas.Bool.Decides.{nat_tests}
use Rattle.cjc_capread.specs.declared.tree.ClassRef.{ClassRef}
use Rattle.cjc_first.specs.TokenMachine.Cells.{Cell, Element, Booleans, Bytes, Shorts, Ints, Thing, Numbers, References, Object as CardObject}
use Rattle.cjc_first.specs.TokenMachine.Cells
use Rattle.cjc_first.specs.TokenMachine.Naming.{Loaded}
use Rattle.cjc_first.specs.TokenMachine.ByToken.{named_heap, named_thing, named_fields, value_of, cell_of, array_name, array_with, array_of_class, object_of, sort_with, with_item, written}
use Rattle.cjc_first.specs.TokenMachine.ByToken
use Rattle.cjc_first.specs.NameMachine.Linked.{Linked}
use Rattle.cjc_first.specs.NameMachine.ByName.{element, has_type, zero_of}
use Rattle.cjc_first.specs.NameMachine.ByName
use Rattle.cjc_script.specs.declared.value.Value.{Value}
use Rattle.cjc_script.specs.declared.value.Value.TheVariants.{Num, Null, Obj}
use Rattle.cjc_script.specs.declared.report.Thing.{Thing as ReportThing}
use Rattle.cjc_script.specs.declared.report.Thing.TheVariants.{Array, Object}
use Rattle.cjc_script.specs.declared.script.Act.{Act}
use Rattle.cjc_script.specs.declared.script.Act.TheVariants as acts
use Rattle.cjc_first.specs.Scripts.Types.{Sort, Boolean, Byte, Short, Int, Reference, NoValue, element_of, base, closed_name, class_type, put_first}
use Rattle.cjc_first.specs.Scripts.Fits.{fits}

-- ---- lists

map-replicate : {A B : Type 0} (f : A → B) (n : ℕ) (x : A) → map f (replicate n x) ≡ replicate n (f x)
map-replicate f zero x = refl
map-replicate f (suc n) x = ap (λ l. f x ∷ l) (map-replicate f n x)

map-append : {A B : Type 0} (f : A → B) (xs : List A) (y : A) → map f (xs ++ y ∷ []) ≡ map f xs ++ f y ∷ []
map-append f [] y = refl
map-append f (x ∷ xs) y = ap (λ l. f x ∷ l) (map-append f xs y)

pub slice_get-map : {A B : Type 0} (f : A → B) (xs : List A) (k : ℕ) → slice_get (map f xs) k ≡ option_map f (slice_get xs k)
slice_get-map f [] zero = refl
slice_get-map f [] (suc k) = refl
slice_get-map f (x ∷ xs) zero = refl
slice_get-map f (x ∷ xs) (suc k) = slice_get-map f xs k

map-slice_set : {A B : Type 0} (f : A → B) (xs : List A) (k : ℕ) (y : A) → map f (slice_set xs k y) ≡ slice_set (map f xs) k (f y)
map-slice_set f [] zero y = refl
map-slice_set f [] (suc k) y = refl
map-slice_set f (x ∷ xs) zero y = refl
map-slice_set f (x ∷ xs) (suc k) y = ap (λ l. f x ∷ l) (map-slice_set f xs k y)

length-map : {A B : Type 0} (f : A → B) (xs : List A) → length (map f xs) ≡ length xs
length-map f [] = refl
length-map f (x ∷ xs) = ap suc (length-map f xs)

-- ---- descriptors of arrays

pub equal_true : (a b : ℕ) → (a == b) ≡ true → a ≡ b
equal_true a b e = grind (arith, nat_tests)

-- an array's descriptor and the type of its elements
data IsArray : Sort → List ℕ → Type 0 where
  no_array : {desc : List ℕ} → IsArray NoValue desc
  booleans : IsArray Boolean (91 ∷ 90 ∷ [])
  some_bytes : IsArray Byte (91 ∷ 66 ∷ [])
  some_shorts : IsArray Short (91 ∷ 83 ∷ [])
  some_ints : IsArray Int (91 ∷ 73 ∷ [])
  refs : (name : List ℕ) → IsArray (Reference name) (91 ∷ 76 ∷ (name ++ 59 ∷ []))

closed_is : (xs name : List ℕ) → closed_name xs ≡ Some name → xs ≡ name ++ 59 ∷ []
closed_is [] name e = cc
closed_is (c ∷ []) name e = by (c == 59) refl e
  where
    by : (t : Bool) → (c == 59) ≡ t → (if t then Some [] else None) ≡ Some name → c ∷ [] ≡ name ++ 59 ∷ []
    by true h e = let is : c ≡ 59 = equal_true c 59 h in let none : [] ≡ name = cc in ap (λ d. d ∷ []) is ∙ ap (λ n. n ++ 59 ∷ []) none
    by false h e = cc
closed_is (c ∷ d ∷ xs) name e = by (λ n. closed_is (d ∷ xs) n) (closed_name (d ∷ xs)) refl e
  where
    by : ((n : List ℕ) → closed_name (d ∷ xs) ≡ Some n → d ∷ xs ≡ n ++ 59 ∷ []) → (o : Option (List ℕ)) → closed_name (d ∷ xs) ≡ o → put_first c o ≡ Some name → c ∷ d ∷ xs ≡ name ++ 59 ∷ []
    by again None h e = cc
    by again (Some n) h e = let whole : c ∷ n ≡ name = cc in ap (λ l. c ∷ l) (again n h) ∙ ap (λ l. l ++ 59 ∷ []) whole

closed_again : (name : List ℕ) → closed_name (name ++ 59 ∷ []) ≡ Some name
closed_again [] = refl
closed_again (c ∷ []) = refl
closed_again (c ∷ d ∷ name) = ap (put_first c) (closed_again (d ∷ name))

element_again : (name : List ℕ) → element (91 ∷ 76 ∷ (name ++ 59 ∷ [])) ≡ Reference name
element_again [] = refl
element_again (c ∷ name) = ap class_type (closed_again (c ∷ name))

is_base : (d : ℕ) → IsArray (base d) (91 ∷ d ∷ [])
is_base d = b (d == 66) refl (d == 73) refl (d == 83) refl (d == 90) refl
  where
    b : (t : Bool) → (d == 66) ≡ t → (u : Bool) → (d == 73) ≡ u → (v : Bool) → (d == 83) ≡ v → (w : Bool) → (d == 90) ≡ w → IsArray (if t then Byte else (if u then Int else (if v then Short else (if w then Boolean else NoValue)))) (91 ∷ d ∷ [])
    b true e u _ v _ w _ = subst (λ x. IsArray Byte (91 ∷ x ∷ [])) (sym (equal_true d 66 e)) some_bytes
    b false _ true e v _ w _ = subst (λ x. IsArray Int (91 ∷ x ∷ [])) (sym (equal_true d 73 e)) some_ints
    b false _ false _ true e w _ = subst (λ x. IsArray Short (91 ∷ x ∷ [])) (sym (equal_true d 83 e)) some_shorts
    b false _ false _ false _ true e = subst (λ x. IsArray Boolean (91 ∷ x ∷ [])) (sym (equal_true d 90 e)) booleans
    b false _ false _ false _ false _ = no_array

is_element : (name : List ℕ) → IsArray (element_of name) (91 ∷ name)
is_element [] = no_array
is_element (d ∷ []) = is_base d
is_element (d ∷ e ∷ rest) = by (d == 76) refl
  where
    named : (o : Option (List ℕ)) → closed_name (e ∷ rest) ≡ o → IsArray (class_type o) (91 ∷ 76 ∷ e ∷ rest)
    named None h = no_array
    named (Some n) h = subst (λ l. IsArray (Reference n) (91 ∷ 76 ∷ l)) (sym (closed_is (e ∷ rest) n h)) (refs n)

    by : (t : Bool) → (d == 76) ≡ t → IsArray (if t then class_type (closed_name (e ∷ rest)) else NoValue) (91 ∷ d ∷ e ∷ rest)
    by true h = subst (λ x. IsArray (class_type (closed_name (e ∷ rest))) (91 ∷ x ∷ e ∷ rest)) (sym (equal_true d 76 h)) (named (closed_name (e ∷ rest)) refl)
    by false h = no_array

is_array_of : (desc : List ℕ) → IsArray (element desc) desc
is_array_of [] = no_array
is_array_of (c ∷ name) = by (c == 91) refl
  where
    by : (t : Bool) → (c == 91) ≡ t → IsArray (if t then element_of name else NoValue) (c ∷ name)
    by true h = subst (λ x. IsArray (element_of name) (x ∷ name)) (sym (equal_true c 91 h)) (is_element name)
    by false h = no_array

-- ---- acts

abbrev nothing_or : Bool → Option (List ReportThing) → Option (List ReportThing)
nothing_or t o = if t then o else None

value_again : (v : Value) → value_of (cell_of v) ≡ v
value_again (Num z) = refl
value_again Null = refl
value_again (Obj k) = refl

-- two machines that know the same classes
pub record KnowAlike (l : Linked) (c : Loaded) : Type 0 where
  pub named : (name : List ℕ) (r : ClassRef) → c.class_of name ≡ Some r → c.name_of r ≡ name
  pub is_there : (name : List ℕ) → l.is_there name ≡ is_some (c.class_of name)
  pub subtype : l.subtype ≡ c.subtype
  pub is_imported : (name : List ℕ) → l.is_imported name ≡ c.is_imported name
  pub is_known : (name : List ℕ) → c.is_imported name ≡ true → is_some (c.class_of name) ≡ true
  pub no_fields : (r : ClassRef) → c.naming.fields r ≡ []

module _ (l : Linked) (c : Loaded) (know : KnowAlike l c) where
  numbers_alike : (e : Element) (n : ℕ) (t : Bool) (desc : List ℕ) → array_name e ≡ desc → (if t then Some (Array desc (replicate n (Num (pos 0)))) else None) ≡ option_map (named_thing c) (if t then Some (Numbers e (replicate n (pos 0))) else None)
  numbers_alike e n true desc is = ap (λ d. Some (Array d (replicate n (Num (pos 0))))) (sym is) ∙ ap (λ l. Some (Array (array_name e) l)) (sym (map-replicate (λ z. Num z) n (pos 0)))
  numbers_alike e n false desc is = refl

  refs_alike : (name : List ℕ) (n : ℕ) (t : Bool) (o : Option ClassRef) → c.class_of name ≡ o → (if is_some o && t then Some (Array (91 ∷ 76 ∷ (name ++ 59 ∷ [])) (replicate n Null)) else None) ≡ option_map (named_thing c) (if t then array_of_class o n else None)
  refs_alike name n true None is = refl
  refs_alike name n false None is = refl
  refs_alike name n true (Some r) is = ap (λ x. Some (Array (91 ∷ 76 ∷ (x ++ 59 ∷ [])) (replicate n Null))) (sym (know.named name r is)) ∙ ap (λ l. Some (Array (91 ∷ 76 ∷ (c.name_of r ++ 59 ∷ [])) l)) (sym (map-replicate value_of n Cells.Null))
  refs_alike name n false (Some r) is = refl

  array_alike : (s : Sort) (desc : List ℕ) → IsArray s desc → (n : ℕ) (t : Bool) → (if has_type l s && t then Some (Array desc (replicate n (zero_of s))) else None) ≡ option_map (named_thing c) (if t then array_with c s n else None)
  array_alike _ desc no_array n true = refl
  array_alike _ desc no_array n false = refl
  array_alike _ _ booleans n t = numbers_alike Booleans n t _ refl
  array_alike _ _ some_bytes n t = numbers_alike Bytes n t _ refl
  array_alike _ _ some_shorts n t = numbers_alike Shorts n t _ refl
  array_alike _ _ some_ints n t = numbers_alike Ints n t _ refl
  array_alike _ _ (refs name) n t =
      ap (λ b. if b && t then Some (Array (91 ∷ 76 ∷ (name ++ 59 ∷ [])) (replicate n Null)) else None) (know.is_there name)
      ∙ refs_alike name n t (c.class_of name) refl

  grown_alike : (heap : List Thing) (o : Option Thing) → ByName.grown (named_heap c heap) (option_map (named_thing c) o) ≡ option_map (named_heap c) (ByToken.grown heap o)
  grown_alike heap None = refl
  grown_alike heap (Some thing) = ap Some (sym (map-append (named_thing c) heap thing))

  object_alike : (class : List ℕ) (t : Bool) → c.is_imported class ≡ t → (o : Option ClassRef) → c.class_of class ≡ o → (if t then Some (Object class []) else None) ≡ option_map (named_thing c) (if t then object_of o else None)
  object_alike class false e o is = refl
  object_alike class true e None is = let h : is_some (c.class_of class) ≡ true = know.is_known class e in let g : is_some {T = ClassRef} None ≡ true = ap is_some (sym is) ∙ h in cc
  object_alike class true e (Some r) is = ap (λ n. Some (Object n [])) (sym (know.named class r is)) ∙ ap (λ fs. Some (Object (c.name_of r) (named_fields fs []))) (sym (know.no_fields r))

  and_none : {A : Type 0} (t : Bool) (a : A) → (if t && false then Some a else None) ≡ None
  and_none true a = refl
  and_none false a = refl

  -- an element is written on both heaps
  number_put : (heap : List Thing) (k : ℕ) (e : Element) (items : List ℤ) (i : ℕ) (z : ℤ) (b t : Bool) → (if b && t then Some (slice_set (named_heap c heap) k (Array (array_name e) (slice_set (map (λ z. Num z) items) i (Num z)))) else None) ≡ option_map (named_heap c) (if t then written heap k (if b then Some (Numbers e (slice_set items i z)) else None) else None)
  number_put heap k e items i z true true =
      ap (λ l. Some (slice_set (named_heap c heap) k (Array (array_name e) l))) (sym (map-slice_set (λ z. Num z) items i z))
      ∙ ap Some (sym (map-slice_set (named_thing c) heap k (Numbers e (slice_set items i z))))
  number_put heap k e items i z true false = refl
  number_put heap k e items i z false true = refl
  number_put heap k e items i z false false = refl

  ref_put : (heap : List Thing) (k : ℕ) (r : ClassRef) (items : List Cell) (i : ℕ) (v : Value) (b t : Bool) → (if b && t then Some (slice_set (named_heap c heap) k (Array (91 ∷ 76 ∷ (c.name_of r ++ 59 ∷ [])) (slice_set (map value_of items) i v))) else None) ≡ option_map (named_heap c) (if t then written heap k (if b then Some (References r (slice_set items i (cell_of v))) else None) else None)
  ref_put heap k r items i v true true =
      ap (λ w. Some (slice_set (named_heap c heap) k (Array (91 ∷ 76 ∷ (c.name_of r ++ 59 ∷ [])) (slice_set (map value_of items) i w)))) (sym (value_again v))
      ∙ ap (λ l. Some (slice_set (named_heap c heap) k (Array (91 ∷ 76 ∷ (c.name_of r ++ 59 ∷ [])) l))) (sym (map-slice_set value_of items i (cell_of v)))
      ∙ ap Some (sym (map-slice_set (named_thing c) heap k (References r (slice_set items i (cell_of v)))))
  ref_put heap k r items i v true false = refl
  ref_put heap k r items i v false true = refl
  ref_put heap k r items i v false false = refl

  abbrev sort_name : Element → Sort
  sort_name Booleans = Boolean
  sort_name Bytes = Byte
  sort_name Shorts = Short
  sort_name Ints = Int

  put_numbers : (heap : List Thing) (k : ℕ) (e : Element) (s : Sort) → s ≡ sort_name e → (items : List ℤ) (i : ℕ) (v : Value) → (if nat_lt i (length (map (λ z. Num z) items)) && fits c.subtype (named_heap c heap) s v then Some (slice_set (named_heap c heap) k (Array (array_name e) (slice_set (map (λ z. Num z) items) i v))) else None) ≡ option_map (named_heap c) (if fits c.subtype (named_heap c heap) s v then written heap k (with_item (Numbers e items) i v) else None)
  put_numbers heap k e s is items i (Num z) =
      ap (λ n. if nat_lt i n && fits c.subtype (named_heap c heap) s (Num z) then Some (slice_set (named_heap c heap) k (Array (array_name e) (slice_set (map (λ z. Num z) items) i (Num z)))) else None) (length-map (λ z. Num z) items)
      ∙ number_put heap k e items i z (nat_lt i (length items)) (fits c.subtype (named_heap c heap) s (Num z))
  put_numbers heap k e s is items i Null = by e s is
    where
      by : (e : Element) (s : Sort) → s ≡ sort_name e → (if nat_lt i (length (map (λ z. Num z) items)) && fits c.subtype (named_heap c heap) s Null then Some (slice_set (named_heap c heap) k (Array (array_name e) (slice_set (map (λ z. Num z) items) i Null))) else None) ≡ option_map (named_heap c) (if fits c.subtype (named_heap c heap) s Null then written heap k (with_item (Numbers e items) i Null) else None)
      by e Boolean is = and_none _ _
      by e Byte is = and_none _ _
      by e Short is = and_none _ _
      by e Int is = and_none _ _
      by e NoValue is = and_none _ _
      by Booleans (Reference n) is = cc
      by Bytes (Reference n) is = cc
      by Shorts (Reference n) is = cc
      by Ints (Reference n) is = cc
  put_numbers heap k e s is items i (Obj o) = by e s is
    where
      by : (e : Element) (s : Sort) → s ≡ sort_name e → (if nat_lt i (length (map (λ z. Num z) items)) && fits c.subtype (named_heap c heap) s (Obj o) then Some (slice_set (named_heap c heap) k (Array (array_name e) (slice_set (map (λ z. Num z) items) i (Obj o)))) else None) ≡ option_map (named_heap c) (if fits c.subtype (named_heap c heap) s (Obj o) then written heap k (with_item (Numbers e items) i (Obj o)) else None)
      by e Boolean is = and_none _ _
      by e Byte is = and_none _ _
      by e Short is = and_none _ _
      by e Int is = and_none _ _
      by e NoValue is = and_none _ _
      by Booleans (Reference n) is = cc
      by Bytes (Reference n) is = cc
      by Shorts (Reference n) is = cc
      by Ints (Reference n) is = cc

  put_alike : (heap : List Thing) (k : ℕ) (o : Option Thing) (i : ℤ) (v : Value) → ByName.put_in l (named_heap c heap) k (option_map (named_thing c) o) i v ≡ option_map (named_heap c) (ByToken.put_in c heap k o i v)
  put_alike heap k None i v = refl
  put_alike heap k (Some (Numbers e items)) (negsuc i) v = refl
  put_alike heap k (Some (References r items)) (negsuc i) v = refl
  put_alike heap k (Some (CardObject r slots)) (negsuc i) v = refl
  put_alike heap k (Some (CardObject r slots)) (pos i) (Num z) = refl
  put_alike heap k (Some (CardObject r slots)) (pos i) Null = refl
  put_alike heap k (Some (CardObject r slots)) (pos i) (Obj o) = refl
  put_alike heap k (Some (References r items)) (pos i) v =
      ap (λ f. ByName.put_in (record l { subtype = f }) (named_heap c heap) k (Some (named_thing c (References r items))) (pos i) v) know.subtype
      ∙ ap (λ s. if nat_lt i (length (map value_of items)) && fits c.subtype (named_heap c heap) s v then Some (slice_set (named_heap c heap) k (Array (91 ∷ 76 ∷ (c.name_of r ++ 59 ∷ [])) (slice_set (map value_of items) i v))) else None) (element_again (c.name_of r))
      ∙ ap (λ n. if nat_lt i n && fits c.subtype (named_heap c heap) (Reference (c.name_of r)) v then Some (slice_set (named_heap c heap) k (Array (91 ∷ 76 ∷ (c.name_of r ++ 59 ∷ [])) (slice_set (map value_of items) i v))) else None) (length-map value_of items)
      ∙ ref_put heap k r items i v (nat_lt i (length items)) (fits c.subtype (named_heap c heap) (Reference (c.name_of r)) v)
  put_alike heap k (Some (Numbers e items)) (pos i) v =
      ap (λ f. ByName.put_in (record l { subtype = f }) (named_heap c heap) k (Some (named_thing c (Numbers e items))) (pos i) v) know.subtype ∙ by e
    where
      by : (e : Element) → ByName.put_in (record l { subtype = c.subtype }) (named_heap c heap) k (Some (named_thing c (Numbers e items))) (pos i) v ≡ option_map (named_heap c) (ByToken.put_in c heap k (Some (Numbers e items)) (pos i) v)
      by Booleans = put_numbers heap k Booleans Boolean refl items i v
      by Bytes = put_numbers heap k Bytes Byte refl items i v
      by Shorts = put_numbers heap k Shorts Short refl items i v
      by Ints = put_numbers heap k Ints Int refl items i v

  acted_alike : (a : Act) (heap : List Thing) → ByName.acted l a (named_heap c heap) ≡ option_map (named_heap c) (ByToken.acted c a heap)
  acted_alike (acts.Array desc (negsuc n)) heap = refl
  acted_alike (acts.Array desc (pos n)) heap =
      ap (ByName.grown (named_heap c heap)) (array_alike (element desc) desc (is_array_of desc) n (nat_le n 32767))
      ∙ grown_alike heap (if nat_le n 32767 then array_with c (element desc) n else None)
  acted_alike (acts.Object class) heap =
      ap (λ t. ByName.grown (named_heap c heap) (if t then Some (Object class []) else None)) (know.is_imported class)
      ∙ ap (ByName.grown (named_heap c heap)) (object_alike class (c.is_imported class) refl (c.class_of class) refl)
      ∙ grown_alike heap (if c.is_imported class then object_of (c.class_of class) else None)
  acted_alike (acts.Put k i v) heap =
      ap (λ o. ByName.put_in l (named_heap c heap) k o i v) (slice_get-map (named_thing c) heap k)
      ∙ put_alike heap k (slice_get heap k) i v

  pub prepared_alike : (acts : List Act) (heap : List Thing) → ByName.prepared l acts (named_heap c heap) ≡ record { heap = named_heap c (ByToken.prepared c acts heap).heap; fit = (ByToken.prepared c acts heap).fit }
  prepared_alike [] heap = refl
  prepared_alike (a ∷ acts) heap =
      ap (λ o. ByName.prepared_by o (named_heap c heap) (λ h. ByName.prepared l acts h)) (acted_alike a heap) ∙ by (λ h. prepared_alike acts h) (ByToken.acted c a heap)
    where
      by : ((h : List Thing) → ByName.prepared l acts (named_heap c h) ≡ record { heap = named_heap c (ByToken.prepared c acts h).heap; fit = (ByToken.prepared c acts h).fit }) → (o : Option (List Thing)) → ByName.prepared_by (option_map (named_heap c) o) (named_heap c heap) (λ h. ByName.prepared l acts h) ≡ record { heap = named_heap c (ByToken.prepared_by o heap (λ h. ByToken.prepared c acts h)).heap; fit = (ByToken.prepared_by o heap (λ h. ByToken.prepared c acts h)).fit }
      by again None = refl
      by again (Some h) = again h
