-- An act of a script does the same to heaps that agree.
use Rattle.std.proofs.Common.{◌≡◌, ℕ, ◌≤◌, refl, sym, ap, subst, ◌∙◌, arith, Bool, true, false, ◌&&◌, List, [], ◌∷◌}
use Rattle.std.proofs.Common.{◌++◌, map, length, replicate, Option, Some, None, option_map, nat_le, nat_lt, All, ℤ, pos}
use Rattle.std.proofs.Common.{negsuc}
use Rattle.std.specs.Prelude.{slice_get, slice_set, option_and_then, if◌then◌else◌}
use Rattle.std.proofs.lemmas.Bool.Decides.{nat_tests}
use Rattle.cjc_bytes.specs.declared.fault.MemberId.{MemberId}
use Rattle.cjc_bytes.specs.Spots.{desc_of, bad_at, after}
use Rattle.cjc_bytes.proofs.Gets.{set_length, map_set}
use Rattle.cjc_bytes.proofs.Lists.{length_mapped}
use Rattle.cjc_range.specs.Span.{Holds}
use Rattle.cjc_script.specs.declared.value.Value.{Value}
use Rattle.cjc_script.specs.declared.value.Value.TheVariants.{Num, Null, Obj}
use Rattle.cjc_script.specs.declared.script.Act.TheVariants as acts
use Rattle.cjc_script.specs.declared.report.Thing.{Thing}
use Rattle.cjc_script.specs.declared.report.Thing.TheVariants as things
use Rattle.cjc_script.specs.Sorts.{Element, Booleans, Bytes, Shorts, Ints, Shape, OfClass, OfNumbers, OfReferences}
use Rattle.cjc_script.specs.Sorts.{Reference, array_name, shape_name, shape_named, zero_of, element_sort, fits}
use Rattle.cjc_card_semantics.specs.Bytecode.Effects.{HeapObject, Numbers, References, Object, shape}
use Rattle.cjc_card_semantics.specs.Bytecode.Machine as narrow
use Rattle.cjc_card_semantics.specs.Bytecode.Renaming.{option_as}
use Rattle.cjc_card_semantics.proofs.BytecodeLaws.Natural.{get_map, map_last}
use Rattle.cjc_ncode.specs.ByLabel.{Named, by_label}
use Rattle.cjc_jvm_semantics.specs.Linked.{Linked}
use Rattle.cjc_jvm_semantics.specs.Machine.{object_fits, is_of, item_sort, array_with, item_put, put_in, heap_after_act}
use Rattle.cjc_narrow_proof.specs.Selection.Relation.{Heap, CellFits, a_null, an_object, no_slots, bare, HasArrays}
use Rattle.cjc_narrow_proof.specs.Selection.Relation.{element_range, ThingFits, numbers, references, of_class, HeapFits}
use Rattle.cjc_narrow_proof.specs.Selection.Relation.{shown}
use Rattle.cjc_narrow_proof.specs.Selection.Acts.{SameHeaps, unfit, changed, ActsAlike, ActsAreTold}
use Rattle.cjc_narrow_proof.proofs.SelectionLaws.Begins.{type_shown}
use Rattle.cjc_narrow_proof.proofs.SelectionLaws.Items.{all_with}
use Rattle.cjc_narrow_proof.proofs.SelectionLaws.Keeps.{grown_keeps, grown_fits, set_keeps, set_fits}
use Rattle.cjc_narrow_proof.proofs.SelectionLaws.News.{zeros_shown, all_same, zero_held, few_of}
use Rattle.cjc_narrow_proof.proofs.SelectionLaws.Replies.{held_if}

-- numbers fit alike, whatever objects are
number_fits : (one other : ℕ → Shape (List ℕ) → Bool) (e : Element) (z : ℤ) → fits one (element_sort e) (Num z)
    ≡ fits other (element_sort e) (Num z)
number_fits one other Booleans z = refl
number_fits one other Bytes z = refl
number_fits one other Shorts z = refl
number_fits one other Ints z = refl

no_reference_fits : (one : ℕ → Shape (List ℕ) → Bool) (e : Element) → (fits one (element_sort e) Null ≡ false)
    × ((k : ℕ) → fits one (element_sort e) (Obj k) ≡ false)
no_reference_fits one Booleans = (refl, λ k. refl)
no_reference_fits one Bytes = (refl, λ k. refl)
no_reference_fits one Shorts = (refl, λ k. refl)
no_reference_fits one Ints = (refl, λ k. refl)

number_held : (one : ℕ → Shape (List ℕ) → Bool) (e : Element) (z : ℤ) → fits one (element_sort e) (Num z) ≡ true
    → Holds (element_range e) z
number_held one Booleans z e = held_if (pos 0) (pos 1) z e
number_held one Bytes z e = held_if (negsuc 127) (pos 127) z e
number_held one Shorts z e = held_if (negsuc 32767) (pos 32767) z e
number_held one Ints z e = held_if (negsuc 2147483647) (pos 2147483647) z e

zero_is : (e : Element) → zero_of (element_sort e) ≡ Num (pos 0)
zero_is Booleans = refl
zero_is Bytes = refl
zero_is Shorts = refl
zero_is Ints = refl

array_named : (e : Element) → shape_named (array_name e) ≡ Some (OfNumbers e)
unfolding desc_of bad_at after
array_named Booleans = refl
array_named Bytes = refl
array_named Shorts = refl
array_named Ints = refl

module _ (by : Linked) (l : Named) (told : ActsAreTold by l) (heap : Heap) (sound : HeapFits l heap) where
  abbrev Same : Option (List Thing) → Option Heap → Type 0
  Same = SameHeaps l heap

  abbrev all : List Thing
  all = map (shown l) heap

  grown_same : (thing : HeapObject (List ℕ) MemberId) (s : Thing) → s ≡ shown l thing
      → ThingFits l (heap ++ thing ∷ []) thing → Same (Some (all ++ s ∷ [])) (Some (heap ++ thing ∷ []))
  grown_same thing s e h =
      subst (λ xs. Same (Some xs) (Some (heap ++ thing ∷ []))) (sym (ap (λ x. all ++ x ∷ []) e
      ∙ map_last (shown l) heap thing)) (changed (grown_keeps heap thing) (grown_fits l heap thing sound h))

  set_same : (k : ℕ) (old new : HeapObject (List ℕ) MemberId) (s : Thing) → slice_get heap k ≡ Some old
      → shape new ≡ shape old → s ≡ shown l new → ThingFits l heap new
      → Same (Some (slice_set all k s)) (Some (slice_set heap k new))
  set_same k old new s there type e h =
      subst (λ xs. Same (Some xs) (Some (slice_set heap k new))) (sym (ap (slice_set all k) e
      ∙ map_set (shown l) heap k new)) (changed (set_keeps heap k old new there type) (set_fits l heap k old new
      there type sound h))

  -- ---- an object of an imported class

  bare_shown : (class : List ℕ) → things.Object class [] ≡ shown l (Object class [])
  unfolding by_label
  bare_shown class = refl

  object_act : (class : List ℕ) → Same (heap_after_act by (acts.Object class) all) (narrow.heap_after (by_label l)
      (acts.Object class) heap)
  unfolding by_label
  object_act class = go (by.is_imported class) refl
    where
      go : (b : Bool) → by.is_imported class ≡ b → Same (if b then Some (all ++ things.Object class [] ∷ [])
          else None) (narrow.heap_with (by_label l) heap (narrow.object_of (by_label l) (l.imported class)))
      go true e = subst (λ o. Same (Some (all ++ things.Object class [] ∷ [])) (narrow.heap_with (by_label l) heap
          (narrow.object_of (by_label l) o))) (sym (told.imported class e)) (grown_same (Object class [])
          (things.Object class []) (bare_shown class) (of_class (bare refl (told.imported class e)) no_slots))
      go false e = subst (λ o. Same None (narrow.heap_with (by_label l) heap (narrow.object_of (by_label l) o)))
          (sym (told.not_imported class e)) unfit

  -- ---- an array

  numbers_are_shown : (desc : List ℕ) (e : Element) (n : ℕ) → shape_named desc ≡ Some (OfNumbers e)
      → things.Array desc (replicate n (zero_of (element_sort e))) ≡ shown l (Numbers e (replicate n (pos 0)))
  unfolding by_label
  numbers_are_shown desc e n named =
      ap (λ d. things.Array d (replicate n (zero_of (element_sort e)))) (sym (told.spelt desc (OfNumbers e) named))
      ∙ ap (λ v. things.Array (array_name e) (replicate n v)) (zero_is e)
      ∙ ap (things.Array (array_name e)) (zeros_shown n)

  nulls_are_shown : (desc class : List ℕ) (n : ℕ) → shape_named desc ≡ Some (OfReferences class)
      → things.Array desc (replicate n Null) ≡ shown l (References class (replicate n Null))
  unfolding by_label
  nulls_are_shown desc class n named = ap (λ d. things.Array d (replicate n Null))
      (sym (told.spelt desc (OfReferences class) named))

  array_of_kind : (desc : List ℕ) (n : ℕ) → n ≤ 32767 → (o : Option (Shape (List ℕ))) → shape_named desc ≡ o
      → Same (option_map (λ thing. all ++ thing ∷ []) (array_with by desc n (item_sort by o)))
      (narrow.heap_with (by_label l) heap (narrow.sized_array (by_label l)
      (option_and_then (narrow.shape_of (by_label l)) o) n))
  unfolding by_label
  array_of_kind desc n few None named = unfit
  array_of_kind desc n few (Some (OfClass class)) named = go (l.class_named class)
    where
      go : (o : Option (List ℕ))
          → Same None (narrow.heap_with (by_label l) heap (narrow.sized_array (by_label l) (option_map OfClass o) n))
      go None = unfit
      go (Some other) = unfit
  array_of_kind desc n few (Some (OfNumbers e)) named =
      grown_same (Numbers e (replicate n (pos 0))) (things.Array desc (replicate n (zero_of (element_sort e))))
      (numbers_are_shown desc e n named)
      (numbers (few_of n (pos 0) few) (λ k d low. all_same (Holds (element_range e)) (pos 0) (zero_held e) n k d low))
  array_of_kind desc n few (Some (OfReferences class)) named = go (by.is_there None class) refl
    where
      arrays : l.class_named class ≡ Some class → HasArrays l class
      arrays there = record {
        is_there = there;
        is_named = ap shape_named (told.spelt desc (OfReferences class) named)
            ∙ named;
      }

      go : (b : Bool) → by.is_there None class ≡ b
          → Same (option_map (λ thing. all ++ thing ∷ []) (array_with by desc n (if b
          then Some (Reference (OfClass class)) else None))) (narrow.heap_with (by_label l) heap
          (narrow.sized_array (by_label l) (option_map OfReferences (l.class_named class)) n))
      go true e =
          subst (λ o. Same (Some (all ++ things.Array desc (replicate n Null) ∷ [])) (narrow.heap_with (by_label l) heap
          (narrow.sized_array (by_label l) (option_map OfReferences o) n))) (sym (told.there class e))
          (grown_same (References class (replicate n Null)) (things.Array desc (replicate n Null))
          (nulls_are_shown desc class n named)
          (references (arrays (told.there class e)) (few_of n Null few) (λ k d low. all_same (CellFits l (heap
          ++ References class (replicate n Null) ∷ []) (Reference (OfClass class))) Null a_null n k d low)))
      go false e = subst (λ o. Same None (narrow.heap_with (by_label l) heap (narrow.sized_array (by_label l)
          (option_map OfReferences o) n))) (sym (told.not_there class e)) unfit

  array_act : (desc : List ℕ) (size : ℤ) → Same (heap_after_act by (acts.Array desc size) all)
      (narrow.heap_after (by_label l) (acts.Array desc size) heap)
  array_act desc (negsuc n) = unfit
  array_act desc (pos n) = go (nat_le n 32767) refl
    where
      go : (b : Bool) → nat_le n 32767 ≡ b → Same (option_map (λ thing. all ++ thing ∷ []) (if b
          then array_with by desc n (item_sort by (shape_named desc)) else None)) (narrow.heap_with (by_label l) heap
          (if b then narrow.sized_array (by_label l) (option_and_then (narrow.shape_of (by_label l)) (shape_named desc))
          n else None))
      go true e = array_of_kind desc n (grind (arith, nat_tests, e)) (shape_named desc) refl
      go false e = unfit

  -- ---- an item of an array

  number_put : (k j : ℕ) (e : Element) (items : List ℤ) (z : ℤ) → slice_get heap k ≡ Some (Numbers e items)
      → length items ≤ 32767 → All (Holds (element_range e)) items
      → Same (option_map (slice_set all k) (if nat_lt j (length (map Num items))
      && fits (object_fits by all) (element_sort e) (Num z)
      then Some (things.Array (array_name e) (slice_set (map Num items) j (Num z))) else None))
      (narrow.with_array (by_label l) heap k (if nat_lt j (length items) && fits (narrow.object_fits (by_label l) heap)
      (element_sort e) (Num z) then Some (Numbers e (slice_set items j z)) else None))
  unfolding by_label
  number_put k j e items z there few held =
      subst (λ n. Same (option_map (slice_set all k) (if nat_lt j n && fits (object_fits by all) (element_sort e)
      (Num z) then Some (things.Array (array_name e) (slice_set (map Num items) j (Num z))) else None)) narrow_side)
      (sym (length_mapped Num items))
      (subst (λ b. Same (option_map (slice_set all k) (if nat_lt j (length items) && b
      then Some (things.Array (array_name e) (slice_set (map Num items) j (Num z))) else None)) narrow_side)
      (sym (number_fits (object_fits by all) (narrow.object_fits (by_label l) heap) e z))
      (go (nat_lt j (length items)) (fits (narrow.object_fits (by_label l) heap) (element_sort e) (Num z)) refl))
    where
      narrow_side : Option Heap
      narrow_side = narrow.with_array (by_label l) heap k (if nat_lt j (length items)
          && fits (narrow.object_fits (by_label l) heap) (element_sort e) (Num z)
          then Some (Numbers e (slice_set items j z)) else None)

      go : (a b : Bool) → fits (narrow.object_fits (by_label l) heap) (element_sort e) (Num z) ≡ b
          → Same (option_map (slice_set all k) (if a && b
          then Some (things.Array (array_name e) (slice_set (map Num items) j (Num z))) else None))
          (narrow.with_array (by_label l) heap k (if a && b then Some (Numbers e (slice_set items j z)) else None))
      go true true fit =
          let long = set_length items j z in
          set_same k (Numbers e items) (Numbers e (slice_set items j z)) (things.Array (array_name e)
          (slice_set (map Num items) j (Num z))) there refl (ap (things.Array (array_name e))
          (map_set Num items j z))
          (numbers (omega (arith, long, few)) (all_with (Holds (element_range e)) items j z
          (number_held (narrow.object_fits (by_label l) heap) e z fit) held))
      go true false fit = unfit
      go false b fit = unfit

  no_put : (k j : ℕ) (e : Element) (items : List ℤ) (v : Value) → fits (object_fits by all) (element_sort e) v ≡ false
      → Same (option_map (slice_set all k) (if nat_lt j (length (map Num items))
      && fits (object_fits by all) (element_sort e) v
      then Some (things.Array (array_name e) (slice_set (map Num items) j v)) else None)) None
  no_put k j e items v unfitting = subst (λ b. Same (option_map (slice_set all k) (if nat_lt j (length (map Num items))
      && b then Some (things.Array (array_name e) (slice_set (map Num items) j v)) else None)) None) (sym unfitting)
      (go (nat_lt j (length (map Num items))))
    where
      go : (a : Bool)
          → Same (option_map (slice_set all k) (if a && false
          then Some (things.Array (array_name e) (slice_set (map Num items) j v)) else None)) None
      go true = unfit
      go false = unfit

  put_number : (k j : ℕ) (e : Element) (items : List ℤ) (v : Value) → slice_get heap k ≡ Some (Numbers e items)
      → length items ≤ 32767 → All (Holds (element_range e)) items
      → Same (option_map (slice_set all k) (item_put by all (array_name e) (map Num items) j v
      (item_sort by (shape_named (array_name e))))) (narrow.with_array (by_label l) heap k
      (narrow.with_item (by_label l) heap (Numbers e items) j v))
  put_number k j e items v there few held =
      subst (λ o. Same (option_map (slice_set all k) (item_put by all (array_name e) (map Num items) j v
      (item_sort by o))) (narrow.with_array (by_label l) heap k (narrow.with_item (by_label l) heap
      (Numbers e items) j v))) (sym (array_named e)) (by_value v)
    where
      by_value : (v : Value)
          → Same (option_map (slice_set all k) (item_put by all (array_name e) (map Num items) j v
          (Some (element_sort e)))) (narrow.with_array (by_label l) heap k (narrow.with_item (by_label l) heap
          (Numbers e items) j v))
      by_value (Num z) = number_put k j e items z there few held
      by_value Null = no_put k j e items Null (no_reference_fits (object_fits by all) e).0
      by_value (Obj i) = no_put k j e items (Obj i) ((no_reference_fits (object_fits by all) e).1 i)

  -- which references may be put is told alike
  record PutsAlike (class : List ℕ) (v : Value) : Type 0 where
    same : fits (object_fits by all) (Reference (OfClass class)) v ≡ narrow.item_fits (by_label l) heap class v
    held : narrow.item_fits (by_label l) heap class v ≡ true → CellFits l heap (Reference (OfClass class)) v

  puts_alike : (class : List ℕ) (v : Value) → PutsAlike class v
  unfolding by_label
  puts_alike class (Num z) = record { same = refl; held = λ e. cc }
  puts_alike class Null = record { same = refl; held = λ e. a_null }
  puts_alike class (Obj i) = record {
    same = ap (λ o. is_of by o class) (get_map (shown l) heap i)
        ∙ of_thing (slice_get heap i);
    held = λ e. holds (slice_get heap i) refl e;
  }
    where
      of_thing : (o : Option (HeapObject (List ℕ) MemberId)) → is_of by (option_as (shown l) o) class
          ≡ narrow.thing_fits (by_label l) o (Some (OfClass class))
      of_thing None = refl
      of_thing (Some thing) = ap (λ n. by.subtype None n class) (type_shown l thing) ∙ told.tells (shape thing) class

      holds : (o : Option (HeapObject (List ℕ) MemberId)) → slice_get heap i ≡ o
          → narrow.thing_fits (by_label l) o (Some (OfClass class)) ≡ true
          → CellFits l heap (Reference (OfClass class)) (Obj i)
      holds None there e = cc
      holds (Some thing) there e = an_object thing there e

  put_reference : (k j : ℕ) (class : List ℕ) (items : List Value) (v : Value)
      → slice_get heap k ≡ Some (References class items) → HasArrays l class → length items ≤ 32767
      → All (CellFits l heap (Reference (OfClass class))) items
      → Same (option_map (slice_set all k) (item_put by all (shape_name (OfReferences class)) items j v
      (item_sort by (shape_named (shape_name (OfReferences class)))))) (narrow.with_array (by_label l) heap k
      (narrow.with_item (by_label l) heap (References class items) j v))
  unfolding by_label
  put_reference k j class items v there arrays few held =
      subst (λ o. Same (option_map (slice_set all k) (item_put by all (shape_name (OfReferences class)) items j v
      (item_sort by o))) narrow_side) (sym arrays.is_named)
      (by_class (by.is_there None class) refl)
    where
      narrow_side : Option Heap
      narrow_side = narrow.with_array (by_label l) heap k (if nat_lt j (length items)
          && narrow.item_fits (by_label l) heap class v then Some (References class (slice_set items j v)) else None)

      go : (a b : Bool) → narrow.item_fits (by_label l) heap class v ≡ b
          → Same (option_map (slice_set all k) (if a && b
          then Some (things.Array (shape_name (OfReferences class)) (slice_set items j v)) else None))
          (narrow.with_array (by_label l) heap k (if a && b then Some (References class (slice_set items j v))
          else None))
      go true true fit =
          let long = set_length items j v in
          set_same k (References class items) (References class (slice_set items j v))
          (things.Array (shape_name (OfReferences class)) (slice_set items j v)) there refl refl
          (references arrays (omega (arith, long, few)) (all_with (CellFits l heap (Reference (OfClass class))) items j
          v (let p = puts_alike class v in p.held fit) held))
      go true false fit = unfit
      go false b fit = unfit

      by_class : (b : Bool) → by.is_there None class ≡ b
          → Same (option_map (slice_set all k) (item_put by all (shape_name (OfReferences class)) items j v (if b
          then Some (Reference (OfClass class)) else None))) narrow_side
      by_class true e =
          subst (λ b. Same (option_map (slice_set all k) (if nat_lt j (length items) && b
          then Some (things.Array (shape_name (OfReferences class)) (slice_set items j v)) else None)) narrow_side)
          (sym (let p = puts_alike class v in p.same))
          (go (nat_lt j (length items)) (narrow.item_fits (by_label l) heap class v) refl)
      by_class false e = (let clash : None ≡ Some class = sym (told.not_there class e) ∙ arrays.is_there in cc)

  put_thing : (k : ℕ) (thing : HeapObject (List ℕ) MemberId) (i : ℤ) (v : Value) → slice_get heap k ≡ Some thing
      → ThingFits l heap thing → Same (option_map (slice_set all k) (put_in by all (Some (shown l thing)) i v))
      (narrow.put_item (by_label l) heap k (Some thing) i v)
  unfolding by_label
  put_thing k (Numbers e items) (pos j) v there (numbers few held) = put_number k j e items v there few held
  put_thing k (Numbers e items) (negsuc j) v there h = unfit
  put_thing k (References class items) (pos j) v there (references arrays few held) =
      put_reference k j class items v there arrays few held
  put_thing k (References class items) (negsuc j) v there h = unfit
  put_thing k (Object class slots) (pos j) v there h = unfit
  put_thing k (Object class slots) (negsuc j) v there h = unfit

  put_act : (k : ℕ) (i : ℤ) (v : Value) → Same (heap_after_act by (acts.Put k i v) all) (narrow.heap_after (by_label l)
      (acts.Put k i v) heap)
  put_act k i v = subst (λ o. Same (option_map (slice_set all k) (put_in by all o i v)) (narrow.put_item (by_label l)
      heap k (slice_get heap k) i v)) (sym (get_map (shown l) heap k)) (go (slice_get heap k) refl)
    where
      go : (o : Option (HeapObject (List ℕ) MemberId)) → slice_get heap k ≡ o
          → Same (option_map (slice_set all k) (put_in by all (option_as (shown l) o) i v))
          (narrow.put_item (by_label l) heap k o i v)
      go None there = unfit
      go (Some thing) there = put_thing k thing i v there (sound k thing there)

pub acts_alike : (by : Linked) (l : Named) → ActsAreTold by l → ActsAlike by l
acts_alike by l told (acts.Array desc size) heap sound = array_act by l told heap sound desc size
acts_alike by l told (acts.Object class) heap sound = object_act by l told heap sound class
acts_alike by l told (acts.Put k i v) heap sound = put_act by l told heap sound k i v
