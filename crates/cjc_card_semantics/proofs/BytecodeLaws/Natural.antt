-- An instruction does the same under other names and places, where what is asked of known names is the same; and what
-- is known stays known.
use Rattle.std.proofs.Common.{◌≡◌, ℕ, zero, suc, refl, sym, ap, subst, ◌∙◌, Bool, true, false, List, [], ◌∷◌}
use Rattle.std.proofs.Common.{◌++◌, length, replicate, ℤ, pos, negsuc}
use Rattle.std.specs.Prelude.{Option, Some, None, map, nat_le, slice_get, slice_set, if◌then◌else◌}
use Rattle.std.specs.Int.RustNames.{int_le}
use Rattle.cjc_range.specs.Words.{low_word, low_byte}
use Rattle.cjc_script.specs.declared.value.Value.{Value}
use Rattle.cjc_script.specs.declared.value.Value.TheVariants.{Num, Null, Obj}
use Rattle.cjc_script.specs.Sorts.{Element, Shape, OfClass}
use Rattle.cjc_card_semantics.specs.Bytecode.Numbers.{spelt_by, is_word}
use Rattle.cjc_card_semantics.specs.Bytecode.Calculations.{IndexOutside, ClassCast, ArrayStore, Result, Fine, Fails}
use Rattle.cjc_card_semantics.specs.Bytecode.Calculations.{Wrong, Choice, Takes, Neither, one_number, two_numbers}
use Rattle.cjc_card_semantics.specs.Bytecode.Calculations.{one_value, one_int, int_words}
use Rattle.cjc_card_semantics.specs.Bytecode.Effects.{Letter, Reference, Byte, Short, Int, Access, Load, Store, Length}
use Rattle.cjc_card_semantics.specs.Bytecode.Effects.{Throw, Return, Arm, Slot, HeapObject, Numbers, References, Object}
use Rattle.cjc_card_semantics.specs.Bytecode.Effects.{shape, Memory, Classes, Operation, Do, Branch, Pick, Touch, Get}
use Rattle.cjc_card_semantics.specs.Bytecode.Effects.{Put, GetStatic, PutStatic, Call, New, NewNumbers, NewReferences}
use Rattle.cjc_card_semantics.specs.Bytecode.Effects.{Cast, Ask, Undone, Effect, Go, Raise, Stick, one_reference}
use Rattle.cjc_card_semantics.specs.Bytecode.Effects.{operand, IsOperand, a_null, an_object, a_byte, a_short, an_int}
use Rattle.cjc_card_semantics.specs.Bytecode.Effects.{words_of, same_kind, is_element, slot_of, slots_with, arm_of}
use Rattle.cjc_card_semantics.specs.Bytecode.Effects.{with_some, item_at, effect_of_result, chosen, onward, thing_of}
use Rattle.cjc_card_semantics.specs.Bytecode.Effects.{object_in, numbers_in, references_in, length_in, thrown, returned}
use Rattle.cjc_card_semantics.specs.Bytecode.Effects.{receiver, sized, counted, made, truth, item_of, with_thing, kept}
use Rattle.cjc_card_semantics.specs.Bytecode.Effects.{loaded, stored, effect_of_access, cast_of, cast, asked, put_slot}
use Rattle.cjc_card_semantics.specs.Bytecode.Effects.{effect, load_reference_item, load_number, store_reference}
use Rattle.cjc_card_semantics.specs.Bytecode.Effects.{store_number}
use Rattle.cjc_card_semantics.specs.Bytecode.Renaming.{option_as, shape_as, arm_as, heap_object_as, memory_as}
use Rattle.cjc_card_semantics.specs.Bytecode.Renaming.{operation_as, effect_as, Knows, KnownShape, KnownHeapObject}
use Rattle.cjc_card_semantics.specs.Bytecode.Renaming.{numbers_known, references_known, object_known, KnownHeap}
use Rattle.cjc_card_semantics.specs.Bytecode.Renaming.{no_things, one_thing, KnownMemory, KnownOperation, KnownEffect}
use Rattle.cjc_card_semantics.specs.Bytecode.Renaming.{UnmadeAlike, AreAlike, keys}
use Rattle.cjc_export.proofs.BytesLists.{length_mapped}
use Rattle.cjc_export.proofs.BytesGets.{map_set}

-- ---- lists

pub get_map : {A B : Type 0} (f : A → B) (xs : List A) (k : ℕ) → slice_get (map f xs) k ≡ option_as f (slice_get xs k)
get_map f [] k = refl
get_map f (x ∷ xs) zero = refl
get_map f (x ∷ xs) (suc k) = get_map f xs k

pub map_last : {A B : Type 0} (f : A → B) (xs : List A) (x : A) → map f xs ++ f x ∷ [] ≡ map f (xs ++ x ∷ [])
map_last f [] x = refl
map_last f (y ∷ xs) x = ap (λ ys. f y ∷ ys) (map_last f xs x)

pub arm_of_map : (to : ℕ → ℕ) (other : ℕ) (arms : List Arm) (x : ℤ) → arm_of (to other) (map (arm_as to) arms) x
    ≡ to (arm_of other arms x)
arm_of_map to other [] x = refl
arm_of_map to other (arm ∷ arms) x = by (int_le arm.value x) (int_le x arm.value) (arm_of_map to other arms x)
  where
    by : (s t : Bool) → arm_of (to other) (map (arm_as to) arms) x ≡ to (arm_of other arms x)
        → (if s then (if t then to arm.to else arm_of (to other) (map (arm_as to) arms) x)
        else arm_of (to other) (map (arm_as to) arms) x) ≡ to (if s then (if t then arm.to else arm_of other arms x)
        else arm_of other arms x)
    by true true rest = refl
    by true false rest = rest
    by false t rest = rest

-- ---- what is known stays known

module _ {C F S X : Type 0} (known : Knows C F S X) where
  pub get_known : {heap : List (HeapObject C F)} (k : ℕ) (t : HeapObject C F) → KnownHeap known heap
      → slice_get heap k ≡ Some t → KnownHeapObject known t
  get_known k t no_things e = cc
  get_known zero t (one_thing {t = u} h hs) e = let is : u ≡ t = cc in subst (KnownHeapObject known) is h
  get_known (suc k) t (one_thing h hs) e = get_known k t hs e

  pub set_known : {heap : List (HeapObject C F)} (k : ℕ) (t : HeapObject C F) → KnownHeap known heap
      → KnownHeapObject known t → KnownHeap known (slice_set heap k t)
  set_known k t no_things h = no_things
  set_known zero t (one_thing g gs) h = one_thing h gs
  set_known (suc k) t (one_thing g gs) h = one_thing g (set_known k t gs h)

  pub last_known : {heap : List (HeapObject C F)} (t : HeapObject C F) → KnownHeap known heap → KnownHeapObject known t
      → KnownHeap known (heap ++ t ∷ [])
  last_known t no_things h = one_thing h no_things
  last_known t (one_thing g gs) h = one_thing g (last_known t gs h)

  pub shape_known : {t : HeapObject C F} → KnownHeapObject known t → KnownShape known (shape t)
  shape_known numbers_known = tt
  shape_known (references_known k) = k
  shape_known (object_known k ko) = k

-- a put keeps the keys
pub keys_same : {F : Type 0} (same : F → F → Bool) (slots : List (Slot F)) (f : F) (v : Value)
    → keys (slots_with same slots f v) ≡ keys slots
keys_same same [] f v = refl
keys_same {F = F} same (s ∷ slots) f v = by (same s.key f) (keys_same same slots f v)
  where
    by : (t : Bool) → keys (slots_with same slots f v) ≡ keys slots → keys (if t then record s { value = v } ∷ slots
        else s ∷ slots_with same slots f v) ≡ s.key ∷ keys slots
    by true rest = refl
    by false rest = ap (λ ks. s.key ∷ ks) rest

-- ---- under other names

module _ {C F S X D G T Y : Type 0} (known : Knows C F S X) (class : C → D) (field : F → G) (slots : C → List (Slot F)
    → List (Slot G)) (cell : S → T) (statics : X → Y) (classes : Classes C F S X) (classes' : Classes D G T Y)
    (alike : AreAlike known class field slots cell statics classes classes') where
  module _ {M N : Type 0} (KnownMethod : M → Type 0) (method : M → N) (to : ℕ → ℕ) where
    abbrev moved : Effect C F M X → Effect D G N Y
    moved a = effect_as class slots method statics to a

    abbrev things : List (HeapObject C F) → List (HeapObject D G)
    things heap = map (heap_object_as class slots) heap

    abbrev memory : Memory C F X → Memory D G Y
    memory m = memory_as class slots statics m

    -- ---- operands

    by_number : (stack : List Value) (go : ℤ → List Value → Effect C F M X) (go' : ℤ → List Value → Effect D G N Y)
        → ((x : ℤ) (rest : List Value) → go' x rest ≡ moved (go x rest)) → one_number Stick stack go'
        ≡ moved (one_number Stick stack go)
    by_number [] go go' h = refl
    by_number (Num x ∷ stack) go go' h = h x stack
    by_number (Null ∷ stack) go go' h = refl
    by_number (Obj k ∷ stack) go go' h = refl

    by_value : (stack : List Value) (go : Value → List Value → Effect C F M X) (go' : Value → List Value
        → Effect D G N Y) → ((v : Value) (rest : List Value) → go' v rest ≡ moved (go v rest))
        → one_value Stick stack go' ≡ moved (one_value Stick stack go)
    by_value [] go go' h = refl
    by_value (v ∷ stack) go go' h = h v stack

    by_reference : (stack : List Value) (go : Value → List Value → Effect C F M X) (go' : Value → List Value
        → Effect D G N Y) → ((v : Value) (rest : List Value) → go' v rest ≡ moved (go v rest))
        → one_reference Stick stack go' ≡ moved (one_reference Stick stack go)
    by_reference [] go go' h = refl
    by_reference (Num x ∷ stack) go go' h = refl
    by_reference (Null ∷ stack) go go' h = h Null stack
    by_reference (Obj k ∷ stack) go go' h = h (Obj k) stack

    by_two : (stack : List Value) (go : ℤ → ℤ → List Value → Effect C F M X) (go' : ℤ → ℤ → List Value → Effect D G N Y)
        → ((x y : ℤ) (rest : List Value) → go' x y rest ≡ moved (go x y rest)) → two_numbers Stick stack go'
        ≡ moved (two_numbers Stick stack go)
    by_two [] go go' h = refl
    by_two (Null ∷ stack) go go' h = refl
    by_two (Obj k ∷ stack) go go' h = refl
    by_two (Num y ∷ []) go go' h = refl
    by_two (Num y ∷ Null ∷ stack) go go' h = refl
    by_two (Num y ∷ Obj k ∷ stack) go go' h = refl
    by_two (Num y ∷ Num x ∷ stack) go go' h = h x y stack

    by_int : (stack : List Value) (go : ℤ → List Value → Effect C F M X) (go' : ℤ → List Value → Effect D G N Y)
        → ((x : ℤ) (rest : List Value) → go' x rest ≡ moved (go x rest)) → one_int Stick stack go'
        ≡ moved (one_int Stick stack go)
    by_int stack go go' h = by_two stack _ _ (λ high low rest. h (spelt_by high low) rest)

    by_operand : (letter : Letter) (stack : List Value) (go : Value → List Value → Effect C F M X) (go' : Value
        → List Value → Effect D G N Y) → ((v : Value) (rest : List Value) → IsOperand letter v
        → go' v rest ≡ moved (go v rest)) → operand letter Stick stack go' ≡ moved (operand letter Stick stack go)
    by_operand Reference [] go go' h = refl
    by_operand Reference (Num x ∷ stack) go go' h = refl
    by_operand Reference (Null ∷ stack) go go' h = h Null stack a_null
    by_operand Reference (Obj k ∷ stack) go go' h = h (Obj k) stack an_object
    by_operand Byte stack go go' h = by_number stack _ _ (λ x rest. h (Num (low_byte x)) rest (a_byte x))
    by_operand Short stack go go' h = by_number stack _ _ (λ x rest. h (Num (low_word x)) rest (a_short x))
    by_operand Int stack go go' h = by_two stack _ _ (λ high low rest. h (Num (spelt_by high low)) rest
        (an_int high low))

    by_if : (t : Bool) (a : Effect C F M X) (a' : Effect D G N Y) (b : Effect C F M X) → a' ≡ moved a
        → (if t then a' else moved b) ≡ moved (if t then a else b)
    by_if true a a' b h = h
    by_if false a a' b h = refl

    by_words : (letter : Letter) (v : Value) (go : List Value → Effect C F M X) (go' : List Value → Effect D G N Y)
        → ((words : List Value) → go' words ≡ moved (go words)) → words_of letter v Stick go'
        ≡ moved (words_of letter v Stick go)
    by_words Reference (Num z) go go' h = refl
    by_words Reference Null go go' h = h (Null ∷ [])
    by_words Reference (Obj k) go go' h = h (Obj k ∷ [])
    by_words Byte (Num z) go go' h = by_if (is_word z) _ _ Stick (h (Num z ∷ []))
    by_words Byte Null go go' h = refl
    by_words Byte (Obj k) go go' h = refl
    by_words Short (Num z) go go' h = by_if (is_word z) _ _ Stick (h (Num z ∷ []))
    by_words Short Null go go' h = refl
    by_words Short (Obj k) go go' h = refl
    by_words Int (Num z) go go' h = h (int_words z)
    by_words Int Null go go' h = refl
    by_words Int (Obj k) go go' h = refl

    by_some : {A : Type 0} (o : Option A) (go : A → Effect C F M X) (go' : A → Effect D G N Y)
        → ((x : A) → go' x ≡ moved (go x)) → with_some Stick o go' ≡ moved (with_some Stick o go)
    by_some None go go' h = refl
    by_some (Some x) go go' h = h x

    by_item : {A : Type 0} (items : List A) (i : ℤ) (go : ℕ → A → Effect C F M X) (go' : ℕ → A → Effect D G N Y)
        → ((n : ℕ) (x : A) → go' n x ≡ moved (go n x)) → item_at (Raise IndexOutside) items i go'
        ≡ moved (item_at (Raise IndexOutside) items i go)
    by_item {A = A} items (negsuc i) go go' h = refl
    by_item {A = A} items (pos i) go go' h = by (slice_get items i)
      where
        by : (o : Option A) → with_some (Raise IndexOutside) o (go' i) ≡ moved (with_some (Raise IndexOutside) o (go i))
        by None = refl
        by (Some x) = h i x

    -- ---- the heap

    by_thing : (heap : List (HeapObject C F)) (v : Value) (go : ℕ → HeapObject C F → Effect C F M X) (go' : ℕ
        → HeapObject D G → Effect D G N Y) → KnownHeap known heap → ((k : ℕ) (t : HeapObject C F)
        → KnownHeapObject known t → go' k (heap_object_as class slots t) ≡ moved (go k t))
        → thing_of (things heap) v go' ≡ moved (thing_of heap v go)
    by_thing heap (Num x) go go' kh h = refl
    by_thing heap Null go go' kh h = refl
    by_thing heap (Obj k) go go' kh h = ap (λ o. with_some Stick o (go' k)) (get_map (heap_object_as class slots) heap
        k) ∙ by (slice_get heap k) (λ t e. get_known known k t kh e)
      where
        by : (o : Option (HeapObject C F)) → ((t : HeapObject C F) → o ≡ Some t → KnownHeapObject known t)
            → with_some Stick (option_as (heap_object_as class slots) o) (go' k) ≡ moved (with_some Stick o (go k))
        by None ks = refl
        by (Some t) ks = h k t (ks t refl)

    by_object : (t : HeapObject C F) (go : C → List (Slot F) → Effect C F M X) (go' : D → List (Slot G)
        → Effect D G N Y) → KnownHeapObject known t → ((c : C) (held : List (Slot F)) → known.class c
        → known.object c (keys held) → go' (class c) (slots c held) ≡ moved (go c held))
        → object_in go' (heap_object_as class slots t) ≡ moved (object_in go t)
    by_object (Numbers element items) go go' kt h = refl
    by_object (References c items) go go' kt h = refl
    by_object (Object c held) go go' (object_known kc ko) h = h c held kc ko

    by_numbers : (letter : Letter) (t : HeapObject C F) (go : Element → List ℤ → Effect C F M X) (go' : Element → List ℤ
        → Effect D G N Y) → ((element : Element) (items : List ℤ) → go' element items ≡ moved (go element items))
        → numbers_in letter go' (heap_object_as class slots t) ≡ moved (numbers_in letter go t)
    by_numbers letter (Numbers element items) go go' h = by_if (is_element letter element) _ _ Stick (h element items)
    by_numbers letter (References c items) go go' h = refl
    by_numbers letter (Object c slots) go go' h = refl

    by_references : (t : HeapObject C F) (go : C → List Value → Effect C F M X) (go' : D → List Value → Effect D G N Y)
        → KnownHeapObject known t → ((c : C) (items : List Value) → known.class c
        → go' (class c) items ≡ moved (go c items)) → references_in go' (heap_object_as class slots t)
        ≡ moved (references_in go t)
    by_references (Numbers element items) go go' kt h = refl
    by_references (References c items) go go' (references_known kc) h = h c items kc
    by_references (Object c slots) go go' kt h = refl

    by_length : (t : HeapObject C F) (go : ℕ → Effect C F M X) (go' : ℕ → Effect D G N Y)
        → ((n : ℕ) → go' n ≡ moved (go n)) → length_in go' (heap_object_as class slots t) ≡ moved (length_in go t)
    by_length (Numbers element items) go go' h = h (length items)
    by_length (References c items) go go' h = h (length items)
    by_length (Object c slots) go go' h = refl

    shape_moved : (t : HeapObject C F) → shape (heap_object_as class slots t) ≡ shape_as class (shape t)
    shape_moved (Numbers element items) = refl
    shape_moved (References c items) = refl
    shape_moved (Object c slots) = refl

    same_test : (t : HeapObject C F) (s : Shape C) → KnownHeapObject known t → KnownShape known s
        → classes'.is_of (shape (heap_object_as class slots t)) (shape_as class s) ≡ classes.is_of (shape t) s
    same_test t s kt ks = ap (λ u. classes'.is_of u (shape_as class s)) (shape_moved t)
        ∙ alike.is_of (shape t) s (shape_known known kt) ks

    -- another array or object in a place of the heap
    put_there : (next : ℕ) (rest : List Value) (locals : List (Option Value)) (m : Memory C F X) (k : ℕ)
        (t : HeapObject C F) → Go (to next) rest locals (with_thing (memory m) k (heap_object_as class slots t))
        ≡ moved (Go next rest locals (with_thing m k t))
    put_there next rest locals m k t =
        ap (λ h. Go (to next) rest locals (record { heap = h; statics = statics m.statics }))
        (map_set (heap_object_as class slots) m.heap k t)

    by_onward : (words : List Value) (room next : ℕ) (locals : List (Option Value)) (m : Memory C F X)
        (rest : List Value) → onward words room (to next) locals (memory m) rest
        ≡ moved (onward words room next locals m rest)
    by_onward words room next locals m rest = by_if (nat_le (length (words ++ rest)) room) _ _ Stick refl

    by_made : (t : HeapObject C F) (room next : ℕ) (locals : List (Option Value)) (m : Memory C F X) (rest : List Value)
        → made (heap_object_as class slots t) room (to next) locals (memory m) rest
        ≡ moved (made t room next locals m rest)
    by_made t room next locals m rest =
        ap (λ n. onward (Obj n ∷ []) room (to next) locals (record {
          heap = things m.heap
              ++ heap_object_as class slots t ∷ [];
          statics = statics m.statics;
        }) rest)
        (length_mapped (heap_object_as class slots) m.heap)
        ∙ ap (λ h. onward (Obj (length m.heap) ∷ []) room (to next) locals (record {
          heap = h;
          statics = statics m.statics;
        }) rest) (map_last (heap_object_as class slots) m.heap t)
        ∙ by_onward (Obj (length m.heap) ∷ []) room next locals (record m { heap = m.heap ++ t ∷ [] }) rest

    -- ---- instructions

    by_result : (r : Result) (next : ℕ) (m : Memory C F X) → effect_of_result r (to next) (memory m)
        ≡ moved (effect_of_result r next m)
    by_result (Fine stack locals) next m = refl
    by_result (Fails fault) next m = refl
    by_result Wrong next m = refl

    by_choice : (c : Choice) (place next : ℕ) (locals : List (Option Value)) (m : Memory C F X)
        → chosen c (to place) (to next) locals (memory m) ≡ moved (chosen c place next locals m)
    by_choice (Takes true rest) place next locals m = refl
    by_choice (Takes false rest) place next locals m = refl
    by_choice Neither place next locals m = refl

    by_thrown : (v : Value) → thrown v ≡ moved (thrown v)
    by_thrown (Num x) = refl
    by_thrown Null = refl
    by_thrown (Obj k) = refl

    by_returned : (letter : Option Letter) (stack : List Value) → returned letter stack ≡ moved (returned letter stack)
    by_returned None stack = refl
    by_returned (Some Reference) stack = by_reference stack _ _ (λ v rest. refl)
    by_returned (Some Byte) stack = by_number stack _ _ (λ x rest. refl)
    by_returned (Some Short) stack = by_number stack _ _ (λ x rest. refl)
    by_returned (Some Int) [] = refl
    by_returned (Some Int) (Null ∷ stack) = refl
    by_returned (Some Int) (Obj k ∷ stack) = refl
    by_returned (Some Int) (Num low ∷ []) = refl
    by_returned (Some Int) (Num low ∷ Null ∷ stack) = refl
    by_returned (Some Int) (Num low ∷ Obj k ∷ stack) = refl
    by_returned (Some Int) (Num low ∷ Num high ∷ stack) = refl

    by_receiver : (this : Bool) (locals : List (Option Value)) (stack : List Value) (go : Value → List Value
        → Effect C F M X) (go' : Value → List Value → Effect D G N Y) → ((v : Value) (rest : List Value)
        → go' v rest ≡ moved (go v rest)) → receiver this locals stack go' ≡ moved (receiver this locals stack go)
    by_receiver false locals stack go go' h = by_value stack go go' h
    by_receiver true locals stack go go' h = by_some (slice_get locals 0) _ _ (λ o. by_some o _ _ (λ v. h v stack))

    by_sized : (n : ℤ) (go : ℕ → Effect C F M X) (go' : ℕ → Effect D G N Y) → ((k : ℕ) → go' k ≡ moved (go k))
        → sized n go' ≡ moved (sized n go)
    by_sized (pos n) go go' h = h n
    by_sized (negsuc n) go go' h = refl

    by_counted : (stack : List Value) (go : ℕ → List Value → Effect C F M X) (go' : ℕ → List Value → Effect D G N Y)
        → ((n : ℕ) (rest : List Value) → go' n rest ≡ moved (go n rest)) → counted stack go' ≡ moved (counted stack go)
    by_counted stack go go' h = by_number stack _ _ (λ n rest. by_sized n _ _ (λ k. h k rest))

    by_kept : (heap : List (HeapObject C F)) (c : C) (v : Value) (a : Effect C F M X) (a' : Effect D G N Y)
        → KnownHeap known heap → known.class c → a' ≡ moved a → kept classes' (things heap) (class c) v a'
        ≡ moved (kept classes heap c v a)
    by_kept heap c (Num x) a a' kh kc h = refl
    by_kept heap c Null a a' kh kc h = h
    by_kept heap c (Obj k) a a' kh kc h =
        by_thing heap (Obj k) (λ n t. if classes.is_of (shape t) (OfClass c) then a else Raise ArrayStore)
        (λ n t. if classes'.is_of (shape t) (OfClass (class c)) then a' else Raise ArrayStore) kh
        (λ n t kt. ap (λ b. if b then a' else Raise ArrayStore) (same_test t (OfClass c) kt kc)
        ∙ by_if (classes.is_of (shape t) (OfClass c)) a a' (Raise ArrayStore) h)

    load_references_moved : (room next : ℕ) (locals : List (Option Value)) (m : Memory C F X) (stack : List Value)
        → KnownMemory known m → load_reference_item classes' room (to next) locals (memory m) stack
        ≡ moved (load_reference_item classes room next locals m stack)
    load_references_moved room next locals m stack km =
        by_number stack _ _ (λ i below. by_value below _ _ (λ r rest. by_thing m.heap r _ _ km.heap
        (λ k t kt. by_references t _ _ kt (λ c items kc.
        by_item items i _ _ (λ n v. by_onward (v ∷ []) room next locals m rest)))))

    load_number_moved : (letter : Letter) (room next : ℕ) (locals : List (Option Value)) (m : Memory C F X)
        (stack : List Value) → KnownMemory known m → load_number classes' letter room (to next) locals (memory m) stack
        ≡ moved (load_number classes letter room next locals m stack)
    load_number_moved letter room next locals m stack km =
        by_number stack _ _ (λ i below. by_value below _ _ (λ r rest. by_thing m.heap r _ _ km.heap
        (λ k t kt. by_numbers letter t _ _ (λ element items.
        by_item items i _ _ (λ n x. by_words letter (Num x) _ _ (λ words. by_onward words room next locals m rest))))))

    load_moved : (letter : Letter) (room next : ℕ) (locals : List (Option Value)) (m : Memory C F X)
        (stack : List Value) → KnownMemory known m → loaded classes' letter room (to next) locals (memory m) stack
        ≡ moved (loaded classes letter room next locals m stack)
    load_moved Reference = load_references_moved
    load_moved Byte = load_number_moved Byte
    load_moved Short = load_number_moved Short
    load_moved Int = load_number_moved Int

    store_reference_moved : (next : ℕ) (locals : List (Option Value)) (m : Memory C F X) (stack : List Value)
        → KnownMemory known m → store_reference classes' (to next) locals (memory m) stack
        ≡ moved (store_reference classes next locals m stack)
    store_reference_moved next locals m stack km =
        by_reference stack _ _ (λ v under. by_number under _ _ (λ i below. by_value below _ _ (λ r rest. by_thing m.heap
        r _ _ km.heap (λ k t kt. by_references t _ _ kt (λ c items kc.
        by_item items i _ _ (λ n old. by_kept m.heap c v _ _ km.heap kc (put_there next rest locals m k
        (References c (slice_set items n v)))))))))

    store_number_moved : (letter : Letter) (next : ℕ) (locals : List (Option Value)) (m : Memory C F X)
        (stack : List Value) → KnownMemory known m → store_number classes' letter (to next) locals (memory m) stack
        ≡ moved (store_number classes letter next locals m stack)
    store_number_moved letter next locals m stack km =
        by_operand letter stack _ _ (λ v under op. by_number under _ _ (λ i below. by_value below _ _
        (λ r rest. by_thing m.heap r _ _ km.heap (λ k t kt. by_numbers letter t _ _ (λ element items.
        by_item items i _ _ (λ n old. put_there next rest locals m k
        (Numbers element (slice_set items n (item_of v)))))))))

    store_moved : (letter : Letter) (next : ℕ) (locals : List (Option Value)) (m : Memory C F X) (stack : List Value)
        → KnownMemory known m → stored classes' letter (to next) locals (memory m) stack
        ≡ moved (stored classes letter next locals m stack)
    store_moved Reference = store_reference_moved
    store_moved Byte = store_number_moved Byte
    store_moved Short = store_number_moved Short
    store_moved Int = store_number_moved Int

    touch_moved : (access : Access) (room next : ℕ) (locals : List (Option Value)) (m : Memory C F X)
        (stack : List Value) → KnownMemory known m → effect_of_access classes' access room (to next) locals (memory m)
        stack ≡ moved (effect_of_access classes access room next locals m stack)
    touch_moved (Load letter) room next locals m stack km = load_moved letter room next locals m stack km
    touch_moved (Store letter) room next locals m stack km = store_moved letter next locals m stack km
    touch_moved Length room next locals m stack km =
        by_value stack _ _ (λ r rest. by_thing m.heap r _ _ km.heap (λ k t kt. by_length t
        (λ n. Go next (Num (low_word (pos n)) ∷ rest) locals m) (λ n. Go (to next) (Num (low_word (pos n)) ∷ rest)
        locals (memory m)) (λ n. refl)))
    touch_moved Throw room next locals m stack km = by_value stack _ _ (λ r rest. by_thrown r)
    touch_moved (Return letter) room next locals m stack km = by_returned letter stack

    by_cast : (target : Shape C) (heap : List (HeapObject C F)) (v : Value) (go : Bool → Effect C F M X) (go' : Bool
        → Effect D G N Y) → KnownHeap known heap → KnownShape known target → ((t : Bool) → go' t ≡ moved (go t))
        → cast_of classes' (shape_as class target) (things heap) v go' ≡ moved (cast_of classes target heap v go)
    by_cast target heap (Num x) go go' kh ks h = refl
    by_cast target heap Null go go' kh ks h = refl
    by_cast target heap (Obj k) go go' kh ks h =
        by_thing heap (Obj k) (λ n t. go (classes.is_of (shape t) target))
        (λ n t. go' (classes'.is_of (shape t) (shape_as class target))) kh
        (λ n t kt. ap go' (same_test t target kt ks) ∙ h (classes.is_of (shape t) target))

    cast_moved : (target : Shape C) (next : ℕ) (locals : List (Option Value)) (m : Memory C F X) (stack : List Value)
        → KnownMemory known m → KnownShape known target → cast classes' (shape_as class target) (to next) locals
        (memory m) stack ≡ moved (cast classes target next locals m stack)
    cast_moved target next locals m [] km ks = refl
    cast_moved target next locals m (Num x ∷ rest) km ks = refl
    cast_moved target next locals m (Null ∷ rest) km ks = refl
    cast_moved target next locals m (Obj k ∷ rest) km ks =
        by_cast target m.heap (Obj k) _ _ km.heap ks (λ t. by_if t (Go next (Obj k ∷ rest) locals m) _ (Raise ClassCast)
        refl)

    asked_moved : (target : Shape C) (next : ℕ) (locals : List (Option Value)) (m : Memory C F X) (stack : List Value)
        → KnownMemory known m → KnownShape known target → asked classes' (shape_as class target) (to next) locals
        (memory m) stack ≡ moved (asked classes target next locals m stack)
    asked_moved target next locals m [] km ks = refl
    asked_moved target next locals m (Num x ∷ rest) km ks = refl
    asked_moved target next locals m (Null ∷ rest) km ks = refl
    asked_moved target next locals m (Obj k ∷ rest) km ks = by_cast target m.heap (Obj k) (λ t. Go next (Num (truth t)
        ∷ rest) locals m) (λ t. Go (to next) (Num (truth t) ∷ rest) locals (memory m)) km.heap ks (λ t. refl)

    by_slot : (o : Option Value) (v : Value) (a : Effect C F M X) (a' : Effect D G N Y) → ((old : Value) → o ≡ Some old
        → a' ≡ moved a) → put_slot classes' o v a' ≡ moved (put_slot classes o v a)
    by_slot None v a a' h = refl
    by_slot (Some old) v a a' h = by_if (same_kind old v) a a' Stick (h old refl)

    -- the second does what the first does, where the first is not stuck
    pub data Follows : Effect C F M X → Effect D G N Y → Type 0 where
      does : {a : Effect C F M X} {b : Effect D G N Y} → b ≡ moved a → Follows a b
      -- a new object, where none is made
      sticks : {b : Effect D G N Y} → (UnmadeAlike known class field slots cell statics classes classes' → b ≡ Stick)
          → Follows Stick b

    pub effect_natural : (d : Operation C F S M) (room next : ℕ) (locals : List (Option Value)) (m : Memory C F X)
        (stack : List Value) → KnownMemory known m → KnownOperation known KnownMethod d
        → Follows (effect classes d room next locals m stack) (effect classes' (operation_as class field cell method to
        d) room (to next) locals (memory m) stack)
    effect_natural (Do calculation) room next locals m stack km kd =
        does (by_result (calculation room locals stack) next m)
    effect_natural (Branch test place) room next locals m stack km kd =
        does (by_choice (test stack) place next locals m)
    effect_natural (Pick false other arms) room next locals m stack km kd =
        does (by_number stack _ _ (λ x rest. ap (λ at. Go at rest locals (memory m)) (arm_of_map to other arms x)))
    effect_natural (Pick true other arms) room next locals m stack km kd =
        does (by_int stack (λ x rest. Go (arm_of other arms x) rest locals m)
        (λ x rest. Go (arm_of (to other) (map (arm_as to) arms) x) rest locals (memory m))
        (λ x rest. ap (λ at. Go at rest locals (memory m)) (arm_of_map to other arms x)))
    effect_natural (Touch access) room next locals m stack km kd = does (touch_moved access room next locals m stack km)
    effect_natural (Get this letter f) room next locals m stack km kd =
        does (by_receiver this locals stack _ _ (λ r rest. by_thing m.heap r _ _ km.heap (λ k t kt. by_object t _ _ kt
        (λ c held kc ko.
        ap (λ o. with_some Stick o (λ v. words_of letter v Stick (λ words. onward words room (to next) locals (memory m)
        rest))) (alike.get c held f ko kd)
        ∙ by_some (slot_of classes.same_field held f) _ _ (λ v. by_words letter v _ _ (λ words. by_onward words room
        next locals m rest))))))
    effect_natural (Put this letter f) room next locals m stack km kd =
        does (by_operand letter stack _ _ (λ v below op. by_receiver this locals below _ _ (λ r rest. by_thing m.heap r
        _ _ km.heap (λ k t kt. by_object t _ _ kt (λ c held kc ko.
        ap (λ o. put_slot classes' o v (Go (to next) rest locals (with_thing (memory m) k
        (Object (class c) (slots_with classes'.same_field (slots c held) (field f) v))))) (alike.get c held f ko kd)
        ∙ by_slot (slot_of classes.same_field held f) v _ _ (λ old e.
        ap (λ ss. Go (to next) rest locals (with_thing (memory m) k (Object (class c) ss))) (alike.put c held f old v ko
        kd e)
        ∙ put_there next rest locals m k (Object c (slots_with classes.same_field held f v))))))))
    effect_natural (GetStatic letter s) room next locals m stack km kd =
        does (ap (λ o. with_some Stick o (λ v. words_of letter v Stick (λ words. onward words room (to next) locals
        (memory m) stack))) (alike.get_static letter s m.statics kd km.statics)
        ∙ by_some (classes.get_static letter s m.statics) _ _ (λ v. by_words letter v _ _ (λ words. by_onward words room
        next locals m stack)))
    effect_natural (PutStatic letter s) room next locals m stack km kd =
        does (by_operand letter stack _ _ (λ v rest op.
        ap (λ o. with_some Stick o (λ y. Go (to next) rest locals (record (memory m) { statics = y })))
        (alike.put_static letter s v m.statics op kd km.statics)
        ∙ by (classes.put_static letter s v m.statics) rest))
      where
        by : (o : Option X) (rest : List Value) → with_some Stick (option_as statics o) (λ y. Go (to next) rest locals
            (record (memory m) { statics = y }))
            ≡ moved (with_some Stick o (λ x. Go next rest locals (record m { statics = x })))
        by None rest = refl
        by (Some x) rest = refl
    effect_natural (Call method) room next locals m stack km kd = does refl
    effect_natural (New c) room next locals m stack km kd = by (classes.fresh c) refl
      where
        by : (o : Option (List (Slot F))) → classes.fresh c ≡ o
            → Follows (with_some Stick o (λ held. made (Object c held) room next locals m stack))
            (with_some Stick (classes'.fresh (class c)) (λ held. made (Object (class c) held) room (to next) locals
            (memory m) stack))
        by None e = sticks (λ unmade. ap (λ o. with_some Stick o (λ held. made (Object (class c) held) room (to next)
            locals (memory m) stack)) (unmade c kd e))
        by (Some held) e =
            does (ap (λ o. with_some Stick o (λ held. made (Object (class c) held) room (to next) locals (memory m)
            stack)) (alike.fresh c held kd e) ∙ by_made (Object c held) room next locals m stack)
    effect_natural (NewNumbers element) room next locals m stack km kd =
        does (by_counted stack _ _ (λ n rest. by_made (Numbers element (replicate n (pos 0))) room next locals m rest))
    effect_natural (NewReferences c) room next locals m stack km kd =
        does (by_counted stack _ _ (λ n rest. by_made (References c (replicate n Null)) room next locals m rest))
    effect_natural (Cast target) room next locals m stack km kd = does (cast_moved target next locals m stack km kd)
    effect_natural (Ask target) room next locals m stack km kd = does (asked_moved target next locals m stack km kd)
    effect_natural Undone room next locals m stack km kd = does refl

  -- ---- what is known stays known

  module _ (M : Type 0) (KnownMethod : M → Type 0) where
    abbrev Keeps : Effect C F M X → Type 0
    Keeps a = KnownEffect known KnownMethod a

    on_number : (stack : List Value) (go : ℤ → List Value → Effect C F M X) → ((x : ℤ) (rest : List Value)
        → Keeps (go x rest)) → Keeps (one_number Stick stack go)
    on_number [] go h = tt
    on_number (Num x ∷ stack) go h = h x stack
    on_number (Null ∷ stack) go h = tt
    on_number (Obj k ∷ stack) go h = tt

    on_value : (stack : List Value) (go : Value → List Value → Effect C F M X) → ((v : Value) (rest : List Value)
        → Keeps (go v rest)) → Keeps (one_value Stick stack go)
    on_value [] go h = tt
    on_value (v ∷ stack) go h = h v stack

    on_reference : (stack : List Value) (go : Value → List Value → Effect C F M X) → ((v : Value) (rest : List Value)
        → Keeps (go v rest)) → Keeps (one_reference Stick stack go)
    on_reference [] go h = tt
    on_reference (Num x ∷ stack) go h = tt
    on_reference (Null ∷ stack) go h = h Null stack
    on_reference (Obj k ∷ stack) go h = h (Obj k) stack

    on_two : (stack : List Value) (go : ℤ → ℤ → List Value → Effect C F M X) → ((x y : ℤ) (rest : List Value)
        → Keeps (go x y rest)) → Keeps (two_numbers Stick stack go)
    on_two [] go h = tt
    on_two (Null ∷ stack) go h = tt
    on_two (Obj k ∷ stack) go h = tt
    on_two (Num y ∷ []) go h = tt
    on_two (Num y ∷ Null ∷ stack) go h = tt
    on_two (Num y ∷ Obj k ∷ stack) go h = tt
    on_two (Num y ∷ Num x ∷ stack) go h = h x y stack

    on_operand : (letter : Letter) (stack : List Value) (go : Value → List Value → Effect C F M X)
        → ((v : Value) (rest : List Value) → IsOperand letter v → Keeps (go v rest))
        → Keeps (operand letter Stick stack go)
    on_operand Reference [] go h = tt
    on_operand Reference (Num x ∷ stack) go h = tt
    on_operand Reference (Null ∷ stack) go h = h Null stack a_null
    on_operand Reference (Obj k ∷ stack) go h = h (Obj k) stack an_object
    on_operand Byte stack go h = on_number stack _ (λ x rest. h (Num (low_byte x)) rest (a_byte x))
    on_operand Short stack go h = on_number stack _ (λ x rest. h (Num (low_word x)) rest (a_short x))
    on_operand Int stack go h = on_two stack _ (λ high low rest. h (Num (spelt_by high low)) rest (an_int high low))

    on_if : (t : Bool) (a b : Effect C F M X) → Keeps a → Keeps b → Keeps (if t then a else b)
    on_if true a b ka kb = ka
    on_if false a b ka kb = kb

    on_words : (letter : Letter) (v : Value) (go : List Value → Effect C F M X) → ((words : List Value)
        → Keeps (go words)) → Keeps (words_of letter v Stick go)
    on_words Reference (Num z) go h = tt
    on_words Reference Null go h = h (Null ∷ [])
    on_words Reference (Obj k) go h = h (Obj k ∷ [])
    on_words Byte (Num z) go h = on_if (is_word z) _ Stick (h (Num z ∷ [])) tt
    on_words Byte Null go h = tt
    on_words Byte (Obj k) go h = tt
    on_words Short (Num z) go h = on_if (is_word z) _ Stick (h (Num z ∷ [])) tt
    on_words Short Null go h = tt
    on_words Short (Obj k) go h = tt
    on_words Int (Num z) go h = h (int_words z)
    on_words Int Null go h = tt
    on_words Int (Obj k) go h = tt

    on_some : {A : Type 0} (o : Option A) (go : A → Effect C F M X) → ((x : A) → o ≡ Some x → Keeps (go x))
        → Keeps (with_some Stick o go)
    on_some None go h = tt
    on_some (Some x) go h = h x refl

    on_item : {A : Type 0} (items : List A) (i : ℤ) (go : ℕ → A → Effect C F M X) → ((n : ℕ) (x : A) → Keeps (go n x))
        → Keeps (item_at (Raise IndexOutside) items i go)
    on_item {A = A} items (negsuc i) go h = tt
    on_item {A = A} items (pos i) go h = by (slice_get items i)
      where
        by : (o : Option A) → Keeps (with_some (Raise IndexOutside) o (go i))
        by None = tt
        by (Some x) = h i x

    on_thing : (heap : List (HeapObject C F)) (v : Value) (go : ℕ → HeapObject C F → Effect C F M X)
        → KnownHeap known heap → ((k : ℕ) (t : HeapObject C F) → KnownHeapObject known t → Keeps (go k t))
        → Keeps (thing_of heap v go)
    on_thing heap (Num x) go kh h = tt
    on_thing heap Null go kh h = tt
    on_thing heap (Obj k) go kh h = on_some (slice_get heap k) (go k) (λ t e. h k t (get_known known k t kh e))

    on_object : (t : HeapObject C F) (go : C → List (Slot F) → Effect C F M X) → KnownHeapObject known t
        → ((c : C) (slots : List (Slot F)) → KnownHeapObject known (Object c slots) → Keeps (go c slots))
        → Keeps (object_in go t)
    on_object (Numbers element items) go kt h = tt
    on_object (References c items) go kt h = tt
    on_object (Object c slots) go kt h = h c slots kt

    on_numbers : (letter : Letter) (t : HeapObject C F) (go : Element → List ℤ → Effect C F M X)
        → ((element : Element) (items : List ℤ) → Keeps (go element items)) → Keeps (numbers_in letter go t)
    on_numbers letter (Numbers element items) go h = on_if (is_element letter element) _ _ (h element items) tt
    on_numbers letter (References c items) go h = tt
    on_numbers letter (Object c slots) go h = tt

    on_references : (t : HeapObject C F) (go : C → List Value → Effect C F M X) → KnownHeapObject known t
        → ((c : C) (items : List Value) → known.class c → Keeps (go c items)) → Keeps (references_in go t)
    on_references (Numbers element items) go kt h = tt
    on_references (References c items) go (references_known kc) h = h c items kc
    on_references (Object c slots) go kt h = tt

    on_length : (t : HeapObject C F) (go : ℕ → Effect C F M X) → ((n : ℕ) → Keeps (go n)) → Keeps (length_in go t)
    on_length (Numbers element items) go h = h (length items)
    on_length (References c items) go h = h (length items)
    on_length (Object c slots) go h = tt

    thing_put : (m : Memory C F X) (k : ℕ) (t : HeapObject C F) → KnownMemory known m → KnownHeapObject known t
        → KnownMemory known (with_thing m k t)
    thing_put m k t km kt = record { heap = set_known known k t km.heap kt; statics = km.statics }

    on_onward : (words : List Value) (room next : ℕ) (locals : List (Option Value)) (m : Memory C F X)
        (rest : List Value) → KnownMemory known m → Keeps (onward words room next locals m rest)
    on_onward words room next locals m rest km = on_if (nat_le (length (words ++ rest)) room) (Go next (words
        ++ rest) locals m) Stick km tt

    on_made : (t : HeapObject C F) (room next : ℕ) (locals : List (Option Value)) (m : Memory C F X) (rest : List Value)
        → KnownMemory known m → KnownHeapObject known t → Keeps (made t room next locals m rest)
    on_made t room next locals m rest km kt =
        on_onward (Obj (length m.heap) ∷ []) room next locals (record m { heap = m.heap ++ t ∷ [] }) rest
        (record { heap = last_known known t km.heap kt; statics = km.statics })

    on_result : (r : Result) (next : ℕ) (m : Memory C F X) → KnownMemory known m → Keeps (effect_of_result r next m)
    on_result (Fine stack locals) next m km = km
    on_result (Fails fault) next m km = tt
    on_result Wrong next m km = tt

    on_choice : (c : Choice) (place next : ℕ) (locals : List (Option Value)) (m : Memory C F X) → KnownMemory known m
        → Keeps (chosen c place next locals m)
    on_choice (Takes true rest) place next locals m km = km
    on_choice (Takes false rest) place next locals m km = km
    on_choice Neither place next locals m km = tt

    on_thrown : (v : Value) → Keeps (thrown v)
    on_thrown (Num x) = tt
    on_thrown Null = tt
    on_thrown (Obj k) = tt

    on_returned : (letter : Option Letter) (stack : List Value) → Keeps (returned letter stack)
    on_returned None stack = tt
    on_returned (Some Reference) stack = on_reference stack _ (λ v rest. tt)
    on_returned (Some Byte) stack = on_number stack _ (λ x rest. tt)
    on_returned (Some Short) stack = on_number stack _ (λ x rest. tt)
    on_returned (Some Int) [] = tt
    on_returned (Some Int) (Null ∷ stack) = tt
    on_returned (Some Int) (Obj k ∷ stack) = tt
    on_returned (Some Int) (Num low ∷ []) = tt
    on_returned (Some Int) (Num low ∷ Null ∷ stack) = tt
    on_returned (Some Int) (Num low ∷ Obj k ∷ stack) = tt
    on_returned (Some Int) (Num low ∷ Num high ∷ stack) = tt

    on_receiver : (this : Bool) (locals : List (Option Value)) (stack : List Value) (go : Value → List Value
        → Effect C F M X) → ((v : Value) (rest : List Value) → Keeps (go v rest))
        → Keeps (receiver this locals stack go)
    on_receiver false locals stack go h = on_value stack go h
    on_receiver true locals stack go h = on_some (slice_get locals 0) _ (λ o e. on_some o _ (λ v f. h v stack))

    on_counted : (stack : List Value) (go : ℕ → List Value → Effect C F M X) → ((n : ℕ) (rest : List Value)
        → Keeps (go n rest)) → Keeps (counted stack go)
    on_counted stack go h = on_number stack _ (λ n rest. by n rest)
      where
        by : (n : ℤ) (rest : List Value) → Keeps (sized n (λ k. go k rest))
        by (pos n) rest = h n rest
        by (negsuc n) rest = tt

    on_kept : (heap : List (HeapObject C F)) (c : C) (v : Value) (a : Effect C F M X) → Keeps a
        → Keeps (kept classes heap c v a)
    on_kept heap c (Num x) a h = tt
    on_kept heap c Null a h = h
    on_kept heap c (Obj k) a h = on_some (slice_get heap k) _ (λ t e. on_if (classes.is_of (shape t) (OfClass c)) a
        (Raise ArrayStore) h tt)

    load_keeps : (letter : Letter) (room next : ℕ) (locals : List (Option Value)) (m : Memory C F X)
        (stack : List Value) → KnownMemory known m → Keeps (load_number classes letter room next locals m stack)
    load_keeps letter room next locals m stack km =
        on_number stack _ (λ i below. on_value below _ (λ r rest. on_thing m.heap r _ km.heap
        (λ k t kt. on_numbers letter t _ (λ element items.
        on_item items i _ (λ n x. on_words letter (Num x) _ (λ words. on_onward words room next locals m rest km))))))

    store_keeps : (letter : Letter) (next : ℕ) (locals : List (Option Value)) (m : Memory C F X) (stack : List Value)
        → KnownMemory known m → Keeps (store_number classes letter next locals m stack)
    store_keeps letter next locals m stack km =
        on_operand letter stack _ (λ v under op. on_number under _ (λ i below. on_value below _
        (λ r rest. on_thing m.heap r _ km.heap (λ k t kt. on_numbers letter t _ (λ element items.
        on_item items i _ (λ n old. thing_put m k (Numbers element (slice_set items n (item_of v))) km
        numbers_known))))))

    touch_keeps : (access : Access) (room next : ℕ) (locals : List (Option Value)) (m : Memory C F X)
        (stack : List Value) → KnownMemory known m → Keeps (effect_of_access classes access room next locals m stack)
    touch_keeps (Load Reference) room next locals m stack km =
        on_number stack _ (λ i below. on_value below _ (λ r rest. on_thing m.heap r _ km.heap (λ k t kt. on_references t
        _ kt (λ c items kc.
        on_item items i _ (λ n v. on_onward (v ∷ []) room next locals m rest km)))))
    touch_keeps (Load Byte) room next locals m stack km = load_keeps Byte room next locals m stack km
    touch_keeps (Load Short) room next locals m stack km = load_keeps Short room next locals m stack km
    touch_keeps (Load Int) room next locals m stack km = load_keeps Int room next locals m stack km
    touch_keeps (Store Reference) room next locals m stack km =
        on_reference stack _ (λ v under. on_number under _ (λ i below. on_value below _ (λ r rest. on_thing m.heap r _
        km.heap (λ k t kt. on_references t _ kt (λ c items kc.
        on_item items i _ (λ n old. on_kept m.heap c v
        (Go next rest locals (with_thing m k (References c (slice_set items n v))))
        (thing_put m k (References c (slice_set items n v)) km (references_known kc))))))))
    touch_keeps (Store Byte) room next locals m stack km = store_keeps Byte next locals m stack km
    touch_keeps (Store Short) room next locals m stack km = store_keeps Short next locals m stack km
    touch_keeps (Store Int) room next locals m stack km = store_keeps Int next locals m stack km
    touch_keeps Length room next locals m stack km =
        on_value stack _ (λ r rest. on_thing m.heap r _ km.heap (λ k t kt. on_length t
        (λ n. Go next (Num (low_word (pos n)) ∷ rest) locals m) (λ n. km)))
    touch_keeps Throw room next locals m stack km = on_value stack _ (λ r rest. on_thrown r)
    touch_keeps (Return letter) room next locals m stack km = on_returned letter stack

    cast_keeps : (target : Shape C) (next : ℕ) (locals : List (Option Value)) (m : Memory C F X) (stack : List Value)
        → KnownMemory known m → Keeps (cast classes target next locals m stack)
    cast_keeps target next locals m [] km = tt
    cast_keeps target next locals m (Num x ∷ rest) km = tt
    cast_keeps target next locals m (Null ∷ rest) km = km
    cast_keeps target next locals m (Obj k ∷ rest) km =
        on_some (slice_get m.heap k) _ (λ t e. on_if (classes.is_of (shape t) target) (Go next (Obj k ∷ rest) locals m)
        (Raise ClassCast) km tt)

    asked_keeps : (target : Shape C) (next : ℕ) (locals : List (Option Value)) (m : Memory C F X) (stack : List Value)
        → KnownMemory known m → Keeps (asked classes target next locals m stack)
    asked_keeps target next locals m [] km = tt
    asked_keeps target next locals m (Num x ∷ rest) km = tt
    asked_keeps target next locals m (Null ∷ rest) km = km
    asked_keeps target next locals m (Obj k ∷ rest) km = on_some (slice_get m.heap k) _ (λ t e. km)

    on_slot : (o : Option Value) (v : Value) (a : Effect C F M X) → Keeps a → Keeps (put_slot classes o v a)
    on_slot None v a h = tt
    on_slot (Some old) v a h = on_if (same_kind old v) a Stick h tt

    put_known : {c : C} {held : List (Slot F)} (f : F) (v : Value) → KnownHeapObject known (Object c held)
        → KnownHeapObject known (Object c (slots_with classes.same_field held f v))
    put_known {c = c} {held = held} f v (object_known kc ko) =
        object_known kc (subst (known.object c) (sym (keys_same classes.same_field held f v)) ko)

    pub effect_keeps : (d : Operation C F S M) (room next : ℕ) (locals : List (Option Value)) (m : Memory C F X)
        (stack : List Value) → KnownMemory known m → KnownOperation known KnownMethod d
        → Keeps (effect classes d room next locals m stack)
    effect_keeps (Do calculation) room next locals m stack km kd = on_result (calculation room locals stack) next m km
    effect_keeps (Branch test place) room next locals m stack km kd = on_choice (test stack) place next locals m km
    effect_keeps (Pick false other arms) room next locals m stack km kd = on_number stack _ (λ x rest. km)
    effect_keeps (Pick true other arms) room next locals m stack km kd = on_two stack _ (λ high low rest. km)
    effect_keeps (Touch access) room next locals m stack km kd = touch_keeps access room next locals m stack km
    effect_keeps (Get this letter f) room next locals m stack km kd =
        on_receiver this locals stack _ (λ r rest. on_thing m.heap r _ km.heap (λ k t kt. on_object t _ kt (λ c held ko.
        on_some (slot_of classes.same_field held f) _ (λ v e. on_words letter v _ (λ words. on_onward words room next
        locals m rest km)))))
    effect_keeps (Put this letter f) room next locals m stack km kd =
        on_operand letter stack _ (λ v below op. on_receiver this locals below _ (λ r rest. on_thing m.heap r _ km.heap
        (λ k t kt. on_object t _ kt (λ c held ko.
        on_slot (slot_of classes.same_field held f) v
        (Go next rest locals (with_thing m k (Object c (slots_with classes.same_field held f v))))
        (thing_put m k (Object c (slots_with classes.same_field held f v)) km (put_known f v ko))))))
    effect_keeps (GetStatic letter s) room next locals m stack km kd =
        on_some (classes.get_static letter s m.statics) _ (λ v e. on_words letter v _ (λ words. on_onward words room
        next locals m stack km))
    effect_keeps (PutStatic letter s) room next locals m stack km kd =
        on_operand letter stack _ (λ v rest op. on_some (classes.put_static letter s v m.statics) _
        (λ x e. record { heap = km.heap; statics = alike.put_known letter s v m.statics x op kd km.statics e }))
    effect_keeps (Call method) room next locals m stack km kd = kd
    effect_keeps (New c) room next locals m stack km kd =
        on_some (classes.fresh c) _ (λ held e. on_made (Object c held) room next locals m stack km
        (alike.fresh_known c held kd e))
    effect_keeps (NewNumbers element) room next locals m stack km kd =
        on_counted stack _ (λ n rest. on_made (Numbers element (replicate n (pos 0))) room next locals m rest km
        numbers_known)
    effect_keeps (NewReferences c) room next locals m stack km kd =
        on_counted stack _ (λ n rest. on_made (References c (replicate n Null)) room next locals m rest km
        (references_known kd))
    effect_keeps (Cast target) room next locals m stack km kd = cast_keeps target next locals m stack km
    effect_keeps (Ask target) room next locals m stack km kd = asked_keeps target next locals m stack km
    effect_keeps Undone room next locals m stack km kd = tt
