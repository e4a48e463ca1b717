-- Instructions that make arrays, test types, and read or write arrays of references.
use Rattle.std.proofs.Common.{◌≡◌, inl, inr, ℕ, suc, Bool, true, false, nat_lt, nat_le, ◌==◌, List, []}
use Rattle.std.proofs.Common.{◌∷◌, ◌++◌, length, slice_get, slice_set, Option, Some, None, refl, sym, ap, subst}
use Rattle.std.proofs.Common.{◌∙◌, arith, ℤ, pos, negsuc, leb-false, ltb-false, eqb-true}
use Rattle.std.specs.Prelude.{if◌then◌else◌, option_map, replicate}
use Rattle.cjc_script.specs.declared.value.Value.{Value}
use Rattle.cjc_script.specs.declared.value.Value.TheVariants.{Num, Null, Obj}
use Rattle.cjc_script.specs.Sorts.{Element, Shape, OfClass, OfNumbers, OfReferences}
use Rattle.cjc_types.specs.declared.cell.Cell.{Cell}
use Rattle.cjc_types.specs.declared.cell.Cell.TheVariants.{Number, Refs, Unusable}
use Rattle.cjc_types.specs.Names.{In}
use Rattle.cjc_types.specs.Cells.{most_names}
use Rattle.cjc_types.specs.Rules.{is_reference, all_types}
use Rattle.cjc_types.specs.Working.NameLaws.{insert_new, insert_old}
use Rattle.cjc_card_semantics.specs.Bytecode.Calculations.{IndexOutside, ClassCast, ArrayStore}
use Rattle.cjc_card_semantics.specs.Bytecode.Effects.{Reference, HeapObject, Numbers, References, Object, shape, Memory}
use Rattle.cjc_card_semantics.specs.Bytecode.Effects.{Classes, Go, Raise, Stick, with_some, item_at, onward}
use Rattle.cjc_card_semantics.specs.Bytecode.Effects.{references_in, thing_of, with_thing, kept}
use Rattle.cjc_card_semantics.specs.Bytecode.Effects.{truth, sized, made, effect, NewNumbers, NewReferences, Cast, Ask}
use Rattle.cjc_card_semantics.specs.Bytecode.Effects.{load_reference_item, store_reference}
use Rattle.cjc_card_semantics.specs.Machine.Loaded.{Loaded}
use Rattle.cjc_card_semantics.specs.Machine.Classes.{Class, Field, is_kind_of, is_of}
use Rattle.cjc_card_semantics.specs.Machine.Statics.{Image, StaticCell}
use Rattle.cjc_card_semantics.specs.Machine.ByToken.{classes}
use Rattle.cjc_frames.specs.Types.{begins_with, held, with_held, elements, element_of}
use Rattle.cjc_card_acts.specs.CardTypes.{shape_by, class_by, arrays_of}
use Rattle.cjc_verify_proof.specs.Words.{IsWord, AreWords, AreLocals}
use Rattle.cjc_verify_proof.specs.Heaps.{thing_is, object_is, Onward}
use Rattle.cjc_verify_proof.specs.Growth.{AreZeros, AreNulls, Adds}
use Rattle.cjc_verify_proof.specs.References.{IsItem, AreHeld, Puts}
use Rattle.cjc_verify_proof.proofs.WordLaws as words
use Rattle.cjc_verify_proof.proofs.HeapLaws.{passes_in, goes_on}
use Rattle.cjc_verify_proof.proofs.TypeLaws.{of_itself, of_through}
use Rattle.cjc_verify_proof.proofs.GrowthLaws.{words_stay, locals_stay, object_still, pushed_extends}
use Rattle.cjc_script.proofs.BytesBools.{or_cases}
use Rattle.cjc_script.proofs.BytesGets.{at_end, item_has}

-- ---- a new array

module _ {X : Type 0} (l : Loaded) (room next : ℕ) (lc : List Cell) (lv : List (Option Value)) (m : Memory Class Field
    X) (k : AreLocals (object_is l m.heap) lc lv) (cs : List Cell) (vs : List Value)
    (w : AreWords (object_is l m.heap) cs vs) (type : List ℕ) (high : nat_lt room (suc (length cs)) ≡ false) where
  -- one thing more, whose type is that of the cell on top
  makes : (P : HeapObject Class Field → Type 0) (thing : HeapObject Class Field) → P thing
      → shape_by l type ≡ Some (shape thing) → Adds l next (Refs (type ∷ []) ∷ cs) lc m P (made thing room next lv m vs)
  makes P thing is kind = go (nat_le (suc (length vs)) room) refl
    where
      after : List (HeapObject Class Field)
      after = m.heap ++ thing ∷ []

      still : (t : List ℕ) (j : ℕ) → object_is l m.heap t j ≡ true → object_is l after t j ≡ true
      still = object_still l m.heap after (pushed_extends m.heap thing)

      new : object_is l after type (length m.heap) ≡ true
      new = subst (λ o. thing_is l o (shape_by l type) ≡ true) (sym (at_end m.heap thing))
          (subst (λ s. thing_is l (Some thing) s ≡ true) (sym kind) (of_itself l (shape thing)))

      both : AreWords (object_is l after) (Refs (type ∷ []) ∷ cs) (Obj (length m.heap) ∷ vs)
      both = (
        record { type = type; among = inl refl; holds = new },
        words_stay (object_is l m.heap) (object_is l after) still cs vs w,
      )

      go : (b : Bool) → nat_le (suc (length vs)) room ≡ b → Adds l next (Refs (type ∷ []) ∷ cs) lc m P
          (if b then Go next (Obj (length m.heap) ∷ vs) lv (record m { heap = after }) else Stick)
      go true e = (
        refl,
        (both, (locals_stay (object_is l m.heap) (object_is l after) still lc lv k, (thing, (is, refl)))),
      )
      go false e =
          let long = words.words_length (object_is l m.heap) cs vs w in
          let more = leb-false (suc (length vs)) room e in
          let less = ltb-false room (suc (length cs)) high in
          absurd (omega (arith, long, more, less))

  -- newarray, with its count
  numbers_made : (element : Element) → shape_by l type ≡ Some (OfNumbers element) → (n : ℤ)
      → Adds l next (Refs (type ∷ []) ∷ cs) lc m (AreZeros element)
      (sized n (λ i. made (Numbers element (replicate i (pos 0))) room next lv m vs))
  numbers_made element kind (negsuc n) = tt
  numbers_made element kind (pos n) = makes (AreZeros element) (Numbers element (replicate n (pos 0))) (n, refl) kind

  -- anewarray
  references_made : (class : Class) → shape_by l type ≡ Some (OfReferences class) → (n : ℤ)
      → Adds l next (Refs (type ∷ []) ∷ cs) lc m (AreNulls class)
      (sized n (λ i. made (References class (replicate i Null)) room next lv m vs))
  references_made class kind (negsuc n) = tt
  references_made class kind (pos n) = makes (AreNulls class) (References class (replicate n Null)) (n, refl) kind

module _ {X : Type 0} (l : Loaded) (room next : ℕ) (lc : List Cell) (lv : List (Option Value)) (m : Memory Class Field
    X) (k : AreLocals (object_is l m.heap) lc lv) (set : Classes Class Field StaticCell X) (type : List ℕ) where
  -- an array of zeros by the count on top
  pub makes_numbers : (element : Element) → shape_by l type ≡ Some (OfNumbers element) → (c : Cell) (cs : List Cell)
      (v : Value) (vs : List Value) → c ≡ Number → AreWords (object_is l m.heap) (c ∷ cs) (v ∷ vs)
      → nat_lt room (suc (length cs)) ≡ false
      → Adds l next (Refs (type ∷ []) ∷ cs) lc m (AreZeros element)
      (effect set (NewNumbers element) room next lv m (v ∷ vs))
  makes_numbers element kind Number cs (Num n) vs e w h = numbers_made l room next lc lv m k cs vs w.1 type h element
      kind n
  makes_numbers element kind Number cs Null vs e w h = absurd w.0
  makes_numbers element kind Number cs (Obj j) vs e w h = absurd w.0
  makes_numbers element kind (Refs names) cs v vs e w h = cc
  makes_numbers element kind Unusable cs v vs e w h = cc

  -- an array of nulls by the count on top
  pub makes_references : (class : Class) → shape_by l type ≡ Some (OfReferences class) → (c : Cell) (cs : List Cell)
      (v : Value) (vs : List Value) → c ≡ Number → AreWords (object_is l m.heap) (c ∷ cs) (v ∷ vs)
      → nat_lt room (suc (length cs)) ≡ false
      → Adds l next (Refs (type ∷ []) ∷ cs) lc m (AreNulls class)
      (effect set (NewReferences class) room next lv m (v ∷ vs))
  makes_references class kind Number cs (Num n) vs e w h = references_made l room next lc lv m k cs vs w.1 type h class
      kind n
  makes_references class kind Number cs Null vs e w h = absurd w.0
  makes_references class kind Number cs (Obj j) vs e w h = absurd w.0
  makes_references class kind (Refs names) cs v vs e w h = cc
  makes_references class kind Unusable cs v vs e w h = cc

-- ---- type tests

module _ (l : Loaded) (next : ℕ) (lc : List Cell) (lv : List (Option Value)) (m : Memory Class Field (List Image))
    (k : AreLocals (object_is l m.heap) lc lv) (cs : List Cell) (vs : List Value)
    (w : AreWords (object_is l m.heap) cs vs) where
  -- what is cast is of the type
  cast_goes : (type : List ℕ) (target : Shape Class) → shape_by l type ≡ Some target → (names : List (List ℕ)) (j : ℕ)
      (o : Option (HeapObject Class Field)) → slice_get m.heap j ≡ o → (s : Option (Shape Class))
      → thing_is l o s ≡ true
      → Onward l next (Refs (type ∷ []) ∷ cs) lc m (with_some Stick o (λ thing. if is_of l (shape thing) target
      then Go next (Obj j ∷ vs) lv m else Raise ClassCast))
  cast_goes type target kind names j None at s e = none s e
    where
      none : (s : Option (Shape Class)) → thing_is l None s ≡ true → ⊥
      none (Some a) e = cc
      none None e = cc
  cast_goes type target kind names j (Some thing) at s e = go (is_of l (shape thing) target) refl
    where
      go : (b : Bool) → is_of l (shape thing) target ≡ b → Onward l next (Refs (type ∷ []) ∷ cs) lc m
          (if b then Go next (Obj j ∷ vs) lv m else Raise ClassCast)
      go false is = tt
      go true is = (
        refl,
        (
          (
            record {
              type = type;
              among = inl refl;
              holds = subst (λ o. thing_is l o (shape_by l type) ≡ true) (sym at)
                  (subst (λ s. thing_is l (Some thing) s ≡ true) (sym kind) is);
            },
            w,
          ),
          (k, refl),
        ),
      )

  asked_goes : (target : Shape Class) (o : Option (HeapObject Class Field)) (s : Option (Shape Class))
      → thing_is l o s ≡ true
      → Onward l next (Number ∷ cs) lc m (with_some Stick o (λ thing. Go next (Num (truth (is_of l (shape thing)
      target)) ∷ vs) lv m))
  asked_goes target None s e = none s e
    where
      none : (s : Option (Shape Class)) → thing_is l None s ≡ true → ⊥
      none (Some a) e = cc
      none None e = cc
  asked_goes target (Some thing) s e = (refl, ((tt, w), (k, refl)))

module _ (l : Loaded) (room next : ℕ) (lc : List Cell) (lv : List (Option Value)) (m : Memory Class Field (List Image))
    (k : AreLocals (object_is l m.heap) lc lv) (target : Shape Class) where
  -- checkcast
  pub casts : (type : List ℕ) → shape_by l type ≡ Some target → (c : Cell) (cs : List Cell) (v : Value)
      (vs : List Value) → is_reference c ≡ true → AreWords (object_is l m.heap) (c ∷ cs) (v ∷ vs)
      → Onward l next (Refs (type ∷ []) ∷ cs) lc m (effect (classes l) (Cast target) room next lv m (v ∷ vs))
  casts type kind Number cs v vs e w = cc
  casts type kind Unusable cs v vs e w = cc
  casts type kind (Refs names) cs (Num z) vs e w = absurd w.0
  casts type kind (Refs names) cs Null vs e w = (refl, ((tt, w.1), (k, refl)))
  casts type kind (Refs names) cs (Obj j) vs e w =
      let is = w.0 in
      cast_goes l next lc lv m k cs vs w.1 type target kind names j (slice_get m.heap j) refl (shape_by l is.type)
      is.holds

  -- instanceof
  pub asks : (c : Cell) (cs : List Cell) (v : Value) (vs : List Value) → is_reference c ≡ true
      → AreWords (object_is l m.heap) (c ∷ cs) (v ∷ vs)
      → Onward l next (Number ∷ cs) lc m (effect (classes l) (Ask target) room next lv m (v ∷ vs))
  asks Number cs v vs e w = cc
  asks Unusable cs v vs e w = cc
  asks (Refs names) cs (Num z) vs e w = absurd w.0
  asks (Refs names) cs Null vs e w = (refl, ((tt, w.1), (k, refl)))
  asks (Refs names) cs (Obj j) vs e w =
      let is = w.0 in
      asked_goes l next lc lv m k cs vs w.1 target (slice_get m.heap j) (shape_by l is.type) is.holds

-- ---- arrays of references

held_old : (found : Option (List ℕ)) (types : List (List ℕ)) (n : List ℕ) → In n types → In n (with_held found types)
held_old None types n h = h
held_old (Some type) types n h = insert_old type n types h

elements_old : (xs types : List (List ℕ)) (n : List ℕ) → In n types → In n (elements xs types)
elements_old [] types n h = h
elements_old (x ∷ xs) types n h = elements_old xs (with_held (held x) types) n (held_old (held x) types n h)

-- what an array holds is among the elements
elements_new : (xs types : List (List ℕ)) (m n : List ℕ) → In m xs → held m ≡ Some n → In n (elements xs types)
elements_new [] types m n h is = absurd h
elements_new (x ∷ xs) types m n (inl same) is = elements_old xs (with_held (held x) types) n
    (subst (λ (o : Option (List ℕ)). In n (with_held o types)) (sym (ap held same ∙ is)) (insert_new n types))
elements_new (x ∷ xs) types m n (inr later) is = elements_new xs (with_held (held x) types) m n later is

-- what is there is an array of references to a class that is of the class of the type's elements
pub record AreReferences (l : Loaded) (t : List ℕ) (o : Option (HeapObject Class Field)) : Type 0 where
  pub class : Class
  pub items : List Value
  pub is : o ≡ Some (References class items)
  pub element : List ℕ
  pub named : Class
  pub holds : held t ≡ Some element
  pub means : shape_by l element ≡ Some (OfClass named)
  pub below : is_kind_of l class named ≡ true

references_by : (l : Loaded) (t element : List ℕ) → held t ≡ Some element → (d : Option Class)
    → shape_by l element ≡ option_map OfClass d → (o : Option (HeapObject Class Field))
    → thing_is l o (option_map OfReferences d) ≡ true → AreReferences l t o
references_by l t element h None means None e = cc
references_by l t element h None means (Some thing) e = cc
references_by l t element h (Some d) means None e = cc
references_by l t element h (Some d) means (Some (Numbers f items)) e = cc
references_by l t element h (Some d) means (Some (Object c slots)) e = cc
references_by l t element h (Some d) means (Some (References c items)) e = record {
  class = c;
  items = items;
  is = refl;
  element = element;
  named = d;
  holds = h;
  means = means;
  below = e;
}

-- of a card type that begins as arrays of references do
pub references_of : (l : Loaded) (t : List ℕ) (o : Option (HeapObject Class Field))
    → begins_with (arrays_of Reference) t ≡ true → thing_is l o (shape_by l t) ≡ true → AreReferences l t o
references_of l [] o b h = cc
references_of l (n ∷ class) o b h = elim (or_cases (0xE == n) false b) [
  | inl e ↦ (let at : 0xE ≡ n = eqb-true 0xE n e in
      subst (λ i. thing_is l o (shape_by l (i ∷ class)) ≡ true → AreReferences l (i ∷ class) o) at
      (references_by l (0xE ∷ class) (0x6 ∷ class) refl (class_by l class) refl o) h)
  | inr never ↦ cc
]

module _ (l : Loaded) (heap : List (HeapObject Class Field)) where
  -- an element of such an array is a word of the elements' cell
  element_word : (names : List (List ℕ)) (t element : List ℕ) → In t names → held t ≡ Some element →
      (class named : Class)
      → shape_by l element ≡ Some (OfClass named) → is_kind_of l class named ≡ true → (v : Value)
      → IsItem l heap class v → IsWord (object_is l heap) (element_of (Refs names)) v
  element_word names t element among h class named means below v i = go (nat_le (length (elements names []))
      most_names)
    where
      of_named : (o : Option (HeapObject Class Field)) → thing_is l o (Some (OfClass class)) ≡ true
          → thing_is l o (Some (OfClass named)) ≡ true
      of_named None e = cc
      of_named (Some thing) e = of_through l (shape thing) (OfClass class) (OfClass named) e below

      word : (v : Value) → IsItem l heap class v → IsWord (object_is l heap) (Refs (elements names [])) v
      word (Num z) i = absurd i
      word Null i = tt
      word (Obj j) i = record {
        type = element;
        among = elements_new names [] t element among h;
        holds = subst (λ s. thing_is l (slice_get heap j) s ≡ true) (sym means) (of_named (slice_get heap j) i);
      }

      go : (b : Bool) → IsWord (object_is l heap) (if b then Refs (elements names []) else Unusable) v
      go true = word v i
      go false = tt

module _ {X : Type 0} (l : Loaded) (room next : ℕ) (lc : List Cell) (lv : List (Option Value)) (m : Memory Class Field
    X) (k : AreLocals (object_is l m.heap) lc lv) (held_all : AreHeld l m.heap) (cs : List Cell) (vs : List Value)
    (w : AreWords (object_is l m.heap) cs vs) where
  abbrev Loads : Cell → ℤ → Option (HeapObject Class Field) → Type 0
  Loads c i o = Onward l next (c ∷ cs) lc m (with_some Stick o (references_in (λ class items. item_at (Raise
      IndexOutside) items i (λ n v. onward (v ∷ []) room next lv m vs))))

  item_loaded : (c : Cell) (items : List Value) → ((v : Value) (n : ℕ) → slice_get items n ≡ Some v
      → IsWord (object_is l m.heap) c v) → nat_lt room (suc (length cs)) ≡ false → (i : ℤ)
      → Onward l next (c ∷ cs) lc m (item_at (Raise IndexOutside) items i (λ n v. onward (v ∷ []) room next lv m vs))
  item_loaded c items typed h (negsuc i) = tt
  item_loaded c items typed h (pos i) = go (slice_get items i) refl
    where
      go : (o : Option Value) → slice_get items i ≡ o → Onward l next (c ∷ cs) lc m (with_some (Raise IndexOutside) o
          (λ v. onward (v ∷ []) room next lv m vs))
      go None e = tt
      go (Some v) e = goes_on l room next lc lv m k cs vs w (c ∷ []) (v ∷ []) (typed v i e, tt) h

  reference_loaded : (names : List (List ℕ)) (t : List ℕ) → In t names → nat_lt room (suc (length cs)) ≡ false
      → (j : ℕ) (i : ℤ) → AreReferences l t (slice_get m.heap j)
      → Loads (element_of (Refs names)) i (slice_get m.heap j)
  reference_loaded names t among h j i a = subst (Loads (element_of (Refs names)) i) (sym a.is)
      (item_loaded (element_of (Refs names)) a.items (λ v n e. element_word l m.heap names t a.element among a.holds
      a.class a.named a.means a.below v (item_has (IsItem l m.heap a.class) a.items n v (held_all j (References a.class
      a.items) a.is) e)) h i)

  load_by : (i : ℤ) (c : Cell) (v : Value) → all_types (begins_with (arrays_of Reference)) c ≡ true
      → IsWord (object_is l m.heap) c v → nat_lt room (suc (length cs)) ≡ false
      → (set : Classes Class Field StaticCell X)
      → Onward l next (element_of c ∷ cs) lc m (load_reference_item set room next lv m (Num i ∷ v ∷ vs))
  load_by i Number v b is h set = cc
  load_by i Unusable v b is h set = cc
  load_by i (Refs names) (Num z) b is h set = absurd is
  load_by i (Refs names) Null b is h set = tt
  load_by i (Refs names) (Obj j) b is h set = reference_loaded names is.type is.among h j i
      (references_of l is.type (slice_get m.heap j) (passes_in (begins_with (arrays_of Reference)) names is.type b
      is.among) is.holds)

module _ {X : Type 0} (l : Loaded) (room next : ℕ) (lc : List Cell) (lv : List (Option Value)) (m : Memory Class Field
    X) (k : AreLocals (object_is l m.heap) lc lv) (held_all : AreHeld l m.heap) where
  -- aaload: with an index on top of an array of references
  pub loads_reference : (set : Classes Class Field StaticCell X) (c d : Cell) (cs : List Cell) (u v : Value)
      (vs : List Value) → c ≡ Number → all_types (begins_with (arrays_of Reference)) d ≡ true
      → AreWords (object_is l m.heap) (c ∷ d ∷ cs) (u ∷ v ∷ vs) → nat_lt room (suc (length cs)) ≡ false
      → Onward l next (element_of d ∷ cs) lc m (load_reference_item set room next lv m (u ∷ v ∷ vs))
  loads_reference set Number d cs (Num i) v vs e b w h = load_by l room next lc lv m k held_all cs vs w.1.1 i d v b
      w.1.0 h set
  loads_reference set Number d cs Null v vs e b w h = absurd w.0
  loads_reference set Number d cs (Obj j) v vs e b w h = absurd w.0
  loads_reference set (Refs names) d cs u v vs e b w h = cc
  loads_reference set Unusable d cs u v vs e b w h = cc

-- ---- aastore

-- a value that may be stored: null, or an object that is there
data IsStored (heap : List (HeapObject Class Field)) : Value → Type 0 where
  a_null : IsStored heap Null
  an_object : (i : ℕ) (thing : HeapObject Class Field) → slice_get heap i ≡ Some thing → IsStored heap (Obj i)

-- what is of a type is there
is_there : (l : Loaded) (heap : List (HeapObject Class Field)) (j : ℕ) (s : Option (Shape Class))
    → thing_is l (slice_get heap j) s ≡ true → IsStored heap (Obj j)
is_there l heap j s e = go (slice_get heap j) refl s e
  where
    go : (o : Option (HeapObject Class Field)) → slice_get heap j ≡ o → (s : Option (Shape Class))
        → thing_is l o s ≡ true → IsStored heap (Obj j)
    go (Some thing) at s e = an_object j thing at
    go None at (Some a) e = cc
    go None at None e = cc

module _ (l : Loaded) (next : ℕ) (lc : List Cell) (lv : List (Option Value)) (m : Memory Class Field (List Image))
    (k : AreLocals (object_is l m.heap) lc lv) (cs : List Cell) (vs : List Value)
    (w : AreWords (object_is l m.heap) cs vs) where
  -- an element that fits is put
  put : (j : ℕ) (class : Class) (items : List Value) (n : ℕ) (x : Value)
      → slice_get m.heap j ≡ Some (References class items) → IsItem l m.heap class x
      → Puts l next cs lc m (Go next vs lv (with_thing m j (References class (slice_set items n x))))
  put j class items n x at i = (
    refl,
    (
      w,
      (
        k,
        record {
          array = j;
          class = class;
          items = items;
          index = n;
          value = x;
          there = at;
          fits = i;
          is = refl;
        },
      ),
    ),
  )

  object_put : (j : ℕ) (class : Class) (items : List Value) (n i : ℕ)
      → slice_get m.heap j ≡ Some (References class items) → (o : Option (HeapObject Class Field))
      → slice_get m.heap i ≡ o → (thing : HeapObject Class Field) → o ≡ Some thing
      → Puts l next cs lc m (with_some Stick o (λ thing. if is_of l (shape thing) (OfClass class)
      then Go next vs lv (with_thing m j (References class (slice_set items n (Obj i)))) else Raise ArrayStore))
  object_put j class items n i at None there thing e = cc
  object_put j class items n i at (Some t) there thing e = go (is_of l (shape t) (OfClass class)) refl
    where
      go : (b : Bool) → is_of l (shape t) (OfClass class) ≡ b → Puts l next cs lc m
          (if b then Go next vs lv (with_thing m j (References class (slice_set items n
          (Obj i)))) else Raise ArrayStore)
      go false f = tt
      go true f = put j class items n (Obj i) at (subst (λ o. thing_is l o (Some (OfClass class)) ≡ true) (sym there) f)

  kept_goes : (j : ℕ) (class : Class) (items : List Value) (n : ℕ) → slice_get m.heap j ≡ Some (References class items)
      → (x : Value) → IsStored m.heap x
      → Puts l next cs lc m (kept (classes l) m.heap class x (Go next vs lv (with_thing m j (References class
      (slice_set items n x)))))
  kept_goes j class items n at _ a_null = put j class items n Null at tt
  kept_goes j class items n at _ (an_object i thing there) = object_put j class items n i at (slice_get m.heap i) refl
      thing there

  abbrev Stores : Value → (j : ℕ) (i : ℤ) → Option (HeapObject Class Field) → Type 0
  Stores x j i o = Puts l next cs lc m (with_some Stick o (references_in (λ class items. item_at (Raise IndexOutside)
      items i (λ n old. kept (classes l) m.heap class x (Go next vs lv (with_thing m j (References class
      (slice_set items n x))))))))

  item_stored : (x : Value) → IsStored m.heap x → (j : ℕ) (i : ℤ) (class : Class) (items : List Value)
      → slice_get m.heap j ≡ Some (References class items)
      → Puts l next cs lc m (item_at (Raise IndexOutside) items i (λ n old. kept (classes l) m.heap class x
      (Go next vs lv (with_thing m j (References class (slice_set items n x))))))
  item_stored x s j (negsuc i) class items at = tt
  item_stored x s j (pos i) class items at = go (slice_get items i)
    where
      go : (o : Option Value) → Puts l next cs lc m (with_some (Raise IndexOutside) o (λ old. kept (classes l) m.heap
          class x (Go next vs lv (with_thing m j (References class (slice_set items i x))))))
      go None = tt
      go (Some old) = kept_goes j class items i at x s

  reference_stored : (x : Value) → IsStored m.heap x → (t : List ℕ) (j : ℕ) (i : ℤ)
      → AreReferences l t (slice_get m.heap j) → Stores x j i (slice_get m.heap j)
  reference_stored x s t j i a = subst (Stores x j i) (sym a.is) (item_stored x s j i a.class a.items a.is)

  store_by : (x : Value) → IsStored m.heap x → (i : ℤ) (c : Cell) (v : Value)
      → all_types (begins_with (arrays_of Reference)) c ≡ true → IsWord (object_is l m.heap) c v
      → Puts l next cs lc m (thing_of m.heap v (λ j. references_in (λ class items. item_at (Raise IndexOutside) items i
      (λ n old. kept (classes l) m.heap class x (Go next vs lv (with_thing m j (References class (slice_set items n
      x))))))))
  store_by x s i Number v b is = cc
  store_by x s i Unusable v b is = cc
  store_by x s i (Refs names) (Num z) b is = absurd is
  store_by x s i (Refs names) Null b is = tt
  store_by x s i (Refs names) (Obj j) b is = reference_stored x s is.type j i (references_of l is.type
      (slice_get m.heap j) (passes_in (begins_with (arrays_of Reference)) names is.type b is.among) is.holds)

module _ (l : Loaded) (next : ℕ) (lc : List Cell) (lv : List (Option Value)) (m : Memory Class Field (List Image))
    (k : AreLocals (object_is l m.heap) lc lv) where
  -- a reference on top of an index on top of an array of references
  pub stores_reference : (b c d : Cell) (cs : List Cell) (t u v : Value) (vs : List Value) → is_reference b ≡ true
      → c ≡ Number → all_types (begins_with (arrays_of Reference)) d ≡ true
      → AreWords (object_is l m.heap) (b ∷ c ∷ d ∷ cs) (t ∷ u ∷ v ∷ vs)
      → Puts l next cs lc m (store_reference (classes l) next lv m (t ∷ u ∷ v ∷ vs))
  stores_reference Number c d cs t u v vs r e a w = cc
  stores_reference Unusable c d cs t u v vs r e a w = cc
  stores_reference (Refs names) (Refs others) d cs t u v vs r e a w = cc
  stores_reference (Refs names) Unusable d cs t u v vs r e a w = cc
  stores_reference (Refs names) Number d cs t Null v vs r e a w = absurd w.1.0
  stores_reference (Refs names) Number d cs t (Obj j) v vs r e a w = absurd w.1.0
  stores_reference (Refs names) Number d cs (Num z) (Num i) v vs r e a w = absurd w.0
  stores_reference (Refs names) Number d cs Null (Num i) v vs r e a w = store_by l next lc lv m k cs vs w.1.1.1 Null
      a_null i d v a w.1.1.0
  stores_reference (Refs names) Number d cs (Obj j) (Num i) v vs r e a w =
      let is = w.0 in
      store_by l next lc lv m k cs vs w.1.1.1 (Obj j) (is_there l m.heap j (shape_by l is.type) is.holds) i d v a
      w.1.1.0
