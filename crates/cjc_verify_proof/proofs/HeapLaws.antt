-- What instructions on arrays of numbers read.
use Rattle.std.proofs.Common.{◌≡◌, ◌||◌, ◌&&◌, inl, inr, ℕ, suc, Bool, true, false, nat_lt, nat_le}
use Rattle.std.proofs.Common.{◌==◌, List, [], ◌∷◌, ◌++◌, length, slice_get, Option, Some, None, refl, sym}
use Rattle.std.proofs.Common.{subst, arith, ℤ, pos, negsuc, leb-false, ltb-false, eqb-true}
use Rattle.std.specs.Prelude.{if◌then◌else◌, option_map}
use Rattle.std.specs.List.{list_all}
use Rattle.cjc_card_semantics.specs.Range.Words.{low_word}
use Rattle.cjc_script.specs.declared.value.Value.{Value}
use Rattle.cjc_script.specs.declared.value.Value.TheVariants.{Num, Null, Obj}
use Rattle.cjc_script.specs.Sorts.{Element, Booleans, Bytes, Shorts, Ints, Shape, OfNumbers}
use Rattle.cjc_script.specs.Sorts.{OfReferences}
use Rattle.cjc_types.specs.declared.cell.Cell.{Cell}
use Rattle.cjc_types.specs.declared.cell.Cell.TheVariants.{Number, Refs, Unusable}
use Rattle.cjc_types.specs.Names.{In}
use Rattle.cjc_types.specs.Rules.{all_types}
use Rattle.cjc_card_semantics.specs.Bytecode.Numbers.{is_word}
use Rattle.cjc_card_semantics.specs.Bytecode.Calculations.{IndexOutside}
use Rattle.cjc_card_semantics.specs.Bytecode.Effects.{Letter, Reference, Byte, Short, Int, HeapObject, Numbers}
use Rattle.cjc_card_semantics.specs.Bytecode.Effects.{References}
use Rattle.cjc_card_semantics.specs.Bytecode.Effects.{Object, Memory, Go, Raise, Stick, onward, is_element}
use Rattle.cjc_card_semantics.specs.Bytecode.Effects.{load_number, words_of, word_of, item_at, with_some, numbers_in}
use Rattle.cjc_card_semantics.specs.Bytecode.Effects.{Classes, Length, effect_of_access, length_in}
use Rattle.cjc_card_semantics.specs.Machine.Statics.{StaticCell}
use Rattle.cjc_card_semantics.specs.Bytecode.Calculations as machine
use Rattle.cjc_card_semantics.specs.Machine.Loaded.{Loaded}
use Rattle.cjc_card_semantics.specs.Machine.Classes.{Class, Field, same_element}
use Rattle.cjc_frames.specs.Types.{begins_with}
use Rattle.cjc_card_acts.specs.CardTypes.{shape_by, class_by, arrays_of, all_arrays}
use Rattle.cjc_verify_proof.specs.Words.{IsWord, AreWords, AreLocals}
use Rattle.cjc_verify_proof.specs.Heaps.{thing_is, object_is, AreItems, IsFit, AreFit, Onward, item_cells}
use Rattle.cjc_verify_proof.proofs.WordLaws.{true_of}
use Rattle.cjc_script.proofs.BytesBools.{or_cases}
use Rattle.cjc_script.proofs.BytesGets.{item_has}
use Rattle.cjc_verify_proof.proofs.WordLaws as words

-- ---- truths

-- each of the types of a cell passes
pub passes_in : (p : List ℕ → Bool) (names : List (List ℕ)) (n : List ℕ) → list_all p names ≡ true → In n names
    → p n ≡ true
passes_in p [] n h i = absurd i
passes_in p (x ∷ xs) n h (inl e) = subst (λ y. p y ≡ true) e (both_true (p x) (list_all p xs) h).0
  where
    both_true : (a b : Bool) → (a && b) ≡ true → (a ≡ true) × (b ≡ true)
    both_true true b e = (refl, e)
    both_true false b e = cc
passes_in p (x ∷ xs) n h (inr i) = passes_in p xs n (second (p x) (list_all p xs) h) i
  where
    second : (a b : Bool) → (a && b) ≡ true → b ≡ true
    second true b e = e
    second false b e = cc

-- ---- arrays of numbers

same_is : (a b : Element) → same_element a b ≡ true → a ≡ b
same_is Booleans Booleans e = refl
same_is Bytes Bytes e = refl
same_is Shorts Shorts e = refl
same_is Ints Ints e = refl
same_is Booleans Bytes e = cc
same_is Booleans Shorts e = cc
same_is Booleans Ints e = cc
same_is Bytes Booleans e = cc
same_is Bytes Shorts e = cc
same_is Bytes Ints e = cc
same_is Shorts Booleans e = cc
same_is Shorts Bytes e = cc
same_is Shorts Ints e = cc
same_is Ints Booleans e = cc
same_is Ints Bytes e = cc
same_is Ints Shorts e = cc

-- what is there is an array of numbers of the letter
pub record IsNumbers (letter : Letter) (o : Option (HeapObject Class Field)) : Type 0 where
  pub element : Element
  pub items : List ℤ
  pub is : o ≡ Some (Numbers element items)
  pub fits : is_element letter element ≡ true

by_element : (l : Loaded) (e : Element) (letter : Letter) → is_element letter e ≡ true
    → (o : Option (HeapObject Class Field)) → thing_is l o (Some (OfNumbers e)) ≡ true → IsNumbers letter o
by_element l e letter fits None h = cc
by_element l e letter fits (Some (Numbers f items)) h = record {
  element = f;
  items = items;
  is = refl;
  fits = subst (λ x. is_element letter x ≡ true) (sym (same_is f e h)) fits;
}
by_element l e letter fits (Some (References c items)) h = cc
by_element l e letter fits (Some (Object c slots)) h = cc

by_nibble : (l : Loaded) (e : Element) (letter : Letter) → is_element letter e ≡ true → (k n : ℕ) (class : List ℕ)
    → (k == n) ≡ true → shape_by l (k ∷ class) ≡ Some (OfNumbers e) → (o : Option (HeapObject Class Field))
    → thing_is l o (shape_by l (n ∷ class)) ≡ true → IsNumbers letter o
by_nibble l e letter fits k n class same is o h =
    let at : k ≡ n = eqb-true k n same in
    by_element l e letter fits o (subst (λ s. thing_is l o s ≡ true) (subst (λ j. shape_by l (j ∷ class)
    ≡ Some (OfNumbers e)) at is) h)

-- of a card type that begins as arrays of the letter do
pub numbers_of : (l : Loaded) (letter : Letter) → (t : List ℕ) (o : Option (HeapObject Class Field))
    → (letter ≡ Reference → ⊥) → begins_with (arrays_of letter) t ≡ true → thing_is l o (shape_by l t) ≡ true
    → IsNumbers letter o
numbers_of l Reference t o other b h = absurd (other refl)
numbers_of l Byte [] o other b h = cc
numbers_of l Short [] o other b h = cc
numbers_of l Int [] o other b h = cc
numbers_of l Byte (n ∷ class) o other b h = elim (or_cases (0xA == n) ((0xB == n) || false) b) [
  | inl e ↦ by_nibble l Booleans Byte refl 0xA n class e refl o h
  | inr later ↦ elim (or_cases (0xB == n) false later) [
    | inl e ↦ by_nibble l Bytes Byte refl 0xB n class e refl o h
    | inr never ↦ cc
  ]
]
numbers_of l Short (n ∷ class) o other b h = elim (or_cases (0xC == n) false b) [
  | inl e ↦ by_nibble l Shorts Short refl 0xC n class e refl o h
  | inr never ↦ cc
]
numbers_of l Int (n ∷ class) o other b h = elim (or_cases (0xD == n) false b) [
  | inl e ↦ by_nibble l Ints Int refl 0xD n class e refl o h
  | inr never ↦ cc
]

-- ---- arrays of any kind

pub data IsArray : Option (HeapObject Class Field) → Type 0 where
  numbers : (element : Element) (items : List ℤ) → IsArray (Some (Numbers element items))
  references : (class : Class) (items : List Value) → IsArray (Some (References class items))

data IsArrayShape : Option (Shape Class) → Type 0 where
  of_numbers : (element : Element) → IsArrayShape (Some (OfNumbers element))
  of_references : (class : Option Class) → IsArrayShape (option_map OfReferences class)

array_by : (l : Loaded) (o : Option (HeapObject Class Field)) (s : Option (Shape Class)) → IsArrayShape s
    → thing_is l o s ≡ true → IsArray o
array_by l (Some (Numbers e items)) s is h = numbers e items
array_by l (Some (References c items)) s is h = references c items
array_by l (Some (Object c slots)) s (of_numbers e) h = cc
array_by l (Some (Object c slots)) s (of_references (Some d)) h = cc
array_by l (Some (Object c slots)) s (of_references None) h = cc
array_by l None s (of_numbers e) h = cc
array_by l None s (of_references (Some d)) h = cc
array_by l None s (of_references None) h = cc

array_at : (l : Loaded) (k n : ℕ) (class : List ℕ) → (k == n) ≡ true → IsArrayShape (shape_by l (k ∷ class))
    → (o : Option (HeapObject Class Field)) → thing_is l o (shape_by l (n ∷ class)) ≡ true → IsArray o
array_at l k n class same is o h = array_by l o (shape_by l (n ∷ class)) (subst (λ j. IsArrayShape (shape_by l (j
    ∷ class))) (eqb-true k n same) is) h

-- of a card type that begins as an array does
pub array_of : (l : Loaded) (t : List ℕ) (o : Option (HeapObject Class Field)) → begins_with all_arrays t ≡ true
    → thing_is l o (shape_by l t) ≡ true → IsArray o
array_of l [] o b h = cc
array_of l (n ∷ class) o b h = elim (or_cases (0xA == n) ((0xB == n) || ((0xC == n) || ((0xD == n) || ((0xE == n)
    || false)))) b) [
      | inl e ↦ array_at l 0xA n class e (of_numbers Booleans) o h
      | inr b ↦ elim (or_cases (0xB == n) ((0xC == n) || ((0xD == n) || ((0xE == n) || false))) b) [
        | inl e ↦ array_at l 0xB n class e (of_numbers Bytes) o h
        | inr b ↦ elim (or_cases (0xC == n) ((0xD == n) || ((0xE == n) || false)) b) [
          | inl e ↦ array_at l 0xC n class e (of_numbers Shorts) o h
          | inr b ↦ elim (or_cases (0xD == n) ((0xE == n) || false) b) [
            | inl e ↦ array_at l 0xD n class e (of_numbers Ints) o h
            | inr b ↦ elim (or_cases (0xE == n) false b) [
              | inl e ↦ array_at l 0xE n class e (of_references (class_by l class)) o h
              | inr never ↦ cc
            ]
          ]
        ]
      ]
    ]

-- ---- loads

module _ {X : Type 0} (l : Loaded) (room next : ℕ) (lc : List Cell) (lv : List (Option Value)) (m : Memory Class Field
    X) (k : AreLocals (object_is l m.heap) lc lv) where
  -- words that make the stack higher
  pub goes_on : (cs : List Cell) (vs : List Value) → AreWords (object_is l m.heap) cs vs → (new : List Cell)
      (ws : List Value) → AreWords (object_is l m.heap) new ws → nat_lt room (length (new ++ cs)) ≡ false
      → Onward l next (new ++ cs) lc m (onward ws room next lv m vs)
  goes_on cs vs w new ws n h = go (nat_le (length (ws ++ vs)) room) refl
    where
      both : AreWords (object_is l m.heap) (new ++ cs) (ws ++ vs)
      both = words.words_append (object_is l m.heap) new cs ws vs n w

      go : (b : Bool) → nat_le (length (ws ++ vs)) room ≡ b → Onward l next (new ++ cs) lc m
          (if b then Go next (ws ++ vs) lv m else Stick)
      go true e = (refl, (both, (k, refl)))
      go false e =
          let long = words.words_length (object_is l m.heap) (new ++ cs) (ws ++ vs) both in
          let more = leb-false (length (ws ++ vs)) room e in
          let less = ltb-false room (length (new ++ cs)) h in
          absurd (omega (arith, long, more, less))

  word_goes : (cs : List Cell) (vs : List Value) → AreWords (object_is l m.heap) cs vs
      → nat_lt room (suc (length cs)) ≡ false → (z : ℤ) → is_word z ≡ true
      → Onward l next (Number ∷ cs) lc m (word_of z Stick (λ ws. onward ws room next lv m vs))
  word_goes cs vs w h z e = go (is_word z) e
    where
      go : (b : Bool) → b ≡ true → Onward l next (Number ∷ cs) lc m (if b then onward (Num z ∷ []) room next lv m
          vs else Stick)
      go true e = goes_on cs vs w (Number ∷ []) (Num z ∷ []) (tt, tt) h
      go false e = cc

  -- an element that is read
  element_goes : (letter : Letter) (element : Element) (items : List ℤ) → is_element letter element ≡ true
      → AreItems element items → (cs : List Cell) (vs : List Value) → AreWords (object_is l m.heap) cs vs
      → nat_lt room (length (item_cells letter ++ cs)) ≡ false → (i : ℕ) (z : ℤ) → slice_get items i ≡ Some z
      → Onward l next (item_cells letter ++ cs) lc m (words_of letter (Num z) Stick (λ ws. onward ws room next lv
      m vs))
  element_goes Byte Booleans items is fit cs vs w h i z e = word_goes cs vs w h z (item_has (λ z. is_word z
      ≡ true) items
      i z fit e)
  element_goes Byte Bytes items is fit cs vs w h i z e = word_goes cs vs w h z (item_has (λ z. is_word z ≡ true) items i
      z fit e)
  element_goes Short Shorts items is fit cs vs w h i z e = word_goes cs vs w h z (item_has (λ z. is_word z ≡ true) items
      i z fit e)
  element_goes Int Ints items is fit cs vs w h i z e = goes_on cs vs w (Number ∷ Number ∷ []) (machine.int_words z)
      (tt, (tt, tt)) h
  element_goes Byte Shorts items is fit cs vs w h i z e = cc
  element_goes Byte Ints items is fit cs vs w h i z e = cc
  element_goes Short Booleans items is fit cs vs w h i z e = cc
  element_goes Short Bytes items is fit cs vs w h i z e = cc
  element_goes Short Ints items is fit cs vs w h i z e = cc
  element_goes Int Booleans items is fit cs vs w h i z e = cc
  element_goes Int Bytes items is fit cs vs w h i z e = cc
  element_goes Int Shorts items is fit cs vs w h i z e = cc
  element_goes Reference Booleans items is fit cs vs w h i z e = cc
  element_goes Reference Bytes items is fit cs vs w h i z e = cc
  element_goes Reference Shorts items is fit cs vs w h i z e = cc
  element_goes Reference Ints items is fit cs vs w h i z e = cc

  index_goes : (letter : Letter) (element : Element) (items : List ℤ) → is_element letter element ≡ true
      → AreItems element items → (cs : List Cell) (vs : List Value) → AreWords (object_is l m.heap) cs vs
      → nat_lt room (length (item_cells letter ++ cs)) ≡ false → (i : ℤ)
      → Onward l next (item_cells letter ++ cs) lc m (item_at (Raise IndexOutside) items i (λ n x. words_of letter
      (Num x) Stick (λ ws. onward ws room next lv m vs)))
  index_goes letter element items is fit cs vs w h (negsuc i) = tt
  index_goes letter element items is fit cs vs w h (pos i) = go (slice_get items i) refl
    where
      go : (o : Option ℤ) → slice_get items i ≡ o → Onward l next (item_cells letter ++ cs) lc m
          (with_some (Raise IndexOutside) o (λ x. words_of letter (Num x) Stick (λ ws. onward ws room next lv m vs)))
      go None e = tt
      go (Some z) e = element_goes letter element items is fit cs vs w h i z e

  abbrev From : Letter → List Cell → List Value → ℤ → Option (HeapObject Class Field) → Type 0
  From letter cs vs i o = Onward l next (item_cells letter ++ cs) lc m (with_some Stick o (numbers_in letter
      (λ element items. item_at (Raise IndexOutside) items i (λ n x. words_of letter (Num x) Stick (λ ws. onward ws room
      next lv m vs)))))

  numbers_go : (letter : Letter) (cs : List Cell) (vs : List Value) → AreWords (object_is l m.heap) cs vs
      → nat_lt room (length (item_cells letter ++ cs)) ≡ false → (i : ℤ) (o : Option (HeapObject Class Field))
      → ((thing : HeapObject Class Field) → o ≡ Some thing → IsFit thing) → IsNumbers letter o
      → From letter cs vs i o
  numbers_go letter cs vs w h i o fit a = subst (From letter cs vs i) (sym a.is) (go (is_element letter a.element)
      a.fits)
    where
      go : (b : Bool) → b ≡ true → Onward l next (item_cells letter ++ cs) lc m (if b then item_at
          (Raise IndexOutside) a.items i (λ n x. words_of letter (Num x) Stick (λ ws. onward ws room next lv m vs))
          else Stick)
      go true e = index_goes letter a.element a.items a.fits (fit (Numbers a.element a.items) a.is) cs vs w h i
      go false e = cc

  module _ (classes : Classes Class Field StaticCell X) (fit : AreFit m.heap) where
    load_by : (letter : Letter) → (letter ≡ Reference → ⊥) → (i : ℤ) (c : Cell) (v : Value) (cs : List Cell)
        (vs : List Value) → all_types (begins_with (arrays_of letter)) c ≡ true → IsWord (object_is l m.heap) c v
        → AreWords (object_is l m.heap) cs vs → nat_lt room (length (item_cells letter ++ cs)) ≡ false
        → Onward l next (item_cells letter ++ cs) lc m (load_number classes letter room next lv m (Num i ∷ v ∷ vs))
    load_by letter other i Number v cs vs b is w h = cc
    load_by letter other i Unusable v cs vs b is w h = cc
    load_by letter other i (Refs names) (Num z) cs vs b is w h = absurd is
    load_by letter other i (Refs names) Null cs vs b is w h = tt
    load_by letter other i (Refs names) (Obj j) cs vs b is w h = numbers_go letter cs vs w h i (slice_get m.heap j)
        (fit j)
        (numbers_of l letter is.type (slice_get m.heap j) other (passes_in (begins_with (arrays_of letter)) names
        is.type b
        is.among) is.holds)

    -- baload, saload and iaload: with an index on top of an array of the letter
    pub loads_number : (letter : Letter) → (letter ≡ Reference → ⊥) → (c d : Cell) (cs : List Cell) (u v : Value)
        (vs : List Value) → c ≡ Number → all_types (begins_with (arrays_of letter)) d ≡ true
        → AreWords (object_is l m.heap) (c ∷ d ∷ cs) (u ∷ v ∷ vs)
        → nat_lt room (length (item_cells letter ++ cs)) ≡ false
        → Onward l next (item_cells letter ++ cs) lc m (load_number classes letter room next lv m (u ∷ v ∷ vs))
    loads_number letter other Number d cs (Num i) v vs e b w h = load_by letter other i d v cs vs b w.1.0 w.1.1 h
    loads_number letter other Number d cs Null v vs e b w h = absurd w.0
    loads_number letter other Number d cs (Obj j) v vs e b w h = absurd w.0
    loads_number letter other (Refs names) d cs u v vs e b w h = cc
    loads_number letter other Unusable d cs u v vs e b w h = cc

  -- ---- arraylength

  abbrev Counted : List Cell → List Value → Option (HeapObject Class Field) → Type 0
  Counted cs vs o = Onward l next (Number ∷ cs) lc m (with_some Stick o (length_in (λ n. Go next (Num (low_word (pos n))
      ∷ vs) lv m)))

  count_goes : (cs : List Cell) (vs : List Value) → AreWords (object_is l m.heap) cs vs
      → (o : Option (HeapObject Class Field)) → IsArray o → Counted cs vs o
  count_goes cs vs w o (numbers e items) = (refl, ((tt, w), (k, refl)))
  count_goes cs vs w o (references c items) = (refl, ((tt, w), (k, refl)))

  -- how many elements an array has is told, or null raises
  pub lengths_go : (classes : Classes Class Field StaticCell X) (c : Cell) (cs : List Cell) (v : Value)
      (vs : List Value) → all_types (begins_with all_arrays) c ≡ true → AreWords (object_is l m.heap) (c ∷ cs) (v ∷ vs)
      → Onward l next (Number ∷ cs) lc m (effect_of_access classes Length room next lv m (v ∷ vs))
  lengths_go classes Number cs v vs b w = cc
  lengths_go classes Unusable cs v vs b w = cc
  lengths_go classes (Refs names) cs (Num z) vs b w = absurd w.0
  lengths_go classes (Refs names) cs Null vs b w = tt
  lengths_go classes (Refs names) cs (Obj j) vs b w =
      let is = w.0 in
      count_goes cs vs w.1 (slice_get m.heap j) (array_of l is.type (slice_get m.heap j) (passes_in (begins_with
      all_arrays) names is.type b is.among) is.holds)
