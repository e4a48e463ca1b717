-- Acts of a script leave a heap on which words and frames stay typed.
use Rattle.std.proofs.Common.{◌≡◌, ap, ◌⊎◌, ◌&&◌, inl, inr, ℕ, zero, suc, Bool, true, false, nat_lt, nat_le, List, []}
use Rattle.std.proofs.Common.{◌∷◌, ◌++◌, length, slice_get, slice_set, Option, Some, None, refl, sym, subst}
use Rattle.std.proofs.Common.{◌∙◌, arith, ℤ, pos, negsuc, ◌≤ℤ◌, ◌+◌}
use Rattle.std.specs.Prelude.{if◌then◌else◌, option_map, option_and_then, replicate}
use Rattle.std.specs.Int.RustNames.{int_le}
use Rattle.std.proofs.lemmas.Int.{ints}
use Rattle.std.proofs.lemmas.Bool.{and_from}
use Rattle.std.proofs.lemmas.List.Elements.{All-set, All-weaker, All-replicate}
use Rattle.cjc_card_semantics.specs.ExportFile.declared.tree.ExportTree.{ExportTree}
use Rattle.cjc_script.specs.declared.value.Value.{Value}
use Rattle.cjc_script.specs.declared.value.Value.TheVariants.{Num, Null, Obj}
use Rattle.cjc_script.specs.declared.script.Act.{Act}
use Rattle.cjc_script.specs.declared.script.Act.TheVariants as acts
use Rattle.cjc_script.specs.Sorts.{Element, Booleans, Bytes, Shorts, Ints, Shape, OfClass, OfNumbers}
use Rattle.cjc_script.specs.Sorts.{OfReferences, shape_named, fits, element_sort, lies_in}
use Rattle.cjc_card_semantics.specs.Bytecode.Numbers.{is_word}
use Rattle.cjc_card_semantics.specs.Bytecode.Effects.{Slot, HeapObject, Numbers, References, Object, shape, Memory}
use Rattle.cjc_card_semantics.specs.Bytecode.Machine.{State, Turn, shape_of, thing_fits}
use Rattle.cjc_card_semantics.specs.Bytecode.Machine.{object_fits, sized_array, array_of, object_of, item_fits}
use Rattle.cjc_card_semantics.specs.Bytecode.Machine.{with_item, with_array, put_item, heap_with, heap_after, with_heap}
use Rattle.cjc_card_semantics.specs.Bytecode.Machine.{prepared_by, turn_after_acts}
use Rattle.cjc_card_semantics.specs.Machine.Loaded.{Loaded}
use Rattle.cjc_card_semantics.specs.Machine.Classes.{Own, Class, External, Field, external_from, external_named}
use Rattle.cjc_card_semantics.specs.Machine.Classes.{token_named, or_else, is_interface}
use Rattle.cjc_card_semantics.specs.Machine.Statics.{Image}
use Rattle.cjc_card_semantics.specs.Machine.Methods.{Code}
use Rattle.cjc_card_semantics.specs.Machine.Calls.{imported, imported_class_of}
use Rattle.cjc_card_semantics.specs.Machine.ByToken.{by_token}
use Rattle.cjc_verify_proof.specs.Heaps.{thing_is, IsFit, AreFit, AreItems}
use Rattle.cjc_verify_proof.specs.Growth.{Extends}
use Rattle.cjc_verify_proof.specs.References.{IsItem, HoldsItems, AreHeld}
use Rattle.cjc_verify_proof.specs.Frames.{Program}
use Rattle.cjc_verify_proof.specs.Memories.{FieldTypes, AreSlots, HaveSlots, AreCells, IsMemory, SupersStand}
use Rattle.cjc_verify_proof.specs.Memories.{AreDeclared}
use Rattle.cjc_card_semantics.proofs.MachineLaws.Upwards.{told_over}
use Rattle.cjc_verify_proof.proofs.OffLaws.{Off, all_off}
use Rattle.cjc_verify_proof.proofs.MemoryLaws.{slots_stay, cells_stay}
use Rattle.cjc_verify_proof.specs.Heaps.{object_is}
use Rattle.cjc_card_semantics.specs.Machine.Classes.{is_interface_info, info_of}
use Rattle.cjc_verify_proof.specs.Scripts.{IsImported, IsPrepared, GoesOnPrepared}
use Rattle.cjc_verify_proof.proofs.GrowthLaws.{extends_itself, extends_through, pushed_extends, set_extends}
use Rattle.cjc_verify_proof.proofs.GrowthLaws.{fit_pushed, held_pushed, fit_set, held_set, item_stays, zeros_fit}
use Rattle.cjc_script.proofs.BytesBools.{and_true}
use Rattle.cjc_script.proofs.BytesGets.{set_same, set_other}
use Rattle.cjc_script.proofs.BytesIntegers.{le_true, above_if}
use Rattle.cjc_script.proofs.BytesNumbers.{same_place}

-- ---- prepared heaps

pub prepared_itself : (l : Loaded) (heap : List (HeapObject Class Field)) → IsPrepared l heap heap
prepared_itself l heap = record {
  extends = extends_itself heap;
  fit = λ f. f;
  held = λ h. h;
  objects = λ k class slots e. inl e;
}

pub prepared_through : (l : Loaded) (a b c : List (HeapObject Class Field)) → IsPrepared l a b → IsPrepared l b c
    → IsPrepared l a c
prepared_through l a b c p q = record {
  extends = extends_through a b c p.extends q.extends;
  fit = λ f. q.fit (p.fit f);
  held = λ h. q.held (p.held h);
  objects = λ k class slots e. elim (q.objects k class slots e) [
    | inl was ↦ p.objects k class slots was
    | inr bare ↦ inr bare
  ];
}

-- a thing that acts may add: an array of zeros or nulls, or an object of an imported class without slots
abbrev pub IsPlain : Loaded → HeapObject Class Field → Type 0
IsPlain l (Object class slots) = (slots ≡ []) × IsImported l class
IsPlain l (Numbers element items) = Unit {0}
IsPlain l (References class items) = Unit {0}

-- what is at the end is the last, and before it stand the others
pushed_at : {A : Type 0} (xs : List A) (x : A) (k : ℕ) (y : A) → slice_get (xs ++ x ∷ []) k ≡ Some y
    → (slice_get xs k ≡ Some y) ⊎ (x ≡ y)
pushed_at [] x zero y e = inr cc
pushed_at [] x (suc k) y e = cc
pushed_at (z ∷ xs) x zero y e = inl e
pushed_at (z ∷ xs) x (suc k) y e = pushed_at xs x k y e

plain_object : (l : Loaded) (thing : HeapObject Class Field) → IsPlain l thing → (class : Class)
    (slots : List (Slot Field)) → thing ≡ Object class slots → (slots ≡ []) × IsImported l class
plain_object l thing p class slots e = subst (IsPlain l) e p

-- one plain thing more
pub push_prepared : (l : Loaded) (heap : List (HeapObject Class Field)) (thing : HeapObject Class Field)
    → IsFit thing → HoldsItems l (heap ++ thing ∷ []) thing → IsPlain l thing → IsPrepared l heap (heap ++ thing ∷ [])
push_prepared l heap thing fit held plain = record {
  extends = pushed_extends heap thing;
  fit = λ f. fit_pushed l heap thing f fit;
  held = λ h. held_pushed l heap thing h held;
  objects = λ k class slots e. elim (pushed_at heap thing k (Object class slots) e) [
    | inl was ↦ inl was
    | inr new ↦ inr (plain_object l thing plain class slots new)
  ];
}

-- an array
abbrev IsSomeArray : HeapObject Class Field → Type 0
IsSomeArray (Object class slots) = ⊥
IsSomeArray (Numbers element items) = Unit {0}
IsSomeArray (References class items) = Unit {0}

-- an array in the place of one
set_prepared : (l : Loaded) (heap : List (HeapObject Class Field)) (k : ℕ) (old new : HeapObject Class Field)
    → slice_get heap k ≡ Some old → shape old ≡ shape new → IsSomeArray new → (AreFit heap → IsFit new)
    → (AreHeld l heap → HoldsItems l (slice_set heap k new) new) → IsPrepared l heap (slice_set heap k new)
set_prepared l heap k old new at same array fit held = record {
  extends = set_extends heap k old new at same;
  fit = λ f. fit_set l heap new k old at f (fit f);
  held = λ h. held_set l heap new k old at same h (held h);
  objects = λ j class slots e. objects j class slots e;
}
  where
    never : (thing : HeapObject Class Field) → IsSomeArray thing → (class : Class) (slots : List (Slot Field))
        → thing ≡ Object class slots → ⊥
    never thing a class slots e = subst IsSomeArray e a

    objects : (j : ℕ) (class : Class) (slots : List (Slot Field)) → slice_get (slice_set heap k new) j
        ≡ Some (Object class slots) → (slice_get heap j ≡ Some (Object class slots)) ⊎ ((slots ≡ [])
        × IsImported l class)
    objects j class slots e = elim (same_place k j) [
      | inl here ↦ (
          let found : slice_get (slice_set heap k new) j ≡ Some new =
          subst (λ i. slice_get (slice_set heap k new) i ≡ Some new) here (set_same heap k new old at) in
          let is : new ≡ Object class slots = cc in
          absurd (never new array class slots is)
          )
      | inr other ↦ inl (sym (set_other heap k j new other) ∙ e)
    ]

-- ---- acts

-- a heap that is there is prepared
abbrev ArePrepared : Loaded → List (HeapObject Class Field) → Option (List (HeapObject Class Field)) → Type 0
ArePrepared l heap None = Unit {0}
ArePrepared l heap (Some after) = IsPrepared l heap after

-- of an export file
abbrev pub IsOutside : Option Class → Type 0
IsOutside None = Unit {0}
IsOutside (Some (Own p offset)) = ⊥
IsOutside (Some (External tree token)) = Unit {0}

-- a class that is there is imported
abbrev pub IsImportedIf : Loaded → Option Class → Type 0
IsImportedIf l None = Unit {0}
IsImportedIf l (Some class) = IsImported l class

from_files : (tree : ℕ) (trees : List ExportTree) (name : List ℕ) → IsOutside (external_from tree trees name)
from_files tree [] name = tt
from_files tree (t ∷ trees) name = go (token_named t.classes name) (external_from (tree + 1) trees name)
    (from_files (tree + 1) trees name)
  where
    go : (o : Option ℕ) (later : Option Class) → IsOutside later → IsOutside (or_else (option_map (External tree) o)
        later)
    go None later h = h
    go (Some token) later h = tt

module _ (l : Loaded) where
  -- one of an export file that is no interface is imported
  outside_imported : (c : Class) → IsOutside (Some c) → is_interface l c ≡ false → IsImported l c
  outside_imported (Own p offset) h e = absurd h
  outside_imported (External tree token) h e = e

  -- what export files name so, where it is no interface
  pub named_imported : (name : List ℕ) (c : Class) → external_named l name ≡ Some c → is_interface l c ≡ false
      → IsImported l c
  named_imported name c is e = outside_imported c (subst IsOutside is (from_files 0 l.trees name)) e

  pub imported_is : (name : List ℕ) → IsImportedIf l (imported l name)
  imported_is name = go (external_named l name) (from_files 0 l.trees name)
    where
      go : (o : Option Class) → IsOutside o → IsImportedIf l (option_and_then (imported_class_of l) o)
      go None h = tt
      go (Some c) h = by (is_interface l c) refl
        where
          by : (b : Bool) → is_interface l c ≡ b → IsImportedIf l (if b then None else Some c)
          by true e = tt
          by false e = outside_imported c h e

  module _ (heap : List (HeapObject Class Field)) where
    sized_prepared : (kind : Option (Shape Class)) (n : ℕ)
        → ArePrepared l heap (heap_with (by_token l) heap (sized_array (by_token l) kind n))
    sized_prepared None n = tt
    sized_prepared (Some (OfClass c)) n = tt
    sized_prepared (Some (OfNumbers e)) n = push_prepared l heap (Numbers e (replicate n (pos 0))) (zeros_fit e n) tt tt
    sized_prepared (Some (OfReferences c)) n = push_prepared l heap (References c (replicate n Null)) tt
        (All-replicate (IsItem l (heap ++ References c (replicate n Null) ∷ []) c) n Null tt) tt

    array_prepared : (kind : Option (Shape Class)) (size : ℤ)
        → ArePrepared l heap (heap_with (by_token l) heap (array_of (by_token l) kind size))
    array_prepared kind (negsuc n) = tt
    array_prepared kind (pos n) = go (nat_le n 32767)
      where
        go : (b : Bool) → ArePrepared l heap (heap_with (by_token l) heap (if b then sized_array (by_token l) kind n
            else None))
        go true = sized_prepared kind n
        go false = tt

    object_prepared : (o : Option Class) → IsImportedIf l o
        → ArePrepared l heap (heap_with (by_token l) heap (object_of (by_token l) o))
    object_prepared None h = tt
    object_prepared (Some c) h = push_prepared l heap (Object c []) tt tt (refl, h)

    within : (z low high : ℤ) → lies_in low high z ≡ true → negsuc 32767 ≤ℤ low → high ≤ℤ pos 32767 → is_word z ≡ true
    within z low high f a b =
        let h = and_true (int_le low z) (int_le z high) f in
        let x = above_if low z h.0 in
        let y = above_if z high h.1 in
        and_from (int_le (negsuc 32767) z) (int_le z (pos 32767))
        (le_true (negsuc 32767) z (omega (arith, ints, x, a))) (le_true z (pos 32767) (omega (arith, ints, y, b)))

    word_fits : (is : ℕ → Shape (List ℕ) → Bool) (e : Element) (items : List ℤ) (i : ℕ) (z : ℤ)
        → fits is (element_sort e) (Num z) ≡ true → AreItems e items → AreItems e (slice_set items i z)
    word_fits is Booleans items i z f h = All-set (λ z. is_word z ≡ true) items i z (within z (pos 0) (pos 1) f
        (omega (arith, ints)) (omega (arith, ints))) h
    word_fits is Bytes items i z f h = All-set (λ z. is_word z ≡ true) items i z (within z (negsuc 127) (pos 127) f
        (omega (arith, ints)) (omega (arith, ints))) h
    word_fits is Shorts items i z f h = All-set (λ z. is_word z ≡ true) items i z f h
    word_fits is Ints items i z f h = tt

    number_put : (array : ℕ) (e : Element) (items : List ℤ) (i : ℕ) (z : ℤ) → slice_get heap array
        ≡ Some (Numbers e items) → (b c : Bool) → fits (object_fits (by_token l) heap) (element_sort e) (Num z) ≡ c
        → ArePrepared l heap (with_array (by_token l) heap array (if b && c then Some (Numbers e (slice_set items i z))
        else None))
    number_put array e items i z at true true f = set_prepared l heap array (Numbers e items)
        (Numbers e (slice_set items i z)) at refl tt (λ fit. word_fits (object_fits (by_token l) heap) e items i z f
        (fit array (Numbers e items) at)) (λ h. tt)
    number_put array e items i z at false c f = tt
    number_put array e items i z at true false f = tt

    -- what fits an array is an element of it
    item_is : (c : Class) (v : Value) → item_fits (by_token l) heap c v ≡ true → IsItem l heap c v
    unfolding by_token
    item_is c (Num z) e = cc
    item_is c Null e = tt
    item_is c (Obj k) e = go (slice_get heap k) e
      where
        go : (o : Option (HeapObject Class Field)) → thing_fits (by_token l) o (Some (OfClass c)) ≡ true
            → thing_is l o (Some (OfClass c)) ≡ true
        go None e = cc
        go (Some thing) e = e

    reference_put : (array : ℕ) (c : Class) (items : List Value) (i : ℕ) (v : Value) → slice_get heap array
        ≡ Some (References c items) → (a b : Bool) → item_fits (by_token l) heap c v ≡ b
        → ArePrepared l heap (with_array (by_token l) heap array (if a && b then Some (References c (slice_set items i
        v)) else None))
    reference_put array c items i v at false b f = tt
    reference_put array c items i v at true false f = tt
    reference_put array c items i v at true true f = set_prepared l heap array old new at refl tt (λ fit. tt)
        (λ h. All-set (IsItem l after c) items i v (item_stays l heap after more c v (item_is c v f))
        (All-weaker (IsItem l heap c) (IsItem l after c) (item_stays l heap after more c) items (h array old at)))
      where
        old : HeapObject Class Field
        old = References c items

        new : HeapObject Class Field
        new = References c (slice_set items i v)

        after : List (HeapObject Class Field)
        after = slice_set heap array new

        more : Extends heap after
        more = set_extends heap array old new at refl

    item_put : (array : ℕ) (thing : HeapObject Class Field) → slice_get heap array ≡ Some thing → (i : ℕ) (v : Value)
        → ArePrepared l heap (with_array (by_token l) heap array (with_item (by_token l) heap thing i v))
    item_put array (Numbers e items) at i (Num z) = number_put array e items i z at (nat_lt i (length items))
        (fits (object_fits (by_token l) heap) (element_sort e) (Num z)) refl
    item_put array (Numbers e items) at i Null = tt
    item_put array (Numbers e items) at i (Obj k) = tt
    item_put array (References c items) at i v = reference_put array c items i v at (nat_lt i (length items))
        (item_fits (by_token l) heap c v) refl
    item_put array (Object c slots) at i v = tt

    put_prepared : (array : ℕ) (i : ℤ) (v : Value) → (o : Option (HeapObject Class Field)) → slice_get heap array ≡ o
        → ArePrepared l heap (put_item (by_token l) heap array o i v)
    put_prepared array (negsuc i) v None at = tt
    put_prepared array (negsuc i) v (Some thing) at = tt
    put_prepared array (pos i) v None at = tt
    put_prepared array (pos i) v (Some thing) at = item_put array thing at i v

    -- an act leaves a prepared heap
    pub act_prepared : (a : Act) → ArePrepared l heap (heap_after (by_token l) a heap)
    unfolding by_token
    act_prepared (acts.Array desc size) = array_prepared (option_and_then (shape_of (by_token l))
        (shape_named desc)) size
    act_prepared (acts.Object class) = object_prepared (imported l class) (imported_is class)
    act_prepared (acts.Put array i v) = put_prepared array i v (slice_get heap array) refl

  -- the same where there is one
  pub heap_prepared : (heap after : List (HeapObject Class Field)) (a : Act) → heap_after (by_token l) a heap
      ≡ Some after → IsPrepared l heap after
  heap_prepared heap after a e = subst (ArePrepared l heap) e (act_prepared heap a)

  -- acts lead to what follows them on a prepared heap, or end the run
  pub acts_go : (program : Program) (m : Memory Class Field (List Image)) (go : State Code Class Field (List Image)
      → Turn Code Class Field (List Image)) → ((t : State Code Class Field (List Image))
      → IsPrepared l m.heap t.memory.heap → t.memory.statics ≡ m.statics → GoesOnPrepared l program m (go t))
      → (list : List Act) (number : ℕ) (s : State Code Class Field (List Image)) → IsPrepared l m.heap s.memory.heap
      → s.memory.statics ≡ m.statics → GoesOnPrepared l program m (turn_after_acts (by_token l) list number s go)
  acts_go program m go goes [] number s p same = goes s p same
  acts_go program m go goes (a ∷ list) number s p same = by (heap_after (by_token l) a s.memory.heap)
      (act_prepared s.memory.heap a) (acts_go program m go goes list number)
    where
      by : (o : Option (List (HeapObject Class Field))) → ArePrepared l s.memory.heap o
          → ((t : State Code Class Field (List Image)) → IsPrepared l m.heap t.memory.heap
          → t.memory.statics ≡ m.statics → GoesOnPrepared l program m (turn_after_acts (by_token l) list number t go))
          → GoesOnPrepared l program m (prepared_by (by_token l) o number s (λ t. turn_after_acts (by_token l) list
          number t go))
      by None h more = tt
      by (Some heap) h more = more (with_heap (by_token l) heap s)
          (prepared_through l m.heap s.memory.heap heap p h) same

-- ---- memory

module _ (l : Loaded) (t : FieldTypes) (supers : SupersStand l) (declared : AreDeclared l t) where
  -- an object of an imported class has no fields
  bare_slots : (is : (type : List ℕ) → (object : ℕ) → Bool) (class : Class) → IsImported l class → AreSlots l t is class
      []
  bare_slots is class imported f type typed kind =
      let d = declared f type typed in
      let off : Off l supers f.class = all_off l supers (told_over l class f.class kind) (off_of class imported) in
      let own : is_interface_info (info_of l d.part d.offset) ≡ true = subst (Off l supers) d.class off in
      let class_info : is_interface_info (info_of l d.part d.offset) ≡ false = ap is_interface_info d.info in
      absurd (both (is_interface_info (info_of l d.part d.offset)) own class_info)
    where
      off_of : (c : Class) → IsImported l c → Off l supers c
      off_of (Own p offset) i = absurd i
      off_of (External tree token) i = tt

      both : (b : Bool) → b ≡ true → b ≡ false → ⊥
      both b e f = cc

  -- memory after acts holds what it may
  pub memory_prepared : (m after : Memory Class Field (List Image)) → IsMemory l t m → IsPrepared l m.heap after.heap
      → after.statics ≡ m.statics → IsMemory l t after
  memory_prepared m after fit p same = record {
    numbers = p.fit fit.numbers;
    references = p.held fit.references;
    slots = slots;
    cells = subst (λ x. AreCells l t after.heap x) (sym same) (cells_stay l t m.heap after.heap p.extends m.statics
        fit.cells);
  }
    where
      object : (k : ℕ) (class : Class) (found : List (Slot Field))
          → (slice_get m.heap k ≡ Some (Object class found)) ⊎ ((found ≡ []) × IsImported l class)
          → AreSlots l t (object_is l after.heap) class found
      object k class found (inl was) = slots_stay l t m.heap after.heap p.extends class found (fit.slots k
          (Object class found) was)
      object k class found (inr bare) = subst (λ x. AreSlots l t (object_is l after.heap) class x) (sym bare.0)
          (bare_slots (object_is l after.heap) class bare.1)

      slots : HaveSlots l t after.heap
      slots k (Numbers element items) e = tt
      slots k (References class items) e = tt
      slots k (Object class found) e = object k class found (p.objects k class found e)
