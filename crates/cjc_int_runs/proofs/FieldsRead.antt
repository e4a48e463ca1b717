-- getfield and arraylength.
use Rattle.std.proofs.Common.{◌≡◌, ℕ, ◌+◌, ◌≤◌, List, ◌∷◌, [], ◌++◌, length, refl, sym, ap}
use Rattle.std.proofs.Common.{subst, ◌∙◌, arith}
use Rattle.std.proofs.Common.{Bool, true, false, pos}
use Rattle.std.specs.Prelude.{Option, Some, map, slice_get, nat_le, if◌then◌else◌}
use Rattle.std.proofs.lemmas.Bool.Decides.{nat_tests}
use Rattle.std.proofs.lemmas.Int.{ints}
use Rattle.std.proofs.lemmas.List.{length-append}
use Rattle.cjc_script.specs.Bytes.declared.fault.MemberId.{MemberId}
use Rattle.cjc_script.proofs.BytesLists.{length_mapped}
use Rattle.cjc_range.specs.Words.{low_word}
use Rattle.cjc_range.specs.Span.{span, byte_range, short_range, full}
use Rattle.cjc_range.proofs.Spans.{fits_word}
use Rattle.cjc_range.proofs.WordsLaws.Words.{low_word_same}
use Rattle.cjc_int_proof.specs.Bytecode.declared.insn.JOp.TheVariants as jop
use Rattle.cjc_script.specs.declared.value.Value.{Value}
use Rattle.cjc_script.specs.declared.value.Value.TheVariants.{Num}
use Rattle.cjc_script.specs.declared.report.Thing.{Thing}
use Rattle.cjc_script.specs.Sorts.{Sort, Boolean, Byte, Short, Int, Reference, NoValue, Shape, OfClass, field_sort}
use Rattle.cjc_card_semantics.specs.Bytecode.Calculations.{int_words}
use Rattle.cjc_card_semantics.specs.Bytecode.Meanings.{meaning}
use Rattle.cjc_card_semantics.specs.Bytecode.Effects.{Slot, HeapObject, Numbers, References, Object, shape, slot_of}
use Rattle.cjc_card_semantics.specs.Bytecode.Effects.{words_of}
use Rattle.cjc_card_semantics.specs.Bytecode.Effects as narrow
use Rattle.cjc_card_semantics.specs.Bytecode.Renaming.{keys}
use Rattle.cjc_ncode.specs.declared.narrow.NInsn.{NInsn}
use Rattle.cjc_ncode.specs.declared.narrow.NInsn.TheVariants as insns
use Rattle.cjc_ncode.specs.declared.narrow.NMethod.{NMethod}
use Rattle.cjc_ncode.specs.declared.narrow.PoolKey.TheVariants as pool
use Rattle.cjc_ncode.specs.PoolOrder.{same_member}
use Rattle.cjc_ncode.specs.ByLabel.{Named, by_label, classes, naming, shown_slot}
use Rattle.cjc_ncode.specs.Written.{Resolution, field_access}
use Rattle.cjc_ncode.specs.IntCode.IntCode.{Before, Frame, widened}
use Rattle.cjc_jvm_semantics.specs.Linked.{Method, Instance, Linked}
use Rattle.cjc_jvm_semantics.specs.Effects.{Store, effect, value_in}
use Rattle.cjc_jvm_semantics.specs.Effects as by_name
use Rattle.cjc_int_proof.specs.Walks.{walk}
use Rattle.cjc_narrow_proof.specs.Selection.Relation.{Kind, Range, Refers, Heap, NMemory, Stores, boolean_range, shown}
use Rattle.cjc_narrow_proof.specs.Selection.Relation.{CellFits, a_boolean, a_byte, a_short, an_int, a_null, an_object}
use Rattle.cjc_narrow_proof.specs.Selection.Relation.{ThingFits, numbers, references, of_class, HasObjects, IsMadeOf}
use Rattle.cjc_narrow_proof.specs.Selection.Rows.{NEffect, kind_of, HasField}
use Rattle.cjc_narrow_proof.specs.Selection.Elements.{AreArrays}
use Rattle.cjc_narrow_proof.proofs.SelectionLaws.Keeps.{made_there}
use Rattle.cjc_narrow_proof.proofs.SelectionLaws.Begins.{thing_shown}
use Rattle.cjc_narrow_proof.proofs.SelectionLaws.Fields.{value_shown, Found, found, letter_of, get_means, is_word_held}
use Rattle.cjc_int_runs.specs.Fields.{has_values, IntFieldIsThere}
use Rattle.cjc_int_runs.specs.Relation.{RefersTo, to_null, to_object, IntLocals, IntStacks, reference}
use Rattle.cjc_int_runs.specs.Steps.{IntRow, InStep, HasIntRoom, StandAt, behind, spot}
use Rattle.cjc_int_runs.proofs.Stepping.{asked, heights}
use Rattle.cjc_int_runs.proofs.ItemsRead.{OneWord, one_word, TwoWords, two_words, Reads, reads, fails}
use Rattle.cjc_int_runs.proofs.Finishing.{OneReference, one_reference, then_widened, as_int, as_reference}

-- ---- what a field holds

-- how a value of a type is read: as one word, as two, or as a reference
abbrev pub ReadOf : Named → Heap → Sort → Value → List Value → Type 0
ReadOf l heap Boolean = OneWord boolean_range
ReadOf l heap Byte = OneWord byte_range
ReadOf l heap Short = OneWord short_range
ReadOf l heap Int = TwoWords full
ReadOf l heap (Reference kind) = OneReference heap (λ s. l.is_of s kind)
ReadOf l heap NoValue = OneWord full

-- what is held, as words
pub record CellRead (l : Named) (heap : Heap) (sort : Sort) (v : Value) : Type 0 where
  pub new : List Value
  pub few : length new ≤ 2
  pub words : (onto : List Value → NEffect) → words_of (letter_of sort) v narrow.Stick onto ≡ onto new
  pub pushed : ReadOf l heap sort v new

pub cell_read : (l : Named) (heap : Heap) {sort : Sort} {v : Value} → CellFits l heap sort v → CellRead l heap sort v
cell_read l heap (a_boolean {z = z} h) = let a = h.above in let b = h.below in record {
  new = Num z ∷ [];
  few = omega arith;
  words = λ onto. ap (λ t. let e : NEffect = if t then onto (Num z ∷ []) else narrow.Stick in e)
      (is_word_held boolean_range z (omega (arith, ints)) (omega (arith, ints)) h);
  pushed = one_word z h (fits_word z (record { above = omega (arith, ints, a); below = omega (arith, ints, b) }));
}
cell_read l heap (a_byte {z = z} h) = let a = h.above in let b = h.below in record {
  new = Num z ∷ [];
  few = omega arith;
  words = λ onto. ap (λ t. let e : NEffect = if t then onto (Num z ∷ []) else narrow.Stick in e)
      (is_word_held byte_range z (omega (arith, ints)) (omega (arith, ints)) h);
  pushed = one_word z h (fits_word z (record { above = omega (arith, ints, a); below = omega (arith, ints, b) }));
}
cell_read l heap (a_short {z = z} h) = let a = h.above in let b = h.below in record {
  new = Num z ∷ [];
  few = omega arith;
  words = λ onto. ap (λ t. let e : NEffect = if t then onto (Num z ∷ []) else narrow.Stick in e)
      (is_word_held short_range z (omega (arith, ints)) (omega (arith, ints)) h);
  pushed = one_word z h (fits_word z (record { above = omega (arith, ints, a); below = omega (arith, ints, b) }));
}
cell_read l heap (an_int {z = z} h) = record {
  new = int_words z;
  few = omega arith;
  words = λ onto. refl;
  pushed = two_words z h (fits_word z h);
}
cell_read l heap (a_null {kind = kind}) = record {
  new = _;
  few = omega arith;
  words = λ onto. refl;
  pushed = one_reference to_null;
}
cell_read l heap (an_object {kind = kind} thing is e) = record {
  new = _;
  few = omega arith;
  words = λ onto. refl;
  pushed = one_reference (to_object thing is e);
}

-- ---- a field of an object

module _ (by : Linked) (l : Named) (m : Method) (f : MemberId) (room at next : ℕ) (vs ws : List Value)
    (locals words : List (Option Value)) (store : Store) (memory : NMemory) (roomy : length ws + 2 ≤ room)
    (stores : Stores l store memory) where
  abbrev Meets : by_name.Effect → NEffect → Type 0
  Meets = Reads (ReadOf l memory.heap (field_sort f.desc)) at next vs ws locals words store memory

  abbrev by_value : Value → by_name.Effect
  by_value v = by_name.onward by m at locals store (v ∷ vs)

  abbrev by_thing : Thing → by_name.Effect
  by_thing thing = by_name.object_in thing (λ class fields. by_name.with_some (value_in fields f) by_value)

  abbrev onto : List Value → NEffect
  onto new = narrow.onward new room next words memory ws

  abbrev narrow_value : Value → NEffect
  narrow_value v = words_of (letter_of (field_sort f.desc)) v narrow.Stick onto

  abbrev narrow_thing : HeapObject (List ℕ) MemberId → NEffect
  narrow_thing = narrow.object_in (λ class slots. narrow.with_some narrow.Stick (slot_of same_member slots f)
      narrow_value)

  pushed : (slots : List (Slot MemberId)) (r : Found l memory.heap slots f)
      → Meets (by_name.with_some (value_in (map shown_slot slots) f) by_value) (narrow.with_some narrow.Stick
      (slot_of same_member slots f) narrow_value)
  pushed slots r =
      let c = cell_read l memory.heap r.fits in
      let few = c.few in let long = length-append c.new ws in
      let fits : nat_le (length (c.new ++ ws)) room ≡ true = grind (arith, nat_tests, few, long, roomy) in
      subst (λ o. Meets (by_name.with_some o by_value) (narrow.with_some narrow.Stick (slot_of same_member slots f)
      narrow_value)) (sym (value_shown slots f ∙ r.is))
      (subst (λ o. Meets (by_value r.value) (narrow.with_some narrow.Stick o narrow_value)) (sym r.is)
      (subst (Meets (by_value r.value)) (sym (c.words onto))
      (subst (λ t. Meets (by_value r.value) (if t then narrow.Go next (c.new ++ ws) words memory else narrow.Stick))
      (sym fits) (reads r.value c.new c.pushed))))

  read_of : (thing : HeapObject (List ℕ) MemberId) → HasField l f (shape thing) → ThingFits l memory.heap thing
      → Meets (by_thing (shown l thing)) (narrow_thing thing)
  unfolding by_label
  read_of (Numbers element items) has fits = let e = has.is_class in absurd cc
  read_of (References class items) has fits = let e = has.is_class in absurd cc
  read_of (Object class slots) has (of_class is fit) =
      let same : has.class ≡ class = (let e = has.is_class in cc) in
      pushed slots (found l memory.heap f fit (has.has (keys slots) (subst (λ c. HasObjects l c (keys slots)) (sym same)
      is)))

  -- of the object of a reference; null raises
  read_at : (within : Shape (List ℕ) → Bool) (v : Value) → ((kind : Shape (List ℕ)) → within kind ≡ true
      → IsMadeOf l kind → HasField l f kind) → RefersTo memory.heap within v
      → Meets (by_name.thing_at store.heap v (λ k. by_thing)) (narrow.thing_of memory.heap v (λ k. narrow_thing))
  read_at within _ has to_null = fails {fault = by_name.NullPointer}
  read_at within _ has (to_object {k = k} thing is passes) =
      subst (λ o. Meets (by_name.with_some o by_thing) (narrow.with_some narrow.Stick (slice_get memory.heap k)
      narrow_thing)) (sym (thing_shown l memory.heap k thing stores.heap is))
      (subst (λ o. Meets (by_thing (shown l thing)) (narrow.with_some narrow.Stick o narrow_thing)) (sym is)
      (read_of thing (has (shape thing) passes (made_there l thing (stores.heap_fits k thing is)))
      (stores.heap_fits k thing is)))

-- ---- by the type

module _ (l : Named) (f : Frame) (pairs : ℕ) (m : Method) (ls : List Kind) (code : NMethod) (here at : ℕ)
    (onto vs ws : List Value) (locals words : List (Option Value)) (store : Store) (memory : NMemory)
    (stores : Stores l store memory) (held : IntLocals memory.heap f pairs ls locals words) (ks : List Kind)
    (rest : IntStacks memory.heap ks vs ws) where
  pub by_sort : (sort : Sort) (i : NInsn) (e : by_name.Effect) (n : NEffect) → has_values sort ≡ true
      → HasIntRoom (length (kind_of l sort ∷ ks)) m.max_stack code.max_stack → StandAt code here (i ∷ widened sort)
      → asked l code i here onto words memory ≡ n
      → Reads (ReadOf l memory.heap sort) at (here + 1) vs ws locals words store memory e n
      → InStep l f pairs (kind_of l sort ∷ ks) ls here (behind here (i ∷ widened sort)) words memory (at + 1) e
      (λ k. walk (by_label l) code k (spot here onto words memory)) (length (i ∷ widened sort))
  by_sort Boolean i e n some room is does read = then_widened l f pairs m ls code here at onto vs ws locals words store
      memory stores held ks rest i is.0 boolean_range e n room is.1.0 does read
  by_sort Byte i e n some room is does read = then_widened l f pairs m ls code here at onto vs ws locals words store
      memory stores held ks rest i is.0 byte_range e n room is.1.0 does read
  by_sort Short i e n some room is does read = then_widened l f pairs m ls code here at onto vs ws locals words store
      memory stores held ks rest i is.0 short_range e n room is.1.0 does read
  by_sort Int i e n some room is does read = as_int l f pairs m ls code here at onto vs ws locals words store memory
      stores held ks rest i is.0 full e n does read
  by_sort (Reference kind) i e n some room is does read = as_reference l f pairs m ls code here at onto vs ws locals
      words
      store memory stores held ks rest i is.0 (λ s. l.is_of s kind) e n does read
  by_sort NoValue i e n some room is does read = absurd cc

module _ (by : Linked) (l : Named) (f : Frame) (pairs : ℕ) (r : Resolution) (m : Method) (b : Before) (ls : List Kind)
  where
    -- by the type of the field that is found
    field_read : (named g : MemberId) (near : Bool) (within : Shape (List ℕ) → Bool) (sort : Sort)
        → by.field (let id = m.id in id.class) named ≡ Some (Instance g) → has_values sort ≡ true
        → field_sort g.desc ≡ sort
        → ((kind : Shape (List ℕ)) → within kind ≡ true → IsMadeOf l kind → HasField l g kind)
        → (code : NMethod) (here : ℕ) → StandAt code here (insns.Named (field_access false near sort) (pool.Field g)
        ∷ widened sort) → (at : ℕ) (ks : List Kind) (vs ws : List Value) (locals words : List (Option Value))
        (store : Store) (memory : NMemory) → HasIntRoom (length (kind_of l sort ∷ ks)) m.max_stack code.max_stack
        → Stores l store memory → IntLocals memory.heap f pairs ls locals words
        → IntStacks memory.heap (Refers within ∷ ks) vs ws
        → InStep l f pairs (kind_of l sort ∷ ks) ls here (behind here (insns.Named (field_access false near sort)
        (pool.Field g) ∷ widened sort)) words memory (at + 1) (effect by m at locals store (jop.Field false named) vs)
        (λ k. walk (by_label l) code k (spot here ws words memory)) (length (insns.Named (field_access false near sort)
        (pool.Field g) ∷ widened sort))
    unfolding effect
    field_read named g near within sort is_found some same has code here is at ks _ _ locals words store memory room
        stores held (reference {v = v} {vs = vs} {ws = ws} a rest) =
        let tall = (heights rest).words in let p = room.by_name in let q = room.words in
        let i = insns.Named (field_access false near sort) (pool.Field g) in
        subst (λ o. InStep l f pairs (kind_of l sort ∷ ks) ls here (behind here (i ∷ widened sort)) words memory (at +
        1)
        (by_name.field_get by m at locals store o (v ∷ vs)) (λ k. walk (by_label l) code k (spot here (v ∷ ws) words
        memory)) (length (i ∷ widened sort))) (sym is_found)
        (by_sort l f pairs m ls code here at (v ∷ ws) vs ws locals words store memory stores held ks rest sort i _ _
        some
        room is
        (ap (λ x. narrow.effect (classes l) (naming x (pool.Field g)) code.max_stack (here + 1) words memory (v ∷ ws))
        (get_means near sort)
        ∙ ap (λ d. narrow.effect (classes l) (narrow.Get false (letter_of d) g) code.max_stack (here + 1) words memory
        (v ∷ ws)) (sym same))
        (subst (λ d. Reads (ReadOf l memory.heap d) at (here + 1) vs ws locals words store memory
        (by_name.thing_at store.heap v (λ k. by_thing by l m g code.max_stack at (here + 1) vs ws locals words store
        memory (omega (arith, tall, p, q)) stores)) (narrow.thing_of memory.heap v (λ k. narrow_thing by l m g
        code.max_stack at (here + 1) vs ws locals words store memory (omega (arith, tall, p, q)) stores))) same
        (read_at by l m g code.max_stack at (here + 1) vs ws locals words store memory (omega (arith, tall, p, q))
        stores
        within v has a)))

    pub getfield : (named : MemberId) (within : Shape (List ℕ) → Bool) → IntFieldIsThere by l r m named within
        → IntRow by l f pairs r m b (jop.Field false named) (Refers within ∷ []) (kind_of l (field_sort named.desc)
        ∷ [])
        ls ls
    getfield named within there place code here is at ks vs ws locals words store memory before after stores held
        stacks =
        field_read named (r.field named) (r.is_near named) within (field_sort named.desc) there.is_found
        there.some_value
        there.type there.has code here is at ks vs ws locals words store memory after stores held stacks

-- ---- how many elements an array has

module _ (by : Linked) (l : Named) (m : Method) (at next : ℕ) (vs ws : List Value) (locals words : List (Option Value))
    (store : Store) (memory : NMemory) (stores : Stores l store memory) where
  abbrev Counts : by_name.Effect → NEffect → Type 0
  Counts = Reads (OneWord (span (pos 0) (pos 32767))) at next vs ws locals words store memory

  abbrev named_count : Thing → by_name.Effect
  named_count thing = by_name.array_in thing (λ desc items. by_name.onward by m at locals store (Num (pos (length
      items))
      ∷ vs))

  abbrev narrow_count : HeapObject (List ℕ) MemberId → NEffect
  narrow_count = narrow.length_in (λ n. narrow.Go next (Num (low_word (pos n)) ∷ ws) words memory)

  counted : (n : ℕ) → n ≤ 32767 → Counts (by_name.onward by m at locals store (Num (pos n) ∷ vs))
      (narrow.Go next (Num (low_word (pos n)) ∷ ws) words memory)
  counted n h =
      let same = low_word_same (pos n) (omega (arith, ints)) (omega (arith, ints, h)) in
      subst (λ z. Counts (by_name.onward by m at locals store (Num (pos n) ∷ vs)) (narrow.Go next (Num z ∷ ws) words
      memory)) (sym same)
      (reads (Num (pos n)) (Num (pos n) ∷ []) (one_word (pos n) (record {
        above = omega (arith, ints);
        below = omega (arith, ints, h);
      }) (fits_word (pos n) (record { above = omega (arith, ints); below = omega (arith, ints, h) }))))

  count_of : (thing : HeapObject (List ℕ) MemberId) → ((class : List ℕ) → shape thing ≡ OfClass class → ⊥)
      → ThingFits l memory.heap thing → Counts (named_count (shown l thing)) (narrow_count thing)
  unfolding by_label
  count_of (Numbers element items) array (numbers few fits) =
      subst (λ n. Counts (by_name.onward by m at locals store (Num (pos n) ∷ vs))
      (narrow.Go next (Num (low_word (pos (length items))) ∷ ws) words memory)) (sym (length_mapped Num items))
      (counted (length items) few)
  count_of (References class items) array (references arrays few fits) = counted (length items) few
  count_of (Object class slots) array fits = absurd (array class refl)

  count_at : (within : Shape (List ℕ) → Bool) → AreArrays l within → (v : Value) → RefersTo memory.heap within v
      → Counts (by_name.thing_at store.heap v (λ k. named_count)) (narrow.thing_of memory.heap v (λ k. narrow_count))
  count_at within arrays _ to_null = fails {fault = by_name.NullPointer}
  count_at within arrays _ (to_object {k = k} thing is passes) =
      subst (λ o. Counts (by_name.with_some o named_count) (narrow.with_some narrow.Stick (slice_get memory.heap k)
      narrow_count)) (sym (thing_shown l memory.heap k thing stores.heap is))
      (subst (λ o. Counts (named_count (shown l thing)) (narrow.with_some narrow.Stick o narrow_count)) (sym is)
      (count_of thing (λ class e. arrays class (ap within (sym e)
      ∙ passes) (subst (IsMadeOf l) e (made_there l thing (stores.heap_fits k thing is)))) (stores.heap_fits k thing
      is)))

module _ (by : Linked) (l : Named) (f : Frame) (pairs : ℕ) (r : Resolution) (m : Method) (b : Before) (ls : List Kind)
  where
    pub arraylength : (within : Shape (List ℕ) → Bool) → AreArrays l within → IntRow by l f pairs r m b jop.ArrayLength
        (Refers within ∷ []) (Range (span (pos 0) (pos 32767)) ∷ []) ls ls
    unfolding effect meaning
    arraylength within arrays place code here is at ks _ _ locals words store memory before after stores held
        (reference {v = v} {vs = vs} {ws = ws} a rest) =
        then_widened l f pairs m ls code here at (v ∷ ws) vs ws locals words store memory stores held ks rest
        (insns.Op 0x92) is.0 (span (pos 0) (pos 32767)) _ _ after is.1.0 refl
        (count_at by l m at (here + 1) vs ws locals words store memory stores within arrays v a)
