-- new, newarray and anewarray.
use Rattle.std.proofs.Common.{◌≡◌, ℕ, ◌+◌, ◌≤◌, refl, sym, ap, subst, ◌∙◌, arith, Bool, true}
use Rattle.std.proofs.Common.{List, [], ◌∷◌, ◌++◌, length, replicate, ℤ, pos, negsuc}
use Rattle.std.specs.Prelude.{Option, Some, map, option_map, nat_le, nat_lt, if◌then◌else◌}
use Rattle.std.specs.List.{list_all}
use Rattle.std.proofs.lemmas.Bool.Decides.{nat_tests}
use Rattle.std.proofs.lemmas.Int.{ints}
use Rattle.cjc_script.specs.Bytes.declared.fault.MemberId.{MemberId}
use Rattle.cjc_script.proofs.BytesGets.{at_end}
use Rattle.cjc_script.proofs.BytesBools.{and_true}
use Rattle.cjc_script.proofs.BytesLists.{length_mapped}
use Rattle.cjc_range.specs.Words.{low_word}
use Rattle.cjc_range.specs.Span.{Span, Holds, Within, short_range}
use Rattle.cjc_range.proofs.WordsLaws.Words.{low_word_same}
use Rattle.cjc_int_proof.specs.Bytecode.declared.insn.JOp.TheVariants as jop
use Rattle.cjc_script.specs.declared.value.Value.{Value}
use Rattle.cjc_script.specs.declared.value.Value.TheVariants.{Num, Null, Obj}
use Rattle.cjc_script.specs.declared.report.Thing.{Thing}
use Rattle.cjc_script.specs.declared.report.Thing.TheVariants as things
use Rattle.cjc_script.specs.Sorts.{Element, Booleans, Bytes, Shorts, Ints, Shape, OfClass, OfNumbers, OfReferences}
use Rattle.cjc_script.specs.Sorts.{Sort, Boolean, Byte, Short, Int, Reference, NoValue, field_sort, zero_of, shape_name}
use Rattle.cjc_script.specs.Sorts.{array_name}
use Rattle.cjc_card_semantics.specs.Bytecode.Numbers.{spelt_by}
use Rattle.cjc_card_semantics.specs.Bytecode.Effects.{HeapObject, Numbers, References, Object, shape}
use Rattle.cjc_card_semantics.specs.Bytecode.Effects as narrow
use Rattle.cjc_card_semantics.specs.Bytecode.Meanings.{meaning}
use Rattle.cjc_card_semantics.specs.Bytecode.Renaming.{keys}
use Rattle.cjc_ncode.specs.declared.narrow.NInsn.{NInsn}
use Rattle.cjc_ncode.specs.declared.narrow.NInsn.TheVariants as insns
use Rattle.cjc_ncode.specs.declared.narrow.NMethod.{NMethod}
use Rattle.cjc_ncode.specs.declared.narrow.PoolKey.TheVariants as pool
use Rattle.cjc_ncode.specs.ByLabel.{Named, by_label, slot_for, shown_slot}
use Rattle.cjc_ncode.specs.Written.{Resolution}
use Rattle.cjc_ncode.specs.IntCode.IntCode.{Before, Frame}
use Rattle.cjc_jvm_semantics.specs.Linked.{Method, Linked}
use Rattle.cjc_jvm_semantics.specs.Effects.{Store, effect, fresh_field}
use Rattle.cjc_jvm_semantics.specs.Effects as by_name
use Rattle.cjc_int_proof.specs.Walks.{walk}
use Rattle.cjc_narrow_proof.specs.Selection.Objects.{has_values, is_field, IsMade, IsClassThere}
use Rattle.cjc_narrow_proof.specs.Selection.Relation.{Kind, Range, Refers, Heap, NMemory, Stores, CellFits, a_boolean}
use Rattle.cjc_narrow_proof.specs.Selection.Relation.{a_byte, a_short, an_int, a_null, SlotsFit, no_slots, slot}
use Rattle.cjc_narrow_proof.specs.Selection.Relation.{element_range, ThingFits, numbers, references, of_class, shown}
use Rattle.cjc_narrow_proof.specs.Selection.Relation.{made as has_objects}
use Rattle.cjc_narrow_proof.specs.Selection.Rows.{NEffect}
use Rattle.cjc_narrow_proof.proofs.SelectionLaws.Keeps.{grown_keeps, grown_stores}
use Rattle.cjc_narrow_proof.proofs.SelectionLaws.News.{zeros_shown, all_same, zero_held, few_of}
use Rattle.cjc_int_runs.specs.Relation.{IntLocals, IntStacks, to_object, number, reference}
use Rattle.cjc_int_runs.specs.Steps.{IntRow, InStep, HasIntRoom, StandAt, spot}
use Rattle.cjc_int_runs.proofs.Stepping.{onward, asked, heights}
use Rattle.cjc_int_runs.proofs.Kept.{int_stacks_kept}
use Rattle.cjc_int_runs.proofs.Ending.{Lands, lands, fails, last_lands}

-- ---- an array or object at the end of both heaps

module _ (by : Linked) (l : Named) (m : Method) (room at next : ℕ) (ks : List Kind) (vs ws : List Value)
    (locals words : List (Option Value)) (store : Store) (memory : NMemory) (within : Shape (List ℕ) → Bool)
    (roomy : HasIntRoom (length (Refers within ∷ ks)) m.max_stack room) (stores : Stores l store memory)
    (rest : IntStacks memory.heap ks vs ws) where
  abbrev Makes : by_name.Effect → NEffect → Type 0
  Makes = Lands l (Refers within ∷ ks) at next locals words memory

  made_both : (thing : HeapObject (List ℕ) MemberId) (named_thing : Thing) → named_thing ≡ shown l thing
      → within (shape thing) ≡ true → ThingFits l (memory.heap ++ thing ∷ []) thing
      → Makes (by_name.with_new by m at locals store named_thing vs) (narrow.made thing room next words memory ws)
  made_both thing named_thing is passes fits =
      let h = heights rest in let e = h.by_name in let g = h.words in let high = roomy.by_name in let high' =
      roomy.words in
      let left : nat_lt (length vs) m.max_stack ≡ true = grind (arith, nat_tests, e, high) in
      let right : nat_le (length (Obj (length memory.heap) ∷ ws)) room ≡ true = grind (arith, nat_tests, g, high, high')
      in
      let after = record memory { heap = memory.heap ++ thing ∷ [] } in
      let keeps = grown_keeps memory.heap thing in
      let here : length store.heap ≡ length memory.heap = ap length stores.heap
      ∙ length_mapped (shown l) memory.heap in
      subst (λ t. Makes (by_name.with_new by m at locals store t vs) (narrow.made thing room next words memory ws))
      (sym is)
      (subst (λ b. Makes (by_name.only_if b (by_name.with_heap by m at locals store (store.heap ++ shown l thing
      ∷ []) (Obj (length store.heap) ∷ vs))) (narrow.made thing room next words memory ws)) (sym left)
      (subst (λ b. Makes (by_name.with_heap by m at locals store (store.heap ++ shown l thing
      ∷ []) (Obj (length store.heap) ∷ vs)) (if b then narrow.Go next (Obj (length memory.heap) ∷ ws) words after
      else narrow.Stick)) (sym right)
      (subst (λ n. Makes (by_name.Go (at + 1) (Obj n ∷ vs) locals (record store {
        heap = store.heap ++ shown l thing
            ∷ [];
      })) (narrow.Go next (Obj (length memory.heap) ∷ ws) words after)) (sym here)
      (lands keeps (reference (to_object thing (at_end memory.heap thing) passes) (int_stacks_kept keeps rest))
      (grown_stores l store memory thing stores fits)))))

  -- so many elements as a number of 16 bits says; a negative one raises
  sized_both : (s : Span) → Within s short_range → (x : ℤ) → Holds s x
      → (thing : ℕ → HeapObject (List ℕ) MemberId) (named_thing : ℕ → Thing)
      → ((n : ℕ) → named_thing n ≡ shown l (thing n)) → ((n : ℕ) → within (shape (thing n)) ≡ true)
      → ((n : ℕ) → n ≤ 32767 → ThingFits l (memory.heap ++ thing n ∷ []) (thing n))
      → Makes (by_name.with_size x (λ n. by_name.with_new by m at locals store (named_thing n) vs))
      (narrow.sized x (λ n. narrow.made (thing n) room next words memory ws))
  sized_both s small (pos n) h thing named_thing is passes fits =
      let few : n ≤ 32767 = (let a = h.below in let b = small.high in omega (arith, ints)) in
      made_both (thing n) (named_thing n) (is n) (passes n) (fits n few)
  sized_both s small (negsuc n) h thing named_thing is passes fits = fails {fault = by_name.NegativeSize}

-- ---- an object

zero_fits : (l : Named) (heap : Heap) (sort : Sort) → has_values sort ≡ true → CellFits l heap sort (zero_of sort)
zero_fits l heap Boolean e = a_boolean (record { above = omega (arith, ints); below = omega (arith, ints) })
zero_fits l heap Byte e = a_byte (record { above = omega (arith, ints); below = omega (arith, ints) })
zero_fits l heap Short e = a_short (record { above = omega (arith, ints); below = omega (arith, ints) })
zero_fits l heap Int e = an_int (record { above = omega (arith, ints); below = omega (arith, ints) })
zero_fits l heap (Reference kind) e = a_null
zero_fits l heap NoValue e = absurd cc

fresh_fits : (l : Named) (heap : Heap) (fields : List MemberId) → list_all is_field fields ≡ true
    → SlotsFit l heap (map slot_for fields)
fresh_fits l heap [] e = no_slots
fresh_fits l heap (f ∷ fields) e = let p = and_true (is_field f) (list_all is_field fields) e
    in slot (zero_fits l heap (field_sort f.desc) p.0) (fresh_fits l heap fields p.1)

fresh_keys : (fields : List MemberId) → keys (map slot_for fields) ≡ fields
fresh_keys [] = refl
fresh_keys (f ∷ fields) = ap (λ fs. f ∷ fs) (fresh_keys fields)

fresh_shown : (fields : List MemberId) → map fresh_field fields ≡ map shown_slot (map slot_for fields)
fresh_shown [] = refl
fresh_shown (f ∷ fields) = ap (λ vs. fresh_field f ∷ vs) (fresh_shown fields)

module _ (by : Linked) (l : Named) (f : Frame) (pairs : ℕ) (r : Resolution) (m : Method) (b : Before) (ls : List Kind)
    (within : Shape (List ℕ) → Bool) where
  object_shown : (class : List ℕ) (fields : List MemberId) → things.Object class (map fresh_field fields)
      ≡ shown l (Object class (map slot_for fields))
  unfolding by_label
  object_shown class fields = ap (things.Object class) (fresh_shown fields)

  pub new : (class : List ℕ) → IsMade by l m class → within (OfClass class) ≡ true
      → IntRow by l f pairs r m b (jop.New class) [] (Refers within ∷ []) ls ls
  unfolding effect meaning
  new class made passes place code here is at ks vs ws locals words store memory before after stores held rest =
      let Makes = Lands l (Refers within ∷ ks) at (here + 1) locals words memory in
      let slots = map slot_for made.fields in
      let fits = of_class (has_objects (made.narrow ∙ ap Some (sym (fresh_keys made.fields))))
      (fresh_fits l (memory.heap ++ Object class slots ∷ []) made.fields made.are_fields) in
      last_lands l f pairs ls code here at [] ws ws locals words memory held (Refers within ∷ ks)
      (insns.Named 0x8F (pool.Class class)) refl is.0 _ _ refl
      (subst (λ o. Makes (by_name.with_some o (λ fields. by_name.with_new by m at locals store
      (things.Object class (map fresh_field fields)) vs)) (narrow.with_some narrow.Stick (option_map (map slot_for)
      (l.fields class)) (λ slots. narrow.made (Object class slots) code.max_stack (here + 1) words memory ws)))
      (sym made.by_name)
      (subst (λ o. Makes (by_name.with_new by m at locals store (things.Object class (map fresh_field made.fields)) vs)
      (narrow.with_some narrow.Stick (option_map (map slot_for) o) (λ slots. narrow.made (Object class slots)
      code.max_stack (here + 1) words memory ws))) (sym made.narrow)
      (made_both by l m code.max_stack at (here + 1) ks vs ws locals words store memory within after stores rest
      (Object class slots) (things.Object class (map fresh_field made.fields)) (object_shown class made.fields) passes
      fits)))

  -- ---- arrays

  module _ (s : Span) (small : Within s short_range) where
    -- the number of elements as one word
    cut_count : (x high low : ℤ) → x ≡ spelt_by high low → Holds s x → low_word (spelt_by high low) ≡ x
    cut_count x high low e h =
        let a = h.above in let d = h.below in let p = small.low in let q = small.high in
        ap low_word (sym e) ∙ low_word_same x (omega (arith, ints)) (omega (arith, ints))

    numbers_shown : (element : Element) (n : ℕ) → things.Array (array_name element) (replicate n (Num (pos 0)))
        ≡ shown l (Numbers element (replicate n (pos 0)))
    unfolding by_label
    numbers_shown element n = ap (things.Array (array_name element)) (zeros_shown n)

    references_shown : (class : List ℕ) (n : ℕ) → things.Array (shape_name (OfReferences class)) (replicate n Null)
        ≡ shown l (References class (replicate n Null))
    unfolding by_label
    references_shown class n = refl

    -- i2s, and the instruction that makes the array
    sized_row : (code : NMethod) (here at : ℕ) (i : NInsn) → StandAt code here (insns.Op 0x5E ∷ i ∷ [])
        → (ks : List Kind) (x high low : ℤ) (vs ws : List Value) (locals words : List (Option Value)) (store : Store)
        (memory : NMemory) → HasIntRoom (length (Refers within ∷ ks)) m.max_stack code.max_stack
        → Stores l store memory → IntLocals memory.heap f pairs ls locals words → x ≡ spelt_by high low → Holds s x
        → IntStacks memory.heap ks vs ws → (e : by_name.Effect) (thing : ℕ → HeapObject (List ℕ) MemberId)
        (named_thing : ℕ → Thing)
        → ((y : ℤ) → asked l code i (here + 1) (Num y ∷ ws) words memory ≡ narrow.sized y (λ n. narrow.made (thing n)
        code.max_stack (here + 1 + 1) words memory ws))
        → e ≡ by_name.with_size x (λ n. by_name.with_new by m at locals store (named_thing n) vs)
        → ((n : ℕ) → named_thing n ≡ shown l (thing n)) → ((n : ℕ) → within (shape (thing n)) ≡ true)
        → ((n : ℕ) → n ≤ 32767 → ThingFits l (memory.heap ++ thing n ∷ []) (thing n))
        → InStep l f pairs (Refers within ∷ ks) ls here (here + 1 + 1) words memory (at + 1) e
        (λ n. walk (by_label l) code n (spot here (Num low ∷ Num high ∷ ws) words memory)) 2
    unfolding meaning
    sized_row code here at i stand ks x high low vs ws locals words store memory after stores held spelt h rest e thing
        named_thing does named is passes fits =
        let y = low_word (spelt_by high low) in
        let next = here + 1 + 1 in
        last_lands l f pairs ls code here at (insns.Op 0x5E ∷ []) (Num low ∷ Num high ∷ ws) (Num y ∷ ws) locals words
        memory held (Refers within ∷ ks) i (onward l code 0 here (here + 1) (insns.Op 0x5E) (Num low ∷ Num high ∷ ws)
        (Num y ∷ ws) words words memory memory _ stand.0 refl refl) stand.1.0 _ _
        (does y ∙ ap (λ z. narrow.sized z (λ n. narrow.made (thing n) code.max_stack next words memory ws))
        (cut_count x high low spelt h))
        (subst (λ q. Lands l (Refers within ∷ ks) at next locals words memory q (narrow.sized x (λ n. narrow.made
        (thing n) code.max_stack next words memory ws))) (sym named)
        (sized_both by l m code.max_stack at next ks vs ws locals words store memory within after stores rest s small x
        h
        thing named_thing is passes fits))

    -- an array of numbers
    zeros_row : (kind number : ℕ) (element : Element) → within (OfNumbers element) ≡ true
        → by_name.element_of kind ≡ Some element
        → ((code : NMethod) (next : ℕ) (y : ℤ) (ws : List Value) (words : List (Option Value)) (memory : NMemory)
        → asked l code (insns.NewArray number) next (Num y ∷ ws) words memory ≡ narrow.sized y (λ n. narrow.made
        (Numbers element (replicate n (pos 0))) code.max_stack (next + 1) words memory ws))
        → (code : NMethod) (here : ℕ) → StandAt code here (insns.Op 0x5E ∷ insns.NewArray number ∷ [])
        → (at : ℕ) (ks : List Kind) (vs ws : List Value) (locals words : List (Option Value)) (store : Store)
        (memory : NMemory) → HasIntRoom (length (Refers within ∷ ks)) m.max_stack code.max_stack
        → Stores l store memory → IntLocals memory.heap f pairs ls locals words
        → IntStacks memory.heap (Range s ∷ ks) vs ws
        → InStep l f pairs (Refers within ∷ ks) ls here (here + 1 + 1) words memory (at + 1)
        (effect by m at locals store (jop.NewArray kind) vs)
        (λ n. walk (by_label l) code n (spot here ws words memory)) 2
    unfolding effect
    zeros_row kind number_of element passes is_element does code here stand at ks _ _ locals words store memory after
        stores held (number {x = x} {high = high} {low = low} {vs = vs} {ws = ws} e h rest) =
        sized_row code here at (insns.NewArray number_of) stand ks x high low vs ws locals words store memory after
        stores
        held e h rest _ (λ n. Numbers element (replicate n (pos 0))) (λ n. things.Array (array_name element)
        (replicate n (Num (pos 0)))) (λ y. does code (here + 1) y ws words memory)
        (ap (λ o. by_name.with_new_numbers by m at locals store o (Num x ∷ vs)) is_element)
        (numbers_shown element) (λ n. passes)
        (λ n few. numbers (few_of n (pos 0) few) (λ k d low. all_same (Holds (element_range element)) (pos 0)
        (zero_held element) n k d low))

    pub booleans : within (OfNumbers Booleans) ≡ true → IntRow by l f pairs r m b (jop.NewArray 4) (Range s
        ∷ []) (Refers within ∷ []) ls ls
    booleans passes place code here is at ks vs ws locals words store memory before after stores held rest =
        zeros_row 4 10 Booleans passes refl (λ code next y ws words memory. refl) code here is at ks vs ws locals words
        store memory after stores held rest

    pub bytes : within (OfNumbers Bytes) ≡ true → IntRow by l f pairs r m b (jop.NewArray 8) (Range s
        ∷ []) (Refers within ∷ []) ls ls
    bytes passes place code here is at ks vs ws locals words store memory before after stores held rest =
        zeros_row 8 11 Bytes passes refl (λ code next y ws words memory. refl) code here is at ks vs ws locals words
        store
        memory after stores held rest

    pub shorts : within (OfNumbers Shorts) ≡ true → IntRow by l f pairs r m b (jop.NewArray 9) (Range s
        ∷ []) (Refers within ∷ []) ls ls
    shorts passes place code here is at ks vs ws locals words store memory before after stores held rest =
        zeros_row 9 12 Shorts passes refl (λ code next y ws words memory. refl) code here is at ks vs ws locals words
        store memory after stores held rest

    pub arrays_of_ints : within (OfNumbers Ints) ≡ true → IntRow by l f pairs r m b (jop.NewArray 10) (Range s
        ∷ []) (Refers within ∷ []) ls ls
    arrays_of_ints passes place code here is at ks vs ws locals words store memory before after stores held rest =
        zeros_row 10 13 Ints passes refl (λ code next y ws words memory. refl) code here is at ks vs ws locals words
        store
        memory after stores held rest

    pub anewarray : (class : List ℕ) → IsClassThere by l m class → within (OfReferences class) ≡ true
        → IntRow by l f pairs r m b (jop.ANewArray class) (Range s ∷ []) (Refers within ∷ []) ls ls
    unfolding effect meaning
    anewarray class there passes place code here stand at ks _ _ locals words store memory before after stores held
        (number {x = x} {high = high} {low = low} {vs = vs} {ws = ws} e h rest) =
        sized_row code here at (insns.Named 0x91 (pool.Class class)) stand ks x high low vs ws locals words store memory
        after stores held e h rest _ (λ n. References class (replicate n Null))
        (λ n. things.Array (shape_name (OfReferences class)) (replicate n Null)) (λ y. refl)
        (ap (λ o. by_name.with_new_references by m at locals store (by_name.class_in o) (Num x ∷ vs)) there.is_name
        ∙ ap (λ b. by_name.only_if b (by_name.with_size x (λ n. by_name.with_new by m at locals store
        (things.Array (shape_name (OfReferences class)) (replicate n Null)) vs))) there.is_there)
        (references_shown class) (λ n. passes)
        (λ n few. references there.arrays (few_of n Null few) (λ k d low. all_same (CellFits l (memory.heap
        ++ References class (replicate n Null) ∷ []) (Reference (OfClass class))) Null a_null n k d low))
