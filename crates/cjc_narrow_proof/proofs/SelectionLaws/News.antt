-- New arrays and objects are made alike, and types are asked alike.
use Rattle.std.proofs.Common.{◌≡◌, ℕ, zero, suc, ◌+◌, ◌≤◌, ◌<◌, refl, sym, ap, subst, ◌∙◌, arith, Bool, true}
use Rattle.std.proofs.Common.{List, [], ◌∷◌, ◌++◌, length, replicate, ℤ, pos, negsuc}
use Rattle.std.specs.Prelude.{Option, Some, map, option_map, nat_le, nat_lt, slice_index_or, if◌then◌else◌}
use Rattle.std.specs.List.{list_all}
use Rattle.std.proofs.lemmas.Bool.Decides.{nat_tests}
use Rattle.std.proofs.lemmas.Int.{ints}
use Rattle.cjc_bytes.specs.declared.fault.MemberId.{MemberId}
use Rattle.cjc_bytes.proofs.Bools.{and_true}
use Rattle.cjc_bytes.proofs.Gets.{at_end}
use Rattle.cjc_bytes.proofs.Numbers.{length_replicated}
use Rattle.cjc_range.specs.Words.{low_word}
use Rattle.cjc_range.specs.Span.{Span, Holds, Within, short_range}
use Rattle.cjc_code.specs.declared.insn.JOp.TheVariants as jop
use Rattle.cjc_script.specs.declared.value.Value.{Value}
use Rattle.cjc_script.specs.declared.value.Value.TheVariants.{Num, Null, Obj}
use Rattle.cjc_script.specs.declared.report.Thing.{Thing}
use Rattle.cjc_script.specs.declared.report.Thing.TheVariants as things
use Rattle.cjc_script.specs.Sorts.{Element, Booleans, Bytes, Shorts, Ints, Shape, OfClass, OfNumbers, OfReferences}
use Rattle.cjc_script.specs.Sorts.{Sort, Boolean, Byte, Short, Int, Reference, NoValue, field_sort, zero_of, shape_name}
use Rattle.cjc_script.specs.Sorts.{array_name}
use Rattle.cjc_card_semantics.specs.Bytecode.Effects.{HeapObject, Numbers, References, Object, shape}
use Rattle.cjc_card_semantics.specs.Bytecode.Effects as narrow
use Rattle.cjc_card_semantics.specs.Bytecode.Meanings.{meaning}
use Rattle.cjc_card_semantics.specs.Bytecode.Renaming.{keys}
use Rattle.cjc_ncode.specs.declared.narrow.NInsn.TheVariants as insns
use Rattle.cjc_ncode.specs.declared.narrow.PoolKey.TheVariants as pool
use Rattle.cjc_ncode.specs.Written.{Resolution}
use Rattle.cjc_ncode.specs.ByLabel.{Named, by_label, slot_for, shown_slot}
use Rattle.cjc_jvm_semantics.specs.Linked.{Method, Linked}
use Rattle.cjc_jvm_semantics.specs.Effects.{Store, effect, fresh_field}
use Rattle.cjc_jvm_semantics.specs.Effects as by_name
use Rattle.cjc_narrow_proof.specs.Selection.Relation.{Kind, Range, Refers, Heap, NMemory, number, object, Stacks, cell}
use Rattle.cjc_narrow_proof.specs.Selection.Relation.{Locals, CellFits, a_boolean, a_byte, a_short, an_int, a_null}
use Rattle.cjc_narrow_proof.specs.Selection.Relation.{SlotsFit, no_slots, slot, element_range, ThingFits, numbers}
use Rattle.cjc_narrow_proof.specs.Selection.Relation.{references, of_class, shown, Stores, made as has_objects}
use Rattle.cjc_narrow_proof.specs.Selection.Rows.{HasRoom, Same, goes, raises, RowAgrees}
use Rattle.cjc_narrow_proof.specs.Selection.Objects.{has_values, is_field, IsMade, IsClassThere}
use Rattle.cjc_narrow_proof.proofs.SelectionLaws.Plain.{RowIs, as_written}
use Rattle.cjc_narrow_proof.proofs.SelectionLaws.Divides.{same_word}
use Rattle.cjc_narrow_proof.proofs.SelectionLaws.Gets.{heights}
use Rattle.cjc_narrow_proof.proofs.SelectionLaws.Keeps.{stacks_kept, locals_kept, grown_keeps, grown_stores}

-- ---- an array or object at the end of both heaps

module _ (by : Linked) (l : Named) (m : Method) (room at next : ℕ) (ks ls : List Kind) (vs ws : List Value)
    (locals words : List (Option Value)) (store : Store) (memory : NMemory)
    (within : Shape (List ℕ) → Bool) (roomy : HasRoom (Refers within ∷ ks) m.max_stack room) (stores : Stores l store
    memory) (held : Locals memory.heap ls locals words) (rest : Stacks memory.heap ks vs ws) where
  pub made_both : (thing : HeapObject (List ℕ) MemberId) (named_thing : Thing) → named_thing ≡ shown l thing
      → within (shape thing) ≡ true → ThingFits l (memory.heap ++ thing ∷ []) thing
      → Same l (Refers within ∷ ks) ls (at + 1) next (by_name.with_new by m at locals store named_thing vs)
      (narrow.made thing room next words memory ws)
  made_both thing named_thing is passes fits =
      let h = heights rest in let e = h.by_name in let g = h.narrow in let high = roomy.by_name in let high' =
      roomy.narrow in
      let left : nat_lt (length vs) m.max_stack ≡ true = grind (arith, nat_tests) in
      let right : nat_le (length (Obj (length memory.heap) ∷ ws)) room ≡ true = grind (arith, nat_tests) in
      let after = record memory { heap = memory.heap ++ thing ∷ [] } in
      let keeps = grown_keeps memory.heap thing in
      let here : length store.heap ≡ length memory.heap = ap length stores.heap ∙ count (shown l) memory.heap in
      let Meets = Same l (Refers within ∷ ks) ls (at + 1) next in
      subst (λ t. Meets (by_name.with_new by m at locals store t vs) (narrow.made thing room next words memory ws))
      (sym is)
      (subst (λ b. Meets (by_name.only_if b (by_name.with_heap by m at locals store (store.heap ++ shown l thing
      ∷ []) (Obj (length store.heap) ∷ vs))) (narrow.made thing room next words memory ws)) (sym left)
      (subst (λ b. Meets (by_name.with_heap by m at locals store (store.heap ++ shown l thing
      ∷ []) (Obj (length store.heap) ∷ vs)) (if b then narrow.Go next (Obj (length memory.heap) ∷ ws) words after
      else narrow.Stick)) (sym right)
      (subst (λ n. Meets (by_name.Go (at + 1) (Obj n ∷ vs) locals (record store {
        heap = store.heap ++ shown l thing
            ∷ [];
      })) (narrow.Go next (Obj (length memory.heap) ∷ ws) words after)) (sym here)
      (goes (cell (object thing (at_end memory.heap thing) passes) (stacks_kept keeps rest)) (locals_kept keeps held)
      (grown_stores l store memory thing stores fits)))))
    where
      count : {A B : Type 0} (f : A → B) (xs : List A) → length (map f xs) ≡ length xs
      count f [] = refl
      count f (x ∷ xs) = ap suc (count f xs)

-- ---- an object

zero_fits : (l : Named) (heap : Heap) (sort : Sort) → has_values sort ≡ true → CellFits l heap sort (zero_of sort)
zero_fits l heap Boolean e = a_boolean (record { above = omega (arith, ints); below = omega (arith, ints) })
zero_fits l heap Byte e = a_byte (record { above = omega (arith, ints); below = omega (arith, ints) })
zero_fits l heap Short e = a_short (record { above = omega (arith, ints); below = omega (arith, ints) })
zero_fits l heap Int e = an_int (record { above = omega (arith, ints); below = omega (arith, ints) })
zero_fits l heap (Reference kind) e = a_null
zero_fits l heap NoValue e = cc

fresh_fits : (l : Named) (heap : Heap) (fields : List MemberId) → list_all is_field fields ≡ true
    → SlotsFit l heap (map slot_for fields)
fresh_fits l heap [] e = no_slots
fresh_fits l heap (f ∷ fields) e = let p = and_true (is_field f) (list_all is_field fields) e
    in slot (zero_fits l heap (field_sort f.desc) p.0) (fresh_fits l heap fields p.1)

fresh_keys : (fields : List MemberId) → keys (map slot_for fields) ≡ fields
fresh_keys [] = refl
fresh_keys (f ∷ fields) = ap (λ fs. f ∷ fs) (fresh_keys fields)

fresh_shown : (fields : List MemberId) → map fresh_field fields ≡ map shown_slot (map slot_for fields)
fresh_shown [] = refl
fresh_shown (f ∷ fields) = ap (λ vs. fresh_field f ∷ vs) (fresh_shown fields)

module _ (by : Linked) (l : Named) (r : Resolution) (m : Method) (class : List ℕ) (within : Shape (List ℕ)
    → Bool) (made : IsMade by l m class) (passes : within (OfClass class) ≡ true) where
  object_shown : things.Object class (map fresh_field made.fields) ≡ shown l (Object class (map slot_for made.fields))
  unfolding by_label
  object_shown = ap (things.Object class) (fresh_shown made.fields)

  new_is : RowIs by l m (jop.New class) (insns.Named 0x8F (pool.Class class)) [] (Refers within ∷ [])
  unfolding effect meaning
  new_is room at next ks ls vs ws locals words store memory roomy stores held rest =
      let Meets = Same l (Refers within ∷ ks) ls (at + 1) next in
      let slots = map slot_for made.fields in
      let fits = of_class (has_objects (made.narrow ∙ ap Some (sym (fresh_keys made.fields))))
      (fresh_fits l (memory.heap ++ Object class slots ∷ []) made.fields made.are_fields) in
      subst (λ o. Meets (by_name.with_some o (λ fields. by_name.with_new by m at locals store
      (things.Object class (map fresh_field fields)) vs)) (narrow.with_some narrow.Stick (option_map (map slot_for)
      (l.fields class)) (λ slots. narrow.made (Object class slots) room next words memory ws))) (sym made.by_name)
      (subst (λ o. Meets (by_name.with_new by m at locals store (things.Object class (map fresh_field made.fields)) vs)
      (narrow.with_some narrow.Stick (option_map (map slot_for) o) (λ slots. narrow.made (Object class slots) room
      next words memory ws))) (sym made.narrow)
      (made_both by l m room at next ks ls vs ws locals words store memory within roomy stores held rest
      (Object class slots) (things.Object class (map fresh_field made.fields)) object_shown passes fits))

  pub new : RowAgrees by l r m (jop.New class) [] (Refers within ∷ [])
  new = as_written by l r m (jop.New class) (insns.Named 0x8F (pool.Class class)) [] (Refers within
      ∷ []) (λ place. refl) new_is

-- ---- arrays

pub zeros_shown : (n : ℕ) → replicate n (Num (pos 0)) ≡ map Num (replicate n (pos 0))
zeros_shown zero = refl
zeros_shown (suc n) = ap (λ vs. Num (pos 0) ∷ vs) (zeros_shown n)

pub all_same : {A : Type 0} (P : A → Type 0) (x : A) → P x → (n k : ℕ) (d : A) → k < length (replicate n x)
    → P (slice_index_or (replicate n x) k d)
all_same P x p zero k d low = absurd (omega arith)
all_same P x p (suc n) zero d low = p
all_same P x p (suc n) (suc k) d low = all_same P x p n k d (omega arith)

pub zero_held : (element : Element) → Holds (element_range element) (pos 0)
zero_held Booleans = record { above = omega (arith, ints); below = omega (arith, ints) }
zero_held Bytes = record { above = omega (arith, ints); below = omega (arith, ints) }
zero_held Shorts = record { above = omega (arith, ints); below = omega (arith, ints) }
zero_held Ints = record { above = omega (arith, ints); below = omega (arith, ints) }

pub few_of : {A : Type 0} (n : ℕ) (x : A) → n ≤ 32767 → length (replicate n x) ≤ 32767
few_of n x h = let e = length_replicated n x in omega (arith, e)

-- so many elements as a number of 16 bits says; a negative one raises
module _ (by : Linked) (l : Named) (m : Method) (room at next : ℕ) (ks ls : List Kind) (vs ws : List Value)
    (locals words : List (Option Value)) (store : Store) (memory : NMemory)
    (within : Shape (List ℕ) → Bool) (roomy : HasRoom (Refers within ∷ ks) m.max_stack room) (stores : Stores l store
    memory) (held : Locals memory.heap ls locals words) (rest : Stacks memory.heap ks vs ws) where
  pub sized_both : (s : Span) → Within s short_range → (x y : ℤ) → y ≡ low_word x → Holds s x
      → (thing : ℕ → HeapObject (List ℕ) MemberId) (named_thing : ℕ → Thing)
      → ((n : ℕ) → named_thing n ≡ shown l (thing n)) → ((n : ℕ) → within (shape (thing n)) ≡ true)
      → ((n : ℕ) → n ≤ 32767 → ThingFits l (memory.heap ++ thing n ∷ []) (thing n))
      → Same l (Refers within ∷ ks) ls (at + 1) next (by_name.with_size x (λ n. by_name.with_new by m at locals store
      (named_thing n) vs)) (narrow.sized y (λ n. narrow.made (thing n) room next words memory ws))
  sized_both s small x y e h thing named_thing is passes fits =
      subst (λ z. Same l (Refers within ∷ ks) ls (at + 1) next (by_name.with_size x (λ n. by_name.with_new by m at
      locals store (named_thing n) vs)) (narrow.sized z (λ n. narrow.made (thing n) room next words memory ws)))
      (sym (same_word s x small h e)) (by_sign x h)
    where
      by_sign : (x : ℤ) → Holds s x → Same l (Refers within ∷ ks) ls (at + 1) next
          (by_name.with_size x (λ n. by_name.with_new by m at locals store (named_thing n) vs))
          (narrow.sized x (λ n. narrow.made (thing n) room next words memory ws))
      by_sign (pos n) h =
          let few : n ≤ 32767 = (let a = h.below in let b = small.high in omega (arith, ints)) in
          made_both by l m room at next ks ls vs ws locals words store memory within roomy stores held rest (thing n)
          (named_thing n) (is n) (passes n) (fits n few)
      by_sign (negsuc n) h = raises {fault = by_name.NegativeSize}

module _ (by : Linked) (l : Named) (r : Resolution) (m : Method) (s : Span) (small : Within s short_range)
    (within : Shape (List ℕ) → Bool) where
  numbers_shown : (element : Element) (n : ℕ) → things.Array (array_name element) (replicate n (Num (pos 0)))
      ≡ shown l (Numbers element (replicate n (pos 0)))
  unfolding by_label
  numbers_shown element n = ap (things.Array (array_name element)) (zeros_shown n)

  zeros_both : (element : Element) → within (OfNumbers element) ≡ true
      → (room at next : ℕ) (ks ls : List Kind) (x y : ℤ) (vs ws : List Value) (locals words : List (Option Value))
      (store : Store) (memory : NMemory) →
      HasRoom (Refers within ∷ ks) m.max_stack room → Stores l store memory → Locals memory.heap ls locals words
      → y ≡ low_word x → Holds s x → Stacks memory.heap ks vs ws →
      Same l (Refers within ∷ ks) ls (at + 1) next (by_name.with_new_numbers by m at locals store (Some element) (Num x
      ∷ vs)) (narrow.counted (Num y ∷ ws) (λ n rest. narrow.made (Numbers element (replicate n (pos 0))) room next
      words memory rest))
  zeros_both element passes room at next ks ls x y vs ws locals words store memory roomy stores held e h rest =
      sized_both by l m room at next ks ls vs ws locals words store memory within roomy stores held rest s small x y e h
      (λ n. Numbers element (replicate n (pos 0))) (λ n. things.Array (array_name element) (replicate n (Num (pos 0))))
      (numbers_shown element) (λ n. passes)
      (λ n few. numbers (few_of n (pos 0) few) (λ k d low. all_same (Holds (element_range element)) (pos 0)
      (zero_held element) n k d low))

  booleans_is : within (OfNumbers Booleans) ≡ true → RowIs by l m (jop.NewArray 4) (insns.NewArray 10) (Range s
      ∷ []) (Refers within ∷ [])
  unfolding effect
  booleans_is passes room at next ks ls _ _ locals words store memory roomy stores held (cell {vs = vs} {ws = ws}
      (number {x = x} {y = y} e h) rest) =
      zeros_both Booleans passes room at next ks ls x y vs ws locals words store memory roomy stores held e h rest

  pub booleans : within (OfNumbers Booleans) ≡ true → RowAgrees by l r m (jop.NewArray 4) (Range s ∷ []) (Refers within
      ∷ [])
  booleans passes = as_written by l r m (jop.NewArray 4) (insns.NewArray 10) (Range s ∷ []) (Refers within
      ∷ []) (λ place. refl) (booleans_is passes)

  bytes_is : within (OfNumbers Bytes) ≡ true → RowIs by l m (jop.NewArray 8) (insns.NewArray 11) (Range s
      ∷ []) (Refers within ∷ [])
  unfolding effect
  bytes_is passes room at next ks ls _ _ locals words store memory roomy stores held (cell {vs = vs} {ws = ws}
      (number {x = x} {y = y} e h) rest) =
      zeros_both Bytes passes room at next ks ls x y vs ws locals words store memory roomy stores held e h rest

  pub bytes : within (OfNumbers Bytes) ≡ true → RowAgrees by l r m (jop.NewArray 8) (Range s ∷ []) (Refers within ∷ [])
  bytes passes = as_written by l r m (jop.NewArray 8) (insns.NewArray 11) (Range s ∷ []) (Refers within
      ∷ []) (λ place. refl) (bytes_is passes)

  shorts_is : within (OfNumbers Shorts) ≡ true → RowIs by l m (jop.NewArray 9) (insns.NewArray 12) (Range s
      ∷ []) (Refers within ∷ [])
  unfolding effect
  shorts_is passes room at next ks ls _ _ locals words store memory roomy stores held (cell {vs = vs} {ws = ws}
      (number {x = x} {y = y} e h) rest) =
      zeros_both Shorts passes room at next ks ls x y vs ws locals words store memory roomy stores held e h rest

  pub shorts : within (OfNumbers Shorts) ≡ true → RowAgrees by l r m (jop.NewArray 9) (Range s ∷ []) (Refers within
      ∷ [])
  shorts passes = as_written by l r m (jop.NewArray 9) (insns.NewArray 12) (Range s ∷ []) (Refers within
      ∷ []) (λ place. refl) (shorts_is passes)

  references_shown : (class : List ℕ) (n : ℕ) → things.Array (shape_name (OfReferences class)) (replicate n Null)
      ≡ shown l (References class (replicate n Null))
  unfolding by_label
  references_shown class n = refl

  nulls_is : (class : List ℕ) → IsClassThere by l m class → within (OfReferences class) ≡ true
      → RowIs by l m (jop.ANewArray class) (insns.Named 0x91 (pool.Class class)) (Range s ∷ []) (Refers within ∷ [])
  unfolding effect meaning
  nulls_is class there passes room at next ks ls _ _ locals words store memory roomy stores held
      (cell {vs = vs} {ws = ws} (number {x = x} {y = y} e h) rest) =
      let Meets = Same l (Refers within ∷ ks) ls (at + 1) next in
      let narrow_side = narrow.counted (Num y ∷ ws) (λ n rest. narrow.made (References class (replicate n Null)) room
      next words memory rest) in
      subst (λ o. Meets (by_name.with_new_references by m at locals store (by_name.class_in o) (Num x ∷ vs))
      narrow_side) (sym there.is_name)
      (subst (λ b. Meets (by_name.only_if b (by_name.with_size x (λ n. by_name.with_new by m at locals store
      (things.Array (shape_name (OfReferences class)) (replicate n Null)) vs))) narrow_side) (sym there.is_there)
      (sized_both by l m room at next ks ls vs ws locals words store memory within roomy stores held rest s small x y e
      h
      (λ n. References class (replicate n Null)) (λ n. things.Array (shape_name (OfReferences class))
      (replicate n Null)) (references_shown class) (λ n. passes)
      (λ n few. references there.arrays (few_of n Null few) (λ k d low. all_same (CellFits l (memory.heap
      ++ References class (replicate n Null) ∷ []) (Reference (OfClass class))) Null a_null n k d low))))

  pub anewarray : (class : List ℕ) → IsClassThere by l m class → within (OfReferences class) ≡ true
      → RowAgrees by l r m (jop.ANewArray class) (Range s ∷ []) (Refers within ∷ [])
  anewarray class there passes = as_written by l r m (jop.ANewArray class) (insns.Named 0x91 (pool.Class class))
      (Range s ∷ []) (Refers within ∷ []) (λ place. refl) (nulls_is class there passes)
