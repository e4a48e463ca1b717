-- No narrow instruction changes the type of an array or object.
use Rattle.std.proofs.Common.{◌≡◌, ℕ, refl, sym, ap, Bool, true, false, List, [], ◌∷◌, ◌++◌, length, replicate, ℤ, pos}
use Rattle.std.proofs.Common.{negsuc}
use Rattle.std.specs.Prelude.{Option, Some, None, nat_le, slice_get, slice_set, if◌then◌else◌}
use Rattle.cjc_bytes.specs.declared.fault.MemberId.{MemberId}
use Rattle.cjc_range.specs.Words.{low_word}
use Rattle.cjc_script.specs.declared.value.Value.{Value}
use Rattle.cjc_script.specs.declared.value.Value.TheVariants.{Num, Null, Obj}
use Rattle.cjc_script.specs.Sorts.{Element, Shape, OfClass}
use Rattle.cjc_card_semantics.specs.Bytecode.Numbers.{is_word}
use Rattle.cjc_card_semantics.specs.Bytecode.Calculations.{Result, Fine, Fails, Wrong, Choice, Takes, Neither}
use Rattle.cjc_card_semantics.specs.Bytecode.Calculations.{one_number, two_numbers, one_value}
use Rattle.cjc_card_semantics.specs.Bytecode.Calculations
use Rattle.cjc_card_semantics.specs.Bytecode.Effects.{Letter, Access, Slot, HeapObject, Numbers, References, Object}
use Rattle.cjc_card_semantics.specs.Bytecode.Effects.{Memory, shape}
use Rattle.cjc_card_semantics.specs.Bytecode.Effects as narrow
use Rattle.cjc_ncode.specs.PoolOrder.{same_member}
use Rattle.cjc_ncode.specs.ByLabel.{Named, Resolved, classes, put_static, fresh}
use Rattle.cjc_narrow_proof.specs.Selection.Relation.{Heap, NMemory}
use Rattle.cjc_narrow_proof.specs.Selection.Rows.{NEffect}
use Rattle.cjc_narrow_proof.specs.Selection.Acts.{Keeps}
use Rattle.cjc_narrow_proof.specs.Selection.Types.{TypesStay, goes_on, raises, tosses, invokes, leaves, sticks}
use Rattle.cjc_narrow_proof.proofs.SelectionLaws.Keeps.{set_keeps, grown_keeps}
use Rattle.cjc_narrow_proof.proofs.SelectionLaws.Replies.{keeps_itself}

module _ (heap : Heap) where
  abbrev Stays : NEffect → Type 0
  Stays = TypesStay heap

  -- ---- operands

  number_any : (stack : List Value) (go : ℤ → List Value → NEffect) → ((x : ℤ) (rest : List Value) → Stays (go x rest))
      → Stays (one_number narrow.Stick stack go)
  number_any [] go h = sticks
  number_any (Num x ∷ rest) go h = h x rest
  number_any (Null ∷ rest) go h = sticks
  number_any (Obj k ∷ rest) go h = sticks

  numbers_any : (stack : List Value) (go : ℤ → ℤ → List Value → NEffect) → ((x y : ℤ) (rest : List Value)
      → Stays (go x y rest)) → Stays (two_numbers narrow.Stick stack go)
  numbers_any [] go h = sticks
  numbers_any (Num y ∷ []) go h = sticks
  numbers_any (Num y ∷ Num x ∷ rest) go h = h x y rest
  numbers_any (Num y ∷ Null ∷ rest) go h = sticks
  numbers_any (Num y ∷ Obj k ∷ rest) go h = sticks
  numbers_any (Null ∷ rest) go h = sticks
  numbers_any (Obj k ∷ rest) go h = sticks

  value_any : (stack : List Value) (go : Value → List Value → NEffect) → ((v : Value) (rest : List Value)
      → Stays (go v rest)) → Stays (one_value narrow.Stick stack go)
  value_any [] go h = sticks
  value_any (v ∷ rest) go h = h v rest

  reference_any : (stack : List Value) (go : Value → List Value → NEffect) → ((v : Value) (rest : List Value)
      → Stays (go v rest)) → Stays (narrow.one_reference narrow.Stick stack go)
  reference_any [] go h = sticks
  reference_any (Num x ∷ rest) go h = sticks
  reference_any (Null ∷ rest) go h = h Null rest
  reference_any (Obj k ∷ rest) go h = h (Obj k) rest

  operand_any : (letter : Letter) (stack : List Value) (go : Value → List Value → NEffect)
      → ((v : Value) (rest : List Value) → Stays (go v rest)) → Stays (narrow.operand letter narrow.Stick stack go)
  operand_any narrow.Reference stack go h = reference_any stack go h
  operand_any narrow.Byte stack go h = number_any stack _ (λ x rest. h _ rest)
  operand_any narrow.Short stack go h = number_any stack _ (λ x rest. h _ rest)
  operand_any narrow.Int stack go h = numbers_any stack _ (λ x y rest. h _ rest)

  some_any : {A : Type 0} (o : Option A) (go : A → NEffect) → ((x : A) → o ≡ Some x → Stays (go x))
      → Stays (narrow.with_some narrow.Stick o go)
  some_any None go h = sticks
  some_any (Some x) go h = h x refl

  item_any : {A : Type 0} (items : List A) (i : ℤ) (go : ℕ → A → NEffect) → ((n : ℕ) (x : A) → Stays (go n x))
      → Stays (narrow.item_at (narrow.Raise Calculations.IndexOutside) items i go)
  item_any items (negsuc i) go h = raises
  item_any items (pos i) go h = by_item (slice_get items i)
    where
      by_item : (o : Option _) → Stays (narrow.with_some (narrow.Raise Calculations.IndexOutside) o (go i))
      by_item None = raises
      by_item (Some x) = h i x

  thing_any : (v : Value) (go : ℕ → HeapObject (List ℕ) MemberId → NEffect)
      → ((k : ℕ) (thing : HeapObject (List ℕ) MemberId) → slice_get heap k ≡ Some thing → Stays (go k thing))
      → Stays (narrow.thing_of heap v go)
  thing_any (Num x) go h = sticks
  thing_any Null go h = raises
  thing_any (Obj k) go h = some_any (slice_get heap k) (go k) (h k)

  word_any : (z : ℤ) (go : List Value → NEffect) → ((words : List Value) → Stays (go words))
      → Stays (narrow.word_of z narrow.Stick go)
  word_any z go h = by_test (is_word z)
    where
      by_test : (b : Bool) → Stays (if b then go (Num z ∷ []) else narrow.Stick)
      by_test true = h (Num z ∷ [])
      by_test false = sticks

  words_any : (letter : Letter) (v : Value) (go : List Value → NEffect) → ((words : List Value) → Stays (go words))
      → Stays (narrow.words_of letter v narrow.Stick go)
  words_any narrow.Reference (Num z) go h = sticks
  words_any narrow.Reference Null go h = h _
  words_any narrow.Reference (Obj k) go h = h _
  words_any narrow.Byte (Num z) go h = word_any z go h
  words_any narrow.Byte Null go h = sticks
  words_any narrow.Byte (Obj k) go h = sticks
  words_any narrow.Short (Num z) go h = word_any z go h
  words_any narrow.Short Null go h = sticks
  words_any narrow.Short (Obj k) go h = sticks
  words_any narrow.Int (Num z) go h = h _
  words_any narrow.Int Null go h = sticks
  words_any narrow.Int (Obj k) go h = sticks

  onward_any : (new : List Value) (room next : ℕ) (words : List (Option Value)) (memory : NMemory) (rest : List Value)
      → Keeps heap memory.heap → Stays (narrow.onward new room next words memory rest)
  onward_any new room next words memory rest keeps = by_room (nat_le (length (new ++ rest)) room)
    where
      by_room : (b : Bool) → Stays (if b then narrow.Go next (new ++ rest) words memory else narrow.Stick)
      by_room true = goes_on keeps
      by_room false = sticks

  result_any : (r : Result) (next : ℕ) (memory : NMemory) → Keeps heap memory.heap
      → Stays (narrow.effect_of_result r next memory)
  result_any (Fine stack words) next memory keeps = goes_on keeps
  result_any (Fails fault) next memory keeps = raises
  result_any Wrong next memory keeps = sticks

  choice_any : (c : Choice) (to next : ℕ) (words : List (Option Value)) (memory : NMemory) → Keeps heap memory.heap
      → Stays (narrow.chosen c to next words memory)
  choice_any (Takes true rest) to next words memory keeps = goes_on keeps
  choice_any (Takes false rest) to next words memory keeps = goes_on keeps
  choice_any Neither to next words memory keeps = sticks

-- ---- instructions

module _ (l : Named) (room next : ℕ) (words : List (Option Value)) (memory : NMemory) where
  abbrev Holds : NEffect → Type 0
  Holds = TypesStay memory.heap

  same : Keeps memory.heap memory.heap
  same = keeps_itself memory.heap

  numbers_of : (letter : Letter) (go : Element → List ℤ → NEffect) (thing : HeapObject (List ℕ) MemberId)
      → ((element : Element) (items : List ℤ) → thing ≡ Numbers element items → Holds (go element items))
      → Holds (narrow.numbers_in letter go thing)
  numbers_of letter go (Numbers element items) h = by_test (narrow.is_element letter element)
    where
      by_test : (b : Bool) → Holds (if b then go element items else narrow.Stick)
      by_test true = h element items refl
      by_test false = sticks
  numbers_of letter go (References class items) h = sticks
  numbers_of letter go (Object class slots) h = sticks

  references_of : (go : List ℕ → List Value → NEffect) (thing : HeapObject (List ℕ) MemberId)
      → ((class : List ℕ) (items : List Value) → thing ≡ References class items → Holds (go class items))
      → Holds (narrow.references_in go thing)
  references_of go (Numbers element items) h = sticks
  references_of go (References class items) h = h class items refl
  references_of go (Object class slots) h = sticks

  object_of : (go : List ℕ → List (Slot MemberId) → NEffect) (thing : HeapObject (List ℕ) MemberId)
      → ((class : List ℕ) (slots : List (Slot MemberId)) → thing ≡ Object class slots → Holds (go class slots))
      → Holds (narrow.object_in go thing)
  object_of go (Numbers element items) h = sticks
  object_of go (References class items) h = sticks
  object_of go (Object class slots) h = h class slots refl

  length_of : (go : ℕ → NEffect) (thing : HeapObject (List ℕ) MemberId) → ((n : ℕ) → Holds (go n))
      → Holds (narrow.length_in go thing)
  length_of go (Numbers element items) h = h (length items)
  length_of go (References class items) h = h (length items)
  length_of go (Object class slots) h = sticks

  -- another array or object of the same type in a place
  with_same : (at k : ℕ) (old new : HeapObject (List ℕ) MemberId) (rest : List Value) → slice_get memory.heap k
      ≡ Some old → shape new ≡ shape old → Holds (narrow.Go at rest words (narrow.with_thing memory k new))
  with_same at k old new rest there type = goes_on (set_keeps memory.heap k old new there type)

  made_stays : (thing : HeapObject (List ℕ) MemberId) (rest : List Value)
      → Holds (narrow.made thing room next words memory rest)
  made_stays thing rest = onward_any memory.heap (Obj (length memory.heap) ∷ []) room next words
      (record memory { heap = memory.heap ++ thing ∷ [] }) rest (grown_keeps memory.heap thing)

  counted_stays : (stack : List Value) (thing : ℕ → HeapObject (List ℕ) MemberId)
      → Holds (narrow.counted stack (λ n rest. narrow.made (thing n) room next words memory rest))
  counted_stays stack thing = number_any memory.heap stack _ by_number
    where
      by_number : (n : ℤ) (rest : List Value)
          → Holds (narrow.sized n (λ k. narrow.made (thing k) room next words memory rest))
      by_number (pos n) rest = made_stays (thing n) rest
      by_number (negsuc n) rest = raises

  load_stays : (letter : Letter) (stack : List Value)
      → Holds (narrow.load_number (classes l) letter room next words memory stack)
  load_stays letter stack =
      number_any memory.heap stack _ (λ i below. value_any memory.heap below _ (λ r rest. thing_any memory.heap r _
      (λ k thing there. numbers_of letter _ thing (λ element items is.
      item_any memory.heap items i _ (λ n x. words_any memory.heap letter (Num x) _ (λ new. onward_any memory.heap new
      room next words memory rest same))))))

  loaded_stays : (letter : Letter) (stack : List Value)
      → Holds (narrow.loaded (classes l) letter room next words memory stack)
  loaded_stays narrow.Reference stack =
      number_any memory.heap stack _ (λ i below. value_any memory.heap below _ (λ r rest. thing_any memory.heap r _
      (λ k thing there. references_of _ thing (λ class items is.
      item_any memory.heap items i _ (λ n v. onward_any memory.heap (v ∷ []) room next words memory rest same)))))
  loaded_stays narrow.Byte stack = load_stays narrow.Byte stack
  loaded_stays narrow.Short stack = load_stays narrow.Short stack
  loaded_stays narrow.Int stack = load_stays narrow.Int stack

  store_stays : (letter : Letter) (stack : List Value)
      → Holds (narrow.store_number (classes l) letter next words memory stack)
  store_stays letter stack =
      operand_any memory.heap letter stack _ (λ v under. number_any memory.heap under _
      (λ i below. value_any memory.heap below _ (λ r rest. thing_any memory.heap r _ (λ k thing there. numbers_of
      letter _ thing (λ element items is.
      item_any memory.heap items i _ (λ n old. with_same next k thing
      (Numbers element (slice_set items n (narrow.item_of v))) rest there (ap shape (sym is))))))))

  kept_stays : (class : List ℕ) (v : Value) (effect : NEffect) → Holds effect
      → Holds (narrow.kept (classes l) memory.heap class v effect)
  kept_stays class (Num x) effect h = sticks
  kept_stays class Null effect h = h
  kept_stays class (Obj k) effect h = some_any memory.heap (slice_get memory.heap k) _
      (λ thing is. by_test (l.is_of (shape thing) (OfClass class)))
    where
      by_test : (b : Bool) → Holds (if b then effect else narrow.Raise Calculations.ArrayStore)
      by_test true = h
      by_test false = raises

  store_reference_stays : (stack : List Value) → Holds (narrow.store_reference (classes l) next words memory stack)
  store_reference_stays stack =
      reference_any memory.heap stack _ (λ v under. number_any memory.heap under _ (λ i below. value_any memory.heap
      below _ (λ r rest. thing_any memory.heap r _ (λ k thing there. references_of _ thing (λ class items is.
      item_any memory.heap items i _ (λ n old. kept_stays class v _ (with_same next k thing
      (References class (slice_set items n v)) rest there (ap shape (sym is)))))))))

  stored_stays : (letter : Letter) (stack : List Value)
      → Holds (narrow.stored (classes l) letter next words memory stack)
  stored_stays narrow.Reference stack = store_reference_stays stack
  stored_stays narrow.Byte stack = store_stays narrow.Byte stack
  stored_stays narrow.Short stack = store_stays narrow.Short stack
  stored_stays narrow.Int stack = store_stays narrow.Int stack

  thrown_stays : (v : Value) → Holds (narrow.thrown v)
  thrown_stays (Num x) = sticks
  thrown_stays Null = raises
  thrown_stays (Obj k) = tosses

  results_stay : (letter : Letter) (stack : List Value)
      → Holds (narrow.result_words letter narrow.Stick stack (λ new. narrow.Leave new))
  results_stay narrow.Reference stack = reference_any memory.heap stack _ (λ v rest. leaves)
  results_stay narrow.Byte stack = number_any memory.heap stack _ (λ x rest. leaves)
  results_stay narrow.Short stack = number_any memory.heap stack _ (λ x rest. leaves)
  results_stay narrow.Int [] = sticks
  results_stay narrow.Int (Num low ∷ []) = sticks
  results_stay narrow.Int (Num low ∷ Num high ∷ rest) = leaves
  results_stay narrow.Int (Num low ∷ Null ∷ rest) = sticks
  results_stay narrow.Int (Num low ∷ Obj k ∷ rest) = sticks
  results_stay narrow.Int (Null ∷ rest) = sticks
  results_stay narrow.Int (Obj k ∷ rest) = sticks

  touched_stays : (access : Access) (stack : List Value)
      → Holds (narrow.effect_of_access (classes l) access room next words memory stack)
  touched_stays (narrow.Load letter) stack = loaded_stays letter stack
  touched_stays (narrow.Store letter) stack = stored_stays letter stack
  touched_stays narrow.Length stack = value_any memory.heap stack _ (λ r rest. thing_any memory.heap r _
      (λ k thing there. length_of (λ n. narrow.Go next (Num (low_word (pos n)) ∷ rest) words memory) thing
      (λ n. goes_on same)))
  touched_stays narrow.Throw stack = value_any memory.heap stack _ (λ r rest. thrown_stays r)
  touched_stays (narrow.Return None) stack = leaves
  touched_stays (narrow.Return (Some letter)) stack = results_stay letter stack

  cast_any : (target : Shape (List ℕ)) (v : Value) (go : Bool → NEffect) → ((b : Bool) → Holds (go b))
      → Holds (narrow.cast_of (classes l) target memory.heap v go)
  cast_any target (Num x) go h = sticks
  cast_any target Null go h = sticks
  cast_any target (Obj k) go h = some_any memory.heap (slice_get memory.heap k) _
      (λ thing is. h (l.is_of (shape thing) target))

  cast_stays : (target : Shape (List ℕ)) (stack : List Value)
      → Holds (narrow.cast (classes l) target next words memory stack)
  cast_stays target [] = sticks
  cast_stays target (Null ∷ rest) = goes_on same
  cast_stays target (Num x ∷ rest) = sticks
  cast_stays target (Obj k ∷ rest) = cast_any target (Obj k) _ by_test
    where
      by_test : (b : Bool) → Holds (if b then narrow.Go next (Obj k ∷ rest) words memory
          else narrow.Raise Calculations.ClassCast)
      by_test true = goes_on same
      by_test false = raises

  asked_stays : (target : Shape (List ℕ)) (stack : List Value)
      → Holds (narrow.asked (classes l) target next words memory stack)
  asked_stays target [] = sticks
  asked_stays target (Null ∷ rest) = goes_on same
  asked_stays target (Num x ∷ rest) = sticks
  asked_stays target (Obj k ∷ rest) = cast_any target (Obj k) (λ b. narrow.Go next (Num (narrow.truth b) ∷ rest) words
      memory) (λ b. goes_on same)

  receiver_any : (this : Bool) (stack : List Value) (go : Value → List Value → NEffect)
      → ((v : Value) (rest : List Value) → Holds (go v rest)) → Holds (narrow.receiver this words stack go)
  receiver_any false stack go h = value_any memory.heap stack go h
  receiver_any true stack go h = some_any memory.heap (slice_get words 0) _ (λ o is. some_any memory.heap o _
      (λ v has. h v stack))

  slot_any : (o : Option Value) (new : Value) (effect : NEffect) → Holds effect
      → Holds (narrow.put_slot (classes l) o new effect)
  slot_any None new effect h = sticks
  slot_any (Some old) new effect h = by_test (narrow.same_kind old new)
    where
      by_test : (b : Bool) → Holds (if b then effect else narrow.Stick)
      by_test true = h
      by_test false = sticks

  -- Each instruction.
  pub types_stay : (operation : Resolved) (stack : List Value)
      → Holds (narrow.effect (classes l) operation room next words memory stack)
  types_stay (narrow.Do calculation) stack = result_any memory.heap (calculation room words stack) next memory same
  types_stay (narrow.Branch test to) stack = choice_any memory.heap (test stack) to next words memory same
  types_stay (narrow.Pick false other arms) stack = number_any memory.heap stack _ (λ x rest. goes_on same)
  types_stay (narrow.Pick true other arms) stack = numbers_any memory.heap stack _ (λ x y rest. goes_on same)
  types_stay (narrow.Touch access) stack = touched_stays access stack
  types_stay (narrow.Get this letter f) stack =
      receiver_any this stack _ (λ r rest. thing_any memory.heap r _ (λ k thing there. object_of _ thing
      (λ class slots is.
      some_any memory.heap (narrow.slot_of same_member slots f) _ (λ v has. words_any memory.heap letter v _
      (λ new. onward_any memory.heap new room next words memory rest same)))))
  types_stay (narrow.Put this letter f) stack =
      operand_any memory.heap letter stack _ (λ v below. receiver_any this below _ (λ r rest. thing_any memory.heap r _
      (λ k thing there. object_of _ thing (λ class slots is.
      slot_any (narrow.slot_of same_member slots f) v _ (with_same next k thing
      (Object class (narrow.slots_with same_member slots f v)) rest there (ap shape (sym is)))))))
  types_stay (narrow.GetStatic letter s) stack =
      some_any memory.heap (narrow.slot_of same_member memory.statics s) _ (λ v has. words_any memory.heap letter v _
      (λ new. onward_any memory.heap new room next words memory stack same))
  types_stay (narrow.PutStatic letter s) stack =
      operand_any memory.heap letter stack _ (λ v rest. some_any memory.heap (put_static memory.statics s v) _
      (λ x has. goes_on same))
  types_stay (narrow.Call method) stack = invokes
  types_stay (narrow.New class) stack = some_any memory.heap (fresh l class) _ (λ slots has. made_stays
      (Object class slots) stack)
  types_stay (narrow.NewNumbers element) stack = counted_stays stack (λ n. Numbers element (replicate n (pos 0)))
  types_stay (narrow.NewReferences class) stack = counted_stays stack (λ n. References class (replicate n Null))
  types_stay (narrow.Cast target) stack = cast_stays target stack
  types_stay (narrow.Ask target) stack = asked_stays target stack
  types_stay narrow.Undone stack = sticks
