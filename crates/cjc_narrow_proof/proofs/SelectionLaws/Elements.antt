-- Elements of arrays are read and written alike.
use Rattle.std.proofs.Common.{◌≡◌, ℕ, ◌+◌, ◌≤◌, refl, sym, ap, subst, ◌∙◌, arith, Bool, true, List, [], ◌∷◌, length}
use Rattle.std.proofs.Common.{All, ℤ, pos, negsuc}
use Rattle.std.specs.Prelude.{Option, Some, map, nat_le, slice_get, slice_set, ◌≤ℤ◌, if◌then◌else◌}
use Rattle.std.proofs.lemmas.Bool.Decides.{nat_tests}
use Rattle.std.proofs.lemmas.Int.{ints}
use Rattle.cjc_bytes.specs.declared.fault.MemberId.{MemberId}
use Rattle.cjc_bytes.specs.Spots.{desc_of, bad_at, after}
use Rattle.cjc_bytes.proofs.Gets.{set_length, map_set, item_has}
use Rattle.cjc_range.specs.Words.{low_word, low_byte}
use Rattle.cjc_range.proofs.WordsLaws.Words.{low_byte-low_word, low_byte_ends, low_word_ends, low_word_fits}
use Rattle.cjc_range.proofs.WordsLaws.Words.{low_word_fixed}
use Rattle.cjc_range.specs.Span.{Span, Holds, Within, short_range}
use Rattle.cjc_range.proofs.Order.{held_wider}
use Rattle.cjc_code.specs.declared.insn.JOp.TheVariants as jop
use Rattle.cjc_script.specs.declared.value.Value.{Value}
use Rattle.cjc_script.specs.declared.value.Value.TheVariants.{Num}
use Rattle.cjc_script.specs.declared.report.Thing.{Thing}
use Rattle.cjc_script.specs.declared.report.Thing.TheVariants as things
use Rattle.cjc_script.specs.Sorts.{Element, Booleans, Bytes, Shorts, Shape, OfNumbers, array_name, shape_named}
use Rattle.cjc_card_semantics.specs.Bytecode.Numbers.{is_word}
use Rattle.cjc_card_semantics.specs.Bytecode.Calculations
use Rattle.cjc_card_semantics.specs.Bytecode.Meanings.{meaning}
use Rattle.cjc_card_semantics.specs.Bytecode.Effects.{Letter, Slot, HeapObject, Numbers, References, Object, shape}
use Rattle.cjc_card_semantics.specs.Bytecode.Effects.{is_element, words_of}
use Rattle.cjc_card_semantics.specs.Bytecode.Effects as narrow
use Rattle.cjc_card_semantics.proofs.BytecodeLaws.Natural.{get_map}
use Rattle.cjc_ncode.specs.declared.narrow.NInsn.TheVariants as insns
use Rattle.cjc_ncode.specs.Written.{Resolution}
use Rattle.cjc_ncode.specs.ByLabel.{Named, by_label}
use Rattle.cjc_jvm_semantics.specs.Linked.{Method, Linked}
use Rattle.cjc_jvm_semantics.specs.Effects.{Store, Moves, AByte, AShort, effect, serves, load_of, cut}
use Rattle.cjc_jvm_semantics.specs.Effects as by_name
use Rattle.cjc_narrow_proof.specs.Selection.Relation.{Kind, Range, Refers, boolean_range, NMemory, Agrees, number, null}
use Rattle.cjc_narrow_proof.specs.Selection.Relation.{object, Stacks, cell, Locals, element_range, ThingFits, numbers}
use Rattle.cjc_narrow_proof.specs.Selection.Relation.{shown, IsMadeOf, Stores}
use Rattle.cjc_narrow_proof.specs.Selection.Rows.{HasRoom, NEffect, Same, RowAgrees, goes, raises}
use Rattle.cjc_narrow_proof.specs.Selection.Elements.{index_range, IsBytes, IsShorts, IsReferences, AreAll, ElementsLie}
use Rattle.cjc_narrow_proof.specs.Selection.Elements.{ItemsPass, KeepsAlike}
use Rattle.cjc_narrow_proof.specs.Selection.Elements as elements
use Rattle.cjc_narrow_proof.proofs.SelectionLaws.Keeps.{made_there}
use Rattle.cjc_narrow_proof.proofs.SelectionLaws.Plain.{RowIs, as_written}
use Rattle.cjc_narrow_proof.proofs.SelectionLaws.Begins.{thing_shown}
use Rattle.cjc_narrow_proof.proofs.SelectionLaws.Fields.{holds_word, is_word_held}
use Rattle.cjc_narrow_proof.proofs.SelectionLaws.Gets.{heights}
use Rattle.cjc_narrow_proof.proofs.SelectionLaws.Puts.{byte_same}
use Rattle.cjc_narrow_proof.proofs.SelectionLaws.Keeps.{stacks_kept, locals_kept, set_keeps, set_stores}
use Rattle.cjc_narrow_proof.proofs.SelectionLaws.Items.{all_with, item_both}

-- ---- which arrays of numbers

-- The letter and what is moved serve the elements of an array, which have 16 bits; a load gives what is held.
pub record Serves (letter : Letter) (moves : Moves) (element : Element) : Type 0 where
  pub is_served : serves moves (shape_named (array_name element)) ≡ true
  pub is_of_letter : is_element letter element ≡ true
  pub small : Within (element_range element) short_range
  pub gives : (x : ℤ) → Holds (element_range element) x → load_of moves (Num x) ≡ Num x
  pub words : (x : ℤ) (onto : List Value → NEffect) → is_word x ≡ true → words_of letter (Num x) narrow.Stick onto
      ≡ onto (Num x ∷ [])

byte_given : (x : ℤ) → negsuc 127 ≤ℤ x → x ≤ℤ pos 127 → load_of AByte (Num x) ≡ Num x
byte_given x a b = ap Num (byte_same x a b)

booleans_served : Serves narrow.Byte AByte Booleans
unfolding desc_of bad_at after
booleans_served = record {
  is_served = refl;
  is_of_letter = refl;
  small = record { low = omega (arith, ints); high = omega (arith, ints) };
  gives = λ x h. let a = h.above in let b = h.below in byte_given x (omega (arith, ints)) (omega (arith, ints));
  words = λ x onto e. ap (λ t. if t then onto (Num x ∷ []) else narrow.Stick) e;
}

bytes_served : Serves narrow.Byte AByte Bytes
unfolding desc_of bad_at after
bytes_served = record {
  is_served = refl;
  is_of_letter = refl;
  small = record { low = omega (arith, ints); high = omega (arith, ints) };
  gives = λ x h. let a = h.above in let b = h.below in byte_given x (omega (arith, ints)) (omega (arith, ints));
  words = λ x onto e. ap (λ t. if t then onto (Num x ∷ []) else narrow.Stick) e;
}

shorts_served : Serves narrow.Short AShort Shorts
unfolding desc_of bad_at after
shorts_served = record {
  is_served = refl;
  is_of_letter = refl;
  small = record { low = omega (arith, ints); high = omega (arith, ints) };
  gives = λ x h. refl;
  words = λ x onto e. ap (λ t. if t then onto (Num x ∷ []) else narrow.Stick) e;
}

-- of an array of this type
pub record ServesKind (letter : Letter) (moves : Moves) (kind : Shape (List ℕ)) : Type 0 where
  pub element : Element
  pub is : kind ≡ OfNumbers element
  pub serves : Serves letter moves element

bytes_kind : (kind : Shape (List ℕ)) → IsBytes kind → ServesKind narrow.Byte AByte kind
bytes_kind _ elements.booleans = record { element = Booleans; is = refl; serves = booleans_served }
bytes_kind _ elements.bytes = record { element = Bytes; is = refl; serves = bytes_served }

shorts_kind : (kind : Shape (List ℕ)) → IsShorts kind → ServesKind narrow.Short AShort kind
shorts_kind _ elements.shorts = record { element = Shorts; is = refl; serves = shorts_served }

element_told : {a b : Element} → ◌≡◌ {A = Shape (List ℕ)} (OfNumbers a) (OfNumbers b) → a ≡ b
element_told e = cc

-- ---- loads of numbers

module _ (by : Linked) (l : Named) (m : Method) (room at next : ℕ) (t : Span) (ks ls : List Kind) (vs ws : List Value)
    (locals words : List (Option Value)) (store : Store) (memory : NMemory)
    (roomy : HasRoom (Range t ∷ ks) m.max_stack room) (stores : Stores l store memory) (held : Locals memory.heap ls
    locals words) (rest : Stacks memory.heap ks vs ws) (letter : Letter) (moves : Moves) (i : ℤ)
    (near : Holds index_range i) where
  abbrev Loads : by_name.Effect → NEffect → Type 0
  Loads = Same l (Range t ∷ ks) ls (at + 1) next

  abbrev named_load : Thing → by_name.Effect
  named_load thing = by_name.array_in thing (λ desc items. by_name.only_if (serves moves (shape_named desc))
      (by_name.item_at items i (λ n v. by_name.onward by m at locals store (load_of moves v ∷ vs))))

  abbrev narrow_load : HeapObject (List ℕ) MemberId → NEffect
  narrow_load = narrow.numbers_in letter (λ element items. narrow.item_at (narrow.Raise Calculations.IndexOutside) items
      (low_word i) (λ n x. words_of letter (Num x) narrow.Stick (λ new. narrow.onward new room next words memory ws)))

  -- an item is pushed
  item_pushed : (element : Element) → Serves letter moves element → Within (element_range element) t → (x : ℤ)
      → Holds (element_range element) x → Loads (by_name.onward by m at locals store (load_of moves (Num x) ∷ vs))
      (words_of letter (Num x) narrow.Stick (λ new. narrow.onward new room next words memory ws))
  item_pushed element s wide x h =
      let small = s.small in let low = small.low in let high = small.high in
      let long = heights rest in let g = long.narrow in let tall = roomy.narrow in
      let right : nat_le (length (Num x ∷ ws)) room ≡ true = grind (arith, nat_tests) in
      let word = is_word_held (element_range element) x low high h in
      subst (λ v. Loads (by_name.onward by m at locals store (v ∷ vs)) (words_of letter (Num x) narrow.Stick
      (λ new. narrow.onward new room next words memory ws))) (sym (s.gives x h))
      (subst (Loads (by_name.onward by m at locals store (Num x ∷ vs)))
      (sym (s.words x (λ new. narrow.onward new room next words memory ws) word))
      (subst (λ b. Loads (by_name.onward by m at locals store (Num x ∷ vs)) (if b then narrow.Go next (Num x ∷ ws) words
      memory else narrow.Stick)) (sym right)
      (goes (cell (number (holds_word (element_range element) x low high h) (held_wider (element_range element) t x wide
      h)) rest) held stores)))

  -- of an array whose elements are served
  load_item : (thing : HeapObject (List ℕ) MemberId) → ServesKind letter moves (shape thing) → ((element : Element)
      → shape thing ≡ OfNumbers element → Within (element_range element) t) → ThingFits l memory.heap thing
      → Loads (named_load (shown l thing)) (narrow_load thing)
  unfolding by_label
  load_item (Numbers element items) s wide (numbers few fits) =
      let same = element_told s.is in
      let serving = subst (Serves letter moves) (sym same) s.serves in
      subst (λ b. Loads (by_name.only_if b (by_name.item_at (map Num items) i (λ n v. by_name.onward by m at locals
      store (load_of moves v ∷ vs)))) (narrow_load (Numbers element items))) (sym serving.is_served)
      (subst (λ b. Loads (by_name.item_at (map Num items) i (λ n v. by_name.onward by m at locals store (load_of moves v
      ∷ vs))) (if b then narrow.item_at (narrow.Raise Calculations.IndexOutside) items (low_word i)
      (λ n x. words_of letter (Num x) narrow.Stick (λ new. narrow.onward new room next words memory ws))
      else narrow.Stick)) (sym serving.is_of_letter)
      (item_both Loads Num (map Num items) items (get_map Num items) (λ n v. by_name.onward by m at locals store
      (load_of moves v ∷ vs)) (λ n x. words_of letter (Num x) narrow.Stick (λ new. narrow.onward new room next words
      memory ws)) i few near
      (raises {fault = by_name.IndexOutside}) (λ n x e. item_pushed element serving (wide element refl) x
      (item_has (Holds (element_range element)) items n x fits e))))
  load_item (References class items) s wide fits = let e = s.is in cc
  load_item (Object class slots) s wide fits = let e = s.is in cc

  -- of the array of a reference; null raises
  pub load_at : (within : Shape (List ℕ) → Bool) → ((kind : Shape (List ℕ)) → within kind ≡ true → IsMadeOf l kind
      → ServesKind letter moves kind) → ElementsLie within t → (v w : Value) → Agrees memory.heap (Refers within) v w
      → Loads (by_name.thing_at store.heap v (λ k. named_load)) (narrow.thing_of memory.heap w (λ k. narrow_load))
  load_at within all lie _ _ null = raises {fault = by_name.NullPointer}
  load_at within all lie _ _ (object {k = k} thing is passes) =
      subst (λ o. Loads (by_name.with_some o named_load) (narrow.with_some narrow.Stick (slice_get memory.heap k)
      narrow_load)) (sym (thing_shown l memory.heap k thing stores.heap is))
      (subst (λ o. Loads (named_load (shown l thing)) (narrow.with_some narrow.Stick o narrow_load)) (sym is)
      (load_item thing (all (shape thing) passes (made_there l thing (stores.heap_fits k thing is)))
      (λ element e. lie element (ap within (sym e) ∙ passes)) (stores.heap_fits k thing is)))

module _ (by : Linked) (l : Named) (r : Resolution) (m : Method) (i t : Span) (near : Within i index_range)
    (within : Shape (List ℕ) → Bool) (lie : ElementsLie within t) where
  byte_load_is : AreAll l IsBytes within → RowIs by l m (jop.ArrayLoad 0x33) (insns.Op 0x25) (Range i ∷ Refers within
      ∷ []) (Range t ∷ [])
  unfolding effect meaning
  byte_load_is all room at next ks ls _ _ locals words store memory roomy stores held (cell (number {x = x} e h)
      (cell {v = v} {w = w} {vs = vs} {ws = ws} agree rest)) =
      subst (λ j. Same l (Range t ∷ ks) ls (at + 1) next (by_name.thing_at store.heap v (λ k. named_load by l m room at
      next t ks ls vs ws locals words store memory roomy stores held rest narrow.Byte AByte x
      (held_wider i index_range x near h))) (narrow.thing_of memory.heap w (λ k. narrow.numbers_in narrow.Byte
      (λ element items. narrow.item_at (narrow.Raise Calculations.IndexOutside) items j (λ n x. words_of narrow.Byte
      (Num x) narrow.Stick (λ new. narrow.onward new room next words memory ws)))))) (sym e)
      (load_at by l m room at next t ks ls vs ws locals words store memory roomy stores held rest narrow.Byte AByte x
      (held_wider i index_range x near h) within (λ kind p made. bytes_kind kind (all kind p made)) lie v w agree)

  pub baload : AreAll l IsBytes within → RowAgrees by l r m (jop.ArrayLoad 0x33) (Range i ∷ Refers within ∷ []) (Range t
      ∷ [])
  baload all = as_written by l r m (jop.ArrayLoad 0x33) (insns.Op 0x25) (Range i ∷ Refers within ∷ []) (Range t
      ∷ []) (λ place. refl) (byte_load_is all)

  short_load_is : AreAll l IsShorts within → RowIs by l m (jop.ArrayLoad 0x35) (insns.Op 0x26) (Range i ∷ Refers within
      ∷ []) (Range t ∷ [])
  unfolding effect meaning
  short_load_is all room at next ks ls _ _ locals words store memory roomy stores held (cell (number {x = x} e h)
      (cell {v = v} {w = w} {vs = vs} {ws = ws} agree rest)) =
      subst (λ j. Same l (Range t ∷ ks) ls (at + 1) next (by_name.thing_at store.heap v (λ k. named_load by l m room at
      next t ks ls vs ws locals words store memory roomy stores held rest narrow.Short AShort x
      (held_wider i index_range x near h))) (narrow.thing_of memory.heap w (λ k. narrow.numbers_in narrow.Short
      (λ element items. narrow.item_at (narrow.Raise Calculations.IndexOutside) items j
      (λ n x. words_of narrow.Short (Num x) narrow.Stick (λ new. narrow.onward new room next words memory ws))))))
      (sym e)
      (load_at by l m room at next t ks ls vs ws locals words store memory roomy stores held rest narrow.Short AShort x
      (held_wider i index_range x near h) within (λ kind p made. shorts_kind kind (all kind p made)) lie v w agree)

  pub saload : AreAll l IsShorts within → RowAgrees by l r m (jop.ArrayLoad 0x35) (Range i ∷ Refers within
      ∷ []) (Range t ∷ [])
  saload all = as_written by l r m (jop.ArrayLoad 0x35) (insns.Op 0x26) (Range i ∷ Refers within ∷ []) (Range t
      ∷ []) (λ place. refl) (short_load_is all)

-- ---- stores of numbers

-- What an element keeps of a number is the same by its word.
abbrev TakesAlike : (letter : Letter) (moves : Moves) (z y : ℤ) → Type 0
TakesAlike letter moves z y = (ws : List Value) (go : Value → List Value → NEffect)
    → narrow.operand letter narrow.Stick (Num y ∷ ws) go ≡ go (Num (cut moves z)) ws

byte_taken : (z y : ℤ) → y ≡ low_word z → TakesAlike narrow.Byte AByte z y
byte_taken z y e ws go = ap (λ a. go (Num (low_byte a)) ws) e ∙ ap (λ a. go (Num a) ws) (low_byte-low_word z)

short_taken : (z y : ℤ) → y ≡ low_word z → TakesAlike narrow.Short AShort z y
short_taken z y e ws go = ap (λ a. go (Num (low_word a)) ws) e
    ∙ ap (λ a. go (Num a) ws) (low_word_fixed (low_word z) (low_word_fits z))

-- An array of this type takes it, and it lies in the interval of its elements.
pub record CutsKind (letter : Letter) (moves : Moves) (z : ℤ) (kind : Shape (List ℕ)) : Type 0 where
  pub element : Element
  pub is : kind ≡ OfNumbers element
  pub serves : Serves letter moves element
  pub holds : Holds (element_range element) (cut moves z)

bytes_cut : (within : Shape (List ℕ) → Bool) (s : Span) (z : ℤ) → (within (OfNumbers Booleans) ≡ true
    → Within s boolean_range) → Holds s z → (kind : Shape (List ℕ)) → within kind ≡ true → IsBytes kind
    → CutsKind narrow.Byte AByte z kind
bytes_cut within s z small h _ p elements.booleans =
    let held = held_wider s boolean_range z (small p) h in
    let a = held.above in let b = held.below in
    let same = byte_same z (omega (arith, ints)) (omega (arith, ints)) in
    record {
      element = Booleans;
      is = refl;
      serves = booleans_served;
      holds = subst (Holds boolean_range) (sym same)
          held;
    }
bytes_cut within s z small h _ p elements.bytes = let ends = low_byte_ends z in record {
  element = Bytes;
  is = refl;
  serves = bytes_served;
  holds = record { above = ends.0; below = ends.1 };
}

shorts_cut : (z : ℤ) (kind : Shape (List ℕ)) → IsShorts kind → CutsKind narrow.Short AShort z kind
shorts_cut z _ elements.shorts = let ends = low_word_ends z in record {
  element = Shorts;
  is = refl;
  serves = shorts_served;
  holds = record { above = ends.0; below = ends.1 };
}

module _ (by : Linked) (l : Named) (m : Method) (at next : ℕ) (ks ls : List Kind) (vs ws : List Value) (locals words :
    List (Option Value)) (store : Store) (memory : NMemory)
    (stores : Stores l store memory) (held : Locals memory.heap ls locals words) (rest : Stacks memory.heap ks vs ws)
    (letter : Letter) (moves : Moves) (i : ℤ) (near : Holds index_range i) (z : ℤ) where
  abbrev Writes : by_name.Effect → NEffect → Type 0
  Writes = Same l ks ls (at + 1) next

  abbrev named_item : ℕ → List ℕ → List Value → ℕ → by_name.Effect
  named_item k desc items n = by_name.with_heap by m at locals store (slice_set store.heap k
      (things.Array desc (slice_set items n (Num (cut moves z))))) vs

  abbrev named_write : ℕ → Thing → by_name.Effect
  named_write k thing = by_name.array_in thing (λ desc items. by_name.only_if (serves moves (shape_named desc))
      (by_name.item_at items i (λ n old. named_item k desc items n)))

  abbrev narrow_item : ℕ → Element → List ℤ → ℕ → NEffect
  narrow_item k element items n =
      narrow.Go next ws words (narrow.with_thing memory k (Numbers element (slice_set items n (cut moves z))))

  abbrev narrow_write : ℕ → HeapObject (List ℕ) MemberId → NEffect
  narrow_write k = narrow.numbers_in letter (λ element items. narrow.item_at (narrow.Raise Calculations.IndexOutside)
      items (low_word i) (λ n old. narrow_item k element items n))

  -- an item is replaced
  item_written : (k : ℕ) (element : Element) (items : List ℤ) (n : ℕ) → slice_get memory.heap k
      ≡ Some (Numbers element items) → Holds (element_range element) (cut moves z) → length items ≤ 32767
      → All (Holds (element_range element)) items
      → Writes (named_item k (array_name element) (map Num items) n) (narrow_item k element items n)
  unfolding by_label
  item_written k element items n is holds few fits =
      let x = cut moves z in
      let new : HeapObject (List ℕ) MemberId = Numbers element (slice_set items n x) in
      let long = set_length items n x in
      let keeps = set_keeps memory.heap k (Numbers element items) new is refl in
      let new_fits : ThingFits l memory.heap new = numbers (omega (arith, long, few))
      (all_with (Holds (element_range element)) items n x holds fits) in
      subst (λ xs. Writes (by_name.with_heap by m at locals store (slice_set store.heap k
      (things.Array (array_name element) xs)) vs) (narrow.Go next ws words (narrow.with_thing memory k new)))
      (sym (map_set Num items n x))
      (goes (stacks_kept keeps rest) (locals_kept keeps held) (set_stores l store memory k (Numbers element items) new
      is refl stores new_fits))

  -- of an array whose elements are served
  write_item : (k : ℕ) (thing : HeapObject (List ℕ) MemberId) → slice_get memory.heap k ≡ Some thing
      → CutsKind letter moves z (shape thing) → ThingFits l memory.heap thing
      → Writes (named_write k (shown l thing)) (narrow_write k thing)
  unfolding by_label
  write_item k (Numbers element items) is c (numbers few fits) =
      let same = element_told c.is in
      let serving = subst (Serves letter moves) (sym same) c.serves in
      let holds = subst (λ e. Holds (element_range e) (cut moves z)) (sym same) c.holds in
      subst (λ b. Writes (by_name.only_if b (by_name.item_at (map Num items) i (λ n old. named_item k
      (array_name element) (map Num items) n))) (narrow_write k (Numbers element items))) (sym serving.is_served)
      (subst (λ b. Writes (by_name.item_at (map Num items) i (λ n old. named_item k (array_name element) (map Num items)
      n)) (if b then narrow.item_at (narrow.Raise Calculations.IndexOutside) items (low_word i)
      (λ n old. narrow_item k element items n) else narrow.Stick)) (sym serving.is_of_letter)
      (item_both Writes Num (map Num items) items (get_map Num items) (λ n old. named_item k (array_name element)
      (map Num items) n) (λ n old. narrow_item k element items n) i few near
      (raises {fault = by_name.IndexOutside}) (λ n x e. item_written k element items n is holds few fits)))
  write_item k (References class items) is c fits = let e = c.is in cc
  write_item k (Object class slots) is c fits = let e = c.is in cc

  -- of the array of a reference; null raises
  pub write_at : (within : Shape (List ℕ) → Bool) → ((kind : Shape (List ℕ)) → within kind ≡ true → IsMadeOf l kind
      → CutsKind letter moves z kind) → (v w : Value) → Agrees memory.heap (Refers within) v w
      → Writes (by_name.thing_at store.heap v named_write) (narrow.thing_of memory.heap w narrow_write)
  write_at within all _ _ null = raises {fault = by_name.NullPointer}
  write_at within all _ _ (object {k = k} thing is passes) =
      subst (λ o. Writes (by_name.with_some o (named_write k)) (narrow.with_some narrow.Stick (slice_get memory.heap k)
      (narrow_write k))) (sym (thing_shown l memory.heap k thing stores.heap is))
      (subst (λ o. Writes (named_write k (shown l thing)) (narrow.with_some narrow.Stick o (narrow_write k))) (sym is)
      (write_item k thing is (all (shape thing) passes (made_there l thing (stores.heap_fits k thing is)))
      (stores.heap_fits k thing is)))

module _ (by : Linked) (l : Named) (r : Resolution) (m : Method) (i s : Span) (near : Within i index_range)
    (within : Shape (List ℕ) → Bool) where
  byte_store_is : AreAll l IsBytes within → (within (OfNumbers Booleans) ≡ true → Within s boolean_range)
      → RowIs by l m (jop.ArrayStore 0x54) (insns.Op 0x38) (Range s ∷ Range i ∷ Refers within ∷ []) []
  unfolding effect meaning
  byte_store_is all small room at next ks ls _ _ locals words store memory roomy stores held
      (cell (number {x = z} {y = y} e h) (cell (number {x = x} {y = j} f h') (cell {v = v} {w = w} {vs = vs} {ws = ws}
      agree rest))) =
      let named_side = by_name.thing_at store.heap v (named_write by l m at next ks ls vs ws locals words store memory
      stores held rest narrow.Byte AByte x (held_wider i index_range x near h') z) in
      let put : Value → List Value → NEffect = λ v under. Calculations.one_number narrow.Stick under
      (λ i below. Calculations.one_value narrow.Stick below (λ r rest. narrow.thing_of memory.heap r
      (λ k. narrow.numbers_in narrow.Byte (λ element items. narrow.item_at (narrow.Raise Calculations.IndexOutside)
      items i (λ n old. narrow.Go next rest words (narrow.with_thing memory k
      (Numbers element (slice_set items n (narrow.item_of v))))))))) in
      subst (Same l ks ls (at + 1) next named_side) (sym (byte_taken z y e (Num j ∷ w ∷ ws) put))
      (subst (λ a. Same l ks ls (at + 1) next named_side (put (Num (low_byte z)) (Num a ∷ w ∷ ws))) (sym f)
      (write_at by l m at next ks ls vs ws locals words store memory stores held rest narrow.Byte AByte x
      (held_wider i index_range x near h') z within (λ kind p made. bytes_cut within s z small h kind p
      (all kind p made)) v w agree))

  pub bastore : AreAll l IsBytes within → (within (OfNumbers Booleans) ≡ true → Within s boolean_range)
      → RowAgrees by l r m (jop.ArrayStore 0x54) (Range s ∷ Range i ∷ Refers within ∷ []) []
  bastore all small = as_written by l r m (jop.ArrayStore 0x54) (insns.Op 0x38) (Range s ∷ Range i ∷ Refers within
      ∷ []) [] (λ place. refl) (byte_store_is all small)

  short_store_is : AreAll l IsShorts within → RowIs by l m (jop.ArrayStore 0x56) (insns.Op 0x39) (Range s ∷ Range i
      ∷ Refers within ∷ []) []
  unfolding effect meaning
  short_store_is all room at next ks ls _ _ locals words store memory roomy stores held
      (cell (number {x = z} {y = y} e h) (cell (number {x = x} {y = j} f h') (cell {v = v} {w = w} {vs = vs} {ws = ws}
      agree rest))) =
      let named_side = by_name.thing_at store.heap v (named_write by l m at next ks ls vs ws locals words store memory
      stores held rest narrow.Short AShort x (held_wider i index_range x near h') z) in
      let put : Value → List Value → NEffect = λ v under. Calculations.one_number narrow.Stick under
      (λ i below. Calculations.one_value narrow.Stick below (λ r rest. narrow.thing_of memory.heap r
      (λ k. narrow.numbers_in narrow.Short (λ element items. narrow.item_at (narrow.Raise Calculations.IndexOutside)
      items i (λ n old. narrow.Go next rest words (narrow.with_thing memory k
      (Numbers element (slice_set items n (narrow.item_of v))))))))) in
      subst (Same l ks ls (at + 1) next named_side) (sym (short_taken z y e (Num j ∷ w ∷ ws) put))
      (subst (λ a. Same l ks ls (at + 1) next named_side (put (Num (low_word z)) (Num a ∷ w ∷ ws))) (sym f)
      (write_at by l m at next ks ls vs ws locals words store memory stores held rest narrow.Short AShort x
      (held_wider i index_range x near h') z within (λ kind p made. shorts_cut z kind (all kind p made)) v w agree))

  pub sastore : AreAll l IsShorts within → RowAgrees by l r m (jop.ArrayStore 0x56) (Range s ∷ Range i ∷ Refers within
      ∷ []) []
  sastore all = as_written by l r m (jop.ArrayStore 0x56) (insns.Op 0x39) (Range s ∷ Range i ∷ Refers within ∷ []) []
      (λ place. refl) (short_store_is all)
