-- Elements of arrays are written alike, by an index of two words.
use Rattle.std.proofs.Common.{◌≡◌, ℕ, ◌+◌, ◌≤◌, List, length, All, refl, sym, ap}
use Rattle.std.proofs.Common.{subst, ◌∙◌, arith}
use Rattle.std.proofs.Common.{Bool, true, ℤ}
use Rattle.std.specs.Prelude.{Option, Some, map, slice_get, slice_set, if◌then◌else◌}
use Rattle.std.proofs.lemmas.Int.{ints}
use Rattle.cjc_script.specs.Bytes.declared.fault.MemberId.{MemberId}
use Rattle.cjc_script.specs.Bytes.Spots.{desc_of, bad_at, after}
use Rattle.cjc_script.proofs.BytesGets.{set_length, map_set}
use Rattle.cjc_script.proofs.BytesLists.{length_mapped}
use Rattle.cjc_range.proofs.WordsLaws.Words.{low_byte_ends, low_word_ends}
use Rattle.cjc_range.specs.Span.{Span, Holds, Within, full}
use Rattle.cjc_range.proofs.Order.{held_wider}
use Rattle.cjc_script.specs.declared.value.Value.{Value}
use Rattle.cjc_script.specs.declared.value.Value.TheVariants.{Num}
use Rattle.cjc_script.specs.declared.report.Thing.{Thing}
use Rattle.cjc_script.specs.declared.report.Thing.TheVariants as things
use Rattle.cjc_script.specs.Sorts.{Element, Booleans, Bytes, Shorts, Ints, Shape, OfNumbers, array_name, shape_named}
use Rattle.cjc_card_semantics.specs.Bytecode.Calculations
use Rattle.cjc_card_semantics.specs.Bytecode.Effects.{Letter, HeapObject, Numbers, References, Object, shape}
use Rattle.cjc_card_semantics.specs.Bytecode.Effects.{is_element}
use Rattle.cjc_card_semantics.specs.Bytecode.Effects as narrow
use Rattle.cjc_card_semantics.proofs.BytecodeLaws.Natural.{get_map}
use Rattle.cjc_ncode.specs.ByLabel.{Named, by_label}
use Rattle.cjc_jvm_semantics.specs.Linked.{Method, Linked}
use Rattle.cjc_jvm_semantics.specs.Effects.{Fault, Store, Moves, AByte, AShort, AnInt, serves, cut}
use Rattle.cjc_jvm_semantics.specs.Effects as by_name
use Rattle.cjc_narrow_proof.specs.Selection.Acts.{Keeps}
use Rattle.cjc_narrow_proof.specs.Selection.Relation.{NMemory, boolean_range, element_range, ThingFits, numbers}
use Rattle.cjc_narrow_proof.specs.Selection.Relation.{shown, IsMadeOf, Stores}
use Rattle.cjc_narrow_proof.specs.Selection.Rows.{NEffect, narrow_fault}
use Rattle.cjc_narrow_proof.specs.Selection.Elements.{IsBytes, booleans, bytes, IsShorts, shorts}
use Rattle.cjc_narrow_proof.proofs.SelectionLaws.Keeps.{made_there, set_keeps, set_stores}
use Rattle.cjc_narrow_proof.proofs.SelectionLaws.Begins.{thing_shown}
use Rattle.cjc_narrow_proof.proofs.SelectionLaws.Items.{all_with, item_both}
use Rattle.cjc_narrow_proof.proofs.SelectionLaws.Puts.{byte_same}
use Rattle.cjc_int_runs.specs.Elements.{IsInts, ints_of}
use Rattle.cjc_int_runs.specs.Guards.{GuardedIndex}
use Rattle.cjc_int_runs.specs.Relation.{RefersTo, to_null, to_object}

-- Both go on with heaps that agree, on which each array and object keeps its type; or both raise the same exception.
pub data Writes (l : Named) (at next : ℕ) (vs ws : List Value) (locals words : List (Option Value)) (memory : NMemory) :
    by_name.Effect → NEffect → Type 0 where
  writes : {store : Store} {written : NMemory} → Keeps memory.heap written.heap → Stores l store written
      → Writes l at next vs ws locals words memory (by_name.Go (at + 1) vs locals store)
      (narrow.Go next ws words written)
  fails : {fault : Fault} → Writes l at next vs ws locals words memory (by_name.Raise fault)
      (narrow.Raise (narrow_fault fault))

-- An array of this type takes the number, of which an element keeps what lies in its interval.
pub record TakesKind (letter : Letter) (moves : Moves) (z : ℤ) (kind : Shape (List ℕ)) : Type 0 where
  pub element : Element
  pub is : kind ≡ OfNumbers element
  pub is_served : serves moves (shape_named (array_name element)) ≡ true
  pub is_of_letter : is_element letter element ≡ true
  pub holds : Holds (element_range element) (cut moves z)

pub bytes_taken : (within : Shape (List ℕ) → Bool) (s : Span) (z : ℤ) → (within (OfNumbers Booleans) ≡ true
    → Within s boolean_range) → Holds s z → (kind : Shape (List ℕ)) → within kind ≡ true → IsBytes kind
    → TakesKind narrow.Byte AByte z kind
unfolding desc_of bad_at after
bytes_taken within s z small h _ p booleans =
    let held = held_wider s boolean_range z (small p) h in
    let a = held.above in let b = held.below in
    let same = byte_same z (omega (arith, ints, a)) (omega (arith, ints, b)) in
    record {
      element = Booleans;
      is = refl;
      is_served = refl;
      is_of_letter = refl;
      holds = subst (Holds boolean_range) (sym same) held;
    }
bytes_taken within s z small h _ p bytes = let ends = low_byte_ends z in record {
  element = Bytes;
  is = refl;
  is_served = refl;
  is_of_letter = refl;
  holds = record { above = ends.0; below = ends.1 };
}

pub shorts_taken : (z : ℤ) (kind : Shape (List ℕ)) → IsShorts kind → TakesKind narrow.Short AShort z kind
unfolding desc_of bad_at after
shorts_taken z _ shorts = let ends = low_word_ends z in record {
  element = Shorts;
  is = refl;
  is_served = refl;
  is_of_letter = refl;
  holds = record { above = ends.0; below = ends.1 };
}

pub ints_taken : (z : ℤ) (kind : Shape (List ℕ)) → Holds full z → IsInts kind → TakesKind narrow.Int AnInt z kind
unfolding desc_of bad_at after
ints_taken z _ h ints_of = record { element = Ints; is = refl; is_served = refl; is_of_letter = refl; holds = h }

element_told : {a b : Element} → ◌≡◌ {A = Shape (List ℕ)} (OfNumbers a) (OfNumbers b) → a ≡ b
element_told e = cc

module _ (by : Linked) (l : Named) (m : Method) (at next : ℕ) (vs ws : List Value) (locals words : List (Option Value))
    (store : Store) (memory : NMemory) (stores : Stores l store memory) (letter : Letter) (moves : Moves) (i j z : ℤ)
    (g : GuardedIndex i j) where
  abbrev Meets : by_name.Effect → NEffect → Type 0
  Meets = Writes l at next vs ws locals words memory

  abbrev named_item : ℕ → List ℕ → List Value → ℕ → by_name.Effect
  named_item k desc items n = by_name.with_heap by m at locals store (slice_set store.heap k
      (things.Array desc (slice_set items n (Num (cut moves z))))) vs

  abbrev named_write : ℕ → Thing → by_name.Effect
  named_write k thing = by_name.array_in thing (λ desc items. by_name.only_if (serves moves (shape_named desc))
      (by_name.item_at items i (λ n old. named_item k desc items n)))

  abbrev narrow_item : ℕ → Element → List ℤ → ℕ → NEffect
  narrow_item k element items n =
      narrow.Go next ws words (narrow.with_thing memory k (Numbers element (slice_set items n (cut moves z))))

  abbrev narrow_write : ℕ → HeapObject (List ℕ) MemberId → NEffect
  narrow_write k = narrow.numbers_in letter (λ element items. narrow.item_at (narrow.Raise Calculations.IndexOutside)
      items j (λ n old. narrow_item k element items n))

  item_written : (k : ℕ) (element : Element) (items : List ℤ) (n : ℕ) → slice_get memory.heap k
      ≡ Some (Numbers element items) → Holds (element_range element) (cut moves z) → length items ≤ 32767
      → All (Holds (element_range element)) items
      → Meets (named_item k (array_name element) (map Num items) n) (narrow_item k element items n)
  unfolding by_label
  item_written k element items n is holds few fits =
      let x = cut moves z in
      let new : HeapObject (List ℕ) MemberId = Numbers element (slice_set items n x) in
      let long = set_length items n x in
      let new_fits : ThingFits l memory.heap new = numbers (omega (arith, long, few))
      (all_with (Holds (element_range element)) items n x holds fits) in
      subst (λ xs. Meets (by_name.with_heap by m at locals store (slice_set store.heap k
      (things.Array (array_name element) xs)) vs) (narrow.Go next ws words (narrow.with_thing memory k new)))
      (sym (map_set Num items n x))
      (writes (set_keeps memory.heap k (Numbers element items) new is refl)
      (set_stores l store memory k (Numbers element items) new is refl stores new_fits))

  write_item : (k : ℕ) (thing : HeapObject (List ℕ) MemberId) → slice_get memory.heap k ≡ Some thing
      → TakesKind letter moves z (shape thing) → ThingFits l memory.heap thing
      → Meets (named_write k (shown l thing)) (narrow_write k thing)
  unfolding by_label
  write_item k (Numbers element items) is c (numbers few fits) =
      let same = element_told c.is in
      let served = ap (λ e. serves moves (shape_named (array_name e))) same ∙ c.is_served in
      let of_letter = ap (is_element letter) same ∙ c.is_of_letter in
      let holds = subst (λ e. Holds (element_range e) (cut moves z)) (sym same) c.holds in
      let go = λ (n : ℕ) (old : Value). named_item k (array_name element) (map Num items) n in
      let go' = λ (n : ℕ) (old : ℤ). narrow_item k element items n in
      let long = length_mapped Num items in
      subst (λ b. Meets (by_name.only_if b (by_name.item_at (map Num items) i go)) (narrow_write k
      (Numbers element items))) (sym served)
      (subst (λ b. Meets (by_name.item_at (map Num items) i go) (if b
      then narrow.item_at (narrow.Raise Calculations.IndexOutside) items j go' else narrow.Stick)) (sym of_letter)
      (subst (λ e. Meets e (narrow.item_at (narrow.Raise Calculations.IndexOutside) items j go'))
      (sym (g.same (map Num items) go (omega (arith, long, few))))
      (subst (λ q. Meets (by_name.item_at (map Num items) g.near go)
      (narrow.item_at (narrow.Raise Calculations.IndexOutside) items q go')) (sym g.word)
      (item_both Meets Num (map Num items) items (get_map Num items) go go' g.near few g.in_range
      (fails {fault = by_name.IndexOutside}) (λ n x e. item_written k element items n is holds few fits)))))
  write_item k (References class items) is c fits = let e = c.is in absurd cc
  write_item k (Object class slots) is c fits = let e = c.is in absurd cc

  -- of the array of a reference; null raises
  pub write_at : (within : Shape (List ℕ) → Bool) → ((kind : Shape (List ℕ)) → within kind ≡ true → IsMadeOf l kind
      → TakesKind letter moves z kind) → (v : Value) → RefersTo memory.heap within v
      → Meets (by_name.thing_at store.heap v named_write) (narrow.thing_of memory.heap v narrow_write)
  write_at within all _ to_null = fails {fault = by_name.NullPointer}
  write_at within all _ (to_object {k = k} thing is passes) =
      subst (λ o. Meets (by_name.with_some o (named_write k)) (narrow.with_some narrow.Stick (slice_get memory.heap k)
      (narrow_write k))) (sym (thing_shown l memory.heap k thing stores.heap is))
      (subst (λ o. Meets (named_write k (shown l thing)) (narrow.with_some narrow.Stick o (narrow_write k))) (sym is)
      (write_item k thing is (all (shape thing) passes (made_there l thing (stores.heap_fits k thing is)))
      (stores.heap_fits k thing is)))
