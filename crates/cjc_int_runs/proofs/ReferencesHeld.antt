-- References in arrays are read and written alike, by an index of two words.
use Rattle.std.proofs.Common.{◌≡◌, ℕ, ◌+◌, ◌≤◌, List, ◌∷◌, [], length, All, refl, sym, ap, subst, ◌∙◌, arith}
use Rattle.std.proofs.Common.{Bool, true, false, ℤ}
use Rattle.std.specs.Prelude.{Option, Some, None, slice_get, slice_set, nat_le, if◌then◌else◌}
use Rattle.std.proofs.lemmas.Bool.Decides.{nat_tests}
use Rattle.cjc_script.specs.Bytes.declared.fault.MemberId.{MemberId}
use Rattle.cjc_script.proofs.BytesGets.{set_length, item_has}
use Rattle.cjc_script.specs.declared.value.Value.{Value}
use Rattle.cjc_script.specs.declared.value.Value.TheVariants.{Null, Obj}
use Rattle.cjc_script.specs.declared.report.Thing.{Thing}
use Rattle.cjc_script.specs.declared.report.Thing.TheVariants as things
use Rattle.cjc_script.specs.Sorts.{Reference, Shape, OfClass, OfReferences, shape_name, shape_named}
use Rattle.cjc_card_semantics.specs.Bytecode.Calculations
use Rattle.cjc_card_semantics.specs.Bytecode.Effects.{HeapObject, Numbers, References, Object, shape}
use Rattle.cjc_card_semantics.specs.Bytecode.Effects as narrow
use Rattle.cjc_card_semantics.specs.Bytecode.Renaming.{option_as}
use Rattle.cjc_ncode.specs.ByLabel.{Named, by_label, classes}
use Rattle.cjc_jvm_semantics.specs.Linked.{Method, Linked}
use Rattle.cjc_jvm_semantics.specs.Effects.{Store, AReference, serves, type_of}
use Rattle.cjc_jvm_semantics.specs.Effects as by_name
use Rattle.cjc_narrow_proof.specs.Selection.Objects.{class_of}
use Rattle.cjc_narrow_proof.specs.Selection.Relation.{NMemory, ThingFits, references, CellFits, a_null, an_object}
use Rattle.cjc_narrow_proof.specs.Selection.Relation.{HasArrays, shown, Stores}
use Rattle.cjc_narrow_proof.specs.Selection.Rows.{NEffect}
use Rattle.cjc_narrow_proof.specs.Selection.Elements.{IsReferences, AreAll, ItemsPass, KeepsAlike}
use Rattle.cjc_narrow_proof.specs.Selection.Elements as elements
use Rattle.cjc_narrow_proof.proofs.SelectionLaws.Keeps.{made_there, set_keeps, set_stores}
use Rattle.cjc_narrow_proof.proofs.SelectionLaws.Begins.{thing_shown}
use Rattle.cjc_narrow_proof.proofs.SelectionLaws.Begins.{type_shown}
use Rattle.cjc_narrow_proof.proofs.SelectionLaws.Items.{all_with, item_both}
use Rattle.cjc_int_runs.specs.Guards.{GuardedIndex}
use Rattle.cjc_int_runs.specs.Relation.{RefersTo, to_null, to_object}
use Rattle.cjc_int_runs.proofs.Finishing.{OneReference, one_reference}
use Rattle.cjc_int_runs.proofs.ItemsRead.{Reads, reads}
use Rattle.cjc_int_runs.proofs.ItemsRead as items_read
use Rattle.cjc_int_runs.proofs.ItemsWritten.{Writes, writes, fails}

same_item : (o : Option Value) → o ≡ option_as (λ v. v) o
same_item None = refl
same_item (Some v) = refl

-- the descriptor names the type
named_by : (class : List ℕ) → IsReferences (OfReferences class) → shape_named (shape_name (OfReferences class))
    ≡ Some (OfReferences class)
named_by class (elements.references _ e) = e

-- ---- loads

module _ (by : Linked) (l : Named) (m : Method) (room at next : ℕ) (items : Shape (List ℕ) → Bool) (vs ws : List Value)
    (locals words : List (Option Value)) (store : Store) (memory : NMemory) (roomy : length ws + 2 ≤ room)
    (stores : Stores l store memory) (i j : ℤ) (g : GuardedIndex i j) where
  abbrev Loads : by_name.Effect → NEffect → Type 0
  Loads = Reads (OneReference memory.heap items) at next vs ws locals words store memory

  abbrev named_load : Thing → by_name.Effect
  named_load thing = by_name.array_in thing (λ desc held. by_name.only_if (serves AReference (shape_named desc))
      (by_name.item_at held i (λ n v. by_name.onward by m at locals store (v ∷ vs))))

  abbrev narrow_load : HeapObject (List ℕ) MemberId → NEffect
  narrow_load = narrow.references_in (λ class held. narrow.item_at (narrow.Raise Calculations.IndexOutside) held j
      (λ n v. narrow.onward (v ∷ []) room next words memory ws))

  item_refers : (class : List ℕ) (v : Value) → ((of : Shape (List ℕ)) → l.is_of of (OfClass class) ≡ true
      → items of ≡ true) → CellFits l memory.heap (Reference (OfClass class)) v → RefersTo memory.heap items v
  item_refers class _ pass a_null = to_null
  item_refers class _ pass (an_object thing is e) = to_object thing is (pass (shape thing) e)

  item_pushed : (v : Value) → RefersTo memory.heap items v → Loads (by_name.onward by m at locals store (v ∷ vs))
      (narrow.onward (v ∷ []) room next words memory ws)
  item_pushed v refers =
      let right : nat_le (length (v ∷ ws)) room ≡ true = grind (arith, nat_tests, roomy) in
      subst (λ b. Loads (by_name.onward by m at locals store (v ∷ vs)) (if b then narrow.Go next (v ∷ ws) words memory
      else narrow.Stick)) (sym right) (reads v (v ∷ []) (one_reference refers))

  load_item : (thing : HeapObject (List ℕ) MemberId) → IsReferences (shape thing)
      → ((class : List ℕ) → shape thing ≡ OfReferences class → (of : Shape (List ℕ)) → l.is_of of (OfClass class) ≡ true
      → items of ≡ true) → ThingFits l memory.heap thing → Loads (named_load (shown l thing)) (narrow_load thing)
  unfolding by_label
  load_item (Numbers element held) is pass fits = absurd (elim is [ ])
  load_item (References class held) is pass (references arrays few fits) =
      let go = λ (n : ℕ) (v : Value). by_name.onward by m at locals store (v ∷ vs) in
      let go' = λ (n : ℕ) (v : Value). narrow.onward (v ∷ []) room next words memory ws in
      subst (λ o. Loads (by_name.only_if (serves AReference o) (by_name.item_at held i go))
      (narrow_load (References class held))) (sym (named_by class is))
      (subst (λ e. Loads e (narrow.item_at (narrow.Raise Calculations.IndexOutside) held j go'))
      (sym (g.same held go few))
      (subst (λ z. Loads (by_name.item_at held g.near go) (narrow.item_at (narrow.Raise Calculations.IndexOutside) held
      z
      go')) (sym g.word)
      (item_both Loads (λ v. v) held held (λ n. same_item (slice_get held n)) go go' g.near few g.in_range
      (items_read.fails {fault = by_name.IndexOutside}) (λ n v e. item_pushed v (item_refers class v (pass class refl)
      (item_has (CellFits l memory.heap (Reference (OfClass class))) held n v fits e))))))
  load_item (Object class slots) is pass fits = absurd (elim is [ ])

  -- of the array of a reference; null raises
  pub reference_load_at : (within : Shape (List ℕ) → Bool) → AreAll l IsReferences within → ItemsPass l within items
      → (v : Value) → RefersTo memory.heap within v → Loads (by_name.thing_at store.heap v (λ k. named_load))
      (narrow.thing_of memory.heap v (λ k. narrow_load))
  reference_load_at within all pass _ to_null = items_read.fails {fault = by_name.NullPointer}
  reference_load_at within all pass _ (to_object {k = k} thing is passes) =
      subst (λ o. Loads (by_name.with_some o named_load) (narrow.with_some narrow.Stick (slice_get memory.heap k)
      narrow_load)) (sym (thing_shown l memory.heap k thing stores.heap is))
      (subst (λ o. Loads (named_load (shown l thing)) (narrow.with_some narrow.Stick o narrow_load)) (sym is)
      (load_item thing (all (shape thing) passes (made_there l thing (stores.heap_fits k thing is)))
      (λ class e. pass class (ap within (sym e) ∙ passes)) (stores.heap_fits k thing is)))

-- ---- stores

module _ (by : Linked) (l : Named) (m : Method) (at next : ℕ) (values : Shape (List ℕ) → Bool) (vs ws : List Value)
    (locals words : List (Option Value)) (store : Store) (memory : NMemory) (stores : Stores l store memory) (i j : ℤ)
    (g : GuardedIndex i j) where
  abbrev Puts : by_name.Effect → NEffect → Type 0
  Puts = Writes l at next vs ws locals words memory

  abbrev named_item : ℕ → List ℕ → List Value → ℕ → Value → by_name.Effect
  named_item k desc items n v = by_name.with_heap by m at locals store (slice_set store.heap k
      (things.Array desc (slice_set items n v))) vs

  abbrev named_write : Value → ℕ → Thing → by_name.Effect
  named_write v k thing = by_name.array_in thing (λ desc items. by_name.only_if (serves AReference (shape_named desc))
      (by_name.item_at items i (λ n old. by_name.with_kept by m at locals store AReference (shape_named desc) v
      (named_item k desc items n))))

  abbrev narrow_item : ℕ → List ℕ → List Value → ℕ → Value → NEffect
  narrow_item k class items n v =
      narrow.Go next ws words (narrow.with_thing memory k (References class (slice_set items n v)))

  abbrev narrow_write : Value → ℕ → HeapObject (List ℕ) MemberId → NEffect
  narrow_write v k = narrow.references_in (λ class items. narrow.item_at (narrow.Raise Calculations.IndexOutside) items
      j
      (λ n old. narrow.kept (classes l) memory.heap class v (narrow_item k class items n v)))

  item_written : (k : ℕ) (class : List ℕ) (items : List Value) (n : ℕ) (v : Value) → slice_get memory.heap k
      ≡ Some (References class items) → CellFits l memory.heap (Reference (OfClass class)) v → HasArrays l class
      → length items ≤ 32767 → All (CellFits l memory.heap (Reference (OfClass class))) items
      → Puts (named_item k (shape_name (OfReferences class)) items n v) (narrow_item k class items n v)
  unfolding by_label
  item_written k class items n v is fit arrays few fits =
      let new : HeapObject (List ℕ) MemberId = References class (slice_set items n v) in
      let long = set_length items n v in
      let new_fits : ThingFits l memory.heap new = references arrays (omega (arith, long, few))
      (all_with (CellFits l memory.heap (Reference (OfClass class))) items n v fit fits) in
      writes (set_keeps memory.heap k (References class items) new is refl) (set_stores l store memory k
      (References class items) new is refl stores new_fits)

  -- where the class of the array has it; else both raise
  kept_both : (k : ℕ) (class : List ℕ) (items : List Value) (n : ℕ) (v : Value) → slice_get memory.heap k
      ≡ Some (References class items) → ((of : Shape (List ℕ)) → values of ≡ true
      → by.subtype (Some (class_of m)) (shape_name of) class ≡ l.is_of of (OfClass class)) → HasArrays l class
      → length items ≤ 32767 → All (CellFits l memory.heap (Reference (OfClass class))) items
      → RefersTo memory.heap values v
      → Puts (by_name.with_kept by m at locals store AReference (Some (OfReferences class)) v
      (named_item k (shape_name (OfReferences class)) items n)) (narrow.kept (classes l) memory.heap class v
      (narrow_item k class items n v))
  kept_both k class items n _ is tells arrays few fits to_null = item_written k class items n Null is a_null arrays few
      fits
  kept_both k class items n _ is tells arrays few fits (to_object {k = o} thing there passes) =
      subst (λ q. Puts (by_name.with_some q (λ thing. if by.subtype (Some (class_of m)) (type_of thing) class
      then named_item k (shape_name (OfReferences class)) items n (Obj o) else by_name.Raise by_name.ArrayStore))
      (narrow.with_some narrow.Stick (slice_get memory.heap o) (λ thing. if l.is_of (shape thing) (OfClass class)
      then narrow_item k class items n (Obj o) else narrow.Raise Calculations.ArrayStore)))
      (sym (thing_shown l memory.heap o thing stores.heap there))
      (subst (λ b. Puts (if b then named_item k (shape_name (OfReferences class)) items n (Obj o)
      else by_name.Raise by_name.ArrayStore) (narrow.with_some narrow.Stick (slice_get memory.heap o)
      (λ thing. if l.is_of (shape thing) (OfClass class) then narrow_item k class items n (Obj o)
      else narrow.Raise Calculations.ArrayStore))) (sym (ap (λ of. by.subtype (Some (class_of m)) of class)
      (type_shown l thing) ∙ tells (shape thing) passes))
      (subst (λ q. Puts (if l.is_of (shape thing) (OfClass class) then named_item k (shape_name (OfReferences class))
      items n (Obj o) else by_name.Raise by_name.ArrayStore) (narrow.with_some narrow.Stick q
      (λ thing. if l.is_of (shape thing) (OfClass class) then narrow_item k class items n (Obj o)
      else narrow.Raise Calculations.ArrayStore))) (sym there)
      (by_answer (l.is_of (shape thing) (OfClass class)) refl)))
    where
      by_answer : (b : Bool) → l.is_of (shape thing) (OfClass class) ≡ b
          → Puts (if b then named_item k (shape_name (OfReferences class)) items n (Obj o)
          else by_name.Raise by_name.ArrayStore) (if b then narrow_item k class items n (Obj o)
          else narrow.Raise Calculations.ArrayStore)
      by_answer true e = item_written k class items n (Obj o) is (an_object thing there e) arrays few fits
      by_answer false e = fails {fault = by_name.ArrayStore}

  write_item : (v : Value) → RefersTo memory.heap values v → (k : ℕ) (thing : HeapObject (List ℕ) MemberId)
      → slice_get memory.heap k ≡ Some thing → IsReferences (shape thing)
      → ((class : List ℕ) → shape thing ≡ OfReferences class → (of : Shape (List ℕ)) → values of ≡ true
      → by.subtype (Some (class_of m)) (shape_name of) class ≡ l.is_of of (OfClass class))
      → ThingFits l memory.heap thing → Puts (named_write v k (shown l thing)) (narrow_write v k thing)
  unfolding by_label
  write_item v put k (Numbers element items) is array tells fits = absurd (elim array [ ])
  write_item v put k (References class items) is array tells (references arrays few fits) =
      let go = λ (n : ℕ) (old : Value). by_name.with_kept by m at locals store AReference (Some (OfReferences class)) v
      (named_item k (shape_name (OfReferences class)) items n) in
      let go' = λ (n : ℕ) (old : Value). narrow.kept (classes l) memory.heap class v (narrow_item k class items n v) in
      subst (λ o. Puts (by_name.only_if (serves AReference o) (by_name.item_at items i (λ n old. by_name.with_kept by m
      at
      locals store AReference o v (named_item k (shape_name (OfReferences class)) items n))))
      (narrow_write v k (References class items))) (sym (named_by class array))
      (subst (λ e. Puts e (narrow.item_at (narrow.Raise Calculations.IndexOutside) items j go'))
      (sym (g.same items go few))
      (subst (λ z. Puts (by_name.item_at items g.near go) (narrow.item_at (narrow.Raise Calculations.IndexOutside) items
      z go')) (sym g.word)
      (item_both Puts (λ v. v) items items (λ n. same_item (slice_get items n)) go go' g.near few g.in_range
      (fails {fault = by_name.IndexOutside}) (λ n old e. kept_both k class items n v is (tells class refl) arrays few
      fits put))))
  write_item v put k (Object class slots) is array tells fits = absurd (elim array [ ])

  -- of the array of a reference; null raises
  pub reference_write_at : (x : Value) → RefersTo memory.heap values x → (within : Shape (List ℕ) → Bool)
      → AreAll l IsReferences within → KeepsAlike by l m within values → (v : Value) → RefersTo memory.heap within v
      → Puts (by_name.thing_at store.heap v (named_write x)) (narrow.thing_of memory.heap v (narrow_write x))
  reference_write_at x put within all tells _ to_null = fails {fault = by_name.NullPointer}
  reference_write_at x put within all tells _ (to_object {k = k} thing is passes) =
      subst (λ o. Puts (by_name.with_some o (named_write x k)) (narrow.with_some narrow.Stick (slice_get memory.heap k)
      (narrow_write x k))) (sym (thing_shown l memory.heap k thing stores.heap is))
      (subst (λ o. Puts (named_write x k (shown l thing)) (narrow.with_some narrow.Stick o (narrow_write x k))) (sym is)
      (write_item x put k thing is (all (shape thing) passes (made_there l thing (stores.heap_fits k thing is)))
      (λ class e. tells class (ap within (sym e) ∙ passes)) (stores.heap_fits k thing is)))
