-- References in arrays are read and written alike.
use Rattle.std.proofs.Common.{◌≡◌, ℕ, ◌+◌, ◌≤◌, refl, sym, ap, subst, ◌∙◌, arith, Bool, true, false, List, [], ◌∷◌}
use Rattle.std.proofs.Common.{length, All, ℤ}
use Rattle.std.specs.Prelude.{Option, Some, None, nat_le, slice_get, slice_set, if◌then◌else◌}
use Rattle.std.proofs.lemmas.Bool.Decides.{nat_tests}
use Rattle.cjc_bytes.specs.declared.fault.MemberId.{MemberId}
use Rattle.cjc_bytes.proofs.Gets.{set_length, item_has}
use Rattle.cjc_range.specs.Words.{low_word}
use Rattle.cjc_range.specs.Span.{Span, Holds, Within}
use Rattle.cjc_range.proofs.Order.{held_wider}
use Rattle.cjc_code.specs.declared.insn.JOp.TheVariants as jop
use Rattle.cjc_script.specs.declared.value.Value.{Value}
use Rattle.cjc_script.specs.declared.value.Value.TheVariants.{Null, Obj}
use Rattle.cjc_script.specs.declared.report.Thing.{Thing}
use Rattle.cjc_script.specs.declared.report.Thing.TheVariants as things
use Rattle.cjc_script.specs.Sorts.{Shape, OfClass, OfReferences, Reference, shape_name, shape_named}
use Rattle.cjc_card_semantics.specs.Bytecode.Calculations
use Rattle.cjc_card_semantics.specs.Bytecode.Meanings.{meaning}
use Rattle.cjc_card_semantics.specs.Bytecode.Effects.{HeapObject, Numbers, References, Object, shape}
use Rattle.cjc_card_semantics.specs.Bytecode.Effects as narrow
use Rattle.cjc_card_semantics.specs.Bytecode.Renaming.{option_as}
use Rattle.cjc_ncode.specs.declared.narrow.NInsn.TheVariants as insns
use Rattle.cjc_ncode.specs.Written.{Resolution}
use Rattle.cjc_ncode.specs.ByLabel.{Named, by_label, classes}
use Rattle.cjc_jvm_semantics.specs.Linked.{Method, Linked}
use Rattle.cjc_jvm_semantics.specs.Effects.{Store, AReference, effect, serves, type_of}
use Rattle.cjc_jvm_semantics.specs.Effects as by_name
use Rattle.cjc_narrow_proof.specs.Selection.Relation.{Kind, Range, Refers, NMemory, Agrees, number, null, object}
use Rattle.cjc_narrow_proof.specs.Selection.Relation.{Stacks, cell, Locals, CellFits, a_null, an_object, ThingFits}
use Rattle.cjc_narrow_proof.specs.Selection.Relation.{references, shown, Stores, HasArrays}
use Rattle.cjc_narrow_proof.specs.Selection.Rows.{HasRoom, NEffect, Same, RowAgrees, goes, raises}
use Rattle.cjc_narrow_proof.specs.Selection.Objects.{class_of}
use Rattle.cjc_narrow_proof.specs.Selection.Elements.{index_range, IsReferences, AreAll, ItemsPass, KeepsAlike}
use Rattle.cjc_narrow_proof.specs.Selection.Elements as elements
use Rattle.cjc_narrow_proof.proofs.SelectionLaws.Keeps.{made_there}
use Rattle.cjc_narrow_proof.proofs.SelectionLaws.Plain.{RowIs, as_written}
use Rattle.cjc_narrow_proof.proofs.SelectionLaws.Begins.{thing_shown, type_shown}
use Rattle.cjc_narrow_proof.proofs.SelectionLaws.Gets.{heights}
use Rattle.cjc_narrow_proof.proofs.SelectionLaws.Keeps.{stacks_kept, locals_kept, set_keeps, set_stores}
use Rattle.cjc_narrow_proof.proofs.SelectionLaws.Items.{all_with, item_both}

as_it_is : (o : Option Value) → o ≡ option_as (λ v. v) o
as_it_is None = refl
as_it_is (Some v) = refl

-- the descriptor names the type
named_by : (class : List ℕ) → IsReferences (OfReferences class) → shape_named (shape_name (OfReferences class))
    ≡ Some (OfReferences class)
named_by class (elements.references _ e) = e

no_class : (class : List ℕ) → IsReferences (OfClass class) → ⊥
no_class class h = elim h [ ]

-- ---- loads

module _ (by : Linked) (l : Named) (m : Method) (room at next : ℕ) (items : Shape (List ℕ) → Bool) (ks ls : List Kind)
    (vs ws : List Value) (locals words : List (Option Value)) (store : Store) (memory : NMemory)
    (roomy : HasRoom (Refers items ∷ ks) m.max_stack room) (stores : Stores l store memory) (held : Locals memory.heap
    ls locals words) (rest : Stacks memory.heap ks vs ws) (i : ℤ) (near : Holds index_range i) where
  abbrev Loads : by_name.Effect → NEffect → Type 0
  Loads = Same l (Refers items ∷ ks) ls (at + 1) next

  abbrev named_load : Thing → by_name.Effect
  named_load thing = by_name.array_in thing (λ desc held. by_name.only_if (serves AReference (shape_named desc))
      (by_name.item_at held i (λ n v. by_name.onward by m at locals store (v ∷ vs))))

  abbrev narrow_load : HeapObject (List ℕ) MemberId → NEffect
  narrow_load = narrow.references_in (λ class held. narrow.item_at (narrow.Raise Calculations.IndexOutside) held
      (low_word i) (λ n v. narrow.onward (v ∷ []) room next words memory ws))

  -- an item agrees with itself
  item_agrees : (class : List ℕ) (v : Value) → ((of : Shape (List ℕ)) → l.is_of of (OfClass class) ≡ true
      → items of ≡ true) → CellFits l memory.heap (Reference (OfClass class)) v → Agrees memory.heap (Refers items) v v
  item_agrees class _ pass a_null = null
  item_agrees class _ pass (an_object thing is e) = object thing is (pass (shape thing) e)

  item_pushed : (v : Value) → Agrees memory.heap (Refers items) v v
      → Loads (by_name.onward by m at locals store (v ∷ vs)) (narrow.onward (v ∷ []) room next words memory ws)
  item_pushed v agree =
      let long = heights rest in let g = long.narrow in let tall = roomy.narrow in
      let right : nat_le (length (v ∷ ws)) room ≡ true = grind (arith, nat_tests) in
      subst (λ b. Loads (by_name.onward by m at locals store (v ∷ vs)) (if b then narrow.Go next (v ∷ ws) words memory
      else narrow.Stick)) (sym right)
      (goes (cell agree rest) held stores)

  load_item : (thing : HeapObject (List ℕ) MemberId) → IsReferences (shape thing)
      → ((class : List ℕ) → shape thing ≡ OfReferences class → (of : Shape (List ℕ)) → l.is_of of (OfClass class) ≡ true
      → items of ≡ true) → ThingFits l memory.heap thing → Loads (named_load (shown l thing)) (narrow_load thing)
  unfolding by_label
  load_item (Numbers element held) is pass fits = absurd (elim is [ ])
  load_item (References class held) is pass (references arrays few fits) =
      subst (λ o. Loads (by_name.only_if (serves AReference o) (by_name.item_at held i (λ n v. by_name.onward by m at
      locals store (v ∷ vs)))) (narrow_load (References class held))) (sym (named_by class is))
      (item_both Loads (λ v. v) held held (λ n. as_it_is (slice_get held n)) (λ n v. by_name.onward by m at locals store
      (v ∷ vs)) (λ n v. narrow.onward (v ∷ []) room next words memory ws) i few near
      (raises {fault = by_name.IndexOutside}) (λ n v e. item_pushed v (item_agrees class v (pass class refl)
      (item_has (CellFits l memory.heap (Reference (OfClass class))) held n v fits e))))
  load_item (Object class slots) is pass fits = absurd (elim is [ ])

  -- of the array of a reference; null raises
  pub load_at : (within : Shape (List ℕ) → Bool) → AreAll l IsReferences within → ItemsPass l within items
      → (v w : Value) → Agrees memory.heap (Refers within) v w → Loads (by_name.thing_at store.heap v (λ k. named_load))
      (narrow.thing_of memory.heap w (λ k. narrow_load))
  load_at within all pass _ _ null = raises {fault = by_name.NullPointer}
  load_at within all pass _ _ (object {k = k} thing is passes) =
      subst (λ o. Loads (by_name.with_some o named_load) (narrow.with_some narrow.Stick (slice_get memory.heap k)
      narrow_load)) (sym (thing_shown l memory.heap k thing stores.heap is))
      (subst (λ o. Loads (named_load (shown l thing)) (narrow.with_some narrow.Stick o narrow_load)) (sym is)
      (load_item thing (all (shape thing) passes (made_there l thing (stores.heap_fits k thing is)))
      (λ class e. pass class (ap within (sym e) ∙ passes)) (stores.heap_fits k thing is)))

module _ (by : Linked) (l : Named) (r : Resolution) (m : Method) (i : Span) (near : Within i index_range)
    (within items : Shape (List ℕ) → Bool) (all : AreAll l IsReferences within) (pass : ItemsPass l within items) where
  load_is : RowIs by l m (jop.ArrayLoad 0x32) (insns.Op 0x24) (Range i ∷ Refers within ∷ []) (Refers items ∷ [])
  unfolding effect meaning
  load_is room at next ks ls _ _ locals words store memory roomy stores held (cell (number {x = x} e h)
      (cell {v = v} {w = w} {vs = vs} {ws = ws} agree rest)) =
      subst (λ j. Same l (Refers items ∷ ks) ls (at + 1) next (by_name.thing_at store.heap v (λ k. named_load by l m
      room at next items ks ls vs ws locals words store memory roomy stores held rest x (held_wider i index_range x
      near h))) (narrow.thing_of memory.heap w (λ k. narrow.references_in (λ class held. narrow.item_at
      (narrow.Raise Calculations.IndexOutside) held j (λ n v. narrow.onward (v ∷ []) room next words memory ws)))))
      (sym e)
      (load_at by l m room at next items ks ls vs ws locals words store memory roomy stores held rest x
      (held_wider i index_range x near h) within all pass v w agree)

  pub aaload : RowAgrees by l r m (jop.ArrayLoad 0x32) (Range i ∷ Refers within ∷ []) (Refers items ∷ [])
  aaload = as_written by l r m (jop.ArrayLoad 0x32) (insns.Op 0x24) (Range i ∷ Refers within ∷ []) (Refers items
      ∷ []) (λ place. refl) load_is

-- ---- stores

module _ (by : Linked) (l : Named) (m : Method) (at next : ℕ) (values : Shape (List ℕ) → Bool) (ks ls : List Kind)
    (vs ws : List Value) (locals words : List (Option Value)) (store : Store) (memory : NMemory)
    (stores : Stores l store memory) (held : Locals memory.heap ls locals words) (rest : Stacks memory.heap ks vs ws)
    (i : ℤ) (near : Holds index_range i) where
  abbrev Writes : by_name.Effect → NEffect → Type 0
  Writes = Same l ks ls (at + 1) next

  abbrev named_item : ℕ → List ℕ → List Value → ℕ → Value → by_name.Effect
  named_item k desc items n v = by_name.with_heap by m at locals store (slice_set store.heap k
      (things.Array desc (slice_set items n v))) vs

  abbrev named_write : Value → ℕ → Thing → by_name.Effect
  named_write v k thing = by_name.array_in thing (λ desc items. by_name.only_if (serves AReference (shape_named desc))
      (by_name.item_at items i (λ n old. by_name.with_kept by m at locals store AReference (shape_named desc) v
      (named_item k desc items n))))

  abbrev narrow_item : ℕ → List ℕ → List Value → ℕ → Value → NEffect
  narrow_item k class items n v =
      narrow.Go next ws words (narrow.with_thing memory k (References class (slice_set items n v)))

  abbrev narrow_write : Value → ℕ → HeapObject (List ℕ) MemberId → NEffect
  narrow_write v k = narrow.references_in (λ class items. narrow.item_at (narrow.Raise Calculations.IndexOutside) items
      (low_word i) (λ n old. narrow.kept (classes l) memory.heap class v (narrow_item k class items n v)))

  -- an item is replaced by one that fits
  item_written : (k : ℕ) (class : List ℕ) (items : List Value) (n : ℕ) (v : Value) → slice_get memory.heap k
      ≡ Some (References class items) → CellFits l memory.heap (Reference (OfClass class)) v → HasArrays l class
      → length items ≤ 32767 → All (CellFits l memory.heap (Reference (OfClass class))) items
      → Writes (named_item k (shape_name (OfReferences class)) items n v) (narrow_item k class items n v)
  unfolding by_label
  item_written k class items n v is fit arrays few fits =
      let new : HeapObject (List ℕ) MemberId = References class (slice_set items n v) in
      let long = set_length items n v in
      let keeps = set_keeps memory.heap k (References class items) new is refl in
      let new_fits : ThingFits l memory.heap new = references arrays (omega (arith, long, few))
      (all_with (CellFits l memory.heap (Reference (OfClass class))) items n v fit fits) in
      goes (stacks_kept keeps rest) (locals_kept keeps held) (set_stores l store memory k (References class items) new
      is refl stores new_fits)

  -- where the class of the array has it; else both raise
  kept_both : (k : ℕ) (class : List ℕ) (items : List Value) (n : ℕ) (v w : Value) → slice_get memory.heap k
      ≡ Some (References class items) → ((of : Shape (List ℕ)) → values of ≡ true
      → by.subtype (Some (class_of m)) (shape_name of) class ≡ l.is_of of (OfClass class)) → HasArrays l class
      → length items ≤ 32767 → All (CellFits l memory.heap (Reference (OfClass class))) items
      → Agrees memory.heap (Refers values) v w
      → Writes (by_name.with_kept by m at locals store AReference (Some (OfReferences class)) v
      (named_item k (shape_name (OfReferences class)) items n)) (narrow.kept (classes l) memory.heap class w
      (narrow_item k class items n w))
  kept_both k class items n _ _ is tells arrays few fits null = item_written k class items n Null is a_null arrays few
      fits
  kept_both k class items n _ _ is tells arrays few fits (object {k = j} thing there passes) =
      subst (λ o. Writes (by_name.with_some o (λ thing. if by.subtype (Some (class_of m)) (type_of thing) class
      then named_item k (shape_name (OfReferences class)) items n (Obj j) else by_name.Raise by_name.ArrayStore))
      (narrow.with_some narrow.Stick (slice_get memory.heap j) (λ thing. if l.is_of (shape thing) (OfClass class)
      then narrow_item k class items n (Obj j) else narrow.Raise Calculations.ArrayStore)))
      (sym (thing_shown l memory.heap j thing stores.heap there))
      (subst (λ b. Writes (if b then named_item k (shape_name (OfReferences class)) items n (Obj j)
      else by_name.Raise by_name.ArrayStore) (narrow.with_some narrow.Stick (slice_get memory.heap j)
      (λ thing. if l.is_of (shape thing) (OfClass class) then narrow_item k class items n (Obj j)
      else narrow.Raise Calculations.ArrayStore))) (sym (ap (λ of. by.subtype (Some (class_of m)) of class)
      (type_shown l thing) ∙ tells (shape thing) passes))
      (subst (λ o. Writes (if l.is_of (shape thing) (OfClass class) then named_item k (shape_name (OfReferences class))
      items n (Obj j) else by_name.Raise by_name.ArrayStore) (narrow.with_some narrow.Stick o
      (λ thing. if l.is_of (shape thing) (OfClass class) then narrow_item k class items n (Obj j)
      else narrow.Raise Calculations.ArrayStore))) (sym there)
      (by_answer (l.is_of (shape thing) (OfClass class)) refl)))
    where
      by_answer : (b : Bool) → l.is_of (shape thing) (OfClass class) ≡ b
          → Writes (if b then named_item k (shape_name (OfReferences class)) items n (Obj j)
          else by_name.Raise by_name.ArrayStore) (if b then narrow_item k class items n (Obj j)
          else narrow.Raise Calculations.ArrayStore)
      by_answer true e = item_written k class items n (Obj j) is (an_object thing there e) arrays few fits
      by_answer false e = raises {fault = by_name.ArrayStore}

  write_item : (v w : Value) → Agrees memory.heap (Refers values) v w → (k : ℕ) (thing : HeapObject (List ℕ) MemberId)
      → slice_get memory.heap k ≡ Some thing → IsReferences (shape thing)
      → ((class : List ℕ) → shape thing ≡ OfReferences class → (of : Shape (List ℕ)) → values of ≡ true
      → by.subtype (Some (class_of m)) (shape_name of) class ≡ l.is_of of (OfClass class))
      → ThingFits l memory.heap thing → Writes (named_write v k (shown l thing)) (narrow_write w k thing)
  unfolding by_label
  write_item v w agree k (Numbers element items) is array tells fits = absurd (elim array [ ])
  write_item v w agree k (References class items) is array tells (references arrays few fits) =
      subst (λ o. Writes (by_name.only_if (serves AReference o) (by_name.item_at items i (λ n old. by_name.with_kept by
      m at locals store AReference o v (named_item k (shape_name (OfReferences class)) items n))))
      (narrow_write w k (References class items))) (sym (named_by class array))
      (item_both Writes (λ v. v) items items (λ n. as_it_is (slice_get items n)) (λ n old. by_name.with_kept by m at
      locals store AReference (Some (OfReferences class)) v (named_item k (shape_name (OfReferences class)) items
      n)) (λ n old. narrow.kept (classes l) memory.heap class w (narrow_item k class items n w)) i few near
      (raises {fault = by_name.IndexOutside}) (λ n old e. kept_both k class items n v w is (tells class refl) arrays few
      fits agree))
  write_item v w agree k (Object class slots) is array tells fits = absurd (elim array [ ])

  -- of the array of a reference; null raises
  pub write_at : (x y : Value) → Agrees memory.heap (Refers values) x y → (within : Shape (List ℕ) → Bool)
      → AreAll l IsReferences within → KeepsAlike by l m within values → (v w : Value)
      → Agrees memory.heap (Refers within) v w → Writes (by_name.thing_at store.heap v (named_write x))
      (narrow.thing_of memory.heap w (narrow_write y))
  write_at x y put within all tells _ _ null = raises {fault = by_name.NullPointer}
  write_at x y put within all tells _ _ (object {k = k} thing is passes) =
      subst (λ o. Writes (by_name.with_some o (named_write x k)) (narrow.with_some narrow.Stick (slice_get memory.heap
      k) (narrow_write y k))) (sym (thing_shown l memory.heap k thing stores.heap is))
      (subst (λ o. Writes (named_write x k (shown l thing)) (narrow.with_some narrow.Stick o (narrow_write y k)))
      (sym is)
      (write_item x y put k thing is (all (shape thing) passes (made_there l thing (stores.heap_fits k thing is)))
      (λ class e. tells class (ap within (sym e) ∙ passes)) (stores.heap_fits k thing is)))

module _ (by : Linked) (l : Named) (r : Resolution) (m : Method) (i : Span) (near : Within i index_range)
    (within values : Shape (List ℕ) → Bool) (all : AreAll l IsReferences within) (tells : KeepsAlike by l m within
    values) where
  store_is : RowIs by l m (jop.ArrayStore 0x53) (insns.Op 0x37) (Refers values ∷ Range i ∷ Refers within ∷ []) []
  unfolding effect meaning
  store_is room at next ks ls _ _ locals words store memory roomy stores held
      (cell null (cell (number {x = x} {y = j} f h') (cell {v = v} {w = w} {vs = vs} {ws = ws} agree rest))) =
      subst (λ a. Same l ks ls (at + 1) next (by_name.thing_at store.heap v (named_write by l m at next values ks ls vs
      ws locals words store memory stores held rest x (held_wider i index_range x near h') Null))
      (narrow.thing_of memory.heap w (λ k. narrow.references_in (λ class items. narrow.item_at
      (narrow.Raise Calculations.IndexOutside) items a (λ n old. narrow.kept (classes l) memory.heap class Null
      (narrow.Go next ws words (narrow.with_thing memory k (References class (slice_set items n Null)))))))))
      (sym f)
      (write_at by l m at next values ks ls vs ws locals words store memory stores held rest x (held_wider i index_range
      x near h') Null Null null within all tells v w agree)
  store_is room at next ks ls _ _ locals words store memory roomy stores held (cell (object {k = o} thing is passes)
      (cell (number {x = x} {y = j} f h') (cell {v = v} {w = w} {vs = vs} {ws = ws} agree rest))) =
      subst (λ a. Same l ks ls (at + 1) next (by_name.thing_at store.heap v (named_write by l m at next values ks ls vs
      ws locals words store memory stores held rest x (held_wider i index_range x near h') (Obj o)))
      (narrow.thing_of memory.heap w (λ k. narrow.references_in (λ class items. narrow.item_at
      (narrow.Raise Calculations.IndexOutside) items a (λ n old. narrow.kept (classes l) memory.heap class (Obj o)
      (narrow.Go next ws words (narrow.with_thing memory k (References class (slice_set items n (Obj o))))))))))
      (sym f)
      (write_at by l m at next values ks ls vs ws locals words store memory stores held rest x (held_wider i index_range
      x near h') (Obj o) (Obj o) (object thing is passes) within all tells v w agree)

  pub aastore : RowAgrees by l r m (jop.ArrayStore 0x53) (Refers values ∷ Range i ∷ Refers within ∷ []) []
  aastore = as_written by l r m (jop.ArrayStore 0x53) (insns.Op 0x37) (Refers values ∷ Range i ∷ Refers within ∷ []) []
      (λ place. refl) store_is
