-- putfield and putstatic.
use Rattle.std.proofs.Common.{◌≡◌, ℕ, ◌+◌, refl, sym, ap, subst, ◌∙◌, arith, Bool, true, false, List, [], ◌∷◌}
use Rattle.std.proofs.Common.{◌++◌, length, pos, ◌+ℤ◌, ◌*ℤ◌}
use Rattle.std.specs.Prelude.{Option, Some, None, map, option_and_then, slice_get, slice_set, if◌then◌else◌}
use Rattle.std.specs.Int.{w16, cast_unsigned}
use Rattle.std.proofs.lemmas.Int.{ints}
use Rattle.cjc_script.specs.Bytes.declared.fault.MemberId.{MemberId}
use Rattle.cjc_range.specs.Words.{low_word, low_byte}
use Rattle.cjc_range.specs.Span.{Holds, full}
use Rattle.cjc_range.proofs.WordsLaws.Words.{low_word_same, wide_ends}
use Rattle.cjc_int_proof.specs.Bytecode.declared.insn.JOp.TheVariants as jop
use Rattle.cjc_script.specs.declared.value.Value.{Value}
use Rattle.cjc_script.specs.declared.value.Value.TheVariants.{Num, Null, Obj}
use Rattle.cjc_script.specs.declared.report.Thing.{Thing}
use Rattle.cjc_script.specs.declared.report.Thing.TheVariants as things
use Rattle.cjc_script.specs.Sorts.{Shape, Sort, Boolean, Byte, Short, Int, Reference, NoValue, field_sort}
use Rattle.cjc_card_semantics.specs.Bytecode.Numbers.{spelt_by}
use Rattle.cjc_card_semantics.specs.Bytecode.Meanings.{meaning, Uses, PutsStatic}
use Rattle.cjc_card_semantics.specs.Bytecode.Effects.{Slot, HeapObject, Numbers, References, Object, shape, slot_of}
use Rattle.cjc_card_semantics.specs.Bytecode.Effects.{slots_with, operand, same_kind}
use Rattle.cjc_card_semantics.specs.Bytecode.Effects as narrow
use Rattle.cjc_card_semantics.specs.Bytecode.Renaming.{keys}
use Rattle.cjc_card_semantics.proofs.BytecodeLaws.Natural.{keys_same}
use Rattle.cjc_ncode.specs.declared.narrow.NInsn.TheVariants as insns
use Rattle.cjc_ncode.specs.declared.narrow.NMethod.{NMethod}
use Rattle.cjc_ncode.specs.declared.narrow.PoolKey.TheVariants as pool
use Rattle.cjc_ncode.specs.PoolOrder.{same_member}
use Rattle.cjc_ncode.specs.ByLabel.{Named, by_label, classes, naming, put_static, put_cell, shown_slot}
use Rattle.cjc_ncode.specs.Written.{Resolution, field_access, static_access}
use Rattle.cjc_ncode.specs.IntCode.IntCode.{Before, Frame, narrowed}
use Rattle.cjc_jvm_semantics.specs.Linked.{Method, Static, Instance, Linked}
use Rattle.cjc_jvm_semantics.specs.Effects.{Store, effect, value_in, values_with, is_same_kind}
use Rattle.cjc_jvm_semantics.specs.Effects as by_name
use Rattle.cjc_int_proof.specs.Walks.{Within as Inside, walk}
use Rattle.cjc_narrow_proof.specs.Selection.Cells as may
use Rattle.cjc_narrow_proof.specs.Selection.Objects.{class_of}
use Rattle.cjc_narrow_proof.specs.Selection.Relation.{Kind, Refers, Heap, NMemory, Stores, CellFits, a_boolean, a_byte}
use Rattle.cjc_narrow_proof.specs.Selection.Relation.{a_short, an_int, a_null, an_object, SlotsFit, no_slots, slot}
use Rattle.cjc_narrow_proof.specs.Selection.Relation.{ThingFits, of_class, shown, IsMadeOf, HasObjects}
use Rattle.cjc_narrow_proof.specs.Selection.Rows.{NEffect, HasField, lists}
use Rattle.cjc_narrow_proof.proofs.SelectionLaws.Begins.{thing_shown}
use Rattle.cjc_narrow_proof.proofs.SelectionLaws.Fields.{fields_same, desc_told, value_shown, found, letter_of}
use Rattle.cjc_narrow_proof.proofs.SelectionLaws.Keeps.{made_there, set_keeps, set_stores}
use Rattle.cjc_narrow_proof.proofs.SelectionLaws.Puts.{byte_same, put_means}
use Rattle.cjc_narrow_proof.proofs.SelectionLaws.Replies.{keeps_itself}
use Rattle.cjc_int_runs.specs.Fields.{IntFieldIsThere, IntCellIsThere, MayBePutInt, in_one_word, an_int_put}
use Rattle.cjc_int_runs.specs.Relation.{RefersTo, to_null, to_object, IntLocals, IntStacks, number, reference}
use Rattle.cjc_int_runs.specs.Steps.{IntRow, InStep, StandAt, behind, spot}
use Rattle.cjc_int_runs.proofs.Stepping.{onward}
use Rattle.cjc_int_runs.proofs.Guard.{stand_front, stand_back}
use Rattle.cjc_int_runs.proofs.Kept.{int_stacks_kept}
use Rattle.cjc_int_runs.proofs.Ending.{Lands, lands, fails, last_lands}

-- ---- what is put

-- The cell on top, cut where it has one word: what is taken of its words is the value by name, which fits the type.
record IsPutOn (l : Named) (code : NMethod) (here : ℕ) (sort : Sort) (ks : List Kind) (vs ws : List Value)
    (words : List (Option Value)) (memory : NMemory) : Type 0 where
  v : Value
  under : List Value
  new : List Value
  below : List Value
  is : vs ≡ v ∷ under
  rest : IntStacks memory.heap ks under below
  fits : CellFits l memory.heap sort v
  taken : (stuck : NEffect) (go : Value → List Value → NEffect) → operand (letter_of sort) stuck (new ++ below) go
      ≡ go v below
  leads : walk (by_label l) code (length (narrowed sort)) (spot here ws words memory)
      ≡ Inside (spot (behind here (narrowed sort)) (new ++ below) words memory)

put_on : (l : Named) (code : NMethod) (here : ℕ) (words : List (Option Value)) (memory : NMemory) {sort : Sort}
    {k : Kind} {ks : List Kind} {vs ws : List Value} → MayBePutInt l sort k → StandAt code here (narrowed sort)
    → IntStacks memory.heap (k ∷ ks) vs ws → IsPutOn l code here sort ks vs ws words memory
unfolding meaning
put_on l code here words memory (in_one_word (may.a_boolean {s = s} inside)) stand (number {x = x} {high = high}
    {low = low} {vs = vs} {ws = ws} e h rest) =
    let a = h.above in let b = h.below in let c = inside.low in let d = inside.high in
    let y = low_word (spelt_by high low) in
    let same : y ≡ x = ap low_word (sym e) ∙ low_word_same x (omega (arith, ints)) (omega (arith, ints)) in
    record {
      v = Num x;
      under = vs;
      new = Num y ∷ [];
      below = ws;
      is = refl;
      rest = rest;
      fits = a_boolean (record { above = omega (arith, ints); below = omega (arith, ints) });
      taken = λ stuck go. ap (λ z. go (Num z) ws) (ap low_byte same ∙ byte_same x (omega (arith, ints)) (omega (
        arith,
        ints,
      )));
      leads = onward l code 0 here (here + 1) (insns.Op 0x5E) (Num low ∷ Num high ∷ ws) (Num y ∷ ws) words words memory
          memory _ stand.0 refl refl;
    }
put_on l code here words memory (in_one_word (may.a_byte {s = s} inside)) stand (number {x = x} {high = high}
    {low = low} {vs = vs} {ws = ws} e h rest) =
    let a = h.above in let b = h.below in let c = inside.low in let d = inside.high in
    let y = low_word (spelt_by high low) in
    let same : y ≡ x = ap low_word (sym e) ∙ low_word_same x (omega (arith, ints)) (omega (arith, ints)) in
    record {
      v = Num x;
      under = vs;
      new = Num y ∷ [];
      below = ws;
      is = refl;
      rest = rest;
      fits = a_byte (record { above = omega (arith, ints); below = omega (arith, ints) });
      taken = λ stuck go. ap (λ z. go (Num z) ws) (ap low_byte same ∙ byte_same x (omega (arith, ints)) (omega (
        arith,
        ints,
      )));
      leads = onward l code 0 here (here + 1) (insns.Op 0x5E) (Num low ∷ Num high ∷ ws) (Num y ∷ ws) words words memory
          memory _ stand.0 refl refl;
    }
put_on l code here words memory (in_one_word (may.a_short {s = s} inside)) stand (number {x = x} {high = high}
    {low = low} {vs = vs} {ws = ws} e h rest) =
    let a = h.above in let b = h.below in let c = inside.low in let d = inside.high in
    let y = low_word (spelt_by high low) in
    let itself = low_word_same x (omega (arith, ints)) (omega (arith, ints)) in
    let same : y ≡ x = ap low_word (sym e) ∙ itself in
    record {
      v = Num x;
      under = vs;
      new = Num y ∷ [];
      below = ws;
      is = refl;
      rest = rest;
      fits = a_short (record { above = omega (arith, ints); below = omega (arith, ints) });
      taken = λ stuck go. ap (λ z. go (Num z) ws) (ap low_word same ∙ itself);
      leads = onward l code 0 here (here + 1) (insns.Op 0x5E) (Num low ∷ Num high ∷ ws) (Num y ∷ ws) words words memory
          memory _ stand.0 refl refl;
    }
put_on l code here words memory (in_one_word (may.a_reference tells)) stand (reference {vs = vs} {ws = ws} to_null
    rest) = record {
      v = Null;
      under = vs;
      new = Null ∷ [];
      below = ws;
      is = refl;
      rest = rest;
      fits = a_null;
      taken = λ stuck go. refl;
      leads = refl;
    }
put_on l code here words memory (in_one_word (may.a_reference tells)) stand (reference {vs = vs} {ws = ws}
    (to_object {k = k} thing is e) rest) = record {
      v = Obj k;
      under = vs;
      new = Obj k ∷ [];
      below = ws;
      is = refl;
      rest = rest;
      fits = an_object thing is (tells (shape thing) e);
      taken = λ stuck go. refl;
      leads = refl;
    }
put_on l code here words memory an_int_put stand (number {x = x} {high = high} {low = low} {vs = vs} {ws = ws} e h
    rest) =
    let ends = wide_ends ((high *ℤ pos 65536) +ℤ pos (cast_unsigned w16 low)) in
    record {
      v = Num x;
      under = vs;
      new = Num low ∷ Num high ∷ [];
      below = ws;
      is = refl;
      rest = rest;
      fits = an_int (subst (Holds full) (sym e) (record { above = ends.0; below = ends.1 }));
      taken = λ stuck go. ap (λ z. go (Num z) ws) (sym e);
      leads = refl;
    }

-- what is held and what is put are of one kind on both sides
same_kinds : (l : Named) (heap : Heap) {sort : Sort} {old new : Value} → CellFits l heap sort old
    → CellFits l heap sort new → (is_same_kind old new ≡ true) × (same_kind old new ≡ true)
same_kinds l heap (a_boolean a) (a_boolean b) = (refl, refl)
same_kinds l heap (a_byte a) (a_byte b) = (refl, refl)
same_kinds l heap (a_short a) (a_short b) = (refl, refl)
same_kinds l heap (an_int a) (an_int b) = (refl, refl)
same_kinds l heap a_null a_null = (refl, refl)
same_kinds l heap a_null (an_object thing is e) = (refl, refl)
same_kinds l heap (an_object thing is e) a_null = (refl, refl)
same_kinds l heap (an_object thing is e) (an_object thing' is' e') = (refl, refl)

-- the fields with another value, as a report shows them
values_shown : (slots : List (Slot MemberId)) (f : MemberId) (v : Value) → values_with (map shown_slot slots) f v
    ≡ map shown_slot (slots_with same_member slots f v)
values_shown [] f v = refl
values_shown (s ∷ slots) f v = ap (λ t. if t then shown_slot (record s { value = v }) ∷ map shown_slot slots
    else shown_slot s ∷ values_with (map shown_slot slots) f v) (fields_same s.key f)
    ∙ by (same_member s.key f) (values_shown slots f v)
  where
    by : (t : Bool) → values_with (map shown_slot slots) f v ≡ map shown_slot (slots_with same_member slots f v)
        → (if t then shown_slot (record s { value = v }) ∷ map shown_slot slots else shown_slot s
        ∷ values_with (map shown_slot slots) f v) ≡ map shown_slot (if t then record s { value = v } ∷ slots
        else s ∷ slots_with same_member slots f v)
    by true e = refl
    by false e = ap (λ vs. shown_slot s ∷ vs) e

-- they fit still
slots_put : (l : Named) (heap : Heap) {slots : List (Slot MemberId)} (f : MemberId) (v : Value) → SlotsFit l heap slots
    → CellFits l heap (field_sort f.desc) v → SlotsFit l heap (slots_with same_member slots f v)
slots_put l heap f v no_slots h = no_slots
slots_put l heap f v (slot {s = s} {slots = slots} old rest) h = by (slots_put l heap f v rest h) (same_member s.key f)
    refl
  where
    by : SlotsFit l heap (slots_with same_member slots f v) → (t : Bool) → same_member s.key f ≡ t
        → SlotsFit l heap (if t then record s { value = v } ∷ slots else s ∷ slots_with same_member slots f v)
    by more true e = slot (subst (λ d. CellFits l heap (field_sort d) v) (sym (desc_told s.key f e)) h) rest
    by more false e = slot old more

-- ---- static cells

put_static_means : (sort : Sort) → meaning (static_access true sort) ≡ Uses (PutsStatic (letter_of sort))
unfolding meaning
put_static_means Boolean = refl
put_static_means Byte = refl
put_static_means Short = refl
put_static_means Int = refl
put_static_means (Reference kind) = refl
put_static_means NoValue = refl

module _ (by : Linked) (l : Named) (m : Method) (f : MemberId) (at next : ℕ) (ks : List Kind) (v : Value)
    (vs ws : List Value) (locals words : List (Option Value)) (store : Store) (memory : NMemory)
    (fits : CellFits l memory.heap (field_sort f.desc) v) (stores : Stores l store memory) (rest : IntStacks memory.heap
    ks vs ws) where
  abbrev Puts : by_name.Effect → NEffect → Type 0
  Puts = Lands l ks at next locals words memory

  static_put : lists (keys (let n = l.memory in n.statics)) f ≡ true
      → Puts (by_name.static_put by m at locals store (Some (Static f)) (v ∷ vs)) (narrow.with_some narrow.Stick
      (put_static memory.statics f v) (λ x. narrow.Go next ws words (record memory { statics = x })))
  static_put has =
      let r = found l memory.heap f stores.statics_fit (ap (λ fs. lists fs f) stores.cells ∙ has) in
      let kinds = same_kinds l memory.heap r.fits fits in
      let named_side = by_name.with_statics by m at locals store (values_with store.statics f v) vs in
      let named_value : Value → by_name.Effect = λ old. by_name.only_if (is_same_kind old v) named_side in
      let after : List (Slot MemberId) → NEffect = λ x. narrow.Go next ws words (record memory { statics = x }) in
      let narrow_stored = slots_with same_member memory.statics f v in
      subst (λ o. Puts (by_name.with_some o named_value) (narrow.with_some narrow.Stick (put_static memory.statics f v)
      after)) (sym (ap (λ s. value_in s f) stores.statics ∙ value_shown memory.statics f ∙ r.is))
      (subst (λ b. Puts (by_name.only_if b named_side) (narrow.with_some narrow.Stick (put_static memory.statics f v)
      after)) (sym kinds.0)
      (subst (λ o. Puts named_side (narrow.with_some narrow.Stick (option_and_then (put_cell memory.statics f v) o)
      after)) (sym r.is)
      (subst (λ b. Puts named_side (narrow.with_some narrow.Stick (if b then Some narrow_stored else None) after))
      (sym kinds.1)
      (lands (keeps_itself memory.heap) rest (record {
        heap = stores.heap;
        statics = ap (λ s. values_with s f v) stores.statics ∙ values_shown memory.statics f v;
        heap_fits = stores.heap_fits;
        statics_fit = slots_put l memory.heap f v stores.statics_fit fits;
        cells = keys_same same_member memory.statics f v ∙ stores.cells;
      })))))

  -- ---- a field of an object

  abbrev by_thing : ℕ → Thing → by_name.Effect
  by_thing k thing = by_name.object_in thing (λ class fields. by_name.with_some (value_in fields f)
      (λ old. by_name.only_if (is_same_kind old v) (by_name.with_heap by m at locals store (slice_set store.heap k
      (things.Object class (values_with fields f v))) vs)))

  abbrev narrow_thing : ℕ → HeapObject (List ℕ) MemberId → NEffect
  narrow_thing k = narrow.object_in (λ class slots. narrow.put_slot (classes l) (slot_of same_member slots f) v
      (narrow.Go next ws words (narrow.with_thing memory k (Object class (slots_with same_member slots f v)))))

  -- of an object of a class that has the field
  write_of : (k : ℕ) (thing : HeapObject (List ℕ) MemberId) → slice_get memory.heap k ≡ Some thing
      → HasField l f (shape thing) → ThingFits l memory.heap thing
      → Puts (by_thing k (shown l thing)) (narrow_thing k thing)
  unfolding by_label
  write_of k (Numbers element items) there has h = let e = has.is_class in absurd cc
  write_of k (References class items) there has h = let e = has.is_class in absurd cc
  write_of k (Object class slots) there has (of_class is fit) =
      let same : has.class ≡ class = (let e = has.is_class in cc) in
      let r = found l memory.heap f fit (has.has (keys slots) (subst (λ c. HasObjects l c (keys slots)) (sym same) is))
      in
      let kinds = same_kinds l memory.heap r.fits fits in
      let new : HeapObject (List ℕ) MemberId = Object class (slots_with same_member slots f v) in
      let named_side = by_name.with_heap by m at locals store (slice_set store.heap k
      (things.Object class (values_with (map shown_slot slots) f v))) vs in
      let narrow_side = narrow.Go next ws words (narrow.with_thing memory k new) in
      let keeps = set_keeps memory.heap k (Object class slots) new there refl in
      let new_fits : ThingFits l memory.heap new =
      of_class (subst (HasObjects l class) (sym (keys_same same_member slots f v)) is) (slots_put l memory.heap f v
      fit fits) in
      subst (λ o. Puts (by_name.with_some o (λ old. by_name.only_if (is_same_kind old v) named_side))
      (narrow.put_slot (classes l) (slot_of same_member slots f) v narrow_side)) (sym (value_shown slots f ∙ r.is))
      (subst (λ b. Puts (by_name.only_if b named_side) (narrow.put_slot (classes l) (slot_of same_member slots f) v
      narrow_side)) (sym kinds.0)
      (subst (λ o. Puts named_side (narrow.put_slot (classes l) o v narrow_side)) (sym r.is)
      (subst (λ b. Puts named_side (if b then narrow_side else narrow.Stick)) (sym kinds.1)
      (subst (λ fs. Puts (by_name.with_heap by m at locals store (slice_set store.heap k (things.Object class fs)) vs)
      narrow_side) (sym (values_shown slots f v))
      (lands keeps (int_stacks_kept keeps rest) (set_stores l store memory k (Object class slots) new there refl stores
      new_fits))))))

  -- of the object of a reference; null raises
  write_at : (within : Shape (List ℕ) → Bool) (x : Value) → ((kind : Shape (List ℕ)) → within kind ≡ true
      → IsMadeOf l kind → HasField l f kind) → RefersTo memory.heap within x
      → Puts (by_name.thing_at store.heap x by_thing) (narrow.thing_of memory.heap x narrow_thing)
  write_at within _ has to_null = fails {fault = by_name.NullPointer}
  write_at within _ has (to_object {k = k} thing is passes) =
      subst (λ o. Puts (by_name.with_some o (by_thing k)) (narrow.with_some narrow.Stick (slice_get memory.heap k)
      (narrow_thing k))) (sym (thing_shown l memory.heap k thing stores.heap is))
      (subst (λ o. Puts (by_thing k (shown l thing)) (narrow.with_some narrow.Stick o (narrow_thing k))) (sym is)
      (write_of k thing is (has (shape thing) passes (made_there l thing (stores.heap_fits k thing is)))
      (stores.heap_fits k thing is)))

-- ---- the rows

module _ (by : Linked) (l : Named) (f : Frame) (pairs : ℕ) (r : Resolution) (m : Method) (b : Before) (ls : List Kind)
  where
    -- by the type of the cell that is found
    cell_put : (named g : MemberId) (sort : Sort) (k : Kind) → by.field (class_of m) named ≡ Some (Static g)
        → MayBePutInt l sort k → field_sort g.desc ≡ sort → lists (keys (let n = l.memory in n.statics)) g ≡ true
        → (code : NMethod) (here : ℕ) → StandAt code here (narrowed sort
        ++ insns.Named (static_access true sort) (pool.StaticField g) ∷ [])
        → (at : ℕ) (ks : List Kind) (vs ws : List Value) (locals words : List (Option Value)) (store : Store)
        (memory : NMemory) → Stores l store memory → IntLocals memory.heap f pairs ls locals words
        → IntStacks memory.heap (k ∷ ks) vs ws
        → InStep l f pairs ks ls here (behind here (narrowed sort
        ++ insns.Named (static_access true sort) (pool.StaticField g) ∷ [])) words memory (at + 1)
        (effect by m at locals store (jop.Static true named) vs) (λ n. walk (by_label l) code n (spot here ws words
        memory)) (length (narrowed sort ++ insns.Named (static_access true sort) (pool.StaticField g) ∷ []))
    unfolding effect
    cell_put named g sort k is_found may_be same has code here stand at ks vs ws locals words store memory stores held
        stacks =
        let i = insns.Named (static_access true sort) (pool.StaticField g) in
        let p = put_on l code here words memory may_be (stand_front code here (narrowed sort) (i ∷ []) stand) stacks in
        let there = stand_back code here (narrowed sort) (i ∷ []) stand in
        let next = behind here (narrowed sort) + 1 in
        let go : Value → List Value → NEffect = λ new below. narrow.with_some narrow.Stick (put_static memory.statics g
        new) (λ x. narrow.Go next below words (record memory { statics = x })) in
        last_lands l f pairs ls code here at (narrowed sort) ws (p.new ++ p.below) locals words memory held ks i p.leads
        there.0 _ _
        (ap (λ x. narrow.effect (classes l) (naming x (pool.StaticField g)) code.max_stack next words memory (p.new
        ++ p.below)) (put_static_means sort) ∙ p.taken narrow.Stick go)
        (subst (λ o. Lands l ks at next locals words memory (by_name.static_put by m at locals store o vs) (go p.v
        p.below)) (sym is_found)
        (subst (λ q. Lands l ks at next locals words memory (by_name.static_put by m at locals store (Some (Static
        g)) q)
        (go p.v p.below)) (sym p.is)
        (static_put by l m g at next ks p.v p.under p.below locals words store memory
        (subst (λ d. CellFits l memory.heap d p.v) (sym same) p.fits) stores p.rest has)))

    pub putstatic : (named : MemberId) (k : Kind) → IntCellIsThere by l r m named
        → MayBePutInt l (field_sort named.desc) k → IntRow by l f pairs r m b (jop.Static true named) (k ∷ []) [] ls ls
    putstatic named k there may_be place code here is at ks vs ws locals words store memory before after stores held
        stacks = cell_put named (r.field named) (field_sort named.desc) k there.is_found may_be there.type there.has
        code here is at ks vs ws locals words store memory stores held stacks

    -- by the type of the field that is found
    field_put : (named g : MemberId) (near : Bool) (sort : Sort) (k : Kind) (within : Shape (List ℕ) → Bool)
        → by.field (class_of m) named ≡ Some (Instance g) → MayBePutInt l sort k → field_sort g.desc ≡ sort
        → ((kind : Shape (List ℕ)) → within kind ≡ true → IsMadeOf l kind → HasField l g kind)
        → (code : NMethod) (here : ℕ) → StandAt code here (narrowed sort
        ++ insns.Named (field_access true near sort) (pool.Field g) ∷ [])
        → (at : ℕ) (ks : List Kind) (vs ws : List Value) (locals words : List (Option Value)) (store : Store)
        (memory : NMemory) → Stores l store memory → IntLocals memory.heap f pairs ls locals words
        → IntStacks memory.heap (k ∷ Refers within ∷ ks) vs ws
        → InStep l f pairs ks ls here (behind here (narrowed sort
        ++ insns.Named (field_access true near sort) (pool.Field g) ∷ [])) words memory (at + 1)
        (effect by m at locals store (jop.Field true named) vs) (λ n. walk (by_label l) code n (spot here ws words
        memory)) (length (narrowed sort ++ insns.Named (field_access true near sort) (pool.Field g) ∷ []))
    unfolding effect
    field_put named g near sort k within is_found may_be same has code here stand at ks vs ws locals words store memory
        stores held stacks =
        let i = insns.Named (field_access true near sort) (pool.Field g) in
        let p = put_on l code here words memory may_be (stand_front code here (narrowed sort) (i ∷ []) stand) stacks in
        let there = stand_back code here (narrowed sort) (i ∷ []) stand in
        let next = behind here (narrowed sort) + 1 in
        let go : Value → List Value → NEffect = λ new below. narrow.receiver false words below (λ r rest.
        narrow.thing_of memory.heap r (λ k. narrow.object_in (λ class slots. narrow.put_slot (classes l)
        (slot_of same_member slots g) new (narrow.Go next rest words (narrow.with_thing memory k
        (Object class (slots_with same_member slots g new))))))) in
        last_lands l f pairs ls code here at (narrowed sort) ws (p.new ++ p.below) locals words memory held ks i p.leads
        there.0 _ _
        (ap (λ x. narrow.effect (classes l) (naming x (pool.Field g)) code.max_stack next words memory (p.new
        ++ p.below)) (put_means near sort) ∙ p.taken narrow.Stick go)
        (subst (λ o. Lands l ks at next locals words memory (by_name.field_put by m at locals store o vs) (go p.v
        p.below)) (sym is_found)
        (subst (λ q. Lands l ks at next locals words memory (by_name.field_put by m at locals store (Some (Instance g))
        q) (go p.v p.below)) (sym p.is)
        (on_receiver p.v p.under p.below (subst (λ d. CellFits l memory.heap d p.v) (sym same) p.fits) p.rest)))
      where
        on_receiver : (v : Value) (under below : List Value) → CellFits l memory.heap (field_sort g.desc) v
            → IntStacks memory.heap (Refers within ∷ ks) under below
            → Lands l ks at (behind here (narrowed sort) + 1) locals words memory
            (by_name.field_put by m at locals store (Some (Instance g)) (v ∷ under))
            (narrow.receiver false words below (λ r rest. narrow.thing_of memory.heap r (λ k. narrow.object_in
            (λ class slots. narrow.put_slot (classes l) (slot_of same_member slots g) v
            (narrow.Go (behind here (narrowed sort) + 1) rest words (narrow.with_thing memory k
            (Object class (slots_with same_member slots g v))))))))
        on_receiver v _ _ fits (reference {v = x} {vs = under} {ws = below} a rest) =
            write_at by l m g at (behind here (narrowed sort) + 1) ks v under below locals words store memory fits
            stores rest within x has a

    pub putfield : (named : MemberId) (k : Kind) (within : Shape (List ℕ) → Bool) → IntFieldIsThere by l r m named
        within
        → MayBePutInt l (field_sort named.desc) k
        → IntRow by l f pairs r m b (jop.Field true named) (k ∷ Refers within ∷ []) [] ls ls
    putfield named k within there may_be place code here is at ks vs ws locals words store memory before after stores
        held stacks = field_put named (r.field named) (r.is_near named) (field_sort named.desc) k within there.is_found
        may_be there.type there.has code here is at ks vs ws locals words store memory stores held stacks
