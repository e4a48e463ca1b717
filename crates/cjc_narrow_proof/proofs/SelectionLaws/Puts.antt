-- Static fields are read and written alike, and fields of objects are written alike.
use Rattle.std.proofs.Common.{◌≡◌, ℕ, ◌+◌, refl, sym, ap, subst, ◌∙◌, arith, Bool, true, false, List, [], ◌∷◌, length}
use Rattle.std.proofs.Common.{ℤ, pos, negsuc}
use Rattle.std.specs.Prelude.{Option, Some, None, map, option_and_then, nat_le, nat_lt, slice_get, slice_set, ◌≤ℤ◌}
use Rattle.std.specs.Prelude.{if◌then◌else◌}
use Rattle.std.proofs.lemmas.Bool.Decides.{nat_tests}
use Rattle.std.proofs.lemmas.Int.{ints}
use Rattle.cjc_bytes.specs.declared.fault.MemberId.{MemberId}
use Rattle.cjc_bytes.proofs.Integers.{by_ends_8}
use Rattle.cjc_range.specs.Words.{low_byte}
use Rattle.cjc_range.proofs.WordsLaws.Words.{low_word_same, low_byte_fixed}
use Rattle.cjc_code.specs.declared.insn.JOp.TheVariants as jop
use Rattle.cjc_script.specs.declared.value.Value.{Value}
use Rattle.cjc_script.specs.declared.value.Value.TheVariants.{Num}
use Rattle.cjc_script.specs.declared.report.Thing.{Thing}
use Rattle.cjc_script.specs.declared.report.Thing.TheVariants as things
use Rattle.cjc_script.specs.Sorts.{Shape, Sort, Boolean, Byte, Short, Int, Reference, NoValue, field_sort}
use Rattle.cjc_card_semantics.specs.Bytecode.Meanings.{meaning, Uses, GetsStatic, PutsStatic, Puts}
use Rattle.cjc_card_semantics.specs.Bytecode.Effects.{Slot, HeapObject, Numbers, References, Object, shape, slot_of}
use Rattle.cjc_card_semantics.specs.Bytecode.Effects.{slots_with, words_of, operand, same_kind}
use Rattle.cjc_card_semantics.specs.Bytecode.Effects as narrow
use Rattle.cjc_card_semantics.specs.Bytecode.Renaming.{keys, option_as}
use Rattle.cjc_card_semantics.proofs.BytecodeLaws.Natural.{get_map, keys_same}
use Rattle.cjc_ncode.specs.declared.narrow.NInsn.TheVariants as insns
use Rattle.cjc_ncode.specs.declared.narrow.PoolKey.TheVariants as pool
use Rattle.cjc_ncode.specs.PoolOrder.{same_member}
use Rattle.cjc_ncode.specs.Written.{Resolution, static_by, static_access, field_access}
use Rattle.cjc_ncode.specs.ByLabel.{Named, by_label, classes, naming, put_static, put_cell, shown_slot}
use Rattle.cjc_jvm_semantics.specs.Linked.{Method, Static, Instance, Linked}
use Rattle.cjc_jvm_semantics.specs.Effects.{Store, effect, value_in, values_with, is_same_kind}
use Rattle.cjc_jvm_semantics.specs.Effects as by_name
use Rattle.cjc_narrow_proof.specs.Selection.Relation.{Kind, Refers, Away, Heap, NMemory, Agrees, number, null, object}
use Rattle.cjc_narrow_proof.specs.Selection.Relation.{Stacks, cell, left_out, Locals, CellFits, a_boolean, a_byte}
use Rattle.cjc_narrow_proof.specs.Selection.Relation.{a_short, an_int, a_null, an_object, SlotsFit, no_slots, slot}
use Rattle.cjc_narrow_proof.specs.Selection.Relation.{ThingFits, of_class, shown, IsMadeOf, Stores, HasObjects}
use Rattle.cjc_narrow_proof.specs.Selection.Rows.{NEffect, Same, goes, raises, RowAgrees, HasField, is_word_sort}
use Rattle.cjc_narrow_proof.specs.Selection.Rows.{kind_of, lists, FieldIsThere}
use Rattle.cjc_narrow_proof.specs.Selection.Objects.{class_of}
use Rattle.cjc_narrow_proof.specs.Selection.Cells.{MayBePut, CellIsThere}
use Rattle.cjc_narrow_proof.specs.Selection.Cells as may
use Rattle.cjc_narrow_proof.proofs.SelectionLaws.Plain.{RowIs, as_written}
use Rattle.cjc_narrow_proof.proofs.SelectionLaws.Divides.{same_word}
use Rattle.cjc_narrow_proof.proofs.SelectionLaws.Gets.{heights}
use Rattle.cjc_narrow_proof.proofs.SelectionLaws.Fields.{fields_same, desc_told, value_shown, found, cell_agrees}
use Rattle.cjc_narrow_proof.proofs.SelectionLaws.Fields.{letter_of, words_here}
use Rattle.cjc_narrow_proof.proofs.SelectionLaws.Keeps.{made_there, stacks_kept, locals_kept, set_keeps, set_stores}

-- ---- what is put

pub byte_same : (z : ℤ) → negsuc 127 ≤ℤ z → z ≤ℤ pos 127 → low_byte z ≡ z
byte_same z a b = low_byte_fixed z (by_ends_8 z a b)

-- a cell that may be put is the same value on both sides, fits, and is taken as it is
pub record IsPut (l : Named) (heap : Heap) (sort : Sort) (v w : Value) : Type 0 where
  pub same : w ≡ v
  pub fits : CellFits l heap sort v
  pub taken : (stuck : NEffect) (ws : List Value) (go : Value → List Value → NEffect)
      → operand (letter_of sort) stuck (v ∷ ws) go ≡ go v ws

put_held : (l : Named) (heap : Heap) {sort : Sort} {k : Kind} {v w : Value} → MayBePut l sort k → Agrees heap k v w
    → IsPut l heap sort v w
put_held l heap (may.a_boolean {s = s} inside) (number {x = x} e h) =
    let a = h.above in let b = h.below in let c = inside.low in let d = inside.high in
    record {
      same = ap Num (same_word s x (record { low = omega (arith, ints); high = omega (arith, ints) }) h e);
      fits = a_boolean (record { above = omega (arith, ints); below = omega (arith, ints) });
      taken = λ stuck ws go. ap (λ z. go (Num z) ws) (byte_same x (omega (arith, ints)) (omega (arith, ints)));
    }
put_held l heap (may.a_byte {s = s} inside) (number {x = x} e h) =
    let a = h.above in let b = h.below in let c = inside.low in let d = inside.high in
    record {
      same = ap Num (same_word s x (record { low = omega (arith, ints); high = omega (arith, ints) }) h e);
      fits = a_byte (record { above = omega (arith, ints); below = omega (arith, ints) });
      taken = λ stuck ws go. ap (λ z. go (Num z) ws) (byte_same x (omega (arith, ints)) (omega (arith, ints)));
    }
put_held l heap (may.a_short {s = s} inside) (number {x = x} e h) =
    let a = h.above in let b = h.below in let c = inside.low in let d = inside.high in
    record {
      same = ap Num (same_word s x inside h e);
      fits = a_short (record { above = omega (arith, ints); below = omega (arith, ints) });
      taken = λ stuck ws go. ap (λ z. go (Num z) ws) (low_word_same x (omega (arith, ints)) (omega (arith, ints)));
    }
put_held l heap (may.a_reference tells) null = record { same = refl; fits = a_null; taken = λ stuck ws go. refl }
put_held l heap (may.a_reference tells) (object thing is e) = record {
  same = refl;
  fits = an_object thing is (tells (shape thing) e);
  taken = λ stuck ws go. refl;
}

-- a cell that the narrow stack leaves out is put nowhere
never_away : (l : Named) (sort : Sort) (k : Kind) → MayBePut l sort (Away k) → ⊥
never_away l sort k h = elim h [ ]

-- what is held and what is put are of one kind on both sides
same_kinds : (l : Named) (heap : Heap) {sort : Sort} {old new : Value} → CellFits l heap sort old
    → CellFits l heap sort new → (is_same_kind old new ≡ true) × (same_kind old new ≡ true)
same_kinds l heap (a_boolean a) (a_boolean b) = (refl, refl)
same_kinds l heap (a_byte a) (a_byte b) = (refl, refl)
same_kinds l heap (a_short a) (a_short b) = (refl, refl)
same_kinds l heap (an_int a) (an_int b) = (refl, refl)
same_kinds l heap a_null a_null = (refl, refl)
same_kinds l heap a_null (an_object thing is e) = (refl, refl)
same_kinds l heap (an_object thing is e) a_null = (refl, refl)
same_kinds l heap (an_object thing is e) (an_object thing' is' e') = (refl, refl)

-- the fields with another value, as a report shows them
values_shown : (slots : List (Slot MemberId)) (f : MemberId) (v : Value) → values_with (map shown_slot slots) f v
    ≡ map shown_slot (slots_with same_member slots f v)
values_shown [] f v = refl
values_shown (s ∷ slots) f v = ap (λ t. if t then shown_slot (record s { value = v }) ∷ map shown_slot slots
    else shown_slot s ∷ values_with (map shown_slot slots) f v) (fields_same s.key f)
    ∙ by (same_member s.key f) (values_shown slots f v)
  where
    by : (t : Bool) → values_with (map shown_slot slots) f v ≡ map shown_slot (slots_with same_member slots f v)
        → (if t then shown_slot (record s { value = v }) ∷ map shown_slot slots else shown_slot s
        ∷ values_with (map shown_slot slots) f v) ≡ map shown_slot (if t then record s { value = v } ∷ slots
        else s ∷ slots_with same_member slots f v)
    by true e = refl
    by false e = ap (λ vs. shown_slot s ∷ vs) e

-- they fit still
slots_put : (l : Named) (heap : Heap) {slots : List (Slot MemberId)} (f : MemberId) (v : Value) → SlotsFit l heap slots
    → CellFits l heap (field_sort f.desc) v → SlotsFit l heap (slots_with same_member slots f v)
slots_put l heap f v no_slots h = no_slots
slots_put l heap f v (slot {s = s} {slots = slots} old rest) h = by (slots_put l heap f v rest h) (same_member s.key f)
    refl
  where
    by : SlotsFit l heap (slots_with same_member slots f v) → (t : Bool) → same_member s.key f ≡ t
        → SlotsFit l heap (if t then record s { value = v } ∷ slots else s ∷ slots_with same_member slots f v)
    by more true e = slot (subst (λ d. CellFits l heap (field_sort d) v) (sym (desc_told s.key f e)) h) rest
    by more false e = slot old more

-- ---- static fields

get_static_means : (sort : Sort) → meaning (static_access false sort) ≡ Uses (GetsStatic (letter_of sort))
unfolding meaning
get_static_means Boolean = refl
get_static_means Byte = refl
get_static_means Short = refl
get_static_means Int = refl
get_static_means (Reference kind) = refl
get_static_means NoValue = refl

put_static_means : (sort : Sort) → meaning (static_access true sort) ≡ Uses (PutsStatic (letter_of sort))
unfolding meaning
put_static_means Boolean = refl
put_static_means Byte = refl
put_static_means Short = refl
put_static_means Int = refl
put_static_means (Reference kind) = refl
put_static_means NoValue = refl

get_static_is : (by : Linked) (l : Named) (m : Method) (named f : MemberId) → by.field (class_of m) named
    ≡ Some (Static f) → is_word_sort (field_sort f.desc) ≡ true → lists (keys (let n = l.memory in n.statics)) f ≡ true
    → RowIs by l m (jop.Static false named) (insns.Named (static_access false (field_sort f.desc)) (pool.StaticField f))
    [] (kind_of l (field_sort f.desc) ∷ [])
unfolding effect
get_static_is by l m named f is one has room at next ks ls vs ws locals words store memory roomy stores held rest =
    let Meets = Same l (kind_of l (field_sort f.desc) ∷ ks) ls (at + 1) next in
    let h = heights rest in let e = h.by_name in let g = h.narrow in let high = roomy.by_name in let high' =
    roomy.narrow in
    let r = found l memory.heap f stores.statics_fit (ap (λ fs. lists fs f) stores.cells ∙ has) in
    let push : Value → by_name.Effect = λ v. by_name.push by m at locals store v vs in
    let onto : List Value → NEffect = λ new. narrow.onward new room next words memory ws in
    let narrow_value : Value → NEffect = λ v. words_of (letter_of (field_sort f.desc)) v narrow.Stick onto in
    let left : nat_lt (length vs) m.max_stack ≡ true = grind (arith, nat_tests) in
    let right : nat_le (length (r.value ∷ ws)) room ≡ true = grind (arith, nat_tests) in
    subst (λ o. Meets (by_name.static_get by m at locals store o vs) (narrow.effect (classes l)
    (naming (meaning (static_access false (field_sort f.desc))) (pool.StaticField f)) room next words memory ws))
    (sym is)
    (subst (λ x. Meets (by_name.static_get by m at locals store (Some (Static f)) vs) (narrow.effect (classes l)
    (naming x (pool.StaticField f)) room next words memory ws)) (sym (get_static_means (field_sort f.desc)))
    (subst (λ o. Meets (by_name.with_some o push) (narrow.with_some narrow.Stick (slot_of same_member memory.statics f)
    narrow_value)) (sym (ap (λ s. value_in s f) stores.statics ∙ value_shown memory.statics f ∙ r.is))
    (subst (λ o. Meets (push r.value) (narrow.with_some narrow.Stick o narrow_value)) (sym r.is)
    (subst (Meets (push r.value)) (sym (words_here l memory.heap narrow.Stick onto r.fits one))
    (subst (λ b. Meets (by_name.only_if b (by_name.onward by m at locals store (r.value ∷ vs))) (onto (r.value ∷ [])))
    (sym left)
    (subst (λ b. Meets (by_name.onward by m at locals store (r.value ∷ vs)) (if b
    then narrow.Go next (r.value ∷ ws) words memory else narrow.Stick)) (sym right)
    (goes (cell (cell_agrees l memory.heap r.fits one) rest) held stores)))))))

pub getstatic : (by : Linked) (l : Named) (r : Resolution) (m : Method) (named : MemberId) → CellIsThere by l r m named
    → RowAgrees by l r m (jop.Static false named) [] (kind_of l (field_sort named.desc) ∷ [])
getstatic by l r m named there =
    let f = r.field named in
    let row = get_static_is by l m named f there.is_found (ap is_word_sort there.type ∙ there.one_word) there.has in
    as_written by l r m (jop.Static false named) (insns.Named (static_access false (field_sort named.desc))
    (pool.StaticField f)) [] (kind_of l (field_sort named.desc) ∷ []) (λ place. ap (static_by r false named)
    there.is_no_constant)
    (subst (λ sort. RowIs by l m (jop.Static false named) (insns.Named (static_access false sort) (pool.StaticField f))
    [] (kind_of l sort ∷ [])) there.type row)

put_static_is : (by : Linked) (l : Named) (m : Method) (named f : MemberId) (k : Kind) → by.field (class_of m) named
    ≡ Some (Static f) → MayBePut l (field_sort f.desc) k → lists (keys (let n = l.memory in n.statics)) f ≡ true
    → RowIs by l m (jop.Static true named) (insns.Named (static_access true (field_sort f.desc)) (pool.StaticField f))
    (k ∷ []) []
unfolding effect
put_static_is by l m named f _ is may_be has room at next ks ls _ _ locals words store memory roomy stores held
    (left_out a rest) = absurd (never_away l (field_sort f.desc) _ may_be)
put_static_is by l m named f k is may_be has room at next ks ls _ _ locals words store memory roomy stores held
    (cell {v = v} {w = w} {vs = vs} {ws = ws} agree rest) =
    let Meets = Same l ks ls (at + 1) next in
    let p = put_held l memory.heap may_be agree in
    let r = found l memory.heap f stores.statics_fit (ap (λ fs. lists fs f) stores.cells ∙ has) in
    let kinds = same_kinds l memory.heap r.fits p.fits in
    let named_side = by_name.with_statics by m at locals store (values_with store.statics f v) vs in
    let named_value : Value → by_name.Effect = λ old. by_name.only_if (is_same_kind old v) named_side in
    let after : List (Slot MemberId) → NEffect = λ x. narrow.Go next ws words (record memory { statics = x }) in
    let put : Value → List Value → NEffect = λ new below. narrow.with_some narrow.Stick (put_static memory.statics f
    new) (λ x. narrow.Go next below words (record memory { statics = x })) in
    let narrow_stored = slots_with same_member memory.statics f v in
    subst (λ o. Meets (by_name.static_put by m at locals store o (v ∷ vs)) (narrow.effect (classes l)
    (naming (meaning (static_access true (field_sort f.desc))) (pool.StaticField f)) room next words memory (w
    ∷ ws))) (sym is)
    (subst (λ x. Meets (by_name.static_put by m at locals store (Some (Static f)) (v ∷ vs)) (narrow.effect (classes l)
    (naming x (pool.StaticField f)) room next words memory (w ∷ ws))) (sym (put_static_means (field_sort f.desc)))
    (subst (λ x. Meets (by_name.static_put by m at locals store (Some (Static f)) (v ∷ vs))
    (operand (letter_of (field_sort f.desc)) narrow.Stick (x ∷ ws) put)) (sym p.same)
    (subst (Meets (by_name.static_put by m at locals store (Some (Static f)) (v ∷ vs)))
    (sym (p.taken narrow.Stick ws put))
    (subst (λ o. Meets (by_name.with_some o named_value) (put v ws)) (sym (ap (λ s. value_in s f) stores.statics
    ∙ value_shown memory.statics f ∙ r.is))
    (subst (λ b. Meets (by_name.only_if b named_side) (put v ws)) (sym kinds.0)
    (subst (λ o. Meets named_side (narrow.with_some narrow.Stick (option_and_then (put_cell memory.statics f v) o)
    after)) (sym r.is)
    (subst (λ b. Meets named_side (narrow.with_some narrow.Stick (if b then Some narrow_stored else None) after))
    (sym kinds.1)
    (goes rest held (record {
      heap = stores.heap;
      statics = ap (λ s. values_with s f v) stores.statics ∙ values_shown memory.statics f v;
      heap_fits = stores.heap_fits;
      statics_fit = slots_put l memory.heap f v stores.statics_fit p.fits;
      cells = keys_same same_member memory.statics f v ∙ stores.cells;
    })))))))))

pub putstatic : (by : Linked) (l : Named) (r : Resolution) (m : Method) (named : MemberId) (k : Kind)
    → CellIsThere by l r m named → MayBePut l (field_sort named.desc) k → RowAgrees by l r m (jop.Static true named) (k
    ∷ []) []
putstatic by l r m named k there may_be =
    let f = r.field named in
    let row = put_static_is by l m named f k there.is_found (subst (λ sort. MayBePut l sort k) (sym there.type) may_be)
    there.has in
    as_written by l r m (jop.Static true named) (insns.Named (static_access true (field_sort named.desc))
    (pool.StaticField f)) (k ∷ []) [] (λ place. ap (static_by r true named) there.is_no_constant)
    (subst (λ sort. RowIs by l m (jop.Static true named) (insns.Named (static_access true sort) (pool.StaticField f)) (k
    ∷ []) []) there.type row)

-- ---- fields of objects

pub put_means : (near : Bool) (sort : Sort) → meaning (field_access true near sort) ≡ Uses (Puts false (letter_of sort))
unfolding meaning
put_means true Boolean = refl
put_means true Byte = refl
put_means true Short = refl
put_means true Int = refl
put_means true (Reference kind) = refl
put_means true NoValue = refl
put_means false Boolean = refl
put_means false Byte = refl
put_means false Short = refl
put_means false Int = refl
put_means false (Reference kind) = refl
put_means false NoValue = refl

module _ (by : Linked) (l : Named) (m : Method) (f : MemberId) (at next : ℕ) (ks ls : List Kind) (v : Value)
    (vs ws : List Value) (locals words : List (Option Value)) (store : Store) (memory : NMemory)
    (fits : CellFits l memory.heap (field_sort f.desc) v) (stores : Stores l store memory) (held : Locals memory.heap ls
    locals words) (rest : Stacks memory.heap ks vs ws) where
  abbrev Writes : by_name.Effect → NEffect → Type 0
  Writes = Same l ks ls (at + 1) next

  abbrev by_thing : ℕ → Thing → by_name.Effect
  by_thing k thing = by_name.object_in thing (λ class fields. by_name.with_some (value_in fields f)
      (λ old. by_name.only_if (is_same_kind old v) (by_name.with_heap by m at locals store (slice_set store.heap k
      (things.Object class (values_with fields f v))) vs)))

  abbrev narrow_thing : ℕ → HeapObject (List ℕ) MemberId → NEffect
  narrow_thing k = narrow.object_in (λ class slots. narrow.put_slot (classes l) (slot_of same_member slots f) v
      (narrow.Go next ws words (narrow.with_thing memory k (Object class (slots_with same_member slots f v)))))

  -- of an object of a class that has the field
  write_of : (k : ℕ) (thing : HeapObject (List ℕ) MemberId) → slice_get memory.heap k ≡ Some thing
      → HasField l f (shape thing) → ThingFits l memory.heap thing
      → Writes (by_thing k (shown l thing)) (narrow_thing k thing)
  unfolding by_label
  write_of k (Numbers element items) there has h = let e = has.is_class in cc
  write_of k (References class items) there has h = let e = has.is_class in cc
  write_of k (Object class slots) there has (of_class is fit) =
      let same : has.class ≡ class = (let e = has.is_class in cc) in
      let r = found l memory.heap f fit (has.has (keys slots) (subst (λ c. HasObjects l c (keys slots)) (sym same) is))
      in
      let kinds = same_kinds l memory.heap r.fits fits in
      let new : HeapObject (List ℕ) MemberId = Object class (slots_with same_member slots f v) in
      let named_side = by_name.with_heap by m at locals store (slice_set store.heap k
      (things.Object class (values_with (map shown_slot slots) f v))) vs in
      let narrow_side = narrow.Go next ws words (narrow.with_thing memory k new) in
      let keeps = set_keeps memory.heap k (Object class slots) new there refl in
      let new_fits : ThingFits l memory.heap new =
      of_class (subst (HasObjects l class) (sym (keys_same same_member slots f v)) is) (slots_put l memory.heap f v
      fit fits) in
      subst (λ o. Writes (by_name.with_some o (λ old. by_name.only_if (is_same_kind old v) named_side))
      (narrow.put_slot (classes l) (slot_of same_member slots f) v narrow_side)) (sym (value_shown slots f ∙ r.is))
      (subst (λ b. Writes (by_name.only_if b named_side) (narrow.put_slot (classes l) (slot_of same_member slots f) v
      narrow_side)) (sym kinds.0)
      (subst (λ o. Writes named_side (narrow.put_slot (classes l) o v narrow_side)) (sym r.is)
      (subst (λ b. Writes named_side (if b then narrow_side else narrow.Stick)) (sym kinds.1)
      (subst (λ fs. Writes (by_name.with_heap by m at locals store (slice_set store.heap k (things.Object class fs)) vs)
      narrow_side) (sym (values_shown slots f v))
      (goes (stacks_kept keeps rest) (locals_kept keeps held) (set_stores l store memory k (Object class slots) new
      there refl stores new_fits))))))

  -- of the object of a reference; null raises
  pub write_at : (within : Shape (List ℕ) → Bool) (x y : Value) → ((kind : Shape (List ℕ)) → within kind ≡ true
      → IsMadeOf l kind → HasField l f kind) → Agrees memory.heap (Refers within) x y
      → Writes (by_name.thing_at store.heap x by_thing) (narrow.thing_of memory.heap y narrow_thing)
  write_at within _ _ has null = raises {fault = by_name.NullPointer}
  write_at within _ _ has (object {k = k} thing is passes) =
      subst (λ o. Writes (by_name.with_some o (by_thing k)) (narrow.with_some narrow.Stick (slice_get memory.heap k)
      (narrow_thing k))) (sym (ap (λ heap. slice_get heap k) stores.heap ∙ get_map (shown l) memory.heap k
      ∙ ap (option_as (shown l)) is))
      (subst (λ o. Writes (by_thing k (shown l thing)) (narrow.with_some narrow.Stick o (narrow_thing k))) (sym is)
      (write_of k thing is (has (shape thing) passes (made_there l thing (stores.heap_fits k thing is)))
      (stores.heap_fits k thing is)))

put_is : (by : Linked) (l : Named) (m : Method) (named f : MemberId) (near : Bool) (k : Kind) (within : Shape (List ℕ)
    → Bool) → by.field (class_of m) named ≡ Some (Instance f) → MayBePut l (field_sort f.desc) k
    → ((kind : Shape (List ℕ)) → within kind ≡ true → IsMadeOf l kind → HasField l f kind)
    → RowIs by l m (jop.Field true named) (insns.Named (field_access true near (field_sort f.desc)) (pool.Field f)) (k
    ∷ Refers within ∷ []) []
unfolding effect
put_is by l m named f near _ within is may_be has room at next ks ls _ _ locals words store memory roomy stores held
    (left_out a rest) = absurd (never_away l (field_sort f.desc) _ may_be)
put_is by l m named f near k within is may_be has room at next ks ls _ _ locals words store memory roomy stores held
    (cell {v = v} {w = w} agree (cell {v = x} {w = y} {vs = vs} {ws = ws} receiver rest)) =
    let Meets = Same l ks ls (at + 1) next in
    let p = put_held l memory.heap may_be agree in
    let put : Value → List Value → NEffect = λ new below. narrow.receiver false words below (λ r rest. narrow.thing_of
    memory.heap r (λ k. narrow.object_in (λ class slots. narrow.put_slot (classes l) (slot_of same_member slots f)
    new (narrow.Go next rest words (narrow.with_thing memory k (Object class (slots_with same_member slots f
    new))))))) in
    subst (λ o. Meets (by_name.field_put by m at locals store o (v ∷ x ∷ vs)) (narrow.effect (classes l)
    (naming (meaning (field_access true near (field_sort f.desc))) (pool.Field f)) room next words memory (w ∷ y
    ∷ ws))) (sym is)
    (subst (λ o. Meets (by_name.field_put by m at locals store (Some (Instance f)) (v ∷ x ∷ vs))
    (narrow.effect (classes l) (naming o (pool.Field f)) room next words memory (w ∷ y ∷ ws)))
    (sym (put_means near (field_sort f.desc)))
    (subst (λ z. Meets (by_name.field_put by m at locals store (Some (Instance f)) (v ∷ x ∷ vs))
    (operand (letter_of (field_sort f.desc)) narrow.Stick (z ∷ y ∷ ws) put)) (sym p.same)
    (subst (Meets (by_name.field_put by m at locals store (Some (Instance f)) (v ∷ x ∷ vs)))
    (sym (p.taken narrow.Stick (y ∷ ws) put))
    (write_at by l m f at next ks ls v vs ws locals words store memory p.fits stores held rest within x y has
    receiver))))

-- what is written names the field as it is found, and has the opcode of the type that the code names
pub putfield : (by : Linked) (l : Named) (r : Resolution) (m : Method) (named : MemberId) (k : Kind)
    (within : Shape (List ℕ) → Bool) → FieldIsThere by l r m named within → MayBePut l (field_sort named.desc) k
    → RowAgrees by l r m (jop.Field true named) (k ∷ Refers within ∷ []) []
putfield by l r m named k within there may_be =
    let f = r.field named in
    let row = put_is by l m named f (r.is_near named) k within there.is_found (subst (λ sort. MayBePut l sort k)
    (sym there.type) may_be) there.has in
    as_written by l r m (jop.Field true named) (insns.Named (field_access true (r.is_near named)
    (field_sort named.desc)) (pool.Field f)) (k ∷ Refers within ∷ []) [] (λ place. refl)
    (subst (λ sort. RowIs by l m (jop.Field true named) (insns.Named (field_access true (r.is_near named) sort)
    (pool.Field f)) (k ∷ Refers within ∷ []) []) there.type row)
