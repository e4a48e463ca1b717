-- getfield does the same on both sides.
use Rattle.std.proofs.Common.{◌≡◌, ℕ, ◌+◌, ◌≤◌, refl, sym, ap, subst, ◌∙◌, arith, Bool, true, false, List, [], ◌∷◌}
use Rattle.std.proofs.Common.{length}
use Rattle.std.specs.Prelude.{Option, Some, map, nat_le, slice_get, if◌then◌else◌}
use Rattle.std.proofs.lemmas.Bool.Decides.{nat_tests}
use Rattle.cjc_bytes.specs.declared.fault.MemberId.{MemberId}
use Rattle.cjc_code.specs.declared.insn.JOp.TheVariants as jop
use Rattle.cjc_script.specs.declared.value.Value.{Value}
use Rattle.cjc_script.specs.declared.report.Thing.{Thing}
use Rattle.cjc_script.specs.Sorts.{Shape, field_sort}
use Rattle.cjc_card_semantics.specs.Bytecode.Effects.{Slot, HeapObject, Numbers, References, Object, shape, slot_of}
use Rattle.cjc_card_semantics.specs.Bytecode.Effects.{words_of}
use Rattle.cjc_card_semantics.specs.Bytecode.Effects as narrow
use Rattle.cjc_card_semantics.specs.Bytecode.Meanings.{meaning}
use Rattle.cjc_card_semantics.specs.Bytecode.Renaming.{option_as, keys}
use Rattle.cjc_card_semantics.proofs.BytecodeLaws.Natural.{get_map}
use Rattle.cjc_ncode.specs.declared.narrow.NInsn.TheVariants as insns
use Rattle.cjc_ncode.specs.declared.narrow.PoolKey.TheVariants as pool
use Rattle.cjc_ncode.specs.PoolOrder.{same_member}
use Rattle.cjc_ncode.specs.Written.{Resolution, field_access}
use Rattle.cjc_ncode.specs.ByLabel.{Named, by_label, classes, naming, shown_slot}
use Rattle.cjc_jvm_semantics.specs.Linked.{Method, Instance, Linked}
use Rattle.cjc_jvm_semantics.specs.Effects.{Store, value_in, effect}
use Rattle.cjc_jvm_semantics.specs.Effects as by_name
use Rattle.cjc_narrow_proof.specs.Selection.Relation.{Kind, Refers, Heap, NMemory, Agrees, null, object, Stacks, bottom}
use Rattle.cjc_narrow_proof.specs.Selection.Relation.{cell, left_out, Locals, ThingFits, of_class, shown, IsMadeOf}
use Rattle.cjc_narrow_proof.specs.Selection.Relation.{Stores, HasObjects}
use Rattle.cjc_narrow_proof.specs.Selection.Rows.{HasRoom, NEffect, Same, goes, raises, RowAgrees, HasField}
use Rattle.cjc_narrow_proof.specs.Selection.Rows.{is_word_sort, kind_of, FieldIsThere}
use Rattle.cjc_narrow_proof.proofs.SelectionLaws.Keeps.{made_there}
use Rattle.cjc_narrow_proof.proofs.SelectionLaws.Plain.{RowIs, as_written}
use Rattle.cjc_narrow_proof.proofs.SelectionLaws.Fields.{value_shown, Found, found, cell_agrees, letter_of, get_means}
use Rattle.cjc_narrow_proof.proofs.SelectionLaws.Fields.{words_here}

-- ---- heights

pub record Heights (ks : List Kind) (vs ws : List Value) : Type 0 where
  pub by_name : length vs ≡ length ks
  pub narrow : length ws ≤ length ks

pub heights : {heap : Heap} {ks : List Kind} {vs ws : List Value} → Stacks heap ks vs ws → Heights ks vs ws
heights bottom = record { by_name = refl; narrow = omega arith }
heights (cell a rest) = let h = heights rest in let e = h.by_name in let f = h.narrow in record {
  by_name = omega arith;
  narrow = omega arith;
}
heights (left_out a rest) = let h = heights rest in let e = h.by_name in let f = h.narrow
    in record { by_name = omega arith; narrow = omega arith }

-- ---- a field of an object

module _ (by : Linked) (l : Named) (m : Method) (f : MemberId) (room at next : ℕ) (ks ls : List Kind)
    (vs ws : List Value) (locals words : List (Option Value)) (store : Store) (memory : NMemory)
    (one : is_word_sort (field_sort f.desc) ≡ true) (roomy : HasRoom (kind_of l (field_sort f.desc) ∷ ks) m.max_stack
    room) (stores : Stores l store memory) (held : Locals memory.heap ls locals words) (rest : Stacks memory.heap ks
    vs ws) where
  abbrev Reads : by_name.Effect → NEffect → Type 0
  Reads = Same l (kind_of l (field_sort f.desc) ∷ ks) ls (at + 1) next

  abbrev by_value : Value → by_name.Effect
  by_value v = by_name.onward by m at locals store (v ∷ vs)

  abbrev by_thing : Thing → by_name.Effect
  by_thing thing = by_name.object_in thing (λ class fields. by_name.with_some (value_in fields f) by_value)

  abbrev onto : List Value → NEffect
  onto new = narrow.onward new room next words memory ws

  abbrev narrow_value : Value → NEffect
  narrow_value v = words_of (letter_of (field_sort f.desc)) v narrow.Stick onto

  abbrev narrow_thing : HeapObject (List ℕ) MemberId → NEffect
  narrow_thing = narrow.object_in (λ class slots. narrow.with_some narrow.Stick (slot_of same_member slots f)
      narrow_value)

  -- what is held is pushed
  pushed : (slots : List (Slot MemberId)) (r : Found l memory.heap slots f)
      → Reads (by_name.with_some (value_in (map shown_slot slots) f) by_value) (narrow.with_some narrow.Stick
      (slot_of same_member slots f) narrow_value)
  pushed slots r =
      let h = heights rest in let e = h.by_name in let g = h.narrow in let high = roomy.narrow in
      let fits : nat_le (length (r.value ∷ ws)) room ≡ true = grind (arith, nat_tests) in
      subst (λ o. Reads (by_name.with_some o by_value) (narrow.with_some narrow.Stick (slot_of same_member slots f)
      narrow_value)) (sym (value_shown slots f ∙ r.is))
      (subst (λ o. Reads (by_value r.value) (narrow.with_some narrow.Stick o narrow_value)) (sym r.is)
      (subst (Reads (by_value r.value)) (sym (words_here l memory.heap narrow.Stick onto r.fits one))
      (subst (λ t. Reads (by_value r.value) (if t then narrow.Go next (r.value ∷ ws) words memory else narrow.Stick))
      (sym fits)
      (goes (cell (cell_agrees l memory.heap r.fits one) rest) held stores))))

  -- of an object of a class that has the field
  read_of : (thing : HeapObject (List ℕ) MemberId) → HasField l f (shape thing) → ThingFits l memory.heap thing
      → Reads (by_thing (shown l thing)) (narrow_thing thing)
  unfolding by_label
  read_of (Numbers element items) has fits = let e = has.is_class in cc
  read_of (References class items) has fits = let e = has.is_class in cc
  read_of (Object class slots) has (of_class is fit) =
      let same : has.class ≡ class = (let e = has.is_class in cc) in
      pushed slots (found l memory.heap f fit (has.has (keys slots) (subst (λ c. HasObjects l c (keys slots)) (sym same)
      is)))

  -- of the object of a reference; null raises
  pub read_at : (within : Shape (List ℕ) → Bool) (v w : Value) → ((kind : Shape (List ℕ)) → within kind ≡ true
      → IsMadeOf l kind → HasField l f kind) → Agrees memory.heap (Refers within) v w
      → Reads (by_name.thing_at store.heap v (λ k. by_thing)) (narrow.thing_of memory.heap w (λ k. narrow_thing))
  read_at within _ _ has null = raises
  read_at within _ _ has (object {k = k} thing is passes) =
      subst (λ o. Reads (by_name.with_some o by_thing) (narrow.with_some narrow.Stick (slice_get memory.heap k)
      narrow_thing)) (sym (ap (λ heap. slice_get heap k) stores.heap ∙ get_map (shown l) memory.heap k
      ∙ ap (option_as (shown l)) is))
      (subst (λ o. Reads (by_thing (shown l thing)) (narrow.with_some narrow.Stick o narrow_thing)) (sym is)
      (read_of thing (has (shape thing) passes (made_there l thing (stores.heap_fits k thing is)))
      (stores.heap_fits k thing is)))

-- ---- the row

get_is : (by : Linked) (l : Named) (m : Method) (named f : MemberId) (near : Bool) (within : Shape (List ℕ) → Bool)
    → by.field (let id = m.id in id.class) named ≡ Some (Instance f) → is_word_sort (field_sort f.desc) ≡ true
    → ((kind : Shape (List ℕ)) → within kind ≡ true → IsMadeOf l kind → HasField l f kind)
    → RowIs by l m (jop.Field false named) (insns.Named (field_access false near (field_sort f.desc)) (pool.Field f))
    (Refers within ∷ []) (kind_of l (field_sort f.desc) ∷ [])
unfolding effect
get_is by l m named f near within is one has room at next ks ls _ _ locals words store memory roomy stores held
    (cell {v = v} {w = w} {vs = vs} {ws = ws} agree rest) =
    subst (λ o. Same l (kind_of l (field_sort f.desc) ∷ ks) ls (at + 1) next (by_name.field_get by m at locals store o
    (v ∷ vs)) (narrow.effect (classes l) (naming (meaning (field_access false near (field_sort f.desc)))
    (pool.Field f)) room next words memory (w ∷ ws))) (sym is)
    (subst (λ x. Same l (kind_of l (field_sort f.desc) ∷ ks) ls (at + 1) next (by_name.field_get by m at locals store
    (Some (Instance f)) (v ∷ vs)) (narrow.effect (classes l) (naming x (pool.Field f)) room next words memory (w
    ∷ ws))) (sym (get_means near (field_sort f.desc)))
    (read_at by l m f room at next ks ls vs ws locals words store memory one roomy stores held rest within v w has
    agree))

-- what is written names the field as it is found, and has the opcode of the type that the code names
pub getfield : (by : Linked) (l : Named) (r : Resolution) (m : Method) (named : MemberId) (within : Shape (List ℕ)
    → Bool) → FieldIsThere by l r m named within → RowAgrees by l r m (jop.Field false named) (Refers within
    ∷ []) (kind_of l (field_sort named.desc) ∷ [])
getfield by l r m named within there =
    let f = r.field named in
    let row = get_is by l m named f (r.is_near named) within there.is_found (ap is_word_sort there.type
    ∙ there.one_word) there.has in
    as_written by l r m (jop.Field false named) (insns.Named (field_access false (r.is_near named)
    (field_sort named.desc)) (pool.Field f)) (Refers within ∷ []) (kind_of l (field_sort named.desc)
    ∷ []) (λ place. refl)
    (subst (λ sort. RowIs by l m (jop.Field false named) (insns.Named (field_access false (r.is_near named) sort)
    (pool.Field f)) (Refers within ∷ []) (kind_of l sort ∷ [])) there.type row)
