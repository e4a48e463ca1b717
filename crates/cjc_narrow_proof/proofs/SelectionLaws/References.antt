-- Instructions on references: athrow and arraylength.
use Rattle.std.proofs.Common.{◌≡◌, ℕ, ◌+◌, ◌≤◌, refl, sym, ap, subst, ◌∙◌, arith, Bool, List, [], ◌∷◌, length, pos}
use Rattle.std.specs.Prelude.{Option, slice_get}
use Rattle.std.proofs.lemmas.Int.{ints}
use Rattle.cjc_bytes.specs.declared.fault.MemberId.{MemberId}
use Rattle.cjc_bytes.proofs.Lists.{length_mapped}
use Rattle.cjc_range.specs.Words.{low_word}
use Rattle.cjc_range.specs.Span.{span}
use Rattle.cjc_code.specs.declared.insn.JOp.TheVariants as jop
use Rattle.cjc_script.specs.declared.value.Value.{Value}
use Rattle.cjc_script.specs.declared.value.Value.TheVariants.{Num}
use Rattle.cjc_script.specs.declared.report.Thing.{Thing}
use Rattle.cjc_script.specs.Sorts.{Shape, OfClass}
use Rattle.cjc_card_semantics.specs.Bytecode.Meanings.{meaning}
use Rattle.cjc_card_semantics.specs.Bytecode.Effects.{HeapObject, Numbers, References, Object, shape}
use Rattle.cjc_card_semantics.specs.Bytecode.Effects as narrow
use Rattle.cjc_ncode.specs.declared.narrow.NInsn.TheVariants as insns
use Rattle.cjc_ncode.specs.Written.{Resolution}
use Rattle.cjc_ncode.specs.ByLabel.{Named, by_label}
use Rattle.cjc_jvm_semantics.specs.Linked.{Method, Linked}
use Rattle.cjc_jvm_semantics.specs.Effects.{Store, effect}
use Rattle.cjc_jvm_semantics.specs.Effects as by_name
use Rattle.cjc_narrow_proof.specs.Selection.Relation.{Kind, Range, Refers, NMemory, Agrees, number, null, object}
use Rattle.cjc_narrow_proof.specs.Selection.Relation.{Stacks, cell, Locals, ThingFits, numbers, references, shown}
use Rattle.cjc_narrow_proof.specs.Selection.Relation.{IsMadeOf, Stores}
use Rattle.cjc_narrow_proof.specs.Selection.Elements.{AreArrays}
use Rattle.cjc_narrow_proof.proofs.SelectionLaws.Keeps.{made_there}
use Rattle.cjc_narrow_proof.specs.Selection.Rows.{NEffect, Same, RowAgrees, goes, raises, tosses}
use Rattle.cjc_narrow_proof.proofs.SelectionLaws.Plain.{RowIs, as_written}
use Rattle.cjc_narrow_proof.proofs.SelectionLaws.Begins.{thing_shown}

module _ (by : Linked) (l : Named) (r : Resolution) (m : Method) (within : Shape (List ℕ) → Bool) where
  throw_is : RowIs by l m jop.Throw (insns.Op 0x93) (Refers within ∷ []) []
  unfolding effect meaning
  throw_is room at next ks ls _ _ locals words store memory roomy stores held (cell null rest) =
      raises {fault = by_name.NullPointer}
  throw_is room at next ks ls _ _ locals words store memory roomy stores held (cell (object thing is e) rest) = tosses

  pub athrow : RowAgrees by l r m jop.Throw (Refers within ∷ []) []
  athrow = as_written by l r m jop.Throw (insns.Op 0x93) (Refers within ∷ []) [] (λ place. refl) throw_is

module _ (by : Linked) (l : Named) (m : Method) (at next : ℕ) (ks ls : List Kind) (vs ws : List Value) (locals words :
    List (Option Value)) (store : Store) (memory : NMemory) (stores : Stores l store memory) (held : Locals memory.heap
    ls locals words) (rest : Stacks memory.heap ks vs ws) where
  abbrev Counts : by_name.Effect → NEffect → Type 0
  Counts = Same l (Range (span (pos 0) (pos 32767)) ∷ ks) ls (at + 1) next

  abbrev by_thing : Thing → by_name.Effect
  by_thing thing = by_name.array_in thing (λ desc items. by_name.onward by m at locals store (Num (pos (length items))
      ∷ vs))

  abbrev narrow_thing : HeapObject (List ℕ) MemberId → NEffect
  narrow_thing = narrow.length_in (λ n. narrow.Go next (Num (low_word (pos n)) ∷ ws) words memory)

  counted : (n : ℕ) → n ≤ 32767 → Counts (by_name.onward by m at locals store (Num (pos n) ∷ vs))
      (narrow.Go next (Num (low_word (pos n)) ∷ ws) words memory)
  counted n h = goes (cell (number refl (record { above = omega (arith, ints); below = omega (arith, ints) })) rest)
      held stores

  count_of : (thing : HeapObject (List ℕ) MemberId) → ((class : List ℕ) → shape thing ≡ OfClass class → ⊥)
      → ThingFits l memory.heap thing → Counts (by_thing (shown l thing)) (narrow_thing thing)
  unfolding by_label
  count_of (Numbers element items) array (numbers few fits) =
      subst (λ n. Counts (by_name.onward by m at locals store (Num (pos n) ∷ vs))
      (narrow.Go next (Num (low_word (pos (length items))) ∷ ws) words memory)) (sym (length_mapped Num items))
      (counted (length items) few)
  count_of (References class items) array (references arrays few fits) = counted (length items) few
  count_of (Object class slots) array fits = absurd (array class refl)

  pub count_at : (within : Shape (List ℕ) → Bool) → AreArrays l within → (v w : Value)
      → Agrees memory.heap (Refers within) v w → Counts (by_name.thing_at store.heap v (λ k. by_thing))
      (narrow.thing_of memory.heap w (λ k. narrow_thing))
  count_at within arrays _ _ null = raises {fault = by_name.NullPointer}
  count_at within arrays _ _ (object {k = k} thing is passes) =
      subst (λ o. Counts (by_name.with_some o by_thing) (narrow.with_some narrow.Stick (slice_get memory.heap k)
      narrow_thing)) (sym (thing_shown l memory.heap k thing stores.heap is))
      (subst (λ o. Counts (by_thing (shown l thing)) (narrow.with_some narrow.Stick o narrow_thing)) (sym is)
      (count_of thing (λ class e. arrays class (ap within (sym e)
      ∙ passes) (subst (IsMadeOf l) e (made_there l thing (stores.heap_fits k thing is)))) (stores.heap_fits k thing
      is)))

module _ (by : Linked) (l : Named) (r : Resolution) (m : Method) (within : Shape (List ℕ)
    → Bool) (arrays : AreArrays l within) where
  length_is : RowIs by l m jop.ArrayLength (insns.Op 0x92) (Refers within ∷ []) (Range (span (pos 0) (pos 32767)) ∷ [])
  unfolding effect meaning
  length_is room at next ks ls _ _ locals words store memory roomy stores held (cell {v = v} {w = w} {vs = vs} {ws = ws}
      agree rest) =
      count_at by l m at next ks ls vs ws locals words store memory stores held rest within arrays v w agree

  pub arraylength : RowAgrees by l r m jop.ArrayLength (Refers within ∷ []) (Range (span (pos 0) (pos 32767)) ∷ [])
  arraylength = as_written by l r m jop.ArrayLength (insns.Op 0x92) (Refers within
      ∷ []) (Range (span (pos 0) (pos 32767)) ∷ []) (λ place. refl) length_is
