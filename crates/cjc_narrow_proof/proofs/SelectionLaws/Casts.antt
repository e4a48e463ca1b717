-- The type of an array or object is asked alike: checkcast and instanceof.
use Rattle.std.proofs.Common.{◌≡◌, ℕ, ◌+◌, refl, sym, ap, subst, ◌∙◌, arith, Bool, true, false, List, [], ◌∷◌, pos}
use Rattle.std.specs.Prelude.{Option, Some, None, slice_get, if◌then◌else◌}
use Rattle.std.proofs.lemmas.Int.{ints}
use Rattle.cjc_bytes.specs.declared.fault.MemberId.{MemberId}
use Rattle.cjc_range.proofs.WordsLaws.Words.{low_word_same}
use Rattle.cjc_code.specs.declared.insn.JOp.TheVariants as jop
use Rattle.cjc_script.specs.declared.value.Value.{Value}
use Rattle.cjc_script.specs.declared.value.Value.TheVariants.{Num, Obj}
use Rattle.cjc_script.specs.Sorts.{Booleans, Bytes, Shorts, Ints, Shape, OfClass, OfNumbers, OfReferences}
use Rattle.cjc_card_semantics.specs.Bytecode.Calculations
use Rattle.cjc_card_semantics.specs.Bytecode.Effects.{HeapObject, shape, Cast, Ask}
use Rattle.cjc_card_semantics.specs.Bytecode.Effects as narrow
use Rattle.cjc_card_semantics.specs.Bytecode.Meanings.{meaning}
use Rattle.cjc_ncode.specs.declared.narrow.NInsn.{NInsn}
use Rattle.cjc_ncode.specs.declared.narrow.NInsn.TheVariants as insns
use Rattle.cjc_ncode.specs.Written.{Resolution, type_test}
use Rattle.cjc_ncode.specs.ByLabel.{Callee, Named, classes, operation}
use Rattle.cjc_jvm_semantics.specs.Linked.{Method, Linked}
use Rattle.cjc_jvm_semantics.specs.Effects.{Store, effect, type_of}
use Rattle.cjc_jvm_semantics.specs.Effects as by_name
use Rattle.cjc_narrow_proof.specs.Selection.Relation.{Kind, Range, Refers, boolean_range, NMemory, Agrees, number, null}
use Rattle.cjc_narrow_proof.specs.Selection.Relation.{object, Stacks, cell, Locals, Stores}
use Rattle.cjc_narrow_proof.specs.Selection.Rows.{NEffect, Same, goes, raises, RowAgrees}
use Rattle.cjc_narrow_proof.specs.Selection.Objects.{class_of, IsTypeThere}
use Rattle.cjc_narrow_proof.proofs.SelectionLaws.Plain.{RowIs, as_written}
use Rattle.cjc_narrow_proof.proofs.SelectionLaws.Begins.{type_shown, thing_shown}

-- what is written for a type does what its opcode says to it
record Tests (op : ℕ) (does : Shape (List ℕ) → narrow.Operation (List ℕ) MemberId MemberId Callee)
    (kind : Shape (List ℕ)) : Type 0 where
  insn : NInsn
  is : type_test op (Some kind) ≡ insn ∷ []
  means : operation insn ≡ does kind

casts : (kind : Shape (List ℕ)) → Tests 0x94 Cast kind
unfolding meaning
casts (OfClass class) = record { insn = insns.TypeTest 0x94 0 (Some class); is = refl; means = refl }
casts (OfReferences class) = record { insn = insns.TypeTest 0x94 14 (Some class); is = refl; means = refl }
casts (OfNumbers Booleans) = record { insn = insns.TypeTest 0x94 10 None; is = refl; means = refl }
casts (OfNumbers Bytes) = record { insn = insns.TypeTest 0x94 11 None; is = refl; means = refl }
casts (OfNumbers Shorts) = record { insn = insns.TypeTest 0x94 12 None; is = refl; means = refl }
casts (OfNumbers Ints) = record { insn = insns.TypeTest 0x94 13 None; is = refl; means = refl }

asks : (kind : Shape (List ℕ)) → Tests 0x95 Ask kind
unfolding meaning
asks (OfClass class) = record { insn = insns.TypeTest 0x95 0 (Some class); is = refl; means = refl }
asks (OfReferences class) = record { insn = insns.TypeTest 0x95 14 (Some class); is = refl; means = refl }
asks (OfNumbers Booleans) = record { insn = insns.TypeTest 0x95 10 None; is = refl; means = refl }
asks (OfNumbers Bytes) = record { insn = insns.TypeTest 0x95 11 None; is = refl; means = refl }
asks (OfNumbers Shorts) = record { insn = insns.TypeTest 0x95 12 None; is = refl; means = refl }
asks (OfNumbers Ints) = record { insn = insns.TypeTest 0x95 13 None; is = refl; means = refl }

module _ (by : Linked) (l : Named) (m : Method) (type : List ℕ) (there : IsTypeThere by l m type) (at next : ℕ)
    (after : Kind) (ks ls : List Kind) (locals words : List (Option Value)) (store : Store) (memory : NMemory)
    (stores : Stores l store memory) where
  abbrev Meets : by_name.Effect → NEffect → Type 0
  Meets = Same l (after ∷ ks) ls (at + 1) next

  -- the same is asked of an array or object on both sides
  pub asked_both : (k : ℕ) (thing : HeapObject (List ℕ) MemberId) → slice_get memory.heap k ≡ Some thing
      → (on_null : by_name.Effect) (go : Bool → by_name.Effect) (go' : Bool → NEffect)
      → ((b : Bool) → l.is_of (shape thing) there.kind ≡ b → Meets (go b) (go' b))
      → Meets (by_name.type_test by m at locals store type (Obj k) on_null go) (narrow.cast_of (classes l) there.kind
      memory.heap (Obj k) go')
  asked_both k thing is on_null go go' both =
      subst (λ o. Meets (by_name.with_some o (λ thing. go (by.subtype (Some (class_of m)) (type_of thing) type)))
      (narrow.with_some narrow.Stick (slice_get memory.heap k) (λ thing. go' (l.is_of (shape thing) there.kind))))
      (sym (thing_shown l memory.heap k thing stores.heap is))
      (subst (λ b. Meets (go b) (narrow.with_some narrow.Stick (slice_get memory.heap k)
      (λ thing. go' (l.is_of (shape thing) there.kind)))) (sym (ap (λ of. by.subtype (Some (class_of m)) of type)
      (type_shown l thing) ∙ there.tells (shape thing)))
      (subst (λ o. Meets (go (l.is_of (shape thing) there.kind)) (narrow.with_some narrow.Stick o
      (λ thing. go' (l.is_of (shape thing) there.kind)))) (sym is)
      (both (l.is_of (shape thing) there.kind) refl)))

module _ (by : Linked) (l : Named) (r : Resolution) (m : Method) (type : List ℕ) (there : IsTypeThere by l m type)
    (within : Shape (List ℕ) → Bool) where
  -- what passes is of the type too
  module _ (after : Shape (List ℕ) → Bool) (narrower : (kind : Shape (List ℕ)) → within kind ≡ true
      → l.is_of kind there.kind ≡ true → after kind ≡ true) where
    cast_both : (at next : ℕ) (ks ls : List Kind) (v w : Value) (vs ws : List Value) (locals words :
        List (Option Value)) (store : Store) (memory : NMemory) → Stores l store memory
        → Locals memory.heap ls locals words → Agrees memory.heap (Refers within) v w → Stacks memory.heap ks vs ws
        → Same l (Refers after ∷ ks) ls (at + 1) next (by_name.type_test by m at locals store type v
        (by_name.onward by m at locals store (v ∷ vs)) (λ is_of. if is_of then by_name.onward by m at locals store
        (v ∷ vs) else by_name.Raise by_name.ClassCast)) (narrow.cast (classes l) there.kind next words memory (w
        ∷ ws))
    cast_both at next ks ls _ _ vs ws locals words store memory stores held null rest =
        goes (cell null rest) held stores
    cast_both at next ks ls _ _ vs ws locals words store memory stores held (object {k = k} thing is passes) rest =
        asked_both by l m type there at next (Refers after) ks ls locals words store memory stores k thing is
        (by_name.onward by m at locals store (Obj k ∷ vs))
        (λ is_of. if is_of then by_name.onward by m at locals store (Obj k ∷ vs) else by_name.Raise by_name.ClassCast)
        (λ is_of. if is_of then narrow.Go next (Obj k ∷ ws) words memory else narrow.Raise Calculations.ClassCast)
        by_answer
      where
        by_answer : (b : Bool) → l.is_of (shape thing) there.kind ≡ b
            → Same l (Refers after ∷ ks) ls (at + 1) next (if b then by_name.onward by m at locals store (Obj k ∷ vs)
            else by_name.Raise by_name.ClassCast) (if b then narrow.Go next (Obj k ∷ ws) words memory
            else narrow.Raise Calculations.ClassCast)
        by_answer true e = goes (cell (object thing is (narrower (shape thing) passes e)) rest) held stores
        by_answer false e = raises {fault = by_name.ClassCast}

    cast_is : RowIs by l m (jop.CheckCast type) (let t = casts there.kind in t.insn) (Refers within ∷ []) (Refers after
        ∷ [])
    unfolding effect
    cast_is room at next ks ls _ _ locals words store memory roomy stores held (cell {v = v} {w = w} {vs = vs} {ws = ws}
        agree rest) =
        let Meets = Same l (Refers after ∷ ks) ls (at + 1) next in
        let t = casts there.kind in
        let named_side = by_name.type_test by m at locals store type v (by_name.onward by m at locals store (v ∷ vs))
        (λ is_of. if is_of then by_name.onward by m at locals store (v ∷ vs) else by_name.Raise by_name.ClassCast)
        in
        subst (λ o. Meets (by_name.only_if o named_side) (narrow.effect (classes l) (operation t.insn) room next words
        memory (w ∷ ws))) (sym (ap (by_name.is_type by m at locals store) there.is_name
        ∙ there.is_there at locals store))
        (subst (λ o. Meets named_side (narrow.effect (classes l) o room next words memory (w ∷ ws))) (sym t.means)
        (cast_both at next ks ls v w vs ws locals words store memory stores held agree rest))

    pub checkcast : RowAgrees by l r m (jop.CheckCast type) (Refers within ∷ []) (Refers after ∷ [])
    checkcast = let t = casts there.kind in as_written by l r m (jop.CheckCast type) t.insn (Refers within
        ∷ []) (Refers after ∷ []) (λ place. ap (type_test 0x94) there.is_name ∙ t.is) cast_is

  ask_both : (at next : ℕ) (ks ls : List Kind) (v w : Value) (vs ws : List Value) (locals words : List (Option Value))
      (store : Store) (memory : NMemory) → Stores l store memory → Locals memory.heap ls locals words
      → Agrees memory.heap (Refers within) v w → Stacks memory.heap ks vs ws
      → Same l (Range boolean_range ∷ ks) ls (at + 1) next (by_name.type_test by m at locals store type v
      (by_name.onward by m at locals store (Num (pos 0) ∷ vs)) (λ is_of. by_name.onward by m at locals store
      (Num (by_name.truth is_of) ∷ vs))) (narrow.asked (classes l) there.kind next words memory (w ∷ ws))
  ask_both at next ks ls _ _ vs ws locals words store memory stores held null rest =
      goes (cell (number (sym (low_word_same (pos 0) (omega (arith, ints)) (omega (arith, ints))))
      (record { above = omega (arith, ints); below = omega (arith, ints) })) rest) held stores
  ask_both at next ks ls _ _ vs ws locals words store memory stores held (object {k = k} thing is passes) rest =
      asked_both by l m type there at next (Range boolean_range) ks ls locals words store memory stores k thing is
      (by_name.onward by m at locals store (Num (pos 0) ∷ vs))
      (λ is_of. by_name.onward by m at locals store (Num (by_name.truth is_of) ∷ vs)) (λ is_of. narrow.Go next
      (Num (narrow.truth is_of) ∷ ws) words memory) by_answer
    where
      by_answer : (b : Bool) → l.is_of (shape thing) there.kind ≡ b → Same l (Range boolean_range ∷ ks) ls (at + 1) next
          (by_name.onward by m at locals store (Num (by_name.truth b) ∷ vs)) (narrow.Go next (Num (narrow.truth b)
          ∷ ws) words memory)
      by_answer true e = goes (cell (number (sym (low_word_same (pos 1) (omega (arith, ints)) (omega (arith, ints))))
          (record { above = omega (arith, ints); below = omega (arith, ints) })) rest) held stores
      by_answer false e = goes (cell (number (sym (low_word_same (pos 0) (omega (arith, ints)) (omega (arith, ints))))
          (record { above = omega (arith, ints); below = omega (arith, ints) })) rest) held stores

  ask_is : RowIs by l m (jop.InstanceOf type) (let t = asks there.kind in t.insn) (Refers within
      ∷ []) (Range boolean_range ∷ [])
  unfolding effect
  ask_is room at next ks ls _ _ locals words store memory roomy stores held (cell {v = v} {w = w} {vs = vs} {ws = ws}
      agree rest) =
      let Meets = Same l (Range boolean_range ∷ ks) ls (at + 1) next in
      let t = asks there.kind in
      let named_side = by_name.type_test by m at locals store type v (by_name.onward by m at locals store (Num (pos 0)
      ∷ vs)) (λ is_of. by_name.onward by m at locals store (Num (by_name.truth is_of) ∷ vs)) in
      subst (λ o. Meets (by_name.only_if o named_side) (narrow.effect (classes l) (operation t.insn) room next words
      memory (w ∷ ws))) (sym (ap (by_name.is_type by m at locals store) there.is_name
      ∙ there.is_there at locals store))
      (subst (λ o. Meets named_side (narrow.effect (classes l) o room next words memory (w ∷ ws))) (sym t.means)
      (ask_both at next ks ls v w vs ws locals words store memory stores held agree rest))

  pub instanceof : RowAgrees by l r m (jop.InstanceOf type) (Refers within ∷ []) (Range boolean_range ∷ [])
  instanceof = let t = asks there.kind in as_written by l r m (jop.InstanceOf type) t.insn (Refers within
      ∷ []) (Range boolean_range ∷ []) (λ place. ap (type_test 0x95) there.is_name ∙ t.is) ask_is
