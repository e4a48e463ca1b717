-- checkcast and instanceof.
use Rattle.std.proofs.Common.{◌≡◌, ℕ, ◌+◌, ◌≤◌, refl, sym, ap, subst, ◌∙◌, arith, Bool, true, false, List, []}
use Rattle.std.proofs.Common.{◌∷◌, ◌++◌, length, pos}
use Rattle.std.specs.Prelude.{Option, Some, None, slice_get, if◌then◌else◌}
use Rattle.std.proofs.lemmas.Int.{ints}
use Rattle.cjc_script.specs.Bytes.declared.fault.MemberId.{MemberId}
use Rattle.cjc_int_proof.specs.Bytecode.declared.insn.JOp.TheVariants as jop
use Rattle.cjc_script.specs.declared.value.Value.{Value}
use Rattle.cjc_script.specs.declared.value.Value.TheVariants.{Num, Null, Obj}
use Rattle.cjc_script.specs.Sorts.{Booleans, Bytes, Shorts, Ints, Shape, OfClass, OfNumbers, OfReferences, shape_named}
use Rattle.cjc_card_semantics.specs.Bytecode.Calculations
use Rattle.cjc_card_semantics.specs.Bytecode.Effects.{HeapObject, shape, Cast, Ask}
use Rattle.cjc_card_semantics.specs.Bytecode.Effects as narrow
use Rattle.cjc_card_semantics.specs.Bytecode.Meanings.{meaning}
use Rattle.cjc_ncode.specs.declared.narrow.NInsn.{NInsn}
use Rattle.cjc_ncode.specs.declared.narrow.NInsn.TheVariants as insns
use Rattle.cjc_ncode.specs.ByLabel.{Callee, Named, by_label, classes, operation}
use Rattle.cjc_ncode.specs.Written.{Resolution, type_test}
use Rattle.cjc_ncode.specs.IntCode.IntCode.{Before, Frame}
use Rattle.cjc_jvm_semantics.specs.Linked.{Method, Linked}
use Rattle.cjc_jvm_semantics.specs.Effects.{Store, effect, type_of}
use Rattle.cjc_jvm_semantics.specs.Effects as by_name
use Rattle.cjc_int_proof.specs.Walks.{walk}
use Rattle.cjc_narrow_proof.specs.Selection.Objects.{class_of, IsTypeThere}
use Rattle.cjc_narrow_proof.specs.Selection.Relation.{Kind, Range, Refers, boolean_range, NMemory, Stores}
use Rattle.cjc_narrow_proof.specs.Selection.Rows.{NEffect}
use Rattle.cjc_narrow_proof.proofs.SelectionLaws.Begins.{type_shown, thing_shown}
use Rattle.cjc_int_runs.specs.Relation.{RefersTo, to_null, to_object, reference}
use Rattle.cjc_int_runs.specs.Steps.{IntRow, InStep, StandAt, behind, spot}
use Rattle.cjc_int_runs.proofs.ItemsRead.{OneWord, one_word, Reads, reads, fails}
use Rattle.cjc_int_runs.proofs.Finishing.{OneReference, one_reference, then_widened, as_reference}

-- what is written for a type does what its opcode says to it
record Tests (op : ℕ) (does : Shape (List ℕ) → narrow.Operation (List ℕ) MemberId MemberId Callee)
    (kind : Shape (List ℕ)) : Type 0 where
  insn : NInsn
  is : type_test op (Some kind) ≡ insn ∷ []
  means : operation insn ≡ does kind

casts : (kind : Shape (List ℕ)) → Tests 0x94 Cast kind
unfolding meaning
casts (OfClass class) = record { insn = insns.TypeTest 0x94 0 (Some class); is = refl; means = refl }
casts (OfReferences class) = record { insn = insns.TypeTest 0x94 14 (Some class); is = refl; means = refl }
casts (OfNumbers Booleans) = record { insn = insns.TypeTest 0x94 10 None; is = refl; means = refl }
casts (OfNumbers Bytes) = record { insn = insns.TypeTest 0x94 11 None; is = refl; means = refl }
casts (OfNumbers Shorts) = record { insn = insns.TypeTest 0x94 12 None; is = refl; means = refl }
casts (OfNumbers Ints) = record { insn = insns.TypeTest 0x94 13 None; is = refl; means = refl }

asks : (kind : Shape (List ℕ)) → Tests 0x95 Ask kind
unfolding meaning
asks (OfClass class) = record { insn = insns.TypeTest 0x95 0 (Some class); is = refl; means = refl }
asks (OfReferences class) = record { insn = insns.TypeTest 0x95 14 (Some class); is = refl; means = refl }
asks (OfNumbers Booleans) = record { insn = insns.TypeTest 0x95 10 None; is = refl; means = refl }
asks (OfNumbers Bytes) = record { insn = insns.TypeTest 0x95 11 None; is = refl; means = refl }
asks (OfNumbers Shorts) = record { insn = insns.TypeTest 0x95 12 None; is = refl; means = refl }
asks (OfNumbers Ints) = record { insn = insns.TypeTest 0x95 13 None; is = refl; means = refl }

-- the same is asked of an array or object on both sides, whatever both do with the answer
asked_both : (by : Linked) (l : Named) (m : Method) (type : List ℕ) (there : IsTypeThere by l m type) (at : ℕ)
    (locals : List (Option Value)) (store : Store) (memory : NMemory) → Stores l store memory
    → (Meets : by_name.Effect → NEffect → Type 0) (k : ℕ) (thing : HeapObject (List ℕ) MemberId)
    → slice_get memory.heap k ≡ Some thing → (on_null : by_name.Effect) (go : Bool → by_name.Effect)
    (go' : Bool → NEffect) → ((b : Bool) → l.is_of (shape thing) there.kind ≡ b → Meets (go b) (go' b))
    → Meets (by_name.type_test by m at locals store type (Obj k) on_null go) (narrow.cast_of (classes l) there.kind
    memory.heap (Obj k) go')
asked_both by l m type there at locals store memory stores Meets k thing is on_null go go' both =
    subst (λ o. Meets (by_name.with_some o (λ thing. go (by.subtype (Some (class_of m)) (type_of thing) type)))
    (narrow.with_some narrow.Stick (slice_get memory.heap k) (λ thing. go' (l.is_of (shape thing) there.kind))))
    (sym (thing_shown l memory.heap k thing stores.heap is))
    (subst (λ b. Meets (go b) (narrow.with_some narrow.Stick (slice_get memory.heap k)
    (λ thing. go' (l.is_of (shape thing) there.kind)))) (sym (ap (λ of. by.subtype (Some (class_of m)) of type)
    (type_shown l thing) ∙ there.tells (shape thing)))
    (subst (λ o. Meets (go (l.is_of (shape thing) there.kind)) (narrow.with_some narrow.Stick o
    (λ thing. go' (l.is_of (shape thing) there.kind)))) (sym is)
    (both (l.is_of (shape thing) there.kind) refl)))

module _ (by : Linked) (l : Named) (f : Frame) (pairs : ℕ) (r : Resolution) (m : Method) (b : Before) (ls : List Kind)
    (type : List ℕ) (there : IsTypeThere by l m type) (within : Shape (List ℕ) → Bool) where
  -- what passes is of the type too
  module _ (after : Shape (List ℕ) → Bool) (narrower : (kind : Shape (List ℕ)) → within kind ≡ true
      → l.is_of kind there.kind ≡ true → after kind ≡ true) where
    cast_both : (at next : ℕ) (v : Value) (vs ws : List Value) (locals words : List (Option Value)) (store : Store)
        (memory : NMemory) → Stores l store memory → RefersTo memory.heap within v
        → Reads (OneReference memory.heap after) at next vs ws locals words store memory
        (by_name.type_test by m at locals store type v
        (by_name.onward by m at locals store (v ∷ vs)) (λ is_of. if is_of then by_name.onward by m at locals store
        (v ∷ vs) else by_name.Raise by_name.ClassCast)) (narrow.cast (classes l) there.kind next words memory (v
        ∷ ws))
    cast_both at next _ vs ws locals words store memory stores to_null = reads Null (Null ∷ []) (one_reference to_null)
    cast_both at next _ vs ws locals words store memory stores (to_object {k = k} thing is passes) =
        asked_both by l m type there at locals store memory stores (Reads (OneReference memory.heap after) at next vs ws
        locals words store memory) k thing is (by_name.onward by m at locals store (Obj k ∷ vs))
        (λ is_of. if is_of then by_name.onward by m at locals store (Obj k ∷ vs) else by_name.Raise by_name.ClassCast)
        (λ is_of. if is_of then narrow.Go next (Obj k ∷ ws) words memory else narrow.Raise Calculations.ClassCast)
        by_answer
      where
        by_answer : (b : Bool) → l.is_of (shape thing) there.kind ≡ b
            → Reads (OneReference memory.heap after) at next vs ws locals words store memory
            (if b then by_name.onward by m at locals store (Obj k ∷ vs)
            else by_name.Raise by_name.ClassCast) (if b then narrow.Go next (Obj k ∷ ws) words memory
            else narrow.Raise Calculations.ClassCast)
        by_answer true e = reads (Obj k) (Obj k ∷ []) (one_reference (to_object thing is (narrower (shape thing) passes
            e)))
        by_answer false e = fails {fault = by_name.ClassCast}

    pub checkcast : IntRow by l f pairs r m b (jop.CheckCast type) (Refers within ∷ []) (Refers after ∷ []) ls ls
    unfolding effect
    checkcast place code here is at ks _ _ locals words store memory before room stores held
        (reference {v = v} {vs = vs} {ws = ws} a rest) =
        let t = casts there.kind in
        let Reading = Reads (OneReference memory.heap after) at (here + 1) vs ws locals words store memory in
        let named_side = by_name.type_test by m at locals store type v (by_name.onward by m at locals store (v ∷ vs))
        (λ is_of. if is_of then by_name.onward by m at locals store (v ∷ vs) else by_name.Raise by_name.ClassCast)
        in
        let written_is : type_test 0x94 (shape_named type) ≡ t.insn ∷ [] = ap (type_test 0x94) there.is_name ∙ t.is in
        subst (λ list. InStep l f pairs (Refers after ∷ ks) ls here (behind here list) words memory (at + 1)
        (effect by m at locals store (jop.CheckCast type) (v ∷ vs))
        (λ n. walk (by_label l) code n (spot here (v ∷ ws) words memory)) (length list)) (sym written_is)
        (as_reference l f pairs m ls code here at (v ∷ ws) vs ws locals words store memory stores held ks rest t.insn
        (subst (λ list. StandAt code here list) written_is is).0 after _ _
        (ap (λ o. narrow.effect (classes l) o code.max_stack (here + 1) words memory (v ∷ ws)) t.means)
        (subst (λ o. Reading (by_name.only_if o named_side) (narrow.cast (classes l) there.kind (here + 1) words memory
        (v ∷ ws))) (sym (ap (by_name.is_type by m at locals store) there.is_name ∙ there.is_there at locals store))
        (cast_both at (here + 1) v vs ws locals words store memory stores a)))

  bit : (n : ℕ) → n ≤ 1 → OneWord boolean_range (Num (pos n)) (Num (pos n) ∷ [])
  bit n few = one_word (pos n) (record { above = omega (arith, ints); below = omega (arith, ints, few) }) (record {
    sfits = omega (arith, few);
  })

  ask_both : (at next : ℕ) (v : Value) (vs ws : List Value) (locals words : List (Option Value)) (store : Store)
      (memory : NMemory) → Stores l store memory → RefersTo memory.heap within v
      → Reads (OneWord boolean_range) at next vs ws locals words store memory
      (by_name.type_test by m at locals store type v
      (by_name.onward by m at locals store (Num (pos 0) ∷ vs)) (λ is_of. by_name.onward by m at locals store
      (Num (by_name.truth is_of) ∷ vs))) (narrow.asked (classes l) there.kind next words memory (v ∷ ws))
  ask_both at next _ vs ws locals words store memory stores to_null = reads (Num (pos 0)) (Num (pos 0) ∷ [])
      (bit 0 (omega arith))
  ask_both at next _ vs ws locals words store memory stores (to_object {k = k} thing is passes) =
      asked_both by l m type there at locals store memory stores (Reads (OneWord boolean_range) at next vs ws locals
      words store memory) k thing is (by_name.onward by m at locals store (Num (pos 0) ∷ vs))
      (λ is_of. by_name.onward by m at locals store (Num (by_name.truth is_of) ∷ vs)) (λ is_of. narrow.Go next
      (Num (narrow.truth is_of) ∷ ws) words memory) by_answer
    where
      by_answer : (b : Bool) → l.is_of (shape thing) there.kind ≡ b
          → Reads (OneWord boolean_range) at next vs ws locals words store memory
          (by_name.onward by m at locals store (Num (by_name.truth b) ∷ vs)) (narrow.Go next (Num (narrow.truth b)
          ∷ ws) words memory)
      by_answer true e = reads (Num (pos 1)) (Num (pos 1) ∷ []) (bit 1 (omega arith))
      by_answer false e = reads (Num (pos 0)) (Num (pos 0) ∷ []) (bit 0 (omega arith))

  pub instanceof : IntRow by l f pairs r m b (jop.InstanceOf type) (Refers within ∷ []) (Range boolean_range ∷ []) ls
      ls
  unfolding effect
  instanceof place code here is at ks _ _ locals words store memory before room stores held
      (reference {v = v} {vs = vs} {ws = ws} a rest) =
      let t = asks there.kind in
      let Reading = Reads (OneWord boolean_range) at (here + 1) vs ws locals words store memory in
      let named_side = by_name.type_test by m at locals store type v (by_name.onward by m at locals store (Num (pos 0)
      ∷ vs)) (λ is_of. by_name.onward by m at locals store (Num (by_name.truth is_of) ∷ vs)) in
      let written_is : type_test 0x95 (shape_named type) ++ insns.Op 0x5C ∷ [] ≡ t.insn ∷ insns.Op 0x5C ∷ [] =
      ap (λ list. list ++ insns.Op 0x5C ∷ []) (ap (type_test 0x95) there.is_name ∙ t.is) in
      let stand = subst (λ list. StandAt code here list) written_is is in
      subst (λ list. InStep l f pairs (Range boolean_range ∷ ks) ls here (behind here list) words memory (at + 1)
      (effect by m at locals store (jop.InstanceOf type) (v ∷ vs))
      (λ n. walk (by_label l) code n (spot here (v ∷ ws) words memory)) (length list)) (sym written_is)
      (then_widened l f pairs m ls code here at (v ∷ ws) vs ws locals words store memory stores held ks rest t.insn
      stand.0 boolean_range _ _ room stand.1.0
      (ap (λ o. narrow.effect (classes l) o code.max_stack (here + 1) words memory (v ∷ ws)) t.means)
      (subst (λ o. Reading (by_name.only_if o named_side) (narrow.asked (classes l) there.kind (here + 1) words memory
      (v ∷ ws))) (sym (ap (by_name.is_type by m at locals store) there.is_name ∙ there.is_there at locals store))
      (ask_both at (here + 1) v vs ws locals words store memory stores a)))
