-- A row makes a turn of both machines.
use Rattle.std.proofs.Common.{◌≡◌, ℕ, ◌+◌, refl, sym, ap, subst, List, ◌∷◌}
use Rattle.std.specs.Prelude.{Some, option_map, slice_get}
use Rattle.cjc_code.specs.declared.insn.JInsn.{JInsn}
use Rattle.cjc_script.specs.Sorts.{OfClass}
use Rattle.cjc_card_semantics.specs.Bytecode.Runs.{Move}
use Rattle.cjc_card_semantics.specs.Bytecode.Effects as effects
use Rattle.cjc_card_semantics.specs.Bytecode.Machine as narrow
use Rattle.cjc_ncode.specs.declared.narrow.NInsn.{NInsn}
use Rattle.cjc_ncode.specs.ByLabel.{Named, by_label, classes, operation}
use Rattle.cjc_jvm_semantics.specs.Linked.{Linked}
use Rattle.cjc_jvm_semantics.specs.Effects.{Fault, exception_class}
use Rattle.cjc_jvm_semantics.specs.Effects as by_name
use Rattle.cjc_jvm_semantics.specs.Machine.{Frame, State, after_effect, after_fetch, spend, step}
use Rattle.cjc_narrow_proof.specs.Selection.Relation.{Kind, Stores}
use Rattle.cjc_narrow_proof.specs.Selection.Rows.{NEffect, Same, goes, raises, tosses}
use Rattle.cjc_narrow_proof.specs.Selection.Calls.{NFrame, NState, NTurn}
use Rattle.cjc_narrow_proof.specs.Selection.Throws.{nheap, HandleAlike, IsRaised}
use Rattle.cjc_narrow_proof.specs.Selection.Types.{TypesStay}
use Rattle.cjc_narrow_proof.specs.Selection.Types as types
use Rattle.cjc_narrow_proof.specs.Selection.Turns.{with_spent, TurnAgrees}
use Rattle.cjc_narrow_proof.specs.Selection.Turns as turns
use Rattle.cjc_narrow_proof.proofs.SelectionLaws.Throws.{failed}
use Rattle.cjc_narrow_proof.proofs.SelectionLaws.Types.{types_stay}

module _ (by : Linked) (l : Named) (ks ls : List Kind) (f : Frame) (outer : List Frame) (s : State) (g : NFrame)
    (others : List NFrame) (t : NState) (stores : Stores l s.store t.memory) (raised : (fault : Fault)
    → IsRaised l fault)
    (handle : (fault : Fault) → HandleAlike by l (nheap t) (OfClass (exception_class fault)) (f ∷ outer) (g ∷ others))
  where
    abbrev Turns : Move State → NTurn → Type 0
    Turns = TurnAgrees by l ks ls (f.at + 1) (g.at + 1) f outer s g others t

    -- from what both instructions ask
    by_effect : (effect : by_name.Effect) (effect' : NEffect) → ((object : ℕ) → effect ≡ by_name.Toss object → ⊥)
        → Same l ks ls (f.at + 1) (g.at + 1) effect effect' → TypesStay (nheap t) effect'
        → Turns (spend by (after_effect by effect f outer s)) (narrow.spent_by (by_label l) t.spent
        (narrow.made (by_label l) effect' (g.at + 1) g others (with_spent t)))
    by_effect _ _ never (goes stack locals held) (types.goes_on keeps) = turns.goes_on stack locals held keeps
    by_effect _ _ never (raises {fault = fault}) stays =
        turns.raises fault (λ within passes. failed by l within f outer s g others (with_spent t) stores fault
        (g.at + 1)
        (raised fault) passes (handle fault))
    by_effect _ _ never (tosses {object = object}) stays = absurd (never object refl)

    pub row_turns : (i : JInsn) (insn : NInsn) → slice_get (let m = f.method in m.insns) f.at ≡ Some i
        → slice_get (let m = g.code in m.insns) g.at ≡ Some insn
        → ((object : ℕ) → by_name.effect by f.method f.at f.locals s.store i.op f.stack ≡ by_name.Toss object → ⊥)
        → Same l ks ls (f.at + 1) (g.at + 1) (by_name.effect by f.method f.at f.locals s.store i.op f.stack)
        (effects.effect (classes l) (operation insn) (let m = g.code in m.max_stack) (g.at + 1) g.locals t.memory
        g.stack)
        → Turns (step by (f ∷ outer) s) (narrow.step (by_label l) (g ∷ others) t)
    unfolding by_label
    row_turns i insn there written never row =
        subst (λ o. Turns (spend by (after_fetch by o f outer s)) (narrow.step (by_label l) (g ∷ others) t)) (sym there)
        (subst (λ o. Turns (spend by (after_effect by (by_name.effect by f.method f.at f.locals s.store i.op f.stack) f
        outer s)) (narrow.spent_by (by_label l) t.spent (narrow.turn_after_fetch (by_label l) o g others
        (with_spent t)))) (sym (ap (option_map (λ insn. record { operation = operation insn; next = g.at + 1 }))
        written))
        (by_effect (by_name.effect by f.method f.at f.locals s.store i.op f.stack) (effects.effect (classes l)
        (operation insn) (let m = g.code in m.max_stack) (g.at + 1) g.locals t.memory g.stack) never row
        (types_stay l (let m = g.code in m.max_stack) (g.at + 1) g.locals t.memory (operation insn) g.stack)))
