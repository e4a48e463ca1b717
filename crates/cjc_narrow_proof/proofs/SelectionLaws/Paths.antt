-- Jumps, instructions for which nothing is written and switches make turns of both machines.
use Rattle.std.proofs.Common.{◌≡◌, ℕ, ◌+◌, sym, ap, subst, ◌∙◌, List, ◌∷◌}
use Rattle.std.specs.Prelude.{Some, option_map, slice_get}
use Rattle.cjc_code.specs.declared.insn.JInsn.{JInsn}
use Rattle.cjc_card_semantics.specs.Bytecode.Effects as effects
use Rattle.cjc_card_semantics.specs.Bytecode.Machine as narrow
use Rattle.cjc_ncode.specs.declared.narrow.NInsn.{NInsn}
use Rattle.cjc_ncode.specs.ByLabel.{Named, by_label, classes, operation}
use Rattle.cjc_jvm_semantics.specs.Linked.{Linked}
use Rattle.cjc_jvm_semantics.specs.Effects.{place}
use Rattle.cjc_jvm_semantics.specs.Effects as by_name
use Rattle.cjc_jvm_semantics.specs.Machine.{Frame, State, after_effect, after_fetch, spend, step}
use Rattle.cjc_narrow_proof.specs.Selection.Relation.{Kind}
use Rattle.cjc_narrow_proof.specs.Selection.Rows.{NEffect, GoesOn}
use Rattle.cjc_narrow_proof.specs.Selection.Jumps.{Jumps, jumps, falls}
use Rattle.cjc_narrow_proof.specs.Selection.Switches.{JumpsInTwo}
use Rattle.cjc_narrow_proof.specs.Selection.Calls.{NFrame, NState}
use Rattle.cjc_narrow_proof.specs.Selection.Throws.{nheap}
use Rattle.cjc_narrow_proof.specs.Selection.Types.{TypesStay}
use Rattle.cjc_narrow_proof.specs.Selection.Types as types
use Rattle.cjc_narrow_proof.specs.Selection.Turns.{with_spent}
use Rattle.cjc_narrow_proof.specs.Selection.Paths.{JumpTurn, SilentTurn, one_further, TwoTurns, TurnsAre}
use Rattle.cjc_narrow_proof.specs.Selection.Paths as paths
use Rattle.cjc_narrow_proof.proofs.SelectionLaws.Types.{types_stay}

-- ---- turns by what instructions ask

module _ (by : Linked) (f : Frame) (outer : List Frame) (s : State) (i : JInsn) (there : slice_get (let m = f.method
    in m.insns) f.at ≡ Some i) where
  pub named_step : step by (f ∷ outer) s ≡ spend by (after_effect by (by_name.effect by f.method f.at f.locals s.store
      i.op f.stack) f outer s)
  named_step = ap (λ o. spend by (after_fetch by o f outer s)) there

module _ (l : Named) (g : NFrame) (others : List NFrame) (t : NState) (insn : NInsn)
    (written : slice_get (let m = g.code in m.insns) g.at ≡ Some insn) where
  -- what the narrow instruction asks
  abbrev asked : NEffect
  asked = effects.effect (classes l) (operation insn) (let m = g.code in m.max_stack) (g.at + 1) g.locals t.memory
      g.stack

  pub narrow_step : narrow.step (by_label l) (g ∷ others) t ≡ narrow.spent_by (by_label l) t.spent
      (narrow.made (by_label l) (effects.effect (classes l) (operation insn) (let m = g.code in m.max_stack) (g.at + 1)
      g.locals t.memory g.stack) (g.at + 1) g others (with_spent t))
  unfolding by_label
  narrow_step = ap (λ o. narrow.spent_by (by_label l) t.spent (narrow.turn_after_fetch (by_label l)
      (option_map (λ insn. record { operation = operation insn; next = g.at + 1 }) o) g others (with_spent t))) written

pub turns_are : (by : Linked) (l : Named) (f : Frame) (outer : List Frame) (s : State) (g : NFrame)
    (others : List NFrame) (t : NState) (i : JInsn) (insn : NInsn) → slice_get (let m = f.method in m.insns) f.at
    ≡ Some i → slice_get (let m = g.code in m.insns) g.at ≡ Some insn → (effect : by_name.Effect) (effect' : NEffect)
    → by_name.effect by f.method f.at f.locals s.store i.op f.stack ≡ effect
    → effects.effect (classes l) (operation insn) (let m = g.code in m.max_stack) (g.at + 1) g.locals t.memory
    g.stack ≡ effect' → TurnsAre by l f outer s g others t effect effect'
turns_are by l f outer s g others t i insn there written effect effect' is is' = record {
  by_name = named_step by f outer s i there ∙ ap (λ e. spend by (after_effect by e f outer s)) is;
  narrow = narrow_step l g others t insn written
      ∙ ap (λ e. narrow.spent_by (by_label l) t.spent (narrow.made (by_label l) e (g.at + 1) g others (with_spent t)))
      is';
}

-- ---- jumps

module _ (by : Linked) (l : Named) (ks ls : List Kind) (offsets : List ℕ) (narrow_place : ℕ
    → ℕ) (f : Frame) (outer : List Frame) (s : State) (g : NFrame) (others : List NFrame) (t : NState) where
  by_jump : (effect : by_name.Effect) (effect' : NEffect) → Jumps l ks ls offsets (place (let m = f.method in m.insns))
      narrow_place (f.at + 1) (g.at + 1) effect effect' → TypesStay (nheap t) effect'
      → JumpTurn l ks ls offsets narrow_place f outer s g others t (spend by (after_effect by effect f outer s))
      (narrow.spent_by (by_label l) t.spent (narrow.made (by_label l) effect' (g.at + 1) g others (with_spent t)))
  by_jump _ _ (jumps offset among stack locals held) (types.goes_on keeps) = paths.jumps offset among stack locals held
      keeps
  by_jump _ _ (falls stack locals held) (types.goes_on keeps) = paths.falls stack locals held keeps

  pub jump_turns : (i : JInsn) (insn : NInsn) → slice_get (let m = f.method in m.insns) f.at ≡ Some i
      → slice_get (let m = g.code in m.insns) g.at ≡ Some insn
      → Jumps l ks ls offsets (place (let m = f.method in m.insns)) narrow_place (f.at + 1) (g.at + 1)
      (by_name.effect by f.method f.at f.locals s.store i.op f.stack) (effects.effect (classes l) (operation insn)
      (let m = g.code in m.max_stack) (g.at + 1) g.locals t.memory g.stack)
      → JumpTurn l ks ls offsets narrow_place f outer s g others t (step by (f ∷ outer) s) (narrow.step (by_label l) (g
      ∷ others) t)
  jump_turns i insn there written jump =
      subst (λ m. JumpTurn l ks ls offsets narrow_place f outer s g others t m (narrow.step (by_label l) (g ∷ others)
      t)) (sym (named_step by f outer s i there))
      (subst (JumpTurn l ks ls offsets narrow_place f outer s g others t
      (spend by (after_effect by (by_name.effect by f.method f.at f.locals s.store i.op f.stack) f outer s)))
      (sym (narrow_step l g others t insn written))
      (by_jump (by_name.effect by f.method f.at f.locals s.store i.op f.stack) (effects.effect (classes l)
      (operation insn) (let m = g.code in m.max_stack) (g.at + 1) g.locals t.memory g.stack) jump
      (types_stay l (let m = g.code in m.max_stack) (g.at + 1) g.locals t.memory (operation insn) g.stack)))

-- ---- nothing is written

pub silent_turns : (by : Linked) (ks : List Kind) (f : Frame) (outer : List Frame) (s : State) (g : NFrame) (t : NState)
    (i : JInsn) → slice_get (let m = f.method in m.insns) f.at ≡ Some i → GoesOn by f.method i.op f.at f.locals s.store
    t.memory ks f.stack g.stack → SilentTurn by ks f outer s g t
silent_turns by ks f outer s g t i there on = record {
  stack = on.stack;
  moves = named_step by f outer s i there ∙ ap (λ e. spend by (after_effect by e f outer s)) on.goes_on;
  agree = on.agree;
}

-- ---- two instructions

pub two_turns : (by : Linked) (l : Named) (ks ls : List Kind) (offsets : List ℕ) (narrow_place : ℕ
    → ℕ) (f : Frame) (outer : List Frame) (s : State) (g : NFrame) (others : List NFrame) (t : NState) (i : JInsn)
    (first second : NInsn) → slice_get (let m = f.method in m.insns) f.at ≡ Some i
    → slice_get (let m = g.code in m.insns) g.at ≡ Some first → slice_get (let m = g.code in m.insns) (g.at + 1)
    ≡ Some second
    → JumpsInTwo l ks ls offsets (place (let m = f.method in m.insns)) narrow_place (f.at + 1) (g.at + 1) (g.at + 1 + 1)
    (let m = g.code in m.max_stack) first second g.locals t.memory g.stack (by_name.effect by f.method f.at f.locals
    s.store i.op f.stack)
    → TwoTurns by l ks ls offsets narrow_place f outer s g others t
two_turns by l ks ls offsets narrow_place f outer s g others t i first second there here behind two = record {
  stack = two.stack;
  first = narrow_step l g others t first here
      ∙ ap (λ e. narrow.spent_by (by_label l) t.spent (narrow.made (by_label l) e (g.at + 1) g others (with_spent t)))
      two.goes_on;
  then_both = jump_turns by l ks ls offsets narrow_place f outer s (one_further g two.stack) others (with_spent t) i
      second there behind two.leads;
}
