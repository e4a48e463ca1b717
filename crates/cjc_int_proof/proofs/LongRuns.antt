-- Whole runs of a machine that follows another with one instruction or more for each.
use Rattle.std.proofs.Common.{ℕ, suc, ◌+◌, ◌≤◌, sym, ap, subst, ◌∙◌, zero-add, arith}
use Rattle.cjc_layout.specs.CardSemantics.Bytecode.Machine.{Setting, State}
use Rattle.cjc_layout.specs.CardSemantics.Bytecode.Runs.{Move, Device, On, Leads, device, run, Steps, Simulates}
use Rattle.cjc_layout.specs.CardSemantics.Bytecode.Runs.{Agree}
use Rattle.cjc_layout.specs.CardSemantics.Bytecode.Runs as runs
use Rattle.cjc_ncode.proofs.CardSemanticsFollows.{from_there, agree}
use Rattle.cjc_ncode.proofs.CardSemanticsLonger.{machine_lawful}
use Rattle.cjc_int_proof.specs.Walks.{at_spot}
use Rattle.cjc_int_proof.specs.LongRuns.{Stands, LongSteps, silent, stays, leaves, ends, begins, Follows}
use Rattle.cjc_int_proof.proofs.Walking.{walks_on, walks_out, agree_more}

module _ {S W P C F N M X : Type 0} (a : Device S) (set : Setting P C F N M X) (left : W → S) (right : W
    → State P C F X) (most : ℕ) (measure : W → ℕ) where
  abbrev IsStep : W → Type 0
  IsStep w = Steps a (device set) left right most measure w

  from_spot : (w : W) (h : Stands a set left right most measure w) (j : ℕ) (to : Move (State P C F X))
      → Leads (device set) j (at_spot set h.code h.frame h.outer h.state h.spot 0) to
      → Leads (device set) j (right w) to
  from_spot w h j to leads = subst (λ (t : State P C F X). Leads (device set) j t to) (sym h.is) leads

  step_of : (w : W) → LongSteps a set left right most measure w → IsStep w
  step_of w (silent v moves alike rests falls) = runs.silent v moves alike rests falls
  step_of w (stays v h n to walked few moves same) =
      runs.onward v (suc n) moves
      (subst (λ (t : State P C F X). Leads (device set) (suc n) (right w) (On t))
      (ap (λ (k : ℕ). at_spot set h.code h.frame h.outer h.state to k) (zero-add (suc n)) ∙ sym same)
      (from_spot w h (suc n) _ (walks_on set h.code h.frame h.outer h.state n 0 h.spot to walked)))
      few
  step_of w (leaves v h n next to asked walked few moves leads) =
      let out = walks_out set h.code h.frame h.outer h.state n 0 h.spot to next asked walked in
      let turns = 0 + out.0 in
      let less = out.1 in
      runs.onward (v turns) (suc out.0) (moves turns)
      (subst (λ (m : Move (State P C F X)). Leads (device set) (suc out.0) (right w) m) (leads turns)
      (from_spot w h (suc out.0) _ out.2))
      (omega (arith, less, few))
  step_of w (ends r r' h n next to asked walked few moves leads same over free) =
      let out = walks_out set h.code h.frame h.outer h.state n 0 h.spot to next asked walked in
      let turns = 0 + out.0 in
      let less = out.1 in
      runs.ends r (r' turns) (suc out.0) moves
      (subst (λ (m : Move (State P C F X)). Leads (device set) (suc out.0) (right w) m) (leads turns)
      (from_spot w h (suc out.0) _ out.2))
      (omega (arith, less, few)) (same turns) over free
  step_of w (begins v moves alike rests le step) = from_there a (device set) left right most measure w v moves alike
      rests le (step_of v step)

  module _ (h : Follows a set left right most measure) where
    simulates : Simulates a (device set) left right most measure
    simulates = record { steps = λ w. step_of w (h.steps w); rests = h.rests; free = h.free; small = h.small }

    -- Whole runs agree, with so many instructions for one.
    pub follows_agree : (w : W) → Agree most (λ n. run a n (left w)) (λ n. run (device set) n (right w))
    follows_agree w = agree a (device set) left right most measure simulates (machine_lawful set) w

    -- and with more
    pub follows_agree_within : (bound : ℕ) → most ≤ bound → (w : W) → Agree bound (λ n. run a n (left w)) (λ n.
        run (device set) n (right w))
    follows_agree_within bound le w = agree_more most bound _ _ le (follows_agree w)
