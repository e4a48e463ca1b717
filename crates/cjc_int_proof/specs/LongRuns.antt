-- A machine that makes one instruction or more for each of another's: what is asked of one step, whatever the rows are.
use Rattle.std.specs.Prelude.{◌≡◌, ◌≢◌, ℕ, suc, ◌+◌, ◌≤◌, List}
use Rattle.cjc_layout.specs.Script.declared.report.Outcome.TheVariants.{Running, Stuck}
use Rattle.cjc_layout.specs.Script.declared.report.Report.{Report}
use Rattle.cjc_layout.specs.CardSemantics.Bytecode.Effects.{Effect}
use Rattle.cjc_layout.specs.CardSemantics.Bytecode.Machine.{Setting, State, Frame}
use Rattle.cjc_layout.specs.CardSemantics.Bytecode.Runs.{Device, On, Over, Alike, device, led}
use Rattle.cjc_int_proof.specs.Walks.{Spot, Within, Out, walk, at_spot, turn_out}

-- W: the couples of states that belong together; `most`: the instructions of the second machine for one of the first;
-- `measure` falls where the second has nothing to do.
module _ {S W P C F N M X : Type 0} (a : Device S) (set : Setting P C F N M X) (left : W → S) (right : W
    → State P C F X) (most : ℕ) (measure : W → ℕ) where
  -- The second state of a couple has its innermost frame at a spot of some code.
  pub record Stands (w : W) : Type 0 where
    pub code : P
    pub frame : Frame P
    pub outer : List (Frame P)
    pub state : State P C F X
    pub spot : Spot C F X
    pub is : right w ≡ at_spot set code frame outer state spot 0

  -- What one step of the first machine is to the second.
  pub data LongSteps : W → Type 0 where
    -- nothing is written for it
    silent : {w : W} (v : W) → a.move (left w) ≡ On (left v) → (device set).move (right w) ≡ (device set).move (right v)
        → Alike ((device set).rest (right w)) ((device set).rest (right v)) → measure v + 1 ≤ measure w → LongSteps w
    -- instructions that stay in their frame, one at least
    stays : {w : W} (v : W) (h : Stands w) (n : ℕ) (to : Spot C F X) → walk set h.code (suc n) h.spot ≡ Within to
        → suc n ≤ most
        → a.move (left w) ≡ On (left v) → right v ≡ at_spot set h.code h.frame h.outer h.state to (suc n) → LongSteps w
    -- instructions of which one leads out of the frame: to another couple, whatever was spent before it
    leaves : {w : W} (v : (turns : ℕ) → W) (h : Stands w) (n next : ℕ) (to : Spot C F X) (asked : Effect C F M X)
        → walk set h.code n h.spot ≡ Out to next asked → n ≤ most
        → ((turns : ℕ) → a.move (left w) ≡ On (left (v turns)))
        → ((turns : ℕ) → led set (turn_out set h.code h.frame h.outer h.state to next turns asked)
        ≡ On (right (v turns))) → LongSteps w
    -- or to the end of both
    ends : {w : W} (r : Report) (r' : (turns : ℕ) → Report) (h : Stands w) (n next : ℕ) (to : Spot C F X)
        (asked : Effect C F M X) → walk set h.code n h.spot ≡ Out to next asked → n ≤ most → a.move (left w) ≡ Over r
        → ((turns : ℕ) → led set (turn_out set h.code h.frame h.outer h.state to next turns asked) ≡ Over (r' turns))
        → ((turns : ℕ) → Alike (r' turns) r) → r.outcome ≢ Running → ((at : ℕ) → r.outcome ≢ Stuck at) → LongSteps w
    -- the step of the couple in which an entry has begun
    begins : {w : W} (v : W) → a.move (left w) ≡ a.move (left v)
        → (device set).move (right w) ≡ (device set).move (right v)
        → Alike ((device set).rest (right w)) ((device set).rest (right v)) → measure v ≤ measure w → LongSteps v
        → LongSteps w

  -- Each step of the first machine is followed by the second.
  pub record Follows : Type 0 where
    pub steps : (w : W) → LongSteps w
    pub rests : (w : W) → Alike ((device set).rest (right w)) (a.rest (left w))
    pub free : (w : W) (at : ℕ) → (a.rest (left w)).outcome ≢ Stuck at
    pub small : (w : W) → measure w ≤ 65534
