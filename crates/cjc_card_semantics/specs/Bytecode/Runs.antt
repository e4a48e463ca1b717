-- Whole runs of any machine, and when one machine follows another that does the same in more or fewer instructions.
use Rattle.std.specs.Prelude.{◌≡◌, ◌≢◌, ◌⊎◌, ℕ, zero, suc, ◌+◌, ◌*◌, ◌≤◌}
use Rattle.cjc_script.specs.declared.report.Outcome.TheVariants.{Running, Stuck}
use Rattle.cjc_script.specs.declared.report.Report.{Report}
use Rattle.cjc_script.specs.Agree.{IsBegun}
use Rattle.cjc_card_semantics.specs.Bytecode.Machine.{Setting, State, Turn, Next, Ended, StuckAt}
use Rattle.cjc_card_semantics.specs.Bytecode.Machine

-- ---- a machine as a run sees it

-- where a turn leads: to another state, or to the last report
pub data Move (S : Type 0) : Type 0 where
  On : (state : S) → Move S
  Over : (report : Report) → Move S

-- a machine as its runs see it
pub record Device (S : Type 0) : Type 0 where
  pub move : S → Move S
  -- the report of no instruction
  pub rest : S → Report

-- the report of a move, or of what follows it
abbrev pub after : {S : Type 0} → Move S → (S → Report) → Report
after (On s) go = go s
after (Over r) go = r

-- the run of n instructions
abbrev pub run : {S : Type 0} → Device S → ℕ → S → Report
run d zero s = d.rest s
run d (suc n) s = after (d.move s) (run d n)

-- the machine of a setting
module _ {P C F S M X : Type 0} (set : Setting P C F S M X) where
  -- the move of a turn
  abbrev pub led : Turn P C F X → Move (State P C F X)
  led (Next s) = On s
  led (Ended o s) = Over (Machine.report set o s)
  led (StuckAt at s) = Over (Machine.report set (Stuck at) s)

  -- the machine of a setting
  abbrev pub device : Device (State P C F X)
  device = record {
    move = λ s. led (Machine.turn set s);
    rest = λ s. Machine.report set (Machine.idle set s.frames s.entries) s;
  }

-- ---- reports of two machines

-- the same notes and outcome, and the same heap and static cells where the run is over
pub record Alike (r r' : Report) : Type 0 where
  pub notes : r.notes ≡ r'.notes
  pub outcome : r.outcome ≡ r'.outcome
  pub heap : r'.outcome ≢ Running → r.heap ≡ r'.heap
  pub statics : r'.outcome ≢ Running → r.statics ≡ r'.statics

-- What is asked of the machine that follows: a run that is over stays over, and no note is taken back.
pub record Lawful {S : Type 0} (d : Device S) : Type 0 where
  pub stays : (m k : ℕ) (s : S) → m ≤ k → (run d m s).outcome ≢ Running → run d k s ≡ run d m s
  pub grows : (m k : ℕ) (s : S) → m ≤ k → IsBegun (run d m s).notes (run d k s).notes

-- ---- one machine follows another

-- so many turns, and where the last leads
pub data Leads {T : Type 0} (b : Device T) : ℕ → T → Move T → Type 0 where
  last : {t : T} {m : Move T} → b.move t ≡ m → Leads b 1 t m
  first : {j : ℕ} {t u : T} {m : Move T} → b.move t ≡ On u → Leads b j u m → Leads b (suc j) t m

-- W: the couples of states that belong together; `most`: the turns of the second for one of the first; `measure` falls
-- where the second has nothing to do.
module _ {S T W : Type 0} (a : Device S) (b : Device T) (left : W → S) (right : W → T) (most : ℕ) (measure : W
    → ℕ) where
  -- What one turn of the first is to the second.
  pub data Steps (w : W) : Type 0 where
    -- nothing
    silent : (v : W) → a.move (left w) ≡ On (left v) → b.move (right w) ≡ b.move (right v)
        → Alike (b.rest (right w)) (b.rest (right v)) → measure v + 1 ≤ measure w → Steps w
    -- both go on to another couple
    onward : (v : W) (j : ℕ) → a.move (left w) ≡ On (left v) → Leads b j (right w) (On (right v)) → j ≤ most → Steps w
    -- both end
    ends : (r r' : Report) (j : ℕ) → a.move (left w) ≡ Over r → Leads b j (right w) (Over r') → j ≤ most → Alike r' r
        → r.outcome ≢ Running → ((at : ℕ) → r.outcome ≢ Stuck at) → Steps w

  -- each turn of the first machine is followed by the second
  pub record Simulates : Type 0 where
    pub steps : (w : W) → Steps w
    pub rests : (w : W) → Alike (b.rest (right w)) (a.rest (left w))
    pub free : (w : W) (at : ℕ) → (a.rest (left w)).outcome ≢ Stuck at
    pub small : (w : W) → measure w ≤ 65534

-- What the reports of two runs have to do with one another, for every number of instructions.
pub record Agree (most : ℕ) (one other : ℕ → Report) : Type 0 where
  pub notes : (n m : ℕ) → IsBegun (one n).notes (other m).notes ⊎ IsBegun (other m).notes (one n).notes
  pub ends : (n m : ℕ) → most * n ≤ m → (one n).outcome ≢ Running → Alike (other m) (one n)
  pub ends_only : (n m : ℕ) → 65536 * (n + 1) ≤ m → (other n).outcome ≢ Running → Alike (one m) (other n)
  pub never_stuck : (n at : ℕ) → ((one n).outcome ≢ Stuck at) × ((other n).outcome ≢ Stuck at)
