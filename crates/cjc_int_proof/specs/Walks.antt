-- What a frame does while no instruction leaves it: from a place on, one instruction behind the other.
use Rattle.std.specs.Prelude.{◌≡◌, ℕ, zero, suc, ◌+◌, ◌≤◌, List, ◌∷◌, Option, Some, None}
use Rattle.cjc_layout.specs.Script.declared.value.Value.{Value}
use Rattle.cjc_layout.specs.CardSemantics.Bytecode.Effects.{Memory, Effect, Go, Raise, Toss, Invoke, Leave, Stick}
use Rattle.cjc_layout.specs.CardSemantics.Bytecode.Effects.{effect}
use Rattle.cjc_layout.specs.CardSemantics.Bytecode.Machine.{Setting, State, Fetched, Frame, Turn, made, spent_by}
use Rattle.cjc_layout.specs.CardSemantics.Bytecode.Runs.{On, Leads, device, led}

-- where a frame is: its place, its operands with the top first, its locals, and the arrays, objects and static cells
pub record Spot (C F X : Type 0) : Type 0 where
  pub at : ℕ
  pub stack : List Value
  pub locals : List (Option Value)
  pub memory : Memory C F X

-- where instructions lead: to another spot, or out of the frame, where the instruction at a spot asks for something
-- else than to go on; `next` is the place behind it
pub data Walked (C F M X : Type 0) : Type 0 where
  Within : (spot : Spot C F X) → Walked C F M X
  Out : (spot : Spot C F X) (next : ℕ) (asked : Effect C F M X) → Walked C F M X

-- another spot goes on, and where one led out nothing follows
abbrev pub and_then : {C F M X : Type 0} → Walked C F M X → (Spot C F X → Walked C F M X) → Walked C F M X
and_then (Within spot) go = go spot
and_then (Out spot next asked) go = Out spot next asked

module _ {P C F S M X : Type 0} (set : Setting P C F S M X) (code : P) where
  -- what an instruction at a spot leads to
  abbrev pub led_by : Spot C F X → (next : ℕ) → Effect C F M X → Walked C F M X
  led_by spot next (Go at stack locals memory) = Within (record {
    at = at;
    stack = stack;
    locals = locals;
    memory = memory;
  })
  led_by spot next (Raise fault) = Out spot next (Raise fault)
  led_by spot next (Toss object) = Out spot next (Toss object)
  led_by spot next (Invoke method) = Out spot next (Invoke method)
  led_by spot next (Leave words) = Out spot next (Leave words)
  led_by spot next Stick = Out spot next Stick

  -- the instruction that stands at a spot; where none does the machine is stuck there
  abbrev pub done_by : Spot C F X → Option (Fetched C F S M) → Walked C F M X
  done_by spot None = Out spot spot.at Stick
  done_by spot (Some i) = led_by spot i.next (effect set.classes i.operation (set.room code) i.next spot.locals
      spot.memory spot.stack)

  -- one instruction
  abbrev pub step_from : Spot C F X → Walked C F M X
  step_from spot = done_by spot (set.fetch code spot.at)

  -- so many instructions, or up to the one that leads out
  abbrev pub walk : ℕ → Spot C F X → Walked C F M X
  walk zero spot = Within spot
  walk (suc n) spot = and_then (step_from spot) (walk n)

  -- ---- in a state of the machine

  -- a state whose innermost frame is at a spot, after so many instructions more
  abbrev pub at_spot : Frame P → List (Frame P) → State P C F X → Spot C F X → (spent : ℕ) → State P C F X
  at_spot f outer s spot spent = record s {
    frames = record f {
      code = code;
      at = spot.at;
      stack = spot.stack;
      locals = spot.locals;
    } ∷ outer;
    memory = spot.memory;
    spent = s.spent + spent;
  }

  -- the turn of an instruction that leads out of the frame, after so many instructions
  abbrev pub turn_out : Frame P → List (Frame P) → State P C F X → Spot C F X → (next spent : ℕ) → Effect C F M X
      → Turn P C F X
  turn_out f outer s spot next spent asked = spent_by set (s.spent + spent) (made set asked next (record f {
    code = code;
    at = spot.at;
    stack = spot.stack;
    locals = spot.locals;
  }) outer (at_spot f outer s spot (spent + 1)))

  -- Instructions that lead to a spot are as many turns of the machine.
  abbrev pub LeadsOn : Type 0
  LeadsOn =
      (f : Frame P) (outer : List (Frame P)) (s : State P C F X) (n before : ℕ) (from to : Spot C F X)
      → walk (suc n) from ≡ Within to → Leads (device set) (suc n) (at_spot f outer s from before)
      (On (at_spot f outer s to (before + suc n)))

  -- Where they lead out of the frame, they are at most as many turns, of which the last is that of the instruction.
  abbrev pub LeadsOut : Type 0
  LeadsOut =
      (f : Frame P) (outer : List (Frame P)) (s : State P C F X) (n before : ℕ) (from to : Spot C F X) (next : ℕ)
      (asked : Effect C F M X) → walk n from ≡ Out to next asked → (turns : ℕ) × (suc turns ≤ n)
      × Leads (device set) (suc turns) (at_spot f outer s from before)
      (led set (turn_out f outer s to next (before + turns) asked))

  -- To make some instructions and then others is to make all.
  abbrev pub Splits : Type 0
  Splits = (n k : ℕ) (from : Spot C F X) → walk (n + k) from ≡ and_then (walk n from) (walk k)
