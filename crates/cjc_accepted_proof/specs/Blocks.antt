-- The card's instructions of a method by the instructions of the class file that they are written for: the frames
-- before each, between two that are written for one, and behind it.
use Rattle.std.specs.Prelude.{◌≡◌, ℕ, ◌+◌, ◌<◌, zero, suc, Bool, true, List, [], ◌∷◌, length, flat_map, slice_get}
use Rattle.std.specs.Prelude.{Some, map}
use Rattle.std.specs.List.{Contains}
use Rattle.cjc_types.specs.States.{states}
use Rattle.cjc_types.specs.declared.state.State.{State}
use Rattle.cjc_frames.specs.Acts.{Subtype}
use Rattle.cjc_frames.specs.Flow.{Body, caught, covers, entry, place_at}
use Rattle.cjc_frames.specs.declared.acts.Catch.{Catch}
use Rattle.cjc_frames.specs.declared.acts.Step.{Step}
use Rattle.cjc_accepted_proof.specs.Frames.{Stands}

-- What is written for one instruction of a class file: none, one or two of the card, with the frames before the first,
-- between the two, and behind the last.
pub record Block : Type 0 where
  pub steps : List Step
  pub before : State
  pub middle : State
  pub behind : State

-- the card's instructions of all
abbrev pub steps_of : List Block → List Step
steps_of blocks = flat_map (λ (b : Block). b.steps) blocks

-- the frames of one: before each of its instructions
abbrev pub frames_in : List Step → (before middle : State) → List State
frames_in [] before middle = []
frames_in (s ∷ steps) before middle = before ∷ map (λ (t : Step). middle) steps

-- of all
abbrev pub frames_of : List Block → List State
frames_of blocks = flat_map (λ (b : Block). frames_in b.steps b.before b.middle) blocks

-- how many of the card's instructions stand before those of a block
abbrev pub label_of : List Block → (place : ℕ) → ℕ
label_of blocks zero = 0
label_of [] (suc place) = 0
label_of (b ∷ blocks) (suc place) = length b.steps + label_of blocks place

-- the next instruction may follow behind these
abbrev pub goes_on : List Step → Bool
goes_on [] = true
goes_on (s ∷ []) = let a = s.act in a.falls
goes_on (s ∷ t ∷ steps) = goes_on (t ∷ steps)

-- Each frame breaks no rule and leads to the next one of the block; the first of two goes nowhere else.
pub data AllStand (is_of : Subtype) (count max_stack : ℕ) (before middle behind : State) : List Step → Type 0 where
  nothing : (let s = states count in s.Below before behind) → AllStand is_of count max_stack before middle behind []
  one : {s : Step} → Stands is_of count max_stack s.act before behind → AllStand is_of count max_stack before middle
      behind (s ∷ [])
  two : {s t : Step} → Stands is_of count max_stack s.act before middle → (let a = s.act in a.targets ≡ [])
      → middle.locals ≡ before.locals → Stands is_of count max_stack t.act middle behind
      → AllStand is_of count max_stack before middle behind (s ∷ t ∷ [])

-- a label is that of a block before which the card knows no more than in this frame
pub record LeadsTo (count : ℕ) (blocks : List Block) (label : ℕ) (x : State) : Type 0 where
  pub place : ℕ
  pub block : Block
  pub there : slice_get blocks place ≡ Some block
  pub is : label_of blocks place ≡ label
  pub below : (let s = states count in s.Below x block.before)

-- The card's instructions of a method are those of these blocks: the entry leads to the first one, each to the next one
-- where it may follow, and to those where its jumps and handlers lead.
pub record AreBlocks (is_of : Subtype) (b : Body) (blocks : List Block) : Type 0 where
  pub steps : b.steps ≡ steps_of blocks
  pub own : (place : ℕ) (k : Block) → slice_get blocks place ≡ Some k → (let s = states b.local_count in s.Own k.before
      × s.Own k.middle)
  pub stand : (place : ℕ) (k : Block) → slice_get blocks place ≡ Some k → AllStand is_of b.local_count b.max_stack
      k.before k.middle k.behind k.steps
  pub first : 0 < length b.steps → LeadsTo b.local_count blocks 0 (entry b)
  pub next : (place : ℕ) (k : Block) → slice_get blocks place ≡ Some k → goes_on k.steps ≡ true → (n : Block)
      × (slice_get blocks (suc place) ≡ Some n) × (let s = states b.local_count in s.Below k.behind n.before)
  pub jumps : (place : ℕ) (k : Block) → slice_get blocks place ≡ Some k → (s : Step) → Contains k.steps s
      → (offset label : ℕ) → Contains (let a = s.act in a.targets) offset → place_at b.steps offset ≡ Some label
      → LeadsTo b.local_count blocks label k.behind
  pub handlers : (place : ℕ) (k : Block) → slice_get blocks place ≡ Some k → (s : Step) → Contains k.steps s
      → (c : Catch) → Contains b.catches c → covers c s.at ≡ true → (label : ℕ) → place_at b.steps c.target ≡ Some label
      → LeadsTo b.local_count blocks label (caught c k.before)
