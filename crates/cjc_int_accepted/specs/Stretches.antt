-- The card's instructions of a method in stretches, each written for one instruction of a class file: the frame before
-- the first of a stretch, and those to which its instructions lead in turn.
use Rattle.std.specs.Prelude.{◌≡◌, ℕ, ◌+◌, ◌<◌, zero, suc, true, List, [], ◌∷◌, length, flat_map, slice_get, Some}
use Rattle.std.specs.List.{Contains}
use Rattle.cjc_types.specs.States.{states}
use Rattle.cjc_types.specs.declared.state.State.{State}
use Rattle.cjc_frames.specs.Acts.{Breaks, Subtype, after}
use Rattle.cjc_frames.specs.Flow.{Body, caught, covers, entry, place_at}
use Rattle.cjc_frames.specs.declared.acts.Catch.{Catch}
use Rattle.cjc_frames.specs.declared.acts.Step.{Step}
use Rattle.cjc_accepted_proof.specs.Blocks.{goes_on}

-- What is written for one instruction of a class file, and the frame before it.
pub record Stretch : Type 0 where
  pub steps : List Step
  pub before : State

-- the card's instructions of all
abbrev pub steps_in : List Stretch → List Step
steps_in stretches = flat_map (λ (t : Stretch). t.steps) stretches

-- the frame behind instructions that follow each other
abbrev pub frame_through : List Step → State → State
frame_through [] x = x
frame_through (s ∷ steps) x = frame_through steps (after s.act x)

-- the frame before each of them
abbrev pub frames_along : List Step → State → List State
frames_along [] x = []
frames_along (s ∷ steps) x = x ∷ frames_along steps (after s.act x)

-- of all
abbrev pub frames_in : List Stretch → List State
frames_in stretches = flat_map (λ (t : Stretch). frames_along t.steps t.before) stretches

-- how many of the card's instructions stand before those of a stretch
abbrev pub label_in : List Stretch → (place : ℕ) → ℕ
label_in stretches zero = 0
label_in [] (suc place) = 0
label_in (t ∷ stretches) (suc place) = length t.steps + label_in stretches place

-- a label is that of a stretch before which the card knows no more than in this frame
pub record LeadsTo (count : ℕ) (stretches : List Stretch) (label : ℕ) (x : State) : Type 0 where
  pub place : ℕ
  pub stretch : Stretch
  pub there : slice_get stretches place ≡ Some stretch
  pub is : label_in stretches place ≡ label
  pub below : (let s = states count in s.Below x stretch.before)

-- An instruction of a stretch: which it is, and the frame before it.
pub record IsAlong (t : Stretch) (index : ℕ) (s : Step) (x : State) : Type 0 where
  pub step : slice_get t.steps index ≡ Some s
  pub frame : slice_get (frames_along t.steps t.before) index ≡ Some x

-- A jump leads to another stretch, or to an instruction of its own.
pub data JumpsTo (count : ℕ) (stretches : List Stretch) (place : ℕ) (t : Stretch) (label : ℕ) (x : State) :
    Type 0 where
  out : LeadsTo count stretches label x → JumpsTo count stretches place t label x
  within : (index : ℕ) (s : Step) (y : State) → IsAlong t index s y → label ≡ label_in stretches place + index
      → (let s = states count in s.Below x y) → JumpsTo count stretches place t label x

-- The card's instructions of a method are those of these stretches: the entry leads to the first one, each to the next
-- one where it may follow, and to those where its jumps and handlers lead.
pub record AreStretches (is_of : Subtype) (b : Body) (stretches : List Stretch) : Type 0 where
  pub steps : b.steps ≡ steps_in stretches
  pub own : (place : ℕ) (t : Stretch) → slice_get stretches place ≡ Some t
      → (let s = states b.local_count in s.Own t.before)
  pub unbroken : (place : ℕ) (t : Stretch) → slice_get stretches place ≡ Some t → (index : ℕ) (s : Step) (x : State)
      → IsAlong t index s x → (rule : ℕ) → Breaks is_of b.max_stack s.act x rule → ⊥
  pub first : 0 < length b.steps → LeadsTo b.local_count stretches 0 (entry b)
  pub next : (place : ℕ) (t : Stretch) → slice_get stretches place ≡ Some t → goes_on t.steps ≡ true → (n : Stretch)
      × (slice_get stretches (suc place) ≡ Some n)
      × (let s = states b.local_count in s.Below (frame_through t.steps t.before) n.before)
  pub jumps : (place : ℕ) (t : Stretch) → slice_get stretches place ≡ Some t → (index : ℕ) (s : Step) (x : State)
      → IsAlong t index s x → (offset label : ℕ) → Contains (let a = s.act in a.targets) offset
      → place_at b.steps offset ≡ Some label → JumpsTo b.local_count stretches place t label (after s.act x)
  pub handlers : (place : ℕ) (t : Stretch) → slice_get stretches place ≡ Some t → (index : ℕ) (s : Step) (x : State)
      → IsAlong t index s x → (c : Catch) → Contains b.catches c → covers c s.at ≡ true → (label : ℕ)
      → place_at b.steps c.target ≡ Some label → LeadsTo b.local_count stretches label (caught c x)
