-- The state of a run between the frame under way and the rest, and what a step leaves.
use Rattle.std.specs.Prelude.{◌≡◌, ℕ, ◌+◌, List, ◌∷◌, ◌++◌, length, reverse, nat_le, sum_by, Option, Some, None, Bool}
use Rattle.std.specs.Prelude.{true, false}
use Rattle.cjc_script.specs.declared.value.Value.{Value}
use Rattle.cjc_card_semantics.specs.Bytecode.Machine.{Next, Ended, StuckAt}
use Rattle.cjc_card.specs.Acts.States.{FrameByToken, HeapByToken, StateByToken, TurnByToken}
use Rattle.cjc_card.specs.declared.turns.after.After.{After}
use Rattle.cjc_card.specs.declared.turns.after.After.TheVariants as afters
use Rattle.cjc_card.specs.declared.turns.throws.Handling.{Handling}
use Rattle.cjc_card.specs.declared.turns.throws.Handling.TheVariants.{Caught, Full, Past}

-- all frames, the one under way first
abbrev pub frames_of : Option FrameByToken → List FrameByToken → List FrameByToken
frames_of None outer = outer
frames_of (Some f) outer = f ∷ outer

-- a state with these frames
abbrev pub with_frames : List FrameByToken → StateByToken → StateByToken
with_frames frames s = record s { frames = frames }

-- a state with the frame under way
abbrev pub with_frame : Option FrameByToken → StateByToken → StateByToken
with_frame top s = with_frames (frames_of top s.frames) s

-- a step goes on with this frame, or has ended or is stuck so, where the rest is this state; what has ended keeps the
-- frames that it had
abbrev pub Leads : (had : List FrameByToken) → TurnByToken → After → StateByToken → Type 0
Leads had turn (afters.On top) s = turn ≡ Next (with_frame top s)
Leads had turn (afters.Ended o) s = turn ≡ Ended o (with_frames had s)
Leads had turn (afters.Stuck at) s = turn ≡ StuckAt at (with_frames had s)

-- a frame has caught, cannot, or lets an exception pass
abbrev pub handled : Handling → (from : ℕ) → FrameByToken → List FrameByToken → StateByToken → TurnByToken → TurnByToken
handled Caught from f outer s past = Next (with_frames (f ∷ outer) s)
handled Full from f outer s past = StuckAt from s
handled Past from f outer s past = past

-- arrays and objects of a state
abbrev pub heap_of : StateByToken → HeapByToken
heap_of s = let m = s.memory in m.heap

-- the arrays and objects that there are, and as many as the acts of what is left of a script may make
abbrev pub objects_at_most : StateByToken → ℕ
objects_at_most s = length (heap_of s) + sum_by (λ e. length e.acts) s.entries + sum_by (λ a. length a.acts) s.answers

-- a frame behind its call, with these words more where there is room
abbrev pub resumed : (fits : Bool) → List Value → FrameByToken → FrameByToken
resumed true words f = record f { at = f.next; stack = reverse words ++ f.stack }
resumed false words f = f

-- The words of a result have gone to the frame that called, where its stack has room for them.
abbrev pub IsResumed : (fits : Bool) → List Value → (old new : FrameByToken) → Type 0
IsResumed fits words old new = (fits ≡ nat_le (length (reverse words ++ old.stack)) (let code = old.code in code.room))
    × (new ≡ resumed fits words old)
