-- The state of a run between the frame under way and the rest, and what a move leaves.
use Rattle.std.specs.Prelude.{◌≡◌, ℕ, ◌+◌, List, [], ◌∷◌, length, sum_by, Option, Some, None}
use Rattle.cjc_jvm_step.specs.Script.declared.report.Outcome.{Outcome}
use Rattle.cjc_jvm_step.specs.Script.declared.report.Note.{Note}
use Rattle.cjc_jvm_step.specs.CardSemantics.Bytecode.Runs.{Move, On, Over}
use Rattle.cjc_jvm_semantics.specs.Machine.{Frame, State, report, with_frames, stuck_at, heap_of}
use Rattle.cjc_jvm.specs.declared.turns.after.After.{After}
use Rattle.cjc_jvm.specs.declared.turns.after.After.TheVariants as afters
use Rattle.cjc_jvm.specs.declared.turns.throws.Handling.{Handling}
use Rattle.cjc_jvm.specs.declared.turns.throws.Handling.TheVariants.{Caught, Full, Past}

-- all frames, the one under way first
abbrev pub frames_of : Option Frame → List Frame → List Frame
frames_of None outer = outer
frames_of (Some f) outer = f ∷ outer

-- a state with the frame under way
abbrev pub with_frame : Option Frame → State → State
with_frame top s = record s { frames = frames_of top s.frames }

-- a move goes on with this frame, or has ended so, where the rest is this state
abbrev pub Leads : Move State → After → State → Type 0
Leads move (afters.On top) s = move ≡ On (with_frame top s)
Leads move (afters.Ended o) s = move ≡ Over (report o s)

-- a frame has caught, cannot, or lets an exception pass
abbrev pub handled : Handling → (from : ℕ) → Frame → List Frame → State → Move State → Move State
handled Caught from f outer s past = On (with_frames (f ∷ outer) s)
handled Full from f outer s past = stuck_at from s
handled Past from f outer s past = past

-- the arrays and objects that there are, and as many as the acts of what is left of a script may make
abbrev pub objects_at_most : State → ℕ
objects_at_most s = length (heap_of s) + sum_by (λ e. length e.acts) s.entries + sum_by (λ a. length a.acts) s.answers
