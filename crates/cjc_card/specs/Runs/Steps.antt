-- What is left to do of an instruction that has changed its frame, the heap and the static cells.
use Rattle.std.specs.Prelude.{ℕ, ◌+◌, List, ◌∷◌, Some, slice_get}
use Rattle.cjc_card_semantics.specs.CapRead.Decode.{Instruction}
use Rattle.cjc_card_semantics.specs.Bytecode.Machine.{Next, StuckAt, counted, turn_after_fault, turn_after_fetch, left}
use Rattle.cjc_card_semantics.specs.Bytecode.Machine.{turn_after_toss}
use Rattle.cjc_card_semantics.specs.Machine.Loaded.{Loaded}
use Rattle.cjc_card_semantics.specs.Machine.ByToken.{by_token}
use Rattle.cjc_card_semantics.specs.Machine.Methods.{fetched_as}
use Rattle.cjc_card_frame.specs.Frame.Frames.{fault_of}
use Rattle.cjc_card_frame.specs.Kinds.{callee_of, pool_of}
use Rattle.cjc_card_step.specs.declared.effects.deed.Deed.{Deed}
use Rattle.cjc_card_step.specs.declared.effects.deed.Deed.TheVariants.{Go, Raise, Toss, Invoke, Leave, Stick}
use Rattle.cjc_card_step.specs.Effects.Deeds.{words_in}
use Rattle.cjc_card.specs.Acts.States.{FrameByToken, StateByToken, TurnByToken}
use Rattle.cjc_card.specs.States.{heap_of, with_frames}

-- where an instruction leads that stands at a frame's place
abbrev pub made_by : Loaded → Instruction → FrameByToken → List FrameByToken → StateByToken → TurnByToken
made_by l i f outer s = let p = (let code = f.code in code.part)
    in turn_after_fetch (by_token l) (Some (fetched_as l p (pool_of l p) f.at i)) f outer s

-- where what it asks for leads, with the places where going on leads and behind it
abbrev pub after_deed : Loaded → Deed → (to next : ℕ) → FrameByToken → List FrameByToken → StateByToken → TurnByToken
after_deed l Go to next f outer s = Next (with_frames (record f { at = to } ∷ outer) s)
after_deed l (Raise e) to next f outer s = turn_after_fault (by_token l) (fault_of e) f outer s
after_deed l (Toss k) to next f outer s = turn_after_toss (by_token l) (slice_get (heap_of s) k) f outer k s
after_deed l (Invoke callee) to next f outer s = counted (by_token l) ((by_token l).words (callee_of callee))
    (callee_of callee) (record f { next = next }) outer s
after_deed l (Leave r) to next f outer s = left (by_token l) (words_in r) f outer s
after_deed l Stick to next f outer s = StuckAt f.at s

-- how many arrays and objects there are behind an instruction, of so many before it: only one that goes on has made one
abbrev pub most_after : Deed → ℕ → ℕ
most_after Go n = n + 1
most_after (Raise e) n = n
most_after (Toss k) n = n
most_after (Invoke callee) n = n
most_after (Leave r) n = n
most_after Stick n = n

-- how many there are behind what it asks for: only what follows one that does not go on makes one
abbrev pub most_behind : Deed → ℕ → ℕ
most_behind Go n = n
most_behind (Raise e) n = n + 1
most_behind (Toss k) n = n + 1
most_behind (Invoke callee) n = n + 1
most_behind (Leave r) n = n + 1
most_behind Stick n = n + 1
