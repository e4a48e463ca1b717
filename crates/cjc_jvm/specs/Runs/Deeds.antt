-- What is left to do of an instruction that has changed its frame and the store.
use Rattle.std.specs.Prelude.{ℕ, ◌+◌, ◌<◌, List, ◌∷◌, length, slice_get}
use Rattle.cjc_jvm_step.specs.CardSemantics.Bytecode.Runs.{Move, On}
use Rattle.cjc_jvm_semantics.specs.Linked.{Linked}
use Rattle.cjc_jvm_semantics.specs.Machine.{Frame, State, after_athrow, after_fault, after_lookup, after_return}
use Rattle.cjc_jvm_semantics.specs.Machine.{heap_of, holder_of, offset, stuck_at, with_frames}
use Rattle.cjc_jvm_step.specs.declared.frame.deed.Deed.{Deed}
use Rattle.cjc_jvm_step.specs.declared.frame.deed.Deed.TheVariants.{Go, Raise, Toss, Invoke, Leave, Stick}
use Rattle.cjc_jvm_step.specs.Frame.Deeds.{fault_of}

-- the move that an instruction asks for
abbrev pub after_deed : Linked → Deed → Frame → List Frame → State → Move State
after_deed l Go f outer s = On (with_frames (f ∷ outer) s)
after_deed l (Raise e) f outer s = after_fault l (fault_of e) f outer s
after_deed l (Toss k) f outer s = after_athrow l (slice_get (heap_of s) k) f outer k s
after_deed l (Invoke op id) f outer s = after_lookup l (l.call (holder_of f) op id.now) id.now f outer s
after_deed l (Leave v) f outer s = after_return l v f outer s
after_deed l Stick f outer s = stuck_at (offset f) s

-- a frame that has not gone on stands at its instruction
abbrev pub IsInside : Deed → Frame → Type 0
IsInside Go f = Unit {0}
IsInside (Raise e) f = f.at < length f.method.insns
IsInside (Toss k) f = f.at < length f.method.insns
IsInside (Invoke op id) f = f.at < length f.method.insns
IsInside (Leave v) f = f.at < length f.method.insns
IsInside Stick f = f.at < length f.method.insns

-- only an instruction that goes on has made an array or object
abbrev pub most_after : Deed → ℕ → ℕ
most_after Go n = n + 1
most_after (Raise e) n = n
most_after (Toss k) n = n
most_after (Invoke op id) n = n
most_after (Leave v) n = n
most_after Stick n = n
