-- An instruction that has followed its row, as the machine goes on from it.
use Rattle.std.proofs.Common.{◌≡◌, ℕ, ◌+◌, ◌≤◌, List, length, refl, sym, ap, ◌∙◌, arith}
use Rattle.std.specs.Prelude.{Some, None, option_map, slice_get}
use Rattle.cjc_card_semantics.specs.CapRead.Decode.{Instruction, size}
use Rattle.cjc_card_semantics.specs.Bytecode.Machine.{StuckAt, counted, turn_after_fault, turn_after_fetch, left, made}
use Rattle.cjc_card_semantics.specs.Bytecode.Machine.{turn_after_toss}
use Rattle.cjc_card_semantics.specs.Machine.Loaded.{Loaded}
use Rattle.cjc_card_semantics.specs.Machine.ByToken.{by_token}
use Rattle.cjc_card_semantics.specs.Machine.Methods.{fetch, fetched_as}
use Rattle.cjc_card_frame.specs.Frame.Frames.{Words, fault_of}
use Rattle.cjc_card_frame.specs.Kinds.{callee_of, pool_of}
use Rattle.cjc_card_step.specs.declared.effects.deed.Deed.{Deed}
use Rattle.cjc_card_step.specs.declared.effects.deed.Deed.TheVariants.{Go, Raise, Toss, Invoke, Leave, Stick}
use Rattle.cjc_card_step.specs.Effects.Deeds.{EffectByToken, Follows, MemoryByToken, words_in}
use Rattle.cjc_card.specs.Acts.States.{FrameByToken, StateByToken, TurnByToken}
use Rattle.cjc_card.specs.States.{heap_of, with_frames}
use Rattle.cjc_card_step.specs.Rows.{operation_at, row_of}
use Rattle.cjc_card.specs.Runs.Steps.{after_deed, made_by, most_after, most_behind}

-- a frame with these words
abbrev pub with_words : Words → FrameByToken → FrameByToken
with_words w f = record f { stack = w.stack; locals = w.locals }

-- a state with this memory
abbrev pub with_memory : MemoryByToken → StateByToken → StateByToken
with_memory m s = record s { memory = m }

module _ (l : Loaded) (f : FrameByToken) (w : Words) (e : EffectByToken) (v : StateByToken) (m : MemoryByToken)
    (to next : ℕ) (outer had : List FrameByToken) where
  -- a step by the frame and the memory, which are as they were
  still : (done : EffectByToken) (go : FrameByToken → StateByToken → TurnByToken) → e ≡ done
      → made (by_token l) done next f outer (with_frames had v) ≡ go f (with_frames had v)
      → (w ≡ record { stack = f.stack; locals = f.locals }) × (m ≡ v.memory)
      → made (by_token l) e next f outer (with_frames had v) ≡ go (with_words w f) (with_frames had (with_memory m v))
  still done go is goes same =
      ap (λ x. made (by_token l) x next f outer (with_frames had v)) is
      ∙ goes
      ∙ ap (λ (u : Words). go (with_words u f) (with_frames had v)) (sym same.0)
      ∙ ap (λ (n : MemoryByToken). go (with_words w f) (with_frames had (with_memory n v))) (sym same.1)

  -- by what it asks for
  pub goes_on : (deed : Deed) → Follows e deed to (record { stack = f.stack; locals = f.locals }) w v.memory m
      → made (by_token l) e next f outer (with_frames had v) ≡ after_deed l deed to next (with_words w f) outer
      (with_frames had (with_memory m v))
  goes_on Go row = ap (λ x. made (by_token l) x next f outer (with_frames had v)) row.same
  goes_on (Raise x) row = still _ (λ g s. turn_after_fault (by_token l) (fault_of x) g outer s) row.same refl row.keeps
  goes_on (Toss k) row = still _ (λ g s. turn_after_toss (by_token l) (slice_get (heap_of s) k) g outer k s) row.same
      refl row.keeps
  goes_on (Invoke callee) row = still _ (λ g s. counted (by_token l) ((by_token l).words (callee_of callee))
      (callee_of callee) (record g { next = next }) outer s) row.same refl row.keeps
  goes_on (Leave r) row = still _ (λ g s. left (by_token l) (words_in r) g outer s) row.same refl row.keeps
  goes_on Stick row = still _ (λ g s. StuckAt g.at s) row.same refl row.keeps

-- as many arrays and objects as there were, or one more, beside those that acts may make
as_many : (a b : ℕ) (m m' : MemoryByToken) → m' ≡ m → length m'.heap + a + b ≤ length m.heap + a + b
as_many a b m m' same = omega (arith, ap (λ (n : MemoryByToken). length n.heap) same)

pub at_most : (a b : ℕ) (deed : Deed) (to : ℕ) (old new : Words) (e : EffectByToken) (m m' : MemoryByToken)
    → Follows e deed to old new m m' → length m'.heap ≤ length m.heap + 1
    → length m'.heap + a + b ≤ most_after deed (length m.heap + a + b)
at_most a b Go to old new e m m' row few = omega (arith, few)
at_most a b (Raise x) to old new e m m' row few = as_many a b m m' row.keeps.1
at_most a b (Toss k) to old new e m m' row few = as_many a b m m' row.keeps.1
at_most a b (Invoke callee) to old new e m m' row few = as_many a b m m' row.keeps.1
at_most a b (Leave r) to old new e m m' row few = as_many a b m m' row.keeps.1
at_most a b Stick to old new e m m' row few = as_many a b m m' row.keeps.1

-- together at most one more
pub one_more : (deed : Deed) (n m : ℕ) → m ≤ most_after deed n → most_behind deed m ≤ n + 1
one_more Go n m h = h
one_more (Raise x) n m h = omega (arith, h)
one_more (Toss k) n m h = omega (arith, h)
one_more (Invoke callee) n m h = omega (arith, h)
one_more (Leave r) n m h = omega (arith, h)
one_more Stick n m h = omega (arith, h)

-- ---- the look-ups of the machine by token

module _ (l : Loaded) (f : FrameByToken) where
  -- what an instruction at the frame's place does, where the place behind it is this
  abbrev pub effect_at : Instruction → (next : ℕ) → MemoryByToken → EffectByToken
  effect_at i next m = let code = f.code in row_of l (operation_at l code.part f.at i) code.room next f.locals m f.stack

  made_as : (i : Instruction) (next : ℕ) (outer : List FrameByToken) (s : StateByToken) → next ≡ f.at + size i
      → made_by l i f outer s ≡ made (by_token l) (effect_at i next s.memory) next f outer s
  unfolding by_token
  made_as i next outer s e = ap (λ n. made (by_token l) (effect_at i n s.memory) n f outer s) (sym e)

  -- an instruction that has followed its row
  pub acted_on : (i : Instruction) (next : ℕ) (w : Words) (v : StateByToken) (m : MemoryByToken) (to : ℕ)
      (had : List FrameByToken) (deed : Deed) → next ≡ f.at + size i
      → Follows (effect_at i next v.memory) deed to (record { stack = f.stack; locals = f.locals }) w v.memory m
      → made_by l i f v.frames (with_frames had v) ≡ after_deed l deed to next (with_words w f) v.frames
      (with_frames had (with_memory m v))
  acted_on i next w v m to had deed e row =
      made_as i next v.frames (with_frames had v) e
      ∙ goes_on l f w (effect_at i next v.memory) v m to next v.frames had deed row

  -- the instruction that is found
  pub fetched_by : (outer : List FrameByToken) (s : StateByToken) (i : Instruction)
      → (let code = f.code in option_map (fetched_as l code.part (pool_of l code.part) f.at) (Some i)
      ≡ fetch l f.code f.at) → turn_after_fetch (by_token l) ((by_token l).fetch f.code f.at) f outer s
      ≡ made_by l i f outer s
  unfolding by_token
  fetched_by outer s i e = ap (λ o. turn_after_fetch (by_token l) o f outer s) (sym e)

  -- none is found
  pub fetched_none : (outer : List FrameByToken) (s : StateByToken)
      → (let code = f.code in option_map (fetched_as l code.part (pool_of l code.part) f.at) None ≡ fetch l f.code f.at)
      → turn_after_fetch (by_token l) ((by_token l).fetch f.code f.at) f outer s ≡ StuckAt f.at s
  unfolding by_token
  fetched_none outer s e = ap (λ o. turn_after_fetch (by_token l) o f outer s) (sym e)
