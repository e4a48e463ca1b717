-- Which pair is open before each instruction: behind an aload_0 that is left out, up to the field instruction that
-- takes its reference.
use Rattle.std.specs.Prelude.{ℕ, zero, suc, Bool, true, false, List, [], ◌∷◌}
use Rattle.cjc_ncode.specs.declared.narrow.PairRole.{PairRole}
use Rattle.cjc_ncode.specs.declared.narrow.PairRole.TheVariants.{Alone, Opens, Closes}
use Rattle.cjc_narrow.specs.declared.select.pairs.PairKind.{PairKind}
use Rattle.cjc_narrow.specs.declared.select.pairs.PairKind.TheVariants.{Silent, This, Pushes, Gets, Puts}
use Rattle.cjc_narrow.specs.declared.select.pairs.PairStep.{PairStep}
use Rattle.cjc_narrow.specs.declared.select.pairs.Wait.TheVariants.{Begins}
use Rattle.cjc_narrow.specs.Pairs.Roles.{is_taken, last_wait}

-- no pair; one whose reference is the last that was pushed; one behind whose reference another was pushed
pub data Open : Type 0 where
  closed : Open
  begun : Open
  pushed : Open

-- some pair is open
abbrev pub is_opened : Open → Bool
is_opened closed = false
is_opened begun = true
is_opened pushed = true

-- behind an instruction, where the reference that it pushes is taken or not
abbrev pub open_behind : Open → PairKind → (taken : Bool) → Open
open_behind closed This true = begun
open_behind closed kind taken = closed
open_behind begun Silent taken = begun
open_behind begun This taken = pushed
open_behind begun Pushes taken = pushed
open_behind begun kind taken = closed
open_behind pushed Silent taken = pushed
open_behind pushed kind taken = closed

-- before the instruction at a place, where this is open before the first
abbrev pub open_at : Open → List PairStep → (k : ℕ) → Open
open_at o steps zero = o
open_at o [] (suc k) = closed
open_at o (s ∷ steps) (suc k) = open_at (open_behind o s.kind (is_taken (last_wait Begins steps))) steps k

-- What an instruction is to the pair that is open before it, its role, and what is open behind it.
pub data IsPaired : (before : Open) → (joined : Bool) → PairKind → PairRole → (after : Open) → Type 0 where
  is_alone : {joined : Bool} {kind : PairKind} → IsPaired closed joined kind Alone closed
  opens : {joined : Bool} → IsPaired closed joined This Opens begun
  silent_begun : IsPaired begun true Silent Alone begun
  silent_pushed : IsPaired pushed true Silent Alone pushed
  pushes_this : IsPaired begun true This Alone pushed
  pushes : IsPaired begun true Pushes Alone pushed
  gets : IsPaired begun true Gets Closes closed
  puts : IsPaired pushed true Puts Closes closed
