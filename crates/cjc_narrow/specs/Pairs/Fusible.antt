-- Which pairs of an aload_0 and a field instruction may be written as one: the field instruction takes the reference
-- that the aload_0 pushed, nothing but one constant or local is pushed between them, execution comes from the one to
-- the other alone, and the same handlers cover all of it.
use Rattle.std.specs.Prelude.{◌≡◌, ℕ, ◌≤◌, ◌+◌, drop, take, List, [], ◌∷◌, slice_get, Some, Bool, true}
use Rattle.std.specs.Prelude.{false}
use Rattle.std.specs.Prelude.{◌&&◌, if◌then◌else◌}
use Rattle.cjc_ncode.specs.declared.narrow.PairRole.TheVariants.{Opens, Closes}
use Rattle.cjc_narrow.specs.Pairs.Roles.{roles_from}
use Rattle.cjc_narrow.specs.declared.select.pairs.PairKind.{PairKind}
use Rattle.cjc_narrow.specs.declared.select.pairs.PairKind.TheVariants.{Silent, This, Pushes, Gets, Puts, Other}
use Rattle.cjc_narrow.specs.declared.select.pairs.PairStep.{PairStep}

-- something is written for it
abbrev pub is_written : PairKind → Bool
is_written Silent = false
is_written This = true
is_written Pushes = true
is_written Gets = true
is_written Puts = true
is_written Other = true

-- what is written, in order
abbrev pub kinds_written : List PairStep → List PairKind
kinds_written [] = []
kinds_written (s ∷ steps) = if is_written s.kind then s.kind ∷ kinds_written steps else kinds_written steps

-- a putfield alone
abbrev pub is_put : List PairKind → Bool
is_put (Puts ∷ []) = true
is_put kinds = false

-- behind an aload_0: a getfield, or a constant or local and a putfield
abbrev pub is_access : List PairKind → Bool
is_access (Gets ∷ []) = true
is_access (This ∷ kinds) = is_put kinds
is_access (Pushes ∷ kinds) = is_put kinds
is_access kinds = false

-- each is joined to the one before it
abbrev pub all_joined : List PairStep → Bool
all_joined [] = true
all_joined (s ∷ steps) = s.joined && all_joined steps

-- An aload_0 and the last of so many instructions behind it are a pair.
pub record IsFusible (steps : List PairStep) (first count : ℕ) : Type 0 where
  pub load : PairStep
  pub there : slice_get steps first ≡ Some load
  pub loads : load.kind ≡ This
  pub joined : all_joined (take count (drop (first + 1) steps)) ≡ true
  pub access : is_access (kinds_written (take count (drop (first + 1) steps))) ≡ true

-- Each aload_0 that opens a pair may be written as one with a field instruction, and none that may is left.
pub record FusesAll (steps : List PairStep) : Type 0 where
  pub fused : (first : ℕ) → slice_get (roles_from false steps) first ≡ Some Opens → (count : ℕ)
      × IsFusible steps first count
  pub none_left : (first count : ℕ) → IsFusible steps first count
      → slice_get (roles_from false steps) first ≡ Some Opens

-- a field instruction with an index of one byte
abbrev pub accesses : PairKind → Bool
accesses Gets = true
accesses Puts = true
accesses kind = false

-- the instruction at a place closes a pair that is open before the first
pub record IsClosed (steps : List PairStep) (n : ℕ) : Type 0 where
  pub step : PairStep
  pub there : slice_get steps n ≡ Some step
  pub takes : accesses step.kind ≡ true
  pub closes : slice_get (roles_from true steps) n ≡ Some Closes
  pub joined : (k : ℕ) (s : PairStep) → k ≤ n → slice_get steps k ≡ Some s → s.joined ≡ true
