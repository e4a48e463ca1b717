-- The first of the rules that are broken so, as code keeps it: of several ways to break rules each by itself.
use Rattle.std.specs.Prelude.{Option, Some, None}
use Rattle.cjc_bytes.specs.Breaks.{Break}
use Rattle.cjc_bytes.specs.Order.{NotAfter}

-- the rule is broken so, and no other that is stands before it
pub record IsFirstSo (IsBroken : Break → Type 0) (b : Break) : Type 0 where
  pub broken : IsBroken b
  pub first : (other : Break) → IsBroken other → NotAfter b.rank other.rank

-- None where no rule is broken so, else the first
abbrev pub IsFirstWhere : (Break → Type 0) → Option Break → Type 0
IsFirstWhere IsBroken None = (b : Break) → IsBroken b → ⊥
IsFirstWhere IsBroken (Some b) = IsFirstSo IsBroken b
