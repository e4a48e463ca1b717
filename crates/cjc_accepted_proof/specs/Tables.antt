-- Tables of types of frames that break no rule.
use Rattle.std.specs.Prelude.{ℕ, List, Option}
use Rattle.cjc_types.specs.declared.state.State.{State}
use Rattle.cjc_frames.specs.Acts.{Subtype}
use Rattle.cjc_frames.specs.Flow.{Body}
use Rattle.cjc_frames.specs.Tables.{Breach}

-- no instruction that the table reaches breaks a rule
abbrev pub BreaksNone : Subtype → Body → List (Option State) → Type 0
BreaksNone is_of b rows = (place rule : ℕ) → Breach is_of b rows place rule → ⊥
