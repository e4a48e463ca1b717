-- A broken sentence as a break, in the order in which sentences are tested: those that it needs are true.
use Rattle.std.specs.Prelude.{ℕ, Bool, true, false, Option, Some, None, if◌then◌else◌}
use Rattle.cjc_capread.specs.Bytes.Breaks.{Break}
use Rattle.cjc_check_rules.specs.declared.spot.ComponentPlace.{ComponentPlace}
use Rattle.cjc_check_rules.specs.Consistent.{break_at}

-- where those that it needs are true
abbrev pub as_break : (number : ℕ) → (needed : Bool) → Option ComponentPlace → Option Break
as_break number needed None = None
as_break number needed (Some s) = if needed then Some (break_at number s) else None
