use Rattle.std.proofs.Common.{take}
use Rattle.std.specs.Prelude.{option_map}
use Rattle.cjc_bytes.specs.Breaks.{IsFirstOf, each}
use Rattle.cjc_bytes.specs.Told.{break_of}
use Rattle.cjc_group.specs.Missing.{member_missing}
use Rattle.cjc_group.proofs.missing.first_missing.Given as goal

abbrev pub invariant-loop-place : goal.invariant-loop-place
invariant-loop-place l = IsFirstOf (each (λ i p. member_missing l.group i p) (take l.place l.group))
    (option_map break_of l.least)
