use Rattle.std.proofs.Common.{◌≡◌, ◌++◌, drop, map}
use Rattle.std.specs.Prelude.{option_map}
use Rattle.cjc_narrow.specs.Types.Tables.{rows_of}
use Rattle.cjc_int_narrow.specs.Reached.{known}
use Rattle.cjc_int_narrow.specs.Select.{rows_before}
use Rattle.cjc_int_narrow.proofs.known.rows_before.Given as goal

abbrev pub invariant-loop-place : goal.invariant-loop-place
invariant-loop-place l =
    let types = rows_of l.fn.method l.fn.types in
    record {
      frames : l.frames ≡ record { at = l.place; rows = types };
      ranges : l.ranges ≡ record { at = l.place; rows = l.initial.ranges.rows };
      known : map (option_map known) l.rows ++ rows_before l.initial.ranges.rows l.place (drop l.place l.insns)
          (drop l.place types) ≡ rows_before l.initial.ranges.rows 0 l.insns types;
    }
