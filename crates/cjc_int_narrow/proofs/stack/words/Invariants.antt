use Rattle.std.proofs.Common.{◌≡◌, ◌≤◌, ◌*◌, take, Bool}
use Rattle.std.specs.Prelude.{sum_by, if◌then◌else◌}
use Rattle.cjc_int_narrow.proofs.stack.words.Given as goal

abbrev pub invariant-loop-is_reference : goal.invariant-loop-is_reference
invariant-loop-is_reference l = record {
  sum : l.sum ≡ sum_by (λ (r : Bool). if r then 1 else 2) (take l.is_reference-index l.kept);
  few : l.sum ≤ 2 * l.is_reference-index;
}
