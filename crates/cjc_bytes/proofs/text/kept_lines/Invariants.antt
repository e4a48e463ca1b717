use Rattle.std.proofs.Common.{◌≡◌, ◌++◌, ◌≤◌, ◌-◌, length, drop}
use Rattle.cjc_bytes.specs.Text.{kept}
use Rattle.cjc_bytes.proofs.text.kept_lines.Given as goal

abbrev pub invariant-loop-n : goal.invariant-loop-n
invariant-loop-n l = record {
  spelt : l.lines ++ kept l.at (drop l.at l.bytes) ≡ kept 0 l.bytes;
  within : l.at ≤ length l.bytes;
}

abbrev pub decreases-loop-n : goal.decreases-loop-n
decreases-loop-n l = length l.bytes - l.at
