use Rattle.std.proofs.Common.{◌≡◌, ◌++◌, ◌≤◌, ◌-◌, length, drop}
use Rattle.cjc_bytes.specs.Text.{filled_parts}
use Rattle.cjc_bytes.proofs.text.filled_parts.Given as goal

abbrev pub invariant-loop-n : goal.invariant-loop-n
invariant-loop-n l = record {
  spelt : l.words ++ filled_parts (drop l.at l.line) ≡ filled_parts l.line;
  within : l.at ≤ length l.line;
}

abbrev pub decreases-loop-n : goal.decreases-loop-n
decreases-loop-n l = length l.line - l.at
