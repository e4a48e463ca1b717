use Rattle.std.proofs.Common.{◌≡◌, ◌≤◌, drop}
use Rattle.cjc_bytes.specs.Text.{decimal_from}
use Rattle.cjc_bytes.proofs.text.decimal.Given as goal

abbrev pub invariant-loop-digit : goal.invariant-loop-digit
invariant-loop-digit l = record {
  spelt : decimal_from l.limit l.value (drop l.digit-index l.text) ≡ decimal_from l.limit 0 l.text;
  within : l.value ≤ l.limit;
}
