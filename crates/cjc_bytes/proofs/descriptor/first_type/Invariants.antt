use Rattle.std.proofs.Common.{◌≡◌, ◌≤◌, ◌-◌, take, drop}
use Rattle.cjc_bytes.specs.Spots.{types_from, types}
use Rattle.cjc_bytes.proofs.descriptor.first_type.Given as goal

abbrev pub invariant-loop-at : goal.invariant-loop-at
invariant-loop-at l = record {
  begun : l.start ≤ l.at;
  same : types_from (take (l.at - l.start) (drop l.start l.bytes))
      l.in_name (drop l.at l.bytes) ≡ types l.bytes;
}
