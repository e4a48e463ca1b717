use Rattle.std.proofs.Common.{◌≡◌, ◌+◌, ◌≤◌, [], length, drop}
use Rattle.cjc_bytes.specs.Spots.{types_from, types}
use Rattle.cjc_bytes.proofs.descriptor.count_types.Given as goal

abbrev pub invariant-loop-byte : goal.invariant-loop-byte
invariant-loop-byte l = record {
  few : l.count ≤ l.byte-index;
  same : l.count + length (types_from [] l.in_name (drop l.byte-index l.bytes)) ≡ length (types l.bytes);
}
