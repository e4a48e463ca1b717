use Rattle.std.proofs.Common.{◌≡◌, drop}
use Rattle.cjc_bytes.specs.Found.{all_of}
use Rattle.cjc_export.specs.Pool.{tested}
use Rattle.cjc_export.proofs.pool.test_entries.Given as goal

abbrev pub invariant-loop-entry : goal.invariant-loop-entry
invariant-loop-entry l = all_of (tested l.pool) (drop l.entry-index l.pool) ≡ all_of (tested l.pool) l.pool
