use Rattle.std.proofs.Common.{◌≡◌, ◌≤◌, drop, length}
use Rattle.cjc_exported.specs.World.Files.{Files}
use Rattle.cjc_captree.specs.Working.Tables.{found_in, nowhere, table_of}
use Rattle.cjc_captree.proofs.extents.table.put_extents.Given as goal

abbrev pub invariant-loop-k : goal.invariant-loop-k
invariant-loop-k l = record {
  within : l.k ≤ length l.laid;
  rows : (files : Files) → l.fn.rows ≡ table_of files (λ _. nowhere)
      → l.rows ≡ table_of files (found_in (drop l.k l.laid) (drop l.k l.extents));
}

abbrev pub decreases-loop-k : goal.decreases-loop-k
decreases-loop-k l = l.k
