use Rattle.std.proofs.Common.{◌≡◌, ◌+◌, ◌++◌, drop}
use Rattle.cjc_verify.specs.Made.{inputs_of}
use Rattle.cjc_verify.specs.WantedMembers.{added_by}
use Rattle.cjc_verify.proofs.described.made.put_added.Given as goal

abbrev pub invariant-loop-place : goal.invariant-loop-place
invariant-loop-place l = l.row ++ added_by (inputs_of l.made) l.number (l.first + l.place) (drop l.place l.added)
    ≡ l.fn.row ++ added_by (inputs_of l.made) l.number l.first l.added
