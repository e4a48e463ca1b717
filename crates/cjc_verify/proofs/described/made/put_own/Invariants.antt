use Rattle.std.proofs.Common.{◌≡◌, ◌+◌, ◌++◌, drop}
use Rattle.cjc_verify.specs.Made.{inputs_of}
use Rattle.cjc_verify.specs.WantedMembers.{own_methods_by}
use Rattle.cjc_verify.proofs.described.made.put_own.Given as goal

abbrev pub invariant-loop-place : goal.invariant-loop-place
invariant-loop-place l = l.row ++ own_methods_by (inputs_of l.made) l.number (l.first + l.place) (drop l.place
    l.methods)
    ≡ l.fn.row ++ own_methods_by (inputs_of l.made) l.number l.first l.methods
