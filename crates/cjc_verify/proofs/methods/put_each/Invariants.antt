use Rattle.std.proofs.Common.{◌≡◌, ◌++◌, length}
use Rattle.cjc_bytes.specs.AccessFlags.{is_interface}
use Rattle.cjc_verify.specs.Working.Methods.{known_each, member_by}
use Rattle.cjc_verify.proofs.methods.put_each.Given as goal

abbrev pub invariant-loop-left : goal.invariant-loop-left
invariant-loop-left l =
    let class = l.class in
    let d = l.described in
    l.row ++ known_each (is_interface class.flags) d.this_class (member_by class l.added) l.left l.methods
    ≡ l.initial.row ++ known_each (is_interface class.flags) d.this_class (member_by class l.added) l.members d.methods

abbrev pub decreases-loop-left : goal.decreases-loop-left
decreases-loop-left l = length l.left
