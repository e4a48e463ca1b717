use Rattle.std.proofs.Common.{List, subst, sym}
use Rattle.std.proofs.lemmas.Result.{err_from_is_err_and}
use Rattle.cjc_cmd_link.specs.Working.{AreOfGroup}
use Rattle.cjc_cmd_link.specs.declared.members.Tested.{Tested}
use Rattle.cjc_cmd_link.proofs.running.report_names.Goals as goal

pub joint_of-requires-clause-made : goal.joint_of-requires-clause-made
joint_of-requires-clause-made c = subst (λ (ts : List Tested). AreOfGroup ts) (sym c.items-members.ensures) c.requires

pub returns-in_err-joint-clause-refused : goal.returns-in_err-joint-clause-refused
returns-in_err-joint-clause-refused c =
    let e = err_from_is_err_and c.from_residual-in_err-joint.result c.from_residual-in_err-joint.ensures.1 in
    let cycle = rw c.items-members.ensures at c.in_err-joint.ensures.refused in
    rw (e.1, e.2) cycle

pub names_report-requires : goal.names_report-requires
names_report-requires c = let is = rw c.items-members.ensures at c.in_ok-joint.ensures.joint in is

pub returns-clause-free : goal.returns-clause-free
returns-clause-free c = let is = rw c.items-members.ensures at c.in_ok-joint.ensures.joint in is.free
