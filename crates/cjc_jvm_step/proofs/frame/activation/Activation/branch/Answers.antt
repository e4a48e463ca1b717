use Rattle.cjc_jvm_step.proofs.FrameLaws.Conditions.{condition_of_number, condition_of_numbers}
use Rattle.std.proofs.Common.{◌≤◌, arith}
use Rattle.cjc_jvm_step.proofs.frame.activation.Activation.branch.Goals as goal

pub returns-in-153-to-158 : goal.returns-in-153-to-158
returns-in-153-to-158 c = rw (condition_of_number c.args.op (omega arith) (omega arith)) c.branch_on_number.ensures

pub returns-in-159-to-164 : goal.returns-in-159-to-164
returns-in-159-to-164 c = rw (condition_of_numbers c.args.op (omega arith) (omega arith)) c.branch_on_numbers.ensures

pub returns-in-165 : goal.returns-in-165
returns-in-165 c = rw c.in-165.is c.branch_on_references.ensures

pub returns-in-166 : goal.returns-in-166
returns-in-166 c = rw c.in-166.is c.branch_on_references-in-166.ensures

pub returns-in-198 : goal.returns-in-198
returns-in-198 c = rw c.in-198.is c.branch_on_null.ensures

pub returns-in-199 : goal.returns-in-199
returns-in-199 c = rw c.in-199.is c.branch_on_null-in-199.ensures
