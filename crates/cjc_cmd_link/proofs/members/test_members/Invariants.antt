use Rattle.std.proofs.Common.{take, IfNone}
use Rattle.cjc_cmd_link.specs.Working.{AreMade, MemberRefused, StandsSo}
use Rattle.cjc_cmd_link.proofs.members.test_members.Given as goal

abbrev pub invariant-loop-member : goal.invariant-loop-member
invariant-loop-member l = StandsSo (MemberRefused l.inputs) l.member-index l.refusal
    × IfNone l.refusal (AreMade (take l.member-index l.inputs) l.members l.images)
