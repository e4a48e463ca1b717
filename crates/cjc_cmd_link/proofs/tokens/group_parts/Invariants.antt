use Rattle.std.proofs.Common.{take}
use Rattle.cjc_cmd_link.specs.ByToken.{AreParts}
use Rattle.cjc_cmd_link.proofs.tokens.group_parts.Given as goal

abbrev pub invariant-loop-place : goal.invariant-loop-place
invariant-loop-place l = AreParts l.packages l.outside (take l.place l.members) (take l.place l.fn.images) l.parts
