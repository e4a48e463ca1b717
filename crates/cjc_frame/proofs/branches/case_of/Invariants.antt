use Rattle.std.proofs.Common.{◌≡◌, drop}
use Rattle.cjc_by_name.specs.Effects
use Rattle.cjc_frame.proofs.branches.case_of.Given as goal

abbrev pub invariant-loop-case : goal.invariant-loop-case
invariant-loop-case l = Effects.case_of l.other l.cases l.x ≡ Effects.case_of l.other (drop l.case-index l.cases) l.x
