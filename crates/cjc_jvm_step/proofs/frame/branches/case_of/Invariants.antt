use Rattle.std.proofs.Common.{◌≡◌, drop}
use Rattle.cjc_jvm_semantics.specs.Effects
use Rattle.cjc_jvm_step.proofs.frame.branches.case_of.Given as goal

abbrev pub invariant-loop-case : goal.invariant-loop-case
invariant-loop-case l = Effects.case_of l.other l.cases l.x ≡ Effects.case_of l.other (drop l.case-index l.cases) l.x
