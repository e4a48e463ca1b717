use Rattle.std.proofs.Common.{◌≡◌, take, map}
use Rattle.cjc_jvm_step.specs.Script.Sorts.{sort_of}
use Rattle.cjc_jvm.specs.Acts.Meant.{sort_meant}
use Rattle.cjc_jvm.proofs.acts.signature.params_of.Given as goal

abbrev pub invariant-loop-i : goal.invariant-loop-i
invariant-loop-i l = map sort_meant l.sorts ≡ take l.i (map sort_of l.desc.params)
