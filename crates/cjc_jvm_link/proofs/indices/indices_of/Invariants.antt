use Rattle.std.proofs.Common.{take}
use Rattle.cjc_jvm_link.specs.Methods.{AreIndices}
use Rattle.cjc_jvm_link.proofs.indices.indices_of.Given as goal

abbrev pub invariant-loop-code : goal.invariant-loop-code
invariant-loop-code l = AreIndices (take l.code-index l.codes) l.indices
