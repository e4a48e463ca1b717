use Rattle.std.proofs.Common.{take}
use Rattle.cjc_linked.specs.Methods.{AreIndices}
use Rattle.cjc_linked.proofs.indices.indices_of.Given as goal

abbrev pub invariant-loop-code : goal.invariant-loop-code
invariant-loop-code l = AreIndices (take l.code-index l.codes) l.indices
