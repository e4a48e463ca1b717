use Rattle.std.proofs.Common.{◌≡◌, drop}
use Rattle.std.specs.List.{list_any}
use Rattle.cjc_types.specs.Bytecode.declared.insn.JInsn.{JInsn}
use Rattle.cjc_types.specs.Marks.{leads_to}
use Rattle.cjc_types.specs.Steps.{targets}
use Rattle.cjc_flow.proofs.targets.is_jumped_to.Given as goal

abbrev pub invariant-loop-insn : goal.invariant-loop-insn
invariant-loop-insn l = list_any (λ (i : JInsn). leads_to l.method.insns (targets i.op) l.at)
    (drop l.insn-index l.insn-items) ≡ list_any (λ (i : JInsn). leads_to l.method.insns (targets i.op) l.at)
    l.method.insns
