use Rattle.std.proofs.Common.{◌<◌, ◌≤◌, ◌^◌, take, All}
use Rattle.cjc_types.proofs.index.end.Given as goal

abbrev pub invariant-loop-insn : goal.invariant-loop-insn
invariant-loop-insn l = record {
  above : All (λ insn. insn.at < l.end) (take l.insn-index l.insns);
  small : l.end ≤ 2 ^ 32;
}
