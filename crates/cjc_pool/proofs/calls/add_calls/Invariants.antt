use Rattle.std.proofs.Common.{◌≡◌, drop}
use Rattle.std.specs.List.{flat_map}
use Rattle.indexmap.specs.IndexSet.{insert_all}
use Rattle.cjc_narrow.specs.LowerNCode.PoolOrder.{same_key}
use Rattle.cjc_pool.specs.Working.Calls.{insn_calls}
use Rattle.cjc_pool.proofs.calls.add_calls.Given as goal

abbrev pub invariant-loop-insn : goal.invariant-loop-insn
invariant-loop-insn l = insert_all same_key l.calls (flat_map insn_calls (drop l.insn-index l.insns))
    ≡ insert_all same_key l.fn.calls (flat_map insn_calls l.insns)
