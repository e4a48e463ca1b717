use Rattle.std.proofs.Common.{◌≡◌, drop}
use Rattle.std.specs.List.{flat_map}
use Rattle.indexmap.specs.IndexSet.{insert_all}
use Rattle.cjc_ncode.specs.PoolOrder.{same_key}
use Rattle.cjc_ncode.specs.PoolOrder.{insn_keys}
use Rattle.cjc_narrow.specs.Keys.Working.Walk.{wanted}
use Rattle.cjc_narrow.proofs.keys.walk.add_insns.Given as goal

abbrev pub invariant-loop-insn : goal.invariant-loop-insn
invariant-loop-insn l = insert_all same_key l.numbers (flat_map (wanted l.fields insn_keys) (drop l.insn-index l.insns))
    ≡ insert_all same_key l.fn.numbers (flat_map (wanted l.fields insn_keys) l.insns)
