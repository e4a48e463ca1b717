use Rattle.std.proofs.Common.{◌≡◌, drop}
use Rattle.cjc_clinit.specs.declared.stage.Stage.TheVariants as stages
use Rattle.cjc_clinit.specs.Working.Reading.{read, state}
use Rattle.cjc_clinit.proofs.puts.read.Given as goal

abbrev pub invariant-loop-insn : goal.invariant-loop-insn
invariant-loop-insn l = read l.world l.number l.class (state l.fields l.arrays l.stage) (drop l.insn-index l.insns)
    ≡ read l.world l.number l.class (state l.initial.fields l.initial.arrays stages.Free) l.insns
