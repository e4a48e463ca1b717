use Rattle.std.proofs.Common.{◌≡◌, drop}
use Rattle.cjc_bytes.specs.Reading.{read}
use Rattle.cjc_bytes.proofs.Loops.{with_front}
use Rattle.cjc_code.specs.Instruction.{operands}
use Rattle.cjc_code.proofs.cutting.read_operands.Given as goal

abbrev pub invariant-loop-kind : goal.invariant-loop-kind
invariant-loop-kind l = with_front l.numbers (read (operands (drop l.kind-index l.kinds)) l.cursor)
    ≡ read (operands l.kinds) l.fn.cursor
