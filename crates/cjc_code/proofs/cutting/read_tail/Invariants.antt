use Rattle.std.proofs.Common.{◌≡◌, ◌-◌}
use Rattle.cjc_bytes.specs.Format.{repeated}
use Rattle.cjc_bytes.specs.Reading.{read}
use Rattle.cjc_bytes.proofs.Loops.{with_front}
use Rattle.cjc_code.specs.declared.table.Operand.TheVariants.{Signed4}
use Rattle.cjc_code.specs.Instruction.{operand}
use Rattle.cjc_code.proofs.cutting.read_tail.Given as goal

abbrev pub invariant-loop : goal.invariant-loop
invariant-loop l = with_front l.numbers (read (repeated (l.count - l.counter) (operand Signed4)) l.cursor)
    ≡ with_front l.fn.numbers (read (repeated l.count (operand Signed4)) l.fn.cursor)
