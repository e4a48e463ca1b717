use Rattle.std.proofs.Common.{◌≡◌, ◌-◌}
use Rattle.cjc_bytes.specs.Format.{before}
use Rattle.cjc_bytes.specs.Reading.{read}
use Rattle.cjc_bytes.proofs.Loops.{with_front}
use Rattle.cjc_code.specs.Cut.{instruction}
use Rattle.cjc_code.proofs.cutting.read_instructions.Given as goal

abbrev pub invariant-loop : goal.invariant-loop
invariant-loop l = with_front l.insns (read (before (l.size - l.counter) l.size instruction) l.cursor) ≡ read (before l.size l.size instruction) l.fn.cursor
