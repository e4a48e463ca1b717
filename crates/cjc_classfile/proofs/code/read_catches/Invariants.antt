use Rattle.std.proofs.Common.{◌≡◌, ◌-◌}
use Rattle.cjc_bytes.specs.Format.{repeated}
use Rattle.cjc_bytes.specs.Reading.{read}
use Rattle.cjc_bytes.proofs.Loops.{with_front}
use Rattle.cjc_classfile.specs.CodeAttribute.{catch}
use Rattle.cjc_classfile.proofs.code.read_catches.Given as goal

abbrev pub invariant-loop : goal.invariant-loop
invariant-loop l = with_front l.catches (read (repeated (l.count - l.counter) (catch l.pool l.length)) l.cursor)
    ≡ read (repeated l.count (catch l.pool l.length)) l.fn.cursor
