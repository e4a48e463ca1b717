use Rattle.std.proofs.Common.{◌≡◌, ◌-◌}
use Rattle.cjc_bytes.specs.Format.{repeated}
use Rattle.cjc_bytes.specs.Reading.{read}
use Rattle.cjc_bytes.proofs.Loops.{with_front}
use Rattle.cjc_capread.specs.Method.{handler}
use Rattle.cjc_capread.proofs.method.read_handlers.Given as goal

abbrev pub invariant-loop : goal.invariant-loop
invariant-loop l = with_front l.handlers (read (repeated (l.count - l.counter) handler) l.cursor)
    ≡ read (repeated l.count handler) l.fn.cursor
