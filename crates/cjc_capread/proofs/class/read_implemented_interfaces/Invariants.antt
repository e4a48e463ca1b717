use Rattle.std.proofs.Common.{◌≡◌, ◌-◌}
use Rattle.cjc_bytes.specs.Format.{repeated}
use Rattle.cjc_bytes.specs.Reading.{read}
use Rattle.cjc_bytes.proofs.Loops.{with_front}
use Rattle.cjc_capread.specs.Class.{implemented_interface}
use Rattle.cjc_capread.proofs.class.read_implemented_interfaces.Given as goal

abbrev pub invariant-loop : goal.invariant-loop
invariant-loop l = with_front l.interfaces (read (repeated (l.count - l.counter) implemented_interface) l.cursor)
    ≡ read (repeated l.count implemented_interface) l.fn.cursor
