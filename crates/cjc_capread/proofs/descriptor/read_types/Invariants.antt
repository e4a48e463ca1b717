use Rattle.std.proofs.Common.{◌≡◌, ◌-◌}
use Rattle.cjc_bytes.specs.Format.{before}
use Rattle.cjc_bytes.specs.Reading.{read}
use Rattle.cjc_bytes.proofs.Loops.{with_front}
use Rattle.cjc_capread.specs.Descriptor.{type_descriptor}
use Rattle.cjc_capread.proofs.descriptor.read_types.Given as goal

abbrev pub invariant-loop : goal.invariant-loop
invariant-loop l = with_front l.types (read (before (l.end - l.counter) l.end type_descriptor) l.cursor)
    ≡ read (before l.end l.end type_descriptor) l.fn.cursor
