use Rattle.std.proofs.Common.{◌≡◌, ◌-◌}
use Rattle.cjc_bytes.specs.Format.{repeated}
use Rattle.cjc_bytes.specs.Reading.{read}
use Rattle.cjc_bytes.proofs.Loops.{with_front}
use Rattle.cjc_capread.specs.Descriptor.{class_descriptor}
use Rattle.cjc_capread.proofs.descriptor.read_classes.Given as goal

abbrev pub invariant-loop : goal.invariant-loop
invariant-loop l = with_front l.classes (read (repeated (l.count - l.counter) class_descriptor) l.cursor)
    ≡ read (repeated l.count class_descriptor) l.fn.cursor
