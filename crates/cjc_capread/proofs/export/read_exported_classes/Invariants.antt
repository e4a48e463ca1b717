use Rattle.std.proofs.Common.{◌≡◌, ◌-◌}
use Rattle.cjc_bytes.specs.Format.{repeated}
use Rattle.cjc_bytes.specs.Reading.{read}
use Rattle.cjc_bytes.proofs.Loops.{with_front}
use Rattle.cjc_capread.specs.Export.{exported_class}
use Rattle.cjc_capread.proofs.export.read_exported_classes.Given as goal

abbrev pub invariant-loop : goal.invariant-loop
invariant-loop l = with_front l.classes (read (repeated (l.count - l.counter) exported_class) l.cursor)
    ≡ read (repeated l.count exported_class) l.fn.cursor
