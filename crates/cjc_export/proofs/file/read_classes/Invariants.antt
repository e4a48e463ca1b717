use Rattle.std.proofs.Common.{◌≡◌, ◌-◌}
use Rattle.cjc_bytes.specs.Format.{repeated}
use Rattle.cjc_bytes.specs.Reading.{read}
use Rattle.cjc_bytes.proofs.Loops.{with_front}
use Rattle.cjc_export.specs.Members.{class_field}
use Rattle.cjc_export.proofs.file.read_classes.Given as goal

abbrev pub invariant-loop : goal.invariant-loop
invariant-loop l = with_front l.names (read (repeated (l.count - l.counter) (class_field l.pool)) l.cursor)
    ≡ read (repeated l.count (class_field l.pool)) l.fn.cursor
