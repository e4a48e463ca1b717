use Rattle.std.proofs.Common.{◌≡◌, ◌-◌}
use Rattle.cjc_bytes.specs.Format.{repeated}
use Rattle.cjc_bytes.specs.Reading.{read}
use Rattle.cjc_bytes.proofs.Loops.{with_front}
use Rattle.cjc_capread.specs.Parts.{class_ref}
use Rattle.cjc_capread.proofs.parts.read_class_refs.Given as goal

abbrev pub invariant-loop : goal.invariant-loop
invariant-loop l = with_front l.classes (read (repeated (l.count - l.counter) class_ref) l.cursor)
    ≡ read (repeated l.count class_ref) l.fn.cursor
