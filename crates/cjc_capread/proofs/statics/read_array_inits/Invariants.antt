use Rattle.std.proofs.Common.{◌≡◌, ◌-◌}
use Rattle.cjc_bytes.specs.Format.{repeated}
use Rattle.cjc_bytes.specs.Reading.{read}
use Rattle.cjc_bytes.proofs.Loops.{with_front}
use Rattle.cjc_capread.specs.StaticField.{array_init}
use Rattle.cjc_capread.proofs.statics.read_array_inits.Given as goal

abbrev pub invariant-loop : goal.invariant-loop
invariant-loop l = with_front l.array_inits (read (repeated (l.count - l.counter) array_init) l.cursor)
    ≡ read (repeated l.count array_init) l.fn.cursor
