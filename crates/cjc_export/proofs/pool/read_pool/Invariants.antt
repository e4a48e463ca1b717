use Rattle.std.proofs.Common.{◌≡◌, ◌-◌}
use Rattle.cjc_bytes.specs.Format.{repeated}
use Rattle.cjc_bytes.specs.Reading.{read}
use Rattle.cjc_bytes.proofs.Loops.{with_front}
use Rattle.cjc_export.specs.Pool.{entry}
use Rattle.cjc_export.proofs.pool.read_pool.Given as goal

abbrev pub invariant-loop : goal.invariant-loop
invariant-loop l = with_front l.pool (read (repeated (l.count - l.counter) entry) l.cursor)
    ≡ read (repeated l.count entry) l.fn.cursor
