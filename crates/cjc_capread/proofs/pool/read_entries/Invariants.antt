use Rattle.std.proofs.Common.{◌≡◌, ◌-◌}
use Rattle.cjc_bytes.specs.Format.{repeated}
use Rattle.cjc_bytes.specs.Reading.{read}
use Rattle.cjc_bytes.proofs.Loops.{with_front}
use Rattle.cjc_capread.specs.Pool.{pool_entry}
use Rattle.cjc_capread.proofs.pool.read_entries.Given as goal

abbrev pub invariant-loop : goal.invariant-loop
invariant-loop l = with_front l.entries (read (repeated (l.count - l.counter) pool_entry) l.cursor)
    ≡ read (repeated l.count pool_entry) l.fn.cursor
