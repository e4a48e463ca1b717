use Rattle.std.proofs.Common.{◌≡◌, ◌-◌}
use Rattle.cjc_bytes.specs.Reading.{read}
use Rattle.cjc_capread.specs.Class.{next_entry, no_entries}
use Rattle.cjc_capread.specs.Until.{until}
use Rattle.cjc_capread.proofs.class.read_entries.Given as goal

abbrev pub invariant-loop : goal.invariant-loop
invariant-loop l = read (until (l.end - l.counter) l.end next_entry l.so_far) l.cursor
    ≡ read (until l.end l.end next_entry no_entries) l.fn.cursor
