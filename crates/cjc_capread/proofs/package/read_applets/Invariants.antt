use Rattle.std.proofs.Common.{◌≡◌, ◌-◌}
use Rattle.cjc_bytes.specs.Format.{repeated}
use Rattle.cjc_bytes.specs.Reading.{read}
use Rattle.cjc_bytes.proofs.Loops.{with_front}
use Rattle.cjc_capread.specs.Applet.{applet_entry}
use Rattle.cjc_capread.proofs.package.read_applets.Given as goal

abbrev pub invariant-loop : goal.invariant-loop
invariant-loop l = with_front l.applets (read (repeated (l.count - l.counter) applet_entry) l.cursor)
    ≡ read (repeated l.count applet_entry) l.fn.cursor
