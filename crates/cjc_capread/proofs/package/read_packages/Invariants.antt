use Rattle.std.proofs.Common.{◌≡◌, ◌-◌}
use Rattle.cjc_bytes.specs.Format.{repeated}
use Rattle.cjc_bytes.specs.Reading.{read}
use Rattle.cjc_bytes.proofs.Loops.{with_front}
use Rattle.cjc_capread.specs.Import.{imported_package}
use Rattle.cjc_capread.proofs.package.read_packages.Given as goal

abbrev pub invariant-loop : goal.invariant-loop
invariant-loop l = with_front l.packages (read (repeated (l.count - l.counter) imported_package) l.cursor)
    ≡ read (repeated l.count imported_package) l.fn.cursor
