use Rattle.std.proofs.Common.{◌≡◌, ◌++◌, ◌*◌, map}
use Rattle.cjc_cmd_make.specs.Package.Classes.{class_file}
use Rattle.cjc_cmd_make.specs.Package.Numbers.{number_at, below}
use Rattle.cjc_cmd_make.proofs.package.made.put_classes.Given as goal

abbrev pub invariant-loop-i : goal.invariant-loop-i
invariant-loop-i l = (l.x ≡ number_at l.number (2 * l.i)) × (l.files ≡ l.fn.files
    ++ map (class_file l.number) (below l.i))
