use Rattle.std.proofs.Common.{◌≡◌, ◌++◌, take}
use Rattle.cjc_check_index.proofs.imported.classes.put_classes.Given as goal

abbrev pub invariant-loop-class : goal.invariant-loop-class
invariant-loop-class l = l.all ≡ l.fn.all ++ take l.class-index l.classes
