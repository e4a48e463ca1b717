use Rattle.std.proofs.Common.{◌≡◌, ◌++◌, drop}
use Rattle.cjc_check.specs.Codes.Working.Steps.{methods_of_all}
use Rattle.cjc_check.proofs.codes.methods.methods_of_all.Given as goal

abbrev pub invariant-loop-class : goal.invariant-loop-class
invariant-loop-class l = l.all ++ methods_of_all l.names.parts.now.class.now (drop l.class-index l.classes)
    ≡ methods_of_all l.names.parts.now.class.now l.classes
