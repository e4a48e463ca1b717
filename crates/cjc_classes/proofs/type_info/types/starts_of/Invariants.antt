use Rattle.std.proofs.Common.{◌≡◌, ◌++◌, drop, map}
use Rattle.cjc_components.specs.LowerCheckRules.Spots.{starts}
use Rattle.cjc_components.specs.LowerCheckRules.Complete.{type_size}
use Rattle.cjc_components.specs.Types.{type_descriptor}
use Rattle.cjc_classes.proofs.type_info.types.starts_of.Given as goal

abbrev pub invariant-loop-place : goal.invariant-loop-place
invariant-loop-place l = l.row ++ starts type_size l.at (map type_descriptor (drop l.place l.met))
    ≡ starts type_size l.from (map type_descriptor l.met)
