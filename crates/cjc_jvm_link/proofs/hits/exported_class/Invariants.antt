use Rattle.std.proofs.Common.{◌≡◌, drop}
use Rattle.std.specs.Prelude.{slice_get}
use Rattle.std.specs.List.{flat_map}
use Rattle.cjc_jvm_link.proofs.hits.exported_class.Given as goal

abbrev pub invariant-loop-export : goal.invariant-loop-export
invariant-loop-export l = slice_get (flat_map (λ t. t.classes) (drop l.export-index l.exports)) l.left
    ≡ slice_get (flat_map (λ t. t.classes) l.exports) l.number
