use Rattle.std.proofs.Common.{◌≡◌, drop, map}
use Rattle.cjc_jvm_step.specs.Script.Sorts
use Rattle.cjc_jvm_semantics.specs.Machine.{object_fits}
use Rattle.cjc_jvm.specs.Acts.Meant.{sort_meant}
use Rattle.cjc_jvm.proofs.acts.fitting.all_fit.Given as goal

abbrev pub invariant-loop-i : goal.invariant-loop-i
invariant-loop-i g l =
    let is_of = object_fits (g.L.LookUps.linked l.links) l.heap in
    Sorts.all_fit is_of (map sort_meant l.sorts) l.values ≡ Sorts.all_fit is_of (map sort_meant (drop l.i l.sorts))
    (drop l.i l.values)
