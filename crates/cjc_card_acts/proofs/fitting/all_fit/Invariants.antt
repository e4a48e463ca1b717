use Rattle.std.proofs.Common.{◌≡◌, drop, map}
use Rattle.cjc_script.specs.Sorts
use Rattle.cjc_acts.specs.Meant.{sort_meant}
use Rattle.cjc_bytecode.specs.Machine.{object_fits}
use Rattle.cjc_card.specs.ByToken.{by_token}
use Rattle.cjc_card_acts.proofs.fitting.all_fit.Given as goal

abbrev pub invariant-loop-i : goal.invariant-loop-i
invariant-loop-i g l =
    let is_of = object_fits (by_token (g.L.LookUps.loaded l.links)) l.heap in
    Sorts.all_fit is_of (map sort_meant l.sorts) l.values ≡ Sorts.all_fit is_of (map sort_meant (drop l.i l.sorts)) (drop l.i l.values)
