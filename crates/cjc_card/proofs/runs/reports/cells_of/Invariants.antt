use Rattle.std.proofs.Common.{◌≡◌, ◌≤◌, ◌-◌, ◌++◌, length, drop}
use Rattle.cjc_card_semantics.specs.Machine.ByToken.{shown_cells}
use Rattle.cjc_card.proofs.runs.reports.cells_of.Given as goal

abbrev pub invariant-parts : goal.invariant-parts
invariant-parts g l =
    let parts = (g.L.LookUps.loaded l.links).parts in
    record {
      is : shown_cells 0 parts l.statics ≡ l.fields ++ shown_cells l.part (drop l.part parts) l.statics;
      within : l.part ≤ length parts;
    }

abbrev pub decreases-parts : goal.decreases-parts
decreases-parts g l = length (g.L.LookUps.loaded l.links).parts - l.part
