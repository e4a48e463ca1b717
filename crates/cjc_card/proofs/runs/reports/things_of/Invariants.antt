use Rattle.std.proofs.Common.{◌≡◌, ◌≤◌, ◌-◌, length, map, take}
use Rattle.cjc_card_semantics.specs.Bytecode.Machine.{shown}
use Rattle.cjc_card_semantics.specs.Machine.ByToken.{by_token}
use Rattle.cjc_card.proofs.runs.reports.things_of.Given as goal

abbrev pub invariant-things : goal.invariant-things
invariant-things g l = record {
  is : l.things ≡ map (shown (by_token (g.L.LookUps.loaded l.links))) (take l.number l.heap);
  within : l.number ≤ length l.heap;
}

abbrev pub decreases-things : goal.decreases-things
decreases-things g l = length l.heap - l.number
