use Rattle.std.proofs.Common.{◌≡◌, ◌≤◌, ◌-◌, length, map, take}
use Rattle.cjc_bytecode.specs.Machine.{shown}
use Rattle.cjc_card.specs.ByToken.{by_token}
use Rattle.cjc_card_run.proofs.reports.things_of.Given as goal

abbrev pub invariant-things : goal.invariant-things
invariant-things g l = record {
  is : l.things ≡ map (shown (by_token (g.L.LookUps.loaded l.links))) (take l.number l.heap);
  within : l.number ≤ length l.heap;
}

abbrev pub decreases-things : goal.decreases-things
decreases-things g l = length l.heap - l.number
