use Rattle.std.proofs.Common.{◌≡◌, ◌+◌, drop}
use Rattle.std.specs.Prelude.{sum_by}
use Rattle.cjc_check_rules.specs.Spots.{numbered, earlier, first}
use Rattle.cjc_check_index.proofs.lookup.along.first_numbered.Given as goal

abbrev pub invariant-loop-i : goal.invariant-loop-i
invariant-loop-i g l =
    (l.at + sum_by g.T.Item.bytes (drop l.i l.items) ≡ l.from + sum_by g.T.Item.bytes l.items)
    × (earlier l.least (first (numbered g.T.Item.bytes (g.C.Numbered.broken l.test) l.i l.at (drop l.i l.items)))
    ≡ first (numbered g.T.Item.bytes (g.C.Numbered.broken l.test) 0 l.from l.items))
