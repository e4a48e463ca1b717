use Rattle.std.proofs.Common.{◌≡◌, ◌||◌, drop}
use Rattle.cjc_narrow.specs.Pairs.Roles.{any_stores}
use Rattle.cjc_narrow.proofs.select.pairs.any_stores.Given as goal

abbrev pub invariant-loop-k : goal.invariant-loop-k
invariant-loop-k l = (l.any || any_stores (drop l.k l.insns) (drop l.k l.reaches)) ≡ any_stores l.insns l.reaches
