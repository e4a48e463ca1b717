use Rattle.std.proofs.Common.{◌≡◌, drop}
use Rattle.cjc_types.specs.Names.{IsSet, union}
use Rattle.cjc_types.proofs.names.put_all.Given as goal

abbrev pub invariant-loop-name : goal.invariant-loop-name
invariant-loop-name l = record {
  set : IsSet l.set.items;
  union : union (drop l.name-index l.names) l.set.items ≡ union l.names l.initial.set.items;
}
