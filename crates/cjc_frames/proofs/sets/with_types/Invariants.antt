use Rattle.std.proofs.Common.{◌≡◌, drop}
use Rattle.cjc_types.specs.Names.{IsSet, union}
use Rattle.cjc_frames.proofs.sets.with_types.Given as goal

abbrev pub invariant-loop-name : goal.invariant-loop-name
invariant-loop-name l = record {
  set : IsSet l.all.items;
  union : union (drop l.name-index l.names) l.all.items ≡ union l.names l.initial.all.items;
}
