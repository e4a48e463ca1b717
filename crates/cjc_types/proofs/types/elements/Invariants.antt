use Rattle.std.proofs.Common.{◌≡◌, [], drop}
use Rattle.cjc_types.specs.Names.{IsSet}
use Rattle.cjc_types.specs.Types.{elements}
use Rattle.cjc_types.proofs.types.elements.Given as goal

abbrev pub invariant-loop-array : goal.invariant-loop-array
invariant-loop-array l = record {
  set : IsSet l.names.items;
  elements : elements (drop l.array-index l.types) l.names.items ≡ elements l.types [];
}
