use Rattle.std.proofs.Common.{◌≡◌, [], drop}
use Rattle.cjc_types.specs.Names.{IsSet}
use Rattle.cjc_frames.specs.Types.{elements}
use Rattle.cjc_frames.proofs.sets.elements.Given as goal

abbrev pub invariant-loop-array : goal.invariant-loop-array
invariant-loop-array l = record {
  set : IsSet l.set.items;
  elements : elements (drop l.array-index l.types) l.set.items ≡ elements l.types [];
}
