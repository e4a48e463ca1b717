use Rattle.std.proofs.Common.{◌≡◌, ℕ, ◌<◌, ◌-◌, length}
use Rattle.std.specs.Prelude.{Some, slice_get}
use Rattle.cjc_world.specs.Classes.{Class, all_classes}
use Rattle.cjc_jvm_link.specs.Fresh.{AreFresh, Has}
use Rattle.cjc_jvm_link.proofs.fresh.Fresh.of_world.Given as goal

abbrev pub invariant-loop-class : goal.invariant-loop-class
invariant-loop-class l = record {
  fresh : AreFresh (all_classes l.world) l.fresh;
  has : (p : ℕ) (c : Class) → p < l.place → slice_get (all_classes l.world) p ≡ Some c → Has l.fresh c.name;
}

abbrev pub decreases-loop-class : goal.decreases-loop-class
decreases-loop-class l = length (all_classes l.world) - l.place
