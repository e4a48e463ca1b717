use Rattle.std.proofs.Common.{◌≡◌, length, drop}
use Rattle.cjc_fixpoint.specs.Kept.{full}
use Rattle.cjc_world.specs.Classes.{all_classes}
use Rattle.cjc_types.specs.Flow.{type_flow}
use Rattle.cjc_types.specs.Search.{first_from}
use Rattle.cjc_types.proofs.inference.first_broken.Given as goal

abbrev pub invariant-loop-place : goal.invariant-loop-place
invariant-loop-place l = record {
  walk : l.walk ≡ record {
    at = l.place;
    rows = full (type_flow l.method) (length l.method.insns) l.table.marks
        l.table.rows;
  };
  first : first_from (all_classes l.world) l.method l.place (drop l.place l.method.insns)
      (drop l.place (full (type_flow l.method) (length l.method.insns) l.table.marks l.table.rows))
      ≡ first_from (all_classes l.world) l.method 0 l.method.insns (full (type_flow l.method) (length l.method.insns)
      l.table.marks l.table.rows);
}
