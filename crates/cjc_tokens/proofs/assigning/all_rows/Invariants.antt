use Rattle.std.proofs.Common.{◌≡◌, length}
use Rattle.cjc_world.specs.Classes.{all_classes}
use Rattle.cjc_tokens.specs.Working.{IsKept}
use Rattle.cjc_tokens.proofs.assigning.all_rows.Given as goal

abbrev pub invariant-loop-number : goal.invariant-loop-number
invariant-loop-number l = record {
  count : length l.kept.items ≡ length l.world.classes;
  kept_rows : IsKept (all_classes l.world) l.world.classes l.kept.items;
}
