use Rattle.std.proofs.Common.{◌≡◌, ◌≤◌, ◌+◌, drop}
use Rattle.cjc_world.specs.Classes.{all_classes}
use Rattle.cjc_tokens.specs.Rules.{count_exported}
use Rattle.cjc_tokens.proofs.assigning.few_exported.Given as goal

abbrev pub invariant-loop-number : goal.invariant-loop-number
invariant-loop-number l = record {
  rest : l.exported + count_exported (all_classes l.world) l.applets l.number (drop l.number l.world.classes)
      ≡ count_exported (all_classes l.world) l.applets 0 l.world.classes;
  few : l.exported ≤ l.number;
}
