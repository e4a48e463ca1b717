use Rattle.std.proofs.Common.{◌≡◌, ◌+◌, ◌++◌, drop}
use Rattle.cjc_world.specs.Classes.{all_classes}
use Rattle.cjc_tokens.specs.Rules.{breaks_from, count_exported}
use Rattle.cjc_tokens.specs.Tokens.{classes_from}
use Rattle.cjc_tokens.proofs.assigning.declared_tokens.Given as goal

abbrev pub invariant-loop-number : goal.invariant-loop-number
invariant-loop-number l = record {
  tokens : l.rows ++ classes_from (all_classes l.world) l.applets l.before l.number (drop l.number l.world.classes)
      ≡ classes_from (all_classes l.world) l.applets 0 0 l.world.classes;
  breaks : breaks_from (all_classes l.world) l.applets l.world.lines l.number (drop l.number l.world.classes)
      ≡ breaks_from (all_classes l.world) l.applets l.world.lines 0 l.world.classes;
  exported : l.before + count_exported (all_classes l.world) l.applets l.number (drop l.number l.world.classes)
      ≡ count_exported (all_classes l.world) l.applets 0 l.world.classes;
}
