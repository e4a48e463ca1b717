use Rattle.std.proofs.Common.{◌≡◌, drop}
use Rattle.cjc_world.specs.Classes.{all_classes, classes_from}
use Rattle.cjc_world.specs.Rules.{head, breaks_from}
use Rattle.cjc_world.specs.Working.Numbers.{AreListed}
use Rattle.cjc_world.proofs.unchecked.UncheckedWorld.files_break.Given as goal

abbrev pub invariant-loop-place : goal.invariant-loop-place
invariant-loop-place l = record {
  first : head (breaks_from l.self (all_classes l.self) l.place l.classes l.exports l.imports
      (drop l.place l.self.lines)) ≡ head (breaks_from l.self (all_classes l.self) 0 0 0 0 l.self.lines);
  listed : AreListed (all_classes l.self) (classes_from l.self.classes l.self.exports l.classes l.exports l.imports
      (drop l.place l.self.lines));
}
