use Rattle.cjc_world.specs.Classes.{all_classes}
use Rattle.cjc_world.specs.Working.Tables.{Closer}
use Rattle.cjc_world.proofs.class_index.ClassIndex.pass.Given as goal

abbrev pub invariant-loop-place : goal.invariant-loop-place
invariant-loop-place l = Closer (all_classes l.self) l.initial.rows.items l.rows.items 0 l.place
