use Rattle.std.proofs.Common.{◌≡◌, ◌+◌, drop}
use Rattle.cjc_card_semantics.specs.ExportFile.Supers.{super_count}
use Rattle.cjc_card_calls.proofs.files.steps.file_supers.Given as goal

abbrev pub invariant-loop-class : goal.invariant-loop-class
invariant-loop-class l = l.count + super_count (drop l.class-index l.classes) ≡ super_count l.classes
