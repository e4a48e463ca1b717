use Rattle.std.proofs.Common.{◌≡◌, drop}
use Rattle.cjc_card_semantics.specs.Machine.Calls.{class_among}
use Rattle.cjc_card_calls.proofs.names.described.class_among.Given as goal

abbrev pub invariant-loop-class : goal.invariant-loop-class
invariant-loop-class l = class_among (drop l.class-index l.classes) l.offset ≡ class_among l.classes l.offset
