use Rattle.std.proofs.Common.{◌≡◌, ◌++◌, drop, map}
use Rattle.cjc_card_semantics.specs.Machine.Classes.{External}
use Rattle.cjc_card_frame.specs.Objects.{class_of}
use Rattle.cjc_card_calls.proofs.lines.every.put_file.Given as goal

abbrev pub invariant-loop-class : goal.invariant-loop-class
invariant-loop-class l = map class_of l.classes ++ map (λ c. External l.tree c.token) (drop l.class-index l.listed)
    ≡ map class_of l.fn.classes ++ map (λ c. External l.tree c.token) l.listed
