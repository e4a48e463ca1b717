use Rattle.std.proofs.Common.{◌≡◌, ◌++◌, map, take, true}
use Rattle.cjc_jvm_semantics.specs.Group.{line_of}
use Rattle.cjc_jvm_link.proofs.joint.put_class_lines.Given as goal

abbrev pub invariant-loop-class : goal.invariant-loop-class
invariant-loop-class l = l.lines ≡ l.initial.lines ++ map (λ x. line_of true) (take l.class-index l.classes)
