use Rattle.std.proofs.Common.{◌≡◌, ◌++◌, map, take, false}
use Rattle.cjc_jvm_semantics.specs.Group.{line_of}
use Rattle.cjc_jvm_link.proofs.joint.put_export_lines.Given as goal

abbrev pub invariant-loop-export : goal.invariant-loop-export
invariant-loop-export l = l.lines ≡ l.initial.lines ++ map (λ x. line_of false) (take l.export-index l.exports)
