use Rattle.std.proofs.Common.{◌≡◌, take}
use Rattle.cjc_cmd_make.specs.Package.ClassFile.{code_bytes}
use Rattle.cjc_cmd_make.proofs.package.class_file.code_bytes.Given as goal

abbrev pub invariant-loop-instruction : goal.invariant-loop-instruction
invariant-loop-instruction l = l.out ≡ code_bytes (take l.instruction-index l.instructions)
