-- Which instructions name an instance field: what is written for them alone depends on which have an index of one byte.
use Rattle.std.specs.Prelude.{Bool, is_some}
use Rattle.cjc_types.specs.Bytecode.declared.insn.JInsn.{JInsn}
use Rattle.cjc_ncode.specs.Written.{accessed}

-- it is a getfield or a putfield
abbrev pub names_field : JInsn → Bool
names_field i = is_some (accessed i.op)
