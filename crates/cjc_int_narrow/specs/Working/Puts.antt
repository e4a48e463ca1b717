-- Instructions that are written as in short mode, or nearly so.
use Rattle.std.specs.Prelude.{Bool, true, false}
use Rattle.cjc_int_mode.specs.Bytecode.declared.insn.JOp.{JOp}
use Rattle.cjc_int_mode.specs.Bytecode.declared.insn.JOp.TheVariants as jop

-- those that see no number
abbrev pub is_same : JOp → Bool
is_same jop.Nop = true
is_same jop.Null = true
is_same (jop.Goto target) = true
is_same (jop.New class) = true
is_same jop.Throw = true
is_same (jop.CheckCast class) = true
is_same _ = false

-- those whose result is one word
abbrev pub gives_word : JOp → Bool
gives_word jop.ArrayLength = true
gives_word (jop.InstanceOf class) = true
gives_word _ = false

-- those that take one word
abbrev pub takes_word : JOp → Bool
takes_word (jop.NewArray kind) = true
takes_word (jop.ANewArray class) = true
takes_word _ = false
