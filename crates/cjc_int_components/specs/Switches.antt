-- The switches of class files whose numbers have 32 bits.
use Rattle.std.specs.Prelude.{length}
use Rattle.cjc_int_narrow.specs.Bytecode.declared.insn.JOp.{JOp}
use Rattle.cjc_int_narrow.specs.Bytecode.declared.insn.JOp.TheVariants as jop
use Rattle.cjc_int_narrow.specs.LowerIntProof.Operands.{MatchesRise, TableFits}

-- A table has a match, and four bytes say its low and its high one; four bytes say each match of a lookup, and they
-- ascend.
abbrev pub SwitchFits : JOp → Type 0
SwitchFits (jop.TableSwitch other low targets) = TableFits low (length targets)
SwitchFits (jop.LookupSwitch other cases) = MatchesRise cases
SwitchFits _ = Unit {0}
