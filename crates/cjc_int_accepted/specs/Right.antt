-- The frame before an instruction of a class file breaks no rule.
use Rattle.std.specs.Prelude.{◌≡◌, false, List}
use Rattle.cjc_types.specs.Bytecode.declared.insn.JOp.{JOp}
use Rattle.cjc_types.specs.Flow.{Body}
use Rattle.cjc_types.specs.Rules.{has_wrong, has_wrong_local}
use Rattle.cjc_types.specs.Steps.{takes}
use Rattle.cjc_types.specs.World.Classes.{Class}
use Rattle.cjc_types.specs.declared.cell.Cell.{Cell}
use Rattle.cjc_types.specs.declared.state.Stack.TheVariants.{Cells}
use Rattle.cjc_types.specs.declared.state.State.{State}
use Rattle.cjc_int_accepted.specs.Runs.{IsOn}

-- There is a stack with the operands that it takes, each of its kind, and a local that it loads or increases is of its
-- kind.
pub record IsRight (w : List Class) (b : Body) (op : JOp) (x : State) : Type 0 where
  pub stack : List Cell
  pub is : x.stack ≡ Cells stack
  pub on : IsOn b.max_stack op x.locals stack
  pub operands : has_wrong w b op (takes op) 0 stack ≡ false
  pub local : has_wrong_local op x.locals ≡ false
