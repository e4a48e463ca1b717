-- What a table without a broken rule says of a reached instruction of a method with room for int mode.
use Rattle.std.specs.Prelude.{◌≡◌, false, List}
use Rattle.cjc_types.specs.Bytecode.declared.insn.JOp.{JOp}
use Rattle.cjc_types.specs.Flow.{Body}
use Rattle.cjc_types.specs.Rules.{has_wrong, has_wrong_local, is_wrong_return}
use Rattle.cjc_types.specs.Steps.{takes}
use Rattle.cjc_types.specs.World.Classes.{Class}
use Rattle.cjc_types.specs.declared.cell.Cell.{Cell}
use Rattle.cjc_types.specs.declared.state.Stack.TheVariants.{Cells}
use Rattle.cjc_types.specs.declared.state.State.{State}
use Rattle.cjc_int_accepted.specs.Runs.{IsOn}

-- Before it is a stack of cells, its operands and its local are right, and the stacks have their room.
pub record IsRight (w : List Class) (b : Body) (op : JOp) (x : State) : Type 0 where
  pub stack : List Cell
  pub is : x.stack ≡ Cells stack
  pub on : IsOn b.max_stack op x.locals stack
  pub operands : has_wrong w b op (takes op) 0 stack ≡ false
  pub local : has_wrong_local op x.locals ≡ false
  pub result : is_wrong_return b op ≡ false
