-- What is selected for a method with code, by its mode.
use Rattle.std.specs.Prelude.{List, Option}
use Rattle.cjc_bytes.specs.declared.fault.MemberId.{MemberId}
use Rattle.cjc_world.specs.ClassFile.Code.{CodeTree}
use Rattle.cjc_world.specs.ClassFile.declared.tree.ClassTree.{ClassTree}
use Rattle.cjc_world.specs.ClassFile.declared.tree.MethodTree.{MethodTree}
use Rattle.cjc_world.specs.Files.{Files}
use Rattle.cjc_components.specs.Bytecode.declared.method_code.MethodCode.{MethodCode}
use Rattle.cjc_narrow.specs.Rows.Resolved.{resolution}
use Rattle.cjc_narrow.specs.Rows.Selected.{selected_code}
use Rattle.cjc_narrow.specs.Types.Flow.{body_of}
use Rattle.cjc_narrow.specs.Types.declared.state.State.{State}
use Rattle.cjc_narrow.specs.Written.Rows.{has_rows, rows_by}
use Rattle.cjc_pool.specs.NCode.declared.narrow.NMethod.{NMethod}
use Rattle.cjc_intervals.specs.Frames.{RangeState}
use Rattle.cjc_int_mode.specs.Written.{written_in_int_mode}
use Rattle.cjc_int_mode.specs.declared.modes.Mode.{Mode}
use Rattle.cjc_int_mode.specs.declared.modes.Mode.TheVariants as modes

-- by the states and the intervals of its least tables
abbrev pub selected_by : Mode → Files → (near : List MemberId) → MethodCode → ClassTree → MethodTree → CodeTree
    → List (Option State) → List (Option RangeState) → NMethod
selected_by modes.Short files near code class method tree types ranges =
    selected_code files near class method tree code.insns (rows_by (has_rows types))
selected_by modes.Int files near code class method tree types ranges =
    written_in_int_mode (resolution files near class.name) tree (body_of class method tree code.insns) types ranges
