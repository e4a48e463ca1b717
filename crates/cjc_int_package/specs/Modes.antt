-- The modes of the methods of a package, by their least tables.
use Rattle.std.specs.Prelude.{◌≡◌, Bool, true, false, List, Option, Some, None}
use Rattle.std.specs.List.{Contains}
use Rattle.cjc_world.specs.ClassFile.Code.{CodeTree}
use Rattle.cjc_world.specs.ClassFile.declared.tree.ClassTree.{ClassTree}
use Rattle.cjc_world.specs.ClassFile.declared.tree.MethodTree.{MethodTree}
use Rattle.cjc_world.specs.Classes.{all_classes}
use Rattle.cjc_world.specs.Files.{Files}
use Rattle.cjc_components.specs.Bytecode.PackageCodes.{all_codes}
use Rattle.cjc_components.specs.Bytecode.declared.method_code.MethodCode.{MethodCode}
use Rattle.cjc_components.specs.LowerTypes.Flow.{body_of}
use Rattle.cjc_components.specs.LowerTypes.Tables.{IsLeastTable, IsMethodOf}
use Rattle.cjc_components.specs.LowerTypes.declared.state.State.{State}
use Rattle.cjc_int_mode.specs.Intervals.Frames.{RangeState}
use Rattle.cjc_intervals.specs.Tables.{IsLeastRanges}
use Rattle.cjc_components.specs.LowerJvmSemantics.Linked.{Method}
use Rattle.cjc_components.specs.LowerJvmSemantics.OnePackage.{method_by}
use Rattle.cjc_components.specs.LowerNarrow.Rows.Resolved.{constant_named}
use Rattle.cjc_components.specs.LowerTokens.Members.{is_initialiser}
use Rattle.cjc_int_mode.specs.Modes.{IsModeOf}
use Rattle.cjc_int_mode.specs.declared.modes.Mode.{Mode}
use Rattle.cjc_int_mode.specs.declared.modes.Mode.TheVariants as modes

-- What is told of a method: the least table of its types, that of its intervals, and its mode.
pub record Tables : Type 0 where
  pub types : Method → List (Option State)
  pub ranges : Method → List (Option RangeState)
  pub mode : Method → Mode

-- whether a mode is int mode
abbrev pub is_int : Mode → Bool
is_int modes.Int = true
is_int modes.Short = false

-- Of a method with code both tables are the least, of the intervals over the types.
abbrev pub AreLeast : Files → Tables → Type 0
AreLeast files t =
    (code : MethodCode) (class : ClassTree) (method : MethodTree) (tree : CodeTree)
    → Contains (all_codes files.classes) code → IsMethodOf files code class method tree
    → (let m = method_by class method (Some tree) in let b = body_of class method tree code.insns in IsLeastTable b
    (t.types m) × IsLeastRanges b (constant_named files (all_classes files)) (t.types m) (t.ranges m))

-- A method with code is in the mode that its tables give, where `ints` says whether the list has the line `int`. An
-- initialiser, which is not written, has none, and a method without code has none: both count as not in int mode.
pub record AreModes (ints : Bool) (files : Files) (t : Tables) : Type 0 where
  pub with_code : (code : MethodCode) (class : ClassTree) (method : MethodTree) (tree : CodeTree)
      → Contains (all_codes files.classes) code → IsMethodOf files code class method tree
      → is_initialiser method.name ≡ false
      → (let m = method_by class method (Some tree) in IsModeOf ints (body_of class method tree code.insns) (t.types m)
      (t.ranges m) (t.mode m))
  pub initialisers : (class : ClassTree) (method : MethodTree) (tree : CodeTree) → is_initialiser method.name ≡ true
      → t.mode (method_by class method (Some tree)) ≡ modes.Short
  pub without_code : (class : ClassTree) (method : MethodTree) → t.mode (method_by class method None) ≡ modes.Short
