-- What is known of a package whose methods are written: the instructions and the types of each, and that it can be
-- selected and laid out.
use Rattle.std.specs.Prelude.{◌≡◌, ℕ, ◌-◌, ◌≤◌, List, length, map, slice_get, true, false, Option, Some, None, Ok}
use Rattle.cjc_bytes.specs.declared.fault.MemberId.{MemberId}
use Rattle.cjc_world.specs.ClassFile.Code.{CodeTree}
use Rattle.cjc_world.specs.ClassFile.declared.tree.ClassTree.{ClassTree}
use Rattle.cjc_world.specs.ClassFile.declared.tree.MethodTree.{MethodTree}
use Rattle.cjc_components.specs.Bytecode.Decoded.{decoding}
use Rattle.cjc_components.specs.Bytecode.PackageCodes.{all_codes}
use Rattle.cjc_components.specs.Bytecode.declared.insn.JInsn.{JInsn}
use Rattle.cjc_components.specs.Bytecode.declared.method_code.MethodCode.{MethodCode}
use Rattle.cjc_narrow.specs.Types.Flow.{body_of}
use Rattle.cjc_narrow.specs.Types.Tables.{IsMethodOf, IsTypeTable, rows_of}
use Rattle.cjc_narrow.specs.Types.declared.state.State.{State}
use Rattle.cjc_narrow.specs.Types.declared.table.TypeTable.{TypeTable}
use Rattle.cjc_world.specs.declared.found.Found.{Found}
use Rattle.cjc_world.specs.Classes.{Class, all_classes, class_at}
use Rattle.cjc_world.specs.Files.{Files}
use Rattle.cjc_world.specs.Order.{in_order}
use Rattle.cjc_pool.specs.JvmSemantics.Linked.{Method}
use Rattle.cjc_pool.specs.JvmSemantics.OnePackage.{method_by}
use Rattle.cjc_narrow.specs.Rows.Package.{flags_of}
use Rattle.cjc_narrow.specs.Rows.Resolved.{method_found, resolution}
use Rattle.cjc_narrow.specs.Rows.Selected.{selected_code}
use Rattle.cjc_narrow.specs.Written.Rows.{has_rows, rows_by}
use Rattle.cjc_narrow.specs.Select.Select.{IsSelectable}
use Rattle.cjc_pool.specs.Layout.Layouts.{IsWhole}
use Rattle.cjc_pool.specs.Subset.Ints.{code_works_on_int}
use Rattle.cjc_pool.specs.Tokens.Members.{is_initialiser}
use Rattle.cjc_intervals.specs.Frames.{RangeState}
use Rattle.cjc_intervals.specs.Tables.{IsLeastRanges}
use Rattle.cjc_int_mode.specs.Room.{IsRoom}
use Rattle.cjc_int_mode.specs.Written.{written_in_int_mode}
use Rattle.cjc_int_mode.specs.declared.modes.Mode.{Mode}
use Rattle.cjc_int_mode.specs.declared.modes.Mode.TheVariants as modes
use Rattle.cjc_int_narrow.specs.Constants.{constants_of}
use Rattle.cjc_int_narrow.specs.Select.{IsSelectable as IsIntSelectable}
use Rattle.cjc_int_package.specs.Modes.{Tables}

-- ---- classes and members

-- the numbers of the classes that are no interfaces, in the order of Class
abbrev pub AreOrdered : Files → List ℕ → Type 0
AreOrdered files order = map Some (in_order (all_classes files) false) ≡ map (class_at (all_classes files) false) order

-- a member of a class of the package
pub record IsOwn (files : Files) (f : Found) : Type 0 where
  pub own : f.imported ≡ false
  pub class : Class
  pub is_class : class_at (all_classes files) f.imported f.class ≡ Some class

-- A member of a class of the package that is written: no initialiser.
pub record IsListed (files : Files) (f : Found) : Type 0 where
  pub own : IsOwn files f
  pub written : (class : ClassTree) (method : MethodTree) → slice_get files.classes f.class ≡ Some class
      → slice_get class.methods (f.member - length class.fields) ≡ Some method → is_initialiser method.name ≡ false

-- ---- methods with their types

-- the states before the instructions of a method
abbrev pub states : MethodCode → ClassTree → MethodTree → CodeTree → TypeTable → List (Option State)
states code class method tree table = rows_of (body_of class method tree code.insns) table

-- the code of a method was decoded
pub record IsDecoded (class : ClassTree) (method : MethodTree) (tree : CodeTree) : Type 0 where
  pub bytes : length tree.bytes ≤ 65535
  pub insns : List JInsn
  pub decodes : decoding class method tree ≡ Ok insns

-- The table is of the types of the method, which can be selected where it does not work on int, and in int mode where
-- there is room; and what is selected by the table in either mode can be laid out, whichever field instructions have an
-- index of one byte, and whatever its intervals are.
pub record IsReady (files : Files) (code : MethodCode) (class : ClassTree) (method : MethodTree) (tree : CodeTree)
    (table : TypeTable) : Type 0 where
  pub types : IsTypeTable (all_classes files) (body_of class method tree code.insns) table
  pub selectable : code_works_on_int files code ≡ false → IsSelectable method tree code.insns (has_rows (states code
      class method tree table))
  pub whole : (near : List MemberId)
      → IsWhole (selected_code files near class method tree code.insns
      (rows_by (has_rows (states code class method tree table))))
  pub int_selectable : (let b = body_of class method tree code.insns in IsRoom b (states code class method tree table)
      modes.Int true → IsIntSelectable b (states code class method tree table))
  pub int_whole : (near : List MemberId) (ranges : List (Option RangeState))
      → IsWhole (written_in_int_mode (resolution files near class.name) tree (body_of class method tree code.insns)
      (states code class method tree table) ranges)

-- The instructions of all methods with code, and the types of each. A look-up of a method's own name finds one with its
-- flags.
pub record AreReady (files : Files) (codes : List MethodCode) (types : List TypeTable) : Type 0 where
  pub codes_are : codes ≡ all_codes files.classes
  pub decoded : (n i : ℕ) (class : ClassTree) (method : MethodTree) (tree : CodeTree) → slice_get files.classes n
      ≡ Some class → slice_get class.methods i ≡ Some method → method.code ≡ Some tree → IsDecoded class method tree
  pub found : (n i : ℕ) (class : ClassTree) (method : MethodTree) → slice_get files.classes n ≡ Some class
      → slice_get class.methods i ≡ Some method
      → flags_of (method_found (all_classes files) (record {
        class = class.name;
        name = method.name;
        desc = method.desc;
      })) ≡ method.flags
  pub count : length types ≡ length codes
  pub each : (k : ℕ) (code : MethodCode) (table : TypeTable) → slice_get codes k ≡ Some code
      → slice_get types k ≡ Some table
      → (class : ClassTree) (method : MethodTree) (tree : CodeTree) → IsMethodOf files code class method tree
      → IsReady files code class method tree table

-- Of each method the rows are the states that its types stand for.
abbrev pub AreRows : Files → List MethodCode → List TypeTable → (Method → List (Option State)) → Type 0
AreRows files codes types rows =
    (k : ℕ) (code : MethodCode) (table : TypeTable) → slice_get codes k ≡ Some code → slice_get types k ≡ Some table
    → (class : ClassTree) (method : MethodTree) (tree : CodeTree) → IsMethodOf files code class method tree
    → rows (method_by class method (Some tree)) ≡ states code class method tree table

-- A method that is not in int mode does not work on int, unless it is an initialiser.
abbrev pub AreFree : Files → List MethodCode → List Mode → Type 0
AreFree files codes modes_of =
    (k : ℕ) (code : MethodCode) (class : ClassTree) (method : MethodTree) (tree : CodeTree)
    → slice_get codes k ≡ Some code → slice_get modes_of k ≡ Some modes.Short
    → IsMethodOf files code class method tree → is_initialiser method.name ≡ false
    → code_works_on_int files code ≡ false

-- What is told of methods is what was found of them: the states and the intervals of their least tables, and their
-- modes.
pub record AreTold (files : Files) (codes : List MethodCode) (types : List TypeTable) (modes_of : List Mode)
    (t : Tables) : Type 0 where
  pub rows : AreRows files codes types t.types
  pub ranges : (k : ℕ) (code : MethodCode) (table : TypeTable) → slice_get codes k ≡ Some code
      → slice_get types k ≡ Some table
      → (class : ClassTree) (method : MethodTree) (tree : CodeTree) → IsMethodOf files code class method tree
      → IsLeastRanges (body_of class method tree code.insns) (constants_of files) (states code class method tree table)
      (t.ranges (method_by class method (Some tree)))
  pub mode : (k : ℕ) (code : MethodCode) (mode : Mode) → slice_get codes k ≡ Some code
      → slice_get modes_of k ≡ Some mode
      → (class : ClassTree) (method : MethodTree) (tree : CodeTree) → IsMethodOf files code class method tree
      → t.mode (method_by class method (Some tree)) ≡ mode
  pub without_code : (class : ClassTree) (method : MethodTree) → t.mode (method_by class method None) ≡ modes.Short
