-- Methods of Method in int mode beside the methods of class files that they are written for.
use Rattle.std.specs.Prelude.{◌≡◌, ◌<◌, ◌-◌, ℕ, false, List, length, slice_get, Option, Some}
use Rattle.std.specs.List.{Contains}
use Rattle.cjc_types.specs.Bytecode.declared.method_code.MethodCode.{MethodCode}
use Rattle.cjc_types.specs.Bytes.AccessFlags.{is_interface}
use Rattle.cjc_types.specs.ClassFile.Code.{CodeTree}
use Rattle.cjc_types.specs.ClassFile.declared.tree.ClassTree.{ClassTree}
use Rattle.cjc_types.specs.ClassFile.declared.tree.MethodTree.{MethodTree}
use Rattle.cjc_types.specs.Flow.{Body as BodyByName, body_of}
use Rattle.cjc_types.specs.Tables.{Breach, IsLeastTable, IsMethodOf}
use Rattle.cjc_types.specs.declared.state.State.{State}
use Rattle.cjc_ncode.specs.Written.{Resolution}
use Rattle.cjc_check_proof.specs.JvmSemantics.Linked.{Method}
use Rattle.cjc_check_proof.specs.JvmSemantics.OnePackage.{is_initialiser, method_at, method_by}
use Rattle.cjc_check_proof.specs.NarrowProof.Selected.Keeps.{FindsItself}
use Rattle.cjc_check_proof.specs.Intervals.Frames.{RangeState}
use Rattle.cjc_shape_proof.specs.LowerIntPackage.LowerIntMode.Room.{LacksRoom}
use Rattle.cjc_shape_proof.specs.LowerIntPackage.LowerIntMode.Written.{written_in_int_mode}
use Rattle.cjc_shape_proof.specs.LowerIntPackage.LowerIntMode.declared.modes.Mode.TheVariants as modes
use Rattle.cjc_int_components.specs.Modes.{Tables}
use Rattle.cjc_verify.specs.Components.Package.{LaidMethod, Package, pool, world}
use Rattle.cjc_verify.specs.Narrow.Rows.Resolved.{resolution}
use Rattle.cjc_verify.specs.Narrow.Rows.Selected.{near_fields}

-- A method of Method, and the method of a class file with its decoded code.
pub record IntMethod : Type 0 where
  pub laid : LaidMethod
  pub code : MethodCode
  pub class : ClassTree
  pub method : MethodTree
  pub tree : CodeTree

-- the method, as its package looks it up
abbrev pub method_of : IntMethod → Method
method_of m = method_by m.class m.method (Some m.tree)

-- what inference reads of it
abbrev pub body_by_name : IntMethod → BodyByName
body_by_name m = let code = m.code in body_of m.class m.method m.tree code.insns

-- what its names stand for
abbrev pub names_in : Package → IntMethod → Resolution
names_in p m = let class = m.class in resolution p.files (near_fields (pool p)) class.name

-- its least tables
abbrev pub types_in : Tables → IntMethod → List (Option State)
types_in t m = t.types (method_of m)

abbrev pub ranges_in : Tables → IntMethod → List (Option RangeState)
ranges_in t m = t.ranges (method_of m)

-- The one of this number in Method is written in int mode for the other, whose code is among these, by its least
-- tables. These break no rule of types, and there is room for it.
pub record IsInIntMode (p : Package) (t : Tables) (m : IntMethod) (codes : List MethodCode) (number : ℕ) :
    Type 0 where
  pub is_laid : slice_get p.methods number ≡ Some m.laid
  pub named : (let laid = m.laid in method_at p.files laid.member) ≡ Some (method_of m)
  pub class_there : (let laid = m.laid in let f = laid.member in let w = p.files in slice_get w.classes f.class)
      ≡ Some m.class
  pub method_there : (let laid = m.laid in let f = laid.member in let class = m.class in slice_get class.methods
      (f.member - length class.fields)) ≡ Some m.method
  pub no_interface : (let class = m.class in is_interface class.flags) ≡ false
  pub is_method : IsMethodOf p.files m.code m.class m.method m.tree
  pub listed : Contains codes m.code
  pub plain : (let method = m.method in is_initialiser method.name) ≡ false
  pub some : (let tree = m.tree in 0 < length tree.bytes)
  pub found : FindsItself p.files m.class m.method
  pub mode : t.mode (method_of m) ≡ modes.Int
  pub least : IsLeastTable (body_by_name m) (types_in t m)
  pub unbroken : (place rule : ℕ) → Breach (world p) (body_by_name m) (types_in t m) place rule → ⊥
  pub room : LacksRoom (body_by_name m) (types_in t m) modes.Int → ⊥
  pub written : (let laid = m.laid in laid.code) ≡ written_in_int_mode (names_in p m) m.tree (body_by_name m)
      (types_in t m) (ranges_in t m)
