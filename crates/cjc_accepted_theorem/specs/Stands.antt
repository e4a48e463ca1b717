-- Methods of Method of a converted package, each beside the method of a class file that it is written for.
use Rattle.std.specs.Prelude.{◌≡◌, ◌-◌, ℕ, false, List, [], length, slice_get, Some}
use Rattle.cjc_ncode.specs.Lowering.Placed.{HandlersStand}
use Rattle.cjc_shape_proof.specs.LowerIntPackage.LowerIntMode.declared.modes.Mode.TheVariants as modes
use Rattle.cjc_shape_proof.specs.LowerIntPackage.Modes.{Tables}
use Rattle.cjc_token_proof.specs.Subset.Ints.{code_works_on_int}
use Rattle.cjc_verified_proof.specs.Bytecode.declared.method_code.MethodCode.{MethodCode}
use Rattle.cjc_verified_proof.specs.ClassFile.declared.tree.ClassTree.{ClassTree}
use Rattle.cjc_verified_proof.specs.ClassFile.declared.tree.MethodTree.{MethodTree}
use Rattle.cjc_verified_proof.specs.ClassFile.Code.{CodeTree}
use Rattle.cjc_verified_proof.specs.Components.Methods.{placed_at}
use Rattle.cjc_verified_proof.specs.Components.Names.{names}
use Rattle.cjc_verified_proof.specs.Components.Package.{LaidMethod, Package}
use Rattle.cjc_verified_proof.specs.JvmSemantics.OnePackage.{method_by}
use Rattle.cjc_verified_proof.specs.TokenProof.Tables.Loading.{part}
use Rattle.cjc_verified_proof.specs.Verify.Bodies.{Body}
use Rattle.cjc_accepted_proof.specs.Beside.{Beside, IsBeside}
use Rattle.cjc_accepted_proof.specs.Checked.{IsReadAs}

-- The method of this number is one of a class file with code, in int mode by these tables.
pub record StandsInIntMode (p : Package) (t : Tables) (number : ℕ) : Type 0 where
  pub laid : LaidMethod
  pub is_laid : slice_get p.methods number ≡ Some laid
  pub class : ClassTree
  pub method : MethodTree
  pub tree : CodeTree
  pub is_class : (let f = laid.member in let w = p.files in slice_get w.classes f.class) ≡ Some class
  pub is_method : (let f = laid.member in slice_get class.methods (f.member - length class.fields)) ≡ Some method
  pub is_code : method.code ≡ Some tree
  pub mode : t.mode (method_by class method (Some tree)) ≡ modes.Int

-- It has no instructions, as an abstract one; or it is written in short mode for a method whose code is among these and
-- does not work on int, the type checker reads of it what that says, and its handlers stand in the table; or it is in
-- int mode.
pub data StandsBeside (p : Package) (codes : List MethodCode) (t : Tables) (number : ℕ) (v : Body) : Type 0 where
  bare : v.instructions ≡ [] → StandsBeside p codes t number v
  written : (m : Beside) → IsBeside p m codes → code_works_on_int p.files m.code ≡ false → IsReadAs p m v
      → HandlersStand (names p) (placed_at m.offset m.laid) (part p) → StandsBeside p codes t number v
  in_int_mode : StandsInIntMode p t number → StandsBeside p codes t number v
