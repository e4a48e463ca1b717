-- When the components of a package some of whose methods are in int mode behave as its class files.
use Rattle.std.specs.Prelude.{◌≡◌, ℕ, Bool, true, false, List, [], Some}
use Rattle.std.specs.List.{Contains}
use Rattle.cjc_check_proof.specs.TokenProof.WrittenSends.Sends.{ExportsSend}
use Rattle.cjc_classes.specs.JvmSemantics.Linked.{Method}
use Rattle.cjc_classes.specs.JvmSemantics.OnePackage.{is_initialiser, method_by}
use Rattle.cjc_classes.specs.List.Listed.{ListTree}
use Rattle.cjc_classes.specs.Types.Flow.{body_of}
use Rattle.cjc_classes.specs.Types.Tables.{IsMethodOf, IsTypeTable}
use Rattle.cjc_classes.specs.Types.declared.table.TypeTable.{TypeTable}
use Rattle.cjc_int_narrow.specs.LowerIntMode.Modes.{binds}
use Rattle.cjc_shape.specs.Flow.Tests.Breaches.{NoBreach}
use Rattle.cjc_world.specs.ClassFile.Code.{CodeTree}
use Rattle.cjc_world.specs.ClassFile.declared.tree.ClassTree.{ClassTree}
use Rattle.cjc_world.specs.ClassFile.declared.tree.MethodTree.{MethodTree}
use Rattle.cjc_world.specs.Classes.{all_classes}
use Rattle.cjc_classes.specs.Narrow.Rows.Selected.{near_fields}
use Rattle.cjc_components.specs.Bytecode.declared.method_code.MethodCode.{MethodCode}
use Rattle.cjc_components.specs.Package.{Package, pool}
use Rattle.cjc_narrow_proof.specs.Runs.Tables.{Tables as RunTables}
use Rattle.cjc_int_alike.specs.Converted.{IsNarrowedByModes}
use Rattle.cjc_components.specs.Limits.{form_breaks, of_methods, size_breaks}
use Rattle.cjc_int_components.specs.Limits.{word_breaks_by_modes}
use Rattle.cjc_int_components.specs.Modes.{AreLeast, AreModes, Tables, is_int}
use Rattle.cjc_int_components.specs.Written.{IsPackageByModes}
use Rattle.cjc_check_proof.specs.WorldProof.Files.{ExportsAreSound}
use Rattle.cjc_shape_proof.specs.LowerJudge.Spelt.{IsRead}
use Rattle.cjc_shape_proof.specs.LowerJudge.declared.judged.Judged.{Judged}
use Rattle.cjc_shape_proof.specs.LowerShape.Prepared.{IsSound}
use Rattle.cjc_shape_proof.specs.Written.Converted.{ExportsArePlain}
use Rattle.cjc_vtable.specs.Kept.{ExportsAgree}
use Rattle.cjc_world.specs.Files.{Files}
use Rattle.cjc_int_theorem.specs.ByModes.{IsConvertedByModes}
use Rattle.cjc_int_theorem.specs.Tabled.{IsOwnMethod}
use Rattle.cjc_classes.specs.Types.declared.state.State.{State}
use Rattle.cjc_vtable.specs.Fixpoint.Tables.{HasRow}

-- Tables and modes by which whole runs go that are these of each method of the package with code that is no initialiser.
-- No other has a row there or is in int mode.
pub record AreRunBy (files : Files) (t : Tables) (tables : RunTables) (in_int_mode : Method → Bool) : Type 0 where
  pub types : (x : Method) → IsOwnMethod files x → tables.types x ≡ t.types x
  pub ranges : (x : Method) → IsOwnMethod files x → tables.ranges x ≡ t.ranges x
  pub modes : (x : Method) → IsOwnMethod files x → in_int_mode x ≡ is_int (t.mode x)
  pub others : (x : Method) → (IsOwnMethod files x → ⊥) → tables.types x ≡ []
  pub only : (x : Method) (at : ℕ) (s : State) → HasRow (tables.types x) at s → IsOwnMethod files x
  pub only_int : (x : Method) → in_int_mode x ≡ true → IsOwnMethod files x

-- A package by modes that breaks no rule, whose export files send what its components are sent; and by its tables and
-- modes, its methods have least tables that break none of the rules of their modes, what they and scripts name is found
-- in the class files and export files, and what the image says is of sound types.
pub record BehavesByModes (list : ListTree) (codes : List MethodCode) (t : Tables) (p : Package) : Type 0 where
  pub converted : IsConvertedByModes list codes t p
  pub sends : ExportsSend p
  pub tables : RunTables
  pub in_int_mode : Method → Bool
  pub are_its : AreRunBy p.files t tables in_int_mode
  pub narrowed : IsNarrowedByModes p.files p.image (near_fields (pool p)) tables in_int_mode

-- A package by modes that breaks no rule, whose export files send what its components are sent. Its methods with code
-- have their type tables, as inference answers them, and no number breaks one of 601 to 609 that binds its method's
-- mode.
pub record IsPassedByModes (list : ListTree) (codes : List MethodCode) (t : Tables) (p : Package) : Type 0 where
  pub converted : IsConvertedByModes list codes t p
  pub sends : ExportsSend p
  pub tables : (code : MethodCode) (class : ClassTree) (method : MethodTree) (tree : CodeTree)
      → IsMethodOf p.files code class method tree → Contains codes code → (table : TypeTable)
      × IsTypeTable (all_classes p.files) (body_of class method tree code.insns) table
  pub passes : (code : MethodCode) (class : ClassTree) (method : MethodTree) (tree : CodeTree)
      → IsMethodOf p.files code class method tree → Contains codes code → is_initialiser method.name ≡ false
      → (let x = method_by class method (Some tree) in NoBreach (binds (t.mode x)) (body_of class method tree
      code.insns) (t.types x) (t.ranges x))

-- The package of a list that was read and of files that were judged and break no rule, by the least tables and the modes
-- of its methods. What is written for it breaks none of 311, 411 and 414 to 417. Its export files say of their classes
-- what a platform has, don't contradict one another, and send what its components are sent.
pub record IsJudgedByModes (list : ListTree) (files : List (List ℕ)) (judged : Judged) (t : Tables) (p : Package) :
    Type 0 where
  pub read : IsRead list
  pub sound : IsSound list files judged
  pub same : p.files ≡ judged.world
  pub is_package : IsPackageByModes list p.files judged.codes t p
  pub least : AreLeast p.files t
  pub modes : AreModes list.ints p.files t
  pub words : of_methods p (word_breaks_by_modes t p) ≡ []
  pub forms : form_breaks p ≡ []
  pub sizes : size_breaks p ≡ []
  pub exports : ExportsAreSound p.files
  pub plain : ExportsArePlain p.files
  pub agree : ExportsAgree (all_classes p.files)
  pub sends : ExportsSend p
