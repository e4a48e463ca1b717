-- What the machine by token is given: the components of each package of a group, the export files of the packages
-- outside it, and names.
use Rattle.std.specs.Prelude.{ℕ, List}
use Rattle.cjc_export.specs.Bytes.declared.fault.MemberId.{MemberId}
use Rattle.cjc_capread.specs.declared.tree.ClassDescriptor.{ClassDescriptor}
use Rattle.cjc_capread.specs.declared.tree.ClassInfo.{ClassInfo}
use Rattle.cjc_capread.specs.declared.tree.ExportedClass.{ExportedClass}
use Rattle.cjc_capread.specs.declared.tree.Method.{Method}
use Rattle.cjc_capread.specs.declared.tree.PoolEntry.{PoolEntry}
use Rattle.cjc_capread.specs.declared.tree.StaticField.{StaticField}
use Rattle.cjc_export.specs.declared.tree.ExportTree.{ExportTree}

-- ---- names

-- the name and descriptor of a method
pub record MethodName : Type 0 where
  pub name : List ℕ
  pub desc : List ℕ

-- an instance field by its token
pub record FieldName : Type 0 where
  pub token : ℕ
  pub name : List ℕ
  pub desc : List ℕ

-- Of the class info with the same number: its name, the methods of its class as Descriptor lists them, its instance
-- fields in class file order, an interface's methods by token.
pub record ClassNames : Type 0 where
  pub name : List ℕ
  pub methods : List MethodName
  pub fields : List FieldName
  pub interface_methods : List MethodName

-- a static cell by its offset in the image
pub record CellName : Type 0 where
  pub offset : ℕ
  pub id : MemberId

-- ---- a group

-- what a package imports: another of the group by its number, or one outside by the number of its export file
pub data Import : Type 0 where
  OfGroup : (part : ℕ) → Import
  OfFile : (tree : ℕ) → Import

-- a package: its components, its imports by package token, and names
pub record Part : Type 0 where
  pub method : Method
  pub pool : List PoolEntry
  pub class : ClassInfo
  pub descriptor : List ClassDescriptor
  pub exports : List ExportedClass
  pub statics : StaticField
  pub imports : List Import
  -- one for each class info, interfaces first
  pub classes : List ClassNames
  -- in the order of the report
  pub cells : List CellName

-- the packages of a group, and the export files of those outside
pub record Loaded : Type 0 where
  pub parts : List Part
  pub trees : List ExportTree
