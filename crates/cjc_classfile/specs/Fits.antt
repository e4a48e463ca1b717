-- What each class file keeps to by the widths of its fields (Java Virtual Machine Specification, chapter 4).
use Rattle.std.specs.Prelude.{ℕ, ◌<◌, ◌≤◌, List, length, IfSome}
use Rattle.std.specs.List.{AllByRecursion}
use Rattle.cjc_classfile.specs.declared.tree.FieldTree.{FieldTree}
use Rattle.cjc_classfile.specs.declared.tree.MethodTree.{MethodTree}
use Rattle.cjc_classfile.specs.declared.tree.ClassTree.{ClassTree}
use Rattle.cjc_classfile.specs.Code.{CodeTree}

-- a text of the constant pool
abbrev pub IsText : List ℕ → Type 0
IsText text = length text ≤ 65535

-- the code of a method has from 1 to 65,535 bytes
pub record CodeFits (code : CodeTree) : Type 0 where
  pub some : 0 < length code.bytes
  pub bytes : length code.bytes ≤ 65535

-- the name and the descriptor of a field are texts of the constant pool
pub record FieldFits (field : FieldTree) : Type 0 where
  pub name : IsText field.name
  pub desc : IsText field.desc

-- the name and the descriptor of a method are texts of the constant pool, and its code fits where it has some
pub record MethodFits (method : MethodTree) : Type 0 where
  pub name : IsText method.name
  pub desc : IsText method.desc
  pub code : IfSome method.code CodeFits

-- all names of a class are texts of the constant pool, its members fit, and of each kind there are at most 65,535
pub record ClassFits (class : ClassTree) : Type 0 where
  pub name : IsText class.name
  pub superclass : IsText class.superclass
  pub interfaces : AllByRecursion IsText class.interfaces
  pub fields : AllByRecursion FieldFits class.fields
  pub methods : AllByRecursion MethodFits class.methods
  pub field_count : length class.fields ≤ 65535
  pub method_count : length class.methods ≤ 65535
