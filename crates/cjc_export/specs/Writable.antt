-- Which trees some export file spells, said of the tree alone.
use Rattle.std.specs.Prelude.{◌≡◌, ◌<◌, ◌^◌, ℕ, ℤ, Bool, true, false, ◌&&◌, List, [], ◌∷◌, ◌++◌, length, All, Option}
use Rattle.std.specs.Prelude.{Some, None, is_none, FitsSigned}
use Rattle.std.specs.List.{AllByRecursion}
use Rattle.std.specs.Int.{w32}
use Rattle.cjc_export.specs.declared.tree.ExportField.{ExportField}
use Rattle.cjc_export.specs.declared.tree.ExportMethod.{ExportMethod}
use Rattle.cjc_export.specs.declared.tree.ExportClass.{ExportClass}
use Rattle.cjc_export.specs.declared.tree.ExportTree.{ExportTree}
use Rattle.cjc_bytes.specs.AccessFlags.{is_interface}
use Rattle.cjc_export.specs.Pool.{aid_length}
use Rattle.cjc_export.specs.Members.{as_desc, may_be_constant, field_token_taken, is_unbound, method_token_wrong}
use Rattle.cjc_export.specs.Members.{interface_token, not_special}
use Rattle.cjc_export.specs.ExportFile.{class_token, new_name, method_count}
use Rattle.cjc_export.specs.Constant.{Constant, text, integer}
use Rattle.cjc_export.specs.Root.{with_root}
use Rattle.cjc_export.specs.Written.{constants}

-- A text has at most 65535 bytes.
abbrev pub IsText : List ℕ → Type 0
IsText bytes = length bytes < 2 ^ 16

-- A constant fits an entry of the pool.
abbrev pub ConstantFits : Constant → Type 0
ConstantFits (text bytes) = IsText bytes
ConstantFits (integer n) = n < 2 ^ 32
ConstantFits _ = Unit {0}

-- The counts of a class fit their fields.
pub record CountsFit (c : ExportClass) : Type 0 where
  pub listed : length c.listed < 2 ^ 16
  pub interfaces : length c.interfaces < 2 ^ 8
  pub fields : length c.fields < 2 ^ 16
  pub methods : length c.methods < 2 ^ 16

-- Each item of a list has the property with those before it known.
abbrev pub EachAfter : {A : Type 0} → (List A → A → Type 0) → List A → List A → Type 0
EachAfter P before [] = Unit {0}
EachAfter P before (x ∷ xs) = P before x × EachAfter P (before ++ x ∷ []) xs

-- The value of a constant is a signed number of 32 bits, and a constant has no token.
abbrev pub ValueFits : ExportField → Option ℤ → Type 0
ValueFits f None = Unit {0}
ValueFits f (Some value) = FitsSigned w32 value × (may_be_constant f.flags f.desc ≡ true) × (f.token ≡ 0xFF)

-- A field can stand behind these.
pub record FieldFits (before : List ExportField) (f : ExportField) : Type 0 where
  pub token : f.token < 2 ^ 8
  pub flags : f.flags < 2 ^ 16
  pub name : IsText f.name
  pub desc : IsText f.desc
  pub is_desc : as_desc false f.desc ≡ Some f.desc
  pub value : ValueFits f f.constant
  pub apart : (field_token_taken before f.flags f.token && is_none f.constant) ≡ false

-- What methods of classes and of interfaces have in common.
pub record MethodFits (m : ExportMethod) : Type 0 where
  pub token : m.token < 2 ^ 8
  pub flags : m.flags < 2 ^ 16
  pub name : IsText m.name
  pub desc : IsText m.desc
  pub is_desc : as_desc true m.desc ≡ Some m.desc

-- A method can stand behind these, in an interface with so many methods, or in a class.
abbrev pub MethodStands : Bool → ℕ → List ExportMethod → ExportMethod → Type 0
MethodStands true count before m = MethodFits m × (interface_token count before m.token ≡ Some m.token)
    × (not_special m.name ≡ Some m.name)
MethodStands false count before m = MethodFits m × (method_token_wrong before (is_unbound m.flags m.name) m.token
    ≡ false)

-- A class can stand behind these.
pub record ClassFits (before : List ExportClass) (c : ExportClass) : Type 0 where
  pub token : c.token < 2 ^ 8
  pub own_token : class_token before c.token ≡ Some c.token
  pub flags : c.flags < 2 ^ 16
  pub name : IsText c.name
  pub own_name : new_name before c.name ≡ Some c.name
  pub counts : CountsFit c
  pub listed : AllByRecursion IsText c.listed
  pub supers : c.supers ≡ with_root c.name c.listed
  pub interfaces : AllByRecursion IsText c.interfaces
  pub fields : EachAfter FieldFits [] c.fields
  pub count : method_count (is_interface c.flags) (length c.methods) ≡ Some (length c.methods)
  pub methods : EachAfter (MethodStands (is_interface c.flags) (length c.methods)) [] c.methods

-- Each number is one of a file's bytes.
abbrev pub AreBytes : List ℕ → Type 0
AreBytes bytes = All (λ b. b < 2 ^ 8) bytes

-- Some file spells the tree: its numbers and texts fit their fields, its tokens and names are apart, and its
-- constants have indices.
pub record IsWritable (t : ExportTree) : Type 0 where
  pub name : IsText t.name
  pub aid : aid_length (length t.aid) ≡ Some (length t.aid)
  pub major : t.major < 2 ^ 8
  pub minor : t.minor < 2 ^ 8
  pub count : length t.classes < 2 ^ 8
  pub classes : EachAfter ClassFits [] t.classes
  pub constants : length (constants t) < 2 ^ 16
