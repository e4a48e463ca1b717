-- Parts of the form that are tested together.
use Rattle.std.specs.Prelude.{◌≡◌, ℕ, ◌≤◌, ◌⊎◌, ◌∷◌, ◌++◌, List, [], drop, length, sum_by, Bool, true, nat_lt}
use Rattle.std.specs.List.{list_all, list_any, AllByRecursion}
use Rattle.cjc_export.specs.Writable.{MethodFits}
use Rattle.cjc_export.specs.declared.tree.ExportClass.{ExportClass}
use Rattle.cjc_export.specs.declared.tree.ExportTree.{ExportTree}
use Rattle.cjc_first.specs.Above.{free_token}
use Rattle.cjc_classfile.specs.Code.{CodeTree}
use Rattle.cjc_classfile.specs.declared.tree.ClassTree.{ClassTree}
use Rattle.cjc_code.specs.declared.insn.JInsn.{JInsn}
use Rattle.cjc_code.specs.declared.insn.JOp.{JOp}
use Rattle.cjc_code.specs.declared.insn.JOp.TheVariants.{Load}
use Rattle.cjc_first.specs.Selected.{widest}
use Rattle.cjc_first.specs.FirstForm.{is_sum as is_sum_of, is_iadd, ops_of, is_name_item, object, IsPart, PackageLine, IsFirstForm}

-- The numbers of a code are small, and it has no handlers.
pub record HasPlainFrame (params : ℕ) (code : CodeTree) : Type 0 where
  pub length : length code.bytes ≤ 65535
  pub some_stack : 1 ≤ code.max_stack
  pub stack : code.max_stack ≤ 15
  pub params_fit : params ≤ code.max_locals
  pub locals : code.max_locals ≤ 15
  pub catches : code.catches ≡ []

-- The instructions are those of the form, and the stack is deep enough for them.
pub record HasSum (params max_stack : ℕ) (insns : List JInsn) : Type 0 where
  pub is_sum : is_sum_of params (ops_of insns) ≡ true
  pub stack_for_two : list_any is_iadd (ops_of insns) ≡ true → 2 ≤ max_stack
  pub size : sum_by widest (ops_of insns) ≤ 32767

-- The class's name is the package's, a slash and one part.
pub record IsInside (owner class : List ℕ) : Type 0 where
  pub part : List ℕ
  pub name : class ≡ owner ++ 47 ∷ part
  pub is_part : IsPart part

abbrev pub IsSlashPart : List ℕ → Type 0
IsSlashPart back = (part : List ℕ) × (back ≡ 47 ∷ part) × IsPart part

-- The version, the pool, the flags and the superclass are those of the form.
pub record HasPlainHead (tree : ClassTree) : Type 0 where
  pub major : (45 ≤ tree.major) × (tree.major ≤ 52)
  pub pool : list_all is_name_item (drop 1 tree.pool) ≡ true
  pub flags : (tree.flags ≡ 0x0001) ⊎ (tree.flags ≡ 0x0021)
  pub superclass : tree.superclass ≡ object

-- Nothing but methods stands in the class.
pub record HasMethodsAlone (tree : ClassTree) : Type 0 where
  pub interfaces : tree.interfaces ≡ []
  pub fields : tree.fields ≡ []

-- The class is of the form, but for its method.
pub record HasPlainClass (owner : List ℕ) (tree : ClassTree) : Type 0 where
  pub short_name : length owner ≤ 255
  pub name_length : length tree.name ≤ 65535
  pub head : HasPlainHead tree
  pub alone : HasMethodsAlone tree
  pub inside : IsInside owner tree.name

-- The package is of the form, with so many parameters and these instructions.
pub record IsFormWith (line : PackageLine) (tree : ClassTree) (params : ℕ) (insns : List JInsn) : Type 0 where
  pub form : IsFirstForm line tree
  pub params_are : form.params ≡ params
  pub insns_are : form.insns ≡ insns

-- the local has a number of one byte, where there is one
abbrev pub has_byte_local : JOp → Bool
has_byte_local (Load refs l) = nat_lt l 256
has_byte_local op = true

-- The AID of an export file and the tokens of its class fit their fields, and so do its methods.
pub record IsSmallImport (lang : ExportTree) (root : ExportClass) : Type 0 where
  pub aid : length lang.aid ≤ 255
  pub token : root.token ≤ 255
  pub free : free_token root.methods ≤ 255
  pub methods : AllByRecursion MethodFits root.methods

-- The numbers of the header are small.
pub record HasSmallFrame (params : ℕ) (code : CodeTree) : Type 0 where
  pub stack : code.max_stack ≤ 15
  pub params_fit : params ≤ code.max_locals
  pub locals : code.max_locals ≤ 15
