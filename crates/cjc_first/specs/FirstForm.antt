-- The packages that are converted so far: one class with one static method that adds shorts.
use Rattle.std.specs.Prelude.{◌≡◌, ℕ, ◌≤◌, ◌<◌, ◌⊎◌, List, [], ◌∷◌, ◌++◌, length, drop, map, replicate, sum_by, Some, Ok, Bool, true, false, ◌==◌, nat_lt, nat_le, ◌&&◌, ◌||◌}
use Rattle.std.specs.List.{list_all, list_any}
use Rattle.cjc_classfile.specs.declared.tree.PoolItem.{PoolItem}
use Rattle.cjc_classfile.specs.declared.tree.PoolItem.TheVariants.{Class, Other}
use Rattle.cjc_classfile.specs.declared.tree.MethodTree.{MethodTree}
use Rattle.cjc_classfile.specs.declared.tree.ClassTree.{ClassTree}
use Rattle.cjc_classfile.specs.Code.{CodeTree}
use Rattle.cjc_code.specs.declared.insn.JOp.{JOp}
use Rattle.cjc_code.specs.declared.insn.JOp.TheVariants.{Number, Load, Arith, Narrow, Return}
use Rattle.cjc_code.specs.declared.insn.JInsn.{JInsn}
use Rattle.cjc_code.specs.Decoded.{decoding}
use Rattle.cjc_list.specs.Listed.{ListTree}
use Rattle.cjc_first.specs.Selected.{widest}

-- what the list says of the package
pub record PackageLine : Type 0 where
  pub name : List ℕ
  pub aid : List ℕ
  pub major : ℕ
  pub minor : ℕ

-- what the list says of the package
abbrev pub line_of : ListTree → PackageLine
line_of list = record { name = list.package; aid = list.aid; major = list.major; minor = list.minor }

-- java/lang/Object
abbrev pub object : List ℕ
object = 106 ∷ 97 ∷ 118 ∷ 97 ∷ 47 ∷ 108 ∷ 97 ∷ 110 ∷ 103 ∷ 47 ∷ 79 ∷ 98 ∷ 106 ∷ 101 ∷ 99 ∷ 116 ∷ []

-- ---- names and types

abbrev pub is_between : ℕ → ℕ → ℕ → Bool
is_between low high c = nat_le low c && nat_le c high

-- a digit, a letter, `_` or `$`
abbrev pub is_name_byte : ℕ → Bool
is_name_byte c = is_between 48 57 c || is_between 65 90 c || is_between 97 122 c || c == 95 || c == 36

-- some such bytes
pub record IsPart (name : List ℕ) : Type 0 where
  pub bytes : list_all is_name_byte name ≡ true
  pub some : 0 < length name

-- the descriptor of a method with so many parameters of type short and a result of type short: (SS..)S
abbrev pub shorts : ℕ → List ℕ
shorts params = 40 ∷ replicate params 83 ++ 41 ∷ 83 ∷ []

-- a class name, or what code doesn't name
abbrev pub is_name_item : PoolItem → Bool
is_name_item (Class name) = true
is_name_item Other = true
is_name_item item = false

-- ---- instructions

abbrev pub is_push : (params : ℕ) → JOp → Bool
is_push params (Number z) = true
is_push params (Load false l) = nat_lt l params
is_push params op = false

abbrev pub is_iadd : JOp → Bool
is_iadd (Arith op) = op == 0x60
is_iadd op = false

abbrev pub is_i2s : JOp → Bool
is_i2s (Narrow op) = op == 0x93
is_i2s op = false

abbrev pub is_ireturn : JOp → Bool
is_ireturn (Return op) = op == 0xAC
is_ireturn op = false

-- any number of times a push and iadd, then i2s and ireturn
abbrev pub is_rest : (params : ℕ) → List JOp → Bool
is_rest params (a ∷ b ∷ []) = is_i2s a && is_ireturn b
is_rest params (a ∷ b ∷ c ∷ ops) = is_push params a && is_iadd b && is_rest params (c ∷ ops)
is_rest params ops = false

-- a push, and such a rest
abbrev pub is_sum : (params : ℕ) → List JOp → Bool
is_sum params [] = false
is_sum params (a ∷ ops) = is_push params a && is_rest params ops

abbrev pub ops_of : List JInsn → List JOp
ops_of insns = map (λ i. i.op) insns

-- ---- the form

-- code that adds constants and parameters, cuts the sum to a short and returns it
pub record IsSumCode (params : ℕ) (code : CodeTree) (insns : List JInsn) : Type 0 where
  -- as in each class file
  pub length : length code.bytes ≤ 65535
  pub is_sum : is_sum params (ops_of insns) ≡ true
  pub some_stack : 1 ≤ code.max_stack
  pub stack_for_two : list_any is_iadd (ops_of insns) ≡ true → 2 ≤ code.max_stack
  pub stack : code.max_stack ≤ 15
  pub params_fit : params ≤ code.max_locals
  pub locals : code.max_locals ≤ 15
  pub size : sum_by widest (ops_of insns) ≤ 32767
  pub catches : code.catches ≡ []

-- a public static method of shorts with such a code
pub record IsSumMethod (params : ℕ) (method : MethodTree) (code : CodeTree) (insns : List JInsn) : Type 0 where
  pub flags : method.flags ≡ 0x0009
  pub name : IsPart method.name
  -- as in each class file
  pub name_length : length method.name ≤ 65535
  pub desc : method.desc ≡ shorts params
  pub few : params ≤ 15
  pub has_code : method.code ≡ Some code
  pub is_sum : IsSumCode params code insns

-- The class file of a package is of the form.
pub record IsFirstForm (line : PackageLine) (tree : ClassTree) : Type 0 where
  pub short_name : length line.name ≤ 255
  pub major : (45 ≤ tree.major) × (tree.major ≤ 52)
  pub pool : list_all is_name_item (drop 1 tree.pool) ≡ true
  pub flags : (tree.flags ≡ 0x0001) ⊎ (tree.flags ≡ 0x0021)
  pub superclass : tree.superclass ≡ object
  pub interfaces : tree.interfaces ≡ []
  pub fields : tree.fields ≡ []
  pub part : List ℕ
  pub name : tree.name ≡ line.name ++ 47 ∷ part
  -- as in each class file
  pub name_length : length tree.name ≤ 65535
  pub is_part : IsPart part
  pub method : MethodTree
  pub methods : tree.methods ≡ method ∷ []
  pub code : CodeTree
  pub insns : List JInsn
  pub are_decoded : decoding tree method code ≡ Ok insns
  pub params : ℕ
  pub is_sum : IsSumMethod params method code insns
