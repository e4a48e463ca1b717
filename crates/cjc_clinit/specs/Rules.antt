-- Rule 308: an initialiser is of another form, an interface has one, or the ConstantValue of a static field does not
-- fit
-- its type.
use Rattle.std.specs.Prelude.{◌≡◌, ◌⊎◌, ℕ, List, slice_get, Bool, true, ◌&&◌, ◌||◌, Option, Some}
use Rattle.std.specs.List.{list_any}
use Rattle.cjc_bytes.specs.AccessFlags.{is_interface}
use Rattle.cjc_bytes.specs.declared.fault.Fault.{Fault}
use Rattle.cjc_bytes.specs.declared.fault.Fault.TheVariants as faults
use Rattle.cjc_bytes.specs.Breaks.{Break, Among, IsFirstOf, broken_at}
use Rattle.cjc_bytes.specs.Order.{NotAfter, file_of}
use Rattle.cjc_subset.specs.LowerClassFile.declared.tree.ClassTree.{ClassTree}
use Rattle.cjc_subset.specs.LowerClassFile.declared.tree.MethodTree.{MethodTree}
use Rattle.cjc_subset.specs.LowerBytecode.declared.method_code.MethodCode.{MethodCode}
use Rattle.cjc_subset.specs.Places.{at_class, at_method}
use Rattle.cjc_subset.specs.LowerWorld.Files.{Files}
use Rattle.cjc_clinit.specs.Fields.{has_unfit_value}
use Rattle.cjc_clinit.specs.Initialiser.{IsWrongAt, is_initialiser}

-- at the class itself
abbrev pub is_wrong_class : ClassTree → Bool
is_wrong_class c = (is_interface c.flags && list_any is_initialiser c.methods) || list_any has_unfit_value c.fields

-- At the class: it is an interface with an initialiser, or has a field whose ConstantValue does not fit.
pub record BreaksClass (files : Files) (number : ℕ) (c : ClassTree) (b : Break) : Type 0 where
  pub is_wrong : is_wrong_class c ≡ true
  pub is : b ≡ broken_at (at_class (file_of files.lines number) c) 308

-- At an instruction: the code of an initialiser that is none is wrong there.
pub record BreaksCode (files : Files) (code : MethodCode) (b : Break) : Type 0 where
  pub class : ClassTree
  pub method : MethodTree
  pub is_class : slice_get files.classes code.class ≡ Some class
  pub is_method : slice_get class.methods code.method ≡ Some method
  pub initialises : is_initialiser method ≡ true
  pub offset : ℕ
  pub is_wrong : IsWrongAt files code.class class code.insns offset
  pub is : b ≡ broken_at (at_method (file_of files.lines code.class) class code.method method offset) 308

-- What a package whose methods have these codes breaks of 308.
pub data BreaksImage (files : Files) (codes : List MethodCode) (b : Break) : Type 0 where
  of_class : (number : ℕ) (c : ClassTree) → slice_get files.classes number ≡ Some c → BreaksClass files number c b
      → BreaksImage files codes b
  of_code : (index : ℕ) (code : MethodCode) → slice_get codes index ≡ Some code → BreaksCode files code b
      → BreaksImage files codes b

-- The list has exactly these.
abbrev pub AreBreaks : Files → List MethodCode → List Break → Type 0
AreBreaks files codes bs = (b : Break) → (Among b bs → BreaksImage files codes b) × (BreaksImage files codes b
    → Among b bs)

-- None where there is none of them, else one that no other stands before.
abbrev pub IsFirstBroken : Files → List MethodCode → Option Break → Type 0
IsFirstBroken files codes o = (bs : List Break) × AreBreaks files codes bs × IsFirstOf bs o

-- The error is the refusal of the first of them, or that memory ran out.
abbrev pub IsFirstRefused : Files → List MethodCode → Fault → Type 0
IsFirstRefused files codes e = (e ≡ faults.NoMemory) ⊎ ((b : Break) × BreaksImage files codes b × ((a : Break)
    → BreaksImage files codes a → NotAfter b.rank a.rank) × (e ≡ faults.Refused b.refusal))
