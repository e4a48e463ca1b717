-- The instructions of a method, or the rule that its code breaks.
use Rattle.std.specs.Prelude.{◌≡◌, ◌≤◌, ◌<◌, ◌^◌, ◌⊎◌, ℕ, min, List, [], ◌∷◌, ◌++◌, length, Option, Some, None}
use Rattle.std.specs.Prelude.{slice_get, get_or, Result, Ok, Err}
use Rattle.std.specs.List.{Contains, All}
use Rattle.cjc_bytes.specs.declared.fault.Fault.{Fault}
use Rattle.cjc_bytes.specs.declared.fault.Fault.TheVariants as faults
use Rattle.cjc_bytes.specs.declared.fault.Refusal.{Refusal}
use Rattle.cjc_bytes.specs.Refused.{refused_at, in_class, method_text}
use Rattle.cjc_classfile.specs.declared.tree.ClassTree.{ClassTree}
use Rattle.cjc_classfile.specs.declared.tree.MethodTree.{MethodTree}
use Rattle.cjc_classfile.specs.Code.{CodeTree}
use Rattle.cjc_code.specs.declared.insn.JInsn.{JInsn}
use Rattle.cjc_bytes.specs.declared.breaks.BrokenAt.{BrokenAt}
use Rattle.cjc_code.specs.declared.decoding.DecodeError.{DecodeError}
use Rattle.cjc_code.specs.declared.decoding.DecodeError.TheVariants as errors
use Rattle.cjc_code.specs.Cut.{cut}
use Rattle.cjc_code.specs.Unfit.{unfit_code}
use Rattle.cjc_code.specs.Named.{all_named}

-- the least of these numbers
abbrev pub least_of : ℕ → List ℕ → ℕ
least_of k [] = k
least_of k (j ∷ ks) = least_of (min k j) ks

-- the least of these numbers, none where there are no numbers
unfoldable pub least : List ℕ → Option ℕ
least [] = None
least (k ∷ ks) = Some (least_of k ks)

-- It is one of these numbers, and none of them is less.
pub record IsLeast (numbers : List ℕ) (k : ℕ) : Type 0 where
  pub one : Contains numbers k
  pub least : All (λ j. k ≤ j) numbers

-- the instructions, or rule 303 at the place of the first that breaks it
abbrev pub unless_unsupported : Result (List JInsn) ℕ → Result (List JInsn) BrokenAt
unless_unsupported (Ok insns) = Ok insns
unless_unsupported (Err k) = Err (record { rule = 303; offset = k })

-- what is found, or rule 103 at its place where it is broken
abbrev pub unless_unfit : Option ℕ → Result (List JInsn) BrokenAt → Result (List JInsn) BrokenAt
unless_unfit (Some k) found = Err (record { rule = 103; offset = k })
unless_unfit None found = found

-- The instructions that the code of a method is: those of its cut with their names. Where rule 103 is broken, the least
-- of its places; else, where rule 303 is, the first.
unfoldable pub decoding : ClassTree → MethodTree → CodeTree → Result (List JInsn) BrokenAt
decoding class method code =
    unless_unfit (least (unfit_code class method code))
    (unless_unsupported (all_named class.pool (cut code.bytes).insns))

-- the instructions, and none where a rule is broken
abbrev pub insns_of : Result (List JInsn) BrokenAt → List JInsn
insns_of (Ok insns) = insns
insns_of (Err broken) = []

-- the instructions of a method's code; none where it breaks a rule
unfoldable pub decoded : ClassTree → MethodTree → CodeTree → List JInsn
decoded class method code = insns_of (decoding class method code)

-- A call answered this, unless memory ran out.
abbrev pub Answers : Result (List JInsn) BrokenAt → Result (List JInsn) DecodeError → Type 0
Answers found (Ok insns) = found ≡ Ok insns
Answers found (Err (errors.Broken broken)) = found ≡ Err broken
Answers found (Err errors.NoMemory) = Unit {0}

-- ---- what a call is asked for

-- what the code of a method is decoded to; without code there is no instruction
abbrev pub of_code : ClassTree → MethodTree → Option CodeTree → Result (List JInsn) BrokenAt
of_code class method (Some code) = decoding class method code
of_code class method None = Ok []

-- what the code of a method of the class is decoded to; where there is none, no instruction
abbrev pub of_method : ClassTree → Option MethodTree → Result (List JInsn) BrokenAt
of_method class (Some method) = of_code class method method.code
of_method class None = Ok []

-- of the method at this place of the class
abbrev pub decoding_at : ClassTree → ℕ → Result (List JInsn) BrokenAt
decoding_at class k = of_method class (slice_get class.methods k)

-- The method is there and has code, whose length and whose descriptor's length are as in each class file that is read.
pub record HasCode (class : ClassTree) (k : ℕ) : Type 0 where
  pub method : MethodTree
  pub code : CodeTree
  pub there : slice_get class.methods k ≡ Some method
  pub has : method.code ≡ Some code
  pub bytes : length code.bytes ≤ 65535
  pub desc : length method.desc < 2 ^ 32

-- a method without name, flags or code, for a place that has none
abbrev pub no_method : MethodTree
no_method = record { flags = 0; name = []; desc = []; code = None }

-- the method at this place of the class
abbrev pub method_at : ClassTree → ℕ → MethodTree
method_at class k = get_or class.methods k no_method

-- the refusal of the code of the method at this place of the class
abbrev pub refusal_of : (file : List ℕ) → ClassTree → ℕ → BrokenAt → Refusal
refusal_of file class k broken =
    refused_at broken.rule (in_class file class.name (method_text (method_at class k).name (method_at class k).desc)
    broken.offset)

-- The error says which rule the code breaks and where, or that memory ran out.
abbrev pub IsBroken : Result (List JInsn) BrokenAt → (BrokenAt → Refusal) → Fault → Type 0
IsBroken found refused e = (e ≡ faults.NoMemory) ⊎ ((broken : BrokenAt) × (found ≡ Err broken)
    × (e ≡ faults.Refused (refused broken)))
