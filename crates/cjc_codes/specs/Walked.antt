-- Codes as they are kept, and how far a walk has come.
use Rattle.std.specs.Prelude.{◌≡◌, ℕ, ◌+◌, ◌<◌, ◌≤◌, ◌^◌, List, [], ◌∷◌, ◌++◌, length, drop, get_or, map, if◌then◌else◌, Result, Ok, Err}
use Rattle.std.specs.List.Sorted.{IsNonDecreasing}
use Rattle.cjc_capread.specs.Decode.{Instruction, size}
use Rattle.cjc_capread.specs.Opcodes.{form}
use Rattle.cjc_capread.specs.declared.tree.ClassInfo.{ClassInfo}
use Rattle.cjc_capread.specs.declared.tree.ClassDescriptor.{ClassDescriptor}
use Rattle.cjc_capread.specs.declared.tree.MethodDescriptor.{MethodDescriptor}
use Rattle.cjc_decode.specs.Decoded.{instruction_of}
use Rattle.cjc_decode.specs.Shapes.{form_of, matches_in}
use Rattle.cjc_sentences.specs.Spots.{Placed}
use Rattle.cjc_sentences.specs.Classes.{is_own_class}
use Rattle.cjc_sentences.specs.Codes.{Code, onto}
use Rattle.cjc_codes.specs.declared.code.At.{At}
use Rattle.cjc_codes.specs.declared.code.Body.{Body}
use Rattle.cjc_codes.specs.declared.walk.Walk.{Walk}
use Rattle.cjc_codes.specs.declared.walk.Walk.TheVariants as walks
use Rattle.cjc_codes.specs.declared.cutting.Step.{Step}
use Rattle.cjc_codes.specs.declared.cutting.Step.TheVariants as steps
use Rattle.cjc_codes.specs.declared.cutting.Cutting.{Cutting}
use Rattle.cjc_codes.specs.declared.cutting.Cutting.TheVariants as cuts

-- ---- what is kept

-- an instruction with its place
abbrev pub placed_of : At → Placed Instruction
placed_of a = record { at = a.at; item = instruction_of a.insn }

-- the code of a method
abbrev pub code_of : Body → Code
code_of b = record { is_abstract = b.is_abstract; first = b.first; end = b.end; instructions = map placed_of b.insns }

-- the instructions of a method, or where they end
abbrev pub walk_of : Walk → Result (List (Placed Instruction)) ℕ
walk_of (walks.Whole insns) = Ok (map placed_of insns)
walk_of (walks.Ends at) = Err at

-- the codes of all methods, or where they end
abbrev pub cut_of : Cutting → Result (List Code) ℕ
cut_of (cuts.Whole bodies) = Ok (map code_of bodies)
cut_of (cuts.Ends at) = Err at

-- an instruction has its opcode's shape and a table of that, and offsets in it have 32 bits
pub record IsAt (a : At) : Type 0 where
  pub shape : form_of a.insn.shape ≡ form a.insn.opcode
  pub matches : a.insn.table.matches ≡ matches_in a.insn.shape
  pub size : a.insn.size ≡ size (instruction_of a.insn)
  pub room : 3 + a.at + a.insn.size < 2 ^ 32

abbrev pub AllAt : List At → Type 0
AllAt insns = (k : ℕ) (d : At) → k < length insns → IsAt (get_or insns k d)

-- the same of the code of a method, which begins and ends at such offsets, and whose instructions are kept in order
pub record IsBody (b : Body) : Type 0 where
  pub insns : AllAt b.insns
  pub starts : b.starts ≡ map (λ a. a.at) b.insns
  pub rise : IsNonDecreasing b.starts
  pub first : 3 + b.first < 2 ^ 32
  pub end : 3 + b.end < 2 ^ 32

abbrev pub AreBodies : List Body → Type 0
AreBodies bodies = (k : ℕ) (d : Body) → k < length bodies → IsBody (get_or bodies k d)

abbrev pub IsCut : Cutting → Type 0
IsCut (cuts.Whole bodies) = AreBodies bodies
IsCut (cuts.Ends at) = 3 + at < 2 ^ 32

-- ---- on the way

-- the bytes of whole instructions are there
abbrev pub IsWalk : (count : ℕ) → List ℕ → Walk → Type 0
IsWalk count bytes (walks.Whole insns) = (count ≤ length bytes) × AllAt insns
IsWalk count bytes (walks.Ends at) = 3 + at < 2 ^ 32

-- the code behind a header, and what follows it
abbrev pub followed : Step → (Body → Result (List Code) ℕ) → Result (List Code) ℕ
followed (steps.Whole body) go = onto (code_of body) (go body)
followed (steps.Ends at) go = Err at

-- a method takes bytes that are there
abbrev pub IsStep : (at : ℕ) → List ℕ → Step → Type 0
IsStep at bytes (steps.Whole body) = (at ≤ body.end) × (body.end ≤ at + length bytes) × IsBody body
IsStep at bytes (steps.Ends k) = 3 + k < 2 ^ 32

abbrev pub EndsAt : (end : ℕ) → Step → Type 0
EndsAt end (steps.Whole body) = body.end ≡ end
EndsAt end (steps.Ends at) = Unit {0}

-- ---- methods

-- the methods of a class, interfaces left out
abbrev pub methods_of : ClassInfo → ClassDescriptor → List MethodDescriptor
methods_of info d = if is_own_class info d.this_class then d.methods else []

abbrev pub methods_of_all : ClassInfo → List ClassDescriptor → List MethodDescriptor
methods_of_all info [] = []
methods_of_all info (d ∷ classes) = methods_of info d ++ methods_of_all info classes

-- items in front of others, if there are others
abbrev pub behind : {A : Type 0} → List A → Result (List A) ℕ → Result (List A) ℕ
behind front (Ok xs) = Ok (front ++ xs)
behind front (Err at) = Err at
