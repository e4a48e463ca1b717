-- What walking through the bytes of methods gives on the way.
use Rattle.std.specs.Prelude.{◌≡◌, ℕ, ◌+◌, ◌<◌, ◌≤◌, ◌^◌, List, [], ◌∷◌, ◌++◌, length, map, if◌then◌else◌, Result, Ok}
use Rattle.std.specs.Prelude.{Err}
use Rattle.cjc_capread.specs.Decode.{Instruction}
use Rattle.cjc_capread.specs.declared.tree.ClassInfo.{ClassInfo}
use Rattle.cjc_capread.specs.declared.tree.ClassDescriptor.{ClassDescriptor}
use Rattle.cjc_capread.specs.declared.tree.MethodDescriptor.{MethodDescriptor}
use Rattle.cjc_check_rules.specs.Spots.{Placed}
use Rattle.cjc_check_rules.specs.Classes.{is_own_class}
use Rattle.cjc_check_rules.specs.Codes.{Code, onto}
use Rattle.cjc_check.specs.declared.codes.code.Body.{Body}
use Rattle.cjc_check.specs.declared.codes.walk.Walk.{Walk}
use Rattle.cjc_check.specs.declared.codes.walk.Walk.TheVariants as walks
use Rattle.cjc_check.specs.declared.codes.cutting.Step.{Step}
use Rattle.cjc_check.specs.declared.codes.cutting.Step.TheVariants as steps
use Rattle.cjc_check.specs.Codes.Bodies.{AllAt, IsBody, code_of, placed_of}

-- ---- on the way

-- the instructions of a method, or where they end
abbrev pub walk_of : Walk → Result (List (Placed Instruction)) ℕ
walk_of (walks.Whole insns) = Ok (map placed_of insns)
walk_of (walks.Ends at) = Err at

-- the bytes of whole instructions are there
abbrev pub IsWalk : (count : ℕ) → List ℕ → Walk → Type 0
IsWalk count bytes (walks.Whole insns) = (count ≤ length bytes) × AllAt insns
IsWalk count bytes (walks.Ends at) = 3 + at < 2 ^ 32

-- the code behind a header, and what follows it
abbrev pub followed : Step → (Body → Result (List Code) ℕ) → Result (List Code) ℕ
followed (steps.Whole body) go = onto (code_of body) (go body)
followed (steps.Ends at) go = Err at

-- a method takes bytes that are there
abbrev pub IsStep : (at : ℕ) → List ℕ → Step → Type 0
IsStep at bytes (steps.Whole body) = (at ≤ body.end) × (body.end ≤ at + length bytes) × IsBody body
IsStep at bytes (steps.Ends k) = 3 + k < 2 ^ 32

-- the code of a method that was cut ends at this offset
abbrev pub EndsAt : (end : ℕ) → Step → Type 0
EndsAt end (steps.Whole body) = body.end ≡ end
EndsAt end (steps.Ends at) = Unit {0}

-- ---- methods

-- the methods of a class, interfaces left out
abbrev pub methods_of : ClassInfo → ClassDescriptor → List MethodDescriptor
methods_of info d = if is_own_class info d.this_class then d.methods else []

-- the methods of all classes, interfaces left out
abbrev pub methods_of_all : ClassInfo → List ClassDescriptor → List MethodDescriptor
methods_of_all info [] = []
methods_of_all info (d ∷ classes) = methods_of info d ++ methods_of_all info classes

-- items in front of others, if there are others
abbrev pub behind : {A : Type 0} → List A → Result (List A) ℕ → Result (List A) ℕ
behind front (Ok xs) = Ok (front ++ xs)
behind front (Err at) = Err at
