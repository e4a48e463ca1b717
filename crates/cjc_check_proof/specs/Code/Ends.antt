-- Narrow code that does not go on behind its last instruction.
use Rattle.std.specs.Prelude.{◌≡◌, ℕ, List, [], ◌∷◌, length, slice_get, Bool, true, false, ◌==◌, Some}
use Rattle.cjc_check_rules.specs.Instructions.{ends_code}
use Rattle.cjc_ncode.specs.declared.narrow.NInsn.{NInsn}
use Rattle.cjc_ncode.specs.declared.narrow.NInsn.TheVariants as insns
use Rattle.cjc_pool.specs.Layout.Sizes.{AllLead}
use Rattle.cjc_components.specs.Package.{LaidMethod}
use Rattle.cjc_capread.specs.Card as card

-- what stands behind it is not run after it: a goto, a switch, a return or athrow
abbrev pub ends : NInsn → Bool
ends (insns.Op op) = ends_code op
ends (insns.Jump op target) = op == card.goto
ends (insns.Switch op other low cases) = true
ends _ = false

-- so is the last of these
abbrev pub last_ends : List NInsn → Bool
last_ends [] = false
last_ends (i ∷ []) = ends i
last_ends (i ∷ j ∷ rest) = last_ends (j ∷ rest)

-- An abstract method has no instruction, and the last one of any other does not go on.
pub data FallsNowhere (m : LaidMethod) : Type 0 where
  is_abstract : m.is_abstract ≡ true → (let code = m.code in code.insns ≡ []) → FallsNowhere m
  has_end : (let code = m.code in last_ends code.insns ≡ true) → FallsNowhere m

-- A method's jumps lead to its instructions, and it does not go on behind its code.
pub record StaysInside (m : LaidMethod) : Type 0 where
  pub leads : (let code = m.code in AllLead (length code.insns) code.insns)
  pub ends : FallsNowhere m

-- so do all of these
abbrev pub AllStayInside : List LaidMethod → Type 0
AllStayInside ms = (k : ℕ) (m : LaidMethod) → slice_get ms k ≡ Some m → StaysInside m
