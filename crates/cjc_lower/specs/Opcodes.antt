-- The opcodes that each form of narrow instruction can have (Java Card Virtual Machine Specification 2.2.2, chapter 7).
use Rattle.std.specs.Prelude.{ℕ, List, [], ◌∷◌}

-- something holds of each of these
abbrev pub HoldsOfAll : (ℕ → Type 0) → List ℕ → Type 0
HoldsOfAll P [] = Unit {0}
HoldsOfAll P (x ∷ xs) = P x × HoldsOfAll P xs

-- bspush, sspush, bipush, sipush, iipush
abbrev pub pushes : List ℕ
pushes = 0x10 ∷ 0x11 ∷ 0x12 ∷ 0x13 ∷ 0x14 ∷ []

-- loads and stores of a local by its number
abbrev pub locals : List ℕ
locals = 0x15 ∷ 0x16 ∷ 0x17 ∷ 0x28 ∷ 0x29 ∷ 0x2A ∷ []

-- sinc, iinc and their wide forms
abbrev pub increases : List ℕ
increases = 0x59 ∷ 0x5A ∷ 0x96 ∷ 0x97 ∷ []

-- dup_x and swap_x
abbrev pub copies : List ℕ
copies = 0x3F ∷ 0x40 ∷ []

-- ifeq to goto, in their narrow forms
abbrev pub jumps : List ℕ
jumps = 0x60 ∷ 0x61 ∷ 0x62 ∷ 0x63 ∷ 0x64 ∷ 0x65 ∷ 0x66 ∷ 0x67 ∷ 0x68 ∷ 0x69 ∷ 0x6A ∷ 0x6B ∷ 0x6C ∷ 0x6D ∷ 0x6E ∷ 0x6F ∷ 0x70 ∷ []

-- all four switches
abbrev pub switches : List ℕ
switches = 0x73 ∷ 0x74 ∷ 0x75 ∷ 0x76 ∷ []

-- boolean, byte, short and int of newarray and type tests
abbrev pub element_types : List ℕ
element_types = 10 ∷ 11 ∷ 12 ∷ 13 ∷ []
