-- The opcodes that each form of narrow instruction can have (Java Card Virtual Machine Specification 2.2.2, chapter 7).
use Rattle.std.specs.Prelude.{ℕ, List, [], ◌∷◌}
use Rattle.cjc_card_semantics.specs.CapRead.Card as card

-- something holds of each of these
abbrev pub HoldsOfAll : (ℕ → Type 0) → List ℕ → Type 0
HoldsOfAll P [] = Unit {0}
HoldsOfAll P (x ∷ xs) = P x × HoldsOfAll P xs

-- bspush, sspush, bipush, sipush, iipush
abbrev pub pushes : List ℕ
pushes = card.bspush ∷ card.sspush ∷ card.bipush ∷ card.sipush ∷ card.iipush ∷ []

-- loads and stores of a local by its number
abbrev pub locals : List ℕ
locals = card.aload ∷ card.sload ∷ card.iload ∷ card.astore ∷ card.sstore ∷ card.istore ∷ []

-- sinc, iinc and their wide forms
abbrev pub increases : List ℕ
increases = card.sinc ∷ card.iinc ∷ card.sinc_w ∷ card.iinc_w ∷ []

-- dup_x and swap_x
abbrev pub copies : List ℕ
copies = card.dup_x ∷ card.swap_x ∷ []

-- ifeq to goto, in their narrow forms
abbrev pub jumps : List ℕ
jumps = card.ifeq ∷ card.ifne ∷ card.iflt ∷ card.ifge ∷ card.ifgt ∷ card.ifle ∷ card.ifnull ∷ card.ifnonnull
    ∷ card.if_acmpeq ∷ card.if_acmpne ∷ card.if_scmpeq ∷ card.if_scmpne ∷ card.if_scmplt ∷ card.if_scmpge
    ∷ card.if_scmpgt ∷ card.if_scmple ∷ card.goto ∷ []

-- all four switches
abbrev pub switches : List ℕ
switches = card.stableswitch ∷ card.itableswitch ∷ card.slookupswitch ∷ card.ilookupswitch ∷ []

-- boolean, byte, short and int of newarray and type tests
abbrev pub element_types : List ℕ
element_types = 10 ∷ 11 ∷ 12 ∷ 13 ∷ []
