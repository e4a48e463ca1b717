-- One byte that gives two numbers.
use Rattle.std.proofs.Common.{◌≡◌, ℕ, ◌/◌, ◌%◌, refl, ◌∙◌, List, [], ◌∷◌, ℤ, pos, negsuc}
use Rattle.std.specs.Prelude.{Option}
use Rattle.cjc_card_semantics.specs.Script.declared.value.Value.{Value}
use Rattle.cjc_card_semantics.specs.Bytecode.Calculations.{Calculation, Wrong, by_nibbles, numbered}
use Rattle.cjc_card_frame.specs.Frame.Frames.{NoLocal}

as_numbered : (f : ℕ → ℕ → Calculation) (operands : List ℤ) (room : ℕ) (locals : List (Option Value))
    (stack : List Value) → by_nibbles f operands room locals stack ≡ numbered (λ b. f (b / 16) (b % 16)) operands room
    locals stack
as_numbered f [] room locals stack = refl
as_numbered f (pos b ∷ []) room locals stack = refl
as_numbered f (negsuc b ∷ []) room locals stack = refl
as_numbered f (pos b ∷ y ∷ operands) room locals stack = refl
as_numbered f (negsuc b ∷ y ∷ operands) room locals stack = refl

pub no_nibbles : (f : ℕ → ℕ → Calculation) (operands : List ℤ) (room : ℕ) (locals : List (Option Value))
    (stack : List Value) → NoLocal operands → by_nibbles f operands room locals stack ≡ Wrong
no_nibbles f operands room locals stack h = as_numbered f operands room locals stack
    ∙ h (λ b. f (b / 16) (b % 16)) room locals stack
