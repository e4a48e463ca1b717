-- A division by a number that is not 0.
use Rattle.std.proofs.Common.{◌≡◌, ◌≢◌, ℕ, zero, suc, refl, sym, ap, ◌∙◌, List, ◌∷◌, drop, ℤ, pos, negsuc, Bool, true}
use Rattle.std.proofs.Common.{false}
use Rattle.std.specs.Prelude.{Option, Some, if◌then◌else◌}
use Rattle.cjc_card_semantics.specs.Script.declared.value.Value.{Value}
use Rattle.cjc_card_semantics.specs.Script.declared.value.Value.TheVariants.{Num}
use Rattle.cjc_card_semantics.specs.Range.Words.{wide, low_word}
use Rattle.cjc_card_semantics.proofs.RangeWords.{low_word-wide}
use Rattle.cjc_card_semantics.specs.Bytecode.Numbers.{is_zero}
use Rattle.cjc_card_semantics.specs.Bytecode.Calculations.{Result, Fine, Fails, Wrong, Arithmetic, divided}
use Rattle.cjc_card_frame.specs.Frame.Frames.{numbers_at}
use Rattle.cjc_card_frame.proofs.FrameLaws.Tops.{top_numbers}

not_zero : (y : ℤ) → y ≢ pos 0 → is_zero y ≡ false
not_zero (pos zero) h = absurd (h refl)
not_zero (pos (suc n)) h = refl
not_zero (negsuc n) h = refl

otherwise : (t : Bool) (a b : Result) → t ≡ false → (if t then a else b) ≡ b
otherwise false a b e = refl
otherwise true a b e = absurd cc

pub words_divide : (f : ℤ → ℤ → ℤ) (operands : List ℤ) (room : ℕ) (locals : List (Option Value)) (stack : List Value)
    (x y d q : ℤ) → Some (x, y) ≡ numbers_at 0 stack → y ≢ pos 0 → d ≡ wide (f x y) → q ≡ low_word d
    → divided f operands room locals stack ≡ Fine (Num q ∷ drop 2 stack) locals
words_divide f operands room locals stack x y d q e h w c =
    top_numbers Wrong stack (λ x y rest. if is_zero y then Fails Arithmetic else Fine (Num (low_word (f x y)) ∷ rest)
    locals) (Some (x, y)) e
    ∙ otherwise (is_zero y) (Fails Arithmetic) (Fine (Num (low_word (f x y)) ∷ drop 2 stack) locals) (not_zero y h)
    ∙ ap (λ z. Fine (Num z ∷ drop 2 stack) locals) (sym (c ∙ ap (λ z. low_word z) w ∙ low_word-wide (f x y)))
