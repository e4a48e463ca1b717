-- Flags of a class as its export file gives them.
use Rattle.std.proofs.Common.{◌≡◌, ℕ, ◌+◌, ◌*◌, ◌^◌, sym, ap, ◌∙◌, arith, Bool, true, false}
use Rattle.std.specs.Prelude.{◌-◌, ◌/◌, ◌%◌, nat_lt, if◌then◌else◌}
use Rattle.std.proofs.lemmas.Nat.Bits.{and_pow}
use Rattle.cjc_card_semantics.specs.Bytes.AccessFlags.{acc_shareable, acc_super, is_interface}
use Rattle.cjc_link_semantics.specs.Components.ExportFile.{without}

-- they tell an interface as those of the class file do
pub interface_kept : (f : ℕ) (shareable : Bool) → is_interface (without (without f acc_super) acc_shareable
    + (if shareable then acc_shareable else 0)) ≡ is_interface f
interface_kept f shareable = ap (nat_lt 0) (and_pow r 9 ∙ ap (λ b. b * 2 ^ 9) (by shareable) ∙ sym (and_pow f 9))
  where
    g : ℕ
    g = without f acc_super

    h : ℕ
    h = without g acc_shareable

    r : ℕ
    r = h + (if shareable then acc_shareable else 0)

    first : g ≡ f - f / 32 % 2 * 32
    first = ap (λ b. f - b) (and_pow f 5)

    second : h ≡ g - g / 2048 % 2 * 2048
    second = ap (λ b. g - b) (and_pow g 11)

    by : (b : Bool) → (h + (if b then acc_shareable else 0)) / 512 % 2 ≡ f / 512 % 2
    by true = omega (arith, first, second)
    by false = omega (arith, first, second)
