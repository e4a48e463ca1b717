-- Flags of methods, and of classes of the export file.
use Rattle.std.proofs.Common.{◌≡◌, ℕ, ◌+◌, ◌*◌, ◌^◌, sym, ap, ◌∙◌, arith, Bool, true, false, List}
use Rattle.std.specs.Prelude.{◌-◌, ◌/◌, ◌%◌, not, ◌&&◌, ◌||◌, nat_lt, if◌then◌else◌}
use Rattle.std.proofs.lemmas.Nat.Bits.{and_pow}
use Rattle.cjc_bytes.specs.AccessFlags.{acc_native, acc_shareable, acc_strict, acc_super, acc_synchronized, has}
use Rattle.cjc_bytes.specs.AccessFlags.{is_abstract, is_interface, is_private, is_static}
use Rattle.cjc_components.specs.ExportFile.{without}
use Rattle.cjc_bytes.proofs.Bools.{or_left, or_right}
use Rattle.cjc_classes.specs.Subset.Flags.{has_two_accesses, is_unfit_method}
use Rattle.cjc_tokens.specs.Members.{is_constructor, is_initialiser}

-- the flags of an exported class tell an interface as those of its file do
pub interface_kept : (f : ℕ) (shareable : Bool) → is_interface (without (without f acc_super) acc_shareable
    + (if shareable then acc_shareable else 0)) ≡ is_interface f
interface_kept f shareable = ap (nat_lt 0) (and_pow r 9 ∙ ap (λ b. b * 2 ^ 9) (by shareable) ∙ sym (and_pow f 9))
  where
    g : ℕ
    g = without f acc_super

    h : ℕ
    h = without g acc_shareable

    r : ℕ
    r = h + (if shareable then acc_shareable else 0)

    first : g ≡ f - f / 32 % 2 * 32
    first = ap (λ b. f - b) (and_pow f 5)

    second : h ≡ g - g / 2048 % 2 * 2048
    second = ap (λ b. g - b) (and_pow g 11)

    by : (b : Bool) → (h + (if b then acc_shareable else 0)) / 512 % 2 ≡ f / 512 % 2
    by true = omega (arith, first, second)
    by false = omega (arith, first, second)

-- a method that breaks no 304 has one access at most
pub one_access : (interface : Bool) (flags : ℕ) (name : List ℕ) (coded : Bool)
    → is_unfit_method interface flags name coded ≡ false → has_two_accesses flags ≡ false
one_access interface flags name coded fit =
    let A = has flags acc_native || has flags acc_synchronized || has flags acc_strict || has_two_accesses flags in
    let kind = A || (is_abstract flags && (is_static flags || is_private flags)) in
    let special = is_abstract flags && (is_constructor name || is_initialiser name) in
    let bare = is_initialiser name && not (is_static flags) in
    let three = or_left (kind || special || bare) (interface && coded && not (is_initialiser name)) fit in
    let first = or_left kind special (or_left (kind || special) bare three) in
    or_right (has flags acc_native || has flags acc_synchronized || has flags acc_strict) (has_two_accesses flags)
    (or_left A (is_abstract flags && (is_static flags || is_private flags)) first)
