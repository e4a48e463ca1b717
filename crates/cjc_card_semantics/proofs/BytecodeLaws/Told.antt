-- Each opcode has one meaning, which takes the operands of its form: computed over all bytes.
use Rattle.std.proofs.Common.{◌≡◌, ℕ, zero, suc, ◌<◌, refl, ap, ◌∙◌, arith, ⊎_elim, Bool, true}
use Rattle.std.specs.Prelude.{◌&&◌}
use Rattle.std.proofs.lemmas.Bool.{cases_lt}
use Rattle.cjc_capread.specs.Opcodes.{forms, form}
use Rattle.cjc_card_semantics.specs.Bytecode.Meanings.{meaning}
use Rattle.cjc_card_semantics.specs.Bytecode.Worked.{is_told}
use Rattle.cjc_export.proofs.BytesBools.{both_front, both_back}

-- each number below a bound passes
abbrev all_below : (ℕ → Bool) → ℕ → Bool
all_below test zero = true
all_below test (suc n) = test n && all_below test n

at : (test : ℕ → Bool) (n k : ℕ) → all_below test n ≡ true → k < n → test k ≡ true
at test zero k e lt = absurd (omega arith)
at test (suc n) k e lt =
    ⊎_elim (λ below. at test n k (both_back (test n) (all_below test n) e) below)
    (λ above. let same : k ≡ n = omega arith in ap test same ∙ both_front (test n) (all_below test n) e)
    (cases_lt k n)

all_told : all_below is_told 256 ≡ true
unfolding form forms meaning
all_told = refl

pub told : (op : ℕ) → op < 256 → is_told op ≡ true
told op lt = at is_told 256 op all_told lt
