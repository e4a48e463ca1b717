-- Acts by their operands.
use Rattle.std.proofs.Common.{◌≡◌, ℕ, ◌/◌, ◌≤◌, List, [], ◌∷◌, Option, Some, None, refl, ap, sym, ◌∙◌, arith, ℤ, pos}
use Rattle.std.proofs.Common.{negsuc}
use Rattle.std.proofs.lemmas.Grind.{common_steps}
use Rattle.cjc_card_acts.specs.Rows.{copying_below, idle, swapping_by, unknown, with_local, with_number}
use Rattle.cjc_card_acts.specs.LowerFrames.declared.acts.Act.{Act}
use Rattle.cjc_card_acts.specs.CardSemantics.Bytecode.Meanings.{Use}
use Rattle.cjc_verify.specs.Instructions.{using_entry, using_some}
use Rattle.cjc_verify.specs.Named.{entry_of, entry_type}
use Rattle.cjc_verify.specs.Pairs.{Pair}
use Rattle.cjc_verify.specs.Working.Operands.{local_by, natural_of}
use Rattle.cjc_bytes.proofs.Numbers.{some_same}

-- there is a local
pub by_local : (act : ℕ → Act) (local : Option ℕ) (values : List ℤ) (k : ℕ) → Some k ≡ local_by local values
    → act k ≡ with_local act local values
by_local act (Some n) values k is = ap act (some_same k n is)
by_local act None [] k is = absurd cc
by_local act None (pos n ∷ values) k is = ap act (some_same k n is)
by_local act None (negsuc n ∷ values) k is = absurd cc

-- there is none
pub no_local : (act : ℕ → Act) (local : Option ℕ) (values : List ℤ) → None ≡ local_by local values
    → idle ≡ with_local act local values
no_local act (Some n) values is = absurd cc
no_local act None [] is = refl
no_local act None (pos n ∷ values) is = absurd cc
no_local act None (negsuc n ∷ values) is = refl

-- there is a number
pub by_number : (act : ℕ → Act) (values : List ℤ) (n : ℕ) → Some n ≡ natural_of values
    → act n ≡ with_number act values
by_number act [] n is = absurd cc
by_number act (pos k ∷ values) n is = ap act (some_same n k is)
by_number act (negsuc k ∷ values) n is = absurd cc

-- there is none
pub no_number : (act : ℕ → Act) (values : List ℤ) → None ≡ natural_of values → unknown ≡ with_number act values
no_number act [] is = refl
no_number act (pos k ∷ values) is = absurd cc
no_number act (negsuc k ∷ values) is = refl

-- the operand is the number of an entry
pub by_entry : (p : Pair) (how : Use) (values : List ℤ) (k : ℕ) → Some k ≡ natural_of values
    → using_some p how (entry_type p k) (entry_of p k) ≡ using_entry p how values
by_entry p how [] k is = absurd cc
by_entry p how (pos n ∷ values) k is = ap (λ (i : ℕ). using_some p how (entry_type p i) (entry_of p i)) (some_same k n
    is)
by_entry p how (negsuc n ∷ values) k is = absurd cc

-- it is none
pub no_entry : (p : Pair) (how : Use) (values : List ℤ) → None ≡ natural_of values → idle ≡ using_entry p how values
no_entry p how [] is = refl
no_entry p how (pos n ∷ values) is = absurd cc
no_entry p how (negsuc n ∷ values) is = refl

-- dup_x copies four words at most, so its operand has one byte
pub no_copy : (n : ℕ) → 256 ≤ n → copying_below n ≡ unknown
no_copy n above = let high : 16 ≤ n / 16 = omega (arith, above) in grind (arith, common_steps, high)

-- swap_x changes two words at most with two
pub no_swap : (n : ℕ) → 256 ≤ n → swapping_by n ≡ unknown
no_swap n above = let high : 16 ≤ n / 16 = omega (arith, above) in grind (arith, common_steps, high)
