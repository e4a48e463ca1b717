-- Indices and tokens of a package are those of its pool of at most 16,383 keys, with tokens of one byte for the methods
-- of interfaces that its code calls.
use Rattle.std.proofs.Common.{◌≡◌, ℕ, ◌<◌, ◌≤◌, arith, refl, Bool, true, false, List, [], length}
use Rattle.std.specs.Prelude.{None, Some, nat_lt, if◌then◌else◌}
use Rattle.std.proofs.lemmas.Bool.{ltb-false, ltb-true}
use Rattle.cjc_bytes.specs.declared.fault.MemberId.{MemberId}
use Rattle.cjc_bytes.proofs.Bools.{or_left}
use Rattle.cjc_bytes.proofs.Lists.{none_right}
use Rattle.cjc_bytes.proofs.Numbers.{none_at}
use Rattle.cjc_components.specs.Limits.{form_breaks, has_many_entries, layout_breaks, of_methods, spot_of_list}
use Rattle.cjc_components.specs.Names.{interface_token, naming_over}
use Rattle.cjc_components.specs.Package.{Package, pool}
use Rattle.cjc_check_proof.specs.CapRead.declared.tree.PoolEntry.{PoolEntry}
use Rattle.cjc_narrow_proof.specs.CardSemantics.Machine.Loaded.{Loaded}
use Rattle.cjc_narrow_proof.specs.NCode.Lowering.Naming.{Naming}
use Rattle.cjc_narrow_proof.specs.NCode.declared.narrow.NInsn.{NInsn}
use Rattle.cjc_narrow_proof.specs.NCode.declared.narrow.NInsn.TheVariants as insns
use Rattle.cjc_narrow_proof.specs.Selected.Operands.{IsSmall, NumbersFit}

-- the token, where it has one byte
cut : ℕ → ℕ
cut k = if nat_lt k 256 then k else 0

cut_low : (k : ℕ) → cut k < 256
unfolding cut
cut_low k = by (nat_lt k 256) refl
  where
    by : (b : Bool) → nat_lt k 256 ≡ b → (if b then k else 0) < 256
    by true e = ltb-true k 256 e
    by false e = omega arith

-- 414
pub few_keys : (p : Package) → form_breaks p ≡ [] → length (pool p) ≤ 16383
few_keys p forms =
    let off = none_at (has_many_entries p) (spot_of_list p) 414 (none_right (of_methods p (layout_breaks p)) _ forms) in
    ltb-false 16383 (length (pool p)) (or_left _ _ off)

module _ (loaded : Loaded) (entries : List PoolEntry) (p : Package) where
  -- the names of the package, with tokens of one byte
  pub with_low_tokens : Naming
  with_low_tokens = record (naming_over loaded entries p) { interface_token = λ id. cut (interface_token p id) }

  pub tokens_small : length (pool p) ≤ 16383 → IsSmall with_low_tokens (pool p)
  unfolding with_low_tokens
  tokens_small few = record { few = few; index = λ key. refl; token = λ id. cut_low (interface_token p id) }

  -- what fits those fits the package, where the tokens that code names have one byte
  pub numbers_stay : (i : NInsn) → ((nargs : ℕ) (id : MemberId) → i ≡ insns.Interface nargs id
      → interface_token p id < 256) → NumbersFit with_low_tokens i → NumbersFit (naming_over loaded entries p) i
  unfolding with_low_tokens
  numbers_stay (insns.Interface nargs id) low fit = (fit.0, fit.1, low nargs id refl)
  numbers_stay (insns.Named op key) low fit = fit
  numbers_stay (insns.TypeTest op kind None) low fit = tt
  numbers_stay (insns.TypeTest op kind (Some class)) low fit = fit
  numbers_stay (insns.Op op) low fit = tt
  numbers_stay (insns.Push op value) low fit = tt
  numbers_stay (insns.Local op index) low fit = tt
  numbers_stay (insns.Inc op index by) low fit = tt
  numbers_stay (insns.Words op a b) low fit = tt
  numbers_stay (insns.Jump op target) low fit = tt
  numbers_stay (insns.Switch op other low_match cases) low fit = tt
  numbers_stay (insns.NewArray kind) low fit = tt
