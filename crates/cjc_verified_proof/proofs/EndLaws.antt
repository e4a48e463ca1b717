-- Behind an instruction that ends code the next one does not follow, by the row of its opcode.
use Rattle.std.proofs.Common.{◌≡◌, ℕ, zero, suc, ◌+◌, refl, sym, ap, ◌∙◌, arith, Bool, true, false, List, [], ◌∷◌}
use Rattle.std.proofs.Common.{slice_get, Option, Some, None}
use Rattle.std.specs.Prelude.{◌&&◌, ◌||◌, not}
use Rattle.cjc_check_rules.specs.Instructions.{ends_code}
use Rattle.cjc_card_acts.specs.Rows.{Row, known_row, row, rows}
use Rattle.cjc_bytes.proofs.Plain.{same_some}
use Rattle.cjc_verified_proof.proofs.ActLaws.{may_fall}

-- the rows of opcodes from one on do not fall where they end code
stop_from : (opcode : ℕ) → List Row → Bool
stop_from op [] = true
stop_from op (r ∷ rs) = (not (ends_code op) || not (may_fall r)) && stop_from (op + 1) rs

all_stop : stop_from 0 rows ≡ true
unfolding stop_from
all_stop = refl

stops : (e f : Bool) → (not e || not f) ≡ true → e ≡ true → f ≡ false
stops true true h e = absurd cc
stops true false h e = refl
stops false f h e = absurd cc

stop_at : (op : ℕ) (rs : List Row) → stop_from op rs ≡ true → (k : ℕ) (r : Row) → slice_get rs k ≡ Some r
    → ends_code (op + k) ≡ true → may_fall r ≡ false
unfolding stop_from
stop_at op [] h k r e f = absurd cc
stop_at op (x ∷ rs) h zero r e f =
    let b = both (not (ends_code op) || not (may_fall x)) (stop_from (op + 1) rs) h in
    let z : op + 0 ≡ op = omega arith in
    ap may_fall (sym (same_some e)) ∙ stops (ends_code op) (may_fall x) b.0 (sym (ap ends_code z) ∙ f)
  where
    both : (a b : Bool) → (a && b) ≡ true → (a ≡ true) × (b ≡ true)
    both true b e = (refl, e)
    both false b e = absurd cc
stop_at op (x ∷ rs) h (suc k) r e f =
    let b = both (not (ends_code op) || not (may_fall x)) (stop_from (op + 1) rs) h in
    let z : op + suc k ≡ op + 1 + k = omega arith in
    stop_at (op + 1) rs b.1 k r e (sym (ap ends_code z) ∙ f)
  where
    both : (a b : Bool) → (a && b) ≡ true → (a ≡ true) × (b ≡ true)
    both true b e = (refl, e)
    both false b e = absurd cc

pub last_falls_not : (op : ℕ) → ends_code op ≡ true → may_fall (row op) ≡ false
unfolding row
last_falls_not op ends = by (slice_get rows op) refl
  where
    by : (o : Option Row) → slice_get rows op ≡ o → may_fall (known_row o) ≡ false
    by None e = refl
    by (Some r) e = stop_at 0 rows all_stop op r e (let z : 0 + op ≡ op = omega arith in ap ends_code z ∙ ends)
