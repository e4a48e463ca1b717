-- No operand is asked past those that an instruction takes.
use Rattle.std.proofs.Common.{◌≡◌, ◌≤◌, ◌+◌, ◌&&◌, ◌||◌, ℕ, Bool, true, false, nat_lt, List, [], ◌∷◌, refl, arith}
use Rattle.std.specs.Prelude.{not}
use Rattle.std.proofs.lemmas.Bool.{ltb-true}
use Rattle.cjc_code.specs.declared.insn.JOp.{JOp}
use Rattle.cjc_world.specs.Classes.{Class}
use Rattle.cjc_types.specs.declared.cell.Cell.{Cell}
use Rattle.cjc_types.specs.Flow.{Body}
use Rattle.cjc_types.specs.Rules.{accepts, has_wrong}

pub wrong_past : (w : List Class) (b : Body) (op : JOp) (count k : ℕ) (xs : List Cell) → count ≤ k
    → has_wrong w b op count k xs ≡ false
wrong_past w b op count k [] le = refl
wrong_past w b op count k (x ∷ xs) le = go (nat_lt k count) refl (wrong_past w b op count (k + 1) xs (omega (
  arith,
  le,
)))
  where
    go : (is : Bool) → nat_lt k count ≡ is → has_wrong w b op count (k + 1) xs ≡ false
        → ((is && not (accepts w b op k x)) || has_wrong w b op count (k + 1) xs) ≡ false
    go true e rest = let lt = ltb-true k count e in absurd (omega (arith, lt, le))
    go false e rest = rest
