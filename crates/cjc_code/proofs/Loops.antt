-- The loops of the cutter read what the formats say.
use Rattle.std.proofs.Common.{◌≡◌, ℕ, suc, ◌-◌, ◌+◌, ◌≤◌, ◌<◌, List, [], ◌∷◌, ◌++◌, Result, Ok, Err, refl, sym, ap, ◌∙◌}
use Rattle.std.proofs.Common.{append_assoc, arith, length, get_or, drop, drop-cons, add-one, ℤ}
use Rattle.std.proofs.lemmas.List.{append-nil, drop_all, length-append}
use Rattle.cjc_bytes.specs.Rest.{Rest}
use Rattle.cjc_bytes.specs.Format.{Format}
use Rattle.cjc_bytes.specs.Reading.{read}
use Rattle.cjc_bytes.proofs.Laws.{read_ok}
use Rattle.cjc_bytes.proofs.Loops.{with_front, regroup}
use Rattle.cjc_code.specs.declared.raw.Raw.{Raw}
use Rattle.cjc_code.specs.declared.raw.Cut.{Cut}
use Rattle.cjc_code.specs.declared.table.Operand.{Operand}
use Rattle.cjc_code.specs.Instruction.{operand, operands, instruction}
use Rattle.cjc_code.specs.Cut.{put_first, cut_rest}

-- ---- operands

pub operands_more : (front : List ℤ) (list : List Operand) (i : ℕ) (d : Operand) (r s : Rest) (z : ℤ)
    (total : Result (List ℤ × Rest) ℕ) → i < length list → read (operand (get_or list i d)) r ≡ Ok (z, s)
    → with_front front (read (operands (drop i list)) r) ≡ total
    → with_front (front ++ z ∷ []) (read (operands (drop (i + 1) list)) s) ≡ total
unfolding operands
operands_more front list i d r s z total lt one so_far =
    let step : with_front front (read (operands (drop i list)) r) ≡ with_front (front
    ++ z ∷ []) (read (operands (drop (i + 1) list)) s) =
    rw (add-one, drop-cons list i d lt, one) (regroup front z (read (operands (drop (suc i) list)) s)) in
    sym step ∙ so_far

pub operands_stop : (front : List ℤ) (list : List Operand) (i : ℕ) (d : Operand) (r : Rest) (k : ℕ)
    (total : Result (List ℤ × Rest) ℕ) → i < length list → read (operand (get_or list i d)) r ≡ Err k
    → with_front front (read (operands (drop i list)) r) ≡ total → total ≡ Err k
unfolding operands
operands_stop front list i d r k total lt one so_far =
    let step : with_front front (read (operands (drop i list)) r) ≡ Err k = rw (drop-cons list i d lt, one) refl in
    sym so_far ∙ step

pub operands_all : (front : List ℤ) (list : List Operand) (i : ℕ) (r : Rest) (total : Result (List ℤ × Rest) ℕ)
    → length list ≤ i
    → with_front front (read (operands (drop i list)) r) ≡ total → total ≡ Ok (front, r)
unfolding operands
operands_all front list i r total le so_far =
    sym so_far ∙ rw (drop_all i list le) (ap (λ (zs : List ℤ). Ok (zs, r)) (append-nil front))

-- ---- instructions

-- these instructions before others
abbrev pub behind : List Raw → Cut → Cut
behind front c = record { insns = front ++ c.insns; stop = c.stop }

pub cut_more : (front : List Raw) (n i : ℕ) (r s : Rest) (a : Raw) (total : Cut) → i < n
    → read instruction r ≡ Ok (a, s)
    → behind front (cut_rest (n - i) r) ≡ total → behind (front ++ a ∷ []) (cut_rest (n - (i + 1)) s) ≡ total
unfolding cut_rest
cut_more front n i r s a total lt one so_far =
    let k : n - i ≡ suc (n - (i + 1)) = omega arith in
    let c = cut_rest (n - (i + 1)) s in
    let step : behind front (cut_rest (n - i) r) ≡ behind front (put_first a c) = rw (k, one) refl in
    let group : behind front (put_first a c) ≡ behind (front ++ a ∷ []) c =
    ap (λ (insns : List Raw). record { insns = insns; stop = c.stop }) (sym (append_assoc front (a ∷ []) c.insns))
    in
    sym (step ∙ group) ∙ so_far

pub cut_ends : (front : List Raw) (n i : ℕ) (r : Rest) (k : ℕ) (total : Cut) → i < n → read instruction r ≡ Err k
    → behind front (cut_rest (n - i) r) ≡ total → total ≡ record { insns = front; stop = r.at }
unfolding cut_rest
cut_ends front n i r k total lt one so_far =
    let m : n - i ≡ suc (n - (i + 1)) = omega arith in
    sym so_far ∙ rw (m, one) (ap (λ (insns : List Raw). record { insns = insns; stop = r.at }) (append-nil front))

pub cut_all : (front : List Raw) (n i : ℕ) (r : Rest) (total : Cut) → n ≤ i
    → behind front (cut_rest (n - i) r) ≡ total → total ≡ record { insns = front; stop = r.at }
unfolding cut_rest
cut_all front n i r total le so_far =
    let m : n - i ≡ 0 = omega arith in
    sym so_far ∙ rw m (ap (λ (insns : List Raw). record { insns = insns; stop = r.at }) (append-nil front))

-- what is read is no longer left
pub read_keeps : {A : Type 0} (format : Format A) (r s : Rest) (a : A) (size : ℕ) → read format r ≡ Ok (a, s)
    → r.at + length r.left ≡ size → s.at + length s.left ≡ size
read_keeps format r s a size e h =
    let f = read_ok format r a s e in
    omega (arith, ap length f.parts, length-append f.front s.left, f.place)
