-- A loop that reads one item a turn up to a place reads what stands before that place.
use Rattle.std.proofs.Common.{true, false, ltb, ◌≡◌, ℕ, suc, ◌-◌, ◌+◌, ◌≤◌, ◌<◌, Result, Ok, Err, refl, sym, ◌∙◌, arith}
use Rattle.std.proofs.lemmas.Bool.{lt-ltb, le-ltb}
use Rattle.cjc_bytes.specs.Rest.{Rest}
use Rattle.cjc_bytes.specs.Format.{Format}
use Rattle.cjc_bytes.specs.Reading.{read}
use Rattle.cjc_capread.specs.Until.{until}

pub until_more : {S : Type 0} (p : S → Format S) (old new : S) (n i end : ℕ) (r s : Rest) (total : Result (S × Rest) ℕ)
    → i < n → r.at < end → read (p old) r ≡ Ok (new, s)
    → read (until (n - i) end p old) r ≡ total → read (until (n - (i + 1)) end p new) s ≡ total
unfolding until
until_more p old new n i end r s total lt room one so_far =
    let k : n - i ≡ suc (n - (i + 1)) = omega arith in
    let test : ltb r.at end ≡ true = lt-ltb r.at end room in
    sym (rw (k, test, one) refl) ∙ so_far

pub until_stops : {S : Type 0} (p : S → Format S) (old : S) (n i end : ℕ) (r : Rest) (k : ℕ) (total : Result (S
    × Rest) ℕ) → i < n → r.at < end → read (p old) r ≡ Err k
    → read (until (n - i) end p old) r ≡ total → total ≡ Err k
unfolding until
until_stops p old n i end r k total lt room one so_far =
    let m : n - i ≡ suc (n - (i + 1)) = omega arith in
    let test : ltb r.at end ≡ true = lt-ltb r.at end room in
    sym so_far ∙ rw (m, test, one) refl

pub until_ended : {S : Type 0} (p : S → Format S) (old : S) (n i end : ℕ) (r : Rest) (total : Result (S × Rest) ℕ)
    → i < n → end ≤ r.at
    → read (until (n - i) end p old) r ≡ total → total ≡ Ok (old, r)
unfolding until
until_ended p old n i end r total lt none so_far =
    let m : n - i ≡ suc (n - (i + 1)) = omega arith in
    let test : ltb r.at end ≡ false = le-ltb r.at end none in
    sym so_far ∙ rw (m, test) refl

pub until_all : {S : Type 0} (p : S → Format S) (old : S) (n i end : ℕ) (r : Rest) (total : Result (S × Rest) ℕ) → n ≤ i
    → read (until (n - i) end p old) r ≡ total → total ≡ Ok (old, r)
unfolding until
until_all p old n i end r total le so_far =
    let m : n - i ≡ 0 = omega arith in
    sym so_far ∙ rw m refl
