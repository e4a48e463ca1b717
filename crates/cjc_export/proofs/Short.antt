-- How many bytes were taken.
use Rattle.std.proofs.Common.{◌≡◌, ℕ, ◌≤◌, Bool, true, false, cond, ltb, List, length, take, Result, Ok, Err, ap, arith}
use Rattle.std.proofs.lemmas.List.{length-take}
use Rattle.cjc_bytes.specs.Rest.{Rest, past}
use Rattle.cjc_bytes.specs.Reading.{front}

abbrev done : (List ℕ × Rest) → Result (List ℕ × Rest) ℕ
done x = Ok x

ok_is : (x y : List ℕ × Rest) → done x ≡ done y → x ≡ y
ok_is x y e = cc

taken_by : (b : Bool) (n : ℕ) (r : Rest) (bytes : List ℕ) (s : Rest) → cond {A = Result (List ℕ × Rest) ℕ} b (Err r.at)
    (Ok (take n r.left, past n r)) ≡ Ok (bytes, s) → length bytes ≤ n
taken_by true n r bytes s e = absurd cc
taken_by false n r bytes s e =
    let is : take n r.left ≡ bytes = ap (λ (q : List ℕ × Rest). q.0) (ok_is (take n r.left, past n r) (bytes, s) e) in
    let len : length (take n r.left) ≤ n = omega (arith, length-take n r.left) in
    rw is at len

pub taken_length : (n : ℕ) (r : Rest) (bytes : List ℕ) (s : Rest) → front n r ≡ Ok (bytes, s) → length bytes ≤ n
unfolding front
taken_length n r bytes s e = taken_by (ltb (length r.left) n) n r bytes s e
