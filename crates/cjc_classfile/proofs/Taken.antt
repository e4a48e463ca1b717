-- How many bytes are taken from the front.
use Rattle.std.proofs.Common.{◌≡◌, ℕ, ◌≤◌, Bool, true, false, cond, ltb, List, length, take, Result, Ok, Err, ap, arith}
use Rattle.std.proofs.lemmas.List.{length-take}
use Rattle.cjc_bytes.specs.Rest.{Rest, past}
use Rattle.cjc_bytes.specs.Reading.{front}

-- the bytes and what is left after them
abbrev pair : List ℕ → Rest → List ℕ × Rest
pair bytes r = (bytes, r)

abbrev done : List ℕ × Rest → Result (List ℕ × Rest) ℕ
done x = Ok x

first_is : (x y : List ℕ × Rest) → done x ≡ done y → x.0 ≡ y.0
first_is x y e = let same : x ≡ y = cc in ap (λ (q : List ℕ × Rest). q.0) same

taken_by : (short : Bool) (k : ℕ) (x y : List ℕ × Rest) → cond short (Err k) (done x) ≡ done y → x.0 ≡ y.0
taken_by true k x y e = absurd cc
taken_by false k x y e = first_is x y e

pub taken_length : (n : ℕ) (r s : Rest) (bytes : List ℕ) → front n r ≡ Ok (bytes, s) → length bytes ≤ n
unfolding front
taken_length n r s bytes e =
    let is : take n r.left ≡ bytes = taken_by (ltb (length r.left) n) r.at (pair (take n r.left) (past n r))
    (pair bytes s) e in
    let same : length (take n r.left) ≡ length bytes = ap length is in
    omega (arith, length-take n r.left)
