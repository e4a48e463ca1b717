-- Lists of cells joined in turn, in place of the first.
use Rattle.std.proofs.Common.{◌≡◌, ◌<◌, ◌+◌, ℕ, List, [], ◌∷◌, ◌++◌, length, take, drop, get_or, slice_set, refl, sym}
use Rattle.std.proofs.Common.{◌∙◌, ap, arith, append_assoc}
use Rattle.std.proofs.lemmas.List.{take_more, drop_more, take_all, drop_all, set_at, get_or_at, append-nil}
use Rattle.std.proofs.lemmas.List.{length-take-le}
use Rattle.cjc_fixpoint.specs.Lattice.{joined}
use Rattle.cjc_fixpoint.proofs.Lattices.{joined_more, length-joined}

-- The cells at one place of the loop: those before it are joined, and what is read there is still the first's.
record IsAtPlace {X : Type 0} (join : X → X → X) (xs ys : List X) (i : ℕ) (z : X) (cells : List X) : Type 0 where
  front : List X
  sized : length front ≡ i
  here : X
  split : cells ≡ front ++ here ∷ drop (i + 1) xs
  more : front ++ z ∷ [] ≡ take (i + 1) (joined join xs ys)

at_place : {X : Type 0} (join : X → X → X) (xs ys : List X) (i : ℕ) (x y z : X) (cells : List X) → i < length xs
    → length xs ≡ length ys → cells ≡ take i (joined join xs ys) ++ drop i xs
    → x ≡ get_or cells i x → y ≡ get_or ys i y → z ≡ join x y → IsAtPlace join xs ys i z cells
at_place {X} join xs ys i x y z cells lt same is is_x is_y is_z =
    let front : List X = take i (joined join xs ys) in
    let all = length-joined join xs ys same in
    let sized : length front ≡ i = length-take-le i (joined join xs ys) (omega (arith, all, lt)) in
    let here : X = get_or xs i x in
    let split : cells ≡ front ++ here ∷ drop (i + 1) xs = is ∙ ap (λ (zs : List X). front ++ zs) (drop_more xs i x lt)
    in
    let read : x ≡ get_or xs i x = is_x ∙ ap (λ (zs : List X). get_or zs i x) split
    ∙ get_or_at front here (drop (i + 1) xs) x i sized in
    record {
      front = front;
      sized = sized;
      here = here;
      split = split;
      more = joined_more join xs ys i x y z front lt
          same read is_y is_z refl;
    }

-- what is joined is put there
pub joined_put : {X : Type 0} (join : X → X → X) (xs ys : List X) (i : ℕ) (x y z : X) (cells : List X) → i < length xs
    → length xs ≡ length ys → cells ≡ take i (joined join xs ys) ++ drop i xs
    → x ≡ get_or cells i x → y ≡ get_or ys i y → z ≡ join x y → slice_set cells i z ≡ take (i + 1) (joined join xs ys)
    ++ drop (i + 1) xs
joined_put {X} join xs ys i x y z cells lt same is is_x is_y is_z =
    let at = at_place join xs ys i x y z cells lt same is is_x is_y is_z in
    ap (λ (zs : List X). slice_set zs i z) at.split
    ∙ set_at at.front at.here (drop (i + 1) xs) z i at.sized
    ∙ sym (append_assoc at.front (z ∷ []) (drop (i + 1) xs))
    ∙ ap (λ (zs : List X). zs ++ drop (i + 1) xs) at.more

-- the same, where another cell is put there first
pub joined_set : {X : Type 0} (join : X → X → X) (xs ys : List X) (i : ℕ) (x y z u : X) (cells : List X) → i < length xs
    → length xs ≡ length ys → cells ≡ take i (joined join xs ys) ++ drop i xs
    → x ≡ get_or cells i x → y ≡ get_or ys i y → z ≡ join x y → slice_set (slice_set cells i u) i z
    ≡ take (i + 1) (joined join xs ys) ++ drop (i + 1) xs
joined_set {X} join xs ys i x y z u cells lt same is is_x is_y is_z =
    let at = at_place join xs ys i x y z cells lt same is is_x is_y is_z in
    ap (λ (zs : List X). slice_set (slice_set zs i u) i z) at.split
    ∙ ap (λ (zs : List X). slice_set zs i z) (set_at at.front at.here (drop (i + 1) xs) u i at.sized)
    ∙ set_at at.front u (drop (i + 1) xs) z i at.sized
    ∙ sym (append_assoc at.front (z ∷ []) (drop (i + 1) xs))
    ∙ ap (λ (zs : List X). zs ++ drop (i + 1) xs) at.more

pub joined_end : {X : Type 0} (join : X → X → X) (xs ys : List X) (i : ℕ) (cells : List X) → length xs ≡ length ys
    → length ys ≡ i → cells ≡ take i (joined join xs ys) ++ drop i xs → cells ≡ joined join xs ys
joined_end {X} join xs ys i cells same end is =
    let all = length-joined join xs ys same in
    is ∙ ap (λ (zs : List X). take i (joined join xs ys) ++ zs) (drop_all i xs (omega (arith, same, end)))
    ∙ append-nil (take i (joined join xs ys)) ∙ take_all i (joined join xs ys) (omega (arith, all, same, end))

pub above_step : {X : Type 0} (join : X → X → X) (xs ys : List X) (i : ℕ) (x y : X) → i < length xs
    → length xs ≡ length ys → x ≡ get_or xs i x → y ≡ get_or ys i y → join x y ≡ x
    → take i (joined join xs ys) ≡ take i xs → take (i + 1) (joined join xs ys) ≡ take (i + 1) xs
above_step {X} join xs ys i x y lt same is_x is_y kept so_far =
    sym (joined_more join xs ys i x y x (take i xs) lt same is_x is_y (sym kept) (sym so_far))
    ∙ ap (λ (z : X). take i xs ++ z ∷ []) is_x ∙ sym (take_more xs i x lt)

pub above_end : {X : Type 0} (join : X → X → X) (xs ys : List X) (i : ℕ) → length xs ≡ length ys → length xs ≡ i
    → take i (joined join xs ys) ≡ take i xs → joined join xs ys ≡ xs
above_end {X} join xs ys i same end is =
    let all = length-joined join xs ys same in
    sym (take_all i (joined join xs ys) (omega (arith, all, end))) ∙ is ∙ take_all i xs (omega (arith, end))
