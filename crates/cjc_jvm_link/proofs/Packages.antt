-- The package of a class's name, one byte of the name after the other.
use Rattle.std.proofs.Common.{◌≡◌, ℕ, ◌+◌, ◌<◌, ◌≤◌, ◌==◌, ◌++◌, List, [], ◌∷◌, length, take, drop, get_or, refl, sym}
use Rattle.std.proofs.Common.{ap, ◌∙◌, Bool, true, false, arith}
use Rattle.std.specs.Prelude.{if◌then◌else◌}
use Rattle.std.proofs.lemmas.List.{drop_all, drop_more, take_more}
use Rattle.cjc_jvm_semantics.specs.Group.{before_last, package_of}

-- what is found behind the first so many bytes
abbrev pub from_place : List ℕ → (i end : ℕ) → List ℕ
from_place class i end = before_last (take i class) (take end class) (drop i class)

either : (b : Bool) (class : List ℕ) (i end : ℕ) → (if b then before_last (take (i + 1) class) (take i class)
    (drop (i + 1) class) else before_last (take (i + 1) class) (take end class) (drop (i + 1) class))
    ≡ from_place class (i + 1) (if b then i else end)
either true class i end = refl
either false class i end = refl

pub package_next : (class : List ℕ) (i end next d : ℕ) (total : List ℕ) → i < length class
    → next ≡ (if get_or class i d == 47 then i else end) → from_place class i end ≡ total
    → from_place class (i + 1) next ≡ total
package_next class i end next d total lt is so_far =
    ap (from_place class (i + 1)) is
    ∙ sym (either (get_or class i d == 47) class i end)
    ∙ ap (λ t. if get_or class i d == 47 then before_last t (take i class) (drop (i + 1) class)
    else before_last t (take end class) (drop (i + 1) class)) (take_more class i d lt)
    ∙ sym (ap (before_last (take i class) (take end class)) (drop_more class i d lt))
    ∙ so_far

pub package_ends : (class : List ℕ) (i end : ℕ) (total : List ℕ) → length class ≤ i → from_place class i end ≡ total
    → take end class ≡ total
package_ends class i end total le so_far =
    sym (ap (before_last (take i class) (take end class)) (drop_all i class le)) ∙ so_far
