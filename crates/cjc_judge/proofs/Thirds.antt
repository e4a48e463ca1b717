-- Of the breaks of the third and the fourth hundred, those of the third.
use Rattle.std.proofs.Common.{◌≡◌, inl, inr, ◌<◌, ◌≤◌, Bool, true, false, List, [], ◌∷◌, Some, None, refl, sym, subst}
use Rattle.std.proofs.Common.{◌∙◌, arith}
use Rattle.std.specs.Prelude.{◌==◌, if◌then◌else◌}
use Rattle.std.proofs.lemmas.Bool.Decides.{nat_tests}
use Rattle.cjc_bytes.specs.Order.{NotAfter}
use Rattle.cjc_bytes.specs.Breaks.{IsFirstOf}
use Rattle.cjc_bytes.specs.Breaks.{Break, Among, foremost, after, IsFirst}
use Rattle.cjc_bytes.proofs.BrokenRules.{no_among, no_breaks}
use Rattle.cjc_judge.specs.Rules.{IsOfThirdHundred, IsListOf, IsFirstIn}

is_third : Break → Bool
is_third b = b.rank.family == 3

third_is : (b : Break) → is_third b ≡ true → IsOfThirdHundred b
unfolding is_third
third_is b e = grind (arith, nat_tests)

third_holds : (b : Break) → IsOfThirdHundred b → is_third b ≡ true
unfolding is_third
third_holds b e = grind (arith, nat_tests)

-- those of the third hundred
thirds : List Break → List Break
thirds [] = []
thirds (b ∷ bs) = if is_third b then b ∷ thirds bs else thirds bs

abbrev Third : List Break → Break → Type 0
Third bs b = Among b bs × IsOfThirdHundred b

later : (x : Break) (bs : List Break) (b : Break) → Third bs b → Third (x ∷ bs) b
later x bs b h = (after h.0, h.1)

from_true : (x : Break) (bs ts : List Break) (b : Break) → is_third x ≡ true → (Among b ts → Third bs b)
    → Among b (x ∷ ts) → Third (x ∷ bs) b
from_true x bs ts b e rest foremost = (foremost, third_is x e)
from_true x bs ts b e rest (after j) = later x bs b (rest j)

from_more : (x : Break) (bs : List Break) (b : Break) (t : Bool) → is_third x ≡ t → (Among b (thirds bs) → Third bs b)
    → Among b (if t then x ∷ thirds bs else thirds bs) → Third (x ∷ bs) b
from_more x bs b true e rest i = from_true x bs (thirds bs) b e rest i
from_more x bs b false e rest i = later x bs b (rest i)

from_thirds : (bs : List Break) (b : Break) → Among b (thirds bs) → Third bs b
unfolding thirds
from_thirds [] b i = absurd (no_among b i)
from_thirds (x ∷ bs) b i = from_more x bs b (is_third x) refl (λ j. from_thirds bs b j) i

into_more : (x : Break) (bs : List Break) (b : Break) (t : Bool) → is_third x ≡ t → (Among b bs → Among b (thirds bs))
    → IsOfThirdHundred b → Among b (x ∷ bs) → Among b (if t then x ∷ thirds bs else thirds bs)
into_more x bs b true e rest h foremost = foremost
into_more x bs b true e rest h (after j) = after (rest j)
into_more x bs b false e rest h foremost = absurd (let f = sym e ∙ third_holds b h in cc)
into_more x bs b false e rest h (after j) = rest j

into_thirds : (bs : List Break) (b : Break) → Among b bs → IsOfThirdHundred b → Among b (thirds bs)
unfolding thirds
into_thirds [] b i h = absurd (no_among b i)
into_thirds (x ∷ bs) b i h = into_more x bs b (is_third x) refl (λ j. into_thirds bs b j h) h i

lists_thirds : (bs : List Break) → IsListOf (Third bs) (thirds bs)
lists_thirds bs b = (λ i. from_thirds bs b i, λ h. into_thirds bs b h.0 h.1)

-- where nothing is broken
pub third_of_none : (bs : List Break) → IsFirstOf bs None → IsFirstIn (Third bs) None
third_of_none bs e = (
  thirds bs,
  lists_thirds bs,
  no_breaks (thirds bs) (λ b i. no_among b (subst (Among b) e (from_thirds bs b i).0)),
)

-- the first of all is of the third hundred
pub third_found : (bs : List Break) (b : Break) → IsFirst b bs → IsOfThirdHundred b → IsFirstIn (Third bs) (Some b)
third_found bs b f h = (
  thirds bs,
  lists_thirds bs,
  record {
    among = into_thirds bs b f.among h;
    least = λ a i. f.least a (from_thirds bs a i).0;
  },
)

-- the first of all is of a later one, and so are all
pub third_not : (bs : List Break) (b : Break) → IsFirst b bs → ((a : Break) → Among a bs → 3 ≤ a.rank.family)
    → (IsOfThirdHundred b → ⊥) → IsFirstIn (Third bs) None
third_not bs b f low not = (thirds bs, lists_thirds bs, no_breaks (thirds bs) (λ a i. wrong a (from_thirds bs a i)))
  where
    high : 3 < b.rank.family
    high = let at_least = low b f.among in omega (arith, at_least, not)

    behind : (a : Break) → NotAfter b.rank a.rank → IsOfThirdHundred a → ⊥
    behind a (inl lt) h = omega (arith, lt, h, high)
    behind a (inr (e, more)) h = omega (arith, e, h, high)

    wrong : (a : Break) → Third bs a → ⊥
    wrong a h = behind a (f.least a h.0) h.1
