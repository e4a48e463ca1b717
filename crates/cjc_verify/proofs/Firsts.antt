-- The first of the rules that are broken in one of several ways.
use Rattle.std.proofs.Common.{◌≡◌, List, [], ◌∷◌, ◌++◌, Option, Some, None, refl, sym, ap, subst, inl, inr, ⊎_elim}
use Rattle.std.specs.Prelude.{◌⊎◌, option_to_list}
use Rattle.cjc_bytes.proofs.BrokenRules.{among_left, among_right, no_among}
use Rattle.cjc_bytes.proofs.Firsts.{among_either, among_one, first_of_one, upto_trans}
use Rattle.cjc_bytes.specs.Breaks.{Among, Break, IsFirst, IsFirstOf, foremost}
use Rattle.cjc_bytes.specs.Order.{NotAfter, numbers}
use Rattle.cjc_verify.specs.Working.Firsts.{IsFirstSo, IsFirstWhere}

-- ---- of a list

pub of_list : (bs : List Break) (o : Option Break) → IsFirstOf bs o → IsFirstWhere (λ b. Among b bs) o
of_list bs None none = λ b i. no_among b (subst (Among b) none i)
of_list bs (Some b) f = record { broken = f.among; first = f.least }

-- the one that is kept, alone
pub alone : (o : Option Break) → IsFirstOf (option_to_list o) o
alone None = refl
alone (Some b) = first_of_one b

in_one : (o : Option Break) (b : Break) → Among b (option_to_list o) → o ≡ Some b
in_one None b i = absurd (no_among b i)
in_one (Some x) b i = ap (λ (y : Break). Some y) (sym (among_one b x i))

-- ---- the same in other words

pub same_first : (Q S : Break → Type 0) (o : Option Break) → ((b : Break) → Q b → S b) → ((b : Break) → S b → Q b)
    → IsFirstWhere Q o → IsFirstWhere S o
same_first Q S None to from none = λ b s. none b (from b s)
same_first Q S (Some b) to from f = record { broken = to b f.broken; first = λ c s. f.first c (from c s) }

-- ---- one way or another

-- one of two that are kept is broken so
one_of : (Q : Break → Type 0) (o : Option Break) (b : Break) → IsFirstWhere Q o → o ≡ Some b → Q b
one_of Q None b f e = absurd cc
one_of Q (Some x) b f e = let same : x ≡ b = cc in subst Q same f.broken

-- what is not after what is kept is not after any other
below : (Q : Break → Type 0) (o : Option Break) (b c : Break) → IsFirstWhere Q o
    → ((x : Break) → Among x (option_to_list o) → NotAfter b.rank x.rank) → Q c → NotAfter b.rank c.rank
below Q None b c f least q = absurd (f c q)
below Q (Some x) b c f least q = upto_trans (numbers b.rank) (numbers x.rank) (numbers c.rank) (least x foremost)
    (f.first c q)

empty_of : (o p : Option Break) → option_to_list o ++ option_to_list p ≡ [] → (o ≡ None) × (p ≡ None)
empty_of None None e = (refl, refl)
empty_of None (Some y) e = absurd cc
empty_of (Some x) p e = absurd cc

pub either_first : (Q R : Break → Type 0) (left right o : Option Break) → IsFirstWhere Q left → IsFirstWhere R right
    → IsFirstOf (option_to_list left ++ option_to_list right) o → IsFirstWhere (λ b. Q b ⊎ R b) o
either_first Q R left right None f g none =
    let (no_left, no_right) = empty_of left right none in
    let f = subst (λ (x : Option Break). IsFirstWhere Q x) no_left f in
    let g = subst (λ (x : Option Break). IsFirstWhere R x) no_right g in
    λ b s. ⊎_elim (λ q. f b q) (λ r. g b r) s
either_first Q R left right (Some b) f g h =
    record {
      broken = ⊎_elim
          (λ i. inl (one_of Q left b f (in_one left b i)))
          (λ i. inr (one_of R right b g (in_one right b i)))
          (among_either b (option_to_list left) (option_to_list right) h.among);
      first = λ c s. ⊎_elim
          (λ q. below Q left b c f (λ x i. h.least x (among_left x (option_to_list left) (option_to_list right) i)) q)
          (λ r. below R right b c g (λ x i. h.least x (among_right x (option_to_list left) (option_to_list right) i)) r)
          s;
    }

-- ---- what is answered

-- where none is kept, none is broken
pub none_broken : (Q : Break → Type 0) (o : Option Break) → IsFirstWhere Q o → option_to_list o ≡ [] → (b : Break) → Q b
    → ⊥
none_broken Q None f unbroken = f
none_broken Q (Some x) f unbroken = absurd cc

-- the one that is kept is the first
pub first_kept : (Q : Break → Type 0) (o : Option Break) (b : Break) → IsFirstWhere Q o → IsFirst b (option_to_list o)
    → IsFirstSo Q b
first_kept Q None b f is = absurd (no_among b is.among)
first_kept Q (Some x) b f is = subst (IsFirstSo Q) (sym (among_one b x is.among)) f
