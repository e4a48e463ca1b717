-- What some items of a list break, one item after the other, and what is answered of it.
use Rattle.std.proofs.Common.{◌≡◌, ◌⊎◌, inl, inr, ℕ, ◌+◌, ◌<◌, ◌≤◌, List, [], ◌++◌, Option, Some, None, Result, Ok, Err}
use Rattle.std.proofs.Common.{IfOk, IfErr, length, get_or, refl, ap, subst, ◌∙◌, ⊎_elim, arith}
use Rattle.std.specs.Prelude.{slice_get, option_map}
use Rattle.std.proofs.lemmas.Bool.{cases_lt}
use Rattle.std.proofs.lemmas.Option.{slice_get_within}
use Rattle.cjc_bytes.specs.declared.fault.Fault.{Fault}
use Rattle.cjc_bytes.specs.declared.fault.Fault.TheVariants as faults
use Rattle.cjc_bytes.specs.Breaks.{IsFirstOf}
use Rattle.cjc_bytes.specs.Breaks.{Break, Among, IsFirst}
use Rattle.cjc_judge.specs.Rules.{AnyBreaks, IsListOf, IsFirstIn, IsFirstFault}
use Rattle.cjc_bytes.proofs.Firsts.{among_either}
use Rattle.cjc_bytes.proofs.BrokenRules.{among_left, among_right, no_among}
use Rattle.cjc_bytes.proofs.Gets.{slice_get_at}
use Rattle.cjc_bytes.proofs.Options.{some_same}

-- those that are in a list, of the first so many items
abbrev pub BreaksBelow : {A : Type 0} → (A → Break → Type 0) → List A → ℕ → Break → Type 0
BreaksBelow {A} Breaks items bound b = (i : ℕ) × (i < bound) × ((x : A) × (slice_get items i ≡ Some x) × Breaks x b)

module _ {A : Type 0} (Breaks : A → Break → Type 0) (items : List A) where
  pub none_below : IsFirstIn (BreaksBelow Breaks items 0) None
  none_below = ([], λ b. (λ i. absurd (no_among b i), λ h. absurd (let lt = h.1 in omega (arith, lt))), refl)

  -- one more
  pub more_below : (i : ℕ) (item : A) (o p q : Option Break) → i < length items → item ≡ get_or items i item
      → ((xs ys : List Break) → IsFirstOf xs o → IsFirstOf ys p → IsFirstOf (xs ++ ys) q)
      → IsFirstIn (BreaksBelow Breaks items i) o → IsFirstIn (Breaks item) p
      → IsFirstIn (BreaksBelow Breaks items (i + 1)) q
  more_below i item o p q lt is joins (xs, all, first) (ys, more, next) =
      (xs ++ ys, λ b. (λ j. own b (among_either b xs ys j), λ h. into b h), joins xs ys first next)
    where
      at : slice_get items i ≡ Some item
      at = slice_get_at items i item lt is

      own : (b : Break) → Among b xs ⊎ Among b ys → BreaksBelow Breaks items (i + 1) b
      own b (inl j) = let h = (all b).0 j in let below = h.1 in (h.0, omega (arith, below), h.2)
      own b (inr j) = (i, omega arith, (item, at, (more b).0 j))

      into : (b : Break) → BreaksBelow Breaks items (i + 1) b → Among b (xs ++ ys)
      into b h = let below = h.1 in ⊎_elim
          (λ before. among_left b xs ys ((all b).1 (h.0, before, h.2)))
          (λ not. among_right b xs ys ((more b).1 (by h.0 h.2.0 (let e : h.0 ≡ i = omega (arith, below, not)
          in e) h.2.1 h.2.2)))
          (cases_lt h.0 i)
        where
          by : (k : ℕ) (x : A) → k ≡ i → slice_get items k ≡ Some x → Breaks x b → Breaks item b
          by k x e there h = subst (λ (y : A). Breaks y b) (some_same x item there (ap (slice_get items) e ∙ at)) h

  -- and all of them
  pub all_below : (i : ℕ) (o : Option Break) → length items ≤ i → IsFirstIn (BreaksBelow Breaks items i) o
      → IsFirstIn (AnyBreaks Breaks items) o
  all_below i o low (xs, all, first) = (
    xs,
    λ b. (
      λ j. let h = (all b).0 j in (h.0, h.2.0, h.2.1, h.2.2),
      λ h. (all b).1 (into b h),
    ),
    first,
  )
    where
      into : (b : Break) → AnyBreaks Breaks items b → BreaksBelow Breaks items i b
      into b h = (h.0, (let lt = slice_get_within items h.0 h.1 h.2 in omega (arith, lt, low)), (h.1, h.2, h.3))

-- ---- what is answered

pub none_of : (G : Break → Type 0) (o : Option Break) (bs : List Break) → IsListOf G bs → bs ≡ [] → (b : Break) → G b
    → ⊥
none_of G o bs all is b h = no_among b (subst (Among b) is ((all b).1 h))

pub first_of : (G : Break → Type 0) (bs : List Break) (e : Fault) → IsListOf G bs → (e ≡ faults.NoMemory)
    ⊎ ((b : Break) × IsFirst b bs × (e ≡ faults.Refused b.refusal)) → IsFirstFault G e
first_of G bs e all (inl memory) = inl memory
first_of G bs e all (inr (b, first, is)) =
    inr (
      b.refusal,
      record {
        broken = b;
        first = record {
          breaks = (all b).0 first.among;
          least = λ a h. first.least a ((all a).1 h);
        };
        is = refl;
      },
      is,
    )

pub if_err : {A E : Type 0} {P Q : E → Type 0} (r : Result A E) → ((e : E) → P e → Q e) → IfErr r P → IfErr r Q
if_err (Ok a) f p = p
if_err (Err e) f p = f e p

-- a list of breaks with its first
pub as_list : (bs : List Break) (o : Option Break) → IsFirstOf bs o → IsFirstIn (λ b. Among b bs) o
as_list bs o first = (bs, λ b. (λ i. i, λ i. i), first)

pub if_list : {X E : Type 0} (f : X → Break) (bs : List Break) (r : Result (Option X) E)
    → IfOk r (λ o. IsFirstOf bs (option_map f o)) → IfOk r (λ o. IsFirstIn (λ b. Among b bs) (option_map f o))
if_list f bs (Ok o) first = as_list bs (option_map f o) first
if_list f bs (Err e) first = tt
