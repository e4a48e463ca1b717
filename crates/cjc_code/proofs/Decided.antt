-- What is decoded, by the rules.
use Rattle.std.proofs.Common.{◌≡◌, ℕ, zero, suc, ◌≤◌, min, ◌⊎◌, Bool, true, false, not, ltb, List, [], ◌∷◌, ◌++◌, map}
use Rattle.std.proofs.Common.{Option, Some, None, Result, Ok, Err, refl, sym, ap, subst, ◌∙◌, arith, inl, inr}
use Rattle.std.specs.List.{Contains, AllPass}
use Rattle.std.proofs.lemmas.Bool.{ltb-true, ltb-false}
use Rattle.std.proofs.lemmas.List.Elements.{All-nil, All-cons, All-head, All-tail}
use Rattle.cjc_bytes.specs.Found.{◌>>=◌, each}
use Rattle.cjc_classfile.specs.declared.tree.ClassTree.{ClassTree}
use Rattle.cjc_classfile.specs.declared.tree.MethodTree.{MethodTree}
use Rattle.cjc_classfile.specs.PoolItem.{PoolItem}
use Rattle.cjc_classfile.specs.Code.{CodeTree}
use Rattle.cjc_bytes.specs.declared.breaks.BrokenAt.{BrokenAt}
use Rattle.cjc_bytes.proofs.Bools.{not_true}
use Rattle.cjc_code.specs.declared.insn.JInsn.{JInsn}
use Rattle.cjc_code.specs.declared.raw.Raw.{Raw}
use Rattle.cjc_code.specs.Cut.{cut}
use Rattle.cjc_code.specs.Unfit.{unfit_code}
use Rattle.cjc_code.specs.Named.{is_unsupported, named, all_named}
use Rattle.cjc_code.specs.Decoded.{least_of, least, unless_unsupported, unless_unfit, decoding}
use Rattle.cjc_code.specs.Rules.{IsUnfit, IsFirstUnfit, IsFirstUnsupported, IsFirstUnsupportedCode, IsDecoded}
use Rattle.cjc_code.specs.Rules.{with_names}
use Rattle.cjc_code.proofs.RuleLaws.{contains_first, unfit_is, is_unfit_there}

-- ---- the least

le_or : (b : Bool) (j k : ℕ) → ltb k j ≡ b → (j ≤ k) ⊎ (k ≤ j)
le_or true j k e = let lt = ltb-true k j e in inr (omega arith)
le_or false j k e = inl (ltb-false k j e)

min_is : (j k : ℕ) → (min j k ≡ j) ⊎ (min j k ≡ k)
min_is j k = elim (le_or (ltb k j) j k refl) [ inl le ↦ inl (omega arith) | inr le ↦ inr (omega arith) ]

spread : (j k l : ℕ) (ks : List ℕ) → Contains (min j k ∷ ks) l → Contains (j ∷ k ∷ ks) l
spread j k l ks (zero, lt, e) = elim (min_is j k) [
  | inl is ↦ (0, omega arith, sym is ∙ e)
  | inr is ↦ (1, omega arith, sym is ∙ e)
]
spread j k l ks (suc n, lt, e) = (suc (suc n), omega arith, e)

least_there : (k : ℕ) (ks : List ℕ) → Contains (k ∷ ks) (least_of k ks)
least_there k [] = contains_first k []
least_there k (j ∷ ks) = spread k j (least_of (min k j) ks) ks (least_there (min k j) ks)

least_under : (k : ℕ) (ks : List ℕ) (j : ℕ) → Contains (k ∷ ks) j → least_of k ks ≤ j
least_under k [] j (zero, lt, e) = omega arith
least_under k [] j (suc n, lt, e) = absurd (omega arith)
least_under k (i ∷ ks) j (zero, lt, e) = omega (arith, least_under (min k i) ks (min k i) (contains_first (min k i) ks))
least_under k (i ∷ ks) j (suc zero, lt, e) =
    omega (arith, least_under (min k i) ks (min k i) (contains_first (min k i) ks))
least_under k (i ∷ ks) j (suc (suc n), lt, e) = least_under (min k i) ks j (suc n, omega arith, e)

record IsLeastIn (numbers : List ℕ) (k : ℕ) : Type 0 where
  there : Contains numbers k
  under : (j : ℕ) → Contains numbers j → k ≤ j

least_some : (ns : List ℕ) (k : ℕ) → least ns ≡ Some k → IsLeastIn ns k
unfolding least
least_some [] k e = absurd cc
least_some (n ∷ ns) k e =
    let is : least_of n ns ≡ k = cc in
    record {
      there = subst (Contains (n ∷ ns)) is (least_there n ns);
      under = λ j h. omega (arith, least_under n ns j h);
    }

some_least : (ns : List ℕ) (k : ℕ) → IsLeastIn ns k → least ns ≡ Some k
unfolding least
some_least [] k h = absurd (omega (arith, h.there.1))
some_least (n ∷ ns) k h =
    let low : least_of n ns ≤ k = least_under n ns k h.there in
    let high : k ≤ least_of n ns = h.under (least_of n ns) (least_there n ns) in
    let is : least_of n ns ≡ k = omega arith in
    ap Some is

least_none : (ns : List ℕ) → least ns ≡ None → (k : ℕ) → Contains ns k → ⊥
unfolding least
least_none [] e k (n, lt, is) = absurd (omega arith)
least_none (n ∷ ns) e k h = absurd cc

none_least : (ns : List ℕ) → ((k : ℕ) → Contains ns k → ⊥) → least ns ≡ None
unfolding least
none_least [] h = refl
none_least (n ∷ ns) h = absurd (h n (contains_first n ns))

-- ---- the answer

abbrev broken : (rule offset : ℕ) → Result (List JInsn) BrokenAt
broken rule offset = Err (record { rule = rule; offset = offset })

offset_is : (r s j k : ℕ) → broken r j ≡ broken s k → j ≡ k
offset_is r s j k e =
    let same : ◌≡◌ {A = BrokenAt} (record { rule = r; offset = j }) (record { rule = s; offset = k }) = cc in
    ap (λ (b : BrokenAt). b.offset) same

rule_is : (r s j k : ℕ) → broken r j ≡ broken s k → r ≡ s
rule_is r s j k e =
    let same : ◌≡◌ {A = BrokenAt} (record { rule = r; offset = j }) (record { rule = s; offset = k }) = cc in
    ap (λ (b : BrokenAt). b.rule) same

answer_103 : (o : Option ℕ) (found : Result (List JInsn) ℕ) (k : ℕ) → unless_unfit o (unless_unsupported found)
    ≡ broken 103 k → o ≡ Some k
answer_103 (Some j) found k e = ap Some (offset_is 103 103 j k e)
answer_103 None (Ok insns) k e = absurd cc
answer_103 None (Err j) k e = absurd (omega (arith, rule_is 303 103 j k e))

answer_303 : (o : Option ℕ) (found : Result (List JInsn) ℕ) (k : ℕ) → unless_unfit o (unless_unsupported found)
    ≡ broken 303 k → (o ≡ None) × (found ≡ Err k)
answer_303 (Some j) found k e = absurd (omega (arith, rule_is 103 303 j k e))
answer_303 None (Ok insns) k e = absurd cc
answer_303 None (Err j) k e = (refl, ap Err (offset_is 303 303 j k e))

answer_ok : (o : Option ℕ) (found : Result (List JInsn) ℕ) (insns : List JInsn)
    → unless_unfit o (unless_unsupported found) ≡ Ok insns → (o ≡ None) × (found ≡ Ok insns)
answer_ok (Some j) found insns e = absurd cc
answer_ok None (Ok others) insns e = (refl, cc)
answer_ok None (Err j) insns e = absurd cc

pub first_unfit : (class : ClassTree) (method : MethodTree) (code : CodeTree) (k : ℕ) → decoding class method code
    ≡ broken 103 k → IsFirstUnfit class method code k
unfolding decoding
first_unfit class method code k e =
    let places = unfit_code class method code in
    let h = least_some places k (answer_103 (least places) (all_named class.pool (cut code.bytes).insns) k e) in
    record {
      broken = unfit_is class method code k h.there;
      least = λ j b. h.under j (is_unfit_there class method code j b);
    }

pub unfit_first : (class : ClassTree) (method : MethodTree) (code : CodeTree) (k : ℕ) → IsFirstUnfit class method code k
    → decoding class method code ≡ broken 103 k
unfolding decoding
unfit_first class method code k h =
    let places = unfit_code class method code in
    let found : least places ≡ Some k =
    some_least places k (record {
      there = is_unfit_there class method code k h.broken;
      under = λ j c. h.least j (unfit_is class method code j c);
    }) in
    rw found refl

no_unfit : (class : ClassTree) (method : MethodTree) (code : CodeTree) → least (unfit_code class method code) ≡ None
    → (k : ℕ) → IsUnfit class method code k → ⊥
no_unfit class method code e k h = least_none (unfit_code class method code) e k (is_unfit_there class method code k h)

unfit_no : (class : ClassTree) (method : MethodTree) (code : CodeTree) → ((k : ℕ) → IsUnfit class method code k → ⊥)
    → least (unfit_code class method code) ≡ None
unfit_no class method code none = none_least (unfit_code class method code) (λ k c. none k (unfit_is class method code k
    c))

-- ---- the names

-- an instruction before those that are found behind it
abbrev with_first : JInsn → Result (List JInsn) ℕ → Result (List JInsn) ℕ
with_first i found = found >>= λ insns. Ok (i ∷ insns)

abbrev unsupported : List PoolItem → Raw → Bool
unsupported pool i = is_unsupported pool i.family i.numbers

abbrev is_fine : List PoolItem → Raw → Bool
is_fine pool i = not (unsupported pool i)

all_unsupported : (pool : List PoolItem) (i : Raw) (insns : List Raw) → unsupported pool i ≡ true
    → all_named pool (i ∷ insns) ≡ Err i.at
unfolding all_named each named
all_unsupported pool i insns e = rw e refl

all_fine : (pool : List PoolItem) (i : Raw) (insns : List Raw) → unsupported pool i ≡ false → all_named pool (i ∷ insns)
    ≡ with_first (with_names pool i) (all_named pool insns)
unfolding all_named each named
all_fine pool i insns e = rw e refl

all_none : (pool : List PoolItem) → all_named pool [] ≡ Ok []
unfolding all_named each
all_none pool = refl

fine_is : (pool : List PoolItem) (i : Raw) → is_fine pool i ≡ true → unsupported pool i ≡ false
fine_is pool i e = not_true (unsupported pool i) e

is_fine_of : (pool : List PoolItem) (i : Raw) → unsupported pool i ≡ false → is_fine pool i ≡ true
is_fine_of pool i e = rw e refl

with_err : (i : JInsn) (found : Result (List JInsn) ℕ) (k : ℕ) → with_first i found ≡ Err k → found ≡ Err k
with_err i (Ok insns) k e = absurd cc
with_err i (Err j) k e = cc

with_ok : (i : JInsn) (found : Result (List JInsn) ℕ) (insns : List JInsn) → with_first i found ≡ Ok insns
    → (others : List JInsn) × (found ≡ Ok others) × (insns ≡ i ∷ others)
with_ok i (Ok others) insns e = (others, refl, cc)
with_ok i (Err j) insns e = absurd cc

more_unsupported : (pool : List PoolItem) (i : Raw) (insns : List Raw) (k : ℕ) → unsupported pool i ≡ false
    → IsFirstUnsupported pool insns k → IsFirstUnsupported pool (i ∷ insns) k
more_unsupported pool i insns k e h = record {
  before = i ∷ h.before;
  first = h.first;
  behind = h.behind;
  parts = ap (λ (rs : List Raw). i ∷ rs) h.parts;
  fine = All-cons (λ r. is_fine pool r ≡ true) i h.before (is_fine_of pool i e) h.fine;
  broken = h.broken;
  place = h.place;
}

unsupported_by : (b : Bool) (pool : List PoolItem) (i : Raw) (insns : List Raw) (k : ℕ) → (all_named pool insns ≡ Err k
    → IsFirstUnsupported pool insns k) → unsupported pool i ≡ b → all_named pool (i ∷ insns) ≡ Err k
    → IsFirstUnsupported pool (i ∷ insns) k
unsupported_by true pool i insns k from e h =
    let is : i.at ≡ k = let f = all_unsupported pool i insns e in cc in
    record {
      before = [];
      first = i;
      behind = insns;
      parts = refl;
      fine = All-nil (λ r. is_fine pool r ≡ true);
      broken = e;
      place = sym is;
    }
unsupported_by false pool i insns k from e h =
    more_unsupported pool i insns k e (from (with_err (with_names pool i) (all_named pool insns) k
    (sym (all_fine pool i insns e) ∙ h)))

first_unsupported : (pool : List PoolItem) (insns : List Raw) (k : ℕ) → all_named pool insns ≡ Err k
    → IsFirstUnsupported pool insns k
first_unsupported pool [] k h = absurd (let f = all_none pool in cc)
first_unsupported pool (i ∷ insns) k h = unsupported_by (unsupported pool i) pool i insns k (first_unsupported pool
    insns k) refl h

unsupported_first : (pool : List PoolItem) (before : List Raw) (first : Raw) (behind : List Raw)
    → AllPass (is_fine pool) before → unsupported pool first ≡ true → all_named pool (before ++ first ∷ behind)
    ≡ Err first.at
unsupported_first pool [] first behind fine broken = all_unsupported pool first behind broken
unsupported_first pool (i ∷ before) first behind fine broken =
    let e = fine_is pool i (All-head (λ r. is_fine pool r ≡ true) i before fine) in
    let rest = unsupported_first pool before first behind (All-tail (λ r. is_fine pool r ≡ true) i before fine) broken
    in
    all_fine pool i (before ++ first ∷ behind) e ∙ ap (with_first (with_names pool i)) rest

unsupported_found : (pool : List PoolItem) (insns : List Raw) (k : ℕ) → IsFirstUnsupported pool insns k
    → all_named pool insns ≡ Err k
unsupported_found pool insns k h = ap (all_named pool) h.parts
    ∙ (unsupported_first pool h.before h.first h.behind h.fine h.broken ∙ ap Err (sym h.place))

-- all are fine, and these are they with their names
record AreNamed (pool : List PoolItem) (insns : List Raw) (named : List JInsn) : Type 0 where
  fine : AllPass (is_fine pool) insns
  are : named ≡ map (with_names pool) insns

named_by : (b : Bool) (pool : List PoolItem) (i : Raw) (insns : List Raw) (named : List JInsn) → ((others : List JInsn)
    → all_named pool insns ≡ Ok others → AreNamed pool insns others) → unsupported pool i ≡ b
    → all_named pool (i ∷ insns) ≡ Ok named → AreNamed pool (i ∷ insns) named
named_by true pool i insns named from e h = absurd (let f = all_unsupported pool i insns e in cc)
named_by false pool i insns named from e h =
    let o = with_ok (with_names pool i) (all_named pool insns) named (sym (all_fine pool i insns e) ∙ h) in
    let r = from o.0 o.1 in
    record {
      fine = All-cons (λ r. is_fine pool r ≡ true) i insns (is_fine_of pool i e) r.fine;
      are = o.2 ∙ ap (λ (is : List JInsn). with_names pool i ∷ is) r.are;
    }

are_named : (pool : List PoolItem) (insns : List Raw) (named : List JInsn) → all_named pool insns ≡ Ok named
    → AreNamed pool insns named
are_named pool [] named h = record { fine = All-nil (λ r. is_fine pool r ≡ true); are = (let f = all_none pool in cc) }
are_named pool (i ∷ insns) named h = named_by (unsupported pool i) pool i insns named (are_named pool insns) refl h

named_are : (pool : List PoolItem) (insns : List Raw) → AllPass (is_fine pool) insns → all_named pool insns
    ≡ Ok (map (with_names pool) insns)
named_are pool [] fine = all_none pool
named_are pool (i ∷ insns) fine =
    let e = fine_is pool i (All-head (λ r. is_fine pool r ≡ true) i insns fine) in
    let rest = named_are pool insns (All-tail (λ r. is_fine pool r ≡ true) i insns fine) in
    all_fine pool i insns e ∙ ap (with_first (with_names pool i)) rest

-- ---- rule 303, and code that breaks neither rule

abbrev insns_in : CodeTree → List Raw
insns_in code = (cut code.bytes).insns

pub unsupported_is : (class : ClassTree) (method : MethodTree) (code : CodeTree) (k : ℕ) → decoding class method code
    ≡ broken 303 k → IsFirstUnsupportedCode class method code k
unfolding decoding
unsupported_is class method code k e =
    let a = answer_303 (least (unfit_code class method code)) (all_named class.pool (insns_in code)) k e in
    record { fit = no_unfit class method code a.0; first = first_unsupported class.pool (insns_in code) k a.1 }

pub is_unsupported_there : (class : ClassTree) (method : MethodTree) (code : CodeTree) (k : ℕ)
    → IsFirstUnsupportedCode class method code k → decoding class method code ≡ broken 303 k
unfolding decoding
is_unsupported_there class method code k h =
    let none : least (unfit_code class method code) ≡ None = unfit_no class method code h.fit in
    let found : all_named class.pool (insns_in code) ≡ Err k = unsupported_found class.pool (insns_in code) k h.first in
    rw (none, found) refl

pub decoded_is : (class : ClassTree) (method : MethodTree) (code : CodeTree) (insns : List JInsn)
    → decoding class method code ≡ Ok insns → IsDecoded class method code insns
unfolding decoding
decoded_is class method code insns e =
    let a = answer_ok (least (unfit_code class method code)) (all_named class.pool (insns_in code)) insns e in
    let n = are_named class.pool (insns_in code) insns a.1 in
    record { fit = no_unfit class method code a.0; fine = n.fine; insns_are = n.are }

pub is_decoded : (class : ClassTree) (method : MethodTree) (code : CodeTree) (insns : List JInsn)
    → IsDecoded class method code insns → decoding class method code ≡ Ok insns
unfolding decoding
is_decoded class method code insns h =
    let none : least (unfit_code class method code) ≡ None = unfit_no class method code h.fit in
    let found : all_named class.pool (insns_in code) ≡ Ok insns = named_are class.pool (insns_in code) h.fine
    ∙ ap Ok (sym h.insns_are) in
    rw (none, found) refl
