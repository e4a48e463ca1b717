-- The places that are computed are those of the rules.
use Rattle.std.proofs.Common.{◌≡◌, ℕ, zero, suc, ◌-◌, ◌⊎◌, Bool, true, false, cond, not, ◌||◌, ltb, eqb, List, [], ◌∷◌}
use Rattle.std.proofs.Common.{◌++◌, length, Option, Some, None, refl, sym, subst, arith, inl, inr}
use Rattle.std.specs.List.{Contains, flat_map}
use Rattle.std.specs.Prelude.{slice_get}
use Rattle.std.proofs.lemmas.Bool.{ltb-true, lt-ltb, eqb-true, eq-eqb, ne_eqb, eqb-false, not_from_false}
use Rattle.std.proofs.lemmas.List.Elements.{Contains-append_left, Contains-append_right, Contains-append_cases}
use Rattle.cjc_classfile.specs.declared.tree.Catch.{Catch}
use Rattle.cjc_classfile.specs.declared.tree.ClassTree.{ClassTree}
use Rattle.cjc_classfile.specs.declared.tree.MethodTree.{MethodTree}
use Rattle.cjc_classfile.specs.Code.{CodeTree}
use Rattle.cjc_code.specs.declared.raw.Raw.{Raw}
use Rattle.cjc_code.specs.Cut.{cut}
use Rattle.cjc_code.specs.Unfit.{starts, has_wrong_item, has_wrong_jump, has_wrong_local, has_wrong_values}
use Rattle.cjc_code.specs.Unfit.{has_wrong_type, is_unfit, where_true, unfit_places, stop_places, may_go_on}
use Rattle.cjc_code.specs.Unfit.{where_it_may, last_places, fall_places, arguments, argument_places, catch_places}
use Rattle.cjc_code.specs.Unfit.{unfit_code}
use Rattle.cjc_code.specs.Rules.{IsUnfit, starts_at, stopped, wrong_item, wrong_jump, wrong_local, wrong_values}
use Rattle.cjc_code.specs.Rules.{wrong_type, falls, too_many, wrong_start, wrong_end, wrong_target}
use Rattle.cjc_bytes.proofs.Bools.{or_true, not_true}
use Rattle.cjc_bytes.proofs.Quantified.{contains_later}

-- ---- what is in a list

pub contains_first : {X : Type 0} (x : X) (xs : List X) → Contains (x ∷ xs) x
contains_first x xs = (0, omega arith, refl)

contains_flat : {X : Type 0} (f : X → List ℕ) (xs : List X) (k : ℕ) → Contains (flat_map f xs) k → (x : X)
    × Contains xs x × Contains (f x) k
contains_flat f [] k (n, lt, e) = absurd (omega arith)
contains_flat f (x ∷ xs) k h = elim (Contains-append_cases (f x) (flat_map f xs) k h) [
  | inl here ↦ (x, contains_first x xs, here)
  | inr later ↦ (let r = contains_flat f xs k later in (r.0, contains_later x r.0 xs r.1, r.2))
]

flat_contains : {X : Type 0} (f : X → List ℕ) (xs : List X) (x : X) (k : ℕ) → Contains xs x → Contains (f x) k
    → Contains (flat_map f xs) k
flat_contains f [] x k (n, lt, e) h = absurd (omega arith)
flat_contains f (y ∷ xs) x k (zero, lt, e) h = Contains-append_left (f y) (flat_map f xs) k
    (subst (λ z. Contains (f z) k) (sym e) h)
flat_contains f (y ∷ xs) x k (suc n, lt, e) h = Contains-append_right (f y) (flat_map f xs) k (flat_contains f xs x k
    (n, omega arith, e) h)

-- ---- tests

neither : (a b : Bool) → not (a || b) ≡ true → (a ≡ false) × (b ≡ false)
neither true b e = absurd cc
neither false b e = (refl, not_true b e)

in_where : (b : Bool) (place k : ℕ) → Contains (where_true b place) k → (b ≡ true) × (k ≡ place)
in_where true place k (zero, lt, e) = (refl, sym e)
in_where true place k (suc n, lt, e) = absurd (omega arith)
in_where false place k (n, lt, e) = absurd (omega arith)

where_in : (b : Bool) (place : ℕ) → b ≡ true → Contains (where_true b place) place
where_in b place e = rw e (contains_first place [])

in_cond : (b : Bool) (xs : List ℕ) (k : ℕ) → Contains (cond b xs []) k → (b ≡ true) × Contains xs k
in_cond true xs k h = (refl, h)
in_cond false xs k (n, lt, e) = absurd (omega arith)

in_last : (o : Option Raw) (k : ℕ) → Contains (where_it_may o) k → (i : Raw) × (o ≡ Some i)
    × (may_go_on i.family ≡ true) × (k ≡ i.at)
in_last (Some i) k h = let w = in_where (may_go_on i.family) i.at k h in (i, refl, w.0, w.1)
in_last None k (n, lt, e) = absurd (omega arith)

-- ---- rule 103

record Parts (A B C D E : List ℕ) (k : ℕ) : Type 0 where
  is : Contains A k ⊎ (Contains B k ⊎ (Contains C k ⊎ (Contains D k ⊎ Contains E k)))

parted : (A B C D E : List ℕ) (k : ℕ) → Contains ((((A ++ B) ++ C) ++ D) ++ E) k → Parts A B C D E k
parted A B C D E k h = elim (Contains-append_cases (((A ++ B) ++ C) ++ D) E k h) [
  | inr e ↦ record { is = inr (inr (inr (inr e))) }
  | inl abcd ↦ elim (Contains-append_cases ((A ++ B) ++ C) D k abcd) [
    | inr d ↦ record { is = inr (inr (inr (inl d))) }
    | inl abc ↦ elim (Contains-append_cases (A ++ B) C k abc) [
      | inr c ↦ record { is = inr (inr (inl c)) }
      | inl ab ↦ elim (Contains-append_cases A B k ab) [
        | inr b ↦ record { is = inr (inl b) }
        | inl a ↦ record { is = inl a }
      ]
    ]
  ]
]

joined : (A B C D E : List ℕ) (k : ℕ) → Parts A B C D E k → Contains ((((A ++ B) ++ C) ++ D) ++ E) k
joined A B C D E k p = elim p.is [
  | inl a ↦ Contains-append_left (((A ++ B) ++ C) ++ D) E k (Contains-append_left ((A ++ B)
      ++ C) D k (Contains-append_left (A ++ B) C k (Contains-append_left A B k a)))
  | inr (inl b) ↦ Contains-append_left (((A ++ B) ++ C) ++ D) E k (Contains-append_left ((A ++ B)
      ++ C) D k (Contains-append_left (A ++ B) C k (Contains-append_right A B k b)))
  | inr (inr (inl c)) ↦ Contains-append_left (((A ++ B) ++ C) ++ D) E k (Contains-append_left ((A ++ B)
      ++ C) D k (Contains-append_right (A ++ B) C k c))
  | inr (inr (inr (inl d))) ↦ Contains-append_left (((A ++ B) ++ C) ++ D) E k (Contains-append_right ((A ++ B)
      ++ C) D k d)
  | inr (inr (inr (inr e))) ↦ Contains-append_right (((A ++ B) ++ C) ++ D) E k e
]

-- one of the five tests of an instruction
five : (a b c d e : Bool) → (a || b || c || d || e) ≡ true → (a ≡ true)
    ⊎ ((b ≡ true) ⊎ ((c ≡ true) ⊎ ((d ≡ true) ⊎ (e ≡ true))))
five true b c d e h = inl refl
five false true c d e h = inr (inl refl)
five false false true d e h = inr (inr (inl refl))
five false false false true e h = inr (inr (inr (inl refl)))
five false false false false e h = inr (inr (inr (inr h)))

unfit_insn : (class : ClassTree) (method : MethodTree) (code : CodeTree) (i : Raw) → Contains (cut code.bytes).insns i
    → is_unfit class.major class.pool code.max_locals (starts (cut code.bytes) (length code.bytes)) i ≡ true
    → IsUnfit class method code i.at
unfit_insn class method code i there e =
    let marks = starts (cut code.bytes) (length code.bytes) in
    elim (five (has_wrong_item class.major class.pool i) (has_wrong_jump marks i) (has_wrong_local code.max_locals i)
    (has_wrong_values i.family i.numbers) (has_wrong_type i.family i.numbers) e) [
      | inl h ↦ wrong_item i there h
      | inr (inl h) ↦ wrong_jump i there h
      | inr (inr (inl h)) ↦ wrong_local i there h
      | inr (inr (inr (inl h))) ↦ wrong_values i there h
      | inr (inr (inr (inr h))) ↦ wrong_type i there h
    ]

unfit_catch : (class : ClassTree) (method : MethodTree) (code : CodeTree) (c : Catch) (k : ℕ) → Contains code.catches c
    → Contains (catch_places (starts (cut code.bytes) (length code.bytes)) (length code.bytes) c) k
    → IsUnfit class method code k
unfit_catch class method code c k there h =
    let size = length code.bytes in
    let start = starts_at code c.start in
    let end = starts_at code c.end in
    let target = starts_at code c.target in
    let A = where_true (not start) c.start in
    let B = where_true (not (end || eqb c.end size)) c.end in
    let C = where_true (not target) c.target in
    elim (Contains-append_cases (A ++ B) C k h) [
      | inr t ↦ (let w = in_where (not target) c.target k t in subst (λ n. IsUnfit class method code n) (sym w.1)
          (wrong_target c there (not_true target w.0)))
      | inl ab ↦ elim (Contains-append_cases A B k ab) [
        | inl a ↦ (let w = in_where (not start) c.start k a in subst (λ n. IsUnfit class method code n) (sym w.1)
            (wrong_start c there (not_true start w.0)))
        | inr b ↦ (
            let w = in_where (not (end || eqb c.end size)) c.end k b in
            let n = neither end (eqb c.end size) w.0 in
            subst (λ n. IsUnfit class method code n) (sym w.1) (wrong_end c there n.0 (eqb-false c.end size n.1)))
      ]
    ]

pub unfit_is : (class : ClassTree) (method : MethodTree) (code : CodeTree) (k : ℕ)
    → Contains (unfit_code class method code) k → IsUnfit class method code k
unfolding unfit_code
unfit_is class method code k h =
    let c = cut code.bytes in
    let size = length code.bytes in
    let marks = starts c size in
    let A = unfit_places class.major class.pool code.max_locals marks c.insns in
    let B = stop_places c.stop size in
    let C = fall_places c size in
    let D = argument_places method code.max_locals in
    let E = flat_map (catch_places marks size) code.catches in
    elim (parted A B C D E k h).is [
      | inl a ↦ (
          let r = contains_flat (λ (i : Raw). where_true (is_unfit class.major class.pool code.max_locals marks i) i.at)
          c.insns k a in
          let w = in_where (is_unfit class.major class.pool code.max_locals marks r.0) r.0.at k r.2 in
          subst (λ n. IsUnfit class method code n) (sym w.1) (unfit_insn class method code r.0 r.1 w.0))
      | inr (inl b) ↦ (let w = in_where (ltb c.stop size) c.stop k b in subst (λ n. IsUnfit class method code n)
          (sym w.1) (stopped (ltb-true c.stop size w.0)))
      | inr (inr (inl f)) ↦ (
          let w = in_cond (eqb c.stop size) (last_places c.insns) k f in
          let l = in_last (slice_get c.insns (length c.insns - 1)) k w.1 in
          subst (λ n. IsUnfit class method code n) (sym l.3) (falls l.0 (eqb-true c.stop size w.0) l.1 l.2))
      | inr (inr (inr (inl d))) ↦ (let w = in_where (ltb code.max_locals (arguments method)) 0 k d
          in subst (λ n. IsUnfit class method code n) (sym w.1) (too_many (ltb-true code.max_locals (arguments method)
          w.0)))
      | inr (inr (inr (inr e))) ↦ (let r = contains_flat (catch_places marks size) code.catches k e
          in unfit_catch class method code r.0 k r.1 r.2)
    ]

-- ---- and the other way

abbrev Five : (class : ClassTree) (method : MethodTree) (code : CodeTree) → ℕ → Type 0
Five class method code k =
    let c = cut code.bytes in
    let size = length code.bytes in
    let marks = starts c size in
    Parts (unfit_places class.major class.pool code.max_locals marks c.insns) (stop_places c.stop size)
    (fall_places c size) (argument_places method code.max_locals) (flat_map (catch_places marks size) code.catches)
    k

of_insn : (class : ClassTree) (method : MethodTree) (code : CodeTree) (i : Raw) → Contains (cut code.bytes).insns i
    → is_unfit class.major class.pool code.max_locals (starts (cut code.bytes) (length code.bytes)) i ≡ true
    → Five class method code i.at
of_insn class method code i there e =
    let marks = starts (cut code.bytes) (length code.bytes) in
    record {
      is = inl (flat_contains (λ (i : Raw). where_true (is_unfit class.major class.pool code.max_locals marks i)
          i.at) (cut code.bytes).insns i i.at there (where_in (is_unfit class.major class.pool code.max_locals marks i)
          i.at e));
    }

of_catch : (class : ClassTree) (method : MethodTree) (code : CodeTree) (c : Catch) (k : ℕ) → Contains code.catches c
    → Contains (catch_places (starts (cut code.bytes) (length code.bytes)) (length code.bytes) c) k
    → Five class method code k
of_catch class method code c k there h =
    record {
      is = inr
          (inr (inr (inr (flat_contains (catch_places (starts (cut code.bytes) (length code.bytes)) (length code.bytes))
          code.catches c k there h))));
    }

-- a handler's three places
abbrev start_of : CodeTree → Catch → List ℕ
start_of code c = where_true (not (starts_at code c.start)) c.start

abbrev end_of : CodeTree → Catch → List ℕ
end_of code c = where_true (not (starts_at code c.end || eqb c.end (length code.bytes))) c.end

abbrev target_of : CodeTree → Catch → List ℕ
target_of code c = where_true (not (starts_at code c.target)) c.target

five_of : (class : ClassTree) (method : MethodTree) (code : CodeTree) (k : ℕ) → IsUnfit class method code k
    → Five class method code k
five_of class method code k (stopped lt) =
    record {
      is = inr (inl (where_in (ltb (cut code.bytes).stop (length code.bytes)) (cut code.bytes).stop
          (lt-ltb _ _ lt)));
    }
five_of class method code k (wrong_item i there h) = of_insn class method code i there (rw h refl)
five_of class method code k (wrong_jump i there h) =
    of_insn class method code i there (rw h (simp or_true))
five_of class method code k (wrong_local i there h) = of_insn class method code i there (rw h (simp or_true))
five_of class method code k (wrong_values i there h) = of_insn class method code i there (rw h (simp or_true))
five_of class method code k (wrong_type i there h) = of_insn class method code i there (rw h (simp or_true))
five_of class method code k (falls i whole last h) =
    let place : Contains (where_it_may (Some i)) i.at = where_in (may_go_on i.family) i.at h in
    let there : Contains (last_places (cut code.bytes).insns) i.at =
    subst (λ (o : Option Raw). Contains (where_it_may o) i.at) (sym last) place in
    record { is = inr (inr (inl (rw (eq-eqb (cut code.bytes).stop (length code.bytes) whole) there))) }
five_of class method code k (too_many lt) =
    record { is = inr (inr (inr (inl (where_in (ltb code.max_locals (arguments method)) 0 (lt-ltb _ _ lt))))) }
five_of class method code k (wrong_start c there h) =
    of_catch class method code c c.start there (Contains-append_left (start_of code c ++ end_of code c)
    (target_of code c) c.start
    (Contains-append_left (start_of code c) (end_of code c) c.start (where_in (not (starts_at code c.start)) c.start
    (not_from_false _ h))))
five_of class method code k (wrong_end c there h ne) =
    let off : (starts_at code c.end || eqb c.end (length code.bytes)) ≡ false =
    rw (h, ne_eqb c.end (length code.bytes) ne) refl in
    of_catch class method code c c.end there (Contains-append_left (start_of code c ++ end_of code c) (target_of code c)
    c.end
    (Contains-append_right (start_of code c) (end_of code c) c.end (where_in (not (starts_at code c.end
    || eqb c.end (length code.bytes))) c.end (not_from_false _ off))))
five_of class method code k (wrong_target c there h) =
    of_catch class method code c c.target there (Contains-append_right (start_of code c ++ end_of code c)
    (target_of code c) c.target (where_in (not (starts_at code c.target)) c.target (not_from_false _ h)))

pub is_unfit_there : (class : ClassTree) (method : MethodTree) (code : CodeTree) (k : ℕ) → IsUnfit class method code k
    → Contains (unfit_code class method code) k
unfolding unfit_code
is_unfit_there class method code k h =
    let c = cut code.bytes in
    let size = length code.bytes in
    let marks = starts c size in
    joined (unfit_places class.major class.pool code.max_locals marks c.insns) (stop_places c.stop size)
    (fall_places c size) (argument_places method code.max_locals) (flat_map (catch_places marks size) code.catches)
    k (five_of class method code k h)
