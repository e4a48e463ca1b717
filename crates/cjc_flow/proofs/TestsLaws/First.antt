-- The first place at which a tested rule is broken.
use Rattle.std.proofs.Common.{◌≡◌, ◌⊎◌, ◌≤◌, ◌<◌, ◌+◌, ℕ, zero, suc, List, [], ◌∷◌, drop, slice_get, Option, Some, None}
use Rattle.std.proofs.Common.{refl, sym, ◌∙◌, ap, subst, add-zero, zero-add, arith, ℤ, true}
use Rattle.cjc_fixpoint.specs.Bytes.declared.fault.MemberId.{MemberId}
use Rattle.cjc_types.specs.Bytecode.declared.insn.JInsn.{JInsn}
use Rattle.cjc_types.specs.declared.state.State.{State}
use Rattle.cjc_types.specs.declared.table.TypeTable.{TypeTable}
use Rattle.cjc_types.specs.Flow.{Body}
use Rattle.cjc_types.specs.Search.{cells_of}
use Rattle.cjc_types.specs.Tables.{rows_of}
use Rattle.cjc_intervals.specs.Frames.{RangeState, spans_of}
use Rattle.cjc_intervals.specs.Tables.{Breach, Passes}
use Rattle.cjc_intervals.specs.Tables as all
use Rattle.cjc_flow.specs.Tables.{ranges_of}
use Rattle.cjc_flow.specs.declared.tests.passing.Found.{Found}
use Rattle.cjc_flow.specs.declared.tests.passing.Tested.{Tested}
use Rattle.cjc_flow.specs.declared.tests.passing.Tested.TheVariants as tests
use Rattle.cjc_fixpoint.specs.Bytes.declared.breaks.BrokenAt.{BrokenAt}
use Rattle.cjc_flow.specs.Tests.Answers as answers
use Rattle.cjc_flow.specs.Tests.Breaches.{IsFound, NoBreach, FirstBreach, is_tested}
use Rattle.cjc_flow.specs.Tests.Working.Search.{lowest_rule, row_rule, or_later, first_from}
use Rattle.cjc_flow.proofs.TestsLaws.Lowest.{IsLowest, Broken, lowest_of}
use Rattle.cjc_fixpoint.proofs.BytesGets.{drop_at}
use Rattle.cjc_fixpoint.proofs.BytesNumbers.{is_first}

module _ (which : Tested) (b : Body) where
  -- the lowest rule that is broken at this place
  record At (insns : List JInsn) (types : List (Option State)) (ranges : List (Option RangeState)) (k rule : ℕ) :
      Type 0 where
    insn : JInsn
    is_insn : slice_get insns k ≡ Some insn
    typed : State
    has_types : slice_get types k ≡ Some (Some typed)
    ranged : RangeState
    has_ranges : slice_get ranges k ≡ Some (Some ranged)
    fails : lowest_rule which b insn.op (cells_of typed.stack) (spans_of ranged.stack) ≡ Some rule

  here_rule : (insn : JInsn) (t : Option State) (x : Option RangeState) (insns : List JInsn)
      (types : List (Option State)) (ranges : List (Option RangeState)) (r : ℕ)
      → At (insn ∷ insns) (t ∷ types) (x ∷ ranges) 0 r → row_rule which b insn t x ≡ Some r
  here_rule insn t x insns types ranges r at =
      let same : insn ≡ at.insn = let e = at.is_insn in cc in
      let is_t : t ≡ Some at.typed = let e = at.has_types in cc in
      let is_x : x ≡ Some at.ranged = let e = at.has_ranges in cc in
      ap (λ (i : JInsn). row_rule which b i t x) same ∙ ap (λ (o : Option State). row_rule which b at.insn o x) is_t
      ∙ ap (row_rule which b at.insn (Some at.typed)) is_x ∙ at.fails

  later_at : (insn : JInsn) (t : Option State) (x : Option RangeState) (insns : List JInsn)
      (types : List (Option State)) (ranges : List (Option RangeState)) (i r : ℕ)
      → At (insn ∷ insns) (t ∷ types) (x ∷ ranges) (suc i) r → At insns types ranges i r
  later_at insn t x insns types ranges i r at = record {
    insn = at.insn;
    is_insn = at.is_insn;
    typed = at.typed;
    has_types = at.has_types;
    ranged = at.ranged;
    has_ranges = at.has_ranges;
    fails = at.fails;
  }

  at_later : (insn : JInsn) (t : Option State) (x : Option RangeState) (insns : List JInsn)
      (types : List (Option State)) (ranges : List (Option RangeState)) (i r : ℕ) → At insns types ranges i r
      → At (insn ∷ insns) (t ∷ types) (x ∷ ranges) (suc i) r
  at_later insn t x insns types ranges i r at = record {
    insn = at.insn;
    is_insn = at.is_insn;
    typed = at.typed;
    has_types = at.has_types;
    ranged = at.ranged;
    has_ranges = at.has_ranges;
    fails = at.fails;
  }

  none_at : (place : ℕ) (insns : List JInsn) (types : List (Option State)) (ranges : List (Option RangeState))
      → first_from which b place insns types ranges ≡ None → (i r : ℕ) → At insns types ranges i r → ⊥
  none_at place [] types ranges e i r at = let is = at.is_insn in cc
  none_at place (insn ∷ insns) [] ranges e i r at = let is = at.has_types in cc
  none_at place (insn ∷ insns) (t ∷ types) [] e i r at = let is = at.has_ranges in cc
  none_at place (insn ∷ insns) (t ∷ types) (x ∷ ranges) e zero r at =
      let is = here_rule insn t x insns types ranges r at in
      let found : or_later (Some r) place (first_from which b (place + 1) insns types ranges) ≡ None =
      ap (λ o. or_later o place (first_from which b (place + 1) insns types ranges)) (sym is) ∙ e in
      absurd cc
  none_at place (insn ∷ insns) (t ∷ types) (x ∷ ranges) e (suc i) r at = none_at (place + 1) insns types ranges
      (go (row_rule which b insn t x) e) i r (later_at insn t x insns types ranges i r at)
    where
      go : (o : Option ℕ) → or_later o place (first_from which b (place + 1) insns types ranges) ≡ None
          → first_from which b (place + 1) insns types ranges ≡ None
      go None e = e
      go (Some q) e = absurd cc

  -- the first place of what is found, and nothing before it
  record IsFirstAt (place : ℕ) (insns : List JInsn) (types : List (Option State)) (ranges : List (Option RangeState))
      (f : Found) : Type 0 where
    index : ℕ
    is_place : f.place ≡ place + index
    at : At insns types ranges index f.rule
    before : (j r : ℕ) → j < index → At insns types ranges j r → ⊥

  row_at : (insn : JInsn) (t : Option State) (x : Option RangeState) (insns : List JInsn) (types : List (Option State))
      (ranges : List (Option RangeState)) (r : ℕ) → row_rule which b insn t x ≡ Some r
      → At (insn ∷ insns) (t ∷ types) (x ∷ ranges) 0 r
  row_at insn None x insns types ranges r e = absurd cc
  row_at insn (Some t) None insns types ranges r e = absurd cc
  row_at insn (Some t) (Some x) insns types ranges r e = record {
    insn = insn;
    is_insn = refl;
    typed = t;
    has_types = refl;
    ranged = x;
    has_ranges = refl;
    fails = e;
  }

  before_first : (place : ℕ) (insn : JInsn) (t : Option State) (x : Option RangeState) (insns : List JInsn)
      (types : List (Option State)) (ranges : List (Option RangeState)) (f : Found) (found : IsFirstAt place insns types
      ranges f) → row_rule which b insn t x ≡ None → (j r : ℕ) → j < suc found.index
      → At (insn ∷ insns) (t ∷ types) (x ∷ ranges) j r → ⊥
  before_first place insn t x insns types ranges f found none zero r lt at = let is =
      here_rule insn t x insns types ranges r at in cc
  before_first place insn t x insns types ranges f found none (suc j) r lt at = found.before j r (omega (arith, lt))
      (later_at insn t x insns types ranges j r at)

  some_at : (place : ℕ) (insns : List JInsn) (types : List (Option State)) (ranges : List (Option RangeState))
      (f : Found) → first_from which b place insns types ranges ≡ Some f → IsFirstAt place insns types ranges f
  some_at place [] types ranges f e = absurd cc
  some_at place (insn ∷ insns) [] ranges f e = absurd cc
  some_at place (insn ∷ insns) (t ∷ types) [] f e = absurd cc
  some_at place (insn ∷ insns) (t ∷ types) (x ∷ ranges) f e = go (row_rule which b insn t x) refl e (some_at
      (place + 1) insns
      types ranges f)
    where
      here : (r : ℕ) → row_rule which b insn t x ≡ Some r → IsFirstAt place (insn ∷ insns) (t ∷ types) (x ∷ ranges)
          (record { place = place; rule = r })
      here r h = record {
        index = 0;
        is_place = sym (add-zero place);
        at = row_at insn t x insns types ranges r h;
        before = λ j q lt at. absurd (omega (arith, lt));
      }

      go : (o : Option ℕ) → row_rule which b insn t x ≡ o → or_later o place (first_from which b
          (place + 1) insns types ranges)
          ≡ Some f
          → (first_from which b (place + 1) insns types ranges ≡ Some f → IsFirstAt (place + 1) insns types ranges f)
          → IsFirstAt place (insn ∷ insns) (t ∷ types) (x ∷ ranges) f
      go None h e rest =
          let found = rest e in
          let is = found.is_place in
          record {
            index = suc found.index;
            is_place = omega (arith, is);
            at = at_later insn t x insns types ranges found.index f.rule found.at;
            before = before_first (place + 1) insn t x insns types ranges f found h;
          }
      go (Some r) h e rest =
          let answer : Found = record { place = place; rule = r } in
          let same : answer ≡ f = let is : Some answer ≡ Some f = e in cc in
          subst (IsFirstAt place (insn ∷ insns) (t ∷ types) (x ∷ ranges)) same (here r h)

  -- ---- breaches

  module _ (types : List (Option State)) (ranges : List (Option RangeState)) where
    some_of : (P : ℕ → Type 0) (o : Option ℕ) (r : ℕ) → IsLowest P o → P r → (q : ℕ) × (o ≡ Some q) × (q ≤ r)
    some_of P None r h p = absurd (h r p)
    some_of P (Some q) r h p = (q, refl, h.1 r p)

    holds_of : (P : ℕ → Type 0) (o : Option ℕ) (r : ℕ) → IsLowest P o → o ≡ Some r → P r
    holds_of P None r h e = absurd cc
    holds_of P (Some q) r h e = let same : q ≡ r = cc in subst P same h.0

    breach_at : (place rule : ℕ) → is_tested which rule ≡ true → Breach b types ranges place rule
        → (q : ℕ) × At b.insns types ranges place q
        × (q ≤ rule)
    breach_at place rule holds h =
        let low = some_of (λ r. (is_tested which r ≡ true) × Broken b (cells_of h.typed.stack)
        (spans_of h.ranged.stack) h.insn.op r) _ rule
        (lowest_of b (cells_of h.typed.stack) (spans_of h.ranged.stack) which h.insn.op) (
          holds,
          (
            h.k,
            h.bound,
            h.bounds,
            h.outside,
          ),
        ) in (
          low.0,
          record {
            insn = h.insn;
            is_insn = h.is_insn;
            typed = h.typed;
            has_types = h.has_types;
            ranged = h.ranged;
            has_ranges = h.has_ranges;
            fails = low.1;
          },
          low.2,
        )

    at_breach : (place rule : ℕ) → At b.insns types ranges place rule → (is_tested which rule ≡ true)
        × Breach b types ranges place rule
    at_breach place rule at =
        let broken = holds_of (λ r. (is_tested which r ≡ true) × Broken b (cells_of at.typed.stack)
        (spans_of at.ranged.stack) at.insn.op r) _ rule
        (lowest_of b (cells_of at.typed.stack) (spans_of at.ranged.stack) which at.insn.op) at.fails in
        let is = broken.1 in (
          broken.0,
          record {
            insn = at.insn;
            is_insn = at.is_insn;
            typed = at.typed;
            has_types = at.has_types;
            ranged = at.ranged;
            has_ranges = at.has_ranges;
            k = is.0;
            bound = is.1;
            bounds = is.2;
            outside = is.3;
          },
        )

    pub nothing_broken : first_from which b 0 b.insns types ranges ≡ None → NoBreach (is_tested which) b types ranges
    nothing_broken e place rule holds h = let at = breach_at place rule holds h in none_at 0 b.insns types ranges e
        place at.0 at.1

    same_rule : (k r q : ℕ) → At b.insns types ranges k r → At b.insns types ranges k q → r ≡ q
    same_rule k r q one two =
        let insn : one.insn ≡ two.insn = let e = one.is_insn in let f = two.is_insn in cc in
        let typed : one.typed ≡ two.typed = let e = one.has_types in let f = two.has_types in cc in
        let ranged : one.ranged ≡ two.ranged = let e = one.has_ranges in let f = two.has_ranges in cc in
        let fails : Some r ≡ Some q =
        sym one.fails ∙ ap (λ (i : JInsn). lowest_rule which b i.op (cells_of one.typed.stack)
        (spans_of one.ranged.stack))
        insn
        ∙ ap (λ (t : State). lowest_rule which b two.insn.op (cells_of t.stack) (spans_of one.ranged.stack)) typed
        ∙ ap (λ (x : RangeState). lowest_rule which b two.insn.op (cells_of two.typed.stack) (spans_of x.stack)) ranged
        ∙ two.fails in
        cc

    pub first_broken : (f : Found) → first_from which b 0 b.insns types ranges ≡ Some f
        → FirstBreach (is_tested which) b types ranges f.place f.rule
    first_broken f e = subst (λ (k : ℕ). FirstBreach (is_tested which) b types ranges k f.rule) (sym (found.is_place
        ∙ zero-add found.index)) (record {
          is_wanted = here.0;
          breach = here.1;
          first = λ k r holds h. first k r (holds, h);
        })
      where
        found : IsFirstAt 0 b.insns types ranges f
        found = some_at 0 b.insns types ranges f e

        here : (is_tested which f.rule ≡ true) × Breach b types ranges found.index f.rule
        here = at_breach found.index f.rule found.at

        level : (k r : ℕ) → found.index ≡ k → (is_tested which r ≡ true) × Breach b types ranges k r → f.rule ≤ r
        level k r same h =
            let other = breach_at k r h.0 h.1 in
            let is = same_rule found.index f.rule other.0 found.at (subst (λ (n : ℕ). At b.insns types ranges n other.0)
            (sym same) other.1) in
            let le = other.2 in
            omega (arith, is, le)

        earlier : (k r : ℕ) → (is_tested which r ≡ true) × Breach b types ranges k r → k < found.index → ⊥
        earlier k r h lt = let other = breach_at k r h.0 h.1 in found.before k other.0 lt other.1

        first : (k r : ℕ) → (is_tested which r ≡ true) × Breach b types ranges k r → (found.index < k)
            ⊎ ((found.index ≡ k) × (f.rule ≤ r))
        first = is_first (λ (k r : ℕ). (is_tested which r ≡ true) × Breach b types ranges k r) found.index f.rule
            earlier level

-- ---- the loop

module _ (which : Tested) (b : Body) (insns : List JInsn) (types : List (Option State)) (ranges : List
    (Option RangeState)) (k : ℕ)
    (insn : JInsn) (t : Option State) (x : Option RangeState) (is : slice_get insns k ≡ Some insn)
    (is_t : slice_get types k ≡ Some t) (is_x : slice_get ranges k ≡ Some x) (total : Option Found)
    (so_far : first_from which b k (drop k insns) (drop k types) (drop k ranges) ≡ total) where
  opened : or_later (row_rule which b insn t x) k (first_from which b (k + 1) (drop (k + 1) insns) (drop (k + 1) types)
      (drop (k + 1) ranges)) ≡ total
  opened =
      sym (ap (λ (is : List JInsn). first_from which b k is (drop k types) (drop k ranges)) (drop_at insns k insn is)
      ∙ ap (λ (ts : List (Option State)). first_from which b k (insn ∷ drop (k + 1) insns) ts (drop k ranges))
      (drop_at types k t is_t)
      ∙ ap (λ (xs : List (Option RangeState)). first_from which b k (insn ∷ drop (k + 1) insns) (t ∷ drop
      (k + 1) types) xs)
      (drop_at ranges k x is_x))
      ∙ so_far

  pub found_later : row_rule which b insn t x ≡ None → first_from which b (k + 1) (drop (k + 1) insns) (drop
      (k + 1) types)
      (drop (k + 1) ranges) ≡ total
  found_later none =
      sym (ap (λ o. or_later o k (first_from which b (k + 1) (drop (k + 1) insns) (drop (k + 1) types)
      (drop (k + 1) ranges)))
      none) ∙ opened

  pub found_here : (r : ℕ) → row_rule which b insn t x ≡ Some r → Some (record { place = k; rule = r }) ≡ total
  found_here r some =
      sym (ap (λ o. or_later o k (first_from which b (k + 1) (drop (k + 1) insns) (drop (k + 1) types)
      (drop (k + 1) ranges)))
      some) ∙ opened

-- what is found of the method that the code names
pub found_same : (which : Tested) (table : TypeTable) (constant : MemberId
    → Option ℤ) (marks : List ℕ) (rows : List (Option RangeState))
    (b method body : Body) (typed : List (Option State)) (insns : List JInsn) (found : Option Found) → method ≡ b
    → body ≡ b → typed ≡ rows_of b table → insns ≡ b.insns
    → found ≡ first_from which method 0 insns (rows_of method table) (ranges_of body constant typed marks rows)
    → found ≡ first_from which b 0 b.insns (rows_of b table) (ranges_of b constant (rows_of b table) marks rows)
found_same which table constant marks rows b method body typed insns found is_method is_body is_typed is_insns is =
    is
    ∙ ap (λ (n : Body). first_from which n 0 insns (rows_of n table)
    (ranges_of body constant typed marks rows)) is_method
    ∙ ap (λ (js : List JInsn). first_from which b 0 js (rows_of b table)
    (ranges_of body constant typed marks rows)) is_insns
    ∙ ap (λ (n : Body). first_from which b 0 b.insns (rows_of b table) (ranges_of n constant typed marks rows)) is_body
    ∙ ap (λ (ts : List (Option State)). first_from which b 0 b.insns (rows_of b table)
    (ranges_of b constant ts marks rows))
    is_typed

-- ---- all rules

module _ (b : Body) (types : List (Option State)) (ranges : List (Option RangeState)) where
  -- What is found of all rules is what the definition says of them.
  pub all_pass : NoBreach (is_tested tests.All) b types ranges → Passes b types ranges
  all_pass none place rule h = none place rule refl h

  pub first_of_all : (place rule : ℕ) → FirstBreach (is_tested tests.All) b types ranges place rule
      → all.FirstBreach b types ranges place rule
  first_of_all place rule h = record { breach = h.breach; first = λ k r at. h.first k r refl at }

  pub found_all : (o : Option BrokenAt) → IsFound (is_tested tests.All) b types ranges o
      → answers.IsFound b types ranges o
  unfolding first_of_all
  found_all None h = all_pass h
  found_all (Some broken) h = record {
    place = h.place;
    first = first_of_all h.place broken.rule h.first;
    is = h.is;
  }
