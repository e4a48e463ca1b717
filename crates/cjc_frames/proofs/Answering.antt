-- What the first rule that is found says of the rows of a table.
use Rattle.std.proofs.Common.{◌≡◌, ◌⊎◌, ◌≤◌, ◌<◌, ◌+◌, ℕ, zero, suc, Bool, true, false, cond, List, [], ◌∷◌, length}
use Rattle.std.proofs.Common.{drop, slice_get, get_or, Option, Some, None, refl, sym, ◌∙◌, ap, subst, add-zero}
use Rattle.std.proofs.Common.{zero-add, arith}
use Rattle.std.proofs.lemmas.Option.{slice_get_read, get_or_from_slice_get}
use Rattle.cjc_types.specs.declared.cell.Cell.{Cell}
use Rattle.cjc_types.specs.declared.state.Stack.{Stack}
use Rattle.cjc_types.specs.declared.state.Stack.TheVariants.{Cells, Clash}
use Rattle.cjc_types.specs.declared.state.State.{State}
use Rattle.cjc_frames.specs.declared.acts.Act.{Act}
use Rattle.cjc_frames.specs.declared.acts.Step.{Step}
use Rattle.cjc_frames.specs.declared.search.FirstBroken.{FirstBroken}
use Rattle.cjc_frames.specs.Acts.{Subtype, is_wrong, is_off, Breaks, clash, wrong, off, unknown, misnamed}
use Rattle.cjc_frames.specs.Flow.{Body}
use Rattle.cjc_frames.specs.Search.{rule_of_act, rule_of_stack, first_rule, row_rule, or_later, first_from}
use Rattle.cjc_frames.specs.Tables.{Breach, FirstBreach, IsLeastTable, IsUnbroken, IsBrokenAt}
use Rattle.cjc_fixpoint.proofs.BytesGets.{drop_at}
use Rattle.cjc_fixpoint.proofs.BytesNumbers.{is_first}

-- ---- the first rule of a state

act_breaks : (is_of : Subtype) (n : ℕ) (a : Act) (x : State) (r : ℕ) → rule_of_act a ≡ Some r → Breaks is_of n a x r
act_breaks is_of n a x r e = go a.is_unknown refl e
  where
    named : (m : Bool) → a.misnames ≡ m → cond m (Some 727) None ≡ Some r → Breaks is_of n a x r
    named true h e = let same : 727 ≡ r = cc in subst (λ (q : ℕ). Breaks is_of n a x q) same (misnamed x h)
    named false h e = absurd cc

    go : (u : Bool) → a.is_unknown ≡ u → cond u (Some 726) (cond a.misnames (Some 727) None) ≡ Some r
        → Breaks is_of n a x r
    go true h e = let same : 726 ≡ r = cc in subst (λ (q : ℕ). Breaks is_of n a x q) same (unknown x h)
    go false h e = named a.misnames refl e

pub rule_breaks : (is_of : Subtype) (n : ℕ) (a : Act) (x : State) (r : ℕ) → first_rule is_of n a x ≡ Some r
    → Breaks is_of n a x r
rule_breaks is_of n a x r e = go x.stack e
  where
    with_cells : List Cell → State
    with_cells s = record { stack = Cells s; locals = x.locals }

    is_off_rule : (s : List Cell) (is : Bool) → is_off n a x.locals s ≡ is → cond is (Some 724) (rule_of_act a)
        ≡ Some r → Breaks is_of n a (record { stack = Cells s; locals = x.locals }) r
    is_off_rule s true h e = let same : 724 ≡ r = cc in subst (λ (q : ℕ). Breaks is_of n a (record {
      stack = Cells s;
      locals = x.locals;
    }) q) same (off s x.locals h)
    is_off_rule s false h e = act_breaks is_of n a (record { stack = Cells s; locals = x.locals }) r e

    is_wrong_rule : (s : List Cell) (is : Bool) → is_wrong is_of a x.locals s ≡ is
        → cond is (Some 723) (cond (is_off n a x.locals s) (Some 724) (rule_of_act a)) ≡ Some r
        → Breaks is_of n a (record { stack = Cells s; locals = x.locals }) r
    is_wrong_rule s true h e = let same : 723 ≡ r = cc in subst (λ (q : ℕ). Breaks is_of n a (record {
      stack = Cells s;
      locals = x.locals;
    }) q) same (wrong s x.locals h)
    is_wrong_rule s false h e = is_off_rule s (is_off n a x.locals s) refl e

    go : (s : Stack) → rule_of_stack is_of n a x.locals s ≡ Some r → Breaks is_of n a (record {
      stack = s;
      locals = x.locals;
    }) r
    go Clash e = let same : 722 ≡ r = cc in subst (λ (q : ℕ). Breaks is_of n a (record {
      stack = Clash;
      locals = x.locals;
    }) q) same (clash x.locals)
    go (Cells s) e = is_wrong_rule s (is_wrong is_of a x.locals s) refl e

-- where an instruction breaks a rule whatever the state, some rule no later is the first
act_first : (is_of : Subtype) (n : ℕ) (a : Act) (locals : List Cell) (s : Stack) (p r : ℕ) → rule_of_act a ≡ Some p
    → p ≤ r → 724 ≤ r → (q : ℕ) × (rule_of_stack is_of n a locals s ≡ Some q) × (q ≤ r)
act_first is_of n a locals Clash p r is le most = (722, refl, omega (arith, most))
act_first is_of n a locals (Cells s) p r is le most = go (is_wrong is_of a locals s) (is_off n a locals s)
  where
    go : (w o : Bool) → (q : ℕ) × (cond w (Some 723) (cond o (Some 724) (rule_of_act a)) ≡ Some q) × (q ≤ r)
    go true o = (723, refl, omega (arith, most))
    go false true = (724, refl, most)
    go false false = (p, is, le)

pub breaks_first : (is_of : Subtype) (n : ℕ) (a : Act) (x : State) (r : ℕ) → Breaks is_of n a x r → (q : ℕ)
    × (first_rule is_of n a x ≡ Some q) × (q ≤ r)
breaks_first is_of n a _ _ (clash locals) = (722, refl, omega arith)
breaks_first is_of n a _ _ (wrong s locals e) =
    (723, ap (λ is. cond is (Some 723) (cond (is_off n a locals s) (Some 724) (rule_of_act a))) e, omega arith)
breaks_first is_of n a _ _ (off s locals e) = go (is_wrong is_of a locals s)
  where
    go : (is : Bool) → (q : ℕ) × (cond is (Some 723) (cond (is_off n a locals s) (Some 724) (rule_of_act a)) ≡ Some q)
        × (q ≤ 724)
    go true = (723, refl, omega arith)
    go false = (724, ap (λ is. cond is (Some 724) (rule_of_act a)) e, omega arith)
breaks_first is_of n a _ _ (unknown x h) = act_first is_of n a x.locals x.stack 726 726
    (ap (λ u. cond u (Some 726) (cond a.misnames (Some 727) None)) h) (omega arith) (omega arith)
breaks_first is_of n a _ _ (misnamed x h) = go a.is_unknown refl
  where
    go : (u : Bool) → a.is_unknown ≡ u → (q : ℕ) × (rule_of_stack is_of n a x.locals x.stack ≡ Some q) × (q ≤ 727)
    go true k = act_first is_of n a x.locals x.stack 726 727 (ap (λ v. cond v (Some 726) (cond a.misnames (Some 727)
        None)) k) (omega arith) (omega arith)
    go false k = act_first is_of n a x.locals x.stack 727 727 (ap (λ v. cond v (Some 726) (cond a.misnames (Some 727)
        None)) k ∙ ap (λ m. cond m (Some 727) None) h) (omega arith) (omega arith)

-- ---- the first place

-- the instruction at this place is reached, and this is the first rule that it breaks
pub record At (is_of : Subtype) (n : ℕ) (steps : List Step) (rows : List (Option State)) (k rule : ℕ) : Type 0 where
  pub step : Step
  pub is_step : slice_get steps k ≡ Some step
  pub state : State
  pub reached : slice_get rows k ≡ Some (Some state)
  pub fails : first_rule is_of n step.act state ≡ Some rule

here_rule : (is_of : Subtype) (n : ℕ) (step : Step) (row : Option State) (steps : List Step)
    (rows : List (Option State)) (r : ℕ) → At is_of n (step ∷ steps) (row ∷ rows) 0 r → row_rule is_of n step row
    ≡ Some r
here_rule is_of n step row steps rows r at =
    let same : step ≡ at.step = let e = at.is_step in cc in
    let is : row ≡ Some at.state = let e = at.reached in cc in
    ap (row_rule is_of n step) is ∙ ap (λ (s : Step). first_rule is_of n s.act at.state) same ∙ at.fails

later_at : (is_of : Subtype) (n : ℕ) (step : Step) (row : Option State) (steps : List Step)
    (rows : List (Option State)) (i r : ℕ) → At is_of n (step ∷ steps) (row ∷ rows) (suc i) r
    → At is_of n steps rows i r
later_at is_of n step row steps rows i r at = record {
  step = at.step;
  is_step = at.is_step;
  state = at.state;
  reached = at.reached;
  fails = at.fails;
}

at_later : (is_of : Subtype) (n : ℕ) (step : Step) (row : Option State) (steps : List Step)
    (rows : List (Option State)) (i r : ℕ) → At is_of n steps rows i r
    → At is_of n (step ∷ steps) (row ∷ rows) (suc i) r
at_later is_of n step row steps rows i r at = record {
  step = at.step;
  is_step = at.is_step;
  state = at.state;
  reached = at.reached;
  fails = at.fails;
}

pub none_at : (is_of : Subtype) (n place : ℕ) (steps : List Step) (rows : List (Option State))
    → first_from is_of n place steps rows ≡ None → (i r : ℕ) → At is_of n steps rows i r → ⊥
none_at is_of n place [] rows e i r at = let is = at.is_step in cc
none_at is_of n place (step ∷ steps) [] e i r at = let is = at.reached in cc
none_at is_of n place (step ∷ steps) (row ∷ rows) e zero r at =
    let is = here_rule is_of n step row steps rows r at in
    let found : or_later (Some r) place (first_from is_of n (place + 1) steps rows) ≡ None =
    ap (λ o. or_later o place (first_from is_of n (place + 1) steps rows)) (sym is) ∙ e in
    absurd cc
none_at is_of n place (step ∷ steps) (row ∷ rows) e (suc i) r at = none_at is_of n (place + 1) steps rows
    (go (row_rule is_of n step row) e) i r (later_at is_of n step row steps rows i r at)
  where
    go : (o : Option ℕ) → or_later o place (first_from is_of n (place + 1) steps rows) ≡ None
        → first_from is_of n (place + 1) steps rows ≡ None
    go None e = e
    go (Some q) e = absurd cc

-- the first place of what is found, and nothing before it
pub record IsFirstAt (is_of : Subtype) (n place : ℕ) (steps : List Step) (rows : List (Option State))
    (f : FirstBroken) : Type 0 where
  pub index : ℕ
  pub is_place : f.place ≡ place + index
  pub at : At is_of n steps rows index f.rule
  pub before : (j r : ℕ) → j < index → At is_of n steps rows j r → ⊥

row_state : (is_of : Subtype) (n : ℕ) (step : Step) (row : Option State) (r : ℕ) → row_rule is_of n step row ≡ Some r
    → (x : State) × (row ≡ Some x) × (first_rule is_of n step.act x ≡ Some r)
row_state is_of n step None r e = absurd cc
row_state is_of n step (Some x) r e = (x, refl, e)

before_first : (is_of : Subtype) (n place : ℕ) (step : Step) (row : Option State) (steps : List Step)
    (rows : List (Option State)) (f : FirstBroken) (found : IsFirstAt is_of n place steps rows f)
    → row_rule is_of n step row ≡ None → (j r : ℕ) → j < suc found.index
    → At is_of n (step ∷ steps) (row ∷ rows) j r → ⊥
before_first is_of n place step row steps rows f found none zero r lt at =
    let is = here_rule is_of n step row steps rows r at in cc
before_first is_of n place step row steps rows f found none (suc j) r lt at =
    found.before j r (omega arith) (later_at is_of n step row steps rows j r at)

pub some_at : (is_of : Subtype) (n place : ℕ) (steps : List Step) (rows : List (Option State)) (f : FirstBroken)
    → first_from is_of n place steps rows ≡ Some f → IsFirstAt is_of n place steps rows f
some_at is_of n place [] rows f e = absurd cc
some_at is_of n place (step ∷ steps) [] f e = absurd cc
some_at is_of n place (step ∷ steps) (row ∷ rows) f e = go (row_rule is_of n step row) refl e
    (some_at is_of n (place + 1) steps rows f)
  where
    here : (r : ℕ) → row_rule is_of n step row ≡ Some r → IsFirstAt is_of n place (step ∷ steps) (row ∷ rows)
        (record { place = place; rule = r })
    here r h =
        let x = row_state is_of n step row r h in
        record {
          index = 0;
          is_place = sym (add-zero place);
          at = record { step = step; is_step = refl; state = x.0; reached = ap Some x.1; fails = x.2 };
          before = λ j q lt at. absurd (omega arith);
        }

    go : (o : Option ℕ) → row_rule is_of n step row ≡ o
        → or_later o place (first_from is_of n (place + 1) steps rows) ≡ Some f
        → (first_from is_of n (place + 1) steps rows ≡ Some f → IsFirstAt is_of n (place + 1) steps rows f)
        → IsFirstAt is_of n place (step ∷ steps) (row ∷ rows) f
    go None h e rest =
        let found = rest e in
        let is = found.is_place in
        record {
          index = suc found.index;
          is_place = omega (arith, is);
          at = at_later is_of n step row steps rows found.index f.rule found.at;
          before = before_first is_of n (place + 1) step row steps rows f found h;
        }
    go (Some r) h e rest =
        let answer : FirstBroken = record { place = place; rule = r } in
        let same : answer ≡ f = let is : Some answer ≡ Some f = e in cc in
        subst (IsFirstAt is_of n place (step ∷ steps) (row ∷ rows)) same (here r h)

-- ---- breaches

breach_at : (is_of : Subtype) (b : Body) (rows : List (Option State)) (place rule : ℕ)
    → Breach is_of b rows place rule → (q : ℕ) × At is_of b.max_stack b.steps rows place q × (q ≤ rule)
breach_at is_of b rows place rule h =
    let first = breaks_first is_of b.max_stack h.step.act h.state rule h.breaks in (
      first.0,
      record { step = h.step; is_step = h.is_step; state = h.state; reached = h.reached; fails = first.1 },
      first.2,
    )

pub unbroken_rows : (is_of : Subtype) (b : Body) (rows : List (Option State))
    → first_from is_of b.max_stack 0 b.steps rows ≡ None → (place rule : ℕ) → Breach is_of b rows place rule → ⊥
unbroken_rows is_of b rows e place rule h = let at = breach_at is_of b rows place rule h
    in none_at is_of b.max_stack 0 b.steps rows e place at.0 at.1

-- two first rules at one place are the same
same_rule : (is_of : Subtype) (n : ℕ) (steps : List Step) (rows : List (Option State)) (k r q : ℕ)
    → At is_of n steps rows k r → At is_of n steps rows k q → r ≡ q
same_rule is_of n steps rows k r q one two =
    let step : one.step ≡ two.step = let e = one.is_step in let f = two.is_step in cc in
    let state : one.state ≡ two.state = let e = one.reached in let f = two.reached in cc in
    let fails : Some r ≡ Some q = sym one.fails ∙ ap (λ (s : Step). first_rule is_of n s.act one.state) step
    ∙ ap (first_rule is_of n two.step.act) state ∙ two.fails in
    cc

pub first_breach : (is_of : Subtype) (b : Body) (rows : List (Option State)) (f : FirstBroken)
    → first_from is_of b.max_stack 0 b.steps rows ≡ Some f → FirstBreach is_of b rows f.place f.rule
first_breach is_of b rows f e = subst (λ (k : ℕ). FirstBreach is_of b rows k f.rule) (sym (found.is_place
    ∙ zero-add found.index)) (record {
      breach = record {
        step = found.at.step;
        is_step = found.at.is_step;
        state = found.at.state;
        reached = found.at.reached;
        breaks = rule_breaks is_of b.max_stack found.at.step.act found.at.state f.rule found.at.fails;
      };
      first = first;
    })
  where
    found : IsFirstAt is_of b.max_stack 0 b.steps rows f
    found = some_at is_of b.max_stack 0 b.steps rows f e

    level : (k r : ℕ) → found.index ≡ k → Breach is_of b rows k r → f.rule ≤ r
    level k r same h =
        let other = breach_at is_of b rows k r h in
        let is = same_rule is_of b.max_stack b.steps rows found.index f.rule other.0 found.at
        (subst (λ (i : ℕ). At is_of b.max_stack b.steps rows i other.0) (sym same) other.1) in
        let le = other.2 in
        omega (arith, is, le)

    earlier : (k r : ℕ) → Breach is_of b rows k r → k < found.index → ⊥
    earlier k r h lt = let other = breach_at is_of b rows k r h in found.before k other.0 lt other.1

    first : (k r : ℕ) → Breach is_of b rows k r → (found.index < k) ⊎ ((found.index ≡ k) × (f.rule ≤ r))
    first = is_first (λ (k r : ℕ). Breach is_of b rows k r) found.index f.rule earlier level

-- ---- one place further

-- what the rest of a search finds, where this row is next
pub first_on : (is_of : Subtype) (n : ℕ) (steps : List Step) (rows : List (Option State)) (k : ℕ) (step : Step)
    (row : Option State) → slice_get steps k ≡ Some step → slice_get rows k ≡ Some row
    → first_from is_of n k (drop k steps) (drop k rows) ≡ or_later (row_rule is_of n step row) k (first_from is_of n
    (k + 1) (drop (k + 1) steps) (drop (k + 1) rows))
first_on is_of n steps rows k step row is_step is_row =
    ap (λ (ss : List Step). first_from is_of n k ss (drop k rows)) (drop_at steps k step is_step)
    ∙ ap (λ (xs : List (Option State)). first_from is_of n k (step ∷ drop (k + 1) steps) xs) (drop_at rows k row is_row)

module _ (is_of : Subtype) (b : Body) (rows : List (Option State)) (k n : ℕ) (steps : List Step) (step : Step)
    (row : Option State) (result : Option ℕ)
    (is_room : n ≡ b.max_stack) (is_steps : steps ≡ b.steps) (sized : length rows ≡ length b.steps)
    (lt : k < length steps) (is_step : step ≡ get_or steps k step) (is_row : row ≡ get_or rows k row)
    (is_result : result ≡ row_rule is_of n step row)
    (before : first_from is_of b.max_stack k (drop k b.steps) (drop k rows)
    ≡ first_from is_of b.max_stack 0 b.steps rows) where
  inside : k < length b.steps
  inside = subst (λ (ss : List Step). k < length ss) is_steps lt

  there : slice_get b.steps k ≡ Some step
  there = slice_get_read b.steps (length b.steps) k step refl inside (is_step
      ∙ ap (λ (ss : List Step). get_or ss k step) is_steps)

  reached : slice_get rows k ≡ Some row
  reached = slice_get_read rows (length rows) k row refl (let l = inside in omega (arith, l, sized)) is_row

  told : result ≡ row_rule is_of b.max_stack step row
  told = is_result ∙ ap (λ (m : ℕ). row_rule is_of m step row) is_room

  -- the rest of the search, by what is told here
  onwards : (o : Option ℕ) → result ≡ o → or_later o k (first_from is_of b.max_stack (k + 1) (drop (k + 1) b.steps)
      (drop (k + 1) rows)) ≡ first_from is_of b.max_stack 0 b.steps rows
  onwards o is =
      sym (ap (λ (o : Option ℕ). or_later o k (first_from is_of b.max_stack (k + 1) (drop (k + 1) b.steps)
      (drop (k + 1) rows))) (sym told ∙ is))
      ∙ sym (first_on is_of b.max_stack b.steps rows k step row there reached) ∙ before

  pub found_here : (rule : ℕ) → result ≡ Some rule → Some (record { place = k; rule = rule })
      ≡ first_from is_of b.max_stack 0 b.steps rows
  found_here rule is = onwards (Some rule) is

  pub found_later : result ≡ None → first_from is_of b.max_stack (k + 1) (drop (k + 1) b.steps) (drop (k + 1) rows)
      ≡ first_from is_of b.max_stack 0 b.steps rows
  found_later is = onwards None is

-- ---- the answer

-- where nothing is found, nothing is broken
pub none_broken : (is_of : Subtype) (b : Body) (rows : List (Option State)) → IsLeastTable b rows
    → first_from is_of b.max_stack 0 b.steps rows ≡ None → IsUnbroken is_of b
none_broken is_of b rows least e = record { rows = rows; least = least; unbroken = unbroken_rows is_of b rows e }

-- what is found is the first that is broken
pub one_broken : (is_of : Subtype) (b : Body) (rows : List (Option State)) (f : FirstBroken) (steps : List Step)
    (step : Step) → IsLeastTable b rows → first_from is_of b.max_stack 0 b.steps rows ≡ Some f → steps ≡ b.steps
    → IsBrokenAt is_of b (let s = get_or steps f.place step in s.at) f.rule
one_broken is_of b rows f steps step least e is_steps =
    let first = first_breach is_of b rows f e in
    record {
      rows = rows;
      least = least;
      place = f.place;
      first = first;
      is = ap (λ (s : Step). s.at) (ap (λ (ss : List Step). get_or ss f.place step) is_steps
          ∙ get_or_from_slice_get b.steps f.place first.breach.step step first.breach.is_step);
    }
