-- Rows that are reached break no rule, and where an instruction leads there is one, with a row above what is handed on.
use Rattle.std.proofs.Common.{◌≡◌, ◌<◌, ◌+◌, inl, inr, ℕ, zero, suc, Bool, true, false, nat_lt, List, []}
use Rattle.std.proofs.Common.{◌∷◌, ◌++◌, length, map, slice_get, Option, Some, None, refl, sym, ap, subst, ◌∙◌, arith}
use Rattle.std.proofs.Common.{option_map, filter_map, ◌⊎◌}
use Rattle.std.proofs.lemmas.Bool.Decides.{nat_tests}
use Rattle.std.specs.Prelude.{Contains, if◌then◌else◌}
use Rattle.std.specs.List.{AllZip, cons_option}
use Rattle.cjc_types.specs.Fixpoint.declared.flow.Edge.{Edge}
use Rattle.cjc_types.specs.Fixpoint.Tables.{HasRow, Covers}
use Rattle.cjc_card_semantics.specs.Machine.Loaded.{Loaded}
use Rattle.cjc_types.specs.declared.cell.Cell.{Cell}
use Rattle.cjc_types.specs.declared.state.Stack.{Stack}
use Rattle.cjc_types.specs.declared.state.Stack.TheVariants.{Cells, Clash}
use Rattle.cjc_types.specs.declared.state.State.{State}
use Rattle.cjc_types.specs.Cells.{IsCellBelow}
use Rattle.cjc_types.specs.States.{IsStackBelow}
use Rattle.cjc_frames.specs.declared.acts.Act.{Act}
use Rattle.cjc_frames.specs.declared.acts.Step.{Step}
use Rattle.cjc_frames.specs.declared.acts.Catch.{Catch}
use Rattle.cjc_frames.specs.Acts.{Subtype, is_wrong, is_off, after, Breaks, clash, wrong, off, unknown}
use Rattle.cjc_frames.specs.Acts.{misnamed}
use Rattle.cjc_frames.specs.Flow.{place_at, next_place, successors, edge, covers, caught, handler_edge}
use Rattle.cjc_frames.specs.Flow.{step_edges, place_edges, frame_flow}
use Rattle.cjc_frames.specs.Working.FlowLaws.{frame_flow_stays}
use Rattle.cjc_card_acts.specs.CardTypes.{is_type_of}
use Rattle.cjc_verify_proof.specs.Acts.{Passes}
use Rattle.cjc_verify_proof.specs.Frames.{Typing, IsMethod}
use Rattle.cjc_script.proofs.BytesGets.{contained, contains_at, get_inside, get_below, in_front}
use Rattle.cjc_script.proofs.BytesGets.{get_behind}

-- ---- lists

pub in_left : {A : Type 0} (xs ys : List A) (x : A) → Contains xs x → Contains (xs ++ ys) x
in_left xs ys x h = let at = contains_at xs x h in contained (xs ++ ys) at.0 x (in_front xs ys at.0 x at.1)

pub in_right : {A : Type 0} (xs ys : List A) (x : A) → Contains ys x → Contains (xs ++ ys) x
in_right xs ys x h = let at = contains_at ys x h in contained (xs ++ ys) (length xs + at.0) x
    (get_behind xs ys at.0 ∙ at.1)

pub in_first : {A : Type 0} (x : A) (xs : List A) → Contains (x ∷ xs) x
in_first x xs = contained (x ∷ xs) 0 x refl

pub in_rest : {A : Type 0} (y : A) (xs : List A) (x : A) → Contains xs x → Contains (y ∷ xs) x
in_rest y xs x h = let at = contains_at xs x h in contained (y ∷ xs) (suc at.0) x at.1

pub first_or_rest : {A : Type 0} (y : A) (xs : List A) (x : A) → Contains (y ∷ xs) x → (y ≡ x) ⊎ Contains xs x
first_or_rest {A} y xs x h = let at = contains_at (y ∷ xs) x h in go at.0 at.1
  where
    go : (k : ℕ) → slice_get (y ∷ xs) k ≡ Some x → (y ≡ x) ⊎ Contains xs x
    go zero e = inl cc
    go (suc k) e = inr (contained xs k x e)

pub not_in_none : {A : Type 0} (x : A) → Contains [] x → ⊥
not_in_none x h = let at = contains_at [] x h in let e = at.1 in cc

pub in_either : {A : Type 0} (xs ys : List A) (x : A) → Contains (xs ++ ys) x → Contains xs x ⊎ Contains ys x
in_either [] ys x h = inr h
in_either (y ∷ xs) ys x h = elim (first_or_rest y (xs ++ ys) x h) [
  | inl same ↦ inl (subst (λ z. Contains (y ∷ xs) z) same (in_first y xs))
  | inr later ↦ elim (in_either xs ys x later) [
    | inl l ↦ inl (in_rest y xs x l)
    | inr r ↦ inr r
  ]
]

pub in_mapped : {A B : Type 0} (f : A → B) (xs : List A) (x : A) → Contains xs x → Contains (map f xs) (f x)
in_mapped f [] x h = absurd (not_in_none x h)
in_mapped f (y ∷ xs) x h = elim (first_or_rest y xs x h) [
  | inl same ↦ subst (λ z. Contains (map f (y ∷ xs)) (f z)) same (in_first (f y) (map f xs))
  | inr later ↦ in_rest (f y) (map f xs) (f x) (in_mapped f xs x later)
]

pub in_filtered : {A B : Type 0} (f : A → Option B) (xs : List A) (x : A) (y : B) → Contains xs x → f x ≡ Some y
    → Contains (filter_map f xs) y
in_filtered f [] x y h e = absurd (not_in_none x h)
in_filtered {A} {B} f (z ∷ xs) x y h e = go (first_or_rest z xs x h) (λ later. in_filtered f xs x y later e)
  where
    here : (o : Option B) → o ≡ Some y → Contains (cons_option o (filter_map f xs)) y
    here None i = cc
    here (Some w) i = (let same : w ≡ y = cc in subst (λ v. Contains (w ∷ filter_map f xs) v) same (in_first w
        (filter_map f xs)))

    there : (o : Option B) → Contains (filter_map f xs) y → Contains (cons_option o (filter_map f xs)) y
    there None i = i
    there (Some w) i = in_rest w (filter_map f xs) y i

    go : (z ≡ x) ⊎ Contains xs x → (Contains xs x → Contains (filter_map f xs) y)
        → Contains (cons_option (f z) (filter_map f xs)) y
    go (inl same) more = here (f z) (ap f same ∙ e)
    go (inr later) more = there (f z) (more later)

lt_true : (m n : ℕ) → m < n → nat_lt m n ≡ true
lt_true m n lt = grind (arith, nat_tests)

-- ---- what a row says

-- what holds before an instruction that is reached
pub record Sound (is_of : Subtype) (max_stack : ℕ) (a : Act) (locals cells : List Cell) : Type 0 where
  pub passes : Passes is_of max_stack a locals cells
  pub named : a.misnames ≡ false

module _ (l : Loaded) (exceptions : List ℕ) (t : Typing) (method : IsMethod l exceptions t) where
  -- a row that is reached breaks no rule
  pub sound : (place : ℕ) (s : Step) → slice_get t.body.steps place ≡ Some s → (cells locals : List Cell)
      → HasRow t.rows place (record { stack = Cells cells; locals = locals })
      → Sound (is_type_of l) t.body.max_stack s.act locals cells
  sound place s is cells locals row = record {
    passes = record {
      right = right (is_wrong (is_type_of l) s.act locals cells) refl;
      there = there (is_off t.body.max_stack s.act locals cells) refl;
      known = known (let a = s.act in a.is_unknown) refl;
    };
    named = named (let a = s.act in a.misnames) refl;
  }
    where
      breach : (rule : ℕ) → Breaks (is_type_of l) t.body.max_stack s.act
          (record { stack = Cells cells; locals = locals })
          rule → ⊥
      breach rule b = method.unbroken place rule (record {
        step = s;
        is_step = is;
        state = record { stack = Cells cells; locals = locals };
        reached = row;
        breaks = b;
      })

      right : (b : Bool) → is_wrong (is_type_of l) s.act locals cells ≡ b → b ≡ false
      right false e = refl
      right true e = absurd (breach 723 (wrong cells locals e))

      there : (b : Bool) → is_off t.body.max_stack s.act locals cells ≡ b → b ≡ false
      there false e = refl
      there true e = absurd (breach 724 (off cells locals e))

      known : (b : Bool) → (let a = s.act in a.is_unknown) ≡ b → b ≡ false
      known false e = refl
      known true e = absurd (breach 726 (unknown (record { stack = Cells cells; locals = locals }) e))

      named : (b : Bool) → (let a = s.act in a.misnames) ≡ b → b ≡ false
      named false e = refl
      named true e = absurd (breach 727 (misnamed (record { stack = Cells cells; locals = locals }) e))

  -- a place that is reached with a state above another
  pub record Arrives (to : ℕ) (x : State) : Type 0 where
    pub step : Step
    pub is_step : slice_get t.body.steps to ≡ Some step
    pub cells : List Cell
    pub locals : List Cell
    pub reached : HasRow t.rows to (record { stack = Cells cells; locals = locals })
    pub below : IsStackBelow x.stack (Cells cells)
    pub locals_below : AllZip IsCellBelow x.locals locals

  -- a row that covers a state has a stack
  pub covered : (to : ℕ) (s : Step) → slice_get t.body.steps to ≡ Some s → (x : State)
      → Covers (frame_flow t.body) t.rows to x → Arrives to x
  covered to s is x c = go row.stack row.locals c.is_row c.above
    where
      row : State
      row = c.row

      go : (stack : Stack) (locals : List Cell) → HasRow t.rows to (record { stack = stack; locals = locals })
          → IsStackBelow x.stack stack × AllZip IsCellBelow x.locals locals → Arrives to x
      go Clash locals r above = absurd (method.unbroken to 722 (record {
        step = s;
        is_step = is;
        state = record { stack = Clash; locals = locals };
        reached = r;
        breaks = clash locals;
      }))
      go (Cells cells) locals r above = record {
        step = s;
        is_step = is;
        cells = cells;
        locals = locals;
        reached = r;
        below = above.0;
        locals_below = above.1;
      }

  module _ (place : ℕ) (s : Step) (is : slice_get t.body.steps place ≡ Some s) (cells locals : List Cell)
      (row : HasRow t.rows place (record { stack = Cells cells; locals = locals })) where
    abbrev pub state : State
    state = record { stack = Cells cells; locals = locals }

    hands_on : (let a = s.act in a.ends) ≡ false
    hands_on = go (let a = s.act in a.ends) refl
      where
        go : (b : Bool) → (let a = s.act in a.ends) ≡ b → b ≡ false
        go false e = refl
        go true e =
            let never = (sound place s is cells locals row).named in
            let always = method.ends place s is e in
            absurd cc

    -- an edge of the instruction is covered
    leads : (e : Edge State) → Contains (step_edges t.body place s false state) e → Arrives e.to e.state
    leads e among = to (get_inside t.body.steps e.to within)
      where
        edges : Contains ((frame_flow t.body).edges place state) e
        edges = subst (λ o. Contains (place_edges t.body place o state) e) (sym is)
            (subst (λ b. Contains (step_edges t.body place s b state) e) (sym hands_on) among)

        within : e.to < length t.body.steps
        within = frame_flow_stays t.body place state (get_below t.body.steps place s is) (method.closed.own place state
            row) e edges

        to : (n : Step) × (slice_get t.body.steps e.to ≡ Some n) → Arrives e.to e.state
        to n = covered e.to n.0 n.1 e.state (method.closed.steps place state row e edges)

    -- at an instruction that may follow
    pub follows_to : (to : ℕ) → Contains (successors t.body.steps place s.act) to → Arrives to (after s.act state)
    follows_to to among = leads (edge (after s.act state) to) (in_left (map (edge (after s.act state))
        (successors t.body.steps place s.act)) (filter_map (handler_edge t.body.steps s.at state) t.body.catches)
        (edge (after s.act state) to) (in_mapped (edge (after s.act state)) (successors t.body.steps place s.act) to
        among))

    -- at a handler
    pub handled_at : (c : Catch) → Contains t.body.catches c → covers c s.at ≡ true → (to : ℕ)
        → place_at t.body.steps c.target ≡ Some to → Arrives to (caught c state)
    handled_at c among over to target = leads (edge (caught c state) to) (in_right (map (edge (after s.act state))
        (successors t.body.steps place s.act)) (filter_map (handler_edge t.body.steps s.at state) t.body.catches)
        (edge (caught c state) to) (in_filtered (handler_edge t.body.steps s.at state) t.body.catches c
        (edge (caught c state) to) among is_edge))
      where
        is_edge : handler_edge t.body.steps s.at state c ≡ Some (edge (caught c state) to)
        is_edge = subst (λ b. (if b then option_map (edge (caught c state)) (place_at t.body.steps c.target) else None)
            ≡ Some (edge (caught c state) to)) (sym over) (ap (option_map (edge (caught c state))) target)

    -- the next place follows, where it may
    pub next_among : (let a = s.act in a.falls) ≡ true → (n : Step) → slice_get t.body.steps (place + 1) ≡ Some n
        → Contains (successors t.body.steps place s.act) (place + 1)
    next_among falls n is_next = in_left (next_place (let a = s.act in a.falls) (length t.body.steps) place)
        (filter_map (place_at t.body.steps) (let a = s.act in a.targets)) (place + 1)
        (subst (λ b. Contains (next_place b (length t.body.steps) place) (place + 1)) (sym falls)
        (go (nat_lt (place + 1) (length t.body.steps)) (lt_true (place + 1) (length t.body.steps)
        (get_below t.body.steps (place + 1) n is_next))))
      where
        go : (b : Bool) → b ≡ true → Contains (if b then (place + 1) ∷ [] else []) (place + 1)
        go true e = in_first (place + 1) []
        go false e = cc

    -- a target follows
    pub target_among : (at : ℕ) → Contains (let a = s.act in a.targets) at → (to : ℕ)
        → place_at t.body.steps at ≡ Some to → Contains (successors t.body.steps place s.act) to
    target_among at among to is_to = in_right (next_place (let a = s.act in a.falls) (length t.body.steps) place)
        (filter_map (place_at t.body.steps) (let a = s.act in a.targets)) to
        (in_filtered (place_at t.body.steps) (let a = s.act in a.targets) at to among is_to)
