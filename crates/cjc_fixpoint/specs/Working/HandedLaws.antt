-- What a place is handed is the least state above the edges to it.
use Rattle.std.proofs.Common.{◌≡◌, ℕ, List, [], ◌∷◌, Option, Some, None, Contains, Bool, true, false, cond, ◌==◌}
use Rattle.std.proofs.Common.{if◌then◌else◌, refl, sym, ◌∙◌, ap, subst, inl, inr, arith}
use Rattle.std.proofs.lemmas.Bool.Decides.{nat_tests}
use Rattle.cjc_fixpoint.specs.declared.flow.Edge.{Edge}
use Rattle.cjc_fixpoint.specs.Dataflow.{Dataflow, IsLawful, AreBelow}
use Rattle.cjc_fixpoint.specs.Working.Edges.{contains_head, contains_tail, contains_cons}
use Rattle.cjc_fixpoint.specs.Kept.{merged, handed_more, handed}

-- z is above the state, if there is one
abbrev pub AboveMaybe : {S : Type 0} → Dataflow S → Option S → S → Type 0
AboveMaybe flow None z = Unit {0}
AboveMaybe flow (Some x) z = flow.Below x z

-- the state is one that the flow itself makes, if there is one
abbrev pub OwnMaybe : {S : Type 0} → Dataflow S → Option S → Type 0
OwnMaybe flow None = Unit {0}
OwnMaybe flow (Some x) = flow.Own x

-- the row is a state above x
pub record IsIn {S : Type 0} (flow : Dataflow S) (x : S) (row : Option S) : Type 0 where
  pub state : S
  pub is : row ≡ Some state
  pub above : flow.Below x state

-- two values are equal where `Some` of them is
pub some_injective : {X : Type 0} (a b : X) → Some a ≡ Some b → a ≡ b
some_injective a b h = cc

-- None is not Some of any value
pub not_some : {X : Type 0} (x : X) → None ≡ Some x → ⊥
not_some x h = (cc)

-- an edge's state, where it goes to the place
abbrev pub picked : {S : Type 0} → ℕ → Edge S → Option S
picked to e = if e.to == to then Some e.state else None

picked_here : {S : Type 0} (to : ℕ) (e : Edge S) → e.to ≡ to → picked to e ≡ Some e.state
picked_here to e h = go (e.to == to) refl
  where
    go : (b : Bool) → (e.to == to) ≡ b → cond b (Some e.state) None ≡ Some e.state
    go true is = refl
    go false is = absurd (grind (arith, nat_tests, is, h))

-- what is handed comes from an edge
pub handed_some : {S : Type 0} (flow : Dataflow S) (to : ℕ) (es : List (Edge S)) (y : S) → handed flow to es ≡ Some y
    → (e : Edge S) × Contains es e × (e.to ≡ to)
handed_some flow to [] y h = absurd (not_some y h)
handed_some {S} flow to (e ∷ es) y h = go (λ k. handed_some flow to es y k) (e.to == to) refl h
  where
    go : (handed flow to es ≡ Some y → (f : Edge S) × Contains es f × (f.to ≡ to)) → (b : Bool) → (e.to == to) ≡ b
        → handed_more flow to (cond b (Some e.state) None) es ≡ Some y → (f : Edge S) × Contains (e ∷ es) f
        × (f.to ≡ to)
    go more true is h = (e, (0, omega arith, refl), grind (arith, nat_tests, is))
    go more false is h = let m = more h in (m.0, contains_tail e es m.0 m.1, m.2)

module _ {S : Type 0} (flow : Dataflow S) (laws : IsLawful flow) where
  pub merged_own : (a b : Option S) → OwnMaybe flow a → OwnMaybe flow b → OwnMaybe flow (merged flow a b)
  merged_own None b h k = k
  merged_own (Some x) None h k = h
  merged_own (Some x) (Some y) h k = (laws.is_join x y h k).own

  merged_least : (a b : Option S) (z : S) → flow.Own z → OwnMaybe flow a → OwnMaybe flow b → AboveMaybe flow a z
      → AboveMaybe flow b z → AboveMaybe flow (merged flow a b) z
  merged_least None b z own oa ob h k = k
  merged_least (Some x) None z own oa ob h k = h
  merged_least (Some x) (Some y) z own oa ob h k = (laws.is_join x y oa ob).least z own h k

  merged_left : (x : S) (a b : Option S) → flow.Own x → OwnMaybe flow a → OwnMaybe flow b → IsIn flow x a
      → IsIn flow x (merged flow a b)
  merged_left x None b own h k has = absurd (not_some has.state has.is)
  merged_left x (Some a) None own h k has = has
  merged_left x (Some a) (Some b) own h k has =
      let j = laws.is_join a b h k in
      let same : a ≡ has.state = some_injective a has.state has.is in
      record {
        state = flow.join a b;
        is = refl;
        above = laws.transitive x a (flow.join a b) own h j.own
            (subst (λ (s : S). flow.Below x s) (sym same) has.above) j.above_left;
      }

  merged_right : (x : S) (a b : Option S) → flow.Own x → OwnMaybe flow a → OwnMaybe flow b → IsIn flow x b
      → IsIn flow x (merged flow a b)
  merged_right x None b own h k has = has
  merged_right x (Some a) None own h k has = absurd (not_some has.state has.is)
  merged_right x (Some a) (Some b) own h k has =
      let j = laws.is_join a b h k in
      let same : b ≡ has.state = some_injective b has.state has.is in
      record {
        state = flow.join a b;
        is = refl;
        above = laws.transitive x b (flow.join a b) own k j.own
            (subst (λ (s : S). flow.Below x s) (sym same) has.above) j.above_right;
      }

  pub picked_own : (to : ℕ) (e : Edge S) → flow.Own e.state → OwnMaybe flow (picked to e)
  picked_own to e h = go (e.to == to)
    where
      go : (b : Bool) → OwnMaybe flow (cond b (Some e.state) None)
      go true = h
      go false = tt

  picked_least : (to : ℕ) (e : Edge S) (z : S) → (e.to ≡ to → flow.Below e.state z) → AboveMaybe flow (picked to e) z
  picked_least to e z h = go (e.to == to) refl
    where
      go : (b : Bool) → (e.to == to) ≡ b → AboveMaybe flow (cond b (Some e.state) None) z
      go true is = h (grind (arith, nat_tests, is))
      go false is = tt

  pub more_own : (to : ℕ) (row : Option S) (es : List (Edge S)) → OwnMaybe flow row → ((e : Edge S) → Contains es e
      → flow.Own e.state) → OwnMaybe flow (handed_more flow to row es)
  more_own to row [] own h = own
  more_own to row (e ∷ es) own h = more_own to (merged flow row (picked to e)) es (merged_own row (picked to e) own
      (picked_own to e (h e (contains_head e es)))) (λ f is. h f (contains_tail e es f is))

  more_least : (to : ℕ) (row : Option S) (es : List (Edge S)) (z : S) → flow.Own z → OwnMaybe flow row
      → AboveMaybe flow row z → ((e : Edge S) → Contains es e → flow.Own e.state) → ((e : Edge S) → Contains es e
      → e.to ≡ to → flow.Below e.state z) → AboveMaybe flow (handed_more flow to row es) z
  more_least to row [] z own own_row above h k = above
  more_least to row (e ∷ es) z own own_row above h k =
      let own_e = picked_own to e (h e (contains_head e es)) in
      more_least to (merged flow row (picked to e)) es z own (merged_own row (picked to e) own_row own_e)
      (merged_least row (picked to e) z own own_row own_e above (picked_least to e z (k e (contains_head e es))))
      (λ f is. h f (contains_tail e es f is)) (λ f is. k f (contains_tail e es f is))

  more_keeps : (to : ℕ) (row : Option S) (es : List (Edge S)) (x : S) → flow.Own x → OwnMaybe flow row
      → ((e : Edge S) → Contains es e → flow.Own e.state) → IsIn flow x row → IsIn flow x (handed_more flow to row es)
  more_keeps to row [] x own own_row h has = has
  more_keeps to row (e ∷ es) x own own_row h has =
      let own_e = picked_own to e (h e (contains_head e es)) in
      more_keeps to (merged flow row (picked to e)) es x own (merged_own row (picked to e) own_row own_e)
      (λ f is. h f (contains_tail e es f is)) (merged_left x row (picked to e) own own_row own_e has)

  more_in : (to : ℕ) (row : Option S) (es : List (Edge S)) → OwnMaybe flow row → ((e : Edge S) → Contains es e
      → flow.Own e.state) → (e : Edge S) → Contains es e → e.to ≡ to → IsIn flow e.state (handed_more flow to row es)
  more_in to row [] own_row h e (k, lt, is) there = absurd (omega arith)
  more_in to row (d ∷ es) own_row h e has there = elim (contains_cons d es e has) [
    | inl same ↦
        let own = h d (contains_head d es) in
        let own_d = picked_own to d own in
        let at_d : d.to ≡ to = ap (λ (f : Edge S). f.to) same ∙ there in
        let here : IsIn flow d.state (picked to d) = record {
          state = d.state;
          is = picked_here to d at_d;
          above = laws.reflexive d.state own;
        } in
        subst (λ (f : Edge S). IsIn flow f.state (handed_more flow to (merged flow row (picked to d)) es)) same
        (more_keeps to (merged flow row (picked to d)) es d.state own (merged_own row (picked to d) own_row own_d)
        (λ f is. h f (contains_tail d es f is)) (merged_right d.state row (picked to d) own own_row own_d here))
    | inr later ↦ more_in to (merged flow row (picked to d)) es (merged_own row (picked to d) own_row
        (picked_own to d (h d (contains_head d es)))) (λ f is. h f (contains_tail d es f is)) e later there
  ]

  pub handed_own : (to : ℕ) (es : List (Edge S)) → ((e : Edge S) → Contains es e → flow.Own e.state)
      → OwnMaybe flow (handed flow to es)
  handed_own to es h = more_own to None es tt h

  pub handed_least : (to : ℕ) (es : List (Edge S)) (z : S) → flow.Own z → ((e : Edge S) → Contains es e
      → flow.Own e.state) → ((e : Edge S) → Contains es e → e.to ≡ to → flow.Below e.state z)
      → AboveMaybe flow (handed flow to es) z
  handed_least to es z own h k = more_least to None es z own tt tt h k

  pub handed_in : (to : ℕ) (es : List (Edge S)) → ((e : Edge S) → Contains es e → flow.Own e.state) → (e : Edge S)
      → Contains es e → e.to ≡ to → IsIn flow e.state (handed flow to es)
  handed_in to es h e has there = more_in to None es tt h e has there

  -- greater edges hand on a greater state
  pub handed_up : (to : ℕ) (es fs : List (Edge S)) → ((e : Edge S) → Contains es e → flow.Own e.state)
      → ((e : Edge S) → Contains fs e → flow.Own e.state) → AreBelow flow es fs → (x : S) → handed flow to es ≡ Some x
      → IsIn flow x (handed flow to fs)
  handed_up to es fs own_es own_fs below x is =
      let source = handed_some flow to es x is in
      let top = up source.0 source.1 source.2 in
      let own_fs' : OwnMaybe flow (Some top.state) = subst (λ (r : Option S). OwnMaybe flow r) top.is
      (handed_own to fs own_fs) in
      let above : AboveMaybe flow (Some x) top.state = subst (λ (r : Option S). AboveMaybe flow r top.state) is
      (handed_least to es top.state own_fs' own_es (λ e has there.
      let here = up e has there in
      subst (λ (z : S). flow.Below e.state z) (some_injective here.state top.state (sym here.is ∙ top.is)) here.above))
      in
      record { state = top.state; is = top.is; above = above }
    where
      up : (e : Edge S) → Contains es e → e.to ≡ to → IsIn flow e.state (handed flow to fs)
      up e has there =
          let more = below e has in
          let f : Edge S = more.0 in
          let here = handed_in to fs own_fs f more.1 (more.2 ∙ there) in
          let own_here : OwnMaybe flow (Some here.state) = subst (λ (r : Option S). OwnMaybe flow r) here.is
          (handed_own to fs own_fs) in
          record {
            state = here.state;
            is = here.is;
            above = laws.transitive e.state f.state here.state (own_es e has)
                (own_fs f more.1) own_here more.3 here.above;
          }
