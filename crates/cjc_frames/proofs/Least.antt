-- A method has one least table, and with it one answer.
use Rattle.std.proofs.Common.{◌≡◌, ◌⊎◌, ◌≤◌, ◌<◌, ℕ, List, length, slice_get, Option, Some, None}
use Rattle.std.proofs.Common.{MatchOption, refl, sym, ◌∙◌, ap, subst, inl, inr, arith}
use Rattle.cjc_fixpoint.specs.Bytes.declared.breaks.BrokenAt.{BrokenAt}
use Rattle.cjc_fixpoint.specs.Tables.{HasRow}
use Rattle.cjc_types.specs.declared.state.State.{State}
use Rattle.cjc_types.specs.Working.StateLaws.{same_state}
use Rattle.cjc_frames.specs.declared.acts.Step.{Step}
use Rattle.cjc_frames.specs.Acts.{Subtype}
use Rattle.cjc_frames.specs.Flow.{Body, frame_flow}
use Rattle.cjc_frames.specs.Tables.{IsLeastTable, Breach, FirstBreach, IsUnbroken, IsBrokenAt}
use Rattle.cjc_fixpoint.proofs.BytesGets.{same_by_get, not_past}

-- ---- one least table

pub one_least : (b : Body) (xs ys : List (Option State)) → IsLeastTable b xs → IsLeastTable b ys → xs ≡ ys
one_least b xs ys left right = same_by_get xs ys (λ k. go k (slice_get xs k) (slice_get ys k) refl refl)
  where
    sized : length xs ≡ length ys
    sized = left.closed.sized ∙ sym right.closed.sized

    both : (k : ℕ) (x y : State) → HasRow xs k x → HasRow ys k y → x ≡ y
    both k x y is_x is_y =
        let up = left.least ys right.closed k x is_x in
        let down = right.least xs left.closed k y is_y in
        let above : up.row ≡ y = let e = up.is_row in cc in
        let below : down.row ≡ x = let e = down.is_row in cc in
        same_state b.local_count x y (left.closed.own k x is_x) (right.closed.own k y is_y)
        (subst (λ (z : State). (frame_flow b).Below x z) above up.above)
        (subst (λ (z : State). (frame_flow b).Below y z) below down.above)

    go : (k : ℕ) (o p : Option (Option State)) → slice_get xs k ≡ o → slice_get ys k ≡ p → o ≡ p
    go k None None e f = refl
    go k None (Some p) e f = absurd (not_past ys xs k p (sym sized) f e)
    go k (Some o) None e f = absurd (not_past xs ys k o sized e f)
    go k (Some None) (Some None) e f = refl
    go k (Some None) (Some (Some y)) e f = let down = right.least xs left.closed k y f in let is = down.is_row
        in absurd cc
    go k (Some (Some x)) (Some None) e f = let up = left.least ys right.closed k x e in let is = up.is_row in absurd cc
    go k (Some (Some x)) (Some (Some y)) e f = ap (λ (z : State). Some (Some z)) (both k x y e f)

-- ---- one answer

same_first : (is_of : Subtype) (b : Body) (rows : List (Option State)) (p r q s : ℕ) → FirstBreach is_of b rows p r
    → FirstBreach is_of b rows q s → (p ≡ q) × (r ≡ s)
same_first is_of b rows p r q s one two = go (one.first q s two.breach) (two.first p r one.breach)
  where
    go : (p < q) ⊎ ((p ≡ q) × (r ≤ s)) → (q < p) ⊎ ((q ≡ p) × (s ≤ r)) → (p ≡ q) × (r ≡ s)
    go (inl lt) (inl gt) = absurd (omega (arith, lt, gt))
    go (inl lt) (inr same) = let e = same.0 in absurd (omega (arith, lt, e))
    go (inr same) (inl gt) = let e = same.0 in absurd (omega (arith, gt, e))
    go (inr left) (inr right) = let le = left.1 in let ge = right.1 in (left.0, omega (arith, le, ge))

-- a method has one first broken rule
pub same_broken : (is_of : Subtype) (b : Body) (o r p s : ℕ) → IsBrokenAt is_of b o r → IsBrokenAt is_of b p s → (o ≡ p)
    × (r ≡ s)
same_broken is_of b o r p s h k =
    let rows = one_least b h.rows k.rows h.least k.least in
    let places = same_first is_of b h.rows h.place r k.place s h.first
    (subst (λ (xs : List (Option State)). FirstBreach is_of b xs k.place s) (sym rows) k.first) in
    let some : Some h.first.breach.step ≡ Some k.first.breach.step = sym h.first.breach.is_step
    ∙ ap (slice_get b.steps) places.0 ∙ k.first.breach.is_step in
    let step : h.first.breach.step ≡ k.first.breach.step = cc in
    (h.is ∙ ap (λ (s : Step). s.at) step ∙ sym k.is, places.1)

-- a method of which a rule is broken is not unbroken
pub not_both : (is_of : Subtype) (b : Body) (o r : ℕ) → IsUnbroken is_of b → IsBrokenAt is_of b o r → ⊥
not_both is_of b o r h k =
    let rows = one_least b h.rows k.rows h.least k.least in
    h.unbroken k.place r (subst (λ (xs : List (Option State)). Breach is_of b xs k.place r) (sym rows) k.first.breach)

-- An answer: no rule is broken, or this is the first.
abbrev pub Answers : Subtype → Body → Option BrokenAt → Type 0
Answers is_of b answer = MatchOption answer (IsUnbroken is_of b) (λ (x : BrokenAt). IsBrokenAt is_of b x.offset x.rule)

pub only_unbroken : (is_of : Subtype) (b : Body) (answer : Option BrokenAt) → Answers is_of b answer
    → IsUnbroken is_of b → answer ≡ None
only_unbroken is_of b None is h = refl
only_unbroken is_of b (Some x) is h = absurd (not_both is_of b x.offset x.rule h is)

pub only_broken : (is_of : Subtype) (b : Body) (answer : Option BrokenAt) → Answers is_of b answer → (o r : ℕ)
    → IsBrokenAt is_of b o r → answer ≡ Some (record { rule = r; offset = o })
only_broken is_of b None is o r h = absurd (not_both is_of b o r is h)
only_broken is_of b (Some x) is o r h =
    let same = same_broken is_of b x.offset x.rule o r is h in
    let make : ℕ → ℕ → BrokenAt = λ p s. record { rule = s; offset = p } in
    ap (λ (p : ℕ). Some (make p x.rule)) same.0 ∙ ap (λ (s : ℕ). Some (make o s)) same.1
