-- A method has one least range table.
use Rattle.std.proofs.Common.{◌≡◌, ℕ, suc, refl, sym, ap, ◌∙◌, subst, List, [], ◌∷◌, Option, Some, None, length, ℤ}
use Rattle.std.proofs.Common.{arith}
use Rattle.std.specs.Prelude.{slice_get}
use Rattle.std.specs.List.{AllZip}
use Rattle.std.proofs.lemmas.Option.{slice_get_within, slice_get-get_or}
use Rattle.cjc_bytes.specs.declared.fault.MemberId.{MemberId}
use Rattle.cjc_vtable.specs.Fixpoint.Dataflow.{Dataflow}
use Rattle.cjc_vtable.specs.Fixpoint.Tables.{HasRow, IsLeastClosed}
use Rattle.cjc_flow.specs.Range.Span.{Span, Within}
use Rattle.cjc_narrow.specs.Types.declared.state.State.{State}
use Rattle.cjc_narrow.specs.Types.Flow.{Body}
use Rattle.cjc_flow.specs.LowerIntervals.Flow.{range_flow}
use Rattle.cjc_flow.specs.LowerIntervals.Frames.{StackOf, Cells, Clash, IsStackBelow, RangeState, spans, states}
use Rattle.cjc_flow.specs.LowerIntervals.Tables.{IsLeastRanges}
use Rattle.cjc_flow.proofs.RangeOrder.{within_both}

-- ---- of any flow in whose order no two states are below one another

module _ {State : Type 0} (flow : Dataflow State) (places : ℕ) (same : (x y : State) → flow.Below x y → flow.Below y x
    → x ≡ y) where
  same_by_get : (xs ys : List (Option State)) → ((k : ℕ) → slice_get xs k ≡ slice_get ys k) → xs ≡ ys
  same_by_get [] [] h = refl
  same_by_get [] (y ∷ ys) h = let e = h 0 in absurd cc
  same_by_get (x ∷ xs) [] h = let e = h 0 in absurd cc
  same_by_get (x ∷ xs) (y ∷ ys) h =
      let first : x ≡ y = let e = h 0 in cc in
      let rest : xs ≡ ys = same_by_get xs ys (λ k. h (suc k)) in
      cc

  -- a place of one list is one of another that is as long
  not_past : (xs ys : List (Option State)) (k : ℕ) (x : Option State) → length xs ≡ length ys → slice_get xs k ≡ Some x
      → slice_get ys k ≡ None → ⊥
  not_past xs ys k x sized has none =
      let lt = slice_get_within xs k x has in
      let found = slice_get-get_or ys k x (omega (arith, lt, sized)) in
      cc

  pub one_least : (xs ys : List (Option State)) → IsLeastClosed flow places xs → IsLeastClosed flow places ys → xs ≡ ys
  one_least xs ys left right = same_by_get xs ys (λ k. go k (slice_get xs k) (slice_get ys k) refl refl)
    where
      sized : length xs ≡ length ys
      sized = left.closed.sized ∙ sym right.closed.sized

      both : (k : ℕ) (x y : State) → HasRow xs k x → HasRow ys k y → x ≡ y
      both k x y is_x is_y =
          let up = left.least ys right.closed k x is_x in
          let down = right.least xs left.closed k y is_y in
          let above : up.row ≡ y = let e = up.is_row in cc in
          let below : down.row ≡ x = let e = down.is_row in cc in
          same x y (subst (λ (z : State). flow.Below x z) above up.above) (subst (λ (z : State). flow.Below y z) below
          down.above)

      go : (k : ℕ) (o p : Option (Option State)) → slice_get xs k ≡ o → slice_get ys k ≡ p → o ≡ p
      go k None None e f = refl
      go k None (Some p) e f = absurd (not_past ys xs k p (sym sized) f e)
      go k (Some o) None e f = absurd (not_past xs ys k o sized e f)
      go k (Some None) (Some None) e f = refl
      go k (Some None) (Some (Some y)) e f = let down = right.least xs left.closed k y f in let is = down.is_row
          in absurd cc
      go k (Some (Some x)) (Some None) e f = let up = left.least ys right.closed k x e in let is = up.is_row
          in absurd cc
      go k (Some (Some x)) (Some (Some y)) e f = let is = both k x y e f in cc

-- ---- of intervals

same_spans : (xs ys : List Span) → AllZip Within xs ys → AllZip Within ys xs → xs ≡ ys
same_spans [] [] h k = refl
same_spans [] (y ∷ ys) h k = absurd h
same_spans (x ∷ xs) [] h k = absurd h
same_spans (x ∷ xs) (y ∷ ys) h k =
    let first : x ≡ y = within_both x y h.0 k.0 in
    let rest : xs ≡ ys = same_spans xs ys h.1 k.1 in
    cc

same_stack : (x y : StackOf Span) → IsStackBelow spans x y → IsStackBelow spans y x → x ≡ y
same_stack (Cells xs) (Cells ys) h k = ap Cells (same_spans xs ys h k)
same_stack (Cells xs) Clash h k = absurd k
same_stack Clash (Cells ys) h k = absurd h
same_stack Clash Clash h k = refl

same_state : (max_locals : ℕ) (x y : RangeState) → (states max_locals).Below x y → (states max_locals).Below y x → x ≡ y
same_state max_locals x y h k =
    let stack : x.stack ≡ y.stack = same_stack x.stack y.stack h.0 k.0 in
    let locals : x.locals ≡ y.locals = same_spans x.locals y.locals h.1 k.1 in
    ap (λ (s : StackOf Span). let z : RangeState = record { stack = s; locals = x.locals } in z) stack
    ∙ ap (λ (ls : List Span). let z : RangeState = record { stack = y.stack; locals = ls } in z) locals

pub one_least_ranges : (b : Body) (constant : MemberId → Option ℤ) (types : List (Option State))
    (xs ys : List (Option RangeState)) → IsLeastRanges b constant types xs → IsLeastRanges b constant types ys → xs ≡ ys
one_least_ranges b constant types xs ys left right = one_least (range_flow b constant types) (length b.insns)
    (same_state b.max_locals) xs ys left right
