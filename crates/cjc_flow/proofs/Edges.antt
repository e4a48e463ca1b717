-- What a place hands on, by what is known of its element.
use Rattle.std.proofs.Common.{◌≡◌, ◌<◌, ◌+◌, ℕ, Bool, true, false, cond, nat_lt, List, [], ◌++◌, map, filter_map}
use Rattle.std.proofs.Common.{length, slice_get, get_or, Option, Some, None, Result, IfOk, refl, sym, ◌∙◌, ap, subst}
use Rattle.std.proofs.Common.{arith}
use Rattle.std.proofs.lemmas.Bool.{ltb-false}
use Rattle.std.proofs.lemmas.Option.{slice_get-get_or}
use Rattle.cjc_range.specs.Span.{Span}
use Rattle.cjc_types.specs.Bytecode.declared.insn.JInsn.{JInsn}
use Rattle.cjc_fixpoint.specs.declared.flow.Edge.{Edge}
use Rattle.cjc_types.specs.declared.state.State.{State}
use Rattle.cjc_types.specs.Search.{cells_of}
use Rattle.cjc_types.specs.Steps.{goes_on}
use Rattle.cjc_types.specs.Flow.{successors}
use Rattle.cjc_intervals.specs.Frames.{RangeState}
use Rattle.cjc_flow.specs.Working.Given.{element_at, element_given, after_by}
use Rattle.cjc_flow.specs.Working.Kept.{Ranged, value_at, after_at, kept_edge, kept_handler, kept_edges, kept_place}
use Rattle.cjc_flow.specs.Working.Kept.{kept_on_by, kept_on}
use Rattle.cjc_flow.proofs.Given.{after_same}

module _ (r : Ranged) (at : ℕ) where
  pub edges_are : (insn : JInsn) (element : Span) (before after : RangeState) (value : Option _) (places : List ℕ)
      (handled edges all : List (Edge RangeState)) (t : State) → value ≡ value_at r at
      → element ≡ element_given insn.op (cells_of t.stack) → after ≡ after_by value element insn.op before
      → places ≡ successors r.body.insns at insn.op → edges ≡ map (kept_edge r after) places
      → handled ≡ filter_map (kept_handler r insn.at before) r.body.catches → all ≡ edges ++ handled
      → all ≡ kept_edges r at insn t before
  edges_are insn element before after value places handled edges all t is_value is is_after are_places are_edges
      are_handled are_all =
      let step : after ≡ after_at r at insn t before = is_after
      ∙ ap (λ (v : Option _). after_by v element insn.op before) is_value
      ∙ after_same (value_at r at) element insn.op (cells_of t.stack) before is in
      are_all ∙ ap (λ (es : List (Edge RangeState)). edges ++ es) are_handled
      ∙ ap (λ (es : List (Edge RangeState)). es ++ filter_map (kept_handler r insn.at before) r.body.catches) (are_edges
      ∙ ap (λ (y : RangeState). map (kept_edge r y) places) step
      ∙ ap (map (kept_edge r (after_at r at insn t before))) are_places)

  pub place_by : {E : Type 0} (insn : JInsn) (row : Option State) (x : RangeState) (element : Span)
      (result : Result (List (Edge RangeState)) E) → Some element ≡ element_at insn row
      → ((t : State) → element ≡ element_given insn.op (cells_of t.stack)
      → IfOk result (λ es. es ≡ kept_edges r at insn t x))
      → IfOk result (λ es. es ≡ kept_place r at (Some insn) row x)
  place_by insn None x element result is h = absurd cc
  place_by insn (Some t) x element result is h = h t cc

  pub place_none : (insn : JInsn) (row : Option State) (x : RangeState) → None ≡ element_at insn row
      → [] ≡ kept_place r at (Some insn) row x
  place_none insn None x is = refl
  place_none insn (Some t) x is = absurd cc

  here : (insns : List JInsn) (d : JInsn) → insns ≡ r.body.insns → at < length insns → slice_get r.body.insns at
      ≡ Some (get_or insns at d)
  here insns d is lt = subst (λ (js : List JInsn). slice_get js at ≡ Some (get_or insns at d)) is
      (slice_get-get_or insns at d lt)

  on_by : (insn : JInsn) (row : Option State) (x y : RangeState) (element : Span) (value : Option _)
      → value ≡ value_at r at → Some element ≡ element_at insn row → y ≡ after_by value element insn.op x
      → goes_on insn.op ≡ true → Some y ≡ kept_on_by r at (Some insn) row x
  on_by insn None x y element value is_value is is_y on = absurd cc
  on_by insn (Some t) x y element value is_value is is_y on =
      let found : element ≡ element_given insn.op (cells_of t.stack) = cc in
      ap Some (is_y ∙ ap (λ (v : Option _). after_by v element insn.op x) is_value
      ∙ after_same (value_at r at) element insn.op (cells_of t.stack) x found)
      ∙ ap (λ (b : Bool). cond b (Some (after_at r at insn t x)) None) (sym on)

  within : (lt : at + 1 < length r.body.insns) → nat_lt (at + 1) (length r.body.insns) ≡ true
  within lt = go (nat_lt (at + 1) (length r.body.insns)) refl
    where
      go : (b : Bool) → nat_lt (at + 1) (length r.body.insns) ≡ b → b ≡ true
      go true e = refl
      go false e = let ge = ltb-false (at + 1) (length r.body.insns) e in absurd (omega (arith, ge, lt))

  abbrev on_with : Bool → Option JInsn → RangeState → Option RangeState
  on_with b o x = cond b (kept_on_by r at o (get_or r.types at None) x) None

  pub on_is : (insns : List JInsn) (d : JInsn) (x y : RangeState) (element : Span) (goes : Bool) → insns ≡ r.body.insns
      → at + 1 < length insns → (slice_get r.body.insns at ≡ Some (get_or insns at d)
      → Some element ≡ element_at (get_or insns at d) (get_or r.types at None))
      → y ≡ after_by (value_at r at) element (get_or insns at d).op x → goes ≡ goes_on (get_or insns at d).op
      → goes ≡ true → Some y ≡ kept_on r at x
  on_is insns d x y element goes is lt found is_y is_on on =
      let insn : JInsn = get_or insns at d in
      let there = here insns d is (omega (arith, lt)) in
      let inside : at + 1 < length r.body.insns = subst (λ (js : List JInsn). at + 1 < length js) is lt in
      on_by insn (get_or r.types at None) x y element (value_at r at) refl (found there) is_y (sym is_on ∙ on)
      ∙ ap (λ (o : Option JInsn). kept_on_by r at o (get_or r.types at None) x) (sym there)
      ∙ ap (λ (b : Bool). on_with b (slice_get r.body.insns at) x) (sym (within inside))

  unreached : (insn : JInsn) (row : Option State) (x : RangeState) → None ≡ element_at insn row
      → None ≡ kept_on_by r at (Some insn) row x
  unreached insn None x is = refl
  unreached insn (Some t) x is = absurd cc

  abbrev nowhere : Option RangeState
  nowhere = None

  either_none : (b : Bool) → nowhere ≡ cond b nowhere nowhere
  either_none true = refl
  either_none false = refl

  none_by : (insn : JInsn) (x : RangeState) → slice_get r.body.insns at ≡ Some insn
      → None ≡ kept_on_by r at (Some insn) (get_or r.types at None) x → None ≡ kept_on r at x
  none_by insn x there is =
      either_none (nat_lt (at + 1) (length r.body.insns))
      ∙ ap (λ (o : Option RangeState). cond (nat_lt (at + 1) (length r.body.insns)) o None) (is
      ∙ ap (λ (o : Option JInsn). kept_on_by r at o (get_or r.types at None) x) (sym there))

  pub is_unreached : (insns : List JInsn) (d : JInsn) (x : RangeState) → insns ≡ r.body.insns → at + 1 < length insns
      → (slice_get r.body.insns at ≡ Some (get_or insns at d)
      → None ≡ element_at (get_or insns at d) (get_or r.types at None)) → None ≡ kept_on r at x
  is_unreached insns d x is lt found =
      let insn : JInsn = get_or insns at d in
      let there = here insns d is (omega (arith, lt)) in
      none_by insn x there (unreached insn (get_or r.types at None) x (found there))
