-- Intervals by the types of their cells, one after the other.
use Rattle.std.proofs.Common.{◌≡◌, ◌<◌, ◌+◌, ◌-◌, ℕ, zero, suc, Bool, true, false, cond, List, [], ◌∷◌, ◌++◌, map}
use Rattle.std.proofs.Common.{length, take, drop, get_or, Option, Some, None, option_map, refl, sym, ap, ◌∙◌, arith}
use Rattle.std.proofs.lemmas.List.{take_more, drop_more}
use Rattle.cjc_range.specs.Span.{Span, full}
use Rattle.cjc_range.specs.Landmarks.{round_row}
use Rattle.cjc_types.specs.declared.cell.Cell.{Cell}
use Rattle.cjc_types.specs.declared.table.Frame.{Frame}
use Rattle.cjc_types.specs.Steps as typed
use Rattle.cjc_types.specs.Tables.{state_of}
use Rattle.cjc_intervals.specs.Frames.{StackOf, Cells, Clash, RangeState}
use Rattle.cjc_intervals.specs.Flow.{number_range, number_ranges, rounded, by_types}
use Rattle.cjc_intervals.proofs.Flow.{rounded_length, number_length}
use Rattle.cjc_flow.specs.Working.Arriving.{rounded_cells, rounded_span, known_in, all_known, stack_known}

number_at : (types : List Cell) (s : List Span) (k : ℕ) (d e : Span) → k < length s → get_or (number_ranges types s) k d
    ≡ number_range (typed.operand types k) (get_or s k e)
number_at types [] k d e lt = absurd (omega (arith, lt))
number_at [] (x ∷ xs) zero d e lt = refl
number_at [] (x ∷ xs) (suc k) d e lt = number_at [] xs k d e (omega (arith, lt))
number_at (c ∷ cs) (x ∷ xs) zero d e lt = refl
number_at (c ∷ cs) (x ∷ xs) (suc k) d e lt = number_at cs xs k d e (omega (arith, lt))

known_at : (o : Option (List Cell)) (s : List Span) (k : ℕ) (d : Span) → k < length s → get_or (all_known o s) k d
    ≡ known_in o k (get_or s k d)
known_at None s k d lt = refl
known_at (Some types) s k d lt = number_at types s k d d lt

known_sized : (o : Option (List Cell)) (s : List Span) → length (all_known o s) ≡ length s
known_sized None s = refl
known_sized (Some types) s = number_length types s

rounded_sized : (is : Bool) (s : List Span) → length (rounded_cells is s) ≡ length s
rounded_sized true s = rounded_length s
rounded_sized false s = refl

round_at : (s : List Span) (k : ℕ) (d e : Span) → k < length s → get_or (map round_row s) k d ≡ round_row (get_or s k e)
round_at [] k d e lt = absurd (omega (arith, lt))
round_at (x ∷ xs) zero d e lt = refl
round_at (x ∷ xs) (suc k) d e lt = round_at xs k d e (omega (arith, lt))

rounded_at : (is : Bool) (s : List Span) (k : ℕ) (d : Span) → k < length s → get_or (rounded_cells is s) k d
    ≡ rounded_span is (get_or s k d)
rounded_at true s k d lt = round_at s k d d lt
rounded_at false s k d lt = refl

module _ (o : Option (List Cell)) (is : Bool) (s : List Span) where
  abbrev pub all : List Span
  all = all_known o (rounded_cells is s)

  pub all_sized : length all ≡ length s
  all_sized = known_sized o (rounded_cells is s) ∙ rounded_sized is s

  all_at : (k : ℕ) (d : Span) → k < length s → get_or all k d ≡ known_in o k (rounded_span is (get_or s k d))
  all_at k d lt =
      let sized = rounded_sized is s in
      known_at o (rounded_cells is s) k d (omega (arith, lt, sized)) ∙ ap (known_in o k) (rounded_at is s k d lt)

  -- the step of a loop from the first
  pub known_step : (k : ℕ) (x y z : Span) (before after : List Span) → k < length s → x ≡ get_or s k x
      → y ≡ rounded_span is x → z ≡ known_in o k y → before ≡ take k all → after ≡ before ++ z ∷ []
      → after ≡ take (k + 1) all
  known_step k x y z before after lt read is_y is_z was now =
      let sized = all_sized in
      now ∙ ap (λ (xs : List Span). xs ++ z ∷ []) was
      ∙ ap (λ (v : Span). take k all ++ v ∷ []) (is_z ∙ ap (known_in o k) (is_y ∙ ap (rounded_span is) read)
      ∙ sym (all_at k x lt))
      ∙ sym (take_more all k x (omega (arith, lt, sized)))

  -- the step of a loop from the last, of which what is found stands at the top
  pub cells_step : (i k : ℕ) (x y z : Span) (before after : List Span) → i < length s → k ≡ length s - 1 - i
      → x ≡ get_or s k full → y ≡ rounded_span is x → z ≡ known_in o k y → before ≡ drop (length s - i) all
      → after ≡ z ∷ before → after ≡ drop (length s - (i + 1)) all
  cells_step i k x y z before after lt is_k read is_y is_z was now =
      let sized = all_sized in
      let inside : k < length s = omega (arith, is_k, lt) in
      let here : length s - (i + 1) ≡ k = omega (arith, is_k, lt) in
      let next : length s - i ≡ k + 1 = omega (arith, is_k, lt) in
      now ∙ ap (λ (xs : List Span). z ∷ xs) (was ∙ ap (λ (n : ℕ). drop n all) next)
      ∙ ap (λ (v : Span). v ∷ drop (k + 1) all) (is_z ∙ ap (known_in o k) (is_y ∙ ap (rounded_span is) read)
      ∙ sym (all_at k full inside))
      ∙ sym (drop_more all k full (omega (arith, inside, sized)))
      ∙ ap (λ (n : ℕ). drop n all) (sym here)

abbrev made : StackOf Span → List Span → RangeState
made s l = record { stack = s; locals = l }

arrived_all : (frame : Option Frame) (is : Bool) (s : StackOf Span) (l : List Span)
    → made (stack_known (option_map (λ (f : Frame). f.stack) frame) is s)
    (all_known (option_map (λ (f : Frame). f.locals) frame) (rounded_cells is l)) ≡ by_types (option_map state_of frame)
    (cond is (rounded (made s l)) (made s l))
arrived_all None true (Cells s) l = refl
arrived_all None false (Cells s) l = refl
arrived_all (Some f) true (Cells s) l = refl
arrived_all (Some f) false (Cells s) l = refl
arrived_all None true Clash l = refl
arrived_all None false Clash l = refl
arrived_all (Some f) true Clash l = refl
arrived_all (Some f) false Clash l = refl

-- a state that has arrived
pub arrived_is : (frame : Option Frame) (is : Bool) (x : RangeState) (stack : StackOf Span) (locals : List Span)
    → stack ≡ stack_known (option_map (λ (f : Frame). f.stack) frame) is x.stack
    → locals ≡ all_known (option_map (λ (f : Frame). f.locals) frame) (rounded_cells is x.locals)
    → record { stack = stack; locals = locals } ≡ by_types (option_map state_of frame) (cond is (rounded x) x)
arrived_is frame is x stack locals is_stack is_locals =
    ap (λ (s : StackOf Span). made s locals) is_stack
    ∙ ap (made (stack_known (option_map (λ (f : Frame). f.stack) frame) is x.stack)) is_locals
    ∙ arrived_all frame is x.stack x.locals
