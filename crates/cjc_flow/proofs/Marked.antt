-- Which places are marked, and what comes to one.
use Rattle.std.proofs.Common.{◌≡◌, ◌||◌, ◌==◌, ◌<◌, ℕ, zero, suc, Bool, true, false, cond, not, is_some, List, [], ◌∷◌}
use Rattle.std.proofs.Common.{length, slice_get, get_or, Option, Some, None, option_map, Result, Ok, Err, IfOk, refl}
use Rattle.std.proofs.Common.{sym, ◌∙◌, ap, arith}
use Rattle.std.proofs.lemmas.Bool.{eqb-true}
use Rattle.std.proofs.lemmas.Option.{slice_get_within, slice_get-get_or, get_or_from_slice_get}
use Rattle.cjc_fixpoint.specs.Kept.{mark_of}
use Rattle.cjc_fixpoint.proofs.Runs.{mark_is}
use Rattle.cjc_fixpoint.proofs.Walking.{kept_in_full}
use Rattle.cjc_types.specs.World.Classes.{Class}
use Rattle.cjc_types.specs.declared.state.State.{State}
use Rattle.cjc_types.specs.declared.table.Frame.{Frame}
use Rattle.cjc_types.specs.declared.table.TypeTable.{TypeTable}
use Rattle.cjc_types.specs.Flow.{Body, type_flow}
use Rattle.cjc_types.specs.Marks.{is_marked, marks_of}
use Rattle.cjc_types.specs.Tables.{IsTypeTable, state_of, states_of, rows_of}
use Rattle.cjc_types.specs.Working.MarkLaws.{target_within, mark_some, mark_none}
use Rattle.cjc_intervals.specs.Frames.{RangeState}
use Rattle.cjc_intervals.specs.Flow.{rounded, is_target, by_types, arrival, first_state, entry}
use Rattle.cjc_flow.specs.Working.Kept.{Ranged, kept_arrival}

pub not_target : (b : Body) (to : ℕ) → is_marked b to ≡ false → is_target b to ≡ false
not_target b to e = go (to == 0) e
  where
    go : (z : Bool) → (z || is_target b to) ≡ false → is_target b to ≡ false
    go true h = absurd cc
    go false h = h

-- ---- marks

pub marked_is : (b : Body) (marks : List ℕ) (to : ℕ) → marks ≡ marks_of b → (to ≡ 0 → 0 < length b.insns)
    → (m : Option ℕ) → m ≡ mark_of marks to → is_some m ≡ is_marked b to
marked_is b marks to are some None is = sym (mark_none b to some (sym (is ∙ ap (λ (ms : List ℕ). mark_of ms to) are)))
marked_is b marks to are some (Some k) is = sym (mark_some b to k (sym (is ∙ ap (λ (ms : List ℕ). mark_of ms to) are)))

-- ---- what comes to a marked place

states_at : (frames : List (Option Frame)) (k : ℕ) (frame : Option Frame) → slice_get frames k ≡ Some frame
    → slice_get (states_of frames) k ≡ Some (option_map state_of frame)
states_at [] k frame e = absurd cc
states_at (f ∷ fs) zero frame e = let same : f ≡ frame = cc in ap (λ (g : Option Frame). Some (option_map state_of g))
    same
states_at (f ∷ fs) (suc k) frame e = states_at fs k frame e

pub typed_at : (w : List Class) (b : Body) (types : TypeTable) → IsTypeTable w b types
    → (to k : ℕ) (frame : Option Frame) → mark_of types.marks to ≡ Some k → slice_get types.frames k ≡ Some frame
    → get_or (rows_of b types) to None ≡ option_map state_of frame
typed_at w b types h to k frame is there =
    get_or_from_slice_get (rows_of b types) to (option_map state_of frame) None
    (kept_in_full (type_flow b) (length b.insns) types.marks (states_of types.frames) h.stands k to
    (mark_is types.marks to k is) ∙ states_at types.frames k frame there)

rounds_at : (b : Body) (to : ℕ) (first is : Bool) → first ≡ is_target b 0 → is ≡ (not (to == 0) || first)
    → is_marked b to ≡ true → is ≡ is_target b to
rounds_at b to first is is_first is_is marked = go (to == 0) refl is_is marked
  where
    go : (z : Bool) → (to == 0) ≡ z → is ≡ (not z || first) → (z || is_target b to) ≡ true → is ≡ is_target b to
    go false e h m = h ∙ sym m
    go true e h m = h ∙ is_first ∙ ap (is_target b) (sym (eqb-true to 0 e))

pub arrived_at : (r : Ranged) (w : List Class) (types : TypeTable) → IsTypeTable w r.body types
    → r.types ≡ rows_of r.body types → (first : Bool) → first ≡ is_target r.body 0
    → (to k : ℕ) (frame : Option Frame) (is : Bool) (x y : RangeState) → Some k ≡ mark_of types.marks to
    → slice_get types.frames k ≡ Some frame → is ≡ (not (to == 0) || first)
    → y ≡ by_types (option_map state_of frame) (cond is (rounded x) x) → y ≡ kept_arrival r to x
arrived_at r w types h typed first is_first to k frame is x y mark there is_is is_y =
    let marked = mark_some r.body to k (sym (mark ∙ ap (λ (ms : List ℕ). mark_of ms to) h.marks)) in
    is_y
    ∙ ap (λ (o : Option State). by_types o (cond is (rounded x) x))
    (sym (typed_at w r.body types h to k frame (sym mark) there)
    ∙ ap (λ (rows : List (Option State)). get_or rows to None) (sym typed))
    ∙ ap (λ (b : Bool). by_types (get_or r.types to None) (cond b (rounded x) x)) (rounds_at r.body to first is is_first
    is_is marked)
    ∙ ap (λ (b : Bool). cond b (arrival r.body r.types to x) x) (sym marked)

frames_sized : (frames : List (Option Frame)) → length (states_of frames) ≡ length frames
frames_sized [] = refl
frames_sized (f ∷ fs) = ap suc (frames_sized fs)

pub frame_there : (w : List Class) (b : Body) (types : TypeTable) → IsTypeTable w b types
    → (to k : ℕ) (items : List (Option Frame)) (frame : Option Frame) → Some k ≡ mark_of types.marks to
    → items ≡ types.frames → frame ≡ get_or items k frame → slice_get types.frames k ≡ Some frame
frame_there w b types h to k items frame mark is read =
    let lt = slice_get_within types.marks k to (mark_is types.marks to k (sym mark)) in
    let sized = h.stands.sized in
    let same = frames_sized types.frames in
    slice_get-get_or types.frames k frame (omega (arith, lt, sized, same))
    ∙ ap Some (sym (read ∙ ap (λ (fs : List (Option Frame)). get_or fs k frame) is))

pub arrived_ok : {E : Type 0} (r : Ranged) (to : ℕ) (x : RangeState) (frame : Option Frame) (is : Bool)
    (result : Result RangeState E)
    → ((y : RangeState) → y ≡ by_types (option_map state_of frame) (cond is (rounded x) x) → y ≡ kept_arrival r to x)
    → IfOk result (λ y. y ≡ by_types (option_map state_of frame) (cond is (rounded x) x))
    → IfOk result (λ y. y ≡ kept_arrival r to x)
arrived_ok r to x frame is (Ok y) h k = h y k
arrived_ok r to x frame is (Err e) h k = tt

pub entry_empty : (b : Body) (types : List (Option State)) → length types ≡ 0 → length b.insns ≡ 0
    → first_state b ≡ entry b types
entry_empty b [] none empty = go (is_target b 0) refl
  where
    go : (t : Bool) → is_target b 0 ≡ t → first_state b ≡ cond t (rounded (first_state b)) (first_state b)
    go false e = refl
    go true e = let lt = target_within b 0 e in absurd (omega (arith, lt, empty))
entry_empty b (t ∷ ts) none empty = absurd (omega (arith, none))

pub stays_at : (r : Ranged) (w : List Class) (types : TypeTable) → IsTypeTable w r.body types → 0 < length r.body.insns
    → (to : ℕ) (x : RangeState) → None ≡ mark_of types.marks to → x ≡ kept_arrival r to x
stays_at r w types h some to x none =
    ap (λ (b : Bool). cond b (arrival r.body r.types to x) x)
    (sym (mark_none r.body to (λ _. some) (sym (none ∙ ap (λ (ms : List ℕ). mark_of ms to) h.marks))))
