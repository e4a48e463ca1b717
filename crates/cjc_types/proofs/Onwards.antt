-- How a walk over the frames of a method goes on.
use Rattle.std.proofs.Common.{◌≡◌, ◌<◌, ◌+◌, ℕ, zero, suc, List, [], ◌∷◌, Option, Some, None, option_map, slice_get}
use Rattle.std.proofs.Common.{get_or, length, refl, sym, ◌∙◌, ap, subst, arith}
use Rattle.std.proofs.lemmas.Option.{slice_get_within}
use Rattle.cjc_fixpoint.specs.Kept.{handed_on, mark_of, kept_or, row_of}
use Rattle.cjc_fixpoint.proofs.Runs.{full_at}
use Rattle.cjc_fixpoint.proofs.Walking as walking
use Rattle.cjc_world.specs.Classes.{Class}
use Rattle.cjc_types.specs.declared.state.State.{State}
use Rattle.cjc_types.specs.declared.table.Frame.{Frame}
use Rattle.cjc_types.specs.declared.table.TypeTable.{TypeTable}
use Rattle.cjc_types.specs.Flow.{Body, type_flow}
use Rattle.cjc_types.specs.Search.{frame_of}
use Rattle.cjc_types.specs.Tables.{IsTypeTable, state_of, states_of, rows_of}
use Rattle.cjc_types.specs.Typed.{AreFrames}
use Rattle.cjc_types.specs.Walks.{IsTypeWalk}
use Rattle.cjc_types.proofs.Typed.{are_frames}

states_at : (frames : List (Option Frame)) (k : ℕ) → option_map state_of (get_or frames k None)
    ≡ get_or (states_of frames) k None
states_at [] k = refl
states_at (f ∷ fs) zero = refl
states_at (f ∷ fs) (suc k) = states_at fs k

states_sized : (frames : List (Option Frame)) → length (states_of frames) ≡ length frames
states_sized [] = refl
states_sized (f ∷ fs) = ap suc (states_sized fs)

frame_back : (rows : List (Option State)) → AreFrames rows → (place : ℕ) (row : Option State) → slice_get rows place
    ≡ Some row → option_map state_of (option_map frame_of row) ≡ row
frame_back rows framed place None e = refl
frame_back rows framed place (Some x) e = let f = framed place x e
    in ap Some (subst (λ (y : State). state_of (frame_of y) ≡ y) (sym f.1) refl)

module _ (b : Body) (types : TypeTable) where
  pub inside : (at : ℕ) → at < length (rows_of b types) → at < length b.insns
  inside at lt = walking.inside (type_flow b) (length b.insns) types.marks (states_of types.frames) at lt

  pub begun : (w : List Class) → IsTypeTable w b types → IsTypeWalk b types 0 0 None
  begun w is = record {
    framed = are_frames w b types is;
    marks = is.marks;
    walk = record {
      stands = is.stands;
      within = omega arith;
      before = λ k x there less. absurd (omega (arith, less));
      behind = λ k x there more. omega arith;
      here = λ lt. refl;
    };
  }

  module _ (at mark : ℕ) (handed : Option Frame) (h : IsTypeWalk b types at mark handed) where
    -- a walk that is over
    pub over : (end n : ℕ) (rest : Option Frame) → end ≡ length b.insns → n ≡ length types.marks
        → IsTypeWalk b types end n rest
    over end n rest ends is =
        subst (λ (i : ℕ). IsTypeWalk b types i n rest) (sym ends)
        (record {
          framed = h.framed;
          marks = h.marks;
          walk = walking.over (type_flow b) (length b.insns) types.marks
              (states_of types.frames) h.walk.stands n (option_map state_of rest) is;
        })

    -- a frame that is read at a mark
    pub read_frame : (items : List (Option Frame)) (frame : Option Frame) → items ≡ types.frames
        → slice_get types.marks mark ≡ Some at → frame ≡ get_or items mark frame → frame ≡ get_or types.frames mark None
    read_frame items frame is there read =
        let lt = slice_get_within types.marks mark at there in
        let sized = h.walk.stands.sized in
        let same = states_sized types.frames in
        walking.read_row items types.frames mark frame is (omega (arith, lt, sized, same)) read

    pub kept_row : (frame : Option Frame) → slice_get types.marks mark ≡ Some at → frame ≡ get_or types.frames mark None
        → option_map state_of frame ≡ row_of (type_flow b) types.marks (states_of types.frames) at
    kept_row frame there is = ap (option_map state_of) is ∙ states_at types.frames mark
        ∙ sym (walking.kept_row (type_flow b) (length b.insns) types.marks (states_of types.frames) at mark
        (option_map state_of handed) h.walk there)

    pub handed_row : (slice_get types.marks mark ≡ Some at → ⊥) → at < length b.insns → option_map state_of handed
        ≡ row_of (type_flow b) types.marks (states_of types.frames) at
    handed_row not lt = sym (walking.handed_row (type_flow b) (length b.insns) types.marks (states_of types.frames) at
        mark (option_map state_of handed) h.walk not lt)

    -- it is the row of the place
    pub given : (frame : Option Frame) → at < length b.insns → option_map state_of frame
        ≡ row_of (type_flow b) types.marks (states_of types.frames) at → slice_get (rows_of b types) at
        ≡ Some (option_map state_of frame)
    given frame lt is = full_at (type_flow b) types.marks (states_of types.frames) (length b.insns) at lt
        ∙ ap Some (sym is)

    -- what is handed on as a frame is handed on as a state
    next_state : (frame next : Option Frame) → option_map state_of frame ≡ row_of (type_flow b) types.marks
        (states_of types.frames) at
        → (at + 1 < length b.insns → mark_of types.marks (at + 1) ≡ None
        → next ≡ option_map frame_of (handed_on (type_flow b) at (option_map state_of frame)))
        → at + 1 < length b.insns → mark_of types.marks (at + 1) ≡ None → option_map state_of next
        ≡ handed_on (type_flow b) at (option_map state_of frame)
    next_state frame next is_row is_next lt none =
        let flow = type_flow b in
        let rows = states_of types.frames in
        let here = go (at + 1) (omega arith) none in
        ap (option_map state_of) (is_next lt none)
        ∙ frame_back (rows_of b types) h.framed (at + 1) (handed_on flow at (option_map state_of frame))
        (full_at flow types.marks rows (length b.insns) (at + 1) lt ∙ ap Some here)
      where
        go : (to : ℕ) → to ≡ suc at → mark_of types.marks to ≡ None
            → row_of (type_flow b) types.marks (states_of types.frames) to ≡ handed_on (type_flow b) at
            (option_map state_of frame)
        go to e none =
            subst (λ (i : ℕ). mark_of types.marks i ≡ None → row_of (type_flow b) types.marks (states_of types.frames) i
            ≡ handed_on (type_flow b) at (option_map state_of frame)) (sym e)
            (λ no. ap (λ (m : Option ℕ). kept_or (states_of types.frames) m (handed_on (type_flow b) at
            (row_of (type_flow b) types.marks (states_of types.frames) at))) no
            ∙ ap (handed_on (type_flow b) at) (sym is_row)) none

    pub after_mark : (frame next : Option Frame) → at < length b.insns → slice_get types.marks mark ≡ Some at
        → frame ≡ get_or types.frames mark None
        → (at + 1 < length b.insns → mark_of types.marks (at + 1) ≡ None
        → next ≡ option_map frame_of (handed_on (type_flow b) at (option_map state_of frame)))
        → IsTypeWalk b types (at + 1) (mark + 1) next
    after_mark frame next lt there is is_next = record {
      framed = h.framed;
      marks = h.marks;
      walk = walking.after_mark (type_flow b) (length b.insns) types.marks (states_of types.frames) at mark
          (option_map state_of handed) h.walk (option_map state_of frame) (option_map state_of next) lt there
          (ap (option_map state_of) is ∙ states_at types.frames mark) (next_state frame next (kept_row frame there is)
          is_next);
    }

    pub after_unmarked : (next : Option Frame) → at < length b.insns → (slice_get types.marks mark ≡ Some at → ⊥)
        → (at + 1 < length b.insns → mark_of types.marks (at + 1) ≡ None
        → next ≡ option_map frame_of (handed_on (type_flow b) at (option_map state_of handed)))
        → IsTypeWalk b types (at + 1) mark next
    after_unmarked next lt not is_next = record {
      framed = h.framed;
      marks = h.marks;
      walk = walking.after_unmarked (type_flow b) (length b.insns) types.marks (states_of types.frames) at mark
          (option_map state_of handed) h.walk (option_map state_of next) lt not
          (next_state handed next (handed_row not lt) is_next);
    }
