-- More instructions change nothing of a run that is over, and take back no note.
use Rattle.std.proofs.Common.{◌≡◌, ℕ, zero, suc, ◌+◌, ◌≤◌, refl, sym, ap, ◌∙◌, arith, Bool, true, false, List, [], ◌∷◌, ◌++◌, length, take, drop, reverse, append-nil, append_assoc, ℤ}
use Rattle.std.specs.Prelude.{Option, Some, None, slice_get, nat_lt, nat_le, ◌&&◌, if◌then◌else◌, ◌≢◌, map, option_map, ◌==◌, codes}
use Rattle.cjc_bytes.specs.declared.fault.MemberId.{MemberId}
use Rattle.cjc_capread.specs.declared.tree.ClassRef.{ClassRef}
use Rattle.cjc_script.specs.declared.script.Entry.{Entry}
use Rattle.cjc_script.specs.declared.script.Reply.{Reply}
use Rattle.cjc_script.specs.declared.script.Reply.TheVariants.{Give, Throw}
use Rattle.cjc_script.specs.declared.script.Answer.{Answer}
use Rattle.cjc_script.specs.declared.report.Note.{Note}
use Rattle.cjc_script.specs.declared.report.Note.TheVariants as notes
use Rattle.cjc_script.specs.declared.report.Outcome.TheVariants.{Done, Running, Waiting, Unfit, Stuck}
use Rattle.cjc_script.specs.Agree.{IsBegun}
use Rattle.cjc_first.specs.Scripts.Types.{Sort, Signature, signature}
use Rattle.cjc_first.specs.Scripts.Fits.{result_fits}
use Rattle.cjc_first.specs.TokenMachine.Cells.{Cell, Word, Null, Obj, Thing, Numbers, References, Object, Store, NullPointer}
use Rattle.cjc_first.specs.TokenMachine.Rows.{Deed, Go, Raise, Toss, Invoke, Leave, Stick, Fetched, fetch}
use Rattle.cjc_first.specs.TokenMachine.Naming.{Callee, Within, Imported, AtOnce, Begun, Loaded}
use Rattle.cjc_first.specs.TokenMachine.ByToken.{Frame, State, Turn, Next, Ended, named_heap, value_of, cell_of, handler, caught_at, caught, with_thing, raised, raised_if, tossed, returned_to, returned, Prepared, prepared, with_heap, thrown, replied, answered_by, answered, noted, called_at, reached, class_in, dispatched, counted, invoked, done, is_inside, executed, spend_in, step, entry_offset, args_of, args_fit, begun_at, begun_in, begun_by, begun, and_then, turn, idle, settled, run_from}

module _ (l : Loaded) where
  -- a run that is over
  still : (k : ℕ) (frames : List Frame) (store : Store) (entries : List Entry) (answers : List Answer) (notes : List Note) (spent : ℕ) → idle frames entries ≢ Running → run_from l k (record { frames = frames; store = store; entries = entries; answers = answers; notes = notes; spent = spent }) ≡ run_from l zero (record { frames = frames; store = store; entries = entries; answers = answers; notes = notes; spent = spent })
  still zero frames store entries answers notes spent over = refl
  still (suc k) [] store [] answers notes spent over = refl
  still (suc k) [] store (e ∷ entries) answers notes spent over = absurd (over refl)
  still (suc k) (f ∷ outer) store entries answers notes spent over = absurd (over refl)

  pub over_stays : (m k : ℕ) (t : State) → m ≤ k → (run_from l m t).outcome ≢ Running → run_from l k t ≡ run_from l m t
  over_stays zero k t le over = still k t.frames t.store t.entries t.answers t.notes t.spent over
  over_stays (suc m) zero t le over = absurd (omega arith)
  over_stays (suc m) (suc k) t le over = after (λ s. over_stays m k s (omega arith)) (turn l t) over
    where
      after : ((s : State) → (run_from l m s).outcome ≢ Running → run_from l k s ≡ run_from l m s) → (u : Turn) → (settled l u (run_from l m)).outcome ≢ Running → settled l u (run_from l k) ≡ settled l u (run_from l m)
      after stays (Next s) over = stays s over
      after stays (Ended o s) over = refl

  -- notes are only added
  abbrev Adds : List Note → Turn → Type 0
  Adds old (Next s) = IsBegun old s.notes
  Adds old (Ended o s) = IsBegun old s.notes

  same_notes : (old : List Note) → IsBegun old old
  same_notes old = ([], sym (append-nil old))

  begun_trans : (a b c : List Note) → IsBegun a b → IsBegun b c → IsBegun a c
  begun_trans a b c h k = (h.0 ++ k.0, k.1 ∙ ap (λ l. l ++ k.0) h.1 ∙ append_assoc a h.0 k.0)

  adds_more : (a b : List Note) (t : Turn) → IsBegun a b → Adds b t → Adds a t
  adds_more a b (Next s) h k = begun_trans a b s.notes h k
  adds_more a b (Ended o s) h k = begun_trans a b s.notes h k

  adds_if : (old : List Note) (b : Bool) (t u : Turn) → Adds old t → Adds old u → Adds old (if b then t else u)
  adds_if old true t u h k = h
  adds_if old false t u h k = k

  caught_adds : (frames : List Frame) (k : ℕ) (class : ClassRef) (s : State) → Adds s.notes (caught l frames k class s)
  caught_adds [] k class s = (notes.Thrown (l.name_of class) k ∷ [], refl)
  caught_adds (f ∷ outer) k class s = by (caught_adds outer k class s) (handler l l.handlers f.at class)
    where
      by : Adds s.notes (caught l outer k class s) → (o : Option ℕ) → Adds s.notes (caught_at o f outer k s (caught l outer k class s))
      by past None = past
      by past (Some to) = same_notes s.notes

  raised_adds : (frames : List Frame) (class : ClassRef) (s : State) → Adds s.notes (raised l frames class s)
  raised_adds frames class s = caught_adds frames (length s.store.heap) class (with_thing (Object class []) s)

  raised_if_adds : (o : Option ClassRef) (f : Frame) (outer : List Frame) (s : State) → Adds s.notes (raised_if l o f outer s)
  raised_if_adds None f outer s = same_notes s.notes
  raised_if_adds (Some class) f outer s = raised_adds (f ∷ outer) class s

  tossed_adds : (o : Option Thing) (f : Frame) (outer : List Frame) (k : ℕ) (s : State) → Adds s.notes (tossed l o f outer k s)
  tossed_adds None f outer k s = same_notes s.notes
  tossed_adds (Some (Object class slots)) f outer k s = caught_adds (f ∷ outer) k class s
  tossed_adds (Some (Numbers e items)) f outer k s = same_notes s.notes
  tossed_adds (Some (References class items)) f outer k s = same_notes s.notes

  returned_to_adds : (v : Option Cell) (f : Frame) (outer : List Frame) (s : State) → Adds s.notes (returned_to v f outer s)
  returned_to_adds None f outer s = same_notes s.notes
  returned_to_adds (Some v) f outer s = adds_if s.notes (nat_lt (length f.stack) f.room) _ _ (same_notes s.notes) (same_notes s.notes)

  returned_adds : (frames : List Frame) (v : Option Cell) (s : State) → Adds s.notes (returned frames v s)
  returned_adds [] v s = (notes.Result (option_map value_of v) ∷ [], refl)
  returned_adds (f ∷ outer) v s = returned_to_adds v f outer s

  thrown_adds : (o : Option ClassRef) (number : ℕ) (frames : List Frame) (s : State) → Adds s.notes (thrown l o number frames s)
  thrown_adds None number frames s = same_notes s.notes
  thrown_adds (Some class) number frames s = raised_adds frames class s

  replied_adds : (r : Reply) (number : ℕ) (result : Option Sort) (frames : List Frame) (s : State) → Adds s.notes (replied l r number result frames s)
  replied_adds (Give v) number result frames s = adds_if s.notes (result_fits l.subtype (named_heap l s.store.heap) result v) _ _ (returned_adds frames (option_map cell_of v) s) (same_notes s.notes)
  replied_adds (Throw class) number result frames s = adds_if s.notes (l.is_imported class && l.subtype class (codes "java/lang/Throwable")) _ _ (thrown_adds (l.class_of class) number frames s) (same_notes s.notes)

  answered_by_adds : (a : Answer) (result : Option Sort) (frames : List Frame) (p : Prepared) (s : State) → Adds s.notes (answered_by l a result frames p s)
  answered_by_adds a result frames p s = adds_if s.notes p.fit _ _ (replied_adds a.reply a.number result frames (with_heap p.heap s)) (same_notes s.notes)

  answered_adds : (answers : List Answer) (result : Option Sort) (frames : List Frame) (s : State) → Adds s.notes (answered l answers result frames s)
  answered_adds [] result frames s = same_notes s.notes
  answered_adds (a ∷ answers) result frames s = answered_by_adds a result frames (prepared l a.acts s.store.heap) (record s { answers = answers })

  noted_adds : (id : MemberId) (types : Option Signature) (args : List Cell) (f g : Frame) (outer : List Frame) (s : State) → Adds s.notes (noted l id types args f g outer s)
  noted_adds id None args f g outer s = same_notes s.notes
  noted_adds id (Some types) args f g outer s =
      let more : List Note = notes.Event id (map value_of args) ∷ [] in
      adds_more s.notes (s.notes ++ more) _ (more, refl) (answered_adds s.answers types.result (g ∷ outer) (record s { notes = s.notes ++ more }))

  called_at_adds : (o : Option Begun) (args : List Cell) (f g : Frame) (outer : List Frame) (s : State) → Adds s.notes (called_at o args f g outer s)
  called_at_adds None args f g outer s = same_notes s.notes
  called_at_adds (Some m) args f g outer s = same_notes s.notes

  reached_adds : (c : Option Callee) (args : List Cell) (f g : Frame) (outer : List Frame) (s : State) → Adds s.notes (reached l c args f g outer s)
  reached_adds None args f g outer s = same_notes s.notes
  reached_adds (Some (Within offset)) args f g outer s = called_at_adds (l.begun offset) args f g outer s
  reached_adds (Some (Imported id)) args f g outer s = noted_adds id (signature id.desc) args f g outer s
  reached_adds (Some AtOnce) args f g outer s = returned_adds (g ∷ outer) None s

  dispatched_adds : (op : ℕ) (operands : List ℤ) (args : List Cell) (f g : Frame) (outer : List Frame) (s : State) → Adds s.notes (dispatched l op operands args f g outer s)
  dispatched_adds op operands [] f g outer s = same_notes s.notes
  dispatched_adds op operands (Obj k ∷ args) f g outer s = reached_adds (l.called op operands (class_in l (slice_get s.store.heap k))) (Obj k ∷ args) f g outer s
  dispatched_adds op operands (Null ∷ args) f g outer s = raised_if_adds (l.fault NullPointer) f outer s
  dispatched_adds op operands (Word z ∷ args) f g outer s = same_notes s.notes

  counted_adds : (n : Option ℕ) (f : Frame) (s : State) (go : List Cell → Frame → Turn) → ((args : List Cell) (g : Frame) → Adds s.notes (go args g)) → Adds s.notes (counted n f s go)
  counted_adds None f s go h = same_notes s.notes
  counted_adds (Some n) f s go h = adds_if s.notes (nat_le n (length f.stack)) _ _ (h (reverse (take n f.stack)) (record f { stack = drop n f.stack })) (same_notes s.notes)

  invoked_adds : (op : ℕ) (operands : List ℤ) (f : Frame) (outer : List Frame) (s : State) → Adds s.notes (invoked l op operands f outer s)
  invoked_adds op operands f outer s =
      counted_adds (l.nargs op operands) f s _ (λ args g.
      adds_if s.notes (op == 0x8D) _ _ (reached_adds (l.called op operands None) args f g outer s) (dispatched_adds op operands args f g outer s))

  done_adds : (d : Deed) (next : ℕ) (f : Frame) (outer : List Frame) (s : State) → Adds s.notes (done l d next f outer s)
  done_adds (Go at stack locals store) next f outer s = same_notes s.notes
  done_adds (Raise fault) next f outer s = raised_if_adds (l.fault fault) f outer s
  done_adds (Toss k) next f outer s = tossed_adds (slice_get s.store.heap k) f outer k s
  done_adds (Invoke op operands) next f outer s = invoked_adds op operands (record f { behind = next }) outer s
  done_adds (Leave v) next f outer s = returned_adds outer v s
  done_adds Stick next f outer s = same_notes s.notes

  executed_adds : (o : Option Fetched) (f : Frame) (outer : List Frame) (s : State) → Adds s.notes (executed l o f outer s)
  executed_adds None f outer s = same_notes s.notes
  executed_adds (Some i) f outer s = adds_if s.notes (is_inside f i.size) _ _ (done_adds (i.does f.room (f.at + i.size) f.locals s.store f.stack) (f.at + i.size) f outer s) (same_notes s.notes)

  spend_adds : (old : List Note) (t : Turn) → Adds old t → Adds old (spend_in t)
  spend_adds old (Next s) h = h
  spend_adds old (Ended Done s) h = h
  spend_adds old (Ended Running s) h = h
  spend_adds old (Ended Waiting s) h = h
  spend_adds old (Ended (Unfit k) s) h = h
  spend_adds old (Ended (Stuck at) s) h = h

  step_adds : (frames : List Frame) (s : State) → Adds s.notes (step l frames s)
  step_adds [] s = same_notes s.notes
  step_adds (f ∷ outer) s = spend_adds s.notes _ (executed_adds (fetch (l.from f.at)) f outer s)

  begun_at_adds : (o : Option Begun) (e : Entry) (entries : List Entry) (s : State) → Adds s.notes (begun_at l o e entries s)
  begun_at_adds None e entries s = same_notes s.notes
  begun_at_adds (Some m) e entries s = adds_if s.notes (args_fit l s.store.heap (signature e.method.desc) (args_of e)) _ _ (same_notes s.notes) (same_notes s.notes)

  begun_in_adds : (o : Option ℕ) (e : Entry) (entries : List Entry) (s : State) → Adds s.notes (begun_in l o e entries s)
  begun_in_adds None e entries s = same_notes s.notes
  begun_in_adds (Some offset) e entries s = begun_at_adds (l.begun offset) e entries s

  begun_adds : (frames : List Frame) (entries : List Entry) (s : State) → Adds s.notes (begun l frames entries s)
  begun_adds [] [] s = same_notes s.notes
  begun_adds [] (e ∷ entries) s = by (prepared l e.acts s.store.heap)
    where
      by : (p : Prepared) → Adds s.notes (begun_by l p e entries s)
      by p = adds_if s.notes p.fit _ _ (begun_in_adds (entry_offset l e p.heap) e entries (with_heap p.heap s)) (same_notes s.notes)
  begun_adds (f ∷ outer) entries s = same_notes s.notes

  turn_adds : (s : State) → Adds s.notes (turn l s)
  turn_adds s = by (begun l s.frames s.entries s) (begun_adds s.frames s.entries s)
    where
      by : (t : Turn) → Adds s.notes t → Adds s.notes (and_then t (λ u. step l u.frames u))
      by (Next u) h = adds_more s.notes u.notes _ h (step_adds u.frames u)
      by (Ended o u) h = h

  -- the notes of a shorter run are the beginning of a longer one's
  from_start : (k : ℕ) (t : State) → IsBegun t.notes (run_from l k t).notes
  from_start zero t = same_notes t.notes
  from_start (suc k) t = by (turn l t) (turn_adds t) (λ s. from_start k s)
    where
      by : (u : Turn) → Adds t.notes u → ((s : State) → IsBegun s.notes (run_from l k s).notes) → IsBegun t.notes (settled l u (run_from l k)).notes
      by (Next s) h more = begun_trans t.notes s.notes _ h (more s)
      by (Ended o s) h more = h

  pub notes_grow : (m k : ℕ) (t : State) → m ≤ k → IsBegun (run_from l m t).notes (run_from l k t).notes
  notes_grow zero k t le = from_start k t
  notes_grow (suc m) zero t le = absurd (omega arith)
  notes_grow (suc m) (suc k) t le = by (turn l t) (λ s. notes_grow m k s (omega arith))
    where
      by : (u : Turn) → ((s : State) → IsBegun (run_from l m s).notes (run_from l k s).notes) → IsBegun (settled l u (run_from l m)).notes (settled l u (run_from l k)).notes
      by (Next s) more = more s
      by (Ended o s) more = same_notes s.notes
