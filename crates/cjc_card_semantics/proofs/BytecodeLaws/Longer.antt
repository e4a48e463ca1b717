-- More instructions change nothing of a run that is over, and take back no note: once for every setting.
use Rattle.std.proofs.Common.{◌≡◌, ℕ, zero, suc, ◌+◌, ◌≤◌, refl, sym, ap, subst, ◌∙◌, arith, Bool, true, false, List}
use Rattle.std.proofs.Common.{[], ◌∷◌, ◌++◌, length, take, drop, reverse, append-nil, append_assoc}
use Rattle.std.specs.Prelude.{Option, Some, None, slice_get, nat_le, nat_lt, if◌then◌else◌, ◌≢◌}
use Rattle.cjc_export.specs.Bytes.declared.fault.MemberId.{MemberId}
use Rattle.cjc_script.specs.declared.value.Value.{Value}
use Rattle.cjc_script.specs.declared.value.Value.TheVariants.{Num, Null, Obj}
use Rattle.cjc_script.specs.declared.script.Act.{Act}
use Rattle.cjc_script.specs.declared.script.Entry.{Entry}
use Rattle.cjc_script.specs.declared.script.Reply.{Reply}
use Rattle.cjc_script.specs.declared.script.Reply.TheVariants.{Give, Throw}
use Rattle.cjc_script.specs.declared.script.Answer.{Answer}
use Rattle.cjc_script.specs.declared.report.Note.{Note}
use Rattle.cjc_script.specs.declared.report.Note.TheVariants.{Event, Result, Thrown}
use Rattle.cjc_script.specs.declared.report.Outcome.TheVariants.{Running, Unfit}
use Rattle.cjc_script.specs.Sorts.{Shape, OfClass, Sort, Signature, signature_of, result_fits}
use Rattle.cjc_script.specs.Agree.{IsBegun}
use Rattle.cjc_card_semantics.specs.Bytecode.Calculations.{Fault, NullPointer}
use Rattle.cjc_card_semantics.specs.Bytecode.Effects.{HeapObject, Object, shape, Effect, Go, Raise, Toss, Invoke, Leave}
use Rattle.cjc_card_semantics.specs.Bytecode.Effects.{Stick, effect}
use Rattle.cjc_card_semantics.specs.Bytecode.Arguments.{event_values, result_words, result_of}
use Rattle.cjc_card_semantics.specs.Bytecode.Machine.{Start, Reached, Nowhere, Within, Abroad, Fetched, Setting, Frame}
use Rattle.cjc_card_semantics.specs.Bytecode.Machine.{State, Turn, Next, Ended, StuckAt}
use Rattle.cjc_card_semantics.specs.Bytecode.Machine
use Rattle.cjc_card_semantics.specs.Bytecode.Runs.{Move, On, Over, Device, after, run, led, device, Lawful}

pub same_notes : (notes : List Note) → IsBegun notes notes
same_notes notes = ([], sym (append-nil notes))

pub begun_trans : (a b c : List Note) → IsBegun a b → IsBegun b c → IsBegun a c
begun_trans a b c h k = (h.0 ++ k.0, k.1 ∙ ap (λ l. l ++ k.0) h.1 ∙ append_assoc a h.0 k.0)

-- ---- any machine

-- a move that keeps the notes
abbrev pub Keeps : {S : Type 0} → Device S → List Note → Move S → Type 0
Keeps d notes (On s) = IsBegun notes (d.rest s).notes
Keeps d notes (Over r) = IsBegun notes r.notes

-- two laws of one turn are the laws of all runs
module _ {S : Type 0} (d : Device S) (still : (s : S) → (d.rest s).outcome ≢ Running → d.move s ≡ Over (d.rest s))
    (keeps : (s : S) → Keeps d (d.rest s).notes (d.move s)) where
  stays : (m k : ℕ) (s : S) → m ≤ k → (run d m s).outcome ≢ Running → run d k s ≡ run d m s
  stays zero zero s le over = refl
  stays zero (suc k) s le over = ap (λ x. after x (run d k)) (still s over)
  stays (suc m) zero s le over = absurd (omega arith)
  stays (suc m) (suc k) s le over = by (λ t. stays m k t (omega arith)) (d.move s) over
    where
      by : ((t : S) → (run d m t).outcome ≢ Running → run d k t ≡ run d m t) → (x : Move S)
          → (after x (run d m)).outcome ≢ Running → after x (run d k) ≡ after x (run d m)
      by later (On t) over = later t over
      by later (Over r) over = refl

  from_start : (k : ℕ) (s : S) → IsBegun (d.rest s).notes (run d k s).notes
  from_start zero s = same_notes (d.rest s).notes
  from_start (suc k) s = by (λ t. from_start k t) (d.move s) (keeps s)
    where
      by : ((t : S) → IsBegun (d.rest t).notes (run d k t).notes) → (x : Move S) → Keeps d (d.rest s).notes x
          → IsBegun (d.rest s).notes (after x (run d k)).notes
      by later (On t) h = begun_trans (d.rest s).notes (d.rest t).notes (run d k t).notes h (later t)
      by later (Over r) h = h

  grows : (m k : ℕ) (s : S) → m ≤ k → IsBegun (run d m s).notes (run d k s).notes
  grows zero k s le = from_start k s
  grows (suc m) zero s le = absurd (omega arith)
  grows (suc m) (suc k) s le = by (λ t. grows m k t (omega arith)) (d.move s)
    where
      by : ((t : S) → IsBegun (run d m t).notes (run d k t).notes) → (x : Move S)
          → IsBegun (after x (run d m)).notes (after x (run d k)).notes
      by later (On t) = later t
      by later (Over r) = same_notes r.notes

  pub lawful : Lawful d
  lawful = record { stays = stays; grows = grows }

-- ---- the machine of a setting

module _ {P C F S M X : Type 0} (set : Setting P C F S M X) where
  abbrev St : Type 0
  St = State P C F X

  abbrev Tn : Type 0
  Tn = Turn P C F X

  -- the run of the setting's machine is the run of its device
  pub run_same : (n : ℕ) (s : State P C F X) → run (device set) n s ≡ Machine.run set n s
  run_same zero s = refl
  run_same (suc n) s = by (λ t. run_same n t) (Machine.turn set s)
    where
      by : ((t : State P C F X) → run (device set) n t ≡ Machine.run set n t) → (x : Turn P C F X)
          → after (led set x) (run (device set) n) ≡ Machine.report_after_turn set x (Machine.run set n)
      by rest (Next t) = rest t
      by rest (Ended o t) = refl
      by rest (StuckAt at t) = refl

  -- the notes of a turn begin with these
  abbrev Adds : List Note → Turn P C F X → Type 0
  Adds notes (Next s) = IsBegun notes s.notes
  Adds notes (Ended o s) = IsBegun notes s.notes
  Adds notes (StuckAt at s) = IsBegun notes s.notes

  adds_more : (a b : List Note) (t : Turn P C F X) → IsBegun a b → Adds b t → Adds a t
  adds_more a b (Next s) h k = begun_trans a b s.notes h k
  adds_more a b (Ended o s) h k = begun_trans a b s.notes h k
  adds_more a b (StuckAt at s) h k = begun_trans a b s.notes h k

  -- ---- exceptions

  caught_adds : (from : ℕ) (frames : List (Frame P)) (object : ℕ) (kind : Shape C) (s : State P C F X)
      → Adds s.notes (Machine.caught set from frames object kind s)
  caught_adds from [] object kind s = (Thrown (Machine.type_name set kind) object ∷ [], refl)
  caught_adds from (f ∷ outer) object kind s = by (set.handler f.code f.at kind) (caught_adds from outer object kind s)
    where
      room : (t : Bool) (target : ℕ)
          → Adds s.notes (if t then Next (record s {
            frames = record f { at = target; stack = Obj object ∷ [] }
                ∷ outer;
          }) else StuckAt from s)
      room true target = same_notes s.notes
      room false target = same_notes s.notes

      by : (o : Option ℕ) → Adds s.notes (Machine.caught set from outer object kind s)
          → Adds s.notes (Machine.caught_at set o from f outer object s (Machine.caught set from outer object kind s))
      by None past = past
      by (Some target) past = room (nat_lt 0 (set.room f.code)) target

  raised_adds : (o : Option C) (f : Frame P) (outer : List (Frame P)) (s : State P C F X) (otherwise : Turn P C F X)
      → Adds s.notes otherwise → Adds s.notes (Machine.turn_after_raise set o f outer s otherwise)
  raised_adds None f outer s otherwise h = h
  raised_adds (Some c) f outer s otherwise h = caught_adds f.at (f ∷ outer) (length s.memory.heap) (OfClass c)
      (Machine.with_last set (Object c []) s)

  failed_adds : (fault : Fault) (f : Frame P) (outer : List (Frame P)) (s : State P C F X)
      → Adds s.notes (Machine.turn_after_fault set fault f outer s)
  failed_adds fault f outer s = raised_adds (set.fault fault) f outer s (StuckAt f.at s) (same_notes s.notes)

  tossed_adds : (o : Option (HeapObject C F)) (f : Frame P) (outer : List (Frame P)) (object : ℕ) (s : State P C F X)
      → Adds s.notes (Machine.turn_after_toss set o f outer object s)
  tossed_adds None f outer object s = same_notes s.notes
  tossed_adds (Some thing) f outer object s = caught_adds f.at (f ∷ outer) object (shape thing) s

  returned_adds : (from : ℕ) (words : List Value) (f : Frame P) (outer : List (Frame P)) (s : State P C F X)
      → Adds s.notes (Machine.returned set from words f outer s)
  returned_adds from words f outer s = by (nat_le (length (reverse words ++ f.stack)) (set.room f.code))
    where
      by : (t : Bool) → Adds s.notes (if t then Next (record s {
        frames = record f {
          at = f.next;
          stack = reverse words
              ++ f.stack;
        } ∷ outer;
      }) else StuckAt from s)
      by true = same_notes s.notes
      by false = same_notes s.notes

  -- ---- acts of the script

  prepared_adds : (acts : List Act) (number : ℕ) (s : State P C F X) (go : State P C F X → Turn P C F X)
      → ((t : State P C F X) → t.notes ≡ s.notes → Adds s.notes (go t))
      → Adds s.notes (Machine.turn_after_acts set acts number s go)
  prepared_adds [] number s go h = h s refl
  prepared_adds (a ∷ acts) number s go h = by (Machine.heap_after set a s.memory.heap) (λ heap. prepared_adds acts
      number (Machine.with_heap set heap s) go h)
    where
      by : (o : Option (List (HeapObject C F))) → ((heap : List (HeapObject C F))
          → Adds s.notes (Machine.turn_after_acts set acts number (Machine.with_heap set heap s) go))
          → Adds s.notes (Machine.prepared_by set o number s (λ t. Machine.turn_after_acts set acts number t go))
      by None later = same_notes s.notes
      by (Some heap) later = later heap

  -- ---- imported calls

  replied_adds : (r : Reply) (number : ℕ) (result : Option Sort) (f : Frame P) (outer : List (Frame P))
      (s : State P C F X) → Adds s.notes (Machine.turn_after_reply set r number result f outer s)
  replied_adds (Give v) number result f outer s = by (result_fits (Machine.object_fits set s.memory.heap) result v)
    where
      by : (t : Bool) → Adds s.notes (if t then Machine.returned set f.at (result_words result v) f outer s
          else Ended (Unfit number) s)
      by true = returned_adds f.at (result_words result v) f outer s
      by false = same_notes s.notes
  replied_adds (Throw class) number result f outer s = raised_adds (set.throwable class) f outer s
      (Ended (Unfit number) s) (same_notes s.notes)

  answered_adds : (answers : List Answer) (result : Option Sort) (f : Frame P) (outer : List (Frame P))
      (s : State P C F X) → Adds s.notes (Machine.turn_after_answer set answers result f outer s)
  answered_adds [] result f outer s = same_notes s.notes
  answered_adds (a ∷ answers) result f outer s =
      prepared_adds a.acts a.number (record s { answers = answers }) _
      (λ t e. subst (λ n. Adds n (Machine.turn_after_reply set a.reply a.number result f outer t)) e
      (replied_adds a.reply a.number result f outer t))

  noted_adds : (id : MemberId) (result : Option Sort) (o : Option (List Value)) (f : Frame P) (outer : List (Frame P))
      (s : State P C F X) → Adds s.notes (Machine.turn_after_event set id result o f outer s)
  noted_adds id result None f outer s = same_notes s.notes
  noted_adds id result (Some values) f outer s =
      adds_more s.notes (s.notes ++ Event id values ∷ []) _ (Event id values ∷ [], refl) (answered_adds s.answers result
      f outer (record s { notes = s.notes ++ Event id values ∷ [] }))

  typed_adds : (on : Bool) (id : MemberId) (o : Option Signature) (args : List Value) (f : Frame P)
      (outer : List (Frame P)) (s : State P C F X) → Adds s.notes (Machine.typed set on id o args f outer s)
  typed_adds on id None args f outer s = same_notes s.notes
  typed_adds on id (Some types) args f outer s = noted_adds id types.result (event_values on types.params args) f outer
      s

  outside_adds : (on : Bool) (id : MemberId) (args : List Value) (f : Frame P) (outer : List (Frame P))
      (s : State P C F X) → Adds s.notes (Machine.outside set on id args f outer s)
  outside_adds on id args f outer s = by (Machine.is_at_once id)
    where
      by : (t : Bool) → Adds s.notes (if t then Machine.returned set f.at [] f outer s
          else Machine.typed set on id (signature_of id.desc) args f outer s)
      by true = returned_adds f.at [] f outer s
      by false = typed_adds on id (signature_of id.desc) args f outer s

  -- ---- calls

  inside_adds : (m : Start P) (args : List Value) (f : Frame P) (outer : List (Frame P)) (s : State P C F X)
      → Adds s.notes (Machine.inside set m args f outer s)
  inside_adds m args f outer s = by m.is_abstract
    where
      by : (t : Bool) → Adds s.notes (if t then StuckAt f.at s
          else Next (record s { frames = Machine.frame_for_call m args ∷ f ∷ outer }))
      by true = same_notes s.notes
      by false = same_notes s.notes

  reaches_adds : (r : Reached P) (on : Bool) (args : List Value) (f : Frame P) (outer : List (Frame P))
      (s : State P C F X) → Adds s.notes (Machine.reaches set r on args f outer s)
  reaches_adds Nowhere on args f outer s = same_notes s.notes
  reaches_adds (Within m) on args f outer s = inside_adds m args f outer s
  reaches_adds (Abroad id) on args f outer s = outside_adds on id args f outer s

  reaches_on_adds : (m : M) (o : Option (HeapObject C F)) (args : List Value) (f : Frame P) (outer : List (Frame P))
      (s : State P C F X) → Adds s.notes (Machine.reaches_on set m o args f outer s)
  reaches_on_adds m None args f outer s = same_notes s.notes
  reaches_on_adds m (Some thing) args f outer s = reaches_adds (set.reached m (Some (shape thing))) true args f outer s

  on_receiver_adds : (m : M) (args : List Value) (f : Frame P) (outer : List (Frame P)) (s : State P C F X)
      → Adds s.notes (Machine.on_receiver set m args f outer s)
  on_receiver_adds m [] f outer s = same_notes s.notes
  on_receiver_adds m (Num x ∷ args) f outer s = same_notes s.notes
  on_receiver_adds m (Null ∷ args) f outer s = failed_adds NullPointer f outer s
  on_receiver_adds m (Obj k ∷ args) f outer s = reaches_on_adds m (slice_get s.memory.heap k) (Obj k ∷ args) f outer s

  with_args_adds : (on : Bool) (m : M) (args : List Value) (f : Frame P) (outer : List (Frame P)) (s : State P C F X)
      → Adds s.notes (Machine.with_args set on m args f outer s)
  with_args_adds false m args f outer s = reaches_adds (set.reached m None) false args f outer s
  with_args_adds true m args f outer s = on_receiver_adds m args f outer s

  counted_adds : (o : Option ℕ) (m : M) (f : Frame P) (outer : List (Frame P)) (s : State P C F X)
      → Adds s.notes (Machine.counted set o m f outer s)
  counted_adds None m f outer s = same_notes s.notes
  counted_adds (Some n) m f outer s = by (nat_le n (length f.stack))
    where
      by : (t : Bool) → Adds s.notes (if t then Machine.with_args set (set.on_object m) m (reverse (take n f.stack))
          (record f { stack = drop n f.stack }) outer s else StuckAt f.at s)
      by true = with_args_adds (set.on_object m) m (reverse (take n f.stack)) (record f { stack = drop n f.stack })
          outer s
      by false = same_notes s.notes

  left_adds : (words : List Value) (f : Frame P) (outer : List (Frame P)) (s : State P C F X)
      → Adds s.notes (Machine.left set words f outer s)
  left_adds words f [] s = (Result (result_of words) ∷ [], refl)
  left_adds words f (g ∷ outer) s = returned_adds f.at words g outer s

  made_adds : (a : Effect C F M X) (next : ℕ) (f : Frame P) (outer : List (Frame P)) (s : State P C F X)
      → Adds s.notes (Machine.made set a next f outer s)
  made_adds (Go at stack locals m) next f outer s = same_notes s.notes
  made_adds (Raise fault) next f outer s = failed_adds fault f outer s
  made_adds (Toss object) next f outer s = tossed_adds (slice_get s.memory.heap object) f outer object s
  made_adds (Invoke m) next f outer s = counted_adds (set.words m) m (record f { next = next }) outer s
  made_adds (Leave words) next f outer s = left_adds words f outer s
  made_adds Stick next f outer s = same_notes s.notes

  -- ---- a turn

  fetched_adds : (o : Option (Fetched C F S M)) (f : Frame P) (outer : List (Frame P)) (s : State P C F X)
      → Adds s.notes (Machine.turn_after_fetch set o f outer s)
  fetched_adds None f outer s = same_notes s.notes
  fetched_adds (Some i) f outer s = made_adds (effect set.classes i.operation (set.room f.code) i.next f.locals s.memory
      f.stack) i.next f outer s

  spent_adds : (notes : List Note) (n : ℕ) (t : Turn P C F X) → Adds notes t → Adds notes (Machine.spent_by set n t)
  spent_adds notes n (Next s) h = h
  spent_adds notes n (Ended o s) h = h
  spent_adds notes n (StuckAt at s) h = h

  step_adds : (frames : List (Frame P)) (s : State P C F X) → Adds s.notes (Machine.step set frames s)
  step_adds [] s = same_notes s.notes
  step_adds (f ∷ outer) s = spent_adds s.notes s.spent _ (fetched_adds (set.fetch f.code f.at) f outer
      (record s { spent = s.spent + 1 }))

  entered_adds : (o : Option (Start P)) (words : Option (List Value)) (e : Entry) (entries : List Entry)
      (s : State P C F X) → Adds s.notes (Machine.entered_by set o words e entries s)
  entered_adds None words e entries s = same_notes s.notes
  entered_adds (Some m) None e entries s = same_notes s.notes
  entered_adds (Some m) (Some words) e entries s = same_notes s.notes

  begins_adds : (frames : List (Frame P)) (entries : List Entry) (s : State P C F X)
      → Adds s.notes (Machine.begins set frames entries s)
  begins_adds [] [] s = same_notes s.notes
  begins_adds (f ∷ outer) entries s = same_notes s.notes
  begins_adds [] (e ∷ entries) s =
      prepared_adds e.acts e.number s _
      (λ t same. subst (λ n. Adds n (Machine.entered_by set (Machine.entry_start set t.memory.heap e)
      (Machine.entry_words set t.memory.heap e) e entries t)) same
      (entered_adds (Machine.entry_start set t.memory.heap e) (Machine.entry_words set t.memory.heap e) e entries
      t))

  turn_adds : (s : State P C F X) → Adds s.notes (Machine.turn set s)
  turn_adds s = by (Machine.begins set s.frames s.entries s) (begins_adds s.frames s.entries s)
    where
      by : (t : Turn P C F X) → Adds s.notes t
          → Adds s.notes (Machine.and_then set t (λ u. Machine.step set u.frames u))
      by (Next u) h = adds_more s.notes u.notes _ h (step_adds u.frames u)
      by (Ended o u) h = h
      by (StuckAt at u) h = h

  -- ---- the two laws

  keeps : (s : State P C F X) → Keeps (device set) s.notes (led set (Machine.turn set s))
  keeps s = by (Machine.turn set s) (turn_adds s)
    where
      by : (t : Turn P C F X) → Adds s.notes t → Keeps (device set) s.notes (led set t)
      by (Next u) h = h
      by (Ended o u) h = h
      by (StuckAt at u) h = h

  still : (s : State P C F X) → Machine.idle set s.frames s.entries ≢ Running → led set (Machine.turn set s)
      ≡ Over (Machine.report set (Machine.idle set s.frames s.entries) s)
  still s over = by s.frames s.entries over
    where
      by : (frames : List (Frame P)) (entries : List Entry) → Machine.idle set frames entries ≢ Running
          → led set (Machine.and_then set (Machine.begins set frames entries s) (λ t. Machine.step set t.frames t))
          ≡ Over (Machine.report set (Machine.idle set frames entries) s)
      by [] [] over = refl
      by [] (e ∷ entries) over = absurd (over refl)
      by (f ∷ outer) entries over = absurd (over refl)

  pub machine_lawful : Lawful (device set)
  machine_lawful = lawful (device set) still keeps

  pub over_stays : (m k : ℕ) (s : State P C F X) → m ≤ k → (Machine.run set m s).outcome ≢ Running
      → Machine.run set k s ≡ Machine.run set m s
  over_stays m k s le over =
      sym (run_same k s) ∙ machine_lawful.stays m k s le (subst (λ r. r.outcome ≢ Running) (sym (run_same m s)) over)
      ∙ run_same m s

  pub notes_grow : (m k : ℕ) (s : State P C F X) → m ≤ k
      → IsBegun (Machine.run set m s).notes (Machine.run set k s).notes
  notes_grow m k s le =
      subst (λ r. IsBegun r.notes (Machine.run set k s).notes) (run_same m s)
      (subst (λ r. IsBegun (run (device set) m s).notes r.notes) (run_same k s) (machine_lawful.grows m k s le))

  -- A state in which an entry begins has the turn of the state in which it has begun.
  pub begun_turn : (s t : State P C F X) (f : Frame P) (outer : List (Frame P))
      → Machine.begins set s.frames s.entries s ≡ Next t → t.frames ≡ f ∷ outer
      → Machine.turn set s ≡ Machine.turn set t
  begun_turn s t f outer e has =
      ap (λ x. Machine.and_then set x (λ u. Machine.step set u.frames u)) e
      ∙ sym (ap (λ frames. Machine.and_then set (Machine.begins set frames t.entries t) (λ u. Machine.step set u.frames
      u)) has)
