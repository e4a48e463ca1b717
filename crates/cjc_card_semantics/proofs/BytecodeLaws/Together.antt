-- Two machines whose look-ups are the same under other names and places run alike.
use Rattle.std.proofs.Common.{◌≡◌, ℕ, zero, suc, ◌+◌, refl, sym, ap, subst, ◌∙◌, Bool, true, false, List, [], ◌∷◌, ◌++◌}
use Rattle.std.proofs.Common.{length, take, drop, reverse, replicate, ℤ, pos, negsuc}
use Rattle.std.specs.Prelude.{Option, Some, None, map, nat_le, nat_lt, slice_get, slice_set, if◌then◌else◌, ◌&&◌}
use Rattle.std.specs.Prelude.{option_map, option_and_then}
use Rattle.cjc_export.specs.Bytes.declared.fault.MemberId.{MemberId}
use Rattle.cjc_script.specs.declared.value.Value.{Value}
use Rattle.cjc_script.specs.declared.value.Value.TheVariants.{Num, Null, Obj}
use Rattle.cjc_script.specs.declared.script.Act.{Act}
use Rattle.cjc_script.specs.declared.script.Act.TheVariants as acts
use Rattle.cjc_script.specs.declared.script.Entry.{Entry}
use Rattle.cjc_script.specs.declared.script.Reply.{Reply}
use Rattle.cjc_script.specs.declared.script.Reply.TheVariants.{Give, Throw}
use Rattle.cjc_script.specs.declared.script.Answer.{Answer}
use Rattle.cjc_script.specs.declared.report.Thing.TheVariants as shown_things
use Rattle.cjc_script.specs.declared.report.Note.TheVariants.{Event, Result, Thrown}
use Rattle.cjc_script.specs.declared.report.Outcome.{Outcome}
use Rattle.cjc_script.specs.declared.report.Outcome.TheVariants.{Done, Waiting, Unfit}
use Rattle.cjc_script.specs.Sorts.{Shape, OfClass, OfNumbers, OfReferences, Sort, Boolean, Byte, Short, Int, Reference}
use Rattle.cjc_script.specs.Sorts.{NoValue, Signature, shape_named, shape_name, signature_of, element_sort, fits}
use Rattle.cjc_script.specs.Sorts.{all_fit, result_fits}
use Rattle.cjc_card_semantics.specs.Bytecode.Calculations.{Fault, NullPointer}
use Rattle.cjc_card_semantics.specs.Bytecode.Effects.{HeapObject, Numbers, References, Object, shape, Effect, Go, Raise}
use Rattle.cjc_card_semantics.specs.Bytecode.Effects.{Toss, Invoke, Leave, Stick, effect}
use Rattle.cjc_card_semantics.specs.Bytecode.Arguments.{first_and, event_values, result_words, result_of}
use Rattle.cjc_card_semantics.specs.Bytecode.Renaming.{option_as, shape_as, heap_object_as, memory_as, operation_as}
use Rattle.cjc_card_semantics.specs.Bytecode.Renaming.{effect_as, Knows, KnownShape, KnownHeapObject, numbers_known}
use Rattle.cjc_card_semantics.specs.Bytecode.Renaming.{references_known, object_known, KnownHeap, no_things, one_thing}
use Rattle.cjc_card_semantics.specs.Bytecode.Renaming.{KnownMemory, KnownOperation, KnownEffect}
use Rattle.cjc_card_semantics.specs.Bytecode.Machine.{Start, Reached, Nowhere, Within, Abroad, Fetched, Setting, Frame}
use Rattle.cjc_card_semantics.specs.Bytecode.Machine.{State, Turn, Next, Ended, StuckAt}
use Rattle.cjc_card_semantics.specs.Bytecode.Machine
use Rattle.cjc_card_semantics.specs.Bytecode.Alike.{start_as, frame_as, Names, state_as, KnownThing, KnownKind}
use Rattle.cjc_card_semantics.specs.Bytecode.Alike.{KnownFrames, no_frames, one_frame, KnownState, SettingsAlike}
use Rattle.cjc_card_semantics.specs.Bytecode.Alike.{MissesAlike, IsFree, RunsAgree, RunsStickAlike}
use Rattle.cjc_card_semantics.proofs.BytecodeLaws.Natural
use Rattle.cjc_card_semantics.proofs.BytecodeLaws.Natural.{get_map, map_last, get_known, set_known}
use Rattle.cjc_card_semantics.proofs.BytecodeLaws.Natural.{last_known, shape_known, Follows, does, effect_natural}
use Rattle.cjc_card_semantics.proofs.BytecodeLaws.Natural.{effect_keeps}
use Rattle.cjc_export.proofs.BytesLists.{length_mapped}
use Rattle.cjc_export.proofs.BytesGets.{map_set}

module _ {P C F S M X Q D G T N Y : Type 0} (n : Names P C F S M X Q D G T N Y) (known : Knows C F S X) (KnownCode : P
    → Type 0) (KnownMethod : M → Type 0) (set : Setting P C F S M X) (set' : Setting Q D G T N Y) (alike : SettingsAlike
    n known KnownCode KnownMethod set set') where
  abbrev St : Type 0
  St = State P C F X

  abbrev Fr : Type 0
  Fr = Frame P

  abbrev moved : State P C F X → State Q D G Y
  moved s = state_as n s

  abbrev there : Frame P → Frame Q
  there f = frame_as n.code n.to f

  abbrev thing : HeapObject C F → HeapObject D G
  thing t = heap_object_as n.class n.slots t

  abbrev things : List (HeapObject C F) → List (HeapObject D G)
  things heap = map thing heap

  abbrev Known : State P C F X → Type 0
  Known s = KnownState n known KnownCode KnownMethod s

  abbrev Frames : List (Frame P) → Type 0
  Frames fs = KnownFrames n known KnownCode KnownMethod fs

  abbrev KnownT : HeapObject C F → Type 0
  KnownT t = KnownHeapObject known t

  abbrev Misses : Type 0
  Misses = MissesAlike n known KnownCode KnownMethod set set'

  -- both go on together, or end alike, or the first is stuck, and then also the second where it finds nothing that the
  -- first does not find
  pub data Together : Turn P C F X → Turn Q D G Y → Type 0 where
    onward : (s : State P C F X) → KnownState n known KnownCode KnownMethod s → Together (Next s) (Next (state_as n s))
    over : (o : Outcome) (s : State P C F X) → KnownState n known KnownCode KnownMethod s
        → Together (Ended o s) (Ended o (state_as n s))
    sticks : {at : ℕ} {s : State P C F X} {t : Turn Q D G Y} → (at' : ℕ)
        → (MissesAlike n known KnownCode KnownMethod set set' → t ≡ StuckAt at' (state_as n s))
        → Together (StuckAt at s) t

  stuck : {at at' : ℕ} {s : State P C F X} → Together (StuckAt at s) (StuckAt at' (state_as n s))
  stuck {at' = at'} = sticks at' (λ misses. refl)

  -- ---- types and names

  shape_there : (t : HeapObject C F) → shape (thing t) ≡ shape_as n.class (shape t)
  shape_there (Numbers element items) = refl
  shape_there (References c items) = refl
  shape_there (Object c slots) = refl

  named_there : (kind : Shape C) → KnownShape known kind → Machine.type_name set' (shape_as n.class kind)
      ≡ Machine.type_name set kind
  named_there (OfClass c) k = alike.name c k
  named_there (OfNumbers element) k = refl
  named_there (OfReferences c) k = ap (λ name. shape_name (OfReferences name)) (alike.name c k)

  shown_there : (t : HeapObject C F) → KnownHeapObject known t → Machine.shown set' (thing t) ≡ Machine.shown set t
  shown_there (Numbers element items) k = refl
  shown_there (References c items) (references_known kc) = ap (λ name. shown_things.Array name items)
      (named_there (OfReferences c) kc)
  shown_there (Object c slots) (object_known kc ko) =
      ap (λ name. shown_things.Object name (set'.fields (n.class c) (n.slots c slots))) (alike.name c kc)
      ∙ ap (shown_things.Object (set.name c)) (alike.fields c slots (object_known kc ko))

  -- an object without fields
  bare_there : (c : C) → KnownHeapObject known (Object c []) → thing (Object c []) ≡ Object (n.class c) []
  bare_there c (object_known kc ko) = ap (Object (n.class c)) (let a = alike.classes in a.bare c ko)

  all_shown : {heap : List (HeapObject C F)} → KnownHeap known heap → map (Machine.shown set') (things heap)
      ≡ map (Machine.shown set) heap
  all_shown no_things = refl
  all_shown (one_thing {t = t} {ts = ts} k ks) =
      ap (λ x. x ∷ map (Machine.shown set') (things ts)) (shown_there t k)
      ∙ ap (λ xs. Machine.shown set t ∷ xs) (all_shown ks)

  report_same : (o : Outcome) (s : State P C F X) → Known s → Machine.report set' o (moved s) ≡ Machine.report set o s
  report_same o s ks =
      ap (λ x. record {
        notes = s.notes;
        statics = x;
        heap = map (Machine.shown set') (things s.memory.heap);
        outcome = o;
        spent = s.spent;
      }) (alike.cells s.memory.statics (let m = ks.memory in m.statics))
      ∙ ap (λ x. record {
        notes = s.notes;
        statics = set.cells s.memory.statics;
        heap = x;
        outcome = o;
        spent = s.spent;
      }) (all_shown (let m = ks.memory in m.heap))

  -- ---- exceptions

  receiver_of : (t : HeapObject C F) → KnownHeapObject known t → KnownThing n known KnownCode KnownMethod (shape t)
  receiver_of t kt = record { thing = t; is_known = kt; is_of = refl }

  caught_together : (from from' : ℕ) (frames : List (Frame P)) (object : ℕ) (kind : Shape C) (s : State P C F X)
      → KnownThing n known KnownCode KnownMethod kind → Frames frames → KnownMemory known s.memory
      → Together (Machine.caught set from frames object kind s) (Machine.caught set' from' (map there frames) object
      (shape_as n.class kind) (moved s))
  caught_together from from' [] object kind s kk no_frames km =
      subst (λ k. Together (Next (record s {
        frames = [];
        notes = s.notes ++ Thrown (Machine.type_name set kind) object
            ∷ [];
      })) (Next (record (moved s) { frames = []; notes = s.notes ++ Thrown k object ∷ [] })))
      (sym (named_there kind (subst (KnownShape known) kk.is_of (shape_known known kk.is_known))))
      (onward (record s { frames = []; notes = s.notes ++ Thrown (Machine.type_name set kind) object ∷ [] })
      (record { frames = no_frames; memory = km }))
  caught_together from from' (f ∷ outer) object kind s kk (one_frame kc ks) km =
      subst (λ o. Together (Machine.caught set from (f ∷ outer) object kind s) (Machine.caught_at set' o from' (there f)
      (map there outer) object (moved s) (Machine.caught set' from' (map there outer) object (shape_as n.class kind)
      (moved s)))) (sym (alike.handler f.code f.at kind kc kk))
      (by (set.handler f.code f.at kind) (caught_together from from' outer object kind s kk ks km))
    where
      room : (t : Bool) (target : ℕ)
          → Together (if t then Next (record s { frames = record f { at = target; stack = Obj object ∷ [] } ∷ outer })
          else StuckAt from s) (if t then Next (record (moved s) {
            frames = record (there f) {
              at = n.to f.code target;
              stack = Obj object ∷ [];
            } ∷ map there outer;
          }) else StuckAt from' (moved s))
      room true target = onward (record s { frames = record f { at = target; stack = Obj object ∷ [] } ∷ outer })
          (record { frames = one_frame kc ks; memory = km })
      room false target = stuck

      by : (o : Option ℕ) → Together (Machine.caught set from outer object kind s) (Machine.caught set' from'
          (map there outer) object (shape_as n.class kind) (moved s))
          → Together (Machine.caught_at set o from f outer object s (Machine.caught set from outer object kind s))
          (Machine.caught_at set' (option_as (n.to f.code) o) from' (there f) (map there outer) object (moved s)
          (Machine.caught set' from' (map there outer) object (shape_as n.class kind) (moved s)))
      by None past = past
      by (Some target) past =
          subst (λ r. Together (Machine.caught_at set (Some target) from f outer object s (Machine.caught set from outer
          object kind s)) (if nat_lt 0 r
          then Next (record (moved s) {
            frames = record (there f) {
              at = n.to f.code target;
              stack = Obj object
                  ∷ [];
            } ∷ map there outer;
          }) else StuckAt from' (moved s))) (sym (alike.room f.code kc))
          (room (nat_lt 0 (set.room f.code)) target)

  -- one more thing on the heap
  grown_known : (s : State P C F X) (t : HeapObject C F) → KnownMemory known s.memory → KnownHeapObject known t
      → KnownMemory known (record s.memory { heap = s.memory.heap ++ t ∷ [] })
  grown_known s t km kt = record { heap = last_known known t km.heap kt; statics = km.statics }

  raised_together : (o : Option C) (f : Frame P) (outer : List (Frame P)) (s : State P C F X) (otherwise : Turn P C F X)
      (otherwise' : Turn Q D G Y) → ((c : C) → o ≡ Some c → KnownHeapObject known (Object c [])) → Frames (f ∷ outer)
      → KnownMemory known s.memory → Together otherwise otherwise'
      → Together (Machine.turn_after_raise set o f outer s otherwise) (Machine.turn_after_raise set'
      (option_as n.class o) (there f) (map there outer) (moved s) otherwise')
  raised_together None f outer s otherwise otherwise' kc kf km both = both
  raised_together (Some c) f outer s otherwise otherwise' kc kf km both =
      let kt = kc c refl in
      let new : State P C F X = Machine.with_last set (Object c []) s in
      let one = Machine.turn_after_raise set (Some c) f outer s otherwise in
      let two : ℕ → List (HeapObject D G) → Turn Q D G Y = λ k h. Machine.caught set' (n.to f.code f.at)
      (map there (f ∷ outer)) k (OfClass (n.class c)) (record (moved s) {
        memory = record {
          heap = h;
          statics = n.statics s.memory.statics;
        };
      }) in
      subst (λ t. Together one (two (length (things s.memory.heap)) (things s.memory.heap ++ t ∷ []))) (bare_there c kt)
      (subst (λ k. Together one (two k (things s.memory.heap ++ thing (Object c []) ∷ [])))
      (sym (length_mapped thing s.memory.heap))
      (subst (λ h. Together one (two (length s.memory.heap) h)) (sym (map_last thing s.memory.heap (Object c [])))
      (caught_together f.at (n.to f.code f.at) (f ∷ outer) (length s.memory.heap) (OfClass c) new
      (receiver_of (Object c []) kt) kf (grown_known s (Object c []) km kt))))

  failed_together : (fault : Fault) (f : Frame P) (outer : List (Frame P)) (s : State P C F X) → Frames (f ∷ outer)
      → KnownMemory known s.memory → Together (Machine.turn_after_fault set fault f outer s) (Machine.turn_after_fault
      set' fault (there f) (map there outer) (moved s))
  failed_together fault f outer s kf km =
      subst (λ o. Together (Machine.turn_after_fault set fault f outer s) (Machine.turn_after_raise set' o (there f)
      (map there outer) (moved s) (StuckAt (n.to f.code f.at) (moved s)))) (sym (alike.fault fault))
      (raised_together (set.fault fault) f outer s (StuckAt f.at s) (StuckAt (n.to f.code f.at) (moved s))
      (alike.fault_known fault) kf km stuck)

  tossed_together : (o : Option (HeapObject C F)) (f : Frame P) (outer : List (Frame P)) (object : ℕ)
      (s : State P C F X) → ((t : HeapObject C F) → o ≡ Some t → KnownHeapObject known t) → Frames (f ∷ outer)
      → KnownMemory known s.memory → Together (Machine.turn_after_toss set o f outer object s) (Machine.turn_after_toss
      set' (option_as thing o) (there f) (map there outer) object (moved s))
  tossed_together None f outer object s kt kf km = stuck
  tossed_together (Some t) f outer object s kt kf km =
      subst (λ k. Together (Machine.caught set f.at (f ∷ outer) object (shape t) s)
      (Machine.caught set' (n.to f.code f.at) (map there (f ∷ outer)) object k (moved s))) (sym (shape_there t))
      (caught_together f.at (n.to f.code f.at) (f ∷ outer) object (shape t) s (receiver_of t (kt t refl)) kf km)

  returned_together : (from from' : ℕ) (words : List Value) (f : Frame P) (outer : List (Frame P)) (s : State P C F X)
      → Frames (f ∷ outer) → KnownMemory known s.memory → Together (Machine.returned set from words f outer s)
      (Machine.returned set' from' words (there f) (map there outer) (moved s))
  returned_together from from' words f outer s (one_frame kc ks) km =
      subst (λ r. Together (Machine.returned set from words f outer s) (if nat_le (length (reverse words ++ f.stack)) r
      then Next (record (moved s) {
        frames = record (there f) {
          at = n.to f.code f.next;
          stack = reverse words
              ++ f.stack;
        } ∷ map there outer;
      }) else StuckAt from' (moved s))) (sym (alike.room f.code kc))
      (by (nat_le (length (reverse words ++ f.stack)) (set.room f.code)))
    where
      by : (t : Bool)
          → Together (if t then Next (record s {
            frames = record f { at = f.next; stack = reverse words ++ f.stack }
                ∷ outer;
          }) else StuckAt from s) (if t
          then Next (record (moved s) {
            frames = record (there f) {
              at = n.to f.code f.next;
              stack = reverse words
                  ++ f.stack;
            } ∷ map there outer;
          }) else StuckAt from' (moved s))
      by true = onward (record s { frames = record f { at = f.next; stack = reverse words ++ f.stack } ∷ outer })
          (record { frames = one_frame kc ks; memory = km })
      by false = stuck

  -- ---- fitting

  -- the type that a name stands for is known
  abbrev some_kind : (o : Option (Shape C)) → Type 0
  some_kind None = Unit {0}
  some_kind (Some kind) = KnownShape known kind

  -- what calls are made on is known
  abbrev Receiver : (o : Option (Shape C)) → Type 0
  Receiver o = KnownKind n known KnownCode KnownMethod o

  test_same : (t : HeapObject C F) (kind : Shape C) → KnownHeapObject known t → KnownShape known kind
      → set'.classes.is_of (shape (thing t)) (shape_as n.class kind) ≡ set.classes.is_of (shape t) kind
  test_same t kind kt kk =
      ap (λ u. set'.classes.is_of u (shape_as n.class kind)) (shape_there t) ∙ (let a = alike.classes
      in a.is_of (shape t) kind (shape_known known kt) kk)

  thing_fits_same : (o : Option (HeapObject C F)) (k : Option (Shape C)) → ((t : HeapObject C F) → o ≡ Some t
      → KnownHeapObject known t) → some_kind k
      → Machine.thing_fits set' (option_as thing o) (option_as (shape_as n.class) k) ≡ Machine.thing_fits set o k
  thing_fits_same None k kt kk = refl
  thing_fits_same (Some t) None kt kk = refl
  thing_fits_same (Some t) (Some kind) kt kk = test_same t kind (kt t refl) kk

  class_known : (name : List ℕ) (kind : C → Shape C) → ((c : C) → known.class c → KnownShape known (kind c))
      → some_kind (option_map kind (set.class_named name))
  class_known name kind k = by (set.class_named name) (alike.class_named_known name)
    where
      by : (o : Option C) → ((c : C) → o ≡ Some c → known.class c) → some_kind (option_map kind o)
      by None h = tt
      by (Some c) h = k c (h c refl)

  renamed : (kind : C → Shape C) (kind' : D → Shape D) → ((c : C) → kind' (n.class c) ≡ shape_as n.class (kind c))
      → (o : Option C) → option_map kind' (option_as n.class o) ≡ option_as (shape_as n.class) (option_map kind o)
  renamed kind kind' h None = refl
  renamed kind kind' h (Some c) = ap Some (h c)

  shape_same : (kind : Shape (List ℕ)) → Machine.shape_of set' kind ≡ option_as (shape_as n.class)
      (Machine.shape_of set kind)
  shape_same (OfClass name) = ap (option_map OfClass) (alike.class_named name)
      ∙ renamed OfClass OfClass (λ c. refl) (set.class_named name)
  shape_same (OfNumbers element) = refl
  shape_same (OfReferences name) = ap (option_map OfReferences) (alike.class_named name)
      ∙ renamed OfReferences OfReferences (λ c. refl) (set.class_named name)

  shape_of_known : (kind : Shape (List ℕ)) → some_kind (Machine.shape_of set kind)
  shape_of_known (OfClass name) = class_known name OfClass (λ c k. k)
  shape_of_known (OfNumbers element) = tt
  shape_of_known (OfReferences name) = class_known name OfReferences (λ c k. k)

  object_fits_same : (heap : List (HeapObject C F)) → KnownHeap known heap → (k : ℕ) (kind : Shape (List ℕ))
      → Machine.object_fits set' (things heap) k kind ≡ Machine.object_fits set heap k kind
  object_fits_same heap kh k kind =
      ap (λ o. Machine.thing_fits set' o (Machine.shape_of set' kind)) (get_map thing heap k)
      ∙ ap (Machine.thing_fits set' (option_as thing (slice_get heap k))) (shape_same kind)
      ∙ thing_fits_same (slice_get heap k) (Machine.shape_of set kind) (λ t e. get_known known k t kh e)
      (shape_of_known kind)

  fits_same : (is is' : ℕ → Shape (List ℕ) → Bool) → ((k : ℕ) (kind : Shape (List ℕ)) → is' k kind ≡ is k kind)
      → (s : Sort) (v : Value) → fits is' s v ≡ fits is s v
  fits_same is is' h Boolean (Num z) = refl
  fits_same is is' h Boolean Null = refl
  fits_same is is' h Boolean (Obj k) = refl
  fits_same is is' h Byte (Num z) = refl
  fits_same is is' h Byte Null = refl
  fits_same is is' h Byte (Obj k) = refl
  fits_same is is' h Short (Num z) = refl
  fits_same is is' h Short Null = refl
  fits_same is is' h Short (Obj k) = refl
  fits_same is is' h Int (Num z) = refl
  fits_same is is' h Int Null = refl
  fits_same is is' h Int (Obj k) = refl
  fits_same is is' h NoValue (Num z) = refl
  fits_same is is' h NoValue Null = refl
  fits_same is is' h NoValue (Obj k) = refl
  fits_same is is' h (Reference kind) (Num z) = refl
  fits_same is is' h (Reference kind) Null = refl
  fits_same is is' h (Reference kind) (Obj k) = h k kind

  all_fit_same : (is is' : ℕ → Shape (List ℕ) → Bool) → ((k : ℕ) (kind : Shape (List ℕ)) → is' k kind ≡ is k kind)
      → (sorts : List Sort) (vs : List Value) → all_fit is' sorts vs ≡ all_fit is sorts vs
  all_fit_same is is' h [] [] = refl
  all_fit_same is is' h [] (v ∷ vs) = refl
  all_fit_same is is' h (s ∷ sorts) [] = refl
  all_fit_same is is' h (s ∷ sorts) (v ∷ vs) = ap (λ b. b && all_fit is' sorts vs) (fits_same is is' h s v)
      ∙ ap (λ b. fits is s v && b) (all_fit_same is is' h sorts vs)

  result_fits_same : (is is' : ℕ → Shape (List ℕ) → Bool) → ((k : ℕ) (kind : Shape (List ℕ)) → is' k kind ≡ is k kind)
      → (o : Option Sort) (v : Option Value) → result_fits is' o v ≡ result_fits is o v
  result_fits_same is is' h None None = refl
  result_fits_same is is' h None (Some v) = refl
  result_fits_same is is' h (Some s) None = refl
  result_fits_same is is' h (Some s) (Some v) = fits_same is is' h s v

  -- ---- acts of the script

  data SameThing : Option (HeapObject C F) → Option (HeapObject D G) → Type 0 where
    no_thing : SameThing None None
    a_thing : (t : HeapObject C F) → KnownHeapObject known t
        → SameThing (Some t) (Some (heap_object_as n.class n.slots t))

  data SameHeap : Option (List (HeapObject C F)) → Option (List (HeapObject D G)) → Type 0 where
    no_heap : SameHeap None None
    a_heap : (h : List (HeapObject C F)) → KnownHeap known h
        → SameHeap (Some h) (Some (map (heap_object_as n.class n.slots) h))

  if_thing : (b : Bool) (o : Option (HeapObject C F)) (o' : Option (HeapObject D G)) → SameThing o o'
      → SameThing (if b then o else None) (if b then o' else None)
  if_thing true o o' h = h
  if_thing false o o' h = no_thing

  sized_same : (o : Option (Shape C)) (size : ℕ) → some_kind o
      → SameThing (Machine.sized_array set o size) (Machine.sized_array set' (option_as (shape_as n.class) o) size)
  sized_same None size kk = no_thing
  sized_same (Some (OfClass c)) size kk = no_thing
  sized_same (Some (OfNumbers element)) size kk = a_thing (Numbers element (replicate size (pos 0))) numbers_known
  sized_same (Some (OfReferences c)) size kk = a_thing (References c (replicate size Null)) (references_known kk)

  array_same : (o : Option (Shape C)) (size : ℤ) → some_kind o
      → SameThing (Machine.array_of set o size) (Machine.array_of set' (option_as (shape_as n.class) o) size)
  array_same o (negsuc size) kk = no_thing
  array_same o (pos size) kk = if_thing (nat_le size 32767) _ _ (sized_same o size kk)

  object_same : (o : Option C) → ((c : C) → o ≡ Some c → KnownHeapObject known (Object c []))
      → SameThing (Machine.object_of set o) (Machine.object_of set' (option_as n.class o))
  object_same None kc = no_thing
  object_same (Some c) kc = subst (λ t. SameThing (Some (Object c [])) (Some t)) (bare_there c (kc c refl))
      (a_thing (Object c []) (kc c refl))

  grown_same : (heap : List (HeapObject C F)) (o : Option (HeapObject C F)) (o' : Option (HeapObject D G))
      → KnownHeap known heap → SameThing o o'
      → SameHeap (Machine.heap_with set heap o) (Machine.heap_with set' (things heap) o')
  grown_same heap _ _ kh no_thing = no_heap
  grown_same heap _ _ kh (a_thing t kt) =
      subst (λ h. SameHeap (Some (heap ++ t ∷ [])) (Some h)) (sym (map_last thing heap t)) (a_heap (heap
      ++ t ∷ []) (last_known known t kh kt))

  placed_same : (heap : List (HeapObject C F)) (k : ℕ) (o : Option (HeapObject C F)) (o' : Option (HeapObject D G))
      → KnownHeap known heap → SameThing o o' → SameHeap (Machine.with_array set heap k o) (Machine.with_array set'
      (things heap) k o')
  placed_same heap k _ _ kh no_thing = no_heap
  placed_same heap k _ _ kh (a_thing t kt) =
      subst (λ h. SameHeap (Some (slice_set heap k t)) (Some h)) (sym (map_set thing heap k t))
      (a_heap (slice_set heap k t) (set_known known k t kh kt))

  item_fits_same : (heap : List (HeapObject C F)) (c : C) (v : Value) → KnownHeap known heap → known.class c
      → Machine.item_fits set' (things heap) (n.class c) v ≡ Machine.item_fits set heap c v
  item_fits_same heap c (Num z) kh kc = refl
  item_fits_same heap c Null kh kc = refl
  item_fits_same heap c (Obj k) kh kc =
      ap (λ o. Machine.thing_fits set' o (Some (OfClass (n.class c)))) (get_map thing heap k)
      ∙ thing_fits_same (slice_get heap k) (Some (OfClass c)) (λ t e. get_known known k t kh e) kc

  item_same : (heap : List (HeapObject C F)) (t : HeapObject C F) (i : ℕ) (v : Value) → KnownHeap known heap
      → KnownHeapObject known t → SameThing (Machine.with_item set heap t i v) (Machine.with_item set' (things heap)
      (thing t) i v)
  item_same heap (Numbers element items) i (Num z) kh kt =
      subst (λ b. SameThing (Machine.with_item set heap (Numbers element items) i (Num z)) (if nat_lt i (length items)
      && b then Some (Numbers element (slice_set items i z)) else None))
      (sym (fits_same (Machine.object_fits set heap) (Machine.object_fits set' (things heap)) (object_fits_same heap kh)
      (element_sort element) (Num z)))
      (if_thing (nat_lt i (length items) && fits (Machine.object_fits set heap) (element_sort element) (Num z)) _ _
      (a_thing (Numbers element (slice_set items i z)) numbers_known))
  item_same heap (Numbers element items) i Null kh kt = no_thing
  item_same heap (Numbers element items) i (Obj k) kh kt = no_thing
  item_same heap (References c items) i v kh (references_known kc) =
      subst (λ b. SameThing (Machine.with_item set heap (References c items) i v) (if nat_lt i (length items) && b
      then Some (References (n.class c) (slice_set items i v)) else None))
      (sym (item_fits_same heap c v kh kc))
      (if_thing (nat_lt i (length items) && Machine.item_fits set heap c v) _ _
      (a_thing (References c (slice_set items i v)) (references_known kc)))
  item_same heap (Object c slots) i v kh kt = no_thing

  put_same : (heap : List (HeapObject C F)) (k : ℕ) (o : Option (HeapObject C F)) (i : ℤ) (v : Value)
      → KnownHeap known heap → ((t : HeapObject C F) → o ≡ Some t → KnownHeapObject known t)
      → SameHeap (Machine.put_item set heap k o i v) (Machine.put_item set' (things heap) k (option_as thing o) i v)
  put_same heap k None i v kh kt = no_heap
  put_same heap k (Some t) (negsuc i) v kh kt = no_heap
  put_same heap k (Some t) (pos i) v kh kt = placed_same heap k _ _ kh (item_same heap t i v kh (kt t refl))

  named_same : (o : Option (Shape (List ℕ))) → option_and_then (Machine.shape_of set') o ≡ option_as (shape_as n.class)
      (option_and_then (Machine.shape_of set) o)
  named_same None = refl
  named_same (Some kind) = shape_same kind

  named_known : (o : Option (Shape (List ℕ))) → some_kind (option_and_then (Machine.shape_of set) o)
  named_known None = tt
  named_known (Some kind) = shape_of_known kind

  acted_same : (a : Act) (heap : List (HeapObject C F)) → KnownHeap known heap
      → SameHeap (Machine.heap_after set a heap) (Machine.heap_after set' a (things heap))
  acted_same (acts.Array desc size) heap kh =
      subst (λ o. SameHeap (Machine.heap_after set (acts.Array desc size) heap) (Machine.heap_with set' (things heap)
      (Machine.array_of set' o size))) (sym (named_same (shape_named desc)))
      (grown_same heap _ _ kh (array_same (option_and_then (Machine.shape_of set) (shape_named desc)) size
      (named_known (shape_named desc))))
  acted_same (acts.Object name) heap kh =
      subst (λ o. SameHeap (Machine.heap_after set (acts.Object name) heap) (Machine.heap_with set' (things heap)
      (Machine.object_of set' o))) (sym (alike.imported name))
      (grown_same heap _ _ kh (object_same (set.imported name) (alike.imported_known name)))
  acted_same (acts.Put k i v) heap kh =
      subst (λ o. SameHeap (Machine.heap_after set (acts.Put k i v) heap) (Machine.put_item set' (things heap) k o i v))
      (sym (get_map thing heap k))
      (put_same heap k (slice_get heap k) i v kh (λ t e. get_known known k t kh e))

  prepared_together : (acts : List Act) (number : ℕ) (s : State P C F X) (go : State P C F X
      → Turn P C F X) (go' : State Q D G Y → Turn Q D G Y) → Known s → ((h : List (HeapObject C F)) → KnownHeap known h
      → Together (go (Machine.with_heap set h s)) (go' (moved (Machine.with_heap set h s))))
      → Together (Machine.turn_after_acts set acts number s go) (Machine.turn_after_acts set' acts number (moved s) go')
  prepared_together [] number s go go' ks h = h s.memory.heap (let m = ks.memory in m.heap)
  prepared_together (a ∷ acts) number s go go' ks h =
      by (Machine.heap_after set a s.memory.heap) (Machine.heap_after set' a (things s.memory.heap))
      (acted_same a s.memory.heap (let m = ks.memory in m.heap)) (λ t kt. prepared_together acts number t go go' kt)
    where
      by : (o : Option (List (HeapObject C F))) (o' : Option (List (HeapObject D G))) → SameHeap o o'
          → ((t : State P C F X) → Known t → ((h : List (HeapObject C F)) → KnownHeap known h
          → Together (go (Machine.with_heap set h t)) (go' (moved (Machine.with_heap set h t))))
          → Together (Machine.turn_after_acts set acts number t go) (Machine.turn_after_acts set' acts number (moved t)
          go')) → Together (Machine.prepared_by set o number s (λ t. Machine.turn_after_acts set acts number t go))
          (Machine.prepared_by set' o' number (moved s) (λ t. Machine.turn_after_acts set' acts number t go'))
      by _ _ no_heap rest = over (Unfit number) s ks
      by _ _ (a_heap x kx) rest = rest (Machine.with_heap set x s) (record {
        frames = ks.frames;
        memory = record { heap = kx; statics = (let m = ks.memory in m.statics) };
      }) h

  -- ---- imported calls

  replied_together : (r : Reply) (number : ℕ) (result : Option Sort) (f : Frame P) (outer : List (Frame P))
      (s : State P C F X) → Frames (f ∷ outer) → Known s
      → Together (Machine.turn_after_reply set r number result f outer s) (Machine.turn_after_reply set' r number result
      (there f) (map there outer) (moved s))
  replied_together (Give v) number result f outer s kf ks =
      subst (λ b. Together (Machine.turn_after_reply set (Give v) number result f outer s) (if b
      then Machine.returned set' (n.to f.code f.at) (result_words result v) (there f) (map there outer) (moved s)
      else Ended (Unfit number) (moved s)))
      (sym (result_fits_same (Machine.object_fits set s.memory.heap) (Machine.object_fits set' (things s.memory.heap))
      (object_fits_same s.memory.heap (let m = ks.memory in m.heap)) result v))
      (by (result_fits (Machine.object_fits set s.memory.heap) result v))
    where
      by : (b : Bool) → Together (if b then Machine.returned set f.at (result_words result v) f outer s
          else Ended (Unfit number) s) (if b then Machine.returned set' (n.to f.code f.at) (result_words result v)
          (there f) (map there outer) (moved s) else Ended (Unfit number) (moved s))
      by true = returned_together f.at (n.to f.code f.at) (result_words result v) f outer s kf ks.memory
      by false = over (Unfit number) s ks
  replied_together (Throw name) number result f outer s kf ks =
      subst (λ o. Together (Machine.turn_after_reply set (Throw name) number result f outer s) (Machine.turn_after_raise
      set' o (there f) (map there outer) (moved s) (Ended (Unfit number) (moved s)))) (sym (alike.throwable name))
      (raised_together (set.throwable name) f outer s _ _ (alike.throwable_known name) kf ks.memory
      (over (Unfit number) s ks))

  answered_together : (answers : List Answer) (result : Option Sort) (f : Frame P) (outer : List (Frame P))
      (s : State P C F X) → Frames (f ∷ outer) → Known s
      → Together (Machine.turn_after_answer set answers result f outer s) (Machine.turn_after_answer set' answers result
      (there f) (map there outer) (moved s))
  answered_together [] result f outer s kf ks = over Waiting s ks
  answered_together (a ∷ answers) result f outer s kf ks =
      let t : State P C F X = record s { answers = answers } in
      prepared_together a.acts a.number t (λ u. Machine.turn_after_reply set a.reply a.number result f outer u)
      (λ u. Machine.turn_after_reply set' a.reply a.number result (there f) (map there outer) u)
      (record { frames = ks.frames; memory = ks.memory })
      (λ h kh. replied_together a.reply a.number result f outer (Machine.with_heap set h t) kf
      (record { frames = ks.frames; memory = record { heap = kh; statics = (let m = ks.memory in m.statics) } }))

  noted_together : (id : MemberId) (result : Option Sort) (o : Option (List Value)) (f : Frame P)
      (outer : List (Frame P)) (s : State P C F X) → Frames (f ∷ outer) → Known s
      → Together (Machine.turn_after_event set id result o f outer s) (Machine.turn_after_event set' id result o
      (there f) (map there outer) (moved s))
  noted_together id result None f outer s kf ks = stuck
  noted_together id result (Some values) f outer s kf ks =
      answered_together s.answers result f outer (record s { notes = s.notes ++ Event id values ∷ [] }) kf
      (record { frames = ks.frames; memory = ks.memory })

  typed_together : (on : Bool) (id : MemberId) (o : Option Signature) (args : List Value) (f : Frame P)
      (outer : List (Frame P)) (s : State P C F X) → Frames (f ∷ outer) → Known s
      → Together (Machine.typed set on id o args f outer s) (Machine.typed set' on id o args (there f) (map there outer)
      (moved s))
  typed_together on id None args f outer s kf ks = stuck
  typed_together on id (Some types) args f outer s kf ks = noted_together id types.result (event_values on types.params
      args) f outer s kf ks

  outside_together : (on : Bool) (id : MemberId) (args : List Value) (f : Frame P) (outer : List (Frame P))
      (s : State P C F X) → Frames (f ∷ outer) → Known s → Together (Machine.outside set on id args f outer s)
      (Machine.outside set' on id args (there f) (map there outer) (moved s))
  outside_together on id args f outer s kf ks = by (Machine.is_at_once id)
    where
      by : (b : Bool) → Together (if b then Machine.returned set f.at [] f outer s
          else Machine.typed set on id (signature_of id.desc) args f outer s) (if b
          then Machine.returned set' (n.to f.code f.at) [] (there f) (map there outer) (moved s)
          else Machine.typed set' on id (signature_of id.desc) args (there f) (map there outer) (moved s))
      by true = returned_together f.at (n.to f.code f.at) [] f outer s kf ks.memory
      by false = typed_together on id (signature_of id.desc) args f outer s kf ks

  -- ---- calls

  inside_together : (m : Start P) (args : List Value) (f : Frame P) (outer : List (Frame P)) (s : State P C F X)
      → KnownCode m.code → Frames (f ∷ outer) → Known s → Together (Machine.inside set m args f outer s)
      (Machine.inside set' (start_as n.code n.to m) args (there f) (map there outer) (moved s))
  inside_together m args f outer s km kf ks = by m.is_abstract
    where
      by : (b : Bool) → Together (if b then StuckAt f.at s else Next (record s {
        frames = Machine.frame_for_call m args
            ∷ f ∷ outer;
      })) (if b then StuckAt (n.to f.code f.at) (moved s)
          else Next (record (moved s) {
            frames = Machine.frame_for_call (start_as n.code n.to m) args ∷ there f
                ∷ map there outer;
          }))
      by true = stuck
      by false = onward (record s { frames = Machine.frame_for_call m args ∷ f ∷ outer })
          (record { frames = one_frame km kf; memory = ks.memory })

  -- what the first reaches, the second reaches
  reaches_together : (m : M) (o : Option (Shape C)) (on : Bool) (args : List Value) (f : Frame P)
      (outer : List (Frame P)) (s : State P C F X) → KnownMethod m → Receiver o → Frames (f ∷ outer) → Known s
      → Together (Machine.reaches set (set.reached m o) on args f outer s)
      (Machine.reaches set' (set'.reached (n.method m) (option_as (shape_as n.class) o)) on args (there f)
      (map there outer) (moved s))
  reaches_together m o on args f outer s km kk kf ks = by (set.reached m o) refl
    where
      by : (r : Reached P) → set.reached m o ≡ r → Together (Machine.reaches set r on args f outer s)
          (Machine.reaches set' (set'.reached (n.method m) (option_as (shape_as n.class) o)) on args (there f)
          (map there outer) (moved s))
      by Nowhere e =
          sticks (n.to f.code f.at) (λ misses. ap (λ r. Machine.reaches set' r on args (there f) (map there outer)
          (moved s)) (misses.reached m o km kk e))
      by (Within start) e =
          subst (λ r. Together (Machine.inside set start args f outer s) (Machine.reaches set' r on args (there f)
          (map there outer) (moved s))) (sym (alike.reached m o (Within start) km kk e tt))
          (inside_together start args f outer s (alike.reached_known m o start km kk e) kf ks)
      by (Abroad id) e =
          subst (λ r. Together (Machine.outside set on id args f outer s) (Machine.reaches set' r on args (there f)
          (map there outer) (moved s))) (sym (alike.reached m o (Abroad id) km kk e tt))
          (outside_together on id args f outer s kf ks)

  on_thing : (m : M) (o : Option (HeapObject C F)) (args : List Value) (f : Frame P) (outer : List (Frame P))
      (s : State P C F X) → KnownMethod m → ((t : HeapObject C F) → o ≡ Some t → KnownHeapObject known t)
      → Frames (f ∷ outer) → Known s → Together (Machine.reaches_on set m o args f outer s) (Machine.reaches_on set'
      (n.method m) (option_as thing o) args (there f) (map there outer) (moved s))
  on_thing m None args f outer s km kt kf ks = stuck
  on_thing m (Some t) args f outer s km kt kf ks =
      subst (λ k. Together (Machine.reaches_on set m (Some t) args f outer s)
      (Machine.reaches set' (set'.reached (n.method m) (Some k)) true args (there f) (map there outer) (moved s)))
      (sym (shape_there t))
      (reaches_together m (Some (shape t)) true args f outer s km (receiver_of t (kt t refl)) kf ks)

  receiver_together : (m : M) (args : List Value) (f : Frame P) (outer : List (Frame P)) (s : State P C F X)
      → KnownMethod m → Frames (f ∷ outer) → Known s → Together (Machine.on_receiver set m args f outer s)
      (Machine.on_receiver set' (n.method m) args (there f) (map there outer) (moved s))
  receiver_together m [] f outer s km kf ks = stuck
  receiver_together m (Num x ∷ args) f outer s km kf ks = stuck
  receiver_together m (Null ∷ args) f outer s km kf ks = failed_together NullPointer f outer s kf ks.memory
  receiver_together m (Obj k ∷ args) f outer s km kf ks =
      subst (λ o. Together (Machine.on_receiver set m (Obj k ∷ args) f outer s) (Machine.reaches_on set' (n.method m) o
      (Obj k ∷ args) (there f) (map there outer) (moved s))) (sym (get_map thing s.memory.heap k))
      (on_thing m (slice_get s.memory.heap k) (Obj k ∷ args) f outer s km (λ t e. get_known known k t
      (let mm = ks.memory in mm.heap) e) kf ks)

  args_together : (on : Bool) (m : M) (args : List Value) (f : Frame P) (outer : List (Frame P)) (s : State P C F X)
      → KnownMethod m → Frames (f ∷ outer) → Known s → Together (Machine.with_args set on m args f outer s)
      (Machine.with_args set' on (n.method m) args (there f) (map there outer) (moved s))
  args_together true m args f outer s km kf ks = receiver_together m args f outer s km kf ks
  args_together false m args f outer s km kf ks = reaches_together m None false args f outer s km tt kf ks

  counted_together : (o : Option ℕ) (m : M) (f : Frame P) (outer : List (Frame P)) (s : State P C F X) → set.words m ≡ o
      → KnownMethod m → Frames (f ∷ outer) → Known s → Together (Machine.counted set o m f outer s)
      (Machine.counted set' (set'.words (n.method m)) (n.method m) (there f) (map there outer) (moved s))
  counted_together None m f outer s e km kf ks =
      sticks (n.to f.code f.at) (λ misses. ap (λ o. Machine.counted set' o (n.method m) (there f) (map there outer)
      (moved s)) (misses.words m km e))
  counted_together (Some w) m f outer s e km (one_frame kc kfs) ks =
      subst (λ o. Together (Machine.counted set (Some w) m f outer s) (Machine.counted set' o (n.method m) (there f)
      (map there outer) (moved s))) (sym (alike.words m w km e))
      (subst (λ on. Together (Machine.counted set (Some w) m f outer s) (if nat_le w (length f.stack)
      then Machine.with_args set' on (n.method m) (reverse (take w f.stack))
      (record (there f) { stack = drop w f.stack }) (map there outer) (moved s)
      else StuckAt (n.to f.code f.at) (moved s))) (sym (alike.on_object m km))
      (by (nat_le w (length f.stack))))
    where
      by : (b : Bool) → Together (if b then Machine.with_args set (set.on_object m) m (reverse (take w f.stack))
          (record f { stack = drop w f.stack }) outer s else StuckAt f.at s) (if b
          then Machine.with_args set' (set.on_object m) (n.method m) (reverse (take w f.stack))
          (record (there f) { stack = drop w f.stack }) (map there outer) (moved s)
          else StuckAt (n.to f.code f.at) (moved s))
      by true = args_together (set.on_object m) m (reverse (take w f.stack)) (record f { stack = drop w f.stack }) outer
          s km (one_frame kc kfs) ks
      by false = stuck

  left_together : (words : List Value) (f : Frame P) (outer : List (Frame P)) (s : State P C F X) → Frames (f ∷ outer)
      → Known s → Together (Machine.left set words f outer s) (Machine.left set' words (there f) (map there outer)
      (moved s))
  left_together words f [] s (one_frame kc kfs) ks =
      onward (record s { frames = []; notes = s.notes ++ Result (result_of words) ∷ [] }) (record {
        frames = no_frames;
        memory = ks.memory;
      })
  left_together words f (g ∷ outer) s (one_frame kc kfs) ks = returned_together f.at (n.to f.code f.at) words g outer s
      kfs ks.memory

  -- ---- a turn

  made_together : (a : Effect C F M X) (next : ℕ) (f : Frame P) (outer : List (Frame P)) (s : State P C F X)
      → KnownEffect known KnownMethod a → Frames (f ∷ outer) → Known s → Together (Machine.made set a next f outer s)
      (Machine.made set' (effect_as n.class n.slots n.method n.statics (n.to f.code) a) (n.to f.code next) (there f)
      (map there outer) (moved s))
  made_together (Go at stack locals m) next f outer s ka (one_frame kc kfs) ks =
      onward (record s { frames = record f { at = at; stack = stack; locals = locals } ∷ outer; memory = m })
      (record { frames = one_frame kc kfs; memory = ka })
  made_together (Raise fault) next f outer s ka kf ks = failed_together fault f outer s kf ks.memory
  made_together (Toss object) next f outer s ka kf ks =
      subst (λ o. Together (Machine.turn_after_toss set (slice_get s.memory.heap object) f outer object s)
      (Machine.turn_after_toss set' o (there f) (map there outer) object (moved s)))
      (sym (get_map thing s.memory.heap object))
      (tossed_together (slice_get s.memory.heap object) f outer object s (λ t e. get_known known object t
      (let m = ks.memory in m.heap) e) kf ks.memory)
  made_together (Invoke m) next f outer s ka (one_frame kc kfs) ks =
      counted_together (set.words m) m (record f { next = next }) outer s refl ka (one_frame kc kfs) ks
  made_together (Leave words) next f outer s ka kf ks = left_together words f outer s kf ks
  made_together Stick next f outer s ka kf ks = stuck

  fetched_together : (o : Option (Fetched C F S M)) (f : Frame P) (outer : List (Frame P)) (s : State P C F X)
      → set.fetch f.code f.at ≡ o → Frames (f ∷ outer) → Known s → Together (Machine.turn_after_fetch set o f outer s)
      (Machine.turn_after_fetch set' (set'.fetch (n.code f.code) (n.to f.code f.at)) (there f) (map there outer)
      (moved s))
  fetched_together None f outer s e (one_frame kc kfs) ks =
      sticks (n.to f.code f.at) (λ misses. ap (λ o. Machine.turn_after_fetch set' o (there f) (map there outer)
      (moved s)) (misses.fetch f.code f.at kc e))
  fetched_together (Some i) f outer s e (one_frame kc kfs) ks =
      subst (λ t. Together (Machine.turn_after_fetch set (Some i) f outer s) t) (sym same)
      (by (effect_natural known n.class n.field n.slots n.cell n.statics set.classes set'.classes alike.classes
      KnownMethod n.method (n.to f.code) i.operation (set.room f.code) i.next f.locals s.memory f.stack ks.memory
      kd)
      (effect_keeps known n.class n.field n.slots n.cell n.statics set.classes set'.classes alike.classes M KnownMethod
      i.operation (set.room f.code) i.next f.locals s.memory f.stack ks.memory kd))
    where
      kd : KnownOperation known KnownMethod i.operation
      kd = alike.fetch_known f.code f.at i kc e

      after : Effect D G N Y → Turn Q D G Y
      after a = Machine.made set' a (n.to f.code i.next) (there f) (map there outer) (moved s)

      same : Machine.turn_after_fetch set' (set'.fetch (n.code f.code) (n.to f.code f.at)) (there f) (map there outer)
          (moved s) ≡ after (effect set'.classes (operation_as n.class n.field n.cell n.method (n.to f.code)
          i.operation) (set.room f.code) (n.to f.code i.next) f.locals (memory_as n.class n.slots n.statics s.memory)
          f.stack)
      same =
          ap (λ o. Machine.turn_after_fetch set' o (there f) (map there outer) (moved s)) (alike.fetch f.code f.at i kc
          e)
          ∙ ap (λ r. after (effect set'.classes (operation_as n.class n.field n.cell n.method (n.to f.code) i.operation)
          r (n.to f.code i.next) f.locals (memory_as n.class n.slots n.statics s.memory) f.stack))
          (alike.room f.code kc)

      by : {a : Effect C F M X} {b : Effect D G N Y} → Follows known n.class n.field n.slots n.cell n.statics
          set.classes set'.classes alike.classes KnownMethod n.method (n.to f.code) a b
          → KnownEffect known KnownMethod a → Together (Machine.made set a i.next f outer s) (after b)
      by (does {a = a} is) ka = subst (λ b. Together (Machine.made set a i.next f outer s) (after b)) (sym is)
          (made_together a i.next f outer s ka (one_frame kc kfs) ks)
      by (Natural.sticks is) ka = sticks (n.to f.code f.at) (λ misses. ap after (is misses.unmade))

  spent_together : (k : ℕ) {t : Turn P C F X} {u : Turn Q D G Y} → Together t u
      → Together (Machine.spent_by set k t) (Machine.spent_by set' k u)
  spent_together k (onward s ks) = onward s ks
  spent_together k (over o s ks) = over o s ks
  spent_together k (sticks at is) = sticks at (λ misses. ap (Machine.spent_by set' k) (is misses))

  step_together : (frames : List (Frame P)) (s : State P C F X) → Frames frames → Known s
      → Together (Machine.step set frames s) (Machine.step set' (map there frames) (moved s))
  step_together [] s kf ks = over Done s ks
  step_together (f ∷ outer) s kf ks =
      spent_together s.spent (fetched_together (set.fetch f.code f.at) f outer (record s { spent = s.spent + 1 }) refl
      kf (record { frames = ks.frames; memory = ks.memory }))

  -- ---- entries

  data SameStart : Option (Start P) → Option (Start Q) → Type 0 where
    no_start : SameStart None None
    a_start : (m : Start P) → KnownCode m.code → SameStart (Some m) (Some (start_as n.code n.to m))

  start_same : (o : Option (Start P)) → ((m : Start P) → o ≡ Some m → KnownCode m.code)
      → SameStart o (option_as (start_as n.code n.to) o)
  start_same None h = no_start
  start_same (Some m) h = a_start m (h m refl)

  sent_to_same : (o : Option (HeapObject C F)) (id : MemberId) → ((t : HeapObject C F) → o ≡ Some t
      → KnownHeapObject known t) → SameStart (Machine.sent_to set o id) (Machine.sent_to set' (option_as thing o) id)
  sent_to_same None id kt = no_start
  sent_to_same (Some t) id kt =
      let kk = receiver_of t (kt t refl) in
      subst (λ o. SameStart (set.sent (shape t) id) o) (sym (ap (λ k. set'.sent k id) (shape_there t)
      ∙ alike.sent (shape t) id kk))
      (start_same (set.sent (shape t) id) (λ m e. alike.sent_known (shape t) id m kk e))

  sent_on_same : (heap : List (HeapObject C F)) (id : MemberId) (args : List Value) → KnownHeap known heap
      → SameStart (Machine.sent_on set heap id args) (Machine.sent_on set' (things heap) id args)
  sent_on_same heap id [] kh = no_start
  sent_on_same heap id (Num x ∷ args) kh = no_start
  sent_on_same heap id (Null ∷ args) kh = no_start
  sent_on_same heap id (Obj k ∷ args) kh =
      subst (λ o. SameStart (Machine.sent_on set heap id (Obj k ∷ args)) (Machine.sent_to set' o id))
      (sym (get_map thing heap k))
      (sent_to_same (slice_get heap k) id (λ t e. get_known known k t kh e))

  entry_same : (heap : List (HeapObject C F)) (e : Entry) → KnownHeap known heap
      → SameStart (Machine.entry_start set heap e) (Machine.entry_start set' (things heap) e)
  entry_same heap e kh = by e.virtual_call
    where
      by : (b : Bool) → SameStart (if b then Machine.sent_on set heap e.method e.args else set.called e.method) (if b
          then Machine.sent_on set' (things heap) e.method e.args else set'.called e.method)
      by true = sent_on_same heap e.method e.args kh
      by false = subst (λ o. SameStart (set.called e.method) o) (sym (alike.called e.method))
          (start_same (set.called e.method) (λ m h. alike.called_known e.method m h))

  fitting_same : (heap : List (HeapObject C F)) → KnownHeap known heap → (sorts : List Sort) (vs : List Value)
      → Machine.fitting_words set' (things heap) sorts vs ≡ Machine.fitting_words set heap sorts vs
  fitting_same heap kh sorts vs =
      ap (λ b. Machine.words_if set b sorts vs) (all_fit_same (Machine.object_fits set heap) (Machine.object_fits set'
      (things heap)) (object_fits_same heap kh) sorts vs)

  behind_same : (heap : List (HeapObject C F)) → KnownHeap known heap → (sorts : List Sort) (vs : List Value)
      → Machine.words_behind set' (things heap) sorts vs ≡ Machine.words_behind set heap sorts vs
  behind_same heap kh sorts [] = refl
  behind_same heap kh sorts (v ∷ vs) = ap (first_and v) (fitting_same heap kh sorts vs)

  words_for_same : (heap : List (HeapObject C F)) (e : Entry) (o : Option Signature) → KnownHeap known heap
      → Machine.words_for set' (things heap) e o ≡ Machine.words_for set heap e o
  words_for_same heap e None kh = refl
  words_for_same heap e (Some types) kh = by e.virtual_call
    where
      by : (b : Bool) → (if b then Machine.words_behind set' (things heap) types.params e.args
          else Machine.fitting_words set' (things heap) types.params e.args)
          ≡ (if b then Machine.words_behind set heap types.params e.args
          else Machine.fitting_words set heap types.params e.args)
      by true = behind_same heap kh types.params e.args
      by false = fitting_same heap kh types.params e.args

  words_same : (heap : List (HeapObject C F)) (e : Entry) → KnownHeap known heap
      → Machine.entry_words set' (things heap) e ≡ Machine.entry_words set heap e
  words_same heap e kh = words_for_same heap e (signature_of (let m = e.method in m.desc)) kh

  entered_together : (o : Option (Start P)) (o' : Option (Start Q)) (words : Option (List Value)) (e : Entry)
      (entries : List Entry) (s : State P C F X) → SameStart o o' → Known s
      → Together (Machine.entered_by set o words e entries s) (Machine.entered_by set' o' words e entries (moved s))
  entered_together _ _ words e entries s no_start ks = over (Unfit e.number) s ks
  entered_together _ _ None e entries s (a_start m km) ks = over (Unfit e.number) s ks
  entered_together _ _ (Some words) e entries s (a_start m km) ks =
      onward (record s { frames = Machine.frame_for_call m words ∷ []; entries = entries })
      (record { frames = one_frame km no_frames; memory = ks.memory })

  begins_together : (frames : List (Frame P)) (entries : List Entry) (s : State P C F X) → Known s
      → Together (Machine.begins set frames entries s) (Machine.begins set' (map there frames) entries (moved s))
  begins_together [] [] s ks = over Done s ks
  begins_together (f ∷ outer) entries s ks = onward s ks
  begins_together [] (e ∷ entries) s ks =
      prepared_together e.acts e.number s _ _ ks (λ h kh.
      let t : State P C F X = Machine.with_heap set h s in
      let kt : Known t = record {
        frames = ks.frames;
        memory = record {
          heap = kh;
          statics = (let m = ks.memory
              in m.statics);
        };
      } in
      subst (λ w. Together (Machine.entered_by set (Machine.entry_start set h e) (Machine.entry_words set h e) e entries
      t) (Machine.entered_by set' (Machine.entry_start set' (things h) e) w e entries (moved t)))
      (sym (words_same h e kh))
      (entered_together (Machine.entry_start set h e) (Machine.entry_start set' (things h) e) (Machine.entry_words set h
      e) e entries t (entry_same h e kh) kt))

  and_then_together : {t : Turn P C F X} {u : Turn Q D G Y} → Together t u
      → Together (Machine.and_then set t (λ s. Machine.step set s.frames s)) (Machine.and_then set' u
      (λ s. Machine.step set' s.frames s))
  and_then_together (onward s ks) = step_together s.frames s ks.frames ks
  and_then_together (over o s ks) = over o s ks
  and_then_together (sticks at is) =
      sticks at (λ misses. ap (λ u. Machine.and_then set' u (λ s. Machine.step set' s.frames s)) (is misses))

  turn_together : (s : State P C F X) → Known s → Together (Machine.turn set s) (Machine.turn set' (moved s))
  turn_together s ks = and_then_together (begins_together s.frames s.entries s ks)

  -- ---- a run

  idle_same : (frames : List (Frame P)) (entries : List Entry) → Machine.idle set' (map there frames) entries
      ≡ Machine.idle set frames entries
  idle_same [] [] = refl
  idle_same [] (e ∷ entries) = refl
  idle_same (f ∷ outer) entries = refl

  settled_same : (k : ℕ) → ((s : State P C F X) → Known s → IsFree n known KnownCode KnownMethod (Machine.run set k s)
      → Machine.run set' k (moved s) ≡ Machine.run set k s) → {t : Turn P C F X} {u : Turn Q D G Y} → Together t u
      → IsFree n known KnownCode KnownMethod (Machine.report_after_turn set t (Machine.run set k))
      → Machine.report_after_turn set' u (Machine.run set' k) ≡ Machine.report_after_turn set t (Machine.run set k)
  settled_same k agree (onward s ks) free = agree s ks free
  settled_same k agree (over o s ks) free = report_same o s ks
  settled_same k agree (sticks {at = at} at' is) free = absurd (free at refl)

  pub runs_agree : RunsAgree n known KnownCode KnownMethod set set'
  runs_agree zero s ks free = ap (λ o. Machine.report set' o (moved s)) (idle_same s.frames s.entries)
      ∙ report_same (Machine.idle set s.frames s.entries) s ks
  runs_agree (suc k) s ks free = settled_same k (runs_agree k) (turn_together s ks) free

  settled_stick : (k : ℕ) → Misses → ((s : State P C F X) → Known s
      → IsFree n known KnownCode KnownMethod (Machine.run set' k (moved s))
      → IsFree n known KnownCode KnownMethod (Machine.run set k s)) → {t : Turn P C F X} {u : Turn Q D G Y}
      → Together t u → IsFree n known KnownCode KnownMethod (Machine.report_after_turn set' u (Machine.run set' k))
      → IsFree n known KnownCode KnownMethod (Machine.report_after_turn set t (Machine.run set k))
  settled_stick k misses stick (onward s ks) free = stick s ks free
  settled_stick k misses stick (over o s ks) free = free
  settled_stick k misses stick (sticks {at = at} at' is) free =
      absurd (subst (λ u. IsFree n known KnownCode KnownMethod (Machine.report_after_turn set' u (Machine.run set' k)))
      (is misses) free at' refl)

  pub runs_stick_alike : Misses → RunsStickAlike n known KnownCode KnownMethod set set'
  runs_stick_alike misses zero s ks free =
      subst (λ o. IsFree n known KnownCode KnownMethod (Machine.report set o s)) (idle_same s.frames s.entries) free
  runs_stick_alike misses (suc k) s ks free = settled_stick k misses (runs_stick_alike misses k) (turn_together s ks)
      free
