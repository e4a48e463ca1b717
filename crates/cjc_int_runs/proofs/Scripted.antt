-- An entry of a script begins alike, in a method of either mode.
use Rattle.std.proofs.Common.{◌≡◌, ℕ, refl, sym, ap, subst, ◌∙◌, Bool, true, false, List, [], ◌∷◌, ◌++◌, ℤ, pos}
use Rattle.std.proofs.Common.{negsuc, drop}
use Rattle.std.specs.Prelude.{Option, Some, None, map, option_map, slice_get, ◌&&◌, if◌then◌else◌}
use Rattle.cjc_script.specs.Bytes.declared.fault.MemberId.{MemberId}
use Rattle.cjc_script.proofs.BytesBools.{and_true}
use Rattle.cjc_range.specs.Span.{Holds}
use Rattle.cjc_range.proofs.Spans.{fits_word}
use Rattle.cjc_script.specs.declared.value.Value.{Value}
use Rattle.cjc_script.specs.declared.value.Value.TheVariants.{Num, Null, Obj}
use Rattle.cjc_script.specs.declared.script.Entry.{Entry}
use Rattle.cjc_script.specs.declared.report.Note.{Note}
use Rattle.cjc_script.specs.declared.report.Outcome.TheVariants.{Unfit}
use Rattle.cjc_script.specs.declared.report.Thing.{Thing}
use Rattle.cjc_script.specs.Sorts.{Shape, Sort, Boolean, Byte, Short, Int, Reference, NoValue, Signature, shape_name}
use Rattle.cjc_script.specs.Sorts.{signature_of, fits, all_fit}
use Rattle.cjc_card_semantics.specs.Bytecode.Arguments.{value_words, words_of, both_words, first_and}
use Rattle.cjc_card_semantics.specs.Bytecode.Effects.{HeapObject, shape}
use Rattle.cjc_card_semantics.specs.Bytecode.Machine.{Start, Next, Ended}
use Rattle.cjc_card_semantics.specs.Bytecode.Machine as narrow
use Rattle.cjc_card_semantics.specs.Bytecode.Renaming.{option_as}
use Rattle.cjc_card_semantics.specs.Bytecode.Runs.{Move, Over}
use Rattle.cjc_card_semantics.proofs.BytecodeLaws.Natural.{get_map}
use Rattle.cjc_ncode.specs.declared.narrow.NMethod.{NMethod}
use Rattle.cjc_ncode.specs.ByLabel.{Named, by_label}
use Rattle.cjc_ncode.specs.IntCode.IntCode.{is_short}
use Rattle.cjc_jvm_semantics.specs.Linked.{Method, Linked}
use Rattle.cjc_jvm_semantics.specs.Machine.{Frame, State, heap_of, frame_for_call, report, object_fits, entry_begins}
use Rattle.cjc_jvm_semantics.specs.Machine.{entry_method, args_fit, sent_to, sent_on}
use Rattle.cjc_jvm_semantics.specs.Machine as named
use Rattle.cjc_narrow_proof.specs.Selection.Acts.{ActsAlike}
use Rattle.cjc_narrow_proof.specs.Selection.Calls.{NFrame, NState, NTurn}
use Rattle.cjc_narrow_proof.specs.Selection.Entries.{kinds_of, EntryAgrees, begins, unfit, MayEnter, is_called, is_sent}
use Rattle.cjc_narrow_proof.specs.Selection.Entries.{IsNoEntry}
use Rattle.cjc_narrow_proof.specs.Selection.Relation.{Kind, Range, Heap, NMemory, shown}
use Rattle.cjc_narrow_proof.specs.Selection.Replies.{StatesAgree, AsksAlike}
use Rattle.cjc_narrow_proof.specs.Selection.Rows.{kind_of}
use Rattle.cjc_narrow_proof.specs.Selection.Throws.{nheap}
use Rattle.cjc_narrow_proof.proofs.SelectionLaws.Begins.{type_shown}
use Rattle.cjc_narrow_proof.proofs.SelectionLaws.Entries.{none_begun}
use Rattle.cjc_narrow_proof.proofs.SelectionLaws.Keeps.{made_there}
use Rattle.cjc_narrow_proof.proofs.SelectionLaws.Replies.{acts_both, value_told, held_if, object_agrees}
use Rattle.cjc_int_runs.specs.Modes.{Begins, enters, is_over}
use Rattle.cjc_int_runs.specs.Relation.{to_null, type_range, Handed, one_word, two_words, as_it_is}
use Rattle.cjc_int_runs.specs.Relation.{AllHanded, nothing, one_more}
use Rattle.cjc_int_runs.specs.Scripted.{AreAsked, none_asked, one_asked, EntersAlike, IsScripted, finds_a_method}
use Rattle.cjc_int_runs.specs.Scripted.{finds_none}
use Rattle.cjc_int_runs.proofs.Called.{refers_of}
use Rattle.cjc_int_runs.proofs.Outward.{report_alike}
use Rattle.cjc_int_runs.proofs.Prologue.{is_word_of}
use Rattle.cjc_int_runs.proofs.Spelling.{spelt_number}

-- ---- arguments

-- the words of a value
record IsGiven (l : Named) (heap : Heap) (type : Sort) (v : Value) : Type 0 where
  words : List Value
  are : value_words type v ≡ Some words
  handed : Handed heap type (kind_of l type) v words

word_given : (l : Named) (heap : Heap) (type : Sort) (z : ℤ) → (short : is_short type ≡ true) → Holds (type_range
    type) z
    → Handed heap type (Range (type_range type)) (Num z) (Num z ∷ [])
word_given l heap type z short h = subst (λ y. Handed heap type (Range (type_range type)) (Num z) (Num y ∷ []))
    (is_word_of type z short h) (one_word short h h)

module _ (by : Linked) (l : Named) (heap : Heap) where
  given : (type : Sort) (v : Value) → ((kind : Shape (List ℕ)) → type ≡ Reference kind
      → AsksAlike by l kind) → fits (narrow.object_fits (by_label l) heap) type v ≡ true → IsGiven l heap type v
  given Boolean (Num z) asks e = record {
    words = Num z ∷ [];
    are = refl;
    handed = word_given l heap Boolean z refl (held_if (pos 0) (pos 1) z e);
  }
  given Boolean Null asks e = absurd cc
  given Boolean (Obj k) asks e = absurd cc
  given Byte (Num z) asks e = record {
    words = Num z ∷ [];
    are = refl;
    handed = word_given l heap Byte z refl (held_if (negsuc 127) (pos 127) z e);
  }
  given Byte Null asks e = absurd cc
  given Byte (Obj k) asks e = absurd cc
  given Short (Num z) asks e = record {
    words = Num z ∷ [];
    are = refl;
    handed = word_given l heap Short z refl (held_if (negsuc 32767) (pos 32767) z e);
  }
  given Short Null asks e = absurd cc
  given Short (Obj k) asks e = absurd cc
  given Int (Num z) asks e =
      let h = held_if (negsuc 2147483647) (pos 2147483647) z e in record {
        words = _;
        are = refl;
        handed = two_words (spelt_number z z refl (fits_word z h)) h;
      }
  given Int Null asks e = absurd cc
  given Int (Obj k) asks e = absurd cc
  given NoValue (Num z) asks e = absurd cc
  given NoValue Null asks e = absurd cc
  given NoValue (Obj k) asks e = absurd cc
  given (Reference kind) (Num z) asks e = absurd cc
  given (Reference kind) Null asks e = record { words = Null ∷ []; are = refl; handed = as_it_is to_null }
  given (Reference kind) (Obj k) asks e = record {
    words = Obj k ∷ [];
    are = refl;
    handed = as_it_is (refers_of (object_agrees by l heap kind (asks kind refl) k e));
  }

  -- all arguments
  record AreAll (types : List Sort) (args : List Value) : Type 0 where
    words : List Value
    are : words_of types args ≡ Some words
    handed : AllHanded heap types (kinds_of l types) args words

  all_given : (types : List Sort) (args : List Value) → AreAsked by l types
      → all_fit (narrow.object_fits (by_label l) heap) types args ≡ true → AreAll types args
  all_given _ [] none_asked e = record { words = []; are = refl; handed = nothing }
  all_given _ (v ∷ args) none_asked e = absurd cc
  all_given _ [] (one_asked asks more) e = absurd cc
  all_given _ (v ∷ args) (one_asked {type = type} {types = types} asks more) e =
      let p = and_true (fits (narrow.object_fits (by_label l) heap) type v)
      (all_fit (narrow.object_fits (by_label l) heap) types args) e in
      let one = given type v asks p.0 in
      let others = all_given types args more p.1 in
      record {
        words = one.words ++ others.words;
        are = ap (λ a. both_words a (words_of types args)) one.are ∙ ap (both_words (Some one.words)) others.are;
        handed = one_more one.handed others.handed;
      }

  all_told : (things : List Thing) → things ≡ map (shown l) heap → (types : List Sort) (args : List Value)
      → AreAsked by l types → all_fit (object_fits by things) types args
      ≡ all_fit (narrow.object_fits (by_label l) heap) types args
  all_told things same _ [] none_asked = refl
  all_told things same _ (v ∷ args) none_asked = refl
  all_told things same _ [] (one_asked asks more) = refl
  all_told things same _ (v ∷ args) (one_asked {type = type} {types = types} asks more) =
      ap (λ b. b && all_fit (object_fits by things) types args) (value_told by l heap things same type v asks)
      ∙ ap (λ b. fits (narrow.object_fits (by_label l) heap) type v && b) (all_told things same types args more)

-- ---- an entry

module _ (by : Linked) (l : Named) (Here : NMemory → Frame → NFrame → Type 0) (results : Method → Option Sort)
    (narrowed : Method → Start NMethod) (may_throw : Shape (List ℕ) → Bool) (e : Entry) (entries : List Entry) where
  module _ (is : EntersAlike by l Here results narrowed may_throw e.method) (s : State) (t : NState)
      (agree : StatesAgree l s t) (notes : List Note) (noted : t.notes ≡ notes) where
    abbrev Meets : Move State → NTurn → Type 0
    Meets = Begins by l Here results narrowed may_throw notes

    abbrev types : Signature
    types = is.types

    -- the state where the script goes on behind the entry
    behind : StatesAgree l (record s { entries = entries }) (record t { entries = entries })
    behind = record { stores = agree.stores; entries = refl; answers = agree.answers; notes = agree.notes }

    ended : Meets (Over (report (Unfit e.number) s)) (Ended (Unfit e.number) t)
    ended = is_over (report (Unfit e.number) s) (Unfit e.number) t (report_alike by l Here results narrowed may_throw
        (Unfit e.number) s t agree) (λ e. cc) (λ at e. cc)

    -- a static method
    called_both : (o : Option Method) → by.entry e.method ≡ o → (b : Bool)
        → all_fit (narrow.object_fits (by_label l) (nheap t)) types.params e.args ≡ b
        → Meets (entry_begins by o b e entries s) (narrow.entered_by (by_label l) (option_map narrowed o)
        (narrow.words_if (by_label l) b types.params e.args) e entries t)
    called_both None found b fit = ended
    called_both (Some m) found false fit = ended
    called_both (Some m) found true fit =
        let h = all_given by l (nheap t) types.params e.args is.given fit in
        let en = is.called_enters m found t.memory e.args h.words h.handed in
        subst (λ o. Meets (entry_begins by (Some m) true e entries s) (narrow.entered_by (by_label l)
        (Some (narrowed m)) o e entries t)) (sym h.are)
        (enters (frame_for_call m e.args) (record s { entries = entries }) (narrow.frame_for_call (narrowed m) h.words)
        (record t { entries = entries }) behind en.here noted)

    -- a method that is selected on an array or object
    selected_both : (k : ℕ) (args : List Value) → e.args ≡ Obj k ∷ args → (thing : HeapObject (List ℕ) MemberId)
        → slice_get (nheap t) k ≡ Some thing → (o : Option Method) → by.sent (shape_name (shape thing)) e.method ≡ o
        → (b : Bool) → all_fit (narrow.object_fits (by_label l) (nheap t)) types.params args ≡ b
        → Meets (entry_begins by o b e entries s) (narrow.entered_by (by_label l) (option_map narrowed o)
        (first_and (Obj k) (narrow.words_if (by_label l) b types.params args)) e entries t)
    selected_both k args same thing there None found b fit = ended
    selected_both k args same thing there (Some m) found false fit = ended
    selected_both k args same thing there (Some m) found true fit =
        let h = all_given by l (nheap t) types.params args is.given fit in
        let stores = agree.stores in
        let made = made_there l thing (stores.heap_fits k thing there) in
        let en = is.sent_enters (shape thing) m made found t.memory k thing args h.words there refl h.handed in
        subst (λ o. Meets (entry_begins by (Some m) true e entries s) (narrow.entered_by (by_label l)
        (Some (narrowed m)) o e entries t)) (sym (ap (first_and (Obj k)) h.are))
        (enters (frame_for_call m e.args) (record s { entries = entries }) (narrow.frame_for_call (narrowed m) (Obj k
        ∷ h.words)) (record t { entries = entries }) behind
        (subst (λ values. Here t.memory (frame_for_call m values) (narrow.frame_for_call (narrowed m) (Obj k
        ∷ h.words))) (sym same) en.here) noted)

    -- by what is at the receiver's place
    thing_both : (k : ℕ) (args : List Value) → e.args ≡ Obj k ∷ args → (o : Option (HeapObject (List ℕ) MemberId))
        → slice_get (nheap t) k ≡ o
        → Meets (entry_begins by (sent_to by (option_as (shown l) o) e.method)
        (all_fit (narrow.object_fits (by_label l) (nheap t)) types.params args) e entries s)
        (narrow.entered_by (by_label l) (narrow.sent_to (by_label l) o e.method) (narrow.words_behind (by_label l)
        (nheap t) types.params (Obj k ∷ args)) e entries t)
    unfolding by_label
    thing_both k args same None there = ended
    thing_both k args same (Some thing) there =
        let fit = all_fit (narrow.object_fits (by_label l) (nheap t)) types.params args in
        let words = first_and (Obj k) (narrow.words_if (by_label l) fit types.params args) in
        subst (λ type. Meets (entry_begins by (by.sent type e.method) fit e entries s)
        (narrow.entered_by (by_label l) (l.sent (shape thing) e.method) words e entries t)) (sym (type_shown l thing))
        (subst (λ o. Meets (entry_begins by (by.sent (shape_name (shape thing)) e.method) fit e entries s)
        (narrow.entered_by (by_label l) o words e entries t)) (sym (is.sent (shape thing)))
        (selected_both k args same thing there (by.sent (shape_name (shape thing)) e.method) refl fit refl))

    -- by the first argument
    sent_both : (args : List Value) → e.args ≡ args
        → Meets (entry_begins by (sent_on by (heap_of s) e.method args) (all_fit (object_fits by (heap_of s))
        types.params (drop 1 args)) e entries s) (narrow.entered_by (by_label l) (narrow.sent_on (by_label l)
        (nheap t) e.method args) (narrow.words_behind (by_label l) (nheap t) types.params args) e entries t)
    sent_both [] same = ended
    sent_both (Num x ∷ args) same = ended
    sent_both (Null ∷ args) same = ended
    sent_both (Obj k ∷ args) same =
        let stores = agree.stores in
        let narrow_side = narrow.entered_by (by_label l) (narrow.sent_to (by_label l) (slice_get (nheap t) k) e.method)
        (narrow.words_behind (by_label l) (nheap t) types.params (Obj k ∷ args)) e entries t in
        subst (λ o. Meets (entry_begins by (sent_to by o e.method) (all_fit (object_fits by (heap_of s)) types.params
        args) e entries s) narrow_side) (sym (ap (λ h. slice_get h k) stores.heap ∙ get_map (shown l) (nheap t) k))
        (subst (λ b. Meets (entry_begins by (sent_to by (option_as (shown l) (slice_get (nheap t) k)) e.method) b e
        entries s) narrow_side) (sym (all_told by l (nheap t) (heap_of s) stores.heap types.params args is.given))
        (thing_both k args same (slice_get (nheap t) k) refl))

    -- by whether it is sent
    by_call : (on : Bool) → Meets (entry_begins by (if on then sent_on by (heap_of s) e.method e.args
        else by.entry e.method) (all_fit (object_fits by (heap_of s)) types.params (if on then drop 1 e.args
        else e.args))
        e entries s) (narrow.entered_by (by_label l) (if on then narrow.sent_on (by_label l) (nheap t) e.method e.args
        else l.called e.method) (if on then narrow.words_behind (by_label l) (nheap t) types.params e.args
        else narrow.fitting_words (by_label l) (nheap t) types.params e.args) e entries t)
    by_call true = sent_both e.args refl
    by_call false =
        let stores = agree.stores in
        let fit = all_fit (narrow.object_fits (by_label l) (nheap t)) types.params e.args in
        subst (λ b. Meets (entry_begins by (by.entry e.method) b e entries s) (narrow.entered_by (by_label l)
        (l.called e.method) (narrow.words_if (by_label l) fit types.params e.args) e entries t))
        (sym (all_told by l (nheap t) (heap_of s) stores.heap types.params e.args is.given))
        (subst (λ o. Meets (entry_begins by (by.entry e.method) fit e entries s) (narrow.entered_by (by_label l) o
        (narrow.words_if (by_label l) fit types.params e.args) e entries t)) (sym is.called)
        (called_both (by.entry e.method) refl fit refl))

    -- once its acts are done
    entry_both : Meets (entry_begins by (entry_method by (heap_of s) e) (args_fit by (heap_of s) e
        (signature_of (let m = e.method in m.desc))) e entries s) (narrow.entered_by (by_label l)
        (narrow.entry_start (by_label l) (nheap t) e) (narrow.entry_words (by_label l) (nheap t) e) e entries t)
    unfolding by_label
    entry_both =
        subst (λ o. Meets (entry_begins by (entry_method by (heap_of s) e) (args_fit by (heap_of s) e o) e
        entries s) (narrow.entered_by (by_label l) (narrow.entry_start (by_label l) (nheap t) e)
        (narrow.words_for (by_label l) (nheap t) e o) e entries t)) (sym is.has_types)
        (by_call e.virtual_call)

  -- where neither side finds a method
  none_found : (params : Method → List Kind) → IsNoEntry by l e.method → (on : Bool) → (notes : List Note)
      {m : Move State} {u : NTurn} → EntryAgrees by l narrowed on params e entries notes m u
      → Begins by l Here results narrowed may_throw notes m u
  none_found params none on notes (begins s t m words may noted agree frames) = absurd (no_method on may)
    where
      no_method : (on : Bool) → MayEnter by l e.method on m → ⊥
      no_method _ (is_called found) = let q = sym none.not_called ∙ found in cc
      no_method _ (is_sent kind made found) = let q = sym (none.not_sent kind made) ∙ found in cc
  none_found params none on notes (unfit {s = s} {t = t} agree) =
      is_over (report (Unfit e.number) s) (Unfit e.number) t (report_alike by l Here results narrowed may_throw
      (Unfit e.number) s t agree) (λ e. cc) (λ at e. cc)

  pub entry_begins_alike : ActsAlike by l → IsScripted by l Here results narrowed may_throw e.method → (s : State)
      (t : NState) → StatesAgree l s t → Begins by l Here results narrowed may_throw t.notes
      (named.begins by [] (e ∷ entries) s) (narrow.begins (by_label l) [] (e ∷ entries) t)
  entry_begins_alike alike (finds_a_method is) s t agree =
      acts_both by l alike e.number (Begins by l Here results narrowed may_throw t.notes)
      (λ u. entry_begins by (entry_method by (heap_of u) e) (args_fit by (heap_of u) e (signature_of (let m = e.method
      in m.desc))) e entries u)
      (λ v. narrow.entered_by (by_label l) (narrow.entry_start (by_label l) (nheap v) e) (narrow.entry_words
      (by_label l) (nheap v) e) e entries v) e.acts s t agree
      (λ u v states. is_over (report (Unfit e.number) u) (Unfit e.number) v (report_alike by l Here results narrowed
      may_throw (Unfit e.number) u v states) (λ e. cc) (λ at e. cc))
      (λ u v states keeps noted. entry_both is u v states t.notes noted)
  entry_begins_alike alike (finds_none none) s t agree =
      none_found (λ m. []) none e.virtual_call t.notes (none_begun by l narrowed (λ m. []) e entries alike none s t
      agree)
