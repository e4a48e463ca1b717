-- Calls lead alike: into a method of the package, in any mode, or to an answer of the script.
use Rattle.std.proofs.Common.{◌≡◌, ℕ, suc, ◌+◌, refl, sym, ap, subst, ◌∙◌, arith, Bool, true, false, List}
use Rattle.std.proofs.Common.{[], ◌∷◌, ◌++◌, length, reverse, take, drop, ℤ, pos, negsuc}
use Rattle.std.specs.Prelude.{Option, Some, None, map, nat_le, slice_get, codes, ◌&&◌, if◌then◌else◌}
use Rattle.std.specs.Str.{bytes_eq}
use Rattle.std.proofs.lemmas.Bool.Decides.{nat_tests}
use Rattle.std.proofs.lemmas.List.{reverse-reverse}
use Rattle.std.proofs.lemmas.Slice.Eq.{bytes_eq-Decides}
use Rattle.cjc_script.specs.Bytes.declared.fault.MemberId.{MemberId}
use Rattle.cjc_script.specs.Bytes.Spots.{desc_of, parts_of, bad_at, after, types_from}
use Rattle.cjc_script.proofs.BytesBools.{last_of_three}
use Rattle.cjc_range.specs.Words.{low_word}
use Rattle.cjc_range.specs.Span.{Holds}
use Rattle.cjc_range.proofs.Spans.{fits_word}
use Rattle.cjc_script.specs.declared.value.Value.{Value}
use Rattle.cjc_script.specs.declared.value.Value.TheVariants.{Num, Null, Obj}
use Rattle.cjc_script.specs.declared.script.Answer.{Answer}
use Rattle.cjc_script.specs.declared.script.Reply.{Reply}
use Rattle.cjc_script.specs.declared.script.Reply.TheVariants.{Give, Throw}
use Rattle.cjc_script.specs.declared.report.Note.TheVariants.{Event}
use Rattle.cjc_script.specs.declared.report.Outcome.TheVariants.{Waiting as WaitingOutcome, Unfit}
use Rattle.cjc_script.specs.declared.report.Thing.{Thing}
use Rattle.cjc_script.specs.Sorts.{Shape, OfClass, Sort, Boolean, Byte, Short, Int, Reference, NoValue, Signature}
use Rattle.cjc_script.specs.Sorts.{shape_name, signature_of, result_fits}
use Rattle.cjc_card_semantics.specs.Bytecode.Arguments.{first_and, values_of as values_of_words, event_values}
use Rattle.cjc_card_semantics.specs.Bytecode.Arguments.{result_words}
use Rattle.cjc_card_semantics.specs.Bytecode.Effects.{HeapObject, shape}
use Rattle.cjc_card_semantics.specs.Bytecode.Machine.{Start, Next, StuckAt, Ended, Within, Abroad}
use Rattle.cjc_card_semantics.specs.Bytecode.Machine as narrow
use Rattle.cjc_card_semantics.specs.Bytecode.Runs.{Move, On, Over}
use Rattle.cjc_ncode.specs.declared.narrow.NMethod.{NMethod}
use Rattle.cjc_ncode.specs.ByLabel.{Callee, Named, on_object, by_label}
use Rattle.cjc_ncode.specs.IntCode.IntCode.{is_short}
use Rattle.cjc_jvm_semantics.specs.Linked.{Method, Inside, OnClass, OnObject, Call, Linked}
use Rattle.cjc_jvm_semantics.specs.Linked
use Rattle.cjc_jvm_semantics.specs.Effects.{NullPointer, exception_class, type_of}
use Rattle.cjc_jvm_semantics.specs.Effects as effects
use Rattle.cjc_jvm_semantics.specs.Machine.{Frame, State, heap_of, holder_of, with_frames, with_note, offset, room}
use Rattle.cjc_jvm_semantics.specs.Machine.{stuck_at, frame_for_call, is_of_sort, are_of_sorts, is_at_once, report}
use Rattle.cjc_jvm_semantics.specs.Machine.{after_effect, after_result, after_reply, after_answer, after_raise}
use Rattle.cjc_jvm_semantics.specs.Machine.{after_lookup, with_types, at_call, at_callee, at_selected, object_fits}
use Rattle.cjc_jvm_semantics.specs.Machine.{after_fault}
use Rattle.cjc_jvm_semantics.specs.Machine as named
use Rattle.cjc_narrow_proof.specs.Selection.Acts.{ActsAlike}
use Rattle.cjc_narrow_proof.specs.Selection.Calls.{NFrame, NState, NTurn}
use Rattle.cjc_narrow_proof.specs.Selection.Relation.{Kind, Heap, NMemory, Agrees, null as null_here, Range}
use Rattle.cjc_narrow_proof.specs.Selection.Relation.{object as object_here, Refers, shown}
use Rattle.cjc_narrow_proof.specs.Selection.Replies.{StatesAgree, AsksAlike, ThrowsAlike, may_be_thrown, result_kinds}
use Rattle.cjc_narrow_proof.specs.Selection.Throws.{nheap, IsRaised}
use Rattle.cjc_narrow_proof.proofs.SelectionLaws.Begins.{thing_shown, type_shown}
use Rattle.cjc_narrow_proof.proofs.SelectionLaws.Passed.{length_reverse, take_all, drop_all}
use Rattle.cjc_narrow_proof.proofs.SelectionLaws.Replies.{keeps_itself, acts_both, value_told, held_if}
use Rattle.cjc_narrow_proof.proofs.SelectionLaws.Replies.{object_agrees}
use Rattle.cjc_int_runs.specs.Calls.{onto}
use Rattle.cjc_int_runs.specs.Relation.{RefersTo, to_null, to_object, one_word, two_words, as_it_is}
use Rattle.cjc_int_runs.specs.Relation.{AllHanded, nothing, one_more, type_range}
use Rattle.cjc_int_runs.specs.Steps.{IntResults, no_result, result}
use Rattle.cjc_int_runs.specs.Modes.{Catches, Waits, Waiting, one_waits, inside, Both, onward, over, Arguments, Enters}
use Rattle.cjc_int_runs.specs.Modes.{IsImported, SelectedAlike, within_package, outside_package, CallsAlike, on_class}
use Rattle.cjc_int_runs.specs.Modes.{on_import, on_null, on_receiver}
use Rattle.cjc_int_runs.proofs.Aside.{onto_long}
use Rattle.cjc_int_runs.proofs.HandOver.{onto_is}
use Rattle.cjc_int_runs.proofs.Outward.{waits_kept, waiting_kept, raised_both, failed_both, report_alike}
use Rattle.cjc_int_runs.proofs.Outward.{resumed_both}
use Rattle.cjc_int_runs.proofs.Prologue.{is_word_of}
use Rattle.cjc_int_runs.proofs.Spelling.{spelt_number}

-- ---- what is taken off a stack

reverse_taken : (n : ℕ) (xs ys stack : List Value) → stack ≡ onto xs ys → n ≡ length xs → reverse (take n stack) ≡ xs
reverse_taken n xs ys stack is long =
    ap (λ zs. reverse (take n zs)) (is ∙ onto_is xs ys)
    ∙ ap (λ k. reverse (take k (reverse xs ++ ys))) (long ∙ sym (length_reverse xs))
    ∙ ap reverse (take_all (reverse xs) ys) ∙ reverse-reverse xs

dropped_off : (n : ℕ) (xs ys stack : List Value) → stack ≡ onto xs ys → n ≡ length xs → drop n stack ≡ ys
dropped_off n xs ys stack is long =
    ap (drop n) (is ∙ onto_is xs ys) ∙ ap (λ k. drop k (reverse xs ++ ys)) (long ∙ sym (length_reverse xs))
    ∙ drop_all (reverse xs) ys

-- ---- what is handed over

args_long : {heap : Heap} {sorts : List Sort} {ks : List Kind} {args words : List Value}
    → AllHanded heap sorts ks args words → length sorts ≡ length args
args_long nothing = refl
args_long (one_more handed more) = ap suc (args_long more)

short_number : (sort : Sort) (x : ℤ) → is_short sort ≡ true → is_of_sort sort (Num x) ≡ true
short_number Boolean x e = refl
short_number Byte x e = refl
short_number Short x e = refl
short_number Int x e = absurd cc
short_number (Reference shape) x e = absurd cc
short_number NoValue x e = absurd cc

of_sorts : {heap : Heap} {sorts : List Sort} {ks : List Kind} {args words : List Value}
    → AllHanded heap sorts ks args words → are_of_sorts sorts args ≡ true
of_sorts nothing = refl
of_sorts (one_more {sorts = sorts} {vs = vs} (one_word {sort = sort} {x = x} short small held) more) =
    ap (λ t. t && are_of_sorts sorts vs) (short_number sort x short) ∙ of_sorts more
of_sorts (one_more (two_words e held) more) = of_sorts more
of_sorts (one_more (as_it_is to_null) more) = of_sorts more
of_sorts (one_more (as_it_is (to_object thing is passes)) more) = of_sorts more

short_value : (sort : Sort) (x : ℤ) (sorts : List Sort) (words : List Value) → is_short sort ≡ true
    → values_of_words (sort ∷ sorts) (Num x ∷ words) ≡ first_and (Num x) (values_of_words sorts words)
short_value Boolean x sorts words e = refl
short_value Byte x sorts words e = refl
short_value Short x sorts words e = refl
short_value Int x sorts words e = absurd cc
short_value (Reference shape) x sorts words e = absurd cc
short_value NoValue x sorts words e = absurd cc

-- the values of an event are the arguments by name
values_same : {heap : Heap} {sorts : List Sort} {ks : List Kind} {args words : List Value}
    → AllHanded heap sorts ks args words → values_of_words sorts words ≡ Some args
values_same nothing = refl
values_same (one_more {sorts = sorts} {vs = vs} {ws = ws} (one_word {sort = sort} {x = x} short small held) more) =
    short_value sort (low_word x) sorts ws short
    ∙ ap (λ z. first_and (Num z) (values_of_words sorts ws)) (is_word_of sort x short small)
    ∙ ap (first_and (Num x)) (values_same more)
values_same (one_more {sorts = sorts} {vs = vs} {ws = ws} (two_words {x = x} e held) more) =
    ap (λ z. first_and (Num z) (values_of_words sorts ws)) (sym e) ∙ ap (first_and (Num x)) (values_same more)
values_same (one_more (as_it_is to_null) more) = ap (first_and Null) (values_same more)
values_same (one_more (as_it_is (to_object {k = k} thing is passes)) more) = ap (first_and (Obj k)) (values_same more)

-- ---- java/lang/Object.<init>()V

nothing_given : signature_of (codes "()V") ≡ Some (record { params = []; result = None })
unfolding desc_of parts_of bad_at after types_from
nothing_given = refl

no_result_at_once : (event : MemberId) (types : Signature) → signature_of event.desc ≡ Some types
    → is_at_once event ≡ true → types.result ≡ None
no_result_at_once event types has e =
    let desc : event.desc ≡ codes "()V" = (bytes_eq-Decides event.desc (codes "()V")).0
    (last_of_three (bytes_eq event.class (codes "java/lang/Object")) (bytes_eq event.name (codes "<init>"))
    (bytes_eq event.desc (codes "()V")) e) in
    let is : Some types ≡ Some (record { params = []; result = None }) = sym has ∙ ap signature_of desc ∙ nothing_given
    in
    let same : types ≡ record { params = []; result = None } = cc in
    ap (λ t. t.result) same

-- ---- the result that an answer gives

pub refers_of : {heap : Heap} {within : Shape (List ℕ) → Bool} {v w : Value} → Agrees heap (Refers within) v w
    → RefersTo heap within v
refers_of null_here = to_null
refers_of (object_here thing is passes) = to_object thing is passes

word_given : (heap : Heap) (sort : Sort) (z : ℤ) → is_short sort ≡ true → (h : Holds (type_range sort) z)
    → IntResults heap (Some sort) (Range (type_range sort) ∷ []) (Some (Num z)) (Num z ∷ [])
word_given heap sort z short h =
    subst (λ y. IntResults heap (Some sort) (Range (type_range sort) ∷ []) (Some (Num z)) (Num y ∷ []))
    (is_word_of sort z short h) (result (one_word short h h))

result_given : (by : Linked) (l : Named) (heap : Heap) (sort : Option Sort) (v : Option Value)
    → ((kind : Shape (List ℕ)) → sort ≡ Some (Reference kind) → AsksAlike by l kind)
    → result_fits (narrow.object_fits (by_label l) heap) sort v ≡ true
    → IntResults heap sort (result_kinds l sort) v (result_words sort v)
result_given by l heap None None asks e = no_result
result_given by l heap None (Some v) asks e = absurd cc
result_given by l heap (Some type) None asks e = absurd cc
result_given by l heap (Some Boolean) (Some (Num z)) asks e = word_given heap Boolean z refl (held_if (pos 0) (pos 1) z
    e)
result_given by l heap (Some Boolean) (Some Null) asks e = absurd cc
result_given by l heap (Some Boolean) (Some (Obj k)) asks e = absurd cc
result_given by l heap (Some Byte) (Some (Num z)) asks e = word_given heap Byte z refl (held_if (negsuc 127) (pos 127) z
    e)
result_given by l heap (Some Byte) (Some Null) asks e = absurd cc
result_given by l heap (Some Byte) (Some (Obj k)) asks e = absurd cc
result_given by l heap (Some Short) (Some (Num z)) asks e = word_given heap Short z refl (held_if (negsuc 32767)
    (pos 32767) z e)
result_given by l heap (Some Short) (Some Null) asks e = absurd cc
result_given by l heap (Some Short) (Some (Obj k)) asks e = absurd cc
result_given by l heap (Some Int) (Some (Num z)) asks e =
    let h = held_if (negsuc 2147483647) (pos 2147483647) z e in
    result (two_words (spelt_number z z refl (fits_word z h)) h)
result_given by l heap (Some Int) (Some Null) asks e = absurd cc
result_given by l heap (Some Int) (Some (Obj k)) asks e = absurd cc
result_given by l heap (Some NoValue) (Some v) asks e = absurd cc
result_given by l heap (Some (Reference kind)) (Some (Num z)) asks e = absurd cc
result_given by l heap (Some (Reference kind)) (Some Null) asks e = result (as_it_is to_null)
result_given by l heap (Some (Reference kind)) (Some (Obj k)) asks e = result (as_it_is (refers_of
    (object_agrees by l heap kind (asks kind refl) k e)))

result_told : (by : Linked) (l : Named) (heap : Heap) (things : List Thing) → things ≡ map (shown l) heap
    → (sort : Option Sort) (v : Option Value)
    → ((kind : Shape (List ℕ)) → sort ≡ Some (Reference kind) → AsksAlike by l kind)
    → result_fits (object_fits by things) sort v ≡ result_fits (narrow.object_fits (by_label l) heap) sort v
result_told by l heap things same None None asks = refl
result_told by l heap things same None (Some v) asks = refl
result_told by l heap things same (Some type) None asks = refl
result_told by l heap things same (Some type) (Some v) asks = value_told by l heap things same type v (λ kind e.
    asks kind (ap Some e))

module _ (by : Linked) (l : Named) (Here : NMemory → Frame → NFrame → Type 0) (results : Method → Option Sort)
    (narrowed : Method → Start NMethod) (may_throw : Shape (List ℕ) → Bool) (acts : ActsAlike by l)
    (throws : (class : List ℕ) → ThrowsAlike by l class)
    (may_answer : (class : List ℕ) → may_be_thrown by class ≡ true → may_throw (OfClass class) ≡ true)
    (raised : IsRaised l NullPointer) (may_raise : may_throw (OfClass (exception_class NullPointer)) ≡ true) where
  abbrev Meets : Move State → NTurn → Type 0
  Meets = Both by l Here results narrowed may_throw

  abbrev Wait : Heap → Option Sort → List Frame → List NFrame → Type 0
  Wait = Waiting by l Here results narrowed may_throw

  abbrev Waits_for : Heap → Option Sort → Frame → NFrame → Type 0
  Waits_for = Waits by l Here results narrowed may_throw

  -- ---- answers

  module _ (sort : Option Sort) (asks : (kind : Shape (List ℕ)) → sort ≡ Some (Reference kind) → AsksAlike by l kind)
      (f : Frame) (outer : List Frame) (g : NFrame) (others : List NFrame) where
    is_unfit : (number : ℕ) (s : State) (t : NState) → StatesAgree l s t
        → Meets (Over (report (Unfit number) s)) (Ended (Unfit number) t)
    is_unfit number s t same = over (report (Unfit number) s) (Unfit number) t (report_alike by l Here results narrowed
        may_throw (Unfit number) s t same) (λ e. cc) (λ at e. cc)

    give_both : (v : Option Value) (number : ℕ) (s : State) (t : NState) → StatesAgree l s t
        → Waits_for (nheap t) sort f g → Wait (nheap t) (results f.method) outer others
        → Meets (after_reply by (Give v) number sort f outer s) (narrow.turn_after_reply (by_label l) (Give v) number
        sort g others t)
    give_both v number s t same w waiting =
        let stores = same.stores in
        subst (λ b. Meets (if b then after_result (offset f) v f outer s else Over (report (Unfit number) s))
        (narrow.turn_after_reply (by_label l) (Give v) number sort g others t))
        (sym (result_told by l (nheap t) (heap_of s) stores.heap sort v asks))
        (by_answer (result_fits (narrow.object_fits (by_label l) (nheap t)) sort v) refl)
      where
        by_answer : (b : Bool) → result_fits (narrow.object_fits (by_label l) (nheap t)) sort v ≡ b
            → Meets (if b then after_result (offset f) v f outer s else Over (report (Unfit number) s)) (if b
            then narrow.returned (by_label l) g.at (result_words sort v) g others t else Ended (Unfit number) t)
        by_answer true e = resumed_both by l Here results narrowed may_throw (offset f) g.at f outer s g others t same v
            (result_words sort v) (w.returns t.memory (keeps_itself (nheap t)) v (result_words sort v)
            (result_given by l (nheap t) sort v asks e)) waiting
        by_answer false e = is_unfit number s t same

    throw_both : (class : List ℕ) (number : ℕ) (s : State) (t : NState) → StatesAgree l s t
        → Waits_for (nheap t) sort f g → Wait (nheap t) (results f.method) outer others
        → Meets (after_reply by (Throw class) number sort f outer s) (narrow.turn_after_reply (by_label l)
        (Throw class) number sort g others t)
    unfolding by_label
    throw_both class number s t same w waiting =
        let thrown = throws class in
        subst (λ o. Meets (after_reply by (Throw class) number sort f outer s) (narrow.turn_after_raise (by_label l) o
        g others t (Ended (Unfit number) t))) (sym thrown.tells)
        (by_answer (may_be_thrown by class) refl)
      where
        by_answer : (b : Bool) → may_be_thrown by class ≡ b → Meets (if b then after_raise by class f outer s
            else Over (report (Unfit number) s)) (narrow.turn_after_raise (by_label l) (if b then Some class
            else None) g others t (Ended (Unfit number) t))
        by_answer true e = let thrown = throws class in raised_both by l Here results narrowed may_throw f outer s g
            others
            t same w.catches waiting class (thrown.imported e) (may_answer class e) (Ended (Unfit number) t)
        by_answer false e = is_unfit number s t same

    reply_both : (reply : Reply) (number : ℕ) (s : State) (t : NState) → StatesAgree l s t
        → Waits_for (nheap t) sort f g → Wait (nheap t) (results f.method) outer others
        → Meets (after_reply by reply number sort f outer s) (narrow.turn_after_reply (by_label l) reply number sort g
        others t)
    reply_both (Give v) number s t same w waiting = give_both v number s t same w waiting
    reply_both (Throw class) number s t same w waiting = throw_both class number s t same w waiting

    answer_both : (answers : List Answer) (s : State) (t : NState) → StatesAgree l s t
        → Waits_for (nheap t) sort f g → Wait (nheap t) (results f.method) outer others
        → Meets (after_answer by answers sort f outer s) (narrow.turn_after_answer (by_label l) answers sort g others
        t)
    answer_both [] s t same w waiting = over (report WaitingOutcome s) WaitingOutcome t (report_alike by l Here results
        narrowed may_throw WaitingOutcome s t same) (λ e. cc) (λ at e. cc)
    answer_both (a ∷ answers) s t same w waiting =
        acts_both by l acts a.number Meets (λ u. after_reply by a.reply a.number sort f outer u)
        (λ v. narrow.turn_after_reply (by_label l) a.reply a.number sort g others v) a.acts
        (record s { answers = answers }) (record t { answers = answers })
        (record { stores = same.stores; entries = same.entries; answers = refl; notes = same.notes })
        (λ u v states. is_unfit a.number u v states)
        (λ u v states more noted. reply_both a.reply a.number u v states
        (waits_kept by l Here results narrowed may_throw more w)
        (waiting_kept by l Here results narrowed may_throw more waiting))

  -- ---- what is reached

  module _ (f : Frame) (outer : List Frame) (s : State) (g : NFrame) (others : List NFrame) (t : NState)
      (same : StatesAgree l s t) (waiting : Wait (nheap t) (results f.method) outer others) where
    -- a method of the package begins
    inside_both : (m : Method) (sort : Option Sort) (on : Bool) (args words : List Value)
        → Enters by l Here results narrowed may_throw t.memory m args words → Waits_for (nheap t) (results m) f g
        → Meets (at_callee by (Some (Inside m)) sort args f outer s) (narrow.reaches (by_label l) (Within (narrowed m))
        on words g others t)
    inside_both m sort on args words enters w =
        subst (λ b. Meets (if b then stuck_at (offset f) s
        else On (with_frames (frame_for_call m args ∷ f ∷ outer) s))
        (narrow.reaches (by_label l) (Within (narrowed m)) on words g others t)) (sym enters.has_code)
        (subst (λ b. Meets (On (with_frames (frame_for_call m args ∷ f ∷ outer) s)) (if b
        then StuckAt g.at t else Next (record t {
          frames = narrow.frame_for_call (narrowed m) words ∷ g ∷ others;
        }))) (sym enters.is_written)
        (onward (inside (frame_for_call m args) (f ∷ outer) s (narrow.frame_for_call (narrowed m) words) (g ∷ others) t
        same enters.here (one_waits w waiting))))

    -- an imported one is noted and answered, or returns at once
    abroad_both : (id event : MemberId) (types : Signature) (on : Bool) (args words : List Value)
        → signature_of id.desc ≡ Some types
        → IsImported by l Here results narrowed may_throw id event types
        → event_values on types.params words ≡ Some args → Waits_for (nheap t) types.result f g
        → Meets (at_callee by (Some (Linked.Abroad event)) types.result args f outer s) (narrow.reaches (by_label l)
        (Abroad event) on words g others t)
    abroad_both id event types on args words has_types is values w = by_case (is_at_once event) refl
      where
        has : signature_of event.desc ≡ Some types
        has = ap signature_of is.desc ∙ has_types

        by_case : (b : Bool) → is_at_once event ≡ b → Meets (if b then after_result (offset f) None f outer s
            else after_answer by s.answers types.result f outer (with_note (Event event args) s)) (if b
            then narrow.returned (by_label l) g.at [] g others t else narrow.typed (by_label l) on event
            (signature_of event.desc) words g others t)
        by_case true e =
            let none = no_result_at_once event types has e in
            resumed_both by l Here results narrowed may_throw (offset f) g.at f outer s g others t same None []
            (w.returns t.memory (keeps_itself (nheap t)) None []
            (subst (λ r. IntResults (nheap t) r (result_kinds l r) None []) (sym none) no_result)) waiting
        by_case false e =
            let named_side = after_answer by s.answers types.result f outer (with_note (Event event args) s) in
            subst (λ o. Meets named_side (narrow.typed (by_label l) on event o words g others t)) (sym has)
            (subst (λ o. Meets named_side (narrow.turn_after_event (by_label l) event types.result o g others t))
            (sym values)
            (subst (λ answers. Meets (after_answer by answers types.result f outer (with_note (Event event args) s))
            (narrow.turn_after_event (by_label l) event types.result (Some args) g others t)) (sym same.answers)
            (answer_both types.result is.asks f outer g others t.answers (with_note (Event event args) s) (record t {
              notes = t.notes ++ Event event args ∷ [];
            })
            (record {
              stores = same.stores;
              entries = same.entries;
              answers = same.answers;
              notes = ap (λ ns. ns ++ Event event args ∷ []) same.notes;
            }) w waiting)))

    -- what a receiver selects
    selected_both : (id : MemberId) (callee : Callee) (types : Signature) (selected : List ℕ → Option Linked.Callee)
        (object : ℕ) (thing : HeapObject (List ℕ) MemberId) (args words : List Value)
        → signature_of id.desc ≡ Some types → event_values true types.params words ≡ Some args
        → slice_get (nheap t) object ≡ Some thing
        → SelectedAlike by l Here results narrowed may_throw t.memory id callee types selected (shape thing) args words
        f g
        → Meets (at_selected by selected (slice_get (heap_of s) object) types.result args f outer s)
        (narrow.reaches_on (by_label l) callee (slice_get (nheap t) object) words g others t)
    unfolding by_label
    selected_both id callee types selected object thing args words has_types values there is =
        subst (λ o. Meets (at_selected by selected o types.result args f outer s) (narrow.reaches_on (by_label l) callee
        (slice_get (nheap t) object) words g others t)) (sym (thing_shown l (nheap t) object thing same.stores.heap
        there))
        (subst (λ name. Meets (at_callee by (selected name) types.result args f outer s) (narrow.reaches_on (by_label l)
        callee (slice_get (nheap t) object) words g others t)) (sym (type_shown l thing))
        (subst (λ o. Meets (at_callee by (selected (shape_name (shape thing))) types.result args f outer s)
        (narrow.reaches_on (by_label l) callee o words g others t)) (sym there)
        (by_selected is)))
      where
        by_selected : SelectedAlike by l Here results narrowed may_throw t.memory id callee types selected (shape thing)
            args words f g
            → Meets (at_callee by (selected (shape_name (shape thing))) types.result args f outer s)
            (narrow.reaches (by_label l) (l.reached callee (Some (shape thing))) true words g others t)
        by_selected (within_package m e e' enters w) =
            subst (λ o. Meets (at_callee by o types.result args f outer s) (narrow.reaches (by_label l) (l.reached
            callee
            (Some (shape thing))) true words g others t)) (sym e)
            (subst (λ o. Meets (at_callee by (Some (Inside m)) types.result args f outer s) (narrow.reaches (by_label l)
            o
            true words g others t)) (sym e') (inside_both m types.result true args words enters w))
        by_selected (outside_package event e e' imported w) =
            subst (λ o. Meets (at_callee by o types.result args f outer s) (narrow.reaches (by_label l) (l.reached
            callee
            (Some (shape thing))) true words g others t)) (sym e)
            (subst (λ o. Meets (at_callee by (Some (Linked.Abroad event)) types.result args f outer s) (narrow.reaches
            (by_label l) o true words g others t)) (sym e') (abroad_both id event types true args words has_types
            imported
            values w))

  -- ---- the call

  module _ (f : Frame) (outer : List Frame) (s : State) (g : NFrame) (others : List NFrame) (t : NState)
      (same : StatesAgree l s t) (waiting : Wait (nheap t) (results f.method) outer others) where
    -- by name the arguments leave the stack
    named_call : (op : ℕ) (id : MemberId) (types : Signature) (call : Call) (a : Arguments by l Here results narrowed
        may_throw (nheap t) types f g) → by.call (holder_of f) op id ≡ Some call → signature_of id.desc ≡ Some types
        → after_effect by (effects.Invoke op id) f outer s ≡ at_call by call types.result a.args (record f {
          stack = a.under;
        }) outer s
    named_call op id types call a found has_types =
        let n = length types.params in
        let long : n ≡ length a.args = args_long a.handed in
        ap (λ o. after_lookup by o id f outer s) found ∙ ap (λ o. with_types by call o f outer s) has_types
        ∙ ap (λ xs. if are_of_sorts types.params xs then at_call by call types.result xs (record f {
          stack = drop n f.stack;
        }) outer s else stuck_at (offset f) s) (reverse_taken n a.args a.under f.stack a.by_name long)
        ∙ ap (λ b. if b then at_call by call types.result a.args (record f { stack = drop n f.stack }) outer s
        else stuck_at (offset f) s) (of_sorts a.handed)
        ∙ ap (λ st. at_call by call types.result a.args (record f { stack = st }) outer s)
        (dropped_off n a.args a.under f.stack a.by_name long)

    -- and by label its words do
    narrow_call : (callee : Callee) (words below : List Value) (n : ℕ) → g.stack ≡ onto words below
        → l.words callee ≡ Some n → n ≡ length words
        → narrow.counted (by_label l) (l.words callee) callee g others t
        ≡ narrow.with_args (by_label l) (on_object callee) callee words (record g { stack = below }) others t
    unfolding by_label
    narrow_call callee words below n is many long =
        let tall : length g.stack ≡ length words + length below = ap length is ∙ onto_long words below in
        let enough : nat_le n (length g.stack) ≡ true = grind (arith, nat_tests, tall, long) in
        ap (λ o. narrow.counted (by_label l) o callee g others t) many
        ∙ ap (λ b. if b then narrow.with_args (by_label l) (on_object callee) callee (reverse (take n g.stack)) (record
        g {
          stack = drop n g.stack;
        }) others t else StuckAt g.at t) enough
        ∙ ap (λ xs. narrow.with_args (by_label l) (on_object callee) callee xs (record g { stack = drop n g.stack })
        others t) (reverse_taken n words below g.stack is long)
        ∙ ap (λ st. narrow.with_args (by_label l) (on_object callee) callee words (record g { stack = st }) others t)
        (dropped_off n words below g.stack is long)

    -- handlers do not see the stack
    restacked : (vs ws : List Value) → Catches by l Here results narrowed may_throw (nheap t) f g
        → Catches by l Here results narrowed may_throw (nheap t) (record f { stack = vs }) (record g { stack = ws })
    restacked vs ws catches kind may = let h = catches kind may in record {
      target_of = h.target_of;
      found = h.found;
      has_room = h.has_room;
      goes = h.goes;
    }

    pub called_both : (op : ℕ) (id : MemberId) (callee : Callee)
        → CallsAlike by l Here results narrowed may_throw t.memory op id callee f g
        → Meets (after_effect by (effects.Invoke op id) f outer s) (narrow.counted (by_label l) (l.words callee) callee
        g
        others t)
    unfolding by_label
    called_both op id callee (on_class types a m found has_types on many reached enters w) =
        subst (λ x. Meets x (narrow.counted (by_label l) (l.words callee) callee g others t))
        (sym (named_call op id types (OnClass (Inside m)) a found has_types))
        (subst (Meets (at_callee by (Some (Inside m)) types.result a.args (record f { stack = a.under }) outer s))
        (sym (narrow_call callee a.words a.below (length a.words) a.narrow many refl
        ∙ ap (λ b. narrow.with_args (by_label l) b callee a.words (record g { stack = a.below }) others t) on
        ∙ ap (λ r. narrow.reaches (by_label l) r false a.words (record g { stack = a.below }) others t) reached))
        (inside_both (record f { stack = a.under }) outer s (record g { stack = a.below }) others t same waiting m
        types.result false a.args a.words enters w))
    called_both op id callee (on_import types a event found has_types on many reached imported w) =
        subst (λ x. Meets x (narrow.counted (by_label l) (l.words callee) callee g others t))
        (sym (named_call op id types (OnClass (Linked.Abroad event)) a found has_types))
        (subst (Meets (at_callee by (Some (Linked.Abroad event)) types.result a.args (record f { stack = a.under })
        outer
        s))
        (sym (narrow_call callee a.words a.below (length a.words) a.narrow many refl
        ∙ ap (λ b. narrow.with_args (by_label l) b callee a.words (record g { stack = a.below }) others t) on
        ∙ ap (λ r. narrow.reaches (by_label l) r false a.words (record g { stack = a.below }) others t) reached))
        (abroad_both (record f { stack = a.under }) outer s (record g { stack = a.below }) others t same waiting id
        event
        types false a.args a.words has_types imported (values_same a.handed) w))
    called_both op id callee (on_null types a selected under below found has_types on many is is' catches) =
        let whole : g.stack ≡ onto (Null ∷ a.words) below = a.narrow ∙ ap (onto a.words) is' in
        subst (λ x. Meets x (narrow.counted (by_label l) (l.words callee) callee g others t))
        (sym (named_call op id types (OnObject selected) a found has_types
        ∙ ap (λ st. named.on_receiver by selected st types.result a.args (record f { stack = st }) outer s) is))
        (subst (Meets (after_fault by NullPointer (record f { stack = Null ∷ under }) outer s))
        (sym (narrow_call callee (Null ∷ a.words) below (length a.words + 1) whole many (omega arith)
        ∙ ap (λ b. narrow.with_args (by_label l) b callee (Null ∷ a.words) (record g { stack = below }) others t) on))
        (failed_both by l Here results narrowed may_throw (record f { stack = Null ∷ under }) outer s (record g {
          stack = below;
        }) others t same (restacked (Null ∷ under) below catches) waiting NullPointer raised may_raise))
    called_both op id callee (on_receiver types a selected under below object thing found has_types on many is is' there
        chosen) =
        let whole : g.stack ≡ onto (Obj object ∷ a.words) below = a.narrow ∙ ap (onto a.words) is' in
        subst (λ x. Meets x (narrow.counted (by_label l) (l.words callee) callee g others t))
        (sym (named_call op id types (OnObject selected) a found has_types
        ∙ ap (λ st. named.on_receiver by selected st types.result a.args (record f { stack = st }) outer s) is))
        (subst (Meets (at_selected by selected (slice_get (heap_of s) object) types.result (Obj object ∷ a.args) (record
        f
        { stack = under }) outer s))
        (sym (narrow_call callee (Obj object ∷ a.words) below (length a.words + 1) whole many (omega arith)
        ∙ ap (λ b. narrow.with_args (by_label l) b callee (Obj object ∷ a.words) (record g { stack = below }) others t)
        on))
        (selected_both (record f { stack = under }) outer s (record g { stack = below }) others t same waiting id callee
        types selected object thing (Obj object ∷ a.args) (Obj object ∷ a.words) has_types
        (ap (first_and (Obj object)) (values_same a.handed)) there chosen))
