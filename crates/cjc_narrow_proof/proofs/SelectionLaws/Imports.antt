-- A call of an imported method is noted and answered alike.
use Rattle.std.proofs.Common.{◌≡◌, ℕ, refl, sym, ap, subst, ◌∙◌, Bool, true, false, List, [], ◌∷◌, ◌++◌, length, take}
use Rattle.std.proofs.Common.{drop, reverse, ℤ}
use Rattle.std.specs.Prelude.{Option, Some, None, if◌then◌else◌, codes}
use Rattle.std.specs.Str.{bytes_eq}
use Rattle.std.proofs.lemmas.Slice.Eq.{bytes_eq-Decides}
use Rattle.cjc_bytes.specs.declared.fault.MemberId.{MemberId}
use Rattle.cjc_bytes.specs.Spots.{desc_of, parts_of, bad_at, after, types_from}
use Rattle.cjc_bytes.proofs.Bools.{last_of_three}
use Rattle.cjc_script.specs.declared.value.Value.{Value}
use Rattle.cjc_script.specs.declared.value.Value.TheVariants.{Num, Null, Obj}
use Rattle.cjc_script.specs.declared.report.Note.TheVariants.{Event}
use Rattle.cjc_script.specs.Sorts.{Shape, shape_name, Sort, Boolean, Byte, Short, Int, Reference, NoValue, Signature}
use Rattle.cjc_script.specs.Sorts.{signature_of}
use Rattle.cjc_card_semantics.specs.Bytecode.Runs.{Move}
use Rattle.cjc_card_semantics.specs.Bytecode.Arguments.{first_and, values_of, event_values}
use Rattle.cjc_card_semantics.specs.Bytecode.Effects.{Invoke, HeapObject, shape}
use Rattle.cjc_card_semantics.specs.Bytecode.Machine.{Abroad}
use Rattle.cjc_card_semantics.specs.Bytecode.Machine as narrow
use Rattle.cjc_ncode.specs.ByLabel.{Callee, Named, by_label}
use Rattle.cjc_jvm_semantics.specs.Linked.{Linked}
use Rattle.cjc_jvm_semantics.specs.Linked
use Rattle.cjc_jvm_semantics.specs.Effects as effects
use Rattle.cjc_jvm_semantics.specs.Machine.{Frame, State, with_note, holder_of, room, offset, is_at_once, at_callee}
use Rattle.cjc_jvm_semantics.specs.Machine.{after_effect, after_result, after_answer}
use Rattle.cjc_narrow_proof.specs.Selection.Relation.{Kind, Refers, Heap, number, null, object, Stacks, bottom, cell}
use Rattle.cjc_narrow_proof.specs.Selection.Relation.{Locals}
use Rattle.cjc_narrow_proof.specs.Selection.Rows.{HasRoom}
use Rattle.cjc_narrow_proof.specs.Selection.Jumps.{no_result}
use Rattle.cjc_narrow_proof.specs.Selection.Calls.{NFrame, NState, NTurn, Frames, is_number_sort, Passes, no_parameter}
use Rattle.cjc_narrow_proof.specs.Selection.Calls.{a_number, a_reference}
use Rattle.cjc_narrow_proof.specs.Selection.Throws.{nheap}
use Rattle.cjc_narrow_proof.specs.Selection.Results.{Resumes, resumes, AreShort}
use Rattle.cjc_narrow_proof.specs.Selection.Replies.{StatesAgree, result_kinds, IsImport, IsStaticImport, SelectsImport}
use Rattle.cjc_narrow_proof.specs.Selection.Replies.{IsObjectImport, Replies, goes_on, AnswersLand, RaisesAlike}
use Rattle.cjc_narrow_proof.specs.Selection.Replies.{AnswersAlike, ImportAgrees, is_null, is_answered}
use Rattle.cjc_narrow_proof.proofs.SelectionLaws.Begins.{to_static, receive_both, to_receiver}
use Rattle.cjc_narrow_proof.proofs.SelectionLaws.Replies.{keeps_itself, answer_both, land_in_frames}
use Rattle.cjc_narrow_proof.proofs.SelectionLaws.Results.{same_cells, resumed}

-- ---- the values of an event

number_value : (type : Sort) (x : ℤ) (types : List Sort) (vs : List Value) → is_number_sort type ≡ true
    → values_of (type ∷ types) (Num x ∷ vs) ≡ first_and (Num x) (values_of types vs)
number_value Boolean x types vs e = refl
number_value Byte x types vs e = refl
number_value Short x types vs e = refl
number_value Int x types vs e = cc
number_value (Reference kind) x types vs e = cc
number_value NoValue x types vs e = cc

values_same : {heap : Heap} {types : List Sort} {ks : List Kind} {vs ws : List Value} → Passes types ks
    → Stacks heap ks vs ws → values_of types vs ≡ Some vs
values_same no_parameter bottom = refl
values_same (a_number {type = type} {types = types} e p) (cell {vs = vs} (number {x = x} is h) rest) =
    number_value type x types vs e ∙ ap (first_and (Num x)) (values_same p rest)
values_same (a_reference p) (cell null rest) = ap (first_and Null) (values_same p rest)
values_same (a_reference p) (cell (object {k = k} thing is e) rest) = ap (first_and (Obj k)) (values_same p rest)

words_as_values : {heap : Heap} {types : List Sort} {ks : List Kind} {vs ws : List Value} → Passes types ks
    → AreShort ks → Stacks heap ks vs ws → values_of types ws ≡ Some vs
words_as_values {types = types} passes short stack = ap (values_of types) (same_cells short stack)
    ∙ values_same passes stack

-- ---- java/lang/Object.<init>()V

nothing_given : signature_of (codes "()V") ≡ Some (record { params = []; result = None })
unfolding desc_of parts_of bad_at after types_from
nothing_given = refl

no_result_at_once : (event : MemberId) (types : Signature) → signature_of event.desc ≡ Some types
    → is_at_once event ≡ true → types.result ≡ None
no_result_at_once event types has e =
    let desc : event.desc ≡ codes "()V" = (bytes_eq-Decides event.desc (codes "()V")).0
    (last_of_three (bytes_eq event.class (codes "java/lang/Object")) (bytes_eq event.name (codes "<init>"))
    (bytes_eq event.desc (codes "()V")) e) in
    let is : Some types ≡ Some (record { params = []; result = None }) = sym has ∙ ap signature_of desc ∙ nothing_given
    in
    let same : types ≡ record { params = []; result = None } = cc in
    ap (λ t. t.result) same

-- ---- frames that wait behind the call

module _ (by : Linked) (l : Named) (Lands : (class : List ℕ) → State → NState → Move State → NTurn
    → Type 0) (ks ls : List Kind) (f : Frame) (outer : List Frame) (g : NFrame) (others : List NFrame)
    (id event : MemberId) (types : Signature) (params : List Kind) (is : IsImport by l id event types params)
    (s : State) (t : NState) (agree : StatesAgree l s t) (held : Locals (nheap t) ls f.locals g.locals)
    (rest : Stacks (nheap t) ks f.stack g.stack)
    (roomy : HasRoom (result_kinds l types.result ++ ks) (room f) (let m = g.code in m.max_stack))
    (alike : AnswersLand by l Lands (nheap t) f outer g others) where
  abbrev Meets : Move State → NTurn → Type 0
  Meets = Replies by l Lands (nheap t) (result_kinds l types.result) ks ls f outer g others

  on_from : {m : Move State} {n : NTurn} → Resumes l ks s t f outer g others m n
      → Replies by l Lands (nheap t) [] ks ls f outer g others m n
  on_from (resumes stack) = goes_on agree (keeps_itself (nheap t)) stack held

  -- it returns at once
  returned_both : is_at_once event ≡ true → Meets (after_result (offset f) None f outer s) (narrow.returned (by_label l)
      g.at [] g others t)
  returned_both e =
      let none = no_result_at_once event types (ap signature_of is.desc ∙ is.has_types) e in
      subst (λ r. Replies by l Lands (nheap t) (result_kinds l r) ks ls f outer g others (after_result (offset f) None f
      outer s) (narrow.returned (by_label l) g.at [] g others t)) (sym none)
      (on_from (resumed by l ks f outer s g others t rest [] None [] (offset f) g.at no_result
      (subst (λ r. HasRoom (result_kinds l r ++ ks) (room f) (let m = g.code in m.max_stack)) none roomy)))

  pub abroad_both : (on : Bool) (args words : List Value) → event_values on types.params words ≡ Some args
      → Meets (at_callee by (Some (Linked.Abroad event)) types.result args f outer s) (narrow.reaches (by_label l)
      (Abroad event) on words g others t)
  abroad_both on args words values = by_case (is_at_once event) refl
    where
      by_case : (b : Bool) → is_at_once event ≡ b → Meets (if b then after_result (offset f) None f outer s
          else after_answer by s.answers types.result f outer (with_note (Event event args) s)) (if b
          then narrow.returned (by_label l) g.at [] g others t else narrow.typed (by_label l) on event
          (signature_of event.desc) words g others t)
      by_case true e = returned_both e
      by_case false e =
          let named_side = after_answer by s.answers types.result f outer (with_note (Event event args) s) in
          subst (λ o. Meets named_side (narrow.typed (by_label l) on event o words g others t))
          (sym (ap signature_of is.desc ∙ is.has_types))
          (subst (λ o. Meets named_side (narrow.turn_after_event (by_label l) event types.result o g others t))
          (sym values)
          (subst (λ answers. Meets (after_answer by answers types.result f outer (with_note (Event event args) s))
          (narrow.turn_after_event (by_label l) event types.result (Some args) g others t)) (sym agree.answers)
          (answer_both by l Lands types.result is.one_word is.asks (nheap t) ks ls f outer g others roomy alike
          t.answers (with_note (Event event args) s) (record t { notes = t.notes ++ Event event args ∷ [] })
          (record {
            stores = agree.stores;
            entries = agree.entries;
            answers = agree.answers;
            notes = ap (λ ns. ns ++ Event event args ∷ []) agree.notes;
          }) (keeps_itself (nheap t)) held rest)))

-- what a receiver of a type selects outside of the package
pub selected_abroad : (by : Linked) (l : Named) (Lands : (class : List ℕ) → State → NState → Move State → NTurn
    → Type 0) (id : MemberId) (named : Callee) (types : Signature) (params ks ls : List Kind) (next : ℕ) (f : Frame)
    (outer : List Frame) (s : State) (g : NFrame) (others : List NFrame) (t : NState) (selected : List ℕ
    → Option Linked.Callee) → StatesAgree l s t → Locals (nheap t) ls f.locals g.locals
    → HasRoom (result_kinds l types.result ++ ks) (room f) (let m = g.code in m.max_stack)
    → (k : ℕ) (thing : HeapObject (List ℕ) MemberId) → SelectsImport by l selected id named types params (shape thing)
    → (args words vs ws : List Value) → Stacks (nheap t) params args words → Stacks (nheap t) ks vs ws
    → AnswersLand by l Lands (nheap t) (record f { stack = vs }) outer (record g { next = next; stack = ws }) others
    → Replies by l Lands (nheap t) (result_kinds l types.result) ks ls (record f { stack = vs }) outer
    (record g { next = next; stack = ws }) others (at_callee by (selected (shape_name (shape thing))) types.result
    (Obj k ∷ args) (record f { stack = vs }) outer s) (narrow.reaches (by_label l)
    (l.reached named (Some (shape thing))) true (Obj k ∷ words) (record g { next = next; stack = ws }) others t)
selected_abroad by l Lands id named types params ks ls next f outer s g others t selected agree held roomy k thing h
    args words vs ws passed low alike =
    let import_is = h.is in
    let waits = record f { stack = vs } in
    let waiting = record g { next = next; stack = ws } in
    let Meets = Replies by l Lands (nheap t) (result_kinds l types.result) ks ls waits outer waiting others in
    subst (λ o. Meets (at_callee by o types.result (Obj k ∷ args) waits outer s) (narrow.reaches (by_label l)
    (l.reached named (Some (shape thing))) true (Obj k ∷ words) waiting others t)) (sym h.by_name)
    (subst (λ x. Meets (at_callee by (Some (Linked.Abroad h.event)) types.result (Obj k ∷ args) waits outer s)
    (narrow.reaches (by_label l) x true (Obj k ∷ words) waiting others t)) (sym h.narrow)
    (abroad_both by l Lands ks ls waits outer waiting others id h.event types params import_is s t agree held low roomy
    alike true (Obj k ∷ args) (Obj k ∷ words) (ap (first_and (Obj k)) (words_as_values import_is.passes
    import_is.short passed))))

-- ---- a static call

-- what a static call reaches outside of the package
pub static_reached : (by : Linked) (l : Named) (Lands : (class : List ℕ) → State → NState → Move State → NTurn
    → Type 0) (op : ℕ) (id event : MemberId) (named : Callee) (types : Signature) (params ks ls : List Kind) (next : ℕ)
    (f : Frame) (outer : List Frame) (s : State) (g : NFrame) (others : List NFrame) (t : NState)
    → IsStaticImport by l (holder_of f) op id event named types params → StatesAgree l s t
    → Locals (nheap t) ls f.locals g.locals → HasRoom (result_kinds l types.result ++ ks) (room f) (let m = g.code
    in m.max_stack)
    → (args words vs ws : List Value) → Stacks (nheap t) params args words → Stacks (nheap t) ks vs ws
    → AnswersLand by l Lands (nheap t) (record f { stack = vs }) outer (record g { next = next; stack = ws }) others
    → Replies by l Lands (nheap t) (result_kinds l types.result) ks ls (record f { stack = vs }) outer
    (record g { next = next; stack = ws }) others (at_callee by (Some (Linked.Abroad event)) types.result args
    (record f { stack = vs }) outer s) (narrow.reaches (by_label l) (l.reached named None) false words
    (record g { next = next; stack = ws }) others t)
static_reached by l Lands op id event named types params ks ls next f outer s g others t call agree held roomy args
    words vs ws passed low alike =
    let import_is = call.is in
    let waits = record f { stack = vs } in
    let waiting = record g { next = next; stack = ws } in
    subst (λ x. Replies by l Lands (nheap t) (result_kinds l types.result) ks ls waits outer waiting others
    (at_callee by (Some (Linked.Abroad event)) types.result args waits outer s) (narrow.reaches (by_label l) x false
    words waiting others t)) (sym call.narrow_reached)
    (abroad_both by l Lands ks ls waits outer waiting others id event types params import_is s t agree held low roomy
    alike false args words (words_as_values import_is.passes import_is.short passed))

pub static_import : (by : Linked) (l : Named) (op : ℕ) (id event : MemberId) (named : Callee) (types : Signature)
    (params ks ls : List Kind) (next : ℕ) (f : Frame) (outer : List Frame) (s : State) (g : NFrame)
    (others : List NFrame) (t : NState) → IsStaticImport by l (holder_of f) op id event named types params
    → StatesAgree l s t → Frames (nheap t) (reverse params ++ ks) ls f g → HasRoom (result_kinds l types.result
    ++ ks) (room f) (let m = g.code in m.max_stack)
    → ((vs ws : List Value) → AnswersAlike by l t (record f { stack = vs }) outer (record g { next = next; stack = ws })
    others)
    → ImportAgrees by l (result_kinds l types.result) ks ls next f outer s g others t
    (after_effect by (effects.Invoke op id) f outer s) (narrow.made (by_label l) (Invoke named) next g others t)
static_import by l op id event named types params ks ls next f outer s g others t call states agree roomy alike =
    let import_is = call.is in
    let n = length types.params in
    let Meets = ImportAgrees by l (result_kinds l types.result) ks ls next f outer s g others t in
    to_static by l op id named types params ks next f outer s g others t Meets (Linked.Abroad event) call.by_name
    import_is.has_types import_is.passes call.narrow_class call.narrow_words agree.stack (λ plain passed low.
    let vs = drop n f.stack in
    let ws = drop n g.stack in
    is_answered vs ws (static_reached by l (RaisesAlike by l (record f { stack = vs }) outer (record g {
      next = next;
      stack = ws;
    }) others) op id event named types params ks ls next f outer s g others t call states agree.locals
    roomy (reverse (take n f.stack)) (reverse (take n g.stack)) vs ws passed low (land_in_frames (alike vs ws))))

-- ---- a call on a receiver

pub object_import : (by : Linked) (l : Named) (op : ℕ) (id : MemberId) (named : Callee) (within : Shape (List ℕ)
    → Bool) (types : Signature) (params ks ls : List Kind) (next : ℕ) (f : Frame) (outer : List Frame) (s : State)
    (g : NFrame) (others : List NFrame) (t : NState) → IsObjectImport by l (holder_of f) op id named within types params
    → StatesAgree l s t → Frames (nheap t) (reverse (Refers within ∷ params) ++ ks) ls f g
    → HasRoom (result_kinds l types.result ++ ks) (room f) (let m = g.code in m.max_stack)
    → ((vs ws : List Value) → AnswersAlike by l t (record f { stack = vs }) outer (record g { next = next; stack = ws })
    others)
    → ImportAgrees by l (result_kinds l types.result) ks ls next f outer s g others t
    (after_effect by (effects.Invoke op id) f outer s) (narrow.made (by_label l) (Invoke named) next g others t)
object_import by l op id named within types params ks ls next f outer s g others t call states agree roomy alike =
    let on = call.call in
    let n = length types.params in
    let Meets = ImportAgrees by l (result_kinds l types.result) ks ls next f outer s g others t in
    to_receiver by l op id named within types params ks next f outer s g others t Meets on agree.stack
    (λ plain passed rest.
    receive_both by l named within params ks next f outer s g others t Meets on.selected types.result states.stores
    is_null
    (λ k thing there passes made args words vs ws passed low. is_answered vs ws
    (selected_abroad by l (RaisesAlike by l (record f { stack = vs }) outer (record g { next = next; stack = ws })
    others) id named types params ks ls next f outer s g others t on.selected states agree.locals roomy k thing
    (call.selects (shape thing) passes made) args words vs ws passed low (land_in_frames (alike vs ws))))
    n f.stack g.stack (drop n f.stack) (drop n g.stack) refl refl passed rest)
