-- What the rules of a method that is not in int mode are to whole runs of a package in which methods are of both modes.
use Rattle.std.proofs.Common.{◌≡◌, ℕ, suc, ◌+◌, ◌<◌, ◌≤◌, refl, sym, ap, subst, ◌∙◌, arith}
use Rattle.std.proofs.Common.{Bool, true, List, [], ◌∷◌, ◌++◌}
use Rattle.std.proofs.Common.{reverse}
use Rattle.std.specs.Prelude.{Option, Some, None, slice_get}
use Rattle.std.specs.List.{Contains}
use Rattle.cjc_script.specs.Bytes.declared.fault.MemberId.{MemberId}
use Rattle.cjc_range.specs.Span.{Span, Within}
use Rattle.cjc_range.proofs.Order.{held_wider}
use Rattle.cjc_int_proof.specs.Bytecode.declared.insn.JInsn.{JInsn}
use Rattle.cjc_int_proof.specs.Bytecode.declared.insn.JOp.TheVariants as jop
use Rattle.cjc_script.specs.declared.value.Value.{Value}
use Rattle.cjc_script.specs.declared.value.Value.TheVariants.{Num, Obj}
use Rattle.cjc_script.specs.Sorts.{Shape, Sort, Boolean, Byte, Short, Int, Reference, NoValue, Signature, signature_of}
use Rattle.cjc_card_semantics.specs.Bytecode.Effects as narrow
use Rattle.cjc_card_semantics.specs.Bytecode.Meanings.{meaning}
use Rattle.cjc_ncode.specs.declared.narrow.NInsn.{NInsn}
use Rattle.cjc_ncode.specs.declared.narrow.NInsn.TheVariants as insns
use Rattle.cjc_ncode.specs.declared.narrow.NMethod.{NMethod}
use Rattle.cjc_ncode.specs.ByLabel.{Callee, Named, by_label, operation}
use Rattle.cjc_ncode.specs.ByLabel as labels
use Rattle.cjc_ncode.specs.IntCode.IntCode.{is_short}
use Rattle.cjc_jvm_semantics.specs.Linked.{Method, Linked}
use Rattle.cjc_jvm_semantics.specs.Effects.{Store, NullPointer, place, effect}
use Rattle.cjc_jvm_semantics.specs.Effects as by_name
use Rattle.cjc_jvm_semantics.specs.Machine.{Frame, values_of, room}
use Rattle.cjc_int_proof.specs.Walks.{Within as Inside, walk}
use Rattle.cjc_narrow_proof.specs.Selection.Acts.{Keeps}
use Rattle.cjc_narrow_proof.specs.Selection.Calls.{NFrame}
use Rattle.cjc_narrow_proof.specs.Selection.Jumps.{Jumps, Results, no_result as nothing_given, result as one_given}
use Rattle.cjc_narrow_proof.specs.Selection.Jumps.{Returns, leaves}
use Rattle.cjc_narrow_proof.specs.Selection.Jumps as jumping
use Rattle.cjc_narrow_proof.specs.Selection.Relation.{Kind, Range, Refers, Heap, NMemory, Agrees, number, null, object}
use Rattle.cjc_narrow_proof.specs.Selection.Relation.{Stacks, bottom, cell, Locals, Stores}
use Rattle.cjc_narrow_proof.specs.Selection.Objects.{class_of}
use Rattle.cjc_narrow_proof.specs.Selection.Replies.{result_kinds}
use Rattle.cjc_narrow_proof.specs.Selection.Rows.{NEffect, Same, goes, narrow_fault, kind_of, HasRoom}
use Rattle.cjc_narrow_proof.specs.Selection.Rows as rows
use Rattle.cjc_narrow_proof.specs.Selection.Runs.{Rule}
use Rattle.cjc_narrow_proof.specs.Selection.Runs as short
use Rattle.cjc_narrow_proof.specs.Selection.Switches.{JumpsInTwo}
use Rattle.cjc_narrow_proof.specs.Selection.Tables.{Table, code_of, written_place, spot as place_at, Arrives}
use Rattle.cjc_narrow_proof.specs.Selection.Tables.{Comes, Stands, Catches as ShortCatches}
use Rattle.cjc_narrow_proof.specs.Selection.Types.{TypesStay, goes_on as types_go_on}
use Rattle.cjc_narrow_proof.proofs.SelectionLaws.Gets.{heights}
use Rattle.cjc_narrow_proof.proofs.SelectionLaws.Keeps.{stacks_kept, locals_kept}
use Rattle.cjc_narrow_proof.proofs.SelectionLaws.Types.{types_stay}
use Rattle.cjc_narrow_proof.proofs.SelectionLaws.Whole.{arrived, comes}
use Rattle.cjc_narrow_proof.proofs.SelectionLaws.Widens.{stacks_wider, locals_wider}
use Rattle.cjc_int_runs.specs.ByModes.{PassesWords, no_parameter, a_number_word, a_reference_word, WordFits}
use Rattle.cjc_int_runs.specs.ByModes.{no_value_given, a_word_given, a_reference_given, ShortRule, within_frame}
use Rattle.cjc_int_runs.specs.ByModes.{gives, calls_out}
use Rattle.cjc_int_runs.specs.Calls.{onto}
use Rattle.cjc_int_runs.specs.IntFrames.{IntBody, StandsByMode, in_short_mode}
use Rattle.cjc_int_runs.specs.Modes.{frame_at, Catches, Waits, Arguments, CallsAlike, Does, goes_on, stays, raises}
use Rattle.cjc_int_runs.specs.Modes as modes
use Rattle.cjc_int_runs.specs.Relation.{RefersTo, to_null, to_object, one_word, two_words, as_it_is, AllHanded}
use Rattle.cjc_int_runs.specs.Relation.{nothing, one_more, type_range}
use Rattle.cjc_int_runs.specs.Steps.{spot, IntResults, no_result, result}
use Rattle.cjc_int_runs.proofs.Reaching.{calls_class, calls_object}
use Rattle.cjc_int_runs.proofs.Stepping.{onward, asked, led_out, raised}
use Rattle.cjc_int_runs.specs.Modes.{CallReaches, below_params}

-- ---- what goes between methods

refers_of : {heap : Heap} {within : Shape (List ℕ) → Bool} {v w : Value} → Agrees heap (Refers within) v w
    → (w ≡ v) × RefersTo heap within v
refers_of null = (refl, to_null)
refers_of (object thing is passes) = (refl, to_object thing is passes)

agrees_of : {heap : Heap} {within : Shape (List ℕ) → Bool} {v : Value} → RefersTo heap within v
    → Agrees heap (Refers within) v v
agrees_of to_null = null
agrees_of (to_object thing is passes) = object thing is passes

short_kind : (l : Named) (type : Sort) → is_short type ≡ true → kind_of l type ≡ Range (type_range type)
short_kind l Boolean e = refl
short_kind l Byte e = refl
short_kind l Short e = refl
short_kind l Int e = absurd cc
short_kind l (Reference shape) e = absurd cc
short_kind l NoValue e = absurd cc

-- parameters on top of both stacks
record WordsHanded (heap : Heap) (sorts : List Sort) (params ks : List Kind) (vs ws : List Value) : Type 0 where
  args : List Value
  under : List Value
  words : List Value
  below : List Value
  by_name : vs ≡ onto args under
  narrow : ws ≡ onto words below
  handed : AllHanded heap sorts params args words
  rest : Stacks heap ks under below

module _ {heap : Heap} (sorts : List Sort) (params ks : List Kind) (vs ws args words : List Value)
    (handed : AllHanded heap sorts params args words) where
  number_handed : (type : Sort) (s : Span) → is_short type ≡ true → Within s (type_range type)
      → (under below : List Value) → Stacks heap (Range s ∷ ks) under below → vs ≡ onto args under
      → ws ≡ onto words below → WordsHanded heap (type ∷ sorts) (Range s ∷ params) ks vs ws
  number_handed type s is_word small _ _ (cell {vs = under} {ws = below} (number {x = x} {y = y} e h) rest) is is' =
      record {
        args = Num x ∷ args;
        under = under;
        words = Num y ∷ words;
        below = below;
        by_name = is;
        narrow = is';
        handed = subst (λ z. AllHanded heap (type ∷ sorts) (Range s ∷ params) (Num x ∷ args) (Num z ∷ words)) (sym e)
            (one_more (one_word is_word (held_wider s (type_range type) x small h) h) handed);
        rest = rest;
      }

  reference_handed : (shape : Shape (List ℕ)) (within : Shape (List ℕ) → Bool) (under below : List Value)
      → Stacks heap (Refers within ∷ ks) under below → vs ≡ onto args under
      → ws ≡ onto words below → WordsHanded heap (Reference shape ∷ sorts) (Refers within ∷ params) ks vs ws
  reference_handed shape within _ _ (cell {v = v} {w = w} {vs = under} {ws = below} agree rest) is is' =
      let r = refers_of agree in
      record {
        args = v ∷ args;
        under = under;
        words = w ∷ words;
        below = below;
        by_name = is;
        narrow = is';
        handed = subst (λ z. AllHanded heap (Reference shape ∷ sorts) (Refers within ∷ params) (v ∷ args) (z ∷ words))
            (sym r.0) (one_more (as_it_is r.1) handed);
        rest = rest;
      }

all_handed : {heap : Heap} (sorts : List Sort) (params ks : List Kind) (vs ws : List Value) → PassesWords sorts params
    → Stacks heap (onto params ks) vs ws → WordsHanded heap sorts params ks vs ws
all_handed _ _ ks vs ws no_parameter stacks = record {
  args = [];
  under = vs;
  words = [];
  below = ws;
  by_name = refl;
  narrow = refl;
  handed = nothing;
  rest = stacks;
}
all_handed _ _ ks vs ws (a_number_word {sort = type} {s = s} {sorts = sorts} {ks = params} is_word small more) stacks =
    let p = all_handed sorts params (Range s ∷ ks) vs ws more stacks in
    number_handed sorts params ks vs ws p.args p.words p.handed type s is_word small p.under p.below p.rest p.by_name
    p.narrow
all_handed _ _ ks vs ws (a_reference_word {shape = shape} {within = within} {sorts = sorts} {ks = params} more) stacks =
    let p = all_handed sorts params (Refers within ∷ ks) vs ws more stacks in
    reference_handed sorts params ks vs ws p.args p.words p.handed shape within p.under p.below p.rest p.by_name
    p.narrow

-- a result that is given
word_result : (l : Named) {heap : Heap} {sort : Option Sort} {kinds : List Kind} {value : Option Value}
    {words : List Value} → WordFits l sort kinds → Results heap kinds value words
    → IntResults heap sort (result_kinds l sort) value words
word_result l no_value_given nothing_given = no_result
word_result l {heap = heap} (a_word_given {sort = type} {s = s} is_word small) (one_given (number {x = x} {y = y} e
    h)) =
    let held = held_wider s (type_range type) x small h in
    subst (λ k. IntResults heap (Some type) (k ∷ []) (Some (Num x)) (Num y ∷ [])) (sym (short_kind l type is_word))
    (subst (λ z. IntResults heap (Some type) (Range (type_range type) ∷ []) (Some (Num x)) (Num z ∷ [])) (sym e)
    (result (one_word is_word held held)))
word_result l {heap = heap} (a_reference_given {shape = shape} tells) (one_given {v = v} {w = w} agree) =
    let r = refers_of agree in
    subst (λ z. IntResults heap (Some (Reference shape)) (kind_of l (Reference shape) ∷ []) (Some v) (z ∷ []))
    (sym r.0) (result (as_it_is (refers_wider tells r.1)))
  where
    refers_wider : {within wider : Shape (List ℕ) → Bool} {v : Value} → ((kind : Shape (List ℕ))
        → within kind ≡ true → wider kind ≡ true) → RefersTo heap within v → RefersTo heap wider v
    refers_wider more to_null = to_null
    refers_wider more (to_object thing is passes) = to_object thing is (more (narrow.shape thing) passes)

-- a result that is taken, by a method that takes no int
result_stacks : (l : Named) {heap : Heap} {sort : Option Sort} {kinds ks : List Kind} {value : Option Value}
    {words under below : List Value} → (sort ≡ Some Int → ⊥) → IntResults heap sort kinds value words
    → Stacks heap ks under below → Stacks heap (kinds ++ ks) (values_of value ++ under) (reverse words ++ below)
result_stacks l no_int no_result rest = rest
result_stacks l no_int (result (one_word is_word small held)) rest = cell (number refl held) rest
result_stacks l no_int (result (two_words e held)) rest = absurd (no_int refl)
result_stacks l no_int (result (as_it_is refers)) rest = cell (agrees_of refers) rest

module _ (by : Linked) (l : Named) (tb : Table) (bodies : Method → Option IntBody) (results : Method → Option Sort)
    (f : Frame) (is_short_mode : bodies f.method ≡ None) where
  abbrev Here : NMemory → Frame → NFrame → Type 0
  Here = StandsByMode l tb bodies

  enter : (memory : NMemory) (inner : Frame) (g : NFrame) → inner.method ≡ f.method → Stands tb memory.heap inner g
      → Here memory inner g
  enter memory inner g same stands = in_short_mode (ap bodies same ∙ is_short_mode) stands

  -- exceptions at the place of the instruction
  caught : (g : NFrame) → g.code ≡ code_of tb f.method → g.at ≡ place_at tb f.method f.at → (heap : Heap)
      (ls : List Kind) → ShortCatches by l tb f.method f.at ls → Locals heap ls f.locals g.locals
      → Catches by l Here results tb.narrowed tb.may_throw heap f g
  caught g is_code is_place heap ls catches held kind may =
      let alike = catches kind may in record {
        target_of = written_place tb f.method;
        found = ap (λ (code : NMethod). labels.handler l code.catches g.at kind) is_code
            ∙ ap (λ k. labels.handler l (let code = code_of tb f.method in code.catches) k kind) is_place ∙ alike.found;
        has_room = λ target is. (let h = alike.handles target is in (
          h.has_room,
          subst (λ (code : NMethod). 0
              < code.max_stack) (sym is_code) h.narrow_has_room,
        ));
        goes = λ target is memory keeps k thing there same. (let h = alike.handles target is in
            enter memory (record f { at = place (let m = f.method in m.insns) target; stack = Obj k ∷ [] }) (record g {
              at = written_place tb f.method target;
              stack = Obj k ∷ [];
            }) refl (arrived by l tb f g memory.heap (place (let m = f.method in m.insns) target)
            (written_place tb f.method target) (Refers h.within ∷ []) ls (Obj k ∷ []) (Obj k ∷ []) f.locals g.locals
            is_code (comes by l tb (Obj k ∷ []) g.locals h.arrives)
            (cell (object thing there (ap h.within same ∙ h.passes)) bottom) (locals_kept keeps held)));
      }

  module _ (g : NFrame) (memory : NMemory) (store : Store) (stores : Stores l store memory)
      (stands : Stands tb memory.heap f g) (i : JInsn) where
    abbrev known : List Kind
    known = let p = stands.point in p.locals

    abbrev named : by_name.Effect
    named = by_name.effect by f.method f.at f.locals store i.op f.stack

    abbrev Doing : Type 0
    Doing = Does by l Here results tb.narrowed tb.may_throw 1532 memory store f g i

    -- what holds at the place in the code that is written holds of the frame
    at_place : (P : NMethod → ℕ → Type 0) → P (code_of tb f.method) (place_at tb f.method f.at) → P g.code g.at
    at_place P h = subst (λ code. P code g.at) (sym stands.code) (subst (P (code_of tb f.method)) (sym stands.place) h)

    catching : ShortCatches by l tb f.method f.at known
        → Catches by l Here results tb.narrowed tb.may_throw memory.heap f g
    catching catches = caught g stands.code stands.place memory.heap known catches stands.agree.locals

    -- where both go on
    on_both : (at next : ℕ) (ks ls : List Kind) (vs ws : List Value) (locals words : List (Option Value))
        (heap : Heap) → Comes tb f.method at next ks ls vs words → Stacks heap ks vs ws → Locals heap ls locals words
        → Stands tb heap (record f { at = at; stack = vs; locals = locals }) (record g {
          at = next;
          stack = ws;
          locals = words;
        })
    on_both at next ks ls vs ws locals words heap a stack held = arrived by l tb f g heap at next ks ls vs ws locals
        words stands.code a stack held

    -- a row
    row_does : (insn : NInsn) (ks ls : List Kind) → slice_get (let code = g.code in code.insns) g.at ≡ Some insn
        → ShortCatches by l tb f.method f.at known → (e : by_name.Effect) (n : NEffect) → named ≡ e
        → asked l g.code insn g.at g.stack g.locals memory ≡ n
        → ((after wafter : List (Option Value)) (new : Store) (grown : NMemory) (stack wstack : List Value)
        → e ≡ by_name.Go (f.at + 1) stack after new → n ≡ narrow.Go (g.at + 1) wstack wafter grown
        → Comes tb f.method (f.at + 1) (g.at + 1) ks ls stack wafter)
        → ((k : ℕ) → named ≡ by_name.Toss k → ⊥) → Same l ks ls (f.at + 1) (g.at + 1) e n
        → TypesStay memory.heap n → Doing
    row_does insn ks ls there catches _ _ is does lands never (goes {vs = vs} {ws = ws} {locals = locals}
        {words = words} {store = after} {memory = grown} stack held stores') (types_go_on keeps) =
        goes_on (f.at + 1) vs locals after 0 (spot (g.at + 1) ws words grown) is
        (onward l g.code 0 g.at (g.at + 1) insn g.stack ws g.locals words memory grown _ there does refl) (omega arith)
        stores' keeps (enter grown (record f { at = f.at + 1; stack = vs; locals = locals }) (record g {
          at = g.at + 1;
          stack = ws;
          locals = words;
        }) refl (on_both (f.at + 1) (g.at + 1) ks ls vs ws locals words grown.heap
        (lands locals words after grown vs ws refl refl) stack held))
    row_does insn ks ls there catches _ _ is does lands never (rows.raises {fault = fault}) types =
        raises fault 1 (g.at + 1) (spot g.at g.stack g.locals memory) is
        (raised l g.code 0 g.at insn g.stack g.locals memory (narrow_fault fault) there does) (omega arith) refl
        (catching catches)
    row_does insn ks ls there catches _ _ is does lands never (rows.tosses {object = k}) types = absurd (never k is)

    -- a jump, of the last of so many instructions
    jump_does : (ks ls : List Kind) (offsets : List ℕ) (next n : ℕ) → n ≤ 1 → (e : by_name.Effect) (a : NEffect)
        → named ≡ e
        → ((to : ℕ) (ws : List Value) (words : List (Option Value)) (grown : NMemory) → a ≡ narrow.Go to ws words grown
        → walk (by_label l) g.code (suc n) (spot g.at g.stack g.locals memory) ≡ Inside (spot to ws words grown))
        → ((offset : ℕ) → Contains offsets offset → Arrives tb f.method (place (let m = f.method in m.insns) offset)
        (written_place tb f.method offset) ks ls)
        → ((after : List (Option Value)) (new : Store) (stack : List Value) → e ≡ by_name.Go (f.at + 1) stack after new
        → Arrives tb f.method (f.at + 1) next ks ls)
        → Jumps l ks ls offsets (place (let m = f.method in m.insns)) (written_place tb f.method) (f.at + 1) next e a
        → TypesStay memory.heap a → Doing
    jump_does ks ls offsets next n few _ _ is leads there falls (jumping.jumps {vs = vs} {ws = ws} {locals = locals}
        {words = words} {store = after} {memory = grown} offset among stack held stores') (types_go_on keeps) =
        goes_on (place (let m = f.method in m.insns) offset) vs locals after n (spot (written_place tb f.method offset)
        ws
        words grown) is (leads (written_place tb f.method offset) ws words grown refl) (omega (arith, few)) stores'
        keeps
        (enter grown (record f { at = place (let m = f.method in m.insns) offset; stack = vs; locals = locals })
        (record g { at = written_place tb f.method offset; stack = ws; locals = words }) refl
        (on_both (place (let m = f.method in m.insns) offset) (written_place tb f.method offset) ks ls vs ws locals
        words
        grown.heap (comes by l tb vs words (there offset among)) stack held))
    jump_does ks ls offsets next n few _ _ is leads there falls (jumping.falls {vs = vs} {ws = ws} {locals = locals}
        {words = words} {store = after} {memory = grown} stack held stores') (types_go_on keeps) =
        goes_on (f.at + 1) vs locals after n (spot next ws words grown) is (leads next ws words grown refl)
        (omega (arith, few)) stores' keeps
        (enter grown (record f { at = f.at + 1; stack = vs; locals = locals }) (record g {
          at = next;
          stack = ws;
          locals = words;
        }) refl (on_both (f.at + 1) next ks ls vs ws locals words grown.heap (comes by l tb vs words (falls locals after
        vs refl)) stack held))

    throw_does : (within : Shape (List ℕ) → Bool) (ks : List Kind) (vs ws : List Value)
        → named ≡ by_name.effect by f.method f.at f.locals store jop.Throw vs
        → slice_get (let code = g.code in code.insns) g.at ≡ Some (insns.Op 0x93) → g.stack ≡ ws
        → ((kind : Shape (List ℕ)) → within kind ≡ true → tb.may_throw kind ≡ true)
        → ShortCatches by l tb f.method f.at known → Stacks memory.heap (Refers within ∷ ks) vs ws → Doing
    unfolding effect meaning
    throw_does within ks _ _ is there same may catches (cell {ws = ws} null rest) =
        raises NullPointer 1 (g.at + 1) (spot g.at g.stack g.locals memory) is
        (raised l g.code 0 g.at (insns.Op 0x93) g.stack g.locals memory (narrow_fault NullPointer) there
        (ap (λ st. asked l g.code (insns.Op 0x93) g.at st g.locals memory) same)) (omega arith) refl (catching catches)
    throw_does within ks _ _ is there same may catches (cell {ws = ws} (object {k = k} thing at passes) rest) =
        modes.throws k thing 1 (g.at + 1) (spot g.at g.stack g.locals memory) is
        (led_out l g.code 0 g.at (insns.Op 0x93) g.stack g.locals memory (narrow.Toss k) there
        (ap (λ st. asked l g.code (insns.Op 0x93) g.at st g.locals memory) same) refl) (omega arith) refl at
        (may (narrow.shape thing) passes) (catching catches)

    leave_does : (insn : NInsn) (kinds : List Kind) → slice_get (let code = g.code in code.insns) g.at ≡ Some insn
        → WordFits l (results f.method) kinds → (e : by_name.Effect) (n : NEffect) → named ≡ e
        → asked l g.code insn g.at g.stack g.locals memory ≡ n → Returns memory.heap kinds e n → Doing
    leave_does insn kinds there fits _ _ is does (leaves {value = value} {words = words} r) =
        modes.returns value words 1 (g.at + 1) (spot g.at g.stack g.locals memory) is
        (led_out l g.code 0 g.at insn g.stack g.locals memory (narrow.Leave words) there does refl) (omega arith) refl
        (word_result l fits r)

    -- frames that wait behind a call
    waits_behind : (result : Option Sort) (ks : List Kind) → (result ≡ Some Int → ⊥)
        → Arrives tb f.method (f.at + 1) (g.at + 1) (result_kinds l result ++ ks) known
        → HasRoom (result_kinds l result ++ ks) (room f) (let code = g.code in code.max_stack)
        → ShortCatches by l tb f.method f.at known → (under below : List Value) → Stacks memory.heap ks under below
        → Waits by l Here results tb.narrowed tb.may_throw memory.heap result (record f { stack = under }) (record g {
          next = g.at + 1;
          stack = below;
        })
    waits_behind sort ks no_int a has_room catches under below agree =
        let caller = record g { next = g.at + 1; stack = below } in
        record {
          returns = λ memory' keeps value words given. behind_call memory' keeps value words given;
          catches = λ kind may. (let h = caught caller stands.code stands.place memory.heap known catches
              stands.agree.locals kind may in record {
                target_of = h.target_of;
                found = h.found;
                has_room = h.has_room;
                goes = h.goes;
              });
        }
      where
        behind_call : (memory' : NMemory) → Keeps memory.heap memory'.heap → (value : Option Value) (words : List Value)
            → IntResults memory'.heap sort (result_kinds l sort) value words
            → modes.Returns by l Here results tb.narrowed tb.may_throw memory' (record f { stack = under }) (record g {
              next = g.at + 1;
              stack = below;
            }) value words
        behind_call memory' keeps value words given =
            let caller = record g { next = g.at + 1 } in
            let both = result_stacks l no_int given (stacks_kept keeps agree) in
            let h = heights both in let e = h.by_name in let n = h.narrow in
            let high = has_room.by_name in let high' = has_room.narrow in
            record {
              by_name = omega (arith, e, high);
              narrow = omega (arith, n, high');
              here = enter memory' (record f { at = f.at + 1; stack = values_of value ++ under }) (record caller {
                at = g.at + 1;
                stack = reverse words ++ below;
              }) refl (arrived by l tb f caller memory'.heap (f.at + 1) (g.at + 1) (result_kinds l sort ++ ks) known
                  (values_of value ++ under) (reverse words ++ below) f.locals g.locals stands.code
                  (comes by l tb (values_of value ++ under) g.locals a) both (locals_kept keeps stands.agree.locals));
            }

    call_does : (op : ℕ) (id : MemberId) (callee : Callee) (types : Signature) (params ks : List Kind)
        (receiver : Option (Shape (List ℕ) → Bool)) (insn : NInsn) → signature_of id.desc ≡ Some types
        → PassesWords types.params params → slice_get (let code = g.code in code.insns) g.at ≡ Some insn
        → named ≡ by_name.Invoke op id → asked l g.code insn g.at g.stack g.locals memory ≡ narrow.Invoke callee
        → (types.result ≡ Some Int → ⊥)
        → Arrives tb f.method (f.at + 1) (g.at + 1) (result_kinds l types.result ++ ks) known
        → HasRoom (result_kinds l types.result ++ ks) (room f) (let code = g.code in code.max_stack)
        → ShortCatches by l tb f.method f.at known
        → CallReaches by l Here results tb.narrowed tb.may_throw (class_of f.method) op id callee types params receiver
        → Stacks memory.heap (onto params (below_params receiver ks)) f.stack g.stack → Doing
    call_does op id callee types params ks receiver insn has_types passes there is does no_int a has_room catches
        reaches stack =
        let p = all_handed types.params params (below_params receiver ks) f.stack g.stack passes stack in
        modes.calls op id callee 1 (g.at + 1) (spot g.at g.stack g.locals memory) is
        (led_out l g.code 0 g.at insn g.stack g.locals memory (narrow.Invoke callee) there does refl) (omega arith) refl
        (by_receiver receiver reaches p.args p.words p.under p.below p.by_name p.narrow p.handed p.rest)
      where
        by_receiver : (receiver : Option (Shape (List ℕ) → Bool))
            → CallReaches by l Here results tb.narrowed tb.may_throw (class_of f.method) op id callee types params
            receiver → (args words under below : List Value) → f.stack ≡ onto args under → g.stack ≡ onto words below
            → AllHanded memory.heap types.params params args words
            → Stacks memory.heap (below_params receiver ks) under below
            → CallsAlike by l Here results tb.narrowed tb.may_throw memory op id callee f (record g { next = g.at + 1 })
        by_receiver None reaches args words under below is is' handed rest =
            calls_class by l Here results tb.narrowed tb.may_throw memory f (record g { next = g.at + 1 }) op id callee
            types has_types (record {
              kinds = params;
              args = args;
              under = under;
              words = words;
              below = below;
              by_name = is;
              narrow = is';
              handed = handed;
            }) reaches (waits_behind types.result ks no_int a has_room catches under below rest)
        by_receiver (Some within) reaches args words _ _ is is' handed (cell {v = v} {w = w} {vs = under} {ws = below}
            agree rest) =
            let r = refers_of agree in
            calls_object by l Here results tb.narrowed tb.may_throw memory f (record g { next = g.at + 1 }) op id callee
            types has_types (record {
              kinds = params;
              args = args;
              under = v ∷ under;
              words = words;
              below = w ∷ below;
              by_name = is;
              narrow = is';
              handed = handed;
            }) store stores within reaches v under below refl (ap (λ x. x ∷ below) r.0) r.1
            (caught (record g { next = g.at + 1 }) stands.code stands.place memory.heap known catches
            stands.agree.locals)
            (waits_behind types.result ks no_int a has_room catches under below rest)

    -- ---- by its rule

    abbrev height : ℕ
    height = let code = g.code in code.max_stack

    abbrev asks : NInsn → NEffect
    asks insn = asked l g.code insn g.at g.stack g.locals memory

    is_there : (insn : NInsn) → slice_get (let code = code_of tb f.method in code.insns) (place_at tb f.method f.at)
        ≡ Some insn → slice_get (let code = g.code in code.insns) g.at ≡ Some insn
    is_there insn written = at_place (λ code k. slice_get code.insns k ≡ Some insn) written

    pub by_short_rule : ShortRule by l tb bodies results f.method f.at stands.point i → Doing
    by_short_rule (within_frame (short.does insn ks ls written holds never lands catches) plain) =
        row_does insn ks ls (is_there insn written) catches named (asks insn) refl refl
        (λ after wafter new grown stack wstack e e'. at_place (λ code k. asked l code insn k g.stack g.locals memory
        ≡ narrow.Go (k + 1) wstack wafter grown → Comes tb f.method (f.at + 1) (k + 1) ks ls stack wafter)
        (λ e''. lands f.locals after g.locals wafter store new memory grown f.stack stack g.stack wstack stands.owns e
        e'') e')
        (never f.locals store f.stack)
        (at_place (λ code k. Same l ks ls (f.at + 1) (k + 1) named (asked l code insn k g.stack g.locals memory))
        (holds f.locals g.locals store memory f.stack g.stack stores stands.agree.locals stands.agree.stack
        stands.owns))
        (types_stay l height (g.at + 1) g.locals memory (operation insn) g.stack)
    by_short_rule (within_frame (short.jumps insn ks ls offsets written holds there falls) plain) =
        jump_does ks ls offsets (g.at + 1) 0 (omega arith) named (asks insn) refl
        (λ to ws words grown e. onward l g.code 0 g.at to insn g.stack ws g.locals words memory grown _
        (is_there insn written) e refl) there
        (λ after new stack e. at_place (λ code k. Arrives tb f.method (f.at + 1) (k + 1) ks ls)
        (falls f.locals after store new f.stack stack e))
        (at_place (λ code k. Jumps l ks ls offsets (place (let m = f.method in m.insns)) (written_place tb f.method)
        (f.at + 1) (k + 1) named (asked l code insn k g.stack g.locals memory))
        (holds f.locals g.locals store memory f.stack g.stack stores stands.agree.locals stands.agree.stack))
        (types_stay l height (g.at + 1) g.locals memory (operation insn) g.stack)
    by_short_rule (within_frame (short.goes_on ks holds low) plain) =
        let waits = holds f.locals g.locals store memory f.stack g.stack stands.agree.locals stands.agree.stack
        stands.owns in
        let on = waits.on in let a = waits.comes in
        stays on.stack f.locals on.goes_on low (enter memory (record f { at = f.at + 1; stack = on.stack }) g refl
        (record {
          point = a.point;
          is_reached = a.is_reached;
          code = stands.code;
          place = stands.place ∙ a.place;
          agree = record {
            stack = stacks_wider a.stack on.agree;
            locals = locals_wider a.locals stands.agree.locals;
          };
          owns = a.owns;
        }))
    by_short_rule (within_frame (short.jumps_in_two first second ks ls offsets written written' holds there falls)
        plain) =
        let two : JumpsInTwo l ks ls offsets (place (let m = f.method in m.insns)) (written_place tb f.method)
        (f.at + 1) (g.at + 1) (g.at + 1 + 1) height first second g.locals memory g.stack named =
        at_place (λ code k. JumpsInTwo l ks ls offsets (place (let m = f.method in m.insns)) (written_place tb f.method)
        (f.at + 1) (k + 1) (k + 1 + 1) code.max_stack first second g.locals memory g.stack named)
        (holds f.locals g.locals store memory f.stack g.stack stores stands.agree.locals stands.agree.stack) in
        let behind = at_place (λ code k. slice_get code.insns (k + 1) ≡ Some second) written' in
        jump_does ks ls offsets (g.at + 1 + 1) 1 (omega arith) named (asked l g.code second (g.at + 1) two.stack
        g.locals
        memory) refl
        (λ to ws words grown e. onward l g.code 1 g.at (g.at + 1) first g.stack two.stack g.locals g.locals memory
        memory _ (is_there first written) two.goes_on (onward l g.code 0 (g.at + 1) to second two.stack ws g.locals
        words
        memory grown _ behind e refl)) there
        (λ after new stack e. at_place (λ code k. Arrives tb f.method (f.at + 1) (k + 1 + 1) ks ls)
        (falls f.locals after store new f.stack stack e)) two.leads
        (types_stay l height (g.at + 1 + 1) g.locals memory (operation second) two.stack)
    by_short_rule (within_frame (short.throws within ks is written known_stack may catches) plain) =
        throw_does within ks f.stack g.stack (ap (λ op. by_name.effect by f.method f.at f.locals store op f.stack) is)
        (is_there (insns.Op 0x93) written) refl may catches
        (subst (λ kinds. Stacks memory.heap kinds f.stack g.stack) known_stack stands.agree.stack)
    by_short_rule (within_frame (short.returns insn kinds written holds wider) plain) = absurd plain
    by_short_rule (within_frame (short.calls turn) plain) = absurd plain
    by_short_rule (gives insn kinds written holds fits) =
        leave_does insn kinds (is_there insn written) fits named (asks insn) refl refl
        (at_place (λ code k. Returns memory.heap kinds named (asked l code insn k g.stack g.locals memory))
        (holds f.locals g.locals store memory f.stack g.stack stands.agree.stack))
    by_short_rule (calls_out op id callee types params ks receiver insn has_types known_stack passes written is does
        no_int a has_room catches reaches) =
        call_does op id callee types params ks receiver insn has_types passes (is_there insn written)
        (is f.locals store f.stack)
        (at_place (λ code k. asked l code insn k g.stack g.locals memory ≡ narrow.Invoke callee)
        (does g.locals memory g.stack)) no_int
        (at_place (λ code k. Arrives tb f.method (f.at + 1) (k + 1) (result_kinds l types.result ++ ks) known) a)
        (at_place (λ code k. HasRoom (result_kinds l types.result ++ ks) (room f) code.max_stack) has_room) catches
        reaches
        (subst (λ kinds. Stacks memory.heap kinds f.stack g.stack) known_stack stands.agree.stack)
