-- What the rules of a method in int mode are to whole runs.
use Rattle.std.proofs.Common.{◌≡◌, ℕ, suc, ◌+◌, ◌-◌, ◌*◌, ◌<◌, ◌≤◌, refl, sym, ap, subst}
use Rattle.std.proofs.Common.{◌∙◌, arith, Bool, true, false, List, []}
use Rattle.std.proofs.Common.{◌∷◌, ◌++◌, length, reverse, pos, ◌+ℤ◌, ◌*ℤ◌}
use Rattle.std.specs.Prelude.{Option, Some, None, if◌then◌else◌}
use Rattle.std.specs.Int.{w16, cast_unsigned}
use Rattle.std.specs.List.{Contains}
use Rattle.std.proofs.lemmas.List.{length-append}
use Rattle.cjc_script.specs.Bytes.declared.fault.MemberId.{MemberId}
use Rattle.cjc_range.specs.Words.{low_word}
use Rattle.cjc_range.specs.Span.{Holds, full}
use Rattle.cjc_range.proofs.Order.{held_wider}
use Rattle.cjc_range.proofs.WordsLaws.Words.{wide_ends}
use Rattle.cjc_int_proof.specs.Bytecode.declared.insn.JInsn.{JInsn}
use Rattle.cjc_int_proof.specs.Bytecode.declared.insn.JOp.TheVariants as jop
use Rattle.cjc_script.specs.declared.value.Value.{Value}
use Rattle.cjc_script.specs.declared.value.Value.TheVariants.{Num, Obj}
use Rattle.cjc_script.specs.Sorts.{Shape, Sort, Boolean, Byte, Short, Int, Reference, NoValue, Signature, signature_of}
use Rattle.cjc_card_semantics.specs.Bytecode.Effects.{shape}
use Rattle.cjc_card_semantics.specs.Bytecode.Machine.{Start}
use Rattle.cjc_ncode.specs.declared.narrow.NInsn.{NInsn}
use Rattle.cjc_ncode.specs.declared.narrow.NInsn.TheVariants as insns
use Rattle.cjc_ncode.specs.declared.narrow.NMethod.{NMethod}
use Rattle.cjc_ncode.specs.ByLabel.{Callee, Named, by_label}
use Rattle.cjc_ncode.specs.ByLabel as labels
use Rattle.cjc_ncode.specs.IntCode.IntCode.{is_short, widened, widened_result, written}
use Rattle.cjc_ncode.specs.IntCode.IntCode as written
use Rattle.cjc_jvm_semantics.specs.Linked.{Method, Linked}
use Rattle.cjc_jvm_semantics.specs.Effects.{Store, NullPointer, place, effect}
use Rattle.cjc_jvm_semantics.specs.Effects as by_name
use Rattle.cjc_jvm_semantics.specs.Machine.{Frame, values_of, room}
use Rattle.cjc_int_proof.specs.Walks.{Within, walk}
use Rattle.cjc_narrow_proof.specs.Selection.Acts.{Keeps}
use Rattle.cjc_narrow_proof.specs.Selection.Calls.{NFrame}
use Rattle.cjc_narrow_proof.specs.Selection.Relation.{Kind, Range, Refers, Heap, NMemory, Stores, AllWider, none_wider}
use Rattle.cjc_narrow_proof.specs.Selection.Relation.{one_wider, more_numbers, more_types, number_free, reference_free}
use Rattle.cjc_narrow_proof.specs.Selection.Relation.{free_free, away}
use Rattle.cjc_narrow_proof.specs.Selection.Objects.{class_of}
use Rattle.cjc_narrow_proof.specs.Selection.Replies.{result_kinds}
use Rattle.cjc_narrow_proof.specs.Selection.Rows.{kind_of}
use Rattle.cjc_int_runs.specs.Calls.{onto, CallInStep}
use Rattle.cjc_int_runs.specs.IntFrames.{IntBody, int_spot, StackWider, no_wider, wider_number}
use Rattle.cjc_int_runs.specs.IntFrames.{wider_reference, IntArrives, IntStands, IntCatches, ResultFits}
use Rattle.cjc_int_runs.specs.IntFrames.{no_value, a_number, a_reference, IntRule, does, jumps, nothing, throws}
use Rattle.cjc_int_runs.specs.IntFrames.{returns, calls}
use Rattle.cjc_int_runs.specs.Modes.{frame_at, Catches, Waits, Arguments, CallsAlike, Does, goes_on, stays, raises}
use Rattle.cjc_int_runs.specs.Modes.{CallReaches, below_params}
use Rattle.cjc_int_runs.specs.Modes as modes
use Rattle.cjc_int_runs.specs.Relation.{IntStacks, bottom, number, reference, LocalPairs, no_local, number_local}
use Rattle.cjc_int_runs.specs.Relation.{reference_local, unused_local, IntLocals, RefersTo, to_null, to_object}
use Rattle.cjc_int_runs.specs.Relation.{type_range, one_word, two_words, as_it_is}
use Rattle.cjc_int_runs.specs.Steps.{behind, spot, NSpot, NWalked, HasIntRoom, StandAt, InStep, JumpInStep, GoOn, Raise}
use Rattle.cjc_int_runs.specs.Steps.{LeavesInStep, IntResults, no_result, result}
use Rattle.cjc_int_runs.specs.Steps as steps
use Rattle.cjc_int_runs.specs.Throws.{ThrowsInStep, throws_object, throws_null}
use Rattle.cjc_int_runs.proofs.Aside.{onto_long}
use Rattle.cjc_int_runs.proofs.Guard.{behind_is, and_onward}
use Rattle.cjc_int_runs.proofs.HandOver.{onto_is, result_taken}
use Rattle.cjc_int_runs.proofs.Reaching.{calls_class, calls_object}
use Rattle.cjc_int_runs.proofs.Kept.{int_stacks_kept, int_locals_kept}
use Rattle.cjc_int_runs.proofs.Stepping.{heights}
use Rattle.cjc_int_runs.proofs.WalkTypes.{walk_keeps}

-- ---- less is known

refers_wider : {heap : Heap} {within wider : Shape (List ℕ) → Bool} {v : Value} → ((kind : Shape (List ℕ))
    → within kind ≡ true → wider kind ≡ true) → RefersTo heap within v → RefersTo heap wider v
refers_wider more to_null = to_null
refers_wider more (to_object thing is passes) = to_object thing is (more (shape thing) passes)

pub int_stacks_wider : {heap : Heap} {ks js : List Kind} {vs ws : List Value} → StackWider ks js → IntStacks heap ks
    vs ws
    → IntStacks heap js vs ws
int_stacks_wider no_wider bottom = bottom
int_stacks_wider (wider_number {s = s} {t = t} within more) (number {x = x} e h rest) =
    number e (held_wider s t x within h) (int_stacks_wider more rest)
int_stacks_wider (wider_reference tells more) (reference a rest) =
    reference (refers_wider tells a) (int_stacks_wider more rest)

pairs_wider : {heap : Heap} {ls js : List Kind} {locals words : List (Option Value)} → AllWider ls js
    → LocalPairs heap ls locals words → LocalPairs heap js locals words
pairs_wider none_wider no_local = no_local
pairs_wider (one_wider (more_numbers {s = s} {t = t} within) more) (number_local {x = x} e h rest) =
    number_local e (held_wider s t x within h) (pairs_wider more rest)
pairs_wider (one_wider (more_types tells) more) (reference_local a rest) =
    reference_local (refers_wider tells a) (pairs_wider more rest)
pairs_wider (one_wider number_free more) (number_local e h rest) = unused_local (pairs_wider more rest)
pairs_wider (one_wider reference_free more) (reference_local a rest) = unused_local (pairs_wider more rest)
pairs_wider (one_wider free_free more) (unused_local rest) = unused_local (pairs_wider more rest)
pairs_wider (one_wider (away k) more) held = elim held [ ]

pub int_locals_wider : {heap : Heap} {f : written.Frame} {pairs : ℕ} {ls js : List Kind} {locals words :
    List (Option Value)} → AllWider ls js → IntLocals heap f pairs ls locals words → IntLocals heap f pairs js locals
    words
int_locals_wider more h = record {
  arguments = h.arguments;
  own = h.own;
  scratch = h.scratch;
  are = h.are;
  argument_words = h.argument_words;
  own_words = h.own_words;
  scratch_words = h.scratch_words;
  agree = pairs_wider more h.agree;
}

-- ---- results

short_kind : (l : Named) (sort : Sort) → is_short sort ≡ true → kind_of l sort ≡ Range (type_range sort)
short_kind l Boolean e = refl
short_kind l Byte e = refl
short_kind l Short e = refl
short_kind l Int e = absurd cc
short_kind l (Reference shape) e = absurd cc
short_kind l NoValue e = absurd cc

-- a result is of the kind of its type
pub result_of_type : (l : Named) {heap : Heap} {sort : Option Sort} {kinds : List Kind} {value : Option Value}
    {words : List Value} → ResultFits l sort kinds → IntResults heap sort kinds value words
    → IntResults heap sort (result_kinds l sort) value words
result_of_type l no_value no_result = no_result
result_of_type l {heap = heap} a_number (result (one_word {sort = sort} {x = x} short small inside)) =
    subst (λ k. IntResults heap (Some sort) (k ∷ []) (Some (Num x)) (Num (low_word x) ∷ []))
    (sym (short_kind l sort short))
    (result (one_word short small small))
result_of_type l {heap = heap} a_number (result (two_words {high = high} {low = low} e inside)) =
    let ends = wide_ends ((high *ℤ pos 65536) +ℤ pos (cast_unsigned w16 low)) in
    result (two_words e (subst (Holds full) (sym e) (record { above = ends.0; below = ends.1 })))
result_of_type l (a_reference tells) (result (as_it_is refers)) = result (as_it_is (refers_wider tells refers))

-- a result has at most two words for each cell
result_long : {heap : Heap} {sort : Option Sort} {kinds : List Kind} {value : Option Value} {words : List Value}
    → IntResults heap sort kinds value words → length words ≤ 2 * length kinds
result_long no_result = omega arith
result_long (result (one_word short small inside)) = omega arith
result_long (result (two_words e inside)) = omega arith
result_long (result (as_it_is refers)) = omega arith

widened_few : (sort : Option Sort) → length (widened_result sort) ≤ 1
widened_few None = omega arith
widened_few (Some sort) = by_flag (is_short sort)
  where
    by_flag : (b : Bool) → length (if b then insns.Op 0x5C ∷ [] else []) ≤ 1
    by_flag true = omega arith
    by_flag false = omega arith

module _ (by : Linked) (l : Named) (Here : NMemory → Frame → NFrame → Type 0) (results : Method → Option Sort)
    (narrowed : Method → Start NMethod) (may_throw : Shape (List ℕ) → Bool) (b : IntBody) (f : Frame)
    (enter : (memory : NMemory) (f' : Frame) (g' : NFrame) → f'.method ≡ f.method → IntStands l b memory f' g'
    → Here memory f' g') where
  -- both frames are at a place of which no more is known, where by label some instructions may be ahead
  arrived : (g : NFrame) → g.code ≡ b.code → (memory : NMemory) (at from next : ℕ) (ks ls : List Kind) (vs start
      stack : List Value)
      (locals before words : List (Option Value)) (ahead : ℕ) → ahead ≤ 765
      → walk (by_label l) b.code ahead (spot from start before memory) ≡ Within (spot next stack words memory)
      → IntArrives b f.method at next ks ls → IntStacks memory.heap ks vs stack
      → IntLocals memory.heap b.frame b.pairs ls locals words
      → Here memory (record f { at = at; stack = vs; locals = locals }) (record g {
        at = from;
        stack = start;
        locals = before;
      })
  arrived g is_code memory at from next ks ls vs start stack locals before words ahead few leads a stacks held =
      enter memory (record f { at = at; stack = vs; locals = locals }) (record g {
        at = from;
        stack = start;
        locals = before;
      }) refl (record {
        point = a.point;
        is_reached = a.is_reached;
        code = is_code;
        ahead = ahead;
        few = few;
        stack = stack;
        locals = words;
        leads = leads ∙ ap (λ q. Within (spot q stack words memory)) a.place;
        stacks_agree = int_stacks_wider a.stack stacks;
        locals_agree = int_locals_wider a.locals held;
      })

  -- exceptions among what is written for the instruction
  caught : (g : NFrame) → g.code ≡ b.code → (memory : NMemory) (here next : ℕ) (ls : List Kind) → IntCatches by l b
      f.method f.at here next ls may_throw
      → (k : ℕ) → here ≤ k → k < next → (stack : List Value) (words : List (Option Value))
      → IntLocals memory.heap b.frame b.pairs ls f.locals words
      → Catches by l Here results narrowed may_throw memory.heap f (record g { at = k; stack = stack; locals = words })
  caught g is_code memory here next ls c k low high stack words held kind may = record {
    target_of = b.place_of;
    found = ap (λ (code : NMethod). labels.handler l code.catches k kind) is_code ∙ c.found kind may k low high;
    has_room = λ target is. (let h = c.handles kind may target is in (
      h.has_room,
      subst (λ (code : NMethod). 0
          < code.max_stack) (sym is_code) h.narrow_has_room,
    ));
    goes = λ target is memory' keeps object thing there same. (let h = c.handles kind may target is in
        arrived g is_code memory' (place (let m = f.method in m.insns) target) (b.place_of target) (b.place_of target)
        (Refers h.within ∷ []) ls (Obj object ∷ []) (Obj object ∷ []) (Obj object ∷ []) f.locals words words 0 (omega
        arith) refl h.arrives (reference (to_object thing there (ap h.within same ∙ h.passes)) bottom)
        (int_locals_kept keeps held));
  }

  -- ---- an instruction

  module _ (g : NFrame) (is_code : g.code ≡ b.code) (memory : NMemory) (store : Store)
      (stores : Stores l store memory) (stands : IntStands l b memory f g) (i : JInsn) (few : length (written b.frame
      b.resolution b.place_of (let p = stands.point in p.before)
      (int_spot b f.method f.at) i.op) ≤ 767) where
    abbrev known : List Kind
    known = let p = stands.point in p.locals

    abbrev start : ℕ
    start = int_spot b f.method f.at

    abbrev list : List NInsn
    list = written b.frame b.resolution b.place_of (let p = stands.point in p.before) start i.op

    abbrev next : ℕ
    next = behind start list

    abbrev from : NSpot
    from = spot g.at g.stack g.locals memory

    abbrev Doing : Type 0
    Doing = Does by l Here results narrowed may_throw 1532 memory store f g i

    -- what is ahead, and then what is written for the instruction
    whole : (n : ℕ) (w : NWalked) → walk (by_label l) b.code n (spot start stands.stack stands.locals memory) ≡ w
        → walk (by_label l) g.code (stands.ahead + n) from ≡ w
    whole n w leads = ap (λ (code : NMethod). walk (by_label l) code (stands.ahead + n) from) is_code
        ∙ and_onward l b.code stands.ahead n from (spot start stands.stack stands.locals memory) w stands.leads leads

    -- both go on
    went_on : (at to : ℕ) (ks js : List Kind) → 0 < length list → IntArrives b f.method at to ks js
        → GoOn l b.frame b.pairs ks js start next stands.locals memory at to
        (by_name.effect by f.method f.at f.locals store i.op f.stack)
        (λ n. walk (by_label l) b.code n (spot start stands.stack stands.locals memory)) (length list) → Doing
    went_on at to ks js count a r =
        let some = r.some count in let some' = r.few in let ahead = stands.few in
        let n = stands.ahead + r.steps - 1 in
        let size : suc n ≡ stands.ahead + r.steps = omega (arith, some) in
        let to' = spot to r.nstack r.nlocals r.nmemory in
        let leads : walk (by_label l) g.code (suc n) from ≡ Within to' =
        ap (λ k. walk (by_label l) g.code k from) size ∙ whole r.steps (Within to') r.by_label in
        goes_on at r.stack r.locals r.store n to' r.by_name leads (omega (arith, size, some', ahead, few))
        r.stores_agree (walk_keeps l g.code (suc n) from to' leads)
        (arrived g is_code r.nmemory at to to ks js r.stack r.nstack r.nstack r.locals r.nlocals r.nlocals 0 (omega
        arith) refl a
        r.stacks_agree r.locals_agree)

    -- both raise
    went_wrong : (ks js : List Kind) → IntCatches by l b f.method f.at start next known may_throw
        → Raise l b.frame b.pairs ks js start next stands.locals memory
        (by_name.effect by f.method f.at f.locals store i.op f.stack)
        (λ n. walk (by_label l) b.code n (spot start stands.stack stands.locals memory)) (length list) → Doing
    went_wrong ks js c r =
        let some = r.few in let ahead = stands.few in
        raises r.fault (stands.ahead + r.steps) r.behind (spot r.at r.nstack stands.locals memory) r.by_name
        (whole r.steps _ r.by_label) (omega (arith, some, ahead, few)) refl
        (caught g is_code memory start next known c r.at r.from r.before r.nstack stands.locals stands.locals_agree)

    both_step : (ks js : List Kind) → 0 < length list → IntArrives b f.method (f.at + 1) next ks js
        → IntCatches by l b f.method f.at start next known may_throw
        → InStep l b.frame b.pairs ks js start next stands.locals memory (f.at + 1)
        (by_name.effect by f.method f.at f.locals store i.op f.stack)
        (λ n. walk (by_label l) b.code n (spot start stands.stack stands.locals memory)) (length list) → Doing
    both_step ks js count a c (steps.goes r) = went_on (f.at + 1) next ks js count a r
    both_step ks js count a c (steps.raises r) = went_wrong ks js c r

    both_jump : (ks : List Kind) (offsets : List ℕ) → 0 < length list
        → ((offset : ℕ) → Contains offsets offset → IntArrives b f.method (place (let m = f.method in m.insns) offset)
        (b.place_of offset) ks known)
        → ((locals after : List (Option Value)) (store new : Store) (vs stack : List Value)
        → by_name.effect by f.method f.at locals store i.op vs ≡ by_name.Go (f.at + 1) stack after new
        → IntArrives b f.method (f.at + 1) next ks known)
        → JumpInStep l b.frame b.pairs ks known start next stands.locals memory offsets
        (place (let m = f.method in m.insns)) b.place_of (f.at + 1)
        (by_name.effect by f.method f.at f.locals store i.op f.stack)
        (λ n. walk (by_label l) b.code n (spot start stands.stack stands.locals memory)) (length list) → Doing
    both_jump ks offsets count there falls (steps.jumps offset among r) =
        went_on (place (let m = f.method in m.insns) offset) (b.place_of offset) ks known count (there offset among) r
    both_jump ks offsets count there falls (steps.falls r) =
        went_on (f.at + 1) next ks known count (falls f.locals r.locals store r.store f.stack r.stack r.by_name) r

    both_throw : (within : Shape (List ℕ) → Bool) → 0 < length list
        → ((kind : Shape (List ℕ)) → within kind ≡ true → may_throw kind ≡ true)
        → IntCatches by l b f.method f.at start next known may_throw
        → ThrowsInStep within start stands.locals memory
        (by_name.effect by f.method f.at f.locals store i.op f.stack)
        (λ n. walk (by_label l) b.code n (spot start stands.stack stands.locals memory)) → Doing
    both_throw within count may c (throws_object object thing nstack there passes is leads) =
        let ahead = stands.few in let long = behind_is start list in
        modes.throws object thing (stands.ahead + 1) (start + 1) (spot start nstack stands.locals memory) is
        (whole 1 _ leads) (omega (arith, ahead)) refl there (may (shape thing) passes)
        (caught g is_code memory start next known c start (omega arith) (omega (arith, long, count)) nstack
        stands.locals
        stands.locals_agree)
    both_throw within count may c (throws_null nstack is leads) =
        let ahead = stands.few in let long = behind_is start list in
        raises NullPointer (stands.ahead + 1) (start + 1) (spot start nstack stands.locals memory) is
        (whole 1 _ leads) (omega (arith, ahead)) refl
        (caught g is_code memory start next known c start (omega arith) (omega (arith, long, count)) nstack
        stands.locals
        stands.locals_agree)

    both_return : (kinds : List Kind) → ResultFits l (results f.method) kinds
        → LeavesInStep memory.heap (results f.method) kinds stands.locals memory
        (by_name.effect by f.method f.at f.locals store i.op f.stack)
        (λ n. walk (by_label l) b.code n (spot start stands.stack stands.locals memory)) (length list) → Doing
    both_return kinds fits r =
        let some = r.few in let ahead = stands.few in
        modes.returns r.value r.result_words (stands.ahead + r.steps) r.behind (spot r.at r.nstack stands.locals memory)
        r.by_name (whole r.steps _ r.by_label) (omega (arith, some, ahead, few)) refl (result_of_type l fits r.results)

    -- frames that wait behind a call, which is among what is written for the instruction
    waits_behind : (result : Option Sort) (ks : List Kind)
        → IntArrives b f.method (f.at + 1) next (result_kinds l result ++ ks) known
        → HasIntRoom (length (result_kinds l result ++ ks)) (room f) (let code = b.code in code.max_stack)
        → IntCatches by l b f.method f.at start next known may_throw → (at : ℕ) → start ≤ at → at < next
        → (nlocals : List (Option Value)) → IntLocals memory.heap b.frame b.pairs known f.locals nlocals
        → StandAt b.code (at + 1) (widened_result result) → behind (at + 1) (widened_result result) ≡ next
        → (under below : List Value) → IntStacks memory.heap ks under below
        → Waits by l Here results narrowed may_throw memory.heap result (record f { stack = under }) (record g {
          at = at;
          next = at + 1;
          stack = below;
          locals = nlocals;
        })
    waits_behind sort ks a has_room c at low high nlocals held further ends under below agree =
        let caller = record g { at = at; next = at + 1; stack = below; locals = nlocals } in
        record {
          returns = λ memory' keeps value words given. behind_call memory' keeps value words given;
          catches = λ kind may. (let h = caught caller is_code memory start next known c at low high below nlocals held
              kind may in record {
                target_of = h.target_of;
                found = h.found;
                has_room = h.has_room;
                goes = h.goes;
              });
        }
      where
        behind_call : (memory' : NMemory) → Keeps memory.heap memory'.heap → (value : Option Value) (words : List Value)
            → IntResults memory'.heap sort (result_kinds l sort) value words
            → modes.Returns by l Here results narrowed may_throw memory' (record f { stack = under }) (record g {
              at = at;
              next = at + 1;
              stack = below;
              locals = nlocals;
            }) value words
        behind_call memory' keeps value words given =
            let rest = int_stacks_kept keeps agree in
            let high = has_room.by_name in let high' = has_room.words in
            let q = result_taken l b.code (at + 1) ks under below nlocals memory' (room f) given has_room further
            rest in
            let tall = (heights q.agree).by_name in let low = (heights rest).words in
            let long = result_long given in let both = length-append (result_kinds l sort) ks in
            let size = onto_long words below in let same = onto_is words below in
            let same_size : length (reverse words ++ below) ≡ length words + length below = ap length (sym same) ∙ size
            in
            record {
              by_name = omega (arith, tall, high);
              narrow = subst (λ (code : NMethod). length (reverse words ++ below) ≤ code.max_stack) (sym is_code)
                  (omega (arith, same_size, long, low, both, high, high'));
              here = arrived (record g { next = at + 1 }) is_code memory' (f.at + 1) (at + 1) next
                  (result_kinds l sort ++ ks) known (values_of value ++ under) (reverse words ++ below) q.stack f.locals
                  nlocals nlocals (length (widened_result sort)) (let w = widened_few sort in omega (arith, w))
                  (ap (λ st. walk (by_label l) b.code (length (widened_result sort)) (spot (at + 1) st nlocals memory'))
                  (sym same) ∙ q.leads ∙ ap (λ p. Within (spot p q.stack nlocals memory')) ends) a q.agree
                  (int_locals_kept keeps held);
            }

    both_call : (op : ℕ) (id : MemberId) (callee : Callee) (types : Signature) (params ks : List Kind)
        (receiver : Option (Shape (List ℕ) → Bool)) → signature_of id.desc ≡ Some types
        → IntArrives b f.method (f.at + 1) next (result_kinds l types.result ++ ks) known
        → HasIntRoom (length (result_kinds l types.result ++ ks)) (room f) (let code = b.code in code.max_stack)
        → IntCatches by l b f.method f.at start next known may_throw
        → CallReaches by l Here results narrowed may_throw (class_of f.method) op id callee types params receiver
        → CallInStep l b.frame b.pairs known b.code start next op id callee types.params params
        (below_params receiver ks) f.stack stands.stack f.locals stands.locals memory types.result
        (by_name.effect by f.method f.at f.locals store i.op f.stack) (length list) → Doing
    both_call op id callee types params ks receiver has_types a has_room c reaches r =
        let some = r.few in let ahead = stands.few in
        modes.calls op id callee (stands.ahead + r.steps) (r.at + 1) (spot r.at (onto r.handed r.below) r.nlocals
        memory)
        r.is_call (whole r.steps _ r.by_label) (omega (arith, some, ahead, few)) refl
        (by_receiver receiver reaches r.under r.below r.by_name refl r.rest)
      where
        by_receiver : (receiver : Option (Shape (List ℕ) → Bool))
            → CallReaches by l Here results narrowed may_throw (class_of f.method) op id callee types params receiver
            → (under below : List Value) → f.stack ≡ onto r.args under → onto r.handed r.below ≡ onto r.handed below
            → IntStacks memory.heap (below_params receiver ks) under below
            → CallsAlike by l Here results narrowed may_throw memory op id callee f (record g {
              at = r.at;
              next = r.at + 1;
              stack = onto r.handed r.below;
              locals = r.nlocals;
            })
        by_receiver None reaches under below is is' rest =
            let caller = record g {
              at = r.at;
              next = r.at + 1;
              stack = onto r.handed r.below;
              locals = r.nlocals;
            } in
            calls_class by l Here results narrowed may_throw memory f caller op id callee types has_types (record {
              kinds = params;
              args = r.args;
              under = under;
              words = r.handed;
              below = below;
              by_name = is;
              narrow = is';
              handed = r.agree;
            }) reaches (waits_behind types.result ks a has_room c r.at r.from r.before r.nlocals r.locals_agree r.then
            r.ends under below rest)
        by_receiver (Some within) reaches _ _ is is' (reference {v = v} {vs = under} {ws = below} refers rest) =
            let caller = record g {
              at = r.at;
              next = r.at + 1;
              stack = onto r.handed r.below;
              locals = r.nlocals;
            } in
            calls_object by l Here results narrowed may_throw memory f caller op id callee types has_types (record {
              kinds = params;
              args = r.args;
              under = v ∷ under;
              words = r.handed;
              below = v ∷ below;
              by_name = is;
              narrow = is';
              handed = r.agree;
            }) store stores within reaches v under below refl refl refers
            (caught caller is_code memory start next known c r.at r.from r.before (onto r.handed r.below) r.nlocals
            r.locals_agree)
            (waits_behind types.result ks a has_room c r.at r.from r.before r.nlocals r.locals_agree r.then r.ends under
            below rest)

    -- nothing is written
    stays_there : i.op ≡ jop.Nop → f.at < 65534
        → IntArrives b f.method (f.at + 1) start (let p = stands.point in p.stack) known → Doing
    unfolding effect
    stays_there is low a =
        stays f.stack f.locals (ap (λ op. by_name.effect by f.method f.at f.locals store op f.stack) is) low
        (arrived g is_code memory (f.at + 1) g.at start (let p = stands.point in p.stack) known f.stack g.stack
        stands.stack
        f.locals g.locals stands.locals stands.ahead stands.few stands.leads a stands.stacks_agree stands.locals_agree)

    -- by its rule
    pub by_rule : IntRule by l Here results narrowed may_throw b f.method f.at stands.point i → Doing
    by_rule (does ks js row count a c) =
        both_step ks js count a c (row f.stack stands.stack f.locals stands.locals store memory stores
        stands.locals_agree stands.stacks_agree)
    by_rule (jumps ks offsets row count there falls) =
        both_jump ks offsets count there falls (row f.stack stands.stack f.locals stands.locals store memory stores
        stands.locals_agree stands.stacks_agree)
    by_rule (nothing is low a) = stays_there is low a
    by_rule (throws within is row count may c) =
        both_throw within count may c (row f.stack stands.stack f.locals stands.locals store memory stands.stacks_agree)
    by_rule (returns kinds row fits) =
        both_return kinds fits (row f.stack stands.stack f.locals stands.locals store memory stands.stacks_agree)
    by_rule (calls op id callee types params ks receiver has_types row a has_room c reaches) =
        both_call op id callee types params ks receiver has_types a has_room c reaches (row f.stack stands.stack
        f.locals
        stands.locals store memory stands.locals_agree stands.stacks_agree)
