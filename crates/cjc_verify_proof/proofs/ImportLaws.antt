-- Imported calls and exceptions of the machine's own are not stuck, and leave typed frames.
use Rattle.std.proofs.Common.{◌≡◌, ◌&&◌, ℕ, Bool, true, false, List, [], ◌∷◌, ◌++◌, Option, Some, None, refl, sym, ap}
use Rattle.std.proofs.Common.{subst, ◌∙◌}
use Rattle.std.specs.Prelude.{if◌then◌else◌, option_and_then, codes, reverse, Contains}
use Rattle.std.specs.Str.{bytes_eq}
use Rattle.cjc_script.specs.Bytes.Spots.{desc_of, bad_at, parts_of, after, types_from}
use Rattle.cjc_script.specs.Bytes.declared.fault.MemberId.{MemberId}
use Rattle.cjc_script.specs.declared.value.Value.{Value}
use Rattle.cjc_script.specs.declared.script.Reply.{Reply}
use Rattle.cjc_script.specs.declared.script.Reply.TheVariants.{Give, Throw}
use Rattle.cjc_script.specs.declared.script.Act.{Act}
use Rattle.cjc_script.specs.declared.script.Answer.{Answer}
use Rattle.cjc_script.specs.declared.report.Note.TheVariants.{Event}
use Rattle.cjc_script.specs.declared.report.Outcome.TheVariants.{Unfit}
use Rattle.cjc_script.specs.Sorts.{Sort, Signature, signature_of, OfClass, result_fits}
use Rattle.cjc_card_semantics.specs.Bytecode.Calculations.{Fault}
use Rattle.cjc_card_semantics.specs.Bytecode.Effects.{Object, Memory}
use Rattle.cjc_card_semantics.specs.Bytecode.Arguments.{event_values, result_words}
use Rattle.cjc_card_semantics.specs.Bytecode.Machine.{Frame, State, Turn, Next, Ended, StuckAt, object_fits, is_at_once}
use Rattle.cjc_card_semantics.specs.Bytecode.Machine.{returned, turn_after_raise, turn_after_fault, turn_after_reply}
use Rattle.cjc_card_semantics.specs.Bytecode.Machine.{turn_after_answer, turn_after_event, typed, outside}
use Rattle.cjc_card_semantics.specs.Machine.Loaded.{Loaded}
use Rattle.cjc_card_semantics.specs.Machine.Classes.{Class, Field, external_named, fault_name, is_kind_of}
use Rattle.cjc_card_semantics.specs.Machine.Statics.{Image}
use Rattle.cjc_card_semantics.specs.Machine.Methods.{Code}
use Rattle.cjc_card_semantics.specs.Machine.Calls.{imported, if_below, throwable}
use Rattle.cjc_card_semantics.specs.Machine.ByToken.{by_token}
use Rattle.cjc_card_acts.specs.CardTypes.{ValueType, shape_by, both_of}
use Rattle.cjc_card_acts.specs.CardTypes as types
use Rattle.cjc_verify_proof.specs.Words.{AreWords}
use Rattle.cjc_verify_proof.specs.Heaps.{object_is}
use Rattle.cjc_verify_proof.specs.Control.{cells_of}
use Rattle.cjc_verify_proof.specs.Frames.{Typing, Program, AreMethods, Stands, Waits, AreOuter, AreFrames, GoesOn}
use Rattle.cjc_verify_proof.specs.Calls.{has_receiver, argument_cells, AreSorts, IsResult}
use Rattle.cjc_verify_proof.specs.Scripts.{IsImported, IsPrepared, GoesOnPrepared, HasExceptions}
use Rattle.cjc_verify_proof.proofs.FrameLaws.{resumed, raised, with_exception, waits_still, outer_still}
use Rattle.cjc_verify_proof.proofs.CallLaws.{AreValues, event_has_on, result_has}
use Rattle.cjc_verify_proof.proofs.ScriptLaws.{prepared_itself, prepared_through, push_prepared, named_imported}
use Rattle.cjc_verify_proof.proofs.ScriptLaws.{imported_is, IsImportedIf, acts_go}
use Rattle.cjc_script.proofs.BytesBools.{and_true}
use Rattle.cjc_script.proofs.BytesLists.{bytes_true}
use Rattle.cjc_script.proofs.BytesPlain.{the_same}

-- ---- java/lang/Object.<init>()V

nothing_given : signature_of (codes "()V") ≡ Some (record { params = []; result = None })
unfolding desc_of bad_at parts_of after types_from
nothing_given = refl

-- ---- turns on prepared heaps

module _ (l : Loaded) (program : Program) where
  -- a turn whose memory is one of acts
  pub goes_prepared : (m now : Memory Class Field (List Image)) → IsPrepared l m.heap now.heap
      → now.statics ≡ m.statics → (turn : Turn Code Class Field (List Image)) → GoesOn l program now turn
      → GoesOnPrepared l program m turn
  goes_prepared m now p same (Next s) g = (
    subst (λ (x : Memory Class Field (List Image)). IsPrepared l m.heap x.heap) (sym g.0) p,
    (
      ap statics_of g.0 ∙ same,
      subst (λ (x : Memory Class Field (List Image)). AreFrames l program x.heap s.frames) (sym g.0) g.1,
    ),
  )
    where
      statics_of : Memory Class Field (List Image) → List Image
      statics_of x = x.statics
  goes_prepared m now p same (Ended outcome s) g = g
  goes_prepared m now p same (StuckAt at s) g = absurd g

-- ---- exceptions

module _ (l : Loaded) (program : Program) (all : AreMethods l program) (has : HasExceptions l program.exceptions) where
  -- a subclass of Throwable is an exception
  is_exception : (c : Class) → is_kind_of l c has.thrown ≡ true → both_of l (Some (OfClass c))
      (shape_by l program.exceptions)
      ≡ true
  is_exception c e = subst (λ s. both_of l (Some (OfClass c)) s ≡ true) (sym has.means) e

  module _ (m : Memory Class Field (List Image)) (s : State Code Class Field (List Image))
      (p : IsPrepared l m.heap s.memory.heap) (same : s.memory.statics ≡ m.statics) (t : Typing)
      (among : Contains program.methods t) (f : Frame Code) (st : Stands l s.memory.heap t f)
      (outer : List (Frame Code)) (o : AreOuter l program s.memory.heap t.result outer) where
    -- an object of an imported class that is an exception
    raises : (c : Class) → IsImported l c → is_kind_of l c has.thrown ≡ true
        → (otherwise : Turn Code Class Field (List Image))
        → GoesOnPrepared l program m (turn_after_raise (by_token l) (Some c) f outer s otherwise)
    raises c im e otherwise = goes_prepared l program m (with_exception l program all s t among f outer c)
        (prepared_through l m.heap s.memory.heap (s.memory.heap ++ Object c [] ∷ []) p
        (push_prepared l s.memory.heap (Object c []) tt tt (refl, im))) same
        (turn_after_raise (by_token l) (Some c) f outer s otherwise)
        (raised l program all s t among f outer st o c (is_exception c e) otherwise)

    -- an exception of the machine's own
    pub faults_go : (fault : Fault) → GoesOnPrepared l program m (turn_after_fault (by_token l) fault f outer s)
    unfolding by_token
    faults_go fault =
        let x = has.faults fault in
        subst (λ (y : Option Class). GoesOnPrepared l program m (turn_after_raise (by_token l) y f outer s
        (StuckAt f.at s))) (sym x.1.0)
        (raises x.0 (named_imported l (fault_name fault) x.0 x.1.0 x.1.1.1) x.1.1.0 (StuckAt f.at s))

    -- an exception of a script
    throws_go : (name : List ℕ) (number : ℕ) → GoesOnPrepared l program m (turn_after_raise (by_token l)
        (throwable l name) f outer s (Ended (Unfit number) s))
    throws_go name number = go (imported l name) (imported_is l name)
      where
        below : (c : Class) → IsImported l c → (b : Bool) → is_kind_of l c has.thrown ≡ b
            → GoesOnPrepared l program m (turn_after_raise (by_token l) (if b then Some c else None) f outer s
            (Ended (Unfit number) s))
        below c im true e = raises c im e (Ended (Unfit number) s)
        below c im false e = tt

        known : (c : Class) → IsImported l c → (y : Option Class) → y ≡ Some has.thrown
            → GoesOnPrepared l program m (turn_after_raise (by_token l) (option_and_then (if_below l c) y) f outer s
            (Ended (Unfit number) s))
        known c im y e = subst (λ z. GoesOnPrepared l program m (turn_after_raise (by_token l)
            (option_and_then (if_below l c) z) f outer s (Ended (Unfit number) s))) (sym e)
            (below c im (is_kind_of l c has.thrown) refl)

        go : (x : Option Class) → IsImportedIf l x → GoesOnPrepared l program m (turn_after_raise (by_token l)
            (option_and_then (λ c. option_and_then (if_below l c) (external_named l (codes "java/lang/Throwable"))) x) f
            outer s (Ended (Unfit number) s))
        go None i = tt
        go (Some c) i = known c i (external_named l (codes "java/lang/Throwable")) has.named

  -- ---- imported calls

  module _ (m : Memory Class Field (List Image)) (t : Typing) (among : Contains program.methods t)
      (result : ValueType) (f : Frame Code) (w : Waits l m.heap result t f) (outer : List (Frame Code))
      (o : AreOuter l program m.heap t.result outer) where
    -- what a script answers
    reply_goes : (sort : Option Sort) → IsResult l sort result → (r : Reply) (number : ℕ)
        (s : State Code Class Field (List Image)) → IsPrepared l m.heap s.memory.heap → s.memory.statics ≡ m.statics
        → GoesOnPrepared l program m (turn_after_reply (by_token l) r number sort f outer s)
    unfolding by_token
    reply_goes sort is (Give v) number s p same = go (result_fits (object_fits (by_token l) s.memory.heap) sort v) refl
      where
        go : (b : Bool) → result_fits (object_fits (by_token l) s.memory.heap) sort v ≡ b
            → GoesOnPrepared l program m (if b then returned (by_token l) f.at (result_words sort v) f outer s
            else Ended (Unfit number) s)
        go false e = tt
        go true e = goes_prepared l program m s.memory p same
            (returned (by_token l) f.at (result_words sort v) f outer s)
            (resumed l program all s.memory result (result_words sort v) (result_has l s.memory.heap sort result is v e)
            s refl f.at t among f (waits_still l program m.heap s.memory.heap p.extends result t f w) outer
            (outer_still l program m.heap s.memory.heap p.extends t.result outer o))
    reply_goes sort is (Throw name) number s p same = throws_go m s p same t among f (stood (waits_still l program
        m.heap s.memory.heap p.extends result t f w)) outer (outer_still l program m.heap s.memory.heap p.extends
        t.result outer o) name number
      where
        stood : Waits l s.memory.heap result t f → Stands l s.memory.heap t f
        stood x = x.stands

    -- the next answer
    answer_goes : (sort : Option Sort) → IsResult l sort result → (answers : List Answer)
        (s : State Code Class Field (List Image)) → s.memory ≡ m
        → GoesOnPrepared l program m (turn_after_answer (by_token l) answers sort f outer s)
    answer_goes sort is [] s e = tt
    answer_goes sort is (a ∷ answers) s e = acts_go l program m (λ x. turn_after_reply (by_token l) (reply_of a)
        (number_of a) sort f outer x) (λ x p same. reply_goes sort is (reply_of a) (number_of a) x p same) (acts_of a)
        (number_of a) (record s { answers = answers })
        (subst (λ (x : Memory Class Field (List Image)). IsPrepared l m.heap x.heap) (sym e) (prepared_itself l m.heap))
        (ap statics_of e)
      where
        statics_of : Memory Class Field (List Image) → List Image
        statics_of x = x.statics

        reply_of : Answer → Reply
        reply_of x = x.reply

        number_of : Answer → ℕ
        number_of x = x.number

        acts_of : Answer → List Act
        acts_of x = x.acts

    -- its event
    event_goes : (sort : Option Sort) → IsResult l sort result → (id : MemberId) (o : Option (List Value))
        → AreValues o → (s : State Code Class Field (List Image)) → s.memory ≡ m
        → GoesOnPrepared l program m (turn_after_event (by_token l) id sort o f outer s)
    event_goes sort is id o v s e = subst (λ x. GoesOnPrepared l program m (turn_after_event (by_token l) id sort x f
        outer s)) (sym v.is) (answer_goes sort is s.answers (record s { notes = s.notes ++ Event id v.values ∷ [] }) e)

    -- no result
    none_returned : (sort : Option Sort) → IsResult l sort result → sort ≡ None → (s : State Code Class Field
        (List Image)) → s.memory ≡ m → GoesOnPrepared l program m (returned (by_token l) f.at [] f outer s)
    none_returned sort is none s e = goes_prepared l program m m (prepared_itself l m.heap) refl
        (returned (by_token l) f.at [] f outer s)
        (resumed l program all m result [] (no_cells result (subst
        (λ x. IsResult l x result) none is)) s e f.at t among f
        w outer o)
      where
        no_cells : (r : ValueType) → IsResult l None r → AreWords (object_is l m.heap) (cells_of r) (reverse [])
        no_cells types.Void i = tt
        no_cells types.Boolean i = absurd i
        no_cells types.Byte i = absurd i
        no_cells types.Short i = absurd i
        no_cells types.Int i = absurd i
        no_cells (types.Reference type) i = absurd i

    -- an imported call
    pub outside_goes : (on_object : Bool) (id : MemberId) (sig : Signature) → signature_of id.desc ≡ Some sig
        → (receiver : Option (List ℕ)) → on_object ≡ has_receiver receiver → (params : List ValueType)
        → AreSorts l sig.params params → IsResult l sig.result result → (args : List Value)
        → AreWords (object_is l m.heap) (argument_cells receiver params) args → (s : State Code Class Field
        (List Image)) → s.memory ≡ m
        → GoesOnPrepared l program m (outside (by_token l) on_object id args f outer s)
    outside_goes on id sig is receiver on_is params sorts results args words s e = go (is_at_once id) refl
      where
        go : (b : Bool) → is_at_once id ≡ b → GoesOnPrepared l program m (if b then returned (by_token l) f.at [] f
            outer s else typed (by_token l) on id (signature_of id.desc) args f outer s)
        go false h = subst (λ x. GoesOnPrepared l program m (typed (by_token l) on id x args f outer s)) (sym is)
            (event_goes sig.result results id (event_values on sig.params args)
            (event_has_on l m.heap receiver on on_is sig.params params sorts args words) s e)
        go true h =
            let parts = and_true (bytes_eq id.class (codes "java/lang/Object")) (bytes_eq id.name (codes "<init>")
            && bytes_eq id.desc (codes "()V")) h in
            let more = and_true (bytes_eq id.name (codes "<init>")) (bytes_eq id.desc (codes "()V")) parts.1 in
            none_returned sig.result results (no_result sig (sym (ap signature_of (bytes_true id.desc (codes "()V")
            more.1)) ∙ is)) s e
          where
            no_result : (x : Signature) → signature_of (codes "()V") ≡ Some x → x.result ≡ None
            no_result x f = ap result_of (the_same x (record { params = []; result = None }) (sym f ∙ nothing_given))
              where
                result_of : Signature → Option Sort
                result_of y = y.result
