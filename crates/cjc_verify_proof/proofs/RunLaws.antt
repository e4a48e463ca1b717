-- Runs of a program are never stuck.
use Rattle.cjc_types.specs.declared.state.Stack.TheVariants.{Cells}
use Rattle.std.proofs.Common.{inr}
use Rattle.std.proofs.Common.{◌≡◌, inl, ℕ, zero, suc, Bool, true, false, List, [], ◌∷◌, slice_get}
use Rattle.std.proofs.Common.{Option, Some, None, refl, sym, ap, subst, ◌∙◌}
use Rattle.std.specs.Prelude.{if◌then◌else◌, flat_map}
use Rattle.cjc_script.specs.Bytes.declared.fault.MemberId.{MemberId}
use Rattle.cjc_script.specs.declared.value.Value.{Value}
use Rattle.cjc_script.specs.declared.value.Value.TheVariants.{Num, Null, Obj}
use Rattle.cjc_script.specs.declared.script.Act.{Act as ScriptAct}
use Rattle.cjc_script.specs.declared.script.Entry.{Entry}
use Rattle.cjc_script.specs.declared.script.Script.{Script}
use Rattle.cjc_script.specs.declared.report.Report.{Report}
use Rattle.cjc_script.specs.declared.report.Outcome.TheVariants.{Stuck}
use Rattle.cjc_script.specs.Sorts.{Sort, Boolean, Byte, Short, Int, Reference, Signature, Shape}
use Rattle.cjc_script.specs.Sorts.{signature_of, fits, all_fit}
use Rattle.cjc_types.specs.declared.cell.Cell.{Cell}
use Rattle.cjc_card_semantics.specs.Bytecode.Effects.{HeapObject, shape, Memory, Effect, Go, Raise, Toss, Invoke, Leave}
use Rattle.cjc_card_semantics.specs.Bytecode.Effects.{Stick, effect}
use Rattle.cjc_card_semantics.specs.Bytecode.Arguments.{value_words, both_words, words_of, first_and}
use Rattle.cjc_card_semantics.specs.Bytecode.Machine.{Start, Frame, State, Turn, Next, Ended, StuckAt, Fetched}
use Rattle.cjc_card_semantics.specs.Bytecode.Machine.{frame_for_call, object_fits, step, sent_to, sent_on, entry_start}
use Rattle.cjc_card_semantics.specs.Bytecode.Machine.{words_if, fitting_words, words_behind, words_for, entry_words}
use Rattle.cjc_card_semantics.specs.Bytecode.Machine.{entered_by, begins, idle, and_then, turn, report_after_turn}
use Rattle.cjc_card_semantics.specs.Bytecode.Machine as machine
use Rattle.cjc_card_semantics.specs.Machine.Loaded.{Loaded}
use Rattle.cjc_card_semantics.specs.Machine.Classes.{Class, Field}
use Rattle.cjc_card_semantics.specs.Machine.Statics.{Image, StaticCell}
use Rattle.cjc_card_semantics.specs.Machine.Operations.{Callee}
use Rattle.cjc_card_semantics.specs.Machine.Methods.{Code, fetch}
use Rattle.cjc_card_semantics.specs.Machine.Calls.{called}
use Rattle.cjc_card_semantics.specs.Machine.ByToken.{classes, by_token, start, run}
use Rattle.cjc_frames.specs.declared.acts.Act.{Act}
use Rattle.cjc_frames.specs.declared.acts.Step.{Step}
use Rattle.cjc_card_acts.specs.CardTypes.{ValueType, shape_by, both_of, is_type_of}
use Rattle.cjc_card_acts.specs.CardTypes as types
use Rattle.cjc_verify_proof.specs.Words.{AreWords}
use Rattle.cjc_verify_proof.specs.Heaps.{thing_is, object_is}
use Rattle.cjc_verify_proof.specs.Control.{cells_of}
use Rattle.cjc_verify_proof.specs.Frames.{Typing, Program, AreMethods, Stands, Runs, AreFrames, IsEnd}
use Rattle.cjc_verify_proof.specs.Frames.{IsMethod}
use Rattle.cjc_verify_proof.specs.Calls.{argument_cells, IsSort, AreSorts}
use Rattle.cjc_verify_proof.specs.Scripts.{IsPrepared, GoesOnPrepared}
use Rattle.cjc_verify_proof.specs.Turns.{IsMade, AreMade, IsHeld, Does, GoesOnBy}
use Rattle.cjc_verify_proof.specs.Instructions.{Suits, HoldsOn}
use Rattle.cjc_verify_proof.specs.Runs.{IsEntry, IsProgram}
use Rattle.cjc_verify_proof.proofs.WordLaws.{words_append}
use Rattle.cjc_verify_proof.proofs.PlainLaws.{parts}
use Rattle.cjc_verify_proof.proofs.FlowLaws.{sound}
use Rattle.cjc_verify_proof.proofs.FrameLaws.{entered}
use Rattle.cjc_verify_proof.proofs.CallLaws.{object_result}
use Rattle.cjc_verify_proof.proofs.ScriptLaws.{prepared_itself, acts_go}
use Rattle.cjc_verify_proof.proofs.TurnLaws.{step_goes}
use Rattle.cjc_verify_proof.proofs.InstructionLaws.{instruction_done}
use Rattle.cjc_verify_proof.proofs.ScriptLaws.{memory_prepared}
use Rattle.cjc_verify_proof.specs.Memories.{IsMemory}
use Rattle.cjc_verify_proof.specs.Acts.{Passes}
use Rattle.cjc_verify_proof.specs.Heaps.{shape_in}
use Rattle.cjc_verify_proof.specs.Scripts.{IsImported}
use Rattle.cjc_script.specs.Sorts.{OfClass}
use Rattle.cjc_card_semantics.specs.Bytecode.Effects.{Slot, Numbers, References, Object}
use Rattle.cjc_card_semantics.specs.Machine.Classes.{Own, External}
use Rattle.std.proofs.Common.{◌⊎◌}
use Rattle.cjc_script.proofs.BytesBools.{and_true}

-- ---- words of values that fit

same_words : {x y : List Value} → Some x ≡ Some y → x ≡ y
same_words e = cc

module _ (l : Loaded) (heap : List (HeapObject Class Field)) where
  abbrev Are : List Cell → List Value → Type 0
  Are cs vs = AreWords (object_is l heap) cs vs

  -- the words of one value
  value_has : (s : Sort) (t : ValueType) → IsSort l s t → (v : Value) → fits (object_fits (by_token l) heap) s v ≡ true
      → (ws : List Value) → value_words s v ≡ Some ws → Are (cells_of t) ws
  value_has Boolean types.Boolean is (Num z) f ws e = subst (Are (cells_of types.Boolean)) (same_words e) (tt, tt)
  value_has Boolean types.Boolean is Null f ws e = cc
  value_has Boolean types.Boolean is (Obj k) f ws e = cc
  value_has Byte types.Byte is (Num z) f ws e = subst (Are (cells_of types.Byte)) (same_words e) (tt, tt)
  value_has Byte types.Byte is Null f ws e = cc
  value_has Byte types.Byte is (Obj k) f ws e = cc
  value_has Short types.Short is (Num z) f ws e = subst (Are (cells_of types.Short)) (same_words e) (tt, tt)
  value_has Short types.Short is Null f ws e = cc
  value_has Short types.Short is (Obj k) f ws e = cc
  value_has Int types.Int is (Num z) f ws e = subst (Are (cells_of types.Int)) (same_words e) (tt, (tt, tt))
  value_has Int types.Int is Null f ws e = cc
  value_has Int types.Int is (Obj k) f ws e = cc
  value_has (Reference shape) (types.Reference type) is (Num z) f ws e = cc
  value_has (Reference shape) (types.Reference type) is Null f ws e = subst (Are (cells_of (types.Reference type)))
      (same_words e) (tt, tt)
  value_has (Reference shape) (types.Reference type) is (Obj k) f ws e = subst (Are (cells_of (types.Reference type)))
      (same_words e) (object_result l heap shape type is k f, tt)
  value_has s t is v f ws e = absurd is

  -- the words of several
  values_have : (sorts : List Sort) (params : List ValueType) → AreSorts l sorts params → (vs : List Value)
      → all_fit (object_fits (by_token l) heap) sorts vs ≡ true → (ws : List Value) → words_of sorts vs ≡ Some ws
      → Are (flat_map cells_of params) ws
  values_have [] [] s [] f ws e = subst (Are []) (same_words e) tt
  values_have [] [] s (v ∷ vs) f ws e = cc
  values_have [] (t ∷ params) s vs f ws e = absurd s
  values_have (k ∷ sorts) [] s vs f ws e = absurd s
  values_have (k ∷ sorts) (t ∷ params) s [] f ws e = cc
  values_have (k ∷ sorts) (t ∷ params) s (v ∷ vs) f ws e = go (values_have sorts params s.1 vs both.1) (value_words k v)
      refl (words_of sorts vs) refl e
    where
      both : (fits (object_fits (by_token l) heap) k v ≡ true) × (all_fit (object_fits (by_token l) heap) sorts vs
          ≡ true)
      both = and_true (fits (object_fits (by_token l) heap) k v) (all_fit (object_fits (by_token l) heap) sorts vs) f

      go : ((bs : List Value) → words_of sorts vs ≡ Some bs → Are (flat_map cells_of params) bs)
          → (a : Option (List Value)) → value_words k v ≡ a → (b : Option (List Value)) → words_of sorts vs ≡ b
          → both_words a b ≡ Some ws → Are (flat_map cells_of (t ∷ params)) ws
      go rest None h b i e = cc
      go rest (Some us) h None i e = cc
      go rest (Some us) h (Some bs) i e = subst (Are (flat_map cells_of (t ∷ params))) (same_words e)
          (words_append (object_is l heap) (cells_of t) (flat_map cells_of params) us bs (value_has k t s.0 v both.0 us
          h) (rest bs i))

  -- the words of values that fit
  fitting_have : (sorts : List Sort) (params : List ValueType) → AreSorts l sorts params → (vs ws : List Value)
      → fitting_words (by_token l) heap sorts vs ≡ Some ws → Are (flat_map cells_of params) ws
  fitting_have sorts params s vs ws e = go (all_fit (object_fits (by_token l) heap) sorts vs) refl e
    where
      go : (b : Bool) → all_fit (object_fits (by_token l) heap) sorts vs ≡ b → words_if (by_token l) b sorts vs ≡ Some
          ws → Are (flat_map cells_of params) ws
      go true f h = values_have sorts params s vs f ws h
      go false f h = cc

-- ---- entries

abbrev desc_of : MemberId → List ℕ
desc_of i = i.desc

abbrev params_of : Signature → List Sort
params_of s = s.params

abbrev method_of : Entry → MemberId
method_of e = e.method

abbrev acts_of : Entry → List ScriptAct
acts_of e = e.acts

abbrev number_of : Entry → ℕ
number_of e = e.number

abbrev at_of : Step → ℕ
at_of s = s.at

abbrev act_of : Step → Act
act_of s = s.act

abbrev room_of : Code → ℕ
room_of c = c.room

module _ (l : Loaded) (program : Program) (is : IsProgram l program) where
  methods : AreMethods l program
  methods = is.methods

  -- a method that an entry names, with the words of its arguments
  entry_runs : (receiver : Option (Shape Class)) (desc : List ℕ) (m : Start Code) → (e : IsEntry l program receiver desc
      m) → (heap : List (HeapObject Class Field)) (words : List Value)
      → AreWords (object_is l heap) (argument_cells e.holder e.params) words
      → AreFrames l program heap (frame_for_call m words ∷ [])
  entry_runs receiver desc m e heap words typed = (
    e.method,
    (
      e.among,
      (
        entered l program.exceptions heap e.method (methods e.method e.among) m e.begins words
            (subst (λ cs. AreWords (object_is l heap) cs words) (sym e.arguments) typed),
        tt,
      ),
    ),
  )

  -- acts leave arrays and objects that are made
  made_prepared : (heap after : List (HeapObject Class Field)) → IsPrepared l heap after → AreMade program heap
      → AreMade program after
  made_prepared heap after p all k kind e = go (slice_get after k) refl e
    where
      of_class : (c : Class) → IsImported l c → program.made c ≡ true
      of_class (Own part offset) i = absurd i
      of_class (External tree token) i = is.imported tree token i

      object : (c : Class) (slots : List (Slot Field)) → (slice_get heap k ≡ Some (Object c slots)) ⊎ ((slots ≡ [])
          × IsImported l c) → program.made c ≡ true
      object c slots (inl was) = all k (OfClass c) (ap shape_in was)
      object c slots (inr bare) = of_class c bare.1

      thing_made : (thing : HeapObject Class Field) → slice_get after k ≡ Some thing → IsMade program (shape thing)
      thing_made (Numbers element items) at = tt
      thing_made (References c items) at = tt
      thing_made (Object c slots) at = object c slots (p.objects k c slots at)

      go : (o : Option (HeapObject Class Field)) → slice_get after k ≡ o → shape_in o ≡ Some kind
          → IsMade program kind
      go None at f = cc
      go (Some thing) at f = (let same : shape thing ≡ kind = cc in subst (IsMade program) same (thing_made thing at))

  held_none : (holder : Option (List ℕ)) → IsHeld l None holder → (heap : List (HeapObject Class Field))
      (params : List ValueType) (ws : List Value) → AreWords (object_is l heap) (flat_map cells_of params) ws
      → AreWords (object_is l heap) (argument_cells holder params) ws
  held_none None h heap params ws w = w
  held_none (Some type) h heap params ws w = absurd h

  held_some : (thing : HeapObject Class Field) (holder : Option (List ℕ)) → IsHeld l (Some (shape thing)) holder
      → (heap : List (HeapObject Class Field)) (k : ℕ) → slice_get heap k ≡ Some thing → (params : List ValueType)
      (ws : List Value) → AreWords (object_is l heap) (flat_map cells_of params) ws
      → AreWords (object_is l heap) (argument_cells holder params) (Obj k ∷ ws)
  held_some thing None h heap k at params ws w = absurd h
  held_some thing (Some type) h heap k at params ws w = (
    record {
      type = type;
      among = inl refl;
      holds = subst (λ y. thing_is l y (shape_by l type) ≡ true) (sym at) (told (shape_by l type) h);
    },
    w,
  )
    where
      told : (y : Option (Shape Class)) → both_of l (Some (shape thing)) y ≡ true → thing_is l (Some thing) y ≡ true
      told (Some kind) e = e
      told None e = cc

  module _ (m : Memory Class Field (List Image)) (t : State Code Class Field (List Image))
      (p : IsPrepared l m.heap t.memory.heap) (same : t.memory.statics ≡ m.statics) (all_made : AreMade program m.heap)
      (e : Entry) (entries : List Entry) where
    enters : (start : Option (Start Code)) (words : Option (List Value)) → ((m : Start Code) → start ≡ Some m
        → (ws : List Value) → words ≡ Some ws
        → AreFrames l program t.memory.heap (frame_for_call m ws ∷ []))
        → GoesOnPrepared l program m (entered_by (by_token l) start words e entries t)
    enters None words f = tt
    enters (Some m) None f = tt
    enters (Some m) (Some ws) f = (p, (same, f m refl ws refl))

    types_of : (o : Option Signature) (sig : Signature) → o ≡ Some sig → (ws : List Value)
        → words_for (by_token l) t.memory.heap e o ≡ Some ws
        → (if e.virtual_call then words_behind (by_token l) t.memory.heap sig.params e.args
        else fitting_words (by_token l) t.memory.heap sig.params e.args) ≡ Some ws
    types_of o sig is ws h = subst (λ x. words_for (by_token l) t.memory.heap e x ≡ Some ws) is h

    static_enters : e.virtual_call ≡ false
        → GoesOnPrepared l program m (entered_by (by_token l) (entry_start (by_token l) t.memory.heap e)
        (entry_words (by_token l) t.memory.heap e) e entries t)
    unfolding by_token
    static_enters v = enters (entry_start (by_token l) t.memory.heap e) (entry_words (by_token l) t.memory.heap e)
        (λ m at ws h. let named = subst (λ b. (if b then sent_on (by_token l) t.memory.heap e.method e.args
        else called l e.method) ≡ Some m) v at in
        let x = is.calls e.method m named in
        let fitted = subst (λ b. (if b then words_behind (by_token l) t.memory.heap (params_of x.signature) e.args
        else fitting_words (by_token l) t.memory.heap (params_of x.signature) e.args) ≡ Some ws) v
        (types_of (signature_of (desc_of e.method)) x.signature x.types ws h) in
        entry_runs None (desc_of e.method) m x t.memory.heap ws (held_none x.holder x.held t.memory.heap x.params ws
        (fitting_have l t.memory.heap (params_of x.signature) x.params x.sorts e.args ws fitted)))

    -- the words behind a receiver
    behind_receiver : (k : ℕ) (sorts : List Sort) (args ws : List Value) → words_behind (by_token l) t.memory.heap sorts
        (Obj k ∷ args) ≡ Some ws → (rest : List Value) × ((fitting_words (by_token l) t.memory.heap sorts args
        ≡ Some rest) × (Obj k ∷ rest ≡ ws))
    behind_receiver k sorts args ws h = go (fitting_words (by_token l) t.memory.heap sorts args) refl h
      where
        go : (o : Option (List Value)) → fitting_words (by_token l) t.memory.heap sorts args ≡ o
            → first_and (Obj k) o ≡ Some ws → (rest : List Value) × ((fitting_words
            (by_token l) t.memory.heap sorts args
            ≡ Some rest) × (Obj k ∷ rest ≡ ws))
        go None is h = cc
        go (Some rest) is h = (rest, (is, same_words h))

    -- a method that is sent to the first of the arguments
    receiver_enters : (args : List Value) (x : Start Code) → sent_on (by_token l) t.memory.heap (method_of e) args
        ≡ Some x → (ws : List Value) → ((sig : Signature) → signature_of (desc_of (method_of e)) ≡ Some sig
        → words_behind (by_token l) t.memory.heap (params_of sig) args ≡ Some ws)
        → AreFrames l program t.memory.heap (frame_for_call x ws ∷ [])
    unfolding by_token
    receiver_enters [] x at ws h = cc
    receiver_enters (Num z ∷ args) x at ws h = cc
    receiver_enters (Null ∷ args) x at ws h = cc
    receiver_enters (Obj k ∷ args) x at ws h = go (slice_get t.memory.heap k) refl at
      where
        go : (o : Option (HeapObject Class Field)) → slice_get t.memory.heap k ≡ o
            → sent_to (by_token l) o (method_of e) ≡ Some x
            → AreFrames l program t.memory.heap (frame_for_call x ws ∷ [])
        go None there f = cc
        go (Some thing) there f =
            let y = is.sends (shape thing) (made_prepared m.heap t.memory.heap p all_made k (shape thing)
            (ap shape_in there))
            (method_of e) x f in
            let b = behind_receiver k (params_of y.signature) args ws (h y.signature y.types) in
            entry_runs (Some (shape thing)) (desc_of (method_of e)) x y t.memory.heap ws
            (subst (λ us. AreWords (object_is l t.memory.heap) (argument_cells y.holder y.params) us) b.1.1
            (held_some thing y.holder y.held t.memory.heap k there y.params b.0
            (fitting_have l t.memory.heap (params_of y.signature) y.params y.sorts args b.0 b.1.0)))

    virtual_enters : e.virtual_call ≡ true
        → GoesOnPrepared l program m (entered_by (by_token l) (entry_start (by_token l) t.memory.heap e)
        (entry_words (by_token l) t.memory.heap e) e entries t)
    unfolding by_token
    virtual_enters v = enters (entry_start (by_token l) t.memory.heap e) (entry_words (by_token l) t.memory.heap e)
        (λ x at ws h. receiver_enters e.args x (subst (λ b. (if b then sent_on
        (by_token l) t.memory.heap e.method e.args
        else called l e.method) ≡ Some x) v at) ws
        (λ sig types. subst (λ b. (if b then words_behind (by_token l) t.memory.heap (params_of sig) e.args
        else fitting_words (by_token l) t.memory.heap (params_of sig) e.args) ≡ Some ws) v
        (types_of (signature_of (desc_of e.method)) sig types ws h)))

    entry_goes : GoesOnPrepared l program m (entered_by (by_token l) (entry_start (by_token l) t.memory.heap e)
        (entry_words (by_token l) t.memory.heap e) e entries t)
    entry_goes = go e.virtual_call refl
      where
        go : (b : Bool) → e.virtual_call ≡ b
            → GoesOnPrepared l program m (entered_by (by_token l) (entry_start (by_token l) t.memory.heap e)
            (entry_words (by_token l) t.memory.heap e) e entries t)
        go true v = virtual_enters v
        go false v = static_enters v

  -- ---- states

  -- memory holds what it may, and frames are typed
  abbrev IsSound : State Code Class Field (List Image) → Type 0
  IsSound s = (IsMemory l program.fields s.memory × AreMade program s.memory.heap) × AreFrames l program s.memory.heap
      s.frames

  -- a turn that is not stuck leads to such a state
  abbrev IsSoundTurn : Turn Code Class Field (List Image) → Type 0
  IsSoundTurn (Next s) = IsSound s
  IsSoundTurn (Ended outcome s) = IsEnd outcome
  IsSoundTurn (StuckAt at s) = ⊥

  prepared_sound : (s : State Code Class Field (List Image)) → IsMemory l program.fields s.memory × AreMade program
      s.memory.heap
      → (turn : Turn Code Class Field (List Image)) → GoesOnPrepared l program s.memory turn → IsSoundTurn turn
  prepared_sound s fit (Next x) g = (
    (
      memory_prepared l program.fields is.supers is.declared s.memory x.memory fit.0 g.0 g.1.0,
      made_prepared s.memory.heap x.memory.heap g.0 fit.1,
    ),
    g.1.1,
  )
  prepared_sound s fit (Ended outcome x) g = g
  prepared_sound s fit (StuckAt at x) g = absurd g

  begins_sound : (frames : List (Frame Code)) (entries : List Entry) (s : State Code Class Field (List Image))
      → s.frames ≡ frames → IsSound s → IsSoundTurn (begins (by_token l) frames entries s)
  begins_sound (f ∷ outer) entries s same h = h
  begins_sound [] [] s same h = tt
  begins_sound [] (e ∷ entries) s same h = prepared_sound s h.0 (begins (by_token l) [] (e ∷ entries) s)
      (acts_go l program s.memory (λ t. entered_by (by_token l) (entry_start (by_token l) t.memory.heap e)
      (entry_words (by_token l) t.memory.heap e) e entries t) (λ t p kept. entry_goes s.memory t p kept h.0.1 e entries)
      (acts_of e) (number_of e) s (prepared_itself l s.memory.heap) refl)

  -- what follows from what an instruction does
  made_sound : (s : State Code Class Field (List Image)) → IsMemory l program.fields s.memory × AreMade program
      s.memory.heap
      → (e : Effect Class Field Callee (List Image)) (turn : Turn Code Class Field (List Image))
      → GoesOnBy l program s.memory e turn → HoldsOn l program s.memory e → IsSoundTurn turn
  made_sound s fit (Go at stack locals memory) (Next x) g h = (
    subst (λ (y : Memory Class Field (List Image)). IsMemory l program.fields y × AreMade program y.heap) (sym g.0)
        (h.0, h.1 fit.1),
    subst (λ (y : Memory Class Field (List Image)). AreFrames l program y.heap x.frames) (sym g.0) g.1,
  )
  made_sound s fit (Go at stack locals memory) (Ended outcome x) g h = g
  made_sound s fit (Go at stack locals memory) (StuckAt place x) g h = absurd g
  made_sound s fit (Raise fault) turn g h = prepared_sound s fit turn g
  made_sound s fit (Toss object) turn g h = prepared_sound s fit turn g
  made_sound s fit (Invoke callee) turn g h = prepared_sound s fit turn g
  made_sound s fit (Leave words) turn g h = prepared_sound s fit turn g
  made_sound s fit Stick turn g h = prepared_sound s fit turn g

  step_sound : (frames : List (Frame Code)) (s : State Code Class Field (List Image))
      → IsMemory l program.fields s.memory × AreMade program s.memory.heap → AreFrames l program s.memory.heap frames
      → IsSoundTurn (step (by_token l) frames s)
  step_sound [] s fit h = tt
  step_sound (f ∷ outer) s fit h = made_sound s fit e (step (by_token l) (f ∷ outer) s)
      (step_goes l program methods is.has s t h.1.0 f runs outer h.1.1.1 i.0 fetched fit.1 e refl does.0) does.1
    where
      t : Typing
      t = h.0

      method : IsMethod l program.exceptions t
      method = methods t h.1.0

      runs : Runs l s.memory.heap t f
      runs = h.1.1.0

      st : Stands l s.memory.heap t f
      st = runs.stands

      i : (x : Fetched Class Field StaticCell Callee) × ((fetch l t.code (at_of st.step) ≡ Some x) × Suits l program
          t.result (act_of st.step) x.operation)
      i = is.suited t h.1.0 st.place st.step st.is_step (record { stack = Cells st.cells; locals = st.locals })
          st.reached

      fetched : fetch l f.code f.at ≡ Some i.0
      fetched = subst (λ n. fetch l f.code n ≡ Some i.0) st.is_at (subst (λ c. fetch l c (at_of st.step) ≡ Some i.0)
          (sym st.is_code) i.1.0)

      room : (let c = f.code in c.room) ≡ t.body.max_stack
      room = ap room_of st.is_code ∙ method.room

      e : Effect Class Field Callee (List Image)
      e = let x = i.0 in effect (classes l) x.operation (let c = f.code in c.room) x.next f.locals s.memory f.stack

      passes : Passes (is_type_of l) (let c = f.code in c.room) (act_of st.step) st.locals st.cells
      passes = subst (λ n. Passes (is_type_of l) n (act_of st.step) st.locals st.cells) (sym room)
          (sound l program.exceptions t method st.place st.step st.is_step st.cells st.locals st.reached).passes

      does : Does l program t.result (act_of st.step) (let x = i.0 in x.next) st.locals st.cells s.memory e × HoldsOn l
          program s.memory e
      does = instruction_done l program t.result (let c = f.code in c.room) (let x = i.0 in x.next) st.locals f.locals
          s.memory st.typed is.supers is.declared fit.0 (act_of st.step)
          (let x = i.0 in x.operation) i.1.1 st.cells f.stack runs.words
          passes (parts (is_type_of l) (let c = f.code in c.room) (act_of st.step) st.locals st.cells passes)

  turn_sound : (s : State Code Class Field (List Image)) → IsSound s → IsSoundTurn (turn (by_token l) s)
  turn_sound s h = go (begins (by_token l) s.frames s.entries s) (begins_sound s.frames s.entries s refl h)
    where
      go : (x : Turn Code Class Field (List Image)) → IsSoundTurn x
          → IsSoundTurn (and_then (by_token l) x (λ t. step (by_token l) t.frames t))
      go (Next t) g = step_sound t.frames t g.0 g.1
      go (Ended outcome t) g = g
      go (StuckAt at t) g = absurd g

  -- ---- runs

  abbrev IsNotStuck : Report → Type 0
  IsNotStuck r = IsEnd r.outcome

  idle_ends : (frames : List (Frame Code)) (entries : List Entry) → IsEnd (idle (by_token l) frames entries)
  idle_ends [] [] = tt
  idle_ends [] (e ∷ entries) = tt
  idle_ends (f ∷ outer) entries = tt

  run_sound : (n : ℕ) (s : State Code Class Field (List Image)) → IsSound s → IsNotStuck (machine.run (by_token l) n s)
  run_sound zero s h = idle_ends s.frames s.entries
  run_sound (suc n) s h = go (turn (by_token l) s) (turn_sound s h) (run_sound n)
    where
      go : (x : Turn Code Class Field (List Image)) → IsSoundTurn x
          → ((t : State Code Class Field (List Image)) → IsSound t → IsNotStuck (machine.run (by_token l) n t))
          → IsNotStuck (report_after_turn (by_token l) x (machine.run (by_token l) n))
      go (Next t) g rest = rest t g
      go (Ended outcome t) g rest = g
      go (StuckAt at t) g rest = absurd g

  -- no run of the program is stuck
  pub never_stuck : (script : Script) (n at : ℕ) → (let r = run l script n in r.outcome ≡ Stuck at) → ⊥
  never_stuck script n at e = subst IsEnd e (run_sound n (start l script) ((is.memory, is.made), tt))
