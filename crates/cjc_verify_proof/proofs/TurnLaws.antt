-- Calls and turns are not stuck, and leave typed frames.
use Rattle.std.proofs.Common.{ap}
use Rattle.std.proofs.Common.{◌≡◌, ◌≤◌, ◌+◌, inl, ℕ, Bool, true, false, nat_le, List, [], ◌∷◌}
use Rattle.std.proofs.Common.{length, take, drop, reverse, slice_get, Option, Some, None, refl, sym, subst}
use Rattle.std.proofs.Common.{arith}
use Rattle.std.specs.Prelude.{if◌then◌else◌, Contains}
use Rattle.cjc_script.specs.declared.value.Value.{Value}
use Rattle.cjc_script.specs.declared.value.Value.TheVariants.{Num, Null, Obj}
use Rattle.cjc_script.specs.Sorts.{Shape}
use Rattle.cjc_card_semantics.specs.Bytecode.Calculations.{NullPointer}
use Rattle.cjc_card_semantics.specs.Bytecode.Effects.{HeapObject, shape, Memory, Effect, Go, Raise, Toss, Invoke, Leave}
use Rattle.cjc_card_semantics.specs.Bytecode.Effects.{Stick, effect}
use Rattle.cjc_card_semantics.specs.Bytecode.Machine.{Reached, Frame, State, Turn, Next}
use Rattle.cjc_card_semantics.specs.Bytecode.Machine.{Ended, StuckAt, Fetched, reaches, reaches_on, on_receiver}
use Rattle.cjc_card_semantics.specs.Bytecode.Machine.{with_args, counted, made, inside, turn_after_fetch, step}
use Rattle.cjc_card_semantics.specs.Bytecode.Machine.{spent_by, turn_after_toss, left}
use Rattle.cjc_card_semantics.specs.Machine.Loaded.{Loaded}
use Rattle.cjc_card_semantics.specs.Machine.Classes.{Class, Field}
use Rattle.cjc_card_semantics.specs.Machine.Statics.{Image, StaticCell}
use Rattle.cjc_card_semantics.specs.Machine.Operations.{Callee}
use Rattle.cjc_card_semantics.specs.Machine.Methods.{Code, fetch}
use Rattle.cjc_card_semantics.specs.Machine.Calls.{on_object, words, reached}
use Rattle.cjc_card_semantics.specs.Machine.ByToken.{classes, by_token}
use Rattle.cjc_frames.specs.declared.acts.Act.{Act}
use Rattle.cjc_frames.specs.declared.acts.Step.{Step}
use Rattle.cjc_frames.specs.declared.acts.Need.{Need}
use Rattle.cjc_frames.specs.Acts.{has_wrong}
use Rattle.cjc_card_acts.specs.CardTypes.{ValueType, shape_by, both_of, is_type_of}
use Rattle.cjc_verify_proof.specs.Words.{AreWords}
use Rattle.cjc_verify_proof.specs.Heaps.{thing_is, object_is, shape_in}
use Rattle.cjc_verify_proof.specs.Frames.{Typing, Program, AreMethods, Stands, Runs, Waits, AreOuter, GoesOn}
use Rattle.cjc_verify_proof.specs.Calls.{has_receiver, argument_cells}
use Rattle.cjc_verify_proof.specs.Scripts.{GoesOnPrepared, HasExceptions}
use Rattle.cjc_verify_proof.specs.Turns.{AreMade, IsHeld, IsReached, within, abroad, Reaches, Calls, Does, GoesOnBy}
use Rattle.cjc_verify_proof.proofs.WordLaws.{words_length, words_drop}
use Rattle.cjc_verify_proof.proofs.PlainLaws.{Parts, parts}
use Rattle.cjc_verify_proof.proofs.TypeLaws.{of_only}
use Rattle.cjc_verify_proof.proofs.FlowLaws.{sound}
use Rattle.cjc_verify_proof.proofs.FrameLaws.{goes, tossed, leaves_frames, inside_goes, outer_still}
use Rattle.cjc_verify_proof.proofs.CallLaws.{takes_arguments}
use Rattle.cjc_verify_proof.proofs.ScriptLaws.{prepared_itself}
use Rattle.cjc_verify_proof.proofs.ImportLaws.{goes_prepared, faults_go, outside_goes}
use Rattle.cjc_script.proofs.BytesNumbers.{at_most}

-- ---- what calls reach

module _ (l : Loaded) (program : Program) (all : AreMethods l program) (has : HasExceptions l program.exceptions)
    (s : State Code Class Field (List Image)) (t : Typing) (among : Contains program.methods t) (f : Frame Code)
    (outer : List (Frame Code)) (o : AreOuter l program s.memory.heap t.result outer) (result : ValueType)
    (w : Waits l s.memory.heap result t f) (params : List ValueType) where
  abbrev Prepared : Turn Code Class Field (List Image) → Type 0
  Prepared turn = GoesOnPrepared l program s.memory turn

  -- a turn in the same memory
  still : (turn : Turn Code Class Field (List Image)) → GoesOn l program s.memory turn → Prepared turn
  still turn g = goes_prepared l program s.memory s.memory (prepared_itself l s.memory.heap) refl turn g

  module _ (receiver : Option (List ℕ)) (kind : Option (Shape Class)) (args : List Value)
      (words_of : AreWords (object_is l s.memory.heap) (argument_cells receiver params) args)
      (of_kind : (holder : Option (List ℕ)) → IsHeld l kind holder
      → AreWords (object_is l s.memory.heap) (argument_cells holder params) args) where
    reached_goes : (r : Reached Code) → IsReached l program kind params result r
        → Prepared (reaches (by_token l) r (has_receiver receiver) args f outer s)
    reached_goes _ (within m u holder is begins held arguments same) = still (inside (by_token l) m args f outer s)
        (inside_goes l program all s u is m begins args (subst (λ cs. AreWords (object_is l s.memory.heap) cs args)
        (sym arguments) (of_kind holder held)) f outer (
          t,
          (
            among,
            (
              subst (λ r. Waits l s.memory.heap r t f) (sym same)
                  w,
              o,
            ),
          ),
        ))
    reached_goes _ (abroad id signature is sorts results) = outside_goes l program all has s.memory t among result f w
        outer o (has_receiver receiver) id signature is receiver refl params sorts results args words_of s refl

  -- ---- receivers

  module _ (callee : Callee) (st : Stands l s.memory.heap t f) (all_made : AreMade program s.memory.heap) where
    on_type : (type : List ℕ) → Reaches l program callee (Some type) params result → (args : List Value)
        → AreWords (object_is l s.memory.heap) (argument_cells (Some type) params) args
        → Prepared (on_receiver (by_token l) callee args f outer s)
    unfolding by_token
    on_type type r [] ws = absurd ws
    on_type type r (Num z ∷ args) ws = absurd ws.0
    on_type type r (Null ∷ args) ws = faults_go l program all has s.memory s (prepared_itself l s.memory.heap) refl t
        among f st outer o NullPointer
    on_type type r (Obj k ∷ args) ws = go (slice_get s.memory.heap k) refl (of_only l s.memory.heap type k ws.0)
      where
        go : (x : Option (HeapObject Class Field)) → slice_get s.memory.heap k ≡ x
            → thing_is l x (shape_by l type) ≡ true
            → Prepared (reaches_on (by_token l) callee x (Obj k ∷ args) f outer s)
        go None at e = never (shape_by l type) e
          where
            never : {A : Type 0} (y : Option (Shape Class)) → thing_is l None y ≡ true → A
            never None e = cc
            never (Some kind) e = cc
        go (Some thing) at e = reached_goes (Some type) (Some (shape thing)) (Obj k ∷ args) ws of_kind
            (reached l callee (Some (shape thing))) (r (shape thing) (all_made k (shape thing) (ap shape_in at))
            (both (shape_by l type) e))
          where
            both : (y : Option (Shape Class)) → thing_is l (Some thing) y ≡ true
                → both_of l (Some (shape thing)) y ≡ true
            both (Some kind) e = e
            both None e = cc

            told : (y : Option (Shape Class)) → both_of l (Some (shape thing)) y ≡ true
                → thing_is l (Some thing) y ≡ true
            told (Some kind) e = e
            told None e = cc

            of_kind : (holder : Option (List ℕ)) → IsHeld l (Some (shape thing)) holder
                → AreWords (object_is l s.memory.heap) (argument_cells holder params) (Obj k ∷ args)
            of_kind None h = absurd h
            of_kind (Some t) h = (
              record {
                type = t;
                among = inl refl;
                holds = subst (λ y. thing_is l y (shape_by l t) ≡ true) (sym at) (told (shape_by l t) h);
              },
              ws.1,
            )

    with_any : (receiver : Option (List ℕ)) → Reaches l program callee receiver params result
        → (args : List Value) → AreWords (object_is l s.memory.heap) (argument_cells receiver params) args
        → Prepared (with_args (by_token l) (has_receiver receiver) callee args f outer s)
    unfolding by_token
    with_any None r args ws = reached_goes None None args ws of_none (reached l callee None) r
      where
        of_none : (holder : Option (List ℕ)) → IsHeld l None holder
            → AreWords (object_is l s.memory.heap) (argument_cells holder params) args
        of_none None h = ws
        of_none (Some t) h = absurd h
    with_any (Some type) r args ws = on_type type r args ws

-- ---- calls

abbrev takes_of : Act → List Need
takes_of a = a.takes

module _ (l : Loaded) (program : Program) (all : AreMethods l program) (has : HasExceptions l program.exceptions)
    (s : State Code Class Field (List Image)) (t : Typing) (among : Contains program.methods t) (f : Frame Code)
    (runs : Runs l s.memory.heap t f) (outer : List (Frame Code))
    (o : AreOuter l program s.memory.heap t.result outer)
    (i : Fetched Class Field StaticCell Callee) (fetched : fetch l f.code f.at ≡ Some i)
    (all_made : AreMade program s.memory.heap) where
  abbrev st : Stands l s.memory.heap t f
  st = runs.stands

  abbrev a : Act
  a = let x = st.step in x.act

  -- a call goes on
  pub call_goes : (callee : Callee) → (let x = runs.stands in let y = x.step in Calls l program y.act callee)
      → GoesOnPrepared l program s.memory (counted (by_token l) (words l callee) callee (record f { next = i.next })
      outer s)
  unfolding by_token
  call_goes callee c = subst (λ n. GoesOnPrepared l program s.memory (counted (by_token l) n callee new outer s))
      (sym c.count) (go (nat_le (length (takes_of a)) (length f.stack)) (at_most (length (takes_of a))
      (length f.stack) enough))
    where
      at_of : Step → ℕ
      at_of x = x.at

      new : Frame Code
      new = record f { next = i.next }

      waiting : Frame Code
      waiting = record f { next = i.next; stack = drop (length (takes_of a)) f.stack }

      here : fetch l t.code (at_of st.step) ≡ Some i
      here = subst (λ c. fetch l c (at_of st.step) ≡ Some i) st.is_code (subst (λ n. fetch l f.code n ≡ Some i)
          (sym st.is_at) fetched)

      after : (n : Step) × ((slice_get t.body.steps (st.place + 1) ≡ Some n) × (n.at ≡ i.next))
      after = (all t among).follows st.place st.step st.is_step c.falls i here

      stands : Stands l s.memory.heap t waiting
      stands = record {
        is_code = st.is_code;
        place = st.place;
        step = st.step;
        is_step = st.is_step;
        is_at = st.is_at;
        cells = st.cells;
        locals = st.locals;
        reached = st.reached;
        typed = st.typed;
      }

      waits : Waits l s.memory.heap c.result t waiting
      waits = record {
        stands = stands;
        words = words_drop (object_is l s.memory.heap) (length (takes_of a)) st.cells f.stack runs.words;
        gives = c.gives;
        writes = c.writes;
        falls = c.falls;
        next = after.0;
        is_next = after.1.0;
        at_next = after.1.1;
      }

      said : Parts (is_type_of l) t.body.max_stack a st.locals st.cells
      said = parts (is_type_of l) t.body.max_stack a st.locals st.cells (sound l program.exceptions t
          (all t among) st.place st.step
          st.is_step st.cells st.locals st.reached).passes

      enough : length (takes_of a) ≤ length f.stack
      enough = let long = words_length (object_is l s.memory.heap) st.cells f.stack runs.words in let e = said.enough in
          omega (arith, long, e)

      args : AreWords (object_is l s.memory.heap) (argument_cells c.receiver c.params) (reverse (take (length
          (takes_of a)) f.stack))
      args = subst (λ ns. AreWords (object_is l s.memory.heap) (argument_cells c.receiver c.params) (reverse (take
          (length ns) f.stack))) (sym c.takes) (takes_arguments l s.memory.heap c.receiver c.params st.cells f.stack
          runs.words (subst (λ ns. has_wrong (is_type_of l) ns st.cells ≡ false) c.takes said.operands)
          (subst (λ ns. length ns ≤ length st.cells) c.takes said.enough))

      go : (b : Bool) → b ≡ true → GoesOnPrepared l program s.memory (if b then with_args (by_token l)
          (on_object callee) callee (reverse (take (length (takes_of a)) f.stack)) waiting outer s else StuckAt f.at s)
      go false e = cc
      go true e = subst (λ on. GoesOnPrepared l program s.memory (with_args (by_token l) on callee
          (reverse (take (length (takes_of a)) f.stack)) waiting outer s)) (sym c.on)
          (with_any l program all has s t among waiting outer o c.result waits c.params callee stands all_made
          c.receiver c.reaches
          (reverse (take (length (takes_of a)) f.stack)) args)

  -- a turn in the same memory
  unchanged : (turn : Turn Code Class Field (List Image)) → GoesOn l program s.memory turn
      → GoesOnPrepared l program s.memory turn
  unchanged turn g = goes_prepared l program s.memory s.memory (prepared_itself l s.memory.heap) refl turn g

  -- what follows from what an instruction does
  pub made_goes : (e : Effect Class Field Callee (List Image)) → (let x = runs.stands in let y = x.step in Does l
      program t.result y.act i.next x.locals x.cells s.memory e)
      → GoesOnBy l program s.memory e (made (by_token l) e i.next f outer s)
  unfolding by_token
  made_goes (Go at stack locals memory) d = (
    refl,
    (
      t,
      (
        among,
        (
          goes l program.exceptions t (all t among) s.memory.heap memory.heap f st i fetched at d.0 stack locals d.1.1.0
              d.1.1.1,
          outer_still l program s.memory.heap memory.heap d.1.0 t.result outer o,
        ),
      ),
    ),
  )
  made_goes (Raise fault) d = faults_go l program all has s.memory s (prepared_itself l s.memory.heap) refl t among f st
      outer o fault
  made_goes (Toss object) d = unchanged (turn_after_toss (by_token l) (slice_get s.memory.heap object) f outer object s)
      (tossed l program all s t among f outer st o object d)
  made_goes (Invoke callee) d = call_goes callee d
  made_goes (Leave words) d = unchanged (left (by_token l) words f outer s)
      (leaves_frames l program all s.memory t.result words d s refl f outer o)
  made_goes Stick d = absurd d

-- a turn that is spent
spent_goes : (l : Loaded) (program : Program) (m : Memory Class Field (List Image))
    (e : Effect Class Field Callee (List Image)) (n : ℕ) (turn : Turn Code Class Field (List Image))
    → GoesOnBy l program m e turn → GoesOnBy l program m e (spent_by (by_token l) n turn)
spent_goes l program m e n (Next s) g = g
spent_goes l program m e n (Ended outcome s) g = g
spent_goes l program m (Go at stack locals memory) n (StuckAt at_place s) g = absurd g
spent_goes l program m (Raise fault) n (StuckAt at s) g = absurd g
spent_goes l program m (Toss object) n (StuckAt at s) g = absurd g
spent_goes l program m (Invoke callee) n (StuckAt at s) g = absurd g
spent_goes l program m (Leave words) n (StuckAt at s) g = absurd g
spent_goes l program m Stick n (StuckAt at s) g = absurd g

-- one instruction of the innermost frame
pub step_goes : (l : Loaded) (program : Program) → AreMethods l program → HasExceptions l program.exceptions
    → (s : State Code Class Field (List Image)) (t : Typing) → Contains program.methods t → (f : Frame Code)
    (runs : Runs l s.memory.heap t f) (outer : List (Frame Code)) → AreOuter l program s.memory.heap t.result outer
    → (i : Fetched Class Field StaticCell Callee) → fetch l f.code f.at ≡ Some i → AreMade program s.memory.heap
    → (e : Effect Class Field Callee (List Image))
    → e ≡ effect (classes l) i.operation (let c = f.code in c.room) i.next f.locals s.memory f.stack
    → (let x = runs.stands in let y = x.step in Does l program t.result y.act i.next x.locals x.cells s.memory e)
    → GoesOnBy l program s.memory e (step (by_token l) (f ∷ outer) s)
unfolding by_token
step_goes l program all has s t among f runs outer o i fetched all_made e is d =
    subst (λ x. GoesOnBy l program s.memory e (spent_by (by_token l) s.spent (turn_after_fetch (by_token l) x f outer
    spent))) (sym fetched)
    (subst (λ x. GoesOnBy l program s.memory e (spent_by (by_token l) s.spent (made (by_token l) x i.next f outer
    spent))) is
    (spent_goes l program s.memory e s.spent (made (by_token l) e i.next f outer spent)
    (made_goes l program all has spent t among f runs outer o i fetched all_made e d)))
  where
    spent : State Code Class Field (List Image)
    spent = record s { spent = s.spent + 1 }
