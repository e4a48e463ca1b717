-- Frames stay typed where instructions go on, methods begin and return, and exceptions are thrown.
use Rattle.std.proofs.Common.{◌≡◌, ◌<◌, ◌+◌, ◌&&◌, inl, inr, ℕ, zero, suc, Bool, true, false, nat_lt, nat_le, List}
use Rattle.std.proofs.Common.{[], ◌∷◌, ◌++◌, length, map, drop, take, slice_get, Option, Some, None, refl, sym, ap}
use Rattle.std.proofs.Common.{subst}
use Rattle.std.proofs.Common.{◌⊎◌, ◌∙◌, arith, replicate, ◌==◌, leb-false, ltb-false, eqb-true}
use Rattle.std.proofs.lemmas.Bool.Decides.{nat_tests}
use Rattle.std.specs.Prelude.{Contains, if◌then◌else◌, reverse, option_and_then, option_to_list}
use Rattle.std.specs.List.{AllZip}
use Rattle.cjc_types.specs.Fixpoint.Tables.{HasRow}
use Rattle.cjc_card_semantics.specs.CapRead.declared.tree.Handler.{Handler}
use Rattle.cjc_card_semantics.specs.CapRead.declared.tree.PoolEntry.{PoolEntry}
use Rattle.cjc_script.specs.declared.value.Value.{Value}
use Rattle.cjc_script.specs.declared.value.Value.TheVariants.{Obj}
use Rattle.cjc_script.specs.Sorts.{Shape, OfClass}
use Rattle.cjc_types.specs.declared.cell.Cell.{Cell}
use Rattle.cjc_types.specs.declared.cell.Cell.TheVariants.{Refs, Unusable}
use Rattle.cjc_types.specs.declared.state.Stack.TheVariants.{Cells, Clash}
use Rattle.cjc_types.specs.declared.state.State.{State}
use Rattle.cjc_types.specs.States.{most_cells, stack_of, IsStackBelow}
use Rattle.cjc_card_semantics.specs.Bytecode.Effects.{HeapObject, Object, shape, Memory}
use Rattle.cjc_card_semantics.specs.Bytecode.Machine.{Start, Frame, State as Run, Turn, Next, StuckAt, locals_of}
use Rattle.cjc_card_semantics.specs.Bytecode.Machine.{Fetched}
use Rattle.cjc_card_semantics.specs.Bytecode.Machine.{frame_for_call, caught, caught_at, with_last, turn_after_raise}
use Rattle.cjc_card_semantics.specs.Bytecode.Machine.{turn_after_toss, returned, left, inside}
use Rattle.cjc_card_semantics.specs.Machine.Loaded.{Part, Loaded}
use Rattle.cjc_card_semantics.specs.Machine.Classes.{Class, Field}
use Rattle.cjc_card_semantics.specs.Machine.Statics.{Image, StaticCell}
use Rattle.cjc_card_semantics.specs.Machine.Operations.{Callee, class_at}
use Rattle.cjc_card_semantics.specs.Machine.Methods.{Code, is_caught, takes, handler_among, handler_in, handler}
use Rattle.cjc_card_semantics.specs.Machine.Methods.{fetch}
use Rattle.cjc_card_semantics.specs.Machine.Methods as methods
use Rattle.cjc_card_semantics.specs.Machine.ByToken.{by_token}
use Rattle.cjc_frames.specs.declared.acts.Act.{Act}
use Rattle.cjc_frames.specs.declared.acts.Step.{Step}
use Rattle.cjc_frames.specs.declared.acts.Catch.{Catch}
use Rattle.cjc_frames.specs.declared.acts.Need.{Need}
use Rattle.cjc_frames.specs.declared.acts.Write.{Write}
use Rattle.cjc_frames.specs.Acts.{given, stack_behind, with_writes, after}
use Rattle.cjc_frames.specs.Flow.{Body, place_at, covers, successors}
use Rattle.cjc_frames.specs.Flow as flow
use Rattle.cjc_card_acts.specs.CardTypes.{ValueType, shape_by, both_of, is_type_of}
use Rattle.cjc_card_acts.specs.CardTypes as types
use Rattle.cjc_verify_proof.specs.Words.{IsWord, AreWords, AreLocals}
use Rattle.cjc_verify_proof.specs.Heaps.{thing_is, object_is}
use Rattle.cjc_verify_proof.specs.Growth.{Extends}
use Rattle.cjc_verify_proof.specs.Control.{next_if, cells_of}
use Rattle.cjc_verify_proof.specs.Frames.{Typing, IsCaught, IsCatch, IsMethod, Program, AreMethods, Stands, Runs, Waits}
use Rattle.cjc_verify_proof.specs.Frames.{AreOuter}
use Rattle.cjc_verify_proof.specs.Frames.{GoesOn, Begins}
use Rattle.cjc_verify_proof.proofs.WordLaws.{word_up, words_up, locals_up, words_length}
use Rattle.cjc_verify_proof.proofs.WordLaws as words
use Rattle.cjc_verify_proof.proofs.GrowthLaws.{object_still, words_stay, locals_stay, pushed_extends}
use Rattle.cjc_verify_proof.proofs.TypeLaws.{of_itself, thing_through}
use Rattle.cjc_verify_proof.proofs.PlainLaws.{parts}
use Rattle.cjc_verify_proof.proofs.FlowLaws.{Arrives, sound, covered, follows_to, handled_at, next_among, target_among}
use Rattle.cjc_verify_proof.proofs.FlowLaws.{in_first, in_rest, in_either, first_or_rest, not_in_none}
use Rattle.cjc_script.proofs.BytesGets.{position_there, at_end, get_below}

-- ---- handlers

-- a handler that takes what is thrown, as frames are typed by it
pub record Taken (l : Loaded) (cs : List Catch) (at : ℕ) (kind : Shape Class) (target : ℕ) : Type 0 where
  pub catch : Catch
  pub among : Contains cs catch
  pub over : covers catch at ≡ true
  pub leads : catch.target ≡ target
  pub type : List ℕ
  pub named : catch.caught ≡ Some type
  pub is : both_of l (Some kind) (shape_by l type) ≡ true

module _ (l : Loaded) (p : ℕ) (pool : List PoolEntry) (exceptions : List ℕ) (at : ℕ) (kind : Shape Class)
    (thrown : both_of l (Some kind) (shape_by l exceptions) ≡ true) where
  -- the type of what a handler takes
  record TypeTaken (caught : Option (List ℕ)) : Type 0 where
    type : List ℕ
    named : caught ≡ Some type
    is : both_of l (Some kind) (shape_by l type) ≡ true

  type_taken : (index : ℕ) (caught : Option (List ℕ)) → IsCaught l p pool exceptions index caught
      → takes l p pool index kind ≡ true → TypeTaken caught
  type_taken zero caught i t = record { type = exceptions; named = i; is = thrown }
  type_taken (suc k) caught i t = go (class_at l p (slice_get pool (suc k))) refl t
    where
      go : (o : Option Class) → class_at l p (slice_get pool (suc k)) ≡ o → is_caught l kind o ≡ true
          → TypeTaken caught
      go None e h = cc
      go (Some class) e h =
          let n = i class e in
          record {
            type = n.0;
            named = n.1.0;
            is = subst (λ s. both_of l (Some kind) s ≡ true) (sym n.1.1) h;
          }

  covers_too : (h : Handler) (c : Catch) → IsCatch l p pool exceptions h c → methods.covers h at ≡ true
      → covers c at ≡ true
  covers_too h c i e =
      subst (λ x. (nat_le x at && nat_lt at (x + c.length)) ≡ true) (sym i.start)
      (subst (λ y. (nat_le h.start at && nat_lt at (h.start + y)) ≡ true) (sym i.length) e)

  handler_taken : (hs : List Handler) (cs : List Catch) → AllZip (IsCatch l p pool exceptions) hs cs → (target : ℕ)
      → handler_among l p pool hs at kind ≡ Some target → Taken l cs at kind target
  handler_taken [] [] z target e = cc
  handler_taken [] (c ∷ cs) z target e = absurd z
  handler_taken (h ∷ hs) [] z target e = absurd z
  handler_taken (h ∷ hs) (c ∷ cs) z target e = go (methods.covers h at) refl (takes l p pool h.catch_index kind) refl
      h.stop e (λ f. later (handler_taken hs cs z.1 target f))
    where
      later : Taken l cs at kind target → Taken l (c ∷ cs) at kind target
      later r = record {
        catch = r.catch;
        among = in_rest c cs r.catch r.among;
        over = r.over;
        leads = r.leads;
        type = r.type;
        named = r.named;
        is = r.is;
      }

      go : (over : Bool) → methods.covers h at ≡ over → (takes_it : Bool) → takes l p pool h.catch_index kind ≡ takes_it
          → (stop : Bool)
          → (if over then (if takes_it then Some h.handler else (if stop then None else handler_among l p pool hs at
          kind)) else handler_among l p pool hs at kind) ≡ Some target
          → (handler_among l p pool hs at kind ≡ Some target → Taken l (c ∷ cs) at kind target)
          → Taken l (c ∷ cs) at kind target
      go false o t u stop f more = more f
      go true o false u false f more = more f
      go true o false u true f more = cc
      go true o true u stop f more =
          let same : h.handler ≡ target = cc in
          let i = z.0 in
          let taken = type_taken h.catch_index c.caught i.caught u in
          record {
            catch = c;
            among = in_first c cs;
            over = covers_too h c i o;
            leads = i.target ∙ same;
            type = taken.type;
            named = taken.named;
            is = taken.is;
          }

-- one instruction stands at a place
same_step : (o : Option Step) (x y : Step) → o ≡ Some x → o ≡ Some y → x ≡ y
same_step o x y e f = cc

-- a place is that of the first instruction with an offset
at_place : (steps : List Step) (offset to : ℕ) → place_at steps offset ≡ Some to → (s : Step) → slice_get steps to
    ≡ Some s → s.at ≡ offset
at_place steps offset to e s is =
    let p = position_there (λ (s : Step). s.at == offset) steps to e in
    let same : p.0 ≡ s = same_step (slice_get steps to) p.0 s p.1 is in
    eqb-true s.at offset (subst (λ (x : Step). (x.at == offset) ≡ true) same p.2)

-- ---- where frames stand

module _ (l : Loaded) (exceptions : List ℕ) (t : Typing) (method : IsMethod l exceptions t)
    (heap : List (HeapObject Class Field)) where
  -- a frame that came to a place
  arrived : (to : ℕ) (x : State) → (r : Arrives l exceptions t method to x) → (f : Frame Code) → f.code ≡ t.code
      → r.step.at ≡ f.at → (cells : List Cell) → x.stack ≡ Cells cells → AreWords (object_is l heap) cells f.stack
      → AreLocals (object_is l heap) x.locals f.locals → Runs l heap t f
  arrived to x r f code at cells stack w k = record {
    stands = record {
      is_code = code;
      place = to;
      step = r.step;
      is_step = r.is_step;
      is_at = at;
      cells = r.cells;
      locals = r.locals;
      reached = r.reached;
      typed = locals_up (object_is l heap) x.locals r.locals f.locals r.locals_below k;
    };
    words = words_up (object_is l heap) cells r.cells f.stack
        (subst (λ s. IsStackBelow s (Cells r.cells)) stack r.below) w;
  }

  -- the stack behind an instruction is no higher than any least table has
  whole_stack : (xs ys : List Cell) → IsStackBelow (stack_of xs) (Cells ys) → stack_of xs ≡ Cells xs
  whole_stack xs ys = go (nat_le (length xs) most_cells) refl
    where
      go : (b : Bool) → nat_le (length xs) most_cells ≡ b → IsStackBelow (if b then Cells xs else Clash) (Cells ys)
          → (if b then Cells xs else Clash) ≡ Cells xs
      go true e h = refl
      go false e h = absurd h

-- a frame in a heap that grew
module _ (l : Loaded) (program : Program) (heap more : List (HeapObject Class Field)) (grows : Extends heap more)
  where
    pub stands_still : (t : Typing) (f : Frame Code) → Stands l heap t f → Stands l more t f
    stands_still t f s = record {
      is_code = s.is_code;
      place = s.place;
      step = s.step;
      is_step = s.is_step;
      is_at = s.is_at;
      cells = s.cells;
      locals = s.locals;
      reached = s.reached;
      typed = locals_stay (object_is l heap) (object_is l more) (object_still l heap more grows) s.locals f.locals
          s.typed;
    }

    pub waits_still : (r : ValueType) (t : Typing) (f : Frame Code) → Waits l heap r t f → Waits l more r t f
    unfolding stands_still
    waits_still r t f w = record {
      stands = stands_still t f w.stands;
      words = words_stay (object_is l heap) (object_is l more) (object_still l heap more grows)
          (drop (length (let s = w.stands.step in let a = s.act in a.takes)) w.stands.cells) f.stack w.words;
      gives = w.gives;
      writes = w.writes;
      falls = w.falls;
      next = w.next;
      is_next = w.is_next;
      at_next = w.at_next;
    }

    pub outer_still : (r : ValueType) (fs : List (Frame Code)) → AreOuter l program heap r fs
        → AreOuter l program more r fs
    outer_still r [] o = tt
    outer_still r (f ∷ fs) o =
        let t = o.0 in
        (t, (o.1.0, (waits_still r t f o.1.1.0, outer_still t.result fs o.1.1.1)))

-- ---- going on

module _ (l : Loaded) (exceptions : List ℕ) (t : Typing) (method : IsMethod l exceptions t)
    (heap : List (HeapObject Class Field)) where
  module _ (place : ℕ) (s : Step) (is : slice_get t.body.steps place ≡ Some s) (cells locals : List Cell)
      (row : HasRow t.rows place (record { stack = Cells cells; locals = locals })) where
    -- a frame behind an instruction, at one that may follow
    pub behind : (to : ℕ) → Contains (successors t.body.steps place s.act) to → (n : Step)
        → slice_get t.body.steps to ≡ Some n → (f : Frame Code) → f.code ≡ t.code → n.at ≡ f.at
        → AreWords (object_is l heap) (stack_behind s.act locals cells) f.stack
        → AreLocals (object_is l heap) (with_writes s.act locals (Cells cells) (let a = s.act in a.writes) locals)
        f.locals → Runs l heap t f
    behind to among n is_n f code at w k =
        let r = follows_to l exceptions t method place s is cells locals row to among in
        arrived l exceptions t method heap to (after s.act (record { stack = Cells cells; locals = locals })) r f code
        (ap (λ (x : Step). x.at) (same_step (slice_get t.body.steps to) r.step n r.is_step is_n) ∙ at)
        (stack_behind s.act locals cells)
        (whole_stack l exceptions t method heap (stack_behind s.act locals cells) r.cells r.below) w k

    -- at the next instruction
    pub behind_next : (let a = s.act in a.falls) ≡ true → (n : Step) → slice_get t.body.steps (place + 1) ≡ Some n
        → (f : Frame Code) → f.code ≡ t.code → n.at ≡ f.at
        → AreWords (object_is l heap) (stack_behind s.act locals cells) f.stack
        → AreLocals (object_is l heap) (with_writes s.act locals (Cells cells) (let a = s.act in a.writes) locals)
        f.locals → Runs l heap t f
    behind_next falls n is_n f code at w k = behind (place + 1) (next_among l exceptions t method place s is cells
        locals row falls n is_n) n is_n f code at w k

    -- at a target
    pub behind_target : (f : Frame Code) → Contains (let a = s.act in a.targets) f.at → f.code ≡ t.code
        → AreWords (object_is l heap) (stack_behind s.act locals cells) f.stack
        → AreLocals (object_is l heap) (with_writes s.act locals (Cells cells) (let a = s.act in a.writes) locals)
        f.locals → Runs l heap t f
    behind_target f among code w k =
        let to = method.jumps place s is f.at among in
        let n = position_there (λ (x : Step). x.at == f.at) t.body.steps to.0 to.1 in
        behind to.0 (target_among l exceptions t method place s is cells locals row f.at among to.0 to.1) n.0 n.1 f code
        (eqb-true (at_of n.0) f.at n.2) w k
      where
        at_of : Step → ℕ
        at_of x = x.at

  -- ---- handlers

  -- the frame at a handler of what is thrown
  pub at_handler : (f : Frame Code) → (s : Stands l heap t f) → (kind : Shape Class) (object : ℕ)
      → thing_is l (slice_get heap object) (Some kind) ≡ true → (target : ℕ)
      → Taken l t.body.catches f.at kind target
      → Runs l heap t (record f { at = target; stack = Obj object ∷ [] })
  at_handler f s kind object of_kind target h =
      let over : covers h.catch (at_of s.step) ≡ true = subst (λ x. covers h.catch x ≡ true) (sym s.is_at) h.over in
      let to = method.lands s.place s.step s.is_step h.catch h.among over in
      let r = handled_at l exceptions t method s.place s.step s.is_step s.cells s.locals s.reached h.catch h.among over
      to.0 to.1 in
      arrived l exceptions t method heap to.0 (flow.caught h.catch
      (record { stack = Cells s.cells; locals = s.locals }))
      r (record f { at = target; stack = Obj object ∷ [] }) s.is_code
      (at_place t.body.steps (target_of h.catch) to.0 to.1 r.step r.is_step ∙ h.leads)
      (Refs (option_to_list (type_of h.catch)) ∷ []) refl (
        subst (λ o. IsWord (object_is l heap) (Refs (option_to_list o)) (Obj object)) (sym h.named) (record {
          type = h.type;
          among = inl refl;
          holds = thing_through l (slice_get heap object) (Some kind) (shape_by l h.type) of_kind h.is;
        }),
        tt,
      ) s.typed
    where
      at_of : Step → ℕ
      at_of x = x.at

      target_of : Catch → ℕ
      target_of c = c.target

      type_of : Catch → Option (List ℕ)
      type_of c = c.caught

  -- a row with a word on the stack has room for one
  pub has_room : (f : Frame Code) → Runs l heap t f → 0 < length f.stack → nat_lt 0 (let c = f.code in c.room) ≡ true
  has_room f r more =
      let s = r.stands in
      let p = parts (is_type_of l) t.body.max_stack s.step.act s.locals s.cells (sound l exceptions t method s.place
      s.step s.is_step s.cells s.locals s.reached).passes in
      let high = p.before in
      let long = words_length (object_is l heap) s.cells f.stack r.words in
      let room : (let c = f.code in c.room) ≡ t.body.max_stack = ap room_of s.is_code ∙ method.room in
      positive (let c = f.code in c.room) (omega (arith, high, long, room, more))
    where
      room_of : Code → ℕ
      room_of c = c.room

      positive : (n : ℕ) → 0 < n → nat_lt 0 n ≡ true
      positive n lt = grind (arith, nat_tests)

-- ---- instructions that go on

module _ (l : Loaded) (exceptions : List ℕ) (t : Typing) (method : IsMethod l exceptions t)
    (before heap : List (HeapObject Class Field)) (f : Frame Code) (s : Stands l before t f)
    (i : Fetched Class Field StaticCell Callee) (fetched : fetch l f.code f.at ≡ Some i) (at : ℕ)
    (to : (let x = s.step in let a = x.act in Contains (next_if a.falls i.next ++ a.targets) at)) (stack : List Value)
    (locals : List (Option Value))
    (w : (let x = s.step in AreWords (object_is l heap) (stack_behind x.act s.locals s.cells) stack))
    (k : (let x = s.step in let a = x.act in AreLocals (object_is l heap) (with_writes x.act s.locals (Cells s.cells)
    a.writes s.locals) locals)) where
  -- a frame goes on where the instruction leads
  pub goes : Runs l heap t (record f { at = at; stack = stack; locals = locals })
  goes = elim (in_either (next_if (falls_of s.step) i.next) (targets_of s.step) at to) [
    | inl next ↦ following (falls_of s.step) refl next
    | inr target ↦ behind_target l exceptions t method heap s.place s.step s.is_step s.cells s.locals s.reached new
        target
        s.is_code w k
  ]
    where
      falls_of : Step → Bool
      falls_of x = let a = x.act in a.falls

      targets_of : Step → List ℕ
      targets_of x = let a = x.act in a.targets

      new : Frame Code
      new = record f { at = at; stack = stack; locals = locals }

      following : (b : Bool) → falls_of s.step ≡ b → Contains (next_if b i.next) at → Runs l heap t new
      following false e h = absurd (not_in_none at h)
      following true e h =
          let here : fetch l t.code (at_of s.step) ≡ Some i =
          subst (λ c. fetch l c (at_of s.step) ≡ Some i) s.is_code (subst (λ n. fetch l f.code n ≡ Some i)
          (sym s.is_at) fetched) in
          let n = method.follows s.place s.step s.is_step e i here in
          behind_next l exceptions t method heap s.place s.step s.is_step s.cells s.locals s.reached e n.0 n.1.0 new
          s.is_code (n.1.1 ∙ is_next (first_or_rest i.next [] at h)) w k
        where
          at_of : Step → ℕ
          at_of x = x.at

          is_next : (i.next ≡ at) ⊎ Contains [] at → i.next ≡ at
          is_next (inl e) = e
          is_next (inr never) = absurd (not_in_none at never)

-- ---- exceptions

module _ (l : Loaded) (program : Program) (all : AreMethods l program) (m : Memory Class Field (List Image))
    (kind : Shape Class) (object : ℕ)
    (of_kind : thing_is l (slice_get m.heap object) (Some kind) ≡ true)
    (thrown : both_of l (Some kind) (shape_by l program.exceptions) ≡ true)
    (from : ℕ) (s : Run Code Class Field (List Image)) (same : s.memory ≡ m) where
  abbrev Goes : Turn Code Class Field (List Image) → Type 0
  Goes turn = GoesOn l program m turn

  caught_here : (t : Typing) → Contains program.methods t → (f : Frame Code) → Stands l m.heap t f
      → (outer : List (Frame Code)) → AreOuter l program m.heap t.result outer
      → (past : Turn Code Class Field (List Image)) → Goes past → (o : Option ℕ)
      → handler l f.code f.at kind ≡ o
      → Goes (caught_at (by_token l) o from f outer object s past)
  unfolding by_token
  caught_here t among f st outer o past goes None is = goes
  caught_here t among f st outer o past goes (Some target) is =
      go (nat_lt 0 (let c = f.code in c.room)) (has_room l program.exceptions t (all t among) m.heap new runs
      (omega arith))
    where
      method : IsMethod l program.exceptions t
      method = all t among

      new : Frame Code
      new = record f { at = target; stack = Obj object ∷ [] }

      taken : (part : Option Part) → slice_get l.parts (let c = f.code in c.part) ≡ part
          → option_and_then (handler_in l f.code f.at kind) part ≡ Some target
          → Taken l t.body.catches f.at kind target
      taken None e h = cc
      taken (Some part) e h =
          let here : slice_get l.parts t.code.part ≡ Some part =
          ap (λ (c : Code). slice_get l.parts c.part) (sym st.is_code) ∙ e in
          handler_taken l t.code.part part.pool program.exceptions f.at kind thrown (let p = part.method in p.handlers)
          t.body.catches (method.catches part here) target
          (ap (λ (c : Code). handler_among l c.part part.pool (let p = part.method in p.handlers) f.at kind)
          (sym st.is_code) ∙ h)

      runs : Runs l m.heap t new
      runs = at_handler l program.exceptions t (all t among) m.heap f st kind object of_kind target
          (taken (slice_get l.parts (let c = f.code in c.part)) refl is)

      go : (b : Bool) → b ≡ true → Goes (if b then Next (record s { frames = new ∷ outer }) else StuckAt from s)
      go true e = (same, (t, (among, (runs, o))))
      go false e = cc

  -- an exception is caught by a frame, or ends its entry
  pub is_caught_or_ends : (t : Typing) → Contains program.methods t → (f : Frame Code) → Stands l m.heap t f
      → (outer : List (Frame Code)) → AreOuter l program m.heap t.result outer
      → Goes (caught (by_token l) from (f ∷ outer) object kind s)
  unfolding by_token
  is_caught_or_ends t among f st [] o = caught_here t among f st [] o (caught (by_token l) from [] object kind s)
      (same, tt) (handler l f.code f.at kind) refl
  is_caught_or_ends t among f st (g ∷ outer) o =
      let u = o.0 in
      caught_here t among f st (g ∷ outer) o (caught (by_token l) from (g ∷ outer) object kind s)
      (is_caught_or_ends u o.1.0 g (stood u o.1.1.0) outer o.1.1.1)
      (handler l f.code f.at kind) refl
    where
      stood : (u : Typing) → Waits l m.heap t.result u g → Stands l m.heap u g
      stood u w = w.stands

module _ (l : Loaded) (program : Program) (all : AreMethods l program) (s : Run Code Class Field (List Image))
    (t : Typing)
    (among : Contains program.methods t) (f : Frame Code) (outer : List (Frame Code)) where
  -- an array or object is thrown
  pub tossed : Stands l s.memory.heap t f → AreOuter l program s.memory.heap t.result outer → (object : ℕ)
      → object_is l s.memory.heap program.exceptions object ≡ true
      → GoesOn l program s.memory (turn_after_toss (by_token l) (slice_get s.memory.heap object) f outer object s)
  unfolding by_token
  tossed st o object is = go (slice_get s.memory.heap object) refl is
    where
      go : (x : Option (HeapObject Class Field)) → slice_get s.memory.heap object ≡ x
          → thing_is l x (shape_by l program.exceptions) ≡ true
          → GoesOn l program s.memory (turn_after_toss (by_token l) x f outer object s)
      go None at e = never (shape_by l program.exceptions) e
        where
          never : {A : Type 0} (k : Option (Shape Class)) → thing_is l None k ≡ true → A
          never None e = cc
          never (Some k) e = cc
      go (Some thing) at e = is_caught_or_ends l program all s.memory (shape thing) object
          (subst (λ y. thing_is l y (Some (shape thing)) ≡ true) (sym at) (of_itself l (shape thing)))
          (both (shape_by l program.exceptions) e) f.at s refl t among f st outer o
        where
          both : (k : Option (Shape Class)) → thing_is l (Some thing) k ≡ true → both_of l (Some (shape thing)) k ≡ true
          both (Some k) e = e
          both None e = cc

  -- the memory with a new object of a class without slots
  abbrev pub with_exception : Class → Memory Class Field (List Image)
  with_exception c = record (s.memory) { heap = s.memory.heap ++ Object c [] ∷ [] }

  -- an exception of a class that is one
  pub raised : Stands l s.memory.heap t f → AreOuter l program s.memory.heap t.result outer → (c : Class)
      → both_of l (Some (OfClass c)) (shape_by l program.exceptions) ≡ true → (otherwise : Turn Code Class Field
      (List Image))
      → GoesOn l program (with_exception c) (turn_after_raise (by_token l) (Some c) f outer s otherwise)
  raised st o c is otherwise = is_caught_or_ends l program all (with_exception c) (OfClass c) (length s.memory.heap)
      (subst (λ y. thing_is l y (Some (OfClass c)) ≡ true) (sym (at_end s.memory.heap (Object c [])))
      (of_itself l (OfClass c))) is f.at (with_last (by_token l) (Object c []) s) refl t among f
      (stands_still l program s.memory.heap (s.memory.heap ++ Object c [] ∷ []) grows t f st) outer
      (outer_still l program s.memory.heap (s.memory.heap ++ Object c [] ∷ []) grows t.result outer o)
    where
      grows : Extends s.memory.heap (s.memory.heap ++ Object c [] ∷ [])
      grows = pushed_extends s.memory.heap (Object c [])

-- ---- results

abbrev takes_of : Act → List Need
takes_of a = a.takes

abbrev writes_of : Act → List Write
writes_of a = a.writes

-- the cells of a result do not depend on the frame
pub result_cells : (lc cs : List Cell) (r : ValueType) → map (given lc cs) (types.words r) ≡ cells_of r
result_cells lc cs types.Void = refl
result_cells lc cs types.Boolean = refl
result_cells lc cs types.Byte = refl
result_cells lc cs types.Short = refl
result_cells lc cs types.Int = refl
result_cells lc cs (types.Reference type) = refl

module _ (l : Loaded) (program : Program) (all : AreMethods l program) (m : Memory Class Field (List Image))
    (result : ValueType)
    (ws : List Value) (typed : AreWords (object_is l m.heap) (cells_of result) (reverse ws))
    (s : Run Code Class Field (List Image)) (same : s.memory ≡ m) where
  -- a frame that waits goes on with the result
  pub resumed : (from : ℕ) (t : Typing) → Contains program.methods t → (g : Frame Code) → Waits l m.heap result t g
      → (outer : List (Frame Code)) → AreOuter l program m.heap t.result outer
      → GoesOn l program m (returned (by_token l) from ws g outer s)
  unfolding by_token
  resumed from t among g w outer o = go (nat_le (length (reverse ws ++ g.stack)) (let c = g.code in c.room)) refl
    where
      method : IsMethod l program.exceptions t
      method = all t among

      st : Stands l m.heap t g
      st = w.stands

      a : Act
      a = let x = st.step in x.act

      pushed : stack_behind a st.locals st.cells ≡ cells_of result ++ drop (length (takes_of a)) st.cells
      pushed = ap (λ gs. map (given st.locals st.cells) gs ++ drop (length (takes_of a)) st.cells) w.gives
          ∙ ap (λ cs. cs ++ drop (length (takes_of a)) st.cells) (result_cells st.locals st.cells result)

      stack : AreWords (object_is l m.heap) (stack_behind a st.locals st.cells) (reverse ws ++ g.stack)
      stack = subst (λ cs. AreWords (object_is l m.heap) cs (reverse ws ++ g.stack)) (sym pushed)
          (words.words_append (object_is l m.heap) (cells_of result) (drop (length (takes_of a)) st.cells) (reverse ws)
          g.stack typed w.words)

      locals : AreLocals (object_is l m.heap) (with_writes a st.locals (Cells st.cells) (writes_of a) st.locals)
          g.locals
      locals = subst (λ ws. AreLocals (object_is l m.heap) (with_writes a st.locals (Cells st.cells) ws st.locals)
          g.locals) (sym w.writes) st.typed

      new : Frame Code
      new = record g { at = g.next; stack = reverse ws ++ g.stack }

      runs : Runs l m.heap t new
      runs = behind_next l program.exceptions t method m.heap st.place st.step st.is_step st.cells st.locals st.reached
          w.falls
          w.next w.is_next new st.is_code w.at_next stack locals

      go : (b : Bool) → nat_le (length (reverse ws ++ g.stack)) (let c = g.code in c.room) ≡ b
          → GoesOn l program m (if b then Next (record s { frames = new ∷ outer }) else StuckAt from s)
      go true e = (same, (t, (among, (runs, o))))
      go false e =
          let p = parts (is_type_of l) t.body.max_stack a st.locals st.cells
          (sound l program.exceptions t method st.place
          st.step st.is_step st.cells st.locals st.reached).passes in
          let high = ltb-false t.body.max_stack (length (stack_behind a st.locals st.cells)) p.after in
          let long = words_length (object_is l m.heap) (stack_behind a st.locals st.cells) (reverse ws ++ g.stack) stack
          in
          let room : (let c = g.code in c.room) ≡ t.body.max_stack = ap room_of st.is_code ∙ method.room in
          let more = leb-false (length (reverse ws ++ g.stack)) (let c = g.code in c.room) e in
          absurd (omega (arith, high, long, room, more))
        where
          room_of : Code → ℕ
          room_of c = c.room

  -- a method leaves with its result
  pub leaves_frames : (f : Frame Code) (outer : List (Frame Code)) → AreOuter l program m.heap result outer
      → GoesOn l program m (left (by_token l) ws f outer s)
  leaves_frames f [] o = (same, tt)
  leaves_frames f (g ∷ outer) o = let t = o.0 in resumed f.at t o.1.0 g o.1.1.0 outer o.1.1.1

-- ---- methods that begin

module _ (is : (type : List ℕ) → (object : ℕ) → Bool) where
  set_locals : (cs : List Cell) (vs : List Value) → AreWords is cs vs → AreLocals is cs (map (λ v. Some v) vs)
  set_locals [] [] w = tt
  set_locals [] (v ∷ vs) w = absurd w
  set_locals (c ∷ cs) [] w = absurd w
  set_locals (c ∷ cs) (v ∷ vs) w = (w.0, set_locals cs vs w.1)

  unset_locals : (n : ℕ) → AreLocals is (replicate n Unusable) (replicate n None)
  unset_locals zero = tt
  unset_locals (suc n) = (tt, unset_locals n)

  both_locals : (xs ys : List Cell) (us vs : List (Option Value)) → AreLocals is xs us → AreLocals is ys vs
      → AreLocals is (xs ++ ys) (us ++ vs)
  both_locals [] ys [] vs h k = k
  both_locals [] ys (u ∷ us) vs h k = absurd h
  both_locals (x ∷ xs) ys [] vs h k = absurd h
  both_locals (x ∷ xs) ys (u ∷ us) vs h k = (h.0, both_locals xs ys us vs h.1 k)

  some_locals : (n : ℕ) (cs : List Cell) (vs : List (Option Value)) → AreLocals is cs vs
      → AreLocals is (take n cs) (take n vs)
  some_locals zero cs vs w = tt
  some_locals (suc n) [] [] w = tt
  some_locals (suc n) [] (v ∷ vs) w = absurd w
  some_locals (suc n) (c ∷ cs) [] w = absurd w
  some_locals (suc n) (c ∷ cs) (v ∷ vs) w = (w.0, some_locals n cs vs w.1)

  -- the locals of a method that begins
  pub first_locals : (cs : List Cell) (args : List Value) → AreWords is cs args → (n nargs max_locals : ℕ)
      → n ≡ nargs + max_locals
      → AreLocals is (take n (cs ++ replicate n Unusable)) (locals_of nargs max_locals args)
  first_locals cs args w n nargs max_locals e =
      subst (λ i. AreLocals is (take n (cs ++ replicate n Unusable)) (take i (map (λ v. Some v) args ++ replicate i
      None))) e
      (some_locals n (cs ++ replicate n Unusable) (map (λ v. Some v) args ++ replicate n None)
      (both_locals cs (replicate n Unusable) (map (λ v. Some v) args) (replicate n None) (set_locals cs args w)
      (unset_locals n)))

module _ (l : Loaded) (exceptions : List ℕ) (heap : List (HeapObject Class Field)) (t : Typing)
    (method : IsMethod l exceptions t) (m : Start Code) (begins : Begins t m) (args : List Value)
    (typed : AreWords (object_is l heap) (map (given [] []) t.body.arguments) args) where
  -- a frame at the first instruction of a method
  pub entered : Runs l heap t (frame_for_call m args)
  entered =
      let r = covered l exceptions t method 0 begins.first begins.is_first (flow.entry t.body) (method.closed.entry
      (get_below t.body.steps 0 begins.first begins.is_first)) in
      arrived l exceptions t method heap 0 (flow.entry t.body) r (frame_for_call m args) begins.is_code
      (ap at_of (same_step (slice_get t.body.steps 0) r.step begins.first r.is_step begins.is_first) ∙ begins.at_first)
      [] refl tt
      (first_locals (object_is l heap) (map (given [] []) t.body.arguments) args typed t.body.local_count m.nargs
      m.max_locals begins.count)
    where
      at_of : Step → ℕ
      at_of x = x.at

-- a call begins a method inside a frame that waits for its result
pub inside_goes : (l : Loaded) (program : Program) → AreMethods l program → (s : Run Code Class Field (List Image))
    (t : Typing)
    → Contains program.methods t → (m : Start Code) → Begins t m → (args : List Value)
    → AreWords (object_is l s.memory.heap) (map (given [] []) t.body.arguments) args → (f : Frame Code)
    (outer : List (Frame Code)) → AreOuter l program s.memory.heap t.result (f ∷ outer)
    → GoesOn l program s.memory (inside (by_token l) m args f outer s)
inside_goes l program all s t among m begins args typed f outer o = go m.is_abstract begins.concrete
  where
    go : (b : Bool) → b ≡ false → GoesOn l program s.memory (if b then StuckAt f.at s else Next (record s {
      frames = frame_for_call m args ∷ f ∷ outer;
    }))
    go false e = (
      refl,
      (
        t,
        (
          among,
          (
            entered l program.exceptions s.memory.heap t
                (all t among) m begins args typed,
            o,
          ),
        ),
      ),
    )
    go true e = cc
