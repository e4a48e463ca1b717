-- The program of components that the type checker passes: its methods are typed, their instructions that are reached
-- are
-- what their acts say, and the first memory, fields and exceptions are those that runs ask for.
use Rattle.std.proofs.Common.{◌≡◌, ℕ, zero, suc, ◌+◌, ◌==◌, refl, sym, ap, subst, ◌∙◌, Bool, true, false, not, List, []}
use Rattle.std.proofs.Common.{◌∷◌, ◌++◌, append-nil, length, map, slice_get, Option, Some, None, ℤ, pos}
use Rattle.std.specs.Prelude.{◌||◌, Contains, option_and_then, option_map}
use Rattle.cjc_capread.specs.Decode.{Instruction, before_table, decode}
use Rattle.cjc_capread.specs.Opcodes.{Byte, Form, Index2, form}
use Rattle.cjc_capread.specs.declared.tree.ArrayInit.{ArrayInit}
use Rattle.cjc_capread.specs.declared.tree.ClassRef.{ClassRef}
use Rattle.cjc_capread.specs.declared.tree.PoolEntry.{PoolEntry}
use Rattle.cjc_capread.specs.declared.tree.PoolEntry.TheVariants.{Classref, InstanceFieldref, VirtualMethodref}
use Rattle.cjc_capread.specs.declared.tree.PoolEntry.TheVariants.{SuperMethodref, StaticFieldref, StaticMethodref}
use Rattle.cjc_check_rules.specs.ClassRefs.{class_ref_spots}
use Rattle.cjc_check_rules.specs.Codes.{whole_spots}
use Rattle.cjc_check_rules.specs.Complete.{Complete}
use Rattle.cjc_check_rules.specs.Handlers.{handler_spots}
use Rattle.cjc_check_rules.specs.Instructions.{index_spots, jump_spots}
use Rattle.cjc_check_rules.specs.Spots.{Placed}
use Rattle.cjc_world.specs.declared.image.StaticImage.{StaticImage}
use Rattle.cjc_world.specs.Files.{Files}
use Rattle.cjc_card_semantics.specs.Bytecode.Effects.{HeapObject, NewReferences, Numbers, shape}
use Rattle.cjc_card_semantics.specs.Bytecode.Machine.{Fetched}
use Rattle.cjc_card_semantics.specs.Bytecode.Meanings.{Calls, Gets, GetsStatic, Makes, MakesReferences, Mode, Puts}
use Rattle.cjc_card_semantics.specs.Bytecode.Meanings.{PutsStatic}
use Rattle.cjc_card_semantics.specs.Bytecode.Meanings.{Use}
use Rattle.cjc_card_semantics.specs.Bytecode.Meanings as meanings
use Rattle.cjc_card_semantics.specs.Machine.Loaded.{Loaded, Part}
use Rattle.cjc_card_semantics.specs.Machine.Classes.{Class, Field}
use Rattle.cjc_card_semantics.specs.Machine.Methods.{fetch, fetched_as}
use Rattle.cjc_card_semantics.specs.Machine.Operations.{Callee, operation, or_undone}
use Rattle.cjc_card_semantics.specs.Machine.Operations as machine
use Rattle.cjc_card_semantics.specs.Machine.Statics.{StaticCell, first_array, first_memory}
use Rattle.cjc_card_semantics.specs.Script.Sorts.{OfNumbers, Shape}
use Rattle.cjc_intervals.specs.Fixpoint.Tables.{HasRow}
use Rattle.cjc_intervals.specs.Types.declared.cell.Cell.{Cell}
use Rattle.cjc_intervals.specs.Types.declared.state.Stack.{Stack}
use Rattle.cjc_intervals.specs.Types.declared.state.Stack.TheVariants.{Cells, Clash}
use Rattle.cjc_intervals.specs.Types.declared.state.State.{State}
use Rattle.cjc_verify.specs.Frames.declared.acts.Act.{Act}
use Rattle.cjc_verify.specs.Frames.declared.acts.Step.{Step}
use Rattle.cjc_verify.specs.Frames.Acts.{Subtype, clash, has_wrong, has_wrong_local, misnamed, unknown, wrong}
use Rattle.cjc_verify.specs.Frames.Flow as flow
use Rattle.cjc_verify.specs.Frames.Tables.{Breach, IsLeastTable}
use Rattle.cjc_card_acts.specs.CardTypes.{ValueType, is_type_of}
use Rattle.cjc_card_acts.specs.Rows.{row}
use Rattle.cjc_card_acts.specs.Rows as rows
use Rattle.cjc_components.specs.Paired.Naming.{part_of}
use Rattle.cjc_token_proof.specs.Tables.Sound.{AreFieldDescs, AreTyped, IsSound}
use Rattle.cjc_verify.specs.Bodies.{Body, bodies, frames_of, type_of_body}
use Rattle.cjc_verify.specs.Instructions.{act, by_interface, using, using_entry, using_some}
use Rattle.cjc_verify.specs.Named.{entry_of, entry_type}
use Rattle.cjc_verify.specs.Pairs.{Pair, pair_of}
use Rattle.cjc_verify.specs.Verified.{IsVerified}
use Rattle.cjc_verify_proof.specs.Beside.{AreRead}
use Rattle.cjc_verify_proof.specs.Frames.{AreMethods, IsMethod, Program, Typing}
use Rattle.cjc_verify_proof.specs.Heaps.{shape_in}
use Rattle.cjc_verify_proof.specs.Instructions.{Suits}
use Rattle.cjc_verify_proof.specs.Instructions as suits
use Rattle.cjc_verify_proof.specs.Runs.{AreSuited}
use Rattle.cjc_verify_proof.specs.Turns.{AreMade, IsMade}
use Rattle.cjc_verify_proof.specs.Uses.{is_used_by}
use Rattle.cjc_verified_proof.specs.Entries.{AreRefs}
use Rattle.cjc_verified_proof.specs.PackageTypes.{StaticInInterfaces}
use Rattle.cjc_verified_proof.specs.Programs.{CallsSuit, IsProgramOf, IsTypingOf, code_of}
use Rattle.cjc_verified_proof.specs.Suited.{IsRight}
use Rattle.cjc_bytes.proofs.Gets.{mapped_at}
use Rattle.cjc_bytes.proofs.Plain.{same_some}
use Rattle.cjc_verified_proof.proofs.BodyLaws.{StandsIn, body_stands}
use Rattle.cjc_verified_proof.proofs.FieldSuits.{cell_put_suits, cell_suits, field_put_suits, field_suits, new_suits}
use Rattle.cjc_verified_proof.proofs.MethodLaws.{IsStep, step_there, typed_method, typing, typing_is}
use Rattle.cjc_verified_proof.proofs.SuitLaws.{SuitPool, all_read_so, class_named, suits_of, uses_indexed}

-- ---- what an instruction that is reached does not break

last_true : (a b : Bool) → (a || b || true) ≡ true
last_true true b = refl
last_true false true = refl
last_true false false = refl

module _ (is_of : Subtype) (b : flow.Body) (rows_of : List (Option State))
    (unbroken : (place rule : ℕ) → Breach is_of b rows_of place rule → ⊥) (place : ℕ) (s : Step)
    (is : slice_get b.steps place ≡ Some s) where
  known_so : (x : State) → HasRow rows_of place x → (t : Bool) → (let a = s.act in a.is_unknown) ≡ t → t ≡ false
  known_so x r true e = absurd (unbroken place 726 (record {
    step = s;
    is_step = is;
    state = x;
    reached = r;
    breaks = unknown x e;
  }))
  known_so x r false e = refl

  named_so : (x : State) → HasRow rows_of place x → (t : Bool) → (let a = s.act in a.misnames) ≡ t → t ≡ false
  named_so x r true e = absurd (unbroken place 727 (record {
    step = s;
    is_step = is;
    state = x;
    reached = r;
    breaks = misnamed x e;
  }))
  named_so x r false e = refl

  fit_so : (stack : Stack) (locals : List Cell) → HasRow rows_of place (record { stack = stack; locals = locals })
      → (t : Bool) → (let a = s.act in a.misfits) ≡ t → t ≡ false
  fit_so stack locals r false e = refl
  fit_so Clash locals r true e = absurd (unbroken place 722 (record {
    step = s;
    is_step = is;
    state = record { stack = Clash; locals = locals };
    reached = r;
    breaks = clash locals;
  }))
  fit_so (Cells cells) locals r true e = absurd (unbroken place 723 (record {
    step = s;
    is_step = is;
    state = record { stack = Cells cells; locals = locals };
    reached = r;
    breaks = wrong cells locals (let a = s.act in ap (λ t. has_wrong is_of a.takes cells || has_wrong_local is_of
        a.reads
        locals || t) e ∙ last_true (has_wrong is_of a.takes cells) (has_wrong_local is_of a.reads locals));
  }))

  is_right : (x : State) → HasRow rows_of place x → IsRight s.act
  is_right x r = let a = s.act in record {
    known = known_so x r a.is_unknown refl;
    named = named_so x r a.misnames refl;
    fit = fit_so x.stack x.locals r a.misfits refl;
  }

module _ (applets : Bool) (list : List ℕ) (files : Files) (image : StaticImage) (c : Complete)
    (sound : IsSound list files) (typed : AreTyped files) (descs : AreFieldDescs files)
    (static_ones : StaticInInterfaces files) (verified : IsVerified (pair_of applets files image c))
    (counts : (let d = c.descriptor in let q = c.pool in length d.pool_types ≡ length q.entries)) (refs : AreRefs c)
    (whole : whole_spots c ≡ []) (jump : jump_spots c ≡ []) (handled : handler_spots c ≡ [])
    (indexed : index_spots c ≡ []) (class_refs : class_ref_spots c files.exports ≡ []) (program : Program)
    (of : IsProgramOf (pair_of applets files image c) program) where
  abbrev p : Pair
  p = pair_of applets files image c

  abbrev l : Loaded
  l = p.loaded

  abbrev pool : List PoolEntry
  pool = let q = c.pool in q.entries

  -- ---- methods

  pub are_methods : AreMethods l program
  are_methods t among =
      let r = of.each t among in
      subst (IsMethod l program.exceptions) (typing_is p r.1 t r.4)
      (typed_method applets files image c whole jump handled
      refs verified program.exceptions of.exceptions r.0 r.1 r.2 t.rows (let x = r.4 in x.least))

  -- ---- the first memory

  abbrev inits : List ArrayInit
  inits = let s = c.statics in s.array_inits

  pub first_made : (let m = first_memory l in AreMade program m.heap)
  first_made k kind e = by (slice_get (map first_array inits ++ []) k) refl e
    where
      of_numbers : (a : ArrayInit) → Some (shape (first_array a)) ≡ Some kind → IsMade program kind
      of_numbers a f = subst (IsMade program) (same_some f) tt

      by : (o : Option (HeapObject Class Field)) → slice_get (map first_array inits ++ []) k ≡ o → shape_in o
          ≡ Some kind
          → IsMade program kind
      by None f g = absurd cc
      by (Some thing) f g =
          let r = mapped_at first_array inits k thing (ap (λ xs. slice_get xs k) (sym (append-nil
          (map first_array inits)))
          ∙ f) in
          of_numbers r.0 (ap (λ x. Some (shape x)) r.2 ∙ g)

  -- ---- entries of the constant pool

  arrays_suit : (result : ValueType) (r : ClassRef) (k : ℕ) → entry_of p k ≡ Some (Classref r)
      → Suits l program result (using p MakesReferences (entry_type p k) (Classref r)) (or_undone (machine.using l 0
      MakesReferences (Classref r)))
  arrays_suit result r k is =
      let n = class_named applets files image c program of refs class_refs k r is in
      subst (λ (o : Option Class). Suits l program result (using p MakesReferences (entry_type p k) (Classref r))
      (or_undone (option_map (λ (x : Class). NewReferences x) o))) (sym n.meant) (suits.anewarray n.class _ n.array)

  module _ (fit : CallsSuit p program) where
    use_suits : (result : ValueType) (how : Use) (k : ℕ) (item : PoolEntry) → entry_of p k ≡ Some item
        → is_used_by how item ≡ true → IsRight (using p how (entry_type p k) item)
        → Suits l program result (using p how (entry_type p k) item) (or_undone (machine.using l 0 how item))
    use_suits result (Gets this letter) k (Classref class) is kind right = absurd cc
    use_suits result (Gets this letter) k (InstanceFieldref class token) is kind right = field_suits applets list files
        image c sound typed descs static_ones verified counts refs program of result this letter class token k is right
    use_suits result (Gets this letter) k (VirtualMethodref class token) is kind right = absurd cc
    use_suits result (Gets this letter) k (SuperMethodref class token) is kind right = absurd cc
    use_suits result (Gets this letter) k (StaticFieldref field) is kind right = absurd cc
    use_suits result (Gets this letter) k (StaticMethodref method) is kind right = absurd cc
    use_suits result (Puts this letter) k (Classref class) is kind right = absurd cc
    use_suits result (Puts this letter) k (InstanceFieldref class token) is kind right = field_put_suits applets list
        files image c sound typed descs static_ones verified counts refs program of result this letter class token k is
        right
    use_suits result (Puts this letter) k (VirtualMethodref class token) is kind right = absurd cc
    use_suits result (Puts this letter) k (SuperMethodref class token) is kind right = absurd cc
    use_suits result (Puts this letter) k (StaticFieldref field) is kind right = absurd cc
    use_suits result (Puts this letter) k (StaticMethodref method) is kind right = absurd cc
    use_suits result (GetsStatic letter) k (Classref class) is kind right = absurd cc
    use_suits result (GetsStatic letter) k (InstanceFieldref class token) is kind right = absurd cc
    use_suits result (GetsStatic letter) k (VirtualMethodref class token) is kind right = absurd cc
    use_suits result (GetsStatic letter) k (SuperMethodref class token) is kind right = absurd cc
    use_suits result (GetsStatic letter) k (StaticFieldref field) is kind right = cell_suits applets list files image c
        sound typed descs static_ones verified counts refs program of result letter field k is right
    use_suits result (GetsStatic letter) k (StaticMethodref method) is kind right = absurd cc
    use_suits result (PutsStatic letter) k (Classref class) is kind right = absurd cc
    use_suits result (PutsStatic letter) k (InstanceFieldref class token) is kind right = absurd cc
    use_suits result (PutsStatic letter) k (VirtualMethodref class token) is kind right = absurd cc
    use_suits result (PutsStatic letter) k (SuperMethodref class token) is kind right = absurd cc
    use_suits result (PutsStatic letter) k (StaticFieldref field) is kind right = cell_put_suits applets list files
        image c sound typed descs static_ones verified counts refs program of result letter field k is right
    use_suits result (PutsStatic letter) k (StaticMethodref method) is kind right = absurd cc
    use_suits result (Calls mode) k item is kind right = fit.calls result mode k item is kind right
    use_suits result Makes k (Classref class) is kind right = new_suits applets list files image c sound typed descs
        static_ones verified counts refs program of result class k is right
    use_suits result Makes k (InstanceFieldref class token) is kind right = absurd cc
    use_suits result Makes k (VirtualMethodref class token) is kind right = absurd cc
    use_suits result Makes k (SuperMethodref class token) is kind right = absurd cc
    use_suits result Makes k (StaticFieldref field) is kind right = absurd cc
    use_suits result Makes k (StaticMethodref method) is kind right = absurd cc
    use_suits result MakesReferences k (Classref class) is kind right = arrays_suit result class k is
    use_suits result MakesReferences k (InstanceFieldref class token) is kind right = absurd cc
    use_suits result MakesReferences k (VirtualMethodref class token) is kind right = absurd cc
    use_suits result MakesReferences k (SuperMethodref class token) is kind right = absurd cc
    use_suits result MakesReferences k (StaticFieldref field) is kind right = absurd cc
    use_suits result MakesReferences k (StaticMethodref method) is kind right = absurd cc

    -- ---- instructions

    module _ (k : ℕ) (b : Body) (e : slice_get (bodies c) k ≡ Some b) where
      stands : StandsIn c k b
      stands = body_stands c whole k b e

      abbrev result : ValueType
      result = let t = type_of_body c b in t.result

      step_suits : (place : ℕ) (s : Step) (x : IsStep applets files image c whole jump b place s) → IsRight s.act
          → Suits l program result s.act (operation l 0 pool (let q = x.item in q.at) (meanings.meaning (let q = x.item
          in let i = q.item in i.opcode)) (let q = x.item in let i = q.item in i.operands)
          (let q = x.item in let i = q.item
          in i.table))
      step_suits place s x right =
          let q = x.item in
          let got = ap (λ is. slice_get is place) (sym stands.instructions) ∙ x.is_item in
          let read : (f : Form) → (let i = q.item in form i.opcode) ≡ Some f → AreRead (before_table f) (let i = q.item
          in i.operands) = all_read_so x.bytes q.item x.decoded in
          let here : IsRight (act p result q) = subst (λ (y : Step). IsRight y.act) (sym x.is) right in
          let in_pool : SuitPool applets files image c program of refs class_refs result q = record {
            uses = λ how is_row fine. (
                let u = uses_indexed c indexed k stands.code stands.among place q got how is_row read in
                by q.at (let i = q.item in i.table) how (let i = q.item in i.operands) u.index u.is u.entry u.there
                u.kind fine
                );
            interface = λ are fine. fit.interface result q.at (let i = q.item in i.operands)
                (let i = q.item in i.table) are
                fine;
          } in
          subst (λ (y : Step). Suits l program result y.act (operation l 0 pool q.at (meanings.meaning (let i = q.item
          in i.opcode)) (let i = q.item in i.operands) (let i = q.item in i.table))) x.is
          (suits_of applets files image c
          program of refs class_refs result q read in_pool here)
        where
          by : (at : ℕ) (table : List ℤ) (how : Use) (zs : List ℤ) (n : ℕ) → zs ≡ pos n ∷ [] → (item : PoolEntry)
              → slice_get pool n ≡ Some item → is_used_by how item ≡ true → IsRight (using_entry p how zs)
              → Suits l program result (using_entry p how zs) (operation l 0 pool at (meanings.Uses how) zs table)
          by at table how zs n is item there kind fine = subst (λ (ys : List ℤ). IsRight (using_entry p how ys)
              → Suits l program result (using_entry p how ys) (operation l 0 pool at (meanings.Uses how) ys table))
              (sym is)
              (subst (λ (o : Option PoolEntry). IsRight (using_some p how (entry_type p n) o) → Suits l program result
              (using_some p how (entry_type p n) o) (or_undone (option_and_then (machine.using l 0 how) o))) (sym there)
              (λ good. use_suits result how n item there kind good)) fine

    pub are_suited : (t : Typing) → Contains program.methods t → AreSuited l program t
    are_suited t among =
        let r = of.each t among in
        let m = are_methods t among in
        let h = r.4 in
        subst (AreSuited l program) (typing_is p r.1 t h) (λ place s is x reached. (
        let d = step_there applets files image c whole jump r.0 r.1 r.2 place s is in
        let q = d.item in
        let right = is_right (is_type_of l) (frames_of p r.1) t.rows (λ n rule breach. m.unbroken n rule (subst
        (λ (y : flow.Body). Breach (is_type_of l) y t.rows n rule) (sym h.body) breach)) place s is x reached in (
          fetched_as l 0 pool q.at q.item,
          (
            ap (λ (y : Step). fetch l (code_of r.1) y.at) (sym d.is) ∙ d.fetched,
            step_suits r.0 r.1 r.2 place s d right,
          ),
        )
        ))
