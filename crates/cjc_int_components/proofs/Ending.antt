-- What is written in int mode ends with an instruction that does not go on.
use Rattle.std.proofs.Common.{◌≡◌, ℕ, suc, ◌+◌, ◌<◌, refl, sym, ap, subst, ◌∙◌, arith, Bool, true, false, List}
use Rattle.std.proofs.Common.{[]}
use Rattle.std.proofs.Common.{◌∷◌, ◌++◌, length, append-nil}
use Rattle.std.specs.Prelude.{Option, Some, None, get_or, slice_get, ◌==◌, if◌then◌else◌}
use Rattle.std.specs.List.{Contains}
use Rattle.std.proofs.lemmas.Bool.{lt-ltb}
use Rattle.std.proofs.lemmas.List.{length-map}
use Rattle.std.proofs.lemmas.List.Elements.{Contains-append_left}
use Rattle.cjc_check_proof.proofs.BytesGets.{get_inside}
use Rattle.cjc_ncode.proofs.BytecodeOneCut.{is_cut}
use Rattle.cjc_int_narrow.specs.Bytecode.Cut.{cut, IsCutFrom}
use Rattle.cjc_int_narrow.specs.Bytecode.Jvm as jvm
use Rattle.cjc_int_narrow.specs.Bytecode.Rules.{stopped, with_names}
use Rattle.cjc_int_narrow.specs.Bytecode.declared.insn.JInsn.{JInsn}
use Rattle.cjc_int_narrow.specs.Bytecode.declared.insn.JOp.{JOp}
use Rattle.cjc_int_narrow.specs.Bytecode.declared.insn.JOp.TheVariants as jop
use Rattle.cjc_int_narrow.specs.Bytecode.declared.method_code.MethodCode.{MethodCode}
use Rattle.cjc_check_proof.specs.Fixpoint.Working.Edges.{contains_head}
use Rattle.cjc_int_narrow.specs.Script.Sorts.{Sort, Boolean, Byte, Short, Int, Reference, NoValue}
use Rattle.cjc_int_narrow.specs.ClassFile.Code.{CodeTree}
use Rattle.cjc_int_narrow.specs.ClassFile.declared.tree.ClassTree.{ClassTree}
use Rattle.cjc_int_narrow.specs.ClassFile.declared.tree.MethodTree.{MethodTree}
use Rattle.cjc_int_narrow.specs.World.Files.{Files}
use Rattle.cjc_check_proof.specs.CapRead.Card as card
use Rattle.cjc_int_narrow.proofs.TypesLowered.{least_closed}
use Rattle.cjc_int_narrow.proofs.TypesStanding.{next_there}
use Rattle.cjc_check_proof.specs.Types.Flow.{Body, body_of, next_place, successors}
use Rattle.cjc_check_proof.specs.Types.Steps.{goes_on}
use Rattle.cjc_check_proof.specs.Types.Tables.{IsLeastTable, IsMethodOf}
use Rattle.cjc_check_proof.specs.Types.TypeLaws.Closed.{IsClosedTable}
use Rattle.cjc_check_proof.specs.Types.declared.state.State.{State}
use Rattle.cjc_check_proof.specs.Intervals.Frames.{RangeState}
use Rattle.cjc_ncode.specs.declared.narrow.NInsn.{NInsn}
use Rattle.cjc_ncode.specs.declared.narrow.NInsn.TheVariants.{Op}
use Rattle.cjc_ncode.specs.Written.{Resolution, leaving}
use Rattle.cjc_ncode.specs.IntCode.IntCode.{Before, Frame, Reached, place_in, prologue, returned, written, written_from}
use Rattle.cjc_check_proof.proofs.NarrowProofCuts.{decoded, few}
use Rattle.cjc_check_proof.specs.CheckRules.Instructions.{ends_code}
use Rattle.cjc_check_proof.specs.Code.Ends.{last_ends}
use Rattle.cjc_int_narrow.specs.LowerIntMode.Written.{before, int_frame, reached_from, written_in_int_mode}

-- ---- lists

-- what ends with something ends as that does
last_back : (xs ys : List NInsn) → last_ends ys ≡ true → last_ends (xs ++ ys) ≡ true
last_back [] ys e = e
last_back (x ∷ []) [] e = absurd cc
last_back (x ∷ []) (y ∷ ys) e = e
last_back (x ∷ z ∷ xs) ys e = last_back (z ∷ xs) ys e

last_alone : (xs : List NInsn) → last_ends xs ≡ true → last_ends (xs ++ []) ≡ true
last_alone xs e = ap last_ends (append-nil xs) ∙ e

-- ---- one instruction

returned_ends : (result : Option Sort) → last_ends (returned result) ≡ true
returned_ends None = refl
returned_ends (Some Boolean) = refl
returned_ends (Some Byte) = refl
returned_ends (Some Short) = refl
returned_ends (Some Int) = refl
returned_ends (Some (Reference shape)) = refl
returned_ends (Some NoValue) = refl

leaving_ends : (op : ℕ) → ends_code (leaving op) ≡ true
leaving_ends op = by (op == jvm.ireturn) (op == jvm.areturn)
  where
    by : (a b : Bool) → ends_code (if a then card.sreturn else (if b then card.areturn else card.return)) ≡ true
    by true b = refl
    by false true = refl
    by false false = refl

module _ (f : Frame) (r : Resolution) (place : ℕ → ℕ) where
  op_ends : (b : Before) (here : ℕ) (op : JOp) → goes_on op ≡ false → last_ends (written f r place b here op) ≡ true
  op_ends b here (jop.Goto target) e = refl
  op_ends b here (jop.TableSwitch other low targets) e = refl
  op_ends b here (jop.LookupSwitch other cases) e = refl
  op_ends b here (jop.Return op) e = by (op == jvm.ireturn)
    where
      by : (a : Bool) → last_ends (if a then returned f.result else Op (leaving op) ∷ []) ≡ true
      by true = returned_ends f.result
      by false = leaving_ends op
  op_ends b here jop.Throw e = refl
  op_ends b here jop.Nop e = absurd cc
  op_ends b here jop.Null e = absurd cc
  op_ends b here (jop.Number z) e = absurd cc
  op_ends b here (jop.Load refs l) e = absurd cc
  op_ends b here (jop.Store refs l) e = absurd cc
  op_ends b here (jop.ArrayLoad op) e = absurd cc
  op_ends b here (jop.ArrayStore op) e = absurd cc
  op_ends b here (jop.Stack op) e = absurd cc
  op_ends b here (jop.Arith op) e = absurd cc
  op_ends b here (jop.Inc l by) e = absurd cc
  op_ends b here (jop.Narrow op) e = absurd cc
  op_ends b here (jop.If op target) e = absurd cc
  op_ends b here (jop.Static put g) e = absurd cc
  op_ends b here (jop.Field put g) e = absurd cc
  op_ends b here (jop.Call op m) e = absurd cc
  op_ends b here (jop.New class) e = absurd cc
  op_ends b here (jop.NewArray kind) e = absurd cc
  op_ends b here (jop.ANewArray class) e = absurd cc
  op_ends b here jop.ArrayLength e = absurd cc
  op_ends b here (jop.CheckCast class) e = absurd cc
  op_ends b here (jop.InstanceOf class) e = absurd cc

-- ---- reached instructions

-- a reached instruction that goes on leads to a reached one behind it
abbrev LeadsOn : List JInsn → List (Option State) → Type 0
LeadsOn insns rows = (k : ℕ) (i : JInsn) (x : State) → slice_get insns k ≡ Some i → slice_get rows k ≡ Some (Some x)
    → goes_on i.op ≡ true
    → (j : JInsn) × (y : State) × (slice_get insns (suc k) ≡ Some j) × (slice_get rows (suc k) ≡ Some (Some y))

module _ (ranges : List (Option RangeState)) where
  -- a reached instruction at the front is the first of the reached ones
  first_reached : (at : ℕ) (insns : List JInsn) (rows : List (Option State)) (i : JInsn) (x : State)
      → slice_get insns 0 ≡ Some i → slice_get rows 0 ≡ Some (Some x) → (c : Reached) × (rest : List Reached)
      × (reached_from ranges at insns rows ≡ c ∷ rest)
  first_reached at [] rows i x e f = absurd cc
  first_reached at (j ∷ insns) [] i x e f = absurd cc
  first_reached at (j ∷ insns) (None ∷ rows) i x e f = absurd cc
  first_reached at (j ∷ insns) (Some y ∷ rows) i x e f = (
    record {
      insn = j;
      before = before j.op y (get_or ranges at None);
    },
    reached_from ranges (at + 1) insns rows,
    refl,
  )

  module _ (f : Frame) (r : Resolution) (place : ℕ → ℕ) where
    abbrev code : (here : ℕ) → List Reached → List NInsn
    code here reached = written_from f r place here reached

    reached_end : (at here : ℕ) (insns : List JInsn) (rows : List (Option State)) → LeadsOn insns rows → (c : Reached)
        (rest : List Reached) → reached_from ranges at insns rows ≡ c ∷ rest
        → last_ends (code here (reached_from ranges at insns rows)) ≡ true
    reached_end at here [] rows on c rest e = absurd cc
    reached_end at here (i ∷ insns) [] on c rest e = absurd cc
    reached_end at here (i ∷ insns) (None ∷ rows) on c rest e = reached_end (at + 1) here insns rows
        (λ k j x a b. on (suc k) j x a b) c rest e
    reached_end at here (i ∷ insns) (Some x ∷ rows) on c rest e =
        by (reached_from ranges (at + 1) insns rows) refl (λ h. reached_end (at + 1) h insns rows
        (λ k j y a b. on (suc k) j y a b)) (goes_on i.op) refl
      where
        b : Before
        b = before i.op x (get_or ranges at None)

        by : (later : List Reached) → reached_from ranges (at + 1) insns rows ≡ later
            → ((h : ℕ) (d : Reached) (ds : List Reached) → reached_from ranges (at + 1) insns rows ≡ d ∷ ds
            → last_ends (code h (reached_from ranges (at + 1) insns rows)) ≡ true)
            → (goes : Bool) → goes_on i.op ≡ goes
            → last_ends (written f r place (before i.op x (get_or ranges at None)) here i.op
            ++ code (here + length (written f r place (before i.op x (get_or ranges at None)) here i.op))
            (reached_from ranges (at + 1) insns rows)) ≡ true
        by (d ∷ ds) is more goes g =
            let new = written f r place (before i.op x (get_or ranges at None)) here i.op in
            last_back new (code (here + length new) (reached_from ranges (at + 1) insns rows))
            (more (here + length new) d ds is)
        by [] is more false g =
            let new = written f r place (before i.op x (get_or ranges at None)) here i.op in
            ap (λ xs. last_ends (new ++ code (here + length new) xs)) is
            ∙ last_alone new (op_ends f r place (before i.op x (get_or ranges at None)) here i.op g)
        by [] is more true g =
            let n = on 0 i x refl refl g in
            let there = first_reached (at + 1) insns rows n.0 n.1 n.2 n.3 in
            let clash : [] ≡ there.0 ∷ there.1 = sym is ∙ there.2 in
            absurd cc

-- ---- a method

module _ (files : Files) (code : MethodCode) (class : ClassTree) (method : MethodTree) (tree : CodeTree)
    (is : IsMethodOf files code class method tree)
    (rows : List (Option State)) (least : IsLeastTable (body_of class method tree code.insns) rows) where
  closed : IsClosedTable (body_of class method tree code.insns) rows
  closed = least_closed (body_of class method tree code.insns) rows least (few files code class method tree is)

  next_on : (at : ℕ) (i : JInsn) → goes_on i.op ≡ true → at + 1 < length code.insns
      → Contains (successors code.insns at i.op) (at + 1)
  next_on at i goes lt =
      Contains-append_left _ _ (at + 1) (subst (λ b. Contains (next_place b (length code.insns) at) (at + 1)) (sym goes)
      (subst (λ b. Contains (if b then (at + 1) ∷ [] else []) (at + 1)) (sym (lt-ltb (at + 1) (length code.insns) lt))
      (contains_head (at + 1) [])))

  leads_on : LeadsOn code.insns rows
  leads_on at i x e row goes =
      let lt = next_there files code class method tree is at i e goes in
      let next = get_inside code.insns (at + 1) lt in
      let on = closed.next at x i row e (at + 1) (next_on at i goes lt) in
      let one : at + 1 ≡ suc at = omega arith in
      (next.0, on.row, ap (slice_get code.insns) (sym one) ∙ next.1, ap (slice_get rows) (sym one) ∙ on.is_row)

  -- code with a byte has an instruction
  some_insns : 0 < length tree.bytes → 0 < length code.insns
  unfolding IsCutFrom
  some_insns some = by (cut tree.bytes).insns refl
    where
      by : (insns : List _) → (cut tree.bytes).insns ≡ insns → 0 < length code.insns
      by [] e =
          let ended : IsCutFrom 0 tree.bytes [] (cut tree.bytes).stop =
          subst (λ insns. IsCutFrom 0 tree.bytes insns (cut tree.bytes).stop) e (is_cut tree.bytes) in
          let at : (cut tree.bytes).stop ≡ 0 = ended.0 in
          let told = decoded files code class method tree is in
          absurd (told.fit (cut tree.bytes).stop (stopped (omega (arith, some, at))))
      by (i ∷ insns) e =
          let told = decoded files code class method tree is in
          let many : length code.insns ≡ length (i ∷ insns) = ap length told.insns_are
          ∙ length-map (cut tree.bytes).insns (with_names class.pool) ∙ ap length e in
          omega (arith, many)

  pub int_code_ends : 0 < length tree.bytes → (ranges : List (Option RangeState)) (r : Resolution)
      → last_ends (written_in_int_mode r tree (body_of class method tree code.insns) rows ranges).insns ≡ true
  int_code_ends some ranges r =
      let b : Body = body_of class method tree code.insns in
      let f : Frame = int_frame b in
      let kept = reached_from ranges 0 code.insns rows in
      let front = get_inside code.insns 0 (some_insns some) in
      let on = closed.first (some_insns some) in
      let there = first_reached ranges 0 code.insns rows front.0 on.row front.1 on.is_row in
      last_back (prologue f) (written_from f r (place_in f r kept) (length (prologue f)) kept)
      (reached_end ranges f r (place_in f r kept) 0 (length (prologue f)) code.insns rows leads_on there.0 there.1
      there.2)
