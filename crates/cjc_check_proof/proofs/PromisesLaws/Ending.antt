-- What is selected for a method ends with an instruction that does not go on.
use Rattle.std.proofs.Common.{◌≡◌, ℕ, suc, ◌+◌, ◌<◌, refl, sym, ap, subst, ◌∙◌, arith, Bool, true, false, List, [], ◌∷◌}
use Rattle.std.proofs.Common.{◌++◌, length, append-nil}
use Rattle.std.specs.Prelude.{Option, Some, None, flat_map, slice_get, ◌==◌, if◌then◌else◌, ℤ, pos}
use Rattle.cjc_bytes.specs.declared.fault.MemberId.{MemberId}
use Rattle.cjc_bytes.proofs.Gets.{get_inside}
use Rattle.cjc_world.specs.ClassFile.Code.{CodeTree}
use Rattle.cjc_world.specs.ClassFile.declared.tree.ClassTree.{ClassTree}
use Rattle.cjc_world.specs.ClassFile.declared.tree.MethodTree.{MethodTree}
use Rattle.cjc_components.specs.Bytecode.declared.insn.JInsn.{JInsn}
use Rattle.cjc_components.specs.Bytecode.declared.insn.JOp.{JOp}
use Rattle.cjc_components.specs.Bytecode.declared.insn.JOp.TheVariants as jop
use Rattle.cjc_components.specs.Bytecode.declared.method_code.MethodCode.{MethodCode}
use Rattle.cjc_world.specs.Files.{Files}
use Rattle.cjc_ncode.specs.declared.narrow.NCase.{NCase}
use Rattle.cjc_ncode.specs.declared.narrow.NInsn.{NInsn}
use Rattle.cjc_ncode.specs.declared.narrow.NMethod.{NMethod}
use Rattle.cjc_ncode.specs.Written.{leaving, low_of, pair_cases, place_in, reached, Resolution, switched, table_cases}
use Rattle.cjc_ncode.specs.Written.{Access, accessed, is_load, narrow_method, on_this, written, written_for}
use Rattle.cjc_ncode.proofs.WrittenCases.{written_cases}
use Rattle.cjc_pool.specs.Narrow.Rows.Resolved.{argument_words}
use Rattle.cjc_pool.specs.Narrow.Rows.Selected.{paired, selected_code}
use Rattle.cjc_pool.specs.Narrow.Written.Rows.{by_rows_there, has_rows, has_rows_by, rows_by}
use Rattle.cjc_pool.specs.Types.declared.state.State.{State}
use Rattle.cjc_pool.specs.Types.Flow.{body_of}
use Rattle.cjc_pool.specs.Types.Steps.{goes_on}
use Rattle.cjc_pool.specs.Types.Tables.{IsLeastTable, IsMethodOf}
use Rattle.cjc_narrow_proof.proofs.TypesStanding.{next_there}
use Rattle.cjc_check_rules.specs.Instructions.{ends_code}
use Rattle.cjc_check_proof.specs.Code.Ends.{last_ends}
use Rattle.cjc_narrow_proof.proofs.SelectedLaws.SomeInsns.{some_insns}
use Rattle.cjc_narrow_proof.proofs.SelectedLaws.Whole.{closed, next_on}

-- ---- lists

-- what ends with something ends as that does
last_back : (xs ys : List NInsn) → last_ends ys ≡ true → last_ends (xs ++ ys) ≡ true
last_back [] ys e = e
last_back (x ∷ []) [] e = absurd cc
last_back (x ∷ []) (y ∷ ys) e = e
last_back (x ∷ z ∷ xs) ys e = last_back (z ∷ xs) ys e

last_alone : (xs : List NInsn) → last_ends xs ≡ true → last_ends (xs ++ []) ≡ true
last_alone xs e = ap last_ends (append-nil xs) ∙ e

-- ---- one instruction

switched_ends : (op other : ℕ) (low : ℤ) (cases : List NCase) → last_ends (switched op other low cases) ≡ true
switched_ends op other low [] = refl
switched_ends op other low (c ∷ cases) = refl

leaving_ends : (op : ℕ) → ends_code (leaving op) ≡ true
leaving_ends op = by (op == 0xAC) (op == 0xB0)
  where
    by : (a b : Bool) → ends_code (if a then 0x78 else (if b then 0x77 else 0x7A)) ≡ true
    by true b = refl
    by false true = refl
    by false false = refl

op_ends : (r : Resolution) (place : ℕ → ℕ) (op : JOp) → goes_on op ≡ false → last_ends (written r place op) ≡ true
op_ends r place (jop.Goto target) e = refl
op_ends r place (jop.TableSwitch other low targets) e =
    switched_ends 0x73 (place other) (low_of (table_cases place low targets)) (table_cases place low targets)
op_ends r place (jop.LookupSwitch other cases) e = switched_ends 0x75 (place other) (pos 0) (pair_cases place cases)
op_ends r place (jop.Return op) e = leaving_ends op
op_ends r place jop.Throw e = refl
op_ends r place jop.Nop e = absurd cc
op_ends r place jop.Null e = absurd cc
op_ends r place (jop.Number z) e = absurd cc
op_ends r place (jop.Load refs l) e = absurd cc
op_ends r place (jop.Store refs l) e = absurd cc
op_ends r place (jop.ArrayLoad op) e = absurd cc
op_ends r place (jop.ArrayStore op) e = absurd cc
op_ends r place (jop.Stack op) e = absurd cc
op_ends r place (jop.Arith op) e = absurd cc
op_ends r place (jop.Inc l by) e = absurd cc
op_ends r place (jop.Narrow op) e = absurd cc
op_ends r place (jop.If op target) e = absurd cc
op_ends r place (jop.Static put f) e = absurd cc
op_ends r place (jop.Field put f) e = absurd cc
op_ends r place (jop.Call op m) e = absurd cc
op_ends r place (jop.New class) e = absurd cc
op_ends r place (jop.NewArray kind) e = absurd cc
op_ends r place (jop.ANewArray class) e = absurd cc
op_ends r place jop.ArrayLength e = absurd cc
op_ends r place (jop.CheckCast class) e = absurd cc
op_ends r place (jop.InstanceOf class) e = absurd cc

-- whatever its role
role_ends : (r : Resolution) (place : ℕ → ℕ) (i : JInsn) → goes_on i.op ≡ false → last_ends (written_for r place i)
    ≡ true
role_ends r place i e = written_cases (λ xs. last_ends xs ≡ true) (r.role i.at) r place i.op (λ f. load i.op e f)
    (op_ends r place i.op e) (λ a f. access i.op a e f)
  where
    load : (op : JOp) → goes_on op ≡ false → is_load op ≡ true → last_ends [] ≡ true
    load (jop.Load refs l) e f = absurd cc
    load op e f = absurd cc

    access : (op : JOp) (a : Access) → goes_on op ≡ false → accessed op ≡ Some a
        → last_ends (on_this r place op (Some a)) ≡ true
    access (jop.Field put f) a e g = absurd cc
    access op a e g = absurd cc

-- ---- reached instructions

-- a reached instruction at the front is the first of the reached ones
first_reached : (insns : List JInsn) (rows : List (Option State)) (i : JInsn) (x : State) → slice_get insns 0 ≡ Some i
    → slice_get rows 0 ≡ Some (Some x) → (rest : List JInsn) × (reached insns rows ≡ i ∷ rest)
first_reached [] rows i x e f = absurd cc
first_reached (j ∷ insns) [] i x e f = absurd cc
first_reached (j ∷ insns) (None ∷ rows) i x e f = absurd cc
first_reached (j ∷ insns) (Some y ∷ rows) i x e f = let same : j ≡ i = cc
    in (reached insns rows, ap (λ k. k ∷ reached insns rows) same)

-- a reached instruction that goes on leads to a reached one behind it
abbrev LeadsOn : List JInsn → List (Option State) → Type 0
LeadsOn insns rows = (k : ℕ) (i : JInsn) (x : State) → slice_get insns k ≡ Some i → slice_get rows k ≡ Some (Some x)
    → goes_on i.op ≡ true
    → (j : JInsn) × (y : State) × (slice_get insns (suc k) ≡ Some j) × (slice_get rows (suc k) ≡ Some (Some y))

module _ (r : Resolution) (place : ℕ → ℕ) where
  abbrev code : List JInsn → List NInsn
  code kept = flat_map (written_for r place) kept

  reached_end : (insns : List JInsn) (rows : List (Option State)) → LeadsOn insns rows → (c : JInsn) (rest : List JInsn)
      → reached insns rows ≡ c ∷ rest → last_ends (code (reached insns rows)) ≡ true
  reached_end [] rows on c rest e = absurd cc
  reached_end (i ∷ insns) [] on c rest e = absurd cc
  reached_end (i ∷ insns) (None ∷ rows) on c rest e = reached_end insns rows (λ k j x a b. on (suc k) j x a b) c rest e
  reached_end (i ∷ insns) (Some x ∷ rows) on c rest e =
      by (reached insns rows) refl (reached_end insns rows (λ k j y a b. on (suc k) j y a b)) (goes_on i.op) refl
    where
      by : (later : List JInsn) → reached insns rows ≡ later → ((d : JInsn) (ds : List JInsn) → reached insns rows ≡ d
          ∷ ds → last_ends (code (reached insns rows)) ≡ true)
          → (goes : Bool) → goes_on i.op ≡ goes → last_ends (written_for r place i ++ code (reached insns rows)) ≡ true
      by (d ∷ ds) is more goes f = last_back (written_for r place i) (code (reached insns rows)) (more d ds is)
      by [] is more false f = ap (λ xs. last_ends (written_for r place i ++ code xs)) is
          ∙ last_alone (written_for r place i) (role_ends r place i f)
      by [] is more true f =
          let n = on 0 i x refl refl f in
          let there = first_reached insns rows n.0 n.1 n.2 n.3 in
          let clash : [] ≡ n.0 ∷ there.0 = sym is ∙ there.1 in
          absurd cc

-- ---- a method

module _ (files : Files) (code : MethodCode) (class : ClassTree) (method : MethodTree) (tree : CodeTree)
    (is : IsMethodOf files code class method tree)
    (rows : List (Option State)) (least : IsLeastTable (body_of class method tree code.insns) rows) where
  leads_on : LeadsOn code.insns rows
  leads_on at i x e row goes =
      let lt = next_there files code class method tree is at i e goes in
      let next = get_inside code.insns (at + 1) lt in
      let on = (closed files code class method tree is rows least).next at x i row e (at + 1)
      (next_on files code class method tree is rows least at i goes lt) in
      let one : at + 1 ≡ suc at = omega arith in
      (next.0, on.row, ap (slice_get code.insns) (sym one) ∙ next.1, ap (slice_get rows) (sym one) ∙ on.is_row)

  pub selected_ends : 0 < length tree.bytes → (near : List MemberId)
      → last_ends (selected_code files near class method tree code.insns (rows_by (has_rows rows))).insns ≡ true
  selected_ends some near =
      let r = paired files near class method tree code.insns (has_rows rows) in
      let nargs = argument_words method.flags method.desc in
      let front = get_inside code.insns 0 (some_insns files code class method tree is some) in
      let on = (closed files code class method tree is rows least).first
      (some_insns files code class method tree is some) in
      let there = first_reached code.insns rows front.0 on.row front.1 on.is_row in
      subst (λ (m : NMethod). last_ends m.insns ≡ true) (by_rows_there r tree nargs code.insns rows
      ∙ ap (λ hs. narrow_method (paired files near class method tree code.insns hs) tree nargs code.insns (rows_by
      (has_rows rows))) (sym (has_rows_by (has_rows rows))))
      (reached_end r (place_in r (reached code.insns rows)) code.insns rows leads_on front.0 there.0 there.1)
