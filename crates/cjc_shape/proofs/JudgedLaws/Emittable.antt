-- The methods of a tested package that are selected by the indices of their pool, and laid out, can be emitted.
use Rattle.std.proofs.Common.{◌≡◌, ℕ, zero, suc, ◌<◌, ◌≤◌, refl, sym, ap, subst, ◌∙◌, arith, Bool, true, false}
use Rattle.std.proofs.Common.{List, [], ◌∷◌, length}
use Rattle.std.specs.Prelude.{Option, Some, None, IsSome, slice_get, unwrap_or, if◌then◌else◌}
use Rattle.std.specs.List.{list_any}
use Rattle.cjc_exported.specs.Bytes.declared.fault.MemberId.{MemberId}
use Rattle.cjc_methods.specs.CapRead.Opcodes.{form}
use Rattle.cjc_methods.specs.Bytecode.declared.insn.JInsn.{JInsn}
use Rattle.cjc_methods.specs.Emit.Emitted.{CanBeWritten, HasIndex, HasNames, HasToken, IsEmittable, IsNamedBy}
use Rattle.cjc_methods.specs.Emit.Emitted.{placed_at}
use Rattle.cjc_methods.specs.Emit.Said.{CanBeSaid}
use Rattle.cjc_int_narrow.proofs.IntProofForms.{all_have_forms as int_forms}
use Rattle.cjc_int_narrow.specs.LowerIntMode.Written.{int_frame, places_from, written_in_int_mode}
use Rattle.cjc_int_narrow.specs.LowerIntMode.Written.{reached_from as int_reached}
use Rattle.cjc_int_selection.proofs.Constants.{constants_fit}
use Rattle.cjc_int_selection.proofs.Emitted.{int_called, int_said}
use Rattle.cjc_judge.specs.declared.judged.Judged.{Judged}
use Rattle.cjc_methods.specs.Bytecode.declared.insn.JOp.TheVariants as jop
use Rattle.cjc_methods.specs.LowerIntPackage.LowerIntMode.Room.{IsRoom}
use Rattle.cjc_methods.specs.LowerIntPackage.LowerIntMode.declared.modes.Mode.{Mode}
use Rattle.cjc_methods.specs.LowerIntPackage.LowerIntMode.declared.modes.Mode.TheVariants as modes
use Rattle.cjc_methods.specs.Types.declared.state.State.{State}
use Rattle.cjc_methods.specs.Types.Flow.{body_of}
use Rattle.cjc_methods.specs.Working.ByMode.{selected_by}
use Rattle.cjc_methods.specs.Narrow.Keys.Index.{index_of}
use Rattle.cjc_methods.specs.Narrow.Keys.Working.Same.{same_member-Decides}
use Rattle.cjc_methods.proofs.LayoutPlaces.{all_wide}
use Rattle.cjc_methods.specs.Layout.Forms.{HasForm}
use Rattle.cjc_methods.specs.Layout.Layouts.{IsLayout, IsWhole}
use Rattle.cjc_methods.specs.Layout.Sizes.{code_size}
use Rattle.cjc_methods.specs.Layout.declared.layout.Layout.{Layout}
use Rattle.cjc_methods.specs.List.Listed.{ListTree}
use Rattle.cjc_narrow_proof.specs.NCode.Lowering.Naming.{Naming}
use Rattle.cjc_methods.specs.Narrow.Rows.Resolved.{resolution}
use Rattle.cjc_methods.specs.Narrow.Pairs.Roles.{with_pairs}
use Rattle.cjc_methods.specs.Narrow.Written.Operands.{IsAscending}
use Rattle.cjc_methods.specs.Narrow.Rows.Selected.{near_fields, paired, selected_code}
use Rattle.cjc_narrow_proof.specs.NCode.Written.{Resolution, place_in, reached, widest_sum}
use Rattle.cjc_narrow_proof.specs.NCode.declared.narrow.NInsn.{NInsn}
use Rattle.cjc_narrow_proof.specs.NCode.declared.narrow.NInsn.TheVariants as insns
use Rattle.cjc_narrow_proof.specs.NCode.declared.narrow.NMethod.{NMethod}
use Rattle.cjc_narrow_proof.specs.NCode.declared.narrow.PoolKey.{PoolKey}
use Rattle.cjc_narrow_proof.specs.NCode.declared.narrow.PoolKey.TheVariants as keys
use Rattle.cjc_methods.specs.LowerPool.Pool.{PoolView, calls, is_called, token_in, token_of}
use Rattle.cjc_methods.proofs.PoolKeys.{names_there}
use Rattle.cjc_methods.specs.LowerPool.Named.{CallsHaveTokens}
use Rattle.cjc_narrow_proof.proofs.SelectedLaws.Calls.{called_from}
use Rattle.cjc_narrow_proof.proofs.SelectedLaws.Decoded.{one_of_all, operands_fit}
use Rattle.cjc_narrow_proof.proofs.SelectedLaws.Formed.{all_have_forms}
use Rattle.cjc_narrow_proof.proofs.SelectedLaws.Numbers.{selected_fit}
use Rattle.cjc_narrow_proof.proofs.SelectedLaws.Places.{reached_from}
use Rattle.cjc_narrow_proof.proofs.SelectedLaws.Said.{all_said}
use Rattle.cjc_narrow_proof.specs.Selected.Operands.{IndexFits, IsSmall, NumbersFit, OperandsFit}
use Rattle.cjc_methods.specs.Subset.Ints.{code_works_on_int}
use Rattle.cjc_methods.specs.Subset.Names.{names_missing, names_unfit, names_unfound}
use Rattle.cjc_methods.specs.Tokens.Tokens.{assigned}
use Rattle.cjc_exported.specs.World.Classes.{all_classes}
use Rattle.cjc_methods.specs.Narrow.Written.Operands.{CanBeSaid as IsSaid}
use Rattle.cjc_methods.specs.Narrow.Written.Rows.{has_rows, rows_by}
use Rattle.cjc_shape.specs.Judged.Pooled.{ArePooled, CanBeIn, IsSelected}
use Rattle.cjc_shape.specs.Judged.Tested.{IsTested, states}
use Rattle.cjc_shape.proofs.JudgedLaws.Called.{IsDeclared, is_fit, is_found, is_there, resolved_declared}
use Rattle.cjc_shape.proofs.JudgedLaws.Called.{resolved_token}
use Rattle.cjc_shape.proofs.JudgedLaws.Selected.{judged_acyclic, judged_names, judged_selectable, judged_whole}
use Rattle.cjc_shape.proofs.JudgedLaws.Selected.{class_file_spelt, classes_spelt, judged_int_whole, judged_writable}
use Rattle.cjc_shape.proofs.JudgedLaws.Selected.{types}
use Rattle.cjc_methods.proofs.BytesGets.{any_at}

-- ---- lists

is_reached : (flags : List Bool) (k : ℕ) (row : Unit {0}) → slice_get (rows_by flags) k ≡ Some (Some row)
    → slice_get flags k ≡ Some true
is_reached [] k row e = cc
is_reached (true ∷ flags) zero row e = refl
is_reached (false ∷ flags) zero row e = cc
is_reached (b ∷ flags) (suc k) row e = is_reached flags k row e

some_is : {A : Type 0} (o : Option A) (x : A) → o ≡ Some x → IsSome o
some_is o x e = subst IsSome (sym e) refl

-- ---- an instruction that calls

call_of : (id : MemberId) (i : NInsn) → calls id i ≡ true → (nargs : ℕ) × (i ≡ insns.Interface nargs id)
call_of id (insns.Interface nargs m) e = let same : id ≡ m = (same_member-Decides id m).0 e
    in (nargs, ap (insns.Interface nargs) (sym same))
call_of id (insns.Op op) e = cc
call_of id (insns.Push op value) e = cc
call_of id (insns.Local op index) e = cc
call_of id (insns.Inc op index by) e = cc
call_of id (insns.Words op m n) e = cc
call_of id (insns.Jump op target) e = cc
call_of id (insns.Switch op other low cases) e = cc
call_of id (insns.Named op key) e = cc
call_of id (insns.NewArray kind) e = cc
call_of id (insns.TypeTest op kind class) e = cc

-- ---- numbers by the names of a pool

module _ (ks : List PoolKey) (tokens : MemberId → Option ℕ) (n : Naming) (named : IsNamedBy ks tokens n) where
  -- the same naming, which has index 0 and token 0 for what the pool has not
  abbrev by_pool : Naming
  by_pool = record n { index = λ key. unwrap_or (index_of ks key) 0; interface_token = λ id. unwrap_or (tokens id) 0 }

  by_pool_small : length ks ≤ 16383 → ((id : MemberId) (t : ℕ) → tokens id ≡ Some t → t < 256) → IsSmall by_pool ks
  by_pool_small few low = record { few = few; index = λ key. refl; token = λ id. by (tokens id) (low id) }
    where
      by : (o : Option ℕ) → ((t : ℕ) → o ≡ Some t → t < 256) → unwrap_or o 0 < 256
      by None h = omega arith
      by (Some t) h = h t refl

  index_same : (key : PoolKey) → HasIndex ks tokens key → unwrap_or (index_of ks key) 0 ≡ n.index key
  index_same key h = ap (λ o. unwrap_or o 0) h.1 ∙ sym (named.index key h.0 h.1)

  token_same : (id : MemberId) → HasToken ks tokens id → unwrap_or (tokens id) 0 ≡ n.interface_token id
  token_same id h = ap (λ o. unwrap_or o 0) h.1 ∙ sym (named.token id h.0 h.1)

  numbers_fit : (i : NInsn) → HasNames ks tokens i → NumbersFit by_pool i → NumbersFit n i
  numbers_fit (insns.Op op) has fit = tt
  numbers_fit (insns.Push op value) has fit = tt
  numbers_fit (insns.Local op index) has fit = tt
  numbers_fit (insns.Inc op index by) has fit = tt
  numbers_fit (insns.Words op a b) has fit = tt
  numbers_fit (insns.Jump op target) has fit = tt
  numbers_fit (insns.Switch op other low cases) has fit = tt
  numbers_fit (insns.Named op key) has fit = subst (IndexFits (form op)) (index_same key has) fit
  numbers_fit (insns.Interface nargs m) has fit = (
    fit.0,
    subst (λ k. k < 65536) (index_same (keys.Class m.class) has.0)
        fit.1,
    subst (λ k. k < 256) (token_same m has.1) fit.2,
  )
  numbers_fit (insns.NewArray kind) has fit = tt
  numbers_fit (insns.TypeTest op kind None) has fit = tt
  numbers_fit (insns.TypeTest op kind (Some class)) has fit = subst (λ k. k < 65536) (index_same (keys.Class class) has)
      fit

-- ---- the package

module _ (list : ListTree) (files : List (List ℕ)) (judged : Judged) (is : IsTested list files judged) (applets : Bool)
    (methods : List NMethod) (pool : PoolView) (pooled : ArePooled judged applets methods pool) where
  abbrev near : List MemberId
  near = near_fields pool.keys

  -- what is selected for a method
  module _ (m : NMethod) (of : IsSelected judged near m) where
    abbrev rows : List (Option State)
    rows = states of.code of.class of.method of.tree of.table

    abbrev flags : List Bool
    flags = has_rows rows

    abbrev kept : List JInsn
    kept = reached of.code.insns (rows_by flags)

    abbrev r : Resolution
    r = paired judged.world near of.class of.method of.tree of.code.insns (has_rows (rows_by flags))

    -- ---- in short mode

    abbrev narrow : NMethod
    narrow = selected_code judged.world near of.class of.method of.tree of.code.insns (rows_by flags)

    module _ (short : of.mode ≡ modes.Short) where
      is_short : m ≡ narrow
      is_short = of.is
          ∙ ap (λ q. selected_by q judged.world near of.code of.class of.method of.tree rows of.ranges) short

      free : code_works_on_int judged.world of.code ≡ false
      free = subst (λ q. CanBeIn q judged.world of.code (body_of of.class of.method of.tree of.code.insns) rows) short
          of.can

      in_code : (k : ℕ) (i : NInsn) → slice_get m.insns k ≡ Some i → slice_get narrow.insns k ≡ Some i
      in_code k i e = ap (λ (x : NMethod). slice_get x.insns k) (sym is_short) ∙ e

      -- its instructions ascend
      up : IsAscending of.code.insns
      up = (judged_selectable list files judged is of.code of.class of.method of.tree of.table of.one free).ascending

      -- one byte says the numbers of what is reached
      said : (k : ℕ) (i : JInsn) → slice_get kept k ≡ Some i → IsSaid i.op
      said k i e =
          let from = reached_from of.code.insns (rows_by flags) k i e in
          (judged_selectable list files judged is of.code of.class of.method of.tree of.table of.one free).said from.0 i
          from.2 (is_reached flags from.0 from.1 from.3)

      fits : m.widest ≤ 32767 → (k : ℕ) (i : JInsn) → slice_get kept k ≡ Some i → OperandsFit i.op
      fits few k i e =
          let from = reached_from of.code.insns (rows_by flags) k i e in
          let one = one_of_all kept k i e in
          let sum : m.widest ≡ widest_sum kept = ap (λ (x : NMethod). x.widest) is_short in
          operands_fit judged.world of.code of.class of.method of.tree of.one.is_method from.0 i from.2 (said k i e)
          (omega (arith, one, sum, few))

    -- ---- in int mode

    abbrev int_narrow : NMethod
    int_narrow = written_in_int_mode (resolution judged.world near of.class.name) of.tree
        (body_of of.class of.method of.tree of.code.insns) rows of.ranges

    module _ (int : of.mode ≡ modes.Int) where
      is_int : m ≡ int_narrow
      is_int = of.is
          ∙ ap (λ q. selected_by q judged.world near of.code of.class of.method of.tree rows of.ranges) int

      room : IsRoom (body_of of.class of.method of.tree of.code.insns) rows modes.Int true
      room = subst (λ q. CanBeIn q judged.world of.code (body_of of.class of.method of.tree of.code.insns) rows) int
          of.can

      in_int_code : (k : ℕ) (i : NInsn) → slice_get m.insns k ≡ Some i → slice_get int_narrow.insns k ≡ Some i
      in_int_code k i e = ap (λ (x : NMethod). slice_get x.insns k) (sym is_int) ∙ e

      -- bytes can say it
      said_in_int_mode : (low n : Naming) → IsSmall low pool.keys → m.widest ≤ 32767
          → ((k : ℕ) (i : NInsn) → slice_get m.insns k ≡ Some i → NumbersFit low i → NumbersFit n i)
          → (k : ℕ) (i : NInsn) → slice_get m.insns k ≡ Some i → CanBeSaid n i
      said_in_int_mode low n small few stay k i e =
          let spelt = class_file_spelt list files judged is of.code of.class of.method of.tree of.table of.one in
          let typed = types list files judged is of.code of.class of.method of.tree of.table of.one in
          int_said judged.world of.code of.class of.method of.tree of.one.is_method spelt.0 spelt.1 rows
          typed.stands.least typed.unbroken room pool.keys
          (λ g z h. constants_fit judged.world (classes_spelt list files judged is) (judged_writable list files judged
          is) z near of.class.name g h)
          of.ranges low n small (subst (λ (x : NMethod). x.widest ≤ 32767) is_int few)
          (λ j x f fit. stay j x (ap (λ (y : NMethod). slice_get y.insns j) is_int ∙ f) fit) k i (in_int_code k i e)

    -- ---- what it calls

    -- a method of an interface that it calls is what an invokeinterface of the class file means
    called : (mode : Mode) → of.mode ≡ mode → (k nargs : ℕ) (id : MemberId)
        → slice_get m.insns k ≡ Some (insns.Interface nargs id)
        → (j : ℕ) × (i : JInsn) × (x : MemberId) × (slice_get of.code.insns j ≡ Some i) × (i.op ≡ jop.Call 0xB9 x)
        × (id ≡ (resolution judged.world near of.class.name).interface x)
    unfolding with_pairs
    called modes.Short short k nargs id e =
        let c = called_from r (place_in r kept) kept k nargs id (in_code short k (insns.Interface nargs id) e) in
        let from = reached_from of.code.insns (rows_by flags) c.0 c.1 c.3 in
        (from.0, c.1, c.2, from.2, c.4, c.5)
    called modes.Int int k nargs id e =
        let spelt = class_file_spelt list files judged is of.code of.class of.method of.tree of.table of.one in
        let typed = types list files judged is of.code of.class of.method of.tree of.table of.one in
        int_called judged.world of.code of.class of.method of.tree of.one.is_method spelt.0 spelt.1 rows
        typed.stands.least typed.unbroken (room int) pool.keys
        (λ g z h. constants_fit judged.world (classes_spelt list files judged is) (judged_writable list files judged
        is) z near of.class.name g h)
        of.ranges k nargs id (in_int_code int k (insns.Interface nargs id) e)

    -- it is declared there
    call_declared : (k nargs : ℕ) (id : MemberId) → slice_get m.insns k ≡ Some (insns.Interface nargs id)
        → IsDeclared judged.world id
    unfolding resolution
    call_declared k nargs id e =
        let c = called of.mode refl k nargs id e in
        let one = of.one in
        let names = judged_names list files judged is in
        let there = is_there judged.world judged.codes names one.place of.code one.is_code of.class of.method of.tree
        one.is_method c.0 c.1 c.3 in
        let found = is_found judged.world judged.codes names one.place of.code one.is_code of.class of.method of.tree
        one.is_method c.0 c.1 c.3 in
        let fit = is_fit judged.world judged.codes names one.place of.code one.is_code of.class of.method of.tree
        one.is_method c.0 c.1 c.3 in
        let op = c.4 in
        let d = resolved_declared judged.world (judged_acyclic list files judged is) of.class c.2
        (ap (names_missing (all_classes judged.world)) (sym op) ∙ there) (ap (names_unfound (all_classes judged.world))
        (sym op) ∙ found) (ap (names_unfit judged.world of.class) (sym op) ∙ fit) in
        subst (IsDeclared judged.world) (sym c.5) d

    -- and has a token
    call_token : (k nargs : ℕ) (id : MemberId) → slice_get m.insns k ≡ Some (insns.Interface nargs id) → (t : ℕ)
        × (token_of judged.world (assigned applets judged.world) id ≡ Some t) × (t < 256)
    unfolding resolution
    call_token k nargs id e =
        let c = called of.mode refl k nargs id e in
        let one = of.one in
        let names = judged_names list files judged is in
        let there = is_there judged.world judged.codes names one.place of.code one.is_code of.class of.method of.tree
        one.is_method c.0 c.1 c.3 in
        let found = is_found judged.world judged.codes names one.place of.code one.is_code of.class of.method of.tree
        one.is_method c.0 c.1 c.3 in
        let fit = is_fit judged.world judged.codes names one.place of.code one.is_code of.class of.method of.tree
        one.is_method c.0 c.1 c.3 in
        let op = c.4 in
        let t = resolved_token judged.world (judged_acyclic list files judged is) of.class c.2
        (ap (names_missing (all_classes judged.world)) (sym op) ∙ there) (ap (names_unfound (all_classes judged.world))
        (sym op) ∙ found) (ap (names_unfit judged.world of.class) (sym op) ∙ fit)
        applets pooled.tokens (judged_writable list files judged is) in
        (t.0, ap (token_of judged.world (assigned applets judged.world)) c.5 ∙ t.1, t.2)

    -- ---- in either mode

    forms_by : (mode : Mode) → of.mode ≡ mode → (k : ℕ) (i : NInsn) → slice_get m.insns k ≡ Some i → HasForm i
    forms_by modes.Short short k i e = all_have_forms r (place_in r kept) kept k i (in_code short k i e)
    forms_by modes.Int int k i e =
        int_forms (int_frame (body_of of.class of.method of.tree of.code.insns))
        (resolution judged.world near of.class.name) of.tree (int_reached of.ranges 0 of.code.insns rows)
        (places_from 0 of.code.insns rows) k i (in_int_code int k i e)

    whole_by : (mode : Mode) → of.mode ≡ mode → IsWhole m
    whole_by modes.Short short = subst IsWhole (sym (is_short short)) (judged_whole list files judged is of.code
        of.class of.method of.tree of.table of.one near)
    whole_by modes.Int int = subst IsWhole (sym (is_int int)) (judged_int_whole list files judged is of.code of.class
        of.method of.tree of.table of.one near of.ranges)

  call_tokens : (id : MemberId) → is_called methods id ≡ true → (t : ℕ)
      × (token_of judged.world (assigned applets judged.world) id ≡ Some t) × (t < 256)
  call_tokens id e =
      let of_method = any_at (λ m. list_any (calls id) m.insns) methods e in
      let m = of_method.1 in
      let of_insn = any_at (calls id) m.insns of_method.3 in
      let call = call_of id of_insn.1 of_insn.3 in
      call_token m (pooled.each of_method.0 m of_method.2 of_insn.0 of_insn.1 of_insn.2) of_insn.0 call.0 id (of_insn.2
      ∙ ap Some call.1)

  pub calls_are_declared : (id : MemberId) → is_called methods id ≡ true → IsDeclared judged.world id
  calls_are_declared id e =
      let of_method = any_at (λ m. list_any (calls id) m.insns) methods e in
      let m = of_method.1 in
      let of_insn = any_at (calls id) m.insns of_method.3 in
      let call = call_of id of_insn.1 of_insn.3 in
      call_declared m (pooled.each of_method.0 m of_method.2 of_insn.0 of_insn.1 of_insn.2) of_insn.0 call.0 id
      (of_insn.2 ∙ ap Some call.1)

  pub calls_have_tokens : CallsHaveTokens judged.world (assigned applets judged.world) methods
  calls_have_tokens id e = let t = call_tokens id e in some_is _ t.0 t.1

  tokens_low : (id : MemberId) (t : ℕ) → token_in pool id ≡ Some t → t < 256
  tokens_low id t e = by (is_called methods id) refl (sym (pooled.is_pool.token id) ∙ e)
    where
      by : (b : Bool) → is_called methods id ≡ b → (if b then token_of judged.world (assigned applets judged.world) id
          else None) ≡ Some t → t < 256
      by false is e = cc
      by true is e = let found = call_tokens id is in let same : found.0 ≡ t = let both = sym found.1 ∙ e in cc
          in subst (λ k. k < 256) same found.2

  module _ (n : Naming) (named : IsNamedBy pool.keys (token_in pool) n) (at : ℕ) (m : NMethod)
      (there : slice_get methods at ≡ Some m) where
    abbrev of : (k : ℕ) (i : NInsn) → slice_get m.insns k ≡ Some i → IsSelected judged near m
    of k i e = pooled.each at m there k i e

    forms : (k : ℕ) (i : NInsn) → slice_get m.insns k ≡ Some i → HasForm i
    forms k i e = let o = of k i e in forms_by m o o.mode refl k i e

    names : (k : ℕ) (i : NInsn) → slice_get m.insns k ≡ Some i → HasNames pool.keys (token_in pool) i
    names k i e = names_there judged.world (assigned applets judged.world) methods pool pooled.is_pool calls_have_tokens
        i (record { method = m; at = at; place = k; is_method = there; is_insn = e })

    stay : (k : ℕ) (i : NInsn) → slice_get m.insns k ≡ Some i
        → NumbersFit (by_pool pool.keys (token_in pool) n named) i → NumbersFit n i
    stay k i e fit = numbers_fit pool.keys (token_in pool) n named i (names k i e) fit

    said_by : (mode : Mode) → m.widest ≤ 32767 → (k : ℕ) (i : NInsn) (e : slice_get m.insns k ≡ Some i)
        → (let o = of k i e in o.mode ≡ mode) → CanBeSaid n i
    said_by modes.Short few k i e short =
        let o = of k i e in
        let small = by_pool_small pool.keys (token_in pool) n named pooled.few tokens_low in
        let fit = selected_fit (by_pool pool.keys (token_in pool) n named) pool.keys small judged.world o.class o.method
        o.tree o.code.insns (rows_by (flags m o)) (up m o short) (said m o short) k i (in_code m o short k i e) in
        all_said n (r m o) (place_in (r m o) (kept m o)) (kept m o) (fits m o short few) k i (in_code m o short k i e)
        (stay k i e fit)
    said_by modes.Int few k i e int =
        let o = of k i e in
        said_in_int_mode m o int (by_pool pool.keys (token_in pool) n named) n
        (by_pool_small pool.keys (token_in pool) n named pooled.few tokens_low) few stay k i e

    can_be_said : m.widest ≤ 32767 → (k : ℕ) (i : NInsn) → slice_get m.insns k ≡ Some i → CanBeSaid n i
    can_be_said few k i e = let o = of k i e in said_by o.mode few k i e refl

    pub can_be_emitted : ((n : Naming) (m : NMethod) (l : Layout) (offset : ℕ) → IsLayout m l → l.length ≤ 32767
        → ((k : ℕ) (i : NInsn) → slice_get m.insns k ≡ Some i → HasForm i) → ((k : ℕ) (i : NInsn)
        → slice_get m.insns k ≡ Some i → CanBeSaid n i) → CanBeWritten n (placed_at offset m l.wide))
        → (l : Layout) → IsLayout m l → m.widest ≤ 32767 → IsEmittable pool.keys (token_in pool) n m l.wide
    can_be_emitted law l layout short =
        record {
          named = named;
          written = law n m l 0 layout (by m.insns refl) forms (can_be_said short);
          names = names;
        }
      where
        by : (insns : List NInsn) → m.insns ≡ insns → l.length ≤ 32767
        by [] e =
            let none : code_size m.insns l.wide ≡ 0 = ap (λ is. code_size is l.wide) e in
            let long = layout.length in
            omega (arith, none, long)
        by (i ∷ rest) e =
            let o = of 0 i (ap (λ is. slice_get is 0) e) in
            let whole : IsWhole m = whole_by m o o.mode refl in
            let size = all_wide m.insns l.wide (length m.insns) in
            let wide = whole.size in
            let long = layout.length in
            omega (arith, size, wide, long, short)
