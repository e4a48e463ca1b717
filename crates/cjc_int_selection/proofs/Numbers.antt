-- The indices, words and tokens of what is named in int mode fit their operands.
use Rattle.std.proofs.Common.{◌≡◌, ℕ, zero, suc, ◌<◌, ◌≤◌, arith, refl, sym, ap, subst, ◌∙◌, Bool, true, false, List}
use Rattle.std.proofs.Common.{[], ◌∷◌, length}
use Rattle.std.specs.Prelude.{Option, Some, None, slice_get, unwrap_or}
use Rattle.std.proofs.lemmas.List.Quantifiers.{position-Some}
use Rattle.cjc_ncode.specs.LowerCapRead.Opcodes.{Fields, Index2, form, forms}
use Rattle.cjc_int_narrow.specs.Bytecode.declared.insn.JInsn.{JInsn}
use Rattle.cjc_int_narrow.specs.Bytecode.declared.insn.JOp.{JOp}
use Rattle.cjc_int_narrow.specs.Bytecode.declared.insn.JOp.TheVariants as jop
use Rattle.cjc_int_narrow.specs.Script.Sorts.{Sort, Boolean, Byte, Short, Int, Reference, NoValue, field_sort}
use Rattle.cjc_int_narrow.specs.ClassFile.Code.{CodeTree}
use Rattle.cjc_int_narrow.specs.World.Files.{Files}
use Rattle.cjc_ncode.specs.Lowering.Naming.{Naming}
use Rattle.cjc_ncode.specs.PoolOrder.{same_key}
use Rattle.cjc_ncode.specs.IntCode.IntCode.{Frame, Reached, int_method}
use Rattle.cjc_ncode.specs.Written.{Access, accessed, static_access}
use Rattle.cjc_ncode.specs.declared.narrow.NInsn.{NInsn}
use Rattle.cjc_ncode.specs.declared.narrow.NInsn.TheVariants as insns
use Rattle.cjc_ncode.specs.declared.narrow.PairRole.TheVariants.{Alone, Closes}
use Rattle.cjc_ncode.specs.declared.narrow.PoolKey.{PoolKey}
use Rattle.cjc_ncode.specs.declared.narrow.PoolKey.TheVariants as keys
use Rattle.cjc_int_narrow.specs.LowerNarrow.Keys.Index.{index_of}
use Rattle.cjc_int_narrow.specs.LowerNarrow.Rows.Resolved.{resolution}
use Rattle.cjc_int_narrow.specs.LowerNarrow.Rows.Selected.{near_fields}
use Rattle.cjc_int_narrow.specs.LowerNarrow.Written.Operands.{CanBeSaid}
use Rattle.cjc_narrow_proof.proofs.SelectedLaws.Numbers.{all_fit}
use Rattle.cjc_narrow_proof.specs.Selected.Operands.{IndexFits, IsSmall, NumbersFit, OperandsFit}
use Rattle.cjc_int_narrow.specs.LowerIntProof.Operands.{names_nothing}
use Rattle.cjc_int_selection.specs.Names.{NamesAs, NamesAsOneOf, WordsFit, as_one, has_name, no_name, nothing}
use Rattle.cjc_int_selection.specs.Names.{outside, static_field}
use Rattle.cjc_int_selection.proofs.Lone.{alone, lone, lone_written}
use Rattle.cjc_int_selection.proofs.Naming.{all_named}

-- ---- an instruction that names nothing

plain_fits : (n : Naming) (i : NInsn) → names_nothing i ≡ true → NumbersFit n i
plain_fits n (insns.Op op) e = tt
plain_fits n (insns.Push op value) e = tt
plain_fits n (insns.Local op index) e = tt
plain_fits n (insns.Inc op index by) e = tt
plain_fits n (insns.Words op a b) e = tt
plain_fits n (insns.Jump op target) e = tt
plain_fits n (insns.Switch op other low cases) e = tt
plain_fits n (insns.Named op key) e = absurd cc
plain_fits n (insns.Interface nargs m) e = absurd cc
plain_fits n (insns.NewArray kind) e = tt
plain_fits n (insns.TypeTest op kind class) e = absurd cc

-- ---- static fields

-- a static field has an index of two bytes
pub static_form : (put : Bool) (sort : Sort) → form (static_access put sort) ≡ Some (Fields (Index2 ∷ []))
unfolding form forms
static_form true Boolean = refl
static_form true Byte = refl
static_form true Short = refl
static_form true Int = refl
static_form true (Reference shape) = refl
static_form true NoValue = refl
static_form false Boolean = refl
static_form false Byte = refl
static_form false Short = refl
static_form false Int = refl
static_form false (Reference shape) = refl
static_form false NoValue = refl

-- ---- what is written outside int mode

said_by : (op : JOp) → has_name op ≡ true → WordsFit op → CanBeSaid op
said_by (jop.Call op m) has fit = fit
said_by (jop.Static put f) has fit = tt
said_by (jop.Field put f) has fit = tt
said_by (jop.New c) has fit = tt
said_by (jop.ANewArray c) has fit = tt
said_by (jop.CheckCast c) has fit = tt
said_by (jop.InstanceOf c) has fit = tt
said_by jop.Nop has fit = absurd cc
said_by jop.Null has fit = absurd cc
said_by (jop.Number z) has fit = absurd cc
said_by (jop.Load refs l) has fit = absurd cc
said_by (jop.Store refs l) has fit = absurd cc
said_by (jop.ArrayLoad op) has fit = absurd cc
said_by (jop.ArrayStore op) has fit = absurd cc
said_by (jop.Stack op) has fit = absurd cc
said_by (jop.Arith op) has fit = absurd cc
said_by (jop.Inc l by) has fit = absurd cc
said_by (jop.Narrow op) has fit = absurd cc
said_by (jop.If op target) has fit = absurd cc
said_by (jop.Goto target) has fit = absurd cc
said_by (jop.TableSwitch other low targets) has fit = absurd cc
said_by (jop.LookupSwitch other cases) has fit = absurd cc
said_by (jop.Return op) has fit = absurd cc
said_by (jop.NewArray kind) has fit = absurd cc
said_by jop.ArrayLength has fit = absurd cc
said_by jop.Throw has fit = absurd cc

-- the operands of an instruction that names something are named
pub operands_by : (op : JOp) → has_name op ≡ true → OperandsFit op
operands_by (jop.Call op m) has = tt
operands_by (jop.Static put f) has = tt
operands_by (jop.Field put f) has = tt
operands_by (jop.New c) has = tt
operands_by (jop.ANewArray c) has = tt
operands_by (jop.CheckCast c) has = tt
operands_by (jop.InstanceOf c) has = tt
operands_by jop.Nop has = absurd cc
operands_by jop.Null has = absurd cc
operands_by (jop.Number z) has = absurd cc
operands_by (jop.Load refs l) has = absurd cc
operands_by (jop.Store refs l) has = absurd cc
operands_by (jop.ArrayLoad op) has = absurd cc
operands_by (jop.ArrayStore op) has = absurd cc
operands_by (jop.Stack op) has = absurd cc
operands_by (jop.Arith op) has = absurd cc
operands_by (jop.Inc l by) has = absurd cc
operands_by (jop.Narrow op) has = absurd cc
operands_by (jop.If op target) has = absurd cc
operands_by (jop.Goto target) has = absurd cc
operands_by (jop.TableSwitch other low targets) has = absurd cc
operands_by (jop.LookupSwitch other cases) has = absurd cc
operands_by (jop.Return op) has = absurd cc
operands_by (jop.NewArray kind) has = absurd cc
operands_by jop.ArrayLength has = absurd cc
operands_by jop.Throw has = absurd cc

-- what holds of the one of a list
pub of_lone : (P : JInsn → Type 0) (op : JOp) → P (lone op) → (k : ℕ) (i : JInsn) → slice_get (lone op ∷ []) k
    ≡ Some i → P i
of_lone P op h zero i e = let same : lone op ≡ i = cc in subst P same h
of_lone P op h (suc k) i e = absurd cc

module _ (n : Naming) (ks : List PoolKey) (small : IsSmall n ks) where
  index_low : (key : PoolKey) → n.index key < 65536
  index_low key = go (index_of ks key) refl
    where
      few : length ks ≤ 16383
      few = small.few

      go : (o : Option ℕ) → index_of ks key ≡ o → n.index key < 65536
      go None e = let is : n.index key ≡ 0 = small.index key ∙ ap (λ o. unwrap_or o 0) e in omega (arith, is)
      go (Some i) e =
          let is : n.index key ≡ i = small.index key ∙ ap (λ o. unwrap_or o 0) e in
          let within = (position-Some (same_key key) ks i key e).0 in
          let most = few in
          omega (arith, is, within, most)

  pub named_fit : (files : Files) (holder : List ℕ) (op : JOp) (i : NInsn)
      → NamesAs (resolution files (near_fields ks) holder) op i → WordsFit op → NumbersFit n i
  named_fit files holder op i (nothing e) words = plain_fits n i e
  named_fit files holder op i (static_field put f is_op _ is) words =
      let key = keys.StaticField (let r = resolution files (near_fields ks) holder in r.field f) in
      subst (NumbersFit n) (sym is) (subst (λ g. IndexFits g (n.index key)) (sym (static_form put (field_sort f.desc)))
      (index_low key))
  named_fit files holder op i (outside has k e) words =
      let r = resolution files (near_fields ks) holder in
      all_fit n ks small files holder (λ o. 0) alone (lone op ∷ [])
      (of_lone (λ j. CanBeSaid j.op × (Alone ≡ Closes → (a : Access) → accessed j.op ≡ Some a
      → r.is_near a.field ≡ true)) op (said_by op has words, λ closes a g. absurd cc)) k i
      (ap (λ xs. slice_get xs k) (lone_written r (λ o. 0) op) ∙ e)

  one_fits : (files : Files) (holder : List ℕ) (reached : List Reached) (i : NInsn)
      → NamesAsOneOf (resolution files (near_fields ks) holder) reached i
      → ((k : ℕ) (j : Reached) → slice_get reached k ≡ Some j → WordsFit (let m = j.insn in m.op)) → NumbersFit n i
  one_fits files holder reached i (no_name e) words = plain_fits n i e
  one_fits files holder reached i (as_one k j is h) words = named_fit files holder (let m = j.insn in m.op) i h
      (words k j is)

  pub int_numbers_fit : (files : Files) (holder : List ℕ) (f : Frame) (code : CodeTree) (reached : List Reached)
      (places : List ℕ) → ((k : ℕ) (j : Reached) → slice_get reached k ≡ Some j → WordsFit (let m = j.insn in m.op))
      → (k : ℕ) (i : NInsn) → (let m = int_method f (resolution files (near_fields ks) holder) code reached places
      in slice_get m.insns k ≡ Some i) → NumbersFit n i
  int_numbers_fit files holder f code reached places words k i e =
      one_fits files holder reached i
      (all_named (resolution files (near_fields ks) holder) f code reached places k i e) words
