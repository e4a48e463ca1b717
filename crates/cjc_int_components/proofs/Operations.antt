-- The code of a package by modes names what its class files name.
use Rattle.std.proofs.Common.{◌≡◌, ℕ, zero, suc, ◌+◌, refl, sym, ap, ◌∙◌, Bool, true, false, List, [], ◌∷◌}
use Rattle.std.specs.Prelude.{Option, Some, None, slice_get}
use Rattle.cjc_int_narrow.specs.Bytes.declared.fault.MemberId.{MemberId}
use Rattle.cjc_int_narrow.specs.Bytecode.declared.insn.JInsn.{JInsn}
use Rattle.cjc_int_narrow.specs.Bytecode.declared.insn.JOp.TheVariants as jop
use Rattle.cjc_int_narrow.specs.Bytecode.declared.method_code.MethodCode.{MethodCode}
use Rattle.cjc_check_proof.specs.Types.declared.state.State.{State}
use Rattle.cjc_check_proof.specs.Intervals.Frames.{RangeState}
use Rattle.cjc_check_proof.specs.JvmSemantics.Linked.{Method}
use Rattle.cjc_check_proof.specs.JvmSemantics.OnePackage.{method_at}
use Rattle.cjc_check_proof.specs.LowerComponents.Package.{LaidMethod, Package, pool, world}
use Rattle.cjc_check_proof.specs.LowerList.Listed.{ListTree}
use Rattle.cjc_check_proof.specs.TokenProof.WrittenSends.Named.{CodeNamesAsWritten, NamesAsWritten, as_written}
use Rattle.cjc_check_proof.specs.TokenProof.WrittenSends.Named.{no_key}
use Rattle.cjc_check_proof.proofs.TokenProofWrittenSendsOperations.{selected_names}
use Rattle.cjc_ncode.specs.IntCode.IntCode.{Reached}
use Rattle.cjc_ncode.specs.PoolOrder.{insn_keys}
use Rattle.cjc_ncode.specs.Written.{Resolution, static_by, written}
use Rattle.cjc_ncode.specs.declared.narrow.NInsn.{NInsn}
use Rattle.cjc_ncode.specs.declared.narrow.NInsn.TheVariants as insns
use Rattle.cjc_ncode.specs.declared.narrow.NMethod.{NMethod}
use Rattle.cjc_ncode.specs.declared.narrow.PairRole.TheVariants.{Alone}
use Rattle.cjc_int_narrow.specs.LowerNarrow.Rows.Package.{flags_of, read_of, tree_of}
use Rattle.cjc_int_narrow.specs.LowerNarrow.Rows.Resolved.{constant_named, method_found, resolution}
use Rattle.cjc_int_narrow.specs.LowerNarrow.Rows.Selected.{near_fields}
use Rattle.cjc_int_narrow.specs.LowerIntMode.Written.{int_frame, places_from, reached_from}
use Rattle.cjc_int_narrow.specs.LowerIntMode.declared.modes.Mode.{Mode}
use Rattle.cjc_int_narrow.specs.LowerIntMode.declared.modes.Mode.TheVariants as modes
use Rattle.cjc_int_narrow.specs.LowerIntProof.Operands.{names_nothing}
use Rattle.cjc_int_components.specs.Modes.{Tables}
use Rattle.cjc_int_selection.specs.Names.{NamesAs, NamesAsOneOf, as_one, no_name, nothing, outside}
use Rattle.cjc_int_components.specs.Names.{PutsNoConstants}
use Rattle.cjc_int_selection.specs.Names.{static_field}
use Rattle.cjc_int_components.specs.Written.{IsPackageByModes, code_by_mode, code_in}
use Rattle.cjc_int_selection.proofs.Naming.{all_named}

-- ---- reached instructions

reached_insn : (ranges : List (Option RangeState)) (place : ℕ) (insns : List JInsn) (types : List (Option State))
    (k : ℕ) (i : Reached) → slice_get (reached_from ranges place insns types) k ≡ Some i → (j : ℕ)
    × (slice_get insns j ≡ Some i.insn)
reached_insn ranges place [] types k i e = absurd cc
reached_insn ranges place (n ∷ insns) [] k i e = absurd cc
reached_insn ranges place (n ∷ insns) (None ∷ types) k i e =
    let r = reached_insn ranges (place + 1) insns types k i e in (suc r.0, r.1)
reached_insn ranges place (n ∷ insns) (Some t ∷ types) zero i e =
    (0, ap (λ (o : Option Reached). reached_is o) e)
  where
    reached_is : Option Reached → Option JInsn
    reached_is None = None
    reached_is (Some r) = Some r.insn
reached_insn ranges place (n ∷ insns) (Some t ∷ types) (suc k) i e =
    let r = reached_insn ranges (place + 1) insns types k i e in (suc r.0, r.1)

-- ---- one instruction

no_keys : (i : NInsn) → names_nothing i ≡ true → insn_keys i ≡ []
no_keys (insns.Named op key) e = absurd cc
no_keys (insns.Interface nargs method) e = absurd cc
no_keys (insns.TypeTest op kind class) e = absurd cc
no_keys _ e = refl

module _ (r : Resolution) (all : List JInsn) (puts : (j : ℕ) (i : JInsn) (f : MemberId) → slice_get all j ≡ Some i
    → i.op ≡ jop.Static true f → r.constant f ≡ None) where
  one_named : (j : ℕ) (n : JInsn) → slice_get all j ≡ Some n → (i : NInsn) → NamesAs r n.op i → NamesAsWritten r all i
  one_named j n at i (nothing h) = no_key (no_keys i h)
  one_named j n at i (outside has k e) = as_written j k n Alone (λ o. 0) at e
  one_named j n at i (static_field put f is_op none is) =
      as_written j 0 n Alone (λ o. 0) at
      (ap (λ op. slice_get (written r (λ o. 0) op) 0) is_op
      ∙ ap (λ c. slice_get (static_by r put f c) 0) (by put is_op none)
      ∙ ap Some (sym is))
    where
      by : (put : Bool) → n.op ≡ jop.Static put f → (put ≡ false → r.constant f ≡ None) → r.constant f ≡ None
      by true e h = puts j n f at e
      by false e h = h refl

  all_written : (reached : List Reached) → ((k : ℕ) (i : Reached) → slice_get reached k ≡ Some i → (j : ℕ)
      × (slice_get all j ≡ Some i.insn)) → (i : NInsn) → NamesAsOneOf r reached i → NamesAsWritten r all i
  all_written reached there i (no_name h) = no_key (no_keys i h)
  all_written reached there i (as_one k n e h) = let at = there k n e in one_named at.0 n.insn at.1 i h

-- ---- a package

module _ (list : ListTree) (codes : List MethodCode) (t : Tables) (p : Package)
    (is : IsPackageByModes list p.files codes t p) (puts : PutsNoConstants p) where
  abbrev near : List MemberId
  near = near_fields (pool p)

  constant_is : (holder : List ℕ) (f : MemberId) → (resolution p.files near holder).constant f
      ≡ constant_named p.files (world p) f
  unfolding resolution
  constant_is holder f = refl

  module _ (k : ℕ) (m : LaidMethod) (at_m : slice_get p.methods k ≡ Some m) where
    by_mode : (from : Method) → method_at p.files m.member ≡ Some from → (mode : Mode) (j : ℕ) (i : NInsn)
        → slice_get (code_in p.files near t mode from).insns j ≡ Some i
        → NamesAsWritten (resolution p.files near from.id.class) from.insns i
    by_mode from some modes.Short j i e = selected_names p near t.types from j i e
    by_mode from some modes.Int j i e =
        let r = resolution p.files near from.id.class in
        let b = read_of from (flags_of (method_found (world p) from.id)) in
        let kept = reached_from (t.ranges from) 0 from.insns (t.types from) in
        all_written r from.insns
        (λ l n f there op. constant_is from.id.class f ∙ puts k m at_m from some l n f there op) kept (reached_insn
        (t.ranges from) 0 from.insns (t.types from)) i
        (all_named r (int_frame b) (tree_of from) kept (places_from 0 from.insns (t.types from)) j i e)

    code_is : (o : Option Method) → method_at p.files m.member ≡ o → m.code ≡ code_by_mode p.files near t m.member o
    code_is o e = let q = is.methods k m at_m in q.code ∙ ap (code_by_mode p.files near t m.member) e

    method_names : (j : ℕ) (i : NInsn) → slice_get m.code.insns j ≡ Some i → (from : Method)
        × (method_at p.files m.member ≡ Some from)
        × NamesAsWritten (resolution p.files near from.id.class) from.insns i
    method_names j i here = by (method_at p.files m.member) refl
      where
        by : (o : Option Method) → method_at p.files m.member ≡ o → (from : Method)
            × (method_at p.files m.member ≡ Some from)
            × NamesAsWritten (resolution p.files near from.id.class) from.insns i
        by None none =
            let never : None ≡ Some i = ap (λ (x : NMethod). slice_get x.insns j) (sym (code_is None none)) ∙ here in
            absurd cc
        by (Some from) some = (
          from,
          some,
          by_mode from some (t.mode from) j i
              (ap (λ (x : NMethod). slice_get x.insns j) (sym (code_is (Some from) some)) ∙ here),
        )

  pub names_by_modes : CodeNamesAsWritten p near
  names_by_modes = method_names
