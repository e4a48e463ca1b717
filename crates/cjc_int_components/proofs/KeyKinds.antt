-- What is named in int mode is of the kind that its opcode uses.
use Rattle.std.proofs.Common.{◌≡◌, ℕ, sym, ap, subst, ◌∙◌, Bool, true, List, [], ◌∷◌}
use Rattle.std.specs.Prelude.{slice_get}
use Rattle.cjc_int_narrow.specs.Bytes.declared.fault.MemberId.{MemberId}
use Rattle.cjc_int_narrow.specs.Script.Sorts.{Sort, field_sort}
use Rattle.cjc_int_narrow.specs.World.Files.{Files}
use Rattle.cjc_int_narrow.specs.Bytecode.declared.insn.JOp.{JOp}
use Rattle.cjc_ncode.specs.Written.{static_access}
use Rattle.cjc_ncode.specs.declared.narrow.NInsn.{NInsn}
use Rattle.cjc_ncode.specs.declared.narrow.NInsn.TheVariants as insns
use Rattle.cjc_ncode.specs.declared.narrow.PoolKey.TheVariants as keys
use Rattle.cjc_int_narrow.specs.LowerNarrow.Rows.Resolved.{resolution}
use Rattle.cjc_check_proof.proofs.PromisesLaws.KeyKinds.{code_has_kinds, static_suits, suits}
use Rattle.cjc_check_proof.specs.Code.Kinds.{HasKind}
use Rattle.cjc_int_narrow.specs.LowerIntProof.Operands.{names_nothing}
use Rattle.cjc_int_selection.specs.Names.{NamesAs, nothing, outside, static_field}
use Rattle.cjc_int_selection.proofs.Lone.{alone, lone, lone_written}

-- an instruction that names nothing
pub plain_kind : (i : NInsn) → names_nothing i ≡ true → HasKind i
plain_kind (insns.Op op) e = tt
plain_kind (insns.Push op value) e = tt
plain_kind (insns.Local op index) e = tt
plain_kind (insns.Inc op index by) e = tt
plain_kind (insns.Words op a b) e = tt
plain_kind (insns.Jump op target) e = tt
plain_kind (insns.Switch op other low cases) e = tt
plain_kind (insns.Named op key) e = absurd cc
plain_kind (insns.Interface nargs m) e = tt
plain_kind (insns.NewArray kind) e = tt
plain_kind (insns.TypeTest op kind class) e = tt

static_kind : (put : Bool) (sort : Sort) (f : MemberId) → HasKind (insns.Named (static_access put sort)
    (keys.StaticField f))
static_kind put sort f how is = ap (λ m. suits m (keys.StaticField f)) (sym is) ∙ static_suits put sort f

pub named_kind : (files : Files) (near : List MemberId) (holder : List ℕ) (op : JOp) (i : NInsn)
    → NamesAs (resolution files near holder) op i → HasKind i
named_kind files near holder op i (nothing e) = plain_kind i e
named_kind files near holder op i (static_field put f is_op _ is) =
    subst HasKind (sym is) (static_kind put (field_sort f.desc) (let r = resolution files near holder in r.field f))
named_kind files near holder op i (outside has k e) =
    let r = resolution files near holder in
    code_has_kinds files near holder alone (λ o. 0) (lone op ∷ []) k i
    (ap (λ xs. slice_get xs k) (lone_written r (λ o. 0) op) ∙ e)
