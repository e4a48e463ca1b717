-- What is written for a reached instruction of a method in int mode stands in Method, so the pool holds what it names.
use Rattle.std.proofs.Common.{◌≡◌, ℕ, zero, suc, ◌+◌, ap, ◌∙◌, List, [], ◌∷◌, ◌++◌}
use Rattle.std.proofs.Common.{length, slice_get, Option, Some, None}
use Rattle.std.specs.Prelude.{get_or}
use Rattle.cjc_types.specs.Bytecode.declared.insn.JInsn.{JInsn}
use Rattle.cjc_types.specs.Bytecode.declared.insn.JOp.{JOp}
use Rattle.cjc_types.specs.Bytecode.declared.method_code.MethodCode.{MethodCode}
use Rattle.cjc_types.specs.Bytes.declared.fault.MemberId.{MemberId}
use Rattle.cjc_types.specs.Fixpoint.Tables.{HasRow}
use Rattle.cjc_types.specs.declared.state.State.{State}
use Rattle.cjc_ncode.specs.Written.{Resolution, call_by}
use Rattle.cjc_ncode.specs.IntCode.IntCode.{Before, Frame, Reached, called_with, handed_over, prologue}
use Rattle.cjc_ncode.specs.IntCode.IntCode.{widened_result, written, written_from}
use Rattle.cjc_ncode.specs.declared.narrow.NInsn.{NInsn}
use Rattle.cjc_ncode.specs.declared.narrow.NMethod.{NMethod}
use Rattle.cjc_shape_proof.specs.LowerIntPackage.LowerIntMode.Written.{before, int_frame, reached_from}
use Rattle.cjc_int_components.specs.Modes.{Tables}
use Rattle.cjc_verified_proof.proofs.BytesGets.{get_behind, in_front}
use Rattle.cjc_verified_proof.proofs.BytesPlain.{same_some}
use Rattle.cjc_verified_proof.specs.NCode.Lowering.Naming.{Holds}
use Rattle.cjc_verified_proof.specs.NCode.PoolOrder.{insn_keys}
use Rattle.cjc_verified_proof.specs.NCode.declared.narrow.PoolKey.{PoolKey}
use Rattle.cjc_verified_proof.specs.Script.Sorts.{Signature}
use Rattle.cjc_verified_proof.specs.TokenProof.Tables.Loading.{naming}
use Rattle.cjc_verify.specs.Components.Package.{Package}
use Rattle.cjc_int_accepted.specs.Selection.{label_in}
use Rattle.cjc_int_alike.proofs.Written.{reached_there}
use Rattle.cjc_theorem.proofs.AlikeLaws.NamedLaws.Means.{insn_held}
use Rattle.cjc_accepted_modes.specs.InIntMode.{IntMethod, IsInIntMode, body_by_name, names_in, ranges_in, types_in}

-- one of these instructions has this key alone
abbrev pub NamesKey : List NInsn → PoolKey → Type 0
NamesKey insns key = (l : ℕ) × (insn : NInsn) × (slice_get insns l ≡ Some insn) × (insn_keys insn ≡ key ∷ [])

pub key_behind : (xs ys : List NInsn) (key : PoolKey) → NamesKey ys key → NamesKey (xs ++ ys) key
key_behind xs ys key n = (length xs + n.0, n.1, get_behind xs ys n.0 ∙ n.2, n.3)

pub key_in_front : (xs ys : List NInsn) (key : PoolKey) → NamesKey xs key → NamesKey (xs ++ ys) key
key_in_front xs ys key n = (n.0, n.1, in_front xs ys n.0 n.1 n.2, n.3)

-- a call's instruction stands between what hands its arguments over and what widens its result
pub call_key : (f : Frame) (r : Resolution) (op : ℕ) (id : MemberId) (o : Option Signature) (key : PoolKey)
    → NamesKey (call_by r op id) key → NamesKey (called_with f r op id o) key
call_key f r op id None key n = n
call_key f r op id (Some types) key n = key_in_front (handed_over f types.params ++ call_by r op id) (widened_result
    types.result) key (key_behind (handed_over f types.params) (call_by r op id) key n)

-- ---- reached instructions

-- one of those that are reached, where what is written for it begins
written_there : (f : Frame) (r : Resolution) (place : ℕ → ℕ) (here : ℕ) (reached : List Reached) (k : ℕ) (i : Reached)
    → slice_get reached k ≡ Some i → (start : ℕ) × ((key : PoolKey) → NamesKey (written f r place i.before start
    (let j = i.insn in j.op)) key → NamesKey (written_from f r place here reached) key)
written_there f r place here [] k i e = absurd cc
written_there f r place here (x ∷ reached) zero i e =
    let text = λ (v : Reached). written f r place v.before here (let j = v.insn in j.op) in (
      here,
      λ key n. key_in_front (text x) (written_from f r place (here + length (text x)) reached) key (
        n.0,
        n.1,
        ap (λ (v : Reached). slice_get (text v) n.0) (same_some e) ∙ n.2,
        n.3,
      ),
    )
written_there f r place here (x ∷ reached) (suc k) i e =
    let text = written f r place x.before here (let j = x.insn in j.op) in
    let rest = written_there f r place (here + length text) reached k i e in (
      rest.0,
      λ key n. key_behind text (written_from f r place (here + length text) reached) key (rest.1 key n),
    )

-- ---- a method in int mode

module _ (p : Package) (t : Tables) (m : IntMethod) where
  abbrev pub frame : Frame
  frame = int_frame (body_by_name m)

  abbrev pub label : ℕ → ℕ
  label = label_in (names_in p m) (body_by_name m) (types_in t m) (ranges_in t m)

  -- what is written for an instruction
  abbrev pub text : Before → (here : ℕ) → JOp → List NInsn
  text known here op = written frame (names_in p m) label known here op

  -- the pool holds what is named in it
  abbrev pub Holding : List NInsn → Type 0
  Holding insns = (key : PoolKey) → NamesKey insns key → Holds (naming p) key

  abbrev reached : List Reached
  reached = reached_from (ranges_in t m) 0 (let code = m.code in code.insns) (types_in t m)

  module _ (codes : List MethodCode) (k : ℕ) (b : IsInIntMode p t m codes k) where
    whole : Holding (let laid = m.laid in let code = laid.code in code.insns)
    whole key n = insn_held p k m.laid b.is_laid n.0 n.1 n.2 key n.3

    placed : Holding (written_from frame (names_in p m) label (length (prologue frame)) reached)
    placed key n =
        let all = key_behind (prologue frame) (written_from frame (names_in p m) label (length (prologue frame))
        reached) key n in
        whole key (all.0, all.1, ap (λ (c : NMethod). slice_get c.insns all.0) b.written ∙ all.2, all.3)

    -- So it does of each reached instruction.
    pub held : (at : ℕ) (i : JInsn) (x : State) → (let code = m.code in slice_get code.insns at ≡ Some i)
        → HasRow (types_in t m) at x → (known : Before) × (here : ℕ) × Holding (text known here i.op)
    held at i x there row =
        let kept = reached_there (ranges_in t m) 0 (let code = m.code in code.insns) (types_in t m) at i x there row in
        let known = before i.op x (get_or (ranges_in t m) (0 + at) None) in
        let one : Reached = record { insn = i; before = known } in
        let here = written_there frame (names_in p m) label (length (prologue frame)) reached kept.0 one kept.1 in
        (known, here.0, λ key n. placed key (here.1 key n))
