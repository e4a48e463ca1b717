-- A package each method of which is in int mode or not: what is asked of each reached instruction, and of entries and
-- exceptions, so that whole runs agree. Between methods values go by their types, whatever the modes are.
use Rattle.std.specs.Prelude.{◌≡◌, ℕ, ◌+◌, List, [], ◌∷◌, ◌++◌, Option, Some, None, Bool, true}
use Rattle.std.specs.Prelude.{slice_get}
use Rattle.cjc_script.specs.Bytes.declared.fault.MemberId.{MemberId}
use Rattle.cjc_range.specs.Span.{Span, Within}
use Rattle.cjc_int_proof.specs.Bytecode.declared.insn.JInsn.{JInsn}
use Rattle.cjc_script.specs.declared.value.Value.{Value}
use Rattle.cjc_script.specs.Sorts.{Shape, OfClass, Sort, Int, Reference, Signature, signature_of}
use Rattle.cjc_card_semantics.specs.Bytecode.Effects as narrow
use Rattle.cjc_ncode.specs.declared.narrow.NInsn.{NInsn}
use Rattle.cjc_ncode.specs.ByLabel.{Callee, Named}
use Rattle.cjc_ncode.specs.IntCode.IntCode.{is_short}
use Rattle.cjc_jvm_semantics.specs.Linked.{Method, Linked}
use Rattle.cjc_jvm_semantics.specs.Effects.{Store}
use Rattle.cjc_jvm_semantics.specs.Effects as by_name
use Rattle.cjc_narrow_proof.specs.Selection.Acts.{ActsAlike}
use Rattle.cjc_narrow_proof.specs.Selection.Jumps.{Returns}
use Rattle.cjc_narrow_proof.specs.Selection.Objects.{class_of}
use Rattle.cjc_narrow_proof.specs.Selection.Relation.{Kind, Range, Refers, NMemory, Stacks, Stores}
use Rattle.cjc_narrow_proof.specs.Selection.Replies.{ThrowsAlike, may_be_thrown, result_kinds}
use Rattle.cjc_narrow_proof.specs.Selection.Rows.{HasRoom}
use Rattle.cjc_narrow_proof.specs.Selection.Runs.{IsWithin, Rule, IsAtPlace, narrow_effect, named_effect}
use Rattle.cjc_narrow_proof.specs.Selection.Tables.{Point, Table, MayRaise, code_of, spot, Arrives, Catches}
use Rattle.cjc_int_runs.specs.Calls.{onto}
use Rattle.cjc_int_runs.specs.IntFrames.{IntBody, StandsByMode}
use Rattle.cjc_int_runs.specs.Modes.{CallReaches, below_params}
use Rattle.cjc_int_runs.specs.Relation.{type_range}
use Rattle.cjc_int_runs.specs.Scripted.{IsScripted}
use Rattle.cjc_int_runs.specs.Typed.{IntMethodIsWritten}

-- ---- methods that are not in int mode

-- One word each: numbers of its interval are passed for a type of one word, and references for a class or array.
pub data PassesWords : List Sort → List Kind → Type 0 where
  no_parameter : PassesWords [] []
  a_number_word : {sort : Sort} {s : Span} {sorts : List Sort} {ks : List Kind} → is_short sort ≡ true
      → Within s (type_range sort) → PassesWords sorts ks → PassesWords (sort ∷ sorts) (Range s ∷ ks)
  a_reference_word : {shape : Shape (List ℕ)} {within : Shape (List ℕ) → Bool} {sorts : List Sort} {ks : List Kind}
      → PassesWords sorts ks → PassesWords (Reference shape ∷ sorts) (Refers within ∷ ks)

-- a result of these cells is of the type of the method's result, which is one word
pub data WordFits (l : Named) : Option Sort → List Kind → Type 0 where
  no_value_given : WordFits l None []
  a_word_given : {sort : Sort} {s : Span} → is_short sort ≡ true → Within s (type_range sort)
      → WordFits l (Some sort) (Range s ∷ [])
  a_reference_given : {shape : Shape (List ℕ)} {within : Shape (List ℕ) → Bool} → ((of : Shape (List ℕ))
      → within of ≡ true → l.is_of of shape ≡ true) → WordFits l (Some (Reference shape)) (Refers within ∷ [])

module _ (by : Linked) (l : Named) (tb : Table) (bodies : Method → Option IntBody) (results : Method → Option Sort)
  where
    -- What both machines do at an instruction of a method that is not in int mode.
    pub data ShortRule (m : Method) (at : ℕ) (p : Point) (i : JInsn) : Type 0 where
      -- as where no method is in int mode
      within_frame : (r : Rule by l tb m at p i) → IsWithin r → ShortRule m at p i
      -- both return a value of the method's type
      gives : (insn : NInsn) (kinds : List Kind) → IsAtPlace by l tb m at p i insn (spot tb m at)
          → ((locals words : List (Option Value)) (store : Store) (memory : NMemory) (vs ws : List Value)
          → Stacks memory.heap p.stack vs ws → Returns memory.heap kinds (named_effect by l tb m at p i locals store vs)
          (narrow_effect by l tb m at p i insn (spot tb m at + 1) words memory ws)) → WordFits l (results m) kinds
          → ShortRule m at p i
      -- both call, and go on behind the call with a result
      calls_out : (op : ℕ) (id : MemberId) (callee : Callee) (types : Signature) (params ks : List Kind)
          (receiver : Option (Shape (List ℕ) → Bool)) (insn : NInsn) → signature_of id.desc ≡ Some types
          → p.stack ≡ onto params (below_params receiver ks) → PassesWords types.params params
          → IsAtPlace by l tb m at p i insn (spot tb m at)
          → ((cells : List (Option Value)) (store : Store) (vs : List Value) → named_effect by l tb m at p i cells store
          vs ≡ by_name.Invoke op id)
          → ((words : List (Option Value)) (memory : NMemory) (ws : List Value)
          → narrow_effect by l tb m at p i insn (spot tb m at + 1) words memory ws ≡ narrow.Invoke callee)
          → (types.result ≡ Some Int → ⊥)
          → Arrives tb m (at + 1) (spot tb m at + 1) (result_kinds l types.result ++ ks) p.locals
          → HasRoom (result_kinds l types.result ++ ks) m.max_stack (let code = code_of tb m in code.max_stack)
          → Catches by l tb m at p.locals
          → CallReaches by l (StandsByMode l tb bodies) results tb.narrowed tb.may_throw (class_of m) op id callee types
          params receiver → ShortRule m at p i

    -- ---- a package

    -- Methods in int mode are written, with enough known before each instruction; each reached instruction of others
    -- keeps its rule; what a script names is found alike and begins alike; and acts, answers, exceptions and the first
    -- state are alike.
    pub record PackageIsFine : Type 0 where
      pub int_methods : (m : Method) (b : IntBody) → bodies m ≡ Some b
          → IntMethodIsWritten by l (StandsByMode l tb bodies) results tb.narrowed tb.may_throw b m
      pub short_methods : (m : Method) → bodies m ≡ None → (at : ℕ) (p : Point) → tb.point m at ≡ Some p
          → (i : JInsn) × ((slice_get m.insns at ≡ Some i) × ShortRule m at p i)
      pub scripted : (id : MemberId) → IsScripted by l (StandsByMode l tb bodies) results tb.narrowed tb.may_throw id
      pub exceptions : MayRaise l tb
      pub acts : ActsAlike by l
      pub throws : (class : List ℕ) → ThrowsAlike by l class
      pub may_answer : (class : List ℕ) → may_be_thrown by class ≡ true → tb.may_throw (OfClass class) ≡ true
      pub starts : Stores l (record { heap = by.heap; statics = by.statics }) l.memory
