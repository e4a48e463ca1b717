-- Rows, jumps, what is not written, switches and returns keep their rules.
use Rattle.std.proofs.Common.{◌≡◌, ℕ, ◌+◌, ◌<◌, subst, List, [], ◌∷◌, ◌++◌}
use Rattle.std.specs.Prelude.{Option, Some, slice_get}
use Rattle.std.specs.List.{Contains}
use Rattle.cjc_code.specs.declared.insn.JInsn.{JInsn}
use Rattle.cjc_script.specs.declared.value.Value.{Value}
use Rattle.cjc_ncode.specs.declared.narrow.NInsn.{NInsn}
use Rattle.cjc_ncode.specs.Written.{written}
use Rattle.cjc_ncode.specs.ByLabel.{Named}
use Rattle.cjc_jvm_semantics.specs.Linked.{Method, Linked}
use Rattle.cjc_jvm_semantics.specs.Effects.{Store, place}
use Rattle.cjc_jvm_semantics.specs.Effects as by_name
use Rattle.cjc_narrow_proof.specs.Selection.Relation.{Kind, Stacks, AllWider}
use Rattle.cjc_narrow_proof.specs.Selection.Rows.{HasRoom, RowAgrees, RowOnLocals, IsNotWritten}
use Rattle.cjc_narrow_proof.specs.Selection.Jumps.{JumpAgrees, ReturnAgrees}
use Rattle.cjc_narrow_proof.specs.Selection.Switches.{TwoAgree}
use Rattle.cjc_narrow_proof.specs.Selection.Tables.{Point, Table, code_of, written_place, spot, Arrives, Catches}
use Rattle.cjc_narrow_proof.proofs.SelectionLaws.Whole.{comes}
use Rattle.cjc_narrow_proof.specs.Selection.Runs.{Falls, Rule, RuleWithin, does, jumps, goes_on, jumps_in_two}
use Rattle.cjc_narrow_proof.specs.Selection.Runs.{returns}

pub row_rule : (by : Linked) (l : Named) (tb : Table) (m : Method) (at : ℕ) (p : Point) (i : JInsn) (before after ks :
    List Kind) (insn : NInsn) → written (tb.resolution m) (written_place tb m) i.op ≡ insn ∷ []
    → slice_get (let code = code_of tb m in code.insns) (spot tb m at) ≡ Some insn
    → RowAgrees by l (tb.resolution m) m i.op before after → p.stack ≡ before ++ ks
    → HasRoom (after ++ ks) m.max_stack (let code = code_of tb m in code.max_stack)
    → ((locals : List (Option Value)) (store : Store) (vs : List Value) (object : ℕ)
    → by_name.effect by m at locals store i.op vs ≡ by_name.Toss object → ⊥)
    → Arrives tb m (at + 1) (spot tb m at + 1) (after ++ ks) p.locals → Catches by l tb m at p.locals
    → RuleWithin by l tb m at p i
row_rule by l tb m at p i before after ks insn is_written there row is room never arrives catches =
    record {
      rule = does insn (after ++ ks) p.locals there (λ locals words store memory vs ws stores held stack owns. row
          (written_place tb m) insn is_written (let code = code_of tb m in code.max_stack) at (spot tb m at + 1) ks
          p.locals vs ws locals words store memory room stores held (subst (λ kinds. Stacks memory.heap kinds vs ws) is
          stack)) never (λ locals after words wafter store new memory grown vs stack ws wstack owns e f. comes by l tb
          stack wafter arrives) catches;
      is_within = tt;
    }

pub on_locals_rule : (by : Linked) (l : Named) (tb : Table) (m : Method) (at : ℕ) (p : Point) (i : JInsn)
    (before after js ks : List Kind) (insn : NInsn) → written (tb.resolution m) (written_place tb m) i.op ≡ insn ∷ []
    → slice_get (let code = code_of tb m in code.insns) (spot tb m at) ≡ Some insn
    → RowOnLocals by l (tb.resolution m) m i.op before after p.locals js → p.stack ≡ before ++ ks
    → HasRoom (after ++ ks) m.max_stack (let code = code_of tb m in code.max_stack)
    → ((locals : List (Option Value)) (store : Store) (vs : List Value) (object : ℕ)
    → by_name.effect by m at locals store i.op vs ≡ by_name.Toss object → ⊥)
    → Arrives tb m (at + 1) (spot tb m at + 1) (after ++ ks) js → Catches by l tb m at p.locals → RuleWithin by l tb m
    at p i
on_locals_rule by l tb m at p i before after js ks insn is_written there row is room never arrives catches =
    record {
      rule = does insn (after ++ ks) js there (λ locals words store memory vs ws stores held stack owns. row
          (written_place tb m) insn is_written (let code = code_of tb m in code.max_stack) at (spot tb m at + 1) ks vs
          ws locals words store memory room stores held (subst (λ kinds. Stacks memory.heap kinds vs ws) is stack))
          never
          (λ locals after words wafter store new memory grown vs stack ws wstack owns e f. comes by l tb stack wafter
          arrives) catches;
      is_within = tt;
    }

pub jump_rule : (by : Linked) (l : Named) (tb : Table) (m : Method) (at : ℕ) (p : Point) (i : JInsn)
    (before ks : List Kind) (offsets : List ℕ) (insn : NInsn) → written (tb.resolution m) (written_place tb m) i.op
    ≡ insn ∷ [] → slice_get (let code = code_of tb m in code.insns) (spot tb m at) ≡ Some insn
    → JumpAgrees by l (tb.resolution m) m i.op before offsets → p.stack ≡ before ++ ks
    → ((offset : ℕ) → Contains offsets offset → Arrives tb m (place m.insns offset) (written_place tb m offset) ks
    p.locals) → Falls by l tb m at p i (spot tb m at + 1) ks p.locals → RuleWithin by l tb m at p i
jump_rule by l tb m at p i before ks offsets insn is_written there jump is arrives behind =
    record {
      rule = jumps insn ks p.locals offsets there (λ locals words store memory vs ws stores held stack. jump
          (written_place tb m)
          insn is_written (let code = code_of tb m in code.max_stack) at (spot tb m at + 1) ks p.locals vs ws locals
          words
          store memory stores held (subst (λ kinds. Stacks memory.heap kinds vs ws) is stack)) arrives behind;
      is_within = tt;
    }

pub not_written_rule : (by : Linked) (l : Named) (tb : Table) (m : Method) (at : ℕ) (p : Point) (i : JInsn)
    (before after ks : List Kind) → IsNotWritten by (tb.resolution m) m i.op before after → p.stack ≡ before ++ ks
    → Arrives tb m (at + 1) (spot tb m at) (after ++ ks) p.locals → at < 65534 → RuleWithin by l tb m at p i
not_written_rule by l tb m at p i before after ks not_written is arrives low =
    record {
      rule = goes_on (after ++ ks) (λ locals words store memory vs ws held stack owns. (let on = not_written.does at ks
          vs ws
          locals store memory (subst (λ kinds. Stacks memory.heap kinds vs ws) is stack)
          in record { on = on; comes = comes by l tb on.stack words arrives })) low;
      is_within = tt;
    }

pub two_rule : (by : Linked) (l : Named) (tb : Table) (m : Method) (at : ℕ) (p : Point) (i : JInsn)
    (before ks : List Kind) (offsets : List ℕ) (insn second : NInsn) → written (tb.resolution m) (written_place tb m)
    i.op ≡ insn ∷ second ∷ [] → slice_get (let code = code_of tb m in code.insns) (spot tb m at) ≡ Some insn
    → slice_get (let code = code_of tb m in code.insns) (spot tb m at + 1) ≡ Some second
    → TwoAgree by l (tb.resolution m) m i.op before offsets → p.stack ≡ before ++ ks
    → ((offset : ℕ) → Contains offsets offset → Arrives tb m (place m.insns offset) (written_place tb m offset) ks
    p.locals) → Falls by l tb m at p i (spot tb m at + 1 + 1) ks p.locals → RuleWithin by l tb m at p i
two_rule by l tb m at p i before ks offsets insn second is_written there behind_it two is arrives behind =
    record {
      rule = jumps_in_two insn second ks p.locals offsets there behind_it (λ locals words store memory vs ws stores held
          stack.
          two (written_place tb m) insn second is_written (let code = code_of tb m in code.max_stack) at
          (spot tb m at + 1) (spot tb m at + 1 + 1) ks p.locals vs ws locals words store memory stores held
          (subst (λ kinds. Stacks memory.heap kinds vs ws) is stack)) arrives behind;
      is_within = tt;
    }

pub return_rule : (by : Linked) (l : Named) (tb : Table) (m : Method) (at : ℕ) (p : Point) (i : JInsn)
    (before ks : List Kind) (insn : NInsn) → written (tb.resolution m) (written_place tb m) i.op ≡ insn ∷ []
    → slice_get (let code = code_of tb m in code.insns) (spot tb m at) ≡ Some insn
    → ReturnAgrees by l (tb.resolution m) m i.op before → p.stack ≡ before ++ ks → AllWider before (tb.results m)
    → Rule by l tb m at p i
return_rule by l tb m at p i before ks insn is_written there gives is wider =
    returns insn before there (λ locals words store memory vs ws stack. gives (written_place tb m) insn is_written
    (let code = code_of tb m in code.max_stack) at (spot tb m at + 1) ks vs ws locals words store memory
    (subst (λ kinds. Stacks memory.heap kinds vs ws) is stack)) wider
