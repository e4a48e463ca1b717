-- What is asked of a table so that whole runs of both machines agree: what both do at each reached instruction, and
-- where they go on.
use Rattle.std.specs.Prelude.{◌≡◌, ◌≢◌, ℕ, ◌+◌, ◌<◌, List, [], ◌∷◌, Option, Some, true, Bool, slice_get}
use Rattle.std.specs.List.{Contains}
use Rattle.cjc_code.specs.declared.insn.JInsn.{JInsn}
use Rattle.cjc_code.specs.declared.insn.JOp.TheVariants as jop
use Rattle.cjc_script.specs.declared.value.Value.{Value}
use Rattle.cjc_script.specs.declared.script.Entry.{Entry}
use Rattle.cjc_script.specs.declared.report.Note.{Note}
use Rattle.cjc_script.specs.declared.report.Outcome.{Outcome}
use Rattle.cjc_script.specs.declared.report.Outcome.TheVariants.{Running, Stuck}
use Rattle.cjc_script.specs.declared.report.Report.{Report}
use Rattle.cjc_script.specs.Sorts.{Shape}
use Rattle.cjc_card_semantics.specs.Bytecode.Runs.{Move, On, Over, Alike}
use Rattle.cjc_card_semantics.specs.Bytecode.Effects as narrow
use Rattle.cjc_card_semantics.specs.Bytecode.Machine.{Next, Ended, report as narrow_report, begins as narrow_begins}
use Rattle.cjc_card_semantics.specs.Bytecode.Machine.{step as narrow_step}
use Rattle.cjc_ncode.specs.declared.narrow.NInsn.{NInsn}
use Rattle.cjc_ncode.specs.declared.narrow.NInsn.TheVariants as insns
use Rattle.cjc_ncode.specs.ByLabel.{Named, by_label, classes, operation}
use Rattle.cjc_jvm_semantics.specs.Linked.{Method, Linked}
use Rattle.cjc_jvm_semantics.specs.Effects.{Store, place}
use Rattle.cjc_jvm_semantics.specs.Effects as by_name
use Rattle.cjc_jvm_semantics.specs.Machine.{Frame, State, begins, step}
use Rattle.cjc_narrow_proof.specs.Selection.Relation.{Kind, Refers, NMemory, Stacks, Locals, Owns, AllWider, Stores}
use Rattle.cjc_narrow_proof.specs.Selection.Rows.{NEffect, Same, GoesOn}
use Rattle.cjc_narrow_proof.specs.Selection.Jumps.{Jumps, Returns}
use Rattle.cjc_narrow_proof.specs.Selection.Switches.{JumpsInTwo}
use Rattle.cjc_narrow_proof.specs.Selection.Calls.{NFrame, NState, NTurn}
use Rattle.cjc_narrow_proof.specs.Selection.Throws.{nheap}
use Rattle.cjc_narrow_proof.specs.Selection.Replies.{StatesAgree}
use Rattle.cjc_narrow_proof.specs.Selection.Tables.{Point, Table, MayRaise, code_of, written_place, spot, Arrives}
use Rattle.cjc_narrow_proof.specs.Selection.Tables.{Comes}
use Rattle.cjc_narrow_proof.specs.Selection.Tables.{Catches, Stands, Waiting, Couple, left, right}

-- Where a turn of each machine leads: to states that agree, or to the end with reports that are alike.
pub data Both (by : Linked) (l : Named) (tb : Table) : Move State → NTurn → Type 0 where
  onward : (v : Couple by l tb) → Both by l tb (On (left v)) (Next (right v))
  over : (r : Report) (o : Outcome) (t : NState) → Alike (narrow_report (by_label l) o t) r → r.outcome ≢ Running
      → ((at : ℕ) → r.outcome ≢ Stuck at) → Both by l tb (Over r) (Ended o t)

-- ---- instructions

module _ (by : Linked) (l : Named) (tb : Table) (m : Method) (at : ℕ) (p : Point) (i : JInsn) where
  -- what the instruction asks of the machine by name
  abbrev pub named_effect : List (Option Value) → Store → List Value → by_name.Effect
  named_effect locals store vs = by_name.effect by m at locals store i.op vs

  -- what a narrow instruction at a place asks of its machine
  abbrev pub narrow_effect : NInsn → (next : ℕ) → List (Option Value) → NMemory → List Value → NEffect
  narrow_effect insn next words memory ws = narrow.effect (classes l) (operation insn) (let code = code_of tb m
      in code.max_stack) next words memory ws

  -- a narrow instruction is written at a place
  abbrev pub IsAtPlace : NInsn → (next : ℕ) → Type 0
  IsAtPlace insn next = slice_get (let code = code_of tb m in code.insns) next ≡ Some insn

  -- The instruction may go on behind itself only where what is known there holds.
  abbrev pub Falls : (next : ℕ) → (ks ls : List Kind) → Type 0
  Falls next ks ls = (locals after : List (Option Value)) (store new : Store) (vs stack : List Value)
      → named_effect locals store vs ≡ by_name.Go (at + 1) stack after new → Arrives tb m (at + 1) next ks ls

  -- Where both go on behind a narrow instruction, no more is known, and what is left out is in its first local.
  abbrev pub Lands : NInsn → (ks ls : List Kind) → Type 0
  Lands insn ks ls = (locals after words wafter : List (Option Value)) (store new : Store) (memory grown : NMemory)
      (vs stack ws wstack : List Value) → Owns words p.stack vs
      → named_effect locals store vs ≡ by_name.Go (at + 1) stack after new
      → narrow_effect insn (spot tb m at + 1) words memory ws ≡ narrow.Go (spot tb m at + 1) wstack wafter grown
      → Comes tb m (at + 1) (spot tb m at + 1) ks ls stack wafter

  -- The machine by name goes on, and narrow code stays before its instruction.
  pub record Lingers (ks : List Kind) (locals words : List (Option Value)) (store : Store) (memory : NMemory)
      (vs ws : List Value) : Type 0 where
    pub on : GoesOn by m i.op at locals store memory ks vs ws
    pub comes : Comes tb m (at + 1) (spot tb m at) ks p.locals on.stack words

  -- What both machines do at an instruction.
  pub data Rule : Type 0 where
    -- both go on behind it, or raise the same exception
    does : (insn : NInsn) (ks ls : List Kind) → IsAtPlace insn (spot tb m at)
        → ((locals words : List (Option Value)) (store : Store) (memory : NMemory) (vs ws : List Value)
        → Stores l store memory → Locals memory.heap p.locals locals words → Stacks memory.heap p.stack vs ws
        → Owns words p.stack vs → Same l ks ls (at + 1) (spot tb m at + 1) (named_effect locals store vs)
        (narrow_effect insn (spot tb m at + 1) words memory ws))
        → ((locals : List (Option Value)) (store : Store) (vs : List Value) (object : ℕ) → named_effect locals store vs
        ≡ by_name.Toss object → ⊥)
        → Lands insn ks ls → Catches by l tb m at p.locals → Rule
    -- both jump
    jumps : (insn : NInsn) (ks ls : List Kind) (offsets : List ℕ) → IsAtPlace insn (spot tb m at)
        → ((locals words : List (Option Value)) (store : Store) (memory : NMemory) (vs ws : List Value)
        → Stores l store memory → Locals memory.heap p.locals locals words → Stacks memory.heap p.stack vs ws
        → Jumps l ks ls offsets (place m.insns) (written_place tb m) (at + 1) (spot tb m at + 1)
        (named_effect locals store vs) (narrow_effect insn (spot tb m at + 1) words memory ws))
        → ((offset : ℕ) → Contains offsets offset → Arrives tb m (place m.insns offset) (written_place tb m offset) ks
        ls) → Falls (spot tb m at + 1) ks ls → Rule
    -- nothing is written
    goes_on : (ks : List Kind)
        → ((locals words : List (Option Value)) (store : Store) (memory : NMemory) (vs ws : List Value)
        → Locals memory.heap p.locals locals words → Stacks memory.heap p.stack vs ws → Owns words p.stack vs
        → Lingers ks locals words store memory vs ws) → at < 65534 → Rule
    -- narrow code jumps with its second instruction
    jumps_in_two : (first second : NInsn) (ks ls : List Kind) (offsets : List ℕ) → IsAtPlace first (spot tb m at)
        → IsAtPlace second (spot tb m at + 1)
        → ((locals words : List (Option Value)) (store : Store) (memory : NMemory) (vs ws : List Value)
        → Stores l store memory → Locals memory.heap p.locals locals words → Stacks memory.heap p.stack vs ws
        → JumpsInTwo l ks ls offsets (place m.insns) (written_place tb m) (at + 1) (spot tb m at + 1)
        (spot tb m at + 1 + 1) (let code = code_of tb m in code.max_stack) first second words memory ws
        (named_effect locals store vs))
        → ((offset : ℕ) → Contains offsets offset → Arrives tb m (place m.insns offset) (written_place tb m offset) ks
        ls) → Falls (spot tb m at + 1 + 1) ks ls → Rule
    -- both throw what is on top
    throws : (within : Shape (List ℕ) → Bool) (ks : List Kind) → i.op ≡ jop.Throw
        → IsAtPlace (insns.Op 0x93) (spot tb m at) → p.stack ≡ Refers within ∷ ks
        → ((kind : Shape (List ℕ)) → within kind ≡ true → tb.may_throw kind ≡ true) → Catches by l tb m at p.locals
        → Rule
    -- both return
    returns : (insn : NInsn) (kinds : List Kind) → IsAtPlace insn (spot tb m at)
        → ((locals words : List (Option Value)) (store : Store) (memory : NMemory) (vs ws : List Value)
        → Stacks memory.heap p.stack vs ws → Returns memory.heap kinds (named_effect locals store vs)
        (narrow_effect insn (spot tb m at + 1) words memory ws))
        → AllWider kinds (tb.results m) → Rule
    -- both call
    calls : ((f : Frame) (outer : List Frame) (s : State) (g : NFrame) (others : List NFrame) (t : NState)
        → f.method ≡ m → f.at ≡ at → slice_get (let n = f.method in n.insns) f.at ≡ Some i → StatesAgree l s t
        → (stands : Stands tb (nheap t) f g) → stands.point ≡ p → Waiting by l tb (nheap t) (tb.results f.method) outer
        others → Both by l tb (step by (f ∷ outer) s) (narrow_step (by_label l) (g ∷ others) t))
        → Rule

-- a rule of an instruction that neither calls nor returns
abbrev pub IsWithin : {by : Linked} {l : Named} {tb : Table} {m : Method} {at : ℕ} {p : Point} {i : JInsn}
    → Rule by l tb m at p i → Type 0
IsWithin (returns insn kinds written holds wider) = ⊥
IsWithin (calls turn) = ⊥
IsWithin rule = Unit {0}

-- What both machines do at an instruction that neither calls nor returns.
pub record RuleWithin (by : Linked) (l : Named) (tb : Table) (m : Method) (at : ℕ) (p : Point) (i : JInsn) : Type 0
  where
    pub rule : Rule by l tb m at p i
    pub is_within : IsWithin rule

-- ---- entries

-- Both machines begin the entry's method, before anything is noted; or both are over.
pub data Begins (by : Linked) (l : Named) (tb : Table) (notes : List Note) : Move State → NTurn → Type 0 where
  into : (f : Frame) (outer : List Frame) (s : State) (g : NFrame) (others : List NFrame) (t : NState)
      (same : StatesAgree l s t) (stands : Stands tb (nheap t) f g) (waiting : Waiting by l tb (nheap t)
      (tb.results f.method) outer others) → t.notes ≡ notes
      → Begins by l tb notes (On (record s { frames = f ∷ outer })) (Next (record t { frames = g ∷ others }))
  unfit : (r : Report) (o : Outcome) (t : NState) → Alike (narrow_report (by_label l) o t) r → r.outcome ≢ Running
      → ((at : ℕ) → r.outcome ≢ Stuck at) → Begins by l tb notes (Over r) (Ended o t)

-- ---- a package

-- Each reached instruction keeps its rule, each entry of a script begins alike, and so does the heap.
pub record IsFine (by : Linked) (l : Named) (tb : Table) : Type 0 where
  pub rules : (m : Method) (at : ℕ) (p : Point) → tb.point m at ≡ Some p → (i : JInsn) → slice_get m.insns at ≡ Some i
      → Rule by l tb m at p i
  pub is_there : (m : Method) (at : ℕ) (p : Point) → tb.point m at ≡ Some p → (i : JInsn)
      × (slice_get m.insns at ≡ Some i)
  pub entries : (e : Entry) (entries : List Entry) (s : State) (t : NState) → StatesAgree l s t
      → Begins by l tb t.notes (begins by [] (e ∷ entries) s) (narrow_begins (by_label l) [] (e ∷ entries) t)
  pub exceptions : MayRaise l tb
  pub starts : Stores l (record { heap = by.heap; statics = by.statics }) l.memory
