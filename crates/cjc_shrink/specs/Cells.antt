-- What rows on static cells ask of the look-ups of both sides, and which cells may be put where values of a type are.
use Rattle.std.specs.Prelude.{◌≡◌, ℕ, ◌+◌, List, [], ◌∷◌, ◌++◌, Option, Some, None, Bool, true}
use Rattle.cjc_bytes.specs.declared.fault.MemberId.{MemberId}
use Rattle.cjc_range.specs.Span.{Span, Within, byte_range, short_range}
use Rattle.cjc_code.specs.declared.insn.JOp.{JOp}
use Rattle.cjc_script.specs.declared.value.Value.{Value}
use Rattle.cjc_script.specs.Sorts.{Shape, Sort, Boolean, Byte, Short, Reference, field_sort}
use Rattle.cjc_bytecode.specs.Effects as narrow
use Rattle.cjc_bytecode.specs.Renaming.{keys}
use Rattle.cjc_ncode.specs.declared.narrow.NInsn.{NInsn}
use Rattle.cjc_ncode.specs.Written.{Resolution, written}
use Rattle.cjc_ncode.specs.ByLabel.{Named, classes, operation}
use Rattle.cjc_by_name.specs.Linked.{Method, Static, Linked}
use Rattle.cjc_by_name.specs.Effects.{Store}
use Rattle.cjc_by_name.specs.Effects as by_name
use Rattle.cjc_shrink.specs.Relation.{Kind, Range, Refers, boolean_range, NMemory, Stacks, Locals, Stores}
use Rattle.cjc_shrink.specs.Rows.{HasRoom, Same, is_word_sort, lists}
use Rattle.cjc_shrink.specs.Objects.{class_of}

-- a cell on the stack that may be put where values of a type are: a number in its interval, or a reference of its type
pub data MayBePut (l : Named) : Sort → Kind → Type 0 where
  a_boolean : {s : Span} → Within s boolean_range → MayBePut l Boolean (Range s)
  a_byte : {s : Span} → Within s byte_range → MayBePut l Byte (Range s)
  a_short : {s : Span} → Within s short_range → MayBePut l Short (Range s)
  a_reference : {kind : Shape (List ℕ)} {within : Shape (List ℕ) → Bool} → ((of : Shape (List ℕ)) → within of ≡ true → l.is_of of kind ≡ true) → MayBePut l (Reference kind) (Refers within)

-- Code of m names a static field whose values are one word and which is no constant; narrow code names it as it is found.
pub record CellIsThere (by : Linked) (r : Resolution) (m : Method) (named : MemberId) : Type 0 where
  pub is_found : by.field (class_of m) named ≡ Some (Static (r.field named))
  pub is_no_constant : r.constant named ≡ None
  pub type : field_sort (let f = r.field named in f.desc) ≡ field_sort named.desc
  pub one_word : is_word_sort (field_sort named.desc) ≡ true

-- As a row is, where the static cells have this one.
abbrev pub RowOnCells : Linked → Named → Resolution → Method → JOp → (static_cell : MemberId) → (before after : List Kind) → Type 0
RowOnCells by l r m op static_cell before after =
    (place : ℕ → ℕ) (insn : NInsn) → written r place op ≡ insn ∷ [] →
    (room at next : ℕ) (ks ls : List Kind) (vs ws : List Value) (locals words : List (Option Value)) (store : Store) (memory : NMemory) →
    lists (keys memory.statics) static_cell ≡ true → HasRoom (after ++ ks) m.max_stack room → Stores l store memory → Locals memory.heap ls locals words → Stacks memory.heap (before ++ ks) vs ws →
    Same l (after ++ ks) ls (at + 1) next (by_name.effect by m at locals store op vs) (narrow.effect (classes l) (operation insn) room next words memory ws)
