-- What rows on static cells ask of the look-ups of both sides, and which cells may be put where values of a type are.
use Rattle.std.specs.Prelude.{◌≡◌, ℕ, List, Some, None, Bool, true, ℤ}
use Rattle.cjc_bytes.specs.declared.fault.MemberId.{MemberId}
use Rattle.cjc_range.specs.Span.{Span, Within, byte_range, short_range}
use Rattle.cjc_script.specs.Sorts.{Shape, Sort, Boolean, Byte, Short, Reference, field_sort}
use Rattle.cjc_card_semantics.specs.Bytecode.Renaming.{keys}
use Rattle.cjc_ncode.specs.Written.{Resolution}
use Rattle.cjc_ncode.specs.ByLabel.{Named}
use Rattle.cjc_jvm_semantics.specs.Linked.{Method, Constant, Static, Linked}
use Rattle.cjc_narrow_proof.specs.Selection.Relation.{Kind, Range, Refers, boolean_range}
use Rattle.cjc_narrow_proof.specs.Selection.Rows.{is_word_sort, lists}
use Rattle.cjc_narrow_proof.specs.Selection.Objects.{class_of}

-- a cell on the stack that may be put where values of a type are: a number in its interval, or a reference of its type
pub data MayBePut (l : Named) : Sort → Kind → Type 0 where
  a_boolean : {s : Span} → Within s boolean_range → MayBePut l Boolean (Range s)
  a_byte : {s : Span} → Within s byte_range → MayBePut l Byte (Range s)
  a_short : {s : Span} → Within s short_range → MayBePut l Short (Range s)
  a_reference : {kind : Shape (List ℕ)} {within : Shape (List ℕ) → Bool} → ((of : Shape (List ℕ)) → within of ≡ true
      → l.is_of of kind ≡ true) → MayBePut l (Reference kind) (Refers within)

-- Code of m names a static field whose values are one word and which is no constant; narrow code names it as it is
-- found, and the static
-- cells have it.
pub record CellIsThere (by : Linked) (l : Named) (r : Resolution) (m : Method) (named : MemberId) : Type 0 where
  pub is_found : by.field (class_of m) named ≡ Some (Static (r.field named))
  pub is_no_constant : r.constant named ≡ None
  pub type : field_sort (let f = r.field named in f.desc) ≡ field_sort named.desc
  pub one_word : is_word_sort (field_sort named.desc) ≡ true
  pub has : lists (keys (let n = l.memory in n.statics)) (r.field named) ≡ true

-- Code of m names a constant, whose number is pushed on both sides.
pub record IsConstant (by : Linked) (r : Resolution) (m : Method) (named : MemberId) (z : ℤ) : Type 0 where
  pub by_name : by.field (class_of m) named ≡ Some (Constant z)
  pub narrow : r.constant named ≡ Some z
