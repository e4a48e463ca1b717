-- What rows that read and write fields and static cells ask, in int mode: of one word or two.
use Rattle.std.specs.Prelude.{◌≡◌, ℕ, List, Some, None, Bool, true, false}
use Rattle.cjc_range.specs.Span.{Span}
use Rattle.cjc_script.specs.Bytes.declared.fault.MemberId.{MemberId}
use Rattle.cjc_script.specs.Sorts.{Shape, Sort, Int, NoValue, field_sort}
use Rattle.cjc_card_semantics.specs.Bytecode.Renaming.{keys}
use Rattle.cjc_ncode.specs.ByLabel.{Named}
use Rattle.cjc_ncode.specs.Written.{Resolution}
use Rattle.cjc_jvm_semantics.specs.Linked.{Method, Static, Instance, Linked}
use Rattle.cjc_narrow_proof.specs.Selection.Relation.{Kind, Range, IsMadeOf}
use Rattle.cjc_narrow_proof.specs.Selection.Rows.{HasField, lists}
use Rattle.cjc_narrow_proof.specs.Selection.Cells.{MayBePut}
use Rattle.cjc_narrow_proof.specs.Selection.Objects.{class_of}

-- a type of some values
abbrev pub has_values : Sort → Bool
has_values NoValue = false
has_values _ = true

-- Code of m names a field of some values; narrow code names it as it is found, and each object that may be there and
-- passes the test has it.
pub record IntFieldIsThere (by : Linked) (l : Named) (r : Resolution) (m : Method) (named : MemberId)
    (within : Shape (List ℕ) → Bool) : Type 0 where
  pub is_found : by.field (let id = m.id in id.class) named ≡ Some (Instance (r.field named))
  pub type : field_sort (let f = r.field named in f.desc) ≡ field_sort named.desc
  pub some_value : has_values (field_sort named.desc) ≡ true
  pub has : (kind : Shape (List ℕ)) → within kind ≡ true → IsMadeOf l kind → HasField l (r.field named) kind

-- Code of m names a static field of some values which is no constant; narrow code names it as it is found, and the
-- static cells have it.
pub record IntCellIsThere (by : Linked) (l : Named) (r : Resolution) (m : Method) (named : MemberId) : Type 0 where
  pub is_found : by.field (class_of m) named ≡ Some (Static (r.field named))
  pub is_no_constant : r.constant named ≡ None
  pub type : field_sort (let f = r.field named in f.desc) ≡ field_sort named.desc
  pub some_value : has_values (field_sort named.desc) ≡ true
  pub has : lists (keys (let n = l.memory in n.statics)) (r.field named) ≡ true

-- a cell on the stack that may be put where values of a type are: a number of any interval where that is int
pub data MayBePutInt (l : Named) : Sort → Kind → Type 0 where
  in_one_word : {sort : Sort} {kind : Kind} → MayBePut l sort kind → MayBePutInt l sort kind
  an_int_put : {s : Span} → MayBePutInt l Int (Range s)
