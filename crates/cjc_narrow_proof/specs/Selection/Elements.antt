-- What rows on elements of arrays ask: how far an index may lie, and of which types the arrays are.
use Rattle.std.specs.Prelude.{◌≡◌, ℕ, List, Some, Bool, true, pos, negsuc}
use Rattle.cjc_range.specs.Span.{Span, span, Within}
use Rattle.cjc_script.specs.Sorts.{Element, Booleans, Bytes, Shorts, Shape, OfClass, OfNumbers, OfReferences}
use Rattle.cjc_script.specs.Sorts.{shape_name, shape_named}
use Rattle.cjc_ncode.specs.ByLabel.{Named}
use Rattle.cjc_jvm_semantics.specs.Linked.{Method, Linked}
use Rattle.cjc_narrow_proof.specs.Selection.Relation.{element_range, IsMadeOf}
use Rattle.cjc_narrow_proof.specs.Selection.Objects.{class_of}

-- The numbers of an index whose low word finds the same item of an array of at most 32,767: the word of -32,769 is
-- 32,767.
abbrev pub index_range : Span
index_range = span (negsuc 32768) (pos 65535)

-- arrays of booleans or bytes
pub data IsBytes : Shape (List ℕ) → Type 0 where
  booleans : IsBytes (OfNumbers Booleans)
  bytes : IsBytes (OfNumbers Bytes)

-- arrays of shorts
pub data IsShorts : Shape (List ℕ) → Type 0 where
  shorts : IsShorts (OfNumbers Shorts)

-- arrays of references, each named by the descriptor of its class
pub data IsReferences : Shape (List ℕ) → Type 0 where
  references : (class : List ℕ) → shape_named (shape_name (OfReferences class)) ≡ Some (OfReferences class)
      → IsReferences (OfReferences class)

-- all that may be there and passes the test is of such types
abbrev pub AreAll : Named → (Shape (List ℕ) → Type 0) → (within : Shape (List ℕ) → Bool) → Type 0
AreAll l Is within = (kind : Shape (List ℕ)) → within kind ≡ true → IsMadeOf l kind → Is kind

-- no object passes the test
abbrev pub AreArrays : Named → (within : Shape (List ℕ) → Bool) → Type 0
AreArrays l within = (class : List ℕ) → within (OfClass class) ≡ true → IsMadeOf l (OfClass class) → ⊥

-- the numbers of the elements of each array that passes the test lie in an interval
abbrev pub ElementsLie : (within : Shape (List ℕ) → Bool) → Span → Type 0
ElementsLie within s = (element : Element) → within (OfNumbers element) ≡ true → Within (element_range element) s

-- what a reference array holds passes a test
abbrev pub ItemsPass : Named → (within items : Shape (List ℕ) → Bool) → Type 0
ItemsPass l within items = (class : List ℕ) → within (OfReferences class) ≡ true → (of : Shape (List ℕ))
    → l.is_of of (OfClass class) ≡ true → items of ≡ true

-- both sides say alike which of the values may be kept in an array of references
abbrev pub KeepsAlike : Linked → Named → Method → (within values : Shape (List ℕ) → Bool) → Type 0
KeepsAlike by l m within values = (class : List ℕ) → within (OfReferences class) ≡ true → (of : Shape (List ℕ))
    → values of ≡ true → by.subtype (Some (class_of m)) (shape_name of) class ≡ l.is_of of (OfClass class)
