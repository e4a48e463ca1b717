-- What a type table and a range table say of a frame, as whole runs of class files and narrow code ask it.
use Rattle.std.specs.Prelude.{ℕ, suc, Bool, false, ◌||◌, List, [], ◌∷◌, slice_get, Option, Some, None}
use Rattle.cjc_range.specs.Span.{Span}
use Rattle.cjc_script.specs.Sorts.{Shape, shape_named}
use Rattle.cjc_types.specs.declared.cell.Cell.{Cell}
use Rattle.cjc_types.specs.declared.cell.Cell.TheVariants.{Number, Refs, Unusable}
use Rattle.cjc_types.specs.declared.state.State.{State}
use Rattle.cjc_types.specs.Search.{cells_of}
use Rattle.cjc_ncode.specs.ByLabel.{Named}
use Rattle.cjc_intervals.specs.Frames.{RangeState, spans_of}
use Rattle.cjc_intervals.specs.Steps.{operand}
use Rattle.cjc_narrow_proof.specs.Selection.Relation.{Kind, Range, Refers, Free}
use Rattle.cjc_narrow_proof.specs.Selection.Replies.{is_of_some}
use Rattle.cjc_narrow_proof.specs.Selection.Tables.{Point}

-- an array or object is of the type of this name
abbrev pub is_named : Named → (name : List ℕ) → Shape (List ℕ) → Bool
is_named l name kind = is_of_some l kind (shape_named name)

-- it is of one of these types
abbrev pub is_one_of : Named → (names : List (List ℕ)) → Shape (List ℕ) → Bool
is_one_of l [] kind = false
is_one_of l (name ∷ names) kind = is_named l name kind || is_one_of l names kind

-- a cell by its types and its interval
abbrev pub kind_of_cell : Named → Cell → Span → Kind
kind_of_cell l Number s = Range s
kind_of_cell l (Refs names) s = Refers (is_one_of l names)
kind_of_cell l Unusable s = Free

-- cells by their intervals from the k-th on; one that is missing is full
abbrev pub kinds_from : Named → (k : ℕ) → List Cell → List Span → List Kind
kinds_from l k [] s = []
kinds_from l k (cell ∷ cells) s = kind_of_cell l cell (operand s k) ∷ kinds_from l (suc k) cells s

-- the kinds of all cells by their intervals
abbrev pub kinds : Named → List Cell → List Span → List Kind
kinds l cells s = kinds_from l 0 cells s

-- what both tables say of a frame
abbrev pub point_of : Named → State → RangeState → Point
point_of l t x = record { stack = kinds l (cells_of t.stack) (spans_of x.stack); locals = kinds l t.locals x.locals }

-- what both tables say of a frame, where both have a state for it
abbrev pub point_where : Named → Option (Option State) → Option (Option RangeState) → Option Point
point_where l (Some (Some t)) (Some (Some x)) = Some (point_of l t x)
point_where l t x = None

-- before the instruction at a place, where both tables reach it
abbrev pub point_at : Named → List (Option State) → List (Option RangeState) → (at : ℕ) → Option Point
point_at l types ranges at = point_where l (slice_get types at) (slice_get ranges at)
