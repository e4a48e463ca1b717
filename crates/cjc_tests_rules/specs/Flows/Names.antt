-- A small flow that the tests solve: which names the ways to a place have met. A set of names is the
-- list of its names in the order of all names, so equal sets are equal lists.
use Rattle.std.specs.Prelude.{◌≡◌, ℕ, ◌==◌, ◌||◌, nat_lt, Bool, IsTrue, List, [], ◌∷◌, Option, Some, None, slice_get}
use Rattle.std.specs.Prelude.{length, filter, map}
use Rattle.std.specs.List.{list_any}
use Rattle.cjc_types.specs.Fixpoint.declared.flow.Edge.{Edge}
use Rattle.cjc_types.specs.Fixpoint.Dataflow.{Dataflow}

-- whether the set has the name n
abbrev pub has : List ℕ → ℕ → Bool
has set n = list_any (λ x. x == n) set

-- a list has some of these names, each where it stands among them
abbrev pub IsSet : List ℕ → List ℕ → Type 0
IsSet names set = set ≡ filter (has set) names

-- each name of one set is in the other
abbrev pub IsIncluded : List ℕ → List ℕ → Type 0
IsIncluded xs ys = (n : ℕ) → IsTrue (has xs n) → IsTrue (has ys n)

-- the names of either set
abbrev pub union : List ℕ → List ℕ → List ℕ → List ℕ
union names xs ys = filter (λ n. has xs n || has ys n) names

-- an edge to a place, with the set that goes there
abbrev pub edge : List ℕ → ℕ → Edge (List ℕ)
edge state to = record { to = to; state = state }

-- a place adds its name and goes to its targets; a target past the last place leaves the code
abbrev pub place_edges : List ℕ → ℕ → Option (ℕ × ℕ × ℕ) → List ℕ → List (Edge (List ℕ))
place_edges names places None set = []
place_edges names places (Some (name, left, right)) set = map (edge (union names (name ∷ []) set))
    (filter (λ to. nat_lt to places) (left ∷ right ∷ []))

-- the flow of a code, whose places have a name and two targets each; at the entry no name was met
abbrev pub name_flow : List ℕ → List (ℕ × ℕ × ℕ) → Dataflow (List ℕ)
name_flow names code = record {
  Own = IsSet names;
  Below = IsIncluded;
  join = union names;
  rank = length;
  height = length names;
  entry = [];
  edges = λ at set. place_edges names (length code) (slice_get code at) set;
}
