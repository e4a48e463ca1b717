-- A method's handlers as they stand in the handler table, at offsets from the first instruction (Java Card Virtual
-- Machine Specification 2.2.2, section 6.9.2).
use Rattle.std.specs.Prelude.{ℕ, ◌-◌, ◌<◌, ◌≤◌, List, [], ◌∷◌, filter, Bool, not, nat_le, nat_lt, if◌then◌else◌}
use Rattle.cjc_ncode.specs.declared.narrow.NCatch.{NCatch}
use Rattle.cjc_ncode.specs.Lowering.Handlers.{meets_any}
use Rattle.cjc_layout.specs.declared.layout.Handler.{Handler}

-- ---- their order

-- the range has an instruction
abbrev pub has_range : NCatch → Bool
has_range c = nat_lt c.start c.end

-- before the first whose target is not lower
abbrev pub inserted : NCatch → List NCatch → List NCatch
inserted c [] = c ∷ []
inserted c (d ∷ catches) = if nat_le c.target d.target then c ∷ d ∷ catches else d ∷ inserted c catches

-- by target; those of one target as they stood
abbrev pub by_target : List NCatch → List NCatch
by_target [] = []
by_target (c ∷ catches) = inserted c (by_target catches)

-- The handlers that are written, in order: by target and then in class file order, those without an instruction in
-- their range left out.
abbrev pub table_order : List NCatch → List NCatch
table_order catches = by_target (filter has_range catches)

-- ---- their offsets

-- a handler at its offsets, before these; its stop bit is set where its range meets that of no later one
abbrev pub handler_of : (to : ℕ → ℕ) → NCatch → (later : List NCatch) → Handler
handler_of to c later = record {
  start = to c.start;
  stop = not (meets_any c later);
  length = to c.end - to c.start;
  target = to c.target;
  class = c.class;
}

-- handlers in order, where labels stand at `to`
abbrev pub handlers_of : (to : ℕ → ℕ) → List NCatch → List Handler
handlers_of to [] = []
handlers_of to (c ∷ catches) = handler_of to c catches ∷ handlers_of to catches

-- ---- their bounds

-- a handler's bounds and its target are places of a list of this length, or its end is the length
abbrev pub Lies : (count : ℕ) → NCatch → Type 0
Lies count c = (c.start < count) × (c.end ≤ count) × (c.target < count)

-- so do those of all of these
abbrev pub AllLie : (count : ℕ) → List NCatch → Type 0
AllLie count [] = Unit {0}
AllLie count (c ∷ catches) = Lies count c × AllLie count catches
