-- What an instruction needs of the words that it takes and of the locals that it reads, and what is known of the words
-- that it gives (Java Card Virtual Machine Specification 2.2.2, chapter 7). Stacks have their top first.
use Rattle.std.specs.Prelude.{◌≡◌, ℕ, ◌||◌, not, nat_lt, nat_le, Bool, true, false, List, [], ◌∷◌, ◌++◌, map, length}
use Rattle.std.specs.Prelude.{drop, slice_get, slice_set, Option, Some, None, if◌then◌else◌}
use Rattle.std.specs.List.{list_any}
use Rattle.cjc_types.specs.declared.cell.Cell.{Cell}
use Rattle.cjc_types.specs.declared.cell.Cell.TheVariants.{Number, Refs, Unusable}
use Rattle.cjc_types.specs.declared.state.Stack.{Stack}
use Rattle.cjc_types.specs.declared.state.Stack.TheVariants.{Cells, Clash}
use Rattle.cjc_types.specs.declared.state.State.{State}
use Rattle.cjc_types.specs.States.{stack_of}
use Rattle.cjc_types.specs.Steps.{operand}
use Rattle.cjc_types.specs.Types.{as_reference}
use Rattle.cjc_types.specs.Rules.{is_number, is_reference, all_types}
use Rattle.cjc_frames.specs.declared.acts.Need.{Need}
use Rattle.cjc_frames.specs.declared.acts.Need.TheVariants.{AnyWord, NumberWord, ReferenceWord, OfType, OfArrays}
use Rattle.cjc_frames.specs.declared.acts.Given.{Given}
use Rattle.cjc_frames.specs.declared.acts.Given.TheVariants.{ANumber, ANull, AnObject, Lost, Operand, Reference, Local}
use Rattle.cjc_frames.specs.declared.acts.Given.TheVariants.{Element, Item}
use Rattle.cjc_frames.specs.declared.acts.Read.{Read}
use Rattle.cjc_frames.specs.declared.acts.Write.{Write}
use Rattle.cjc_frames.specs.declared.acts.Act.{Act}
use Rattle.cjc_frames.specs.Types.{begins_with, element_of, item_of}

-- one reference type is of another
abbrev pub Subtype : Type 0
Subtype = (sub sup : List ℕ) → Bool

-- ---- what is needed

-- a word is so
abbrev pub meets : Subtype → Need → Cell → Bool
meets is_of AnyWord cell = true
meets is_of NumberWord cell = is_number cell
meets is_of ReferenceWord cell = is_reference cell
meets is_of (OfType type) cell = all_types (λ t. is_of t type) cell
meets is_of (OfArrays nibbles) cell = all_types (begins_with nibbles) cell

-- ---- what is given

-- by the locals and the stack before the instruction
abbrev pub given : (locals stack : List Cell) → Given → Cell
given locals stack ANumber = Number
given locals stack ANull = Refs []
given locals stack (AnObject type) = Refs (type ∷ [])
given locals stack Lost = Unusable
given locals stack (Operand k) = operand stack k
given locals stack (Reference k) = as_reference (operand stack k)
given locals stack (Local k) = as_reference (operand locals k)
given locals stack (Element k) = element_of (operand stack k)
given locals stack (Item k) = item_of (operand stack k)

-- ---- the state behind it

-- the stack behind an instruction
abbrev pub stack_behind : Act → (locals stack : List Cell) → List Cell
stack_behind a locals s = map (given locals s) a.gives ++ drop (length a.takes) s

-- A clash stays one past every instruction.
abbrev pub stack_after : Act → (locals : List Cell) → Stack → Stack
stack_after a locals Clash = Clash
stack_after a locals (Cells s) = stack_of (stack_behind a locals s)

-- a list has nothing in it
abbrev pub is_none : List Need → Bool
is_none [] = true
is_none (n ∷ needs) = false

-- what a write puts into its local; of an instruction that takes words from a clash nothing is known
abbrev pub written : Act → (locals : List Cell) → Stack → Given → Cell
written a locals (Cells s) g = given locals s g
written a locals Clash g = if is_none a.takes then given locals [] g else Unusable

-- locals with these writes, by the locals and the stack before the instruction
abbrev pub with_writes : Act → (before : List Cell) → Stack → List Write → (locals : List Cell) → List Cell
with_writes a before s [] locals = locals
with_writes a before s (w ∷ writes) locals = with_writes a before s writes (slice_set locals w.local (written a before s
    w.given))

-- the state behind an instruction
abbrev pub after : Act → State → State
after a x = record {
  stack = stack_after a x.locals x.stack;
  locals = with_writes a x.locals x.stack a.writes x.locals;
}

-- ---- what is broken

-- one of the operands that are there is not what is needed
abbrev pub has_wrong : Subtype → List Need → List Cell → Bool
has_wrong is_of [] stack = false
has_wrong is_of (n ∷ needs) [] = false
has_wrong is_of (n ∷ needs) (x ∷ stack) = not (meets is_of n x) || has_wrong is_of needs stack

-- a local that is there does not hold what is needed
abbrev pub is_wrong_local : Subtype → Need → Option Cell → Bool
is_wrong_local is_of n None = false
is_wrong_local is_of n (Some x) = not (meets is_of n x)

-- one of the locals that are read does not hold what is needed
abbrev pub has_wrong_local : Subtype → List Read → (locals : List Cell) → Bool
has_wrong_local is_of reads locals = list_any (λ (r : Read). is_wrong_local is_of r.need (slice_get locals r.local))
    reads

-- 723: an operand or a local is not what is needed, or the letter or the return is another
abbrev pub is_wrong : Subtype → Act → (locals stack : List Cell) → Bool
is_wrong is_of a locals s = has_wrong is_of a.takes s || has_wrong_local is_of a.reads locals || a.misfits

-- one of the locals that are read or written is not there
abbrev pub lacks_local : Act → (locals : List Cell) → Bool
lacks_local a locals = list_any (λ (r : Read). nat_le (length locals) r.local) a.reads
    || list_any (λ (w : Write). nat_le (length locals) w.local) a.writes

-- 724: an operand or a local is not there, or the stack has more than max_stack words before or behind the instruction
abbrev pub is_off : (max_stack : ℕ) → Act → (locals stack : List Cell) → Bool
is_off max_stack a locals s = nat_lt (length s) (length a.takes) || nat_lt max_stack (length s)
    || nat_lt max_stack (length (stack_behind a locals s)) || lacks_local a locals

-- The state before an instruction breaks the rule of this number.
pub data Breaks (is_of : Subtype) (max_stack : ℕ) (a : Act) : State → ℕ → Type 0 where
  -- ways with stacks of different heights lead here
  clash : (locals : List Cell) → Breaks is_of max_stack a (record { stack = Clash; locals = locals }) 722
  wrong : (s locals : List Cell) → is_wrong is_of a locals s ≡ true
      → Breaks is_of max_stack a (record { stack = Cells s; locals = locals }) 723
  off : (s locals : List Cell) → is_off max_stack a locals s ≡ true
      → Breaks is_of max_stack a (record { stack = Cells s; locals = locals }) 724
  unknown : (x : State) → a.is_unknown ≡ true → Breaks is_of max_stack a x 726
  misnamed : (x : State) → a.misnames ≡ true → Breaks is_of max_stack a x 727
