-- Which aload_0s and field instructions of a method are written as one (getfield_this and putfield_this of the Java
-- Card Virtual Machine Specification 2.2.2, section 7.5): what each instruction is to the reference that an aload_0
-- pushed before it, and from that its role.
use Rattle.std.specs.Prelude.{◌≡◌, ℕ, ◌+◌, ◌<◌, ◌==◌, ◌&&◌, ◌||◌, not, Bool, true, false, if◌then◌else◌, List, [], ◌∷◌}
use Rattle.std.specs.Prelude.{length}
use Rattle.std.specs.Prelude.{get_or, is_some, Option, ℤ}
use Rattle.std.specs.List.{list_any}
use Rattle.cjc_types.specs.Bytes.AccessFlags.{is_static}
use Rattle.cjc_types.specs.ClassFile.declared.tree.Catch.{Catch}
use Rattle.cjc_types.specs.Bytecode.declared.insn.JInsn.{JInsn}
use Rattle.cjc_types.specs.Bytecode.declared.insn.JOp.{JOp}
use Rattle.cjc_types.specs.Bytecode.declared.insn.JOp.TheVariants as jop
use Rattle.cjc_types.specs.Bytecode.Jvm as jvm
use Rattle.cjc_types.specs.Fixpoint.Kept.{mark_of}
use Rattle.cjc_types.specs.Flow.{Body, covers}
use Rattle.cjc_types.specs.Marks.{marks_of}
use Rattle.cjc_ncode.specs.declared.narrow.PairRole.{PairRole}
use Rattle.cjc_ncode.specs.declared.narrow.PairRole.TheVariants.{Alone, Opens, Closes}
use Rattle.cjc_ncode.specs.Written.{Resolution}
use Rattle.cjc_narrow.specs.declared.select.pairs.PairKind.{PairKind}
use Rattle.cjc_narrow.specs.declared.select.pairs.PairKind.TheVariants.{Silent, This, Pushes, Gets, Puts, Other}
use Rattle.cjc_narrow.specs.declared.select.pairs.PairStep.{PairStep}
use Rattle.cjc_narrow.specs.declared.select.pairs.Wait.{Wait}
use Rattle.cjc_narrow.specs.declared.select.pairs.Wait.TheVariants.{Begins, Pushed, Taken, Lost}

-- ---- local 0

-- a store into it
abbrev pub stores_this : JOp → Bool
stores_this (jop.Store refs l) = l == 0
stores_this op = false

-- by some reached instruction
abbrev pub any_stores : List JInsn → (reached : List Bool) → Bool
any_stores [] reached = false
any_stores (i ∷ insns) [] = false
any_stores (i ∷ insns) (is ∷ reached) = (is && stores_this i.op) || any_stores insns reached

-- the method is not static, and none stores into it
abbrev pub keeps_this : Body → (reached : List Bool) → Bool
keeps_this b reached = not (is_static b.flags || any_stores b.insns reached)

-- ---- what an instruction is

-- the load of a local, where local 0 is kept or not
abbrev pub load_kind : (keeps refs : Bool) → (l : ℕ) → PairKind
load_kind keeps refs l = if keeps && (refs && l == 0) then This else Pushes

-- getfield and putfield of a field with an index of one byte
abbrev pub access_kind : (put near : Bool) → PairKind
access_kind put near = if near then (if put then Puts else Gets) else Other

-- a field of a class: a constant is pushed
abbrev pub static_kind : (put : Bool) → Option ℤ → PairKind
static_kind put constant = if not put && is_some constant then Pushes else Other

-- of any kind
abbrev pub kind_of : (keeps : Bool) → Resolution → JOp → PairKind
kind_of keeps r jop.Nop = Silent
kind_of keeps r (jop.Narrow op) = if op == jvm.i2b then Other else Silent
kind_of keeps r jop.Null = Pushes
kind_of keeps r (jop.Number z) = Pushes
kind_of keeps r (jop.Load refs l) = load_kind keeps refs l
kind_of keeps r (jop.Static put f) = static_kind put (r.constant f)
kind_of keeps r (jop.Field put f) = access_kind put (r.is_near f)
kind_of keeps r op = Other

-- nothing is written where it is not reached
abbrev pub kind_if : (is : Bool) → (keeps : Bool) → Resolution → JOp → PairKind
kind_if true keeps r op = kind_of keeps r op
kind_if false keeps r op = Silent

-- one offset is covered and the other is not
abbrev pub differs : Catch → (a b : ℕ) → Bool
differs c a b = if covers c a then not (covers c b) else covers c b

-- an instruction is joined to the one before it where no jump, switch or handler leads to it and the same handlers
-- cover both
abbrev pub is_joined : (marks : List ℕ) → List Catch → (at before offset : ℕ) → Bool
is_joined marks catches at before offset = not (is_some (mark_of marks at) || list_any (λ c. differs c before offset)
    catches)

-- the instructions of a method from a place on, behind one at this offset
abbrev pub steps_from : (keeps : Bool) → Resolution → (marks : List ℕ) → List Catch → (at before : ℕ) → List JInsn
    → (reached : List Bool) → List PairStep
steps_from keeps r marks catches at before [] reached = []
steps_from keeps r marks catches at before (i ∷ insns) [] = []
steps_from keeps r marks catches at before (i ∷ insns) (is ∷ reached) = record {
  joined = is_joined marks catches at before i.at;
  kind = kind_if is keeps r i.op;
} ∷ steps_from keeps r marks catches (at + 1) i.at insns reached

-- of a whole method
abbrev pub steps_of : Resolution → Body → (reached : List Bool) → List PairStep
steps_of r b reached = steps_from (keeps_this b reached) r (marks_of b) b.catches 0 0 b.insns reached

-- ---- which field instruction takes the reference

-- behind a joined instruction: a getfield takes it at once, a putfield behind one that pushes
abbrev pub wait_behind : Wait → PairKind → Wait
wait_behind Begins Silent = Begins
wait_behind Begins This = Pushed
wait_behind Begins Pushes = Pushed
wait_behind Begins Gets = Taken
wait_behind Begins Puts = Lost
wait_behind Begins Other = Lost
wait_behind Pushed Silent = Pushed
wait_behind Pushed This = Lost
wait_behind Pushed Pushes = Lost
wait_behind Pushed Gets = Lost
wait_behind Pushed Puts = Taken
wait_behind Pushed Other = Lost
wait_behind Taken kind = Taken
wait_behind Lost kind = Lost

-- it goes on
abbrev pub waits : Wait → Bool
waits Begins = true
waits Pushed = true
waits Taken = false
waits Lost = false

-- behind any
abbrev pub next_wait : Wait → PairStep → Wait
next_wait w s = if waits w then (if s.joined then wait_behind w s.kind else Lost) else w

-- behind all
abbrev pub last_wait : Wait → List PairStep → Wait
last_wait w [] = w
last_wait w (s ∷ steps) = last_wait (next_wait w s) steps

-- the reference was taken
abbrev pub is_taken : Wait → Bool
is_taken Taken = true
is_taken Lost = false
is_taken Begins = false
is_taken Pushed = false

-- ---- roles

-- of an instruction, behind an open pair or none, where the reference that it pushes is taken or not
abbrev pub role_of : (opened : Bool) → PairKind → (taken : Bool) → PairRole
role_of true Gets taken = Closes
role_of true Puts taken = Closes
role_of false This true = Opens
role_of opened kind taken = Alone

-- whether a pair is open behind an instruction of this role
abbrev pub is_open : (before : Bool) → PairRole → Bool
is_open before Alone = before
is_open before Opens = true
is_open before Closes = false

-- of the first of these
abbrev pub first_role : (opened : Bool) → PairStep → List PairStep → PairRole
first_role opened s steps = role_of opened s.kind (is_taken (last_wait Begins steps))

-- of all
abbrev pub roles_from : (opened : Bool) → List PairStep → List PairRole
roles_from opened [] = []
roles_from opened (s ∷ steps) = let role = first_role opened s steps in role ∷ roles_from (is_open opened role) steps

-- of the instruction at an offset
abbrev pub role_in : List JInsn → List PairRole → (offset : ℕ) → PairRole
role_in [] roles offset = Alone
role_in (i ∷ insns) [] offset = Alone
role_in (i ∷ insns) (role ∷ roles) offset = if i.at == offset then role else role_in insns roles offset

-- The roles of the instructions of a method, by which of them are reached.
abbrev pub roles_of : Resolution → Body → (reached : List Bool) → List PairRole
roles_of r b reached = roles_from false (steps_of r b reached)

-- the same names with these roles
abbrev pub with_roles : Resolution → List JInsn → List PairRole → Resolution
with_roles r insns roles = record r { role = role_in insns roles }

-- The names of a method with the roles of its instructions.
unfoldable pub with_pairs : Resolution → Body → (reached : List Bool) → Resolution
with_pairs r b reached = with_roles r b.insns (roles_of r b reached)

-- the roles by place are those by offset
abbrev pub AreRoles : Resolution → List JInsn → List PairRole → Type 0
AreRoles r insns roles = (k : ℕ) (d : JInsn) (e : PairRole) → k < length insns
    → get_or roles k e ≡ r.role ((get_or insns k d).at)
