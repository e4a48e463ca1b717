-- A run that meets no fault, reads all and breaks no rule is done, or lacks memory.
use Rattle.std.proofs.Common.{◌≡◌, ◌≢◌, ◌⊎◌, inl, inr, Option, Some, None, IfSome, Err, refl, sym, subst, ◌∙◌}
use Rattle.cjc_bytes.specs.declared.fault.Refusal.{Refusal}
use Rattle.cjc_shelf.specs.Count.{Rose}
use Rattle.cjc_shelf.specs.Shelf.{Files, Shelved}
use Rattle.cjc_shelf.specs.Sink.{Sunk}
use Rattle.cjc_command.specs.Plan.{Verdict, verdict, absent, too_long, refused, complete}
use Rattle.cjc_command.specs.Answer.{Command, Cause, Answers, Acts}
use Rattle.cjc_command.specs.declared.status.Status.{Status}
use Rattle.cjc_command.specs.declared.status.Status.TheVariants as status

-- what the files decide once all is read
same_inputs : {X : Type 0} (x y : X) → complete x ≡ complete y → x ≡ y
same_inputs x y e = cc

is_complete : {X : Type 0} → Verdict X → Type 0
is_complete (absent name) = ⊥
is_complete (too_long name) = ⊥
is_complete (refused r) = ⊥
is_complete (complete x) = Unit {0}

not_refused : {X : Type 0} (v : Verdict X) (x : X) (r : Refusal) → v ≡ complete x → v ≡ refused r → ⊥
not_refused v x r e f = absurd cc

ends_done : (command : Command) (files : Files) (old new : Shelved) (from to : Sunk) (answer : Status) → answer ≢ status.Usage → Cause old new from to answer
    → Answers command files old new from to answer → (Rose old.faults new.faults → ⊥) → (Rose from.faults to.faults → ⊥)
    → (inputs : command.Inputs) → verdict files command.plan ≡ complete inputs → ((r : Refusal) → command.Makes inputs (Err r) → ⊥)
    → (answer ≡ status.NoMemory) ⊎ (answer ≡ status.Done)
ends_done command files old new from to status.Done u cause told q s inputs read unbroken = inr refl
ends_done command files old new from to status.NoMemory u cause told q s inputs read unbroken = inl refl
ends_done command files old new from to status.Usage u cause told q s inputs read unbroken = absurd (u refl)
ends_done command files old new from to (status.Absent name) u cause told q s inputs read unbroken = absurd (let e = told.0 in cc)
ends_done command files old new from to (status.TooLong name) u cause told q s inputs read unbroken = absurd (let e = told.0 in cc)
ends_done command files old new from to (status.ShelfFault name) u cause told q s inputs read unbroken = absurd (q cause)
ends_done command files old new from to status.SinkFault u cause told q s inputs read unbroken = absurd (s cause)
ends_done command files old new from to (status.Refused r) u cause told q s inputs read unbroken = elim told.0 [
  | inl e ↦ absurd (not_refused _ inputs r read e)
  | inr (other, e, broken) ↦ absurd (unbroken r (subst (λ (x : command.Inputs). command.Makes x (Err r)) (same_inputs other inputs (sym e ∙ read)) broken))
]

over : (o : Option Files) {P Q : Files → Type 0} → ((files : Files) → P files → Q files) → IfSome o P → IfSome o Q
over None f t = tt
over (Some files) f t = f files t

pub completes : (command : Command) (old new : Shelved) (from to : Sunk) (answer : Status) → Acts command old new from to answer
    → IfSome old.files (λ files. (Rose old.faults new.faults → ⊥) → (Rose from.faults to.faults → ⊥)
    → (inputs : command.Inputs) → verdict files command.plan ≡ complete inputs → ((r : Refusal) → command.Makes inputs (Err r) → ⊥)
    → (answer ≡ status.NoMemory) ⊎ (answer ≡ status.Done))
completes command old new from to answer a = over old.files (λ files t. ends_done command files old new from to answer a.form a.cause t) a.told
