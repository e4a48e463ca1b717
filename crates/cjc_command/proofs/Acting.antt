-- What gathering and publishing give together.
use Rattle.std.proofs.Common.{◌≡◌, ◌≢◌, inl, ℕ, ◌<◌, true, false, List, [], ◌∷◌, length, Option, Some, None, IfSome, IsSomeAnd, Contains, Err, nat_lt, cond, refl, sym, ap, subst, ◌∙◌, arith}
use Rattle.std.proofs.lemmas.List.Elements.{Contains-append_right}
use borrow.Author.Tests.{ltb-true}
use Rattle.std.specs.FinMap.{get}
use Rattle.cjc_shelf.specs.Shelf.{Files, Shelved}
use Rattle.cjc_shelf.specs.Sink.{Sunk}
use Rattle.cjc_shelf.specs.declared.shelf.TheConstants.{LONGEST}
use Rattle.cjc_command.specs.Plan.{Plan, reads, refuses, has, Verdict, at_file, verdict, names_read, reads_after, absent, too_long}
use Rattle.cjc_command.specs.Gather.{StopCause, StopTold, Gathers}
use Rattle.cjc_command.specs.Publish.{Quiet}
use Rattle.cjc_command.specs.Answer.{Command, Cause, Answers, Acts}
use Rattle.cjc_command.specs.declared.status.Status.{Status}
use Rattle.cjc_command.specs.declared.status.Status.TheVariants as status
use Rattle.cjc_command.specs.declared.status.Todo.{Todo}

first_of_names : (name : List ℕ) (names : List (List ℕ)) → Contains (name ∷ names) name
first_of_names name names = (0, omega arith, refl)

-- a verdict on a file at which a reading stopped, by the verdicts of what follows
at_absent : {X : Type 0} (files : Files) (n name : List ℕ) (v : List ℕ → Verdict X) (names : List ℕ → List (List ℕ))
    → ((bytes : List ℕ) → v bytes ≡ absent name → Contains (names bytes) name × (get files name ≡ None))
    → (o : Option (List ℕ)) → get files n ≡ o → at_file n v o ≡ absent name → Contains (n ∷ reads_after names o) name × (get files name ≡ None)
at_absent files n name v names later None is e =
    let same : n ≡ name = cc in
    (subst (λ (m : List ℕ). Contains (m ∷ []) name) (sym same) (first_of_names name []), ap (get files) (sym same) ∙ is)
at_absent files n name v names later (Some bytes) is e =
    elim (nat_lt LONGEST (length bytes)) as (λ b. cond b (too_long n) (v bytes) ≡ absent name → Contains (n ∷ cond b [] (names bytes)) name × (get files name ≡ None)) [
      | true ↦ λ h. absurd (cc)
      | false ↦ λ h. let rest = later bytes h in (Contains-append_right (n ∷ []) _ name rest.0, rest.1)
    ] e

-- a name that is absent is read
pub absent_file : {X : Type 0} (files : Files) (p : Plan X) (name : List ℕ) → verdict files p ≡ absent name → Contains (names_read files p) name × (get files name ≡ None)
absent_file files (reads n next) name e = at_absent files n name _ _ (λ bytes. absent_file files (next bytes) name) (get files n) refl e
absent_file files (refuses r) name e = absurd (cc)
absent_file files (has x) name e = absurd (cc)

at_long : {X : Type 0} (files : Files) (n name : List ℕ) (v : List ℕ → Verdict X) (names : List ℕ → List (List ℕ))
    → ((bytes : List ℕ) → v bytes ≡ too_long name → Contains (names bytes) name × IsSomeAnd (get files name) (λ b. LONGEST < length b))
    → (o : Option (List ℕ)) → get files n ≡ o → at_file n v o ≡ too_long name → Contains (n ∷ reads_after names o) name × IsSomeAnd (get files name) (λ b. LONGEST < length b)
at_long files n name v names later None is e = absurd (cc)
at_long files n name v names later (Some bytes) is e =
    elim (nat_lt LONGEST (length bytes)) as (λ b. nat_lt LONGEST (length bytes) ≡ b → cond b (too_long n) (v bytes) ≡ too_long name
    → Contains (n ∷ cond b [] (names bytes)) name × IsSomeAnd (get files name) (λ b. LONGEST < length b)) [
      | true ↦ λ t h.
          let same : n ≡ name = cc in (
            subst (λ (m : List ℕ). Contains (m ∷ []) name) (sym same) (first_of_names name []),
            subst (λ (m : List ℕ). IsSomeAnd (get files m) (λ b. LONGEST < length b)) same
                (subst (λ (o : Option (List ℕ)). IsSomeAnd o (λ b. LONGEST < length b)) (sym is) (ltb-true LONGEST (length bytes) t)),
          )
      | false ↦ λ t h. let rest = later bytes h in (Contains-append_right (n ∷ []) _ name rest.0, rest.1)
    ] refl e

-- a name of a file that is too long is read
pub long_file : {X : Type 0} (files : Files) (p : Plan X) (name : List ℕ) → verdict files p ≡ too_long name → Contains (names_read files p) name × IsSomeAnd (get files name) (λ b. LONGEST < length b)
long_file files (reads n next) name e = at_long files n name _ _ (λ bytes. long_file files (next bytes) name) (get files n) refl e
long_file files (refuses r) name e = absurd (cc)
long_file files (has x) name e = absurd (cc)

self_IfSome : (o now : Option Files) (P : Files → Type 0) → now ≡ o → IfSome o P → IfSome o (λ files. P files × (now ≡ Some files))
self_IfSome None now P e t = tt
self_IfSome (Some files) now P e t = (t, e)

map_IfSome : (o : Option Files) {P Q : Files → Type 0} → ((files : Files) → P files → Q files) → IfSome o P → IfSome o Q
map_IfSome None f t = tt
map_IfSome (Some files) f t = f files t

-- what a gathering that ends says of the files, which stay
answers_end : (command : Command) (files : Files) (old new : Shelved) (from : Sunk) (end : Status)
    → StopTold command.plan command.Makes files new end → new.files ≡ Some files → Answers command files old new from from end
answers_end command files old new from (status.Refused r) t kept = (t, kept)
answers_end command files old new from (status.Absent name) t kept =
    let h = absent_file files command.plan name t.0 in (t.0, record { last = t.1; is_read = h.0; kept = kept }, h.1)
answers_end command files old new from (status.TooLong name) t kept =
    let h = long_file files command.plan name t.0 in (t.0, record { last = t.1; is_read = h.0; kept = kept }, h.1)
answers_end command files old new from (status.ShelfFault name) t kept = inl (record { last = t.1; is_read = t.0; kept = kept })
answers_end command files old new from status.NoMemory t kept = inl kept
answers_end command files old new from status.Done t kept = absurd t
answers_end command files old new from status.Usage t kept = absurd t
answers_end command files old new from status.SinkFault t kept = absurd t

cause_end : (old new : Shelved) (from : Sunk) (end : Status) → StopCause old new end → Cause old new from from end × Quiet from from end × (end ≢ status.Usage)
cause_end old new from (status.Refused r) c = (tt, refl, λ e. absurd (cc))
cause_end old new from (status.Absent name) c = (c, refl, λ e. absurd (cc))
cause_end old new from (status.TooLong name) c = (c, refl, λ e. absurd (cc))
cause_end old new from (status.ShelfFault name) c = (c, refl, λ e. absurd (cc))
cause_end old new from status.NoMemory c = (tt, refl, λ e. absurd (cc))
cause_end old new from status.Done c = absurd c
cause_end old new from status.Usage c = absurd c
cause_end old new from status.SinkFault c = absurd c

pub acts_end : (command : Command) (old new : Shelved) (from : Sunk) (end : Status)
    → Gathers {T = Todo} command.plan command.Makes old new (Err end) → Acts command old new from from end
acts_end command old new from end a =
    let h = cause_end old new from end a.cause in
    record {
      form = h.2;
      cause = h.0;
      quiet = h.1;
      told = map_IfSome old.files (λ files t. answers_end command files old new from end t.0 t.1) (self_IfSome old.files new.files _ a.files a.told);
    }
