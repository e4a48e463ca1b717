-- What gathering and publishing give together, and what that decides.
use Rattle.std.proofs.Common.{◌≡◌, ◌≢◌, ◌⊎◌, inl, inr, ℕ, ◌+◌, ◌<◌, true, false, List, [], ◌∷◌, length, Option, Some}
use Rattle.std.proofs.Common.{None, IfSome, IfNone, IsSomeAnd, Contains, Result, Ok, Err, nat_lt, cond, refl, sym, ap}
use Rattle.std.proofs.Common.{subst, ◌∙◌, arith}
use Rattle.std.proofs.lemmas.List.Elements.{Contains-append_right}
use Rattle.std.proofs.lemmas.Bool.{ltb-true}
use Rattle.std.specs.FinMap.{get}
use Rattle.cjc_bytes.specs.declared.fault.Refusal.{Refusal}
use Rattle.cjc_shelf.specs.Count.{Rose}
use Rattle.cjc_shelf.specs.Shelf.{Files, Shelved, longest_file}
use Rattle.cjc_shelf.specs.Sink.{Sunk}
use Rattle.cjc_shelf.specs.Command.Plan.{Plan, reads, refuses, has, Verdict, at_file, verdict, names_read, reads_after}
use Rattle.cjc_shelf.specs.Command.Plan.{Ends, EndsBy, IsRead, at_once, known_end, absent, too_long, refused, complete}
use Rattle.cjc_shelf.specs.Command.Gather.{StopCause, StopEnds, Gathers}
use Rattle.cjc_shelf.specs.Command.Publish.{Quiet, PublishCause, PublishEnds, Publishes}
use Rattle.cjc_shelf.specs.Command.Answer.{Command, Cause, IsReady, Answers, IsMade, Decides, IsDecided, IsComplete}
use Rattle.cjc_shelf.specs.Command.Answer.{Acts}
use Rattle.cjc_shelf.specs.declared.command.status.Status.{Status}
use Rattle.cjc_shelf.specs.declared.command.status.Status.TheVariants as status
use Rattle.cjc_shelf.specs.declared.command.status.Todo.{Todo}
use Rattle.cjc_shelf.proofs.CommandLaws.Gathering.{rose_later}

-- ---- a name at which the reads ended is read

first_of_names : (name : List ℕ) (names : List (List ℕ)) → Contains (name ∷ names) name
first_of_names name names = (0, omega arith, refl)

-- a verdict on a file at which a reading stopped, by the verdicts of what follows
at_absent : {X : Type 0} (files : Files) (n name : List ℕ) (v : List ℕ → Verdict X) (names : List ℕ → List (List ℕ))
    → ((bytes : List ℕ) → v bytes ≡ absent name → Contains (names bytes) name × (get files name ≡ None))
    → (o : Option (List ℕ)) → get files n ≡ o → at_file n v o ≡ absent name → Contains (n ∷ reads_after names o) name
    × (get files name ≡ None)
at_absent files n name v names later None is e =
    let same : n ≡ name = cc in
    (subst (λ (m : List ℕ). Contains (m ∷ []) name) (sym same) (first_of_names name []), ap (get files) (sym same) ∙ is)
at_absent files n name v names later (Some bytes) is e =
    elim (nat_lt longest_file (length bytes)) as (λ b. cond b (too_long n) (v bytes) ≡ absent name
    → Contains (n ∷ cond b [] (names bytes)) name × (get files name ≡ None)) [
      | true ↦ λ h. absurd (cc)
      | false ↦ λ h. let rest = later bytes h in (Contains-append_right (n ∷ []) _ name rest.0, rest.1)
    ] e

-- a name that is absent is read
absent_file : {X : Type 0} (files : Files) (p : Plan X) (name : List ℕ) → verdict files p ≡ absent name
    → Contains (names_read files p) name × (get files name ≡ None)
absent_file files (reads n next) name e = at_absent files n name _ _ (λ bytes. absent_file files (next bytes) name)
    (get files n) refl e
absent_file files (refuses r) name e = absurd (cc)
absent_file files (has x) name e = absurd (cc)

at_long : {X : Type 0} (files : Files) (n name : List ℕ) (v : List ℕ → Verdict X) (names : List ℕ → List (List ℕ))
    → ((bytes : List ℕ) → v bytes ≡ too_long name → Contains (names bytes) name
    × IsSomeAnd (get files name) (λ b. longest_file < length b))
    → (o : Option (List ℕ)) → get files n ≡ o → at_file n v o ≡ too_long name → Contains (n ∷ reads_after names o) name
    × IsSomeAnd (get files name) (λ b. longest_file < length b)
at_long files n name v names later None is e = absurd (cc)
at_long files n name v names later (Some bytes) is e =
    elim (nat_lt longest_file (length bytes)) as (λ b. nat_lt longest_file (length bytes) ≡ b
    → cond b (too_long n) (v bytes) ≡ too_long name
    → Contains (n ∷ cond b [] (names bytes)) name × IsSomeAnd (get files name) (λ b. longest_file < length b)) [
      | true ↦ λ t h.
          let same : n ≡ name = cc in (
            subst (λ (m : List ℕ). Contains (m ∷ []) name) (sym same) (first_of_names name []),
            subst (λ (m : List ℕ). IsSomeAnd (get files m) (λ b. longest_file < length b)) same
                (subst (λ (o : Option (List ℕ)). IsSomeAnd o (λ b. longest_file < length b)) (sym is)
                (ltb-true longest_file (length bytes) t)),
          )
      | false ↦ λ t h. let rest = later bytes h in (Contains-append_right (n ∷ []) _ name rest.0, rest.1)
    ] refl e

-- a name of a file that is too long is read
long_file : {X : Type 0} (files : Files) (p : Plan X) (name : List ℕ) → verdict files p ≡ too_long name
    → Contains (names_read files p) name × IsSomeAnd (get files name) (λ b. longest_file < length b)
long_file files (reads n next) name e = at_long files n name _ _ (λ bytes. long_file files (next bytes) name)
    (get files n) refl e
long_file files (refuses r) name e = absurd (cc)
long_file files (has x) name e = absurd (cc)

long_ends : {X : Type 0} (p : Plan X) (name : List ℕ) → Ends p (too_long name) → Ends p (absent name)
long_ends (reads n next) name (inl e) = absurd (cc)
long_ends (reads n next) name (inr (inl e)) = inl (let same : name ≡ n = cc in ap absent same)
long_ends (reads n next) name (inr (inr (bytes, short, more))) =
    inr (inr (bytes, short, long_ends (next bytes) name more))
long_ends (refuses r) name e = absurd (cc)
long_ends (has x) name e = absurd (cc)

absent_read : {X : Type 0} (told : Option Files) (p : Plan X) (name : List ℕ) → EndsBy told p (absent name)
    → IsRead told p name × IfSome told (λ files. get files name ≡ None)
absent_read None p name e = (e, tt)
absent_read (Some files) p name e = absent_file files p name e

long_read : {X : Type 0} (told : Option Files) (p : Plan X) (name : List ℕ) → EndsBy told p (too_long name)
    → IsRead told p name × IfSome told (λ files. IsSomeAnd (get files name) (λ b. longest_file < length b))
long_read None p name e = (long_ends p name e, tt)
long_read (Some files) p name e = long_file files p name e

-- ---- a gathering that ends all

cause_end : (old new : Shelved) (from : Sunk) (end : Status) → StopCause old new end → Cause old new from from end
    × Quiet from from end × (end ≢ status.Usage)
cause_end old new from (status.Refused r) c = (tt, refl, λ e. absurd (cc))
cause_end old new from (status.Absent name) c = (c, refl, λ e. absurd (cc))
cause_end old new from (status.TooLong name) c = (c, refl, λ e. absurd (cc))
cause_end old new from (status.ShelfFault name) c = (c, refl, λ e. absurd (cc))
cause_end old new from status.NoMemory c = (tt, refl, λ e. absurd (cc))
cause_end old new from status.Done c = absurd c
cause_end old new from status.Usage c = absurd c
cause_end old new from status.SinkFault c = absurd c

answers_end : (command : Command) (old new : Shelved) (from : Sunk) (end : Status)
    → Gathers {T = Todo} command.plan command.Makes old new (Err end)
    → StopEnds command.plan command.Makes old.files new end → Answers command old new from from end
answers_end command old new from (status.Refused r) g t = (t, g.files)
answers_end command old new from (status.Absent name) g t =
    let h = absent_read old.files command.plan name t.0 in (
      t.0,
      record { is_read = h.0; last = t.1; kept = g.files },
      h.1,
    )
answers_end command old new from (status.TooLong name) g t =
    let h = long_read old.files command.plan name t.0 in (
      t.0,
      record { is_read = h.0; last = t.1; kept = g.files },
      h.1,
    )
answers_end command old new from (status.ShelfFault name) g t = inl (record {
  is_read = t.0;
  last = t.1;
  kept = g.files;
})
answers_end command old new from status.NoMemory g t = inl (record { kept = g.files; wants = g.wants; last = g.last })
answers_end command old new from status.Done g t = absurd t
answers_end command old new from status.Usage g t = absurd t
answers_end command old new from status.SinkFault g t = absurd t

pub acts_end : (command : Command) (old new : Shelved) (from : Sunk) (end : Status)
    → Gathers {T = Todo} command.plan command.Makes old new (Err end) → Acts command old new from from end
acts_end command old new from end g =
    let h = cause_end old new from end g.cause in
    record { form = h.2; cause = h.0; quiet = h.1; answers = answers_end command old new from end g g.ends }

-- ---- a gathering that is published

published : (command : Command) (old mid new : Shelved) (from to : Sunk) (todo : Todo) (answer : Status)
    → Gathers command.plan command.Makes old mid (Ok todo)
    → PublishCause mid new from to answer → PublishEnds old.files todo new from to answer → Cause old new from to answer
    × Answers command old new from to answer × (answer ≢ status.Usage)
published command old mid new from to todo answer g c p =
    let ready : IsReady command old.files todo = record { inputs = g.ends.0; read = g.ends.1; made = g.ends.2 } in
    let wants : old.wants ≡ mid.wants = sym g.wants in
    elim answer as (λ (a : Status). PublishCause mid new from to a → PublishEnds old.files todo new from to a
    → Cause old new from to a × Answers command old new from to a × (a ≢ status.Usage)) [
      | status.Done ↦ λ c p. (tt, (todo, ready, p.0, p.1), λ e. absurd (cc))
      | status.Usage ↦ λ c p. absurd c
      | status.Refused r ↦ λ c p. absurd c
      | status.Absent name ↦ λ c p. absurd c
      | status.TooLong name ↦ λ c p. absurd c
      | status.ShelfFault name ↦ λ c p. (
        rose_later old.faults mid.faults new.faults g.goes_on.faults c,
        inr (todo, ready, p),
        λ e. absurd (cc),
      )
      | status.SinkFault ↦ λ c p. (c, (todo, ready, p.0, p.1), λ e. absurd (cc))
      | status.NoMemory ↦ λ c p. (
        tt,
        inr (todo, ready, p, subst (λ (n : ℕ). Rose n new.wants) (sym wants) c),
        λ e. absurd (cc),
      )
    ] c p

pub acts_published : (command : Command) (old mid new : Shelved) (from to : Sunk) (todo : Todo) (answer : Status)
    → Gathers command.plan command.Makes old mid (Ok todo)
    → Publishes todo mid new from to answer → Acts command old new from to answer
acts_published command old mid new from to todo answer g p =
    let h = published command old mid new from to todo answer g p.cause (subst (λ (o : Option Files). PublishEnds o todo
    new from to answer) g.files p.ends) in
    record { form = h.2; cause = h.0; quiet = p.quiet; answers = h.1 }

-- ---- what is decided

if_known : {V : Type 0} (o : Option V) (P : V → Type 0) → ((v : V) → o ≡ Some v → P v) → IfSome o P
if_known None P f = tt
if_known (Some v) P f = f v refl

ends_once : {X : Type 0} (p : Plan X) (known end : Verdict X) → at_once p ≡ Some known → Ends p end → known ≡ end
ends_once (reads name next) known end k e = absurd (cc)
ends_once (refuses r) known end k e = let same : refused r ≡ known = cc in sym same ∙ sym e
ends_once (has x) known end k e = let same : complete x ≡ known = cc in sym same ∙ sym e

ends_known : {X : Type 0} (told : Option Files) (p : Plan X) (known end : Verdict X) → known_end told p ≡ Some known
    → EndsBy told p end → known ≡ end
ends_known None p known end k e = ends_once p known end k e
ends_known (Some files) p known end k e = let same : verdict files p ≡ known = cc in sym same ∙ e

decides : (command : Command) (old new : Shelved) (from to : Sunk) (answer : Status) (known : Verdict command.Inputs)
    → answer ≢ status.Usage → Cause old new from to answer
    → Answers command old new from to answer → (Rose old.faults new.faults → ⊥) → (Rose from.faults to.faults → ⊥)
    → known_end old.files command.plan ≡ Some known
    → (answer ≡ status.NoMemory) ⊎ Decides command known answer
decides command old new from to status.Usage known u c a q s k = absurd a
decides command old new from to status.NoMemory known u c a q s k = inl refl
decides command old new from to (status.ShelfFault name) known u c a q s k = absurd (q c)
decides command old new from to status.SinkFault known u c a q s k = absurd (s c)
decides command old new from to (status.Absent name) known u c a q s k =
    inr (subst (λ (v : Verdict command.Inputs). Decides command v (status.Absent name))
    (sym (ends_known old.files command.plan known (absent name) k a.0)) refl)
decides command old new from to (status.TooLong name) known u c a q s k =
    inr (subst (λ (v : Verdict command.Inputs). Decides command v (status.TooLong name))
    (sym (ends_known old.files command.plan known (too_long name) k a.0)) refl)
decides command old new from to (status.Refused r) known u c a q s k = inr (elim a.0 [
  | inl e ↦ subst (λ (v : Verdict command.Inputs). Decides command v (status.Refused r))
      (sym (ends_known old.files command.plan known (refused r) k e)) refl
  | inr (inputs, e, broken) ↦ subst (λ (v : Verdict command.Inputs). Decides command v (status.Refused r))
      (sym (ends_known old.files command.plan known (complete inputs) k e)) broken
])
decides command old new from to status.Done known u c a q s k =
    let ready : IsReady command old.files a.0 = a.1 in
    inr (subst (λ (v : Verdict command.Inputs). Decides command v status.Done)
    (sym (ends_known old.files command.plan known (complete ready.inputs) k ready.read)) (a.0, ready.made))

pub is_decided : (command : Command) (old new : Shelved) (from to : Sunk) (answer : Status)
    → Acts command old new from to answer → IsDecided command old new from to answer
is_decided command old new from to answer a =
    λ q s. if_known (known_end old.files command.plan) _ (λ known k. decides command old new from to answer known a.form
    a.cause a.answers q s k)

made_done : (Makes : Result Todo Refusal → Type 0) (answer : Status) → ((r : Refusal) → Makes (Err r) → ⊥)
    → IsMade Makes answer → answer ≡ status.Done
made_done Makes (status.Refused r) unbroken m = absurd (unbroken r m)
made_done Makes status.Done unbroken m = refl
made_done Makes (status.Absent name) unbroken m = absurd m
made_done Makes (status.TooLong name) unbroken m = absurd m
made_done Makes status.Usage unbroken m = absurd m
made_done Makes (status.ShelfFault name) unbroken m = absurd m
made_done Makes status.SinkFault unbroken m = absurd m
made_done Makes status.NoMemory unbroken m = absurd m

pub is_complete : (command : Command) (old new : Shelved) (from to : Sunk) (answer : Status)
    → Acts command old new from to answer → IsComplete command old new from to answer
is_complete command old new from to answer a =
    λ q s. if_known (known_end old.files command.plan) _ (λ known k inputs is unbroken.
    elim (decides command old new from to answer known a.form a.cause a.answers q s k) [
      | inl memory ↦ inl memory
      | inr decided ↦ inr (made_done (command.Makes inputs) answer unbroken
          (subst (λ (v : Verdict command.Inputs). Decides command v answer) is decided))
    ])
