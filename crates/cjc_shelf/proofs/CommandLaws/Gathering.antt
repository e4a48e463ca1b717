-- How the reads of a plan go on from those of its beginning.
use Rattle.std.proofs.Common.{◌≡◌, ◌⊎◌, inl, inr, ℕ, ◌+◌, ◌<◌, ◌≤◌, true, false, List, [], ◌∷◌, ◌++◌, length, Option}
use Rattle.std.proofs.Common.{Some, None, IfSome, IfNone, IsSomeAnd, Contains, Result, Ok, Err, nat_lt, cond, refl, sym}
use Rattle.std.proofs.Common.{ap, subst, ◌∙◌, arith}
use Rattle.std.proofs.lemmas.Bool.{le-ltb, lt-ltb}
use Rattle.std.proofs.lemmas.List.Elements.{Contains-append_left, Contains-append_right}
use Rattle.std.specs.FinMap.{get}
use Rattle.cjc_bytes.specs.declared.fault.Refusal.{Refusal}
use Rattle.cjc_shelf.specs.Count.{Rose}
use Rattle.cjc_shelf.specs.Shelf.{Files, Shelved, GoesOn, Reads, ReadCause, ReadTold, longest_file}
use Rattle.cjc_shelf.specs.declared.shelf.ReadEnd.{ReadEnd}
use Rattle.cjc_shelf.specs.declared.shelf.ReadEnd.TheVariants as ends
use Rattle.cjc_shelf.specs.Command.Plan.{Plan, reads, refuses, has, ◌>>=◌, read, Verdict, at_file, verdict, names_read}
use Rattle.cjc_shelf.specs.Command.Plan.{reads_after, Ends, EndsBy, IsRead, absent, too_long, refused, complete}
use Rattle.cjc_shelf.specs.Command.Gather.{GatherCause, StaysOrReads, StopEnds, GatherEnds, Gathers, IsSame}
use Rattle.cjc_shelf.specs.declared.command.status.Status.{Status}
use Rattle.cjc_shelf.specs.declared.command.status.Status.TheVariants as status

-- what follows where all was read
abbrev pub on_complete : {X Y : Type 0} → Verdict X → (X → Verdict Y) → Verdict Y
on_complete (absent name) f = absent name
on_complete (too_long name) f = too_long name
on_complete (refused r) f = refused r
on_complete (complete x) f = f x

abbrev pub names_on_complete : {X : Type 0} → Verdict X → (X → List (List ℕ)) → List (List ℕ)
names_on_complete (absent name) f = []
names_on_complete (too_long name) f = []
names_on_complete (refused r) f = []
names_on_complete (complete x) f = f x

at_file-on : {X Y : Type 0} (name : List ℕ) (v : List ℕ → Verdict X) (w : List ℕ → Verdict Y) (f : X → Verdict Y)
    → ((bytes : List ℕ) → w bytes ≡ on_complete (v bytes) f)
    → (o : Option (List ℕ)) → at_file name w o ≡ on_complete (at_file name v o) f
at_file-on name v w f same None = refl
at_file-on name v w f same (Some bytes) =
    elim (nat_lt longest_file (length bytes)) as (λ b. cond b (too_long name) (w bytes)
    ≡ on_complete (cond b (too_long name) (v bytes)) f) [ true ↦ refl | false ↦ same bytes ]

pub verdict-then : {X Y : Type 0} (files : Files) (p : Plan X) (f : X → Plan Y) → verdict files (p >>= f)
    ≡ on_complete (verdict files p) (λ x. verdict files (f x))
verdict-then files (reads name next) f = at_file-on name _ _ _ (λ bytes. verdict-then files (next bytes) f)
    (get files name)
verdict-then files (refuses r) f = refl
verdict-then files (has x) f = refl

names-on : {X : Type 0} (name : List ℕ) (v : List ℕ → Verdict X) (n m : List ℕ → List (List ℕ)) (f : X → List (List ℕ))
    → ((bytes : List ℕ) → m bytes ≡ n bytes ++ names_on_complete (v bytes) f)
    → (o : Option (List ℕ)) → reads_after m o ≡ reads_after n o ++ names_on_complete (at_file name v o) f
names-on name v n m f same None = refl
names-on name v n m f same (Some bytes) =
    elim (nat_lt longest_file (length bytes)) as (λ b. cond b [] (m bytes) ≡ cond b [] (n bytes)
    ++ names_on_complete (cond b (too_long name) (v bytes)) f) [ true ↦ refl | false ↦ same bytes ]

pub names_read-then : {X Y : Type 0} (files : Files) (p : Plan X) (f : X → Plan Y) → names_read files (p >>= f)
    ≡ names_read files p ++ names_on_complete (verdict files p) (λ x. names_read files (f x))
names_read-then files (reads name next) f =
    ap (λ names. name ∷ names) (names-on name _ _ _ _ (λ bytes. names_read-then files (next bytes) f) (get files name))
names_read-then files (refuses r) f = refl
names_read-then files (has x) f = refl

-- counts that never fall, twice
pub goes_on_twice : {old mid new : Shelved} → GoesOn old mid → GoesOn mid new → GoesOn old new
goes_on_twice a b = record { misses = omega arith; faults = omega arith; wants = omega arith }

pub rose_later : (old mid new : ℕ) → old ≤ mid → Rose mid new → Rose old new
rose_later old mid new a b = omega arith

pub rose_before : (old mid new : ℕ) → Rose old mid → mid ≤ new → Rose old new
rose_before old mid new a b = omega arith

-- how the whole ends where its beginning ends so
abbrev pub Follows : {X Y : Type 0} → Option Files → (X → Plan Y) → Verdict X → Verdict Y → Type 0
Follows told f (absent name) end = end ≡ absent name
Follows told f (too_long name) end = end ≡ too_long name
Follows told f (refused r) end = end ≡ refused r
Follows told f (complete x) end = EndsBy told (f x) end

follows_files : {X Y : Type 0} (files : Files) (f : X → Plan Y) (first : Verdict X) (end : Verdict Y)
    → Follows (Some files) f first end → on_complete first (λ x. verdict files (f x)) ≡ end
follows_files files f (absent name) end h = sym h
follows_files files f (too_long name) end h = sym h
follows_files files f (refused r) end h = sym h
follows_files files f (complete x) end h = h

-- some answers to the first reads, and then to the others
ends-then : {X Y : Type 0} (p : Plan X) (f : X → Plan Y) (first : Verdict X) (end : Verdict Y)
    → Follows None f first end → Ends p first → Ends (p >>= f) end
ends-then (reads name next) f first end h (inl e) = inl (subst (λ v. Follows None f v end) e h)
ends-then (reads name next) f first end h (inr (inl e)) = inr (inl (subst (λ v. Follows None f v end) e h))
ends-then (reads name next) f first end h (inr (inr (bytes, short, more))) =
    inr (inr (bytes, short, ends-then (next bytes) f first end h more))
ends-then (refuses r) f first end h e = subst (λ v. Follows None f v end) e h
ends-then (has x) f first end h e = subst (λ v. Follows None f v end) e h

pub ends_by-then : {X Y : Type 0} (told : Option Files) (p : Plan X) (f : X → Plan Y) (first : Verdict X)
    (end : Verdict Y) → Follows told f first end → EndsBy told p first
    → EndsBy told (p >>= f) end
ends_by-then None p f first end h e = ends-then p f first end h e
ends_by-then (Some files) p f first end h e = verdict-then files p f
    ∙ ap (λ v. on_complete v (λ x. verdict files (f x))) e ∙ follows_files files f first end h

names_after : {X Y : Type 0} (files : Files) (p : Plan X) (f : X → Plan Y) (x : X) → verdict files p ≡ complete x
    → names_read files (p >>= f) ≡ names_read files p ++ names_read files (f x)
names_after files p f x e = names_read-then files p f ∙ ap (λ v. names_read files p
    ++ names_on_complete v (λ y. names_read files (f y))) e

is_among : (names more : List (List ℕ)) (name : List ℕ) → more ≡ names → Contains names name → Contains more name
is_among names more name e h = subst (λ (ns : List (List ℕ)). Contains ns name) (sym e) h

-- a name that the first part reads
read_first : {X Y : Type 0} (told : Option Files) (p : Plan X) (f : X → Plan Y) (name : List ℕ) → IsRead told p name
    → IsRead told (p >>= f) name
read_first None p f name h = ends-then p f (absent name) (absent name) refl h
read_first (Some files) p f name h = is_among _ _ name (names_read-then files p f) (Contains-append_left _ _ name h)

-- a name that the rest reads
read_next : {X Y : Type 0} (told : Option Files) (p : Plan X) (f : X → Plan Y) (x : X) (name : List ℕ)
    → EndsBy told p (complete x) → IsRead told (f x) name → IsRead told (p >>= f) name
read_next None p f x name e h = ends-then p f (complete x) (absent name) h e
read_next (Some files) p f x name e h = is_among _ _ name (names_after files p f x e) (Contains-append_right _ _ name h)

last_first : {X Y : Type 0} (told : Option Files) (p : Plan X) (f : X → Plan Y) (old new : Shelved)
    → StaysOrReads told p old new → StaysOrReads told (p >>= f) old new
last_first None p f old new h = tt
last_first (Some files) p f old new h = elim h [
  | inl same ↦ inl same
  | inr among ↦ inr (read_first (Some files) p f new.last among)
]

last_next : {X Y : Type 0} (told : Option Files) (p : Plan X) (f : X → Plan Y) (x : X) (old mid new : Shelved)
    → EndsBy told p (complete x) → StaysOrReads told p old mid
    → StaysOrReads told (f x) mid new → StaysOrReads told (p >>= f) old new
last_next None p f x old mid new e a b = tt
last_next (Some files) p f x old mid new e a b = elim b [
  | inl same ↦ elim a [
    | inl before ↦ inl (same ∙ before)
    | inr among ↦ inr (is_among _ _ new.last (names_read-then files p f) (Contains-append_left _ _ new.last
        (subst (λ (n : List ℕ). Contains (names_read files p) n) (sym same) among)))
  ]
  | inr among ↦ inr (read_next (Some files) p f x new.last e among)
]

module _ {X Y U : Type 0} (told : Option Files) (p : Plan X) (f : X → Plan Y) (Q : Y → Result U Refusal → Type 0) where
  -- after the first part, what is gathered by the rest
  ends_after : (new : Shelved) (x : X) (result : Result U Status) → EndsBy told p (complete x)
      → GatherEnds (f x) Q told new result → GatherEnds (p >>= f) Q told new result
  ends_after new x result e rest =
      let on : (end : Verdict Y) → EndsBy told (f x) end → EndsBy told (p >>= f) end =
      λ end h. ends_by-then told p f (complete x) end h e in
      elim result as (λ r. GatherEnds (f x) Q told new r → GatherEnds (p >>= f) Q told new r) [
        | Ok made ↦ λ t. (t.0, on _ t.1, t.2)
        | Err end ↦ elim end as (λ s. StopEnds (f x) Q told new s → StopEnds (p >>= f) Q told new s) [
          | status.Done ↦ λ t. t
          | status.Usage ↦ λ t. t
          | status.Refused r ↦ λ t. elim t [ inl u ↦ inl (on _ u) | inr u ↦ inr (u.0, on _ u.1, u.2) ]
          | status.Absent name ↦ λ t. (on _ t.0, t.1)
          | status.TooLong name ↦ λ t. (on _ t.0, t.1)
          | status.ShelfFault name ↦ λ t. (read_next told p f x name e t.0, t.1)
          | status.SinkFault ↦ λ t. t
          | status.NoMemory ↦ λ t. t
        ]
      ] rest

  -- the end of the first part is the end of all
  ends_first : (new : Shelved) (end : Status) → GatherEnds p IsSame told new (Err end)
      → GatherEnds (p >>= f) Q told new (Err end)
  ends_first new end first =
      elim end as (λ s. StopEnds p IsSame told new s → StopEnds (p >>= f) Q told new s) [
        | status.Done ↦ λ t. t
        | status.Usage ↦ λ t. t
        | status.Refused r ↦ λ t. elim t [
          | inl u ↦ inl (ends_by-then told p f (refused r) (refused r) refl u)
          | inr u ↦ let h = u.2 in absurd (cc)
        ]
        | status.Absent name ↦ λ t. (ends_by-then told p f (absent name) (absent name) refl t.0, t.1)
        | status.TooLong name ↦ λ t. (ends_by-then told p f (too_long name) (too_long name) refl t.0, t.1)
        | status.ShelfFault name ↦ λ t. (read_first told p f name t.0, t.1)
        | status.SinkFault ↦ λ t. t
        | status.NoMemory ↦ λ t. t
      ] first

-- a cause that came later, where the files and the counts before went on
cause_after : {T : Type 0} (old mid new : Shelved) (result : Result T Status) → GoesOn old mid → mid.files ≡ old.files
    → GatherCause mid new result → GatherCause old new result
cause_after old mid new (Ok made) g e c = c
cause_after old mid new (Err (status.Refused r)) g e c = c
cause_after old mid new (Err (status.Absent name)) g e c = rose_later _ _ _ g.misses c
cause_after old mid new (Err (status.TooLong name)) g e c =
    subst (λ (o : Option Files). IfNone o (new.taken ≡ longest_file + 1)) e c
cause_after old mid new (Err (status.ShelfFault name)) g e c = rose_later _ _ _ g.faults c
cause_after old mid new (Err status.NoMemory) g e c = c
cause_after old mid new (Err status.Done) g e c = c
cause_after old mid new (Err status.Usage) g e c = c
cause_after old mid new (Err status.SinkFault) g e c = c

complete_of : {X : Type 0} (told : Option Files) (p : Plan X) (new : Shelved) (x : X)
    → GatherEnds p IsSame told new (Ok x) → EndsBy told p (complete x)
complete_of told p new x t = let h = t.2 in let e : t.0 ≡ x = cc in subst (λ y. EndsBy told p (complete y)) e t.1

-- The first part gave x, and the rest follows the plan from there.
pub gathers_then : {X Y U : Type 0} (p : Plan X) (f : X → Plan Y) (Q : Y → Result U Refusal
    → Type 0) (old mid new : Shelved) (x : X) (result : Result U Status)
    → Gathers p IsSame old mid (Ok x) → Gathers (f x) Q mid new result → Gathers (p >>= f) Q old new result
gathers_then p f Q old mid new x result a b =
    let e = complete_of old.files p mid x a.ends in
    record {
      goes_on = goes_on_twice a.goes_on b.goes_on;
      files = b.files ∙ a.files;
      wants = b.wants ∙ a.wants;
      last = last_next old.files p f x old mid new e a.last (subst (λ (o : Option Files). StaysOrReads o (f x) mid new)
          a.files b.last);
      cause = cause_after old mid new result a.goes_on a.files b.cause;
      ends = ends_after old.files p f Q new x result e (subst (λ (o : Option Files). GatherEnds (f x) Q o new result)
          a.files b.ends);
    }

-- The first part was the end.
pub gathers_end : {X Y U : Type 0} (p : Plan X) (f : X → Plan Y) (Q : Y → Result U Refusal → Type 0) (old new : Shelved)
    (end : Status)
    → Gathers {T = X} p IsSame old new (Err end) → Gathers (p >>= f) Q old new (Err end)
gathers_end p f Q old new end a = record {
  goes_on = a.goes_on;
  files = a.files;
  wants = a.wants;
  last = last_first old.files p f old new a.last;
  cause = a.cause;
  ends = ends_first old.files p f Q new end a.ends;
}

-- ---- no more is read

pub stays : (s : Shelved) → GoesOn s s
stays s = record { misses = omega arith; faults = omega arith; wants = omega arith }

last_stays : {X : Type 0} (told : Option Files) (p : Plan X) (s : Shelved) → StaysOrReads told p s s
last_stays None p s = tt
last_stays (Some files) p s = inl refl

at_has : {X : Type 0} (told : Option Files) (x : X) → EndsBy told (has x) (complete x)
at_has None x = refl
at_has (Some files) x = refl

at_refuses : (X : Type 0) (told : Option Files) (r : Refusal) → EndsBy {X = X} told (refuses r) (refused r)
at_refuses X None r = refl
at_refuses X (Some files) r = refl

pub gathers_no_memory : {X T : Type 0} (p : Plan X) (Q : X → Result T Refusal → Type 0) (s : Shelved)
    → Gathers p Q s s (Err status.NoMemory)
gathers_no_memory p Q s = record {
  goes_on = stays s;
  files = refl;
  wants = refl;
  last = last_stays s.files p s;
  cause = tt;
  ends = tt;
}

pub gathers_has : {X T : Type 0} (x : X) (Q : X → Result T Refusal → Type 0) (s : Shelved) (made : T) → Q x (Ok made)
    → Gathers (has x) Q s s (Ok made)
gathers_has x Q s made q = record {
  goes_on = stays s;
  files = refl;
  wants = refl;
  last = last_stays s.files (has x) s;
  cause = tt;
  ends = (x, at_has s.files x, q);
}

-- what was read breaks a rule
pub gathers_breaks : {X T : Type 0} (x : X) (Q : X → Result T Refusal → Type 0) (s : Shelved) (r : Refusal)
    → Q x (Err r) → Gathers {T = T} (has x) Q s s (Err (status.Refused r))
gathers_breaks x Q s r q = record {
  goes_on = stays s;
  files = refl;
  wants = refl;
  last = last_stays s.files (has x) s;
  cause = tt;
  ends = inr (x, at_has s.files x, q);
}

pub gathers_refused : {X T : Type 0} (Q : X → Result T Refusal → Type 0) (s : Shelved) (r : Refusal)
    → Gathers {T = T} (refuses r) Q s s (Err (status.Refused r))
gathers_refused {X} Q s r = record {
  goes_on = stays s;
  files = refl;
  wants = refl;
  last = last_stays {X = X} s.files (refuses r) s;
  cause = tt;
  ends = inl (at_refuses X s.files r);
}

-- ---- one read

-- what a read gives a command
abbrev pub as_read : List ℕ → Result (List ℕ) ReadEnd → Result (List ℕ) Status
as_read name (Ok bytes) = Ok bytes
as_read name (Err ends.Absent) = Err (status.Absent name)
as_read name (Err ends.TooLong) = Err (status.TooLong name)
as_read name (Err ends.Failed) = Err (status.ShelfFault name)
as_read name (Err ends.NoMemory) = Err status.NoMemory

read_cause : (name : List ℕ) (old new : Shelved) (r : Result (List ℕ) ReadEnd) → ReadCause old new r
    → GatherCause old new (as_read name r)
read_cause name old new (Ok bytes) c = tt
read_cause name old new (Err ends.Absent) c = c
read_cause name old new (Err ends.TooLong) c = c
read_cause name old new (Err ends.Failed) c = c
read_cause name old new (Err ends.NoMemory) c = c

first_is : (name last : List ℕ) (rest : List (List ℕ)) → last ≡ name → Contains (name ∷ rest) last
first_is name last rest e = (0, omega arith, sym e)

read_last : (name : List ℕ) (old new : Shelved) (r : Result (List ℕ) ReadEnd) (told : Option Files)
    → IfSome told (λ files. ReadTold files name old new r) → StaysOrReads told (read name) old new
read_last name old new r None t = tt
read_last name old new (Ok bytes) (Some files) t = inr (first_is name new.last _ t.0)
read_last name old new (Err ends.Absent) (Some files) t = inr (first_is name new.last _ t.0)
read_last name old new (Err ends.TooLong) (Some files) t = inr (first_is name new.last _ t.0)
read_last name old new (Err ends.Failed) (Some files) t = inr (first_is name new.last _ t)
read_last name old new (Err ends.NoMemory) (Some files) t = inl t

at_short : (name bytes : List ℕ) (o : Option (List ℕ)) → o ≡ Some bytes → length bytes ≤ longest_file
    → at_file name (λ b. complete b) o ≡ complete bytes
at_short name bytes o e short = ap (at_file name (λ b. complete b)) e
    ∙ ap (λ b. cond b (too_long name) (complete bytes)) (le-ltb longest_file (length bytes) short)

at_long : (name : List ℕ) (o : Option (List ℕ)) → IsSomeAnd o (λ bytes. longest_file < length bytes)
    → at_file name (λ b. complete b) o ≡ too_long name
at_long name None long = absurd long
at_long name (Some bytes) long = ap (λ b. cond b (too_long name) (complete bytes)) (lt-ltb longest_file (length bytes)
    long)

read_ends : (name : List ℕ) (old new : Shelved) (r : Result (List ℕ) ReadEnd) (told : Option Files)
    → ReadCause old new r → IfSome told (λ files. ReadTold files name old new r)
    → GatherEnds {T = List ℕ} (read name) IsSame told new (as_read name r)
read_ends name old new (Ok bytes) None c t = (bytes, inr (inr (bytes, c.0, refl)), refl)
read_ends name old new (Err ends.Absent) None c t = (inl refl, tt)
read_ends name old new (Err ends.TooLong) None c t = (inr (inl refl), tt)
read_ends name old new (Err ends.Failed) None c t = (inl refl, tt)
read_ends name old new (Err ends.NoMemory) None c t = tt
read_ends name old new (Ok bytes) (Some files) c t = (bytes, at_short name bytes (get files name) t.1 c.0, refl)
read_ends name old new (Err ends.Absent) (Some files) c t = (ap (at_file name (λ b. complete b)) t.2, t.0)
read_ends name old new (Err ends.TooLong) (Some files) c t = (at_long name (get files name) t.2, t.0)
read_ends name old new (Err ends.Failed) (Some files) c t = (first_is name name _ refl, t)
read_ends name old new (Err ends.NoMemory) (Some files) c t = tt

-- what a read gives is gathered
pub gathers_read : (name : List ℕ) (old new : Shelved) (r : Result (List ℕ) ReadEnd) → Reads name old new r
    → Gathers {T = List ℕ} (read name) IsSame old new (as_read name r)
gathers_read name old new r h = record {
  goes_on = h.goes_on;
  files = h.files;
  wants = h.wants;
  last = read_last name old new r old.files h.told;
  cause = read_cause name old new r h.cause;
  ends = read_ends name old new r old.files h.cause h.told;
}
