-- How the reads of a plan go on from those of its beginning.
use Rattle.std.proofs.Common.{◌≡◌, inl, inr, ℕ, ◌+◌, ◌≤◌, true, false, List, [], ◌∷◌, ◌++◌, length, Option, Some, None, IfSome, IfNone, Contains, Result, Ok, Err, nat_lt, cond, refl, sym, ap, subst, ◌∙◌, arith}
use Rattle.std.proofs.lemmas.List.Elements.{Contains-append_left, Contains-append_right}
use Rattle.std.specs.FinMap.{get}
use Rattle.cjc_bytes.specs.declared.fault.Refusal.{Refusal}
use Rattle.cjc_shelf.specs.Count.{Rose}
use Rattle.cjc_shelf.specs.Shelf.{Files, Shelved, GoesOn}
use Rattle.cjc_shelf.specs.declared.shelf.TheConstants.{LONGEST}
use Rattle.cjc_command.specs.Plan.{Plan, reads, refuses, has, ◌>>=◌, Verdict, at_file, verdict, names_read, reads_after, absent, too_long, refused, complete}
use Rattle.cjc_command.specs.Gather.{GatherCause, StopTold, GatherTold, Gathers, IsSame}
use Rattle.cjc_command.specs.declared.status.Status.{Status}
use Rattle.cjc_command.specs.declared.status.Status.TheVariants as status

-- what follows where all was read
abbrev pub on_complete : {X Y : Type 0} → Verdict X → (X → Verdict Y) → Verdict Y
on_complete (absent name) f = absent name
on_complete (too_long name) f = too_long name
on_complete (refused r) f = refused r
on_complete (complete x) f = f x

abbrev pub names_on_complete : {X : Type 0} → Verdict X → (X → List (List ℕ)) → List (List ℕ)
names_on_complete (absent name) f = []
names_on_complete (too_long name) f = []
names_on_complete (refused r) f = []
names_on_complete (complete x) f = f x

at_file-on : {X Y : Type 0} (name : List ℕ) (v : List ℕ → Verdict X) (w : List ℕ → Verdict Y) (f : X → Verdict Y) → ((bytes : List ℕ) → w bytes ≡ on_complete (v bytes) f)
    → (o : Option (List ℕ)) → at_file name w o ≡ on_complete (at_file name v o) f
at_file-on name v w f same None = refl
at_file-on name v w f same (Some bytes) =
    elim (nat_lt LONGEST (length bytes)) as (λ b. cond b (too_long name) (w bytes) ≡ on_complete (cond b (too_long name) (v bytes)) f) [ true ↦ refl | false ↦ same bytes ]

pub verdict-then : {X Y : Type 0} (files : Files) (p : Plan X) (f : X → Plan Y) → verdict files (p >>= f) ≡ on_complete (verdict files p) (λ x. verdict files (f x))
verdict-then files (reads name next) f = at_file-on name _ _ _ (λ bytes. verdict-then files (next bytes) f) (get files name)
verdict-then files (refuses r) f = refl
verdict-then files (has x) f = refl

names-on : {X : Type 0} (name : List ℕ) (v : List ℕ → Verdict X) (n m : List ℕ → List (List ℕ)) (f : X → List (List ℕ))
    → ((bytes : List ℕ) → m bytes ≡ n bytes ++ names_on_complete (v bytes) f)
    → (o : Option (List ℕ)) → reads_after m o ≡ reads_after n o ++ names_on_complete (at_file name v o) f
names-on name v n m f same None = refl
names-on name v n m f same (Some bytes) =
    elim (nat_lt LONGEST (length bytes)) as (λ b. cond b [] (m bytes) ≡ cond b [] (n bytes) ++ names_on_complete (cond b (too_long name) (v bytes)) f) [ true ↦ refl | false ↦ same bytes ]

pub names_read-then : {X Y : Type 0} (files : Files) (p : Plan X) (f : X → Plan Y) → names_read files (p >>= f) ≡ names_read files p ++ names_on_complete (verdict files p) (λ x. names_read files (f x))
names_read-then files (reads name next) f = ap (λ names. name ∷ names) (names-on name _ _ _ _ (λ bytes. names_read-then files (next bytes) f) (get files name))
names_read-then files (refuses r) f = refl
names_read-then files (has x) f = refl

-- counts that never fall, twice
pub goes_on_twice : {old mid new : Shelved} → GoesOn old mid → GoesOn mid new → GoesOn old new
goes_on_twice a b = record { misses = omega arith; faults = omega arith; wants = omega arith }

pub rose_later : (old mid new : ℕ) → old ≤ mid → Rose mid new → Rose old new
rose_later old mid new a b = omega arith

pub rose_before : (old mid new : ℕ) → Rose old mid → mid ≤ new → Rose old new
rose_before old mid new a b = omega arith

zip_IfSome : {A : Type 0} (o : Option A) (P Q R : A → Type 0) → ((x : A) → P x → Q x → R x) → IfSome o P → IfSome o Q → IfSome o R
zip_IfSome None P Q R f a b = tt
zip_IfSome (Some x) P Q R f a b = f x a b

map_IfSome : {A : Type 0} (o : Option A) (P Q : A → Type 0) → ((x : A) → P x → Q x) → IfSome o P → IfSome o Q
map_IfSome None P Q f a = tt
map_IfSome (Some x) P Q f a = f x a

all_IfSome : {A : Type 0} (o : Option A) (P : A → Type 0) → ((x : A) → P x) → IfSome o P
all_IfSome None P f = tt
all_IfSome (Some x) P f = f x

module _ {X Y U : Type 0} (p : Plan X) (f : X → Plan Y) (Q : Y → Result U Refusal → Type 0) where
  -- after the first part, what is gathered by the rest
  told_after : (files : Files) (new : Shelved) (x : X) (result : Result U Status) → verdict files p ≡ complete x → GatherTold (f x) Q files new result → GatherTold (p >>= f) Q files new result
  told_after files new x result e told =
      let on : verdict files (p >>= f) ≡ verdict files (f x) = verdict-then files p f ∙ ap (λ v. on_complete v (λ y. verdict files (f y))) e in
      elim result as (λ r. GatherTold (f x) Q files new r → GatherTold (p >>= f) Q files new r) [
        | Ok made ↦ λ t. (t.0, on ∙ t.1, t.2)
        | Err end ↦ elim end as (λ s. StopTold (f x) Q files new s → StopTold (p >>= f) Q files new s) [
          | status.Done ↦ λ t. t
          | status.Usage ↦ λ t. t
          | status.Refused r ↦ λ t. elim t [ inl u ↦ inl (on ∙ u) | inr u ↦ inr (u.0, on ∙ u.1, u.2) ]
          | status.Absent name ↦ λ t. (on ∙ t.0, t.1)
          | status.TooLong name ↦ λ t. (on ∙ t.0, t.1)
          | status.ShelfFault name ↦ λ t.
              let names : names_read files (p >>= f) ≡ names_read files p ++ names_read files (f x) =
              names_read-then files p f ∙ ap (λ v. names_read files p ++ names_on_complete v (λ y. names_read files (f y))) e in
              (subst (λ (ns : List (List ℕ)). Contains ns name) (sym names) (Contains-append_right _ _ name t.0), t.1)
          | status.SinkFault ↦ λ t. t
          | status.NoMemory ↦ λ t. t
        ]
      ] told

  -- the end of the first part is the end of all
  told_end : (files : Files) (new : Shelved) (end : Status) → GatherTold p IsSame files new (Err end) → GatherTold (p >>= f) Q files new (Err end)
  told_end files new end told =
      let on : (v : Verdict X) → verdict files p ≡ v → verdict files (p >>= f) ≡ on_complete v (λ y. verdict files (f y)) =
      λ (v : Verdict X) (e : verdict files p ≡ v). verdict-then files p f ∙ ap (λ w. on_complete w (λ y. verdict files (f y))) e in
      elim end as (λ s. StopTold p IsSame files new s → StopTold (p >>= f) Q files new s) [
        | status.Done ↦ λ t. t
        | status.Usage ↦ λ t. t
        | status.Refused r ↦ λ t. elim t [ inl u ↦ inl (on _ u) | inr u ↦ let h = u.2 in absurd (cc) ]
        | status.Absent name ↦ λ t. (on _ t.0, t.1)
        | status.TooLong name ↦ λ t. (on _ t.0, t.1)
        | status.ShelfFault name ↦ λ t. (subst (λ (ns : List (List ℕ)). Contains ns name) (sym (names_read-then files p f)) (Contains-append_left _ _ name t.0), t.1)
        | status.SinkFault ↦ λ t. t
        | status.NoMemory ↦ λ t. t
      ] told

-- a cause that came later, where the files and the counts before went on
cause_after : {T : Type 0} (old mid new : Shelved) (result : Result T Status) → GoesOn old mid → mid.files ≡ old.files → GatherCause mid new result → GatherCause old new result
cause_after old mid new (Ok made) g e c = c
cause_after old mid new (Err (status.Refused r)) g e c = c
cause_after old mid new (Err (status.Absent name)) g e c = rose_later _ _ _ g.misses c
cause_after old mid new (Err (status.TooLong name)) g e c = subst (λ (o : Option Files). IfNone o (new.taken ≡ LONGEST + 1)) e c
cause_after old mid new (Err (status.ShelfFault name)) g e c = rose_later _ _ _ g.faults c
cause_after old mid new (Err status.NoMemory) g e c = c
cause_after old mid new (Err status.Done) g e c = c
cause_after old mid new (Err status.Usage) g e c = c
cause_after old mid new (Err status.SinkFault) g e c = c

complete_of : {X : Type 0} (files : Files) (p : Plan X) (new : Shelved) (x : X) → GatherTold p IsSame files new (Ok x) → verdict files p ≡ complete x
complete_of files p new x t = let h = t.2 in let e : t.0 ≡ x = cc in t.1 ∙ ap complete e

-- The first part gave x, and the rest follows the plan from there.
pub gathers_then : {X Y U : Type 0} (p : Plan X) (f : X → Plan Y) (Q : Y → Result U Refusal → Type 0) (old mid new : Shelved) (x : X) (result : Result U Status)
    → Gathers p IsSame old mid (Ok x) → Gathers (f x) Q mid new result → Gathers (p >>= f) Q old new result
gathers_then p f Q old mid new x result a b = record {
  goes_on = goes_on_twice a.goes_on b.goes_on;
  files = b.files ∙ a.files;
  wants = b.wants ∙ a.wants;
  cause = cause_after old mid new result a.goes_on a.files b.cause;
  told = zip_IfSome old.files _ _ _ (λ files t u. told_after p f Q files new x result (complete_of files p mid x t) u)
      a.told (subst (λ (o : Option Files). IfSome o (λ files. GatherTold (f x) Q files new result)) a.files b.told);
}

-- The first part was the end.
pub gathers_end : {X Y U : Type 0} (p : Plan X) (f : X → Plan Y) (Q : Y → Result U Refusal → Type 0) (old new : Shelved) (end : Status)
    → Gathers {T = X} p IsSame old new (Err end) → Gathers (p >>= f) Q old new (Err end)
gathers_end p f Q old new end a = record {
  goes_on = a.goes_on;
  files = a.files;
  wants = a.wants;
  cause = a.cause;
  told = map_IfSome old.files _ _ (λ files t. told_end p f Q files new end t) a.told;
}

pub stays : (s : Shelved) → GoesOn s s
stays s = record { misses = omega arith; faults = omega arith; wants = omega arith }

-- no more is read
pub gathers_no_memory : {X T : Type 0} (p : Plan X) (Q : X → Result T Refusal → Type 0) (s : Shelved) → Gathers p Q s s (Err status.NoMemory)
gathers_no_memory p Q s = record { goes_on = stays s; files = refl; wants = refl; cause = tt; told = all_IfSome s.files _ (λ files. tt) }

pub gathers_has : {X T : Type 0} (x : X) (Q : X → Result T Refusal → Type 0) (s : Shelved) (made : T) → Q x (Ok made) → Gathers (has x) Q s s (Ok made)
gathers_has x Q s made q = record { goes_on = stays s; files = refl; wants = refl; cause = tt; told = all_IfSome s.files _ (λ files. (x, refl, q)) }

-- what was read breaks a rule
pub gathers_breaks : {X T : Type 0} (x : X) (Q : X → Result T Refusal → Type 0) (s : Shelved) (r : Refusal) → Q x (Err r) → Gathers {T = T} (has x) Q s s (Err (status.Refused r))
gathers_breaks x Q s r q = record { goes_on = stays s; files = refl; wants = refl; cause = tt; told = all_IfSome s.files _ (λ files. inr (x, refl, q)) }

pub gathers_refused : {X T : Type 0} (Q : X → Result T Refusal → Type 0) (s : Shelved) (r : Refusal) → Gathers {T = T} (refuses r) Q s s (Err (status.Refused r))
gathers_refused Q s r = record { goes_on = stays s; files = refl; wants = refl; cause = tt; told = all_IfSome s.files _ (λ files. inl refl) }
