-- The reference of an aload_0 is taken where a field instruction may be fused with it.
use Rattle.std.proofs.Common.{◌≡◌, ℕ, zero, suc, ◌+◌, refl, sym, ◌∙◌, Bool, true, false, ◌&&◌, List, [], ◌∷◌}
use Rattle.std.proofs.Common.{drop, take}
use Rattle.std.specs.Prelude.{if◌then◌else◌, slice_get, Some}
use Rattle.cjc_narrow.specs.declared.select.pairs.PairKind.{PairKind}
use Rattle.cjc_narrow.specs.declared.select.pairs.PairKind.TheVariants.{Silent, This, Pushes, Gets, Puts, Other}
use Rattle.cjc_narrow.specs.declared.select.pairs.PairStep.{PairStep}
use Rattle.cjc_narrow.specs.declared.select.pairs.Wait.TheVariants.{Begins, Pushed, Taken, Lost}
use Rattle.cjc_narrow.specs.Pairs.Fusible.{IsFusible, all_joined, is_access, is_put, is_written, kinds_written}
use Rattle.cjc_narrow.specs.Pairs.Roles.{last_wait, wait_behind}

stays : (steps : List PairStep) → last_wait Taken steps ≡ Taken
stays [] = refl
stays (s ∷ steps) = stays steps

behind_one : (steps : List PairStep) (n : ℕ) → all_joined (take n steps) ≡ true
    → is_put (kinds_written (take n steps)) ≡ true → last_wait Pushed steps ≡ Taken
behind_one steps zero j a = absurd cc
behind_one [] (suc n) j a = absurd cc
behind_one (s ∷ steps) (suc n) j a = by s.joined s.kind (behind_one steps n) j a
  where
    by : (joined : Bool) (kind : PairKind) → (all_joined (take n steps) ≡ true
        → is_put (kinds_written (take n steps)) ≡ true → last_wait Pushed steps ≡ Taken)
        → (joined && all_joined (take n steps)) ≡ true
        → is_put (if is_written kind then kind ∷ kinds_written (take n steps) else kinds_written (take n steps)) ≡ true
        → last_wait (if joined then wait_behind Pushed kind else Lost) steps ≡ Taken
    by false kind more j a = absurd cc
    by true Silent more j a = more j a
    by true This more j a = absurd cc
    by true Pushes more j a = absurd cc
    by true Gets more j a = absurd cc
    by true Puts more j a = stays steps
    by true Other more j a = absurd cc

at_once : (steps : List PairStep) (n : ℕ) → all_joined (take n steps) ≡ true
    → is_access (kinds_written (take n steps)) ≡ true → last_wait Begins steps ≡ Taken
at_once steps zero j a = absurd cc
at_once [] (suc n) j a = absurd cc
at_once (s ∷ steps) (suc n) j a = by s.joined s.kind (at_once steps n) j a
  where
    by : (joined : Bool) (kind : PairKind) → (all_joined (take n steps) ≡ true
        → is_access (kinds_written (take n steps)) ≡ true → last_wait Begins steps ≡ Taken)
        → (joined && all_joined (take n steps)) ≡ true
        → is_access (if is_written kind then kind ∷ kinds_written (take n steps) else kinds_written (take n steps))
        ≡ true → last_wait (if joined then wait_behind Begins kind else Lost) steps ≡ Taken
    by false kind more j a = absurd cc
    by true Silent more j a = more j a
    by true This more j a = behind_one steps n j a
    by true Pushes more j a = behind_one steps n j a
    by true Gets more j a = stays steps
    by true Puts more j a = absurd cc
    by true Other more j a = absurd cc

pub fusible_taken : (steps : List PairStep) (first count : ℕ) → IsFusible steps first count
    → last_wait Begins (drop (first + 1) steps) ≡ Taken
fusible_taken steps first count f = at_once (drop (first + 1) steps) count f.joined f.access

-- ---- the other way

lost : (steps : List PairStep) → last_wait Lost steps ≡ Lost
lost [] = refl
lost (s ∷ steps) = lost steps

not_taken : (steps : List PairStep) → last_wait Lost steps ≡ Taken → ⊥
not_taken steps e = let f : Lost ≡ Taken = sym (lost steps) ∙ e in absurd cc

-- so many of them are joined and a putfield alone, or an access
abbrev IsPut : (joined : Bool) → PairKind → List PairStep → ℕ → Type 0
IsPut joined kind steps n = ((joined && all_joined (take n steps)) ≡ true)
    × (is_put (if is_written kind then kind ∷ kinds_written (take n steps) else kinds_written (take n steps)) ≡ true)

abbrev IsTaken : (joined : Bool) → PairKind → List PairStep → ℕ → Type 0
IsTaken joined kind steps n = ((joined && all_joined (take n steps)) ≡ true)
    × (is_access (if is_written kind then kind ∷ kinds_written (take n steps) else kinds_written (take n steps)) ≡ true)

put_behind : (steps : List PairStep) → last_wait Pushed steps ≡ Taken → (n : ℕ)
    × ((all_joined (take n steps) ≡ true) × (is_put (kinds_written (take n steps)) ≡ true))
put_behind [] e = absurd cc
put_behind (s ∷ steps) e = let found = by s.joined s.kind (put_behind steps) e in (suc found.0, found.1)
  where
    by : (joined : Bool) (kind : PairKind) → (last_wait Pushed steps ≡ Taken → (n : ℕ)
        × ((all_joined (take n steps) ≡ true) × (is_put (kinds_written (take n steps)) ≡ true)))
        → last_wait (if joined then wait_behind Pushed kind else Lost) steps ≡ Taken
        → (n : ℕ) × IsPut joined kind steps n
    by false kind more e = absurd (not_taken steps e)
    by true Silent more e = more e
    by true This more e = absurd (not_taken steps e)
    by true Pushes more e = absurd (not_taken steps e)
    by true Gets more e = absurd (not_taken steps e)
    by true Puts more e = (0, (refl, refl))
    by true Other more e = absurd (not_taken steps e)

access_behind : (steps : List PairStep) → last_wait Begins steps ≡ Taken → (n : ℕ)
    × ((all_joined (take n steps) ≡ true) × (is_access (kinds_written (take n steps)) ≡ true))
access_behind [] e = absurd cc
access_behind (s ∷ steps) e = let found = by s.joined s.kind (access_behind steps) e in (suc found.0, found.1)
  where
    by : (joined : Bool) (kind : PairKind) → (last_wait Begins steps ≡ Taken → (n : ℕ)
        × ((all_joined (take n steps) ≡ true) × (is_access (kinds_written (take n steps)) ≡ true)))
        → last_wait (if joined then wait_behind Begins kind else Lost) steps ≡ Taken
        → (n : ℕ) × IsTaken joined kind steps n
    by false kind more e = absurd (not_taken steps e)
    by true Silent more e = more e
    by true This more e = put_behind steps e
    by true Pushes more e = put_behind steps e
    by true Gets more e = (0, (refl, refl))
    by true Puts more e = absurd (not_taken steps e)
    by true Other more e = absurd (not_taken steps e)

pub taken_fusible : (steps : List PairStep) (first : ℕ) (load : PairStep) → slice_get steps first ≡ Some load
    → load.kind ≡ This → last_wait Begins (drop (first + 1) steps) ≡ Taken → (count : ℕ) × IsFusible steps first count
taken_fusible steps first load there loads e =
    let found = access_behind (drop (first + 1) steps) e in
    (found.0, record { load = load; there = there; loads = loads; joined = found.1.0; access = found.1.1 })
