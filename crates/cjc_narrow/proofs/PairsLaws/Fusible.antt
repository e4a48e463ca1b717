-- An aload_0 that opens a pair stands before the field instruction that closes it: execution comes from the one to the
-- other alone, under the same handlers.
use Rattle.std.proofs.Common.{◌≡◌, ℕ, zero, suc, ◌≤◌, arith, refl, sym, ap, ◌∙◌, Bool, true, false, List, [], ◌∷◌}
use Rattle.std.proofs.Common.{drop}
use Rattle.std.specs.Prelude.{if◌then◌else◌, slice_get, Some}
use Rattle.cjc_ncode.specs.declared.narrow.PairRole.{PairRole}
use Rattle.cjc_ncode.specs.declared.narrow.PairRole.TheVariants.{Opens, Closes}
use Rattle.cjc_narrow.specs.declared.select.pairs.PairKind.{PairKind}
use Rattle.cjc_narrow.specs.declared.select.pairs.PairKind.TheVariants.{Silent, This, Pushes, Gets, Puts, Other}
use Rattle.cjc_narrow.specs.declared.select.pairs.PairStep.{PairStep}
use Rattle.cjc_narrow.specs.declared.select.pairs.Wait.{Wait}
use Rattle.cjc_narrow.specs.declared.select.pairs.Wait.TheVariants.{Begins, Pushed, Taken, Lost}
use Rattle.cjc_narrow.specs.Pairs.Fusible.{IsClosed, accesses}
use Rattle.cjc_narrow.specs.Pairs.Roles.{first_role, is_open, is_taken, last_wait, role_of}
use Rattle.cjc_narrow.specs.Pairs.Roles.{roles_from, wait_behind, waits}

lost : (steps : List PairStep) → last_wait Lost steps ≡ Lost
lost [] = refl
lost (s ∷ steps) = lost steps

pub never : {A : Type 0} (steps : List PairStep) → last_wait Lost steps ≡ Taken → A
never steps e = let f : Lost ≡ Taken = sym (lost steps) ∙ e in cc

further : (s : PairStep) (steps : List PairStep) → s.joined ≡ true → is_open true (first_role true s steps) ≡ true
    → (n : ℕ) × IsClosed steps n → (n : ℕ) × IsClosed (s ∷ steps) n
further s steps j stays (n, c) = (
  suc n,
  record {
    step = c.step;
    there = c.there;
    takes = c.takes;
    closes = ap (λ o. slice_get (roles_from o steps) n) stays ∙ c.closes;
    joined = all;
  },
)
  where
    all : (k : ℕ) (x : PairStep) → k ≤ suc n → slice_get (s ∷ steps) k ≡ Some x → x.joined ≡ true
    all zero x le is = let same : s ≡ x = cc in ap (λ (y : PairStep). y.joined) (sym same) ∙ j
    all (suc k) x le is = c.joined k x (omega arith) is

here : (s : PairStep) (steps : List PairStep) → s.joined ≡ true → accesses s.kind ≡ true
    → first_role true s steps ≡ Closes → (n : ℕ) × IsClosed (s ∷ steps) n
here s steps j takes role = (0, record { step = s; there = refl; takes = takes; closes = ap Some role; joined = all })
  where
    all : (k : ℕ) (x : PairStep) → k ≤ 0 → slice_get (s ∷ steps) k ≡ Some x → x.joined ≡ true
    all zero x le is = let same : s ≡ x = cc in ap (λ (y : PairStep). y.joined) (sym same) ∙ j
    all (suc k) x le is = absurd (omega arith)

-- where the reference is taken, an instruction closes the pair
pub taken_in : (w : Wait) (steps : List PairStep) → waits w ≡ true → last_wait w steps ≡ Taken
    → (n : ℕ) × IsClosed steps n
taken_in Begins [] e t = absurd cc
taken_in Pushed [] e t = absurd cc
taken_in Taken steps e t = absurd cc
taken_in Lost steps e t = absurd cc
taken_in Begins (s ∷ steps) e t = by s.joined s.kind (taken_in Begins steps refl)
    (taken_in Pushed steps refl) refl refl t
  where
    by : (joined : Bool) (kind : PairKind) → (last_wait Begins steps ≡ Taken → (n : ℕ) × IsClosed steps n)
        → (last_wait Pushed steps ≡ Taken → (n : ℕ) × IsClosed steps n) → s.joined ≡ joined → s.kind ≡ kind
        → last_wait (if joined then wait_behind Begins kind else Lost) steps ≡ Taken → (n : ℕ) × IsClosed (s ∷ steps) n
    by false kind once later j k t = never steps t
    by true Silent once later j k t = further s steps j (ap (λ x. is_open true (role_of true x (is_taken
        (last_wait Begins steps)))) k) (once t)
    by true This once later j k t = further s steps j (ap (λ x. is_open true (role_of true x (is_taken
        (last_wait Begins steps)))) k) (later t)
    by true Pushes once later j k t = further s steps j (ap (λ x. is_open true (role_of true x (is_taken
        (last_wait Begins steps)))) k) (later t)
    by true Gets once later j k t = here s steps j (ap accesses k) (ap (λ x. role_of true x (is_taken
        (last_wait Begins steps))) k)
    by true Puts once later j k t = never steps t
    by true Other once later j k t = never steps t
taken_in Pushed (s ∷ steps) e t = by s.joined s.kind (taken_in Begins steps refl)
    (taken_in Pushed steps refl) refl refl t
  where
    by : (joined : Bool) (kind : PairKind) → (last_wait Begins steps ≡ Taken → (n : ℕ) × IsClosed steps n)
        → (last_wait Pushed steps ≡ Taken → (n : ℕ) × IsClosed steps n) → s.joined ≡ joined → s.kind ≡ kind
        → last_wait (if joined then wait_behind Pushed kind else Lost) steps ≡ Taken → (n : ℕ) × IsClosed (s ∷ steps) n
    by false kind once later j k t = never steps t
    by true Silent once later j k t = further s steps j (ap (λ x. is_open true (role_of true x (is_taken
        (last_wait Begins steps)))) k) (later t)
    by true This once later j k t = never steps t
    by true Pushes once later j k t = never steps t
    by true Gets once later j k t = never steps t
    by true Puts once later j k t = here s steps j (ap accesses k) (ap (λ x. role_of true x (is_taken
        (last_wait Begins steps))) k)
    by true Other once later j k t = never steps t

-- the reference of what opens a pair is taken
pub taken_opens : (o : Bool) (kind : PairKind) (w : Wait) → role_of o kind (is_taken w) ≡ Opens → w ≡ Taken
taken_opens false This Taken e = refl
taken_opens false This Lost e = absurd cc
taken_opens false This Begins e = absurd cc
taken_opens false This Pushed e = absurd cc
taken_opens false Silent w e = absurd cc
taken_opens false Pushes w e = absurd cc
taken_opens false Gets w e = absurd cc
taken_opens false Puts w e = absurd cc
taken_opens false Other w e = absurd cc
taken_opens true This w e = absurd cc
taken_opens true Silent w e = absurd cc
taken_opens true Pushes w e = absurd cc
taken_opens true Gets w e = absurd cc
taken_opens true Puts w e = absurd cc
taken_opens true Other w e = absurd cc

-- each that opens a pair has one that closes it
pub opens_closed : (opened : Bool) (steps : List PairStep) (k : ℕ) → slice_get (roles_from opened steps) k ≡ Some Opens
    → (n : ℕ) × IsClosed (drop (suc k) steps) n
opens_closed opened [] k e = absurd cc
opens_closed opened (s ∷ steps) (suc k) e = opens_closed (is_open opened (first_role opened s steps)) steps k e
opens_closed opened (s ∷ steps) zero e = taken_in Begins steps refl (taken_opens opened s.kind (last_wait Begins steps)
    (is_some e))
  where
    is_some : {x y : PairRole} → Some x ≡ Some y → x ≡ y
    is_some e = cc
