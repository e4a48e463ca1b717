-- What is open before each instruction says its role and what is open behind it. So each pair that may be written as
-- one is, and no other.
use Rattle.std.proofs.Common.{◌≡◌, ℕ, zero, suc, ◌+◌, refl, sym, ap, subst, ◌∙◌, arith, Bool, true, false, List, []}
use Rattle.std.proofs.Common.{◌∷◌, drop}
use Rattle.std.specs.Prelude.{if◌then◌else◌, slice_get, Some}
use Rattle.cjc_ncode.specs.declared.narrow.PairRole.{PairRole}
use Rattle.cjc_ncode.specs.declared.narrow.PairRole.TheVariants.{Opens}
use Rattle.cjc_narrow.specs.declared.select.pairs.PairKind.{PairKind}
use Rattle.cjc_narrow.specs.declared.select.pairs.PairKind.TheVariants.{Silent, This, Pushes, Gets, Puts, Other}
use Rattle.cjc_narrow.specs.declared.select.pairs.PairStep.{PairStep}
use Rattle.cjc_narrow.specs.declared.select.pairs.Wait.{Wait}
use Rattle.cjc_narrow.specs.declared.select.pairs.Wait.TheVariants.{Begins, Pushed, Taken, Lost}
use Rattle.cjc_narrow.specs.Pairs.Fusible.{FusesAll, IsFusible}
use Rattle.cjc_narrow.specs.Pairs.Open.{IsPaired, Open, begun, closed, gets, is_alone, is_opened, open_at, open_behind}
use Rattle.cjc_narrow.specs.Pairs.Open.{opens, pushed, pushes, pushes_this, puts, silent_begun, silent_pushed}
use Rattle.cjc_narrow.specs.Pairs.Roles.{first_role, is_open, is_taken, last_wait, role_of, roles_from, wait_behind}
use Rattle.cjc_narrow.proofs.PairsLaws.Complete.{fusible_taken, taken_fusible}
use Rattle.cjc_narrow.proofs.PairsLaws.Fusible.{never, taken_opens}

-- the reference of an open pair is taken
abbrev pub IsOpen : Open → List PairStep → Type 0
IsOpen closed steps = Unit {0}
IsOpen begun steps = last_wait Begins steps ≡ Taken
IsOpen pushed steps = last_wait Pushed steps ≡ Taken

-- ---- one instruction

abbrev Follows : Open → (joined : Bool) → PairKind → List PairStep → Wait → Type 0
Follows o joined kind steps taken = IsPaired o joined kind (role_of (is_opened o) kind (is_taken taken))
    (open_behind o kind (is_taken taken)) × IsOpen (open_behind o kind (is_taken taken)) steps

pub paired : (o : Open) (s : PairStep) (steps : List PairStep) → IsOpen o (s ∷ steps)
    → Follows o s.joined s.kind steps (last_wait Begins steps)
paired closed s steps h = by s.kind (last_wait Begins steps) refl
  where
    by : (kind : PairKind) (x : Wait) → last_wait Begins steps ≡ x → Follows closed s.joined kind steps x
    by This Taken e = (opens, e)
    by This Begins e = (is_alone, tt)
    by This Pushed e = (is_alone, tt)
    by This Lost e = (is_alone, tt)
    by Silent x e = (is_alone, tt)
    by Pushes x e = (is_alone, tt)
    by Gets x e = (is_alone, tt)
    by Puts x e = (is_alone, tt)
    by Other x e = (is_alone, tt)
paired begun s steps h = by s.joined s.kind h
  where
    by : (joined : Bool) (kind : PairKind) → last_wait (if joined then wait_behind Begins kind else Lost) steps ≡ Taken
        → Follows begun joined kind steps (last_wait Begins steps)
    by false kind h = never steps h
    by true Silent h = (silent_begun, h)
    by true This h = (pushes_this, h)
    by true Pushes h = (pushes, h)
    by true Gets h = (gets, tt)
    by true Puts h = never steps h
    by true Other h = never steps h
paired pushed s steps h = by s.joined s.kind h
  where
    by : (joined : Bool) (kind : PairKind) → last_wait (if joined then wait_behind Pushed kind else Lost) steps ≡ Taken
        → Follows pushed joined kind steps (last_wait Begins steps)
    by false kind h = never steps h
    by true Silent h = (silent_pushed, h)
    by true This h = never steps h
    by true Pushes h = never steps h
    by true Gets h = never steps h
    by true Puts h = (puts, tt)
    by true Other h = never steps h

-- a pair is open behind it by its role
opened_same : {o p : Open} {joined : Bool} {kind : PairKind} {role : PairRole} → IsPaired o joined kind role p
    → is_open (is_opened o) role ≡ is_opened p
opened_same is_alone = refl
opened_same opens = refl
opened_same silent_begun = refl
opened_same silent_pushed = refl
opened_same pushes_this = refl
opened_same pushes = refl
opened_same gets = refl
opened_same puts = refl

-- ---- each instruction

-- what is open before the instruction at a place, its role, and what is open behind it
pub record StandsIn (o : Open) (steps : List PairStep) (k : ℕ) (s : PairStep) : Type 0 where
  pub held : IsOpen (open_at o steps k) (s ∷ drop (suc k) steps)
  pub role : slice_get (roles_from (is_opened o) steps) k ≡ Some (role_of (is_opened (open_at o steps k)) s.kind
      (is_taken (last_wait Begins (drop (suc k) steps))))
  pub behind : open_at o steps (suc k) ≡ open_behind (open_at o steps k) s.kind
      (is_taken (last_wait Begins (drop (suc k) steps)))

pub stands_in : (o : Open) (steps : List PairStep) → IsOpen o steps → (k : ℕ) (s : PairStep)
    → slice_get steps k ≡ Some s
    → StandsIn o steps k s
stands_in o [] h k s e = absurd cc
stands_in o (x ∷ steps) h zero s e =
    subst (StandsIn o (x ∷ steps) 0) (let same : x ≡ s = cc in same) (record { held = h; role = refl; behind = refl })
stands_in o (x ∷ steps) h (suc k) s e =
    let here = paired o x steps h in
    let p = open_behind o x.kind (is_taken (last_wait Begins steps)) in
    let rest = stands_in p steps here.1 k s e in
    record {
      held = rest.held;
      role = ap (λ b. slice_get (roles_from b steps) k) (opened_same here.0) ∙ rest.role;
      behind = rest.behind;
    }

-- ---- pairs

-- only one of two references is taken
not_both : (steps : List PairStep) → last_wait Begins steps ≡ Taken → last_wait Pushed steps ≡ Taken → ⊥
not_both [] e f = absurd cc
not_both (s ∷ steps) e f = by s.joined s.kind (not_both steps) e f
  where
    by : (joined : Bool) (kind : PairKind) → (last_wait Begins steps ≡ Taken → last_wait Pushed steps ≡ Taken → ⊥)
        → last_wait (if joined then wait_behind Begins kind else Lost) steps ≡ Taken
        → last_wait (if joined then wait_behind Pushed kind else Lost) steps ≡ Taken → ⊥
    by false kind more e f = never steps e
    by true Silent more e f = more e f
    by true This more e f = never steps f
    by true Pushes more e f = never steps f
    by true Gets more e f = never steps f
    by true Puts more e f = never steps e
    by true Other more e f = never steps e

opens_here : (o : Open) (s : PairStep) (steps : List PairStep) → IsOpen o (s ∷ steps) → s.kind ≡ This
    → last_wait Begins steps ≡ Taken → role_of (is_opened o) s.kind (is_taken (last_wait Begins steps)) ≡ Opens
opens_here o s steps h loads taken = ap (λ w. role_of (is_opened o) s.kind (is_taken w)) taken
    ∙ ap (λ kind. role_of (is_opened o) kind true) loads ∙ by o s.joined s.kind loads h
  where
    by : (o : Open) (joined : Bool) (kind : PairKind) → kind ≡ This → IsOpen o (record { joined = joined; kind = kind }
        ∷ steps) → role_of (is_opened o) This true ≡ Opens
    by closed joined kind e h = refl
    by begun false kind e h = never steps h
    by begun true This e h = absurd (not_both steps taken h)
    by begun true Silent e h = absurd cc
    by begun true Pushes e h = absurd cc
    by begun true Gets e h = absurd cc
    by begun true Puts e h = absurd cc
    by begun true Other e h = absurd cc
    by pushed false kind e h = never steps h
    by pushed true This e h = never steps h
    by pushed true Silent e h = absurd cc
    by pushed true Pushes e h = absurd cc
    by pushed true Gets e h = absurd cc
    by pushed true Puts e h = absurd cc
    by pushed true Other e h = absurd cc

one_further : (k : ℕ) → k + 1 ≡ suc k
one_further k = omega arith

-- there is an instruction at a place that has a role
step_there : (o : Bool) (steps : List PairStep) (k : ℕ) (role : PairRole) → slice_get (roles_from o steps) k ≡ Some role
    → (s : PairStep) × (slice_get steps k ≡ Some s)
step_there o [] k role e = absurd cc
step_there o (s ∷ steps) zero role e = (s, refl)
step_there o (s ∷ steps) (suc k) role e = step_there (is_open o (first_role o s steps)) steps k role e

-- what opens a pair is an aload_0
this_opens : (o : Bool) (kind : PairKind) (taken : Bool) → role_of o kind taken ≡ Opens → kind ≡ This
this_opens false This taken e = refl
this_opens false Silent taken e = absurd cc
this_opens false Pushes taken e = absurd cc
this_opens false Gets taken e = absurd cc
this_opens false Puts taken e = absurd cc
this_opens false Other taken e = absurd cc
this_opens true This taken e = absurd cc
this_opens true Silent taken e = absurd cc
this_opens true Pushes taken e = absurd cc
this_opens true Gets taken e = absurd cc
this_opens true Puts taken e = absurd cc
this_opens true Other taken e = absurd cc

pub fuses_all : (steps : List PairStep) → FusesAll steps
fuses_all steps = record { fused = fused; none_left = left }
  where
    fused : (first : ℕ) → slice_get (roles_from false steps) first ≡ Some Opens → (count : ℕ)
        × IsFusible steps first count
    fused first e =
        let s = step_there false steps first Opens e in
        let there = stands_in closed steps tt first s.0 s.1 in
        let w = last_wait Begins (drop (suc first) steps) in
        let o = is_opened (open_at closed steps first) in
        let is : role_of o s.0.kind (is_taken w) ≡ Opens = (let f : Some (role_of o s.0.kind (is_taken w))
        ≡ Some Opens =
        sym there.role ∙ e in cc) in
        taken_fusible steps first s.0 s.1 (this_opens o s.0.kind (is_taken w) is)
        (ap (λ n. last_wait Begins (drop n steps)) (one_further first) ∙ taken_opens o s.0.kind w is)

    left : (first count : ℕ) → IsFusible steps first count → slice_get (roles_from false steps) first ≡ Some Opens
    left first count f =
        let there = stands_in closed steps tt first f.load f.there in
        let taken = ap (λ n. last_wait Begins (drop n steps)) (sym (one_further first))
        ∙ fusible_taken steps first count f in
        there.role ∙ ap Some (opens_here (open_at closed steps first) f.load (drop (suc first) steps) there.held f.loads
        taken)
