-- One name of a walk.
use Rattle.std.proofs.Common.{◌≡◌, ℕ, ◌+◌, ◌<◌, ◌≤◌, true, false, List, [], ◌∷◌, ◌++◌, sym, ap, subst, ◌∙◌, length}
use Rattle.std.proofs.Common.{get_or, drop, append-nil, arith, inl, refl}
use Rattle.std.specs.List.{flat_map}
use Rattle.cjc_world.specs.Classes.{Class, class_named}
use Rattle.cjc_world.specs.Supertypes.{IsAcyclic, supertypes}
use Rattle.cjc_order.specs.Supers.Working.Walk.{has, put, with_all, AreDone, AreIn, StandAbove, supers_in}
use Rattle.cjc_order.specs.Supers.Working.Walk.{interfaces_in, upwards_from, interfaces_from, size}
use Rattle.cjc_order.proofs.SupersLaws.Sets.{all_append, walk_next, all_in, none_new, done_then, done_one}
use Rattle.cjc_order.proofs.SupersLaws.Sets.{above_then, above_step, seen_before}
use Rattle.cjc_order.proofs.SupersLaws.Trees.{upwards_step, interfaces_step, less_above, within_all}

-- the name is the i-th of the list
pub record IsAt (names : List (List ℕ)) (i : ℕ) (x : List ℕ) : Type 0 where
  pub item : List ℕ
  pub inside : i < length names
  pub is : item ≡ get_or names i item
  pub name : x ≡ item

-- what the name adds has been put behind the names that were seen, and the walk is done with it
pub record HasAdded (adds all : List ℕ → List (List ℕ)) (x : List ℕ) (came old after new : List (List ℕ)) : Type 0
  where
    pub seen : new ≡ with_all old (all x)
    pub done : AreDone adds came after new

pub one_more : (adds all : List ℕ → List (List ℕ)) (names : List (List ℕ)) (i : ℕ) (x : List ℕ)
    (came old after new total : List (List ℕ)) → IsAt names i x → HasAdded adds all x came old after new
    → with_all old (flat_map all (drop i names)) ≡ total → with_all new (flat_map all (drop (i + 1) names)) ≡ total
one_more adds all names i x came old after new total at h so_far =
    ap (λ ks. with_all ks (flat_map all (drop (i + 1) names))) (h.seen ∙ ap (λ y. with_all old (all y)) (at.name
    ∙ at.is))
    ∙ walk_next all old names i at.item total at.inside so_far

-- the walk stands where it stood, one name further
pub one_done : (adds all : List ℕ → List (List ℕ)) (x : List ℕ) (before came old after new : List (List ℕ))
    → HasAdded adds all x came old after new → AreDone adds before came old → AreDone adds before after new
one_done adds all x before came old after new h so_far = done_then adds before came after old new (all x) h.seen so_far
    h.done

pub one_above : (w : List Class) (adds all : List ℕ → List (List ℕ)) (x : List ℕ) (names came old after new :
    List (List ℕ)) → HasAdded adds all x came old after new → StandAbove w adds came old names
    → StandAbove w adds after new names
one_above w adds all x names came old after new h above = above_then adds w came after old new (all x) names h.seen
    above h.done

-- a name that the walk came to before adds nothing
pub passed : (w : List Class) → IsAcyclic w → (adds : List ℕ → List (List ℕ)) (names : List (List ℕ)) (i : ℕ)
    (x : List ℕ) (came old after new : List (List ℕ)) → IsAt names i x → StandAbove w adds came old names
    → has came x ≡ true → after ≡ came → new ≡ old → HasAdded adds adds x came old after new
passed w acyclic adds names i x came old after new at above is after-is new-is = record {
  seen = new-is ∙ sym (none_new old (adds x) (seen_before adds w came old names x above is
      (subst (λ y. size (supertypes w (y ∷ [])) ≤ size (supertypes w names)) (sym (at.name ∙ at.is))
      (within_all w acyclic names i at.item at.inside))));
  done = λ y e. inl (sym (ap (λ ks. has ks y) after-is) ∙ e);
}

finished : (adds : List ℕ → List (List ℕ)) (x : List ℕ) (came begun old after new : List (List ℕ)) → begun ≡ put came x
    → new ≡ with_all old (adds x) → AreDone adds begun after new → HasAdded adds adds x came old after new
finished adds x came begun old after new begins seen done = record {
  seen = seen;
  done = done_one adds came begun after new x begins done (subst (λ ks. AreIn ks (adds x)) (sym seen)
      (all_in old (adds x)));
}

-- ---- superclasses

pub upwards_added : (w : List Class) → IsAcyclic w → (x : List ℕ) (old begun new supers : List (List ℕ))
    → begun ≡ put old x → supers ≡ supers_in (class_named w x)
    → new ≡ with_all begun (flat_map (upwards_from w) supers) → AreDone (upwards_from w) begun new new
    → HasAdded (upwards_from w) (upwards_from w) x old old new new
upwards_added w acyclic x old begun new supers begins are seen done = finished (upwards_from w) x old begun old new new
    begins (
    seen
    ∙ (ap (λ ks. with_all ks (flat_map (upwards_from w) supers)) begins
    ∙ (ap (λ ns. with_all old (x ∷ flat_map (upwards_from w) ns)) are
    ∙ ap (with_all old) (sym (upwards_step w acyclic x))))) done

-- ---- interfaces

unlisted : (w : List Class) → IsAcyclic w → (x : List ℕ)
    → flat_map (interfaces_from w false) (supers_in (class_named w x))
    ++ flat_map (interfaces_from w true) (interfaces_in (class_named w x)) ≡ interfaces_from w false x
unlisted w acyclic x = sym (interfaces_step w acyclic false x
    ∙ append-nil (flat_map (interfaces_from w false) (supers_in (class_named w x))
    ++ flat_map (interfaces_from w true) (interfaces_in (class_named w x))))

listed_adds : (w : List Class) → IsAcyclic w → (x : List ℕ) → interfaces_from w false x
    ++ x ∷ [] ≡ interfaces_from w true x
listed_adds w acyclic x = ap (λ ns. ns ++ x ∷ []) (sym (unlisted w acyclic x)) ∙ sym (interfaces_step w acyclic true x)

pub interfaces_added : (w : List Class) → IsAcyclic w → (x : List ℕ) (came begun between after old middle new supers
    interfaces : List (List ℕ)) → begun ≡ put came x → supers ≡ supers_in (class_named w x)
    → interfaces ≡ interfaces_in (class_named w x)
    → middle ≡ with_all old (flat_map (interfaces_from w false) supers)
    → AreDone (interfaces_from w false) begun between middle
    → new ≡ with_all middle (flat_map (interfaces_from w true) interfaces)
    → AreDone (interfaces_from w false) between after new
    → HasAdded (interfaces_from w false) (interfaces_from w false) x came old after new
interfaces_added w acyclic x came begun between after old middle new supers interfaces begins are others first
    first-done second second-done = finished (interfaces_from w false) x came begun old after new begins (
    second
    ∙ (ap (λ ks. with_all ks (flat_map (interfaces_from w true) interfaces)) first
    ∙ (sym (all_append old (flat_map (interfaces_from w false) supers) (flat_map (interfaces_from w true)
    interfaces))
    ∙ (ap (λ ns. with_all old (flat_map (interfaces_from w false) ns
    ++ flat_map (interfaces_from w true) interfaces)) are
    ∙ (ap (λ ns. with_all old (flat_map (interfaces_from w false) (supers_in (class_named w x))
    ++ flat_map (interfaces_from w true) ns)) others
    ∙ ap (with_all old) (unlisted w acyclic x)))))) (done_then (interfaces_from w false) begun between after middle new
    (flat_map (interfaces_from w true) interfaces) second first-done second-done)

-- the name itself behind its interfaces
pub with_listed : (w : List Class) → IsAcyclic w → (x : List ℕ) (came old after seen new : List (List ℕ))
    → HasAdded (interfaces_from w false) (interfaces_from w false) x came old after seen → new ≡ put seen x
    → HasAdded (interfaces_from w false) (interfaces_from w true) x came old after new
with_listed w acyclic x came old after seen new h same = record {
  seen = same
      ∙ (ap (λ ks. with_all ks (x ∷ [])) h.seen
      ∙ (sym (all_append old (interfaces_from w false x) (x ∷ []))
      ∙ ap (with_all old) (listed_adds w acyclic x)));
  done = done_then (interfaces_from w false) came after after seen new (x ∷ []) same h.done (λ y e. inl e);
}

pub not_listed : (w : List Class) (x : List ℕ) (came old after seen new : List (List ℕ))
    → HasAdded (interfaces_from w false) (interfaces_from w false) x came old after seen → new ≡ seen
    → HasAdded (interfaces_from w false) (interfaces_from w false) x came old after new
not_listed w x came old after seen new h same = subst (HasAdded (interfaces_from w false) (interfaces_from w false) x
    came old after) (sym same) h

-- ---- measures

pub less_supers : (w : List Class) → IsAcyclic w → (names : List (List ℕ)) (i : ℕ) (x : List ℕ) (supers : List (List ℕ))
    → IsAt names i x → supers ≡ supers_in (class_named w x)
    → size (supertypes w supers) < size (supertypes w names)
less_supers w acyclic names i x supers at are =
    let less = (less_above w acyclic names i at.item at.inside).0 in
    let same : size (supertypes w supers) ≡ size (supertypes w (supers_in (class_named w (get_or names i at.item)))) =
    ap (λ ns. size (supertypes w ns)) (are ∙ ap (λ y. supers_in (class_named w y)) (at.name ∙ at.is)) in
    omega (arith, less, same)

pub less_interfaces : (w : List Class) → IsAcyclic w → (names : List (List ℕ)) (i : ℕ) (x : List ℕ)
    (interfaces : List (List ℕ)) → IsAt names i x → interfaces ≡ interfaces_in (class_named w x)
    → size (supertypes w interfaces) < size (supertypes w names)
less_interfaces w acyclic names i x interfaces at are =
    let less = (less_above w acyclic names i at.item at.inside).1 in
    let same : size (supertypes w interfaces)
    ≡ size (supertypes w (interfaces_in (class_named w (get_or names i at.item)))) =
    ap (λ ns. size (supertypes w ns)) (are ∙ ap (λ y. interfaces_in (class_named w y)) (at.name ∙ at.is)) in
    omega (arith, less, same)

alone : (x : List ℕ) → IsAt (x ∷ []) 0 x
alone x = record { item = x; inside = omega arith; is = refl; name = refl }

-- what the walk came to before stands above the supers of one of the names, or all that it adds has been seen
pub above_supers : (w : List Class) → IsAcyclic w → (adds : List ℕ → List (List ℕ)) (names : List (List ℕ)) (i : ℕ)
    (x : List ℕ) (came begun old new xs supers : List (List ℕ)) → IsAt names i x → begun ≡ put came x
    → new ≡ with_all old xs → supers ≡ supers_in (class_named w x) → StandAbove w adds came old names
    → StandAbove w adds begun new supers
above_supers w acyclic adds names i x came begun old new xs supers at begins same are above = above_step adds w came
    begun old new xs names supers x begins same (less_supers w acyclic names i x supers at are)
    (less_supers w acyclic (x ∷ []) 0 x supers (alone x) are) above

pub above_interfaces : (w : List Class) → IsAcyclic w → (adds : List ℕ → List (List ℕ)) (names : List (List ℕ)) (i : ℕ)
    (x : List ℕ) (came begun between old new xs interfaces : List (List ℕ)) → IsAt names i x → begun ≡ put came x
    → new ≡ with_all old xs → interfaces ≡ interfaces_in (class_named w x) → StandAbove w adds came old names
    → AreDone adds begun between new → StandAbove w adds between new interfaces
above_interfaces w acyclic adds names i x came begun between old new xs interfaces at begins same are above done =
    above_then adds w begun between old new xs interfaces same (above_step adds w came begun old old [] names interfaces
    x begins refl (less_interfaces w acyclic names i x interfaces at are)
    (less_interfaces w acyclic (x ∷ []) 0 x interfaces (alone x) are) above) done
