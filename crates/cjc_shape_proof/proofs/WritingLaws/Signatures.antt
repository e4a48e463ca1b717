-- The methods of an interface by their signatures: each stands once, and none is an initialiser.
use Rattle.std.proofs.Common.{◌≡◌, ℕ, zero, suc, refl, sym, ap, subst, ◌∙◌, Bool, true, false, List, [], ◌∷◌, ◌++◌}
use Rattle.std.proofs.Common.{Contains, ⊎_elim, Some}
use Rattle.std.specs.Prelude.{◌||◌, codes, length, option_map, position, slice_get, if◌then◌else◌}
use Rattle.std.specs.Str.{bytes_eq}
use Rattle.cjc_vtable.specs.Fixpoint.Working.Edges.{contains_head, contains_tail}
use Rattle.cjc_tokens.proofs.Facts.{position-cons, same-refl, same-true}
use Rattle.cjc_tokens.proofs.Held.{new-fresh}
use Rattle.cjc_tokens.specs.Members.{Signature, is_initialiser, same}
use Rattle.cjc_tokens.specs.Slots.{Slots, has_slot, new_in}
use Rattle.cjc_vtable.proofs.Asked.{has-here}
use Rattle.cjc_vtable.proofs.Filed.{Has, at_front, behind, has-either}
use Rattle.cjc_world.specs.Added.{asked_by, by_token, methods_of, own_methods, without_initialiser}
use Rattle.cjc_world.specs.Classes.{Class, Member}
use Rattle.cjc_world.specs.Interfaces.{gathered, known}
use Rattle.cjc_world.specs.Supertypes.{Supertypes}
use Rattle.cjc_shape_proof.proofs.WrittenLaws.FittingLaws.Order.{has_cons, has_none}

-- ---- signatures that are new

pub new_has : (S : Slots) (ss : List Signature) (i : ℕ) (s : Signature) → slice_get (new_in S ss) i ≡ Some s → Has s ss
new_has S [] i s e = cc
new_has S (x ∷ ss) i s e = by (has_slot S x) i e (new_has S ss) (new_has (S ++ Some x ∷ []) ss)
  where
    by : (b : Bool) (i : ℕ) → slice_get (if b then new_in S ss else x ∷ new_in (S ++ Some x ∷ []) ss) i ≡ Some s
        → ((j : ℕ) (u : Signature) → slice_get (new_in S ss) j ≡ Some u → Has u ss) → ((j : ℕ) (u : Signature)
        → slice_get (new_in (S ++ Some x ∷ []) ss) j ≡ Some u → Has u ss) → Has s (x ∷ ss)
    by true i e old new = behind (old i s e)
    by false zero e old new = let is : x ≡ s = cc in subst (λ (u : Signature). Has u (x ∷ ss)) is at_front
    by false (suc i) e old new = behind (new i s e)

has_last : (S : Slots) (x s : Signature) → x ≡ s → has_slot (S ++ Some x ∷ []) s ≡ true
has_last [] x s e = ap (λ b. b || false) (ap (λ (u : Signature). same u s) e ∙ same-refl s)
has_last (slot ∷ S) x s e = last _ (has_last S x s e)
  where
    last : (a : Bool) {b : Bool} → b ≡ true → (a || b) ≡ true
    last true f = refl
    last false f = f

-- its place is the first of its kind
pub new_once : (S : Slots) (ss : List Signature) (i : ℕ) (s : Signature) → slice_get (new_in S ss) i ≡ Some s
    → position (λ u. same u s) (new_in S ss) ≡ Some i
new_once S [] i s e = cc
new_once S (x ∷ ss) i s e = by (has_slot S x) i e (new_once S ss) (new_once (S ++ Some x ∷ []) ss)
  where
    Once : List Signature → Type 0
    Once us = (j : ℕ) (u : Signature) → slice_get us j ≡ Some u → position (λ v. same v u) us ≡ Some j

    apart : (i : ℕ) → slice_get (new_in (S ++ Some x ∷ []) ss) i ≡ Some s → (b : Bool) → same x s ≡ b → b ≡ false
    apart i e false f = refl
    apart i e true f =
        let there = has-here (new_in (S ++ Some x ∷ []) ss) i s e in
        let not_there = new-fresh (S ++ Some x ∷ []) ss s (has_last S x s (same-true x s f)) in
        absurd (let z : true ≡ false = sym there ∙ not_there in cc)

    by : (b : Bool) (i : ℕ) → slice_get (if b then new_in S ss else x ∷ new_in (S ++ Some x ∷ []) ss) i ≡ Some s
        → Once (new_in S ss) → Once (new_in (S ++ Some x ∷ []) ss)
        → position (λ u. same u s) (if b then new_in S ss else x ∷ new_in (S ++ Some x ∷ []) ss) ≡ Some i
    by true i e old new = old i s e
    by false zero e old new =
        let is : x ≡ s = cc in
        position-cons (λ u. same u s) x (new_in (S ++ Some x ∷ []) ss)
        ∙ ap (λ b. if b then Some 0 else option_map suc (position (λ u. same u s) (new_in (S ++ Some x ∷ []) ss)))
        (ap (λ (u : Signature). same u s) is ∙ same-refl s)
    by false (suc i) e old new =
        position-cons (λ u. same u s) x (new_in (S ++ Some x ∷ []) ss)
        ∙ ap (λ b. if b then Some 0 else option_map suc (position (λ u. same u s) (new_in (S ++ Some x ∷ []) ss)))
        (apart i e (same x s) refl)
        ∙ ap (option_map suc) (new i s e)

-- ---- methods that an interface has

without_plain : (ms : List Member) (m : Member) → Has m (without_initialiser ms) → is_initialiser m.name ≡ false
without_plain [] m h = has_none m h
without_plain (x ∷ ms) m h = by (bytes_eq x.name (codes "<clinit>")) refl h (without_plain ms m)
  where
    by : (b : Bool) → bytes_eq x.name (codes "<clinit>") ≡ b → Has m (if b then without_initialiser ms
        else x ∷ without_initialiser ms) → (Has m (without_initialiser ms) → is_initialiser m.name ≡ false)
        → is_initialiser m.name ≡ false
    by true e g rest = rest g
    by false e g rest = ⊎_elim (λ same_one. ap (λ (y : Member). is_initialiser y.name) same_one ∙ e) (λ i. rest i)
        (has_cons m x (without_initialiser ms) g)

own_plain : (d : Class) (m : Member) → Has m (own_methods d) → is_initialiser m.name ≡ false
unfolding own_methods
own_plain d m h = without_plain (if d.is_imported then by_token (length d.methods) 0 d.methods else d.methods) m h

of_plain : (ds : List Class) (m : Member) → Has m (methods_of ds) → is_initialiser m.name ≡ false
unfolding methods_of
of_plain [] m h = has_none m h
of_plain (d ∷ ds) m h = ⊎_elim (λ g. own_plain d m g) (λ g. of_plain ds m g) (has-either m (own_methods d)
    (methods_of ds) h)

pub asked_plain : (supers interfaces : Supertypes) (d : Class) (m : Member) → Has m (asked_by supers interfaces
    ++ own_methods d) → is_initialiser m.name ≡ false
unfolding asked_by
asked_plain supers interfaces d m h =
    ⊎_elim (λ g. of_plain (known (gathered false supers ++ gathered true interfaces)) m g) (λ g. own_plain d m g)
    (has-either m (methods_of (known (gathered false supers ++ gathered true interfaces))) (own_methods d) h)

-- ---- a class's own method among those

without_kept : (ms : List Member) (k : ℕ) (m : Member) → slice_get ms k ≡ Some m → is_initialiser m.name ≡ false
    → Contains (without_initialiser ms) m
without_kept [] k m e plain = cc
without_kept (x ∷ ms) zero m e plain =
    let is : x ≡ m = cc in
    subst (λ b. Contains (if b then without_initialiser ms else x ∷ without_initialiser ms) m)
    (sym (ap (λ (y : Member). is_initialiser y.name) is ∙ plain))
    (subst (λ (y : Member). Contains (y ∷ without_initialiser ms) m) (sym is)
    (contains_head m (without_initialiser ms)))
without_kept (x ∷ ms) (suc k) m e plain = by (is_initialiser x.name) (without_kept ms k m e plain)
  where
    by : (b : Bool) → Contains (without_initialiser ms) m → Contains (if b then without_initialiser ms
        else x ∷ without_initialiser ms) m
    by true h = h
    by false h = contains_tail x (without_initialiser ms) m h

contains_back : (xs ys : List Member) (m : Member) → Contains ys m → Contains (xs ++ ys) m
contains_back [] ys m h = h
contains_back (x ∷ xs) ys m h = contains_tail x (xs ++ ys) m (contains_back xs ys m h)

pub own_kept_there : (supers interfaces : Supertypes) (d : Class) → d.is_imported ≡ false → (k : ℕ) (m : Member)
    → slice_get d.methods k ≡ Some m → is_initialiser m.name ≡ false → Contains (asked_by supers interfaces
    ++ own_methods d) m
unfolding own_methods
own_kept_there supers interfaces d own k m e plain =
    contains_back (asked_by supers interfaces) (without_initialiser (if d.is_imported
    then by_token (length d.methods) 0 d.methods else d.methods)) m
    (subst (λ b. Contains (without_initialiser (if b then by_token (length d.methods) 0 d.methods else d.methods)) m)
    (sym own) (without_kept d.methods k m e plain))
