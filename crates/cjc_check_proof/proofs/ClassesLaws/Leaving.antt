-- Upwards from a class of the package some superclass is imported.
use Rattle.std.proofs.Common.{◌≡◌, ℕ, zero, suc, ◌<◌, ◌+◌, ◌==◌, refl, sym, ap, subst, ◌∙◌, arith, Bool, true, false}
use Rattle.std.proofs.Common.{List, [], ◌∷◌, ◌++◌, reverse, append_assoc, append-nil, inl, inr, ⊎_elim}
use Rattle.std.specs.Prelude.{not, ◌||◌, ◌⊎◌, Option, Some, None, is_some, map, slice_get, unwrap_or, if◌then◌else◌}
use Rattle.std.proofs.lemmas.List.{reverse-append}
use Rattle.cjc_bytes.specs.AccessFlags.{is_interface}
use Rattle.cjc_bytes.proofs.Numbers.{like_number, other_way}
use Rattle.cjc_capread.specs.declared.tree.ClassRef.{ClassRef}
use Rattle.cjc_capread.specs.declared.tree.ClassRef.TheVariants.{Inside, Outside}
use Rattle.cjc_capread.specs.declared.tree.ClassEntry.{ClassEntry}
use Rattle.cjc_check_rules.specs.Spots.{Placed, begins, placed, starts}
use Rattle.cjc_check_rules.specs.Complete.{class_size}
use Rattle.cjc_check_rules.specs.Classes.{classes_at, first_class}
use Rattle.cjc_check_rules.specs.Tables.{leaves}
use Rattle.cjc_world.specs.Classes.{Class, class_named}
use Rattle.cjc_world.specs.Supertypes.{Lists, foremost}
use Rattle.cjc_world.specs.Order.{in_order}
use Rattle.cjc_world.specs.Rules.{is_interface_of}
use Rattle.cjc_world.proofs.Cycles.{class_named-name}
use Rattle.cjc_vtable.proofs.Filed.{Has, get-has}
use Rattle.cjc_components.specs.Package.{Package, world}
use Rattle.cjc_components.specs.Class.{class_entry, superclass}
use Rattle.cjc_components.specs.Names.{class_ref}
use Rattle.cjc_token_proof.specs.Tables.Sound.{IsSound}
use Rattle.cjc_token_proof.proofs.TablesLaws.Clean.{has_named, kept}
use Rattle.cjc_token_proof.proofs.TablesLaws.Filed.{one_class, own_filed}
use Rattle.cjc_token_proof.proofs.TablesLaws.Lists.{right_supers}
use Rattle.cjc_token_proof.proofs.TablesLaws.Named.{has_entry}
use Rattle.cjc_token_proof.proofs.TablesLaws.Order.{kind-in, own_names}
use Rattle.cjc_check_proof.proofs.ClassesLaws.Earlier.{super_before}
use Rattle.cjc_check_proof.proofs.ClassesLaws.Refs.{info, own_ref}
use Rattle.cjc_check_proof.proofs.ClassesLaws.There.{super_known}

-- ---- a list of classes, the last first, each of whose superclasses is imported or stands behind it

abbrev IsAbove : ClassRef → List (Placed ClassEntry) → Type 0
IsAbove (Inside o) all = begins all o ≡ true
IsAbove (Outside import class) all = true ≡ true

abbrev IsGood : List (Placed ClassEntry) → Type 0
IsGood [] = Unit {0}
IsGood (q ∷ earlier) = (let x = q.item in IsAbove x.superclass earlier) × IsGood earlier

leaves_good : (all : List (Placed ClassEntry)) (ref : ClassRef) → IsGood all → IsAbove ref all → leaves all ref ≡ true
unfolding leaves
leaves_good [] (Inside o) good above = absurd (cc)
leaves_good [] (Outside import class) good above = refl
leaves_good (q ∷ all) (Outside import class) good above = leaves_good all (Outside import class) good.1 refl
leaves_good (q ∷ all) (Inside o) good above = by (o == q.at) refl above (leaves_good all (let x = q.item
    in x.superclass) good.1 good.0) (leaves_good all (Inside o) good.1)
  where
    by : (b : Bool) → (o == q.at) ≡ b → (q.at == o || begins all o) ≡ true → leaves all (let x = q.item in x.superclass)
        ≡ true → (begins all o ≡ true → leaves all (Inside o) ≡ true)
        → (if b then leaves all (let x = q.item in x.superclass) else leaves all (Inside o)) ≡ true
    by true e f up rest = up
    by false e f up rest = rest (sym (ap (λ b. b || begins all o) (other_way o q.at e)) ∙ f)

-- ---- from a list with the first first

-- among these, or one of the first of those
abbrev IsEarlier : List (Placed ClassEntry) → List (Placed ClassEntry) → ℕ → ClassRef → Type 0
IsEarlier before all k (Inside o) = (begins before o ≡ true) ⊎ ((j : ℕ) × (q : Placed ClassEntry) × (j < k)
    × (slice_get all j ≡ Some q) × (q.at ≡ o))
IsEarlier before all k (Outside import class) = true ≡ true

now_above : (q : Placed ClassEntry) (before all : List (Placed ClassEntry)) (ref : ClassRef)
    → IsEarlier before (q ∷ all) 0 ref → IsAbove ref before
now_above q before all (Inside o) e = ⊎_elim (λ h. h) (λ r. let lt = r.2 in absurd (omega (arith, lt))) e
now_above q before all (Outside import class) e = refl

one_later : (q : Placed ClassEntry) (before all : List (Placed ClassEntry)) (k : ℕ) (ref : ClassRef)
    → IsEarlier before (q ∷ all) (suc k) ref → IsEarlier (q ∷ before) all k ref
one_later q before all k (Outside import class) e = refl
one_later q before all k (Inside o) e = ⊎_elim (λ h. inl (last (q.at == o) h)) (λ r. at r.0 r.1 r.2 r.3 r.4) e
  where
    last : (b : Bool) → begins before o ≡ true → (b || begins before o) ≡ true
    last true h = refl
    last false h = h

    at : (j : ℕ) (x : Placed ClassEntry) → j < suc k → slice_get (q ∷ all) j ≡ Some x → x.at ≡ o
        → IsEarlier (q ∷ before) all k (Inside o)
    at zero x lt f g =
        let is : q ≡ x = cc in
        let here : q.at ≡ o = ap (λ (z : Placed ClassEntry). z.at) is ∙ g in
        inl (ap (λ n. n == o || begins before o) here ∙ ap (λ b. b || begins before o) (like_number o))
    at (suc j) x lt f g = inr (j, x, omega (arith, lt), f, g)

pub turned : (before all : List (Placed ClassEntry)) (q : Placed ClassEntry) → reverse (q ∷ all) ++ before ≡ reverse all
    ++ (q ∷ before)
turned before all q = ap (λ xs. xs ++ before) (reverse-append (q ∷ []) all) ∙ append_assoc (reverse all) (q ∷ []) before

good_turned : (all before : List (Placed ClassEntry)) → IsGood before → ((k : ℕ) (q : Placed ClassEntry)
    → slice_get all k ≡ Some q → IsEarlier before all k (let x = q.item in x.superclass))
    → IsGood (reverse all ++ before)
good_turned [] before good each = good
good_turned (q ∷ all) before good each =
    subst IsGood (sym (turned before all q))
    (good_turned all (q ∷ before) (
      now_above q before all (let x = q.item in x.superclass) (each 0 q refl),
      good,
    ) (λ k y e. one_later q before all k (let x = y.item in x.superclass) (each (suc k) y e)))

above_turned : (all before : List (Placed ClassEntry)) (k : ℕ) (ref : ClassRef) → IsEarlier before all k ref
    → IsAbove ref (reverse all ++ before)
above_turned all before k (Outside import class) e = refl
above_turned [] before k (Inside o) e = ⊎_elim (λ h. h) (λ r. absurd (let f = r.3 in cc)) e
above_turned (q ∷ all) before zero (Inside o) e = subst (IsAbove (Inside o)) (sym (turned before all q))
    (above_turned all (q ∷ before) 0 (Inside o) (⊎_elim (λ h. inl (last (q.at == o) h)) (λ r. let lt = r.2
    in absurd (omega (arith, lt))) e))
  where
    last : (b : Bool) → begins before o ≡ true → (b || begins before o) ≡ true
    last true h = refl
    last false h = h
above_turned (q ∷ all) before (suc k) (Inside o) e = subst (IsAbove (Inside o)) (sym (turned before all q))
    (above_turned all (q ∷ before) k (Inside o) (one_later q before all k (Inside o) e))

-- ---- items by their places

pub placed_at : {A X : Type 0} (size : A → ℕ) (from : ℕ) (f : X → A) (xs : List X) (k : ℕ) (q : Placed A)
    → slice_get (placed size from (map f xs)) k ≡ Some q → (x : X) × (slice_get xs k ≡ Some x) × (q.item ≡ f x)
unfolding placed
placed_at size from f [] k q e = absurd (cc)
placed_at {A = A} size from f (x ∷ xs) zero q e =
    let is : record { at = from; item = f x } ≡ q = cc in
    (x, refl, sym (ap (λ (z : Placed A). z.item) is))
placed_at size from f (x ∷ xs) (suc k) q e = placed_at size (from + size (f x)) f xs k q e

placed_start : {A : Type 0} (size : A → ℕ) (from : ℕ) (xs : List A) (k s : ℕ) → slice_get (starts size from xs) k
    ≡ Some s → (q : Placed A) × (slice_get (placed size from xs) k ≡ Some q) × (q.at ≡ s)
unfolding placed
placed_start size from [] k s e = absurd (cc)
placed_start size from (x ∷ xs) zero s e = let is : from ≡ s = cc in (record { at = from; item = x }, refl, is)
placed_start size from (x ∷ xs) (suc k) s e = placed_start size (from + size x) xs k s e

module _ (list : List ℕ) (p : Package) (sound : IsSound list p.files) where
  abbrev w : List Class
  w = world p

  -- the superclass of a class is imported, or stands earlier
  super_earlier : (k : ℕ) (c : Class) → slice_get (in_order w false) k ≡ Some c
      → IsEarlier [] (classes_at (info p)) k (class_ref p (superclass c))
  super_earlier k c e =
      let m = kind-in list p.files sound false c (get-has c (in_order w false) k e) in
      let r = own_filed p.files sound.classes sound.exports c m.0 m.1 in
      let t = r.1 in
      let is : c.supers ≡ t.superclass ∷ [] = ap (λ (v : Class). v.supers) r.3 in
      let name : superclass c ≡ t.superclass = ap (λ xs. unwrap_or (slice_get xs 0) []) is in
      subst (λ y. IsEarlier [] (classes_at (info p)) k (class_ref p y)) (sym name)
      (by t.superclass (class_named w t.superclass) refl (super_known list p sound c t.superclass m.0 m.1 is)
      (subst (Lists t.superclass) (sym is) foremost) m.0)
    where
      found : (y : List ℕ) (d : Class) → class_named w y ≡ Some d → Lists y c.supers → Has c w → (b : Bool)
          → d.is_imported ≡ b → IsEarlier [] (classes_at (info p)) k (class_ref p d.name)
      found y d f l h true g = let r = has_entry list p sound d (has_named w y d f) g
          in subst (IsEarlier [] (classes_at (info p)) k) (sym r.ref) refl
      found y d f l h false g =
          let rule = right_supers w c (let u = kept list p.files sound c h in u.supers) in
          let kind : is_interface d.flags ≡ false = sym (ap is_interface_of f) ∙ rule.supers y l in
          let r = super_before w false d y f g (ap not kind) k c e l in
          let m = kind-in list p.files sound false r.1 (get-has r.1 (in_order w false) r.0 r.3) in
          let is : r.1 ≡ d = one_class p.files sound.classes sound.exports r.1 d m.0 (has_named w y d f) (m.1
          ∙ sym g) r.4 in
          let at = own_ref p (own_names list p.files sound) r.0 d (subst (λ (v : Class). slice_get (in_order w false)
          r.0 ≡ Some v) is r.3) in
          let q = placed_start class_size (first_class (info p)) (map (class_entry (class_ref p) p) (in_order w false))
          r.0 at.0 at.1 in
          subst (IsEarlier [] (classes_at (info p)) k) (sym at.2) (inr (r.0, q.0, r.2, q.1, q.2))

      by : (y : List ℕ) (o : Option Class) → class_named w y ≡ o → is_some (class_named w y) ≡ true → Lists y c.supers
          → Has c w → IsEarlier [] (classes_at (info p)) k (class_ref p y)
      by y None f g l h = absurd (let no : is_some (class_named w y) ≡ false = ap is_some f in cc)
      by y (Some d) f g l h = subst (λ x. IsEarlier [] (classes_at (info p)) k (class_ref p x)) (class_named-name w y d
          f) (found y d f l h d.is_imported refl)

  all_good : IsGood (reverse (classes_at (info p)))
  all_good = subst IsGood (append-nil (reverse (classes_at (info p)))) (good_turned (classes_at (info p)) [] tt
      (λ k q e.
      let r = placed_at class_size (first_class (info p)) (class_entry (class_ref p) p) (in_order w false) k q e in
      subst (λ (x : ClassEntry). IsEarlier [] (classes_at (info p)) k x.superclass) (sym r.2)
      (super_earlier k r.0 r.1)))

  pub super_leaves : (k : ℕ) (c : Class) → slice_get (in_order w false) k ≡ Some c
      → leaves (reverse (classes_at (info p))) (class_ref p (superclass c)) ≡ true
  super_leaves k c e =
      leaves_good (reverse (classes_at (info p))) (class_ref p (superclass c)) all_good
      (subst (IsAbove (class_ref p (superclass c))) (append-nil (reverse (classes_at (info p))))
      (above_turned (classes_at (info p)) [] k (class_ref p (superclass c)) (super_earlier k c e)))
