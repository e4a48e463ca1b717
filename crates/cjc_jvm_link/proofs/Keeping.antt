-- What is kept for names, one class more.
use Rattle.std.proofs.Common.{◌≡◌, ℕ, zero, suc, ◌+◌, ◌<◌, ◌≤◌, refl, sym, ap, ◌∙◌, subst, arith, Bool, true, false}
use Rattle.std.proofs.Common.{cond, List, [], ◌∷◌, ◌++◌, length, map, drop, get_or, below_more}
use Rattle.std.specs.Prelude.{Result, Ok, Err, OnOk, is_some, Option, Some, None, slice_get, option_map}
use Rattle.std.specs.Prelude.{option_and_then, if◌then◌else◌}
use Rattle.std.specs.Str.{bytes_eq}
use Rattle.std.proofs.lemmas.Option.{same_Some}
use Rattle.std.proofs.Math.Seq.{drop-cons}
use Rattle.std.proofs.lemmas.List.{append_assoc}
use Rattle.cjc_jvm_step.specs.Script.declared.report.FieldValue.{FieldValue}
use Rattle.cjc_world.specs.Classes.{Class, class_named}
use Rattle.cjc_world.specs.Supertypes.{IsAcyclic, line}
use Rattle.cjc_jvm_semantics.specs.Effects.{fresh_field}
use Rattle.cjc_jvm_semantics.specs.OnePackage.{is_made, made_of, object_fields}
use Rattle.cjc_world.proofs.Cycles.{class_named-name}
use Rattle.cjc_world.proofs.ByPlace.{class-place}
use Rattle.cjc_jvm_link.specs.declared.fresh.Fresh.{Fresh}
use Rattle.cjc_jvm_link.specs.Fresh.{fresh_in, fresh_fields, AreFresh, Has, HasClass, HasAll, HasEach, Keeps}
use Rattle.cjc_jvm_link.proofs.Above.{fresh_cons, fresh_unknown}
use Rattle.cjc_world.proofs.BytesLists.{name_is, bytes_true}

module _ (w : List Class) (name : List ℕ) (fields : List FieldValue) (old new : Fresh) (put : (x : List ℕ)
    → fresh_in new x ≡ cond (bytes_eq name x) (Some fields) (fresh_in old x)) where
  pub keep_fresh : AreFresh w old → fields ≡ fresh_fields w (name ∷ []) → AreFresh w new
  keep_fresh fresh is x more e = by (bytes_eq name x) refl (sym (put x) ∙ e)
    where
      by : (b : Bool) → bytes_eq name x ≡ b → cond b (Some fields) (fresh_in old x) ≡ Some more
          → more ≡ fresh_fields w (x ∷ [])
      by true same f = let m : fields ≡ more = cc in sym m ∙ is
          ∙ ap (λ z. fresh_fields w (z ∷ [])) (bytes_true name x same)
      by false apart f = fresh x more f

  pub keep_keeps : Keeps old new
  keep_keeps x has = by (bytes_eq name x) (put x)
    where
      by : (b : Bool) → fresh_in new x ≡ cond b (Some fields) (fresh_in old x) → Has new x
      by true e = (fields, e)
      by false e = (has.0, e ∙ has.1)

  pub keep_has : HasClass w new name
  keep_has c e = (fields, put name ∙ ap (λ t. cond t (Some fields) (fresh_in old name)) (name_is name))

pub keeps_each : (w : List Class) (old new : Fresh) (names : List (List ℕ)) → Keeps old new → HasEach w old names
    → HasEach w new names
keeps_each w old new [] keeps has = tt
keeps_each w old new (x ∷ names) keeps has = (λ c e. keeps x (has.0 c e), keeps_each w old new names keeps has.1)

-- what is found is there for its class
pub has_found : (w : List Class) (fresh : Fresh) (x : List ℕ) (fields : List FieldValue)
    → fresh_in fresh x ≡ Some fields → HasClass w fresh x
has_found w fresh x fields e c f = (fields, e)

pub has_nothing : (w : List Class) (fresh : Fresh) (x : List ℕ) → class_named w x ≡ None → HasClass w fresh x
has_nothing w fresh x none c f = let bad : None ≡ Some c = sym none ∙ f in cc

-- a class at a place is found by its name
named_at : (w : List Class) (p : ℕ) (c : Class) → slice_get w p ≡ Some c → (d : Class) × (class_named w c.name ≡ Some d)
unfolding class_named
named_at [] p c e = cc
named_at (d ∷ w) p c e = by (bytes_eq d.name c.name) refl p e (λ q f. named_at w q c f)
  where
    by : (b : Bool) → bytes_eq d.name c.name ≡ b → (p : ℕ) → slice_get (d ∷ w) p ≡ Some c
        → ((q : ℕ) → slice_get w q ≡ Some c → (k : Class) × (class_named w c.name ≡ Some k)) → (k : Class)
        × ((if b then Some d else class_named w c.name) ≡ Some k)
    by true t p f later = (d, refl)
    by false t zero f later = let same : d ≡ c = cc in let yes : bytes_eq d.name c.name ≡ true =
        ap (λ k. bytes_eq d.name k.name) (sym same) ∙ name_is d.name in cc
    by false t (suc p) f later = later p f

pub has_at : (w : List Class) (fresh : Fresh) (p : ℕ) (c : Class) → slice_get w p ≡ Some c
    → HasEach w fresh (c.name ∷ []) → Has fresh c.name
has_at w fresh p c e has = let d = named_at w p c e in has.0 d.0 d.1

pub has_all : (w : List Class) (fresh : Fresh) (place : ℕ) → slice_get w place ≡ None → ((p : ℕ) (c : Class) → p < place
    → slice_get w p ≡ Some c → Has fresh c.name) → HasAll w fresh
has_all w fresh place none has name c e =
    let at = class-place w name c e in
    subst (λ x. Has fresh x) (class_named-name w name c e) (has at.0 c (below w place at.0 c none at.2) at.2)
  where
    below : (xs : List Class) (n p : ℕ) (d : Class) → slice_get xs n ≡ None → slice_get xs p ≡ Some d → p < n
    below [] n p d e f = cc
    below (x ∷ xs) zero p d e f = cc
    below (x ∷ xs) (suc n) zero d e f = omega arith
    below (x ∷ xs) (suc n) (suc p) d e f = let h = below xs n p d e f in omega arith

module _ (w : List Class) (acyclic : IsAcyclic w) (fresh : Fresh) where
  pub above_some : AreFresh w fresh → (x : List ℕ) (xs : List (List ℕ)) (old more : List FieldValue)
      → fresh_in fresh x ≡ Some more → (old ++ fresh_fields w xs) ++ more ≡ old ++ fresh_fields w (x ∷ xs)
  above_some are x xs old more e =
      append_assoc old (fresh_fields w xs) more
      ∙ ap (λ z. old ++ (fresh_fields w xs ++ z)) (are x more e)
      ∙ ap (λ z. old ++ z) (sym (fresh_cons w acyclic x xs))

  pub above_none : (x : List ℕ) (xs : List (List ℕ)) → HasClass w fresh x → fresh_in fresh x ≡ None
      → fresh_fields w xs ≡ fresh_fields w (x ∷ xs)
  above_none x xs has none = by (class_named w x) refl
    where
      by : (o : Option Class) → class_named w x ≡ o → fresh_fields w xs ≡ fresh_fields w (x ∷ xs)
      by None e = sym (fresh_unknown w acyclic x xs e)
      by (Some c) e = let h = has c e in let bad : None ≡ Some h.0 = sym none ∙ h.1 in cc

-- the fields of a new object are kept for its class
pub made_there : (w : List Class) (fresh : Fresh) (name : List ℕ) (c : Class) → class_named w name ≡ Some c
    → is_made c ≡ true → AreFresh w fresh → HasAll w fresh
    → fresh_in fresh name ≡ option_map (λ ids. map fresh_field ids) (made_of w name)
unfolding line
made_there w fresh name c e made are has =
    let h = has name c e in
    h.1 ∙ ap (λ fs. Some fs) (are name h.0 h.1)
    ∙ sym (ap (λ o. option_map (λ ids. map fresh_field ids) (option_and_then (λ c. if is_made c
    then Some (object_fields w name) else None) o)) e
    ∙ ap (λ t. option_map (λ ids. map fresh_field ids) (if t then Some (object_fields w name) else None)) made)

-- ---- walks

pub empty : {A : Type 0} (xs : List A) → length xs < 1 → xs ≡ []
empty [] h = refl
empty (x ∷ xs) h = absurd (omega arith)

-- the first of some items, and the rest of them
pub first_of_all : {A : Type 0} (xs : List A) (x : A) → 1 ≤ length xs → x ≡ get_or xs 0 x → xs ≡ x ∷ drop 1 xs
first_of_all xs x h is = let some : 0 < length xs = omega arith in drop-cons xs 0 x some
    ∙ ap (λ y. y ∷ drop 1 xs) (sym is)

pub has_some : {B : Type 0} (f : B → List FieldValue) (fresh : Fresh) (x : List ℕ) (o : Option B) → is_some o ≡ true
    → option_map f o ≡ fresh_in fresh x → Has fresh x
has_some f fresh x None s e = cc
has_some f fresh x (Some b) s e = (f b, sym e)

pub both_ok : {T E : Type 0} (P Q : Type 0) (r : Result T E) → OnOk r P → OnOk r Q → OnOk r (P × Q)
both_ok P Q (Ok x) p q = (p, q)
both_ok P Q (Err e) p q = tt

pub has_step : (w : List Class) (old new : Fresh) (place : ℕ) (class : Class) → ((p : ℕ) (c : Class) → p < place
    → slice_get w p ≡ Some c → Has old c.name) → Keeps old new → slice_get w place ≡ Some class
    → HasEach w new (class.name ∷ []) → (p : ℕ) → p < place + 1 → (c : Class) → slice_get w p ≡ Some c → Has new c.name
has_step w old new place class seen keeps here has =
    let P : ℕ → Type 0 = λ p. (c : Class) → slice_get w p ≡ Some c → Has new c.name in
    let earlier : (p : ℕ) → p < place → P p = λ p h c e. keeps c.name (seen p c h e) in
    let last : P place = λ c e. let same : class ≡ c = same_Some class c (sym here ∙ e)
    in has_at w new place c e (subst (λ (k : Class). HasEach w new (k.name ∷ [])) same has) in
    below_more P place earlier last
