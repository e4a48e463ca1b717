-- The first method of a signature in a class, of any kind and of those that selection may end at.
use Rattle.std.proofs.Common.{◌≡◌, ℕ, zero, suc, ◌+◌, refl, sym, ap, ◌∙◌, Bool, true, false, List, [], ◌∷◌, length}
use Rattle.std.specs.Prelude.{◌&&◌, ◌||◌, not, Option, Some, None, option_map, position, slice_get, if◌then◌else◌}
use Rattle.cjc_bytes.specs.AccessFlags.{is_private, is_static}
use Rattle.cjc_bytes.proofs.Gets.{position_there}
use Rattle.cjc_token_proof.proofs.WorldProofOwn.{is_found}
use Rattle.cjc_tokens.specs.Members.{In, Signature, all_methods, chosen, is_exposed, is_hidden, is_shown, is_virtual}
use Rattle.cjc_tokens.specs.Members.{signature_of}
use Rattle.cjc_tokens.proofs.Facts.{place-some, position-cons}
use Rattle.cjc_world.specs.Upwards.{Has, after, foremost}
use Rattle.cjc_vtable.specs.Calls.{any_method, is_clash, is_special, selects}
use Rattle.cjc_vtable.proofs.Asked.{chosen-behind, chosen-front}
use Rattle.cjc_vtable.proofs.Calls.{In-behind, In-front}
use Rattle.cjc_world.specs.declared.found.Found.{Found}
use Rattle.cjc_world.specs.Classes.{Class, Member}
use Rattle.cjc_world.specs.Lookup.{first, is_called, is_wanted, member_at, or_else, own_method}

-- ---- in a list

-- the first of any kind is the first that is selected, where it may be
pub any_selects : (s : Signature) (ms : List Member) (m : Member) → chosen any_method s ms ≡ Some m → selects m ≡ true
    → chosen selects s ms ≡ Some m
any_selects s [] m e may = cc
any_selects s (n ∷ ms) m e may = by (is_called s.name s.desc n) (selects n) refl e (any_selects s ms m)
  where
    by : (a b : Bool) → selects n ≡ b → (if true && a then Some n else chosen any_method s ms) ≡ Some m
        → (chosen any_method s ms ≡ Some m → selects m ≡ true → chosen selects s ms ≡ Some m)
        → (if b && a then Some n else chosen selects s ms) ≡ Some m
    by true true f e rest = e
    by true false f e rest = let is : n ≡ m = cc in let clash : true ≡ false = sym may ∙ ap selects (sym is) ∙ f in cc
    by false true f e rest = rest e may
    by false false f e rest = rest e may

-- the first of those that pass stands at the place that is found
pub placed : (test : Member → Bool) (s : Signature) (ms : List Member) (i : ℕ)
    → position (λ m. test m && is_called s.name s.desc m) ms ≡ Some i → (m : Member) × (chosen test s ms ≡ Some m)
    × (slice_get ms i ≡ Some m)
placed test s [] i e = cc
placed test s (n ∷ ms) i e = by (test n && is_called s.name s.desc n) i (sym (position-cons (λ m. test m
    && is_called s.name s.desc m) n ms) ∙ e) (λ j f. placed test s ms j f)
  where
    inner : (o : Option ℕ) (i : ℕ) → option_map suc o ≡ Some i → ((j : ℕ) → o ≡ Some j → (m : Member)
        × (chosen test s ms ≡ Some m) × (slice_get ms j ≡ Some m)) → (m : Member) × (chosen test s ms ≡ Some m)
        × (slice_get (n ∷ ms) i ≡ Some m)
    inner None i e rest = cc
    inner (Some j) zero e rest = cc
    inner (Some j) (suc i) e rest = rest i cc

    by : (b : Bool) (i : ℕ) → (if b then Some 0 else option_map suc (position (λ m. test m && is_called s.name s.desc m)
        ms)) ≡ Some i → ((j : ℕ) → position (λ m. test m && is_called s.name s.desc m) ms ≡ Some j → (m : Member)
        × (chosen test s ms ≡ Some m) × (slice_get ms j ≡ Some m))
        → (m : Member) × ((if b then Some n else chosen test s ms) ≡ Some m) × (slice_get (n ∷ ms) i ≡ Some m)
    by true zero e rest = (n, refl, refl)
    by true (suc i) e rest = cc
    by false i e rest = inner (position (λ m. test m && is_called s.name s.desc m) ms) i e rest

-- ---- in a class

abbrev pub wanted : Bool → Member → Bool
wanted selecting m = is_wanted selecting m.flags

-- What a class's own look-up finds is the first of the signature.
pub record IsFirst (selecting : Bool) (s : Signature) (c : Class) (f : Found) : Type 0 where
  pub method : Member
  pub place : ℕ
  pub is_first : chosen (wanted selecting) s c.methods ≡ Some method
  pub there : slice_get c.methods place ≡ Some method
  pub is : f ≡ member_at c (length c.fields + place)

pub own_first : (selecting : Bool) (s : Signature) (c : Class) (f : Found) → own_method selecting s.name s.desc c
    ≡ Some f → IsFirst selecting s c f
unfolding own_method
own_first selecting s c f e = by (position (λ m. is_wanted selecting m.flags && is_called s.name s.desc m) c.methods)
    refl e
  where
    by : (o : Option ℕ) → position (λ m. is_wanted selecting m.flags && is_called s.name s.desc m) c.methods ≡ o
        → option_map (λ i. member_at c (length c.fields + i)) o ≡ Some f → IsFirst selecting s c f
    by None g e = absurd cc
    by (Some i) g e =
        let r = placed (wanted selecting) s c.methods i g in
        record {
          method = r.0;
          place = i;
          is_first = r.1;
          there = r.2;
          is = (let same : member_at c (length c.fields + i) ≡ f = cc in sym same);
        }

-- a class with a method that selection finds has one of any kind
pub own_any : (s : Signature) (c : Class) (f : Found) → own_method true s.name s.desc c ≡ Some f → (g : Found)
    × (own_method false s.name s.desc c ≡ Some g)
unfolding own_method
own_any s c f e = by (position (λ m. is_wanted true m.flags && is_called s.name s.desc m) c.methods) refl e
  where
    last : (a b : Bool) → (a && b) ≡ true → b ≡ true
    last true b e = e
    last false b e = absurd cc

    by : (o : Option ℕ) → position (λ m. is_wanted true m.flags && is_called s.name s.desc m) c.methods ≡ o
        → option_map (λ i. member_at c (length c.fields + i)) o ≡ Some f → (g : Found)
        × (own_method false s.name s.desc c ≡ Some g)
    by None g e = absurd cc
    by (Some i) g e =
        let x = position_there (λ (m : Member). is_wanted true m.flags && is_called s.name s.desc m) c.methods i g in
        let called = last (is_wanted true (let m = x.0 in m.flags)) (is_called s.name s.desc x.0) x.2 in
        let r = is_found (λ (m : Member). is_wanted false m.flags && is_called s.name s.desc m) c.methods i x.0 x.1
        called in
        (member_at c (length c.fields + r.0), ap (option_map (λ i. member_at c (length c.fields + i))) r.1)

-- ---- in classes

-- a method of one of them
pub has_methods : (d : Class) (cs : List Class) (m : Member) → Has d cs → In m d.methods → In m (all_methods cs)
has_methods d [] m h i = elim h [ ]
has_methods d (c ∷ cs) m foremost i = In-front m d.methods (all_methods cs) i
has_methods d (c ∷ cs) m (after h) i = In-behind m c.methods (all_methods cs) (has_methods d cs m h i)

-- none that passes stands in a class whose own look-up finds nothing
own_none : (selecting : Bool) (s : Signature) (c : Class) → own_method selecting s.name s.desc c ≡ None
    → chosen (wanted selecting) s c.methods ≡ None
unfolding own_method
own_none selecting s c e = by (chosen (wanted selecting) s c.methods) refl
  where
    by : (o : Option Member) → chosen (wanted selecting) s c.methods ≡ o → chosen (wanted selecting) s c.methods ≡ None
    by None f = f
    by (Some m) f =
        let r = place-some (wanted selecting) s c.methods m f in
        let clash : Some (member_at c (length c.fields + r.0)) ≡ None =
        sym (ap (option_map (λ i. member_at c (length c.fields + i))) r.1) ∙ e in
        absurd cc

-- What the first of some classes that has one finds is the first in all of them.
pub record IsFirstOf (selecting : Bool) (s : Signature) (cs : List Class) (f : Found) : Type 0 where
  pub class : Class
  pub among : Has class cs
  pub own : own_method selecting s.name s.desc class ≡ Some f
  pub at : IsFirst selecting s class f
  pub of_all : chosen (wanted selecting) s (all_methods cs) ≡ Some (let a = at in a.method)

pub first_found : (selecting : Bool) (s : Signature) (cs : List Class) (f : Found)
    → first (own_method selecting s.name s.desc) cs ≡ Some f → IsFirstOf selecting s cs f
unfolding first
first_found selecting s [] f e = absurd cc
first_found selecting s (c ∷ cs) f e = by (own_method selecting s.name s.desc c) refl e (first_found selecting s cs f)
  where
    by : (o : Option Found) → own_method selecting s.name s.desc c ≡ o
        → or_else o (first (own_method selecting s.name s.desc) cs) ≡ Some f
        → (first (own_method selecting s.name s.desc) cs ≡ Some f → IsFirstOf selecting s cs f)
        → IsFirstOf selecting s (c ∷ cs) f
    by (Some g) h e rest =
        let own : own_method selecting s.name s.desc c ≡ Some f = h ∙ e in
        let at = own_first selecting s c f own in
        record {
          class = c;
          among = foremost;
          own = own;
          at = at;
          of_all = chosen-front (wanted selecting) s c.methods
              (all_methods cs) at.method at.is_first;
        }
    by None h e rest =
        let r = rest e in
        record {
          class = r.class;
          among = after r.among;
          own = r.own;
          at = r.at;
          of_all = chosen-behind (wanted selecting) s c.methods (all_methods cs) (own_none selecting s c h)
              ∙ r.of_all;
        }

-- ---- access of a method and an inherited one

pub never_both : {A : Type 0} (m n : Member) → is_hidden m ≡ true → is_shown n ≡ true → is_clash m.flags n.flags ≡ false
    → A
never_both m n hidden shown clash = by (is_exposed m.flags) (is_private m.flags) (is_static m.flags)
    (is_exposed n.flags) (is_private n.flags) (is_special (signature_of m)) (is_virtual n) hidden shown clash
  where
    by : {A : Type 0} (a p t b q sp v : Bool) → (not a && ((not p && not t) && not sp)) ≡ true → (b && v) ≡ true
        → (((not a && not p) && b) || (a && (not b && not q))) ≡ false → A
    by true p t b q sp v f g k = absurd cc
    by false true t b q sp v f g k = absurd cc
    by false false t false q sp v f g k = absurd cc
    by false false t true q sp v f g k = absurd cc

pub hidden_or_shown : {A : Type 0} (m : Member) → is_hidden m ≡ true → is_shown m ≡ true → A
hidden_or_shown m hidden shown = by (is_exposed m.flags) (is_virtual m) hidden shown
  where
    by : {A : Type 0} (a v : Bool) → (not a && v) ≡ true → (a && v) ≡ true → A
    by true v f g = absurd cc
    by false v f g = absurd cc
