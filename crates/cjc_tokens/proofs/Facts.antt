-- Signatures, and the first method of a signature.
use Rattle.std.proofs.Common.{◌≡◌, ℕ, suc, ◌+◌, refl, sym, ap, subst, ◌∙◌, arith, Bool, true, false, List, [], ◌∷◌}
use Rattle.std.proofs.Common.{length, cond}
use Rattle.std.specs.Prelude.{◌&&◌, ◌||◌, not, Option, Some, None, if◌then◌else◌, map, option_map, position, nat_lt}
use Rattle.std.specs.List.{prefix_len}
use Rattle.std.proofs.lemmas.Slice.Eq.{bytes_eq-Decides}
use Rattle.cjc_world.specs.declared.found.Found.{Found}
use Rattle.cjc_world.specs.Classes.{Member, Class}
use Rattle.cjc_world.specs.Lookup.{is_called, member_at}
use Rattle.cjc_tokens.specs.Members.{Signature, signature_of, same, has, signatures, In, chosen, first_of, later}
use Rattle.cjc_tokens.specs.Slots.{own, got}
use Rattle.cjc_bytes.proofs.Numbers.{number_more}

signature : List ℕ → List ℕ → Signature
signature n d = record { name = n; desc = d }

pub same-true : (s t : Signature) → same s t ≡ true → s ≡ t
unfolding signature
same-true s t h =
    let names : s.name ≡ t.name = grind (arith, bytes_eq-Decides) in
    let descs : s.desc ≡ t.desc = grind (arith, bytes_eq-Decides) in
    ap (λ n. signature n s.desc) names ∙ ap (λ d. signature t.name d) descs

pub same-refl : (s : Signature) → same s s ≡ true
same-refl s = grind (arith, bytes_eq-Decides)

-- ---- the first place that passes

pub position-cons : {A : Type 0} (p : A → Bool) (x : A) (xs : List A) → position p (x ∷ xs) ≡ (if p x then Some 0
    else option_map suc (position p xs))
position-cons p x xs = by (p x)
  where
    n : ℕ
    n = prefix_len (λ y. not (p y)) xs

    at : (k l : ℕ) (b : Bool) → cond b (Some (1 + k)) None ≡ option_map suc (cond b (Some k) None)
    at k l true = let h : 1 + k ≡ suc k = omega arith in ap (λ q. Some q) h
    at k l false = refl

    by : (b : Bool) → cond (nat_lt (cond (not b) (1 + prefix_len (λ y. not (p y)) xs) 0) (suc (length xs)))
        (Some (cond (not b) (1 + prefix_len (λ y. not (p y)) xs) 0)) None ≡ (if b then Some 0
        else option_map suc (position p xs))
    by true = let lt : nat_lt 0 (suc (length xs)) ≡ true = grind arith in ap (λ b. cond b (Some 0) None) lt
    by false =
        ap (λ b. cond b (Some (1 + prefix_len (λ y. not (p y)) xs)) None) (number_more (prefix_len (λ y. not (p y)) xs)
        (length xs))
        ∙ at (prefix_len (λ y. not (p y)) xs) (length xs) (nat_lt (prefix_len (λ y. not (p y)) xs) (length xs))

-- tests that agree on all items have one place
pub position-same : (p q : Member → Bool) (ms : List Member) → ((m : Member) → In m ms → p m ≡ q m)
    → position p ms ≡ position q ms
position-same p q [] same_tests = refl
position-same p q (m ∷ ms) same_tests =
    position-cons p m ms
    ∙ ap (λ b. if b then Some 0 else option_map suc (position p ms)) (same_tests m first_of)
    ∙ ap (λ o. if q m then Some 0 else option_map suc o) (position-same p q ms (λ n i. same_tests n (later i)))
    ∙ sym (position-cons q m ms)

abbrev pub place : (Member → Bool) → Signature → List Member → Option ℕ
place test s ms = position (λ m. test m && is_called s.name s.desc m) ms

-- ---- what is chosen

pub chosen-passes : (test : Member → Bool) (s : Signature) (ms : List Member) (m : Member) → chosen test s ms ≡ Some m
    → (signature_of m ≡ s) × (test m ≡ true)
chosen-passes test s [] m e = cc
chosen-passes test s (n ∷ ms) m e = by (test n) (is_called s.name s.desc n) refl refl e (chosen-passes test s ms m)
  where
    by : (b a : Bool) → test n ≡ b → is_called s.name s.desc n ≡ a → (if b && a then Some n else chosen test s ms)
        ≡ Some m → (chosen test s ms ≡ Some m → (signature_of m ≡ s) × (test m ≡ true)) → (signature_of m ≡ s)
        × (test m ≡ true)
    by true true g f e rest = let is : n ≡ m = cc in (
      ap signature_of (sym is) ∙ same-true (signature_of n) s f,
      ap test (sym is) ∙ g,
    )
    by true false g f e rest = rest e
    by false a g f e rest = rest e

pub chosen-In : (test : Member → Bool) (s : Signature) (ms : List Member) (m : Member) → chosen test s ms ≡ Some m
    → In m ms
chosen-In test s [] m e = cc
chosen-In test s (n ∷ ms) m e = by (test n && is_called s.name s.desc n) e (chosen-In test s ms m)
  where
    by : (b : Bool) → (if b then Some n else chosen test s ms) ≡ Some m → (chosen test s ms ≡ Some m → In m ms)
        → In m (n ∷ ms)
    by true e rest = let is : n ≡ m = cc in subst (λ q. In m (q ∷ ms)) (sym is) first_of
    by false e rest = later (rest e)

-- a signature is one of those that pass exactly where such a method is chosen
pub chosen-none : (test : Member → Bool) (s : Signature) (ms : List Member) → has (signatures test ms) s ≡ false
    → chosen test s ms ≡ None
chosen-none test s [] e = refl
chosen-none test s (n ∷ ms) e = by (test n) (is_called s.name s.desc n) refl e (chosen-none test s ms)
  where
    by : (b a : Bool) → is_called s.name s.desc n ≡ a → has (if b then signature_of n ∷ signatures test ms
        else signatures test ms) s ≡ false → (has (signatures test ms) s ≡ false → chosen test s ms ≡ None)
        → (if b && a then Some n else chosen test s ms) ≡ None
    by true true f e rest = let g : (true || has (signatures test ms) s) ≡ false =
        ap (λ q. q || has (signatures test ms) s) (sym f) ∙ e in cc
    by true false f e rest = rest (ap (λ q. q || has (signatures test ms) s) (sym f) ∙ e)
    by false a f e rest = rest e

pub chosen-some : (test : Member → Bool) (s : Signature) (ms : List Member) → has (signatures test ms) s ≡ true
    → (m : Member) × (chosen test s ms ≡ Some m)
chosen-some test s [] e = cc
chosen-some test s (n ∷ ms) e = by (test n) (is_called s.name s.desc n) refl e (chosen-some test s ms)
  where
    by : (b a : Bool) → is_called s.name s.desc n ≡ a → has (if b then signature_of n ∷ signatures test ms
        else signatures test ms) s ≡ true → (has (signatures test ms) s ≡ true → (m : Member)
        × (chosen test s ms ≡ Some m)) → (m : Member) × ((if b && a then Some n else chosen test s ms) ≡ Some m)
    by true true f e rest = (n, refl)
    by true false f e rest = rest (ap (λ q. q || has (signatures test ms) s) (sym f) ∙ e)
    by false a f e rest = rest e

pub has-chosen : (test : Member → Bool) (s : Signature) (ms : List Member) (m : Member) → chosen test s ms ≡ Some m
    → has (signatures test ms) s ≡ true
has-chosen test s ms m e = by (has (signatures test ms) s) refl
  where
    by : (b : Bool) → has (signatures test ms) s ≡ b → has (signatures test ms) s ≡ true
    by true f = f
    by false f = let none = chosen-none test s ms f in cc

pub has-none : (test : Member → Bool) (s : Signature) (ms : List Member) → chosen test s ms ≡ None
    → has (signatures test ms) s ≡ false
has-none test s ms e = by (has (signatures test ms) s) refl
  where
    by : (b : Bool) → has (signatures test ms) s ≡ b → has (signatures test ms) s ≡ false
    by true f = let some = chosen-some test s ms f in cc (some.1)
    by false f = f

pub place-none : (test : Member → Bool) (s : Signature) (ms : List Member) → chosen test s ms ≡ None
    → place test s ms ≡ None
place-none test s [] e = refl
place-none test s (n ∷ ms) e = position-cons (λ m. test m && is_called s.name s.desc m) n ms
    ∙ by (test n && is_called s.name s.desc n) e (place-none test s ms)
  where
    by : (b : Bool) → (if b then Some n else chosen test s ms) ≡ None → (chosen test s ms ≡ None
        → place test s ms ≡ None) → (if b then Some 0 else option_map suc (place test s ms)) ≡ None
    by true e rest = cc
    by false e rest = ap (option_map suc) (rest e)

pub place-some : (test : Member → Bool) (s : Signature) (ms : List Member) (m : Member) → chosen test s ms ≡ Some m
    → (i : ℕ) × (place test s ms ≡ Some i)
place-some test s [] m e = cc
place-some test s (n ∷ ms) m e = let r = by (test n && is_called s.name s.desc n) e (place-some test s ms m)
    in (r.0, position-cons (λ m. test m && is_called s.name s.desc m) n ms ∙ r.1)
  where
    by : (b : Bool) → (if b then Some n else chosen test s ms) ≡ Some m → (chosen test s ms ≡ Some m → (i : ℕ)
        × (place test s ms ≡ Some i)) → (i : ℕ) × ((if b then Some 0 else option_map suc (place test s ms)) ≡ Some i)
    by true e rest = (0, refl)
    by false e rest = let r = rest e in (suc r.0, ap (option_map suc) r.1)

-- ---- a class's own method

pub own-none : (test : Member → Bool) (s : Signature) (c : Class) → chosen test s c.methods ≡ None → own test s c ≡ None
unfolding own
own-none test s c e = ap (option_map (λ i. member_at c (length c.fields + i))) (place-none test s c.methods e)

pub own-some : (test : Member → Bool) (s : Signature) (c : Class) (m : Member) → chosen test s c.methods ≡ Some m
    → (i : ℕ) × (own test s c ≡ Some (member_at c i))
unfolding own
own-some test s c m e = let r = place-some test s c.methods m e
    in (length c.fields + r.0, ap (option_map (λ i. member_at c (length c.fields + i))) r.1)

pub has-own_none : (test : Member → Bool) (s : Signature) (c : Class) → own test s c ≡ None
    → has (signatures test c.methods) s ≡ false
has-own_none test s c e = by (chosen test s c.methods) refl
  where
    by : (o : Option Member) → chosen test s c.methods ≡ o → has (signatures test c.methods) s ≡ false
    by None f = has-none test s c.methods f
    by (Some m) f = let r = own-some test s c m f in cc (r.1)

-- what is found is a method of the class
pub own-at : (test : Member → Bool) (s : Signature) (c : Class) (f : Found) → own test s c ≡ Some f → (i : ℕ)
    × (f ≡ member_at c i)
own-at test s c f e = by (chosen test s c.methods) refl
  where
    by : (o : Option Member) → chosen test s c.methods ≡ o → (i : ℕ) × (f ≡ member_at c i)
    by None g = let none = own-none test s c g in cc
    by (Some m) g = let r = own-some test s c m g in (r.0, cc (r.1))

-- ---- an added method

anyone : Member → Bool
anyone m = true

given_place : List Member → Signature → Option ℕ
given_place given s = position (λ m. is_called s.name s.desc m) given

has-given : (given : List Member) (s : Signature) → (o : Option ℕ) × (position (λ m. is_called s.name s.desc m) given
    ≡ o) × ((o ≡ None → has (map signature_of given) s ≡ false) × (has (map signature_of given) s ≡ false → o ≡ None))
has-given [] s = (None, refl, (λ e. refl, λ e. refl))
has-given (n ∷ given) s =
    let r = has-given given s in
    let q = by r.0 (is_called s.name s.desc n) r.2.0 r.2.1 in (
      q.0,
      position-cons (λ m. is_called s.name s.desc m) n given ∙ ap (λ o. if is_called s.name s.desc n then Some 0
          else option_map suc o) r.1 ∙ q.1,
      q.2,
    )
  where
    by : (o : Option ℕ) (a : Bool) → (o ≡ None → has (map signature_of given) s ≡ false)
        → (has (map signature_of given) s ≡ false → o ≡ None)
        → (p : Option ℕ) × ((if a then Some 0 else option_map suc o) ≡ p)
        × ((p ≡ None → (a || has (map signature_of given) s) ≡ false) × ((a || has (map signature_of given) s)
        ≡ false → p ≡ None))
    by o true h k = (Some 0, refl, (λ e. cc, λ e. cc))
    by None false h k = (None, refl, (λ e. h refl, λ e. refl))
    by (Some i) false h k = (Some (suc i), refl, (λ e. cc, λ e. let no = k e in cc))

pub got-none : (given : List Member) (s : Signature) (c : Class) → has (map signature_of given) s ≡ false
    → got given s c ≡ None
unfolding got
got-none given s c e = let r = has-given given s
    in ap (option_map (λ i. member_at c (length c.fields + length c.methods + i))) (r.1 ∙ r.2.1 e)

pub has-got_none : (given : List Member) (s : Signature) (c : Class) → got given s c ≡ None
    → has (map signature_of given) s ≡ false
unfolding got
has-got_none given s c e = let r = has-given given s in by r.0 r.1 r.2.0 e
  where
    by : (o : Option ℕ) → position (λ m. is_called s.name s.desc m) given ≡ o
        → (o ≡ None → has (map signature_of given) s ≡ false)
        → option_map (λ i. member_at c (length c.fields + length c.methods + i))
        (position (λ m. is_called s.name s.desc m) given) ≡ None → has (map signature_of given) s ≡ false
    by None f h e = h refl
    by (Some i) f h e = let g : option_map (λ j. member_at c (length c.fields + length c.methods + j)) (Some i) ≡ None =
        ap (option_map (λ j. member_at c (length c.fields + length c.methods + j))) (sym f) ∙ e in cc

pub got-at : (given : List Member) (s : Signature) (c : Class) (f : Found) → got given s c ≡ Some f → (i : ℕ)
    × (f ≡ member_at c i)
unfolding got
got-at given s c f e = by (position (λ m. is_called s.name s.desc m) given) e
  where
    by : (o : Option ℕ) → option_map (λ i. member_at c (length c.fields + length c.methods + i)) o ≡ Some f → (i : ℕ)
        × (f ≡ member_at c i)
    by None e = cc
    by (Some i) e = (length c.fields + length c.methods + i, cc)
