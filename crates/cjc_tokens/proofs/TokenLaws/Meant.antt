-- Each token of an interface means a method that is found.
use Rattle.std.proofs.Common.{◌≡◌, ◌⊎◌, ℕ, zero, suc, ◌+◌, ◌<◌, ◌&&◌, ◌||◌, Bool, true, false, cond, List, [], ◌∷◌}
use Rattle.std.proofs.Common.{◌++◌, map, length, slice_get, Option, Some, None, option_map, position, codes, ◌==◌}
use Rattle.std.proofs.Common.{refl, sym, ap, subst, ◌∙◌, append-nil, inl, inr, arith}
use Rattle.std.specs.List.{Contains}
use Rattle.std.specs.Str.{bytes_eq}
use Rattle.std.proofs.lemmas.List.Elements.{Contains-append_cases}
use Rattle.std.proofs.lemmas.Option.{same_Some}
use Rattle.cjc_world.specs.ClassFile.declared.tree.ClassTree.{ClassTree}
use Rattle.cjc_bytes.specs.AccessFlags.{is_interface}
use Rattle.cjc_bytes.proofs.Lists.{name_is}
use Rattle.cjc_bytes.proofs.Bools.{or_cases}
use Rattle.cjc_fixpoint.specs.Working.Edges.{contains_head, contains_tail, contains_cons}
use Rattle.cjc_world.specs.declared.found.Found.{Found}
use Rattle.cjc_world.specs.Added.{with_token, by_token, without_initialiser, own_methods, methods_of, asked_by}
use Rattle.cjc_world.specs.Classes.{Class, Member, all_classes, class_named, declared}
use Rattle.cjc_world.specs.Files.{Files}
use Rattle.cjc_world.specs.Interfaces.{gathered, known}
use Rattle.cjc_world.specs.Supertypes.{Supertypes, End, Known, IsAcyclic, supertypes}
use Rattle.cjc_world.specs.Lookup.{or_else, first, is_called, is_wanted, own_method, own_of, method_of_interface}
use Rattle.cjc_world.specs.Lookup.{member_at}
use Rattle.cjc_world.proofs.Settled.{supertypes-known}
use Rattle.cjc_tokens.specs.Members.{Signature, signature_of, same}
use Rattle.cjc_tokens.specs.Methods.{interface_methods}
use Rattle.cjc_tokens.specs.Slots.{Slots, holds, has_slot, new_in}
use Rattle.cjc_tokens.specs.Tokens.{assigned, method_of_token}
use Rattle.cjc_tokens.proofs.Facts.{position-cons, same-true}
use Rattle.cjc_tokens.proofs.Means.{token-means}

-- ---- signatures that are new

new_from : (slots : Slots) (ss : List Signature) (t : ℕ) (s : Signature) → slice_get (new_in slots ss) t ≡ Some s
    → Contains ss s
new_from slots [] t s e = absurd cc
new_from slots (x ∷ ss) t s e = go (has_slot slots x) t e (new_from slots ss t s) (λ n. new_from (slots
    ++ Some x ∷ []) ss n s)
  where
    go : (b : Bool) (t : ℕ) → slice_get (cond b (new_in slots ss) (x ∷ new_in (slots ++ Some x ∷ []) ss)) t ≡ Some s
        → (slice_get (new_in slots ss) t ≡ Some s → Contains ss s)
        → ((n : ℕ) → slice_get (new_in (slots ++ Some x ∷ []) ss) n ≡ Some s → Contains ss s) → Contains (x ∷ ss) s
    go true t e old new = contains_tail x ss s (old e)
    go false zero e old new = subst (Contains (x ∷ ss)) (same_Some x s e) (contains_head x ss)
    go false (suc t) e old new = contains_tail x ss s (new t e)

of_mapped : (ms : List Member) (s : Signature) → Contains (map signature_of ms) s → (m : Member) × Contains ms m
    × (signature_of m ≡ s)
of_mapped [] s (k, lt, e) = absurd (omega (arith, lt))
of_mapped (m ∷ ms) s is = elim (contains_cons (signature_of m) (map signature_of ms) s is) [
  | inl here ↦ (m, contains_head m ms, here)
  | inr later ↦ (let h = of_mapped ms s later in (h.0, contains_tail m ms h.0 h.1, h.2))
]

-- ---- methods of an interface are declared by some class

without_in : (ms : List Member) (m : Member) → Contains (without_initialiser ms) m → Contains ms m
without_in [] m h = h
without_in (x ∷ ms) m h = go (bytes_eq x.name (codes "<clinit>")) h (without_in ms m)
  where
    go : (b : Bool) → Contains (cond b (without_initialiser ms) (x ∷ without_initialiser ms)) m
        → (Contains (without_initialiser ms) m → Contains ms m) → Contains (x ∷ ms) m
    go true h rest = contains_tail x ms m (rest h)
    go false h rest = elim (contains_cons x (without_initialiser ms) m h) [
      | inl here ↦ subst (Contains (x ∷ ms)) here (contains_head x ms)
      | inr later ↦ contains_tail x ms m (rest later)
    ]

with_token_in : (t : ℕ) (ms : List Member) (m : Member) → Contains (with_token t ms) m → Contains ms m
with_token_in t [] m h = h
with_token_in t (x ∷ ms) m h = go (x.token == t) h (with_token_in t ms m)
  where
    go : (b : Bool) → Contains (cond b (x ∷ []) (with_token t ms)) m → (Contains (with_token t ms) m → Contains ms m)
        → Contains (x ∷ ms) m
    go true h rest = elim (contains_cons x [] m h) [
      | inl here ↦ subst (Contains (x ∷ ms)) here (contains_head x ms)
      | inr later ↦ absurd (let lt = later.1 in omega (arith, lt))
    ]
    go false h rest = contains_tail x ms m (rest h)

by_token_in : (count t : ℕ) (ms : List Member) (m : Member) → Contains (by_token count t ms) m → Contains ms m
by_token_in zero t ms m (k, lt, e) = absurd (omega (arith, lt))
by_token_in (suc count) t ms m h = elim (Contains-append_cases (with_token t ms) (by_token count (t + 1) ms) m h) [
  | inl here ↦ with_token_in t ms m here
  | inr later ↦ by_token_in count (t + 1) ms m later
]

own_in : (c : Class) (m : Member) → Contains (own_methods c) m → Contains c.methods m
unfolding own_methods
own_in c m h = go c.is_imported (without_in (cond c.is_imported (by_token (length c.methods) 0 c.methods) c.methods) m
    h)
  where
    go : (b : Bool) → Contains (cond b (by_token (length c.methods) 0 c.methods) c.methods) m → Contains c.methods m
    go true h = by_token_in (length c.methods) 0 c.methods m h
    go false h = h

asked_in : (cs : List Class) (m : Member) → Contains (methods_of cs) m → (d : Class) × Contains cs d
    × Contains (own_methods d) m
unfolding methods_of
asked_in [] m (k, lt, e) = absurd (omega (arith, lt))
asked_in (c ∷ cs) m h = elim (Contains-append_cases (own_methods c) (methods_of cs) m h) [
  | inl here ↦ (c, contains_head c cs, here)
  | inr later ↦ (let r = asked_in cs m later in (r.0, contains_tail c cs r.0 r.1, r.2))
]

-- ---- what is declared is found

abbrev IsFound : Option Found → Type 0
IsFound o = (f : Found) × (o ≡ Some f)

placed : (p : Member → Bool) (ms : List Member) (m : Member) → Contains ms m → p m ≡ true → (i : ℕ)
    × (position p ms ≡ Some i)
placed p [] m (k, lt, e) is = absurd (omega (arith, lt))
placed p (x ∷ ms) m h is = go (p x) refl (contains_cons x ms m h) (λ there. placed p ms m there is)
  where
    later : (b : Bool) → (i : ℕ) × (position p ms ≡ Some i) → (i : ℕ)
        × (cond b (Some 0) (option_map suc (position p ms)) ≡ Some i)
    later true r = (0, refl)
    later false r = (suc r.0, ap (option_map suc) r.1)

    go : (b : Bool) → p x ≡ b → (x ≡ m) ⊎ Contains ms m → (Contains ms m → (i : ℕ) × (position p ms ≡ Some i)) → (i : ℕ)
        × (position p (x ∷ ms) ≡ Some i)
    go true e there rest = (0, position-cons p x ms ∙ ap (λ b. cond b (Some 0) (option_map suc (position p ms))) e)
    go false e (inl alike) rest = absurd (let no : true ≡ false = sym is ∙ sym (ap p alike) ∙ e in cc)
    go false e (inr there) rest = let r = later (p x) (rest there) in (r.0, position-cons p x ms ∙ r.1)

declared_found : (c : Class) (m : Member) → Contains c.methods m → IsFound (own_method false m.name m.desc c)
unfolding own_method
declared_found c m h =
    let called : is_called m.name m.desc m ≡ true = ap (λ b. b && bytes_eq m.desc m.desc) (name_is m.name)
    ∙ name_is m.desc in
    let r = placed (λ (n : Member). is_wanted false n.flags && is_called m.name m.desc n) c.methods m h called in
    (member_at c (length c.fields + r.0), ap (option_map (λ i. member_at c (length c.fields + i))) r.1)

first_found : (own : Class → Option Found) (cs : List Class) (d : Class) → Contains cs d → IsFound (own d)
    → IsFound (first own cs)
unfolding first
first_found own [] d (k, lt, e) h = absurd (omega (arith, lt))
first_found own (c ∷ cs) d is h = go (own c) refl (contains_cons c cs d is) (first_found own cs d)
  where
    go : (o : Option Found) → own c ≡ o → (c ≡ d) ⊎ Contains cs d → (Contains cs d → IsFound (own d)
        → IsFound (first own cs)) → IsFound (or_else (own c) (first own cs))
    go (Some f) e there rest = (f, ap (λ o. or_else o (first own cs)) e)
    go None e (inl alike) rest = absurd (let no : None ≡ Some h.0 = sym e ∙ ap own alike ∙ h.1 in cc)
    go None e (inr there) rest = let r = rest there h in (r.0, ap (λ o. or_else o (first own cs)) e ∙ r.1)

-- ---- the superinterfaces of a class

pub above : (c : Class) (supers interfaces : Supertypes) → gathered false (Known c supers interfaces End)
    ≡ gathered false supers ++ gathered true interfaces
unfolding gathered
above c supers interfaces = append-nil ((gathered false supers ++ gathered true interfaces) ++ [])
    ∙ append-nil (gathered false supers ++ gathered true interfaces)

module _ (w : List Class) (acyclic : IsAcyclic w) (c : Class) (named : class_named w c.name ≡ Some c) where
  above_is : gathered false (supertypes w (c.name ∷ [])) ≡ gathered false (supertypes w c.supers)
      ++ gathered true (supertypes w c.interfaces)
  above_is = ap (gathered false) (supertypes-known w acyclic c.name c named)
      ∙ above c (supertypes w c.supers) (supertypes w c.interfaces)

  own_found : (m : Member) → Contains (own_methods c) m → IsFound (method_of_interface w c.name m.name m.desc)
  unfolding method_of_interface
  own_found m h =
      let r = declared_found c m (own_in c m h) in (
        r.0,
        ap (λ o. or_else (own_of m.name m.desc o) (first (own_method false m.name m.desc)
            (known (gathered false (supertypes w (c.name ∷ [])))))) named
            ∙ ap (λ o. or_else o (first (own_method false m.name m.desc)
            (known (gathered false (supertypes w (c.name ∷ [])))))) r.1,
      )

  either : (o p : Option Found) → IsFound p → IsFound (or_else o p)
  either (Some f) p h = (f, refl)
  either None p h = h

  asked_found : (m : Member) → Contains (asked_by (supertypes w c.supers) (supertypes w c.interfaces)) m
      → IsFound (method_of_interface w c.name m.name m.desc)
  unfolding method_of_interface asked_by
  asked_found m h =
      let r = asked_in (known (gathered false (supertypes w c.supers) ++ gathered true (supertypes w c.interfaces))) m h
      in
      let there : Contains (known (gathered false (supertypes w (c.name ∷ [])))) r.0 =
      subst (λ is. Contains (known is) r.0) (sym above_is) r.1 in
      either (own_of m.name m.desc (class_named w c.name)) (first (own_method false m.name m.desc)
      (known (gathered false (supertypes w (c.name ∷ [])))))
      (first_found (own_method false m.name m.desc) (known (gathered false (supertypes w (c.name ∷ [])))) r.0 there
      (declared_found r.0 m (own_in r.0 m r.2)))

  member_found : (b : Bool) (m : Member)
      → Contains (cond b (own_methods c) (asked_by (supertypes w c.supers) (supertypes w c.interfaces)
      ++ own_methods c)) m → IsFound (method_of_interface w c.name m.name m.desc)
  member_found true m h = own_found m h
  member_found false m h = elim (Contains-append_cases (asked_by (supertypes w c.supers) (supertypes w c.interfaces))
      (own_methods c) m h) [
        | inl asked ↦ asked_found m asked
        | inr own ↦ own_found m own
      ]

  pub found_in : (t : ℕ) (s : Signature) → slice_get (interface_methods w c) t ≡ Some s
      → IsFound (method_of_interface w c.name s.name s.desc)
  unfolding interface_methods
  found_in t s e =
      let ms = cond c.is_imported (own_methods c) (asked_by (supertypes w c.supers) (supertypes w c.interfaces)
      ++ own_methods c) in
      let r = of_mapped ms s (new_from [] (map signature_of ms) t s e) in
      subst (λ (q : Signature). IsFound (method_of_interface w c.name q.name q.desc)) r.2 (member_found c.is_imported
      r.0 r.1)

pub found_method : (w : List Class) → IsAcyclic w → (c : Class) → class_named w c.name ≡ Some c
    → (t : ℕ) (s : Signature) → slice_get (interface_methods w c) t ≡ Some s → (f : Found)
    × (method_of_interface w c.name s.name s.desc ≡ Some f)
found_method w acyclic c named t s e = found_in w acyclic c named t s e

pub found_by_token : (applets : Bool) (files : Files) (n : ℕ) (c : ClassTree) → IsAcyclic (all_classes files)
    → class_named (all_classes files) c.name ≡ Some (declared n c) → slice_get files.classes n ≡ Some c
    → is_interface c.flags ≡ true
    → (t : ℕ) (s : Signature) → t < 128 → slice_get (interface_methods (all_classes files) (declared n c)) t ≡ Some s
    → (f : Found) × (method_of_token (assigned applets files) n t ≡ Some f)
found_by_token applets files n c acyclic named there interface t s low e =
    let r = found_method (all_classes files) acyclic (declared n c) named t s e in
    (r.0, token-means files applets n c there t s interface low e ∙ r.1)

-- ---- each method has a token

slot_behind : (slots : Slots) (x s : Signature) → has_slot (slots ++ Some x ∷ []) s ≡ (has_slot slots s
    || (same x s || false))
slot_behind [] x s = refl
slot_behind (slot ∷ slots) x s = go (holds slot s) (slot_behind slots x s)
  where
    go : (b : Bool) → has_slot (slots ++ Some x ∷ []) s ≡ (has_slot slots s || (same x s || false))
        → (b || has_slot (slots ++ Some x ∷ []) s) ≡ ((b || has_slot slots s) || (same x s || false))
    go true rest = refl
    go false rest = rest

slot_cases : (slots : Slots) (x s : Signature) → has_slot (slots ++ Some x ∷ []) s ≡ true → (has_slot slots s ≡ true)
    ⊎ (x ≡ s)
slot_cases slots x s e = go (or_cases (has_slot slots s) (same x s || false) (sym (slot_behind slots x s) ∙ e))
  where
    go : (has_slot slots s ≡ true) ⊎ ((same x s || false) ≡ true) → (has_slot slots s ≡ true) ⊎ (x ≡ s)
    go (inl old) = inl old
    go (inr new) = last (or_cases (same x s) false new)
      where
        last : (same x s ≡ true) ⊎ (false ≡ true) → (has_slot slots s ≡ true) ⊎ (x ≡ s)
        last (inl is) = inr (same-true x s is)
        last (inr other) = absurd cc

-- each is new, or was there
new_or_there : (slots : Slots) (ss : List Signature) (s : Signature) → Contains ss s → (has_slot slots s ≡ true)
    ⊎ ((t : ℕ) × (slice_get (new_in slots ss) t ≡ Some s))
new_or_there slots [] s (k, lt, e) = absurd (omega (arith, lt))
new_or_there slots (x ∷ ss) s is = go (has_slot slots x) refl (contains_cons x ss s is) (new_or_there slots ss s)
    (new_or_there (slots ++ Some x ∷ []) ss s)
  where
    behind : (has_slot (slots ++ Some x ∷ []) s ≡ true) ⊎ ((t : ℕ) × (slice_get (new_in (slots ++ Some x ∷ []) ss) t
        ≡ Some s)) → (has_slot slots s ≡ true) ⊎ ((t : ℕ) × (slice_get (x ∷ new_in (slots ++ Some x ∷ []) ss) t
        ≡ Some s))
    behind (inr r) = inr (suc r.0, r.1)
    behind (inl there) = elim (slot_cases slots x s there) [
      | inl old ↦ inl old
      | inr alike ↦ inr (0, ap Some alike)
    ]

    go : (b : Bool) → has_slot slots x ≡ b → (x ≡ s) ⊎ Contains ss s → (Contains ss s → (has_slot slots s ≡ true)
        ⊎ ((t : ℕ) × (slice_get (new_in slots ss) t ≡ Some s)))
        → (Contains ss s → (has_slot (slots ++ Some x ∷ []) s ≡ true)
        ⊎ ((t : ℕ) × (slice_get (new_in (slots ++ Some x ∷ []) ss) t ≡ Some s)))
        → (has_slot slots s ≡ true)
        ⊎ ((t : ℕ) × (slice_get (cond b (new_in slots ss) (x ∷ new_in (slots ++ Some x ∷ []) ss)) t ≡ Some s))
    go true e (inl alike) old new = inl (sym (ap (has_slot slots) alike) ∙ e)
    go true e (inr later) old new = old later
    go false e (inl alike) old new = inr (0, ap Some alike)
    go false e (inr later) old new = behind (new later)

contains_mapped : (ms : List Member) (m : Member) → Contains ms m → Contains (map signature_of ms) (signature_of m)
contains_mapped [] m (k, lt, e) = absurd (omega (arith, lt))
contains_mapped (x ∷ ms) m is = elim (contains_cons x ms m is) [
  | inl alike ↦ subst (λ (y : Member). Contains (signature_of x ∷ map signature_of ms) (signature_of y)) alike
      (contains_head (signature_of x) (map signature_of ms))
  | inr later ↦ contains_tail (signature_of x) (map signature_of ms) (signature_of m) (contains_mapped ms m later)
]

pub has_token : (w : List Class) (c : Class) (m : Member)
    → Contains (cond c.is_imported (own_methods c) (asked_by (supertypes w c.supers) (supertypes w c.interfaces)
    ++ own_methods c)) m → (t : ℕ) × (slice_get (interface_methods w c) t ≡ Some (signature_of m))
unfolding interface_methods
has_token w c m is =
    let ms = cond c.is_imported (own_methods c) (asked_by (supertypes w c.supers) (supertypes w c.interfaces)
    ++ own_methods c) in
    elim (new_or_there [] (map signature_of ms) (signature_of m) (contains_mapped ms m is)) [
      | inl there ↦ absurd cc
      | inr new ↦ new
    ]
