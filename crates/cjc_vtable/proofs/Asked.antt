-- Calls by a method of an interface.
use Rattle.std.proofs.Common.{◌≡◌, ℕ, zero, suc, refl, sym, ap, subst, ◌∙◌, Bool, true, false, List, [], ◌∷◌, ◌++◌, inl}
use Rattle.std.proofs.Common.{inr, ⊎_elim}
use Rattle.std.specs.Prelude.{◌&&◌, ◌||◌, ◌⊎◌, not, Option, Some, None, if◌then◌else◌, slice_get, map, option_map}
use Rattle.std.specs.Prelude.{option_to_list}
use Rattle.std.specs.Str.{bytes_eq}
use Rattle.std.proofs.lemmas.Option.{slice_get-map}
use Rattle.cjc_world.specs.Classes.{Member, Class}
use Rattle.cjc_world.specs.Bytes.AccessFlags.{is_public, is_protected}
use Rattle.cjc_world.specs.Supertypes.{Supertypes, supertypes, AreSupertypes, ends, unknown_here, known_here}
use Rattle.cjc_world.specs.Interfaces.{Interface, where_listed, gathered, is_among, each_once, known}
use Rattle.cjc_world.specs.Lookup.{is_called}
use Rattle.cjc_world.specs.Added.{own_methods, methods_of, asked_by}
use Rattle.cjc_world.proofs.Rising.{known-append}
use Rattle.cjc_tokens.specs.Members.{Signature, signature_of, same, has, is_shown, In, chosen, first_of, later}
use Rattle.cjc_tokens.specs.Methods.{interfaces_at, interface_methods}
use Rattle.cjc_vtable.specs.declared.table.InterfaceMap.{InterfaceMap}
use Rattle.cjc_vtable.specs.Tables.{or_zero, interface_map}
use Rattle.cjc_vtable.specs.Dispatch.{map_in}
use Rattle.cjc_vtable.specs.Calls.{is_special, selects}
use Rattle.cjc_vtable.specs.Laws.{interface_named}
use Rattle.cjc_tokens.proofs.Facts.{same-true, same-refl}
use Rattle.cjc_tokens.proofs.Held.{new-offered}
use Rattle.cjc_vtable.proofs.Calls.{In-front, In-behind}
use Rattle.cjc_vtable.proofs.Given.{In-split}

-- ---- one of some classes

pub data Among (c : Class) : List Class → Type 0 where
  at_head : {cs : List Class} → Among c (c ∷ cs)
  further : {d : Class} {cs : List Class} → Among c cs → Among c (d ∷ cs)

pub among-split : (c : Class) (a b : List Class) → Among c (a ++ b) → Among c a ⊎ Among c b
among-split c [] b i = inr i
among-split c (d ∷ a) b at_head = inl at_head
among-split c (d ∷ a) b (further i) = ⊎_elim (λ j. inl (further j)) (λ j. inr j) (among-split c a b i)

pub named-among : (is : List Class) (name : List ℕ) (i : Class) → interface_named is name ≡ Some i → Among i is
named-among [] name i e = cc
named-among (j ∷ is) name i e = by (bytes_eq j.name name) e (named-among is name i)
  where
    by : (b : Bool) → (if b then Some j else interface_named is name) ≡ Some i → (interface_named is name ≡ Some i
        → Among i is) → Among i (j ∷ is)
    by true e rest = let is' : j ≡ i = cc in subst (λ (q : Class). Among i (q ∷ is)) (sym is') at_head
    by false e rest = further (rest e)

pub among-one : (i c : Class) → Among i (c ∷ []) → i ≡ c
among-one i c at_head = refl
among-one i c (further a) = elim a [ ]

-- taking each once adds none
once-among : (before is : List Interface) (c : Class) → Among c (known (each_once before is)) → Among c (known is)
unfolding known
once-among before [] c i = i
once-among before (j ∷ is) c i = by (is_among before j.name) i (once-among before is c) (once-among (before
    ++ j ∷ []) is c)
  where
    behind : (o : Option Class) → Among c (known is) → Among c (option_to_list o ++ known is)
    behind None k = k
    behind (Some d) k = further k

    front : (o : Option Class) → Among c (option_to_list o ++ known (each_once (before ++ j ∷ []) is))
        → (Among c (known (each_once (before ++ j ∷ []) is)) → Among c (known is))
        → Among c (option_to_list o ++ known is)
    front None k rest = rest k
    front (Some d) at_head rest = at_head
    front (Some d) (further k) rest = further (rest k)

    by : (b : Bool) → Among c (known (if b then each_once before is else j ∷ each_once (before ++ j ∷ []) is))
        → (Among c (known (each_once before is)) → Among c (known is))
        → (Among c (known (each_once (before ++ j ∷ []) is)) → Among c (known is)) → Among c (option_to_list j.class
        ++ known is)
    by true k old fresh = behind j.class (old k)
    by false k old fresh = front j.class k fresh

-- ---- the methods of interfaces

own-among : (cs : List Class) (c : Class) (m : Member) → Among c cs → In m (own_methods c) → In m (methods_of cs)
unfolding methods_of
own-among [] c m a i = elim a [ ]
own-among (c ∷ cs) c' m at_head i = In-front m (own_methods c) (methods_of cs) i
own-among (d ∷ cs) c m (further j) i = In-behind m (own_methods d) (methods_of cs) (own-among cs c m j i)

methods_of-append : (a b : List Class) (m : Member) → In m (methods_of a) ⊎ In m (methods_of b)
    → In m (methods_of (a ++ b))
unfolding methods_of
methods_of-append [] b m (inl i) = elim i [ ]
methods_of-append [] b m (inr i) = i
methods_of-append (c ∷ a) b m (inr i) = In-behind m (own_methods c) (methods_of (a ++ b)) (methods_of-append a b m
    (inr i))
methods_of-append (c ∷ a) b m (inl i) = ⊎_elim
    (λ j. In-front m (own_methods c) (methods_of (a ++ b)) j)
    (λ j. In-behind m (own_methods c) (methods_of (a ++ b)) (methods_of-append a b m (inl j)))
    (In-split m (own_methods c) (methods_of a) i)

pub of-split : (is js : List Interface) (m : Member) → In m (methods_of (known (is ++ js)))
    → In m (methods_of (known is)) ⊎ In m (methods_of (known js))
unfolding methods_of
of-split is js m i = split (known is) (known js) (subst (λ cs. In m (methods_of cs)) (known-append is js) i)
  where
    split : (a b : List Class) → In m (methods_of (a ++ b)) → In m (methods_of a) ⊎ In m (methods_of b)
    split [] b i = inr i
    split (c ∷ a) b i = ⊎_elim
        (λ j. inl (In-front m (own_methods c) (methods_of a) j))
        (λ j. ⊎_elim (λ k. inl (In-behind m (own_methods c) (methods_of a) k)) (λ k. inr k) (split a b j))
        (In-split m (own_methods c) (methods_of (a ++ b)) i)

-- the methods of some interfaces
of : List Interface → List Member
of is = methods_of (known is)

of-append : (is js : List Interface) (m : Member) → In m (of is) ⊎ In m (of js) → In m (of (is ++ js))
unfolding of
of-append is js m either = subst (λ cs. In m (methods_of cs)) (sym (known-append is js)) (methods_of-append (known is)
    (known js) m either)

among-append : (is js : List Interface) (c : Class) → Among c (known (is ++ js)) → Among c (known is)
    ⊎ Among c (known js)
among-append is js c i = among-split c (known is) (known js) (subst (Among c) (known-append is js) i)

module _ (w : List Class) (are_supertypes : (xs : List (List ℕ)) → AreSupertypes w xs (supertypes w xs))
    (one_supertypes : (xs : List (List ℕ)) (j k : Supertypes) → AreSupertypes w xs j → AreSupertypes w xs k
    → j ≡ k) where
  -- what the superinterfaces of an interface ask for, each class asks for that has it
  asked-above : (listed : Bool) (xs : List (List ℕ)) (k : Supertypes) (i : Class) (m : Member) → AreSupertypes w xs k
      → Among i (known (gathered listed k)) → In m (asked_by (supertypes w i.supers) (supertypes w i.interfaces))
      → In m (of (gathered listed k))
  unfolding gathered known of asked_by
  asked-above listed xs k i m ends a j = elim a [ ]
  asked-above listed (x ∷ xs) k i m (unknown_here {next = r} e b) a j = by listed (asked-above listed xs r i m b) a
    where
      by : (listed' : Bool) → (Among i (known (gathered listed r))
          → In m (asked_by (supertypes w i.supers) (supertypes w i.interfaces)) → In m (of (gathered listed r)))
          → Among i (known (where_listed listed' (record { name = x; class = None }) ++ gathered listed r))
          → In m (of (where_listed listed' (record { name = x; class = None }) ++ gathered listed r))
      by true rest a = rest a j
      by false rest a = rest a j
  asked-above listed (x ∷ xs) k i m (known_here {c = c} {supers = p} {interfaces = q} {next = r} e s t b) a j =
      by a (asked-above false c.supers p i m s) (asked-above true c.interfaces q i m t) (asked-above listed xs r i m b)
    where
      by : Among i (known (gathered false p ++ gathered true q ++ where_listed listed (record {
        name = c.name;
        class = Some c;
      }) ++ gathered listed r))
          → (Among i (known (gathered false p)) → In m (asked_by (supertypes w i.supers) (supertypes w i.interfaces))
          → In m (of (gathered false p)))
          → (Among i (known (gathered true q)) → In m (asked_by (supertypes w i.supers) (supertypes w i.interfaces))
          → In m (of (gathered true q)))
          → (Among i (known (gathered listed r)) → In m (asked_by (supertypes w i.supers) (supertypes w i.interfaces))
          → In m (of (gathered listed r)))
          → In m (of (gathered false p ++ gathered true q ++ where_listed listed (record {
            name = c.name;
            class = Some c;
          }) ++ gathered listed r))
      by a in_supers in_interfaces in_rest =
          let A = gathered false p in
          let B = gathered true q in
          let H = where_listed listed (record { name = c.name; class = Some c }) in
          let R = gathered listed r in
          ⊎_elim
          (λ abh. ⊎_elim
          (λ ab. of-append (A ++ B
          ++ H) R m (inl (of-append (A
          ++ B) H m (inl (of-append A B m (⊎_elim (λ d. inl (in_supers d j)) (λ d. inr (in_interfaces d j))
          (among-append A B i ab)))))))
          (λ h. of-append (A ++ B ++ H) R m (inl (of-append (A ++ B) H m (inl (itself listed h)))))
          (among-append (A ++ B) H i abh))
          (λ d. of-append (A ++ B ++ H) R m (inr (in_rest d j)))
          (among-append (A ++ B ++ H) R i a)
        where
          same_trees : i ≡ c → In m (of (gathered false p ++ gathered true q))
          same_trees is =
              let j1 = subst (λ (v : Class). In m (methods_of (known (gathered false (supertypes w v.supers)
              ++ gathered true (supertypes w v.interfaces))))) is j in
              let j2 = subst
              (λ u. In m (methods_of (known (gathered false u ++ gathered true (supertypes w c.interfaces)))))
              (one_supertypes c.supers (supertypes w c.supers) p (are_supertypes c.supers) s) j1 in
              subst (λ u. In m (methods_of (known (gathered false p ++ gathered true u)))) (one_supertypes c.interfaces
              (supertypes w c.interfaces) q (are_supertypes c.interfaces) t) j2

          itself : (l : Bool) → Among i (known (where_listed l (record { name = c.name; class = Some c })))
              → In m (of (gathered false p ++ gathered true q))
          itself true d = same_trees (among-one i c d)
          itself false d = elim d [ ]

pub has-In : (ms : List Member) (s : Signature) → has (map signature_of ms) s ≡ true → (m : Member) × In m ms
    × (signature_of m ≡ s)
has-In [] s e = cc
has-In (n ∷ ms) s e = by (same (signature_of n) s) refl e (has-In ms s)
  where
    by : (b : Bool) → same (signature_of n) s ≡ b → (b || has (map signature_of ms) s) ≡ true
        → (has (map signature_of ms) s ≡ true → (m : Member) × In m ms × (signature_of m ≡ s)) → (m : Member)
        × In m (n ∷ ms) × (signature_of m ≡ s)
    by true f e rest = (n, first_of, same-true (signature_of n) s f)
    by false f e rest = let r = rest e in (r.0, later r.1, r.2)

-- ---- the map of an interface

pub map-found : (w : List Class) (shown : Signature → Option ℕ) (is : List Class) (name : List ℕ)
    (above : Option InterfaceMap)
    (i : Class) → interface_named is name ≡ Some i → map_in (map (interface_map w shown) is) name above
    ≡ Some (interface_map w shown i)
map-found w shown [] name above i e = cc
map-found w shown (j ∷ is) name above i e = by (bytes_eq j.name name) e (map-found w shown is name above i)
  where
    by : (b : Bool) → (if b then Some j else interface_named is name) ≡ Some i → (interface_named is name ≡ Some i
        → map_in (map (interface_map w shown) is) name above ≡ Some (interface_map w shown i))
        → (if b then Some (interface_map w shown j) else map_in (map (interface_map w shown) is) name above)
        ≡ Some (interface_map w shown i)
    by true e rest = let same_one : j ≡ i = cc in ap (λ q. Some (interface_map w shown q)) same_one
    by false e rest = rest e

pub has-here : (ss : List Signature) (k : ℕ) (s : Signature) → slice_get ss k ≡ Some s → has ss s ≡ true
has-here [] k s e = cc
has-here (u ∷ ss) zero s e = let is : u ≡ s = cc in ap (λ q. same q s || has ss s) is
    ∙ ap (λ q. q || has ss s) (same-refl s)
has-here (u ∷ ss) (suc k) s e = ap (λ q. same u s || q) (has-here ss k s e) ∙ or_true (same u s)
  where
    or_true : (b : Bool) → (b || true) ≡ true
    or_true true = refl
    or_true false = refl

-- the first that is chosen, of two lists
pub chosen-front : (test : Member → Bool) (s : Signature) (a b : List Member) (m : Member) → chosen test s a ≡ Some m
    → chosen test s (a ++ b) ≡ Some m
chosen-front test s [] b m e = cc
chosen-front test s (n ∷ a) b m e = by (test n && is_called s.name s.desc n) e (chosen-front test s a b m)
  where
    by : (c : Bool) → (if c then Some n else chosen test s a) ≡ Some m → (chosen test s a ≡ Some m
        → chosen test s (a ++ b) ≡ Some m) → (if c then Some n else chosen test s (a ++ b)) ≡ Some m
    by true e rest = e
    by false e rest = rest e

pub chosen-behind : (test : Member → Bool) (s : Signature) (a b : List Member) → chosen test s a ≡ None
    → chosen test s (a ++ b) ≡ chosen test s b
chosen-behind test s [] b e = refl
chosen-behind test s (n ∷ a) b e = by (test n && is_called s.name s.desc n) e (chosen-behind test s a b)
  where
    by : (c : Bool) → (if c then Some n else chosen test s a) ≡ None → (chosen test s a ≡ None → chosen test s (a ++ b)
        ≡ chosen test s b) → (if c then Some n else chosen test s (a ++ b)) ≡ chosen test s b
    by true e rest = cc
    by false e rest = rest e

pub public-shown : (n : Member) (s : Signature) → signature_of n ≡ s → selects n ≡ true → is_public n.flags ≡ true
    → is_special s ≡ false → is_shown n ≡ true
public-shown n s is sel shown plain = by (is_public n.flags) (is_protected n.flags) (selects n)
    (is_special (signature_of n)) shown sel (ap is_special is ∙ plain)
  where
    by : (a b c d : Bool) → a ≡ true → c ≡ true → d ≡ false → ((a || b) && (c && not d)) ≡ true
    by true b true false e f g = refl
    by true b true true e f g = cc
    by true b false d e f g = cc
    by false b c d e f g = cc

-- the index of a method's token, where the class has a token for it
pub index_at : (w : List Class) (shown : Signature → Option ℕ) (i : Class) (k : ℕ) (s : Signature) (t : ℕ)
    → slice_get (interface_methods w i) k ≡ Some s → shown s ≡ Some t → slice_get (interface_map w shown i).index k
    ≡ Some t
index_at w shown i k s t e f = slice_get-map (λ u. or_zero (shown u)) (interface_methods w i) k
    ∙ ap (option_map (λ u. or_zero (shown u))) e ∙ ap (λ o. Some (or_zero o)) f

-- what an interface has, each class asks for that has the interface
pub method-asked : (w : List Class) (are_supertypes : (xs : List (List ℕ)) → AreSupertypes w xs (supertypes w xs))
    (one_supertypes : (xs : List (List ℕ)) (j k : Supertypes) → AreSupertypes w xs j → AreSupertypes w xs k → j ≡ k)
    (c i : Class) (s : Signature) → Among i (known (interfaces_at w c)) → has (interface_methods w i) s ≡ true
    → (m : Member) × In m (asked_by (supertypes w c.supers) (supertypes w c.interfaces)) × (signature_of m ≡ s)
unfolding interfaces_at interface_methods asked_by of
method-asked w are_supertypes one_supertypes c i s a h =
    let both = gathered false (supertypes w c.supers) ++ gathered true (supertypes w c.interfaces) in
    let there = once-among [] both i a in
    let ms = if i.is_imported then own_methods i else methods_of (known (gathered false (supertypes w i.supers)
    ++ gathered true (supertypes w i.interfaces))) ++ own_methods i in
    let r = has-In ms s (new-offered [] (map signature_of ms) s h) in (
      r.0,
      by i.is_imported r.1 (own-among (known both) i r.0 there) (λ j. ⊎_elim
          (λ d. of-append (gathered false (supertypes w c.supers)) (gathered true (supertypes w c.interfaces)) r.0
          (inl (asked-above w are_supertypes one_supertypes false c.supers (supertypes w c.supers) i r.0
          (are_supertypes c.supers) d j)))
          (λ d. of-append (gathered false (supertypes w c.supers)) (gathered true (supertypes w c.interfaces)) r.0
          (inr (asked-above w are_supertypes one_supertypes true c.interfaces (supertypes w c.interfaces) i r.0
          (are_supertypes c.interfaces) d j)))
          (among-append (gathered false (supertypes w c.supers)) (gathered true (supertypes w c.interfaces)) i there)),
      r.2,
    )
  where
    by : (b : Bool) {m : Member} {asked mine all : List Member} → In m (if b then mine else asked ++ mine)
        → (In m mine → In m all) → (In m asked → In m all) → In m all
    by true i f g = f i
    by false {m} {asked} {mine} i f g = ⊎_elim g f (In-split m asked mine i)
