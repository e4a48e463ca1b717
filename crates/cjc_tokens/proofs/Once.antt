-- A class that stands in a list once more adds nothing.
use Rattle.std.proofs.Common.{◌≡◌, ℕ, ◌+◌, ◌<◌, ◌≤◌, refl, sym, ap, subst, ◌∙◌, Bool, true, false, List, [], ◌∷◌}
use Rattle.std.proofs.Common.{◌++◌, append_assoc, append-nil, length, drop, get_or, add-one}
use Rattle.std.specs.Prelude.{◌||◌, map, Option, Some, None, if◌then◌else◌, option_to_list, slice_get}
use Rattle.std.specs.Str.{bytes_eq}
use Rattle.std.proofs.Math.Seq.{drop-cons}
use Rattle.cjc_world.specs.declared.found.Found.{Found}
use Rattle.cjc_world.specs.Classes.{Class, class_named}
use Rattle.cjc_world.specs.Supertypes.{Supertypes, AreSupertypes, ends, unknown_here, known_here, supertypes, upwards}
use Rattle.cjc_world.specs.Supertypes.{is_one_named, once}
use Rattle.cjc_world.specs.Interfaces.{Interface, where_listed, gathered, is_among, each_once, known}
use Rattle.cjc_world.specs.Added.{methods_of, own_methods}
use Rattle.cjc_world.specs.Lookup.{first, or_else}
use Rattle.cjc_world.specs.Working.Places.{at_places}
use Rattle.cjc_tokens.specs.declared.slot.Rows.{Rows}
use Rattle.cjc_tokens.specs.Lines.{Imported}
use Rattle.cjc_tokens.specs.Members.{Signature, signature_of, same, has, is_virtual, all_methods}
use Rattle.cjc_tokens.specs.Slots.{Slots, first_answer, has_slot, new_in, with_new, listed_slots, meant_by, or_next}
use Rattle.cjc_tokens.specs.Slots.{own}
use Rattle.cjc_tokens.specs.Slots.{told_in}
use Rattle.cjc_tokens.specs.Working.{AreRowsOf, asked, overlay}
use Rattle.cjc_tokens.proofs.Facts.{same-refl}
use Rattle.cjc_tokens.proofs.Held.{has_slot-append, offered-has_slot}
use Rattle.cjc_tokens.proofs.Offers.{offer-end, with_new-append}
use Rattle.cjc_tokens.proofs.Overlays.{listed_slots-append, overlay-assoc, overlay-nil}
use Rattle.cjc_world.proofs.Rising.{known-append}
use Rattle.cjc_world.proofs.Cycles.{class_named-name}
use Rattle.cjc_tokens.proofs.Asked.{of, of-append}
use Rattle.cjc_bytes.proofs.Lists.{bytes_true, map_append}
use Rattle.cjc_bytes.proofs.Bools.{or_true}
use Rattle.cjc_bytes.proofs.Gets.{drop_past}

-- ---- classes at places, one further

pub at-next : (w : List Class) (ps : List ℕ) (i d : ℕ) (o : Option Class) → i < length ps
    → o ≡ slice_get w (get_or ps i d) → at_places w (drop i ps) ≡ option_to_list o ++ at_places w (drop (i + 1) ps)
unfolding at_places
at-next w ps i d o lt e =
    ap (at_places w) (drop-cons ps i d lt)
    ∙ ap (λ n. option_to_list (slice_get w (get_or ps i d)) ++ at_places w (drop n ps)) (sym (add-one i))
    ∙ ap (λ o. option_to_list o ++ at_places w (drop (i + 1) ps)) (sym e)

pub at-end : (w : List Class) (ps : List ℕ) (i : ℕ) → length ps ≤ i → at_places w (drop i ps) ≡ []
unfolding at_places
at-end w ps i le = ap (at_places w) (drop_past ps i le)

-- ---- what some classes do, one after the other

data Within (c : Class) : List Class → Type 0 where
  here : {cs : List Class} → Within c (c ∷ cs)
  there : {d : Class} {cs : List Class} → Within c cs → Within c (d ∷ cs)

within-behind : (c : Class) (o : Option Class) (cs : List Class) → Within c cs → Within c (option_to_list o ++ cs)
within-behind c None cs i = i
within-behind c (Some d) cs i = there i

-- the classes are those of their names
abbrev AreNamed : List Class → List Class → Type 0
AreNamed w [] = Unit {0}
AreNamed w (c ∷ cs) = (class_named w c.name ≡ Some c) × AreNamed w cs

named-append : (w cs ds : List Class) → AreNamed w cs → AreNamed w ds → AreNamed w (cs ++ ds)
named-append w [] ds a b = b
named-append w (c ∷ cs) ds a b = (a.0, named-append w cs ds a.1 b)

-- the interfaces have the classes of their names
abbrev AreTold : List Class → List Interface → Type 0
AreTold w [] = Unit {0}
AreTold w (i ∷ is) = (i.class ≡ class_named w i.name) × AreTold w is

told-append : (w : List Class) (is js : List Interface) → AreTold w is → AreTold w js → AreTold w (is ++ js)
told-append w [] js a b = b
told-append w (i ∷ is) js a b = (a.0, told-append w is js a.1 b)

module _ (w : List Class) where
  itself : (x : List ℕ) (c : Class) → class_named w x ≡ Some c → class_named w c.name ≡ Some c
  itself x c e = ap (class_named w) (class_named-name w x c e) ∙ e

  named-upwards : (xs : List (List ℕ)) (k : Supertypes) → AreSupertypes w xs k → AreNamed w (upwards k)
  named-upwards xs k ends = tt
  named-upwards xs k (unknown_here {xs = rest} {next = next} e n) = named-upwards rest next n
  named-upwards xs k (known_here {x = x} {xs = rest} {c = c} {supers = s} {next = next} e sk ik n) = (
    itself x c e,
    named-append w (upwards s) (upwards next) (named-upwards c.supers s sk) (named-upwards rest next
        n),
  )

  told-gathered : (listed : Bool) (xs : List (List ℕ)) (k : Supertypes) → AreSupertypes w xs k
      → AreTold w (gathered listed k)
  unfolding gathered
  told-gathered listed xs k ends = tt
  told-gathered true xs k (unknown_here {xs = rest} {next = next} e n) = (sym e, told-gathered true rest next n)
  told-gathered false xs k (unknown_here {xs = rest} {next = next} e n) = told-gathered false rest next n
  told-gathered listed xs k (known_here {x = x} {xs = rest} {c = c} {supers = s} {interfaces = i} {next = next} e sk ik
      n) =
      told-append w ((gathered false s ++ gathered true i) ++ where_listed listed (record {
        name = c.name;
        class = Some c;
      })) (gathered listed next)
      (told-append w (gathered false s ++ gathered true i) (where_listed listed (record {
        name = c.name;
        class = Some c;
      })) (told-append w (gathered false s) (gathered true i) (told-gathered false c.supers s sk)
      (told-gathered true c.interfaces i ik)) (one listed (sym (itself x c e))))
      (told-gathered listed rest next n)
    where
      one : (listed : Bool) → Some c ≡ class_named w c.name
          → AreTold w (where_listed listed (record { name = c.name; class = Some c }))
      one true e = (e, tt)
      one false e = tt

  -- a class that has the name of one of these is that one
  named-within : (seen : List Class) (c : Class) → AreNamed w seen → class_named w c.name ≡ Some c
      → is_one_named seen c.name ≡ true → Within c seen
  named-within [] c a e t = cc
  named-within (d ∷ seen) c a e t = by (bytes_eq d.name c.name) refl t (named-within seen c a.1 e)
    where
      by : (b : Bool) → bytes_eq d.name c.name ≡ b → (b || is_one_named seen c.name) ≡ true
          → (is_one_named seen c.name ≡ true → Within c seen) → Within c (d ∷ seen)
      by true f t rest =
          let one : Some d ≡ Some c = sym a.0 ∙ ap (class_named w) (bytes_true d.name c.name f) ∙ e in
          let is : d ≡ c = cc in
          subst (λ (q : Class). Within c (q ∷ seen)) (sym is) here
      by false f t rest = there (rest t)

  among-within : (seen : List Interface) (x : List ℕ) (c : Class) → AreTold w seen → class_named w x ≡ Some c
      → is_among seen x ≡ true → Within c (known seen)
  unfolding known
  among-within [] x c a e t = cc
  among-within (i ∷ seen) x c a e t = by (bytes_eq i.name x) refl t (among-within seen x c a.1 e)
    where
      by : (b : Bool) → bytes_eq i.name x ≡ b → (b || is_among seen x) ≡ true → (is_among seen x ≡ true
          → Within c (known seen)) → Within c (option_to_list i.class ++ known seen)
      by true f t rest = subst (λ (o : Option Class). Within c (option_to_list o ++ known seen)) (sym (a.0
          ∙ ap (class_named w) (bytes_true i.name x f) ∙ e)) here
      by false f t rest = within-behind c i.class (known seen) (rest t)

module _ {S : Type 0} (act : S → Class → S) where
  abbrev acts : S → List Class → S
  acts s [] = s
  acts s (c ∷ cs) = acts (act s c) cs

  acts-append : (s : S) (cs ds : List Class) → acts s (cs ++ ds) ≡ acts (acts s cs) ds
  acts-append s [] ds = refl
  acts-append s (c ∷ cs) ds = acts-append (act s c) cs ds

  module _ (again : (s : S) (c : Class) (ds : List Class) → act (acts (act s c) ds) c ≡ acts (act s c) ds)
      (w : List Class) where
    within-again : (c : Class) (s : S) (seen : List Class) → Within c seen → act (acts s seen) c ≡ acts s seen
    within-again c s seen (here {cs = cs}) = again s c cs
    within-again c s seen (there {d = d} {cs = cs} i) = within-again c (act s d) cs i

    acts-once : (s : S) (seen cs : List Class) → AreNamed w seen → AreNamed w cs → acts (acts s seen) (once seen cs)
        ≡ acts (acts s seen) cs
    acts-once s seen [] a b = refl
    acts-once s seen (c ∷ cs) a b = by (is_one_named seen c.name) refl (acts-once s seen cs a b.1) (acts-once s (seen
        ++ c ∷ []) cs (named-append w seen (c ∷ []) a (b.0, tt)) b.1)
      where
        by : (t : Bool) → is_one_named seen c.name ≡ t → acts (acts s seen) (once seen cs) ≡ acts (acts s seen) cs
            → acts (acts s (seen ++ c ∷ [])) (once (seen ++ c ∷ []) cs) ≡ acts (acts s (seen ++ c ∷ [])) cs
            → acts (acts s seen) (if t then once seen cs else c ∷ once (seen ++ c ∷ []) cs) ≡ acts (act (acts s seen) c)
            cs
        by true e h k = h ∙ ap (λ q. acts q cs) (sym (within-again c s seen (named-within w seen c a b.0 e)))
        by false e h k = subst (λ q. acts q (once (seen ++ c ∷ []) cs) ≡ acts q cs) (acts-append s seen (c ∷ [])) k

    acts-known : (s : S) (seen is : List Interface) → AreTold w seen → AreTold w is
        → acts (acts s (known seen)) (known (each_once seen is)) ≡ acts (acts s (known seen)) (known is)
    unfolding known
    acts-known s seen [] a b = refl
    acts-known s seen (i ∷ is) a b = by i.class refl (is_among seen i.name) refl (acts-known s seen is a b.1)
        (acts-known s (seen ++ i ∷ []) is (told-append w seen (i ∷ []) a (b.0, tt)) b.1)
      where
        by : (o : Option Class) → i.class ≡ o → (t : Bool) → is_among seen i.name ≡ t
            → acts (acts s (known seen)) (known (each_once seen is)) ≡ acts (acts s (known seen)) (known is)
            → acts (acts s (known (seen ++ i ∷ []))) (known (each_once (seen ++ i ∷ []) is))
            ≡ acts (acts s (known (seen ++ i ∷ []))) (known is)
            → acts (acts s (known seen)) (known (if t then each_once seen is else i ∷ each_once (seen ++ i ∷ []) is))
            ≡ acts (acts s (known seen)) (option_to_list o ++ known is)
        by None e true f h k = h
        by None e false f h k =
            ap (λ o. acts (acts s (known seen)) (option_to_list o ++ known (each_once (seen ++ i ∷ []) is))) e
            ∙ subst (λ cs. acts (acts s cs) (known (each_once (seen ++ i ∷ []) is)) ≡ acts (acts s cs) (known is))
            (known-append seen (i ∷ []) ∙ ap (λ o. known seen ++ (option_to_list o ++ [])) e
            ∙ append-nil (known seen)) k
        by (Some c) e true f h k = h
            ∙ ap (λ q. acts q (known is)) (sym (within-again c s (known seen) (among-within w seen i.name c a (sym b.0
            ∙ e) f)))
        by (Some c) e false f h k =
            ap (λ o. acts (acts s (known seen)) (option_to_list o ++ known (each_once (seen ++ i ∷ []) is))) e
            ∙ subst (λ q. acts q (known (each_once (seen ++ i ∷ []) is)) ≡ acts q (known is))
            (ap (acts s) (known-append seen (i ∷ []) ∙ ap (λ o. known seen ++ (option_to_list o ++ [])) e)
            ∙ acts-append s (known seen) (c ∷ [])) k

-- ---- what imported classes list

overlay-self : (x : Slots) → overlay x x ≡ x
overlay-self [] = refl
overlay-self (None ∷ x) = ap (λ q. None ∷ q) (overlay-self x)
overlay-self (Some s ∷ x) = ap (λ q. Some s ∷ q) (overlay-self x)

overlay-again : (x d : Slots) → overlay (overlay x d) x ≡ overlay x d
overlay-again [] d = overlay-nil d
overlay-again (None ∷ x) [] = ap (λ q. None ∷ q) (overlay-self x)
overlay-again (None ∷ x) (None ∷ d) = ap (λ q. None ∷ q) (overlay-again x d)
overlay-again (None ∷ x) (Some u ∷ d) = ap (λ q. Some u ∷ q) (overlay-again x d)
overlay-again (Some s ∷ x) [] = ap (λ q. Some s ∷ q) (overlay-self x)
overlay-again (Some s ∷ x) (u ∷ d) = ap (λ q. Some s ∷ q) (overlay-again x d)

abbrev lists : Slots → Class → Slots
lists s c = overlay s (listed_slots c.methods)

lists-all : (s : Slots) (cs : List Class) → acts lists s cs ≡ overlay s (listed_slots (all_methods cs))
lists-all s [] = sym (overlay-nil s)
lists-all s (c ∷ cs) =
    lists-all (lists s c) cs ∙ overlay-assoc s (listed_slots c.methods) (listed_slots (all_methods cs))
    ∙ ap (overlay s) (sym (listed_slots-append c.methods (all_methods cs)))

lists-again : (s : Slots) (c : Class) (ds : List Class) → lists (acts lists (lists s c) ds) c ≡ acts lists (lists s c)
    ds
lists-again s c ds =
    let X = listed_slots c.methods in
    let D = listed_slots (all_methods ds) in
    ap (λ q. overlay q X) (lists-all (lists s c) ds ∙ overlay-assoc s X D)
    ∙ overlay-assoc s (overlay X D) X ∙ ap (overlay s) (overlay-again X D) ∙ sym (overlay-assoc s X D)
    ∙ sym (lists-all (lists s c) ds)

listed-once : (w cs : List Class) → AreNamed w cs → listed_slots (all_methods (once [] cs))
    ≡ listed_slots (all_methods cs)
listed-once w cs a = sym (lists-all [] (once [] cs)) ∙ acts-once lists lists-again w [] [] cs tt a ∙ lists-all [] cs

-- ---- the first that answers

module _ (f : Class → Option Found) where
  abbrev answers : Option Found → Class → Option Found
  answers o c = or_else o (f c)

  answers-all : (o : Option Found) (cs : List Class) → acts answers o cs ≡ or_else o (first f cs)
  unfolding first
  answers-all o [] = none o
    where
      none : (o : Option Found) → o ≡ or_else o None
      none None = refl
      none (Some g) = refl
  answers-all o (c ∷ cs) = answers-all (answers o c) cs ∙ assoc o (f c) (first f cs)
    where
      assoc : (a b d : Option Found) → or_else (or_else a b) d ≡ or_else a (or_else b d)
      assoc None b d = refl
      assoc (Some g) b d = refl

  answers-again : (o : Option Found) (c : Class) (ds : List Class) → answers (acts answers (answers o c) ds) c
      ≡ acts answers (answers o c) ds
  answers-again o c ds = ap (λ q. or_else q (f c)) (answers-all (answers o c) ds) ∙ same_answer o (f c) (first f ds)
      ∙ sym (answers-all (answers o c) ds)
    where
      same_answer : (a b d : Option Found) → or_else (or_else (or_else a b) d) b ≡ or_else (or_else a b) d
      same_answer (Some g) b d = refl
      same_answer None (Some g) d = refl
      same_answer None None None = refl
      same_answer None None (Some g) = refl

  first-once : (w cs : List Class) → AreNamed w cs → first f (once [] cs) ≡ first f cs
  first-once w cs a = sym (answers-all None (once [] cs)) ∙ acts-once answers answers-again w None [] cs tt a
      ∙ answers-all None cs

-- so is the nearest method
pub nearest-once : (w : List Class) (c : Class) (xs : List (List ℕ)) (k : Supertypes) (s : Signature)
    → AreSupertypes w xs k → first (own is_virtual s) (c ∷ once [] (upwards k)) ≡ first (own is_virtual s) (c
    ∷ upwards k)
unfolding first
nearest-once w c xs k s is = ap (or_else (own is_virtual s c)) (first-once (own is_virtual s) w (upwards k)
    (named-upwards w xs k is))

meant-same : (f g : Signature → Option Found) (all : Slots) → ((s : Signature) → f s ≡ g s) → map (meant_by f) all
    ≡ map (meant_by g) all
meant-same f g [] e = refl
meant-same f g (None ∷ all) e = ap (λ q. None ∷ q) (meant-same f g all e)
meant-same f g (Some s ∷ all) e = ap (λ o. o ∷ map (meant_by f) all) (e s) ∙ ap (λ q. g s ∷ q) (meant-same f g all e)

-- ---- the first token that is listed

module _ (f : Class → Option ℕ) where
  abbrev tells : Option ℕ → Class → Option ℕ
  tells o c = or_next o (f c)

  tells-all : (o : Option ℕ) (cs : List Class) → acts tells o cs ≡ or_next o (first_answer f cs)
  unfolding first_answer
  tells-all o [] = none o
    where
      none : (o : Option ℕ) → o ≡ or_next o None
      none None = refl
      none (Some t) = refl
  tells-all o (c ∷ cs) = tells-all (tells o c) cs ∙ assoc o (f c) (first_answer f cs)
    where
      assoc : (a b d : Option ℕ) → or_next (or_next a b) d ≡ or_next a (or_next b d)
      assoc None b d = refl
      assoc (Some t) b d = refl

  tells-again : (o : Option ℕ) (c : Class) (ds : List Class) → tells (acts tells (tells o c) ds) c ≡ acts tells
      (tells o c)
      ds
  tells-again o c ds = ap (λ q. or_next q (f c)) (tells-all (tells o c) ds) ∙ same_answer o (f c) (first_answer f ds)
      ∙ sym (tells-all (tells o c) ds)
    where
      same_answer : (a b d : Option ℕ) → or_next (or_next (or_next a b) d) b ≡ or_next (or_next a b) d
      same_answer (Some t) b d = refl
      same_answer None (Some t) d = refl
      same_answer None None None = refl
      same_answer None None (Some t) = refl

  answer-once : (w cs : List Class) → AreNamed w cs → first_answer f (once [] cs) ≡ first_answer f cs
  answer-once w cs a = sym (tells-all None (once [] cs)) ∙ acts-once tells tells-again w None [] cs tt a
      ∙ tells-all None cs

-- the tokens that a class and its supers list are those that each lists once
pub told-once : (w : List Class) (c : Class) (xs : List (List ℕ)) (k : Supertypes) (s : Signature)
    → AreSupertypes w xs k
    → first_answer (told_in s) (c ∷ once [] (upwards k)) ≡ first_answer (told_in s) (c ∷ upwards k)
unfolding first_answer
told-once w c xs k s is = ap (or_next (told_in s c)) (answer-once (told_in s) w (upwards k) (named-upwards w xs k is))

-- the slots of a class and its supers are those of each once
pub slots-once : (w : List Class) (c : Class) (xs : List (List ℕ)) (k : Supertypes) → AreSupertypes w xs k
    → listed_slots (all_methods (c ∷ once [] (upwards k))) ≡ listed_slots (all_methods (c ∷ upwards k))
slots-once w c xs k is =
    listed_slots-append c.methods (all_methods (once [] (upwards k)))
    ∙ ap (overlay (listed_slots c.methods)) (listed-once w (upwards k) (named-upwards w xs k is))
    ∙ sym (listed_slots-append c.methods (all_methods (upwards k)))

pub rows-once : (w : List Class) (c : Class) (xs : List (List ℕ)) (k : Supertypes) (r : Rows) → AreSupertypes w xs k
    → AreRowsOf (Imported (c ∷ once [] (upwards k))) r → AreRowsOf (Imported (c ∷ upwards k)) r
unfolding first
rows-once w c xs k r is a = record {
  shown_slots = a.shown_slots ∙ slots_same;
  shown_methods = a.shown_methods
      ∙ ap (map (meant_by (λ s. first (own is_virtual s) (c ∷ once [] (upwards k))))) slots_same
      ∙ meant-same (λ s. first (own is_virtual s) (c ∷ once [] (upwards k))) (λ s. first (own is_virtual s) (c
      ∷ upwards k)) (listed_slots (all_methods (c ∷ upwards k))) (λ s. ap (or_else (own is_virtual s c))
      (first-once (own is_virtual s) w (upwards k) named));
  hidden_slots_are = a.hidden_slots_are;
  hidden_methods = a.hidden_methods;
}
  where
    named : AreNamed w (upwards k)
    named = named-upwards w xs k is

    slots_same : listed_slots (all_methods (c ∷ once [] (upwards k))) ≡ listed_slots (all_methods (c ∷ upwards k))
    slots_same = slots-once w c xs k is

-- ---- the methods of interfaces

-- what has a slot is not put at the end
with_new-old : (all : Slots) (ss : List Signature) → ((s : Signature) → has ss s ≡ true → has_slot all s ≡ true)
    → with_new all ss ≡ all
with_new-old all [] old = offer-end all
with_new-old all (s ∷ ss) old =
    ap (λ b. all ++ map Some (if b then new_in all ss else s ∷ new_in (all ++ Some s ∷ []) ss))
    (old s (ap (λ b. b || has ss s) (same-refl s)))
    ∙ with_new-old all ss (λ u h. old u (ap (λ b. same s u || b) h ∙ or_true (same s u)))

abbrev offers : Slots → Class → Slots
offers s c = with_new s (map signature_of (own_methods c))

offers-all : (s : Slots) (cs : List Class) → acts offers s cs ≡ with_new s (map signature_of (methods_of cs))
unfolding methods_of
offers-all s [] = sym (offer-end s)
offers-all s (c ∷ cs) =
    offers-all (offers s c) cs
    ∙ with_new-append s (map signature_of (own_methods c)) (map signature_of (methods_of cs))
    ∙ ap (with_new s) (sym (map_append signature_of (own_methods c) (methods_of cs)))

offers-again : (s : Slots) (c : Class) (ds : List Class) → offers (acts offers (offers s c) ds) c
    ≡ acts offers (offers s c) ds
offers-again s c ds =
    let X = map signature_of (own_methods c) in
    let D = map signature_of (methods_of ds) in
    ap (λ q. with_new q X) (offers-all (offers s c) ds)
    ∙ with_new-old (with_new (with_new s X) D) X (λ u h. has_slot-append (with_new s X)
    (map Some (new_in (with_new s X) D)) u (offered-has_slot s X u h))
    ∙ sym (offers-all (offers s c) ds)

-- each once, they offer the same
pub asked-once : (w : List Class) (s i : List (List ℕ)) → AreSupertypes w s (supertypes w s)
    → AreSupertypes w i (supertypes w i) → (all : Slots)
    → with_new all (map signature_of (methods_of (known (each_once [] (gathered false (supertypes w s)
    ++ gathered true (supertypes w i)))))) ≡ with_new all (asked false (supertypes w s)
    ++ asked true (supertypes w i))
unfolding known of
asked-once w s i a b all =
    let A = gathered false (supertypes w s) in
    let B = gathered true (supertypes w i) in
    sym (offers-all all (known (each_once [] (A ++ B))))
    ∙ acts-known offers offers-again w all [] (A ++ B) tt (told-append w A B (told-gathered w false s (supertypes w s)
    a) (told-gathered w true i (supertypes w i) b))
    ∙ offers-all all (known (A ++ B))
    ∙ ap (with_new all) (of-append A B)

-- ---- one place more

pub put-at : (w done more all : List Class) (ps : List ℕ) (i d : ℕ) (o : Option Class) → i < length ps
    → o ≡ slice_get w (get_or ps i d) → more ≡ done ++ option_to_list o
    → done ++ at_places w (drop i ps) ≡ all → more ++ at_places w (drop (i + 1) ps) ≡ all
put-at w done more all ps i d o lt e f inv =
    ap (λ q. q ++ at_places w (drop (i + 1) ps)) f
    ∙ append_assoc done (option_to_list o) (at_places w (drop (i + 1) ps))
    ∙ ap (λ q. done ++ q) (sym (at-next w ps i d o lt e))
    ∙ inv

pub put-past : (w done all : List Class) (ps : List ℕ) (i : ℕ) → length ps ≤ i → done ++ at_places w (drop i ps) ≡ all
    → done ≡ all
put-past w done all ps i le inv = sym (append-nil done) ∙ ap (λ q. done ++ q) (sym (at-end w ps i le)) ∙ inv

pub offer-at : (w : List Class) (all more whole : Slots) (ps : List ℕ) (i d : ℕ) (c : Class) → i < length ps
    → Some c ≡ slice_get w (get_or ps i d) → more ≡ with_new all (map signature_of (own_methods c))
    → with_new all (map signature_of (methods_of (at_places w (drop i ps)))) ≡ whole
    → with_new more (map signature_of (methods_of (at_places w (drop (i + 1) ps)))) ≡ whole
unfolding methods_of
offer-at w all more whole ps i d c lt e f inv =
    ap (λ q. with_new q (map signature_of (methods_of (at_places w (drop (i + 1) ps))))) f
    ∙ with_new-append all (map signature_of (own_methods c))
    (map signature_of (methods_of (at_places w (drop (i + 1) ps))))
    ∙ ap (with_new all) (sym (map_append signature_of (own_methods c) (methods_of (at_places w (drop (i + 1) ps)))))
    ∙ ap (λ cs. with_new all (map signature_of (methods_of cs))) (sym (at-next w ps i d (Some c) lt e))
    ∙ inv

pub offer-over : (w : List Class) (all whole : Slots) (ps : List ℕ) (i d : ℕ) → i < length ps
    → None ≡ slice_get w (get_or ps i d)
    → with_new all (map signature_of (methods_of (at_places w (drop i ps)))) ≡ whole
    → with_new all (map signature_of (methods_of (at_places w (drop (i + 1) ps)))) ≡ whole
offer-over w all whole ps i d lt e inv = ap (λ cs. with_new all (map signature_of (methods_of cs)))
    (sym (at-next w ps i d None lt e)) ∙ inv

pub offer-past : (w : List Class) (all whole : Slots) (ps : List ℕ) (i : ℕ) → length ps ≤ i
    → with_new all (map signature_of (methods_of (at_places w (drop i ps)))) ≡ whole → all ≡ whole
unfolding methods_of
offer-past w all whole ps i le inv = sym (offer-end all) ∙ ap (λ cs. with_new all (map signature_of (methods_of cs)))
    (sym (at-end w ps i le)) ∙ inv
