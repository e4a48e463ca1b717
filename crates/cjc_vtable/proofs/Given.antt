-- No method is added to a class that has a slot already: it is declared or inherited as a public or protected one.
use Rattle.std.proofs.Common.{◌≡◌, ℕ, refl, sym, ap, subst, ◌∙◌, Bool, true, false, List, [], ◌∷◌, ◌++◌, inl, inr}
use Rattle.std.proofs.Common.{⊎_elim}
use Rattle.std.specs.Prelude.{◌&&◌, ◌||◌, ◌⊎◌, Some, if◌then◌else◌, slice_get, map, not}
use Rattle.std.specs.List.{list_any}
use Rattle.std.proofs.lemmas.Bool.{or_left, or_right}
use Rattle.cjc_world.specs.Classes.{Member, Class}
use Rattle.cjc_world.specs.Bytes.AccessFlags.{is_private, is_static}
use Rattle.cjc_world.proofs.BytesBools.{left4, second4}
use Rattle.cjc_world.specs.Supertypes.{Supertypes, End, Unknown, Known, supertypes, AreSupertypes, ends, unknown_here}
use Rattle.cjc_world.specs.Supertypes.{known_here, upwards}
use Rattle.cjc_world.specs.Lookup.{is_called}
use Rattle.cjc_world.specs.Added.{is_open, declares_open, is_one_of, has_open, lacking, added, asked_by, takes_added}
use Rattle.cjc_tokens.specs.Members.{Signature, signature_of, same, has, signatures, is_exposed, is_shown, all_methods}
use Rattle.cjc_tokens.specs.Members.{In, first_of, later}
use Rattle.cjc_tokens.specs.Lines.{Line, Imported, Declared, line_in}
use Rattle.cjc_tokens.specs.Slots.{Slots, has_slot, new_in, with_new, listed_slots, slots, taken_slots}
use Rattle.cjc_vtable.specs.Calls.{is_special, IsProper}
use Rattle.cjc_tokens.proofs.Facts.{same-true, same-refl, chosen-some, chosen-passes, chosen-In}
use Rattle.cjc_tokens.proofs.Held.{at_either, new-offered, here-has_slot, token-slot, listed_slot}
use Rattle.cjc_vtable.proofs.Calls.{token-some, In-front, In-behind}
use Rattle.cjc_vtable.proofs.Told.{taken_slots-either}

third4 : (a b c k d : Bool) → c ≡ true → k ≡ true → (a || b || (c && k) || d) ≡ true
third4 true b c k d e f = refl
third4 false true c k d e f = refl
third4 false false true true d e f = refl
third4 false false true false d e f = cc
third4 false false false k d e f = cc

pub In-split : (m : Member) (a b : List Member) → In m (a ++ b) → In m a ⊎ In m b
In-split m [] b i = inr i
In-split m (n ∷ a) b first_of = inl first_of
In-split m (n ∷ a) b (later i) = ⊎_elim (λ j. inl (later j)) (λ j. inr j) (In-split m a b i)

pub all_methods-append : (a b : List Class) (m : Member) → In m (all_methods (a ++ b)) → In m (all_methods a)
    ⊎ In m (all_methods b)
all_methods-append [] b m i = inr i
all_methods-append (c ∷ a) b m i = ⊎_elim
    (λ j. inl (In-front m c.methods (all_methods a) j))
    (λ j. ⊎_elim (λ k. inl (In-behind m c.methods (all_methods a) k)) (λ k. inr k) (all_methods-append a b m j))
    (In-split m c.methods (all_methods (a ++ b)) i)

pub any-In : (p : Member → Bool) (ms : List Member) (m : Member) → In m ms → p m ≡ true → list_any p ms ≡ true
any-In p [] m i e = elim i [ ]
any-In p (n ∷ ms) m first_of e = or_left (p n) (list_any p ms) e
any-In p (n ∷ ms) m (later i) e = or_right (p n) (list_any p ms) (any-In p ms m i e)

-- ---- a public or protected virtual method is open

pub shown-open : (m : Member) → is_shown m ≡ true → is_open m.flags ≡ true
shown-open m e = by (is_exposed m.flags) (not (is_private m.flags)) (not (is_static m.flags))
    (not (is_special (signature_of m))) e
  where
    by : (a p t v : Bool) → (a && ((p && t) && v)) ≡ true → (a && t) ≡ true
    by true true true v e = refl
    by true true false v e = cc
    by true false t v e = cc
    by false p t v e = cc

shown-declares : (m : Member) (s : Signature) (c : Class) → In m c.methods → is_shown m ≡ true → signature_of m ≡ s
    → declares_open s.name s.desc c ≡ true
shown-declares m s c i e is =
    any-In (λ n. is_open n.flags && is_called s.name s.desc n) c.methods m i
    (ap (λ b. b && is_called s.name s.desc m) (shown-open m e) ∙ ap (λ q. same q s) is ∙ same-refl s)

-- what a class of a tree or a superclass declares
open-upwards : (k : Supertypes) (m : Member) (s : Signature) → In m (all_methods (upwards k)) → is_shown m ≡ true
    → signature_of m ≡ s → has_open s.name s.desc k ≡ true
unfolding has_open
open-upwards End m s i e is = elim i [ ]
open-upwards (Unknown name next) m s i e is = open-upwards next m s i e is
open-upwards (Known c p q next) m s i e is = ⊎_elim
    (λ j. left4 (declares_open s.name s.desc c) (has_open s.name s.desc p) (takes_added c
    && is_one_of (asked_by p q) s.name s.desc) (has_open s.name s.desc next) (shown-declares m s c j e is))
    (λ j. ⊎_elim
    (λ l. second4 (declares_open s.name s.desc c) (has_open s.name s.desc p) (takes_added c
    && is_one_of (asked_by p q) s.name s.desc) (has_open s.name s.desc next) (open-upwards p m s l e is))
    (λ l. or_right (declares_open s.name s.desc c || has_open s.name s.desc p
    || (takes_added c && is_one_of (asked_by p q) s.name s.desc)) (has_open s.name s.desc next)
    (open-upwards next m s l e is))
    (all_methods-append (upwards p) (upwards next) m j))
    (In-split m c.methods (all_methods (upwards p ++ upwards next)) i)

-- what has a slot stands at a place
pub slot-of : (all : Slots) (s : Signature) → has_slot all s ≡ true → (t : ℕ) × (slice_get all t ≡ Some (Some s))
slot-of all s e = let t = token-some all s e in (t.0, token-slot all s t.0 t.1)

pub with_new-slot : (all : Slots) (ss : List Signature) (s : Signature) → has_slot (with_new all ss) s ≡ true
    → (has_slot all s ≡ true) ⊎ (has ss s ≡ true)
with_new-slot all ss s e =
    let t = slot-of (with_new all ss) s e in
    ⊎_elim (λ h. inl (here-has_slot all t.0 s h)) (λ h. inr (new-offered all ss s h)) (at_either all (new_in all ss) t.0
    s t.1)

-- what has a slot after methods have taken theirs had one, or is declared
pub taken-has : (c : Class) (above : Line) (all : Slots) (s : Signature) → has_slot (taken_slots c above all) s ≡ true
    → (has_slot all s ≡ true) ⊎ (has (signatures is_shown c.methods) s ≡ true)
taken-has c above all s e =
    let t = slot-of (taken_slots c above all) s e in
    ⊎_elim (λ h. inl (here-has_slot all t.0 s h)) (λ h. inr h) (taken_slots-either c above all t.0 s t.1)

-- what is added was asked for and was not there
lacking-one : (there : Member → Bool) (given ms : List Member) (s : Signature)
    → has (map signature_of (lacking there given ms)) s ≡ true → (m : Member) × In m ms × (signature_of m ≡ s)
    × (there m ≡ false)
unfolding lacking
lacking-one there given [] s e = cc
lacking-one there given (n ∷ ms) s e = by (there n) (is_one_of given n.name n.desc) (same (signature_of n) s) refl refl
    e (lacking-one there given ms s) (lacking-one there (given ++ n ∷ []) ms s)
  where
    by : (b g a : Bool) → there n ≡ b → same (signature_of n) s ≡ a
        → has (map signature_of (if b || g then lacking there given ms else n ∷ lacking there (given ++ n ∷ []) ms)) s
        ≡ true
        → (has (map signature_of (lacking there given ms)) s ≡ true → (m : Member) × In m ms × (signature_of m ≡ s)
        × (there m ≡ false))
        → (has (map signature_of (lacking there (given ++ n ∷ []) ms)) s ≡ true → (m : Member) × In m ms
        × (signature_of m ≡ s) × (there m ≡ false))
        → (m : Member) × In m (n ∷ ms) × (signature_of m ≡ s) × (there m ≡ false)
    by true g a f h e old fresh = let r = old e in (r.0, later r.1, r.2, r.3)
    by false true a f h e old fresh = let r = old e in (r.0, later r.1, r.2, r.3)
    by false false true f h e old fresh = (n, first_of, same-true (signature_of n) s h, f)
    by false false false f h e old fresh = let r =
        fresh (ap (λ q. q || has (map signature_of (lacking there (given ++ n ∷ []) ms)) s) (sym h) ∙ e)
        in (r.0, later r.1, r.2, r.3)

one_of-In : (ms : List Member) (m : Member) (s : Signature) → In m ms → signature_of m ≡ s → is_one_of ms s.name s.desc
    ≡ true
one_of-In ms m s i is = any-In (λ n. is_called s.name s.desc n) ms m i (ap (λ q. same q s) is ∙ same-refl s)

-- an added method of a class: it takes such methods, one was asked for, and none was there
added-one : (w : List Class) (c : Class) (s : Signature) → has (map signature_of (added w c)) s ≡ true
    → (takes_added c ≡ true) × (is_one_of (asked_by (supertypes w c.supers) (supertypes w c.interfaces)) s.name s.desc
    ≡ true) × ((declares_open s.name s.desc c || has_open s.name s.desc (supertypes w c.supers)) ≡ false)
unfolding added
added-one w c s e = by (takes_added c) refl e
  where
    by : (b : Bool) → takes_added c ≡ b → has (map signature_of (if b then lacking (λ m. declares_open m.name m.desc c
        || has_open m.name m.desc (supertypes w c.supers)) [] (asked_by (supertypes w c.supers)
        (supertypes w c.interfaces)) else [])) s ≡ true
        → (takes_added c ≡ true) × (is_one_of (asked_by (supertypes w c.supers) (supertypes w c.interfaces)) s.name
        s.desc ≡ true) × ((declares_open s.name s.desc c || has_open s.name s.desc (supertypes w c.supers)) ≡ false)
    by false f e = cc
    by true f e =
        let r = lacking-one (λ m. declares_open m.name m.desc c || has_open m.name m.desc (supertypes w c.supers)) []
        (asked_by (supertypes w c.supers) (supertypes w c.interfaces)) s e in (
          f,
          one_of-In (asked_by (supertypes w c.supers) (supertypes w c.interfaces)) r.0 s r.1 r.2,
          subst (λ (q : Signature). (declares_open q.name q.desc c || has_open q.name q.desc (supertypes w c.supers))
              ≡ false) r.2 r.3,
        )

module _ (w : List Class) (are_supertypes : (xs : List (List ℕ)) → AreSupertypes w xs (supertypes w xs))
    (one_supertypes : (xs : List (List ℕ)) (j k : Supertypes) → AreSupertypes w xs j → AreSupertypes w xs k
    → j ≡ k) where
  -- what has a slot in a line is declared there as a public or protected method, or added
  slot-open : (xs : List (List ℕ)) (k : Supertypes) (s : Signature) → AreSupertypes w xs k
      → has_slot (slots (line_in w k)) s ≡ true → has_open s.name s.desc k ≡ true
  unfolding has_open
  slot-open xs k s ends e = cc
  slot-open xs k s (unknown_here f a) e = cc
  slot-open (x ∷ xs) k s (known_here {c = c} {supers = p} {interfaces = q} {next = r} f sp ip a) e =
      by c.is_imported e (slot-open c.supers p s sp)
    where
      rest : Bool
      rest = has_open s.name s.desc r

      declares : has (signatures is_shown c.methods) s ≡ true → (declares_open s.name s.desc c
          || has_open s.name s.desc p || (takes_added c && is_one_of (asked_by p q) s.name s.desc)
          || has_open s.name s.desc r) ≡ true
      declares g =
          let m = chosen-some is_shown s c.methods g in
          let is = chosen-passes is_shown s c.methods m.0 m.1 in
          left4 (declares_open s.name s.desc c) (has_open s.name s.desc p) (takes_added c
          && is_one_of (asked_by p q) s.name s.desc) (has_open s.name s.desc r) (shown-declares m.0 s c
          (chosen-In is_shown s c.methods m.0 m.1) is.1 is.0)

      by : (b : Bool) → has_slot (slots (if b then Imported (c ∷ upwards p) else Declared c (added w c) (line_in w p)))
          s ≡ true → (has_slot (slots (line_in w p)) s ≡ true → has_open s.name s.desc p ≡ true)
          → (declares_open s.name s.desc c || has_open s.name s.desc p
          || (takes_added c && is_one_of (asked_by p q) s.name s.desc) || has_open s.name s.desc r) ≡ true
      by true e rec =
          let t = slot-of (listed_slots (all_methods (c ∷ upwards p))) s e in
          let m = listed_slot (all_methods (c ∷ upwards p)) t.0 s t.1 in
          ⊎_elim
          (λ j. left4 (declares_open s.name s.desc c) (has_open s.name s.desc p) (takes_added c
          && is_one_of (asked_by p q) s.name s.desc) (has_open s.name s.desc r) (shown-declares m.0 s c j m.2 m.4))
          (λ j. second4 (declares_open s.name s.desc c) (has_open s.name s.desc p) (takes_added c
          && is_one_of (asked_by p q) s.name s.desc) (has_open s.name s.desc r) (open-upwards p m.0 s j m.2 m.4))
          (In-split m.0 c.methods (all_methods (upwards p)) m.1)
      by false e rec = ⊎_elim
          (λ h. ⊎_elim
          (λ g. ⊎_elim
          (λ old. second4 (declares_open s.name s.desc c) (has_open s.name s.desc p) (takes_added c
          && is_one_of (asked_by p q) s.name s.desc) (has_open s.name s.desc r) (rec old))
          (λ own. declares own)
          (taken-has c (line_in w p) (slots (line_in w p)) s g))
          (λ g. declares g)
          (with_new-slot (taken_slots c (line_in w p) (slots (line_in w p))) (signatures is_shown c.methods) s h))
          (λ h. let g = added-one w c s h in
          let ps = one_supertypes c.supers (supertypes w c.supers) p (are_supertypes c.supers) sp in
          let qs = one_supertypes c.interfaces (supertypes w c.interfaces) q (are_supertypes c.interfaces) ip in
          third4 (declares_open s.name s.desc c) (has_open s.name s.desc p) (takes_added c) (is_one_of (asked_by p q)
          s.name s.desc) (has_open s.name s.desc r) g.0
          (ap (λ j. is_one_of (asked_by j q) s.name s.desc) (sym ps)
          ∙ ap (λ j. is_one_of (asked_by (supertypes w c.supers) j) s.name s.desc) (sym qs) ∙ g.1))
          (with_new-slot (with_new (taken_slots c (line_in w p) (slots (line_in w p))) (signatures is_shown c.methods))
          (map signature_of (added w c)) s e)

  pub proper-line : (xs : List (List ℕ)) (k : Supertypes) → AreSupertypes w xs k → IsProper (line_in w k)
  proper-line xs k ends = tt
  proper-line xs k (unknown_here e a) = tt
  proper-line (x ∷ xs) k (known_here {c = c} {supers = p} {interfaces = q} e sp ip a) =
      by c.is_imported refl (proper-line c.supers p sp)
    where
      fresh : (s : Signature) → has_slot (slots (line_in w p)) s ≡ true → (b : Bool)
          → has (map signature_of (added w c)) s ≡ b → has (map signature_of (added w c)) s ≡ false
      fresh s h false f = f
      fresh s h true f =
          let g = added-one w c s f in
          let ps = one_supertypes c.supers (supertypes w c.supers) p (are_supertypes c.supers) sp in
          let open_above : has_open s.name s.desc (supertypes w c.supers) ≡ true = ap (has_open s.name s.desc) ps
          ∙ slot-open c.supers p s sp h in
          let there = or_right (declares_open s.name s.desc c) (has_open s.name s.desc (supertypes w c.supers))
          open_above in
          cc

      by : (b : Bool) → c.is_imported ≡ b → IsProper (line_in w p) → IsProper (if b then Imported (c ∷ upwards p)
          else Declared c (added w c) (line_in w p))
      by true f rest = tt
      by false f rest = (f, λ s h. fresh s h (has (map signature_of (added w c)) s) refl, rest)
