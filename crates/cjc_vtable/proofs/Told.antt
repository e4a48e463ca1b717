-- Slots that methods take. Where export files don't contradict one another each method has its slot already.
use Rattle.std.proofs.Common.{◌≡◌, ℕ, zero, suc, refl, sym, ap, subst, ◌∙◌, Bool, true, false, List, [], ◌∷◌, ◌++◌}
use Rattle.std.proofs.Common.{length, inl, inr, ⊎_elim, set, length-set}
use Rattle.std.specs.Prelude.{◌⊎◌, ◌&&◌, ◌||◌, Option, Some, None, if◌then◌else◌, slice_get, map}
use Rattle.cjc_world.specs.declared.found.Found.{Found}
use Rattle.cjc_world.specs.Classes.{Member, Class}
use Rattle.cjc_world.specs.Lookup.{is_called}
use Rattle.cjc_tokens.specs.Members.{Signature, signature_of, same, has, signatures, is_shown, all_methods, In}
use Rattle.cjc_tokens.specs.Members.{first_of}
use Rattle.cjc_tokens.specs.Members.{later}
use Rattle.cjc_tokens.specs.Lines.{Line, Nowhere, Imported, Declared}
use Rattle.cjc_tokens.specs.Slots.{Slots, first_answer, implementing, is_of_package, listed_slots}
use Rattle.cjc_tokens.specs.Slots.{listed_token, meant_by, new_in, or_next, slots, taken_slots, told_by, told_in}
use Rattle.cjc_tokens.specs.Slots.{with_all_taken, with_new, with_taken}
use Rattle.cjc_vtable.specs.Calls.{IsOneToOne, IsTold}
use Rattle.cjc_tokens.proofs.Facts.{same-refl, same-true}
use Rattle.cjc_tokens.proofs.Held.{In-slot, shown-virtual}
use Rattle.cjc_world.proofs.BytesGets.{in_front}

-- ---- slots that are taken

-- one slot written
set-either : (all : Slots) (k t : ℕ) (u s : Signature) → slice_get (set all k (Some u)) t ≡ Some (Some s)
    → (slice_get all t ≡ Some (Some s)) ⊎ (u ≡ s)
set-either [] k t u s e = inl e
set-either (slot ∷ all) zero zero u s e = inr cc
set-either (slot ∷ all) zero (suc t) u s e = inl e
set-either (slot ∷ all) (suc k) zero u s e = inl e
set-either (slot ∷ all) (suc k) (suc t) u s e = set-either all k t u s e

taken_one : (listed : Option ℕ) (methods : List (Option Found)) (u s : Signature) (all : Slots) (t : ℕ)
    → slice_get (with_taken listed methods u all) t ≡ Some (Some s) → (slice_get all t ≡ Some (Some s)) ⊎ (u ≡ s)
taken_one None methods u s all t e = inl e
taken_one (Some k) methods u s all t e = by (is_of_package (slice_get methods k)) e
  where
    by : (b : Bool) → slice_get (if b then all else set all k (Some u)) t ≡ Some (Some s)
        → (slice_get all t ≡ Some (Some s)) ⊎ (u ≡ s)
    by true e = inl e
    by false e = set-either all k t u s e

-- A slot afterwards is one of before, or of a method that took one.
pub taken-either : (listed : Signature → Option ℕ) (methods : List (Option Found)) (ss : List Signature) (all : Slots)
    (t : ℕ) (s : Signature) → slice_get (with_all_taken listed methods ss all) t ≡ Some (Some s)
    → (slice_get all t ≡ Some (Some s)) ⊎ (has ss s ≡ true)
taken-either listed methods [] all t s e = inl e
taken-either listed methods (u ∷ ss) all t s e = ⊎_elim
    (λ h. ⊎_elim (λ k. inl k) (λ k. inr (ap (λ q. same q s || has ss s) k ∙ ap (λ b. b || has ss s) (same-refl s)))
    (taken_one (listed u) methods u s all t h))
    (λ h. inr (ap (λ b. same u s || b) h ∙ or_true (same u s)))
    (taken-either listed methods ss (with_taken (listed u) methods u all) t s e)
  where
    or_true : (b : Bool) → (b || true) ≡ true
    or_true true = refl
    or_true false = refl

-- there are as many
pub taken-length : (listed : Signature → Option ℕ) (methods : List (Option Found)) (ss : List Signature) (all : Slots)
    → length (with_all_taken listed methods ss all) ≡ length all
taken-length listed methods [] all = refl
taken-length listed methods (u ∷ ss) all = taken-length listed methods ss (with_taken (listed u) methods u all)
    ∙ one (listed u)
  where
    one : (o : Option ℕ) → length (with_taken o methods u all) ≡ length all
    one None = refl
    one (Some k) = by (is_of_package (slice_get methods k))
      where
        by : (b : Bool) → length (if b then all else set all k (Some u)) ≡ length all
        by true = refl
        by false = length-set all k (Some u)

-- where each has the slot of its token, nothing changes
taken-same : (listed : Signature → Option ℕ) (methods : List (Option Found)) (ss : List Signature) (all : Slots)
    → ((s : Signature) (t : ℕ) → listed s ≡ Some t → slice_get all t ≡ Some (Some s))
    → with_all_taken listed methods ss all ≡ all
taken-same listed methods [] all there = refl
taken-same listed methods (u ∷ ss) all there =
    ap (with_all_taken listed methods ss) (one (listed u) (λ t e. there u t e)) ∙ taken-same listed methods ss all there
  where
    set-same : (xs : Slots) (t : ℕ) → slice_get xs t ≡ Some (Some u) → set xs t (Some u) ≡ xs
    set-same [] t e = refl
    set-same (slot ∷ xs) zero e = let is : slot ≡ Some u = cc in ap (λ q. q ∷ xs) (sym is)
    set-same (slot ∷ xs) (suc t) e = ap (λ q. slot ∷ q) (set-same xs t e)

    one : (o : Option ℕ) → ((t : ℕ) → o ≡ Some t → slice_get all t ≡ Some (Some u)) → with_taken o methods u all ≡ all
    one None h = refl
    one (Some t) h = by (is_of_package (slice_get methods t))
      where
        by : (b : Bool) → (if b then all else set all t (Some u)) ≡ all
        by true = refl
        by false = set-same all t (h t refl)

-- ---- what imported classes list

-- the method with the listed token
told_by-some : (s : Signature) (m : Member) (t : ℕ) → told_by s m ≡ Some t → (is_shown m ≡ true)
    × (signature_of m ≡ s) × (m.token ≡ t)
told_by-some s m t e = by (is_shown m) (is_called s.name s.desc m) refl e
  where
    by : (b a : Bool) → is_called s.name s.desc m ≡ a → (if b && a then Some m.token else None) ≡ Some t → (b ≡ true)
        × (signature_of m ≡ s) × (m.token ≡ t)
    by true true f e = (refl, same-true (signature_of m) s f, cc)
    by true false f e = cc
    by false a f e = cc

first-told : (s : Signature) (ms : List Member) (t : ℕ) → first_answer (told_by s) ms ≡ Some t → (m : Member) × In m ms
    × (is_shown m ≡ true) × (signature_of m ≡ s) × (m.token ≡ t)
unfolding first_answer
first-told s [] t e = cc
first-told s (n ∷ ms) t e = by (told_by s n) refl e (first-told s ms t)
  where
    by : (o : Option ℕ) → told_by s n ≡ o → or_next o (first_answer (told_by s) ms) ≡ Some t
        → (first_answer (told_by s) ms ≡ Some t → (m : Member) × In m ms × (is_shown m ≡ true)
        × (signature_of m ≡ s) × (m.token ≡ t)) → (m : Member) × In m (n ∷ ms) × (is_shown m ≡ true)
        × (signature_of m ≡ s) × (m.token ≡ t)
    by None f e rest = let r = rest e in (r.0, later r.1, r.2, r.3, r.4)
    by (Some k) f e rest = let q = told_by-some s n t (f ∙ e) in (n, first_of, q.0, q.1, q.2)

pub In-front : (m : Member) (a b : List Member) → In m a → In m (a ++ b)
In-front m [] b i = elim i [ ]
In-front m (n ∷ a) b first_of = first_of
In-front m (n ∷ a) b (later i) = later (In-front m a b i)

pub In-behind : (m : Member) (a b : List Member) → In m b → In m (a ++ b)
In-behind m [] b i = i
In-behind m (n ∷ a) b i = later (In-behind m a b i)

-- What is listed for a signature is the token of a method of it.
pub listed-method : (s : Signature) (cs : List Class) (t : ℕ) → first_answer (told_in s) cs ≡ Some t → (m : Member)
    × In m (all_methods cs) × (is_shown m ≡ true) × (signature_of m ≡ s) × (m.token ≡ t)
unfolding first_answer
listed-method s [] t e = cc
listed-method s (c ∷ cs) t e = by (told_in s c) refl e (listed-method s cs t)
  where
    here : (b : Bool) (k : ℕ) → (if b then first_answer (told_by s) c.methods else None) ≡ Some k → (m : Member)
        × In m c.methods × (is_shown m ≡ true) × (signature_of m ≡ s) × (m.token ≡ k)
    here true k e = first-told s c.methods k e
    here false k e = cc

    by : (o : Option ℕ) → told_in s c ≡ o → or_next o (first_answer (told_in s) cs) ≡ Some t
        → (first_answer (told_in s) cs ≡ Some t → (m : Member) × In m (all_methods cs) × (is_shown m ≡ true)
        × (signature_of m ≡ s) × (m.token ≡ t)) → (m : Member) × In m (c.methods ++ all_methods cs)
        × (is_shown m ≡ true) × (signature_of m ≡ s) × (m.token ≡ t)
    by None f e rest = let r = rest e in (
      r.0,
      In-behind r.0 c.methods (all_methods cs) r.1,
      r.2,
      r.3,
      r.4,
    )
    by (Some k) f e rest = let r = here c.is_imported t (f ∙ e) in (
      r.0,
      In-front r.0 c.methods (all_methods cs) r.1,
      r.2,
      r.3,
      r.4,
    )

-- ---- where export files don't contradict one another

told-imported : (classes : List Class) (s : Signature) (t : ℕ) → IsOneToOne (all_methods classes)
    → first_answer (told_in s) classes ≡ Some t → slice_get (listed_slots (all_methods classes)) t ≡ Some (Some s)
told-imported classes s t told e =
    let m = listed-method s classes t e in
    let n = In-slot (all_methods classes) m.0 m.1 m.2 in
    let is = (told n.0 m.0 n.1 m.1 (shown-virtual n.0 n.2) (shown-virtual m.0 m.2)).0 n.3 in
    subst (λ q. slice_get (listed_slots (all_methods classes)) q ≡ Some (Some s)) m.4 (n.4
    ∙ ap (λ q. Some (Some q)) (is ∙ m.3))

module _ (c : Class) (above : Line) (there : (s : Signature) (t : ℕ) → listed_token above s ≡ Some t
    → slice_get (slots above) t ≡ Some (Some s)) where
  taken-are : taken_slots c above (slots above) ≡ slots above
  unfolding taken_slots
  taken-are = taken-same (listed_token above) (map (meant_by (implementing above)) (slots above))
      (signatures is_shown c.methods) (slots above) there

-- The slot of a listed token is the method's.
pub told-slot : (line : Line) (s : Signature) (t : ℕ) → IsTold line → listed_token line s ≡ Some t
    → slice_get (slots line) t ≡ Some (Some s)
told-slot Nowhere s t told e = cc
told-slot (Imported classes) s t told e = told-imported classes s t told e
told-slot (Declared c given above) s t told e =
    let old = taken_slots c above (slots above) in
    let same_slots = taken-are c above (λ u k f. told-slot above u k told f) in
    in_front (with_new old (signatures is_shown c.methods))
    (map Some (new_in (with_new old (signatures is_shown c.methods)) (map signature_of given))) t (Some s)
    (in_front old (map Some (new_in old (signatures is_shown c.methods))) t (Some s)
    (subst (λ q. slice_get q t ≡ Some (Some s)) (sym same_slots) (told-slot above s t told e)))

-- Nothing is taken.
pub told-taken : (c : Class) (above : Line) → IsTold above → taken_slots c above (slots above) ≡ slots above
told-taken c above told = taken-are c above (λ s t e. told-slot above s t told e)

pub told-slots : (c : Class) (given : List Member) (above : Line) → IsTold above → slots (Declared c given above)
    ≡ with_new (with_new (slots above) (signatures is_shown c.methods)) (map signature_of given)
told-slots c given above told = ap (λ q. with_new (with_new q (signatures is_shown c.methods))
    (map signature_of given)) (told-taken c above told)

-- ---- whoever takes them

-- A slot that a class has taken is the superclass's, or of a method that the class declares.
pub taken_slots-either : (c : Class) (above : Line) (all : Slots) (t : ℕ) (s : Signature)
    → slice_get (taken_slots c above all) t ≡ Some (Some s) → (slice_get all t ≡ Some (Some s))
    ⊎ (has (signatures is_shown c.methods) s ≡ true)
unfolding taken_slots
taken_slots-either c above all t s e = taken-either (listed_token above) (map (meant_by (implementing above)) all)
    (signatures is_shown c.methods) all t s e

pub taken_slots-length : (c : Class) (above : Line) (all : Slots) → length (taken_slots c above all) ≡ length all
unfolding taken_slots
taken_slots-length c above all = taken-length (listed_token above) (map (meant_by (implementing above)) all)
    (signatures is_shown c.methods) all
