-- Where export files don't contradict one another the token of a method is the place of its slot.
use Rattle.std.proofs.Common.{◌≡◌, ◌≤◌, ℕ, zero, suc, refl, sym, ap, ◌∙◌, arith, Bool, true, false, List, [], ◌∷◌}
use Rattle.std.proofs.Common.{inl, inr, ⊎_elim}
use Rattle.std.specs.Prelude.{◌⊎◌, ◌&&◌, Option, Some, None, if◌then◌else◌, not, slice_get, map, option_map}
use Rattle.cjc_world.specs.declared.found.Found.{Found}
use Rattle.cjc_world.specs.Classes.{Member, Class}
use Rattle.cjc_world.specs.Lookup.{or_else}
use Rattle.cjc_tokens.specs.Members.{Signature, signature_of, same, has, signatures, is_shown, all_methods, In}
use Rattle.cjc_tokens.specs.Members.{first_of}
use Rattle.cjc_tokens.specs.Members.{later}
use Rattle.cjc_tokens.specs.Lines.{Line, Nowhere, Imported, Declared}
use Rattle.cjc_tokens.specs.Slots.{Slots, first_answer, got, has_slot, holds, implementing, is_of_package, is_slot_of}
use Rattle.cjc_tokens.specs.Slots.{listed_token}
use Rattle.cjc_tokens.specs.Slots.{nearer, new_in, or_next, own, row, shown_token, slots, taken_slots, told_by, told_in}
use Rattle.cjc_tokens.specs.Slots.{token, token_among, token_by, with_new}
use Rattle.cjc_vtable.specs.Calls.{IsProper, IsTold}
use Rattle.cjc_tokens.proofs.Facts.{got-at, has-got_none, has-own_none, own-at, same-refl, same-true}
use Rattle.cjc_tokens.proofs.Held.{at_either, has_slot-append, here-has_slot, listed_slot, new-offered}
use Rattle.cjc_tokens.proofs.Held.{offered-has_slot, token-cons, token-slot}
use Rattle.cjc_tokens.proofs.Listings.{among-meant}
use Rattle.cjc_tokens.specs.Working.{token_meant, token_with}
use Rattle.cjc_vtable.proofs.Calls.{token-some}
use Rattle.cjc_vtable.proofs.Given.{In-split}
use Rattle.cjc_vtable.proofs.Once.{slots-once}
use Rattle.cjc_vtable.proofs.Told.{taken_slots-either, told-slot}
use Rattle.cjc_vtable.proofs.Towers.{row_at}

-- ---- what is listed of a method that is there

told-there : (s : Signature) (ms : List Member) (m : Member) → In m ms → is_shown m ≡ true → signature_of m ≡ s
    → (t : ℕ) × (first_answer (told_by s) ms ≡ Some t)
unfolding first_answer
told-there s [] m i shown is = elim i [ ]
told-there s (n ∷ ms) m first_of shown is = (n.token, ap (λ o. or_next o (first_answer (told_by s) ms)) one)
  where
    one : told_by s n ≡ Some n.token
    one = ap (λ b. if b && same (signature_of n) s then Some n.token else None) shown
        ∙ ap (λ b. if b then Some n.token else None) (ap (λ q. same q s) is ∙ same-refl s)
told-there s (n ∷ ms) m (later i) shown is = by (told_by s n) (told-there s ms m i shown is)
  where
    by : (o : Option ℕ) → (t : ℕ) × (first_answer (told_by s) ms ≡ Some t) → (t : ℕ)
        × (or_next o (first_answer (told_by s) ms) ≡ Some t)
    by None r = r
    by (Some k) r = (k, refl)

-- the classes are all imported
abbrev pub AllImported : List Class → Type 0
AllImported [] = Unit {0}
AllImported (c ∷ cs) = (c.is_imported ≡ true) × AllImported cs

-- Above an imported class of the line stands none of the package.
abbrev pub IsAbroad : Line → Type 0
IsAbroad Nowhere = Unit {0}
IsAbroad (Imported classes) = AllImported classes
IsAbroad (Declared c given above) = IsAbroad above

listed-there : (s : Signature) (cs : List Class) (m : Member) → AllImported cs → In m (all_methods cs)
    → is_shown m ≡ true → signature_of m ≡ s → (t : ℕ) × (first_answer (told_in s) cs ≡ Some t)
unfolding first_answer
listed-there s [] m all i shown is = elim i [ ]
listed-there s (c ∷ cs) m all i shown is = ⊎_elim
    (λ j. let r = told-there s c.methods m j shown is in (
      r.0,
      ap (λ o. or_next o (first_answer (told_in s) cs)) (ap (λ b. if b then first_answer (told_by s) c.methods
          else None) all.0 ∙ r.1),
    ))
    (λ j. by (told_in s c) (listed-there s cs m all.1 j shown is))
    (In-split m c.methods (all_methods cs) i)
  where
    by : (o : Option ℕ) → (t : ℕ) × (first_answer (told_in s) cs ≡ Some t) → (t : ℕ)
        × (or_next o (first_answer (told_in s) cs) ≡ Some t)
    by None r = r
    by (Some k) r = (k, refl)

-- ---- where a slot comes from

-- a class of the package has the method
abbrev pub IsPackages : Line → Signature → Type 0
IsPackages line s = (f : Found) × (implementing line s ≡ Some f) × (f.imported ≡ false)

pub packages-here : (c : Class) (given : List Member) (above : Line) (s : Signature) → c.is_imported ≡ false
    → IsPackages above s ⊎ ((has (signatures is_shown c.methods) s ≡ true) ⊎ (has (map signature_of given) s ≡ true))
    → IsPackages (Declared c given above) s
packages-here c given above s plain either = by (own is_shown s c) refl (got given s c) refl
  where
    by : (o : Option Found) → own is_shown s c ≡ o → (p : Option Found) → got given s c ≡ p
        → (f : Found) × (or_else (own is_shown s c) (or_else (got given s c) (implementing above s)) ≡ Some f)
        × (f.imported ≡ false)
    by (Some g) h p k =
        let at = own-at is_shown s c g h in (
          g,
          ap (λ q. or_else q (or_else (got given s c) (implementing above s))) h,
          ap (λ (q : Found). q.imported) at.1 ∙ plain,
        )
    by None h (Some g) k =
        let at = got-at given s c g k in (
          g,
          ap (λ q. or_else q (or_else (got given s c) (implementing above s))) h
              ∙ ap (λ q. or_else q (implementing above s)) k,
          ap (λ (q : Found). q.imported) at.1 ∙ plain,
        )
    by None h None k = ⊎_elim
        (λ r. (
          r.0,
          ap (λ q. or_else q (or_else (got given s c) (implementing above s))) h
              ∙ ap (λ q. or_else q (implementing above s)) k ∙ r.1,
          r.2,
        ))
        (λ r. ⊎_elim (λ d. let no = has-own_none is_shown s c h in cc) (λ d. let no = has-got_none given s c k in cc) r)
        either

-- A slot is that of the token that is listed for its signature, or a class of the package has the method.
slot-origin : (line : Line) (t : ℕ) (s : Signature) → IsTold line → IsProper line → IsAbroad line
    → slice_get (slots line) t ≡ Some (Some s) → (listed_token line s ≡ Some t) ⊎ IsPackages line s
slot-origin Nowhere t s told proper abroad e = cc
slot-origin (Imported classes) t s told proper abroad e =
    let m = listed_slot (all_methods classes) t s e in
    let r = listed-there s classes m.0 abroad m.1 m.2 m.4 in
    inl (r.1 ∙ ap Some (slots-once (Imported classes) told r.0 t s (told-slot (Imported classes) s r.0 told r.1) e))
slot-origin (Declared c given above) t s told proper abroad e =
    let old = taken_slots c above (slots above) in
    let own_ones = signatures is_shown c.methods in
    ⊎_elim
    (λ front. ⊎_elim
    (λ there. ⊎_elim
    (λ h. ⊎_elim (λ l. inl l) (λ p. inr (packages-here c given above s proper.0 (inl p))) (slot-origin above t s told
    proper.2 abroad h))
    (λ h. inr (packages-here c given above s proper.0 (inr (inl h))))
    (taken_slots-either c above (slots above) t s there))
    (λ h. inr (packages-here c given above s proper.0 (inr (inl (new-offered old own_ones s h)))))
    (at_either old (new_in old own_ones) t s front))
    (λ h. inr (packages-here c given above s proper.0 (inr (inr (new-offered (with_new old own_ones)
    (map signature_of given) s h)))))
    (at_either (with_new old own_ones) (new_in (with_new old own_ones) (map signature_of given)) t s e)

-- ---- the token is the place

module _ (line : Line) (s : Signature) (told : IsTold line) where
  -- what has no slot is listed nowhere
  listed-none : token (slots line) s ≡ None → listed_token line s ≡ None
  listed-none none = by (listed_token line s) refl
    where
      by : (q : Option ℕ) → listed_token line s ≡ q → listed_token line s ≡ None
      by None f = f
      by (Some t) f = let some = token-some (slots line) s (here-has_slot (slots line) t s (told-slot line s t told f))
          in cc (some.1)

  nearer-same : (p : ℕ) → slice_get (slots line) p ≡ Some (Some s) → nearer (listed_token line s) (slots line) s p ≡ p
  nearer-same p slot = by (listed_token line s) refl
    where
      by : (q : Option ℕ) → listed_token line s ≡ q → nearer q (slots line) s p ≡ p
      by None f = refl
      by (Some t) f = at (is_slot_of (slice_get (slots line) t) s)
        where
          at : (b : Bool) → (if b then t else p) ≡ p
          at true = slots-once line told t p s (told-slot line s t told f) slot
          at false = refl

  -- The token of a method is the place of its slot.
  pub shown-is_place : IsProper line → IsAbroad line → shown_token line s ≡ token (slots line) s
  unfolding shown_token token_among
  shown-is_place proper abroad = by (token (slots line) s) refl
    where
      either : (b d : Bool) (p : ℕ) → (if b then Some (if d then p else p) else Some p) ≡ Some p
      either true true p = refl
      either true false p = refl
      either false d p = refl

      by : (o : Option ℕ) → token (slots line) s ≡ o → token_by (listed_token line s) (slots line) (row line) s o ≡ o
      by None e = listed-none e
      by (Some p) e =
          let slot = token-slot (slots line) s p e in
          ⊎_elim
          (λ l. ap (λ q. if is_of_package (slice_get (row line) p) then Some (nearer q (slots line) s p) else q) l
          ∙ either (is_of_package (slice_get (row line) p)) (is_slot_of (slice_get (slots line) p) s) p)
          (λ f. ap (λ b. if b then Some (nearer (listed_token line s) (slots line) s p) else listed_token line s)
          (ap is_of_package (row_at (implementing line) (slots line) p s slot ∙ ap Some f.1) ∙ ap not f.2)
          ∙ ap Some (nearer-same p slot))
          (slot-origin line p s told proper abroad slot)

-- ---- whether they contradict one another or not

-- The token is told by the method that the line has.
pub shown_meant : (line : Line) (s : Signature) → shown_token line s ≡ token_meant (listed_token line s) (slots line)
    (implementing line s) s
unfolding shown_token
shown_meant line s = among-meant (listed_token line s) (slots line) (implementing line) s

-- the token is the least place of a slot
pub token-least : (all : Slots) (s : Signature) (p q : ℕ) → token all s ≡ Some p → slice_get all q ≡ Some (Some s)
    → p ≤ q
token-least [] s p q e f = cc
token-least (slot ∷ all) s p zero e f =
    let is : slot ≡ Some s = cc in
    let first : Some 0 ≡ Some p = sym (token-cons slot all s ∙ ap (λ b. if b then Some 0 else option_map suc
    (token all s)) (ap (λ q. holds q s) is ∙ same-refl s)) ∙ e in
    let none : 0 ≡ p = cc in
    omega (arith, none)
token-least (slot ∷ all) s p (suc q) e f = by (λ k g. token-least all s k q g f) (holds slot s) (token all s) refl
    (sym (token-cons slot all s) ∙ e)
  where
    by : ((k : ℕ) → token all s ≡ Some k → k ≤ q) → (b : Bool) (o : Option ℕ) → token all s ≡ o
        → (if b then Some 0 else option_map suc o) ≡ Some p → p ≤ suc q
    by rest true o g h = let none : 0 ≡ p = cc in omega (arith, none)
    by rest false None g h = cc
    by rest false (Some k) g h =
        let next : suc k ≡ p = cc in
        let least = rest k g in
        omega (arith, next, least)

-- Where a class of the package has the method, the token is the place of a slot of it.
pub packages-token : (line : Line) (s : Signature) → IsPackages line s → has_slot (slots line) s ≡ true → (q : ℕ)
    × (shown_token line s ≡ Some q) × (slice_get (slots line) q ≡ Some (Some s))
packages-token line s packages there =
    let p = token-some (slots line) s there in
    let r = near (listed_token line s) p.0 (token-slot (slots line) s p.0 p.1) in (
      r.0,
      shown_meant line s
          ∙ ap (token_with (listed_token line s) (slots line) (implementing line s) s) p.1
          ∙ ap (λ m. if is_of_package (Some m) then Some (nearer (listed_token line s) (slots line) s p.0)
          else listed_token line s) packages.1
          ∙ ap (λ b. if not b then Some (nearer (listed_token line s) (slots line) s p.0) else listed_token line s)
          packages.2
          ∙ ap Some r.1,
      r.2,
    )
  where
    is_of : (o : Option (Option Signature)) → is_slot_of o s ≡ true → o ≡ Some (Some s)
    is_of None e = cc
    is_of (Some None) e = cc
    is_of (Some (Some u)) e = ap (λ q. Some (Some q)) (same-true u s e)

    near : (listed : Option ℕ) (p : ℕ) → slice_get (slots line) p ≡ Some (Some s) → (q : ℕ)
        × (nearer listed (slots line) s p ≡ q) × (slice_get (slots line) q ≡ Some (Some s))
    near None p e = (p, refl, e)
    near (Some t) p e = by (is_slot_of (slice_get (slots line) t) s) refl
      where
        by : (b : Bool) → is_slot_of (slice_get (slots line) t) s ≡ b → (q : ℕ)
            × ((if b then t else p) ≡ q) × (slice_get (slots line) q ≡ Some (Some s))
        by true f = (t, refl, is_of (slice_get (slots line) t) f)
        by false f = (p, refl, e)

module _ (c : Class) (given : List Member) (above : Line) (s : Signature) where
  -- the class declares or got the method
  abbrev pub Offers : Type 0
  Offers = (has (signatures is_shown c.methods) s ≡ true) ⊎ (has (map signature_of given) s ≡ true)

  pub offered-slot : Offers → has_slot (slots (Declared c given above)) s ≡ true
  offered-slot offers =
      let old = taken_slots c above (slots above) in
      let first = with_new old (signatures is_shown c.methods) in
      ⊎_elim
      (λ e. has_slot-append first (map Some (new_in first (map signature_of given))) s (offered-has_slot old
      (signatures is_shown c.methods) s e))
      (λ e. offered-has_slot first (map signature_of given) s e)
      offers

  -- What a class of the package declares or got has the place of a slot of its own for a token.
  pub declared-token : c.is_imported ≡ false → Offers → (q : ℕ) × (shown_token (Declared c given above) s ≡ Some q)
      × (slice_get (slots (Declared c given above)) q ≡ Some (Some s))
  declared-token plain offers = packages-token (Declared c given above) s (packages-here c given above s plain
      (inr offers)) (offered-slot offers)
