-- A signature has one token along a class and its supers, and a token one signature.
use Rattle.std.proofs.Common.{◌≡◌, ℕ, zero, suc, refl, sym, ap, subst, ◌∙◌, Bool, true, false, List, [], ◌∷◌, ◌++◌}
use Rattle.std.proofs.Common.{length, append-nil, inl, inr, ⊎_elim, append_assoc}
use Rattle.std.specs.Prelude.{◌⊎◌, Some, if◌then◌else◌, slice_get, map}
use Rattle.cjc_world.specs.Classes.{Member, Class}
use Rattle.cjc_tokens.specs.Members.{Signature, signature_of, signatures, is_shown, is_hidden, all_methods, In}
use Rattle.cjc_tokens.specs.Lines.{Line, Nowhere, Imported, Declared}
use Rattle.cjc_tokens.specs.Slots.{Slots, has_slot, new_in, with_new, listed_slots, slots, hidden_slots, token}
use Rattle.cjc_vtable.specs.Calls.{IsOneToOne, IsTold, Climbs}
use Rattle.cjc_tokens.proofs.Held.{shown-virtual, here-has_slot, In-slot, token-slot, listed_slot}
use Rattle.cjc_vtable.proofs.Agrees.{slot_stays, hidden_slot_stays}
use Rattle.cjc_vtable.proofs.Calls.{token-some}
use Rattle.cjc_vtable.proofs.Told.{told-slots}

-- a signature has one slot at most
abbrev pub IsOnce : Slots → Type 0
IsOnce all = (j k : ℕ) (s : Signature) → slice_get all j ≡ Some (Some s) → slice_get all k ≡ Some (Some s) → j ≡ k

-- one more signature that had no slot
once-more : (all : Slots) (u : Signature) → IsOnce all → has_slot all u ≡ false → IsOnce (all ++ Some u ∷ [])
once-more all u once fresh j k s e f = ⊎_elim
    (λ a. ⊎_elim (λ b. once j k s a b) (λ b. absurd (clash j s a b.1)) (at_end all u k s f))
    (λ a. ⊎_elim (λ b. absurd (clash k s b a.1)) (λ b. a.0 ∙ sym b.0) (at_end all u k s f))
    (at_end all u j s e)
  where
    at_end : (all : Slots) (u : Signature) (k : ℕ) (s : Signature) → slice_get (all ++ Some u ∷ []) k ≡ Some (Some s)
        → (slice_get all k ≡ Some (Some s)) ⊎ ((k ≡ length all) × (u ≡ s))
    at_end [] u zero s e = inr (refl, cc)
    at_end [] u (suc k) s e = cc
    at_end (slot ∷ all) u zero s e = inl e
    at_end (slot ∷ all) u (suc k) s e = ⊎_elim (λ h. inl h) (λ h. inr (ap suc h.0, h.1)) (at_end all u k s e)

    clash : (k : ℕ) (s : Signature) → slice_get all k ≡ Some (Some s) → u ≡ s → ⊥
    clash k s h is = let yes' : has_slot all u ≡ true = ap (has_slot all) is ∙ here-has_slot all k s h in cc

once-new : (known : Slots) (ss : List Signature) → IsOnce known → IsOnce (known ++ map Some (new_in known ss))
once-new known [] once = subst IsOnce (sym (append-nil known)) once
once-new known (u ∷ ss) once = by (has_slot known u) refl (once-new known ss) (once-new (known ++ Some u ∷ []) ss)
  where
    by : (b : Bool) → has_slot known u ≡ b → (IsOnce known → IsOnce (known ++ map Some (new_in known ss)))
        → (IsOnce (known ++ Some u ∷ []) → IsOnce ((known ++ Some u ∷ [])
        ++ map Some (new_in (known ++ Some u ∷ []) ss))) → IsOnce (known ++ map Some (if b then new_in known ss
        else u ∷ new_in (known ++ Some u ∷ []) ss))
    by true g old fresh = old once
    by false g old fresh = subst IsOnce (append_assoc known (Some u ∷ []) (map Some (new_in (known ++ Some u ∷ []) ss)))
        (fresh (once-more known u once g))

pub slots-once : (line : Line) → IsTold line → IsOnce (slots line)
slots-once Nowhere told = λ j k s e f. cc
slots-once (Imported classes) told = λ j k s e f.
    let a = listed_slot (all_methods classes) j s e in
    let b = listed_slot (all_methods classes) k s f in
    sym a.3 ∙ (told a.0 b.0 a.1 b.1 (shown-virtual a.0 a.2) (shown-virtual b.0 b.2)).1 (a.4 ∙ sym b.4) ∙ b.3
slots-once (Declared c given above) told = subst IsOnce (sym (told-slots c given above told))
    (once-new (with_new (slots above) (signatures is_shown c.methods)) (map signature_of given)
    (once-new (slots above) (signatures is_shown c.methods) (slots-once above told)))

pub hidden_slots-once : (line : Line) → IsOnce (hidden_slots line)
hidden_slots-once Nowhere = λ j k s e f. cc
hidden_slots-once (Imported classes) = λ j k s e f. cc
hidden_slots-once (Declared c given above) = once-new (hidden_slots above) (signatures is_hidden c.methods)
    (hidden_slots-once above)

-- the token of a slot's signature is its place
token-place : (all : Slots) (t : ℕ) (s : Signature) → IsOnce all → slice_get all t ≡ Some (Some s)
    → token all s ≡ Some t
token-place all t s once e =
    let k = token-some all s (here-has_slot all t s e) in
    k.1 ∙ ap Some (once k.0 t s (token-slot all s k.0 k.1) e)

pub inherited_token : (line above : Line) (s : Signature) (t : ℕ) → IsTold line → Climbs line above
    → token (slots above) s ≡ Some t → token (slots line) s ≡ Some t
inherited_token line above s t told climbs e = token-place (slots line) t s (slots-once line told)
    (slot_stays line above t s told climbs (token-slot (slots above) s t e))

pub inherited_hidden_token : (line above : Line) (s : Signature) (t : ℕ) → Climbs line above
    → token (hidden_slots above) s ≡ Some t → token (hidden_slots line) s ≡ Some t
inherited_hidden_token line above s t climbs e = token-place (hidden_slots line) t s (hidden_slots-once line)
    (hidden_slot_stays line above t (Some s) climbs (token-slot (hidden_slots above) s t e))

pub one_method : (all : Slots) (s u : Signature) (t : ℕ) → token all s ≡ Some t → token all u ≡ Some t → s ≡ u
one_method all s u t e f = same_slot (sym (token-slot all s t e) ∙ token-slot all u t f)
  where
    same_slot : Some (Some s) ≡ Some (Some u) → s ≡ u
    same_slot e = cc

pub listed_token : (classes : List Class) (m : Member) → IsOneToOne (all_methods classes) → In m (all_methods classes)
    → is_shown m ≡ true → token (slots (Imported classes)) (signature_of m) ≡ Some m.token
listed_token classes m told i e =
    let n = In-slot (all_methods classes) m i e in
    let is = (told n.0 m n.1 i (shown-virtual n.0 n.2) (shown-virtual m e)).0 n.3 in
    token-place (listed_slots (all_methods classes)) m.token (signature_of m) (slots-once (Imported classes) told) (n.4
    ∙ ap (λ q. Some (Some q)) is)
