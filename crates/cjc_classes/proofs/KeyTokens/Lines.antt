-- What a line says of a signature, from what its first class says and what stands above.
use Rattle.std.proofs.Common.{◌≡◌, ◌∙◌, ℕ, zero, suc, Bool, true, false, List, [], ◌∷◌, ◌++◌, map, refl, sym, ap}
use Rattle.std.proofs.Common.{Option, Some, None, set}
use Rattle.std.specs.Prelude.{◌||◌, option_map, if◌then◌else◌, position, slice_get}
use Rattle.std.proofs.lemmas.Option.{slice_get-map}
use Rattle.std.proofs.lemmas.Bool.{or_parts}
use Rattle.cjc_world.specs.Classes.{Class, Member}
use Rattle.cjc_world.specs.declared.found.Found.{Found}
use Rattle.cjc_world.specs.Lookup.{or_else}
use Rattle.cjc_world.proofs.Places.{position_of_map}
use Rattle.cjc_tokens.specs.Lines.{Declared, Line, Nowhere}
use Rattle.cjc_tokens.specs.Members.{Signature, chosen, has, is_hidden, is_shown, same, signature_of, signatures}
use Rattle.cjc_tokens.specs.Methods.{with_high_bit}
use Rattle.cjc_tokens.specs.Slots.{Slots, got, hidden_slots, holds, implementing, is_of_package, is_slot_of}
use Rattle.cjc_tokens.specs.Slots.{listed_token, meant_by, nearer, new_in, shown_token, slots, taken_slots, token}
use Rattle.cjc_tokens.specs.Slots.{with_all_taken, with_new, with_taken}
use Rattle.cjc_tokens.specs.Working.{token_meant, token_with}
use Rattle.cjc_tokens.proofs.Facts.{chosen-none, got-none, own-none, same-true}
use Rattle.cjc_tokens.proofs.Held.{new-offered, token-cons, token-nil}
use Rattle.cjc_components.proofs.VTableShown.{shown_meant}
use Rattle.cjc_components.specs.LowerVTable.Calls.{any_method, finds_hidden, passes}
use Rattle.cjc_classes.specs.Walks.{TellsHidden, hidden_token}

-- ---- slots behind others

none_there : (xs : List Signature) (s : Signature) → has xs s ≡ false → token (map Some xs) s ≡ None
none_there [] s e = token-nil s
none_there (x ∷ xs) s e = by (same x s) refl e (none_there xs s)
  where
    by : (b : Bool) → same x s ≡ b → (b || has xs s) ≡ false → (has xs s ≡ false → token (map Some xs) s ≡ None)
        → token (map Some (x ∷ xs)) s ≡ None
    by true f g rest = cc
    by false f g rest =
        token-cons (Some x) (map Some xs) s
        ∙ ap (λ b. if b then Some 0 else option_map suc (token (map Some xs) s)) f
        ∙ ap (option_map suc) (rest g)

-- a signature that has none among the new ones has the slot that it had
token_front : (a : Slots) (xs : List Signature) (s : Signature) → has xs s ≡ false → token (a ++ map Some xs) s
    ≡ token a s
token_front [] xs s e = none_there xs s e ∙ sym (token-nil s)
token_front (x ∷ a) xs s e =
    token-cons x (a ++ map Some xs) s
    ∙ ap (λ o. if holds x s then Some 0 else option_map suc o) (token_front a xs s e)
    ∙ sym (token-cons x a s)

-- one that has a slot keeps it
token_kept : (a b : Slots) (s : Signature) (t : ℕ) → token a s ≡ Some t → token (a ++ b) s ≡ Some t
token_kept [] b s t e = let none : None ≡ Some t = sym (token-nil s) ∙ e in cc
token_kept (x ∷ a) b s t e = token-cons x (a ++ b) s ∙ by (holds x s) (token a s) refl (sym (token-cons x a s)
    ∙ e) (token_kept a b s)
  where
    by : (p : Bool) (o : Option ℕ) → token a s ≡ o → (if p then Some 0 else option_map suc o) ≡ Some t
        → ((u : ℕ) → token a s ≡ Some u → token (a ++ b) s ≡ Some u)
        → (if p then Some 0 else option_map suc (token (a ++ b) s)) ≡ Some t
    by true o f g rest = g
    by false None f g rest = cc
    by false (Some u) f g rest = ap (option_map suc) (rest u f) ∙ g

-- none of these is new where none is offered
none_new : (known : Slots) (ss : List Signature) (s : Signature) → has ss s ≡ false → has (new_in known ss) s ≡ false
none_new known ss s e = by (has (new_in known ss) s) refl
  where
    by : (b : Bool) → has (new_in known ss) s ≡ b → has (new_in known ss) s ≡ false
    by true f = let there : true ≡ false = sym (new-offered known ss s f) ∙ e in cc
    by false f = f

token_passed : (known : Slots) (ss : List Signature) (s : Signature) → has ss s ≡ false → token (with_new known ss) s
    ≡ token known s
token_passed known ss s e = token_front known (new_in known ss) s (none_new known ss s e)

-- ---- slots that are taken from others

-- whether each slot is of the signature
abbrev holding : Signature → Slots → List Bool
holding s all = map (λ slot. holds slot s) all

token-holding : (all : Slots) (s : Signature) → token all s ≡ position (λ b. b) (holding s all)
unfolding token
token-holding all s = sym (position_of_map (λ b. b) (λ slot. holds slot s) all)

there : Option Bool → Bool
there None = false
there (Some b) = b

slot-holding : (all : Slots) (s : Signature) (t : ℕ) → is_slot_of (slice_get all t) s ≡ there
    (slice_get (holding s all) t)
unfolding there
slot-holding all s t = by (slice_get all t) ∙ ap there (sym (slice_get-map (λ slot. holds slot s) all t))
  where
    by : (o : Option (Option Signature)) → is_slot_of o s ≡ there (option_map (λ slot. holds slot s) o)
    by None = refl
    by (Some slot) = refl

holding-set : (all : Slots) (k : ℕ) (u s : Signature) → same u s ≡ false → is_slot_of (slice_get all k) s ≡ false
    → holding s (set all k (Some u)) ≡ holding s all
holding-set [] k u s e f = refl
holding-set (slot ∷ all) zero u s e f = ap (λ b. b ∷ holding s all) (e ∙ sym f)
holding-set (slot ∷ all) (suc k) u s e f = ap (λ q. holds slot s ∷ q) (holding-set all k u s e f)

-- Methods of other signatures take no slot at which a class of the package has the method.
holding-taken : (listed : Signature → Option ℕ) (methods : List (Option Found)) (ss : List Signature) (all : Slots)
    (s : Signature) → ((k : ℕ) → is_slot_of (slice_get all k) s ≡ true → is_of_package (slice_get methods k) ≡ true)
    → has ss s ≡ false → holding s (with_all_taken listed methods ss all) ≡ holding s all
holding-taken listed methods [] all s keep none = refl
holding-taken listed methods (u ∷ ss) all s keep none =
    holding-taken listed methods ss (with_taken (listed u) methods u all) s
    (λ k e. keep k (slot-holding all s k ∙ ap (λ q. there (slice_get q k)) (sym (one (listed u)))
    ∙ sym (slot-holding (with_taken (listed u) methods u all) s k) ∙ e)) apart.1
    ∙ one (listed u)
  where
    apart : (same u s ≡ false) × (has ss s ≡ false)
    apart = or_parts (same u s) (has ss s) none

    one : (o : Option ℕ) → holding s (with_taken o methods u all) ≡ holding s all
    one None = refl
    one (Some k) = by (is_of_package (slice_get methods k)) refl
      where
        other : (b : Bool) → is_slot_of (slice_get all k) s ≡ b → is_of_package (slice_get methods k) ≡ false
            → is_slot_of (slice_get all k) s ≡ false
        other false f g = f
        other true f g = let yes' = keep k f in cc

        by : (b : Bool) → is_of_package (slice_get methods k) ≡ b → holding s (if b then all else set all k (Some u))
            ≡ holding s all
        by true g = refl
        by false g = holding-set all k u s apart.0 (other (is_slot_of (slice_get all k) s) refl g)

-- what is put at the end is of other signatures
slot_front : (a : Slots) (xs : List Signature) (s : Signature) (t : ℕ) → has xs s ≡ false
    → is_slot_of (slice_get (a ++ map Some xs) t) s ≡ is_slot_of (slice_get a t) s
slot_front [] [] s t e = refl
slot_front [] (x ∷ xs) s zero e = (or_parts (same x s) (has xs s) e).0
slot_front [] (x ∷ xs) s (suc t) e = slot_front [] xs s t (or_parts (same x s) (has xs s) e).1
slot_front (slot ∷ a) xs s zero e = refl
slot_front (slot ∷ a) xs s (suc t) e = slot_front a xs s t e

slot_passed : (known : Slots) (ss : List Signature) (s : Signature) (t : ℕ) → has ss s ≡ false
    → is_slot_of (slice_get (with_new known ss) t) s ≡ is_slot_of (slice_get known t) s
slot_passed known ss s t e = slot_front known (new_in known ss) s t (none_new known ss s e)

-- ---- tokens by the method that a line has

pub shown_nowhere : (s : Signature) → shown_token Nowhere s ≡ None
shown_nowhere s = shown_meant Nowhere s ∙ ap (token_with None [] None s) (token-nil s)

-- what no class of the package has is as it is listed
meant_listed : (listed : Option ℕ) (all : Slots) (method : Option Found) (s : Signature) → is_of_package (Some method)
    ≡ false → token_meant listed all method s ≡ listed
meant_listed listed all method s e = by (token all s)
  where
    by : (o : Option ℕ) → token_with listed all method s o ≡ listed
    by None = refl
    by (Some p) = ap (λ b. if b then Some (nearer listed all s p) else listed) e

-- the same slots of the signature give the same token
meant_same : (listed : Option ℕ) (a b : Slots) (method : Option Found) (s : Signature) → token a s ≡ token b s
    → ((t : ℕ) → is_slot_of (slice_get a t) s ≡ is_slot_of (slice_get b t) s)
    → token_meant listed a method s ≡ token_meant listed b method s
meant_same listed a b method s e f = ap (token_with listed a method s) e ∙ by (token b s)
  where
    near : (o : Option ℕ) (p : ℕ) → nearer o a s p ≡ nearer o b s p
    near None p = refl
    near (Some t) p = ap (λ q. if q then t else p) (f t)

    by : (o : Option ℕ) → token_with listed a method s o ≡ token_with listed b method s o
    by None = refl
    by (Some p) = ap (λ q. if is_of_package (Some method) then Some q else listed) (near listed p)

-- ---- a class of the package

module _ (c : Class) (given : List Member) (above : Line) (s : Signature) where
  -- slots at which a class of the package has the method stay
  taken_holding : is_of_package (Some (implementing above s)) ≡ true → has (signatures is_shown c.methods) s ≡ false
      → holding s (taken_slots c above (slots above)) ≡ holding s (slots above)
  unfolding taken_slots
  taken_holding packages own = holding-taken (listed_token above) (map (meant_by (implementing above)) (slots above))
      (signatures is_shown c.methods) (slots above) s (λ k e. by k (slice_get (slots above) k) refl e) own
    where
      by : (k : ℕ) (o : Option (Option Signature)) → slice_get (slots above) k ≡ o → is_slot_of o s ≡ true
          → is_of_package (slice_get (map (meant_by (implementing above)) (slots above)) k) ≡ true
      by k None f e = cc
      by k (Some None) f e = cc
      by k (Some (Some u)) f e =
          ap is_of_package (slice_get-map (meant_by (implementing above)) (slots above) k
          ∙ ap (option_map (meant_by (implementing above))) f ∙ ap (λ q. Some (implementing above q)) (same-true u s e))
          ∙ packages

  -- that neither declares nor got such a method gives the token of its superclass
  pub shown_above : has (signatures is_shown c.methods) s ≡ false → has (map signature_of given) s ≡ false
      → shown_token (Declared c given above) s ≡ shown_token above s
  shown_above declares gets =
      shown_meant (Declared c given above) s
      ∙ ap (λ q. token_meant (listed_token above s) (slots (Declared c given above)) q s)
      (ap (λ q. or_else q (or_else (got given s c) (implementing above s))) (own-none is_shown s c
      (chosen-none is_shown s c.methods declares)) ∙ ap (λ q. or_else q (implementing above s)) (got-none given s c
      gets))
      ∙ by (is_of_package (Some (implementing above s))) refl
      ∙ sym (shown_meant above s)
    where
      by : (b : Bool) → is_of_package (Some (implementing above s)) ≡ b
          → token_meant (listed_token above s) (slots (Declared c given above)) (implementing above s) s
          ≡ token_meant (listed_token above s) (slots above) (implementing above s) s
      by false f =
          meant_listed (listed_token above s) (slots (Declared c given above)) (implementing above s) s f
          ∙ sym (meant_listed (listed_token above s) (slots above) (implementing above s) s f)
      by true f =
          let old = taken_slots c above (slots above) in
          let held = taken_holding f declares in
          meant_same (listed_token above s) (slots (Declared c given above)) (slots above) (implementing above s) s
          (token_passed (with_new old (signatures is_shown c.methods)) (map signature_of given) s gets
          ∙ token_passed old (signatures is_shown c.methods) s declares
          ∙ token-holding old s ∙ ap (position (λ b. b)) held ∙ sym (token-holding (slots above) s))
          (λ t. slot_passed (with_new old (signatures is_shown c.methods)) (map signature_of given) s t gets
          ∙ slot_passed old (signatures is_shown c.methods) s t declares
          ∙ slot-holding old s t ∙ ap (λ q. there (slice_get q t)) held ∙ sym (slot-holding (slots above) s t))

  -- that declares no method so called tells what its superclass does
  pub hidden_above : (o : Option ℕ) → chosen any_method s c.methods ≡ None → TellsHidden above s o
      → TellsHidden (Declared c given above) s o
  hidden_above None none h = ap (λ q. passes is_hidden q (finds_hidden above s)) none ∙ h
  hidden_above (Some t) none h = (
    ap (λ q. passes is_hidden q (finds_hidden above s)) none
        ∙ h.0,
    by (token (hidden_slots above) s) refl h.1,
  )
    where
      by : (o : Option ℕ) → token (hidden_slots above) s ≡ o → option_map with_high_bit o ≡ Some t
          → hidden_token (Declared c given above) s ≡ Some t
      by None f g = cc
      by (Some u) f g = ap (option_map with_high_bit) (token_kept (hidden_slots above)
          (map Some (new_in (hidden_slots above) (signatures is_hidden c.methods))) s u f) ∙ g

  pub hidden_none : (m : Member) → chosen any_method s c.methods ≡ Some m → is_hidden m ≡ false
      → finds_hidden (Declared c given above) s ≡ false
  hidden_none m there isnt = ap (λ q. passes is_hidden q (finds_hidden above s)) there ∙ isnt

  pub hidden_found : (m : Member) → chosen any_method s c.methods ≡ Some m → is_hidden m ≡ true
      → finds_hidden (Declared c given above) s ≡ true
  hidden_found m there is = ap (λ q. passes is_hidden q (finds_hidden above s)) there ∙ is
