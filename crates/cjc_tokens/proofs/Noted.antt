-- Places that are noted one after the other.
use Rattle.std.proofs.Common.{◌≡◌, ℕ, suc, ◌+◌, ◌<◌, refl, sym, ap, ◌∙◌, arith, Bool, true, false, List, [], ◌∷◌, ◌++◌}
use Rattle.std.proofs.Common.{length, take, get_or, Some, None}
use Rattle.std.specs.Prelude.{map, Option, option_map, position, if◌then◌else◌, ◌&&◌, ◌||◌}
use Rattle.std.proofs.lemmas.List.{length-take-le, take_more}
use Rattle.cjc_world.specs.ClassFile.declared.tree.MethodTree.{MethodTree}
use Rattle.cjc_world.specs.Classes.{Member, method_of_class}
use Rattle.cjc_world.specs.Lookup.{is_called}
use Rattle.cjc_world.proofs.Places.{position_of_map}
use Rattle.cjc_tokens.specs.declared.slot.Slot.{Slot}
use Rattle.cjc_tokens.specs.Members.{Signature, same, signature_of}
use Rattle.cjc_tokens.specs.Slots.{has_slot, holds, or_next, token}
use Rattle.cjc_tokens.specs.SlotRows.{signature_in, signs}
use Rattle.cjc_tokens.proofs.Facts.{position-cons}

-- an item more
position-snoc : {A : Type 0} (p : A → Bool) (xs : List A) (x : A) → position p (xs ++ x ∷ [])
    ≡ or_next (position p xs) (if p x then Some (length xs) else None)
position-snoc p [] x = position-cons p x [] ∙ by (p x)
  where
    by : (b : Bool) → (if b then Some 0 else option_map suc (position p [])) ≡ or_next (position p []) (if b then Some 0
        else None)
    by true = refl
    by false = refl
position-snoc p (y ∷ ys) x =
    position-cons p y (ys ++ x ∷ [])
    ∙ ap (λ o. if p y then Some 0 else option_map suc o) (position-snoc p ys x)
    ∙ by (p y) (position p ys) (p x)
    ∙ ap (λ o. or_next o (if p x then Some (suc (length ys)) else None)) (sym (position-cons p y ys))
  where
    by : (b : Bool) (o : Option ℕ) (c : Bool) → (if b then Some 0 else option_map suc (or_next o (if c
        then Some (length ys) else None))) ≡ or_next (if b then Some 0 else option_map suc o) (if c
        then Some (suc (length ys)) else None)
    by true o c = refl
    by false None true = refl
    by false None false = refl
    by false (Some k) c = refl

pub position-next : {A : Type 0} (p : A → Bool) (xs : List A) (k : ℕ) (d : A) → k < length xs
    → position p (take (k + 1) xs) ≡ or_next (position p (take k xs)) (if p (get_or xs k d) then Some k else None)
position-next p xs k d lt =
    ap (position p) (take_more xs k d lt)
    ∙ position-snoc p (take k xs) (get_or xs k d)
    ∙ ap (λ n. or_next (position p (take k xs)) (if p (get_or xs k d) then Some n else None))
    (length-take-le k xs (omega arith))

-- the place of a slot more
pub token-next : (row : List (Option Slot)) (k : ℕ) (d : Option Slot) (s : Signature) → k < length row
    → token (signs (take (k + 1) row)) s ≡ or_next (token (signs (take k row)) s)
    (if holds (option_map signature_in (get_or row k d)) s then Some k else None)
unfolding token
token-next row k d s lt =
    position_of_map (λ q. holds q s) (option_map signature_in) (take (k + 1) row)
    ∙ position-next (λ q. holds (option_map signature_in q) s) row k d lt
    ∙ ap (λ o. or_next o (if holds (option_map signature_in (get_or row k d)) s then Some k else None))
    (sym (position_of_map (λ q. holds q s) (option_map signature_in) (take k row)))

-- one at the end
pub token-snoc : (row : List (Option Slot)) (slot : Option Slot) (s : Signature) → token (signs (row ++ slot ∷ [])) s
    ≡ or_next (token (signs row) s) (if holds (option_map signature_in slot) s then Some (length row) else None)
unfolding token
token-snoc row slot s =
    position_of_map (λ q. holds q s) (option_map signature_in) (row ++ slot ∷ [])
    ∙ position-snoc (λ q. holds (option_map signature_in q) s) row slot
    ∙ ap (λ o. or_next o (if holds (option_map signature_in slot) s then Some (length row) else None))
    (sym (position_of_map (λ q. holds q s) (option_map signature_in) row))

-- the place of a method more that passes a test, and of one that does not
module _ (test : Member → Bool) (ms : List MethodTree) (k : ℕ) (m : MethodTree) (s : Signature) where
  found : List MethodTree → Option ℕ
  found ns = position (λ n. test n && is_called s.name s.desc n) (map method_of_class ns)

  one-next : k < length ms → m ≡ get_or ms k m → (let n = method_of_class m in found (take (k + 1) ms)
      ≡ or_next (found (take k ms)) (if test n && is_called s.name s.desc n then Some k else None))
  unfolding found
  one-next lt is =
      position_of_map (λ n. test n && is_called s.name s.desc n) method_of_class (take (k + 1) ms)
      ∙ position-next (λ q. test (method_of_class q) && is_called s.name s.desc (method_of_class q)) ms k m lt
      ∙ ap (λ (q : MethodTree). or_next (position (λ r. test (method_of_class r) && is_called s.name s.desc
      (method_of_class r)) (take k ms)) (if test (method_of_class q) && is_called s.name s.desc (method_of_class q)
      then Some k else None)) (sym is)
      ∙ ap (λ o. or_next o (if test (method_of_class m) && is_called s.name s.desc (method_of_class m)
      then Some k else None))
      (sym (position_of_map (λ n. test n && is_called s.name s.desc n) method_of_class (take k ms)))

  pub own-next : k < length ms → m ≡ get_or ms k m → test (method_of_class m) ≡ true
      → position (λ n. test n && is_called s.name s.desc n) (map method_of_class (take (k + 1) ms))
      ≡ or_next (position (λ n. test n && is_called s.name s.desc n) (map method_of_class (take k ms)))
      (if same (signature_of (method_of_class m)) s then Some k else None)
  unfolding found
  own-next lt is e = one-next lt is
      ∙ ap (λ b. or_next (found (take k ms)) (if b && is_called s.name s.desc (method_of_class m) then Some k
      else None)) e

  pub own-same : k < length ms → m ≡ get_or ms k m → test (method_of_class m) ≡ false
      → position (λ n. test n && is_called s.name s.desc n) (map method_of_class (take (k + 1) ms))
      ≡ position (λ n. test n && is_called s.name s.desc n) (map method_of_class (take k ms))
  unfolding found
  own-same lt is e = one-next lt is
      ∙ ap (λ b. or_next (found (take k ms)) (if b && is_called s.name s.desc (method_of_class m) then Some k
      else None)) e ∙ by (found (take k ms))
    where
      by : (o : Option ℕ) → or_next o None ≡ o
      by None = refl
      by (Some k) = refl

-- ---- whether there is a slot, by its place

pub none-has_slot : (slots : List (Option Signature)) (s : Signature) → token slots s ≡ None → has_slot slots s ≡ false
unfolding token
none-has_slot [] s e = refl
none-has_slot (x ∷ xs) s e = by (holds x s) (position (λ q. holds q s) xs) refl
    (sym (position-cons (λ q. holds q s) x xs) ∙ e) (none-has_slot xs s)
  where
    by : (b : Bool) (o : Option ℕ) → position (λ q. holds q s) xs ≡ o
        → (if b then Some 0 else option_map suc (position (λ q. holds q s) xs)) ≡ None
        → (position (λ q. holds q s) xs ≡ None → has_slot xs s ≡ false) → (b || has_slot xs s) ≡ false
    by true o f g h = absurd cc
    by false None f g h = h f
    by false (Some k) f g h = let i = ap (option_map suc) (sym f) ∙ g in absurd cc

pub some-has_slot : (slots : List (Option Signature)) (s : Signature) (k : ℕ) → token slots s ≡ Some k
    → has_slot slots s ≡ true
unfolding token
some-has_slot [] s k e = absurd cc
some-has_slot (x ∷ xs) s k e = by (holds x s) (position (λ q. holds q s) xs) refl
    (sym (position-cons (λ q. holds q s) x xs) ∙ e) (some-has_slot xs s)
  where
    by : (b : Bool) (o : Option ℕ) → position (λ q. holds q s) xs ≡ o
        → (if b then Some 0 else option_map suc (position (λ q. holds q s) xs)) ≡ Some k
        → ((j : ℕ) → position (λ q. holds q s) xs ≡ Some j → has_slot xs s ≡ true) → (b || has_slot xs s) ≡ true
    by true o f g h = refl
    by false None f g h = let i = ap (option_map suc) (sym f) ∙ g in absurd cc
    by false (Some j) f g h = h j f
