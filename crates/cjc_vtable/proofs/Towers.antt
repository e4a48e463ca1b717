-- Dispatch by token reaches the nearest class that declares or got the method.
use Rattle.std.proofs.Common.{◌≡◌, ℕ, zero, suc, ◌+◌, ◌-◌, ◌<◌, ◌≤◌, refl, sym, ap, ◌∙◌, arith, Bool, true, false, List}
use Rattle.std.proofs.Common.{[], ◌∷◌, ◌++◌, drop, inl, inr, ⊎_elim, length, cond}
use Rattle.std.specs.Prelude.{◌&&◌, ◌⊎◌, not, Option, Some, None, if◌then◌else◌, slice_get, map, option_map}
use Rattle.std.specs.Prelude.{option_to_list, nat_lt, ◌==◌, position}
use Rattle.std.proofs.lemmas.Bool.{eqb-true, eqb-false, eq-eqb}
use Rattle.std.proofs.lemmas.Bool.Decides.{nat_tests}
use Rattle.std.proofs.lemmas.Option.{slice_get-map}
use Rattle.cjc_world.specs.declared.found.Found.{Found}
use Rattle.cjc_world.specs.Classes.{Member, Class}
use Rattle.cjc_world.specs.Lookup.{is_called, first, or_else, member_at}
use Rattle.cjc_tokens.specs.Members.{Signature, signature_of, same, has, signatures, is_shown, is_hidden, is_virtual}
use Rattle.cjc_tokens.specs.Members.{all_methods, In, first_of, later}
use Rattle.cjc_tokens.specs.Lines.{Line, Nowhere, Imported, Declared}
use Rattle.cjc_tokens.specs.Slots.{Slots, new_in, with_new, slots, hidden_slots, own, got, implementing}
use Rattle.cjc_tokens.specs.Slots.{implementing_hidden, meant_by, hidden_row, taken_slots}
use Rattle.cjc_vtable.specs.Tables.{is_own, base, of_package, entries, methods, table_in}
use Rattle.cjc_vtable.specs.Dispatch.{Tower, Missing, Exported, Info, held, at_table, dispatched, dispatched_hidden}
use Rattle.cjc_vtable.specs.Dispatch.{own_by_token}
use Rattle.cjc_vtable.specs.Calls.{IsOneToOne, IsTold, IsProper}
use Rattle.cjc_tokens.proofs.Facts.{same-true, same-refl, position-same, own-at, got-at, has-own_none, has-got_none}
use Rattle.cjc_tokens.proofs.Held.{at_either, new-offered, listed_slot, shown-virtual}
use Rattle.cjc_vtable.proofs.Told.{taken_slots-either}

-- the tables of the classes of a line
abbrev pub tower : List Class → Line → Tower
tower w Nowhere = Missing
tower w (Imported classes) = Exported classes
tower w (Declared c given above) = Info (table_in w (Declared c given above) c) (tower w above)

-- ---- one table

below_base : (class : ℕ) (all : List (Option Found)) (t : ℕ) (o : Option Found) → t < base class all
    → slice_get all t ≡ Some o → is_own class o ≡ false
below_base class [] t o lt e = cc
below_base class (u ∷ all) zero o lt e = by (is_own class u) refl lt
  where
    by : (b : Bool) → is_own class u ≡ b → 0 < cond (not b) (1 + base class all) 0 → is_own class o ≡ false
    by true f lt = absurd (omega arith)
    by false f lt = let is : u ≡ o = cc in ap (is_own class) (sym is) ∙ f
below_base class (u ∷ all) (suc t) o lt e = by (is_own class u) lt (below_base class all t o)
  where
    by : (b : Bool) → suc t < cond (not b) (1 + base class all) 0 → (t < base class all → slice_get all t ≡ Some o
        → is_own class o ≡ false) → is_own class o ≡ false
    by true lt rest = absurd (omega arith)
    by false lt rest = rest (omega arith) e

pub entry_at : {A B : Type 0} (f : A → B) (all : List A) (base t k : ℕ) (x : A) → base + k ≡ t
    → slice_get all t ≡ Some x → slice_get (map f (drop base all)) k ≡ Some (f x)
entry_at f all zero t k x is e =
    let at : k ≡ t = omega arith in
    slice_get-map f all k ∙ ap (λ q. option_map f (slice_get all q)) at ∙ ap (option_map f) e
entry_at f [] (suc base) t k x is e = cc
entry_at f (u ∷ all) (suc base) zero k x is e = absurd (omega arith)
entry_at f (u ∷ all) (suc base) (suc t) k x is e = entry_at f all base t k x (omega arith) e

-- at an entry that is imported the superclass answers the same
held_same : (o : Option Found) → held (Some (of_package o)) o ≡ o
held_same None = refl
held_same (Some f) = by f.imported
  where
    by : (b : Bool) → held (Some (if b then None else Some f)) (Some f) ≡ Some f
    by true = refl
    by false = refl

-- what a class declares is of the package
own_stays : (class : ℕ) (f : Found) → is_own class (Some f) ≡ true → of_package (Some f) ≡ Some f
own_stays class f e = by f.imported e
  where
    by : (b : Bool) → (not b && (f.class == class)) ≡ true → (if b then None else Some f) ≡ Some f
    by true e = cc
    by false e = refl

pub own_at : (c : Class) (i : ℕ) → c.is_imported ≡ false → is_own c.number (Some (member_at c i)) ≡ true
own_at c i e = ap (λ b. not b && (c.number == c.number)) e ∙ eq-eqb c.number c.number refl

-- the method that a slot means
pub row_at : (implements : Signature → Option Found) (all : Slots) (t : ℕ) (s : Signature)
    → slice_get all t ≡ Some (Some s) → slice_get (map (meant_by implements) all) t ≡ Some (implements s)
row_at implements all t s e = slice_get-map (meant_by implements) all t ∙ ap (option_map (meant_by implements)) e

-- A table answers as its class does, where below the base and at 0xFFFF the superclass does.
pub at_table_same : (class : ℕ) (implements : Signature → Option Found) (all : Slots) (t : ℕ) (s : Signature)
    (found above next : Option Found)
    → slice_get all t ≡ Some (Some s)
    → implements s ≡ or_else found above
    → ((f : Found) → found ≡ Some f → is_own class (Some f) ≡ true)
    → (found ≡ None → next ≡ above)
    → at_table (base class (map (meant_by implements) all)) (entries class (map (meant_by implements) all)) t next
    ≡ implements s
at_table_same class implements all t s (Some f) above next e is declared onward =
    by (nat_lt t (base class (map (meant_by implements) all))) refl
  where
    by : (b : Bool) → nat_lt t (base class (map (meant_by implements) all)) ≡ b
        → (if b then next else held (slice_get (entries class (map (meant_by implements) all))
        (t - base class (map (meant_by implements) all))) next) ≡ implements s
    by true g =
        let lt : t < base class (map (meant_by implements) all) = grind (arith, nat_tests) in
        let none = below_base class (map (meant_by implements) all) t (implements s) lt (row_at implements all t s e) in
        let some = declared f refl in
        let both : is_own class (Some f) ≡ false = ap (is_own class) (sym is) ∙ none in
        cc
    by false g =
        let le : base class (map (meant_by implements) all) ≤ t = grind (arith, nat_tests) in
        let at = entry_at of_package (map (meant_by implements) all) (base class (map (meant_by implements) all)) t
        (t - base class (map (meant_by implements) all)) (implements s) (omega arith) (row_at implements all t s e)
        in
        ap (λ q. held q next) at ∙ ap (λ q. held (Some (of_package q)) next) is
        ∙ ap (λ q. held (Some q) next) (own_stays class f (declared f refl)) ∙ sym is
at_table_same class implements all t s None above next e is declared onward =
    by (nat_lt t (base class (map (meant_by implements) all))) refl
  where
    same_above : next ≡ implements s
    same_above = onward refl ∙ sym is

    by : (b : Bool) → nat_lt t (base class (map (meant_by implements) all)) ≡ b
        → (if b then next else held (slice_get (entries class (map (meant_by implements) all))
        (t - base class (map (meant_by implements) all))) next) ≡ implements s
    by true g = same_above
    by false g =
        let le : base class (map (meant_by implements) all) ≤ t = grind (arith, nat_tests) in
        let at = entry_at of_package (map (meant_by implements) all) (base class (map (meant_by implements) all)) t
        (t - base class (map (meant_by implements) all)) (implements s) (omega arith) (row_at implements all t s e)
        in
        ap (λ q. held q next) at ∙ ap (λ q. held (Some (of_package (implements s))) q) same_above
        ∙ held_same (implements s)

-- ---- a class's own methods and its slots

-- a slot is the superclass's, or the class declares or got its method
above_or_declared : (c : Class) (given : List Member) (above : Line) (t : ℕ) (s : Signature)
    → slice_get (slots (Declared c given above)) t ≡ Some (Some s)
    → (slice_get (slots above) t ≡ Some (Some s)) ⊎ ((has (signatures is_shown c.methods) s ≡ true)
    ⊎ (has (map signature_of given) s ≡ true))
above_or_declared c given above t s e =
    let declared = signatures is_shown c.methods in
    let old = taken_slots c above (slots above) in
    let all = with_new old declared in
    ⊎_elim
    (λ front. ⊎_elim (λ h. ⊎_elim (λ k. inl k) (λ k. inr (inl k)) (taken_slots-either c above (slots above) t s h))
    (λ h. inr (inl (new-offered old declared s h))) (at_either old (new_in old declared) t s front))
    (λ h. inr (inr (new-offered all (map signature_of given) s h)))
    (at_either all (new_in all (map signature_of given)) t s e)

-- what the class declares or got is its own
pub declared-own : (c : Class) (given : List Member) (s : Signature) (f : Found) → c.is_imported ≡ false
    → or_else (own is_shown s c) (got given s c) ≡ Some f → is_own c.number (Some f) ≡ true
declared-own c given s f plain e = by (own is_shown s c) (got given s c) refl refl e
  where
    by : (o p : Option Found) → own is_shown s c ≡ o → got given s c ≡ p → or_else o p ≡ Some f
        → is_own c.number (Some f) ≡ true
    by (Some g) p h k e =
        let a = own-at is_shown s c g h in
        let is : g ≡ f = cc in
        ap (λ q. is_own c.number (Some q)) (sym is ∙ a.1) ∙ own_at c a.0 plain
    by None (Some g) h k e =
        let a = got-at given s c g k in
        let is : g ≡ f = cc in
        ap (λ q. is_own c.number (Some q)) (sym is ∙ a.1) ∙ own_at c a.0 plain
    by None None h k e = cc

declared-none : (c : Class) (given : List Member) (s : Signature) → or_else (own is_shown s c) (got given s c) ≡ None
    → (has (signatures is_shown c.methods) s ≡ true) ⊎ (has (map signature_of given) s ≡ true) → ⊥
declared-none c given s e either = by (own is_shown s c) (got given s c) refl refl e
  where
    by : (o p : Option Found) → own is_shown s c ≡ o → got given s c ≡ p → or_else o p ≡ None → ⊥
    by (Some g) p h k e = cc
    by None (Some g) h k e = cc
    by None None h k e = let a = has-own_none is_shown s c h in let b = has-got_none given s c k
        in ⊎_elim (λ yes'. cc) (λ yes'. cc) either

or_else_regroup : (a b c : Option Found) → or_else a (or_else b c) ≡ or_else (or_else a b) c
or_else_regroup None b c = refl
or_else_regroup (Some f) b c = refl

-- ---- an imported class

-- going upwards, the first with the token is the first of the signature
pub by_token : (classes : List Class) (all : List Member) (m : Member) (t : ℕ) (s : Signature) → IsOneToOne all
    → In m all → is_virtual m ≡ true → m.token ≡ t → signature_of m ≡ s → ((n : Member) → In n (all_methods classes)
    → In n all) → first (own_by_token t) classes ≡ first (own is_virtual s) classes
unfolding first own own_by_token
by_token [] all m t s told i v at is sub = refl
by_token (c ∷ classes) all m t s told i v at is sub =
    ap (λ o. or_else (option_map (λ k. member_at c (length c.fields + k)) o) (first (own_by_token t) classes))
    (position-same (λ n. is_virtual n && (n.token == t)) (λ n. is_virtual n && is_called s.name s.desc n) c.methods
    (λ n j. tests n (sub n (front n c.methods (all_methods classes) j))))
    ∙ ap (λ o. or_else (option_map (λ k. member_at c (length c.fields + k)) (position (λ n. is_virtual n
    && is_called s.name s.desc n) c.methods)) o) (by_token classes all m t s told i v at is
    (λ n j. sub n (behind n c.methods (all_methods classes) j)))
  where
    front : (n : Member) (a b : List Member) → In n a → In n (a ++ b)
    front n [] b i = elim i [ ]
    front n (k ∷ a) b first_of = first_of
    front n (k ∷ a) b (later i) = later (front n a b i)

    behind : (n : Member) (a b : List Member) → In n b → In n (a ++ b)
    behind n [] b i = i
    behind n (k ∷ a) b i = later (behind n a b i)

    tests : (n : Member) → In n all → (is_virtual n && (n.token == t)) ≡ (is_virtual n && is_called s.name s.desc n)
    tests n j = by (is_virtual n) refl
      where
        by : (b : Bool) → is_virtual n ≡ b → (b && (n.token == t)) ≡ (b && is_called s.name s.desc n)
        by false f = refl
        by true f = at_once (n.token == t) (is_called s.name s.desc n) refl refl
          where
            at_once : (x y : Bool) → (n.token == t) ≡ x → is_called s.name s.desc n ≡ y → x ≡ y
            at_once true true g h = refl
            at_once false false g h = refl
            at_once true false g h =
                let one = (told n m j i f v).0 (eqb-true n.token t g ∙ sym at) ∙ is in
                let yes' : same (signature_of n) s ≡ true = ap (λ q. same q s) one ∙ same-refl s in
                cc
            at_once false true g h =
                let one = (told n m j i f v).1 (same-true (signature_of n) s h ∙ sym is) in
                absurd (eqb-false n.token t g (one ∙ at))

-- ---- Dispatch by a public token.
pub dispatched-slot : (w : List Class) (line : Line) (t : ℕ) (s : Signature) → IsTold line → IsProper line
    → slice_get (slots line) t ≡ Some (Some s) → dispatched (tower w line) t ≡ implementing line s
dispatched-slot w Nowhere t s told proper e = cc
dispatched-slot w (Imported classes) t s told proper e =
    let m = listed_slot (all_methods classes) t s e in
    by_token classes (all_methods classes) m.0 t s told m.1 (shown-virtual m.0 m.2) m.3 m.4 (λ n j. j)
dispatched-slot w (Declared c given above) t s told proper e =
    at_table_same c.number (implementing (Declared c given above)) (slots (Declared c given above)) t s
    (or_else (own is_shown s c) (got given s c)) (implementing above s) (dispatched (tower w above) t)
    e (or_else_regroup (own is_shown s c) (got given s c) (implementing above s))
    (λ f h. declared-own c given s f proper.0 h)
    (λ none. ⊎_elim
    (λ h. dispatched-slot w above t s told proper.2 h)
    (λ h. absurd (declared-none c given s none h))
    (above_or_declared c given above t s e))

-- ---- Dispatch by a package-visible token.

-- a package-visible slot is of some signature
hidden_slot_some : (line : Line) (t : ℕ) (o : Option Signature) → slice_get (hidden_slots line) t ≡ Some o
    → (s : Signature) × (o ≡ Some s)
hidden_slot_some Nowhere t o e = cc
hidden_slot_some (Imported classes) t o e = cc
hidden_slot_some (Declared c given above) t o e =
    split (hidden_slots above) (new_in (hidden_slots above) (signatures is_hidden c.methods)) t e
    (λ k h. hidden_slot_some above k o h)
  where
    split : (front : Slots) (ss : List Signature) (k : ℕ) → slice_get (front ++ map Some ss) k ≡ Some o
        → ((j : ℕ) → slice_get front j ≡ Some o → (s : Signature) × (o ≡ Some s)) → (s : Signature) × (o ≡ Some s)
    split [] [] k e rest = cc
    split [] (u ∷ ss) zero e rest = (u, cc)
    split [] (u ∷ ss) (suc k) e rest = split [] ss k e (λ j h. cc)
    split (q ∷ front) ss zero e rest = rest zero e
    split (q ∷ front) ss (suc k) e rest = split front ss k e (λ j h. rest (suc j) h)

hidden_or_above : (c : Class) (above : Line) (t : ℕ) (s : Signature)
    → slice_get (with_new (hidden_slots above) (signatures is_hidden c.methods)) t ≡ Some (Some s)
    → (slice_get (hidden_slots above) t ≡ Some (Some s)) ⊎ (has (signatures is_hidden c.methods) s ≡ true)
hidden_or_above c above t s e =
    ⊎_elim (λ h. inl h) (λ h. inr (new-offered (hidden_slots above) (signatures is_hidden c.methods) s h))
    (at_either (hidden_slots above) (new_in (hidden_slots above) (signatures is_hidden c.methods)) t s e)

-- some class of the package declares its method
pub hidden_there : (line : Line) (t : ℕ) (s : Signature) → IsProper line → slice_get (hidden_slots line) t
    ≡ Some (Some s) → (f : Found) × (implementing_hidden line s ≡ Some f) × (f.imported ≡ false)
hidden_there Nowhere t s proper e = cc
hidden_there (Imported classes) t s proper e = cc
hidden_there (Declared c given above) t s proper e = by (own is_hidden s c) refl (λ k. hidden_there above t s proper.2
    k)
  where
    by : (o : Option Found) → own is_hidden s c ≡ o → (slice_get (hidden_slots above) t ≡ Some (Some s) → (f : Found)
        × (implementing_hidden above s ≡ Some f) × (f.imported ≡ false)) → (f : Found)
        × (or_else o (implementing_hidden above s) ≡ Some f) × (f.imported ≡ false)
    by (Some f) h rest = let a = own-at is_hidden s c f h in (f, refl, ap (λ (q : Found). q.imported) a.1 ∙ proper.0)
    by None h rest = ⊎_elim rest (λ k. let no = has-own_none is_hidden s c h in cc) (hidden_or_above c above t s e)

-- the methods of a list that has one at each place
methods_at : (os : List (Option Found)) (k : ℕ) (f : Found) → ((j : ℕ) (o : Option Found) → slice_get os j ≡ Some o
    → (g : Found) × (o ≡ Some g)) → slice_get os k ≡ Some (Some f) → slice_get (methods os) k ≡ Some f
methods_at [] k f there e = cc
methods_at (o ∷ os) k f there e = by o (there zero o refl) k e (λ j h. methods_at os j f (λ i p q. there (suc i) p q) h)
  where
    by : (o : Option Found) → (g : Found) × (o ≡ Some g) → (k : ℕ) → slice_get (o ∷ os) k ≡ Some (Some f)
        → ((j : ℕ) → slice_get os j ≡ Some (Some f) → slice_get (methods os) j ≡ Some f)
        → slice_get (option_to_list o ++ methods os) k ≡ Some f
    by None g k e rest = let no = g.1 in cc
    by (Some h) g zero e rest = cc
    by (Some h) g (suc k) e rest = rest k e

-- each entry of a package table is a method
entries_there : (w : List Class) (line : Line) (class : ℕ) → IsProper line → (j : ℕ) (o : Option Found)
    → slice_get (entries class (hidden_row line)) j ≡ Some o → (g : Found) × (o ≡ Some g)
entries_there w line class proper j o e = by (slice_get (hidden_slots line) (base class (hidden_row line) + j)) refl
  where
    past : {A B : Type 0} (f : A → B) (all : List A) (b j : ℕ) → slice_get all (b + j) ≡ None
        → slice_get (map f (drop b all)) j ≡ None
    past f all zero j e = let at : j ≡ 0 + j = omega arith in slice_get-map f all j
        ∙ ap (λ q. option_map f (slice_get all q)) at ∙ ap (option_map f) e
    past f [] (suc b) j e = refl
    past f (u ∷ all) (suc b) j e = let at : suc b + j ≡ suc (b + j) = omega arith
        in past f all b j (ap (slice_get (u ∷ all)) (sym at) ∙ e)

    by : (q : Option (Option Signature)) → slice_get (hidden_slots line) (base class (hidden_row line) + j) ≡ q
        → (g : Found) × (o ≡ Some g)
    by None h =
        let none = past of_package (hidden_row line) (base class (hidden_row line)) j
        (slice_get-map (meant_by (implementing_hidden line)) (hidden_slots line) (base class (hidden_row line) + j)
        ∙ ap (option_map (meant_by (implementing_hidden line))) h) in
        cc
    by (Some slot) h =
        let s = hidden_slot_some line (base class (hidden_row line) + j) slot h in
        let h' : slice_get (hidden_slots line) (base class (hidden_row line) + j) ≡ Some (Some s.0) = h ∙ ap Some s.1 in
        let f = hidden_there line (base class (hidden_row line) + j) s.0 proper h' in
        let at = entry_at of_package (hidden_row line) (base class (hidden_row line)) (base class (hidden_row line) + j)
        j (implementing_hidden line s.0) refl (row_at (implementing_hidden line) (hidden_slots line)
        (base class (hidden_row line) + j) s.0 h') in
        let stays : of_package (implementing_hidden line s.0) ≡ Some f.0 = ap of_package f.1 ∙ ap (λ b. if b then None
        else Some f.0) f.2 in
        (f.0, one (sym e ∙ at) ∙ stays)
      where
        one : {A : Type 0} {x y : A} → Some x ≡ Some y → x ≡ y
        one e = cc

pub dispatched-hidden_slot : (w : List Class) (line : Line) (t : ℕ) (s : Signature) → IsProper line
    → slice_get (hidden_slots line) t ≡ Some (Some s) → dispatched_hidden (tower w line) t ≡ implementing_hidden line s
dispatched-hidden_slot w Nowhere t s proper e = cc
dispatched-hidden_slot w (Imported classes) t s proper e = cc
dispatched-hidden_slot w (Declared c given above) t s proper e =
    by (nat_lt t (base c.number (hidden_row (Declared c given above)))) refl (λ k. dispatched-hidden_slot w above t s
    proper.2 k)
  where
    below : nat_lt t (base c.number (hidden_row (Declared c given above))) ≡ true → (o : Option Found)
        → own is_hidden s c ≡ o → (slice_get (hidden_slots above) t ≡ Some (Some s)
        → dispatched_hidden (tower w above) t ≡ implementing_hidden above s) → dispatched_hidden (tower w above) t
        ≡ or_else o (implementing_hidden above s)
    below g None h rest = ⊎_elim rest (λ k. let no = has-own_none is_hidden s c h in cc) (hidden_or_above c above t s e)
    below g (Some f) h rest =
        let lt : t < base c.number (hidden_row (Declared c given above)) = grind (arith, nat_tests) in
        let none = below_base c.number (hidden_row (Declared c given above)) t (or_else (own is_hidden s c)
        (implementing_hidden above s)) lt (row_at (implementing_hidden (Declared c given above))
        (hidden_slots (Declared c given above)) t s e) in
        let a = own-at is_hidden s c f h in
        let some : is_own c.number (Some f) ≡ true = ap (λ q. is_own c.number (Some q)) a.1 ∙ own_at c a.0 proper.0 in
        let both : is_own c.number (Some f) ≡ false =
        ap (λ q. is_own c.number (or_else q (implementing_hidden above s))) (sym h) ∙ none in
        cc

    by : (q : Bool) → nat_lt t (base c.number (hidden_row (Declared c given above))) ≡ q
        → (slice_get (hidden_slots above) t ≡ Some (Some s) → dispatched_hidden (tower w above) t
        ≡ implementing_hidden above s) → (if q then dispatched_hidden (tower w above) t
        else slice_get (methods (entries c.number (hidden_row (Declared c given above))))
        (t - base c.number (hidden_row (Declared c given above)))) ≡ implementing_hidden (Declared c given above) s
    by true g rest = below g (own is_hidden s c) refl rest
    by false g rest =
        let le : base c.number (hidden_row (Declared c given above)) ≤ t = grind (arith, nat_tests) in
        let f = hidden_there (Declared c given above) t s proper e in
        let at = entry_at of_package (hidden_row (Declared c given above))
        (base c.number (hidden_row (Declared c given above))) t
        (t - base c.number (hidden_row (Declared c given above))) (implementing_hidden (Declared c given above) s)
        (omega arith) (row_at (implementing_hidden (Declared c given above)) (hidden_slots (Declared c given above))
        t s e) in
        let stays : of_package (implementing_hidden (Declared c given above) s) ≡ Some f.0 = ap of_package f.1
        ∙ ap (λ b. if b then None else Some f.0) f.2 in
        methods_at (entries c.number (hidden_row (Declared c given above)))
        (t - base c.number (hidden_row (Declared c given above))) f.0 (entries_there w (Declared c given above)
        c.number proper) (at ∙ ap Some stays) ∙ sym f.1
