-- A package-visible method that an imported class lists, in a class of the package below it: no slot there has its
-- token
-- and another signature, and none its signature and another token (rule 305).
use Rattle.std.proofs.Common.{◌≡◌, ℕ, zero, suc, ◌<◌, ◌≤◌, refl, sym, ap, subst, ◌∙◌, arith, Bool, true, false, List}
use Rattle.std.proofs.Common.{[]}
use Rattle.std.proofs.Common.{◌∷◌, ◌++◌, length, map, inl, inr, ⊎_elim}
use Rattle.std.specs.Prelude.{◌⊎◌, not, ◌&&◌, ◌||◌, Option, Some, None, slice_get, if◌then◌else◌}
use Rattle.std.proofs.lemmas.Option.{slice_get_within}
use Rattle.cjc_bytes.specs.AccessFlags.{is_interface, is_private, is_static}
use Rattle.cjc_bytes.specs.declared.settings.Settings.{Settings}
use Rattle.cjc_bytes.proofs.Bools.{both_front, hidden_closed}
use Rattle.cjc_bytes.proofs.Gets.{in_front}
use Rattle.cjc_bytes.proofs.Plain.{no_both}
use Rattle.cjc_components.specs.Bytecode.declared.method_code.MethodCode.{MethodCode}
use Rattle.cjc_token_proof.specs.Subset.Checks.{check_breaks}
use Rattle.cjc_theorem.proofs.AlikeLaws.VirtualCalls.Chosen.{has_methods}
use Rattle.cjc_theorem.proofs.AlikeLaws.VirtualCalls.Hidden.{gets_none}
use Rattle.cjc_tokens.proofs.Facts.{chosen-In, chosen-passes, chosen-some}
use Rattle.cjc_tokens.proofs.Held.{at_either, listed_slot, new-offered}
use Rattle.cjc_tokens.proofs.Held.{shown-virtual}
use Rattle.cjc_tokens.specs.Lines.{Declared, Imported, line_in, line_of}
use Rattle.cjc_tokens.specs.Members.{In, Signature, all_methods, has, is_exposed, is_hidden, is_shown}
use Rattle.cjc_tokens.specs.Members.{is_virtual, signature_of, signatures}
use Rattle.cjc_tokens.specs.Slots.{Slots, listed_slots, new_in, reserve, slots, with_new}
use Rattle.cjc_vtable.proofs.Agrees.{hidden-virtual, virtual_plain}
use Rattle.cjc_vtable.proofs.Calls.{In-behind, In-front}
use Rattle.cjc_vtable.proofs.Told.{told-slots}
use Rattle.cjc_vtable.proofs.Worlds.{line_of-declared, told-class}
use Rattle.cjc_vtable.specs.Calls.{IsOneToOne, is_special}
use Rattle.cjc_vtable.specs.Laws.{KeepsRules}
use Rattle.cjc_vtable.proofs.Sent.{In-used}
use Rattle.cjc_world.proofs.Cycles.{class_named-name}
use Rattle.cjc_world.proofs.Settled.{AreSupertypes-one, supertypes-AreSupertypes, supertypes-known}
use Rattle.cjc_world.proofs.UpwardLaws.Lines.{line_begins, line_listed, line_named}
use Rattle.cjc_world.specs.Added.{added}
use Rattle.cjc_world.specs.Classes.{Class, Member, all_classes, class_named}
use Rattle.cjc_world.specs.Files.{Files}
use Rattle.cjc_world.specs.Supertypes.{Lists, after, foremost, supertypes, upwards}
use Rattle.cjc_world.specs.Upwards.{OnLine, here, up}

-- ---- slots

-- no slot has the method's token and another signature, or its signature and another token
pub record IsAlone (all : Slots) (m : Member) : Type 0 where
  pub used : (o : Option Signature) × (slice_get all m.token ≡ Some o)
  pub alone : (t : ℕ) (s : Signature) → slice_get all t ≡ Some (Some s) → (t ≡ m.token → s ≡ signature_of m)
      × (s ≡ signature_of m → t ≡ m.token)

reserved : (t : ℕ) (all : Slots) → (o : Option Signature) × (slice_get (reserve t all) t ≡ Some o)
reserved zero [] = (None, refl)
reserved zero (slot ∷ all) = (slot, refl)
reserved (suc t) [] = reserved t []
reserved (suc t) (slot ∷ all) = reserved t all

-- among imported methods that do not contradict one another
listed_alone : (ms : List Member) (m : Member) → IsOneToOne ms → In m ms → is_virtual m ≡ true
    → IsAlone (listed_slots ms) m
listed_alone ms m told i virtual = record {
  used = In-used ms m i virtual;
  alone = λ t s e.
      let n = listed_slot ms t s e in
      let r = told n.0 m n.1 i (shown-virtual n.0 n.2) virtual in (
        λ same. sym n.4 ∙ r.0 (n.3 ∙ same),
        λ same. sym n.3 ∙ r.1 (n.4 ∙ same),
      );
}

-- what stands at a place of slots with new ones stood there, or is new and stands behind them
at_or_new : (all : Slots) (ss : List Signature) (t : ℕ) (s : Signature) → slice_get (all ++ map Some ss) t
    ≡ Some (Some s) → (slice_get all t ≡ Some (Some s)) ⊎ ((length all ≤ t) × (has ss s ≡ true))
at_or_new [] ss t s e = ⊎_elim (λ h. inl h) (λ h. inr (omega arith, h)) (at_either [] ss t s e)
at_or_new (slot ∷ all) ss zero s e = inl e
at_or_new (slot ∷ all) ss (suc t) s e = ⊎_elim (λ h. inl h) (λ h. let le = h.0 in inr (omega (arith, le), h.1))
    (at_or_new all ss t s e)

-- with slots for signatures of which none is the method's
new_alone : (all : Slots) (ss : List Signature) (m : Member) → IsAlone all m → ((s : Signature) → has ss s ≡ true
    → s ≡ signature_of m → ⊥) → IsAlone (with_new all ss) m
new_alone all ss m is other = record {
  used = (
    is.used.0,
    in_front all (map Some (new_in all ss)) m.token is.used.0 is.used.1,
  );
  alone = λ t s e. ⊎_elim
      (λ h. is.alone t s h)
      (λ h.
      let within = slice_get_within all m.token is.used.0 is.used.1 in
      let far = h.0 in (
        λ same. absurd (beyond t m.token (length all) same far within),
        λ same. absurd (other s (new-offered all ss s h.1) same),
      ))
      (at_or_new all (new_in all ss) t s e);
}
  where
    beyond : (t k n : ℕ) → t ≡ k → n ≤ t → k < n → ⊥
    beyond t k n same far within = omega (arith, same, far, within)

-- ---- access

pub only_name : (x y : List ℕ) → Lists y (x ∷ []) → y ≡ x
only_name x _ foremost = refl
only_name x y (after l) = elim l [ ]

not_private : (m : Member) → is_virtual m ≡ true → is_private m.flags ≡ false
not_private m e = by (is_private m.flags) (is_static m.flags) (is_special (signature_of m)) e
  where
    by : (q s c : Bool) → ((not q && not s) && not c) ≡ true → q ≡ false
    by true s c e = cc
    by false s c e = refl

-- a public or protected method over a package-visible one
open_over : (v a b q : Bool) → a ≡ true → b ≡ false → q ≡ false → (((not a && not v) && b)
    || (a && (not b && not q))) ≡ false → ⊥
open_over v true false false e f g h = cc
open_over v false b q e f g h = cc
open_over v true true q e f g h = cc
open_over v true false true e f g h = cc

-- ---- a world

module _ (list : List ℕ) (files : Files) (codes : List MethodCode) (settings : Settings) (unbroken : check_breaks list
    files codes settings ≡ []) (rules : KeepsRules (all_classes files)) where
  abbrev w : List Class
  w = all_classes files

  abbrev Plain : List ℕ → Type 0
  Plain x = (c : Class) → class_named w x ≡ Some c → is_interface c.flags ≡ false

  same_class : {c d : Class} → Some c ≡ Some d → c ≡ d
  same_class e = cc

  line_imported : (x : List ℕ) (c : Class) → class_named w x ≡ Some c → c.is_imported ≡ true
      → line_of w x ≡ Imported (c ∷ upwards (supertypes w c.supers))
  line_imported x c e f = ap (line_in w) (supertypes-known w rules.acyclic x c e)
      ∙ ap (λ b. if b then Imported (c ∷ upwards (supertypes w c.supers))
      else Declared c (added w c) (line_in w (supertypes w c.supers))) f

  -- a class of the package lists one superclass
  line_up : (x y : List ℕ) (c : Class) → class_named w x ≡ Some c → c.is_imported ≡ false → Lists y c.supers
      → line_of w x ≡ Declared c (added w c) (line_of w y)
  line_up x y c e own l =
      let s = rules.single x c e own in
      let at : y ≡ s.0 = only_name s.0 y (subst (Lists y) s.1 l) in
      line_of-declared w (supertypes-AreSupertypes w rules.acyclic) (AreSupertypes-one w) rules x c e own
      ∙ ap (λ q. Declared c (added w c) (line_in w (supertypes w q))) (s.1 ∙ ap (λ q. q ∷ []) (sym at))

  above_in : (y : List ℕ) (c d : Class) (m : Member) → Lists y c.supers → OnLine w y d → In m d.methods
      → In m (all_methods (upwards (supertypes w c.supers)))
  above_in y c d m l on i = has_methods d (upwards (supertypes w c.supers)) m (line_listed w y c.supers
      (supertypes w c.supers) d (supertypes-AreSupertypes w rules.acyclic c.supers) l on) i

  -- a method of a class at or above another
  in_full : (x : List ℕ) (c d : Class) (m : Member) → class_named w x ≡ Some c → OnLine w x d → In m d.methods
      → In m (c.methods ++ all_methods (upwards (supertypes w c.supers)))
  in_full x c d m e (here f) i = In-front m c.methods (all_methods (upwards (supertypes w c.supers)))
      (subst (λ (b : Class). In m b.methods) (same_class (sym f ∙ e)) i)
  in_full x c d m e (up {s = s} b f l rest) i = In-behind m c.methods (all_methods (upwards (supertypes w c.supers)))
      (above_in s c d m (subst (λ (q : Class). Lists s q.supers) (same_class (sym f ∙ e)) l) rest i)

  -- a class that is no interface has none as a superclass
  plain_up : (x y : List ℕ) (c : Class) → class_named w x ≡ Some c → Lists y c.supers → Plain y
  plain_up x y c e l d f = rules.superclasses x y c d e l f

  pub hidden_alone : (x : List ℕ) (d : Class) (m : Member) → OnLine w x d → Plain x → d.is_imported ≡ true
      → In m d.methods → is_hidden m ≡ true → IsAlone (slots (line_of w x)) m
  hidden_alone x d m (here e) plain far i hid =
      subst (λ l. IsAlone (slots l) m) (sym (line_imported x d e far))
      (listed_alone (all_methods (d ∷ upwards (supertypes w d.supers))) m (rules.told x d e far (plain d e))
      (In-front m d.methods (all_methods (upwards (supertypes w d.supers))) i) (hidden-virtual m hid))
  hidden_alone x d m (up {s = y} c e l rest) plain far i hid =
      by c.is_imported refl (hidden_alone y d m rest (plain_up x y c e l) far i hid)
    where
      all_above : In m (all_methods (upwards (supertypes w c.supers)))
      all_above = above_in y c d m l rest i

      virtual : is_virtual m ≡ true
      virtual = hidden-virtual m hid

      closed : is_exposed m.flags ≡ false
      closed = hidden_closed (is_exposed m.flags) (is_virtual m) hid

      -- a public or protected method of the class is another
      no_shown : c.is_imported ≡ false → (s : Signature) → has (signatures is_shown c.methods) s ≡ true
          → s ≡ signature_of m → ⊥
      no_shown own s h same =
          let n = chosen-some is_shown s c.methods h in
          let is = chosen-passes is_shown s c.methods n.0 n.1 in
          let k = n.0 in
          open_over (is_private k.flags) (is_exposed k.flags) (is_exposed m.flags) (is_private m.flags)
          (both_front (is_exposed k.flags) (is_virtual k) is.1) closed (not_private m virtual)
          (rules.access x c k m e own (chosen-In is_shown s c.methods k n.1) all_above (is.0 ∙ same)
          (ap is_special (is.0 ∙ same) ∙ virtual_plain m virtual))

      -- and so is one that the class got
      no_given : c.is_imported ≡ false → (s : Signature) → has (map signature_of (added w c)) s ≡ true
          → s ≡ signature_of m → ⊥
      no_given own s h same =
          let name : c.name ≡ x = class_named-name w x c e in
          gets_none list files codes settings unbroken rules.acyclic c d m s (ap (class_named w) name ∙ e) own
          (line_named w y d rest) far (up c (ap (class_named w) name ∙ e) l rest) h i (sym same) closed
          (not_private m virtual)

      by : (b : Bool) → c.is_imported ≡ b → IsAlone (slots (line_of w y)) m → IsAlone (slots (line_of w x)) m
      by true f is =
          subst (λ q. IsAlone (slots q) m) (sym (line_imported x c e f))
          (listed_alone (all_methods (c ∷ upwards (supertypes w c.supers))) m (rules.told x c e f (plain c e))
          (In-behind m c.methods (all_methods (upwards (supertypes w c.supers))) all_above) virtual)
      by false f is =
          let above = line_of w y in
          let told = told-class w (supertypes-AreSupertypes w rules.acyclic) (AreSupertypes-one w) rules y
          (line_begins w y d rest).0 (line_begins w y d rest).1
          (λ g. plain_up x y c e l (line_begins w y d rest).0 (line_begins w y d rest).1) in
          let first = with_new (slots above) (signatures is_shown c.methods) in
          subst (λ q. IsAlone (slots q) m) (sym (line_up x y c e f l))
          (subst (λ q. IsAlone q m) (sym (told-slots c (added w c) above told))
          (new_alone first (map signature_of (added w c)) m (new_alone (slots above) (signatures is_shown c.methods) m
          is (no_shown f)) (no_given f)))

  -- two methods of imported classes on one line do not contradict one another
  pub both_told : (x : List ℕ) (d b : Class) (m n : Member) → OnLine w x d → OnLine w x b → Plain x
      → d.is_imported ≡ true → b.is_imported ≡ true → In m d.methods → In n b.methods → is_virtual m ≡ true
      → is_virtual n ≡ true → (m.token ≡ n.token → signature_of m ≡ signature_of n)
      × (signature_of m ≡ signature_of n → m.token ≡ n.token)
  both_told x d b m n (here e) on plain far further i j virtual other =
      rules.told x d e far (plain d e) m n (in_full x d d m e (here e) i) (in_full x d b n e on j) virtual other
  both_told x d b m n (up {s = y} c e l rest) on plain far further i j virtual other = by c.is_imported refl
      (λ o. both_told y d b m n rest o (plain_up x y c e l) far further i j virtual other)
    where
      by : (q : Bool) → c.is_imported ≡ q → (OnLine w y b → (m.token ≡ n.token → signature_of m ≡ signature_of n)
          × (signature_of m ≡ signature_of n → m.token ≡ n.token))
          → (m.token ≡ n.token → signature_of m ≡ signature_of n)
          × (signature_of m ≡ signature_of n → m.token ≡ n.token)
      by true f above = rules.told x c e f (plain c e) m n (in_full x c d m e (up c e l rest) i) (in_full x c b n e on
          j) virtual other
      by false f above = above (next on)
        where
          next : OnLine w x b → OnLine w y b
          next (here g) = no_both (sym further ∙ ap (λ (v : Class). v.is_imported) (same_class (sym g ∙ e)) ∙ f)
          next (up {s = z} a g k more) =
              let is : a ≡ c = same_class (sym g ∙ e) in
              let s = rules.single x c e f in
              let one_y : y ≡ s.0 = only_name s.0 y (subst (Lists y) s.1 l) in
              let one_z : z ≡ s.0 = only_name s.0 z (subst (Lists z) s.1 (subst (λ (v : Class). Lists z v.supers) is k))
              in
              subst (λ v. OnLine w v b) (one_z ∙ sym one_y) more
