-- Slots that methods of a class take from its superclass.
use Rattle.std.proofs.Common.{◌≡◌, ℕ, zero, suc, ◌<◌, refl, sym, ap, ◌∙◌, arith, Bool, true, false, List, [], ◌∷◌}
use Rattle.std.proofs.Common.{◌++◌, length, get_or, set}
use Rattle.std.proofs.lemmas.List.{map-set}
use Rattle.std.specs.Prelude.{◌||◌, map, Option, Some, if◌then◌else◌, option_map}
use Rattle.cjc_world.specs.ClassFile.declared.tree.MethodTree.{MethodTree}
use Rattle.cjc_world.specs.declared.found.Found.{Found}
use Rattle.cjc_world.specs.Classes.{Member, method_of_class}
use Rattle.cjc_tokens.specs.declared.slot.Slot.{Slot}
use Rattle.cjc_tokens.specs.Members.{Signature, signature_of, same, has, signatures}
use Rattle.cjc_tokens.specs.Slots.{Slots, meant_by, with_all_taken, with_taken}
use Rattle.cjc_tokens.specs.Working.{AreMeant, Taken, meant, signature_in, signs}
use Rattle.cjc_tokens.proofs.Facts.{same-refl}

abbrev pub signature : (name desc : List ℕ) → Signature
signature n d = record { name = n; desc = d }

-- ---- one signature more

pub taken-more : (listed : Signature → Option ℕ) (methods : List (Option Found)) (ss : List Signature) (s : Signature)
    (all : Slots) → with_all_taken listed methods (ss ++ s ∷ []) all ≡ with_taken (listed s) methods s
    (with_all_taken listed methods ss all)
taken-more listed methods [] s all = refl
taken-more listed methods (u ∷ ss) s all = taken-more listed methods ss s (with_taken (listed u) methods u all)

pub takes-more : (listed : Signature → Option ℕ) (methods : List (Option Found)) (ss : List Signature) (s : Signature)
    (implements : Signature → Option Found) (old row new : List (Option Slot))
    → Taken listed methods ss implements old row
    → signs new ≡ with_taken (listed s) methods s (signs row)
    → (AreMeant implements row → AreMeant implements new)
    → Taken listed methods (ss ++ s ∷ []) implements old new
takes-more listed methods ss s implements old row new t slots_are meant_are = record {
  slots = slots_are ∙ ap (with_taken (listed s) methods s) t.slots ∙ sym (taken-more listed methods ss s (signs old));
  methods = λ a. meant_are (t.methods a);
}

-- ---- a slot that is written

pub meant-set : (implements : Signature → Option Found) (row : List (Option Slot)) (t : ℕ) (slot : Slot)
    → slot.method ≡ implements (signature_in slot) → AreMeant implements row → AreMeant implements
    (set row t (Some slot))
meant-set implements row t slot is a =
    map-set meant row t (Some slot)
    ∙ ap (λ q. set q t slot.method) a
    ∙ ap (λ o. set (map (meant_by implements) (signs row)) t o) is
    ∙ sym (map-set (meant_by implements) (signs row) t (Some (signature_in slot)))
    ∙ ap (map (meant_by implements)) (sym (map-set (option_map signature_in) row t (Some slot)))

-- ---- a method at a place is one of those that pass

pub has-there : (test : Member → Bool) (ms : List MethodTree) (i : ℕ) (m : MethodTree) → i < length ms
    → m ≡ get_or ms i m → test (method_of_class m) ≡ true
    → has (signatures test (map method_of_class ms)) (signature_of (method_of_class m)) ≡ true
has-there test [] i m lt is e = absurd (omega arith)
has-there test (n ∷ ms) zero m lt is e =
    ap (λ b. has (if b then signature_of (method_of_class n) ∷ signatures test (map method_of_class ms)
    else signatures test (map method_of_class ms)) (signature_of (method_of_class m)))
    (ap (λ (q : MethodTree). test (method_of_class q)) (sym is) ∙ e)
    ∙ ap (λ (q : MethodTree). same (signature_of (method_of_class q)) (signature_of (method_of_class m))
    || has (signatures test (map method_of_class ms)) (signature_of (method_of_class m))) (sym is)
    ∙ ap (λ b. b || has (signatures test (map method_of_class ms)) (signature_of (method_of_class m)))
    (same-refl (signature_of (method_of_class m)))
has-there test (n ∷ ms) (suc i) m lt is e = by (test (method_of_class n)) (has-there test ms i m (omega arith) is e)
  where
    or_right : (a : Bool) → (a || true) ≡ true
    or_right true = refl
    or_right false = refl

    by : (b : Bool) → has (signatures test (map method_of_class ms)) (signature_of (method_of_class m)) ≡ true
        → has (if b then signature_of (method_of_class n) ∷ signatures test (map method_of_class ms)
        else signatures test (map method_of_class ms)) (signature_of (method_of_class m)) ≡ true
    by true h =
        ap (λ b. same (signature_of (method_of_class n)) (signature_of (method_of_class m)) || b) h
        ∙ or_right (same (signature_of (method_of_class n)) (signature_of (method_of_class m)))
    by false h = h
