-- Slots that are put at the end of a row.
use Rattle.std.proofs.Common.{◌≡◌, ℕ, ◌+◌, ◌<◌, refl, sym, ap, ◌∙◌, Bool, true, false, List, [], ◌∷◌, ◌++◌}
use Rattle.std.proofs.Common.{append_assoc, append-nil, length, take, get_or}
use Rattle.std.proofs.lemmas.List.{take_more}
use Rattle.cjc_bytes.specs.declared.fault.MemberId.{MemberId}
use Rattle.cjc_bytes.proofs.Lists.{map_append}
use Rattle.cjc_world.specs.ClassFile.declared.tree.MethodTree.{MethodTree}
use Rattle.std.specs.Prelude.{map, Option, Some, if◌then◌else◌, option_map}
use Rattle.cjc_world.specs.declared.found.Found.{Found}
use Rattle.cjc_world.specs.Classes.{Member, method_of_class}
use Rattle.cjc_tokens.specs.declared.slot.Slot.{Slot}
use Rattle.cjc_tokens.specs.Members.{Signature, signature_of, signatures}
use Rattle.cjc_tokens.specs.Slots.{Slots, has_slot, new_in, with_new}
use Rattle.cjc_tokens.specs.Working.{Offered, meant, member_of, methods_in, signature_in, signs}

signature : List ℕ → List ℕ → Signature
signature n d = record { name = n; desc = d }

-- one signature more is offered
pub new_in-more : (all : Slots) (ss : List Signature) (s : Signature) → new_in all (ss ++ s ∷ []) ≡ new_in all ss
    ++ (if has_slot (with_new all ss) s then [] else s ∷ [])
new_in-more all [] s = by (has_slot all s) (has_slot (all ++ []) s) (ap (λ q. has_slot q s) (append-nil all))
  where
    by : (b c : Bool) → c ≡ b → (if b then [] else s ∷ []) ≡ (if c then [] else s ∷ [])
    by true true e = refl
    by false false e = refl
    by true false e = cc
    by false true e = cc
new_in-more all (u ∷ ss) s = by (has_slot all u) (new_in-more all ss s) (new_in-more (all ++ Some u ∷ []) ss s)
  where
    by : (b : Bool) → new_in all (ss ++ s ∷ []) ≡ new_in all ss ++ (if has_slot (with_new all ss) s then [] else s ∷ [])
        → new_in (all ++ Some u ∷ []) (ss ++ s ∷ []) ≡ new_in (all ++ Some u ∷ []) ss
        ++ (if has_slot (with_new (all ++ Some u ∷ []) ss) s then [] else s ∷ [])
        → (if b then new_in all (ss ++ s ∷ []) else u ∷ new_in (all ++ Some u ∷ []) (ss ++ s ∷ []))
        ≡ (if b then new_in all ss else u ∷ new_in (all ++ Some u ∷ []) ss)
        ++ (if has_slot (all ++ map Some (if b then new_in all ss else u ∷ new_in (all ++ Some u ∷ []) ss)) s
        then [] else s ∷ [])
    by true old fresh = old
    by false old fresh =
        ap (λ q. u ∷ q) fresh
        ∙ ap (λ q. u ∷ new_in (all ++ Some u ∷ []) ss ++ (if has_slot q s then [] else s ∷ []))
        (append_assoc all (Some u ∷ []) (map Some (new_in (all ++ Some u ∷ []) ss)))

-- one that has a slot changes nothing
pub offered-kept : (ss : List Signature) (s : Signature) (method : Signature
    → Option Found) (old new : List (Option Slot)) → Offered ss method old new → has_slot (signs new) s ≡ true
    → Offered (ss ++ s ∷ []) method old new
offered-kept ss s method old new o e = record {
  slots = o.slots ∙ ap (λ q. signs old ++ map Some q) (sym same_new);
  methods = o.methods ∙ ap (λ q. methods_in old ++ map method q) (sym same_new);
}
  where
    there : has_slot (with_new (signs old) ss) s ≡ true
    there = ap (λ q. has_slot q s) (sym o.slots) ∙ e

    same_new : new_in (signs old) (ss ++ s ∷ []) ≡ new_in (signs old) ss
    same_new = new_in-more (signs old) ss s ∙ ap (λ b. new_in (signs old) ss ++ (if b then [] else s ∷ [])) there
        ∙ append-nil (new_in (signs old) ss)

-- one that has none is put at the end
pub offered-put : (ss : List Signature) (slot : Slot) (method : Signature → Option Found) (old new : List (Option Slot))
    → Offered ss method old new → has_slot (signs new) (signature_in slot) ≡ false
    → slot.method ≡ method (signature_in slot) → Offered (ss ++ signature_in slot ∷ []) method old (new ++ Some slot
    ∷ [])
offered-put ss slot method old new o e is = record {
  slots =
      map_append (option_map signature_in) new (Some slot ∷ [])
      ∙ ap (λ q. q ++ Some (signature_in slot) ∷ []) o.slots
      ∙ append_assoc (signs old) (map Some (new_in (signs old) ss)) (Some (signature_in slot) ∷ [])
      ∙ ap (λ q. signs old ++ q) (sym (map_append Some (new_in (signs old) ss) (signature_in slot ∷ [])))
      ∙ ap (λ q. signs old ++ map Some q) (sym more);
  methods =
      map_append meant new (Some slot ∷ [])
      ∙ ap (λ q. q ++ slot.method ∷ []) o.methods
      ∙ append_assoc (methods_in old) (map method (new_in (signs old) ss)) (slot.method ∷ [])
      ∙ ap (λ q. methods_in old ++ (map method (new_in (signs old) ss) ++ q ∷ [])) is
      ∙ ap (λ q. methods_in old ++ q) (sym (map_append method (new_in (signs old) ss) (signature_in slot ∷ [])))
      ∙ ap (λ q. methods_in old ++ map method q) (sym more);
}
  where
    none : has_slot (with_new (signs old) ss) (signature_in slot) ≡ false
    none = ap (λ q. has_slot q (signature_in slot)) (sym o.slots) ∙ e

    more : new_in (signs old) (ss ++ signature_in slot ∷ []) ≡ new_in (signs old) ss ++ signature_in slot ∷ []
    more = new_in-more (signs old) ss (signature_in slot) ∙ ap (λ b. new_in (signs old) ss
        ++ (if b then [] else signature_in slot ∷ [])) none

-- ---- what is offered of some methods, one more

pub signatures-more : (test : Member → Bool) (ms : List Member) (m : Member) → signatures test (ms ++ m ∷ [])
    ≡ signatures test ms ++ (if test m then signature_of m ∷ [] else [])
signatures-more test [] m = refl
signatures-more test (n ∷ ms) m = by (test n) (signatures-more test ms m)
  where
    by : (b : Bool) → signatures test (ms ++ m ∷ []) ≡ signatures test ms ++ (if test m then signature_of m ∷ []
        else []) → (if b then signature_of n ∷ signatures test (ms ++ m ∷ []) else signatures test (ms ++ m ∷ []))
        ≡ (if b then signature_of n ∷ signatures test ms else signatures test ms) ++ (if test m then signature_of m ∷ []
        else [])
    by true e = ap (λ q. signature_of n ∷ q) e
    by false e = e

-- of the added methods, one more
pub ids-more : (ids : List MemberId) (i : ℕ) (m : MemberId) (name desc : List ℕ) → i < length ids → m ≡ get_or ids i m
    → name ≡ m.name → desc ≡ m.desc → map signature_of (map member_of (take (i + 1) ids))
    ≡ map signature_of (map member_of (take i ids)) ++ record { name = name; desc = desc } ∷ []
unfolding signature
ids-more ids i m name desc lt is n d =
    ap (λ q. map signature_of (map member_of q)) (take_more ids i m lt)
    ∙ ap (map signature_of) (map_append member_of (take i ids) (get_or ids i m ∷ []))
    ∙ map_append signature_of (map member_of (take i ids)) (member_of (get_or ids i m) ∷ [])
    ∙ ap (λ (q : MemberId). map signature_of (map member_of (take i ids)) ++ signature_of (member_of q) ∷ []) (sym is)
    ∙ ap (λ q. map signature_of (map member_of (take i ids)) ++ signature q m.desc ∷ []) (sym n)
    ∙ ap (λ q. map signature_of (map member_of (take i ids)) ++ signature name q ∷ []) (sym d)

-- of a class's own methods, one more that passes the test
pub methods-more : (test : Member → Bool) (ms : List MethodTree) (i : ℕ) (m : MethodTree) (name desc : List ℕ)
    → i < length ms → m ≡ get_or ms i m → name ≡ m.name → desc ≡ m.desc → test (method_of_class m) ≡ true
    → signatures test (map method_of_class (take (i + 1) ms)) ≡ signatures test (map method_of_class (take i ms))
    ++ record { name = name; desc = desc } ∷ []
unfolding signature
methods-more test ms i m name desc lt is n d e =
    ap (λ q. signatures test (map method_of_class q)) (take_more ms i m lt)
    ∙ ap (signatures test) (map_append method_of_class (take i ms) (get_or ms i m ∷ []))
    ∙ signatures-more test (map method_of_class (take i ms)) (method_of_class (get_or ms i m))
    ∙ ap (λ (q : MethodTree). signatures test (map method_of_class (take i ms)) ++ (if test (method_of_class q)
    then signature_of (method_of_class q) ∷ [] else [])) (sym is)
    ∙ ap (λ b. signatures test (map method_of_class (take i ms)) ++ (if b then signature_of (method_of_class m) ∷ []
    else [])) e
    ∙ ap (λ q. signatures test (map method_of_class (take i ms)) ++ signature q m.desc ∷ []) (sym n)
    ∙ ap (λ q. signatures test (map method_of_class (take i ms)) ++ signature name q ∷ []) (sym d)

-- one that does not
pub methods-same : (test : Member → Bool) (ms : List MethodTree) (i : ℕ) (m : MethodTree) → i < length ms
    → m ≡ get_or ms i m → test (method_of_class m) ≡ false → signatures test (map method_of_class (take (i + 1) ms))
    ≡ signatures test (map method_of_class (take i ms))
methods-same test ms i m lt is e =
    ap (λ q. signatures test (map method_of_class q)) (take_more ms i m lt)
    ∙ ap (signatures test) (map_append method_of_class (take i ms) (get_or ms i m ∷ []))
    ∙ signatures-more test (map method_of_class (take i ms)) (method_of_class (get_or ms i m))
    ∙ ap (λ (q : MethodTree). signatures test (map method_of_class (take i ms)) ++ (if test (method_of_class q)
    then signature_of (method_of_class q) ∷ [] else [])) (sym is)
    ∙ ap (λ b. signatures test (map method_of_class (take i ms)) ++ (if b then signature_of (method_of_class m) ∷ []
    else [])) e
    ∙ append-nil (signatures test (map method_of_class (take i ms)))

pub offered-nothing : (method : Signature → Option Found) (row : List (Option Slot)) → Offered [] method row row
offered-nothing method row = record {
  slots = sym (append-nil (signs row));
  methods = sym (append-nil (methods_in row));
}

-- what is offered in two parts
pub with_new-append : (all : Slots) (ss ts : List Signature) → with_new (with_new all ss) ts ≡ with_new all (ss ++ ts)
with_new-append all [] ts = ap (λ q. with_new q ts) (append-nil all)
with_new-append all (s ∷ ss) ts = by (has_slot all s) (with_new-append all ss ts) (with_new-append (all
    ++ Some s ∷ []) ss ts)
  where
    by : (b : Bool) → with_new (with_new all ss) ts ≡ with_new all (ss ++ ts)
        → with_new (with_new (all ++ Some s ∷ []) ss) ts ≡ with_new (all ++ Some s ∷ []) (ss ++ ts)
        → with_new (all ++ map Some (if b then new_in all ss else s ∷ new_in (all ++ Some s ∷ []) ss)) ts ≡ all
        ++ map Some (if b then new_in all (ss ++ ts) else s ∷ new_in (all ++ Some s ∷ []) (ss ++ ts))
    by true old fresh = old
    by false old fresh =
        ap (λ q. with_new q ts) (sym (append_assoc all (Some s ∷ []) (map Some (new_in (all ++ Some s ∷ []) ss))))
        ∙ fresh ∙ append_assoc all (Some s ∷ []) (map Some (new_in (all ++ Some s ∷ []) (ss ++ ts)))

pub offered-slots : {ss : List Signature} {method : Signature → Option Found} {old new : List (Option Slot)}
    → Offered ss method old new → signs new ≡ with_new (signs old) ss
offered-slots o = o.slots

-- a part of what is offered is done
pub offer-next : (all more whole : Slots) (ss rest : List Signature) → more ≡ with_new all ss
    → with_new all (ss ++ rest) ≡ whole → with_new more rest ≡ whole
offer-next all more whole ss rest e inv = ap (λ q. with_new q rest) e ∙ with_new-append all ss rest ∙ inv

pub offer-end : (all : Slots) → with_new all [] ≡ all
offer-end all = append-nil all
