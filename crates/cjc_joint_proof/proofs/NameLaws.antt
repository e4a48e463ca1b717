-- Classes of a group by name on the card, and the methods that scripts call by them.
use Rattle.std.proofs.Common.{◌≡◌, ℕ, zero, suc, ◌+◌, arith, refl, sym, ap, ◌∙◌, Bool, true, false, List, [], ◌∷◌}
use Rattle.std.proofs.Common.{Some, None}
use Rattle.std.specs.Prelude.{Option, option_and_then, option_map, slice_get, unwrap_or, if◌then◌else◌}
use Rattle.cjc_card_semantics.specs.Bytes.declared.fault.MemberId.{MemberId}
use Rattle.cjc_card_semantics.specs.Bytes.AccessFlags.{is_static}
use Rattle.cjc_card_semantics.specs.CapRead.declared.tree.ClassDescriptor.{ClassDescriptor}
use Rattle.cjc_card_semantics.specs.CapRead.declared.tree.MethodDescriptor.{MethodDescriptor}
use Rattle.cjc_card_semantics.specs.ExportFile.declared.tree.ExportTree.{ExportTree}
use Rattle.cjc_card_semantics.specs.Machine.Calls.{Described, called, class_among, declared, named_among, named_in_part}
use Rattle.cjc_card_semantics.specs.Machine.Calls.{static_start}
use Rattle.cjc_card_semantics.specs.Machine.Classes.{External, Own, class_named, external_from, external_named, name_of}
use Rattle.cjc_card_semantics.specs.Machine.Classes.{names_of, number_named, offset_of, or_else, own_from, token_named}
use Rattle.cjc_card_semantics.specs.Machine.Loaded.{ClassNames, Loaded, Part}
use Rattle.cjc_card_semantics.specs.Machine.Methods.{start_of}
use Rattle.cjc_joint_proof.specs.Parts.{IsPart, described_in, start_in}
use Rattle.cjc_joint_proof.proofs.PartLaws.{declared_same, names_same, starts_same}

-- ---- classes

own_at : (parts : List Part) (p q : ℕ) (part : Part) (x : List ℕ) (n offset : ℕ) → slice_get parts q ≡ Some part
    → number_named part.classes x ≡ Some n → offset_of part n ≡ Some offset
    → ((r : ℕ) (other : Part) → slice_get parts r ≡ Some other → (r ≡ q → ⊥) → number_named other.classes x ≡ None)
    → own_from p parts x ≡ Some (Own (p + q) offset)
own_at [] p q part x n offset is number at none = cc
own_at (o ∷ parts) p zero part x n offset is number at none =
    let same : o ≡ part = cc in
    let z : p ≡ p + 0 = omega arith in
    ap (λ (y : Part). or_else (option_and_then (λ n. option_map (Own p) (offset_of y n)) (number_named y.classes x))
    (own_from (p + 1) parts x)) same
    ∙ (ap (λ m. or_else (option_and_then (λ n. option_map (Own p) (offset_of part n)) m) (own_from (p + 1) parts x))
    number
    ∙ (ap (λ m. or_else (option_map (Own p) m) (own_from (p + 1) parts x)) at ∙ ap (λ m. Some (Own m offset)) z))
own_at (o ∷ parts) p (suc q) part x n offset is number at none =
    let s : p + 1 + q ≡ p + suc q = omega arith in
    ap (λ m. or_else (option_and_then (λ n. option_map (Own p) (offset_of o n)) m) (own_from (p + 1) parts x)) (none 0 o
    refl (λ e. let no : 0 ≡ suc q = e in omega (arith, no)))
    ∙ (own_at parts (p + 1) q part x n offset is number at (λ r other there apart. none (suc r) other there (λ e. let
    more : suc r ≡ suc q = e in apart (omega (arith, more))))
    ∙ ap (λ m. Some (Own m offset)) s)

own_none : (parts : List Part) (p : ℕ) (x : List ℕ)
    → ((r : ℕ) (other : Part) → slice_get parts r ≡ Some other → number_named other.classes x ≡ None)
    → own_from p parts x ≡ None
own_none [] p x none = refl
own_none (o ∷ parts) p x none =
    ap (λ m. or_else (option_and_then (λ n. option_map (Own p) (offset_of o n)) m) (own_from (p + 1) parts x)) (none 0 o
    refl)
    ∙ own_none parts (p + 1) x (λ r other there. none (suc r) other there)

pub class_inside : (l : Loaded) (q : ℕ) (part : Part) (x : List ℕ) (n offset : ℕ) → slice_get l.parts q ≡ Some part
    → number_named part.classes x ≡ Some n → offset_of part n ≡ Some offset
    → ((r : ℕ) (other : Part) → slice_get l.parts r ≡ Some other → (r ≡ q → ⊥) → number_named other.classes x ≡ None)
    → class_named l x ≡ Some (Own q offset)
class_inside l q part x n offset is number at none =
    let z : 0 + q ≡ q = omega arith in
    ap (λ o. or_else o (external_named l x)) (own_at l.parts 0 q part x n offset is number at none)
    ∙ ap (λ m. Some (Own m offset)) z

pub class_outside : (l : Loaded) (x : List ℕ)
    → ((r : ℕ) (other : Part) → slice_get l.parts r ≡ Some other → number_named other.classes x ≡ None)
    → class_named l x ≡ external_named l x
class_outside l x none = ap (λ o. or_else o (external_named l x)) (own_none l.parts 0 x none)

file_at : (trees : List ExportTree) (p j : ℕ) (t : ExportTree) (x : List ℕ) (token : ℕ) → slice_get trees j ≡ Some t
    → token_named t.classes x ≡ Some token
    → ((r : ℕ) (u : ExportTree) → slice_get trees r ≡ Some u → (r ≡ j → ⊥) → token_named u.classes x ≡ None)
    → external_from p trees x ≡ Some (External (p + j) token)
file_at [] p j t x token is named none = cc
file_at (u ∷ trees) p zero t x token is named none =
    let same : u ≡ t = cc in
    let z : p ≡ p + 0 = omega arith in
    ap (λ (v : ExportTree). or_else (option_map (External p) (token_named v.classes x)) (external_from (p + 1) trees x))
    same
    ∙ (ap (λ o. or_else (option_map (External p) o) (external_from (p + 1) trees x)) named
    ∙ ap (λ m. Some (External m token)) z)
file_at (u ∷ trees) p (suc j) t x token is named none =
    let s : p + 1 + j ≡ p + suc j = omega arith in
    ap (λ o. or_else (option_map (External p) o) (external_from (p + 1) trees x))
    (none 0 u refl (λ e. let no : 0 ≡ suc j
    = e in omega (arith, no)))
    ∙ (file_at trees (p + 1) j t x token is named
    (λ r v there apart. none (suc r) v there (λ e. let more : suc r ≡ suc j
    = e in apart (omega (arith, more))))
    ∙ ap (λ m. Some (External m token)) s)

pub class_in_file : (l : Loaded) (j : ℕ) (t : ExportTree) (x : List ℕ) (token : ℕ) → slice_get l.trees j ≡ Some t
    → token_named t.classes x ≡ Some token
    → ((r : ℕ) (u : ExportTree) → slice_get l.trees r ≡ Some u → (r ≡ j → ⊥) → token_named u.classes x ≡ None)
    → external_named l x ≡ Some (External j token)
class_in_file l j t x token is named none =
    let z : 0 + j ≡ j = omega arith in
    file_at l.trees 0 j t x token is named none ∙ ap (λ m. Some (External m token)) z

-- ---- methods that scripts call

part_of_declared : (l : Loaded) (p offset : ℕ) (id : MemberId) (d : Described) → declared l (Own p offset) id ≡ Some d
    → d.part ≡ p
part_of_declared l p offset id d e = names (names_of l p offset) e
  where
    method : (o : Option MethodDescriptor) → option_map (λ m. record { part = p; method = m }) o ≡ Some d → d.part ≡ p
    method None f = cc
    method (Some m) f = let same : record { part = p; method = m } ≡ d = cc in sym (ap (λ (y : Described). y.part) same)

    class : (names : ClassNames) (o : Option ClassDescriptor) → option_and_then (λ c. option_map (λ m. record {
      part = p;
      method = m;
    }) (named_among names.methods c.methods id)) o ≡ Some d → d.part ≡ p
    class names None f = cc
    class names (Some c) f = method (named_among names.methods c.methods id) f

    part : (names : ClassNames) (o : Option Part) → option_and_then (named_in_part p offset id names) o ≡ Some d
        → d.part ≡ p
    part names None f = cc
    part names (Some x) f = class names (class_among x.descriptor offset) f

    names : (o : Option ClassNames) → option_and_then (λ names. option_and_then (named_in_part p offset id names)
        (slice_get l.parts p)) o ≡ Some d → d.part ≡ p
    names None f = cc
    names (Some x) f = part x (slice_get l.parts p) f

module _ (alone group : Loaded) (q : ℕ) (h : IsPart alone group q) where
  pub name_same : (offset : ℕ) → name_of group (Own q offset) ≡ name_of alone (Own 0 offset)
  name_same offset = ap (λ o. unwrap_or (option_map (λ (c : ClassNames). c.name) o) []) (names_same alone group q h
      offset)

  static_same : (d : Described) → d.part ≡ 0 → static_start group (described_in q d)
      ≡ option_map (start_in q) (static_start alone d)
  static_same d first = by (let m = d.method in is_static m.flags)
    where
      by : (b : Bool) → (if b then (let m = d.method in start_of group q m.offset) else None)
          ≡ option_map (start_in q) (if b then (let m = d.method in start_of alone d.part m.offset) else None)
      by true = let m = d.method in starts_same alone group q h m.offset ∙ ap (λ p. option_map (start_in q) (start_of
          alone p m.offset)) (sym first)
      by false = refl

  pub called_same : (id : MemberId) (offset : ℕ) → class_named group id.class ≡ Some (Own q offset)
      → class_named alone id.class ≡ Some (Own 0 offset)
      → called group id ≡ option_map (start_in q) (called alone id)
  called_same id offset here itself =
      ap (option_and_then (λ c. option_and_then (static_start group) (declared group c id))) here
      ∙ (ap (option_and_then (static_start group)) (declared_same alone group q h offset id)
      ∙ (by (declared alone (Own 0 offset) id) refl
      ∙ sym (ap (λ o. option_map (start_in q) (option_and_then (λ c. option_and_then (static_start alone) (declared
      alone c id)) o)) itself)))
    where
      by : (o : Option Described) → declared alone (Own 0 offset) id ≡ o
          → option_and_then (static_start group) (option_map (described_in q) o)
          ≡ option_map (start_in q) (option_and_then (static_start alone) o)
      by None e = refl
      by (Some d) e = static_same d (part_of_declared alone 0 offset id d e)
