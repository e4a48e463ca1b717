-- The tokens of virtual methods of a class of the package in two worlds, in one of which a new version of an export
-- file stands in the place of the old one.
use Rattle.std.proofs.Common.{◌≡◌, ℕ, zero, suc, ◌+◌, refl, sym, ap, ◌∙◌, arith, Bool, true, false, List, []}
use Rattle.std.proofs.Common.{◌∷◌, ◌++◌, length}
use Rattle.std.specs.Prelude.{◌&&◌, ◌||◌, not, Option, Some, None, if◌then◌else◌, map, option_and_then, option_map}
use Rattle.std.specs.Prelude.{count_by, slice_get, take}
use Rattle.std.proofs.lemmas.List.{length-map}
use Rattle.std.proofs.lemmas.Bool.{or_right}
use Rattle.cjc_world.specs.Bytes.AccessFlags.{is_interface}
use Rattle.cjc_world.specs.ClassFile.declared.tree.ClassTree.{ClassTree}
use Rattle.cjc_world.specs.ClassFile.declared.tree.FieldTree.{FieldTree}
use Rattle.cjc_compat.specs.ExportFile.declared.tree.ExportTree.{ExportTree}
use Rattle.cjc_world.specs.Files.{Files}
use Rattle.cjc_world.specs.Classes.{Class, Member, all_classes, class_named, declared, method_of_class}
use Rattle.cjc_world.specs.Added.{added}
use Rattle.cjc_world.specs.Exported.{is_exported}
use Rattle.cjc_world.specs.Supertypes.{supertypes}
use Rattle.cjc_world.specs.Upwards.{Has, after, foremost}
use Rattle.cjc_tokens.specs.Members.{Signature, has, is_exposed, is_shown, is_virtual, same, signature_of}
use Rattle.cjc_tokens.specs.Members.{signatures}
use Rattle.cjc_tokens.specs.Lines.{line_at, line_in}
use Rattle.cjc_tokens.specs.Slots.{Slots, hidden_slots, shown_token, token}
use Rattle.cjc_tokens.specs.Fields.{field_tokens}
use Rattle.cjc_tokens.specs.Methods.{class_method_token, class_method_tokens, interface_methods, interface_token}
use Rattle.cjc_tokens.specs.Methods.{is_open_bound, with_high_bit}
use Rattle.cjc_tokens.specs.Tokens.{OfClass, assigned, classes_from, joined, method_tokens, of_class, one_more}
use Rattle.cjc_tokens.proofs.Facts.{same-refl}
use Rattle.cjc_cmd_compat.specs.Subclasses.{Declares, KeepsTokens, method_token, with_export}
use Rattle.cjc_cmd_compat.proofs.SubclassesLaws.Lines.{AreLines, hidden-alike, names, shown-alike}
use Rattle.cjc_cmd_compat.proofs.SubclassesLaws.Listings.{line-alike}
use Rattle.cjc_cmd_compat.proofs.SubclassesLaws.Members.{AreGiven}
use Rattle.cjc_cmd_compat.proofs.SubclassesLaws.Trees.{added-same}
use Rattle.cjc_cmd_compat.proofs.SubclassesLaws.Worlds.{at-has}
use Rattle.cjc_world.proofs.BytesGets.{in_front, get_behind, item_there}

-- ---- what stands at a place

fields-length : (exported : Bool) (fs : List FieldTree) (i : ℕ) (rest : List FieldTree)
    → length (field_tokens exported fs i rest) ≡ length rest
unfolding field_tokens
fields-length exported fs i [] = refl
fields-length exported fs i (f ∷ rest) = ap suc (fields-length exported fs (i + 1) rest)

methods-length : (exported : Bool) (shown : Signature → Option ℕ) (hidden : Slots) (ms : List Member) (i : ℕ)
    (rest : List Member) → length (class_method_tokens exported shown hidden ms i rest) ≡ length rest
unfolding class_method_tokens
methods-length exported shown hidden ms i [] = refl
methods-length exported shown hidden ms i (m ∷ rest) = ap suc (methods-length exported shown hidden ms (i + 1) rest)

methods-at : (exported : Bool) (shown : Signature → Option ℕ) (hidden : Slots) (ms : List Member) (i : ℕ)
    (rest : List Member) (k : ℕ) (m : Member) → slice_get rest k ≡ Some m
    → slice_get (class_method_tokens exported shown hidden ms i rest) k
    ≡ Some (class_method_token exported shown hidden ms (i + k) m)
unfolding class_method_tokens
methods-at exported shown hidden ms i [] k m e = absurd cc
methods-at exported shown hidden ms i (x ∷ rest) zero m e =
    let is : x ≡ m = cc in
    let stay : i ≡ i + 0 = omega arith in
    ap (λ z. Some (class_method_token exported shown hidden ms i z)) is
    ∙ ap (λ j. Some (class_method_token exported shown hidden ms j m)) stay
methods-at exported shown hidden ms i (x ∷ rest) (suc k) m e =
    let next : i + 1 + k ≡ i + suc k = omega arith in
    methods-at exported shown hidden ms (i + 1) rest k m e
    ∙ ap (λ j. Some (class_method_token exported shown hidden ms j m)) next

class-tokens : (w : List Class) (applets : Bool) (before k : ℕ) (cs : List ClassTree) (i : ℕ) (c : ClassTree)
    → slice_get cs i ≡ Some c → (b : ℕ) × (slice_get (classes_from w applets before k cs) i ≡ Some (of_class w applets b
    (k + i) c))
unfolding classes_from
class-tokens w applets before k [] i c e = absurd cc
class-tokens w applets before k (d ∷ cs) zero c e =
    let is : d ≡ c = cc in
    let stay : k ≡ k + 0 = omega arith in
    (before, ap (λ z. Some (of_class w applets before k z)) is ∙ ap (λ j. Some (of_class w applets before j c)) stay)
class-tokens w applets before k (d ∷ cs) (suc i) c e =
    let r = class-tokens w applets (one_more (is_exported w applets (declared k d)) before) (k + 1) cs i c e in
    let next : k + 1 + i ≡ k + suc i = omega arith in
    (r.0, r.1 ∙ ap (λ j. Some (of_class w applets r.0 j c)) next)

-- the tokens of the methods of a class
method-at : (applets : Bool) (files : Files) (n : ℕ) (c : ClassTree) (place : ℕ) → slice_get files.classes n ≡ Some c
    → (exported : Bool) × (method_token applets files n c place
    ≡ joined (slice_get (method_tokens (all_classes files) exported (declared n c)) place))
unfolding assigned
method-at applets files n c place e =
    let w = all_classes files in
    let r = class-tokens w applets 0 0 files.classes n c e in
    let start : 0 + n ≡ n = omega arith in
    let is = r.1 ∙ ap (λ j. Some (of_class w applets r.0 j c)) start in
    let exported = is_exported w applets (declared n c) in
    let count : length c.fields ≡ length (field_tokens exported c.fields 0 c.fields) = sym (fields-length exported
    c.fields 0 c.fields) in (
      exported,
      ap (λ o. option_and_then (λ (k : OfClass). joined (slice_get k.members (length c.fields + place))) o) is
          ∙ ap (λ j. joined (slice_get (field_tokens exported c.fields 0 c.fields ++ method_tokens w exported
          (declared n
          c)) (j + place))) count
          ∙ ap joined (get_behind (field_tokens exported c.fields 0 c.fields) (method_tokens w exported (declared n c))
          place),
    )

-- ---- virtual methods

-- the token of a virtual method does not hang on whether the class is exported
virtual-same : (e f : Bool) (shown shown' : Signature → Option ℕ) (hidden hidden' : Slots) (ms : List Member) (i : ℕ)
    (m : Member) → is_virtual m ≡ true → hidden' ≡ hidden → (is_shown m ≡ true
    → shown' (signature_of m) ≡ shown (signature_of m))
    → class_method_token f shown' hidden' ms i m ≡ class_method_token e shown hidden ms i m
unfolding class_method_token
virtual-same e f shown shown' hidden hidden' ms i m virtual same_hidden same_shown =
    by (is_exposed m.flags) (is_virtual m) (if f && is_open_bound m then Some (count_by is_open_bound (take i ms))
    else None) (if e && is_open_bound m then Some (count_by is_open_bound (take i ms)) else None) virtual same_shown
  where
    by : (a b : Bool) (x y : Option ℕ) → b ≡ true → ((a && b) ≡ true → shown' (signature_of m) ≡ shown (signature_of m))
        → (if a && b then shown' (signature_of m) else if not a && b
        then option_map with_high_bit (token hidden' (signature_of m)) else x)
        ≡ (if a && b then shown (signature_of m) else if not a && b
        then option_map with_high_bit (token hidden (signature_of m)) else y)
    by true true x y h r = r refl
    by false true x y h r = ap (λ l. option_map with_high_bit (token l (signature_of m))) same_hidden
    by true false x y h r = absurd cc
    by false false x y h r = absurd cc

has-shown : (ms : List Member) (m : Member) → Has m ms → is_shown m ≡ true
    → has (signatures is_shown ms) (signature_of m) ≡ true
has-shown [] m h e = elim h [ ]
has-shown (x ∷ ms) _ foremost e =
    ap (λ b. has (if b then signature_of x ∷ signatures is_shown ms else signatures is_shown ms) (signature_of x)) e
    ∙ ap (λ b. b || has (signatures is_shown ms) (signature_of x)) (same-refl (signature_of x))
has-shown (x ∷ ms) m (after h) e = by (is_shown x) (has-shown ms m h e)
  where
    by : (b : Bool) → has (signatures is_shown ms) (signature_of m) ≡ true
        → has (if b then signature_of x ∷ signatures is_shown ms else signatures is_shown ms) (signature_of m) ≡ true
    by true r = or_right (same (signature_of x) (signature_of m)) (has (signatures is_shown ms) (signature_of m)) r
    by false r = r

has-given : (ms : List Member) (m : Member) → Has m ms → has (map signature_of ms) (signature_of m) ≡ true
has-given [] m h = elim h [ ]
has-given (x ∷ ms) _ foremost = ap (λ b. b || has (map signature_of ms) (signature_of x)) (same-refl (signature_of x))
has-given (x ∷ ms) m (after h) = or_right (same (signature_of x) (signature_of m)) (has (map signature_of ms)
    (signature_of m)) (has-given ms m h)

module _ (files : Files) (place : ℕ) (old new : ExportTree) (g : AreGiven files place old new) (n : ℕ) (c : ClassTree)
    (there : slice_get files.classes n ≡ Some c) (plain : is_interface c.flags ≡ false)
    (named : class_named (all_classes files) c.name ≡ Some (declared n c)) (applets : Bool) where
  abbrev w : List Class
  w = all_classes files

  abbrev v : List Class
  v = all_classes (with_export files place new)

  abbrev k : Class
  k = declared n c

  lines : AreLines (Declares files) (line_at w k) (line_at v k)
  lines = line-alike files place old new g n c there plain named

  hidden_same : hidden_slots (line_at v k) ≡ hidden_slots (line_at w k)
  hidden_same = hidden-alike (Declares files) (line_at w k) (line_at v k) lines

  given_same : added v k ≡ added w k
  given_same = added-same files place old new g c.name k named refl plain

  -- what the class declares, public or protected
  shown_same : (m : Member) → Has m k.methods → is_shown m ≡ true
      → shown_token (line_at v k) (signature_of m) ≡ shown_token (line_at w k) (signature_of m)
  shown_same m h e = shown-alike (Declares files) (line_at w k) (line_at v k) lines (signature_of m)
      (ap (λ b. b || (has (map signature_of (added w k)) (signature_of m) || names (line_in w (supertypes w k.supers))
      (signature_of m))) (has-shown k.methods m h e))

  -- what it gets
  got_same : (m : Member) → Has m (added w k)
      → shown_token (line_at v k) (signature_of m) ≡ shown_token (line_at w k) (signature_of m)
  got_same m h = shown-alike (Declares files) (line_at w k) (line_at v k) lines (signature_of m)
      (or_right (has (signatures is_shown k.methods) (signature_of m)) (has (map signature_of (added w k))
      (signature_of m)
      || names (line_in w (supertypes w k.supers)) (signature_of m))
      (ap (λ b. b || names (line_in w (supertypes w k.supers)) (signature_of m)) (has-given (added w k) m h)))

  -- the tokens of the methods of a class that is no interface
  tokens-are : (u : List Class) (exported : Bool) → method_tokens u exported k ≡ class_method_tokens exported
      (shown_token (line_at u k)) (hidden_slots (line_at u k)) k.methods 0 k.methods
      ++ map (λ m. shown_token (line_at u k) (signature_of m)) (added u k)
  tokens-are u exported = ap (λ b. if b then map (interface_token (interface_methods u k)) k.methods
      else class_method_tokens exported (shown_token (line_at u k)) (hidden_slots (line_at u k)) k.methods 0 k.methods
      ++ map (λ m. shown_token (line_at u k) (signature_of m)) (added u k)) plain

  own-at : (u : List Class) (exported : Bool) (i : ℕ) (m : Member) → slice_get k.methods i ≡ Some m
      → slice_get (method_tokens u exported k) i ≡ Some (class_method_token exported (shown_token (line_at u k))
      (hidden_slots (line_at u k)) k.methods (0 + i) m)
  own-at u exported i m e =
      ap (λ l. slice_get l i) (tokens-are u exported)
      ∙ in_front (class_method_tokens exported (shown_token (line_at u k)) (hidden_slots (line_at u k)) k.methods 0
      k.methods) (map (λ m. shown_token (line_at u k) (signature_of m)) (added u k)) i (class_method_token exported
      (shown_token (line_at u k)) (hidden_slots (line_at u k)) k.methods (0 + i) m)
      (methods-at exported (shown_token (line_at u k)) (hidden_slots (line_at u k)) k.methods 0 k.methods i m e)

  got-at : (u : List Class) (exported : Bool) (i : ℕ) (m : Member) → slice_get (added u k) i ≡ Some m
      → slice_get (method_tokens u exported k) (length c.methods + i) ≡ Some (shown_token (line_at u k)
      (signature_of m))
  got-at u exported i m e =
      let own = class_method_tokens exported (shown_token (line_at u k)) (hidden_slots
      (line_at u k)) k.methods 0 k.methods
      in
      let count : length c.methods ≡ length own = sym (methods-length exported (shown_token (line_at u k)) (hidden_slots
      (line_at u k)) k.methods 0 k.methods ∙ length-map c.methods method_of_class) in
      ap (λ l. slice_get l (length c.methods + i)) (tokens-are u exported)
      ∙ ap (λ j. slice_get (own ++ map (λ m. shown_token (line_at u k) (signature_of m)) (added u k)) (j + i)) count
      ∙ get_behind own (map (λ m. shown_token (line_at u k) (signature_of m)) (added u k)) i
      ∙ item_there (λ m. shown_token (line_at u k) (signature_of m)) (added u k) i m e

  own_kept : (i : ℕ) (m : Member) → slice_get k.methods i ≡ Some m → is_virtual m ≡ true
      → method_token applets (with_export files place new) n c i ≡ method_token applets files n c i
  own_kept i m e virtual =
      let p = method-at applets (with_export files place new) n c i there in
      let q = method-at applets files n c i there in
      p.1 ∙ ap joined (own-at v p.0 i m e)
      ∙ virtual-same q.0 p.0 (shown_token (line_at w k)) (shown_token (line_at v k)) (hidden_slots (line_at w k))
      (hidden_slots (line_at v k)) k.methods (0 + i) m virtual hidden_same (shown_same m (at-has k.methods i m e))
      ∙ sym (ap joined (own-at w q.0 i m e)) ∙ sym q.1

  given_kept : (i : ℕ) (m : Member) → slice_get (added w k) i ≡ Some m
      → method_token applets (with_export files place new) n c (length c.methods + i)
      ≡ method_token applets files n c (length c.methods + i)
  given_kept i m e =
      let p = method-at applets (with_export files place new) n c (length c.methods + i) there in
      let q = method-at applets files n c (length c.methods + i) there in
      p.1 ∙ ap joined (got-at v p.0 i m (ap (λ l. slice_get l i) given_same ∙ e))
      ∙ got_same m (at-has (added w k) i m e) ∙ sym (ap joined (got-at w q.0 i m e)) ∙ sym q.1

  pub tokens-kept : KeepsTokens applets files (with_export files place new) n c
  tokens-kept = record { given = given_same; own_tokens = own_kept; given_tokens = given_kept }
