-- The tokens that a package keeps of its methods, by their places.
use Rattle.std.proofs.Common.{◌≡◌, ℕ, zero, suc, ◌+◌, refl, sym, ap, ◌∙◌, Bool, true, false, List, [], ◌∷◌, ◌++◌, map}
use Rattle.std.proofs.Common.{length, arith, Option, Some}
use Rattle.std.specs.Prelude.{slice_get, option_map, option_and_then, if◌then◌else◌}
use Rattle.std.proofs.lemmas.List.{length-map}
use Rattle.std.proofs.lemmas.Option.{slice_get-map}
use Rattle.cjc_bytes.specs.AccessFlags.{is_interface}
use Rattle.cjc_bytes.proofs.Gets.{in_front, get_behind}
use Rattle.cjc_world.specs.ClassFile.declared.tree.ClassTree.{ClassTree}
use Rattle.cjc_world.specs.ClassFile.declared.tree.FieldTree.{FieldTree}
use Rattle.cjc_world.specs.Files.{Files}
use Rattle.cjc_world.specs.Classes.{Class, Member, all_classes, declared, field_of_class}
use Rattle.cjc_world.specs.Added.{added}
use Rattle.cjc_world.specs.Exported.{is_exported}
use Rattle.cjc_world.specs.Lookup.{member_at}
use Rattle.cjc_tokens.specs.Fields.{field_tokens}
use Rattle.cjc_tokens.specs.Lines.{line_at}
use Rattle.cjc_tokens.specs.Members.{Signature, is_hidden, is_shown, signature_of}
use Rattle.cjc_tokens.specs.Methods.{class_method_token, class_method_tokens, interface_methods, interface_token}
use Rattle.cjc_tokens.specs.Methods.{with_high_bit}
use Rattle.cjc_tokens.specs.Slots.{Slots, hidden_slots, shown_token, token}
use Rattle.cjc_tokens.specs.Tokens.{OfClass, assigned, classes_from, joined, method_tokens, of_class, one_more}
use Rattle.cjc_tokens.specs.Tokens.{token_of_member}

class_row : (w : List Class) (applets : Bool) (b m : ℕ) (cs : List ClassTree) (n : ℕ) (c : ClassTree)
    → slice_get cs n ≡ Some c → (a : ℕ) × (slice_get (classes_from w applets b m cs) n
    ≡ Some (of_class w applets a (m + n) c))
unfolding classes_from
class_row w applets b m [] n c e = cc
class_row w applets b m (x ∷ cs) zero c e =
    let same : x ≡ c = cc in
    let z : m ≡ m + 0 = omega arith in
    (b, ap (λ (t : ClassTree). Some (of_class w applets b m t)) same ∙ ap (λ k. Some (of_class w applets b k c)) z)
class_row w applets b m (x ∷ cs) (suc n) c e =
    let r = class_row w applets (one_more (is_exported w applets (declared m x)) b) (m + 1) cs n c e in
    let s : m + 1 + n ≡ m + suc n = omega arith in
    (r.0, r.1 ∙ ap (λ k. Some (of_class w applets r.0 k c)) s)

pub fields_long : (exported : Bool) (fs : List FieldTree) (i : ℕ) (rest : List FieldTree)
    → length (field_tokens exported fs i rest) ≡ length rest
unfolding field_tokens
fields_long exported fs i [] = refl
fields_long exported fs i (f ∷ rest) = ap suc (fields_long exported fs (i + 1) rest)

pub method_row : (exported : Bool) (shown : Signature → Option ℕ) (hidden : Slots) (ms : List Member) (i : ℕ)
    (rest : List Member) (k : ℕ)
    (m : Member) → slice_get rest k ≡ Some m
    → slice_get (class_method_tokens exported shown hidden ms i rest) k ≡ Some (class_method_token exported shown hidden
    ms (i + k) m)
unfolding class_method_tokens
method_row exported shown hidden ms i [] k m e = cc
method_row exported shown hidden ms i (x ∷ rest) zero m e =
    let same : x ≡ m = cc in
    let z : i ≡ i + 0 = omega arith in
    ap (λ (y : Member). Some (class_method_token exported shown hidden ms i y)) same
    ∙ ap (λ j. Some (class_method_token exported shown hidden ms j m)) z
method_row exported shown hidden ms i (x ∷ rest) (suc k) m e =
    let s : i + 1 + k ≡ i + suc k = omega arith in
    method_row exported shown hidden ms (i + 1) rest k m e
    ∙ ap (λ j. Some (class_method_token exported shown hidden ms j m)) s

pub rows_long : (exported : Bool) (shown : Signature → Option ℕ) (hidden : Slots) (ms : List Member) (i : ℕ)
    (rest : List Member)
    → length (class_method_tokens exported shown hidden ms i rest) ≡ length rest
unfolding class_method_tokens
rows_long exported shown hidden ms i [] = refl
rows_long exported shown hidden ms i (m ∷ rest) = ap suc (rows_long exported shown hidden ms (i + 1) rest)

module _ (files : Files) (applets : Bool) (n : ℕ) (t : ClassTree) (there : slice_get files.classes n ≡ Some t)
    (plain : is_interface t.flags ≡ false) where
  abbrev c : Class
  c = declared n t

  abbrev shown_ones : Signature → Option ℕ
  shown_ones = shown_token (line_at (all_classes files) c)

  abbrev hidden_ones : Slots
  hidden_ones = hidden_slots (line_at (all_classes files) c)

  kept : (k : ℕ) (m : Member) → slice_get c.methods k ≡ Some m
      → (b : Bool) × (token_of_member (assigned applets files) (member_at c (length c.fields + k))
      ≡ class_method_token b shown_ones hidden_ones c.methods k m)
  unfolding assigned
  kept k m at =
      let w = all_classes files in
      let r = class_row w applets 0 0 files.classes n t there in
      let z : 0 + n ≡ n = omega arith in
      let zk : 0 + k ≡ k = omega arith in
      let row = r.1 ∙ ap (λ j. Some (of_class w applets r.0 j t)) z in
      let ex = is_exported w applets (declared n t) in
      let fields : length c.fields ≡ length (field_tokens ex t.fields 0 t.fields) = length-map t.fields field_of_class
      ∙ sym (fields_long ex t.fields 0 t.fields) in
      let own = method_row ex shown_ones hidden_ones c.methods 0 c.methods k m at in
      let methods : method_tokens w ex c ≡ class_method_tokens ex shown_ones hidden_ones c.methods 0 c.methods
      ++ map (λ m. shown_ones (signature_of m)) (added w c) =
      ap (λ b. if b then map (interface_token (interface_methods w c)) c.methods else class_method_tokens ex shown_ones
      hidden_ones c.methods 0 c.methods ++ map (λ m. shown_ones (signature_of m)) (added w c)) plain in
      let member : slice_get (field_tokens ex t.fields 0 t.fields ++ method_tokens w ex c) (length c.fields + k)
      ≡ Some (class_method_token ex shown_ones hidden_ones c.methods (0 + k) m) =
      ap (λ j. slice_get (field_tokens ex t.fields 0 t.fields ++ method_tokens w ex c) (j + k)) fields
      ∙ get_behind (field_tokens ex t.fields 0 t.fields) (method_tokens w ex c) k
      ∙ ap (λ xs. slice_get xs k) methods
      ∙ in_front (class_method_tokens ex shown_ones hidden_ones c.methods 0 c.methods)
      (map (λ m. shown_ones (signature_of m)) (added w c)) k _ own in (
        ex,
        ap (λ (o : Option OfClass). option_and_then (λ (x : OfClass). joined
            (slice_get x.members (length c.fields + k))) o) row
            ∙ ap joined member
            ∙ ap (λ j. class_method_token ex shown_ones hidden_ones c.methods j m) zk,
      )

  -- a public or protected virtual method has its class's
  pub shown_kept : (k : ℕ) (m : Member) → slice_get c.methods k ≡ Some m → is_shown m ≡ true
      → token_of_member (assigned applets files) (member_at c (length c.fields + k))
      ≡ shown_ones (signature_of m)
  unfolding class_method_token
  shown_kept k m at is = let r = kept k m at in r.1 ∙ first_of _ _ (is_shown m) is
    where
      first_of : (a b : Option ℕ) (p : Bool) → p ≡ true → (if p then a else b) ≡ a
      first_of a b true e = refl
      first_of a b false e = cc

  -- a package-visible one has the high bit
  pub hidden_kept : (k : ℕ) (m : Member) → slice_get c.methods k ≡ Some m → is_shown m ≡ false → is_hidden m ≡ true
      → token_of_member (assigned applets files) (member_at c (length c.fields + k)) ≡ option_map with_high_bit
      (token hidden_ones (signature_of m))
  unfolding class_method_token
  hidden_kept k m at isnt is = let r = kept k m at in r.1 ∙ second_of _ _ _ (is_shown m) (is_hidden m) isnt is
    where
      second_of : (a b d : Option ℕ) (p q : Bool) → p ≡ false → q ≡ true → (if p then a else if q then b else d) ≡ b
      second_of a b d true q e f = cc
      second_of a b d false true e f = refl
      second_of a b d false false e f = cc

  -- one that the class got has its class's
  pub got_kept : (k : ℕ) (m : Member) → slice_get (added (all_classes files) c) k ≡ Some m
      → token_of_member (assigned applets files) (member_at c (length c.fields + length c.methods + k))
      ≡ shown_ones (signature_of m)
  unfolding assigned
  got_kept k m at =
      let w = all_classes files in
      let r = class_row w applets 0 0 files.classes n t there in
      let z : 0 + n ≡ n = omega arith in
      let row = r.1 ∙ ap (λ j. Some (of_class w applets r.0 j t)) z in
      let ex = is_exported w applets (declared n t) in
      let fs = field_tokens ex t.fields 0 t.fields in
      let own = class_method_tokens ex shown_ones hidden_ones c.methods 0 c.methods in
      let more = map (λ m. shown_ones (signature_of m)) (added w c) in
      let fields : length c.fields ≡ length fs = length-map t.fields field_of_class
      ∙ sym (fields_long ex t.fields 0 t.fields) in
      let long : length own ≡ length c.methods = rows_long ex shown_ones hidden_ones c.methods 0 c.methods in
      let methods : method_tokens w ex c ≡ own ++ more =
      ap (λ b. if b then map (interface_token (interface_methods w c)) c.methods else own ++ more) plain in
      let place : length c.fields + length c.methods + k ≡ length fs + (length own + k) = omega (arith, fields, long) in
      let member : slice_get (fs ++ method_tokens w ex c) (length c.fields + length c.methods + k)
      ≡ Some (shown_ones (signature_of m)) =
      ap (slice_get (fs ++ method_tokens w ex c)) place
      ∙ get_behind fs (method_tokens w ex c) (length own + k)
      ∙ ap (λ xs. slice_get xs (length own + k)) methods
      ∙ get_behind own more k
      ∙ slice_get-map (λ m. shown_ones (signature_of m)) (added w c) k
      ∙ ap (option_map (λ m. shown_ones (signature_of m))) at in
      ap (λ (o : Option OfClass). option_and_then (λ (x : OfClass). joined
      (slice_get x.members (length c.fields + length c.methods + k))) o) row
      ∙ ap joined member
