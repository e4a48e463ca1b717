-- What a class of the package says of a signature, by where it declares or got a method of it.
use Rattle.std.proofs.Common.{◌≡◌, ◌∙◌, ℕ, suc, ◌+◌, Bool, true, false, List, [], ◌∷◌, length, map, refl, sym, ap}
use Rattle.std.proofs.Common.{arith, Option, Some, None}
use Rattle.std.specs.Prelude.{◌&&◌, not, option_map, position, slice_get, if◌then◌else◌}
use Rattle.std.proofs.lemmas.List.{length-map}
use Rattle.std.proofs.lemmas.Option.{slice_get-map}
use Rattle.cjc_bytes.specs.AccessFlags.{is_interface}
use Rattle.cjc_bytes.specs.declared.fault.MemberId.{MemberId}
use Rattle.cjc_bytes.proofs.Bools.{both_front, both_back}
use Rattle.cjc_world.specs.ClassFile.declared.tree.ClassTree.{ClassTree}
use Rattle.cjc_world.specs.ClassFile.declared.tree.MethodTree.{MethodTree}
use Rattle.cjc_world.specs.Added.{added, added_at, added_to, named_by}
use Rattle.cjc_world.specs.Classes.{Class, Member, all_classes, declared, field_of_class, method_of_class}
use Rattle.cjc_world.specs.Files.{Files}
use Rattle.cjc_world.specs.Lookup.{is_called, member_at}
use Rattle.cjc_tokens.specs.Lines.{line_at}
use Rattle.cjc_tokens.specs.Members.{Signature, chosen, has, is_exposed, is_shown, is_virtual_by, same, signature_of}
use Rattle.cjc_tokens.specs.Methods.{with_high_bit}
use Rattle.cjc_tokens.specs.Slots.{got, hidden_slots, own, shown_token, token}
use Rattle.cjc_tokens.specs.Tokens.{assigned, token_of_member}
use Rattle.cjc_tokens.specs.Working.{member_of}
use Rattle.cjc_tokens.proofs.Facts.{has-got_none, has-own_none, position-cons, same-true}
use Rattle.cjc_tokens.proofs.Steps.{signatures-ids}
use Rattle.cjc_components.specs.LowerVTable.Calls.{any_method}
use Rattle.cjc_components.proofs.VTableSlotNames.{position-at}
use Rattle.cjc_classes.specs.Walks.{IsHiddenHere, IsShownHere, called}
use Rattle.cjc_classes.proofs.KeyTokens.Kept.{got_kept, hidden_kept, shown_kept}

-- ---- methods at their places

-- the first that is called so
called_at : (test : Member → Bool) (s : Signature) (ms : List Member) (i : ℕ) (m : Member)
    → position (is_called s.name s.desc) ms ≡ Some i → slice_get ms i ≡ Some m → test m ≡ true
    → chosen test s ms ≡ Some m
called_at test s [] i m e at t = cc
called_at test s (x ∷ ms) i m e at t = by (λ j g there. called_at test s ms j m g there t) (is_called s.name s.desc x)
    refl (position (is_called s.name s.desc) ms) refl (sym (position-cons (is_called s.name s.desc) x ms) ∙ e)
  where
    by : ((j : ℕ) → position (is_called s.name s.desc) ms ≡ Some j → slice_get ms j ≡ Some m
        → chosen test s ms ≡ Some m) → (b : Bool) → is_called s.name s.desc x ≡ b → (o : Option ℕ)
        → position (is_called s.name s.desc) ms ≡ o → (if b then Some 0 else option_map suc o) ≡ Some i
        → (if (test x && b) then Some x else chosen test s ms) ≡ Some m
    by next_one true f o g h =
        let first_one : 0 ≡ i = cc in
        let there : slice_get (x ∷ ms) 0 ≡ Some m = ap (slice_get (x ∷ ms)) first_one ∙ at in
        let same : x ≡ m = cc in
        ap (λ b. if (b && true) then Some x else chosen test s ms) (ap test same ∙ t) ∙ ap (λ (y : Member). Some y) same
    by next_one false f None g h = cc
    by next_one false f (Some j) g h =
        let next : suc j ≡ i = cc in
        let there : slice_get (x ∷ ms) (suc j) ≡ Some m = ap (slice_get (x ∷ ms)) next ∙ at in
        none (test x) ∙ next_one j g there
      where
        none : (b : Bool) → (if (b && false) then Some x else chosen test s ms) ≡ chosen test s ms
        none true = refl
        none false = refl

not_called : (s : Signature) (ms : List Member) → position (is_called s.name s.desc) ms ≡ None → chosen any_method s ms
    ≡ None
not_called s [] e = refl
not_called s (x ∷ ms) e = by (not_called s ms) (is_called s.name s.desc x) (position (is_called s.name s.desc) ms) refl
    (sym (position-cons (is_called s.name s.desc) x ms) ∙ e)
  where
    by : (position (is_called s.name s.desc) ms ≡ None → chosen any_method s ms ≡ None) → (b : Bool) (o : Option ℕ)
        → position (is_called s.name s.desc) ms ≡ o → (if b then Some 0 else option_map suc o) ≡ None
        → (if b then Some x else chosen any_method s ms) ≡ None
    by rest true o f g = cc
    by rest false None f g = rest f
    by rest false (Some j) f g = cc

module _ (files : Files) (n : ℕ) (t : ClassTree) (there : slice_get files.classes n ≡ Some t) (name desc : List ℕ) where
  abbrev c : Class
  c = declared n t

  abbrev s : Signature
  s = called name desc

  -- the place behind fields
  behind_fields : (i : ℕ) → record { imported = false; class = n; member = length t.fields + 0 + i }
      ≡ member_at c (length c.fields + i)
  behind_fields i =
      let long = length-map t.fields field_of_class in
      let at : length t.fields + 0 + i ≡ length c.fields + i = omega (arith, long) in
      ap (λ (k : ℕ). member_at c k) at

  behind_methods : (i : ℕ) → record { imported = false; class = n; member = length t.fields + length t.methods + i }
      ≡ member_at c (length c.fields + length c.methods + i)
  behind_methods i =
      let fields = length-map t.fields field_of_class in
      let methods = length-map t.methods method_of_class in
      let at : length t.fields + length t.methods + i ≡ length c.fields + length c.methods + i =
      omega (arith, fields, methods) in
      ap (λ (k : ℕ). member_at c k) at

  -- ---- package-visible methods

  pub hidden_missing : position (λ m. is_called name desc m) (map method_of_class t.methods) ≡ None
      → IsHiddenHere (all_classes files) (declared n t) (called name desc) None
  hidden_missing e = not_called s c.methods e

  module _ (i : ℕ) (x : MethodTree) (e : position (λ m. is_called name desc m) (map method_of_class t.methods) ≡ Some i)
      (at : slice_get t.methods i ≡ Some x) where
    abbrev m : Member
    m = method_of_class x

    at_member : slice_get c.methods i ≡ Some m
    at_member = slice_get-map method_of_class t.methods i ∙ ap (option_map method_of_class) at

    is_chosen : chosen any_method s c.methods ≡ Some m
    is_chosen = called_at any_method s c.methods i m e at_member refl

    signed : signature_of m ≡ s
    signed =
        let r = position-at (λ m. is_called name desc m) c.methods i e in
        let same_one : r.0 ≡ m = (let f : Some r.0 ≡ Some m = sym r.1 ∙ at_member in cc) in
        ap signature_of (sym same_one) ∙ same-true (signature_of r.0) s r.2

    pub hidden_other : (not (is_exposed x.flags) && is_virtual_by x.flags x.name) ≡ false
        → IsHiddenHere (all_classes files) (declared n t) (called name desc) (Some None)
    hidden_other f = (m, is_chosen, f)

    pub hidden_one : (applets : Bool) (u : ℕ) → is_interface t.flags ≡ false
        → (not (is_exposed x.flags) && is_virtual_by x.flags x.name) ≡ true
        → token_of_member (assigned applets files) (record {
          imported = false;
          class = n;
          member = length t.fields + 0 + i;
        }) ≡ Some u → IsHiddenHere (all_classes files) (declared n t)
        (called name desc) (Some (Some u))
    hidden_one applets u plain f kept = (
      m,
      is_chosen,
      f,
      ap (λ (v : Signature). option_map with_high_bit (token (hidden_slots (line_at (all_classes files) c)) v))
          (sym signed)
          ∙ sym (hidden_kept files applets n t there plain i m at_member (not_shown (is_exposed x.flags)
          (is_virtual_by x.flags x.name) f) f)
          ∙ ap (token_of_member (assigned applets files)) (sym (behind_fields i))
          ∙ kept,
    )
      where
        not_shown : (a b : Bool) → (not a && b) ≡ true → (a && b) ≡ false
        not_shown true b g = cc
        not_shown false b g = refl

  -- ---- public and protected methods

  pub shown_own : (applets : Bool) (i u : ℕ) → is_interface t.flags ≡ false
      → position (λ m. is_shown m && is_called name desc m) (map method_of_class t.methods) ≡ Some i
      → token_of_member (assigned applets files) (record {
        imported = false;
        class = n;
        member = length t.fields + 0 + i;
      }) ≡ Some u → IsShownHere (all_classes files) (declared n t)
      (called name desc) (Some u)
  shown_own applets i u plain e kept =
      let r = position-at (λ m. is_shown m && is_called name desc m) c.methods i e in
      let signed = same-true (signature_of r.0) s (both_back (is_shown r.0) (is_called name desc r.0) r.2) in
      ap (shown_token (line_at (all_classes files) c)) (sym signed)
      ∙ sym (shown_kept files applets n t there plain i r.0 r.1 (both_front (is_shown r.0)
      (is_called name desc r.0) r.2))
      ∙ ap (token_of_member (assigned applets files)) (sym (behind_fields i))
      ∙ kept

  module _ (ids : List MemberId) (are : ids ≡ added_at files n) where
    ids_are : ids ≡ map (named_by t.name) (added (all_classes files) c)
    unfolding added_at
    ids_are = are ∙ ap (added_to (all_classes files) n) there

    pub shown_got : (applets : Bool) (i u : ℕ) → is_interface t.flags ≡ false
        → position (λ m. is_called name desc m) (map member_of ids) ≡ Some i
        → token_of_member (assigned applets files) (record {
          imported = false;
          class = n;
          member = length t.fields + length t.methods + i;
        }) ≡ Some u → IsShownHere (all_classes files) (declared n t)
        (called name desc) (Some u)
    shown_got applets i u plain e kept =
        let r = position-at (λ m. is_called name desc m) (map member_of ids) i e in
        let got_one = ap (λ xs. slice_get (map member_of xs) i) (sym ids_are) in
        by (slice_get (added (all_classes files) c) i) refl
        (sym (ap (option_map member_of) (slice_get-map (named_by t.name) (added (all_classes files) c) i))
        ∙ sym (slice_get-map member_of (map (named_by t.name) (added (all_classes files) c)) i) ∙ got_one ∙ r.1) r.2
      where
        by : (o : Option Member) → slice_get (added (all_classes files) c) i ≡ o
            → option_map member_of (option_map (named_by t.name) o) ≡ Some (position-at (λ m. is_called name desc m)
            (map member_of ids) i e).0
            → is_called name desc (position-at (λ m. is_called name desc m) (map member_of ids) i e).0 ≡ true
            → IsShownHere (all_classes files) c s (Some u)
        by None f g is = cc
        by (Some m) f g is =
            let same_one : member_of (named_by t.name m) ≡ (position-at (λ m. is_called name desc m) (map member_of ids)
            i e).0 = (let h : Some (member_of (named_by t.name m)) ≡ Some (position-at (λ m. is_called name desc m)
            (map member_of ids) i e).0 = g in cc) in
            let signed : signature_of m ≡ s = same-true (signature_of m) s (ap (is_called name desc) same_one ∙ is) in
            ap (shown_token (line_at (all_classes files) c)) (sym signed)
            ∙ sym (got_kept files applets n t there plain i m f)
            ∙ ap (token_of_member (assigned applets files)) (sym (behind_methods i))
            ∙ kept

    pub shown_neither : position (λ m. is_shown m && is_called name desc m) (map method_of_class t.methods) ≡ None
        → position (λ m. is_called name desc m) (map member_of ids) ≡ None
        → IsShownHere (all_classes files) (declared n t) (called name desc) None
    unfolding own got
    shown_neither e f = (
      has-own_none is_shown s c (ap (option_map (λ i. member_at c (length c.fields + i))) e),
      ap (λ ss. has ss s) (sym (ap (λ xs. map signature_of (map member_of xs)) ids_are
          ∙ signatures-ids t.name (added (all_classes files) c)))
          ∙ has-got_none (map member_of ids) s c
          (ap (option_map (λ i. member_at c (length c.fields + length c.methods + i))) f),
    )
