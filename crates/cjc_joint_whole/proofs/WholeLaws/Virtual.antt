-- The virtual methods that an export file lists of a class are those that the class means by their tokens, and each
-- public or protected one that it means is listed.
use Rattle.std.proofs.Common.{◌≡◌, ℕ, zero, suc, ◌+◌, ◌<◌, refl, sym, ap, subst, ◌∙◌, arith, Bool, true, false, List, []}
use Rattle.std.proofs.Common.{◌∷◌, ◌++◌, length, map, ⊎_elim, Option, Some, None}
use Rattle.std.specs.Prelude.{not, ◌&&◌, ◌||◌, nat_lt, ◌==◌, option_map, position, slice_get, unwrap_or}
use Rattle.std.specs.Prelude.{if◌then◌else◌}
use Rattle.std.proofs.lemmas.Bool.{eqb-true}
use Rattle.std.proofs.lemmas.Bool.Decides.{nat_tests}
use Rattle.cjc_bytes.specs.AccessFlags.{is_interface, is_private, is_static}
use Rattle.cjc_bytes.specs.declared.settings.Settings.{Settings}
use Rattle.cjc_bytes.proofs.Bools.{both_back, both_front}
use Rattle.cjc_bytes.proofs.Gets.{get_behind, in_front, item_there, mapped_at}
use Rattle.cjc_components.specs.Bytecode.declared.method_code.MethodCode.{MethodCode}
use Rattle.cjc_components.specs.Descriptor.{as_added, methods_with_added}
use Rattle.cjc_components.specs.ExportFile.{added_from, export_class, exposed_entry, inherited_at, inherited_from}
use Rattle.cjc_components.specs.ExportFile.{is_listed, method_entry, method_meant, methods_from, supers_from}
use Rattle.cjc_components.specs.Names.{member_token}
use Rattle.cjc_components.specs.Package.{Package, has_applets, world}
use Rattle.cjc_narrow_proof.proofs.LawsLaws.Own.{first_here, own_kept}
use Rattle.cjc_shape_proof.proofs.WritingLaws.Entries.{listed_has}
use Rattle.cjc_shape_proof.proofs.WrittenLaws.FittingLaws.OwnTokens.{Offers, added_token, both_apart, exposed_token}
use Rattle.cjc_shape_proof.proofs.WrittenLaws.FittingLaws.OwnTokens.{given_apart, offers_given, offers_shown, own_apart}
use Rattle.cjc_shape_proof.proofs.WrittenLaws.FittingLaws.OwnTokens.{slot_there}
use Rattle.cjc_shape_proof.proofs.WrittenLaws.FittingLaws.Standing.{IsAddedAt, IsInheritedAt, IsListedAt, added_in}
use Rattle.cjc_shape_proof.proofs.WrittenLaws.FittingLaws.Standing.{inherited_in, listed_in}
use Rattle.cjc_theorem.proofs.FairWriting.Entries.{IsEntry, class_entry, named, place_meant, same_line, told}
use Rattle.cjc_theorem.proofs.FairWriting.Once.{place_token}
use Rattle.cjc_theorem.proofs.FairWriting.Upwards.{step_above}
use Rattle.cjc_token_proof.proofs.TablesLaws.Filed.{has-back, has-front}
use Rattle.cjc_token_proof.specs.Subset.Checks.{check_breaks}
use Rattle.cjc_token_proof.specs.Tables.Sound.{IsSound}
use Rattle.cjc_tokens.proofs.Facts.{same-refl, same-true}
use Rattle.cjc_tokens.proofs.Held.{token-slot}
use Rattle.cjc_tokens.specs.Lines.{Declared, Imported, Line, line_at, line_in, line_of}
use Rattle.cjc_tokens.specs.Members.{Signature, is_constructor, is_exposed, is_initialiser, is_shown, is_virtual}
use Rattle.cjc_tokens.specs.Members.{signature_of}
use Rattle.cjc_tokens.specs.Methods.{interface_methods, interface_row}
use Rattle.cjc_tokens.specs.Slots.{got, implementing, meant_by, own, row, shown_token, slots, token}
use Rattle.cjc_vtable.proofs.Filed.{Has, at-number, at_front, behind, has-either}
use Rattle.cjc_vtable.proofs.SlotNames.{position-at}
use Rattle.cjc_vtable.proofs.Towers.{row_at}
use Rattle.cjc_vtable.specs.Laws.{KeepsRules}
use Rattle.cjc_vtable.specs.Tables.{is_own}
use Rattle.cjc_world.proofs.Settled.{lists-front, supertypes-AreSupertypes}
use Rattle.cjc_world.proofs.UpwardLaws.Lines.{first_has, has-cons, line_below, line_named, listed_line}
use Rattle.cjc_world.specs.Added.{added}
use Rattle.cjc_world.specs.ClassFile.declared.tree.ClassTree.{ClassTree}
use Rattle.cjc_world.specs.Classes.{Class, Member, class_at, class_named, declared, method_of_class, method_of_export}
use Rattle.cjc_world.specs.ExportFile.Members.{is_unbound}
use Rattle.cjc_world.specs.ExportFile.declared.tree.ExportMethod.{ExportMethod}
use Rattle.cjc_world.specs.Lookup.{is_called, member_at, or_else}
use Rattle.cjc_world.specs.Rules.{is_earlier, is_twice}
use Rattle.cjc_world.specs.Supertypes.{AreSupertypes, End, Known, Lists, Supertypes, Unknown, ends, foremost}
use Rattle.cjc_world.specs.Supertypes.{known_here, supertypes, unknown_here, upwards}
use Rattle.cjc_world.specs.Upwards.{IsOrdered, OnLine, here, up}
use Rattle.cjc_world.specs.declared.found.Found.{Found}
use Rattle.cjc_joint_whole.specs.Entries.{IsOwnVirtual}

-- ---- lists

-- each method that a class inherits has its entry
inherited_has : (w : List Class) (c : Class) (t : ℕ) (fs : List (Option Found)) (k : ℕ) (f : Found) (m : Member)
    → slice_get fs k ≡ Some (Some f) → is_own c.number (Some f) ≡ false → method_meant w f ≡ Some m
    → is_exposed m.flags ≡ true → Has (method_entry (t + k) m) (inherited_from w c t fs)
inherited_has w c t [] k f m a b d e = cc
inherited_has w c t (g ∷ fs) zero f m a b d e =
    let one : g ≡ Some f = cc in
    let z : t + 0 ≡ t = omega arith in
    let entry : ExportMethod = method_entry (t + 0) m in
    let is : inherited_at w c t g ≡ entry ∷ [] =
    ap (inherited_at w c t) one
    ∙ ap (λ q. if q then [] else exposed_entry t (method_meant w f)) b
    ∙ ap (exposed_entry t) d
    ∙ ap (λ q. if q then method_entry t m ∷ [] else []) e
    ∙ ap (λ k. method_entry k m ∷ []) (sym z) in
    has-front entry (inherited_at w c t g) (inherited_from w c (t + 1) fs) (subst (λ (ys : List ExportMethod). Has entry
    ys) (sym is) at_front)
inherited_has w c t (g ∷ fs) (suc k) f m a b d e =
    let z : t + 1 + k ≡ t + suc k = omega arith in
    has-back (method_entry (t + suc k) m) (inherited_at w c t g) (inherited_from w c (t + 1) fs)
    (subst (λ k. Has (method_entry k m) (inherited_from w c (t + 1) fs)) z (inherited_has w c (t + 1) fs k f m a b d e))

-- and so has each that it got
added_has : (p : Package) (c : Class) (i : ℕ) (ms : List Member) (k : ℕ) (m : Member) → slice_get ms k ≡ Some m
    → Has (method_entry (member_token p (Some (member_at c (i + k)))) (as_added m)) (added_from p c i ms)
added_has p c i [] k m e = cc
added_has p c i (x ∷ ms) zero m e =
    let is : x ≡ m = cc in
    let z : i + 0 ≡ i = omega arith in
    let entry : ExportMethod = method_entry (member_token p (Some (member_at c (i + 0)))) (as_added m) in
    let one : method_entry (member_token p (Some (member_at c i))) (as_added x) ≡ entry =
    ap (λ (y : Member). method_entry (member_token p (Some (member_at c i))) (as_added y)) is
    ∙ ap (λ k. method_entry (member_token p (Some (member_at c k))) (as_added m)) (sym z) in
    subst (λ (y : ExportMethod). Has entry (y ∷ added_from p c (i + 1) ms)) (sym one) at_front
added_has p c i (x ∷ ms) (suc k) m e =
    let s : i + 1 + k ≡ i + suc k = omega arith in
    let entry : ℕ → ExportMethod = λ j. method_entry (member_token p (Some (member_at c j))) (as_added m) in
    behind (subst (λ j. Has (entry j) (added_from p c (i + 1) ms)) s (added_has p c (i + 1) ms k m e))

-- a method that is neither static nor a constructor, private or an initialiser is virtual
is_virtual_one : (e : ExportMethod) → is_private e.flags ≡ false → is_initialiser e.name ≡ false
    → is_unbound e.flags e.name ≡ false → is_virtual (method_of_export e) ≡ true
is_virtual_one e a b d = by (is_private e.flags) (is_static e.flags) (is_constructor e.name) (is_initialiser e.name) a b
    d
  where
    by : (q s c i : Bool) → q ≡ false → i ≡ false → (s || c) ≡ false → ((not q && not s) && not (c || i)) ≡ true
    by false false false false a b d = refl
    by true s c i a b d = cc
    by false true c i a b d = cc
    by false false true i a b d = cc
    by false false false true a b d = cc

both : (a b : Bool) → a ≡ true → b ≡ true → (a && b) ≡ true
both true b e f = f
both false b e f = cc

same_member : {m n : Member} → Some m ≡ Some n → m ≡ n
same_member e = cc

same_found : {f g : Found} → Some f ≡ Some g → f ≡ g
same_found e = cc

same_item : {A : Type 0} {x y : A} → Some x ≡ Some y → x ≡ y
same_item e = cc

-- ---- a package

module _ (list : List ℕ) (p : Package) (codes : List MethodCode) (settings : Settings) (sound : IsSound list p.files)
    (checks : check_breaks list p.files codes settings ≡ []) (ordered : IsOrdered (world p)) (rules : KeepsRules
    (world p)) where
  abbrev w : List Class
  w = world p

  -- what a line means by a name and descriptor is a method of one of its classes
  record IsOnLine (xs : List (List ℕ)) (f : Found) : Type 0 where
    from : List ℕ
    listed : Lists from xs
    class : Class
    on : OnLine w from class
    imported : f.imported ≡ class.is_imported
    number : f.class ≡ class.number

  member_on : (d : Class) (i : ℕ) (f : Found) → member_at d i ≡ f → (f.imported ≡ d.is_imported)
      × (f.class ≡ d.number)
  member_on d i f e = (ap (λ (g : Found). g.imported) (sym e), ap (λ (g : Found). g.class) (sym e))

  own_on : (test : Member → Bool) (s : Signature) (d : Class) (f : Found) → own test s d ≡ Some f
      → (f.imported ≡ d.is_imported) × (f.class ≡ d.number)
  unfolding own
  own_on test s d f e = by (position (λ m. test m && is_called s.name s.desc m) d.methods) e
    where
      by : (o : Option ℕ) → option_map (λ i. member_at d (length d.fields + i)) o ≡ Some f
          → (f.imported ≡ d.is_imported) × (f.class ≡ d.number)
      by None h = cc
      by (Some i) h = member_on d (length d.fields + i) f (same_found h)

  got_on : (given : List Member) (s : Signature) (d : Class) (f : Found) → got given s d ≡ Some f
      → (f.imported ≡ d.is_imported) × (f.class ≡ d.number)
  unfolding got
  got_on given s d f e = by (position (λ m. is_called s.name s.desc m) given) e
    where
      by : (o : Option ℕ) → option_map (λ i. member_at d (length d.fields + length d.methods + i)) o ≡ Some f
          → (f.imported ≡ d.is_imported) × (f.class ≡ d.number)
      by None h = cc
      by (Some i) h = member_on d (length d.fields + length d.methods + i) f (same_found h)

  line_from : (xs : List (List ℕ)) (k : Supertypes) → AreSupertypes w xs k → (s : Signature) (f : Found)
      → implementing (line_in w k) s ≡ Some f → IsOnLine xs f
  line_from xs End ends s f e = cc
  line_from xs (Unknown x next) (unknown_here g n) s f e = cc
  line_from xs (Known c supers interfaces next) (known_here {x = x} {xs = rest} g sk ik n) s f e =
      by c.is_imported e (line_from c.supers supers sk s f)
    where
      here_one : (d : Class) → d ≡ c → (f.imported ≡ d.is_imported) × (f.class ≡ d.number) → IsOnLine (x ∷ rest) f
      here_one d same at = record {
        from = x;
        listed = foremost;
        class = d;
        on = here (g ∙ ap Some (sym same));
        imported = at.0;
        number = at.1;
      }

      above_one : (y : List ℕ) → Lists y c.supers → (d : Class) → OnLine w y d → (f.imported ≡ d.is_imported)
          × (f.class ≡ d.number) → IsOnLine (x ∷ rest) f
      above_one y l d on at = record {
        from = x;
        listed = foremost;
        class = d;
        on = up c g l on;
        imported = at.0;
        number = at.1;
      }

      by : (b : Bool) → implementing (if b then Imported (c ∷ upwards supers)
          else Declared c (added w c) (line_in w supers)) s ≡ Some f → (implementing (line_in w supers) s ≡ Some f
          → IsOnLine c.supers f) → IsOnLine (x ∷ rest) f
      by true h above =
          let r = first_has (own is_virtual s) (c ∷ upwards supers) f h in
          ⊎_elim
          (λ same. here_one r.0 same (own_on is_virtual s r.0 f r.2))
          (λ i. let l = listed_line w c.supers supers r.0 sk i in above_one l.0 l.1 r.0 l.2 (own_on is_virtual s r.0 f
          r.2))
          (has-cons r.0 c (upwards supers) r.1)
      by false h above = own_first (own is_shown s c) refl h
        where
          got_first : (o : Option Found) → got (added w c) s c ≡ o → or_else o (implementing (line_in w supers) s)
              ≡ Some f → IsOnLine (x ∷ rest) f
          got_first (Some d) i j = here_one c refl (got_on (added w c) s c f (i ∙ j))
          got_first None i j = let r = above j in above_one r.from r.listed r.class r.on (r.imported, r.number)

          own_first : (o : Option Found) → own is_shown s c ≡ o
              → or_else o (or_else (got (added w c) s c) (implementing (line_in w supers) s)) ≡ Some f
              → IsOnLine (x ∷ rest) f
          own_first (Some d) i j = here_one c refl (own_on is_shown s c f (i ∙ j))
          own_first None i j = got_first (got (added w c) s c) refl j

  -- ---- a class of the package that is no interface

  module _ (n : ℕ) (t : ClassTree) (there : (let v = p.files in slice_get v.classes n ≡ Some t))
      (plain : is_interface t.flags ≡ false) where
    abbrev c : Class
    c = declared n t

    abbrev given : List Member
    given = added w c

    abbrev methods : List Member
    methods = map method_of_class t.methods

    abbrev fields : ℕ
    fields = length c.fields

    abbrev tok : ℕ → ℕ
    tok j = member_token p (Some (member_at c j))

    abbrev above : Line
    above = line_in w (supertypes w c.supers)

    named_here : class_named w t.name ≡ Some c
    named_here = named list p codes settings sound checks ordered n t there

    line_here : line_of w t.name ≡ line_at w c
    line_here = same_line list p codes settings sound checks ordered n t there plain rules

    once : (k : ℕ) (m : Member) → slice_get methods k ≡ Some m → is_twice methods k m.name m.desc ≡ false
    once k m e =
        let r = mapped_at method_of_class t.methods k m e in
        let kept = own_kept p.files list sound.classes sound.unbroken n t there in
        ap (λ (x : Member). is_twice methods k x.name x.desc) (sym r.2) ∙ (kept.methods k r.0 r.1).0

    -- a method of the line above is not its own
    not_own : (s : Signature) (f : Found) → implementing above s ≡ Some f → is_own n (Some f) ≡ false
    not_own s f e = by f.imported refl (f.class == n) refl
      where
        r : IsOnLine c.supers f
        r = line_from c.supers (supertypes w c.supers) (supertypes-AreSupertypes w ordered.acyclic c.supers) s f e

        by : (a : Bool) → f.imported ≡ a → (b : Bool) → (f.class == n) ≡ b → (not a && b) ≡ false
        by true g b h = refl
        by false g false h = refl
        by false g true h =
            let d = r.class in
            let its_number : d.number ≡ n = sym r.number ∙ eqb-true f.class n h in
            let one : Some d ≡ Some c = sym (at-number p.files d.name d (line_named w r.from d r.on))
            ∙ ap (λ a. class_at w a d.number) (sym r.imported ∙ g) ∙ ap (class_at w false) its_number
            ∙ at-number p.files t.name c named_here in
            absurd (ordered.acyclic t.name (step_above w t.name r.from t.name c named_here
            (lists-front r.from c.supers c.interfaces r.listed)
            (line_below w r.from c (subst (OnLine w r.from) (same_item one) r.on))))

    -- ---- what its tokens mean

    slot_at : (s : Signature) (k : ℕ) → token (slots (line_of w t.name)) s ≡ Some k
        → slice_get (slots (line_at w c)) k ≡ Some (Some s)
    slot_at s k e = ap (λ l. slice_get (slots l) k) (sym line_here) ∙ token-slot (slots (line_of w t.name)) s k e

    token_at : (s : Signature) (k : ℕ) → slice_get (slots (line_at w c)) k ≡ Some (Some s)
        → token (slots (line_of w t.name)) s ≡ Some k
    token_at s k e = place_token (line_of w t.name) (told list p codes settings sound checks ordered n t there plain
        rules) k s (ap (λ l. slice_get (slots l) k) line_here ∙ e)

    means : (s : Signature) (k : ℕ) → slice_get (slots (line_at w c)) k ≡ Some (Some s)
        → slice_get (row (line_at w c)) k ≡ Some (implementing (line_at w c) s)
    means s k e = row_at (implementing (line_at w c)) (slots (line_at w c)) k s e

    -- the place of a slot is the token of a method that the class declares or got
    tok_is : (s : Signature) (k j : ℕ) → Offers p.files (has_applets p) n t there plain s
        → tok j ≡ unwrap_or (shown_token (line_at w c) s) 0xFF → slice_get (slots (line_at w c)) k ≡ Some (Some s)
        → tok j ≡ k
    tok_is s k j offers e at =
        let r = slot_there p.files (has_applets p) n t there plain s offers in
        let both : Some r.0 ≡ Some k = sym (token_at s r.0 r.2) ∙ token_at s k at in
        e ∙ ap (λ q. unwrap_or q 0xFF) r.1 ∙ same_item both

    -- ---- its own methods, and those that it got

    -- the first public or protected one of its name and descriptor is itself
    own_is : (k : ℕ) (m : Member) → slice_get methods k ≡ Some m → is_shown m ≡ true
        → own is_shown (signature_of m) c ≡ Some (member_at c (fields + k))
    unfolding own
    own_is k m at shown = ap (option_map (λ i. member_at c (fields + i))) (first_here test methods k m at
        (both (is_shown m) (is_called m.name m.desc m) shown (same-refl (signature_of m)))
        (by (position test methods) refl))
      where
        test : Member → Bool
        test q = is_shown q && is_called m.name m.desc q

        by : (o : Option ℕ) → position test methods ≡ o → is_earlier o k ≡ false
        by None e = refl
        by (Some j) e = on (nat_lt j k) refl
          where
            on : (b : Bool) → nat_lt j k ≡ b → b ≡ false
            on false g = refl
            on true g =
                let r = position-at test methods j e in
                let lt : j < k = grind (arith, nat_tests, g) in
                absurd (own_apart p.files (has_applets p) n t there plain once j k r.0 m lt r.1 at
                (same-true (signature_of r.0) (signature_of m) (both_back (is_shown r.0) (is_called m.name m.desc r.0)
                r.2)))

    own_means : (k : ℕ) (m : Member) → slice_get methods k ≡ Some m → is_shown m ≡ true
        → implementing (line_at w c) (signature_of m) ≡ Some (member_at c (fields + k))
    own_means k m at shown = ap (λ o. or_else o (or_else (got given (signature_of m) c) (implementing above
        (signature_of m)))) (own_is k m at shown)

    own_meant : (k : ℕ) (m : Member) → slice_get methods k ≡ Some m
        → method_meant w (member_at c (fields + k)) ≡ Some m
    own_meant k m at = place_meant list p codes settings sound checks ordered c named_here k m
        (in_front methods (map as_added given) k m at)

    -- none of its own has the name and descriptor of one that it got
    own_none : (k : ℕ) (m : Member) → slice_get given k ≡ Some m → own is_shown (signature_of m) c ≡ None
    unfolding own
    own_none k m at = by (position test methods) refl
      where
        test : Member → Bool
        test q = is_shown q && is_called m.name m.desc q

        by : (o : Option ℕ) → position test methods ≡ o → option_map (λ i. member_at c (fields + i)) o ≡ None
        by None e = refl
        by (Some j) e =
            let r = position-at test methods j e in
            absurd (both_apart p.files (has_applets p) n t there plain j k r.0 m r.1 (both_front (is_shown r.0)
            (is_called m.name m.desc r.0) r.2) at (same-true (signature_of r.0) (signature_of m)
            (both_back (is_shown r.0) (is_called m.name m.desc r.0) r.2)))

    given_is : (k : ℕ) (m : Member) → slice_get given k ≡ Some m
        → got given (signature_of m) c ≡ Some (member_at c (fields + length c.methods + k))
    unfolding got
    given_is k m at = ap (option_map (λ i. member_at c (fields + length c.methods + i))) (first_here test given k m at
        (same-refl (signature_of m)) (by (position test given) refl))
      where
        test : Member → Bool
        test q = is_called m.name m.desc q

        by : (o : Option ℕ) → position test given ≡ o → is_earlier o k ≡ false
        by None e = refl
        by (Some j) e = on (nat_lt j k) refl
          where
            on : (b : Bool) → nat_lt j k ≡ b → b ≡ false
            on false g = refl
            on true g =
                let r = position-at test given j e in
                let lt : j < k = grind (arith, nat_tests, g) in
                absurd (given_apart p.files (has_applets p) n t there plain j k r.0 m lt r.1 at
                (same-true (signature_of r.0) (signature_of m) r.2))

    given_means : (k : ℕ) (m : Member) → slice_get given k ≡ Some m
        → implementing (line_at w c) (signature_of m) ≡ Some (member_at c (fields + length c.methods + k))
    given_means k m at =
        ap (λ o. or_else o (or_else (got given (signature_of m) c) (implementing above (signature_of m))))
        (own_none k m at)
        ∙ ap (λ o. or_else o (implementing above (signature_of m))) (given_is k m at)

    given_meant : (k : ℕ) (m : Member) → slice_get given k ≡ Some m
        → method_meant w (member_at c (fields + length c.methods + k)) ≡ Some (as_added m)
    given_meant k m at =
        let moved : fields + length c.methods + k ≡ fields + (length c.methods + k) = omega arith in
        let there' : slice_get (methods_with_added w c) (length c.methods + k) ≡ Some (as_added m) =
        get_behind methods (map as_added given) k ∙ item_there as_added given k m at in
        ap (λ j. method_meant w (member_at c j)) moved
        ∙ place_meant list p codes settings sound checks ordered c named_here (length c.methods + k) (as_added m) there'

    -- ---- entries

    abbrev A : List ExportMethod
    A = methods_from p c fields methods

    abbrev B : List ExportMethod
    B = added_from p c (fields + length methods) given

    abbrev C : List ExportMethod
    C = inherited_from w c 0 (row (line_at w c))

    abbrev D : List ExportMethod
    D = supers_from w c 0 (interface_methods w c) (interface_row w c)

    class_methods : (let x = export_class p c in x.methods) ≡ A ++ (B ++ C)
    class_methods = ap (λ b. A ++ (B ++ (if b then D else C))) plain

    module _ (e : ExportMethod) (listed : Has e (let x = export_class p c in x.methods))
        (bound : is_unbound e.flags e.name ≡ false) where
      entry : IsEntry list p codes settings sound checks ordered n t there e
      entry = class_entry list p codes settings sound checks ordered n t there plain rules e listed

      virtual : is_virtual (method_of_export e) ≡ true
      virtual = let i = entry in is_virtual_one e i.visible i.plain bound

      its_token : token (slots (line_of w t.name)) (signature_of (method_of_export e)) ≡ Some e.token
      its_token = let i = entry in i.its_token virtual

      -- by the method that its name and descriptor mean
      made : (f : Found) (m : Member) → implementing (line_at w c) (signature_of m) ≡ Some f
          → method_meant w f ≡ Some m → method_entry e.token m ≡ e → IsOwnVirtual p c e
      made f m implements meant is =
          let same : signature_of (method_of_export e) ≡ signature_of m =
          ap (λ (y : ExportMethod). signature_of (method_of_export y)) (sym is) in
          let at = ap (token (slots (line_of w t.name))) (sym same) ∙ its_token in
          record {
            found = f;
            there = means (signature_of m) e.token (slot_at (signature_of m) e.token at) ∙ ap Some implements;
            member = m;
            meant = meant;
            is = is;
            exposed = ap (λ (y : ExportMethod). is_exposed y.flags) is ∙ (let i = entry in i.exposed);
            its_token = at;
          }

      again : (k : ℕ) (m : Member) → method_entry k m ≡ e → method_entry e.token m ≡ e
      again k m is = ap (λ j. method_entry j m) (sym (ap (λ (y : ExportMethod). y.token) is)) ∙ is

      own_virtual : IsListedAt p c fields methods e → IsOwnVirtual p c e
      own_virtual r =
          let m = r.member in
          let shown : is_shown m ≡ true = both (is_exposed m.flags) (is_virtual m)
          (ap (λ (y : ExportMethod). is_exposed y.flags) r.is ∙ (let i = entry in i.exposed))
          (ap (λ (y : ExportMethod). is_virtual (method_of_export y)) r.is ∙ virtual) in
          made (member_at c (fields + r.place)) m (own_means r.place m r.there shown) (own_meant r.place m r.there)
          (again (tok (fields + r.place)) m r.is)

      given_virtual : IsAddedAt p c (fields + length methods) given e → IsOwnVirtual p c e
      given_virtual r =
          let m = r.member in
          made (member_at c (fields + length methods + r.place)) (as_added m) (given_means r.place m r.there)
          (given_meant r.place m r.there) (again (tok (fields + length methods + r.place)) (as_added m) r.is)

      inherited_virtual : IsInheritedAt w c 0 (row (line_at w c)) e → IsOwnVirtual p c e
      inherited_virtual r =
          let m = r.member in
          let zero_more : 0 + r.place ≡ r.place = omega arith in
          let at : e.token ≡ r.place = sym (ap (λ (y : ExportMethod). y.token) r.is) ∙ zero_more in
          let same : signature_of (method_of_export e) ≡ signature_of m =
          ap (λ (y : ExportMethod). signature_of (method_of_export y)) (sym r.is) in
          record {
            found = r.found;
            there = ap (slice_get (row (line_at w c))) at ∙ r.there;
            member = m;
            meant = r.meant;
            is = again (0 + r.place) m r.is;
            exposed = r.exposed;
            its_token = ap (token (slots (line_of w t.name))) (sym same) ∙ its_token;
          }

      pub entry_is_own : IsOwnVirtual p c e
      entry_is_own = ⊎_elim
          (λ a. own_virtual (listed_in p c fields methods e a))
          (λ b. ⊎_elim (λ d. given_virtual (added_in p c (fields + length methods) given e d))
          (λ d. inherited_virtual (inherited_in w c 0 (row (line_at w c)) e d)) (has-either e B C b))
          (has-either e A (B ++ C) (subst (Has e) class_methods listed))

    -- ---- each token has its entry

    module _ (k : ℕ) (f : Found) (m : Member) (at : slice_get (row (line_at w c)) k ≡ Some (Some f))
        (meant : method_meant w f ≡ Some m) (exposed : is_exposed m.flags ≡ true) where
      abbrev e : ExportMethod
      e = method_entry k m

      abbrev Listed : Type 0
      Listed = Has e (let x = export_class p c in x.methods)

      in_own : Has e A → Listed
      in_own h = subst (Has e) (sym class_methods) (has-front e A (B ++ C) h)

      in_given : Has e B → Listed
      in_given h = subst (Has e) (sym class_methods) (has-back e A (B ++ C) (has-front e B C h))

      in_inherited : Has e C → Listed
      in_inherited h = subst (Has e) (sym class_methods) (has-back e A (B ++ C) (has-back e B C h))

      slot : (q : Option Signature) × (slice_get (slots (line_at w c)) k ≡ Some q)
          × (meant_by (implementing (line_at w c)) q ≡ Some f)
      slot = mapped_at (meant_by (implementing (line_at w c))) (slots (line_at w c)) k (Some f) at

      open_listed : (a i : Bool) → a ≡ true → i ≡ false → (b : Bool) → ((b || a) && not i) ≡ true
      open_listed true false g h true = refl
      open_listed true false g h false = refl
      open_listed true true g h b = cc
      open_listed false i g h b = cc

      shown_plain : (x : Member) → is_shown x ≡ true → is_initialiser x.name ≡ false
      shown_plain x h = by (is_exposed x.flags) (is_private x.flags) (is_static x.flags) (is_constructor x.name)
          (is_initialiser x.name) h
        where
          by : (a q s c i : Bool) → (a && ((not q && not s) && not (c || i))) ≡ true → i ≡ false
          by false q s c i g = cc
          by true true s c i g = cc
          by true false true c i g = cc
          by true false false true i g = cc
          by true false false false true g = cc
          by true false false false false g = refl

      by_own : (s : Signature) → slice_get (slots (line_at w c)) k ≡ Some (Some s) → own is_shown s c ≡ Some f → Listed
      unfolding own
      by_own s at_slot h = by (position test methods) refl h
        where
          test : Member → Bool
          test q = is_shown q && is_called s.name s.desc q

          by : (o : Option ℕ) → position test methods ≡ o → option_map (λ i. member_at c (fields + i)) o ≡ Some f
              → Listed
          by None g i = cc
          by (Some j) g i =
              let r = position-at test methods j g in
              let x = r.0 in
              let shown = both_front (is_shown x) (is_called s.name s.desc x) r.2 in
              let is_s : signature_of x ≡ s = same-true (signature_of x) s (both_back (is_shown x)
              (is_called s.name s.desc x) r.2) in
              let same : x ≡ m = same_member (sym (own_meant j x r.1) ∙ ap (method_meant w) (same_found i) ∙ meant) in
              let its : tok (fields + j) ≡ k = tok_is (signature_of x) k (fields + j)
              (offers_shown p.files (has_applets p) n t there plain j x r.1 shown) (ap (λ q. unwrap_or q 0xFF)
              (exposed_token p.files (has_applets p) n t there plain j x r.1 shown)) (at_slot ∙ ap (λ (q : Signature).
              Some (Some q)) (sym is_s)) in
              let kind : is_listed c x ≡ true = open_listed (is_exposed x.flags) (is_initialiser x.name)
              (both_front (is_exposed x.flags) (is_virtual x) shown) (shown_plain x shown) (is_interface c.flags) in
              in_own (subst (λ (y : ExportMethod). Has y A) (ap (λ q. method_entry q x) its ∙ ap (method_entry k) same)
              (listed_has p c fields methods j x r.1 kind))

      by_given : (s : Signature) → slice_get (slots (line_at w c)) k ≡ Some (Some s) → got given s c ≡ Some f → Listed
      unfolding got
      by_given s at_slot h = by (position test given) refl h
        where
          test : Member → Bool
          test q = is_called s.name s.desc q

          by : (o : Option ℕ) → position test given ≡ o
              → option_map (λ i. member_at c (fields + length c.methods + i)) o ≡ Some f → Listed
          by None g i = cc
          by (Some j) g i =
              let r = position-at test given j g in
              let x = r.0 in
              let is_s : signature_of x ≡ s = same-true (signature_of x) s r.2 in
              let same : as_added x ≡ m = same_member (sym (given_meant j x r.1) ∙ ap (method_meant w) (same_found i)
              ∙ meant) in
              let its : tok (fields + length c.methods + j) ≡ k = tok_is (signature_of x) k (fields + length c.methods
              + j) (offers_given p.files (has_applets p) n t there plain j x r.1) (ap (λ q. unwrap_or q 0xFF)
              (added_token p.files (has_applets p) n t there plain j x r.1)) (at_slot ∙ ap (λ (q : Signature).
              Some (Some q)) (sym is_s)) in
              in_given (subst (λ (y : ExportMethod). Has y B) (ap (λ q. method_entry q (as_added x)) its
              ∙ ap (method_entry k) same) (added_has p c (fields + length methods) given j x r.1))

      by_above : (s : Signature) → implementing above s ≡ Some f → Listed
      by_above s h =
          let z : 0 + k ≡ k = omega arith in
          in_inherited (subst (λ q. Has (method_entry q m) C) z (inherited_has w c 0 (row (line_at w c)) k f m at
          (not_own s f h) meant exposed))

      pub meant_is_listed : Listed
      meant_is_listed = by slot.0 slot.1 slot.2
        where
          by : (q : Option Signature) → slice_get (slots (line_at w c)) k ≡ Some q
              → meant_by (implementing (line_at w c)) q ≡ Some f → Listed
          by None g h = cc
          by (Some s) g h = own_first (own is_shown s c) refl h
            where
              got_first : (o : Option Found) → got given s c ≡ o → or_else o (implementing above s) ≡ Some f → Listed
              got_first (Some d) i j = by_given s g (i ∙ j)
              got_first None i j = by_above s j

              own_first : (o : Option Found) → own is_shown s c ≡ o → or_else o (or_else (got given s c)
                  (implementing above s)) ≡ Some f → Listed
              own_first (Some d) i j = by_own s g (i ∙ j)
              own_first None i j = got_first (got given s c) refl j
