-- What holds of each method that the export file of a package lists of its classes.
use Rattle.std.proofs.Common.{◌≡◌, ℕ, ◌+◌, ◌-◌, refl, sym, ap, subst, ◌∙◌, arith, Bool, true, false, List}
use Rattle.std.proofs.Common.{[], ◌∷◌, ◌++◌, length, map, ⊎_elim, Option, Some, None}
use Rattle.std.specs.Prelude.{not, ◌&&◌, ◌||◌, option_map, position, slice_get, unwrap_or, if◌then◌else◌, is_some}
use Rattle.std.proofs.lemmas.Option.{slice_get-map}
use Rattle.cjc_bytes.specs.AccessFlags.{is_interface}
use Rattle.cjc_bytes.specs.AccessFlags.{is_private, is_protected, is_public, is_static}
use Rattle.cjc_bytes.specs.declared.settings.Settings.{Settings}
use Rattle.cjc_bytes.proofs.Bools.{both_front, both_back}
use Rattle.cjc_bytes.proofs.Gets.{in_front, get_behind, mapped_at}
use Rattle.cjc_world.specs.ClassFile.declared.tree.ClassTree.{ClassTree}
use Rattle.cjc_components.specs.Bytecode.declared.method_code.MethodCode.{MethodCode}
use Rattle.cjc_components.specs.Descriptor.{as_added, method_in, methods_with_added, no_member}
use Rattle.cjc_components.specs.ExportFile.{added_from, export_class, inherited_from, is_listed, method_entry}
use Rattle.cjc_components.specs.ExportFile.{method_meant, methods_from, supers_from}
use Rattle.cjc_components.specs.Names.{member_token}
use Rattle.cjc_components.specs.Package.{Package, has_applets, world}
use Rattle.cjc_world.specs.ExportFile.declared.tree.ExportMethod.{ExportMethod}
use Rattle.cjc_shape_proof.proofs.WrittenLaws.FittingLaws.OwnTokens.{Offers, added_token, offers_given, offers_shown}
use Rattle.cjc_shape_proof.proofs.WrittenLaws.FittingLaws.OwnTokens.{exposed_token, slot_there}
use Rattle.cjc_shape_proof.proofs.WrittenLaws.FittingLaws.Rules as Rules
use Rattle.cjc_shape_proof.proofs.WrittenLaws.FittingLaws.Standing.{IsInheritedAt, added_in, inherited_in, listed_in}
use Rattle.cjc_token_proof.proofs.TablesLaws.Clean.{own_name}
use Rattle.cjc_token_proof.proofs.TablesLaws.Filed.{own_in, has-front}
use Rattle.cjc_token_proof.specs.Subset.Checks.{check_breaks}
use Rattle.cjc_token_proof.specs.Subset.Flags.{has_two_accesses}
use Rattle.cjc_token_proof.specs.Tables.Sound.{IsSound}
use Rattle.cjc_tokens.proofs.Facts.{same-true}
use Rattle.cjc_tokens.specs.Lines.{Declared, Imported, line_at, line_in, line_of}
use Rattle.cjc_tokens.specs.Members.{Signature, is_constructor, is_exposed, is_initialiser, is_shown, is_virtual}
use Rattle.cjc_tokens.specs.Members.{signature_of}
use Rattle.cjc_tokens.specs.Methods.{interface_methods, interface_row}
use Rattle.cjc_tokens.specs.Slots.{got, implementing, meant_by, own, row, shown_token, slots, token}
use Rattle.cjc_world.proofs.UpwardLaws.Lines.{first_has, has-cons, line_named, listed_line}
use Rattle.cjc_world.specs.Upwards.{IsOrdered}
use Rattle.cjc_vtable.proofs.Filed.{Has, at-number}
use Rattle.cjc_vtable.proofs.Filed.{has-either}
use Rattle.cjc_vtable.proofs.SlotNames.{position-at}
use Rattle.cjc_vtable.proofs.Worlds.{told-class}
use Rattle.cjc_vtable.specs.Calls.{IsTold}
use Rattle.cjc_vtable.specs.Laws.{KeepsRules}
use Rattle.cjc_world.proofs.Cycles.{class_named-name}
use Rattle.cjc_world.proofs.Settled.{AreSupertypes-one, supertypes-AreSupertypes, supertypes-known}
use Rattle.cjc_world.specs.Added.{added, asked_by, declares_open, has_open, lacking, own_methods}
use Rattle.cjc_world.specs.Added.{takes_added}
use Rattle.cjc_world.specs.Classes.{Class, Member, class_named, declared, field_of_class, method_of_class}
use Rattle.cjc_world.specs.Classes.{method_of_export}
use Rattle.cjc_world.specs.Supertypes.{End, AreSupertypes, Supertypes, Known, Unknown, ends, supertypes, known_here}
use Rattle.cjc_world.specs.Supertypes.{unknown_here, upwards}
use Rattle.cjc_world.specs.Lookup.{is_called, member_at, or_else}
use Rattle.cjc_world.specs.declared.found.Found.{Found}
use Rattle.cjc_shape_proof.proofs.WritingLaws.Signatures.{asked_plain}
use Rattle.cjc_theorem.proofs.FairWriting.Once.{place_token}
use Rattle.cjc_shape_proof.proofs.WritingLaws.Lacking.{lacking_has}
use Rattle.cjc_shape_proof.proofs.WritingLaws.Flags.{one_access}

-- ---- tests and lists

-- a virtual method is neither private nor an initialiser
virtual_plain : (m : Member) → is_virtual m ≡ true → (is_private m.flags ≡ false) × (is_initialiser m.name ≡ false)
virtual_plain m e = by (is_private m.flags) (is_static m.flags) (is_constructor m.name) (is_initialiser m.name) e
  where
    by : (q s c i : Bool) → ((not q && not s) && not (c || i)) ≡ true → (q ≡ false) × (i ≡ false)
    by true s c i e = cc
    by false true c i e = cc
    by false false true i e = cc
    by false false false true e = cc
    by false false false false e = (refl, refl)

exposed_visible : (flags : ℕ) → has_two_accesses flags ≡ false → is_exposed flags ≡ true → is_private flags ≡ false
exposed_visible flags one e = by (is_public flags) (is_protected flags) (is_private flags) one e
  where
    by : (a b p : Bool) → ((a && p) || (a && b) || (p && b)) ≡ false → (a || b) ≡ true → p ≡ false
    by a b false e f = refl
    by true b true e f = cc
    by false true true e f = cc
    by false false true e f = cc

-- a method that a class got is no initialiser
added_plain : (w : List Class) (c : Class) (k : ℕ) (m : Member) → slice_get (added w c) k ≡ Some m
    → is_initialiser m.name ≡ false
unfolding added
added_plain w c k m e = by (takes_added c) e
  where
    test : Member → Bool
    test q = declares_open q.name q.desc c || has_open q.name q.desc (supertypes w c.supers)

    by : (b : Bool)
        → slice_get (if b then lacking test [] (asked_by (supertypes w c.supers) (supertypes w c.interfaces)) else []) k
        ≡ Some m → is_initialiser m.name ≡ false
    by true f = asked_plain (supertypes w c.supers) (supertypes w c.interfaces) c m
        (has-front m (asked_by (supertypes w c.supers) (supertypes w c.interfaces)) (own_methods c)
        (lacking_has test [] (asked_by (supertypes w c.supers) (supertypes w c.interfaces)) k m f))
    by false f = cc

same_member : {m n : Member} → Some m ≡ Some n → m ≡ n
same_member e = cc

-- ---- a package

module _ (list : List ℕ) (p : Package) (codes : List MethodCode) (settings : Settings) (sound : IsSound list p.files)
    (checks : check_breaks list p.files codes settings ≡ []) (ordered : IsOrdered (world p)) where
  abbrev w : List Class
  w = world p

  are_supertypes : (xs : List (List ℕ)) → AreSupertypes w xs (supertypes w xs)
  are_supertypes xs = supertypes-AreSupertypes w ordered.acyclic xs

  -- ---- what is found

  pub place_meant : (d : Class) → class_named w d.name ≡ Some d → (i : ℕ) (m : Member)
      → slice_get (methods_with_added w d) i ≡ Some m → method_meant w (member_at d (length d.fields + i)) ≡ Some m
  place_meant d named i m at =
      let sub : length d.fields + i - length d.fields ≡ i = omega arith in
      ap (option_map (λ (c : Class). method_in w c (length d.fields + i))) (at-number p.files d.name d named)
      ∙ ap (λ j. Some (unwrap_or (slice_get (methods_with_added w d) j) no_member)) sub
      ∙ ap (λ o. Some (unwrap_or o no_member)) at

  -- the method that is found has the signature, and is neither private nor an initialiser
  record IsMeant (s : Signature) (f : Found) : Type 0 where
    member : Member
    meant : method_meant w f ≡ Some member
    signature : signature_of member ≡ s
    visible : is_private member.flags ≡ false
    plain : is_initialiser member.name ≡ false

  own_meant : (d : Class) → class_named w d.name ≡ Some d → (test : Member → Bool) → ((m : Member) → test m ≡ true
      → (is_private m.flags ≡ false) × (is_initialiser m.name ≡ false)) → (s : Signature) (f : Found)
      → own test s d ≡ Some f → IsMeant s f
  unfolding own
  own_meant d named test passes s f e = by (position (λ m. test m && is_called s.name s.desc m) d.methods) refl e
    where
      by : (o : Option ℕ) → position (λ m. test m && is_called s.name s.desc m) d.methods ≡ o
          → option_map (λ i. member_at d (length d.fields + i)) o ≡ Some f → IsMeant s f
      by None g h = cc
      by (Some i) g h =
          let same : member_at d (length d.fields + i) ≡ f = cc in
          let r = position-at (λ m. test m && is_called s.name s.desc m) d.methods i g in
          let kind = passes r.0 (both_front (test r.0) (is_called s.name s.desc r.0) r.2) in
          record {
            member = r.0;
            meant = ap (method_meant w) (sym same)
                ∙ place_meant d named i r.0 (in_front d.methods (map as_added (added w d)) i r.0 r.1);
            signature = same-true (signature_of r.0) s (both_back (test r.0) (is_called s.name s.desc r.0) r.2);
            visible = kind.0;
            plain = kind.1;
          }

  got_meant : (d : Class) → class_named w d.name ≡ Some d → (s : Signature) (f : Found) → got (added w d) s d ≡ Some f
      → IsMeant s f
  unfolding got
  got_meant d named s f e = by (position (λ m. is_called s.name s.desc m) (added w d)) refl e
    where
      by : (o : Option ℕ) → position (λ m. is_called s.name s.desc m) (added w d) ≡ o
          → option_map (λ i. member_at d (length d.fields + length d.methods + i)) o ≡ Some f → IsMeant s f
      by None g h = cc
      by (Some i) g h =
          let same : member_at d (length d.fields + length d.methods + i) ≡ f = cc in
          let moved : length d.fields + (length d.methods + i) ≡ length d.fields + length d.methods + i = omega arith in
          let r = position-at (λ m. is_called s.name s.desc m) (added w d) i g in
          let there : slice_get (methods_with_added w d) (length d.methods + i) ≡ Some (as_added r.0) =
          get_behind d.methods (map as_added (added w d)) i ∙ slice_get-map as_added (added w d) i
          ∙ ap (option_map as_added) r.1 in
          record {
            member = as_added r.0;
            meant = ap (method_meant w) (sym (ap (member_at d) moved ∙ same))
                ∙ place_meant d named (length d.methods + i) (as_added r.0) there;
            signature = same-true (signature_of r.0) s r.2;
            visible = refl;
            plain = added_plain w d i r.0 r.1;
          }

  line_meant : (xs : List (List ℕ)) (k : Supertypes) → AreSupertypes w xs k → (s : Signature) (f : Found)
      → implementing (line_in w k) s ≡ Some f → IsMeant s f
  line_meant xs End ends s f e = cc
  line_meant xs (Unknown x next) (unknown_here g n) s f e = cc
  line_meant xs (Known c supers interfaces next) (known_here {x = x} {xs = rest} g sk ik n) s f e =
      by c.is_imported e (line_meant c.supers supers sk s f)
    where
      named : class_named w c.name ≡ Some c
      named = ap (class_named w) (class_named-name w x c g) ∙ g

      shown_plain : (m : Member) → is_shown m ≡ true → (is_private m.flags ≡ false) × (is_initialiser m.name ≡ false)
      shown_plain m h = virtual_plain m (both_back (is_exposed m.flags) (is_virtual m) h)

      by : (b : Bool) → implementing (if b then Imported (c ∷ upwards supers)
          else Declared c (added w c) (line_in w supers)) s ≡ Some f → (implementing (line_in w supers) s ≡ Some f
          → IsMeant s f) → IsMeant s f
      by true h above =
          let r = first_has (own is_virtual s) (c ∷ upwards supers) f h in
          ⊎_elim
          (λ same. own_meant r.0 (ap (λ (d : Class). class_named w d.name) same ∙ named
          ∙ ap (λ (d : Class). Some d) (sym same)) is_virtual virtual_plain s f r.2)
          (λ i. let l = listed_line w c.supers supers r.0 sk i in own_meant r.0 (line_named w l.0 r.0 l.2) is_virtual
          virtual_plain s f r.2)
          (has-cons r.0 c (upwards supers) r.1)
      by false h above = own_first (own is_shown s c) refl h
        where
          got_first : (o : Option Found) → got (added w c) s c ≡ o → or_else o (implementing (line_in w supers) s)
              ≡ Some f → IsMeant s f
          got_first (Some d) i j = got_meant c named s f (i ∙ j)
          got_first None i j = above j

          own_first : (o : Option Found) → own is_shown s c ≡ o
              → or_else o (or_else (got (added w c) s c) (implementing (line_in w supers) s)) ≡ Some f → IsMeant s f
          own_first (Some d) i j = own_meant c named is_shown shown_plain s f (i ∙ j)
          own_first None i j = got_first (got (added w c) s c) refl j

  -- ---- a class of the package

  module _ (n : ℕ) (t : ClassTree) (there : (let v = p.files in slice_get v.classes n ≡ Some t)) where
    abbrev c : Class
    c = declared n t

    pub named : class_named w t.name ≡ Some c
    named = own_name list p.files sound c (own_in p.files sound.classes sound.exports n t there)

    abbrev tok : ℕ → ℕ
    tok j = member_token p (Some (member_at c j))

    abbrev fields : ℕ
    fields = length (map field_of_class t.fields)

    abbrev methods : List Member
    methods = map method_of_class t.methods

    abbrev given : List Member
    given = added w c

    abbrev A : List ExportMethod
    A = methods_from p c fields methods

    abbrev B : List ExportMethod
    B = added_from p c (fields + length methods) given

    abbrev C : List ExportMethod
    C = inherited_from w c 0 (row (line_at w c))

    abbrev D : List ExportMethod
    D = supers_from w c 0 (interface_methods w c) (interface_row w c)

    -- ---- that is no interface

    -- what holds of a method that is listed of it
    pub record IsEntry (e : ExportMethod) : Type 0 where
      pub visible : is_private e.flags ≡ false
      pub plain : is_initialiser e.name ≡ false
      pub exposed : is_exposed e.flags ≡ true
      pub its_token : is_virtual (method_of_export e) ≡ true
          → token (slots (line_of w t.name)) (signature_of (method_of_export e)) ≡ Some e.token

    module _ (plain : is_interface t.flags ≡ false) (rules : KeepsRules w) where
      pub same_line : line_of w t.name ≡ line_at w c
      same_line = ap (line_in w) (supertypes-known w ordered.acyclic t.name c named)

      pub told : IsTold (line_of w t.name)
      told = told-class w are_supertypes (AreSupertypes-one w) rules t.name c named (λ im. absurd (cc))

      at_slot : (s : Signature) (j : ℕ) → Offers p.files (has_applets p) n t there plain s
          → tok j ≡ unwrap_or (shown_token (line_at w c) s) 0xFF → token (slots (line_of w t.name)) s ≡ Some (tok j)
      at_slot s j offers e =
          let r = slot_there p.files (has_applets p) n t there plain s offers in
          let same : tok j ≡ r.0 = e ∙ ap (λ q. unwrap_or q 0xFF) r.1 in
          place_token (line_of w t.name) told (tok j) s (ap (λ l. slice_get (slots l) (tok j)) same_line
          ∙ ap (slice_get (slots (line_at w c))) same ∙ r.2)

      listed_split : (i x a : Bool) → i ≡ false → ((i || x) && not a) ≡ true → (x ≡ true) × (a ≡ false)
      listed_split false true false e f = (refl, refl)
      listed_split false true true e f = cc
      listed_split false false a e f = cc
      listed_split true x a e f = cc

      both_true : (a b : Bool) → a ≡ true → b ≡ true → (a && b) ≡ true
      both_true true b e f = f
      both_true false b e f = cc

      own_made : (k : ℕ) (m : Member) → slice_get methods k ≡ Some m → is_listed c m ≡ true
          → IsEntry (method_entry (tok (fields + k)) m)
      own_made k m at listed =
          let l = listed_split (is_interface t.flags) (is_exposed m.flags) (is_initialiser m.name) plain listed in
          let r = mapped_at method_of_class t.methods k m at in
          let one : has_two_accesses m.flags ≡ false = ap (λ (y : Member). has_two_accesses y.flags) (sym r.2)
          ∙ one_access (is_interface t.flags) r.0.flags r.0.name (is_some r.0.code) (Rules.fit_method list p.files
          codes settings checks n t there k r.0 r.1) in
          record {
            visible = exposed_visible m.flags one l.0;
            plain = l.1;
            exposed = l.0;
            its_token = λ virtual.
                let shown = both_true (is_exposed m.flags) (is_virtual m) l.0 virtual in
                at_slot (signature_of m) (fields + k) (offers_shown p.files (has_applets p) n t there plain k m at
                shown) (ap (λ q. unwrap_or q 0xFF) (exposed_token p.files (has_applets p) n t there plain k m at
                shown));
          }

      own_entry : (e : ExportMethod) → Has e A → IsEntry e
      own_entry e h = let r = listed_in p c fields methods e h
          in subst IsEntry r.is (own_made r.place r.member r.there r.listed)

      given_made : (k : ℕ) (m : Member) → slice_get given k ≡ Some m
          → IsEntry (method_entry (tok (fields + length methods + k)) (as_added m))
      given_made k m at = record {
        visible = refl;
        plain = added_plain w c k m at;
        exposed = refl;
        its_token = λ virtual. at_slot (signature_of m) (fields + length methods + k)
            (offers_given p.files (has_applets p) n t there plain k m at) (ap (λ q. unwrap_or q 0xFF)
            (added_token p.files (has_applets p) n t there plain k m at));
      }

      given_entry : (e : ExportMethod) → Has e B → IsEntry e
      given_entry e h = let r = added_in p c (fields + length methods) given e h
          in subst IsEntry r.is (given_made r.place r.member r.there)

      tree : AreSupertypes w (t.name ∷ []) (Known c (supertypes w c.supers) (supertypes w c.interfaces) End)
      tree = known_here named (are_supertypes c.supers) (are_supertypes c.interfaces) ends

      inherited_entry : (e : ExportMethod) → Has e C → IsEntry e
      inherited_entry e h = by slot.0 slot.1 slot.2
        where
          r : IsInheritedAt w c 0 (row (line_at w c)) e
          r = inherited_in w c 0 (row (line_at w c)) e h

          slot : (q : Option Signature) × (slice_get (slots (line_at w c)) r.place ≡ Some q)
              × (meant_by (implementing (line_at w c)) q ≡ Some r.found)
          slot = mapped_at (meant_by (implementing (line_at w c))) (slots (line_at w c)) r.place (Some r.found) r.there

          made : (s : Signature) → slice_get (slots (line_at w c)) r.place ≡ Some (Some s)
              → implementing (line_at w c) s ≡ Some r.found → IsEntry (method_entry (0 + r.place) r.member)
          made s at means =
              let m = line_meant (t.name ∷ []) (Known c (supertypes w c.supers) (supertypes w c.interfaces) End) tree s
              r.found means in
              let same : m.member ≡ r.member = same_member (sym m.meant ∙ r.meant) in
              let signature : signature_of r.member ≡ s = ap signature_of (sym same) ∙ m.signature in
              let zero_more : 0 + r.place ≡ r.place = omega arith in
              record {
                visible = ap (λ (y : Member). is_private y.flags) (sym same) ∙ m.visible;
                plain = ap (λ (y : Member). is_initialiser y.name) (sym same) ∙ m.plain;
                exposed = r.exposed;
                its_token = λ virtual.
                    ap (token (slots (line_of w t.name))) signature
                    ∙ place_token (line_of w t.name) told r.place s (ap (λ l. slice_get (slots l) r.place) same_line
                    ∙ at)
                    ∙ ap Some (sym zero_more);
              }

          by : (q : Option Signature) → slice_get (slots (line_at w c)) r.place ≡ Some q
              → meant_by (implementing (line_at w c)) q ≡ Some r.found → IsEntry e
          by None f g = cc
          by (Some s) f g = subst IsEntry r.is (made s f g)

      class_methods : (let x = export_class p c in x.methods) ≡ A ++ (B ++ C)
      class_methods = ap (λ b. A ++ (B ++ (if b then D else C))) plain

      pub class_entry : (e : ExportMethod) → Has e (let x = export_class p c in x.methods) → IsEntry e
      class_entry e h =
          ⊎_elim (λ a. own_entry e a) (λ b. ⊎_elim (λ d. given_entry e d) (λ d. inherited_entry e d)
          (has-either e B C b))
          (has-either e A (B ++ C) (subst (Has e) class_methods h))
