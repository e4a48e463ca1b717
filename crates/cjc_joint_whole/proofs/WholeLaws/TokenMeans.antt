-- The token that a class has for a name and descriptor means a public or protected method of that name and descriptor,
-- where export files list no other virtual methods.
use Rattle.std.proofs.Common.{◌≡◌, ℕ, ◌+◌, ◌-◌, refl, sym, ap, ◌∙◌, arith, Bool, true, false, List, [], ◌∷◌, length}
use Rattle.std.proofs.Common.{map, ⊎_elim, Option, Some, None}
use Rattle.std.specs.Prelude.{not, ◌&&◌, option_map, position, slice_get, unwrap_or, if◌then◌else◌}
use Rattle.std.proofs.lemmas.Option.{slice_get-map}
use Rattle.cjc_bytes.specs.AccessFlags.{is_interface}
use Rattle.cjc_bytes.proofs.Bools.{both_back, both_front}
use Rattle.cjc_bytes.proofs.Gets.{get_behind, in_front}
use Rattle.cjc_components.specs.Descriptor.{as_added, method_in, methods_with_added, no_member}
use Rattle.cjc_components.specs.ExportFile.{method_meant}
use Rattle.cjc_components.specs.Package.{Package, world}
use Rattle.cjc_theorem.proofs.AlikeLaws.VirtualCalls.Ways.{line_class}
use Rattle.cjc_tokens.proofs.Facts.{same-true}
use Rattle.cjc_tokens.proofs.Held.{token-slot}
use Rattle.cjc_tokens.specs.Lines.{Declared, Imported, line_at, line_in, line_of}
use Rattle.cjc_tokens.specs.Members.{Signature, is_exposed, is_shown, is_virtual, signature_of}
use Rattle.cjc_tokens.specs.Slots.{got, implementing, own, row, slots, token}
use Rattle.cjc_vtable.proofs.Filed.{at-number}
use Rattle.cjc_vtable.proofs.SlotNames.{position-at, slot-there}
use Rattle.cjc_vtable.proofs.Towers.{row_at}
use Rattle.cjc_vtable.specs.Calls.{is_special}
use Rattle.cjc_world.proofs.Cycles.{class_named-name}
use Rattle.cjc_world.proofs.Settled.{supertypes-AreSupertypes, supertypes-known}
use Rattle.cjc_world.proofs.UpwardLaws.Lines.{below_abroad, first_has, has-cons, line_below, line_named, listed_line}
use Rattle.cjc_world.proofs.UpwardLaws.Lines.{no_list}
use Rattle.cjc_world.specs.Added.{added}
use Rattle.cjc_world.specs.Classes.{Class, Member, class_named}
use Rattle.cjc_world.specs.Lookup.{is_called, member_at, or_else}
use Rattle.cjc_world.specs.Supertypes.{AreSupertypes, End, Known, Lists, Supertypes, Unknown, ends, known_here}
use Rattle.cjc_world.specs.Supertypes.{supertypes, unknown_here, upwards}
use Rattle.cjc_world.specs.Supertypes as supers
use Rattle.cjc_world.specs.Upwards.{IsOrdered, OnLine, here, up}
use Rattle.cjc_world.specs.declared.found.Found.{Found}

-- what export files list of the classes that the package imports
abbrev pub ImportsAreExposed : Package → Type 0
ImportsAreExposed p = (y : List ℕ) (d : Class) (i : ℕ) (m : Member) → class_named (world p) y ≡ Some d
    → d.is_imported ≡ true → is_interface d.flags ≡ false → slice_get d.methods i ≡ Some m → is_virtual m ≡ true
    → is_exposed m.flags ≡ true

module _ (p : Package) (ordered : IsOrdered (world p)) (exposed : ImportsAreExposed p) where
  abbrev w : List Class
  w = world p

  -- a public or protected method of a name and descriptor
  pub record IsShownOne (s : Signature) (f : Found) : Type 0 where
    pub member : Member
    pub meant : method_meant w f ≡ Some member
    pub one : signature_of member ≡ s
    pub shown : is_shown member ≡ true

  place_meant : (d : Class) → class_named w d.name ≡ Some d → (i : ℕ) (m : Member)
      → slice_get (methods_with_added w d) i ≡ Some m → method_meant w (member_at d (length d.fields + i)) ≡ Some m
  place_meant d named i m at =
      let sub : length d.fields + i - length d.fields ≡ i = omega arith in
      ap (option_map (λ (c : Class). method_in w c (length d.fields + i))) (at-number p.files d.name d named)
      ∙ ap (λ j. Some (unwrap_or (slice_get (methods_with_added w d) j) no_member)) sub
      ∙ ap (λ o. Some (unwrap_or o no_member)) at

  own_shown : (d : Class) → class_named w d.name ≡ Some d → (test : Member → Bool) → ((i : ℕ) (m : Member)
      → slice_get d.methods i ≡ Some m → test m ≡ true → is_shown m ≡ true) → (s : Signature) (f : Found)
      → own test s d ≡ Some f → IsShownOne s f
  unfolding own
  own_shown d named test passes s f e = by (position (λ m. test m && is_called s.name s.desc m) d.methods) refl e
    where
      by : (o : Option ℕ) → position (λ m. test m && is_called s.name s.desc m) d.methods ≡ o
          → option_map (λ i. member_at d (length d.fields + i)) o ≡ Some f → IsShownOne s f
      by None g h = cc
      by (Some i) g h =
          let same : member_at d (length d.fields + i) ≡ f = cc in
          let r = position-at (λ m. test m && is_called s.name s.desc m) d.methods i g in
          record {
            member = r.0;
            meant = ap (method_meant w) (sym same)
                ∙ place_meant d named i r.0 (in_front d.methods (map as_added (added w d)) i r.0 r.1);
            one = same-true (signature_of r.0) s (both_back (test r.0) (is_called s.name s.desc r.0) r.2);
            shown = passes i r.0 r.1 (both_front (test r.0) (is_called s.name s.desc r.0) r.2);
          }

  got_shown : (d : Class) → class_named w d.name ≡ Some d → (s : Signature) → is_special s ≡ false → (f : Found)
      → got (added w d) s d ≡ Some f → IsShownOne s f
  unfolding got
  got_shown d named s plain f e = by (position (λ m. is_called s.name s.desc m) (added w d)) refl e
    where
      by : (o : Option ℕ) → position (λ m. is_called s.name s.desc m) (added w d) ≡ o
          → option_map (λ i. member_at d (length d.fields + length d.methods + i)) o ≡ Some f → IsShownOne s f
      by None g h = cc
      by (Some i) g h =
          let same : member_at d (length d.fields + length d.methods + i) ≡ f = cc in
          let moved : length d.fields + (length d.methods + i) ≡ length d.fields + length d.methods + i = omega arith in
          let r = position-at (λ m. is_called s.name s.desc m) (added w d) i g in
          let there : slice_get (methods_with_added w d) (length d.methods + i) ≡ Some (as_added r.0) =
          get_behind d.methods (map as_added (added w d)) i ∙ slice_get-map as_added (added w d) i
          ∙ ap (option_map as_added) r.1 in
          let is_s : signature_of r.0 ≡ s = same-true (signature_of r.0) s r.2 in
          record {
            member = as_added r.0;
            meant = ap (method_meant w) (sym (ap (member_at d) moved ∙ same))
                ∙ place_meant d named (length d.methods + i) (as_added r.0) there;
            one = is_s;
            shown = ap not (ap is_special is_s ∙ plain);
          }

  -- ---- along a line

  both : (a b : Bool) → a ≡ true → b ≡ true → (a && b) ≡ true
  both true b e f = f
  both false b e f = cc

  -- what a class of an export file lists
  imported_shown : (x : List ℕ) (c d : Class) → class_named w x ≡ Some c → c.is_imported ≡ true
      → is_interface c.flags ≡ false → OnLine w x d → (i : ℕ) (m : Member) → slice_get d.methods i ≡ Some m
      → is_virtual m ≡ true → is_shown m ≡ true
  imported_shown x c d named import plain on i m at virtual =
      both (is_exposed m.flags) (is_virtual m) (exposed d.name d i m (line_named w x d on) (below_abroad w ordered x
      d.name c d (line_below w x d on) named import (line_named w x d on))
      (line_class w ordered x c d on named plain) at virtual)
      virtual

  line_shown : (xs : List (List ℕ)) (k : Supertypes) → AreSupertypes w xs k → ((y : List ℕ) (d : Class) → Lists y xs
      → class_named w y ≡ Some d → is_interface d.flags ≡ false) → (s : Signature) → is_special s ≡ false → (f : Found)
      → implementing (line_in w k) s ≡ Some f → IsShownOne s f
  line_shown xs End ends kinds s plain f e = cc
  line_shown xs (Unknown x next) (unknown_here g n) kinds s plain f e = cc
  line_shown xs (Known c over interfaces next) (known_here {x = x} {xs = rest} g sk ik n) kinds s plain f e =
      by c.is_imported refl e (line_shown c.supers over sk (λ y d l h. ordered.supers x y c d g l h) s plain f)
    where
      named : class_named w c.name ≡ Some c
      named = ap (class_named w) (class_named-name w x c g) ∙ g

      by : (b : Bool) → c.is_imported ≡ b → implementing (if b then Imported (c ∷ upwards over)
          else Declared c (added w c) (line_in w over)) s ≡ Some f → (implementing (line_in w over) s ≡ Some f
          → IsShownOne s f) → IsShownOne s f
      by true import h above =
          let r = first_has (own is_virtual s) (c ∷ upwards over) f h in
          let d = r.0 in
          let on : OnLine w x d = ⊎_elim (λ same. here (g ∙ ap Some (sym same)))
          (λ i. let l = listed_line w c.supers over d sk i in up c g l.1 l.2) (has-cons d c (upwards over) r.1) in
          own_shown d (line_named w x d on) is_virtual (imported_shown x c d g import (kinds x c supers.foremost g) on)
          s f r.2
      by false mine h above = own_first (own is_shown s c) refl h
        where
          got_first : (o : Option Found) → got (added w c) s c ≡ o → or_else o (implementing (line_in w over) s)
              ≡ Some f → IsShownOne s f
          got_first (Some d) i j = got_shown c named s plain f (i ∙ j)
          got_first None i j = above j

          own_first : (o : Option Found) → own is_shown s c ≡ o
              → or_else o (or_else (got (added w c) s c) (implementing (line_in w over) s)) ≡ Some f → IsShownOne s f
          own_first (Some d) i j = own_shown c named is_shown (λ k m at h. h) s f (i ∙ j)
          own_first None i j = got_first (got (added w c) s c) refl j

  -- ---- of a token

  -- what a token of a class means
  pub record IsMeantBy (k : Class) (s : Signature) (t : ℕ) : Type 0 where
    pub found : Found
    pub there : slice_get (row (line_at w k)) t ≡ Some (Some found)
    pub shown_one : IsShownOne s found

  pub token_means : (x : List ℕ) (k : Class) → class_named w x ≡ Some k → is_interface k.flags ≡ false
      → (s : Signature) → is_special s ≡ false → (t : ℕ) → token (slots (line_of w x)) s ≡ Some t → IsMeantBy k s t
  token_means x k known kind s plain t e = by (implementing (line_of w x) s) refl
    where
      slot : slice_get (slots (line_of w x)) t ≡ Some (Some s)
      slot = token-slot (slots (line_of w x)) s t e

      same_line : line_of w x ≡ line_at w k
      same_line = ap (line_in w) (supertypes-known w ordered.acyclic x k known)

      means : slice_get (row (line_of w x)) t ≡ Some (implementing (line_of w x) s)
      means = row_at (implementing (line_of w x)) (slots (line_of w x)) t s slot

      kinds : (y : List ℕ) (d : Class) → Lists y (x ∷ []) → class_named w y ≡ Some d → is_interface d.flags ≡ false
      kinds _ d supers.foremost h =
          let both : Some k ≡ Some d = sym known ∙ h in
          let same : k ≡ d = cc in
          sym (ap (λ (v : Class). is_interface v.flags) same) ∙ kind
      kinds y d (supers.after l) h = no_list l

      by : (o : Option Found) → implementing (line_of w x) s ≡ o → IsMeantBy k s t
      by None f = absurd (slot-there (line_of w x) t s slot f)
      by (Some g) f = record {
        found = g;
        there = ap (λ l. slice_get (row l) t) (sym same_line) ∙ means ∙ ap Some f;
        shown_one = line_shown (x ∷ []) (supertypes w (x ∷ [])) (supertypes-AreSupertypes w ordered.acyclic (x ∷ []))
            kinds s plain g f;
      }
