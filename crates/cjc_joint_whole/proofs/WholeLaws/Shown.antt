-- Public and protected methods that selection gives on a class of one world: where they stand, and that the export file
-- of a package lists them.
use Rattle.std.proofs.Common.{◌≡◌, ℕ, ◌+◌, ◌-◌, refl, sym, ap, subst, ◌∙◌, arith, Bool, true, false, List, [], ◌∷◌, ◌++◌}
use Rattle.std.proofs.Common.{length, map, Option, Some, None}
use Rattle.std.specs.Prelude.{◌&&◌, not, option_map, position, slice_get, unwrap_or}
use Rattle.std.specs.Str.{bytes_eq}
use Rattle.cjc_bytes.specs.AccessFlags.{is_interface, is_private, is_static}
use Rattle.cjc_bytes.proofs.Gets.{in_front, position_there}
use Rattle.cjc_bytes.proofs.Lists.{bytes_true}
use Rattle.cjc_components.specs.Descriptor.{as_added, method_in, no_member}
use Rattle.cjc_components.specs.ExportFile.{export_class, method_entry, method_meant}
use Rattle.cjc_components.specs.Exports.{exported_classes}
use Rattle.cjc_components.specs.Package.{Package, world}
use Rattle.cjc_jvm_semantics.specs.Group.{is_open, own_where}
use Rattle.cjc_jvm_semantics.specs.OnePackage.{ResolvedMember, method_hit}
use Rattle.cjc_tokens.specs.Lines.{line_at, line_in, line_of}
use Rattle.cjc_tokens.specs.Members.{In, Signature, all_methods, chosen, is_exposed, is_shown, is_virtual}
use Rattle.cjc_tokens.specs.Members.{signature_of}
use Rattle.cjc_tokens.specs.Slots.{implementing, row, slots}
use Rattle.cjc_tokens.proofs.Facts.{chosen-In, chosen-passes}
use Rattle.cjc_tokens.proofs.Held.{token-slot}
use Rattle.cjc_vtable.specs.Calls.{IsProper, IsTold, is_special, selects}
use Rattle.cjc_vtable.specs.Laws.{KeepsRules, selection}
use Rattle.cjc_vtable.proofs.Agrees.{selected-shown}
use Rattle.cjc_vtable.proofs.Calls.{keeps_shown}
use Rattle.cjc_vtable.proofs.Given.{proper-line}
use Rattle.cjc_vtable.proofs.Towers.{row_at}
use Rattle.cjc_vtable.proofs.Worlds.{selection-is, told-class}
use Rattle.cjc_world.specs.Added.{added}
use Rattle.cjc_world.specs.Classes.{Class, Member, class_at, class_named}
use Rattle.cjc_world.specs.ExportFile.declared.tree.ExportMethod.{ExportMethod}
use Rattle.cjc_world.specs.Lookup.{first, is_called, is_selectable, is_wanted, member_at, or_else, own_method}
use Rattle.cjc_world.specs.Supertypes.{AreSupertypes, IsAcyclic, Lists, Supertypes, foremost, line, supertypes, upwards}
use Rattle.cjc_world.specs.Upwards.{OnLine}
use Rattle.cjc_world.specs.declared.found.Found.{Found}
use Rattle.cjc_world.proofs.Settled.{AreSupertypes-one, supertypes-AreSupertypes, supertypes-known}
use Rattle.cjc_world.proofs.UpwardLaws.Lines.{line_listed, line_named, of_line}
use Rattle.cjc_world.proofs.Upwards.{line_goes_up}
use Rattle.cjc_theorem.proofs.AlikeLaws.VirtualCalls.Chosen.{first_found, has_methods, own_first}
use Rattle.cjc_theorem.proofs.AlikeLaws.VirtualCalls.Lines.{HasShown, shown_selected, shown_token}
use Rattle.cjc_token_proof.proofs.WorldProofOwn.{hit_is, is_found}
use Rattle.cjc_token_proof.proofs.WorldProofSelects.{called_by}
use Rattle.cjc_joint_proof.proofs.NamedLaws.{position_and}
use Rattle.cjc_joint_whole.specs.Entries.{MeantAreListed}

-- ---- flags

-- what is open is neither private nor static, and public or protected
pub open_parts : (flags : ℕ) → is_open flags ≡ true → (is_selectable flags ≡ true) × (is_exposed flags ≡ true)
open_parts flags e = by (is_private flags) (is_static flags) (is_exposed flags) e
  where
    by : (p t x : Bool) → ((not p && not t) && not (not x && not p)) ≡ true → ((not p && not t) ≡ true) × (x ≡ true)
    by false false true e = (refl, refl)
    by false false false e = absurd cc
    by false true x e = absurd cc
    by true t x e = absurd cc

pub parts_open : (flags : ℕ) → is_selectable flags ≡ true → is_exposed flags ≡ true → is_open flags ≡ true
parts_open flags e f = by (is_private flags) (is_static flags) (is_exposed flags) e f
  where
    by : (p t x : Bool) → (not p && not t) ≡ true → x ≡ true → ((not p && not t) && not (not x && not p)) ≡ true
    by false false true e f = refl
    by false false false e f = absurd cc
    by false true x e f = absurd cc
    by true t x e f = absurd cc

front : (a b : Bool) → (a && b) ≡ true → a ≡ true
front true b e = refl
front false b e = absurd cc

shown_by : (m : Member) → is_exposed m.flags ≡ true → is_selectable m.flags ≡ true → is_special (signature_of m) ≡ false
    → is_shown m ≡ true
shown_by m e f g = by (is_exposed m.flags) (is_selectable m.flags) (is_special (signature_of m)) e f g
  where
    by : (a b c : Bool) → a ≡ true → b ≡ true → c ≡ false → (a && (b && not c)) ≡ true
    by true true false e f g = refl
    by true true true e f g = absurd cc
    by true false c e f g = absurd cc
    by false b c e f g = absurd cc

-- ---- where a class's own method stands

-- A class's own method whose flags pass a test.
pub record IsWhere (passes : ℕ → Bool) (name desc : List ℕ) (d : Class) (f : Found) : Type 0 where
  pub place : ℕ
  pub method : Member
  pub there : slice_get d.methods place ≡ Some method
  pub is : f ≡ member_at d (length d.fields + place)
  pub passing : passes method.flags ≡ true
  pub called : is_called name desc method ≡ true

pub where_at : (passes : ℕ → Bool) (name desc : List ℕ) (d : Class) (f : Found) → own_where passes name desc d ≡ Some f
    → IsWhere passes name desc d f
where_at passes name desc d f e = by (position P d.methods) refl e
  where
    P : Member → Bool
    P m = passes m.flags && is_called name desc m

    back : (a b : Bool) → (a && b) ≡ true → b ≡ true
    back true b e = e
    back false b e = absurd cc

    by : (o : Option ℕ) → position P d.methods ≡ o → option_map (λ i. member_at d (length d.fields + i)) o ≡ Some f
        → IsWhere passes name desc d f
    by None g e = absurd cc
    by (Some i) g e =
        let r = position_there P d.methods i g in
        let m = r.0 in
        let same : member_at d (length d.fields + i) ≡ f = cc in
        record {
          place = i;
          method = m;
          there = r.1;
          is = sym same;
          passing = front (passes m.flags) (is_called name desc m) r.2;
          called = back (passes m.flags) (is_called name desc m) r.2;
        }

-- a method that is called so
pub called_parts : (name desc : List ℕ) (m : Member) → is_called name desc m ≡ true → (m.name ≡ name) × (m.desc ≡ desc)
called_parts name desc m e = by (bytes_eq m.name name) (bytes_eq m.desc desc) refl refl e
  where
    by : (a b : Bool) → bytes_eq m.name name ≡ a → bytes_eq m.desc desc ≡ b → (a && b) ≡ true
        → (m.name ≡ name) × (m.desc ≡ desc)
    by true true f g e = (bytes_true m.name name f, bytes_true m.desc desc g)
    by true false f g e = absurd cc
    by false b f g e = absurd cc

-- ---- searches

-- the search of a class ends there, where that has it
pub search_from : (w : List Class) → IsAcyclic w → (own : Class → Option Found) (x : List ℕ) (c : Class)
    → class_named w x ≡ Some c → (f : Found) → own c ≡ Some f → first own (line w x) ≡ Some f
unfolding first line
search_from w acyclic own x c named f e = ap (λ k. first own (upwards k)) (supertypes-known w acyclic x c named)
    ∙ ap (λ q. or_else q (first own (upwards (supertypes w c.supers) ++ []))) e

-- and else goes on at its superclass
pub search_up : (w : List Class) → IsAcyclic w → (own : Class → Option Found) (x y : List ℕ) (c : Class)
    → class_named w x ≡ Some c → c.supers ≡ y ∷ [] → own c ≡ None → first own (line w x) ≡ first own (line w y)
unfolding first
search_up w acyclic own x y c named one none = ap (first own) (line_goes_up w acyclic x y c named one)
    ∙ ap (λ o. or_else o (first own (line w y))) none

-- ---- in one world

-- What selection rests on: the rules, and that names find the classes of their numbers.
pub record SelectsBy (w : List Class) : Type 0 where
  pub acyclic : IsAcyclic w
  pub rules : KeepsRules w
  pub numbered : (x : List ℕ) (c : Class) → class_named w x ≡ Some c → class_at w c.is_imported c.number ≡ Some c

-- Selection on the class gives a public or protected method with these flags.
pub record Shows (w : List Class) (x : List ℕ) (s : Signature) (flags : ℕ) : Type 0 where
  pub place : Found
  pub found : selection w x s ≡ Some place
  pub hit : ResolvedMember
  pub is_hit : method_hit w place ≡ Some hit
  pub selectable : is_selectable hit.flags ≡ true
  pub exposed : is_exposed hit.flags ≡ true
  pub has_flags : hit.flags ≡ flags

-- The class on the line whose method that is.
pub record ShowsAt (w : List Class) (x : List ℕ) (s : Signature) (flags : ℕ) (place : Found) : Type 0 where
  pub class : Class
  pub on : OnLine w x class
  pub method : Member
  pub number : ℕ
  pub there : slice_get class.methods number ≡ Some method
  pub among : In method class.methods
  pub one : signature_of method ≡ s
  pub shown : is_shown method ≡ true
  pub is_first : chosen selects s class.methods ≡ Some method
  pub is : place ≡ member_at class (length class.fields + number)
  pub same_flags : method.flags ≡ flags

module _ (w : List Class) (by_rules : SelectsBy w) (s : Signature) (plain : is_special s ≡ false) where
  abbrev sel : Class → Option Found
  sel = own_method true s.name s.desc

  abbrev opened : Class → Option Found
  opened = own_where is_open s.name s.desc

  are : (xs : List (List ℕ)) → AreSupertypes w xs (supertypes w xs)
  are = supertypes-AreSupertypes w by_rules.acyclic

  one_tree : (xs : List (List ℕ)) (j k : Supertypes) → AreSupertypes w xs j → AreSupertypes w xs k → j ≡ k
  one_tree = AreSupertypes-one w

  same_hit : {a b : ResolvedMember} → Some a ≡ Some b → a ≡ b
  same_hit e = cc

  pub shows_at : (x : List ℕ) (flags : ℕ) → (h : Shows w x s flags) → ShowsAt w x s flags h.place
  shows_at x flags h =
      let r = first_found true s (line w x) h.place h.found in
      let d = r.class in
      let a = r.at in
      let m = a.method in
      let on = of_line w by_rules.acyclic x d r.among in
      let is_m = chosen-passes selects s d.methods m a.is_first in
      let hit : h.hit ≡ record { owner = d; flags = m.flags } = same_hit (sym h.is_hit ∙ ap (method_hit w) a.is
      ∙ hit_is w d a.place m (by_rules.numbered d.name d (line_named w x d on)) a.there) in
      let flags_are : m.flags ≡ (let k = h.hit in k.flags) = sym (ap (λ (k : ResolvedMember). k.flags) hit) in
      record {
        class = d;
        on = on;
        method = m;
        number = a.place;
        there = a.there;
        among = chosen-In selects s d.methods m a.is_first;
        one = is_m.0;
        shown = shown_by m (ap is_exposed flags_are ∙ h.exposed) (ap is_selectable flags_are ∙ h.selectable)
            (ap is_special is_m.0 ∙ plain);
        is_first = a.is_first;
        is = a.is;
        same_flags = flags_are ∙ h.has_flags;
      }

  -- a class that declares it, the only one of its name and descriptor there, has it selected
  pub own_selected : (c : Class) (i : ℕ) (m : Member) → slice_get c.methods i ≡ Some m
      → is_called s.name s.desc m ≡ true
      → position (λ (q : Member). is_called s.name s.desc q) c.methods ≡ Some i → is_open m.flags ≡ true
      → sel c ≡ Some (member_at c (length c.fields + i))
  unfolding own_method
  own_selected c i m there called once open_one =
      ap (option_map (λ n. member_at c (length c.fields + n))) (position_and (λ (q : Member). is_wanted true q.flags)
      (λ (q : Member). is_called s.name s.desc q) c.methods i m there (open_parts m.flags open_one).0 called once)

  pub shows_here : (x : List ℕ) (c : Class) → class_named w x ≡ Some c → (i : ℕ) (m : Member)
      → slice_get c.methods i ≡ Some m → is_called s.name s.desc m ≡ true
      → position (λ (q : Member). is_called s.name s.desc q) c.methods ≡ Some i → is_open m.flags ≡ true
      → Shows w x s m.flags
  shows_here x c named i m there called once open_one =
      let parts = open_parts m.flags open_one in
      record {
        place = member_at c (length c.fields + i);
        found = search_from w by_rules.acyclic sel x c named (member_at c (length c.fields + i)) (own_selected c i m
            there called once open_one);
        hit = record { owner = c; flags = m.flags };
        is_hit = hit_is w c i m (by_rules.numbered x c named) there;
        selectable = parts.0;
        exposed = parts.1;
        has_flags = refl;
      }

  -- a class of the package that declares none which is public or protected, below one with it, declares none that is
  -- selected (305)
  pub none_selected : (x y : List ℕ) (c : Class) → class_named w x ≡ Some c → c.is_imported ≡ false → c.supers
      ≡ y ∷ [] → opened c ≡ None → (flags : ℕ) → Shows w y s flags → sel c ≡ None
  none_selected x y c named own one none flags h = nothing (sel c) refl
    where
      at : ShowsAt w y s flags h.place
      at = shows_at y flags h

      nothing : (o : Option Found) → sel c ≡ o → sel c ≡ None
      nothing None e = e
      nothing (Some f) e =
          let q = own_first true s c f e in
          let m = q.method in
          let is_m = chosen-passes selects s c.methods m q.is_first in
          let alike : signature_of m ≡ signature_of at.method = is_m.0 ∙ sym at.one in
          let ordinary = ap is_special is_m.0 ∙ plain in
          let above : In at.method (all_methods (upwards (supertypes w c.supers))) =
          has_methods at.class (upwards (supertypes w c.supers)) at.method (line_listed w y c.supers
          (supertypes w c.supers) at.class (are c.supers) (subst (Lists y) (sym one) foremost) at.on) at.among in
          let clash = (let r = by_rules.rules in r.access) x c m at.method named own
          (chosen-In selects s c.methods m q.is_first) above alike ordinary in
          let shown = keeps_shown m at.method is_m.1 at.shown ordinary clash in
          let open_one = parts_open m.flags is_m.1 (front (is_exposed m.flags) (is_virtual m) shown) in
          let passes : (is_open m.flags && is_called s.name s.desc m) ≡ true = ap (λ b. b && is_called s.name s.desc m)
          open_one ∙ called m is_m.0 in
          let there = is_found (λ (k : Member). is_open k.flags && is_called s.name s.desc k) c.methods q.place m
          q.there passes in
          absurd (clash_none (sym (ap (option_map (λ i. member_at c (length c.fields + i))) there.1) ∙ none))
        where
          called : (m : Member) → signature_of m ≡ s → is_called s.name s.desc m ≡ true
          called m is = called_by s.name s.desc m (ap (λ (t : Signature). t.name) is) (ap (λ (t : Signature). t.desc) is)

          clash_none : {g : Found} → Some g ≡ None → ⊥
          clash_none e = cc

  -- so it has what that has
  pub shows_above : (x y : List ℕ) (c : Class) → class_named w x ≡ Some c → c.is_imported ≡ false → c.supers
      ≡ y ∷ [] → opened c ≡ None → (flags : ℕ) → Shows w y s flags → Shows w x s flags
  shows_above x y c named own one none flags h = record {
    place = h.place;
    found = search_up w by_rules.acyclic sel x y c named one (none_selected x y c named own one none flags h)
        ∙ h.found;
    hit = h.hit;
    is_hit = h.is_hit;
    selectable = h.selectable;
    exposed = h.exposed;
    has_flags = h.has_flags;
  }

-- ---- what the export file lists

module _ (e : Package) (by_rules : SelectsBy (world e)) (listed : MeantAreListed e) (s : Signature)
    (plain : is_special s ≡ false) where
  abbrev w : List Class
  w = world e

  -- An entry of this name and descriptor, with these flags.
  pub record IsEntry (c : Class) (flags : ℕ) : Type 0 where
    pub place : ℕ
    pub entry : ExportMethod
    pub there : (let x = export_class e c in slice_get x.methods place ≡ Some entry)
    pub has_name : entry.name ≡ s.name
    pub has_desc : entry.desc ≡ s.desc
    pub same_flags : entry.flags ≡ flags

  -- what selection on an exported class gives is listed of it
  pub shown_listed : (k : ℕ) (c : Class) → slice_get (exported_classes e) k ≡ Some c → is_interface c.flags ≡ false
      → class_named w c.name ≡ Some c → (flags : ℕ) → Shows w c.name s flags → IsEntry c flags
  shown_listed k c at ground named flags h =
      let are = supertypes-AreSupertypes w by_rules.acyclic in
      let one_tree = AreSupertypes-one w in
      let a = shows_at w by_rules s plain c.name flags h in
      let m = a.method in
      let d = a.class in
      let has : HasShown w c.name s = record {
        class = d;
        on = a.on;
        method = m;
        among = a.among;
        shown = a.shown;
        one = a.one;
        is_first = λ own. a.is_first;
      } in
      let t = shown_token w are one_tree by_rules.rules c.name c named ground s has in
      let its_line : line_of w c.name ≡ line_at w c = ap (line_in w) (supertypes-known w by_rules.acyclic c.name c named) in
      let told : IsTold (line_of w c.name) = told-class w are one_tree by_rules.rules c.name c named (λ import. ground) in
      let proper : IsProper (line_of w c.name) = proper-line w are one_tree (c.name ∷ []) (supertypes w (c.name ∷ []))
      (are (c.name ∷ [])) in
      let selected_one = shown_selected w are one_tree by_rules.rules c.name s has in
      let meant : implementing (line_of w c.name) s ≡ Some h.place = selected-shown (line_of w c.name) s told proper
      selected_one ∙ selection-is w are one_tree by_rules.rules c.name s ∙ h.found in
      let in_row : slice_get (row (line_of w c.name)) t.0 ≡ Some (Some h.place) = row_at (implementing (line_of w
      c.name)) (slots (line_of w c.name)) t.0 s (token-slot (slots (line_of w c.name)) s t.0 t.1) ∙ ap Some meant in
      let off : length d.fields + a.number - length d.fields ≡ a.number = omega arith in
      let is_m : method_meant w h.place ≡ Some m =
      ap (method_meant w) a.is
      ∙ ap (option_map (λ (k : Class). method_in w k (length d.fields + a.number)))
      (by_rules.numbered d.name d (line_named w c.name d a.on))
      ∙ ap (λ i. Some (unwrap_or (slice_get (d.methods ++ map as_added (added w d)) i) no_member)) off
      ∙ ap (λ o. Some (unwrap_or o no_member)) (in_front d.methods (map as_added (added w d)) a.number m a.there) in
      let r = listed k t.0 c h.place m at ground (ap (λ l. slice_get (row l) t.0) (sym its_line) ∙ in_row) is_m
      (front (is_exposed m.flags) (is_virtual m) a.shown) in
      record {
        place = r.0;
        entry = method_entry t.0 m;
        there = r.1;
        has_name = ap (λ (q : Signature). q.name) a.one;
        has_desc = ap (λ (q : Signature). q.desc) a.one;
        same_flags = a.same_flags;
      }
