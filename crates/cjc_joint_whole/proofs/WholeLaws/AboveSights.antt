-- A method of a class file is not package-visible where a public or protected one of its name and descriptor stands above
-- it or below it, in a class on the same line or in an interface above (305).
use Rattle.std.proofs.Common.{◌≡◌, ℕ, refl, sym, ap, subst, ◌∙◌, Bool, true, false, List, [], ◌∷◌, Some, inl, inr, ⊎_elim}
use Rattle.std.specs.Prelude.{◌⊎◌, ◌&&◌, ◌||◌, not, slice_get}
use Rattle.std.specs.Str.{bytes_eq}
use Rattle.cjc_bytes.specs.AccessFlags.{is_interface, is_private, is_protected, is_public}
use Rattle.cjc_bytes.specs.declared.fault.MemberId.{MemberId}
use Rattle.cjc_bytes.proofs.Bools.{true_not_false}
use Rattle.cjc_bytes.proofs.Gets.{any_off}
use Rattle.cjc_bytes.proofs.Lists.{bytes_true}
use Rattle.cjc_jvm_semantics.specs.Group.{is_exposed, is_package_visible}
use Rattle.cjc_shape_proof.specs.WorldProof.Calls.Solid.{IsSolid}
use Rattle.cjc_theorem.proofs.AlikeLaws.VirtualCalls.Chosen.{has_methods}
use Rattle.cjc_token_proof.proofs.WorldProofOwn.{mapped_at}
use Rattle.cjc_token_proof.proofs.WorldProofSelects.{called_by}
use Rattle.cjc_token_proof.specs.Subset.Checks.{check_breaks}
use Rattle.cjc_token_proof.specs.Subset.Members.{imports}
use Rattle.cjc_token_proof.specs.Subset.Overriding.{hides_one, is_out_of_sight, is_special as is_special_name}
use Rattle.cjc_token_proof.specs.Subset.Overriding as overriding
use Rattle.cjc_tokens.specs.Members.{In, all_methods}
use Rattle.cjc_vtable.specs.Calls.{is_clash, is_special}
use Rattle.cjc_vtable.specs.Kept.{IsUnbroken}
use Rattle.cjc_vtable.proofs.Clean.{seen-declared, seen-imported}
use Rattle.cjc_vtable.proofs.Filed.{IsFiled, filed, get-has, in_class_file, in_export_file, of-imports}
use Rattle.cjc_world.specs.ClassFile.declared.tree.ClassTree.{ClassTree}
use Rattle.cjc_world.specs.ClassFile.declared.tree.MethodTree.{MethodTree}
use Rattle.cjc_world.specs.Classes.{Class, Member as WorldMember, all_classes, class_named, declared, imported}
use Rattle.cjc_world.specs.Classes.{method_of_class}
use Rattle.cjc_world.specs.Interfaces.{has_interface}
use Rattle.cjc_world.specs.Lookup.{is_called}
use Rattle.cjc_world.specs.Supertypes.{is_below, supertypes, upwards}
use Rattle.cjc_world.specs.Upwards.{Below, IsOrdered, OnLine}
use Rattle.cjc_world.proofs.Settled.{supertypes-AreSupertypes}
use Rattle.cjc_world.proofs.UpwardLaws.Lines.{has_interface_above, line_listed, line_named, same_class}
use Rattle.cjc_joint_theorem.specs.Members.{Member}
use Rattle.cjc_joint_whole.specs.Whole.{AreWholeWith}
use Rattle.cjc_joint_whole.proofs.WholeLaws.AboveLines.{either_over, same_or_above}
use Rattle.cjc_joint_whole.proofs.WholeLaws.Hidden.{in_methods, signed_so}
use Rattle.cjc_joint_whole.proofs.WholeLaws.Nearest.{low}
use Rattle.cjc_joint_whole.proofs.WholeLaws.Opened.{once_called, selects_at}
use Rattle.cjc_joint_whole.proofs.WholeLaws.Solid.{solid_at}

-- ---- tests

-- public or protected is not package-visible
pub seen_by : (flags : ℕ) → is_exposed flags ≡ true → is_package_visible flags ≡ false
seen_by flags e = by (is_exposed flags) (is_private flags) e
  where
    by : (x p : Bool) → x ≡ true → (not x && not p) ≡ false
    by true p e = refl
    by false p e = absurd cc

-- what does not clash with a public or protected one above it is not package-visible
seen_below : (mine inherited : ℕ) → is_exposed inherited ≡ true → is_clash mine inherited ≡ false
    → is_package_visible mine ≡ false
seen_below mine inherited e f = by (is_exposed mine) (is_private mine) (is_exposed inherited) (is_private inherited) e f
  where
    by : (x p u q : Bool) → u ≡ true → (((not x && not p) && u) || (x && (not u && not q))) ≡ false → (not x && not p)
        ≡ false
    by true p u q e f = refl
    by false true u q e f = refl
    by false false true q e f = absurd cc
    by false false false q e f = absurd cc

-- nor what does not clash with one below it
seen_above : (mine inherited : ℕ) → is_exposed mine ≡ true → is_clash mine inherited ≡ false
    → is_package_visible inherited ≡ false
seen_above mine inherited e f = by (is_exposed mine) (is_private mine) (is_exposed inherited) (is_private inherited) e f
  where
    by : (x p u q : Bool) → x ≡ true → (((not x && not p) && u) || (x && (not u && not q))) ≡ false → (not u && not q)
        ≡ false
    by true p true q e f = refl
    by true p false true e f = refl
    by true p false false e f = absurd cc
    by false p u q e f = absurd cc

-- nor what is not out of sight
seen_in_sight : (import : Bool) (flags inherited : ℕ) → is_exposed inherited ≡ true → is_out_of_sight import flags
    inherited ≡ false → is_package_visible flags ≡ false
seen_in_sight import flags inherited e f = by (is_public flags) (is_protected flags) (is_private flags)
    (is_exposed inherited) (overriding.is_open flags && overriding.is_package_visible inherited)
    (overriding.is_package_visible flags && overriding.is_package_visible inherited && import) e f
  where
    by : (a b c o d g : Bool) → o ≡ true → (((not a && not b && not c) && o) || d || g) ≡ false
        → (not (a || b) && not c) ≡ false
    by true b c o d g e f = refl
    by false true c o d g e f = refl
    by false false true o d g e f = refl
    by false false false true d g e f = absurd cc
    by false false false false d g e f = absurd cc

behind : (s h : Bool) → s ≡ false → (not s && h) ≡ false → h ≡ false
behind false h e f = f
behind true h e f = absurd cc

called_one : (a b : Bool) → a ≡ true → (a && b) ≡ false → b ≡ false
called_one true b e f = f
called_one false b e f = absurd cc

same_member : {m n : WorldMember} → Some m ≡ Some n → m ≡ n
same_member e = cc

same_place : {i j : ℕ} → Some i ≡ Some j → i ≡ j
same_place e = cc

module _ {K : _} (members : List Member) (is : AreWholeWith K members) (q : ℕ) (p : Member)
    (at : slice_get members q ≡ Some p)
    (id : MemberId) (plain : is_special (record { name = id.name; desc = id.desc }) ≡ false) where
  abbrev v : List Class
  v = all_classes p.files

  solid : IsSolid p.files
  solid = solid_at members is q p at

  order : IsOrdered v
  order = solid.ordered

  pub single_here : (x : List ℕ) (c : Class) → class_named v x ≡ Some c → c.is_imported ≡ false → (s : List ℕ)
      × (c.supers ≡ s ∷ [])
  single_here x c named mine =
      let t = solid.own x c named mine in
      ((let k = t.0 in k.superclass), ap (λ (d : Class). d.supers) t.2)

  -- A method of this name and descriptor that the class has.
  pub record IsNamedIn (c : Class) : Type 0 where
    pub place : ℕ
    pub method : WorldMember
    pub there : slice_get c.methods place ≡ Some method
    pub has_name : method.name ≡ id.name
    pub has_desc : method.desc ≡ id.desc

  -- it has one alone (202)
  pub one_named : (a : Class) → class_named v a.name ≡ Some a → (k y : IsNamedIn a) → k.method ≡ y.method
  one_named a named k y =
      let first_k = once_called members is q p at a.name a named k.place k.method k.there id.name id.desc k.has_name
      k.has_desc in
      let first_y = once_called members is q p at a.name a named y.place y.method y.there id.name id.desc y.has_name
      y.has_desc in
      same_member (sym k.there ∙ ap (slice_get a.methods) (same_place (sym first_k ∙ first_y)) ∙ y.there)

  moved : (a b : Class) → a ≡ b → (y : IsNamedIn b) → IsNamedIn a
  moved a b same y = record {
    place = y.place;
    method = y.method;
    there = ap (λ (u : Class). slice_get u.methods y.place) same ∙ y.there;
    has_name = y.has_name;
    has_desc = y.has_desc;
  }

  -- of one and one above it that is the same or does not clash
  unclashing : (a b : Class) → class_named v a.name ≡ Some a → a.is_imported ≡ false → OnLine v a.name b
      → (k : IsNamedIn a) (y : IsNamedIn b) → (k.method ≡ y.method)
      ⊎ (is_clash (let m = k.method in m.flags) (let n = y.method in n.flags) ≡ false)
  unfolding moved
  unclashing a b named mine on k y = ⊎_elim
      (λ same. inl (one_named a named k (moved a b same y)))
      (λ far.
      (let by_rules = selects_at members is q p at in
      let rules = by_rules.rules in
      let stands = line_listed v far.0 a.supers (supertypes v a.supers) b (supertypes-AreSupertypes v by_rules.acyclic
      a.supers) far.1 far.2 in
      let above : In y.method (all_methods (upwards (supertypes v a.supers))) = has_methods b
      (upwards (supertypes v a.supers)) y.method stands (in_methods b.methods y.place y.method y.there) in
      let signed = signed_so k.method id.name id.desc k.has_name k.has_desc in
      inr (rules.access a.name a k.method y.method named mine (in_methods a.methods k.place k.method k.there) above
      (signed ∙ sym (signed_so y.method id.name id.desc y.has_name y.has_desc)) (ap is_special signed ∙ plain))))
      (same_or_above v a b named on)

  -- one of a class file, on a line with a public or protected one
  pub beside_class : (x : List ℕ) (d o : Class) → OnLine v x d → d.is_imported ≡ false → OnLine v x o
      → (k : IsNamedIn d) (y : IsNamedIn o) → is_exposed (let n = y.method in n.flags) ≡ true
      → is_package_visible (let m = k.method in m.flags) ≡ false
  beside_class x d o on_d mine on_o k y exposed = ⊎_elim
      (λ on. ⊎_elim
      (λ same. ap (λ (m : WorldMember). is_package_visible m.flags) same ∙ seen_by (let n = y.method in n.flags) exposed)
      (λ off. seen_below (let m = k.method in m.flags) (let n = y.method in n.flags) exposed off)
      (unclashing d o (line_named v x d on_d) mine on k y))
      (λ on. ⊎_elim
      (λ same. ap (λ (m : WorldMember). is_package_visible m.flags) (sym same) ∙ seen_by (let n = y.method in n.flags)
      exposed)
      (λ off. seen_above (let n = y.method in n.flags) (let m = k.method in m.flags) exposed off)
      (unclashing o d (line_named v x o on_o) (low v order single_here o.name o d (line_named v x o on_o) on mine) on y
      k))
      (either_over v order single_here x d o on_d mine on_o)

  -- one of a class file below an interface with a public or protected one
  pub below_interface : (d z : Class) → class_named v d.name ≡ Some d → d.is_imported ≡ false → is_interface d.flags
      ≡ false → class_named v z.name ≡ Some z → is_interface z.flags ≡ true → Below v d.name z.name → (k : IsNamedIn d)
      (y : IsNamedIn z) → is_exposed (let n = y.method in n.flags) ≡ true
      → is_package_visible (let m = k.method in m.flags) ≡ false
  below_interface d z named_d mine ground named_z it way k y exposed =
      by d z (filed p.files d.name d named_d) (filed p.files z.name z named_z) mine (inherited (is_below v d.name z.name)
      (has_interface v d.name z.name) (bytes_eq d.name z.name) (has_interface_above v order d.name d z named_d ground
      way named_z it) (apart (bytes_eq d.name z.name) refl)) k y exposed
    where
      off : (let one = is.each q p at in IsUnbroken 305 (check_breaks one.list p.files one.codes one.settings))
      off =
          let one = is.each q p at in
          let whole = one.whole in
          let u = whole.unbroken in
          subst (IsUnbroken 305) (sym u.checks) (λ b j g. elim j [ ])

      inherited : (a b c : Bool) → b ≡ true → c ≡ false → ((a || b) && not c) ≡ true
      inherited true true false e f = refl
      inherited false true false e f = refl
      inherited a false c e f = absurd cc
      inherited a b true e f = absurd cc

      apart : (b : Bool) → bytes_eq d.name z.name ≡ b → bytes_eq d.name z.name ≡ false
      apart false e = e
      apart true e =
          let same : d ≡ z = same_class (sym named_d ∙ ap (class_named v) (bytes_true d.name z.name e) ∙ named_z) in
          absurd (true_not_false (is_interface z.flags) it (sym (ap (λ (c : Class). is_interface c.flags) same)
          ∙ ground))

      told : (i : ℕ) (t : ClassTree) (k : IsNamedIn (declared i t)) (m : MethodTree)
          → k.method ≡ method_of_class m → (e : Class) (y : IsNamedIn e)
          → is_exposed (let n = y.method in n.flags) ≡ true
          → (not (is_special_name m.name) && hides_one e m.flags m.name m.desc) ≡ false
          → is_package_visible (let m = k.method in m.flags) ≡ false
      told i t k m is_m e y exposed_y fit =
          let name : m.name ≡ id.name = sym (ap (λ (g : WorldMember). g.name) is_m) ∙ k.has_name in
          let desc : m.desc ≡ id.desc = sym (ap (λ (g : WorldMember). g.desc) is_m) ∙ k.has_desc in
          let none = behind (is_special_name m.name) (hides_one e m.flags m.name m.desc) (ap is_special_name name
          ∙ plain) fit in
          let one = any_off (λ (g : WorldMember). is_called m.name m.desc g && is_out_of_sight e.is_imported m.flags g.flags) e.methods
          y.place y.method none y.there in
          let called = called_by m.name m.desc y.method (y.has_name ∙ sym name) (y.has_desc ∙ sym desc) in
          let sight = called_one (is_called m.name m.desc y.method) (is_out_of_sight e.is_imported m.flags
          (let n = y.method in n.flags)) called one in
          ap (λ (g : WorldMember). is_package_visible g.flags) is_m ∙ seen_in_sight e.is_imported m.flags
          (let n = y.method in n.flags) exposed_y sight

      by : (d z : Class) → IsFiled p.files d → IsFiled p.files z → d.is_imported ≡ false
          → ((is_below v d.name z.name || has_interface v d.name z.name) && not (bytes_eq d.name z.name)) ≡ true
          → (k : IsNamedIn d) (y : IsNamedIn z) → is_exposed (let n = y.method in n.flags) ≡ true
          → is_package_visible (let m = k.method in m.flags) ≡ false
      by _ z (in_export_file n e file) other mine above k y exposed = absurd cc
      by _ _ (in_class_file n t file) (in_class_file l u at_u) mine above k y exposed =
          let one = is.each q p at in
          let f = p.files in
          let m = mapped_at method_of_class t.methods k.place k.method k.there in
          told n t k m.0 m.2 (declared l u) y exposed (seen-declared one.list p.files one.codes one.settings off t u m.0
          (get-has t f.classes n file) (get-has u f.classes l at_u) above (get-has m.0 t.methods k.place m.1))
      by _ _ (in_class_file n t file) (in_export_file l u at_u) mine above k y exposed =
          let one = is.each q p at in
          let f = p.files in
          let m = mapped_at method_of_class t.methods k.place k.method k.there in
          let tree = of-imports u f.exports (get-has u (imports f.exports) l at_u) in
          told n t k m.0 m.2 (imported l u) y exposed (seen-imported one.list p.files one.codes one.settings off t
          tree.0 u m.0 (get-has t f.classes n file) tree.1 tree.2 above (get-has m.0 t.methods k.place m.1))
