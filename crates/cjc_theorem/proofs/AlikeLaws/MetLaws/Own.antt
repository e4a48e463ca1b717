-- Fields and methods of a package that its code names, as entries of its pool name them.
use Rattle.std.proofs.Common.{◌≡◌, ℕ, suc, ◌+◌, refl, sym, ap, subst, ◌∙◌, Bool, true, false, not, List, [], ◌∷◌}
use Rattle.std.proofs.Common.{length}
use Rattle.std.specs.Prelude.{◌&&◌, ◌||◌, ◌==◌, Option, Some, None, flat_map, is_some, option_and_then, option_map}
use Rattle.std.specs.Prelude.{slice_get, if◌then◌else◌, ℤ}
use Rattle.std.specs.List.{list_any}
use Rattle.std.specs.Str.{bytes_eq}
use Rattle.std.proofs.lemmas.Bool.{eqb-true, and_from}
use Rattle.cjc_narrow_proof.specs.Laws.Unbroken.{KeepsNames}
use Rattle.cjc_bytes.specs.AccessFlags.{is_interface, is_static}
use Rattle.cjc_bytes.specs.declared.fault.MemberId.{MemberId}
use Rattle.cjc_bytes.proofs.Gets.{all_at}
use Rattle.cjc_bytes.proofs.Lists.{name_is}
use Rattle.cjc_bytes.proofs.Bools.{clash as true_not_false}
use Rattle.cjc_jvm_semantics.specs.OnePackage.{constant_at, constant_in, exported_constant, is_initialiser, of_class}
use Rattle.cjc_token_proof.specs.ByToken.Cells.{HasCells, is_one_of}
use Rattle.cjc_token_proof.proofs.WorldProofOwn.{IsFieldAt, mapped_at}
use Rattle.cjc_shape_proof.specs.WorldProof.Calls.Solid.{IsSolid}
use Rattle.cjc_token_proof.specs.Calls.Reaching.{is_same}
use Rattle.cjc_world.specs.ClassFile.declared.tree.ClassTree.{ClassTree}
use Rattle.cjc_world.specs.ClassFile.declared.tree.FieldTree.{FieldTree}
use Rattle.cjc_components.specs.Bytecode.declared.method_code.MethodCode.{MethodCode}
use Rattle.cjc_token_proof.specs.Clinit.Image.{field_id}
use Rattle.cjc_shape_proof.specs.LowerCheckProof.Code.Members.{CellsFit, IsOwnCell, IsOwnClass, IsOwnField, IsOwnMethod}
use Rattle.cjc_token_proof.proofs.ComponentsLaws.Apart.{IsOwn, order_own}
use Rattle.cjc_components.specs.Class.{fields_in, fields_of}
use Rattle.cjc_components.specs.Package.{Package, world}
use Rattle.cjc_world.specs.ExportFile.Members.{may_be_constant}
use Rattle.cjc_shape_proof.specs.LowerJudge.Rules.{settings_of}
use Rattle.cjc_token_proof.specs.List.Listed.{ListTree}
use Rattle.cjc_theorem.proofs.AlikeLaws.NamedLaws.Members.{NamesField, NamesMethod, static_own}
use Rattle.cjc_token_proof.specs.Narrow.Rows.Resolved.{constant_named}
use Rattle.cjc_narrow_proof.proofs.LawsLaws.Own.{first_here}
use Rattle.cjc_token_proof.specs.Subset.Checks.{is_imported_variable}
use Rattle.cjc_token_proof.specs.Subset.Members.{imported_field, is_imported_constant}
use Rattle.cjc_token_proof.specs.Subset.Members as subset
use Rattle.cjc_token_proof.proofs.TablesLaws.Above.{info_of_name, rules_of}
use Rattle.cjc_token_proof.specs.Tables.Known.{order_of, statics_of}
use Rattle.cjc_tokens.specs.Fields.{is_constant}
use Rattle.cjc_vtable.proofs.Filed.{IsFiled, filed, in_class_file, in_export_file}
use Rattle.cjc_world.specs.Classes.{Class, Member, class_named, declared, field_of_class, field_of_export, imported}
use Rattle.cjc_world.specs.Supertypes.{IsAcyclic, AreSupertypes, Supertypes, supertypes, known_here, unknown_here}
use Rattle.cjc_world.specs.Lookup.{field_in, find_field, is_called, member_at, or_else, own_field}
use Rattle.cjc_world.specs.Order.{method_order}
use Rattle.cjc_world.specs.Rules.{is_twice}
use Rattle.cjc_world.specs.declared.found.Found.{Found}
use Rattle.cjc_world.proofs.Settled.{supertypes-AreSupertypes}
use Rattle.cjc_token_proof.proofs.WrittenCalls.Found.{stands_in_method}
use Rattle.cjc_shape_proof.specs.Written.Checked.{IsOfFiles}
use Rattle.cjc_shape_proof.proofs.WrittenLaws.Checked.{files_sound, own_names}
use Rattle.cjc_shape_proof.proofs.WrittenLaws.Checked.{own_ordered, own_solid}
use Rattle.cjc_shape_proof.proofs.FindsLaws.Fields.{no_constant}
use Rattle.cjc_theorem.proofs.AlikeLaws.MetLaws.Cells.{has_cell, is_static_of}

-- ---- lists

-- a method that is the same as one of these, of the package, is one of them
same_there : (f : Found) (fs : List Found) → ((k : ℕ) (g : Found) → slice_get fs k ≡ Some g → g.imported ≡ false)
    → list_any (is_same f) fs ≡ true → f.imported ≡ false → (k : ℕ) × (slice_get fs k ≡ Some f)
same_there f [] all e own = cc
same_there f (g ∷ fs) all e own = by (is_same f g) refl e (λ h. same_there f fs (λ k x i. all (suc k) x i) h own)
  where
    two : (a b c : Bool) → (not a && b && c) ≡ true → (b ≡ true) × (c ≡ true)
    two false true true e = (refl, refl)
    two false true false e = cc
    two false false c e = cc
    two true b c e = cc

    by : (b : Bool) → is_same f g ≡ b → (b || list_any (is_same f) fs) ≡ true → (list_any (is_same f) fs ≡ true
        → (k : ℕ) × (slice_get fs k ≡ Some f)) → (k : ℕ) × (slice_get (g ∷ fs) k ≡ Some f)
    by true same e rest =
        let parts = two f.imported (f.class == g.class) (f.member == g.member) same in
        let here : g ≡ f =
        ap (λ b. record { imported = b; class = g.class; member = g.member }) (all 0 g refl ∙ sym own)
        ∙ ap (λ n. record { imported = f.imported; class = n; member = g.member })
        (sym (eqb-true f.class g.class parts.0))
        ∙ ap (λ n. record { imported = f.imported; class = f.class; member = n })
        (sym (eqb-true f.member g.member parts.1)) in
        (0, ap Some here)
    by false same e rest = let r = rest e in (suc r.0, r.1)

-- ---- a field of a class, from the class on

field_found : (w : List Class) → IsAcyclic w → (d : Class) (name desc : List ℕ) (f : Found) → class_named w d.name
    ≡ Some d → own_field name desc d ≡ Some f → find_field w d.name name desc ≡ Some f
unfolding find_field
field_found w acyclic d name desc f named e = by (supertypes w (d.name ∷ [])) (supertypes-AreSupertypes w acyclic
    (d.name ∷ []))
  where
    own : Class → Option Found
    own = own_field name desc

    by : (k : Supertypes) → AreSupertypes w (d.name ∷ []) k → field_in own k ≡ Some f
    by _ (unknown_here g n) = absurd (clash (sym g ∙ named))
      where
        clash : {c : Class} → None ≡ Some c → ⊥
        clash e = cc
    by _ (known_here {c = c} {supers = s} {interfaces = i} {next = next} g sk ik n) =
        let both : Some d ≡ Some c = sym named ∙ g in
        let same : d ≡ c = cc in
        ap (λ o. or_else (or_else o (or_else (field_in own i) (field_in own s))) (field_in own next))
        (subst (λ (v : Class). own v ≡ Some f) same e)

-- a member by its name and descriptor
same_id : (class name desc : List ℕ) (id : MemberId) → name ≡ id.name → desc ≡ id.desc
    → record { class = class; name = name; desc = desc } ≡ of_class class id
same_id class name desc id e f = ap (λ v. record { class = class; name = v; desc = desc }) e
    ∙ ap (λ v. record { class = class; name = id.name; desc = v }) f

-- ---- tests

module _ (list : ListTree) (codes : List MethodCode) (p : Package) (is : IsOfFiles list codes p) where
  abbrev w : List Class
  w = world p

  abbrev u : KeepsNames list.name p.files codes (settings_of list)
  u = own_names list codes p is.checked

  abbrev solid : IsSolid p.files
  solid = own_solid list codes p is.checked

  abbrev pub Names_field : MemberId → Bool → Type 0
  Names_field id static = NamesField list.name p.files codes (settings_of list) u solid id static

  abbrev pub Names_method : (class : ClassTree) (op : ℕ) (id : MemberId) → Type 0
  Names_method class op id = NamesMethod list.name p.files codes (settings_of list) u solid class op id

  -- ---- classes

  own_class : (d : Class) → class_named w d.name ≡ Some d → d.is_imported ≡ false → IsOwnClass p d.name d
  own_class d named own = let h = info_of_name list.name p (files_sound list codes p is.checked) d.name d named own
      in record { place = h.number; there = h.ordered; named = refl }

  -- ---- fields

  -- the first of its name and descriptor, from the class that declares it
  declared_found : (id : MemberId) (d : Class) (f : Found) → class_named w d.name ≡ Some d
      → (at : IsFieldAt id.name id.desc d f) → find_field w d.name id.name id.desc ≡ Some (member_at d at.place)
  unfolding own_field is_twice
  declared_found id d f named at =
      let rules = rules_of list.name p (files_sound list codes p is.checked) d.name d named in
      let m = at.member in
      let once = subst (λ v. is_twice d.fields at.place id.name v ≡ false) at.has_desc
      (subst (λ v. is_twice d.fields at.place v m.desc ≡ false) at.has_name (rules.fields at.place m at.is_member))
      in
      let called : is_called id.name id.desc m ≡ true =
      and_from (bytes_eq m.name id.name) (bytes_eq m.desc id.desc) (ap (bytes_eq m.name) (sym at.has_name)
      ∙ name_is m.name) (ap (bytes_eq m.desc) (sym at.has_desc) ∙ name_is m.desc) in
      field_found w (let o = own_ordered list codes p is.checked in o.acyclic) d id.name id.desc (member_at d at.place)
      named
      (ap (option_map (λ i. member_at d i)) (first_here (λ f. is_called id.name id.desc f) d.fields at.place m
      at.is_member called once))

  -- 310: a field of objects that code names is no imported class's
  no_import : (d : Class) → IsFiled p.files d → (place : ℕ) (m : Member) → slice_get d.fields place ≡ Some m
      → is_static m.flags ≡ false → is_imported_variable p.files (Some (member_at d place)) ≡ false
      → d.is_imported ≡ false
  unfolding subset.is_constant
  no_import d (in_class_file n t at) place m there plain e = refl
  no_import d (in_export_file n t at) place m there plain e =
      let k = mapped_at field_of_export t.fields place m there in
      let x = k.0 in
      let flat : is_static x.flags ≡ false = sym (ap (λ (q : Member). is_static q.flags) k.2) ∙ plain in
      let none : subset.is_constant p.files (member_at (imported n t) place) ≡ false =
      ap (λ o. is_imported_constant (imported_field o place)) at ∙ ap is_imported_constant k.1
      ∙ ap (λ b. b && is_some x.constant) (no_constant x.flags x.desc flat) in
      true_not_false true refl (ap (λ b. true && not b) (sym none) ∙ e)

  -- A field of the package in its class file.
  pub record IsDeclared (d : Class) (place : ℕ) (m : Member) : Type 0 where
    pub tree : FieldTree
    pub file : ClassTree
    pub is_file : (let v = p.files in slice_get v.classes d.number ≡ Some file)
    pub is_class : d ≡ declared d.number file
    pub in_file : slice_get file.fields place ≡ Some tree
    pub there : slice_get (fields_of p.files d) place ≡ Some tree
    pub same : m ≡ field_of_class tree

  pub declared_by : (d : Class) → class_named w d.name ≡ Some d → d.is_imported ≡ false → (place : ℕ) (m : Member)
      → slice_get d.fields place ≡ Some m → IsDeclared d place m
  declared_by d named own place m at =
      let t = solid.own d.name d named own in
      let c = mapped_at field_of_class (let v = t.0 in v.fields) place m (ap (λ (v : Class). slice_get v.fields place)
      (sym t.2) ∙ at) in
      record {
        tree = c.0;
        file = t.0;
        is_file = t.1;
        is_class = t.2;
        in_file = c.1;
        there = ap (λ o. slice_get (fields_in o) place) t.1 ∙ c.1;
        same = c.2;
      }

  pub field_own : (id : MemberId) → (n : Names_field id false) → (let d = n.owner in d.is_imported) ≡ false
  field_own id n =
      let d = n.owner in
      let at = n.at in
      no_import d (filed p.files d.name d n.named) at.place at.member at.is_member n.is_static
      (ap (λ g. is_imported_variable p.files (Some g)) (sym at.is) ∙ n.is_variable)

  pub own_field_named : (id : MemberId) → (n : Names_field id false)
      → IsOwnField p (of_class (let d = n.owner in d.name) id)
  own_field_named id n =
      let d = n.owner in
      let at = n.at in
      let own = field_own id n in
      let t = declared_by d n.named own at.place at.member at.is_member in
      record {
        class = d;
        place = at.place;
        tree = t.tree;
        own = own_class d n.named own;
        there = t.there;
        is_instance = sym (ap (λ (q : Member). is_static q.flags) t.same) ∙ n.is_static;
        found = declared_found id d n.place n.named at;
      }

  -- ---- static fields

  -- the value of a field of the package, where it is a constant
  constant_by : (d : Class) (place : ℕ) (m : Member) → d.is_imported ≡ false → (t : IsDeclared d place m)
      → constant_at p.files (member_at d place) ≡ (let x = t.tree in if may_be_constant x.flags x.desc then x.constant
      else None)
  constant_by d place m own t =
      let v = p.files in
      ap (λ b. if b then option_and_then (exported_constant place) (slice_get (flat_map (λ t. t.classes) v.exports)
      d.number) else option_and_then (constant_in place) (slice_get v.classes d.number)) own
      ∙ ap (option_and_then (constant_in place)) t.is_file
      ∙ ap (option_and_then (λ (q : FieldTree). if may_be_constant q.flags q.desc then q.constant else None)) t.in_file

  -- one whose value no constant gives is no constant
  no_value : (b : Bool) (o : Option ℤ) → (if b then o else None) ≡ None → (b && is_some o) ≡ false
  no_value true None e = refl
  no_value true (Some z) e = cc
  no_value false o e = refl

  pub own_cell_named : HasCells (order_of p.image) (statics_of (let v = p.files in v.classes)) → CellsFit p.image
      → (id : MemberId) → (n : Names_field id true) → constant_named p.files w id ≡ None
      → IsOwnCell p (of_class (let d = n.owner in d.name) id)
  own_cell_named told fit id n none =
      let d = n.owner in
      let at = n.at in
      let own = static_own list.name p.files codes (settings_of list) u solid id n none in
      let t = declared_by d n.named own at.place at.member at.is_member in
      let x = t.tree in
      let static : is_static x.flags ≡ true = sym (ap (λ (q : Member). is_static q.flags) t.same) ∙ n.is_static in
      let its : constant_named p.files w id ≡ constant_at p.files n.place = ap (option_and_then (constant_at p.files))
      n.found in
      let value : constant_at p.files (member_at d at.place) ≡ None = ap (constant_at p.files) (sym at.is)
      ∙ (sym its ∙ none) in
      let told_value : (if may_be_constant x.flags x.desc then x.constant else None) ≡ None =
      sym (constant_by d at.place at.member own t) ∙ value in
      let variable : is_constant x ≡ false = no_value (may_be_constant x.flags x.desc) x.constant told_value in
      let name : (let c = t.file in c.name) ≡ d.name = sym (ap (λ (v : Class). v.name) t.is_class) in
      let x_name : x.name ≡ id.name = sym (ap (λ (q : Member). q.name) t.same) ∙ at.has_name in
      let x_desc : x.desc ≡ id.desc = sym (ap (λ (q : Member). q.desc) t.same) ∙ at.has_desc in
      let id_is : field_id d.name x ≡ of_class d.name id = same_id d.name x.name x.desc id x_name x_desc in
      let among = is_static_of (let v = p.files in v.classes) d.number t.file at.place x t.is_file t.in_file
      (and_from (is_static x.flags) (not (is_constant x)) static (ap not variable)) in
      record {
        class = d;
        place = at.place;
        tree = x;
        own = own_class d n.named own;
        there = t.there;
        is_static = static;
        is_no_constant = variable;
        is = id_is;
        cells = fit;
        has_cell = has_cell p.image (statics_of (let v = p.files in v.classes)) told (of_class d.name id)
            (subst (λ f. is_one_of f (statics_of (let v = p.files in v.classes)) ≡ true) (ap (λ v. field_id v x) name
            ∙ id_is) among);
      }

  -- ---- methods

  pub own_method_named : (class : ClassTree) (op : ℕ) (id : MemberId) → (n : Names_method class op id)
      → (let d = n.owner in d.is_imported) ≡ false → (let d = n.owner in is_interface d.flags) ≡ false
      → IsOwnMethod p (of_class (let d = n.owner in d.name) id)
  own_method_named class op id n own plain =
      let d = n.owner in
      let at = n.at in
      let c = own_class d n.named own in
      let m = at.member in
      let no_initialiser : is_initialiser m.name ≡ false = ap is_initialiser at.has_name
      ∙ (let g = n.fits in g.no_initialiser) in
      let stands = stands_in_method w c.place d c.there plain own at.place m at.is_member no_initialiser in
      let place = same_there (member_at d (length d.fields + at.place)) (method_order w) (λ k f e. all_at IsOwn
      (method_order w) k f (order_own w) e) stands own in
      record {
        class = d;
        member = n.place;
        place = place.0;
        own = c;
        there = place.1 ∙ ap Some (sym at.is);
        found = n.again;
      }
