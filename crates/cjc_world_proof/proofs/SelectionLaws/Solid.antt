-- A package that breaks no rule has code for what it declares and inherits.
use Rattle.std.proofs.Common.{◌≡◌, ℕ, refl, sym, ap, subst, ◌∙◌, Bool, true, false, List, [], ◌∷◌, length}
use Rattle.std.proofs.Common.{inl, inr, ⊎_elim}
use Rattle.std.specs.Prelude.{◌⊎◌, not, ◌&&◌, ◌||◌, Option, Some, None, is_some, option_and_then, option_map, slice_get}
use Rattle.std.specs.Prelude.{◌-◌}
use Rattle.std.specs.List.{list_any}
use Rattle.std.specs.Str.{bytes_eq}
use Rattle.cjc_bytes.specs.AccessFlags.{acc_native, acc_strict, acc_synchronized, acc_transient, acc_volatile, has}
use Rattle.cjc_bytes.specs.AccessFlags.{is_abstract, is_interface, is_private, is_public, is_static}
use Rattle.cjc_bytes.specs.declared.settings.Settings.{Settings}
use Rattle.cjc_bytes.proofs.Lists.{bytes_true}
use Rattle.cjc_bytes.proofs.Gets.{any_off}
use Rattle.cjc_jvm_semantics.specs.OnePackage.{ResolvedMember as NameHit, is_constructor, is_initialiser}
use Rattle.cjc_world_proof.specs.Calls.Solid.{HasCode, IsConcrete, IsOwn, IsSolid}
use Rattle.cjc_world.specs.ClassFile.Code.{CodeTree}
use Rattle.cjc_world.specs.ClassFile.declared.tree.ClassTree.{ClassTree}
use Rattle.cjc_world.specs.ClassFile.declared.tree.FieldTree.{FieldTree}
use Rattle.cjc_world.specs.ClassFile.declared.tree.MethodTree.{MethodTree}
use Rattle.cjc_clinit.specs.Bytecode.declared.method_code.MethodCode.{MethodCode}
use Rattle.cjc_world_proof.specs.Files.{IsClean}
use Rattle.cjc_world_proof.proofs.SelectionLaws.Rules.{field_kept, keeps, listed_abroad, listed_interface, method_kept}
use Rattle.cjc_world_proof.proofs.SelectionLaws.Rules.{only_object, own_coded, super_class}
use Rattle.cjc_clinit.specs.Subset.Checks.{check_breaks}
use Rattle.cjc_clinit.specs.Subset.Flags.{has_two_accesses, is_unfit_method}
use Rattle.cjc_clinit.specs.Subset.Members.{ResolvedMember, hit, hit_of, imports}
use Rattle.cjc_clinit.specs.Subset.Overriding.{has_no_code, is_unfit_selection, lacks_code}
use Rattle.cjc_world.specs.Upwards.{Below, IsOrdered, OnLine}
use Rattle.cjc_world.proofs.UpwardLaws.Lines.{below_line, has_interface_above, line_is_below, roots}
use Rattle.cjc_vtable.specs.Kept.{IsUnbroken}
use Rattle.cjc_vtable.proofs.Clean.{coded-declared, coded-imported}
use Rattle.cjc_vtable.proofs.Filed.{IsFiled, at-number, filed, get-has, in_class_file, in_export_file, of-imports}
use Rattle.cjc_vtable.proofs.Numbers.{at-tree}
use Rattle.cjc_vtable.proofs.Read.{has-code}
use Rattle.cjc_world.specs.declared.found.Found.{Found}
use Rattle.cjc_world.specs.Classes.{Class, Member, all_classes, class_at, class_named, declared, imported}
use Rattle.cjc_world.specs.Files.{Files}
use Rattle.cjc_world.specs.Interfaces.{has_interface}
use Rattle.cjc_world.specs.Supertypes.{IsAcyclic, is_below}
use Rattle.cjc_world.specs.Lookup.{object, selected}
use Rattle.cjc_world.specs.Rules.{is_missing, is_none_of, lists_missing}
use Rattle.cjc_world.specs.Subtype.{starts}
use Rattle.cjc_world.proofs.Cycles.{class_named-name}
use Rattle.cjc_world.proofs.Unbroken.{unbroken_is_acyclic}

-- ---- 304 of a method

-- native, or neither abstract with static or private, nor an abstract constructor
pub record FitsMethod (flags : ℕ) (name : List ℕ) : Type 0 where
  pub no_native : has flags acc_native ≡ false
  pub bound : is_abstract flags ≡ true → (is_static flags ≡ false) × (is_private flags ≡ false)
      × (is_constructor name ≡ false)

fits_method : (interface : Bool) (flags : ℕ) (name : List ℕ) (code : Bool) → is_unfit_method interface flags name code
    ≡ false → FitsMethod flags name
fits_method interface flags name code e = by (has flags acc_native) (has flags acc_synchronized) (has flags acc_strict)
    (has_two_accesses flags) (is_abstract flags) (is_static flags) (is_private flags) (is_constructor name)
    (is_initialiser name) code interface refl refl refl refl refl e
  where
    by : (n y r o a s p c i k f : Bool) → has flags acc_native ≡ n → is_abstract flags ≡ a → is_static flags ≡ s
        → is_private flags ≡ p → is_constructor name ≡ c
        → ((n || y || r || o || (a && (s || p))) || (a && (c || i)) || (i && not s) || (f && k && not i)) ≡ false
        → FitsMethod flags name
    by false y r o false s p c i k f p1 p2 p3 p4 p5 e = record {
      no_native = p1;
      bound = λ h. absurd (clash (sym p2 ∙ h));
    }
      where
        clash : false ≡ true → ⊥
        clash e = cc
    by false y r o true false false false i k f p1 p2 p3 p4 p5 e = record { no_native = p1; bound = λ h. (p3, p4, p5) }
    by true y r o a s p c i k f p1 p2 p3 p4 p5 e = absurd cc
    by false true r o true s p c i k f p1 p2 p3 p4 p5 e = absurd cc
    by false false true o true s p c i k f p1 p2 p3 p4 p5 e = absurd cc
    by false false false true true s p c i k f p1 p2 p3 p4 p5 e = absurd cc
    by false false false false true true p c i k f p1 p2 p3 p4 p5 e = absurd cc
    by false false false false true false true c i k f p1 p2 p3 p4 p5 e = absurd cc
    by false false false false true false false true i k f p1 p2 p3 p4 p5 e = absurd cc

-- ---- 203: what is listed is there

first_there : (w : List Class) (s : List ℕ) (interfaces : List (List ℕ)) → (list_any (λ x. is_missing w x) (s ∷ [])
    || list_any (λ x. is_missing w x) interfaces) ≡ false → (d : Class) × (class_named w s ≡ Some d)
first_there w s interfaces e = by (class_named w s) refl (either (is_missing w s) (list_any (λ x. is_missing w x)
    interfaces) e)
  where
    either : (a b : Bool) → ((a || false) || b) ≡ false → a ≡ false
    either true b e = absurd cc
    either false b e = refl

    by : (o : Option Class) → class_named w s ≡ o → is_none_of o ≡ false → (d : Class) × (class_named w s ≡ Some d)
    by None f e = absurd cc
    by (Some d) f e = (d, f)

-- ---- what a look-up tells, on both sides

fit_selection : (interface : Bool) (o : Option ResolvedMember) → is_unfit_selection interface o ≡ false
    → (h : ResolvedMember) × (o ≡ Some h) × (is_abstract h.flags ≡ false)
fit_selection interface None e = absurd cc
fit_selection interface (Some h) e = (h, refl, by (is_abstract h.flags) (interface && not (is_public h.flags)) e)
  where
    by : (a b : Bool) → (a || b) ≡ false → a ≡ false
    by true b e = absurd cc
    by false b e = refl

abbrev tested : Class → Member → ResolvedMember
tested c m = record { owner = c; flags = m.flags }

abbrev named_hit : Class → Member → NameHit
named_hit c m = record { owner = c; flags = m.flags }

abbrev as_named : ResolvedMember → NameHit
as_named h = record { owner = h.owner; flags = h.flags }

hit_to : (f : Found) (o : Option Class) (h : ResolvedMember) → hit_of false f o ≡ Some h
    → option_and_then (λ c. option_map (named_hit c) (slice_get c.methods (f.member - length c.fields))) o
    ≡ Some (as_named h)
hit_to f None h e = absurd cc
hit_to f (Some c) h e = by (slice_get c.methods (f.member - length c.fields)) e
  where
    by : (o : Option Member) → option_map (tested c) o ≡ Some h → option_map (named_hit c) o ≡ Some (as_named h)
    by None e = absurd cc
    by (Some m) e = let is : tested c m ≡ h = cc in ap (λ k. Some (as_named k)) is

module _ (list : List ℕ) (files : Files) (codes : List MethodCode) (settings : Settings) (clean : IsClean list files
    codes settings) (plain : (x : List ℕ) (c : Class) → class_named (all_classes files) x ≡ Some c
    → starts 91 x ≡ false) where
  abbrev w : List Class
  w = all_classes files

  acyclic : IsAcyclic w
  acyclic = unbroken_is_acyclic list files clean.world

  numbered : (x : List ℕ) (c : Class) → class_named w x ≡ Some c → class_at w c.is_imported c.number ≡ Some c
  numbered x c e = at-number files x c e

  own : (x : List ℕ) (c : Class) → class_named w x ≡ Some c → c.is_imported ≡ false → (t : ClassTree)
      × (slice_get files.classes c.number ≡ Some t) × (c ≡ declared c.number t)
  own x c e mine = at-tree files c.number c (ap (λ b. class_at w b c.number) (sym mine) ∙ numbered x c e)

  -- the superclass of a class of the package
  single : (x : List ℕ) (c : Class) → class_named w x ≡ Some c → c.is_imported ≡ false → (s : List ℕ)
      × (c.supers ≡ s ∷ []) × (d : Class) × (class_named w s ≡ Some d)
  unfolding lists_missing
  single x c e mine =
      let t = own x c e mine in
      let one : c.supers ≡ (let k = t.0 in k.superclass) ∷ [] = ap (λ (v : Class). v.supers) t.2 in
      let k = keeps list files clean.world x c e in
      let there = first_there w (let k = t.0 in k.superclass) c.interfaces (ap (λ s. list_any (λ x. is_missing w x) s
      || list_any (λ x. is_missing w x) c.interfaces) (sym one) ∙ k.there mine) in
      ((let k = t.0 in k.superclass), one, there.0, there.1)

  abroad_rooted : (x : List ℕ) (c : Class) → class_named w x ≡ Some c → c.is_imported ≡ true → is_interface c.flags
      ≡ false → OnLine w x (let o = clean.sound.root in imported o.number o.class)
  abroad_rooted x c e imp ground = by c (filed files x c e) imp ground (class_named-name w x c e)
    where
      by : (c : Class) → IsFiled files c → c.is_imported ≡ true → is_interface c.flags ≡ false → c.name ≡ x
          → OnLine w x (let o = clean.sound.root in imported o.number o.class)
      by c (in_class_file n t at) imp ground name = absurd cc
      by c (in_export_file n t at) imp ground name =
          let o = clean.sound.root in
          below_line w acyclic x object (imported o.number o.class) (ap (λ v. is_below w v object) (sym name)
          ∙ clean.sound.roots n t at ground) o.found

  ordered : IsOrdered w
  ordered =
      let o = clean.sound.root in
      record {
        acyclic = acyclic;
        supers = super_class list files clean.world;
        interfaces = listed_interface list files clean.world;
        only_object = only_object list files clean.world;
        abroad = listed_abroad list files clean.world;
        rooted = λ x c e ground. (
          imported o.number o.class,
          o.found,
          roots w acyclic (super_class list files clean.world) single (imported o.number o.class) o.found
              abroad_rooted x c e ground,
        );
      }

  -- ---- 304

  fit : (class : ClassTree) (method : MethodTree) → IsOwn files class method → FitsMethod method.flags method.name
  fit class method is = fits_method (is_interface class.flags) method.flags method.name (is_some method.code)
      (method_kept list files codes settings clean.checks is.number class is.is_class is.place method
      is.is_method).2

  coded : (class : ClassTree) (method : MethodTree) → IsOwn files class method → is_abstract method.flags ≡ false
      → (tree : CodeTree) × (method.code ≡ Some tree)
  coded class method is concrete =
      let r = clean.read.classes is.number class is.is_class in
      let f = fit class method is in
      some method.code (has-code class r.0 method r.2 (get-has method class.methods is.place is.is_method) concrete
      f.no_native)
    where
      some : (o : Option CodeTree) → is_some o ≡ true → (tree : CodeTree) × (o ≡ Some tree)
      some None e = absurd cc
      some (Some tree) e = (tree, refl)

  bound : (class : ClassTree) (method : MethodTree) → IsOwn files class method → is_abstract method.flags ≡ true
      → (is_static method.flags ≡ false) × (is_private method.flags ≡ false) × (is_constructor method.name ≡ false)
  bound class method is = let f = fit class method is in f.bound

  static_fields : (n k : ℕ) (class : ClassTree) (f : FieldTree) → slice_get files.classes n ≡ Some class
      → slice_get class.fields k ≡ Some f → is_interface class.flags ≡ true → is_static f.flags ≡ true
  static_fields n k class f at there is = by (has_two_accesses f.flags) (is_interface class.flags) (is_static f.flags)
      (has f.flags acc_volatile) (has f.flags acc_transient) is (field_kept list files codes settings clean.checks
      n class at k f there).2
    where
      by : (o i s x y : Bool) → i ≡ true → (o || (i && not s) || x || y) ≡ false → s ≡ true
      by o true true x y e f = refl
      by true true false x y e f = absurd cc
      by false true false x y e f = absurd cc
      by o false s x y e f = absurd cc

  -- ---- 307

  asked : (a i f n : Bool) {u : Bool} → (a ≡ true) ⊎ (i ≡ true) → n ≡ false → (((a || i) && not (not f && n)) && u)
      ≡ false → u ≡ false
  asked true i true n h e f = f
  asked true i false false h e f = f
  asked true i false true h e f = absurd cc
  asked false true true n h e f = f
  asked false true false false h e f = f
  asked false true false true h e f = absurd cc
  asked false false g n h e f = ⊎_elim (λ k. absurd (clash k)) (λ k. absurd (clash k)) h
    where
      clash : false ≡ true → ⊥
      clash e = cc

  -- the selection of a method is no abstract one
  has_code : (x name desc : List ℕ) (interface : Bool)
      → is_unfit_selection interface (hit w false (selected w x name desc)) ≡ false → HasCode w x name desc
  unfolding hit
  has_code x name desc interface e = by (selected w x name desc) refl (fit_selection interface
      (hit w false (selected w x name desc)) e)
    where
      by : (o : Option Found) → selected w x name desc ≡ o → (h : ResolvedMember) × (hit w false o ≡ Some h)
          × (is_abstract h.flags ≡ false) → HasCode w x name desc
      by None f h = let no = h.1 in absurd cc
      by (Some f) g h = record {
        place = f;
        hit = as_named h.0;
        found = g;
        is_hit = hit_to f (class_at w f.imported f.class) h.0 h.1;
        is_concrete = h.2;
      }

  -- what a class is asked for has code, in a class of the package that is not abstract
  by_rule : (t : ClassTree) (d : Class) (i : ℕ) (m : Member) → is_abstract t.flags ≡ false → lacks_code w t d ≡ false
      → slice_get d.methods i ≡ Some m → (is_abstract m.flags ≡ true) ⊎ (is_interface d.flags ≡ true)
      → is_initialiser m.name ≡ false → HasCode w t.name m.name m.desc
  by_rule t d i m concrete off there asks plain_name =
      has_code t.name m.name m.desc (is_interface d.flags)
      (asked (is_abstract m.flags) (is_interface d.flags) d.is_imported (is_initialiser m.name) asks plain_name
      (any_off (λ k. has_no_code w t d k) d.methods i m (only (is_abstract t.flags)
      (list_any (λ k. has_no_code w t d k) d.methods) concrete off) there))
    where
      only : (a b : Bool) → a ≡ false → (not a && b) ≡ false → b ≡ false
      only false b e f = f
      only true b e f = absurd cc

  implemented : (x : List ℕ) (c d : Class) (i : ℕ) (m : Member) → class_named w x ≡ Some c → IsConcrete c
      → class_named w d.name ≡ Some d → OnLine w x d ⊎ (Below w x d.name × (is_interface d.flags ≡ true))
      → slice_get d.methods i ≡ Some m → (is_abstract m.flags ≡ true) ⊎ (is_interface d.flags ≡ true)
      → is_initialiser m.name ≡ false → HasCode w x m.name m.desc
  implemented x c d i m e concrete named way there asks plain_name =
      let t = own x c e concrete.own in
      let name : c.name ≡ x = class_named-name w x c e in
      let tree_name : (let k = t.0 in k.name) ≡ x = sym (ap (λ (v : Class). v.name) t.2) ∙ name in
      let above : (is_below w c.name d.name || has_interface w c.name d.name) ≡ true =
      subst (λ n. (is_below w n d.name || has_interface w n d.name) ≡ true) (sym name) (⊎_elim
      (λ on. front (is_below w x d.name) (has_interface w x d.name) (line_is_below w acyclic x d on))
      (λ far. back (is_below w x d.name) (has_interface w x d.name) (has_interface_above w ordered x c d e
      concrete.no_interface far.0 named far.1))
      way) in
      subst (λ n. HasCode w n m.name m.desc) tree_name
      (by t.0 t.1 (ap (λ (v : Class). v.flags) t.2) t.2 (subst (λ n. (is_below w n d.name || has_interface w n d.name)
      ≡ true) (ap (λ (v : Class). v.name) t.2) above) (bytes_eq (let k = t.0 in k.name) d.name) refl
      (filed files d.name d named))
    where
      front : (a b : Bool) → a ≡ true → (a || b) ≡ true
      front true b e = refl
      front false b e = absurd cc

      back : (a b : Bool) → b ≡ true → (a || b) ≡ true
      back true b e = refl
      back false b e = e

      inherited : (a b : Bool) → a ≡ true → b ≡ false → (a && not b) ≡ true
      inherited true false e f = refl
      inherited true true e f = absurd cc
      inherited false b e f = absurd cc

      none_of : IsUnbroken 307 (check_breaks list files codes settings)
      none_of = subst (IsUnbroken 307) (sym clean.checks) (λ b j g. elim j [ ])

      same_class : {a b : Class} → Some a ≡ Some b → a ≡ b
      same_class e = cc

      by : (t : ClassTree) → slice_get files.classes c.number ≡ Some t → c.flags ≡ t.flags → c ≡ declared c.number t
          → (is_below w t.name d.name || has_interface w t.name d.name) ≡ true → (b : Bool) → bytes_eq t.name d.name ≡ b
          → IsFiled files d → HasCode w t.name m.name m.desc
      by t at flags is above true f filed_one =
          let same : c ≡ d = same_class (sym (ap (class_named w) (class_named-name w x c e) ∙ e)
          ∙ ap (class_named w) (ap (λ (v : Class). v.name) is ∙ bytes_true t.name d.name f) ∙ named) in
          let members : slice_get (declared 0 t).methods i ≡ Some m = ap (λ (v : Class). slice_get v.methods i) (sym is
          ∙ same) ∙ there in
          by_rule t (declared 0 t) i m (sym (ap is_abstract flags) ∙ concrete.no_abstract) (own_coded list files codes
          settings clean.checks c.number t at) members
          (⊎_elim (λ a. inl a) (λ b. inr (ap (λ (v : Class). is_interface v.flags) (sym is ∙ same) ∙ b)) asks)
          plain_name
      by t at flags is above false f filed_one = of_file d filed_one there asks above f
        where
          of_file : (d : Class) → IsFiled files d → slice_get d.methods i ≡ Some m → (is_abstract m.flags ≡ true)
              ⊎ (is_interface d.flags ≡ true) → (is_below w t.name d.name || has_interface w t.name d.name) ≡ true
              → bytes_eq t.name d.name ≡ false → HasCode w t.name m.name m.desc
          of_file d (in_class_file l u h) there asks above f =
              by_rule t (declared 0 u) i m (sym (ap is_abstract flags) ∙ concrete.no_abstract)
              (coded-declared list files codes settings none_of t u (get-has t files.classes c.number at)
              (get-has u files.classes l h) (inherited (is_below w t.name u.name || has_interface w t.name u.name)
              (bytes_eq t.name u.name) above f)) there asks plain_name
          of_file d (in_export_file l u h) there asks above f =
              let s = of-imports u files.exports (get-has u (imports files.exports) l h) in
              by_rule t (imported 0 u) i m (sym (ap is_abstract flags) ∙ concrete.no_abstract)
              (coded-imported list files codes settings none_of t s.0 u (get-has t files.classes c.number at) s.1 s.2
              (inherited (is_below w t.name u.name || has_interface w t.name u.name) (bytes_eq t.name u.name) above
              f)) there asks plain_name

  pub solid : IsSolid files
  solid = record {
    ordered = ordered;
    numbered = numbered;
    own = own;
    plain = plain;
    coded = coded;
    bound = bound;
    fields = static_fields;
    implemented = implemented;
  }
