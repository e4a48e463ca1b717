-- Below a method that is neither private nor static, methods of the package with its name and descriptor are neither,
-- whether it is of the package or imported (rule 306).
use Rattle.std.proofs.Common.{◌≡◌, ℕ, refl, sym, ap, subst, ◌∙◌, Bool, true, false, List, [], ◌∷◌, ◌++◌, ⊎_elim}
use Rattle.std.specs.Prelude.{not, ◌&&◌, ◌||◌, Some, map, slice_get, if◌then◌else◌}
use Rattle.std.specs.Str.{bytes_eq}
use Rattle.cjc_bytes.specs.AccessFlags.{is_private, is_static}
use Rattle.cjc_bytes.specs.Breaks.{at, each_from}
use Rattle.cjc_bytes.specs.Order.{file_of}
use Rattle.cjc_bytes.specs.declared.settings.Settings.{Settings}
use Rattle.cjc_bytes.proofs.Lists.{bytes_true, none_left, none_right}
use Rattle.cjc_bytes.proofs.BrokenRules.{each_at, not_broken}
use Rattle.cjc_components.specs.Bytecode.declared.method_code.MethodCode.{MethodCode}
use Rattle.cjc_theorem.proofs.AlikeLaws.VirtualCalls.MethodKinds.{in_get, keeps_kinds}
use Rattle.cjc_token_proof.proofs.WorldProofOwn.{mapped_at}
use Rattle.cjc_token_proof.specs.Subset.Checks.{check_breaks, class_breaks, code_breaks, field_breaks, list_breaks}
use Rattle.cjc_token_proof.specs.Subset.Checks.{method_breaks, own_breaks}
use Rattle.cjc_token_proof.specs.Subset.Members.{imports}
use Rattle.cjc_token_proof.specs.Subset.Overriding.{changes_kind, class_against, hides_one, is_inherited}
use Rattle.cjc_token_proof.specs.Subset.Overriding.{is_of_other_kind, is_special as is_special_name, lacks_code}
use Rattle.cjc_token_proof.specs.Subset.Overriding.{method_against, overriding_breaks, supertype_breaks}
use Rattle.cjc_token_proof.specs.Subset.Places.{at_class, at_method}
use Rattle.cjc_tokens.proofs.Facts.{same-refl}
use Rattle.cjc_tokens.specs.Members.{In, Signature, signature_of}
use Rattle.cjc_vtable.proofs.Filed.{IsFiled, filed, get-has, has-get, in_class_file, in_export_file, of-imports}
use Rattle.cjc_vtable.proofs.Keeping.{any-false}
use Rattle.cjc_vtable.specs.Calls.{is_special, selects}
use Rattle.cjc_world.proofs.Cycles.{class_named-name}
use Rattle.cjc_world.proofs.Settled.{lists-front}
use Rattle.cjc_world.proofs.UpwardLaws.Lines.{line_below, line_is_below, line_named}
use Rattle.cjc_world.specs.ClassFile.declared.tree.ClassTree.{ClassTree}
use Rattle.cjc_world.specs.ClassFile.declared.tree.MethodTree.{MethodTree}
use Rattle.cjc_world.specs.Classes.{Class, Member, all_classes, class_named, declared, imported, method_of_class}
use Rattle.cjc_world.specs.ExportFile.declared.tree.ExportClass.{ExportClass}
use Rattle.cjc_world.specs.ExportFile.declared.tree.ExportTree.{ExportTree}
use Rattle.cjc_world.specs.Files.{Files}
use Rattle.cjc_world.specs.Interfaces.{has_interface}
use Rattle.cjc_world.specs.Lookup.{is_called}
use Rattle.cjc_world.specs.Supertypes.{Above, IsAcyclic, Lists, directly, is_below, onwards}
use Rattle.cjc_world.specs.Upwards.{OnLine, up}

module _ (list : List ℕ) (files : Files) (codes : List MethodCode) (settings : Settings) (unbroken : check_breaks list
    files codes settings ≡ []) where
  abbrev w : List Class
  w = all_classes files

  -- 306 of a method of a class, against a class of an export file
  import_kept : (n j l i : ℕ) (t : ClassTree) (s : ExportTree) (u : ExportClass) (m : MethodTree)
      → slice_get files.classes n ≡ Some t → slice_get files.exports j ≡ Some s → slice_get s.classes l ≡ Some u
      → slice_get t.methods i ≡ Some m → is_inherited w t (imported 0 u) ≡ true
      → (not (is_special_name m.name) && changes_kind (imported 0 u) m.flags m.name m.desc) ≡ false
  unfolding check_breaks class_breaks overriding_breaks supertype_breaks class_against method_against
  import_kept n j l i t s u m e f k g above =
      let f_n = file_of files.lines n in
      let by_classes = each_from (λ n c. class_breaks files settings (file_of files.lines n) n c) 0 files.classes in
      let all = none_right (list_breaks list files settings) by_classes (none_left (list_breaks list files settings
      ++ by_classes) (each_from (λ _ code. code_breaks files settings code) 0 codes) unbroken) in
      let here : class_breaks files settings f_n n t ≡ [] =
      each_at (λ n c. class_breaks files settings (file_of files.lines n) n c) n files.classes t all e in
      let own = own_breaks files settings f_n n t in
      let fields = each_from (λ i m. field_breaks settings f_n t i m) 0 t.fields in
      let methods = each_from (λ i m. method_breaks settings f_n t i m) 0 t.methods in
      let over : overriding_breaks files f_n t ≡ [] = none_right (own ++ fields ++ methods) (overriding_breaks files f_n
      t) here in
      let A = at (lacks_code w t (declared 0 t)) (at_class f_n t) 307 in
      let B = each_from (λ _ d. supertype_breaks w f_n t (declared 0 d)) 0 files.classes in
      let C = each_from (λ _ (x : ExportTree). each_from (λ _ d. supertype_breaks w f_n t (imported 0 d)) 0 x.classes) 0
      files.exports in
      let of_file : each_from (λ _ d. supertype_breaks w f_n t (imported 0 d)) 0 s.classes ≡ [] =
      each_at (λ _ (x : ExportTree). each_from (λ _ d. supertype_breaks w f_n t (imported 0 d)) 0 x.classes) j
      files.exports s (none_right (A ++ B) C over) f in
      let supertypes : supertype_breaks w f_n t (imported 0 u) ≡ [] =
      each_at (λ _ d. supertype_breaks w f_n t (imported 0 d)) l s.classes u of_file k in
      let against : class_against w f_n t (imported 0 u) ≡ [] =
      sym (ap (λ b. if b then class_against w f_n t (imported 0 u) else []) above) ∙ supertypes in
      let D = at (lacks_code w t (imported 0 u)) (at_class f_n t) 307 in
      let one = each_at (λ i m. method_against f_n t (imported 0 u) i m) i t.methods m
      (none_right D (each_from (λ i m. method_against f_n t (imported 0 u) i m) 0 t.methods) against) g in
      let spot = at_method f_n t i m 0 in
      not_broken (not (is_special_name m.name) && changes_kind (imported 0 u) m.flags m.name m.desc) spot 306
      (none_right (at (not (is_special_name m.name) && hides_one (imported 0 u) m.flags m.name m.desc) spot 305)
      (at (not (is_special_name m.name) && changes_kind (imported 0 u) m.flags m.name m.desc) spot 306) one)

  module _ (acyclic : IsAcyclic w) where
    -- a class above the superclass is another class, and inherited from
    inherits : (x y : List ℕ) (k : ℕ) (t : ClassTree) (d : Class) → class_named w x ≡ Some (declared k t)
        → Lists y (t.superclass ∷ []) → OnLine w y d → is_inherited w t d ≡ true
    inherits x y k t d e listed on = both (is_below w t.name d.name) (has_interface w t.name d.name)
        (bytes_eq t.name d.name) under (apart (bytes_eq t.name d.name) refl)
      where
        itself : class_named w t.name ≡ Some (declared k t)
        itself = ap (class_named w) (class_named-name w x (declared k t) e) ∙ e

        under : is_below w t.name d.name ≡ true
        under = line_is_below w acyclic t.name d (up (declared k t) itself listed on)

        above : Above w t.name d.name
        above =
            let front = lists-front y (t.superclass ∷ []) t.interfaces listed in
            ⊎_elim (λ same. directly (declared k t) itself (subst (λ n. Lists n ((t.superclass ∷ []) ++ t.interfaces))
            same front)) (λ far. onwards (declared k t) itself front far) (line_below w y d on)

        apart : (b : Bool) → bytes_eq t.name d.name ≡ b → bytes_eq t.name d.name ≡ false
        apart false f = f
        apart true f = absurd (acyclic t.name (subst (Above w t.name) (sym (bytes_true t.name d.name f)) above))

        both : (a b q : Bool) → a ≡ true → q ≡ false → ((a || b) && not q) ≡ true
        both true b false f g = refl
        both true b true f g = absurd cc
        both false b q f g = absurd cc

    -- below an imported class
    import_kinds : (x y : List ℕ) (c d : Class) (m n : Member) → class_named w x ≡ Some c → c.is_imported ≡ false
        → Lists y c.supers → OnLine w y d → d.is_imported ≡ true → In m c.methods → In n d.methods
        → signature_of m ≡ signature_of n → is_special (signature_of m) ≡ false → selects n ≡ true → selects m ≡ true
    import_kinds x y c d m n e own l on import i j one plain may =
        by c d (filed files x c e) (filed files d.name d (line_named w y d on)) e own l on import i j
      where
        kept : (d : Class) → (not (is_special_name m.name) && changes_kind d m.flags m.name m.desc) ≡ false
            → In n d.methods → selects m ≡ true
        kept d off j =
            let none = behind (is_special_name m.name) (changes_kind d m.flags m.name m.desc) plain off in
            let here = any-false (λ k. is_called m.name m.desc k && is_of_other_kind m.flags k.flags) d.methods n none j
            in
            let called : is_called m.name m.desc n ≡ true = ap (λ (v : Signature). bytes_eq n.name v.name
            && bytes_eq n.desc v.desc) one ∙ same-refl (signature_of n) in
            neither (is_private m.flags) (is_static m.flags) (is_private n.flags) (is_static n.flags) may
            (test (is_called m.name m.desc n) (is_of_other_kind m.flags n.flags) called here)
          where
            behind : (s h : Bool) → s ≡ false → (not s && h) ≡ false → h ≡ false
            behind false h e f = f
            behind true h e f = absurd cc

            test : (a b : Bool) → a ≡ true → (a && b) ≡ false → b ≡ false
            test true b e f = f
            test false b e f = absurd cc

            neither : (p t q u : Bool) → (not q && not u) ≡ true → (not q && (if p || t then not u else u)) ≡ false
                → (not p && not t) ≡ true
            neither false false q u f g = refl
            neither true t false false f g = absurd cc
            neither true t false true f g = absurd cc
            neither true t true u f g = absurd cc
            neither false true false false f g = absurd cc
            neither false true false true f g = absurd cc
            neither false true true u f g = absurd cc

        by : (c d : Class) → IsFiled files c → IsFiled files d → class_named w x ≡ Some c → c.is_imported ≡ false
            → Lists y c.supers → OnLine w y d → d.is_imported ≡ true → In m c.methods → In n d.methods
            → selects m ≡ true
        by c d (in_export_file k t g) filed_above e own l on import i j = absurd cc
        by c d (in_class_file k t g) (in_class_file q u h) e own l on import i j = absurd cc
        by c d (in_class_file k t g) (in_export_file q u h) e own l on import i j =
            let of = of-imports u files.exports (get-has u (imports files.exports) q h) in
            let file = has-get of.0 files.exports of.1 in
            let place = has-get u (let v = of.0 in v.classes) of.2 in
            let at = in_get m (map method_of_class t.methods) i in
            let r = mapped_at method_of_class t.methods at.0 m at.1 in
            let off = import_kept k file.0 place.0 at.0 t of.0 u r.0 g file.1 place.1 r.1 (inherits x y k t (imported q u)
            e l on) in
            kept (imported q u) (subst (λ (v : Member). (not (is_special_name v.name) && changes_kind (imported 0 u)
            v.flags v.name v.desc) ≡ false) (sym r.2) off) j

    -- below any class
    pub all_kinds : (x y : List ℕ) (c d : Class) (m n : Member) → class_named w x ≡ Some c → c.is_imported ≡ false
        → Lists y c.supers → OnLine w y d → In m c.methods → In n d.methods → signature_of m ≡ signature_of n
        → is_special (signature_of m) ≡ false → selects n ≡ true → selects m ≡ true
    all_kinds x y c d m n e own l on i j one plain may = by d.is_imported refl
      where
        by : (b : Bool) → d.is_imported ≡ b → selects m ≡ true
        by true import = import_kinds x y c d m n e own l on import i j one plain may
        by false mine = keeps_kinds list files codes settings unbroken acyclic x y c d m n e own l on mine i j one plain
            may
