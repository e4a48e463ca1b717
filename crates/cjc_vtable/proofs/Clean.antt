-- What a class keeps where no break of the checks is of a rule.
use Rattle.std.proofs.Common.{◌≡◌, ℕ, ◌+◌, refl, sym, subst, Bool, true, false, List, [], ◌∷◌, ◌++◌}
use Rattle.std.specs.Prelude.{not, ◌&&◌, if◌then◌else◌, is_some}
use Rattle.cjc_world.specs.Bytes.declared.settings.Settings.{Settings}
use Rattle.cjc_world.specs.ClassFile.declared.tree.ClassTree.{ClassTree}
use Rattle.cjc_world.specs.ClassFile.declared.tree.MethodTree.{MethodTree}
use Rattle.cjc_subset.specs.LowerBytecode.declared.method_code.MethodCode.{MethodCode}
use Rattle.cjc_world.specs.ExportFile.declared.tree.ExportClass.{ExportClass}
use Rattle.cjc_world.specs.ExportFile.declared.tree.ExportTree.{ExportTree}
use Rattle.cjc_world.specs.Files.{Files}
use Rattle.cjc_world.specs.Classes.{Class, declared, imported, all_classes}
use Rattle.cjc_world.specs.Bytes.AccessFlags.{is_interface}
use Rattle.cjc_world.specs.Rules.{breaks}
use Rattle.cjc_world.specs.Bytes.Breaks.{Break, foremost, RulePlace, broken_at, at, each_from, each}
use Rattle.cjc_subset.specs.Places.{at_class, at_method}
use Rattle.cjc_world.specs.Bytes.Order.{FilePlace, file_of}
use Rattle.cjc_world.proofs.BytesBrokenRules.{among_left, among_right}
use Rattle.cjc_subset.specs.Flags.{is_unfit_method}
use Rattle.cjc_subset.specs.Types.{is_unsupported_desc, is_int_desc}
use Rattle.cjc_subset.specs.Limits.{has_deep_stack, has_many_locals}
use Rattle.cjc_subset.specs.Overriding.{is_inherited, is_special, hides_one, changes_kind, lacks_code, method_against}
use Rattle.cjc_subset.specs.Overriding.{class_against, supertype_breaks, overriding_breaks}
use Rattle.cjc_subset.specs.Checks.{field_breaks, method_breaks, own_breaks, class_breaks, code_breaks, list_breaks}
use Rattle.cjc_subset.specs.Checks.{check_breaks}
use Rattle.cjc_vtable.specs.Kept.{IsUnbroken, BreaksNone}
use Rattle.cjc_vtable.proofs.Filed.{Has, at_front, behind}

-- where nothing is broken no rule is
pub breaks_none : (list : List ℕ) (files : Files) (codes : List MethodCode) (settings : Settings)
    → breaks list files ≡ [] → check_breaks list files codes settings ≡ [] → BreaksNone list files codes settings
breaks_none list files codes settings e f = record { world = e; flags = off 304; access = off 305; code = off 307 }
  where
    off : (rule : ℕ) → IsUnbroken rule (check_breaks list files codes settings)
    off rule = subst (IsUnbroken rule) (sym f) (λ b i g. elim i [ ])

module _ (rule : ℕ) where
  unbroken-left : (xs ys : List Break) → IsUnbroken rule (xs ++ ys) → IsUnbroken rule xs
  unbroken-left xs ys h = λ b i e. h b (among_left b xs ys i) e

  unbroken-right : (xs ys : List Break) → IsUnbroken rule (xs ++ ys) → IsUnbroken rule ys
  unbroken-right xs ys h = λ b i e. h b (among_right b xs ys i) e

  -- at each of some items
  unbroken-each : {A : Type 0} (breaks : ℕ → A → List Break) (i : ℕ) (x : A) (xs : List A) → Has x xs
      → IsUnbroken rule (each_from breaks i xs) → (n : ℕ) × IsUnbroken rule (breaks n x)
  unfolding each_from
  unbroken-each breaks i x [] h off = elim h [ ]
  unbroken-each breaks i x (y ∷ xs) at_front off = (i, unbroken-left (breaks i x) (each_from breaks (i + 1) xs) off)
  unbroken-each breaks i x (y ∷ xs) (behind h) off = unbroken-each breaks (i + 1) x xs h (unbroken-right (breaks i y)
      (each_from breaks (i + 1) xs) off)

  unbroken-at : (b : Bool) (s : RulePlace) → IsUnbroken rule (at b s rule) → b ≡ false
  unbroken-at true s h = absurd (h (broken_at s rule) foremost refl)
  unbroken-at false s h = refl

  module _ (list : List ℕ) (files : Files) (codes : List MethodCode) (settings : Settings) (off : IsUnbroken rule
      (check_breaks list files codes settings)) where
    unbroken-class : (t : ClassTree) → Has t files.classes → (n : ℕ)
        × IsUnbroken rule (class_breaks files settings (file_of files.lines n) n t)
    unfolding check_breaks
    unbroken-class t h =
        let A = list_breaks list files settings in
        let B = each (λ n c. class_breaks files settings (file_of files.lines n) n c) files.classes in
        let C = each (λ _ code. code_breaks files settings code) codes in
        unbroken-each (λ n c. class_breaks files settings (file_of files.lines n) n c) 0 t files.classes h
        (unbroken-right A B (unbroken-left (A ++ B) C off))

    pub unbroken-methods : (t : ClassTree) (m : MethodTree) → Has t files.classes → Has m t.methods → (f : FilePlace)
        × ((i : ℕ) × IsUnbroken rule (method_breaks settings f t i m))
    unfolding class_breaks
    unbroken-methods t m h g =
        let r = unbroken-class t h in
        let f = file_of files.lines r.0 in
        let A = own_breaks files settings f r.0 t in
        let B = each (λ i k. field_breaks settings f t i k) t.fields in
        let C = each (λ i k. method_breaks settings f t i k) t.methods in
        let D = overriding_breaks files f t in (
          f,
          unbroken-each (λ i k. method_breaks settings f t i k) 0 m t.methods g (unbroken-right (A
              ++ B) C (unbroken-left (A ++ B ++ C) D r.1)),
        )

    unbroken-overriding : (t : ClassTree) → Has t files.classes → (f : FilePlace)
        × IsUnbroken rule (overriding_breaks files f t)
    unfolding class_breaks
    unbroken-overriding t h =
        let r = unbroken-class t h in
        let f = file_of files.lines r.0 in
        let A = own_breaks files settings f r.0 t in
        let B = each (λ i k. field_breaks settings f t i k) t.fields in
        let C = each (λ i k. method_breaks settings f t i k) t.methods in
        let D = overriding_breaks files f t in
        (f, unbroken-right (A ++ B ++ C) D r.1)

    against : (f : FilePlace) (t : ClassTree) (d : Class) → is_inherited (all_classes files) t d ≡ true
        → IsUnbroken rule (supertype_breaks (all_classes files) f t d)
        → IsUnbroken rule (class_against (all_classes files) f t d)
    unfolding supertype_breaks
    against f t d above h = subst (λ (v : Bool). IsUnbroken rule (if v then class_against (all_classes files) f t d
        else [])) above h

    -- against a class of the package that stands above
    pub against-declared : (t u : ClassTree) → Has t files.classes → Has u files.classes
        → is_inherited (all_classes files) t (declared 0 u) ≡ true → (f : FilePlace)
        × IsUnbroken rule (class_against (all_classes files) f t (declared 0 u))
    unfolding overriding_breaks
    against-declared t u h g above =
        let r = unbroken-overriding t h in
        let f = r.0 in
        let w = all_classes files in
        let A = at (lacks_code w t (declared 0 t)) (at_class f t) 307 in
        let B = each (λ _ d. supertype_breaks w f t (declared 0 d)) files.classes in
        let C = each (λ _ s. each (λ _ d. supertype_breaks w f t (imported 0 d)) s.classes) files.exports in (
          f,
          against f t (declared 0 u) above (unbroken-each (λ _ d. supertype_breaks w f t (declared 0 d)) 0 u
              files.classes g (unbroken-right A B (unbroken-left (A ++ B) C r.1))).1,
        )

    -- against an imported class that stands above
    pub against-imported : (t : ClassTree) (s : ExportTree) (d : ExportClass) → Has t files.classes
        → Has s files.exports → Has d s.classes → is_inherited (all_classes files) t (imported 0 d) ≡ true
        → (f : FilePlace) × IsUnbroken rule (class_against (all_classes files) f t (imported 0 d))
    unfolding overriding_breaks
    against-imported t s d h g i above =
        let r = unbroken-overriding t h in
        let f = r.0 in
        let w = all_classes files in
        let A = at (lacks_code w t (declared 0 t)) (at_class f t) 307 in
        let B = each (λ _ d. supertype_breaks w f t (declared 0 d)) files.classes in
        let C = each (λ _ s. each (λ _ d. supertype_breaks w f t (imported 0 d)) s.classes) files.exports in
        let in_file = unbroken-each (λ _ s. each (λ _ d. supertype_breaks w f t (imported 0 d)) s.classes) 0 s
        files.exports g (unbroken-right (A ++ B) C r.1) in (
          f,
          against f t (imported 0 d) above (unbroken-each (λ _ d. supertype_breaks w f t (imported 0 d)) 0 d s.classes
              i in_file.1).1,
        )

-- ---- by rules

module _ (list : List ℕ) (files : Files) (codes : List MethodCode) (settings : Settings) where
  -- 304
  pub fit-method : IsUnbroken 304 (check_breaks list files codes settings) → (t : ClassTree) (m : MethodTree)
      → Has t files.classes → Has m t.methods → is_unfit_method (is_interface t.flags) m.flags m.name (is_some m.code)
      ≡ false
  unfolding method_breaks
  fit-method off t m h g =
      let r = unbroken-methods 304 list files codes settings off t m h g in
      let f = r.0 in
      let i = r.1.0 in
      let A = at (is_unsupported_desc m.desc) (at_method f t i m 0) 301 in
      let B = at (not settings.ints && is_int_desc m.desc) (at_method f t i m 0) 302 in
      let C = at (is_unfit_method (is_interface t.flags) m.flags m.name (is_some m.code)) (at_method f t i m 0) 304 in
      let D = at (has_many_locals m.code) (at_method f t i m 0) 404 in
      let E = at (has_deep_stack m.code) (at_method f t i m 0) 405 in
      unbroken-at 304 (is_unfit_method (is_interface t.flags) m.flags m.name (is_some m.code)) (at_method f t i m 0)
      (unbroken-right 304 (A ++ B) C (unbroken-left 304 (A ++ B ++ C) D (unbroken-left 304 (A ++ B ++ C ++ D) E r.1.1)))

  module _ (t : ClassTree) (h : Has t files.classes) (f : FilePlace) (d : Class) where
    -- 305
    seen : IsUnbroken 305 (class_against (all_classes files) f t d) → (m : MethodTree) → Has m t.methods
        → (not (is_special m.name) && hides_one d m.flags m.name m.desc) ≡ false
    unfolding class_against method_against
    seen off m g =
        let w = all_classes files in
        let A = at (lacks_code w t d) (at_class f t) 307 in
        let B = each (λ i k. method_against f t d i k) t.methods in
        let r = unbroken-each 305 (λ i k. method_against f t d i k) 0 m t.methods g (unbroken-right 305 A B off) in
        let C = at (not (is_special m.name) && hides_one d m.flags m.name m.desc) (at_method f t r.0 m 0) 305 in
        let D = at (not (is_special m.name) && changes_kind d m.flags m.name m.desc) (at_method f t r.0 m 0) 306 in
        unbroken-at 305 (not (is_special m.name) && hides_one d m.flags m.name m.desc) (at_method f t r.0 m 0)
        (unbroken-left 305 C D r.1)

    -- 307
    coded : IsUnbroken 307 (class_against (all_classes files) f t d) → lacks_code (all_classes files) t d ≡ false
    unfolding class_against
    coded off =
        let w = all_classes files in
        let A = at (lacks_code w t d) (at_class f t) 307 in
        let B = each (λ i k. method_against f t d i k) t.methods in
        unbroken-at 307 (lacks_code w t d) (at_class f t) (unbroken-left 307 A B off)

  pub seen-declared : IsUnbroken 305 (check_breaks list files codes settings) → (t u : ClassTree) (m : MethodTree)
      → Has t files.classes → Has u files.classes → is_inherited (all_classes files) t (declared 0 u) ≡ true
      → Has m t.methods → (not (is_special m.name) && hides_one (declared 0 u) m.flags m.name m.desc) ≡ false
  seen-declared off t u m h g above i = let r = against-declared 305 list files codes settings off t u h g above
      in seen t h r.0 (declared 0 u) r.1 m i

  pub seen-imported : IsUnbroken 305 (check_breaks list files codes settings)
      → (t : ClassTree) (s : ExportTree) (d : ExportClass) (m : MethodTree) → Has t files.classes → Has s files.exports
      → Has d s.classes → is_inherited (all_classes files) t (imported 0 d) ≡ true → Has m t.methods
      → (not (is_special m.name) && hides_one (imported 0 d) m.flags m.name m.desc) ≡ false
  seen-imported off t s d m h g j above i = let r = against-imported 305 list files codes settings off t s d h g j above
      in seen t h r.0 (imported 0 d) r.1 m i

  pub coded-declared : IsUnbroken 307 (check_breaks list files codes settings) → (t u : ClassTree) → Has t files.classes
      → Has u files.classes → is_inherited (all_classes files) t (declared 0 u) ≡ true
      → lacks_code (all_classes files) t (declared 0 u) ≡ false
  coded-declared off t u h g above = let r = against-declared 307 list files codes settings off t u h g above
      in coded t h r.0 (declared 0 u) r.1

  pub coded-imported : IsUnbroken 307 (check_breaks list files codes settings)
      → (t : ClassTree) (s : ExportTree) (d : ExportClass) → Has t files.classes → Has s files.exports → Has d s.classes
      → is_inherited (all_classes files) t (imported 0 d) ≡ true → lacks_code (all_classes files) t (imported 0 d)
      ≡ false
  coded-imported off t s d h g j above = let r = against-imported 307 list files codes settings off t s d h g j above
      in coded t h r.0 (imported 0 d) r.1
