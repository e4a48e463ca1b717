-- What an abstract class of the package got from an interface hides no package-visible method of an imported superclass
-- (rule 305), so that what has a slot below such a method is a public or protected one that some class has.
use Rattle.std.proofs.Common.{◌≡◌, ℕ, refl, sym, ap, subst, ◌∙◌, Bool, true, false, List, [], ◌∷◌, ◌++◌, inl, inr}
use Rattle.std.proofs.Common.{⊎_elim}
use Rattle.std.specs.Prelude.{◌⊎◌, not, ◌&&◌, ◌||◌, Some, map, slice_get, if◌then◌else◌}
use Rattle.std.specs.List.{list_any}
use Rattle.std.specs.Str.{bytes_eq}
use Rattle.cjc_bytes.specs.AccessFlags.{acc_public, is_private, is_protected, is_public}
use Rattle.cjc_bytes.specs.Breaks.{each_from}
use Rattle.cjc_bytes.specs.Order.{file_of}
use Rattle.cjc_bytes.specs.declared.fault.MemberId.{MemberId}
use Rattle.cjc_bytes.specs.declared.settings.Settings.{Settings}
use Rattle.cjc_bytes.proofs.Lists.{bytes_true, none_left, none_right}
use Rattle.cjc_bytes.proofs.BrokenRules.{not_broken, each_at}
use Rattle.cjc_world.specs.ClassFile.declared.tree.ClassTree.{ClassTree}
use Rattle.cjc_components.specs.Bytecode.declared.method_code.MethodCode.{MethodCode}
use Rattle.cjc_world.specs.ExportFile.declared.tree.ExportClass.{ExportClass}
use Rattle.cjc_world.specs.ExportFile.declared.tree.ExportTree.{ExportTree}
use Rattle.cjc_token_proof.specs.Subset.Checks.{check_breaks, class_breaks, code_breaks, list_breaks, own_breaks}
use Rattle.cjc_token_proof.specs.Subset.Members.{imports}
use Rattle.cjc_token_proof.specs.Subset.Overriding.{gets_hidden, hides_added, hides_one, is_open, is_out_of_sight}
use Rattle.cjc_token_proof.specs.Subset.Overriding.{is_package_visible, is_superclass}
use Rattle.cjc_token_proof.specs.Subset.Places.{at_class}
use Rattle.cjc_tokens.specs.Lines.{Declared, Imported, line_in}
use Rattle.cjc_tokens.specs.Members.{In, Signature, all_methods, first_of, has, is_exposed, is_shown, later, same}
use Rattle.cjc_tokens.specs.Members.{signature_of, signatures}
use Rattle.cjc_tokens.specs.Slots.{has_slot, listed_slots, slots, taken_slots, with_new}
use Rattle.cjc_tokens.proofs.Facts.{chosen-In, chosen-passes, chosen-some, same-refl, same-true}
use Rattle.cjc_tokens.proofs.Held.{listed_slot}
use Rattle.cjc_vtable.proofs.Calls.{In-behind, In-front}
use Rattle.cjc_vtable.proofs.Filed.{Has, IsFiled, at_front, behind, filed, get-has, in_class_file, in_export_file}
use Rattle.cjc_vtable.proofs.Filed.{of-imports}
use Rattle.cjc_vtable.proofs.Given.{slot-of, with_new-slot, taken-has}
use Rattle.cjc_vtable.proofs.Worlds.{methods-front}
use Rattle.cjc_vtable.specs.Laws.{KeepsRules}
use Rattle.cjc_world.specs.Added.{added, added_at, added_to, named_by}
use Rattle.cjc_world.specs.Classes.{Class, Member, all_classes, class_named, declared, imported}
use Rattle.cjc_world.specs.Files.{Files}
use Rattle.cjc_world.specs.Lookup.{is_called}
use Rattle.cjc_world.specs.Supertypes.{AreSupertypes, IsAcyclic, Lists, Supertypes, ends, foremost, is_below}
use Rattle.cjc_world.specs.Supertypes.{known_here}
use Rattle.cjc_world.specs.Supertypes.{unknown_here, upwards}
use Rattle.cjc_world.specs.Upwards.{OnLine, here, up}
use Rattle.cjc_world.proofs.Cycles.{class_named-name}
use Rattle.cjc_world.proofs.UpwardLaws.Lines.{line_is_below}
use Rattle.cjc_theorem.proofs.AlikeLaws.MetLaws.Clean.{none_of}

-- ---- lists

in_has : (m : Member) (ms : List Member) → In m ms → Has m ms
in_has m [] i = elim i [ ]
in_has m (n ∷ ms) first_of = at_front
in_has m (n ∷ ms) (later i) = behind (in_has m ms i)

has_mapped : {A B : Type 0} (f : A → B) (xs : List A) (x : A) → Has x xs → Has (f x) (map f xs)
has_mapped f [] x h = elim h [ ]
has_mapped f (y ∷ xs) x at_front = at_front
has_mapped f (y ∷ xs) x (behind h) = behind (has_mapped f xs x h)

-- a signature of some methods is that of one of them
of_signature : (ms : List Member) (s : Signature) → has (map signature_of ms) s ≡ true → (m : Member) × Has m ms
    × (signature_of m ≡ s)
of_signature [] s e = cc
of_signature (m ∷ ms) s e = by (same (signature_of m) s) refl e (of_signature ms s)
  where
    by : (b : Bool) → same (signature_of m) s ≡ b → (b || has (map signature_of ms) s) ≡ true
        → (has (map signature_of ms) s ≡ true → (n : Member) × Has n ms × (signature_of n ≡ s))
        → (n : Member) × Has n (m ∷ ms) × (signature_of n ≡ s)
    by true f e rest = (m, at_front, same-true (signature_of m) s f)
    by false f e rest = let r = rest e in (r.0, behind r.1, r.2)

-- ---- 305

module _ (list : List ℕ) (files : Files) (codes : List MethodCode) (settings : Settings) (unbroken : check_breaks list
    files codes settings ≡ []) where
  abbrev w : List Class
  w = all_classes files

  none_hidden : (n : ℕ) (t : ClassTree) → slice_get files.classes n ≡ Some t → gets_hidden files t (added_at files n)
      ≡ false
  unfolding check_breaks class_breaks own_breaks
  none_hidden n t e =
      let by_classes = each_from (λ n c. class_breaks files settings (file_of files.lines n) n c) 0 files.classes in
      let all = none_right (list_breaks list files settings) by_classes (none_left (list_breaks list files settings
      ++ by_classes) (each_from (λ _ code. code_breaks files settings code) 0 codes) unbroken) in
      let here : class_breaks files settings (file_of files.lines n) n t ≡ [] =
      each_at (λ n c. class_breaks files settings (file_of files.lines n) n c) n files.classes t all e in
      let own : own_breaks files settings (file_of files.lines n) n t ≡ [] =
      none_left _ _ (none_left _ _ (none_left _ _ here)) in
      not_broken (gets_hidden files t (added_at files n)) (at_class (file_of files.lines n) t) 305
      (none_right _ _ (none_left _ _ (none_left _ _ own)))

  -- of a class of an export file
  off_import : (t : ClassTree) (ms : List MemberId) (m : MemberId) (l : ℕ) (u : ExportClass) → gets_hidden files t ms
      ≡ false → Has m ms → slice_get (imports files.exports) l ≡ Some u → hides_added w t ms (imported 0 u) ≡ false
  unfolding gets_hidden
  off_import t [] m l u e h f = elim h [ ]
  off_import t (a ∷ ms) m l u e h f =
      let tree = of-imports u files.exports (get-has u (imports files.exports) l f) in
      let s : ExportTree = tree.0 in
      let second = back (list_any (λ d. hides_added w t (a ∷ ms) (declared 0 d)) files.classes)
      (list_any (λ v. list_any (λ d. hides_added w t (a ∷ ms) (imported 0 d)) v.classes) files.exports) e in
      none_of (λ d. hides_added w t (a ∷ ms) (imported 0 d)) s.classes u
      (none_of (λ (v : ExportTree). list_any (λ d. hides_added w t (a ∷ ms) (imported 0 d)) v.classes) files.exports s
      second tree.1) tree.2
    where
      back : (a b : Bool) → (a || b) ≡ false → b ≡ false
      back true b e = cc
      back false b e = e

  hidden_kept : (n l : ℕ) (t : ClassTree) (u : ExportClass) (s : Signature) → slice_get files.classes n ≡ Some t
      → slice_get (imports files.exports) l ≡ Some u → has (map signature_of (added w (declared n t))) s ≡ true
      → is_superclass w t (imported 0 u) ≡ true → hides_one (imported 0 u) acc_public s.name s.desc ≡ false
  unfolding added_at
  hidden_kept n l t u s e f got above =
      let g = added w (declared n t) in
      let r = of_signature g s got in
      let ms = map (named_by t.name) g in
      let listed : added_at files n ≡ ms = ap (added_to w n) e in
      let off : gets_hidden files t ms ≡ false = subst (λ xs. gets_hidden files t xs ≡ false) listed (none_hidden n t e)
      in
      let there : Has (named_by t.name r.0) ms = has_mapped (named_by t.name) g r.0 r.1 in
      let apart = second (is_superclass w t (imported 0 u)) (list_any (λ m. hides_one (imported 0 u) acc_public m.name
      m.desc) ms) above (off_import t ms (named_by t.name r.0) l u off there f) in
      subst (λ (q : Signature). hides_one (imported 0 u) acc_public q.name q.desc ≡ false) r.2
      (none_of (λ (m : MemberId). hides_one (imported 0 u) acc_public m.name m.desc) ms (named_by t.name r.0) apart
      there)
    where
      second : (a b : Bool) → a ≡ true → (a && b) ≡ false → b ≡ false
      second true b e f = f
      second false b e f = cc

  -- such a method is public, and in sight of no package-visible one
  unseen : (v o x y z r : Bool) → o ≡ true → (x || y) ≡ false → z ≡ false
      → ((v && (x || y)) || (o && (not x && not y && not z)) || r) ≡ false → ⊥
  unseen true true false false false r e f g h = cc
  unseen false true false false false r e f g h = cc
  unseen v true true y z r e f g h = cc
  unseen v true false true z r e f g h = cc
  unseen v true false false true r e f g h = cc
  unseen v false x y z r e f g h = cc

  module _ (acyclic : IsAcyclic w) where
    pub gets_none : (c d : Class) (m : Member) (s : Signature) → class_named w c.name ≡ Some c → c.is_imported ≡ false
        → class_named w d.name ≡ Some d → d.is_imported ≡ true → OnLine w c.name d
        → has (map signature_of (added w c)) s ≡ true → In m d.methods → signature_of m ≡ s → is_exposed m.flags ≡ false
        → is_private m.flags ≡ false → ⊥
    gets_none c d m s e own f far on got i is hidden open_one =
        by c d (filed files c.name c e) (filed files d.name d f) e own f far on got i
      where
        by : (c d : Class) → IsFiled files c → IsFiled files d → class_named w c.name ≡ Some c → c.is_imported ≡ false
            → class_named w d.name ≡ Some d → d.is_imported ≡ true → OnLine w c.name d
            → has (map signature_of (added w c)) s ≡ true → In m d.methods → ⊥
        by c d (in_export_file l u at) other e own f far on got i = cc
        by c d (in_class_file n t at) (in_class_file l u there) e own f far on got i = cc
        by c d (in_class_file n t at) (in_export_file l u there) e own f far on got i =
            let off = hidden_kept n l t u s at there got (both (is_below w t.name u.name) (bytes_eq t.name u.name)
            (line_is_below w acyclic t.name (imported l u) on) (apart (bytes_eq t.name u.name) refl)) in
            let one = none_of (λ (k : Member). is_called s.name s.desc k && is_out_of_sight true acc_public k.flags)
            (let q = imported 0 u in q.methods) m off (in_has m (let q = imported 0 u in q.methods) i) in
            let called : is_called s.name s.desc m ≡ true = ap (λ (v : Signature). bytes_eq m.name v.name
            && bytes_eq m.desc v.desc) (sym is) ∙ same-refl (signature_of m) in
            unseen (is_package_visible acc_public) (is_open acc_public) (is_public m.flags) (is_protected m.flags)
            (is_private m.flags) (is_package_visible acc_public && is_package_visible m.flags && true) refl hidden
            open_one (second (is_called s.name s.desc m) (is_out_of_sight true acc_public m.flags) called one)
          where
            both : (a q : Bool) → a ≡ true → q ≡ false → (a && not q) ≡ true
            both true false e f = refl
            both true true e f = cc
            both false q e f = cc

            second : (a b : Bool) → a ≡ true → (a && b) ≡ false → b ≡ false
            second true b e f = f
            second false b e f = cc

            apart : (b : Bool) → bytes_eq t.name u.name ≡ b → bytes_eq t.name u.name ≡ false
            apart false g = g
            apart true g =
                let same : t.name ≡ u.name = bytes_true t.name u.name g in
                let two : Some (declared n t) ≡ Some (imported l u) = sym e ∙ ap (class_named w) same ∙ f in
                let one : declared n t ≡ imported l u = cc in
                let clash : false ≡ true = ap (λ (q : Class). q.is_imported) one in
                cc

-- ---- slots

module _ (w : List Class) (rules : KeepsRules w) where
  -- a class of the package, at or above that of the name, got a method of the signature
  pub record IsGot (x : List ℕ) (s : Signature) : Type 0 where
    pub class : Class
    pub on : OnLine w x class
    pub named : class_named w class.name ≡ Some class
    pub own : class.is_imported ≡ false
    pub given : has (map signature_of (added w class)) s ≡ true

  -- one of these methods is a public or protected virtual one of the signature
  abbrev pub IsListed : List Member → Signature → Type 0
  IsListed ms s = (m : Member) × In m ms × (is_shown m ≡ true) × (signature_of m ≡ s)

  -- so it is with what has a slot
  pub of_slot : (xs : List (List ℕ)) (k : Supertypes) (x : List ℕ) (s : Signature) → AreSupertypes w xs k → xs ≡ x ∷ []
      → has_slot (slots (line_in w k)) s ≡ true → IsListed (all_methods (upwards k)) s ⊎ IsGot x s
  of_slot xs k x s ends one e = cc
  of_slot xs k x s (unknown_here f a) one e = cc
  of_slot (y ∷ xs) k x s (known_here {c = c} {supers = p} {interfaces = q} {next = r} f sp ip a) one e =
      by c.is_imported refl e (λ z l. of_slot c.supers p z s sp l)
    where
      same_name : y ≡ x
      same_name = cc

      named : class_named w x ≡ Some c
      named = subst (λ v. class_named w v ≡ Some c) same_name f

      above : (z : List ℕ) → c.supers ≡ z ∷ [] → IsListed (all_methods (upwards p)) s ⊎ IsGot z s
          → IsListed (c.methods ++ all_methods (upwards p ++ upwards r)) s ⊎ IsGot x s
      above z l h = ⊎_elim
          (λ g. inl (
            g.0,
            In-behind g.0 c.methods (all_methods (upwards p ++ upwards r)) (methods-front (upwards p) (upwards r) g.0
                g.1),
            g.2,
            g.3,
          ))
          (λ g. inr (record {
            class = g.class;
            on = up c named (subst (Lists z) (sym l) foremost) g.on;
            named = g.named;
            own = g.own;
            given = g.given;
          }))
          h

      declares : has (signatures is_shown c.methods) s ≡ true
          → IsListed (c.methods ++ all_methods (upwards p ++ upwards r)) s ⊎ IsGot x s
      declares g = let m = chosen-some is_shown s c.methods g in let one = chosen-passes is_shown s c.methods m.0 m.1 in
          inl (
            m.0,
            In-front m.0 c.methods (all_methods (upwards p ++ upwards r)) (chosen-In is_shown s c.methods m.0 m.1),
            one.1,
            one.0,
          )

      by : (b : Bool) → c.is_imported ≡ b
          → has_slot (slots (if b then Imported (c ∷ upwards p) else Declared c (added w c) (line_in w p))) s ≡ true
          → ((z : List ℕ) → c.supers ≡ z ∷ [] → has_slot (slots (line_in w p)) s ≡ true
          → IsListed (all_methods (upwards p)) s ⊎ IsGot z s)
          → IsListed (c.methods ++ all_methods (upwards p ++ upwards r)) s ⊎ IsGot x s
      by true is e rest =
          let t = slot-of (listed_slots (all_methods (c ∷ upwards p))) s e in
          let m = listed_slot (all_methods (c ∷ upwards p)) t.0 s t.1 in
          inl (m.0, methods-front (c ∷ upwards p) (upwards r) m.0 m.1, m.2, m.4)
      by false is e rest = ⊎_elim
          (λ h. ⊎_elim
          (λ g. ⊎_elim
          (λ a. let z = rules.single x c named is in above z.0 z.1 (rest z.0 z.1 a))
          (λ a. declares a)
          (taken-has c (line_in w p) (slots (line_in w p)) s g))
          (λ g. declares g)
          (with_new-slot (taken_slots c (line_in w p) (slots (line_in w p))) (signatures is_shown c.methods) s h))
          (λ h. inr (record {
            class = c;
            on = here named;
            named = ap (class_named w) (class_named-name w x c named) ∙ named;
            own = is;
            given = h;
          }))
          (with_new-slot (with_new (taken_slots c (line_in w p) (slots (line_in w p))) (signatures is_shown c.methods))
          (map signature_of (added w c)) s e)
