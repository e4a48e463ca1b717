-- Over superclasses java/lang/Object stands above an interface, and nothing else does.
use Rattle.std.proofs.Common.{◌≡◌, ℕ, refl, sym, ap, ◌∙◌, true, false, List, ◌∷◌, ◌++◌, ⊎_elim}
use Rattle.std.specs.Prelude.{◌||◌, Option, Some, None}
use Rattle.std.specs.Str.{bytes_eq}
use Rattle.std.proofs.lemmas.Bool.{or_left, or_right}
use Rattle.cjc_bytes.specs.AccessFlags.{is_interface}
use Rattle.cjc_bytes.proofs.Bools.{or_cases}
use Rattle.cjc_components.specs.Package.{Package, world}
use Rattle.cjc_world.proofs.ExportFileRooted.{has_root}
use Rattle.cjc_token_proof.proofs.TablesLaws.Above.{rules_of}
use Rattle.cjc_token_proof.proofs.TablesLaws.Lists.{right_supers}
use Rattle.cjc_token_proof.proofs.TablesLaws.Rooted.{import_root}
use Rattle.cjc_token_proof.proofs.WrittenCalls.Facts.{Facts}
use Rattle.cjc_token_proof.proofs.WrittenCalls.Towers.{line_is}
use Rattle.cjc_token_proof.specs.Tables.Sound.{IsSound}
use Rattle.cjc_vtable.proofs.Filed.{IsFiled, filed, in_class_file, in_export_file}
use Rattle.cjc_world.proofs.Rising.{first-append, or_else-none}
use Rattle.cjc_world.specs.Classes.{Class, class_named, declared, imported}
use Rattle.cjc_world.specs.Lookup.{first, object, or_else}
use Rattle.cjc_world.specs.Supertypes.{AreSupertypes, Lists, Supertypes, after, ends, foremost, known_here, line}
use Rattle.cjc_world.specs.Supertypes.{stands}
use Rattle.cjc_world.specs.Supertypes.{supertypes, unknown_here, upwards}
use Rattle.cjc_world.specs.declared.found.Found.{Found}
use Rattle.cjc_world.proofs.Cycles.{class_named-name}

or_same : (o : Option Found) → or_else o o ≡ o
or_same None = refl
or_same (Some f) = refl

-- a name that is listed stands in the tree
root_stands : (w : List Class) (xs : List (List ℕ)) (k : Supertypes) → AreSupertypes w xs k → has_root xs ≡ true
    → stands object k ≡ true
root_stands w xs k ends h = absurd cc
root_stands w xs k (unknown_here {x = x} {xs = rest} {next = next} none n) h = ⊎_elim
    (λ e. or_left (bytes_eq x object) (stands object next) e)
    (λ e. or_right (bytes_eq x object) (stands object next) (root_stands w rest next n e))
    (or_cases (bytes_eq x object) (has_root rest) h)
root_stands w xs k (known_here {x = x} {xs = rest} {c = c} {supers = s} {interfaces = i} {next = next} f sk ik n) h =
    ⊎_elim
    (λ e. or_left ((bytes_eq c.name object || stands object s) || stands object i) (stands object next)
    (or_left (bytes_eq c.name object || stands object s) (stands object i)
    (or_left (bytes_eq c.name object) (stands object s) (ap (λ y. bytes_eq y object) (class_named-name w x c f) ∙ e))))
    (λ e. or_right ((bytes_eq c.name object || stands object s) || stands object i) (stands object next)
    (root_stands w rest next n e))
    (or_cases (bytes_eq x object) (has_root rest) h)

module _ (list : List ℕ) (p : Package) (sound : IsSound list p.files) (facts : Facts p) where
  abbrev w : List Class
  w = world p

  pub only_object : (y s : List ℕ) (c : Class) → class_named w y ≡ Some c → is_interface c.flags ≡ true
      → Lists s c.supers → s ≡ object
  only_object y s c e here l =
      let right = right_supers w c (let r = rules_of list p sound y c e in r.supers) in
      right.of_interface here s l

  object_listed : (y : List ℕ) (c : Class) → class_named w y ≡ Some c → is_interface c.flags ≡ true → has_root c.supers
      ≡ true
  object_listed y c e here = by c (filed p.files y c e) e here
    where
      by : (d : Class) → IsFiled p.files d → class_named w y ≡ Some d → is_interface d.flags ≡ true → has_root d.supers
          ≡ true
      by _ (in_class_file n t at) f there = ap (λ s. bytes_eq s object || false) (only_object y t.superclass
          (declared n t) f there foremost)
      by _ (in_export_file n t at) f there =
          let o = facts.object_class in
          ⊎_elim
          (λ same. absurd (clash o.0 (sym o.1 ∙ ap (class_named w) (sym same ∙ class_named-name w y (imported n t) f)
          ∙ f) o.3
          there))
          (λ h. h)
          (import_root p.files (let r = sound.read in r.exports) n t at)
        where
          clash : (b : Class) → Some b ≡ Some (imported n t) → is_interface b.flags ≡ false → is_interface t.flags
              ≡ true → ⊥
          clash b g plain interface =
              let one : b ≡ imported n t = cc in
              let both : false ≡ true = sym plain ∙ ap (λ (d : Class). is_interface d.flags) one ∙ interface in
              cc

  pub object_above : (y : List ℕ) (c : Class) → class_named w y ≡ Some c → is_interface c.flags ≡ true
      → stands object (supertypes w c.supers) ≡ true
  object_above y c e here = root_stands w c.supers (supertypes w c.supers) (facts.are_supertypes c.supers)
      (object_listed y c e here)

  -- ---- look-up over superclasses

  module _ (own : Class → Option Found) where
    abbrev top : Option Found
    top = first own (line w object)

    step : (x : List ℕ) (c : Class) (s next : Supertypes) → class_named w x ≡ Some c → x ≡ object
        → AreSupertypes w c.supers s → or_else top (first own (upwards next)) ≡ top
        → first own (c ∷ upwards s ++ upwards next) ≡ top
    step x c s next e same tree rest =
        let here : first own (line w object) ≡ first own (c ∷ upwards s) =
        ap (first own) (line_is p facts object c (ap (class_named w) (sym same) ∙ e))
        ∙ ap (λ k. first own (c ∷ upwards k)) (facts.one_supertypes c.supers (supertypes w c.supers) s
        (facts.are_supertypes c.supers) tree) in
        first-append own (c ∷ upwards s) (upwards next)
        ∙ ap (λ f. or_else f (first own (upwards next))) (sym here)
        ∙ rest

    unknown : {A : Type 0} (x : List ℕ) → class_named w x ≡ None → x ≡ object → A
    unknown x none same =
        let o = facts.object_class in
        absurd (clash o.0 (sym none ∙ ap (class_named w) same ∙ o.1))
      where
        clash : (c : Class) → None ≡ Some c → ⊥
        clash c e = cc

    more_objects : (xs : List (List ℕ)) (k : Supertypes) → AreSupertypes w xs k → ((s : List ℕ) → Lists s xs → s
        ≡ object) → or_else top (first own (upwards k)) ≡ top
    unfolding first
    more_objects xs k ends only = or_else-none top
    more_objects xs k (unknown_here {x = x} none n) only = unknown x none (only x foremost)
    more_objects xs k (known_here {x = x} {xs = rest} {c = c} {supers = s} {next = next} f sk ik n) only =
        ap (or_else top) (step x c s next f (only x foremost) sk (more_objects rest next n (λ y l. only y (after l))))
        ∙ or_same top

    objects : (xs : List (List ℕ)) (k : Supertypes) → AreSupertypes w xs k → ((s : List ℕ) → Lists s xs → s ≡ object)
        → has_root xs ≡ true → first own (upwards k) ≡ top
    objects xs k ends only h = absurd cc
    objects xs k (unknown_here {x = x} none n) only h = unknown x none (only x foremost)
    objects xs k (known_here {x = x} {xs = rest} {c = c} {supers = s} {next = next} f sk ik n) only h =
        step x c s next f (only x foremost) sk (more_objects rest next n (λ y l. only y (after l)))

    -- above an interface it goes as from java/lang/Object
    pub above_interface : (y : List ℕ) (c : Class) → class_named w y ≡ Some c → is_interface c.flags ≡ true
        → first own (upwards (supertypes w c.supers)) ≡ first own (line w object)
    above_interface y c e here = objects c.supers (supertypes w c.supers) (facts.are_supertypes c.supers)
        (λ s l. only_object y s c e here l) (object_listed y c e here)
