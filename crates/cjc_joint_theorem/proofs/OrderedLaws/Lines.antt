-- A class and its superclasses in the joint world begin as in the world of the class's package, up to the first
-- imported class there.
use Rattle.std.proofs.Common.{◌≡◌, ℕ, ◌+◌, List, [], ◌∷◌, Option, Some, None, refl, sym, ap}
use Rattle.std.proofs.Common.{◌∙◌}
use Rattle.std.specs.Prelude.{option_map, slice_get}
use Rattle.cjc_world.specs.ClassFile.declared.tree.ClassTree.{ClassTree}
use Rattle.cjc_world.specs.declared.found.Found.{Found}
use Rattle.cjc_world.specs.Classes.{Class, all_classes, class_named, declared, imported}
use Rattle.cjc_world.specs.Files.{Files}
use Rattle.cjc_world.specs.Lookup.{first, or_else}
use Rattle.cjc_world.specs.Supertypes.{AreSupertypes, Lists, Supertypes, ends, known_here, line, supertypes}
use Rattle.cjc_world.specs.Supertypes.{unknown_here}
use Rattle.cjc_world.specs.Supertypes as supertypes
use Rattle.cjc_world.specs.Upwards.{here, up}
use Rattle.cjc_world.proofs.Cycles.{class_named-name}
use Rattle.cjc_world.proofs.Settled.{supertypes-AreSupertypes}
use Rattle.cjc_world.proofs.UpwardLaws.Lines.{no_list}
use Rattle.cjc_world.proofs.Upwards.{line_goes_up}
use Rattle.cjc_token_proof.proofs.VTableFiled.{IsFiled, filed, in_class_file, in_export_file}
use Rattle.cjc_joint_proof.specs.Worlds.{IsOwn, before, found_in}
use Rattle.cjc_joint_proof.proofs.WorldLaws.{own_is_found}
use Rattle.cjc_joint_theorem.specs.Lines.{Begins, Moves, at_import, in_package}
use Rattle.cjc_joint_theorem.specs.Ordered.{AreOrdered}
use Rattle.cjc_joint_theorem.specs.Together.Homes.{joint_world}
use Rattle.cjc_joint_theorem.proofs.OrderedLaws.Ordered.{super_there}
use Rattle.cjc_joint_theorem.proofs.OrderedLaws.Standing.{are_apart}

module _ (group : List Files) (is : AreOrdered group) (q : ℕ) (p : Files) (at : slice_get group q ≡ Some p)
    (own : Class → Option Found) (moves : Moves own) where
  abbrev v : List Class
  v = all_classes p

  abbrev w : List Class
  w = joint_world group

  -- one class further up
  higher : (x s : List ℕ) (c : Class) → class_named v x ≡ Some c → Lists s c.supers
      → first own (line v x) ≡ first own (line v s) → first own (line w x) ≡ first own (line w s)
      → Begins group q p own s → Begins group q p own x
  higher x s c e l alone together (in_package k t f mine on has found joint) =
      in_package k t f mine (up c e l on) has (alone ∙ found) (together ∙ joint)
  higher x s c e l alone together (at_import y d named imp on found joint) =
      at_import y d named imp (up c e l on) (alone ∙ found) (together ∙ joint)

  from_own : (x : List ℕ) (k : ℕ) (t : ClassTree) → IsOwn group q k p t → class_named v x ≡ Some (declared k t)
      → Begins group q p own t.superclass → Begins group q p own x
  unfolding first
  from_own x k t mine named rest = by (own (declared k t)) refl
    where
      name : t.name ≡ x
      name = class_named-name v x (declared k t) named

      in_joint : class_named w x ≡ Some (declared (before group q + k) t)
      in_joint = ap (class_named w) (sym name) ∙ own_is_found group (are_apart group is) q k p t mine

      alone : first own (line v x) ≡ or_else (own (declared k t)) (first own (line v t.superclass))
      alone = let each = is.each q p at in
          ap (first own) (line_goes_up v each.acyclic x t.superclass (declared k t) named refl)

      together : first own (line w x) ≡ or_else (option_map (found_in (before group q)) (own (declared k t))) (first own
          (line w t.superclass))
      together =
          ap (first own) (line_goes_up w is.order.acyclic x t.superclass (declared (before group q + k) t) in_joint
          refl) ∙ ap (λ o. or_else o (first own (line w t.superclass))) (moves (before group q) k t)

      by : (o : Option Found) → own (declared k t) ≡ o → Begins group q p own x
      by (Some f) e = in_package k t f mine (here named) e
          (alone ∙ ap (λ o. or_else o (first own (line v t.superclass))) e)
          (together ∙ ap (λ o. or_else (option_map (found_in (before group q)) o) (first own (line w t.superclass))) e)
      by None e = higher x t.superclass (declared k t) named supertypes.foremost
          (alone ∙ ap (λ o. or_else o (first own (line v t.superclass))) e)
          (together ∙ ap (λ o. or_else (option_map (found_in (before group q)) o) (first own (line w t.superclass))) e)
          rest

  pub begins : (x : List ℕ) (c : Class) → class_named v x ≡ Some c → Begins group q p own x
  begins x c e =
      let each = is.each q p at in
      go (x ∷ []) (supertypes v (x ∷ [])) x c (supertypes-AreSupertypes v each.acyclic (x ∷ [])) supertypes.foremost e
    where
      clash : {c : Class} → None ≡ Some c → ⊥
      clash e = cc

      same_class : {c d : Class} → Some c ≡ Some d → c ≡ d
      same_class e = cc

      go : (xs : List (List ℕ)) (k : Supertypes) (x : List ℕ) (c : Class) → AreSupertypes v xs k → Lists x xs
          → class_named v x ≡ Some c → Begins group q p own x
      go xs k x c ends l e = no_list l
      go xs k x c (unknown_here f n) supertypes.foremost e = absurd (clash (sym f ∙ e))
      go xs k x c (unknown_here {xs = rest} {next = next} f n) (supertypes.after l) e = go rest next x c n l e
      go xs k x c (known_here {c = d} {supers = s} f sk ik n) supertypes.foremost e =
          by (filed p x d f) f (λ y b l g. go d.supers s y b sk l g)
        where
          by : {d : Class} → IsFiled p d → class_named v x ≡ Some d → ((y : List ℕ) (b : Class) → Lists y d.supers
              → class_named v y ≡ Some b → Begins group q p own y) → Begins group q p own x
          by (in_class_file j t file) named rest =
              let mine : IsOwn group q j p t = record { member = at; file = file } in
              let there = super_there group is q j p t mine t.superclass supertypes.foremost in
              from_own x j t mine named (rest t.superclass there.0 supertypes.foremost there.1)
          by (in_export_file j f file) named rest = at_import x (imported j f) named refl (here named) refl refl
      go xs k x c (known_here {xs = rest} {next = next} f sk ik n) (supertypes.after l) e = go rest next x c n l e
