-- Methods that look-ups and selection find in class files of a package, from a class of that package on: they are found
-- in the joint world too.
use Rattle.std.proofs.Common.{◌≡◌, ℕ, ◌+◌, ◌&&◌, Bool, true, false, List, Option, Some, None, refl, sym, ap, ◌∙◌}
use Rattle.std.proofs.Common.{length}
use Rattle.std.proofs.Common.{map, [], ◌∷◌}
use Rattle.std.specs.Prelude.{option_map, position, slice_get, if◌then◌else◌}
use Rattle.std.specs.Str.{bytes_eq}
use Rattle.cjc_bytes.specs.declared.fault.MemberId.{MemberId}
use Rattle.cjc_world.specs.declared.found.Found.{Found}
use Rattle.cjc_world.specs.Classes.{Class, Member, all_classes, class_named, declared, field_of_class, method_of_class}
use Rattle.cjc_world.specs.Files.{Files}
use Rattle.cjc_world.specs.Interfaces.{gathered, known}
use Rattle.cjc_world.specs.Lookup.{first, is_called, is_selectable, member_at, or_else, receiver}
use Rattle.cjc_world.specs.Supertypes.{line, supertypes}
use Rattle.cjc_world.proofs.UpwardLaws.Lines.{below_abroad, first_has, line_below, line_named, of_line}
use Rattle.cjc_jvm_semantics.specs.Group.{find_exposed, is_exposed, is_open, is_package_visible, own_where, own_within}
use Rattle.cjc_jvm_semantics.specs.Group.{package_of, selection_for}
use Rattle.cjc_jvm_semantics.specs.OnePackage.{ResolvedMember}
use Rattle.cjc_joint_proof.specs.Worlds.{before, found_in}
use Rattle.cjc_joint_theorem.specs.Lines.{Begins, Moves, at_import, in_package}
use Rattle.cjc_joint_theorem.specs.Ordered.{AreOrdered}
use Rattle.cjc_joint_theorem.specs.Together.Homes.{joint_world}
use Rattle.cjc_joint_theorem.proofs.OrderedLaws.Lines.{begins}

-- ---- searches

pub where_moves : (passes : (flags : ℕ) → Bool) (name desc : List ℕ) → Moves (own_where passes name desc)
where_moves passes name desc n k t = by (position (λ (m : Member). passes m.flags && is_called name desc m)
    (map method_of_class t.methods))
  where
    by : (o : Option ℕ) → option_map (λ i. member_at (declared (n + k) t) (length (map field_of_class t.fields) + i)) o
        ≡ option_map (found_in n) (option_map (λ i. member_at (declared k t) (length (map field_of_class t.fields) + i))
        o)
    by None = refl
    by (Some i) = refl

pub within_moves : (home name desc : List ℕ) → Moves (own_within home name desc)
within_moves home name desc n k t = by (bytes_eq (package_of t.name) home)
  where
    by : (b : Bool) → (if b then own_where is_selectable name desc (declared (n + k) t) else None)
        ≡ option_map (found_in n) (if b then own_where is_selectable name desc (declared k t) else None)
    by true = where_moves is_selectable name desc n k t
    by false = refl

-- what is found in a class tells whether the class is imported
abbrev Tells : (own : Class → Option Found) → Type 0
Tells own = (c : Class) (f : Found) → own c ≡ Some f → f.imported ≡ c.is_imported

pub where_tells : (passes : (flags : ℕ) → Bool) (name desc : List ℕ) → Tells (own_where passes name desc)
where_tells passes name desc c f e = by (position (λ (m : Member). passes m.flags && is_called name desc m) c.methods) e
  where
    by : (o : Option ℕ) → option_map (λ i. member_at c (length c.fields + i)) o ≡ Some f → f.imported ≡ c.is_imported
    by None e = absurd cc
    by (Some i) e = let same : member_at c (length c.fields + i) ≡ f = cc in sym (ap (λ (g : Found). g.imported) same)

pub within_tells : (home name desc : List ℕ) → Tells (own_within home name desc)
within_tells home name desc c f e = by (bytes_eq (package_of c.name) home) e
  where
    by : (b : Bool) → (if b then own_where is_selectable name desc c else None) ≡ Some f → f.imported ≡ c.is_imported
    by true e = where_tells is_selectable name desc c f e
    by false e = absurd cc

module _ (group : List Files) (is : AreOrdered group) (q : ℕ) (p : Files) (at : slice_get group q ≡ Some p) where
  abbrev v : List Class
  v = all_classes p

  abbrev w : List Class
  w = joint_world group

  -- what is found in a class file of the package from a class of its world on
  pub found_together : (own : Class → Option Found) → Moves own → Tells own → (x : List ℕ) (c : Class)
      → class_named v x ≡ Some c → (f : Found) → first own (line v x) ≡ Some f → f.imported ≡ false
      → first own (line w x) ≡ Some (found_in (before group q) f)
  found_together own moves tells x c named f found mine = by (begins group is q p at own moves x c named)
    where
      clash : {b : Bool} → b ≡ true → b ≡ false → ⊥
      clash e g = let no : true ≡ false = sym e ∙ g in cc

      same : {a b : Found} → Some a ≡ Some b → a ≡ b
      same e = cc

      by : Begins group q p own x → first own (line w x) ≡ Some (found_in (before group q) f)
      by (in_package k t g is_own on has alone together) = together
          ∙ ap (λ h. Some (found_in (before group q) h)) (same (sym alone ∙ found))
      by (at_import y d there imp on alone together) =
          let order = is.each q p at in
          let one = first_has own (line v y) f (sym alone ∙ found) in
          let b = one.0 in
          let low = of_line v order.acyclic y b one.1 in
          absurd (clash (tells b f one.2 ∙ below_abroad v order y b.name d b (line_below v y b low) there imp
          (line_named v y b low)) mine)

  -- ---- look-up of a member of an export file

  pub exposed_together : (x : List ℕ) (c : Class) → class_named v x ≡ Some c → (id : MemberId) (f : Found)
      → first (own_where is_exposed id.name id.desc) (line v x) ≡ Some f → f.imported ≡ false
      → find_exposed w x id ≡ Some (found_in (before group q) f)
  exposed_together x c named id f found mine =
      ap (λ o. or_else o (first (own_where is_exposed id.name id.desc) (known (gathered false (supertypes w (x ∷
      []))))))
      (found_together (own_where is_exposed id.name id.desc) (where_moves is_exposed id.name id.desc)
      (where_tells is_exposed id.name id.desc) x c named f found mine)

  -- ---- selection

  pub open_together : (hit : ResolvedMember) → is_package_visible hit.flags ≡ false → (x : List ℕ) (c : Class)
      → class_named v (receiver x) ≡ Some c → (id : MemberId) (f : Found)
      → first (own_where is_open id.name id.desc) (line v (receiver x)) ≡ Some f → f.imported ≡ false
      → selection_for w hit x id ≡ Some (found_in (before group q) f)
  open_together hit shown x c named id f found mine =
      ap (λ b. let owner = hit.owner in if b
      then first (own_within (package_of owner.name) id.name id.desc) (line w (receiver x))
      else first (own_where is_open id.name id.desc) (line w (receiver x))) shown
      ∙ found_together (own_where is_open id.name id.desc) (where_moves is_open id.name id.desc)
      (where_tells is_open id.name id.desc) (receiver x) c named f found mine

  pub hidden_together : (hit : ResolvedMember) → is_package_visible hit.flags ≡ true → (x : List ℕ) (c : Class)
      → class_named v (receiver x) ≡ Some c → (id : MemberId) (f : Found)
      → first (own_within (package_of (let owner = hit.owner in owner.name)) id.name id.desc) (line v (receiver x))
      ≡ Some f → f.imported ≡ false → selection_for w hit x id ≡ Some (found_in (before group q) f)
  hidden_together hit hidden x c named id f found mine =
      ap (λ b. let owner = hit.owner in if b
      then first (own_within (package_of owner.name) id.name id.desc) (line w (receiver x))
      else first (own_where is_open id.name id.desc) (line w (receiver x))) hidden
      ∙ found_together (own_within (package_of (let owner = hit.owner in owner.name)) id.name id.desc)
      (within_moves (package_of (let owner = hit.owner in owner.name)) id.name id.desc)
      (within_tells (package_of (let owner = hit.owner in owner.name)) id.name id.desc) (receiver x) c named f found
      mine
