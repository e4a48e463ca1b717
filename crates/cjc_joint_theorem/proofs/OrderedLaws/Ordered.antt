-- The classes of the joint world are in order where those of each package are.
use Rattle.std.proofs.Common.{◌≡◌, ◌+◌, ℕ, Bool, true, false, ◌||◌, List, [], ◌∷◌, ◌++◌, Option, Some, None, refl, sym}
use Rattle.std.proofs.Common.{ap}
use Rattle.std.proofs.Common.{subst, ◌∙◌, inl, inr, ⊎_elim}
use Rattle.std.specs.Prelude.{◌⊎◌, slice_get}
use Rattle.cjc_bytes.specs.AccessFlags.{is_interface}
use Rattle.cjc_bytes.proofs.Bools.{true_or_false}
use Rattle.cjc_world.specs.ClassFile.declared.tree.ClassTree.{ClassTree}
use Rattle.cjc_world.specs.ExportFile.declared.tree.ExportClass.{ExportClass}
use Rattle.cjc_world.specs.Classes.{Class, all_classes, class_named, declared, imported}
use Rattle.cjc_world.specs.Files.{Files}
use Rattle.cjc_world.specs.Lookup.{object}
use Rattle.cjc_world.specs.Rules.{is_missing, is_none_of, lists_missing}
use Rattle.cjc_world.specs.Subtype.{starts}
use Rattle.cjc_world.specs.Supertypes.{Above, Lists, foremost, after, directly, onwards}
use Rattle.cjc_world.specs.Upwards.{IsOrdered, OnLine, here, up}
use Rattle.cjc_world.proofs.Cycles.{class_named-name}
use Rattle.cjc_world.proofs.Settled.{lists-front}
use Rattle.cjc_world.proofs.UpwardLaws.Lines.{line_begins, line_below, no_list, roots}
use Rattle.std.specs.List.{list_any}
use Rattle.cjc_token_proof.proofs.VTableFiled.{IsFiled, filed, in_class_file, in_export_file}
use Rattle.cjc_token_proof.proofs.WorldProofRules.{keeps, listed_interface, only_object, super_class}
use Rattle.cjc_jvm_semantics.specs.Group.{joint, joint_exports}
use Rattle.cjc_joint_proof.specs.Worlds.{IsOwn, before, outside_classes}
use Rattle.cjc_joint_proof.proofs.WorldLaws.{joint_from, outside_is_found}
use Rattle.cjc_joint_theorem.specs.Ordered.{AreOrdered}
use Rattle.cjc_joint_theorem.specs.Together.Homes.{joint_world}
use Rattle.cjc_joint_theorem.proofs.MembersLaws.Worlds.{flat_is}
use Rattle.cjc_joint_theorem.proofs.OrderedLaws.Standing.{Stands, are_apart, class_stands}
use Rattle.cjc_joint_theorem.proofs.OrderedLaws.Standing.{from_outside, of_member, outside_in, own_class, own_in}
use Rattle.cjc_joint_theorem.proofs.OrderedLaws.Standing.{same_kind}

same_class : {c d : Class} → Some c ≡ Some d → c ≡ d
same_class e = cc

-- 203: each name of a list is there
pub listed_there : (w : List Class) (xs : List (List ℕ)) (y : List ℕ) → list_any (λ x. is_missing w x) xs ≡ false
    → Lists y xs → (d : Class) × (class_named w y ≡ Some d)
listed_there w (x ∷ xs) _ e foremost = by (class_named w x) refl e
  where
    by : (o : Option Class) → class_named w x ≡ o → (is_none_of o || list_any (λ x. is_missing w x) xs) ≡ false
        → (d : Class) × (class_named w x ≡ Some d)
    by None f e = absurd cc
    by (Some d) f e = (d, f)
listed_there w (x ∷ xs) y e (after l) = listed_there w xs y (by (is_missing w x) (list_any (λ x. is_missing w x) xs) e)
    l
  where
    by : (a b : Bool) → (a || b) ≡ false → b ≡ false
    by true b e = absurd cc
    by false b e = e
listed_there w [] y e l = no_list l

front_missing : (a b : Bool) → (a || b) ≡ false → (a ≡ false) × (b ≡ false)
front_missing true b e = absurd cc
front_missing false b e = (refl, e)

module _ (group : List Files) where
  -- A class of the joint world: of a class file of a package, or from outside.
  pub data IsJoint : Class → Type 0 where
    own_file : (q k : ℕ) (p : Files) (t : ClassTree) → IsOwn group q k p t
        → IsJoint (declared (before group q + k) t)
    outside_file : (n : ℕ) (e : ExportClass) → slice_get (outside_classes group) n ≡ Some e → IsJoint (imported n e)

  pub joint_class : (x : List ℕ) (c : Class) → class_named (joint_world group) x ≡ Some c → IsJoint c
  joint_class x c e = by (filed (joint group) x c e)
    where
      by : {c : Class} → IsFiled (joint group) c → IsJoint c
      by (in_class_file n t at) =
          let o = joint_from group n t at in
          subst (λ k. IsJoint (declared k t)) (sym o.is) (own_file o.part o.place o.files t o.own)
      by (in_export_file n e at) = outside_file n e (ap (λ cs. slice_get cs n) (sym (flat_is (joint_exports group)))
          ∙ at)

module _ (group : List Files) (is : AreOrdered group) where
  abbrev w : List Class
  w = joint_world group

  -- a name that a class file lists, in the world of its package and in the joint one
  module _ (q k : ℕ) (p : Files) (t : ClassTree) (own : IsOwn group q k p t) where
    pub super_there : (s : List ℕ) → Lists s (t.superclass ∷ []) → (d : Class) × (class_named (all_classes p) s ≡ Some
        d)
    unfolding lists_missing
    super_there s l =
        let sound = is.sound.each q p own.member in
        let unbroken = sound.sound in
        let kept = keeps sound.list p unbroken.unbroken t.name (declared k t) (own_in group is q k p t own) in
        listed_there (all_classes p) (t.superclass ∷ []) s (front_missing (list_any (λ x. is_missing (all_classes p) x)
        (t.superclass ∷ [])) (list_any (λ x. is_missing (all_classes p) x) t.interfaces) (kept.there refl)).0 l

    pub interface_there : (i : List ℕ) → Lists i t.interfaces → (d : Class) × (class_named (all_classes p) i ≡ Some d)
    unfolding lists_missing
    interface_there i l =
        let sound = is.sound.each q p own.member in
        let unbroken = sound.sound in
        let kept = keeps sound.list p unbroken.unbroken t.name (declared k t) (own_in group is q k p t own) in
        listed_there (all_classes p) t.interfaces i (front_missing (list_any (λ x. is_missing (all_classes p) x)
        (t.superclass ∷ [])) (list_any (λ x. is_missing (all_classes p) x) t.interfaces) (kept.there refl)).1 l

    -- the kind of what is there
    kind_there : (s : List ℕ) (b : Bool) (c d : Class) → class_named (all_classes p) s ≡ Some c
        → is_interface c.flags ≡ b → class_named w s ≡ Some d → is_interface d.flags ≡ b
    kind_there s b c d named kind met =
        let h = class_stands group is q p own.member s c named in
        let same : h.class ≡ d = same_class (sym h.named ∙ met) in
        ap (λ (v : Class). is_interface v.flags) (sym same) ∙ same_kind group q p c h.class h.stands ∙ kind

  supers : (x s : List ℕ) (c d : Class) → class_named w x ≡ Some c → Lists s c.supers → class_named w s ≡ Some d
      → is_interface d.flags ≡ false
  supers x s c d e l f = by (joint_class group x c e) l
    where
      by : {c : Class} → IsJoint group c → Lists s c.supers → is_interface d.flags ≡ false
      by (own_file q k p t own) l =
          let there = super_there q k p t own s l in
          let sound = is.sound.each q p own.member in
          let unbroken = sound.sound in
          kind_there q k p t own s false there.0 d there.1 (super_class sound.list p unbroken.unbroken t.name s
          (declared k t) there.0 (own_in group is q k p t own) l there.1) f
      by (outside_file n o at) l = is.order.supers n o s d at l f

  interfaces : (x i : List ℕ) (c d : Class) → class_named w x ≡ Some c → Lists i c.interfaces
      → class_named w i ≡ Some d → is_interface d.flags ≡ true
  interfaces x i c d e l f = by (joint_class group x c e) l
    where
      by : {c : Class} → IsJoint group c → Lists i c.interfaces → is_interface d.flags ≡ true
      by (own_file q k p t own) l =
          let there = interface_there q k p t own i l in
          let sound = is.sound.each q p own.member in
          let unbroken = sound.sound in
          kind_there q k p t own i true there.0 d there.1 (listed_interface sound.list p unbroken.unbroken t.name i
          (declared k t) there.0 (own_in group is q k p t own) l there.1) f
      by (outside_file n o at) l = is.order.interfaces n o i d at l f

  object_alone : (x s : List ℕ) (c : Class) → class_named w x ≡ Some c → is_interface c.flags ≡ true
      → Lists s c.supers → s ≡ object
  object_alone x s c e = by (joint_class group x c e)
    where
      by : {c : Class} → IsJoint group c → is_interface c.flags ≡ true → Lists s c.supers → s ≡ object
      by (own_file q k p t own) interface l =
          let sound = is.sound.each q p own.member in
          let unbroken = sound.sound in
          only_object sound.list p unbroken.unbroken t.name s (declared k t) (own_in group is q k p t own) interface l
      by (outside_file n o at) interface l =
          let i = outside_in group is n o at in
          let sound = is.sound.each i.number i.files i.member in
          let unbroken = sound.sound in
          only_object sound.list i.files unbroken.unbroken o.name s (imported i.place o) i.named interface l

  abroad : (x y : List ℕ) (c d : Class) → class_named w x ≡ Some c → c.is_imported ≡ true
      → Lists y (c.supers ++ c.interfaces) → class_named w y ≡ Some d → d.is_imported ≡ true
  abroad x y c d e imp l f = by (joint_class group x c e) imp l
    where
      by : {c : Class} → IsJoint group c → c.is_imported ≡ true → Lists y (c.supers ++ c.interfaces) → d.is_imported ≡
          true
      by (own_file q k p t own) imp l = absurd cc
      by (outside_file n o at) imp l = is.order.alone n o y d at l f

  -- ---- up to java/lang/Object

  -- the only superclass of a class file
  single : (x : List ℕ) (c : Class) → class_named w x ≡ Some c → c.is_imported ≡ false → (s : List ℕ)
      × (c.supers ≡ s ∷ []) × (d : Class) × (class_named w s ≡ Some d)
  single x c e = by (joint_class group x c e)
    where
      by : {c : Class} → IsJoint group c → c.is_imported ≡ false → (s : List ℕ) × (c.supers ≡ s ∷ []) × (d : Class)
          × (class_named w s ≡ Some d)
      by (own_file q k p t own) mine =
          let there = super_there q k p t own t.superclass foremost in
          let h = class_stands group is q p own.member t.superclass there.0 there.1 in
          (t.superclass, refl, h.class, h.named)
      by (outside_file n o at) mine = absurd cc

  -- a line of classes from outside is the same for all
  line_outside : (q : ℕ) (p : Files) → slice_get group q ≡ Some p → (x : List ℕ) (c d : Class) → OnLine (all_classes p)
      x c → class_named w x ≡ Some d → d.is_imported ≡ true → (o : Class) → class_named w c.name ≡ Some o
      → OnLine w x o
  line_outside q p at x c d (here e) named imp o top =
      here (ap (class_named w) (sym (class_named-name (all_classes p) x c e)) ∙ top)
  line_outside q p at x c d (up {s = s} b e l rest) named imp o top =
      let h = class_stands group is q p at x b e in
      let same : h.class ≡ d = same_class (sym h.named ∙ named) in
      by b h.class h.stands l (ap (λ (v : Class). v.is_imported) same ∙ imp) h.named
      (line_begins (all_classes p) s c rest)
      (λ m met far. line_outside q p at s c m rest met far o top)
    where
      by : (b m : Class) → Stands group q p b m → Lists s b.supers → m.is_imported ≡ true → class_named w x ≡ Some m
          → (v : Class) × (class_named (all_classes p) s ≡ Some v)
          → ((m : Class) → class_named w s ≡ Some m → m.is_imported ≡ true → OnLine w s o) → OnLine w x o
      by _ _ (own_class k t own) l abroad_one met v more = absurd cc
      by _ _ (of_member n f j k m t lt own name kind) l abroad_one met v more = absurd cc
      by _ _ (from_outside n k f there) l abroad_one met v more =
          let h = class_stands group is q p at s v.0 v.1 in
          up (imported k f) met l (more h.class h.named (is.order.alone k f s h.class there
          (lists-front s f.supers f.interfaces l) h.named))

  -- where a class that is no interface is there, so is java/lang/Object
  object_there : (x : List ℕ) (c : Class) → class_named w x ≡ Some c → is_interface c.flags ≡ false → (o : Class)
      × (class_named w object ≡ Some o)
  object_there x c e plain = by (joint_class group x c e) plain
    where
      of_package : (q : ℕ) (p : Files) → slice_get group q ≡ Some p → (y : List ℕ) (v : Class)
          → class_named (all_classes p) y ≡ Some v → is_interface v.flags ≡ false → (o : Class)
          × (class_named w object ≡ Some o)
      of_package q p at y v named ground =
          let each = is.each q p at in
          let r = each.rooted y v named ground in
          let h = class_stands group is q p at object r.0 r.1 in
          (h.class, h.named)

      by : {c : Class} → IsJoint group c → is_interface c.flags ≡ false → (o : Class) × (class_named w object ≡ Some o)
      by (own_file q k p t own) plain = of_package q p own.member t.name (declared k t) (own_in group is q k p t own)
          plain
      by (outside_file n f at) plain =
          let i = outside_in group is n f at in
          of_package i.number i.files i.member f.name (imported i.place f) i.named plain

  abroad_rooted : (o : Class) → class_named w object ≡ Some o → (x : List ℕ) (c : Class) → class_named w x ≡ Some c
      → c.is_imported ≡ true → is_interface c.flags ≡ false → OnLine w x o
  abroad_rooted o top x c e = by (joint_class group x c e) e
    where
      by : {c : Class} → IsJoint group c → class_named w x ≡ Some c → c.is_imported ≡ true → is_interface c.flags ≡
          false
          → OnLine w x o
      by (own_file q k p t own) e imp plain = absurd cc
      by (outside_file n f at) e imp plain =
          let i = outside_in group is n f at in
          let each = is.each i.number i.files i.member in
          let name : f.name ≡ x = class_named-name w x (imported n f) e in
          let r = each.rooted f.name (imported i.place f) i.named plain in
          let last : class_named w (let v = r.0 in v.name) ≡ Some o = ap (class_named w) (class_named-name (all_classes
          i.files) object r.0 r.1) ∙ top in
          subst (λ y. OnLine w y o) name (line_outside i.number i.files i.member f.name r.0 (imported n f) r.2
          (outside_is_found group (are_apart group is) is.outside n f at) refl o last)

  rooted : (x : List ℕ) (c : Class) → class_named w x ≡ Some c → is_interface c.flags ≡ false → (o : Class)
      × (class_named w object ≡ Some o) × OnLine w x o
  rooted x c e plain =
      let o = object_there x c e plain in
      (o.0, o.1, roots w is.order.acyclic supers single o.0 o.1 (abroad_rooted o.0 o.1) x c e plain)

  -- java/lang/Object is of an export file: a class file has a superclass, and so it stands above itself
  pub object_abroad : (o : Class) → class_named w object ≡ Some o → o.is_imported ≡ true
  object_abroad o e = by (true_or_false o.is_imported)
    where
      by : (o.is_imported ≡ true) ⊎ (o.is_imported ≡ false) → o.is_imported ≡ true
      by (inl imp) = imp
      by (inr own) =
          let s = single object o e own in
          let l : Lists s.0 o.supers = subst (Lists s.0) (sym s.1) foremost in
          let front = lists-front s.0 o.supers o.interfaces l in
          let r = rooted s.0 s.2 s.3 (supers object s.0 o s.2 e l s.3) in
          let top : (let v = r.0 in v.name) ≡ object = class_named-name w object r.0 r.1 in
          absurd (is.order.acyclic object (⊎_elim
          (λ same. directly o e (subst (λ y. Lists y (o.supers ++ o.interfaces)) (same ∙ top) front))
          (λ far. onwards o e front (subst (λ y. Above w s.0 y) top far))
          (line_below w s.0 r.0 r.2)))

  pub ordered : IsOrdered w
  ordered = record {
    acyclic = is.order.acyclic;
    supers = supers;
    interfaces = interfaces;
    only_object = object_alone;
    abroad = abroad;
    rooted = rooted;
  }

  -- ---- names

  pub plain_names : ((q : ℕ) (p : Files) → slice_get group q ≡ Some p → (x : List ℕ) (c : Class)
      → class_named (all_classes p) x ≡ Some c → starts 91 x ≡ false)
      → (x : List ℕ) (c : Class) → class_named w x ≡ Some c → starts 91 x ≡ false
  plain_names each x c e = by (joint_class group x c e) e
    where
      by : {c : Class} → IsJoint group c → class_named w x ≡ Some c → starts 91 x ≡ false
      by (own_file q k p t own) e =
          subst (λ y. starts 91 y ≡ false) (class_named-name w x (declared (before group q + k) t) e)
          (each q p own.member t.name (declared k t) (own_in group is q k p t own))
      by (outside_file n f at) e =
          let i = outside_in group is n f at in
          subst (λ y. starts 91 y ≡ false) (class_named-name w x (imported n f) e)
          (each i.number i.files i.member f.name (imported i.place f) i.named)
