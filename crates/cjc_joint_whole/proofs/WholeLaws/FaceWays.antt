-- What stands above a class file of a package by way of the interfaces that it lists, or of a class from outside, the
-- package knows, and its own world has it above the class too.
use Rattle.std.proofs.Common.{◌≡◌, ℕ, ◌+◌, refl, sym, ap, subst, ◌∙◌, Bool, true, false, List, [], ◌∷◌, ◌++◌, map}
use Rattle.std.proofs.Common.{Some, inl, inr, ⊎_elim}
use Rattle.std.specs.Prelude.{◌⊎◌, ◌||◌, slice_get, if◌then◌else◌}
use Rattle.std.specs.Str.{bytes_eq}
use Rattle.cjc_bytes.specs.AccessFlags.{is_interface}
use Rattle.cjc_components.specs.Package.{Package, world}
use Rattle.cjc_joint_proof.specs.JointPackages.{files_together}
use Rattle.cjc_joint_proof.specs.JointTables.{world_together}
use Rattle.cjc_joint_proof.specs.Worlds.{IsOwn, before}
use Rattle.cjc_joint_proof.proofs.ClassLaws.{together_at}
use Rattle.cjc_joint_proof.proofs.WorldLaws.{own_is_found}
use Rattle.cjc_joint_theorem.proofs.OrderedLaws.Ordered.{interface_there, object_abroad, ordered}
use Rattle.cjc_joint_theorem.proofs.OrderedLaws.Standing.{Stands, are_apart, class_stands, from_outside}
use Rattle.cjc_joint_theorem.proofs.OrderedLaws.Standing.{of_member, own_class}
use Rattle.cjc_theorem.proofs.FairWriting.Upwards.{under_super}
use Rattle.cjc_token_proof.proofs.ByToken.Members.{bytes_tell}
use Rattle.cjc_token_proof.proofs.WrittenCalls.Facts.{Facts}
use Rattle.cjc_token_proof.specs.ClassOrder.Supers.Supers.{interfaces, name_of, superclasses}
use Rattle.cjc_vtable.specs.Laws.{itself}
use Rattle.cjc_world.proofs.Cycles.{above-class, class_named-name}
use Rattle.cjc_world.proofs.Settled.{lists-behind, lists-front, supertypes-AreSupertypes}
use Rattle.cjc_world.proofs.Trees.{lists-split}
use Rattle.cjc_world.proofs.UpwardLaws.Lines.{above_on, no_list, same_class}
use Rattle.cjc_world.specs.Classes.{Class, class_named, declared, imported}
use Rattle.cjc_world.specs.Files.{Files}
use Rattle.cjc_world.specs.Interfaces.{Interface, each_once, gathered, is_among}
use Rattle.cjc_world.specs.Lookup.{object}
use Rattle.cjc_world.specs.Supertypes.{Above, AreSupertypes, IsAcyclic, Lists, Supertypes, after, directly, ends}
use Rattle.cjc_world.specs.Supertypes.{foremost, known_here, onwards, supertypes, unknown_here}
use Rattle.cjc_world.specs.Upwards.{Below, IsOrdered}
use Rattle.cjc_joint_whole.specs.Faces.{InterfacesAreKnown}
use Rattle.cjc_joint_whole.specs.Selected.{SelectTogether}
use Rattle.cjc_joint_whole.proofs.WholeLaws.FaceOrigins.{Shared, shared}
use Rattle.cjc_joint_whole.proofs.WholeLaws.LinesBack.{one_listed}
use Rattle.cjc_joint_whole.proofs.WholeLaws.OutsideLines.{outside_class}

-- ---- what an export file lists of a class

named_more : (seen : List Interface) (i : Interface) (y : List ℕ) → is_among (seen ++ i ∷ []) y
    ≡ (is_among seen y || (bytes_eq i.name y || false))
named_more [] i y = refl
named_more (j ∷ seen) i y = by (bytes_eq j.name y) (named_more seen i y)
  where
    by : (b : Bool) → is_among (seen ++ i ∷ []) y ≡ (is_among seen y || (bytes_eq i.name y || false))
        → (b || is_among (seen ++ i ∷ []) y) ≡ ((b || is_among seen y) || (bytes_eq i.name y || false))
    by true rest = refl
    by false rest = rest

first_or_rest : (y x : List ℕ) (xs : List (List ℕ)) → Lists y (x ∷ xs) → (y ≡ x) ⊎ Lists y xs
first_or_rest y x xs foremost = inl refl
first_or_rest y x xs (after l) = inr l

once_lists : (seen is : List Interface) (y : List ℕ) → Lists y (map name_of is) → is_among seen y ≡ false
    → Lists y (map name_of (each_once seen is))
once_lists seen [] y l new = no_list l
once_lists seen (i ∷ is) y l new = by (is_among seen i.name) refl (λ m. once_lists seen is y m new)
    (λ m e. once_lists (seen ++ i ∷ []) is y m e)
  where
    apart : is_among seen i.name ≡ true → y ≡ i.name → ⊥
    apart e same = let no : true ≡ false = sym e ∙ ap (is_among seen) (sym same) ∙ new in cc

    both_off : (a b : Bool) → a ≡ false → b ≡ false → (a || (b || false)) ≡ false
    both_off false false e f = refl
    both_off true b e f = absurd cc
    both_off false true e f = absurd cc

    by : (b : Bool) → is_among seen i.name ≡ b → (Lists y (map name_of is) → Lists y (map name_of (each_once seen is)))
        → (Lists y (map name_of is) → is_among (seen ++ i ∷ []) y ≡ false
        → Lists y (map name_of (each_once (seen ++ i ∷ []) is)))
        → Lists y (map name_of (if b then each_once seen is else i ∷ each_once (seen ++ i ∷ []) is))
    by true e old fresh = old (⊎_elim (λ same. absurd (apart e same)) (λ m. m) (first_or_rest y i.name (map name_of is) l))
    by false e old fresh = ⊎_elim
        (λ same. subst (λ z. Lists y (z ∷ map name_of (each_once (seen ++ i ∷ []) is))) same foremost)
        (λ m. on (bytes_eq i.name y) refl m)
        (first_or_rest y i.name (map name_of is) l)
      where
        on : (b : Bool) → bytes_eq i.name y ≡ b → Lists y (map name_of is)
            → Lists y (i.name ∷ map name_of (each_once (seen ++ i ∷ []) is))
        on true f m = subst (λ z. Lists y (z ∷ map name_of (each_once (seen ++ i ∷ []) is))) (sym (bytes_tell i.name y f))
            foremost
        on false f m = after (fresh m (named_more seen i y ∙ both_off (is_among seen y) (bytes_eq i.name y) new f))

names_append : (is js : List Interface) → map name_of (is ++ js) ≡ map name_of is ++ map name_of js
names_append [] js = refl
names_append (i ∷ is) js = ap (λ xs. i.name ∷ xs) (names_append is js)

names_of_parts : (s i : Supertypes) (self : Interface) (next : Supertypes) → map name_of (gathered false s
    ++ gathered true i ++ self ∷ [] ++ gathered true next)
    ≡ map name_of (gathered false s ++ gathered true i) ++ self.name ∷ [] ++ map name_of (gathered true next)
names_of_parts s i self next =
    names_append (gathered false s ++ gathered true i ++ self ∷ []) (gathered true next)
    ∙ ap (λ ns. ns ++ map name_of (gathered true next)) (names_append (gathered false s ++ gathered true i) (self ∷ []))

gathered_lists : (w : List Class) (xs : List (List ℕ)) (k : Supertypes) (y : List ℕ) → AreSupertypes w xs k → Lists y xs
    → Lists y (map name_of (gathered true k))
unfolding gathered
gathered_lists w xs k y ends l = no_list l
gathered_lists w xs k y (unknown_here e a) foremost = foremost
gathered_lists w xs k y (unknown_here {xs = rest} {next = next} e a) (after l) = after (gathered_lists w rest next y a
    l)
gathered_lists w xs k y (known_here {x = x} {c = c} {supers = s} {interfaces = i} {next = next} e sk ik a) foremost =
    let front = map name_of (gathered false s ++ gathered true i) in
    let behind = map name_of (gathered true next) in
    subst (Lists y) (sym (names_of_parts s i (record { name = c.name; class = Some c }) next)) (lists-front y (front
    ++ c.name ∷ []) behind (lists-behind y front (c.name ∷ []) (subst (λ z. Lists y (z ∷ [])) (sym (class_named-name w x
    c e)) foremost)))
gathered_lists w xs k y (known_here {xs = rest} {c = c} {supers = s} {interfaces = i} {next = next} e sk ik a)
    (after l) =
    let front = map name_of (gathered false s ++ gathered true i) in
    let behind = map name_of (gathered true next) in
    subst (Lists y) (sym (names_of_parts s i (record { name = c.name; class = Some c }) next)) (lists-behind y (front
    ++ c.name ∷ []) behind (gathered_lists w rest next y a l))

listed_interface : (w : List Class) → IsAcyclic w → (c : Class) (y : List ℕ) → Lists y c.interfaces
    → Lists y (interfaces w c)
listed_interface w acyclic c y l =
    once_lists [] (gathered false (supertypes w c.supers) ++ gathered true (supertypes w c.interfaces)) y
    (subst (Lists y) (sym (names_append (gathered false (supertypes w c.supers)) (gathered true (supertypes w
    c.interfaces)))) (lists-behind y (map name_of (gathered false (supertypes w c.supers))) (map name_of (gathered true
    (supertypes w c.interfaces))) (gathered_lists w c.interfaces (supertypes w c.interfaces) y
    (supertypes-AreSupertypes w acyclic c.interfaces) l))) refl

-- ---- a group

module _ (packages : List Package) (is : SelectTogether packages) (facts : (q : ℕ) (p : Package)
    → slice_get packages q ≡ Some p → Facts p) (are_known : InterfacesAreKnown packages) where
  abbrev group : List Files
  group = files_together packages

  abbrev w : List Class
  w = world_together packages

  order : IsOrdered w
  order = ordered group is.ordered

  its_order : (q : ℕ) (p : Package) → slice_get packages q ≡ Some p → IsOrdered (world p)
  its_order q p it = let o = is.ordered in o.each q p.files (together_at packages is.linked q p it)

  module _ (q : ℕ) (p : Package) (it : slice_get packages q ≡ Some p) where
    abbrev v : List Class
    v = world p

    files_p : slice_get group q ≡ Some p.files
    files_p = together_at packages is.linked q p it

    -- the package has it above the other too
    pub record Seen (x y : List ℕ) : Type 0 where
      pub above : Above v x y
      pub class : Class
      pub named : class_named v y ≡ Some class

    -- What the joint world's class lists, that of the package does: of a class file of another package its export file
    -- lists all that its class file does.
    lists_too : (x : List ℕ) (c d : Class) → class_named v x ≡ Some c → class_named w x ≡ Some d → (s : List ℕ)
        → Lists s (d.supers ++ d.interfaces) → Lists s (c.supers ++ c.interfaces)
    lists_too x c d known joint s l =
        let hs = class_stands group is.ordered q p.files files_p x c known in
        by c hs.class hs.stands known hs.named (subst (λ (k : Class). Lists s (k.supers ++ k.interfaces)) (same_class
        (sym joint ∙ hs.named)) l)
      where
        by : (c d : Class) → Stands group q p.files c d → class_named v x ≡ Some c → class_named w x ≡ Some d
            → Lists s (d.supers ++ d.interfaces) → Lists s (c.supers ++ c.interfaces)
        by _ _ (own_class k t own) known joint l = l
        by _ _ (from_outside n k e at) known joint l = l
        by _ _ (of_member n e j k m t lt own name kind) known joint l =
            of_shared (shared packages is facts q p it x (imported n e) (declared (before group j + k) t)
            (of_member n e j k m t lt own name kind) known refl joint refl)
          where
            of_shared : Shared packages x (imported n e) → Lists s (e.supers ++ e.interfaces)
            of_shared h =
                let f = h.exporter in
                let a = h.tree in
                let b = declared h.place a in
                let file : IsOwn group h.part h.place f.files a = record {
                  member = together_at packages is.linked h.part f h.there;
                  file = h.file;
                } in
                let same : declared (before group j + k) t ≡ declared (before group h.part + h.place) a =
                same_class (sym joint ∙ ap (class_named w) (sym h.name) ∙ own_is_found group (are_apart group is.ordered)
                h.part h.place f.files a file) in
                let from : Lists s ((a.superclass ∷ []) ++ a.interfaces) = subst (λ (y : Class). Lists s (y.supers
                ++ y.interfaces)) same l in
                let acyclic = (let o = its_order h.part f h.there in o.acyclic) in
                let all : Lists s (superclasses (world f) b ++ interfaces (world f) b) = ⊎_elim
                (λ up. lists-front s (superclasses (world f) b) (interfaces (world f) b) (under_super (world f) acyclic b
                s s up itself))
                (λ face. lists-behind s (superclasses (world f) b) (interfaces (world f) b) (listed_interface (world f)
                acyclic b s face))
                (lists-split s (a.superclass ∷ []) a.interfaces from) in
                subst (λ (y : Class). Lists s (y.supers ++ y.interfaces)) (sym h.is) all

    -- ---- from a class from outside

    told_there : (z : List ℕ) (c d : Class) → class_named v z ≡ Some c → class_named w z ≡ Some d → d.is_imported ≡ true
        → (s : List ℕ) → Lists s (d.supers ++ d.interfaces) → (a : Class) → class_named w s ≡ Some a → (b : Class)
        × (class_named v s ≡ Some b)
    told_there z c d known joint import s l a named =
        let i = outside_class packages is q p it z c d known joint import in
        let e = i.entry in
        let name : e.name ≡ z = sym (ap (λ (k : Class). k.name) i.is) ∙ class_named-name v z c known in
        is.told q i.number p e c a s it i.at (ap (class_named v) name ∙ known) (subst (λ (k : Class). Lists s (k.supers
        ++ k.interfaces)) i.there l) named

    pub outside_way : (z y : List ℕ) → Above w z y → (a : Class) → class_named w y ≡ Some a → (c d : Class)
        → class_named v z ≡ Some c → class_named w z ≡ Some d → d.is_imported ≡ true → Seen z y
    outside_way z y (directly b e l) a named c d known joint import =
        let one : b ≡ d = same_class (sym e ∙ joint) in
        let l_d = subst (λ (k : Class). Lists y (k.supers ++ k.interfaces)) one l in
        let r = told_there z c d known joint import y l_d a named in
        record {
          above = directly c known (lists_too z c d known joint y l_d);
          class = r.0;
          named = r.1;
        }
    outside_way z y (onwards {y = m} b e l rest) a named c d known joint import =
        let one : b ≡ d = same_class (sym e ∙ joint) in
        let l_d = subst (λ (k : Class). Lists m (k.supers ++ k.interfaces)) one l in
        let at = above-class w m y rest in
        let r = told_there z c d known joint import m l_d at.0 at.1 in
        let far = order.abroad z m d at.0 joint import l_d at.1 in
        let s = outside_way m y rest a named r.0 at.0 r.1 at.1 far in
        record {
          above = onwards c known (lists_too z c d known joint m l_d) s.above;
          class = s.class;
          named = s.named;
        }

    -- ---- from an interface that a class file lists

    module _ (x : List ℕ) (c : Class) (known_x : class_named v x ≡ Some c) (mine : c.is_imported ≡ false)
        (ground : is_interface c.flags ≡ false) (j : List ℕ) (lists_j : Lists j c.interfaces) where
      below_then : (z y : List ℕ) → Below w j z → Above w z y → Above w j y
      below_then z y way far = ⊎_elim (λ same. subst (λ n. Above w n y) (sym same) far) (λ near. above_on w j z y near
          far) way

      face_there : (y : List ℕ) (a : Class) → Above w j y → class_named w y ≡ Some a → is_interface a.flags ≡ true
          → (b : Class) × (class_named v y ≡ Some b)
      face_there y a way named face = are_known q p it x c known_x mine ground j lists_j y a way named face

      top_there : (b : Class) × (class_named v object ≡ Some b)
      top_there = let f = facts q p it in let o = f.object_class in (o.0, o.1)

      -- what an interface lists: an interface, or java/lang/Object
      over : (z : List ℕ) (d : Class) → class_named w z ≡ Some d → is_interface d.flags ≡ true → Below w j z
          → (s : List ℕ) → Lists s (d.supers ++ d.interfaces) → Above w z s → (a : Class) → class_named w s ≡ Some a
          → (b : Class) × (class_named v s ≡ Some b) × ((s ≡ object) ⊎ (is_interface a.flags ≡ true))
      over z d joint face way s l far a named = ⊎_elim
          (λ up. let top = order.only_object z s d joint face up in let o = top_there
          in (o.0, ap (class_named v) top ∙ o.1, inl top))
          (λ more. let kind = order.interfaces z s d a joint more named in let r = face_there s a (below_then z s way far)
          named kind in (r.0, r.1, inr kind))
          (lists-split s d.supers d.interfaces l)

      pub face_way : (z y : List ℕ) → Above w z y → (a : Class) → class_named w y ≡ Some a → (k d : Class)
          → class_named v z ≡ Some k → class_named w z ≡ Some d → is_interface d.flags ≡ true → Below w j z → Seen z y
      face_way z y (directly b e l) a named k d known joint face way =
          let one : b ≡ d = same_class (sym e ∙ joint) in
          let l_d = subst (λ (u : Class). Lists y (u.supers ++ u.interfaces)) one l in
          let r = over z d joint face way y l_d (directly b e l) a named in
          record {
            above = directly k known (lists_too z k d known joint y l_d);
            class = r.0;
            named = r.1;
          }
      face_way z y (onwards {y = m} b e l rest) a named k d known joint face way =
          let one : b ≡ d = same_class (sym e ∙ joint) in
          let l_d = subst (λ (u : Class). Lists m (u.supers ++ u.interfaces)) one l in
          let at = above-class w m y rest in
          let near : Above w z m = directly b e l in
          let r = over z d joint face way m l_d near at.0 at.1 in
          let s = ⊎_elim
          (λ top. outside_way m y rest a named r.0 at.0 r.1 at.1 (object_abroad group is.ordered at.0 (ap (class_named w)
          (sym top) ∙ at.1)))
          (λ kind. face_way m y rest a named r.0 at.0 r.1 at.1 kind (inr (below_then z m way near)))
          r.2 in
          record {
            above = onwards k known (lists_too z k d known joint m l_d) s.above;
            class = s.class;
            named = s.named;
          }

    -- ---- from a class file

    -- The first step leads to an interface, or to the superclass.
    pub data Begins (x y super : List ℕ) : Type 0 where
      seen : Seen x y → Begins x y super
      higher : Above w super y → Begins x y super

    module _ (x : List ℕ) (c : Class) (known : class_named v x ≡ Some c) (mine : c.is_imported ≡ false)
        (ground : is_interface c.flags ≡ false) (super : List ℕ) (supers : c.supers ≡ super ∷ []) (y : List ℕ)
        (a : Class) (named : class_named w y ≡ Some a) (face : is_interface a.flags ≡ true) where
      -- a listed interface is there
      listed_there : (m : List ℕ) → Lists m c.interfaces → (b : Class) × (class_named v m ≡ Some b)
      listed_there m l =
          let hs = class_stands group is.ordered q p.files files_p x c known in by c hs.class hs.stands mine l
        where
          by : (c d : Class) → Stands group q p.files c d → c.is_imported ≡ false → Lists m c.interfaces → (b : Class)
              × (class_named v m ≡ Some b)
          by _ _ (own_class k t own) own_one l = interface_there group is.ordered q k p.files t own m l
          by _ _ (of_member n e j k f t lt own name kind) own_one l = absurd cc
          by _ _ (from_outside n k e at) own_one l = absurd cc

      joint_lists : (d : Class) → class_named w x ≡ Some d → (m : List ℕ) → Lists m (d.supers ++ d.interfaces)
          → Lists m c.interfaces ⊎ (m ≡ super)
      joint_lists d joint m l = ⊎_elim
          (λ up. inr (one_listed m super (subst (Lists m) supers up)))
          (λ more. inl more)
          (lists-split m c.supers c.interfaces (lists_too x c d known joint m l))

      -- over a listed interface
      over_face : (m : List ℕ) → Lists m c.interfaces → Below w m y → Seen x y
      over_face m l way =
          let b = listed_there m l in
          let hs = class_stands group is.ordered q p.files files_p m b.0 b.1 in
          let l_all : Lists m (c.supers ++ c.interfaces) = lists-behind m c.supers c.interfaces l in
          let top = class_stands group is.ordered q p.files files_p x c known in
          let kind : is_interface (let k = hs.class in k.flags) ≡ true = order.interfaces x m top.class hs.class
          top.named (stays_listed top.class top.stands m l) hs.named in
          ⊎_elim
          (λ same. record {
            above = directly c known (subst (λ n. Lists n (c.supers ++ c.interfaces)) same l_all);
            class = b.0;
            named = ap (class_named v) (sym same) ∙ b.1;
          })
          (λ far. let s = face_way x c known mine ground m l m y far a named b.0 hs.class b.1 hs.named kind (inl refl)
          in record { above = onwards c known l_all s.above; class = s.class; named = s.named })
          way
        where
          stays_listed : (d : Class) → Stands group q p.files c d → (m : List ℕ) → Lists m c.interfaces
              → Lists m d.interfaces
          stays_listed d stands m l = by stands mine l
            where
              by : {c d : Class} → Stands group q p.files c d → c.is_imported ≡ false → Lists m c.interfaces
                  → Lists m d.interfaces
              by (own_class k t own) own_one l = l
              by (of_member n e j k f t lt own name kind) own_one l = absurd cc
              by (from_outside n k e at) own_one l = absurd cc

      pub begins : (super_kind : (d : Class) → class_named w super ≡ Some d → is_interface d.flags ≡ false)
          → Above w x y → Begins x y super
      begins super_kind (directly b e l) = ⊎_elim
          (λ more. seen (over_face y more (inl refl)))
          (λ same. absurd (clash (super_kind a (ap (class_named w) (sym same) ∙ named))))
          (joint_lists b e y l)
        where
          clash : is_interface a.flags ≡ false → ⊥
          clash plain = let no : true ≡ false = sym face ∙ plain in cc
      begins super_kind (onwards {y = m} b e l rest) = ⊎_elim
          (λ more. seen (over_face m more (inr rest)))
          (λ same. higher (subst (λ n. Above w n y) same rest))
          (joint_lists b e m l)
