-- The class in which a package finds a static method, constructor or private method that its code names, and what the
-- joint world has for the method: it is of a class file of the package, of one of a package before, or of a class from
-- outside.
use Rattle.std.proofs.Common.{◌≡◌, ℕ, refl, sym, ap, subst, ◌∙◌, Bool, true, false, List, [], ◌∷◌, Some, None, length}
use Rattle.std.proofs.Common.{inl, inr, map}
use Rattle.std.proofs.Common.{⊎_elim}
use Rattle.std.specs.Prelude.{◌⊎◌, ◌&&◌, ◌||◌, ◌==◌, not, option_and_then, slice_get, if◌then◌else◌}
use Rattle.cjc_bytes.specs.AccessFlags.{is_interface, is_private, is_static}
use Rattle.cjc_bytes.specs.declared.fault.MemberId.{MemberId}
use Rattle.cjc_bytes.proofs.Bools.{true_not_false, true_or_false}
use Rattle.cjc_bytes.proofs.Gets.{mapped_at}
use Rattle.cjc_components.specs.ExportFile.{export_class}
use Rattle.cjc_components.specs.Exports.{exported_classes}
use Rattle.cjc_components.specs.Names.{member_token}
use Rattle.cjc_components.specs.Package.{Package}
use Rattle.cjc_jvm_semantics.specs.Group.{find_exposed, is_exposed, joint_exports, joint_method}
use Rattle.cjc_jvm_semantics.specs.OnePackage.{ResolvedMember, is_constructor, is_initialiser, method_hit, of_class}
use Rattle.cjc_vtable.specs.LowerTokens.Methods.{is_open_bound}
use Rattle.cjc_world.specs.ClassFile.declared.tree.ClassTree.{ClassTree}
use Rattle.cjc_world.specs.Classes.{Class, Member as WorldMember, all_classes, class_named, declared, imported}
use Rattle.cjc_world.specs.Classes.{method_of_export}
use Rattle.cjc_world.specs.ExportFile.Members.{is_unbound, not_special}
use Rattle.cjc_world.specs.ExportFile.Writable.{ClassFits, EachAfter, MethodStands}
use Rattle.cjc_world.specs.ExportFile.declared.tree.ExportClass.{ExportClass}
use Rattle.cjc_world.specs.ExportFile.declared.tree.ExportMethod.{ExportMethod}
use Rattle.cjc_world.specs.ExportFile.declared.tree.ExportTree.{ExportTree}
use Rattle.cjc_world.specs.Files.{Files}
use Rattle.cjc_world.specs.Lookup.{find_method, own_method}
use Rattle.cjc_world.specs.Upwards.{Below}
use Rattle.cjc_world.specs.declared.found.Found.{Found}
use Rattle.cjc_world.proofs.UpwardLaws.Lines.{method_found_above}
use Rattle.cjc_vtable.proofs.Filed.{IsFiled, filed, get-has, has-get, in_class_file, in_export_file, of-imports}
use Rattle.cjc_vtable.proofs.Read.{each-after}
use Rattle.cjc_shape_proof.specs.WorldProof.Calls.Solid.{IsSolid}
use Rattle.cjc_shape_proof.specs.Written.Entries.{IsOwnUnbound}
use Rattle.cjc_shape_proof.proofs.ExportedOwn.{IsOwn as IsOwnClass, own_class}
use Rattle.cjc_theorem.proofs.AlikeLaws.NamedLaws.Abroad.{first_listed}
use Rattle.cjc_token_proof.proofs.TablesLaws.Clean.{has_named}
use Rattle.cjc_token_proof.proofs.TablesLaws.Named.{has_entry}
use Rattle.cjc_token_proof.proofs.WorldProofOwn.{IsAt, hit_is, own_at}
use Rattle.cjc_token_proof.proofs.WorldProofOwn as world
use Rattle.cjc_token_proof.specs.CardSemantics.Machine.Operations.{unbound_of}
use Rattle.cjc_token_proof.specs.Subset.Members.{imports}
use Rattle.cjc_joint_proof.specs.Worlds.{AreApart, before, found_at, found_in, hit_at, outside_classes}
use Rattle.cjc_joint_proof.proofs.AboveLaws.{flat_at}
use Rattle.cjc_joint_proof.proofs.ForeignLaws.{foreign_found, foreign_hit_at, foreign_method}
use Rattle.cjc_joint_proof.proofs.MemberLaws.{method_resolves}
use Rattle.cjc_joint_proof.proofs.SoundLaws as sound
use Rattle.cjc_joint_proof.proofs.WorldLaws.{own_is_found}
use Rattle.cjc_joint_theorem.specs.Members.{Member, files_of}
use Rattle.cjc_joint_theorem.specs.Together.Homes.{joint_world}
use Rattle.cjc_joint_theorem.proofs.MembersLaws.Worlds.{files_at}
use Rattle.cjc_joint_whole.specs.Whole.{AreWholeWith, IsExport, IsWrittenFor, from_outside, of_member}
use Rattle.cjc_joint_whole.proofs.WholeLaws.Coded.{InFile, found_there}
use Rattle.cjc_joint_whole.proofs.WholeLaws.Exposed.{exposed_here, own_here}
use Rattle.cjc_joint_whole.proofs.WholeLaws.Solid.{solid_at}

-- ---- in the package's own world

-- The class that declares what is found.
pub record HasOwner (files : Files) (id : MemberId) (place : Found) (hit : ResolvedMember) : Type 0 where
  pub class : Class
  pub below : Below (all_classes files) id.class class.name
  pub named : class_named (all_classes files) class.name ≡ Some class
  pub own : own_method false id.name id.desc class ≡ Some place
  pub at : IsAt false id.name id.desc class place
  pub is_hit : hit ≡ record { owner = class; flags = (let m = at.member in m.flags) }

pub owner_of : (files : Files) → IsSolid files → (id : MemberId) (place : Found) (hit : ResolvedMember)
    → find_method (all_classes files) id.class id.name id.desc ≡ Some place
    → method_hit (all_classes files) place ≡ Some hit → HasOwner files id place hit
owner_of files solid id place hit found is_hit =
    let v = all_classes files in
    let above = method_found_above v solid.ordered id.class id.name id.desc place found in
    let d = above.0 in
    let at = own_at false id.name id.desc d place above.3 in
    let m = at.member in
    record {
      class = d;
      below = above.1;
      named = above.2;
      own = above.3;
      at = at;
      is_hit = same (sym is_hit ∙ ap (method_hit v) at.is ∙ hit_is v d at.place m (solid.numbered d.name d above.2)
          at.is_member);
    }
  where
    same : {a b : ResolvedMember} → Some a ≡ Some b → a ≡ b
    same e = cc

-- It is static, private or a constructor.
abbrev pub IsFixed : (flags : ℕ) → (name : List ℕ) → Type 0
IsFixed flags name = (is_static flags ≡ true) ⊎ ((is_private flags ≡ true) ⊎ (is_constructor name ≡ true))

-- ---- in the joint world

module _ (members : List Member) (id : MemberId) (hit : ResolvedMember) where
  abbrev owner_name : List ℕ
  owner_name = let o = hit.owner in o.name

  -- A method of a class file of a package, of the same flags, and of a class of the same name.
  pub record MetInFile : Type 0 where
    pub it : InFile members id
    pub has_flags : (let x = it in let m = x.method in m.flags) ≡ hit.flags
    pub same_class : (let x = it in let t = x.class in t.name) ≡ owner_name
    pub stands : joint_method (joint_world (files_of members)) hit.owner id ≡ Some (found_there it)

  -- A method of a class from outside, of the same flags.
  pub record MetOutside : Type 0 where
    pub there : Found
    pub met : ResolvedMember
    pub abroad : there.imported ≡ true
    pub stands : joint_method (joint_world (files_of members)) hit.owner id ≡ Some there
    pub is_met : method_hit (joint_world (files_of members)) there ≡ Some met
    pub has_flags : met.flags ≡ hit.flags

  -- It has one of these.
  pub data IsMet : Type 0 where
    in_file : MetInFile → IsMet
    outside : MetOutside → IsMet

-- ---- tests

plain_name : (name : List ℕ) → not_special name ≡ Some name → is_constructor name ≡ false
plain_name name e = by (is_constructor name) (is_initialiser name) refl e
  where
    by : (a b : Bool) → is_constructor name ≡ a → (if a || b then None else Some name) ≡ Some name
        → is_constructor name ≡ false
    by false b f e = f
    by true b f e = absurd cc

shown_bound : (x : WorldMember) → is_open_bound x ≡ true → is_exposed x.flags ≡ true
shown_bound x e = by (is_exposed x.flags) (is_static x.flags || is_constructor x.name) (is_initialiser x.name) e
  where
    by : (a b i : Bool) → (a && b && not i) ≡ true → a ≡ true
    by true b i e = refl
    by false true true e = cc
    by false true false e = cc
    by false false i e = cc

-- ---- by a token

heads : {A : Type 0} {x y : A} {xs ys : List A} → x ∷ xs ≡ y ∷ ys → x ≡ y
heads e = cc

tails : {A : Type 0} {x y : A} {xs ys : List A} → x ∷ xs ≡ y ∷ ys → xs ≡ ys
tails e = cc

-- where two lists have the same methods, what a token means in the one it means in the other
unbound_alike : (ms os : List ExportMethod) → map method_of_export ms ≡ map method_of_export os → (t : ℕ)
    (x : ExportMethod) → unbound_of ms t ≡ Some x
    → (y : ExportMethod) × (unbound_of os t ≡ Some y) × (method_of_export y ≡ method_of_export x)
unbound_alike [] os same t x e = cc
unbound_alike (a ∷ ms) [] same t x e = cc
unbound_alike (a ∷ ms) (b ∷ os) same t x e =
    by (is_unbound b.flags b.name && (b.token == t)) (is_unbound a.flags a.name && (a.token == t))
    (ap (λ (m : WorldMember). is_unbound m.flags m.name && (m.token == t)) (heads same)) e
    (unbound_alike ms os (tails same) t x)
  where
    by : (p q : Bool) → q ≡ p → (if q then Some a else unbound_of ms t) ≡ Some x
        → (unbound_of ms t ≡ Some x → (y : ExportMethod) × (unbound_of os t ≡ Some y)
        × (method_of_export y ≡ method_of_export x))
        → (y : ExportMethod) × ((if p then Some b else unbound_of os t) ≡ Some y)
        × (method_of_export y ≡ method_of_export x)
    by true true s f rest = (b, refl, (let one : a ≡ x = cc in sym (heads same) ∙ ap method_of_export one))
    by false false s f rest = rest f
    by true false s f rest = cc
    by false true s f rest = cc

module _ {K : _} (members : List Member) (is : AreWholeWith K members) (q : ℕ) (p : Member)
    (at : slice_get members q ≡ Some p)
    (id : MemberId) (initial : is_initialiser id.name ≡ false) (place : Found) (hit : ResolvedMember)
    (is_hit : method_hit (all_classes p.files) place ≡ Some hit) where
  abbrev group : List Files
  group = files_of members

  abbrev w : List Class
  w = joint_world group

  abbrev v : List Class
  v = all_classes p.files

  are_apart : AreApart group
  are_apart = sound.apart group is.sound

  -- ---- of a class file of the package

  pub own_met : (n : ℕ) (t : ClassTree) → (let f = p.files in slice_get f.classes n ≡ Some t)
      → own_method false id.name id.desc (declared n t) ≡ Some place → (a : IsAt false id.name id.desc (declared n t)
      place) → hit ≡ record { owner = declared n t; flags = (let m = a.member in m.flags) } → MetInFile members id hit
  own_met n t file own a told =
      let mine = own_here members is q p at n t file in
      record {
        it = record {
          part = q;
          member = p;
          at = at;
          number = n;
          class = t;
          file = file;
          place = a.place;
          method = a.member;
          is_method = a.is_member;
          has_name = a.has_name;
          has_desc = a.has_desc;
        };
        has_flags = sym (ap (λ (h : ResolvedMember). h.flags) told);
        same_class = sym (ap (λ (h : ResolvedMember). let o = h.owner in o.name) told);
        stands = ap (λ (h : ResolvedMember). joint_method w h.owner id) told
            ∙ method_resolves group are_apart q n p.files t mine (sound.listed group is.sound q n p.files t mine) id
            place own
            ∙ ap (λ g. Some (found_in (before group q) g)) a.is;
      }

  -- ---- of a class of an export file

  module _ (n : ℕ) (e : ExportClass) (file : (let f = p.files in slice_get (imports f.exports) n ≡ Some e))
      (named : class_named v e.name ≡ Some (imported n e))
      (own : own_method false id.name id.desc (imported n e) ≡ Some place)
      (a : IsAt false id.name id.desc (imported n e) place)
      (told : hit ≡ record { owner = imported n e; flags = (let m = a.member in m.flags) }) where
    -- of a class from outside
    pub outside_met : (k : ℕ) → slice_get (outside_classes group) k ≡ Some e → MetOutside members id hit
    outside_met k kept =
        let s = solid_at members is q p at in
        let foreign = s.numbered e.name (imported n e) named in
        record {
          there = found_at k place;
          met = hit_at k hit;
          abroad = foreign_found group are_apart is.outside k n p.files e kept foreign id place own;
          stands = ap (λ (h : ResolvedMember). joint_method w h.owner id) told
              ∙ foreign_method group are_apart is.outside k n p.files e kept foreign id place own;
          is_met = foreign_hit_at group are_apart is.outside k n p.files e kept foreign id place own hit is_hit;
          has_flags = refl;
        }

    entry : (x : ExportMethod) × (slice_get e.methods a.place ≡ Some x) × (a.member ≡ method_of_export x)
    entry = world.mapped_at method_of_export e.methods a.place a.member a.is_member

    -- such a method of a class is static or a constructor, and no interface has one
    unbound : IsFixed (let m = a.member in m.flags) id.name → is_unbound (let m = a.member in m.flags)
        (let m = a.member in m.name) ≡ true
    unbound (inl static) = ap (λ b. b || is_constructor (let m = a.member in m.name)) static
    unbound (inr (inl private)) =
        let one = is.each q p at in
        absurd (true_not_false (is_private (let m = a.member in m.flags)) private
        (ap (λ (y : WorldMember). is_private y.flags) entry.2 ∙ one.no_private n a.place e entry.0 file entry.1))
    unbound (inr (inr constructor)) = by (is_static (let m = a.member in m.flags)) (ap is_constructor a.has_name
        ∙ constructor)
      where
        by : (s : Bool) → is_constructor (let m = a.member in m.name) ≡ true
            → (s || is_constructor (let m = a.member in m.name)) ≡ true
        by true f = refl
        by false f = f

    -- a class of an export file that was read
    fits : (b : List ExportClass) × ClassFits b e
    fits =
        let f = p.files in
        let list = is.sound.each q f (files_at members q p at) in
        let s = list.sound in
        let of = of-imports e f.exports (get-has e (imports f.exports) n file) in
        let k = has-get of.0 f.exports of.1 in
        let r = s.read in
        let readable = r.exports k.0 of.0 k.1 in
        each-after ClassFits [] (let t = of.0 in t.classes) e readable.classes of.2

    ground : IsFixed (let m = a.member in m.flags) id.name → is_interface e.flags ≡ false
    ground fixed = ⊎_elim (λ it. absurd (clash it fixed)) (λ no. no) (true_or_false (is_interface e.flags))
      where
        clash : is_interface e.flags ≡ true → IsFixed (let m = a.member in m.flags) id.name → ⊥
        clash it (inl static) =
            let one = is.each q p at in
            true_not_false (is_static (let m = a.member in m.flags)) static (ap (λ (y : WorldMember). is_static y.flags)
            entry.2 ∙ (let plain = one.plain in plain.interfaces n e file it a.place entry.0 entry.1).1)
        clash it (inr (inl private)) =
            let one = is.each q p at in
            true_not_false (is_private (let m = a.member in m.flags)) private
            (ap (λ (y : WorldMember). is_private y.flags) entry.2 ∙ one.no_private n a.place e entry.0 file entry.1)
        clash it (inr (inr constructor)) =
            let stands : EachAfter (MethodStands true (length e.methods)) [] e.methods =
            subst (λ b. EachAfter (MethodStands b (length e.methods)) [] e.methods) it (let c = fits.1 in c.methods) in
            let one = each-after (MethodStands true (length e.methods)) [] e.methods entry.0 stands
            (get-has entry.0 e.methods a.place entry.1) in
            true_not_false (is_constructor id.name) constructor (ap is_constructor (sym a.has_name)
            ∙ ap (λ (y : WorldMember). is_constructor y.name) entry.2 ∙ plain_name (let x = entry.0 in x.name) one.1.2)

    -- of a class of a package before, which declares it as a public or protected one
    module _ (fixed : IsFixed (let m = a.member in m.flags) id.name) (j : ℕ) (m : Member)
        (there : slice_get members j ≡ Some m) (t : ExportTree) (written : IsWrittenFor m.files t) (k : ℕ)
        (listed : slice_get t.classes k ≡ Some e) where
      abbrev exporter : Package
      exporter = written.exporter

      its_class : (d : Class) × (slice_get (exported_classes exporter) k ≡ Some d) × (export_class exporter d ≡ e)
      its_class = mapped_at (export_class exporter) (exported_classes exporter) k e (sym (ap (λ (u : ExportTree).
          slice_get u.classes k) written.is) ∙ listed)

      -- the package by which the importing one counts tokens
      abbrev asker : Package
      asker = record exporter { files = p.files }

      shared_met : IsMet members id hit
      shared_met =
          let list = is.sound.each q p.files (files_at members q p at) in
          let has = has_entry list.list asker list.sound (imported n e) (has_named v e.name (imported n e) named) refl in
          let x = first_listed list.list asker list.sound (of_class e.name id) (imported n e) place named refl
          (ground fixed) has a initial (unbound fixed) in
          let y = unbound_alike (let h = has.entry in h.methods) e.methods (sym (ap (λ (c : Class). c.methods)
          has.class)) (member_token asker (Some place)) x.0 x.1 in
          let d = its_class.0 in
          let told_by = written.unbound k (member_token asker (Some place)) d y.0 its_class.1
          (ap (λ (y : ExportClass). unbound_of y.methods (member_token asker (Some place))) its_class.2 ∙ y.1) in
          made y.0 d told_by.1 (own_class exporter k d its_class.1) (ap (λ (y : ExportClass). y.name) its_class.2)
          (ap (λ (m : WorldMember). m.name) y.2 ∙ x.2) (ap (λ (m : WorldMember). m.desc) y.2 ∙ x.3)
          (ap (λ (m : WorldMember). m.flags) y.2 ∙ x.4)
        where
          made : (x : ExportMethod) (d : Class) (u : IsOwnUnbound exporter d x) (c : IsOwnClass exporter d)
              → d.name ≡ e.name → x.name ≡ id.name → x.desc ≡ id.desc → x.flags ≡ (let m = a.member in m.flags)
              → IsMet members id hit
          made x d u c name is_name is_desc is_flags =
              let o = c.tree in
              let file : (let f = m.files in slice_get f.classes c.number ≡ Some o) = ap (λ (f : Files). slice_get
              f.classes c.number) (sym written.same_files) ∙ c.is_tree in
              let class : o.name ≡ e.name = sym (ap (λ (y : Class). y.name) c.is) ∙ name in
              let has : slice_get (declared c.number o).methods u.place ≡ Some u.member =
              ap (λ (y : Class). slice_get y.methods u.place) (sym c.is) ∙ u.there in
              let its_name = ap (λ (y : ExportMethod). y.name) u.is ∙ is_name in
              let its_desc = ap (λ (y : ExportMethod). y.desc) u.is ∙ is_desc in
              let mine = own_here members is j m there c.number o file in
              let found = exposed_here members is j m there c.number o file u.place u.member has
              (shown_bound u.member u.opened) id its_name its_desc in
              in_file (record {
                it = record {
                  part = j;
                  member = m;
                  at = there;
                  number = c.number;
                  class = o;
                  file = file;
                  place = u.place;
                  method = u.member;
                  is_method = has;
                  has_name = its_name;
                  has_desc = its_desc;
                };
                has_flags = ap (λ (y : ExportMethod). y.flags) u.is ∙ is_flags
                    ∙ sym (ap (λ (h : ResolvedMember). h.flags) told);
                same_class = class ∙ sym (ap (λ (h : ResolvedMember). let r = h.owner in r.name) told);
                stands = ap (λ (h : ResolvedMember). joint_method w h.owner id) told
                    ∙ ap (option_and_then (λ (y : Class). if true && not y.is_imported then find_exposed w e.name id
                    else own_method false id.name id.desc y)) (ap (class_named w) (sym class)
                    ∙ own_is_found group are_apart j c.number m.files o mine)
                    ∙ ap (λ y. find_exposed w y id) (sym class) ∙ found;
              })

    exported_met : IsFixed (let m = a.member in m.flags) id.name → IsMet members id hit
    exported_met fixed =
        let f = p.files in
        let of = of-imports e f.exports (get-has e (imports f.exports) n file) in
        let k = has-get of.0 f.exports of.1 in
        let c = has-get e (let t = of.0 in t.classes) of.2 in
        by of.0 c.0 c.1 (is.written q k.0 p of.0 at k.1)
      where
        by : (t : ExportTree) (k : ℕ) → slice_get t.classes k ≡ Some e → IsExport members q t → IsMet members id hit
        by t k listed (of_member j m lt there written) = shared_met fixed j m there t written k listed
        by t k listed (from_outside r kept) =
            let all = flat_at (λ (u : ExportTree). u.classes) (joint_exports group) r k t e kept listed in
            outside (outside_met all.0 all.1)

  -- ---- whichever it is

  pub met_of : (o : HasOwner p.files id place hit) → IsFixed hit.flags id.name → IsMet members id hit
  met_of o fixed = by (filed p.files (let c = o.class in c.name) o.class o.named) o.named o.own o.at o.is_hit
    where
      by : {d : Class} → IsFiled p.files d → class_named v d.name ≡ Some d
          → own_method false id.name id.desc d ≡ Some place → (a : IsAt false id.name id.desc d place)
          → hit ≡ record { owner = d; flags = (let m = a.member in m.flags) } → IsMet members id hit
      by (in_class_file n t file) named own a told = in_file (own_met n t file own a told)
      by (in_export_file n e file) named own a told = exported_met n e file named own a told
          (subst (λ (h : ResolvedMember). IsFixed h.flags id.name) told fixed)
