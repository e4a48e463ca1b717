-- Static methods, constructors and private methods that the code of a package names: where each stands, by its class
-- file, by an export file from outside, or by the class file of another package of the group; and how it begins on the
-- card.
use Rattle.std.proofs.Common.{◌≡◌, ℕ, zero, suc, ◌+◌, ◌-◌, refl, sym, ap, subst, ◌∙◌, arith, Bool, true, false, List}
use Rattle.std.proofs.Common.{[], ◌∷◌, ◌++◌, length, map, Some}
use Rattle.std.specs.Prelude.{Option, None, ◌&&◌, option_and_then, option_map, position, slice_get, if◌then◌else◌}
use Rattle.std.specs.Str.{bytes_eq}
use Rattle.std.proofs.lemmas.List.{length-map}
use Rattle.std.proofs.lemmas.Option.{slice_get-map}
use Rattle.cjc_card_semantics.specs.Bytes.AccessFlags.{is_interface}
use Rattle.cjc_card_semantics.specs.Bytes.declared.fault.MemberId.{MemberId}
use Rattle.cjc_card_semantics.specs.CapRead.declared.tree.ExportedClass.{ExportedClass}
use Rattle.cjc_card_semantics.specs.ExportFile.declared.tree.ExportClass.{ExportClass}
use Rattle.cjc_card_semantics.specs.ExportFile.declared.tree.ExportMethod.{ExportMethod}
use Rattle.cjc_card_semantics.specs.Machine.Methods.{start_of}
use Rattle.cjc_card_semantics.specs.Machine.Operations.{unbound_of}
use Rattle.cjc_tokens.proofs.Facts.{position-cons}
use Rattle.cjc_world.proofs.Settled.{supertypes-known}
use Rattle.cjc_world.specs.Rules.{is_earlier, is_twice}
use Rattle.cjc_world.specs.Supertypes.{IsAcyclic, line, supertypes, upwards}
use Rattle.cjc_exported.specs.ClassFile.declared.tree.ClassTree.{ClassTree}
use Rattle.cjc_exported.specs.ClassFile.declared.tree.MethodTree.{MethodTree}
use Rattle.cjc_exported.specs.Components.Methods.{method_offset}
use Rattle.cjc_exported.specs.World.Classes.{Class, Member, class_named, declared, field_of_class}
use Rattle.cjc_exported.specs.World.Classes.{method_of_class}
use Rattle.cjc_exported.specs.World.Lookup.{find_method, first, is_called, member_at, or_else, own_method}
use Rattle.cjc_exported.specs.World.declared.found.Found.{Found}
use Rattle.cjc_exported.proofs.ExportLaws.Own.{IsOwn as IsOwnClass, own_class}
use Rattle.cjc_exported.proofs.WorldCycles.{class_named-name}
use Rattle.cjc_link_semantics.specs.Components.ExportFile.{export_class, export_of}
use Rattle.cjc_link_semantics.specs.Components.Exports.{exported_class, exported_classes, open_methods}
use Rattle.cjc_link_semantics.specs.Components.Names.{member_token}
use Rattle.cjc_link_semantics.specs.Components.Package.{Package, world}
use Rattle.cjc_link_semantics.specs.JvmSemantics.Group.{is_exposed, is_of_group}
use Rattle.cjc_link_semantics.specs.JvmSemantics.Linked.{Method}
use Rattle.cjc_link_semantics.specs.JvmSemantics.OnePackage.{ResolvedMember, is_initialiser, method_at, method_by}
use Rattle.cjc_link_semantics.specs.JvmSemantics.OnePackage.{method_hit, method_in}
use Rattle.cjc_token_proof.proofs.ByToken.Members.{bytes_same}
use Rattle.cjc_token_proof.proofs.BytesGets.{mapped_at}
use Rattle.cjc_token_proof.proofs.TablesLaws.Clean.{has_named, kept, own_name}
use Rattle.cjc_token_proof.proofs.TablesLaws.Fields.{first_here}
use Rattle.cjc_token_proof.proofs.TablesLaws.Filed.{own_in}
use Rattle.cjc_token_proof.proofs.TablesLaws.Named.{has_info}
use Rattle.cjc_token_proof.proofs.WorldProofOwn.{hit_is, method_is}
use Rattle.cjc_token_proof.proofs.VTableFiled.{IsFiled, at-number, filed, in_class_file, in_export_file}
use Rattle.cjc_token_proof.proofs.WrittenCalls.Found.{Own, own_is, stands_in_method}
use Rattle.cjc_token_proof.proofs.WrittenCalls.Reached.{find_first}
use Rattle.cjc_token_proof.specs.Calls.Reaching.{BeginsAtOffsets}
use Rattle.cjc_token_proof.specs.NCode.Lowering.Placed.{start_on_card}
use Rattle.cjc_token_proof.specs.Tables.Infos.{HasEntry}
use Rattle.cjc_token_proof.specs.Tables.Loading.{naming}
use Rattle.cjc_token_proof.specs.Tables.Sound.{IsSound}
use Rattle.cjc_token_proof.specs.WrittenCalls.Standing.{place}
use Rattle.cjc_joint_proof.specs.JointCalled.{NamesOutsideMethod, NamesOwnMethod, NamesSharedMethod}
use Rattle.cjc_joint_proof.specs.JointFixed.{ExportsMethod}
use Rattle.cjc_joint_proof.specs.JointPackages.{AreLinked, files_together}
use Rattle.cjc_joint_proof.proofs.ClassLaws.{sound_at}
use Rattle.cjc_joint_proof.proofs.ExportLaws.{in_export}

-- ---- lists

-- the first that passes one test is the first that passes two, where it passes both
pub position_and : {A : Type 0} (t u : A → Bool) (xs : List A) (k : ℕ) (x : A) → slice_get xs k ≡ Some x → t x ≡ true
    → u x ≡ true → position u xs ≡ Some k → position (λ y. t y && u y) xs ≡ Some k
position_and t u [] k x e a b f = cc
position_and t u (y ∷ ys) zero x e a b f =
    let same : y ≡ x = cc in
    let both : (t y && u y) ≡ true = ap (λ q. t y && q) (ap u same ∙ b) ∙ ap (λ q. q && true) (ap t same ∙ a) in
    position-cons (λ z. t z && u z) y ys
    ∙ ap (λ q. if q then Some 0 else option_map suc (position (λ z. t z && u z) ys)) both
position_and t u (y ∷ ys) (suc k) x e a b f = position-cons (λ z. t z && u z) y ys
    ∙ by (t y) (u y) (position u ys) (position (λ z. t z && u z) ys) (sym (position-cons u y ys) ∙ f)
    (position_and t u ys k x e a b)
  where
    by : (p q : Bool) (o r : Option ℕ) → (if q then Some 0 else option_map suc o) ≡ Some (suc k)
        → (o ≡ Some k → r ≡ Some k) → (if p && q then Some 0 else option_map suc r) ≡ Some (suc k)
    by p true o r g rest = absurd (cc)
    by p false None r g rest = absurd (cc)
    by true false (Some j) r g rest = let same : j ≡ k = cc in ap (option_map suc) (rest (ap Some same))
    by false false (Some j) r g rest = let same : j ≡ k = cc in ap (option_map suc) (rest (ap Some same))

-- it stands behind no other of its name and descriptor
is_once : (ms : List Member) (i : ℕ) (m : Member) (a b : List ℕ) → m.name ≡ a → m.desc ≡ b
    → is_twice ms i m.name m.desc ≡ false → is_earlier (position (λ (q : Member). is_called a b q) ms) i ≡ false
unfolding is_twice
is_once ms i m a b g j once = ap (λ y. is_earlier (position (λ (q : Member). is_called y b q) ms) i) (sym g)
    ∙ ap (λ y. is_earlier (position (λ (q : Member). is_called m.name y q) ms) i) (sym j) ∙ once

-- ---- a method that a class declares, in the world of a package

module _ (p : Package) (acyclic : IsAcyclic (world p)) (id : MemberId) (c : Class)
    (known : class_named (world p) id.class ≡ Some c) (f : Found)
    (own : own_method false id.name id.desc c ≡ Some f) where
  abbrev w : List Class
  w = world p

  pub o : Own w false id.name id.desc c f
  o = own_is w false id.name id.desc c f own

  pub found_here : find_method w id.class id.name id.desc ≡ Some f
  unfolding first line
  found_here =
      let own_at = own_method false id.name id.desc in
      find_first w id.class id.name id.desc f (ap (λ k. first own_at (upwards k)) (supertypes-known w acyclic id.class c
      known) ∙ ap (λ q. or_else q (first own_at (upwards (supertypes w c.supers) ++ []))) own)

  abbrev pub hit_of : ResolvedMember
  hit_of = let m = o in let k = m.method in record { owner = c; flags = k.flags }

  pub hit_here : method_hit w f ≡ Some hit_of
  hit_here = ap (method_hit w) o.is ∙ hit_is w c o.place o.method (at-number p.files id.class c known) o.there

-- ---- a method at a place of a class file of a package

module _ (list : List ℕ) (p : Package) (sound : IsSound list p.files)
    (begins : BeginsAtOffsets p.files (world p) (naming p) (method_offset p) (place p)) (n : ℕ) (t : ClassTree)
    (file : (let files = p.files in slice_get files.classes n ≡ Some t))
    (known : class_named (world p) t.name ≡ Some (declared n t)) (i : ℕ) (member : Member)
    (there : slice_get (declared n t).methods i ≡ Some member) where
  abbrev at_it : Found
  at_it = member_at (declared n t) (length (declared n t).fields + i)

  pub tree : (m : MethodTree) × (slice_get t.methods i ≡ Some m) × (method_of_class m ≡ member)
  tree = mapped_at method_of_class t.methods i member there

  abbrev pub method_of : Method
  method_of = let m = tree.0 in method_by t m m.code

  pub method_here : method_at p.files at_it ≡ Some method_of
  method_here = method_is p.files n t i tree.0 file tree.1

  pub begins_here : is_interface t.flags ≡ false → is_initialiser member.name ≡ false
      → (let v = naming p in start_of v.loaded v.part (method_offset p at_it)
      ≡ Some (let m = method_of in start_on_card v m.is_abstract (place p m)))
  begins_here kind plain =
      let info = has_info list p sound (declared n t) (has_named (world p) t.name (declared n t) known) refl in
      begins at_it method_of (stands_in_method (world p) info.number (declared n t) info.ordered kind refl i member
      there plain) method_here

module _ (list : List ℕ) (p : Package) (sound : IsSound list p.files) (acyclic : IsAcyclic (world p))
    (begins : BeginsAtOffsets p.files (world p) (naming p) (method_offset p) (place p)) (id : MemberId) where
  names_own : (n : ℕ) (t : ClassTree) → (let files = p.files in slice_get files.classes n ≡ Some t)
      → class_named (world p) id.class ≡ Some (declared n t) → (f : Found)
      → own_method false id.name id.desc (declared n t) ≡ Some f → is_interface t.flags ≡ false
      → is_initialiser id.name ≡ false → NamesOwnMethod p id
  names_own n t file known f own kind plain =
      let c = declared n t in
      let m = own_is (world p) false id.name id.desc c f own in
      let name : t.name ≡ id.class = class_named-name (world p) id.class c known in
      let its = ap (class_named (world p)) name ∙ known in
      record {
        number = n;
        class = t;
        file = file;
        known = known;
        found = f;
        own = own;
        is_found = found_here p acyclic id c known f own;
        hit = hit_of p acyclic id c known f own;
        is_hit = hit_here p acyclic id c known f own;
        method = method_of list p sound begins n t file its m.place m.method m.there;
        there = ap (method_at p.files) m.is ∙ method_here list p sound begins n t file its m.place m.method m.there;
        begins = (let v = naming p in ap (λ g. start_of v.loaded v.part (method_offset p g)) m.is) ∙ begins_here list p
            sound begins n t file its m.place m.method m.there kind (ap is_initialiser m.name_is ∙ plain);
      }

  -- by the class that declares it
  pub own_method_is_named : (d : Class) (f : Found) → class_named (world p) id.class ≡ Some d → d.is_imported ≡ false
      → is_interface d.flags ≡ false → is_initialiser id.name ≡ false → own_method false id.name id.desc d ≡ Some f
      → NamesOwnMethod p id
  own_method_is_named d f known mine kind plain own = by (filed p.files id.class d known) known mine kind own
    where
      by : {d : Class} → IsFiled p.files d → class_named (world p) id.class ≡ Some d → d.is_imported ≡ false
          → is_interface d.flags ≡ false → own_method false id.name id.desc d ≡ Some f → NamesOwnMethod p id
      by (in_class_file n t file) e g k own = names_own n t file e f own k plain
      by (in_export_file n x file) e g k own = absurd (cc)

-- ---- a static method of an imported class

module _ (packages : List Package) (linked : AreLinked packages) (p : Package) (acyclic : IsAcyclic (world p))
    (id : MemberId) (c : Class) (known : class_named (world p) id.class ≡ Some c) (h : HasEntry p c) (f : Found)
    (own : own_method false id.name id.desc c ≡ Some f) where
  -- of a class from outside, by the entry that its token means
  pub names_outside : is_of_group (files_together packages) (let t = h.tree in t.name) ≡ false → (m : ExportMethod)
      → (let e = h.entry in unbound_of e.methods (member_token p (Some f)) ≡ Some m) → m.name ≡ id.name
      → m.desc ≡ id.desc → NamesOutsideMethod packages p id
  names_outside outside m listed name desc = record {
    class = c;
    known = known;
    entry = h;
    outside = outside;
    found = f;
    own = own;
    is_found = found_here p acyclic id c known f own;
    hit = hit_of p acyclic id c known f own;
    is_hit = hit_here p acyclic id c known f own;
    method = m;
    listed = listed;
    name_is = name;
    desc_is = desc;
  }

  -- of a class of another package of the group, by the public or protected method that the class declares, which
  -- Export has under the token
  shared_at : (r : ℕ) (e : Package) → slice_get packages r ≡ Some e → h.tree ≡ export_of e
      → BeginsAtOffsets e.files (world e) (naming e) (method_offset e) (place e) → (d : Class)
      → (let x = h.entry in slice_get (exported_classes e) x.token ≡ Some d) → (let x = h.entry in export_class e d ≡ x)
      → is_interface d.flags ≡ false → (i : ℕ) (member : Member) → slice_get d.methods i ≡ Some member
      → is_exposed member.flags ≡ true → slice_get (open_methods d (length d.fields) d.methods)
      (member_token p (Some f)) ≡ Some (member_at d (length d.fields + i)) → member.name ≡ id.name
      → member.desc ≡ id.desc → is_initialiser id.name ≡ false → ((hit : ResolvedMember)
      → method_hit (world p) f ≡ Some hit → hit.flags ≡ member.flags) → NamesSharedMethod packages p id
  shared_at r e there written begins d at is kind i member in_it shown listed name desc plain flags =
      shared own_c.number own_c.tree own_c.is_tree own_c.is
    where
      x : ExportClass
      x = h.entry

      own_c : IsOwnClass e d
      own_c = own_class e (let y = h.entry in y.token) d at

      Shares : Class → Type 0
      Shares d = (slice_get (exported_classes e) (let y = h.entry in y.token) ≡ Some d) × (d.name ≡ id.class)
          × (is_interface d.flags ≡ false) × (slice_get d.methods i ≡ Some member)
          × (slice_get (open_methods d (length d.fields) d.methods) (member_token p (Some f))
          ≡ Some (member_at d (length d.fields + i)))

      class_name : d.name ≡ id.class
      class_name = ap (λ (y : ExportClass). y.name) is ∙ sym (ap (λ (y : Class). y.name) h.class)
          ∙ class_named-name (world p) id.class c known

      shared : (n : ℕ) (t : ClassTree) → (let files = e.files in slice_get files.classes n ≡ Some t) → d ≡ declared n t
          → NamesSharedMethod packages p id
      shared n t file same =
          let s = subst Shares same (at, class_name, kind, in_it, listed) in
          let sound = sound_at packages linked r e there in
          let k = declared n t in
          let its = own_name sound.list e.files sound.sound k (own_in e.files (let v = sound.sound in v.classes)
          (let v = sound.sound in v.exports) n t file) in
          let keeps = kept sound.list e.files sound.sound k (has_named (world e) t.name k its) in
          let called : is_called id.name id.desc member ≡ true =
          ap (λ y. bytes_eq y id.name && bytes_eq member.desc id.desc) name
          ∙ ap (λ b. b && bytes_eq member.desc id.desc) (bytes_same id.name) ∙ ap (λ y. bytes_eq y id.desc) desc
          ∙ bytes_same id.desc in
          let once : position (λ (q : Member). is_called id.name id.desc q) k.methods ≡ Some i =
          first_here (λ (q : Member). is_called id.name id.desc q) k.methods i member s.3 called
          (is_once k.methods i member id.name id.desc name desc (keeps.methods i member s.3)) in
          record {
            class = c;
            known = known;
            entry = h;
            part = r;
            exporter = e;
            there = there;
            written = written;
            found = f;
            is_found = found_here p acyclic id c known f own;
            hit = hit_of p acyclic id c known f own;
            is_hit = hit_here p acyclic id c known f own;
            owner = refl;
            number = n;
            tree = t;
            file = file;
            name = s.1;
            met = member_at k (length k.fields + i);
            exposed = ap (option_map (λ j. member_at k (length k.fields + j))) (position_and (λ (q : Member). is_exposed
                q.flags) (λ (q : Member). is_called id.name id.desc q) k.methods i member s.3 shown called once);
            met_hit = record { owner = k; flags = member.flags };
            is_met_hit = hit_is (world e) k i member (at-number e.files t.name k its) s.3;
            same_flags = flags (hit_of p acyclic id c known f own) (hit_here p acyclic id c known f own);
            method = method_of sound.list e sound.sound begins n t file its i member s.3;
            is_method = method_here sound.list e sound.sound begins n t file its i member s.3;
            listed = ap (option_and_then (λ (v : ExportedClass). slice_get v.methods (member_token p (Some f))))
                (in_export e (let y = h.entry in y.token) ∙ ap (option_map (exported_class e)) s.0)
                ∙ slice_get-map (method_offset e) (open_methods k (length k.fields) k.methods) (member_token p (Some f))
                ∙ ap (option_map (method_offset e)) s.4;
            begins = begins_here sound.list e sound.sound begins n t file its i member s.3 s.2 (ap is_initialiser name
                ∙ plain);
          }

  pub names_shared : (r : ℕ) (e : Package) → slice_get packages r ≡ Some e → h.tree ≡ export_of e
      → BeginsAtOffsets e.files (world e) (naming e) (method_offset e) (place e) → ExportsMethod p e h.entry id f
      → is_initialiser id.name ≡ false → NamesSharedMethod packages p id
  names_shared r e there written begins x plain = shared_at r e there written begins x.class x.exported x.is
      x.no_interface x.place x.member x.there x.shown x.by_token x.name_is x.desc_is plain
      x.same_flags
