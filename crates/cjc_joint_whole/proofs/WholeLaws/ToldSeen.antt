-- A public or protected method that can be selected and that a class of the joint world or a superclass of it has: the
-- world of each package that knows the class has one on its line, too.
use Rattle.std.proofs.Common.{◌≡◌, ◌<◌, ℕ, ◌+◌, refl, sym, ap, subst, ◌∙◌, false, true, List, Some}
use Rattle.std.specs.Prelude.{option_map, slice_get}
use Rattle.std.proofs.lemmas.Option.{slice_get-map}
use Rattle.cjc_bytes.specs.AccessFlags.{is_interface}
use Rattle.cjc_bytes.proofs.Bools.{true_not_false}
use Rattle.cjc_bytes.proofs.Gets.{mapped_at}
use Rattle.cjc_components.specs.Class.{is_shareable}
use Rattle.cjc_components.specs.ExportFile.{export_class}
use Rattle.cjc_components.specs.Exports.{exported_classes}
use Rattle.cjc_components.specs.Package.{world}
use Rattle.cjc_jvm_semantics.specs.Group.{is_open}
use Rattle.cjc_jvm_semantics.specs.OnePackage.{is_constructor}
use Rattle.cjc_world.specs.ClassFile.declared.tree.ClassTree.{ClassTree}
use Rattle.cjc_world.specs.Classes.{Class, Member as WorldMember, all_classes, class_named, declared, imported}
use Rattle.cjc_world.specs.Classes.{method_of_export}
use Rattle.cjc_world.specs.ExportFile.declared.tree.ExportClass.{ExportClass}
use Rattle.cjc_world.specs.ExportFile.declared.tree.ExportTree.{ExportTree}
use Rattle.cjc_world.specs.Files.{Files}
use Rattle.cjc_world.specs.Supertypes.{Lists, foremost}
use Rattle.cjc_world.specs.Upwards.{IsOrdered, OnLine, here, up}
use Rattle.cjc_world.proofs.Cycles.{class_named-name}
use Rattle.cjc_world.proofs.Settled.{lists-front}
use Rattle.cjc_world.proofs.UpwardLaws.Lines.{line_begins, line_below, line_named}
use Rattle.cjc_shape_proof.proofs.WritingLaws.Flags.{interface_kept}
use Rattle.cjc_joint_proof.specs.Worlds.{AreApart, before, outside_classes}
use Rattle.cjc_joint_proof.proofs.SoundLaws.{apart}
use Rattle.cjc_joint_proof.proofs.WorldLaws.{outside_is_found, own_is_found}
use Rattle.cjc_joint_theorem.specs.Members.{Member, files_of}
use Rattle.cjc_joint_theorem.specs.Together.Homes.{joint_world}
use Rattle.cjc_joint_theorem.proofs.MembersLaws.Worlds.{files_at}
use Rattle.cjc_joint_theorem.proofs.OrderedLaws.Ordered.{ordered}
use Rattle.cjc_joint_theorem.proofs.OrderedLaws.Standing.{Stands, class_stands}
use Rattle.cjc_joint_theorem.proofs.OrderedLaws.Standing as standing
use Rattle.cjc_joint_whole.specs.Told.{AboveIsKnown, HasOpenEntry, IsDeclaredAbove}
use Rattle.cjc_joint_whole.specs.Whole.{AreWholeWith, IsWrittenFor}
use Rattle.cjc_joint_whole.proofs.WholeLaws.AboveListed.{above_are_listed}
use Rattle.cjc_joint_whole.proofs.WholeLaws.Climbing.{climbing}
use Rattle.cjc_joint_whole.proofs.WholeLaws.Exposed.{named_here, own_here}
use Rattle.cjc_joint_whole.proofs.WholeLaws.Imports.{exported}
use Rattle.cjc_joint_whole.proofs.WholeLaws.Members.{ordered_together}
use Rattle.cjc_joint_whole.proofs.WholeLaws.Nearest.{only}
use Rattle.cjc_joint_whole.proofs.WholeLaws.OwnKept.{IsKeptBy, kept_at}

-- A class of a line declares a public or protected method of this name and descriptor that can be selected.
pub record SeenOn (v : List Class) (x name desc : List ℕ) : Type 0 where
  pub class : Class
  pub on : OnLine v x class
  pub place : ℕ
  pub method : WorldMember
  pub is_method : slice_get class.methods place ≡ Some method
  pub has_name : method.name ≡ name
  pub has_desc : method.desc ≡ desc
  pub opened : is_open method.flags ≡ true

same_class : {c d : Class} → Some c ≡ Some d → c ≡ d
same_class e = cc

module _ {K : _} (members : List Member) (is : AreWholeWith K members)
    (known : AboveIsKnown (files_of members)) (d : Class) (i : ℕ)
    (n : WorldMember) (there : slice_get d.methods i ≡ Some n) (open_one : is_open n.flags ≡ true)
    (ordinary : is_constructor n.name ≡ false) where
  abbrev group : List Files
  group = files_of members

  abbrev w : List Class
  w = joint_world group

  order : IsOrdered w
  order = ordered group (ordered_together members is)

  are_apart : AreApart group
  are_apart = apart group is.sound

  -- where a package has such a method above a class, it has it of a class
  lifted : (v : List Class) (x s : List ℕ) (c : Class) → class_named v x ≡ Some c → Lists s c.supers
      → SeenOn v s n.name n.desc → SeenOn v x n.name n.desc
  lifted v x s c named l r = record {
    class = r.class;
    on = up c named l r.on;
    place = r.place;
    method = r.method;
    is_method = r.is_method;
    has_name = r.has_name;
    has_desc = r.has_desc;
    opened = r.opened;
  }

  -- the class itself, as another world has it
  itself : (v : List Class) (x : List ℕ) (c b : Class) → class_named v x ≡ Some c → d ≡ b → c.methods ≡ b.methods
      → SeenOn v x n.name n.desc
  itself v x c b named one same = record {
    class = c;
    on = here named;
    place = i;
    method = n;
    is_method = ap (λ ms. slice_get ms i) same ∙ ap (λ (u : Class). slice_get u.methods i) (sym one) ∙ there;
    has_name = refl;
    has_desc = refl;
    opened = open_one;
  }

  -- ---- a class from outside

  module _ (q : ℕ) (p : Member) (at : slice_get members q ≡ Some p) where
    abbrev v : List Class
    v = all_classes p.files

    outside_here : (x : List ℕ) (c b : Class) → Stands group q p.files c b → class_named v x ≡ Some c → b.is_imported
        ≡ true → d ≡ b → SeenOn v x n.name n.desc
    outside_here x _ _ (standing.own_class k t own) named imp one = absurd cc
    outside_here x _ _ (standing.of_member m e j k g t less own name kind) named imp one = absurd cc
    outside_here x _ _ (standing.from_outside m k e kept) named imp one = itself v x (imported m e) (imported k e) named
        one refl

    outside_up : (x s : List ℕ) (c b : Class) → Stands group q p.files c b → class_named v x ≡ Some c → class_named w x
        ≡ Some b → b.is_imported ≡ true → Lists s b.supers → OnLine w s d → ((y : Class) → class_named v s ≡ Some y
        → (z : Class) → class_named w s ≡ Some z → z.is_imported ≡ true → SeenOn v s n.name n.desc)
        → SeenOn v x n.name n.desc
    outside_up x s _ _ (standing.own_class k t own) named met imp l rest more = absurd cc
    outside_up x s _ _ (standing.of_member m e j k g t less own name kind) named met imp l rest more = absurd cc
    outside_up x s _ _ (standing.from_outside m k e kept) named met imp l rest more =
        let name : e.name ≡ x = class_named-name v x (imported m e) named in
        let front = lists-front s e.supers e.interfaces l in
        let r = line_begins w s d rest in
        let k2 = known q k p.files e (imported m e) r.0 s (files_at members q p at) kept (ap (class_named v) name
        ∙ named) front r.1 in
        lifted v x s (imported m e) named l (more k2.0 k2.1 r.0 r.1 (order.abroad x s (imported k e) r.0 met refl front
        r.1))

    of_outside : (x : List ℕ) → OnLine w x d → (c : Class) → class_named v x ≡ Some c → (b : Class)
        → class_named w x ≡ Some b → b.is_imported ≡ true → SeenOn v x n.name n.desc
    of_outside x (here f) c named b met imp =
        let h = class_stands group (ordered_together members is) q p.files (files_at members q p at) x c named in
        let one = same_class (sym h.named ∙ met) in
        outside_here x c h.class h.stands named (ap (λ (u : Class). u.is_imported) one ∙ imp) (same_class (sym f
        ∙ h.named))
    of_outside x (up {s = s} a f l rest) c named b met imp =
        let h = class_stands group (ordered_together members is) q p.files (files_at members q p at) x c named in
        let one = same_class (sym h.named ∙ met) in
        outside_up x s c h.class h.stands named h.named (ap (λ (u : Class). u.is_imported) one ∙ imp)
        (subst (λ (u : Class). Lists s u.supers) (same_class (sym f ∙ h.named)) l) rest
        (λ y named_y z met_z imp_z. of_outside s rest y named_y z met_z imp_z)

  -- ---- any class

  abbrev Seen : ℕ → Member → List ℕ → Type 0
  Seen q p x = OnLine w x d → SeenOn (all_classes p.files) x n.name n.desc

  -- a class file of the package
  of_own : (q : ℕ) (p : Member) → slice_get members q ≡ Some p → (x : List ℕ) (k : ℕ) (t : ClassTree)
      → (let f = p.files in slice_get f.classes k ≡ Some t) → class_named (all_classes p.files) x ≡ Some (declared k t)
      → Seen q p t.superclass → Seen q p x
  of_own q p at x k t file named above on = by on
    where
      in_joint : class_named w x ≡ Some (declared (before group q + k) t)
      in_joint = ap (class_named w) (sym (class_named-name (all_classes p.files) x (declared k t) named))
          ∙ own_is_found group are_apart q k p.files t (own_here members is q p at k t file)

      by : OnLine w x d → SeenOn (all_classes p.files) x n.name n.desc
      by (here f) = itself (all_classes p.files) x (declared k t) (declared (before group q + k) t) named (same_class
          (sym f ∙ in_joint)) refl
      by (up {s = s} b f l rest) =
          let one : b ≡ declared (before group q + k) t = same_class (sym f ∙ in_joint) in
          let super = only s t.superclass (subst (λ (u : Class). Lists s u.supers) one l) in
          lifted (all_classes p.files) x t.superclass (declared k t) named foremost (above (subst (λ y. OnLine w y d)
          super rest))

  -- a class of a package before: what is written for that lists it
  of_shared : (q : ℕ) (p : Member) → slice_get members q ≡ Some p → (x : List ℕ) (m : ℕ) (e : ExportClass)
      → class_named (all_classes p.files) x ≡ Some (imported m e) → is_interface e.flags ≡ false → (j : ℕ) (g : Member)
      → j < q → slice_get members j ≡ Some g → (t : ExportTree) → IsWrittenFor g.files t → (k : ℕ)
      → slice_get t.classes k ≡ Some e → ((y : List ℕ) (c : Class) → class_named (all_classes g.files) y ≡ Some c
      → is_interface c.flags ≡ false → Seen j g y) → Seen q p x
  of_shared q p at x m e named ground j g less at_g t written k listed rest on =
      let f = exported g.files t written k e listed in
      let tree = f.class in
      let kinds = f.kind in
      let same_x : tree.name ≡ x = f.same_name ∙ class_named-name (all_classes p.files) x (imported m e) named in
      let a = rest tree.name (declared f.number tree) (named_here members is j g at_g f.number tree f.file)
      (kinds.interface ∙ ground) (subst (λ y. OnLine w y d) (sym same_x) on) in
      let c = a.class in
      let o = written.exporter in
      let r = mapped_at (export_class o) (exported_classes o) k e (sym (ap (λ (u : ExportTree). slice_get u.classes k)
      written.is) ∙ listed) in
      let b = r.0 in
      let kept = subst IsKeptBy (sym written.same_files) (kept_at members is j g at_g) in
      let from : IsDeclaredAbove (all_classes g.files) tree.name n.name n.desc = record {
        class = c;
        named = line_named (all_classes g.files) tree.name c a.on;
        below = line_below (all_classes g.files) tree.name c a.on;
        place = a.place;
        method = a.method;
        there = a.is_method;
        has_name = a.has_name;
        has_desc = a.has_desc;
        opened = a.opened;
      } in
      let name : tree.name ≡ b.name = f.same_name ∙ sym (ap (λ (u : ExportClass). u.name) r.2) in
      let moved : IsDeclaredAbove (world o) b.name n.name n.desc = subst (λ (u : Files). IsDeclaredAbove (all_classes u)
      b.name n.name n.desc) (sym written.same_files) (subst (λ y. IsDeclaredAbove (all_classes g.files) y n.name n.desc)
      name from) in
      let flat : is_interface b.flags ≡ false = sym (interface_kept b.flags (is_shareable (world o) b))
      ∙ ap (λ (u : ExportClass). is_interface u.flags) r.2 ∙ ground in
      let h = above_are_listed o kept k b n.name n.desc r.1 ordinary moved (λ it. absurd (true_not_false (is_interface
      b.flags) it flat)) in
      let y : HasOpenEntry e.methods n.name n.desc = subst (λ (u : ExportClass). HasOpenEntry u.methods n.name n.desc)
      r.2 h in
      record {
        class = imported m e;
        on = here named;
        place = y.place;
        method = method_of_export y.entry;
        is_method = slice_get-map method_of_export e.methods y.place ∙ ap (option_map method_of_export) y.there;
        has_name = y.has_name;
        has_desc = y.has_desc;
        opened = y.opened;
      }

  of_abroad : (q : ℕ) (p : Member) → slice_get members q ≡ Some p → (x : List ℕ) (m k : ℕ) (e : ExportClass)
      → class_named (all_classes p.files) x ≡ Some (imported m e) → slice_get (outside_classes group) k ≡ Some e
      → Seen q p x
  of_abroad q p at x m k e named kept on = of_outside q p at x on (imported m e) named (imported k e) (ap (class_named
      w) (sym (class_named-name (all_classes p.files) x (imported m e) named)) ∙ outside_is_found group are_apart
      is.outside k e kept) refl

  pub seen_on : (q : ℕ) (p : Member) → slice_get members q ≡ Some p → (x : List ℕ) (c : Class)
      → class_named (all_classes p.files) x ≡ Some c → is_interface c.flags ≡ false → OnLine w x d
      → SeenOn (all_classes p.files) x n.name n.desc
  seen_on q p at x c named ground = climbing members is Seen of_own of_shared of_abroad q p at x c named ground
