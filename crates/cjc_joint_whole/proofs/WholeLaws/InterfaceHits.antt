-- A method of an interface that a package calls is public or protected where the joint world has it: of the interface,
-- of one above it, or of java/lang/Object.
use Rattle.std.proofs.Common.{◌≡◌, ℕ, ◌+◌, refl, sym, ap, subst, ◌∙◌, true, false, List, Option, Some, None}
use Rattle.std.proofs.Common.{inl, inr, ⊎_elim}
use Rattle.std.specs.Prelude.{◌&&◌, ◌⊎◌, not, option_and_then, slice_get, if◌then◌else◌}
use Rattle.cjc_bytes.specs.AccessFlags.{is_interface}
use Rattle.cjc_bytes.specs.declared.fault.MemberId.{MemberId}
use Rattle.cjc_components.specs.Package.{Package, world}
use Rattle.cjc_joint_proof.specs.JointNames.{hit_for}
use Rattle.cjc_joint_proof.specs.JointPackages.{files_together}
use Rattle.cjc_joint_proof.specs.JointTables.{world_together}
use Rattle.cjc_joint_proof.specs.Worlds.{before}
use Rattle.cjc_joint_proof.proofs.ClassLaws.{together_at}
use Rattle.cjc_joint_theorem.specs.Ordered.{AreOrdered}
use Rattle.cjc_joint_theorem.proofs.OrderedLaws.Ordered.{ordered}
use Rattle.cjc_joint_theorem.proofs.OrderedLaws.Standing.{Stands, class_stands, from_outside, of_member, own_class}
use Rattle.cjc_jvm_semantics.specs.Group.{find_exposed, is_exposed, is_package_visible, joint}
use Rattle.cjc_jvm_semantics.specs.Group.{joint_method}
use Rattle.cjc_jvm_semantics.specs.OnePackage.{ResolvedMember, is_initialiser, method_hit}
use Rattle.cjc_theorem.proofs.AlikeLaws.VirtualCalls.MethodKinds.{in_get}
use Rattle.cjc_token_proof.proofs.WrittenCalls.Facts.{Facts}
use Rattle.cjc_token_proof.specs.Calls.Selecting.{signature}
use Rattle.cjc_token_proof.specs.Narrow.Rows.Resolved.{method_found}
use Rattle.cjc_tokens.proofs.Facts.{chosen-In, chosen-passes}
use Rattle.cjc_tokens.specs.Members.{Signature}
use Rattle.cjc_vtable.proofs.Filed.{at-number}
use Rattle.cjc_vtable.specs.Calls.{any_method, is_special}
use Rattle.cjc_world.proofs.UpwardLaws.Lines.{method_found_above}
use Rattle.cjc_world.specs.Classes.{Class, class_named, declared, imported}
use Rattle.cjc_world.specs.Files.{Files}
use Rattle.cjc_world.specs.Lookup.{is_selectable, object, own_method}
use Rattle.cjc_world.specs.Upwards.{IsOrdered, OnLine, here, up}
use Rattle.cjc_world.specs.declared.found.Found.{Found}
use Rattle.cjc_joint_whole.specs.Selected.{NamesVirtual, SelectTogether}
use Rattle.cjc_joint_whole.proofs.WholeLaws.OpenFinds.{special_parts, virtual_by}
use Rattle.cjc_joint_whole.proofs.WholeLaws.OpenHits.{exposed_hit, first_flags, same_first, seen_so}
use Rattle.cjc_joint_whole.proofs.WholeLaws.StandingInterfaces.{top_alone}
use Rattle.cjc_joint_whole.proofs.WholeLaws.TokenMeans.{ImportsAreExposed}

same_one : {c d : Class} → Some c ≡ Some d → c ≡ d
same_one e = cc

module _ (packages : List Package) (is : SelectTogether packages) (facts : (q : ℕ) (p : Package)
    → slice_get packages q ≡ Some p → Facts p) (exposed : (q : ℕ) (p : Package) → slice_get packages q ≡ Some p
    → ImportsAreExposed p) where
  abbrev group : List Files
  group = files_together packages

  abbrev w : List Class
  w = world_together packages

  all : AreOrdered group
  all = is.ordered

  order : IsOrdered w
  order = ordered group all

  module _ (q : ℕ) (p : Package) (it : slice_get packages q ≡ Some p) (m : MemberId) (i : Class)
      (known : class_named (world p) m.class ≡ Some i) (face : is_interface i.flags ≡ true)
      (n : NamesVirtual (world p) m) where
    abbrev v : List Class
    v = world p

    its : Facts p
    its = facts q p it

    its_order : IsOrdered v
    its_order = all.each q p.files (together_at packages is.linked q p it)

    -- the class or interface that declares it
    record Declares : Type 0 where
      class : Class
      named : class_named v class.name ≡ Some class
      own : own_method false m.name m.desc class ≡ Some n.place
      owner : (let h = n.hit in h.owner) ≡ class
      seen_one : is_exposed (let h = n.hit in h.flags) ≡ true

    -- on the line of an interface stand it and java/lang/Object
    on_its_line : (x : List ℕ) (k : Class) → x ≡ m.class → OnLine v x k
        → (is_interface k.flags ≡ true) ⊎ (class_named v object ≡ Some k)
    on_its_line x k same (here e) =
        let one : k ≡ i = same_one (sym e ∙ ap (class_named v) same ∙ known) in
        inl (ap (λ (c : Class). is_interface c.flags) one ∙ face)
    on_its_line x k same (up {s = s} b e l rest) =
        let one : b ≡ i = same_one (sym e ∙ ap (class_named v) same ∙ known) in
        let o = its_order in
        let is_top : s ≡ object = o.only_object x s b e (ap (λ (c : Class). is_interface c.flags) one ∙ face) l in
        inr (top_alone v o k (subst (λ y. OnLine v y k) is_top rest))

    declares : Declares
    declares =
        let a = method_found_above v its_order m.class m.name m.desc n.place n.found in
        of_class a.0 a.2 a.3 (⊎_elim (λ on. on_its_line m.class a.0 refl on) (λ kind. inl kind) a.4)
      where
        of_class : (k : Class) → class_named v k.name ≡ Some k → own_method false m.name m.desc k ≡ Some n.place
            → (is_interface k.flags ≡ true) ⊎ (class_named v object ≡ Some k) → Declares
        of_class k named own either =
            let f = its in
            let t = first_flags v (signature m) k n.place n.hit (f.placed k.name k named) own n.is_hit in
            let x = t.0 in
            let is_m = chosen-passes any_method (signature m) k.methods x t.1 in
            let place = in_get x k.methods (chosen-In any_method (signature m) k.methods x t.1) in
            record {
              class = k;
              named = named;
              own = own;
              owner = t.3;
              seen_one = ap is_exposed t.2 ∙ ⊎_elim
                  (λ kind. is.open_interfaces q place.0 p k.name k x it named kind place.1 (ap (λ (u : Signature).
                  is_initialiser u.name) is_m.0 ∙ special_parts m.name n.ordinary))
                  (λ top. let o = f.object_class in let same : o.0 ≡ k = same_one (sym o.1 ∙ top) in
                  exposed q p it k.name k place.0 x named (ap (λ (c : Class). c.is_imported) (sym same) ∙ o.2)
                  (ap (λ (c : Class). is_interface c.flags) (sym same) ∙ o.3) place.1 (virtual_by x (ap is_selectable
                  (sym t.2) ∙ n.selectable) (ap is_special is_m.0 ∙ n.ordinary))) either;
            }

    -- in the joint world it is none that is package-visible
    pub face_hit_seen : (h : ResolvedMember) → hit_for (joint group) w p.files m ≡ Some h
        → is_package_visible h.flags ≡ false
    face_hit_seen h found =
        let k = declares in
        let c = k.class in
        let hs = class_stands group all q p.files (together_at packages is.linked q p it) c.name c k.named in
        seen_so h.flags (there c hs.class hs.stands k.named hs.named k.own (sym (ap (option_and_then (method_hit w)) (ap
        (option_and_then (λ (y : ResolvedMember). let owner = y.owner in joint_method w owner m)) met
        ∙ ap (λ o. joint_method w o m) k.owner
        ∙ ap (option_and_then (λ (y : Class). if c.is_imported && not y.is_imported then find_exposed w c.name m
        else own_method false m.name m.desc y)) hs.named)) ∙ found))
      where
        met : method_found v m ≡ Some n.hit
        met = ap (option_and_then (method_hit v)) n.found ∙ n.is_hit

        hits : (o : Option Found) → option_and_then (method_hit w) o ≡ Some h → (f : Found) × (o ≡ Some f)
            × (method_hit w f ≡ Some h)
        hits None e = cc
        hits (Some f) e = (f, refl, e)

        there : (c y : Class) → Stands group q p.files c y → class_named v c.name ≡ Some c
            → class_named w c.name ≡ Some y → own_method false m.name m.desc c ≡ Some n.place
            → option_and_then (method_hit w) (if c.is_imported && not y.is_imported then find_exposed w c.name m
            else own_method false m.name m.desc y) ≡ Some h → is_exposed h.flags ≡ true
        there _ _ (own_class k t own) named together mine e =
            let c = declared k t in
            let y = declared (before group q + k) t in
            let r = hits (own_method false m.name m.desc y) e in
            ap is_exposed (same_first v w (signature m) c y n.place r.0 n.hit h ((let i = its in i.placed) c.name c
            named) (at-number (joint group) c.name y together) refl mine n.is_hit r.1 r.2) ∙ (let k = declares in
            k.seen_one)
        there _ _ (from_outside a b x at) named together mine e =
            let c = imported a x in
            let y = imported b x in
            let r = hits (own_method false m.name m.desc y) e in
            ap is_exposed (same_first v w (signature m) c y n.place r.0 n.hit h ((let i = its in i.placed) c.name c
            named) (at-number (joint group) c.name y together) refl mine n.is_hit r.1 r.2) ∙ (let k = declares in
            k.seen_one)
        there _ _ (of_member a x j k f t lt own name kind) named together mine e =
            let r = hits (find_exposed w x.name m) e in
            exposed_hit (joint group) order x.name m r.0 h r.1 r.2
