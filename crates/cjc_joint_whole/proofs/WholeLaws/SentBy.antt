-- What the token of a method sends on objects of the classes at and below one, where selection by name for the method
-- goes past package-visible ones, or past the classes of other packages.
use Rattle.std.proofs.Common.{◌≡◌, ℕ, ◌+◌, sym, ap, subst, ◌∙◌, true, false, List, Option, Some}
use Rattle.std.specs.Prelude.{option_and_then, slice_get, if◌then◌else◌}
use Rattle.cjc_bytes.specs.AccessFlags.{is_interface}
use Rattle.cjc_bytes.specs.declared.fault.MemberId.{MemberId}
use Rattle.cjc_components.specs.Package.{Package, world}
use Rattle.cjc_joint_proof.specs.JointCalled.{StandByPackage}
use Rattle.cjc_joint_proof.specs.JointPackages.{files_together}
use Rattle.cjc_joint_proof.specs.JointTables.{world_together}
use Rattle.cjc_joint_proof.specs.Loading.{AllLead, group_of, member_of}
use Rattle.cjc_joint_proof.specs.Worlds.{before}
use Rattle.cjc_joint_theorem.proofs.OrderedLaws.Ordered.{ordered}
use Rattle.cjc_jvm_semantics.specs.Group.{is_open, is_package_visible, joint, own_where, own_within, package_of}
use Rattle.cjc_jvm_semantics.specs.Group.{selection_for}
use Rattle.cjc_jvm_semantics.specs.Linked.{Method}
use Rattle.cjc_jvm_semantics.specs.OnePackage.{ResolvedMember, is_initialiser, method_at}
use Rattle.cjc_token_proof.proofs.WorldProofTypes.{receiver_class}
use Rattle.cjc_token_proof.proofs.WrittenCalls.Held.{FormsLaw, OffsetsLaw}
use Rattle.cjc_token_proof.specs.Calls.Selecting.{signature}
use Rattle.cjc_token_proof.specs.CardSemantics.Machine.Dispatch.{Hidden, Open}
use Rattle.cjc_token_proof.specs.NCode.Lowering.Placed.{Placed}
use Rattle.cjc_tokens.specs.Lines.{line_of}
use Rattle.cjc_tokens.specs.Slots.{hidden_slots, slots, token}
use Rattle.cjc_vtable.specs.Calls.{finds_hidden, is_special}
use Rattle.cjc_world.proofs.Cycles.{class_named-name}
use Rattle.cjc_world.proofs.UpwardLaws.Lines.{first_has, first_some, in_line, line_on, of_line, on_line}
use Rattle.cjc_world.specs.ClassFile.declared.tree.ClassTree.{ClassTree}
use Rattle.cjc_world.specs.Classes.{Class, class_named, declared}
use Rattle.cjc_world.specs.Files.{Files}
use Rattle.cjc_world.specs.Lookup.{first, receiver}
use Rattle.cjc_world.specs.Supertypes.{line}
use Rattle.cjc_world.specs.Upwards.{IsOrdered, OnLine}
use Rattle.cjc_world.specs.declared.found.Found.{Found}
use Rattle.cjc_joint_whole.specs.Selected.{OutsideClassesAgree, SelectTogether}
use Rattle.cjc_joint_whole.specs.Sent.{TokenSends, begun}
use Rattle.cjc_joint_whole.proofs.WholeLaws.FixedNamed.{AloneLaws}
use Rattle.cjc_joint_whole.proofs.WholeLaws.HiddenCalls.{no_array}
use Rattle.cjc_joint_whole.proofs.WholeLaws.SentDispatched.{hidden_sends, open_sends}
use Rattle.cjc_joint_whole.proofs.WholeLaws.TokenMeans.{ImportsAreExposed}

module _ (forms : FormsLaw) (offsets : OffsetsLaw) (packages : List Package) (is : SelectTogether packages)
    (each : (q : ℕ) (p : Package) → slice_get packages q ≡ Some p → AloneLaws p) (at : Method → Placed)
    (stand : StandByPackage packages at) where
  abbrev group : List Files
  group = files_together packages

  abbrev w : List Class
  w = world_together packages

  order : IsOrdered w
  order = ordered group is.ordered

  -- ---- what selection gives

  itself : (x : List ℕ) (c : Class) → class_named w x ≡ Some c → receiver x ≡ x
  itself x c named = receiver_class x (no_array forms offsets packages is each at stand x c named)

  open_chosen : (x : List ℕ) (c : Class) → class_named w x ≡ Some c → (id : MemberId) (hit : ResolvedMember)
      → is_package_visible hit.flags ≡ false → selection_for w hit x id
      ≡ first (own_where is_open id.name id.desc) (line w x)
  open_chosen x c named id hit seen =
      ap (λ b. if b then first (own_within (package_of (let o = hit.owner in o.name)) id.name id.desc) (line w (receiver
      x)) else first (own_where is_open id.name id.desc) (line w (receiver x))) seen
      ∙ ap (λ z. first (own_where is_open id.name id.desc) (line w z)) (itself x c named)

  hidden_chosen : (x : List ℕ) (c : Class) → class_named w x ≡ Some c → (id : MemberId) (hit : ResolvedMember)
      (home : List ℕ) → is_package_visible hit.flags ≡ true → package_of (let o = hit.owner in o.name) ≡ home
      → selection_for w hit x id ≡ first (own_within home id.name id.desc) (line w x)
  hidden_chosen x c named id hit home visible its =
      ap (λ b. if b then first (own_within (package_of (let o = hit.owner in o.name)) id.name id.desc) (line w (receiver
      x)) else first (own_where is_open id.name id.desc) (line w (receiver x))) visible
      ∙ ap (λ h. first (own_within h id.name id.desc) (line w (receiver x))) its
      ∙ ap (λ z. first (own_within home id.name id.desc) (line w z)) (itself x c named)

  -- what is found from a class is found from those below it
  found_below : (own : Class → Option Found) (x y : List ℕ) (k : Class) → class_named w y ≡ Some k → OnLine w x k
      → (f : Found) → first own (line w y) ≡ Some f → (g : Found) × (first own (line w x) ≡ Some g)
  found_below own x y k named on f e =
      let h = first_has own (line w y) f e in
      let b = h.0 in
      let there = of_line w order.acyclic y b h.1 in
      let far = line_on w x k b on (subst (λ z. OnLine w z b) (sym (class_named-name w y k named)) there) in
      first_some own (line w x) b f (in_line w order.acyclic x b far) h.2

  -- ---- by the token of a package-visible method of a class file

  pub package_sends : (home : ℕ) (p : Package) → slice_get packages home ≡ Some p → (id : MemberId)
      → is_initialiser id.name ≡ false → (y : List ℕ) (n : ℕ) (t : ClassTree)
      → (let f = p.files in slice_get f.classes n ≡ Some t) → class_named (world p) y ≡ Some (declared n t)
      → is_interface t.flags ≡ false → finds_hidden (line_of (world p) y) (signature id) ≡ true → (number : ℕ)
      → token (hidden_slots (line_of (world p) y)) (signature id) ≡ Some number
      → class_named w y ≡ Some (declared (before group home + n) t) → (hit : ResolvedMember)
      → is_package_visible hit.flags ≡ true
      → package_of (let o = hit.owner in o.name) ≡ (let f = p.files in f.package_name)
      → TokenSends packages at y id hit (Hidden home number)
  package_sends home p it id ordinary y n t file known plain hidden number its named hit visible mine x c named_x
      plain_x below =
      let on = on_line w order x y c (declared (before group home + n) t) below named_x plain_x named plain in
      hidden_sends forms offsets packages is each at stand home p it id ordinary y n t file known plain hidden number
      its x c named_x plain_x on
      ∙ sym (ap (λ o. begun packages at (option_and_then (method_at (joint group)) o)) (hidden_chosen x c named_x id hit
      (let f = p.files in f.package_name) visible mine))

  -- ---- by the token of a public or protected method of a class that a package knows

  module _ (exposed : (q : ℕ) (p : Package) → slice_get packages q ≡ Some p → ImportsAreExposed p)
      (outside : OutsideClassesAgree packages)
      (leads : (q : ℕ) (p : Package) → slice_get packages q ≡ Some p → AllLead (group_of packages) (member_of p)) where
    pub shown_sends : (q : ℕ) (p : Package) → slice_get packages q ≡ Some p → (id : MemberId)
        → is_special (signature id) ≡ false → (y : List ℕ) (d k : Class) → class_named (world p) y ≡ Some d
        → is_interface d.flags ≡ false → class_named w y ≡ Some k → is_interface k.flags ≡ false → (t : ℕ)
        → token (slots (line_of (world p) y)) (signature id) ≡ Some t → (f : Found)
        → first (own_where is_open id.name id.desc) (line w y) ≡ Some f → (hit : ResolvedMember)
        → is_package_visible hit.flags ≡ false → TokenSends packages at y id hit (Open t)
    shown_sends q p it id ordinary y d k known plain named ground t its f found hit seen x c named_x plain_x below =
        let on = on_line w order x y c k below named_x plain_x named ground in
        let g = found_below (own_where is_open id.name id.desc) x y k named on f found in
        open_sends forms offsets packages is each at stand exposed outside leads q p it id ordinary y d k known plain
        named ground t its x c named_x plain_x below g.0 g.1
        ∙ sym (ap (λ o. begun packages at (option_and_then (method_at (joint group)) o)) (open_chosen x c named_x id hit
        seen ∙ g.1))
