-- What a script sends by a token of a class begins, on objects of each class below it, where the method begins that
-- selection by name gives there in the joint world.
use Rattle.std.proofs.Common.{◌≡◌, ℕ, ◌+◌, refl, sym, ap, subst, ◌∙◌, Bool, true, false, List, Option, Some, None}
use Rattle.std.proofs.Common.{length, ⊎_elim}
use Rattle.std.specs.Prelude.{option_and_then, option_map, slice_get, if◌then◌else◌}
use Rattle.cjc_bytes.specs.AccessFlags.{is_interface}
use Rattle.cjc_bytes.specs.declared.fault.MemberId.{MemberId}
use Rattle.cjc_components.specs.Package.{Package, world}
use Rattle.cjc_joint_proof.specs.JointAlike.{JointNaming, code_at, offset_at}
use Rattle.cjc_joint_proof.specs.JointCalled.{StandByPackage}
use Rattle.cjc_joint_proof.specs.JointNames.{reached_for, start_for}
use Rattle.cjc_joint_proof.specs.JointPackages.{class_together, files_together}
use Rattle.cjc_joint_proof.specs.JointTables.{world_together}
use Rattle.cjc_joint_proof.specs.JointTogether.{naming_together}
use Rattle.cjc_joint_proof.specs.JointTowers.{loaded_together}
use Rattle.cjc_joint_proof.specs.Loading.{AllLead, group_of, member_of}
use Rattle.cjc_joint_proof.specs.Worlds.{before, found_in}
use Rattle.cjc_joint_proof.proofs.ClassLaws.{together_at}
use Rattle.cjc_joint_proof.proofs.MemberLaws.{method_stays}
use Rattle.cjc_joint_proof.proofs.StandLaws.{Inside, stands}
use Rattle.cjc_joint_theorem.proofs.OrderedLaws.Ordered.{ordered}
use Rattle.cjc_jvm_semantics.specs.Group.{is_open, joint, own_where, own_within}
use Rattle.cjc_jvm_semantics.specs.Linked
use Rattle.cjc_jvm_semantics.specs.Linked.{Inside as InFile, Method}
use Rattle.cjc_jvm_semantics.specs.OnePackage.{first_imported, is_initialiser, method_at, method_in, of_class}
use Rattle.cjc_token_proof.proofs.WrittenCalls.Held.{FormsLaw, OffsetsLaw}
use Rattle.cjc_token_proof.specs.Calls.Reaching.{start_placed}
use Rattle.cjc_token_proof.specs.Calls.Selecting.{signature}
use Rattle.cjc_token_proof.specs.CardSemantics.Bytecode.Alike.{start_as}
use Rattle.cjc_token_proof.specs.CardSemantics.Bytecode.Machine.{Start, Within}
use Rattle.cjc_token_proof.specs.CardSemantics.Machine.Calls as card
use Rattle.cjc_token_proof.specs.CardSemantics.Machine.Dispatch.{At, NotFound, Open, Outward, Selection, dispatched_open}
use Rattle.cjc_token_proof.specs.CardSemantics.Machine.Dispatch.{Hidden, dispatched_hidden, tower}
use Rattle.cjc_token_proof.specs.CardSemantics.Machine.Loaded.{Loaded}
use Rattle.cjc_token_proof.specs.CardSemantics.Machine.Methods.{Code, start_of}
use Rattle.cjc_token_proof.specs.NCode.Lowering.Placed.{Placed}
use Rattle.cjc_tokens.specs.Lines.{line_of}
use Rattle.cjc_tokens.specs.Slots.{hidden_slots, slots, token}
use Rattle.cjc_vtable.specs.Calls.{finds_hidden, is_special}
use Rattle.cjc_world.proofs.UpwardLaws.Lines.{first_has, line_named, of_line, on_line}
use Rattle.cjc_world.specs.ClassFile.declared.tree.ClassTree.{ClassTree}
use Rattle.cjc_world.specs.Classes.{Class, class_named, declared}
use Rattle.cjc_world.specs.Files.{Files}
use Rattle.cjc_world.specs.Lookup.{first, member_at}
use Rattle.cjc_world.specs.Supertypes.{line}
use Rattle.cjc_world.specs.Upwards.{Below, IsOrdered, OnLine}
use Rattle.cjc_world.specs.declared.found.Found.{Found}
use Rattle.cjc_joint_whole.specs.Selected.{OutsideClassesAgree, SelectTogether, SelectsAlike, from_outside, in_package}
use Rattle.cjc_joint_whole.specs.Sent.{begun}
use Rattle.cjc_joint_whole.proofs.WholeLaws.Alike.{alike_reached}
use Rattle.cjc_joint_whole.proofs.WholeLaws.FixedNamed.{AloneLaws}
use Rattle.cjc_joint_whole.proofs.WholeLaws.HiddenCalls.{no_array}
use Rattle.cjc_joint_whole.proofs.WholeLaws.HiddenTokens.{hidden_alike, selects_hidden}
use Rattle.cjc_joint_whole.proofs.WholeLaws.OpenFinds.{open_selections_agree}
use Rattle.cjc_joint_whole.proofs.WholeLaws.Receiving.{known_by}
use Rattle.cjc_joint_whole.proofs.WholeLaws.SentKnown.{IsDeclared, by_flags, by_package}
use Rattle.cjc_joint_whole.proofs.WholeLaws.TokenMeans.{ImportsAreExposed}
use Rattle.cjc_joint_whole.proofs.WholeLaws.TokensDown.{tokens_go_down}

-- what is reached in the group begins there
begins_there : (l : Loaded) (sel : Selection) (s : Start Code) → card.reached_by l sel ≡ Within s
    → card.start_selected l sel ≡ Some s
begins_there l NotFound s e = cc
begins_there l (Outward id) s e = cc
begins_there l (At q offset) s e = by (start_of l q offset) e
  where
    by : (o : Option (Start Code)) → card.with_code o ≡ Within s → o ≡ Some s
    by None h = cc
    by (Some k) h = cc

module _ (forms : FormsLaw) (offsets : OffsetsLaw) (packages : List Package) (is : SelectTogether packages)
    (each : (q : ℕ) (p : Package) → slice_get packages q ≡ Some p → AloneLaws p) (at : Method → Placed)
    (stand : StandByPackage packages at) where
  abbrev l : Loaded
  l = loaded_together packages

  abbrev group : List Files
  group = files_together packages

  abbrev w : List Class
  w = world_together packages

  abbrev g : JointNaming
  g = naming_together packages

  order : IsOrdered w
  order = ordered group is.ordered

  -- a method that a class file declares, where it stands in the joint world
  method_there : (own : Class → Option Found) (name x : List ℕ) → ((d : Class) (f : Found) → own d ≡ Some f
      → IsDeclared name d f) → (f : Found) → first own (line w x) ≡ Some f → f.imported ≡ false → (m : Method)
      × (method_at (joint group) f ≡ Some m)
  method_there own name x declares f e mine =
      let h = first_has own (line w x) f e in
      let y = h.0 in
      let spot = declares y f h.2 in
      ⊎_elim (λ i. inside y spot i) (λ o. let far : true ≡ false = sym (ap (λ (c : Class). c.is_imported) o.is)
      ∙ sym (ap (λ (k : Found). k.imported) spot.is_at) ∙ mine in absurd (cc)) (stands packages is.linked y.name y
      (line_named w x y (of_line w order.acyclic x y h.1)))
    where
      inside : (y : Class) → IsDeclared name y f → Inside packages is.linked y.name y → (m : Method)
          × (method_at (joint group) f ≡ Some m)
      inside y spot i =
          let e = i.«package» in
          let d = declared i.place i.tree in
          let a = each i.part e i.here in
          let facts = a.facts in
          let k = facts.filed y.name d i.there refl spot.place spot.method (ap (λ (c : Class). slice_get c.methods
          spot.place) (sym i.is) ∙ spot.there) in (
            k.0,
            ap (method_at (joint group)) (spot.is_at ∙ ap (λ (c : Class). member_at c (length c.fields + spot.place))
                i.is)
                ∙ method_stays group i.part i.place e.files i.tree (record {
                  member = together_at packages is.linked i.part e i.here;
                  file = i.file;
                }) (length d.fields + spot.place)
                ∙ k.1,
          )

  -- what is selected alike begins alike
  pub begins_alike : (own : Class → Option Found) (x : List ℕ) (id : MemberId) → ((d : Class) (f : Found)
      → own d ≡ Some f → IsDeclared id.name d f) → (f : Found) → first own (line w x) ≡ Some f → (sel : Selection)
      → SelectsAlike packages x (signature id) f sel → card.start_selected l sel
      ≡ begun packages at (method_at (joint group) f)
  begins_alike own x id declares f e sel alike = by f.imported refl alike
    where
      by : (b : Bool) → f.imported ≡ b → SelectsAlike packages x (signature id) f sel → card.start_selected l sel
          ≡ begun packages at (method_at (joint group) f)
      by true far (from_outside import is_event) = ap (card.start_selected l) is_event
          ∙ sym (ap (λ b. begun packages at (if b then None else option_and_then (method_in f.member) (slice_get (let
          all = joint group in all.classes) f.class))) far)
      by true far (in_package r p h t there mine file same inside is_at) =
          let no : true ≡ false = sym far ∙ ap (λ (k : Found). k.imported) same ∙ mine in absurd (cc)
      by false mine alike =
          let m = method_there own id.name x declares f e mine in
          let start = start_for group (start_placed at) m.0 in
          begins_there l sel (start_as (code_at g) (offset_at g) start) (alike_reached forms offsets packages is.linked
          each at stand x id f sel alike (Within start)
          (ap (λ b. reached_for group (start_placed at) (if b then Some (Linked.Abroad (of_class (first_imported (line w
          x)) id)) else option_map InFile (method_at (joint group) f))) mine
          ∙ ap (λ o. reached_for group (start_placed at) (option_map InFile o)) m.1) tt)
          ∙ sym (ap (begun packages at) m.1)

  -- by the token of a package-visible method, that of the package alone
  pub hidden_sends : (home : ℕ) (p : Package) → slice_get packages home ≡ Some p → (id : MemberId)
      → is_initialiser id.name ≡ false → (y : List ℕ) (n : ℕ) (t : ClassTree)
      → (let f = p.files in slice_get f.classes n ≡ Some t) → class_named (world p) y ≡ Some (declared n t)
      → is_interface t.flags ≡ false → finds_hidden (line_of (world p) y) (signature id) ≡ true → (number : ℕ)
      → token (hidden_slots (line_of (world p) y)) (signature id) ≡ Some number → (x : List ℕ) (c : Class)
      → class_named w x ≡ Some c → is_interface c.flags ≡ false → OnLine w x (declared (before group home + n) t)
      → card.start_selected l (card.dispatched_on l (Some (class_together packages x)) (Hidden home number))
      ≡ begun packages at (option_and_then (method_at (joint group)) (first (own_within (let f = p.files
      in f.package_name) id.name id.desc) (line w x)))
  hidden_sends home p here_p id ordinary y n t file known_y plain_y hidden number its_token x c named_x plain_x on =
      let h = selects_hidden packages is each home p here_p y n t file known_y plain_y (signature id) hidden ordinary
      number its_token x c named_x plain_x on in
      let name = (let f = p.files in f.package_name) in
      let f = found_in (before group home) h.found in
      begins_alike (own_within name id.name id.desc) x id (by_package name id.name id.desc) f h.by_name
      (dispatched_hidden (tower l (class_together packages x)) home number) (hidden_alike packages home p here_p
      (signature id) number x h)
      ∙ sym (ap (λ o. begun packages at (option_and_then (method_at (joint group)) o)) h.by_name)

  -- by the token of a public or protected method of a class that a package knows
  module _ (exposed : (q : ℕ) (p : Package) → slice_get packages q ≡ Some p → ImportsAreExposed p)
      (outside : OutsideClassesAgree packages)
      (leads : (q : ℕ) (p : Package) → slice_get packages q ≡ Some p → AllLead (group_of packages) (member_of p)) where
    pub open_sends : (q : ℕ) (p : Package) → slice_get packages q ≡ Some p → (id : MemberId)
        → is_special (signature id) ≡ false → (y : List ℕ) (d k : Class) → class_named (world p) y ≡ Some d
        → is_interface d.flags ≡ false → class_named w y ≡ Some k → is_interface k.flags ≡ false → (t : ℕ)
        → token (slots (line_of (world p) y)) (signature id) ≡ Some t → (x : List ℕ) (c : Class)
        → class_named w x ≡ Some c → is_interface c.flags ≡ false → Below w x y → (f : Found)
        → first (own_where is_open id.name id.desc) (line w x) ≡ Some f
        → card.start_selected l (card.dispatched_on l (Some (class_together packages x)) (Open t))
        ≡ begun packages at (method_at (joint group) f)
    open_sends q p it id ordinary y d k known_d plain named_y ground t its_token x c named_x plain_x below f found =
        let facts = λ (q : ℕ) (p : Package) (it : slice_get packages q ≡ Some p). (let a = each q p it in a.facts) in
        let arrays = no_array forms offsets packages is each at stand in
        let s = known_by packages is.linked order arrays x c named_x plain_x in
        let on = on_line w order x y c k below named_x plain_x named_y ground in
        let its_number = tokens_go_down packages is facts exposed outside s.part s.«package» s.here x s.class s.named
        s.plain q p it y d k known_d plain named_y on (signature id) ordinary t its_token in
        let o = open_selections_agree forms offsets packages is each exposed outside leads s.part s.«package» s.here x
        s.class s.named s.plain (signature id) ordinary f found in
        let both : Some o.its ≡ Some t = sym o.its_token ∙ its_number in
        let same : o.its ≡ t = cc in
        begins_alike (own_where is_open id.name id.desc) x id (by_flags is_open id.name id.desc) f found
        (dispatched_open (tower l (class_together packages x)) t)
        (subst (λ i. SelectsAlike packages x (signature id) f (dispatched_open (tower l (class_together packages x)) i))
        same o.alike)
