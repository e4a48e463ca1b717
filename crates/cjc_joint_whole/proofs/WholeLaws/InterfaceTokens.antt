-- A call of an interface's method on an object of a class file selects by token what selection by name gives, where
-- maps of interfaces give the tokens of their methods.
use Rattle.std.proofs.Common.{◌≡◌, ℕ, refl, sym, ap, subst, ◌∙◌, Bool, true, false, List, [], ◌∷◌, Some, inl}
use Rattle.std.proofs.Common.{inr, ⊎_elim}
use Rattle.std.specs.Prelude.{◌⊎◌, ◌==◌, slice_get, if◌then◌else◌}
use Rattle.cjc_bytes.specs.AccessFlags.{is_interface}
use Rattle.cjc_bytes.specs.declared.fault.MemberId.{MemberId}
use Rattle.cjc_components.specs.Package.{Package, world}
use Rattle.cjc_joint_proof.specs.JointPackages.{files_together}
use Rattle.cjc_joint_proof.specs.JointTables.{world_together}
use Rattle.cjc_joint_proof.specs.Loading.{AllLead, group_of, member_of}
use Rattle.cjc_joint_proof.proofs.ClassLaws.{together_at}
use Rattle.cjc_joint_proof.proofs.StandLaws.{stands_inside}
use Rattle.cjc_joint_theorem.proofs.OrderedLaws.Standing.{class_stands, same_kind}
use Rattle.cjc_jvm_semantics.specs.Group.{is_open, own_where, own_within, package_of, selection_for}
use Rattle.cjc_jvm_semantics.specs.OnePackage.{ResolvedMember}
use Rattle.cjc_token_proof.proofs.WrittenCalls.Facts.{Facts}
use Rattle.cjc_token_proof.proofs.WrittenCalls.Held.{FormsLaw, OffsetsLaw}
use Rattle.cjc_token_proof.proofs.WrittenSends.Operations.{call_named}
use Rattle.cjc_token_proof.specs.Calls.Selecting.{signature}
use Rattle.cjc_token_proof.specs.NCode.ByLabel.{OnInterface}
use Rattle.cjc_token_proof.specs.Script.Sorts.{Booleans, Bytes, Element, Ints, OfNumbers, Shape, Shorts, shape_name}
use Rattle.cjc_token_proof.specs.WrittenCalls.Calls.{IsNamed, Receives, numbers, on_interface, one_of, references}
use Rattle.cjc_world.specs.Classes.{Class, class_named, declared}
use Rattle.cjc_world.specs.Files.{Files}
use Rattle.cjc_world.specs.Lookup.{first, object, receiver}
use Rattle.cjc_world.specs.Supertypes.{line}
use Rattle.cjc_world.specs.declared.found.Found.{Found}
use Rattle.cjc_joint_whole.specs.Faces.{FacesSelect, MapsGiveTokens}
use Rattle.cjc_joint_whole.specs.Selected.{CallsFace, InterfacesSelectAlike, OutsideClassesAgree, SelectTogether}
use Rattle.cjc_joint_whole.specs.Selected.{SelectsAlike, face_selection}
use Rattle.cjc_joint_whole.proofs.WholeLaws.FixedNamed.{AloneLaws}
use Rattle.cjc_joint_whole.proofs.WholeLaws.InterfaceHits.{face_hit_seen}
use Rattle.cjc_joint_whole.proofs.WholeLaws.OpenFinds.{open_selections_agree}
use Rattle.cjc_joint_whole.proofs.WholeLaws.TokenMeans.{ImportsAreExposed}

-- a type's methods are those of its class, or of java/lang/Object
received : (x : List ℕ) → (receiver x ≡ object) ⊎ (receiver x ≡ x)
received [] = inr refl
received (b ∷ bs) = by (b == 91)
  where
    by : (t : Bool) → ((if t then object else b ∷ bs) ≡ object) ⊎ ((if t then object else b ∷ bs) ≡ b ∷ bs)
    by true = inl refl
    by false = inr refl

numbers_received : (element : Element) → receiver (shape_name (OfNumbers element)) ≡ object
numbers_received Booleans = refl
numbers_received Bytes = refl
numbers_received Shorts = refl
numbers_received Ints = refl

same_one : {c d : Class} → Some c ≡ Some d → c ≡ d
same_one e = cc

module _ (forms : FormsLaw) (offsets : OffsetsLaw) (packages : List Package) (is : SelectTogether packages)
    (each : (q : ℕ) (p : Package) → slice_get packages q ≡ Some p → AloneLaws p)
    (exposed : (q : ℕ) (p : Package) → slice_get packages q ≡ Some p → ImportsAreExposed p)
    (outside : OutsideClassesAgree packages)
    (leads : (q : ℕ) (p : Package) → slice_get packages q ≡ Some p → AllLead (group_of packages) (member_of p))
    (select : (q : ℕ) (p : Package) → slice_get packages q ≡ Some p → FacesSelect p) (maps : MapsGiveTokens packages)
  where
    abbrev group : List Files
    group = files_together packages

    abbrev w : List Class
    w = world_together packages

    facts : (q : ℕ) (p : Package) → slice_get packages q ≡ Some p → Facts p
    facts q p it = let a = each q p it in a.facts

    -- java/lang/Object is no interface
    plain_object : (q : ℕ) (p : Package) → slice_get packages q ≡ Some p → (c : Class) → class_named w object ≡ Some c
        → is_interface c.flags ≡ false
    plain_object q p it c named =
        let f = facts q p it in
        let o = f.object_class in
        let hs = class_stands group is.ordered q p.files (together_at packages is.linked q p it) object o.0 o.1 in
        ap (λ (d : Class). is_interface d.flags) (same_one (sym named ∙ hs.named))
        ∙ same_kind group q p.files o.0 hs.class hs.stands ∙ o.3

    -- nor is the class of a receiver
    plain_receiver : (q : ℕ) (p : Package) → slice_get packages q ≡ Some p → (kind : Shape (List ℕ))
        → Receives w (Some kind) → (c : Class) → class_named w (receiver (shape_name kind)) ≡ Some c
        → is_interface c.flags ≡ false
    plain_receiver q p it _ (numbers {element = element}) c named =
        plain_object q p it c (ap (class_named w) (sym (numbers_received element)) ∙ named)
    plain_receiver q p it _ references c named = plain_object q p it c named
    plain_receiver q p it _ (one_of {x = x} d known ground made) c named =
        ⊎_elim (λ top. plain_object q p it c (ap (class_named w) (sym top) ∙ named))
        (λ same. ap (λ (k : Class). is_interface k.flags) (same_one (sym named ∙ ap (class_named w) same ∙ known))
        ∙ ground) (received x)

    in_file : (q n : ℕ) (m : MemberId) (kind : Shape (List ℕ)) (c : Class) (hit : ResolvedMember) (f : Found)
        → CallsFace packages q n m kind c hit → c.is_imported ≡ false → selection_for w hit (shape_name kind) m ≡ Some f
        → SelectsAlike packages (receiver (shape_name kind)) (signature m) f (face_selection packages q n m (receiver
        (shape_name kind)))
    in_file q n m kind c hit f asked own chosen =
        let a = each q asked.asker asked.asks in
        let r = a.runs in
        by (call_named asked.asker r.named (OnInterface n m) asked.called).0
      where
        by : IsNamed (let p = asked.asker in world p) (OnInterface n m)
            → SelectsAlike packages (receiver (shape_name kind)) (signature m) f (face_selection packages q n m
            (receiver (shape_name kind)))
        by (on_interface i k known face plain placed) =
            let x = receiver (shape_name kind) in
            let p = asked.asker in
            let names = select q p asked.asks n m asked.called in
            let seen = face_hit_seen packages is facts exposed q p asked.asks m i known face names hit asked.is_hit in
            let found : first (own_where is_open m.name m.desc) (line w x) ≡ Some f = sym (ap (λ b. if b
            then first (own_within (package_of (let o = hit.owner in o.name)) m.name m.desc) (line w x)
            else first (own_where is_open m.name m.desc) (line w x)) seen) ∙ chosen in
            let s = stands_inside packages is.linked x c asked.class own in
            let d = declared s.place s.tree in
            let ground : is_interface d.flags ≡ false = ap (λ (k : Class). is_interface k.flags) (sym s.is)
            ∙ plain_receiver q p asked.asks kind asked.receives c asked.class in
            let o = open_selections_agree forms offsets packages is each exposed outside leads s.part s.«package» s.here
            x d s.there ground (signature m) names.ordinary f found in
            subst (SelectsAlike packages x (signature m) f) (sym (maps q n m kind c hit asked s.part s.«package» s.here d
            s.there refl ground o.its o.its_token)) o.alike

    -- so calls of interfaces select alike
    pub interfaces_select_alike : InterfacesSelectAlike packages
    interfaces_select_alike = record { in_file = in_file }
