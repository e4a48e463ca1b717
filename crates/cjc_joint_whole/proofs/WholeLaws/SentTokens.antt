-- What scripts send in a group, where it is alike on objects of class files: to arrays and objects of classes from
-- outside nothing of a package is sent, and nothing by a class that is not known or not above that of the object.
use Rattle.std.proofs.Common.{◌≡◌, ℕ, refl, sym, ap, ◌∙◌, Bool, true, false, List, [], ◌∷◌, Option, Some, None}
use Rattle.std.proofs.Common.{⊎_elim, subst}
use Rattle.std.specs.Prelude.{is_some, option_and_then, slice_get, ◌&&◌, if◌then◌else◌}
use Rattle.cjc_bytes.specs.AccessFlags.{is_abstract, is_interface}
use Rattle.cjc_bytes.specs.declared.fault.MemberId.{MemberId}
use Rattle.cjc_components.specs.Package.{Package}
use Rattle.cjc_joint_proof.specs.JointAlike.{naming_at}
use Rattle.cjc_joint_proof.specs.JointCalled.{StandByPackage}
use Rattle.cjc_joint_proof.specs.JointPackages.{AreLinked, class_together, files_together}
use Rattle.cjc_joint_proof.specs.JointTables.{KeepSupers, world_together}
use Rattle.cjc_joint_proof.specs.JointTogether.{naming_together}
use Rattle.cjc_joint_proof.specs.JointTowers.{loaded_together}
use Rattle.cjc_joint_proof.proofs.ClassLaws.{together_at}
use Rattle.cjc_joint_proof.proofs.StandLaws.{none_named, stands, stands_outside}
use Rattle.cjc_joint_theorem.proofs.OrderedLaws.Ordered.{object_abroad, ordered}
use Rattle.cjc_joint_theorem.proofs.OrderedLaws.Standing.{class_stands}
use Rattle.cjc_jvm_semantics.specs.Group.{group_sent, is_open, is_package_visible, joint, own_where, own_within}
use Rattle.cjc_jvm_semantics.specs.Group.{package_of, selection_for}
use Rattle.cjc_jvm_semantics.specs.Linked.{Method}
use Rattle.cjc_jvm_semantics.specs.OnePackage.{ResolvedMember, is_sendable, method_at, method_hit, method_in}
use Rattle.cjc_token_proof.proofs.WorldProofTypes.{receiver_class, type_below}
use Rattle.cjc_token_proof.proofs.WrittenCalls.Held.{FormsLaw, OffsetsLaw}
use Rattle.cjc_token_proof.proofs.WrittenSends.Sent.{sent_nothing}
use Rattle.cjc_token_proof.specs.ByToken.Supers.{KindsAgree}
use Rattle.cjc_token_proof.specs.CardSemantics.Bytecode.Machine.{Start}
use Rattle.cjc_token_proof.specs.CardSemantics.Bytecode.Renaming.{shape_as}
use Rattle.cjc_token_proof.specs.CardSemantics.Machine.Calls as card
use Rattle.cjc_token_proof.specs.CardSemantics.Machine.Classes.{External, class_named as class_on_card, is_of}
use Rattle.cjc_token_proof.specs.CardSemantics.Machine.Classes.{object_class, shape_class}
use Rattle.cjc_token_proof.specs.CardSemantics.Machine.Classes as classes
use Rattle.cjc_token_proof.specs.CardSemantics.Machine.Loaded.{Loaded}
use Rattle.cjc_token_proof.specs.CardSemantics.Machine.Methods.{Code}
use Rattle.cjc_token_proof.specs.NCode.Lowering.Placed.{Placed}
use Rattle.cjc_token_proof.specs.Script.Sorts.{OfClass, OfNumbers, OfReferences, Shape}
use Rattle.cjc_token_proof.specs.Script.Sorts.{shape_name}
use Rattle.cjc_token_proof.specs.WrittenCalls.Calls.{Receives, numbers, one_of, references}
use Rattle.cjc_world.proofs.Settled.{AreSupertypes-one, supertypes-AreSupertypes}
use Rattle.cjc_world.proofs.UpwardLaws.Lines.{below_abroad, first_has, line_below, line_named, of_line}
use Rattle.cjc_world.specs.Classes.{Class, class_named}
use Rattle.cjc_world.specs.Files.{Files}
use Rattle.cjc_world.specs.Interfaces.{gathered, known}
use Rattle.cjc_world.specs.Lookup.{find_method, first, object, or_else, own_method, receiver}
use Rattle.cjc_world.specs.Subtype.{is_subtype}
use Rattle.cjc_world.specs.Supertypes.{End, Unknown, ends, line, supertypes, unknown_here, upwards}
use Rattle.cjc_world.specs.Upwards.{Below, IsOrdered}
use Rattle.cjc_world.specs.declared.found.Found.{Found}
use Rattle.cjc_joint_whole.specs.Selected.{SelectTogether}
use Rattle.cjc_joint_whole.specs.Sent.{ObjectsAreSentAlike, begun, sent_for, sent_of}
use Rattle.cjc_joint_whole.proofs.WholeLaws.FixedNamed.{AloneLaws}
use Rattle.cjc_joint_whole.proofs.WholeLaws.HiddenCalls.{no_array}
use Rattle.cjc_joint_whole.proofs.WholeLaws.SentKnown.{IsDeclared, by_flags, by_package, numbers_received}

-- types are by token what they are by name
abbrev pub KindsLaw : Type 0
KindsLaw = (packages : List Package) → AreLinked packages → KeepSupers packages → (first : Package)
    → slice_get packages 0 ≡ Some first → (q : ℕ)
    → KindsAgree (world_together packages) (naming_at (naming_together packages) q)

-- some package stands first
first_there : (packages : List Package) (q : ℕ) (p : Package) → slice_get packages q ≡ Some p → (first : Package)
    × (slice_get packages 0 ≡ Some first)
first_there [] q p e = cc
first_there (first ∷ packages) q p e = (first, refl)

and_false : (a : Bool) → (a && false) ≡ false
and_false true = refl
and_false false = refl

module _ (types : KindsLaw) (forms : FormsLaw) (offsets : OffsetsLaw) (packages : List Package)
    (is : SelectTogether packages) (each : (q : ℕ) (p : Package) → slice_get packages q ≡ Some p → AloneLaws p)
    (at : Method → Placed) (stand : StandByPackage packages at) where
  abbrev l : Loaded
  l = loaded_together packages

  abbrev group : List Files
  group = files_together packages

  abbrev w : List Class
  w = world_together packages

  abbrev on_card : List ℕ → classes.Class
  on_card = class_together packages

  order : IsOrdered w
  order = ordered group is.ordered

  -- ---- by name

  no_sub : (type : List ℕ) (id : MemberId) (o : Option Found) → sent_of packages at type id false o ≡ None
  no_sub type id None = refl
  no_sub type id (Some f) = by (method_hit w f)
    where
      by : (o : Option ResolvedMember) → option_and_then (sent_for packages at type id false) o ≡ None
      by None = refl
      by (Some hit) = ap (λ b. if b then option_and_then (method_at (joint group)) (selection_for w hit type id)
          else None) (and_false (is_sendable id hit))

  no_method : (type : List ℕ) (id : MemberId) (sub : Bool) (o : Option Found) → ((hit : ResolvedMember)
      → option_and_then (method_at (joint group)) (selection_for w hit type id) ≡ None)
      → sent_of packages at type id sub o ≡ None
  no_method type id sub None lacks = refl
  no_method type id sub (Some f) lacks = by (method_hit w f)
    where
      test : (hit : ResolvedMember) (b : Bool) → (if b then option_and_then (method_at (joint group)) (selection_for w
          hit type id) else None) ≡ None
      test hit true = lacks hit
      test hit false = refl

      by : (o : Option ResolvedMember) → option_and_then (sent_for packages at type id sub) o ≡ None
      by None = refl
      by (Some hit) = test hit (is_sendable id hit && sub)

  -- in no file nothing is found
  find_none : (y name desc : List ℕ) → class_named w y ≡ None → find_method w y name desc ≡ None
  unfolding find_method line gathered known first
  find_none y name desc nowhere =
      ap (λ k. or_else (first (own_method false name desc) (upwards k)) (first (own_method false name desc)
      (known (gathered false k))))
      (AreSupertypes-one w (y ∷ []) (supertypes w (y ∷ [])) (Unknown y End) (supertypes-AreSupertypes w
      order.acyclic (y ∷ [])) (unknown_here nowhere ends))

  -- ---- arrays and objects of classes from outside

  -- the class whose methods they have
  record Received (kind : Shape (List ℕ)) : Type 0 where
    name : List ℕ
    received : receiver (shape_name kind) ≡ name
    class : Class
    there : class_named w name ≡ Some class
    import : class.is_imported ≡ true
    its : shape_class l (shape_as on_card kind) ≡ Some (on_card name)

  module _ (kind : Shape (List ℕ)) (r : Received kind) (id : MemberId) where
    token_nothing : (named : classes.Class)
        → card.start_selected l (card.sent_to l (shape_class l (shape_as on_card kind)) named id) ≡ None
    token_nothing named =
        let o = stands_outside packages is.linked r.name r.class r.there r.import in
        let e = o.entry in
        ap (λ q. card.start_selected l (card.sent_to l q named id)) (r.its ∙ ap Some o.on_card)
        ∙ sent_nothing l o.file e.token named id

    of_import : (own : Class → Option Found) → ((d : Class) (f : Found) → own d ≡ Some f → IsDeclared id.name d f)
        → (o : Option Found) → first own (line w r.name) ≡ o → option_and_then (method_at (joint group)) o ≡ None
    of_import own declares None e = refl
    of_import own declares (Some f) e =
        let h = first_has own (line w r.name) f e in
        let y = h.0 in
        let on = of_line w order.acyclic r.name y h.1 in
        let far = below_abroad w order r.name y.name r.class y (line_below w r.name y on) r.there r.import (line_named w
        r.name y on) in
        let spot = declares y f h.2 in
        ap (λ (b : Bool). if b then None else option_and_then (method_in f.member) (slice_get (let all = joint group
        in all.classes) f.class)) (ap (λ (k : Found). k.imported) spot.is_at ∙ far)

    name_nothing : (hit : ResolvedMember) → option_and_then (method_at (joint group)) (selection_for w hit (shape_name
        kind) id) ≡ None
    name_nothing hit = by (is_package_visible hit.flags)
      where
        by : (b : Bool) → option_and_then (method_at (joint group)) (if b then first (own_within (package_of (let o
            = hit.owner in o.name)) id.name id.desc) (line w (receiver (shape_name kind)))
            else first (own_where is_open id.name id.desc) (line w (receiver (shape_name kind)))) ≡ None
        by true = let within = own_within (package_of (let o = hit.owner in o.name)) id.name id.desc in
            of_import within (by_package (package_of (let o = hit.owner in o.name)) id.name id.desc) (first within (line
            w (receiver (shape_name kind)))) (ap (λ y. first within (line w y)) (sym r.received))
        by false = of_import (own_where is_open id.name id.desc) (by_flags is_open id.name id.desc) (first (own_where
            is_open id.name id.desc) (line w (receiver (shape_name kind)))) (ap (λ y. first (own_where is_open id.name
            id.desc) (line w y)) (sym r.received))

  -- ---- by the named class

  module _ (objects : ObjectsAreSentAlike packages at) (kind : Shape (List ℕ)) (receives : Receives w (Some kind))
      (id : MemberId) where
    abbrev by_token : Bool → classes.Class → Option (Start Code)
    by_token b named = if b then card.start_selected l (card.sent_to l (shape_class l (shape_as on_card kind)) named id)
        else None

    abbrev found : Option Found
    found = find_method w id.class id.name id.desc

    abbrev Goal : Type 0
    Goal = card.sent l (shape_as on_card kind) id ≡ begun packages at (group_sent (joint group) w (shape_name kind) id)

    no_class : class_named w id.class ≡ None → Goal
    no_class nowhere =
        ap (option_and_then (card.sent_as l (shape_as on_card kind) id)) (none_named packages is.linked id.class
        nowhere)
        ∙ sym (ap (λ o. begun packages at (sent_of packages at (shape_name kind) id (is_subtype w (shape_name kind)
        id.class) o)) (find_none id.class id.name id.desc nowhere))

    module _ (d : Class) (known_d : class_named w id.class ≡ Some d) where
      class_there : class_on_card l id.class ≡ Some (on_card id.class)
      class_there = ⊎_elim (λ i. i.named) (λ o. o.named) (stands packages is.linked id.class d known_d)

      some_package : (q : ℕ) × (p : Package) × (slice_get packages q ≡ Some p)
      some_package = ⊎_elim (λ i. (i.part, i.«package», i.here)) (λ o. (o.part, o.importer, o.here)) (stands packages
          is.linked id.class d known_d)

      sent_is : card.sent l (shape_as on_card kind) id ≡ by_token (is_of l (shape_as on_card kind) (OfClass (on_card
          id.class))) (on_card id.class)
      sent_is = ap (option_and_then (card.sent_as l (shape_as on_card kind) id)) class_there

      -- to an array or an object of a class from outside
      outside : Received kind → Goal
      outside r =
          sent_is ∙ by (is_of l (shape_as on_card kind) (OfClass (on_card id.class)))
          ∙ sym (ap (begun packages at) (no_method (shape_name kind) id (is_subtype w (shape_name kind) id.class) found
          (name_nothing kind r id)))
        where
          by : (b : Bool) → by_token b (on_card id.class) ≡ None
          by true = token_nothing kind r id (on_card id.class)
          by false = refl

      array : receiver (shape_name kind) ≡ object → shape_class l (shape_as on_card kind) ≡ object_class l
          → Received kind
      array received its =
          let s = some_package in
          let a = each s.0 s.1 s.2 in
          let facts = a.facts in
          let o = facts.object_class in
          let h = class_stands group is.ordered s.0 (let p = s.1 in p.files) (together_at packages is.linked s.0 s.1
          s.2) object o.0 o.1 in
          record {
            name = object;
            received = received;
            class = h.class;
            there = h.named;
            import = object_abroad group is.ordered h.class h.named;
            its = its ∙ ⊎_elim (λ i. i.named) (λ u. u.named) (stands packages is.linked object h.class h.named);
          }

    -- to an object of a class
    module _ (x : List ℕ) (is_x : kind ≡ OfClass x) (c : Class) (known_x : class_named w x ≡ Some c)
        (plain : is_interface c.flags ≡ false) (made : c.is_imported ≡ false → is_abstract c.flags ≡ false) (d : Class)
        (known_d : class_named w id.class ≡ Some d) where
      itself : receiver x ≡ x
      itself = receiver_class x (no_array forms offsets packages is each at stand x c known_x)

      kind_is : is_of l (shape_as on_card kind) (OfClass (on_card id.class)) ≡ is_subtype w (shape_name kind) id.class
      kind_is =
          let s = some_package d known_d in
          let f = first_there packages s.0 s.1 s.2 in
          ap (λ k. is_of l (shape_as on_card k) (OfClass (on_card id.class))) is_x
          ∙ types packages is.linked is.supers f.0 f.1 0 (OfClass x) (OfClass id.class) (ap is_some known_x) (ap is_some
          known_d)
          ∙ sym (ap (λ k. is_subtype w (shape_name k) id.class) is_x)

      object_sent : Goal
      object_sent = by c.is_imported refl
        where
          own : c.is_imported ≡ false → (b : Bool) → is_subtype w (shape_name kind) id.class ≡ b → by_token b (on_card
              id.class) ≡ begun packages at (sent_of packages at (shape_name kind) id b found)
          own mine false sub = sym (ap (begun packages at) (no_sub (shape_name kind) id found))
          own mine true sub =
              ap (λ k. card.start_selected l (card.sent_to l (shape_class l (shape_as on_card k)) (on_card id.class)
              id)) is_x
              ∙ objects x c known_x mine plain (made mine) id d known_d (below (ap (λ k. is_subtype w (shape_name k) id.class) (sym
              is_x) ∙ sub))
              ∙ sym (ap (λ k. begun packages at (sent_of packages at (shape_name k) id true found)) is_x)
            where
              below : is_subtype w x id.class ≡ true → Below w x id.class
              below e = subst (λ y. Below w y id.class) itself (type_below w x id.class (no_array forms offsets packages
                  is each at stand id.class d known_d) e)

          by : (b : Bool) → c.is_imported ≡ b → Goal
          by true import = outside d known_d (record {
            name = x;
            received = ap (λ k. receiver (shape_name k)) is_x ∙ itself;
            class = c;
            there = known_x;
            import = import;
            its = ap (λ k. shape_class l (shape_as on_card k)) is_x;
          })
          by false mine =
              sent_is d known_d ∙ ap (λ b. by_token b (on_card id.class)) kind_is
              ∙ own mine (is_subtype w (shape_name kind) id.class) refl

  -- each receiver that may be there
  of_kind : ObjectsAreSentAlike packages at → (kind : Shape (List ℕ)) → Receives w (Some kind) → (id : MemberId)
      → (d : Class) → class_named w id.class ≡ Some d
      → card.sent l (shape_as on_card kind) id
      ≡ begun packages at (group_sent (joint group) w (shape_name kind) id)
  of_kind objects _ (numbers {element = element}) id d known_d =
      outside objects (OfNumbers element) numbers id d known_d (array objects (OfNumbers element) numbers id d known_d
      (numbers_received element) refl)
  of_kind objects _ (references {x = x}) id d known_d =
      outside objects (OfReferences x) references id d known_d (array objects (OfReferences x) references id d known_d
      refl refl)
  of_kind objects _ (one_of {x = x} c known_x plain made) id d known_d =
      object_sent objects (OfClass x) (one_of c known_x plain made) id x refl c known_x plain made d known_d

  -- so it is of all that scripts send
  pub sent_agrees : ObjectsAreSentAlike packages at → (kind : Shape (List ℕ)) (id : MemberId)
      → Receives w (Some kind)
      → card.sent l (shape_as on_card kind) id
      ≡ begun packages at (group_sent (joint group) w (shape_name kind) id)
  sent_agrees objects kind id receives = by (class_named w id.class) refl
    where
      by : (o : Option Class) → class_named w id.class ≡ o → card.sent l (shape_as on_card kind) id
          ≡ begun packages at (group_sent (joint group) w (shape_name kind) id)
      by None nowhere = no_class objects kind receives id nowhere
      by (Some d) known_d = of_kind objects kind receives id d known_d
