-- What a script sends to an object of a class file begins by token where it begins by name, whether a class or an
-- interface is named: what the line of the class has is sent so, and else a method of an interface above.
use Rattle.std.proofs.Common.{◌≡◌, ℕ, suc, refl, sym, ap, subst, ◌∙◌, Bool, true, false, List, [], ◌∷◌, Option, Some}
use Rattle.std.proofs.Common.{None}
use Rattle.std.proofs.Common.{inl, inr}
use Rattle.std.proofs.Common.{⊎_elim}
use Rattle.std.specs.Prelude.{◌||◌, option_and_then, position, slice_get, if◌then◌else◌}
use Rattle.cjc_bytes.specs.AccessFlags.{is_abstract, is_interface}
use Rattle.cjc_bytes.specs.declared.fault.MemberId.{MemberId}
use Rattle.cjc_components.specs.Package.{Package, world}
use Rattle.cjc_joint_proof.specs.JointCalled.{StandByPackage}
use Rattle.cjc_joint_proof.specs.JointPackages.{class_together, files_together}
use Rattle.cjc_joint_proof.specs.JointTables.{world_together}
use Rattle.cjc_joint_proof.specs.JointTowers.{loaded_together}
use Rattle.cjc_joint_proof.specs.Loading.{AllLead, group_of, member_of}
use Rattle.cjc_joint_proof.proofs.StandLaws.{stands_inside}
use Rattle.cjc_joint_theorem.proofs.OrderedLaws.Ordered.{ordered}
use Rattle.cjc_jvm_semantics.specs.Group.{is_open, joint, own_where}
use Rattle.cjc_jvm_semantics.specs.Linked.{Method}
use Rattle.cjc_jvm_semantics.specs.OnePackage.{is_constructor, is_initialiser, method_at}
use Rattle.cjc_token_proof.proofs.WorldProofOwn.{own_is}
use Rattle.cjc_token_proof.proofs.WorldProofSelects.{called_by}
use Rattle.cjc_token_proof.proofs.WrittenCalls.Facts.{Facts}
use Rattle.cjc_token_proof.proofs.WrittenCalls.Held.{FormsLaw, OffsetsLaw}
use Rattle.cjc_token_proof.proofs.WrittenSends.Interfaces.{position_is}
use Rattle.cjc_token_proof.specs.Calls.Selecting.{signature}
use Rattle.cjc_token_proof.specs.CardSemantics.Machine.Calls.{found_token, interface_token, sent_by, sent_to}
use Rattle.cjc_token_proof.specs.CardSemantics.Machine.Calls.{start_selected}
use Rattle.cjc_token_proof.specs.CardSemantics.Machine.Calls.{through, through_first}
use Rattle.cjc_token_proof.specs.CardSemantics.Machine.Classes as classes
use Rattle.cjc_token_proof.specs.CardSemantics.Machine.Classes.{depth, object_class, upwards}
use Rattle.cjc_token_proof.specs.CardSemantics.Machine.Dispatch.{NotFound, Selection, Token, dispatched_interface}
use Rattle.cjc_token_proof.specs.CardSemantics.Machine.Dispatch.{dispatched_open, tower}
use Rattle.cjc_token_proof.specs.CardSemantics.Machine.Loaded.{Loaded}
use Rattle.cjc_token_proof.specs.NCode.Lowering.Placed.{Placed}
use Rattle.cjc_tokens.specs.Members.{same}
use Rattle.cjc_tokens.specs.Methods.{interface_methods}
use Rattle.cjc_vtable.specs.Calls.{is_special}
use Rattle.cjc_vtable.specs.Laws.{ImportedCallsAgree, KeepsImported, KeepsRules}
use Rattle.cjc_world.proofs.Cycles.{class_named-name}
use Rattle.cjc_world.proofs.Settled.{lists-front}
use Rattle.cjc_world.proofs.UpwardLaws.Lines.{above_on, below_on, first_some, in_line}
use Rattle.cjc_world.specs.Classes.{Class, class_named, declared}
use Rattle.cjc_world.specs.Files.{Files}
use Rattle.cjc_world.specs.Lookup.{find_method, first, object, or_else, own_method, receiver}
use Rattle.cjc_world.specs.Supertypes.{Above, directly, line}
use Rattle.cjc_world.specs.Upwards.{Below, IsOrdered}
use Rattle.cjc_world.specs.Upwards as lines
use Rattle.cjc_world.specs.declared.found.Found.{Found}
use Rattle.cjc_joint_whole.specs.Faces.{FacesDispatch}
use Rattle.cjc_joint_whole.specs.Selected.{OutsideClassesAgree, SelectTogether}
use Rattle.cjc_joint_whole.specs.Sent.{FoundAlike, FoundAreSentAlike, LinesAreFoundAlike, ObjectsAreSentAlike}
use Rattle.cjc_joint_whole.specs.Sent.{SendsAlike}
use Rattle.cjc_joint_whole.specs.Sent.{LinesBindSpecials, bears, begun, bound, nowhere, sent_of}
use Rattle.cjc_joint_whole.specs.SentFaces.{FacesStand}
use Rattle.cjc_joint_whole.specs.Told.{IsDeclaredAbove}
use Rattle.cjc_joint_whole.proofs.WholeLaws.FixedNamed.{AloneLaws}
use Rattle.cjc_joint_whole.proofs.WholeLaws.OpenFinds.{open_selections_agree}
use Rattle.cjc_joint_whole.proofs.WholeLaws.SentDispatched.{begins_alike}
use Rattle.cjc_joint_whole.proofs.WholeLaws.SentFacesAbove.{Scanned, none_has, object_is, object_named, one_has}
use Rattle.cjc_joint_whole.proofs.WholeLaws.SentFacesAbove.{receiver_is, scanned, stands_over}
use Rattle.cjc_joint_whole.proofs.WholeLaws.SentFacesCard.{StandsAt, stands_at}
use Rattle.cjc_joint_whole.proofs.WholeLaws.SentFacesNames as names
use Rattle.cjc_joint_whole.proofs.WholeLaws.SentFacesPlaced as placed
use Rattle.cjc_joint_whole.proofs.WholeLaws.SentFacesPlaced.{IsDeclaredByFace}
use Rattle.cjc_joint_whole.proofs.WholeLaws.SentKnown.{by_flags}
use Rattle.cjc_joint_whole.proofs.WholeLaws.TokenMeans.{ImportsAreExposed}

same_one : {c d : Class} → Some c ≡ Some d → c ≡ d
same_one e = cc

off : false ≡ true → ⊥
off e = cc

no_token : {t : ℕ} → None ≡ Some t → ⊥
no_token e = cc

no_found : {f : Found} → None ≡ Some f → ⊥
no_found e = cc

or_parts : (a b : Bool) → (a || b) ≡ false → (a ≡ false) × (b ≡ false)
or_parts true b e = absurd (off (sym e))
or_parts false b e = (refl, e)

-- where nothing is found by name, nothing is by token
nowhere_token : (packages : List Package) (at : Method → Placed) (y : List ℕ) (id : MemberId) (o : Option Found)
    (t : Option (Option Token)) → FoundAlike packages at y id o t → o ≡ None → t ≡ None
nowhere_token packages at y id _ _ nowhere e = refl
nowhere_token packages at y id _ _ (bound hit is_hit unsendable) e = absurd (no_found (sym e))
nowhere_token packages at y id _ _ (bears hit is_hit sendable sends) e = absurd (no_found (sym e))

module _ (forms : FormsLaw) (offsets : OffsetsLaw) (imported_calls : (w : List Class) → KeepsRules w → KeepsImported w
    → ImportedCallsAgree w) (packages : List Package) (is : SelectTogether packages)
    (each : (q : ℕ) (p : Package) → slice_get packages q ≡ Some p → AloneLaws p)
    (exposed : (q : ℕ) (p : Package) → slice_get packages q ≡ Some p → ImportsAreExposed p)
    (outside : OutsideClassesAgree packages)
    (leads : (q : ℕ) (p : Package) → slice_get packages q ≡ Some p → AllLead (group_of packages) (member_of p))
    (fair : FacesStand packages) (dispatch : FacesDispatch packages) (at : Method → Placed)
    (stand : StandByPackage packages at) (one : Package) (one_there : slice_get packages 0 ≡ Some one) where
  abbrev l : Loaded
  l = loaded_together packages

  abbrev group : List Files
  group = files_together packages

  abbrev w : List Class
  w = world_together packages

  order : IsOrdered w
  order = ordered group is.ordered

  facts : (q : ℕ) (p : Package) → slice_get packages q ≡ Some p → Facts p
  facts q p here = let a = each q p here in a.facts

  at_class : (y : List ℕ) (d : Class) → class_named w y ≡ Some d → StandsAt packages y d
  at_class y d named = stands_at packages is facts y d named

  kind_is : (y : List ℕ) (d : Class) → class_named w y ≡ Some d → classes.is_interface l (class_together packages y)
      ≡ is_interface d.flags
  kind_is y d named = placed.kind_is forms offsets imported_calls packages is each fair y d (at_class y d named)

  -- a constructor or an initialiser has no token in an interface
  special_token : (id : MemberId) → is_special (signature id) ≡ true → (y : List ℕ) (d : Class) → class_named w y ≡ Some
      d
      → is_interface d.flags ≡ true → interface_token l (class_together packages y) id ≡ None
  special_token id special y d named it = placed.special_token forms offsets imported_calls packages is each fair y d
      (at_class y d named) it id special

  -- an object of a class file of which there are some
  module _ (x : List ℕ) (c : Class) (named_x : class_named w x ≡ Some c) (mine : c.is_imported ≡ false)
      (plain : is_interface c.flags ≡ false) (made : is_abstract c.flags ≡ false) where
    abbrev on : Option classes.Class
    on = Some (class_together packages x)

    itself : receiver x ≡ x
    itself = receiver_is packages is one one_there x c named_x

    -- an interface is none of its own
    over_face : (y : List ℕ) (d : Class) → class_named w y ≡ Some d → is_interface d.flags ≡ true → Below w x y
        → Above w x y
    over_face y d named it way = ⊎_elim (λ same. absurd (off (sym plain ∙ ap (λ (k : Class). is_interface k.flags)
        (same_one (sym named_x ∙ ap (class_named w) same ∙ named)) ∙ it))) (λ far. far) way

    -- what a script sends goes by what is named, a class or an interface
    by_kind : (id : MemberId) (d : Class) → class_named w id.class ≡ Some d → (b : Bool) → is_interface d.flags ≡ b
        → start_selected l (sent_to l on (class_together packages id.class) id)
        ≡ start_selected l (if b then through l on (class_together packages id.class) (interface_token l (class_together
        packages id.class) id) (sent_by l on (class_together packages id.class) id (found_token l (suc (depth l))
        (object_class l) id)) else sent_by l on (class_together packages id.class) id (found_token l (suc (depth l))
        (Some (class_together packages id.class)) id))
    by_kind id d named b e =
        let k = class_together packages id.class in
        ap (λ t. start_selected l (if t then through l on k (interface_token l k id) (sent_by l on k id (found_token l
        (suc (depth l)) (object_class l) id)) else sent_by l on k id (found_token l (suc (depth l)) (Some k) id)))
        (kind_is id.class d named ∙ e)

    -- ---- a method that is no constructor and no initialiser

    module _ (id : MemberId) (initial : is_initialiser id.name ≡ false) (ordinary : is_constructor id.name ≡ false)
        (regular : is_special (signature id) ≡ false) where
      abbrev finds : Class → Option Found
      finds = own_method false id.name id.desc

      abbrev opened : Class → Option Found
      opened = own_where is_open id.name id.desc

      abbrev behind : List ℕ → List Class
      behind y = names.behind packages is facts exposed fair at id initial y

      -- what is selected begins where a look-up's method is sent
      abbrev Begins : Option Found → Selection → Type 0
      Begins o v = start_selected l v ≡ begun packages at (sent_of packages at x id true o)

      -- what is found from a class or an interface is selected over classes of all packages
      abbrev Looked : List ℕ → Type 0
      Looked y = (f : Found) × (find_method w y id.name id.desc ≡ Some f) × (sent_of packages at x id true (Some f)
          ≡ option_and_then (method_at (joint group)) (first opened (line w x)))

      -- its place there, and what declares it
      has_face : (y : List ℕ) (d : Class) (named : class_named w y ≡ Some d) → is_interface d.flags ≡ true → (t : ℕ)
          → interface_token l (class_together packages y) id ≡ Some t
          → (let s = at_class y d named in let p = s.«package» in let i = s.class
          in slice_get (interface_methods (world p) i) t ≡ Some (signature id))
          × IsDeclaredByFace w y id.name id.desc
      has_face y d named it t tok =
          let s = at_class y d named in
          let p = s.«package» in
          let i = s.class in
          let there : position (λ u. same u (signature id)) (interface_methods (world p) i) ≡ Some t = sym
          (placed.token_is forms offsets imported_calls packages is each fair y d s it id initial ordinary) ∙ tok in (
            position_is (interface_methods (world p) i) (signature id) t there,
            placed.placed_declared forms offsets imported_calls packages is each fair y d s it id initial ordinary t
                there,
          )

      -- By its token in an interface above the object's class it begins where selection by name leads.
      face_begins : (y : List ℕ) (d : Class) → class_named w y ≡ Some d → is_interface d.flags ≡ true → Above w x y
          → (t : ℕ) → interface_token l (class_together packages y) id ≡ Some t → (g : Found)
          × (first opened (line w x) ≡ Some g)
          × (start_selected l (dispatched_interface l on (class_together packages y) t)
          ≡ begun packages at (method_at (joint group) g))
      face_begins y d named it way t tok =
          let s = at_class y d named in
          let p = s.«package» in
          let h = has_face y d named it t tok in
          let f = h.1 in
          let a = f.above in
          let z = a.class in
          let m = a.method in
          let face = sym (ap is_interface s.same_flags) ∙ it in
          let g = fair.implemented x c named_x mine plain made a.place z m a.named f.it (below_on w x y z.name (inr way)
          a.below) a.there a.opened (ap is_constructor a.has_name ∙ ordinary) (ap is_initialiser a.has_name ∙ initial)
          in
          let found : first opened (line w x) ≡ Some g.0 = subst (λ n. first (own_where is_open id.name n) (line w x)
          ≡ Some g.0) a.has_desc (subst (λ n. first (own_where is_open n m.desc) (line w x) ≡ Some g.0) a.has_name g.1)
          in
          let u = stands_inside packages is.linked x c named_x mine in
          let k = declared u.place u.tree in
          let ground : is_interface k.flags ≡ false = ap (λ (b : Class). is_interface b.flags) (sym u.is) ∙ plain in
          let o = open_selections_agree forms offsets packages is each exposed outside leads u.part u.«package» u.here x
          k u.there ground (signature id) regular g.0 found in (
            g.0,
            found,
            ap (start_selected l) (dispatch s.part p s.here y s.class s.known face t (signature id) h.0 u.part
                u.«package»
                u.here x k u.there refl ground way o.its o.its_token)
                ∙ begins_alike forms offsets packages is each at stand opened x id (by_flags is_open id.name id.desc)
                g.0 found (dispatched_open (tower l (class_together packages x)) o.its) o.alike,
          )

      -- what an interface above a class declares is found behind the line, and sent so
      face_behind : (y : List ℕ) (d : Class) → class_named w y ≡ Some d → (z : List ℕ)
          (b : IsDeclaredByFace w z id.name id.desc) → Above w y (let a = b.above in let k = a.class in k.name)
          → (f : Found) × (first finds (behind y) ≡ Some f)
          × (sent_of packages at x id true (Some f)
          ≡ option_and_then (method_at (joint group)) (first opened (line w x)))
      face_behind y d named z b far =
          let a = b.above in
          let k = a.class in
          let m = a.method in
          let own = own_is false id.name id.desc k a.place m a.there refl (called_by id.name id.desc m a.has_name
          a.has_desc) in
          let f = names.behind_has packages is facts exposed fair at id initial y d k named far a.named b.it own.0
          own.1 in
          let g = names.behind_found packages is facts exposed fair at id initial y f.0 f.1 in (
            f.0,
            f.1,
            names.face_sent packages is facts exposed fair at id initial ordinary x itself f.0 g.face g.named g.it
                g.its,
          )

      -- what is found there, where nothing is on the line: the first interface that has it decides
      behind_begins : (y : List ℕ) (d : Class) → class_named w y ≡ Some d → Below w x y
          → (is_interface d.flags ≡ true → interface_token l (class_together packages y) id ≡ None)
          → start_selected l (through_first l on (upwards l (class_together packages y)) id)
          ≡ begun packages at (sent_of packages at x id true (first finds (behind y)))
      behind_begins y d named way lacks = by (through_first l on (upwards l (class_together packages y)) id)
          (scanned packages is one one_there kind_is on id y d named)
        where
          none_found : ((z : List ℕ) (i : Class) → class_named w z ≡ Some i → is_interface i.flags ≡ true
              → classes.is_in (class_together packages z) (upwards l (class_together packages y)) ≡ true
              → interface_token l (class_together packages z) id ≡ None) → (o : Option Found) → first finds (behind y)
              ≡ o
              → Begins o NotFound
          none_found none None e = refl
          none_found none (Some f) e =
              let b = names.behind_found packages is facts exposed fair at id initial y f e in
              let z = b.face in
              let s = at_class z.name z b.named in
              let its = b.its in
              let there = placed.own_placed forms offsets imported_calls packages is each fair z.name z s b.it id
              initial ordinary its.place its.method its.there its.has_name its.has_desc in
              let tok = placed.token_is forms offsets imported_calls packages is each fair z.name z s b.it id initial
              ordinary ∙ there.1 in
              absurd (no_token (sym (none z.name z b.named b.it (stands_over packages is one one_there y z.name d z
              named b.named b.below)) ∙ tok))

          by : (v : Selection) → Scanned packages on id y (upwards l (class_together packages y)) v
              → Begins (first finds (behind y)) v
          by _ (none_has none) = none_found none (first finds (behind y)) refl
          by _ (one_has z i known it below t tok) =
              let far : Above w y z = ⊎_elim (λ one_name.
              (let one_class : d ≡ i = same_one (sym named ∙ ap (class_named w) one_name ∙ known) in
              absurd (no_token (sym (lacks (ap (λ (k : Class). is_interface k.flags) one_class ∙ it))
              ∙ ap (λ a. interface_token l (class_together packages a) id) one_name ∙ tok)))) (λ more. more) below in
              let x_far : Above w x z = ⊎_elim (λ one_name. subst (λ a. Above w a z) (sym one_name) far)
              (λ more. above_on w x y z more far) way in
              let r = face_begins z i known it x_far t tok in
              let h = has_face z i known it t tok in
              let s = h.1 in
              let a = s.above in
              let k = a.class in
              let f = face_behind y d named z s (⊎_elim (λ one_name. subst (Above w y) one_name far)
              (λ more. above_on w y z k.name far more) a.below) in
              r.2 ∙ sym (ap (λ o. begun packages at (sent_of packages at x id true o)) f.1 ∙ ap (begun packages at) (f.2
              ∙ ap (option_and_then (method_at (joint group))) r.1))

      -- By the name of an interface that has it by token.
      face_named : (y : List ℕ) (d : Class) → class_named w y ≡ Some d → is_interface d.flags ≡ true → Below w x y
          → (t : ℕ) → interface_token l (class_together packages y) id ≡ Some t
          → start_selected l (dispatched_interface l on (class_together packages y) t)
          ≡ begun packages at (sent_of packages at x id true (find_method w y id.name id.desc))
      face_named y d named it way t tok =
          let r = face_begins y d named it (over_face y d named it way) t tok in
          let f = looked in
          r.2 ∙ sym (ap (λ o. begun packages at (sent_of packages at x id true o)) f.1 ∙ ap (begun packages at) (f.2
          ∙ ap (option_and_then (method_at (joint group))) r.1))
        where
          s : StandsAt packages y d
          s = at_class y d named

          named_d : class_named w d.name ≡ Some d
          named_d = ap (class_named w) (class_named-name w y d named) ∙ named

          h : (let p = s.«package» in let i = s.class in slice_get (interface_methods (world p) i) t
              ≡ Some (signature id)) × IsDeclaredByFace w y id.name id.desc
          h = has_face y d named it t tok

          find_is : find_method w y id.name id.desc ≡ or_else (first finds (line w y)) (first finds (behind y))
          find_is = names.find_is packages is facts exposed fair at id initial y

          by : (o : Option Found) → first finds (line w y) ≡ o → Looked y
          by (Some f) e = (
            f,
            find_is ∙ ap (λ o. or_else o (first finds (behind y))) e,
            ⊎_elim
                (λ own. names.face_sent packages is facts exposed fair at id initial ordinary x itself f d named_d it
                (names.found_in packages is facts exposed fair at id initial d f named_d own))
                (λ top. names.top_sent packages is facts exposed fair at id initial ordinary x itself s.part s.«package»
                s.here y s.class s.known (sym (ap is_interface s.same_flags) ∙ it) t h.0 top.0 top.1 f top.2)
                (names.line_found packages is facts exposed fair at id initial y d named it f e),
          )
          by None e = ⊎_elim own far a.below
            where
              z : IsDeclaredByFace w y id.name id.desc
              z = h.1

              a : IsDeclaredAbove w y id.name id.desc
              a = z.above

              own : y ≡ (let k = a.class in k.name) → Looked y
              own same_name =
                  let k = a.class in
                  let m = a.method in
                  let at_y : class_named w y ≡ Some k = ap (class_named w) same_name ∙ a.named in
                  let has_it = own_is false id.name id.desc k a.place m a.there refl (called_by id.name id.desc m
                  a.has_name a.has_desc) in
                  let r = first_some finds (line w y) k has_it.0 (in_line w order.acyclic y k (lines.here
                  at_y)) has_it.1 in
                  absurd (no_found (sym e ∙ r.1))

              far : Above w y (let k = a.class in k.name) → Looked y
              far more =
                  let f = face_behind y d named y z more in
                  (f.0, find_is ∙ ap (λ o. or_else o (first finds (behind y))) e ∙ f.1, f.2)

          looked : Looked y
          looked = by (first finds (line w y)) refl

      -- ---- whatever is named

      module _ (lines_alike : LinesAreFoundAlike packages at) (found_alike : FoundAreSentAlike packages at) where
        -- what the line of a class at or above that of the object has, or else what is behind a named class
        line_begins : (y : List ℕ) (d : Class) → class_named w y ≡ Some d → is_interface d.flags ≡ false → Below w x y
            → (named : classes.Class) (other : Option Found) → (first finds (line w y) ≡ None
            → start_selected l (through_first l on (upwards l named) id)
            ≡ begun packages at (sent_of packages at x id true other))
            → start_selected l (sent_by l on named id (found_token l (suc (depth l)) (Some (class_together packages y))
            id))
            ≡ begun packages at (sent_of packages at x id true (or_else (first finds (line w y)) other))
        line_begins y d known ground way named other rest = by (first finds (line w y)) refl
          where
            by : (o : Option Found) → first finds (line w y) ≡ o
                → start_selected l (sent_by l on named id (found_token l (suc (depth l)) (Some (class_together packages
                y)) id)) ≡ begun packages at (sent_of packages at x id true (or_else (first finds (line w y)) other))
            by (Some f) e = found_alike x c named_x plain id initial y d known ground way f e named
                ∙ sym (ap (λ o. begun packages at (sent_of packages at x id true (or_else o other))) e)
            by None e =
                ap (λ t. start_selected l (sent_by l on named id t)) (nowhere_token packages at y id (first finds (line
                w y)) (found_token l (suc (depth l)) (Some (class_together packages y)) id) (lines_alike y d known
                ground id initial) e)
                ∙ rest e ∙ sym (ap (λ o. begun packages at (sent_of packages at x id true (or_else o other))) e)

        abbrev named_one : List ℕ
        named_one = id.class

        abbrev on_card : classes.Class
        on_card = class_together packages id.class

        regular_sent : (d : Class) → class_named w id.class ≡ Some d → Below w x id.class → SendsAlike packages at x id
        regular_sent d named way = by (is_interface d.flags) refl
          where
            find_is : find_method w named_one id.name id.desc ≡ or_else (first finds (line w named_one)) (first finds
                (behind named_one))
            find_is = names.find_is packages is facts exposed fair at id initial named_one

            of_face : is_interface d.flags ≡ true → (q : Option ℕ) → interface_token l on_card id ≡ q
                → start_selected l (through l on on_card q (sent_by l on on_card id (found_token l (suc (depth l))
                (object_class l) id)))
                ≡ begun packages at (sent_of packages at x id true (find_method w named_one id.name id.desc))
            of_face it (Some t) tok = face_named named_one d named it way t tok
            of_face it None none =
                let s = at_class named_one d named in
                let o = object_named packages is one one_there in
                let lists = placed.lists_object forms offsets imported_calls packages is each fair named_one d s it id
                in ap (λ k. start_selected l (sent_by l on on_card id (found_token l (suc (depth l)) k id)))
                (object_is packages is one one_there)
                ∙ line_begins object o.0 o.1 (names.plain_object packages is facts exposed fair at s.part s.«package»
                s.here o.0 o.1) (below_on w x named_one object way (inr (directly d named (lists-front object d.supers
                d.interfaces lists)))) on_card (first finds (behind named_one)) (λ e. behind_begins named_one d named
                way (λ f. none))
                ∙ sym (ap (λ v. begun packages at (sent_of packages at x id true v)) (find_is ∙ ap (λ v. or_else v
                (first finds (behind named_one))) (names.top_found packages is facts exposed fair at id initial
                named_one d named it (own_lacks (finds d) refl) lists)))
              where
                named_d : class_named w d.name ≡ Some d
                named_d = ap (class_named w) (class_named-name w named_one d named) ∙ named

                own_lacks : (o : Option Found) → finds d ≡ o → finds d ≡ None
                own_lacks None e = e
                own_lacks (Some f) e =
                    let s = at_class named_one d named in
                    let its = names.found_in packages is facts exposed fair at id initial d f named_d e in
                    let there = placed.own_placed forms offsets imported_calls packages is each fair named_one d s it id
                    initial ordinary its.place its.method its.there its.has_name its.has_desc in
                    let tok = placed.token_is forms offsets imported_calls packages is each fair named_one d s it id
                    initial ordinary ∙ there.1 in
                    absurd (no_token (sym none ∙ tok))

            by : (b : Bool) → is_interface d.flags ≡ b → SendsAlike packages at x id
            by false ground =
                by_kind id d named false ground
                ∙ line_begins named_one d named ground way on_card (first finds (behind named_one)) (λ e. behind_begins
                named_one d named way (λ it. absurd (off (sym ground ∙ it))))
                ∙ sym (ap (λ v. begun packages at (sent_of packages at x id true v)) find_is)
            by true it = by_kind id d named true it ∙ of_face it (interface_token l on_card id) refl

    -- ---- constructors and initialisers: none by both

    module _ (id : MemberId) (special : is_special (signature id) ≡ true) where
      abbrev its_class : List ℕ
      its_class = id.class

      abbrev its_on_card : classes.Class
      its_on_card = class_together packages id.class

      -- a token by which nothing is sent
      abbrev IsBound : Option (Option Token) → Type 0
      IsBound t = (u : Token) → t ≡ Some (Some u) → ⊥

      none_sent : (y : List ℕ) (d : Class) → class_named w y ≡ Some d → (t : Option (Option Token)) → IsBound t
          → start_selected l (sent_by l on (class_together packages y) id t) ≡ None
      none_sent y d named None bound_one = by (through_first l on (upwards l (class_together packages y)) id)
          (scanned packages is one one_there kind_is on id y d named)
        where
          by : (v : Selection) → Scanned packages on id y (upwards l (class_together packages y)) v
              → start_selected l v ≡ None
          by _ (none_has none) = refl
          by _ (one_has z i known it below t tok) = absurd (no_token (sym (special_token id special z i known it)
              ∙ tok))
      none_sent y d named (Some None) bound_one = refl
      none_sent y d named (Some (Some u)) bound_one = absurd (bound_one u refl)

      special_sent : ((y : List ℕ) (d : Class) → class_named w y ≡ Some d → is_interface d.flags ≡ false
          → IsBound (found_token l (suc (depth l)) (Some (class_together packages y)) id)) → (d : Class)
          → class_named w id.class ≡ Some d → SendsAlike packages at x id
      special_sent binds d named =
          by (is_interface d.flags) refl
          ∙ sym (ap (begun packages at) (names.special_none packages is facts exposed fair at id special x (find_method
          w id.class id.name id.desc)))
        where
          by : (b : Bool) → is_interface d.flags ≡ b → start_selected l (sent_to l on its_on_card id) ≡ None
          by false ground = by_kind id d named false ground ∙ none_sent its_class d named (found_token l (suc (depth l))
              (Some its_on_card) id) (binds its_class d named ground)
          by true it =
              let s = at_class its_class d named in
              let o = object_named packages is one one_there in
              by_kind id d named true it
              ∙ ap (λ q. start_selected l (through l on its_on_card q (sent_by l on its_on_card id (found_token l (suc (depth
              l)) (object_class l) id)))) (special_token id special its_class d named it)
              ∙ ap (λ k. start_selected l (sent_by l on its_on_card id (found_token l (suc (depth l)) k id)))
              (object_is packages is one one_there)
              ∙ none_sent its_class d named (found_token l (suc (depth l)) (Some (class_together packages object)) id)
              (binds object o.0 o.1 (names.plain_object packages is facts exposed fair at s.part s.«package» s.here o.0
              o.1))

  -- each of these
  pub objects_sent : LinesAreFoundAlike packages at → FoundAreSentAlike packages at → LinesBindSpecials packages at
      → ObjectsAreSentAlike packages at
  objects_sent lines_alike found_alike binds x c named_x mine plain made id d named way = by (is_special (signature id))
      refl
    where
      by : (b : Bool) → is_special (signature id) ≡ b → SendsAlike packages at x id
      by true special = special_sent x c named_x mine plain made id special (λ y k known ground. binds y k known ground
          id special) d named
      by false regular =
          let parts = or_parts (is_constructor id.name) (is_initialiser id.name) regular in
          regular_sent x c named_x mine plain made id parts.1 parts.0 regular lines_alike found_alike d named way

-- some package stands first
some_first : (packages : List Package) (q : ℕ) (p : Package) → slice_get packages q ≡ Some p → (one : Package)
    × (slice_get packages 0 ≡ Some one)
some_first [] q p e = cc
some_first (one ∷ packages) q p e = (one, refl)

module _ (forms : FormsLaw) (offsets : OffsetsLaw) (imported_calls : (w : List Class) → KeepsRules w → KeepsImported w
    → ImportedCallsAgree w) (packages : List Package) (is : SelectTogether packages)
    (each : (q : ℕ) (p : Package) → slice_get packages q ≡ Some p → AloneLaws p)
    (exposed : (q : ℕ) (p : Package) → slice_get packages q ≡ Some p → ImportsAreExposed p)
    (outside : OutsideClassesAgree packages)
    (leads : (q : ℕ) (p : Package) → slice_get packages q ≡ Some p → AllLead (group_of packages) (member_of p)) where
  -- so it is in every group, since an object of a class file is there only where a package is
  pub objects_are_sent : FacesStand packages → FacesDispatch packages → (at : Method → Placed)
      → StandByPackage packages at → LinesAreFoundAlike packages at → FoundAreSentAlike packages at
      → LinesBindSpecials packages at → ObjectsAreSentAlike packages at
  objects_are_sent fair dispatch at stand lines_alike found_alike binds x c named_x mine plain made id d named way =
      let u = stands_inside packages is.linked x c named_x mine in
      let f = some_first packages u.part u.«package» u.here in
      objects_sent forms offsets imported_calls packages is each exposed outside leads fair dispatch at stand f.0 f.1
      lines_alike found_alike binds x c named_x mine plain made id d named way
