-- The token of an interface's method on the card, where packages are loaded together: its place among the methods of
-- the interface in the package that has it. One that has a place is declared by the interface or by one above it, and
-- each that the interface declares has one.
use Rattle.std.proofs.Common.{◌≡◌, ℕ, refl, sym, ap, subst, ◌∙◌, Bool, true, false, List, [], ◌∷◌, ◌++◌, Some, None}
use Rattle.std.proofs.Common.{inl, inr}
use Rattle.std.proofs.Common.{⊎_elim}
use Rattle.std.specs.Prelude.{◌⊎◌, Option, position, slice_get}
use Rattle.cjc_bytes.specs.AccessFlags.{is_interface}
use Rattle.cjc_bytes.specs.declared.fault.MemberId.{MemberId}
use Rattle.cjc_components.specs.Package.{Package, world}
use Rattle.cjc_joint_proof.specs.JointPackages.{class_together, files_together}
use Rattle.cjc_joint_proof.specs.JointTables.{world_together}
use Rattle.cjc_joint_proof.specs.JointTowers.{loaded_together}
use Rattle.cjc_joint_proof.proofs.AboveLaws.{above_stays}
use Rattle.cjc_joint_proof.proofs.ApartLaws.{apart_outside, packages_apart}
use Rattle.cjc_joint_proof.proofs.ClassLaws.{together_at}
use Rattle.cjc_jvm_semantics.specs.OnePackage.{is_constructor, is_initialiser}
use Rattle.cjc_token_proof.proofs.ByToken.Above.{above_told, told_above}
use Rattle.cjc_token_proof.proofs.TablesLaws.Above.{says_kinds}
use Rattle.cjc_token_proof.proofs.TablesLaws.Tables.{kinds_agree, names_agree}
use Rattle.cjc_token_proof.proofs.WorldProofOwn.{own_at}
use Rattle.cjc_token_proof.proofs.WrittenCalls.Held.{FormsLaw, OffsetsLaw}
use Rattle.cjc_token_proof.proofs.WrittenSends.Interfaces as interfaces
use Rattle.cjc_token_proof.proofs.WrittenSends.Root as root
use Rattle.cjc_token_proof.proofs.WrittenSends.Sent as sends
use Rattle.cjc_token_proof.specs.Calls.Selecting.{signature}
use Rattle.cjc_token_proof.specs.CardSemantics.Machine.Calls.{interface_token}
use Rattle.cjc_token_proof.specs.CardSemantics.Machine.Classes as card
use Rattle.cjc_token_proof.specs.CardSemantics.Machine.Loaded.{Loaded}
use Rattle.cjc_token_proof.specs.WrittenCalls.Standing.{place}
use Rattle.cjc_token_proof.specs.WrittenSends.Sends.{InterfacesAsk}
use Rattle.cjc_tokens.specs.Members.{same}
use Rattle.cjc_tokens.specs.Methods.{interface_methods}
use Rattle.cjc_vtable.specs.Calls.{is_special}
use Rattle.cjc_vtable.specs.Kept.{Keeps}
use Rattle.cjc_vtable.specs.Laws.{ImportedCallsAgree, KeepsImported, KeepsRules}
use Rattle.cjc_world.proofs.Cycles.{class_named-name}
use Rattle.cjc_world.proofs.UpwardLaws.Lines.{below_on, first_has, gathered_above}
use Rattle.cjc_world.specs.Classes.{Class, Member, class_named}
use Rattle.cjc_world.specs.Interfaces.{gathered, known}
use Rattle.cjc_world.specs.Lookup.{first, object, own_method}
use Rattle.cjc_world.specs.Supertypes.{End, Lists, ends, foremost, stands, supertypes}
use Rattle.cjc_world.specs.Upwards.{Below, IsOrdered}
use Rattle.cjc_world.specs.declared.found.Found.{Found}
use Rattle.cjc_joint_whole.specs.Selected.{SelectTogether}
use Rattle.cjc_joint_whole.specs.SentFaces.{FacesStand}
use Rattle.cjc_joint_whole.specs.Told.{IsDeclaredAbove}
use Rattle.cjc_joint_whole.proofs.WholeLaws.FixedNamed.{AloneLaws, begins}
use Rattle.cjc_joint_whole.proofs.WholeLaws.Nearest.{only}
use Rattle.cjc_joint_whole.proofs.WholeLaws.SentFacesCard.{StandsAt}
use Rattle.cjc_joint_whole.proofs.WholeLaws.Shown.{open_parts}

-- a method of this name and descriptor that the interface of a name declares, or one above it
pub record IsDeclaredByFace (w : List Class) (y name desc : List ℕ) : Type 0 where
  pub above : IsDeclaredAbove w y name desc
  pub it : (let d = above in let c = d.class in is_interface c.flags) ≡ true

-- so it is seen from below, under the name that it has
pub declared_as : (w : List Class) (x y : List ℕ) → Below w x y → (is_named is_desc name desc : List ℕ) → is_named
    ≡ name
    → is_desc ≡ desc → (d : IsDeclaredAbove w y is_named is_desc) → (let c = d.class in is_interface c.flags) ≡ true
    → IsDeclaredByFace w x name desc
declared_as w x y way is_named is_desc name desc same_name same_desc d it =
    let c = d.class in
    let from : IsDeclaredAbove w x name desc = record {
      class = c;
      named = d.named;
      below = below_on w x y c.name way d.below;
      place = d.place;
      method = d.method;
      there = d.there;
      has_name = d.has_name ∙ same_name;
      has_desc = d.has_desc ∙ same_desc;
      opened = d.opened;
    } in
    record { above = from; it = it }

module _ (forms : FormsLaw) (offsets : OffsetsLaw) (imported_calls : (w : List Class) → KeepsRules w → KeepsImported w
    → ImportedCallsAgree w) (packages : List Package) (is : SelectTogether packages)
    (each : (q : ℕ) (p : Package) → slice_get packages q ≡ Some p → AloneLaws p) (fair : FacesStand packages) where
  abbrev l : Loaded
  l = loaded_together packages

  abbrev w : List Class
  w = world_together packages

  -- its own interfaces ask for methods that can be selected
  ask : (q : ℕ) (p : Package) → slice_get packages q ≡ Some p → InterfacesAsk false (world p)
  ask q p here y i known it own k m there initial = (open_parts m.flags (fair.opened q k p y i m here known it there
      initial)).0

  module _ (y : List ℕ) (d : Class) (at : StandsAt packages y d) where
    abbrev p : Package
    p = at.«package»

    abbrev v : List Class
    v = world p

    abbrev i : Class
    i = at.class

    its : AloneLaws p
    its = each at.part p at.here

    its_keeps : Keeps v
    its_keeps = let a = its in let r = a.runs in let k = r.runnable in k.keeps

    its_imported : ImportedCallsAgree v
    its_imported = let k = its_keeps in imported_calls v k.rules k.imported

    -- what is an interface is one on the card
    pub kind_is : card.is_interface l (class_together packages y) ≡ is_interface d.flags
    kind_is =
        let a = its in
        let r = a.runs in
        let k = r.runnable in
        at.kind_alone
        ∙ sends.interface_is r.list p k.sound a.facts k.subtypes k.tokens (says_kinds r.list p k.sound)
        (kinds_agree r.list p k.sound) (names_agree r.list p k.sound) its_imported (place p)
        (begins forms offsets p its) y i at.known
        ∙ sym (ap is_interface at.same_flags)

    module _ (it : is_interface d.flags ≡ true) (id : MemberId) where
      face : is_interface i.flags ≡ true
      face = sym (ap is_interface at.same_flags) ∙ it

      -- the place of the method in the package
      abbrev pub place_in : Option ℕ
      place_in = position (λ s. same s (signature id)) (interface_methods v i)

      -- a constructor or an initialiser has no token
      pub special_token : is_special (signature id) ≡ true → interface_token l (class_together packages y) id ≡ None
      special_token special =
          let a = its in
          let r = a.runs in
          let k = r.runnable in
          let j = r.joined in
          at.token_alone id
          ∙ interfaces.special_token r.list p k.sound a.facts k.subtypes k.tokens j.exports (says_kinds r.list p
          k.sound) (kinds_agree r.list p k.sound) (names_agree r.list p k.sound) its_imported (λ u b c. (
            told_above u b c,
            above_told u b c,
          )) (place p) (begins forms offsets p its) (ask at.part p at.here)
          (fair.sends at.part p at.here) id special y i at.known face

      -- java/lang/Object is listed as its superclass
      pub lists_object : Lists object d.supers
      lists_object = subst (Lists object) (sym at.same_supers) (by i.supers refl)
        where
          off : false ≡ true → ⊥
          off e = cc

          by : (xs : List (List ℕ)) → i.supers ≡ xs → Lists object xs
          by [] e =
              let a = its in
              let r = a.runs in
              let k = r.runnable in
              let f = a.facts in
              absurd (off (ap (stands object) (sym (ap (supertypes v) e ∙ f.one_supertypes [] (supertypes v [])
              End (f.are_supertypes []) ends)) ∙ root.object_above r.list p k.sound f y
              i at.known face))
          by (x ∷ xs) e =
              let a = its in
              let r = a.runs in
              let k = r.runnable in
              subst (λ s. Lists object (s ∷ xs)) (sym (root.only_object r.list p k.sound a.facts y x i at.known face
              (subst (Lists x) (sym e) foremost))) foremost

      module _ (initial : is_initialiser id.name ≡ false) (ordinary : is_constructor id.name ≡ false) where
        abbrev finds : Class → Option Found
        finds = own_method false id.name id.desc

        pub token_is : interface_token l (class_together packages y) id ≡ place_in
        token_is =
            let a = its in
            let r = a.runs in
            let k = r.runnable in
            let j = r.joined in
            at.token_alone id
            ∙ interfaces.card_token r.list p k.sound a.facts k.subtypes k.tokens j.exports (says_kinds r.list p k.sound)
            (kinds_agree r.list p k.sound) (names_agree r.list p k.sound) its_imported (λ u b c. (
              told_above u b c,
              above_told u b c,
            )) (place p) (begins forms offsets p its) (ask at.part p at.here)
            (fair.sends at.part p at.here) id initial ordinary y i at.known face

        -- a method that it declares has a place
        pub own_placed : (k : ℕ) (m : Member) → slice_get d.methods k ≡ Some m → m.name ≡ id.name → m.desc ≡ id.desc
            → (t : ℕ) × (place_in ≡ Some t)
        own_placed n m there name desc =
            let a = its in
            let r = a.runs in
            let k = r.runnable in
            let j = r.joined in
            interfaces.own_place r.list p k.sound a.facts k.subtypes k.tokens j.exports (says_kinds r.list p k.sound)
            (kinds_agree r.list p k.sound) (names_agree r.list p k.sound) its_imported (λ u b c. (
              told_above u b c,
              above_told u b c,
            )) (place p) (begins forms offsets p its) (ask at.part p at.here)
            (fair.sends at.part p at.here) id initial ordinary i (ap (class_named v) (class_named-name v y i at.known)
            ∙ at.known) face n m (ap (λ (ms : List Member). slice_get ms n) (sym at.same_methods) ∙ there) name desc

        -- one that has a place is declared by it or above it
        pub placed_declared : (t : ℕ) → place_in ≡ Some t → IsDeclaredByFace w y id.name id.desc
        placed_declared t e =
            let a = its in
            let r = a.runs in
            let k = r.runnable in
            let j = r.joined in
            ⊎_elim of_itself of_above
            (interfaces.place_finds r.list p k.sound a.facts k.subtypes k.tokens j.exports (says_kinds r.list p k.sound)
            (kinds_agree r.list p k.sound) (names_agree r.list p k.sound) its_imported (λ u b c. (
              told_above u b c,
              above_told u b c,
            )) (place p) (begins forms offsets p its) (ask at.part p at.here)
            (fair.sends at.part p at.here) id i t e)
          where
            its_order : IsOrdered v
            its_order = is.ordered.each at.part p.files (together_at packages is.linked at.part p at.here)

            stays : (z : List ℕ) → Below v y z → Below w y z
            stays z way = ⊎_elim (λ one. inl one) (λ far. inr (above_stays (files_together packages) (packages_apart
                packages is.linked) (apart_outside packages is.linked) is.supers.imports at.part p.files
                (together_at packages is.linked at.part p at.here) y z far)) way

            -- of an interface at or above it
            of_one : (z : List ℕ) (c : Class) → class_named v z ≡ Some c → is_interface c.flags ≡ true → Below v y z
                → (f : Found) → finds c ≡ Some f → IsDeclaredByFace w y id.name id.desc
            of_one z c known it way f found =
                let m = own_at false id.name id.desc c f found in
                let x = m.member in
                let open_one = fair.opened at.part m.place p z c x at.here known it m.is_member (ap is_initialiser
                m.has_name ∙ initial) in
                let d = fair.declared at.part m.place p z c x at.here known it m.is_member open_one (ap is_constructor
                m.has_name ∙ ordinary) in
                declared_as w y z (stays z way) x.name x.desc id.name id.desc m.has_name m.has_desc d.0 d.1

            of_itself : (f : Found) × (finds i ≡ Some f) → IsDeclaredByFace w y id.name id.desc
            of_itself (f, found) = of_one y i at.known face (inl refl) f found

            of_above : (f : Found) × (first finds (known (gathered false (supertypes v i.supers) ++ gathered true
                (supertypes v i.interfaces))) ≡ Some f) → IsDeclaredByFace w y id.name id.desc
            of_above (f, found) =
                let a = its in
                let r = a.runs in
                let k = r.runnable in
                let j = r.joined in
                let b = a.facts in
                let all = interfaces.listed_are r.list p k.sound b k.subtypes k.tokens j.exports (says_kinds r.list p
                k.sound) (kinds_agree r.list p k.sound) (names_agree r.list p k.sound) its_imported (λ u b c. (
                  told_above
                      u b c,
                  above_told u b c,
                )) (place p) (begins forms offsets p its) (ask at.part p at.here)
                (fair.sends at.part p at.here) id y i at.known in
                let one = first_has finds (known (gathered false (supertypes v (y ∷ [])))) f (ap (first finds) all
                ∙ found) in
                let up = gathered_above v its_order false (y ∷ []) (supertypes v (y ∷ [])) one.0 (b.are_supertypes (y
                ∷ [])) (λ no. absurd (off no)) one.1 in
                of_one (let z = one.0 in z.name) one.0 up.3 up.4 (subst (λ x. Below v x (let z = one.0 in z.name))
                (only up.0 y up.1) up.2) f one.2
              where
                off : false ≡ true → ⊥
                off e = cc
