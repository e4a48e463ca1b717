-- What a script sends begins by token as by name, whatever the object is and whatever class, interface and method it
-- names.
use Rattle.std.proofs.Common.{◌≡◌, ℕ, zero, suc, ◌≤◌, refl, sym, ap, subst, ◌∙◌, arith, Bool, true, false, List, []}
use Rattle.std.proofs.Common.{◌∷◌, inl, inr, ⊎_elim}
use Rattle.std.specs.Str.{bytes_eq}
use Rattle.std.specs.Prelude.{◌⊎◌, ◌↔◌, not, Option, Some, None, is_some, option_map, option_and_then, ◌&&◌, ◌||◌}
use Rattle.std.specs.Prelude.{if◌then◌else◌}
use Rattle.cjc_bytes.specs.AccessFlags.{is_abstract, is_interface}
use Rattle.cjc_card_semantics.specs.Bytecode.Renaming.{shape_as}
use Rattle.cjc_bytes.specs.declared.fault.MemberId.{MemberId}
use Rattle.cjc_bytes.proofs.Bools.{or_true}
use Rattle.cjc_jvm_semantics.specs.Linked.{Method}
use Rattle.cjc_jvm_semantics.specs.OnePackage.{ResolvedMember, is_constructor, is_initialiser, is_sendable, method_at}
use Rattle.cjc_jvm_semantics.specs.OnePackage.{method_hit, select_in, sent_named}
use Rattle.cjc_token_proof.specs.ByToken.Above.{IsAtOrAbove}
use Rattle.cjc_token_proof.specs.ByToken.Names.{NamesAgree}
use Rattle.cjc_token_proof.specs.ByToken.Supers.{KindsAgree, SaysKinds}
use Rattle.cjc_token_proof.specs.Calls.Dispatching.{SaysTower, of_file, of_package, selection_of}
use Rattle.cjc_token_proof.specs.Calls.Reaching.{BeginsAtOffsets}
use Rattle.cjc_token_proof.specs.Calls.Selecting.{signature}
use Rattle.cjc_card_semantics.specs.Machine.Calls.{found_token, interface_token, sent, sent_by, sent_to, start_selected}
use Rattle.cjc_card_semantics.specs.Machine.Calls.{through, through_first, token_or}
use Rattle.cjc_card_semantics.specs.Machine.Classes.{depth, is_kind_of, object_class}
use Rattle.cjc_card_semantics.specs.Machine.Classes as card
use Rattle.cjc_card_semantics.specs.Machine.Dispatch.{NotFound, Selection, Token}
use Rattle.cjc_card_semantics.specs.Machine.Loaded.{Loaded}
use Rattle.cjc_components.specs.Descriptor.{method_descriptor}
use Rattle.cjc_components.specs.Methods.{method_offset}
use Rattle.cjc_components.specs.Package.{Package, world}
use Rattle.cjc_ncode.specs.Lowering.Naming.{Naming}
use Rattle.cjc_ncode.specs.Lowering.Placed.{Placed}
use Rattle.cjc_script.specs.Sorts.{Shape, OfClass, OfNumbers, OfReferences, shape_name}
use Rattle.cjc_token_proof.specs.Tables.Loading.{naming}
use Rattle.cjc_token_proof.specs.Tables.Sound.{IsSound}
use Rattle.cjc_tokens.specs.Members.{has, is_virtual}
use Rattle.cjc_tokens.specs.Members as members
use Rattle.cjc_tokens.specs.Methods.{interface_methods}
use Rattle.cjc_vtable.proofs.Asked.{has-here}
use Rattle.cjc_vtable.specs.Calls.{is_special}
use Rattle.cjc_vtable.specs.Laws.{ImportedCallsAgree, Under, selection}
use Rattle.cjc_world.specs.Classes.{Class, class_named}
use Rattle.cjc_world.specs.Interfaces.{gathered, known}
use Rattle.cjc_world.specs.Supertypes.{supertypes, line, stands, upwards}
use Rattle.cjc_world.specs.Lookup.{find_method, first, is_selectable, object, own_method}
use Rattle.cjc_world.specs.Lookup as lookup
use Rattle.cjc_world.specs.Subtype.{is_subtype}
use Rattle.cjc_world.specs.declared.found.Found.{Found}
use Rattle.cjc_world.proofs.Cycles.{class_named-name}
use Rattle.cjc_token_proof.proofs.WrittenCalls.Facts.{Facts}
use Rattle.cjc_token_proof.proofs.WrittenCalls.Found.{line_named}
use Rattle.cjc_token_proof.proofs.WrittenCalls.Receivers.{first_step}
use Rattle.cjc_token_proof.proofs.WrittenCalls.Towers.{class_stands, height_fits, line_is}
use Rattle.cjc_token_proof.specs.WrittenCalls.Calls.{ExportsKeep, KeepsSubtypes, KeepsTokens, Receives, numbers, one_of}
use Rattle.cjc_token_proof.specs.WrittenCalls.Calls.{references}
use Rattle.cjc_token_proof.proofs.WrittenSends.Found as sought
use Rattle.cjc_token_proof.proofs.WrittenSends.Interfaces as interfaces
use Rattle.cjc_token_proof.proofs.WrittenSends.Root.{above_interface, object_above, only_object}
use Rattle.cjc_token_proof.proofs.WrittenSends.Sent as sends
use Rattle.cjc_token_proof.specs.WrittenSends.Sends.{ExportsSend, InterfacesAsk}

module _ (list : List ℕ) (p : Package) (sound : IsSound list p.files) (facts : Facts p) (subtypes : KeepsSubtypes
    (world p)) (tokens : KeepsTokens (world p)) (keep : ExportsKeep p) (kinds : SaysKinds (world p) (naming p))
    (kinds_agree : KindsAgree (world p) (naming p)) (names_agree : NamesAgree (world p) (naming p))
    (imported_calls : ImportedCallsAgree (world p)) (told_kinds : (l : Loaded) (c d : card.Class)
    → (is_kind_of l c d ≡ true) ↔ IsAtOrAbove l c d)
    (place : Method → Placed) (begins : BeginsAtOffsets p.files (world p) (naming p) (method_offset p) place)
    (ask : InterfacesAsk false (world p)) (send : ExportsSend p) where
  abbrev w : List Class
  w = world p

  abbrev n : Naming
  n = naming p

  abbrev begun : Option Method
      → Option (Rattle.cjc_card_semantics.specs.Bytecode.Machine.Start
      Rattle.cjc_card_semantics.specs.Machine.Methods.Code)
  begun o = sends.begun list p sound facts subtypes tokens kinds kinds_agree names_agree imported_calls place begins o

  abbrev sent_of : Shape (List ℕ) → MemberId → (sub : Bool) → Option Found → Option Method
  sent_of kind id sub o = sends.sent_of list p sound facts subtypes tokens kinds kinds_agree names_agree imported_calls
      place begins kind id sub o

  -- the interfaces behind the line of a name
  abbrev behind : List ℕ → List Class
  behind y = known (gathered false (supertypes w (y ∷ [])))

  module _ (id : MemberId) where
    abbrev finds : Class → Option Found
    finds = own_method false id.name id.desc

    abbrev Told : List ℕ → Option Found → Option (Option Token) → Type 0
    Told y o t = sought.Told list p sound facts tokens kinds imported_calls id y o t

    abbrev Sends : Found → Bool → Type 0
    Sends f b = sought.Sends list p sound facts tokens kinds imported_calls id f b

    find_is : find_method w id.class id.name id.desc ≡ lookup.or_else (first finds (line w id.class))
        (first finds (behind id.class))
    unfolding find_method
    find_is = refl

    object_told : Told object (first finds (line w object)) (found_token n.loaded (suc (depth n.loaded))
        (object_class n.loaded) id)
    object_told =
        let o = facts.object_class in
        subst (λ q. Told object (first finds (line w object)) (found_token n.loaded (suc (depth n.loaded)) q id))
        (sym kinds.object_class)
        (sought.files_told list p sound facts tokens kinds imported_calls id object o.0 o.1 o.2 o.3 (depth n.loaded))

    -- by token, by the name of a class
    class_token_sent : (d : Class) → class_named w id.class ≡ Some d → is_interface d.flags ≡ false
        → (o : Option card.Class) → sent_to n.loaded o (n.class id.class) id ≡ sent_by n.loaded o (n.class id.class) id
        (found_token n.loaded (suc (depth n.loaded)) (Some (n.class id.class)) id)
    class_token_sent d named named_class o =
        ap (λ t. if t then through n.loaded o (n.class id.class) (interface_token n.loaded (n.class id.class) id)
        (sent_by n.loaded o (n.class id.class) id (found_token n.loaded (suc (depth n.loaded))
        (object_class n.loaded) id)) else sent_by n.loaded o (n.class id.class) id
        (found_token n.loaded (suc (depth n.loaded)) (Some (n.class id.class)) id))
        (sends.interface_is list p sound facts subtypes tokens kinds kinds_agree names_agree imported_calls place begins
        id.class d named ∙ named_class)

    -- by the name of an interface
    interface_token_sent : (d : Class) → class_named w id.class ≡ Some d → is_interface d.flags ≡ true
        → (o : Option card.Class) → (t : Option ℕ) → interface_token n.loaded (n.class id.class) id ≡ t
        → sent_to n.loaded o (n.class id.class) id ≡ through n.loaded o (n.class id.class) t
        (sent_by n.loaded o (n.class id.class) id (found_token n.loaded (suc (depth n.loaded)) (object_class n.loaded)
        id))
    interface_token_sent d named named_here o t is =
        ap (λ b. if b then through n.loaded o (n.class id.class) (interface_token n.loaded (n.class id.class) id)
        (sent_by n.loaded o (n.class id.class) id (found_token n.loaded (suc (depth n.loaded))
        (object_class n.loaded) id)) else sent_by n.loaded o (n.class id.class) id
        (found_token n.loaded (suc (depth n.loaded)) (Some (n.class id.class)) id))
        (sends.interface_is list p sound facts subtypes tokens kinds kinds_agree names_agree imported_calls place begins
        id.class d named ∙ named_here)
        ∙ ap (λ q. through n.loaded o (n.class id.class) q (sent_by n.loaded o (n.class id.class) id
        (found_token n.loaded (suc (depth n.loaded)) (object_class n.loaded) id))) is

    module _ (x : List ℕ) (c : Class) (e : class_named w x ≡ Some c) (class_here : is_interface c.flags ≡ false)
        (own : c.is_imported ≡ false) (made : is_abstract c.flags ≡ false) where
      abbrev receiving : Option card.Class
      receiving = Some (n.class x)

      -- it begins as what is found is sent
      abbrev Begins : Selection → Option Found → Type 0
      Begins s o = start_selected n.loaded s ≡ begun (sent_of (OfClass x) id true o)

      sends_nothing : (f : Found) → Sends f false → begun (sent_of (OfClass x) id true (Some f)) ≡ None
      sends_nothing f b =
          ap (λ q. begun (option_and_then (λ (hit : ResolvedMember). if is_sendable id hit && true
          then option_and_then (method_at p.files) (select_in w x id) else None) q)) b.there
          ∙ ap (λ q. begun (if q && true then option_and_then (method_at p.files) (select_in w x id) else None)) b.is

      -- ---- by the name of a class or interface: a method that is no constructor and no initialiser

      module _ (plain : is_initialiser id.name ≡ false) (not_constructor : is_constructor id.name ≡ false) where
        sends_selected : (f g : Found) → Sends f true → selection w x (signature id) ≡ Some g
            → begun (sent_of (OfClass x) id true (Some f)) ≡ begun (method_at p.files g)
        sends_selected f g b is =
            ap (λ q. begun (option_and_then (λ (hit : ResolvedMember). if is_sendable id hit && true
            then option_and_then (method_at p.files) (select_in w x id) else None) q)) b.there
            ∙ ap (λ q. begun (if q && true then option_and_then (method_at p.files) (select_in w x id) else None)) b.is
            ∙ ap (λ q. begun (option_and_then (method_at p.files) q)) (sends.itself_selected list p sound facts subtypes
            tokens kinds kinds_agree names_agree imported_calls place begins id plain x c e class_here ∙ is)

        chosen_begins : (z : List ℕ) (g : Found) → selection w x (signature id) ≡ Some g
            → start_selected n.loaded (selection_of n (method_offset p) z (signature id) g)
            ≡ begun (method_at p.files g)
        chosen_begins z g is = sends.chosen_begins list p sound facts subtypes tokens kinds kinds_agree names_agree
            imported_calls place begins id plain x c e class_here z g is

        abbrev place_in : Class → Option ℕ
        place_in i = interfaces.place_in list p sound facts subtypes tokens keep kinds kinds_agree names_agree
            imported_calls told_kinds place begins ask send id i

        -- what is found over superclasses of a class; where nothing is, what is found otherwise
        told_sent : (y : List ℕ) → Under w x y → (at : card.Class) (o : Option Found) (t : Option (Option Token))
            → Told y o t → (other : Option Found)
            → (o ≡ None → Begins (through_first n.loaded receiving (card.upwards n.loaded at) id) other)
            → Begins (sent_by n.loaded receiving at id t) (lookup.or_else o other)
        told_sent y under at o t sought.nowhere other on = on refl
        told_sent y under at o t (sought.bound {f = f} b) other on = sym (sends_nothing f b)
        told_sent y under at o t (sought.bears {f = f} {t = token} b dispatches) other on =
            let r = dispatches x c e class_here under in
            ap (start_selected n.loaded) r.2
            ∙ chosen_begins (let q = class_stands p facts x c e class_here in q.foot) r.0 r.1
            ∙ sym (sends_selected f r.0 b r.1)

        -- what interfaces behind the line have
        behind_sent : (y0 : List ℕ) (d : Class) (named : class_named w y0 ≡ Some d) → is_subtype w x y0 ≡ true
            → ((y : List ℕ) (i : Class) → class_named w y ≡ Some i → is_interface i.flags ≡ true
            → is_subtype w y0 y ≡ true → (t : ℕ) → place_in i ≡ Some t → (f : Found)
            × (first finds (behind y0) ≡ Some f))
            → Begins (through_first n.loaded receiving (card.upwards n.loaded (n.class y0)) id)
            (first finds (behind y0))
        behind_sent y0 d named sub found_by =
            by (through_first n.loaded receiving (card.upwards n.loaded (n.class y0)) id)
            (interfaces.scanned list p sound facts subtypes tokens keep kinds kinds_agree names_agree imported_calls
            told_kinds place begins ask send id plain not_constructor y0 d named x c e class_here own made sub)
            (first finds (behind y0)) refl
          where
            offered : (f : Found) → first finds (behind y0) ≡ Some f → interfaces.Offered list p sound facts subtypes
                tokens keep kinds kinds_agree names_agree imported_calls told_kinds place begins ask send id plain
                not_constructor y0 d named f
            offered f is = interfaces.found_offered list p sound facts subtypes tokens keep kinds kinds_agree
                names_agree imported_calls told_kinds place begins ask send id plain not_constructor y0 d named f is

            by : (v : Selection) → interfaces.Scanned list p sound facts subtypes tokens keep kinds kinds_agree
                names_agree imported_calls told_kinds place begins ask send id plain not_constructor y0 d named x c e
                class_here own made sub (card.upwards n.loaded (n.class y0)) v
                → (o : Option Found) → first finds (behind y0) ≡ o → Begins v o
            by v (interfaces.none_has h) None is = refl
            by v (interfaces.none_has h) (Some f) is =
                let q = offered f is in
                let above : card.is_in (n.class q.name) (card.upwards n.loaded (n.class y0)) ≡ true =
                kinds_agree (OfClass y0) (OfClass q.name) (ap is_some named) (ap is_some q.there) ∙ q.kind in
                let clash : Some q.token ≡ None = sym q.is ∙ h q.name q.interface q.there q.here above in absurd (cc)
            by v (interfaces.one_has y i known_i here kind t there g selected) None is =
                let r = found_by y i known_i here kind t there in
                let clash : None ≡ Some r.0 = sym is ∙ r.1 in absurd (cc)
            by v (interfaces.one_has y i known_i here kind t there g selected) (Some f) is =
                let q = offered f is in
                chosen_begins (let r = class_stands p facts x c e class_here in r.foot) g selected
                ∙ sym (sends_selected f g q.sends selected)

        -- by the name of a class
        class_sent : (d : Class) → class_named w id.class ≡ Some d → is_interface d.flags ≡ false
            → is_subtype w x id.class ≡ true → Begins (sent_to n.loaded receiving (n.class id.class) id)
            (find_method w id.class id.name id.desc)
        class_sent d named named_class sub =
            let q = class_stands p facts id.class d named named_class in
            let told = sought.line_told list p sound facts tokens kinds imported_calls id plain q.tower d named
            named_class (depth n.loaded) (height_fits p facts id.class d named q) in
            ap (start_selected n.loaded) (class_token_sent d named named_class receiving)
            ∙ told_sent id.class (subtypes.climbs x id.class c d e class_here named named_class sub) (n.class id.class)
            (first finds (line w id.class)) (found_token n.loaded (suc (depth n.loaded)) (Some (n.class id.class))
            id) told (first finds (behind id.class))
            (λ none. behind_sent id.class d named sub (λ y i known_i here kind t is. interfaces.token_found list p sound
            facts subtypes tokens keep kinds kinds_agree names_agree imported_calls told_kinds place begins ask send
            id plain not_constructor id.class d named named_class y i known_i here kind t is))
            ∙ ap (λ o. begun (sent_of (OfClass x) id true o)) (sym find_is)

        -- by the name of an interface
        module _ (d : Class) (named : class_named w id.class ≡ Some d) (named_here : is_interface d.flags ≡ true)
            (sub : is_subtype w x id.class ≡ true) where
          own_known : class_named w d.name ≡ Some d
          own_known = ap (class_named w) (class_named-name w id.class d named) ∙ named

          line_here : first finds (line w id.class) ≡ lookup.or_else (finds d) (first finds (line w object))
          line_here =
              ap (first finds) (line_is p facts id.class d named) ∙ first_step finds d (upwards (supertypes w d.supers))
              ∙ ap (lookup.or_else (finds d)) (above_interface list p sound facts finds id.class d named named_here)

          found_is : (o : Option Found) → finds d ≡ o → find_method w id.class id.name id.desc
              ≡ lookup.or_else (lookup.or_else o (first finds (line w object))) (first finds (behind id.class))
          found_is o is = find_is ∙ ap (λ q. lookup.or_else q (first finds (behind id.class))) (line_here
              ∙ ap (λ q. lookup.or_else q (first finds (line w object))) is)

          own_sends : (f : Found) → finds d ≡ Some f → Sends f true
          own_sends f is =
              let q = sought.class_chosen list p sound facts tokens kinds imported_calls id d f is in
              let virtual = interfaces.asked_virtual list p sound facts subtypes tokens keep kinds kinds_agree
              names_agree imported_calls told_kinds place begins ask send id plain not_constructor d.name d
              own_known named_here q.1 q.0 q.2 q.4 in
              subst (Sends f) virtual (sought.sends_of list p sound facts tokens kinds imported_calls id d q.1 q.0 f
              own_known q.2 q.4 q.3)

          own_lacks : place_in d ≡ None → (o : Option Found) → finds d ≡ o → o ≡ None
          own_lacks none None is = refl
          own_lacks none (Some f) is =
              let q = sought.class_chosen list p sound facts tokens kinds imported_calls id d f is in
              let r = interfaces.own_place list p sound facts subtypes tokens keep kinds kinds_agree names_agree
              imported_calls told_kinds place begins ask send id plain not_constructor d own_known named_here q.1
              q.0 q.2 q.4 q.5 in
              let clash : None ≡ Some r.0 = sym none ∙ r.1 in absurd (cc)

          object_sends : (t : ℕ) → place_in d ≡ Some t → (f : Found) → first finds (line w object) ≡ Some f
              → Sends f true
          object_sends t there f is =
              let r = sought.classes_some list p sound facts tokens kinds imported_calls id (line w object) f
              (line_named w object) is in
              let listed : has (interface_methods w d) (signature id) ≡ true = has-here (interface_methods w d) t
              (signature id) (interfaces.position_is (interface_methods w d) (signature id) t there) in
              let open_one = send.objects id.class d named named_here r.method r.among (ap (has (interface_methods w d))
              r.names ∙ listed) in
              let virtual : is_virtual r.method ≡ true =
              ap (λ b. b && not (members.is_constructor (let m = r.method in m.name)
              || members.is_initialiser (let m = r.method in m.name))) open_one
              ∙ ap (λ (v : members.Signature). not (members.is_constructor v.name || members.is_initialiser v.name))
              r.names
              ∙ ap (λ b. not (b || members.is_initialiser id.name)) not_constructor ∙ ap not plain in
              subst (Sends f) virtual r.sends

          -- a method that the interface has by token is found by name
          named_found : (t : ℕ) → place_in d ≡ Some t → (f : Found) × (find_method w id.class id.name id.desc ≡ Some f)
              × Sends f true
          named_found t there = by (finds d) refl (first finds (line w object)) refl
            where
              by : (o : Option Found) → finds d ≡ o → (q : Option Found) → first finds (line w object) ≡ q → (f : Found)
                  × (find_method w id.class id.name id.desc ≡ Some f) × Sends f true
              by (Some f) is q at_object = (f, found_is (Some f) is, own_sends f is)
              by None is (Some f) at_object = (
                f,
                found_is None is
                    ∙ ap (λ q. lookup.or_else q (first finds (behind id.class))) at_object,
                object_sends t there f at_object,
              )
              by None is None at_object =
                  ⊎_elim
                  (λ f. (let clash : None ≡ Some f.0 = sym is ∙ f.1 in absurd (cc)))
                  (λ f.
                  (let at : first finds (behind id.class) ≡ Some f.0 = ap (first finds) (interfaces.listed_are list p
                  sound facts subtypes tokens keep kinds kinds_agree names_agree imported_calls told_kinds place
                  begins ask send id id.class d named) ∙ f.1 in
                  let q = interfaces.found_offered list p sound facts subtypes tokens keep kinds kinds_agree names_agree
                  imported_calls told_kinds place begins ask send id plain not_constructor id.class d named f.0 at
                  in (
                    f.0,
                    found_is None is ∙ ap (λ q. lookup.or_else q (first finds (behind id.class))) at_object
                        ∙ at,
                    q.sends,
                  )))
                  (interfaces.place_finds list p sound facts subtypes tokens keep kinds kinds_agree names_agree
                  imported_calls told_kinds place begins ask send id d t there)

          -- an object that is of the interface is one of java/lang/Object
          sub_object : is_subtype w x object ≡ true
          sub_object =
              let o = facts.object_class in
              let here = ap is_some named in
              let there = ap is_some o.1 in
              let top : stands object (supertypes w d.supers) ≡ true = object_above list p sound facts id.class d named
              named_here in
              let over : is_subtype w id.class object ≡ true =
              interfaces.subtype_is w id.class object (kinds.no_array id.class here) (kinds.no_array object there)
              ∙ ap (stands object) (interfaces.supertypes_is list p sound facts subtypes tokens keep kinds kinds_agree
              names_agree imported_calls told_kinds place begins ask send id id.class d named)
              ∙ interfaces.or_left ((bytes_eq d.name object || stands object (supertypes w d.supers))
              || stands object (supertypes w d.interfaces)) false
              (interfaces.or_left (bytes_eq d.name object || stands object (supertypes w d.supers))
              (stands object (supertypes w d.interfaces))
              (interfaces.or_right (bytes_eq d.name object) (stands object (supertypes w d.supers)) top)) in
              interfaces.above_kind list p sound facts subtypes tokens keep kinds kinds_agree names_agree imported_calls
              told_kinds place begins ask send id x object (ap is_some e) there
              (interfaces.above_then list p sound facts subtypes tokens keep kinds kinds_agree names_agree
              imported_calls told_kinds place begins ask send id (n.class x) (n.class id.class) (n.class object)
              (interfaces.kind_above list p sound facts subtypes tokens keep kinds kinds_agree names_agree
              imported_calls told_kinds place begins ask send id x id.class (ap is_some e) here sub)
              (interfaces.kind_above list p sound facts subtypes tokens keep kinds kinds_agree names_agree
              imported_calls told_kinds place begins ask send id id.class object here there over))

          interface_sent : Begins (sent_to n.loaded receiving (n.class id.class) id) (find_method w id.class id.name
              id.desc)
          interface_sent = by (place_in d) refl
            where
              token_is : interface_token n.loaded (n.class id.class) id ≡ place_in d
              token_is = interfaces.card_token list p sound facts subtypes tokens keep kinds kinds_agree names_agree
                  imported_calls told_kinds place begins ask send id plain not_constructor id.class d named named_here

              by : (o : Option ℕ) → place_in d ≡ o → Begins (sent_to n.loaded receiving (n.class id.class) id)
                  (find_method w id.class id.name id.desc)
              by (Some t) there =
                  let r = interfaces.interface_dispatches list p sound facts subtypes tokens keep kinds kinds_agree
                  names_agree imported_calls told_kinds place begins ask send id plain not_constructor x c e
                  class_here own made id.class d named named_here sub t there in
                  let f = named_found t there in
                  ap (start_selected n.loaded) (interface_token_sent d named named_here receiving (Some t) (token_is
                  ∙ there) ∙ r.2)
                  ∙ chosen_begins (let q = class_stands p facts x c e class_here in q.foot) r.0 r.1
                  ∙ sym (ap (λ o. begun (sent_of (OfClass x) id true o)) f.1 ∙ sends_selected f.0 r.0 f.2 r.1)
              by None none =
                  let o = facts.object_class in
                  ap (start_selected n.loaded) (interface_token_sent d named named_here receiving None (token_is
                  ∙ none))
                  ∙ told_sent object (subtypes.climbs x object c o.0 e class_here o.1 o.3 sub_object) (n.class id.class)
                  (first finds (line w object)) (found_token n.loaded (suc (depth n.loaded)) (object_class n.loaded)
                  id) object_told (first finds (behind id.class))
                  (λ nowhere. behind_sent id.class d named sub (λ y i known_i here kind t is. interfaces.above_found
                  list p sound facts subtypes tokens keep kinds kinds_agree names_agree imported_calls told_kinds
                  place begins ask send id plain not_constructor (only_object list p sound facts) y i known_i here t
                  is id.class d named
                  named_here none kind))
                  ∙ ap (λ q. begun (sent_of (OfClass x) id true q))
                  (sym (found_is None (own_lacks none (finds d) refl)))

      -- ---- a constructor or an initialiser: none by both

      module _ (special : is_special (signature id) ≡ true) where
        unsendable : (hit : ResolvedMember) → is_sendable id hit ≡ false
        unsendable hit = by (is_selectable hit.flags) (is_constructor id.name) (is_initialiser id.name) special
          where
            by : (a b k : Bool) → (b || k) ≡ true → ((a && not b) && not k) ≡ false
            by true true k h = refl
            by true false true h = refl
            by true false false h = absurd (cc)
            by false b k h = refl

        special_name : (o : Option Found) → sent_of (OfClass x) id true o ≡ None
        special_name None = refl
        special_name (Some f) = by (method_hit w f)
          where
            by : (o : Option ResolvedMember) → option_and_then (λ (hit : ResolvedMember). if is_sendable id hit && true
                then option_and_then (method_at p.files) (select_in w x id) else None) o ≡ None
            by None = refl
            by (Some hit) = ap (λ b. if b && true then option_and_then (method_at p.files) (select_in w x id)
                else None) (unsendable hit)

        -- no token, or no method at all
        abbrev IsNone : Option (Option Token) → Type 0
        IsNone t = (t ≡ None) ⊎ (t ≡ Some None)

        told_none : (y : List ℕ) (o : Option Found) (t : Option (Option Token)) → Told y o t → IsNone t
        told_none y o t sought.nowhere = inl refl
        told_none y o t (sought.bound b) = inr refl
        told_none y o t (sought.bears b dispatches) = let clash : false ≡ true = sym (unsendable b.hit) ∙ b.is
            in absurd (cc)

        -- of an initialiser the classes of the package say nothing
        initialiser_none : is_initialiser id.name ≡ true → {h : ℕ} {y foot : List ℕ}
            → SaysTower w n (method_offset p) h y foot → (b : Class) → class_named w y ≡ Some b → is_interface b.flags
            ≡ false → (k : ℕ) → h ≤ k → IsNone (found_token n.loaded (suc k) (Some (n.class y)) id)
        initialiser_none init {y = y} (of_file d known import file) b named_b plain k low =
            let both : Some d ≡ Some b = sym known ∙ named_b in
            let same : d ≡ b = cc in
            told_none y (first finds (line w y)) (found_token n.loaded (suc k) (Some (n.class y)) id)
            (sought.files_told list p sound facts tokens kinds imported_calls id y d known import
            (ap (λ (q : Class). is_interface q.flags) same ∙ plain) k)
        initialiser_none init (of_package d super known own_class listed t rest) b named_b plain zero low =
            absurd (omega (arith, low))
        initialiser_none init {y = y} (of_package d super known own_class listed t rest) b named_b plain (suc k) low =
            let up = facts.super_there y super d known own_class listed in
            subst IsNone
            (sym (sought.step_up list p sound facts tokens kinds imported_calls id y super d k known own_class t
            ∙ ap (λ b. token_or (option_map (λ m. record { part = 0; method = m }) (option_map (method_descriptor p d)
            (if b then None else finds d))) (found_token n.loaded (suc k) (Some (n.class super)) id)) init))
            (initialiser_none init rest up.0 up.1 up.2 k (omega (arith, low)))

        class_none : (d : Class) → class_named w id.class ≡ Some d → is_interface d.flags ≡ false
            → IsNone (found_token n.loaded (suc (depth n.loaded)) (Some (n.class id.class)) id)
        class_none d named named_class = by (is_initialiser id.name) refl
          where
            by : (b : Bool) → is_initialiser id.name ≡ b
                → IsNone (found_token n.loaded (suc (depth n.loaded)) (Some (n.class id.class)) id)
            by true init = let q = class_stands p facts id.class d named named_class
                in initialiser_none init q.tower d named named_class (depth n.loaded) (height_fits p facts id.class d
                named q)
            by false plain =
                let q = class_stands p facts id.class d named named_class in
                told_none id.class (first finds (line w id.class)) (found_token n.loaded (suc (depth n.loaded))
                (Some (n.class id.class)) id)
                (sought.line_told list p sound facts tokens kinds imported_calls id plain q.tower d named named_class
                (depth n.loaded) (height_fits p facts id.class d named q))

        none_sent : (d : Class) → class_named w id.class ≡ Some d → is_subtype w x id.class ≡ true
            → (t : Option (Option Token)) → IsNone t → sent_by n.loaded receiving (n.class id.class) id t ≡ NotFound
        none_sent d named sub t (inl is) =
            subst (λ q. sent_by n.loaded receiving (n.class id.class) id q ≡ NotFound) (sym is)
            (interfaces.special_scanned list p sound facts subtypes tokens keep kinds kinds_agree names_agree
            imported_calls told_kinds place begins ask send id id.class d named x c e class_here own made sub
            special)
        none_sent d named sub t (inr is) = subst (λ q. sent_by n.loaded receiving (n.class id.class) id q ≡ NotFound)
            (sym is) refl

        special_sent : (d : Class) → class_named w id.class ≡ Some d → is_subtype w x id.class ≡ true
            → Begins (sent_to n.loaded receiving (n.class id.class) id) (find_method w id.class id.name id.desc)
        special_sent d named sub = ap (start_selected n.loaded) (by (is_interface d.flags) refl)
            ∙ ap begun (sym (special_name (find_method w id.class id.name id.desc)))
          where
            by : (b : Bool) → is_interface d.flags ≡ b → sent_to n.loaded receiving (n.class id.class) id ≡ NotFound
            by false named_class = class_token_sent d named named_class receiving
                ∙ none_sent d named sub (found_token n.loaded (suc (depth n.loaded)) (Some (n.class id.class)) id)
                (class_none d named named_class)
            by true named_here =
                interface_token_sent d named named_here receiving None (interfaces.special_token list p sound facts
                subtypes tokens keep kinds kinds_agree names_agree imported_calls told_kinds place begins ask send
                id special id.class d named named_here)
                ∙ none_sent d named sub (found_token n.loaded (suc (depth n.loaded)) (object_class n.loaded) id)
                (told_none object (first finds (line w object)) (found_token n.loaded (suc (depth n.loaded))
                (object_class n.loaded) id) object_told)

      -- ---- whatever it is

      begins_alike : (d : Class) → class_named w id.class ≡ Some d → is_subtype w x id.class ≡ true
          → Begins (sent_to n.loaded receiving (n.class id.class) id) (find_method w id.class id.name id.desc)
      begins_alike d named sub = by (is_initialiser id.name) (is_constructor id.name) (is_interface d.flags) refl refl
          refl
        where
          by : (i k h : Bool) → is_initialiser id.name ≡ i → is_constructor id.name ≡ k → is_interface d.flags ≡ h
              → Begins (sent_to n.loaded receiving (n.class id.class) id) (find_method w id.class id.name id.desc)
          by true k h init constructor here = special_sent (ap (λ b. is_constructor id.name || b) init
              ∙ or_true (is_constructor id.name)) d named sub
          by false true h plain constructor here = special_sent (ap (λ b. b || is_initialiser id.name) constructor) d
              named sub
          by false false false plain not_constructor here = class_sent plain not_constructor d named here sub
          by false false true plain not_constructor here = interface_sent plain not_constructor d named here sub

  -- Each method that a script sends begins by token as by name, or is none by both.
  pub sent_same : (kind : Shape (List ℕ)) → Receives w (Some kind) → (id : MemberId)
      → sent n.loaded (shape_as n.class kind) id ≡ begun (sent_named p.files w (shape_name kind) id)
  sent_same kind (one_of {x = x} c e class_here made) id = by c.is_imported refl
    where
      by : (b : Bool) → c.is_imported ≡ b → sent n.loaded (shape_as n.class (OfClass x)) id
          ≡ begun (sent_named p.files w (shape_name (OfClass x)) id)
      by true import = sends.outside_sent list p sound facts subtypes tokens kinds kinds_agree names_agree
          imported_calls place begins (OfClass x) (one_of c e class_here made) id (sends.of_import c e import)
      by false own = sends.by_class list p sound facts subtypes tokens kinds kinds_agree names_agree imported_calls
          place begins (OfClass x) (one_of c e class_here made) id (λ d named sub. begins_alike id x c e class_here own
          (made own) d named sub)
  sent_same kind (numbers {element = element}) id = sends.outside_sent list p sound facts subtypes tokens kinds
      kinds_agree names_agree imported_calls place begins (OfNumbers element) numbers id sends.of_numbers
  sent_same kind (references {x = x}) id = sends.outside_sent list p sound facts subtypes tokens kinds kinds_agree
      names_agree imported_calls place begins (OfReferences x) references id sends.of_references
