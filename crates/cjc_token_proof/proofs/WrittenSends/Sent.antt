-- What a script sends, by token and by name: to arrays and objects of imported classes nothing; and what is selected
-- begins where it stands.
use Rattle.std.proofs.Common.{◌≡◌, ℕ, suc, refl, sym, ap, ◌∙◌, Bool, true, false, List, [], ◌∷◌}
use Rattle.std.specs.Prelude.{Option, Some, None, is_some, option_map, option_and_then, slice_get, ◌&&◌, if◌then◌else◌}
use Rattle.cjc_card_semantics.specs.Bytecode.Alike.{start_as}
use Rattle.cjc_card_semantics.specs.Bytecode.Machine.{Start}
use Rattle.cjc_card_semantics.specs.Bytecode.Renaming.{option_as, shape_as}
use Rattle.cjc_bytes.specs.AccessFlags.{is_interface}
use Rattle.cjc_bytes.specs.declared.fault.MemberId.{MemberId}
use Rattle.cjc_jvm_semantics.specs.Linked.{Method}
use Rattle.cjc_jvm_semantics.specs.OnePackage.{ResolvedMember, is_initialiser, is_sendable, method_at, method_hit}
use Rattle.cjc_jvm_semantics.specs.OnePackage.{method_in, select_in, sent_named}
use Rattle.cjc_token_proof.specs.ByToken.Names.{NamesAgree}
use Rattle.cjc_token_proof.specs.ByToken.Supers.{KindsAgree, SaysKinds}
use Rattle.cjc_token_proof.specs.Calls.Dispatching.{event, selection_of}
use Rattle.cjc_token_proof.specs.Calls.Reaching.{BeginsAtOffsets, start_placed}
use Rattle.cjc_token_proof.specs.Calls.Selecting.{signature}
use Rattle.cjc_card_semantics.specs.Machine.Calls.{found_token, interface_token, sent, sent_by, sent_to, start_selected}
use Rattle.cjc_card_semantics.specs.Machine.Calls.{through, through_first, token_if_interface}
use Rattle.cjc_card_semantics.specs.Machine.Classes.{External, Own, depth, external, is_of, names_of, object_class}
use Rattle.cjc_card_semantics.specs.Machine.Classes.{shape_class}
use Rattle.cjc_card_semantics.specs.Machine.Classes as card
use Rattle.cjc_card_semantics.specs.Machine.Dispatch.{At, Hidden, NotFound, Open, Outward, Selection, Token, dispatched}
use Rattle.cjc_card_semantics.specs.Machine.Dispatch.{dispatched_outward, exported_line, in_files, interface_method}
use Rattle.cjc_card_semantics.specs.Machine.Dispatch.{named_in, of_file, of_names, outward, tower}
use Rattle.cjc_card_semantics.specs.Machine.Loaded.{ClassNames, Loaded, MethodName}
use Rattle.cjc_card_semantics.specs.Machine.Methods.{Code}
use Rattle.cjc_components.specs.Methods.{method_offset}
use Rattle.cjc_components.specs.Names.{class_at as card_class}
use Rattle.cjc_components.specs.Package.{Package, world}
use Rattle.cjc_world.specs.ExportFile.declared.tree.ExportClass.{ExportClass}
use Rattle.cjc_world.specs.ExportFile.declared.tree.ExportMethod.{ExportMethod}
use Rattle.cjc_world.specs.ExportFile.Supers.{virtual_method}
use Rattle.cjc_ncode.specs.Lowering.Naming.{Naming}
use Rattle.cjc_ncode.specs.Lowering.Placed.{Placed, code_of, offset_of}
use Rattle.cjc_script.specs.Sorts.{Element, Booleans, Bytes, Shorts, Ints, Shape, OfClass, OfNumbers, OfReferences}
use Rattle.cjc_script.specs.Sorts.{shape_name}
use Rattle.cjc_token_proof.specs.Tables.Loading.{naming}
use Rattle.cjc_token_proof.specs.Tables.Sound.{IsSound}
use Rattle.cjc_vtable.specs.Laws.{ImportedCallsAgree, selection}
use Rattle.cjc_world.specs.Classes.{Class, class_named}
use Rattle.cjc_world.specs.Supertypes.{Unknown, End, ends, supertypes, line, unknown_here, upwards}
use Rattle.cjc_world.specs.Interfaces.{gathered, known}
use Rattle.cjc_world.specs.Lookup.{find_method, first, object, own_method, receiver, selected}
use Rattle.cjc_world.specs.Lookup as lookup
use Rattle.cjc_world.specs.Subtype.{array_is, element, is_element, is_subtype, starts}
use Rattle.cjc_world.specs.declared.found.Found.{Found}
use Rattle.cjc_world.proofs.Cycles.{class_named-name}
use Rattle.cjc_token_proof.proofs.WrittenCalls.Facts.{Facts}
use Rattle.cjc_token_proof.proofs.WrittenCalls.Files.{first_imported_found}
use Rattle.cjc_token_proof.proofs.WrittenCalls.Found.{first_own, line_named, own_is}
use Rattle.cjc_token_proof.proofs.WrittenCalls.Receivers.{found_stands}
use Rattle.cjc_token_proof.proofs.WrittenCalls.Towers.{line_is}
use Rattle.cjc_token_proof.specs.WrittenCalls.Calls.{KeepsSubtypes, KeepsTokens, Receives, numbers, one_of, references}
use Rattle.cjc_world_proof.proofs.CallsLaws.Types.{receiver_class}

-- ---- objects of imported classes: no method of the package

module _ (l : Loaded) where
  -- nothing of the group begins
  abbrev Nothing : Selection → Type 0
  Nothing s = start_selected l s ≡ None

  outward_nothing : (name : List ℕ) (o : Option ExportMethod) (s : Selection) → Nothing s → Nothing (outward name o s)
  outward_nothing name None s h = h
  outward_nothing name (Some m) s h = refl

  files_nothing_by : (name : List ℕ) (cs : List ExportClass) (t : ℕ) → Nothing (dispatched_outward name cs t)
  files_nothing_by name [] t = refl
  files_nothing_by name (c ∷ cs) t = outward_nothing name (virtual_method t c) (dispatched_outward name cs t)
      (files_nothing_by name cs t)

  files_nothing : (cs : List ExportClass) (t : ℕ) → Nothing (in_files cs t)
  files_nothing [] t = refl
  files_nothing (c ∷ cs) t = files_nothing_by c.name (c ∷ cs) t

  dispatched_nothing : (tree number : ℕ) (t : Token) → Nothing (dispatched (tower l (External tree number)) t)
  dispatched_nothing tree number (Open t) = files_nothing (exported_line l (external l tree number)) t
  dispatched_nothing tree number (Hidden home t) = refl

  named_nothing : (name : List ℕ) (o : Option MethodName) → Nothing (named_in name o)
  named_nothing name None = refl
  named_nothing name (Some m) = refl

  names_nothing : (o : Option ClassNames) (t : ℕ) → Nothing (of_names o t)
  names_nothing None t = refl
  names_nothing (Some c) t = named_nothing c.name (slice_get c.interface_methods t)

  file_nothing : (o : Option ExportClass) (t : ℕ) → Nothing (of_file o t)
  file_nothing None t = refl
  file_nothing (Some c) t = outward_nothing c.name (virtual_method t c) NotFound refl

  method_nothing : (i : card.Class) (t : ℕ) → Nothing (interface_method l i t)
  method_nothing (External tree number) t = file_nothing (external l tree number) t
  method_nothing (Own part offset) t = names_nothing (names_of l part offset) t

  module _ (tree number : ℕ) where
    abbrev receiving : Option card.Class
    receiving = Some (External tree number)

    through_nothing : (i : card.Class) (o : Option ℕ) (other : Selection) → Nothing other
        → Nothing (through l receiving i o other)
    through_nothing i None other h = h
    through_nothing i (Some t) other h = method_nothing i t

    first_nothing : (cs : List card.Class) (id : MemberId) → Nothing (through_first l receiving cs id)
    first_nothing [] id = refl
    first_nothing (c ∷ cs) id = through_nothing c (token_if_interface l c id) (through_first l receiving cs id)
        (first_nothing cs id)

    sent_nothing_by : (named : card.Class) (id : MemberId) (o : Option (Option Token))
        → Nothing (sent_by l receiving named id o)
    sent_nothing_by named id None = first_nothing (card.upwards l named) id
    sent_nothing_by named id (Some None) = refl
    sent_nothing_by named id (Some (Some t)) = dispatched_nothing tree number t

    pub sent_nothing : (named : card.Class) (id : MemberId) → Nothing (sent_to l receiving named id)
    sent_nothing named id = by (card.is_interface l named)
      where
        by : (t : Bool) → Nothing (if t then through l receiving named (interface_token l named id)
            (sent_by l receiving named id (found_token l (suc (depth l)) (object_class l) id))
            else sent_by l receiving named id (found_token l (suc (depth l)) (Some named) id))
        by true = through_nothing named (interface_token l named id) (sent_by l receiving named id
            (found_token l (suc (depth l)) (object_class l) id)) (sent_nothing_by named id
            (found_token l (suc (depth l)) (object_class l) id))
        by false = sent_nothing_by named id (found_token l (suc (depth l)) (Some named) id)

-- an array, or an object of an imported class
pub data IsOutside (w : List Class) : Shape (List ℕ) → Type 0 where
  of_numbers : {element : Element} → IsOutside w (OfNumbers element)
  of_references : {x : List ℕ} → IsOutside w (OfReferences x)
  of_import : {x : List ℕ} (c : Class) → class_named w x ≡ Some c → c.is_imported ≡ true → IsOutside w (OfClass x)

-- arrays are of the same classes
arrays_alike : (w : List Class) (y x : List ℕ) → starts 91 y ≡ false → is_subtype w (shape_name (OfNumbers Booleans)) y
    ≡ is_subtype w (shape_name (OfReferences x)) y
unfolding is_subtype
arrays_alike w y x h =
    ap (λ t. if t then is_element w (element (shape_name (OfNumbers Booleans))) (element y) else array_is w y) h
    ∙ sym (ap (λ t. if t then is_element w (element (shape_name (OfReferences x))) (element y) else array_is w y) h)

module _ (list : List ℕ) (p : Package) (sound : IsSound list p.files) (facts : Facts p) (subtypes : KeepsSubtypes
    (world p)) (tokens : KeepsTokens (world p)) (kinds : SaysKinds (world p) (naming p)) (kinds_agree : KindsAgree
    (world p) (naming p)) (names_agree : NamesAgree (world p) (naming p))
    (imported_calls : ImportedCallsAgree (world p)) (place : Method
    → Placed) (begins : BeginsAtOffsets p.files (world p) (naming p) (method_offset p) place) where
  abbrev w : List Class
  w = world p

  abbrev n : Naming
  n = naming p

  abbrev pub begun : Option Method → Option (Start Code)
  begun o = option_as (start_as (code_of n) (offset_of n)) (option_map (start_placed place) o)

  -- a type is of a class as by name
  kind_is : (kind : Shape (List ℕ)) → Receives w (Some kind) → (y : List ℕ) (d : Class) → class_named w y ≡ Some d
      → is_of n.loaded (shape_as n.class kind) (OfClass (n.class y)) ≡ is_subtype w (shape_name kind) y
  kind_is kind (one_of {x = x} c e not_interface made) y d known = kinds_agree (OfClass x) (OfClass y) (ap is_some e)
      (ap is_some known)
  kind_is kind (numbers {element = element}) y d known = kinds_agree (OfNumbers element) (OfClass y) tt
      (ap is_some known)
  kind_is kind (references {x = x}) y d known = kinds_agree (OfNumbers Booleans) (OfClass y) tt (ap is_some known)
      ∙ arrays_alike w y x (kinds.no_array y (ap is_some known))

  -- an interface on the card is one by name
  pub interface_is : (y : List ℕ) (d : Class) → class_named w y ≡ Some d → card.is_interface n.loaded (n.class y)
      ≡ is_interface d.flags
  interface_is y d known = by d.is_imported refl
    where
      info_kind : (b : Bool)
          → card.is_interface_info (Some (if b then card.IsInterface (Rattle.cjc_components.specs.Class.interface_entry
          (Rattle.cjc_components.specs.Names.class_ref p) w d)
          else card.IsClass (Rattle.cjc_components.specs.Class.class_entry (Rattle.cjc_components.specs.Names.class_ref
          p) p d))) ≡ b
      info_kind true = refl
      info_kind false = refl

      by : (t : Bool) → d.is_imported ≡ t → card.is_interface n.loaded (n.class y) ≡ is_interface d.flags
      by true import =
          let h = facts.file y d known import in
          ap (card.is_interface n.loaded) (sym (ap (card_class p) (class_named-name w y d known)) ∙ h.on_card)
          ∙ ap card.is_interface_file h.there ∙ ap (λ (q : Class). is_interface q.flags) (sym h.class)
      by false own =
          let h = facts.own y d known own in
          ap (card.is_interface n.loaded) (sym (ap (card_class p) (class_named-name w y d known)) ∙ h.on_card)
          ∙ ap card.is_interface_info h.info ∙ info_kind (is_interface d.flags)

  -- ---- by name

  -- what is sent, of what a look-up found
  abbrev pub sent_of : Shape (List ℕ) → MemberId → (sub : Bool) → Option Found → Option Method
  sent_of kind id sub o = option_and_then (λ f. option_and_then (λ (hit : ResolvedMember). if is_sendable id hit && sub
      then option_and_then (method_at p.files) (select_in w (shape_name kind) id) else None) (method_hit w f)) o

  no_sub : (kind : Shape (List ℕ)) (id : MemberId) (o : Option Found) → sent_of kind id false o ≡ None
  no_sub kind id None = refl
  no_sub kind id (Some f) = by (method_hit w f)
    where
      test : (t : Bool) → (if t && false then option_and_then (method_at p.files) (select_in w (shape_name kind) id)
          else None) ≡ None
      test true = refl
      test false = refl

      by : (o : Option ResolvedMember) → option_and_then (λ (hit : ResolvedMember). if is_sendable id hit && false
          then option_and_then (method_at p.files) (select_in w (shape_name kind) id) else None) o ≡ None
      by None = refl
      by (Some hit) = test (is_sendable id hit)

  no_method : (kind : Shape (List ℕ)) (id : MemberId) (sub : Bool) (o : Option Found)
      → option_and_then (method_at p.files) (select_in w (shape_name kind) id) ≡ None → sent_of kind id sub o ≡ None
  no_method kind id sub None lacks = refl
  no_method kind id sub (Some f) lacks = by (method_hit w f)
    where
      test : (t : Bool) → (if t then option_and_then (method_at p.files) (select_in w (shape_name kind) id) else None)
          ≡ None
      test true = lacks
      test false = refl

      by : (o : Option ResolvedMember) → option_and_then (λ (hit : ResolvedMember). if is_sendable id hit && sub
          then option_and_then (method_at p.files) (select_in w (shape_name kind) id) else None) o ≡ None
      by None = refl
      by (Some hit) = test (is_sendable id hit && sub)

  -- in no file nothing is found
  find_none : (y name desc : List ℕ) → class_named w y ≡ None → find_method w y name desc ≡ None
  unfolding find_method line gathered known first
  find_none y name desc nowhere =
      ap (λ k. lookup.or_else (first (own_method false name desc) (upwards k)) (first (own_method false name desc)
      (known (gathered false k))))
      (facts.one_supertypes (y ∷ []) (supertypes w (y ∷ [])) (Unknown y End) (facts.are_supertypes (y ∷ []))
      (unknown_here nowhere ends))

  -- ---- objects of imported classes and arrays

  -- the class whose methods they have
  record Received (kind : Shape (List ℕ)) : Type 0 where
    class : Class
    name : List ℕ
    there : class_named w name ≡ Some class
    import : class.is_imported ≡ true
    on_card : shape_class n.loaded (shape_as n.class kind) ≡ Some (n.class name)
    named : receiver (shape_name kind) ≡ name

  outside_received : (kind : Shape (List ℕ)) → IsOutside w kind → Received kind
  outside_received kind (of_import {x = x} c e import) = record {
    class = c;
    name = x;
    there = e;
    import = import;
    on_card = refl;
    named = receiver_class x (kinds.no_array x (ap is_some e));
  }
  outside_received kind (of_references {x = x}) = let o = facts.object_class in record {
    class = o.0;
    name = object;
    there = o.1;
    import = o.2;
    on_card = kinds.object_class;
    named = refl;
  }
  outside_received kind (of_numbers {element = Booleans}) = let o = facts.object_class in record {
    class = o.0;
    name = object;
    there = o.1;
    import = o.2;
    on_card = kinds.object_class;
    named = refl;
  }
  outside_received kind (of_numbers {element = Bytes}) = let o = facts.object_class in record {
    class = o.0;
    name = object;
    there = o.1;
    import = o.2;
    on_card = kinds.object_class;
    named = refl;
  }
  outside_received kind (of_numbers {element = Shorts}) = let o = facts.object_class in record {
    class = o.0;
    name = object;
    there = o.1;
    import = o.2;
    on_card = kinds.object_class;
    named = refl;
  }
  outside_received kind (of_numbers {element = Ints}) = let o = facts.object_class in record {
    class = o.0;
    name = object;
    there = o.1;
    import = o.2;
    on_card = kinds.object_class;
    named = refl;
  }

  module _ (kind : Shape (List ℕ)) (r : Received kind) (id : MemberId) where
    token_nothing : (named : card.Class)
        → start_selected n.loaded (sent_to n.loaded (shape_class n.loaded (shape_as n.class kind)) named id) ≡ None
    token_nothing named =
        let h = facts.file r.name r.class r.there r.import in
        let here : n.class r.name ≡ External h.file h.entry.token =
        sym (ap (card_class p) (class_named-name w r.name r.class r.there)) ∙ h.on_card in
        ap (λ q. start_selected n.loaded (sent_to n.loaded q named id)) (r.on_card ∙ ap Some here)
        ∙ sent_nothing n.loaded h.file h.entry.token named id

    name_nothing : option_and_then (method_at p.files) (select_in w (shape_name kind) id) ≡ None
    unfolding selected
    name_nothing = by (first (own_method true id.name id.desc) (line w r.name)) refl
      where
        line_here : select_in w (shape_name kind) id ≡ first (own_method true id.name id.desc) (line w r.name)
        line_here = ap (λ y. first (own_method true id.name id.desc) (line w y)) r.named

        own_kind : (d : Class) (f : Found) → own_method true id.name id.desc d ≡ Some f → f.imported ≡ d.is_imported
        own_kind d f e = let o = own_is w true id.name id.desc d f e in ap (λ (g : Found). g.imported) o.is

        by : (o : Option Found) → first (own_method true id.name id.desc) (line w r.name) ≡ o
            → option_and_then (method_at p.files) (select_in w (shape_name kind) id) ≡ None
        by None is = ap (option_and_then (method_at p.files)) (line_here ∙ is)
        by (Some f) is =
            let import = first_imported_found p facts r.name r.class r.there r.import (own_method true id.name id.desc)
            own_kind f (sym (ap (first (own_method true id.name id.desc)) (line_is p facts r.name r.class r.there))
            ∙ is) in
            ap (option_and_then (method_at p.files)) (line_here ∙ is) ∙ ap (λ t. if t then None
            else option_and_then (method_in f.member) (slice_get p.files.classes f.class)) import

  -- ---- objects of a class of the package

  module _ (id : MemberId) (plain : is_initialiser id.name ≡ false) (x : List ℕ) (c : Class) (e : class_named w x
      ≡ Some c) (class_here : is_interface c.flags ≡ false) where
    -- what selection gives begins where it stands
    pub chosen_begins : (z : List ℕ) (g : Found) → selection w x (signature id) ≡ Some g
        → start_selected n.loaded (selection_of n (method_offset p) z (signature id) g) ≡ begun (method_at p.files g)
    chosen_begins z g is = by g.imported refl
      where
        there : (own : g.imported ≡ false) → (k : Method) × (method_at p.files g ≡ Some k)
        there own =
            let d = first_own w (own_method true id.name id.desc) (line w x) g (line_named w x) is in
            let o = own_is w true id.name id.desc d.0 g d.2 in
            let of_package : d.0.is_imported ≡ false = sym (ap (λ (f : Found). f.imported) o.is) ∙ own in
            let k = facts.filed d.0.name d.0 d.1 of_package o.place o.method o.there in
            (k.0, ap (method_at p.files) o.is ∙ k.1)

        by : (t : Bool) → g.imported ≡ t → start_selected n.loaded (if t then Outward (event z (signature id))
            else At n.part (method_offset p g)) ≡ begun (if t then None else option_and_then (method_in g.member)
            (slice_get p.files.classes g.class))
        by true import = refl
        by false own =
            let k = there own in
            let inside = found_stands p facts true id.name id.desc plain x c e class_here g is own in
            let here : option_and_then (method_in g.member) (slice_get p.files.classes g.class) ≡ Some k.0 =
            sym (ap (λ t. if t then None else option_and_then (method_in g.member) (slice_get p.files.classes
            g.class)) own) ∙ k.1 in
            begins g k.0 inside k.1 ∙ ap begun (sym here)

    pub itself_selected : select_in w x id ≡ selection w x (signature id)
    unfolding selected
    itself_selected = ap (λ y. first (own_method true id.name id.desc) (line w y))
        (receiver_class x (kinds.no_array x (ap is_some e)))

  -- ---- what a script sends

  module _ (kind : Shape (List ℕ)) (receives : Receives w (Some kind)) (id : MemberId) where
    -- by token, where the named class is there
    sent_is : (d : Class) → class_named w id.class ≡ Some d → sent n.loaded (shape_as n.class kind) id
        ≡ (if is_subtype w (shape_name kind) id.class
        then start_selected n.loaded (sent_to n.loaded (shape_class n.loaded (shape_as n.class kind)) (n.class id.class)
        id) else None)
    sent_is d known =
        ap (option_and_then (λ c. if is_of n.loaded (shape_as n.class kind) (OfClass c)
        then start_selected n.loaded (sent_to n.loaded (shape_class n.loaded (shape_as n.class kind)) c id)
        else None))
        (names_agree.class_named id.class ∙ ap (λ o. option_as (card_class p) (option_map (λ (q : Class). q.name) o))
        known ∙ ap (λ y. Some (card_class p y)) (class_named-name w id.class d known))
        ∙ ap (λ t. if t then start_selected n.loaded (sent_to n.loaded (shape_class n.loaded (shape_as n.class kind))
        (n.class id.class) id) else None) (kind_is kind receives id.class d known)

    no_class_sent : class_named w id.class ≡ None → sent n.loaded (shape_as n.class kind) id
        ≡ begun (sent_named p.files w (shape_name kind) id)
    no_class_sent nowhere =
        ap (option_and_then (λ c. if is_of n.loaded (shape_as n.class kind) (OfClass c)
        then start_selected n.loaded (sent_to n.loaded (shape_class n.loaded (shape_as n.class kind)) c id)
        else None))
        (names_agree.class_named id.class ∙ ap (λ o. option_as (card_class p) (option_map (λ (q : Class). q.name) o))
        nowhere)
        ∙ sym (ap (λ o. begun (sent_of kind id (is_subtype w (shape_name kind) id.class) o)) (find_none id.class id.name
        id.desc nowhere))

    pub by_class : ((d : Class) → class_named w id.class ≡ Some d → is_subtype w (shape_name kind) id.class ≡ true
        → start_selected n.loaded (sent_to n.loaded (shape_class n.loaded (shape_as n.class kind)) (n.class id.class)
        id) ≡ begun (sent_of kind id true (find_method w id.class id.name id.desc)))
        → sent n.loaded (shape_as n.class kind) id ≡ begun (sent_named p.files w (shape_name kind) id)
    by_class on = by (class_named w id.class) refl
      where
        there : (d : Class) → class_named w id.class ≡ Some d → (t : Bool) → is_subtype w (shape_name kind) id.class ≡ t
            → (if t then start_selected n.loaded (sent_to n.loaded (shape_class n.loaded (shape_as n.class kind))
            (n.class id.class) id) else None) ≡ begun (sent_of kind id t (find_method w id.class id.name id.desc))
        there d known true sub = on d known sub
        there d known false sub = ap begun (sym (no_sub kind id (find_method w id.class id.name id.desc)))

        by : (o : Option Class) → class_named w id.class ≡ o → sent n.loaded (shape_as n.class kind) id
            ≡ begun (sent_named p.files w (shape_name kind) id)
        by None nowhere = no_class_sent nowhere
        by (Some d) known = sent_is d known ∙ there d known (is_subtype w (shape_name kind) id.class) refl

    pub outside_sent : IsOutside w kind → sent n.loaded (shape_as n.class kind) id
        ≡ begun (sent_named p.files w (shape_name kind) id)
    outside_sent out =
        let r = outside_received kind out in
        by_class (λ d known sub. token_nothing kind r id (n.class id.class)
        ∙ ap begun (sym (no_method kind id true (find_method w id.class id.name id.desc) (name_nothing kind r id))))
