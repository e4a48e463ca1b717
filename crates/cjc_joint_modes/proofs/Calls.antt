-- Calls in code of either mode of several packages are told alike on both sides, by what the class files say.
use Rattle.std.proofs.Common.{◌≡◌, ◌+◌, ℕ, Bool, true, false, ◌&&◌, ◌||◌, List, ◌∷◌, Option, Some}
use Rattle.std.proofs.Common.{None, option_map, refl, sym, ap, subst, ◌∙◌, arith}
use Rattle.std.specs.Prelude.{if◌then◌else◌, option_and_then}
use Rattle.cjc_bytes.specs.AccessFlags.{is_static, is_private, is_interface}
use Rattle.cjc_bytes.specs.declared.fault.MemberId.{MemberId}
use Rattle.cjc_code.specs.declared.insn.JOp.{JOp}
use Rattle.cjc_code.specs.declared.insn.JOp.TheVariants as jop
use Rattle.cjc_script.specs.Sorts.{Shape, OfClass, OfReferences, shape_name, signature_of}
use Rattle.cjc_card_semantics.specs.Bytecode.Arguments.{widths}
use Rattle.cjc_card_semantics.specs.Bytecode.Machine.{Nowhere}
use Rattle.cjc_world.specs.Classes.{Class, all_classes, class_named}
use Rattle.cjc_world.specs.Files.{Files}
use Rattle.cjc_world.specs.Lookup.{is_selectable, find_method, receiver}
use Rattle.cjc_world.specs.Subtype.{is_subtype}
use Rattle.cjc_world.specs.Supertypes.{line}
use Rattle.cjc_world.specs.declared.found.Found.{Found}
use Rattle.cjc_world.specs.declared.image.StaticImage.{StaticImage}
use Rattle.cjc_world.proofs.Subtypes.{transitive}
use Rattle.cjc_types.specs.declared.cell.Cell.{Cell}
use Rattle.cjc_types.specs.Steps.{receivers}
use Rattle.cjc_ncode.specs.declared.narrow.NMethod.{NMethod}
use Rattle.cjc_ncode.specs.declared.narrow.PoolKey.TheVariants as keys
use Rattle.cjc_ncode.specs.Written.{nargs_of, words_by}
use Rattle.cjc_ncode.specs.ByLabel.{by_label, Callee, Fixed, OnObject, OnSuper, OnInterface, Named, on_object}
use Rattle.cjc_jvm_semantics.specs.Linked.{Method, Linked, Call, OnClass, Inside}
use Rattle.cjc_jvm_semantics.specs.Linked as linked_by
use Rattle.cjc_jvm_semantics.specs.OnePackage.{ResolvedMember, method_hit, of_class, is_constructor}
use Rattle.cjc_jvm_semantics.specs.OnePackage.{first_imported}
use Rattle.cjc_jvm_semantics.specs.OnePackage.{callee_at, interface_callee, on_class, call_by, method_at}
use Rattle.cjc_jvm_semantics.specs.Group.{joint, joint_method, joint_call, group_call, group_linked, selection_for}
use Rattle.cjc_jvm_semantics.specs.Group.{call_from}
use Rattle.cjc_narrow_proof.specs.Selection.Callees.{Names, a_static, a_direct, a_super, a_virtual, an_interface}
use Rattle.cjc_narrow_proof.specs.Selection.Replies.{is_of_some, AsksAlike}
use Rattle.cjc_narrow_proof.specs.Tables.Analysis.{Analysis}
use Rattle.cjc_narrow_proof.specs.Tables.Calls.{IsAsked, types_of}
use Rattle.cjc_narrow_proof.proofs.TablesLaws.Spelt.{class_read}
use Rattle.cjc_narrow_proof.proofs.RunsLaws.Calls.{there_by_name}
use Rattle.cjc_narrow.specs.Rows.Resolved.{method_found, by_owner, resolved_method, virtual_by, special_by, resolution}
use Rattle.cjc_narrow.specs.Rows.Resolved.{parameter_words}
use Rattle.cjc_narrow.specs.Rows.Package.{reached_by, words_where}
use Rattle.cjc_narrow_proof.specs.Runs.Tables.{Tables}
use Rattle.cjc_narrow_proof.specs.Runs.Types.{IsThere, of_class as class_there, of_numbers, of_references}
use Rattle.cjc_joint_proof.specs.JointNames.{found_for, hit_for, direct_by, direct, selected, above, interface_by}
use Rattle.cjc_joint_proof.specs.JointNames.{by_interface}
use Rattle.cjc_joint_theorem.specs.Asked.{asked_by, key_by, from_asker, selected_for, class_for, group_named}
use Rattle.cjc_int_alike.specs.Calls.{IsIntDesc}
use Rattle.cjc_int_alike.specs.Callees.{IsCalledByMode, IsSelectedByMode, calls_import, calls_method}
use Rattle.cjc_int_alike.specs.Callees.{calls_on_receiver, selects_import, selects_method}
use Rattle.cjc_int_alike.proofs.Returns.{signature_is}
use Rattle.cjc_joint_theorem.specs.Together.Homes.{Homes, files_for, joint_world, IsAtHome}
use Rattle.cjc_joint_theorem.specs.Together.Calls.{ChoosesIn, selected_together, above_together}
use Rattle.cjc_joint_theorem.specs.Together.Calls as says
use Rattle.cjc_joint_modes.specs.Calls.{IsIntCalleeIn, IsIntReachedIn, IsIntChosenIn, IsIntStaticIn, IsIntChoiceIn}
use Rattle.cjc_joint_modes.specs.Calls.{IsIntReceiverIn, reaches_method, reaches_import, chooses_method, chooses_import}
use Rattle.cjc_joint_modes.specs.Codes.{group_analysis_by_mode, group_bodies_by_mode, group_codes_by_mode}
use Rattle.cjc_joint_modes.specs.Codes.{group_look_ups_by_mode, int_resolution_for, result_for}
use Rattle.cjc_joint_modes.proofs.Begun.{begun_by}

parameters : (desc : List ℕ) → IsIntDesc desc → parameter_words (signature_of desc)
    ≡ widths (let types = types_of desc in types.params)
parameters desc d = ap parameter_words (signature_is desc d)

module _ (group : List Files) (image : StaticImage) (homes : Homes) (tables : Tables) (is_int : Method → Bool) where
  pub asks : (kind : Shape (List ℕ)) → IsThere (joint_world group) kind
      → AsksAlike (group_linked group image) (group_look_ups_by_mode group image homes tables is_int) kind
  unfolding by_label group_linked group_named
  asks _ (class_there {class = class} c there) = record {
    tells = λ of. ap (λ o. is_of_some (group_look_ups_by_mode group image homes tables is_int) of (option_map OfClass
        o))
        (sym (there_by_name (joint_world group) class c there));
    same = λ other e. (let same : Some (OfClass class) ≡ Some other = ap (option_map OfClass)
        (sym (there_by_name (joint_world group) class c there)) ∙ e in cc);
  }
  asks _ (of_numbers {element = element}) = record { tells = λ of. refl; same = λ other e. cc }
  asks _ (of_references {class = class} c there) = record {
    tells = λ of. ap (λ o. is_of_some (group_look_ups_by_mode group image homes tables is_int) of (option_map
        OfReferences o))
        (sym (there_by_name (joint_world group) class c there));
    same = λ other e. (let same : Some (OfReferences class) ≡ Some other = ap (option_map OfReferences)
        (sym (there_by_name (joint_world group) class c there)) ∙ e in cc);
  }

module _ (group : List Files) (image : StaticImage) (homes : Homes) (tables : Tables) (is_int : Method → Bool)
    (m : Method) (home : IsAtHome group homes m) where
  abbrev files : Files
  files = joint group

  abbrev w : List Class
  w = joint_world group

  abbrev by : Linked
  by = group_linked group image

  abbrev l : Named
  l = group_look_ups_by_mode group image homes tables is_int

  abbrev a : Analysis
  a = group_analysis_by_mode group image homes tables is_int

  abbrev code : Method → NMethod
  code = group_codes_by_mode homes tables is_int

  abbrev holder : List ℕ
  holder = let id = m.id in id.class

  -- the package that asks
  abbrev p : Files
  p = files_for homes m

  abbrev q : ℕ
  q = let h = homes m in h.number

  -- what a call in code of m is on both sides, by what names stand for in int mode
  abbrev Called : List Cell → JOp → Type 0
  Called stack op = IsCalledByMode by l w a (group_bodies_by_mode group image homes tables is_int) result_for
      (int_resolution_for homes tables m) m stack op

  -- what the asker's files answer
  from_home : {A : Type 0} → (look : Files → MemberId → Option A) → (id : MemberId)
      → from_asker group look (asked_by q id) (q ∷ id.class) ≡ look p id
  from_home look id = ap (option_and_then (λ f. look f id)) home.member

  module _ (id : MemberId) (c : IsIntCalleeIn group p id) where
    abbrev owner : Class
    owner = let hit = c.hit in hit.owner

    abbrev declared : MemberId
    declared = of_class owner.name id

    found_is : method_found (all_classes p) id ≡ Some c.hit
    found_is = ap (option_and_then (method_hit (all_classes p))) c.found ∙ c.is_hit

    resolved_is : resolved_method (all_classes p) id ≡ declared
    resolved_is = ap (by_owner id) found_is

    -- what the joint world has for a member that the asker's world finds there
    joint_of : (other : MemberId) → find_method (all_classes p) other.class other.name other.desc ≡ Some c.place
        → joint_method w owner other ≡ Some c.there → found_for files w p other ≡ Some c.there
    joint_of other found stands =
        ap (λ o. option_and_then (λ (hit : ResolvedMember). let owner = hit.owner in joint_method w owner other)
        (option_and_then (method_hit (all_classes p)) o)) found
        ∙ ap (option_and_then (λ (hit : ResolvedMember). let owner = hit.owner in joint_method w owner other)) c.is_hit
        ∙ stands

    joint_again : found_for files w p declared ≡ Some c.there
    joint_again = joint_of declared c.again c.stands

    met_is : hit_for files w p id ≡ Some c.met
    met_is = ap (option_and_then (method_hit w)) (joint_of id c.found c.stands) ∙ c.is_met

    met_again : hit_for files w p declared ≡ Some c.met
    met_again = ap (option_and_then (method_hit w)) joint_again ∙ c.is_met

    asked : (event : MemberId) → event.desc ≡ id.desc → IsAsked by l id.desc event
    asked event desc = record {
      desc = desc;
      asks = λ kind e. asks group image homes tables is_int kind (c.result kind e);
    }

    -- what the machine by name does, once the member is found
    looked_up : (op : ℕ) → by.call holder op id
        ≡ call_by files w (selection_for w c.met) holder op id c.there c.met
    unfolding group_linked
    looked_up op =
        ap (λ o. group_call files w holder op id o) home.asks
        ∙ ap (λ b. if b then None else call_from files w holder op id p) c.no_initialiser
        ∙ ap (option_and_then (λ f. option_and_then (joint_call files w holder op id) (method_hit (all_classes p) f)))
        c.found
        ∙ ap (option_and_then (joint_call files w holder op id)) c.is_hit
        ∙ ap (option_and_then (λ f. option_and_then (λ hit. call_by files w (selection_for w hit) holder op id f hit)
        (method_hit w f))) c.stands
        ∙ ap (option_and_then (λ hit. call_by files w (selection_for w hit) holder op id c.there hit)) c.is_met

    counted : {A : Type 0} → (on : Bool) (other : MemberId) (found : Option A) (x : A) → other.desc ≡ id.desc
        → found ≡ Some x → words_where on other found ≡ Some ((if on then 1 else 0) + widths (let types = types_of
        id.desc in types.params))
    counted on other found x desc is = ap (words_where on other) is ∙ ap (λ n. Some ((if on then 1 else 0) + n))
        (ap (λ d. parameter_words (signature_of d)) desc ∙ parameters id.desc c.desc)

    -- ---- static

    static_names : Names (int_resolution_for homes tables m) 0xB8 id (Fixed false (asked_by q declared))
    unfolding resolution
    static_names = subst (λ d. Names (int_resolution_for homes tables m) 0xB8 id (Fixed false (asked_by q d)))
        resolved_is (a_static refl)

    static_words : l.words (Fixed false (asked_by q declared)) ≡ Some (widths (let types = types_of id.desc
        in types.params))
    unfolding group_named
    static_words = counted false (asked_by q declared) (from_asker group (hit_for files w) (asked_by q declared) (q
        ∷ owner.name)) c.met refl (from_home (hit_for files w) declared ∙ met_again)
        ∙ ap Some (let e : 0 + widths (let types = types_of id.desc in types.params)
        ≡ widths (let types = types_of id.desc in types.params) = omega arith in e)

    -- an event is named by the class that declares it, whatever class names the method
    same_event : (f : Found) → callee_at files c.met.owner.name declared f ≡ callee_at files c.met.owner.name id f
    same_event f = either f.imported
      where
        either : (b : Bool) → (if b then Some (linked_by.Abroad (of_class c.met.owner.name declared))
            else option_map Inside (method_at files f)) ≡ (if b then Some (linked_by.Abroad (of_class c.met.owner.name
            id)) else option_map Inside (method_at files f))
        either true = refl
        either false = refl

    direct_is : direct files w p declared ≡ callee_at files c.met.owner.name id c.there
    direct_is = ap (λ o. option_and_then (λ f. option_and_then (direct_by files w p declared f) (method_hit w f)) o)
        joint_again ∙ ap (option_and_then (direct_by files w p declared c.there)) c.is_met
        ∙ same_event c.there

  pub static_called : (id : MemberId) (stack : List Cell) → IsIntStaticIn group homes tables is_int id p
      → Called stack (jop.Call 0xB8 id)
  unfolding group_linked group_named
  static_called id stack h = go h.callee h.reaches h.is_reached
    where
      by_name : (callee : linked_by.Callee) → (let c = h.method in let met = c.met in let owner = met.owner
          in callee_at files owner.name id c.there) ≡ Some callee → by.call holder 0xB8 id ≡ Some (OnClass callee)
      by_name callee e =
          let c = h.method in
          looked_up id c 0xB8
          ∙ ap (λ b. if b then None else (if is_static c.met.flags
          then option_map OnClass (callee_at files c.met.owner.name id c.there) else None)) h.no_constructor
          ∙ ap (λ b. if b then option_map OnClass (callee_at files c.met.owner.name id c.there)
          else None) h.is_static_one ∙ ap (option_map OnClass) e

      narrow : (callee : linked_by.Callee) → (let c = h.method in let met = c.met in let owner = met.owner
          in callee_at files owner.name id c.there) ≡ Some callee
          → l.reached (Fixed false (asked_by q (declared id h.method))) None ≡ reached_by code (Some callee)
      narrow callee e =
          let c = h.method in
          ap (reached_by code) (from_home (direct files w) (declared id c) ∙ direct_is id c ∙ e)

      go : (callee : linked_by.Callee) → (let c = h.method in let met = c.met in let owner = met.owner
          in callee_at files owner.name id c.there) ≡ Some callee
          → IsIntReachedIn group homes tables is_int id callee → Called stack (jop.Call 0xB8 id)
      go _ e (reaches_method {m = n} begun) =
          let c = h.method in
          calls_method (Fixed false (asked_by q (declared id c))) c.desc (static_names id c) refl (static_words id c) n
          (by_name (Inside n) e) (narrow (Inside n) e) (begun_by group image homes tables is_int false id.desc n begun)
      go _ e (reaches_import {event = event} desc) =
          let c = h.method in
          calls_import (Fixed false (asked_by q (declared id c))) c.desc (static_names id c) refl (static_words id c)
          event (by_name (linked_by.Abroad event) e) (narrow (linked_by.Abroad event) e) (asked id c event desc)

  -- ---- on a receiver

  -- what narrow code names for a call that chooses so
  record ToldAlike (op : ℕ) (id : MemberId) (class : List ℕ) (choice : List ℕ → Option linked_by.Callee) : Type 0 where
    callee : Callee
    names : Names (int_resolution_for homes tables m) op id callee
    one : receivers op ≡ 1
    on_an_object : on_object callee ≡ true
    words : l.words callee ≡ Some (1 + widths (let types = types_of id.desc in types.params))
    by_name : by.call holder op id ≡ Some (on_class w class choice)
    of : (type : List ℕ) → is_subtype w type class ≡ true → is_subtype w type (class_for group files w callee) ≡ true
    chooses : (type : List ℕ) → selected_for group files w callee type ≡ choice type

  module _ (id : MemberId) (c : IsIntCalleeIn group p id) where
    to_owner : (type : List ℕ) → is_subtype w type id.class ≡ true → is_subtype w type c.hit.owner.name ≡ true
    to_owner type e = transitive w type id.class c.hit.owner.name e c.is_above

    -- what is selected does not depend on the class that names the method
    same_select : (type : List ℕ) → selected_together group c.met type (declared id c)
        ≡ selected_together group c.met type id
    same_select type = met_by (selection_for w c.met type id)
      where
        met_by : (o : Option Found) → option_and_then (λ f. callee_at files (first_imported (line w (receiver type)))
            (declared id c) f) o
            ≡ option_and_then (λ f. callee_at files (first_imported (line w (receiver type))) id f) o
        met_by None = refl
        met_by (Some f) = go f.imported
          where
            go : (b : Bool) → (if b then Some (linked_by.Abroad (of_class (first_imported (line w (receiver type)))
                (declared id c))) else option_map Inside
                (method_at files f)) ≡ (if b then Some (linked_by.Abroad (of_class (first_imported (line w (receiver
                type))) id)) else option_map Inside
                (method_at files f))
            go true = refl
            go false = refl

    on_object_told : (other : MemberId) → other.desc ≡ id.desc → hit_for files w p other ≡ Some c.met
        → virtual_by (all_classes p) id (class_named (all_classes p) id.class) ≡ other
        → ((type : List ℕ) → is_subtype w type id.class ≡ true → is_subtype w type other.class ≡ true)
        → ((type : List ℕ) → selected_together group c.met type other ≡ selected_together group c.met type id)
        → is_constructor id.name ≡ false → is_selectable c.met.flags ≡ true
        → ToldAlike 0xB6 id id.class (λ type. selected_together group c.met type id)
    unfolding group_linked group_named resolution
    on_object_told other desc met same of choice no_constructor selectable = record {
      callee = OnObject (asked_by q other);
      names = a_virtual (ap (λ n. keys.Virtual (asked_by q n)) same);
      one = refl;
      on_an_object = refl;
      words = counted id c true (asked_by q other) (from_asker group (hit_for files w) (asked_by q other) (q
          ∷ other.class)) c.met desc (from_home (hit_for files w) other ∙ met);
      by_name = looked_up id c 0xB6
          ∙ ap (λ b. if b then None else (if is_selectable c.met.flags
          then Some (on_class w id.class (λ type. selected_together group c.met type id)) else None)) no_constructor
          ∙ ap (λ b. if b then Some (on_class w id.class (λ type. selected_together group c.met type id))
          else None) selectable;
      of = of;
      chooses = λ type. from_home (λ p n. selected files w p n type) other
          ∙ ap (option_and_then (λ hit. selected_together group hit type other)) met ∙ choice type;
    }

    on_class_told : is_constructor id.name ≡ false → is_selectable c.met.flags ≡ true
        → ToldAlike 0xB6 id id.class (λ type. selected_together group c.met type id)
    on_class_told no_constructor selectable = go (class_named (all_classes p) id.class) refl
      where
        of_named : virtual_by (all_classes p) id (class_named (all_classes p) id.class) ≡ id
            → ToldAlike 0xB6 id id.class (λ type. selected_together group c.met type id)
        of_named same = on_object_told id refl (met_is id c) same (λ type e. e) (λ type. refl) no_constructor
            selectable

        of_owner : virtual_by (all_classes p) id (class_named (all_classes p) id.class) ≡ declared id c
            → ToldAlike 0xB6 id id.class (λ type. selected_together group c.met type id)
        of_owner same = on_object_told (declared id c) refl (met_again id c) same to_owner (λ type. same_select type)
            no_constructor selectable

        go : (o : Option Class) → class_named (all_classes p) id.class ≡ o
            → ToldAlike 0xB6 id id.class (λ type. selected_together group c.met type id)
        go None e = of_owner (ap (virtual_by (all_classes p) id) e ∙ resolved_is id c)
        go (Some class) e = by_import class.is_imported refl
          where
            by_import : (b : Bool) → class.is_imported ≡ b
                → ToldAlike 0xB6 id id.class (λ type. selected_together group c.met type id)
            by_import true is = of_owner (ap (virtual_by (all_classes p) id) e
                ∙ ap (λ b. if b then resolved_method (all_classes p) id else id) is ∙ resolved_is id c)
            by_import false is = of_named (ap (virtual_by (all_classes p) id) e
                ∙ ap (λ b. if b then resolved_method (all_classes p) id else id) is)

    -- what the machine by name does with invokespecial of a method that is not static
    special_up : is_static c.met.flags ≡ false → by.call holder 0xB7 id
        ≡ (if is_constructor id.name || is_private c.met.flags
        then Some (on_class w id.class (λ type. callee_at files c.met.owner.name id c.there))
        else Some (on_class w holder (λ type. above_together group c.met holder id)))
    special_up not_static = looked_up id c 0xB7
        ∙ ap (λ b. if b then None else (if is_constructor id.name || is_private c.met.flags
        then Some (on_class w id.class (λ type. callee_at files c.met.owner.name id c.there))
        else Some (on_class w holder (λ type. above_together group c.met holder id)))) not_static

    itself_told : is_static c.met.flags ≡ false → (is_constructor id.name || is_private c.hit.flags) ≡ true
        → (is_constructor id.name || is_private c.met.flags) ≡ true
        → ToldAlike 0xB7 id id.class (λ type. callee_at files c.met.owner.name id c.there)
    unfolding group_linked group_named resolution
    itself_told not_static own met = record {
      callee = Fixed true (asked_by q (declared id c));
      names = a_direct (ap (key_by q) (ap (special_by holder id) (found_is id c)
          ∙ ap (λ b. if b then keys.StaticMethod (declared id c) else keys.Super (of_class holder id)) own));
      one = refl;
      on_an_object = refl;
      words = counted id c true (asked_by q (declared id c)) (from_asker group (hit_for files w)
          (asked_by q (declared id c)) (q ∷ c.hit.owner.name)) c.met refl (from_home (hit_for files w) (declared id c)
          ∙ met_again id c);
      by_name = special_up not_static
          ∙ ap (λ b. if b then Some (on_class w id.class (λ type. callee_at files c.met.owner.name id c.there))
          else Some (on_class w holder (λ type. above_together group c.met holder id))) met;
      of = to_owner;
      chooses = λ type. from_home (direct files w) (declared id c) ∙ direct_is id c;
    }

    above_told : (callee : linked_by.Callee) → is_static c.met.flags ≡ false
        → (is_constructor id.name || is_private c.hit.flags) ≡ false
        → (is_constructor id.name || is_private c.met.flags) ≡ false
        → above_together group c.met holder id ≡ Some callee → above files w p (of_class holder id) ≡ Some callee
        → ToldAlike 0xB7 id holder (λ type. above_together group c.met holder id)
    unfolding group_linked group_named resolution
    above_told callee not_static own met there narrow = record {
      callee = OnSuper (asked_by q (of_class holder id));
      names = a_super (ap (key_by q) (ap (special_by holder id) (found_is id c)
          ∙ ap (λ b. if b then keys.StaticMethod (declared id c) else keys.Super (of_class holder id)) own));
      one = refl;
      on_an_object = refl;
      words = counted id c true (asked_by q (of_class holder id)) (from_asker group (above files w)
          (asked_by q (of_class holder id)) (q ∷ holder)) callee refl (from_home (above files w) (of_class holder id)
          ∙ narrow);
      by_name = special_up not_static
          ∙ ap (λ b. if b then Some (on_class w id.class (λ type. callee_at files c.met.owner.name id c.there))
          else Some (on_class w holder (λ type. above_together group c.met holder id))) met;
      of = λ type e. e;
      chooses = λ type. from_home (above files w) (of_class holder id) ∙ narrow ∙ sym there;
    }

    interface_told : is_constructor id.name ≡ false → (is_interface c.met.owner.flags && is_selectable c.met.flags)
        ≡ true → ToldAlike 0xB9 id id.class (λ type. interface_callee files w (selection_for w c.met) c.met.owner.name
        type id (class_named w (receiver type)))
    unfolding group_linked group_named resolution
    interface_told no_constructor selectable = record {
      callee = OnInterface (nargs_of id) (asked_by q (declared id c));
      names = subst (λ d. Names (int_resolution_for homes tables m) 0xB9 id (OnInterface (nargs_of id) (asked_by q d)))
          (resolved_is id c) an_interface;
      one = refl;
      on_an_object = refl;
      words = from_home (λ p n. Some (nargs_of id)) (declared id c)
          ∙ ap Some (ap words_by (signature_is id.desc c.desc));
      by_name = looked_up id c 0xB9
          ∙ ap (λ b. if b then None else (if is_interface c.met.owner.flags && is_selectable c.met.flags
          then Some (on_class w id.class (λ type. interface_callee files w (selection_for w c.met) c.met.owner.name type
          id (class_named w (receiver type)))) else None)) no_constructor
          ∙ ap (λ b. if b
          then Some (on_class w id.class (λ type. interface_callee files w (selection_for w c.met) c.met.owner.name type
          id (class_named w (receiver type)))) else None) selectable;
      of = to_owner;
      chooses = λ type. from_home (λ p n. by_interface files w p n type) (declared id c)
          ∙ ap (option_and_then (interface_by files w p (declared id c) type)) (met_again id c)
          ∙ same_interface type (class_named w (receiver type));
    }
      where
        same_interface : (type : List ℕ) (o : Option Class)
            → interface_callee files w (selection_for w c.met) c.met.owner.name type (declared id c) o
            ≡ interface_callee files w (selection_for w c.met) c.met.owner.name type id o
        same_interface type None = refl
        same_interface type (Some class) = either class.is_imported
          where
            either : (b : Bool) → (if b then Some (linked_by.Abroad (of_class c.met.owner.name (declared id c)))
                else selected_together group c.met type (declared id c))
                ≡ (if b then Some (linked_by.Abroad (of_class c.met.owner.name id)) else selected_together group c.met
                type id)
            either true = refl
            either false = same_select type

    told_alike : (op : ℕ) (class : List ℕ) (choice : List ℕ → Option linked_by.Callee)
        → ChoosesIn group p holder id c.hit c.there c.met op class choice → ToldAlike op id class choice
    told_alike _ _ _ (says.on_class no_constructor selectable) = on_class_told no_constructor selectable
    told_alike _ _ _ (says.itself not_static own met) = itself_told not_static own met
    told_alike _ _ _ (says.above_holder callee not_static own met there narrow) = above_told callee not_static own met
        there narrow
    told_alike _ _ _ (says.by_interface no_constructor selectable) = interface_told no_constructor selectable

  pub receiver_called : (stack : List Cell) (op : ℕ) (id : MemberId)
      → IsIntReceiverIn group homes tables is_int id l p holder stack op → Called stack (jop.Call op id)
  unfolding group_named
  receiver_called stack op id h = calls_on_receiver t.callee (let c = h.method in c.desc) t.names t.one t.on_an_object
      (t.words ∙ ap Some (let e : 1 + widths (let types = types_of id.desc in types.params)
      ≡ widths (let types = types_of id.desc in types.params) + 1 = omega arith in e))
      (λ type. if is_subtype w type h.class then h.choice type else None) t.by_name
      (λ names at kind passes made. choose kind (h.choices names at kind passes made))
    where
      t : ToldAlike op id h.class h.choice
      t = told_alike id h.method op h.class h.choice h.form

      narrow : (kind : Shape (List ℕ)) → is_subtype w (shape_name kind) h.class ≡ true → (o : Option linked_by.Callee)
          → h.choice (shape_name kind) ≡ o → l.reached t.callee (Some kind) ≡ reached_by code o
      narrow kind of o e = ap (λ b. if b then reached_by code (selected_for group files w t.callee (shape_name kind))
          else Nowhere) (t.of (shape_name kind) of) ∙ ap (reached_by code) (t.chooses (shape_name kind) ∙ e)

      choose : (kind : Shape (List ℕ)) → IsIntChoiceIn group homes tables is_int id h.class (shape_name kind) h.choice
          → IsSelectedByMode by l w a (group_bodies_by_mode group image homes tables is_int) result_for id t.callee
          (λ type. if is_subtype w type h.class then h.choice type else None) kind
      choose kind x = go x.callee x.chooses x.is_chosen
        where
          selected : (callee : linked_by.Callee) → h.choice (shape_name kind) ≡ Some callee
              → (if is_subtype w (shape_name kind) h.class then h.choice (shape_name kind) else None) ≡ Some callee
          selected callee e = ap (λ b. if b then h.choice (shape_name kind) else None) x.is_of ∙ e

          go : (callee : linked_by.Callee) → h.choice (shape_name kind) ≡ Some callee
              → IsIntChosenIn group homes tables is_int id (shape_name kind) callee
              → IsSelectedByMode by l w a (group_bodies_by_mode group image homes tables is_int) result_for id t.callee
              (λ type. if is_subtype w type h.class then h.choice type else None) kind
          go _ e (chooses_method {m = n} begun of) =
              let read = class_read (let id = n.id in id.class) begun.named in
              selects_method n (selected (Inside n) e) (narrow kind x.is_of (Some (Inside n)) e)
              (begun_by group image homes tables is_int true id.desc n begun) (ap (is_of_some l kind) read.class ∙ of)
          go _ e (chooses_import {event = event} desc) = selects_import event (selected (linked_by.Abroad event) e)
              (narrow kind x.is_of (Some (linked_by.Abroad event)) e) (asked id h.method event desc)
