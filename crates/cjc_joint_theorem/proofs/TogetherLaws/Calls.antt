-- Calls in the code of several packages are told alike on both sides, by what the class files say.
use Rattle.std.proofs.Common.{◌≡◌, ◌+◌, ℕ, suc, Bool, true, false, ◌&&◌, ◌||◌, List, [], ◌∷◌, map, length, Option, Some}
use Rattle.std.proofs.Common.{None, option_map, refl, sym, ap, subst, ◌∙◌, arith}
use Rattle.std.specs.Prelude.{if◌then◌else◌, option_and_then}
use Rattle.cjc_bytes.specs.AccessFlags.{is_static, is_private, is_interface}
use Rattle.cjc_bytes.specs.Descriptor.{Part, IsClassName}
use Rattle.cjc_bytes.specs.declared.fault.MemberId.{MemberId}
use Rattle.cjc_code.specs.declared.insn.JOp.TheVariants as jop
use Rattle.cjc_script.specs.Sorts.{Shape, OfClass, OfReferences, shape_name, signature_of}
use Rattle.cjc_card_semantics.specs.Bytecode.Machine.{Nowhere}
use Rattle.cjc_world.specs.Classes.{Class, all_classes, class_named}
use Rattle.cjc_world.specs.Files.{Files}
use Rattle.cjc_world.specs.Lookup.{is_selectable, find_method, receiver}
use Rattle.cjc_world.specs.Subtype.{is_subtype}
use Rattle.cjc_world.specs.Supertypes.{line}
use Rattle.cjc_world.specs.declared.found.Found.{Found}
use Rattle.cjc_world.specs.declared.image.StaticImage.{StaticImage}
use Rattle.cjc_world.proofs.Subtypes.{transitive}
use Rattle.cjc_types.specs.declared.cell.Cell.{Cell}
use Rattle.cjc_types.specs.Types.{parts, value_of}
use Rattle.cjc_types.specs.Steps.{receivers}
use Rattle.cjc_ncode.specs.declared.narrow.NMethod.{NMethod}
use Rattle.cjc_ncode.specs.declared.narrow.PoolKey.TheVariants as keys
use Rattle.cjc_ncode.specs.Written.{nargs_of, words_by}
use Rattle.cjc_ncode.specs.ByLabel.{by_label, Callee, Fixed, OnObject, OnSuper, OnInterface, Named, on_object}
use Rattle.cjc_jvm_semantics.specs.Linked.{Method, Linked, Call, OnClass, Inside}
use Rattle.cjc_jvm_semantics.specs.Linked as linked_by
use Rattle.cjc_jvm_semantics.specs.OnePackage.{ResolvedMember, method_hit, of_class, is_constructor}
use Rattle.cjc_jvm_semantics.specs.OnePackage.{first_imported}
use Rattle.cjc_jvm_semantics.specs.OnePackage.{callee_at, interface_callee, on_class, call_by, method_at}
use Rattle.cjc_jvm_semantics.specs.Group.{joint, joint_method, joint_call, group_call, group_linked, selection_for}
use Rattle.cjc_jvm_semantics.specs.Group.{call_from}
use Rattle.cjc_narrow_proof.specs.Selection.Callees.{Names, a_static, a_direct, a_super, a_virtual, an_interface}
use Rattle.cjc_narrow_proof.specs.Selection.Replies.{is_of_some, AsksAlike}
use Rattle.cjc_narrow_proof.specs.Tables.Analysis.{Analysis}
use Rattle.cjc_narrow_proof.specs.Tables.Calls.{IsWordDesc, count_of, IsAsked, IsStaticNamed}
use Rattle.cjc_narrow_proof.specs.Tables.Calls.{IsObjectNamed, IsSelected, IsCalled}
use Rattle.cjc_narrow_proof.specs.Tables.Calls as told
use Rattle.cjc_narrow_proof.proofs.TablesLaws.Called.{signature_is}
use Rattle.cjc_narrow_proof.proofs.TablesLaws.Spelt.{class_read}
use Rattle.cjc_narrow_proof.proofs.RunsLaws.Calls.{there_by_name}
use Rattle.cjc_narrow_proof.proofs.RunsLaws.Whole.{words_of_all}
use Rattle.cjc_narrow.specs.Rows.Resolved.{method_found, by_owner, resolved_method, virtual_by, special_by, resolution}
use Rattle.cjc_narrow.specs.Rows.Resolved.{parameter_words}
use Rattle.cjc_narrow.specs.Pairs.Roles.{with_pairs}
use Rattle.cjc_narrow.specs.Rows.Package.{reached_by, words_where}
use Rattle.cjc_narrow_proof.specs.Runs.Tables.{Tables, HasTables}
use Rattle.cjc_narrow_proof.specs.Runs.Types.{IsThere, of_class as class_there, of_numbers, of_references}
use Rattle.cjc_joint_proof.specs.JointNames.{found_for, hit_for, direct_by, direct, selected, above, interface_by}
use Rattle.cjc_joint_proof.specs.JointNames.{by_interface}
use Rattle.cjc_joint_theorem.specs.Asked.{asked_by, key_by, from_asker, selected_for, class_for, group_named}
use Rattle.cjc_joint_theorem.specs.Together.Homes.{Homes, files_for, resolution_for, group_codes, group_look_ups}
use Rattle.cjc_joint_theorem.specs.Together.Homes.{joint_world, group_analysis, IsAtHome}
use Rattle.cjc_joint_theorem.specs.Together.Calls.{IsCalleeIn, IsReachedIn, IsChosenIn, ChoosesIn, IsStaticIn}
use Rattle.cjc_joint_theorem.specs.Together.Calls.{IsChoiceIn, IsReceiverIn, selected_together, above_together}
use Rattle.cjc_joint_theorem.specs.Together.Calls as says
use Rattle.cjc_joint_theorem.proofs.TogetherLaws.Whole.{begun_by}

as_many : (ps : List Part) → length (map value_of ps) ≡ length ps
as_many [] = refl
as_many (p ∷ ps) = ap suc (as_many ps)

parameters : (desc : List ℕ) → IsWordDesc desc → parameter_words (signature_of desc) ≡ count_of desc
parameters desc word = ap parameter_words (signature_is desc word) ∙ words_of_all (parts desc).params word.params
    ∙ as_many (parts desc).params

module _ (group : List Files) (image : StaticImage) (homes : Homes) (tables : Tables) where
  pub asks : (kind : Shape (List ℕ)) → IsThere (joint_world group) kind
      → AsksAlike (group_linked group image) (group_look_ups group image homes tables) kind
  unfolding by_label group_linked group_named
  asks _ (class_there {class = class} c there) = record {
    tells = λ of. ap (λ o. is_of_some (group_look_ups group image homes tables) of (option_map OfClass o))
        (sym (there_by_name (joint_world group) class c there));
    same = λ other e. (let same : Some (OfClass class) ≡ Some other = ap (option_map OfClass)
        (sym (there_by_name (joint_world group) class c there)) ∙ e in cc);
  }
  asks _ (of_numbers {element = element}) = record { tells = λ of. refl; same = λ other e. cc }
  asks _ (of_references {class = class} c there) = record {
    tells = λ of. ap (λ o. is_of_some (group_look_ups group image homes tables) of (option_map OfReferences o))
        (sym (there_by_name (joint_world group) class c there));
    same = λ other e. (let same : Some (OfReferences class) ≡ Some other = ap (option_map OfReferences)
        (sym (there_by_name (joint_world group) class c there)) ∙ e in cc);
  }

module _ (group : List Files) (image : StaticImage) (homes : Homes) (tables : Tables) (m : Method)
    (home : IsAtHome group homes m) where
  abbrev files : Files
  files = joint group

  abbrev w : List Class
  w = joint_world group

  abbrev by : Linked
  by = group_linked group image

  abbrev l : Named
  l = group_look_ups group image homes tables

  abbrev a : Analysis
  a = group_analysis group image homes tables

  abbrev code : Method → NMethod
  code = group_codes homes tables

  abbrev holder : List ℕ
  holder = let id = m.id in id.class

  -- the package that asks
  abbrev p : Files
  p = files_for homes m

  abbrev q : ℕ
  q = let h = homes m in h.number

  declares : (n : Method) → HasTables (files_for homes n) tables n → IsClassName (let id = n.id in id.class)
  declares n h = subst (λ (k : Method). IsClassName (let id = k.id in id.class)) (sym h.is) h.named

  -- what the asker's files answer
  from_home : {A : Type 0} → (look : Files → MemberId → Option A) → (id : MemberId)
      → from_asker group look (asked_by q id) (q ∷ id.class) ≡ look p id
  from_home look id = ap (option_and_then (λ f. look f id)) home.member

  module _ (id : MemberId) (c : IsCalleeIn group p id) where
    abbrev owner : Class
    owner = let hit = c.hit in hit.owner

    abbrev declared : MemberId
    declared = of_class owner.name id

    found_is : method_found (all_classes p) id ≡ Some c.hit
    found_is = ap (option_and_then (method_hit (all_classes p))) c.found ∙ c.is_hit

    resolved_is : resolved_method (all_classes p) id ≡ declared
    resolved_is = ap (by_owner id) found_is

    -- what the joint world has for a member that the asker's world finds there
    joint_of : (other : MemberId) → find_method (all_classes p) other.class other.name other.desc ≡ Some c.place
        → joint_method w owner other ≡ Some c.there → found_for files w p other ≡ Some c.there
    joint_of other found stands =
        ap (λ o. option_and_then (λ (hit : ResolvedMember). let owner = hit.owner in joint_method w owner other)
        (option_and_then (method_hit (all_classes p)) o)) found
        ∙ ap (option_and_then (λ (hit : ResolvedMember). let owner = hit.owner in joint_method w owner other)) c.is_hit
        ∙ stands

    joint_again : found_for files w p declared ≡ Some c.there
    joint_again = joint_of declared c.again c.stands

    met_is : hit_for files w p id ≡ Some c.met
    met_is = ap (option_and_then (method_hit w)) (joint_of id c.found c.stands) ∙ c.is_met

    met_again : hit_for files w p declared ≡ Some c.met
    met_again = ap (option_and_then (method_hit w)) joint_again ∙ c.is_met

    asked : (event : MemberId) → event.desc ≡ id.desc → IsAsked by l id.desc event
    asked event desc = record { desc = desc; asks = λ kind e. asks group image homes tables kind (c.result kind e) }

    -- what the machine by name does, once the member is found
    looked_up : (op : ℕ) → by.call holder op id
        ≡ call_by files w (selection_for w c.met) holder op id c.there c.met
    unfolding group_linked
    looked_up op =
        ap (λ o. group_call files w holder op id o) home.asks
        ∙ ap (λ b. if b then None else call_from files w holder op id p) c.no_initialiser
        ∙ ap (option_and_then (λ f. option_and_then (joint_call files w holder op id) (method_hit (all_classes p) f)))
        c.found
        ∙ ap (option_and_then (joint_call files w holder op id)) c.is_hit
        ∙ ap (option_and_then (λ f. option_and_then (λ hit. call_by files w (selection_for w hit) holder op id f hit)
        (method_hit w f))) c.stands
        ∙ ap (option_and_then (λ hit. call_by files w (selection_for w hit) holder op id c.there hit)) c.is_met

    counted : {A : Type 0} → (on : Bool) (other : MemberId) (found : Option A) (x : A) → other.desc ≡ id.desc
        → found ≡ Some x → words_where on other found ≡ Some ((if on then 1 else 0) + count_of id.desc)
    counted on other found x desc is = ap (words_where on other) is ∙ ap (λ n. Some ((if on then 1 else 0) + n))
        (ap (λ d. parameter_words (signature_of d)) desc ∙ parameters id.desc c.desc)

    -- ---- static

    static_named : IsStaticNamed l a m id (Fixed false (asked_by q declared))
    unfolding group_named resolution with_pairs
    static_named = record {
      desc = c.desc;
      names = subst (λ d. Names (resolution_for homes tables m) 0xB8 id (Fixed false (asked_by q d))) resolved_is
          (a_static refl);
      on_class = refl;
      words = counted false (asked_by q declared) (from_asker group (hit_for files w) (asked_by q declared) (q
          ∷ owner.name)) c.met refl (from_home (hit_for files w) declared ∙ met_again)
          ∙ ap Some (let e : 0 + count_of id.desc ≡ count_of id.desc = omega arith in e);
    }

    -- an event is named by the class that declares it, whatever class names the method
    same_event : (f : Found) → callee_at files c.met.owner.name declared f ≡ callee_at files c.met.owner.name id f
    same_event f = either f.imported
      where
        either : (b : Bool) → (if b then Some (linked_by.Abroad (of_class c.met.owner.name declared))
            else option_map Inside (method_at files f)) ≡ (if b then Some (linked_by.Abroad (of_class c.met.owner.name
            id)) else option_map Inside (method_at files f))
        either true = refl
        either false = refl

    direct_is : direct files w p declared ≡ callee_at files c.met.owner.name id c.there
    direct_is = ap (λ o. option_and_then (λ f. option_and_then (direct_by files w p declared f) (method_hit w f)) o)
        joint_again ∙ ap (option_and_then (direct_by files w p declared c.there)) c.is_met
        ∙ same_event c.there

  pub static_called : (id : MemberId) (stack : List Cell) → IsStaticIn group homes tables p id
      → IsCalled by l w a m stack (jop.Call 0xB8 id)
  unfolding group_linked group_named
  static_called id stack h = go h.callee h.reaches h.is_reached
    where
      by_name : (callee : linked_by.Callee) → (let c = h.method in let met = c.met in let owner = met.owner
          in callee_at files owner.name id c.there) ≡ Some callee → by.call holder 0xB8 id ≡ Some (OnClass callee)
      by_name callee e =
          let c = h.method in
          looked_up id c 0xB8
          ∙ ap (λ b. if b then None else (if is_static c.met.flags
          then option_map OnClass (callee_at files c.met.owner.name id c.there) else None)) h.no_constructor
          ∙ ap (λ b. if b then option_map OnClass (callee_at files c.met.owner.name id c.there)
          else None) h.is_static_one ∙ ap (option_map OnClass) e

      narrow : (callee : linked_by.Callee) → (let c = h.method in let met = c.met in let owner = met.owner
          in callee_at files owner.name id c.there) ≡ Some callee
          → l.reached (Fixed false (asked_by q (declared id h.method))) None ≡ reached_by code (Some callee)
      narrow callee e =
          let c = h.method in
          ap (reached_by code) (from_home (direct files w) (declared id c) ∙ direct_is id c ∙ e)

      go : (callee : linked_by.Callee) → (let c = h.method in let met = c.met in let owner = met.owner
          in callee_at files owner.name id c.there) ≡ Some callee → IsReachedIn group homes tables id callee
          → IsCalled by l w a m stack (jop.Call 0xB8 id)
      go _ e (says.inside {m = n} begun) =
          let c = h.method in
          told.a_static (Fixed false (asked_by q (declared id c))) (static_named id c) n (by_name (Inside n) e)
          (narrow (Inside n) e) (begun_by group image homes tables false id.desc n begun)
      go _ e (says.abroad {event = event} desc) =
          let c = h.method in
          told.an_import (Fixed false (asked_by q (declared id c))) (static_named id c) event
          (by_name (linked_by.Abroad event) e) (narrow (linked_by.Abroad event) e) (asked id c event desc)

  -- ---- on a receiver

  -- what narrow code names for a call that chooses so
  record ToldAlike (op : ℕ) (id : MemberId) (class : List ℕ) (choice : List ℕ → Option linked_by.Callee) : Type 0 where
    callee : Callee
    names : Names (resolution_for homes tables m) op id callee
    one : receivers op ≡ 1
    on_an_object : on_object callee ≡ true
    words : l.words callee ≡ Some (1 + count_of id.desc)
    by_name : by.call holder op id ≡ Some (on_class w class choice)
    of : (type : List ℕ) → is_subtype w type class ≡ true → is_subtype w type (class_for group files w callee) ≡ true
    chooses : (type : List ℕ) → selected_for group files w callee type ≡ choice type

  module _ (id : MemberId) (c : IsCalleeIn group p id) where
    to_owner : (type : List ℕ) → is_subtype w type id.class ≡ true → is_subtype w type c.hit.owner.name ≡ true
    to_owner type e = transitive w type id.class c.hit.owner.name e c.is_above

    -- what is selected does not depend on the class that names the method
    same_select : (type : List ℕ) → selected_together group c.met type (declared id c)
        ≡ selected_together group c.met type id
    same_select type = met_by (selection_for w c.met type id)
      where
        met_by : (o : Option Found) → option_and_then (λ f. callee_at files (first_imported (line w (receiver type)))
            (declared id c) f) o
            ≡ option_and_then (λ f. callee_at files (first_imported (line w (receiver type))) id f) o
        met_by None = refl
        met_by (Some f) = go f.imported
          where
            go : (b : Bool) → (if b then Some (linked_by.Abroad (of_class (first_imported (line w (receiver type)))
                (declared id c))) else option_map Inside
                (method_at files f)) ≡ (if b then Some (linked_by.Abroad (of_class (first_imported (line w (receiver
                type))) id)) else option_map Inside
                (method_at files f))
            go true = refl
            go false = refl

    on_object_told : (other : MemberId) → other.desc ≡ id.desc → hit_for files w p other ≡ Some c.met
        → virtual_by (all_classes p) id (class_named (all_classes p) id.class) ≡ other
        → ((type : List ℕ) → is_subtype w type id.class ≡ true → is_subtype w type other.class ≡ true)
        → ((type : List ℕ) → selected_together group c.met type other ≡ selected_together group c.met type id)
        → is_constructor id.name ≡ false → is_selectable c.met.flags ≡ true
        → ToldAlike 0xB6 id id.class (λ type. selected_together group c.met type id)
    unfolding group_linked group_named resolution with_pairs
    on_object_told other desc met same of choice no_constructor selectable = record {
      callee = OnObject (asked_by q other);
      names = a_virtual (ap (λ n. keys.Virtual (asked_by q n)) same);
      one = refl;
      on_an_object = refl;
      words = counted id c true (asked_by q other) (from_asker group (hit_for files w) (asked_by q other) (q
          ∷ other.class)) c.met desc (from_home (hit_for files w) other ∙ met);
      by_name = looked_up id c 0xB6
          ∙ ap (λ b. if b then None else (if is_selectable c.met.flags
          then Some (on_class w id.class (λ type. selected_together group c.met type id)) else None)) no_constructor
          ∙ ap (λ b. if b then Some (on_class w id.class (λ type. selected_together group c.met type id))
          else None) selectable;
      of = of;
      chooses = λ type. from_home (λ p n. selected files w p n type) other
          ∙ ap (option_and_then (λ hit. selected_together group hit type other)) met ∙ choice type;
    }

    on_class_told : is_constructor id.name ≡ false → is_selectable c.met.flags ≡ true
        → ToldAlike 0xB6 id id.class (λ type. selected_together group c.met type id)
    on_class_told no_constructor selectable = go (class_named (all_classes p) id.class) refl
      where
        of_named : virtual_by (all_classes p) id (class_named (all_classes p) id.class) ≡ id
            → ToldAlike 0xB6 id id.class (λ type. selected_together group c.met type id)
        of_named same = on_object_told id refl (met_is id c) same (λ type e. e) (λ type. refl) no_constructor
            selectable

        of_owner : virtual_by (all_classes p) id (class_named (all_classes p) id.class) ≡ declared id c
            → ToldAlike 0xB6 id id.class (λ type. selected_together group c.met type id)
        of_owner same = on_object_told (declared id c) refl (met_again id c) same to_owner (λ type. same_select type)
            no_constructor selectable

        go : (o : Option Class) → class_named (all_classes p) id.class ≡ o
            → ToldAlike 0xB6 id id.class (λ type. selected_together group c.met type id)
        go None e = of_owner (ap (virtual_by (all_classes p) id) e ∙ resolved_is id c)
        go (Some class) e = by_import class.is_imported refl
          where
            by_import : (b : Bool) → class.is_imported ≡ b
                → ToldAlike 0xB6 id id.class (λ type. selected_together group c.met type id)
            by_import true is = of_owner (ap (virtual_by (all_classes p) id) e
                ∙ ap (λ b. if b then resolved_method (all_classes p) id else id) is ∙ resolved_is id c)
            by_import false is = of_named (ap (virtual_by (all_classes p) id) e
                ∙ ap (λ b. if b then resolved_method (all_classes p) id else id) is)

    -- what the machine by name does with invokespecial of a method that is not static
    special_up : is_static c.met.flags ≡ false → by.call holder 0xB7 id
        ≡ (if is_constructor id.name || is_private c.met.flags
        then Some (on_class w id.class (λ type. callee_at files c.met.owner.name id c.there))
        else Some (on_class w holder (λ type. above_together group c.met holder id)))
    special_up not_static = looked_up id c 0xB7
        ∙ ap (λ b. if b then None else (if is_constructor id.name || is_private c.met.flags
        then Some (on_class w id.class (λ type. callee_at files c.met.owner.name id c.there))
        else Some (on_class w holder (λ type. above_together group c.met holder id)))) not_static

    itself_told : is_static c.met.flags ≡ false → (is_constructor id.name || is_private c.hit.flags) ≡ true
        → (is_constructor id.name || is_private c.met.flags) ≡ true
        → ToldAlike 0xB7 id id.class (λ type. callee_at files c.met.owner.name id c.there)
    unfolding group_linked group_named resolution with_pairs
    itself_told not_static own met = record {
      callee = Fixed true (asked_by q (declared id c));
      names = a_direct (ap (key_by q) (ap (special_by holder id) (found_is id c)
          ∙ ap (λ b. if b then keys.StaticMethod (declared id c) else keys.Super (of_class holder id)) own));
      one = refl;
      on_an_object = refl;
      words = counted id c true (asked_by q (declared id c)) (from_asker group (hit_for files w)
          (asked_by q (declared id c)) (q ∷ c.hit.owner.name)) c.met refl (from_home (hit_for files w) (declared id c)
          ∙ met_again id c);
      by_name = special_up not_static
          ∙ ap (λ b. if b then Some (on_class w id.class (λ type. callee_at files c.met.owner.name id c.there))
          else Some (on_class w holder (λ type. above_together group c.met holder id))) met;
      of = to_owner;
      chooses = λ type. from_home (direct files w) (declared id c) ∙ direct_is id c;
    }

    above_told : (callee : linked_by.Callee) → is_static c.met.flags ≡ false
        → (is_constructor id.name || is_private c.hit.flags) ≡ false
        → (is_constructor id.name || is_private c.met.flags) ≡ false
        → above_together group c.met holder id ≡ Some callee → above files w p (of_class holder id) ≡ Some callee
        → ToldAlike 0xB7 id holder (λ type. above_together group c.met holder id)
    unfolding group_linked group_named resolution with_pairs
    above_told callee not_static own met there narrow = record {
      callee = OnSuper (asked_by q (of_class holder id));
      names = a_super (ap (key_by q) (ap (special_by holder id) (found_is id c)
          ∙ ap (λ b. if b then keys.StaticMethod (declared id c) else keys.Super (of_class holder id)) own));
      one = refl;
      on_an_object = refl;
      words = counted id c true (asked_by q (of_class holder id)) (from_asker group (above files w)
          (asked_by q (of_class holder id)) (q ∷ holder)) callee refl (from_home (above files w) (of_class holder id)
          ∙ narrow);
      by_name = special_up not_static
          ∙ ap (λ b. if b then Some (on_class w id.class (λ type. callee_at files c.met.owner.name id c.there))
          else Some (on_class w holder (λ type. above_together group c.met holder id))) met;
      of = λ type e. e;
      chooses = λ type. from_home (above files w) (of_class holder id) ∙ narrow ∙ sym there;
    }

    interface_told : is_constructor id.name ≡ false → (is_interface c.met.owner.flags && is_selectable c.met.flags)
        ≡ true → ToldAlike 0xB9 id id.class (λ type. interface_callee files w (selection_for w c.met) c.met.owner.name
        type id (class_named w (receiver type)))
    unfolding group_linked group_named resolution with_pairs
    interface_told no_constructor selectable = record {
      callee = OnInterface (nargs_of id) (asked_by q (declared id c));
      names = subst (λ d. Names (resolution_for homes tables m) 0xB9 id (OnInterface (nargs_of id) (asked_by q d)))
          (resolved_is id c) an_interface;
      one = refl;
      on_an_object = refl;
      words = from_home (λ p n. Some (nargs_of id)) (declared id c) ∙ ap Some (ap words_by (signature_is id.desc c.desc)
          ∙ ap (λ n. 1 + n) (words_of_all (parts id.desc).params c.desc.params ∙ as_many (parts id.desc).params));
      by_name = looked_up id c 0xB9
          ∙ ap (λ b. if b then None else (if is_interface c.met.owner.flags && is_selectable c.met.flags
          then Some (on_class w id.class (λ type. interface_callee files w (selection_for w c.met) c.met.owner.name type
          id (class_named w (receiver type)))) else None)) no_constructor
          ∙ ap (λ b. if b
          then Some (on_class w id.class (λ type. interface_callee files w (selection_for w c.met) c.met.owner.name type
          id (class_named w (receiver type)))) else None) selectable;
      of = to_owner;
      chooses = λ type. from_home (λ p n. by_interface files w p n type) (declared id c)
          ∙ ap (option_and_then (interface_by files w p (declared id c) type)) (met_again id c)
          ∙ same_interface type (class_named w (receiver type));
    }
      where
        same_interface : (type : List ℕ) (o : Option Class)
            → interface_callee files w (selection_for w c.met) c.met.owner.name type (declared id c) o
            ≡ interface_callee files w (selection_for w c.met) c.met.owner.name type id o
        same_interface type None = refl
        same_interface type (Some class) = either class.is_imported
          where
            either : (b : Bool) → (if b then Some (linked_by.Abroad (of_class c.met.owner.name (declared id c)))
                else selected_together group c.met type (declared id c))
                ≡ (if b then Some (linked_by.Abroad (of_class c.met.owner.name id)) else selected_together group c.met
                type id)
            either true = refl
            either false = same_select type

    told_alike : (op : ℕ) (class : List ℕ) (choice : List ℕ → Option linked_by.Callee)
        → ChoosesIn group p holder id c.hit c.there c.met op class choice → ToldAlike op id class choice
    told_alike _ _ _ (says.on_class no_constructor selectable) = on_class_told no_constructor selectable
    told_alike _ _ _ (says.itself not_static own met) = itself_told not_static own met
    told_alike _ _ _ (says.above_holder callee not_static own met there narrow) = above_told callee not_static own met
        there narrow
    told_alike _ _ _ (says.by_interface no_constructor selectable) = interface_told no_constructor selectable

  pub receiver_called : (stack : List Cell) (op : ℕ) (id : MemberId) → IsReceiverIn group l homes tables p holder stack
      op id → IsCalled by l w a m stack (jop.Call op id)
  unfolding group_named
  receiver_called stack op id h = told.on_receiver t.callee is_named (λ names at kind passes made. choose kind
      (h.choices names at kind passes made))
    where
      t : ToldAlike op id h.class h.choice
      t = told_alike id h.method op h.class h.choice h.form

      is_named : IsObjectNamed by l a m op id t.callee
      is_named = record {
        desc = (let c = h.method in c.desc);
        names = t.names;
        has_receiver = t.one;
        on_an_object = t.on_an_object;
        words = t.words;
        selected = λ type. if is_subtype w type h.class
            then h.choice type else None;
        by_name = t.by_name;
      }

      narrow : (kind : Shape (List ℕ)) → is_subtype w (shape_name kind) h.class ≡ true → (o : Option linked_by.Callee)
          → h.choice (shape_name kind) ≡ o → l.reached t.callee (Some kind) ≡ reached_by code o
      narrow kind of o e = ap (λ b. if b then reached_by code (selected_for group files w t.callee (shape_name kind))
          else Nowhere) (t.of (shape_name kind) of) ∙ ap (reached_by code) (t.chooses (shape_name kind) ∙ e)

      choose : (kind : Shape (List ℕ)) → IsChoiceIn group homes tables id h.class (shape_name kind) h.choice
          → IsSelected by l w a id t.callee (λ type. if is_subtype w type h.class
          then h.choice type else None) kind
      choose kind x = go x.callee x.chooses x.is_chosen
        where
          selected : (callee : linked_by.Callee) → h.choice (shape_name kind) ≡ Some callee
              → (if is_subtype w (shape_name kind) h.class then h.choice (shape_name kind) else None) ≡ Some callee
          selected callee e = ap (λ b. if b then h.choice (shape_name kind) else None) x.is_of ∙ e

          go : (callee : linked_by.Callee) → h.choice (shape_name kind) ≡ Some callee
              → IsChosenIn group homes tables id (shape_name kind) callee → IsSelected by l w a id t.callee
              (λ type. if is_subtype w type h.class then h.choice type else None) kind
          go _ e (says.inside {m = n} begun of) =
              let tabled = begun.has_tables in
              let read = class_read (let id = n.id in id.class) (declares n tabled.has) in
              told.inside n (selected (Inside n) e) (narrow kind x.is_of (Some (Inside n)) e) (begun_by group image
              homes tables true id.desc n begun) (ap (is_of_some l kind) read.class ∙ of)
          go _ e (says.abroad {event = event} desc) = told.abroad event (selected (linked_by.Abroad event) e)
              (narrow kind x.is_of (Some (linked_by.Abroad event)) e) (asked id h.method event desc)
