-- Calls of methods in int mode are told alike on both sides, by what the class files say.
use Rattle.std.proofs.Common.{◌≡◌, ◌+◌, ℕ, Bool, true, false, ◌&&◌, ◌||◌, List, Option, Some}
use Rattle.std.proofs.Common.{None, option_map, refl, sym, ap, subst, ◌∙◌, arith}
use Rattle.std.specs.Prelude.{if◌then◌else◌, option_and_then}
use Rattle.cjc_bytes.specs.AccessFlags.{is_static, is_private, is_interface}
use Rattle.cjc_bytes.specs.declared.fault.MemberId.{MemberId}
use Rattle.cjc_code.specs.declared.insn.JOp.TheVariants as jop
use Rattle.cjc_script.specs.Sorts.{Shape, OfClass, OfReferences, shape_name, signature_of}
use Rattle.cjc_card_semantics.specs.Bytecode.Machine.{Nowhere}
use Rattle.cjc_world.specs.Classes.{Class, all_classes, class_named}
use Rattle.cjc_world.specs.Files.{Files}
use Rattle.cjc_world.specs.Lookup.{is_selectable, find_method, receiver}
use Rattle.cjc_world.specs.Subtype.{is_subtype}
use Rattle.cjc_world.specs.declared.image.StaticImage.{StaticImage}
use Rattle.cjc_world.proofs.Subtypes.{transitive}
use Rattle.cjc_types.specs.declared.cell.Cell.{Cell}
use Rattle.cjc_types.specs.Steps.{receivers}
use Rattle.cjc_ncode.specs.declared.narrow.NMethod.{NMethod}
use Rattle.cjc_ncode.specs.declared.narrow.PoolKey.TheVariants as keys
use Rattle.cjc_ncode.specs.Written.{nargs_of, words_by}
use Rattle.cjc_ncode.specs.ByLabel.{by_label, Callee, Fixed, OnObject, OnSuper, OnInterface, Named, on_object}
use Rattle.cjc_jvm_semantics.specs.Linked.{Method, Linked, OnClass, Inside}
use Rattle.cjc_jvm_semantics.specs.Linked as linked_by
use Rattle.cjc_jvm_semantics.specs.OnePackage.{ResolvedMember, method_hit, of_class, is_constructor, callee_at}
use Rattle.cjc_jvm_semantics.specs.OnePackage.{selected_from, select_in, interface_callee, first_super, on_class}
use Rattle.cjc_jvm_semantics.specs.OnePackage.{call_named, call_by}
use Rattle.cjc_jvm_semantics.specs.ByName.{linked}
use Rattle.cjc_narrow_proof.specs.Selection.Callees.{Names, a_static, a_direct, a_super, a_virtual, an_interface}
use Rattle.cjc_narrow_proof.specs.Selection.Replies.{is_of_some, AsksAlike}
use Rattle.cjc_narrow_proof.proofs.TablesLaws.Spelt.{class_read}
use Rattle.cjc_narrow.specs.Rows.Resolved.{method_found, by_owner, resolved_method, virtual_by, special_by, resolution}
use Rattle.cjc_narrow.specs.Rows.Resolved.{parameter_words}
use Rattle.cjc_narrow.specs.Rows.Package.{reached_by, direct, selected_on, class_of_callee}
use Rattle.cjc_narrow.specs.Rows.Package.{words_where, named}
use Rattle.cjc_narrow_proof.specs.Runs.Types.{IsThere, of_class as class_there, of_numbers, of_references}
use Rattle.cjc_narrow_proof.specs.Runs.Calls as says
use Rattle.cjc_card_semantics.specs.Bytecode.Arguments.{widths}
use Rattle.cjc_narrow_proof.specs.Runs.Calls.{Chooses}
use Rattle.cjc_narrow_proof.proofs.RunsLaws.Calls.{there_by_name}
use Rattle.cjc_narrow_proof.specs.Runs.Tables.{Tables}
use Rattle.cjc_narrow_proof.specs.Tables.Analysis.{Analysis}
use Rattle.cjc_narrow_proof.specs.Tables.Calls.{IsAsked, types_of}
use Rattle.cjc_int_alike.specs.ByModes.{analysis_by_mode, bodies_by_mode, codes_by_mode, int_resolution}
use Rattle.cjc_int_alike.specs.ByModes.{look_ups_by_mode, result_in}
use Rattle.cjc_int_alike.specs.Callees.{IsCalledByMode, IsReachedByMode, IsSelectedByMode, calls_import, calls_method}
use Rattle.cjc_int_alike.specs.Callees.{calls_on_receiver, selects_import, selects_method}
use Rattle.cjc_int_alike.specs.Calls.{IsIntDesc}
use Rattle.cjc_int_alike.specs.Reached.{IsBegunIn, IsChosenIn, IsIntCallee, IsIntChoice, IsIntReceiverOn, IsIntStaticOn}
use Rattle.cjc_int_alike.specs.Reached.{IsReachedIn, inside, abroad, inside_of, abroad_of}
use Rattle.cjc_int_alike.proofs.Returns.{signature_is}

parameters : (desc : List ℕ) → IsIntDesc desc → parameter_words (signature_of desc)
    ≡ widths (let types = types_of desc in types.params)
parameters desc d = ap parameter_words (signature_is desc d)

module _ (files : Files) (image : StaticImage) (near : List MemberId) (tables : Tables) (is_int : Method → Bool) where
  pub asks : (kind : Shape (List ℕ)) → IsThere (all_classes files) kind
      → AsksAlike (linked files image) (look_ups_by_mode files image near tables is_int) kind
  unfolding by_label linked named
  asks _ (class_there {class = class} c there) = record {
    tells = λ of. ap (λ o. is_of_some (look_ups_by_mode files image near tables is_int) of (option_map OfClass o))
        (sym (there_by_name (all_classes files) class c there));
    same = λ other e. (let same : Some (OfClass class) ≡ Some other = ap (option_map OfClass)
        (sym (there_by_name (all_classes files) class c there)) ∙ e in cc);
  }
  asks _ (of_numbers {element = element}) = record { tells = λ of. refl; same = λ other e. cc }
  asks _ (of_references {class = class} c there) = record {
    tells = λ of. ap (λ o. is_of_some (look_ups_by_mode files image near tables is_int) of (option_map OfReferences o))
        (sym (there_by_name (all_classes files) class c there));
    same = λ other e. (let same : Some (OfReferences class) ≡ Some other = ap (option_map OfReferences)
        (sym (there_by_name (all_classes files) class c there)) ∙ e in cc);
  }

module _ (files : Files) (image : StaticImage) (near : List MemberId) (tables : Tables) (is_int : Method → Bool)
    (m : Method) where
  abbrev w : List Class
  w = all_classes files

  abbrev by : Linked
  by = linked files image

  abbrev l : Named
  l = look_ups_by_mode files image near tables is_int

  abbrev code : Method → NMethod
  code = codes_by_mode files image near tables is_int

  abbrev holder : List ℕ
  holder = let id = m.id in id.class

  abbrev a : Analysis
  a = analysis_by_mode files image near tables is_int

  abbrev ReachedByMode : (on : Bool) (desc : List ℕ) (callee : Method) → Type 0
  ReachedByMode on desc callee = IsReachedByMode by l w a (bodies_by_mode files image near tables is_int)
      (result_in files image near tables is_int) on desc callee

  begun_by : (on : Bool) (desc : List ℕ) (callee : Method) → IsBegunIn files image near tables is_int on desc callee
      → ReachedByMode on desc callee
  begun_by on desc callee h = record { begun = h.begun; desc = h.desc; flags = h.flags }

  abbrev CalledByMode : (stack : List Cell) (op : ℕ) (id : MemberId) → Type 0
  CalledByMode stack op id = IsCalledByMode by l w a (bodies_by_mode files image near tables is_int)
      (result_in files image near tables is_int) (int_resolution files image near tables is_int m) m stack
      (jop.Call op id)

  module _ (id : MemberId) (c : IsIntCallee files id) where
    abbrev owner : Class
    owner = let hit = c.hit in hit.owner

    abbrev declared : MemberId
    declared = of_class owner.name id

    found_is : method_found w id ≡ Some c.hit
    found_is = ap (option_and_then (method_hit w)) c.found ∙ c.is_hit

    found_again : method_found w declared ≡ Some c.hit
    found_again = ap (option_and_then (method_hit w)) c.again ∙ c.is_hit

    resolved_is : resolved_method w id ≡ declared
    resolved_is = ap (by_owner id) found_is

    asked : (event : MemberId) → event.desc ≡ id.desc → IsAsked by l id.desc event
    asked event desc = record {
      desc = desc;
      asks = λ kind e. asks files image near tables is_int kind (c.result kind
          e);
    }

    -- what the machine by name does, once the member is found
    looked_up : (op : ℕ) → call_named files w holder op id ≡ call_by files w (select_in w) holder op id c.place c.hit
    looked_up op =
        ap (λ b. if b then None else option_and_then (λ f. option_and_then (call_by files w (select_in w) holder op id
        f) (method_hit w f)) (find_method w id.class id.name id.desc)) c.no_initialiser
        ∙ ap (option_and_then (λ f. option_and_then (call_by files w (select_in w) holder op id f) (method_hit w f)))
        c.found
        ∙ ap (option_and_then (call_by files w (select_in w) holder op id c.place)) c.is_hit

    counted : (on : Bool) (other : MemberId) (found : Option ResolvedMember) → other.desc ≡ id.desc → found ≡ Some c.hit
        → words_where on other found ≡ Some ((if on then 1 else 0) + widths (let types = types_of id.desc
        in types.params))
    counted on other found desc is = ap (words_where on other) is ∙ ap (λ n. Some ((if on then 1 else 0) + n))
        (ap (λ d. parameter_words (signature_of d)) desc ∙ parameters id.desc c.desc)

    -- with a receiver
    one_more : (other : MemberId) (found : Option ResolvedMember) → other.desc ≡ id.desc → found ≡ Some c.hit
        → words_where true other found ≡ Some (widths (let types = types_of id.desc in types.params) + 1)
    one_more other found desc is = counted true other found desc is
        ∙ ap Some (let e : 1 + widths (let types = types_of id.desc in types.params)
        ≡ widths (let types = types_of id.desc in types.params) + 1 = omega arith in e)

    -- ---- static

    static_names : Names (int_resolution files image near tables is_int m) 0xB8 id (Fixed false declared)
    unfolding named resolution
    static_names = subst (λ d. Names (int_resolution files image near tables is_int m) 0xB8 id (Fixed false d))
        resolved_is (a_static refl)

    static_words : l.words (Fixed false declared) ≡ Some (widths (let types = types_of id.desc in types.params))
    unfolding named
    static_words = counted false declared (method_found w declared) refl found_again
        ∙ ap Some (let e : 0 + widths (let types = types_of id.desc in types.params)
        ≡ widths (let types = types_of id.desc in types.params) = omega arith in e)

    direct_is : (o : Option linked_by.Callee) → callee_at files owner.name id c.place ≡ o → direct files w declared ≡ o
    direct_is o e = ap (option_and_then (λ f. callee_at files owner.name declared f)) c.again ∙ e

  pub static_called : (id : MemberId) (stack : List Cell) → IsIntStaticOn files image near tables is_int id
      → CalledByMode stack 0xB8 id
  unfolding linked named
  static_called id stack h = go h.callee h.reaches h.is_reached
    where
      by_name : (callee : linked_by.Callee) → (let c = h.method in let hit = c.hit in let owner = hit.owner
          in callee_at files owner.name id c.place) ≡ Some callee → call_named files w holder 0xB8 id
          ≡ Some (OnClass callee)
      by_name callee e =
          let c = h.method in
          looked_up id c 0xB8
          ∙ ap (λ b. if b then None else (if is_static c.hit.flags
          then option_map OnClass (callee_at files c.hit.owner.name id c.place) else None)) h.no_constructor
          ∙ ap (λ b. if b then option_map OnClass (callee_at files c.hit.owner.name id c.place)
          else None) h.is_static_one ∙ ap (option_map OnClass) e

      go : (callee : linked_by.Callee) → (let c = h.method in let hit = c.hit in let owner = hit.owner
          in callee_at files owner.name id c.place) ≡ Some callee → IsReachedIn files image near tables is_int id callee
          → CalledByMode stack 0xB8 id
      go _ e (inside {m = n} begun) =
          let c = h.method in
          calls_method (Fixed false (declared id c)) c.desc (static_names id c) refl (static_words id c) n
          (by_name (Inside n) e) (ap (reached_by code) (direct_is id c (Some (Inside n)) e))
          (begun_by false id.desc n begun)
      go _ e (abroad {event = event} desc) =
          let c = h.method in
          calls_import (Fixed false (declared id c)) c.desc (static_names id c) refl (static_words id c) event
          (by_name (linked_by.Abroad event) e) (ap (reached_by code) (direct_is id c (Some (linked_by.Abroad event)) e))
          (asked id c event desc)

  -- ---- on a receiver

  -- what narrow code names for a call that chooses so
  record ToldAlike (op : ℕ) (id : MemberId) (class : List ℕ) (choice : List ℕ → Option linked_by.Callee) : Type 0 where
    callee : Callee
    names : Names (int_resolution files image near tables is_int m) op id callee
    one : receivers op ≡ 1
    on_an_object : on_object callee ≡ true
    words : l.words callee ≡ Some (widths (let types = types_of id.desc in types.params) + 1)
    by_name : by.call holder op id ≡ Some (on_class w class choice)
    of : (type : List ℕ) → is_subtype w type class ≡ true → is_subtype w type (class_of_callee callee) ≡ true
    chooses : (type : List ℕ) → selected_on files w callee type ≡ choice type

  module _ (id : MemberId) (c : IsIntCallee files id) where
    to_owner : (type : List ℕ) → is_subtype w type id.class ≡ true → is_subtype w type c.hit.owner.name ≡ true
    to_owner type e = transitive w type id.class c.hit.owner.name e c.above

    on_class_told : is_constructor id.name ≡ false → is_selectable c.hit.flags ≡ true
        → ToldAlike 0xB6 id id.class (λ type. selected_from files w (select_in w) type id)
    unfolding linked named resolution
    on_class_told no_constructor selectable = go (class_named w id.class) refl
      where
        called : call_named files w holder 0xB6 id
            ≡ Some (on_class w id.class (λ type. selected_from files w (select_in w) type id))
        called = looked_up id c 0xB6
            ∙ ap (λ b. if b then None else (if is_selectable c.hit.flags
            then Some (on_class w id.class (λ type. selected_from files w (select_in w) type id)) else None))
            no_constructor
            ∙ ap (λ b. if b then Some (on_class w id.class (λ type. selected_from files w (select_in w) type id))
            else None) selectable

        of_named : virtual_by w id (class_named w id.class) ≡ id
            → ToldAlike 0xB6 id id.class (λ type. selected_from files w (select_in w) type id)
        of_named same = record {
          callee = OnObject id;
          names = a_virtual (ap (λ n. keys.Virtual n) same);
          one = refl;
          on_an_object = refl;
          words = one_more id c id (method_found w id) refl (found_is id c);
          by_name = called;
          of = λ type e. e;
          chooses = λ type. refl;
        }

        of_owner : virtual_by w id (class_named w id.class) ≡ declared id c
            → ToldAlike 0xB6 id id.class (λ type. selected_from files w (select_in w) type id)
        of_owner same = record {
          callee = OnObject (declared id c);
          names = a_virtual (ap (λ n. keys.Virtual n) same);
          one = refl;
          on_an_object = refl;
          words = one_more id c (declared id c) (method_found w (declared id c)) refl (found_again id c);
          by_name = called;
          of = to_owner;
          chooses = λ type. refl;
        }

        go : (o : Option Class) → class_named w id.class ≡ o
            → ToldAlike 0xB6 id id.class (λ type. selected_from files w (select_in w) type id)
        go None e = of_owner (ap (virtual_by w id) e ∙ resolved_is id c)
        go (Some class) e = by_import class.is_imported refl
          where
            by_import : (b : Bool) → class.is_imported ≡ b
                → ToldAlike 0xB6 id id.class (λ type. selected_from files w (select_in w) type id)
            by_import true is = of_owner (ap (virtual_by w id) e ∙ ap (λ b. if b then resolved_method w id else id) is
                ∙ resolved_is id c)
            by_import false is = of_named (ap (virtual_by w id) e ∙ ap (λ b. if b then resolved_method w id else id) is)

    itself_told : is_static c.hit.flags ≡ false → (is_constructor id.name || is_private c.hit.flags) ≡ true
        → ToldAlike 0xB7 id id.class (λ type. callee_at files c.hit.owner.name id c.place)
    unfolding linked named resolution
    itself_told not_static own = record {
      callee = Fixed true (declared id c);
      names = a_direct (ap (special_by holder id) (found_is id c) ∙ ap (λ b. if b then keys.StaticMethod (declared id c)
          else keys.Super (of_class holder id)) own);
      one = refl;
      on_an_object = refl;
      words = one_more id c (declared id c) (method_found w (declared id c)) refl (found_again id c);
      by_name = looked_up id c 0xB7
          ∙ ap (λ b. if b then None else (if is_constructor id.name || is_private c.hit.flags
          then Some (on_class w id.class (λ type. callee_at files c.hit.owner.name id c.place))
          else Some (on_class w holder (λ type. option_and_then (λ super. selected_from files w (select_in w) super
          id) (first_super (class_named w holder)))))) not_static
          ∙ ap (λ b. if b then Some (on_class w id.class (λ type. callee_at files c.hit.owner.name id c.place))
          else Some (on_class w holder (λ type. option_and_then (λ super. selected_from files w (select_in w) super
          id) (first_super (class_named w holder))))) own;
      of = to_owner;
      chooses = λ type. direct_is id c (callee_at files c.hit.owner.name id c.place) refl;
    }

    above_told : (callee : linked_by.Callee) → is_static c.hit.flags ≡ false
        → (is_constructor id.name || is_private c.hit.flags) ≡ false
        → option_and_then (λ super. selected_from files w (select_in w) super id) (first_super (class_named w holder))
        ≡ Some callee
        → ToldAlike 0xB7 id holder (λ type. option_and_then (λ super. selected_from files w (select_in w) super id)
        (first_super (class_named w holder)))
    unfolding linked named resolution
    above_told callee not_static own there = record {
      callee = OnSuper (of_class holder id);
      names = a_super (ap (special_by holder id) (found_is id c) ∙ ap (λ b. if b then keys.StaticMethod (declared id c)
          else keys.Super (of_class holder id)) own);
      one = refl;
      on_an_object = refl;
      words = ap (words_where true (of_class holder id)) there ∙ ap (λ n. Some (1 + n)) (parameters id.desc c.desc)
          ∙ ap Some (let e : 1 + widths (let types = types_of id.desc in types.params)
          ≡ widths (let types = types_of id.desc in types.params) + 1 = omega arith in e);
      by_name = looked_up id c 0xB7
          ∙ ap (λ b. if b then None else (if is_constructor id.name || is_private c.hit.flags
          then Some (on_class w id.class (λ type. callee_at files c.hit.owner.name id c.place))
          else Some (on_class w holder (λ type. option_and_then (λ super. selected_from files w (select_in w) super
          id) (first_super (class_named w holder)))))) not_static
          ∙ ap (λ b. if b then Some (on_class w id.class (λ type. callee_at files c.hit.owner.name id c.place))
          else Some (on_class w holder (λ type. option_and_then (λ super. selected_from files w (select_in w) super
          id) (first_super (class_named w holder))))) own;
      of = λ type e. e;
      chooses = λ type. refl;
    }

    interface_told : is_constructor id.name ≡ false → (is_interface c.hit.owner.flags && is_selectable c.hit.flags)
        ≡ true → ToldAlike 0xB9 id id.class (λ type. interface_callee files w (select_in w) c.hit.owner.name type id
        (class_named w (receiver type)))
    unfolding linked named resolution
    interface_told no_constructor selectable = record {
      callee = OnInterface (nargs_of id) (declared id c);
      names = subst (λ d. Names (int_resolution files image near tables is_int m) 0xB9 id (OnInterface (nargs_of id) d))
          (resolved_is id c)
          an_interface;
      one = refl;
      on_an_object = refl;
      words = ap Some (ap words_by (signature_is id.desc c.desc)
          ∙ (let e : 1 + widths (let types = types_of id.desc in types.params)
          ≡ widths (let types = types_of id.desc in types.params) + 1 = omega arith in e));
      by_name = looked_up id c 0xB9
          ∙ ap (λ b. if b then None else (if is_interface c.hit.owner.flags && is_selectable c.hit.flags
          then Some (on_class w id.class (λ type. interface_callee files w (select_in w) c.hit.owner.name type id
          (class_named w (receiver type)))) else None)) no_constructor
          ∙ ap (λ b. if b
          then Some (on_class w id.class (λ type. interface_callee files w (select_in w) c.hit.owner.name type id
          (class_named w (receiver type)))) else None) selectable;
      of = to_owner;
      chooses = λ type. refl;
    }

    told_alike : (op : ℕ) (class : List ℕ) (choice : List ℕ → Option linked_by.Callee)
        → Chooses files holder id c.place c.hit op class choice → ToldAlike op id class choice
    told_alike _ _ _ (says.on_class no_constructor selectable) = on_class_told no_constructor selectable
    told_alike _ _ _ (says.itself not_static own) = itself_told not_static own
    told_alike _ _ _ (says.above_holder callee not_static own there) = above_told callee not_static own there
    told_alike _ _ _ (says.by_interface no_constructor selectable) = interface_told no_constructor selectable

  pub receiver_called : (stack : List Cell) (op : ℕ) (id : MemberId)
      → IsIntReceiverOn files image near tables is_int holder stack op id → CalledByMode stack op id
  unfolding named
  receiver_called stack op id h = calls_on_receiver t.callee (let c = h.method in c.desc) t.names t.one t.on_an_object
      t.words (λ type. if is_subtype w type h.class then h.choice type else None) t.by_name
      (λ names at kind passes made. choose kind (h.choices names at kind passes made))
    where
      t : ToldAlike op id h.class h.choice
      t = told_alike id h.method op h.class h.choice h.form

      narrow : (kind : Shape (List ℕ)) → is_subtype w (shape_name kind) h.class ≡ true → (o : Option linked_by.Callee)
          → h.choice (shape_name kind) ≡ o → l.reached t.callee (Some kind) ≡ reached_by code o
      narrow kind of o e = ap (λ b. if b then reached_by code (selected_on files w t.callee (shape_name kind))
          else Nowhere) (t.of (shape_name kind) of) ∙ ap (reached_by code) (t.chooses (shape_name kind) ∙ e)

      choose : (kind : Shape (List ℕ)) → IsIntChoice files image near tables is_int id h.class (shape_name kind)
          h.choice
          → IsSelectedByMode by l w a (bodies_by_mode files image near tables is_int)
          (result_in files image near tables is_int) id t.callee (λ type. if is_subtype w type h.class
          then h.choice type else None) kind
      choose kind x = go x.callee x.chooses x.is_chosen
        where
          selected : (callee : linked_by.Callee) → h.choice (shape_name kind) ≡ Some callee
              → (if is_subtype w (shape_name kind) h.class then h.choice (shape_name kind) else None) ≡ Some callee
          selected callee e = ap (λ b. if b then h.choice (shape_name kind) else None) x.is_of ∙ e

          go : (callee : linked_by.Callee) → h.choice (shape_name kind) ≡ Some callee
              → IsChosenIn files image near tables is_int id (shape_name kind) callee
              → IsSelectedByMode by l w a (bodies_by_mode files image near tables is_int)
              (result_in files image near tables is_int) id t.callee (λ type. if is_subtype w type h.class
              then h.choice type else None) kind
          go _ e (inside_of {m = n} begun of) =
              let read = class_read (let id = n.id in id.class) begun.named in
              selects_method n (selected (Inside n) e) (narrow kind x.is_of (Some (Inside n)) e)
              (begun_by true id.desc n begun) (ap (is_of_some l kind) read.class ∙ of)
          go _ e (abroad_of {event = event} desc) = selects_import event (selected (linked_by.Abroad event) e)
              (narrow kind x.is_of (Some (linked_by.Abroad event)) e) (asked id h.method event desc)
