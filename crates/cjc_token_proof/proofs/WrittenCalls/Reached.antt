-- Each call reaches by token what it reaches by name.
use Rattle.std.proofs.Common.{◌≡◌, ℕ, zero, suc, refl, sym, ap, subst, ◌∙◌, Bool, true, false, List, [], ◌∷◌, inl, inr}
use Rattle.std.specs.Prelude.{Option, Some, slice_get, map, position, is_some, not, ◌&&◌, option_and_then}
use Rattle.std.specs.Prelude.{if◌then◌else◌}
use Rattle.cjc_bytes.specs.AccessFlags.{is_abstract, is_interface}
use Rattle.cjc_bytes.specs.declared.fault.MemberId.{MemberId}
use Rattle.cjc_bytes.proofs.Bools.{and_true}
use Rattle.cjc_card_semantics.specs.Bytecode.Alike.{IsFound, reached_as}
use Rattle.cjc_card_semantics.specs.Bytecode.Machine.{Reached, Nowhere}
use Rattle.cjc_card_semantics.specs.Bytecode.Renaming.{option_as, shape_as}
use Rattle.cjc_jvm_semantics.specs.OnePackage.{first_imported, first_super, interface_callee, is_initialiser, of_class}
use Rattle.cjc_jvm_semantics.specs.OnePackage.{select_in, selected_from}
use Rattle.cjc_token_proof.proofs.ByToken.Members.{bytes_tell}
use Rattle.cjc_token_proof.specs.ByToken.Supers.{SaysKinds}
use Rattle.cjc_token_proof.specs.Calls.Reaching.{BeginsAtOffsets, SaysFixed, SaysSuper, StandsInMethod, is_in_method}
use Rattle.cjc_token_proof.specs.Calls.Reaching.{reached_at, reached_placed}
use Rattle.cjc_token_proof.specs.Calls.Selecting.{SaysInterface, SelectionsAgree, signature}
use Rattle.cjc_token_proof.proofs.CallsLaws.Dispatch as dispatch
use Rattle.cjc_token_proof.proofs.CallsLaws.Selections as selections
use Rattle.cjc_token_proof.proofs.CallsLaws.Reaching as reaching
use Rattle.cjc_token_proof.proofs.CallsLaws.Towers as card_towers
use Rattle.cjc_card_semantics.specs.Machine.Calls
use Rattle.cjc_card_semantics.specs.Machine.Classes as card_classes
use Rattle.cjc_card_semantics.specs.Machine.Dispatch.{Outward, interface_method, named_in, of_file, of_names, outward}
use Rattle.cjc_components.specs.Methods.{method_offset}
use Rattle.cjc_components.specs.Names.{class_at as card_class, fixed_as, member_ref, member_token, offset_where}
use Rattle.cjc_components.specs.Names.{token_in_interface}
use Rattle.cjc_components.specs.Package.{Package, world}
use Rattle.cjc_ncode.specs.Lowering.Naming.{callee}
use Rattle.cjc_ncode.specs.Lowering.Placed.{Placed, code_of, offset_of}
use Rattle.cjc_ncode.specs.ByLabel.{Callee, Fixed, OnInterface, OnObject, OnSuper}
use Rattle.cjc_jvm_semantics.specs.Linked.{Method}
use Rattle.cjc_components.specs.LowerNarrow.Rows.Package.{selected_on}
use Rattle.cjc_components.specs.Paired.Naming.{signature_name}
use Rattle.cjc_script.specs.Sorts.{Element, Booleans, Bytes, Shorts, Ints, Shape, OfClass, OfNumbers, OfReferences}
use Rattle.cjc_script.specs.Sorts.{array_name, shape_name}
use Rattle.cjc_token_proof.specs.Tables.Loading.{naming}
use Rattle.cjc_tokens.specs.Lines.{Declared, Imported, line_in, line_of}
use Rattle.cjc_tokens.specs.Members.{Signature, same}
use Rattle.cjc_tokens.specs.Methods.{interface_methods}
use Rattle.cjc_tokens.proofs.Walks.{supertypes-known}
use Rattle.cjc_vtable.specs.Calls.{finds_hidden}
use Rattle.cjc_vtable.specs.Laws.{Under, below, itself}
use Rattle.cjc_vtable.specs.Tables.{or_zero}
use Rattle.cjc_tokens.specs.Slots.{slots, token}
use Rattle.cjc_world.specs.declared.found.Found.{Found}
use Rattle.cjc_world.specs.Added.{added}
use Rattle.cjc_world.specs.Classes.{Class, class_named}
use Rattle.cjc_world.specs.Supertypes.{Lists, foremost, supertypes, line, upwards}
use Rattle.cjc_world.specs.Lookup.{find_method, first, object, or_else, own_method, receiver, selected}
use Rattle.cjc_world.specs.Subtype.{array_is, element, is_element, is_subclass, is_subtype, starts}
use Rattle.cjc_world.proofs.Cycles.{class_named-name as name_is}
use Rattle.cjc_token_proof.specs.WrittenCalls.Calls.{ExportsKeep, IsNamed, KeepsSubtypes, KeepsTokens, Receives, fixed}
use Rattle.cjc_token_proof.specs.WrittenCalls.Calls.{got, hidden, none, shown, numbers, on_interface, on_object}
use Rattle.cjc_token_proof.specs.WrittenCalls.Calls.{on_super, one_of, references}
use Rattle.cjc_token_proof.proofs.WrittenCalls.Facts.{Facts}
use Rattle.cjc_token_proof.proofs.WrittenCalls.Files.{position_has}
use Rattle.cjc_token_proof.proofs.WrittenCalls.Receivers.{first_step, found_stands, line_found}
use Rattle.cjc_token_proof.proofs.WrittenCalls.Receivers.{receiver_says}
use Rattle.cjc_token_proof.proofs.WrittenCalls.Found.{Own, own_is, stands_in_method}
use Rattle.cjc_token_proof.proofs.WrittenCalls.Tokens.{dispatched_hidden, dispatched_shown, token_says}
use Rattle.cjc_token_proof.proofs.WrittenCalls.Towers.{class_stands, height_fits, line_is, super_fits}
use Rattle.cjc_token_proof.proofs.WrittenCalls.Tables.{tables}
use Rattle.cjc_world_proof.proofs.CallsLaws.Types.{receiver_class}

pub find_first : (w : List Class) (x name desc : List ℕ) (f : Found) → first (own_method false name desc) (line w x)
    ≡ Some f → find_method w x name desc ≡ Some f
unfolding find_method
find_first w x name desc f e =
    ap (λ o. or_else o (first (own_method false name desc) (Rattle.cjc_world.specs.Interfaces.known
    (Rattle.cjc_world.specs.Interfaces.gathered false (supertypes w (x ∷ [])))))) e

module _ (p : Package) (facts : Facts p) (subtypes : KeepsSubtypes (world p)) (tokens : KeepsTokens (world p))
    (keep : ExportsKeep p) (kinds : SaysKinds (world p) (naming p)) (place : Method
    → Placed) (begins : BeginsAtOffsets p.files (world p) (naming p) (method_offset p) place) where
  abbrev w : List Class
  w = world p

  abbrev n : Rattle.cjc_ncode.specs.Lowering.Naming.Naming
  n = naming p

  -- ---- dispatch on an object of a class

  pub agrees : (x : List ℕ) (c : Class) (e : class_named w x ≡ Some c) (class_here : is_interface c.flags ≡ false)
      → SelectionsAgree w n (method_offset p) x (let s = class_stands p facts x c e class_here in s.foot)
  agrees x c e class_here =
      let s = class_stands p facts x c e class_here in
      selections.selections_agree w n (method_offset p) x s.foot c e class_here facts.virtual_calls
      facts.interface_calls
      (dispatch.dispatch_agrees w facts.are_supertypes facts.one_supertypes n (method_offset p) facts.low kinds s.height
      x s.foot s.tower (height_fits p facts x c e s))

  -- ---- virtual calls

  line_imported : (x : List ℕ) (c : Class) → class_named w x ≡ Some c → c.is_imported ≡ true
      → line_of w x ≡ Imported (c ∷ upwards (supertypes w c.supers))
  line_imported x c e import = ap (line_in w) (supertypes-known w facts.are_supertypes facts.one_supertypes x c e)
      ∙ ap (λ t. if t then Imported (c ∷ upwards (supertypes w c.supers))
      else Declared c (added w c) (line_in w (supertypes w c.supers))) import

  -- a package-visible method is found from a class of the package alone
  pub hidden_own : (x : List ℕ) (c : Class) (s : Signature) → class_named w x ≡ Some c → finds_hidden (line_of w x) s
      ≡ true → (offset : ℕ) × (card_class p x ≡ card_classes.Own 0 offset)
  hidden_own x c s e h = by c.is_imported refl
    where
      by : (t : Bool) → c.is_imported ≡ t → (offset : ℕ) × (card_class p x ≡ card_classes.Own 0 offset)
      by true is = let clash : false ≡ true = sym (ap (λ l. finds_hidden l s) (line_imported x c e is)) ∙ h
          in absurd (cc)
      by false is = let i = facts.own x c e is in (i.offset, sym (ap (card_class p) (name_is w x c e)) ∙ i.on_card)

  virtual_on : (m : MemberId) (d : Class) → class_named w m.class ≡ Some d → is_interface d.flags ≡ false
      → is_initialiser m.name ≡ false → Rattle.cjc_token_proof.specs.WrittenCalls.Calls.IsSought w m
      → (x : List ℕ) (c : Class) → class_named w x ≡ Some c → is_interface c.flags ≡ false → (c.is_imported ≡ false
      → is_abstract c.flags ≡ false) → (r : Reached Placed)
      → reached_at p.files w place (OnObject m) (Some (OfClass x)) ≡ r → IsFound r
      → Calls.reached n.loaded (callee n (OnObject m)) (Some (OfClass (n.class x))) ≡ reached_as (code_of n)
      (offset_of n) r
  virtual_on m d known class_here plain sought x c e not_interface made r h is =
      let s = class_stands p facts x c e not_interface in
      reaching.virtual_calls_reach p.files w n (method_offset p) place begins x s.foot (receiver_says p facts
      subtypes.climbs kinds x c e not_interface) (agrees x c e not_interface) m d r known class_here plain
      (token_says p facts tokens m d known class_here (hidden_own m.class d (signature m) known) x c e not_interface
      (inr made) sought) h is

  -- ---- arrays are receivers as java/lang/Object is

  -- the name of an array
  pub record IsArray (a : List ℕ) : Type 0 where
    pub starts_so : starts 91 a ≡ true
    pub received : receiver a ≡ object

  pub numbers_array : (element : Element) → IsArray (array_name element)
  numbers_array Booleans = record { starts_so = refl; received = refl }
  numbers_array Bytes = record { starts_so = refl; received = refl }
  numbers_array Shorts = record { starts_so = refl; received = refl }
  numbers_array Ints = record { starts_so = refl; received = refl }

  pub references_array : (x : List ℕ) → IsArray (shape_name (OfReferences x))
  references_array x = record { starts_so = refl; received = refl }

  array_subtype : (a y : List ℕ) → IsArray a → starts 91 y ≡ false → is_subtype w a y ≡ is_subtype w object y
  unfolding is_subtype
  array_subtype a y is no_array =
      ap (λ t. if t then (if starts 91 y then is_element w (element a) (element y) else array_is w y)
      else not (starts 91 y) && is_subclass w a y) is.starts_so
      ∙ ap (λ t. if t then is_element w (element a) (element y) else array_is w y) no_array
      ∙ sym (ap (λ t. not t && is_subclass w object y) no_array)

  array_virtual : (a : List ℕ) (m : MemberId) → IsArray a → selected_from p.files w (select_in w) a m
      ≡ selected_from p.files w (select_in w) object m
  unfolding selected
  array_virtual a m is = ap (λ b. option_and_then (λ f. Rattle.cjc_jvm_semantics.specs.OnePackage.callee_at p.files
      (Rattle.cjc_jvm_semantics.specs.OnePackage.first_imported (Rattle.cjc_world.specs.Supertypes.line w b)) m f)
      (Rattle.cjc_world.specs.Lookup.first (Rattle.cjc_world.specs.Lookup.own_method true m.name m.desc)
      (Rattle.cjc_world.specs.Supertypes.line w b))) is.received

  -- of the types of arrays
  abbrev on_card : Shape (List ℕ) → Option card_classes.Class
  on_card kind = card_classes.shape_class n.loaded (shape_as n.class kind)

  array_virtual_on : (m : MemberId) (kind : Shape (List ℕ)) → IsArray (shape_name kind)
      → on_card kind ≡ card_classes.object_class n.loaded → starts 91 m.class ≡ false
      → ((r : Reached Placed) → reached_at p.files w place (OnObject m) (Some (OfClass object)) ≡ r → IsFound r
      → Calls.reached n.loaded (callee n (OnObject m)) (Some (OfClass (n.class object))) ≡ reached_as (code_of n)
      (offset_of n) r)
      → (r : Reached Placed) → reached_at p.files w place (OnObject m) (Some kind) ≡ r → IsFound r
      → Calls.reached n.loaded (callee n (OnObject m)) (Some (shape_as n.class kind)) ≡ reached_as (code_of n)
      (offset_of n) r
  array_virtual_on m kind array card no_array on r h is =
      ap (λ o. Calls.reached_by n.loaded (Calls.selected n.loaded (callee n (OnObject m)) o)) (card
      ∙ kinds.object_class)
      ∙ on r (sym (ap (λ t. if t then reached_placed place (selected_from p.files w (select_in w) (shape_name kind) m)
      else Nowhere) (array_subtype (shape_name kind) m.class array no_array)
      ∙ ap (λ c. if is_subtype w object m.class then reached_placed place c
      else Nowhere) (array_virtual (shape_name kind) m array)) ∙ h) is

  -- no imported class is asked whether it is abstract
  external : (c : Class) → c.is_imported ≡ true → c.is_imported ≡ false → is_abstract c.flags ≡ false
  external c import own = (let clash : false ≡ true = sym own ∙ import in absurd (cc))

  pub virtual_reached : (m : MemberId) (d : Class) → class_named w m.class ≡ Some d → is_interface d.flags ≡ false
      → is_initialiser m.name ≡ false → Rattle.cjc_token_proof.specs.WrittenCalls.Calls.IsSought w m
      → (o : Option (Shape (List ℕ))) → Receives w o → (r : Reached Placed) → reached_at p.files w place (OnObject m) o
      ≡ r → IsFound r → Calls.reached n.loaded (callee n (OnObject m)) (option_as (shape_as n.class) o)
      ≡ reached_as (code_of n) (offset_of n) r
  virtual_reached m d known class_here plain sought o none r h is = absurd (subst IsFound (sym h) is)
  virtual_reached m d known class_here plain sought o (one_of {x = x} c e not_interface made) r h is =
      virtual_on m d known class_here plain sought x c e not_interface made r h is
  virtual_reached m d known class_here plain sought o (numbers {element = element}) r h is =
      let c = facts.object_class in
      array_virtual_on m (OfNumbers element) (numbers_array element) refl (kinds.no_array m.class (ap is_some known))
      (virtual_on m d known class_here plain sought object c.0 c.1 c.3 (external c.0 c.2)) r h is
  virtual_reached m d known class_here plain sought o (references {x = x}) r h is =
      let c = facts.object_class in
      array_virtual_on m (OfReferences x) (references_array x) refl (kinds.no_array m.class (ap is_some known))
      (virtual_on m d known class_here plain sought object c.0 c.1 c.3 (external c.0 c.2)) r h is

  -- ---- calls of methods of interfaces

  module _ (m : MemberId) (i : Class) (k : ℕ) (known : class_named w m.class ≡ Some i) (interface_here : is_interface
      i.flags ≡ true) (plain : is_initialiser m.name ≡ false) (placed : position (λ s. same s (signature m))
      (interface_methods w i) ≡ Some k) where
    pub token_is : n.interface_token m ≡ k
    token_is = ap (token_in_interface w (signature m)) known ∙ ap or_zero placed

    method_there : slice_get (interface_methods w i) (n.interface_token m) ≡ Some (signature m)
    method_there =
        let r = position_has (λ s. same s (signature m)) (interface_methods w i) k (signature m) placed in
        let two = and_true (Rattle.std.specs.Str.bytes_eq r.0.name m.name) (Rattle.std.specs.Str.bytes_eq r.0.desc
        m.desc) r.2 in
        ap (slice_get (interface_methods w i)) token_is ∙ r.1
        ∙ ap (λ x. Some (record { name = x; desc = r.0.desc })) (bytes_tell r.0.name m.name two.0)
        ∙ ap (λ x. Some (record { name = m.name; desc = x })) (bytes_tell r.0.desc m.desc two.1)

    pub says_interface : (x : List ℕ) (c : Class) → class_named w x ≡ Some c → is_interface c.flags ≡ false
        → is_subtype w x m.class ≡ true → SaysInterface w n m c
    says_interface x c e not_interface sub = record {
      interface = i;
      among = subtypes.implements x m.class c i e not_interface known interface_here sub;
      there = method_there;
      has = ap is_some known;
      plain = plain;
    }

    get_signature : (ss : List Signature) (j : ℕ) (s : Signature) → slice_get ss j ≡ Some s
        → slice_get (map signature_name ss) j ≡ Some (signature_name s)
    get_signature [] j s e = absurd (cc)
    get_signature (t ∷ ss) zero s e = let same_one : t ≡ s = cc in ap (λ q. Some (signature_name q)) same_one
    get_signature (t ∷ ss) (suc j) s e = get_signature ss j s e

    -- the event of the interface
    event_is : interface_method n.loaded (n.class m.class) (n.interface_token m) ≡ Outward m
    event_is = by i.is_imported refl
      where
        by : (t : Bool) → i.is_imported ≡ t → interface_method n.loaded (n.class m.class) (n.interface_token m)
            ≡ Outward m
        by false own =
            let h = facts.own m.class i known own in
            let name = name_is w m.class i known in
            ap (λ c. interface_method n.loaded c (n.interface_token m)) (sym (ap (card_class p) name) ∙ h.on_card)
            ∙ ap (λ o. of_names o (n.interface_token m)) h.names
            ∙ ap (λ t. named_in i.name (slice_get (if t then map signature_name (interface_methods w i)
            else []) (n.interface_token m))) interface_here
            ∙ ap (named_in i.name) (get_signature (interface_methods w i) (n.interface_token m) (signature m)
            method_there)
            ∙ ap (λ x. Outward (record { class = x; name = m.name; desc = m.desc })) name
        by true import =
            let h = facts.file m.class i known import in
            let name = name_is w m.class i known in
            let entry_name : h.entry.name ≡ m.class = sym (ap (λ (q : Class). q.name) h.class) ∙ name in
            let r = keep.methods m.class h.number h.entry (known ∙ ap Some h.class)
            (sym (ap (λ (q : Class). is_interface q.flags) h.class) ∙ interface_here) (n.interface_token m)
            (signature m) (ap (λ q. slice_get (interface_methods w q) (n.interface_token m)) (sym h.class)
            ∙ method_there) in
            ap (λ c. interface_method n.loaded c (n.interface_token m)) (sym (ap (card_class p) name) ∙ h.on_card)
            ∙ ap (λ o. of_file o (n.interface_token m)) h.there
            ∙ ap (λ o. outward h.entry.name o Rattle.cjc_card_semantics.specs.Machine.Dispatch.NotFound) r.1
            ∙ ap (λ (s : Signature). Outward (record { class = h.entry.name; name = s.name; desc = s.desc })) r.2
            ∙ ap (λ x. Outward (record { class = x; name = m.name; desc = m.desc })) entry_name

    interface_on : (words : ℕ) (x : List ℕ) (c : Class) → class_named w x ≡ Some c → is_interface c.flags ≡ false
        → (c.is_imported ≡ false → is_abstract c.flags ≡ false) → (r : Reached Placed)
        → reached_at p.files w place (OnInterface words m) (Some (OfClass x)) ≡ r → IsFound r
        → Calls.reached n.loaded (callee n (OnInterface words m)) (Some (OfClass (n.class x))) ≡ reached_as (code_of n)
        (offset_of n) r
    interface_on words x c e not_interface made r h is = by (is_subtype w x m.class) refl h
      where
        by : (t : Bool) → is_subtype w x m.class ≡ t
            → (if t then reached_placed place (selected_on p.files w (OnInterface words m) x) else Nowhere) ≡ r
            → Calls.reached n.loaded (callee n (OnInterface words m)) (Some (OfClass (n.class x)))
            ≡ reached_as (code_of n) (offset_of n) r
        by false sub g = absurd (subst IsFound (sym g) is)
        by true sub g = split c.is_imported refl
          where
            split : (t : Bool) → c.is_imported ≡ t → Calls.reached n.loaded (callee n (OnInterface words m))
                (Some (OfClass (n.class x))) ≡ reached_as (code_of n) (offset_of n) r
            split false own =
                let s = class_stands p facts x c e not_interface in
                reaching.interface_call_reaches p.files w n (method_offset p) place begins x s.foot
                (receiver_says p facts subtypes.climbs kinds x c e not_interface) (agrees x c e not_interface) m c e
                own (made own) (says_interface x c e not_interface sub) words r h is
            split true import =
                let f = facts.file x c e import in
                let itself = receiver_says p facts subtypes.climbs kinds x c e not_interface in
                reaching.outside_call_reaches p.files w n place x m (record {
                  c = c;
                  known = ap (class_named w) itself.itself ∙ e;
                  imported = import;
                  tree = f.file;
                  token = f.entry.token;
                  on_card = sym (ap (card_class p) (name_is w x c e)) ∙ f.on_card;
                  event = event_is;
                }) words r h is

    interface_array : (words : ℕ) (kind : Shape (List ℕ)) → IsArray (shape_name kind)
        → on_card kind ≡ card_classes.object_class n.loaded → (r : Reached Placed)
        → reached_at p.files w place (OnInterface words m) (Some kind) ≡ r → IsFound r
        → Calls.reached n.loaded (callee n (OnInterface words m)) (Some (shape_as n.class kind))
        ≡ reached_as (code_of n) (offset_of n) r
    interface_array words kind array card r h is =
        let c = facts.object_class in
        let here : (a : List ℕ) → receiver a ≡ object → interface_callee p.files w (select_in w) m.class a m
        (class_named w (receiver a)) ≡ Some (Rattle.cjc_jvm_semantics.specs.Linked.Abroad (of_class m.class m)) =
        λ a same_class. ap (λ b. interface_callee p.files w (select_in w) m.class a m (class_named w b)) same_class
        ∙ ap (interface_callee p.files w (select_in w) m.class a m) c.1
        ∙ ap (λ t. if t then Some (Rattle.cjc_jvm_semantics.specs.Linked.Abroad (of_class m.class m))
        else selected_from p.files w (select_in w) a m) c.2 in
        ap (λ o. Calls.reached_by n.loaded (Calls.selected n.loaded (callee n (OnInterface words m)) o)) (card
        ∙ kinds.object_class)
        ∙ interface_on words object c.0 c.1 c.3 (λ own. (let clash : false ≡ true = sym own ∙ c.2 in absurd (cc))) r
        (sym (ap (λ t. if t then reached_placed place (selected_on p.files w (OnInterface words m) (shape_name kind))
        else Nowhere) (array_subtype (shape_name kind) m.class array (kinds.no_array m.class (ap is_some known)))
        ∙ ap (λ q. if is_subtype w object m.class then reached_placed place q
        else Nowhere) (here (shape_name kind) array.received ∙ sym (here object refl))) ∙ h) is

    pub interface_reached : (words : ℕ) (o : Option (Shape (List ℕ))) → Receives w o → (r : Reached Placed)
        → reached_at p.files w place (OnInterface words m) o ≡ r → IsFound r
        → Calls.reached n.loaded (callee n (OnInterface words m)) (option_as (shape_as n.class) o)
        ≡ reached_as (code_of n) (offset_of n) r
    interface_reached words o none r h is = absurd (subst IsFound (sym h) is)
    interface_reached words o (one_of {x = x} c e not_interface made) r h is = interface_on words x c e not_interface
        made r h is
    interface_reached words o (numbers {element = element}) r h is = interface_array words (OfNumbers element)
        (numbers_array element) refl r h is
    interface_reached words o (references {x = x}) r h is = interface_array words (OfReferences x) (references_array x)
        refl r h is

  -- ---- static methods, constructors and private methods

  pub fixed_is : (on : Bool) (m : MemberId) (c : Class) (f : Found) → class_named w m.class ≡ Some c
      → is_interface c.flags ≡ false → is_initialiser m.name ≡ false → own_method false m.name m.desc c ≡ Some f
      → SaysFixed w n (method_offset p) on m
  fixed_is on m c f known class_here plain own g found =
      let o = own_is w false m.name m.desc c f own in
      let here : find_method w m.class m.name m.desc ≡ Some f = find_own c f known own in
      let both : Some f ≡ Some g = sym here ∙ found in
      let same_found : f ≡ g = cc in
      subst (λ q. (n.fixed on m ≡ (if q.imported then Rattle.cjc_card_semantics.specs.Machine.Operations.Outer on m
      else Rattle.cjc_card_semantics.specs.Machine.Operations.Fixed on 0 (method_offset p q))) × StandsInMethod w q)
      same_found
      (by c.is_imported refl o here, λ q. by_own o q)
    where
      find_own : (c : Class) (f : Found) → class_named w m.class ≡ Some c → own_method false m.name m.desc c ≡ Some f
          → find_method w m.class m.name m.desc ≡ Some f
      find_own c f known own = find_first w m.class m.name m.desc f (ap (first (own_method false m.name m.desc))
          (line_is p facts m.class c known) ∙ first_step (own_method false m.name m.desc) c
          (upwards (supertypes w c.supers))
          ∙ ap (λ q. or_else q (first (own_method false m.name m.desc) (upwards (supertypes w c.supers)))) own)

      by : (t : Bool) → c.is_imported ≡ t → Own w false m.name m.desc c f → find_method w m.class m.name m.desc ≡ Some f
          → n.fixed on m ≡ (if f.imported then Rattle.cjc_card_semantics.specs.Machine.Operations.Outer on m
          else Rattle.cjc_card_semantics.specs.Machine.Operations.Fixed on 0 (method_offset p f))
      by true is o here =
          let h = facts.file m.class c known is in
          let import : f.imported ≡ true = ap (λ (q : Found). q.imported) o.is ∙ is in
          ap (λ k. fixed_as on m (member_ref k (offset_where p (find_method w m.class m.name m.desc))
          (member_token p (find_method w m.class m.name m.desc))))
          (sym (ap (card_class p) (name_is w m.class c known)) ∙ h.on_card)
          ∙ sym (ap (λ t. if t then Rattle.cjc_card_semantics.specs.Machine.Operations.Outer on m
          else Rattle.cjc_card_semantics.specs.Machine.Operations.Fixed on 0 (method_offset p f)) import)
      by false is o here =
          let h = facts.own m.class c known is in
          let not_import : f.imported ≡ false = ap (λ (q : Found). q.imported) o.is ∙ is in
          ap (λ k. fixed_as on m (member_ref k (offset_where p (find_method w m.class m.name m.desc))
          (member_token p (find_method w m.class m.name m.desc))))
          (sym (ap (card_class p) (name_is w m.class c known)) ∙ h.on_card)
          ∙ ap (λ q. Rattle.cjc_card_semantics.specs.Machine.Operations.Fixed on 0 (offset_where p q)) here
          ∙ sym (ap (λ t. if t then Rattle.cjc_card_semantics.specs.Machine.Operations.Outer on m
          else Rattle.cjc_card_semantics.specs.Machine.Operations.Fixed on 0 (method_offset p f)) not_import)

      by_own : Own w false m.name m.desc c f → StandsInMethod w f
      by_own o not_import =
          let own_class : c.is_imported ≡ false = sym (ap (λ (q : Found). q.imported) o.is) ∙ not_import in
          let h = facts.own m.class c known own_class in
          ap (is_in_method w) o.is ∙ stands_in_method w h.number c h.ordered class_here own_class o.place o.method
          o.there (ap is_initialiser o.name_is ∙ plain)

  pub fixed_reached : (on : Bool) (m : MemberId) (c : Class) (f : Found) → class_named w m.class ≡ Some c
      → is_interface c.flags ≡ false → is_initialiser m.name ≡ false → own_method false m.name m.desc c ≡ Some f
      → (o : Option (Shape (List ℕ))) (r : Reached Placed) → reached_at p.files w place (Fixed on m) o ≡ r → IsFound r
      → Calls.reached n.loaded (callee n (Fixed on m)) (option_as (shape_as n.class) o) ≡ reached_as (code_of n)
      (offset_of n) r
  fixed_reached on m c f known class_here plain own o r h is = reaching.fixed_calls_reach p.files w n (method_offset p)
      place begins on m (fixed_is on m c f known class_here plain own) o r h is

  -- ---- methods of the superclass

  module _ (m : MemberId) (c d : Class) (super : List ℕ) (known : class_named w m.class ≡ Some c) (own : c.is_imported
      ≡ false) (class_here : is_interface c.flags ≡ false) (supers : c.supers ≡ super ∷ []) (super_is : class_named w
      super ≡ Some d) (plain : is_initialiser m.name ≡ false)
      (sought : Rattle.cjc_token_proof.specs.WrittenCalls.Calls.IsSought w (of_class super m)) (hidden_alike :
      finds_hidden (line_of w m.class) (signature m) ≡ finds_hidden (line_of w super) (signature m)) where
    pub super_class : is_interface d.flags ≡ false
    super_class =
        let up = facts.super_there m.class super c known own supers in
        let both : Some up.0 ≡ Some d = sym up.1 ∙ super_is in
        let same_class : up.0 ≡ d = cc in sym (ap (λ (q : Class). is_interface q.flags) same_class) ∙ up.2

    under : Under w m.class super
    under = below c known (subst (λ ss. Lists super ss) (sym supers) foremost) itself

    token_same : n.dispatch_token m ≡ n.dispatch_token (of_class super m)
    token_same = by sought
      where
        once : Rattle.cjc_vtable.specs.Laws.TokensOnce w m.class super
        once = facts.tokens_once m.class super c d known class_here super_is under

        open_same : (t : ℕ) → token (slots (line_of w super)) (signature m) ≡ Some t
            → finds_hidden (line_of w super) (signature m) ≡ false
            → n.dispatch_token m ≡ n.dispatch_token (of_class super m)
        open_same t is no_hidden =
            dispatched_shown p facts tokens m c known class_here (hidden_alike ∙ no_hidden) t
            (once.inherited (signature m) t
            is)
            ∙ sym (dispatched_shown p facts tokens (of_class super m) d super_is super_class no_hidden t is)

        by : Rattle.cjc_token_proof.specs.WrittenCalls.Calls.IsSought w (of_class super m)
            → n.dispatch_token m ≡ n.dispatch_token (of_class super m)
        by (shown finds no_hidden) =
            let calls = facts.virtual_calls super super d d super_is super_class super_is itself in
            let r = calls.open_method (signature m) finds in
            open_same r.0 r.1 no_hidden
        by (hidden finds) =
            let calls = facts.virtual_calls super super d d super_is super_class super_is itself in
            let r = calls.package_method (signature m) finds in
            let at_super = hidden_own super d (signature m) super_is finds in
            let at_class = facts.own m.class c known own in
            dispatched_hidden p facts tokens m at_class.offset (sym (ap (card_class p) (name_is w m.class c known))
            ∙ at_class.on_card) (hidden_alike ∙ finds) r.0 (once.hidden_inherited (signature m) r.0 r.1)
            ∙ sym (dispatched_hidden p facts tokens (of_class super m) at_super.0 at_super.1 finds r.0 r.1)
        by (got t is no_hidden selects) = open_same t is no_hidden

    pub super_says : SaysSuper w n m super (let s = class_stands p facts super d super_is super_class in s.foot)
    super_says =
        let s = class_stands p facts super d super_is super_class in
        let itself_there : receiver super ≡ super = receiver_class super (kinds.no_array super (ap is_some super_is)) in
        record {
          known = (d, super_is);
          first_one = ap first_super known ∙ ap (λ ss. slice_get ss 0) supers;
          tables = card_towers.superclass_above w n (method_offset p) m.class super s.foot c (tables p facts m.class
              super c known own class_here supers) s.tower (super_fits p facts m.class super c d known own class_here
              supers super_is s);
          same_token = token_same;
          token = token_says p facts tokens (of_class super m) d super_is super_class (hidden_own super d (signature m)
              super_is) super d super_is super_class (inl refl) sought;
          imported = ap (λ y. first_imported (line w y)) itself_there ∙ s.imported;
          itself = itself_there;
          found = λ f h. line_found p facts true m.name m.desc super f h;
          written = λ f h. found_stands p facts true m.name m.desc plain super d super_is super_class f h;
        }

    pub super_reached : (o : Option (Shape (List ℕ))) (r : Reached Placed) → reached_at p.files w place (OnSuper m) o
        ≡ r → IsFound r → Calls.reached n.loaded (callee n (OnSuper m)) (option_as (shape_as n.class) o)
        ≡ reached_as (code_of n) (offset_of n) r
    super_reached o r h is =
        let s = class_stands p facts super d super_is super_class in
        reaching.super_calls_reach p.files w n (method_offset p) place begins m super s.foot super_says
        (agrees super d super_is super_class) o r h is

  -- ---- all calls

  pub calls_reach : (m : Callee) → IsNamed w m → (o : Option (Shape (List ℕ))) → Receives w o → (r : Reached Placed)
      → reached_at p.files w place m o ≡ r → IsFound r
      → Calls.reached n.loaded (callee n m) (option_as (shape_as n.class) o) ≡ reached_as (code_of n) (offset_of n) r
  calls_reach m (fixed {on = on} {m = id} c f known class_here plain own) o receives r h is =
      fixed_reached on id c f known class_here plain own o r h is
  calls_reach m (on_object {m = id} d known class_here plain sought) o receives r h is =
      virtual_reached id d known class_here plain sought o receives r h is
  calls_reach m (on_super {m = id} c d super known own class_here supers super_is plain sought alike) o receives r h
      is = super_reached id c d super known own class_here supers super_is plain sought alike o r h is
  calls_reach m (on_interface {words = words} {m = id} i k known interface_here plain placed) o receives r h is =
      interface_reached id i k known interface_here plain placed words o receives r h is
