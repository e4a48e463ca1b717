-- A static method that a script calls begins by token as it does by name.
use Rattle.std.proofs.Common.{◌≡◌, ℕ, zero, suc, ◌+◌, ◌-◌, refl, sym, ap, subst, ◌∙◌, arith, Bool, true, false, List}
use Rattle.std.proofs.Common.{[], ◌∷◌, ◌++◌, length}
use Rattle.std.specs.Prelude.{Option, Some, None, slice_get, map, option_map, option_and_then, unwrap_or, position}
use Rattle.std.specs.Prelude.{◌&&◌, ◌||◌, if◌then◌else◌, codes}
use Rattle.std.specs.Str.{bytes_eq}
use Rattle.cjc_bytes.specs.AccessFlags.{is_interface, is_private, is_static}
use Rattle.cjc_bytes.specs.declared.fault.MemberId.{MemberId}
use Rattle.cjc_bytes.proofs.Numbers.{like_number, number_same}
use Rattle.cjc_bytes.proofs.Gets.{in_front}
use Rattle.cjc_card_semantics.specs.Bytecode.Alike.{start_as}
use Rattle.cjc_card_semantics.specs.Bytecode.Machine.{Start}
use Rattle.cjc_card_semantics.specs.Bytecode.Renaming.{option_as}
use Rattle.cjc_jvm_semantics.specs.Linked.{Method}
use Rattle.cjc_jvm_semantics.specs.OnePackage.{ResolvedMember, entry_in, entry_named, is_initialiser, method_at}
use Rattle.cjc_jvm_semantics.specs.OnePackage.{method_hit, method_in as method_in_file}
use Rattle.cjc_token_proof.proofs.ByToken.Members.{bytes_tell}
use Rattle.cjc_token_proof.specs.Calls.Reaching.{BeginsAtOffsets, is_in_method, start_placed}
use Rattle.cjc_card_semantics.specs.CapRead.declared.tree.ClassDescriptor.{ClassDescriptor}
use Rattle.cjc_card_semantics.specs.CapRead.declared.tree.MethodDescriptor.{MethodDescriptor}
use Rattle.cjc_card_semantics.specs.CapRead.ClassRefs.{is_inside}
use Rattle.cjc_card_semantics.specs.Machine.Calls.{called, class_among, declared, has_no_token}
use Rattle.cjc_card_semantics.specs.Machine.Calls.{is_named, named_among, named_in_part, static_start}
use Rattle.cjc_card_semantics.specs.Machine.Classes.{number_of}
use Rattle.cjc_card_semantics.specs.Machine.Classes as card
use Rattle.cjc_card_semantics.specs.Machine.Loaded.{MethodName}
use Rattle.cjc_card_semantics.specs.Machine.Methods.{Code, start_of}
use Rattle.cjc_components.specs.Descriptor.{as_added, class_descriptor, no_member, method_descriptor, method_flags}
use Rattle.cjc_components.specs.Descriptor.{method_in, methods_with_added}
use Rattle.cjc_components.specs.Methods.{method_offset, placed_methods}
use Rattle.cjc_components.specs.Names.{class_at, class_ref}
use Rattle.cjc_components.specs.Package.{Package, world}
use Rattle.cjc_ncode.specs.Lowering.Agreement.{IsAmong}
use Rattle.cjc_ncode.specs.Lowering.Placed.{Placed, code_of, offset_of}
use Rattle.cjc_components.specs.Paired.Naming.{method_name, method_names}
use Rattle.cjc_token_proof.specs.Tables.Infos.{HasInfo}
use Rattle.cjc_token_proof.specs.Tables.Loading.{loaded, naming, part}
use Rattle.cjc_tokens.proofs.Facts.{position-cons}
use Rattle.cjc_tokens.specs.Members.{is_constructor}
use Rattle.cjc_world.specs.declared.found.Found.{Found}
use Rattle.cjc_world.specs.Files.{Files}
use Rattle.cjc_world.specs.Added.{added}
use Rattle.cjc_world.specs.Classes.{Class, Member, class_named}
use Rattle.cjc_world.specs.Lookup.{is_called, member_at, own_method}
use Rattle.cjc_world.specs.Order.{class_order, in_order, places, written}
use Rattle.cjc_token_proof.specs.ByToken.Names.{NamesAgree}
use Rattle.cjc_token_proof.specs.WrittenCalls.Calls.{NoStaticMethods}
use Rattle.cjc_token_proof.proofs.WrittenCalls.Facts.{Facts}
use Rattle.cjc_token_proof.proofs.WrittenCalls.Flags.{no_token, static_same, token_same}
use Rattle.cjc_token_proof.proofs.WrittenCalls.Found.{Own as OwnMethod, own_is, stands_in_method}
use Rattle.cjc_token_proof.proofs.WrittenCalls.Orders.{order_own}
use Rattle.cjc_world_proof.proofs.CallsLaws.Scripts.{alone}

own_same : (c : Class) (id : MemberId) → option_map (λ j. member_at c (length c.fields + j))
    (position (λ (m : Member). is_called id.name id.desc m) c.methods) ≡ own_method false id.name id.desc c
unfolding own_method
own_same c id = refl

-- what a look-up found in a class
hit_is : (c : Class) (i : ℕ) (m : Member) → slice_get c.methods i ≡ Some m
    → method_hit (c ∷ []) (member_at c (length c.fields + i)) ≡ Some (record { owner = c; flags = m.flags })
hit_is c i m e =
    let left : length c.fields + i - length c.fields ≡ i = omega arith in
    ap (option_and_then (λ (d : Class). option_map (λ (q : Member). record { owner = d; flags = q.flags })
    (slice_get d.methods (length c.fields + i - length d.fields)))) (alone c)
    ∙ ap (λ j. option_map (λ (q : Member). record { owner = c; flags = q.flags }) (slice_get c.methods j)) left
    ∙ ap (option_map (λ (q : Member). record { owner = c; flags = q.flags })) e

-- an imported class has no method that a script calls
entry_none : (files : Files) (id : MemberId) (c : Class) → c.is_imported ≡ true → entry_in files id c ≡ None
entry_none files id c import = by (own_method false id.name id.desc c) refl
  where
    hidden : (f : Found) → f.imported ≡ true → (h : Option ResolvedMember)
        → option_and_then (λ (hit : ResolvedMember). if is_static hit.flags then method_at files f else None) h ≡ None
    hidden f is None = refl
    hidden f is (Some hit) = split (is_static hit.flags)
      where
        split : (t : Bool) → (if t then method_at files f else None) ≡ None
        split true = ap (λ t. if t then None else option_and_then (method_in_file f.member) (slice_get files.classes
            f.class)) is
        split false = refl

    by : (o : Option Found) → own_method false id.name id.desc c ≡ o
        → option_and_then (λ f. option_and_then (λ (hit : ResolvedMember). if is_static hit.flags then method_at files f
        else None) (method_hit (c ∷ []) f)) o ≡ None
    by None is = refl
    by (Some f) is = let o = own_is (c ∷ []) false id.name id.desc c f is
        in hidden f (ap (λ (g : Found). g.imported) o.is ∙ import) (method_hit (c ∷ []) f)

-- ---- the class of an offset

module _ (p : Package) (facts : Facts p) where
  abbrev w : List Class
  w = world p

  -- the descriptor of a class by its offset
  class_found : (offset : ℕ) (c : Class) (cs : List Class) (k : ℕ) → slice_get cs k ≡ Some c
      → is_inside (class_ref p c.name) offset ≡ true → ((j : ℕ) (d : Class) → slice_get cs j ≡ Some d
      → is_inside (class_ref p d.name) offset ≡ true → d ≡ c)
      → class_among (map (class_descriptor p) cs) offset ≡ Some (class_descriptor p c)
  class_found offset c [] k e is one = absurd (cc)
  class_found offset c (d ∷ cs) k e is one = by (is_inside (class_ref p d.name) offset) refl k e
      (λ j h. class_found offset c cs j h is (λ i b g. one (suc i) b g))
    where
      by : (t : Bool) → is_inside (class_ref p d.name) offset ≡ t → (k : ℕ) → slice_get (d ∷ cs) k ≡ Some c
          → ((j : ℕ) → slice_get cs j ≡ Some c → class_among (map (class_descriptor p) cs) offset
          ≡ Some (class_descriptor p c))
          → (if t then Some (class_descriptor p d) else class_among (map (class_descriptor p) cs) offset)
          ≡ Some (class_descriptor p c)
      by true inside k h rest = ap (λ q. Some (class_descriptor p q)) (one 0 d refl inside)
      by false inside zero h rest =
          let same : d ≡ c = cc in
          let clash : false ≡ true = sym inside ∙ ap (λ (q : Class). is_inside (class_ref p q.name) offset) same ∙ is
          in absurd (cc)
      by false inside (suc j) h rest = rest j h

  -- ---- the method of a name

  abbrev md : Class → Found → MethodDescriptor
  md c f = method_descriptor p c f

  abbrev name_at : Class → Found → MethodName
  name_at c f = method_name (method_in w c f.member)

  -- the first of these of a name
  first_named : Class → MemberId → List Found → Option Found
  first_named c id [] = None
  first_named c id (f ∷ fs) = if is_named (name_at c f) id then Some f else first_named c id fs

  named_first : (c : Class) (id : MemberId) (fs gs : List Found)
      → named_among (map (name_at c) fs) (map (md c) (fs ++ gs)) id ≡ option_map (md c) (first_named c id fs)
  unfolding first_named
  named_first c id [] gs = refl
  named_first c id (f ∷ fs) gs = by (is_named (name_at c f) id) (named_first c id fs gs)
    where
      by : (t : Bool) → named_among (map (name_at c) fs) (map (md c) (fs ++ gs)) id
          ≡ option_map (md c) (first_named c id fs)
          → (if t then Some (md c f) else named_among (map (name_at c) fs) (map (md c) (fs ++ gs)) id)
          ≡ option_map (md c) (if t then Some f else first_named c id fs)
      by true e = refl
      by false e = e

  -- among a class's own methods it is the one that a look-up finds
  written_first : (c : Class) (id : MemberId) → is_initialiser id.name ≡ false → (at : ℕ) (ms : List Member)
      → ((j : ℕ) (m : Member) → slice_get ms j ≡ Some m → method_in w c (at + j) ≡ m)
      → first_named c id (written c at ms) ≡ option_map (λ j. member_at c (at + j))
      (position (λ (m : Member). is_called id.name id.desc m) ms)
  unfolding first_named
  written_first c id plain at [] base = refl
  written_first c id plain at (m ∷ ms) base =
      by (bytes_eq m.name (codes "<clinit>")) refl (written_first c id plain (at + 1) ms (λ j o e. let z : at + 1 + j
      ≡ at + suc j = omega arith in ap (method_in w c) z ∙ base (suc j) o e))
      ∙ sym (ap (option_map (λ j. member_at c (at + j))) (position-cons (λ (q : Member). is_called id.name id.desc q) m
      ms))
    where
      shifted : (o : Option ℕ) → option_map (λ j. member_at c (at + 1 + j)) o ≡ option_map (λ j. member_at c (at + j))
          (option_map suc o)
      shifted None = refl
      shifted (Some j) = let z : at + 1 + j ≡ at + suc j = omega arith in ap (λ i. Some (member_at c i)) z

      called_here : (t : Bool) → is_called id.name id.desc m ≡ t
          → (if t then Some (member_at c at) else option_map (λ j. member_at c (at + 1 + j))
          (position (λ (q : Member). is_called id.name id.desc q) ms))
          ≡ option_map (λ j. member_at c (at + j)) (if t then Some 0
          else option_map suc (position (λ (q : Member). is_called id.name id.desc q) ms))
      called_here true is = let z : at ≡ at + 0 = omega arith in ap (λ i. Some (member_at c i)) z
      called_here false is = shifted (position (λ (q : Member). is_called id.name id.desc q) ms)

      not_called : bytes_eq m.name (codes "<clinit>") ≡ true → is_called id.name id.desc m ≡ false
      not_called init = split (bytes_eq m.name id.name) refl
        where
          split : (t : Bool) → bytes_eq m.name id.name ≡ t → (t && bytes_eq m.desc id.desc) ≡ false
          split false is = refl
          split true is =
              let clash : true ≡ false = sym init ∙ ap (λ x. bytes_eq x (codes "<clinit>")) (bytes_tell m.name id.name
              is) ∙ plain in absurd (cc)

      by : (t : Bool) → bytes_eq m.name (codes "<clinit>") ≡ t
          → first_named c id (written c (at + 1) ms) ≡ option_map (λ j. member_at c (at + 1 + j))
          (position (λ (q : Member). is_called id.name id.desc q) ms)
          → first_named c id (if t then written c (at + 1) ms else member_at c at ∷ written c (at + 1) ms)
          ≡ option_map (λ j. member_at c (at + j)) (if is_called id.name id.desc m then Some 0
          else option_map suc (position (λ (q : Member). is_called id.name id.desc q) ms))
      by true init e =
          e ∙ shifted (position (λ (q : Member). is_called id.name id.desc q) ms)
          ∙ sym (ap (λ t. option_map (λ j. member_at c (at + j)) (if t then Some 0
          else option_map suc (position (λ (q : Member). is_called id.name id.desc q) ms))) (not_called init))
      by false init e =
          let z : at ≡ at + 0 = omega arith in
          let here : method_in w c at ≡ m = ap (method_in w c) z ∙ base 0 m refl in
          ap (λ (q : Member). if is_called id.name id.desc q then Some (member_at c at)
          else first_named c id (written c (at + 1) ms)) here
          ∙ ap (λ o. if is_called id.name id.desc m then Some (member_at c at) else o) e
          ∙ called_here (is_called id.name id.desc m) refl

  -- what a method of a descriptor starts
  abbrev starts : Class → Option Found → Option (Start Code)
  starts c o = option_and_then (static_start (loaded p)) (option_map (λ m. record { part = 0; method = m })
      (option_map (md c) o))

  own_in : (c : Class) (j : ℕ) (m : Member) → slice_get c.methods j ≡ Some m → method_in w c (length c.fields + j) ≡ m
  own_in c j m e =
      let z : length c.fields + j - length c.fields ≡ j = omega arith in
      ap (λ i. unwrap_or (slice_get (methods_with_added w c) i) no_member) z
      ∙ ap (λ o. unwrap_or o no_member) (in_front c.methods (map as_added (added w c)) j m e)

  -- an initialiser is among none of them
  initialiser_none : (c : Class) (id : MemberId) → is_initialiser id.name ≡ true → (at : ℕ) (ms : List Member)
      → ((j : ℕ) (m : Member) → slice_get ms j ≡ Some m → method_in w c (at + j) ≡ m)
      → first_named c id (written c at ms) ≡ None
  unfolding first_named
  initialiser_none c id init at [] base = refl
  initialiser_none c id init at (m ∷ ms) base = by (bytes_eq m.name (codes "<clinit>")) refl (initialiser_none c id init
      (at + 1) ms (λ j o e. let z : at + 1 + j ≡ at + suc j = omega arith in ap (method_in w c) z ∙ base (suc j) o e))
    where
      other : bytes_eq m.name (codes "<clinit>") ≡ false → (bytes_eq m.name id.name && bytes_eq m.desc id.desc) ≡ false
      other plain = split (bytes_eq m.name id.name) refl
        where
          split : (t : Bool) → bytes_eq m.name id.name ≡ t → (t && bytes_eq m.desc id.desc) ≡ false
          split false is = refl
          split true is = let clash : false ≡ true = sym plain ∙ ap (λ x. bytes_eq x (codes "<clinit>"))
              (bytes_tell m.name id.name is) ∙ init in absurd (cc)

      by : (t : Bool) → bytes_eq m.name (codes "<clinit>") ≡ t → first_named c id (written c (at + 1) ms) ≡ None
          → first_named c id (if t then written c (at + 1) ms else member_at c at ∷ written c (at + 1) ms) ≡ None
      by true is e = e
      by false is e =
          let z : at ≡ at + 0 = omega arith in
          let here : method_in w c at ≡ m = ap (method_in w c) z ∙ base 0 m refl in
          ap (λ (q : Member). if bytes_eq q.name id.name && bytes_eq q.desc id.desc then Some (member_at c at)
          else first_named c id (written c (at + 1) ms)) here
          ∙ ap (λ s. if s then Some (member_at c at) else first_named c id (written c (at + 1) ms)) (other is)
          ∙ e

  -- ---- classes of the order

  class_ordered : (j : ℕ) (d : Class) → slice_get (class_order w) j ≡ Some d → (class_named w d.name ≡ Some d)
      × (d.is_imported ≡ false)
  unfolding class_order
  class_ordered j d e = by (in_order w true) (λ i b h. (facts.ordered true i b h, (order_own w true i b h).0)) j e
    where
      by : (xs : List Class) → ((i : ℕ) (b : Class) → slice_get xs i ≡ Some b → (class_named w b.name ≡ Some b)
          × (b.is_imported ≡ false)) → (j : ℕ) → slice_get (xs ++ in_order w false) j ≡ Some d
          → (class_named w d.name ≡ Some d) × (d.is_imported ≡ false)
      by [] all j h = (facts.ordered false j d h, (order_own w false j d h).0)
      by (x ∷ xs) all zero h = all 0 d h
      by (x ∷ xs) all (suc j) h = by xs (λ i b g. all (suc i) b g) j h

  -- ---- what Descriptor says of a class and its methods

  module _ (x : List ℕ) (c : Class) (known : class_named w x ≡ Some c) (own : c.is_imported ≡ false) where
    info : HasInfo p c
    info = facts.own x c known own

    one_class : (j : ℕ) (d : Class) → slice_get (class_order w) j ≡ Some d → is_inside (class_ref p d.name) info.offset
        ≡ true → d ≡ c
    one_class j d e inside =
        let r = class_ordered j d e in
        let i = facts.own d.name d r.0 r.1 in
        let same : i.offset ≡ info.offset =
        number_same i.offset info.offset (sym (ap (λ ref. is_inside ref info.offset) i.ref) ∙ inside) in
        let numbers : Some i.number ≡ Some info.number = sym i.numbered ∙ ap (number_of (part p)) same ∙ info.numbered
        in
        let number : i.number ≡ info.number = cc in
        let both : Some d ≡ Some c = sym i.ordered ∙ ap (slice_get (class_order w)) number ∙ info.ordered in
        cc

    descriptor_there : class_among (map (class_descriptor p) (class_order w)) info.offset ≡ Some (class_descriptor p c)
    descriptor_there = class_found info.offset c (class_order w) info.number info.ordered
        (ap (λ ref. is_inside ref info.offset) info.ref ∙ like_number info.offset) one_class

    -- what the class declares under a name, if it is not the initialiser's
    pub declared_is : (id : MemberId) → declared (loaded p) (class_at p c.name) id ≡ option_map (λ m. record {
      part = 0;
      method = m;
    }) (option_map (md c) (if is_initialiser id.name then None else own_method false id.name id.desc c))
    declared_is id =
        ap (λ k. declared (loaded p) k id) info.on_card
        ∙ ap (λ o. option_and_then (λ ns. named_in_part 0 info.offset id ns (part p)) o) info.names
        ∙ ap (λ o. option_and_then (λ (d : ClassDescriptor). option_map (λ m. record { part = 0; method = m })
        (named_among (method_names w c) d.methods id)) o) descriptor_there
        ∙ ap (λ o. option_map (λ m. record { part = 0; method = m }) o) (named_first c id (written c (length c.fields)
        c.methods) (places c (length c.fields + length c.methods) (length (added w c))))
        ∙ ap (λ o. option_map (λ m. record { part = 0; method = m }) (option_map (md c) o)) (by (is_initialiser id.name)
        refl)
      where
        by : (t : Bool) → is_initialiser id.name ≡ t → first_named c id (written c (length c.fields) c.methods)
            ≡ (if t then None else own_method false id.name id.desc c)
        by true init = initialiser_none c id init (length c.fields) c.methods (λ j m e. own_in c j m e)
        by false plain = written_first c id plain (length c.fields) c.methods (λ j m e. own_in c j m e) ∙ own_same c id

    -- a method that the class declares
    pub declared_own : (id : MemberId) → is_initialiser id.name ≡ false → (f : Found)
        → own_method false id.name id.desc c ≡ Some f → declared (loaded p) (class_at p c.name) id
        ≡ Some (record { part = 0; method = method_descriptor p c f })
    declared_own id plain f found =
        declared_is id
        ∙ ap (λ t. option_map (λ m. record { part = 0; method = m }) (option_map (md c) (if t then None
        else own_method false id.name id.desc c))) plain
        ∙ ap (λ o. option_map (λ m. record { part = 0; method = m }) (option_map (md c) o)) found

    pub token_there : (i : ℕ) (m : Member) → slice_get c.methods i ≡ Some m
        → has_no_token (method_descriptor p c (member_at c (length c.fields + i))) ≡ (is_static m.flags
        || (is_private m.flags || is_constructor m.name))
    unfolding no_token
    token_there i m e = ap (λ (q : Member). no_token (method_flags q)) (own_in c i m e) ∙ token_same m

  module _ (names : NamesAgree w (naming p)) (place : Method → Placed) (begins : BeginsAtOffsets p.files w (naming p)
      (method_offset p) place) (interfaces : NoStaticMethods w) where
    abbrev begun : Option Method → Option (Start Code)
    begun o = option_as (start_as (code_of (naming p)) (offset_of (naming p))) (option_map (start_placed place) o)

    module _ (id : MemberId) (c : Class) (known : class_named w id.class ≡ Some c) (own : c.is_imported ≡ false) where
      on_card : card.class_named (loaded p) id.class ≡ Some (class_at p c.name)
      on_card = names.class_named id.class ∙ ap (λ o. option_as (class_at p) (option_map (λ (q : Class). q.name) o))
          known

      by_token : called (loaded p) id ≡ starts c (if is_initialiser id.name then None
          else own_method false id.name id.desc c)
      by_token =
          ap (option_and_then (λ k. option_and_then (static_start (loaded p)) (declared (loaded p) k id))) on_card
          ∙ ap (option_and_then (static_start (loaded p))) (declared_is id.class c known own id)

      -- a method that is declared
      declared_same : is_initialiser id.name ≡ false → (f : Found) → OwnMethod w false id.name id.desc c f
          → starts c (Some f) ≡ begun (option_and_then (λ (hit : ResolvedMember). if is_static hit.flags
          then method_at p.files f else None) (method_hit (c ∷ []) f))
      declared_same plain f o =
          subst (λ q. starts c (Some q) ≡ begun (option_and_then (λ (hit : ResolvedMember). if is_static hit.flags
          then method_at p.files q else None) (method_hit (c ∷ []) q))) (sym o.is) (same_here (is_static o.method.flags)
          refl)
        where
          g : Found
          g = member_at c (length c.fields + o.place)

          flags_same : is_static (method_flags (method_in w c (length c.fields + o.place))) ≡ is_static o.method.flags
          flags_same = ap (λ (m : Member). is_static (method_flags m)) (own_in c o.place o.method o.there)
              ∙ static_same o.method

          class_here : is_static o.method.flags ≡ true → is_interface c.flags ≡ false
          class_here static = split (is_interface c.flags) refl
            where
              split : (t : Bool) → is_interface c.flags ≡ t → is_interface c.flags ≡ false
              split false is = is
              split true is = let clash : true ≡ false = sym (interfaces id.class c known own is o.place o.method
                  o.there static) ∙ ap is_initialiser o.name_is ∙ plain in absurd (cc)

          same_here : (s : Bool) → is_static o.method.flags ≡ s
              → starts c (Some (member_at c (length c.fields + o.place)))
              ≡ begun (option_and_then (λ (hit : ResolvedMember). if is_static hit.flags
              then method_at p.files (member_at c (length c.fields + o.place))
              else None) (method_hit (c ∷ []) (member_at c (length c.fields + o.place))))
          same_here false is =
              ap (λ t. if t then start_of (loaded p) 0 (method_offset p (member_at c (length c.fields + o.place)))
              else None) (flags_same ∙ is)
              ∙ sym (ap (λ h. begun (option_and_then (λ (hit : ResolvedMember). if is_static hit.flags
              then method_at p.files (member_at c (length c.fields + o.place)) else None) h))
              (hit_is c o.place o.method o.there)
              ∙ ap (λ t. begun (if t then method_at p.files (member_at c (length c.fields + o.place)) else None)) is)
          same_here true is =
              let k = facts.filed id.class c known own o.place o.method o.there in
              let i = facts.own id.class c known own in
              let inside = stands_in_method w i.number c i.ordered (class_here is) own o.place o.method o.there
              (ap is_initialiser o.name_is ∙ plain) in
              ap (λ t. if t then start_of (loaded p) 0 (method_offset p (member_at c (length c.fields + o.place)))
              else None) (flags_same ∙ is)
              ∙ begins (member_at c (length c.fields + o.place)) k.0 inside k.1
              ∙ sym (ap (λ h. begun (option_and_then (λ (hit : ResolvedMember). if is_static hit.flags
              then method_at p.files (member_at c (length c.fields + o.place)) else None) h))
              (hit_is c o.place o.method o.there)
              ∙ ap (λ t. begun (if t then method_at p.files (member_at c (length c.fields + o.place)) else None)) is
              ∙ ap begun k.1)

      called_own : called (loaded p) id ≡ begun (if is_initialiser id.name then None else entry_in p.files id c)
      called_own = by_token ∙ by (is_initialiser id.name) refl
        where
          found : is_initialiser id.name ≡ false → (o : Option Found) → own_method false id.name id.desc c ≡ o
              → starts c o ≡ begun (option_and_then (λ f. option_and_then (λ (hit : ResolvedMember). if is_static
              hit.flags then method_at p.files f else None) (method_hit (c ∷ []) f)) o)
          found plain None is = refl
          found plain (Some f) is = declared_same plain f (own_is w false id.name id.desc c f is)

          by : (t : Bool) → is_initialiser id.name ≡ t
              → starts c (if t then None else own_method false id.name id.desc c) ≡ begun (if t then None
              else entry_in p.files id c)
          by true init = refl
          by false plain = found plain (own_method false id.name id.desc c) refl

    -- Each method that a script calls begins as by name.
    pub called_same : (id : MemberId) → called (loaded p) id ≡ begun (entry_named p.files w id)
    called_same id = by (class_named w id.class) refl
      where
        none_named : (o : Option Method) → begun (if is_initialiser id.name then None else o)
            ≡ begun (if is_initialiser id.name then None else o)
        none_named o = refl

        nothing : (t : Bool) → None ≡ begun (if t then None else None)
        nothing true = refl
        nothing false = refl

        by : (o : Option Class) → class_named w id.class ≡ o → called (loaded p) id ≡ begun (if is_initialiser id.name
            then None else option_and_then (entry_in p.files id) (class_named w id.class))
        by None is =
            ap (option_and_then (λ k. option_and_then (static_start (loaded p)) (declared (loaded p) k id)))
            (names.class_named id.class ∙ ap (λ q. option_as (class_at p) (option_map (λ (c : Class). c.name) q))
            is)
            ∙ nothing (is_initialiser id.name)
            ∙ sym (ap (λ q. begun (if is_initialiser id.name then None else option_and_then (entry_in p.files id) q))
            is)
        by (Some c) is = kind c.is_imported refl
          where
            kind : (t : Bool) → c.is_imported ≡ t → called (loaded p) id ≡ begun (if is_initialiser id.name then None
                else option_and_then (entry_in p.files id) (class_named w id.class))
            kind false own = called_own id c is own
                ∙ sym (ap (λ q. begun (if is_initialiser id.name then None else option_and_then (entry_in p.files id)
                q)) is)
            kind true import =
                let f = facts.file id.class c is import in
                let card_class = names.class_named id.class
                ∙ ap (λ q. option_as (class_at p) (option_map (λ (b : Class). b.name) q)) is ∙ ap Some f.on_card in
                ap (option_and_then (λ k. option_and_then (static_start (loaded p)) (declared (loaded p) k id)))
                card_class
                ∙ nothing (is_initialiser id.name)
                ∙ sym (ap (λ q. begun (if is_initialiser id.name then None else option_and_then (entry_in p.files id)
                q)) is ∙ ap (λ q. begun (if is_initialiser id.name then None else q)) (entry_none p.files id c
                import))

  -- What a script calls is one of the methods of Method.
  module _ (place : Method → Placed) (interfaces : NoStaticMethods w) (places_there : (f : Found) (m : Method)
      → is_in_method w f ≡ true → method_at p.files f ≡ Some m → IsAmong (placed_methods p) (place m)) where
    started : (k : Method) (start : Start Placed) → Some (start_placed place k) ≡ Some start
        → IsAmong (placed_methods p) (place k) → IsAmong (placed_methods p) start.code
    started k start e there = let same : start_placed place k ≡ start = cc
        in subst (λ (s : Start Placed). IsAmong (placed_methods p) s.code) same there

    found_there : (id : MemberId) (c : Class) → class_named w id.class ≡ Some c → is_initialiser id.name ≡ false
        → (start : Start Placed) (o : Option Found) → own_method false id.name id.desc c ≡ o
        → option_map (start_placed place) (option_and_then (λ f. option_and_then (λ (hit : ResolvedMember). if is_static
        hit.flags then method_at p.files f else None) (method_hit (c ∷ []) f)) o) ≡ Some start
        → IsAmong (placed_methods p) start.code
    found_there id c known plain start None is e = absurd (cc)
    found_there id c known plain start (Some f) is e =
        let o = own_is w false id.name id.desc c f is in
        let hit : method_hit (c ∷ []) f ≡ Some (record { owner = c; flags = o.method.flags }) =
        ap (method_hit (c ∷ [])) o.is ∙ hit_is c o.place o.method o.there in
        by o (is_static o.method.flags) refl
        (sym (ap (λ h. option_map (start_placed place) (option_and_then (λ (q : ResolvedMember). if is_static
        q.flags then method_at p.files f else None) h)) hit) ∙ e)
      where
        last : (q : Option Method) → method_at p.files f ≡ q → is_in_method w f ≡ true
            → option_map (start_placed place) q ≡ Some start → IsAmong (placed_methods p) start.code
        last None there inside h = absurd (cc)
        last (Some k) there inside h = started k start h (places_there f k inside there)

        by : (o : OwnMethod w false id.name id.desc c f) (s : Bool) → is_static o.method.flags ≡ s
            → option_map (start_placed place) (if is_static o.method.flags then method_at p.files f else None)
            ≡ Some start → IsAmong (placed_methods p) start.code
        by o false static h = let clash : None ≡ Some start =
            sym (ap (λ t. option_map (start_placed place) (if t then method_at p.files f else None)) static) ∙ h
            in absurd (cc)
        by o true static h = kind c.is_imported refl
          where
            method_is : option_map (start_placed place) (method_at p.files f) ≡ Some start
            method_is = sym (ap (λ t. option_map (start_placed place) (if t then method_at p.files f else None)) static)
                ∙ h

            class_here : c.is_imported ≡ false → (t : Bool) → is_interface c.flags ≡ t → is_interface c.flags ≡ false
            class_here own false is_class = is_class
            class_here own true is_one = let clash : true ≡ false =
                sym (interfaces id.class c known own is_one o.place o.method o.there static)
                ∙ ap is_initialiser o.name_is ∙ plain in absurd (cc)

            kind : (t : Bool) → c.is_imported ≡ t → IsAmong (placed_methods p) start.code
            kind true import =
                let none : method_at p.files f ≡ None = ap (λ t. if t then None
                else option_and_then (method_in_file f.member) (slice_get p.files.classes f.class))
                (ap (λ (g : Found). g.imported) o.is ∙ import) in
                let clash : None ≡ Some start = sym (ap (option_map (start_placed place)) none) ∙ method_is
                in absurd (cc)
            kind false own =
                let i = facts.own id.class c known own in
                last (method_at p.files f) refl (ap (is_in_method w) o.is ∙ stands_in_method w i.number c i.ordered
                (class_here own (is_interface c.flags) refl) own o.place o.method o.there
                (ap is_initialiser o.name_is ∙ plain)) method_is

    pub called_there : (id : MemberId) (start : Start Placed)
        → option_map (start_placed place) (entry_named p.files w id) ≡ Some start
        → IsAmong (placed_methods p) start.code
    called_there id start e = by (is_initialiser id.name) refl e
      where
        class_by : is_initialiser id.name ≡ false → (o : Option Class) → class_named w id.class ≡ o
            → option_map (start_placed place) (option_and_then (entry_in p.files id) o) ≡ Some start
            → IsAmong (placed_methods p) start.code
        class_by plain None is h = absurd (cc)
        class_by plain (Some c) is h = found_there id c is plain start (own_method false id.name id.desc c) refl h

        by : (t : Bool) → is_initialiser id.name ≡ t → option_map (start_placed place) (if t then None
            else option_and_then (entry_in p.files id) (class_named w id.class)) ≡ Some start
            → IsAmong (placed_methods p) start.code
        by true init h = absurd (cc)
        by false plain h = class_by plain (class_named w id.class) refl h
