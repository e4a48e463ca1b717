-- Calls that are dispatched are what their acts say, where dispatch keeps descriptors.
use Rattle.std.proofs.Common.{◌≡◌, ◌+◌, ◌==◌, ℕ, Bool, true, false, not, List, [], ◌∷◌, ◌++◌, length}
use Rattle.std.proofs.Common.{slice_get, Option, Some, None, refl, sym, ap, subst, ◌∙◌, arith, ℤ, pos, negsuc}
use Rattle.std.specs.Prelude.{if◌then◌else◌, option_and_then, option_map}
use Rattle.std.proofs.lemmas.Bool.Decides.{nat_tests}
use Rattle.cjc_bytes.specs.AccessFlags.{is_static}
use Rattle.cjc_capread.specs.Opcodes.{Byte, Index2}
use Rattle.cjc_capread.specs.declared.tree.ClassRef.{ClassRef}
use Rattle.cjc_capread.specs.declared.tree.MethodDescriptor.{MethodDescriptor}
use Rattle.cjc_capread.specs.declared.tree.PoolEntry.{PoolEntry}
use Rattle.cjc_capread.specs.declared.tree.PoolEntry.TheVariants.{Classref, InstanceFieldref}
use Rattle.cjc_capread.specs.declared.tree.PoolEntry.TheVariants.{VirtualMethodref, SuperMethodref}
use Rattle.cjc_capread.specs.declared.tree.PoolEntry.TheVariants.{StaticFieldref, StaticMethodref}
use Rattle.cjc_world.specs.ExportFile.Writable.{IsWritable}
use Rattle.cjc_world.specs.ExportFile.declared.tree.ExportTree.{ExportTree}
use Rattle.cjc_check_rules.specs.Spots.{in_info}
use Rattle.cjc_check_rules.specs.Complete.{Complete}
use Rattle.cjc_check_rules.specs.PoolEntries.{pool_spots}
use Rattle.cjc_world.specs.declared.image.StaticImage.{StaticImage}
use Rattle.cjc_world.specs.Files.{Files}
use Rattle.cjc_card_semantics.specs.Script.Sorts.{Shape, OfClass, signature_of}
use Rattle.cjc_card_semantics.specs.Bytecode.Effects.{Call}
use Rattle.cjc_card_semantics.specs.Bytecode.Machine.{Start}
use Rattle.cjc_card_semantics.specs.Bytecode.Meanings.{CallsInterface, Special, Virtual}
use Rattle.cjc_card_semantics.specs.Bytecode.Meanings as meanings
use Rattle.cjc_card_semantics.specs.Machine.Loaded.{Loaded}
use Rattle.cjc_card_semantics.specs.Machine.Calls.{argument_words, dispatched_on, reached_by, with_code, words_of}
use Rattle.cjc_card_semantics.specs.Machine.Classes.{Class, class_of, shape_class}
use Rattle.cjc_card_semantics.specs.Machine.Dispatch.{Token, Selection, NotFound, At, Outward, above, dispatched, tower}
use Rattle.cjc_card_semantics.specs.Machine.Dispatch.{dispatched_interface}
use Rattle.cjc_card_semantics.specs.Machine.Methods.{Code}
use Rattle.cjc_card_semantics.specs.Machine.Operations.{OnInterface, OnObject, OnSuper, operation, or_undone, token_of}
use Rattle.cjc_card_semantics.specs.Machine.Operations as machine
use Rattle.cjc_card_acts.specs.CardTypes.{MemberType, ValueType, both_of, needs_of_all, shape_by, type_by, types_in}
use Rattle.cjc_card_acts.specs.CardTypes.{widths}
use Rattle.cjc_verify.specs.Bodies.{type_of_body}
use Rattle.cjc_verify.specs.ClassTypes.{class_type}
use Rattle.cjc_verify.specs.Described.{is_entry_type}
use Rattle.cjc_verify.specs.Instructions.{by_interface, calling_interface, calling_on, calling_through, class_in, using}
use Rattle.cjc_verify.specs.Named.{entry_of, entry_type, holder_in, interface_desc, interface_type, is_abstract_start}
use Rattle.cjc_verify.specs.Named.{is_abstract_selection, is_static_described, names_abstract_above, named_desc}
use Rattle.cjc_verify.specs.Named.{selected_above, super_selection}
use Rattle.cjc_verify.specs.Pairs.{Pair, Described, member_of, method_at, nibbles_of, pair_of}
use Rattle.cjc_verify.specs.Verified.{IsVerified}
use Rattle.cjc_verify_proof.specs.Beside.{AreRead}
use Rattle.cjc_verify_proof.specs.Calls.{argument_cells, receiver_needs}
use Rattle.cjc_verify_proof.specs.Frames.{Program}
use Rattle.cjc_verify_proof.specs.Instructions.{Suits, call}
use Rattle.cjc_verify_proof.specs.Turns.{IsReached, within, abroad}
use Rattle.cjc_verified_proof.specs.Entries.{AreRefs}
use Rattle.cjc_verified_proof.specs.Programs.{CallsSuit}
use Rattle.cjc_verified_proof.specs.Selecting.{DispatchFits, HasDesc, of_package, of_file, IsOf, IsConcrete}
use Rattle.cjc_verified_proof.specs.Suited.{AreStanding, HaveSorts, IsRight, StandsAt, holder_type}
use Rattle.cjc_verify_proof.proofs.CalleeLaws.{argument_counted, taken_counted}
use Rattle.cjc_verified_proof.proofs.EntryLaws.{entry_typed, unless_holds}
use Rattle.cjc_verified_proof.proofs.FixedLaws.{calls_suit}
use Rattle.cjc_verified_proof.proofs.PlaceLaws.{all_read}

module _ (applets : Bool) (files : Files) (image : StaticImage) (c : Complete) (program : Program)
    (verified : IsVerified (pair_of applets files image c))
    (counts : (let d = c.descriptor in let q = c.pool in length d.pool_types ≡ length q.entries))
    (written : (e : ℕ) (t : ExportTree) → slice_get files.exports e ≡ Some t → IsWritable t)
    (clean : pool_spots c files.exports ≡ [])
    (stands : AreStanding (pair_of applets files image c) program) (sorts : HaveSorts (pair_of applets files image c))
    (refs : AreRefs c) (fits : DispatchFits (pair_of applets files image c) program) where
  abbrev p : Pair
  p = pair_of applets files image c

  abbrev l : Loaded
  l = p.loaded

  abbrev pool : List PoolEntry
  pool = let q = c.pool in q.entries

  -- ---- what is selected

  module _ (desc nibbles : List ℕ) (said : nibbles_of p desc ≡ Some nibbles) where
    abbrev t : MemberType
    t = type_by (types_in nibbles)

    -- a method of the package with this descriptor
    module _ (offset : ℕ) (x : StandsAt p program offset) (d : Described) (at : method_at p offset ≡ Some d)
        (same : (let m = member_of p d in m.desc) ≡ desc) (plain : is_static_described d ≡ false) where
      one : x.described ≡ d
      one = let both : Some x.described ≡ Some d = sym x.is_described ∙ at in cc

      types_so : type_of_body c x.body ≡ t
      types_so =
          let nibbles_so : Some x.nibbles ≡ Some nibbles = sym x.said ∙ ap (nibbles_of p) (ap (λ (y : Described).
          let m = member_of p y in m.desc) one ∙ same) ∙ said in
          let alike : x.nibbles ≡ nibbles = cc in
          x.types ∙ ap (λ ns. type_by (types_in ns)) alike

      static_so : (let b = x.body in let m = b.method in is_static m.flags) ≡ false
      static_so = ap (λ (m : MethodDescriptor). is_static m.flags) (sym x.method) ∙ ap is_static_described one ∙ plain

      holder_so : holder_type x.body ≡ Some (class_type d.holder)
      holder_so = ap (λ b. if b then None else Some (class_type (let y = x.body in y.holder))) static_so
          ∙ ap (λ r. Some (class_type r)) (sym x.holder ∙ ap (λ (y : Described). y.holder) one)

      words_so : (let s = x.start in s.nargs) ≡ 1 + widths t.params
      words_so = x.words ∙ ap (λ b. (if b then 0 else 1) + widths (let y = type_of_body c x.body in y.params)) static_so
          ∙ ap (λ (y : MemberType). 1 + widths y.params) types_so

    reached_so : (kind : Shape Class) (sel : Selection) → HasDesc p desc sel → IsOf p kind sel → IsConcrete p sel
        → IsReached l program (Some kind) t.params t.result (reached_by l sel)
    reached_so kind _ (of_package offset d start at same plain) on concrete =
        let x = stands offset start in
        let m = x.typed (sym (ap is_abstract_start x.starts) ∙ concrete) in
        let types = types_so offset x d at same plain in
        subst (λ (o : Option (Start Code)). IsReached l program (Some kind) t.params t.result (with_code o))
        (sym x.starts)
        (within x.start m.0 (Some (class_type d.holder)) m.1 m.2 (subst (λ (o : Option Described). both_of l (Some kind)
        (shape_by l (holder_in o)) ≡ true) at on) (m.3 ∙ ap (λ h. argument_cells h (let y = type_of_body c x.body
        in y.params)) (holder_so offset x d at same plain) ∙ ap (λ (y : MemberType). argument_cells (Some (class_type
        d.holder)) y.params) types) (m.4 ∙ ap (λ (y : MemberType). y.result) types))
    reached_so kind _ (of_file id signature same signed) on concrete =
        let sig_is : signature_of id.desc ≡ Some signature = ap signature_of same ∙ signed in
        let s = sorts desc nibbles signature said signed in
        abroad id signature sig_is s.0 s.1

    counted_so : (type : List ℕ) (sel : Selection) → HasDesc p desc sel → words_of l true sel ≡ Some (length
        (needs_of_all t.params ++ receiver_needs (Some type)))
    counted_so type _ (of_package offset d start at same plain) =
        let x = stands offset start in
        let s = x.start in
        let count = taken_counted (Some type) t.params in
        let nargs = words_so offset x d at same plain in
        let total : s.nargs ≡ length (needs_of_all t.params ++ receiver_needs (Some type)) = omega
        (arith, count, nargs) in
        ap (option_map (λ (m : Start Code). m.nargs)) x.starts ∙ ap (λ n. Some n) total
    counted_so type _ (of_file id signature same signed) =
        let s = sorts desc nibbles signature said signed in
        ap (option_map (argument_words true)) (ap signature_of same ∙ signed) ∙ ap (λ n. Some n) (argument_counted l
        (Some type) signature t.params s.0)

  -- ---- by the entry

  module _ (result : ValueType) where
    pub virtual_suits : (k : ℕ) (class : ClassRef) (token : ℕ) → entry_of p k ≡ Some (VirtualMethodref class token)
        → Suits l program result (using p (meanings.Calls Virtual) (entry_type p k) (VirtualMethodref class token))
        (or_undone (machine.using l 0 (meanings.Calls Virtual) (VirtualMethodref class token)))
    virtual_suits k class token is =
        let item = VirtualMethodref class token in
        let e = entry_typed p verified counts k item is (λ at type_offset h. unless_holds (is_entry_type p type_offset
        (named_desc p item)) (in_info 11 at) h) in
        let v = fits.virtuals k class token e.desc is e.named in
        let type = class_type class in
        let shape : shape_by l type ≡ Some (OfClass v.named) = ap (option_map OfClass) (all_read l class (refs.entries k
        item is) ∙ v.meant) in
        let t = type_by (types_in e.nibbles) in
        subst (λ (x : MemberType). Suits l program result (calling_on x type false) (or_undone (machine.using l 0
        (meanings.Calls Virtual) item))) (sym e.type_is)
        (subst (λ (o : Option Class). Suits l program result (calling_on t type false) (or_undone (option_map Call
        (option_and_then (λ (x : Class). option_map (OnObject x) (token_of x token)) o)))) (sym v.meant)
        (subst (λ (o : Option Token). Suits l program result (calling_on t type false) (or_undone (option_map Call
        (option_map (OnObject v.named) o)))) (sym v.token_is)
        (call (record {
          receiver = Some type;
          params = t.params;
          result = t.result;
          takes = refl;
          gives = refl;
          writes = refl;
          falls = refl;
          count = counted_so e.desc e.nibbles e.wanted type (dispatched (tower l v.named) v.chosen) v.has;
          on = refl;
          reaches = λ kind made is_of. (
              let a = v.answers kind made (subst (λ o. both_of l (Some kind) o ≡ true) shape is_of) in
              reached_so e.desc e.nibbles e.wanted kind (dispatched_on l (shape_class l kind) v.chosen) a.0 a.1 a.2
              );
        }))))

    pub super_suits : (k : ℕ) (class : ClassRef) (token : ℕ) → entry_of p k ≡ Some (SuperMethodref class token)
        → names_abstract_above p class token ≡ false
        → Suits l program result (using p (meanings.Calls Special) (entry_type p k) (SuperMethodref class token))
        (or_undone (machine.using l 0 (meanings.Calls Special) (SuperMethodref class token)))
    super_suits k class token is concrete =
        let item = SuperMethodref class token in
        let e = entry_typed p verified counts k item is (λ at type_offset h. unless_holds (is_entry_type p type_offset
        (named_desc p item)) (in_info 11 at) h) in
        let v = fits.supers k class token e.desc is e.named in
        let type = class_type class in
        let misnames = names_abstract_above p class token in
        let shape : shape_by l type ≡ Some (OfClass v.named) = ap (option_map OfClass) (all_read l class (refs.entries k
        item is) ∙ v.meant) in
        let sel = dispatched (above (tower l v.named)) v.chosen in
        let selected : super_selection l token (class_of l 0 class) ≡ sel = ap (super_selection l token) v.meant
        ∙ ap (selected_above l v.named) v.token_is in
        let not_abstract : is_abstract_selection p sel ≡ false = ap (is_abstract_selection p) (sym selected)
        ∙ concrete in
        let t = type_by (types_in e.nibbles) in
        subst (λ (x : MemberType). Suits l program result (calling_on x type misnames) (or_undone (machine.using l 0
        (meanings.Calls Special) item))) (sym e.type_is)
        (subst (λ (o : Option Class). Suits l program result (calling_on t type misnames) (or_undone (option_map Call
        (option_and_then (λ (x : Class). option_map (OnSuper x) (token_of x token)) o)))) (sym v.meant)
        (subst (λ (o : Option Token). Suits l program result (calling_on t type misnames) (or_undone (option_map Call
        (option_map (OnSuper v.named) o)))) (sym v.token_is)
        (call (record {
          receiver = Some type;
          params = t.params;
          result = t.result;
          takes = refl;
          gives = refl;
          writes = refl;
          falls = refl;
          count = counted_so e.desc e.nibbles e.wanted type sel v.has;
          on = refl;
          reaches = λ kind made is_of. reached_so e.desc e.nibbles e.wanted kind sel v.has (v.is_of kind made (subst
              (λ o. both_of l (Some kind) o ≡ true) shape is_of)) (concrete_so sel not_abstract);
        }))))
      where
        concrete_so : (sel : Selection) → is_abstract_selection p sel ≡ false → IsConcrete p sel
        concrete_so NotFound h = tt
        concrete_so (At part offset) h = h
        concrete_so (Outward id) h = tt

    -- ---- interfaces

    number_so : (n k : ℕ) → not (n == k) ≡ false → n ≡ k
    number_so n k e = by (n == k) refl e
      where
        by : (b : Bool) → (n == k) ≡ b → not b ≡ false → n ≡ k
        by true f h = grind (arith, nat_tests, f)
        by false f h = cc

    module _ (nargs token k : ℕ) (class : ClassRef) (is : entry_of p k ≡ Some (Classref class)) where
      abbrev type : List ℕ
      type = class_type class

      -- what the act says, by the class that the entry means
      abbrev through : Option Class → Option MemberType
      through o = option_map (λ nibbles. type_by (types_in nibbles)) (option_and_then (nibbles_of p)
          (interface_desc l token
          o))

      interface_suits : IsRight (calling_interface (class_type class) nargs (interface_type p class token))
          → Suits l program result (calling_interface (class_type class) nargs (interface_type p class token))
          (or_undone
          (option_map (λ (x : Class). Call (OnInterface nargs x token)) (class_of l 0 class)))
      interface_suits right = by_class (class_of l 0 class) refl right
        where
          by_nibbles : (x : Class) → class_of l 0 class ≡ Some x → (desc : List ℕ) → interface_desc l token (Some x)
              ≡ Some desc → (n : Option (List ℕ)) → nibbles_of p desc ≡ n → IsRight (calling_interface type nargs
              (option_map (λ nibbles. type_by (types_in nibbles)) n)) → Suits l program result (calling_interface type
              nargs (option_map (λ nibbles. type_by (types_in nibbles)) n)) (Call (OnInterface nargs x token))
          by_nibbles x f desc g None h r = let no = r.named in absurd cc
          by_nibbles x f desc g (Some nibbles) h r =
              let t = type_by (types_in nibbles) in
              let shape : shape_by l type ≡ Some (OfClass x) = ap (option_map OfClass) (all_read l class (refs.entries k
              (Classref class) is) ∙ f) in
              let count = taken_counted (Some type) t.params in
              let words = number_so nargs (1 + widths t.params) r.named in
              let total : nargs ≡ length (needs_of_all t.params ++ receiver_needs (Some type)) = omega (
                arith,
                count,
                words,
              ) in
              call (record {
                receiver = Some type;
                params = t.params;
                result = t.result;
                takes = refl;
                gives = refl;
                writes = refl;
                falls = refl;
                count = ap (λ n. Some n) total;
                on = refl;
                reaches = λ kind made is_of. (
                    let a = fits.interfaces x token desc g kind made (subst (λ o. both_of l (Some kind) o ≡ true) shape
                    is_of) in
                    reached_so desc nibbles h kind (dispatched_interface l (shape_class l kind) x token) a.0 a.1
                    a.2
                    );
              })

          by_desc : (x : Class) → class_of l 0 class ≡ Some x → (o : Option (List ℕ)) → interface_desc l token (Some x)
              ≡ o → IsRight (calling_interface type nargs (option_map (λ nibbles. type_by (types_in nibbles))
              (option_and_then (nibbles_of p) o))) → Suits l program result (calling_interface type nargs (option_map
              (λ nibbles. type_by (types_in nibbles)) (option_and_then (nibbles_of p) o))) (Call (OnInterface nargs x
              token))
          by_desc x f None g r = let no = r.named in absurd cc
          by_desc x f (Some desc) g r = by_nibbles x f desc g (nibbles_of p desc) refl r

          by_class : (o : Option Class) → class_of l 0 class ≡ o → IsRight (calling_interface type nargs (through o))
              → Suits l program result (calling_interface type nargs (through o)) (or_undone (option_map (λ (x : Class).
              Call (OnInterface nargs x token)) o))
          by_class None f r = let no = r.named in absurd cc
          by_class (Some x) f r = by_desc x f (interface_desc l token (Some x)) refl r

    pub interface_calls : (at : ℕ) (operands table : List ℤ) → AreRead (Byte ∷ Index2 ∷ Byte ∷ []) operands
        → IsRight (by_interface p operands) → Suits l program result (by_interface p operands) (operation l 0 pool at
        CallsInterface operands table)
    interface_calls at [] table r right = absurd r
    interface_calls at (x ∷ []) table r right = absurd r.1
    interface_calls at (x ∷ y ∷ []) table r right = absurd r.1.1
    interface_calls at (negsuc n ∷ y ∷ z ∷ []) table r right = absurd r.0
    interface_calls at (pos n ∷ negsuc k ∷ z ∷ []) table r right = absurd r.1.0
    interface_calls at (pos n ∷ pos k ∷ negsuc m ∷ []) table r right = absurd r.1.1.0
    interface_calls at (pos n ∷ pos k ∷ pos m ∷ []) table r right = by (slice_get pool k) refl right
      where
        by : (o : Option PoolEntry) → slice_get pool k ≡ o → IsRight (calling_through p n m (class_in o))
            → Suits l program result (calling_through p n m (class_in o)) (or_undone (option_map (λ (x : Class).
            Call (OnInterface n x m)) (machine.class_at l 0 o)))
        by None f h = let no = h.named in absurd cc
        by (Some (Classref class)) f h = interface_suits n m k class f h
        by (Some (InstanceFieldref class token)) f h = let no = h.named in absurd cc
        by (Some (VirtualMethodref class token)) f h = let no = h.named in absurd cc
        by (Some (SuperMethodref class token)) f h = let no = h.named in absurd cc
        by (Some (StaticFieldref member)) f h = let no = h.named in absurd cc
        by (Some (StaticMethodref member)) f h = let no = h.named in absurd cc
    interface_calls at (x ∷ y ∷ z ∷ u ∷ us) table r right = absurd r.1.1.1

  -- ---- all calls

  pub all_calls : CallsSuit p program
  all_calls = record {
    calls = λ result mode k item is kind right. calls_suit applets files image c program verified counts written clean
        stands sorts result (record {
          virtual_suits = λ n class token e. virtual_suits result n class token e;
          super_suits = λ n class token e named. super_suits result n class token e named;
        }) mode k item is kind right.named;
    interface = λ result at operands table r right. interface_calls result at operands table r right;
  }
