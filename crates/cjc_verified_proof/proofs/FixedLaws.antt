-- Calls of static methods, of constructors and of private methods are what their acts say.
use Rattle.std.proofs.Common.{◌≡◌, ◌+◌, ◌==◌, ◌&&◌, ◌||◌, ℕ, zero, suc, Bool, true, false, not, List, [], ◌∷◌, ◌++◌}
use Rattle.std.proofs.Common.{length}
use Rattle.std.proofs.Common.{slice_get, Option, Some, None, refl, sym, ap, subst, ◌∙◌, arith}
use Rattle.std.specs.Prelude.{cond, if◌then◌else◌, map, option_and_then, option_map}
use Rattle.std.specs.List.{find}
use Rattle.cjc_bytes.specs.Descriptor.{Parts}
use Rattle.cjc_bytes.specs.Spots.{desc_of}
use Rattle.cjc_bytes.specs.AccessFlags.{is_interface, is_static}
use Rattle.cjc_capread.specs.declared.tree.ClassRef.TheVariants as refs
use Rattle.cjc_capread.specs.declared.tree.MethodDescriptor.{MethodDescriptor}
use Rattle.cjc_capread.specs.declared.tree.PoolEntry.{PoolEntry}
use Rattle.cjc_capread.specs.declared.tree.ClassRef.{ClassRef}
use Rattle.cjc_capread.specs.declared.tree.PoolEntry.TheVariants.{Classref, InstanceFieldref}
use Rattle.cjc_capread.specs.declared.tree.PoolEntry.TheVariants.{VirtualMethodref, SuperMethodref}
use Rattle.cjc_capread.specs.declared.tree.PoolEntry.TheVariants.{StaticFieldref, StaticMethodref}
use Rattle.cjc_capread.specs.declared.tree.StaticRef.{StaticRef}
use Rattle.cjc_capread.specs.declared.tree.StaticRef.TheVariants.{Inside, Outside}
use Rattle.cjc_world.specs.ExportFile.Members.{is_unbound, same_bool}
use Rattle.cjc_world.specs.ExportFile.Writable.{ClassFits, EachAfter, IsWritable, MethodFits, MethodStands}
use Rattle.cjc_world.specs.ExportFile.declared.tree.ExportClass.{ExportClass}
use Rattle.cjc_world.specs.ExportFile.declared.tree.ExportMethod.{ExportMethod}
use Rattle.cjc_world.specs.ExportFile.declared.tree.ExportTree.{ExportTree}
use Rattle.cjc_check_rules.specs.Spots.{in_info, unless}
use Rattle.cjc_check_rules.specs.Classes.{class_with, imported}
use Rattle.cjc_check_rules.specs.Complete.{Complete}
use Rattle.cjc_check_rules.specs.PoolEntries.{names_member, pool_spots}
use Rattle.cjc_world.specs.declared.image.StaticImage.{StaticImage}
use Rattle.cjc_world.specs.Files.{Files}
use Rattle.cjc_card_semantics.specs.Script.Sorts.{Signature, result_by, signature_by, signature_of, sort_of}
use Rattle.cjc_card_semantics.specs.Bytecode.Effects.{Call}
use Rattle.cjc_card_semantics.specs.Bytecode.Meanings.{Mode, Special, Static, Virtual}
use Rattle.cjc_card_semantics.specs.Bytecode.Meanings as meanings
use Rattle.cjc_card_semantics.specs.Machine.Loaded.{Loaded}
use Rattle.cjc_card_semantics.specs.Machine.Operations.{Callee, method_through, outer, unbound_of}
use Rattle.cjc_card_semantics.specs.Machine.Operations as machine
use Rattle.cjc_card_acts.specs.CardTypes.{MemberType, ValueType, type_by, types_in, widths}
use Rattle.cjc_verify.specs.Bodies.{type_of_body}
use Rattle.cjc_verify.specs.ClassTypes.{class_type}
use Rattle.cjc_verify.specs.Described.{is_entry_type}
use Rattle.cjc_verify.specs.Instructions.{calling, using}
use Rattle.cjc_verify.specs.Named.{entry_of, entry_type, exported, holder_in, holder_of, holds, is_abstract_start}
use Rattle.cjc_verify.specs.Named.{is_static_described, method_desc, names_abstract, names_static, named_desc}
use Rattle.cjc_verify.specs.Named.{static_method}
use Rattle.cjc_verify.specs.Pairs.{Pair, Described, member_of, nibbles_of, pair_of}
use Rattle.cjc_verify.specs.Verified.{IsVerified}
use Rattle.cjc_verify_proof.specs.Calls.{argument_cells, has_receiver, receiver_needs, AreSorts, IsResult}
use Rattle.cjc_verify_proof.specs.Frames.{Program}
use Rattle.cjc_verify_proof.specs.Instructions.{Suits, call}
use Rattle.cjc_verify_proof.specs.Uses.{is_used_by}
use Rattle.cjc_verified_proof.specs.Suited.{AreStanding, HaveSorts, StandsAt, holder_type}
use Rattle.cjc_bytes.proofs.Gets.{find_got}
use Rattle.cjc_verify_proof.proofs.CalleeLaws.{fixed_calls, outer_calls, taken_counted}
use Rattle.cjc_verified_proof.proofs.EntryLaws.{IsTyped, entry_typed, unless_holds}
use Rattle.cjc_verified_proof.proofs.PlaceLaws.{along_none}
use Rattle.cjc_verified_proof.proofs.ThereLaws.{outside_there}

-- ---- methods of export files

pub each_after : {A : Type 0} (P : List A → A → Type 0) (before xs : List A) (k : ℕ) (x : A) → EachAfter P before xs
    → slice_get xs k ≡ Some x → (b : List A) × P b x
each_after P before [] k x each is = cc
each_after P before (y ∷ xs) zero x each is = let same : y ≡ x = cc in (before, subst (P before) same each.0)
each_after P before (y ∷ xs) (suc k) x each is = each_after P (before ++ y ∷ []) xs k x each.1 is

method_fits : (b : Bool) (n : ℕ) (before : List ExportMethod) (m : ExportMethod) → MethodStands b n before m
    → MethodFits m
method_fits true n before m h = h.0
method_fits false n before m h = h.0

-- the descriptor of a method that some bytes spell has types
fits_signed : (m : ExportMethod) → MethodFits m → (s : Signature) × (signature_of m.desc ≡ Some s)
fits_signed m fits = by (desc_of m.desc) refl fits.is_desc
  where
    at : (d : Parts) → desc_of m.desc ≡ Some d → (b : Bool) → d.is_method ≡ b → (if same_bool true b then Some m.desc
        else None) ≡ Some m.desc → (s : Signature) × (signature_of m.desc ≡ Some s)
    at d is true f h = (
      record { params = map sort_of d.params; result = (let r = d.result in result_by r.kind r) },
      ap (option_and_then signature_by) is ∙ ap (λ b. if b then Some (record {
        params = map sort_of d.params;
        result = (let r = d.result in result_by r.kind r);
      }) else None) f,
    )
    at d is false f h = cc

    by : (o : Option Parts) → desc_of m.desc ≡ o → option_and_then (λ (d : Parts). if same_bool true d.is_method
        then Some m.desc else None) o ≡ Some m.desc → (s : Signature) × (signature_of m.desc ≡ Some s)
    by None is h = cc
    by (Some d) is h = at d is d.is_method refl h

-- each method of export files that some bytes spell
pub method_signed : (exports : List ExportTree) → ((e : ℕ) (t : ExportTree) → slice_get exports e ≡ Some t
    → IsWritable t) → (import token : ℕ) (x : ExportClass) → imported exports import token ≡ Some x → (k : ℕ)
    (m : ExportMethod) → slice_get x.methods k ≡ Some m → (s : Signature) × (signature_of m.desc ≡ Some s)
method_signed exports written import token x e k m is = by (slice_get exports import) refl e
  where
    by : (o : Option ExportTree) → slice_get exports import ≡ o → option_and_then (class_with token) o ≡ Some x
        → (s : Signature) × (signature_of m.desc ≡ Some s)
    by None f h = cc
    by (Some t) f h =
        let w = written import t f in
        let got = find_got (λ (c : ExportClass). c.token == token) t.classes x h in
        let fits = each_after ClassFits [] t.classes got.0 x w.classes got.1 in
        let fit = fits.1 in
        let stands = each_after (MethodStands (is_interface x.flags)
        (length x.methods)) [] x.methods k m fit.methods is in
        fits_signed m (method_fits (is_interface x.flags) (length x.methods) stands.0 m stands.1)

-- the static method of a token, found in either way
unbound_found : (token : ℕ) (ms : List ExportMethod) → find (λ (m : ExportMethod). (m.token == token) && is_unbound
    m.flags m.name) ms ≡ unbound_of ms token
unbound_found token [] = refl
unbound_found token (m ∷ ms) = by (m.token == token) (is_unbound m.flags m.name) (unbound_found token ms)
  where
    by : (a b : Bool) → find (λ (x : ExportMethod). (x.token == token) && is_unbound x.flags x.name) ms
        ≡ unbound_of ms token → cond (a && b) (Some m) (find (λ (x : ExportMethod). (x.token == token) && is_unbound
        x.flags x.name) ms) ≡ (if b && a then Some m else unbound_of ms token)
    by true true e = refl
    by true false e = e
    by false true e = e
    by false false e = e

-- ---- two tests

either_false : (a b : Bool) → (a || b) ≡ false → (a ≡ false) × (b ≡ false)
either_false true b e = cc
either_false false b e = (refl, e)

not_false : (a : Bool) → not a ≡ false → a ≡ true
not_false true e = refl
not_false false e = cc

module _ (applets : Bool) (files : Files) (image : StaticImage) (c : Complete) (program : Program)
    (verified : IsVerified (pair_of applets files image c))
    (counts : (let d = c.descriptor in let q = c.pool in length d.pool_types ≡ length q.entries))
    (written : (e : ℕ) (t : ExportTree) → slice_get files.exports e ≡ Some t → IsWritable t)
    (clean : pool_spots c files.exports ≡ []) (stands : AreStanding (pair_of applets files image c) program)
    (sorts : HaveSorts (pair_of applets files image c)) where
  abbrev p : Pair
  p = pair_of applets files image c

  abbrev l : Loaded
  l = p.loaded

  abbrev pool : List PoolEntry
  pool = let q = c.pool in q.entries

  -- the member of an entry is there
  pub member_there : (k : ℕ) (item : PoolEntry) → slice_get pool k ≡ Some item → names_member c files.exports item
      ≡ true
  member_there k item is =
      let one = along_none (λ (x : PoolEntry). 4) (λ (at : ℕ) (x : PoolEntry). unless (names_member c files.exports x)
      (in_info 5 at)) 2 pool k item clean is in
      unless_holds (names_member c files.exports item) (in_info 5 one.0) one.1

  -- the types of an entry of a method
  typed_entry : (k : ℕ) (r : StaticRef) → entry_of p k ≡ Some (StaticMethodref r) → IsTyped p k (StaticMethodref r)
  typed_entry k r is = entry_typed p verified counts k (StaticMethodref r) is (λ at type_offset e. unless_holds
      (is_entry_type p type_offset (named_desc p (StaticMethodref r))) (in_info 11 at) e)

  module _ (result : ValueType) where
    -- ---- of the package

    module _ (k offset : ℕ) (is : entry_of p k ≡ Some (StaticMethodref (Inside offset))) where
      abbrev t : MemberType
      t = entry_type p k

      there : StandsAt p program offset
      there = stands offset (member_there k (StaticMethodref (Inside offset)) is)

      -- Descriptor gives the entry and the method the same types
      types_alike : type_of_body c there.body ≡ t
      types_alike =
          let e = typed_entry k (Inside offset) is in
          let named : Some (let m = member_of p there.described in m.desc) ≡ Some e.desc = sym (ap (option_map
          (λ (d : Described). let m = member_of p d in m.desc)) there.is_described) ∙ e.named in
          let same : (let m = member_of p there.described in m.desc) ≡ e.desc = cc in
          let nibbles : Some there.nibbles ≡ Some e.nibbles = sym there.said ∙ ap (nibbles_of p) same ∙ e.wanted in
          let alike : there.nibbles ≡ e.nibbles = cc in
          there.types ∙ ap (λ ns. type_by (types_in ns)) alike ∙ sym e.type_is

      concrete : names_abstract p (Inside offset) ≡ false → (let m = there.start in m.is_abstract) ≡ false
      concrete e = sym (ap is_abstract_start there.starts) ∙ e

      -- whether it is static, by Descriptor
      static_so : (b : Bool) → names_static p (Inside offset) ≡ b → (let x = there.body in let m = x.method
          in is_static m.flags) ≡ b
      static_so b e = ap (λ (m : MethodDescriptor). is_static m.flags) (sym there.method) ∙ sym (ap (holds
          is_static_described) there.is_described) ∙ e

      counted : (b : Bool) → names_static p (Inside offset) ≡ b → (let m = there.start in m.nargs) ≡
          (if b then 0 else 1)
          + widths t.params
      counted b e = there.words ∙ ap (λ x. (if x then 0 else 1) + widths
          (let y = type_of_body c there.body in y.params))
          (static_so b e) ∙ ap (λ (x : MemberType). (if b then 0 else 1) + widths x.params) types_alike

      holder_so : (b : Bool) → names_static p (Inside offset) ≡ b → holder_type there.body ≡ (if b then None
          else Some (class_type (let x = there.body in x.holder)))
      holder_so b e = ap (λ x. if x then None else Some (class_type (let y = there.body in y.holder))) (static_so b e)

      abbrev calls_static : Bool
      calls_static = not (names_static p (Inside offset)) || names_abstract p (Inside offset)

      pub static_inside : calls_static ≡ false → Suits l program result (calling t [] calls_static) (Call (machine.Fixed
          false 0 offset))
      static_inside e =
          let both = either_false (not (names_static p (Inside offset))) (names_abstract p (Inside offset)) e in
          let is_it = not_false (names_static p (Inside offset)) both.0 in
          let m = there.typed (concrete both.1) in
          let count = taken_counted None t.params in
          let nargs = counted true is_it in
          call (fixed_calls l program (calling t [] calls_static) None t.params t.result refl refl refl refl 0 offset
          there.start there.starts (omega (arith, count, nargs)) m.0 m.1 m.2 (m.3 ∙ ap (λ x. argument_cells x (let y =
          type_of_body c there.body in y.params)) (holder_so true is_it) ∙ ap (λ (x : MemberType). argument_cells None
          x.params) types_alike) (m.4 ∙ ap (λ (x : MemberType). x.result) types_alike))

      abbrev calls_other : Bool
      calls_other = names_static p (Inside offset) || names_abstract p (Inside offset)

      abbrev type : List ℕ
      type = holder_of p (Inside offset)

      type_so : class_type (let x = there.body in x.holder) ≡ type
      type_so = ap class_type (sym there.holder) ∙ sym (ap holder_in there.is_described)

      pub special_inside : calls_other ≡ false → Suits l program result (calling t (receiver_needs (Some type))
          calls_other) (Call (machine.Fixed true 0 offset))
      special_inside e =
          let both = either_false (names_static p (Inside offset)) (names_abstract p (Inside offset)) e in
          let m = there.typed (concrete both.1) in
          let count = taken_counted (Some type) t.params in
          let nargs = counted false both.0 in
          call (fixed_calls l program (calling t (receiver_needs (Some type)) calls_other)
          (Some type) t.params t.result refl
          refl refl refl 0 offset there.start there.starts (omega (arith, count, nargs)) m.0 m.1 m.2 (m.3
          ∙ ap (λ x. argument_cells x (let y = type_of_body c there.body in y.params)) (holder_so false both.0 ∙ ap
          (λ x. Some x) type_so) ∙ ap (λ (x : MemberType). argument_cells (Some type) x.params) types_alike) (m.4
          ∙ ap (λ (x : MemberType). x.result) types_alike))

    -- ---- imported

    module _ (k import class token : ℕ) (is : entry_of p k ≡ Some (StaticMethodref (Outside import class token))) where
      -- the method, and what it is called by
      pub record IsImportedMethod : Type 0 where
        pub holder : ExportClass
        pub method : ExportMethod
        pub signature : Signature
        pub signed : signature_of method.desc ≡ Some signature
        pub nibbles : List ℕ
        pub wanted : nibbles_of p method.desc ≡ Some nibbles
        pub type_is : entry_type p k ≡ type_by (types_in nibbles)
        pub meant : (on : Bool) → machine.static_method l 0 on (Outside import class token) ≡ Some (outer on holder.name
            method)

      pub imported_method : IsImportedMethod
      imported_method = by (exported p import class) refl (e.named)
        where
          e : IsTyped p k (StaticMethodref (Outside import class token))
          e = typed_entry k (Outside import class token) is

          at : (x : ExportClass) → exported p import class ≡ Some x → (o : Option ExportMethod) → static_method token x
              ≡ o → method_desc o ≡ Some e.desc → IsImportedMethod
          at x f None g h = cc
          at x f (Some m) g h =
              let same : m.desc ≡ e.desc = cc in
              let there = outside_there applets files image c import class x f in
              let got = find_got (λ (y : ExportMethod). (y.token == token) && is_unbound y.flags y.name) x.methods m g
              in
              let sig = method_signed files.exports written import class x f got.0 m got.1 in
              record {
                holder = x;
                method = m;
                signature = sig.0;
                signed = sig.1;
                nibbles = e.nibbles;
                wanted = ap (nibbles_of p) same ∙ e.wanted;
                type_is = e.type_is;
                meant = λ on. ap (option_and_then (method_through l on class token)) there.through
                    ∙ ap (option_and_then (λ (y : ExportClass). option_map (outer on y.name)
                    (unbound_of y.methods token)))
                    there.external_is ∙ ap (option_map (outer on x.name)) (sym (unbound_found token x.methods) ∙ g);
              }

          by : (o : Option ExportClass) → exported p import class ≡ o → method_desc (option_and_then
              (static_method token)
              o) ≡ Some e.desc → IsImportedMethod
          by None f h = cc
          by (Some x) f h = at x f (static_method token x) refl h

      -- a call of it, on a receiver or on none
      pub outside_call : (receiver : Option (List ℕ)) (misnames : Bool) →
          (let x = imported_method in Suits l program result
          (calling (entry_type p k) (receiver_needs receiver) misnames) (Call (outer (has_receiver receiver)
          (let h = x.holder in h.name) x.method)))
      outside_call receiver misnames =
          let x = imported_method in
          let m = x.method in
          let s = sorts m.desc x.nibbles x.signature x.wanted x.signed in
          let t = entry_type p k in
          let sig = x.signature in
          call (outer_calls l program (calling t (receiver_needs receiver) misnames) receiver t.params t.result refl
          refl refl
          refl (record { class = (let h = x.holder in h.name); name = m.name; desc = m.desc }) x.signature x.signed
          (subst (λ (y : MemberType). AreSorts l sig.params y.params) (sym x.type_is) s.0) (subst (λ (y : MemberType).
          IsResult l sig.result y.result) (sym x.type_is) s.1))

    -- ---- by the entry

    -- it is what its act says, by its mode and its entry
    abbrev Suits_by : Mode → (k : ℕ) → PoolEntry → Type 0
    Suits_by mode k item = Suits l program result (using p (meanings.Calls mode) (entry_type p k) item)
        (machine.or_undone
        (machine.using l 0 (meanings.Calls mode) item))

    -- an act names what it may
    abbrev Names : Mode → (k : ℕ) → PoolEntry → Type 0
    Names mode k item = (let a = using p (meanings.Calls mode) (entry_type p k) item in a.misnames) ≡ false

    fixed_suits : (mode : Mode) (k : ℕ) (r : StaticRef) → entry_of p k ≡ Some (StaticMethodref r)
        → is_used_by (meanings.Calls mode) (StaticMethodref r) ≡ true → Names mode k (StaticMethodref r)
        → Suits_by mode k (StaticMethodref r)
    fixed_suits Virtual k r is e named = cc
    fixed_suits Static k (Inside offset) is e named = static_inside k offset is named
    fixed_suits Special k (Inside offset) is e named = special_inside k offset is named
    fixed_suits Static k (Outside import class token) is e named =
        let x = imported_method k import class token is in
        let misnames = not (names_static p (Outside import class token)) || names_abstract p
        (Outside import class token)
        in
        subst (λ (o : Option Callee). Suits l program result (calling (entry_type p k) [] misnames) (machine.or_undone
        (option_map Call o))) (sym (x.meant false)) (outside_call k import class token is None misnames)
    fixed_suits Special k (Outside import class token) is e named =
        let x = imported_method k import class token is in
        let misnames = names_static p (Outside import class token) || names_abstract p (Outside import class token) in
        let type = class_type (refs.Outside import class) in
        subst (λ (o : Option Callee). Suits l program result (calling (entry_type p k) (receiver_needs
        (Some type)) misnames)
        (machine.or_undone (option_map Call o))) (sym (x.meant true)) (outside_call k import class token is (Some type)
        misnames)

    -- calls by dispatch
    pub record SuitDispatch : Type 0 where
      pub virtual_suits : (k : ℕ) (class : ClassRef) (token : ℕ) → entry_of p k ≡ Some (VirtualMethodref class token)
          → Suits_by Virtual k (VirtualMethodref class token)
      pub super_suits : (k : ℕ) (class : ClassRef) (token : ℕ) → entry_of p k ≡ Some (SuperMethodref class token)
          → Names Special k (SuperMethodref class token) → Suits_by Special k (SuperMethodref class token)

    pub calls_suit : SuitDispatch → (mode : Mode) (k : ℕ) (item : PoolEntry) → entry_of p k ≡ Some item
        → is_used_by (meanings.Calls mode) item ≡ true → Names mode k item → Suits_by mode k item
    calls_suit d mode k (Classref class) is e named = cc
    calls_suit d mode k (InstanceFieldref class token) is e named = cc
    calls_suit d mode k (StaticFieldref member) is e named = cc
    calls_suit d Virtual k (VirtualMethodref class token) is e named = d.virtual_suits k class token is
    calls_suit d Special k (VirtualMethodref class token) is e named = cc
    calls_suit d Static k (VirtualMethodref class token) is e named = cc
    calls_suit d Special k (SuperMethodref class token) is e named = d.super_suits k class token is named
    calls_suit d Virtual k (SuperMethodref class token) is e named = cc
    calls_suit d Static k (SuperMethodref class token) is e named = cc
    calls_suit d mode k (StaticMethodref r) is e named = fixed_suits mode k r is e named
