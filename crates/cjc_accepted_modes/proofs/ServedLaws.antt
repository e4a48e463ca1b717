-- Instructions of methods in int mode of a package by modes: what each names in the components is what the class file
-- names.
use Rattle.std.proofs.Common.{◌≡◌, ℕ, ◌<◌, ◌^◌, refl, sym, ap, subst, ◌∙◌, Bool, true, false, List, [], ◌∷◌, length}
use Rattle.std.specs.Prelude.{◌==◌, ◌||◌, ℤ, Option, Some, None, option_and_then, slice_get, if◌then◌else◌}
use Rattle.std.proofs.lemmas.Bool.{eqb-true}
use Rattle.cjc_types.specs.Bytecode.declared.insn.JInsn.{JInsn}
use Rattle.cjc_types.specs.Bytecode.declared.insn.JOp.{JOp}
use Rattle.cjc_types.specs.Bytecode.declared.insn.JOp.TheVariants as jop
use Rattle.cjc_types.specs.Bytecode.declared.method_code.MethodCode.{MethodCode}
use Rattle.cjc_types.specs.Bytes.AccessFlags.{is_interface, is_private}
use Rattle.cjc_types.specs.Bytes.declared.fault.MemberId.{MemberId}
use Rattle.cjc_types.specs.ClassFile.declared.tree.ClassTree.{ClassTree}
use Rattle.cjc_types.specs.Fixpoint.Tables.{HasRow}
use Rattle.cjc_types.specs.Flow.{Body}
use Rattle.cjc_types.specs.Rules.{receiver_class}
use Rattle.cjc_types.specs.Types.{parts}
use Rattle.cjc_types.specs.declared.state.State.{State}
use Rattle.cjc_ncode.proofs.BytecodeDecoded.{decoded_instruction}
use Rattle.cjc_ncode.specs.Written.{Resolution, call_by, static_access, type_test}
use Rattle.cjc_ncode.specs.IntCode.IntCode.{Before, narrowed, static_get}
use Rattle.cjc_ncode.specs.declared.narrow.NInsn.TheVariants as insns
use Rattle.cjc_verified_proof.specs.Bytecode.ReadLaws.Instructions.{IsInstruction, has_opcode}
use Rattle.cjc_verified_proof.specs.Components.Names.{class_ref, names, virtual_token}
use Rattle.cjc_verified_proof.specs.Components.Package.{Package, world}
use Rattle.cjc_verified_proof.specs.JvmSemantics.OnePackage.{is_constructor, method_hit, of_class}
use Rattle.cjc_verified_proof.specs.List.Listed.{ListTree}
use Rattle.cjc_verified_proof.specs.NCode.Lowering.Naming.{Holds}
use Rattle.cjc_verified_proof.specs.NCode.declared.narrow.PoolKey.{PoolKey}
use Rattle.cjc_verified_proof.specs.NCode.declared.narrow.PoolKey.TheVariants as keys
use Rattle.cjc_verified_proof.specs.Narrow.Rows.Resolved.{constant_named, method_found, resolution, resolved_field}
use Rattle.cjc_verified_proof.specs.Narrow.Rows.Resolved.{resolved_method, special_by, virtual_by}
use Rattle.cjc_verified_proof.specs.Script.Sorts.{Booleans, Bytes, Ints, OfClass, OfNumbers, OfReferences, Shape}
use Rattle.cjc_verified_proof.specs.Script.Sorts.{Shorts, field_sort, shape_named, signature_of}
use Rattle.cjc_verified_proof.specs.TokenProof.Components.Methods.{HasMethods}
use Rattle.cjc_verified_proof.specs.TokenProof.Tables.Loading.{naming}
use Rattle.cjc_verified_proof.specs.TokenProof.WrittenCalls.Calls.{ExportsKeep}
use Rattle.cjc_verified_proof.specs.Verify.Described.{described_spots}
use Rattle.cjc_verified_proof.specs.Verify.Named.{holder_of, names_abstract_above}
use Rattle.cjc_verified_proof.specs.Verify.Pairs.{Pair}
use Rattle.cjc_verified_proof.specs.World.Classes.{Class, class_named}
use Rattle.cjc_verified_proof.specs.World.Order.{class_order, methods_of_class}
use Rattle.cjc_verified_proof.specs.World.declared.found.Found.{Found}
use Rattle.cjc_verified_proof.proofs.BytesBools.{or_right}
use Rattle.cjc_verified_proof.proofs.TokenProofWrittenCallsFacts.{Facts}
use Rattle.cjc_check_proof.specs.Classes.Premises.{TypesAreKnown}
use Rattle.cjc_accepted_proof.specs.Subset.Types.{is_unsupported_desc, is_unsupported_name, is_unsupported_number}
use Rattle.cjc_accepted_proof.specs.Subset.Types.{names_unsupported}
use Rattle.cjc_narrow_proof.specs.Laws.Unbroken.{IsInsnOf, KeepsNames}
use Rattle.cjc_narrow_proof.specs.Tables.Arrays.{arraylength}
use Rattle.cjc_narrow_proof.specs.Tables.Names.{IsDesc}
use Rattle.cjc_narrow_proof.specs.Tables.Supported as plain
use Rattle.cjc_narrow_proof.proofs.LawsLaws.Casts.{cast_there, test_there}
use Rattle.cjc_narrow_proof.proofs.LawsLaws.Instructions.{op_fit}
use Rattle.cjc_narrow_proof.proofs.SelectedLaws.Cuts.{decoded as is_decoded}
use Rattle.cjc_verify.specs.ClassTypes.{class_type}
use Rattle.cjc_verify.specs.Frames.declared.acts.Need.TheVariants.{OfType}
use Rattle.cjc_int_components.specs.Modes.{Tables}
use Rattle.cjc_accepted_proof.proofs.CardedLaws.{on_card}
use Rattle.cjc_accepted_proof.specs.Carded.{EntriesAreNamed}
use Rattle.cjc_accepted_proof.specs.Coded.{card_type, is_of}
use Rattle.cjc_accepted_proof.specs.Frames.{PassesFor, SubtypesAgree}
use Rattle.cjc_accepted_proof.specs.Served.{entry_for, type_for}
use Rattle.cjc_accepted_proof.specs.Written.{written_pair}
use Rattle.cjc_int_accepted.specs.Named as names_by
use Rattle.cjc_int_accepted.specs.Served.{CallServed, IsServed}
use Rattle.cjc_int_accepted.specs.Served as serves
use Rattle.cjc_shape_proof.proofs.FindsLaws.Descs.{read_of}
use Rattle.cjc_shape_proof.proofs.WrittenLaws.Checked.{are_spelt, own_names, read_files}
use Rattle.cjc_shape_proof.specs.Written.Checked.{IsOfFiles}
use Rattle.cjc_theorem.proofs.AlikeLaws.MetLaws.KeySources.{Calls_method, IsMet, called}
use Rattle.cjc_theorem.proofs.WholeRuns.Operations.{arith_plain, if_plain, load_is, narrow_plain, one_of, return_is}
use Rattle.cjc_theorem.proofs.WholeRuns.Operations.{stack_plain, store_is}
use Rattle.cjc_theorem.specs.LowerJudge.Rules.{settings_of}
use Rattle.cjc_accepted_theorem.specs.Begins.{Begins}
use Rattle.cjc_accepted_theorem.specs.ExportsHaveCode.{ExportsHaveCode}
use Rattle.cjc_accepted_theorem.specs.NamesDesc.{NamesItsDesc}
use Rattle.cjc_accepted_theorem.proofs.FixedLaws as fixed
use Rattle.cjc_accepted_theorem.proofs.InterfaceLaws.{call_words, interface_entry}
use Rattle.cjc_accepted_theorem.proofs.MembersLaws.{field_entry, static_entry}
use Rattle.cjc_accepted_theorem.proofs.SentLaws.{desc_of_call, sent_entry}
use Rattle.cjc_accepted_theorem.proofs.TypedLaws.{EntrySays, desc_typed, method_signature, sorts_on_card, typed_as}
use Rattle.cjc_accepted_theorem.proofs.TypesLaws.{array_entry, constant_read, new_entry, numbers_typed, type_served}
use Rattle.cjc_accepted_modes.specs.InIntMode.{IntMethod, IsInIntMode, body_by_name, names_in, types_in}
use Rattle.cjc_accepted_modes.proofs.NamedLaws.{Holding, NamesKey, call_key, frame, held, key_behind, key_in_front}
use Rattle.cjc_accepted_modes.proofs.NamedLaws.{text}
use Rattle.cjc_accepted_modes.proofs.TypedLaws.{AreTypes, entry_types, field_typed, method_typed}

-- the class that a test names is the key of what is written for it
test_key : (op : ℕ) (kind : Shape (List ℕ)) (number : ℕ) (c : List ℕ) → type_test 0x94 (Some kind)
    ≡ insns.TypeTest 0x94 number (Some c) ∷ [] → NamesKey (type_test op (Some kind)) (keys.Class c)
test_key op (OfClass class) number c e = let same : class ≡ c = cc in (0, _, refl, ap (λ v. keys.Class v ∷ []) same)
test_key op (OfReferences class) number c e = let same : class ≡ c = cc in (
  0,
  _,
  refl,
  ap (λ v. keys.Class v ∷ []) same,
)
test_key op (OfNumbers Booleans) number c e = absurd cc
test_key op (OfNumbers Bytes) number c e = absurd cc
test_key op (OfNumbers Shorts) number c e = absurd cc
test_key op (OfNumbers Ints) number c e = absurd cc

module _ (list : ListTree) (codes : List MethodCode) (p : Package) (is : IsOfFiles list codes p)
    (subtypes : SubtypesAgree (card_type p) (is_of p) (world p)) (described : described_spots (written_pair p) ≡ [])
    (named : EntriesAreNamed p) (known : TypesAreKnown p)
    (met : (key : PoolKey) → IsMet p.files codes key → NamesItsDesc p key) (has : HasMethods p) (facts : Facts p)
    (begin : (k : ℕ) (d : Class) → slice_get (class_order (world p)) k ≡ Some d → is_interface d.flags ≡ false
    → (j : ℕ) (f : Found) → slice_get (methods_of_class (world p) d) j ≡ Some f → Begins p d f)
    (coded : ExportsHaveCode p) (keep : ExportsKeep p) where
  abbrev w : List Class
  w = world p

  abbrev q : Pair
  q = written_pair p

  abbrev u : KeepsNames list.name p.files codes (settings_of list)
  u = own_names list codes p is.checked

  -- what the entry of a method above a class says that calls it
  abbrev pub SaysAbove : ClassTree → MemberId → Type 0
  SaysAbove class id = (names_abstract_above q (class_ref p class.name) (virtual_token p (of_class class.name id))
      ≡ false) × EntrySays p (keys.Super (of_class class.name id)) id.desc
      × ((b : Body) → b.class ≡ class.name → PassesFor (card_type p) (is_of p) w (receiver_class w
      b 0xB7 id) (class_type (class_ref p class.name)))

  -- the flags of what a call names
  abbrev pub flags_of : (class : ClassTree) (op : ℕ) (id : MemberId) → Calls_method list codes p is class op id → ℕ
  flags_of class op id n = let a = n.at in let x = a.member in x.flags

  module _ (above : (class : ClassTree) (id : MemberId) (of : IsInsnOf p.files codes class (jop.Call 0xB7 id))
      → is_interface class.flags ≡ false → (is_constructor id.name || is_private (flags_of class 0xB7 id (called list
      codes p is class 0xB7 id of))) ≡ false → Holds (naming p) (keys.Super (of_class class.name id))
      → SaysAbove class id) (t : Tables) (m : IntMethod) (k : ℕ) (b : IsInIntMode p t m codes k) where
    abbrev r : Resolution
    r = names_in p m

    abbrev Served : JOp → Type 0
    Served op = IsServed (card_type p) (is_of p) w q (names p) (names_in p m) (body_by_name m) op

    abbrev Call : (opcode : ℕ) → MemberId → Type 0
    Call opcode id = CallServed (card_type p) (is_of p) w q (names p) (names_in p m) (body_by_name m) opcode id

    -- the pool holds what is named in what is written for an instruction
    abbrev Kept : JOp → Type 0
    Kept op = (before : Before) × (here : ℕ) × Holding p t m (text p t m before here op)

    -- ---- fields

    static_key : (put : Bool) (id : MemberId) (before : Before) (here : ℕ) → r.constant id ≡ None
        → NamesKey (text p t m before here (jop.Static put id)) (keys.StaticField (r.field id))
    static_key true id before here none = key_behind (narrowed (field_sort id.desc)) (insns.Named (static_access true
        (field_sort id.desc)) (keys.StaticField (r.field id)) ∷ []) (keys.StaticField (r.field id)) (0, _, refl, refl)
    static_key false id before here none = subst (λ (o : Option ℤ). NamesKey (static_get r id o) (keys.StaticField
        (r.field id))) (sym none) (0, _, refl, refl)

    field_key : (put : Bool) (id : MemberId) (before : Before) (here : ℕ)
        → NamesKey (text p t m before here (jop.Field put id)) (keys.Field (r.field id))
    field_key true id before here = key_behind (narrowed (field_sort id.desc)) _ (keys.Field (r.field id)) (
      0,
      _,
      refl,
      refl,
    )
    field_key false id before here = (0, _, refl, refl)

    static_served : (put : Bool) (id : MemberId) → IsInsnOf p.files codes m.class (jop.Static put id)
        → Kept (jop.Static put id) → Served (jop.Static put id)
    unfolding resolution
    static_served put id of kept = by (constant_named p.files w id) refl
      where
        by : (o : Option ℤ) → constant_named p.files w id ≡ o → Served (jop.Static put id)
        by (Some z) e =
            let c = constant_read list codes p is m.class put id of z e in
            subst (λ (v : Bool). Served (jop.Static v id)) (sym c.0) (serves.a_constant z e c.1)
        by None e =
            let key = keys.StaticField (resolved_field w id) in
            let holds = kept.2 key (static_key put id kept.0 kept.1 e) in
            let s = static_entry list codes p is subtypes described named known met m.class put id of e holds in
            let y = field_typed p key id.desc s.says s.is_desc s.is_field in
            serves.a_static put (record {
              named = record {
                is_no_constant = e;
                field = s.field;
                entry = s.entry;
                moved = y.moved;
                inside = s.inside;
              };
              typed = y.typed;
              is_value = y.is_value;
            })

    field_served : (put : Bool) (id : MemberId) → IsInsnOf p.files codes m.class (jop.Field put id)
        → Kept (jop.Field put id) → Served (jop.Field put id)
    unfolding resolution
    field_served put id of kept =
        let key = keys.Field (resolved_field w id) in
        let holds = kept.2 key (field_key put id kept.0 kept.1) in
        let s = field_entry list codes p is subtypes described named known met m.class put id of holds in
        let y = field_typed p key id.desc s.says s.is_desc s.is_field in
        serves.a_field put (record {
          class = s.class;
          named = record { token = s.token; entry = s.entry; moved = y.moved; inside = s.inside };
          receiver = s.receiver;
          typed = y.typed;
          is_value = y.is_value;
        })

    -- ---- calls

    -- a method that is called, of the descriptor that the class file says
    desc_is : (op : ℕ) (id : MemberId) → IsInsnOf p.files codes m.class (jop.Call op id) → IsDesc id.desc
        × ((let d = parts id.desc in d.is_method) ≡ true) × (length id.desc < 2 ^ 32)
    desc_is op id of = desc_of_call list codes p is subtypes described named known met m.class op id of

    -- what its entry says of its types
    types_are : (op : ℕ) (id : MemberId) → IsInsnOf p.files codes m.class (jop.Call op id) → (key : PoolKey)
        → EntrySays p key id.desc → AreTypes p id.desc (type_for q (names p) key)
    types_are op id of key says = let d = desc_is op id of in entry_types p id.desc d.0 d.1 key says

    call_held : (op : ℕ) (id : MemberId) → Kept (jop.Call op id) → (key : PoolKey) → NamesKey (call_by r op id) key
        → Holds (naming p) key
    call_held op id kept key n = kept.2 key (call_key (frame p t m) r op id (signature_of id.desc) key n)

    sent_served : (id : MemberId) → IsInsnOf p.files codes m.class (jop.Call 0xB6 id) → Kept (jop.Call 0xB6 id)
        → Call 0xB6 id
    unfolding resolution
    sent_served id of kept =
        let v = virtual_by w id (class_named w id.class) in
        let key = keys.Virtual v in
        let holds = call_held 0xB6 id kept key (0, _, refl, refl) in
        let s = sent_entry list codes p is subtypes described named known met m.class id of holds in
        let d = desc_is 0xB6 id of in
        let y = types_are 0xB6 id of key s.says in
        record {
          type = type_for q (names p) key;
          receiver = OfType (class_type (class_ref p v.class)) ∷ [];
          named = names_by.sent (class_ref p v.class) (virtual_token p v) s.entry;
          is_desc = d.0;
          is_method = d.1;
          params = y.params;
          result = y.result;
          received = s.passes;
        }

    static_call_served : (id : MemberId) → IsInsnOf p.files codes m.class (jop.Call 0xB8 id) → Kept (jop.Call 0xB8 id)
        → Call 0xB8 id
    unfolding resolution
    static_call_served id of kept =
        let key = keys.StaticMethod (resolved_method w id) in
        let holds = call_held 0xB8 id kept key (0, _, refl, refl) in
        let s = fixed.static_entry list codes p is subtypes described named known met has facts begin coded m.class id
        of holds in
        let d = desc_is 0xB8 id of in
        let y = types_are 0xB8 id of key s.says in
        record {
          type = type_for q (names p) key;
          receiver = [];
          named = names_by.static s.method s.entry s.right;
          is_desc = d.0;
          is_method = d.1;
          params = y.params;
          result = y.result;
          received = tt;
        }

    special_served : (id : MemberId) → IsInsnOf p.files codes m.class (jop.Call 0xB7 id) → Kept (jop.Call 0xB7 id)
        → Call 0xB7 id
    unfolding resolution
    special_served id of kept = by (is_constructor id.name || is_private flags) refl
      where
        n : Calls_method list codes p is m.class 0xB7 id
        n = called list codes p is m.class 0xB7 id of

        flags : ℕ
        flags = flags_of m.class 0xB7 id n

        super : MemberId
        super = of_class (let c = m.class in c.name) id

        own : MemberId
        own = of_class (let d = n.owner in d.name) id

        holds : Holds (naming p) (special_by (let c = m.class in c.name) id (method_found w id))
        holds = call_held 0xB7 id kept (special_by (let c = m.class in c.name) id (method_found w id)) (
          0,
          _,
          refl,
          refl,
        )

        key : (v : Bool) → (is_constructor id.name || is_private flags) ≡ v → special_by (let c = m.class in c.name) id
            (method_found w id) ≡ (if v then keys.StaticMethod own else keys.Super super)
        key v e =
            ap (special_by (let c = m.class in c.name) id) (ap (option_and_then (method_hit w)) n.found ∙ n.hit)
            ∙ ap (λ a. if a then keys.StaticMethod own else keys.Super super) e

        d : IsDesc id.desc × ((let d = parts id.desc in d.is_method) ≡ true)
            × (length id.desc < 2 ^ 32)
        d = desc_is 0xB7 id of

        by : (v : Bool) → (is_constructor id.name || is_private flags) ≡ v → Call 0xB7 id
        by true e =
            let s = fixed.fixed_entry list codes p is subtypes described named known met has facts begin coded m.class
            id n e (subst (λ (x : PoolKey). Holds (naming p) x) (key true e) holds) in
            let y = subst (λ (x : PoolKey). AreTypes p id.desc (type_for q (names p) x)) (sym (key true e))
            (types_are 0xB7 id of (keys.StaticMethod own) s.says) in
            record {
              type = type_for q (names p) (r.special id);
              receiver = OfType (holder_of q s.method) ∷ [];
              named = names_by.fixed s.method (ap (entry_for q (names p)) (key true e) ∙ s.entry) s.right;
              is_desc = d.0;
              is_method = d.1;
              params = y.params;
              result = y.result;
              received = subst (λ c. PassesFor (card_type p) (is_of p) w c (holder_of q s.method))
                  (sym (fixed.receiver_itself list codes p is subtypes described named known met has facts begin coded
                  (body_by_name m) m.class id n e)) s.passes;
            }
        by false e =
            let held_there = subst (λ (x : PoolKey). Holds (naming p) x) (key false e) holds in
            let s = above m.class id of b.no_interface e held_there in
            let y = subst (λ (x : PoolKey). AreTypes p id.desc (type_for q (names p) x)) (sym (key false e))
            (types_are 0xB7 id of (keys.Super super) s.1) in
            record {
              type = type_for q (names p) (r.special id);
              receiver = OfType (class_type (class_ref p (let c = m.class in c.name))) ∷ [];
              named = names_by.above (class_ref p (let c = m.class in c.name)) (virtual_token p super)
                  (ap (entry_for q (names p)) (key false e) ∙ held_there.there) s.0;
              is_desc = d.0;
              is_method = d.1;
              params = y.params;
              result = y.result;
              received = s.2 (body_by_name m) refl;
            }

    interface_served : (id : MemberId) → IsInsnOf p.files codes m.class (jop.Call 0xB9 id) → Kept (jop.Call 0xB9 id)
        → Call 0xB9 id
    unfolding resolution names_unsupported
    interface_served id of kept =
        let key = keys.Class (let g = resolved_method w id in g.class) in
        let holds = call_held 0xB9 id kept key (0, _, refl, refl) in
        let s = interface_entry list codes p is subtypes facts keep m.class id of holds in
        let d = desc_is 0xB9 id of in
        let fit = op_fit list.name p.files codes (settings_of list) u m.class (jop.Call 0xB9 id) of in
        let sig = method_signature p id.desc d.0 d.1 in
        let on = sorts_on_card p id.desc sig (on_card id.desc (parts id.desc) d.2 d.0 (or_right (is_unsupported_name
        id.class) (is_unsupported_desc id.desc) fit.0)) in
        let y = method_typed p id.desc d.0 d.1 on s.known in
        record {
          type = typed_as p id.desc;
          receiver = OfType (class_type (class_ref p (let g = resolved_method w id in g.class))) ∷ [];
          named = names_by.by_interface (class_ref p (let g = resolved_method w id in g.class)) (typed_as p id.desc)
              s.entry (s.type_is ∙ desc_typed p id.desc sig on) (call_words list codes p is subtypes facts keep id sig
              on);
          is_desc = d.0;
          is_method = d.1;
          params = y.params;
          result = y.result;
          received = s.passes;
        }

    call_served : (op : ℕ) (id : MemberId) → has_opcode (jop.Call op id) ≡ true
        → IsInsnOf p.files codes m.class (jop.Call op id) → Kept (jop.Call op id) → Call op id
    call_served op id e = one_of (λ v. IsInsnOf p.files codes m.class (jop.Call v id) → Kept (jop.Call v id) → Call v
        id) op (0xB6 ∷ 0xB7 ∷ 0xB8 ∷ 0xB9 ∷ []) (
          (λ of kept. sent_served id of kept),
          (
            (λ of kept. special_served id of kept),
            ((λ of kept. static_call_served id of kept), ((λ of kept. interface_served id of kept), tt)),
          ),
        ) e

    -- ---- elements

    load_served : (n : ℕ) → has_opcode (jop.ArrayLoad n) ≡ true → Served (jop.ArrayLoad n)
    load_served n e = by (n == 0x2E) refl
      where
        by : (v : Bool) → (n == 0x2E) ≡ v → Served (jop.ArrayLoad n)
        by true same = subst (λ k. Served (jop.ArrayLoad k)) (sym (eqb-true n 0x2E same)) serves.loads_int
        by false other = serves.on_array (load_is n e other)

    store_served : (n : ℕ) → has_opcode (jop.ArrayStore n) ≡ true → Served (jop.ArrayStore n)
    store_served n e = by (n == 0x4F) refl
      where
        by : (v : Bool) → (n == 0x4F) ≡ v → Served (jop.ArrayStore n)
        by true same = subst (λ k. Served (jop.ArrayStore k)) (sym (eqb-true n 0x4F same)) serves.stores_int
        by false other = serves.on_array (store_is n e other)

    -- 301
    numbers_served : (n : ℕ) → IsInstruction (jop.NewArray n) → is_unsupported_number n ≡ false
        → Served (jop.NewArray n)
    numbers_served n h =
        let y = numbers_typed p in
        one_of (λ k. is_unsupported_number k ≡ false → Served (jop.NewArray k)) n (4 ∷ 5 ∷ 6 ∷ 7 ∷ 8 ∷ 9 ∷ 10 ∷ 11 ∷ []) (
          (λ f. serves.an_array_of_numbers (10 ∷ []) refl y.0),
          (
            (λ f. absurd cc),
            (
              (λ f. absurd cc),
              (
                (λ f. absurd cc),
                (
                  (λ f. serves.an_array_of_numbers (11 ∷ []) refl y.1),
                  (
                    (λ f. serves.an_array_of_numbers (12 ∷ []) refl y.2),
                    ((λ f. serves.an_array_of_numbers (13 ∷ []) refl y.3), ((λ f. absurd cc), tt)),
                  ),
                ),
              ),
            ),
          ),
        )
        h.numbers

    -- ---- any

    op_served : (op : JOp) → IsInsnOf p.files codes m.class op → IsInstruction op → Kept op → Served op
    unfolding names_unsupported
    op_served jop.Nop of h kept = serves.plain plain.nop
    op_served jop.Null of h kept = serves.plain plain.aconst_null
    op_served (jop.Number z) of h kept = serves.plain (plain.number h.numbers)
    op_served (jop.Load false l) of h kept = serves.plain plain.iload
    op_served (jop.Load true l) of h kept = serves.plain plain.aload
    op_served (jop.Store false l) of h kept = serves.plain plain.istore
    op_served (jop.Store true l) of h kept = serves.plain plain.astore
    op_served (jop.ArrayLoad n) of h kept = load_served n h.opcode
    op_served (jop.ArrayStore n) of h kept = store_served n h.opcode
    op_served (jop.Stack n) of h kept = serves.plain (stack_plain n h.opcode)
    op_served (jop.Arith n) of h kept = serves.plain (arith_plain n h.opcode)
    op_served (jop.Inc l z) of h kept = serves.plain (plain.iinc h.numbers)
    op_served (jop.Narrow n) of h kept = serves.plain (narrow_plain n h.opcode)
    op_served (jop.If n target) of h kept = serves.plain (if_plain n target h.opcode)
    op_served (jop.Goto target) of h kept = serves.plain plain.goto
    op_served (jop.TableSwitch other low targets) of h kept = serves.plain plain.tableswitch
    op_served (jop.LookupSwitch other cases) of h kept = serves.plain plain.lookupswitch
    op_served (jop.Return n) of h kept = serves.returns (return_is n h.opcode)
    op_served (jop.Static put id) of h kept = static_served put id of kept
    op_served (jop.Field put id) of h kept = field_served put id of kept
    op_served (jop.Call op id) of h kept = serves.a_call (call_served op id h.opcode of kept)
    op_served (jop.New name) of h kept =
        let made = new_entry list codes p is m.class name of (kept.2 (keys.Class name) (0, _, refl, refl)) in
        serves.an_object (class_ref p name) made.0 made.1 made.2
    op_served (jop.NewArray n) of h kept = numbers_served n h (op_fit list.name p.files codes (settings_of list) u
        m.class (jop.NewArray n) of).0
    op_served (jop.ANewArray name) of h kept =
        let made = array_entry list codes p is m.class name of (kept.2 (keys.Class name) (1, _, refl, refl)) in
        serves.an_array (class_ref p name) made.0 made.1
    op_served jop.ArrayLength of h kept = serves.on_array arraylength
    op_served jop.Throw of h kept = serves.throws
    op_served (jop.CheckCast name) of h kept =
        let c = cast_there list.name p.files codes (settings_of list) u (are_spelt list codes p is.checked) m.class name
        of in
        serves.a_cast (type_served p r name c.0 c.1 c.2 (λ number x e. kept.2 (keys.Class x) (subst (λ o.
        NamesKey (type_test 0x94 o) (keys.Class x)) (sym c.1) (test_key 0x94 c.0 number x e))))
    op_served (jop.InstanceOf name) of h kept =
        let c = test_there list.name p.files codes (settings_of list) u (are_spelt list codes p is.checked) m.class name
        of in
        serves.a_test (type_served p r name c.0 c.1 c.2 (λ number x e. kept.2 (keys.Class x)
        (key_in_front (type_test 0x95 (shape_named name)) _ (keys.Class x) (subst (λ o. NamesKey (type_test 0x95 o)
        (keys.Class x)) (sym c.1) (test_key 0x95 c.0 number x e)))))

    -- a reached instruction
    pub served_at : (at : ℕ) (i : JInsn) (x : State) → (let code = m.code in slice_get code.insns at ≡ Some i)
        → HasRow (types_in t m) at x → Served i.op
    served_at at i x here row =
        let code = m.code in
        let of = b.is_method in
        let file = read_of p.files (read_files list codes p is.checked) code.class m.class of.is_class in
        let fit = decoded_instruction m.class m.method m.tree code.insns (is_decoded p.files code m.class m.method
        m.tree of) file.integers (file.bytes code.method m.method m.tree of.is_method of.is_code) at i here in
        op_served i.op (record {
          code = code;
          method = m.method;
          tree = m.tree;
          of_package = of;
          written = b.plain;
          listed = b.listed;
          place = at;
          insn = i;
          is_insn = here;
          is_op = refl;
        }) fit (held p t m codes k b at i x here row)
