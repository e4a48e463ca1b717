-- Instructions of a converted package's methods: what each names in the components is what the class file names.
use Rattle.std.proofs.Common.{◌≡◌, ℕ, zero, suc, refl, sym, ap, subst, ◌∙◌, Bool, true, false, List, [], ◌∷◌, ℤ}
use Rattle.std.specs.Prelude.{◌||◌, ◌==◌, not, Option, Some, None}
use Rattle.std.specs.Prelude.{slice_get, if◌then◌else◌}
use Rattle.cjc_verified_proof.specs.Bytecode.declared.insn.JInsn.{JInsn}
use Rattle.cjc_verified_proof.specs.Bytecode.declared.insn.JOp.{JOp}
use Rattle.cjc_verified_proof.specs.Bytecode.declared.insn.JOp.TheVariants as jop
use Rattle.cjc_verified_proof.specs.Bytecode.declared.method_code.MethodCode.{MethodCode}
use Rattle.cjc_verified_proof.specs.Bytes.AccessFlags.{is_interface, is_private}
use Rattle.cjc_verified_proof.specs.Bytes.declared.fault.MemberId.{MemberId}
use Rattle.cjc_verified_proof.specs.ClassFile.declared.tree.ClassTree.{ClassTree}
use Rattle.cjc_verified_proof.specs.Components.Names.{class_ref, names, virtual_token}
use Rattle.cjc_verified_proof.specs.Components.Package.{Package, world}
use Rattle.cjc_verified_proof.specs.JvmSemantics.OnePackage.{is_constructor, of_class}
use Rattle.cjc_verified_proof.specs.List.Listed.{ListTree}
use Rattle.cjc_verified_proof.specs.NCode.Lowering.Naming.{Holds}
use Rattle.cjc_verified_proof.specs.NCode.declared.narrow.NInsn.{NInsn}
use Rattle.cjc_verified_proof.specs.NCode.declared.narrow.NInsn.TheVariants as insns
use Rattle.cjc_verified_proof.specs.NCode.declared.narrow.PoolKey.{PoolKey}
use Rattle.cjc_verified_proof.specs.NCode.declared.narrow.PoolKey.TheVariants as keys
use Rattle.cjc_verified_proof.specs.NCode.PoolOrder.{insn_keys}
use Rattle.cjc_verified_proof.specs.Narrow.Rows.Resolved.{constant_named, method_found, resolution, resolved_field}
use Rattle.cjc_verified_proof.specs.Narrow.Rows.Resolved.{resolved_method, special_by, virtual_by}
use Rattle.cjc_narrow.specs.Pairs.Roles.{with_pairs}
use Rattle.cjc_verified_proof.specs.Script.Sorts.{Booleans, Bytes, Ints, OfClass, OfNumbers, OfReferences, Shape}
use Rattle.cjc_verified_proof.specs.Script.Sorts.{Shorts}
use Rattle.cjc_verified_proof.specs.Script.Sorts.{field_sort}
use Rattle.cjc_verified_proof.specs.TokenProof.Components.Methods.{HasMethods}
use Rattle.cjc_verified_proof.specs.TokenProof.Tables.Loading.{naming}
use Rattle.cjc_verified_proof.specs.TokenProof.WrittenCalls.Calls.{ExportsKeep}
use Rattle.cjc_verified_proof.proofs.TokenProofWrittenCallsFacts.{Facts}
use Rattle.cjc_verified_proof.specs.Verify.Described.{described_spots}
use Rattle.cjc_verified_proof.specs.Verify.Named.{holder_of}
use Rattle.cjc_verified_proof.specs.Verify.Pairs.{Pair}
use Rattle.cjc_verified_proof.specs.World.Classes.{Class, class_named}
use Rattle.cjc_verified_proof.specs.World.Order.{class_order, methods_of_class}
use Rattle.cjc_verified_proof.specs.World.declared.found.Found.{Found}
use Rattle.cjc_check_proof.specs.Classes.Premises.{TypesAreKnown}
use Rattle.cjc_check_proof.specs.Types.declared.state.State.{State}
use Rattle.cjc_check_proof.specs.Types.Flow.{Body}
use Rattle.cjc_check_proof.specs.Fixpoint.Tables.{HasRow}
use Rattle.cjc_ncode.specs.Written.{Access, Resolution, accessed, is_load, on_this, reached, static_by, this_access}
use Rattle.cjc_ncode.specs.Written.{type_test, written, written_as, written_for}
use Rattle.cjc_ncode.proofs.WrittenCases.{written_cases}
use Rattle.cjc_ncode.specs.declared.narrow.PairRole.{PairRole}
use Rattle.cjc_ncode.proofs.BytecodeDecoded.{decoded_instruction}
use Rattle.cjc_token_proof.specs.Subset.Ints.{code_works_on_int, works_on_int}
use Rattle.cjc_token_proof.specs.Subset.Types.{is_unsupported_number, names_unsupported}
use Rattle.cjc_narrow_proof.specs.Laws.Unbroken.{IsInsnOf, KeepsNames}
use Rattle.cjc_narrow_proof.specs.Tables.Arrays.{arraylength}
use Rattle.cjc_narrow_proof.specs.Tables.Supported as plain
use Rattle.cjc_narrow_proof.proofs.LawsLaws.Casts.{cast_there, test_there}
use Rattle.cjc_narrow_proof.proofs.LawsLaws.Instructions.{op_fit}
use Rattle.cjc_narrow_proof.proofs.SelectedLaws.Cuts.{decoded as is_decoded}
use Rattle.cjc_narrow_proof.proofs.SelectedLaws.IntFree.{insn_free}
use Rattle.cjc_verified_proof.specs.Bytecode.ReadLaws.Instructions.{IsInstruction, has_opcode}
use Rattle.cjc_shape_proof.proofs.FindsLaws.Descs.{read_of}
use Rattle.cjc_shape_proof.proofs.WrittenLaws.Coded.{plain_here}
use Rattle.cjc_accepted_proof.specs.Beside.{Beside, IsBeside, body_by_name, label_in, names_in, reached_in}
use Rattle.cjc_accepted_proof.specs.Carded.{EntriesAreNamed}
use Rattle.cjc_accepted_proof.specs.Coded.{card_type, is_of}
use Rattle.cjc_accepted_proof.specs.Frames.{MethodFits, PassesFor, SubtypesAgree}
use Rattle.cjc_accepted_proof.specs.Served.{CallServed, IsServed}
use Rattle.cjc_accepted_proof.specs.Served as serves
use Rattle.cjc_accepted_proof.specs.Written.{written_pair}
use Rattle.cjc_theorem.proofs.AlikeLaws.MetLaws.KeySources.{Calls_method, IsMet, called}
use Rattle.cjc_theorem.proofs.AlikeLaws.NamedLaws.Means.{insn_held}
use Rattle.cjc_theorem.proofs.WholeRuns.Operations.{arith_plain, if_plain, load_is, narrow_plain, one_of, return_is}
use Rattle.cjc_theorem.proofs.WholeRuns.Operations.{stack_plain, store_is}
use Rattle.cjc_theorem.specs.LowerJudge.Rules.{settings_of}
use Rattle.cjc_shape_proof.proofs.WrittenLaws.Checked.{are_spelt, own_names, read_files}
use Rattle.cjc_theorem.specs.ShapeProof.Written.Checked.{IsOfFiles}
use Rattle.cjc_accepted_theorem.specs.Begins.{Begins}
use Rattle.cjc_accepted_theorem.specs.ExportsHaveCode.{ExportsHaveCode}
use Rattle.cjc_accepted_theorem.specs.NamesDesc.{NamesItsDesc}
use Rattle.cjc_accepted_theorem.proofs.FixedLaws as fixed
use Rattle.cjc_accepted_theorem.proofs.InterfaceLaws.{interface_at}
use Rattle.cjc_accepted_theorem.proofs.MembersLaws.{field_at, static_at}
use Rattle.cjc_accepted_theorem.proofs.SentLaws.{sent_at, word_of}
use Rattle.cjc_accepted_theorem.proofs.TypedLaws.{flat_there}
use Rattle.cjc_accepted_theorem.proofs.TypesLaws.{array_entry, constant_read, new_entry, numbers_typed, special_key}
use Rattle.cjc_accepted_theorem.proofs.TypesLaws.{type_served}

-- a reached instruction stands among those that are
pub reached_there : {A : Type 0} (insns : List JInsn) (rows : List (Option A)) (at : ℕ) (i : JInsn) (x : A)
    → slice_get insns at ≡ Some i → slice_get rows at ≡ Some (Some x) → (k : ℕ) × (slice_get (reached insns rows) k
    ≡ Some i)
reached_there [] rows at i x e f = absurd cc
reached_there (j ∷ insns) [] at i x e f = absurd cc
reached_there (j ∷ insns) (None ∷ rows) zero i x e f = absurd cc
reached_there (j ∷ insns) (Some y ∷ rows) zero i x e f = (0, e)
reached_there (j ∷ insns) (None ∷ rows) (suc at) i x e f = reached_there insns rows at i x e f
reached_there (j ∷ insns) (Some y ∷ rows) (suc at) i x e f = let r = reached_there insns rows at i x e f in (
  suc r.0,
  r.1,
)

module _ (list : ListTree) (codes : List MethodCode) (p : Package) (is : IsOfFiles list codes p)
    (subtypes : SubtypesAgree (card_type p) (is_of p) (world p)) (described : described_spots (written_pair p) ≡ [])
    (named : EntriesAreNamed p) (known : TypesAreKnown p)
    (met : (key : PoolKey) → IsMet p.files codes key → NamesItsDesc p key) (has : HasMethods p) (facts : Facts p)
    (begin : (k : ℕ) (d : Class) → slice_get (class_order (world p)) k ≡ Some d → is_interface d.flags ≡ false
    → (j : ℕ) (f : Found) → slice_get (methods_of_class (world p) d) j ≡ Some f → Begins p d f)
    (coded : ExportsHaveCode p) (keep : ExportsKeep p) where
  abbrev w : List Class
  w = world p

  abbrev q : Pair
  q = written_pair p

  abbrev u : KeepsNames list.name p.files codes (settings_of list)
  u = own_names list codes p is.checked

  module _ (m : Beside) (b : IsBeside p m codes) where
    abbrev names_of : Resolution
    names_of = names_in p m

    abbrev body : Body
    body = body_by_name m

    abbrev Served : JOp → Type 0
    Served op = IsServed (card_type p) (is_of p) w q (names p) (names_in p m) (body_by_name m) op

    -- what is written for an instruction stands in the method
    abbrev Placed : NInsn → Type 0
    Placed insn = (j : ℕ) × (let laid = m.laid in let code = laid.code in slice_get code.insns j ≡ Some insn)

    -- so the pool holds what it names
    held : (insn : NInsn) → Placed insn → (key : PoolKey) → insn_keys insn ≡ key ∷ [] → Holds (naming p) key
    held insn at key is_key = insn_held p b.number m.laid b.is_laid at.0 insn at.1 key is_key

    -- the pool holds what the one instruction names that is written for another
    abbrev Holding : JOp → Type 0
    Holding op = (insn : NInsn) → written (names_in p m) (label_in p m) op ≡ insn ∷ [] → (key : PoolKey)
        → insn_keys insn ≡ key ∷ [] → Holds (naming p) key

    -- ---- static fields

    constant_served : (class : ClassTree) (put : Bool) (id : MemberId)
        → IsInsnOf p.files codes class (jop.Static put id) → (z : ℤ) → constant_named p.files w id ≡ Some z
        → (let r = names_in p m in r.constant id) ≡ Some z → Served (jop.Static put id)
    constant_served class put id of z e f = (let s = constant_read list codes p is class put id of z e
        in subst (λ b. Served (jop.Static b id)) (sym s.0) (serves.a_constant z f s.1))

    static_served : (class : ClassTree) (put : Bool) (id : MemberId)
        → IsInsnOf p.files codes class (jop.Static put id) → works_on_int (jop.Static put id) ≡ false
        → Holding (jop.Static put id)
        → Served (jop.Static put id)
    unfolding with_pairs resolution
    static_served class put id of free holds_for = by (constant_named p.files w id) refl
      where
        by : (o : Option ℤ) → constant_named p.files w id ≡ o → Served (jop.Static put id)
        by (Some z) e = constant_served class put id of z e e
        by None e =
            let key = keys.StaticField (resolved_field w id) in
            let holds = holds_for _ (ap (static_by (names_in p m) put id) e) key refl in
            let s = static_at list codes p is subtypes described named known met class put id of free e holds in
            serves.a_static put (record {
              is_no_constant = e;
              field = s.field;
              entry = s.entry;
              fits = s.fits;
              is_value = s.is_value;
            })

    -- ---- instance fields and virtual methods

    field_served : (class : ClassTree) (put : Bool) (id : MemberId) → IsInsnOf p.files codes class (jop.Field put id)
        → works_on_int (jop.Field put id) ≡ false → Holds (naming p) (keys.Field (resolved_field w id))
        → Served (jop.Field put id)
    unfolding with_pairs resolution
    field_served class put id of free holds =
        let s = field_at list codes p is subtypes described named known met class put id of free holds in
        serves.a_field put (record {
          class = s.class;
          token = s.token;
          entry = s.entry;
          fits = s.fits;
          is_value = s.is_value;
        })

    sent_served : (class : ClassTree) (id : MemberId) → IsInsnOf p.files codes class (jop.Call 0xB6 id)
        → works_on_int (jop.Call 0xB6 id) ≡ false → Holding (jop.Call 0xB6 id)
        → CallServed (card_type p) (is_of p) w q (names p) (names_in p m) (body_by_name m) 0xB6 id
    unfolding with_pairs resolution
    sent_served class id of free holds_for =
        let v = virtual_by w id (class_named w id.class) in
        let holds = holds_for _ refl (keys.Virtual v) refl in
        let s = sent_at list codes p is subtypes described named known met class id of free holds in
        serves.sent (class_ref p v.class) (virtual_token p v) s.entry s.fits s.passes

    -- ---- classes and types

    new_served : (class : ClassTree) (name : List ℕ) → IsInsnOf p.files codes class (jop.New name)
        → Holding (jop.New name)
        → Served (jop.New name)
    new_served class name of holds_for =
        let e = new_entry list codes p is class name of (holds_for _ refl (keys.Class name) refl) in
        serves.an_object (class_ref p name) e.0 e.1 e.2

    array_served : (class : ClassTree) (name : List ℕ) → IsInsnOf p.files codes class (jop.ANewArray name)
        → Holding (jop.ANewArray name)
        → Served (jop.ANewArray name)
    array_served class name of holds_for =
        let e = array_entry list codes p is class name of (holds_for _ refl (keys.Class name) refl) in
        serves.an_array (class_ref p name) e.0 e.1

    -- 301, and what does not work on int
    numbers_served : (n : ℕ) → IsInstruction (jop.NewArray n) → is_unsupported_number n ≡ false → (n == 10) ≡ false
        → Served (jop.NewArray n)
    numbers_served n h = one_of (λ k. is_unsupported_number k ≡ false → (k == 10) ≡ false → Served (jop.NewArray k)) n
        (4 ∷ 5 ∷ 6 ∷ 7 ∷ 8 ∷ 9 ∷ 10 ∷ 11 ∷ []) (
          (λ f g. serves.an_array_of_numbers (10 ∷ []) refl (numbers_typed p).0),
          (
            (λ f g. absurd cc),
            (
              (λ f g. absurd cc),
              (
                (λ f g. absurd cc),
                (
                  (λ f g. serves.an_array_of_numbers (11 ∷ []) refl (numbers_typed p).1),
                  (
                    (λ f g. serves.an_array_of_numbers (12 ∷ []) refl (numbers_typed p).2),
                    ((λ f g. absurd cc), ((λ f g. absurd cc), tt)),
                  ),
                ),
              ),
            ),
          ),
        )
        h.numbers

    -- ---- static methods, constructors and private methods

    static_call_served : (id : MemberId) → IsInsnOf p.files codes m.class (jop.Call 0xB8 id)
        → works_on_int (jop.Call 0xB8 id) ≡ false → Holding (jop.Call 0xB8 id)
        → CallServed (card_type p) (is_of p) w q (names p) (names_in p m) (body_by_name m) 0xB8 id
    unfolding with_pairs resolution
    static_call_served id of free holds_for =
        let holds = holds_for _ refl (keys.StaticMethod (resolved_method w id)) refl in
        let s = fixed.static_at list codes p is subtypes described named known met has facts begin coded m.class id of
        free holds in
        serves.static s.method s.entry s.right s.fits

    -- what an invokespecial calls above the class that holds the code
    abbrev IsAbove : MemberId → Type 0
    IsAbove id = (n : Calls_method list codes p is m.class 0xB7 id) × ((is_constructor id.name || is_private (let
        a
        = n.at in let x = a.member in x.flags)) ≡ false)

    special_served : ((id : MemberId) → IsInsnOf p.files codes m.class (jop.Call 0xB7 id) → works_on_int (jop.Call 0xB7
        id) ≡ false → IsAbove id
        → Holds (naming p) (keys.Super (of_class (let c = m.class in c.name) id))
        → (let r = names_in p m in r.special id) ≡ keys.Super (of_class (let c = m.class in c.name) id)
        → CallServed (card_type p) (is_of p) w q (names p) (names_in p m) (body_by_name m) 0xB7 id) → (id : MemberId)
        → IsInsnOf p.files codes m.class (jop.Call 0xB7 id) → works_on_int (jop.Call 0xB7 id) ≡ false
        → Holding (jop.Call 0xB7 id)
        → CallServed (card_type p) (is_of p) w q (names p) (names_in p m) (body_by_name m) 0xB7 id
    unfolding with_pairs resolution
    special_served supers id of free holds_for = by (is_constructor id.name || is_private flags) refl
      where
        n : Calls_method list codes p is m.class 0xB7 id
        n = called list codes p is m.class 0xB7 id of

        flags : ℕ
        flags = let a = n.at in let x = a.member in x.flags

        holds : Holds (naming p) (special_by (let c = m.class in c.name) id (method_found w id))
        holds = holds_for _ refl (special_by (let c = m.class in c.name) id (method_found w id)) refl

        key : (b : Bool) → (is_constructor id.name || is_private flags) ≡ b → special_by (let c = m.class in c.name) id
            (method_found w id) ≡ (if b then keys.StaticMethod (of_class (let d = n.owner in d.name) id) else keys.Super
            (of_class (let c = m.class in c.name) id))
        key b e = special_key list codes p is m.class id n ∙ ap (λ v. if v then keys.StaticMethod (of_class (let d =
            n.owner in d.name) id) else keys.Super (of_class (let c = m.class in c.name) id)) e

        by : (b : Bool) → (is_constructor id.name || is_private flags) ≡ b → CallServed (card_type p) (is_of p) w q
            (names p) (names_in p m) (body_by_name m) 0xB7 id
        by true e =
            let s = fixed.fixed_at list codes p is subtypes described named known met has facts begin coded
            m.class id of free n e (subst (λ (k : PoolKey). Holds (naming p) k) (key true e) holds) in
            serves.fixed s.method (ap (serves.entry_for q (names p)) (key true e) ∙ s.entry) s.right (subst
            (λ (k : PoolKey). MethodFits (card_type p) id (serves.type_for q (names p) k)) (sym (key true e)) s.fits)
            (subst (λ c. PassesFor (card_type p) (is_of p) w c (holder_of q s.method)) (sym (fixed.receiver_itself list
            codes p is subtypes described named known met has facts begin coded (body_by_name m) m.class id n e))
            s.passes)
        by false e = supers id of free (n, e) (subst (λ (k : PoolKey). Holds (naming p) k) (key false e) holds)
            (key false e)

    interface_served : (id : MemberId) → IsInsnOf p.files codes m.class (jop.Call 0xB9 id)
        → works_on_int (jop.Call 0xB9 id) ≡ false
        → Holds (naming p) (keys.Class (let g = resolved_method w id in g.class))
        → CallServed (card_type p) (is_of p) w q (names p) (names_in p m) (body_by_name m) 0xB9 id
    unfolding with_pairs resolution
    interface_served id of free holds =
        let word = word_of list codes p is subtypes described named known met m.class 0xB9 id of free in
        let s = interface_at list codes p is subtypes facts keep m.class id word of holds in
        serves.by_interface (class_ref p (let g = resolved_method w id in g.class)) s.type s.entry s.typed s.words
        s.fits s.passes

    -- ---- any that does not work on int, where calls above are served

    module _ (supers : (id : MemberId) → IsInsnOf p.files codes m.class (jop.Call 0xB7 id) → works_on_int (jop.Call 0xB7
        id) ≡ false → IsAbove id
        → Holds (naming p) (keys.Super (of_class (let c = m.class in c.name) id))
        → (let r = names_in p m in r.special id) ≡ keys.Super (of_class (let c = m.class in c.name) id)
        → CallServed (card_type p) (is_of p) w q (names p) (names_in p m) (body_by_name m) 0xB7 id) where
      call_served : (op : ℕ) (id : MemberId) → has_opcode (jop.Call op id) ≡ true
          → IsInsnOf p.files codes m.class (jop.Call op id) → works_on_int (jop.Call op id) ≡ false
          → Holding (jop.Call op id)
          → CallServed (card_type p) (is_of p) w q (names p) (names_in p m) (body_by_name m) op id
      unfolding with_pairs resolution
      call_served op id e = one_of (λ k. IsInsnOf p.files codes m.class (jop.Call k id) → works_on_int (jop.Call k id)
          ≡ false → Holding (jop.Call k id)
          → CallServed (card_type p) (is_of p) w q (names p) (names_in p m) (body_by_name m) k id) op (0xB6 ∷ 0xB7 ∷
          0xB8
          ∷ 0xB9 ∷ []) (
            (λ of free holds_for. sent_served m.class id of free holds_for),
            (
              (λ of free holds_for. special_served supers id of free holds_for),
              (
                (λ of free holds_for. static_call_served id of free holds_for),
                (
                  (λ of free holds_for. interface_served id of free (holds_for _ refl (keys.Class (let g =
                      resolved_method w id in g.class)) refl)),
                  tt,
                ),
              ),
            ),
          ) e

      op_served : (op : JOp) → IsInsnOf p.files codes m.class op → works_on_int op ≡ false → IsInstruction op
          → Holding op → Served op
      unfolding names_unsupported works_on_int with_pairs resolution
      op_served jop.Nop of free h holds_for = serves.plain plain.nop
      op_served jop.Null of free h holds_for = serves.plain plain.aconst_null
      op_served (jop.Number z) of free h holds_for = serves.plain (plain.number h.numbers)
      op_served (jop.Load false k) of free h holds_for = serves.plain plain.iload
      op_served (jop.Load true k) of free h holds_for = serves.plain plain.aload
      op_served (jop.Store false k) of free h holds_for = serves.plain plain.istore
      op_served (jop.Store true k) of free h holds_for = serves.plain plain.astore
      op_served (jop.ArrayLoad n) of free h holds_for = serves.on_array (load_is n h.opcode free)
      op_served (jop.ArrayStore n) of free h holds_for = serves.on_array (store_is n h.opcode free)
      op_served (jop.Stack n) of free h holds_for = serves.plain (stack_plain n h.opcode)
      op_served (jop.Arith n) of free h holds_for = serves.plain (arith_plain n h.opcode)
      op_served (jop.Inc k z) of free h holds_for = serves.plain (plain.iinc h.numbers)
      op_served (jop.Narrow n) of free h holds_for = serves.plain (narrow_plain n h.opcode)
      op_served (jop.If n target) of free h holds_for = serves.plain (if_plain n target h.opcode)
      op_served (jop.Goto target) of free h holds_for = serves.plain plain.goto
      op_served (jop.TableSwitch other low targets) of free h holds_for = serves.plain plain.tableswitch
      op_served (jop.LookupSwitch other cases) of free h holds_for = serves.plain plain.lookupswitch
      op_served (jop.Return n) of free h holds_for = serves.returns (return_is n h.opcode)
      op_served (jop.Static put id) of free h holds_for = static_served m.class put id of free holds_for
      op_served (jop.Field put id) of free h holds_for = field_served m.class put id of free (holds_for _ refl
          (keys.Field (resolved_field w id)) refl)
      op_served (jop.Call op id) of free h holds_for = serves.a_call (call_served op id h.opcode of free holds_for)
      op_served (jop.New name) of free h holds_for = new_served m.class name of holds_for
      op_served (jop.NewArray n) of free h holds_for = numbers_served n h (op_fit list.name p.files codes (settings_of
          list) u m.class (jop.NewArray n) of).0 free
      op_served (jop.ANewArray name) of free h holds_for = array_served m.class name of holds_for
      op_served jop.ArrayLength of free h holds_for = serves.on_array arraylength
      op_served jop.Throw of free h holds_for = serves.throws
      op_served (jop.CheckCast name) of free h holds_for =
          let c = cast_there list.name p.files codes (settings_of list) u (are_spelt list codes p is.checked) m.class
          name of in
          serves.a_cast (type_served p (names_in p m) name c.0 c.1 c.2 (λ number x e. holds_for (insns.TypeTest 0x94
          number (Some x)) (ap (type_test 0x94) c.1 ∙ e) (keys.Class x) refl))
      op_served (jop.InstanceOf name) of free h holds_for =
          let c = test_there list.name p.files codes (settings_of list) u (are_spelt list codes p is.checked) m.class
          name of in
          serves.a_test (type_served p (names_in p m) name c.0 c.1 c.2 (λ number x e. holds_for (insns.TypeTest 0x95
          number (Some x)) (ap (type_test 0x95) c.1 ∙ asked c.0 number x e) (keys.Class x) refl))
        where
          asked : (kind : Shape (List ℕ)) (number : ℕ) (x : List ℕ) → type_test 0x94 (Some kind)
              ≡ insns.TypeTest 0x94 number (Some x) ∷ [] → type_test 0x95 (Some kind) ≡ insns.TypeTest 0x95 number (Some
              x) ∷ []
          asked (OfClass c) number x e = cc
          asked (OfReferences c) number x e = cc
          asked (OfNumbers Booleans) number x e = absurd cc
          asked (OfNumbers Bytes) number x e = absurd cc
          asked (OfNumbers Shorts) number x e = absurd cc
          asked (OfNumbers Ints) number x e = absurd cc

      -- an instruction of any role, of what is written for it
      served_as : (role : PairRole) (op : JOp) → IsInsnOf p.files codes m.class op → works_on_int op ≡ false
          → IsInstruction op
          → ((insn : NInsn) → written_as role (names_in p m) (label_in p m) op ≡ insn ∷ [] → Placed insn) → Served op
      unfolding with_pairs resolution
      served_as role op of free h = written_cases (λ is. ((insn : NInsn) → is ≡ insn ∷ [] → Placed insn) → Served op)
          role
          (names_in p m) (label_in p m) op (λ e place. loads op e) (λ place. op_served op of free h (λ insn e. held insn
          (place insn e))) (λ a e place. closes op a e of free place)
        where
          loads : (op : JOp) → is_load op ≡ true → Served op
          loads (jop.Load false k) e = serves.plain plain.iload
          loads (jop.Load true k) e = serves.plain plain.aload
          loads op e = absurd cc

          closes : (op : JOp) (a : Access) → accessed op ≡ Some a → IsInsnOf p.files codes m.class op
              → works_on_int op ≡ false
              → ((insn : NInsn) → on_this (names_in p m) (label_in p m) op (Some a) ≡ insn ∷ [] → Placed insn)
              → Served op
          closes (jop.Field put f) a e of free place =
              let same : record { put = put; field = f } ≡ a = cc in
              field_served m.class put f of free (held (insns.Named (this_access put (field_sort f.desc)) (keys.Field
              (resolved_field w f))) (place _ (ap (λ x. on_this (names_in p m) (label_in p m) (jop.Field put f) (Some
              x))
              (sym same))) (keys.Field (resolved_field w f)) refl)
          closes op a e of free place = absurd cc

      -- a reached instruction of a method that does not work on int
      pub served_at : code_works_on_int p.files m.code ≡ false → (at : ℕ) (i : JInsn) (x : State)
          → (let code = m.code in slice_get code.insns at ≡ Some i) → HasRow m.rows at x → Served i.op
      served_at free at i x here row =
          let code = m.code in
          let file = read_of p.files (read_files list codes p is.checked) code.class m.class (let of = b.is_method
          in of.is_class) in
          let fit = decoded_instruction m.class m.method m.tree code.insns (is_decoded p.files code m.class m.method
          m.tree b.is_method) file.integers (file.bytes code.method m.method m.tree (let of = b.is_method
          in of.is_method) (let of = b.is_method in of.is_code)) at i here in
          served_as (let r = names_in p m in r.role i.at) i.op (record {
            code = code;
            method = m.method;
            tree = m.tree;
            of_package = b.is_method;
            written = plain_here list codes p is.checked is.methods b.number m.laid b.is_laid m.class m.method m.tree
                b.named;
            listed = b.listed;
            place = at;
            insn = i;
            is_insn = here;
            is_op = refl;
          }) (insn_free p.files code m.class m.method m.tree b.is_method free at i here) fit placed
        where
          placed : (insn : NInsn) → written_for (names_in p m) (label_in p m) i ≡ insn ∷ [] → Placed insn
          placed insn e =
              let code = m.code in
              let k = reached_there code.insns m.rows at i x here row in
              let r = flat_there (written_for (names_in p m) (label_in p m)) (reached_in m) k.0 i k.1 0 insn (ap
              (λ xs. slice_get xs 0) e) in
              (r.0, ap (λ xs. slice_get xs r.0) b.insns ∙ r.1)
