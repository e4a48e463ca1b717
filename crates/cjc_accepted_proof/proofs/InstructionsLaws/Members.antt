-- Instructions that name members, and returns: what their entries and types say of members is what the class file says.
use Rattle.std.proofs.Common.{◌≡◌, ℕ, ◌+◌, ◌<◌, ◌≤◌, refl, sym, ap, subst, ◌∙◌, arith, Bool, true, false}
use Rattle.std.proofs.Common.{List, [], ◌∷◌, ◌++◌, length, length-append, slice_get, Option, Some, None}
use Rattle.std.proofs.Common.{append-nil}
use Rattle.std.specs.Prelude.{◌||◌, ◌==◌, ◌&&◌, not, if◌then◌else◌}
use Rattle.std.proofs.lemmas.Bool.{eqb-true}
use Rattle.cjc_types.specs.Bytes.declared.descriptor.Kind.{Kind}
use Rattle.cjc_types.specs.Bytes.declared.descriptor.Kind.TheVariants as kinds
use Rattle.cjc_types.specs.Bytes.declared.fault.MemberId.{MemberId}
use Rattle.cjc_types.specs.Bytecode.Jvm as jvm
use Rattle.cjc_types.specs.Bytecode.declared.insn.JOp.TheVariants as jop
use Rattle.cjc_types.specs.Flow.{Body}
use Rattle.cjc_types.specs.Rules.{has_wrong as has_wrong_by_name, is_value, is_wrong_return}
use Rattle.cjc_types.specs.Rules.{is_of as is_of_class, receiver_class, returns}
use Rattle.cjc_types.specs.Steps.{gives, takes}
use Rattle.cjc_types.specs.Types.{is_void, parts, result_of}
use Rattle.cjc_types.specs.World.Classes.{Class}
use Rattle.cjc_types.specs.declared.cell.Cell.{Cell}
use Rattle.cjc_types.specs.declared.cell.Cell.TheVariants.{Number}
use Rattle.cjc_verify.specs.CapRead.declared.tree.ClassRef.{ClassRef}
use Rattle.cjc_verify.specs.CapRead.declared.tree.StaticRef.{StaticRef}
use Rattle.cjc_verify.specs.CardActs.CardTypes.{Boolean, Byte, MemberType, Reference, Short, ValueType, Void}
use Rattle.cjc_verify.specs.CardActs.CardTypes.{is_returned_by, needs_of, words}
use Rattle.cjc_verify.specs.CardActs.Rows.{pushing}
use Rattle.cjc_verify.specs.CardSemantics.Bytecode.Effects.{Letter}
use Rattle.cjc_verify.specs.CardSemantics.Bytecode.Effects as letters
use Rattle.cjc_verify.specs.ClassTypes.{class_type}
use Rattle.cjc_frames.specs.declared.acts.Given.TheVariants.{ANumber}
use Rattle.cjc_frames.specs.declared.acts.Need.{Need}
use Rattle.cjc_frames.specs.declared.acts.Need.TheVariants.{OfType}
use Rattle.cjc_frames.specs.Acts.{Subtype, has_wrong}
use Rattle.cjc_verify.specs.Instructions.{calling, calling_on, getting_static, putting, putting_static, result_needs}
use Rattle.cjc_verify.specs.Instructions.{returning}
use Rattle.cjc_accepted_proof.specs.Frames.{FieldFits, IsTypeFor, MethodFits, Mirrors, PassesFor, SubtypesAgree}
use Rattle.cjc_accepted_proof.specs.Frames.{card_cells}
use Rattle.cjc_accepted_proof.specs.Members.{StaticFits, letter_of_return}
use Rattle.cjc_accepted_proof.proofs.KindsLaws.{first_operand, object_mirrors, result_puts, static_mirrors}
use Rattle.cjc_accepted_proof.proofs.KindsLaws.{value_passes}
use Rattle.cjc_accepted_proof.proofs.RowsLaws.{zip_itself}
use Rattle.cjc_accepted_proof.proofs.InstructionsLaws.Operands.{zip_same}

-- a value has one word
pub one_need_of : (card_type : List ℕ → Option (List ℕ)) (kind : Kind) (class : List ℕ) (t : ValueType)
    → IsTypeFor card_type kind class t → is_void kind ≡ false → length (needs_of t) ≡ 1
one_need_of card_type kinds.Bool class Boolean e f = refl
one_need_of card_type kinds.Byte class Byte e f = refl
one_need_of card_type kinds.Short class Short e f = refl
one_need_of card_type kinds.Ref class (Reference type) e f = refl
one_need_of card_type kinds.Void class t e f = absurd cc
one_need_of card_type kind class t e f = absurd e

module _ (card_type : List ℕ → Option (List ℕ)) (is_of : Subtype) (w : List Class) (agree : SubtypesAgree card_type
    is_of w) where
  abbrev cells : List Cell → List Cell
  cells = card_cells card_type

  -- a value on top, and what lies beneath it
  pub top_passes : (kind : Kind) (class : List ℕ) (t : ValueType) → IsTypeFor card_type kind class t → is_void kind
      ≡ false → (rest : List Need) (s : List Cell) → ((x : Cell) (more : List Cell) → s ≡ x ∷ more
      → (is_value w kind class x ≡ true) × (has_wrong is_of rest (cells more) ≡ false)) → has_wrong is_of (needs_of t
      ++ rest) (cells s) ≡ false
  top_passes kind class t typed some rest [] h = none (needs_of t ++ rest)
    where
      none : (ns : List Need) → has_wrong is_of ns [] ≡ false
      none [] = refl
      none (n ∷ ns) = refl
  top_passes kind class t typed some rest (x ∷ s) h = let r = h x s refl in value_passes card_type is_of w agree kind
      class t typed some x r.0 rest s r.1

  -- the same alone
  pub value_alone : (kind : Kind) (class : List ℕ) (t : ValueType) → IsTypeFor card_type kind class t → is_void kind
      ≡ false → (s : List Cell) → ((x : Cell) (more : List Cell) → s ≡ x ∷ more → is_value w kind class x ≡ true)
      → has_wrong is_of (needs_of t) (cells s) ≡ false
  value_alone kind class t typed some s h = ap (λ (ns : List Need). has_wrong is_of ns (cells s)) (sym (append-nil
      (needs_of t))) ∙ top_passes kind class t typed some [] s (λ x more e. (h x more e, refl))

  module _ (b : Body) where
    -- putfield outside of pairs
    pub putting_mirrors : (f : MemberId) (letter : Letter) (class : ClassRef) (t : ValueType) → FieldFits card_type
        is_of w f letter class t → (let d = parts f.desc in let r = d.result in is_void r.kind) ≡ false
        → (ls s : List Cell) → has_wrong_by_name w b (jop.Field true f) 2 0 s ≡ false → Mirrors card_type is_of
        (jop.Field true f) (putting false letter class t) ls s
    putting_mirrors f letter class t fits some ls s e =
        let d = parts f.desc in
        let r = d.result in
        let one = one_need_of card_type r.kind r.class t fits.typed some in
        record {
          as_many = length-append (needs_of t) (OfType (class_type class) ∷ []) ∙ omega (arith, one);
          puts = tt;
          writes = zip_itself (cells ls);
          operands = top_passes r.kind r.class t fits.typed some (OfType (class_type class) ∷ []) s (λ x more g. (
            first_operand w b (jop.Field true f) 2 s e 0 x (ap (λ v. slice_get v 0) g) (omega arith),
            beneath more
                (λ y rest h. first_operand w b (jop.Field true f) 2 s e 1 y (ap (λ v. slice_get v 1) g ∙ ap (λ v.
                slice_get v 0) h) (omega arith)),
          ));
          locals_right = refl;
          fits = ap not fits.moved;
          there = refl;
          known = refl;
          named = fits.inside;
        }
      where
        beneath : (v : List Cell) → ((x : Cell) (rest : List Cell) → v ≡ x ∷ rest → is_of_class w f.class x ≡ true)
            → has_wrong is_of (OfType (class_type class) ∷ []) (cells v) ≡ false
        beneath [] h = refl
        beneath (x ∷ rest) h = ap (λ v. not v || false) (fits.receiver x (h x rest refl))

    -- getstatic
    pub getting_static_mirrors : (f : MemberId) (letter : Letter) (field : StaticRef) (t : ValueType) → StaticFits
        card_type f letter field t → (ls s : List Cell) → Mirrors card_type is_of (jop.Static false f) (getting_static
        letter field t) ls s
    getting_static_mirrors f letter field t fits ls s = record {
      as_many = refl;
      puts = (let d = parts f.desc in result_puts card_type is_of w agree d.result t fits.typed (cells ls) (cells s));
      writes = zip_itself (cells ls);
      operands = refl;
      locals_right = refl;
      fits = ap not fits.moved;
      there = refl;
      known = refl;
      named = fits.inside;
    }

    -- a constant: a number is put
    pub constant_mirrors : (f : MemberId) → (let d = parts f.desc in result_of d.result) ≡ Number ∷ []
        → (ls s : List Cell) → Mirrors card_type is_of (jop.Static false f) (pushing (ANumber ∷ [])) ls s
    constant_mirrors f number ls s = record {
      as_many = refl;
      puts = zip_same (Number ∷ []) (cells (gives (jop.Static false f) ls s)) (ap cells (sym number));
      writes = zip_itself (cells ls);
      operands = refl;
      locals_right = refl;
      fits = refl;
      there = refl;
      known = refl;
      named = refl;
    }

    -- putstatic
    pub putting_static_mirrors : (f : MemberId) (letter : Letter) (field : StaticRef) (t : ValueType) → StaticFits
        card_type f letter field t → (let d = parts f.desc in let r = d.result in is_void r.kind) ≡ false
        → (ls s : List Cell) → has_wrong_by_name w b (jop.Static true f) 1 0 s ≡ false → Mirrors card_type is_of
        (jop.Static true f) (putting_static letter field t) ls s
    putting_static_mirrors f letter field t fits some ls s e =
        let d = parts f.desc in
        let r = d.result in
        record {
          as_many = one_need_of card_type r.kind r.class t fits.typed some;
          puts = tt;
          writes = zip_itself (cells ls);
          operands = value_alone r.kind r.class t fits.typed some s (λ x more g. first_operand w b (jop.Static true f) 1
              s e 0 x (ap (λ v. slice_get v 0) g) (omega arith));
          locals_right = refl;
          fits = ap not fits.moved;
          there = refl;
          known = refl;
          named = fits.inside;
        }

    -- ---- calls that may name an abstract method, or count other words

    pub static_call_mirrors : (m : MemberId) (t : MemberType) (misnames : Bool) → misnames ≡ false → MethodFits
        card_type m t → (ls s : List Cell) → has_wrong_by_name w b (jop.Call jvm.invokestatic m) (takes (jop.Call
        jvm.invokestatic m)) 0 s ≡ false → Mirrors card_type is_of (jop.Call jvm.invokestatic m) (calling t [] misnames)
        ls s
    static_call_mirrors m t misnames none fits ls s e = subst (λ (v : Bool). Mirrors card_type is_of (jop.Call
        jvm.invokestatic m) (calling t [] v) ls s) (sym none) (static_mirrors card_type is_of w agree b m t fits ls s e)

    pub object_call_mirrors : (opcode : ℕ) → (opcode == jvm.invokestatic) ≡ false → (m : MemberId) (t : MemberType)
        (type : List ℕ) (misnames : Bool) → misnames ≡ false → MethodFits card_type m t → PassesFor card_type is_of w
        (receiver_class w b opcode m) type → (ls s : List Cell) → has_wrong_by_name w b (jop.Call opcode m) (takes
        (jop.Call opcode m)) 0 s ≡ false → Mirrors card_type is_of (jop.Call opcode m) (calling_on t type misnames) ls s
    object_call_mirrors opcode other m t type misnames none fits passes ls s e = subst (λ (v : Bool). Mirrors card_type
        is_of (jop.Call opcode m) (calling_on t type v) ls s) (sym none) (object_mirrors card_type is_of w agree b
        opcode other m t type fits passes ls s e)

    -- ---- returns

    -- a return is that of the card's type of the result
    returned : (opcode : ℕ) (kind : Kind) (class : List ℕ) (t : ValueType) → IsTypeFor card_type kind class t
        → returns opcode kind ≡ true → is_returned_by (letter_of_return opcode) t ≡ true
    returned opcode kinds.Bool class Boolean typed e = ap (λ (v : Bool). is_returned_by (if v then Some letters.Short
        else if opcode == jvm.areturn then Some letters.Reference else None) Boolean) e
    returned opcode kinds.Byte class Byte typed e = ap (λ (v : Bool). is_returned_by (if v then Some letters.Short
        else if opcode == jvm.areturn then Some letters.Reference else None) Byte) e
    returned opcode kinds.Short class Short typed e = ap (λ (v : Bool). is_returned_by (if v then Some letters.Short
        else if opcode == jvm.areturn then Some letters.Reference else None) Short) e
    returned opcode kinds.Ref class (Reference type) typed e = by (eqb-true opcode jvm.areturn e)
      where
        by : opcode ≡ jvm.areturn → is_returned_by (letter_of_return opcode) (Reference type) ≡ true
        by same = ap (λ n. is_returned_by (letter_of_return n) (Reference type)) same
    returned opcode kinds.Void class Void typed e = by (eqb-true opcode jvm.return e)
      where
        by : opcode ≡ jvm.return → is_returned_by (letter_of_return opcode) Void ≡ true
        by same = ap (λ n. is_returned_by (letter_of_return n) Void) same
    returned opcode kind class t typed e = absurd typed

    -- so many words are returned
    return_takes : (opcode : ℕ) (kind : Kind) (class : List ℕ) (t : ValueType) → IsTypeFor card_type kind class t
        → returns opcode kind ≡ true → length (needs_of t) ≡ takes (jop.Return opcode)
    return_takes opcode kinds.Bool class Boolean typed e = let same = eqb-true opcode jvm.ireturn e in sym (ap (λ n.
        takes (jop.Return n)) same)
    return_takes opcode kinds.Byte class Byte typed e = let same = eqb-true opcode jvm.ireturn e in sym (ap (λ n.
        takes (jop.Return n)) same)
    return_takes opcode kinds.Short class Short typed e = let same = eqb-true opcode jvm.ireturn e in sym (ap (λ n.
        takes (jop.Return n)) same)
    return_takes opcode kinds.Ref class (Reference type) typed e = let same = eqb-true opcode jvm.areturn e in sym (ap
        (λ n. takes (jop.Return n)) same)
    return_takes opcode kinds.Void class Void typed e = let same = eqb-true opcode jvm.return e in sym (ap (λ n. takes
        (jop.Return n)) same)
    return_takes opcode kind class t typed e = absurd typed

    pub return_mirrors : (opcode : ℕ) (t : ValueType) → (let d = parts b.desc in let r = d.result in IsTypeFor card_type
        r.kind r.class t) → is_wrong_return b (jop.Return opcode) ≡ false → (ls s : List Cell) → has_wrong_by_name w b
        (jop.Return opcode) (takes (jop.Return opcode)) 0 s ≡ false → Mirrors card_type is_of (jop.Return opcode)
        (returning (letter_of_return opcode) t) ls s
    return_mirrors opcode t typed right ls s e =
        let d = parts b.desc in
        let r = d.result in
        let is = right_return (returns opcode r.kind) right in
        let letter = returned opcode r.kind r.class t typed is in
        let many = return_takes opcode r.kind r.class t typed is in
        record {
          as_many = ap (λ (v : Bool). length (if v then needs_of t else result_words opcode)) letter ∙ many;
          puts = tt;
          writes = zip_itself (cells ls);
          operands = ap (λ (v : Bool). has_wrong is_of (if v then needs_of t else result_words opcode) (cells s)) letter
              ∙ passes r.kind r.class t typed many (λ x more g some. first_operand w b (jop.Return opcode) (takes
              (jop.Return opcode)) s e 0 x (ap (λ v. slice_get v 0) g) some);
          locals_right = refl;
          fits = ap not letter;
          there = refl;
          known = refl;
          named = refl;
        }
      where
        right_return : (v : Bool) → not v ≡ false → v ≡ true
        right_return true f = refl
        right_return false f = absurd cc

        result_words : ℕ → List Need
        result_words n = result_needs (letter_of_return n)

        passes : (kind : Kind) (class : List ℕ) (t : ValueType) → IsTypeFor card_type kind class t
            → length (needs_of t) ≡ takes (jop.Return opcode) → ((x : Cell) (more : List Cell) → s ≡ x ∷ more
            → 0 < takes (jop.Return opcode) → is_value w kind class x ≡ true) → has_wrong is_of (needs_of t) (cells s)
            ≡ false
        passes kinds.Void class Void typed many h = refl
        passes kinds.Bool class Boolean typed many h = value_alone kinds.Bool class Boolean typed refl s (λ x more g.
            h x more g (omega (arith, many)))
        passes kinds.Byte class Byte typed many h = value_alone kinds.Byte class Byte typed refl s (λ x more g.
            h x more g (omega (arith, many)))
        passes kinds.Short class Short typed many h = value_alone kinds.Short class Short typed refl s (λ x more g.
            h x more g (omega (arith, many)))
        passes kinds.Ref class (Reference type) typed many h = value_alone kinds.Ref class (Reference type) typed refl s
            (λ x more g. h x more g (omega (arith, many)))
        passes kind class t typed many h = absurd typed
