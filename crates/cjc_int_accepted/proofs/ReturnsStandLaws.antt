-- What is written for a return stands between its frames, where it is the return of the method's result.
use Rattle.std.proofs.Common.{◌≡◌, ℕ, refl, sym, ap, ◌∙◌, Bool, true, false, List, [], ◌∷◌, ◌++◌, map, Option, Some}
use Rattle.std.proofs.Common.{None}
use Rattle.std.specs.Prelude.{◌==◌, not, if◌then◌else◌, option_and_then}
use Rattle.cjc_types.specs.Bytecode.Jvm as jvm
use Rattle.cjc_types.specs.Bytecode.declared.insn.JOp.{JOp}
use Rattle.cjc_types.specs.Bytecode.declared.insn.JOp.TheVariants as jop
use Rattle.cjc_types.specs.Bytes.declared.descriptor.Kind.{Kind}
use Rattle.cjc_types.specs.Bytes.declared.descriptor.Kind.TheVariants as kinds
use Rattle.cjc_types.specs.Flow.{Body as BodyByName}
use Rattle.cjc_types.specs.Rules.{has_wrong, returns}
use Rattle.cjc_types.specs.Steps.{goes_on}
use Rattle.cjc_types.specs.Types.{is_void, parts}
use Rattle.cjc_types.specs.World.Classes.{Class}
use Rattle.cjc_types.specs.declared.cell.Cell.{Cell}
use Rattle.cjc_types.specs.declared.state.State.{State}
use Rattle.cjc_check_proof.specs.NCode.Lowering.Naming.{Naming}
use Rattle.cjc_check_proof.specs.NCode.Written.{Resolution}
use Rattle.cjc_check_proof.specs.NarrowProof.Tables.Names.{IsDesc}
use Rattle.cjc_check_proof.specs.NarrowProof.Tables.Supported.{IsReturn}
use Rattle.cjc_check_proof.specs.NarrowProof.Tables.Supported as opcodes
use Rattle.cjc_int_mode.specs.Written.{int_frame, result_by as result_in}
use Rattle.cjc_ncode.specs.IntCode.IntCode.{Before, Frame, written}
use Rattle.cjc_frames.specs.Acts.{Subtype}
use Rattle.cjc_frames.specs.declared.acts.Act.{Act}
use Rattle.cjc_frames.specs.declared.acts.Need.{Need}
use Rattle.cjc_verify.specs.CardActs.CardTypes.{ValueType, needs_of}
use Rattle.cjc_verify.specs.CardActs.CardTypes as types
use Rattle.cjc_verify.specs.CardActs.Rows.{calculating}
use Rattle.cjc_verify.specs.Pairs.{Pair}
use Rattle.cjc_verify.specs.Script.Sorts.{Sort, result_by, signature_by, sort_of}
use Rattle.cjc_verify.specs.Script.Sorts as sorts
use Rattle.cjc_accepted_proof.specs.Frames.{SubtypesAgree}
use Rattle.cjc_int_accepted.specs.Acts.{cutting, is_short, taking}
use Rattle.cjc_int_accepted.specs.Ends.{LeadAtEnd, falls_behind}
use Rattle.cjc_int_accepted.specs.Frames.{Room}
use Rattle.cjc_int_accepted.specs.Laid.{IsNumberAs, acts_laid}
use Rattle.cjc_int_accepted.specs.Methods.{Selection}
use Rattle.cjc_int_accepted.specs.Standing.{IsStanding}
use Rattle.cjc_int_accepted.specs.Types.{IsTypedAs}
use Rattle.cjc_int_accepted.proofs.RowsLaws.Objects.{nothing_returned, value_returned}
use Rattle.cjc_int_accepted.proofs.SingleLaws.{standing}
use Rattle.cjc_int_accepted.proofs.StandLaws.{none_in, nowhere}
use Rattle.cjc_int_accepted.proofs.WrittenLaws as laid

-- ---- a value that is cut before it is taken

module _ (label to : ℕ → ℕ) (op : JOp) (t : ValueType) (needs : List Need) (falls : Bool) where
  abbrev Taken : Bool → List Act
  Taken short = (if short then calculating 2 1 ∷ [] else []) ++ taking needs [] falls [] ∷ []

  pub cut_ends : LeadAtEnd label to op (cutting t ++ taking needs [] falls [] ∷ [])
  cut_ends = by (is_short t)
    where
      by : (short : Bool) → LeadAtEnd label to op (Taken short)
      by true = (none_in, nowhere label to op)
      by false = nowhere label to op

  pub cut_falls : falls_behind (cutting t ++ taking needs [] falls [] ∷ []) ≡ falls
  cut_falls = by (is_short t)
    where
      by : (short : Bool) → falls_behind (Taken short) ≡ falls
      by true = refl
      by false = refl

-- ---- results

-- the result of a descriptor, as what is written sees it
pub result_of_frame : (b : BodyByName) → IsDesc b.desc → (let d = parts b.desc in d.is_method) ≡ true → (let
    f = int_frame b in f.result) ≡ (let d = parts b.desc in let v = d.result in result_by v.kind v)
result_of_frame b is_desc is_method =
    ap (λ o. result_in (option_and_then signature_by o)) is_desc
    ∙ ap (λ t. result_in (if t then Some (record {
      params = map sort_of (let d = parts b.desc in d.params);
      result = (let d = parts b.desc in let v = d.result in result_by v.kind v);
    }) else None)) is_method

module _ (card_type : List ℕ → Option (List ℕ)) where
  -- ireturn is that of numbers
  number_result : (kind : Kind) (class : List ℕ) (t : ValueType) → IsTypedAs card_type kind class t
      → not (returns jvm.ireturn kind) ≡ false → (s : Sort) × (result_by kind (record {
        kind = kind;
        class = class;
      }) ≡ Some s) × IsNumberAs s t × (is_void kind ≡ false)
  number_result kinds.Bool class types.Boolean typed e = (sorts.Boolean, refl, tt, refl)
  number_result kinds.Byte class types.Byte typed e = (sorts.Byte, refl, tt, refl)
  number_result kinds.Short class types.Short typed e = (sorts.Short, refl, tt, refl)
  number_result kinds.Int class types.Int typed e = (sorts.Int, refl, tt, refl)
  number_result kinds.Ref class t typed e = absurd cc
  number_result kinds.Void class t typed e = absurd cc
  number_result kind class t typed e = absurd typed

  -- areturn of references
  reference_result : (kind : Kind) (class : List ℕ) (t : ValueType) → IsTypedAs card_type kind class t
      → not (returns jvm.areturn kind) ≡ false → (type : List ℕ) × (t ≡ types.Reference type) × (is_void kind ≡ false)
  reference_result kinds.Ref class (types.Reference type) typed e = (type, refl, refl)
  reference_result kinds.Bool class t typed e = absurd cc
  reference_result kinds.Byte class t typed e = absurd cc
  reference_result kinds.Short class t typed e = absurd cc
  reference_result kinds.Int class t typed e = absurd cc
  reference_result kinds.Void class t typed e = absurd cc
  reference_result kind class t typed e = absurd typed

  -- and return of none
  no_result : (kind : Kind) (class : List ℕ) (t : ValueType) → IsTypedAs card_type kind class t
      → not (returns jvm.return kind) ≡ false → t ≡ types.Void
  no_result kinds.Void class types.Void typed e = refl
  no_result kinds.Bool class t typed e = absurd cc
  no_result kinds.Byte class t typed e = absurd cc
  no_result kinds.Short class t typed e = absurd cc
  no_result kinds.Int class t typed e = absurd cc
  no_result kinds.Ref class t typed e = absurd cc
  no_result kind class t typed e = absurd typed

-- ---- returns

module _ (card_type : List ℕ → Option (List ℕ)) (is_of : Subtype) (m : Room) (new : Selection) (b : BodyByName)
    (rows : List (Option State)) (label to : ℕ → ℕ) (p : Pair) (result : ValueType) (n : Naming) (wide : ℕ → Bool)
    (f : Frame) (r : Resolution) (known : Before) (w : List Class) (count place here o : ℕ) (x : State)
    (agree : SubtypesAgree card_type is_of w) (typed : (let d = parts b.desc in let v = d.result in IsTypedAs card_type
    v.kind v.class result)) (frame_is : f.result ≡ (let d = parts b.desc in let v = d.result in result_by v.kind v))
  where
    abbrev Standing : (op : ℕ) → Type 0
    Standing op = IsStanding card_type is_of m new b rows label to p result n wide f r known w count place here o x
        (jop.Return op)

    -- a value is returned
    value_stands : (op : ℕ) → (op == jvm.return) ≡ false → (let d = parts b.desc in let v = d.result in is_void v.kind)
        ≡ false → acts_laid p result n to wide here (written f r label known here (jop.Return op)) ≡ cutting result
        ++ taking (needs_of result) [] false [] ∷ [] → Standing op
    value_stands op other some e = standing card_type is_of m new b rows label to p result n wide f r known w count
        place here o x (jop.Return op) (cutting result ++ taking (needs_of result) [] false [] ∷ []) e (λ q.
        value_returned
        card_type is_of m b.max_stack w b agree op other result typed some x.locals q.stack q.on (one_wrong q.stack (op
        == jvm.return) other q.operands)) (cut_ends label to (jop.Return op) result (needs_of result) false)
        (λ h. never (sym (cut_falls label to (jop.Return op) result (needs_of result) false) ∙ h))
      where
        one_wrong : (s : List Cell) (c : Bool) → c ≡ false → has_wrong w b (jop.Return op) (if c then 0 else 1) 0 s
            ≡ false → has_wrong w b (jop.Return op) 1 0 s ≡ false
        one_wrong s true g h = absurd cc
        one_wrong s false g h = h

        never : false ≡ true → goes_on (jop.Return op) ≡ true
        never h = absurd cc

    ireturn_stands : Standing jvm.ireturn
    ireturn_stands q selected =
        let d = parts b.desc in
        let v = d.result in
        let k = number_result card_type v.kind v.class result typed q.result in
        value_stands jvm.ireturn refl k.3 (laid.number_acts_returned p result n to wide f r label known here k.0
        (frame_is
        ∙ k.1) k.2) q selected

    areturn_stands : Standing jvm.areturn
    areturn_stands q selected =
        let d = parts b.desc in
        let v = d.result in
        let k = reference_result card_type v.kind v.class result typed q.result in
        value_stands jvm.areturn refl k.2 (laid.reference_acts_returned p result n to wide f r label known here k.0
        k.1) q
        selected

    return_stands_of_none : Standing jvm.return
    return_stands_of_none q selected =
        let d = parts b.desc in
        let v = d.result in
        let none = no_result card_type v.kind v.class result typed q.result in
        standing card_type is_of m new b rows label to p result n wide f r known w count place here o x (jop.Return
        jvm.return) (taking [] [] false [] ∷ []) (laid.nothing_acts p result n to wide f r label known here none)
        (λ s. nothing_returned card_type is_of m b.max_stack x.locals s.stack s.on) (nowhere label to (jop.Return
        jvm.return)) (λ h. absurd cc) q selected

    pub return_stands : (op : ℕ) → IsReturn op → Standing op
    return_stands _ opcodes.ireturn = ireturn_stands
    return_stands _ opcodes.areturn = areturn_stands
    return_stands _ opcodes.returns = return_stands_of_none
