-- Rows of fields, calls and handlers: their acts mirror the instructions of the class file where entries of the pool
-- fit the members that these name.
use Rattle.cjc_types.specs.ClassFile.declared.tree.Catch.{Catch as CatchByName}
use Rattle.std.proofs.Common.{◌≡◌, ℕ, zero, suc, ◌+◌, ◌-◌, ◌<◌, ◌≤◌, refl, sym, ap, subst, ◌∙◌, arith, Bool, true}
use Rattle.std.proofs.Common.{false, List, [], ◌∷◌, ◌++◌, length, length-append, map, drop, get_or, slice_get, Option}
use Rattle.std.proofs.Common.{Some, None, append_assoc, inl, inr}
use Rattle.std.specs.Prelude.{◌&&◌, ◌||◌, ◌==◌, not, nat_lt, option_to_list, if◌then◌else◌}
use Rattle.std.specs.List.{AllZip}
use Rattle.std.proofs.lemmas.Bool.Decides.{nat_tests}
use Rattle.cjc_types.specs.Bytes.Descriptor.{Part}
use Rattle.cjc_types.specs.Bytes.declared.descriptor.Kind.{Kind}
use Rattle.cjc_types.specs.Bytes.declared.descriptor.Kind.TheVariants as kinds
use Rattle.cjc_types.specs.Bytes.declared.fault.MemberId.{MemberId}
use Rattle.cjc_verify.specs.CapRead.declared.tree.ClassRef.{ClassRef}
use Rattle.cjc_types.specs.Bytecode.Jvm as jvm
use Rattle.cjc_types.specs.Bytecode.declared.insn.JOp.{JOp}
use Rattle.cjc_types.specs.Bytecode.declared.insn.JOp.TheVariants as jop
use Rattle.cjc_verify.specs.CardSemantics.Bytecode.Effects.{Letter}
use Rattle.cjc_types.specs.Cells.{IsCellBelow}
use Rattle.cjc_types.specs.Names.{In, IsWithin}
use Rattle.cjc_types.specs.Flow.{Body}
use Rattle.cjc_types.specs.Rules.{accepts, has_wrong as has_wrong_by_name, is_number, is_value, is_value_of}
use Rattle.cjc_types.specs.Rules.{is_of as is_of_class, receiver_class}
use Rattle.cjc_types.specs.Steps.{receivers, takes}
use Rattle.cjc_types.specs.States.{states}
use Rattle.cjc_types.specs.declared.state.State.{State}
use Rattle.cjc_types.specs.Flow.{caught as caught_by_name, caught_type}
use Rattle.cjc_frames.specs.declared.acts.Catch.{Catch}
use Rattle.cjc_frames.specs.Flow.{caught}
use Rattle.cjc_verify.specs.Narrow.Pairs.Open.{Open, closed}
use Rattle.cjc_types.specs.Types.{cell_of, is_void, parts, result_of}
use Rattle.cjc_types.specs.declared.cell.Cell.{Cell}
use Rattle.cjc_types.specs.declared.cell.Cell.TheVariants.{Number, Refs, Unusable}
use Rattle.cjc_types.specs.World.Classes.{Class}
use Rattle.cjc_frames.specs.declared.acts.Need.{Need}
use Rattle.cjc_frames.specs.declared.acts.Need.TheVariants.{NumberWord, OfType}
use Rattle.cjc_frames.specs.Acts.{Subtype, given, has_wrong}
use Rattle.cjc_verify.specs.CardActs.CardTypes.{Boolean, Byte, MemberType, Reference, Short, ValueType, Void}
use Rattle.cjc_verify.specs.CardActs.CardTypes.{needs_of, needs_of_all, words}
use Rattle.cjc_verify.specs.ClassTypes.{class_type}
use Rattle.cjc_verify.specs.Instructions.{calling, calling_on, getting}
use Rattle.cjc_accepted_proof.specs.Frames.{AreTypesFor, FieldFits, IsTypeFor, MethodFits, Mirrors, PassesFor}
use Rattle.cjc_accepted_proof.specs.Frames.{card_state}
use Rattle.cjc_accepted_proof.specs.Frames.{SubtypesAgree, card_cell, card_cells}
use Rattle.cjc_accepted_proof.specs.Frames.{IsCaughtAs, by_any, by_name, its_own, thrown, types_named}
use Rattle.cjc_accepted_proof.proofs.RowsLaws.{zip_itself}
use Rattle.cjc_accepted_proof.proofs.TypesLaws.{class_passes, own_below, type_in}

-- an operand that is there is one that the instruction accepts
operand_there : (w : List Class) (b : Body) (op : JOp) (count k : ℕ) (s : List Cell) → has_wrong_by_name w b op count
    k s ≡ false → (j : ℕ) (x : Cell) → slice_get s j ≡ Some x → k + j < count → accepts w b op (k + j) x ≡ true
operand_there w b op count k [] e j x f lt = absurd cc
operand_there w b op count k (y ∷ s) e zero x f lt =
    let same : y ≡ x = cc in
    let none : k + 0 ≡ k = omega arith in
    let within : nat_lt k count ≡ true = grind (arith, nat_tests, lt) in
    by (nat_lt k count) within (accepts w b op k y) (ap (accepts w b op k) same ∙ ap (λ n. accepts w b op n x) (sym
    none))
    (has_wrong_by_name w b op count (k + 1) s) e
  where
    by : (t : Bool) → t ≡ true → (a : Bool) → a ≡ accepts w b op (k + 0) x → (r : Bool) → ((t && not a) || r) ≡ false
        → accepts w b op (k + 0) x ≡ true
    by true g true h r i = sym h
    by true g false h r i = absurd cc
    by false g a h r i = absurd cc
operand_there w b op count k (y ∷ s) e (suc j) x f lt =
    let next : k + 1 + j ≡ k + suc j = omega arith in
    ap (λ n. accepts w b op n x) (sym next) ∙ operand_there w b op count (k + 1) s (rest (nat_lt k count && not
    (accepts w
    b op k y)) (has_wrong_by_name w b op count (k + 1) s) e) j x f (omega (arith, lt, next))
  where
    rest : (a r : Bool) → (a || r) ≡ false → r ≡ false
    rest true r g = absurd cc
    rest false r g = g

pub first_operand : (w : List Class) (b : Body) (op : JOp) (count : ℕ) (s : List Cell)
    → has_wrong_by_name w b op count 0 s
    ≡ false → (k : ℕ) (x : Cell) → slice_get s k ≡ Some x → k < count → accepts w b op k x ≡ true
first_operand w b op count s e k x f lt =
    let none : 0 + k ≡ k = omega arith in
    ap (λ n. accepts w b op n x) (sym none) ∙ operand_there w b op count 0 s e k x f (omega (arith, lt, none))

module _ (card_type : List ℕ → Option (List ℕ)) (is_of : Subtype) (w : List Class) (agree : SubtypesAgree card_type
    is_of w) where
  abbrev cells : List Cell → List Cell
  cells = card_cells card_type

  -- ---- values of a type

  -- a value by name is one by token
  pub value_passes : (kind : Kind) (class : List ℕ) (t : ValueType) → IsTypeFor card_type kind class t → is_void kind ≡
      false
      → (x : Cell) → is_value w kind class x ≡ true → (rest : List Need) (s : List Cell) → has_wrong is_of rest (cells
      s)
      ≡ false → has_wrong is_of (needs_of t ++ rest) (card_cell card_type x ∷ cells s) ≡ false
  value_passes kinds.Bool class Boolean typed some x e rest s f = number x e f
    where
      number : (x : Cell) → is_number x ≡ true → has_wrong is_of rest (cells s) ≡ false → has_wrong is_of (NumberWord
          ∷ rest) (card_cell card_type x ∷ cells s) ≡ false
      number Number g h = h
      number (Refs names) g h = absurd cc
      number Unusable g h = absurd cc
  value_passes kinds.Byte class Byte typed some x e rest s f = number x e f
    where
      number : (x : Cell) → is_number x ≡ true → has_wrong is_of rest (cells s) ≡ false → has_wrong is_of (NumberWord
          ∷ rest) (card_cell card_type x ∷ cells s) ≡ false
      number Number g h = h
      number (Refs names) g h = absurd cc
      number Unusable g h = absurd cc
  value_passes kinds.Short class Short typed some x e rest s f = number x e f
    where
      number : (x : Cell) → is_number x ≡ true → has_wrong is_of rest (cells s) ≡ false → has_wrong is_of (NumberWord
          ∷ rest) (card_cell card_type x ∷ cells s) ≡ false
      number Number g h = h
      number (Refs names) g h = absurd cc
      number Unusable g h = absurd cc
  value_passes kinds.Ref class (Reference type) typed some x e rest s f =
      ap (λ b. not b || has_wrong is_of rest (cells s)) (class_passes card_type is_of w agree class type typed x e) ∙ f
  value_passes kinds.Void class t typed some x e rest s f = absurd cc
  value_passes kind class t typed some x e rest s f = absurd typed

  -- what a result puts is what its type puts
  pub result_puts : (part : Part) (t : ValueType) → IsTypeFor card_type part.kind part.class t → (ls s : List Cell)
      → AllZip IsCellBelow (map (given ls s) (words t)) (cells (result_of part))
  result_puts part t typed ls s = by part.kind t part.class typed
    where
      by : (kind : Kind) (t : ValueType) (class : List ℕ) → IsTypeFor card_type kind class t → AllZip IsCellBelow (map
          (given ls s) (words t)) (cells (if is_void kind then [] else cell_of kind class ∷ []))
      by kinds.Bool Boolean class e = (tt, tt)
      by kinds.Byte Byte class e = (tt, tt)
      by kinds.Short Short class e = (tt, tt)
      by kinds.Ref (Reference type) class e = (own_below card_type class type e, tt)
      by kinds.Void Void class e = tt
      by kind t class e = absurd e

  -- ---- fields

  module _ (b : Body) where
    -- getfield outside of pairs
    pub getting_mirrors : (f : MemberId) (letter : Letter) (class : ClassRef) (t : ValueType) → FieldFits card_type
        is_of w f letter class t → (ls s : List Cell) → has_wrong_by_name w b (jop.Field false f) 1 0 s ≡ false
        → Mirrors card_type is_of (jop.Field false f) (getting false letter class t) ls s
    getting_mirrors f letter class t fits ls s e = record {
      as_many = refl;
      puts = (let d = parts f.desc in result_puts d.result t fits.typed (cells ls) (cells s));
      writes = zip_itself (cells ls);
      operands = by s (λ x rest g. operand_there w b (jop.Field false f) 1 0 s e 0 x (ap (λ v. slice_get v 0) g) (omega
          arith));
      locals_right = refl;
      fits = ap not fits.moved;
      there = refl;
      known = refl;
      named = fits.inside;
    }
      where
        by : (v : List Cell) → ((x : Cell) (rest : List Cell) → v ≡ x ∷ rest → accepts w b (jop.Field false f) 0 x ≡
            true) → has_wrong is_of (OfType (class_type class) ∷ []) (cells v) ≡ false
        by [] h = refl
        by (x ∷ rest) h = ap (λ v. not v || false) (fits.receiver x (h x rest refl))

    -- ---- calls

    -- arguments by name are arguments by token, the last one on top
    arguments_pass : (ps : List Part) (ts : List ValueType) (d : Part) → AreTypesFor card_type ps ts → (s : List Cell)
        → ((k : ℕ) (x : Cell) → slice_get s k ≡ Some x → k < length ps → is_value_of w (get_or ps (length ps - 1 - k)
        d) x
        ≡ true) → (rest : List Need) → has_wrong is_of rest (cells (drop (length ps) s)) ≡ false
        → has_wrong is_of (needs_of_all ts ++ rest) (cells s) ≡ false
    arguments_pass [] [] d typed s each rest e = e
    arguments_pass [] (t ∷ ts) d typed s each rest e = absurd typed
    arguments_pass (part ∷ ps) [] d typed s each rest e = absurd typed
    arguments_pass (part ∷ ps) (t ∷ ts) d typed s each rest e =
        ap (λ ns. has_wrong is_of ns (cells s)) (append_assoc (needs_of_all ts) (needs_of t) rest)
        ∙ arguments_pass ps ts d typed.2 s (λ k x f lt. later k x f lt (each k x f (omega (arith, lt)))) (needs_of t
        ++ rest) (first (drop (length ps) s) refl)
      where
        later : (k : ℕ) (x : Cell) → slice_get s k ≡ Some x → k < length ps → is_value_of w (get_or (part ∷ ps) (suc
            (length ps) - 1 - k) d) x ≡ true → is_value_of w (get_or ps (length ps - 1 - k) d) x ≡ true
        later k x f lt g = let place : suc (length ps) - 1 - k ≡ suc (length ps - 1 - k) = omega (arith, lt) in
            ap (λ q. is_value_of w q x) (sym (ap (λ n. get_or (part ∷ ps) n d) place)) ∙ g

        step : (s : List Cell) (n : ℕ) (x : Cell) (more : List Cell) → drop n s ≡ x ∷ more → (slice_get s n ≡ Some x)
            × (drop (suc n) s ≡ more)
        step [] zero x more g = absurd cc
        step [] (suc n) x more g = absurd cc
        step (y ∷ s) zero x more g = (let h : y ≡ x = cc in ap Some h, cc)
        step (y ∷ s) (suc n) x more g = step s n x more g

        first : (v : List Cell) → drop (length ps) s ≡ v → has_wrong is_of (needs_of t ++ rest) (cells (drop (length ps)
            s)) ≡ false
        first [] g = ap (λ v. has_wrong is_of (needs_of t ++ rest) (cells v)) g ∙ none (needs_of t ++ rest)
          where
            none : (ns : List Need) → has_wrong is_of ns [] ≡ false
            none [] = refl
            none (n ∷ ns) = refl
        first (x ∷ more) g =
            let there = step s (length ps) x more g in
            let last : suc (length ps) - 1 - length ps ≡ 0 = omega arith in
            let value : is_value_of w part x ≡ true = sym (ap (λ n. is_value_of w (get_or (part ∷ ps) n d) x) last)
            ∙ each (length ps) x there.0 (omega arith) in
            ap (λ v. has_wrong is_of (needs_of t ++ rest) (cells v)) g ∙ value_passes part.kind part.class t typed.0
            typed.1 x value rest more (sym (ap (λ v. has_wrong is_of rest (cells v)) there.1) ∙ e)

    -- as many words as parameters
    params_many : (ps : List Part) (ts : List ValueType) → AreTypesFor card_type ps ts → length (needs_of_all ts)
        ≡ length ps
    params_many [] [] typed = refl
    params_many [] (t ∷ ts) typed = absurd typed
    params_many (part ∷ ps) [] typed = absurd typed
    params_many (part ∷ ps) (t ∷ ts) typed =
        let one : length (needs_of t) ≡ 1 = by part.kind t part.class typed.0 typed.1 in
        let more = params_many ps ts typed.2 in
        length-append (needs_of_all ts) (needs_of t) ∙ omega (arith, one, more)
      where
        by : (kind : Kind) (t : ValueType) (class : List ℕ) → IsTypeFor card_type kind class t → is_void kind ≡ false
            → length (needs_of t) ≡ 1
        by kinds.Bool Boolean class e f = refl
        by kinds.Byte Byte class e f = refl
        by kinds.Short Short class e f = refl
        by kinds.Ref (Reference type) class e f = refl
        by kinds.Void t class e f = absurd cc
        by kind t class e f = absurd e

    -- a call, where what it has behind its arguments is what it is called on
    calling_mirrors : (opcode : ℕ) (m : MemberId) (t : MemberType) → MethodFits card_type m t → (receiver : List Need)
        → length receiver ≡ receivers opcode → (ls s : List Cell) → has_wrong_by_name w b (jop.Call opcode m) (takes
        (jop.Call opcode m)) 0 s ≡ false → (let d = parts m.desc in has_wrong is_of receiver (cells (drop (length
        d.params)
        s))) ≡ false → Mirrors card_type is_of (jop.Call opcode m) (calling t receiver false) ls s
    calling_mirrors opcode m t fits receiver one ls s e behind =
        let d = parts m.desc in
        let many = params_many d.params t.params fits.params in
        record {
          as_many = length-append (needs_of_all t.params) receiver ∙ omega (arith, many, one);
          puts = result_puts d.result t.result fits.result (cells ls) (cells s);
          writes = zip_itself (cells ls);
          operands = arguments_pass d.params t.params d.result fits.params s (λ k x f lt. value k x f lt) receiver
              behind;
          locals_right = refl;
          fits = refl;
          there = refl;
          known = refl;
          named = refl;
        }
      where
        value : (k : ℕ) (x : Cell) → slice_get s k ≡ Some x → k < length (let d = parts m.desc in d.params)
            → (let d = parts m.desc in is_value_of w (get_or d.params (length d.params - 1 - k) d.result) x) ≡ true
        value k x f lt =
            let d = parts m.desc in
            let within : nat_lt k (length d.params) ≡ true = grind (arith, nat_tests, lt) in
            sym (ap (λ v. if v then is_value_of w (get_or d.params (length d.params - 1 - k) d.result) x else
            is_of_class w
            (receiver_class w b opcode m) x) within) ∙ first_operand w b (jop.Call opcode m) (takes (jop.Call opcode
            m)) s e k x f (omega (arith, lt))

    -- invokestatic
    pub static_mirrors : (m : MemberId) (t : MemberType) → MethodFits card_type m t → (ls s : List Cell)
        → has_wrong_by_name w b (jop.Call jvm.invokestatic m) (takes (jop.Call jvm.invokestatic m)) 0 s ≡ false
        → Mirrors card_type is_of (jop.Call jvm.invokestatic m) (calling t [] false) ls s
    static_mirrors m t fits ls s e = calling_mirrors jvm.invokestatic m t fits [] refl ls s e refl

    -- a call on a receiver of a type
    pub object_mirrors : (opcode : ℕ) → (opcode == jvm.invokestatic) ≡ false → (m : MemberId) (t : MemberType)
        (type : List ℕ) → MethodFits card_type m t → PassesFor card_type is_of w (receiver_class w b opcode m) type
        → (ls s : List Cell) → has_wrong_by_name w b (jop.Call opcode m) (takes (jop.Call opcode m)) 0 s ≡ false
        → Mirrors card_type is_of (jop.Call opcode m) (calling_on t type false) ls s
    object_mirrors opcode other m t type fits passes ls s e =
        let one : receivers opcode ≡ 1 = ap (λ (v : Bool). if v then 0 else 1) other in
        calling_mirrors opcode m t fits (OfType type ∷ []) (sym one) ls s e (by (drop (length (let d = parts m.desc
        in d.params)) s) refl)
      where
        at : (s : List Cell) (n : ℕ) (x : Cell) (more : List Cell) → drop n s ≡ x ∷ more → slice_get s n ≡ Some x
        at [] zero x more g = absurd cc
        at [] (suc n) x more g = absurd cc
        at (y ∷ s) zero x more g = let h : y ≡ x = cc in ap Some h
        at (y ∷ s) (suc n) x more g = at s n x more g

        receives : (x : Cell) (more : List Cell) → drop (length (let d = parts m.desc in d.params)) s ≡ x ∷ more
            → is_of_class w (receiver_class w b opcode m) x ≡ true
        receives x more g =
            let d = parts m.desc in
            let n = length d.params in
            let one : receivers opcode ≡ 1 = ap (λ (v : Bool). if v then 0 else 1) other in
            let past : nat_lt n n ≡ false = grind (arith, nat_tests) in
            sym (ap (λ v. if v then is_value_of w (get_or d.params (n - 1 - n) d.result) x else is_of_class w
            (receiver_class w b opcode m) x) past) ∙ first_operand w b (jop.Call opcode m) (takes (jop.Call opcode m))
            s e n x (at s n x more g) (omega (arith, one))

        by : (v : List Cell) → drop (length (let d = parts m.desc in d.params)) s ≡ v → has_wrong is_of (OfType type
            ∷ []) (cells (drop (length (let d = parts m.desc in d.params)) s)) ≡ false
        by [] g = ap (λ u. has_wrong is_of (OfType type ∷ []) (cells u)) g
        by (x ∷ more) g = ap (λ u. has_wrong is_of (OfType type ∷ []) (cells u)) g ∙ ap (λ u. not u || false)
            (passes x (receives x more g))

-- ---- handlers

listed_some : (o : Option (List ℕ)) (n : List ℕ) → In n (option_to_list o) → o ≡ Some n
listed_some None n i = absurd i
listed_some (Some type) n (inl same) = ap Some same
listed_some (Some type) n (inr none) = absurd none

caught_types : (card_type : List ℕ → Option (List ℕ)) (o : Option (List ℕ)) (class : List ℕ) → IsCaughtAs card_type o
    class → IsWithin (option_to_list o) (types_named card_type (class ∷ []))
caught_types card_type o class (by_name e) n i = type_in card_type (class ∷ []) class n (inl refl) (its_own (sym e
    ∙ listed_some o n i))
caught_types card_type o class (by_any is e) n i = type_in card_type (class ∷ []) class n (inl refl) (thrown is (sym e
    ∙ listed_some o n i))

-- the exception that a handler takes is of the type of its class
pub handler_below : (card_type : List ℕ → Option (List ℕ)) (o : Open) (count : ℕ) (c : Catch) (j : CatchByName)
    → IsCaughtAs card_type c.caught (caught_type j.class) → (x : State)
    → (let s = states count in s.Below (caught c (card_state card_type o x)) (card_state card_type closed
    (caught_by_name j x)))
handler_below card_type o count c j is x = (
  (caught_types card_type c.caught (caught_type j.class) is, tt),
  zip_itself (card_cells card_type x.locals),
)
