-- What is written for an instruction that names a field, a class or a type stands between its frames, where what its
-- entry names is what the class file names; so does what is written for arraylength and athrow.
use Rattle.std.proofs.Common.{◌≡◌, ℕ, refl, sym, ap, subst, ◌∙◌, arith, Bool, true, false, List, [], ◌∷◌, ◌++◌, Option}
use Rattle.std.proofs.Common.{Some, None, ℤ}
use Rattle.std.specs.Prelude.{◌||◌, ◌&&◌, not, if◌then◌else◌}
use Rattle.std.specs.List.{AllZip, list_all}
use Rattle.cjc_types.specs.Bytecode.declared.insn.JOp.{JOp}
use Rattle.cjc_types.specs.Bytecode.declared.insn.JOp.TheVariants as jop
use Rattle.cjc_types.specs.Bytes.declared.fault.MemberId.{MemberId}
use Rattle.cjc_types.specs.Cells.{IsCellBelow}
use Rattle.cjc_types.specs.Flow.{Body as BodyByName}
use Rattle.cjc_types.specs.Rules.{has_wrong, is_of as is_of_class, throwable as throwable_by_name}
use Rattle.cjc_types.specs.Types.{array_of, letter, parts, result_of}
use Rattle.cjc_types.specs.World.Classes.{Class}
use Rattle.cjc_types.specs.World.Subtype.{starts}
use Rattle.cjc_types.specs.declared.cell.Cell.{Cell}
use Rattle.cjc_types.specs.declared.cell.Cell.TheVariants.{Number, Refs, Unusable}
use Rattle.cjc_types.specs.declared.state.State.{State}
use Rattle.cjc_check_proof.specs.NCode.Lowering.Naming.{Naming}
use Rattle.cjc_check_proof.specs.NCode.Written.{Resolution, element_number}
use Rattle.cjc_check_proof.specs.NCode.declared.narrow.PoolKey.TheVariants as keys
use Rattle.cjc_ncode.specs.IntCode.IntCode.{Before, Frame}
use Rattle.cjc_frames.specs.Acts.{Subtype}
use Rattle.cjc_frames.specs.declared.acts.Given.TheVariants.{ANumber, AnObject}
use Rattle.cjc_frames.specs.declared.acts.Need.{Need}
use Rattle.cjc_frames.specs.declared.acts.Need.TheVariants.{NumberWord, OfArrays, OfType, ReferenceWord}
use Rattle.cjc_verify.specs.CapRead.declared.tree.ClassRef.{ClassRef}
use Rattle.cjc_verify.specs.CapRead.declared.tree.PoolEntry.TheVariants as entries
use Rattle.cjc_verify.specs.CardActs.CardTypes.{ValueType, all_arrays, needs_of, numbers_type, words as words_given}
use Rattle.cjc_verify.specs.CardActs.Rows.{calculating, pushing}
use Rattle.cjc_verify.specs.ClassTypes.{array_type, class_type}
use Rattle.cjc_verify.specs.Components.Types.{array_nibble}
use Rattle.cjc_verify.specs.Instructions.{exception_needs, last, throwable}
use Rattle.cjc_verify.specs.Named.{names_unmade}
use Rattle.cjc_verify.specs.Pairs.{Pair}
use Rattle.cjc_accepted_proof.specs.Elements.{ArraysAgree}
use Rattle.cjc_accepted_proof.specs.Frames.{SubtypesAgree}
use Rattle.cjc_accepted_proof.specs.Served.{TypeServed, entry_for}
use Rattle.cjc_accepted_proof.specs.Served as serves
use Rattle.cjc_accepted_proof.proofs.InstructionsLaws.Named as acts
use Rattle.cjc_accepted_proof.proofs.InstructionsLaws.Objects.{any_array_meets}
use Rattle.cjc_accepted_proof.proofs.RowsLaws.{zip_itself}
use Rattle.cjc_int_accepted.specs.Acts.{cutting, is_short, taking, widening}
use Rattle.cjc_int_accepted.specs.Ends.{LeadAtEnd}
use Rattle.cjc_int_accepted.specs.Frames.{Room, stack_words}
use Rattle.cjc_int_accepted.specs.Methods.{Selection}
use Rattle.cjc_int_accepted.specs.Named.{field_type, static_type}
use Rattle.cjc_int_accepted.specs.Runs.{IsOn, Runs}
use Rattle.cjc_int_accepted.specs.Served.{FieldServed, StaticServed}
use Rattle.cjc_int_accepted.specs.Standing.{IsStanding}
use Rattle.cjc_int_accepted.proofs.NamedLaws as laid
use Rattle.cjc_int_accepted.proofs.ReturnsStandLaws.{cut_ends}
use Rattle.cjc_int_accepted.proofs.RowsLaws.Objects.{ask_runs, cast_runs, field_read, field_written, length_runs}
use Rattle.cjc_int_accepted.proofs.RowsLaws.Objects.{new_runs, numbers_made, references_made, static_read}
use Rattle.cjc_int_accepted.proofs.RowsLaws.Objects.{static_written, throw_runs}
use Rattle.cjc_int_accepted.proofs.RowsLaws.Sound.{row_of_one}
use Rattle.cjc_int_accepted.proofs.SingleLaws.{standing}
use Rattle.cjc_int_accepted.proofs.StandLaws.{none_in, nowhere}

-- a value that comes back and is widened
widened_ends : (label to : ℕ → ℕ) (op : JOp) (needs : List Need) (t : ValueType) → LeadAtEnd label to op (taking needs
    (words_given t) true [] ∷ widening t)
widened_ends label to op needs t = by (is_short t)
  where
    by : (short : Bool) → LeadAtEnd label to op (taking needs (words_given t) true [] ∷ (if short
        then calculating 1 2 ∷ [] else []))
    by true = (none_in, nowhere label to op)
    by false = nowhere label to op

-- the operand on top is one that the instruction accepts
on_top : (c d : Bool) → ((true && not c) || d) ≡ false → c ≡ true
on_top true d e = refl
on_top false d e = absurd cc

module _ (card_type : List ℕ → Option (List ℕ)) (is_of : Subtype) (m : Room) (new : Selection) (b : BodyByName)
    (rows : List (Option State)) (label to : ℕ → ℕ) (p : Pair) (result : ValueType) (n : Naming) (wide : ℕ → Bool)
    (f : Frame) (r : Resolution) (known : Before) (w : List Class) (count place here o : ℕ) (x : State) where
  abbrev Standing : JOp → Type 0
  Standing op = IsStanding card_type is_of m new b rows label to p result n wide f r known w count place here o x op

  abbrev words : List Cell → List Cell
  words s = stack_words card_type s

  -- ---- constants

  constant_runs : (g : MemberId) → (let d = parts g.desc in result_of d.result) ≡ Number ∷ [] → (ls s : List Cell)
      → IsOn b.max_stack (jop.Static false g) ls s → Runs card_type is_of m b.max_stack (jop.Static false g) (pushing
      (ANumber ∷ ANumber ∷ []) ∷ []) ls s
  constant_runs g told ls s on = row_of_one card_type is_of m b.max_stack (jop.Static false g) [] (ANumber ∷ ANumber
      ∷ []) true [] ls s on (omega arith) refl (subst (λ (cells : List Cell). AllZip IsCellBelow (Number ∷ Number ∷
      words
      s) (words (cells ++ s))) (sym told) (tt, (tt, zip_itself (words s)))) refl

  pub constant_stands : (g : MemberId) (z : ℤ) → r.constant g ≡ Some z → (let d = parts g.desc in result_of d.result)
      ≡ Number ∷ [] → Standing (jop.Static false g)
  constant_stands g z e told = standing card_type is_of m new b rows label to p result n wide f r known w count place
      here o x (jop.Static false g) (pushing (ANumber ∷ ANumber ∷ []) ∷ []) (laid.constant_acts p result n to wide f r
      label known here g z e) (λ q. constant_runs g told x.locals q.stack q.on) (nowhere label to (jop.Static false g))
      (λ h. refl)

  -- ---- what is made

  pub object_stands : (c : List ℕ) (class : ClassRef) → entry_for p n (keys.Class c) ≡ Some (entries.Classref class)
      → card_type c ≡ Some (class_type class) → names_unmade p class ≡ false → Standing (jop.New c)
  object_stands c class entry typed made = standing card_type is_of m new b rows label to p result n wide f r known w
      count place here o x (jop.New c) (taking [] (AnObject (class_type class) ∷ []) true [] ∷ []) (laid.object_acts p
      result n to wide f r label known here c class entry made) (λ q. new_runs card_type is_of m b.max_stack c
      (class_type class) typed x.locals q.stack q.on) (nowhere label to (jop.New c)) (λ h. refl)

  pub array_stands : (c : List ℕ) (class : ClassRef) → entry_for p n (keys.Class c) ≡ Some (entries.Classref class)
      → card_type (array_of c) ≡ Some (array_type class) → Standing (jop.ANewArray c)
  array_stands c class entry typed = standing card_type is_of m new b rows label to p result n wide f r known w count
      place here o x (jop.ANewArray c) (calculating 2 1 ∷ taking (NumberWord ∷ []) (AnObject (array_type class) ∷ [])
      true [] ∷ []) (laid.array_acts p result n to wide f r label known here c class entry) (λ q. references_made
      card_type is_of m b.max_stack w b c (array_type class) typed x.locals q.stack q.on q.operands) (
        none_in,
        nowhere
            label to (jop.ANewArray c),
      ) (λ h. refl)

  pub numbers_stand : (kind : ℕ) (type : List ℕ) → numbers_type (element_number kind) ≡ Some type → card_type (91
      ∷ letter kind ∷ []) ≡ Some type → Standing (jop.NewArray kind)
  numbers_stand kind type is typed = standing card_type is_of m new b rows label to p result n wide f r known w count
      place here o x (jop.NewArray kind) (calculating 2 1 ∷ taking (NumberWord ∷ []) (AnObject type ∷ []) true [] ∷ [])
      (laid.numbers_acts p result n to wide f r label known here kind type is) (λ q. numbers_made card_type is_of m
      b.max_stack w b kind type typed x.locals q.stack q.on q.operands) (none_in, nowhere label to (jop.NewArray kind))
      (λ h. refl)

  -- ---- tests of types

  module _ (name : List ℕ) (is : TypeServed card_type is_of w p n r name) where
    -- its type on the card
    typed_as : (type : List ℕ) × (card_type name ≡ Some type)
    typed_as = by is
      where
        by : TypeServed card_type is_of w p n r name → (type : List ℕ) × (card_type name ≡ Some type)
        by (serves.a_class c class shape entry typed) = (class_type class, typed)
        by (serves.numbers element shape typed) = (array_nibble element ∷ [], typed)
        by (serves.references c class shape entry typed) = (array_type class, typed)

    pub cast_stands : Standing (jop.CheckCast name)
    cast_stands =
        let t = typed_as in
        standing card_type is_of m new b rows label to p result n wide f r known w count place here o x (jop.CheckCast
        name) (taking (ReferenceWord ∷ []) (AnObject t.0 ∷ []) true [] ∷ []) (laid.cast_acts p result n to wide f r
        label
        known here card_type is_of w name is t.0 t.1) (λ q. cast_runs card_type is_of m b.max_stack w b name t.0 t.1
        x.locals q.stack q.on q.operands) (nowhere label to (jop.CheckCast name)) (λ h. refl)

    pub test_stands : Standing (jop.InstanceOf name)
    test_stands = standing card_type is_of m new b rows label to p result n wide f r known w count place here o x
        (jop.InstanceOf name) (taking (ReferenceWord ∷ []) (ANumber ∷ []) true [] ∷ calculating 1 2 ∷ [])
        (laid.test_acts
        p result n to wide f r label known here card_type is_of w name is) (λ q. ask_runs card_type is_of m b.max_stack
        w
        b name x.locals q.stack q.on q.operands) (none_in, nowhere label to (jop.InstanceOf name)) (λ h. refl)

  -- ---- arraylength

  module _ (arrays : ArraysAgree card_type) where
    array_length_runs : (ls s : List Cell) → IsOn b.max_stack jop.ArrayLength ls s → has_wrong w b jop.ArrayLength 1 0 s
        ≡ false → Runs card_type is_of m b.max_stack jop.ArrayLength (taking (OfArrays all_arrays ∷ []) (ANumber ∷ [])
        true [] ∷ calculating 1 2 ∷ []) ls s
    array_length_runs ls [] on e = let enough = on.enough in absurd (omega (arith, enough))
    array_length_runs ls (Number ∷ s) on e = absurd cc
    array_length_runs ls (Unusable ∷ s) on e = absurd cc
    array_length_runs ls (Refs names ∷ s) on e = length_runs card_type is_of m b.max_stack w b ls names s on
        (any_array_meets card_type is_of w b arrays (Refs names) (on_top (list_all (starts 91) names) (has_wrong w b
        jop.ArrayLength 1 1 s) e))

    pub length_stands : Standing jop.ArrayLength
    length_stands = standing card_type is_of m new b rows label to p result n wide f r known w count place here o x
        jop.ArrayLength (taking (OfArrays all_arrays ∷ []) (ANumber ∷ []) true [] ∷ calculating 1 2 ∷ [])
        (laid.length_acts p result n to wide f r label known here) (λ q. array_length_runs x.locals q.stack q.on
        q.operands) (none_in, nowhere label to jop.ArrayLength) (λ h. refl)

  module _ (agree : SubtypesAgree card_type is_of w) where
    -- ---- athrow

    -- where the card has no type of exceptions
    any_thrown : (ls s : List Cell) → IsOn b.max_stack jop.Throw ls s → has_wrong w b jop.Throw 1 0 s ≡ false
        → Runs card_type is_of m b.max_stack jop.Throw (taking (ReferenceWord ∷ []) [] false [] ∷ []) ls s
    any_thrown ls [] on e = let enough = on.enough in absurd (omega (arith, enough))
    any_thrown ls (y ∷ s) on e = by y (on_top (is_of_class w throwable_by_name y) (has_wrong w b jop.Throw 1 1 s) e) on
      where
        by : (z : Cell) → is_of_class w throwable_by_name z ≡ true → IsOn b.max_stack jop.Throw ls (z ∷ s) → Runs
            card_type is_of m b.max_stack jop.Throw (taking (ReferenceWord ∷ []) [] false [] ∷ []) ls (z ∷ s)
        by Number g here_on = absurd cc
        by Unusable g here_on = absurd cc
        by (Refs names) g here_on = row_of_one card_type is_of m b.max_stack jop.Throw (ReferenceWord ∷ []) [] false []
            ls (Refs names ∷ s) here_on (omega arith) refl (zip_itself (words s)) refl

    pub throw_stands : throwable p ≡ card_type throwable_by_name → Standing jop.Throw
    throw_stands same = by (throwable p) refl
      where
        by : (type : Option (List ℕ)) → throwable p ≡ type → Standing jop.Throw
        by (Some type) e = standing card_type is_of m new b rows label to p result n wide f r known w count place here
            o x jop.Throw (taking (OfType type ∷ []) [] false [] ∷ []) (laid.throw_acts p result n to wide f r label
            known
            here type e) (λ q. throw_runs card_type is_of m b.max_stack w b agree type (sym same ∙ e) x.locals q.stack
            q.on q.operands) (nowhere label to jop.Throw) (λ h. absurd cc)
        by None e = standing card_type is_of m new b rows label to p result n wide f r known w count place here o x
            jop.Throw (taking (ReferenceWord ∷ []) [] false [] ∷ []) (ap (λ a. a ∷ []) (acts.throw_act p result n to (to
            here) (wide here) ∙ ap (λ t. last (exception_needs t)) e)) (λ q. any_thrown x.locals q.stack q.on
            q.operands)
            (nowhere label to jop.Throw) (λ h. absurd cc)

    -- ---- static fields

    module _ (g : MemberId) (is : StaticServed card_type is_of w p n r g) where
      abbrev static : ValueType
      static = static_type p n r g

      static_read_stands : Standing (jop.Static false g)
      static_read_stands = standing card_type is_of m new b rows label to p result n wide f r known w count place here
          o x (jop.Static false g) (taking [] (words_given static) true [] ∷ widening static) (laid.static_read_acts p
          result
          n to wide f r label known here g is.named) (λ q. static_read card_type is_of m b.max_stack w b agree g static
          is.typed x.locals q.stack q.on) (widened_ends label to (jop.Static false g) [] static) (λ h. refl)

      static_write_stands : Standing (jop.Static true g)
      static_write_stands = standing card_type is_of m new b rows label to p result n wide f r known w count place here
          o x (jop.Static true g) (cutting static ++ taking (needs_of static) [] true [] ∷ []) (laid.static_write_acts p
          result n to wide f r label known here g is.named) (λ q. static_written card_type is_of m b.max_stack w b
          agree g
          static is.typed is.is_value x.locals q.stack q.on q.operands) (cut_ends label to (jop.Static true g) static
          (needs_of static) true) (λ h. refl)

      pub static_stands : (put : Bool) → Standing (jop.Static put g)
      static_stands false = static_read_stands
      static_stands true = static_write_stands

    -- ---- instance fields

    module _ (g : MemberId) (is : FieldServed card_type is_of w p n r g) where
      abbrev held : ValueType
      held = field_type p n r g

      -- what it is a field of
      abbrev holder : List Need
      holder = OfType (class_type is.class) ∷ []

      field_read_stands : Standing (jop.Field false g)
      field_read_stands = standing card_type is_of m new b rows label to p result n wide f r known w count place here o
          x (jop.Field false g) (taking holder (words_given held) true [] ∷ widening held) (laid.read_acts p result n to
          wide f r label known here g is.class is.named) (λ q. field_read card_type is_of m b.max_stack w b agree g held
          (class_type is.class) is.typed is.receiver x.locals q.stack q.on q.operands) (widened_ends label to (jop.Field
          false g) holder held) (λ h. refl)

      field_write_stands : Standing (jop.Field true g)
      field_write_stands = standing card_type is_of m new b rows label to p result n wide f r known w count place here
          o x (jop.Field true g) (cutting held ++ taking (needs_of held ++ holder) [] true [] ∷ []) (laid.write_acts p
          result
          n to wide f r label known here g is.class is.named) (λ q. field_written card_type is_of m b.max_stack w b
          agree
          g held (class_type is.class) is.typed is.is_value is.receiver x.locals q.stack q.on q.operands) (cut_ends
          label
          to (jop.Field true g) held (needs_of held ++ holder) true) (λ h. refl)

      pub field_stands : (put : Bool) → Standing (jop.Field put g)
      field_stands false = field_read_stands
      field_stands true = field_write_stands
