-- What the instructions take and give that are written in int mode for an instruction that names a field, a method, a
-- class or a type, by what its entry of the constant pool says.
use Rattle.std.proofs.Common.{◌≡◌, ℕ, ◌+◌, refl, ap, ◌∙◌, Bool, true, false, List, [], ◌∷◌, ◌++◌}
use Rattle.std.proofs.Common.{length, Option, Some, None}
use Rattle.std.specs.Prelude.{not, ℤ}
use Rattle.cjc_types.specs.Bytecode.declared.insn.JOp.TheVariants as jop
use Rattle.cjc_types.specs.Bytes.declared.fault.MemberId.{MemberId}
use Rattle.cjc_types.specs.World.Classes.{Class}
use Rattle.cjc_check_proof.specs.NCode.Lowering.Naming.{Naming}
use Rattle.cjc_check_proof.specs.NCode.Written.{Resolution, element_number, field_access}
use Rattle.cjc_check_proof.specs.NCode.Written.{static_access, type_test}
use Rattle.cjc_check_proof.specs.NCode.declared.narrow.NInsn.{NInsn}
use Rattle.cjc_check_proof.specs.NCode.declared.narrow.NInsn.TheVariants.{Named, NewArray, Op, TypeTest}
use Rattle.cjc_check_proof.specs.NCode.declared.narrow.PoolKey.TheVariants as keys
use Rattle.cjc_ncode.specs.IntCode.IntCode.{Before, Frame, narrowed, static_get, widened, written}
use Rattle.cjc_frames.specs.Acts.{Subtype}
use Rattle.cjc_frames.specs.declared.acts.Act.{Act}
use Rattle.cjc_frames.specs.declared.acts.Given.TheVariants.{ANumber, AnObject}
use Rattle.cjc_frames.specs.declared.acts.Need.TheVariants.{NumberWord, OfArrays, OfType, ReferenceWord}
use Rattle.cjc_verify.specs.CapRead.declared.tree.ClassRef.{ClassRef}
use Rattle.cjc_verify.specs.CapRead.declared.tree.PoolEntry.TheVariants as entries
use Rattle.cjc_verify.specs.CardActs.CardTypes.{ValueType, all_arrays, is_moved_by, needs_of, numbers_type}
use Rattle.cjc_verify.specs.CardActs.CardTypes.{words as words_given}
use Rattle.cjc_verify.specs.CardActs.CardTypes as types
use Rattle.cjc_verify.specs.CardActs.Rows.{calculating, idle, pushing, row}
use Rattle.cjc_verify.specs.CardSemantics.Bytecode.Meanings.{Gets, GetsStatic, Makes, MakesReferences, Puts, PutsStatic}
use Rattle.cjc_verify.specs.ClassTypes.{array_type, class_type}
use Rattle.cjc_verify.specs.Components.Types.{array_nibble}
use Rattle.cjc_verify.specs.Instructions.{asking, casting, class_in, exception_needs, last, making_numbers, tested_type}
use Rattle.cjc_verify.specs.Instructions.{throwable, using_some}
use Rattle.cjc_verify.specs.Named.{entry_type, is_outside, is_static_outside, names_unmade}
use Rattle.cjc_verify.specs.Pairs.{Pair}
use Rattle.cjc_verify.specs.Script.Sorts.{Booleans, Bytes, Element, Ints, OfNumbers, Shorts, Sort, field_sort}
use Rattle.cjc_verify.specs.Script.Sorts as sorts
use Rattle.cjc_accepted_proof.specs.Plain.{act_laid}
use Rattle.cjc_accepted_proof.specs.Served.{TypeServed, entry_for, letter_of}
use Rattle.cjc_accepted_proof.specs.Served as serves
use Rattle.cjc_accepted_proof.proofs.InstructionsLaws.Named as named
use Rattle.cjc_int_accepted.specs.Acts.{cutting, taking, widening}
use Rattle.cjc_int_accepted.specs.Laid.{acts_laid}
use Rattle.cjc_int_accepted.specs.Named.{FieldNamed, StaticNamed, field_type, static_type}
use Rattle.cjc_int_accepted.proofs.ActsLaws.{number_act}
use Rattle.cjc_int_accepted.proofs.WrittenLaws.{acted_both}

module _ (p : Pair) (result : ValueType) (n : Naming) (to : ℕ → ℕ) (wide : ℕ → Bool) where
  -- the acts of a list where it is laid
  abbrev acted : (here : ℕ) → List NInsn → List Act
  acted here insns = acts_laid p result n to wide here insns

  -- the act of one instruction
  abbrev one : (here : ℕ) → NInsn → Act
  one here insn = act_laid p result n to (to here) (wide here) insn

  -- ---- values of one word

  pub widened_acts : (s : Sort) (t : ValueType) → is_moved_by (letter_of s) t ≡ true → (at : ℕ) → acted at (widened s)
      ≡ widening t
  unfolding row
  widened_acts sorts.Boolean types.Boolean e at = refl
  widened_acts sorts.Boolean types.Byte e at = refl
  widened_acts sorts.Byte types.Boolean e at = refl
  widened_acts sorts.Byte types.Byte e at = refl
  widened_acts sorts.Short types.Short e at = refl
  widened_acts sorts.Int types.Int e at = refl
  widened_acts (sorts.Reference shape) (types.Reference type) e at = refl
  widened_acts sorts.NoValue (types.Reference type) e at = refl
  widened_acts s t e at = absurd cc

  pub narrowed_acts : (s : Sort) (t : ValueType) → is_moved_by (letter_of s) t ≡ true → (at : ℕ) → acted at (narrowed s)
      ≡ cutting t
  unfolding row
  narrowed_acts sorts.Boolean types.Boolean e at = refl
  narrowed_acts sorts.Boolean types.Byte e at = refl
  narrowed_acts sorts.Byte types.Boolean e at = refl
  narrowed_acts sorts.Byte types.Byte e at = refl
  narrowed_acts sorts.Short types.Short e at = refl
  narrowed_acts sorts.Int types.Int e at = refl
  narrowed_acts (sorts.Reference shape) (types.Reference type) e at = refl
  narrowed_acts sorts.NoValue (types.Reference type) e at = refl
  narrowed_acts s t e at = absurd cc

  -- with what stands before it
  behind : (here : ℕ) (x : NInsn) (a : Act) (xs : List NInsn) (acts : List Act) → one here x ≡ a → acted (here + 1) xs
      ≡ acts → acted here (x ∷ xs) ≡ a ∷ acts
  behind here x a xs acts e g = ap (λ y. y ∷ acted (here + 1) xs) e ∙ ap (λ ys. a ∷ ys) g

  before : (here : ℕ) (x : NInsn) (a : Act) (xs : List NInsn) (acts : List Act) → acted here xs ≡ acts → one (here
      + length xs) x ≡ a → acted here (xs ++ x ∷ []) ≡ acts ++ a ∷ []
  before here x a xs acts e g =
      acted_both p result n to wide here xs (x ∷ [])
      ∙ ap (λ ys. ys ++ one (here + length xs) x ∷ []) e
      ∙ ap (λ y. acts ++ y ∷ []) g

  widen_act : (at : ℕ) → one at (Op 0x5C) ≡ calculating 1 2
  unfolding row
  widen_act at = refl

  cut_act : (at : ℕ) → one at (Op 0x5E) ≡ calculating 2 1
  unfolding row
  cut_act at = refl

  module _ (f : Frame) (r : Resolution) (place : ℕ → ℕ) (b : Before) (here : ℕ) where
    -- ---- fields

    pub constant_acts : (x : MemberId) (z : ℤ) → r.constant x ≡ Some z → acted here (written f r place b here
        (jop.Static false x)) ≡ pushing (ANumber ∷ ANumber ∷ []) ∷ []
    constant_acts x z e = ap (λ o. acted here (static_get r x o)) e ∙ ap (λ a. a ∷ []) (number_act p result n to (to
        here) (wide here) z)

    pub static_read_acts : (x : MemberId) → StaticNamed p n r x → acted here (written f r place b here (jop.Static false
        x)) ≡ taking [] (words_given (static_type p n r x)) true [] ∷ widening (static_type p n r x)
    static_read_acts x is =
        let key = keys.StaticField (r.field x) in
        let s = field_sort x.desc in
        let t = static_type p n r x in
        let act : one here (Named (static_access false s) key) ≡ taking [] (words_given t) true [] =
        named.get_static_act p result n to (to here) (wide here) s key
        ∙ ap (using_some p (GetsStatic (letter_of s)) (entry_type p (n.index key))) is.entry
        ∙ ap (λ (c : Bool). record idle {
          gives = words_given t;
          misfits = not c;
          misnames = is_static_outside is.field;
        }) is.moved ∙ ap (λ (c : Bool). record idle { gives = words_given t; misnames = c }) is.inside in
        ap (λ o. acted here (static_get r x o)) is.is_no_constant ∙ behind here (Named (static_access false s) key)
        (taking [] (words_given t) true []) (widened s) (widening t) act (widened_acts s t is.moved (here + 1))

    pub static_write_acts : (x : MemberId) → StaticNamed p n r x → acted here (written f r place b here (jop.Static true
        x)) ≡ cutting (static_type p n r x) ++ taking (needs_of (static_type p n r x)) [] true [] ∷ []
    static_write_acts x is =
        let key = keys.StaticField (r.field x) in
        let s = field_sort x.desc in
        let t = static_type p n r x in
        let at = here + length (narrowed s) in
        let act : one at (Named (static_access true s) key) ≡ taking (needs_of t) [] true [] =
        named.put_static_act p result n to (to at) (wide at) s key
        ∙ ap (using_some p (PutsStatic (letter_of s)) (entry_type p (n.index key))) is.entry
        ∙ ap (λ (c : Bool). record idle {
          takes = needs_of t;
          misfits = not c;
          misnames = is_static_outside is.field;
        }) is.moved ∙ ap (λ (c : Bool). record idle { takes = needs_of t; misnames = c }) is.inside in
        before here (Named (static_access true s) key) (taking (needs_of t) [] true []) (narrowed s) (cutting t)
        (narrowed_acts s t is.moved here) act

    pub read_acts : (x : MemberId) (class : ClassRef) → FieldNamed p n r x class → acted here (written f r place b here
        (jop.Field false x)) ≡ taking (OfType (class_type class) ∷ []) (words_given (field_type p n r x)) true []
        ∷ widening (field_type p n r x)
    read_acts x class is =
        let key = keys.Field (r.field x) in
        let s = field_sort x.desc in
        let t = field_type p n r x in
        let needs = OfType (class_type class) ∷ [] in
        let act : one here (Named (field_access false (r.is_near x) s) key) ≡ taking needs (words_given t) true [] =
        named.get_act p result n to (to here) (wide here) (r.is_near x) s key
        ∙ ap (using_some p (Gets false (letter_of s)) (entry_type p (n.index key))) is.entry
        ∙ ap (λ (c : Bool). record idle {
          takes = needs;
          gives = words_given t;
          misfits = not c;
          misnames = is_outside class;
        }) is.moved
        ∙ ap (λ (c : Bool). record idle { takes = needs; gives = words_given t; misnames = c }) is.inside in
        behind here (Named (field_access false (r.is_near x) s) key) (taking needs (words_given t) true []) (widened s)
        (widening t) act (widened_acts s t is.moved (here + 1))

    pub write_acts : (x : MemberId) (class : ClassRef) → FieldNamed p n r x class → acted here (written f r place b here
        (jop.Field true x)) ≡ cutting (field_type p n r x) ++ taking (needs_of (field_type p n r x) ++ OfType
        (class_type class) ∷ []) [] true [] ∷ []
    write_acts x class is =
        let key = keys.Field (r.field x) in
        let s = field_sort x.desc in
        let t = field_type p n r x in
        let needs = needs_of t ++ OfType (class_type class) ∷ [] in
        let at = here + length (narrowed s) in
        let act : one at (Named (field_access true (r.is_near x) s) key) ≡ taking needs [] true [] =
        named.put_act p result n to (to at) (wide at) (r.is_near x) s key
        ∙ ap (using_some p (Puts false (letter_of s)) (entry_type p (n.index key))) is.entry
        ∙ ap (λ (c : Bool). record idle { takes = needs; misfits = not c; misnames = is_outside class }) is.moved
        ∙ ap (λ (c : Bool). record idle { takes = needs; misnames = c }) is.inside in
        before here (Named (field_access true (r.is_near x) s) key) (taking needs [] true []) (narrowed s) (cutting t)
        (narrowed_acts s t is.moved here) act

    -- ---- what is made

    pub object_acts : (c : List ℕ) (class : ClassRef) → entry_for p n (keys.Class c) ≡ Some (entries.Classref class)
        → names_unmade p class ≡ false → acted here (written f r place b here (jop.New c)) ≡ taking [] (AnObject
        (class_type class) ∷ []) true [] ∷ []
    object_acts c class entry made = ap (λ a. a ∷ []) (named.new_act p result n to (to here) (wide here) (keys.Class c)
        ∙ ap (using_some p Makes (entry_type p (n.index (keys.Class c)))) entry
        ∙ ap (λ (u : Bool). record idle { gives = AnObject (class_type class) ∷ []; misnames = u }) made)

    pub array_acts : (c : List ℕ) (class : ClassRef) → entry_for p n (keys.Class c) ≡ Some (entries.Classref class)
        → acted here (written f r place b here (jop.ANewArray c)) ≡ calculating 2 1 ∷ taking (NumberWord ∷ [])
        (AnObject (array_type class) ∷ []) true [] ∷ []
    array_acts c class entry = behind here (Op 0x5E) (calculating 2 1) (Named 0x91 (keys.Class c) ∷ []) (taking
        (NumberWord ∷ []) (AnObject (array_type class) ∷ []) true [] ∷ []) (cut_act here) (ap (λ a. a ∷ [])
        (named.references_act p result n to (to (here + 1)) (wide (here + 1)) (keys.Class c) ∙ ap (using_some p
        MakesReferences (entry_type p (n.index (keys.Class c)))) entry))

    pub numbers_acts : (kind : ℕ) (type : List ℕ) → numbers_type (element_number kind) ≡ Some type → acted here (written
        f r place b here (jop.NewArray kind)) ≡ calculating 2 1 ∷ taking (NumberWord ∷ []) (AnObject type ∷ []) true []
        ∷ []
    numbers_acts kind type is = behind here (Op 0x5E) (calculating 2 1) (NewArray (element_number kind) ∷ []) (taking
        (NumberWord ∷ []) (AnObject type ∷ []) true [] ∷ []) (cut_act here) (ap (λ a. a ∷ []) (named.making_act p result
        n to (to (here + 1)) (wide (here + 1)) (element_number kind) ∙ ap making_numbers is))

    -- ---- lengths and exceptions

    pub length_acts : acted here (written f r place b here jop.ArrayLength) ≡ taking (OfArrays all_arrays ∷ []) (ANumber
        ∷ []) true [] ∷ calculating 1 2 ∷ []
    unfolding row
    length_acts = refl

    pub throw_acts : (type : List ℕ) → throwable p ≡ Some type → acted here (written f r place b here jop.Throw)
        ≡ taking (OfType type ∷ []) [] false [] ∷ []
    throw_acts type e = ap (λ a. a ∷ []) (named.throw_act p result n to (to here) (wide here) ∙ ap (λ o. last
        (exception_needs o)) e)

    -- ---- tests of types

    module _ (card_type : List ℕ → Option (List ℕ)) (is_of : Subtype) (w : List Class) where
      -- the type of a name
      same_type : (o : Option (List ℕ)) (x y : List ℕ) → o ≡ Some x → o ≡ Some y → x ≡ y
      same_type o x y e g = cc

      pub cast_acts : (name : List ℕ) → TypeServed card_type is_of w p n r name → (type : List ℕ) → card_type name
          ≡ Some type → acted here (written f r place b here (jop.CheckCast name)) ≡ taking (ReferenceWord ∷ [])
          (AnObject type ∷ []) true [] ∷ []
      cast_acts name (serves.a_class c class is entry typed) type e = ap (λ o. acted here (type_test 0x94 o)) is ∙ ap
          (λ a. a ∷ []) (named.cast_act p result n to (to here) (wide here) 0 c ∙ ap (λ o. casting (tested_type 0
          (class_in o))) entry ∙ ap (λ t. casting (Some t)) (same_type (card_type name) (class_type class) type typed
          e))
      cast_acts name (serves.references c class is entry typed) type e = ap (λ o. acted here (type_test 0x94 o)) is
          ∙ ap (λ a. a ∷ []) (named.cast_act p result n to (to here) (wide here) 14 c ∙ ap (λ o. casting (tested_type 14
          (class_in o))) entry ∙ ap (λ t. casting (Some t)) (same_type (card_type name) (array_type class) type typed
          e))
      cast_acts name (serves.numbers element is typed) type e = ap (λ o. acted here (type_test 0x94 o)) is ∙ by element
          ∙ ap (λ t. casting (Some t) ∷ []) (same_type (card_type name) (array_nibble element ∷ []) type typed e)
        where
          by : (x : Element) → acted here (type_test 0x94 (Some (OfNumbers x))) ≡ casting (Some (array_nibble x ∷ []))
              ∷ []
          by Booleans = ap (λ a. a ∷ []) (named.cast_numbers_act p result n to (to here) (wide here) 10)
          by Bytes = ap (λ a. a ∷ []) (named.cast_numbers_act p result n to (to here) (wide here) 11)
          by Shorts = ap (λ a. a ∷ []) (named.cast_numbers_act p result n to (to here) (wide here) 12)
          by Ints = ap (λ a. a ∷ []) (named.cast_numbers_act p result n to (to here) (wide here) 13)

      pub test_acts : (name : List ℕ) → TypeServed card_type is_of w p n r name → acted here (written f r place b here
          (jop.InstanceOf name)) ≡ taking (ReferenceWord ∷ []) (ANumber ∷ []) true [] ∷ calculating 1 2 ∷ []
      test_acts name (serves.a_class c class is entry typed) = ap (λ o. acted here (type_test 0x95 o ++ Op 0x5C ∷ []))
          is
          ∙ behind here (TypeTest 0x95 0 (Some c)) (taking (ReferenceWord ∷ []) (ANumber ∷ []) true []) (Op 0x5C ∷ [])
          (calculating 1 2 ∷ []) (named.test_act p result n to (to here) (wide here) 0 c ∙ ap (λ o. asking (tested_type
          0 (class_in o))) entry) (ap (λ a. a ∷ []) (widen_act (here + 1)))
      test_acts name (serves.references c class is entry typed) = ap (λ o. acted here (type_test 0x95 o ++ Op 0x5C
          ∷ [])) is
          ∙ behind here (TypeTest 0x95 14 (Some c)) (taking (ReferenceWord ∷ []) (ANumber ∷ []) true []) (Op 0x5C ∷ [])
          (calculating 1 2 ∷ []) (named.test_act p result n to (to here) (wide here) 14 c ∙ ap (λ o. asking (tested_type
          14 (class_in o))) entry) (ap (λ a. a ∷ []) (widen_act (here + 1)))
      test_acts name (serves.numbers element is typed) = ap (λ o. acted here (type_test 0x95 o ++ Op 0x5C ∷ [])) is ∙ by
          element
        where
          asked : (kind : ℕ) → one here (TypeTest 0x95 kind None) ≡ taking (ReferenceWord ∷ []) (ANumber ∷ []) true []
              → acted here (TypeTest 0x95 kind None ∷ Op 0x5C ∷ []) ≡ taking (ReferenceWord ∷ []) (ANumber ∷ []) true []
              ∷ calculating 1 2 ∷ []
          asked kind e = behind here (TypeTest 0x95 kind None) (taking (ReferenceWord ∷ []) (ANumber ∷ []) true [])
              (Op 0x5C ∷ []) (calculating 1 2 ∷ []) e (ap (λ a. a ∷ []) (widen_act (here + 1)))

          by : (x : Element) → acted here (type_test 0x95 (Some (OfNumbers x)) ++ Op 0x5C ∷ []) ≡ taking (ReferenceWord
              ∷ []) (ANumber ∷ []) true [] ∷ calculating 1 2 ∷ []
          by Booleans = asked 10 (named.test_numbers_act p result n to (to here) (wide here) 10)
          by Bytes = asked 11 (named.test_numbers_act p result n to (to here) (wide here) 11)
          by Shorts = asked 12 (named.test_numbers_act p result n to (to here) (wide here) 12)
          by Ints = asked 13 (named.test_numbers_act p result n to (to here) (wide here) 13)
