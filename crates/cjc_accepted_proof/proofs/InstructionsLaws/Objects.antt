-- Instructions on objects and arrays: what they make, test, load and store is of the card's types of what the class
-- file names.
use Rattle.std.proofs.Common.{◌≡◌, ◌⊎◌, ℕ, suc, ◌+◌, ◌<◌, ◌≤◌, refl, sym, ap, subst, ◌∙◌, arith, inl, inr}
use Rattle.std.proofs.Common.{⊎_elim, Bool, true, false}
use Rattle.std.proofs.Common.{List, [], ◌∷◌, ◌++◌, length, map, Option, Some, None}
use Rattle.std.specs.Prelude.{◌||◌, ◌==◌, nat_le, if◌then◌else◌}
use Rattle.std.specs.List.{AllZip}
use Rattle.std.proofs.lemmas.Bool.Decides.{nat_tests}
use Rattle.cjc_types.specs.Bytecode.Jvm as jvm
use Rattle.cjc_types.specs.Bytecode.declared.insn.JOp.TheVariants as jop
use Rattle.cjc_types.specs.Cells.{IsCellBelow, most_names, refs}
use Rattle.cjc_types.specs.Flow.{Body}
use Rattle.cjc_types.specs.Names.{In, IsSet, IsWithin}
use Rattle.cjc_types.specs.Working.NameLaws.{insert_cases, insert_new, insert_old, length_within, set_insert}
use Rattle.cjc_types.specs.Rules.{all_types, has_wrong as has_wrong_by_name, is_array_for, is_of as is_of_class}
use Rattle.cjc_types.specs.Rules.{is_array_by, is_number, is_reference, is_some, throwable}
use Rattle.cjc_types.specs.Types.{array_of, elements as elements_by_name, element_of as element_by_name}
use Rattle.cjc_types.specs.Types.{held as held_by_name, letter, with_held as with_held_by_name}
use Rattle.cjc_types.specs.Steps.{operand}
use Rattle.cjc_types.specs.World.Classes.{Class}
use Rattle.cjc_types.specs.World.Lookup.{object}
use Rattle.cjc_types.specs.World.Subtype.{starts}
use Rattle.cjc_types.specs.declared.cell.Cell.{Cell}
use Rattle.cjc_types.specs.declared.cell.Cell.TheVariants.{Number, Refs, Unusable}
use Rattle.cjc_verify.specs.CardActs.CardTypes.{all_arrays, arrays_of}
use Rattle.cjc_verify.specs.CardActs.Rows.{idle, loading_item, storing_item, letter_needs, items_of}
use Rattle.cjc_verify.specs.CardSemantics.Bytecode.Effects.{Letter}
use Rattle.cjc_verify.specs.CardSemantics.Bytecode.Effects as letters
use Rattle.cjc_frames.specs.declared.acts.Given.TheVariants.{ANumber, AnObject}
use Rattle.cjc_frames.specs.declared.acts.Need.{Need}
use Rattle.cjc_frames.specs.declared.acts.Need.TheVariants.{NumberWord, OfArrays, OfType, ReferenceWord}
use Rattle.cjc_frames.specs.Acts.{Subtype, given, has_wrong, meets}
use Rattle.cjc_frames.specs.Types.{begins_with, element_of, elements, held, item_of, with_held}
use Rattle.cjc_verify.specs.Instructions.{asking, casting, exception_needs, last, making_numbers}
use Rattle.cjc_accepted_proof.specs.Elements.{ArraysAgree, letter_for, works_on_int}
use Rattle.cjc_accepted_proof.specs.Frames.{IsCardType, Mirrors, SubtypesAgree, card_cell, card_cells, its_own, thrown}
use Rattle.cjc_accepted_proof.specs.Frames.{types_named, with_type}
use Rattle.cjc_accepted_proof.proofs.KindsLaws.{first_operand}
use Rattle.cjc_accepted_proof.proofs.RowsLaws.{zip_itself}
use Rattle.cjc_accepted_proof.proofs.TypesLaws.{class_passes, own_below, shorter, type_from, type_in, types_pass}
use Rattle.cjc_accepted_proof.proofs.TypesLaws.{with_set}
use Rattle.cjc_accepted_proof.proofs.InstructionsLaws.Operands.{number_meets, one_need, operand_same, reference_meets}
use Rattle.cjc_accepted_proof.proofs.InstructionsLaws.Operands.{three_needs, two_needs}
use Rattle.cjc_accepted_proof.proofs.InstructionsLaws.Plain.{one_word_mirrors, taking_mirrors}

module _ (card_type : List ℕ → Option (List ℕ)) (is_of : Subtype) where
  abbrev cells : List Cell → List Cell
  cells = card_cells card_type

  -- ---- what arrays of references hold

  held_set : (o : Option (List ℕ)) (acc : List (List ℕ)) → IsSet acc → IsSet (with_held o acc)
  held_set None acc h = h
  held_set (Some t) acc h = set_insert t acc h

  elements_set : (types acc : List (List ℕ)) → IsSet acc → IsSet (elements types acc)
  elements_set [] acc h = h
  elements_set (x ∷ types) acc h = elements_set types (with_held (held x) acc) (held_set (held x) acc h)

  -- an element is of one of the arrays
  element_from : (types acc : List (List ℕ)) (t : List ℕ) → In t (elements types acc) → In t acc ⊎ ((x : List ℕ) × In x
      types × (held x ≡ Some t))
  element_from [] acc t h = inl h
  element_from (x ∷ types) acc t h = ⊎_elim (λ (i : In t (with_held (held x) acc)). by (held x) refl i)
      (λ (r : (y : List ℕ) × In y types × (held y ≡ Some t)). inr (r.0, inr r.1, r.2)) (element_from types
      (with_held (held x) acc) t h)
    where
      by : (o : Option (List ℕ)) → held x ≡ o → In t (with_held o acc) → In t acc ⊎ ((y : List ℕ) × In y (x ∷ types)
          × (held y ≡ Some t))
      by None e i = inl i
      by (Some u) e i = ⊎_elim (λ (same : u ≡ t). inr (x, inl refl, e ∙ ap Some same)) (λ (j : In t acc). inl j)
          (insert_cases u t acc i)

  -- what was among the elements stays
  kept : (names acc : List (List ℕ)) (n : List ℕ) → In n acc → In n (elements_by_name names acc)
  kept [] acc n h = h
  kept (x ∷ names) acc n h = kept names (with_held_by_name (held_by_name x) acc) n (by (held_by_name x))
    where
      by : (o : Option (List ℕ)) → In n (with_held_by_name o acc)
      by None = h
      by (Some u) = insert_old u n acc h

  element_in : (names acc : List (List ℕ)) (name n : List ℕ) → In name names → held_by_name name ≡ Some n → In n
      (elements_by_name names acc)
  element_in [] acc name n h e = absurd h
  element_in (x ∷ names) acc name n (inl same) e = kept names (with_held_by_name (held_by_name x) acc) n (subst
      (λ (o : Option (List ℕ)). In n (with_held_by_name o acc)) (sym (ap held_by_name same ∙ e)) (insert_new n acc))
  element_in (x ∷ names) acc name n (inr h) e = element_in names (with_held_by_name (held_by_name x) acc) name n h e

  -- the names' own types, no more than there are names
  abbrev own_types : List (List ℕ) → List (List ℕ)
  own_types [] = []
  own_types (name ∷ names) = with_type (card_type name) (own_types names)

  own_set : (names : List (List ℕ)) → IsSet (own_types names)
  own_set [] = tt
  own_set (name ∷ names) = with_set card_type (card_type name) (own_types names) (own_set names)

  own_few : (names : List (List ℕ)) → length (own_types names) ≤ length names
  own_few [] = omega arith
  own_few (name ∷ names) = by (card_type name) (own_few names)
    where
      by : (o : Option (List ℕ)) → length (own_types names) ≤ length names → length (with_type o (own_types names))
          ≤ suc (length names)
      by None h = omega (arith, h)
      by (Some t) h = let more = shorter card_type t (own_types names) in omega (arith, h, more)

  own_in : (names : List (List ℕ)) (name t : List ℕ) → In name names → card_type name ≡ Some t → In t (own_types names)
  own_in [] name t h e = absurd h
  own_in (x ∷ names) name t (inl same) e = subst (λ (o : Option (List ℕ)). In t (with_type o (own_types names)))
      (sym (ap card_type same ∙ e)) (insert_new t (own_types names))
  own_in (x ∷ names) name t (inr h) e = by (card_type x) (own_in names name t h e)
    where
      by : (o : Option (List ℕ)) → In t (own_types names) → In t (with_type o (own_types names))
      by None i = i
      by (Some u) i = insert_old u t (own_types names) i

  module _ (arrays : ArraysAgree card_type) where
    -- an element is of the type of what one of the arrays by name holds; java/lang/Throwable is no array
    element_of_name : (names : List (List ℕ)) (t : List ℕ) → In t (elements (types_named card_type names) [])
        → (inner : List ℕ) × In inner (elements_by_name names []) × (card_type inner ≡ Some t)
    element_of_name names t i = ⊎_elim (λ (none : In t []). absurd none)
        (λ (r : (x : List ℕ) × In x (types_named card_type names) × (held x ≡ Some t)). found r) (element_from
        (types_named card_type names) [] t i)
      where
        by : (name type : List ℕ) → In name names → IsCardType card_type name type → held type ≡ Some t
            → (inner : List ℕ) × In inner (elements_by_name names []) × (card_type inner ≡ Some t)
        by name type among (its_own e) f = let h = arrays.inside name type t e f in (
          h.inner,
          element_in names [] name h.inner among h.holds,
          h.typed,
        )
        by name type among (thrown is e) f =
            let h = arrays.inside throwable type t e f in
            let none : None ≡ Some h.inner = h.holds in
            absurd cc

        found : ((x : List ℕ) × In x (types_named card_type names) × (held x ≡ Some t)) → (inner : List ℕ) × In inner
            (elements_by_name names []) × (card_type inner ≡ Some t)
        found r = let n = type_from card_type names r.0 r.1 in by n.0 r.0 n.1 n.2 r.2

    elements_within : (names : List (List ℕ)) → IsWithin (elements (types_named card_type names) []) (types_named
        card_type (elements_by_name names []))
    elements_within names t i = let r = element_of_name names t i in type_in card_type (elements_by_name names []) r.0 t
        r.1 (its_own r.2)

    elements_own : (names : List (List ℕ)) → IsWithin (elements (types_named card_type names) []) (own_types
        (elements_by_name names []))
    elements_own names t i = let r = element_of_name names t i in own_in (elements_by_name names []) r.0 t r.1 r.2

    -- what aaload gives
    pub references_below : (x : Cell) → IsCellBelow (element_of (card_cell card_type x)) (card_cell card_type
        (element_by_name jvm.aaload x))
    references_below Number = tt
    references_below Unusable = tt
    references_below (Refs names) = by (nat_le (length (elements_by_name names [])) most_names) refl
      where
        less : List (List ℕ)
        less = elements (types_named card_type names) []

        by : (b : Bool) → nat_le (length (elements_by_name names [])) most_names ≡ b → IsCellBelow (refs (elements
            (types_named card_type names) [])) (card_cell card_type (refs (elements_by_name names [])))
        by false e = subst (λ (b : Bool). IsCellBelow (refs (elements (types_named card_type names) [])) (card_cell
            card_type (if b then Refs (elements_by_name names []) else Unusable))) (sym e) tt
        by true e =
            let all = elements_by_name names [] in
            let within = elements_within names in
            let fewer = length_within (elements (types_named card_type names) []) (own_types all)
            (elements_set (types_named card_type names) [] tt) (own_set all) (elements_own names) in
            let few = own_few all in
            let short : nat_le (length (elements (types_named card_type names) [])) most_names ≡ true = grind (
              arith,
              nat_tests,
              fewer,
              few,
              e,
            ) in
            subst (λ (b : Bool). IsCellBelow (refs (elements (types_named card_type names) [])) (card_cell card_type
            (if b then Refs (elements_by_name names []) else Unusable))) (sym e) (subst (λ (b : Bool). IsCellBelow (if b
            then Refs (elements (types_named card_type names) []) else Unusable) (Refs (types_named card_type
            (elements_by_name names [])))) (sym short) within)

    -- what another load gives
    numbers_below : (opcode : ℕ) → (opcode == jvm.aaload) ≡ false → (x : Cell) → IsCellBelow (item_of (card_cell
        card_type x)) (card_cell card_type (element_by_name opcode x))
    numbers_below opcode other Number = tt
    numbers_below opcode other Unusable = tt
    numbers_below opcode other (Refs names) = subst (λ (b : Bool). IsCellBelow Number (card_cell card_type (if b then
        refs (elements_by_name names []) else Number))) (sym other) tt

  -- ---- instructions

  module _ (w : List Class) (b : Body) where
    -- new, of a class of which objects are made
    pub new_mirrors : (class type : List ℕ) → card_type class ≡ Some type → (misnames : Bool) → misnames ≡ false
        → (ls s : List Cell) → Mirrors card_type is_of (jop.New class) (record idle {
          gives = AnObject type ∷ [];
          misnames = misnames;
        }) ls s
    new_mirrors class type typed misnames made ls s = record {
      as_many = refl;
      puts = (own_below card_type class type typed, tt);
      writes = zip_itself (cells ls);
      operands = refl;
      locals_right = refl;
      fits = refl;
      there = refl;
      known = refl;
      named = made;
    }

    -- newarray
    pub numbers_mirror : (number : ℕ) (type : List ℕ) → card_type (91 ∷ letter number ∷ []) ≡ Some type
        → (ls s : List Cell) → has_wrong_by_name w b (jop.NewArray number) 1 0 s ≡ false
        → Mirrors card_type is_of (jop.NewArray number) (making_numbers (Some type)) ls s
    numbers_mirror number type typed = one_word_mirrors card_type is_of w b (jop.NewArray number) NumberWord (AnObject
        type) (Refs ((91 ∷ letter number ∷ []) ∷ [])) refl (λ ls s. refl) (λ ls s. refl) (λ ls s. own_below card_type (91
        ∷ letter number ∷ []) type typed) (λ x e. number_meets card_type is_of x e)

    -- anewarray
    pub references_mirror : (class type : List ℕ) → card_type (array_of class) ≡ Some type → (ls s : List Cell)
        → has_wrong_by_name w b (jop.ANewArray class) 1 0 s ≡ false → Mirrors card_type is_of (jop.ANewArray class)
        (record idle { takes = NumberWord ∷ []; gives = AnObject type ∷ [] }) ls s
    references_mirror class type typed = one_word_mirrors card_type is_of w b (jop.ANewArray class) NumberWord (AnObject
        type) (Refs (array_of class ∷ [])) refl (λ ls s. refl) (λ ls s. refl) (λ ls s. own_below card_type (array_of class)
        type typed) (λ x e. number_meets card_type is_of x e)

    -- checkcast
    pub cast_mirrors : (class type : List ℕ) → card_type class ≡ Some type → (ls s : List Cell) → has_wrong_by_name w b
        (jop.CheckCast class) 1 0 s ≡ false → Mirrors card_type is_of (jop.CheckCast class) (casting (Some type)) ls s
    cast_mirrors class type typed = one_word_mirrors card_type is_of w b (jop.CheckCast class) ReferenceWord (AnObject
        type) (Refs (class ∷ [])) refl (λ ls s. refl) (λ ls s. refl) (λ ls s. own_below card_type class type typed)
        (λ x e. reference_meets card_type is_of x e)

    -- instanceof
    pub ask_mirrors : (class type : List ℕ) (ls s : List Cell) → has_wrong_by_name w b (jop.InstanceOf class) 1 0 s
        ≡ false → Mirrors card_type is_of (jop.InstanceOf class) (asking (Some type)) ls s
    ask_mirrors class type = one_word_mirrors card_type is_of w b (jop.InstanceOf class) ReferenceWord ANumber Number
        refl (λ ls s. refl) (λ ls s. refl) (λ ls s. tt) (λ x e. reference_meets card_type is_of x e)

    -- athrow
    pub throw_mirrors : SubtypesAgree card_type is_of w → (o : Option (List ℕ)) → o ≡ card_type throwable
        → (ls s : List Cell) → has_wrong_by_name w b jop.Throw 1 0 s ≡ false → Mirrors card_type is_of jop.Throw (last
        (exception_needs o)) ls s
    throw_mirrors agree (Some type) is ls s e = taking_mirrors card_type is_of jop.Throw (OfType type ∷ []) false []
        refl (λ ls s. refl) (λ ls s. refl) ls s (one_need card_type is_of (OfType type) s (λ x f. class_passes card_type
        is_of w agree throwable type (sym is) x (first_operand w b jop.Throw 1 s e 0 x f (omega arith))))
    throw_mirrors agree None is ls s e = taking_mirrors card_type is_of jop.Throw (ReferenceWord ∷ []) false [] refl
        (λ ls s. refl) (λ ls s. refl) ls s (one_need card_type is_of ReferenceWord s (λ x f. reference_meets card_type
        is_of x (reference x (first_operand w b jop.Throw 1 s e 0 x f (omega arith)))))
      where
        reference : (x : Cell) → is_of_class w throwable x ≡ true → is_reference x ≡ true
        reference Number e = absurd cc
        reference (Refs names) e = refl
        reference Unusable e = absurd cc

    module _ (arrays : ArraysAgree card_type) where
      -- java/lang/Object is no array
      not_array : (opcode : ℕ) → is_array_for opcode object ≡ true → ⊥
      not_array opcode e = by ((opcode == jvm.iaload) || (opcode == jvm.iastore)) ((opcode == jvm.aaload) || (opcode
          == jvm.aastore)) ((opcode == jvm.baload) || (opcode == jvm.bastore)) e
        where
          by : (i a b : Bool) → (if i then is_array_by 73 object else if a then is_some (held_by_name object)
              else if b then is_array_by 66 object || is_array_by 90 object else is_array_by 83 object) ≡ true → ⊥
          by true a b f = cc
          by false true b f = cc
          by false false true f = cc
          by false false false f = cc

      -- a type of an array passes where those of arrays do
      arrays_pass : (test pass : List ℕ → Bool) → (test object ≡ true → ⊥) → ((name t : List ℕ) → test name ≡ true
          → card_type name ≡ Some t → pass t ≡ true) → (name t : List ℕ) → test name ≡ true
          → IsCardType card_type name t → pass t ≡ true
      arrays_pass test pass none each name t f (its_own e) = each name t f e
      arrays_pass test pass none each name t f (thrown is e) = absurd (none (sym (ap test is) ∙ f))

      -- an array
      pub any_array_meets : (x : Cell) → all_types (starts 91) x ≡ true → meets is_of (OfArrays all_arrays) (card_cell
          card_type x) ≡ true
      any_array_meets x e = types_pass card_type (starts 91) (begins_with all_arrays) (arrays_pass (starts 91)
          (begins_with all_arrays) (λ f. cc) (λ name t f g. arrays.arrays name t g f)) x e

      -- arraylength
      pub length_mirrors : (ls s : List Cell) → has_wrong_by_name w b jop.ArrayLength 1 0 s ≡ false
          → Mirrors card_type is_of jop.ArrayLength (record idle {
            takes = OfArrays all_arrays ∷ [];
            gives = ANumber ∷ [];
          }) ls s
      length_mirrors = one_word_mirrors card_type is_of w b jop.ArrayLength (OfArrays all_arrays) ANumber Number refl
          (λ ls s. refl) (λ ls s. refl) (λ ls s. tt) (λ x e. any_array_meets x e)

      -- an array that an instruction serves
      pub array_meets : (opcode : ℕ) → works_on_int opcode ≡ false → (x : Cell) → all_types (is_array_for opcode) x
          ≡ true → meets is_of (OfArrays (arrays_of (letter_for opcode))) (card_cell card_type x) ≡ true
      array_meets opcode short x e = types_pass card_type (is_array_for opcode) (begins_with (arrays_of (letter_for
          opcode))) (arrays_pass (is_array_for opcode) (begins_with (arrays_of (letter_for opcode))) (not_array opcode)
          (λ name t f g. arrays.served opcode name t g short f)) x e

      -- an array of int
      pub ints_meet : (opcode : ℕ) → works_on_int opcode ≡ true → (x : Cell) → all_types (is_array_for opcode) x ≡ true
          → meets is_of (OfArrays (arrays_of letters.Int)) (card_cell card_type x) ≡ true
      ints_meet opcode on_int x e = types_pass card_type (is_array_for opcode) (begins_with (arrays_of letters.Int))
          (arrays_pass (is_array_for opcode) (begins_with (arrays_of letters.Int)) (not_array opcode)
          (λ name t f g. arrays.ints opcode name t g on_int f)) x e

      -- aaload, baload and saload
      pub item_mirrors : (opcode : ℕ) → works_on_int opcode ≡ false → (ls s : List Cell)
          → has_wrong_by_name w b (jop.ArrayLoad opcode) 2 0 s ≡ false → (letter : Letter) → letter_for opcode ≡ letter
          → AllZip IsCellBelow (map (given (cells ls) (cells s)) (items_of letter)) (cells (element_by_name opcode
          (operand s 1) ∷ [])) → Mirrors card_type is_of (jop.ArrayLoad opcode) (loading_item letter) ls s
      item_mirrors opcode short ls s e letter is below = record {
        as_many = refl;
        puts = below;
        writes = zip_itself (cells ls);
        operands = two_needs card_type is_of NumberWord (OfArrays (arrays_of letter)) s (λ x f. number_meets card_type
            is_of x (first_operand w b (jop.ArrayLoad opcode) 2 s e 0 x f (omega arith))) (λ x f. subst (λ (l : Letter).
            meets is_of (OfArrays (arrays_of l)) (card_cell card_type x) ≡ true) is (array_meets opcode short x
            (first_operand w b (jop.ArrayLoad opcode) 2 s e 1 x f (omega arith))));
        locals_right = refl;
        fits = refl;
        there = refl;
        known = refl;
        named = refl;
      }

      pub reference_item_mirrors : (ls s : List Cell) → has_wrong_by_name w b (jop.ArrayLoad jvm.aaload) 2 0 s ≡ false
          → Mirrors card_type is_of (jop.ArrayLoad jvm.aaload) (loading_item letters.Reference) ls s
      reference_item_mirrors ls s e = item_mirrors jvm.aaload refl ls s e letters.Reference refl (
        subst (λ (x : Cell).
            IsCellBelow (element_of x) (card_cell card_type (element_by_name jvm.aaload (operand s 1)))) (sym
            (operand_same card_type s 1)) (references_below arrays (operand s 1)),
        tt,
      )

      pub byte_item_mirrors : (ls s : List Cell) → has_wrong_by_name w b (jop.ArrayLoad jvm.baload) 2 0 s ≡ false
          → Mirrors card_type is_of (jop.ArrayLoad jvm.baload) (loading_item letters.Byte) ls s
      byte_item_mirrors ls s e = item_mirrors jvm.baload refl ls s e letters.Byte refl (
        subst (λ (x : Cell).
            IsCellBelow (item_of x) (card_cell card_type (element_by_name jvm.baload (operand s 1)))) (sym
            (operand_same card_type s 1)) (numbers_below arrays jvm.baload refl (operand s 1)),
        tt,
      )

      pub short_item_mirrors : (ls s : List Cell) → has_wrong_by_name w b (jop.ArrayLoad jvm.saload) 2 0 s ≡ false
          → Mirrors card_type is_of (jop.ArrayLoad jvm.saload) (loading_item letters.Short) ls s
      short_item_mirrors ls s e = item_mirrors jvm.saload refl ls s e letters.Short refl (
        subst (λ (x : Cell).
            IsCellBelow (item_of x) (card_cell card_type (element_by_name jvm.saload (operand s 1)))) (sym
            (operand_same card_type s 1)) (numbers_below arrays jvm.saload refl (operand s 1)),
        tt,
      )

      -- aastore, bastore and sastore: the value that is stored is a reference or a number
      stored_mirrors : (opcode : ℕ) → works_on_int opcode ≡ false → (value : Need) (letter : Letter) → letter_for opcode
          ≡ letter → letter_needs letter ≡ value ∷ [] → ((x : Cell) → (if opcode == jvm.aastore then is_reference x
          else is_number x) ≡ true → meets is_of value (card_cell card_type x) ≡ true) → (ls s : List Cell)
          → has_wrong_by_name w b (jop.ArrayStore opcode) 3 0 s ≡ false → Mirrors card_type is_of (jop.ArrayStore
          opcode) (storing_item letter) ls s
      stored_mirrors opcode short value letter is one passes ls s e =
          record {
            as_many = ap (λ (ns : List Need). length (ns ++ NumberWord ∷ OfArrays (arrays_of letter) ∷ [])) one;
            puts = tt;
            writes = zip_itself (cells ls);
            operands = ap (λ (ns : List Need). has_wrong is_of (ns ++ NumberWord ∷ OfArrays (arrays_of letter) ∷ [])
                (cells s)) one ∙ three_needs card_type is_of value NumberWord (OfArrays (arrays_of letter)) s
                (λ x f. passes x (first_operand w b (jop.ArrayStore opcode) 3 s e 0 x f (omega arith)))
                (λ x f. number_meets card_type is_of x (first_operand w b (jop.ArrayStore opcode) 3 s e 1 x f (omega
                arith))) (λ x f. subst (λ (l : Letter). meets is_of (OfArrays (arrays_of l)) (card_cell card_type x)
                ≡ true) is (array_meets opcode short x (first_operand w b (jop.ArrayStore opcode) 3 s e 2 x f (omega
                arith))));
            locals_right = refl;
            fits = refl;
            there = refl;
            known = refl;
            named = refl;
          }

      pub reference_store_mirrors : (ls s : List Cell) → has_wrong_by_name w b (jop.ArrayStore jvm.aastore) 3 0 s
          ≡ false → Mirrors card_type is_of (jop.ArrayStore jvm.aastore) (storing_item letters.Reference) ls s
      reference_store_mirrors = stored_mirrors jvm.aastore refl ReferenceWord letters.Reference refl refl
          (λ x e. reference_meets card_type is_of x e)

      pub byte_store_mirrors : (ls s : List Cell) → has_wrong_by_name w b (jop.ArrayStore jvm.bastore) 3 0 s ≡ false
          → Mirrors card_type is_of (jop.ArrayStore jvm.bastore) (storing_item letters.Byte) ls s
      byte_store_mirrors = stored_mirrors jvm.bastore refl NumberWord letters.Byte refl refl (λ x e. number_meets
          card_type is_of x e)

      pub short_store_mirrors : (ls s : List Cell) → has_wrong_by_name w b (jop.ArrayStore jvm.sastore) 3 0 s ≡ false
          → Mirrors card_type is_of (jop.ArrayStore jvm.sastore) (storing_item letters.Short) ls s
      short_store_mirrors = stored_mirrors jvm.sastore refl NumberWord letters.Short refl refl (λ x e. number_meets
          card_type is_of x e)
