-- Instructions of a package are what their acts say.
use Rattle.std.proofs.Common.{◌≡◌, ◌==◌, ◌&&◌, ◌+◌, ℕ, zero, suc, Bool, true, false, List, [], ◌∷◌, map, slice_get}
use Rattle.std.proofs.Common.{Option, Some}
use Rattle.std.proofs.Common.{None, refl, sym, ap, subst, ◌∙◌, ℤ, pos, negsuc}
use Rattle.std.specs.Prelude.{flat_map, if◌then◌else◌, option_map}
use Rattle.std.proofs.lemmas.List.Concat.{flat_map-append}
use Rattle.cjc_capread.specs.Card as card
use Rattle.cjc_capread.specs.declared.tree.ClassRef.{ClassRef}
use Rattle.cjc_capread.specs.declared.tree.PoolEntry.{PoolEntry}
use Rattle.cjc_capread.specs.declared.tree.PoolEntry.TheVariants.{Classref}
use Rattle.cjc_capread.specs.Decode.{Instruction, Front, before_table, decode, decode_as, in_table, is_whole}
use Rattle.cjc_capread.specs.Decode.{operands_of, with_operands, with_table}
use Rattle.cjc_capread.specs.Opcodes.{Form, Fields, Table, Lookup, Operand, Byte, Index1, Index2, Signed1, Signed2}
use Rattle.cjc_capread.specs.Opcodes.{Signed4, form, info}
use Rattle.cjc_check_rules.specs.declared.spot.ComponentPlace.{ComponentPlace}
use Rattle.cjc_check_rules.specs.Codes.{Code, codes}
use Rattle.cjc_check_rules.specs.Spots.{Placed, in_info, lies_between, unless}
use Rattle.cjc_check_rules.specs.ClassRefs.{class_ref_spots}
use Rattle.cjc_check_rules.specs.Complete.{Complete}
use Rattle.cjc_check_rules.specs.Instructions.{IndexOperand, index_among, index_by, index_in, index_spots, indices}
use Rattle.cjc_check_rules.specs.Instructions.{is_entry_for, is_needed_by, is_type_of_numbers, jumps, names_no_class}
use Rattle.cjc_check_rules.specs.Instructions.{switch_offsets}
use Rattle.cjc_world.specs.declared.image.StaticImage.{StaticImage}
use Rattle.cjc_world.specs.Files.{Files}
use Rattle.cjc_card_semantics.specs.Script.Sorts.{Shape, OfClass, OfNumbers, OfReferences}
use Rattle.cjc_card_semantics.specs.Bytecode.Effects.{Cast, Ask, Do, NewNumbers, Touch, Throw}
use Rattle.cjc_card_semantics.specs.Bytecode.Meanings.{Meaning, Casts, Asks, MakesNumbers, Use, meaning}
use Rattle.cjc_card_semantics.specs.Bytecode.Meanings as meanings
use Rattle.cjc_card_semantics.specs.Machine.Loaded.{Loaded}
use Rattle.cjc_card_semantics.specs.Machine.Classes.{Class, class_of}
use Rattle.cjc_card_semantics.specs.Machine.Operations.{class_at, element_type, moved, operation, or_undone, type_by}
use Rattle.cjc_card_semantics.specs.Script.Sorts.{Element}
use Rattle.cjc_verify.specs.Frames.declared.acts.Need.{Need}
use Rattle.cjc_card_acts.specs.Rows.{Row, Jumps, Switches, idle, number_words, row, with_number}
use Rattle.cjc_card_acts.specs.Rows as rows
use Rattle.cjc_card_acts.specs.CardTypes.{ValueType, numbers_type, shape_by}
use Rattle.cjc_verify.specs.ClassTypes.{array_type, class_type}
use Rattle.cjc_verify.specs.Instructions.{act, act_by, asking, by_interface, casting, class_in, exception_needs}
use Rattle.cjc_verify.specs.Instructions.{last, making_numbers, result_needs, tested_type, testing, throwable}
use Rattle.cjc_verify.specs.Instructions.{using_entry}
use Rattle.cjc_verify.specs.Named.{entry_of}
use Rattle.cjc_verify.specs.Pairs.{Pair, pair_of}
use Rattle.cjc_verify_proof.specs.Beside.{Beside, AreRead, plain, jump, table, int_table, lookup, int_lookup, load}
use Rattle.cjc_verify_proof.specs.Beside.{store}
use Rattle.cjc_verify_proof.specs.Beside.{arraylength, athrow, return, uses, invokeinterface, newarray, checkcast}
use Rattle.cjc_verify_proof.specs.Beside.{instanceof, forbidden}
use Rattle.cjc_verify_proof.specs.Frames.{Program}
use Rattle.cjc_verify_proof.specs.Instructions.{Suits}
use Rattle.cjc_verify_proof.specs.Instructions as suits
use Rattle.cjc_verify_proof.specs.Uses.{is_index, is_index_form, is_used_by}
use Rattle.cjc_bytes.proofs.Lists.{none_left, none_right}
use Rattle.cjc_verified_proof.specs.Entries.{IsRef, AreRefs}
use Rattle.cjc_verified_proof.specs.Programs.{IsProgramOf}
use Rattle.cjc_verified_proof.specs.Suited.{IsRight}
use Rattle.cjc_verify_proof.proofs.OperandLaws.{operands_read}
use Rattle.cjc_verify_proof.proofs.RowSuits.{jump_suits, jumps_jump, numbers_mean, pairs_suit, range_suits}
use Rattle.cjc_verify_proof.proofs.RowSuits.{return_suits}
use Rattle.cjc_verify_proof.proofs.RowSuits.{switches_jump_not, use_is}
use Rattle.cjc_verify_proof.proofs.TableLaws.{beside}
use Rattle.cjc_verified_proof.proofs.EntryLaws.{unless_holds}
use Rattle.cjc_verified_proof.proofs.PlaceLaws.{all_read}
use Rattle.cjc_verified_proof.proofs.PlainRows.{plain_read}
use Rattle.cjc_verified_proof.proofs.ThereLaws.{entry_meant}

-- ---- decoded instructions

module _ (op : ℕ) (i : Instruction) where
  whole_is : (f : Form) (front behind : Front) (b : Bool) → (if b then Some (record {
    opcode = op;
    operands = front.values;
    table = behind.values;
  }) else None) ≡ Some i → op ≡ i.opcode
  whole_is f front behind true e =
      let same : record { opcode = op; operands = front.values; table = behind.values } ≡ i = cc in
      ap (λ (x : Instruction). x.opcode) same
  whole_is f front behind false e = cc

  tabled_is : (f : Form) (front : Front) (o : Option Front) → with_table op f front.values o ≡ Some i → op ≡ i.opcode
  tabled_is f front None e = cc
  tabled_is f front (Some behind) e = whole_is f front behind (is_whole f front.values behind.values) e

  read_is : (f : Form) (o : Option Front) → with_operands op f o ≡ Some i → op ≡ i.opcode
  read_is f None e = cc
  read_is f (Some front) e = tabled_is f front (operands_of (in_table f front.values) front.rest) e

  decoded_is : (bytes : List ℕ) (o : Option Form) → decode_as op o bytes ≡ Some i → op ≡ i.opcode
  decoded_is bytes None e = cc
  decoded_is bytes (Some f) e = read_is f (operands_of (before_table f) bytes) e

-- the operands of a decoded instruction are those of its form
pub all_read_so : (bytes : List ℕ) (i : Instruction) → decode bytes ≡ Some i → (f : Form) → form i.opcode ≡ Some f
    → AreRead (before_table f) i.operands
all_read_so [] i e f is = cc
all_read_so (op ∷ bytes) i e f is =
    let same = decoded_is op i bytes (form op) e in
    operands_read op bytes i f (ap form same ∙ is) e

-- ---- indices

-- what is in none of the lists that items give
none_within : {A B C : Type 0} (f : A → List B) (g : C → List A) (xs : List C) (k : ℕ) (y : C)
    → flat_map f (flat_map g xs) ≡ [] → slice_get xs k ≡ Some y → flat_map f (g y) ≡ []
none_within f g [] k y e is = cc
none_within f g (x ∷ xs) zero y e is =
    let same : x ≡ y = cc in
    ap (λ z. flat_map f (g z)) (sym same) ∙ none_left (flat_map f (g x)) (flat_map f (flat_map g xs)) (sym
    (flat_map-append f (g x) (flat_map g xs)) ∙ e)
none_within f g (x ∷ xs) (suc k) y e is = none_within f g xs k y (none_right (flat_map f (g x)) (flat_map f (flat_map g
    xs)) (sym (flat_map-append f (g x) (flat_map g xs)) ∙ e)) is

-- the entry that an instruction uses
pub record IsUsed (c : Complete) (how : Use) (operands : List ℤ) : Type 0 where
  pub index : ℕ
  pub is : operands ≡ pos index ∷ []
  pub entry : PoolEntry
  pub there : slice_get (let q = c.pool in q.entries) index ≡ Some entry
  pub kind : is_used_by how entry ≡ true

module _ (c : Complete) (clean : index_spots c ≡ []) (j : ℕ) (code : Code) (is_code : slice_get (codes c) j ≡ Some code)
    (n : ℕ) (i : Placed Instruction) (is_in : slice_get code.instructions n ≡ Some i) (how : Use)
    (is_row : (let x = i.item in row x.opcode) ≡ rows.Uses how)
    (read : (f : Form) → (let x = i.item in form x.opcode) ≡ Some f → AreRead (before_table f) (let x = i.item
    in x.operands)) where
  abbrev used : ℕ
  used = let x = i.item in x.opcode

  abbrev tested_index : IndexOperand → List ComponentPlace
  tested_index x = unless (is_entry_for (slice_get (let q = c.pool in q.entries) x.index) x.opcode) (in_info 7 x.at)

  use_of : (is_index_form (form used) ≡ true) × ((entry : PoolEntry) → is_needed_by entry used ≡ true
      → is_used_by how entry ≡ true) × (lies_between card.checkcast card.instanceof used ≡ false)
  use_of = use_is used how is_row

  -- no index of the instruction is broken
  index_clean : flat_map tested_index (indices i) ≡ []
  index_clean = none_within tested_index indices code.instructions n i (none_within tested_index (λ (x : Code). flat_map
      indices x.instructions) (codes c) j code clean is_code) is_in

  found_entry : (x : IndexOperand) (o : Option PoolEntry) → slice_get (let q = c.pool in q.entries) x.index ≡ o
      → x.opcode ≡ used → is_entry_for o x.opcode ≡ true → (entry : PoolEntry) × (slice_get
      (let q = c.pool in q.entries)
      x.index ≡ Some entry) × (is_used_by how entry ≡ true)
  found_entry x None is same e = cc
  found_entry x (Some entry) is same e = (
    entry,
    is,
    use_of.1 entry (ap (is_needed_by entry) (sym same)
        ∙ e),
  )

  entry_at : (x : IndexOperand) → x.opcode ≡ used → index_by i (form used) ≡ x ∷ [] → (entry : PoolEntry)
      × (slice_get (let q = c.pool in q.entries) x.index ≡ Some entry) × (is_used_by how entry ≡ true)
  entry_at x same e =
      let no_test : names_no_class i.item ≡ false = ap (λ b. b && is_type_of_numbers (let y = i.item in y.operands))
      use_of.2 in
      let one : indices i ≡ x ∷ [] = ap (λ b. if b then [] else index_by i (form used)) no_test ∙ e in
      let none = none_left (tested_index x) [] (sym (ap (flat_map tested_index) one) ∙ index_clean) in
      found_entry x (slice_get (let q = c.pool in q.entries) x.index) refl same (unless_holds (is_entry_for (slice_get
      (let q = c.pool in q.entries) x.index) x.opcode) (in_info 7 x.at) none)

  used_at : (kind : Operand) → is_index kind ≡ true → (operands : List ℤ) → AreRead (kind ∷ []) operands
      → (let x = i.item in x.operands) ≡ operands → form used ≡ Some (Fields (kind ∷ []))
      → IsUsed c how (let x = i.item in x.operands)
  used_at kind e [] r is f = absurd r
  used_at kind e (x ∷ y ∷ ys) r is f = absurd r.1
  used_at Index1 e (negsuc k ∷ []) r is f = absurd r.0
  used_at Index2 e (negsuc k ∷ []) r is f = absurd r.0
  used_at Index1 e (pos k ∷ []) r is f =
      let x : IndexOperand = record { opcode = used; at = i.at + 1; size = 1; index = k } in
      let h = entry_at x refl (ap (index_by i) f ∙ ap (λ (zs : List ℤ). index_in i (info (Fields (Index1 ∷ [])))
      (index_among (Index1 ∷ []) zs)) is) in
      record { index = k; is = is; entry = h.0; there = h.1; kind = h.2 }
  used_at Index2 e (pos k ∷ []) r is f =
      let x : IndexOperand = record { opcode = used; at = i.at + 1; size = 2; index = k } in
      let h = entry_at x refl (ap (index_by i) f ∙ ap (λ (zs : List ℤ). index_in i (info (Fields (Index2 ∷ [])))
      (index_among (Index2 ∷ []) zs)) is) in
      record { index = k; is = is; entry = h.0; there = h.1; kind = h.2 }
  used_at Byte e (z ∷ []) r is f = cc
  used_at Signed1 e (z ∷ []) r is f = cc
  used_at Signed2 e (z ∷ []) r is f = cc
  used_at Signed4 e (z ∷ []) r is f = cc

  pub uses_indexed : IsUsed c how (let x = i.item in x.operands)
  uses_indexed = by (form used) refl use_of.0
    where
      by : (o : Option Form) → form used ≡ o → is_index_form o ≡ true → IsUsed c how (let x = i.item in x.operands)
      by (Some (Fields (kind ∷ []))) f e = used_at kind e (let x = i.item in x.operands) (read (Fields (kind ∷ [])) f)
          refl f
      by None f e = cc
      by (Some (Fields [])) f e = cc
      by (Some (Fields (k ∷ m ∷ ks))) f e = cc
      by (Some (Table k)) f e = cc
      by (Some (Lookup k)) f e = cc

module _ (applets : Bool) (files : Files) (image : StaticImage) (c : Complete) (program : Program)
    (is_program : IsProgramOf (pair_of applets files image c) program) (refs : AreRefs c)
    (clean : class_ref_spots c files.exports ≡ []) where
  abbrev p : Pair
  p = pair_of applets files image c

  abbrev l : Loaded
  l = p.loaded

  abbrev pool : List PoolEntry
  pool = let q = c.pool in q.entries

  -- ---- types that entries name

  -- the class of an entry, and arrays of it
  pub record IsNamed (r : ClassRef) : Type 0 where
    pub class : Class
    pub meant : class_of l 0 r ≡ Some class
    pub shape : shape_by l (class_type r) ≡ Some (OfClass class)
    pub array : shape_by l (array_type r) ≡ Some (OfReferences class)

  -- a class_ref that means a class
  pub meaning_named : (r : ClassRef) → IsRef r → (class : Class) × (class_of l 0 r ≡ Some class) → IsNamed r
  meaning_named r ref m = record {
    class = m.0;
    meant = m.1;
    shape = ap (option_map OfClass) (all_read l r ref ∙ m.1);
    array = ap (option_map OfReferences) (all_read l r ref ∙ m.1);
  }

  pub class_named : (k : ℕ) (r : ClassRef) → slice_get pool k ≡ Some (Classref r) → IsNamed r
  class_named k r is = meaning_named r (refs.entries k (Classref r) is) (entry_meant applets files image c clean k
      (Classref r) r
      is (λ at. refl))

  -- what a type test names
  abbrev IsTested : (number : ℕ) → Option PoolEntry → (type : List ℕ) → Type 0
  IsTested n item type = (target : Shape Class) × ((type_by n (class_at l 0 item) ≡ Some target) × (shape_by l type
      ≡ Some target))

  tested_by : (n k : ℕ) (type : List ℕ) (a b : Bool) (item : Option PoolEntry) → slice_get pool k ≡ item
      → (if a then option_map class_type (class_in item) else (if b then option_map array_type (class_in item)
      else numbers_type n)) ≡ Some type → (target : Shape Class) × (((if a then option_map OfClass (class_at l 0 item)
      else (if b then option_map OfReferences (class_at l 0 item) else option_map OfNumbers (element_type n)))
      ≡ Some target) × (shape_by l type ≡ Some target))
  tested_by n k type true b (Some (Classref r)) is e =
      let s = class_named k r is in
      let same : class_type r ≡ type = cc in (
        OfClass s.class,
        (
          ap (option_map OfClass) s.meant,
          subst (λ t. shape_by l t ≡ Some
              (OfClass s.class)) same s.shape,
        ),
      )
  tested_by n k type true b item is e = cc
  tested_by n k type false true (Some (Classref r)) is e =
      let s = class_named k r is in
      let same : array_type r ≡ type = cc in (
        OfReferences s.class,
        (ap (option_map OfReferences) s.meant, subst (λ t. shape_by l t ≡ Some (OfReferences s.class)) same s.array),
      )
  tested_by n k type false true item is e = cc
  tested_by n k type false false item is e =
      let m = numbers_mean l n type e in
      (OfNumbers m.0, (ap (option_map OfNumbers) m.1.0, m.1.1))

  tested : (n k : ℕ) (type : List ℕ) → tested_type n (class_in (entry_of p k)) ≡ Some type → IsTested n
      (slice_get pool k)
      type
  tested n k type e = tested_by n k type (n == 0) (n == 14) (slice_get pool k) refl e

  -- ---- instructions

  module _ (result : ValueType) (at : ℕ) where
    cast_suits : (operands rest : List ℤ) → AreRead (Byte ∷ Index2 ∷ []) operands
        → (let a = testing p casting operands in a.is_unknown) ≡ false → Suits l program result (testing p casting
        operands) (operation l 0 pool at Casts operands rest)
    cast_suits [] rest r u = absurd r
    cast_suits (x ∷ []) rest r u = absurd r.1
    cast_suits (negsuc n ∷ y ∷ []) rest r u = absurd r.0
    cast_suits (pos n ∷ negsuc k ∷ []) rest r u = absurd r.1.0
    cast_suits (pos n ∷ pos k ∷ []) rest r u = go (tested_type n (class_in (entry_of p k))) refl u
      where
        go : (o : Option (List ℕ)) → tested_type n (class_in (entry_of p k)) ≡ o → (let a = casting o in a.is_unknown)
            ≡ false → Suits l program result (casting o) (or_undone (option_map Cast (type_by n (class_at l 0 (slice_get
            pool k)))))
        go None e h = cc
        go (Some type) e h =
            let t = tested n k type e in
            subst (λ (x : Option (Shape Class)). Suits l program result (casting (Some type)) (or_undone
            (option_map Cast
            x))) (sym t.1.0) (suits.checkcast t.0 type t.1.1)
    cast_suits (x ∷ y ∷ z ∷ zs) rest r u = absurd r.1.1

    ask_suits : (operands rest : List ℤ) → AreRead (Byte ∷ Index2 ∷ []) operands
        → (let a = testing p asking operands in a.is_unknown) ≡ false → Suits l program result
        (testing p asking operands)
        (operation l 0 pool at Asks operands rest)
    ask_suits [] rest r u = absurd r
    ask_suits (x ∷ []) rest r u = absurd r.1
    ask_suits (negsuc n ∷ y ∷ []) rest r u = absurd r.0
    ask_suits (pos n ∷ negsuc k ∷ []) rest r u = absurd r.1.0
    ask_suits (pos n ∷ pos k ∷ []) rest r u = go (tested_type n (class_in (entry_of p k))) refl u
      where
        go : (o : Option (List ℕ)) → tested_type n (class_in (entry_of p k)) ≡ o → (let a = asking o in a.is_unknown)
            ≡ false → Suits l program result (asking o) (or_undone (option_map Ask (type_by n (class_at l 0 (slice_get
            pool k)))))
        go None e h = cc
        go (Some type) e h =
            let t = tested n k type e in
            subst (λ (x : Option (Shape Class)). Suits l program result (asking (Some type)) (or_undone (option_map Ask
            x))) (sym t.1.0) (suits.instanceof t.0)
    ask_suits (x ∷ y ∷ z ∷ zs) rest r u = absurd r.1.1

    numbers_suit : (operands rest : List ℤ) → AreRead (Byte ∷ []) operands
        → (let a = with_number (λ n. making_numbers (numbers_type n)) operands in a.is_unknown) ≡ false
        → Suits l program result (with_number (λ n. making_numbers (numbers_type n)) operands) (operation l 0 pool at
        MakesNumbers operands rest)
    numbers_suit [] rest r u = absurd r
    numbers_suit (negsuc n ∷ []) rest r u = absurd r.0
    numbers_suit (pos n ∷ []) rest r u = go (numbers_type n) refl u
      where
        go : (o : Option (List ℕ)) → numbers_type n ≡ o → (let a = making_numbers o in a.is_unknown) ≡ false
            → Suits l program result (making_numbers o) (or_undone (option_map NewNumbers (element_type n)))
        go None e h = cc
        go (Some type) e h =
            let m = numbers_mean l n type e in
            subst (λ (x : Option Element). Suits l program result (making_numbers (Some type)) (or_undone (option_map
            NewNumbers x))) (sym m.1.0) (suits.newarray m.0 type m.1.1)
    numbers_suit (x ∷ y ∷ ys) rest r u = absurd r.1

    throw_suits : Suits l program result (last (exception_needs (throwable p))) (Touch Throw)
    throw_suits = subst (λ (o : Option (List ℕ)). Suits l program result (last (exception_needs o)) (Touch Throw)) (sym
        is_program.exceptions) suits.athrow

  -- ---- by the row

  module _ (result : ValueType) (i : Placed Instruction) where
    abbrev op : ℕ
    op = let x = i.item in x.opcode

    abbrev operands : List ℤ
    operands = let x = i.item in x.operands

    abbrev rest : List ℤ
    rest = let x = i.item in x.table

    -- it is what its act says, by this row and this meaning
    abbrev Suits_by : Row → Meaning → Type 0
    Suits_by r m = Suits l program result (act_by p result i r) (operation l 0 pool i.at m operands rest)

    -- those that use an entry, and calls of interfaces
    pub record SuitPool : Type 0 where
      pub uses : (how : Use) → row op ≡ rows.Uses how → IsRight (using_entry p how operands) → Suits_by (rows.Uses how)
          (meanings.Uses how)
      pub interface : AreRead (Byte ∷ Index2 ∷ Byte ∷ []) operands → IsRight (by_interface p operands)
          → Suits_by rows.CallsInterface meanings.CallsInterface

    jumps_are : (needs : List Need) (falls : Bool) → row op ≡ Jumps needs falls → jumps i.item ≡ operands
    jumps_are needs falls is = ap (λ b. if b then operands else switch_offsets (form op) i.item) (jumps_jump op needs
        falls is)

    arms_are : (n : ℕ) (f : Form) → row op ≡ Switches n → form op ≡ Some f → jumps i.item ≡ switch_offsets (Some f)
        i.item
    arms_are n f is form_is = ap (λ b. if b then operands else switch_offsets (form op) i.item) (switches_jump_not op n
        is) ∙ ap (λ x. switch_offsets x i.item) form_is

    module _ (read : (f : Form) → form op ≡ Some f → AreRead (before_table f) operands) (in_pool : SuitPool) where
      switched : (n : ℕ) (f : Form) (m : Meaning) → row op ≡ Switches n → form op ≡ Some f
          → Suits l program result (record idle {
            takes = number_words n;
            falls = false;
            targets = map (moved i.at) (switch_offsets (Some f) i.item);
          }) (operation l 0 pool i.at m operands rest) → Suits_by (Switches n) m
      switched n f m is form_is s = subst (λ xs. Suits l program result (record idle {
        takes = number_words n;
        falls = false;
        targets = map (moved i.at) xs;
      }) (operation l 0 pool i.at m operands rest)) (sym (arms_are n f is form_is)) s

      by_row : (r : Row) (m : Meaning) (f : Option Form) → Beside r m f → row op ≡ r → form op ≡ f
          → IsRight (act_by p result i r) → Suits_by r m
      by_row r _ _ (plain {f = f} {kinds = kinds} b) is form_is right =
          subst (λ a. Suits l program result a (Do (f operands))) (sym (plain_read p result i r f kinds b)) (suits.plain
          operands b (read (Fields kinds) form_is))
      by_row _ _ _ (jump {needs = needs} {falls = falls} {test = test} {k = k} b) is form_is right =
          subst (λ xs. Suits l program result (record idle {
            takes = needs;
            falls = falls;
            targets = map (moved i.at) xs;
          }) (operation l 0 pool i.at (meanings.Branches test) operands rest)) (sym (jumps_are needs falls is))
          (jump_suits
          l program result 0 i.at pool needs falls test k b operands rest (read (Fields (k ∷ [])) form_is))
      by_row _ _ _ table is form_is right = switched 1 (Table Signed2) (meanings.Ranged false) is form_is (range_suits
          l program result 0 i.at pool false Signed2 operands rest (read (Table Signed2) form_is))
      by_row _ _ _ int_table is form_is right = switched 2 (Table Signed4) (meanings.Ranged true) is form_is
          (range_suits l program result 0 i.at pool true Signed4 operands rest (read (Table Signed4) form_is))
      by_row _ _ _ lookup is form_is right = switched 1 (Lookup Signed2) (meanings.Paired false) is form_is
          (pairs_suit l program result 0 i.at pool false operands rest (read (Lookup Signed2) form_is))
      by_row _ _ _ int_lookup is form_is right = switched 2 (Lookup Signed4) (meanings.Paired true) is form_is
          (pairs_suit l program result 0 i.at pool true operands rest (read (Lookup Signed4) form_is))
      by_row _ _ _ (load letter) is form_is right = suits.load letter
      by_row _ _ _ (store letter) is form_is right = suits.store letter
      by_row _ _ _ arraylength is form_is right = suits.arraylength
      by_row _ _ _ athrow is form_is right = throw_suits result i.at
      by_row _ _ _ (return letter) is form_is right = return_suits l program result letter
          (result_needs letter) right.fit
      by_row _ _ _ (uses {how = how}) is form_is right = in_pool.uses how is right
      by_row _ _ _ invokeinterface is form_is right = in_pool.interface (read (Fields (Byte ∷ Index2 ∷ Byte ∷ []))
          form_is) right
      by_row _ _ _ newarray is form_is right = numbers_suit result i.at operands rest (read (Fields
          (Byte ∷ [])) form_is)
          right.known
      by_row _ _ _ checkcast is form_is right = cast_suits result i.at operands rest (read (Fields (Byte ∷ Index2 ∷ []))
          form_is) right.known
      by_row _ _ _ instanceof is form_is right = ask_suits result i.at operands rest (read (Fields (Byte ∷ Index2 ∷ []))
          form_is) right.known
      by_row _ _ _ forbidden is form_is right = let k : true ≡ false = right.known in cc

      pub suits_of : IsRight (act p result i) → Suits l program result (act p result i) (operation l 0 pool i.at
          (meaning
          op) operands rest)
      suits_of right = by_row (row op) (meaning op) (form op) (beside op) refl refl right
