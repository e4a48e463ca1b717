-- The indices into the constant pool that laid code has stand where ReferenceLocation says.
use Rattle.std.proofs.Common.{◌≡◌, ℕ, suc, ◌+◌, ◌*◌, ◌<◌, refl, sym, ap, ◌∙◌, arith, Bool, true, false, List, [], ◌∷◌}
use Rattle.std.proofs.Common.{◌++◌, length, map, Option, Some, None, ℤ, pos}
use Rattle.std.specs.Prelude.{slice_get, filter, flat_map, ◌==◌, ◌&&◌, if◌then◌else◌, cond, option_map}
use Rattle.std.proofs.lemmas.Bool.Decides.{nat_tests}
use Rattle.std.proofs.lemmas.List.{map-append}
use Rattle.std.proofs.lemmas.List.Elements.{filter-append}
use Rattle.std.proofs.lemmas.Bool.{and_right}
use Rattle.cjc_capread.specs.Opcodes.{Form, Fields, Table, Lookup, Operand, Byte, Signed1, Signed2, Signed4, Index1}
use Rattle.cjc_capread.specs.Opcodes.{Index2, form, forms, info, op_info}
use Rattle.cjc_capread.specs.Decode.{AllFit, Instruction, before_table, more}
use Rattle.cjc_token_proof.specs.CardSemantics.Bytecode.Meanings.{Ranged, Paired, meaning}
use Rattle.cjc_token_proof.specs.Script.Sorts.{Element, Booleans, Bytes, Shorts, Ints}
use Rattle.cjc_check_rules.specs.Spots.{Placed, lies_between}
use Rattle.cjc_check_rules.specs.Instructions.{IndexOperand, index_among, index_by, index_in, indices}
use Rattle.cjc_check_rules.specs.Instructions.{is_type_of_numbers, names_no_class}
use Rattle.cjc_check_rules.specs.Locations.{places_of}
use Rattle.cjc_ncode.specs.declared.narrow.NCase.{NCase}
use Rattle.cjc_ncode.specs.declared.narrow.NInsn.{NInsn}
use Rattle.cjc_ncode.specs.declared.narrow.NInsn.TheVariants as insns
use Rattle.cjc_ncode.specs.Lowering.Naming.{Naming}
use Rattle.cjc_ncode.specs.Lowering.Laid.{distance, element_number, laid, switch_as, untabled, wide_jump}
use Rattle.cjc_ncode.specs.Lowering.Placed.{insn_size, IsSpellable}
use Rattle.cjc_pool.specs.Layout.Forms.{a_class, asks, casts, HasForm, increase, IsTest, jump, local, lookup}
use Rattle.cjc_pool.specs.Layout.Forms.{named, numbers}
use Rattle.cjc_pool.specs.Layout.Forms.{push, range, references, words}
use Rattle.cjc_pool.specs.Emit.Emitted.{code_places, index_place, insn_places}
use Rattle.cjc_check_proof.specs.Code.Codes.{laid_code}
use Rattle.cjc_check_proof.proofs.CodeLaws.Instructions.{AllSpelt, first_spelt, next_spelt}
use Rattle.cjc_check_proof.proofs.CodeLaws.Opcodes.{is_paired, is_ranged, is_test, is_use, names_nothing, none_is_index}
use Rattle.cjc_check_proof.proofs.CodeLaws.Opcodes.{pair_form, plain, range_form, tests, uses}

-- ---- lists of places

pub places_append : (k : ℕ) (xs ys : List IndexOperand) → places_of k (xs ++ ys) ≡ places_of k xs ++ places_of k ys
places_append k xs ys =
    ap (map (λ (i : IndexOperand). i.at)) (filter-append (λ (i : IndexOperand). i.size == k) xs ys)
    ∙ map-append (λ (i : IndexOperand). i.at) (filter (λ (i : IndexOperand). i.size == k) xs)
    (filter (λ (i : IndexOperand). i.size == k) ys)

one_place : (k : ℕ) (x : IndexOperand) → places_of k (x ∷ []) ≡ (if x.size == k then x.at ∷ [] else [])
one_place k x = by (x.size == k)
  where
    by : (b : Bool) → map (λ (i : IndexOperand). i.at) (cond b (x ∷ []) []) ≡ (if b then x.at ∷ [] else [])
    by true = refl
    by false = refl

-- ---- no index

none_among : (kinds : List Operand) (values : List ℤ) → none_is_index kinds ≡ true → index_among kinds values ≡ None
none_among [] values e = refl
none_among (Byte ∷ kinds) [] e = refl
none_among (Signed1 ∷ kinds) [] e = refl
none_among (Signed2 ∷ kinds) [] e = refl
none_among (Signed4 ∷ kinds) [] e = refl
none_among (Index1 ∷ kinds) values e = absurd cc
none_among (Index2 ∷ kinds) values e = absurd cc
none_among (Byte ∷ kinds) (z ∷ values) e = none_among kinds values e
none_among (Signed1 ∷ kinds) (z ∷ values) e = none_among kinds values e
none_among (Signed2 ∷ kinds) (z ∷ values) e = none_among kinds values e
none_among (Signed4 ∷ kinds) (z ∷ values) e = none_among kinds values e

none_without : (kinds : List Operand) → index_among kinds [] ≡ None
none_without [] = refl
none_without (Byte ∷ kinds) = refl
none_without (Signed1 ∷ kinds) = refl
none_without (Signed2 ∷ kinds) = refl
none_without (Signed4 ∷ kinds) = refl
none_without (Index1 ∷ kinds) = refl
none_without (Index2 ∷ kinds) = refl

if_none : {A : Type 0} (b : Bool) (xs : List A) → xs ≡ [] → (if b then [] else xs) ≡ []
if_none true xs e = refl
if_none false xs e = e

-- ---- one instruction

abbrev pub here : (at : ℕ) → Instruction → Placed Instruction
here at i = record { at = at; item = i }

module _ (n : Naming) (to : ℕ → ℕ) (at : ℕ) where
  -- nothing is named
  nothing : (i : Instruction) → index_by (here at i) (form i.opcode) ≡ [] → indices (here at i) ≡ []
  nothing i e = if_none (names_no_class i) (index_by (here at i) (form i.opcode)) e

  bare_by : (op : ℕ) (f : Option Form) → index_by (here at (untabled op [])) f ≡ []
  bare_by op None = refl
  bare_by op (Some (Table m)) = refl
  bare_by op (Some (Lookup m)) = refl
  bare_by op (Some (Fields kinds)) = ap (index_in (here at (untabled op [])) (info (Fields kinds))) (none_without kinds)

  pub bare_none : (op : ℕ) → indices (here at (untabled op [])) ≡ []
  bare_none op = nothing (untabled op []) (bare_by op (form op))

  pub plain_none : (op : ℕ) (operands : List ℤ) → names_nothing (meaning op) ≡ true
      → indices (here at (untabled op operands)) ≡ []
  plain_none op operands e =
      let t = plain op e in
      nothing (untabled op operands) (ap (index_by (here at (untabled op operands))) t.2
      ∙ ap (index_in (here at (untabled op operands)) (info (Fields t.0))) (none_among t.0 operands t.1))

  pub range_none : (op other : ℕ) (low : ℤ) (cases : List NCase) (is_int : Bool) → meaning op ≡ Ranged is_int
      → indices (here at (switch_as n to (meaning op) at op other low cases)) ≡ []
  range_none op other low cases is_int e =
      let i = switch_as n to (Ranged is_int) at op other low cases in
      ap (λ m. indices (here at (switch_as n to m at op other low cases))) e
      ∙ nothing i (ap (index_by (here at i)) (range_form op (ap is_ranged e)).1)

  pub pairs_none : (op other : ℕ) (low : ℤ) (cases : List NCase) (is_int : Bool) → meaning op ≡ Paired is_int
      → indices (here at (switch_as n to (meaning op) at op other low cases)) ≡ []
  pairs_none op other low cases is_int e =
      let i = switch_as n to (Paired is_int) at op other low cases in
      ap (λ m. indices (here at (switch_as n to m at op other low cases))) e
      ∙ nothing i (ap (index_by (here at i)) (pair_form op (ap is_paired e)).1)

  array_by : (kind : ℕ) → index_by (here at (untabled 0x90 (pos kind ∷ []))) (form 0x90) ≡ []
  unfolding form forms
  array_by kind = refl

  pub array_none : (kind : ℕ) → indices (here at (untabled 0x90 (pos kind ∷ []))) ≡ []
  array_none kind = nothing (untabled 0x90 (pos kind ∷ [])) (array_by kind)

  numbers_between : (element : Element) → lies_between 10 13 (element_number element) ≡ true
  numbers_between Booleans = refl
  numbers_between Bytes = refl
  numbers_between Shorts = refl
  numbers_between Ints = refl

  -- of a test for numbers
  pub test_none : (op index : ℕ) (element : Element) → is_test (meaning op) ≡ true
      → indices (here at (untabled op (pos (element_number element) ∷ pos index ∷ []))) ≡ []
  test_none op index element e =
      let kind = element_number element in
      let i = untabled op (pos kind ∷ pos index ∷ []) in
      ap (λ b. if b && lies_between 10 13 kind then [] else index_by (here at i) (form op)) (tests op e).0
      ∙ ap (λ b. if b then [] else index_by (here at i) (form op)) (numbers_between element)

  -- of a test for a class
  pub test_one : (op kind index : ℕ) → is_test (meaning op) ≡ true → lies_between 10 13 kind ≡ false
      → indices (here at (untabled op (pos kind ∷ pos index ∷ []))) ≡ record {
        opcode = op;
        at = at + 2;
        size = 2;
        index = index;
      } ∷ []
  test_one op kind index e away =
      let i = untabled op (pos kind ∷ pos index ∷ []) in
      ap (λ b. if b then [] else index_by (here at i) (form op)) (and_right (lies_between 0x94 0x95 op)
      (lies_between 10 13 kind) away)
      ∙ ap (index_by (here at i)) (tests op e).1

  pub interface_one : (nargs index token : ℕ)
      → indices (here at (untabled 0x8E (pos nargs ∷ pos index ∷ pos token ∷ []))) ≡ record {
        opcode = 0x8E;
        at = at + 2;
        size = 2;
        index = index;
      } ∷ []
  unfolding form forms
  interface_one nargs index token = refl

  -- of an instruction with one operand
  pub named_by : (op index : ℕ) → is_use (meaning op) ≡ true → (s : IsSpellable (untabled op (pos index ∷ [])))
      → indices (here at (untabled op (pos index ∷ []))) ≡ index_by (here at (untabled op (pos index ∷ [])))
      (Some s.form)
  named_by op index e s =
      let i = untabled op (pos index ∷ []) in
      ap (λ b. if b && is_type_of_numbers i.operands then [] else index_by (here at i) (form op)) (uses op e)
      ∙ ap (index_by (here at i)) s.writable.form

-- ---- where they stand

module _ (k : ℕ) (some : 0 < k) (n : Naming) (to : ℕ → ℕ) (at : ℕ) where
  no_width : (x : ℕ) → (if 0 == k then x ∷ [] else []) ≡ []
  no_width x = let e : (0 == k) ≡ false = grind (arith, nat_tests, some) in ap (λ b. if b then x ∷ [] else []) e

  one_kind : (op index : ℕ) (kind : Operand)
      → places_of k (index_in (here at (untabled op (pos index ∷ []))) (info (Fields (kind ∷ []))) (index_among (kind
      ∷ []) (pos index ∷ []))) ≡ index_place k at (Some (info (Fields (kind ∷ []))))
  one_kind op index Byte = sym (no_width (at + 0))
  one_kind op index Signed1 = sym (no_width (at + 0))
  one_kind op index Signed2 = sym (no_width (at + 0))
  one_kind op index Signed4 = sym (no_width (at + 0))
  one_kind op index Index1 = one_place k (record { opcode = op; at = at + 1; size = 1; index = index })
  one_kind op index Index2 = one_place k (record { opcode = op; at = at + 1; size = 2; index = index })

  one_by : (op index : ℕ) (f : Form) → AllFit (before_table f) (pos index ∷ [])
      → places_of k (index_by (here at (untabled op (pos index ∷ []))) (Some f)) ≡ index_place k at (Some (info f))
  one_by op index (Fields (kind ∷ [])) h = one_kind op index kind
  one_by op index (Fields []) h = elim h [ ]
  one_by op index (Fields (kind ∷ other ∷ kinds)) (more a h) = elim h [ ]
  one_by op index (Table m) (more a h) = elim h [ ]
  one_by op index (Lookup m) (more a h) = elim h [ ]

  named_place : (op index : ℕ) → is_use (meaning op) ≡ true → IsSpellable (untabled op (pos index ∷ []))
      → places_of k (indices (here at (untabled op (pos index ∷ [])))) ≡ index_place k at (op_info op)
  unfolding op_info
  named_place op index e s =
      ap (places_of k) (named_by n to at op index e s) ∙ one_by op index s.form s.writable.operands
      ∙ sym (ap (λ f. index_place k at (option_map info f)) s.writable.form)

  test_place : (op kind index : ℕ) → is_test (meaning op) ≡ true → lies_between 10 13 kind ≡ false
      → places_of k (indices (here at (untabled op (pos kind ∷ pos index ∷ [])))) ≡ index_place k at (op_info op)
  unfolding op_info
  test_place op kind index e away =
      ap (places_of k) (test_one n to at op kind index e away) ∙ one_place k (record {
        opcode = op;
        at = at + 2;
        size = 2;
        index = index;
      })
      ∙ sym (ap (λ f. index_place k at (option_map info f)) (tests op e).1)

  test_placed : (op kind : ℕ) (class : Option (List ℕ)) (w : Bool) → is_test (meaning op) ≡ true → IsTest kind class
      → places_of k (indices (here at (laid n to at w (insns.TypeTest op kind class))))
      ≡ insn_places k at (insns.TypeTest op kind class)
  test_placed op kind class w e a_class = test_place op 0 _ e refl
  test_placed op kind class w e references = test_place op 14 _ e refl
  test_placed op kind class w e (numbers element) = ap (places_of k) (test_none n to at op 0 element e)

  interface_place : (nargs index token : ℕ)
      → places_of k (indices (here at (untabled 0x8E (pos nargs ∷ pos index ∷ pos token ∷ []))))
      ≡ index_place k at (op_info 0x8E)
  unfolding form forms op_info
  interface_place nargs index token = one_place k (record { opcode = 0x8E; at = at + 2; size = 2; index = index })

  pub insn_indexed : (w : Bool) (i : NInsn) → HasForm i → IsSpellable (laid n to at w i)
      → places_of k (indices (here at (laid n to at w i))) ≡ insn_places k at i
  insn_indexed w (insns.Op op) f s = ap (places_of k) (bare_none n to at op)
  insn_indexed w (insns.Push op value) (push e) s =
      ap (places_of k) (plain_none n to at op (value ∷ []) (ap names_nothing e))
  insn_indexed w (insns.Local op index) (local e) s = ap (places_of k) (plain_none n to at op (pos index
      ∷ []) (ap names_nothing e))
  insn_indexed w (insns.Inc op index by) (increase e) s = ap (places_of k) (plain_none n to at op (pos index ∷ by
      ∷ []) (ap names_nothing e))
  insn_indexed w (insns.Words op high low) (words e) s = ap (places_of k) (plain_none n to at op (pos (16 * high + low)
      ∷ []) (ap names_nothing e))
  insn_indexed true (insns.Jump op target) (jump e f) s =
      ap (places_of k) (plain_none n to at (wide_jump op) (distance at (to target) ∷ []) (ap names_nothing f))
  insn_indexed false (insns.Jump op target) (jump e f) s =
      ap (places_of k) (plain_none n to at op (distance at (to target) ∷ []) (ap names_nothing e))
  insn_indexed w (insns.Switch op other low cases) (range {is_int = is_int} e) s =
      ap (places_of k) (range_none n to at op other low cases is_int e)
  insn_indexed w (insns.Switch op other low cases) (lookup {is_int = is_int} e) s =
      ap (places_of k) (pairs_none n to at op other low cases is_int e)
  insn_indexed w (insns.Named op key) (named e) s = named_place op (n.index key) (ap is_use e) s
  insn_indexed w (insns.Interface nargs m) f s = interface_place nargs _ _
  insn_indexed w (insns.NewArray kind) f s = ap (places_of k) (array_none n to at kind)
  insn_indexed w (insns.TypeTest op kind class) (casts e t) s = test_placed op kind class w (ap is_test e) t
  insn_indexed w (insns.TypeTest op kind class) (asks e t) s = test_placed op kind class w (ap is_test e) t

-- ---- code

pub code_indexed : (k : ℕ) → 0 < k → (n : Naming) (to : ℕ → ℕ) (at : ℕ) (insns : List NInsn) (wide : List Bool)
    → length wide ≡ length insns
    → ((j : ℕ) (i : NInsn) → slice_get insns j ≡ Some i → HasForm i) → AllSpelt n to at insns wide
    → places_of k (flat_map indices (laid_code n to at insns wide)) ≡ code_places n k at insns wide
code_indexed k some n to at [] wide same forms spelt = refl
code_indexed k some n to at (i ∷ insns) [] same forms spelt = refl
code_indexed k some n to at (i ∷ insns) (w ∷ wide) same forms spelt =
    let p : Placed Instruction = record { at = at; item = laid n to at w i } in
    let rest = laid_code n to (at + insn_size n w i) insns wide in
    places_append k (indices p) (flat_map indices rest)
    ∙ ap (λ xs. xs ++ places_of k (flat_map indices rest)) (insn_indexed k some n to at w i (forms 0 i refl)
    (first_spelt n to at i insns w wide spelt))
    ∙ ap (λ xs. insn_places k at i ++ xs)
    (code_indexed k some n to (at + insn_size n w i) insns wide (omega (arith, same)) (λ j x e. forms (suc j) x e)
    (next_spelt n to at i insns w wide spelt))
