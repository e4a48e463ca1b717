-- Jumps of laid code land on its instructions, and its last instruction ends it.
use Rattle.std.proofs.Common.{◌≡◌, ℕ, zero, suc, ◌+◌, ◌-◌, ◌<◌, ◌≤◌, refl, ap, ◌∙◌, ⊎_elim, arith, Bool, true, false}
use Rattle.std.proofs.Common.{List, [], ◌∷◌, length, Option, Some, None, ℤ, pos, negsuc}
use Rattle.std.specs.Prelude.{slice_get, nat_le, ◌&&◌, ◌||◌, not, ◌==◌, flat_map, if◌then◌else◌, ◌+ℤ◌}
use Rattle.std.specs.List.{list_all}
use Rattle.std.specs.Ordering.{int_eq}
use Rattle.std.proofs.lemmas.Bool.{cases_lt, eqb-true}
use Rattle.std.proofs.lemmas.Bool.Decides.{Decides-int_eq, nat_tests}
use Rattle.std.proofs.lemmas.Int.{ints}
use Rattle.std.proofs.lemmas.Map.Keys.{any_passes_from_place}
use Rattle.cjc_capread.specs.Opcodes.{Form, Fields, Table, Lookup, form, forms}
use Rattle.cjc_capread.specs.Decode.{Instruction}
use Rattle.cjc_token_proof.specs.CardSemantics.Bytecode.Meanings.{Ranged, Paired, meaning}
use Rattle.cjc_check_rules.specs.Spots.{Placed, in_info}
use Rattle.cjc_check_rules.specs.Codes.{Code}
use Rattle.cjc_check_rules.specs.Instructions.{code_spots, ends_code, in_code, is_empty, is_jump, jumps, jumps_land}
use Rattle.cjc_check_rules.specs.Instructions.{lands, pair_offsets, switch_offsets}
use Rattle.cjc_ncode.specs.declared.narrow.NCase.{NCase}
use Rattle.cjc_ncode.specs.declared.narrow.NInsn.{NInsn}
use Rattle.cjc_ncode.specs.declared.narrow.NInsn.TheVariants as insns
use Rattle.cjc_ncode.specs.Lowering.Naming.{Naming}
use Rattle.cjc_ncode.specs.Lowering.Laid.{distance, laid, matches, offsets, switch_as, untabled, wide_jump}
use Rattle.cjc_ncode.specs.Lowering.Placed.{bytes_before, first, insn_size, offset_of}
use Rattle.cjc_pool.specs.Layout.Forms.{HasForm, push, local, increase, words, range, lookup, named, casts, asks}
use Rattle.cjc_pool.specs.Layout.Sizes.{AllLead, CasesLead, Leads}
use Rattle.cjc_pool.specs.Emit.Emitted.{CanBeWritten}
use Rattle.cjc_pool.specs.Emit.Emitted as Emitted
use Rattle.cjc_components.specs.Package.{LaidMethod}
use Rattle.cjc_components.specs.Methods.{method_size, placed_at}
use Rattle.cjc_token_proof.proofs.ComponentsLaws.Tests.{none_in_both, passes}
use Rattle.cjc_check_proof.specs.Code.Codes.{code_at, codes_at, laid_code}
use Rattle.cjc_check_proof.specs.Code.Ends.{AllStayInside, ends, FallsNowhere, has_end, is_abstract, last_ends}
use Rattle.cjc_check_proof.specs.Code.Ends.{StaysInside}
use Rattle.cjc_check_proof.specs.Code.Written.{AllWritable}
use Rattle.cjc_check_proof.proofs.CodeLaws.Opcodes.{calm, fields, has_fields, is_calm, is_paired, is_ranged, is_switch}
use Rattle.cjc_check_proof.proofs.CodeLaws.Opcodes.{pair_form, range_form, switches}

-- ---- where items stand

-- a distance from one place to another leads there
leads_to : (at x : ℕ) → pos at +ℤ distance at x ≡ pos x
leads_to at x = ⊎_elim
    (λ lt. let e : nat_le at x ≡ false = grind (arith, nat_tests, lt) in
    ap (λ b. pos at +ℤ (if b then pos (x - at) else negsuc (at - suc x))) e ∙ back lt)
    (λ le. let e : nat_le at x ≡ true = grind (arith, nat_tests, le) in
    ap (λ b. pos at +ℤ (if b then pos (x - at) else negsuc (at - suc x))) e ∙ forth le)
    (cases_lt x at)
  where
    back : x < at → pos at +ℤ negsuc (at - suc x) ≡ pos x
    back lt = omega (arith, ints, lt)

    forth : at ≤ x → pos at +ℤ pos (x - at) ≡ pos x
    forth le = omega (arith, ints, le)

same_place : (n : ℕ) → int_eq (pos n) (pos n) ≡ true
same_place n = (Decides-int_eq (pos n) (pos n)).1 refl

-- the item of a label stands at its offset
pub item_of : (n : Naming) (to : ℕ → ℕ) (at : ℕ) (insns : List NInsn) (wide : List Bool) → length wide ≡ length insns
    → (k : ℕ) → k < length insns
    → (p : Placed Instruction) × (slice_get (laid_code n to at insns wide) k ≡ Some p)
    × (p.at ≡ at + bytes_before n insns wide k)
item_of n to at [] wide same k lt = absurd (omega (arith, lt))
item_of n to at (i ∷ insns) [] same k lt = absurd (omega (arith, same))
item_of n to at (i ∷ insns) (w ∷ wide) same zero lt = (
  record { at = at; item = laid n to at w i },
  refl,
  (let e : at ≡ at + 0 = omega arith in e),
)
item_of n to at (i ∷ insns) (w ∷ wide) same (suc k) lt =
    let r = item_of n to (at + insn_size n w i) insns wide (omega (arith, same)) k (omega (arith, lt)) in
    let e : at + insn_size n w i + bytes_before n insns wide k ≡ at + (insn_size n w i + bytes_before n insns wide k) =
    omega arith in
    (r.0, r.1, r.2 ∙ e)

-- ---- one instruction

module _ (n : Naming) (to : ℕ → ℕ) (code : Code) (count at : ℕ) (land : (label : ℕ) → label < count
    → lands code at (distance at (to label)) ≡ true) where
  abbrev all_land : List ℤ → Bool
  all_land = list_all (lands code at)

  abbrev leaps : Option Form → Instruction → Bool → List ℤ
  leaps f i b = if b then i.operands else switch_offsets f i

  -- without operands
  bare_lands : (op : ℕ) (b : Bool) (f : Option Form) → all_land (leaps f (untabled op []) b) ≡ true
  bare_lands op true f = refl
  bare_lands op false None = refl
  bare_lands op false (Some (Fields kinds)) = refl
  bare_lands op false (Some (Table m)) = refl
  bare_lands op false (Some (Lookup m)) = refl

  -- with operands that are no distances
  fields_land : (op : ℕ) (operands : List ℤ) → is_calm (meaning op) ≡ true → has_fields (meaning op) ≡ true
      → all_land (jumps (untabled op operands)) ≡ true
  fields_land op operands e f =
      let t = fields op f in
      ap (λ b. all_land (leaps (form op) (untabled op operands) b)) (calm op e)
      ∙ ap (λ o. all_land (switch_offsets o (untabled op operands))) t.1

  one_lands : (label : ℕ) → label < count → all_land (distance at (to label) ∷ []) ≡ true
  one_lands label lt = ap (λ b. b && true) (land label lt)

  -- a jump
  jump_lands : (op label : ℕ) (b : Bool) (f : Option Form) → label < count
      → all_land (leaps f (untabled op (distance at (to label) ∷ [])) b) ≡ true
  jump_lands op label true f lt = one_lands label lt
  jump_lands op label false None lt = refl
  jump_lands op label false (Some (Fields kinds)) lt = refl
  jump_lands op label false (Some (Table m)) lt = one_lands label lt
  jump_lands op label false (Some (Lookup m)) lt = one_lands label lt

  -- the cases of a switch
  offsets_land : (cases : List NCase) → CasesLead count cases → all_land (offsets n to at cases) ≡ true
  offsets_land [] h = refl
  offsets_land (c ∷ cases) h = ap (λ b. b && all_land (offsets n to at cases)) (land c.target h.0)
      ∙ offsets_land cases h.1

  matches_land : (cases : List NCase) → CasesLead count cases → all_land (pair_offsets (matches n to at cases)) ≡ true
  matches_land [] h = refl
  matches_land (c ∷ cases) h = ap (λ b. b && all_land (pair_offsets (matches n to at cases))) (land c.target h.0)
      ∙ matches_land cases h.1

  range_lands : (op other : ℕ) (low : ℤ) (cases : List NCase) (is_int : Bool) → meaning op ≡ Ranged is_int
      → other < count → CasesLead count cases
      → all_land (jumps (switch_as n to (Ranged is_int) at op other low cases)) ≡ true
  range_lands op other low cases is_int e lt h =
      let i = switch_as n to (Ranged is_int) at op other low cases in
      let t = range_form op (ap is_ranged e) in
      ap (λ b. all_land (leaps (form op) i b)) (calm op (ap is_calm e))
      ∙ ap (λ o. all_land (switch_offsets o i)) t.1
      ∙ ap (λ b. b && all_land (offsets n to at cases)) (land other lt) ∙ offsets_land cases h

  pairs_land : (op other : ℕ) (low : ℤ) (cases : List NCase) (is_int : Bool) → meaning op ≡ Paired is_int
      → other < count → CasesLead count cases
      → all_land (jumps (switch_as n to (Paired is_int) at op other low cases)) ≡ true
  pairs_land op other low cases is_int e lt h =
      let i = switch_as n to (Paired is_int) at op other low cases in
      let t = pair_form op (ap is_paired e) in
      ap (λ b. all_land (leaps (form op) i b)) (calm op (ap is_calm e))
      ∙ ap (λ o. all_land (switch_offsets o i)) t.1
      ∙ ap (λ b. b && all_land (pair_offsets (matches n to at cases))) (land other lt) ∙ matches_land cases h

  interface_lands : (operands : List ℤ) → all_land (jumps (untabled 0x8E operands)) ≡ true
  unfolding form forms
  interface_lands operands = refl

  array_lands : (operands : List ℤ) → all_land (jumps (untabled 0x90 operands)) ≡ true
  unfolding form forms
  array_lands operands = refl

  pub insn_lands : (w : Bool) (i : NInsn) → HasForm i → Leads count i → all_land (jumps (laid n to at w i)) ≡ true
  insn_lands w (insns.Op op) f h = bare_lands op (is_jump op) (form op)
  insn_lands w (insns.Push op value) (push e) h = fields_land op (value ∷ []) (ap is_calm e) (ap has_fields e)
  insn_lands w (insns.Local op index) (local e) h = fields_land op (pos index ∷ []) (ap is_calm e) (ap has_fields e)
  insn_lands w (insns.Inc op index by) (increase e) h = fields_land op _ (ap is_calm e) (ap has_fields e)
  insn_lands w (insns.Words op high low) (words e) h = fields_land op _ (ap is_calm e) (ap has_fields e)
  insn_lands true (insns.Jump op target) f h = jump_lands (wide_jump op) target (is_jump (wide_jump op))
      (form (wide_jump op)) h
  insn_lands false (insns.Jump op target) f h = jump_lands op target (is_jump op) (form op) h
  insn_lands w (insns.Switch op other low cases) (range {is_int = is_int} e) h =
      ap (λ m. all_land (jumps (switch_as n to m at op other low cases))) e ∙ range_lands op other low cases is_int e
      h.0 h.1
  insn_lands w (insns.Switch op other low cases) (lookup {is_int = is_int} e) h =
      ap (λ m. all_land (jumps (switch_as n to m at op other low cases))) e ∙ pairs_land op other low cases is_int e h.0
      h.1
  insn_lands w (insns.Named op key) (named e) h = fields_land op _ (ap is_calm e) (ap has_fields e)
  insn_lands w (insns.Interface nargs m) f h = interface_lands _
  insn_lands w (insns.NewArray kind) f h = array_lands _
  insn_lands w (insns.TypeTest op kind class) (casts e t) h = fields_land op _ (ap is_calm e) (ap has_fields e)
  insn_lands w (insns.TypeTest op kind class) (asks e t) h = fields_land op _ (ap is_calm e) (ap has_fields e)

-- ---- the last instruction

same_number_of : (op : ℕ) → (op == 0x70) ≡ true → op ≡ 0x70
same_number_of op e = eqb-true op 0x70 e

insn_ends : (n : Naming) (to : ℕ → ℕ) (at : ℕ) (w : Bool) (i : NInsn) → HasForm i → ends i ≡ true
    → (let l = laid n to at w i in ends_code l.opcode) ≡ true
insn_ends n to at w (insns.Op op) f e = e
insn_ends n to at true (insns.Jump op target) f e = ap (λ k. ends_code (k + 56)) (same_number_of op e)
insn_ends n to at false (insns.Jump op target) f e = ap ends_code (same_number_of op e)
insn_ends n to at w (insns.Switch op other low cases) (range {is_int = is_int} e) f =
    ap (λ m. let l = switch_as n to m at op other low cases in ends_code l.opcode) e ∙ switches op (ap is_switch e)
insn_ends n to at w (insns.Switch op other low cases) (lookup {is_int = is_int} e) f =
    ap (λ m. let l = switch_as n to m at op other low cases in ends_code l.opcode) e ∙ switches op (ap is_switch e)
insn_ends n to at w (insns.Push op value) f e = absurd cc
insn_ends n to at w (insns.Local op index) f e = absurd cc
insn_ends n to at w (insns.Inc op index by) f e = absurd cc
insn_ends n to at w (insns.Words op high low) f e = absurd cc
insn_ends n to at w (insns.Named op key) f e = absurd cc
insn_ends n to at w (insns.Interface nargs m) f e = absurd cc
insn_ends n to at w (insns.NewArray kind) f e = absurd cc
insn_ends n to at w (insns.TypeTest op kind class) f e = absurd cc

-- ---- code

module _ (n : Naming) (to : ℕ → ℕ) (code : Code) (count : ℕ) (land : (at label : ℕ) → label < count
    → lands code at (distance at (to label)) ≡ true) where
  here_lands : (at : ℕ) (w : Bool) (i : NInsn) → HasForm i → Leads count i
      → jumps_land code (record { at = at; item = laid n to at w i }) ≡ true
  here_lands at w i f h = insn_lands n to code count at (land at) w i f h

  all_ends : (at : ℕ) (insns : List NInsn) (wide : List Bool) → length wide ≡ length insns → ((k : ℕ) (i : NInsn)
      → slice_get insns k ≡ Some i → HasForm i) → AllLead count insns → last_ends insns ≡ true
      → in_code code (laid_code n to at insns wide) ≡ []
  unfolding in_code
  all_ends at [] wide same forms h e = absurd cc
  all_ends at (i ∷ insns) [] same forms h e = absurd (omega (arith, same))
  all_ends at (i ∷ []) (w ∷ []) same forms h e =
      passes _ (in_info 7 at) (ap (λ b. b && (let l = laid n to at w i in ends_code l.opcode))
      (here_lands at w i (forms 0 i refl) h.0) ∙ insn_ends n to at w i (forms 0 i refl) e)
  all_ends at (i ∷ []) (w ∷ v ∷ wide) same forms h e = absurd (omega (arith, same))
  all_ends at (i ∷ j ∷ insns) (w ∷ []) same forms h e = absurd (omega (arith, same))
  all_ends at (i ∷ j ∷ insns) (w ∷ v ∷ wide) same forms h e =
      none_in_both (passes _ (in_info 7 at) (here_lands at w i (forms 0 i refl) h.0))
      (all_ends (at + insn_size n w i) (j ∷ insns) (v ∷ wide) (omega (arith, same)) (λ k x f. forms (suc k) x f) h.1 e)

-- ---- a method

something : (n : Naming) (to : ℕ → ℕ) (at : ℕ) (insns : List NInsn) (wide : List Bool) → length wide ≡ length insns
    → last_ends insns ≡ true → is_empty (laid_code n to at insns wide) ≡ false
something n to at [] wide same e = absurd cc
something n to at (i ∷ insns) [] same e = absurd (omega (arith, same))
something n to at (i ∷ insns) (w ∷ wide) same e = refl

or_not : (a b : Bool) → b ≡ false → (a || not b) ≡ true
or_not true b e = refl
or_not false true e = absurd cc
or_not false false e = refl

nothing_laid : (n : Naming) (to : ℕ → ℕ) (at : ℕ) (insns : List NInsn) (wide : List Bool) → insns ≡ []
    → laid_code n to at insns wide ≡ []
nothing_laid n to at [] wide e = refl
nothing_laid n to at (i ∷ insns) wide e = absurd cc

module _ (n : Naming) (at : ℕ) (m : LaidMethod) (can : CanBeWritten n (Emitted.placed_at 0 m.code m.wide))
    (stays : StaysInside m) where
  abbrev to : ℕ → ℕ
  to = offset_of n (placed_at at m)

  abbrev start : ℕ
  start = first (placed_at at m)

  abbrev items : List (Placed Instruction)
  items = laid_code n to start m.code.insns m.wide

  land : (from label : ℕ) → label < length m.code.insns → lands (code_at n at m) from (distance from (to label)) ≡ true
  land from label lt =
      let r = item_of n to start m.code.insns m.wide can.count label lt in
      let p = r.0 in
      let same : int_eq (pos p.at) (pos from +ℤ distance from (to label)) ≡ true =
      ap (λ z. int_eq (pos p.at) z) (leads_to from (to label)) ∙ ap (λ k. int_eq (pos k) (pos (to label))) r.2
      ∙ same_place (to label) in
      any_passes_from_place (λ j. int_eq (pos j.at) (pos from +ℤ distance from (to label))) items label p r.1 same

  pub method_lands : code_spots (code_at n at m) ≡ []
  unfolding in_code
  method_lands = by stays.ends
    where
      by : FallsNowhere m → code_spots (code_at n at m) ≡ []
      by (is_abstract e none) =
          let empty : items ≡ [] = nothing_laid n to start m.code.insns m.wide none in
          none_in_both (passes _ (in_info 7 start) (ap (λ b. b || not (is_empty items)) e))
          (ap (in_code (code_at n at m)) empty)
      by (has_end e) =
          none_in_both (passes _ (in_info 7 start) (or_not m.is_abstract (is_empty items)
          (something n to start m.code.insns m.wide can.count e)))
          (all_ends n to (code_at n at m) (length m.code.insns) land start m.code.insns m.wide can.count can.forms
          stays.leads e)

pub codes_land : (n : Naming) (at : ℕ) (ms : List LaidMethod) → AllWritable n ms → AllStayInside ms
    → flat_map code_spots (codes_at n at ms) ≡ []
codes_land n at [] can stays = refl
codes_land n at (m ∷ ms) can stays =
    none_in_both (method_lands n at m (can 0 m refl) (stays 0 m refl)) (codes_land n (at + method_size m) ms
    (λ k x e. can (suc k) x e) (λ k x e. stays (suc k) x e))
