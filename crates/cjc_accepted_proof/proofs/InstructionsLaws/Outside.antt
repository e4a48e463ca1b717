-- Rows of reached instructions outside of pairs: what is written for one that is served mirrors it and leads where it
-- does.
use Rattle.cjc_types.specs.Flow.{Body as BodyByName, type_flow}
use Rattle.cjc_types.specs.Rules.{Breaks as BreaksByName, clash, has_wrong as has_wrong_by_name, off, wrong}
use Rattle.cjc_types.specs.Rules.{has_wrong_local as has_wrong_local_by_name, is_off as is_off_by_name}
use Rattle.cjc_types.specs.Rules.{is_wrong as is_wrong_by_name, is_wrong_return, tests_references}
use Rattle.std.proofs.Common.{◌≡◌, ℕ, suc, ◌+◌, ◌<◌, ◌≤◌, refl, sym, ap, subst, ◌∙◌, arith, Bool, true, false, List, []}
use Rattle.std.proofs.Common.{◌∷◌, length, map, slice_get, Contains, inl, inr, Option, Some, ℤ, pos}
use Rattle.std.specs.Prelude.{◌==◌, ◌||◌, None, nat_le, nat_lt, not, drop, if◌then◌else◌}
use Rattle.cjc_types.proofs.BytesNumbers.{like_number}
use Rattle.cjc_types.specs.Bytecode.Jvm as jvm
use Rattle.cjc_types.specs.Bytecode.declared.insn.JCase.{JCase}
use Rattle.cjc_types.specs.Bytecode.declared.insn.JInsn.{JInsn}
use Rattle.cjc_types.specs.Bytecode.declared.insn.JOp.{JOp}
use Rattle.cjc_types.specs.Bytecode.declared.insn.JOp.TheVariants as jop
use Rattle.cjc_types.specs.Bytes.declared.fault.MemberId.{MemberId}
use Rattle.cjc_types.specs.Fixpoint.Tables.{HasRow, IsClosed}
use Rattle.cjc_types.specs.Fixpoint.Working.Edges.{contains_cons, contains_head}
use Rattle.cjc_types.specs.Range.Words.{low_word}
use Rattle.cjc_types.specs.States.{most_cells, stack_of, states}
use Rattle.cjc_types.specs.Steps.{after as after_by_name, compares, goes_on as goes_on_by_name, takes, targets}
use Rattle.cjc_types.specs.Tables.{Breach}
use Rattle.cjc_types.specs.TypeLaws.Places.{local_of}
use Rattle.cjc_types.specs.World.Classes.{Class}
use Rattle.cjc_types.specs.declared.cell.Cell.{Cell}
use Rattle.cjc_types.specs.declared.state.Stack.{Stack}
use Rattle.cjc_types.specs.declared.state.Stack.TheVariants.{Cells, Clash}
use Rattle.cjc_types.specs.declared.state.State.{State}
use Rattle.cjc_check_proof.specs.CheckRules.Instructions.{pair_offsets}
use Rattle.cjc_check_proof.specs.NCode.Lowering.Laid.{matches, offsets}
use Rattle.cjc_check_proof.specs.NCode.Lowering.Naming.{Naming}
use Rattle.cjc_check_proof.specs.NCode.Written.{Resolution, arithmetic, array_load, array_store, condition}
use Rattle.cjc_check_proof.specs.NCode.Written.{element_number, field_access, is_byte, leaving, low_of, nargs_of}
use Rattle.cjc_check_proof.specs.NCode.Written.{on_stack, pair_cases, place_in, pushed_word, reached, static_access}
use Rattle.cjc_check_proof.specs.NCode.Written.{static_by, switched, table_cases, type_test, written, written_as}
use Rattle.cjc_check_proof.specs.NCode.Written.{written_for}
use Rattle.cjc_check_proof.specs.NCode.declared.narrow.NCase.{NCase}
use Rattle.cjc_check_proof.specs.NCode.declared.narrow.NInsn.{NInsn}
use Rattle.cjc_check_proof.specs.NCode.declared.narrow.NInsn.TheVariants.{Inc, Interface, Jump, Local, Named, NewArray}
use Rattle.cjc_check_proof.specs.NCode.declared.narrow.NInsn.TheVariants.{Op, Switch, TypeTest}
use Rattle.cjc_check_proof.specs.NCode.declared.narrow.PairRole.{PairRole}
use Rattle.cjc_check_proof.specs.NCode.declared.narrow.PairRole.TheVariants.{Alone}
use Rattle.cjc_check_proof.specs.NCode.declared.narrow.PoolKey.{PoolKey}
use Rattle.cjc_check_proof.specs.NCode.declared.narrow.PoolKey.TheVariants as keys
use Rattle.cjc_check_proof.specs.NarrowProof.Tables.Analysis.{IsDecoded}
use Rattle.cjc_check_proof.specs.NarrowProof.Tables.Arrays.{IsOnArray}
use Rattle.cjc_check_proof.specs.NarrowProof.Tables.Arrays as arrays
use Rattle.cjc_check_proof.specs.NarrowProof.Tables.Pairs.{AreInPairs, IsInPair, IsSilent, a_narrow, a_nop, goes_on}
use Rattle.cjc_check_proof.specs.NarrowProof.Tables.Pairs.{gets, opens, pushes, puts, stands_alone}
use Rattle.cjc_check_proof.specs.NarrowProof.Tables.Supported.{IsPlain, IsReturn}
use Rattle.cjc_check_proof.specs.NarrowProof.Tables.Supported as plains
use Rattle.cjc_frames.specs.Acts.{Subtype}
use Rattle.cjc_frames.specs.declared.acts.Act.{Act}
use Rattle.cjc_frames.specs.declared.acts.Given.TheVariants.{ANull, ANumber, AnObject, Operand}
use Rattle.cjc_frames.specs.declared.acts.Need.TheVariants.{NumberWord, OfArrays}
use Rattle.cjc_frames.specs.declared.acts.Step.{Step}
use Rattle.cjc_verify.specs.CapRead.declared.tree.ClassRef.{ClassRef}
use Rattle.cjc_verify.specs.CardActs.CardTypes.{MemberType, ValueType, all_arrays, widths}
use Rattle.cjc_verify.specs.CardActs.Rows.{any_words, calculating, idle, increasing, loading, loading_item}
use Rattle.cjc_verify.specs.CardActs.Rows.{number_words, pushing, storing, storing_item}
use Rattle.cjc_verify.specs.CardSemantics.Bytecode.Effects as letters
use Rattle.cjc_verify.specs.CardSemantics.Bytecode.Meanings.{Calls, Gets, GetsStatic, Makes, MakesReferences, Puts}
use Rattle.cjc_verify.specs.CardSemantics.Bytecode.Meanings.{PutsStatic, Special, Static, Use, Virtual}
use Rattle.cjc_verify.specs.CardSemantics.Machine.Operations.{moved}
use Rattle.cjc_verify.specs.ClassTypes.{array_type, class_type}
use Rattle.cjc_verify.specs.Components.Types.{array_nibble}
use Rattle.cjc_verify.specs.Instructions.{asking, calling, calling_interface, calling_on, calling_through, casting}
use Rattle.cjc_verify.specs.Instructions.{class_in, exception_needs, getting, getting_static, last, making_numbers}
use Rattle.cjc_verify.specs.Instructions.{putting, putting_static, returning, tested_type, throwable, using_some}
use Rattle.cjc_verify.specs.Named.{entry_of, entry_type, holder_of, interface_type, names_abstract}
use Rattle.cjc_verify.specs.Named.{names_abstract_above, names_static, names_unmade}
use Rattle.cjc_verify.specs.Narrow.Pairs.Open.{Open, closed}
use Rattle.cjc_verify.specs.Pairs.{Pair}
use Rattle.cjc_verify.specs.Script.Sorts.{Booleans, Bytes, Element, Ints, OfNumbers, Shorts, field_sort, shape_named}
use Rattle.cjc_accepted_proof.specs.Blocks.{AllStand, goes_on as falls_through}
use Rattle.cjc_accepted_proof.specs.Coded.{step_laid}
use Rattle.cjc_accepted_proof.specs.Frames.{Mirrors, card_cells, card_state}
use Rattle.cjc_accepted_proof.specs.Members.{letter_of_return}
use Rattle.cjc_accepted_proof.specs.Methods.{RowStands, between, steps_from}
use Rattle.cjc_accepted_proof.specs.Plain.{act_laid, letter_moving}
use Rattle.cjc_accepted_proof.specs.Served.{CallServed, FieldServed, IsServed, IsServedIn, StaticServed, TypeServed}
use Rattle.cjc_accepted_proof.specs.Served.{letter_of}
use Rattle.cjc_accepted_proof.specs.Served as serves
use Rattle.cjc_accepted_proof.proofs.InstructionsLaws.Acts as acts
use Rattle.cjc_accepted_proof.proofs.InstructionsLaws.Alone.{row_alone, row_of_none}
use Rattle.cjc_accepted_proof.proofs.InstructionsLaws.Emptied.{emptied_stand}
use Rattle.cjc_accepted_proof.proofs.InstructionsLaws.Inside.{silent_below}
use Rattle.cjc_accepted_proof.proofs.InstructionsLaws.Leads.{leads_none, leads_one, moved_far, pair_targets}
use Rattle.cjc_accepted_proof.proofs.InstructionsLaws.Leads.{table_targets}
use Rattle.cjc_accepted_proof.proofs.InstructionsLaws.Members.{constant_mirrors, getting_static_mirrors}
use Rattle.cjc_accepted_proof.proofs.InstructionsLaws.Members.{object_call_mirrors, putting_mirrors}
use Rattle.cjc_accepted_proof.proofs.InstructionsLaws.Members.{putting_static_mirrors, return_mirrors}
use Rattle.cjc_accepted_proof.proofs.InstructionsLaws.Members.{static_call_mirrors}
use Rattle.cjc_accepted_proof.proofs.InstructionsLaws.Named as named
use Rattle.cjc_accepted_proof.proofs.InstructionsLaws.Named.{IsBranch, far}
use Rattle.cjc_accepted_proof.proofs.InstructionsLaws.Objects as objects
use Rattle.cjc_accepted_proof.proofs.InstructionsLaws.Plain as mirrors
use Rattle.cjc_accepted_proof.proofs.KindsLaws.{getting_mirrors}
use Rattle.cjc_accepted_proof.proofs.RowsLaws.{arithmetic_mirrors}

-- none of three
three_false : (a b c : Bool) → (a || b || c) ≡ false → (a ≡ false) × (b ≡ false) × (c ≡ false)
three_false true b c e = absurd cc
three_false false true c e = absurd cc
three_false false false c e = (refl, refl, e)

-- what a switch of whose cases none is left does: it takes its operand and leads to its default
record IsEmptied (b : BodyByName) (op : JOp) (other : ℕ) : Type 0 where
  behind : (ls : List Cell) (y : Cell) (s : List Cell) → after_by_name op (record {
    stack = Cells (y ∷ s);
    locals = ls;
  }) ≡ record { stack = stack_of s; locals = ls }
  leads : Contains (targets op) other
  off : (ls s : List Cell) → is_off_by_name b op ls s ≡ (nat_lt (length s) 1 || nat_lt b.max_stack (length s)
      || nat_lt b.max_stack (length (drop 1 s)))

module _ (card_type : List ℕ → Option (List ℕ)) (is_of : Subtype) (w : List Class) (b : BodyByName) (p : Pair)
    (result : ValueType) (n : Naming) (r : Resolution) (place to : ℕ → ℕ) where
  -- an act mirrors an instruction, goes on where it does, and leads to what is written for its targets
  record IsRow (op : JOp) (a : Act) (ls s : List Cell) : Type 0 where
    same : Mirrors card_type is_of op a ls s
    falls : a.falls ≡ true → goes_on_by_name op ≡ true
    leads : (offset : ℕ) → Contains a.targets offset → (target : ℕ) × Contains (targets op) target
        × (offset ≡ to (place target))

  module _ (at : ℕ) (wide : Bool) (ls s : List Cell) where
    abbrev acted : NInsn → Act
    acted insn = act_laid p result n to at wide insn

    -- what is written for an instruction: one that mirrors it, nothing, or a pop and a goto
    data Outcome (op : JOp) : Type 0 where
      one : (insn : NInsn) → written r place op ≡ insn ∷ [] → IsRow op (act_laid p result n to at wide insn) ls s
          → Outcome op
      none : IsSilent op → written r place op ≡ [] → goes_on_by_name op ≡ true → Outcome op
      emptied : (other : ℕ) → written r place op ≡ Op 0x3B ∷ Jump 0x70 (place other) ∷ [] → IsEmptied b op other
          → Outcome op

    -- by an act that leads nowhere
    alone : (op : JOp) (insn : NInsn) → written r place op ≡ insn ∷ [] → (c : Act) → acted insn ≡ c
        → Mirrors card_type is_of op c ls s → c.targets ≡ [] → (c.falls ≡ true → goes_on_by_name op ≡ true)
        → Outcome op
    alone op insn is c e same nowhere falls = one insn is (subst (λ (v : Act). IsRow op v ls s) (sym e) (record {
      same = same;
      falls = falls;
      leads = λ offset on. leads_none n to at place (targets op) offset (subst (λ (ts : List ℕ). Contains ts offset)
          nowhere on);
    }))

    -- the same where it goes on
    straight : (op : JOp) (insn : NInsn) → written r place op ≡ insn ∷ [] → (c : Act) → acted insn ≡ c
        → Mirrors card_type is_of op c ls s → c.targets ≡ [] → goes_on_by_name op ≡ true → Outcome op
    straight op insn is c e same nowhere goes = alone op insn is c e same nowhere (λ h. goes)

    -- ---- what names nothing

    branch : (op target : ℕ) (two references : Bool) → compares op ≡ two → tests_references op ≡ references
        → IsBranch p result n to at (condition op) two references
        → has_wrong_by_name w b (jop.If op target) (takes (jop.If op target)) 0 s ≡ false → Outcome (jop.If op target)
    branch op target two references is tests act e = one (Jump (condition op) (place target)) refl (subst
        (λ (v : Act). IsRow (jop.If op target) v ls s) (sym (act wide (place target))) (record {
          same = mirrors.branch_mirrors card_type is_of w b op target two references is tests (far p result n to at
              (place target) ∷ []) ls s e;
          falls = λ h. refl;
          leads = leads_one n to at place target [];
        }))

    jump : (target : ℕ) → Outcome (jop.Goto target)
    jump target = one (Jump 0x70 (place target)) refl (subst (λ (v : Act). IsRow (jop.Goto target) v ls s)
        (sym (named.goto_act p result n to at wide (place target))) (record {
          same = mirrors.goto_mirrors card_type is_of target (far p result n to at (place target) ∷ []) ls s;
          falls = λ h. absurd cc;
          leads = leads_one n to at place target [];
        }))

    table : (other : ℕ) (low : ℤ) (ts : List ℕ) → has_wrong_by_name w b (jop.TableSwitch other low ts) 1 0 s ≡ false
        → Outcome (jop.TableSwitch other low ts)
    table other low ts e = by (table_cases place low ts) refl
      where
        by : (cs : List NCase) → table_cases place low ts ≡ cs → Outcome (jop.TableSwitch other low ts)
        by [] f = emptied other (ap (λ (ds : List NCase). switched 0x73 (place other) (low_of ds) ds) f) (record {
          behind = λ ls y s. refl;
          leads = contains_head other ts;
          off = λ ls s. refl;
        })
        by (c ∷ cs) f = one (Switch 0x73 (place other) (low_of (c ∷ cs)) (c ∷ cs)) (ap (λ (ds : List NCase). switched
            0x73 (place other) (low_of ds) ds) f) (subst (λ (v : Act). IsRow (jop.TableSwitch other low ts) v ls s)
            (sym (named.table_act p result n to at wide (place other) (low_of (c ∷ cs)) (c ∷ cs))) (record {
              same = mirrors.table_mirrors card_type is_of w b other low ts (far p result n to at (place other)
                  ∷ map (moved at) (offsets n to at (c ∷ cs))) ls s e;
              falls = λ h. absurd cc;
              leads = λ offset on. table_targets n to at place other low ts offset (subst (λ (ds : List NCase). Contains
                  (far p result n to at (place other) ∷ map (moved at) (offsets n to at ds)) offset) (sym f) on);
            }))

    lookup : (other : ℕ) (cases : List JCase) → has_wrong_by_name w b (jop.LookupSwitch other cases) 1 0 s ≡ false
        → Outcome (jop.LookupSwitch other cases)
    lookup other cases e = by (pair_cases place cases) refl
      where
        by : (cs : List NCase) → pair_cases place cases ≡ cs → Outcome (jop.LookupSwitch other cases)
        by [] f = emptied other (ap (switched 0x75 (place other) (pos 0)) f) (record {
          behind = λ ls y s. refl;
          leads = contains_head other _;
          off = λ ls s. refl;
        })
        by (c ∷ cs) f = one (Switch 0x75 (place other) (pos 0) (c ∷ cs)) (ap (switched 0x75 (place other) (pos 0)) f)
            (subst (λ (v : Act). IsRow (jop.LookupSwitch other cases) v ls s) (sym (named.lookup_act p result n to at
            wide (place other) (pos 0) (c ∷ cs))) (record {
              same = mirrors.lookup_mirrors card_type is_of w b other cases (far p result n to at (place other)
                  ∷ map (moved at) (pair_offsets (matches n to at (c ∷ cs)))) ls s e;
              falls = λ h. absurd cc;
              leads = λ offset on. pair_targets n to at place other cases offset (subst (λ (ds : List NCase). Contains
                  (far p result n to at (place other) ∷ map (moved at) (pair_offsets (matches n to at ds))) offset)
                  (sym f) on);
            }))

    load : (refs : Bool) (k : ℕ) → has_wrong_local_by_name (jop.Load refs k) ls ≡ false → Outcome (jop.Load refs k)
    load true k l = straight (jop.Load true k) (if nat_le k 3 then Op (0x18 + k) else Local 0x15 k) refl
        (loading letters.Reference k) (acts.load_act p result n to at wide true k) (mirrors.load_mirrors card_type is_of
        true k ls s l) refl refl
    load false k l = straight (jop.Load false k) (if nat_le k 3 then Op (0x1C + k) else Local 0x16 k) refl
        (loading letters.Short k) (acts.load_act p result n to at wide false k) (mirrors.load_mirrors card_type is_of
        false k ls s l) refl refl

    store : (refs : Bool) (k : ℕ) → k < length ls → has_wrong_by_name w b (jop.Store refs k) 1 0 s ≡ false
        → Outcome (jop.Store refs k)
    store true k lt e = straight (jop.Store true k) (if nat_le k 3 then Op (0x2B + k) else Local 0x28 k) refl
        (storing letters.Reference k) (acts.store_act p result n to at wide true k) (mirrors.store_mirrors card_type
        is_of w b true k ls s lt e) refl refl
    store false k lt e = straight (jop.Store false k) (if nat_le k 3 then Op (0x2F + k) else Local 0x29 k) refl
        (storing letters.Short k) (acts.store_act p result n to at wide false k) (mirrors.store_mirrors card_type is_of
        w b false k ls s lt e) refl refl

    shuffle : (op m : ℕ) (ks : List ℕ) → acted (on_stack op) ≡ record idle {
      takes = any_words m;
      gives = map Operand ks;
    } → Mirrors card_type is_of (jop.Stack op) (record idle { takes = any_words m; gives = map Operand ks }) ls s
        → Outcome (jop.Stack op)
    shuffle op m ks act same = straight (jop.Stack op) (on_stack op) refl (record idle {
      takes = any_words m;
      gives = map Operand ks;
    }) act same refl refl

    calculation : (op : ℕ) → acted (Op (arithmetic op)) ≡ calculating 2 1 → Mirrors card_type is_of (jop.Arith op)
        (calculating 2 1) ls s → Outcome (jop.Arith op)
    calculation op act same = straight (jop.Arith op) (Op (arithmetic op)) refl (calculating 2 1) act same refl refl

    number : (z : ℤ) → Outcome (jop.Number z)
    number z = straight (jop.Number z) (pushed_word (low_word z)) refl (pushing (ANumber ∷ [])) (acts.number_act p
        result n to at wide (low_word z)) (mirrors.number_mirrors card_type is_of z ls s) refl refl

    increase : (k : ℕ) (z : ℤ) → has_wrong_local_by_name (jop.Inc k z) ls ≡ false → Outcome (jop.Inc k z)
    increase k z l = straight (jop.Inc k z) (Inc (if is_byte z then 0x59 else 0x96) k z) refl (increasing letters.Short
        k) (acts.increase_act p result n to at wide k z) (mirrors.increase_mirrors card_type is_of k z ls s l) refl refl

    plain : (op : JOp) → IsPlain op → ((k : ℕ) → local_of op ≡ Some k → k < length ls)
        → has_wrong_by_name w b op (takes op) 0 s ≡ false → has_wrong_local_by_name op ls ≡ false → Outcome op
    plain _ plains.nop there e l = none a_nop refl refl
    plain _ plains.aconst_null there e l = straight jop.Null (Op 0x01) refl (pushing (ANull ∷ [])) (acts.null_act p
        result n to at wide) (mirrors.null_mirrors card_type is_of ls s) refl refl
    plain _ (plains.number {z = z} h) there e l = number z
    plain _ (plains.iload {k = k}) there e l = load false k l
    plain _ (plains.aload {k = k}) there e l = load true k l
    plain _ (plains.istore {k = k}) there e l = store false k (there k refl) e
    plain _ (plains.astore {k = k}) there e l = store true k (there k refl) e
    plain _ plains.pop there e l = shuffle jvm.pop 1 [] (acts.pop_act p result n to at wide) (mirrors.shuffle_mirrors
        card_type is_of jvm.pop 1 [] refl refl ls s)
    plain _ plains.pop2 there e l = shuffle jvm.pop2 2 [] (acts.pop2_act p result n to at wide) (mirrors.shuffle_mirrors
        card_type is_of jvm.pop2 2 [] refl refl ls s)
    plain _ plains.dup there e l = shuffle jvm.dup 1 (0 ∷ 0 ∷ []) (acts.dup_act p result n to at wide)
        (mirrors.shuffle_mirrors card_type is_of jvm.dup 1 (0 ∷ 0 ∷ []) refl refl ls s)
    plain _ plains.dup_x1 there e l = shuffle jvm.dup_x1 2 (0 ∷ 1 ∷ 0 ∷ []) (acts.dup_x1_act p result n to at wide)
        (mirrors.shuffle_mirrors card_type is_of jvm.dup_x1 2 (0 ∷ 1 ∷ 0 ∷ []) refl refl ls s)
    plain _ plains.dup_x2 there e l = shuffle jvm.dup_x2 3 (0 ∷ 1 ∷ 2 ∷ 0 ∷ []) (acts.dup_x2_act p result n to at wide)
        (mirrors.shuffle_mirrors card_type is_of jvm.dup_x2 3 (0 ∷ 1 ∷ 2 ∷ 0 ∷ []) refl refl ls s)
    plain _ plains.dup2 there e l = shuffle jvm.dup2 2 (0 ∷ 1 ∷ 0 ∷ 1 ∷ []) (acts.dup2_act p result n to at wide)
        (mirrors.shuffle_mirrors card_type is_of jvm.dup2 2 (0 ∷ 1 ∷ 0 ∷ 1 ∷ []) refl refl ls s)
    plain _ plains.dup2_x1 there e l = shuffle jvm.dup2_x1 3 (0 ∷ 1 ∷ 2 ∷ 0 ∷ 1 ∷ []) (acts.dup2_x1_act p result n to at
        wide) (mirrors.shuffle_mirrors card_type is_of jvm.dup2_x1 3 (0 ∷ 1 ∷ 2 ∷ 0 ∷ 1 ∷ []) refl refl ls s)
    plain _ plains.dup2_x2 there e l = shuffle jvm.dup2_x2 4 (0 ∷ 1 ∷ 2 ∷ 3 ∷ 0 ∷ 1 ∷ []) (acts.dup2_x2_act p result n
        to at wide) (mirrors.shuffle_mirrors card_type is_of jvm.dup2_x2 4 (0 ∷ 1 ∷ 2 ∷ 3 ∷ 0 ∷ 1 ∷ []) refl refl ls s)
    plain _ plains.swap there e l = shuffle jvm.swap 2 (1 ∷ 0 ∷ []) (acts.swap_act p result n to at wide)
        (mirrors.shuffle_mirrors card_type is_of jvm.swap 2 (1 ∷ 0 ∷ []) refl refl ls s)
    plain _ plains.iadd there e l = calculation jvm.iadd (acts.arithmetic_act p result n to at wide jvm.iadd refl)
        (arithmetic_mirrors card_type is_of w b jvm.iadd refl ls s e)
    plain _ plains.isub there e l = calculation jvm.isub (acts.arithmetic_act p result n to at wide jvm.isub refl)
        (arithmetic_mirrors card_type is_of w b jvm.isub refl ls s e)
    plain _ plains.imul there e l = calculation jvm.imul (acts.arithmetic_act p result n to at wide jvm.imul refl)
        (arithmetic_mirrors card_type is_of w b jvm.imul refl ls s e)
    plain _ plains.idiv there e l = calculation jvm.idiv (acts.arithmetic_act p result n to at wide jvm.idiv refl)
        (arithmetic_mirrors card_type is_of w b jvm.idiv refl ls s e)
    plain _ plains.irem there e l = calculation jvm.irem (acts.arithmetic_act p result n to at wide jvm.irem refl)
        (arithmetic_mirrors card_type is_of w b jvm.irem refl ls s e)
    plain _ plains.ineg there e l = straight (jop.Arith jvm.ineg) (Op (arithmetic jvm.ineg)) refl (calculating 1 1)
        (acts.negation_act p result n to at wide) (mirrors.negation_mirrors card_type is_of w b ls s e) refl refl
    plain _ plains.ishl there e l = calculation jvm.ishl (acts.arithmetic_act p result n to at wide jvm.ishl refl)
        (arithmetic_mirrors card_type is_of w b jvm.ishl refl ls s e)
    plain _ plains.ishr there e l = calculation jvm.ishr (acts.arithmetic_act p result n to at wide jvm.ishr refl)
        (arithmetic_mirrors card_type is_of w b jvm.ishr refl ls s e)
    plain _ plains.iushr there e l = calculation jvm.iushr (acts.arithmetic_act p result n to at wide jvm.iushr refl)
        (arithmetic_mirrors card_type is_of w b jvm.iushr refl ls s e)
    plain _ plains.iand there e l = calculation jvm.iand (acts.arithmetic_act p result n to at wide jvm.iand refl)
        (arithmetic_mirrors card_type is_of w b jvm.iand refl ls s e)
    plain _ plains.ior there e l = calculation jvm.ior (acts.arithmetic_act p result n to at wide jvm.ior refl)
        (arithmetic_mirrors card_type is_of w b jvm.ior refl ls s e)
    plain _ plains.ixor there e l = calculation jvm.ixor (acts.arithmetic_act p result n to at wide jvm.ixor refl)
        (arithmetic_mirrors card_type is_of w b jvm.ixor refl ls s e)
    plain _ (plains.iinc {k = k} {z = z} h) there e l = increase k z l
    plain _ plains.i2b there e l = straight (jop.Narrow jvm.i2b) (Op 0x5B) refl (calculating 1 1) (acts.narrowing_act p
        result n to at wide) (mirrors.narrowing_mirrors card_type is_of w b jvm.i2b ls s e) refl refl
    plain _ plains.i2s there e l = none (a_narrow refl) refl refl
    plain _ (plains.ifeq {target = t}) there e l = branch jvm.ifeq t false false refl refl (named.ifeq_act p result n to
        at) e
    plain _ (plains.ifne {target = t}) there e l = branch jvm.ifne t false false refl refl (named.ifne_act p result n to
        at) e
    plain _ (plains.iflt {target = t}) there e l = branch jvm.iflt t false false refl refl (named.iflt_act p result n to
        at) e
    plain _ (plains.ifge {target = t}) there e l = branch jvm.ifge t false false refl refl (named.ifge_act p result n to
        at) e
    plain _ (plains.ifgt {target = t}) there e l = branch jvm.ifgt t false false refl refl (named.ifgt_act p result n to
        at) e
    plain _ (plains.ifle {target = t}) there e l = branch jvm.ifle t false false refl refl (named.ifle_act p result n to
        at) e
    plain _ (plains.if_icmpeq {target = t}) there e l = branch jvm.if_icmpeq t true false refl refl (named.if_scmpeq_act
        p result n to at) e
    plain _ (plains.if_icmpne {target = t}) there e l = branch jvm.if_icmpne t true false refl refl (named.if_scmpne_act
        p result n to at) e
    plain _ (plains.if_icmplt {target = t}) there e l = branch jvm.if_icmplt t true false refl refl (named.if_scmplt_act
        p result n to at) e
    plain _ (plains.if_icmpge {target = t}) there e l = branch jvm.if_icmpge t true false refl refl (named.if_scmpge_act
        p result n to at) e
    plain _ (plains.if_icmpgt {target = t}) there e l = branch jvm.if_icmpgt t true false refl refl (named.if_scmpgt_act
        p result n to at) e
    plain _ (plains.if_icmple {target = t}) there e l = branch jvm.if_icmple t true false refl refl (named.if_scmple_act
        p result n to at) e
    plain _ (plains.if_acmpeq {target = t}) there e l = branch jvm.if_acmpeq t true true refl refl (named.if_acmpeq_act
        p result n to at) e
    plain _ (plains.if_acmpne {target = t}) there e l = branch jvm.if_acmpne t true true refl refl (named.if_acmpne_act
        p result n to at) e
    plain _ (plains.ifnull {target = t}) there e l = branch jvm.ifnull t false true refl refl (named.ifnull_act p result
        n to at) e
    plain _ (plains.ifnonnull {target = t}) there e l = branch jvm.ifnonnull t false true refl refl (named.ifnonnull_act
        p result n to at) e
    plain _ (plains.goto {target = t}) there e l = jump t
    plain _ (plains.tableswitch {other = other} {low = low} {targets = ts}) there e l = table other low ts e
    plain _ (plains.lookupswitch {other = other} {cases = cases}) there e l = lookup other cases e

    -- ---- types of numbers

    cast_numbers : (name : List ℕ) (element : Element) → shape_named name ≡ Some (OfNumbers element)
        → card_type name ≡ Some (array_nibble element ∷ []) → has_wrong_by_name w b (jop.CheckCast name) 1 0 s
        ≡ false → Outcome (jop.CheckCast name)
    cast_numbers name Booleans is typed e = straight (jop.CheckCast name) (TypeTest 0x94 10 None) (ap (type_test 0x94)
        is) (casting (Some (10 ∷ []))) (named.cast_numbers_act p result n to at wide 10) (objects.cast_mirrors card_type
        is_of w b name (10 ∷ []) typed ls s e) refl refl
    cast_numbers name Bytes is typed e = straight (jop.CheckCast name) (TypeTest 0x94 11 None) (ap (type_test 0x94) is)
        (casting (Some (11 ∷ []))) (named.cast_numbers_act p result n to at wide 11) (objects.cast_mirrors card_type
        is_of w b name (11 ∷ []) typed ls s e) refl refl
    cast_numbers name Shorts is typed e = straight (jop.CheckCast name) (TypeTest 0x94 12 None) (ap (type_test 0x94) is)
        (casting (Some (12 ∷ []))) (named.cast_numbers_act p result n to at wide 12) (objects.cast_mirrors card_type
        is_of w b name (12 ∷ []) typed ls s e) refl refl
    cast_numbers name Ints is typed e = straight (jop.CheckCast name) (TypeTest 0x94 13 None) (ap (type_test 0x94) is)
        (casting (Some (13 ∷ []))) (named.cast_numbers_act p result n to at wide 13) (objects.cast_mirrors card_type
        is_of w b name (13 ∷ []) typed ls s e) refl refl

    test_numbers : (name : List ℕ) (element : Element) → shape_named name ≡ Some (OfNumbers element)
        → has_wrong_by_name w b (jop.InstanceOf name) 1 0 s ≡ false → Outcome (jop.InstanceOf name)
    test_numbers name Booleans is e = straight (jop.InstanceOf name) (TypeTest 0x95 10 None) (ap (type_test 0x95) is)
        (asking (Some (10 ∷ []))) (named.test_numbers_act p result n to at wide 10) (objects.ask_mirrors card_type is_of
        w b name (10 ∷ []) ls s e) refl refl
    test_numbers name Bytes is e = straight (jop.InstanceOf name) (TypeTest 0x95 11 None) (ap (type_test 0x95) is)
        (asking (Some (11 ∷ []))) (named.test_numbers_act p result n to at wide 11) (objects.ask_mirrors card_type is_of
        w b name (11 ∷ []) ls s e) refl refl
    test_numbers name Shorts is e = straight (jop.InstanceOf name) (TypeTest 0x95 12 None) (ap (type_test 0x95) is)
        (asking (Some (12 ∷ []))) (named.test_numbers_act p result n to at wide 12) (objects.ask_mirrors card_type is_of
        w b name (12 ∷ []) ls s e) refl refl
    test_numbers name Ints is e = straight (jop.InstanceOf name) (TypeTest 0x95 13 None) (ap (type_test 0x95) is)
        (asking (Some (13 ∷ []))) (named.test_numbers_act p result n to at wide 13) (objects.ask_mirrors card_type is_of
        w b name (13 ∷ []) ls s e) refl refl

    -- ---- what holds in all code of the method

    module _ (sv : IsServedIn card_type is_of w p n r b result) where
      on_array : (op : JOp) → IsOnArray op → has_wrong_by_name w b op (takes op) 0 s ≡ false → Outcome op
      on_array _ arrays.arraylength e = straight jop.ArrayLength (Op 0x92) refl (record idle {
        takes = OfArrays all_arrays ∷ [];
        gives = ANumber ∷ [];
      }) (named.length_act p result n to at wide) (objects.length_mirrors card_type is_of w b sv.arrays ls s e) refl
          refl
      on_array _ arrays.aaload e = straight (jop.ArrayLoad jvm.aaload) (Op (array_load jvm.aaload)) refl (loading_item
          letters.Reference) (named.reference_item_act p result n to at wide) (objects.reference_item_mirrors card_type
          is_of w b sv.arrays ls s e) refl refl
      on_array _ arrays.baload e = straight (jop.ArrayLoad jvm.baload) (Op (array_load jvm.baload)) refl (loading_item
          letters.Byte) (named.byte_item_act p result n to at wide) (objects.byte_item_mirrors card_type is_of w b
          sv.arrays ls s e) refl refl
      on_array _ arrays.saload e = straight (jop.ArrayLoad jvm.saload) (Op (array_load jvm.saload)) refl (loading_item
          letters.Short) (named.short_item_act p result n to at wide) (objects.short_item_mirrors card_type is_of w b
          sv.arrays ls s e) refl refl
      on_array _ arrays.aastore e = straight (jop.ArrayStore jvm.aastore) (Op (array_store jvm.aastore)) refl
          (storing_item letters.Reference) (named.reference_store_act p result n to at wide)
          (objects.reference_store_mirrors card_type is_of w b sv.arrays ls s e) refl refl
      on_array _ arrays.bastore e = straight (jop.ArrayStore jvm.bastore) (Op (array_store jvm.bastore)) refl
          (storing_item letters.Byte) (named.byte_store_act p result n to at wide) (objects.byte_store_mirrors card_type
          is_of w b sv.arrays ls s e) refl refl
      on_array _ arrays.sastore e = straight (jop.ArrayStore jvm.sastore) (Op (array_store jvm.sastore)) refl
          (storing_item letters.Short) (named.short_store_act p result n to at wide) (objects.short_store_mirrors
          card_type is_of w b sv.arrays ls s e) refl refl

      leave : (op : ℕ) → IsReturn op → is_wrong_return b (jop.Return op) ≡ false
          → has_wrong_by_name w b (jop.Return op) (takes (jop.Return op)) 0 s ≡ false → Outcome (jop.Return op)
      leave _ plains.ireturn q e = alone (jop.Return jvm.ireturn) (Op (leaving jvm.ireturn)) refl (returning
          (letter_of_return jvm.ireturn) result) (named.ireturn_act p result n to at wide) (return_mirrors card_type
          is_of w sv.subtypes b jvm.ireturn result sv.returned q ls s e) refl (λ h. absurd cc)
      leave _ plains.areturn q e = alone (jop.Return jvm.areturn) (Op (leaving jvm.areturn)) refl (returning
          (letter_of_return jvm.areturn) result) (named.areturn_act p result n to at wide) (return_mirrors card_type
          is_of w sv.subtypes b jvm.areturn result sv.returned q ls s e) refl (λ h. absurd cc)
      leave _ plains.returns q e = alone (jop.Return jvm.return) (Op (leaving jvm.return)) refl (returning
          (letter_of_return jvm.return) result) (named.return_act p result n to at wide) (return_mirrors card_type is_of
          w sv.subtypes b jvm.return result sv.returned q ls s e) refl (λ h. absurd cc)

      -- ---- members

      field : (put : Bool) (f : MemberId) → FieldServed card_type is_of w p n r f
          → has_wrong_by_name w b (jop.Field put f) (takes (jop.Field put f)) 0 s ≡ false → Outcome (jop.Field put f)
      field false f is e =
          let key = keys.Field (r.field f) in
          let letter = letter_of (field_sort f.desc) in
          let t = entry_type p (n.index key) in
          straight (jop.Field false f) (Named (field_access false (r.is_near f) (field_sort f.desc)) key) refl
          (getting false letter is.class t.result) (named.get_act p result n to at wide (r.is_near f)
          (field_sort f.desc) key ∙ ap (using_some p (Gets false letter) t) is.entry) (getting_mirrors card_type is_of w
          sv.subtypes b f letter is.class t.result is.fits ls s e) refl refl
      field true f is e =
          let key = keys.Field (r.field f) in
          let letter = letter_of (field_sort f.desc) in
          let t = entry_type p (n.index key) in
          straight (jop.Field true f) (Named (field_access true (r.is_near f) (field_sort f.desc)) key) refl
          (putting false letter is.class t.result) (named.put_act p result n to at wide (r.is_near f)
          (field_sort f.desc) key ∙ ap (using_some p (Puts false letter) t) is.entry) (putting_mirrors card_type is_of w
          sv.subtypes b f letter is.class t.result is.fits is.is_value ls s e) refl refl

      static : (put : Bool) (f : MemberId) → StaticServed card_type is_of w p n r f
          → has_wrong_by_name w b (jop.Static put f) (takes (jop.Static put f)) 0 s ≡ false → Outcome (jop.Static put f)
      static false f is e =
          let key = keys.StaticField (r.field f) in
          let letter = letter_of (field_sort f.desc) in
          let t = entry_type p (n.index key) in
          straight (jop.Static false f) (Named (static_access false (field_sort f.desc)) key) (ap (static_by r false f)
          is.is_no_constant) (getting_static letter is.field t.result) (named.get_static_act p result n to at wide
          (field_sort f.desc) key ∙ ap (using_some p (GetsStatic letter) t) is.entry) (getting_static_mirrors card_type
          is_of w sv.subtypes b f letter is.field t.result is.fits ls s) refl refl
      static true f is e =
          let key = keys.StaticField (r.field f) in
          let letter = letter_of (field_sort f.desc) in
          let t = entry_type p (n.index key) in
          straight (jop.Static true f) (Named (static_access true (field_sort f.desc)) key) (ap (static_by r true f)
          is.is_no_constant) (putting_static letter is.field t.result) (named.put_static_act p result n to at wide
          (field_sort f.desc) key ∙ ap (using_some p (PutsStatic letter) t) is.entry) (putting_static_mirrors card_type
          is_of w sv.subtypes b f letter is.field t.result is.fits is.is_value ls s e) refl refl

      call : (op : ℕ) (m : MemberId) → CallServed card_type is_of w p n r b op m
          → has_wrong_by_name w b (jop.Call op m) (takes (jop.Call op m)) 0 s ≡ false → Outcome (jop.Call op m)
      call _ m (serves.sent class token entry fits passes) e =
          let key = r.virtual m in
          let t = entry_type p (n.index key) in
          straight (jop.Call jvm.invokevirtual m) (Named 0x8B key) refl (calling_on t (class_type class) false)
          (named.virtual_act p result n to at wide key ∙ ap (using_some p (Calls Virtual) t) entry) (object_call_mirrors
          card_type is_of w sv.subtypes b jvm.invokevirtual refl m t (class_type class) false refl fits passes ls s e)
          refl refl
      call _ m (serves.above class token entry bare fits passes) e =
          let key = r.special m in
          let t = entry_type p (n.index key) in
          straight (jop.Call jvm.invokespecial m) (Named 0x8C key) refl (calling_on t (class_type class)
          (names_abstract_above p class token)) (named.special_act p result n to at wide key ∙ ap (using_some p (Calls
          Special) t) entry) (object_call_mirrors card_type is_of w sv.subtypes b jvm.invokespecial refl m t (class_type
          class) (names_abstract_above p class token) bare fits passes ls s e) refl refl
      call _ m (serves.fixed method entry right fits passes) e =
          let key = r.special m in
          let t = entry_type p (n.index key) in
          straight (jop.Call jvm.invokespecial m) (Named 0x8C key) refl (calling_on t (holder_of p method)
          (names_static p method || names_abstract p method)) (named.special_act p result n to at wide key ∙ ap
          (using_some p (Calls Special) t) entry) (object_call_mirrors card_type is_of w sv.subtypes b jvm.invokespecial
          refl m t (holder_of p method) (names_static p method || names_abstract p method) right fits passes ls s e)
          refl
          refl
      call _ m (serves.static method entry right fits) e =
          let key = r.static m in
          let t = entry_type p (n.index key) in
          straight (jop.Call jvm.invokestatic m) (Named 0x8D key) refl (calling t [] (not (names_static p method)
          || names_abstract p method)) (named.static_act p result n to at wide key ∙ ap (using_some p (Calls Static) t)
          entry) (static_call_mirrors card_type is_of w sv.subtypes b m t (not (names_static p method) || names_abstract
          p method) right fits ls s e) refl refl
      call _ m (serves.by_interface class t entry typed words fits passes) e =
          let i = r.interface m in
          let many : (nargs_of m == 1 + widths t.params) ≡ true = ap (λ k. k == 1 + widths t.params) words ∙ like_number
          (1 + widths t.params) in
          straight (jop.Call jvm.invokeinterface m) (Interface (nargs_of m) i) refl (calling_on t (class_type class)
          (not (nargs_of m == 1 + widths t.params))) (named.interface_act p result n to at wide (nargs_of m) i ∙ ap
          (λ o. calling_through p (nargs_of m) (n.interface_token i) (class_in o)) entry ∙ ap (calling_interface
          (class_type class) (nargs_of m)) typed) (object_call_mirrors card_type is_of w sv.subtypes b
          jvm.invokeinterface refl m t (class_type class) (not (nargs_of m == 1 + widths t.params)) (ap not many) fits
          passes ls s e) refl refl

      -- ---- types

      cast : (name : List ℕ) → TypeServed card_type is_of w p n r name
          → has_wrong_by_name w b (jop.CheckCast name) 1 0 s ≡ false → Outcome (jop.CheckCast name)
      cast name (serves.a_class c class is entry typed) e = straight (jop.CheckCast name) (TypeTest 0x94 0 (Some c))
          (ap (type_test 0x94) is) (casting (Some (class_type class))) (named.cast_act p result n to at wide 0 c ∙ ap
          (λ o. casting (tested_type 0 (class_in o))) entry) (objects.cast_mirrors card_type is_of w b name (class_type
          class) typed ls s e) refl refl
      cast name (serves.numbers element is typed) e = cast_numbers name element is typed e
      cast name (serves.references c class is entry typed) e = straight (jop.CheckCast name) (TypeTest 0x94 14 (Some c))
          (ap (type_test 0x94) is) (casting (Some (array_type class))) (named.cast_act p result n to at wide 14 c ∙ ap
          (λ o. casting (tested_type 14 (class_in o))) entry) (objects.cast_mirrors card_type is_of w b name (array_type
          class) typed ls s e) refl refl

      test : (name : List ℕ) → TypeServed card_type is_of w p n r name
          → has_wrong_by_name w b (jop.InstanceOf name) 1 0 s ≡ false → Outcome (jop.InstanceOf name)
      test name (serves.a_class c class is entry typed) e = straight (jop.InstanceOf name) (TypeTest 0x95 0 (Some c))
          (ap (type_test 0x95) is) (asking (Some (class_type class))) (named.test_act p result n to at wide 0 c ∙ ap
          (λ o. asking (tested_type 0 (class_in o))) entry) (objects.ask_mirrors card_type is_of w b name (class_type
          class) ls s e) refl refl
      test name (serves.numbers element is typed) e = test_numbers name element is e
      test name (serves.references c class is entry typed) e = straight (jop.InstanceOf name) (TypeTest 0x95 14 (Some
          c)) (ap (type_test 0x95) is) (asking (Some (array_type class))) (named.test_act p result n to at wide 14 c
          ∙ ap (λ o. asking (tested_type 14 (class_in o))) entry) (objects.ask_mirrors card_type is_of w b name
          (array_type class) ls s e) refl refl

      -- ---- any

      outcome : (op : JOp) → IsServed card_type is_of w p n r b op → ((k : ℕ) → local_of op ≡ Some k → k < length ls)
          → has_wrong_by_name w b op (takes op) 0 s ≡ false → has_wrong_local_by_name op ls ≡ false
          → is_wrong_return b op ≡ false → Outcome op
      outcome op (serves.plain is) there e l q = plain op is there e l
      outcome op (serves.on_array is) there e l q = on_array op is e
      outcome _ (serves.returns {opcode = op} is) there e l q = leave op is q e
      outcome _ serves.throws there e l q = alone jop.Throw (Op 0x93) refl (last (exception_needs (throwable p)))
          (named.throw_act p result n to at wide) (objects.throw_mirrors card_type is_of w b sv.subtypes (throwable p)
          sv.exceptions ls s e) refl (λ h. absurd cc)
      outcome _ (serves.a_field {f = f} put is) there e l q = field put f is e
      outcome _ (serves.a_static {f = f} put is) there e l q = static put f is e
      outcome _ (serves.a_constant {f = f} z is told) there e l q = straight (jop.Static false f) (pushed_word (low_word
          z)) (ap (static_by r false f) is) (pushing (ANumber ∷ [])) (acts.number_act p result n to at wide
          (low_word z)) (constant_mirrors card_type is_of w sv.subtypes b f told ls s) refl refl
      outcome _ (serves.a_call {opcode = op} {m = m} is) there e l q = call op m is e
      outcome _ (serves.an_object {c = c} class entry typed made) there e l q = straight (jop.New c) (Named 0x8F
          (keys.Class c)) refl (record idle {
            gives = AnObject (class_type class) ∷ [];
            misnames = names_unmade p class;
          }) (named.new_act p result n to at wide (keys.Class c) ∙ ap (using_some p Makes (entry_type p (n.index
          (keys.Class c)))) entry) (objects.new_mirrors card_type is_of w b c (class_type class) typed (names_unmade p
          class) made ls s) refl refl
      outcome _ (serves.an_array {c = c} class entry typed) there e l q = straight (jop.ANewArray c) (Named 0x91
          (keys.Class c)) refl (record idle {
            takes = NumberWord ∷ [];
            gives = AnObject (array_type class) ∷ [];
          }) (named.references_act p result n to at wide (keys.Class c) ∙ ap (using_some p MakesReferences (entry_type p
          (n.index (keys.Class c)))) entry) (objects.references_mirror card_type is_of w b c (array_type class) typed ls
          s e) refl refl
      outcome _ (serves.an_array_of_numbers {number = kind} type is typed) there e l q = straight (jop.NewArray kind)
          (NewArray (element_number kind)) refl (making_numbers (Some type)) (named.making_act p result n to at wide
          (element_number kind) ∙ ap making_numbers is) (objects.numbers_mirror card_type is_of w b kind type typed
          ls s e) refl refl
      outcome _ (serves.a_cast {name = name} is) there e l q = cast name is e
      outcome _ (serves.a_test {name = name} is) there e l q = test name is e

-- ---- rows

module _ (card_type : List ℕ → Option (List ℕ)) (is_of : Subtype) (w : List Class) (b : BodyByName) (p : Pair)
    (result : ValueType) (n : Naming) (r : Resolution) (rows : List (Option State)) (opened : ℕ → Open) (to : ℕ → ℕ)
    (wide : ℕ → Bool) (count : ℕ) where
  abbrev place : ℕ → ℕ
  place offset = place_in r (reached b.insns rows) offset

  abbrev step : ℕ → NInsn → Step
  step = step_laid p result n to wide

  abbrev RowAt : (at from : ℕ) (i : JInsn) (x : State) → Type 0
  RowAt at from i x = RowStands card_type is_of r b rows opened step count b.max_stack to at from i x

  -- a pop and a goto
  module _ (at from : ℕ) (i : JInsn) (before : opened at ≡ closed) (behind : opened (suc at) ≡ closed) (ls : List Cell)
      (other : ℕ) (is : written_for r place i ≡ Op 0x3B ∷ Jump 0x70 (place other) ∷ []) (e : IsEmptied b i.op other)
    where
      abbrev popped : Step
      popped = step from (Op 0x3B)

      abbrev gone : Step
      gone = step (from + 1) (Jump 0x70 (place other))

      abbrev aim : ℕ
      aim = far p result n to (to (from + 1)) (place other)

      gone_is : (let u = gone in u.act) ≡ record idle { takes = []; falls = false; targets = aim ∷ [] }
      gone_is = named.goto_act p result n to (to (from + 1)) (wide (from + 1)) (place other)

      jumps_to : (u : Step) → Contains (popped ∷ gone ∷ []) u → (offset : ℕ) → Contains (let a = u.act in a.targets)
          offset
          → (target : ℕ) × Contains (targets i.op) target × (offset ≡ to (place target))
      jumps_to u within offset on = elim (contains_cons popped (gone ∷ []) u within) [
        | inl same ↦ absurd (nothing offset (subst (λ (v : Step). Contains (let a = v.act in a.targets) offset) (sym
            same)
            on))
        | inr later ↦ elim (contains_cons gone [] u later) [
          | inl same ↦ led offset (subst (λ (v : Act). Contains v.targets offset) gone_is (subst (λ (v : Step). Contains
              (let a = v.act in a.targets) offset) (sym same) on))
          | inr (k, lt, f) ↦ absurd (omega (arith, lt))
        ]
      ]
        where
          nothing : (offset : ℕ) → Contains (let v = popped in let a = v.act in a.targets) offset → ⊥
          nothing offset on = none_in (subst (λ (v : Act). Contains v.targets offset) (named.popping_act p result n to
              (to from) (wide from)) on)
            where
              none_in : Contains [] offset → ⊥
              none_in (k, lt, f) = omega (arith, lt)

          led : (offset : ℕ) → Contains (aim ∷ []) offset → (target : ℕ) × Contains (targets i.op) target
              × (offset ≡ to (place target))
          led offset on = elim (contains_cons aim [] offset on) [
            | inl same ↦ (other, e.leads, sym same ∙ moved_far (to (from + 1)) (to (place other)))
            | inr (k, lt, f) ↦ absurd (omega (arith, lt))
          ]

      falls_not : falls_through (popped ∷ gone ∷ []) ≡ true → goes_on_by_name i.op ≡ true
      falls_not h = let no : (let u = gone in let a = u.act in a.falls) ≡ false = ap (λ (a : Act). a.falls) gone_is in
          absurd cc

      emptied_row : (s : List Cell) → is_off_by_name b i.op ls s ≡ false → length s ≤ most_cells → RowAt at from i
          (record {
            stack = Cells s;
            locals = ls;
          })
      emptied_row [] on few = absurd (let no : true ≡ false = sym (e.off ls []) ∙ on in cc)
      emptied_row (y ∷ s) on few =
          let f = three_false (nat_lt (length (y ∷ s)) 1) (nat_lt b.max_stack (length (y ∷ s))) (nat_lt b.max_stack
          (length
          s)) (sym (e.off ls (y ∷ s)) ∙ on) in
          let stands = emptied_stand card_type is_of w b count ls y s f.1 f.2 (omega (arith, few)) popped gone other
          (aim
          ∷ []) (named.popping_act p result n to (to from) (wide from)) gone_is in
          record {
            stands = subst (λ (ns : List NInsn). AllStand is_of count b.max_stack (card_state card_type (opened at) x)
                (between card_type is_of r b rows opened step x) (card_state card_type (opened (suc at)) (after_by_name
                i.op x)) (steps_from step from ns)) (sym is) (opens closed closed (sym before) (sym behind) (subst (λ (v
                : State). AllStand is_of count b.max_stack (card_state card_type closed x) (between card_type is_of r b
                rows opened step x) (card_state card_type closed v) (popped ∷ gone ∷ [])) (sym (e.behind ls y s))
                stands));
            falls = λ h. falls_not (subst (λ (ns : List NInsn). falls_through (steps_from step from ns) ≡ true) is h);
            jumps = λ u within. jumps_to u (subst (λ (ns : List NInsn). Contains (steps_from step from ns) u) is
                within);
          }
        where
          x : State
          x = record { stack = Cells (y ∷ s); locals = ls }

          opens : (o q : Open) → o ≡ opened at → q ≡ opened (suc at) → AllStand is_of count b.max_stack (card_state
              card_type o x) (between card_type is_of r b rows opened step x) (card_state card_type q (after_by_name
              i.op x)) (popped ∷ gone ∷ []) → AllStand is_of count b.max_stack (card_state card_type (opened at) x)
              (between card_type is_of r b rows opened step x) (card_state card_type (opened (suc at)) (after_by_name
              i.op x)) (popped ∷ gone ∷ [])
          opens o q f g h = subst (λ (v : Open). AllStand is_of count b.max_stack (card_state card_type v x) (between
              card_type is_of r b rows opened step x) (card_state card_type (opened (suc at)) (after_by_name i.op x))
              (popped ∷ gone ∷ [])) f (subst (λ (v : Open). AllStand is_of count b.max_stack (card_state card_type o x)
              (between card_type is_of r b rows opened step x) (card_state card_type v (after_by_name i.op x)) (popped
              ∷ gone ∷ [])) g h)

  -- by what is written
  row_by : (at from : ℕ) (i : JInsn) (ls s : List Cell) → opened at ≡ closed → opened (suc at) ≡ closed
      → r.role i.at ≡ Alone → has_wrong_by_name w b i.op (takes i.op) 0 s ≡ false → is_off_by_name b i.op ls s ≡ false
      → length s ≤ most_cells
      → Outcome card_type is_of w b p result n r place to (to from) (wide from) ls s i.op
      → RowAt at from i (record { stack = Cells s; locals = ls })
  row_by at from i ls s before behind role e on few (one insn is row) = row_alone card_type is_of w r b rows opened step
      count to at from i ls s insn before behind (ap (λ (q : PairRole). written_as q r place i.op) role ∙ is) row.same
      on row.falls row.leads
  row_by at from i ls s before behind role e on few (none silent is goes) = row_of_none card_type is_of w r b rows
      opened
      step count to at from i (record { stack = Cells s; locals = ls }) (ap (λ (q : PairRole). written_as q r place
      i.op)
      role ∙ is) (below closed closed (sym before) (sym behind) (silent_below card_type w b count closed silent ls s e
      on)) goes
    where
      x : State
      x = record { stack = Cells s; locals = ls }

      below : (o q : Open) → o ≡ opened at → q ≡ opened (suc at) → (let t = states count in t.Below (card_state
          card_type
          o x) (card_state card_type q (after_by_name i.op x))) → (let t = states count in t.Below (card_state card_type
          (opened at) x) (card_state card_type (opened (suc at)) (after_by_name i.op x)))
      below o q f g h = subst (λ (v : Open). let t = states count in t.Below (card_state card_type v x) (card_state
          card_type (opened (suc at)) (after_by_name i.op x))) f (subst (λ (v : Open). let t = states count in t.Below
          (card_state card_type o x) (card_state card_type v (after_by_name i.op x))) g h)
  row_by at from i ls s before behind role e on few (emptied other is empty) = emptied_row at from i before behind ls
      other (ap (λ (q : PairRole). written_as q r place i.op) role ∙ is) empty s on few

  -- outside of pairs an instruction stands alone
  role_alone : {o q : Open} {op : JOp} {role : PairRole} → IsInPair r o op role q → o ≡ closed → q ≡ closed
      → role ≡ Alone
  role_alone stands_alone e f = refl
  role_alone opens e f = absurd cc
  role_alone (goes_on is silent) e f = refl
  role_alone (pushes is) e f = refl
  role_alone gets e f = absurd cc
  role_alone puts e f = absurd cc

  module _ (sv : IsServedIn card_type is_of w p n r b result) (decoded : IsDecoded b)
      (own : IsClosed (type_flow b) (length b.insns) rows) (clean : (at rule : ℕ) → Breach w b rows at rule → ⊥)
      (pairs : AreInPairs r b rows opened) where
    row_of_cells : (at from : ℕ) (i : JInsn) (ls s : List Cell) → slice_get b.insns at ≡ Some i
        → HasRow rows at (record { stack = Cells s; locals = ls }) → opened at ≡ closed → opened (suc at) ≡ closed
        → IsServed card_type is_of w p n r b i.op → RowAt at from i (record { stack = Cells s; locals = ls })
    row_of_cells at from i ls s here row before behind served =
        let f = three_false (has_wrong_by_name w b i.op (takes i.op) 0 s) (has_wrong_local_by_name i.op ls)
        (is_wrong_return b i.op) right in
        row_by at from i ls s before behind (role_alone (pairs.each at i x here row) before behind) f.0 on few (outcome
        card_type is_of w b p result n r place to (to from) (wide from) ls s sv i.op served there f.0 f.1 f.2)
      where
        x : State
        x = record { stack = Cells s; locals = ls }

        broken : (rule : ℕ) → BreaksByName w b i.op x rule → ⊥
        broken rule breaks = clean at rule (record {
          insn = i;
          is_insn = here;
          state = x;
          reached = row;
          breaks = breaks;
        })

        right : is_wrong_by_name w b i.op ls s ≡ false
        right = by (is_wrong_by_name w b i.op ls s) refl
          where
            by : (v : Bool) → is_wrong_by_name w b i.op ls s ≡ v → is_wrong_by_name w b i.op ls s ≡ false
            by true f = absurd (broken 502 (wrong s ls f))
            by false f = f

        on : is_off_by_name b i.op ls s ≡ false
        on = by (is_off_by_name b i.op ls s) refl
          where
            by : (v : Bool) → is_off_by_name b i.op ls s ≡ v → is_off_by_name b i.op ls s ≡ false
            by true f = absurd (broken 503 (off s ls f))
            by false f = f

        few : length s ≤ most_cells
        few = let o = own.own at x row in let stack = o.0 in stack.few

        there : (k : ℕ) → local_of i.op ≡ Some k → k < length ls
        there k e =
            let lt = decoded.locals at i k here e in
            let o = own.own at x row in
            let locals = o.1 in
            let long : length ls ≡ b.max_locals = locals.sized in
            omega (arith, lt, long)

    pub row_outside : (at from : ℕ) (i : JInsn) (x : State) → slice_get b.insns at ≡ Some i → HasRow rows at x
        → opened at ≡ closed → opened (suc at) ≡ closed → IsServed card_type is_of w p n r b i.op → RowAt at from i x
    row_outside at from i x here row before behind served = by x.stack row
      where
        by : (t : Stack) → HasRow rows at (record { stack = t; locals = x.locals }) → RowAt at from i (record {
          stack = t;
          locals = x.locals;
        })
        by Clash h = absurd (clean at 501 (record {
          insn = i;
          is_insn = here;
          state = record { stack = Clash; locals = x.locals };
          reached = h;
          breaks = clash x.locals;
        }))
        by (Cells s) h = row_of_cells at from i x.locals s here h before behind served
