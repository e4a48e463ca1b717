-- Handlers of Method that cover what is written for an instruction in int mode are those of the class file that cover
-- the instruction.
use Rattle.std.proofs.Common.{◌≡◌, ℕ, ◌+◌, ◌-◌, ◌≤◌, ◌<◌, refl, sym, ap, subst, ◌∙◌, arith, true, List, []}
use Rattle.std.proofs.Common.{◌∷◌, ◌++◌, length, slice_get, Option, Some, None, Contains}
use Rattle.std.specs.Prelude.{get_or}
use Rattle.std.specs.List.{AllByRecursion}
use Rattle.cjc_types.specs.Bytecode.declared.insn.JInsn.{JInsn}
use Rattle.cjc_types.specs.ClassFile.Code.{CodeTree}
use Rattle.cjc_types.specs.ClassFile.declared.tree.Catch.{Catch as CatchByName}
use Rattle.cjc_types.specs.Fixpoint.Tables.{HasRow}
use Rattle.cjc_types.specs.Flow.{Body as BodyByName, caught_type as type_by_name}
use Rattle.cjc_types.specs.declared.state.State.{State}
use Rattle.cjc_ncode.specs.IntCode.IntCode.{written}
use Rattle.cjc_ncode.specs.Written.{Resolution}
use Rattle.cjc_ncode.specs.declared.narrow.NMethod.{NMethod}
use Rattle.cjc_int_mode.specs.Intervals.Frames.{RangeState}
use Rattle.cjc_int_mode.specs.Written.{before, int_frame, written_in_int_mode}
use Rattle.cjc_check_proof.specs.Code.Written.{AllWritable}
use Rattle.cjc_check_proof.specs.NCode.Lowering.Handlers.{handlers_of}
use Rattle.cjc_check_proof.specs.NCode.Lowering.Laid.{class_index}
use Rattle.cjc_check_proof.specs.NCode.Lowering.Placed.{HandlersStand, first}
use Rattle.cjc_check_proof.specs.NCode.Written.{catches_at}
use Rattle.cjc_check_proof.specs.NCode.declared.narrow.NCatch.{NCatch}
use Rattle.cjc_check_proof.specs.TokenProof.Tables.Loading.{components, part}
use Rattle.cjc_check_proof.proofs.CodeLaws.Places.{label_ascends, label_grows, label_high, last_label}
use Rattle.cjc_check_proof.proofs.CodeLaws.Sorted.{each_ordered}
use Rattle.cjc_frames.specs.Flow.{covers}
use Rattle.cjc_frames.specs.declared.acts.Catch.{Catch}
use Rattle.cjc_frames.specs.declared.acts.Step.{Step}
use Rattle.cjc_verify.specs.Bodies.{catches, caught_type}
use Rattle.cjc_verify.specs.CapRead.declared.tree.Handler.{Handler}
use Rattle.cjc_verify.specs.CardActs.CardTypes.{ValueType}
use Rattle.cjc_verify.specs.Components.Methods.{placed_at}
use Rattle.cjc_verify.specs.Components.Names.{names}
use Rattle.cjc_verify.specs.Components.Package.{LaidMethod, Package}
use Rattle.cjc_accepted_proof.specs.Coded.{card_type, is_of, is_wide, label_at, step_of}
use Rattle.cjc_accepted_proof.specs.Frames.{IsCaughtAs}
use Rattle.cjc_accepted_proof.specs.Written.{written_pair}
use Rattle.cjc_accepted_proof.proofs.CatchesLaws.{IsFor as IsCatchFor, all_for}
use Rattle.cjc_int_accepted.specs.Methods.{IsHandlerFor}
use Rattle.cjc_int_accepted.specs.Selection.{label_in, room_of, selected}
use Rattle.cjc_int_accepted.proofs.BeginsLaws.{all_both, covering, elsewhere_fit}
use Rattle.cjc_int_accepted.proofs.FrontLaws.{laid_at}
use Rattle.cjc_int_accepted.proofs.SelectionLaws.{covered}

module _ (p : Package) (number offset : ℕ) (laid : LaidMethod) (is_laid : slice_get p.methods number ≡ Some laid)
    (can : AllWritable (names p) p.methods) (stand : HandlersStand (names p) (placed_at offset laid) (part p))
    (r : Resolution) (code : CodeTree) (b : BodyByName) (rows : List (Option State))
    (ranges : List (Option RangeState)) (is : laid.code ≡ written_in_int_mode r code b rows ranges)
    (same : b.catches ≡ code.catches) (named : AllByRecursion (λ (c : NCatch). IsCaughtAs (card_type p) (caught_type
    (written_pair p) (class_index (names p) c.class)) (type_by_name c.class)) (let l = laid.code in l.catches))
    (result : ValueType)
  where
    abbrev to : ℕ → ℕ
    to = label_at p offset laid

    abbrev label : ℕ → ℕ
    label = label_in r b rows ranges

    abbrev IsNamed : NCatch → Type 0
    IsNamed c = IsCaughtAs (card_type p) (caught_type (written_pair p) (class_index (names p) c.class)) (type_by_name
        c.class)

    abbrev IsFor : NCatch → Type 0
    IsFor = IsCatchFor label b.catches

    -- what a handler of the method's is
    pub record IsOwn (h : Handler) : Type 0 where
      pub catch : CatchByName
      pub listed : Contains b.catches catch
      pub start : h.start ≡ to (label catch.start)
      pub long : h.length ≡ to (label catch.end) - to (label catch.start)
      pub target : h.handler ≡ to (label catch.target)
      pub caught : IsCaughtAs (card_type p) (caught_type (written_pair p) h.catch_index) (type_by_name catch.class)

    own_fit : (at : ℕ) (cs : List NCatch) → AllByRecursion IsFor cs → AllByRecursion IsNamed cs → AllByRecursion
        (λ (h : Handler). h.start ≤ at → at < h.start + h.length → IsOwn h) (handlers_of (names p) to cs)
    own_fit at [] all names_all = tt
    own_fit at (c ∷ cs) all names_all =
        let f = all.0 in (
          λ from under. record {
            catch = f.0;
            listed = f.1;
            start = ap (λ (z : NCatch). to z.start) (sym f.2);
            long = ap (λ (z : NCatch). to z.end - to z.start) (sym f.2);
            target = ap (λ (z : NCatch). to z.target) (sym f.2);
            caught = subst (λ k. IsCaughtAs (card_type p) (caught_type (written_pair p) (class_index (names p) c.class))
                (type_by_name k)) (ap (λ (z : NCatch). z.class) (sym f.2)) names_all.0;
          },
          own_fit at cs all.1 names_all.1,
        )

    pub handler_for : (place : ℕ) (i : JInsn) (x : State) → slice_get b.insns place ≡ Some i → HasRow rows place x
        → (s : Step) → Contains (selected r b rows ranges (step_of p result offset laid) place (label i.at) i x) s
        → (h : Catch) → Contains (catches (written_pair p)) h → covers h s.at ≡ true → IsHandlerFor (card_type p) (is_of
        p) (room_of b rows ranges) (selected r b rows ranges (step_of p result offset laid)) b rows (label_in r b rows
        ranges) (label_at p offset laid) h i
    handler_for place i x there row s on h listed over =
        let writable = can number laid is_laid in
        let k = laid_at (written_pair p) result (names p) to (is_wide p laid) (label i.at) (written (int_frame
        b) r label
        (before i.op x (get_or ranges place None)) (label i.at) i.op) s on in
        let at_same = k.2 in
        let high : to (label i.at + k.0) ≤ to (length (let l = laid.code in l.insns)) =
        (let up = label_high (names p) offset laid writable (label i.at + k.0) in
        let end = last_label (names p) offset laid writable in omega (arith, up, end)) in
        let begin : to 0 ≤ to (label i.at + k.0) = label_grows (names p) offset laid writable 0 (label i.at + k.0)
        (omega arith) in
        let none : first (placed_at offset laid) ≤ to 0 = omega arith in
        let low : first (placed_at offset laid) ≤ s.at = omega (arith, begin, none, at_same) in
        let last : s.at ≤ to (length (let l = laid.code in l.insns)) = omega (arith, high, at_same) in
        let of : AllByRecursion IsFor (let l = laid.code in l.catches) = subst (λ (l : NMethod). AllByRecursion IsFor
        l.catches) (sym is) (subst (λ ds. AllByRecursion IsFor (catches_at label ds)) same (all_for label b.catches
        b.catches (λ d w. w))) in
        let table = (let q = placed_at offset laid in let y = q.method in y.catches) in
        let laid_catches = (let l = laid.code in l.catches) in
        let own = own_fit s.at table (each_ordered IsFor laid_catches of) (each_ordered IsNamed laid_catches named) in
        let early = elsewhere_fit s.at IsOwn (first (placed_at offset laid)) (to (length (let l = laid.code in
        l.insns)))
        stand.earlier low last stand.earlier_elsewhere in
        let late = elsewhere_fit s.at IsOwn (first (placed_at offset laid)) (to (length (let l = laid.code in l.insns)))
        stand.later low last stand.later_elsewhere in
        let all = all_both (λ (g : Handler). g.start ≤ s.at → s.at < g.start + g.length → IsOwn g) stand.earlier
        (handlers_of (names p) to table ++ stand.later) early (all_both (λ (g : Handler). g.start ≤ s.at → s.at
        < g.start
        + g.length → IsOwn g) (handlers_of (names p) to table) stand.later own late) in
        let got = covering s.at IsOwn (written_pair p) (let q = components p in let y = q.method in y.handlers)
        (subst (AllByRecursion (λ (g : Handler). g.start ≤ s.at → s.at < g.start + g.length → IsOwn g)) (sym
        stand.table)
        all) h listed over in
        let its = got.1 in
        let start = its.start in
        let long = its.long in
        let from = got.2 in
        let under = got.3 in
        let made = got.4 in
        record {
          catch = its.catch;
          listed = its.listed;
          covers = covered (card_type p) (room_of b rows ranges) r b rows ranges (step_of p result offset laid)
              code to (λ j n. refl) (λ j n lt le.
              label_ascends (names p) offset laid writable j n lt (omega (
                arith,
                le,
                ap (λ (l : NMethod). length l.insns)
                    is,
              ))) place i x there row s on its.catch (omega (arith, start, from)) (omega (arith, start, long, under));
          caught = subst (λ o. IsCaughtAs (card_type p) o (type_by_name (let d = its.catch in d.class))) (ap (λ (z :
              Catch). z.caught) made) its.caught;
          target = sym (ap (λ (z : Catch). z.target) made) ∙ its.target;
        }
