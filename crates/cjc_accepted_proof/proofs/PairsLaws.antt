-- Rows of pairs: the reference of an open pair is left out of the card's stack, and the field instruction that closes
-- the pair finds it in local 0.
use Rattle.std.proofs.Common.{◌≡◌, ℕ, ◌+◌, ◌-◌, ◌<◌, ◌≤◌, refl, sym, ap, subst, ◌∙◌, arith, Bool, true}
use Rattle.std.proofs.Common.{false, List, [], ◌∷◌, ◌++◌, length, map, slice_get, Option, Some}
use Rattle.std.specs.Prelude.{◌||◌, not, nat_le, nat_lt, if◌then◌else◌, option_map}
use Rattle.std.specs.List.{AllZip}
use Rattle.std.proofs.lemmas.Bool.Decides.{nat_tests}
use Rattle.std.proofs.lemmas.List.{length-map}
use Rattle.cjc_types.specs.Bytes.declared.fault.MemberId.{MemberId}
use Rattle.cjc_types.proofs.BytesGets.{get_below, get_mapped}
use Rattle.cjc_verify.specs.CapRead.declared.tree.ClassRef.{ClassRef}
use Rattle.cjc_types.specs.Bytecode.declared.insn.JOp.{JOp}
use Rattle.cjc_types.specs.Bytecode.declared.insn.JOp.TheVariants as jop
use Rattle.cjc_verify.specs.CardSemantics.Bytecode.Effects.{Letter}
use Rattle.cjc_types.specs.Cells.{IsCellBelow}
use Rattle.cjc_types.specs.Flow.{Body}
use Rattle.cjc_types.specs.Rules.{all_types, is_off as is_off_by_name}
use Rattle.cjc_types.specs.States.{IsStackBelow, most_cells, stack_of}
use Rattle.cjc_types.specs.Steps.{stack_behind as behind_by_name, takes}
use Rattle.cjc_types.specs.Steps as steps
use Rattle.cjc_types.specs.Types.{parts, result_of}
use Rattle.cjc_types.specs.declared.cell.Cell.{Cell}
use Rattle.cjc_types.specs.declared.state.Stack.TheVariants.{Cells, Clash}
use Rattle.cjc_types.specs.declared.state.State.{State}
use Rattle.cjc_types.specs.World.Classes.{Class}
use Rattle.cjc_frames.specs.declared.acts.Act.{Act}
use Rattle.cjc_frames.specs.declared.acts.Need.TheVariants.{OfType}
use Rattle.cjc_frames.specs.Acts.{Subtype, given, has_wrong_local, is_off, is_wrong, is_wrong_local}
use Rattle.cjc_frames.specs.Acts.{lacks_local}
use Rattle.cjc_frames.specs.Acts.{stack_behind}
use Rattle.cjc_verify.specs.CardActs.CardTypes.{ValueType, words}
use Rattle.cjc_verify.specs.Narrow.Pairs.Open.{Open, begun, closed, pushed}
use Rattle.cjc_verify.specs.ClassTypes.{class_type}
use Rattle.cjc_verify.specs.Instructions.{getting}
use Rattle.cjc_accepted_proof.specs.Frames.{FieldFits, MirrorsInPair, Stands, SubtypesAgree, card_cell, card_cells}
use Rattle.cjc_accepted_proof.specs.Frames.{card_stack, card_state, left_out}
use Rattle.cjc_accepted_proof.proofs.KindsLaws.{result_puts}
use Rattle.cjc_accepted_proof.proofs.RowsLaws.{mapped_both, none_breaks, zip_both, zip_itself, zip_long}

-- no more is left than there was
left_short : (card_type : List ℕ → Option (List ℕ)) (o : Open) (s : List Cell) → length (left_out card_type o s)
    ≤ length s
left_short card_type closed s = omega arith
left_short card_type begun [] = omega arith
left_short card_type begun (x ∷ s) = omega arith
left_short card_type pushed [] = omega arith
left_short card_type pushed (x ∷ []) = omega arith
left_short card_type pushed (x ∷ y ∷ s) = omega arith

three : (a b c : Bool) → ((a || b) || c) ≡ false → (a ≡ false) × (b ≡ false) × (c ≡ false)
three false false false e = (refl, refl, refl)
three false false true e = absurd cc
three false true c e = absurd cc
three true b c e = absurd cc

module _ (card_type : List ℕ → Option (List ℕ)) where
  abbrev cells : List Cell → List Cell
  cells = card_cells card_type

  abbrev out : Open → List Cell → List Cell
  out = left_out card_type

  cut_below : (o : Open) (xs ys : List Cell) → AllZip IsCellBelow xs (cells (out o ys)) → IsStackBelow (stack_of xs)
      (card_stack card_type o (stack_of ys))
  cut_below o xs ys below = by (nat_le (length ys) most_cells) refl
    where
      by : (b : Bool) → nat_le (length ys) most_cells ≡ b → IsStackBelow (stack_of xs) (card_stack card_type o (stack_of
          ys))
      by true e =
          let long = zip_long xs (map (card_cell card_type) (out o ys)) below ∙ length-map (out o ys) (card_cell
          card_type) in
          let short = left_short card_type o ys in
          let few : nat_le (length xs) most_cells ≡ true = grind (arith, nat_tests, long, short, e) in
          subst (λ (b : Bool). IsStackBelow (if b then Cells xs else Clash) (card_stack card_type o (stack_of ys)))
          (sym few) (subst (λ (b : Bool). IsStackBelow (Cells xs) (card_stack card_type o (if b then Cells ys
          else Clash))) (sym e) below)
      by false e = subst (λ (b : Bool). IsStackBelow (stack_of xs) (card_stack card_type o (if b then Cells ys
          else Clash))) (sym e) tt

  module _ (is_of : Subtype) (w : List Class) (b : Body) (count : ℕ) (before behind : Open) (op : JOp) (a : Act)
      (ls s : List Cell) (mirrors : MirrorsInPair card_type is_of before behind op a ls s)
      (on : is_off_by_name b op ls s ≡ false) where
    abbrev x : State
    x = record { stack = Cells s; locals = ls }

    not_wrong : is_wrong is_of a (cells ls) (cells (out before s)) ≡ false
    not_wrong =
        ap (λ v. v || has_wrong_local is_of a.reads (cells ls) || a.misfits) mirrors.operands
        ∙ ap (λ v. false || v || a.misfits) mirrors.locals_right
        ∙ ap (λ v. false || false || v) mirrors.fits

    not_off : is_off b.max_stack a (cells ls) (cells (out before s)) ≡ false
    not_off =
        let behind_cells = behind_by_name op ls s in
        let all = three (nat_lt (length s) (takes op)) (nat_lt b.max_stack (length s)) (nat_lt b.max_stack (length
        behind_cells)) on in
        let many = length-map (out before s) (card_cell card_type) in
        let short = left_short card_type before s in
        let long = zip_long (stack_behind a (cells ls) (cells (out before s))) (cells (out behind behind_cells))
        mirrors.leaves ∙ length-map (out behind behind_cells) (card_cell card_type) in
        let less = left_short card_type behind behind_cells in
        let there = mirrors.enough in
        let here = all.1 in
        let after = all.2 in
        let first : nat_lt (length (cells (out before s))) (length a.takes) ≡ false = grind (
          arith,
          nat_tests,
          many,
          there,
        ) in
        let second : nat_lt b.max_stack (length (cells (out before s))) ≡ false = grind (
          arith,
          nat_tests,
          many,
          short,
          here,
        ) in
        let third : nat_lt b.max_stack (length (stack_behind a (cells ls) (cells (out before s)))) ≡ false = grind (
          arith,
          nat_tests,
          long,
          less,
          after,
        ) in
        ap (λ v. v || nat_lt b.max_stack (length (cells (out before s))) || nat_lt b.max_stack (length (stack_behind a
        (cells ls) (cells (out before s)))) || lacks_local a (cells ls)) first
        ∙ ap (λ v. false || v || nat_lt b.max_stack (length (stack_behind a (cells ls) (cells (out before s))))
        || lacks_local a (cells ls)) second
        ∙ ap (λ v. false || false || v || lacks_local a (cells ls)) third
        ∙ ap (λ v. false || false || false || v) mirrors.there

    pub pair_row_stands : Stands is_of count b.max_stack a (card_state card_type before x) (card_state card_type behind
        (steps.after op x))
    pair_row_stands = record {
      unbroken = none_breaks is_of b.max_stack a (cells ls) (cells (out before s)) not_wrong not_off mirrors.known
          mirrors.named (card_state card_type before x) refl;
      goes = (
        cut_below behind (stack_behind a (cells ls) (cells (out before s))) (behind_by_name op ls s) mirrors.leaves,
        mirrors.writes,
      );
    }

  -- getfield that closes a pair
  pub closing_mirrors : (is_of : Subtype) (w : List Class) → SubtypesAgree card_type is_of w → (f : MemberId)
      (letter : Letter) (class : ClassRef) (t : ValueType) → FieldFits card_type is_of w f letter class t
      → (ls s : List Cell) (this x : Cell) → slice_get ls 0 ≡ Some this
      → all_types (λ type. is_of type (class_type class)) (card_cell card_type this) ≡ true
      → MirrorsInPair card_type is_of begun closed (jop.Field false f) (getting true letter class t) ls (x ∷ s)
  closing_mirrors is_of w agree f letter class t fits ls s this x there passes =
      let d = parts f.desc in
      let held : slice_get (cells ls) 0 ≡ Some (card_cell card_type this) = get_mapped (card_cell card_type) ls 0
      ∙ ap (option_map (card_cell card_type)) there in
      let some = get_below (cells ls) 0 (card_cell card_type this) held in
      let local : nat_le (length (cells ls)) 0 ≡ false = grind (arith, nat_tests, some) in
      record {
        enough = omega arith;
        leaves = subst (λ (zs : List Cell). AllZip IsCellBelow (map (given (cells ls) (cells s)) (words t) ++ cells s)
            zs)
            (sym (mapped_both (card_cell card_type) (result_of d.result) s)) (zip_both (map (given (cells ls) (cells s))
            (words t)) (cells s) (cells (result_of d.result)) (cells s) (result_puts card_type is_of w agree d.result t
            fits.typed (cells ls) (cells s)) (zip_itself (cells s)));
        writes = zip_itself (cells ls);
        operands = refl;
        locals_right = ap (λ o. is_wrong_local is_of (OfType (class_type class)) o || false) held
            ∙ ap (λ v. not v || false) passes;
        fits = ap not fits.moved;
        there = ap (λ v. (v || false) || false) local;
        known = refl;
        named = fits.inside;
      }
