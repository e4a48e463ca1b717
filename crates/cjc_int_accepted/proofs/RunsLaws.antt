-- Instructions that find what they need from the words of a frame break no rule in the frames to which they lead.
use Rattle.std.proofs.Common.{◌≡◌, ℕ, zero, suc, ◌≤◌, refl, sym, ap, subst, ◌∙◌, arith, true, false, List, [], ◌∷◌}
use Rattle.std.proofs.Common.{◌++◌}
use Rattle.std.proofs.Common.{length, slice_get, Some}
use Rattle.std.specs.Prelude.{◌||◌, nat_le, nat_lt, if◌then◌else◌}
use Rattle.std.specs.List.{AllZip}
use Rattle.std.proofs.lemmas.Bool.Decides.{nat_tests}
use Rattle.cjc_types.specs.Cells.{IsCellBelow}
use Rattle.cjc_types.specs.States.{most_cells}
use Rattle.cjc_types.specs.declared.cell.Cell.{Cell}
use Rattle.cjc_types.specs.declared.state.Stack.TheVariants.{Cells, Clash}
use Rattle.cjc_types.specs.declared.state.State.{State}
use Rattle.cjc_frames.specs.Acts.{Breaks, Subtype, after, has_wrong_local, is_off, is_wrong, lacks_local}
use Rattle.cjc_frames.specs.Acts.{stack_behind}
use Rattle.cjc_frames.specs.declared.acts.Act.{Act}
use Rattle.cjc_frames.specs.declared.acts.Step.{Step}
use Rattle.cjc_accepted_proof.proofs.RowsLaws.{none_breaks}
use Rattle.cjc_int_accepted.specs.Methods.{acts_of}
use Rattle.cjc_int_accepted.specs.Runs.{AreSound, IsSound, locals_behind, locals_through, stack_through}
use Rattle.cjc_int_accepted.specs.Stretches.{frame_through, frames_along}

-- a frame by its words
abbrev pub frame_of : (ls s : List Cell) → State
frame_of ls s = record { stack = Cells s; locals = ls }

module _ (is_of : Subtype) (most : ℕ) (few : most ≤ most_cells) where
  -- ---- one instruction

  module _ (a : Act) (ls s : List Cell) (is : IsSound is_of most a ls s) where
    pub after_is : after a (frame_of ls s) ≡ frame_of (locals_behind a ls s) (stack_behind a ls s)
    after_is =
        let le = is.behind in
        let short : nat_le (length (stack_behind a ls s)) most_cells ≡ true = grind (arith, nat_tests, le, few) in
        ap (λ b. record {
          stack = if b then Cells (stack_behind a ls s) else Clash;
          locals = locals_behind a ls s;
        }) short

    not_wrong : is_wrong is_of a ls s ≡ false
    not_wrong =
        ap (λ v. v || has_wrong_local is_of a.reads ls || a.misfits) is.operands
        ∙ ap (λ v. false || v || a.misfits) is.locals_right
        ∙ ap (λ v. false || false || v) is.fits

    not_off : is_off most a ls s ≡ false
    not_off =
        let enough = is.enough in
        let before = is.before in
        let behind = is.behind in
        let one : nat_lt (length s) (length a.takes) ≡ false = grind (arith, nat_tests, enough) in
        let two : nat_lt most (length s) ≡ false = grind (arith, nat_tests, before) in
        let three : nat_lt most (length (stack_behind a ls s)) ≡ false = grind (arith, nat_tests, behind) in
        ap (λ v. v || nat_lt most (length s) || nat_lt most (length (stack_behind a ls s)) || lacks_local a ls) one
        ∙ ap (λ v. false || v || nat_lt most (length (stack_behind a ls s)) || lacks_local a ls) two
        ∙ ap (λ v. false || false || v || lacks_local a ls) three
        ∙ ap (λ v. false || false || false || v) is.there

    pub nothing_breaks : (z : State) → z ≡ frame_of ls s → (rule : ℕ) → Breaks is_of most a z rule → ⊥
    nothing_breaks z same rule breaks = none_breaks is_of most a ls s not_wrong not_off is.known is.named z same rule
        breaks

  -- ---- several

  module _ (base : List Cell) where
    -- what holds before one of several
    pub record IsSoundAt (s : Step) (x : State) : Type 0 where
      pub locals : List Cell
      pub stack : List Cell
      pub is : x ≡ frame_of locals stack
      pub sound : IsSound is_of most s.act locals stack
      pub below : AllZip IsCellBelow locals base

    pub sound_along : (steps : List Step) (ls s : List Cell) → AreSound is_of most base (acts_of steps) ls s → (i : ℕ)
        (t : Step) (x : State) → slice_get steps i ≡ Some t → slice_get (frames_along steps (frame_of ls s)) i ≡ Some x
        → IsSoundAt t x
    sound_along [] ls s is i t x e f = absurd cc
    sound_along (u ∷ steps) ls s is zero t x e f =
        let step : u ≡ t = cc in
        let frame : frame_of ls s ≡ x = cc in
        record {
          locals = ls;
          stack = s;
          is = sym frame;
          sound = subst (λ (v : Step). IsSound is_of most v.act ls s) step is.0;
          below = is.1;
        }
    sound_along (u ∷ steps) ls s is (suc i) t x e f = sound_along steps (locals_behind u.act ls s) (stack_behind u.act
        ls s) is.2 i t x e (subst (λ (z : State). slice_get (frames_along steps z) i ≡ Some x) (after_is u.act ls s
        is.0) f)

    pub through_is : (steps : List Step) (ls s : List Cell) → AreSound is_of most base (acts_of steps) ls s
        → frame_through steps (frame_of ls s) ≡ frame_of (locals_through (acts_of steps) ls s) (stack_through (acts_of
        steps) ls s)
    through_is [] ls s is = refl
    through_is (u ∷ steps) ls s is = ap (frame_through steps) (after_is u.act ls s is.0) ∙ through_is steps
        (locals_behind u.act ls s) (stack_behind u.act ls s) is.2
    -- ---- lists of instructions

-- what is sound in turn is sound at once
pub sound_both : (is_of : Subtype) (most : ℕ) (base : List Cell) (xs ys : List Act) (ls s : List Cell) → AreSound is_of
    most base xs ls s → AreSound is_of most base ys (locals_through xs ls s) (stack_through xs ls s)
    → AreSound is_of most base (xs ++ ys) ls s
sound_both is_of most base [] ys ls s front back = back
sound_both is_of most base (x ∷ xs) ys ls s front back = (
  front.0,
  front.1,
  sound_both is_of most base xs ys (locals_behind x ls s) (stack_behind x ls s) front.2 back,
)

pub stack_both : (xs ys : List Act) (ls s : List Cell) → stack_through (xs ++ ys) ls s ≡ stack_through ys
    (locals_through xs ls s) (stack_through xs ls s)
stack_both [] ys ls s = refl
stack_both (x ∷ xs) ys ls s = stack_both xs ys (locals_behind x ls s) (stack_behind x ls s)

pub locals_both : (xs ys : List Act) (ls s : List Cell) → locals_through (xs ++ ys) ls s ≡ locals_through ys
    (locals_through xs ls s) (stack_through xs ls s)
locals_both [] ys ls s = refl
locals_both (x ∷ xs) ys ls s = locals_both xs ys (locals_behind x ls s) (stack_behind x ls s)
