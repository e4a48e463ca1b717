-- What is written for an instruction stands between its frames, by the acts of its instructions: where they run, fall
-- through no more than the instruction does, and jump by the last one alone to what is written for its targets.
use Rattle.std.proofs.Common.{◌≡◌, ℕ, zero, suc, refl, sym, ap, subst, ◌∙◌, arith, true, List, []}
use Rattle.std.proofs.Common.{◌∷◌, length, slice_get, Contains, Option, Some}
use Rattle.cjc_types.specs.Bytecode.declared.insn.JInsn.{JInsn}
use Rattle.cjc_types.specs.Bytecode.declared.insn.JOp.{JOp}
use Rattle.cjc_types.specs.Flow.{Body as BodyByName}
use Rattle.cjc_types.specs.Steps.{goes_on as goes_on_by_name, targets}
use Rattle.cjc_types.specs.declared.cell.Cell.{Cell}
use Rattle.cjc_types.specs.declared.state.Stack.TheVariants.{Cells}
use Rattle.cjc_types.specs.declared.state.State.{State}
use Rattle.cjc_frames.specs.Acts.{Subtype}
use Rattle.cjc_frames.specs.declared.acts.Act.{Act}
use Rattle.cjc_frames.specs.declared.acts.Step.{Step}
use Rattle.cjc_accepted_proof.specs.Blocks.{goes_on}
use Rattle.cjc_int_accepted.specs.Ends.{LeadAtEnd, falls_behind}
use Rattle.cjc_int_accepted.specs.Frames.{Room}
use Rattle.cjc_int_accepted.specs.Methods.{Leads, Selection, StretchStands, acts_of, out, stretch_of}
use Rattle.cjc_int_accepted.specs.Runs.{Runs}
use Rattle.cjc_int_accepted.specs.Stretches.{IsAlong}

pub none_in : (offset : ℕ) → Contains [] offset → ⊥
none_in offset (k, lt, e) = absurd (omega (arith, lt))

-- what jumps nowhere leads to what is written for targets
pub nowhere : (label to : ℕ → ℕ) (op : JOp) (offset : ℕ) → Contains [] offset → (t : ℕ) × Contains (targets op) t
    × (offset ≡ to (label t))
nowhere label to op offset on = absurd (none_in offset on)

-- steps go on as their acts do
pub goes_same : (steps : List Step) → goes_on steps ≡ falls_behind (acts_of steps)
goes_same [] = refl
goes_same (s ∷ []) = refl
goes_same (s ∷ t ∷ steps) = goes_same (t ∷ steps)

module _ (label to : ℕ → ℕ) (op : JOp) where
  abbrev Aim : (steps : List Step) → (index : ℕ) → (offset : ℕ) → Type 0
  Aim steps index offset = (suc index ≡ length steps) × ((target : ℕ) × Contains (targets op) target
      × (offset ≡ to (label target)))

  -- a jump is that of the last one
  jump_last : (steps : List Step) → LeadAtEnd label to op (acts_of steps) → (index : ℕ) (s : Step) → slice_get steps
      index ≡ Some s → (offset : ℕ) → Contains (let a = s.act in a.targets) offset → Aim steps index offset
  jump_last [] e index s there offset on = absurd cc
  jump_last (t ∷ []) e zero s there offset on =
      let same : t ≡ s = cc in
      (refl, e offset (subst (λ (u : Step). Contains (let a = u.act in a.targets) offset) (sym same) on))
  jump_last (t ∷ []) e (suc index) s there offset on = absurd cc
  jump_last (t ∷ u ∷ steps) e zero s there offset on =
      let same : t ≡ s = cc in
      absurd (e.0 offset (subst (λ (v : Step). Contains (let a = v.act in a.targets) offset) (sym same) on))
  jump_last (t ∷ u ∷ steps) e (suc index) s there offset on =
      let r = jump_last (u ∷ steps) e.1 index s there offset on in
      (ap suc r.0, r.1)

module _ (card_type : List ℕ → Option (List ℕ)) (is_of : Subtype) (m : Room) (new : Selection) (b : BodyByName)
    (rows : List (Option State)) (label to : ℕ → ℕ) where
  pub stands_by_acts : (count place here : ℕ) (i : JInsn) (x : State) (s : List Cell) (acts : List Act)
      → x.stack ≡ Cells s → acts_of (new place here i x) ≡ acts
      → Runs card_type is_of m b.max_stack i.op acts x.locals s → LeadAtEnd label to i.op acts
      → (falls_behind acts ≡ true → goes_on_by_name i.op ≡ true)
      → StretchStands card_type is_of m new b rows label to count place here i x
  stands_by_acts count place here i x s acts is e runs ends falls = record {
    stack = s;
    is = is;
    runs = subst (λ (ys : List Act). Runs card_type is_of m b.max_stack i.op ys x.locals s) (sym e) runs;
    falls = λ h. falls (sym (goes_same (new place here i x) ∙ ap falls_behind e) ∙ h);
    jumps = λ index u y along offset on. by index u y along offset on (jump_last label to i.op (new place here i x)
        (subst (LeadAtEnd label to i.op) (sym e) ends) index u along.step offset on);
  }
    where
      by : (index : ℕ) (u : Step) (y : State) → IsAlong (stretch_of card_type m new place here i x) index u y
          → (offset : ℕ) → Contains (let a = u.act in a.targets) offset
          → Aim label to i.op (new place here i x) index offset
          → Leads label to count here (stretch_of card_type m new place here i x) i index u y offset
      by index u y along offset on r = let aim = r.1 in out r.0 aim.0 aim.1 aim.2
