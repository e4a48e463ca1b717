-- Rows of a method for which one instruction is written, or none; outside of pairs by an act that mirrors the class
-- file's instruction.
use Rattle.cjc_types.specs.Flow.{Body as BodyByName}
use Rattle.cjc_types.specs.Rules.{is_off as is_off_by_name}
use Rattle.std.proofs.Common.{◌≡◌, ℕ, suc, sym, subst, ◌∙◌, true, false, List, [], ◌∷◌, Contains, inl}
use Rattle.std.proofs.Common.{inr}
use Rattle.std.proofs.Common.{Option, arith, ◌<◌}
use Rattle.cjc_types.specs.Bytecode.declared.insn.JInsn.{JInsn}
use Rattle.cjc_types.specs.Fixpoint.Working.Edges.{contains_cons}
use Rattle.cjc_types.specs.States.{states}
use Rattle.cjc_types.specs.Steps.{after as after_by_name, goes_on as goes_on_by_name, targets}
use Rattle.cjc_types.specs.World.Classes.{Class}
use Rattle.cjc_types.specs.declared.cell.Cell.{Cell}
use Rattle.cjc_types.specs.declared.state.Stack.TheVariants.{Cells}
use Rattle.cjc_types.specs.declared.state.State.{State}
use Rattle.cjc_check_proof.specs.NCode.Written.{Resolution, place_in, reached, written_for}
use Rattle.cjc_check_proof.specs.NCode.declared.narrow.NInsn.{NInsn}
use Rattle.cjc_verify.specs.Narrow.Pairs.Open.{Open, closed}
use Rattle.cjc_frames.specs.Acts.{Subtype}
use Rattle.cjc_frames.specs.declared.acts.Step.{Step}
use Rattle.cjc_accepted_proof.specs.Blocks.{AllStand, goes_on, nothing, one}
use Rattle.cjc_accepted_proof.specs.Frames.{Mirrors, Stands, card_state}
use Rattle.cjc_accepted_proof.specs.Methods.{RowStands, between, steps_from}
use Rattle.cjc_accepted_proof.proofs.RowsLaws.{row_stands}

module _ (card_type : List ℕ → Option (List ℕ)) (is_of : Subtype) (w : List Class) (r : Resolution) (b : BodyByName)
    (rows : List (Option State)) (opened : ℕ → Open) (step : (label : ℕ) → NInsn → Step) where
  abbrev written : JInsn → List NInsn
  written i = written_for r (λ offset. place_in r (reached b.insns rows) offset) i

  -- one instruction is written, which stands between the frames
  pub row_of_one : (count : ℕ) (to : ℕ → ℕ) (at from : ℕ) (i : JInsn) (x : State) (insn : NInsn) → written i ≡ insn ∷ []
      → Stands is_of count b.max_stack (let t = step from insn in t.act) (card_state card_type (opened at) x)
      (card_state card_type (opened (suc at)) (after_by_name i.op x))
      → ((let t = step from insn in let a = t.act in a.falls) ≡ true → goes_on_by_name i.op ≡ true)
      → ((offset : ℕ) → Contains (let t = step from insn in let a = t.act in a.targets) offset → (target : ℕ)
      × Contains (targets i.op) target × (offset ≡ to (place_in r (reached b.insns rows) target)))
      → RowStands card_type is_of r b rows opened step count b.max_stack to at from i x
  row_of_one count to at from i x insn is stands falls jumps = record {
    stands = subst (λ (is : List NInsn). AllStand is_of count b.max_stack (card_state card_type (opened at) x) (between
        card_type is_of r b rows opened step x) (card_state card_type (opened (suc at)) (after_by_name i.op x))
        (steps_from step from is)) (sym is) (one stands);
    falls = λ e. falls (subst (λ (is : List NInsn). goes_on (steps_from step from is) ≡ true) is e);
    jumps = λ u within offset on. (
        let same = only u (subst (λ (is : List NInsn). Contains (steps_from step from is) u) is within) in
        jumps offset (subst (λ (v : Step). Contains (let a = v.act in a.targets) offset) (sym same) on)
        );
  }
    where
      only : (u : Step) → Contains (step from insn ∷ []) u → step from insn ≡ u
      only u within = elim (contains_cons (step from insn) [] u within) [
        | inl same ↦ same
        | inr (k, lt, e) ↦ absurd (omega (arith, lt))
      ]

  -- nothing is written, and the frame stays
  pub row_of_none : (count : ℕ) (to : ℕ → ℕ) (at from : ℕ) (i : JInsn) (x : State) → written i ≡ []
      → (let s = states count in s.Below (card_state card_type (opened at) x) (card_state card_type (opened (suc at))
      (after_by_name i.op x))) → goes_on_by_name i.op ≡ true
      → RowStands card_type is_of r b rows opened step count b.max_stack to at from i x
  row_of_none count to at from i x is below goes = record {
    stands = subst (λ (is : List NInsn). AllStand is_of count b.max_stack (card_state card_type (opened at) x) (between
        card_type is_of r b rows opened step x) (card_state card_type (opened (suc at)) (after_by_name i.op x))
        (steps_from step from is)) (sym is) (nothing below);
    falls = λ e. goes;
    jumps = λ u within offset on. absurd (none u (subst (λ (is : List NInsn). Contains (steps_from step from is) u) is
        within));
  }
    where
      none : (u : Step) → Contains [] u → ⊥
      none u (k, lt, e) = omega (arith, lt)

  -- outside of pairs, by the act
  pub row_alone : (count : ℕ) (to : ℕ → ℕ) (at from : ℕ) (i : JInsn) (ls s : List Cell) (insn : NInsn) → opened at
      ≡ closed → opened (suc at) ≡ closed → written i ≡ insn ∷ []
      → Mirrors card_type is_of i.op (let t = step from insn in t.act) ls s → is_off_by_name b i.op ls s ≡ false
      → ((let t = step from insn in let a = t.act in a.falls) ≡ true → goes_on_by_name i.op ≡ true)
      → ((offset : ℕ) → Contains (let t = step from insn in let a = t.act in a.targets) offset → (target : ℕ)
      × Contains (targets i.op) target × (offset ≡ to (place_in r (reached b.insns rows) target)))
      → RowStands card_type is_of r b rows opened step count b.max_stack to at from i (record {
        stack = Cells s;
        locals = ls;
      })
  row_alone count to at from i ls s insn before behind is mirrors on falls jumps =
      row_of_one count to at from i (record { stack = Cells s; locals = ls }) insn is (stands closed closed (sym before)
      (sym behind) (row_stands card_type is_of w b count i.op (let t = step from insn in t.act) ls s mirrors on)) falls
      jumps
    where
      stands : (o q : Open) → o ≡ opened at → q ≡ opened (suc at) → Stands is_of count b.max_stack (let t = step from
          insn in t.act) (card_state card_type o (record { stack = Cells s; locals = ls })) (card_state card_type q
          (after_by_name i.op (record { stack = Cells s; locals = ls }))) → Stands is_of count b.max_stack (let t = step
          from insn in t.act) (card_state card_type (opened at) (record { stack = Cells s; locals = ls })) (card_state
          card_type (opened (suc at)) (after_by_name i.op (record { stack = Cells s; locals = ls })))
      stands o q e f h = subst (λ (p : Open). Stands is_of count b.max_stack (let t = step from insn in t.act)
          (card_state card_type p (record { stack = Cells s; locals = ls })) (card_state card_type (opened (suc at))
          (after_by_name i.op (record { stack = Cells s; locals = ls })))) e (subst (λ (p : Open). Stands is_of count
          b.max_stack (let t = step from insn in t.act) (card_state card_type o (record {
            stack = Cells s;
            locals = ls;
          })) (card_state card_type p (after_by_name i.op (record { stack = Cells s; locals = ls })))) f h)
