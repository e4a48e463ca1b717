-- Instructions from words to words: walks that follow each other are one.
use Rattle.std.proofs.Common.{◌≡◌, ℕ, refl, sym, ap, subst, ◌∙◌, List, [], ◌∷◌, ◌++◌, Option}
use Rattle.std.specs.List.{AllZip}
use Rattle.cjc_types.specs.Bytecode.declared.insn.JOp.{JOp}
use Rattle.cjc_types.specs.Cells.{IsCellBelow}
use Rattle.cjc_types.specs.Steps.{locals_after, stack_behind as behind_by_name}
use Rattle.cjc_types.specs.declared.cell.Cell.{Cell}
use Rattle.cjc_types.specs.declared.state.Stack.TheVariants.{Cells}
use Rattle.cjc_frames.specs.Acts.{Subtype, stack_behind}
use Rattle.cjc_frames.specs.declared.acts.Act.{Act}
use Rattle.cjc_int_accepted.specs.Frames.{Room, frame_words, stack_words}
use Rattle.cjc_int_accepted.specs.Runs.{AreSound, IsSound, Runs, Walks, locals_behind, locals_through, most_words}
use Rattle.cjc_int_accepted.specs.Runs.{stack_through}
use Rattle.cjc_int_accepted.proofs.RunsLaws.{locals_both, sound_both, stack_both}

module _ (is_of : Subtype) (most : ℕ) (base : List Cell) where
  abbrev Goes : (acts : List Act) → (ls s ls_behind s_behind : List Cell) → Type 0
  Goes acts ls s ls_behind s_behind = Walks is_of most base acts ls s ls_behind s_behind

  pub walk_none : (ls s : List Cell) → Goes [] ls s ls s
  walk_none ls s = record { sound = tt; stack = refl; locals = refl }

  pub walk_one : (a : Act) (ls s ls_behind s_behind : List Cell) → IsSound is_of most a ls s → AllZip IsCellBelow ls
      base
      → locals_behind a ls s ≡ ls_behind → stack_behind a ls s ≡ s_behind → Goes (a ∷ []) ls s ls_behind s_behind
  walk_one a ls s ls_behind s_behind is below locals stack = record {
    sound = (is, below, tt);
    stack = stack;
    locals = locals;
  }

  pub walk_both : (xs ys : List Act) (ls s ms t ns u : List Cell) → Goes xs ls s ms t → Goes ys ms t ns u → Goes (xs
      ++ ys) ls s ns u
  walk_both xs ys ls s ms t ns u front back = record {
    sound = sound_both is_of most base xs ys ls s front.sound (subst (λ (v : List Cell). AreSound is_of most base ys v
        (stack_through xs ls s)) (sym front.locals) (subst (λ (v : List Cell). AreSound is_of most base ys ms v) (sym
        front.stack) back.sound));
    stack = stack_both xs ys ls s ∙ ap (λ (v : List Cell). stack_through ys v (stack_through xs ls s)) front.locals
        ∙ ap (stack_through ys ms) front.stack ∙ back.stack;
    locals = locals_both xs ys ls s ∙ ap (λ (v : List Cell). locals_through ys v (stack_through xs ls s)) front.locals
        ∙ ap (locals_through ys ms) front.stack ∙ back.locals;
  }

module _ (card_type : List ℕ → Option (List ℕ)) (is_of : Subtype) (m : Room) (max_stack : ℕ) where
  -- a walk to no more than what is behind is a row
  pub row_of_walk : (op : JOp) (acts : List Act) (ls s ls_behind s_behind : List Cell) → Walks is_of (most_words
      max_stack) (frame_words card_type m ls) acts (frame_words card_type m ls) (stack_words card_type s) ls_behind
      s_behind → AllZip IsCellBelow s_behind (stack_words card_type (behind_by_name op ls s)) → AllZip IsCellBelow
      ls_behind (frame_words card_type m (locals_after op ls (Cells s))) → Runs card_type is_of m max_stack op acts ls s
  row_of_walk op acts ls s ls_behind s_behind walk stack locals = record {
    sound = walk.sound;
    stack_below = subst (λ (v : List Cell). AllZip IsCellBelow v (stack_words card_type (behind_by_name op ls s))) (sym
        walk.stack) stack;
    locals_below = subst (λ (v : List Cell). AllZip IsCellBelow v (frame_words card_type m (locals_after op ls (Cells
        s)))) (sym walk.locals) locals;
  }
