-- A switch without a case of 16 bits is written as a pop and a goto: the frame between them has no operand.
use Rattle.std.proofs.Common.{◌≡◌, ℕ, ◌≤◌, refl, sym, ap, subst, ◌∙◌, arith, Bool, true, false, List, []}
use Rattle.std.proofs.Common.{◌∷◌, length, Option}
use Rattle.std.specs.Prelude.{◌||◌, nat_le, nat_lt, if◌then◌else◌}
use Rattle.std.proofs.lemmas.Bool.Decides.{nat_tests}
use Rattle.cjc_types.specs.Bytecode.Jvm as jvm
use Rattle.cjc_types.specs.Bytecode.declared.insn.JOp.TheVariants as jop
use Rattle.cjc_types.specs.Flow.{Body}
use Rattle.cjc_types.specs.Rules.{is_off}
use Rattle.cjc_types.specs.States.{most_cells, stack_of}
use Rattle.cjc_types.specs.World.Classes.{Class}
use Rattle.cjc_types.specs.declared.cell.Cell.{Cell}
use Rattle.cjc_types.specs.declared.state.Stack.{Stack}
use Rattle.cjc_types.specs.declared.state.Stack.TheVariants.{Cells, Clash}
use Rattle.cjc_verify.specs.Narrow.Pairs.Open.{closed}
use Rattle.cjc_verify.specs.CardActs.Rows.{any_words, idle}
use Rattle.cjc_frames.specs.Acts.{Subtype}
use Rattle.cjc_frames.specs.declared.acts.Act.{Act}
use Rattle.cjc_frames.specs.declared.acts.Step.{Step}
use Rattle.cjc_accepted_proof.specs.Blocks.{AllStand, two}
use Rattle.cjc_accepted_proof.specs.Frames.{Stands, card_cells, card_stack}
use Rattle.cjc_accepted_proof.proofs.RowsLaws.{row_stands}
use Rattle.cjc_accepted_proof.proofs.InstructionsLaws.Plain.{goto_mirrors, shuffle_mirrors}

module _ (card_type : List ℕ → Option (List ℕ)) (is_of : Subtype) (w : List Class) (b : Body) (count : ℕ)
    (ls : List Cell) (y : Cell) (s : List Cell) (before : nat_lt b.max_stack (length (y ∷ s)) ≡ false)
    (behind : nat_lt b.max_stack (length s) ≡ false) (few : length s ≤ most_cells) where
  abbrev cells : List Cell → List Cell
  cells = card_cells card_type

  -- as many cells are a stack
  whole : stack_of s ≡ Cells s
  whole =
      let fits : nat_le (length s) most_cells ≡ true = grind (arith, nat_tests, few) in
      ap (λ (t : Bool). if t then Cells s else Clash) fits

  -- both have what they take, and no more than the stack holds
  on_pop : is_off b (jop.Stack jvm.pop) ls (y ∷ s) ≡ false
  on_pop =
      let some : nat_lt (length (y ∷ s)) 1 ≡ false = grind (arith, nat_tests) in
      ap (λ t. t || nat_lt b.max_stack (length (y ∷ s)) || nat_lt b.max_stack (length s)) some
      ∙ ap (λ t. false || t || nat_lt b.max_stack (length s)) before ∙ behind

  on_goto : (target : ℕ) → is_off b (jop.Goto target) ls s ≡ false
  on_goto target =
      let some : nat_lt (length s) 0 ≡ false = grind (arith, nat_tests) in
      ap (λ t. t || nat_lt b.max_stack (length s) || nat_lt b.max_stack (length s)) some
      ∙ ap (λ t. false || t || nat_lt b.max_stack (length s)) behind ∙ behind

  pub popped_stands : Stands is_of count b.max_stack (record idle { takes = any_words 1 }) (record {
    stack = Cells (cells (y ∷ s));
    locals = cells ls;
  }) (record { stack = Cells (cells s); locals = cells ls })
  popped_stands = subst (λ (t : Stack). Stands is_of count b.max_stack (record idle { takes = any_words 1 }) (record {
    stack = Cells (cells (y ∷ s));
    locals = cells ls;
  }) (record { stack = card_stack card_type closed t; locals = cells ls })) whole (row_stands card_type is_of w b count
      (jop.Stack jvm.pop) (record idle { takes = any_words 1 }) ls (y ∷ s) (shuffle_mirrors card_type is_of jvm.pop 1 []
      refl refl ls (y ∷ s)) on_pop)

  pub gone_stands : (target : ℕ) (targets : List ℕ) → Stands is_of count b.max_stack (record idle {
    takes = [];
    falls = false;
    targets = targets;
  }) (record { stack = Cells (cells s); locals = cells ls }) (record {
    stack = card_stack card_type closed (stack_of s);
    locals = cells ls;
  })
  gone_stands target targets = row_stands card_type is_of w b count (jop.Goto target) (record idle {
    takes = [];
    falls = false;
    targets = targets;
  }) ls s (goto_mirrors card_type is_of target targets ls s) (on_goto target)

  -- both, one behind the other
  pub emptied_stand : (t u : Step) (target : ℕ) (targets : List ℕ) → t.act ≡ record idle { takes = any_words 1 }
      → u.act ≡ record idle { takes = []; falls = false; targets = targets }
      → AllStand is_of count b.max_stack (record {
        stack = Cells (cells (y ∷ s));
        locals = cells ls;
      }) (record { stack = Cells (cells s); locals = cells ls }) (record {
        stack = card_stack card_type closed (stack_of s);
        locals = cells ls;
      }) (t ∷ u ∷ [])
  emptied_stand t u target targets pop gone = two (subst (λ (a : Act). Stands is_of count b.max_stack a (record {
    stack = Cells (cells (y ∷ s));
    locals = cells ls;
  }) (record { stack = Cells (cells s); locals = cells ls })) (sym pop) popped_stands) (ap (λ (a : Act). a.targets) pop)
      refl (subst (λ (a : Act). Stands is_of count b.max_stack a (record {
        stack = Cells (cells s);
        locals = cells ls;
      }) (record { stack = card_stack card_type closed (stack_of s); locals = cells ls })) (sym gone) (gone_stands
      target targets))
