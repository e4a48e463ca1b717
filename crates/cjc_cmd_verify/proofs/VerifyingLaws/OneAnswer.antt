-- What was read decides one answer.
use Rattle.std.proofs.Common.{◌≡◌, ◌+◌, inl, inr, List, [], ◌++◌, map, refl}
use Rattle.std.specs.Prelude.{Ok, Err, flat_map}
use Rattle.cjc_cmd_card.specs.CheckRules.Consistent.{break_at}
use Rattle.cjc_cmd_card.proofs.ReportLaws.OneAnswer.{one_of_pair}
use Rattle.cjc_cmd_card.proofs.ReportLaws.Once.{SentencesHold, one_break}
use Rattle.cjc_cmd_card.specs.declared.running.input.Input.{Input}
use Rattle.cjc_cmd_card.proofs.CmdCheckOneAnswer.{OfComponent, in_spots, of_components}
use Rattle.cjc_cmd_card.specs.Shelf.declared.command.status.Todo.{Todo}
use Rattle.cjc_cmd_card.proofs.ReportLaws.Free.{none_first}
use Rattle.cjc_cmd_verify.proofs.VerifyingLaws.Free.{of_typing}
use Rattle.cjc_cmd_verify.specs.Verify.{AnyBreaks, BreaksTyping, Verifies}
use Rattle.cjc_cmd_card.proofs.BytesFirsts.{among_either}
use Rattle.cjc_cmd_card.proofs.JudgeOneRefusal.{one_first_of, one_on_levels}
use Rattle.cjc_cmd_card.specs.Bytes.Breaks.{Among, Break}
use Rattle.cjc_cmd_card.specs.Bytes.declared.fault.Refusal.{Refusal}
use Rattle.cjc_verify_theorem.specs.Judge.Rules.{on_first, on_second}
use Rattle.cjc_verify_theorem.specs.Verify.Bodies.{bodies}
use Rattle.cjc_verify_theorem.specs.Verify.Described.{all_array_spots, described_spots}
use Rattle.cjc_verify_theorem.specs.Verify.Headers.{header_spots}
use Rattle.cjc_verify_theorem.specs.Verify.Infos.{all_abstract_spots, all_info_spots, all_table_spots}
use Rattle.cjc_verify_theorem.specs.Verify.Pairs.{Pair}
use Rattle.cjc_verify_theorem.specs.Verify.Verified.{Breaks, class_breaks, header_breaks, in_code, listed}
use Rattle.cjc_verify_theorem.specs.Verify.Verified.{listed_breaks}

-- ---- 721 to 729 are told of places in components

-- of the first list, or of the other
in_both : (xs ys : List Break) (b : Break) → ((b : Break) → Among b xs → OfComponent b)
    → ((b : Break) → Among b ys → OfComponent b) → Among b (xs ++ ys) → OfComponent b
in_both xs ys b left right among = elim (among_either b xs ys among) [
  | inl here ↦ left b here
  | inr later ↦ right b later
]

in_classes : (p : Pair) (b : Break) → Among b (class_breaks p) → OfComponent b
in_classes p b among =
    in_both (map (break_at 725) (all_table_spots p) ++ map (break_at 727) (all_abstract_spots p))
    (map (break_at 729) (all_info_spots p)) b
    (λ b front. in_both (map (break_at 725) (all_table_spots p)) (map (break_at 727) (all_abstract_spots p)) b
    (in_spots 725 (all_table_spots p)) (in_spots 727 (all_abstract_spots p)) front)
    (in_spots 729 (all_info_spots p)) among

in_methods : (p : Pair) (b : Break) → Among b (class_breaks p ++ header_breaks p) → OfComponent b
in_methods p b among =
    in_both (class_breaks p) (header_breaks p) b (in_classes p)
    (in_spots 727 (flat_map (header_spots p) (bodies p.components))) among

in_listed : (p : Pair) (b : Break) → Among b (listed_breaks p) → OfComponent b
in_listed p b among =
    in_both (class_breaks p ++ header_breaks p ++ map (break_at 728) (all_array_spots p))
    (map (break_at 721) (described_spots p)) b
    (λ b front. in_both (class_breaks p ++ header_breaks p) (map (break_at 728) (all_array_spots p)) b (in_methods p)
    (in_spots 728 (all_array_spots p)) front)
    (in_spots 721 (described_spots p)) among

of_types : (p : Pair) (b : Break) → Breaks p b → OfComponent b
of_types p b (listed broken among) = in_listed p broken among
of_types p b (in_code k body rows place rule is least breach) =
    record { tag = 7; place = 3 + breach.step.at; rule = rule; is = refl }

one_of_typing : (input : Input) (a b : Break) → BreaksTyping input a → BreaksTyping input b → a.rank ≡ b.rank
    → a.refusal ≡ b.refusal
one_of_typing input a b p q e = of_components a b (of_types _ a p.broken) (of_types _ b q.broken) e

-- ---- the whole

pub one_refusal : (input : Input) (r s : Refusal) → Verifies input (Err r) → Verifies input (Err s) → r ≡ s
one_refusal input r s f g =
    one_first_of (one_on_levels (one_on_levels (one_break input []) (one_of_pair input)) (one_of_typing input)) r s f g

pub never_both : SentencesHold → (input : Input) (todo : Todo) (r : Refusal) → Verifies input (Ok todo)
    → Verifies input (Err r) → ⊥
never_both hold input todo r made f = by f.first.breaks
  where
    by : AnyBreaks input f.broken → ⊥
    by (on_first x) = let t = made.0 in none_first hold input t.ready t.is_ready t.image t.is_image t.whole t.whole_is
        t.paired f.broken x
    by (on_second before p) =
        let t = made.0 in
        t.typed f.broken (of_typing hold input t.ready t.is_ready t.image t.is_image t.whole t.whole_is f.broken p)
