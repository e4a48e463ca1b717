use Rattle.std.proofs.Common.{ℕ, List, ap, ◌∙◌}
use Rattle.cjc_bytes.specs.Breaks.{RulePlace, broken_at, class_spot}
use Rattle.cjc_bytes.specs.Order.{FilePlace, file_of}
use Rattle.cjc_bytes.specs.declared.settings.FileLine.{FileLine}
use Rattle.cjc_tokens.proofs.assigning.high_break.Goals as goal

pub returns : goal.returns
returns c =
    ap (λ (s : RulePlace). broken_at s 413)
    (c.of_class.ensures
    ∙ ap (λ (f : FilePlace). class_spot f 1 c.items-2.result.now) (c.file_of-file.ensures
    ∙ ap (λ (ls : List FileLine). file_of ls c.args.number) (c.items.ensures ∙ c.lines.ensures))
    ∙ ap (λ (n : List ℕ). class_spot (file_of c.args.world.now.lines c.args.number) 1 n) c.items-2.ensures)
