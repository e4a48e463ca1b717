use Rattle.std.proofs.Common.{refl, ◌∙◌}
use Rattle.std.specs.Prelude.{if◌then◌else◌, ◌==◌, Some, None, option_map}
use Rattle.cjc_card_semantics.specs.Machine.Classes.{with_token}
use Rattle.cjc_card_link.proofs.OrElse.{note_more, note_all}
use Rattle.cjc_card_calls.specs.Files.Files.{line_of, row_under}
use Rattle.cjc_card_calls.proofs.FilesLaws.Lines.{line_read, one_line}
use Rattle.cjc_card_calls.proofs.files.files.file_of.Goals as goal

pub loop-class-preserved : goal.loop-class-preserved
loop-class-preserved c =
    let all = c.args.names.now in (
      (λ x.
          note_more (λ n cs. option_map (line_of all) (with_token cs x)) (λ n d. if d.token == x
          then Some (line_of all d) else None) (λ n. one_line all x)
          c.loop-class.class-index c.class-item.result c.class-item.result c.args.classes.now _ _ _
          c.loop-class-test.true c.class-item.is (c.in_ok-note_class.ensures.lines x) (c.loop-class.invariant.0 x)),
      c.in_ok-note_class.ensures.nothing ∙ c.loop-class.invariant.1,
    )

pub returns : goal.returns
returns c = λ x.
    let all = c.args.names.now in
    line_read all (row_under c.loop-class.file x) _ (with_token c.args.classes.now x) c.loop-class.invariant.1
    (note_all (λ n cs. option_map (line_of all) (with_token cs x)) (λ n. refl) c.loop-class.class-index
    c.args.classes.now _ _ c.loop-class-test.false (c.loop-class.invariant.0 x))
