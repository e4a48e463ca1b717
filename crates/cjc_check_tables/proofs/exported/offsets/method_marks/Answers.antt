use Rattle.std.proofs.Common.{List, Bool, false, ap, ◌∙◌, get_or}
use Rattle.cjc_check_index.specs.Lookup.Parts.{complete_of}
use Rattle.cjc_check_rules.specs.Members.{is_method_start}
use Rattle.cjc_check_tables.proofs.ExportedLaws.Marks.{marks_all}
use Rattle.cjc_check_tables.proofs.exported.offsets.method_marks.Goals as goal

pub returns-clause-each : goal.returns-clause-each
returns-clause-each c = λ n lt.
    ap (λ (bs : List Bool). get_or bs n false) c.of.ensures
    ∙ marks_all (is_method_start (complete_of c.args.methods.now.names.now.parts.now)) n (get_or c.args.offsets.now n 0)
    c.loop-method.method-index c.args.described.now _ c.loop-method-test.false (c.loop-method.invariant.1 n lt)
