use Rattle.std.proofs.Common.{subst, sym, ◌∙◌}
use Rattle.std.specs.Prelude.{◌≢◌, ℕ}
use Rattle.cjc_check_proof.specs.TokenProof.ByToken.Classes.{memories, tests}
use Rattle.cjc_check_proof.specs.TokenProof.Calls.Reaching as reaching
use Rattle.cjc_components.specs.Bytecode.PackageCodes.{all_codes}
use Rattle.cjc_components.specs.Methods.{placed_methods}
use Rattle.cjc_classes.specs.Narrow.Rows.Package.{named}
use Rattle.cjc_narrow_proof.specs.Script.declared.report.Outcome.TheVariants.{Stuck}
use Rattle.cjc_narrow_proof.specs.Script.declared.report.Report.{Report}
use Rattle.cjc_check_proof.specs.TokenProof.Tables.Known.{known_names}
use Rattle.cjc_check_proof.specs.TokenProof.Tables.Loading.{naming, part}
use Rattle.cjc_check_proof.specs.TokenProof.WrittenCalls.Standing.{place}
use Rattle.cjc_shape_proof.specs.Written.Joined.{placed_code}
use Rattle.cjc_shape_proof.proofs.WrittenLaws.Joining.{calls_agree, runs_by_token}
use Rattle.cjc_shape_proof.proofs.WrittenLaws.Ordering.{laid_runs}
use Rattle.cjc_shape_proof.proofs.written.joined_packages_run_by_token.Goals as goal

pub returns : goal.returns
returns c = λ list p is call joined script n free.
    let codes = (let w = p.files in all_codes w.classes) in
    let names = known_names call p in
    let placed = reaching.placed_methods p.files (place p) in
    let classes = c.class_tables_agree.ensures list p codes call (placed_code p) is.sound is.typed is.image is.once in
    let rest = calls_agree p call joined (c.calls_take_objects_alike.ensures p)
    (λ m is_named o receives r e found. c.calls_reach.ensures.alike list p is.sound is.ready is.methods is.small
    is.keeps is.subtypes is.tokens joined.exports m is_named o receives r e found)
    (λ m is_named o receives start e. c.calls_reach.ensures.there list p is.sound is.ready is.methods is.small is.keeps
    joined.exports m is_named o receives start e)
    (c.entries_are_called.ensures.alike list p is.sound is.ready is.methods is.small is.keeps joined.exports
    is.no_static)
    (c.entries_are_called.ensures.there list p is.sound is.ready is.methods is.small is.keeps joined.exports
    is.no_static)
    (λ kind receives id start e. c.sent_methods_stand.ensures list p is.sound is.ready is.methods is.small is.keeps
    joined.exports kind receives id start e)
    is.objects in
    let tables = c.tables_agree_by_parts.ensures (naming p) (placed_methods p) (memories (naming p) names)
    (named p.files p.image (placed_code p)) placed (tests names) classes rest in
    let sorted = laid_runs p is.ordered c.order_changes_no_search.ensures script n free in
    let not_stuck = subst (λ (r : Report). (at : ℕ) → r.outcome ≢ Stuck at) (sym sorted) free in
    runs_by_token p call
    (λ k s known is_free. c.runs_agree.ensures (naming p) (part p) (placed_methods p) (memories (naming p) names)
    (named p.files p.image (placed_code p)) placed (tests names) (c.methods_stand.ensures p is.ready) tables
    (c.methods_are_placed.ensures p.files p.image (place p)) k s known is_free)
    (c.memories_begin_alike.ensures.memory list p codes is.sound is.typed is.image is.once) joined script n not_stuck
    ∙ sorted
