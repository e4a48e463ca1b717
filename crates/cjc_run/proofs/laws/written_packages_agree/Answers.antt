use Rattle.cjc_run.proofs.Accepting.{list_is_read}
use Rattle.cjc_run.proofs.Agreeing.{agrees}
use Rattle.cjc_run.proofs.laws.written_packages_agree.Goals as goal

pub returns : goal.returns
returns c =
    let back = c.written_files_break_nothing.ensures.read in
    let law = c.written_files_in_short_mode_are_as_before.ensures in
    agrees back (λ files line is.
    let w = is.written in
    record {
      judged = (let made = w.converted in made.judged);
      converted = law.converted w.list w.inputs w.made (list_is_read back line.list line.folder files w) w.converted
          is.short w.trees w.spell w.fair;
      cap = law.components w.list w.inputs w.made w.converted is.short;
    }) c.ready_packages_run_alike.ensures
