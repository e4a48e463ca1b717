use Rattle.std.proofs.Common.{◌∙◌, ap, sym, subst}
use Rattle.std.proofs.lemmas.Result.{err_from_is_err_and}
use Rattle.cjc_bytes.specs.Format.{FileSpells}
use Rattle.cjc_export.specs.ExportFile.{export_file}
use Rattle.cjc_export.specs.Writable.{IsWritable}
use Rattle.cjc_export.specs.Written.{written}
use Rattle.cjc_export.specs.declared.tree.ExportTree.{ExportTree}
use Rattle.cjc_convert.proofs.ConvertingLaws.Shapes.{its_draft}
use Rattle.cjc_convert.proofs.ConvertingLaws.Stops.{keeps_limits}
use Rattle.cjc_convert.proofs.Shapes.{laid_out}
use Rattle.cjc_convert.proofs.conversion.shaped_files.Goals as goal

pub write-requires : goal.write-requires
write-requires c =
    let list = c.args.list.now in
    let (files, p, is, shaped) = c.requires.shaped in
    let laid = laid_out list files c.args.judged.now c.args.shaped.now p c.requires.read (c.aids_are_short.ensures list
    c.requires.read) is shaped in
    subst IsWritable (sym shaped.by_export) (c.export_files_can_be_written.ensures list files c.args.judged.now p laid)

pub returns-in_err-caps-clause-refused : goal.returns-in_err-caps-clause-refused
returns-in_err-caps-clause-refused c = λ files p is shaped.
    let e = err_from_is_err_and c.from_residual.result c.from_residual.ensures.1 in
    rw (e.1, e.2) (c.in_err-caps.ensures.refused files p is shaped)

pub returns-clause-converted : goal.returns-clause-converted
returns-clause-converted c = λ files p is shaped.
    let list = c.args.list.now in
    let judged = c.args.judged.now in
    let by = is.judged_by in
    record {
      unbroken = by.unbroken;
      whole = p;
      is_package = shaped.is_package;
      limits = keeps_limits list files judged is p shaped.is_package (its_draft list files c.args.shaped.now p shaped)
          shaped.words shaped.forms (c.in_ok-caps.ensures.sizes files p is shaped);
      caps = c.in_ok-caps.ensures.files files p is shaped;
      caps_spelt = c.in_ok-caps.ensures.spelt files p is shaped;
      export = c.in_ok-export.ensures.written ∙ ap written shaped.by_export;
      export_spelt = subst (λ (t : ExportTree). FileSpells export_file t c.in_ok-export.export) shaped.by_export
          c.in_ok-export.ensures.spelt;
      judged = judged;
      sound = is;
    }
