use Rattle.std.proofs.Common.{◌≡◌, ◌<◌, ◌≤◌, ◌^◌, ◌∙◌, ap, arith, inl, length, subst, sym, List, ℕ, None}
use Rattle.std.proofs.lemmas.List.Elements.{All-weaker}
use Rattle.std.proofs.lemmas.Result.{err_from_is_err_and}
use Rattle.cjc_shape_proof.specs.CapRead.declared.tree.CapTree.{CapTree}
use Rattle.cjc_captree.specs.CapWrite.Files.{files_of, limit_of, part}
use Rattle.cjc_captree.specs.CapWrite.Method.{method_bytes}
use Rattle.cjc_captree.specs.CapWrite.Writable.{IsSpelt, IsWritable}
use Rattle.cjc_convert.proofs.ConversionLaws.Flags.{can_be_written, same_limit}
use Rattle.cjc_convert.proofs.ConversionLaws.Judging.{breaks_nothing, moved}
use Rattle.cjc_convert.proofs.ConversionLaws.Makes.{by_sizes, converted, only_memory}
use Rattle.cjc_convert.proofs.ConversionLaws.Shapes.{laid_out}
use Rattle.cjc_convert.proofs.ConversionLaws.Stops.{stopped_by_files}
use Rattle.cjc_convert.specs.Conversion.{IsConvertedByModes}
use Rattle.cjc_convert.specs.declared.conversion.Converted.{Converted}
use Rattle.cjc_captree.specs.ExportFile.Writable as exports
use Rattle.cjc_shape_proof.specs.LowerJudge.Spelt.{IsRead}
use Rattle.cjc_shape_proof.specs.LowerShape.Whole.Working.Shaped.{Stopped, package_of}
use Rattle.cjc_convert.proofs.conversion.convert.Goals as goal

pub judge-requires-clause-files : goal.judge-requires-clause-files
judge-requires-clause-files c = All-weaker (λ (b : List ℕ). length b ≤ 2 ^ 29) (λ (b : List ℕ). length b < 4294967296)
    (λ b le. omega (arith, le)) c.args.files.now c.requires.files

pub shape-requires : goal.shape-requires
shape-requires c =
    breaks_nothing c.args.list.now c.args.files.now c.in_ok-judged.judged c.requires.read c.are_bytes.ensures
    c.requires.files c.in_ok-judged.ensures.list c.in_ok-judged.ensures.files c.in_ok-judged.ensures.judged

pub build-requires-clause-read : goal.build-requires-clause-read
build-requires-clause-read c = subst IsRead (sym c.in_ok-judged.ensures.list) c.requires.read

pub build-requires-clause-sound : goal.build-requires-clause-sound
build-requires-clause-sound c =
    breaks_nothing c.args.list.now c.args.files.now c.in_ok-judged.judged c.requires.read c.are_bytes.ensures
    c.requires.files c.in_ok-judged.ensures.list c.in_ok-judged.ensures.files c.in_ok-judged.ensures.judged

pub write-requires-clause-writable : goal.write-requires-clause-writable
write-requires-clause-writable c = λ none.
    let j = c.in_ok-judged.judged in
    let s = c.in_ok-shaped.shaped in
    let read = subst IsRead (sym c.in_ok-judged.ensures.list) c.requires.read in
    let sound = breaks_nothing c.args.list.now c.args.files.now j c.requires.read c.are_bytes.ensures c.requires.files
    c.in_ok-judged.ensures.list c.in_ok-judged.ensures.files c.in_ok-judged.ensures.judged in
    let laid = laid_out j s c.in_ok-shaped.ensures.shaped read (c.aids_are_short.ensures j.list.now read) sound in
    let shaped = c.in_ok-shaped.ensures.shaped in
    let t = shaped.is_package.tables in
    subst IsWritable (sym (c.in_ok-cap.ensures.made t shaped.by_mode))
    (can_be_written t (package_of j s) (c.components_can_be_written.ensures.writable j.list.now j.files.now j
    (package_of j s) laid c.in_ok-cap.ensures.unbroken))

pub write-requires-clause-methods : goal.write-requires-clause-methods
write-requires-clause-methods c =
    let j = c.in_ok-judged.judged in
    let s = c.in_ok-shaped.shaped in
    let read = subst IsRead (sym c.in_ok-judged.ensures.list) c.requires.read in
    let sound = breaks_nothing c.args.list.now c.args.files.now j c.requires.read c.are_bytes.ensures c.requires.files
    c.in_ok-judged.ensures.list c.in_ok-judged.ensures.files c.in_ok-judged.ensures.judged in
    let laid = laid_out j s c.in_ok-shaped.ensures.shaped read (c.aids_are_short.ensures j.list.now read) sound in
    let shaped = c.in_ok-shaped.ensures.shaped in
    subst (λ (t : CapTree). length (part method_bytes t.method) ≤ 65535)
    (sym (c.in_ok-cap.ensures.made shaped.is_package.tables shaped.by_mode))
    (c.components_can_be_written.ensures.method j.list.now j.files.now j (package_of j s) laid
    c.in_ok-cap.ensures.unbroken)

pub write-requires-2 : goal.write-requires-2
write-requires-2 c =
    let j = c.in_ok-judged.judged in
    let s = c.in_ok-shaped.shaped in
    let read = subst IsRead (sym c.in_ok-judged.ensures.list) c.requires.read in
    let sound = breaks_nothing c.args.list.now c.args.files.now j c.requires.read c.are_bytes.ensures c.requires.files
    c.in_ok-judged.ensures.list c.in_ok-judged.ensures.files c.in_ok-judged.ensures.judged in
    let laid = laid_out j s c.in_ok-shaped.ensures.shaped read (c.aids_are_short.ensures j.list.now read) sound in
    let shaped = c.in_ok-shaped.ensures.shaped in
    subst exports.IsWritable (sym shaped.by_export) (c.export_files_can_be_written.ensures j.list.now j.files.now j
    (package_of j s) laid)

pub returns-in_err-judged-clause-refused : goal.returns-in_err-judged-clause-refused
returns-in_err-judged-clause-refused c =
    let e = err_from_is_err_and c.from_residual.result c.from_residual.ensures.1 in
    rw (e.1, e.2) (stopped_by_files c.args.list.now c.args.files.now _ c.in_err-judged.ensures.refused)

pub returns-in_err-shaped-clause-refused : goal.returns-in_err-shaped-clause-refused
returns-in_err-shaped-clause-refused c =
    let e = err_from_is_err_and c.from_residual-in_err-shaped.result c.from_residual-in_err-shaped.ensures.1 in
    rw (e.1, e.2) (moved (λ l fs. Stopped l fs c.in_err-shaped.field-0.0) _ _ _ _ c.in_ok-judged.ensures.list
    c.in_ok-judged.ensures.files c.in_err-shaped.ensures.refused)

pub returns-in_err-cap-clause-refused : goal.returns-in_err-cap-clause-refused
returns-in_err-cap-clause-refused c =
    let j = c.in_ok-judged.judged in
    let s = c.in_ok-shaped.shaped in
    let sound = breaks_nothing c.args.list.now c.args.files.now j c.requires.read c.are_bytes.ensures c.requires.files
    c.in_ok-judged.ensures.list c.in_ok-judged.ensures.files c.in_ok-judged.ensures.judged in
    let e = err_from_is_err_and c.from_residual-in_err-cap.result c.from_residual-in_err-cap.ensures.1 in
    rw (e.1, e.2) (moved (λ l fs. Stopped l fs c.in_err-cap.field-0.0) _ _ _ _ c.in_ok-judged.ensures.list
    c.in_ok-judged.ensures.files (by_sizes j s sound c.in_ok-shaped.ensures.shaped c.in_err-cap.field-0.0
    c.in_err-cap.ensures.refused))

pub returns-in_err-caps-clause-refused : goal.returns-in_err-caps-clause-refused
returns-in_err-caps-clause-refused c =
    let p = package_of c.in_ok-judged.judged c.in_ok-shaped.shaped in
    let shaped = c.in_ok-shaped.ensures.shaped in
    let t = shaped.is_package.tables in
    let none : limit_of c.in_ok-cap.cap ≡ None = ap limit_of (c.in_ok-cap.ensures.made t shaped.by_mode)
    ∙ same_limit t p ∙ c.components_can_be_written.ensures.limits p c.in_ok-cap.ensures.unbroken in
    let e = err_from_is_err_and c.from_residual-in_err-caps.result c.from_residual-in_err-caps.ensures.1 in
    rw (e.1, e.2) (inl (only_memory _ _ _ none c.in_err-caps.ensures.refused))

pub returns-clause-converted : goal.returns-clause-converted
returns-clause-converted c =
    let j = c.in_ok-judged.judged in
    let s = c.in_ok-shaped.shaped in
    let sound = breaks_nothing c.args.list.now c.args.files.now j c.requires.read c.are_bytes.ensures c.requires.files
    c.in_ok-judged.ensures.list c.in_ok-judged.ensures.files c.in_ok-judged.ensures.judged in
    let shaped = c.in_ok-shaped.ensures.shaped in
    let same = c.in_ok-cap.ensures.made shaped.is_package.tables shaped.by_mode in
    let made : Converted = record { caps = c.in_ok-caps.caps; export = c.in_ok-export.export } in
    moved (λ l fs. IsConvertedByModes l fs made) _ _ _ _ c.in_ok-judged.ensures.list c.in_ok-judged.ensures.files
    (converted j s sound shaped c.in_ok-cap.ensures.unbroken made (c.in_ok-caps.ensures.files ∙ ap files_of same)
    (subst (λ (t : CapTree). IsSpelt t c.in_ok-caps.caps) same c.in_ok-caps.ensures.spelt)
    c.in_ok-export.ensures.written c.in_ok-export.ensures.spelt)
