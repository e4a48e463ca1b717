use Rattle.std.proofs.Common.{◌≡◌, drop}
use Rattle.cjc_subset.specs.Exports.{export_file_from, export_file_of}
use Rattle.cjc_subset.proofs.exports.export_file_of.Given as goal

abbrev pub invariant-loop-index : goal.invariant-loop-index
invariant-loop-index l = export_file_from l.index (drop l.index l.lines) l.left ≡ export_file_of l.lines l.number
