-- When two reports show the same, and when notes begin with others.
use Rattle.std.specs.Prelude.{◌≡◌, List, ◌++◌}
use Rattle.cjc_script.specs.declared.report.Note.{Note}
use Rattle.cjc_script.specs.declared.report.Report.{Report}

-- Two reports show the same run: notes, static cells, heap and outcome. How much was spent may differ.
pub record Agree (left right : Report) : Type 0 where
  pub notes : left.notes ≡ right.notes
  pub statics : left.statics ≡ right.statics
  pub heap : left.heap ≡ right.heap
  pub outcome : left.outcome ≡ right.outcome

-- The second list of notes begins with the first.
abbrev pub IsBegun : List Note → List Note → Type 0
IsBegun notes more = (rest : List Note) × (more ≡ notes ++ rest)
