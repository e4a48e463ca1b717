use Rattle.std.proofs.Common.{◌≡◌, ℕ, ◌++◌, drop, map}
use Rattle.std.specs.Prelude.{filter}
use Rattle.cjc_world.specs.ClassFile.declared.tree.FieldTree.{FieldTree}
use Rattle.cjc_components.specs.LowerTokens.Fields.{is_open_static}
use Rattle.cjc_exported.proofs.export_file.component.cells_by_token.Given as goal

abbrev pub invariant-loop-place : goal.invariant-loop-place
invariant-loop-place l = (g : FieldTree → ℕ) → l.row ≡ map g l.fields → l.cells
    ++ map g (filter is_open_static (drop l.place l.fields)) ≡ map g (filter is_open_static l.fields)
