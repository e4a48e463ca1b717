use Rattle.std.proofs.Common.{◌≡◌, ◌≤◌, ◌<◌, ℕ, ◌+◌, ◌++◌, drop, length, map}
use Rattle.std.specs.Prelude.{slice_get, Some}
use Rattle.cjc_world.specs.declared.found.Found.{Found}
use Rattle.cjc_world.specs.Lookup.{member_at}
use Rattle.cjc_world.specs.Working.Known.{class_of}
use Rattle.cjc_components.specs.Exports.{open_methods}
use Rattle.cjc_exported.proofs.export_file.component.headers_by_token.Given as goal

abbrev pub invariant-loop-place : goal.invariant-loop-place
invariant-loop-place l = (h : Found → ℕ) → ((k : ℕ) → length (class_of l.class).fields ≤ k
    → k < length (class_of l.class).fields + length (class_of l.class).methods
    → slice_get l.row k ≡ Some (h (member_at (class_of l.class) k)))
    → l.headers ++ map h (open_methods (class_of l.class) (length (class_of l.class).fields + l.place)
    (drop l.place (class_of l.class).methods))
    ≡ map h (open_methods (class_of l.class) (length (class_of l.class).fields) (class_of l.class).methods)
