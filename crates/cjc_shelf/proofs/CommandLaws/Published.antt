-- What writing and printing give together, and what stands after files are written.
use Rattle.std.proofs.Common.{◌≡◌, ℕ, ◌<◌, false, cond, List, [], ◌∷◌, length, Some, IfSome, Err}
use Rattle.std.proofs.Common.{refl, ap, ◌∙◌, arith}
use Rattle.std.specs.Prelude.{bytes_eq}
use Rattle.std.specs.FinMap.{get, insert, get-insert}
use Rattle.std.proofs.lemmas.Cmp.{nat_list_cmp_total}
use Rattle.std.proofs.lemmas.Map.Text.{is_eq-slice_cmp}
use Rattle.cjc_shelf.specs.Shelf.{Files, Shelved, GoesOn}
use Rattle.cjc_shelf.specs.Sink.{Sunk}
use Rattle.cjc_shelf.specs.declared.shelf.WriteEnd.{WriteEnd}
use Rattle.cjc_shelf.specs.declared.shelf.WriteEnd.TheVariants as write
use Rattle.cjc_shelf.specs.Command.Publish.{written_files, EndCause, EndTold, WritesAll, Publishes, status_of, IsNew}
use Rattle.cjc_shelf.specs.Command.Publish.{AreDistinct, Stand}
use Rattle.cjc_shelf.specs.declared.command.publishing.Stop.{Stop}
use Rattle.cjc_shelf.specs.declared.command.status.File.{File}
use Rattle.cjc_shelf.specs.declared.command.status.Todo.{Todo}
use Rattle.cjc_bytes.proofs.Lists.{name_is}

-- ---- how publishing ends

stops : (todo : Todo) (old new : Shelved) (from : Sunk) (at : ℕ) (end : WriteEnd) → GoesOn old new
    → at < length todo.files → EndCause old new end
    → IfSome old.files (λ files. EndTold todo.files files new at end)
    → Publishes todo old new from from (status_of todo.files at end)
stops todo old new from at write.Failed g within cause told = record {
  goes_on = g;
  sink_goes_on = omega arith;
  cause = cause;
  quiet = refl;
  ends = record { count = at; within = within; named = refl; written = told };
}
stops todo old new from at write.NoMemory g within cause told = record {
  goes_on = g;
  sink_goes_on = omega arith;
  cause = cause;
  quiet = refl;
  ends = record { count = at; within = within; written = told };
}

-- a write stopped all
pub publishes_stop : (todo : Todo) (old new : Shelved) (from : Sunk) (stop : Stop)
    → WritesAll {T = Unit {0}} todo.files old new (Err stop)
    → Publishes todo old new from from (status_of todo.files stop.at stop.end)
publishes_stop todo old new from stop w = stops todo old new from stop.at stop.end w.goes_on w.within w.cause w.told

-- ---- what stands after the writes

after_own : (files : Files) (name bytes : List ℕ) → get (insert files name bytes) name ≡ Some bytes
after_own files name bytes = get-insert nat_list_cmp_total files name bytes name
    ∙ ap (λ b. cond b (Some bytes) (get files name)) (is_eq-slice_cmp name name ∙ name_is name)

after_other : (files : Files) (name bytes other : List ℕ) → bytes_eq other name ≡ false
    → get (insert files name bytes) other ≡ get files other
after_other files name bytes other n = get-insert nat_list_cmp_total files name bytes other
    ∙ ap (λ b. cond b (Some bytes) (get files other)) (is_eq-slice_cmp other name ∙ n)

after_others : (written : List File) (files : Files) (name bytes : List ℕ) → IsNew name written
    → get files name ≡ Some bytes → get (written_files written files) name ≡ Some bytes
after_others [] files name bytes n e = e
after_others (file ∷ written) files name bytes n e = after_others written (insert files file.name file.bytes) name bytes
    n.1 (after_other files file.name file.bytes name n.0 ∙ e)

-- files that are written under names of their own all stand
pub written_stand : (written : List File) (files : Files) → AreDistinct written
    → Stand (written_files written files) written
written_stand [] files d = tt
written_stand (file ∷ written) files d = (
  after_others written (insert files file.name file.bytes) file.name file.bytes d.0 (after_own files file.name
      file.bytes),
  written_stand written (insert files file.name file.bytes) d.1,
)
