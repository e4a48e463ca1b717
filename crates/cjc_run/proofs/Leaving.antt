-- What a conversion that is done leaves: the files that it wrote stand in its folder.
use Rattle.std.proofs.Common.{◌≡◌, ℕ, sym, ap, subst, ◌∙◌, List, map, Option, Some, None, IfSome, IsSomeAnd}
use Rattle.cjc_cmd_compat.specs.List.Listed.{ListTree}
use Rattle.cjc_cmd_make.specs.CmdConvert.Conversion.Conversion.{ExportsAreFair}
use Rattle.cjc_cmd_make.specs.CmdConvert.Publication.{below, files_made}
use Rattle.cjc_cmd_verify.specs.Judge.Spelt.{FileTree, SpellTrees, exports_of}
use Rattle.cjc_run.proofs.Got.{same_complete}
use Rattle.cjc_run.proofs.Standing.{stand_made}
use Rattle.cjc_run.specs.Command.{command_of}
use Rattle.cjc_run.specs.Convert.{plan_of_convert}
use Rattle.cjc_run.specs.Request.{convert}
use Rattle.cjc_run.specs.Written.{AreWritten}
use Rattle.cjc_shelf.specs.Command.Answer.{Acts, IsReady}
use Rattle.cjc_shelf.specs.Command.Plan.{complete, verdict}
use Rattle.cjc_shelf.specs.Command.Publish.{IsWritten, Stand, written_files}
use Rattle.cjc_shelf.specs.Shelf.{Files, Shelved}
use Rattle.cjc_shelf.specs.Sink.{Sunk}
use Rattle.cjc_shelf.specs.declared.command.status.File.{File}
use Rattle.cjc_shelf.specs.declared.command.status.Status.TheVariants as status
use Rattle.cjc_shelf.specs.declared.command.status.Todo.{Todo}

-- The files after a conversion of the list of this name, and of what was read then, are those from which it was made.
abbrev IsLeft : (name dir : List ℕ) (before after : Files) → Type 0
IsLeft name dir before after =
    (list : ListTree) (inputs : List (List ℕ)) → verdict before (plan_of_convert name) ≡ complete (list, inputs)
    → verdict after (plan_of_convert name) ≡ complete (list, inputs) → (trees : List FileTree)
    → SpellTrees list.lines inputs trees → ExportsAreFair (exports_of trees) → AreWritten name dir after

left : (name dir : List ℕ) (files : Files) (new : Shelved) (todo : Todo)
    → IsReady (command_of (convert name dir)) (Some files) todo → IsWritten (Some files) todo new
    → IsSomeAnd new.files (IsLeft name dir files)
left name dir files new todo ready written =
    let x = ready.inputs in
    let made = ready.made.0 in
    let all : List File = map (below dir) (files_made x.0.package made.caps made.export) in
    let after : written_files todo.files files ≡ written_files all files =
    ap (λ (t : Todo). written_files t.files files) ready.made.3 in
    subst (λ (o : Option Files). IsSomeAnd o (IsLeft name dir files)) (sym written)
    (λ list inputs read again trees spell fair.
    let same : (list, inputs) ≡ x = same_complete (list, inputs) x (sym read ∙ ready.read) in
    record {
      list = x.0;
      inputs = x.1;
      read = again ∙ ap (λ (y : ListTree × List (List ℕ)). complete y) same;
      made = made;
      converted = ready.made.1;
      stand = subst (λ (fs : Files). Stand fs all) (sym after) (stand_made dir x.0.package files made.caps made.export);
      trees = trees;
      spell = subst (λ (y : ListTree × List (List ℕ)). SpellTrees y.0.lines y.1 trees) same spell;
      fair = fair;
    })

told_left : (name dir : List ℕ) (told : Option Files) (new : Shelved) (todo : Todo)
    → IsReady (command_of (convert name dir)) told todo → IsWritten told todo new
    → IfSome told (λ before. IsSomeAnd new.files (IsLeft name dir before))
told_left name dir None new todo ready written = tt
told_left name dir (Some files) new todo ready written = left name dir files new todo ready written

pub left_written : (name dir : List ℕ) (old new : Shelved) (from to : Sunk)
    → Acts (command_of (convert name dir)) old new from to status.Done
    → IfSome old.files (λ before. IsSomeAnd new.files (IsLeft name dir before))
left_written name dir old new from to acts = let t = acts.answers in told_left name dir old.files new t.0 t.1 t.2
