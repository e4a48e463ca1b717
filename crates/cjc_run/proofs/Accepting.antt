-- Over what a conversion wrote `verify` reads all and breaks no rule.
use Rattle.std.proofs.Common.{◌≡◌, ◌⊎◌, ℕ, refl, sym, ap, ◌∙◌, arith, true, false, cond, List}
use Rattle.std.proofs.Common.{[], length, map, Option, Some, None, Result, Ok, Err, IfSome, nat_lt}
use Rattle.std.proofs.lemmas.Bool.{ltb-false}
use Rattle.std.specs.FinMap.{get}
use Rattle.cjc_accepted_files.specs.CmdCheck.Folder.Reads.{plan_of_parts}
use Rattle.cjc_accepted_files.specs.Folder.{input_of, parts_of}
use Rattle.cjc_cmd_compat.proofs.ListDecided.{listed_spelt}
use Rattle.cjc_cmd_compat.specs.List.Listed.{ListTree, listed}
use Rattle.cjc_cmd_make.specs.CmdConvert.Conversion.Conversion.{Conversion, ExportsAreFair, IsConverted}
use Rattle.cjc_cmd_make.specs.CmdConvert.Publication.{below, files_made}
use Rattle.cjc_cmd_verify.proofs.CmdJvmGathers.{is_read}
use Rattle.cjc_cmd_verify.specs.CmdCard.Report.Runs as by_token
use Rattle.cjc_cmd_verify.specs.CmdCard.Running.Package.{plan_behind_files, plan_behind_list, plan_behind_text}
use Rattle.cjc_cmd_verify.specs.CmdCard.Running.Package.{plan_of_input}
use Rattle.cjc_cmd_verify.specs.CmdCard.declared.running.input.Input.{Input}
use Rattle.cjc_cmd_verify.specs.Judge.Rules.{on_first, on_second}
use Rattle.cjc_cmd_verify.specs.Judge.Spelt.{FileTree, IsRead, SpellTrees, exports_of}
use Rattle.cjc_cmd_verify.specs.Verify.{AnyBreaks, BreaksTyping, Verifies, plan_of_verify}
use Rattle.cjc_run.proofs.Got.{same_complete}
use Rattle.cjc_run.specs.Command.{command_of}
use Rattle.cjc_run.specs.Convert.{names_of, plan_of_convert, plan_of_files, plan_of_list}
use Rattle.cjc_run.specs.Request.{Request, verify}
use Rattle.cjc_run.specs.Written.{Accepts, AreWritten}
use Rattle.cjc_shelf.proofs.CommandLaws.Acting.{is_complete}
use Rattle.cjc_shelf.proofs.CommandLaws.Gathering.{on_complete, verdict-then}
use Rattle.cjc_shelf.specs.Bytes.Breaks.{Break}
use Rattle.cjc_shelf.specs.Bytes.declared.fault.Refusal.{Refusal}
use Rattle.cjc_shelf.specs.Command.Answer.{Acts}
use Rattle.cjc_shelf.specs.Command.Plan.{Verdict, ◌>>=◌, absent, at_file, complete, has, read_each, refused, too_long}
use Rattle.cjc_shelf.specs.Command.Plan.{known_end, unless_refused, verdict}
use Rattle.cjc_shelf.specs.Command.Publish.{Stand}
use Rattle.cjc_shelf.specs.Shelf.{Files, Shelved, longest_file}
use Rattle.cjc_shelf.specs.Sink.{Sunk}
use Rattle.cjc_shelf.specs.declared.command.status.Status.{Status}
use Rattle.cjc_shelf.specs.declared.command.status.Status.TheVariants as status

-- ---- what is read

-- a file that is read has a length that is read
pub record Got {X : Type 0} (o : Option (List ℕ)) (next : List ℕ → Verdict X) (x : X) : Type 0 where
  pub bytes : List ℕ
  pub there : o ≡ Some bytes
  pub short : nat_lt longest_file (length bytes) ≡ false
  pub then : next bytes ≡ complete x

pub got : {X : Type 0} (name : List ℕ) (next : List ℕ → Verdict X) (o : Option (List ℕ)) (x : X)
    → at_file name next o ≡ complete x → Got o next x
got name next None x e = absurd cc
got {X} name next (Some bytes) x e = by (nat_lt longest_file (length bytes)) refl e
  where
    by : (b : _) → nat_lt longest_file (length bytes) ≡ b → cond b (too_long name) (next bytes) ≡ complete x
        → Got (Some bytes) next x
    by true is h = absurd cc
    by false is h = record { bytes = bytes; there = refl; short = is; then = h }

-- reads that are complete go on with what they read
pub goes_on : {X Y : Type 0} (v : Verdict X) (f : X → Verdict Y) (x : X) → v ≡ complete x → on_complete v f ≡ f x
goes_on v f x e = ap (λ w. on_complete w f) e

pub done : {X Y : Type 0} (v : Verdict X) (f : X → Verdict Y) (y : Y) → on_complete v f ≡ complete y → (x : X)
    × (v ≡ complete x) × (f x ≡ complete y)
done (absent name) f y e = absurd cc
done (too_long name) f y e = absurd cc
done (refused r) f y e = absurd cc
done (complete x) f y e = (x, refl, e)

module _ (files : Files) (dir : List ℕ) (x : ListTree × List (List ℕ)) where
  -- what stands behind the files of the list
  abbrev rest : Verdict Input
  rest = verdict files (plan_behind_files dir x.0 x.1)

  files_read : (list : ListTree) → verdict files (plan_of_files list) ≡ complete x
      → (x.0 ≡ list) × (verdict files (plan_behind_list dir list) ≡ rest)
  files_read list e =
      let d = done (verdict files (read_each (names_of list))) (λ all. verdict files (has (list, all))) x
      (sym (verdict-then files (read_each (names_of list)) (λ all. has (list, all))) ∙ e) in
      let same : (list, d.0) ≡ x = same_complete (list, d.0) x d.2 in
      let next : List (List ℕ) → Verdict Input = λ all. verdict files (plan_behind_files dir list all) in (
        sym (ap (λ (y : ListTree × List (List ℕ)). y.0) same),
        verdict-then files (read_each (names_of list)) (plan_behind_files dir list)
            ∙ goes_on (verdict files (read_each (names_of list))) next d.0 d.1
            ∙ ap (λ (y : ListTree × List (List ℕ)). verdict files (plan_behind_files dir y.0 y.1)) same,
      )

  list_read : (r : Result ListTree Refusal) → verdict files (unless_refused r >>= plan_of_files) ≡ complete x
      → (r ≡ Ok x.0) × (verdict files (unless_refused r >>= plan_behind_list dir) ≡ rest)
  list_read (Err r) e = absurd cc
  list_read (Ok list) e = let h = files_read list e in (ap (λ (l : ListTree). Ok l) (sym h.0), h.1)

  pub text_read : (name : List ℕ) → verdict files (plan_of_convert name) ≡ complete x
      → IsRead x.0 × (verdict files (plan_of_input name dir) ≡ rest)
  text_read name e =
      let g = got name (λ text. verdict files (plan_of_list name text)) (get files name) x e in
      let h = list_read (listed name g.bytes) g.then in
      let le = ltb-false longest_file (length g.bytes) g.short in (
        is_read name g.bytes x.0 (omega (arith, le)) (listed_spelt name g.bytes x.0 h.0),
        ap (at_file name (λ text. verdict files (plan_behind_text name dir text))) g.there
            ∙ ap (λ b. cond b (too_long name) (verdict files (plan_behind_text name dir g.bytes))) g.short ∙ h.1,
      )

-- ---- what is answered

-- of a conversion
abbrev pub OfConversions : (ListTree → List (List ℕ) → Conversion → Type 0) → Type 0
OfConversions Holds =
    (list : ListTree) (inputs : List (List ℕ)) (made : Conversion) → IsRead list → IsConverted list inputs made
    → Holds list inputs made

-- whose export files are fair
abbrev OverFair : (ListTree → List (List ℕ) → Conversion → Type 0) → ListTree → List (List ℕ) → Conversion → Type 0
OverFair Holds list inputs made =
    (trees : List FileTree) → SpellTrees list.lines inputs trees → ExportsAreFair (exports_of trees)
    → Holds list inputs made

-- its components are read where they stand
abbrev pub AreReadBack : ListTree → List (List ℕ) → Conversion → Type 0
AreReadBack list inputs made =
    (told : Files) (dir name export : List ℕ) → Stand told (map (below dir) (files_made name made.caps export))
    → verdict told (plan_of_parts dir) ≡ complete (parts_of made.caps)

-- they break no rule that is tested before they are run
abbrev BreakNothing : ListTree → List (List ℕ) → Conversion → Type 0
BreakNothing list inputs made = (b : Break) → by_token.AnyBreaks (input_of list inputs made.caps) [] b → ⊥

-- nor one of the type checker's
abbrev AreAccepted : ListTree → List (List ℕ) → Conversion → Type 0
AreAccepted list inputs made = (b : Break) → BreaksTyping (input_of list inputs made.caps) b → ⊥

-- what is read of a list, its files and the folder in which a conversion of them stands
module _ (back : OfConversions AreReadBack) (name dir : List ℕ) (files : Files) (is : AreWritten name dir files) where
  abbrev pub input : Input
  input = let made = is.made in input_of is.list is.inputs made.caps

  pub list_is_read : IsRead is.list
  list_is_read = (text_read files dir (is.list, is.inputs) name is.read).0

  parts_read : verdict files (plan_behind_files dir is.list is.inputs) ≡ complete input
  parts_read =
      verdict-then files (plan_of_parts dir) (λ parts. has (record {
        list = is.list;
        files = is.inputs;
        parts = parts;
        script = [];
      })) ∙ goes_on (verdict files (plan_of_parts dir)) (λ parts. complete (record {
        list = is.list;
        files = is.inputs;
        parts = parts;
        script = [];
      })) (let made = is.made in parts_of made.caps) (back is.list is.inputs is.made list_is_read is.converted files dir
      (let list = is.list in list.package) (let made = is.made in made.export) is.stand)

  pub input_read : verdict files (plan_of_input name dir) ≡ complete input
  input_read = (text_read files dir (is.list, is.inputs) name is.read).1 ∙ parts_read

module _ (back : OfConversions AreReadBack) (fine : OfConversions (OverFair BreakNothing))
    (accepted : OfConversions (OverFair AreAccepted))
    (name dir : List ℕ) (files : Files) (is : AreWritten name dir files) where
  abbrev given : Input
  given = input back name dir files is

  all_read : verdict files (plan_of_verify name dir) ≡ complete given
  all_read =
      verdict-then files (plan_of_input name dir) (λ i. has i)
      ∙ goes_on (verdict files (plan_of_input name dir)) (λ i. verdict files (has i)) given
      (input_read back name dir files is)

  no_break : (b : Break) → AnyBreaks given b → ⊥
  no_break b (on_first x) = fine is.list is.inputs is.made (list_is_read back name dir files is) is.converted is.trees
      is.spell is.fair b x
  no_break b (on_second before p) = accepted is.list is.inputs is.made (list_is_read back name dir files is)
      is.converted is.trees is.spell is.fair b p

  never_refused : (r : Refusal) → Verifies given (Err r) → ⊥
  never_refused r f = no_break f.broken f.first.breaks

-- where the end of what `verify` reads is known, and what it reads breaks no rule, it is done
abbrev EndsDone : (name dir : List ℕ) → Status → Option Files → Type 0
EndsDone name dir answer told =
    IfSome (known_end told (plan_of_verify name dir)) (λ end. (inputs : Input) → end ≡ complete inputs
    → ((r : Refusal) → Verifies inputs (Err r) → ⊥) → (answer ≡ status.NoMemory) ⊎ (answer ≡ status.Done))

module _ (back : OfConversions AreReadBack) (fine : OfConversions (OverFair BreakNothing))
    (accepted : OfConversions (OverFair AreAccepted))
  where
    verified : (name dir : List ℕ) (answer : Status) (told : Option Files) → EndsDone name dir answer told
        → IfSome told (λ files. AreWritten name dir files → (answer ≡ status.NoMemory) ⊎ (answer ≡ status.Done))
    verified name dir answer None ends = tt
    verified name dir answer (Some files) ends =
        λ written. ends (given back fine accepted name dir files written) (all_read back fine accepted name dir files
        written) (never_refused back fine accepted name dir files written)

    pub accepts : (r : Request) (old new : Shelved) (from to : Sunk) (answer : Status)
        → Acts (command_of r) old new from to answer → Accepts r old new from to answer
    accepts (verify name dir) old new from to answer acts =
        λ quiet silent. verified name dir answer old.files (is_complete (command_of (verify name dir)) old new from to
        answer acts quiet silent)
    accepts other old new from to answer acts = tt
