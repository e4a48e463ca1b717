-- What `link` and `linkjvm` read of packages that `convert` wrote are these packages, and they behave alike.
use Rattle.std.proofs.Common.{◌≡◌, ℕ, suc, ◌<◌, ◌≤◌, false, refl, sym, ap, subst, ◌∙◌, arith, List, [], ◌∷◌, ◌++◌}
use Rattle.std.proofs.Common.{length, Option, Some, None, Result, Ok, IfSome}
use Rattle.std.proofs.lemmas.List.{append-nil, append_assoc}
use Rattle.std.specs.FinMap.{get}
use Rattle.std.specs.Prelude.{slice_get}
use Rattle.cjc_cmd_link.specs.LinkSemantics.Loaded.{Member}
use Rattle.cjc_cmd_link.specs.Reads.{member_behind, plan_behind_lines, plan_behind_members, plan_behind_text}
use Rattle.cjc_cmd_link.specs.Reads.{plan_of_group, plan_of_members}
use Rattle.cjc_cmd_link.specs.Runs.{IsReady, plan_of_link}
use Rattle.cjc_cmd_link.specs.declared.reads.GroupInput.{GroupInput}
use Rattle.cjc_cmd_verify.specs.CmdCard.Running.Package.{plan_of_input}
use Rattle.cjc_cmd_verify.specs.CmdCard.declared.running.input.Input.{Input}
use Rattle.cjc_cmd_verify.specs.ScriptText.Scripted.{ScriptTree}
use Rattle.cjc_joint_files.proofs.GroupDecided.{grouped_spelt}
use Rattle.cjc_joint_files.specs.Components.Package.{Package}
use Rattle.cjc_joint_files.specs.Fair.{AreFairTogether}
use Rattle.cjc_joint_files.specs.Group.Grouped.{grouped}
use Rattle.cjc_joint_files.specs.Group.declared.line.PackageLine.{PackageLine}
use Rattle.cjc_joint_files.specs.Ready.{AreReadOf, IsReadOf}
use Rattle.cjc_joint_files.specs.Reports.{RunsWritten}
use Rattle.cjc_run.proofs.Accepting.{AreReadBack, OfConversions, done, goes_on, got, input, input_read}
use Rattle.cjc_run.proofs.Got.{same_complete}
use Rattle.cjc_run.specs.Request.{Request, link, linkjvm}
use Rattle.cjc_run.specs.Together.{Agrees, AgreesOver, EachIsWritten, IsWrittenShort, packages_of}
use Rattle.cjc_shelf.proofs.CommandLaws.Gathering.{verdict-then}
use Rattle.cjc_shelf.specs.Bytes.declared.fault.Refusal.{Refusal}
use Rattle.cjc_shelf.specs.Command.Plan.{Verdict, ◌>>=◌, complete, for_each, has, unless_refused, verdict}
use Rattle.cjc_shelf.specs.Shelf.{Files, Shelved}

-- ---- what is read

module _ (back : OfConversions AreReadBack) (files : Files) where
  -- of a line
  abbrev input_at : (line : PackageLine) → IsWrittenShort line files → Input
  input_at line is = input back line.list line.folder files is.written

  -- of each
  abbrev pub inputs_of : (lines : List PackageLine) → EachIsWritten files lines → List Input
  inputs_of [] each = []
  inputs_of (line ∷ lines) each = input_at line each.0 ∷ inputs_of lines each.1

  one_read : (line : PackageLine) (is : IsWrittenShort line files) (front : List Input)
      → verdict files (member_behind front line) ≡ complete (front ++ input_at line is ∷ [])
  one_read line is front =
      let more : Input → Verdict (List Input) = λ member. complete (front ++ member ∷ []) in
      verdict-then files (plan_of_input line.list line.folder) (λ member. has (front ++ member ∷ []))
      ∙ goes_on (verdict files (plan_of_input line.list line.folder)) more (input_at line is)
      (input_read back line.list line.folder files is.written)

  all_read : (lines : List PackageLine) (each : EachIsWritten files lines) (front : List Input)
      → verdict files (for_each (λ xs. false) member_behind front lines) ≡ complete (front ++ inputs_of lines each)
  all_read [] each front = ap (λ (xs : List Input). complete xs) (sym (append-nil front))
  all_read (line ∷ lines) each front =
      let i = input_at line each.0 in
      let more : List Input → Verdict (List Input) =
      λ xs. verdict files (for_each (λ ys. false) member_behind xs lines) in
      verdict-then files (member_behind front line) (λ xs. for_each (λ ys. false) member_behind xs lines)
      ∙ goes_on (verdict files (member_behind front line)) more (front ++ i ∷ []) (one_read line each.0 front)
      ∙ all_read lines each.1 (front ++ i ∷ [])
      ∙ ap (λ (xs : List Input). complete xs) (append_assoc front (i ∷ []) (inputs_of lines each.1))

  module _ (script : List ℕ) (x : GroupInput) where
    behind_members : (members : List Input) → verdict files (plan_behind_members script members) ≡ complete x
        → x.members ≡ members
    behind_members members e =
        let g = got script (λ text. complete (record { members = members; script = text })) (get files script) x e in
        ap (λ (y : GroupInput). y.members)
        (sym (same_complete (record { members = members; script = g.bytes }) x g.then))

    behind_lines : (lines : List PackageLine) (each : EachIsWritten files lines)
        → verdict files (plan_behind_lines script lines) ≡ complete x → x.members ≡ inputs_of lines each
    behind_lines lines each e =
        let next : List Input → Verdict GroupInput = λ members. verdict files (plan_behind_members script members) in
        behind_members (inputs_of lines each) (sym (goes_on (verdict files (plan_of_members lines)) next
        (inputs_of lines each) (all_read lines each []))
        ∙ sym (verdict-then files (plan_of_members lines) (plan_behind_members script)) ∙ e)

    pub members_are : (name text : List ℕ) (lines : List PackageLine) → get files name ≡ Some text
        → grouped name text ≡ Ok lines → (each : EachIsWritten files lines)
        → verdict files (plan_of_link name script) ≡ complete x → x.members ≡ inputs_of lines each
    members_are name text lines there is each e =
        let d = done (verdict files (plan_of_group name script)) (λ y. verdict files (has y)) x
        (sym (verdict-then files (plan_of_group name script) (λ y. has y)) ∙ e) in
        let same : d.0 ≡ x = same_complete d.0 x d.2 in
        let g = got name (λ bytes. verdict files (plan_behind_text name script bytes)) (get files name) x
        (d.1 ∙ ap (λ (y : GroupInput). complete y) same) in
        let bytes : g.bytes ≡ text = (let both : Some g.bytes ≡ Some text = sym g.there ∙ there in cc) in
        behind_lines lines each (sym (ap (λ (r : Result (List PackageLine) Refusal). verdict files (unless_refused r
        >>= plan_behind_lines script)) (ap (grouped name) bytes ∙ is)) ∙ g.then)

-- ---- each is what was converted

-- what is so of a line's package
abbrev IsOne : Files → OfConversions AreReadBack → Type 0
IsOne files back = (line : PackageLine) (is : IsWrittenShort line files)
    → IsReadOf (input_at back files line is) (let w = is.written in let made = w.converted in made.whole)

module _ (back : OfConversions AreReadBack) (files : Files) (one : IsOne files back) where
  pub read_of : (lines : List PackageLine) (each : EachIsWritten files lines)
      → AreReadOf (inputs_of back files lines each) (packages_of files lines each)
  read_of [] each = tt
  read_of (line ∷ lines) each = (one line each.0, read_of lines each.1)

-- of some lines there is a first package
first_of : (files : Files) (lines : List PackageLine) (each : EachIsWritten files lines) → 0 < length lines
    → (p : Package) × (slice_get (packages_of files lines each) 0 ≡ Some p)
first_of files [] each some = absurd (omega (arith, some))
first_of files (line ∷ lines) each some =
    ((let x = each.0 in let w = x.written in let made = w.converted in made.whole), refl)

-- there are as many
as_many : (files : Files) (lines : List PackageLine) (each : EachIsWritten files lines)
    → length (packages_of files lines each) ≡ length lines
as_many files [] each = refl
as_many files (line ∷ lines) each = ap suc (as_many files lines each.1)

-- ---- all together

-- where nothing is refused of what was read, and that are packages that were converted, they behave alike
abbrev pub ReadyRun : Type 0
ReadyRun = (input : GroupInput) (name script : List ℕ) (group : List Member) (tree : ScriptTree)
    (packages : List Package) (first : Package) → slice_get packages 0 ≡ Some first
    → length packages ≤ 16 → IsReady input name script group tree → AreReadOf input.members packages
    → AreFairTogether packages → RunsWritten packages group

module _ (back : OfConversions AreReadBack) (one : (files : Files) → IsOne files back) (run : ReadyRun) where
  over : (name script : List ℕ) (files : Files) → AgreesOver name script files
  over name script files text lines there is each fair x group tree read ready =
      let packages = packages_of files lines each in
      let spelt = grouped_spelt name text lines is in
      let first = first_of files lines each spelt.some in
      let few = subst (λ (n : ℕ). n ≤ 16) (sym (as_many files lines each)) spelt.within in
      run x name script group tree packages first.0 first.1 few ready
      (subst (λ (inputs : List Input). AreReadOf inputs packages)
      (sym (members_are back files script x name text lines there is each read))
      (read_of back files (one files) lines each)) fair

  told : (name script : List ℕ) (o : Option Files) → IfSome o (AgreesOver name script)
  told name script None = tt
  told name script (Some files) = over name script files

  pub agrees : (r : Request) (old : Shelved) → Agrees r old
  agrees (link name script n) old = told name script old.files
  agrees (linkjvm name script n) old = told name script old.files
  agrees other old = tt
