-- The program of a package that is checked, with the code of its methods.
use Rattle.std.proofs.Common.{◌≡◌, ℕ, Bool, not, [], length, Some, sym, ap, subst, ◌∙◌}
use Rattle.std.specs.Prelude.{nat_lt, None, Contains}
use Rattle.cjc_check_rules.specs.Described.{all_starts, classes_in_order}
use Rattle.cjc_bytes.specs.declared.fault.MemberId.{MemberId}
use Rattle.cjc_card_semantics.specs.Script.declared.script.Script.{Script}
use Rattle.cjc_card_semantics.specs.Script.declared.report.Outcome.TheVariants.{Stuck}
use Rattle.cjc_card_semantics.specs.Bytecode.Machine.{Start}
use Rattle.cjc_card_semantics.specs.Machine.ByToken.{run}
use Rattle.cjc_card_semantics.specs.Machine.Calls.{called}
use Rattle.cjc_card_semantics.specs.Machine.Classes.{External}
use Rattle.cjc_card_semantics.specs.Machine.Loaded.{Loaded}
use Rattle.cjc_card_semantics.specs.Machine.Methods.{Code}
use Rattle.cjc_card_semantics.specs.Machine.Statics.{first_memory}
use Rattle.cjc_components.specs.Package.{Package, world}
use Rattle.cjc_token_proof.specs.WrittenSends.Named.{FaultsAreClasses}
use Rattle.cjc_verify.specs.Pairs.{Pair}
use Rattle.cjc_verify_proof.specs.Frames.{AreMethods, Program, Typing}
use Rattle.cjc_verify_proof.specs.Memories.{AreDeclared, IsMemory}
use Rattle.cjc_verify_proof.specs.Runs.{AreSuited, IsEntry, IsProgram}
use Rattle.cjc_verify_proof.specs.Scripts.{HasExceptions}
use Rattle.cjc_verify_proof.specs.Turns.{AreMade}
use Rattle.cjc_verified_proof.specs.Checked.{Checked, HasCode, IsChecked, pair}
use Rattle.cjc_verified_proof.specs.Programs.{CallsReach, IsProgramOf}
use Rattle.cjc_verified_proof.specs.Selecting.{DispatchFits}
use Rattle.cjc_verified_proof.specs.Suited.{AreStanding, HaveCode, HaveSorts}
use Rattle.cjc_verify_proof.proofs.RunLaws.{never_stuck}
use Rattle.cjc_verified_proof.proofs.CheckedLaws as checked
use Rattle.cjc_verified_proof.proofs.DispatchSuits.{all_calls}
use Rattle.cjc_verified_proof.proofs.OrderedLaws.{ordered as in_order}
use Rattle.cjc_verified_proof.proofs.ProgramLaws as programs
use Rattle.cjc_verified_proof.proofs.ReachLaws as reaches
use Rattle.cjc_verified_proof.proofs.StandingLaws as standing
use Rattle.cjc_verified_proof.proofs.ThrownLaws as thrown

module _ (c : Checked) (ok : IsChecked c) (has : HasCode c) where
  abbrev p : Pair
  p = pair c

  abbrev l : Loaded
  l = p.loaded

  abbrev applets : Bool
  applets = let t = c.list in nat_lt 0 (length t.applets)

  abbrev q : Package
  q = record { list = c.list; files = c.files; image = c.image; methods = [] }

  -- the order of the classes of Descriptor
  abbrev ordered : (let q = c.components in let d = q.descriptor in classes_in_order d.classes (all_starts q.class))
      ≡ []
  ordered = in_order c.components ok.described

  -- descriptors of methods
  pub sorts : HaveSorts p
  sorts = standing.sorts_said applets c.files c.image c.components has.whole has.jumps ordered ok.paired ok.verified
      has.refs has.counted

  -- there is a program
  pub program_there : (program : Program) × IsProgramOf p program
  program_there =
      let t = thrown.throwable_there c.name c.list c.files c.image c.components ok.sound in
      (standing.program_of p t.0, standing.program_is p t.0 t.1)

  module _ (program : Program) (of : IsProgramOf p program) where
    pub stand : AreStanding p program
    stand = standing.are_standing applets c.files c.image c.components has.whole has.jumps ordered ok.paired ok.verified
        has.refs has.counted program of

    pub typed : AreMethods l program
    typed = programs.are_methods applets c.name c.files c.image c.components ok.sound ok.typed ok.descs ok.static_ones
        ok.verified (checked.counts c ok) has.refs has.whole has.jumps has.handlers has.indices has.class_refs program
        of

    first_made : (let first = first_memory l in AreMade program first.heap)
    first_made = programs.first_made applets c.name c.files c.image c.components ok.sound ok.typed ok.descs
        ok.static_ones
        ok.verified (checked.counts c ok) has.refs has.whole has.jumps has.handlers has.indices has.class_refs program
        of

    pub suited : DispatchFits p program → (t : Typing) → Contains program.methods t → AreSuited l program t
    suited fits = programs.are_suited applets c.name c.files c.image c.components ok.sound ok.typed ok.descs
        ok.static_ones ok.verified (checked.counts c ok) has.refs has.whole has.jumps has.handlers has.indices
        has.class_refs program of (all_calls applets c.files c.image c.components program ok.verified
        (checked.counts c ok) has.written has.pool stand sorts has.refs fits)

    pub exceptions : FaultsAreClasses (world q) → HasExceptions l program.exceptions
    exceptions plain = thrown.exceptions_there c.name c.list c.files c.image c.components ok.sound (checked.supers c ok)
        plain ordered has.refs has.counted program.exceptions of.exceptions

    -- entries of scripts that name a static method
    pub calls : HaveCode p → (id : MemberId) (m : Start Code) → called l id ≡ Some m → IsEntry l program None id.desc m
    calls codes = reaches.calls applets c.files c.image c.components has.whole ordered ok.paired ok.verified has.jumps
        has.refs has.counted program of codes

    -- the program of a package whose calls reach its methods
    pub is_program : FaultsAreClasses (world q) → HaveCode p → CallsReach p program → IsProgram l program
    is_program plain codes reach = record {
      methods = typed;
      suited = suited reach.fits;
      has = exceptions plain;
      calls = calls codes;
      sends = reach.sends;
      supers = checked.supers c ok;
      declared = subst (AreDeclared l) (sym of.fields) (checked.declared c ok);
      memory = subst (λ fields. IsMemory l fields (first_memory l)) (sym of.fields) (checked.memory_first c ok);
      imported = λ tree token plain. (ap (λ made. made (External tree token)) of.made ∙ ap not plain);
      made = first_made;
    }

    -- no run of it is stuck
    pub goes : FaultsAreClasses (world q) → HaveCode p → CallsReach p program → (script : Script) (n at : ℕ)
        → (let r = run l script n in r.outcome) ≡ Stuck at → ⊥
    goes plain codes reach = never_stuck l program (is_program plain codes reach)
