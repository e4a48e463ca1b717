-- Components that run without end or to an end, and are never stuck.
use Rattle.std.specs.Prelude.{◌≡◌, ℕ, Bool}
use Rattle.cjc_verified_proof.specs.CardSemantics.Machine.ByToken.{run}
use Rattle.cjc_verified_proof.specs.CheckRules.Complete.{Complete}
use Rattle.cjc_verified_proof.specs.Components.Paired.Naming.{loaded_of}
use Rattle.cjc_verified_proof.specs.Script.declared.report.Outcome.TheVariants.{Stuck}
use Rattle.cjc_verified_proof.specs.Script.declared.script.Script.{Script}
use Rattle.cjc_verified_proof.specs.World.Files.{Files}
use Rattle.cjc_verified_proof.specs.World.declared.image.StaticImage.{StaticImage}

-- No run by token of a package's components is stuck, for any script and any number of instructions.
abbrev pub IsNeverStuck : (applets : Bool) → Files → StaticImage → Complete → Type 0
IsNeverStuck applets files image c = (script : Script) (n at : ℕ) → (let r = run
    (loaded_of applets files image c) script n
    in r.outcome) ≡ Stuck at → ⊥
