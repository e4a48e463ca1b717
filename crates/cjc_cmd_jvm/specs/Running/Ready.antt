-- What runs of class files start from: a package that breaks no rule of the first three hundreds, and a script.
use Rattle.std.specs.Prelude.{◌≡◌, ℕ, List, [], ◌∷◌, Ok, Err}
use Rattle.cjc_shelf.specs.Bytes.Breaks.{Break}
use Rattle.cjc_shelf.specs.Bytes.Order.{file_number}
use Rattle.cjc_shelf.specs.Bytes.declared.fault.Refusal.{Refusal}
use Rattle.cjc_shelf.specs.Bytes.declared.order.FileKey.TheVariants as keys
use Rattle.cjc_judge.specs.Judged.{IsJudged}
use Rattle.cjc_judge.specs.Rules.{Breach}
use Rattle.cjc_judge.specs.declared.groups.Group.{Group}
use Rattle.cjc_judge.specs.declared.groups.Group.TheVariants as groups
use Rattle.cjc_script_text.specs.List.Listed.{ListTree}
use Rattle.cjc_script_text.specs.Scripted.{scripted}
use Rattle.cjc_cmd_jvm.specs.declared.running.ready.Ready.{Ready}

-- what a package is tested for, beyond single files, the classes together and what instructions name: the language of
-- the card
abbrev pub tested : List Group
tested = groups.Unsupported ∷ groups.Language ∷ groups.Initialisers ∷ []

-- 105: the script of this name with this text says nothing from some line on; it stands behind all files of the list
abbrev pub script_break : Refusal → Break
script_break r = record {
  rank = record {
    family = 1;
    file = file_number keys.Script;
    class = 0;
    member = 0;
    offset = (let p = r.place in p.offset);
    rule = 105;
  };
  refusal = r;
}

-- a script breaks 105, and this is that break
abbrev pub BreaksScript : (name text : List ℕ) → Break → Type 0
BreaksScript name text b = (r : Refusal) × (scripted name text ≡ Err r) × (b ≡ script_break r)

-- A rule is broken: by the package, or by the script.
pub data Breaks (list : ListTree) (files : List (List ℕ)) (name text : List ℕ) (b : Break) : Type 0 where
  of_package : Breach list files tested b → Breaks list files name text b
  of_script : BreaksScript name text b → Breaks list files name text b

-- The package breaks no rule, and the text is this script.
pub record IsReady (list : ListTree) (files : List (List ℕ)) (name text : List ℕ) (ready : Ready) : Type 0 where
  pub judged : IsJudged list files tested ready.judged
  pub script : scripted name text ≡ Ok ready.script
