-- When packages behave alike together: their class files by name and their components by token, for every script.
use Rattle.std.specs.Prelude.{◌≡◌, ℕ, List, map, All, Some}
use Rattle.cjc_components.specs.LowerCardSemantics.Bytecode.Runs.{Agree}
use Rattle.cjc_components.specs.LowerCardSemantics.Machine.ByToken.{run as run_by_token}
use Rattle.cjc_components.specs.LowerClinit.Image.{IsImage}
use Rattle.cjc_components.specs.LowerJvmSemantics.Group.{run_group}
use Rattle.cjc_components.specs.Bytecode.PackageCodes.{all_codes}
use Rattle.cjc_components.specs.LowerScript.declared.script.Script.{Script}
use Rattle.cjc_components.specs.World.declared.image.StaticImage.{StaticImage}
use Rattle.cjc_link_semantics.specs.Loaded.{Member, files_of, group_loaded}

-- what their static cells hold at first
abbrev pub images_of : List Member → List StaticImage
images_of group = map (λ (m : Member). m.image) group

-- It is what the initialisers of the class files leave there.
abbrev pub HasImage : Member → Type 0
HasImage m = let files = m.files in IsImage files (all_codes files.classes) m.image

-- For every script: of the notes of any two runs one begins with the other; where the joint run by name of n
-- instructions is over, the one by token of at least 3n has the same notes, outcome, heap and static cells, and where
-- the one by token of n is over, the one by name of at least 65,536 (n + 1) has; and neither is ever stuck.
pub record BehaveAlike (group : List Member) : Type 0 where
  pub images : All HasImage group
  pub alike : (script : Script) → Agree 3 (run_group (files_of group) (images_of group) script)
      (run_by_token (group_loaded group) script)
