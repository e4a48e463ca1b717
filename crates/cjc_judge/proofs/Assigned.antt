-- What assigning tokens tells of a package: 413, and its tokens where a group asks for them.
use Rattle.std.proofs.Common.{◌≡◌, Bool, true, false, List, []}
use Rattle.std.specs.List.{list_any}
use Rattle.cjc_bytes.specs.Breaks.{Among, Break}
use Rattle.cjc_bytes.proofs.BrokenRules.{no_breaks}
use Rattle.cjc_clinit.specs.Bytecode.declared.method_code.MethodCode.{MethodCode}
use Rattle.cjc_list.specs.Listed.{ListTree}
use Rattle.cjc_vtable.specs.LowerTokens.Rules.{is_few, tested_breaks}
use Rattle.cjc_world.specs.Files.{Files}
use Rattle.cjc_judge.specs.Rules.{has_applets}
use Rattle.cjc_judge.specs.Tokens.{asks_tokens}
use Rattle.cjc_judge.specs.Working.Groups.{EarlyBreaks, EarlyBreaksAny}
use Rattle.cjc_judge.specs.declared.groups.Group.{Group}
use Rattle.cjc_judge.specs.declared.groups.Group.TheVariants as groups
use Rattle.cjc_judge.specs.declared.reading.UnsupportedInsn.{UnsupportedInsn}
use Rattle.cjc_judge.proofs.Early.{named, not_both}

pub not_few : {P : Type 0} (applets : Bool) (files : Files) → is_few applets files ≡ false → is_few applets files ≡ true
    → P
not_few applets files many few = not_both (is_few applets files) many few

pub not_asked : {P : Type 0} (tested : List Group) → list_any asks_tokens tested ≡ false
    → list_any asks_tokens tested ≡ true → P
not_asked tested none asked = not_both (list_any asks_tokens tested) none asked

-- where nothing is broken before types are tested, and one of the groups asks for tokens, nothing is of 413
pub none_high : (list : ListTree) (world : Files) (codes : List MethodCode) (unsupported_insns : List UnsupportedInsn)
    (tested : List Group)
    → ((b : Break) → EarlyBreaksAny list world codes unsupported_insns tested b → ⊥)
    → list_any asks_tokens tested ≡ true → tested_breaks (has_applets list) world ≡ []
none_high list world codes unsupported_insns tested none asked =
    let found = named asks_tokens tested asked in
    no_breaks (tested_breaks (has_applets list) world)
    (λ b among. none b (found.0, found.1, found.2, by b among found.1 found.3))
  where
    by : (b : Break) → Among b (tested_breaks (has_applets list) world) → (g : Group) → asks_tokens g ≡ true
        → EarlyBreaks list world codes unsupported_insns g b
    by b among groups.Tokens e = among
    by b among groups.Unsupported e = absurd cc
    by b among groups.Language e = absurd cc
    by b among groups.Initialisers e = absurd cc
    by b among groups.Limits e = absurd cc
    by b among groups.Types e = absurd cc
    by b among groups.Ranges e = absurd cc
