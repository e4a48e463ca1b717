-- The tokens of the classes and members of a package, where they were asked for.
use Rattle.std.specs.Prelude.{◌≡◌, Bool, true, false, List, Option, Some}
use Rattle.std.specs.List.{list_any}
use Rattle.cjc_vtable.specs.LowerTokens.Rules.{is_few}
use Rattle.cjc_vtable.specs.LowerTokens.Tokens.{Assigned, assigned}
use Rattle.cjc_world.specs.Files.{Files}
use Rattle.cjc_judge.specs.declared.groups.Group.{Group}
use Rattle.cjc_judge.specs.declared.groups.Group.TheVariants as groups

-- 413 alone asks for tokens
abbrev pub asks_tokens : Group → Bool
asks_tokens groups.Tokens = true
asks_tokens _ = false

-- Where one of the groups asks for tokens, there are those of the package, if 401 and 406 are kept, on which they stand.
abbrev pub AreTokensWhereNamed : List Group → (applets : Bool) → Files → Option Assigned → Type 0
AreTokensWhereNamed tested applets world tokens =
    list_any asks_tokens tested ≡ true → is_few applets world ≡ true → tokens ≡ Some (assigned applets world)
