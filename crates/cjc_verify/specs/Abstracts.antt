-- Abstract methods of classes of which objects are made, as code looks for them.
use Rattle.std.specs.Prelude.{ℕ, ◌-◌, ◌||◌, not, Bool, List, map, drop, length, option_to_list}
use Rattle.std.specs.List.{list_any, range_with_len}
use Rattle.cjc_card_acts.specs.CardSemantics.Machine.Classes.{Own}
use Rattle.cjc_card_acts.specs.CardSemantics.Machine.Dispatch.{Token, dispatched, tower}
use Rattle.cjc_capread.specs.declared.tree.ClassEntry.{ClassEntry}
use Rattle.cjc_capread.specs.declared.tree.ClassInfo.{ClassInfo}
use Rattle.cjc_check_rules.specs.declared.spot.ComponentPlace.{ComponentPlace}
use Rattle.cjc_check_rules.specs.Spots.{beside, in_info, unless}
use Rattle.cjc_check_rules.specs.Complete.{class_size}
use Rattle.cjc_check_rules.specs.Classes.{first_class}
use Rattle.cjc_classes.specs.ClassOrder.Classes.Numbers.{declared_at}
use Rattle.cjc_world.specs.Files.{Files}
use Rattle.cjc_world.specs.Classes.{Class}
use Rattle.cjc_verify.specs.Pairs.{Pair}
use Rattle.cjc_verify.specs.Named.{is_abstract_selection, is_unmade}
use Rattle.cjc_verify.specs.Infos.{has_abstract_method}

-- a token of the class at an offset means an abstract method
abbrev pub is_abstract_token : Pair → (at : ℕ) → Token → Bool
is_abstract_token p at token = is_abstract_selection p (dispatched (tower p.loaded (Own 0 at)) token)

-- one of the numbers from one on and below another passes
unfoldable pub any_between : (low high : ℕ) → (test : ℕ → Bool) → Bool
any_between low high test = list_any test (range_with_len low (high - low))

-- whether no objects are made of the class of a number, if there is one
abbrev pub unmade_at : Files → (number : ℕ) → List Bool
unmade_at files n = map (λ (c : Class). is_unmade c.flags) (option_to_list (declared_at files.classes n))

-- a class beside whether no objects are made of it
abbrev pub abstract_beside : Pair → (at : ℕ) → ClassEntry → Bool → List ComponentPlace
abstract_beside p at x unmade = unless (unmade || not (has_abstract_method p at)) (in_info 6 at)

-- all classes
abbrev pub all_abstract_beside : Pair → ClassInfo → List Bool → List ComponentPlace
all_abstract_beside p c unmade = beside class_size (abstract_beside p) (first_class c) c.classes
    (drop (length c.interfaces) unmade)
