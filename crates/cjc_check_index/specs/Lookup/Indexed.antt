-- What is kept so that each class is found at once: where classes and interfaces begin, and the classes of export files
-- by token.
use Rattle.std.specs.Prelude.{◌≡◌, ℕ, ◌+◌, ◌==◌, List, [], ◌∷◌, map, Option, Some, None, if◌then◌else◌, Bool}
use Rattle.std.specs.List.{range_with_len}
use Rattle.cjc_check_rules.specs.CapRead.declared.tree.ClassInfo.{ClassInfo}
use Rattle.cjc_check_rules.specs.CapRead.declared.tree.ClassRef.{ClassRef}
use Rattle.cjc_check_rules.specs.ExportFile.declared.tree.ExportClass.{ExportClass}
use Rattle.cjc_check_rules.specs.ExportFile.declared.tree.ExportTree.{ExportTree}
use Rattle.cjc_check_index.specs.declared.lookup.names.Names.{Names}
use Rattle.cjc_check_index.specs.declared.lookup.names.Want.{Want}
use Rattle.cjc_check_index.specs.declared.lookup.names.Want.TheVariants.{There, Interface, Class}
use Rattle.cjc_check_rules.specs.Spots.{starts}
use Rattle.cjc_check_rules.specs.Complete.{interface_size, class_size}
use Rattle.cjc_check_rules.specs.Classes.{first_interface, first_class, is_there, names_interface, names_class}

-- the place of the first class of a token, where the first of these classes has this place
abbrev pub place_from : (at : ℕ) → List ExportClass → (token : ℕ) → Option ℕ
place_from at [] token = None
place_from at (c ∷ classes) token = if c.token == token then Some at else place_from (at + 1) classes token

-- the places of classes, by token
abbrev pub places_of : List ExportClass → List (Option ℕ)
places_of classes = map (place_from 0 classes) (range_with_len 0 256)

-- kept starts are those of the package, and kept places those of export files
pub record IsIndexed (n : Names) : Type 0 where
  pub interfaces : n.interfaces.now ≡ starts interface_size first_interface n.parts.now.class.now.interfaces
  pub classes : n.classes.now ≡ starts class_size (first_class n.parts.now.class.now) n.parts.now.class.now.classes
  pub tokens : n.tokens.now ≡ map (λ t. places_of t.classes) n.exports.now

-- what a class_ref is to name
abbrev pub names_as : Want → ClassInfo → List ExportTree → ClassRef → Bool
names_as There info exports class = is_there info exports class
names_as Interface info exports class = names_interface info exports class
names_as Class info exports class = names_class info exports class
