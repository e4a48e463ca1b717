-- What is found upwards through the tables of classes.
use Rattle.std.specs.Prelude.{ℕ, Option, Some, None}
use Rattle.cjc_card_semantics.specs.CapRead.declared.tree.ClassEntry.{ClassEntry}
use Rattle.cjc_card_semantics.specs.Machine.Loaded.{Loaded}
use Rattle.cjc_card_semantics.specs.Machine.Classes.{Info, IsClass, external}
use Rattle.cjc_card_semantics.specs.Machine.Dispatch.{Selection, NotFound, At, exported_line, in_files}
use Rattle.cjc_card_link.specs.declared.dispatch.TableEntry.{TableEntry}
use Rattle.cjc_card_link.specs.declared.dispatch.TableEntry.TheVariants as entries
use Rattle.cjc_card_link.specs.declared.dispatch.Walk.{Walk}
use Rattle.cjc_card_link.specs.declared.dispatch.Walk.TheVariants as walks

-- a class that is no interface
abbrev pub entry_in : Option Info → Option ClassEntry
entry_in (Some (IsClass c)) = Some c
entry_in info = None

-- what a table says, where this is found above
abbrev pub entry_gives : (part : ℕ) → (above : Selection) → TableEntry → Selection
entry_gives part above entries.Above = above
entry_gives part above entries.Nothing = NotFound
entry_gives part above (entries.At offset) = At part offset

-- a public or protected method of a token
abbrev pub walk_gives : Loaded → (token : ℕ) → Walk → Selection
walk_gives l token walks.Nothing = NotFound
walk_gives l token (walks.At part offset) = At part offset
walk_gives l token (walks.Abroad tree class) = in_files (exported_line l (external l tree class)) token

-- a package-visible method, which no imported class has
abbrev pub walk_hides : Walk → Selection
walk_hides walks.Nothing = NotFound
walk_hides (walks.At part offset) = At part offset
walk_hides (walks.Abroad tree class) = NotFound
