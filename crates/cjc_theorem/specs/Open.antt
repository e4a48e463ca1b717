-- What is asked of export files beside that they are fair, so that the export file which a package over them writes is
-- fair
-- with them (Java Card Virtual Machine Specification 2.2.2, sections 5.7 and 5.9).
use Rattle.std.specs.Prelude.{◌≡◌, List, [], true, false}
use Rattle.cjc_bytes.specs.AccessFlags.{is_interface}
use Rattle.cjc_export.specs.declared.tree.ExportTree.{ExportTree}
use Rattle.cjc_theorem.specs.FairExports.Fair.{OfEach, OfMethods}
use Rattle.cjc_tokens.specs.Members.{is_exposed}
use Rattle.cjc_world.specs.Lookup.{object}

-- An export file lists of a class what others may name of it, and java/lang/Object has no superclass.
pub record ExportsAreOpen (exports : List ExportTree) : Type 0 where
  -- each method that a class lists is public or protected; those of an interface may be package-visible
  pub exposed : OfEach exports (λ c. is_interface c.flags ≡ false → OfMethods c (λ m. is_exposed m.flags ≡ true))
  -- java/lang/Object lists no super
  pub top : OfEach exports (λ c. c.name ≡ object → c.supers ≡ [])
