-- What is known of the classes and of the export files of a package whose components can be read back.
use Rattle.std.specs.Prelude.{ℕ, List}
use Rattle.cjc_shape_proof.proofs.WrittenLaws.Checked as checked
use Rattle.cjc_theorem.proofs.AlikeLaws.NamedLaws.Exports.{exports_keep}
use Rattle.cjc_theorem.specs.LowerJudge.declared.judged.Judged.{Judged}
use Rattle.cjc_verified_proof.specs.Components.Package.{Package}
use Rattle.cjc_verified_proof.specs.List.Listed.{ListTree}
use Rattle.cjc_verified_proof.specs.TokenProof.WrittenCalls.Calls.{ExportsKeep}
use Rattle.cjc_verified_proof.specs.WorldProof.Calls.Solid.{IsSolid}
use Rattle.cjc_accepted_theorem.specs.Readable.{IsReadable}

module _ (list : ListTree) (files : List (List ℕ)) (judged : Judged) (p : Package) (is : IsReadable list files judged p)
  where
    -- its export files have static initialisers, and their interfaces have their methods by their places
    pub kept_exports : ExportsKeep p
    kept_exports = let its = is.of_files.checked in exports_keep list.name p is.runs.sound its.exports its.plain

    -- its classes have code for what they declare
    pub own_solid : IsSolid p.files
    own_solid = checked.own_solid list judged.codes p is.of_files.checked
