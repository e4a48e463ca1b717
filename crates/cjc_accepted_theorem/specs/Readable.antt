-- Packages whose components can be read back, whichever of their methods are in int mode.
use Rattle.std.specs.Prelude.{◌≡◌, ℕ, List, []}
use Rattle.cjc_check_proof.specs.Code.Ends.{AllStayInside}
use Rattle.cjc_check_proof.specs.Code.Written.{AllWritable}
use Rattle.cjc_components.specs.Limits.{size_breaks}
use Rattle.cjc_theorem.specs.LowerJudge.declared.judged.Judged.{Judged}
use Rattle.cjc_theorem.specs.ShapeProof.Written.Checked.{IsOfFiles}
use Rattle.cjc_theorem.specs.ShapeProof.Written.Joined.{IsRunnable}
use Rattle.cjc_theorem.specs.ShapeProof.Written.LaidOut.{IsLaidOut}
use Rattle.cjc_verified_proof.specs.Components.Names.{names}
use Rattle.cjc_verified_proof.specs.Components.Package.{Package}
use Rattle.cjc_verified_proof.specs.List.Listed.{ListTree}
use Rattle.cjc_verified_proof.specs.TokenProof.Components.Methods.{HasMethods}
use Rattle.cjc_verified_proof.specs.TokenProof.WrittenCalls.Standing.{TakeTheirWords}

-- A package that is laid out, whose code names what its class files name, and which has what its run by token rests on.
-- Its methods stand in their order, take the words of their descriptors and stay inside their code; bytes can say each;
-- and it breaks neither 411 nor 416.
pub record IsReadable (list : ListTree) (files : List (List ℕ)) (judged : Judged) (p : Package) : Type 0 where
  pub laid : IsLaidOut list files judged p
  pub of_files : IsOfFiles list judged.codes p
  pub runs : IsRunnable list.name p
  pub words : TakeTheirWords p
  pub methods : HasMethods p
  pub writable : AllWritable (names p) p.methods
  pub inside : AllStayInside p.methods
  pub sizes : size_breaks p ≡ []
