-- What the type checker reads of a method of Method: what is laid for the package's method of the same number.
use Rattle.std.specs.Prelude.{◌≡◌, ℕ, Some, length, slice_get}
use Rattle.cjc_check_proof.specs.Code.Codes.{code_at}
use Rattle.cjc_ncode.specs.Lowering.Placed.{HandlersStand}
use Rattle.cjc_verified_proof.specs.Components.Methods.{header_of, placed_at}
use Rattle.cjc_verified_proof.specs.Components.Names.{names}
use Rattle.cjc_verified_proof.specs.Components.Package.{LaidMethod, Package}
use Rattle.cjc_verified_proof.specs.TokenProof.Tables.Loading.{part}
use Rattle.cjc_verified_proof.specs.Verify.Bodies.{Body}

-- Its instructions, its header and its handlers are those that are laid.
pub record IsReadFrom (p : Package) (k : ℕ) (v : Body) : Type 0 where
  pub offset : ℕ
  pub laid : LaidMethod
  pub is_laid : slice_get p.methods k ≡ Some laid
  pub instructions : v.instructions ≡ (let c = code_at (names p) offset laid in c.instructions)
  pub header : v.header ≡ record {
    max_stack = (let c = laid.code in c.max_stack);
    nargs = (let c = laid.code in c.nargs);
    max_locals = (let c = laid.code in c.max_locals);
    is_abstract = laid.is_abstract;
    size = length (header_of laid);
  }
  pub handlers : HandlersStand (names p) (placed_at offset laid) (part p)
