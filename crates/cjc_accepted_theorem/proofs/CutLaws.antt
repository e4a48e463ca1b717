-- The codes of Method one by one: which method is laid where.
use Rattle.std.proofs.Common.{◌≡◌, ℕ, zero, suc, ◌+◌, refl, subst, List, [], ◌∷◌, slice_get, Some}
use Rattle.cjc_verified_proof.specs.CapRead.declared.tree.MethodDescriptor.{MethodDescriptor}
use Rattle.cjc_check_proof.specs.CheckRules.Codes.{Code}
use Rattle.cjc_verified_proof.specs.Components.Methods.{method_size, placed_at, placed_from}
use Rattle.cjc_verified_proof.specs.Components.Package.{LaidMethod}
use Rattle.cjc_check_proof.specs.Code.Codes.{code_at, codes_at}
use Rattle.cjc_verified_proof.specs.NCode.Lowering.Naming.{Naming}
use Rattle.cjc_check_proof.proofs.CodeLaws.Methods.{Describes}

-- a code is that of the method of its number, which is laid at the offset that Descriptor says
pub record IsLaidAt (n : Naming) (at : ℕ) (ds : List MethodDescriptor) (ms : List LaidMethod) (k : ℕ)
    (d : MethodDescriptor) (code : Code) : Type 0 where
  pub offset : ℕ
  pub laid : LaidMethod
  pub is_laid : slice_get ms k ≡ Some laid
  pub is_placed : slice_get (placed_from at ms) k ≡ Some (placed_at offset laid)
  pub said : d.offset ≡ offset
  pub code_is : code_at n offset laid ≡ code

pub laid_there : (n : Naming) (at : ℕ) (ds : List MethodDescriptor) (ms : List LaidMethod) → Describes at ds ms → (k
    : ℕ)
    (d : MethodDescriptor) (code : Code) → slice_get ds k ≡ Some d → slice_get (codes_at n at ms) k ≡ Some code
    → IsLaidAt n at ds ms k d code
laid_there n at ds [] of k d code e f = absurd cc
laid_there n at [] (m ∷ ms) of k d code e f = absurd cc
laid_there n at (x ∷ ds) (m ∷ ms) of zero d code e f =
    let same : x ≡ d = cc in
    let is : code_at n at m ≡ code = cc in
    record {
      offset = at;
      laid = m;
      is_laid = refl;
      is_placed = refl;
      said = subst (λ (y : MethodDescriptor). y.offset ≡ at) same of.0;
      code_is = is;
    }
laid_there n at (x ∷ ds) (m ∷ ms) of (suc k) d code e f =
    let r = laid_there n (at + method_size m) ds ms of.2 k d code e f in
    record {
      offset = r.offset;
      laid = r.laid;
      is_laid = r.is_laid;
      is_placed = r.is_placed;
      said = r.said;
      code_is = r.code_is;
    }
