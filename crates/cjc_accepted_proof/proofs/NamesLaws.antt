-- What components name beside their package: classes stand where they are written, so class_refs are those that are
-- written.
use Rattle.std.proofs.Common.{◌≡◌, ℕ, ◌==◌, ◌&&◌, ap, ◌∙◌, true, List}
use Rattle.std.specs.Prelude.{option_and_then, option_map, position, slice_get, unwrap_or}
use Rattle.std.specs.Str.{bytes_eq}
use Rattle.cjc_types.proofs.BytesNumbers.{like_number}
use Rattle.cjc_verify.specs.CapRead.ClassRefs.{same_class}
use Rattle.cjc_verify.specs.CapRead.declared.tree.ClassRef.{ClassRef}
use Rattle.cjc_verify.specs.CapRead.declared.tree.ClassRef.TheVariants.{Inside, Outside}
use Rattle.cjc_verify.specs.CardSemantics.Machine.Classes.{Own, external_from, or_else}
use Rattle.cjc_types.specs.World.Classes.{Class}
use Rattle.cjc_types.specs.World.Order.{class_order}
use Rattle.cjc_verify.specs.Components.Names.{class_at, class_ref, info_starts, ref_to}
use Rattle.cjc_verify.specs.Components.Package.{Package, world}
use Rattle.cjc_check_proof.proofs.TokenProofStarts.{infos_stand_alike}
use Rattle.cjc_verify.specs.Pairs as pairs
use Rattle.cjc_accepted_proof.specs.Written.{written_pair}

pub same_itself : (r : ClassRef) → same_class r r ≡ true
same_itself (Inside a) = like_number a
same_itself (Outside i a) = ap (λ b. b && (a == a)) (like_number i) ∙ like_number a

module _ (p : Package) where
  pub starts_alike : pairs.starts (written_pair p) ≡ info_starts p
  starts_alike = infos_stand_alike (class_ref p) (λ (x : List ℕ). Inside 0) p

  pub class_alike : (x : List ℕ) → pairs.class_named (written_pair p) x ≡ class_at p x
  class_alike x = ap (λ ss. unwrap_or (or_else (option_map (Own 0) (option_and_then (slice_get ss) (position
      (λ (d : Class). bytes_eq d.name x) (class_order (world p))))) (external_from 0 (let files = p.files
      in files.exports) x)) (Own 0 0)) starts_alike

  pub ref_alike : (x : List ℕ) → pairs.class_ref (written_pair p) x ≡ class_ref p x
  ref_alike x = ap ref_to (class_alike x)
