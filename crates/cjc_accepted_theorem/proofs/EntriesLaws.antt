-- Entries of the constant pool name members of their keys' descriptors: those of static fields.
use Rattle.std.proofs.Common.{◌≡◌, ℕ, refl, sym, ap, ◌∙◌}
use Rattle.std.specs.Prelude.{Some, option_map}
use Rattle.cjc_verified_proof.specs.Bytes.declared.fault.MemberId.{MemberId}
use Rattle.cjc_verified_proof.specs.CapRead.declared.tree.ClassRef.TheVariants.{Inside}
use Rattle.cjc_verified_proof.specs.CapRead.declared.tree.PoolEntry.TheVariants.{StaticFieldref}
use Rattle.cjc_verified_proof.specs.CapRead.declared.tree.StaticRef.TheVariants as statics
use Rattle.cjc_verified_proof.specs.CardSemantics.Machine.Classes.{Class, External, Own}
use Rattle.cjc_theorem.specs.CheckProof.Code.Members.{IsOwnCell}
use Rattle.cjc_verified_proof.specs.Components.Names.{class_at, class_ref, field_token, member_ref, names, ref_to}
use Rattle.cjc_verified_proof.specs.Components.Package.{Package, world}
use Rattle.cjc_verified_proof.specs.Components.Statics.{cell_offset}
use Rattle.cjc_verified_proof.specs.NCode.Lowering.Naming.{entry_of}
use Rattle.cjc_verified_proof.specs.NCode.declared.narrow.PoolKey.TheVariants as keys
use Rattle.cjc_verified_proof.proofs.TokenProofStarts.{ref_is_start}
use Rattle.cjc_verified_proof.specs.TokenProof.Components.OwnNames.{HaveOwnNames}
use Rattle.cjc_verified_proof.specs.Verify.Named.{named_desc}
use Rattle.cjc_verified_proof.specs.World.Order.{class_order}
use Rattle.cjc_accepted_proof.specs.Written.{written_pair}
use Rattle.cjc_accepted_theorem.proofs.CellsLaws.{cell_found}

-- a member of a class of the package is named by its offset
pub own_ref : (x : Class) (start offset token : ℕ) → ref_to x ≡ Inside start → member_ref x offset token
    ≡ statics.Inside offset
own_ref (Own part at) start offset token e = refl
own_ref (External file class) start offset token e = absurd cc

pub cell_named : (p : Package) → HaveOwnNames (class_order (world p)) → (f : MemberId) → IsOwnCell p f
    → named_desc (written_pair p) (entry_of (names p) (keys.StaticField f)) ≡ Some f.desc
cell_named p apart f is =
    let o = is.own in
    let r = ref_is_start p apart o.place is.class o.there in
    let inside : class_ref p f.class ≡ Inside r.0 = ap (class_ref p) (sym o.named) ∙ r.2 in
    let fit = is.cells in
    ap (λ x. named_desc (written_pair p) (StaticFieldref x)) (own_ref (class_at p f.class) r.0 (cell_offset p.image f)
    (field_token p f) inside)
    ∙ ap (option_map (λ (g : MemberId). g.desc)) (cell_found p.image f fit.some is.has_cell)
