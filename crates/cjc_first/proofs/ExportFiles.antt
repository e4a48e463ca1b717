-- The export file of a package of the form can be written.
use Rattle.std.proofs.Common.{◌≡◌, ℕ, zero, suc, ◌+◌, ◌≤◌, ◌<◌, true, [], ◌∷◌, Some, length, refl, sym, ap, ◌∙◌, arith, append-nil, length-append}
use Rattle.std.specs.List.{flat_map, AllByRecursion}
use Rattle.std.proofs.lemmas.Bool.{le-leb}
use Rattle.cjc_bytes.specs.Spots.{desc_of, bad_at, parts_of, types_from, after}
use Rattle.cjc_classfile.specs.declared.tree.ClassTree.{ClassTree}
use Rattle.cjc_classfile.specs.declared.tree.MethodTree.{MethodTree}
use Rattle.cjc_export.specs.Members.{as_desc}
use Rattle.cjc_export.specs.Pool.{aid_length}
use Rattle.cjc_export.specs.Written.{needs, class_tree_needs, method_needs}
use Rattle.cjc_export.specs.Writable.{MethodFits, IsWritable}
use Rattle.cjc_export.specs.declared.tree.ExportMethod.{ExportMethod}
use Rattle.cjc_export.specs.declared.tree.ExportClass.{ExportClass}
use Rattle.cjc_export.proofs.Numbering.{length-insert_all}
use Rattle.cjc_first.specs.FirstForm.{PackageLine, shorts}
use Rattle.cjc_first.specs.Exported.{exported}
use Rattle.cjc_first.specs.Above.{inherited}
use Rattle.cjc_first.proofs.Inheriting.{stand_by_token, length-by_token, length-method_needs, static_below}
use Rattle.cjc_first.proofs.Forms.{length-shorts}

-- the descriptor of a method of shorts is a method's
desc_is : (n : ℕ) → n ≤ 15 → as_desc true (shorts n) ≡ Some (shorts n)
unfolding desc_of bad_at parts_of types_from after
desc_is zero few = refl
desc_is (suc zero) few = refl
desc_is (suc (suc zero)) few = refl
desc_is (suc (suc (suc zero))) few = refl
desc_is (suc (suc (suc (suc zero)))) few = refl
desc_is (suc (suc (suc (suc (suc zero))))) few = refl
desc_is (suc (suc (suc (suc (suc (suc zero)))))) few = refl
desc_is (suc (suc (suc (suc (suc (suc (suc zero))))))) few = refl
desc_is (suc (suc (suc (suc (suc (suc (suc (suc zero)))))))) few = refl
desc_is (suc (suc (suc (suc (suc (suc (suc (suc (suc zero))))))))) few = refl
desc_is (suc (suc (suc (suc (suc (suc (suc (suc (suc (suc zero)))))))))) few = refl
desc_is (suc (suc (suc (suc (suc (suc (suc (suc (suc (suc (suc zero))))))))))) few = refl
desc_is (suc (suc (suc (suc (suc (suc (suc (suc (suc (suc (suc (suc zero)))))))))))) few = refl
desc_is (suc (suc (suc (suc (suc (suc (suc (suc (suc (suc (suc (suc (suc zero))))))))))))) few = refl
desc_is (suc (suc (suc (suc (suc (suc (suc (suc (suc (suc (suc (suc (suc (suc zero)))))))))))))) few = refl
desc_is (suc (suc (suc (suc (suc (suc (suc (suc (suc (suc (suc (suc (suc (suc (suc zero))))))))))))))) few = refl
desc_is (suc (suc (suc (suc (suc (suc (suc (suc (suc (suc (suc (suc (suc (suc (suc (suc n)))))))))))))))) few = absurd (omega arith)

aid_is : (n : ℕ) → 5 ≤ n → n ≤ 16 → aid_length n ≡ Some n
aid_is n low high = rw (le-leb 5 n low, le-leb n 16 high) refl

-- what an export file needs of the package
pub record CanBeExported (line : PackageLine) : Type 0 where
  pub name : length line.name ≤ 255
  pub aid_low : 5 ≤ length line.aid
  pub aid_high : length line.aid ≤ 16
  pub major : line.major < 256
  pub minor : line.minor < 256

pub exported_writable : (line : PackageLine) (root : ExportClass) (tree : ClassTree) (method : MethodTree) (params : ℕ) → CanBeExported line → AllByRecursion MethodFits root.methods
    → length tree.name ≤ 65535 → length method.name ≤ 65535 → method.desc ≡ shorts params → params ≤ 15 → IsWritable (exported line root tree method)
unfolding needs class_tree_needs
exported_writable line root tree method params can fits class_name method_name desc few =
    let own : ExportMethod = record { token = 0; flags = 0x0009; name = method.name; desc = method.desc } in
    let count : length (inherited root) ≤ 128 = length-by_token 128 0 root.methods in
    let stand = stand_by_token (suc (length (inherited root))) 128 0 (own ∷ []) root.methods (omega arith) fits (static_below own refl) in
    let name : length line.name ≤ 255 = can.name in
    let major : line.major < 256 = can.major in
    let minor : line.minor < 256 = can.minor in
    let desc_length : length method.desc ≡ params + 3 = ap length desc ∙ length-shorts params in
    record {
      name = omega arith;
      aid = aid_is (length line.aid) can.aid_low can.aid_high;
      major = omega arith;
      minor = omega arith;
      count = omega arith;
      classes = (
        record {
          token = omega arith;
          own_token = refl;
          flags = omega arith;
          name = omega arith;
          own_name = refl;
          counts = record { supers = omega arith; interfaces = omega arith; fields = omega arith; methods = omega arith };
          supers = (omega arith, tt);
          interfaces = tt;
          fields = tt;
          count = refl;
          methods = (
            (record { token = omega arith; flags = omega arith; name = omega arith; desc = omega arith; is_desc = ap (as_desc true) desc ∙ desc_is params few ∙ ap Some (sym desc) }, refl),
            stand,
          );
        },
        tt,
      );
      constants =
          let bound = length-insert_all [] (needs (exported line root tree method)) in
          let names = length-method_needs (inherited root) in
          let whole : length (needs (exported line root tree method)) ≡ 8 + length (flat_map method_needs (inherited root)) = simp (length-append, append-nil) (omega arith) in
          omega (arith, bound, names, whole, count);
    }
