-- The handlers of a package by modes catch what its class files' handlers do.
use Rattle.std.proofs.Common.{◌≡◌, ℕ, refl, sym, ap, ◌∙◌, List, []}
use Rattle.std.specs.Prelude.{Option, Some, None, slice_get}
use Rattle.std.specs.List.{Contains}
use Rattle.cjc_classes.specs.JvmSemantics.Linked.{Method}
use Rattle.cjc_classes.specs.JvmSemantics.OnePackage.{method_at}
use Rattle.cjc_classes.specs.List.Listed.{ListTree}
use Rattle.cjc_classes.specs.Narrow.Rows.Selected.{near_fields}
use Rattle.cjc_components.specs.Bytecode.declared.method_code.MethodCode.{MethodCode}
use Rattle.cjc_components.specs.Package.{LaidMethod, Package, pool}
use Rattle.cjc_narrow_proof.specs.NCode.declared.narrow.NCatch.{NCatch}
use Rattle.cjc_narrow_proof.specs.NCode.declared.narrow.NMethod.{NMethod}
use Rattle.cjc_int_narrow.specs.LowerIntMode.declared.modes.Mode.{Mode}
use Rattle.cjc_int_narrow.specs.LowerIntMode.declared.modes.Mode.TheVariants as modes
use Rattle.cjc_int_components.specs.Modes.{Tables}
use Rattle.cjc_int_components.specs.Written.{code_by_mode, code_in}
use Rattle.cjc_world.specs.ClassFile.declared.tree.Catch.{Catch}
use Rattle.cjc_shape_proof.proofs.WrittenLaws.OfFiles.{caught_from}
use Rattle.cjc_int_theorem.specs.ByModes.{IsConvertedByModes}

module _ (list : ListTree) (codes : List MethodCode) (t : Tables) (p : Package) (is : IsConvertedByModes list codes t p)
  where
    abbrev Caught : NCatch → Method → Type 0
    Caught c from = (h : Catch) × Contains from.catches h × (h.class ≡ c.class)

    by_mode : (from : Method) (q : Mode) (j : ℕ) (c : NCatch)
        → slice_get (code_in p.files (near_fields (pool p)) t q from).catches j ≡ Some c → Caught c from
    by_mode from modes.Short j c e = caught_from _ from.catches j c e
    by_mode from modes.Int j c e = caught_from _ from.catches j c e

    pub catches_own : (k : ℕ) (m : LaidMethod) → slice_get p.methods k ≡ Some m → (j : ℕ) (c : NCatch)
        → (let code = m.code in slice_get code.catches j ≡ Some c) → (from : Method)
        × (method_at p.files m.member ≡ Some from) × Caught c from
    catches_own k m e j c f = by (method_at p.files m.member) refl
      where
        here : (o : Option Method) → method_at p.files m.member ≡ o
            → slice_get (let n = code_by_mode p.files (near_fields (pool p)) t m.member o in n.catches) j ≡ Some c
        here o there =
            let w = is.is_package.methods k m e in
            ap (λ (n : NMethod). slice_get n.catches j) (sym (w.code
            ∙ ap (code_by_mode p.files (near_fields (pool p)) t m.member) there)) ∙ f

        by : (o : Option Method) → method_at p.files m.member ≡ o → (from : Method)
            × (method_at p.files m.member ≡ Some from) × Caught c from
        by None there = (let never : slice_get [] j ≡ Some c = here None there in absurd cc)
        by (Some from) there = (from, there, by_mode from (t.mode from) j c (here (Some from) there))
