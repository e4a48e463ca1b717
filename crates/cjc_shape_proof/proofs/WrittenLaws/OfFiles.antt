-- The code of a converted package names what its class files name.
use Rattle.std.proofs.Common.{◌≡◌, ℕ, zero, suc, refl, sym, ap, ◌∙◌, Bool, true, false, List, [], ◌∷◌}
use Rattle.std.specs.Prelude.{Option, Some, None, nat_lt, slice_get, if◌then◌else◌}
use Rattle.std.specs.List.{Contains}
use Rattle.cjc_bytes.proofs.Gets.{contained}
use Rattle.cjc_check_proof.proofs.TokenProofWrittenSendsOperations.{code_names}
use Rattle.cjc_classes.specs.JvmSemantics.Linked.{Method}
use Rattle.cjc_classes.specs.JvmSemantics.OnePackage.{method_at}
use Rattle.cjc_classes.specs.List.Listed.{ListTree}
use Rattle.cjc_classes.specs.Narrow.Rows.Selected.{near_fields}
use Rattle.cjc_components.specs.Bytecode.PackageCodes.{all_codes}
use Rattle.cjc_components.specs.Package.{LaidMethod, Package, pool}
use Rattle.cjc_components.specs.Written.{code_by}
use Rattle.cjc_narrow_proof.specs.NCode.Written.{catch_at, catches_at}
use Rattle.cjc_narrow_proof.specs.NCode.declared.narrow.NCatch.{NCatch}
use Rattle.cjc_narrow_proof.specs.NCode.declared.narrow.NMethod.{NMethod}
use Rattle.cjc_shape.specs.LowerJudge.declared.judged.Judged.{Judged}
use Rattle.cjc_world.specs.ClassFile.declared.tree.Catch.{Catch}
use Rattle.cjc_shape_proof.specs.Written.Checked.{IsOfFiles}
use Rattle.cjc_shape_proof.specs.Written.Converted.{IsConverted}
use Rattle.cjc_shape_proof.proofs.WrittenLaws.Files.{is_checked, own_methods}

-- a handler that is written catches what one of the class file does
caught_at : (place : ℕ → ℕ) (catches : List Catch) (j : ℕ) (c : NCatch) → slice_get (catches_at place catches) j ≡ Some
    c
    → (i : ℕ) × (h : Catch) × (slice_get catches i ≡ Some h) × (h.class ≡ c.class)
caught_at place [] j c e = absurd cc
caught_at place (h ∷ catches) j c e = by (nat_lt (place h.start) (place h.end)) j e (λ i f. caught_at place catches i
    c f)
  where
    by : (b : Bool) (j : ℕ)
        → slice_get (if b then catch_at place h ∷ catches_at place catches else catches_at place catches) j ≡ Some c
        → ((i : ℕ) → slice_get (catches_at place catches) i ≡ Some c → (n : ℕ) × (g : Catch)
        × (slice_get catches n ≡ Some g) × (g.class ≡ c.class))
        → (n : ℕ) × (g : Catch) × (slice_get (h ∷ catches) n ≡ Some g) × (g.class ≡ c.class)
    by true zero e rest =
        let same : catch_at place h ≡ c = cc in (0, h, refl, ap (λ (q : NCatch). q.class) same)
    by true (suc j) e rest = (let r = rest j e in (suc r.0, r.1, r.2, r.3))
    by false j e rest = (let r = rest j e in (suc r.0, r.1, r.2, r.3))

pub caught_from : (place : ℕ → ℕ) (catches : List Catch) (j : ℕ) (c : NCatch) → slice_get (catches_at place catches) j
    ≡ Some c → (h : Catch) × Contains catches h × (h.class ≡ c.class)
caught_from place catches j c e =
    let r = caught_at place catches j c e in (r.1, contained catches r.0 r.1 r.2, r.3)

module _ (list : ListTree) (files : List (List ℕ)) (judged : Judged) (p : Package) (is : IsConverted list files judged
    p) where
  pub own_catches : (k : ℕ) (m : LaidMethod) → slice_get p.methods k ≡ Some m → (j : ℕ) (c : NCatch)
      → (let code = m.code in slice_get code.catches j ≡ Some c) → (from : Method)
      × (method_at p.files m.member ≡ Some from)
      × ((h : Catch) × Contains from.catches h × (h.class ≡ c.class))
  own_catches k m e j c f = by (method_at p.files m.member) refl
    where
      here : (o : Option Method) → method_at p.files m.member ≡ o
          → slice_get (let n = code_by p.files (near_fields (pool p)) is.is_package.rows m.member o in n.catches) j
          ≡ Some c
      here o there =
          let w = is.is_package.is_package.methods k m e in
          ap (λ (n : NMethod). slice_get n.catches j) (sym (w.code
          ∙ ap (code_by p.files (near_fields (pool p)) is.is_package.rows m.member) there)) ∙ f

      by : (o : Option Method) → method_at p.files m.member ≡ o → (from : Method)
          × (method_at p.files m.member ≡ Some from)
          × ((h : Catch) × Contains from.catches h × (h.class ≡ c.class))
      by None there = (let never : slice_get [] j ≡ Some c = here None there in absurd cc)
      by (Some from) there = (from, there, caught_from _ from.catches j c (here (Some from) there))

  abbrev pub is_of_files : IsOfFiles list judged.codes p
  is_of_files = record {
    checked = is_checked list files judged p is;
    methods = own_methods list files judged p is;
    names = code_names p list (all_codes (let w = p.files in w.classes)) is.is_package.rows is.is_package.is_package;
    catches = own_catches;
  }
