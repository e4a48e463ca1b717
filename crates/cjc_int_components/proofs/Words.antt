-- The methods of a package by modes stand in their order, and their code takes the words of their descriptors.
use Rattle.std.proofs.Common.{◌≡◌, ℕ, refl, sym, ap, ◌∙◌, List}
use Rattle.std.specs.Prelude.{Option, Some, None, slice_get}
use Rattle.cjc_int_narrow.specs.Bytecode.declared.method_code.MethodCode.{MethodCode}
use Rattle.cjc_int_narrow.specs.World.Classes.{all_classes}
use Rattle.cjc_int_narrow.specs.World.Files.{Files}
use Rattle.cjc_int_narrow.specs.World.Order.{method_order}
use Rattle.cjc_check_proof.specs.JvmSemantics.Linked.{Method}
use Rattle.cjc_check_proof.specs.JvmSemantics.OnePackage.{method_at}
use Rattle.cjc_check_proof.specs.LowerComponents.Package.{LaidMethod, Package, pool, world}
use Rattle.cjc_check_proof.specs.LowerComponents.Written.{is_abstract_at}
use Rattle.cjc_check_proof.specs.LowerList.Listed.{ListTree}
use Rattle.cjc_check_proof.specs.TokenProof.WrittenCalls.Standing.{AreMethods, TakeTheirWords}
use Rattle.cjc_int_narrow.specs.LowerNarrow.Rows.Package.{flags_of, read_of}
use Rattle.cjc_int_narrow.specs.LowerNarrow.Rows.Resolved.{argument_words, method_found}
use Rattle.cjc_int_narrow.specs.LowerNarrow.Rows.Selected.{near_fields}
use Rattle.cjc_int_narrow.specs.LowerIntMode.declared.modes.Mode.{Mode}
use Rattle.cjc_int_narrow.specs.LowerIntMode.declared.modes.Mode.TheVariants as modes
use Rattle.cjc_ncode.specs.declared.narrow.NMethod.{NMethod}
use Rattle.cjc_int_components.specs.Modes.{Tables}
use Rattle.cjc_int_components.specs.Written.{IsPackageByModes, code_by_mode, code_in}
use Rattle.cjc_int_components.proofs.Room.{same_words}

abbrev nargs_of : NMethod → ℕ
nargs_of m = m.nargs

module _ (list : ListTree) (files : Files) (codes : List MethodCode) (t : Tables) (p : Package)
    (is : IsPackageByModes list files codes t p) where
  pub methods_are : AreMethods p
  methods_are = record {
    members = is.members ∙ ap (λ fs. method_order (all_classes fs)) (sym is.by_files);
    is_abstract = λ k m e. (let q = is.methods k m e in q.is_abstract ∙ ap (λ fs. is_abstract_at fs m.member)
        (sym is.by_files));
  }

  by_mode : (mode : Mode) (x : Method) → nargs_of (code_in p.files (near_fields (pool p)) t mode x)
      ≡ argument_words (flags_of (method_found (world p) x.id)) (let id = x.id in id.desc)
  by_mode modes.Short x = refl
  by_mode modes.Int x = sym (same_words (read_of x (flags_of (method_found (world p) x.id))))

  by_code : (k : ℕ) (m : LaidMethod) → slice_get p.methods k ≡ Some m → (o : Option Method)
      → method_at p.files m.member ≡ o
      → nargs_of m.code ≡ nargs_of (code_by_mode p.files (near_fields (pool p)) t m.member o)
  by_code k m e o there =
      let q = is.methods k m e in
      ap nargs_of q.code
      ∙ ap (λ fs. nargs_of (code_by_mode fs (near_fields (pool p)) t m.member (method_at fs m.member)))
      (sym is.by_files)
      ∙ ap (λ o. nargs_of (code_by_mode p.files (near_fields (pool p)) t m.member o)) there

  pub words_are : TakeTheirWords p
  words_are = record {
    declared = λ k m e x there. by_code k m e (Some x) there ∙ by_mode (t.mode x) x;
    added = λ k m e there. by_code k m e None there;
  }
