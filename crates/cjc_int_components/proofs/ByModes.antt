-- Where no method is in int mode, what is written by modes is what is written without them.
use Rattle.std.proofs.Common.{◌≡◌, ℕ, refl, sym, ap, ◌∙◌, Bool, true, false, List, ◌||◌}
use Rattle.std.specs.Prelude.{Option, Some, is_some, slice_get}
use Rattle.std.specs.List.{Contains}
use Rattle.cjc_check_proof.proofs.BytesGets.{any_off}
use Rattle.cjc_int_narrow.specs.Bytes.declared.fault.MemberId.{MemberId}
use Rattle.cjc_int_narrow.specs.Bytecode.PackageCodes.{all_codes}
use Rattle.cjc_int_narrow.specs.Bytecode.declared.method_code.MethodCode.{MethodCode}
use Rattle.cjc_check_proof.specs.Tokens.Members.{is_initialiser}
use Rattle.cjc_check_proof.specs.Types.Flow.{Body, body_of}
use Rattle.cjc_check_proof.specs.Types.Tables.{IsMethodOf}
use Rattle.cjc_check_proof.specs.Types.declared.state.State.{State}
use Rattle.cjc_check_proof.specs.Intervals.Frames.{RangeState}
use Rattle.cjc_check_proof.specs.JvmSemantics.Linked.{Method}
use Rattle.cjc_check_proof.specs.JvmSemantics.OnePackage.{method_at, method_by}
use Rattle.cjc_check_proof.specs.LowerList.Listed.{ListTree}
use Rattle.cjc_int_narrow.specs.LowerNarrow.Rows.Selected.{near_fields}
use Rattle.cjc_int_narrow.specs.ClassFile.Code.{CodeTree}
use Rattle.cjc_int_narrow.specs.ClassFile.declared.tree.ClassTree.{ClassTree}
use Rattle.cjc_int_narrow.specs.ClassFile.declared.tree.MethodTree.{MethodTree}
use Rattle.cjc_int_narrow.specs.World.Files.{Files}
use Rattle.cjc_check_proof.specs.LowerComponents.Components.{components_of, header, header_flags, uses_int}
use Rattle.cjc_check_proof.specs.LowerComponents.Exports.{export}
use Rattle.cjc_check_proof.specs.LowerComponents.Package.{LaidMethod, Package, has_applets, pool, world}
use Rattle.cjc_check_proof.specs.LowerComponents.Written.{IsPackage, IsWritten}
use Rattle.cjc_int_narrow.specs.LowerIntMode.Modes.{IsModeOf}
use Rattle.cjc_int_narrow.specs.LowerIntMode.declared.modes.Mode.{Mode}
use Rattle.cjc_int_narrow.specs.LowerIntMode.declared.modes.Mode.TheVariants as modes
use Rattle.cjc_int_components.specs.Components.{components_by_modes, has_int_mode, is_in_int_mode}
use Rattle.cjc_int_components.specs.Modes.{AreModes, Tables}
use Rattle.cjc_int_components.specs.Written.{IsPackageByModes, IsWrittenByMode}
use Rattle.cjc_int_package.proofs.ByModes.{same_code}

-- ---- one method

-- a method that is not in int mode is written as in a package without int mode
pub written_outside : (files : Files) (near : List MemberId) (t : Tables) (m : LaidMethod)
    → IsWrittenByMode files near t m → is_in_int_mode t (method_at files m.member) ≡ false
    → IsWritten files near t.types m
written_outside files near t m w off = record {
  is_abstract = w.is_abstract;
  code = w.code ∙ same_code files near t m.member (method_at files m.member) off;
  wide = w.wide;
}

-- ---- a package

module _ (list : ListTree) (files : Files) (codes : List MethodCode) (t : Tables) (p : Package)
    (off : has_int_mode t p ≡ false) where
  one_off : p.files ≡ files → (k : ℕ) (m : LaidMethod) → slice_get p.methods k ≡ Some m
      → is_in_int_mode t (method_at files m.member) ≡ false
  one_off same k m e =
      ap (λ (fs : Files). is_in_int_mode t (method_at fs m.member)) (sym same)
      ∙ any_off (λ (x : LaidMethod). is_in_int_mode t (method_at p.files x.member)) p.methods k m off e

  pub without_int_mode : IsPackageByModes list files codes t p → IsPackage list files codes t.types p
  without_int_mode is = record {
    by_list = is.by_list;
    by_files = is.by_files;
    image = is.image;
    members = is.members;
    methods = λ k m e. written_outside files (near_fields (pool p)) t m (is.methods k m e) (one_off is.by_files k m e);
  }

  pub as_without_int_mode : IsPackage list files codes t.types p → IsPackageByModes list files codes t p
  as_without_int_mode is = record {
    by_list = is.by_list;
    by_files = is.by_files;
    image = is.image;
    members = is.members;
    methods = λ k m e. (let w = is.methods k m e in record {
      is_abstract = w.is_abstract;
      code = w.code ∙ sym (same_code files (near_fields (pool p)) t m.member (method_at files m.member)
          (one_off is.by_files k m e));
      wide = w.wide;
    });
  }

-- ---- components

pub or_false : (a : Bool) → (a || false) ≡ a
or_false true = refl
or_false false = refl

pub same_components : (t : Tables) (p : Package) → has_int_mode t p ≡ false → components_by_modes t p ≡ components_of p
same_components t p off =
    ap (λ (b : Bool). record (components_of p) {
      header = record (header p) {
        flags = header_flags (uses_int (world p) || b) (is_some (export p)) (has_applets p);
      };
    }) off
    ∙ ap (λ (b : Bool). record (components_of p) {
      header = record (header p) { flags = header_flags b (is_some (export p)) (has_applets p) };
    }) (or_false (uses_int (world p)))

-- ---- without the line int

short_without_int : (b : Body) (types : List (Option State)) (ranges : List (Option RangeState)) (mode : Mode)
    → IsModeOf false b types ranges mode → mode ≡ modes.Short
short_without_int b types ranges modes.Short is = refl
short_without_int b types ranges modes.Int is = let no = is.allowed in absurd cc

pub modes_short : (files : Files) (t : Tables) → AreModes false files t → (code : MethodCode) (class : ClassTree)
    (method : MethodTree) (tree : CodeTree) → Contains (all_codes files.classes) code
    → IsMethodOf files code class method tree → t.mode (method_by class method (Some tree)) ≡ modes.Short
modes_short files t are code class method tree there is = go (is_initialiser method.name) refl
  where
    go : (b : Bool) → is_initialiser method.name ≡ b → t.mode (method_by class method (Some tree)) ≡ modes.Short
    go true e = are.initialisers class method tree e
    go false e =
        let x : Method = method_by class method (Some tree) in
        short_without_int (body_of class method tree code.insns) (t.types x) (t.ranges x) (t.mode x)
        (are.with_code code class method tree there is e)
