-- A converted package as a member of a group by name: with the least tables of its methods it was tested and breaks no
-- rule, and its narrow code by these is what it has in Method.
use Rattle.std.proofs.Common.{◌≡◌, ℕ, refl, sym, ap, subst, ◌∙◌, true, false, List, Some}
use Rattle.std.specs.Prelude.{◌&&◌, Option, not, slice_get, ℤ}
use Rattle.cjc_bytes.specs.AccessFlags.{is_interface, is_private}
use Rattle.cjc_bytes.specs.Breaks.{Break}
use Rattle.cjc_bytes.specs.declared.fault.MemberId.{MemberId}
use Rattle.cjc_bytes.specs.declared.settings.Settings.{Settings}
use Rattle.cjc_components.specs.Bytecode.declared.method_code.MethodCode.{MethodCode}
use Rattle.cjc_components.specs.Package.{Package, pool, world}
use Rattle.cjc_joint_theorem.specs.Members.{Member}
use Rattle.cjc_joint_whole.specs.Whole.{IsWholeMember}
use Rattle.cjc_jvm_semantics.specs.Group.{is_package_visible}
use Rattle.cjc_jvm_semantics.specs.Linked.{Method}
use Rattle.cjc_jvm_semantics.specs.OnePackage.{is_initialiser, method_at}
use Rattle.cjc_narrow_proof.proofs.LawsLaws.Instructions.{kept_names}
use Rattle.cjc_narrow_proof.specs.Runs.Converted.{IsFirst}
use Rattle.cjc_narrow_proof.specs.Runs.Tables.{Tables, look_ups, narrow_codes}
use Rattle.cjc_shape_proof.proofs.WrittenLaws.Files.{is_checked, same_files}
use Rattle.cjc_shape_proof.specs.Intervals.Frames.{RangeState}
use Rattle.cjc_shape_proof.specs.Intervals.Tables.{IsLeastRanges}
use Rattle.cjc_shape_proof.specs.LowerJudge.Rules.{settings_of}
use Rattle.cjc_shape_proof.specs.LowerShape.Whole.Conversion.{AreShort}
use Rattle.cjc_shape_proof.specs.Whole.{IsWhole}
use Rattle.cjc_shape_proof.specs.WorldProof.Files.{ExportsAreSound}
use Rattle.cjc_theorem.proofs.SoundRuns.Alike.{own_tables, same_code, whole}
use Rattle.cjc_theorem.proofs.SoundRuns.Drafts.{by_package}
use Rattle.cjc_token_proof.specs.Clinit.Image.{IsImage}
use Rattle.cjc_token_proof.specs.Clinit.Rules.{BreaksImage}
use Rattle.cjc_token_proof.specs.List.Listed.{ListTree}
use Rattle.cjc_token_proof.specs.Narrow.Rows.Selected.{near_fields}
use Rattle.cjc_token_proof.specs.Subset.Members.{imports}
use Rattle.cjc_token_proof.specs.Types.Flow.{Body}
use Rattle.cjc_token_proof.specs.Types.declared.state.State.{State}
use Rattle.cjc_token_proof.specs.WrittenCalls.Standing.{laid_code, laid_from}
use Rattle.cjc_tokens.specs.Members.{is_exposed}
use Rattle.cjc_world.specs.Classes.{Class, Member as WorldMember, class_named}
use Rattle.cjc_world.specs.ExportFile.declared.tree.ExportClass.{ExportClass}
use Rattle.cjc_world.specs.ExportFile.declared.tree.ExportMethod.{ExportMethod}
use Rattle.cjc_world.specs.Files.{Files}
use Rattle.cjc_world.specs.declared.found.Found.{Found}
use Rattle.cjc_world.specs.declared.image.StaticImage.{StaticImage}
use Rattle.cjc_joint_files.specs.Members.{IsMemberOf}
use Rattle.cjc_joint_files.specs.Written.{IsWritten}

-- what is public or protected is not package-visible
pub not_visible : (flags : ℕ) → is_exposed flags ≡ true → is_package_visible flags ≡ false
not_visible flags shown = ap (λ b. not b && not (is_private flags)) shown

-- there are least tables of intervals
abbrev pub HasRanges : Type 0
HasRanges = (b : Body) (constant : MemberId → Option ℤ) (types : List (Option State)) → (ranges : List (Option
    RangeState)) × IsLeastRanges b constant types ranges

-- static images of such packages are of sound types
abbrev pub HasFirst : Type 0
HasFirst = (list : List ℕ) (files : Files) (codes : List MethodCode) (settings : Settings) (tables : Tables)
    → IsWhole list files codes settings tables → (image : StaticImage) → IsImage files codes image
    → ((b : Break) → BreaksImage files codes b → ⊥) → (near : List MemberId)
    → IsFirst (look_ups files image near tables) files image

module _ (least : HasRanges) (p : Package) (is : IsWritten p) where
  abbrev list : ListTree
  list = is.list

  abbrev near : List MemberId
  near = near_fields (pool p)

  abbrev codes : List MethodCode
  codes = (let j = is.judged in j.codes)

  same : p.files ≡ (let j = is.judged in j.world)
  same = same_files is.list is.files is.judged p is.converted

  abbrev tables : Tables
  tables = own_tables is.list is.files is.judged (let c = is.converted in c.sound) least

  abbrev pub member_with : Member
  member_with = record { files = p.files; image = p.image; near = near; tables = tables }

  exports_sound : ExportsAreSound (let j = is.judged in j.world)
  exports_sound = let c = is.converted in subst ExportsAreSound same c.exports

  short : AreShort list.ints (let j = is.judged in j.world)
  short = let c = is.converted in let laid = c.is_package in subst (AreShort list.ints) same laid.short

  is_whole : IsWhole list.name p.files codes (settings_of list) tables
  is_whole = let c = is.converted in
      subst (λ (v : Files). IsWhole list.name v codes (settings_of list) tables) (sym same)
      (whole is.list is.files is.judged c.sound least c.read exports_sound short)

  same_codes : (f : Found) (x : Method) → method_at p.files f ≡ Some x
      → narrow_codes p.files near tables x ≡ laid_code p x
  same_codes f x found = let c = is.converted in
      subst (λ (v : Files). narrow_codes v near tables x ≡ laid_from v near p.methods x) (sym same)
      (same_code is.list is.files is.judged c.sound least c.read exports_sound p (by_package is.list is.files p
      c.is_package) f x (ap (λ (v : Files). method_at v f) (sym same) ∙ found))

  pub is_member : IsMemberOf p member_with
  is_member = record { files = refl; image = refl; near = refl; codes = same_codes }

  module _ (first : HasFirst)
      (no_private : (k i : ℕ) (e : ExportClass) (m : ExportMethod) → (let f = p.files in slice_get (imports f.exports) k
      ≡ Some e) → slice_get e.methods i ≡ Some m → is_private m.flags ≡ false)
      (interfaces : (k : ℕ) (x : List ℕ) (i : Class) (m : WorldMember) → class_named (world p) x ≡ Some i
      → is_interface i.flags ≡ true → slice_get i.methods k ≡ Some m → is_initialiser m.name ≡ false
      → is_exposed m.flags ≡ true) where
    image : IsImage p.files codes p.image
    image =
        let c = is.converted in
        let laid = c.is_package in
        let written = laid.is_package in
        let checked = is_checked is.list is.files is.judged p c in
        subst (λ cs. IsImage p.files cs p.image) (sym checked.codes_are) written.image

    pub whole_member : IsWholeMember member_with
    whole_member =
        let c = is.converted in
        let checked = is_checked is.list is.files is.judged p c in
        let whole = is_whole in
        let u = whole.unbroken in
        record {
          list = list.name;
          codes = codes;
          settings = settings_of list;
          whole = record {
            unbroken = kept_names u;
            package_name = whole.package_name;
            read = whole.read;
            sound = whole.sound;
          };
          coded = record {
            no_int = u.no_int;
            tabled = whole.tabled;
            first = first list.name p.files codes (settings_of list) tables whole p.image image checked.initialisers
                near;
          };
          plain = c.plain;
          agree = c.agree;
          no_private = no_private;
          interfaces = λ x d i m named kind has plain. not_visible m.flags (interfaces i x d m named kind has plain);
        }
