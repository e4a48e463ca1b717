-- A package none of whose methods is in int mode is by modes what it is without them.
use Rattle.std.proofs.Common.{◌≡◌, ℕ, suc, refl, sym, ap, subst, ◌∙◌, Bool, false, ◌||◌, List, [], ◌∷◌}
use Rattle.std.specs.List.{list_any}
use Rattle.std.specs.Prelude.{ℤ, Option, Some, map, option_map, slice_get}
use Rattle.std.proofs.lemmas.Option.{slice_get-map}
use Rattle.cjc_exported.specs.Bytes.declared.fault.MemberId.{MemberId}
use Rattle.cjc_exported.specs.ClassFile.Code.{CodeTree}
use Rattle.cjc_exported.specs.ClassFile.declared.tree.ClassTree.{ClassTree}
use Rattle.cjc_exported.specs.ClassFile.declared.tree.MethodTree.{MethodTree}
use Rattle.cjc_exported.specs.Components.Limits.{of_methods, word_breaks}
use Rattle.cjc_exported.specs.Components.Package.{LaidMethod, Package, pool}
use Rattle.cjc_exported.specs.World.Classes.{all_classes}
use Rattle.cjc_exported.specs.World.Files.{Files}
use Rattle.cjc_exported.specs.World.Order.{method_order}
use Rattle.cjc_exported.specs.World.declared.found.Found.{Found}
use Rattle.cjc_int_narrow.specs.Constants.{constants_of}
use Rattle.cjc_intervals.specs.Frames.{RangeState}
use Rattle.cjc_intervals.specs.Tables.{IsLeastRanges}
use Rattle.cjc_judge.specs.declared.judged.Judged.{Judged}
use Rattle.cjc_methods.proofs.BytesGets.{item_has}
use Rattle.cjc_methods.proofs.IntByModes.{same_code}
use Rattle.cjc_methods.specs.Bytecode.declared.method_code.MethodCode.{MethodCode}
use Rattle.cjc_methods.specs.JvmSemantics.Linked.{Method}
use Rattle.cjc_methods.specs.JvmSemantics.OnePackage.{method_at, method_by}
use Rattle.cjc_methods.specs.List.Listed.{ListTree}
use Rattle.cjc_methods.specs.LowerIntPackage.Components.{has_int_mode, is_in_int_mode}
use Rattle.cjc_methods.specs.LowerIntPackage.Limits.{word_breaks_by_modes}
use Rattle.cjc_methods.specs.LowerIntPackage.Modes.{Tables}
use Rattle.cjc_methods.specs.Narrow.Rows.Selected.{near_fields}
use Rattle.cjc_methods.specs.Ready.{IsOwn}
use Rattle.cjc_methods.specs.Types.declared.state.State.{State}
use Rattle.cjc_methods.specs.Types.Flow.{Body, body_of}
use Rattle.cjc_methods.specs.Types.Tables.{IsMethodOf}
use Rattle.cjc_shape.proofs.WholeLaws.Codes.{draft_has, narrow_codes, package_is_draft}
use Rattle.cjc_shape.proofs.WholeLaws.Drafts.{owned, same_members, same_spelt, short_code, short_tables}
use Rattle.cjc_shape.proofs.WholeLaws.Modes.{body_is, member_short, own_body}
use Rattle.cjc_shape.proofs.WholeLaws.Second.{draft_words, is_base, words_are, words_short}
use Rattle.cjc_shape.specs.Prepared.{IsSound}
use Rattle.cjc_shape.specs.Whole.Conversion.{AreLeast, AreShort, HasModes, IsPackageByModesOf, IsPackageOf}

-- ---- lists

none_of : {A : Type 0} (P : A → Bool) (xs : List A) → ((k : ℕ) (x : A) → slice_get xs k ≡ Some x → P x ≡ false)
    → list_any P xs ≡ false
none_of P [] off = refl
none_of P (x ∷ xs) off = ap (λ b. b || list_any P xs) (off 0 x refl) ∙ none_of P xs (λ k y e. off (suc k) y e)

-- ---- a package

module _ (list : ListTree) (files : List (List ℕ)) (judged : Judged) (is : IsSound list files judged) where
  abbrev world : Files
  world = judged.world

  -- a method is of a member of a class of these files
  pub member_own : (p : Package) → p.files ≡ world → map (λ m. m.member) p.methods ≡ method_order (all_classes p.files)
      → (k : ℕ) (m : LaidMethod) → slice_get p.methods k ≡ Some m → IsOwn world m.member
  member_own p here members k m e =
      let there : slice_get (method_order (all_classes world)) k ≡ Some m.member =
      ap (λ (fs : List Found). slice_get fs k) (sym (same_members list files judged is p here members))
      ∙ slice_get-map (λ (x : LaidMethod). x.member) p.methods k ∙ ap (option_map (λ (x : LaidMethod). x.member)) e in
      item_has (IsOwn world) (method_order (all_classes world)) k m.member (owned list files judged is) there

  -- ---- by modes, where none is in int mode

  module _ (p : Package) (whole : IsPackageByModesOf list files p) (short : AreShort list.ints p.files) where
    abbrev t : Tables
    t = whole.tables

    here : p.files ≡ world
    here = same_spelt list files judged is p.files (let u = whole.tables in u.types) whole.spelt

    off_at : (k : ℕ) (m : LaidMethod) → slice_get p.methods k ≡ Some m
        → is_in_int_mode t (method_at p.files m.member) ≡ false
    off_at k m e =
        ap (λ (w : Files). is_in_int_mode t (method_at w m.member)) here
        ∙ member_short list files judged is t (subst (λ w. HasModes list.ints w t) here whole.has)
        (subst (λ w. AreShort list.ints w) here short) m.member
        (member_own p here whole.is_package.members k m e)

    pub none_in_int_mode : has_int_mode t p ≡ false
    none_in_int_mode = none_of (λ (m : LaidMethod). is_in_int_mode t (method_at p.files m.member)) p.methods off_at

    -- 417 is that of arguments alone
    pub words_as_before : of_methods p (word_breaks_by_modes t p) ≡ of_methods p (word_breaks p)
    words_as_before =
        let d = package_is_draft list files p whole in
        let has = draft_has list files judged is p d in
        draft_words list files judged is t has p d
        ∙ words_short list files judged is t has (subst (λ w. AreShort list.ints w) here short)
        ∙ sym (words_are list world (method_order (all_classes world)) (narrow_codes list files judged is t has) p
        (is_base list files judged is t has p d))

    pub to_short : IsPackageOf list files p
    to_short = record {
      rows = (let u = whole.tables in u.types);
      spelt = whole.spelt;
      short = short;
      is_package = record {
        by_list = whole.is_package.by_list;
        by_files = whole.is_package.by_files;
        image = whole.is_package.image;
        members = whole.is_package.members;
        methods = λ k m e. (let w = whole.is_package.methods k m e in record {
          is_abstract = w.is_abstract;
          code = w.code ∙ same_code p.files (near_fields (pool p)) t m.member (method_at p.files m.member)
              (off_at k m e);
          wide = w.wide;
        });
      };
    }

  -- ---- tables of a package without int mode

  module _ (exist : (b : Body) (constant : MemberId → Option ℤ) (types : List (Option State))
      → (ranges : List (Option RangeState)) × IsLeastRanges b constant types ranges) where
    pub ranges_by : (Method → List (Option State)) → Method → List (Option RangeState)
    ranges_by rows m = (exist (own_body list files judged is exist m) (constants_of world) (rows m)).0

    ranged_by : (rows : Method → List (Option State)) (code : MethodCode) (class : ClassTree) (method : MethodTree)
        (tree : CodeTree) → IsMethodOf world code class method tree
        → (let m = method_by class method (Some tree) in IsLeastRanges (body_of class method tree code.insns)
        (constants_of world) (rows m) (ranges_by rows m))
    unfolding ranges_by
    ranged_by rows code class method tree of = let m = method_by class method (Some tree) in
        subst (λ b. IsLeastRanges b (constants_of world) (rows m) (ranges_by rows m))
        (body_is list files judged is exist code class method tree of)
        (exist (own_body list files judged is exist m) (constants_of world) (rows m)).1

    pub short_has : (rows : Method → List (Option State)) → AreLeast world rows → AreShort list.ints world
        → HasModes list.ints world (short_tables rows (ranges_by rows))
    short_has rows all short = record {
      least = λ code class method tree contains of. (
        all code class method tree contains of,
        ranged_by rows code class method tree of,
      );
      modes = record {
        with_code = λ code class method tree contains of plain. let m = method_by class method (Some tree) in
            short code class method tree contains of plain (rows m) (all code class method tree contains of)
            (ranges_by rows m) (ranged_by rows code class method tree of);
        initialisers = λ class method tree e. refl;
        without_code = λ class method. refl;
      };
    }

    pub to_modes : (p : Package) → IsPackageOf list files p → IsPackageByModesOf list files p
    to_modes p whole =
        let rows = whole.rows in
        let here : p.files ≡ world = same_spelt list files judged is p.files rows whole.spelt in
        record {
          tables = short_tables rows (ranges_by rows);
          spelt = whole.spelt;
          has = subst (λ w. HasModes list.ints w (short_tables rows (ranges_by rows))) (sym here)
              (short_has rows (subst (λ w. AreLeast w rows) here whole.spelt.least)
              (subst (λ w. AreShort list.ints w) here whole.short));
          is_package = record {
            by_list = whole.is_package.by_list;
            by_files = whole.is_package.by_files;
            image = whole.is_package.image;
            members = whole.is_package.members;
            methods = λ k m e. (let w = whole.is_package.methods k m e in record {
              is_abstract = w.is_abstract;
              code = w.code ∙ sym (short_code p.files (near_fields (pool p)) rows (ranges_by rows) m.member);
              wide = w.wide;
            });
          };
        }
