-- A package that breaks no rule of its files, with its methods laid out.
use Rattle.std.proofs.Common.{◌≡◌, ℕ, refl, sym, ap, subst, ◌∙◌, inl, inr, Bool, List, [], ◌∷◌, length}
use Rattle.std.specs.Prelude.{◌||◌, map}
use Rattle.std.specs.List.{list_any}
use Rattle.cjc_exported.specs.Bytes.Breaks.{Break, IsFirstRefusal}
use Rattle.cjc_exported.specs.Bytes.declared.fault.Fault.{Fault}
use Rattle.cjc_methods.specs.Clinit.Image.{IsImage}
use Rattle.cjc_methods.specs.Bytecode.PackageCodes.{all_codes}
use Rattle.cjc_exported.specs.Components.ExportFile.{export_of}
use Rattle.cjc_exported.specs.Components.Limits.{else_of, form_breaks, of_methods}
use Rattle.cjc_exported.specs.Components.Package.{LaidMethod, Package}
use Rattle.cjc_narrow_proof.specs.ExportFile.Written.{constants}
use Rattle.cjc_judge.specs.Rules.{has_applets}
use Rattle.cjc_judge.specs.declared.judged.Judged.{Judged}
use Rattle.cjc_methods.specs.JvmSemantics.OnePackage.{method_at}
use Rattle.cjc_methods.specs.Layouts.Laid.{AreOf}
use Rattle.cjc_methods.specs.Layouts.Limits.{IsTold}
use Rattle.cjc_methods.specs.List.Listed.{ListTree}
use Rattle.cjc_methods.specs.LowerIntPackage.Components.{is_in_int_mode}
use Rattle.cjc_methods.specs.LowerIntPackage.Limits.{word_breaks_by_modes}
use Rattle.cjc_methods.specs.LowerIntPackage.Modes.{Tables}
use Rattle.cjc_methods.specs.LowerIntPackage.Written.{code_by_mode_at}
use Rattle.cjc_methods.specs.Narrow.Rows.Selected.{near_fields}
use Rattle.cjc_narrow_proof.specs.NCode.PoolOrder.{pool_order}
use Rattle.cjc_narrow_proof.specs.NCode.declared.narrow.NMethod.{NMethod}
use Rattle.cjc_shape.specs.Prepared.{BreaksNothing, IsSound}
use Rattle.cjc_methods.specs.Tokens.Tokens.{assigned}
use Rattle.cjc_exported.specs.World.declared.found.Found.{Found}
use Rattle.cjc_shape.specs.Whole.Conversion.{HasModes, IsDraft, IsPackageByModesOf}
use Rattle.cjc_shape.specs.Whole.Working.Shaped.{IsShaped, Stopped, package_of}
use Rattle.cjc_shape.specs.declared.whole.shaping.Shaped.{Shaped}
use Rattle.cjc_shape.proofs.WholeLaws.Codes.{draft, is_draft, narrow_codes, narrow_is, only_codes, package_is_draft}
use Rattle.cjc_shape.proofs.WholeLaws.Drafts.{spelt_of}
use Rattle.cjc_methods.proofs.LayoutsLaws.Kept.{is_package}
use Rattle.cjc_shape.proofs.WholeLaws.Second.{F, W, form_refused, forms_are, fs, is_base, mode_words_are}
use Rattle.cjc_methods.proofs.BytesBrokenRules.{no_among}

-- the first of some is the first of these, else of others
else_first : (xs ys : List Break) (e : Fault) → IsFirstRefusal xs e → IsFirstRefusal (else_of xs ys) e
else_first xs ys e (inl memory) = inl memory
else_first [] ys e (inr (b, first, is)) = absurd (no_among b first.among)
else_first (x ∷ xs) ys e (inr refused) = inr refused

-- one of the members that these have
pub any_member : (P : Found → Bool) (ms : List LaidMethod) → list_any P (map (λ m. m.member) ms)
    ≡ list_any (λ (m : LaidMethod). P m.member) ms
any_member P [] = refl
any_member P (m ∷ ms) = ap (λ b. P m.member || b) (any_member P ms)

module _ (list : ListTree) (files : List (List ℕ)) (judged : Judged) (is : IsSound list files judged) (t : Tables)
    (has : HasModes list.ints judged.world t) where
  abbrev n : List NMethod
  n = narrow_codes list files judged is t has

  abbrev d : Package
  d = draft list files judged is t has

  abbrev of_draft : IsDraft list files d
  of_draft = is_draft list files judged is t has

  -- ---- refusals

  -- 417
  own_words : of_methods d (word_breaks_by_modes t d) ≡ W list files judged is t has
  own_words = mode_words_are list judged.world (fs list files judged is) n t d (is_base list files judged is t has d
      of_draft)

  own_forms : form_breaks d ≡ F list files judged is t has
  own_forms = forms_are list judged.world (fs list files judged is) n d (is_base list files judged is t has d of_draft)

  pub words_refused : (e : Fault) → IsFirstRefusal (of_methods d (word_breaks_by_modes t d)) e → Stopped list files e
  words_refused e refused =
      form_refused list files judged is t has e
      (else_first (W list files judged is t has) (F list files judged is t has) e
      (subst (λ bs. IsFirstRefusal bs e) own_words refused))

  -- 311, 414 and 415, where 417 is unbroken
  pub forms_refused : (e : Fault) → of_methods d (word_breaks_by_modes t d) ≡ [] → IsFirstRefusal (form_breaks d) e
      → Stopped list files e
  forms_refused e none refused =
      let empty : W list files judged is t has ≡ [] = sym own_words ∙ none in
      form_refused list files judged is t has e
      (subst (λ bs. IsFirstRefusal (else_of bs (F list files judged is t has)) e) (sym empty)
      (subst (λ bs. IsFirstRefusal bs e) own_forms refused))

  -- ---- what is told of the draft

  pub told : (name : List ℕ) (members : List Found) (narrow : List NMethod) (exported : ℕ) → list.name ≡ name
      → members ≡ fs list files judged is → narrow ≡ n → exported ≡ length (constants (export_of d))
      → IsTold name judged.world members narrow exported d
  told name members narrow exported e f g h =
      let base = is_base list files judged is t has d of_draft in
      record {
        by_list = ap (λ (l : ListTree). l.name) base.by_list ∙ e;
        by_files = base.by_files;
        by_members = base.by_members ∙ sym f;
        by_codes = base.by_codes ∙ sym g;
        by_export = h;
      }

  -- ---- narrow code by its own pool

  pub is_narrow : (members : List Found) (narrow : List NMethod) → members ≡ fs list files judged is
      → narrow ≡ map (code_by_mode_at judged.world (near_fields (pool_order narrow)) t) members → narrow ≡ n
  is_narrow members narrow f e =
      only_codes list files judged is t has narrow t has
      (e ∙ ap (λ ms. map (code_by_mode_at judged.world (near_fields (pool_order narrow)) t) ms) f)

  pub selected : (members : List Found) (narrow : List NMethod) → members ≡ fs list files judged is → narrow ≡ n
      → narrow ≡ map (code_by_mode_at judged.world (near_fields (pool_order narrow)) t) members
  selected members narrow f g =
      g ∙ narrow_is list files judged is t has
      ∙ ap (λ ms. map (code_by_mode_at judged.world (near_fields (pool_order n)) t) ms) (sym f)
      ∙ ap (λ cs. map (code_by_mode_at judged.world (near_fields (pool_order cs)) t) members) (sym g)

-- ---- the package

module _ (j : Judged) (is : BreaksNothing j) (t : Tables)
    (has : HasModes (let list = j.list.now in list.ints) j.world t) where
  pub shaped : (s : Shaped) (members : List Found) (narrow : List NMethod)
      → members ≡ fs j.list.now j.files.now j is → narrow ≡ narrow_codes j.list.now j.files.now j is t has
      → s.tokens.now ≡ assigned (has_applets j.list.now) j.world → IsImage j.world j.codes s.image
      → AreOf j.world members narrow s.methods
      → ((p : Package) → p.list ≡ j.list.now → p.files ≡ j.world → s.export ≡ export_of p)
      → s.in_int_mode ≡ list_any (λ f. is_in_int_mode t (method_at j.world f)) members
      → (let d = draft j.list.now j.files.now j is t has in of_methods d (word_breaks_by_modes t d) ≡ [])
      → form_breaks (draft j.list.now j.files.now j is t has) ≡ [] → IsShaped j s
  shaped s members narrow f g tokens image are export mode none fine =
      let list = j.list.now in
      let files = j.files.now in
      let p = package_of j s in
      let insns = (let w = j.world in all_codes w.classes) in
      let whole : IsPackageByModesOf list files p = record {
        tables = t;
        spelt = spelt_of list files j is t.types (λ code class method tree contains of. (has.least code class method
            tree contains of).0);
        has = has;
        is_package = is_package list j.world insns s.image
            (subst (λ cs. IsImage j.world cs s.image) is.judged_by.read.codes_are image)
            t members f narrow (selected list files j is t has members narrow f g) s.methods are;
      } in
      let base = is_base list files j is t has p (package_is_draft list files p whole) in
      let own = is_base list files j is t has (draft list files j is t has) (is_draft list files j is t has) in
      let w = fs list files j is in
      let n = narrow_codes list files j is t has in
      record {
        is_package = whole;
        by_tokens = tokens;
        laid = are.laid;
        by_export = export p refl refl;
        by_mode = mode ∙ ap (list_any (λ f. is_in_int_mode t (method_at j.world f))) (f ∙ sym base.by_members)
            ∙ any_member (λ f. is_in_int_mode t (method_at j.world f)) p.methods;
        words = mode_words_are list j.world w n t p base
            ∙ sym (mode_words_are list j.world w n t (draft list files j is t has) own) ∙ none;
        forms = forms_are list j.world w n p base
            ∙ sym (forms_are list j.world w n (draft list files j is t has) own) ∙ fine;
      }
