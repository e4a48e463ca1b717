-- What the methods of a package break of rules on what is written is settled by its list, its files and its narrow
-- code.
use Rattle.std.proofs.Common.{◌≡◌, ℕ, suc, refl, sym, ap, subst, ◌∙◌, inl, inr, Bool, true, false, ◌||◌, List, []}
use Rattle.std.proofs.Common.{◌∷◌, ◌++◌, length, nat_lt}
use Rattle.std.specs.Prelude.{Option, Some, None, map, slice_get}
use Rattle.std.specs.List.{flat_map}
use Rattle.std.proofs.lemmas.List.Concat.{flat_map-cons}
use Rattle.cjc_exported.specs.Bytes.Breaks.{Among, Break, IsFirst, IsFirstRefusal, at}
use Rattle.cjc_exported.specs.Bytes.Order.{NotAfter}
use Rattle.cjc_exported.specs.Bytes.declared.fault.Fault.{Fault}
use Rattle.cjc_exported.specs.Bytes.declared.fault.Fault.TheVariants as faults
use Rattle.cjc_exported.specs.Components.ExportFile.{export_of}
use Rattle.cjc_exported.specs.Components.Descriptor.{method_in}
use Rattle.cjc_exported.specs.Components.Limits.{else_of, form_breaks, has_many_words, in_class, layout_breaks}
use Rattle.cjc_exported.specs.Components.Limits.{method_spot, of_methods, spot_of_list, word_breaks}
use Rattle.cjc_exported.specs.Components.Package.{LaidMethod, Package, codes, pool, world}
use Rattle.cjc_narrow_proof.specs.ExportFile.Written.{constants}
use Rattle.cjc_judge.specs.declared.judged.Judged.{Judged}
use Rattle.cjc_judge.specs.Rules.{Breach, IsFirstOf, OnLevels, on_first, on_second}
use Rattle.cjc_methods.proofs.BytesGets.{item_has}
use Rattle.cjc_methods.proofs.Rooms.{no_lack, rooms_alike}
use Rattle.cjc_methods.specs.JvmSemantics.OnePackage.{method_at}
use Rattle.cjc_methods.specs.List.Listed.{ListTree}
use Rattle.cjc_methods.specs.LowerIntPackage.Limits.{lacks_int_room, word_breaks_by_modes}
use Rattle.cjc_methods.specs.LowerIntPackage.Modes.{Tables}
use Rattle.cjc_methods.specs.Ready.{IsOwn}
use Rattle.cjc_narrow_proof.specs.NCode.PoolOrder.{pool_order}
use Rattle.cjc_narrow_proof.specs.NCode.declared.narrow.NMethod.{NMethod}
use Rattle.cjc_shape.specs.Prepared.{IsSound, tested}
use Rattle.cjc_exported.specs.World.declared.found.Found.{Found}
use Rattle.cjc_exported.specs.World.declared.image.StaticImage.{StaticImage}
use Rattle.cjc_exported.specs.World.Classes.{Class, all_classes, class_at}
use Rattle.cjc_exported.specs.World.Files.{Files}
use Rattle.cjc_exported.specs.World.Order.{method_order}
use Rattle.cjc_shape.specs.Whole.Conversion.{AreShort, BreaksWritten, HasModes, IsDraft, IsPackageByModesOf}
use Rattle.cjc_shape.specs.Whole.Conversion.{of_form, of_size}
use Rattle.cjc_shape.specs.Whole.Working.Shaped.{Stopped}
use Rattle.cjc_shape.proofs.PreparedLaws.Sound.{are_ready}
use Rattle.cjc_shape.proofs.WholeLaws.Codes.{draft, draft_files, draft_has, is_draft, narrow_codes, package_is_draft}
use Rattle.cjc_shape.proofs.WholeLaws.Codes.{same_narrow}
use Rattle.cjc_shape.proofs.WholeLaws.Drafts.{owned, same_members}
use Rattle.cjc_shape.proofs.WholeLaws.Modes.{member_short, modes_count, tables_told}
use Rattle.cjc_methods.proofs.BytesBrokenRules.{no_among}

-- ---- what rules on methods go by

no_image : StaticImage
no_image = record { arrays = []; nulls = []; zeros = []; others = [] }

-- a package by its list and its files alone
pub base : ListTree → Files → Package
base list files = record { list = list; files = files; image = no_image; methods = [] }

-- a method by its place and its code alone
pub laid : Found → NMethod → LaidMethod
laid f c = record { member = f; is_abstract = false; code = c; wide = [] }

pub zipped : (Class → LaidMethod → List Break) → List Class → List Found → List NMethod → List Break
zipped B w [] cs = []
zipped B w (f ∷ fs) [] = []
zipped B w (f ∷ fs) (c ∷ cs) = in_class B (laid f c) (class_at w f.imported f.class) ++ zipped B w fs cs

-- where each method breaks the same
zipped_same : (B C : Class → LaidMethod → List Break) (w : List Class) (fs : List Found) (cs : List NMethod)
    → ((k : ℕ) (f : Found) → slice_get fs k ≡ Some f → (c : NMethod) (o : Option Class) → in_class B (laid f c) o
    ≡ in_class C (laid f c) o) → zipped B w fs cs ≡ zipped C w fs cs
unfolding zipped
zipped_same B C w [] cs same = refl
zipped_same B C w (f ∷ fs) [] same = refl
zipped_same B C w (f ∷ fs) (c ∷ cs) same =
    ap (λ bs. bs ++ zipped B w fs cs) (same 0 f refl c (class_at w f.imported f.class))
    ∙ ap (λ bs. in_class C (laid f c) (class_at w f.imported f.class) ++ bs) (zipped_same B C w fs cs (λ k g e. same
    (suc k) g e))

all_zipped : (p : Package) (B C : Class → LaidMethod → List Break) → ((m : LaidMethod) (o : Option Class)
    → in_class B m o ≡ in_class C (laid m.member m.code) o) → (ms : List LaidMethod)
    → flat_map (λ m. let f = m.member in in_class B m (class_at (world p) f.imported f.class)) ms
    ≡ zipped C (world p) (map (λ m. m.member) ms) (map (λ m. m.code) ms)
unfolding zipped
all_zipped p B C same [] = refl
all_zipped p B C same (m ∷ ms) =
    let f = m.member in
    flat_map-cons (λ (x : LaidMethod). let g = x.member in in_class B x (class_at (world p) g.imported g.class)) m ms
    ∙ ap (λ bs. bs ++ flat_map (λ (x : LaidMethod). let g = x.member
    in in_class B x (class_at (world p) g.imported g.class)) ms) (same m (class_at (world p) f.imported f.class))
    ∙ ap (λ bs. in_class C (laid m.member m.code) (class_at (world p) f.imported f.class)
    ++ bs) (all_zipped p B C same ms)

words_by : (p : Package) (m : LaidMethod) (o : Option Class) → in_class (word_breaks p) m o
    ≡ in_class (word_breaks (base p.list p.files)) (laid m.member m.code) o
unfolding base laid
words_by p m None = refl
words_by p m (Some c) = refl

mode_words_by : (t : Tables) (p : Package) (m : LaidMethod) (o : Option Class) → in_class (word_breaks_by_modes t p) m o
    ≡ in_class (word_breaks_by_modes t (base p.list p.files)) (laid m.member m.code) o
unfolding base laid
mode_words_by t p m None = refl
mode_words_by t p m (Some c) = refl

layouts_by : (p : Package) (m : LaidMethod) (o : Option Class) → in_class (layout_breaks p) m o
    ≡ in_class (layout_breaks (base p.list p.files)) (laid m.member m.code) o
unfolding base laid
layouts_by p m None = refl
layouts_by p m (Some c) = refl

export_by : (p : Package) → export_of p ≡ export_of (base p.list p.files)
unfolding base
export_by p = refl

pub else_same : (xs bs cs ds : List Break) → xs ≡ bs → cs ≡ ds → else_of xs cs ≡ else_of bs ds
else_same xs bs cs ds e f = ap (λ ys. else_of ys cs) e ∙ ap (else_of bs) f

-- nothing of the first, and so of the second
pub both_none : (xs ys : List Break) → else_of xs ys ≡ [] → (xs ≡ []) × (ys ≡ [])
both_none [] ys e = (refl, e)
both_none (x ∷ xs) ys e = cc

module _ (list : ListTree) (files : Files) (members : List Found) (narrow : List NMethod) where
  pub words : List Break
  words = zipped (word_breaks (base list files)) (all_classes files) members narrow

  pub layouts : List Break
  layouts = zipped (layout_breaks (base list files)) (all_classes files) members narrow

  pub forms : List Break
  forms = layouts ++ at (nat_lt 16383 (length (pool_order narrow))
      || nat_lt 16383 (length (constants (export_of (base list files))))) (spot_of_list (base list files)) 414

  -- a package has these
  pub record Is (p : Package) : Type 0 where
    pub by_list : p.list ≡ list
    pub by_files : p.files ≡ files
    pub by_members : map (λ m. m.member) p.methods ≡ members
    pub by_codes : codes p ≡ narrow

  based : (p : Package) → Is p → base p.list p.files ≡ base list files
  based p is = ap (λ l. base l p.files) is.by_list ∙ ap (base list) is.by_files

  all_by : (p : Package) → Is p → (B : Package → Class → LaidMethod → List Break) → ((m : LaidMethod) (o : Option Class)
      → in_class (B p) m o ≡ in_class (B (base p.list p.files)) (laid m.member m.code) o)
      → of_methods p (B p) ≡ zipped (B (base list files)) (all_classes files) members narrow
  all_by p is B same =
      all_zipped p (B p) (B (base p.list p.files)) same p.methods
      ∙ ap (λ b. zipped (B b) (world p) (map (λ m. m.member) p.methods) (codes p)) (based p is)
      ∙ ap (λ fs. zipped (B (base list files)) (all_classes fs) (map (λ m. m.member) p.methods) (codes p)) is.by_files
      ∙ ap (λ ms. zipped (B (base list files)) (all_classes files) ms (codes p)) is.by_members
      ∙ ap (zipped (B (base list files)) (all_classes files) members) is.by_codes

  pub words_are : (p : Package) → Is p → of_methods p (word_breaks p) ≡ words
  unfolding words
  words_are p is = all_by p is word_breaks (words_by p)

  -- by the modes of methods
  pub mode_words : Tables → List Break
  mode_words t = zipped (word_breaks_by_modes t (base list files)) (all_classes files) members narrow

  pub mode_words_are : (t : Tables) (p : Package) → Is p → of_methods p (word_breaks_by_modes t p) ≡ mode_words t
  unfolding mode_words
  mode_words_are t p is = all_by p is (word_breaks_by_modes t) (mode_words_by t p)

  -- where each member has no less room by others, or has room in int mode
  pub mode_words_same : (t u : Tables) → ((k : ℕ) (f : Found) → slice_get members k ≡ Some f
      → lacks_int_room t files (method_at files f) ≡ lacks_int_room u files (method_at files f))
      → mode_words t ≡ mode_words u
  unfolding mode_words base laid
  mode_words_same t u same = zipped_same (word_breaks_by_modes t (base list files)) (word_breaks_by_modes u
      (base list files)) (all_classes files) members narrow each
    where
      each : (k : ℕ) (f : Found) → slice_get members k ≡ Some f → (c : NMethod) (o : Option Class)
          → in_class (word_breaks_by_modes t (base list files)) (laid f c) o
          ≡ in_class (word_breaks_by_modes u (base list files)) (laid f c) o
      each k f e c None = refl
      each k f e c (Some d) = (let m = method_in (all_classes files) d f.member in
          ap (λ b. at (has_many_words m || b) (method_spot (base list files) d f m 0) 417) (same k f e))

  pub mode_words_none : (t : Tables) → ((k : ℕ) (f : Found) → slice_get members k ≡ Some f
      → lacks_int_room t files (method_at files f) ≡ false) → mode_words t ≡ words
  unfolding mode_words words base laid
  mode_words_none t none = zipped_same (word_breaks_by_modes t (base list files)) (word_breaks (base list files))
      (all_classes files) members narrow each
    where
      or_false : (b : Bool) → (b || false) ≡ b
      or_false true = refl
      or_false false = refl

      each : (k : ℕ) (f : Found) → slice_get members k ≡ Some f → (c : NMethod) (o : Option Class)
          → in_class (word_breaks_by_modes t (base list files)) (laid f c) o
          ≡ in_class (word_breaks (base list files)) (laid f c) o
      each k f e c None = refl
      each k f e c (Some d) = (let m = method_in (all_classes files) d f.member in
          ap (λ b. at (has_many_words m || b) (method_spot (base list files) d f m 0) 417) (none k f e)
          ∙ ap (λ b. at b (method_spot (base list files) d f m 0) 417) (or_false (has_many_words m)))

  pub forms_are : (p : Package) → Is p → form_breaks p ≡ forms
  unfolding forms layouts base
  forms_are p is =
      ap (λ bs. bs ++ at (nat_lt 16383 (length (pool p)) || nat_lt 16383 (length (constants (export_of p))))
      (spot_of_list p) 414) (all_by p is layout_breaks (layouts_by p))
      ∙ ap (λ cs. layouts ++ at (nat_lt 16383 (length (pool_order cs))
      || nat_lt 16383 (length (constants (export_of p)))) (spot_of_list p) 414) is.by_codes
      ∙ ap (λ t. layouts ++ at (nat_lt 16383 (length (pool_order narrow)) || nat_lt 16383 (length (constants t)))
      (spot_of_list p) 414) (export_by p)
      ∙ ap (λ b. layouts ++ at (nat_lt 16383 (length (pool_order narrow))
      || nat_lt 16383 (length (constants (export_of b)))) (spot_of_list b) 414) (based p is)

-- ---- what is broken at the second level

module _ (list : ListTree) (files : List (List ℕ)) (judged : Judged) (is : IsSound list files judged) where
  abbrev pub fs : List Found
  fs = method_order (all_classes judged.world)

  own_at : (k : ℕ) (f : Found) → slice_get fs k ≡ Some f → IsOwn judged.world f
  own_at k f e = item_has (IsOwn judged.world) fs k f (owned list files judged is) e

  module _ (t : Tables) (has : HasModes list.ints judged.world t) where
    abbrev pub W : List Break
    W = mode_words list judged.world fs (narrow_codes list files judged is t has) t

    abbrev pub F : List Break
    F = forms list judged.world fs (narrow_codes list files judged is t has)

    pub is_base : (p : Package) → IsDraft list files p
        → Is list judged.world fs (narrow_codes list files judged is t has) p
    is_base p d = record {
      by_list = d.by_list;
      by_files = draft_files list files judged is p d;
      by_members = same_members list files judged is p (draft_files list files judged is p d) d.members;
      by_codes = same_narrow list files judged is t has p d;
    }

    -- 417 by any tables that are told
    words_alike : (u : Tables) → HasModes list.ints judged.world u
        → mode_words list judged.world fs (narrow_codes list files judged is t has) u ≡ W
    words_alike u have = mode_words_same list judged.world fs (narrow_codes list files judged is t has) u t
        (λ k f e. rooms_alike judged.world judged.codes judged.types judged.modes (are_ready list files judged is)
        (modes_count list files judged is) f (own_at k f e) u t (tables_told list files judged is u have)
        (tables_told list files judged is t has))

    pub draft_words : (p : Package) (d : IsDraft list files p) → of_methods p (word_breaks_by_modes d.tables p) ≡ W
    draft_words p d =
        mode_words_are list judged.world fs (narrow_codes list files judged is t has) d.tables p (is_base p d)
        ∙ words_alike d.tables (draft_has list files judged is p d)

    pub draft_forms : (p : Package) → IsDraft list files p → form_breaks p ≡ F
    draft_forms p d = forms_are list judged.world fs (narrow_codes list files judged is t has) p (is_base p d)

    -- where no method is in int mode, it is that of arguments alone
    pub words_short : AreShort list.ints judged.world → W ≡ words list judged.world fs
        (narrow_codes list files judged is t has)
    words_short short = mode_words_none list judged.world fs (narrow_codes list files judged is t has) t
        (λ k f e. no_lack t judged.world (method_at judged.world f) (member_short list files judged is t has short f
        (own_at k f e)))

    both : (p : Package) (d : IsDraft list files p)
        → else_of (of_methods p (word_breaks_by_modes d.tables p)) (form_breaks p) ≡ else_of W F
    both p d = else_same _ _ _ _ (draft_words p d) (draft_forms p d)

    -- a package that is laid out breaks none of these
    pub none_of_form : (p : Package) (of : IsPackageByModesOf list files p)
        → of_methods p (word_breaks_by_modes of.tables p) ≡ [] → form_breaks p ≡ [] → else_of W F ≡ []
    none_of_form p of none fine = sym (both p (package_is_draft list files p of)) ∙ else_same _ [] _ [] none fine

    only : (b a : Break) → Among b (else_of W F) → BreaksWritten list files a → Among a (else_of W F)
    only b a some (of_form p e among) = subst (λ bs. Among a bs) (both p e) among
    only b a some (of_size p of none fine among) = absurd (no_among b (subst (λ bs. Among b bs)
        (none_of_form p of none fine) some))

    first_of : (d : Package) (of_draft : IsDraft list files d) (b : Break) → IsFirst b (else_of W F)
        → IsFirstOf (OnLevels (Breach list files tested) (BreaksWritten list files)) b
    first_of d of_draft b first = record {
      breaks = on_second is.judged_by.unbroken (of_form d of_draft (subst (λ bs. Among b bs) (sym (both d of_draft))
          first.among));
      least = by;
    }
      where
        by : (a : Break) → OnLevels (Breach list files tested) (BreaksWritten list files) a → NotAfter b.rank a.rank
        by a (on_first breach) = absurd (is.judged_by.unbroken a breach)
        by a (on_second none written) = first.least a (only b a first.among written)

    -- the first of rules 417, 311, 414 and 415
    pub form_refused : (e : Fault) → IsFirstRefusal (else_of W F) e → Stopped list files e
    form_refused e (inl memory) = inl memory
    form_refused e (inr (b, first, is_refused)) = inr (
      b.refusal,
      record {
        broken = b;
        first = first_of (draft list files judged is t has) (is_draft list files judged is t has) b first;
        is = refl;
      },
      is_refused,
    )
