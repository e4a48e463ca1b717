-- One package at most is that of a list and its files: its narrow code is settled by them, whichever tables tell the
-- modes of its methods.
use Rattle.std.proofs.Common.{◌≡◌, ℕ, zero, suc, refl, sym, ap, subst, ◌∙◌, arith, List, [], ◌∷◌, length}
use Rattle.std.specs.Prelude.{Some, map, slice_get}
use Rattle.std.proofs.lemmas.List.{length-map}
use Rattle.cjc_exported.specs.Bytes.declared.fault.MemberId.{MemberId}
use Rattle.cjc_exported.specs.Components.Package.{LaidMethod, Package, codes, pool}
use Rattle.cjc_exported.specs.Components.Written.{is_abstract_at}
use Rattle.cjc_judge.specs.declared.judged.Judged.{Judged}
use Rattle.cjc_methods.specs.List.Listed.{ListTree}
use Rattle.cjc_methods.proofs.Again.{by_own_pool, same_pools}
use Rattle.cjc_methods.proofs.Alike.{all_alike}
use Rattle.cjc_methods.specs.LowerIntPackage.Modes.{Tables}
use Rattle.cjc_methods.specs.LowerIntPackage.Written.{code_by_mode_at}
use Rattle.cjc_methods.specs.Narrow.Rows.Selected.{near_fields}
use Rattle.cjc_narrow_proof.specs.NCode.PoolOrder.{pool_order}
use Rattle.cjc_narrow_proof.specs.NCode.declared.narrow.NMethod.{NMethod}
use Rattle.cjc_narrow_proof.specs.NCode.declared.narrow.PoolKey.{PoolKey}
use Rattle.cjc_shape.specs.Prepared.{IsSound}
use Rattle.cjc_shape.proofs.PreparedLaws.Sound.{are_ready}
use Rattle.cjc_exported.specs.World.declared.found.Found.{Found}
use Rattle.cjc_exported.specs.World.declared.image.StaticImage.{StaticImage}
use Rattle.cjc_exported.specs.World.Classes.{all_classes}
use Rattle.cjc_exported.specs.World.Files.{Files}
use Rattle.cjc_exported.specs.World.Order.{method_order}
use Rattle.cjc_shape.proofs.WholeLaws.Drafts.{owned, same_members, same_spelt, spelt_of}
use Rattle.cjc_shape.proofs.WholeLaws.Modes.{modes_count, tables_told}
use Rattle.cjc_shape.specs.Whole.Conversion.{HasModes, IsDraft, IsPackageByModesOf, IsSelected}

-- the code of each method
each_code : (files : Files) (near : List MemberId) (t : Tables) (ms : List LaidMethod)
    → ((k : ℕ) (m : LaidMethod) → slice_get ms k ≡ Some m → IsSelected files near t m)
    → map (λ m. m.code) ms ≡ map (code_by_mode_at files near t) (map (λ m. m.member) ms)
each_code files near t [] f = refl
each_code files near t (m ∷ ms) f =
    let s = f 0 m refl in
    ap (λ c. c ∷ map (λ (x : LaidMethod). x.code) ms) s.code
    ∙ ap (λ cs. code_by_mode_at files near t m.member ∷ cs) (each_code files near t ms (λ k x e. f (suc k) x e))

-- a package whose methods are laid out is a draft
abbrev pub package_is_draft : (list : ListTree) (files : List (List ℕ)) (p : Package) → IsPackageByModesOf list files p
    → IsDraft list files p
package_is_draft list files p is = record {
  tables = is.tables;
  spelt = is.spelt;
  has = is.has;
  by_list = is.is_package.by_list;
  members = is.is_package.members;
  methods = λ k m e. let w = is.is_package.methods k m e in record { is_abstract = w.is_abstract; code = w.code };
}

module _ (list : ListTree) (files : List (List ℕ)) (judged : Judged) (is : IsSound list files judged) where
  abbrev world : Files
  world = judged.world

  abbrev fs : List Found
  fs = method_order (all_classes world)

  -- ---- a draft is of these files

  pub draft_files : (p : Package) → IsDraft list files p → p.files ≡ world
  draft_files p d = let t = d.tables in same_spelt list files judged is p.files t.types d.spelt

  pub draft_has : (p : Package) (d : IsDraft list files p) → HasModes list.ints world d.tables
  draft_has p d = subst (λ w. HasModes list.ints w d.tables) (draft_files p d) d.has

  module _ (t : Tables) (has : HasModes list.ints world t) where
    -- ---- the narrow code

    first_codes : List NMethod
    first_codes = map (code_by_mode_at world [] t) fs

    pub narrow_codes : List NMethod
    narrow_codes = map (code_by_mode_at world (near_fields (pool_order first_codes)) t) fs

    -- by their own pool
    pub narrow_is : narrow_codes ≡ map (code_by_mode_at world (near_fields (pool_order narrow_codes)) t) fs
    unfolding narrow_codes first_codes
    narrow_is = by_own_pool world t fs [] first_codes narrow_codes refl refl

    -- code that is selected by its own pool, whichever tables are told
    pub only_codes : (ns : List NMethod) (u : Tables) → HasModes list.ints world u
        → ns ≡ map (code_by_mode_at world (near_fields (pool_order ns)) u) fs → ns ≡ narrow_codes
    only_codes ns u have e =
        let f : ns ≡ map (code_by_mode_at world (near_fields (pool_order ns)) t) fs =
        e ∙ all_alike world judged.codes judged.types judged.modes (are_ready list files judged is)
        (modes_count list files judged is) (near_fields (pool_order ns)) u t
        (tables_told list files judged is u have) (tables_told list files judged is t has) fs
        (owned list files judged is) in
        let pools : pool_order ns ≡ pool_order narrow_codes =
        ap pool_order f
        ∙ same_pools world t (near_fields (pool_order ns)) (near_fields (pool_order narrow_codes)) fs
        ∙ ap pool_order (sym narrow_is) in
        f ∙ ap (λ keys. map (code_by_mode_at world (near_fields keys) t) fs) pools ∙ sym narrow_is

    -- ---- a draft has this code

    pub same_narrow : (p : Package) → IsDraft list files p → codes p ≡ narrow_codes
    same_narrow p d =
        let here = draft_files p d in
        only_codes (codes p) d.tables (draft_has p d)
        (each_code p.files (near_fields (pool p)) d.tables p.methods d.methods
        ∙ ap (λ ms. map (code_by_mode_at p.files (near_fields (pool p)) d.tables) ms)
        (same_members list files judged is p here d.members)
        ∙ ap (λ w. map (code_by_mode_at w (near_fields (pool p)) d.tables) fs) here)

    -- ---- a draft

    -- its methods without layouts
    drafts : List Found → List NMethod → List LaidMethod
    drafts [] cs = []
    drafts (f ∷ gs) [] = []
    drafts (f ∷ gs) (c ∷ cs) = record { member = f; is_abstract = is_abstract_at world f; code = c; wide = [] }
        ∷ drafts gs cs

    draft_members : (gs : List Found) (cs : List NMethod) → length cs ≡ length gs → map (λ m. m.member) (drafts gs cs)
        ≡ gs
    unfolding drafts
    draft_members [] cs e = refl
    draft_members (f ∷ gs) [] e = absurd (omega (arith, e))
    draft_members (f ∷ gs) (c ∷ cs) e = ap (λ hs. f ∷ hs) (draft_members gs cs (omega (arith, e)))

    draft_codes : (gs : List Found) (cs : List NMethod) → length cs ≡ length gs → map (λ m. m.code) (drafts gs cs)
        ≡ cs
    unfolding drafts
    draft_codes [] [] e = refl
    draft_codes [] (c ∷ cs) e = absurd (omega (arith, e))
    draft_codes (f ∷ gs) [] e = absurd (omega (arith, e))
    draft_codes (f ∷ gs) (c ∷ cs) e = ap (λ ds. c ∷ ds) (draft_codes gs cs (omega (arith, e)))

    draft_each : (near : List MemberId) (gs : List Found) (cs : List NMethod)
        → cs ≡ map (code_by_mode_at world near t) gs
        → (k : ℕ) (m : LaidMethod) → slice_get (drafts gs cs) k ≡ Some m → IsSelected world near t m
    unfolding drafts
    draft_each near [] cs e k m f = cc
    draft_each near (g ∷ gs) [] e k m f = cc
    draft_each near (g ∷ gs) (c ∷ cs) e zero m f =
        let head : c ≡ code_by_mode_at world near t g = cc in
        let is_m : record { member = g; is_abstract = is_abstract_at world g; code = c; wide = [] } ≡ m = cc in
        subst (λ x. IsSelected world near t x) is_m (record { is_abstract = refl; code = head })
    draft_each near (g ∷ gs) (c ∷ cs) e (suc k) m f =
        let tail : cs ≡ map (code_by_mode_at world near t) gs = cc in
        draft_each near gs cs tail k m f

    no_image : StaticImage
    no_image = record { arrays = []; nulls = []; zeros = []; others = [] }

    pub draft : Package
    draft = record { list = list; files = world; image = no_image; methods = drafts fs narrow_codes }

    same_count : length narrow_codes ≡ length fs
    same_count = ap length narrow_is ∙ length-map fs (code_by_mode_at world (near_fields (pool_order narrow_codes)) t)

    pub is_draft : IsDraft list files draft
    unfolding draft
    is_draft = record {
      tables = t;
      spelt = spelt_of list files judged is t.types (λ code class method tree contains of. (has.least code class method
          tree contains of).0);
      has = has;
      by_list = refl;
      members = draft_members fs narrow_codes same_count;
      methods = λ k m e.
          let here = draft_each (near_fields (pool_order narrow_codes)) fs narrow_codes narrow_is k m e in
          subst (λ (keys : List PoolKey). IsSelected world (near_fields keys) t m)
          (ap pool_order (sym (draft_codes fs narrow_codes same_count))) here;
    }
