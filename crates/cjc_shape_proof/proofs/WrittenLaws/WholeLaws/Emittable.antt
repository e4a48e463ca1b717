-- The methods of a converted package can be emitted by the pool that they need.
use Rattle.std.proofs.Common.{◌≡◌, ℕ, ◌≤◌, refl, sym, ap, subst, ◌∙◌, Bool, true, false, List, []}
use Rattle.std.proofs.Common.{length}
use Rattle.std.specs.Prelude.{Some, None, option_map, position, unwrap_or, slice_get, nat_lt}
use Rattle.std.specs.Prelude.{if◌then◌else◌}
use Rattle.std.proofs.lemmas.Bool.{ltb-false}
use Rattle.std.proofs.lemmas.Option.{slice_get-map}
use Rattle.cjc_bytes.specs.Breaks.{at}
use Rattle.cjc_bytes.specs.declared.fault.MemberId.{MemberId}
use Rattle.cjc_bytes.proofs.Lists.{none_right}
use Rattle.cjc_bytes.proofs.Bools.{or_left}
use Rattle.cjc_bytes.proofs.Gets.{mapped_at}
use Rattle.cjc_bytes.proofs.Numbers.{none_at}
use Rattle.cjc_components.specs.Limits.{form_breaks, has_many_entries, layout_breaks, of_methods, spot_of_list}
use Rattle.cjc_components.specs.Names.{names, token_in_interface}
use Rattle.cjc_components.specs.Package.{LaidMethod, Package, codes, has_applets, tokens}
use Rattle.cjc_components.specs.Package as packages
use Rattle.cjc_classes.specs.Emit.Emitted.{IsEmittable, IsNamedBy}
use Rattle.cjc_shape.specs.LowerJudge.Rules as judge_rules
use Rattle.cjc_shape.specs.LowerJudge.declared.judged.Judged.{Judged}
use Rattle.cjc_shape.proofs.JudgedLaws.Emittable.{calls_are_declared}
use Rattle.cjc_shape.proofs.JudgedLaws.Selected.{judged_writable}
use Rattle.cjc_shape.specs.Judged.Pooled.{ArePooled, CanBeIn, IsSelected}
use Rattle.cjc_shape.specs.Judged.Tested.{IsTested}
use Rattle.cjc_classes.specs.Layout.Layouts.{IsLayout}
use Rattle.cjc_classes.specs.Layout.declared.layout.Layout.{Layout}
use Rattle.cjc_classes.specs.List.Listed.{ListTree}
use Rattle.cjc_narrow_proof.specs.NCode.Lowering.Naming.{Naming}
use Rattle.cjc_classes.specs.Narrow.Rows.Selected.{near_fields}
use Rattle.cjc_narrow_proof.specs.NCode.PoolOrder.{pool_order, same_key}
use Rattle.cjc_narrow_proof.specs.NCode.declared.narrow.NInsn.{NInsn}
use Rattle.cjc_narrow_proof.specs.NCode.declared.narrow.NMethod.{NMethod}
use Rattle.cjc_narrow_proof.specs.NCode.declared.narrow.PoolKey.{PoolKey}
use Rattle.cjc_shape.specs.Pool.Pool.{IsPool, PoolView, is_called, token_in, token_of}
use Rattle.cjc_shape.proofs.PreparedLaws.Sound.{has_tokens, is_tested}
use Rattle.cjc_shape.proofs.PreparedLaws.Sound.{world_unbroken}
use Rattle.cjc_shape.specs.Prepared.{IsSound}
use Rattle.cjc_tokens.specs.Rules.{token_breaks}
use Rattle.cjc_tokens.specs.Tokens.{assigned}
use Rattle.cjc_vtable.specs.Tables.{or_zero}
use Rattle.cjc_classes.specs.JvmSemantics.OnePackage.{method_by}
use Rattle.cjc_classes.specs.Types.Flow.{body_of}
use Rattle.cjc_shape.proofs.WholeLaws.Codes.{draft_files, draft_has, package_is_draft}
use Rattle.cjc_shape.proofs.WholeLaws.Ints.{are_free}
use Rattle.cjc_shape.specs.LowerIntPackage.Limits.{word_breaks_by_modes}
use Rattle.cjc_shape.specs.LowerIntPackage.LowerIntMode.declared.modes.Mode.{Mode}
use Rattle.cjc_shape.specs.LowerIntPackage.LowerIntMode.declared.modes.Mode.TheVariants as modes
use Rattle.cjc_shape.specs.LowerIntPackage.Modes.{Tables}
use Rattle.cjc_shape.specs.LowerIntPackage.Written.{code_by_mode_at}
use Rattle.cjc_shape.specs.LowerMethods.Ready.{states}
use Rattle.cjc_shape.specs.Whole.Conversion.{HasModes, IsPackageByModesOf}
use Rattle.cjc_shape_proof.proofs.WrittenLaws.FittingLaws.Methods.{From, own_code, plain_at, room_at, selected}
use Rattle.cjc_world.specs.Classes.{all_classes, class_named}
use Rattle.cjc_world.specs.Files.{Files}
use Rattle.cjc_shape_proof.proofs.WrittenLaws.Shaping.{layout_for, layout_is, layout_wide, short_at}
use Rattle.cjc_shape_proof.proofs.WrittenLaws.WholeLaws.Declared.{declared_place}

-- ---- the package

module _ (list : ListTree) (files : List (List ℕ)) (judged : Judged) (is : IsSound list files judged) (p : Package)
    (whole : IsPackageByModesOf list files p) (words : of_methods p (word_breaks_by_modes whole.tables p) ≡ [])
    (forms : form_breaks p ≡ [])
    (pool : PoolView) (made : IsPool judged.world (tokens p) (codes p) pool) where
  abbrev tested : IsTested list files judged
  tested = is_tested list files judged is

  abbrev world : Files
  world = judged.world

  abbrev t : Tables
  t = whole.tables

  same_files : p.files ≡ world
  same_files = draft_files list files judged is p (package_is_draft list files p whole)

  same_list : p.list ≡ list
  same_list = whole.is_package.by_list

  has : HasModes list.ints world t
  has = draft_has list files judged is p (package_is_draft list files p whole)

  abbrev applets : Bool
  applets = has_applets p

  all_tokens : token_breaks applets world ≡ []
  all_tokens = ap (λ (l : ListTree). token_breaks (nat_lt 0 (length l.applets)) world) same_list
      ∙ has_tokens list files judged is

  few : length pool.keys ≤ 16383
  few =
      let none : at (has_many_entries p) (spot_of_list p) 414 ≡ [] = none_right (of_methods p (layout_breaks p))
      (at (has_many_entries p) (spot_of_list p) 414) forms in
      let small = or_left _ _ (none_at (has_many_entries p) (spot_of_list p) 414 none) in
      subst (λ (ks : List PoolKey). length ks ≤ 16383) (sym made.keys) (ltb-false 16383 (length (packages.pool p))
      small)

  is_pool : IsPool world (assigned applets world) (codes p) pool
  is_pool = subst (λ (fs : Files). IsPool world (assigned applets fs) (codes p) pool) same_files made

  abbrev near : List MemberId
  near = near_fields (pool_order (codes p))

  same_near : near_fields pool.keys ≡ near
  same_near = ap near_fields made.keys

  -- a method that is selected in its mode can be: it does not work on int, or there is room (417)
  can_be : (k : ℕ) (m : LaidMethod) (there : slice_get p.methods k ≡ Some m) (mode : Mode)
      → (from : From list files judged is p whole m.member (code_by_mode_at world near t m.member)) → from.mode ≡ mode
      → CanBeIn mode world from.code (body_of from.class from.method from.tree from.code.insns)
      (states from.code from.class from.method from.tree from.table)
  can_be k m there modes.Short from short =
      are_free list files judged is t has from.place from.code from.class from.method from.tree from.is_code
      (from.is_mode ∙ ap Some short) from.is_own (plain_at list files judged is p whole k m there from)
  can_be k m there modes.Int from int = room_at list files judged is p whole k m there words from int

  each_selected : (k : ℕ) (narrow : NMethod) → slice_get (codes p) k ≡ Some narrow → (place : ℕ) (insn : NInsn)
      → slice_get narrow.insns place ≡ Some insn → IsSelected judged (near_fields pool.keys) narrow
  each_selected k narrow e place insn f =
      let m = mapped_at (λ (x : LaidMethod). x.code) p.methods k narrow e in
      let from = selected list files judged is p whole k m.0 m.1 place insn
      (ap (λ (n : NMethod). slice_get n.insns place) m.2 ∙ f) in
      subst (λ ids. IsSelected judged ids narrow) (sym same_near)
      (record {
        code = from.code;
        class = from.class;
        method = from.method;
        tree = from.tree;
        table = from.table;
        one = record { place = from.place; is_code = from.is_code; is_table = from.is_table; is_method = from.is_own };
        mode = from.mode;
        ranges = t.ranges (method_by from.class from.method (Some from.tree));
        can = can_be k m.0 m.1 from.mode from refl;
        is = sym m.2 ∙ sym (own_code list files judged is p whole k m.0 m.1) ∙ from.is;
      })

  pub pooled : ArePooled judged applets (codes p) pool
  pooled = record {
    tokens = all_tokens;
    few = few;
    is_pool = is_pool;
    each = each_selected;
  }

  -- ---- the names that components have

  same_index : (key : PoolKey) (i : ℕ) → position (same_key key) pool.keys ≡ Some i → (names p).index key ≡ i
  same_index key i e = ap (λ o. unwrap_or o 0) (ap (position (same_key key)) (sym made.keys) ∙ e)

  same_token : (id : MemberId) (t : ℕ) → token_in pool id ≡ Some t → (names p).interface_token id ≡ t
  same_token id t e = by (is_called (codes p) id) refl (sym (is_pool.token id) ∙ e)
    where
      by : (b : Bool) → is_called (codes p) id ≡ b → (if b then token_of world (assigned applets world) id else None)
          ≡ Some t → (names p).interface_token id ≡ t
      by false called f = cc
      by true called f =
          let declared = calls_are_declared list files judged tested applets (codes p) pool pooled id called in
          let place = declared_place list.name world (world_unbroken list files judged is) (judged_writable list files
          judged tested) applets id declared t f in
          ap (λ (fs : Files). token_in_interface (all_classes fs) (record { name = id.name; desc = id.desc })
          (class_named (all_classes fs) id.class)) same_files
          ∙ ap (token_in_interface (all_classes world) (record { name = id.name; desc = id.desc })) place.1
          ∙ ap or_zero place.2

  named : IsNamedBy pool.keys (token_in pool) (names p)
  named = record { index = same_index; token = same_token }

  -- ---- its methods

  pub each_emittable : ((n : Naming) → IsNamedBy pool.keys (token_in pool) n → (k : ℕ) (narrow : NMethod)
      → slice_get (codes p) k ≡ Some narrow → (layout : Layout) → IsLayout narrow layout → narrow.widest ≤ 32767
      → IsEmittable pool.keys (token_in pool) n narrow layout.wide) → (k : ℕ) (m : LaidMethod) → slice_get p.methods k
      ≡ Some m → IsEmittable pool.keys (token_in pool) (names p) m.code m.wide
  each_emittable law k m e =
      let here : slice_get (codes p) k ≡ Some m.code = slice_get-map (λ (x : LaidMethod). x.code) p.methods k
      ∙ ap (option_map (λ (x : LaidMethod). x.code)) e in
      let w = whole.is_package.methods k m e in
      subst (λ v. IsEmittable pool.keys (token_in pool) (names p) m.code v) (layout_wide m.code m.wide)
      (law (names p) named k m.code here (layout_for m.code m.wide) (layout_is m.code m.wide w.wide)
      (short_at list files judged is p whole forms k m e))
