-- The methods of a package that breaks no rule: their widest sizes, their forms and their handlers.
use Rattle.std.proofs.Common.{◌≡◌, ℕ, ◌≤◌, refl, sym, ap, subst, ◌∙◌, arith, List, []}
use Rattle.std.proofs.Common.{◌∷◌, Some}
use Rattle.std.specs.Prelude.{◌&&◌, not, option_map, slice_get, true, false}
use Rattle.std.proofs.lemmas.Bool.{ltb-false}
use Rattle.std.proofs.lemmas.Option.{slice_get-map}
use Rattle.cjc_bytes.specs.Breaks.{at}
use Rattle.cjc_bytes.specs.declared.fault.MemberId.{MemberId}
use Rattle.cjc_bytes.proofs.Lists.{none_left, none_right}
use Rattle.cjc_bytes.proofs.Gets.{item_has, none_each}
use Rattle.cjc_bytes.proofs.Numbers.{none_at}
use Rattle.cjc_components.specs.Descriptor.{method_in}
use Rattle.cjc_components.specs.Limits.{form_breaks, has_many_entries, in_class, is_too_long, layout_breaks}
use Rattle.cjc_components.specs.Limits.{method_spot, of_methods, order_breaks, spot_of_list}
use Rattle.cjc_components.specs.Package.{LaidMethod, Package, codes, world}
use Rattle.cjc_check_proof.specs.Limits.Premises.{MethodIsShort}
use Rattle.cjc_shape.specs.LowerJudge.declared.judged.Judged.{Judged}
use Rattle.cjc_shape.proofs.JudgedLaws.Selected.{judged_int_whole, judged_whole}
use Rattle.cjc_shape.specs.Judged.Tested.{IsTested}
use Rattle.cjc_classes.specs.Layout.Forms.{HasForm}
use Rattle.cjc_classes.specs.Layout.Layouts.{IsWhole}
use Rattle.cjc_classes.specs.Layout.Refusals.{least, overtaking}
use Rattle.cjc_classes.specs.Layout.Sizes.{widest_size}
use Rattle.cjc_classes.specs.List.Listed.{ListTree}
use Rattle.cjc_shape.specs.LowerMethods.Ready.{IsListed, IsOwn}
use Rattle.cjc_classes.specs.Narrow.Rows.Selected.{near_fields, paired}
use Rattle.cjc_narrow_proof.specs.NCode.PoolOrder.{pool_order}
use Rattle.cjc_narrow_proof.specs.NCode.Written.{place_in, reached}
use Rattle.cjc_narrow_proof.specs.NCode.declared.narrow.NInsn.{NInsn}
use Rattle.cjc_narrow_proof.specs.NCode.declared.narrow.NMethod.{NMethod}
use Rattle.cjc_shape.proofs.PreparedLaws.Sound.{are_ready, is_tested}
use Rattle.cjc_shape.proofs.PreparedLaws.Sound as Sound
use Rattle.cjc_shape.specs.Prepared.{IsSound}
use Rattle.cjc_narrow_proof.proofs.SelectedLaws.Formed.{all_have_forms}
use Rattle.cjc_classes.specs.JvmSemantics.OnePackage.{method_by}
use Rattle.cjc_classes.specs.Narrow.Rows.Resolved.{resolution}
use Rattle.cjc_classes.specs.Types.Flow.{body_of}
use Rattle.cjc_shape.proofs.MethodsByMode.{IsFromCode, one_selected}
use Rattle.cjc_shape.proofs.IntForms.{all_have_forms as int_forms}
use Rattle.cjc_shape.proofs.WholeLaws.Codes.{draft_files, draft_has, package_is_draft}
use Rattle.cjc_shape.proofs.WholeLaws.Drafts.{same_members}
use Rattle.cjc_shape.proofs.WholeLaws.Modes.{modes_count, tables_told}
use Rattle.cjc_shape.proofs.WholeLaws.Ordered.{all_own}
use Rattle.cjc_shape.specs.LowerIntPackage.LowerIntMode.Written.{int_frame, places_from}
use Rattle.cjc_shape.specs.LowerIntPackage.LowerIntMode.Written.{reached_from as int_reached}
use Rattle.cjc_shape.specs.LowerIntPackage.LowerIntMode.declared.modes.Mode.{Mode}
use Rattle.cjc_shape.specs.LowerIntPackage.LowerIntMode.declared.modes.Mode.TheVariants as modes
use Rattle.cjc_shape.specs.LowerIntPackage.Modes.{Tables}
use Rattle.cjc_shape.specs.LowerIntPackage.Written.{code_by_mode_at}
use Rattle.cjc_shape.specs.LowerMethods.Ready.{states}
use Rattle.cjc_shape.proofs.SelectedByMode.{selected_by}
use Rattle.cjc_bytes.proofs.Bools.{or_right}
use Rattle.cjc_classes.specs.JvmSemantics.OnePackage.{method_at}
use Rattle.cjc_shape.proofs.IntRoom.{told_in_int_mode}
use Rattle.cjc_shape.proofs.WholeLaws.Ordered.{all_listed}
use Rattle.cjc_shape.specs.LowerIntPackage.Limits.{lacks_int_room, lacks_room, word_breaks_by_modes}
use Rattle.cjc_shape.specs.LowerIntPackage.LowerIntMode.Room.{IsRoom}
use Rattle.cjc_shape.specs.LowerIntPackage.Modes.{is_int}
use Rattle.cjc_tokens.specs.Members.{is_initialiser}
use Rattle.cjc_shape.specs.Whole.Conversion.{HasModes, IsPackageByModesOf}
use Rattle.cjc_world.specs.Classes.{Class, all_classes, class_at}
use Rattle.cjc_world.specs.Files.{Files}
use Rattle.cjc_world.specs.Order.{method_order}
use Rattle.cjc_world.specs.declared.found.Found.{Found}
use Rattle.cjc_classes.specs.Narrow.Written.Rows.{has_rows, rows_by}

-- ---- the package

module _ (list : ListTree) (files : List (List ℕ)) (judged : Judged) (is : IsSound list files judged) (p : Package)
    (whole : IsPackageByModesOf list files p) where
  abbrev tested : IsTested list files judged
  tested = is_tested list files judged is

  abbrev v : Files
  v = judged.world

  abbrev t : Tables
  t = whole.tables

  pub same_files : p.files ≡ v
  same_files = draft_files list files judged is p (package_is_draft list files p whole)

  pub same_list : p.list ≡ list
  same_list = whole.is_package.by_list

  pub has : HasModes list.ints v t
  has = draft_has list files judged is p (package_is_draft list files p whole)

  abbrev near : List MemberId
  near = near_fields (pool_order (codes p))

  abbrev made : Found → NMethod
  made = code_by_mode_at v near t

  -- a method is selected of its instructions by its mode
  abbrev pub From : Found → NMethod → Type 0
  From = IsFromCode v judged.codes judged.types judged.modes (are_ready list files judged is)
      (modes_count list files judged is) near t (tables_told list files judged is t has)

  module _ (k : ℕ) (m : LaidMethod) (there : slice_get p.methods k ≡ Some m) where
    -- the method's code by the member that it is of
    pub own_code : made m.member ≡ m.code
    own_code = ap (λ (fs : Files). code_by_mode_at fs near t m.member) (sym same_files)
        ∙ sym (whole.is_package.methods k m there).code

    pub listed_member : slice_get (method_order (all_classes v)) k ≡ Some m.member
    listed_member =
        ap (λ (fs : List Found). slice_get fs k) (sym (same_members list files judged is p same_files
        whole.is_package.members))
        ∙ slice_get-map (λ (x : LaidMethod). x.member) p.methods k ∙ ap (option_map (λ (x : LaidMethod). x.member))
        there

    pub own_member : IsOwn v m.member
    own_member = item_has (IsOwn v) (method_order (all_classes v)) k m.member (all_own v (Sound.listed list files judged
        is)) listed_member

    -- where it has an instruction it is selected
    pub selected : (place : ℕ) (insn : NInsn) → (let c = m.code in slice_get c.insns place ≡ Some insn)
        → From m.member (made m.member)
    selected place insn e =
        one_selected v judged.codes judged.types judged.modes (are_ready list files judged is)
        (modes_count list files judged is) near t (tables_told list files judged is t has) m.member own_member place
        insn (ap (λ (n : NMethod). slice_get n.insns place) own_code ∙ e)

    -- it is no initialiser
    pub plain_at : (from : From m.member (made m.member)) → is_initialiser from.method.name ≡ false
    plain_at from = from.plain (item_has (IsListed v) (method_order (all_classes v)) k m.member
        (all_listed v (Sound.listed list files judged is)) listed_member)

    -- 417
    pub room_at : of_methods p (word_breaks_by_modes t p) ≡ [] → (from : From m.member (made m.member))
        → from.mode ≡ modes.Int → IsRoom (body_of from.class from.method from.tree from.code.insns)
        (states from.code from.class from.method from.tree from.table) modes.Int true
    room_at words from int =
        let own : IsOwn p.files m.member = subst (λ (w : Files). IsOwn w m.member) (sym same_files) own_member in
        let one = none_each (λ (x : LaidMethod). let f = x.member
        in in_class (word_breaks_by_modes t p) x (class_at (world p) f.imported f.class)) p.methods k m words there in
        let here : word_breaks_by_modes t p own.class m ≡ [] =
        sym (ap (in_class (word_breaks_by_modes t p) m) own.is_class) ∙ one in
        let none : lacks_int_room t p.files (method_at p.files m.member) ≡ false =
        or_right _ (lacks_int_room t p.files (method_at p.files m.member)) (none_at _ _ 417 here) in
        let rows = states from.code from.class from.method from.tree from.table in
        let b = body_of from.class from.method from.tree from.code.insns in
        let off : lacks_room b rows ≡ false =
        sym (from.lacks ∙ ap (λ q. is_int q && lacks_room b rows) int)
        ∙ ap (λ (w : Files). lacks_int_room t w (method_at w m.member)) (sym same_files) ∙ none in
        subst (λ l. IsRoom b rows modes.Int (not l)) off (told_in_int_mode b rows)

    whole_by : (mode : Mode) (from : From m.member (made m.member)) → from.mode ≡ mode → IsWhole (made m.member)
    whole_by modes.Short from short =
        subst IsWhole (sym (from.is ∙ ap (λ q. selected_by q v near from.code from.class from.method from.tree
        (states from.code from.class from.method from.tree from.table)
        (t.ranges (method_by from.class from.method (Some from.tree)))) short))
        (judged_whole list files judged tested from.code from.class from.method from.tree from.table
        (record { place = from.place; is_code = from.is_code; is_table = from.is_table; is_method = from.is_own })
        near)
    whole_by modes.Int from int =
        subst IsWhole (sym (from.is ∙ ap (λ q. selected_by q v near from.code from.class from.method from.tree
        (states from.code from.class from.method from.tree from.table)
        (t.ranges (method_by from.class from.method (Some from.tree)))) int))
        (judged_int_whole list files judged tested from.code from.class from.method from.tree from.table
        (record { place = from.place; is_code = from.is_code; is_table = from.is_table; is_method = from.is_own })
        near (t.ranges (method_by from.class from.method (Some from.tree))))

    whole_at : (place : ℕ) (insn : NInsn) → (let c = m.code in slice_get c.insns place ≡ Some insn) → IsWhole m.code
    whole_at place insn e = let from = selected place insn e in
        subst IsWhole own_code (whole_by from.mode from refl)

    forms_by : (mode : Mode) (from : From m.member (made m.member)) → from.mode ≡ mode → (place : ℕ) (insn : NInsn)
        → slice_get (made m.member).insns place ≡ Some insn → HasForm insn
    forms_by modes.Short from short place insn e =
        let c = from.code in
        let flags = has_rows (states from.code from.class from.method from.tree from.table) in
        let r = paired v near from.class from.method from.tree c.insns (has_rows (rows_by flags)) in
        let kept = reached c.insns (rows_by flags) in
        all_have_forms r (place_in r kept) kept place insn (ap (λ (n : NMethod). slice_get n.insns place) (sym (from.is
        ∙ ap (λ q. selected_by q v near from.code from.class from.method from.tree
        (states from.code from.class from.method from.tree from.table)
        (t.ranges (method_by from.class from.method (Some from.tree)))) short)) ∙ e)
    forms_by modes.Int from int place insn e =
        let b = body_of from.class from.method from.tree from.code.insns in
        let rows = states from.code from.class from.method from.tree from.table in
        let ranges = t.ranges (method_by from.class from.method (Some from.tree)) in
        int_forms (int_frame b) (resolution v near from.class.name) from.tree (int_reached ranges 0 b.insns rows)
        (places_from 0 b.insns rows) place insn (ap (λ (n : NMethod). slice_get n.insns place) (sym (from.is
        ∙ ap (λ q. selected_by q v near from.code from.class from.method from.tree rows ranges) int)) ∙ e)

    forms : (place : ℕ) (insn : NInsn) → (let c = m.code in slice_get c.insns place ≡ Some insn) → HasForm insn
    forms place insn e = let from = selected place insn e in
        forms_by from.mode from refl place insn (ap (λ (n : NMethod). slice_get n.insns place) own_code ∙ e)

    size : (let c = m.code in widest_size c.insns ≤ c.widest)
    size = let c = m.code in by c.insns refl
      where
        by : (insns : List NInsn) → (let c = m.code in c.insns ≡ insns)
            → (let c = m.code in widest_size c.insns ≤ c.widest)
        by [] e = let c = m.code in subst (λ (xs : List NInsn). widest_size xs ≤ c.widest) (sym e)
            (let z : 0 ≤ c.widest = omega arith in z)
        by (i ∷ insns) e = let w = whole_at 0 i (ap (λ (xs : List NInsn). slice_get xs 0) e) in w.size

    -- 415
    short : form_breaks p ≡ [] → (let c = m.code in c.widest ≤ 32767)
    short kept =
        let all = none_left (of_methods p (layout_breaks p)) (at (has_many_entries p) (spot_of_list p) 414) kept in
        let one = none_each (λ (x : LaidMethod). let f = x.member
        in in_class (layout_breaks p) x (class_at (world p) f.imported f.class)) p.methods k m all there in
        by own_member.class (ap (λ (fs : Files). (let f = m.member in class_at (all_classes fs) f.imported f.class))
        same_files ∙ own_member.is_class) one
      where
        by : (c : Class) → (let f = m.member in class_at (world p) f.imported f.class) ≡ Some c
            → in_class (layout_breaks p) m (let f = m.member in class_at (world p) f.imported f.class) ≡ []
            → (let n = m.code in n.widest ≤ 32767)
        by c e none =
            let here : layout_breaks p c m ≡ [] = ap (in_class (layout_breaks p) m) (sym e) ∙ none in
            let f = m.member in let n = m.code in
            let place = method_spot p c f (method_in (world p) c f.member) in
            let off = none_at (is_too_long m) (place 0) 415
            (none_right (order_breaks place (least (overtaking [] n.catches))) (at (is_too_long m) (place 0) 415)
            here) in
            ltb-false 32767 n.widest off

    pub is_short : form_breaks p ≡ [] → MethodIsShort m
    is_short kept = record { size = size; short = short kept; forms = forms }
