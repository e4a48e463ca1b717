-- What is written for a method that names no instance field is the same, whichever fields have an index of one byte.
use Rattle.std.proofs.Common.{◌≡◌, ℕ, ◌+◌, ◌-◌, ◌||◌, refl, sym, ap, ◌∙◌, false, List, [], ◌∷◌, length}
use Rattle.std.specs.Prelude.{slice_get, Option, Some, None}
use Rattle.std.specs.List.{list_any}
use Rattle.cjc_bytes.proofs.Bools.{or_left, or_right}
use Rattle.cjc_bytes.specs.declared.fault.MemberId.{MemberId}
use Rattle.cjc_types.specs.Bytecode.declared.insn.JInsn.{JInsn}
use Rattle.cjc_types.specs.declared.state.State.{State}
use Rattle.cjc_intervals.specs.Frames.{RangeState}
use Rattle.cjc_components.specs.Bytecode.declared.method_code.MethodCode.{MethodCode}
use Rattle.cjc_int_mode.specs.Written.{int_frame, places_from, reached_from}
use Rattle.cjc_int_mode.specs.declared.modes.Mode.{Mode}
use Rattle.cjc_int_mode.specs.declared.modes.Mode.TheVariants as modes
use Rattle.cjc_int_package.specs.Modes.{Tables}
use Rattle.cjc_int_package.specs.Written.{code_by_mode, code_by_mode_at, code_in}
use Rattle.cjc_narrow.specs.Pairs.Roles.{with_pairs}
use Rattle.cjc_narrow.specs.Rows.Package.{flags_of, read_of, tree_of}
use Rattle.cjc_narrow.specs.Rows.Resolved.{argument_words, is_near, method_found, resolution}
use Rattle.cjc_narrow.specs.Types.declared.table.TypeTable.{TypeTable}
use Rattle.cjc_narrow.specs.Written.Rows.{has_rows}
use Rattle.cjc_ncode.specs.Written.{Resolution, narrow_method}
use Rattle.cjc_pool.specs.JvmSemantics.Linked.{Method}
use Rattle.cjc_pool.specs.JvmSemantics.OnePackage.{method_at, method_by}
use Rattle.cjc_world.specs.Classes.{Class, all_classes, class_at, declared}
use Rattle.cjc_world.specs.Files.{Files}
use Rattle.cjc_world.specs.ClassFile.declared.tree.ClassTree.{ClassTree}
use Rattle.cjc_world.specs.declared.found.Found.{Found}
use Rattle.cjc_methods.specs.Ready.{AreReady, AreTold}
use Rattle.cjc_methods.specs.Working.Places.{HasNone, HasPlace}
use Rattle.cjc_methods.proofs.Coded.{found_at, insns_are, without_code_by_mode}
use Rattle.cjc_methods.specs.Working.Fields.{names_field}
use Rattle.cjc_methods.proofs.Fieldless.{NameNone, method_same, pairs_same}
use Rattle.cjc_methods.proofs.FieldlessInt as int

-- none of the instructions that the types reach names one either
reached_none : (ranges : List (Option RangeState)) (place : ℕ) (insns : List JInsn) (types : List (Option State))
    → NameNone insns → int.NameNone (reached_from ranges place insns types)
reached_none ranges place [] types e = refl
reached_none ranges place (i ∷ insns) [] e = refl
reached_none ranges place (i ∷ insns) (Some s ∷ types) e =
    ap (λ b. b || list_any int.names_field (reached_from ranges (place + 1) insns types)) (or_left (names_field i)
    (list_any names_field insns) e)
    ∙ reached_none ranges (place + 1) insns types (or_right (names_field i) (list_any names_field insns) e)
reached_none ranges place (i ∷ insns) (None ∷ types) e = reached_none ranges (place + 1) insns types
    (or_right (names_field i) (list_any names_field insns) e)

module _ (files : Files) (t : Tables) (before after : List MemberId) where
  code_same : (mode : Mode) (m : Method) → NameNone m.insns → code_in files before t mode m
      ≡ code_in files after t mode m
  unfolding resolution
  code_same modes.Short m e =
      let id = m.id in
      let flags = flags_of (method_found (all_classes files) id) in
      let b = read_of m flags in
      let r = resolution files before id.class in
      let near = is_near (all_classes files) after in
      let hs = has_rows (t.types m) in
      let nargs = argument_words flags id.desc in
      sym (ap (λ (q : Resolution). narrow_method q (tree_of m) nargs m.insns (t.types m)) (pairs_same r near b hs e)
      ∙ method_same (with_pairs r b hs) near (tree_of m) nargs m.insns (t.types m) e)
  code_same modes.Int m e =
      let id = m.id in
      let b = read_of m (flags_of (method_found (all_classes files) id)) in
      sym (int.method_same (int_frame b) (resolution files before id.class) (is_near (all_classes files) after)
      (tree_of m) (reached_from (t.ranges m) 0 b.insns (t.types m)) (places_from 0 b.insns (t.types m))
      (reached_none (t.ranges m) 0 b.insns (t.types m) e))

module _ (files : Files) (codes : List MethodCode) (types : List TypeTable) (modes_of : List Mode)
    (ready : AreReady files codes types) (t : Tables) (told : AreTold files codes types modes_of t) (f : Found)
    (own : f.imported ≡ false) (class : ClassTree) (is : slice_get files.classes f.class ≡ Some class)
    (before after : List MemberId) where
  -- of a member whose code stands at this place
  pub kept_code : (k : ℕ) → (h : HasPlace files codes f.class (f.member - length class.fields) k)
      → NameNone h.code.insns → code_by_mode_at files before t f ≡ code_by_mode_at files after t f
  kept_code k h e =
      let same : h.class ≡ class = (let p = sym h.is_class ∙ is in cc) in
      let there : slice_get h.class.methods (f.member - length h.class.fields) ≡ Some h.method =
      ap (λ (x : ClassTree). slice_get h.class.methods (f.member - length x.fields)) same ∙ h.is_method in
      let m = method_by h.class h.method (Some h.tree) in
      let at : method_at files f ≡ Some m = found_at files f h.class (Some h.method) own h.is_class there
      ∙ ap (λ o. Some (method_by h.class h.method o)) h.is_tree in
      let none : NameNone m.insns = ap (list_any names_field) (insns_are files h.code h.class h.method h.tree h.is_own)
      ∙ e in
      ap (code_by_mode files before t f) at ∙ code_same files t before after (t.mode m) m none
      ∙ sym (ap (code_by_mode files after t f) at)

  -- and of one that has none
  pub kept_none : (c : Class) → class_at (all_classes files) f.imported f.class ≡ Some c → c ≡ declared f.class class
      → HasNone files f.class (f.member - length class.fields)
      → code_by_mode_at files before t f ≡ code_by_mode_at files after t f
  kept_none c at same none =
      without_code_by_mode files before codes types modes_of ready t told f own class c is at same none
      ∙ sym (without_code_by_mode files after codes types modes_of ready t told f own class c is at same none)
