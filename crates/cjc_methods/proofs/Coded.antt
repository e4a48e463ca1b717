-- What is written for a member of a class of the package is what is selected for its method.
use Rattle.std.proofs.Common.{◌≡◌, ℕ, ◌-◌, refl, sym, ap, ◌∙◌, arith, false, List, [], length}
use Rattle.std.specs.Prelude.{slice_get, Option, Some, None, option_map, option_and_then, if◌then◌else◌, Ok}
use Rattle.cjc_bytes.specs.declared.fault.MemberId.{MemberId}
use Rattle.cjc_world.specs.ClassFile.Code.{CodeTree}
use Rattle.cjc_world.specs.ClassFile.declared.tree.ClassTree.{ClassTree}
use Rattle.cjc_world.specs.ClassFile.declared.tree.MethodTree.{MethodTree}
use Rattle.cjc_components.specs.Bytecode.Decoded.{decoded, decoding, insns_of, of_code, of_method}
use Rattle.cjc_components.specs.Bytecode.declared.method_code.MethodCode.{MethodCode}
use Rattle.cjc_narrow.specs.Types.Flow.{body_of}
use Rattle.cjc_narrow.specs.Types.Tables.{IsMethodOf}
use Rattle.cjc_narrow.specs.Pairs.Roles.{with_pairs}
use Rattle.cjc_narrow.specs.Types.declared.state.State.{State}
use Rattle.cjc_narrow.specs.Types.declared.table.TypeTable.{TypeTable}
use Rattle.cjc_world.specs.declared.found.Found.{Found}
use Rattle.cjc_world.specs.Classes.{Class, Member, declared, all_classes, class_at}
use Rattle.cjc_world.specs.Files.{Files}
use Rattle.cjc_pool.specs.JvmSemantics.Linked.{Method}
use Rattle.cjc_pool.specs.JvmSemantics.OnePackage.{method_at, method_by, method_in}
use Rattle.cjc_narrow.specs.Rows.Package.{code_of, flags_of}
use Rattle.cjc_narrow.specs.Rows.Resolved.{argument_words, method_found, resolution}
use Rattle.cjc_narrow.specs.Rows.Selected.{selected_code}
use Rattle.cjc_pool.specs.NCode.Written.{narrow_method}
use Rattle.cjc_narrow.specs.Written.Rows.{by_rows_there, has_rows, has_rows_by, rows_by}
use Rattle.cjc_components.specs.Descriptor as Descriptor
use Rattle.cjc_components.specs.Written.{added_words, code_at, code_by, no_code}
use Rattle.cjc_int_mode.specs.Written.{written_in_int_mode}
use Rattle.cjc_int_mode.specs.declared.modes.Mode.{Mode}
use Rattle.cjc_int_mode.specs.declared.modes.Mode.TheVariants as modes
use Rattle.cjc_int_package.specs.Modes.{Tables}
use Rattle.cjc_int_package.specs.Written.{code_by_mode, code_by_mode_at, code_in, int_code_of}
use Rattle.cjc_methods.specs.Ready.{AreReady, AreTold, states}
use Rattle.cjc_methods.specs.Working.ByMode.{selected_by}
use Rattle.cjc_methods.specs.Working.Places.{HasNone, HasPlace}
use Rattle.cjc_methods.proofs.Owned.{own_method}

-- ---- the method of a member

pub found_at : (files : Files) (f : Found) (t : ClassTree) (o : Option MethodTree) → f.imported ≡ false
    → slice_get files.classes f.class ≡ Some t → slice_get t.methods (f.member - length t.fields) ≡ o
    → method_at files f ≡ option_map (λ (m : MethodTree). method_by t m m.code) o
found_at files f t o own is e =
    ap (λ b. if b then None else option_and_then (method_in f.member) (slice_get files.classes f.class)) own
    ∙ ap (option_and_then (method_in f.member)) is
    ∙ ap (option_map (λ (m : MethodTree). method_by t m m.code)) e

-- ---- one with code

pub insns_are : (files : Files) (code : MethodCode) (class : ClassTree) (method : MethodTree) (tree : CodeTree)
    → IsMethodOf files code class method tree → decoded class method tree ≡ code.insns
unfolding decoded
insns_are files code class method tree of =
    let e : decoding class method tree ≡ Ok code.insns = sym (ap (of_method class) of.is_method
    ∙ ap (of_code class method) of.is_code) ∙ of.insns in
    ap insns_of e

module _ (files : Files) (near : List MemberId) (rows : Method → List (Option State)) where
  selected_for : (code : MethodCode) (class : ClassTree) (method : MethodTree) (tree : CodeTree) (table : TypeTable)
      → flags_of (method_found (all_classes files) (record {
        class = class.name;
        name = method.name;
        desc = method.desc;
      })) ≡ method.flags
      → decoded class method tree ≡ code.insns → rows (method_by class method (Some tree)) ≡ states code class method
      tree table
      → code_of files near rows (method_by class method (Some tree)) ≡ selected_code files near class method tree
      code.insns (rows_by (has_rows (states code class method tree table)))
  selected_for code class method tree table found insns same =
      let r = resolution files near class.name in
      let n = argument_words method.flags method.desc in
      let b = body_of class method tree code.insns in
      let table_rows = states code class method tree table in
      ap (λ flags. narrow_method (with_pairs r (record (body_of class method tree (decoded class method tree)) {
        flags = flags;
      }) (has_rows (rows (method_by class method (Some tree))))) tree (argument_words flags method.desc)
      (decoded class method tree) (rows (method_by class method (Some tree)))) found
      ∙ ap (λ is. narrow_method (with_pairs r (body_of class method tree is) (has_rows (rows (method_by class method
      (Some tree))))) tree n is (rows (method_by class method (Some tree)))) insns
      ∙ ap (λ rs. narrow_method (with_pairs r b (has_rows rs)) tree n code.insns rs) same
      ∙ by_rows_there (with_pairs r b (has_rows table_rows)) tree n code.insns table_rows
      ∙ ap (λ hs. narrow_method (with_pairs r b hs) tree n code.insns (rows_by (has_rows table_rows)))
      (sym (has_rows_by (has_rows table_rows)))

  -- ---- one without

  zero_minus : (n : ℕ) → 0 - n ≡ 0
  zero_minus n = omega arith

  nothing_written : (class : ClassTree) (method : MethodTree)
      → flags_of (method_found (all_classes files) (record {
        class = class.name;
        name = method.name;
        desc = method.desc;
      })) ≡ method.flags
      → code_of files near rows (method_by class method None) ≡ no_code (argument_words method.flags method.desc)
  nothing_written class method found =
      ap (λ l. record {
        insns = [];
        from = [];
        catches = [];
        max_stack = 0;
        nargs = argument_words (flags_of (method_found (all_classes files) (record {
          class = class.name;
          name = method.name;
          desc = method.desc;
        }))) method.desc;
        max_locals = l;
        widest = 0;
      })
      (zero_minus (argument_words (flags_of (method_found (all_classes files) (record {
        class = class.name;
        name = method.name;
        desc = method.desc;
      }))) method.desc))
      ∙ ap (λ flags. no_code (argument_words flags method.desc)) found

  pub without_code : (codes : List MethodCode) (types : List TypeTable) → AreReady files codes types
      → (f : Found) (t : ClassTree) (c : Class) → f.imported ≡ false → slice_get files.classes f.class ≡ Some t
      → class_at (all_classes files) f.imported f.class ≡ Some c → c ≡ declared f.class t
      → HasNone files f.class (f.member - length t.fields)
      → (let m = Descriptor.method_in (all_classes files) c f.member in code_at files near rows f
      ≡ no_code (argument_words m.flags m.desc))
  without_code codes types ready f t c own is at class none = by (slice_get t.methods (f.member - length t.fields)) refl
    where
      by : (o : Option MethodTree) → slice_get t.methods (f.member - length t.fields) ≡ o
          → (let m = Descriptor.method_in (all_classes files) c f.member in code_at files near rows f
          ≡ no_code (argument_words m.flags m.desc))
      by None e = ap (code_by files near rows f) (found_at files f t None own is e)
          ∙ ap (λ o. no_code (added_words (all_classes files) f o)) at
      by (Some method) e =
          ap (code_by files near rows f) (found_at files f t (Some method) own is e
          ∙ ap (λ o. Some (method_by t method o)) (none t method is e))
          ∙ nothing_written t method (ready.found f.class (f.member - length t.fields) t method is e)
          ∙ ap (λ (m : Member). no_code (argument_words m.flags m.desc)) (sym (own_method (all_classes files) f.class t
          c f.member method class e))

-- ---- by modes

module _ (files : Files) (near : List MemberId) (codes : List MethodCode) (types : List TypeTable)
    (modes_of : List Mode) (ready : AreReady files codes types) (t : Tables) (told : AreTold files codes types modes_of
    t) (f : Found) (own : f.imported ≡ false) where
  int_selected_for : (code : MethodCode) (class : ClassTree) (method : MethodTree) (tree : CodeTree)
      (table : TypeTable)
      → flags_of (method_found (all_classes files) (record {
        class = class.name;
        name = method.name;
        desc = method.desc;
      })) ≡ method.flags
      → decoded class method tree ≡ code.insns
      → t.types (method_by class method (Some tree)) ≡ states code class method tree table
      → int_code_of files near t (method_by class method (Some tree))
      ≡ selected_by modes.Int files near code class method tree (states code class method tree table)
      (t.ranges (method_by class method (Some tree)))
  int_selected_for code class method tree table found insns same =
      let m = method_by class method (Some tree) in
      let r = resolution files near class.name in
      ap (λ flags. written_in_int_mode r tree (record (body_of class method tree (decoded class method tree)) {
        flags = flags;
      }) (t.types m) (t.ranges m)) found
      ∙ ap (λ is. written_in_int_mode r tree (body_of class method tree is) (t.types m) (t.ranges m)) insns
      ∙ ap (λ rs. written_in_int_mode r tree (body_of class method tree code.insns) rs (t.ranges m)) same

  pub with_code_by_mode : (k : ℕ) (class : ClassTree) → slice_get files.classes f.class ≡ Some class
      → (h : HasPlace files codes f.class (f.member - length class.fields) k) → (table : TypeTable)
      → slice_get types k ≡ Some table → (mode : Mode) → slice_get modes_of k ≡ Some mode
      → code_by_mode_at files near t f ≡ selected_by mode files near h.code h.class h.method h.tree
      (states h.code h.class h.method h.tree table) (t.ranges (method_by h.class h.method (Some h.tree)))
  with_code_by_mode k class is h table is_table mode is_mode =
      let same : h.class ≡ class = (let p = sym h.is_class ∙ is in cc) in
      let there : slice_get h.class.methods (f.member - length h.class.fields) ≡ Some h.method =
      ap (λ (x : ClassTree). slice_get h.class.methods (f.member - length x.fields)) same ∙ h.is_method in
      let m = method_by h.class h.method (Some h.tree) in
      let found = ready.found f.class (f.member - length class.fields) h.class h.method h.is_class h.is_method in
      let insns = insns_are files h.code h.class h.method h.tree h.is_own in
      let rows = told.rows k h.code table h.is_code is_table h.class h.method h.tree h.is_own in
      ap (code_by_mode files near t f) (found_at files f h.class (Some h.method) own h.is_class there
      ∙ ap (λ o. Some (method_by h.class h.method o)) h.is_tree)
      ∙ ap (λ x. code_in files near t x m) (told.mode k h.code mode h.is_code is_mode h.class h.method h.tree h.is_own)
      ∙ by mode found insns rows
    where
      by : (x : Mode) → flags_of (method_found (all_classes files) (record {
        class = h.class.name;
        name = h.method.name;
        desc = h.method.desc;
      })) ≡ h.method.flags → decoded h.class h.method h.tree ≡ h.code.insns
          → t.types (method_by h.class h.method (Some h.tree)) ≡ states h.code h.class h.method h.tree table
          → code_in files near t x (method_by h.class h.method (Some h.tree))
          ≡ selected_by x files near h.code h.class h.method h.tree (states h.code h.class h.method h.tree table)
          (t.ranges (method_by h.class h.method (Some h.tree)))
      by modes.Short found insns rows = selected_for files near t.types h.code h.class h.method h.tree table found insns
          rows
      by modes.Int found insns rows = int_selected_for h.code h.class h.method h.tree table found insns rows

  -- a method without code is not in int mode
  pub without_code_by_mode : (class : ClassTree) (c : Class) → slice_get files.classes f.class ≡ Some class
      → class_at (all_classes files) f.imported f.class ≡ Some c → c ≡ declared f.class class
      → HasNone files f.class (f.member - length class.fields)
      → (let m = Descriptor.method_in (all_classes files) c f.member in code_by_mode_at files near t f
      ≡ no_code (argument_words m.flags m.desc))
  without_code_by_mode class c is at same none =
      by (slice_get class.methods (f.member - length class.fields)) refl
      ∙ without_code files near t.types codes types ready f class c own is at same none
    where
      by : (o : Option MethodTree) → slice_get class.methods (f.member - length class.fields) ≡ o
          → code_by_mode_at files near t f ≡ code_at files near t.types f
      by None e = ap (code_by_mode files near t f) (found_at files f class None own is e)
          ∙ sym (ap (code_by files near t.types f) (found_at files f class None own is e))
      by (Some method) e =
          let there = found_at files f class (Some method) own is e
          ∙ ap (λ o. Some (method_by class method o)) (none class method is e) in
          ap (code_by_mode files near t f) there
          ∙ ap (λ x. code_in files near t x (method_by class method None)) (told.without_code class method)
          ∙ sym (ap (code_by files near t.types f) there)
