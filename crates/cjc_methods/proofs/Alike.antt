-- The narrow code of a package's methods is the same by whatever is told of them that was found.
use Rattle.std.proofs.Common.{◌≡◌, ℕ, ◌-◌, refl, sym, ap, ◌∙◌, List, [], ◌∷◌, length, false}
use Rattle.std.specs.Prelude.{◌&&◌, map, slice_get, All, Some}
use Rattle.std.proofs.lemmas.List.Elements.{All-head, All-tail}
use Rattle.cjc_bytes.specs.declared.fault.MemberId.{MemberId}
use Rattle.cjc_world.specs.ClassFile.Code.{CodeTree}
use Rattle.cjc_world.specs.ClassFile.declared.tree.ClassTree.{ClassTree}
use Rattle.cjc_world.specs.ClassFile.declared.tree.MethodTree.{MethodTree}
use Rattle.cjc_components.specs.Bytecode.declared.method_code.MethodCode.{MethodCode}
use Rattle.cjc_pool.specs.NCode.declared.narrow.NInsn.{NInsn}
use Rattle.cjc_pool.specs.NCode.declared.narrow.NMethod.{NMethod}
use Rattle.cjc_narrow.specs.Types.Flow.{body_of}
use Rattle.cjc_narrow.specs.Types.declared.table.TypeTable.{TypeTable}
use Rattle.cjc_narrow.specs.Types.Tables.{IsMethodOf}
use Rattle.cjc_world.specs.declared.found.Found.{Found}
use Rattle.cjc_world.specs.Classes.{all_classes}
use Rattle.cjc_world.specs.Files.{Files}
use Rattle.cjc_components.specs.Descriptor.{method_in}
use Rattle.cjc_components.specs.Written.{no_code}
use Rattle.cjc_narrow.specs.Rows.Resolved.{argument_words}
use Rattle.cjc_pool.specs.JvmSemantics.OnePackage.{method_at, method_by}
use Rattle.cjc_int_mode.specs.declared.modes.Mode.{Mode}
use Rattle.cjc_int_narrow.specs.Constants.{constants_of}
use Rattle.cjc_int_narrow.proofs.OneLeast.{one_least_ranges}
use Rattle.cjc_int_package.specs.Modes.{Tables, is_int}
use Rattle.cjc_int_package.specs.Written.{code_by_mode_at}
use Rattle.cjc_int_package.specs.Limits.{lacks_int_room, lacks_room}
use Rattle.cjc_pool.specs.Tokens.Members.{is_initialiser}
use Rattle.cjc_methods.proofs.Lacking.{lacks_with_code}
use Rattle.cjc_methods.specs.Ready.{AreReady, AreTold, IsListed, IsOwn, states}
use Rattle.cjc_methods.specs.Working.ByMode.{selected_by}
use Rattle.cjc_methods.proofs.Coded.{with_code_by_mode, without_code_by_mode}
use Rattle.cjc_methods.proofs.Own.{by_place, class_of, tree_at}

module _ (files : Files) (codes : List MethodCode) (types : List TypeTable) (modes_of : List Mode)
    (ready : AreReady files codes types) (sized : length modes_of ≡ length codes) (near : List MemberId) where
  -- ---- two that are told

  module _ (t u : Tables) (told : AreTold files codes types modes_of t) (these : AreTold files codes types modes_of u)
    where
      one_alike : (f : Found) → IsOwn files f → code_by_mode_at files near t f ≡ code_by_mode_at files near u f
      one_alike f own =
          let class = class_of files f own in
          let tree = tree_at files f own in
          by_place files codes types modes_of ready sized f own
          (code_by_mode_at files near t f ≡ code_by_mode_at files near u f)
          (λ k h table e mode g.
          let m = method_by h.class h.method (Some h.tree) in
          let b = body_of h.class h.method h.tree h.code.insns in
          let rows = states h.code h.class h.method h.tree table in
          let same : t.ranges m ≡ u.ranges m = one_least_ranges b (constants_of files) rows (t.ranges m) (u.ranges m)
          (told.ranges k h.code table h.is_code e h.class h.method h.tree h.is_own)
          (these.ranges k h.code table h.is_code e h.class h.method h.tree h.is_own) in
          with_code_by_mode files near codes types modes_of ready t told f own.own k class tree.1 h table e mode g
          ∙ ap (selected_by mode files near h.code h.class h.method h.tree rows) same
          ∙ sym (with_code_by_mode files near codes types modes_of ready u these f own.own k class tree.1 h table e mode
          g))
          (λ none.
          without_code_by_mode files near codes types modes_of ready t told f own.own class own.class tree.1
          own.is_class (tree.2 own.class own.is_class) none
          ∙ sym (without_code_by_mode files near codes types modes_of ready u these f own.own class own.class tree.1
          own.is_class (tree.2 own.class own.is_class) none))

      pub all_alike : (members : List Found) → All (IsOwn files) members → map (code_by_mode_at files near t) members
          ≡ map (code_by_mode_at files near u) members
      all_alike [] own = refl
      all_alike (f ∷ fs) own =
          ap (λ c. c ∷ map (code_by_mode_at files near t) fs) (one_alike f (All-head (IsOwn files) f fs own))
          ∙ ap (λ cs. code_by_mode_at files near u f ∷ cs) (all_alike fs (All-tail (IsOwn files) f fs own))

  -- ---- a method with an instruction

  module _ (t : Tables) (told : AreTold files codes types modes_of t) where
    -- it is selected by its mode, of the code of the method that is the member
    pub record IsFromCode (f : Found) (m : NMethod) : Type 0 where
      pub place : ℕ
      pub code : MethodCode
      pub class : ClassTree
      pub method : MethodTree
      pub tree : CodeTree
      pub table : TypeTable
      pub mode : Mode
      pub is_code : slice_get codes place ≡ Some code
      pub is_table : slice_get types place ≡ Some table
      pub is_mode : slice_get modes_of place ≡ Some mode
      pub is_own : IsMethodOf files code class method tree
      pub is : m ≡ selected_by mode files near code class method tree (states code class method tree table)
          (t.ranges (method_by class method (Some tree)))
      pub plain : IsListed files f → is_initialiser method.name ≡ false
      pub lacks : lacks_int_room t files (method_at files f) ≡ (is_int mode
          && lacks_room (body_of class method tree code.insns) (states code class method tree table))

    nothing : (nargs at : ℕ) (i : NInsn) → slice_get (let m = no_code nargs in m.insns) at ≡ Some i → ⊥
    nothing nargs at i e = cc

    pub one_selected : (f : Found) → IsOwn files f → (at : ℕ) (insn : NInsn)
        → slice_get (code_by_mode_at files near t f).insns at ≡ Some insn
        → IsFromCode f (code_by_mode_at files near t f)
    one_selected f own at insn there =
        let class = class_of files f own in
        let tree = tree_at files f own in
        by_place files codes types modes_of ready sized f own (IsFromCode f (code_by_mode_at files near t f))
        (λ k h table e mode g. record {
          place = k;
          code = h.code;
          class = h.class;
          method = h.method;
          tree = h.tree;
          table = table;
          mode = mode;
          is_code = h.is_code;
          is_table = e;
          is_mode = g;
          is_own = h.is_own;
          is = with_code_by_mode files near codes types modes_of ready t told f own.own k class tree.1 h table e mode g;
          plain = λ l. (let same : h.class ≡ class = (let p = sym h.is_class ∙ tree.1 in cc) in l.written h.class
              h.method h.is_class (ap (λ (x : ClassTree). slice_get h.class.methods (f.member - length x.fields)) same
              ∙ h.is_method));
          lacks = lacks_with_code files codes types modes_of ready t told f own.own class tree.1 k h table e mode g;
        })
        (λ none.
        let m = method_in (all_classes files) own.class f.member in
        let empty = without_code_by_mode files near codes types modes_of ready t told f own.own class own.class tree.1
        own.is_class (tree.2 own.class own.is_class) none in
        absurd (nothing (argument_words m.flags m.desc) at insn (sym (ap (λ (x : NMethod). slice_get x.insns at) empty)
        ∙ there)))
