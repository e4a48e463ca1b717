-- Rule 417 by modes at a member of a class of the package, and whether that is in int mode: both are the same by
-- whatever is told of the methods that was found, and no member is in int mode whose method is not.
use Rattle.std.proofs.Common.{◌≡◌, ℕ, refl, sym, ap, ◌∙◌, false, List, length}
use Rattle.std.specs.Prelude.{slice_get, ◌&&◌, Option, Some, None}
use Rattle.cjc_world.specs.ClassFile.Code.{CodeTree}
use Rattle.cjc_world.specs.ClassFile.declared.tree.ClassTree.{ClassTree}
use Rattle.cjc_world.specs.ClassFile.declared.tree.MethodTree.{MethodTree}
use Rattle.cjc_components.specs.Bytecode.declared.method_code.MethodCode.{MethodCode}
use Rattle.cjc_narrow.specs.Types.Tables.{IsMethodOf}
use Rattle.cjc_narrow.specs.Types.declared.table.TypeTable.{TypeTable}
use Rattle.cjc_world.specs.declared.found.Found.{Found}
use Rattle.cjc_world.specs.Classes.{all_classes}
use Rattle.cjc_world.specs.Files.{Files}
use Rattle.cjc_pool.specs.JvmSemantics.Linked.{Method}
use Rattle.cjc_pool.specs.JvmSemantics.OnePackage.{method_at}
use Rattle.cjc_narrow.specs.Rows.Package.{flags_of, read_of}
use Rattle.cjc_narrow.specs.Rows.Resolved.{method_found}
use Rattle.cjc_int_mode.specs.declared.modes.Mode.{Mode}
use Rattle.cjc_int_package.specs.Components.{is_in_int_mode}
use Rattle.cjc_int_package.specs.Limits.{lacks_int_room, lacks_room}
use Rattle.cjc_int_package.specs.Modes.{Tables, is_int}
use Rattle.cjc_methods.specs.Ready.{AreReady, AreTold, IsOwn}
use Rattle.cjc_methods.proofs.Lacking.{in_int_mode_with_code, in_int_mode_without_code, lacks_with_code}
use Rattle.cjc_methods.proofs.Lacking.{lacks_without_code}
use Rattle.cjc_methods.proofs.Own.{by_place, class_of, tree_at}

-- a method that is not in int mode does not lack room there
pub no_lack : (t : Tables) (files : Files) (o : Option Method) → is_in_int_mode t o ≡ false → lacks_int_room t files o
    ≡ false
no_lack t files None off = refl
no_lack t files (Some m) off =
    ap (λ b. b && lacks_room (read_of m (flags_of (method_found (all_classes files) m.id))) (t.types m)) off

module _ (files : Files) (codes : List MethodCode) (types : List TypeTable) (modes_of : List Mode)
    (ready : AreReady files codes types) (sized : length modes_of ≡ length codes) (f : Found) (own : IsOwn files f)
  where
    pub rooms_alike : (t u : Tables) → AreTold files codes types modes_of t → AreTold files codes types modes_of u
        → lacks_int_room t files (method_at files f) ≡ lacks_int_room u files (method_at files f)
    rooms_alike t u told these =
        let class = class_of files f own in
        let is = (tree_at files f own).1 in
        by_place files codes types modes_of ready sized f own
        (lacks_int_room t files (method_at files f) ≡ lacks_int_room u files (method_at files f))
        (λ k h table e mode g.
        lacks_with_code files codes types modes_of ready t told f own.own class is k h table e mode g
        ∙ sym (lacks_with_code files codes types modes_of ready u these f own.own class is k h table e mode g))
        (λ none.
        lacks_without_code files codes types modes_of ready t told f own.own class is none
        ∙ sym (lacks_without_code files codes types modes_of ready u these f own.own class is none))

    pub modes_alike : (t u : Tables) → AreTold files codes types modes_of t → AreTold files codes types modes_of u
        → is_in_int_mode t (method_at files f) ≡ is_in_int_mode u (method_at files f)
    modes_alike t u told these =
        let class = class_of files f own in
        let is = (tree_at files f own).1 in
        by_place files codes types modes_of ready sized f own
        (is_in_int_mode t (method_at files f) ≡ is_in_int_mode u (method_at files f))
        (λ k h table e mode g.
        in_int_mode_with_code files codes types modes_of ready t told f own.own class is k h mode g
        ∙ sym (in_int_mode_with_code files codes types modes_of ready u these f own.own class is k h mode g))
        (λ none.
        in_int_mode_without_code files codes types modes_of ready t told f own.own class is none
        ∙ sym (in_int_mode_without_code files codes types modes_of ready u these f own.own class is none))

    -- where no code is in int mode
    pub not_in_int_mode : (t : Tables) → AreTold files codes types modes_of t
        → ((k : ℕ) (code : MethodCode) (mode : Mode) → slice_get codes k ≡ Some code → slice_get modes_of k ≡ Some mode
        → (class : ClassTree) (method : MethodTree) (tree : CodeTree) → IsMethodOf files code class method tree
        → is_int mode ≡ false)
        → is_in_int_mode t (method_at files f) ≡ false
    not_in_int_mode t told off =
        let class = class_of files f own in
        let is = (tree_at files f own).1 in
        by_place files codes types modes_of ready sized f own (is_in_int_mode t (method_at files f) ≡ false)
        (λ k h table e mode g.
        in_int_mode_with_code files codes types modes_of ready t told f own.own class is k h mode g
        ∙ off k h.code mode h.is_code g h.class h.method h.tree h.is_own)
        (λ none. in_int_mode_without_code files codes types modes_of ready t told f own.own class is none)
