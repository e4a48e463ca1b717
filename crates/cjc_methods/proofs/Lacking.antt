-- Whether a member is in int mode, and what is written for it there has no room, by what was found of its method.
use Rattle.std.proofs.Common.{◌≡◌, ℕ, ◌-◌, refl, sym, ap, subst, ◌∙◌, Bool, true, false, List, length}
use Rattle.std.specs.Prelude.{slice_get, not, ◌&&◌, Option, Some, None, Result, Ok, Err, IfOk}
use Rattle.cjc_world.specs.ClassFile.Code.{CodeTree}
use Rattle.cjc_world.specs.ClassFile.declared.tree.ClassTree.{ClassTree}
use Rattle.cjc_world.specs.ClassFile.declared.tree.MethodTree.{MethodTree}
use Rattle.cjc_components.specs.Bytecode.declared.insn.JInsn.{JInsn}
use Rattle.cjc_components.specs.Bytecode.declared.method_code.MethodCode.{MethodCode}
use Rattle.cjc_narrow.specs.Types.Flow.{Body, body_of}
use Rattle.cjc_narrow.specs.Types.Tables.{IsMethodOf}
use Rattle.cjc_narrow.specs.Types.declared.state.State.{State}
use Rattle.cjc_narrow.specs.Types.declared.table.TypeTable.{TypeTable}
use Rattle.cjc_world.specs.declared.found.Found.{Found}
use Rattle.cjc_world.specs.Classes.{all_classes}
use Rattle.cjc_world.specs.Files.{Files}
use Rattle.cjc_pool.specs.JvmSemantics.OnePackage.{method_at, method_by}
use Rattle.cjc_narrow.specs.Rows.Package.{flags_of, read_of}
use Rattle.cjc_narrow.specs.Rows.Resolved.{method_found}
use Rattle.cjc_int_mode.specs.Room.{IsRoom}
use Rattle.cjc_int_mode.specs.declared.modes.Mode.{Mode}
use Rattle.cjc_int_mode.specs.declared.modes.Mode.TheVariants as modes
use Rattle.cjc_int_package.proofs.Room.{told_in_int_mode}
use Rattle.cjc_int_package.specs.Components.{is_in_int_mode}
use Rattle.cjc_int_package.specs.Limits.{lacks_int_room, lacks_room}
use Rattle.cjc_int_package.specs.Modes.{Tables, is_int}
use Rattle.cjc_methods.specs.Ready.{AreReady, AreTold, states}
use Rattle.cjc_methods.specs.Words.{HasIntRoom}
use Rattle.cjc_methods.specs.Working.Places.{HasNone, HasPlace, class_places, place_in}
use Rattle.cjc_methods.proofs.Coded.{found_at, insns_are}

-- ---- one answer

room_once : (b : Body) (rows : List (Option State)) (r s : Bool) → IsRoom b rows modes.Int r → IsRoom b rows modes.Int s
    → r ≡ s
room_once b rows true true h k = refl
room_once b rows true false h k = absurd (h k)
room_once b rows false true h k = absurd (k h)
room_once b rows false false h k = refl

not_not : (r l : Bool) → r ≡ not l → not r ≡ l
not_not r true e = ap not e
not_not r false e = ap not e

-- where there is room or not, the test tells the other
pub lacks_told : (b : Body) (rows : List (Option State)) (r : Bool) → IsRoom b rows modes.Int r
    → not r ≡ lacks_room b rows
lacks_told b rows r h = not_not r (lacks_room b rows) (room_once b rows r (not (lacks_room b rows)) h
    (told_in_int_mode b rows))

-- so a method in int mode that does not lack it has room
pub room_told : {E : Type 0} (files : Files) (code : MethodCode) (table : TypeTable) (mode : Mode) (r : Result Bool E)
    → ((class : ClassTree) (method : MethodTree) (tree : CodeTree) → IsMethodOf files code class method tree
    → IfOk r (λ lacks. lacks ≡ (is_int mode
    && lacks_room (body_of class method tree code.insns) (states code class method tree table))))
    → IfOk r (λ lacks. lacks ≡ false → mode ≡ modes.Int → (class : ClassTree) (method : MethodTree) (tree : CodeTree)
    → IsMethodOf files code class method tree
    → IsRoom (body_of class method tree code.insns) (states code class method tree table) modes.Int true)
room_told files code table mode (Err e) told = tt
room_told files code table mode (Ok lacks) told = λ off int class method tree of.
    let b = body_of class method tree code.insns in
    let rows = states code class method tree table in
    let none : lacks_room b rows ≡ false =
    ap (λ (x : Mode). is_int x && lacks_room b rows) (sym int) ∙ sym (told class method tree of) ∙ off in
    subst (λ l. IsRoom b rows modes.Int (not l)) none (told_in_int_mode b rows)

-- ---- where the code of a member is

-- there is room where the code at its place is not in int mode or has room
pub int_room : (files : Files) (codes : List MethodCode) (types : List TypeTable) (modes_of : List Mode) (f : Found)
    (k : ℕ) (code : MethodCode) (table : TypeTable) (mode : Mode)
    → ((class : ClassTree) → slice_get files.classes f.class ≡ Some class
    → Some k ≡ place_in (class_places 0 files.classes) f.class (f.member - length class.fields))
    → slice_get codes k ≡ Some code → slice_get types k ≡ Some table → slice_get modes_of k ≡ Some mode
    → (mode ≡ modes.Int → (class : ClassTree) (method : MethodTree) (tree : CodeTree)
    → IsMethodOf files code class method tree
    → IsRoom (body_of class method tree code.insns) (states code class method tree table) modes.Int true)
    → HasIntRoom files codes types modes_of f
int_room files codes types modes_of f k code table mode at is_code is_table is_mode room =
    λ owner j is_owner there in_int other others is_other are_others class method tree of.
    let same : k ≡ j = (let p = at owner is_owner ∙ there in cc) in
    let here : code ≡ other = (let p = sym is_code ∙ ap (slice_get codes) same ∙ is_other in cc) in
    let typed : table ≡ others = (let p = sym is_table ∙ ap (slice_get types) same ∙ are_others in cc) in
    let int : mode ≡ modes.Int = (let p = sym is_mode ∙ ap (slice_get modes_of) same ∙ in_int in cc) in
    subst (λ (x : TypeTable). IsRoom (body_of class method tree other.insns) (states other class method tree x)
    modes.Int true) typed
    (subst (λ (x : MethodCode). IsRoom (body_of class method tree x.insns) (states x class method tree table)
    modes.Int true) here (room int class method tree (subst (λ (x : MethodCode). IsMethodOf files x class method tree)
    (sym here) of)))

-- there is where it has no code
pub no_code_has_room : (files : Files) (codes : List MethodCode) (types : List TypeTable) (modes_of : List Mode)
    (f : Found) → ((class : ClassTree) → slice_get files.classes f.class ≡ Some class
    → None ≡ place_in (class_places 0 files.classes) f.class (f.member - length class.fields))
    → HasIntRoom files codes types modes_of f
no_code_has_room files codes types modes_of f at = λ owner j is_owner there.
    absurd (let p = at owner is_owner ∙ there in cc)

-- ---- of a member

module _ (files : Files) (codes : List MethodCode) (types : List TypeTable) (modes_of : List Mode)
    (ready : AreReady files codes types) (t : Tables) (told : AreTold files codes types modes_of t) (f : Found)
    (own : f.imported ≡ false) (class : ClassTree) (is : slice_get files.classes f.class ≡ Some class) where
  pub lacks_with_code : (k : ℕ) (h : HasPlace files codes f.class (f.member - length class.fields) k)
      (table : TypeTable) → slice_get types k ≡ Some table → (mode : Mode) → slice_get modes_of k ≡ Some mode
      → lacks_int_room t files (method_at files f) ≡ (is_int mode
      && lacks_room (body_of h.class h.method h.tree h.code.insns) (states h.code h.class h.method h.tree table))
  lacks_with_code k h table is_table mode is_mode =
      let same : h.class ≡ class = (let p = sym h.is_class ∙ is in cc) in
      let there : slice_get h.class.methods (f.member - length h.class.fields) ≡ Some h.method =
      ap (λ (x : ClassTree). slice_get h.class.methods (f.member - length x.fields)) same ∙ h.is_method in
      let m = method_by h.class h.method (Some h.tree) in
      let found = ready.found f.class (f.member - length class.fields) h.class h.method h.is_class h.is_method in
      ap (lacks_int_room t files) (found_at files f h.class (Some h.method) own h.is_class there
      ∙ ap (λ o. Some (method_by h.class h.method o)) h.is_tree)
      ∙ ap (λ (x : Mode). is_int x && lacks_room (read_of m (flags_of (method_found (all_classes files) m.id)))
      (t.types m)) (told.mode k h.code mode h.is_code is_mode h.class h.method h.tree h.is_own)
      ∙ ap (λ flags. is_int mode && lacks_room (read_of m flags) (t.types m)) found
      ∙ ap (λ (insns : List JInsn). is_int mode && lacks_room (body_of h.class h.method h.tree insns) (t.types m))
      (insns_are files h.code h.class h.method h.tree h.is_own)
      ∙ ap (λ rows. is_int mode && lacks_room (body_of h.class h.method h.tree h.code.insns) rows)
      (told.rows k h.code table h.is_code is_table h.class h.method h.tree h.is_own)

  pub in_int_mode_with_code : (k : ℕ) → HasPlace files codes f.class (f.member - length class.fields) k → (mode : Mode)
      → slice_get modes_of k ≡ Some mode → is_in_int_mode t (method_at files f) ≡ is_int mode
  in_int_mode_with_code k h mode is_mode =
      let same : h.class ≡ class = (let p = sym h.is_class ∙ is in cc) in
      let there : slice_get h.class.methods (f.member - length h.class.fields) ≡ Some h.method =
      ap (λ (x : ClassTree). slice_get h.class.methods (f.member - length x.fields)) same ∙ h.is_method in
      ap (is_in_int_mode t) (found_at files f h.class (Some h.method) own h.is_class there
      ∙ ap (λ o. Some (method_by h.class h.method o)) h.is_tree)
      ∙ ap is_int (told.mode k h.code mode h.is_code is_mode h.class h.method h.tree h.is_own)

  pub in_int_mode_without_code : HasNone files f.class (f.member - length class.fields)
      → is_in_int_mode t (method_at files f) ≡ false
  in_int_mode_without_code none = by (slice_get class.methods (f.member - length class.fields)) refl
    where
      by : (o : Option MethodTree) → slice_get class.methods (f.member - length class.fields) ≡ o
          → is_in_int_mode t (method_at files f) ≡ false
      by None e = ap (is_in_int_mode t) (found_at files f class None own is e)
      by (Some method) e =
          ap (is_in_int_mode t) (found_at files f class (Some method) own is e
          ∙ ap (λ o. Some (method_by class method o)) (none class method is e))
          ∙ ap is_int (told.without_code class method)

  pub lacks_without_code : HasNone files f.class (f.member - length class.fields)
      → lacks_int_room t files (method_at files f) ≡ false
  lacks_without_code none = by (slice_get class.methods (f.member - length class.fields)) refl
    where
      by : (o : Option MethodTree) → slice_get class.methods (f.member - length class.fields) ≡ o
          → lacks_int_room t files (method_at files f) ≡ false
      by None e = ap (lacks_int_room t files) (found_at files f class None own is e)
      by (Some method) e =
          let m = method_by class method None in
          ap (lacks_int_room t files) (found_at files f class (Some method) own is e
          ∙ ap (λ o. Some (method_by class method o)) (none class method is e))
          ∙ ap (λ (x : Mode). is_int x && lacks_room (read_of m (flags_of (method_found (all_classes files) m.id)))
          (t.types m)) (told.without_code class method)
