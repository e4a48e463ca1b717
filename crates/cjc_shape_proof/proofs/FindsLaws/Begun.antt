-- The methods that calls reach have tables.
use Rattle.std.proofs.Common.{◌≡◌, ℕ, sym, ap, subst, ◌∙◌, Bool, true, false, not, List, Some}
use Rattle.cjc_bytes.specs.AccessFlags.{is_static}
use Rattle.cjc_bytes.specs.declared.fault.MemberId.{MemberId}
use Rattle.cjc_bytes.specs.declared.settings.Settings.{Settings}
use Rattle.cjc_classes.specs.JvmSemantics.Linked.{Callee, Method}
use Rattle.cjc_classes.specs.JvmSemantics.OnePackage.{is_initialiser, method_by}
use Rattle.cjc_check_proof.specs.WorldProof.Calls.Targets.{IsOwnCode, IsTarget, abroad, inside}
use Rattle.cjc_check_proof.proofs.WorldProofTypes.{below_type}
use Rattle.cjc_world.specs.ClassFile.declared.tree.ClassTree.{ClassTree}
use Rattle.cjc_world.specs.ClassFile.declared.tree.MethodTree.{MethodTree}
use Rattle.cjc_components.specs.Bytecode.declared.method_code.MethodCode.{MethodCode}
use Rattle.cjc_shape_proof.specs.Whole.{AreTabled}
use Rattle.cjc_narrow_proof.specs.Laws.Unbroken.{AreSpelt, IsUnbroken}
use Rattle.cjc_narrow_proof.proofs.LawsLaws.Own.{class_by_name, flags_by_name}
use Rattle.cjc_narrow_proof.proofs.LawsLaws.Whole.{has_tables}
use Rattle.cjc_narrow_proof.specs.Runs.Begun.{IsBegun}
use Rattle.cjc_narrow_proof.specs.Runs.Calls.{IsChosen, IsReached}
use Rattle.cjc_narrow_proof.specs.Runs.Calls as runs
use Rattle.cjc_narrow_proof.specs.Runs.Tables.{Tables}
use Rattle.cjc_world.specs.Upwards.{Below}
use Rattle.cjc_world.specs.Classes.{Class, all_classes, class_named}
use Rattle.cjc_world.specs.Files.{Files}
use Rattle.cjc_world.specs.Lookup.{receiver}
use Rattle.cjc_world.specs.Subtype.{is_subtype, starts}

module _ (list : List ℕ) (files : Files) (codes : List MethodCode) (settings : Settings) (is : IsUnbroken list files
    codes settings) (spelt : AreSpelt files) (tables : Tables) (tabled : AreTabled files codes tables) where
  -- a method of the package with code is begun as its flags say
  pub begun : (on : Bool) (id : MemberId) → is_initialiser id.name ≡ false → (m : Method) (code : IsOwnCode files id m)
      → is_static (let k = code.method in k.flags) ≡ not on → IsBegun files tables on id.desc m
  begun on id other m code static =
      let own = code.own in
      subst (IsBegun files tables on id.desc) (sym code.is) (record {
        has_tables = has_tables list files codes settings is spelt tables (method_by code.class code.method
            (Some code.tree)) (tabled.own code.class code.method code.tree own (ap is_initialiser code.name
            ∙ other) code.is_code);
        desc = code.desc;
        flags = ap is_static (flags_by_name files list is.listed is.world own.number code.class own.is_class own.place
            code.method own.is_method) ∙ static;
      })

  pub reached : (id : MemberId) → is_initialiser id.name ≡ false → (P : ClassTree → MethodTree
      → Type 0) (callee : Callee) → ((t : ClassTree) (k : MethodTree) → P t k → is_static k.flags ≡ true)
      → IsTarget files id P callee → IsReached files tables id callee
  reached id other P _ static (inside {m = m} code holds) =
      runs.inside (begun false id other m code (static code.class code.method holds))
  reached id other P _ static (abroad e) = runs.abroad e

  -- the class of a method of the package
  pub declarer : (id : MemberId) (m : Method) (code : IsOwnCode files id m) → (let n = m.id in n.class)
      ≡ (let t = code.class in t.name)
  declarer id m code = ap (λ (n : Method). let i = n.id in i.class) code.is

  pub chosen : (plain : (x : List ℕ) (c : Class) → class_named (all_classes files) x ≡ Some c
      → starts 91 x ≡ false) (id : MemberId) → is_initialiser id.name ≡ false → (type : List ℕ) (P : ClassTree
      → MethodTree → Type 0) (callee : Callee)
      → ((t : ClassTree) (k : MethodTree) → P t k → (is_static k.flags ≡ false)
      × Below (all_classes files) (receiver type) t.name) → IsTarget files id P callee
      → IsChosen files tables id type callee
  chosen plain id other type P _ suits (inside {m = m} code holds) =
      let own = code.own in
      let s = suits code.class code.method holds in
      let open_name = plain (let t = code.class in t.name) _ (class_by_name files list is.listed is.world own.number
      code.class own.is_class) in
      runs.inside (begun true id other m code s.0) (subst (λ n. is_subtype (all_classes files) type n ≡ true)
      (sym (declarer id m code)) (below_type (all_classes files) type (let t = code.class in t.name) open_name s.1))
  chosen plain id other type P _ suits (abroad e) = runs.abroad e
