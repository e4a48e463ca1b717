-- What instructions of a package name is there and fits them, whichever of its methods are in int mode.
use Rattle.std.proofs.Common.{◌≡◌, ℕ, refl, sym, ap, ◌∙◌, Bool, true, false, List, [], ◌∷◌}
use Rattle.std.specs.Prelude.{not, ◌&&◌, ◌||◌, ◌==◌, None, Some, if◌then◌else◌}
use Rattle.cjc_bytes.specs.AccessFlags.{is_private, is_static}
use Rattle.cjc_bytes.specs.declared.fault.MemberId.{MemberId}
use Rattle.cjc_bytes.specs.declared.settings.Settings.{Settings}
use Rattle.cjc_bytes.proofs.Bools.{bool_four}
use Rattle.cjc_classes.specs.Subset.Checks.{names_variable}
use Rattle.cjc_classes.specs.Subset.Members as subset
use Rattle.cjc_classes.specs.Subset.Names.{is_name_missing, is_other_kind, is_unfit_call, names_missing}
use Rattle.cjc_classes.specs.Subset.Names.{names_other_kind, names_unfit, names_unfound}
use Rattle.cjc_classes.specs.Subset.Types.{is_unsupported_name, names_unsupported}
use Rattle.cjc_components.specs.Bytecode.declared.insn.JOp.{JOp}
use Rattle.cjc_components.specs.Bytecode.declared.insn.JOp.TheVariants as jop
use Rattle.cjc_components.specs.Bytecode.declared.method_code.MethodCode.{MethodCode}
use Rattle.cjc_narrow_proof.proofs.LawsLaws.Casts.{IsReadType, type_there}
use Rattle.cjc_narrow_proof.proofs.LawsLaws.ClassNames.{each_name}
use Rattle.cjc_narrow_proof.proofs.LawsLaws.Handlers.{class_there, entry_clean, insn_clean}
use Rattle.cjc_narrow_proof.proofs.LawsLaws.Instructions.{types_fit}
use Rattle.cjc_narrow_proof.proofs.TablesLaws.Spelt.{class_read}
use Rattle.cjc_narrow_proof.specs.Laws.Calls.{CallFits}
use Rattle.cjc_narrow_proof.specs.Laws.Unbroken.{AreSpelt, IsInsnOf}
use Rattle.cjc_narrow_proof.specs.Script.Sorts.{OfClass}
use Rattle.cjc_world.specs.ClassFile.declared.tree.ClassTree.{ClassTree}
use Rattle.cjc_world.specs.Classes.{all_classes, class_named}
use Rattle.cjc_world.specs.Files.{Files}
use Rattle.cjc_world.specs.Rules.{is_interface_of}
use Rattle.cjc_shape_proof.specs.Written.Checked.{KeepsNames}

-- ---- by instruction

module _ (list : List ℕ) (files : Files) (codes : List MethodCode) (settings : Settings) (is : KeepsNames list files
    codes settings) (class : ClassTree) (op : JOp) (at : IsInsnOf files codes class op) where
  pub op_there : (names_missing (all_classes files) op ≡ false) × (names_unfound (all_classes files) op ≡ false)
      × (names_unfit files class op ≡ false)
  op_there =
      let clean = insn_clean files codes is.names at.code class at.method at.tree at.of_package at.listed at.place
      at.insn at.is_insn in (
        ap (names_missing (all_classes files)) (sym at.is_op) ∙ clean.0,
        ap (names_unfound (all_classes files)) (sym at.is_op) ∙ clean.1,
        ap (names_unfit files class) (sym at.is_op) ∙ clean.2,
      )

  pub op_fit : (names_unsupported op ≡ false) × (names_variable files op ≡ false)
  op_fit =
      let fit = types_fit list files codes settings is.checks at.code class at.method at.tree at.of_package at.listed
      at.place at.insn at.is_insn in
      (ap names_unsupported (sym at.is_op) ∙ fit.0, ap (names_variable files) (sym at.is_op) ∙ fit.1)

module _ (list : List ℕ) (files : Files) (codes : List MethodCode) (settings : Settings) (is : KeepsNames list files
    codes settings) (class : ClassTree) (id : MemberId) where
  -- 205: what invokevirtual names is no interface
  pub virtual_there : IsInsnOf files codes class (jop.Call 0xB6 id)
      → is_interface_of (class_named (all_classes files) id.class) ≡ false
  unfolding names_other_kind
  virtual_there at =
      let i = at.insn in
      ap (names_other_kind (all_classes files) class at.method i.at) (sym at.is_op)
      ∙ entry_clean files codes is.names at.code class at.method at.tree at.of_package at.listed at.place at.insn
      at.is_insn

module _ (list : List ℕ) (files : Files) (codes : List MethodCode) (settings : Settings) (is : KeepsNames list files
    codes settings) (spelt : AreSpelt files) (class : ClassTree) where
  -- no class has the empty name
  name_there : (name : List ℕ) → is_name_missing (all_classes files) name ≡ false → is_unsupported_name name ≡ false
      → IsReadType (all_classes files) name
  unfolding is_name_missing
  name_there [] there fit =
      let c = class_there (all_classes files) [] there in
      let none : None ≡ Some (OfClass []) =
      (class_read [] (each_name files list is.listed is.world spelt [] c.0 c.1)).class in
      absurd cc
  name_there (b ∷ bs) there fit = type_there (all_classes files) b bs there fit

  pub cast_there : (name : List ℕ) → IsInsnOf files codes class (jop.CheckCast name)
      → IsReadType (all_classes files) name
  unfolding names_missing names_unsupported
  cast_there name at = name_there name (op_there list files codes settings is class (jop.CheckCast name) at).0
      (op_fit list files codes settings is class (jop.CheckCast name) at).0

  pub test_there : (name : List ℕ) → IsInsnOf files codes class (jop.InstanceOf name)
      → IsReadType (all_classes files) name
  unfolding names_missing names_unsupported
  test_there name at = name_there name (op_there list files codes settings is class (jop.InstanceOf name) at).0
      (op_fit list files codes settings is class (jop.InstanceOf name) at).0

-- ---- calls

pub call_fits : (op : ℕ) (name : List ℕ) (flags : ℕ) → is_unfit_call op name flags ≡ false → CallFits op name flags
call_fits op name flags e =
    let h = bool_four (is_other_kind (op == 184) flags) (((op == 182) || (op == 185)) && is_private flags)
    (subset.is_initialiser name) (not (op == 183) && subset.is_constructor name) e in
    record {
      no_initialiser = h.2;
      no_constructor = λ f. constructor (op == 183) (subset.is_constructor name) f h.3;
      of_class = λ f. kind (op == 184) (is_static flags) f h.0;
      on_object = λ f. other (op == 184) (is_static flags) f h.0;
      selectable = λ f g. open_one (is_private flags) (is_static flags) (private ((op == 182)
          || (op == 185)) (is_private flags) g h.1) (other (op == 184) (is_static flags) f h.0);
    }
  where
    constructor : (a b : Bool) → a ≡ false → (not a && b) ≡ false → b ≡ false
    constructor true b f e = absurd cc
    constructor false b f e = e

    kind : (a s : Bool) → a ≡ true → (if s then not a else a) ≡ false → s ≡ true
    kind true true f e = refl
    kind true false f e = absurd cc
    kind false s f e = absurd cc

    other : (a s : Bool) → a ≡ false → (if s then not a else a) ≡ false → s ≡ false
    other a false f e = refl
    other true true f e = absurd cc
    other false true f e = absurd cc

    private : (a p : Bool) → a ≡ true → (a && p) ≡ false → p ≡ false
    private true p f e = e
    private false p f e = absurd cc

    open_one : (p s : Bool) → p ≡ false → s ≡ false → (not p && not s) ≡ true
    open_one false false f g = refl
    open_one true s f g = absurd cc
    open_one false true f g = absurd cc
