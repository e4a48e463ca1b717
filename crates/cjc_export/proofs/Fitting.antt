-- The constants of a tree fit their entries, and the name of each is in the pool.
use Rattle.std.proofs.Common.{◌≡◌, ℕ, ℤ, ◌<◌, ◌^◌, Bool, true, false, List, [], ◌∷◌, ◌++◌, Option, Some, None, length}
use Rattle.std.proofs.Common.{arith}
use Rattle.std.specs.Prelude.{All}
use Rattle.std.specs.List.{AllByRecursion, flat_map}
use Rattle.std.specs.Int.{w32}
use Rattle.std.proofs.lemmas.List.Elements.{All-from_recursion}
use mir.Facts.{Fits-of_z}
use Rattle.cjc_export.specs.declared.tree.ExportField.{ExportField}
use Rattle.cjc_export.specs.declared.tree.ExportMethod.{ExportMethod}
use Rattle.cjc_export.specs.declared.tree.ExportClass.{ExportClass}
use Rattle.cjc_export.specs.declared.tree.ExportTree.{ExportTree}
use Rattle.cjc_bytes.specs.AccessFlags.{is_interface}
use Rattle.cjc_export.specs.Pool.{aid_length}
use Rattle.cjc_export.specs.Constant.{Constant, text, class, this}
use Rattle.cjc_export.specs.Written.{value_name, class_needs, value_needs, field_needs, method_needs, class_tree_needs}
use Rattle.cjc_export.specs.Written.{needs, constants}
use Rattle.cjc_export.specs.Writable.{IsText, ConstantFits, ValueFits, FieldFits, MethodStands, ClassFits, CountsFit}
use Rattle.cjc_export.specs.Writable.{IsWritable, EachAfter}
use Rattle.cjc_export.proofs.Numbering.{Has, all_in, all_append, all_front, all_back, all_inserted, all_mapped}
use Rattle.cjc_export.proofs.Numbering.{all_after, all_of_each}

-- ---- they fit

class_fit : (name : List ℕ) → IsText name → AllByRecursion ConstantFits (class_needs name)
class_fit name h = (h, (tt, tt))

value_name_fits : ConstantFits value_name
unfolding value_name
value_name_fits = omega arith

value_fit : (f : ExportField) (value : Option ℤ) → ValueFits f value → AllByRecursion ConstantFits (value_needs value)
value_fit f None h = tt
value_fit f (Some value) h = (value_name_fits, ((Fits-of_z {w = w32} h.0).fits, tt))

field_fit : (before : List ExportField) (f : ExportField) → FieldFits before f
    → AllByRecursion ConstantFits (field_needs f)
field_fit before f h = (h.name, (h.desc, value_fit f f.constant h.value))

method_fit : (interface : Bool) (count : ℕ) (before : List ExportMethod) (m : ExportMethod)
    → MethodStands interface count before m → AllByRecursion ConstantFits (method_needs m)
method_fit true count before m h = (h.0.name, (h.0.desc, tt))
method_fit false count before m h = (h.0.name, (h.0.desc, tt))

class_tree_fit : (before : List ExportClass) (c : ExportClass) → ClassFits before c
    → AllByRecursion ConstantFits (class_tree_needs c)
unfolding class_tree_needs
class_tree_fit before c h =
    all_append ConstantFits (class_needs c.name) _ (class_fit c.name h.name)
    (all_append ConstantFits (flat_map class_needs c.listed) _ (all_of_each class_needs ConstantFits IsText class_fit
    c.listed h.listed)
    (all_append ConstantFits (flat_map class_needs c.interfaces) _ (all_of_each class_needs ConstantFits IsText
    class_fit c.interfaces h.interfaces)
    (all_append ConstantFits (flat_map field_needs c.fields) (flat_map method_needs c.methods) (all_after field_needs
    ConstantFits FieldFits field_fit [] c.fields h.fields)
    (all_after method_needs ConstantFits (MethodStands (is_interface c.flags) (length c.methods))
    (method_fit (is_interface c.flags) (length c.methods)) [] c.methods h.methods))))

needs_fit : (t : ExportTree) → IsWritable t → AllByRecursion ConstantFits (needs t)
unfolding needs
needs_fit t h = (h.name, (tt, all_after class_tree_needs ConstantFits ClassFits class_tree_fit [] t.classes h.classes))

pub constants_fit_each : (t : ExportTree) → IsWritable t → AllByRecursion ConstantFits (constants t)
constants_fit_each t h = all_inserted ConstantFits [] (needs t) tt (needs_fit t h)

pub constants_fit : (t : ExportTree) → IsWritable t → All ConstantFits (constants t)
constants_fit t h = All-from_recursion ConstantFits (constants t) (constants_fit_each t h)

each_counts : (before cs : List ExportClass) → EachAfter ClassFits before cs → AllByRecursion CountsFit cs
each_counts before [] h = tt
each_counts before (c ∷ cs) h = (h.0.counts, each_counts (before ++ c ∷ []) cs h.1)

pub counts_fit : (t : ExportTree) → IsWritable t → All CountsFit t.classes
counts_fit t h = All-from_recursion CountsFit t.classes (each_counts [] t.classes h.classes)

pub aid_fits : (t : ExportTree) → IsWritable t → length t.aid < 2 ^ 8
aid_fits t h = within (length t.aid) h.aid
  where
    within : (n : ℕ) → aid_length n ≡ Some n → n < 2 ^ 8
    within n e = grind arith

-- ---- their names are in the pool

-- The name of the constant is in the pool.
abbrev pub NameIn : ExportTree → List Constant → Constant → Type 0
NameIn t pool (class name) = Has pool (text name)
NameIn t pool this = Has pool (text t.name)
NameIn t pool _ = Unit {0}

module _ (t : ExportTree) (pool : List Constant) where
  class_named : (name : List ℕ) → AllByRecursion (Has pool) (class_needs name)
      → AllByRecursion (NameIn t pool) (class_needs name)
  class_named name h = (tt, (h.0, tt))

  value_named : (value : Option ℤ) → AllByRecursion (NameIn t pool) (value_needs value)
  unfolding value_name
  value_named None = tt
  value_named (Some value) = (tt, (tt, tt))

  field_named : (f : ExportField) → AllByRecursion (Has pool) (field_needs f)
      → AllByRecursion (NameIn t pool) (field_needs f)
  field_named f h = (tt, (tt, value_named f.constant))

  method_named : (m : ExportMethod) → AllByRecursion (Has pool) (method_needs m)
      → AllByRecursion (NameIn t pool) (method_needs m)
  method_named m h = (tt, (tt, tt))

  class_tree_named : (c : ExportClass) → AllByRecursion (Has pool) (class_tree_needs c)
      → AllByRecursion (NameIn t pool) (class_tree_needs c)
  unfolding class_tree_needs
  class_tree_named c h =
      let a = all_back (Has pool) (class_needs c.name) _ h in
      let b = all_back (Has pool) (flat_map class_needs c.listed) _ a in
      let d = all_back (Has pool) (flat_map class_needs c.interfaces) _ b in
      all_append (NameIn t pool) (class_needs c.name) _ (class_named c.name (all_front (Has pool) (class_needs c.name) _
      h))
      (all_append (NameIn t pool) (flat_map class_needs c.listed) _ (all_mapped class_needs (Has pool) (NameIn t pool)
      class_named c.listed (all_front (Has pool) (flat_map class_needs c.listed) _ a))
      (all_append (NameIn t pool) (flat_map class_needs c.interfaces) _ (all_mapped class_needs (Has pool)
      (NameIn t pool) class_named c.interfaces (all_front (Has pool) (flat_map class_needs c.interfaces) _ b))
      (all_append (NameIn t pool) (flat_map field_needs c.fields) (flat_map method_needs c.methods)
      (all_mapped field_needs (Has pool) (NameIn t pool) field_named c.fields
      (all_front (Has pool) (flat_map field_needs c.fields) (flat_map method_needs c.methods) d))
      (all_mapped method_needs (Has pool) (NameIn t pool) method_named c.methods
      (all_back (Has pool) (flat_map field_needs c.fields) (flat_map method_needs c.methods) d)))))

  needs_named : AllByRecursion (Has pool) (needs t) → AllByRecursion (NameIn t pool) (needs t)
  unfolding needs
  needs_named h = (tt, (h.0, all_mapped class_tree_needs (Has pool) (NameIn t pool) class_tree_named t.classes h.1.1))

pub all_needed : (t : ExportTree) → AllByRecursion (Has (constants t)) (needs t)
all_needed t = all_in [] (needs t)

pub constants_named : (t : ExportTree) → AllByRecursion (NameIn t (constants t)) (constants t)
constants_named t = all_inserted (NameIn t (constants t)) [] (needs t) tt (needs_named t (constants t) (all_needed t))
