-- What instructions name, as look-ups answer it, in the definition's terms.
use Rattle.std.specs.Prelude.{◌≡◌, ℕ, List, Option, Some, None}
use Rattle.cjc_script.specs.Bytes.declared.fault.MemberId.{MemberId}
use Rattle.cjc_script.specs.Sorts
use Rattle.cjc_jvm_step.specs.Heap.Kinds.{elements_of}
use Rattle.cjc_jvm_semantics.specs.Linked
use Rattle.cjc_jvm_semantics.specs.OnePackage.{of_class}
use Rattle.cjc_jvm_step.specs.declared.step.shapes.Shape.{Shape}
use Rattle.cjc_jvm_step.specs.declared.step.shapes.Shape.TheVariants.{Class, Numbers, References}
use Rattle.cjc_jvm_step.specs.declared.step.lookups.ResolvedField.{ResolvedField}
use Rattle.cjc_jvm_step.specs.declared.step.lookups.ResolvedField.TheVariants.{Constant, Static, Instance}
use Rattle.cjc_jvm_step.specs.declared.step.lookups.Callee.{Callee}
use Rattle.cjc_jvm_step.specs.declared.step.lookups.Callee.TheVariants.{Inside, Abroad}
use Rattle.cjc_jvm_step.specs.declared.step.lookups.Call.{Call}
use Rattle.cjc_jvm_step.specs.declared.step.lookups.Call.TheVariants.{OnClass, OnObject}

-- the type that a name stands for
abbrev pub shape_meant : Shape → Sorts.Shape (List ℕ)
shape_meant (Class class) = Sorts.OfClass class.now
shape_meant (Numbers element) = Sorts.OfNumbers (elements_of element)
shape_meant (References class) = Sorts.OfReferences class.now

-- the field that was found for a name
abbrev pub field_of : ResolvedField → MemberId → Linked.ResolvedField
field_of (Constant z) id = Linked.Constant z
field_of (Static class) id = Linked.Static (of_class class.now id)
field_of (Instance class) id = Linked.Instance (of_class class.now id)

-- what a call of a name reaches
abbrev pub callee_of : Callee → MemberId → Linked.Callee
callee_of (Inside m) id = Linked.Inside m.now
callee_of (Abroad class) id = Linked.Abroad (of_class class.now id)

-- what a call reaches by the type of its receiver
abbrev pub selection_of : Option Linked.Call → (type : List ℕ) → Option Linked.Callee
selection_of None type = None
selection_of (Some (Linked.OnClass callee)) type = None
selection_of (Some (Linked.OnObject selected)) type = selected type

-- the call of a name, where it is found
abbrev pub IsCall : MemberId → Option Call → Option Linked.Call → Type 0
IsCall id None call = call ≡ None
IsCall id (Some (OnClass callee)) call = call ≡ Some (Linked.OnClass (callee_of callee id))
IsCall id (Some OnObject) call = call ≡ Some (Linked.OnObject (λ type. selection_of call type))
