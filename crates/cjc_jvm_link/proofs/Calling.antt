-- Calls as look-ups answer them.
use Rattle.std.proofs.Common.{◌≡◌, ℕ, refl, sym, ap, ◌∙◌, true, List, [], ◌++◌}
use Rattle.std.specs.Prelude.{Option, Some, None, if◌then◌else◌}
use Rattle.cjc_world.specs.Lookup.{selected}
use Rattle.cjc_world.specs.Classes.{Class, class_named, declared}
use Rattle.cjc_world.specs.Supertypes.{IsAcyclic, Unknown, supertypes, line, upwards}
use Rattle.cjc_world.specs.ClassFile.declared.tree.ClassTree.{ClassTree}
use Rattle.cjc_world.proofs.Settled.{supertypes-known}
use Rattle.cjc_world.proofs.Upwards.{line_goes_up}
use Rattle.cjc_jvm_semantics.specs.Linked
use Rattle.cjc_jvm_semantics.specs.OnePackage.{first_imported}
use Rattle.cjc_jvm_step.specs.Step.Names.{selection_of}
use Rattle.cjc_jvm_link.proofs.Heights.{supertypes_none, supertypes_unknown}

-- a call on an object is what it selects
pub on_object : (call : Option Linked.Call) (selected : List ℕ → Option Linked.Callee)
    → call ≡ Some (Linked.OnObject selected) → call ≡ Some (Linked.OnObject (λ type. selection_of call type))
on_object call selected e = e ∙ ap (λ k. Some (Linked.OnObject (λ type. selection_of k type))) (sym e)

module _ (w : List Class) (acyclic : IsAcyclic w) where
  pub imported_here : (x : List ℕ) (c : Class) → class_named w x ≡ Some c → c.is_imported ≡ true
      → first_imported (line w x) ≡ c.name
  unfolding line
  imported_here x c e i = ap (λ k. first_imported (upwards k)) (supertypes-known w acyclic x c e)
      ∙ ap (λ t. if t then c.name else first_imported (upwards (supertypes w c.supers) ++ [])) i

  pub declared_above : (x : List ℕ) (n : ℕ) (t : ClassTree) → class_named w x ≡ Some (declared n t)
      → first_imported (line w t.superclass) ≡ first_imported (line w x)
  declared_above x n t e = sym (ap first_imported (line_goes_up w acyclic x t.superclass (declared n t) e refl))

  pub imported_nowhere : (x : List ℕ) → class_named w x ≡ None → first_imported (line w x) ≡ []
  unfolding line
  imported_nowhere x e = ap (λ k. first_imported (upwards k)) (supertypes_unknown w acyclic x [] e
      ∙ ap (Unknown x) (supertypes_none w acyclic))
