-- What a refusal tells of a method is what inference answered of it.
use Rattle.std.proofs.Common.{◌≡◌, ℕ, List, get_or, Result, Ok, Err, IfOk, IfErr, refl, sym, ◌∙◌, ap, subst, inl, inr}
use Rattle.std.proofs.lemmas.Option.{get_or_from_slice_get}
use Rattle.cjc_bytes.specs.Refused.{IsUnlessNoMemory}
use Rattle.cjc_bytes.specs.declared.breaks.BrokenAt.{BrokenAt}
use Rattle.cjc_bytes.specs.declared.fault.Fault.{Fault}
use Rattle.cjc_bytes.specs.declared.fault.Fault.TheVariants as faults
use Rattle.cjc_bytes.specs.declared.fault.Refusal.{Refusal}
use Rattle.cjc_classfile.specs.Code.{CodeTree}
use Rattle.cjc_classfile.specs.declared.tree.ClassTree.{ClassTree}
use Rattle.cjc_classfile.specs.declared.tree.MethodTree.{MethodTree}
use Rattle.cjc_code.specs.declared.method_code.MethodCode.{MethodCode}
use Rattle.cjc_world.specs.Classes.{Class}
use Rattle.cjc_world.specs.Files.{Files}
use Rattle.cjc_types.specs.declared.inference.InferError.{InferError}
use Rattle.cjc_types.specs.declared.inference.InferError.TheVariants as errors
use Rattle.cjc_types.specs.declared.table.TypeTable.{TypeTable}
use Rattle.cjc_types.specs.Flow.{Body}
use Rattle.cjc_types.specs.Tables.{IsMethodOf, IsTypeTable, IsBrokenBy, IsBroken, IsRefusedBy, IsRefused, IsAnswer}
use Rattle.cjc_types.specs.Tables.{refusal_in}
use Rattle.cjc_types.specs.Working.Told.{ToldAs}

-- the method that a code names is the one that is read
pub told_for : (file : List ℕ) (files : Files) (code : MethodCode) (class : ClassTree) (method : MethodTree)
    (answer : Result TypeTable InferError) (result : Result TypeTable Fault)
    → class ≡ get_or files.classes code.class class → method ≡ get_or class.methods code.method method
    → ToldAs file class method answer result
    → (c : ClassTree) (m : MethodTree) (t : CodeTree) → IsMethodOf files code c m t → ToldAs file c m answer result
told_for file files code class method answer result is_class is_method h c m t of =
    let same_class : class ≡ c = is_class ∙ get_or_from_slice_get files.classes code.class c class of.is_class in
    let methods : get_or class.methods code.method method ≡ get_or c.methods code.method method =
    ap (λ (k : ClassTree). get_or k.methods code.method method) same_class in
    let same_method : method ≡ m = is_method ∙ methods ∙ get_or_from_slice_get c.methods code.method m method
    of.is_method in
    subst (λ (k : ClassTree). ToldAs file k m answer result) same_class (subst (λ (k : MethodTree). ToldAs file class k
    answer result) same_method h)

module _ (w : List Class) (file : List ℕ) (class : ClassTree) (method : MethodTree) (b : Body) where
  abbrev Gives : Result TypeTable Fault → Type 0
  Gives r = IfOk r (λ table. IsTypeTable w b table)

  pub told_inferred : (answer : Result TypeTable InferError) (result : Result TypeTable Fault)
      → ToldAs file class method answer result → IfOk answer (λ table. IsTypeTable w b table) → Gives result
  told_inferred (Ok table) result e h = subst Gives (sym e) h
  told_inferred (Err (errors.Broken x)) result (inl e) h = subst Gives (sym e) tt
  told_inferred (Err (errors.Broken x)) result (inr e) h = subst Gives (sym e) tt
  told_inferred (Err errors.NoMemory) result e h = subst Gives (sym e) tt

  pub told_only : (answer : Result TypeTable InferError) (result : Result TypeTable Fault)
      → ToldAs file class method answer result → (table : TypeTable) → IsAnswer (Ok table) answer
      → IsUnlessNoMemory result (Ok table)
  told_only (Ok t) result e table (inl s) = let same : t ≡ table = cc in inl (e ∙ ap Ok same)
  told_only (Ok t) result e table (inr s) = absurd cc
  told_only (Err (errors.Broken x)) result e table (inl s) = absurd cc
  told_only (Err (errors.Broken x)) result e table (inr s) = absurd cc
  told_only (Err errors.NoMemory) result e table s = inr e

  abbrev Stops : Result TypeTable Fault → Type 0
  Stops r = IfErr r (λ e. IsRefused w file class method b e)

  this_broken : (x : BrokenAt) → IsBroken w b (errors.Broken x) → IsBrokenBy w b x
  this_broken x (inl none) = absurd cc
  this_broken x (inr (y, is, same)) = let e : y ≡ x = cc in subst (IsBrokenBy w b) e is

  pub told_refused : (answer : Result TypeTable InferError) (result : Result TypeTable Fault)
      → ToldAs file class method answer result → IfErr answer (IsBroken w b) → Stops result
  told_refused (Ok t) result e h = subst Stops (sym e) tt
  told_refused (Err (errors.Broken x)) result (inl e) h = subst Stops (sym e) (inr (
    refusal_in file class method x,
    (x, this_broken x h, refl),
    refl,
  ))
  told_refused (Err (errors.Broken x)) result (inr e) h = subst Stops (sym e) (inl refl)
  told_refused (Err errors.NoMemory) result e h = subst Stops (sym e) (inl refl)

  breaks_by : (r : Refusal) (x : BrokenAt) → r ≡ refusal_in file class method x
      → (answer : Result TypeTable InferError) (result : Result TypeTable Fault)
      → ToldAs file class method answer result
      → IsAnswer (Err (errors.Broken x)) answer → IsUnlessNoMemory result (Err (faults.Refused r))
  breaks_by r x is (Ok t) result e (inl s) = absurd cc
  breaks_by r x is (Ok t) result e (inr s) = absurd cc
  breaks_by r x is (Err (errors.Broken y)) result (inl e) (inl s) =
      let same : y ≡ x = cc in
      inl (e ∙ ap (λ (z : BrokenAt). Err (faults.Refused (refusal_in file class method z))) same
      ∙ ap (λ (q : Refusal). Err (faults.Refused q)) (sym is))
  breaks_by r x is (Err (errors.Broken y)) result (inl e) (inr s) = absurd cc
  breaks_by r x is (Err (errors.Broken y)) result (inr e) s = inr e
  breaks_by r x is (Err errors.NoMemory) result e s = inr e

  pub told_breaks : (answer : Result TypeTable InferError) (result : Result TypeTable Fault)
      → ToldAs file class method answer result
      → ((x : BrokenAt) → IsBrokenBy w b x → IsAnswer (Err (errors.Broken x)) answer) → (r : Refusal)
      → IsRefusedBy w file class method b r → IsUnlessNoMemory result (Err (faults.Refused r))
  told_breaks answer result t h r (x, broken, is) = breaks_by r x is answer result t (h x broken)
