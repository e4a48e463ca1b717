-- What methods break, as a list.
use Rattle.std.proofs.Common.{◌≡◌, ◌⊎◌, inl, inr, [], ◌∷◌, Some, None, Ok, Err}
use Rattle.std.proofs.Common.{refl, sym, ap, subst, ◌∙◌}
use Rattle.std.specs.Prelude.{slice_get}
use Rattle.cjc_bytes.specs.declared.breaks.BrokenAt.{BrokenAt}
use Rattle.cjc_world.specs.ClassFile.Code.{CodeTree}
use Rattle.cjc_world.specs.ClassFile.declared.tree.ClassTree.{ClassTree}
use Rattle.cjc_world.specs.ClassFile.declared.tree.MethodTree.{MethodTree}
use Rattle.cjc_clinit.specs.Bytecode.declared.method_code.MethodCode.{MethodCode}
use Rattle.cjc_bytes.specs.Breaks.{IsFirstOf, Break, Among, foremost, after}
use Rattle.cjc_narrow.specs.Types.declared.inference.InferError.{InferError}
use Rattle.cjc_narrow.specs.Types.declared.inference.InferError.TheVariants as errors
use Rattle.cjc_narrow.specs.Types.declared.table.TypeTable.{TypeTable}
use Rattle.cjc_narrow.specs.Types.Flow.{Body, body_of}
use Rattle.cjc_narrow.specs.Types.Tables.{IsMethodOf, IsAnswer}
use Rattle.cjc_world.specs.Files.{Files}
use Rattle.cjc_judge.specs.Rules.{method_break, BreaksMethod, IsFirstIn}
use Rattle.cjc_bytes.proofs.Firsts.{first_of_one}
use Rattle.cjc_bytes.proofs.BrokenRules.{no_among}
use Rattle.cjc_bytes.proofs.Options.{some_same}

-- ---- one method

module _ (Breaks : Files → MethodTree → Body → BrokenAt → Type 0) (files : Files) (code : MethodCode)
    (class : ClassTree) (method : MethodTree) (tree : CodeTree) (here : IsMethodOf files code class method tree) where
  abbrev IsWrong : BrokenAt → Type 0
  IsWrong x = Breaks files method (body_of class method tree code.insns) x

  -- a break of the method is by its own class, method and code
  broken_of : (b : Break) → BreaksMethod Breaks files code b → (x : BrokenAt) × IsWrong x
      × (b ≡ method_break files code class method x)
  broken_of b h =
      let c : h.class ≡ class = some_same h.class class h.of_package.is_class here.is_class in
      let m : h.method ≡ method = some_same h.method method h.of_package.is_method
      (ap (λ (x : ClassTree). slice_get x.methods code.method) c ∙ here.is_method) in
      let t : h.tree ≡ tree = some_same h.tree tree h.of_package.is_code (ap (λ (x : MethodTree). x.code) m
      ∙ here.is_code) in
      let P : ClassTree → MethodTree → CodeTree → Type 0 = λ c m t. Breaks files m (body_of c m t code.insns) h.broken
      in (
        h.broken,
        subst (λ (t : CodeTree). P class method t) t (subst (λ (m : MethodTree). P class m h.tree) m
            (subst (λ (c : ClassTree). P c h.method h.tree) c h.breaks)),
        h.is ∙ ap (λ (c : ClassTree). method_break files code c h.method h.broken) c
            ∙ ap (λ (m : MethodTree). method_break files code class m h.broken) m,
      )

  -- a method that breaks nothing
  pub unbroken_method : ((x : BrokenAt) → IsWrong x → ⊥) → IsFirstIn (BreaksMethod Breaks files code) None
  unbroken_method fine = (
    [],
    λ b. (
      λ i. absurd (no_among b i),
      λ h. absurd (let found = broken_of b h
          in fine found.0 found.1),
    ),
    refl,
  )

  -- a method that breaks this alone
  pub broken_method : (x : BrokenAt) (b : Break) → b ≡ method_break files code class method x → IsWrong x
      → ((y : BrokenAt) → IsWrong y → y ≡ x) → IsFirstIn (BreaksMethod Breaks files code) (Some b)
  broken_method x b is this alone = (
    one ∷ [],
    λ b. (λ i. own b i, λ h. same b h),
    subst (λ (c : Break). IsFirstOf (one ∷ []) (Some c)) (sym is) (first_of_one one),
  )
    where
      one : Break
      one = method_break files code class method x

      only : (b : Break) → Among b (one ∷ []) → b ≡ one
      only b foremost = refl
      only b (after i) = absurd (no_among b i)

      own : (b : Break) → Among b (one ∷ []) → BreaksMethod Breaks files code b
      own b i = subst (BreaksMethod Breaks files code) (sym (only b i)) (record {
        class = class;
        method = method;
        tree = tree;
        of_package = here;
        broken = x;
        breaks = this;
        is = refl;
      })

      same : (b : Break) → BreaksMethod Breaks files code b → Among b (one ∷ [])
      same b h =
          let found = broken_of b h in
          subst (λ (z : Break). Among z (one ∷ [])) (sym (found.2 ∙ ap (method_break files code class method)
          (alone found.0 found.1))) foremost

-- where types are inferred nothing is broken
pub inferred_none : (table : TypeTable) (x : BrokenAt) → IsAnswer (Err (errors.Broken x)) (Ok table) → ⊥
inferred_none table x (inl e) = absurd cc
inferred_none table x (inr e) = absurd cc

-- what is answered is the only break
pub answered_alone : (x y : BrokenAt) → IsAnswer (Err (errors.Broken y)) (Err (errors.Broken x)) → y ≡ x
answered_alone x y (inl e) = let f : x ≡ y = cc in sym f
answered_alone x y (inr e) = absurd cc

-- the broken rule of an error, where memory did not run out
pub broken_this : (P : BrokenAt → Type 0) (x : BrokenAt) (e : InferError) → e ≡ errors.Broken x → (e ≡ errors.NoMemory)
    ⊎ ((y : BrokenAt) × P y × (e ≡ errors.Broken y)) → P x
broken_this P x e is (inl memory) = absurd (let f = sym is ∙ memory in cc)
broken_this P x e is (inr (y, p, same)) = let f : y ≡ x = (let g = sym same ∙ is in cc) in subst P f p
