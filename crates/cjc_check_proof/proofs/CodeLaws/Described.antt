-- Descriptor describes the methods of the classes where they stand in Method.
use Rattle.std.proofs.Common.{◌≡◌, ℕ, suc, ◌+◌, refl, sym, ap, subst, ◌∙◌, Bool, true, false, List, [], ◌∷◌, ◌++◌}
use Rattle.std.proofs.Common.{length, map, length-append}
use Rattle.std.specs.Prelude.{◌==◌, ◌&&◌, not, if◌then◌else◌, sum_by, flat_map}
use Rattle.std.specs.List.{AllByRecursion}
use Rattle.std.proofs.lemmas.List.Sums.{sum_by-cons}
use Rattle.cjc_capread.specs.declared.tree.ClassDescriptor.{ClassDescriptor}
use Rattle.cjc_capread.specs.declared.tree.MethodDescriptor.{MethodDescriptor}
use Rattle.cjc_world.specs.declared.found.Found.{Found}
use Rattle.cjc_world.specs.Classes.{Class}
use Rattle.cjc_world.specs.Order.{in_order, method_order, methods_in_turn, methods_of_class}
use Rattle.cjc_ncode.specs.declared.narrow.NCatch.{NCatch}
use Rattle.cjc_ncode.specs.Lowering.Naming.{Naming}
use Rattle.cjc_ncode.specs.Lowering.Handlers.{handlers_of}
use Rattle.cjc_ncode.specs.Lowering.Package.{all_handlers}
use Rattle.cjc_ncode.specs.Lowering.Placed.{offset_of}
use Rattle.cjc_pool.specs.Layout.Handlers.{table_order}
use Rattle.cjc_components.specs.Package.{LaidMethod, Package, world}
use Rattle.cjc_components.specs.Methods.{Extent, extent_at, extent_from, extent_of, first_method, handler_count}
use Rattle.cjc_components.specs.Methods.{method_size, placed_at, placed_from}
use Rattle.cjc_components.specs.Descriptor.{class_descriptor, method_descriptor}
use Rattle.cjc_token_proof.specs.Components.Methods.{HasMethods}
use Rattle.cjc_token_proof.proofs.ComponentsLaws.Apart.{AreApart, AreOwn, is_same, order_apart, order_own}
use Rattle.cjc_check_proof.proofs.CodeLaws.Lists.{each_both}
use Rattle.cjc_check_proof.proofs.CodeLaws.Methods.{Describes}
use Rattle.cjc_bytes.proofs.Numbers.{like_number}

-- ---- the handlers stand before the methods

handlers_long : (n : Naming) (to : ℕ → ℕ) (catches : List NCatch) → length (handlers_of n to catches) ≡ length catches
handlers_long n to [] = refl
handlers_long n to (c ∷ catches) = ap suc (handlers_long n to catches)

pub all_handlers_long : (n : Naming) (at : ℕ) (ms : List LaidMethod) → length (all_handlers n (placed_from at ms))
    ≡ sum_by handler_count ms
all_handlers_long n at [] = refl
all_handlers_long n at (m ∷ ms) =
    let own = handlers_of n (offset_of n (placed_at at m)) (table_order m.code.catches) in
    let a : length own ≡ handler_count m = handlers_long n (offset_of n (placed_at at m)) (table_order m.code.catches)
    in
    let b : length (all_handlers n (placed_from (at + method_size m) ms)) ≡ sum_by handler_count ms =
    all_handlers_long n (at + method_size m) ms in
    length-append own (all_handlers n (placed_from (at + method_size m) ms))
    ∙ ap (λ k. k + length (all_handlers n (placed_from (at + method_size m) ms))) a
    ∙ ap (λ k. handler_count m + k) b ∙ sym (sum_by-cons handler_count m ms)

-- ---- where each stands

-- descriptors of these members, by where they stand
abbrev pub AreOf : Package → List MethodDescriptor → List Found → Type 0
AreOf p [] [] = Unit {0}
AreOf p [] (f ∷ fs) = ⊥
AreOf p (d ∷ ds) [] = ⊥
AreOf p (d ∷ ds) (f ∷ fs) = (d.offset ≡ (let e = extent_of p f in e.offset))
    × (d.bytecode_count ≡ (let e = extent_of p f in e.bytecode_count)) × AreOf p ds fs

pub itself : (f : Found) → f.imported ≡ false → is_same f f ≡ true
itself f own = by (not f.imported) (f.class == f.class) (f.member == f.member) (ap not own) (like_number f.class)
    (like_number f.member)
  where
    by : (a b c : Bool) → a ≡ true → b ≡ true → c ≡ true → (a && b && c) ≡ true
    by true true true e f g = refl
    by false b c e f g = absurd cc
    by true false c e f g = absurd cc
    by true true false e f g = absurd cc

module _ (p : Package) where
  pub described : (at k : ℕ) (ms : List LaidMethod) (ds : List MethodDescriptor) → AreOf p ds (map (λ m. m.member) ms)
      → AreOwn (map (λ m. m.member) ms) → AreApart (map (λ m. m.member) ms)
      → AllByRecursion (λ f. extent_of p f ≡ extent_from at k ms f) (map (λ m. m.member) ms) → Describes at ds ms
  described at k [] [] of own apart found = tt
  described at k [] (d ∷ ds) of own apart found = absurd of
  described at k (m ∷ ms) [] of own apart found = absurd of
  described at k (m ∷ ms) (d ∷ ds) of own apart found =
      let here : extent_of p m.member ≡ extent_at at k m =
      found.0 ∙ ap (λ b. if b then extent_at at k m else extent_from (at + method_size m) (k + handler_count m) ms
      m.member) (itself m.member own.0) in (
        of.0 ∙ ap (λ (e : Extent). e.offset) here,
        of.1 ∙ ap (λ (e : Extent). e.bytecode_count) here,
        described (at + method_size m) (k + handler_count m) ms ds of.2 own.1 apart.1
            (each_both (λ f. extent_of p f ≡ extent_from at k (m ∷ ms) f) (λ f. is_same f m.member ≡ false)
            (λ f. extent_of p f ≡ extent_from (at + method_size m) (k + handler_count m) ms f)
            (map (λ m. m.member) ms)
            (λ f e other. e ∙ ap (λ b. if b then extent_at at k m
            else extent_from (at + method_size m) (k + handler_count m) ms f) other)
            found.1 apart.0),
      )

  -- ---- the methods of classes

  methods_are : (c : Class) (fs : List Found) → AreOf p (map (method_descriptor p c) fs) fs
  methods_are c [] = tt
  methods_are c (f ∷ fs) = (refl, refl, methods_are c fs)

  of_append : (ds es : List MethodDescriptor) (fs gs : List Found) → AreOf p ds fs → AreOf p es gs
      → AreOf p (ds ++ es) (fs ++ gs)
  of_append [] es [] gs a b = b
  of_append [] es (f ∷ fs) gs a b = absurd a
  of_append (d ∷ ds) es [] gs a b = absurd a
  of_append (d ∷ ds) es (f ∷ fs) gs a b = (a.0, a.1, of_append ds es fs gs a.2 b)

  pub classes_are : (cs : List Class)
      → AreOf p (flat_map (λ (d : ClassDescriptor). d.methods) (map (class_descriptor p) cs)) (methods_in_turn (world p)
      cs)
  classes_are [] = tt
  classes_are (c ∷ cs) =
      of_append (map (method_descriptor p c) (methods_of_class (world p) c))
      (flat_map (λ (d : ClassDescriptor). d.methods) (map (class_descriptor p) cs))
      (methods_of_class (world p) c) (methods_in_turn (world p) cs) (methods_are c (methods_of_class (world p) c))
      (classes_are cs)

  found_themselves : (fs : List Found) → AllByRecursion (λ f. extent_of p f ≡ extent_from (first_method p.methods) 0
      p.methods f) fs
  found_themselves [] = tt
  found_themselves (f ∷ fs) = (refl, found_themselves fs)

  -- The descriptors of the methods of the classes that are no interfaces are those of the methods in their order.
  pub classes_described : HasMethods p
      → Describes (first_method p.methods) (flat_map (λ (d : ClassDescriptor). d.methods) (map (class_descriptor p)
      (in_order (world p) false))) p.methods
  unfolding method_order
  classes_described order =
      let fs = map (λ m. m.member) p.methods in
      described (first_method p.methods) 0 p.methods (flat_map (λ (d : ClassDescriptor). d.methods)
      (map (class_descriptor p) (in_order (world p) false)))
      (subst (AreOf p (flat_map (λ (d : ClassDescriptor). d.methods) (map (class_descriptor p)
      (in_order (world p) false)))) (sym order) (classes_are (in_order (world p) false)))
      (subst AreOwn (sym order) (order_own (world p))) (subst AreApart (sym order) (order_apart (world p)))
      (found_themselves fs)
