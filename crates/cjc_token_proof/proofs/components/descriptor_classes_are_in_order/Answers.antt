use Rattle.std.proofs.Common.{◌≡◌, ℕ, suc, ◌+◌, List, [], ◌∷◌, ◌++◌, length, refl, sym, ap, ◌∙◌, arith, true}
use Rattle.std.specs.Prelude.{Some, map, slice_get, nat_le}
use Rattle.std.proofs.lemmas.Bool.Decides.{nat_tests}
use Rattle.std.proofs.lemmas.List.{length-map}
use Rattle.cjc_card_semantics.specs.CapRead.declared.tree.ClassRef.TheVariants.{Inside}
use Rattle.cjc_components.specs.LowerCheckRules.declared.spot.ComponentPlace.{ComponentPlace}
use Rattle.cjc_components.specs.LowerCheckRules.Spots.{in_info, unless, numbered}
use Rattle.cjc_components.specs.LowerCheckRules.Complete.{described_size}
use Rattle.cjc_components.specs.LowerCheckRules.Described.{class_spots, is_start_of, all_starts}
use Rattle.cjc_world.specs.Classes.{Class}
use Rattle.cjc_world.specs.Order.{class_order}
use Rattle.cjc_components.specs.Package.{Package, world}
use Rattle.cjc_components.specs.Class.{class_info}
use Rattle.cjc_components.specs.Names.{class_ref, info_starts}
use Rattle.cjc_components.specs.Descriptor.{class_descriptor}
use Rattle.cjc_token_proof.specs.Components.OwnNames.{HaveOwnNames}
use Rattle.cjc_token_proof.proofs.ComponentsLaws.Tests.{passes, none_in_both}
use Rattle.cjc_token_proof.proofs.ComponentsLaws.Starts.{infos_stand_alike, infos_long, ref_is_start}
use Rattle.cjc_bytes.proofs.Numbers.{like_number}
use Rattle.cjc_token_proof.proofs.components.descriptor_classes_are_in_order.Goals as goal

none_numbered : {X A : Type 0} (size : A → ℕ) (broken : ℕ → ℕ → A → List ComponentPlace) (f : X
    → A) (n at : ℕ) (xs : List X) → ((k at : ℕ) (x : X) → slice_get xs k ≡ Some x → broken (n + k) at (f x) ≡ [])
    → numbered size broken n at (map f xs) ≡ []
unfolding numbered
none_numbered size broken f n at [] h = refl
none_numbered size broken f n at (x ∷ xs) h =
    let here : n + 0 ≡ n = omega arith in
    none_in_both (ap (λ m. broken m at (f x)) (sym here) ∙ h 0 at x refl)
    (none_numbered size broken f (n + 1) (at + size (f x)) xs (λ k at y e. let next : n + 1 + k
    ≡ n + suc k = omega arith in ap (λ m. broken m at (f y)) next ∙ h (suc k) at y e))

-- the info of a class stands where Descriptor says
one : (p : Package) → HaveOwnNames (class_order (world p)) → (k at : ℕ) (c : Class)
    → slice_get (class_order (world p)) k ≡ Some c → class_spots (info_starts p) k at (class_descriptor p c) ≡ []
one p apart k at c e =
    let r = ref_is_start p apart k c e in
    passes _ (in_info 11 (at + 2)) (ap (λ s. is_start_of s (class_ref p c.name)) r.1 ∙ ap (is_start_of (Some r.0)) r.2
    ∙ like_number r.0)

pub returns : goal.returns
returns c p apart =
    let classes = class_order (world p) in
    let alike : all_starts (class_info (class_ref p) p) ≡ info_starts p =
    infos_stand_alike (class_ref p) (λ name. Inside 0) p in
    let few : nat_le (length (info_starts p)) (length (map (class_descriptor p) classes)) ≡ true =
    (let l = infos_long p in let m = length-map classes (class_descriptor p) in grind (arith, nat_tests, l, m)) in
    ap (λ ss. numbered described_size (class_spots ss) 0 1 (map (class_descriptor p) classes)
    ++ unless (nat_le (length ss) (length (map (class_descriptor p) classes))) (in_info 11 0)) alike
    ∙ none_in_both (none_numbered described_size (class_spots (info_starts p)) (class_descriptor p) 0 1 classes
    (λ k at x e. let z : 0 + k ≡ k = omega arith
    in ap (λ m. class_spots (info_starts p) m at (class_descriptor p x)) z ∙ one p apart k at x e))
    (passes _ (in_info 11 0) few)
