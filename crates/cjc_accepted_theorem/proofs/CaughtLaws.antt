-- The handlers of a converted package: each catches by its index the card's type of the class that its class file's
-- names, or any exception where that is java/lang/Object.
use Rattle.std.proofs.Common.{◌≡◌, ℕ, zero, suc, refl, sym, ap, ◌∙◌, arith, Bool, true, false, List}
use Rattle.std.proofs.lemmas.Bool.Decides.{nat_tests}
use Rattle.std.specs.Prelude.{◌==◌, Option, Some, None, option_map, slice_get, if◌then◌else◌}
use Rattle.std.specs.List.{Contains}
use Rattle.std.specs.Str.{bytes_eq}
use Rattle.std.proofs.lemmas.Slice.Eq.{bytes_eq-Decides}
use Rattle.cjc_verified_proof.specs.Bytecode.declared.method_code.MethodCode.{MethodCode}
use Rattle.cjc_verified_proof.proofs.BytesGets.{contains_at}
use Rattle.cjc_world.specs.Classes.{Class, class_named}
use Rattle.cjc_world.specs.Lookup.{object}
use Rattle.cjc_components.specs.Package.{LaidMethod, Package, world}
use Rattle.cjc_ncode.specs.Lowering.Laid.{class_index}
use Rattle.cjc_ncode.specs.Lowering.Naming.{Holds}
use Rattle.cjc_ncode.specs.declared.narrow.NCatch.{NCatch}
use Rattle.cjc_ncode.specs.declared.narrow.PoolKey.TheVariants as keys
use Rattle.cjc_narrow_proof.proofs.LawsLaws.Handlers.{caught_there, class_there}
use Rattle.cjc_check_proof.specs.Types.Flow.{caught_type as type_by_name}
use Rattle.cjc_check_proof.specs.Types.Rules.{throwable as throwable_by_name}
use Rattle.cjc_verify.specs.Bodies.{caught_type}
use Rattle.cjc_verify.specs.ClassTypes.{class_type}
use Rattle.cjc_verify.specs.Instructions.{class_in, throwable}
use Rattle.cjc_verified_proof.specs.Components.Names.{names}
use Rattle.cjc_verified_proof.specs.List.Listed.{ListTree}
use Rattle.cjc_verified_proof.specs.TokenProof.Tables.Loading.{naming}
use Rattle.cjc_verified_proof.specs.Verify.Named.{entry_of}
use Rattle.cjc_verified_proof.specs.Verify.Pairs.{Pair}
use Rattle.cjc_accepted_proof.specs.Beside.{Beside, IsBeside}
use Rattle.cjc_accepted_proof.specs.Checked.{CatchesAreNamed}
use Rattle.cjc_accepted_proof.specs.Coded.{card_type}
use Rattle.cjc_accepted_proof.specs.Frames.{IsCaughtAs, by_any, by_name}
use Rattle.cjc_accepted_proof.specs.Written.{written_pair}
use Rattle.cjc_theorem.proofs.AlikeLaws.NamedLaws.Catches.{behind_first}
use Rattle.cjc_theorem.proofs.AlikeLaws.NamedLaws.Means.{catch_held}
use Rattle.cjc_theorem.proofs.AlikeLaws.NamedLaws.Sources.{has_catch}
use Rattle.cjc_shape_proof.proofs.WrittenLaws.Checked.{files_sound, own_names}
use Rattle.cjc_theorem.specs.ShapeProof.Written.Checked.{IsOfFiles}
use Rattle.cjc_accepted_theorem.proofs.PassedLaws.{class_typed}
use Rattle.cjc_accepted_theorem.proofs.ThrownLaws.{thrown}

module _ (list : ListTree) (codes : List MethodCode) (p : Package) (is : IsOfFiles list codes p) where
  abbrev q : Pair
  q = written_pair p

  -- a handler of this class, whose index is not that of any exception
  one_caught : (name : List ℕ) (i : ℕ) (c : Class) → (let n = names p in n.index (keys.Class name)) ≡ suc i
      → Holds (naming p) (keys.Class name) → class_named (world p) name ≡ Some c
      → caught_type q (class_index (names p) (Some name)) ≡ card_type p name
  one_caught name i c index holds known =
      let some : (suc i == 0) ≡ false = grind (arith, nat_tests) in
      ap (caught_type q) index ∙ ap (λ (b : Bool). if b then throwable q else option_map class_type (class_in (entry_of
      q (suc i)))) some ∙ (ap (λ (k : ℕ). option_map class_type (class_in (entry_of q k))) (sym index)
      ∙ (ap (λ o. option_map class_type (class_in o)) holds.there
      ∙ sym (class_typed list codes p is name c known)))

  -- any exception
  any_caught : caught_type q 0 ≡ card_type p throwable_by_name
  any_caught = thrown list.name p (files_sound list codes p is.checked)

  module _ (k : ℕ) (m : LaidMethod) (e : slice_get p.methods k ≡ Some m) (c : NCatch)
      (on : (let code = m.code in Contains code.catches c)) where
    -- its handlers catch so; entry 0 is that of java/lang/Object
    pub caught_so : IsCaughtAs (card_type p) (caught_type q (class_index (names p) c.class)) (type_by_name c.class)
    caught_so = by c.class refl
      where
        place : (j : ℕ) × (slice_get (let code = m.code in code.catches) j ≡ Some c)
        place = contains_at (let code = m.code in code.catches) c on

        held : (name : List ℕ) → c.class ≡ Some name → Holds (naming p) (keys.Class name)
        held name g = catch_held p k m e place.0 c place.1 name g

        known : (name : List ℕ) → c.class ≡ Some name → (d : Class) × (class_named (world p) name ≡ Some d)
        known name g =
            let u = own_names list codes p is.checked in
            let s = has_catch list codes p is k m e place.0 c place.1 in
            let at = class_there (world p) name (caught_there p.files codes u.names s.code s.class s.method
            s.tree s.of s.listed s.handler name s.there (s.same ∙ g)) in
            (at.0, at.1)

        by_name_of : (name : List ℕ) → c.class ≡ Some name → (b : Bool) → bytes_eq name object ≡ b
            → IsCaughtAs (card_type p) (caught_type q (class_index (names p) (Some name))) name
        by_name_of name g true same = by_index (let n = names p in n.index (keys.Class name)) refl
          where
            by_index : (i : ℕ) → (let n = names p in n.index (keys.Class name)) ≡ i
                → IsCaughtAs (card_type p) (caught_type q (class_index (names p) (Some name))) name
            by_index zero index = by_any ((bytes_eq-Decides name object).0 same) (ap (caught_type q) index ∙ any_caught)
            by_index (suc i) index = let d = known name g in by_name (one_caught name i d.0 index (held name g) d.1)
        by_name_of name g false other =
            let d = known name g in
            let index = behind_first p k m e place.0 c place.1 name g other in
            by_name (one_caught name index.0 d.0 index.1 (held name g) d.1)

        by : (o : Option (List ℕ)) → c.class ≡ o → IsCaughtAs (card_type p) (caught_type q (class_index (names p) o))
            (type_by_name o)
        by None g = by_name any_caught
        by (Some name) g = by_name_of name g (bytes_eq name object) refl

  -- So the handlers of each method do that is written for one of a class file.
  pub catches_named : (m : Beside) → IsBeside p m codes → CatchesAreNamed p m
  catches_named m b c on = caught_so b.number m.laid b.is_laid c on
