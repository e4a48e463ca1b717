-- The nibbles of a descriptor's parts.
use Rattle.std.proofs.Common.{◌≡◌, ℕ, Bool, true, false, List, [], ◌∷◌, ◌++◌, map, refl, sym, ap, ◌∙◌}
use Rattle.std.proofs.Common.{append_assoc, append-nil, Option, Some, None}
use Rattle.std.specs.Prelude.{if◌then◌else◌, option_and_then}
use Rattle.std.specs.List.{flat_map}
use Rattle.cjc_bytes.specs.Descriptor.{Part, Parts}
use Rattle.cjc_bytes.specs.Spots.{desc_of}
use Rattle.cjc_components.specs.LowerCapRead.declared.tree.ClassRef.{ClassRef}
use Rattle.cjc_components.specs.LowerScript.Sorts.{Signature, Sort, field_sort, result_by, signature_by, sort_of}
use Rattle.cjc_components.specs.LowerScript.Sorts.{sort_or_none}
use Rattle.cjc_components.specs.Types.{nibbles_by, result_nibbles, sort_nibbles}
use Rattle.cjc_classes.specs.TypeInfo.Working.Nibbles.{nibbles_in, parts_nibbles}

-- ---- parameters

pub params_next : (f : Sort → List ℕ) (out total : List ℕ) (all rest : List Part) (p : Part) → all ≡ p ∷ rest
    → out ++ flat_map f (map sort_of all) ≡ total → (out ++ f (sort_of p)) ++ flat_map f (map sort_of rest) ≡ total
params_next f out total all rest p is so_far =
    append_assoc out (f (sort_of p)) (flat_map f (map sort_of rest))
    ∙ ap (λ ps. out ++ flat_map f (map sort_of ps)) (sym is)
    ∙ so_far

pub params_end : (f : Sort → List ℕ) (out total : List ℕ) (all : List Part) → all ≡ []
    → out ++ flat_map f (map sort_of all) ≡ total → out ≡ total
params_end f out total all is so_far =
    sym (append-nil out) ∙ ap (λ ps. out ++ flat_map f (map sort_of ps)) (sym is) ∙ so_far

-- ---- descriptors

nibbles_with : (ref : List ℕ → ClassRef) → Option Signature → Sort → List ℕ
nibbles_with ref None sort = sort_nibbles ref sort
nibbles_with ref (Some types) sort = flat_map (sort_nibbles ref) types.params ++ result_nibbles ref types.result

by_with : (ref : List ℕ → ClassRef) (desc : List ℕ) (s : Option Signature) → nibbles_by ref desc s
    ≡ nibbles_with ref s (field_sort desc)
unfolding nibbles_with
by_with ref desc None = refl
by_with ref desc (Some types) = refl

with_parts : (ref : List ℕ → ClassRef) (d : Parts) → nibbles_with ref (signature_by d) (sort_of d.result)
    ≡ parts_nibbles ref d
unfolding nibbles_with
with_parts ref d = by d.is_method
  where
    by : (b : Bool) → nibbles_with ref (if b then Some (record {
      params = map sort_of d.params;
      result = (let r = d.result in result_by r.kind r);
    }) else None) (sort_of d.result)
        ≡ (if b then flat_map (sort_nibbles ref) (map sort_of d.params) ++ result_nibbles ref (let r = d.result
        in result_by r.kind r) else sort_nibbles ref (sort_of d.result))
    by true = refl
    by false = refl

pub nibbles_of_some : (ref : List ℕ → ClassRef) (desc : List ℕ) (d : Parts) → Some d ≡ desc_of desc
    → nibbles_in ref desc ≡ parts_nibbles ref d
nibbles_of_some ref desc d e =
    by_with ref desc (option_and_then signature_by (desc_of desc))
    ∙ ap (λ o. nibbles_with ref (option_and_then signature_by o) (sort_or_none o)) (sym e)
    ∙ with_parts ref d

pub nibbles_of_none : (ref : List ℕ → ClassRef) (desc : List ℕ) → None ≡ desc_of desc → nibbles_in ref desc ≡ []
unfolding nibbles_with
nibbles_of_none ref desc e =
    by_with ref desc (option_and_then signature_by (desc_of desc))
    ∙ ap (λ o. nibbles_with ref (option_and_then signature_by o) (sort_or_none o)) (sym e)
