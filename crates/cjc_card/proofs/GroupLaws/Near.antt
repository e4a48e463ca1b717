-- Groups whose handlers stand at small offsets.
use Rattle.std.proofs.Common.{◌≡◌, ℕ, ◌+◌, ◌<◌, ◌≤◌, List, [], ◌∷◌, length, get_or, drop, map, sym, ap, ◌∙◌, Bool, true}
use Rattle.std.specs.Prelude.{◌&&◌}
use Rattle.std.proofs.Math.Bool.{and-true}
use Rattle.std.proofs.lemmas.List.{drop_more, drop_all}
use Rattle.cjc_card_semantics.specs.ExportFile.declared.tree.ExportTree.{ExportTree}
use Rattle.cjc_card_semantics.specs.Machine.Loaded.{Loaded}
use Rattle.cjc_card_calls.specs.LowerCardLink.declared.part.GroupPart.{GroupPart}
use Rattle.cjc_card_calls.specs.LowerCardLink.declared.part.Part.{Part}
use Rattle.cjc_card_calls.specs.LowerCardLink.Group.{alone, group_of, group_part}
use Rattle.cjc_card_calls.specs.Lines.Handlers.{are_all_near, are_near, are_parts_near}

pub near_alone : (p : Part) (trees : List ExportTree) (l : Loaded) → l ≡ alone p trees
    → (let m = p.method.now in are_near m.handlers ≡ true) → are_all_near l ≡ true
near_alone p trees l is near = let m = p.method.now in ap are_all_near is ∙ and-true (are_near m.handlers) ∙ near

pub near_group : (parts : List GroupPart) (trees : List ExportTree) (l : Loaded) → l ≡ group_of parts trees
    → are_parts_near (map group_part parts) ≡ true → are_all_near l ≡ true
near_group parts trees l is near = ap are_all_near is ∙ near

-- one more package
pub near_more : (i : ℕ) (p d : GroupPart) (parts : List GroupPart) (total : Bool) → i < length parts
    → p ≡ get_or parts i d → (let m = p.part.method.now in are_near m.handlers ≡ true)
    → are_parts_near (map group_part (drop i parts)) ≡ total
    → are_parts_near (map group_part (drop (i + 1) parts)) ≡ total
near_more i p d parts total lt is near so_far =
    let e : drop i parts ≡ p ∷ drop (i + 1) parts = drop_more parts i d lt
    ∙ ap (λ (q : GroupPart). q ∷ drop (i + 1) parts) (sym is) in
    sym (ap (λ (b : Bool). b && are_parts_near (map group_part (drop (i + 1) parts))) near)
    ∙ ap (λ (ps : List GroupPart). are_parts_near (map group_part ps)) (sym e)
    ∙ so_far

pub near_all : (i : ℕ) (parts : List GroupPart) (total : Bool) → length parts ≤ i
    → are_parts_near (map group_part (drop i parts)) ≡ total → total ≡ true
near_all i parts total le so_far =
    sym so_far ∙ ap (λ (ps : List GroupPart). are_parts_near (map group_part ps)) (drop_all i parts le)
