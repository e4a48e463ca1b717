-- What the guard of an index leads to: one word, by which each array is found to have the same item or none.
use Rattle.std.specs.Prelude.{◌≡◌, ℕ, ◌≤◌, ◌<◌, List, ◌∷◌, length, Option, ℤ}
use Rattle.cjc_range.specs.Words.{low_word}
use Rattle.cjc_range.specs.Span.{Holds}
use Rattle.cjc_script.specs.declared.value.Value.{Value}
use Rattle.cjc_script.specs.declared.value.Value.TheVariants.{Num}
use Rattle.cjc_ncode.specs.declared.narrow.NInsn.{NInsn}
use Rattle.cjc_ncode.specs.declared.narrow.NMethod.{NMethod}
use Rattle.cjc_ncode.specs.ByLabel.{Named, by_label}
use Rattle.cjc_jvm_semantics.specs.Effects as by_name
use Rattle.cjc_int_proof.specs.Walks.{Within, walk}
use Rattle.cjc_narrow_proof.specs.Selection.Relation.{NMemory}
use Rattle.cjc_narrow_proof.specs.Selection.Elements.{index_range}
use Rattle.cjc_int_runs.specs.Steps.{behind, spot}

-- An index by name, and a word by which an array of at most 32,767 is found to have the same item or none.
pub record GuardedIndex (i j : ℤ) : Type 0 where
  pub near : ℤ
  pub in_range : Holds index_range near
  pub word : j ≡ low_word near
  pub same : (items : List Value) (go : ℕ → Value → by_name.Effect) → length items ≤ 32767
      → by_name.item_at items i go ≡ by_name.item_at items near go

-- what the guard of an index leads to
pub record Guarded (l : Named) (code : NMethod) (here : ℕ) (written : List NInsn) (i : ℤ) (onto ws : List Value)
    (words : List (Option Value)) (memory : NMemory) : Type 0 where
  pub j : ℤ
  pub index : GuardedIndex i j
  pub steps : ℕ
  pub few : steps ≤ length written
  pub some : 0 < steps
  pub leads : walk (by_label l) code steps (spot here onto words memory)
      ≡ Within (spot (behind here written) (Num j ∷ ws) words memory)
