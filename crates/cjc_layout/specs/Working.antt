-- Sizes, offsets and the choice of wide jumps as the private functions of the layout give them.
use Rattle.std.specs.Prelude.{◌≡◌, ℕ, zero, suc, ◌+◌, ◌*◌, ◌<◌, ◌≤◌, List, [], ◌∷◌, length, Option, Some, None, Bool}
use Rattle.std.specs.Prelude.{true, false, not, nat_le, nat_lt, ◌==◌, if◌then◌else◌, slice_get, slice_index}
use Rattle.cjc_ncode.specs.LowerCapRead.declared.opcode.OpInfo.{OpInfo}
use Rattle.cjc_ncode.specs.LowerCapRead.Card as card
use Rattle.cjc_ncode.specs.declared.narrow.NInsn.{NInsn}
use Rattle.cjc_ncode.specs.declared.narrow.NInsn.TheVariants as narrow
use Rattle.cjc_ncode.specs.declared.narrow.NCatch.{NCatch}
use Rattle.cjc_layout.specs.Legal.{is_near, IsLegal, IsWithin}

-- the bytes of a switch
abbrev pub switch_size : (op cases : ℕ) → ℕ
switch_size op cases = if op == card.stableswitch then 7 + 2 * cases else (if op == card.itableswitch
    then 11 + 2 * cases else (if op == card.slookupswitch then 5 + 4 * cases else 5 + 6 * cases))

-- the length that the table of opcodes says, and 1 of what is no opcode
abbrev pub length_by : Option OpInfo → ℕ
length_by None = 1
length_by (Some i) = i.length

-- one where it is true
abbrev pub bit : Bool → ℕ
bit true = 1
bit false = 0

-- the sum of the first sizes, one more where a jump is wide
abbrev pub sum_before : (sizes : List ℕ) → List Bool → ℕ → ℕ
sum_before sizes wide zero = 0
sum_before [] wide (suc k) = 0
sum_before (n ∷ sizes) [] (suc k) = 0
sum_before (n ∷ sizes) (w ∷ wide) (suc k) = n + bit w + sum_before sizes wide k

-- how many are not wide
abbrev pub narrow_count : List Bool → ℕ
narrow_count [] = 0
narrow_count (true ∷ wide) = narrow_count wide
narrow_count (false ∷ wide) = suc (narrow_count wide)

-- a jump whose target is not near
abbrev pub is_far : (to : ℕ → ℕ) → (at : ℕ) → NInsn → Bool
is_far to at (narrow.Jump op target) = not (is_near (to at) (to target))
is_far to at _ = false

-- how many stand before the first whose target is not lower
abbrev pub place_for : (target : ℕ) → List NCatch → ℕ
place_for target [] = 0
place_for target (d ∷ catches) = if nat_le target d.target then 0 else suc (place_for target catches)

-- the offset of a label, or the end
abbrev pub offset_at : List ℕ → (end label : ℕ) → ℕ
offset_at places end label = if nat_lt label (length places) then slice_index places label else end

-- what a pass that makes jumps wide keeps, when it has seen so many instructions
pub record Widening (insns : List NInsn) (old wide : List Bool) (places : List ℕ) (changed : Bool) (k : ℕ) :
    Type 0 where
  pub count : length wide ≡ length insns
  pub below : (other : List Bool) → IsLegal insns other → IsWithin old other → IsWithin wide other
  pub fewer : narrow_count wide ≤ narrow_count old
  pub less : changed ≡ true → narrow_count wide < narrow_count old
  pub same : changed ≡ false → wide ≡ old
  pub near : changed ≡ false → (j : ℕ) (i : NInsn) → j < k → slice_get insns j ≡ Some i → slice_get old j ≡ Some false
      → is_far (slice_index places) j i ≡ false
