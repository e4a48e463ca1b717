-- The instructions of a code stand in ascending order of their offsets.
use Rattle.std.proofs.Common.{◌≡◌, ◌≤◌, ◌<◌, ◌+◌, ℕ, zero, suc, Bool, true, false, List, [], ◌∷◌, map, length}
use Rattle.std.proofs.Common.{slice_get, Some, None, option_map, Ok, refl, sym, ◌∙◌, ap, arith}
use Rattle.std.proofs.lemmas.List.{length-append}
use Rattle.std.proofs.lemmas.Option.{slice_get-map}
use Rattle.cjc_bytes.specs.Format.{Spells}
use Rattle.cjc_classfile.specs.Code.{CodeTree}
use Rattle.cjc_classfile.specs.declared.tree.ClassTree.{ClassTree}
use Rattle.cjc_classfile.specs.declared.tree.MethodTree.{MethodTree}
use Rattle.cjc_code.specs.declared.insn.JInsn.{JInsn}
use Rattle.cjc_code.specs.declared.method_code.MethodCode.{MethodCode}
use Rattle.cjc_code.specs.Instruction.{instruction, behind_first, behind_opcode, is_prefix}
use Rattle.cjc_code.specs.Cut.{IsCutFrom, cut}
use Rattle.cjc_code.specs.Decoded.{of_code, of_method, decoding}
use Rattle.cjc_code.specs.Rules.{with_names}
use Rattle.cjc_code.proofs.OneCut.{is_cut}
use Rattle.cjc_code.proofs.Decided.{decoded_is}
use Rattle.cjc_world.specs.Files.{Files}
use Rattle.cjc_types.specs.Tables.{IsMethodOf}

opcode_place : (at : ℕ) (op : _) (place : ℕ) (i : _) (bytes : List ℕ) → Spells (behind_opcode at op) place i bytes
    → i.at ≡ at
unfolding behind_opcode Spells
opcode_place at op place i bytes (
  p,
  f1,
  b1,
  e1,
  here,
  (
    free,
    f2,
    b2,
    e2,
    raw,
    (
      first,
      f3,
      b3,
      e3,
      ops,
      (rest, f4, b4, e4, rep, (nil, same)),
    ),
  ),
) = sym (ap (λ r. r.at) same)

first_place : (prefix : Bool) (at : ℕ) (op : _) (place : ℕ) (i : _) (bytes : List ℕ)
    → Spells (behind_first prefix at op) place i bytes → i.at ≡ at
unfolding behind_first Spells
first_place true at op place i bytes (wide, front, back, parts, opcode, others) =
    opcode_place at wide (place + length front) i back others
first_place false at op place i bytes h = opcode_place at op place i bytes h

-- an instruction is at its place, and has bytes
spelt_at : (place : ℕ) (i : _) (bytes : List ℕ) → Spells instruction place i bytes → (i.at ≡ place) × (0 < length bytes)
unfolding instruction Spells
spelt_at place i bytes (at, front, back, parts, (nil, here), (op, first, rest, parted, opcode, others)) = (
  first_place (is_prefix op.family) at op _ i rest others ∙ sym here,
  omega (
    arith,
    ap length parts,
    length-append front back,
    ap length parted,
    length-append first rest,
    opcode.0,
  ),
)

-- each instruction of a cut is at the cut's place or behind it
cut_behind : (k place : ℕ) (bytes : List ℕ) (insns : _) (stop : ℕ) → IsCutFrom place bytes insns stop → (i : _)
    → slice_get insns k ≡ Some i → place ≤ i.at
unfolding IsCutFrom
cut_behind k place bytes [] stop h i e = absurd cc
cut_behind zero place bytes (first ∷ insns) stop (front, back, parts, spelt, rest) i e =
    let at = (spelt_at place first front spelt).0 in
    let same : first ≡ i = cc in
    let is = ap (λ r. r.at) same in
    omega (arith, at, is)
cut_behind (suc k) place bytes (first ∷ insns) stop (front, back, parts, spelt, rest) i e =
    let le = cut_behind k (place + length front) back insns stop rest i e in
    omega (arith, le)

cut_ascends : (j k place : ℕ) (bytes : List ℕ) (insns : _) (stop : ℕ) → IsCutFrom place bytes insns stop → (x y : _)
    → slice_get insns j ≡ Some x → slice_get insns k ≡ Some y → j < k → x.at < y.at
unfolding IsCutFrom
cut_ascends j k place bytes [] stop h x y e f lt = absurd cc
cut_ascends j zero place bytes (first ∷ insns) stop h x y e f lt = absurd (omega arith)
cut_ascends zero (suc k) place bytes (first ∷ insns) stop (front, back, parts, spelt, rest) x y e f lt =
    let at = spelt_at place first front spelt in
    let same : first ≡ x = cc in
    let is = ap (λ r. r.at) same in
    let le = cut_behind k (place + length front) back insns stop rest y f in
    let here = at.0 in
    let some = at.1 in
    omega (arith, here, some, is, le)
cut_ascends (suc j) (suc k) place bytes (first ∷ insns) stop (front, back, parts, spelt, rest) x y e f lt =
    cut_ascends j k (place + length front) back insns stop rest x y e f (omega arith)

-- the raw instruction of one with names
raw_of : (code : CodeTree) (class : ClassTree) (k : ℕ) (x : JInsn)
    → slice_get (map (with_names class.pool) (cut code.bytes).insns) k ≡ Some x → (i : _)
    × (slice_get (cut code.bytes).insns k ≡ Some i) × (i.at ≡ x.at)
raw_of code class k x e = elim (slice_get (cut code.bytes).insns k) as (λ o. slice_get (cut code.bytes).insns k ≡ o
    → option_map (with_names class.pool) o ≡ Some x → (i : _) × (slice_get (cut code.bytes).insns k ≡ Some i)
    × (i.at ≡ x.at)) [
      | None ↦ λ is f. absurd cc
      | Some i ↦ λ is f. (i, is, ap (λ (insn : JInsn). insn.at) (let same : with_names class.pool i ≡ x = cc in same))
    ] refl (sym (slice_get-map (with_names class.pool) (cut code.bytes).insns k) ∙ e)

pub insns_ascend : (files : Files) (code : MethodCode) (class : ClassTree) (method : MethodTree) (tree : CodeTree)
    → IsMethodOf files code class method tree
    → (j k : ℕ) (x y : JInsn) → slice_get code.insns j ≡ Some x → slice_get code.insns k ≡ Some y → j < k → x.at < y.at
insns_ascend files code class method tree m j k x y e f lt =
    let found : decoding class method tree ≡ Ok code.insns = sym (ap (of_code class method) m.is_code)
    ∙ sym (ap (of_method class) m.is_method) ∙ m.insns in
    let is = (decoded_is class method tree code.insns found).insns_are in
    let left = raw_of tree class j x (sym (ap (λ (is : List JInsn). slice_get is j) is) ∙ e) in
    let right = raw_of tree class k y (sym (ap (λ (is : List JInsn). slice_get is k) is) ∙ f) in
    let less = cut_ascends j k 0 tree.bytes (cut tree.bytes).insns (cut tree.bytes).stop (is_cut tree.bytes) left.0
    right.0 left.1 right.1 lt in
    let a = left.2 in
    let b = right.2 in
    omega (arith, less, a, b)
