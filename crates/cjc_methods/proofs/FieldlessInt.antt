-- The same of a method in int mode.
use Rattle.std.proofs.Common.{◌≡◌, ℕ, ◌+◌, ◌*◌, refl, ap, ◌∙◌, Bool, true, false, List, [], ◌∷◌, ◌++◌, length}
use Rattle.std.specs.Prelude.{if◌then◌else◌, is_some, nat_lt, replicate, Option, Some, None, ℤ}
use Rattle.std.specs.List.{list_any, sum_by}
use Rattle.cjc_bytes.proofs.Bools.{or_left, or_right}
use Rattle.cjc_bytes.specs.declared.fault.MemberId.{MemberId}
use Rattle.cjc_types.specs.ClassFile.Code.{CodeTree}
use Rattle.cjc_types.specs.Bytecode.declared.insn.JOp.{JOp}
use Rattle.cjc_types.specs.Bytecode.declared.insn.JOp.TheVariants as jop
use Rattle.cjc_ncode.specs.declared.narrow.NInsn.{NInsn}
use Rattle.cjc_ncode.specs.LowerScript.Sorts.{Signature, signature_of}
use Rattle.cjc_ncode.specs.IntCode.IntCode.{Before, Frame, Reached, called_with, int_method}
use Rattle.cjc_ncode.specs.IntCode.IntCode.{nargs, place_from, place_in}
use Rattle.cjc_ncode.specs.IntCode.IntCode.{prologue, scratch_pairs, size, sources, static_get, widest}
use Rattle.cjc_ncode.specs.IntCode.IntCode.{written, written_from}
use Rattle.cjc_ncode.specs.Written.{Resolution, accessed, catches_at}
use Rattle.cjc_narrow.specs.Rows.Forms.{with_near}

-- none of these names an instance field
abbrev pub names_field : Reached → Bool
names_field i = let j = i.insn in is_some (accessed j.op)

abbrev pub NameNone : List Reached → Type 0
NameNone reached = list_any names_field reached ≡ false

module _ (f : Frame) (r : Resolution) (near : MemberId → Bool) where
  abbrev other : Resolution
  other = with_near r near

  get_same : (field : MemberId) (value : Option ℤ) → static_get other field value ≡ static_get r field value
  get_same field (Some z) = refl
  get_same field None = refl

  call_same : (op : ℕ) (m : MemberId) (types : Option Signature) → called_with f other op m types
      ≡ called_with f r op m types
  call_same op m None = refl
  call_same op m (Some types) = refl

  written_same : (p : ℕ → ℕ) (b : Before) (here : ℕ) (op : JOp) → is_some (accessed op) ≡ false
      → written f other p b here op ≡ written f r p b here op
  written_same p b here (jop.Field put field) e = absurd cc
  written_same p b here (jop.Static true field) e = refl
  written_same p b here (jop.Static false field) e = get_same field (r.constant field)
  written_same p b here (jop.Call op m) e = call_same op m (signature_of m.desc)
  written_same p b here op e = refl

  widest_same : (op : JOp) → widest other op ≡ widest r op
  widest_same op = by op
    where
      by : (op : JOp) → widest other op ≡ widest r op
      by (jop.Static put field) = refl
      by op = refl

  -- ---- all of them

  size_same : (i : Reached) → names_field i ≡ false → size f other i ≡ size f r i
  size_same i e = let j = i.insn in ap (λ (w : List NInsn). length w) (written_same (λ o. 0) i.before 0 j.op e)

  place_same : (reached : List Reached) → NameNone reached → (offset : ℕ) → place_from f other reached offset
      ≡ place_from f r reached offset
  place_same [] e offset = refl
  place_same (i ∷ reached) e offset =
      ap (λ n. (if nat_lt (let j = i.insn in j.at) offset then n else 0) + place_from f other reached offset)
      (size_same i (or_left (names_field i) (list_any names_field reached) e))
      ∙ ap (λ n. (if nat_lt (let j = i.insn in j.at) offset then size f r i else 0) + n)
      (place_same reached (or_right (names_field i) (list_any names_field reached) e) offset)

  places_same : (reached : List Reached) → NameNone reached → place_in f other reached ≡ place_in f r reached
  places_same reached e = λ j offset. length (prologue f) + place_same reached e offset j

  all_same : (p : ℕ → ℕ) (here : ℕ) (reached : List Reached) → NameNone reached
      → written_from f other p here reached ≡ written_from f r p here reached
  all_same p here [] e = refl
  all_same p here (i ∷ reached) e =
      let j = i.insn in
      ap (λ (w : List NInsn). w ++ written_from f other p (here + length w) reached)
      (written_same p i.before here j.op (or_left (names_field i) (list_any names_field reached) e))
      ∙ ap (λ (rest : List NInsn). written f r p i.before here j.op ++ rest)
      (all_same p (here + length (written f r p i.before here j.op)) reached
      (or_right (names_field i) (list_any names_field reached) e))

  sources_same : (reached : List Reached) (places : List ℕ) → NameNone reached → sources f other reached places
      ≡ sources f r reached places
  sources_same [] places e = refl
  sources_same (i ∷ reached) [] e = refl
  sources_same (i ∷ reached) (k ∷ places) e =
      ap (λ n. replicate n k ++ sources f other reached places) (size_same i (or_left (names_field i)
      (list_any names_field reached) e))
      ∙ ap (λ from. replicate (size f r i) k ++ from) (sources_same reached places (or_right (names_field i)
      (list_any names_field reached) e))

  sum_same : (reached : List Reached) → sum_by (λ (i : Reached). let j = i.insn in widest other j.op) reached
      ≡ sum_by (λ (i : Reached). let j = i.insn in widest r j.op) reached
  sum_same reached = λ j. sum_by (λ (i : Reached). let k = i.insn in widest_same k.op j) reached

  pub method_same : (code : CodeTree) (reached : List Reached) (places : List ℕ) → NameNone reached
      → int_method f other code reached places ≡ int_method f r code reached places
  method_same code reached places e =
      λ j. record {
        insns = prologue f ++ (ap (λ (p : ℕ → ℕ). written_from f other p (length (prologue f)) reached)
            (places_same reached e) ∙ all_same (place_in f r reached) (length (prologue f)) reached e) j;
        from = replicate (length (prologue f)) 0 ++ sources_same reached places e j;
        catches = catches_at (places_same reached e j) code.catches;
        max_stack = 2 * code.max_stack + 4;
        nargs = nargs f;
        max_locals = 2 * f.max_locals + 2 * scratch_pairs reached;
        widest = 5 * length f.params + sum_same reached j;
      }
