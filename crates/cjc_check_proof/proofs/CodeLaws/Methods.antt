-- Methods that stand one behind the other, as Descriptor says, are cut into their codes.
use Rattle.std.proofs.Common.{◌≡◌, ℕ, suc, ◌+◌, refl, sym, ap, subst, ◌∙◌, arith, true, List, [], ◌∷◌, ◌++◌, length}
use Rattle.std.proofs.Common.{drop, append_assoc, length-append, Some, Result, Ok, Err}
use Rattle.std.specs.Prelude.{◌==◌, if◌then◌else◌}
use Rattle.std.proofs.Math.Seq.{drop-append_seam}
use Rattle.cjc_capread.specs.Decode.{Instruction}
use Rattle.cjc_capread.specs.MethodHeader.{MethodHeader, method_header}
use Rattle.cjc_capread.specs.declared.tree.MethodDescriptor.{MethodDescriptor}
use Rattle.cjc_check_rules.specs.Spots as Spots
use Rattle.cjc_check_rules.specs.Codes.{Code, codes_from, instructions, with_code, with_header}
use Rattle.cjc_ncode.specs.Lowering.Naming.{Naming}
use Rattle.cjc_ncode.specs.Lowering.Laid.{laid}
use Rattle.cjc_ncode.specs.Lowering.Package.{all_bytes}
use Rattle.cjc_ncode.specs.Lowering.Placed.{bytes_before, code_bytes, first, IsSpellable, method_bytes, offset_of}
use Rattle.cjc_ncode.proofs.LoweringLaws.Bytes.{AllSized, drop_drop, length_spelt}
use Rattle.cjc_ncode.proofs.LoweringLaws.Packed.{code_length}
use Rattle.cjc_ncode.proofs.LoweringLaws.Places.{size_same}
use Rattle.cjc_components.proofs.LayoutLowered.{before_same}
use Rattle.cjc_pool.specs.Emit.Emitted.{CanBeWritten, header_bytes}
use Rattle.cjc_pool.specs.Emit.Emitted as Emitted
use Rattle.cjc_components.proofs.EmitShifted.{laid_shift}
use Rattle.cjc_components.specs.Package.{LaidMethod}
use Rattle.cjc_components.specs.Methods.{bytecode_count, header_of, method_size, placed_at, placed_from}
use Rattle.cjc_check_proof.specs.Code.Codes.{code_at, codes_at, laid_code}
use Rattle.cjc_check_proof.specs.Code.Written.{AllWritable}
use Rattle.cjc_check_proof.proofs.CodeLaws.Instructions.{AllSpelt, code_cut}
use Rattle.cjc_check_proof.proofs.CodeLaws.Headers.{header_reads}
use Rattle.cjc_bytes.proofs.Numbers.{like_number}

-- Descriptor has these offsets and numbers of bytes of methods that stand one behind the other
abbrev pub Describes : (at : ℕ) → List MethodDescriptor → List LaidMethod → Type 0
Describes at [] [] = Unit {0}
Describes at [] (m ∷ ms) = ⊥
Describes at (d ∷ ds) [] = ⊥
Describes at (d ∷ ds) (m ∷ ms) = (d.offset ≡ at) × (d.bytecode_count ≡ bytecode_count m)
    × Describes (at + method_size m) ds ms

one_code : (at : ℕ) (d : MethodDescriptor) (ds : List MethodDescriptor) (bytes : List ℕ) (h : MethodHeader)
    (is : List (Spots.Placed Instruction)) (codes : List Code)
    → d.offset ≡ at → method_header bytes ≡ Some h → instructions d.bytecode_count d.bytecode_count (at + h.size)
    (drop h.size bytes) ≡ Ok is
    → codes_from (at + h.size + d.bytecode_count) ds (drop (h.size + d.bytecode_count) bytes) ≡ Ok codes
    → codes_from at (d ∷ ds) bytes ≡ Ok (record {
      is_abstract = h.is_abstract;
      first = at + h.size;
      end = at + h.size + d.bytecode_count;
      instructions = is;
    } ∷ codes)
unfolding codes_from
one_code at d ds bytes h is codes here read cut rest =
    let count = d.bytecode_count in
    let go : ℕ → List ℕ → Result (List Code) ℕ = λ next more. codes_from next ds more in
    let stands : (d.offset == at) ≡ true = ap (λ x. x == at) here ∙ like_number at in
    ap (λ b. if b then with_header at d bytes (method_header bytes) go else Err at) stands
    ∙ ap (λ o. with_header at d bytes o go) read
    ∙ ap (λ x. with_code h (at + h.size) count x (codes_from (at + h.size + count) ds (drop (h.size + count) bytes)))
    cut
    ∙ ap (λ x. with_code h (at + h.size) count (Ok is) x) rest

module _ (n : Naming) (at : ℕ) (m : LaidMethod) (can : CanBeWritten n (Emitted.placed_at 0 m.code m.wide)) where
  abbrev to : ℕ → ℕ
  to = offset_of n (placed_at at m)

  abbrev start : ℕ
  start = first (placed_at at m)

  abbrev before : ℕ → ℕ
  before = λ k. bytes_before n m.code.insns m.wide k

  -- bytes can say its instructions wherever it stands
  pub spelt : AllSpelt n to start m.code.insns m.wide
  spelt k i w e f =
      let low = 0 + length (header_bytes m.code) in
      subst (λ x. IsSpellable x) (laid_shift n low before (before k) w i
      ∙ sym (laid_shift n start before (before k) w i)) (can.spellable k i w e f)

  abbrev code : List ℕ
  code = code_bytes n to start m.code.insns m.wide

  sized : AllSized n to start m.code.insns m.wide
  sized k i w e f = length_spelt (laid n to (start + before k) w i) (spelt k i w e f)
      ∙ size_same n to (start + before k) w i

  pub code_long : length code ≡ bytecode_count m
  code_long = code_length n to start m.code.insns m.wide can.count sized ∙ before_same n m.code.insns m.wide can.forms
      (length m.code.insns)

  pub method_long : length (method_bytes n (placed_at at m)) ≡ method_size m
  method_long = length-append (header_of m) code ∙ ap (λ x. length (header_of m) + x) code_long

  -- of a method whose bytes stand in front of others
  pub code_read : (d : MethodDescriptor) (ds : List MethodDescriptor) (later : List ℕ) (codes : List Code)
      → d.offset ≡ at → d.bytecode_count ≡ bytecode_count m
      → codes_from (at + method_size m) ds later ≡ Ok codes → codes_from at (d ∷ ds) (method_bytes n (placed_at at m)
      ++ later) ≡ Ok (code_at n at m ∷ codes)
  code_read d ds later codes here count rest =
      let header = header_of m in
      let bytes = (header ++ code) ++ later in
      let r = header_reads m (code ++ later) in
      let h = r.says in
      let apart : bytes ≡ header ++ (code ++ later) = append_assoc header code later in
      let read : method_header bytes ≡ Some h = ap method_header apart ∙ r.read in
      let long : d.bytecode_count ≡ length code = count ∙ sym code_long in
      let behind : drop h.size bytes ≡ code ++ later = ap (λ k. drop k bytes) r.size ∙ ap (drop (length header)) apart
      ∙ drop-append_seam header (code ++ later) in
      let cut : instructions d.bytecode_count d.bytecode_count (at + h.size) (drop h.size bytes)
      ≡ Ok (laid_code n to start m.code.insns m.wide) =
      ap (λ k. instructions k k (at + h.size) (drop h.size bytes)) long
      ∙ ap (λ k. instructions (length code) (length code) (at + k) (drop h.size bytes)) r.size
      ∙ ap (λ bs. instructions (length code) (length code) start bs) behind
      ∙ code_cut n to (length code) start m.code.insns m.wide later can.count spelt (omega arith) in
      let past : at + h.size + d.bytecode_count ≡ at + method_size m =
      ap (λ k. at + k + d.bytecode_count) r.size ∙ ap (λ k. at + length header + k) count
      ∙ (let e : at + length header + bytecode_count m ≡ at + method_size m = omega arith in e) in
      let far : drop (h.size + d.bytecode_count) bytes ≡ later =
      drop_drop bytes h.size d.bytecode_count ∙ ap (drop d.bytecode_count) behind
      ∙ ap (λ k. drop k (code ++ later)) long ∙ drop-append_seam code later in
      let next : codes_from (at + h.size + d.bytecode_count) ds (drop (h.size + d.bytecode_count) bytes) ≡ Ok codes =
      ap (λ k. codes_from k ds (drop (h.size + d.bytecode_count) bytes)) past ∙ ap (codes_from (at + method_size m) ds)
      far ∙ rest in
      one_code at d ds bytes h (laid_code n to start m.code.insns m.wide) codes here read cut next
      ∙ ap (λ b. Ok (record {
        is_abstract = b;
        first = at + h.size;
        end = at + h.size + d.bytecode_count;
        instructions = laid_code n to start m.code.insns m.wide;
      } ∷ codes)) r.is_abstract
      ∙ ap (λ k. Ok (record {
        is_abstract = m.is_abstract;
        first = at + k;
        end = at + k + d.bytecode_count;
        instructions = laid_code n to start m.code.insns m.wide;
      } ∷ codes)) r.size
      ∙ ap (λ k. Ok (record {
        is_abstract = m.is_abstract;
        first = start;
        end = start + k;
        instructions = laid_code n to start m.code.insns m.wide;
      } ∷ codes)) count

-- Methods that Descriptor describes one behind the other are cut into their codes.
pub methods_cut : (n : Naming) (at : ℕ) (ds : List MethodDescriptor) (ms : List LaidMethod) → Describes at ds ms
    → AllWritable n ms → codes_from at ds (all_bytes n (placed_from at ms)) ≡ Ok (codes_at n at ms)
unfolding codes_from
methods_cut n at [] [] h can = refl
methods_cut n at [] (m ∷ ms) h can = absurd h
methods_cut n at (d ∷ ds) [] h can = absurd h
methods_cut n at (d ∷ ds) (m ∷ ms) h can =
    code_read n at m (can 0 m refl) d ds (all_bytes n (placed_from (at + method_size m) ms))
    (codes_at n (at + method_size m) ms) h.0 h.1
    (methods_cut n (at + method_size m) ds ms h.2 (λ k x e. can (suc k) x e))
