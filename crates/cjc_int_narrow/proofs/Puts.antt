-- What is written as in short mode, or nearly so, and what is written for calls.
use Rattle.std.proofs.Common.{◌≡◌, ℕ, ◌+◌, ◌-◌, ◌<◌, arith, refl, sym, ap, ◌∙◌, Bool, true, false, List, [], ◌∷◌, ◌++◌}
use Rattle.std.proofs.Common.{map, append_assoc}
use Rattle.std.specs.Prelude.{if◌then◌else◌, nat_le, Some, None}
use Rattle.std.proofs.lemmas.Bool.{leb-true}
use Rattle.cjc_int_mode.specs.Bytes.Descriptor.{Part, Parts}
use Rattle.cjc_int_mode.specs.Bytes.declared.descriptor.Kind.{Kind}
use Rattle.cjc_int_mode.specs.Bytes.declared.descriptor.Kind.TheVariants as kinds
use Rattle.cjc_int_mode.specs.Bytes.declared.fault.MemberId.{MemberId}
use Rattle.cjc_int_mode.specs.Bytecode.Jvm as jvm
use Rattle.cjc_int_mode.specs.Bytecode.declared.insn.JOp.{JOp}
use Rattle.cjc_int_mode.specs.Bytecode.declared.insn.JOp.TheVariants as jop
use Rattle.cjc_int_mode.specs.CapRead.Card as card
use Rattle.cjc_int_mode.specs.Script.Sorts.{Signature, result_by, signature_by, sort_by, sort_of}
use Rattle.cjc_ncode.specs.declared.narrow.NInsn.{NInsn}
use Rattle.cjc_ncode.specs.declared.narrow.NInsn.TheVariants.{Jump, Op}
use Rattle.cjc_ncode.specs.Written.{Resolution, call_by, condition, written as written_short}
use Rattle.cjc_ncode.specs.IntCode.IntCode.{Before, Frame, called_with, is_short, jumped, scratch, widened_result}
use Rattle.cjc_ncode.specs.IntCode.IntCode.{written}
use Rattle.cjc_narrow.specs.Written.Operands.{CanBeSaid, names_member}
use Rattle.cjc_int_narrow.specs.Working.Moves.{handed, widened_if}
use Rattle.cjc_int_narrow.specs.Working.Puts.{gives_word, is_same, takes_word}
use Rattle.cjc_int_narrow.proofs.Moves.{handed_is}

module _ (f : Frame) (r : Resolution) (p : ℕ → ℕ) (b : Before) (here : ℕ) where
  pub same_written : (op : JOp) → is_same op ≡ true → written f r p b here op ≡ written_short r p op
  same_written jop.Nop e = refl
  same_written jop.Null e = refl
  same_written (jop.Goto target) e = refl
  same_written (jop.New class) e = refl
  same_written jop.Throw e = refl
  same_written (jop.CheckCast class) e = refl
  same_written op e = absurd cc

  pub wide_written : (op : JOp) → gives_word op ≡ true → written f r p b here op ≡ written_short r p op
      ++ Op card.s2i ∷ []
  wide_written jop.ArrayLength e = refl
  wide_written (jop.InstanceOf class) e = refl
  wide_written op e = absurd cc

  pub cut_written : (op : JOp) → takes_word op ≡ true → written f r p b here op ≡ Op card.i2s ∷ written_short r p op
  cut_written (jop.NewArray kind) e = refl
  cut_written (jop.ANewArray class) e = refl
  cut_written op e = absurd cc

-- such an instruction names no member, and its operands fit those of short mode
pub same_fits : (op : JOp) → is_same op ≡ true → (names_member op ≡ false) × CanBeSaid op
same_fits jop.Nop e = (refl, tt)
same_fits jop.Null e = (refl, tt)
same_fits (jop.Goto target) e = (refl, tt)
same_fits (jop.New class) e = (refl, tt)
same_fits jop.Throw e = (refl, tt)
same_fits (jop.CheckCast class) e = (refl, tt)
same_fits op e = absurd cc

pub wide_fits : (op : JOp) → gives_word op ≡ true → (names_member op ≡ false) × CanBeSaid op
wide_fits jop.ArrayLength e = (refl, tt)
wide_fits (jop.InstanceOf class) e = (refl, tt)
wide_fits op e = absurd cc

pub cut_fits : (op : JOp) → takes_word op ≡ true → (names_member op ≡ false) × CanBeSaid op
cut_fits (jop.NewArray kind) e = (refl, tt)
cut_fits (jop.ANewArray class) e = (refl, tt)
cut_fits op e = absurd cc

-- a jump that compares no numbers
pub jumped_far : (op target : ℕ) → jvm.if_icmple < op → jumped op target ≡ Jump (condition op) target ∷ []
jumped_far op target lt = go (nat_le op jvm.ifle) (nat_le op jvm.if_icmple) refl refl
  where
    go : (a b : Bool) → nat_le op jvm.ifle ≡ a → nat_le op jvm.if_icmple ≡ b → (if a then Op card.iconst_0
        ∷ Op card.icmp ∷ Jump (card.ifeq + (op - jvm.ifeq)) target ∷ [] else (if b then Op card.icmp
        ∷ Jump (card.ifeq + (op - jvm.if_icmpeq)) target ∷ [] else Jump (condition op) target ∷ []))
        ≡ Jump (condition op) target ∷ []
    go true b e g = absurd (let le = leb-true op jvm.ifle e in omega (arith, le, lt))
    go false true e g = absurd (let le = leb-true op jvm.if_icmple g in omega (arith, le, lt))
    go false false e g = refl

-- ---- calls

result_widened : (p : Part) → widened_result (result_by p.kind p) ≡ widened_if (is_short (sort_of p))
result_widened p = go p.kind refl
  where
    go : (k : Kind) → p.kind ≡ k → widened_result (result_by k p) ≡ widened_if (is_short (sort_of p))
    go kinds.Void e = sym (ap (λ (k : Kind). widened_if (is_short (sort_by k p.class))) e)
    go kinds.Bool e = refl
    go kinds.Byte e = refl
    go kinds.Short e = refl
    go kinds.Int e = refl
    go kinds.Other e = refl
    go kinds.Ref e = refl

pub sent : (f : Frame) (r : Resolution) (op : ℕ) (m : MemberId) (d : Parts) (out one two after : List NInsn) (first : ℕ)
    (short : Bool) → d.is_method ≡ true → first ≡ scratch f 0 → one ≡ out ++ handed first (map sort_of d.params)
    → two ≡ one ++ call_by r op m → short ≡ is_short (sort_of d.result) → after ≡ two ++ widened_if short
    → after ≡ out ++ called_with f r op m (signature_by d)
sent f r op m d out one two after first short is is_first is_one is_two is_short is_after =
    let params = map sort_of d.params in
    let types : Signature = record { params = params; result = (let q = d.result in result_by q.kind q) } in
    let call = call_by r op m in
    let back = widened_result types.result in
    is_after
    ∙ ap (λ b. two ++ widened_if b) is_short
    ∙ ap (λ more. two ++ more) (sym (result_widened d.result))
    ∙ ap (λ front. front ++ back) is_two
    ∙ ap (λ front. (front ++ call) ++ back) is_one
    ∙ ap (λ front. front ++ back) (append_assoc out (handed first params) call)
    ∙ append_assoc out (handed first params ++ call) back
    ∙ ap (λ (w : ℕ). out ++ ((handed w params ++ call) ++ back)) is_first
    ∙ ap (λ h. out ++ ((h ++ call) ++ back)) (sym (handed_is f params))
    ∙ ap (λ (b : Bool). out ++ called_with f r op m (if b then Some types else None)) (sym is)
