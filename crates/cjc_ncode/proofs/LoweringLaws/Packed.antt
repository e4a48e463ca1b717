-- Where each method of a package stands, and where the ranges of the others' handlers lie.
use Rattle.std.proofs.Common.{◌≡◌, ℕ, zero, suc, ◌+◌, ◌-◌, ◌<◌, ◌≤◌, refl, ap, sym, subst, ◌∙◌, arith, Bool, true, List}
use Rattle.std.proofs.Common.{[], ◌∷◌, ◌++◌, length, drop, append_assoc, length-append, add-zero}
use Rattle.std.specs.Prelude.{Some, slice_get, nat_le, if◌then◌else◌}
use Rattle.std.proofs.lemmas.Bool.Decides.{nat_tests}
use Rattle.cjc_card_semantics.specs.CapRead.declared.tree.Handler.{Handler}
use Rattle.cjc_card_semantics.specs.Machine.Loaded.{Part}
use Rattle.cjc_card_semantics.specs.Machine.Methods.{methods_begin}
use Rattle.cjc_ncode.specs.declared.narrow.NCatch.{NCatch}
use Rattle.cjc_ncode.specs.declared.narrow.NInsn.{NInsn}
use Rattle.cjc_ncode.specs.Lowering.Naming.{Naming}
use Rattle.cjc_ncode.specs.Lowering.Laid.{laid}
use Rattle.cjc_ncode.specs.Lowering.Handlers.{handler_of, handlers_of, AllLie, more, AllElsewhere, before, behind}
use Rattle.cjc_ncode.specs.Lowering.Handlers
use Rattle.cjc_ncode.specs.Lowering.Placed.{Placed, bytes_of, insn_size, bytes_before, code_bytes, first, offset_of}
use Rattle.cjc_ncode.specs.Lowering.Placed.{method_bytes, IsLaidOut, Stands, HandlersStand}
use Rattle.cjc_ncode.specs.Lowering.Package.{all_bytes, all_handlers, AreConsecutive, next, IsWhole, HoldsMethods}
use Rattle.cjc_ncode.proofs.LoweringLaws.Places.{before_grows}
use Rattle.cjc_ncode.proofs.LoweringLaws.Bytes.{AllSized, next_sized}
use Rattle.cjc_ncode.proofs.LoweringLaws.Fetching.{sized, labels_ascend}
use Rattle.cjc_code.proofs.BytesGets.{get_drop_past}

-- ---- how long code is

pub code_length : (n : Naming) (to : ℕ → ℕ) (at : ℕ) (insns : List NInsn) (wide : List Bool)
    → length wide ≡ length insns → AllSized n to at insns wide → length (code_bytes n to at insns wide)
    ≡ bytes_before n insns wide (length insns)
code_length n to at [] wide same all = refl
code_length n to at (i ∷ insns) [] same all = absurd (omega arith)
code_length n to at (i ∷ insns) (w ∷ wide) same all =
    let here : length (bytes_of (laid n to at w i)) ≡ insn_size n w i = subst (λ x. length (bytes_of (laid n to x w i))
    ≡ insn_size n w i) (add-zero at) (all 0 i w refl refl) in
    let rest = code_length n to (at + insn_size n w i) insns wide (omega arith) (next_sized n to at i insns w wide all)
    in
    length-append (bytes_of (laid n to at w i)) (code_bytes n to (at + insn_size n w i) insns wide)
    ∙ ap (λ x. x + length (code_bytes n to (at + insn_size n w i) insns wide)) here
    ∙ ap (λ x. insn_size n w i + x) rest

-- a method ends where its bytes do
pub ends_at : (n : Naming) (p : Placed) → IsLaidOut n p → offset_of n p (length p.method.insns)
    ≡ p.offset + length (method_bytes n p)
ends_at n p whole =
    let code = code_bytes n (offset_of n p) (first p) p.method.insns p.wide in
    let long = code_length n (offset_of n p) (first p) p.method.insns p.wide whole.forms (sized n p whole) in
    let all : length (p.header ++ code) ≡ length p.header + length code = length-append p.header code in
    omega arith

-- ---- bytes

record Found (n : Naming) (at : ℕ) (placed : List Placed) (p : Placed) : Type 0 where
  earlier : List ℕ
  later : List ℕ
  bytes : all_bytes n placed ≡ earlier ++ (method_bytes n p ++ later)
  offset : p.offset ≡ at + length earlier

found : (n : Naming) (at : ℕ) (placed : List Placed) → AreConsecutive n at placed → (j : ℕ) (p : Placed)
    → slice_get placed j ≡ Some p → Found n at placed p
found n at [] consecutive j p e = cc
found n at (q ∷ placed) (next here rest) zero p e =
    let same : q ≡ p = cc in
    record {
      earlier = [];
      later = all_bytes n placed;
      bytes = ap (λ x. method_bytes n x ++ all_bytes n placed) same;
      offset = sym (ap (λ x. x.offset) same) ∙ here ∙ sym (add-zero at);
    }
found n at (q ∷ placed) (next here rest) (suc j) p e =
    let r = found n (at + length (method_bytes n q)) placed rest j p e in
    let off = r.offset in
    let long : length (method_bytes n q ++ r.earlier) ≡ length (method_bytes n q) + length r.earlier =
    length-append (method_bytes n q) r.earlier in
    record {
      earlier = method_bytes n q ++ r.earlier;
      later = r.later;
      bytes = ap (λ x. method_bytes n q ++ x) r.bytes ∙ sym (append_assoc (method_bytes n q) r.earlier (method_bytes n p
          ++ r.later));
      offset = omega arith;
    }

-- ---- handlers

appended : {first end : ℕ} (hs ks : List Handler) → AllElsewhere first end hs → AllElsewhere first end ks
    → AllElsewhere first end (hs ++ ks)
appended [] ks Handlers.none off = off
appended (h ∷ hs) ks (before le rest) off = before le (appended hs ks rest off)
appended (h ∷ hs) ks (behind lt rest) off = behind lt (appended hs ks rest off)

module _ (n : Naming) (q : Placed) (code : IsLaidOut n q) (low end : ℕ) where
  abbrev to : ℕ → ℕ
  to = offset_of n q

  abbrev count : ℕ
  count = length q.method.insns

  own_before : (catches : List NCatch) → AllLie n count catches → to count ≤ low
      → AllElsewhere low end (handlers_of n to catches)
  own_before [] lie le = Handlers.none
  own_before (c ∷ catches) (more some high known lie) le =
      let up = labels_ascend n q code c.start c.end some high in
      let over = before_grows n q.method.insns q.wide c.end count high in
      before (omega arith) (own_before catches lie le)

  own_behind : (catches : List NCatch) → AllLie n count catches → end < first q
      → AllElsewhere low end (handlers_of n to catches)
  own_behind [] lie lt = Handlers.none
  own_behind (c ∷ catches) (more some high known lie) lt = behind (omega arith) (own_behind catches lie lt)

module _ (n : Naming) where
  all_behind : (low end at : ℕ) (placed : List Placed) → AreConsecutive n at placed → ((j : ℕ) (q : Placed)
      → slice_get placed j ≡ Some q → IsWhole n q) → end ≤ at → AllElsewhere low end (all_handlers n placed)
  all_behind low end at [] consecutive whole le = Handlers.none
  all_behind low end at (q ∷ placed) (next here rest) whole le =
      let w = whole 0 q refl in
      let some = w.header in
      appended (handlers_of n (offset_of n q) q.method.catches) (all_handlers n placed)
      (own_behind n q w.code low end q.method.catches w.handlers (omega arith))
      (all_behind low end (at + length (method_bytes n q)) placed rest (λ j. whole (suc j)) (omega arith))

  record Around (at : ℕ) (placed : List Placed) (p : Placed) : Type 0 where
    earlier : List Handler
    later : List Handler
    table : all_handlers n placed ≡ earlier ++ (handlers_of n (offset_of n p) p.method.catches ++ later)
    earlier_elsewhere : AllElsewhere (first p) (offset_of n p (length p.method.insns)) earlier
    later_elsewhere : AllElsewhere (first p) (offset_of n p (length p.method.insns)) later
    low : at ≤ p.offset

  around : (at : ℕ) (placed : List Placed) → AreConsecutive n at placed → ((j : ℕ) (q : Placed)
      → slice_get placed j ≡ Some q → IsWhole n q) → (j : ℕ) (p : Placed) → slice_get placed j ≡ Some p
      → Around at placed p
  around at [] consecutive whole j p e = cc
  around at (q ∷ placed) (next here rest) whole zero p e =
      let same : q ≡ p = cc in
      let w = whole 0 q refl in
      let ends = ends_at n q w.code in
      subst (Around at (q ∷ placed)) same (record {
        earlier = [];
        later = all_handlers n placed;
        table = refl;
        earlier_elsewhere = Handlers.none;
        later_elsewhere = all_behind (first q) (offset_of n q (length q.method.insns)) (at + length (method_bytes n q))
            placed rest (λ j. whole (suc j)) (omega arith);
        low = omega arith;
      })
  around at (q ∷ placed) (next here rest) whole (suc j) p e =
      let w = whole 0 q refl in
      let ends = ends_at n q w.code in
      let r = around (at + length (method_bytes n q)) placed rest (λ j. whole (suc j)) j p e in
      let up = r.low in
      let own = handlers_of n (offset_of n q) q.method.catches in
      record {
        earlier = own ++ r.earlier;
        later = r.later;
        table = ap (λ x. own ++ x) r.table
            ∙ sym (append_assoc own r.earlier (handlers_of n (offset_of n p) p.method.catches ++ r.later));
        earlier_elsewhere =
            appended own r.earlier (own_before n q w.code (first p) (offset_of n p (length p.method.insns))
            q.method.catches w.handlers (omega arith)) r.earlier_elsewhere;
        later_elsewhere = r.later_elsewhere;
        low = omega arith;
      }

-- ---- each method of a package

module _ (n : Naming) (part : Part) (placed : List Placed) (holds : HoldsMethods n part placed) (j : ℕ) (p : Placed)
    (is : slice_get placed j ≡ Some p) where
  pub bytes_stand : Stands n p part
  bytes_stand =
      let r = found n (methods_begin part) placed holds.consecutive j p is in
      let off = r.offset in
      let le : nat_le (methods_begin part) p.offset ≡ true = grind (arith, nat_tests) in
      let far : p.offset - methods_begin part ≡ length r.earlier + 0 = omega arith in
      record {
        there = holds.there;
        pool = holds.pool;
        after_handlers = omega arith;
        behind = r.later;
        bytes = ap (λ t. if t then drop (p.offset - methods_begin part) part.method.methods else []) le
            ∙ ap (λ k. drop k part.method.methods) far
            ∙ ap (drop (length r.earlier + 0)) (holds.bytes ∙ r.bytes)
            ∙ get_drop_past r.earlier (method_bytes n p ++ r.later) 0;
      }

  pub handlers_stand : HandlersStand n p part
  handlers_stand =
      let r = around n (methods_begin part) placed holds.consecutive holds.whole j p is in
      record {
        earlier = r.earlier;
        later = r.later;
        table = holds.table ∙ r.table;
        earlier_elsewhere = r.earlier_elsewhere;
        later_elsewhere = r.later_elsewhere;
      }
