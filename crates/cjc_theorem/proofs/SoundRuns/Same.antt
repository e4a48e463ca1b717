-- Whether two methods of class files are the same is decided.
use Rattle.std.proofs.Common.{◌≡◌, ℕ, refl, sym, ap, ◌∙◌, Bool, true, false, List, [], ◌∷◌}
use Rattle.std.specs.Prelude.{◌&&◌, ◌==◌, Option, Some, None, get_or, map, ℤ, pos}
use Rattle.std.specs.Bool.{Decides}
use Rattle.std.specs.Cmp.{signed_Decides, unsigned_Decides}
use Rattle.std.specs.Cmp.Lexicographic.{pointwise}
use Rattle.std.specs.Ordering.{int_eq}
use Rattle.std.specs.Str.{bytes_eq}
use Rattle.std.proofs.lemmas.Slice.Eq.{bytes_eq-Decides, slice_eq-Decides}
use Rattle.std.proofs.lemmas.Bool.{and_from}
use Rattle.cjc_jvm_semantics.specs.Linked.{Method}
use Rattle.cjc_bytes.specs.declared.fault.MemberId.{MemberId}
use Rattle.cjc_bytes.proofs.Bools.{both_front, both_back}
use Rattle.cjc_world.specs.ClassFile.declared.tree.Catch.{Catch}
use Rattle.cjc_components.specs.Bytecode.declared.insn.JCase.{JCase}
use Rattle.cjc_components.specs.Bytecode.declared.insn.JInsn.{JInsn}
use Rattle.cjc_components.specs.Bytecode.declared.insn.JOp.{JOp}
use Rattle.cjc_components.specs.Bytecode.declared.insn.JOp.TheVariants as jop

-- ---- an operation as its kind, its numbers and its names

kind : JOp → ℕ
kind jop.Nop = 0
kind jop.Null = 1
kind (jop.Number z) = 2
kind (jop.Load refs l) = 3
kind (jop.Store refs l) = 4
kind (jop.ArrayLoad op) = 5
kind (jop.ArrayStore op) = 6
kind (jop.Stack op) = 7
kind (jop.Arith op) = 8
kind (jop.Inc l by) = 9
kind (jop.Narrow op) = 10
kind (jop.If op target) = 11
kind (jop.Goto target) = 12
kind (jop.TableSwitch other low targets) = 13
kind (jop.LookupSwitch other cases) = 14
kind (jop.Return op) = 15
kind (jop.Static put f) = 16
kind (jop.Field put f) = 17
kind (jop.Call op m) = 18
kind (jop.New class) = 19
kind (jop.NewArray n) = 20
kind (jop.ANewArray class) = 21
kind jop.ArrayLength = 22
kind jop.Throw = 23
kind (jop.CheckCast class) = 24
kind (jop.InstanceOf class) = 25

bit : Bool → ℕ
bit true = 1
bit false = 0

-- numbers with a sign
signed : JOp → List ℤ
signed (jop.Number z) = z ∷ []
signed (jop.Inc l by) = by ∷ []
signed (jop.TableSwitch other low targets) = low ∷ []
signed (jop.LookupSwitch other cases) = map (λ (c : JCase). c.value) cases
signed op = []

-- numbers without, and names
texts : JOp → List (List ℕ)
texts (jop.Load refs l) = (bit refs ∷ l ∷ []) ∷ []
texts (jop.Store refs l) = (bit refs ∷ l ∷ []) ∷ []
texts (jop.ArrayLoad op) = (op ∷ []) ∷ []
texts (jop.ArrayStore op) = (op ∷ []) ∷ []
texts (jop.Stack op) = (op ∷ []) ∷ []
texts (jop.Arith op) = (op ∷ []) ∷ []
texts (jop.Inc l by) = (l ∷ []) ∷ []
texts (jop.Narrow op) = (op ∷ []) ∷ []
texts (jop.If op target) = (op ∷ target ∷ []) ∷ []
texts (jop.Goto target) = (target ∷ []) ∷ []
texts (jop.TableSwitch other low targets) = (other ∷ []) ∷ targets ∷ []
texts (jop.LookupSwitch other cases) = (other ∷ []) ∷ map (λ (c : JCase). c.target) cases ∷ []
texts (jop.Return op) = (op ∷ []) ∷ []
texts (jop.Static put f) = (bit put ∷ []) ∷ f.class ∷ f.name ∷ f.desc ∷ []
texts (jop.Field put f) = (bit put ∷ []) ∷ f.class ∷ f.name ∷ f.desc ∷ []
texts (jop.Call op m) = (op ∷ []) ∷ m.class ∷ m.name ∷ m.desc ∷ []
texts (jop.New class) = class ∷ []
texts (jop.NewArray n) = (n ∷ []) ∷ []
texts (jop.ANewArray class) = class ∷ []
texts (jop.CheckCast class) = class ∷ []
texts (jop.InstanceOf class) = class ∷ []
texts op = []

-- cases of these values and targets
cases_of : List ℤ → List ℕ → List JCase
cases_of (z ∷ zs) (n ∷ ns) = record { value = z; target = n } ∷ cases_of zs ns
cases_of zs ns = []

module _ (zs : List ℤ) (ts : List (List ℕ)) where
  z : ℤ
  z = get_or zs 0 (pos 0)

  t : ℕ → List ℕ
  t k = get_or ts k []

  n : ℕ → ℕ
  n k = get_or (t 0) k 0

  id : MemberId
  id = record { class = t 1; name = t 2; desc = t 3 }

  -- one of each kind, by these numbers and names
  each_kind : List JOp
  each_kind =
      jop.Nop ∷ jop.Null ∷ jop.Number z ∷ jop.Load (n 0 == 1) (n 1) ∷ jop.Store (n 0 == 1) (n 1) ∷ jop.ArrayLoad (n 0)
      ∷ jop.ArrayStore (n 0) ∷ jop.Stack (n 0) ∷ jop.Arith (n 0) ∷ jop.Inc (n 0) z
      ∷ jop.Narrow (n 0) ∷ jop.If (n 0) (n 1) ∷ jop.Goto (n 0) ∷ jop.TableSwitch (n 0) z (t 1)
      ∷ jop.LookupSwitch (n 0) (cases_of zs (t 1)) ∷ jop.Return (n 0) ∷ jop.Static (n 0 == 1) id
      ∷ jop.Field (n 0 == 1) id
      ∷ jop.Call (n 0) id ∷ jop.New (t 0) ∷ jop.NewArray (n 0) ∷ jop.ANewArray (t 0) ∷ jop.ArrayLength ∷ jop.Throw
      ∷ jop.CheckCast (t 0) ∷ jop.InstanceOf (t 0) ∷ []

told : ℕ → List ℤ → List (List ℕ) → JOp
told k zs ts = get_or (each_kind zs ts) k jop.Nop

cases_back : (cases : List JCase) → cases_of (map (λ (c : JCase). c.value) cases) (map (λ (c : JCase). c.target) cases)
    ≡ cases
unfolding cases_of
cases_back [] = refl
cases_back (c ∷ cases) = ap (λ cs. c ∷ cs) (cases_back cases)

bit_back : (b : Bool) → (bit b == 1) ≡ b
unfolding bit
bit_back true = refl
bit_back false = refl

told_back : (op : JOp) → told (kind op) (signed op) (texts op) ≡ op
unfolding told kind signed texts each_kind z t n id
told_back jop.Nop = refl
told_back jop.Null = refl
told_back (jop.Number z) = refl
told_back (jop.Load refs l) = ap (λ b. jop.Load b l) (bit_back refs)
told_back (jop.Store refs l) = ap (λ b. jop.Store b l) (bit_back refs)
told_back (jop.ArrayLoad op) = refl
told_back (jop.ArrayStore op) = refl
told_back (jop.Stack op) = refl
told_back (jop.Arith op) = refl
told_back (jop.Inc l by) = refl
told_back (jop.Narrow op) = refl
told_back (jop.If op target) = refl
told_back (jop.Goto target) = refl
told_back (jop.TableSwitch other low targets) = refl
told_back (jop.LookupSwitch other cases) = ap (jop.LookupSwitch other) (cases_back cases)
told_back (jop.Return op) = refl
told_back (jop.Static put f) = ap (λ b. jop.Static b f) (bit_back put)
told_back (jop.Field put f) = ap (λ b. jop.Field b f) (bit_back put)
told_back (jop.Call op m) = refl
told_back (jop.New class) = refl
told_back (jop.NewArray k) = refl
told_back (jop.ANewArray class) = refl
told_back jop.ArrayLength = refl
told_back jop.Throw = refl
told_back (jop.CheckCast class) = refl
told_back (jop.InstanceOf class) = refl

-- ---- tests

names_decide : (xs ys : List (List ℕ)) → Decides (pointwise bytes_eq xs ys) (xs ≡ ys)
names_decide xs ys = slice_eq-Decides bytes_eq-Decides xs ys (pointwise bytes_eq xs ys) refl

numbers_decide : (xs ys : List ℤ) → Decides (pointwise int_eq xs ys) (xs ≡ ys)
numbers_decide xs ys = slice_eq-Decides signed_Decides xs ys (pointwise int_eq xs ys) refl

same_op : JOp → JOp → Bool
same_op x y = (kind x == kind y) && (pointwise int_eq (signed x) (signed y) && pointwise bytes_eq (texts x) (texts y))

op_decides : (x y : JOp) → Decides (same_op x y) (x ≡ y)
unfolding same_op
op_decides x y = (
  λ e.
      let a = (unsigned_Decides (kind x) (kind y)).0 (both_front (kind x == kind y) (pointwise int_eq (signed x)
      (signed y)
      && pointwise bytes_eq (texts x) (texts y)) e) in
      let rest = both_back (kind x == kind y) (pointwise int_eq (signed x) (signed y)
      && pointwise bytes_eq (texts x) (texts y)) e in
      let b = (numbers_decide (signed x) (signed y)).0 (both_front (pointwise int_eq (signed x) (signed y))
      (pointwise bytes_eq (texts x) (texts y)) rest) in
      let c = (names_decide (texts x) (texts y)).0 (both_back (pointwise int_eq (signed x) (signed y))
      (pointwise bytes_eq (texts x) (texts y)) rest) in
      sym (told_back x) ∙ (λ i. told (a i) (b i) (c i)) ∙ told_back y,
  λ e.
      and_from (kind x == kind y) (pointwise int_eq (signed x) (signed y) && pointwise bytes_eq (texts x) (texts y))
      ((unsigned_Decides (kind x) (kind y)).1 (ap kind e))
      (and_from (pointwise int_eq (signed x) (signed y)) (pointwise bytes_eq (texts x) (texts y))
      ((numbers_decide (signed x) (signed y)).1 (ap signed e)) ((names_decide (texts x) (texts y)).1 (ap texts e))),
)

same_insn : JInsn → JInsn → Bool
same_insn x y = (x.at == y.at) && same_op x.op y.op

insn_decides : (x y : JInsn) → Decides (same_insn x y) (x ≡ y)
unfolding same_insn
insn_decides x y = (
  λ e.
      let at = (unsigned_Decides x.at y.at).0 (both_front (x.at == y.at) (same_op x.op y.op) e) in
      let op = (op_decides x.op y.op).0 (both_back (x.at == y.at) (same_op x.op y.op) e) in
      (λ i. record { at = at i; op = op i }),
  λ e. and_from (x.at == y.at) (same_op x.op y.op) ((unsigned_Decides x.at y.at).1 (ap (λ (v : JInsn). v.at) e))
      ((op_decides x.op y.op).1 (ap (λ (v : JInsn). v.op) e)),
)

-- a handler as its numbers and its class
of_catch : Option (List ℕ) → List (List ℕ)
of_catch None = []
of_catch (Some class) = class ∷ []

told_catch : List (List ℕ) → Option (List ℕ)
told_catch [] = None
told_catch (class ∷ rest) = Some class

catch_back : (o : Option (List ℕ)) → told_catch (of_catch o) ≡ o
unfolding told_catch of_catch
catch_back None = refl
catch_back (Some class) = refl

catch_texts : Catch → List (List ℕ)
catch_texts c = (c.start ∷ c.end ∷ c.target ∷ []) ∷ of_catch c.class

catch_told : List (List ℕ) → Catch
catch_told [] = record { start = 0; end = 0; target = 0; class = None }
catch_told (ns ∷ rest) = record {
  start = get_or ns 0 0;
  end = get_or ns 1 0;
  target = get_or ns 2 0;
  class = told_catch rest;
}

catch_whole : (c : Catch) → catch_told (catch_texts c) ≡ c
unfolding catch_texts catch_told
catch_whole c = ap (λ o. record { start = c.start; end = c.end; target = c.target; class = o }) (catch_back c.class)

same_catch : Catch → Catch → Bool
same_catch x y = pointwise bytes_eq (catch_texts x) (catch_texts y)

catch_decides : (x y : Catch) → Decides (same_catch x y) (x ≡ y)
unfolding same_catch
catch_decides x y = (
  λ e. sym (catch_whole x) ∙ ap catch_told ((names_decide (catch_texts x) (catch_texts y)).0 e)
      ∙ catch_whole y,
  λ e. (names_decide (catch_texts x) (catch_texts y)).1 (ap catch_texts e),
)

-- ---- a method

-- its names and numbers
method_texts : Method → List (List ℕ)
method_texts m = (bit m.is_abstract ∷ m.max_stack ∷ m.max_locals ∷ []) ∷ (let id = m.id in id.class) ∷ (let id = m.id
    in id.name) ∷ (let id = m.id in id.desc) ∷ []

method_told : List (List ℕ) → List JInsn → List Catch → Method
method_told ts insns catches = record {
  id = record { class = get_or ts 1 []; name = get_or ts 2 []; desc = get_or ts 3 [] };
  is_abstract = get_or (get_or ts 0 []) 0 0 == 1;
  max_stack = get_or (get_or ts 0 []) 1 0;
  max_locals = get_or (get_or ts 0 []) 2 0;
  insns = insns;
  catches = catches;
}

method_back : (m : Method) → method_told (method_texts m) m.insns m.catches ≡ m
unfolding method_told method_texts
method_back m = ap (λ b. record {
  id = m.id;
  is_abstract = b;
  max_stack = m.max_stack;
  max_locals = m.max_locals;
  insns = m.insns;
  catches = m.catches;
}) (bit_back m.is_abstract)

pub same_method : Method → Method → Bool
same_method x y = pointwise bytes_eq (method_texts x) (method_texts y) && (pointwise same_insn x.insns y.insns
    && pointwise same_catch x.catches y.catches)

all_insns : (xs ys : List JInsn) → Decides (pointwise same_insn xs ys) (xs ≡ ys)
all_insns xs ys = slice_eq-Decides insn_decides xs ys (pointwise same_insn xs ys) refl

all_catches : (xs ys : List Catch) → Decides (pointwise same_catch xs ys) (xs ≡ ys)
all_catches xs ys = slice_eq-Decides catch_decides xs ys (pointwise same_catch xs ys) refl

pub method_decides : (x y : Method) → Decides (same_method x y) (x ≡ y)
unfolding same_method
method_decides x y = (
  λ e.
      let texts = (names_decide (method_texts x) (method_texts y)).0
      (both_front (pointwise bytes_eq (method_texts x) (method_texts y)) (pointwise same_insn x.insns y.insns
      && pointwise same_catch x.catches y.catches) e) in
      let rest = both_back (pointwise bytes_eq (method_texts x) (method_texts y)) (pointwise same_insn x.insns y.insns
      && pointwise same_catch x.catches y.catches) e in
      let insns = (all_insns x.insns y.insns).0 (both_front (pointwise same_insn x.insns y.insns)
      (pointwise same_catch x.catches y.catches) rest) in
      let catches = (all_catches x.catches y.catches).0 (both_back (pointwise same_insn x.insns y.insns)
      (pointwise same_catch x.catches y.catches) rest) in
      sym (method_back x) ∙ (λ i. method_told (texts i) (insns i) (catches i)) ∙ method_back y,
  λ e.
      and_from (pointwise bytes_eq (method_texts x) (method_texts y)) (pointwise same_insn x.insns y.insns
      && pointwise same_catch x.catches y.catches) ((names_decide (method_texts x) (method_texts y)).1
      (ap method_texts e))
      (and_from (pointwise same_insn x.insns y.insns) (pointwise same_catch x.catches y.catches)
      ((all_insns x.insns y.insns).1 (ap (λ (v : Method). v.insns) e)) ((all_catches x.catches y.catches).1
      (ap (λ (v : Method). v.catches) e))),
)
