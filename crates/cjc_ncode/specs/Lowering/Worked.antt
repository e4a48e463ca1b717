-- The narrow code of a package whose components are made by hand, and how these name what it names: p/A, p/B and p/T.
use Rattle.std.specs.Prelude.{ℕ, List, [], ◌∷◌, map, Some, None, false, if◌then◌else◌, codes}
use Rattle.std.specs.Str.{bytes_eq}
use Rattle.cjc_code.specs.Bytes.declared.fault.MemberId.{MemberId}
use Rattle.cjc_card_semantics.specs.CapRead.declared.tree.ClassRef.TheVariants.{Inside, Outside}
use Rattle.cjc_card_semantics.specs.CapRead.declared.tree.StaticRef.TheVariants as refs
use Rattle.cjc_card_semantics.specs.Machine.Classes.{Own, External}
use Rattle.cjc_card_semantics.specs.Machine.Dispatch.{Open}
use Rattle.cjc_card_semantics.specs.Machine.Operations.{Fixed}
use Rattle.cjc_card_semantics.specs.Machine.Worked.{alone, calls, id}
use Rattle.cjc_ncode.specs.declared.narrow.NInsn.{NInsn}
use Rattle.cjc_ncode.specs.declared.narrow.NInsn.TheVariants as insns
use Rattle.cjc_ncode.specs.declared.narrow.NCatch.{NCatch}
use Rattle.cjc_ncode.specs.declared.narrow.NMethod.{NMethod}
use Rattle.cjc_ncode.specs.declared.narrow.PoolKey.{PoolKey}
use Rattle.cjc_ncode.specs.declared.narrow.PoolKey.TheVariants as keys
use Rattle.cjc_ncode.specs.Lowering.Naming.{Naming}
use Rattle.cjc_ncode.specs.Lowering.Placed.{Placed, short_header}

-- ---- names

-- by the place of a class among p/A, p/B, p/T and ClassCastException, else java/lang/Object
abbrev pub by_class : {A : Type 0} → (a b t exception object : A) → List ℕ → A
by_class a b t exception object c =
    if bytes_eq c (codes "p/A") then a else (if bytes_eq c (codes "p/B") then b else (if bytes_eq c (codes "p/T") then t
    else (if bytes_eq c (codes "java/lang/ClassCastException") then exception else object)))

-- v is the first virtual method, w the second
abbrev pub by_name : (v w : ℕ) → MemberId → ℕ
by_name v w m = if bytes_eq m.name (codes "v") then v else w

-- the index of a key
abbrev pub index : PoolKey → ℕ
index (keys.Class c) = by_class 0 5 0 1 0 c
index (keys.StaticMethod m) = 2
index (keys.Virtual m) = by_name 3 4 m
index key = 0

-- the components' names
abbrev pub naming : Naming
naming = record {
  loaded = alone calls;
  part = 0;
  pool = calls.pool;
  index = index;
  class_ref = by_class (Inside 2) (Inside 16) (Inside 30) (Outside 0 5) (Outside 0 0);
  field_token = λ f. 0;
  field_ref = λ f. refs.Inside 0;
  virtual_token = by_name 1 2;
  interface_token = λ m. 0;
  method_ref = λ m. refs.Inside 44;
  class = by_class (Own 0 2) (Own 0 16) (Own 0 30) (External 0 5) (External 0 0);
  cell = λ f. record { part = 0; offset = 0 };
  dispatch_token = λ m. Open (by_name 1 2 m);
  fixed = λ on m. Fixed on 0 44;
}

-- ---- methods

-- a method with a short header and no wide jump
abbrev pub placed : (offset max_stack nargs : ℕ) → List NInsn → List NCatch → Placed
placed offset max_stack nargs insns catches =
    let m : NMethod = record {
      insns = insns;
      from = [];
      catches = catches;
      max_stack = max_stack;
      nargs = nargs;
      max_locals = 0;
      widest = 0;
    } in
    record { method = m; wide = map (λ i. false) insns; offset = offset; header = short_header m }

-- T.g
abbrev pub g : MemberId
g = id (codes "p/T") (codes "g") (codes "(S)S")

-- a virtual method of A
abbrev pub of_a : (name : List ℕ) → MemberId
of_a name = id (codes "p/A") name (codes "()S")

-- a method that pushes a number and returns it
abbrev pub gives : (offset op : ℕ) → Placed
gives offset op = placed offset 1 1 (insns.Op op ∷ insns.Op 0x78 ∷ []) []

-- one that calls a virtual method on a new B
abbrev pub asks : (offset : ℕ) (name : List ℕ) → Placed
asks offset name = placed offset 1 0 (insns.Named 0x8F (keys.Class (codes "p/B"))
    ∷ insns.Named 0x8B (keys.Virtual (of_a name)) ∷ insns.Op 0x78 ∷ []) []

-- T.e divides under two handlers, of which the first takes nothing
abbrev pub divides : Placed
divides = placed 17 2 1
    (insns.Op 0x1C ∷ insns.Op 0x1C ∷ insns.Op 0x47 ∷ insns.Op 0x78 ∷ insns.Op 0x3B ∷ insns.Op 0x04 ∷ insns.Op 0x78
    ∷ insns.Op 0x3B ∷ insns.Op 0x05 ∷ insns.Op 0x78 ∷ insns.Op 0x3B ∷ insns.Op 0x06 ∷ insns.Op 0x78 ∷ [])
    (record { start = 2; end = 3; target = 4; class = Some (codes "java/lang/ClassCastException"); at = 0 }
    ∷ record { start = 0; end = 3; target = 10; class = None; at = 0 } ∷ [])

-- all methods, in the order of Method: T.e, A.v, A.w, B.v, T.g, T.f, T.h, T.u
abbrev pub methods : List Placed
methods =
    divides ∷ gives 32 0x04 ∷ gives 36 0x06 ∷ gives 40 0x05
    ∷ placed 44 2 1 (insns.Op 0x1C ∷ insns.Op 0x04 ∷ insns.Op 0x41 ∷ insns.Op 0x78 ∷ []) []
    ∷ placed 50 2 1 (insns.Op 0x1C ∷ insns.Named 0x8D (keys.StaticMethod g) ∷ insns.Op 0x78 ∷ []) []
    ∷ asks 57 (codes "v") ∷ asks 66 (codes "w") ∷ []
