-- What the pool and the operands of a package name in a group: by the references and tokens that stand there, what the
-- group has for them.
use Rattle.std.specs.Prelude.{◌≡◌, ℕ, Bool, List, Some, slice_get, unwrap_or}
use Rattle.cjc_card_semantics.specs.Bytes.declared.fault.MemberId.{MemberId}
use Rattle.cjc_card_semantics.specs.CapRead.declared.tree.ClassRef.TheVariants.{Outside}
use Rattle.cjc_card_semantics.specs.CapRead.declared.tree.StaticRef.TheVariants as refs
use Rattle.cjc_card_semantics.specs.Machine.Classes.{Class, Own, class_of}
use Rattle.cjc_card_semantics.specs.Machine.Dispatch.{Open, Token}
use Rattle.cjc_card_semantics.specs.Machine.Loaded.{Loaded}
use Rattle.cjc_card_semantics.specs.Machine.Operations.{Callee, Outer, static_cell, static_method, token_of}
use Rattle.cjc_card_semantics.specs.Machine.Statics.{StaticCell}
use Rattle.cjc_token_proof.specs.NCode.Lowering.Naming.{IsCell, Naming}
use Rattle.cjc_token_proof.specs.NCode.Lowering.Placed.{Placed}
use Rattle.cjc_token_proof.specs.NCode.declared.narrow.NInsn.{NInsn}
use Rattle.cjc_token_proof.specs.NCode.declared.narrow.NInsn.TheVariants as insns
use Rattle.cjc_token_proof.specs.NCode.declared.narrow.PoolKey.TheVariants as keys

-- What the names of a package stand for somewhere: in what is loaded, and as which package of it.
pub record Meant : Type 0 where
  pub loaded : Loaded
  pub part : ℕ
  pub class : List ℕ → Class
  pub field_token : MemberId → ℕ
  pub cell : MemberId → StaticCell
  pub dispatch_token : MemberId → Token
  pub fixed : (on_object : Bool) → MemberId → Callee

-- the names of a package there: its pool, references and tokens stay
abbrev pub named_by : Naming → Meant → Naming
named_by n x = record n {
  loaded = x.loaded;
  part = x.part;
  class = x.class;
  field_token = x.field_token;
  cell = x.cell;
  dispatch_token = x.dispatch_token;
  fixed = x.fixed;
}

-- An instruction names a field by the token that the field has there too, and a static field that has a cell there.
pub record IsKept (n : Naming) (x : Meant) (insn : NInsn) : Type 0 where
  pub field : (op : ℕ) (f : MemberId) → insn ≡ insns.Named op (keys.Field f) → x.field_token f ≡ n.field_token f
  pub cell : (op : ℕ) (f : MemberId) → insn ≡ insns.Named op (keys.StaticField f) → IsCell n f
      → IsCell (named_by n x) f

-- so do those of a method
abbrev pub AreKept : Naming → Meant → Placed → Type 0
AreKept n x p = (k : ℕ) (insn : NInsn) → (let m = p.method in slice_get m.insns k ≡ Some insn) → IsKept n x insn

-- what the names of a package stand for at a place of a group, by the references and tokens that stand in its pool
abbrev pub meant_in : (group : Loaded) → (q : ℕ) → Naming → Meant
meant_in group q n = record {
  loaded = group;
  part = q;
  class = λ c. unwrap_or (class_of group q (n.class_ref c)) (Own q 0);
  field_token = n.field_token;
  cell = λ f. unwrap_or (static_cell group q (n.field_ref f)) (record { part = q; offset = 0 });
  dispatch_token = λ m. unwrap_or (token_of (unwrap_or (class_of group q (n.class_ref m.class)) (Own q 0))
      (n.virtual_token m)) (Open 0);
  fixed = λ on m. unwrap_or (static_method group q on (n.method_ref m)) (Outer on m);
}

-- The names of a package at a place of a group, from those that it has by itself.
abbrev pub naming_in : (group : Loaded) → (q : ℕ) → Naming → Naming
naming_in group q n = named_by n (meant_in group q n)

-- The group has each class, static cell and method of another package that the package by itself can name.
pub record HasEach (alone group : Loaded) (q : ℕ) : Type 0 where
  pub classes : (k token : ℕ) (c : Class) → class_of alone 0 (Outside k token) ≡ Some c → (d : Class)
      × (class_of group q (Outside k token) ≡ Some d)
  pub cells : (k class token : ℕ) (s : StaticCell) → static_cell alone 0 (refs.Outside k class token) ≡ Some s
      → (t : StaticCell) × (static_cell group q (refs.Outside k class token) ≡ Some t)
  pub methods : (on : Bool) (k class token : ℕ) (m : Callee)
      → static_method alone 0 on (refs.Outside k class token) ≡ Some m → (c : Callee)
      × (static_method group q on (refs.Outside k class token) ≡ Some c)
