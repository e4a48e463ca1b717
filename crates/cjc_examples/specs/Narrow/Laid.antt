-- What is written for the class files of a package, laid out in bytes one method behind the other, with the indices of
-- its own pool.
use Rattle.std.specs.Prelude.{ℕ, ◌+◌, List, [], ◌∷◌, length, map, flat_map, position, unwrap_or, false}
use Rattle.cjc_code.specs.ClassFile.declared.tree.ClassTree.{ClassTree}
use Rattle.cjc_capwrite.specs.CapRead.declared.tree.ClassRef.TheVariants.{Inside}
use Rattle.cjc_capwrite.specs.CapRead.declared.tree.StaticRef.TheVariants as refs
use Rattle.cjc_world.specs.Files.{Files}
use Rattle.cjc_components.specs.LowerJvmSemantics.OnePackage.{method_by}
use Rattle.cjc_components.specs.LowerCardSemantics.Machine.Loaded.{Loaded}
use Rattle.cjc_components.specs.LowerCardSemantics.Machine.Classes.{Own}
use Rattle.cjc_components.specs.LowerCardSemantics.Machine.Dispatch.{Open}
use Rattle.cjc_components.specs.LowerCardSemantics.Machine.Operations.{Outer}
use Rattle.cjc_components.specs.LowerNCode.declared.narrow.NMethod.{NMethod}
use Rattle.cjc_components.specs.LowerNCode.declared.narrow.PoolKey.{PoolKey}
use Rattle.cjc_components.specs.LowerNCode.PoolOrder.{pool_order, same_key}
use Rattle.cjc_components.specs.LowerNCode.Lowering.Naming.{Naming}
use Rattle.cjc_components.specs.LowerNCode.Lowering.Placed.{Placed, method_bytes, short_header}
use Rattle.cjc_examples.specs.Narrow.Both.{narrow}

-- the narrow code of a class, and of all classes
abbrev pub class_code : Files → ClassTree → List NMethod
class_code files c = map (λ m. narrow files (method_by c m m.code)) c.methods

-- the narrow code of all these classes, method by method
abbrev pub all_code : Files → List ClassTree → List NMethod
all_code files classes = flat_map (class_code files) classes

-- where a key stands in the order of the pool
abbrev pub index_in : List PoolKey → PoolKey → ℕ
index_in pool key = unwrap_or (position (same_key key) pool) 0

-- names by these indices; a method of an interface is its first
abbrev pub naming : Loaded → List PoolKey → Naming
naming loaded pool = record {
  loaded = loaded;
  part = 0;
  pool = [];
  index = index_in pool;
  class_ref = λ c. Inside 0;
  field_token = λ f. 0;
  field_ref = λ f. refs.Inside 0;
  virtual_token = λ m. 0;
  interface_token = λ m. 0;
  method_ref = λ m. refs.Inside 0;
  class = λ c. Own 0 0;
  cell = λ f. record { part = 0; offset = 0 };
  dispatch_token = λ m. Open 0;
  fixed = λ on m. Outer on m;
}

-- a method with a short header and no wide jump
abbrev pub short_at : (offset : ℕ) → NMethod → Placed
short_at offset m = record { method = m; wide = map (λ i. false) m.insns; offset = offset; header = short_header m }

-- methods one behind the other
abbrev pub placed_from : Naming → (offset : ℕ) → List NMethod → List Placed
placed_from n offset [] = []
placed_from n offset (m ∷ methods) = short_at offset m
    ∷ placed_from n (offset + length (method_bytes n (short_at offset m))) methods

-- the classes' methods by the indices of their own pool, from an offset on
abbrev pub named_for : Files → Loaded → List ClassTree → Naming
named_for files loaded classes = naming loaded (pool_order (all_code files classes))

-- the methods of these classes, one behind the other from an offset on
abbrev pub placed : Files → Loaded → List ClassTree → (offset : ℕ) → List Placed
placed files loaded classes offset = placed_from (named_for files loaded classes) offset (all_code files classes)
