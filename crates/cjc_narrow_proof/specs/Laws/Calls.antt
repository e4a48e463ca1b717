-- When a call by an opcode fits the method that it names.
use Rattle.std.specs.Prelude.{◌≡◌, ◌==◌, ◌||◌, ℕ, true, false, List}
use Rattle.cjc_bytes.specs.AccessFlags.{is_static}
use Rattle.cjc_world.specs.Lookup.{is_selectable}
use Rattle.cjc_jvm_semantics.specs.OnePackage.{is_constructor, is_initialiser}
use Rattle.cjc_code.specs.Jvm as jvm

-- 182 is invokevirtual, 183 invokespecial, 184 invokestatic, 185 invokeinterface.
pub record CallFits (op : ℕ) (name : List ℕ) (flags : ℕ) : Type 0 where
  pub no_initialiser : is_initialiser name ≡ false
  pub no_constructor : (op == jvm.invokespecial) ≡ false → is_constructor name ≡ false
  pub of_class : (op == jvm.invokestatic) ≡ true → is_static flags ≡ true
  pub on_object : (op == jvm.invokestatic) ≡ false → is_static flags ≡ false
  pub selectable : (op == jvm.invokestatic) ≡ false → ((op == jvm.invokevirtual) || (op == jvm.invokeinterface)) ≡ true
      → is_selectable flags ≡ true
