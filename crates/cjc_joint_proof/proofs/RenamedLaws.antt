-- Code of a package under other names of what stands on the card: the same bytes, which mean those.
use Rattle.std.proofs.Common.{◌≡◌, ℕ, refl, ap, ◌∙◌, sym, Bool, List, true, false}
use Rattle.std.specs.Prelude.{Option, Some, slice_get}
use Rattle.cjc_card_semantics.specs.Bytes.declared.fault.MemberId.{MemberId}
use Rattle.cjc_card_semantics.specs.Bytecode.Meanings.{Use}
use Rattle.cjc_card_semantics.specs.CapRead.declared.tree.PoolEntry.TheVariants as entries
use Rattle.cjc_card_semantics.specs.Machine.Loaded.{Import, Part}
use Rattle.cjc_token_proof.specs.NCode.Lowering.Handlers.{AllLie, Catches, any, every, more, none, one}
use Rattle.cjc_token_proof.specs.NCode.Lowering.Laid.{IsFormed, Tests, a_class, asks, bare, by_interface, casts}
use Rattle.cjc_token_proof.specs.NCode.Lowering.Laid.{increase, jump, local, lookup, named, new_array, numbers, push}
use Rattle.cjc_token_proof.specs.NCode.Lowering.Laid.{range, references, words}
use Rattle.cjc_token_proof.specs.NCode.Lowering.Naming.{Fit, Holds, IsClass, IsFixed, IsToken, Naming}
use Rattle.cjc_token_proof.specs.NCode.Lowering.Naming.{calls_special, calls_static, calls_super, calls_virtual, gets}
use Rattle.cjc_token_proof.specs.NCode.Lowering.Naming.{gets_static, makes, makes_references, puts, puts_static}
use Rattle.cjc_token_proof.specs.NCode.Lowering.Package.{AreConsecutive, HoldsMethods, IsWhole, next}
use Rattle.cjc_token_proof.specs.NCode.Lowering.Package as consecutive
use Rattle.cjc_token_proof.specs.NCode.Lowering.Placed.{IsLaidOut, Placed}
use Rattle.cjc_token_proof.specs.NCode.declared.narrow.NCatch.{NCatch}
use Rattle.cjc_token_proof.specs.NCode.declared.narrow.NInsn.{NInsn}
use Rattle.cjc_token_proof.specs.NCode.declared.narrow.NInsn.TheVariants as insns
use Rattle.cjc_token_proof.specs.NCode.declared.narrow.PoolKey.{PoolKey}
use Rattle.cjc_token_proof.specs.NCode.declared.narrow.PoolKey.TheVariants as keys
use Rattle.cjc_joint_proof.specs.Naming.{AreKept, IsKept, Meant, named_by}

module _ (n : Naming) (x : Meant) (is_class : (c : List ℕ) → IsClass n c → IsClass (named_by n x) c)
    (is_fixed : (on : Bool) (m : MemberId) → IsFixed n on m → IsFixed (named_by n x) on m)
    (is_token : (m : MemberId) → IsClass n m.class → IsToken n m → IsToken (named_by n x) m) where
  pub fits : (op : ℕ) {how : Use} {key : PoolKey} → IsKept n x (insns.Named op key) → Fit n how key
      → Fit (named_by n x) how key
  fits op kept (gets {f = f} c) = gets (is_class f.class c)
  fits op kept (puts {f = f} c) = puts (is_class f.class c)
  fits op kept (gets_static {f = f} c) = gets_static (kept.cell op f refl c)
  fits op kept (puts_static {f = f} c) = puts_static (kept.cell op f refl c)
  fits op kept (calls_virtual {m = m} c t) = calls_virtual (is_class m.class c) (is_token m c t)
  fits op kept (calls_super {m = m} c t) = calls_super (is_class m.class c) (is_token m c t)
  fits op kept (calls_special {m = m} f) = calls_special (is_fixed true m f)
  fits op kept (calls_static {m = m} f) = calls_static (is_fixed false m f)
  fits op kept (makes {c = c} e) = makes (is_class c e)
  fits op kept (makes_references {c = c} e) = makes_references (is_class c e)

  -- ---- code

  of_class : (c : List ℕ) → Holds n (keys.Class c) → Holds (named_by n x) (keys.Class c)
  of_class c e = record { there = e.there }

  holds : (op : ℕ) (key : PoolKey) → IsKept n x (insns.Named op key) → Holds n key → Holds (named_by n x) key
  holds op (keys.Class c) kept e = record { there = e.there }
  holds op (keys.Field f) kept e = record {
    there = e.there ∙ ap (λ t. Some (entries.InstanceFieldref (n.class_ref f.class) t)) (sym (kept.field op f refl));
  }
  holds op (keys.Virtual m) kept e = record { there = e.there }
  holds op (keys.Super m) kept e = record { there = e.there }
  holds op (keys.StaticField f) kept e = record { there = e.there }
  holds op (keys.StaticMethod m) kept e = record { there = e.there }

  tests : {kind : ℕ} {class : Option (List ℕ)} → Tests n kind class → Tests (named_by n x) kind class
  tests (a_class {c = c} e f) = a_class (of_class c e) (is_class c f)
  tests (numbers element) = numbers element
  tests (references {c = c} e f) = references (of_class c e) (is_class c f)

  pub formed : {insn : NInsn} → IsKept n x insn → IsFormed n insn → IsFormed (named_by n x) insn
  formed kept bare = bare
  formed kept (push e) = push e
  formed kept (local e) = local e
  formed kept (increase e) = increase e
  formed kept (words e) = words e
  formed kept (jump e f) = jump e f
  formed kept (range e) = range e
  formed kept (lookup e) = lookup e
  formed kept (named {op = op} {key = key} e k f) = named e (holds op key kept k) (fits op kept f)
  formed kept (by_interface {m = m} k c) = by_interface (of_class m.class k) (is_class m.class c)
  formed kept new_array = new_array
  formed kept (casts e t) = casts e (tests t)
  formed kept (asks e t) = asks e (tests t)

  catches : {class : Option (List ℕ)} → Catches n class → Catches (named_by n x) class
  catches any = any
  catches (one {c = c} e k f) = one e (of_class c k) (is_class c f)
  catches (every e f) = every e f

  all_lie : {count : ℕ} {cs : List NCatch} → AllLie n count cs → AllLie (named_by n x) count cs
  all_lie none = none
  all_lie (more a b c rest) = more a b (catches c) (all_lie rest)

  laid_out : (p : Placed) → AreKept n x p → IsLaidOut n p → IsLaidOut (named_by n x) p
  laid_out p kept e = record {
    forms = e.forms;
    formed = λ k insn at. formed (kept k insn at) (e.formed k insn at);
    spellable = e.spellable;
  }

  whole : (p : Placed) → AreKept n x p → IsWhole n p → IsWhole (named_by n x) p
  whole p kept e = record { header = e.header; code = laid_out p kept e.code; handlers = all_lie e.handlers }

  stand : {at : ℕ} {placed : List Placed} → AreConsecutive n at placed → AreConsecutive (named_by n x) at placed
  stand consecutive.none = consecutive.none
  stand (next e rest) = next e (stand rest)

  -- a package that has its components there holds there the methods that it holds
  pub code_holds : (imports : List Import) (part : Part) (placed : List Placed) → HoldsMethods n part placed
      → ((j : ℕ) (p : Placed) → slice_get placed j ≡ Some p → AreKept n x p)
      → (let l = x.loaded in slice_get l.parts x.part ≡ Some (record part { imports = imports }))
      → HoldsMethods (named_by n x) (record part { imports = imports }) placed
  code_holds imports part placed e kept at = record {
    there = at;
    pool = e.pool;
    bytes = e.bytes;
    table = e.table;
    consecutive = stand e.consecutive;
    whole = λ j p is. whole p (kept j p is) (e.whole j p is);
  }
