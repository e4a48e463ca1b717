use Rattle.std.proofs.Common.{◌≡◌, ◌++◌, drop, map}
use Rattle.cjc_components.specs.LowerNCode.Lowering.Naming.{entry_of}
use Rattle.cjc_components.specs.Package.{Package, pool, tokens}
use Rattle.cjc_components.specs.Names.{names}
use Rattle.cjc_classes.specs.ClassInfo.Refs.{AreRefs}
use Rattle.cjc_classes.specs.ClassInfo.Entries.{AreOffsets}
use Rattle.cjc_classes.specs.Entries.{key_cell, key_token}
use Rattle.cjc_classes.proofs.pool_entries.entries.pool_entries.Given as goal

abbrev pub invariant-loop-number : goal.invariant-loop-number
invariant-loop-number l =
    (p : Package) → p.files ≡ l.world → AreRefs p l.refs → AreOffsets p l.offsets → l.assigned ≡ tokens p
    → l.keys ≡ pool p → l.virtual_tokens ≡ map (key_token p) (pool p) → l.cells ≡ map (key_cell p) (pool p)
    → l.entries ++ map (entry_of (names p)) (drop l.number l.keys) ≡ map (entry_of (names p)) l.keys
