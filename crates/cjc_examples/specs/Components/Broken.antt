-- Components of a package that `check` refuses, run by token: each method of p/T but the first three meets what is not
-- there.
use Rattle.std.specs.Prelude.{ℕ, List, [], ◌∷◌, map, codes}
use Rattle.cjc_capwrite.specs.CapRead.declared.tree.ClassRef.TheVariants.{Inside, Outside}
use Rattle.cjc_capwrite.specs.CapRead.declared.tree.StaticRef.TheVariants as refs
use Rattle.cjc_capwrite.specs.CapRead.declared.tree.PoolEntry.TheVariants.{Classref, InstanceFieldref}
use Rattle.cjc_capwrite.specs.CapRead.declared.tree.PoolEntry.TheVariants.{StaticFieldref, StaticMethodref}
use Rattle.cjc_capwrite.specs.CapRead.declared.tree.PoolEntry.TheVariants.{VirtualMethodref}
use Rattle.cjc_components.specs.LowerScript.declared.report.Outcome.{Outcome}
use Rattle.cjc_components.specs.LowerScript.declared.report.Outcome.TheVariants.{Stuck}
use Rattle.cjc_components.specs.LowerCardSemantics.Machine.Worked.{method_at, described, class_with, named, names}
use Rattle.cjc_components.specs.LowerCardSemantics.Machine.Worked.{alone}
use Rattle.cjc_components.specs.LowerCardSemantics.Machine.Worked.{script, call}
use Rattle.cjc_components.specs.LowerCardSemantics.Machine.Loaded.{OfFile, Part}
use Rattle.cjc_components.specs.LowerCardSemantics.Machine.ByToken.{run}

-- 1 a: gives 2
-- 5 v: virtual, gives 1
-- 9 w: abstract
-- 11 b: goes where nothing of the method stands
-- 15 c: a low match above the high one
-- 27 d: matches that do not ascend
-- 45 e: an array of no class
-- 53 f: a cell past the image
-- 59 g: a static field that is a class
-- 65 h: a static field that is an instance field
-- 71 i: an int of one word
-- 78 j: a field that the class has not
-- 86 k: a static method that is a class
-- 92 l: a method that java/lang/Object has not
-- 98 m: an abstract method
-- 107 n: a token past the table
-- 116 o: a token past the table, of null
-- 123 p: a virtual method that is static
-- 132 q: a virtual method by invokespecial
-- 141 r: an object of no class
-- 147 s: impdep1
-- 151 t: impdep2
-- 155 u: no opcode
-- 159 x: no opcode
-- 163 y: an operand that is cut by the end of the method
-- 166 z: past the end
-- 169 back: goes where nothing of the method stands, backwards
abbrev pub broken : Part
broken = record {
  method = record {
    handlers = [];
    methods = 0x02 ∷ 0x00 ∷ 0x05 ∷ 0x78 ∷ 0x01 ∷ 0x10 ∷ 0x04 ∷ 0x78 ∷ 0x40 ∷ 0x10 ∷ 0x00 ∷ 0x00 ∷ 0x70 ∷ 0x7F ∷ 0x01
        ∷ 0x00
        ∷ 0x04 ∷ 0x73 ∷ 0x00 ∷ 0x07 ∷ 0x00 ∷ 0x02 ∷ 0x00 ∷ 0x01 ∷ 0x04 ∷ 0x78 ∷ 0x01 ∷ 0x00 ∷ 0x04 ∷ 0x75 ∷ 0x00
        ∷ 0x0D ∷ 0x00 ∷ 0x02 ∷ 0x00 ∷ 0x05 ∷ 0x00 ∷ 0x0D ∷ 0x00 ∷ 0x05 ∷ 0x00 ∷ 0x0D ∷ 0x04 ∷ 0x78 ∷ 0x01 ∷ 0x00
        ∷ 0x04 ∷ 0x91 ∷ 0x00 ∷ 0x01 ∷ 0x3B ∷ 0x7A ∷ 0x01 ∷ 0x00 ∷ 0x7D ∷ 0x00 ∷ 0x02 ∷ 0x78 ∷ 0x01 ∷ 0x00 ∷ 0x7D
        ∷ 0x00 ∷ 0x00 ∷ 0x78 ∷ 0x01 ∷ 0x00 ∷ 0x7D ∷ 0x00 ∷ 0x01 ∷ 0x78 ∷ 0x01 ∷ 0x00 ∷ 0x04 ∷ 0x82 ∷ 0x00 ∷ 0x08
        ∷ 0x7A ∷ 0x01 ∷ 0x00 ∷ 0x8F ∷ 0x00 ∷ 0x00 ∷ 0x85 ∷ 0x01 ∷ 0x78 ∷ 0x01 ∷ 0x00 ∷ 0x8D ∷ 0x00 ∷ 0x00 ∷ 0x78
        ∷ 0x00 ∷ 0x00 ∷ 0x8D ∷ 0x00 ∷ 0x03 ∷ 0x7A ∷ 0x01 ∷ 0x00 ∷ 0x8F ∷ 0x00 ∷ 0x00 ∷ 0x8B ∷ 0x00 ∷ 0x07 ∷ 0x78
        ∷ 0x01 ∷ 0x00 ∷ 0x8F ∷ 0x00 ∷ 0x00 ∷ 0x8B ∷ 0x00 ∷ 0x04 ∷ 0x78 ∷ 0x01 ∷ 0x00 ∷ 0x01 ∷ 0x8B ∷ 0x00 ∷ 0x04
        ∷ 0x78 ∷ 0x01 ∷ 0x00 ∷ 0x8F ∷ 0x00 ∷ 0x00 ∷ 0x8B ∷ 0x00 ∷ 0x06 ∷ 0x78 ∷ 0x01 ∷ 0x00 ∷ 0x8F ∷ 0x00 ∷ 0x00
        ∷ 0x8C ∷ 0x00 ∷ 0x05 ∷ 0x78 ∷ 0x01 ∷ 0x00 ∷ 0x8F ∷ 0x00 ∷ 0x01 ∷ 0x77 ∷ 0x00 ∷ 0x00 ∷ 0xFE ∷ 0x7A ∷ 0x00
        ∷ 0x00 ∷ 0xFF ∷ 0x7A ∷ 0x00 ∷ 0x00 ∷ 0xB9 ∷ 0x7A ∷ 0x00 ∷ 0x00 ∷ 0xFD ∷ 0x7A ∷ 0x01 ∷ 0x00 ∷ 0x10 ∷ 0x00
        ∷ 0x00 ∷ 0x00 ∷ 0x00 ∷ 0x00 ∷ 0x70 ∷ 0x80 ∷ [];
  };
  pool = Classref (Inside 2) ∷ InstanceFieldref (Inside 2) 5 ∷ StaticFieldref (refs.Inside 13)
      ∷ StaticMethodref (refs.Outside 0 0 5) ∷ VirtualMethodref (Inside 2) 9 ∷ VirtualMethodref (Inside 2) 1
      ∷ StaticMethodref (refs.Inside 1) ∷ VirtualMethodref (Inside 2) 2 ∷ StaticFieldref (refs.Inside 0) ∷ [];
  class = record { interfaces = []; classes = class_with (Outside 0 0) 1 (5 ∷ 9 ∷ []) ∷ [] };
  descriptor = described 2 (method_at 0xFF 9 1 2 ∷ method_at 1 1 5 2 ∷ method_at 2 0x41 9 0 ∷ method_at 0xFF 9 11 2
      ∷ method_at 0xFF 9 15 10
      ∷ method_at 0xFF 9 27 16 ∷ method_at 0xFF 9 45 6 ∷ method_at 0xFF 9 53 4 ∷ method_at 0xFF 9 59 4
      ∷ method_at 0xFF 9 65 4 ∷ method_at 0xFF 9 71 5 ∷ method_at 0xFF 9 78 6 ∷ method_at 0xFF 9 86 4
      ∷ method_at 0xFF 9 92 4 ∷ method_at 0xFF 9 98 7 ∷ method_at 0xFF 9 107 7 ∷ method_at 0xFF 9 116 5
      ∷ method_at 0xFF 9 123 7 ∷ method_at 0xFF 9 132 7 ∷ method_at 0xFF 9 141 4 ∷ method_at 0xFF 9 147 2
      ∷ method_at 0xFF 9 151 2 ∷ method_at 0xFF 9 155 2 ∷ method_at 0xFF 9 159 2 ∷ method_at 0xFF 9 163 1
      ∷ method_at 0xFF 9 166 1 ∷ method_at 0xFF 9 169 2 ∷ []) ∷ [];
  exports = [];
  statics = record { image_size = 4; reference_count = 0; array_inits = []; default_value_count = 4; values = [] };
  imports = OfFile 0 ∷ [];
  classes = names (codes "p/T") (named (codes "a") (codes "()S") ∷ named (codes "v") (codes "()S") ∷ named (codes "w")
      (codes "()S")
      ∷ named (codes "b") (codes "()S") ∷ named (codes "c") (codes "()S") ∷ named (codes "d") (codes "()S")
      ∷ named (codes "e") (codes "()S") ∷ named (codes "f") (codes "()S") ∷ named (codes "g") (codes "()S")
      ∷ named (codes "h") (codes "()S") ∷ named (codes "i") (codes "()S") ∷ named (codes "j") (codes "()S")
      ∷ named (codes "k") (codes "()S") ∷ named (codes "l") (codes "()S") ∷ named (codes "m") (codes "()S")
      ∷ named (codes "n") (codes "()S") ∷ named (codes "o") (codes "()S") ∷ named (codes "p") (codes "()S")
      ∷ named (codes "q") (codes "()S") ∷ named (codes "r") (codes "()S") ∷ named (codes "s") (codes "()S")
      ∷ named (codes "t") (codes "()S") ∷ named (codes "u") (codes "()S") ∷ named (codes "x") (codes "()S")
      ∷ named (codes "y") (codes "()S") ∷ named (codes "z") (codes "()S") ∷ named (codes "back") (codes "()S")
      ∷ []) ∷ [];
  cells = [];
}

-- a method, and the offset at which the machine is stuck
abbrev pub rows : List (List ℕ × ℕ)
rows = (codes "b", 140) ∷ (codes "c", 18) ∷ (codes "d", 30) ∷ (codes "e", 48) ∷ (codes "f", 55)
    ∷ (codes "g", 61) ∷ (codes "h", 67) ∷ (codes "i", 74) ∷ (codes "j", 83) ∷ (codes "k", 88) ∷ (codes "l", 94)
    ∷ (codes "m", 103) ∷ (codes "n", 112) ∷ (codes "o", 119) ∷ (codes "p", 128) ∷ (codes "q", 137)
    ∷ (codes "r", 143) ∷ (codes "s", 149) ∷ (codes "t", 153) ∷ (codes "u", 157) ∷ (codes "x", 161)
    ∷ (codes "y", 165) ∷ (codes "z", 169) ∷ (codes "back", 43) ∷ []

-- how the call of a static method of p/T ends
abbrev pub outcome_of : (name : List ℕ) → Outcome
outcome_of name = (let r = run (alone broken) (script (call (codes "p/T") name (codes "()S") [] ∷ []) []) 100
    in r.outcome)

-- how the calls end
abbrev pub outcomes : List Outcome
outcomes = map (λ r. outcome_of r.0) rows

-- how they are to end
abbrev pub wanted : List Outcome
wanted = map (λ r. Stuck r.1) rows
