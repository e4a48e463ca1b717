-- Packages that were tested and break no rule, as members of a group, whichever of their methods are in int mode.
use Rattle.std.specs.Prelude.{ℕ, Bool, List}
use Rattle.cjc_code.specs.declared.method_code.MethodCode.{MethodCode}
use Rattle.cjc_jvm_semantics.specs.Linked.{Method}
use Rattle.cjc_int_alike.specs.Converted.{IsNarrowedByModes}
use Rattle.cjc_int_theorem.specs.Tabled.{AreTabledByModes}
use Rattle.cjc_joint_theorem.specs.Members.{Member}
use Rattle.cjc_joint_whole.specs.Whole.{AreWholeWith}

-- Each method of the package has its tables by its mode, and the package by itself was converted by the modes of its
-- methods: what its code and scripts name is found, and what its static image says is of sound types.
pub record IsCodedByModes (is_int : Method → Bool) (p : Member) (codes : List MethodCode) : Type 0 where
  pub narrowed : IsNarrowedByModes p.files p.image p.near p.tables is_int
  pub tabled : AreTabledByModes p.files codes p.tables is_int

-- such packages, over files of whose names each breaks no rule
abbrev pub AreWholeByModes : List Member → (modes : ℕ → Method → Bool) → Type 0
AreWholeByModes members modes = AreWholeWith (λ q p codes. IsCodedByModes (modes q) p codes) members
