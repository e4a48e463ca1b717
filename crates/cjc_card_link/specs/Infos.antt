-- Infos of interfaces and classes, and what is kept so that each is found at once.
use Rattle.std.specs.Prelude.{◌≡◌, ◌<◌, ◌^◌, ℕ, List, ◌++◌, map}
use Rattle.cjc_card_semantics.specs.CapRead.declared.tree.ClassInfo.{ClassInfo}
use Rattle.cjc_check_index.specs.CheckRules.Complete.{class_info_size}
use Rattle.cjc_check_index.specs.CheckRules.Spots.{starts}
use Rattle.cjc_card_semantics.specs.Machine.Classes.{Info, IsInterface, IsClass, info_size, number_from}
use Rattle.cjc_card_link.specs.declared.indices.Numbers.{Numbers}
use Rattle.cjc_card_link.specs.declared.infos.Info.{Info as InfoData}
use Rattle.cjc_card_link.specs.declared.infos.Info.TheVariants as infos
use Rattle.cjc_card_link.specs.Indices.{number_under}

-- interfaces stand before classes
abbrev pub infos_in : ClassInfo → List Info
infos_in c = map IsInterface c.interfaces ++ map IsClass c.classes

-- an interface or a class
abbrev pub info_by : InfoData → Info
info_by (infos.IsInterface entry) = IsInterface entry.now
info_by (infos.IsClass entry) = IsClass entry.now

-- The offsets are where infos begin, and the numbers are those of infos by their offsets; 32 bits count the bytes.
pub record AreInfos (class : ClassInfo) (offsets : List ℕ) (numbers : Numbers) : Type 0 where
  pub begin : offsets ≡ starts info_size 2 (infos_in class)
  pub by_offset : (x : ℕ) → number_under numbers x ≡ number_from 2 (infos_in class) x
  pub small : class_info_size class < 2 ^ 32
