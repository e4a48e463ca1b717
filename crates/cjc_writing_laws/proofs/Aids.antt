-- The AIDs of applets, by the grammar of lists.
use Rattle.std.proofs.Common.{◌≤◌, List, [], ◌∷◌, length, subst, sym}
use Rattle.std.specs.List.{AllByRecursion}
use Rattle.cjc_bytes.specs.Text.{TextLine}
use Rattle.cjc_bytes.specs.declared.settings.AppletLine.{AppletLine}
use Rattle.cjc_fitting_laws.proofs.Listed.{spelt}
use Rattle.cjc_fitting_laws.specs.LaidOut.{AidsAreShort}
use Rattle.cjc_judge.specs.Spelt.{IsRead}
use Rattle.cjc_list.specs.Listed.{ListTree}
use Rattle.cjc_list.specs.Spelling.{AllSay, applets_of}
use Rattle.cjc_list.specs.declared.line.Item.{Item}
use Rattle.cjc_list.specs.declared.line.Item.TheVariants.{Applet, File}

said_short : (items : List Item) (rest : List TextLine) → AllSay items rest → AllByRecursion (λ (a : AppletLine). length a.aid ≤ 16) (applets_of items)
said_short [] rest said = tt
said_short (Applet a ∷ items) [] said = absurd said
said_short (Applet a ∷ items) (l ∷ rest) said = (said.0.2.3.2, said_short items rest said.1)
said_short (File f ∷ items) [] said = absurd said
said_short (File f ∷ items) (l ∷ rest) said = said_short items rest said.1

pub aids_short : (list : ListTree) → IsRead list → AidsAreShort list
aids_short list read =
    let by = spelt list read in
    subst (λ (as : List AppletLine). AllByRecursion (λ (a : AppletLine). length a.aid ≤ 16) as) (sym by.applets) (said_short by.items read.2.0.1 by.says)
