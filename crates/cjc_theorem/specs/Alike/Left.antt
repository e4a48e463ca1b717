-- What is asked of the export files of a converted package, so that its components run as its narrow code.
use Rattle.cjc_components.specs.Package.{Package, world}
use Rattle.cjc_token_proof.specs.WrittenSends.Sends.{ExportsImplement, ExportsSend}

-- Their classes implement interfaces by public or protected methods, and they say of interfaces and of java/lang/Object
-- what
-- scripts rest on when they send.
pub record AreLeft (p : Package) : Type 0 where
  pub implement : ExportsImplement (world p)
  pub sends : ExportsSend p
