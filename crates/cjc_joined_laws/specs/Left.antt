-- What is left to show of a converted package, so that its components run as its narrow code.
use Rattle.cjc_components.specs.Package.{Package}
use Rattle.cjc_written_sends.specs.Named.{CallsAreNamed, InstructionsNameWhatIsThere}
use Rattle.cjc_written_sends.specs.Sends.{ExportsSend}

-- Its calls name what calls can name; what its instructions name is there; and its export files say of interfaces and of
-- java/lang/Object what scripts rest on when they send.
pub record AreLeft (p : Package) : Type 0 where
  pub calls : CallsAreNamed p
  pub names : InstructionsNameWhatIsThere p
  pub sends : ExportsSend p
