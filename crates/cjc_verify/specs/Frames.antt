-- What crates above take of LowerFrames.
pub use Rattle.cjc_card_acts.specs.LowerFrames.Acts as Acts
pub use Rattle.cjc_card_acts.specs.LowerFrames.Flow as Flow
pub use Rattle.cjc_card_acts.specs.LowerFrames.Tables as Tables
pub use Rattle.cjc_card_acts.specs.LowerFrames.Working as Working
pub use Rattle.cjc_card_acts.specs.LowerFrames.declared as declared
