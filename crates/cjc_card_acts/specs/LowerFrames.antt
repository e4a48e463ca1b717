-- What crates above take of cjc_frames.
pub use Rattle.cjc_frames.specs.Acts as Acts
pub use Rattle.cjc_frames.specs.Flow as Flow
pub use Rattle.cjc_frames.specs.Tables as Tables
pub use Rattle.cjc_frames.specs.Types as Types
pub use Rattle.cjc_frames.specs.Working as Working
pub use Rattle.cjc_frames.specs.declared as declared
