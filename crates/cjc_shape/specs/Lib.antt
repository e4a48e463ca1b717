pub mod Judged
pub mod Prepared
pub mod Whole
-- Definitions of lower crates, for those above.
pub mod Tokens
pub mod Flow
pub mod Components
pub mod Pool
pub mod LowerMethods
pub mod LowerExported
pub mod LowerJudge
pub mod LowerIntPackage
