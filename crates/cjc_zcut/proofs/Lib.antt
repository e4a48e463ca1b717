pub mod Facts
pub mod DecodeLaws
pub mod CutLaws
pub mod LandLaws
pub mod CardLaws
pub mod BodyLaws
