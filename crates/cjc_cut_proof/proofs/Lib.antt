pub mod DecodeLaws
pub mod CutLaws
pub mod LandLaws
pub mod CardLaws
