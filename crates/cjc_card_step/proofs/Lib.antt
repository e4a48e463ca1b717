pub mod EffectsLaws
pub mod StepsLaws
