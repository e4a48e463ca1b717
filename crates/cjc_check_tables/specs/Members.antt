pub mod MemberSpots
pub mod Working
