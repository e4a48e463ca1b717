pub mod MemberSpots
