pub mod Ahead
pub mod RowLaws
pub mod RegionLaws
pub mod EndsLaws
pub mod MemberLaws
