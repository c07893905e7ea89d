pub mod BitLaws
pub mod Covered
pub mod Flags
pub mod MemberLaws
pub mod SendLaws
