pub mod ArrivalLaws
pub mod FragmentLists
pub mod HeldFragments
pub mod LeastNumbers
pub mod SenderLaws
pub mod Unanswered
