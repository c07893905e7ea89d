pub mod Record
pub mod Packet
pub mod Input
pub mod Output
pub mod Laws
pub mod Held
