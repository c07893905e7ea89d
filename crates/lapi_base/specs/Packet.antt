pub mod Format
pub mod Layout
pub mod Fields
pub mod Heads
pub mod Spelling
pub mod PacketBytes
