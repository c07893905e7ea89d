pub mod MessagePackets
pub mod Packets
pub mod Paying
pub mod PollSends
pub mod SenderLaws
pub mod TickLaws
