pub mod Answered
pub mod Chart
pub mod ChartParts
pub mod Pcap
pub mod PcapParts
pub mod Progress
pub mod SinkWrites
pub mod Words
