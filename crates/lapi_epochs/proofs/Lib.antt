pub mod EpochOrder
pub mod GatheredPieces
pub mod StagedBytes
pub mod SmallEpochs
