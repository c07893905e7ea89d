pub mod AckTracks
pub mod ArrivingAcks
pub mod CoveredTags
pub mod OwedFlags
pub mod TimesLaws
pub mod UnfinishedAcks
pub mod UnfinishedLaws
