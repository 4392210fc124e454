pub mod ChainReports
pub mod FrameReports
pub mod LineAnswers
pub mod Lines
pub mod LogReports
pub mod Names
pub mod Reports
pub mod SnapshotReports
