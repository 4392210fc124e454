mod ChainSteps
mod LogSteps
mod SnapshotSteps
