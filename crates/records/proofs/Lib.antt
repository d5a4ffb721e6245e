-- One record, then all of them; the steps standing; the demands, and what is refused.
pub mod Acting
pub mod Following
pub mod Standing
pub mod Replay
pub mod RecordDemands
pub mod RecordRefusals
