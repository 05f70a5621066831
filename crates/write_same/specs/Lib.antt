-- What a replay of a trace promises.
pub mod Replay
