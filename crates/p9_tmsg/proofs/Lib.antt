pub mod CountingFrames
pub mod ByComputing
