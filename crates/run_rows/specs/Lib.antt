pub mod Still
pub mod RunRows
pub mod Cycles
