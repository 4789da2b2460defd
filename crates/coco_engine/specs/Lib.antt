pub mod Files
pub mod Reading
pub mod Judged
pub mod Answers
