pub mod Answers
pub mod Courses
pub mod Deeds
pub mod Files
pub mod Places
pub mod Troubles
