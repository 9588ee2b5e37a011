pub mod Reading
pub mod FourWords
