pub mod Apps
pub mod Finding
pub mod Forms
pub mod Numbers
pub mod Reading
