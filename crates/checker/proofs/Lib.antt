pub mod Keeping
pub mod Taking
pub mod Walking
pub mod Examining
pub mod Followed
pub mod Accepted
pub mod Told
