pub mod Laid
pub mod Readers
pub mod Tests
