pub mod Effects
