pub mod SignedOrder
