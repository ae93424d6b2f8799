pub mod Passes
pub mod Rooms
pub mod Queues
pub mod QueuesLaws
