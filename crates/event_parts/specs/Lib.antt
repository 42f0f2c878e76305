pub mod KeysLaws
pub mod Pairs
pub mod QueuesLaws
