pub mod TaskMemory
