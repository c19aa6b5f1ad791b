pub mod Field
pub mod Opcode
pub mod Slot
pub mod Table
pub mod Decode
pub mod Encode
pub mod Agreement
pub mod Examples
