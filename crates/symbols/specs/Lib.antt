-- What the code's symbols stand for; the symbol table in scratch words: packed names, and the live names that a table holds.
pub mod Trees
pub mod Packing
pub mod Table
pub mod Examples
pub mod Lookup
