-- Laws of results, names, items, limits, allocation and each form of declaration, of procedures and of programs.
pub mod ParseLaws
pub mod NameLaws
pub mod ScopeLaws
pub mod SectorLaws
pub mod AllocationLaws
pub mod LimitLaws
pub mod ListLaws
pub mod GlobalLaws
pub mod ArrayLaws
pub mod FrameLaws
pub mod ProcedureLaws
pub mod FormLaws
pub mod ProgramLaws
