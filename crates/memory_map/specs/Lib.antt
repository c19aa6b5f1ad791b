-- What stands where in the map of an accepted program.
pub mod Laid
pub mod KnownProcedures
pub mod MapLaws
pub mod EmittedImage
