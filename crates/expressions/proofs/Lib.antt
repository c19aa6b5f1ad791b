-- Laws of expressions and conditions as the code compiles them.
pub mod VocabularyLaws
pub mod Compiles
pub mod Leaves
pub mod RelationLaws
pub mod OperatorLaws
pub mod ComparingLaws
pub mod UnaryLaws
pub mod Branches
pub mod Forms
