pub mod ValueEquality
pub mod TyEquality
pub mod ValueOrder
pub mod EnumsEquality
pub mod Induction
