pub mod FieldLemmas
pub mod FormLemmas
pub mod Shorter
pub mod Arrays
