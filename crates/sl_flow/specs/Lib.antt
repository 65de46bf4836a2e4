pub mod Flow
pub mod Sample
pub mod InputText
pub mod Share
