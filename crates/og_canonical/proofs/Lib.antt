pub mod ValueForms
pub mod TypeForms
pub mod ExprForms
pub mod GameForms
pub mod Optional
