pub mod Account
pub mod AccountLaws
pub mod AccountText
pub mod Ascending
pub mod Ordered
pub mod private
