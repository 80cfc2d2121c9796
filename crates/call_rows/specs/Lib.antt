pub mod CallRows
pub mod CallOrders
pub mod CallRowLaws
pub mod CallText
pub mod Keeping
pub mod Printing
pub mod private
