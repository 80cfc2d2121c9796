pub mod Plans
pub mod Slots
pub mod Views
pub mod Rule
pub mod Steps
pub mod Following
pub mod Seats
pub mod private
