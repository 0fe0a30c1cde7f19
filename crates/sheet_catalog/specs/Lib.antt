pub mod Meant
pub mod Lawfulness
pub mod StartsAt
pub mod Placed
pub mod Viewed
pub mod Combined
pub mod Sizes
