pub mod RealLanes
pub mod Lent
