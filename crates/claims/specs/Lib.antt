pub mod ArrayDemand2
pub mod Demand2
pub mod Demand3
pub mod Figures
pub mod Travels
