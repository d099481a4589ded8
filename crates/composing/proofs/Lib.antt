pub mod ElementRecords
pub mod ElementStores
pub mod StoreLaws
