pub mod DemandLaws
pub mod RoomLaws
