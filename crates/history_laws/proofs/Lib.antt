pub mod Entries
pub mod NeverTakenBack
pub mod SessionsKeepTheirOrder
pub mod LogsLeftPass
pub mod Logs
pub mod RequestsNameWhatAnswered
pub mod Laws
pub mod RequestsGoWhole
