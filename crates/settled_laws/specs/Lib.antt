pub mod Deaths
