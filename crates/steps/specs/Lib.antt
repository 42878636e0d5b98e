pub mod Decode
pub mod Names
pub mod Mined
pub mod Tests
pub mod Conduct
pub mod Forms
