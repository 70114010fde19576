-- the worked row of merged journals
pub mod Worked
