-- lemmas, and tables by computing
pub mod Readable
mod Table0
mod Table1
mod Table2
mod Table3
mod TableKeys
mod TableRuns
