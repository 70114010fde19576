-- how often status transfers stand on lines, and among sends
pub mod Counting
-- what an item of a plan makes of one bearer
pub mod Items
-- by the part of a node in an item
pub mod Parts
-- how the master stands to its bearers
pub mod States
-- what a plan makes of rows
pub mod Plans
-- by the kind of item
pub mod ItemKinds
-- what is kept as it goes on
pub mod TurnKeeps
pub mod Drawing
pub mod Going
pub mod Turning
-- the procedures, by turns
pub mod Begins
pub mod Ends
pub mod Taking
pub mod Commanding
-- a secondary node
pub mod SecondTakes
pub mod SecondLaws
pub mod TurnLines
pub mod PairFacts
pub mod Agreeing
pub mod SecondSteps
pub mod SecondTurning
-- all of it, as the master, a secondary node or the terminal takes an input
pub mod Whole
pub mod MasterSettling
pub mod MasterStepping
pub mod SecondAnswers
pub mod SecondSays
pub mod Acting
pub mod Events
pub mod Placing
-- in each run
pub mod Runs
