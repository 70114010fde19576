-- each step of an anchor sends the PDUs of what it keeps
pub mod Canonical
-- what a step of the past does to what is seen of it
pub mod Unseen
pub mod Seeing
-- packets to a leg host
pub mod Packets
-- a PDU stays that of its submission
pub mod Growing
-- and protects it
pub mod Protecting
-- and in each run
pub mod Runs
-- what an anchor sends
pub mod Owned
-- packets that bring no PDU to a leg host
pub mod Others
-- what a leg host sends
pub mod Hosts
-- what it sends by its front
pub mod Fronts
-- what each step of an anchor keeps of its entity
pub mod Entities
-- a new generation at a secondary node
pub mod Renewing
-- a step that leaves the downlinks where they are
pub mod Still
-- steps of the terminal, losses and copies
pub mod Elsewhere
