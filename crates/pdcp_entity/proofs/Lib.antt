-- What several proofs share.
mod Ciphering
mod Payloads
mod Repeats
mod Sends
mod Confirmed
mod Receiving
mod Room
