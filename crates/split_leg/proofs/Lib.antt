-- What several proofs share.
mod Firsts
mod OpenKeys
mod Outstanding
mod Acks
